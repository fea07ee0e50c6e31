use Rattle.std.proofs.Common.{◌≡◌, [], ◌∷◌, ◌++◌, Some, None, refl, sym, ◌∙◌, subst, arith}
use Rattle.std.specs.Prelude.{Option, MatchOption}
use Rattle.ap_post.specs.declared.job.Job.{Job}
use Rattle.ap_post.specs.Posts.{jobs_in}
use Rattle.ap_worker.specs.declared.worker.Worker.{Worker}
use Rattle.ap_worker.proofs.Helping.{on-ok, on-err, helps-same, helps-more, awaiting-some, no-memory-fits, no-memory-cause}
use Rattle.ap_worker.proofs.Staffed.{still-staffed, now-awaiting, given-back}
use Rattle.ap_worker.proofs.worker.Worker.take.Goals as goal

at-some : (found : Option Job) (j : Job) (P : Type 0) (Q : Job → Type 0) → found ≡ Some j → MatchOption found P Q → Q j
at-some found j P Q e h = subst (λ o. MatchOption o P Q) e h

at-none : (found : Option Job) (P : Type 0) (Q : Job → Type 0) → found ≡ None → MatchOption found P Q → P
at-none found P Q e h = subst (λ o. MatchOption o P Q) e h

pub returns-in_err-make_room : goal.returns-in_err-make_room
returns-in_err-make_room c =
    let made = c.make_room.ensures in
    let u = c.make_room.new.self in
    record { goes = helps-same c.args.self.now u u made.same.0 made.same.1 refl refl made.floor (λ f. refl) (omega arith) made.staffed }

pub returns-in_err-job : goal.returns-in_err-job
returns-in_err-job c =
    let made = c.make_room.ensures in
    let u = c.make_room.new.self in
    let x : Worker = record u { post = c.take.new.self } in
    let taken = c.in_err-job.ensures in
    let next = taken.next in
    record { goes = helps-same c.args.self.now u x made.same.0 made.same.1 refl refl made.floor taken.posted (omega arith) (still-staffed u x refl refl taken.posted (omega arith) taken.err made.staffed) }

pub returns-in_default : goal.returns-in_default
returns-in_default c =
    let made = c.make_room.ensures in
    let u = c.make_room.new.self in
    let x : Worker = record u { post = c.take.new.self } in
    let taken = c.in_ok-job.ensures in
    let next = taken.next in
    let none = at-none _ _ _ c.in_default.is taken.told in
    record { goes = helps-same c.args.self.now u x made.same.0 made.same.1 refl refl made.floor taken.posted (omega arith) (still-staffed u x refl refl taken.posted (omega arith) none made.staffed) }

pub start-requires-clause-awaits : goal.start-requires-clause-awaits
start-requires-clause-awaits c =
    let u = c.make_room.new.self in
    let x : Worker = record u { post = c.take.new.self } in
    let taken = c.in_ok-job.ensures in
    let next = taken.next in
    now-awaiting u x c.in-Some.job refl refl taken.posted (omega arith) (at-some _ c.in-Some.job _ (λ j. jobs_in x.post ≡ jobs_in u.post ++ Some j ∷ []) c.in-Some.is taken.told) c.make_room.ensures.staffed

pub finish-requires-clause-some : goal.finish-requires-clause-some
finish-requires-clause-some c =
    awaiting-some c.start.new.self c.in-Some.job (on-err c.start.result _ (sym c.is_err.ensures.value ∙ c.if-is_err.true) c.start.ensures.awaits).0

pub finish-requires-clause-fits : goal.finish-requires-clause-fits
finish-requires-clause-fits c = λ js j e. no-memory-fits c.none.result j c.none.ensures

pub finish-requires-clause-cause : goal.finish-requires-clause-cause
finish-requires-clause-cause c = no-memory-cause c.none.result _ _ c.none.ensures

pub returns-then-is_err : goal.returns-then-is_err
returns-then-is_err c =
    let made = c.make_room.ensures in
    let v = c.args.self.now in
    let u = c.make_room.new.self in
    let w = c.start.new.self in
    let x : Worker = record w { post = c.finish.new.self } in
    let p = c.take.new.self in
    let taken = c.in_ok-job.ensures in
    let begun = c.start.ensures in
    let gone = c.finish.ensures in
    let awaits = on-err c.start.result _ (sym c.is_err.ensures.value ∙ c.if-is_err.true) begun.awaits in
    let first = taken.next in
    let second = begun.next in
    let third = gone.next in
    record {
      goes = helps-same v u x made.same.0 made.same.1 awaits.1 begun.floor made.floor (λ f. gone.posted f ∙ begun.posted f ∙ taken.posted f) (omega arith)
          (given-back w x c.in-Some.job gone.jobs.0 refl refl gone.posted (omega arith) gone.jobs.1 awaits.0);
    }

pub returns : goal.returns
returns c =
    let made = c.make_room.ensures in
    let v = c.args.self.now in
    let u = c.make_room.new.self in
    let x = c.start.new.self in
    let taken = c.in_ok-job.ensures in
    let begun = c.start.ensures in
    let first = taken.next in
    let second = begun.next in
    record {
      goes = helps-more v u x made.same.0 c.in_ok-make_room.ensures.risen begun.floor made.floor (λ f. begun.posted f ∙ taken.posted f) (omega arith)
          (on-ok c.start.result _ (sym c.is_err.ensures.value ∙ c.if-is_err.false) begun.staffed);
    }
