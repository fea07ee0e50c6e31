use Rattle.std.proofs.Common.{◌≡◌, [], slice_get, Ok, Err, refl, sym, ◌∙◌, subst, arith}
use Rattle.std.specs.Prelude.{List, Result, OnErr}
use Rattle.ap_term.specs.Tree.{count_trees}
use Rattle.ap_section.specs.Ends.{Begins}
use Rattle.ap_section.specs.Views.{view_of}
use Rattle.ap_post.specs.Posts.{posted_in}
use Rattle.ap_worker.specs.declared.taken.Taken.{Taken}
use Rattle.ap_worker.specs.declared.worker.Worker.{Worker}
use Rattle.ap_worker.proofs.Begun.{known-arity, begun-taken}
use Rattle.ap_worker.proofs.Staffed.{now-begun, still-awaiting}
use Rattle.ap_worker.proofs.worker.Worker.start.Goals as goal

kept-on-err : {T E : Type 0} (r : Result T E) (P : Type 0) → P → OnErr r P
kept-on-err (Ok x) P h = tt
kept-on-err (Err e) P h = h

pub start-requires : goal.start-requires
start-requires c =
    let j = c.args.job.now in
    known-arity (slice_get j.sound.now.predicates j.predicate) (count_trees j.tuple) j.known

pub returns-in_err-frame-clause-awaits : goal.returns-in_err-frame-clause-awaits
returns-in_err-frame-clause-awaits c =
    let v = c.args.self.now in
    let x : Worker = record v { post = c.number.new.self } in
    let number = c.in_err-frame.ensures in
    let next = number.err in
    let same = still-awaiting v x c.args.job.now refl refl number.posted (omega arith) number.jobs.jobs c.requires.awaits in
    kept-on-err c.from_residual-in_err-frame.result _ (same, refl {A = List Taken})

pub returns-clause-staffed : goal.returns-clause-staffed
returns-clause-staffed c =
    let v = c.args.self.now in
    let j = c.args.job.now in
    let p = c.number.new.self in
    let s = c.new-stack.result in
    let t : Taken = record { stack = s; place = j.place } in
    let x : Worker = record v { post = p; taken = c.push_reserved.new.self } in
    let number = c.in_ok-frame.ensures in
    let made = c.new-stack.ensures in
    let counts = number.number in
    let is = counts.0 in
    let up = counts.1 in
    let begins = subst (λ z. Begins j.sound.now j.tuple j.predicate j.rest (view_of z)) (sym made.newest) c.in_ok-section.ensures.begins in
    let none = subst (λ f. posted_in p f ≡ []) (sym made.number.1) number.none in
    let good = made.good p c.in_ok-section.ensures.ready number.none (omega arith) in
    let one = begun-taken c.outcome_law.ensures p s j made.sound made.alone j.goal begins none good in
    now-begun v x j t c.push_reserved.ensures.items refl number.posted number.jobs.jobs up (made.number.0 ∙ is) one c.requires.awaits
