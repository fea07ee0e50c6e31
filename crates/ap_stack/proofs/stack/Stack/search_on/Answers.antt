use Rattle.std.proofs.Common.{true, refl, sym, ◌∙◌, subst}
use Rattle.std.proofs.lemmas.Bool.{false≢true}
use Rattle.ap_section.specs.Views.{view_of}
use Rattle.ap_section.specs.Ends.{Ends}
use Rattle.ap_stack.specs.declared.stack.Stack.{Stack}
use Rattle.ap_stack.specs.Stacks.{code_in, section_in}
use Rattle.ap_stack.proofs.Waiting.{at-frame}
use Rattle.ap_stack.proofs.Counts.{went-pays}
use Rattle.ap_stack.proofs.Moves.{moved-alone, goes-then}
use Rattle.ap_stack.proofs.stack.Stack.search_on.Goals as goal

pub returns-in_err-turn-clause-goes : goal.returns-in_err-turn-clause-goes
returns-in_err-turn-clause-goes c =
    let p = c.args.post.now in
    let s = c.args.self.now in
    let good = c.requires.good in
    let t : Stack = record s { newest = c.advance.new.self; share = c.advance.new.share; pool = c.advance.new.pool } in
    moved-alone p s t refl refl refl refl c.sharing_law.ensures good (good.none_out c.requires.runs) c.advance.ensures.ready (λ h. absurd (false≢true (sym c.requires.runs ∙ h))) c.advance.ensures.goes
    (went-pays p s t refl c.advance.ensures.budget c.advance.ensures.owes c.advance.ensures.share)

pub returns-in-Answer-clause-goes : goal.returns-in-Answer-clause-goes
returns-in-Answer-clause-goes c =
    let p = c.args.post.now in
    let s = c.args.self.now in
    let good = c.requires.good in
    let t : Stack = record s { newest = c.advance.new.self; share = c.advance.new.share; pool = c.advance.new.pool } in
    let first = moved-alone p s t refl refl refl refl c.sharing_law.ensures good (good.none_out c.requires.runs) c.advance.ensures.ready (λ h. absurd (false≢true (sym c.requires.runs ∙ h))) c.advance.ensures.goes
    (went-pays p s t refl c.advance.ensures.budget c.advance.ensures.owes c.advance.ensures.share) in
    goes-then p p p s t c.answered.new.self first c.answered.ensures.goes

pub returns-in-Failed-clause-goes : goal.returns-in-Failed-clause-goes
returns-in-Failed-clause-goes c =
    let p = c.args.post.now in
    let s = c.args.self.now in
    let good = c.requires.good in
    let t : Stack = record s { newest = c.advance.new.self; share = c.advance.new.share; pool = c.advance.new.pool } in
    let first = moved-alone p s t refl refl refl refl c.sharing_law.ensures good (good.none_out c.requires.runs) c.advance.ensures.ready (λ h. absurd (false≢true (sym c.requires.runs ∙ h))) c.advance.ensures.goes
    (went-pays p s t refl c.advance.ensures.budget c.advance.ensures.owes c.advance.ensures.share) in
    goes-then p p p s t c.failed.new.self first c.failed.ensures.goes

pub returns-in-Spent-clause-goes : goal.returns-in-Spent-clause-goes
returns-in-Spent-clause-goes c =
    let p = c.args.post.now in
    let s = c.args.self.now in
    let good = c.requires.good in
    let t : Stack = record s { newest = c.advance.new.self; share = c.advance.new.share; pool = c.advance.new.pool } in
    let first = moved-alone p s t refl refl refl refl c.sharing_law.ensures good (good.none_out c.requires.runs) c.advance.ensures.ready (λ h. absurd (false≢true (sym c.requires.runs ∙ h))) c.advance.ensures.goes
    (went-pays p s t refl c.advance.ensures.budget c.advance.ensures.owes c.advance.ensures.share) in
    goes-then p p p s t c.spent_all.new.self first c.spent_all.ensures.goes

pub returns-in-More-clause-goes : goal.returns-in-More-clause-goes
returns-in-More-clause-goes c =
    let p = c.args.post.now in
    let s = c.args.self.now in
    let good = c.requires.good in
    let t : Stack = record s { newest = c.advance.new.self; share = c.advance.new.share; pool = c.advance.new.pool } in
    moved-alone p s t refl refl refl refl c.sharing_law.ensures good (good.none_out c.requires.runs) c.advance.ensures.ready (λ h. absurd (false≢true (sym c.requires.runs ∙ h))) c.advance.ensures.goes
    (went-pays p s t refl c.advance.ensures.budget c.advance.ensures.owes c.advance.ensures.share)

pub returns-in-Fork-clause-goes : goal.returns-in-Fork-clause-goes
returns-in-Fork-clause-goes c =
    let p = c.args.post.now in
    let s = c.args.self.now in
    let good = c.requires.good in
    let x = view_of c.advance.new.self in
    let t : Stack = record s { newest = c.advance.new.self; share = c.advance.new.share; pool = c.advance.new.pool; tends = true } in
    let at = at-frame (code_in s) 0 (section_in s) x (subst (Ends (code_in s) _ (section_in s) x) c.in-Fork.is c.in_ok-turn.ensures.end) in
    moved-alone p s t refl refl refl refl c.sharing_law.ensures good (good.none_out c.requires.runs) c.advance.ensures.ready (λ h. at) c.advance.ensures.goes
    (went-pays p s t refl c.advance.ensures.budget c.advance.ensures.owes c.advance.ensures.share)
