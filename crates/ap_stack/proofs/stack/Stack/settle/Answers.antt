use Rattle.std.proofs.Common.{false, refl, sym, subst}
use Rattle.std.proofs.lemmas.Bool.{false≢true}
use Rattle.ap_section.specs.Views.{view_of}
use Rattle.ap_section.specs.Slots.{IsAtFrame}
use Rattle.ap_section.specs.Settles.{IsSettled}
use Rattle.ap_stack.specs.declared.stack.Stack.{Stack}
use Rattle.ap_stack.specs.Stacks.{code_in, section_in}
use Rattle.ap_stack.proofs.Counts.{stays-pays}
use Rattle.ap_stack.proofs.Moves.{moved-alone, goes-then}
use Rattle.ap_stack.proofs.stack.Stack.settle.Goals as goal

pub returns-in_err-settled-clause-goes : goal.returns-in_err-settled-clause-goes
returns-in_err-settled-clause-goes c =
    let p = c.args.post.now in
    let s = c.args.self.now in
    let code = code_in s in
    let good = c.requires.good in
    let t : Stack = record s { newest = c.settle.new.self; pool = c.settle.new.pool } in
    moved-alone p s t refl refl refl refl c.sharing_law.ensures good c.requires.none (c.settle.ensures.ready code good.ready) (λ h. c.in_err-settled.ensures.err.0) (c.settle.ensures.goes code good.ready) (stays-pays p s t refl refl (c.settle.ensures.owes code good.ready))

pub spent_all-requires-clause-good : goal.spent_all-requires-clause-good
spent_all-requires-clause-good c =
    let p = c.args.post.now in
    let s = c.args.self.now in
    let code = code_in s in
    let good = c.requires.good in
    let x = view_of c.settle.new.self in
    let t : Stack = record s { newest = c.settle.new.self; pool = c.settle.new.pool } in
    let settled = subst (IsSettled (section_in s) x) c.in-Spent.is c.in_ok-settled.ensures.settled in
    let at : IsAtFrame x = subst IsAtFrame (sym settled.1) (good.at_frame c.requires.tends) in
    (moved-alone p s t refl refl refl refl c.sharing_law.ensures good c.requires.none (c.settle.ensures.ready code good.ready) (λ h. at) (c.settle.ensures.goes code good.ready) (stays-pays p s t refl refl (c.settle.ensures.owes code good.ready))).good

pub redo_slot-requires-clause-good : goal.redo_slot-requires-clause-good
redo_slot-requires-clause-good c =
    let p = c.args.post.now in
    let s = c.args.self.now in
    let code = code_in s in
    let good = c.requires.good in
    let x = view_of c.settle.new.self in
    let t : Stack = record s { newest = c.settle.new.self; pool = c.settle.new.pool } in
    let settled = subst (IsSettled (section_in s) x) c.in-Redo.is c.in_ok-settled.ensures.settled in
    let at : IsAtFrame x = subst IsAtFrame (sym settled.0) (good.at_frame c.requires.tends) in
    (moved-alone p s t refl refl refl refl c.sharing_law.ensures good c.requires.none (c.settle.ensures.ready code good.ready) (λ h. at) (c.settle.ensures.goes code good.ready) (stays-pays p s t refl refl (c.settle.ensures.owes code good.ready))).good

pub returns-in-Open-clause-goes : goal.returns-in-Open-clause-goes
returns-in-Open-clause-goes c =
    let p = c.args.post.now in
    let s = c.args.self.now in
    let code = code_in s in
    let good = c.requires.good in
    let t : Stack = record s { newest = c.settle.new.self; tends = false; pool = c.settle.new.pool } in
    moved-alone p s t refl refl refl refl c.sharing_law.ensures good c.requires.none (c.settle.ensures.ready code good.ready) (λ h. absurd (false≢true h)) (c.settle.ensures.goes code good.ready) (stays-pays p s t refl refl (c.settle.ensures.owes code good.ready))

pub returns-in-Joined-clause-goes : goal.returns-in-Joined-clause-goes
returns-in-Joined-clause-goes c =
    let p = c.args.post.now in
    let s = c.args.self.now in
    let code = code_in s in
    let good = c.requires.good in
    let t : Stack = record s { newest = c.settle.new.self; tends = false; pool = c.settle.new.pool } in
    let u : Stack = record s { newest = c.drop_sections.new.self; tends = false; pool = c.drop_sections.new.pool } in
    let ready = c.settle.ensures.ready code good.ready in
    let first = moved-alone p s t refl refl refl refl c.sharing_law.ensures good c.requires.none ready (λ h. absurd (false≢true h)) (c.settle.ensures.goes code good.ready) (stays-pays p s t refl refl (c.settle.ensures.owes code good.ready)) in
    let second = moved-alone p t u refl refl refl refl c.sharing_law.ensures first.good c.requires.none (c.drop_sections.ensures.ready code ready) (λ h. absurd (false≢true h)) (c.drop_sections.ensures.goes code) (stays-pays p t u refl refl c.drop_sections.ensures.owes) in
    goes-then p p p s t u first second

pub returns-in-Spent-clause-goes : goal.returns-in-Spent-clause-goes
returns-in-Spent-clause-goes c =
    let p = c.args.post.now in
    let s = c.args.self.now in
    let code = code_in s in
    let good = c.requires.good in
    let x = view_of c.settle.new.self in
    let t : Stack = record s { newest = c.settle.new.self; pool = c.settle.new.pool } in
    let settled = subst (IsSettled (section_in s) x) c.in-Spent.is c.in_ok-settled.ensures.settled in
    let at : IsAtFrame x = subst IsAtFrame (sym settled.1) (good.at_frame c.requires.tends) in
    let first = moved-alone p s t refl refl refl refl c.sharing_law.ensures good c.requires.none (c.settle.ensures.ready code good.ready) (λ h. at) (c.settle.ensures.goes code good.ready) (stays-pays p s t refl refl (c.settle.ensures.owes code good.ready)) in
    goes-then p p p s t c.spent_all.new.self first c.spent_all.ensures.goes

pub returns-in_err-redo_slot-in-Redo-clause-goes : goal.returns-in_err-redo_slot-in-Redo-clause-goes
returns-in_err-redo_slot-in-Redo-clause-goes c =
    let p = c.args.post.now in
    let s = c.args.self.now in
    let code = code_in s in
    let good = c.requires.good in
    let x = view_of c.settle.new.self in
    let t : Stack = record s { newest = c.settle.new.self; pool = c.settle.new.pool } in
    let settled = subst (IsSettled (section_in s) x) c.in-Redo.is c.in_ok-settled.ensures.settled in
    let at : IsAtFrame x = subst IsAtFrame (sym settled.0) (good.at_frame c.requires.tends) in
    let first = moved-alone p s t refl refl refl refl c.sharing_law.ensures good c.requires.none (c.settle.ensures.ready code good.ready) (λ h. at) (c.settle.ensures.goes code good.ready) (stays-pays p s t refl refl (c.settle.ensures.owes code good.ready)) in
    goes-then p p c.redo_slot.new.post s t c.redo_slot.new.self first c.redo_slot.ensures.goes

pub returns-in_ok-redo_slot-in-Redo-clause-goes : goal.returns-in_ok-redo_slot-in-Redo-clause-goes
returns-in_ok-redo_slot-in-Redo-clause-goes c =
    let p = c.args.post.now in
    let s = c.args.self.now in
    let code = code_in s in
    let good = c.requires.good in
    let x = view_of c.settle.new.self in
    let t : Stack = record s { newest = c.settle.new.self; pool = c.settle.new.pool } in
    let settled = subst (IsSettled (section_in s) x) c.in-Redo.is c.in_ok-settled.ensures.settled in
    let at : IsAtFrame x = subst IsAtFrame (sym settled.0) (good.at_frame c.requires.tends) in
    let first = moved-alone p s t refl refl refl refl c.sharing_law.ensures good c.requires.none (c.settle.ensures.ready code good.ready) (λ h. at) (c.settle.ensures.goes code good.ready) (stays-pays p s t refl refl (c.settle.ensures.owes code good.ready)) in
    goes-then p p c.redo_slot.new.post s t c.redo_slot.new.self first c.redo_slot.ensures.goes
