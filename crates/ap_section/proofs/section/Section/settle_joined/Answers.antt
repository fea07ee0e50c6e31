use Rattle.std.proofs.Common.{rules, ◌≡◌, true, sym, subst}
use Rattle.std.specs.List.{list_any}
use Rattle.ap_tie.specs.Sections.{rows}
use Rattle.ap_section.specs.Settles.{lacks_section}
use Rattle.ap_tied.specs.Settling.{AreAnswersOf}
use Rattle.ap_section.specs.Views.{view_of}
use Rattle.ap_section.specs.Slots.{slots_in}
use Rattle.ap_section.specs.Closes.{IsRejoined}
use Rattle.ap_section.proofs.Outcomes.{no-memory, none-open, open-joined, no-memory-by, back-by, back-unmet, was-joined}
use Rattle.ap_section.proofs.section.Section.settle_joined.Goals as goal

pub returns-then-not-has_room : goal.returns-then-not-has_room
returns-then-not-has_room c = no-memory c.args.self.now (record {}) c.requires.at

pub returns-in_err-answers : goal.returns-in_err-answers
returns-in_err-answers c = no-memory-by c.args.self.now c.from_residual.result c.from_residual.ensures.0 c.requires.at

pub returns-in_default : goal.returns-in_default
returns-in_default c =
    let lacks : list_any lacks_section (rows (slots_in (view_of c.args.self.now))) ≡ true = search rules in
    none-open c.args.self.now (open-joined c.args.self.now c.args.cost c.requires.joined lacks)

pub returns-in_err-rejoin : goal.returns-in_err-rejoin
returns-in_err-rejoin c = back-by c.args.self.now c.rejoin.new.self c.from_residual-in_err-rejoin.result c.from_residual-in_err-rejoin.ensures.0 c.requires.at c.in_err-rejoin.ensures.back c.rejoin.ensures.nearly

pub returns-then-not-branch : goal.returns-then-not-branch
returns-then-not-branch c =
    let found : AreAnswersOf (slots_in (view_of c.args.self.now)) c.in-Some.answers.items = search rules in
    let ts = subst (AreAnswersOf (slots_in (view_of c.args.self.now))) (sym c.deref.ensures.value) found in
    back-unmet c.settling_law.ensures c.args.self.now c.rejoin.new.self c.args.cost c.deref.result.now c.requires.at c.requires.joined ts
    (subst (IsRejoined (view_of c.args.self.now) c.deref.result.now (view_of c.rejoin.new.self)) c.if-not-branch.true c.in_ok-rejoin.ensures.met) c.rejoin.ensures.nearly

pub returns : goal.returns
returns c =
    let found : AreAnswersOf (slots_in (view_of c.args.self.now)) c.in-Some.answers.items = search rules in
    let ts = subst (AreAnswersOf (slots_in (view_of c.args.self.now))) (sym c.deref.ensures.value) found in
    was-joined c.settling_law.ensures c.args.self.now c.rejoin.new.self c.charge.new.self c.close.new.self c.args.cost c.deref.result.now c.requires.at c.requires.joined ts
    (subst (IsRejoined (view_of c.args.self.now) c.deref.result.now (view_of c.rejoin.new.self)) c.if-not-branch.false c.in_ok-rejoin.ensures.met)
    c.charge.ensures.charged c.close.ensures.closed c.rejoin.ensures.nearly c.charge.ensures.nearly c.close.ensures.ready
