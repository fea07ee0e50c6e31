use Rattle.std.proofs.Common.{sym, subst}
use Rattle.ap_group.specs.Gathers.{begins}
use Rattle.ap_group.specs.Turns.{ChecksTo}
use Rattle.ap_group.proofs.Checks.{past, to-goals}
use Rattle.ap_group.proofs.checking.check_all.Goals as goal

pub loop-place-init : goal.loop-place-init
loop-place-init c = record { passes = begins }

pub returns-in-Begins : goal.returns-in-Begins
returns-in-Begins c =
    let a = c.args in
    let begins = subst (ChecksTo c.in-Some.instr a.cells.now.cells a.x.now a.y.now) c.in-Begins.is c.in_ok-ask.ensures in
    to-goals a.cells.now.cells a.x.now a.y.now c.requires.holds_x c.requires.holds_y a.code.now a.at c.loop-place.place c.in-Some.instr (sym c.in-Some.ensures) c.loop-place.invariant.passes c.in-Begins.count begins.0 begins.1

pub loop-place-preserved : goal.loop-place-preserved
loop-place-preserved c =
    let a = c.args in
    record {
      passes =
          past a.cells.now.cells a.x.now a.y.now c.requires.holds_x c.requires.holds_y a.code.now a.at c.loop-place.place c.in-Some.instr (sym c.in-Some.ensures) c.loop-place.invariant.passes
          (subst (ChecksTo c.in-Some.instr a.cells.now.cells a.x.now a.y.now) c.in-Holds.is c.in_ok-ask.ensures);
    }

pub returns-in-Fails : goal.returns-in-Fails
returns-in-Fails c =
    let a = c.args in
    let d = subst (ChecksTo c.in-Some.instr a.cells.now.cells a.x.now a.y.now) c.in-Fails.is c.in_ok-ask.ensures in (
      record {
        from = c.loop-place.place;
        check = c.in-Some.instr;
        stands = sym c.in-Some.ensures;
        leads = d.0;
        passes = c.loop-place.invariant.passes;
        comes = c.comes_to_group.ensures c.if-comes_to_group.true;
      },
      d.1,
    )
