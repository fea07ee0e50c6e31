use Rattle.std.proofs.Common.{sym, subst}
use Rattle.ap_codecheck.specs.Tables.{IsExtentOf}
use Rattle.ap_codecheck.proofs.sound.Sound.beside.Goals as goal

pub invariant_of-result : goal.invariant_of-result
invariant_of-result c =
    let base = c.requires.kept.0 in
    let kept = c.requires.kept.2 in (
      c.requires.sound,
      c.in_ok-grow.ensures.tables,
      record {
        base = base;
        before = c.args.kept.tables;
        goes_on = c.requires.kept.1;
        extent = subst (IsExtentOf base) (sym c.mark-mark.ensures.extent) kept.extent;
        kept = kept.tables;
        back = c.in_ok-grow.ensures.back c.mark-mark.result c.mark-mark.ensures;
      },
    )
