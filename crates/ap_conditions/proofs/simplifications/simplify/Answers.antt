use Rattle.std.proofs.Common.{◌∙◌, ap, sym}
use Rattle.ap_conditions.specs.Simplified.{simplified}
use Rattle.ap_conditions.specs.declared.simplifications.Simplified.TheVariants.{Keep}
use Rattle.ap_conditions.proofs.Given.{unreachable-left}
use Rattle.ap_conditions.proofs.simplifications.simplify.Goals as goal

pub returns-in-Unreachable : goal.returns-in-Unreachable
returns-in-Unreachable c = ap Keep c.new.ensures ∙ sym (unreachable-left c.args.checks.now) ∙ ap (simplified c.args.checks.now) (sym c.in-Unreachable.is)
