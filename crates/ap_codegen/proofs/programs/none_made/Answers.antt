use Rattle.std.proofs.Common.{rules}
use Rattle.ap_codegen.proofs.Keeping.{made_none}
use Rattle.ap_codegen.proofs.programs.none_made.Goals as goal

pub returns-clause-made : goal.returns-clause-made
returns-clause-made c t p = made_none t c.new.result.items c.new-2.result.items p (search rules) (search rules)
