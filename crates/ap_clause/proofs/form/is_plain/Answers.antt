use Rattle.std.proofs.Common.{◌∙◌, sym, map}
use Rattle.ap_reader.specs.Written.{leaf_of, meaning}
use Rattle.ap_clause.proofs.PlainNames.{plain_meaning}
use Rattle.ap_clause.proofs.form.is_plain.Goals as goal

pub returns-in-Some : goal.returns-in-Some
returns-in-Some c = λ h t e. plain_meaning c.in-Some.name.now (meaning (map leaf_of c.args.leaves.now) t) (sym c.is_plain_name.ensures ∙ h) (c.in-Some.ensures t e)
