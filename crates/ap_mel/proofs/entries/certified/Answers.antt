use Rattle.ap_certify.specs.declared.certified.Scope.TheVariants.{Of}
use Rattle.ap_mel.proofs.Certifying.{same-given}
use Rattle.ap_mel.proofs.entries.certified.Goals as goal

pub new-requires : goal.new-requires
new-requires c = record { given = same-given c.args.annotated c.args.entries.now (Of c.in_ok-copy_entries.field-0) c.in_ok-copy_entries.ensures c.requires }
