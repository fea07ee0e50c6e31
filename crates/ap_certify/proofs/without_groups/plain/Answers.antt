use Rattle.std.proofs.Common.{◌≡◌, ap, sym, subst, ◌∙◌}
use Rattle.ap_term.specs.Goals.{Program}
use Rattle.ap_cge.specs.Stripped.{stripped}
use Rattle.ap_certify.specs.declared.certified.Scope.TheVariants.{Every}
use Rattle.ap_certify.specs.Certificate.{IsCertified}
use Rattle.ap_certify.proofs.NoGroups.{plain_given}
use Rattle.ap_certify.proofs.without_groups.plain.Goals as goal

pub new-requires-2 : goal.new-requires-2
new-requires-2 c =
    let e : c.new.result ≡ stripped c.args.program.now = c.new.ensures ∙ c.in_ok-stripped.ensures ∙ ap stripped c.in_ok-written.ensures in
    let P : Program → Type 0 = λ p. IsCertified (record { program = p; scope = Every }) in
    subst P (sym e) (record { given = plain_given c.args.program.now })
