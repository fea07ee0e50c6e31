use Rattle.std.proofs.Common.{length, ap, ◌∙◌, sym}
use Rattle.std.proofs.lemmas.Bool.Decides.{Decides-eqb}
use Rattle.std.proofs.lemmas.List.{nil_from_length}
use Rattle.ap_term.specs.TermView.{tree_of}
use Rattle.ap_alike.proofs.Bare.{found-none}
use Rattle.ap_alike.proofs.likeness.is_bare.Goals as goal

pub returns : goal.returns
returns c = λ h.
    found-none (tree_of c.args.term.now)
    (sym c.in_ok-found.ensures ∙ nil_from_length c.in_ok-found.found.items (ap length (sym c.as_slice.ensures.value) ∙ (Decides-eqb (length c.as_slice.result.now) 0).0 h))
