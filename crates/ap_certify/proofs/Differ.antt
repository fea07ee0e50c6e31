-- A pattern covers itself, so the two patterns of a refusal differ.
use Rattle.std.proofs.Common.{◌≡◌, ◌≢◌, ℕ, true, nat_eq, List, [], ◌∷◌, refl, ap, sym, ◌∙◌}
use Rattle.std.specs.List.{list_all}
use Rattle.std.proofs.lemmas.Bool.{false≢true, or_left, or_right, and_from, eq-eqb}
use Rattle.ap_term.specs.Goals.{Program}
use Rattle.ap_sharing.specs.VarSet.{within}
use Rattle.ap_sharing.specs.Sets.{listed}
use Rattle.ap_sharing.specs.Share.{Share, is_member}
use Rattle.ap_sharing.proofs.Elements.{within-made}
use Rattle.ap_absunify.specs.declared.states.State.{State}
use Rattle.ap_absunify.specs.declared.states.State.TheVariants.{Unreachable, Reachable}
use Rattle.ap_patterns.specs.declared.entries.Entries.{Entries}
use Rattle.ap_patterns.specs.Given.{Patterns}
use Rattle.ap_patterns.specs.Covered.{is_share_covered, is_covered}
use Rattle.ap_certify.specs.declared.faults.CertErr.TheVariants.{NotClosed}
use Rattle.ap_certify.specs.Refused.{IsRefusedBy}

pub within-itself : (s : ℕ) → within s s ≡ true
within-itself s = within-made s s (λ x h. h)

members : (sh : Share) (ss : List ℕ) → ((s : ℕ) → listed s ss ≡ true → listed s sh.sets ≡ true) → list_all (λ s. is_member s sh) ss ≡ true
members sh [] h = refl
members sh (t ∷ ts) h =
    and_from (is_member t sh) (list_all (λ s. is_member s sh) ts) (or_left (listed t sh.sets) (within t sh.any) (h t (or_left (nat_eq t t) (listed t ts) (eq-eqb t t refl))))
    (members sh ts (λ s k. h s (or_right (nat_eq s t) (listed s ts) k)))

covers-itself : (s : State) → is_covered s s ≡ true
covers-itself Unreachable = refl
covers-itself (Reachable sh fr) =
    and_from (is_share_covered sh sh) (within fr fr)
    (and_from (within sh.any sh.any) (list_all (λ s. is_member s sh) sh.sets) (within-itself sh.any) (members sh sh.sets (λ s k. k))) (within-itself fr)

pub differ : (E : Entries) (A : Program) (t : Patterns) (clause place : ℕ) (was now : State) → IsRefusedBy E A t (NotClosed clause place was now) → was ≢ now
differ E A t clause place was now r e =
    let g = r.0 in
    let same : g.pattern ≡ t g.slot = sym r.2 ∙ sym e ∙ r.1 in
    false≢true (sym r.3.uncovered ∙ ap (is_covered g.pattern) (sym same) ∙ covers-itself g.pattern)
