-- Steps that pass over none, with their labels.
use Rattle.std.proofs.Common.{◌≡◌, true, List, [], ◌∷◌, refl, ap, ◌∙◌}
use Rattle.std.specs.List.{list_all}
use Rattle.std.proofs.lemmas.Bool.{false≢true, and_parts}
use Rattle.ap_codegen.specs.declared.steps.Step.{Step as Emitted}
use Rattle.ap_codegen.specs.declared.steps.Step.TheVariants.{Jump, CheckGround, CheckIndep, AllocParcall}
use Rattle.ap_codegen.specs.Emitted.{step_of, steps_of, lead_of, leads_of}
use Rattle.ap_codegen.specs.Grouped.{straight}
use Rattle.ap_codegen.proofs.Straight.{is_straight, Straight}

pub straight_leads : (es : List Emitted) → Straight (steps_of es) → leads_of es ≡ straight (steps_of es)
straight_leads [] s = refl
straight_leads (e ∷ es) s =
    let b = and_parts (is_straight (step_of e)) (list_all is_straight (steps_of es)) s in
    ap (λ l. l ∷ leads_of es) (one e b.0) ∙ ap (λ ls. (step_of e, 0) ∷ ls) (straight_leads es b.1)
  where
    one : (e : Emitted) → is_straight (step_of e) ≡ true → lead_of e ≡ (step_of e, 0)
    one (Jump n) k = absurd (false≢true k)
    one (CheckGround v n) k = absurd (false≢true k)
    one (CheckIndep v w n) k = absurd (false≢true k)
    one (AllocParcall m n) k = absurd (false≢true k)
    one _ k = refl
