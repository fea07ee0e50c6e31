-- Turns that lead past groups, one behind another.
use Rattle.std.proofs.Common.{◌≡◌, Bool, true, false, List, [], ◌∷◌, refl, sym, ◌∙◌}
use Rattle.ap_instr.specs.Code.{Compiled}
use Rattle.ap_machine.specs.View.{Paused, IsFor}
use Rattle.ap_machine.specs.Stands.{IsAtGroup}
use Rattle.ap_machine.specs.Forking.{HasGonePlain}
use Rattle.ap_machine.specs.Advanced.{Advanced}
use Rattle.ap_machine.specs.Past.{AdvancedPast}
use Rattle.ap_machine.proofs.Progress.{stopped, Advanced-then}

-- from one moment to another, past some groups where they aren't wanted
abbrev pub LeadsPast : Bool → Compiled → Paused → Paused → Type 0
LeadsPast wanted code s t = (past : List Paused) × (wanted ≡ true → past ≡ []) × AdvancedPast code s past t

pub past-none : (wanted : Bool) (code : Compiled) (s : Paused) → LeadsPast wanted code s s
past-none wanted code s = ([], λ w. refl, stopped code s)

pub past-then : (wanted : Bool) (code : Compiled) (r s t : Paused) → LeadsPast wanted code r s → Advanced code s t → LeadsPast wanted code r t
past-then wanted code r s t ([], none, h) k = ([], none, Advanced-then code r s t h k)
past-then wanted code r s t (g ∷ gs, none, h) k =
    let (for_g, here, u, gone, for_u, turned) = h.1 in
    (g ∷ gs, none, (h.0, (for_g, here, u, gone, for_u, Advanced-then code u s t turned k)))

pub past-group : (wanted : Bool) (code : Compiled) (r s t : Paused) → wanted ≡ false → LeadsPast wanted code r s → IsFor code s → IsAtGroup code s.machine → HasGonePlain code s t → IsFor code t → LeadsPast wanted code r t
past-group wanted code r s t unwanted (past, none, h) for_s here gone for_t =
    (s ∷ past, (λ w. absurd (let e : true ≡ false = sym w ∙ unwanted in cc)), (h, (for_s, here, t, gone, for_t, stopped code t)))
