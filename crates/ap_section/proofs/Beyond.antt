-- What is left behind an answer at which a section stands.
use Rattle.std.proofs.Common.{◌≡◌, ◌∙◌, ◌<◌, inl, inr, Bool, true, false, List, [], ◌∷◌, length, reverse, map, ap, sym, subst, refl, rules}
use Rattle.std.proofs.lemmas.Bool.{false≢true}
use Rattle.std.proofs.lemmas.List.{length-reverse, nil_from_length}
use Rattle.ap_term.specs.Tree.{Trees}
use Rattle.ap_tracked.specs.Tracked.{Tracked}
use Rattle.ap_instr.specs.Code.{Compiled}
use Rattle.ap_standing.specs.Holds.{Holds}
use Rattle.ap_frames.specs.declared.frame.Frame.{Frame}
use Rattle.ap_tie.specs.Sections.{Stack, bottom, parcall, machine_in}
use Rattle.ap_tie.specs.Tied.{IsAtAnswer}
use Rattle.ap_machine.specs.View.{Segment, IsFor}
use Rattle.ap_section.specs.declared.section.Section.{Section, out-Section}
use Rattle.ap_section.specs.Views.{view_of}
use Rattle.ap_section.specs.Ready.{shape_of, AreMatched, IsReady}
use Rattle.ap_section.specs.Ends.{HasNext, HasNothing}
use Rattle.ap_section.specs.Lending.{count_in}
use Rattle.ap_section.proofs.Levels.{stack_now, view_of-out}
use Rattle.ap_section.proofs.Parts.{ready-out}

abbrev has_frame : Stack → Bool
has_frame bottom = false
has_frame (parcall f q rd w qs st) = true

stack-stands : (code : Compiled) (gs : List Segment) (fs : List (Frame Section Trees)) → AreMatched code gs (map shape_of fs) → (fs ≡ [] → ⊥) → stack_now gs fs ≡ bottom → ⊥
stack-stands code gs [] h k e = k refl
stack-stands code [] (f ∷ fs) h k e = h
stack-stands code (g ∷ gs) (f ∷ fs) h k e = false≢true (sym (ap has_frame e))

no-frames : (gs : List Segment) → stack_now gs [] ≡ bottom
no-frames [] = refl
no-frames (g ∷ gs) = refl

reversed-length : {A : Type 0} (xs : List A) → reverse xs ≡ [] → length xs ≡ 0
reversed-length xs e = sym (length-reverse xs) ∙ ap length e

-- a frame is
pub next-frame : (code : Compiled) (s : Section) → 0 < count_in s → IsReady code s → HasNext code (view_of s)
next-frame code s n r =
    let v = (out-Section s).frames in
    let left : reverse v.items ≡ [] → ⊥ = λ e. let z = v.ok.0 ∙ reversed-length v.items e in search rules in
    subst (HasNext code) (sym (view_of-out s)) (inl (stack-stands code (out-Section s).search.older (reverse v.items) (ready-out code s r).0.1 left))

-- an alternative of its search is
pub next-point : (code : Compiled) (s : Section) → IsAtAnswer (machine_in (view_of s))
    → (IsAtAnswer (out-Section s).search.machine → (n : Tracked) (ns : List Tracked) → Holds code (out-Section s).search.machine (n ∷ ns) → ns ≡ [] → ⊥) → HasNext code (view_of s)
next-point code s at h = subst (HasNext code) (sym (view_of-out s)) (inr (h (subst IsAtAnswer (ap machine_in (view_of-out s)) at)))

-- neither is
pub nothing-next : (s : Section) → count_in s ≡ 0 → (out-Section s).search.machine.points ≡ [] → HasNothing (view_of s)
nothing-next s n h =
    let v = (out-Section s).frames in
    subst HasNothing (sym (view_of-out s)) (h, ap (λ xs. stack_now (out-Section s).search.older (reverse xs)) (nil_from_length v.items (sym v.ok.0 ∙ n)) ∙ no-frames (out-Section s).search.older)

-- its search is ready
pub search-ready : (code : Compiled) (s : Section) → IsReady code s → IsFor code (out-Section s).search
search-ready code s r = (ready-out code s r).0.0
