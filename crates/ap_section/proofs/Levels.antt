-- A section's view, one level at a time.
use Rattle.std.proofs.Common.{◌≡◌, ◌∙◌, ℕ, List, [], ◌∷◌, reverse, map, ap, refl, Some, None, Option, Bool, false}
use mathlib.Core.List.{reverse_aux}
use Rattle.ap_term.specs.Tree.{Trees}
use Rattle.ap_tie.specs.Sections as seen
use Rattle.ap_tie.specs.Sections.{Row, section, Slots, no_slot, slot, Held, nothing, held, Stack, bottom, parcall}
use Rattle.ap_frames.specs.declared.frame.Frame.{Frame}
use Rattle.ap_frames.specs.declared.slots.Slot.{Slot}
use Rattle.ap_frames.specs.declared.slots.Stand.{Stand}
use Rattle.ap_frames.specs.declared.slots.Stand.TheVariants.{Ready, Waiting, Running, Answered, Replayed, Ended, GivenBack}
use Rattle.ap_frames.specs.declared.slots.Recording.TheVariants.{Growing}
use Rattle.ap_machine.specs.View.{Segment, Paused}
use Rattle.ap_section.specs.declared.section.Section.{Section, fold-roll-Section, fold_out-Section, roll-Section, out-Section}
use Rattle.ap_section.specs.declared.section.Section.TheOpen.{Section-F}
use Rattle.ap_section.specs.declared.section.Section.TheShapes.{former-Section-frames-at-17, former-Section-frames-at-19}
use Rattle.ap_section.specs.declared.section.Section.TheFolds.{map-Section}
use Rattle.ap_section.specs.Views.{view_of, section_level, row_of, slots_of, stack_of, bare, held_by}

-- ---- slots and frames as they are

abbrev pub held_own : Option Section → Held
held_own None = nothing
held_own (Some s) = held (view_of s)

abbrev pub held_now : Stand Section → Held
held_now (Answered a) = held_own a.section
held_now _ = nothing

abbrev pub slots_now : List (Slot Section Trees) → Slots
slots_now [] = no_slot
slots_now (x ∷ xs) = slot (row_of x) (held_now x.stand) (slots_now xs)

abbrev pub stack_now : List Segment → List (Frame Section Trees) → Stack
stack_now [] fs = bottom
stack_now (g ∷ gs) [] = bottom
stack_now (g ∷ gs) (f ∷ fs) = parcall g.forked f.rest f.round (slots_now f.slots.items) g.points (stack_now gs fs)

abbrev pub seen_as : Paused → List (Frame Section Trees) → seen.Section
seen_as p fs = section p.machine p.spent p.budget (stack_now p.older fs)

-- ---- the view has the same

abbrev frame_map : Frame Section Trees → Frame seen.Section Trees
frame_map f = (former-Section-frames-at-19).map Section seen.Section view_of f

abbrev slot_map : Slot Section Trees → Slot seen.Section Trees
slot_map x = (former-Section-frames-at-17).map Section seen.Section view_of x

abbrev stand_map : Stand Section → Stand seen.Section
stand_map y = (slot_map (record { stand = y; is_loud = false; recording = Growing; tuples = None; mark = None })).stand

bare-answered : (o : Option Section) (c : ℕ) (b : Bool) → bare (stand_map (Answered (record { section = o; cost = c; has_more = b }))) ≡ bare (Answered (record { section = o; cost = c; has_more = b }))
bare-answered None c b = refl
bare-answered (Some s) c b = refl

bare-map : (y : Stand Section) → bare (stand_map y) ≡ bare y
bare-map Ready = refl
bare-map Waiting = refl
bare-map (Running r) = refl
bare-map (Answered a) = bare-answered a.section a.cost a.has_more
bare-map (Replayed k) = refl
bare-map (Ended e c) = refl
bare-map GivenBack = refl

held-answered : (o : Option Section) (c : ℕ) (b : Bool) → held_by (stand_map (Answered (record { section = o; cost = c; has_more = b }))) ≡ held_own o
held-answered None c b = refl
held-answered (Some s) c b = refl

held-stand : (y : Stand Section) → held_by (stand_map y) ≡ held_now y
held-stand Ready = refl
held-stand Waiting = refl
held-stand (Running r) = refl
held-stand (Answered a) = held-answered a.section a.cost a.has_more
held-stand (Replayed k) = refl
held-stand (Ended e c) = refl
held-stand GivenBack = refl

row-map : (x : Slot Section Trees) → row_of (slot_map x) ≡ row_of x
row-map x = ap (λ y. record { stand = y; is_loud = x.is_loud; recording = x.recording; tuples = x.tuples; mark = x.mark }) (bare-map x.stand)

held-map : (x : Slot Section Trees) → held_by (slot_map x).stand ≡ held_now x.stand
held-map x = held-stand x.stand

slots-map : (xs : List (Slot Section Trees)) → slots_of (map slot_map xs) ≡ slots_now xs
slots-map [] = refl
slots-map (x ∷ xs) = ap (λ r. slot r (held_by (slot_map x).stand) (slots_of (map slot_map xs))) (row-map x)
    ∙ ap (λ h. slot (row_of x) h (slots_of (map slot_map xs))) (held-map x) ∙ ap (λ w. slot (row_of x) (held_now x.stand) w) (slots-map xs)

stack-map : (gs : List Segment) (fs : List (Frame Section Trees)) → stack_of gs (map frame_map fs) ≡ stack_now gs fs
stack-map [] fs = refl
stack-map (g ∷ gs) [] = refl
stack-map (g ∷ gs) (f ∷ fs) = ap (λ w. parcall g.forked f.rest f.round w g.points (stack_of gs (map frame_map fs))) (slots-map f.slots.items)
    ∙ ap (λ st. parcall g.forked f.rest f.round (slots_now f.slots.items) g.points st) (stack-map gs fs)

reverse-map-onto : {A B : Type 0} (h : A → B) (xs ys : List A) → reverse_aux (map h xs) (map h ys) ≡ map h (reverse_aux xs ys)
reverse-map-onto h [] ys = refl
reverse-map-onto h (x ∷ xs) ys = reverse-map-onto h xs (x ∷ ys)

pub reverse-map : {A B : Type 0} (h : A → B) (xs : List A) → reverse (map h xs) ≡ map h (reverse xs)
reverse-map h xs = reverse-map-onto h xs []

level-now : (s : Section-F Section) → section_level (map-Section Section seen.Section view_of s) ≡ seen_as s.search (reverse s.frames.items)
level-now s = ap (λ fs. section s.search.machine s.search.spent s.search.budget (stack_of s.search.older fs)) (reverse-map frame_map s.frames.items)
    ∙ ap (λ st. section s.search.machine s.search.spent s.search.budget st) (stack-map s.search.older (reverse s.frames.items))

pub view_of-roll : (s : Section-F Section) → view_of (roll-Section s) ≡ seen_as s.search (reverse s.frames.items)
view_of-roll s = fold-roll-Section seen.Section section_level s ∙ level-now s

pub view_of-out : (s : Section) → view_of s ≡ seen_as (out-Section s).search (reverse (out-Section s).frames.items)
view_of-out s = fold_out-Section seen.Section section_level s ∙ level-now (out-Section s)
