-- What the searches in a section are ready for, one level at a time.
use Rattle.std.proofs.Common.{◌≡◌, ◌∙◌, ℕ, List, [], ◌∷◌, ◌++◌, reverse, map, ap, sym, subst, refl, Some, None, Option, Bool, false}
use Rattle.std.specs.List.{AllByRecursion}
use Rattle.std.proofs.lemmas.List.{length-map}
use Rattle.ap_term.specs.Tree.{Trees}
use Rattle.ap_term.proofs.Zips.{AllByRecursion-append}
use Rattle.ap_frames.specs.declared.frame.Frame.{Frame}
use Rattle.ap_frames.specs.declared.slots.Slot.{Slot}
use Rattle.ap_frames.specs.declared.slots.Stand.{Stand}
use Rattle.ap_frames.specs.declared.slots.Stand.TheVariants.{Ready, Waiting, Running, Answered, Replayed, Ended, GivenBack}
use Rattle.ap_frames.specs.declared.slots.Recording.TheVariants.{Growing}
use Rattle.ap_instr.specs.Code.{Compiled}
use Rattle.ap_section.specs.declared.section.Section.{Section, fold-roll-Section, fold_out-Section, roll-Section, out-Section}
use Rattle.ap_section.specs.declared.section.Section.TheOpen.{Section-F}
use Rattle.ap_section.specs.declared.section.Section.TheShapes.{former-Section-frames-at-17, former-Section-frames-at-19}
use Rattle.ap_section.specs.declared.section.Section.TheFolds.{map-Section}
use Rattle.ap_section.specs.Ready.{Part, shape_of, parts_at, parts_of_slots, parts_of_frames, parts_level, parts_of, IsReadyPart, IsShutPart, AreReady, IsReady}
use Rattle.ap_section.proofs.Levels.{reverse-map}

-- ---- one level

abbrev pub HeldReady : Compiled → Option Section → Type 0
HeldReady code None = Unit {0}
HeldReady code (Some s) = AllByRecursion (IsShutPart code) (parts_of s)

-- the section that a slot holds is ready
abbrev pub StandReady : Compiled → Stand Section → Type 0
StandReady code (Answered a) = HeldReady code a.section
StandReady code _ = Unit {0}

abbrev pub SlotsReady : Compiled → List (Slot Section Trees) → Type 0
SlotsReady code [] = Unit {0}
SlotsReady code (x ∷ xs) = StandReady code x.stand × SlotsReady code xs

abbrev pub FramesReady : Compiled → List (Frame Section Trees) → Type 0
FramesReady code [] = Unit {0}
FramesReady code (f ∷ fs) = SlotsReady code f.slots.items × FramesReady code fs

abbrev pub part_now : Section-F Section → Part
part_now s = record { search = s.search; frames = map shape_of (reverse s.frames.items) }

abbrev pub IsReadyNow : Compiled → Section-F Section → Type 0
IsReadyNow code s = IsReadyPart code (part_now s) × FramesReady code s.frames.items

-- ---- lists in a row

all-front : {A : Type 0} (P : A → Type 0) (xs ys : List A) → AllByRecursion P (xs ++ ys) → AllByRecursion P xs
all-front P [] ys hs = tt
all-front P (x ∷ xs) ys hs = (hs.0, all-front P xs ys hs.1)

all-back : {A : Type 0} (P : A → Type 0) (xs ys : List A) → AllByRecursion P (xs ++ ys) → AllByRecursion P ys
all-back P [] ys hs = hs
all-back P (x ∷ xs) ys hs = all-back P xs ys hs.1

-- ---- its parts are those of the level

abbrev frame_map : Frame Section Trees → Frame (List Part) Trees
frame_map f = (former-Section-frames-at-19).map Section (List Part) parts_of f

abbrev slot_map : Slot Section Trees → Slot (List Part) Trees
slot_map x = (former-Section-frames-at-17).map Section (List Part) parts_of x

abbrev stand_map : Stand Section → Stand (List Part)
stand_map y = (slot_map (record { stand = y; is_loud = false; recording = Growing; tuples = None; mark = None })).stand

abbrev AllShut : Compiled → List Part → Type 0
AllShut code ps = AllByRecursion (IsShutPart code) ps

held-into : (code : Compiled) (o : Option Section) (c : ℕ) (b : Bool) → AllShut code (parts_at (stand_map (Answered (record { section = o; cost = c; has_more = b })))) → HeldReady code o
held-into code None c b h = tt
held-into code (Some s) c b h = h

held-from : (code : Compiled) (o : Option Section) (c : ℕ) (b : Bool) → HeldReady code o → AllShut code (parts_at (stand_map (Answered (record { section = o; cost = c; has_more = b }))))
held-from code None c b h = tt
held-from code (Some s) c b h = h

stand-into : (code : Compiled) (y : Stand Section) → AllShut code (parts_at (stand_map y)) → StandReady code y
stand-into code Ready h = tt
stand-into code Waiting h = tt
stand-into code (Running r) h = tt
stand-into code (Answered a) h = held-into code a.section a.cost a.has_more h
stand-into code (Replayed k) h = tt
stand-into code (Ended e c) h = tt
stand-into code GivenBack h = tt

stand-from : (code : Compiled) (y : Stand Section) → StandReady code y → AllShut code (parts_at (stand_map y))
stand-from code Ready h = tt
stand-from code Waiting h = tt
stand-from code (Running r) h = tt
stand-from code (Answered a) h = held-from code a.section a.cost a.has_more h
stand-from code (Replayed k) h = tt
stand-from code (Ended e c) h = tt
stand-from code GivenBack h = tt

slots-into : (code : Compiled) (xs : List (Slot Section Trees)) → AllShut code (parts_of_slots (map slot_map xs)) → SlotsReady code xs
slots-into code [] h = tt
slots-into code (x ∷ xs) h =
    (stand-into code x.stand (all-front (IsShutPart code) (parts_at (stand_map x.stand)) (parts_of_slots (map slot_map xs)) h), slots-into code xs (all-back (IsShutPart code) (parts_at (stand_map x.stand)) (parts_of_slots (map slot_map xs)) h))

slots-from : (code : Compiled) (xs : List (Slot Section Trees)) → SlotsReady code xs → AllShut code (parts_of_slots (map slot_map xs))
slots-from code [] h = tt
slots-from code (x ∷ xs) h = AllByRecursion-append (IsShutPart code) (parts_at (stand_map x.stand)) (parts_of_slots (map slot_map xs)) (stand-from code x.stand h.0) (slots-from code xs h.1)

pub frames-into : (code : Compiled) (fs : List (Frame Section Trees)) → AllShut code (parts_of_frames (map frame_map fs)) → FramesReady code fs
frames-into code [] h = tt
frames-into code (f ∷ fs) h =
    (slots-into code f.slots.items (all-front (IsShutPart code) (parts_of_slots (map slot_map f.slots.items)) (parts_of_frames (map frame_map fs)) h), frames-into code fs (all-back (IsShutPart code) (parts_of_slots (map slot_map f.slots.items)) (parts_of_frames (map frame_map fs)) h))

pub frames-from : (code : Compiled) (fs : List (Frame Section Trees)) → FramesReady code fs → AllShut code (parts_of_frames (map frame_map fs))
frames-from code [] h = tt
frames-from code (f ∷ fs) h = AllByRecursion-append (IsShutPart code) (parts_of_slots (map slot_map f.slots.items)) (parts_of_frames (map frame_map fs)) (slots-from code f.slots.items h.0) (frames-from code fs h.1)

shape-map : (f : Frame Section Trees) → shape_of (frame_map f) ≡ shape_of f
shape-map f = ap (λ n. record { rest = f.rest; round = f.round; count = n }) (length-map f.slots.items slot_map)

shapes-map : (fs : List (Frame Section Trees)) → map shape_of (map frame_map fs) ≡ map shape_of fs
shapes-map [] = refl
shapes-map (f ∷ fs) = ap (λ a. a ∷ map shape_of (map frame_map fs)) (shape-map f) ∙ ap (λ bs. shape_of f ∷ bs) (shapes-map fs)

part-level : (s : Section-F Section) → parts_level (map-Section Section (List Part) parts_of s) ≡ part_now s ∷ parts_of_frames (map frame_map s.frames.items)
part-level s = ap (λ bs. record { search = s.search; frames = bs } ∷ parts_of_frames (map frame_map s.frames.items))
    (ap (map shape_of) (reverse-map frame_map s.frames.items) ∙ shapes-map (reverse s.frames.items))

pub parts-out : (s : Section) → parts_of s ≡ part_now (out-Section s) ∷ parts_of_frames (map frame_map (out-Section s).frames.items)
parts-out s = fold_out-Section (List Part) parts_level s ∙ part-level (out-Section s)

pub parts-roll : (s : Section-F Section) → parts_of (roll-Section s) ≡ part_now s ∷ parts_of_frames (map frame_map s.frames.items)
parts-roll s = fold-roll-Section (List Part) parts_level s ∙ part-level s

pub ready-out : (code : Compiled) (s : Section) → IsReady code s → IsReadyNow code (out-Section s)
ready-out code s h = let k = subst (AreReady code) (parts-out s) h in (k.0, frames-into code (out-Section s).frames.items k.1)

pub ready-roll : (code : Compiled) (s : Section-F Section) → IsReadyNow code s → IsReady code (roll-Section s)
ready-roll code s h = subst (AreReady code) (sym (parts-roll s)) (h.0, frames-from code s.frames.items h.1)

-- ---- a section that a slot holds

abbrev pub IsShutNow : Compiled → Section-F Section → Type 0
IsShutNow code s = IsShutPart code (part_now s) × FramesReady code s.frames.items

pub shut-out : (code : Compiled) (s : Section) → HeldReady code (Some s) → IsShutNow code (out-Section s)
shut-out code s h = let k = subst (AllShut code) (parts-out s) h in (k.0, frames-into code (out-Section s).frames.items k.1)

pub out-shut : (code : Compiled) (s : Section) → IsShutNow code (out-Section s) → HeldReady code (Some s)
out-shut code s h = subst (AllShut code) (sym (parts-out s)) (h.0, frames-from code (out-Section s).frames.items h.1)

pub shut-roll : (code : Compiled) (s : Section-F Section) → IsShutNow code s → HeldReady code (Some (roll-Section s))
shut-roll code s h = subst (AllShut code) (sym (parts-roll s)) (h.0, frames-from code s.frames.items h.1)

pub out-ready : (code : Compiled) (s : Section) → IsReadyNow code (out-Section s) → IsReady code s
out-ready code s h = subst (AreReady code) (sym (parts-out s)) (h.0, frames-from code (out-Section s).frames.items h.1)
