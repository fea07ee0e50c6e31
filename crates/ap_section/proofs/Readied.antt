-- A section whose newest frame readies the slots behind a redone one.
use Rattle.std.proofs.Common.{◌≡◌, ◌∙◌, ℕ, ◌+◌, ◌-◌, Bool, true, false, if◌then◌else◌, nat_lt, List, [], ◌∷◌, length, reverse, ap, sym, subst, refl, get_or}
use Rattle.ap_term.specs.Tree.{Trees}
use Rattle.ap_instr.specs.Code.{Compiled}
use Rattle.ap_tie.specs.Sections.{section, parcall}
use Rattle.ap_frames.specs.declared.frame.Frame.{Frame}
use Rattle.ap_frames.specs.declared.slots.Slot.{Slot}
use Rattle.ap_frames.specs.declared.slots.Stand.{Stand}
use Rattle.ap_frames.specs.declared.slots.Stand.TheVariants.{Ready, Waiting, Running, Answered, Replayed, Ended, GivenBack}
use Rattle.ap_frames.specs.Rows.{row}
use Rattle.ap_frames.specs.Rounds.{numbered, behind, readied, readied_stand, restarted}
use Rattle.ap_frames.proofs.Numbered.{length-numbered}
use Rattle.ap_machine.specs.View.{Segment}
use Rattle.ap_section.specs.declared.section.Section.{Section, out-Section}
use Rattle.ap_section.specs.Views.{view_of}
use Rattle.ap_section.specs.Ready.{shape_of, IsReady}
use Rattle.ap_section.specs.Slots.{IsAtFrame, readied_in, readied_stack}
use Rattle.ap_section.specs.Lending.{count_in, with_newest}
use Rattle.ap_section.proofs.Levels.{slots_now, stack_now}
use Rattle.ap_section.proofs.Parts.{StandReady, SlotsReady}
use Rattle.ap_section.proofs.Newest.{Top, top-at, view-top, view-newest, ready-newest, put_at}
use Rattle.ap_section.proofs.Stood.{at-readied}
use Rattle.ap_section.proofs.Shown.{readied-shown}

stack-readied : (gs : List Segment) (fs : List (Frame Section Trees)) (f h : Frame Section Trees) (i : ℕ) → row h ≡ restarted i (row f) → stack_now gs (h ∷ fs) ≡ readied_stack i (stack_now gs (f ∷ fs))
stack-readied [] fs f h i e = refl
stack-readied (g ∷ gs) fs f h i e = ap (λ r. parcall g.forked r.rest r.round (slots_now r.slots) g.points (stack_now gs fs)) e
    ∙ ap (λ w. parcall g.forked f.rest f.round w g.points (stack_now gs fs)) (readied-shown i f.slots.items)

stand-readied : (code : Compiled) (y : Stand Section) → StandReady code y → StandReady code (readied_stand y)
stand-readied code Ready h = tt
stand-readied code Waiting h = tt
stand-readied code (Running r) h = tt
stand-readied code (Answered a) h = h
stand-readied code (Replayed k) h = tt
stand-readied code (Ended e c) h = tt
stand-readied code GivenBack h = tt

slot-ready : (code : Compiled) (b : Bool) (x : Slot Section Trees) → StandReady code x.stand → StandReady code (if b then readied x else x).stand
slot-ready code true x h = stand-readied code x.stand h
slot-ready code false x h = h

slots-ready : (code : Compiled) (i n : ℕ) (xs : List (Slot Section Trees)) → SlotsReady code xs → SlotsReady code (numbered (behind readied i) n xs)
slots-ready code i n [] h = tt
slots-ready code i n (x ∷ xs) h = (slot-ready code (nat_lt i n) x h.0, slots-ready code i (n + 1) xs h.1)

shape-readied : (f h : Frame Section Trees) (i : ℕ) → row h ≡ restarted i (row f) → shape_of h ≡ shape_of f
shape-readied f h i e = ap (λ r. record { rest = r.rest; round = r.round; count = length r.slots }) e ∙ ap (λ n. record { rest = f.rest; round = f.round; count = n }) (length-numbered (behind readied i) 1 f.slots.items)

-- the slots behind its i-th one are readied in the new one
pub record Restarted (s new : Section) (i : ℕ) : Type 0 where
  pub stands : view_of new ≡ readied_in i (view_of s)
  pub at_frame : IsAtFrame (view_of new)
  pub ready : (code : Compiled) → IsReady code s → IsReady code new

restarted-newest : (s : Section) (f h : Frame Section Trees) (i : ℕ) (t : Top s f) → IsAtFrame (view_of s) → row h ≡ restarted i (row f) → Restarted s (with_newest s h) i
restarted-newest s f h i t at e =
    let p = (out-Section s).search in
    let stands : view_of (with_newest s h) ≡ readied_in i (view_of s) =
    view-newest s f h t ∙ ap (λ st. section p.machine p.spent p.budget st) (stack-readied p.older (reverse t.before) f h i e) ∙ ap (readied_in i) (sym (view-top s f t)) in
    record {
      stands = stands;
      at_frame = subst IsAtFrame (sym stands) (at-readied i (view_of s) at);
      ready = λ code. ready-newest code s f h t (shape-readied f h i e) (λ xs. subst (λ r. SlotsReady code r.slots) (sym e) (slots-ready code i 1 f.slots.items xs));
    }

pub restarts : (s : Section) (n : ℕ) (f h : Frame Section Trees) (i : ℕ) → n ≡ count_in s → IsAtFrame (view_of s) → f ≡ get_or (out-Section s).frames.items (n - 1) f → row h ≡ restarted i (row f) → Restarted s (put_at s n h) i
restarts s n f h i e at v r = subst (λ k. Restarted s (put_at s k h) i) (sym e) (restarted-newest s f h i (top-at s n f e at v) at r)
