-- Slots that hold no section.
use Rattle.std.proofs.Common.{◌≡◌, ◌∙◌, ℕ, zero, suc, ◌-◌, ◌<◌, Bool, true, false, ◌||◌, List, [], ◌∷◌, length, get_or, Option, Some, None, is_none, Result, Ok, Err, IfOk, ap, refl, sym, arith}
use Rattle.std.specs.Prelude.{IfNone}
use Rattle.std.specs.List.{list_any}
use Rattle.ap_term.specs.Tree.{Trees}
use Rattle.ap_frames.specs.declared.frame.Frame.{Frame}
use Rattle.ap_frames.specs.declared.slots.Slot.{Slot}
use Rattle.ap_frames.specs.declared.slots.Answer.{Answer}
use Rattle.ap_frames.specs.declared.slots.Stand.{Stand}
use Rattle.ap_frames.specs.declared.slots.Stand.TheVariants.{Ready, Waiting, Running, Answered, Replayed, Ended, GivenBack}
use Rattle.ap_frames.specs.Slots.{section_at}
use Rattle.ap_tie.specs.Sections.{rows}
use Rattle.ap_section.specs.declared.section.Section.{Section, out-Section}
use Rattle.ap_section.specs.Views.{view_of, row_of, bare, bare_section}
use Rattle.ap_section.specs.Lending.{count_in}
use Rattle.ap_section.specs.Slots.{IsAtFrame, slots_in}
use Rattle.ap_section.specs.Settles.{lacks_section}
use Rattle.ap_section.proofs.Newest.{top-at, slots-at}
use Rattle.ap_section.proofs.Shown.{any-shown}

-- ---- one slot

pub lacks-other : (x : Slot Section Trees) → ((a : Answer Section) → x.stand ≡ Answered a → ⊥) → lacks_section x ≡ true
lacks-other x h = go x.stand h
  where
    go : (y : Stand Section) → ((a : Answer Section) → y ≡ Answered a → ⊥) → is_none (section_at y) ≡ true
    go Ready h = refl
    go Waiting h = refl
    go (Running r) h = refl
    go (Answered a) h = absurd (h a refl)
    go (Replayed k) h = refl
    go (Ended e c) h = refl
    go GivenBack h = refl

pub lacks-none : (x : Slot Section Trees) (a : Answer Section) → x.stand ≡ Answered a → a.section ≡ None → lacks_section x ≡ true
lacks-none x a e n = ap (λ y. is_none (section_at y)) e ∙ ap is_none n

lacks-bare : (o : Option Section) → is_none (bare_section o) ≡ is_none o
lacks-bare None = refl
lacks-bare (Some s) = refl

lacks-stand : (y : Stand Section) → is_none (section_at (bare y)) ≡ is_none (section_at y)
lacks-stand Ready = refl
lacks-stand Waiting = refl
lacks-stand (Running r) = refl
lacks-stand (Answered a) = lacks-bare a.section
lacks-stand (Replayed k) = refl
lacks-stand (Ended e c) = refl
lacks-stand GivenBack = refl

lacks-row : (x : Slot Section Trees) → lacks_section (row_of x) ≡ lacks_section x
lacks-row x = lacks-stand x.stand

-- ---- a row of them

or-true : (a b : Bool) → b ≡ true → (a || b) ≡ true
or-true true b h = refl
or-true false b h = h

pub any-lacks : (xs : List (Slot Section Trees)) (i : ℕ) (x : Slot Section Trees) → i < length xs → x ≡ get_or xs i x → lacks_section x ≡ true → list_any lacks_section xs ≡ true
any-lacks [] i x h e t = absurd (omega (arith, h))
any-lacks (y ∷ xs) zero x h e t = ap (λ z. lacks_section z || list_any lacks_section xs) (sym e) ∙ ap (λ b. b || list_any lacks_section xs) t
any-lacks (y ∷ xs) (suc i) x h e t = or-true (lacks_section y) (list_any lacks_section xs) (any-lacks xs i x (omega (arith, h)) e t)

pub answers-none : {E V : Type 0} (s : Section) (n : ℕ) (f : Frame Section Trees) (xs : List (Slot Section Trees)) (r : Result (Option V) E) → n ≡ count_in s → IsAtFrame (view_of s)
    → f ≡ get_or (out-Section s).frames.items (n - 1) f → xs ≡ f.slots.items → IfOk r (λ found. IfNone found (list_any lacks_section xs ≡ true))
    → IfOk r (λ found. IfNone found (list_any lacks_section (rows (slots_in (view_of s))) ≡ true))
answers-none s n f xs (Err e) k at v d h = tt
answers-none s n f xs (Ok (Some ts)) k at v d h = tt
answers-none s n f xs (Ok None) k at v d h =
    ap (λ w. list_any lacks_section (rows w)) (slots-at s f (top-at s n f k at v) at) ∙ any-shown lacks_section lacks_section lacks-row f.slots.items ∙ ap (list_any lacks_section) (sym d) ∙ h
