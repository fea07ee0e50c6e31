-- Slots by their places, and what becomes of one of them.
use Rattle.std.proofs.Common.{◌≡◌, ℕ, zero, suc, ◌-◌, ◌<◌, true, false, List, [], ◌∷◌, Option, Some, None, refl, ap, sym, ◌∙◌, subst, arith}
use Rattle.std.proofs.lemmas.Option.{none-some, same_Some}
use Rattle.std.specs.Prelude.{length, slice_get, option_and_then}
use Rattle.ap_term.specs.Tree.{Tree, Trees, none, more}
use Rattle.ap_core.specs.declared.events.Kind.{Kind}
use Rattle.ap_core.specs.Tasks as core
use Rattle.ap_core.specs.Tasks.{Task, Progress}
use Rattle.ap_core.specs.Conditions.{has_answer}
use Rattle.ap_core.specs.Relation.{Rules, Recorded, at_slot, in_slots, mapped}
use Rattle.ap_core.specs.Lifting.{running_of, running_in}
use Rattle.ap_frames.specs.declared.slots.Stand.{Stand}
use Rattle.ap_frames.specs.Rows.{standing}
use Rattle.ap_tracked.specs.Forks.{alone}
use Rattle.ap_instr.specs.Code.{Compiled}
use Rattle.ap_tie.specs.Sections.{Row, Slots, no_slot, slot, Held, rows}
use Rattle.ap_tie.specs.Open.{origin_in}
use Rattle.ap_tie.specs.Slots.{put_in, place_in, FitsSlot}
use Rattle.ap_tie.specs.Tied.{HoldsSlots}
use Rattle.ap_tied.specs.Ties.{WasRedone, IsRedoneAt, IsSimpleProgress, SlotsAreSimple, HoldsAnswer, AreQuietSlots}
use Rattle.ap_tied.specs.SlotCalls.{held_in, stood_in, since_in, since_of}

-- ---- lists

-- the element at a place, from 1
abbrev pub nth : {A : Type 0} → ℕ → List A → Option A
nth i [] = None
nth zero (x ∷ xs) = None
nth (suc zero) (x ∷ xs) = Some x
nth (suc (suc i)) (x ∷ xs) = nth (suc i) xs

pub get-nth : {A : Type 0} (i : ℕ) (xs : List A) → 0 < i → slice_get xs (i - 1) ≡ nth i xs
get-nth i [] h = refl
get-nth zero (x ∷ xs) h = absurd (let e : 0 < 0 = h in omega (arith, e))
get-nth (suc zero) (x ∷ xs) h = refl
get-nth (suc (suc i)) (x ∷ xs) h =
    let e : suc (suc i) - 1 ≡ suc i = omega arith in
    let d : i ≡ suc i - 1 = omega arith in
    ap (slice_get (x ∷ xs)) e ∙ ap (slice_get xs) d ∙ get-nth (suc i) xs (omega arith)

pub nth-from-one : {A : Type 0} (i : ℕ) (xs : List A) (x : A) → nth i xs ≡ Some x → 0 < i
nth-from-one i [] x h = absurd (none-some _ h)
nth-from-one zero (y ∷ xs) x h = absurd (none-some _ h)
nth-from-one (suc i) (y ∷ xs) x h = omega arith

abbrev pub nth_tree : ℕ → Trees → Option Tree
nth_tree i none = None
nth_tree zero (more t ts) = None
nth_tree (suc zero) (more t ts) = Some t
nth_tree (suc (suc i)) (more t ts) = nth_tree (suc i) ts

-- where one list has an element a list of that length has one
pub nth-long : {A B : Type 0} (i : ℕ) (xs : List A) (ys : List B) (x : A) → length xs ≡ length ys → nth i xs ≡ Some x → (y : B) × (nth i ys ≡ Some y)
nth-long i [] ys x l h = absurd (none-some _ h)
nth-long i (z ∷ xs) [] x l h = absurd (cc)
nth-long zero (z ∷ xs) (y ∷ ys) x l h = absurd (none-some _ h)
nth-long (suc zero) (z ∷ xs) (y ∷ ys) x l h = (y, refl)
nth-long (suc (suc i)) (z ∷ xs) (y ∷ ys) x l h = nth-long (suc i) xs ys x (cc) h

-- ---- what is told of a slot by its goal and progress

pub running-place : (i : ℕ) (v : core.Slots) → running_in i v ≡ option_and_then (λ (z : Tree × Recorded). running_of z.1.1) (place_in i v)
running-place i core.no_slot = refl
running-place zero (core.slot g k x v) = refl
running-place (suc zero) (core.slot g k x v) = refl
running-place (suc (suc i)) (core.slot g k x v) = running-place (suc i) v

pub origin-place : (i b : ℕ) (v : core.Slots) → origin_in i b v ≡ mapped (λ (z : Tree × Recorded). alone z.0 b) (place_in i v)
origin-place i b core.no_slot = refl
origin-place zero b (core.slot g k x v) = refl
origin-place (suc zero) b (core.slot g k x v) = refl
origin-place (suc (suc i)) b (core.slot g k x v) = origin-place (suc i) b v

pub since-place : (i : ℕ) (v : core.Slots) → since_in i v ≡ option_and_then (λ (z : Tree × Recorded). since_of z.1.1) (place_in i v)
since-place i core.no_slot = refl
since-place zero (core.slot g k x v) = refl
since-place (suc zero) (core.slot g k x v) = refl
since-place (suc (suc i)) (core.slot g k x v) = since-place (suc i) v

-- ---- a slot and what it stands for

pub record SlotAt (code : Compiled) (p : Rules) (q b : ℕ) (gs : Trees) (w : Slots) (v : core.Slots) (i : ℕ) : Type 0 where
  pub row : Row
  pub hold : Held
  pub goal : Tree
  pub progress : Progress
  pub row_at : nth i (rows w) ≡ Some row
  pub held_at : held_in i w ≡ hold
  pub goal_at : nth_tree i gs ≡ Some goal
  pub place_at : place_in i v ≡ Some (goal, (false, progress))
  pub fits : FitsSlot code p q b goal row hold progress
  pub simple : IsSimpleProgress progress
  pub quiet : HoldsAnswer code row.stand hold

pub slot_at : (code : Compiled) (p : Rules) (q b : ℕ) (gs : Trees) (w : Slots) (v : core.Slots) (i : ℕ) → HoldsSlots code p q b gs w v → SlotsAreSimple v → AreQuietSlots code w → (place_in i v ≡ None → ⊥)
    → SlotAt code p q b gs w v i
slot_at code p q b none no_slot v i h s t n = absurd (n (ap (place_in i) h))
slot_at code p q b none (slot x j w) v i h s t n = absurd h
slot_at code p q b (more g gs) no_slot v i h s t n = absurd h
slot_at code p q b (more g gs) (slot x j w) v zero (k, y, u, l, rest, is) s t n = absurd (n (ap (place_in 0) is))
slot_at code p q b (more g gs) (slot x j w) v (suc zero) (k, y, u, l, rest, is) s t n =
    let simple = subst SlotsAreSimple is s in
    record { row = x; hold = j; goal = g; progress = y; row_at = refl; held_at = refl; goal_at = refl; place_at = ap (place_in 1) is ∙ ap (λ c. Some (g, (c, y))) simple.0; fits = l; simple = simple.1; quiet = t.2 }
slot_at code p q b (more g gs) (slot x j w) v (suc (suc i)) (k, y, u, l, rest, is) s t n =
    let simple = subst SlotsAreSimple is s in
    let r = slot_at code p q b gs w u (suc i) rest simple.2 t.3 (λ e. n (ap (place_in (suc (suc i))) is ∙ e)) in
    record {
      row = r.row;
      hold = r.hold;
      goal = r.goal;
      progress = r.progress;
      row_at = r.row_at;
      held_at = r.held_at;
      goal_at = r.goal_at;
      place_at = ap (place_in (suc (suc i))) is ∙ r.place_at;
      fits = r.fits;
      simple = r.simple;
      quiet = r.quiet;
    }

-- where there is a row there is a goal
pub place-row : (code : Compiled) (p : Rules) (q b : ℕ) (gs : Trees) (w : Slots) (v : core.Slots) (i : ℕ) (x : Row) → HoldsSlots code p q b gs w v → nth i (rows w) ≡ Some x → place_in i v ≡ None → ⊥
place-row code p q b none no_slot v i x h r n = none-some _ r
place-row code p q b none (slot y j w) v i x h r n = absurd h
place-row code p q b (more g gs) no_slot v i x h r n = absurd h
place-row code p q b (more g gs) (slot z j w) v zero x (k, y, u, l, rest, is) r n = none-some _ r
place-row code p q b (more g gs) (slot z j w) v (suc zero) x (k, y, u, l, rest, is) r n = none-some _ (sym n ∙ ap (place_in 1) is)
place-row code p q b (more g gs) (slot z j w) v (suc (suc i)) x (k, y, u, l, rest, is) r n = place-row code p q b gs w u (suc i) x rest r (sym (ap (place_in (suc (suc i))) is) ∙ n)

-- ---- a slot that stands otherwise

pub stood-put : (i : ℕ) (e : Stand (Unit {0})) (h : Held) (w : Slots) (x : Row) → nth i (rows w) ≡ Some x → stood_in i e h w ≡ put_in i (standing e x) h w
stood-put i e h no_slot x n = refl
stood-put zero e h (slot y j w) x n = absurd (none-some _ n)
stood-put (suc zero) e h (slot y j w) x n = ap (λ z. slot (standing e z) h w) (same_Some _ _ n)
stood-put (suc (suc i)) e h (slot y j w) x n = ap (slot y j) (stood-put (suc i) e h w x n)

pub length-stood : (i : ℕ) (e : Stand (Unit {0})) (h : Held) (w : Slots) → length (rows (stood_in i e h w)) ≡ length (rows w)
length-stood i e h no_slot = refl
length-stood zero e h (slot y j w) = refl
length-stood (suc zero) e h (slot y j w) = refl
length-stood (suc (suc i)) e h (slot y j w) = ap suc (length-stood (suc i) e h w)

pub quiet-stood : (code : Compiled) (i : ℕ) (e : Stand (Unit {0})) (h : Held) (w : Slots) → AreQuietSlots code w → HoldsAnswer code e h → AreQuietSlots code (stood_in i e h w)
quiet-stood code i e h no_slot t a = tt
quiet-stood code zero e h (slot y j w) t a = t
quiet-stood code (suc zero) e h (slot y j w) t a = (t.0, t.1, a, t.3)
quiet-stood code (suc (suc i)) e h (slot y j w) t a = (t.0, t.1, t.2, quiet-stood code (suc i) e h w t.3 a)

-- ---- a goal that has come further

abbrev pub set_in : ℕ → Progress → core.Slots → core.Slots
set_in i y core.no_slot = core.no_slot
set_in zero y (core.slot g k x w) = core.slot g k x w
set_in (suc zero) y (core.slot g k x w) = core.slot g k y w
set_in (suc (suc i)) y (core.slot g k x w) = core.slot g k x (set_in (suc i) y w)

pub place-set : (i : ℕ) (v : core.Slots) (g : Tree) (x y : Progress) → place_in i v ≡ Some (g, (false, x)) → place_in i (set_in i y v) ≡ Some (g, (false, y))
place-set i core.no_slot g x y h = absurd (none-some _ h)
place-set zero (core.slot f k z v) g x y h = absurd (none-some _ h)
place-set (suc zero) (core.slot f k z v) g x y h = ap (λ (c : Tree × Recorded). Some (c.0, (c.1.0, y))) (same_Some _ _ h)
place-set (suc (suc i)) (core.slot f k z v) g x y h = place-set (suc i) v g x y h

pub event-set : (p : Rules) (n : Kind) (r b i : ℕ) (v : core.Slots) (g : Tree) (x y : Progress) → place_in i v ≡ Some (g, (false, x)) → at_slot p n r b g false x ≡ Some (false, y)
    → in_slots p n i [] r b v ≡ Some (set_in i y v)
event-set p n r b i core.no_slot g x y h e = absurd (none-some _ h)
event-set p n r b zero (core.slot f k z v) g x y h e = absurd (none-some _ h)
event-set p n r b (suc zero) (core.slot f k z v) g x y h e =
    let m = same_Some _ _ h in
    ap (mapped (λ (c : Recorded). core.slot f c.0 c.1 v)) (ap (λ (c : Tree × Recorded). at_slot p n r b c.0 c.1.0 c.1.1) m ∙ e) ∙ ap (λ (c : Tree × Recorded). Some (core.slot f c.1.0 y v)) (sym m)
event-set p n r b (suc (suc i)) (core.slot f k z v) g x y h e = ap (mapped (core.slot f k z)) (event-set p n r b (suc i) v g x y h e)

pub simple-set : (i : ℕ) (y : Progress) (v : core.Slots) → SlotsAreSimple v → IsSimpleProgress y → SlotsAreSimple (set_in i y v)
simple-set i y core.no_slot s t = tt
simple-set zero y (core.slot f k z v) s t = s
simple-set (suc zero) y (core.slot f k z v) s t = (s.0, t, s.2)
simple-set (suc (suc i)) y (core.slot f k z v) s t = (s.0, s.1, simple-set (suc i) y v s.2 t)

-- a slot that was redone or has an answer goes on so
pub redone-set : (i j : ℕ) (v : core.Slots) (g : Tree) (x y : Progress) → place_in i v ≡ Some (g, (false, x)) → (WasRedone x → WasRedone y) → (has_answer x ≡ true → has_answer y ≡ true)
    → IsRedoneAt j v → IsRedoneAt j (set_in i y v)
redone-set i j core.no_slot g x y h m n s = s
redone-set zero j (core.slot f k z v) g x y h m n s = s
redone-set (suc i) zero (core.slot f k z v) g x y h m n s = absurd s
redone-set (suc zero) (suc zero) (core.slot f k z v) g x y h m n s = m (subst WasRedone (ap (λ (c : Tree × Recorded). c.1.1) (same_Some _ _ h)) s)
redone-set (suc zero) (suc (suc j)) (core.slot f k z v) g x y h m n s = (n (sym (ap (λ (c : Tree × Recorded). has_answer c.1.1) (same_Some _ _ h)) ∙ s.0), s.1)
redone-set (suc (suc i)) (suc zero) (core.slot f k z v) g x y h m n s = s
redone-set (suc (suc i)) (suc (suc j)) (core.slot f k z v) g x y h m n s = (s.0, redone-set (suc i) (suc j) v g x y h m n s.1)

pub set-twice : (i : ℕ) (x y : Progress) (v : core.Slots) → set_in i y (set_in i x v) ≡ set_in i y v
set-twice i x y core.no_slot = refl
set-twice zero x y (core.slot f k z v) = refl
set-twice (suc zero) x y (core.slot f k z v) = refl
set-twice (suc (suc i)) x y (core.slot f k z v) = ap (core.slot f k z) (set-twice (suc i) x y v)

-- what fits the goal there stands for it
pub hold-set : (code : Compiled) (p : Rules) (q b : ℕ) (gs : Trees) (w : Slots) (v : core.Slots) (i : ℕ) (e : Row) (h : Held) (g : Tree) (x y : Progress) → HoldsSlots code p q b gs w v → place_in i v ≡ Some (g, (false, x))
    → FitsSlot code p q b g e h y → HoldsSlots code p q b gs (put_in i e h w) (set_in i y v)
hold-set code p q b none no_slot v i e h g x y l n f = absurd (none-some _ (sym (ap (place_in i) l) ∙ n))
hold-set code p q b none (slot z j w) v i e h g x y l n f = absurd l
hold-set code p q b (more g' gs) no_slot v i e h g x y l n f = absurd l
hold-set code p q b (more g' gs) (slot z j w) v zero e h g x y (k, a, u, l, rest, is) n f = absurd (none-some _ (sym (ap (place_in 0) is) ∙ n))
hold-set code p q b (more g' gs) (slot z j w) v (suc zero) e h g x y (k, a, u, l, rest, is) n f =
    let goal : g ≡ g' = ap (λ (c : Tree × Recorded). c.0) (sym (same_Some _ _ (sym (ap (place_in 1) is) ∙ n))) in
    (k, y, u, subst (λ c. FitsSlot code p q b c e h y) goal f, rest, ap (set_in 1 y) is)
hold-set code p q b (more g' gs) (slot z j w) v (suc (suc i)) e h g x y (k, a, u, l, rest, is) n f =
    (k, a, set_in (suc i) y u, l, hold-set code p q b gs w u (suc i) e h g x y rest (sym (ap (place_in (suc (suc i))) is) ∙ n) f, ap (set_in (suc (suc i)) y) is)
