-- The walk over both codes on their ways: what is kept behind a change is kept before it.
use Rattle.std.proofs.Common.{◌≡◌, ℕ, zero, suc, ◌+◌, ◌<◌, ◌==◌, Bool, true, false, not, if◌then◌else◌, List, [], ◌∷◌, refl, ap, sym, ◌∙◌, subst, arith}
use Rattle.std.proofs.lemmas.Bool.{false≢true}
use Rattle.std.proofs.lemmas.Bool.Decides.{Decides-eqb}
use Rattle.ap_instr.specs.declared.instruction.Slot.{Slot}
use Rattle.ap_instr.specs.declared.instruction.Slot.TheVariants.{X, Y}
use Rattle.ap_instr.specs.Step.{Step, execute, proceed, jump, check_ground, check_indep, group}
use Rattle.ap_codegen.specs.declared.relocating.Numbers.{Numbers}
use Rattle.ap_codegen.specs.declared.relocating.Way.{Way}
use Rattle.ap_codegen.specs.declared.relocating.Way.TheVariants.{Sides, Turns}
use Rattle.ap_codegen.specs.Grouped.{has_turns}
use Rattle.ap_codegen.specs.Temporary.{ends}
use Rattle.ap_codegen.specs.Relocated.{Change, kept, dropped, Known, latter, behind, is_kept, does_same, passed, known_by, is_jump, may_turn, is_leap, over, WayKept, is_end, is_next, leads_next, never_turns, Forgets, IsSingle, Onward, NoTurns, AreKept}
use Rattle.ap_codegen.proofs.RelocatedReads.{forgets_itself, forgets_more}

-- where less is known
pub kept_forgets : (n : ℕ) (cs : List Change) (k m : Known) → Forgets k m → AreKept n m cs → AreKept n k cs
kept_forgets zero [] k m f a = a
kept_forgets (suc n) [] k m f a = a
kept_forgets (suc n) (c ∷ cs) k m f a = kept_forgets n cs k m f a
kept_forgets zero (c ∷ cs) k m f a = (a.0, forgets_more k m a.0 f a.1, a.2)

-- a change that ends the clause
pub kept_end : (c : Change) (cs : List Change) (k : Known) → is_end c ≡ true → does_same k c ≡ true → AreKept 0 k (c ∷ cs)
kept_end (dropped l) cs k e f = absurd (false≢true e)
kept_end (kept (i, m) u o) cs k e f = (k, forgets_itself k, (f, one i e))
  where
    one : (i : Step) → ends i ≡ true → Onward (i, m) (λ n j. AreKept n j cs) (λ n. NoTurns n cs) (behind k i u o)
    one (execute p n) e = tt
    one proceed e = tt
    one _ e = absurd (false≢true e)

-- a change behind which just the next one comes
pub kept_next : (c : Change) (cs : List Change) (k : Known) → is_next c ≡ true → does_same k c ≡ true → AreKept 0 (passed k c) cs → AreKept 0 k (c ∷ cs)
kept_next (dropped l) cs k e f a = (k, forgets_itself k, a)
kept_next (kept (i, m) u o) cs k e f a = (k, forgets_itself k, (f, one i e (behind k i u o) a))
  where
    one : (i : Step) → leads_next i ≡ true → (j : Known) → AreKept 0 j cs → Onward (i, m) (λ n j. AreKept n j cs) (λ n. NoTurns n cs) j
    one jump e j a = absurd (false≢true e)
    one (check_ground v) e j a = absurd (false≢true e)
    one (check_indep v w) e j a = absurd (false≢true e)
    one (group n) e j a = absurd (false≢true e)
    one (execute p n) e j a = absurd (false≢true e)
    one proceed e j a = absurd (false≢true e)
    one _ e j a = a

pub next_never_turns : (c : Change) → is_next c ≡ true → never_turns c ≡ true
next_never_turns (dropped l) e = refl
next_never_turns (kept (i, m) u o) e = one i e
  where
    one : (i : Step) → leads_next i ≡ true → not (has_turns i) ≡ true
    one (check_ground v) e = absurd (false≢true e)
    one (check_indep v w) e = absurd (false≢true e)
    one (group n) e = absurd (false≢true e)
    one _ e = refl

-- a check or the beginning of a group's goals, at which each value stands at one place
pub kept_turn : (c : Change) (cs : List Change) (k j : Known) → may_turn c ≡ true → Forgets k j → IsSingle j → does_same j c ≡ true → AreKept 0 j cs → AreKept (over c) j cs → AreKept 0 k (c ∷ cs)
kept_turn (dropped l) cs k j e f s h a b = absurd (false≢true e)
kept_turn (kept (i, m) u o) cs k j e f s h a b = one i e h
  where
    one : (i : Step) → has_turns i ≡ true → is_kept j i u o ≡ true → AreKept 0 k (kept (i, m) u o ∷ cs)
    one (check_ground v) e h = (j, f, (h, (s, a, b)))
    one (check_indep v w) e h = (j, f, (h, (s, a, b)))
    one (group n) e h = (j, f, (h, (s, a, b)))
    one _ e h = absurd (false≢true e)

-- a jump
pub kept_leap : (c : Change) (cs : List Change) (k : Known) → is_leap c ≡ true → NoTurns (over c) cs → AreKept (over c) k cs → AreKept 0 k (c ∷ cs)
kept_leap (dropped l) cs k e n a = absurd (false≢true e)
kept_leap (kept (i, m) u o) cs k e n a = one i e
  where
    one : (i : Step) → is_jump i ≡ true → AreKept 0 k (kept (i, m) u o ∷ cs)
    one jump e = (k, forgets_itself k, (refl, (n, a)))
    one _ e = absurd (false≢true e)

-- both ways of a group join
pub way_joined : (w : Way) (n : ℕ) (there : Numbers) (c : Change) (cs : List Change) (j : Known) → Turns n there ≡ w → n ≡ 1 → never_turns c ≡ true → Forgets (known_by there) j → AreKept 0 j cs → WayKept w (c ∷ cs)
way_joined w n there c cs j e d t f a = subst (λ w. WayKept w (c ∷ cs)) (ap (λ n. Turns n there) (sym d) ∙ e) ((t, tt), kept_forgets 0 cs (known_by there) j f a)

-- where the ways of a group lead apart
pub way_met : (w : Way) (m n : ℕ) (there : Numbers) (c : Change) (cs : List Change) (j : Known) → Sides m there ≡ w → m ≡ n + 1 → Forgets (known_by there) j → AreKept n j cs → WayKept w (c ∷ cs)
way_met w m n there c cs j e d f a = subst (λ w. WayKept w (c ∷ cs)) (ap (λ m. Sides m there) (let s : suc n ≡ m = omega (arith, d) in s) ∙ e) (kept_forgets n cs (known_by there) j f a)

-- each value at home
pub single_left : (k : Known) (x y : ℕ → ℕ) → ((p : ℕ) → 0 < k.latter_x p → (y (k.latter_x p) ≡ 0) × (x (k.latter_x p) ≡ p)) → ((p : ℕ) → 0 < k.latter_y p → (0 < y (k.latter_y p)) × (y (k.latter_y p) ≡ p)) → IsSingle k
single_left k x y f g = (home, one)
  where
    home : ℕ → Slot
    home n = if y n == 0 then X (x n) else Y (y n)

    in_x : (n p : ℕ) → y n ≡ 0 → x n ≡ p → X p ≡ home n
    in_x n p e d = go (y n == 0) refl
      where
        go : (b : Bool) → (y n == 0) ≡ b → X p ≡ (if b then X (x n) else Y (y n))
        go true t = ap X (sym d)
        go false t = absurd (false≢true (sym t ∙ (Decides-eqb (y n) 0).1 e))

    in_y : (n p : ℕ) → 0 < y n → y n ≡ p → Y p ≡ home n
    in_y n p l d = go (y n == 0) refl
      where
        go : (b : Bool) → (y n == 0) ≡ b → Y p ≡ (if b then X (x n) else Y (y n))
        go true t = absurd (let z : y n ≡ 0 = (Decides-eqb (y n) 0).0 t in omega (arith, z, l))
        go false t = ap Y (sym d)

    one : (u : Slot) → 0 < latter k u → u ≡ home (latter k u)
    one (X p) l = in_x (k.latter_x p) p (f p l).0 (f p l).1
    one (Y p) l = in_y (k.latter_y p) p (g p l).0 (g p l).1
