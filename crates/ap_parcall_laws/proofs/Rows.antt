-- Slots in a row: what is asked of them is the same on both sides.
use Rattle.std.proofs.Common.{◌≡◌, ℕ, ◌+◌, ◌-◌, ◌⊎◌, inl, inr, Bool, true, false, ◌&&◌, ◌||◌, not, if◌then◌else◌, is_some, List, [], ◌∷◌, ◌++◌, length, Option, Some, None, refl, ap, ap₂, sym, ◌∙◌, arith}
use Rattle.std.proofs.lemmas.Bool.{false≢true}
use Rattle.std.specs.List.{list_any, list_all}
use Rattle.ap_term.specs.Tree.{Tree}
use Rattle.ap_core.specs.Tasks as core
use Rattle.ap_core.specs.Tasks.{no_slot, slot, Progress, idle, stored, busy, held, redone, again, drained}
use Rattle.ap_core.specs.Conditions as conditions
use Rattle.ap_frames.specs.declared.slots.Slot.{Slot}
use Rattle.ap_frames.specs.Slots.{has_answer, has_failed, has_more, is_loud_with_more, is_quiet, is_safe, ending_of, cost_of, tuples_of}
use Rattle.ap_frames.specs.Verdicts.{left_edge, leftmost_ending, place_behind, rightmost, next_redo, by_ending}
use Rattle.ap_parcall_laws.specs.Alike.{AreAlike, StandsAs, IsUndrained, IsDrained, verdict_of}
use Rattle.ap_parcall_laws.proofs.Same.{Same, same}

same-at : {S T : Type 0} (r : ℕ) (x : Slot S T) (y : Progress) → StandsAs r x.stand (length (tuples_of x)) y → Same r x.stand (length (tuples_of x)) y
same-at r x y h = same r x.stand (length (tuples_of x)) y h

pub failed-alike : {S T : Type 0} (loud : Tree → Bool) (r : ℕ) (xs : List (Slot S T)) (w : core.Slots) → AreAlike loud r xs w → conditions.some_failed w ≡ list_any has_failed xs
failed-alike loud r [] no_slot h = refl
failed-alike loud r [] (slot g k y w) h = absurd h
failed-alike loud r (x ∷ xs) no_slot h = absurd h
failed-alike loud r (x ∷ xs) (slot g k y w) (l, s, h) = let a = same-at r x y s in ap₂ (λ i j. i || j) a.failed (failed-alike loud r xs w h)

pub answered-alike : {S T : Type 0} (loud : Tree → Bool) (r : ℕ) (xs : List (Slot S T)) (w : core.Slots) → AreAlike loud r xs w → conditions.all_answered w ≡ list_all has_answer xs
answered-alike loud r [] no_slot h = refl
answered-alike loud r [] (slot g k y w) h = absurd h
answered-alike loud r (x ∷ xs) no_slot h = absurd h
answered-alike loud r (x ∷ xs) (slot g k y w) (l, s, h) = let a = same-at r x y s in ap₂ (λ i j. i && j) a.answer (answered-alike loud r xs w h)

more-behind : (o : Option ℕ) (b c : Bool) → c ≡ is_some o → (b || c) ≡ is_some (place_behind o b)
more-behind None true c h = refl
more-behind None false c h = h
more-behind (Some i) true c h = refl
more-behind (Some i) false c h = h

pub more-alike : {S T : Type 0} (loud : Tree → Bool) (r : ℕ) (xs : List (Slot S T)) (w : core.Slots) → AreAlike loud r xs w → conditions.some_has_more w ≡ is_some (next_redo xs)
more-alike loud r [] no_slot h = refl
more-alike loud r [] (slot g k y w) h = absurd h
more-alike loud r (x ∷ xs) no_slot h = absurd h
more-alike loud r (x ∷ xs) (slot g k y w) (l, s, h) =
    let a = same-at r x y s in
    ap (λ b. b || conditions.some_has_more w) a.more ∙ more-behind (next_redo xs) (has_more x) (conditions.some_has_more w) (more-alike loud r xs w h)

-- ---- the left edge

undrained-behind : (g : Tree) (k : Bool) (y : Progress) (w : core.Slots) → conditions.has_answer y ≡ true → IsUndrained (slot g k y w) → IsUndrained w
undrained-behind g k (idle i) w a u = absurd (false≢true a)
undrained-behind g k (stored m) w a u = absurd (false≢true a)
undrained-behind g k (busy b t) w a u = absurd (false≢true a)
undrained-behind g k (held m z t c) w a u = u
undrained-behind g k (redone m b t i) w a u = absurd (false≢true a)
undrained-behind g k (again m z t c) w a u = u
undrained-behind g k (drained m b t i d) w a u = absurd (false≢true a)

pub edge-alike : {S T : Type 0} (loud : Tree → Bool) (r b : ℕ) (xs : List (Slot S T)) (w : core.Slots) → AreAlike loud r xs w → IsUndrained w → conditions.left_edge r b w ≡ b + left_edge xs
edge-alike loud r b [] no_slot h u = omega arith
edge-alike loud r b [] (slot g k y w) h u = absurd h
edge-alike loud r b (x ∷ xs) no_slot h u = absurd h
edge-alike {S} {T} loud r b (x ∷ xs) (slot g k y w) (l, s, h) u = go (has_answer x) refl (λ v. edge-alike loud r (b + cost_of x) xs w h v)
  where
    a : Same r x.stand (length (tuples_of x)) y
    a = same-at r x y s

    go : (o : Bool) → has_answer x ≡ o → (IsUndrained w → conditions.left_edge r (b + cost_of x) w ≡ (b + cost_of x) + left_edge xs) → conditions.left_edge r b (slot g k y w) ≡ b + left_edge (x ∷ xs)
    go true e rec =
        let m : (b + cost_of x) + left_edge xs ≡ b + (cost_of x + left_edge xs) = omega arith in
        a.passes g k w b e ∙ rec (undrained-behind g k y w (a.answer ∙ e) u) ∙ m
        ∙ ap (λ o. b + (if o then cost_of x + left_edge xs else cost_of x)) (sym e)
    go false e rec = a.edge g k w b e u ∙ ap (λ o. b + (if o then cost_of x + left_edge xs else cost_of x)) (sym e)

pub edge-drained : (n r c b : ℕ) (w : core.Slots) → IsDrained n r c b w → conditions.left_edge r b w ≡ n + c
edge-drained n r c b no_slot h = absurd h
edge-drained n r c b (slot g k (idle i) w) h = absurd h
edge-drained n r c b (slot g k (stored m) w) h = absurd h
edge-drained n r c b (slot g k (busy x t) w) h = absurd h
edge-drained n r c b (slot g k (held m a t e) w) h = edge-drained n r c (b + e) w h
edge-drained n r c b (slot g k (redone m x t i) w) h = absurd h
edge-drained n r c b (slot g k (again m a t e) w) h = edge-drained n r c (b + e) w h
edge-drained n r c b (slot g k (drained m x t i d) w) (p, q) = ap (λ j. j + conditions.stopped_cost (r - j) i x t) p ∙ ap (λ j. n + j) (sym q)

-- ---- the leftmost slot without an answer

pub leftmost-alike : {S T : Type 0} (loud : Tree → Bool) (r c : ℕ) (xs : List (Slot S T)) (w : core.Slots) → AreAlike loud r xs w
    → conditions.by_leftmost r c (conditions.leftmost w) ≡ verdict_of (by_ending r c (leftmost_ending xs))
leftmost-alike loud r c [] no_slot h = refl
leftmost-alike loud r c [] (slot g k y w) h = absurd h
leftmost-alike loud r c (x ∷ xs) no_slot h = absurd h
leftmost-alike {S} {T} loud r c (x ∷ xs) (slot g k y w) (l, s, h) = go (has_answer x) refl (leftmost-alike loud r c xs w h)
  where
    a : Same r x.stand (length (tuples_of x)) y
    a = same-at r x y s

    go : (o : Bool) → has_answer x ≡ o → conditions.by_leftmost r c (conditions.leftmost w) ≡ verdict_of (by_ending r c (leftmost_ending xs)) → conditions.by_leftmost r c (conditions.leftmost (slot g k y w)) ≡ verdict_of (by_ending r c (leftmost_ending (x ∷ xs)))
    go true e rec =
        ap (conditions.by_leftmost r c) (a.behind g k w e) ∙ rec
        ∙ ap (λ o. verdict_of (by_ending r c (if o then leftmost_ending xs else ending_of x))) (sym e)
    go false e rec = a.ending g k w c e ∙ ap (λ o. verdict_of (by_ending r c (if o then leftmost_ending xs else ending_of x))) (sym e)

-- ---- left of the leftmost failed slot

-- the slots, of which some has failed, are those left of the leftmost such, itself, and those behind it
pub record Failure {S T : Type 0} (xs : List (Slot S T)) : Type 0 where
  pub before : List (Slot S T)
  pub at : Slot S T
  pub after : List (Slot S T)
  pub parts : xs ≡ before ++ at ∷ after
  pub none_before : list_any has_failed before ≡ false
  pub fails : has_failed at ≡ true

pub find-failure : {S T : Type 0} (xs : List (Slot S T)) → (list_any has_failed xs ≡ false) ⊎ Failure xs
find-failure [] = inl refl
find-failure {S} {T} (x ∷ xs) = go (has_failed x) refl (find-failure xs)
  where
    go : (o : Bool) → has_failed x ≡ o → (list_any has_failed xs ≡ false) ⊎ Failure xs → (list_any has_failed (x ∷ xs) ≡ false) ⊎ Failure (x ∷ xs)
    go true e r = inr (record { before = []; at = x; after = xs; parts = refl; none_before = refl; fails = e })
    go false e (inl h) = inl (ap₂ (λ i j. i || j) e h)
    go false e (inr f) = inr (record { before = x ∷ f.before; at = f.at; after = f.after; parts = ap (λ ys. x ∷ ys) f.parts; none_before = ap₂ (λ i j. i || j) e f.none_before; fails = f.fails })

-- what is asked of those, gone through from the first one on
abbrev pub before_failure : {S T : Type 0} → (Slot S T → Bool) → List (Slot S T) → Bool
before_failure p [] = false
before_failure p (x ∷ xs) = if has_failed x then true else p x && before_failure p xs

abbrev pub drain_before : {S T : Type 0} → List (Slot S T) → Option ℕ
drain_before [] = None
drain_before (x ∷ xs) = if has_failed x then None else place_behind (drain_before xs) (is_loud_with_more x)

pub before-none : {S T : Type 0} (p : Slot S T → Bool) (xs : List (Slot S T)) → list_any has_failed xs ≡ false → before_failure p xs ≡ false
before-none p [] h = refl
before-none p (x ∷ xs) h = go (has_failed x) (list_any has_failed xs) refl refl h (λ k. before-none p xs k)
  where
    go : (a b : Bool) → has_failed x ≡ a → list_any has_failed xs ≡ b → (a || b) ≡ false → (list_any has_failed xs ≡ false → before_failure p xs ≡ false) → (if has_failed x then true else p x && before_failure p xs) ≡ false
    go true b e f k rec = absurd (false≢true (sym k))
    go false b e f k rec = ap (λ o. if o then true else p x && before_failure p xs) e ∙ ap (λ o. p x && o) (rec (f ∙ k)) ∙ and-false (p x)
      where
        and-false : (c : Bool) → (c && false) ≡ false
        and-false true = refl
        and-false false = refl

pub before-here : {S T : Type 0} (p : Slot S T → Bool) (ls rs : List (Slot S T)) (x : Slot S T) → list_any has_failed ls ≡ false → has_failed x ≡ true → before_failure p (ls ++ x ∷ rs) ≡ list_all p ls
before-here p [] rs x h e = ap (λ o. if o then true else p x && before_failure p rs) e
before-here p (l ∷ ls) rs x h e = go (has_failed l) (list_any has_failed ls) refl refl h (λ k. before-here p ls rs x k e)
  where
    go : (a b : Bool) → has_failed l ≡ a → list_any has_failed ls ≡ b → (a || b) ≡ false → (list_any has_failed ls ≡ false → before_failure p (ls ++ x ∷ rs) ≡ list_all p ls) → before_failure p (l ∷ (ls ++ x ∷ rs)) ≡ (p l && list_all p ls)
    go true b f g k rec = absurd (false≢true (sym k))
    go false b f g k rec = ap (λ o. if o then true else p l && before_failure p (ls ++ x ∷ rs)) f ∙ ap (λ o. p l && o) (rec (g ∙ k))

pub drain-here : {S T : Type 0} (ls rs : List (Slot S T)) (x : Slot S T) → list_any has_failed ls ≡ false → has_failed x ≡ true → drain_before (ls ++ x ∷ rs) ≡ rightmost is_loud_with_more ls
drain-here [] rs x h e = ap (λ o. if o then None else place_behind (drain_before rs) (is_loud_with_more x)) e
drain-here (l ∷ ls) rs x h e = go (has_failed l) (list_any has_failed ls) refl refl h (λ k. drain-here ls rs x k e)
  where
    go : (a b : Bool) → has_failed l ≡ a → list_any has_failed ls ≡ b → (a || b) ≡ false → (list_any has_failed ls ≡ false → drain_before (ls ++ x ∷ rs) ≡ rightmost is_loud_with_more ls) → drain_before (l ∷ (ls ++ x ∷ rs)) ≡ place_behind (rightmost is_loud_with_more ls) (is_loud_with_more l)
    go true b f g k rec = absurd (false≢true (sym k))
    go false b f g k rec =
        ap (λ o. if o then None else place_behind (drain_before (ls ++ x ∷ rs)) (is_loud_with_more l)) f ∙ ap (λ o. place_behind o (is_loud_with_more l)) (rec (g ∙ k))

pub quiet-alike : {S T : Type 0} (loud : Tree → Bool) (r : ℕ) (xs : List (Slot S T)) (w : core.Slots) → AreAlike loud r xs w → conditions.before_failed (conditions.is_quiet loud) w ≡ before_failure is_quiet xs
quiet-alike loud r [] no_slot h = refl
quiet-alike loud r [] (slot g k y w) h = absurd h
quiet-alike loud r (x ∷ xs) no_slot h = absurd h
quiet-alike loud r (x ∷ xs) (slot g k y w) (l, s, h) =
    let a = same-at r x y s in
    ap₂ (λ i j. if i then true else j) a.failed (ap₂ (λ i j. i && j) (ap not (sym l)) (quiet-alike loud r xs w h))

pub left-alike : {S T : Type 0} (loud : Tree → Bool) (r : ℕ) (xs : List (Slot S T)) (w : core.Slots) → AreAlike loud r xs w → conditions.before_failed conditions.answered_left w ≡ before_failure has_answer xs
left-alike loud r [] no_slot h = refl
left-alike loud r [] (slot g k y w) h = absurd h
left-alike loud r (x ∷ xs) no_slot h = absurd h
left-alike loud r (x ∷ xs) (slot g k y w) (l, s, h) =
    let a = same-at r x y s in
    ap₂ (λ i j. if i then true else j) a.failed (ap₂ (λ i j. i && j) a.answer (left-alike loud r xs w h))

safe-at : {S T : Type 0} (loud : Tree → Bool) (r : ℕ) (x : Slot S T) (g : Tree) (y : Progress) → x.is_loud ≡ loud g → Same r x.stand (length (tuples_of x)) y → conditions.is_settled loud g y ≡ is_safe x
safe-at loud r x g y l a = ap₂ (λ i j. i && not j) a.answer (ap₂ (λ i j. i && j) (sym l) a.more)

pub safe-alike : {S T : Type 0} (loud : Tree → Bool) (r : ℕ) (xs : List (Slot S T)) (w : core.Slots) → AreAlike loud r xs w → conditions.before_failed (conditions.is_settled loud) w ≡ before_failure is_safe xs
safe-alike loud r [] no_slot h = refl
safe-alike loud r [] (slot g k y w) h = absurd h
safe-alike loud r (x ∷ xs) no_slot h = absurd h
safe-alike loud r (x ∷ xs) (slot g k y w) (l, s, h) =
    let a = same-at r x y s in
    ap₂ (λ i j. if i then true else j) a.failed (ap₂ (λ i j. i && j) (safe-at loud r x g y l a) (safe-alike loud r xs w h))

place-same : (o : Option ℕ) (b : Bool) → conditions.place_behind o b ≡ place_behind o b
place-same (Some i) b = refl
place-same None true = refl
place-same None false = refl

pub drain-alike : {S T : Type 0} (loud : Tree → Bool) (r : ℕ) (xs : List (Slot S T)) (w : core.Slots) → AreAlike loud r xs w → conditions.place_to_drain loud w ≡ drain_before xs
drain-alike loud r [] no_slot h = refl
drain-alike loud r [] (slot g k y w) h = absurd h
drain-alike loud r (x ∷ xs) no_slot h = absurd h
drain-alike loud r (x ∷ xs) (slot g k y w) (l, s, h) =
    let a = same-at r x y s in
    ap₂ (λ i j. if i then None else j) a.failed
    (ap₂ conditions.place_behind (drain-alike loud r xs w h) (ap₂ (λ i j. i && j) (sym l) a.more) ∙ place-same (drain_before xs) (is_loud_with_more x))
