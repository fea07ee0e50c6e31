-- Where the leftmost failed slot stands, the left edge, the rightmost of a kind: lemmas of the laws.
use Rattle.std.proofs.Common.{◌≡◌, ℕ, suc, ◌+◌, ◌-◌, ◌<◌, Bool, true, false, ◌&&◌, ◌||◌, not, nat_lt, cond, if◌then◌else◌, List, [], ◌∷◌, ◌++◌, length, Option, Some, None, refl, ap, ap₂, sym, ◌∙◌, arith, ◌≤◌}
use Rattle.std.specs.Prelude.{sum_by, position}
use Rattle.std.specs.List.{list_any, list_all, position_or_len, prefix_len}
use Rattle.std.proofs.Math.Seq.{take-append_seam}
use Rattle.std.proofs.lemmas.Bool.{false≢true, lt-ltb, le-ltb, and_parts, or_parts, and_right, not_from_true}
use Rattle.std.proofs.lemmas.List.{length-append}
use Rattle.std.proofs.lemmas.List.Sums.{sum_by-cons}
use Rattle.ap_frames.specs.declared.slots.Slot.{Slot}
use Rattle.ap_frames.specs.declared.slots.Stand.{Stand}
use Rattle.ap_frames.specs.declared.slots.Stand.TheVariants.{Ready, Waiting, Running, Answered, Replayed, Ended, GivenBack}
use Rattle.ap_frames.specs.declared.slots.Ending.{Ending}
use Rattle.ap_frames.specs.declared.frame.Round.TheVariants.{First, Draining, Later, Closed}
use Rattle.ap_frames.specs.declared.verdict.Verdict.{Verdict}
use Rattle.ap_frames.specs.declared.verdict.Verdict.TheVariants.{Wait, Joined, Broken, Drain}
use Rattle.ap_frames.specs.Slots.{has_answer, stands_answered, ends, is_failure, has_failed, has_more, is_loud_with_more, is_quiet, is_safe, ending_of, cost_of}
use Rattle.ap_frames.specs.Verdicts.{left_edge, ended_cost, leftmost_ending, charge, place_behind, rightmost, next_redo, charged, unless_failed, are_harmless, by_ending, after_failure, drains, in_first, in_later, judged}
use Rattle.ap_frames.specs.Laws.{EdgeLaw, RedoLaw, VerdictLaw}

-- ---- the leftmost of a kind

prefix-behind : {A : Type 0} (f : A → Bool) (ls rs : List A) (x : A) → list_any f ls ≡ false → f x ≡ true → position_or_len f (ls ++ x ∷ rs) ≡ length ls
prefix-behind f [] rs x h e = ap (λ b. cond (not b) (1 + position_or_len f rs) 0) e
prefix-behind f (l ∷ ls) rs x h e =
    let k = or_parts (f l) (list_any f ls) h in
    let m : 1 + length ls ≡ suc (length ls) = omega arith in
    ap (λ b. cond (not b) (1 + position_or_len f (ls ++ x ∷ rs)) 0) k.0 ∙ ap (λ n. 1 + n) (prefix-behind f ls rs x k.1 e) ∙ m

pub position-behind : {A : Type 0} (f : A → Bool) (ls rs : List A) (x : A) → list_any f ls ≡ false → f x ≡ true → position f (ls ++ x ∷ rs) ≡ Some (length ls)
position-behind f ls rs x h e =
    let p = prefix-behind f ls rs x h e in
    let l : length ls < length (ls ++ x ∷ rs) = omega (arith, length-append ls (x ∷ rs)) in
    ap (λ n. cond (nat_lt n (length (ls ++ x ∷ rs))) (Some n) None) p ∙ ap (λ b. cond b (Some (length ls)) None) (lt-ltb (length ls) (length (ls ++ x ∷ rs)) l)

prefix-none : {A : Type 0} (f : A → Bool) (xs : List A) → list_any f xs ≡ false → position_or_len f xs ≡ length xs
prefix-none f [] h = refl
prefix-none f (x ∷ xs) h =
    let k = or_parts (f x) (list_any f xs) h in
    let m : 1 + length xs ≡ suc (length xs) = omega arith in
    ap (λ b. cond (not b) (1 + position_or_len f xs) 0) k.0 ∙ ap (λ n. 1 + n) (prefix-none f xs k.1) ∙ m

pub position-none : {A : Type 0} (f : A → Bool) (xs : List A) → list_any f xs ≡ false → position f xs ≡ None
position-none f xs h =
    ap (λ n. cond (nat_lt n (length xs)) (Some n) None) (prefix-none f xs h) ∙ ap (λ b. cond b (Some (length xs)) None) (le-ltb (length xs) (length xs) (omega arith))

-- ---- the rightmost of a kind

pub rightmost-none : {A : Type 0} (f : A → Bool) (xs : List A) → list_any f xs ≡ false → rightmost f xs ≡ None
rightmost-none f [] h = refl
rightmost-none f (x ∷ xs) h = let k = or_parts (f x) (list_any f xs) h in ap₂ place_behind (rightmost-none f xs k.1) k.0

-- it is one of them
pub rightmost-inside : {A : Type 0} (f : A → Bool) (xs : List A) (i : ℕ) → rightmost f xs ≡ Some i → (0 < i) × (i ≤ length xs)
rightmost-inside f [] i e = absurd (cc)
rightmost-inside f (x ∷ xs) i e = go (rightmost f xs) (rightmost-inside f xs) (f x) e
  where
    go : (o : Option ℕ) → ((j : ℕ) → o ≡ Some j → (0 < j) × (j ≤ length xs)) → (b : Bool) → place_behind o b ≡ Some i → (0 < i) × (i ≤ length (x ∷ xs))
    go (Some j) k b e = let h = k j refl in let d : j + 1 ≡ i = cc in (omega (arith, d), omega (arith, d, h.1))
    go None k true e = let d : 1 ≡ i = cc in (omega (arith, d), omega (arith, d))
    go None k false e = absurd (cc)

pub rightmost-here : {A : Type 0} (f : A → Bool) (ls rs : List A) (x : A) → f x ≡ true → list_any f rs ≡ false → rightmost f (ls ++ x ∷ rs) ≡ Some (length ls + 1)
rightmost-here f [] rs x e h = ap₂ place_behind (rightmost-none f rs h) e
rightmost-here f (l ∷ ls) rs x e h =
    let m : (length ls + 1) + 1 ≡ suc (length ls) + 1 = omega arith in
    ap (λ o. place_behind o (f l)) (rightmost-here f ls rs x e h) ∙ ap Some m

-- ---- the left edge

pub edge-answered : {S T : Type 0} (xs : List (Slot S T)) → list_all has_answer xs ≡ true → left_edge xs ≡ sum_by cost_of xs
edge-answered [] h = refl
edge-answered (x ∷ xs) h =
    let k = and_parts (has_answer x) (list_all has_answer xs) h in
    ap (λ b. if b then cost_of x + left_edge xs else cost_of x) k.0 ∙ ap (λ n. cost_of x + n) (edge-answered xs k.1) ∙ sym (sum_by-cons cost_of x xs)

pub edge-first : {S T : Type 0} (ls rs : List (Slot S T)) (x : Slot S T) → list_all has_answer ls ≡ true → has_answer x ≡ false → left_edge (ls ++ x ∷ rs) ≡ sum_by cost_of ls + cost_of x
edge-first [] rs x h e = let m : cost_of x ≡ 0 + cost_of x = omega arith in ap (λ b. if b then cost_of x + left_edge rs else cost_of x) e ∙ m
edge-first (l ∷ ls) rs x h e =
    let k = and_parts (has_answer l) (list_all has_answer ls) h in
    let a : left_edge (l ∷ (ls ++ x ∷ rs)) ≡ cost_of l + left_edge (ls ++ x ∷ rs) = ap (λ b. if b then cost_of l + left_edge (ls ++ x ∷ rs) else cost_of l) k.0 in
    let s = sum_by-cons cost_of l ls in
    let m : cost_of l + (sum_by cost_of ls + cost_of x) ≡ (cost_of l + sum_by cost_of ls) + cost_of x = omega arith in
    a ∙ ap (λ n. cost_of l + n) (edge-first ls rs x k.1 e) ∙ m ∙ ap (λ n. n + cost_of x) (sym s)

pub ended-first : {S T : Type 0} (ls rs : List (Slot S T)) (x : Slot S T) → list_all has_answer ls ≡ true → has_answer x ≡ false → ended_cost (ls ++ x ∷ rs) ≡ cost_of x
ended-first [] rs x h e = ap (λ b. if b then ended_cost rs else cost_of x) e
ended-first (l ∷ ls) rs x h e =
    let k = and_parts (has_answer l) (list_all has_answer ls) h in
    ap (λ b. if b then ended_cost (ls ++ x ∷ rs) else cost_of l) k.0 ∙ ended-first ls rs x k.1 e

pub ending-first : {S T : Type 0} (ls rs : List (Slot S T)) (x : Slot S T) → list_all has_answer ls ≡ true → has_answer x ≡ false → leftmost_ending (ls ++ x ∷ rs) ≡ ending_of x
ending-first [] rs x h e = ap (λ b. if b then leftmost_ending rs else ending_of x) e
ending-first (l ∷ ls) rs x h e =
    let k = and_parts (has_answer l) (list_all has_answer ls) h in
    ap (λ b. if b then leftmost_ending (ls ++ x ∷ rs) else ending_of l) k.0 ∙ ending-first ls rs x k.1 e

-- ---- verdicts

answered-stands : {S : Type 0} (y : Stand S) → stands_answered y ≡ true → is_failure (ends y) ≡ false
answered-stands (Answered a) h = refl
answered-stands (Replayed k) h = refl
answered-stands Ready h = refl
answered-stands Waiting h = refl
answered-stands (Running r) h = refl
answered-stands (Ended e c) h = absurd (false≢true h)
answered-stands GivenBack h = refl

pub answered-unfailed : {S T : Type 0} (xs : List (Slot S T)) → list_all has_answer xs ≡ true → list_any has_failed xs ≡ false
answered-unfailed [] h = refl
answered-unfailed (x ∷ xs) h = let k = and_parts (has_answer x) (list_all has_answer xs) h in ap₂ (λ a b. a || b) (answered-stands x.stand k.0) (answered-unfailed xs k.1)

pub first-failed : {S T : Type 0} (r c : ℕ) (ls rs : List (Slot S T)) (x : Slot S T) → list_any has_failed ls ≡ false → has_failed x ≡ true
    → in_first r c (ls ++ x ∷ rs) (position has_failed (ls ++ x ∷ rs)) ≡ after_failure r c ls (ls ++ x ∷ rs)
first-failed r c ls rs x h e =
    ap (in_first r c (ls ++ x ∷ rs)) (position-behind has_failed ls rs x h e) ∙ ap (λ zs. after_failure r c zs (ls ++ x ∷ rs)) (take-append_seam ls (x ∷ rs))

pub first-unfailed : {S T : Type 0} (r c : ℕ) (xs : List (Slot S T)) → list_any has_failed xs ≡ false → in_first r c xs (position has_failed xs) ≡ unless_failed r c xs
first-unfailed r c xs h = ap (in_first r c xs) (position-none has_failed xs h)

pub joined-by : {S T : Type 0} (r c : ℕ) (xs : List (Slot S T)) → list_all has_answer xs ≡ true → unless_failed r c xs ≡ charged r c (Joined c)
joined-by r c xs h = ap (λ b. if b then charged r c (Joined c) else by_ending r c (leftmost_ending xs)) h

all-fails : {A : Type 0} (f : A → Bool) (ls ms : List A) (y : A) → f y ≡ false → list_all f (ls ++ y ∷ ms) ≡ false
all-fails f [] ms y e = ap (λ b. b && list_all f ms) e
all-fails f (l ∷ ls) ms y e = ap (λ b. f l && b) (all-fails f ls ms y e) ∙ and-false (f l)
  where
    and-false : (b : Bool) → (b && false) ≡ false
    and-false true = refl
    and-false false = refl

pub edges : (S T : Type 0) → EdgeLaw S T
edges S T = record {
  answered = edge-answered;
  first_without = edge-first;
  drained = λ before ls rs x h e. ap (λ n. before + n) (ended-first ls rs x h e);
}

pub redos : (S T : Type 0) → RedoLaw S T
redos S T = record {
  rightmost_with_more = λ ls rs x e h. rightmost-here has_more ls rs x e h;
  none_with_more = λ xs h. rightmost-none has_more xs h;
}

drains-first : {S T : Type 0} (r : ℕ) (ls ms rs : List (Slot S T)) (y x : Slot S T) → list_all has_answer (ls ++ y ∷ ms) ≡ true → is_loud_with_more y ≡ true → list_any is_loud_with_more ms ≡ false → has_failed x ≡ true
    → judged r First ((ls ++ y ∷ ms) ++ x ∷ rs) ≡ charged r (left_edge ((ls ++ y ∷ ms) ++ x ∷ rs)) (Drain (length ls + 1) (r - left_edge ((ls ++ y ∷ ms) ++ x ∷ rs)))
drains-first {S} {T} r ls ms rs y x h e m f =
    first-failed r c (ls ++ y ∷ ms) rs x (answered-unfailed (ls ++ y ∷ ms) h) f
    ∙ ap (λ b. if b then charged r c (Broken c) else (if list_all has_answer (ls ++ y ∷ ms) then by (rightmost is_loud_with_more (ls ++ y ∷ ms)) else unless_failed r c xs)) harmful
    ∙ ap (λ b. if b then by (rightmost is_loud_with_more (ls ++ y ∷ ms)) else unless_failed r c xs) h
    ∙ ap by (rightmost-here is_loud_with_more ls ms y e m)
  where
    xs : List (Slot S T)
    xs = (ls ++ y ∷ ms) ++ x ∷ rs

    c : ℕ
    c = left_edge xs

    by : Option ℕ → Verdict
    by o = drains r c o (unless_failed r c xs)

    loud : y.is_loud ≡ true
    loud = (and_parts y.is_loud (has_more y) e).0

    harmful : are_harmless (ls ++ y ∷ ms) ≡ false
    harmful = ap₂ (λ a b. a || b) (all-fails is_quiet ls ms y (ap not loud)) (all-fails is_safe ls ms y (and_right (has_answer y) (not (is_loud_with_more y)) (not_from_true (is_loud_with_more y) e)))

pub verdicts : (S T : Type 0) → VerdictLaw S T
verdicts S T = record {
  breaks = λ r ls rs x h e k. first-failed r (left_edge (ls ++ x ∷ rs)) ls rs x h e
      ∙ ap (λ b. if b then charged r (left_edge (ls ++ x ∷ rs)) (Broken (left_edge (ls ++ x ∷ rs)))
      else (if list_all has_answer ls then drains r (left_edge (ls ++ x ∷ rs)) (rightmost is_loud_with_more ls) (unless_failed r (left_edge (ls ++ x ∷ rs)) (ls ++ x ∷ rs)) else unless_failed r (left_edge (ls ++ x ∷ rs)) (ls ++ x ∷ rs))) k;
  drains = drains-first;
  breaks_later = λ r j xs h. ap (λ b. if b then charged r (left_edge xs) (Broken (left_edge xs)) else unless_failed r (left_edge xs) xs) h;
  joins = λ r xs h. first-unfailed r (left_edge xs) xs (answered-unfailed xs h) ∙ joined-by r (left_edge xs) xs h ∙ ap (λ c. charged r c (Joined c)) (edge-answered xs h);
  joins_later = λ r j xs h. ap (λ b. if b then charged r (left_edge xs) (Broken (left_edge xs)) else unless_failed r (left_edge xs) xs) (answered-unfailed xs h)
      ∙ joined-by r (left_edge xs) xs h ∙ ap (λ c. charged r c (Joined c)) (edge-answered xs h);
  by_leftmost = λ r ls rs x h k e. first-unfailed r (left_edge (ls ++ x ∷ rs)) (ls ++ x ∷ rs) h
      ∙ ap (λ b. if b then charged r (left_edge (ls ++ x ∷ rs)) (Joined (left_edge (ls ++ x ∷ rs))) else by_ending r (left_edge (ls ++ x ∷ rs)) (leftmost_ending (ls ++ x ∷ rs))) (all-fails has_answer ls rs x e)
      ∙ ap₂ (by_ending r) (edge-first ls rs x k e) (ending-first ls rs x k e);
  closed = λ r xs. refl;
}
