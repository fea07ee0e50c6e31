-- The section that waits at a place among those further out, and where nothing but the first place to look at has changed.
use Rattle.std.proofs.Common.{◌≡◌, ℕ, zero, suc, ◌<◌, ◌≤◌, List, [], ◌∷◌, ◌++◌, length, get_or, set, take, drop, slice_get, Some, ap, sym, ◌∙◌, subst, arith}
use Rattle.std.proofs.lemmas.List.{set-get_or, set_split}
use Rattle.std.proofs.lemmas.Option.{same_Some}
use Rattle.std.specs.List.{AllByRecursion}
use Rattle.ap_section.specs.Views.{view_of}
use Rattle.ap_section.specs.Slots.{IsAtFrame}
use Rattle.ap_instr.specs.Code.{Compiled}
use Rattle.ap_post.specs.declared.post.Post.{Post}
use Rattle.ap_stack.specs.declared.stack.Open.{Open}
use Rattle.ap_stack.specs.declared.stack.Stack.{Stack}
use Rattle.ap_stack.specs.Levels.{IsOpen, Rise}
use Rattle.ap_stack.specs.Stacks.{IsGood, Goes}
use Rattle.ap_stack.proofs.Elsewhere.{rise-at-most}
use Rattle.ap_term.proofs.Zips.{AllByRecursion-weaken}

-- ---- by its place

less-one : (k n : ℕ) → suc k < suc n → k < n
less-one k n h = omega arith

none-below : (k : ℕ) → k < 0 → ⊥
none-below k h = omega arith

pub at-place : {A : Type 0} (xs : List A) (k : ℕ) (e : A) → k < length xs → e ≡ get_or xs k e → slice_get xs k ≡ Some e
at-place [] k e there is = absurd (none-below k there)
at-place (x ∷ xs) zero e there is = ap (λ y. Some y) (sym is)
at-place (x ∷ xs) (suc k) e there is = at-place xs k e (less-one k (length xs) there) is

pub all-at : {A : Type 0} (P : A → Type 0) (xs : List A) (k : ℕ) (e : A) → AllByRecursion P xs → slice_get xs k ≡ Some e → P e
all-at P [] k e all is = cc
all-at P (x ∷ xs) zero e all is = subst P (same_Some _ _ is) all.0
all-at P (x ∷ xs) (suc k) e all is = all-at P xs k e all.1 is

pub frame-below : (es : List Open) (lo hi k : ℕ) (e : Open) → Rise lo es hi → slice_get es k ≡ Some e → suc e.frame ≤ hi
frame-below [] lo hi k e rise is = cc
frame-below (x ∷ es) lo hi zero e rise is = subst (λ (y : Open). suc y.frame ≤ hi) (same_Some _ _ is) (rise-at-most es (suc x.frame) hi rise.1)
frame-below (x ∷ es) lo hi (suc k) e rise is = frame-below es (suc x.frame) hi k e rise.1 is

pub number-below : (p : Post) (s : Stack) (k : ℕ) (e : Open) → IsGood p s → slice_get s.outer.items k ≡ Some e → e.frame < p.next
number-below p s k e good is =
    let last : suc e.frame ≤ s.frame = frame-below s.outer.items s.first s.frame k e good.rise is in
    let old : s.frame < p.next = good.below in
    omega arith

pub split-at : {A : Type 0} (xs : List A) (k : ℕ) (e : A) → k < length xs → e ≡ get_or xs k e → xs ≡ take k xs ++ e ∷ drop (suc k) xs
split-at xs k e there is = sym (set-get_or xs k e) ∙ ap (set xs k) (sym is) ∙ set_split xs k e there

pub all-at-frame : (code : Compiled) (p : Post) (es : List Open) → AllByRecursion (IsOpen code p) es → AllByRecursion (λ e. IsAtFrame (view_of e.section)) es
all-at-frame code p es all = AllByRecursion-weaken (IsOpen code p) (λ e. IsAtFrame (view_of e.section)) (λ e is. is.at_frame) es all

-- ---- the first place to look at

pub good-aged : (p : Post) (s : Stack) (k : ℕ) → IsGood p s → IsGood p (record s { oldest = k })
good-aged p s k good = record { ready = good.ready; outer = good.outer; at_frame = good.at_frame; none_out = good.none_out; out = good.out; rise = good.rise; below = good.below }

pub goes-aged : (p : Post) (s : Stack) (q : Post) (t : Stack) (k : ℕ) → Goes p (record s { oldest = k }) q t → Goes p s q t
goes-aged p s q t k goes = record {
  good = goes.good;
  sound = goes.sound;
  first = goes.first;
  carries = goes.carries;
  pays = λ b r o u tie h. goes.pays b r o u tie (record { given = h.given; paid = h.paid });
  below = goes.below;
  jobs = goes.jobs;
  next = goes.next;
}

pub goes-ages : (p : Post) (s : Stack) (q : Post) (t : Stack) (k : ℕ) → Goes p s q t → Goes p s q (record t { oldest = k })
goes-ages p s q t k goes = record { good = good-aged q t k goes.good; sound = goes.sound; first = goes.first; carries = goes.carries; pays = λ b r o u tie h. let k = goes.pays b r o u tie h in record { given = k.given; paid = k.paid }; below = goes.below; jobs = goes.jobs; next = goes.next }
