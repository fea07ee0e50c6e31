-- Returns that are left behind one by one.
use Rattle.std.proofs.Common.{◌≡◌, ℕ, zero, suc, ◌+◌, ◌-◌, ◌≤◌, List, [], ◌∷◌, ◌++◌, length, drop, get_or, slice_get, Some, None, refl, sym, ap, ◌∙◌, subst, arith}
use Rattle.ap_environments.specs.declared.environments.Frame.{Frame}
use Rattle.ap_environments.specs.declared.environments.Point.{Point}
use Rattle.ap_environments.specs.Kept.{Forked}
use Rattle.ap_environments.specs.Frames.{chain, forked_of, Segments, segments, Rising, AreFrames}
use Rattle.ap_environments.proofs.Chains.{chain-at, last-kept, is-newest-fork}

-- nothing is left of what has been left behind
pub drop-none : {X : Type 0} (xs : List X) (m n : ℕ) → [] ≡ drop m xs → m ≤ n → [] ≡ drop n xs
drop-none [] m zero e l = refl
drop-none [] m (suc n) e l = refl
drop-none (x ∷ xs) zero n e l = cc
drop-none (x ∷ xs) (suc m) zero e l = absurd (omega arith)
drop-none (x ∷ xs) (suc m) (suc n) e l = drop-none xs m n e (omega arith)

pub drop-next : {X : Type 0} (xs ys : List X) (y : X) (n : ℕ) → y ∷ ys ≡ drop n xs → ys ≡ drop (n + 1) xs
drop-next [] ys y zero e = cc
drop-next [] ys y (suc n) e = cc
drop-next (x ∷ xs) ys y zero e = let f : ys ≡ xs = cc in f
drop-next (x ∷ xs) ys y (suc n) e = let q : suc (n + 1) ≡ suc n + 1 = omega arith in drop-next xs ys y n e ∙ ap (λ m. drop m (x ∷ xs)) q

pub first-dropped : {X : Type 0} (xs ys : List X) (y : X) (n : ℕ) → y ∷ ys ≡ drop n xs → slice_get xs n ≡ Some y
first-dropped [] ys y zero e = cc
first-dropped [] ys y (suc n) e = cc
first-dropped (x ∷ xs) ys y zero e = let f : x ≡ y = cc in ap Some f
first-dropped (x ∷ xs) ys y (suc n) e = first-dropped xs ys y n e

pub none-dropped : {X : Type 0} (xs : List X) (n : ℕ) → [] ≡ drop n xs → slice_get xs n ≡ None
none-dropped [] n e = refl
none-dropped (x ∷ xs) zero e = cc
none-dropped (x ∷ xs) (suc n) e = none-dropped xs n e

-- above the newest fork's own frame its returns stand
pub fork-returns : (ss : List ℕ) (fs : List Frame) (points qs : List Point) (q : Point) (s : Segments) (k : Forked) (ks : List Forked) (d : Frame) → AreFrames ss fs → Rising 0 points (length fs)
    → points ≡ qs ++ q ∷ [] → segments ss fs points ≡ s → s.moments ≡ [] → s.forks ≡ k ∷ ks → chain ss fs (get_or fs (q.frames - 1) d).up ≡ k.returns
fork-returns ss fs points qs q s k ks d h rising e v n f =
    let l = last-kept points qs q (length fs) e rising in
    let newest = is-newest-fork ss fs points qs q s k ks e v n f in
    ap (λ ws. (forked_of newest.0 ws k.moments).returns) (sym (chain-at ss fs q.frames (q.frames - 1) d h.up (omega arith) (omega arith))) ∙ ap (λ g. g.returns) newest.1

-- so many above them
pub fork-above : (ss : List ℕ) (fs gs : List Frame) (points qs : List Point) (q : Point) (s : Segments) (k : Forked) (ks : List Forked) (g : Frame) (top i : ℕ) → AreFrames ss fs → Rising 0 points (length fs)
    → points ≡ qs ++ q ∷ [] → segments ss fs points ≡ s → s.moments ≡ [] → s.forks ≡ k ∷ ks → g ≡ get_or fs (q.frames - 1) g → gs ≡ fs → ((us : List ℕ) → chain us gs top ≡ drop i (chain us gs g.up))
    → chain ss fs top ≡ drop i k.returns
fork-above ss fs gs points qs q s k ks g top i h rising e v n f own same up =
    subst (λ hs. chain ss hs top ≡ drop i (chain ss hs g.up)) same (up ss)
    ∙ ap (drop i) (ap (λ d. chain ss fs d.up) own ∙ fork-returns ss fs points qs q s k ks g h rising e v n f)
