-- Registers as maps.
use Rattle.std.proofs.Common.{◌≡◌, ℕ, ◌+◌, ◌<◌, ◌≤◌, ◌==◌, Bool, true, false, if◌then◌else◌, List, length, set, refl, ap, sym, ◌∙◌, arith}
use Rattle.std.proofs.lemmas.Bool.Decides.{Decides-eqb}
use Rattle.std.proofs.lemmas.Bool.{false≢true}
use Rattle.std.proofs.lemmas.List.{get_or-set_same, get_or-set_other}
use Rattle.ap_term.specs.Tree.{Tree}
use Rattle.ap_term.proofs.Facts.{funext}
use Rattle.ap_instr.specs.declared.instruction.Slot.{Slot}
use Rattle.ap_instr.specs.declared.instruction.Slot.TheVariants.{X, Y}
use Rattle.ap_instr.specs.Runs.{set as set_map, read, set_x, set_y}
use Rattle.ap_steps.specs.Moves.{held, HoldPlaces, HoldPlacesBut}

pub held-set : (xs : List ℕ) (n p : ℕ) → n < length xs → (w : ℕ) → held (set xs n p) w ≡ set_map (held xs) n p w
held-set xs n p h w = go (w == n) refl
  where
    go : (b : Bool) → (w == n) ≡ b → held (set xs n p) w ≡ (if b then p else held xs w)
    go true e = let q : w ≡ n = (Decides-eqb w n).0 e in ap (held (set xs n p)) q ∙ get_or-set_same xs n p 0 h
    go false e = get_or-set_other xs n w p 0 (λ q. absurd (false≢true (sym e ∙ (Decides-eqb w n).1 q)))

pub set-of : (k : ℕ → Tree) (r : ℕ → ℕ) (v p : ℕ) → (λ w. k (set_map r v p w)) ≡ set_map (λ w. k (r w)) v (k p)
set-of k r v p = funext (λ w. k (set_map r v p w)) (set_map (λ w. k (r w)) v (k p)) (λ w. go w (w == v))
  where
    go : (w : ℕ) (b : Bool) → k (if b then p else r w) ≡ (if b then k p else k (r w))
    go w true = refl
    go w false = refl

pub set_x-of : (k : ℕ → Tree) (v : Slot) (p : ℕ) (x : ℕ → ℕ) → (λ w. k (set_x v p x w)) ≡ set_x v (k p) (λ w. k (x w))
set_x-of k (X n) p x = set-of k x n p
set_x-of k (Y n) p x = refl

pub set_y-of : (k : ℕ → Tree) (v : Slot) (p : ℕ) (y : ℕ → ℕ) → (λ w. k (set_y v p y w)) ≡ set_y v (k p) (λ w. k (y w))
set_y-of k (X n) p y = refl
set_y-of k (Y n) p y = set-of k y n p

pub read-of : (k : ℕ → Tree) (v : Slot) (x y : ℕ → ℕ) → k (read v x y) ≡ read v (λ w. k (x w)) (λ w. k (y w))
read-of k (X n) x y = refl
read-of k (Y n) x y = refl

-- ---- registers that hold places, but for one that is to come

pub but-all : (n whole : ℕ) (xs : List ℕ) → HoldPlaces n xs → HoldPlacesBut whole n xs
but-all n whole xs h = λ w apart. h w

pub all-but : (n : ℕ) (xs : List ℕ) → ((whole : ℕ) → HoldPlacesBut whole n xs) → HoldPlaces n xs
all-but n xs h = λ w. h (held xs w + 1) w (λ e. absurd (omega arith))

-- after one is put
pub but-set : (n a whole : ℕ) (xs xs' : List ℕ) → HoldPlaces n xs → ((w : ℕ) → held xs' w ≡ set_map (held xs) a whole w) → HoldPlacesBut whole n xs'
but-set n a whole xs xs' h e = λ w apart. go w apart (w == a) refl
  where
    go : (w : ℕ) → (held xs' w ≡ whole → ⊥) → (b : Bool) → (w == a) ≡ b → held xs' w < n
    go w apart true q = absurd (apart (e w ∙ ap (λ b. if b then whole else held xs w) q))
    go w apart false q = let p : held xs' w ≡ held xs w = e w ∙ ap (λ b. if b then whole else held xs w) q in let l : held xs w < n = h w in omega arith

-- it has come
pub but-come : (n m whole : ℕ) (xs : List ℕ) → HoldPlacesBut whole n xs → whole < m → n ≤ m → HoldPlaces m xs
but-come n m whole xs h l k = λ w. go w (held xs w == whole) refl
  where
    go : (w : ℕ) (b : Bool) → (held xs w == whole) ≡ b → held xs w < m
    go w true q = let e : held xs w ≡ whole = (Decides-eqb (held xs w) whole).0 q in omega arith
    go w false q = let b : held xs w < n = h w (λ e. false≢true (sym q ∙ (Decides-eqb (held xs w) whole).1 e)) in omega arith
