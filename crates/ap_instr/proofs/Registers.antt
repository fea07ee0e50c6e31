-- Maps of registers, and the trees at places of one.
use Rattle.std.proofs.Common.{◌≡◌, ℕ, zero, suc, ◌+◌, ◌<◌, ◌≤◌, Bool, true, false, ◌==◌, if◌then◌else◌, refl, ap, ◌∙◌, arith}
use Rattle.std.proofs.lemmas.Bool.{eqb-true}
use Rattle.ap_term.specs.Tree.{Tree, more, count_trees}
use Rattle.ap_instr.specs.Runs.{set, spread}

pub set-above : (k : ℕ → Tree) (n w : ℕ) (t : Tree) → n < w → set k n t w ≡ k w
set-above k n w t l = go (w == n) refl
  where
    go : (b : Bool) → (w == n) ≡ b → (if b then t else k w) ≡ k w
    go true e = absurd (let q : w ≡ n = eqb-true w n e in omega arith)
    go false e = refl

pub count-spread : (k : ℕ → Tree) (p n : ℕ) → count_trees (spread k p n) ≡ n
count-spread k p zero = refl
count-spread k p (suc n) = let e = count-spread k (p + 1) n in omega arith

pub spread-agree : (k l : ℕ → Tree) (p m : ℕ) → ((w : ℕ) → p ≤ w → w < p + m → k w ≡ l w) → spread k p m ≡ spread l p m
spread-agree k l p zero h = refl
spread-agree k l p (suc m) h = ap (λ t. more t (spread k (p + 1) m)) (h p (omega arith) (omega arith)) ∙ ap (more (l p)) (spread-agree k l (p + 1) m (λ w b c. h w (omega arith) (omega arith)))
