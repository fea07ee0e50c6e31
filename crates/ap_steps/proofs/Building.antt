-- Arguments of a structure that are pushed one by one.
use Rattle.std.proofs.Common.{◌≡◌, ℕ, suc, ◌+◌, ◌<◌, List, ◌∷◌, length, refl, ap, sym, ◌∙◌, subst}
use Rattle.ap_term.specs.Tree.{Tree, Trees}
use Rattle.ap_term.proofs.Facts.{funext}
use Rattle.ap_cells.specs.declared.cells.Raw.{Raw}
use Rattle.ap_cells.specs.declared.cells.Raw.TheVariants.{Same}
use Rattle.ap_instr.specs.declared.instruction.Slot.{Slot}
use Rattle.ap_instr.specs.declared.instruction.Slot.TheVariants.{X, Y}
use Rattle.ap_instr.specs.Step.{Step, unify_variable, unify_value, unify_constant}
use Rattle.ap_instr.specs.Runs.{Runs, spread, read, set_x, set_y}
use Rattle.ap_match.specs.Fits.{Fits, cell_tree, Becomes}
use Rattle.ap_steps.specs.Moves.{held, HoldPlacesBut}
use Rattle.ap_steps.specs.Arguments.{Built}
use Rattle.ap_steps.proofs.RegisterMaps.{read-of}
use Rattle.ap_steps.proofs.Steps.{Runs-written, Runs-unwritten}

-- a push, by the place that it gives
module _ (cs ds : List Raw) (c : Raw) (p : ℕ) (end : p ≡ length cs) (len : length ds ≡ length cs + 1) (becomes : Becomes cs ds (λ k. Unit {0}) (λ k. k p ≡ cell_tree k p c)) (fits : (k : ℕ → Tree) → Fits cs k → k p ≡ cell_tree k p c → Fits ds k) where
  only : (l : ℕ → Tree) → Fits ds l → Fits cs l × (l (length cs) ≡ cell_tree l (length cs) c)
  only l h = let o = becomes.only l h in (o.0, subst (λ n. l n ≡ cell_tree l n c) end o.2)

  all : (l : ℕ → Tree) → Fits cs l → l (length cs) ≡ cell_tree l (length cs) c → Fits ds l
  all l h e = fits l h (subst (λ n. l n ≡ cell_tree l n c) (sym end) e)

  -- a step that asks for what the cell says, and goes on with the same registers
  pub pushed-built : (x y : ℕ → ℕ) (i : Step)
      → ((l : ℕ → Tree) (m : ℕ) (is : List Step) (bs : Trees) → Runs (i ∷ is) (spread l (length cs) (suc m)) (λ w. l (x w)) (λ w. l (y w)) bs → (l (length cs) ≡ cell_tree l (length cs) c) × Runs is (spread l (length cs + 1) m) (λ w. l (x w)) (λ w. l (y w)) bs)
      → ((l : ℕ → Tree) (m : ℕ) (is : List Step) (bs : Trees) → l (length cs) ≡ cell_tree l (length cs) c → Runs is (spread l (length cs + 1) m) (λ w. l (x w)) (λ w. l (y w)) bs → Runs (i ∷ is) (spread l (length cs) (suc m)) (λ w. l (x w)) (λ w. l (y w)) bs)
      → Built cs x y i ds x y
  pushed-built x y i means meant = record {
    longer = len;
    forth = λ l m is bs h. let r = means l m is bs h.1 in (all l h.0 r.0, r.1);
    back = λ l m is bs h. let o = only l h.0 in (o.0, meant l m is bs o.1 h.1);
  }

pub constant-built : (cs ds : List Raw) (c : Raw) (p : ℕ) → p ≡ length cs → length ds ≡ length cs + 1 → Becomes cs ds (λ k. Unit {0}) (λ k. k p ≡ cell_tree k p c) → ((k : ℕ → Tree) → Fits cs k → k p ≡ cell_tree k p c → Fits ds k)
    → (t : Tree) → ((k : ℕ → Tree) → cell_tree k (length cs) c ≡ t) → (x y : ℕ → ℕ) → Built cs x y (unify_constant t) ds x y
constant-built cs ds c p end len b f t is_t x y =
    pushed-built cs ds c p end len b f x y (unify_constant t) (λ l m is bs r. (r.0 ∙ sym (is_t l), r.1)) (λ l m is bs e r. (e ∙ is_t l, r))

pub value-built : (cs ds : List Raw) (q p : ℕ) → p ≡ length cs → length ds ≡ length cs + 1 → Becomes cs ds (λ k. Unit {0}) (λ k. k p ≡ k q) → ((k : ℕ → Tree) → Fits cs k → k p ≡ k q → Fits ds k)
    → (x y : ℕ → ℕ) (v : Slot) → q ≡ read v x y → Built cs x y (unify_value v) ds x y
value-built cs ds q p end len b f x y v e =
    pushed-built cs ds (Same q) p end len b f x y (unify_value v) (λ l m is bs r. (sym (ap l e ∙ read-of l v x y ∙ r.0), r.1)) (λ l m is bs d r. (sym (d ∙ ap l e ∙ read-of l v x y), r))

pub variable-built : (cs ds : List Raw) (p : ℕ) → p ≡ length cs → length ds ≡ length cs + 1 → Becomes cs ds (λ k. Unit {0}) (λ k. k p ≡ k p) → ((k : ℕ → Tree) → Fits cs k → k p ≡ k p → Fits ds k)
    → (x x' y y' : List ℕ) (v : Slot) → ((w : ℕ) → held x' w ≡ set_x v p (held x) w) → ((w : ℕ) → held y' w ≡ set_y v p (held y) w) → Built cs (held x) (held y) (unify_variable v) ds (held x') (held y')
variable-built cs ds p end len b f x x' y y' v ex ey =
    subst (λ u. Built cs (held x) (held y) (unify_variable v) ds u (held y')) (sym (funext (held x') (set_x v p (held x)) ex))
    (subst (λ u. Built cs (held x) (held y) (unify_variable v) ds (set_x v p (held x)) u) (sym (funext (held y') (set_y v p (held y)) ey)) built)
  where
    built : Built cs (held x) (held y) (unify_variable v) ds (set_x v p (held x)) (set_y v p (held y))
    built = record {
      longer = len;
      forth = λ l m is bs h. (f l h.0 refl, Runs-written is (spread l (length cs + 1) m) bs l v p (l (length cs)) (held x) (held y) (ap l end) h.1);
      back = λ l m is bs h. ((b.only l h.0).0, Runs-unwritten is (spread l (length cs + 1) m) bs l v p (l (length cs)) (held x) (held y) (ap l end) h.1);
    }

-- a register that doesn't hold the place that is to come holds a place
pub read-but : (whole n : ℕ) (x y : List ℕ) (v : Slot) → HoldPlacesBut whole n x → HoldPlacesBut whole n y → (read v (held x) (held y) ≡ whole → ⊥) → read v (held x) (held y) < n
read-but whole n x y (X m) hx hy = hx m
read-but whole n x y (Y m) hx hy = hy m
