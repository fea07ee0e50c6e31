-- Each instruction keeps what code asks for.
use Rattle.std.proofs.Common.{◌≡◌, ℕ, ◌<◌, ◌≤◌, Bool, true, false, List, ◌∷◌, length, refl, ap, sym, ◌∙◌, subst, arith}
use Rattle.ap_term.specs.Tree.{Tree, Trees, none}
use Rattle.ap_term.proofs.Facts.{funext}
use Rattle.ap_cells.specs.declared.cells.Raw.{Raw}
use Rattle.ap_instr.specs.declared.instruction.Slot.{Slot}
use Rattle.ap_instr.specs.Step.{Step, get_variable, get_value, get_constant, put_variable, put_value, put_constant}
use Rattle.ap_instr.specs.Runs.{Runs, set, read, set_x, set_y}
use Rattle.ap_match.specs.Fits.{Fits, Agree, Becomes, Answered}
use Rattle.ap_match.proofs.Maps.{fits-agree, set-here, set-below}
use Rattle.ap_steps.specs.Moves.{Moves, IsStuck, Taken}
use Rattle.ap_steps.proofs.RegisterMaps.{set-of, set_x-of, set_y-of, read-of}

-- ---- one after another

pub Moves-trans : (cs ds es : List Raw) (x y x' y' x'' y'' : ℕ → ℕ) (js is hs : List Step) → Moves cs x y js ds x' y' is → Moves ds x' y' is es x'' y'' hs → Moves cs x y js es x'' y'' hs
Moves-trans cs ds es x y x' y' x'' y'' js is hs m n = record {
  longer = let a : length cs ≤ length ds = m.longer in let b : length ds ≤ length es = n.longer in omega arith;
  forth = λ k bs h.
      let a = m.forth k bs h in
      let b = n.forth a.0 bs a.2 in
      (b.0, λ i c. a.1 i c ∙ b.1 i (let d : length cs ≤ length ds = m.longer in omega arith), b.2);
  back = λ l bs h. m.back l bs (n.back l bs h);
}

pub Moves-stuck : (cs ds : List Raw) (x y x' y' : ℕ → ℕ) (js is : List Step) → Moves cs x y js ds x' y' is → IsStuck ds x' y' is → IsStuck cs x y js
Moves-stuck cs ds x y x' y' js is m s k bs h = let a = m.forth k bs h in s a.0 bs a.2

-- ---- registers under maps that agree

module _ (n : ℕ) (k l : ℕ → Tree) (a : Agree n k l) where
  pub same-held : (x : ℕ → ℕ) → ((w : ℕ) → x w < n) → ◌≡◌ {A = ℕ → Tree} (λ w. k (x w)) (λ w. l (x w))
  same-held x h = funext (λ w. k (x w)) (λ w. l (x w)) (λ w. a (x w) (h w))

  pub Runs-agree : (x y : ℕ → ℕ) → ((w : ℕ) → x w < n) → ((w : ℕ) → y w < n) → (is : List Step) (ts bs : Trees) → Runs is ts (λ w. k (x w)) (λ w. k (y w)) bs → Runs is ts (λ w. l (x w)) (λ w. l (y w)) bs
  Runs-agree x y hx hy is ts bs r = subst (λ v. Runs is ts v (λ w. l (y w)) bs) (same-held x hx) (subst (λ v. Runs is ts (λ w. k (x w)) v bs) (same-held y hy) r)

-- the step's own maps are those of the registers that were written
pub Runs-written : (is : List Step) (ts bs : Trees) (k : ℕ → Tree) (v : Slot) (p : ℕ) (t : Tree) (x y : ℕ → ℕ) → k p ≡ t
    → Runs is ts (set_x v t (λ w. k (x w))) (set_y v t (λ w. k (y w))) bs → Runs is ts (λ w. k (set_x v p x w)) (λ w. k (set_y v p y w)) bs
Runs-written is ts bs k v p t x y e r =
    subst (λ u. Runs is ts u (λ w. k (set_y v p y w)) bs) (sym (set_x-of k v p x))
    (subst (λ u. Runs is ts (set_x v (k p) (λ w. k (x w))) u bs) (sym (set_y-of k v p y))
    (subst (λ u. Runs is ts (set_x v u (λ w. k (x w))) (set_y v u (λ w. k (y w))) bs) (sym e) r))

pub Runs-unwritten : (is : List Step) (ts bs : Trees) (k : ℕ → Tree) (v : Slot) (p : ℕ) (t : Tree) (x y : ℕ → ℕ) → k p ≡ t
    → Runs is ts (λ w. k (set_x v p x w)) (λ w. k (set_y v p y w)) bs → Runs is ts (set_x v t (λ w. k (x w))) (set_y v t (λ w. k (y w))) bs
Runs-unwritten is ts bs k v p t x y e r =
    subst (λ u. Runs is ts (set_x v u (λ w. k (x w))) (set_y v u (λ w. k (y w))) bs) e
    (subst (λ u. Runs is ts (set_x v (k p) (λ w. k (x w))) u bs) (set_y-of k v p y)
    (subst (λ u. Runs is ts u (λ w. k (set_y v p y w)) bs) (set_x-of k v p x) r))

-- the same of one X register
pub Runs-set : (is : List Step) (ts bs : Trees) (k : ℕ → Tree) (a p : ℕ) (t : Tree) (x : ℕ → ℕ) (y : ℕ → Tree) → k p ≡ t → Runs is ts (set (λ w. k (x w)) a t) y bs → Runs is ts (λ w. k (set x a p w)) y bs
Runs-set is ts bs k a p t x y e r = subst (λ u. Runs is ts u y bs) (sym (set-of k x a p)) (subst (λ u. Runs is ts (set (λ w. k (x w)) a u) y bs) (sym e) r)

pub Runs-unset : (is : List Step) (ts bs : Trees) (k : ℕ → Tree) (a p : ℕ) (t : Tree) (x : ℕ → ℕ) (y : ℕ → Tree) → k p ≡ t → Runs is ts (λ w. k (set x a p w)) y bs → Runs is ts (set (λ w. k (x w)) a t) y bs
Runs-unset is ts bs k a p t x y e r = subst (λ u. Runs is ts (set (λ w. k (x w)) a u) y bs) e (subst (λ u. Runs is ts u y bs) (set-of k x a p) r)

-- ---- steps that look at the store

-- no cell is touched
pub variable-taken : (cs : List Raw) (x y : ℕ → ℕ) (v : Slot) (a : ℕ) → Taken cs x y (get_variable v a) cs (set_x v (x a) x) (set_y v (x a) y) true
variable-taken cs x y v a is = record {
  longer = omega arith;
  forth = λ k bs h. (k, λ i b. refl, (h.0, Runs-written is none bs k v (x a) (k (x a)) x y refl h.1));
  back = λ l bs h. (h.0, Runs-unwritten is none bs l v (x a) (l (x a)) x y refl h.1);
}

-- A step that asks something of the store and goes on with the same registers.
module _ (cs ds : List Raw) (x y : ℕ → ℕ) (inside_x : (w : ℕ) → x w < length cs) (inside_y : (w : ℕ) → y w < length cs) (i : Step) (asks : (ℕ → Tree) → Type 0)
    (means : (k : ℕ → Tree) (is : List Step) (bs : Trees) → Runs (i ∷ is) none (λ w. k (x w)) (λ w. k (y w)) bs → asks k × Runs is none (λ w. k (x w)) (λ w. k (y w)) bs)
    (meant : (k : ℕ → Tree) (is : List Step) (bs : Trees) → asks k → Runs is none (λ w. k (x w)) (λ w. k (y w)) bs → Runs (i ∷ is) none (λ w. k (x w)) (λ w. k (y w)) bs) where
  pub question-taken : (b : Bool) → Answered cs ds asks b → Taken cs x y i ds x y b
  question-taken true becomes = λ is. record {
    longer = becomes.longer;
    forth = λ k bs h.
        let m = means k is bs h.1 in
        let e = becomes.each k h.0 m.0 in
        (e.0, e.1, (e.2, Runs-agree (length cs) k e.0 e.1 x y inside_x inside_y is none bs m.1));
    back = λ l bs h. let o = becomes.only l h.0 in (o.0, meant l is bs o.1 h.1);
  }
  question-taken false never = λ is k bs h. never k h.0 (means k is bs h.1).0

module _ (cs ds : List Raw) (x y : ℕ → ℕ) (inside_x : (w : ℕ) → x w < length cs) (inside_y : (w : ℕ) → y w < length cs) where
  pub value-taken : (v : Slot) (a : ℕ) (b : Bool) → Answered cs ds (λ k. k (read v x y) ≡ k (x a)) b → Taken cs x y (get_value v a) ds x y b
  value-taken v a b answer =
      question-taken cs ds x y inside_x inside_y (get_value v a) (λ k. k (read v x y) ≡ k (x a))
      (λ k is bs r. (read-of k v x y ∙ r.0, r.1)) (λ k is bs e r. (sym (read-of k v x y) ∙ e, r)) b answer

  pub constant-taken : (t : Tree) (a : ℕ) (b : Bool) → Answered cs ds (λ k. k (x a) ≡ t) b → Taken cs x y (get_constant t a) ds x y b
  constant-taken t a b answer = question-taken cs ds x y inside_x inside_y (get_constant t a) (λ k. k (x a) ≡ t) (λ k is bs r. (r.0, r.1)) (λ k is bs e r. (e, r)) b answer

-- ---- steps that write an argument register

pub put_value-taken : (cs : List Raw) (x y : ℕ → ℕ) (v : Slot) (a : ℕ) → Taken cs x y (put_value v a) cs (set x a (read v x y)) y true
put_value-taken cs x y v a is = record {
  longer = omega arith;
  forth = λ k bs h. (k, λ i b. refl, (h.0, Runs-set is none bs k a (read v x y) (read v (λ w. k (x w)) (λ w. k (y w))) x (λ w. k (y w)) (read-of k v x y) h.1));
  back = λ l bs h. (h.0, Runs-unset is none bs l a (read v x y) (read v (λ w. l (x w)) (λ w. l (y w))) x (λ w. l (y w)) (read-of l v x y) h.1);
}

-- a new cell that is a constant
pub put_constant-taken : (cs ds : List Raw) (x y : ℕ → ℕ) → ((w : ℕ) → x w < length cs) → ((w : ℕ) → y w < length cs) → (t : Tree) (a p : ℕ) → Becomes cs ds (λ k. Unit {0}) (λ k. k p ≡ t)
    → Taken cs x y (put_constant t a) ds (set x a p) y true
put_constant-taken cs ds x y inside_x inside_y t a p becomes is = record {
  longer = becomes.longer;
  forth = λ k bs h.
      let e = becomes.each k h.0 tt in
      let l : ℕ → Tree = e.0 in (
        l,
        e.1,
        (
          e.2,
          Runs-set is none bs l a p t x (λ w. l (y w)) (becomes.only l e.2).2
              (subst (λ u. Runs is none (set u a t) (λ w. l (y w)) bs) (same-held (length cs) k l e.1 x inside_x)
              (subst (λ u. Runs is none (set (λ w. k (x w)) a t) u bs) (same-held (length cs) k l e.1 y inside_y) h.1)),
        ),
      );
  back = λ l bs h. let o = becomes.only l h.0 in (o.0, Runs-unset is none bs l a p t x (λ w. l (y w)) o.2 h.1);
}

-- a new free cell at the end, for a variable and an argument
pub put_variable-taken : (cs ds : List Raw) (x y : ℕ → ℕ) → ((w : ℕ) → x w < length cs) → ((w : ℕ) → y w < length cs) → (v : Slot) (a p : ℕ) → p ≡ length cs → length cs ≤ length ds
    → ((k : ℕ → Tree) → Fits ds k → Fits cs k) → ((k : ℕ → Tree) → Fits cs k → Fits ds k) → Taken cs x y (put_variable v a) ds (set (set_x v p x) a p) (set_y v p y) true
put_variable-taken cs ds x y inside_x inside_y v a p end longer only all is = record {
  longer = longer;
  forth = λ k bs h.
      let t : Tree = h.1.0 in
      let l : ℕ → Tree = set k p t in
      let here : l p ≡ t = set-here k p t in
      let agree : Agree (length cs) k l = λ i b. sym (set-below k p i t (omega arith)) in (
        l,
        agree,
        (
          all l (fits-agree cs k l agree h.0),
          written is bs l t here
              (subst (λ u. Runs is none (set (set_x v t u) a t) (set_y v t (λ w. l (y w))) bs) (same-held (length cs) k l agree x inside_x)
              (subst (λ u. Runs is none (set (set_x v t (λ w. k (x w))) a t) (set_y v t u) bs) (same-held (length cs) k l agree y inside_y) h.1.1)),
        ),
      );
  back = λ l bs h. (only l h.0, (l p, unwritten is bs l h.1));
}
  where
    -- the maps after both registers are written
    whole_x : (l : ℕ → Tree) → (λ w. l (set (set_x v p x) a p w)) ≡ set (set_x v (l p) (λ w. l (x w))) a (l p)
    whole_x l = set-of l (set_x v p x) a p ∙ ap (λ u. set u a (l p)) (set_x-of l v p x)

    written : (is : List Step) (bs : Trees) (l : ℕ → Tree) (t : Tree) → l p ≡ t → Runs is none (set (set_x v t (λ w. l (x w))) a t) (set_y v t (λ w. l (y w))) bs → Runs is none (λ w. l (set (set_x v p x) a p w)) (λ w. l (set_y v p y w)) bs
    written is bs l t e r =
        subst (λ u. Runs is none u (λ w. l (set_y v p y w)) bs) (sym (whole_x l))
        (subst (λ u. Runs is none (set (set_x v (l p) (λ w. l (x w))) a (l p)) u bs) (sym (set_y-of l v p y))
        (subst (λ u. Runs is none (set (set_x v u (λ w. l (x w))) a u) (set_y v u (λ w. l (y w))) bs) (sym e) r))

    unwritten : (is : List Step) (bs : Trees) (l : ℕ → Tree) → Runs is none (λ w. l (set (set_x v p x) a p w)) (λ w. l (set_y v p y w)) bs → Runs is none (set (set_x v (l p) (λ w. l (x w))) a (l p)) (set_y v (l p) (λ w. l (y w))) bs
    unwritten is bs l r =
        subst (λ u. Runs is none (set (set_x v (l p) (λ w. l (x w))) a (l p)) u bs) (set_y-of l v p y)
        (subst (λ u. Runs is none u (λ w. l (set_y v p y w)) bs) (whole_x l) r)
