-- Arguments of a structure that is there, taken one by one.
use Rattle.std.proofs.Common.{◌≡◌, ℕ, ◌+◌, ◌<◌, ◌≤◌, Bool, true, false, List, [], ◌∷◌, length, refl, sym, ◌∙◌, subst, arith}
use Rattle.ap_term.specs.Tree.{Tree, Trees, more}
use Rattle.ap_term.proofs.Facts.{funext}
use Rattle.ap_cells.specs.declared.cells.Raw.{Raw}
use Rattle.ap_instr.specs.declared.instruction.Slot.{Slot}
use Rattle.ap_instr.specs.Step.{Step, unify_variable, unify_value, unify_constant}
use Rattle.ap_instr.specs.Runs.{Runs, spread, read, set_x, set_y}
use Rattle.ap_instr.proofs.Registers.{spread-agree}
use Rattle.ap_match.specs.Fits.{Answered}
use Rattle.ap_steps.specs.Moves.{held}
use Rattle.ap_steps.specs.Found.{MovesInside, IsStuckBefore, Matched}
use Rattle.ap_steps.proofs.RegisterMaps.{read-of}
use Rattle.ap_steps.proofs.Steps.{Runs-agree, Runs-written, Runs-unwritten}

-- ---- one argument after another

pub MovesInside-refl : (cs : List Raw) (x y : ℕ → ℕ) (js : List Step) (p m : ℕ) → MovesInside cs x y js p m cs x y js p m
MovesInside-refl cs x y js p m = record { longer = omega arith; forth = λ k bs h. (k, λ i b. refl, h); back = λ l bs h. h }

pub MovesInside-trans : (cs ds es : List Raw) (x y x' y' x'' y'' : ℕ → ℕ) (js is hs : List Step) (p m q n r o : ℕ)
    → MovesInside cs x y js p m ds x' y' is q n → MovesInside ds x' y' is q n es x'' y'' hs r o → MovesInside cs x y js p m es x'' y'' hs r o
MovesInside-trans cs ds es x y x' y' x'' y'' js is hs p m q n r o a b = record {
  longer = let c : length cs ≤ length ds = a.longer in let d : length ds ≤ length es = b.longer in omega arith;
  forth = λ k bs h.
      let c = a.forth k bs h in
      let d = b.forth c.0 bs c.2 in
      (d.0, λ i l. c.1 i l ∙ d.1 i (let e : length cs ≤ length ds = a.longer in omega arith), d.2);
  back = λ l bs h. a.back l bs (b.back l bs h);
}

pub MovesInside-stuck : (cs ds : List Raw) (x y x' y' : ℕ → ℕ) (js is : List Step) (p m q n : ℕ) → MovesInside cs x y js p m ds x' y' is q n → IsStuckBefore ds x' y' is q n → IsStuckBefore cs x y js p m
MovesInside-stuck cs ds x y x' y' js is p m q n a stuck k bs h = let c = a.forth k bs h in stuck c.0 bs c.2

-- ---- one argument

-- A step that asks something of the store and goes on with the same registers.
module _ (cs ds : List Raw) (x y : ℕ → ℕ) (inside_x : (w : ℕ) → x w < length cs) (inside_y : (w : ℕ) → y w < length cs) (i : Step) (p : ℕ) (asks : (ℕ → Tree) → Type 0)
    (means : (k : ℕ → Tree) (ts : Trees) (is : List Step) (bs : Trees) → Runs (i ∷ is) (more (k p) ts) (λ w. k (x w)) (λ w. k (y w)) bs → asks k × Runs is ts (λ w. k (x w)) (λ w. k (y w)) bs)
    (meant : (k : ℕ → Tree) (ts : Trees) (is : List Step) (bs : Trees) → asks k → Runs is ts (λ w. k (x w)) (λ w. k (y w)) bs → Runs (i ∷ is) (more (k p) ts) (λ w. k (x w)) (λ w. k (y w)) bs) where
  question-matched : (b : Bool) → Answered cs ds asks b → Matched cs x y i p ds x y b
  question-matched true becomes = λ m is less. record {
    longer = becomes.longer;
    forth = λ k bs h.
        let w = means k (spread k (p + 1) m) is bs h.1 in
        let e = becomes.each k h.0 w.0 in
        let r = Runs-agree (length cs) k e.0 e.1 x y inside_x inside_y is (spread k (p + 1) m) bs w.1 in
        (e.0, e.1, (e.2, subst (λ ts. Runs is ts (λ w. e.0 (x w)) (λ w. e.0 (y w)) bs) (spread-agree k e.0 (p + 1) m (λ w a b. e.1 w (omega arith))) r));
    back = λ l bs h. let o = becomes.only l h.0 in (o.0, meant l (spread l (p + 1) m) is bs o.1 h.1);
  }
  question-matched false never = λ m is less k bs h. never k h.0 (means k (spread k (p + 1) m) is bs h.1).0

module _ (cs ds : List Raw) (x y : ℕ → ℕ) (inside_x : (w : ℕ) → x w < length cs) (inside_y : (w : ℕ) → y w < length cs) where
  pub value-matched : (v : Slot) (p : ℕ) (b : Bool) → Answered cs ds (λ k. k (read v x y) ≡ k p) b → Matched cs x y (unify_value v) p ds x y b
  value-matched v p b answer =
      question-matched cs ds x y inside_x inside_y (unify_value v) p (λ k. k (read v x y) ≡ k p)
      (λ k ts is bs r. (read-of k v x y ∙ r.0, r.1)) (λ k ts is bs e r. (sym (read-of k v x y) ∙ e, r)) b answer

  pub constant-matched : (t : Tree) (p : ℕ) (b : Bool) → Answered cs ds (λ k. k p ≡ t) b → Matched cs x y (unify_constant t) p ds x y b
  constant-matched t p b answer = question-matched cs ds x y inside_x inside_y (unify_constant t) p (λ k. k p ≡ t) (λ k ts is bs r. (r.0, r.1)) (λ k ts is bs e r. (e, r)) b answer

-- no cell is touched
pub variable-matched : (cs : List Raw) (x x' y y' : List ℕ) (v : Slot) (p : ℕ) → ((w : ℕ) → held x' w ≡ set_x v p (held x) w) → ((w : ℕ) → held y' w ≡ set_y v p (held y) w)
    → Matched cs (held x) (held y) (unify_variable v) p cs (held x') (held y') true
variable-matched cs x x' y y' v p ex ey =
    subst (λ u. Matched cs (held x) (held y) (unify_variable v) p cs u (held y') true) (sym (funext (held x') (set_x v p (held x)) ex))
    (subst (λ u. Matched cs (held x) (held y) (unify_variable v) p cs (set_x v p (held x)) u true) (sym (funext (held y') (set_y v p (held y)) ey)) matched)
  where
    matched : Matched cs (held x) (held y) (unify_variable v) p cs (set_x v p (held x)) (set_y v p (held y)) true
    matched m is less = record {
      longer = omega arith;
      forth = λ k bs h. (k, λ i b. refl, (h.0, Runs-written is (spread k (p + 1) m) bs k v p (k p) (held x) (held y) refl h.1));
      back = λ l bs h. (h.0, Runs-unwritten is (spread l (p + 1) m) bs l v p (l p) (held x) (held y) refl h.1);
    }

-- the code ends before the argument
pub MovesInside-end : (cs ds : List Raw) (x y x' y' : ℕ → ℕ) (js : List Step) (p m q n : ℕ) → MovesInside cs x y js p m ds x' y' [] q n → IsStuckBefore cs x y js p m
MovesInside-end cs ds x y x' y' js p m q n a k bs h = (a.forth k bs h).2.1
