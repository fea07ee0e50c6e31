-- The steps that instructions take, by what their registers hold.
use Rattle.std.proofs.Common.{◌≡◌, ℕ, ◌+◌, ◌≤◌, Bool, true, false, List, ◌∷◌, length, refl, ap, sym, ◌∙◌, subst, arith}
use Rattle.ap_term.specs.Tree.{Tree}
use Rattle.ap_term.proofs.Facts.{funext}
use Rattle.ap_cells.specs.declared.cells.Raw.{Raw}
use Rattle.ap_instr.specs.declared.instruction.Slot.{Slot}
use Rattle.ap_instr.specs.Code.{Compiled}
use Rattle.ap_instr.specs.declared.instruction.Instr.{Instr}
use Rattle.ap_instr.specs.Step.{Step, get_variable, put_variable, put_value, put_constant, frame, step_of}
use Rattle.ap_instr.specs.Steps.{steps_from}
use Rattle.ap_cells.specs.Store.{Store}
use Rattle.ap_instr.specs.Runs.{set, read, set_x, set_y}
use Rattle.ap_needs.specs.Needs.{is_transfer, cells_of}
use Rattle.ap_match.specs.Fits.{Fits, cell_tree, Becomes}
use Rattle.ap_steps.specs.Moves.{held, HoldPlaces, Moves, Taken}
use Rattle.ap_steps.specs.declared.run.Outcome.TheVariants.{On}
use Rattle.ap_steps.specs.Ways.{came_to, NoneOfControl, StepTaken, CameTo}
use Rattle.ap_steps.proofs.Steps.{variable-taken, put_value-taken, put_constant-taken, put_variable-taken}

-- a new cell that says which constant its place is
pub becomes_constant : (cs ds : List Raw) (t : Tree) (p n : ℕ) (c : Raw) → p ≡ n → ((k : ℕ → Tree) → cell_tree k n c ≡ t) → Becomes cs ds (λ k. Unit {0}) (λ k. k p ≡ cell_tree k p c) → Becomes cs ds (λ k. Unit {0}) (λ k. k p ≡ t)
becomes_constant cs ds t p n c e is b = record {
  longer = b.longer;
  only = λ k h. let o = b.only k h in (o.0, tt, o.2 ∙ ap (λ q. cell_tree k q c) e ∙ is k);
  each = b.each;
}

pub got_variable : (cs : List Raw) (x x' y y' : List ℕ) (v : Slot) (a p : ℕ) → p ≡ held x a → ((w : ℕ) → held x' w ≡ set_x v p (held x) w) → ((w : ℕ) → held y' w ≡ set_y v p (held y) w)
    → Taken cs (held x) (held y) (get_variable v a) cs (held x') (held y') true
got_variable cs x x' y y' v a p e ex ey =
    subst (λ u. Taken cs (held x) (held y) (get_variable v a) cs u (held y') true) (sym (funext (held x') (set_x v p (held x)) ex))
    (subst (λ u. Taken cs (held x) (held y) (get_variable v a) cs (set_x v p (held x)) u true) (sym (funext (held y') (set_y v p (held y)) ey))
    (subst (λ q. Taken cs (held x) (held y) (get_variable v a) cs (set_x v q (held x)) (set_y v q (held y)) true) (sym e) (variable-taken cs (held x) (held y) v a)))

pub put_value_done : (cs : List Raw) (x x' y : List ℕ) (v : Slot) (a p : ℕ) → p ≡ read v (held x) (held y) → ((w : ℕ) → held x' w ≡ set (held x) a p w) → Taken cs (held x) (held y) (put_value v a) cs (held x') (held y) true
put_value_done cs x x' y v a p e ex =
    subst (λ u. Taken cs (held x) (held y) (put_value v a) cs u (held y) true) (sym (funext (held x') (set (held x) a p) ex))
    (subst (λ q. Taken cs (held x) (held y) (put_value v a) cs (set (held x) a q) (held y) true) (sym e) (put_value-taken cs (held x) (held y) v a))

pub put_constant_done : (cs ds : List Raw) (x x' y : List ℕ) → HoldPlaces (length cs) x → HoldPlaces (length cs) y → (t : Tree) (a p : ℕ) → Becomes cs ds (λ k. Unit {0}) (λ k. k p ≡ t) → ((w : ℕ) → held x' w ≡ set (held x) a p w)
    → Taken cs (held x) (held y) (put_constant t a) ds (held x') (held y) true
put_constant_done cs ds x x' y hx hy t a p b ex =
    subst (λ u. Taken cs (held x) (held y) (put_constant t a) ds u (held y) true) (sym (funext (held x') (set (held x) a p) ex)) (put_constant-taken cs ds (held x) (held y) hx hy t a p b)

pub put_variable_done : (cs ds : List Raw) (x xm x' y y' : List ℕ) → HoldPlaces (length cs) x → HoldPlaces (length cs) y → (v : Slot) (a p : ℕ) → p ≡ length cs → Becomes cs ds (λ k. Unit {0}) (λ k. k p ≡ k p) → ((k : ℕ → Tree) → Fits cs k → k p ≡ k p → Fits ds k)
    → ((w : ℕ) → held xm w ≡ set_x v p (held x) w) → ((w : ℕ) → held x' w ≡ set (held xm) a p w) → ((w : ℕ) → held y' w ≡ set_y v p (held y) w) → Taken cs (held x) (held y) (put_variable v a) ds (held x') (held y') true
put_variable_done cs ds x xm x' y y' hx hy v a p e b all em ex ey =
    subst (λ u. Taken cs (held x) (held y) (put_variable v a) ds u (held y') true) (sym (funext (held x') (set (held xm) a p) ex))
    (subst (λ u. Taken cs (held x) (held y) (put_variable v a) ds (set u a p) (held y') true) (sym (funext (held xm) (set_x v p (held x)) em))
    (subst (λ u. Taken cs (held x) (held y) (put_variable v a) ds (set (set_x v p (held x)) a p) u true) (sym (funext (held y') (set_y v p (held y)) ey))
    (put_variable-taken cs ds (held x) (held y) hx hy v a p e b.longer (λ k h. (b.only k h).0) (λ k h. all k h refl))))

-- a step without arguments
pub plain-taken : (code : Compiled) (i : Step) (at : ℕ) (cs ds : List Raw) (x y x' y' : ℕ → ℕ) (b : Bool) → Taken cs x y i ds x' y' b → StepTaken code i at 0 cs x y ds x' y' b
plain-taken code i at cs ds x y x' y' true t = let q : at ≡ at + 0 = omega arith in subst (λ n. Moves cs x y (i ∷ steps_from code at) ds x' y' (steps_from code n)) q (t (steps_from code at))
plain-taken code i at cs ds x y x' y' false t = t (steps_from code at)

-- an instruction that was taken, or can't be
pub came : (code : Compiled) (i : Instr) (at n : ℕ) (v w : Store) (x y x' y' : List ℕ) (b : Bool) → is_transfer i ≡ false → StepTaken code (step_of code i) at n v.cells (held x) (held y) w.cells (held x') (held y') b
    → (b ≡ true → NoneOfControl code.instructions at n) → (b ≡ true → HoldPlaces (length w.cells) x') → (b ≡ true → HoldPlaces (length w.cells) y') → (b ≡ true → v.spare ≤ w.spare + cells_of i) → CameTo code i at v x y (came_to b n) w x' y'
came code i at n v w x y x' y' true e t arguments hx hy spare = record { goes_on = e; arguments = arguments refl; moves = t; holds_x = hx refl; holds_y = hy refl; spare = spare refl }
came code i at n v w x y x' y' false e t arguments hx hy spare = (e, t)

-- one without arguments
pub came-plain : (code : Compiled) (i : Instr) (at : ℕ) (v w : Store) (x y x' y' : List ℕ) (b : Bool) → is_transfer i ≡ false → Taken v.cells (held x) (held y) (step_of code i) w.cells (held x') (held y') b
    → (b ≡ true → HoldPlaces (length w.cells) x') → (b ≡ true → HoldPlaces (length w.cells) y') → (b ≡ true → v.spare ≤ w.spare + cells_of i) → CameTo code i at v x y (came_to b 0) w x' y'
came-plain code i at v w x y x' y' b e t hx hy spare = came code i at 0 v w x y x' y' b e (plain-taken code (step_of code i) at v.cells w.cells (held x) (held y) (held x') (held y') b t) (λ p k l. absurd (omega arith)) hx hy spare

-- one that makes an environment, or gives it back
pub frame-came : (code : Compiled) (i : Instr) (at : ℕ) (v : Store) (x y : List ℕ) → is_transfer i ≡ false → step_of code i ≡ frame → HoldPlaces (length v.cells) x → HoldPlaces (length v.cells) y → CameTo code i at v x y (On 0) v x y
frame-came code i at v x y e f hx hy =
    came-plain code i at v v x y x y true e
    (subst (λ s. Taken v.cells (held x) (held y) s v.cells (held x) (held y) true) (sym f) (λ is. record { longer = omega arith; forth = λ k bs h. (k, λ j b. refl, h); back = λ l bs h. h }))
    (λ p. hx) (λ p. hy) (λ p. omega arith)
