-- The values of expressions whose operands are integers, and of goals of them.
use Rattle.std.proofs.Common.{◌≡◌, ℕ, ℤ, ◌+◌, ◌<◌, ◌≤◌, ◌==◌, Bool, true, false, if◌then◌else◌, List, length, Option, Some, None, Result, Ok, Err, refl, ap, ap₂, sym, ◌∙◌, subst, arith}
use Rattle.std.specs.Prelude.{IfSome}
use Rattle.std.specs.Result.{result_ok}
use Rattle.ap_term.specs.declared.builtins.Operation.{Operation}
use Rattle.ap_term.specs.declared.builtins.Operation.TheVariants.{Add, Subtract, Multiply, Divide, Remainder, Modulo}
use Rattle.ap_term.specs.Tree.{Tree, int, node}
use Rattle.ap_term.specs.declared.faults.Fault.{Fault}
use Rattle.ap_term.specs.Arithmetic.{evaluated, eval, value_of, applied, operation_named}
use Rattle.ap_cells.specs.declared.cells.Raw.{Raw}
use Rattle.ap_cells.specs.Trees.{tree_at, trees}
use Rattle.ap_instr.specs.declared.instruction.Slot.{Slot}
use Rattle.ap_instr.specs.declared.instruction.Slot.TheVariants.{X, Y}
use Rattle.ap_instr.specs.Runs.{read, set, set_x, set_y}
use Rattle.ap_match.specs.Fits.{Fits, Becomes, Answered}
use Rattle.ap_needs.specs.Needs.{HasRegister}
use Rattle.ap_steps.specs.Moves.{held, HoldPlaces}
use Rattle.ap_steps.proofs.RegisterMaps.{read-of}
use Rattle.ap_direct.specs.declared.goal.Operand.{Operand}
use Rattle.ap_direct.specs.declared.goal.Part.TheVariants.{Operand as One, Operation as Two}
use Rattle.ap_direct.specs.declared.goal.Goal.{Goal}
use Rattle.ap_direct.specs.declared.goal.Goal.TheVariants.{Compare, Match, Give}
use Rattle.ap_direct.specs.Goals.{operation_name, operand_tree, pair}
use Rattle.ap_direct_turns.specs.Solved.{own, own_part, SameRegisters, Given, SolvedOn}
use Rattle.ap_machine.specs.declared.direct.Value.TheVariants.{Holds, Match as Matches}
use Rattle.ap_machine.specs.Direct.{HasValue, Gives}
use Rattle.ap_machine.proofs.Kept.{HoldPlaces-more}

operation_named-name : (f : Operation) → operation_named (operation_name f) ≡ Some f
operation_named-name Add = refl
operation_named-name Subtract = refl
operation_named-name Multiply = refl
operation_named-name Divide = refl
operation_named-name Remainder = refl
operation_named-name Modulo = refl

is-ok : (r : Result ℤ Fault) (z : ℤ) → result_ok r ≡ Some z → r ≡ Ok z
is-ok (Ok n) z e = let q : n ≡ z = cc in ap Ok q
is-ok (Err f) z e = absurd cc

pub nested_known : (f : Operation) (t u : Tree) (m n : ℤ) (o : Option ℤ) → eval t ≡ Some m → eval u ≡ Some n → o ≡ result_ok (applied f m n) → IfSome o (λ z. eval (node (operation_name f) (pair t u)) ≡ Some z)
nested_known f t u m n None e g h = tt
nested_known f t u m n (Some z) e g h =
    ap₂ (λ v w. result_ok (value_of (operation_named (operation_name f)) v w)) (is-ok (evaluated t) m e) (is-ok (evaluated u) n g)
    ∙ ap (λ k. result_ok (value_of k (Ok m) (Ok n))) (operation_named-name f) ∙ sym h

module _ (cs : List Raw) (x y : List ℕ) where
  pub own_register : (v : Slot) → tree_at (trees cs) (read v (held x) (held y)) ≡ read v (own cs x) (own cs y)
  own_register v = read-of (tree_at (trees cs)) v (held x) (held y)

  pub eval_one : (o : Operand) (z : ℤ) → operand_tree o (own cs x) (own cs y) ≡ int z → eval (own_part cs x y (One o)) ≡ Some z
  eval_one o z e = ap eval e

  pub eval_two : (f : Operation) (o q : Operand) (a b z : ℤ) → operand_tree o (own cs x) (own cs y) ≡ int a → operand_tree q (own cs x) (own cs y) ≡ int b → applied f a b ≡ Ok z
      → eval (own_part cs x y (Two f o q)) ≡ Some z
  eval_two f o q a b z e g h =
      ap₂ (λ t u. eval (node (operation_name f) (pair t u))) e g ∙ ap (λ n. result_ok (value_of n (Ok a) (Ok b))) (operation_named-name f) ∙ ap result_ok h

-- ---- goals of a value

module _ (cs ds : List Raw) (x y x' y' : List ℕ) where
  pub holds-solved : (g : Goal) (r : Bool) → HasValue cs x y g (Holds r) → ds ≡ cs → x' ≡ x → y' ≡ y → SolvedOn g cs x y ds x' y' r
  holds-solved (Compare op a b) r h e ex ey = (e, record { same_x = ex; same_y = ey }, h)
  holds-solved (Match v a) r h e ex ey = absurd h
  holds-solved (Give v a) r h e ex ey = absurd h

  pub match-solved : (g : Goal) (place : ℕ) (z : ℤ) (r : Bool) → HasValue cs x y g (Matches place z) → x' ≡ x → y' ≡ y → Answered cs ds (λ k. k place ≡ int z) r → SolvedOn g cs x y ds x' y' r
  match-solved (Compare op a b) place z r h ex ey answered = absurd h
  match-solved (Match v a) place z r h ex ey answered = (z, h.1, record { same_x = ex; same_y = ey }, subst (λ p. Answered cs ds (λ k. k p ≡ int z) r) h.0 answered)
  match-solved (Give v a) place z r h ex ey answered = absurd h

  pub give-solved : (g : Goal) (w : Slot) (z : ℤ) → Gives cs x y g w z → Given cs ds x y x' y' w z → SolvedOn g cs x y ds x' y' true
  give-solved (Compare op a b) w z h given = absurd h
  give-solved (Match v a) w z h given = absurd h
  give-solved (Give v a) w z h given = (z, h.2, subst (λ u. Given cs ds x y x' y' u z) h.0 given, refl)

-- ---- what a value needs

module _ (cs : List Raw) (x y : List ℕ) where
  pub match-inside : (g : Goal) (place : ℕ) (z : ℤ) → HasValue cs x y g (Matches place z) → HoldPlaces (length cs) x → HoldPlaces (length cs) y → place < length cs
  match-inside (Compare op a b) place z h hx hy = absurd h
  match-inside (Match (X n) a) place z h hx hy = let l : held x n < length cs = hx n in let e : place ≡ held x n = h.0 in omega arith
  match-inside (Match (Y n) a) place z h hx hy = let l : held y n < length cs = hy n in let e : place ≡ held y n = h.0 in omega arith
  match-inside (Give v a) place z h hx hy = absurd h

  pub give-has : (g : Goal) (w : Slot) (z : ℤ) → Gives cs x y g w z → HasRegister w (length x) (length y)
  give-has (Compare op a b) w z h = absurd h
  give-has (Match v a) w z h = absurd h
  give-has (Give v a) w z h = subst (λ u. HasRegister u (length x) (length y)) (sym h.0) h.1

-- ---- registers behind a goal

set-holds : (m : ℕ) (f : ℕ → ℕ) (n p : ℕ) → p < m → ((w : ℕ) → f w < m) → (w : ℕ) → set f n p w < m
set-holds m f n p l h w = go (w == n)
  where
    go : (b : Bool) → (if b then p else f w) < m
    go true = l
    go false = h w

module _ (cs ds : List Raw) (x y x' y' : List ℕ) (hx : HoldPlaces (length cs) x) (hy : HoldPlaces (length cs) y) where
  same-hold : length cs ≤ length ds → SameRegisters x y x' y' → HoldPlaces (length ds) x' × HoldPlaces (length ds) y'
  same-hold l e = (subst (HoldPlaces (length ds)) (sym e.same_x) (HoldPlaces-more (length cs) (length ds) x l hx), subst (HoldPlaces (length ds)) (sym e.same_y) (HoldPlaces-more (length cs) (length ds) y l hy))

  given-hold : (v : Slot) (z : ℤ) → Given cs ds x y x' y' v z → HoldPlaces (length ds) x' × HoldPlaces (length ds) y'
  given-hold v z e = (λ w. subst (λ p. p < length ds) (sym (e.held_x w)) (inside_x v w), λ w. subst (λ p. p < length ds) (sym (e.held_y w)) (inside_y v w))
    where
      longer : length cs < length ds
      longer = let k : length ds ≡ length cs + 1 = e.longer in omega arith

      inside_x : (v : Slot) (w : ℕ) → set_x v (length cs) (held x) w < length ds
      inside_x (X n) w = set-holds (length ds) (held x) n (length cs) longer (λ u. let l : held x u < length cs = hx u in let k = longer in omega arith) w
      inside_x (Y n) w = let l : held x w < length cs = hx w in let k = longer in omega arith

      inside_y : (v : Slot) (w : ℕ) → set_y v (length cs) (held y) w < length ds
      inside_y (X n) w = let l : held y w < length cs = hy w in let k = longer in omega arith
      inside_y (Y n) w = set-holds (length ds) (held y) n (length cs) longer (λ u. let l : held y u < length cs = hy u in let k = longer in omega arith) w

  pub solved-hold : (g : Goal) (r : Bool) → length cs ≤ length ds → SolvedOn g cs x y ds x' y' r → HoldPlaces (length ds) x' × HoldPlaces (length ds) y'
  solved-hold (Compare op a b) r l s = same-hold l s.1
  solved-hold (Match v a) r l s = same-hold l s.2
  solved-hold (Give v a) r l s = given-hold v s.0 s.2

-- ---- a register gets a new place

module _ (cs ms ds : List Raw) (x y x' y' : List ℕ) (v : Slot) (z : ℤ) (place : ℕ) (made : (ℕ → Tree) → Tree) (same : ms ≡ cs) (here : place ≡ length ms) (is_value : (k : ℕ → Tree) → made k ≡ int z) where
  last : place ≡ length cs
  last = here ∙ ap length same

  pub new-given : length ds ≡ length ms + 1 → Becomes ms ds (λ k. Unit {0}) (λ k. k place ≡ made k) → ((k : ℕ → Tree) → Fits ms k → k place ≡ made k → Fits ds k)
      → ((w : ℕ) → held x' w ≡ set_x v place (held x) w) → ((w : ℕ) → held y' w ≡ set_y v place (held y) w) → Given cs ds x y x' y' v z
  new-given longer becomes fits hx hy = record {
    longer = longer ∙ ap (λ us. length us + 1) same;
    only = λ k f. let b = becomes.only k f in (subst (λ us. Fits us k) same b.0, subst (λ p. k p ≡ int z) last (b.2 ∙ is_value k));
    each = λ k f g. fits k (subst (λ us. Fits us k) (sym same) f) (subst (λ p. k p ≡ int z) (sym last) g ∙ sym (is_value k));
    held_x = λ w. subst (λ p. held x' w ≡ set_x v p (held x) w) last (hx w);
    held_y = λ w. subst (λ p. held y' w ≡ set_y v p (held y) w) last (hy w);
  }
