-- What is put into X registers, and goals behind it.
use Rattle.std.proofs.Common.{◌≡◌, ℕ, ℤ, ◌==◌, Bool, true, false, if◌then◌else◌, ◌⊎◌, inl, inr, List, ◌∷◌, Some, None, refl, ap, ap₂, sym, ◌∙◌, subst, arith}
use Rattle.std.proofs.lemmas.Bool.Decides.{Decides-eqb}
use Rattle.ap_term.specs.declared.builtins.Operation.{Operation}
use Rattle.ap_term.specs.declared.builtins.Operation.TheVariants.{Add, Subtract, Multiply, Divide, Remainder, Modulo}
use Rattle.ap_term.specs.declared.builtins.Relation.{Relation}
use Rattle.ap_term.specs.declared.fixed.TheConstants.{IS, PLUS, MINUS, TIMES, DIVIDE, REM, MOD}
use Rattle.ap_term.specs.Arithmetic.{operation_named}
use Rattle.ap_term.specs.Tree.{Tree, Trees, int, atom, node, none, more, count_trees}
use Rattle.ap_term.proofs.Facts.{funext}
use Rattle.ap_instr.specs.declared.instruction.Slot.{Slot}
use Rattle.ap_instr.specs.declared.instruction.Slot.TheVariants.{X, Y}
use Rattle.ap_instr.specs.Builtin.{relation_name, comparison_name}
use Rattle.ap_instr.specs.Step.{Step, put_variable, put_value, put_constant, put_structure, unify_value, unify_constant, builtin}
use Rattle.ap_instr.specs.Runs.{Runs, set, set_x, set_y, read}
use Rattle.ap_direct.specs.declared.goal.Operand.{Operand}
use Rattle.ap_direct.specs.declared.goal.Operand.TheVariants.{Register, Integer}
use Rattle.ap_direct.specs.declared.goal.Part.{Part}
use Rattle.ap_direct.specs.declared.goal.Goal.{Goal}
use Rattle.ap_direct.specs.declared.goal.Goal.TheVariants.{Compare, Match, Give}
use Rattle.ap_direct.specs.declared.finding.Simple.{Simple}
use Rattle.ap_direct.specs.declared.finding.Simple.TheVariants.{Operand as Single, Operation as Double}
use Rattle.ap_direct.specs.declared.finding.Put.{Put}
use Rattle.ap_direct.specs.declared.finding.Put.TheVariants.{New, Simple as Given}
use Rattle.ap_direct.specs.Goals.{operation_name, operand_tree, part_tree, pair, goal_tree, x_behind, y_behind, AsksGoal}
use Rattle.ap_direct.specs.Puts.{simple_tree, PutsFirst, FillsFirst, IsApart, IsPartApart, IsUnseen, IsGoalOf}
use Rattle.ap_direct.specs.Before.{IsGoalBefore, GivesNew, IsBefore}
use Rattle.ap_direct.specs.Unread.{DifferAt, IsUnread}

-- ---- arguments of structures

pub value-fills : (v : Slot) (is : List Step) → FillsFirst (unify_value v ∷ is) (Register v) is
value-fills v is = record { only = only; each = λ us x y bs run. (refl, run); openly = λ o. o }
  where
    only : (ts : Trees) (x y : ℕ → Tree) (bs : Trees) → Runs (unify_value v ∷ is) ts x y bs → (us : Trees) × (ts ≡ more (read v x y) us) × Runs is us x y bs
    only none x y bs run = absurd run
    only (more t us) x y bs run = (us, ap (λ u. more u us) (sym run.0), run.1)

pub integer-fills : (z : ℤ) (is : List Step) → FillsFirst (unify_constant (int z) ∷ is) (Integer z) is
integer-fills z is = record { only = only; each = λ us x y bs run. (refl, run); openly = λ o. o }
  where
    only : (ts : Trees) (x y : ℕ → Tree) (bs : Trees) → Runs (unify_constant (int z) ∷ is) ts x y bs → (us : Trees) × (ts ≡ more (int z) us) × Runs is us x y bs
    only none x y bs run = absurd run
    only (more t us) x y bs run = (us, ap (λ u. more u us) run.0, run.1)

-- ---- arguments of goals

pub variable-puts : (v : Slot) (a : ℕ) (is : List Step) → PutsFirst (put_variable v a ∷ is) a (New v) is
variable-puts v a is = record { only = λ x y bs run. (run.0, run.1); each = λ x y t bs run. (t, run); openly = λ o. o }

pub value-puts : (v : Slot) (a : ℕ) (is : List Step) → PutsFirst (put_value v a ∷ is) a (Given (Single (Register v))) is
value-puts v a is = record { only = λ x y bs run. (atom 0, run); each = λ x y t bs run. run; openly = λ o. o }

pub integer-puts : (z : ℤ) (a : ℕ) (is : List Step) → PutsFirst (put_constant (int z) a ∷ is) a (Given (Single (Integer z))) is
integer-puts z a is = record { only = λ x y bs run. (atom 0, run); each = λ x y t bs run. run; openly = λ o. o }

pub named-operation : (n : ℕ) (f : Operation) → operation_named n ≡ Some f → n ≡ operation_name f
named-operation n f e = go n f (n == PLUS) (n == MINUS) (n == TIMES) (n == DIVIDE) (n == REM) (n == MOD) refl refl refl refl refl refl e
  where
    go : (n : ℕ) (f : Operation) (a b c d p q : Bool) → (n == PLUS) ≡ a → (n == MINUS) ≡ b → (n == TIMES) ≡ c → (n == DIVIDE) ≡ d → (n == REM) ≡ p → (n == MOD) ≡ q
        → (if a then Some Add else (if b then Some Subtract else (if c then Some Multiply else (if d then Some Divide else (if p then Some Remainder else (if q then Some Modulo else None)))))) ≡ Some f
        → n ≡ operation_name f
    go n f true b c d p q ea eb ec ed ep eq e = (Decides-eqb n PLUS).0 ea ∙ ap operation_name (let k : Add ≡ f = cc in k)
    go n f false true c d p q ea eb ec ed ep eq e = (Decides-eqb n MINUS).0 eb ∙ ap operation_name (let k : Subtract ≡ f = cc in k)
    go n f false false true d p q ea eb ec ed ep eq e = (Decides-eqb n TIMES).0 ec ∙ ap operation_name (let k : Multiply ≡ f = cc in k)
    go n f false false false true p q ea eb ec ed ep eq e = (Decides-eqb n DIVIDE).0 ed ∙ ap operation_name (let k : Divide ≡ f = cc in k)
    go n f false false false false true q ea eb ec ed ep eq e = (Decides-eqb n REM).0 ep ∙ ap operation_name (let k : Remainder ≡ f = cc in k)
    go n f false false false false false true ea eb ec ed ep eq e = (Decides-eqb n MOD).0 eq ∙ ap operation_name (let k : Modulo ≡ f = cc in k)
    go n f false false false false false false ea eb ec ed ep eq e = let z : ⊥ = cc in absurd z

module _ (f : Operation) (a : ℕ) (o q : Operand) (j k is : List Step) (first : FillsFirst j o k) (second : FillsFirst k q is) (ao : IsApart (X a) o) (aq : IsApart (X a) q) where
  abbrev built : (ℕ → Tree) → (ℕ → Tree) → Tree
  built x y = simple_tree (Double f o q) x y

  pub structure-puts : PutsFirst (put_structure (operation_name f) 2 a ∷ j) a (Given (Double f o q)) is
  structure-puts = record {
    only = λ x y bs run.
        let ts : Trees = run.0 in
        let t : Tree = node (operation_name f) ts in
        let p = first.only ts (set x a t) y bs run.2 in
        let r = second.only p.0 (set x a t) y bs p.2 in
        let two : ts ≡ more (operand_tree o x y) (more (operand_tree q x y) r.0) =
        p.1 ∙ ap₂ (λ u us. more u us) (ao x y t) (r.1 ∙ ap (λ u. more u r.0) (aq x y t))
        in
        let last : r.0 ≡ none = no-more (operand_tree o x y) (operand_tree q x y) r.0 (ap count_trees (sym two) ∙ run.1) in
        let all : ts ≡ pair (operand_tree o x y) (operand_tree q x y) = two ∙ ap (λ us. more (operand_tree o x y) (more (operand_tree q x y) us)) last in
        (atom 0, subst (λ us. Runs is none (set x a (node (operation_name f) us)) y bs) all (subst (λ us. Runs is us (set x a t) y bs) last r.2));
    each = λ x y t bs run.
        let w : Tree = built x y in
        let z : ℕ → Tree = set x a w in
        let e : pair (operand_tree o z y) (operand_tree q z y) ≡ pair (operand_tree o x y) (operand_tree q x y) = ap₂ (λ u v. pair u v) (ao x y w) (aq x y w) in (
          pair (operand_tree o x y) (operand_tree q x y),
          refl,
          subst (λ us. Runs j us z y bs) e (first.each (more (operand_tree q z y) none) z y bs (second.each none z y bs run)),
        );
    openly = λ h. second.openly (first.openly h);
  }
    where
      no-more : (t u : Tree) (us : Trees) → count_trees (more t (more u us)) ≡ 2 → us ≡ none
      no-more t u none e = refl
      no-more t u (more v us) e = absurd (let n : ℕ = count_trees us in omega (arith, e))

-- ---- what is put, and isn't seen behind the goal

set-own : (z : ℕ → Tree) (a : ℕ) (u : Tree) → z a ≡ u → set z a u ≡ z
set-own z a u e = funext (set z a u) z (λ w. go w (w == a) refl)
  where
    go : (w : ℕ) (b : Bool) → (w == a) ≡ b → (if b then u else z w) ≡ z w
    go w true h = sym e ∙ ap z (sym ((Decides-eqb w a).0 h))
    go w false h = refl

pub set-here : (z : ℕ → Tree) (a : ℕ) (u : Tree) → set z a u a ≡ u
set-here z a u = ap (λ b. if b then u else z a) ((Decides-eqb a a).1 refl)

-- a register that is written first, and another one's tree in it later
module _ (g : Goal) (t : Tree) (a : ℕ) (u : Tree) (z : ℕ → Tree) where
  differ-behind : DifferAt a (x_behind g t (set z a u)) (x_behind g t z)
  differ-behind = go g
    where
      other : (w : ℕ) → (w ≡ a → ⊥) → set z a u w ≡ z w
      other w k = pick w k (w == a) refl
        where
          pick : (w : ℕ) → (w ≡ a → ⊥) → (b : Bool) → (w == a) ≡ b → (if b then u else z w) ≡ z w
          pick w k true e = absurd (k ((Decides-eqb w a).0 e))
          pick w k false e = refl

      go : (g : Goal) → DifferAt a (x_behind g t (set z a u)) (x_behind g t z)
      go (Compare op p q) w k = other w k
      go (Match v p) w k = other w k
      go (Give (X n) p) w k = ap (λ q. if w == n then t else q) (other w k)
      go (Give (Y n) p) w k = other w k

  -- of steps that don't see it, whatever the goal gives
  module _ (is : List Step) (y : ℕ → Tree) (cs : Trees) where
    abbrev seen : Type 0
    seen = Runs is none (x_behind g t (set z a u)) y cs

    abbrev unseen : Type 0
    unseen = Runs is none (x_behind g t z) y cs

    unput : (z a ≡ u) ⊎ IsUnread a is → seen → unseen
    unput (inl e) run = subst (λ w. Runs is none (x_behind g t w) y cs) (set-own z a u e) run
    unput (inr h) run = h none (x_behind g t (set z a u)) (x_behind g t z) y cs differ-behind run

    reput : (z a ≡ u) ⊎ IsUnread a is → unseen → seen
    reput (inl e) run = subst (λ w. Runs is none (x_behind g t w) y cs) (sym (set-own z a u e)) run
    reput (inr h) run = h none (x_behind g t z) (x_behind g t (set z a u)) y cs (λ w k. sym (differ-behind w k)) run

-- ---- goals behind what is put

module _ (a : ℕ) (j k is : List Step) where
  module _ (s : Simple) (puts : PutsFirst j a (Given s) k) (unseen_put : IsUnseen a (Given s) is) where
    hidden : (x y : ℕ → Tree) → (x a ≡ simple_tree s x y) ⊎ IsUnread a is
    hidden x y = go unseen_put
      where
        go : IsUnseen a (Given s) is → (x a ≡ simple_tree s x y) ⊎ IsUnread a is
        go (inl h) = inl (h x y (atom 0))
        go (inr h) = inr h

    -- the goal before it has the same tree, and gives the same
    module _ (g h : Goal) (tree : (t : Tree) (x y : ℕ → Tree) → goal_tree g t (set x a (simple_tree s x y)) y ≡ goal_tree h t x y)
        (same_x : (t : Tree) (x : ℕ → Tree) → x_behind g t x ≡ x_behind h t x) (same_y : (t : Tree) (y : ℕ → Tree) → y_behind g t y ≡ y_behind h t y) (asks : AsksGoal k g is) where
      asks-replaced : AsksGoal j h is
      asks-replaced = record {
        only = λ x y bs run.
            let u : Tree = simple_tree s x y in
            let q = asks.only (set x a u) y bs (puts.only x y bs run).1 in (
              q.0,
              q.1,
              q.2 ∙ ap (λ w. more w q.1) (tree q.0 x y),
              subst (λ w. Runs is none w (y_behind h q.0 y) q.1) (same_x q.0 x)
                  (subst (λ w. Runs is none (x_behind g q.0 x) w q.1) (same_y q.0 y) (unput g q.0 a u x is (y_behind g q.0 y) q.1 (hidden x y) q.3)),
            );
        each = λ x y t cs run.
            let u : Tree = simple_tree s x y in
            let b : Runs is none (x_behind g t x) (y_behind g t y) cs =
            subst (λ w. Runs is none (x_behind g t x) w cs) (sym (same_y t y)) (subst (λ w. Runs is none w (y_behind h t y) cs) (sym (same_x t x)) run)
            in
            puts.each x y t (more (goal_tree h t x y) cs)
            (subst (λ w. Runs k none (set x a u) y (more w cs)) (tree t x y) (asks.each (set x a u) y t cs (reput g t a u x is (y_behind g t y) cs (hidden x y) b)));
        openly = λ o. asks.openly (puts.openly o);
      }

    asks-simple : (g h : Goal) → IsGoalBefore a s g h → AsksGoal k g is → AsksGoal j h is
    asks-simple (Compare op p q) (Compare cp m l) e asks =
        asks-replaced (Compare op p q) (Compare cp m l)
        (λ t x y. ap₂ (λ v w. node (comparison_name op) (pair v w)) (e.1 x y) (e.2 x y) ∙ ap (λ c. node (comparison_name c) (pair (part_tree m x y) (part_tree l x y))) (sym e.0)) (λ t x. refl) (λ t y. refl) asks
    asks-simple (Match v p) (Match w q) e asks =
        asks-replaced (Match v p) (Match w q) (λ t x y. ap₂ (λ u r. node IS (pair u r)) (e.0 x y) (e.1 x y)) (λ t x. refl) (λ t y. refl) asks
    asks-simple (Give v p) (Give w q) e asks =
        asks-replaced (Give v p) (Give w q)
        (λ t x y. ap (λ r. node IS (pair t r)) (e.1 x y)) (λ t x. ap (λ u. set_x u t x) (sym e.0)) (λ t y. ap (λ u. set_y u t y) (sym e.0)) asks
    asks-simple (Compare op p q) (Match w l) e asks = absurd e
    asks-simple (Compare op p q) (Give w l) e asks = absurd e
    asks-simple (Match v p) (Compare cp m l) e asks = absurd e
    asks-simple (Match v p) (Give w l) e asks = absurd e
    asks-simple (Give v p) (Compare cp m l) e asks = absurd e
    asks-simple (Give v p) (Match w l) e asks = absurd e

  module _ (v : Slot) (puts : PutsFirst j a (New v) k) (unseen_put : IsUnseen a (New v) is) where
    hidden-new : (t : Tree) (x : ℕ → Tree) → (set_x v t x a ≡ t) ⊎ IsUnread a is
    hidden-new t x = go unseen_put
      where
        go : IsUnseen a (New v) is → (set_x v t x a ≡ t) ⊎ IsUnread a is
        go (inl h) = inl (h x x t)
        go (inr h) = inr h

    module _ (p : Part) (apart : IsPartApart v p) (apart_too : IsPartApart (X a) p) (asks : AsksGoal k (Match (X a) p) is) where
      -- the goal's tree behind the put
      new-tree : (t : Tree) (x y : ℕ → Tree) → node IS (pair (set (set_x v t x) a t a) (part_tree p (set (set_x v t x) a t) (set_y v t y))) ≡ node IS (pair t (part_tree p x y))
      new-tree t x y = ap₂ (λ u w. node IS (pair u w)) (set-here (set_x v t x) a t) (apart_too (set_x v t x) (set_y v t y) t ∙ apart x y t)

      asks-given : AsksGoal j (Give v p) is
      asks-given = record {
        only = λ x y bs run.
            let o = puts.only x y bs run in
            let t : Tree = o.0 in
            let q = asks.only (set (set_x v t x) a t) (set_y v t y) bs o.1 in
            (t, q.1, q.2 ∙ ap (λ w. more w q.1) (new-tree t x y), unput (Match (X a) p) t a t (set_x v t x) is (set_y v t y) q.1 (hidden-new t x) q.3);
        each = λ x y t cs run.
            puts.each x y t (more (node IS (pair t (part_tree p x y))) cs)
            (subst (λ w. Runs k none (set (set_x v t x) a t) (set_y v t y) (more w cs)) (new-tree t x y)
            (asks.each (set (set_x v t x) a t) (set_y v t y) t cs (reput (Match (X a) p) t a t (set_x v t x) is (set_y v t y) cs (hidden-new t x) run)));
        openly = λ o. asks.openly (puts.openly o);
      }

    asks-new : (g h : Goal) → GivesNew a v g h → AsksGoal k g is → AsksGoal j h is
    asks-new (Match w p) (Give u q) e asks =
        subst (λ r. AsksGoal j (Give r q) is) (sym e.1)
        (subst (λ r. AsksGoal j (Give v r) is) (sym e.2) (asks-given p e.3 e.4 (subst (λ r. AsksGoal k (Match r p) is) e.0 asks)))
    asks-new (Match w p) (Compare op m l) e asks = absurd e
    asks-new (Match w p) (Match u l) e asks = absurd e
    asks-new (Compare op m l) h e asks = absurd e
    asks-new (Give w p) h e asks = absurd e

  pub asks-put : (p : Put) (g h : Goal) → PutsFirst j a p k → IsUnseen a p is → IsBefore a p g h → AsksGoal k g is → AsksGoal j h is
  asks-put (New v) g h puts unseen_put e asks = asks-new v puts unseen_put g h e asks
  asks-put (Given s) g h puts unseen_put e asks = asks-simple s puts unseen_put g h e asks

-- ---- the goal on the first two registers

pub asks-goal : (r : Relation) (is : List Step) (g : Goal) → IsGoalOf r g → AsksGoal (builtin (relation_name r) 2 ∷ is) g is
asks-goal r is g e = record {
  only = λ x y bs run. (
    atom 0,
    run.0,
    run.1 ∙ ap (λ w. more w run.0) (sym (e.tree (atom 0) x y)),
    subst (λ w. Runs is none w (y_behind g (atom 0) y) run.0) (sym (e.x (atom 0) x)) (subst (λ w. Runs is none x w run.0) (sym (e.y (atom 0) y)) run.2),
  );
  each = λ x y t cs run. (
    cs,
    ap (λ w. more w cs) (e.tree t x y),
    subst (λ w. Runs is none x w cs) (e.y t y) (subst (λ w. Runs is none w (y_behind g t y) cs) (e.x t x) run),
  );
  openly = λ o. o;
}
