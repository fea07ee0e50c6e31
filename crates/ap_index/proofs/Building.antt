-- Structures that can be built whatever the registers hold.
use Rattle.std.proofs.Common.{◌≡◌, ℕ, ℤ, ◌+◌, ◌==◌, Bool, true, false, if◌then◌else◌, List, ◌∷◌, Option, Some, None, refl, ap, sym, ◌∙◌, subst, arith}
use Rattle.std.proofs.lemmas.Bool.Decides.{Decides-eqb}
use Rattle.ap_term.specs.Tree.{Tree, Trees, atom, int, node, none, more, count_trees}
use Rattle.ap_term.proofs.Facts.{funext}
use Rattle.ap_instr.specs.declared.instruction.Slot.{Slot}
use Rattle.ap_instr.specs.declared.instruction.Slot.TheVariants.{X, Y}
use Rattle.ap_instr.specs.Step.{Step, put_structure, unify_variable, unify_value, unify_constant, with_integer}
use Rattle.ap_instr.specs.Runs.{Runs, set, read, set_x, set_y, IsOpen}
use Rattle.ap_index.specs.Opening.{IsApart, IsOpenInside}

-- ---- where no argument is left

pub inside-none : (a : ℕ) (is : List Step) → IsOpen is → IsOpenInside a 0 is
inside-none a is o = λ x y. (none, refl, λ t. o (set x a t) y)

set-own : (x : ℕ → Tree) (a : ℕ) → set x a (x a) ≡ x
set-own x a = funext (set x a (x a)) x (λ w. go w (w == a) refl)
  where
    go : (w : ℕ) (b : Bool) → (w == a) ≡ b → (if b then x a else x w) ≡ x w
    go w true e = ap x (sym ((Decides-eqb w a).0 e))
    go w false e = refl

none-inside-open : (a : ℕ) (is : List Step) (x y : ℕ → Tree) (ts : Trees) → count_trees ts ≡ 0 → ((t : Tree) → (bs : Trees) × Runs is ts (set x a t) y bs) → (bs : Trees) × Runs is none x y bs
none-inside-open a is x y none e f = let b = f (x a) in (b.0, subst (λ u. Runs is none u y b.0) (set-own x a) b.1)
none-inside-open a is x y (more t ts) e f = absurd (let z : count_trees ts + 1 ≡ 0 = e in omega arith)

pub inside-open : (a : ℕ) (is : List Step) → IsOpenInside a 0 is → IsOpen is
inside-open a is h = λ x y. let r = h x y in none-inside-open a is x y r.0 r.1 r.2

-- the structure is put
pub structure-opens : (f n a : ℕ) (is : List Step) → IsOpenInside a n is → IsOpen (put_structure f n a ∷ is)
structure-opens f n a is h = λ x y. let r = h x y in let b = r.2 (node f r.0) in (b.0, (r.0, r.1, b.1))

-- ---- one argument

other-register : (m a : ℕ) → (m ≡ a → ⊥) → (t u : Tree) → (if m == a then t else u) ≡ u
other-register m a apart t u = go (m == a) refl
  where
    go : (b : Bool) → (m == a) ≡ b → (if b then t else u) ≡ u
    go true e = absurd (apart ((Decides-eqb m a).0 e))
    go false e = refl

read-apart : (v : Slot) (a : ℕ) → IsApart v a → (x y : ℕ → Tree) (t : Tree) → read v (set x a t) y ≡ read v x y
read-apart (X m) a apart x y t = other-register m a apart t (x m)
read-apart (Y m) a apart x y t = refl

set-apart : (v : Slot) (a : ℕ) → IsApart v a → (x : ℕ → Tree) (t u : Tree) → set (set_x v u x) a t ≡ set_x v u (set x a t)
set-apart (X m) a apart x t u = funext (set (set x m u) a t) (set (set x a t) m u) (λ w. go w (w == a) (w == m) refl refl)
  where
    go : (w : ℕ) (b c : Bool) → (w == a) ≡ b → (w == m) ≡ c → (if b then t else (if c then u else x w)) ≡ (if c then u else (if b then t else x w))
    go w true true e f = absurd (apart (sym ((Decides-eqb w m).0 f) ∙ (Decides-eqb w a).0 e))
    go w true false e f = refl
    go w false true e f = refl
    go w false false e f = refl
set-apart (Y m) a apart x t u = refl

module _ (a n : ℕ) (is : List Step) (h : IsOpenInside a n is) where
  pub constant-opens : (c : Tree) → IsOpenInside a (n + 1) (unify_constant c ∷ is)
  constant-opens c = λ x y. let r = h x y in (more c r.0, ap (λ m. m + 1) r.1, λ t. let b = r.2 t in (b.0, (refl, b.1)))

  pub value-opens : (v : Slot) → IsApart v a → IsOpenInside a (n + 1) (unify_value v ∷ is)
  value-opens v apart = λ x y. let r = h x y in (more (read v x y) r.0, ap (λ m. m + 1) r.1, λ t. let b = r.2 t in (b.0, (read-apart v a apart x y t, b.1)))

  pub variable-opens : (v : Slot) → IsApart v a → IsOpenInside a (n + 1) (unify_variable v ∷ is)
  variable-opens v apart =
      λ x y.
      let u : Tree = atom 0 in
      let r = h (set_x v u x) (set_y v u y) in (
        more u r.0,
        ap (λ m. m + 1) r.1,
        λ t. let b = r.2 t in (b.0, subst (λ (f : ℕ → Tree). Runs is r.0 f (set_y v u y) b.0) (set-apart v a apart x t u) b.1),
      )

  pub listed-opens : (o : Option ℤ) (z : ℤ) → Some z ≡ o → IsOpenInside a (n + 1) (with_integer o unify_constant ∷ is)
  listed-opens None z e = absurd (let f : ⊥ = cc in f)
  listed-opens (Some v) z e = constant-opens (int v)
