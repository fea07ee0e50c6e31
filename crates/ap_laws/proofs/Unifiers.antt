-- Two most general unifiers are the same up to names.
use Rattle.std.proofs.Common.{◌≡◌, ℕ, ◌+◌, ◌<◌, Bool, true, false, ◌||◌, ◌++◌, refl, ap, sym, ◌∙◌, subst}
use Rattle.std.proofs.lemmas.Bool.{false≢true}
use Rattle.ap_term.specs.Tree.{Tree, Trees, var, int, atom, node, none, more}
use Rattle.ap_term.specs.Vars.{occurs, occurs_all, Local, LocalAll}
use Rattle.ap_term.specs.Substitution.{instance, instance_all, Subst, value}
use Rattle.ap_term.proofs.Copies.{instance_var, instance_twice}
use Rattle.ap_term.proofs.Solutions.{same_var, instance_agree}
use Rattle.ap_term.proofs.Locals.{Local-each}
use Rattle.ap_laws.specs.Renaming.{Renamed, RenamedAll, Linked}
use Rattle.ap_laws.specs.Laws.{Inverse, UniqueUnifierLaw, ChildByUnifierLaw}
use Rattle.ap_laws.proofs.Local.{Local-value}
use Rattle.ap_laws.proofs.Renamed.{Renamed-weaken}
use Rattle.ap_laws.proofs.Ways.{IsOneToOne-Linked, Renamed-both, RenamedAll-both, RenamedParts-both}
use Rattle.ap_term.proofs.TreeLists.{number_of, numbered_var}

mutual
  -- maps that give one instance agree on the variables that occur
  pub instance-at : (f g : ℕ → Tree) (t : Tree) → instance f t ≡ instance g t → (x : ℕ) → occurs x t ≡ true → f x ≡ g x
  instance-at f g (var y) e x o = subst (λ z. f z ≡ g z) (sym (same_var x y o)) e
  instance-at f g (int z) e x o = absurd (false≢true o)
  instance-at f g (atom a) e x o = absurd (false≢true o)
  instance-at f g (node a ts) e x o = instance_all-at f g ts (cc) x o

  pub instance_all-at : (f g : ℕ → Tree) (ts : Trees) → instance_all f ts ≡ instance_all g ts → (x : ℕ) → occurs_all x ts ≡ true → f x ≡ g x
  instance_all-at f g none e x o = absurd (false≢true o)
  instance_all-at f g (more t ts) e x o = go (occurs x t) refl o (instance-at f g t (cc) x) (instance_all-at f g ts (cc) x)
    where
      go : (b : Bool) → occurs x t ≡ b → (b || occurs_all x ts) ≡ true → (occurs x t ≡ true → f x ≡ g x) → (occurs_all x ts ≡ true → f x ≡ g x) → f x ≡ g x
      go true d p h k = h d
      go false d p h k = k p

module _ (s r : Subst) (one : (x : ℕ) → instance (value r) (value s x) ≡ value r x) (two : (x : ℕ) → instance (value s) (value r x) ≡ value s x) where
  -- what stands there comes back
  back : (x y : ℕ) → occurs y (value s x) ≡ true → instance (value s) (value r y) ≡ var y
  back x y o =
      instance-at (λ z. instance (value s) (value r z)) (λ z. var z) (value s x)
      (sym (instance_twice (value r) (value s) (value s x)) ∙ ap (instance (value s)) (one x) ∙ two x ∙ sym (instance_var (value s x))) y o

  variable : (x y : ℕ) → occurs y (value s x) ≡ true → value r y ≡ var (number_of (value r y))
  variable x y o = numbered_var (value s) (value r y) y (back x y o)

  renamed_is : (x : ℕ) → value r x ≡ instance (λ y. var (number_of (value r y))) (value s x)
  renamed_is x = sym (one x) ∙ instance_agree (value r) (λ y. var (number_of (value r y))) (value s x) (variable x)

  inverse : (x y : ℕ) → occurs y (value s x) ≡ true → number_of (value s (number_of (value r y))) ≡ y
  inverse x y o = ap number_of (ap (instance (value s)) (sym (variable x y o)) ∙ back x y o)

pub unique : UniqueUnifierLaw
unique a b s r h k =
    (f, g, λ x. (renamed_is s r one two x, renamed_is r s two one x, related x))
  where
    one : (x : ℕ) → instance (value r) (value s x) ≡ value r x
    one = h.1 (value r) k.0

    two : (x : ℕ) → instance (value s) (value r x) ≡ value s x
    two = k.1 (value s) h.0

    f : ℕ → ℕ
    f y = number_of (value r y)

    g : ℕ → ℕ
    g y = number_of (value s y)

    related : (x : ℕ) → Renamed (Inverse f g) (value s x) (value r x)
    related x =
        subst (λ u. Renamed (Inverse f g) u (value r x)) (instance_var (value s x))
        (subst (Renamed (Inverse f g) (instance (λ y. var y) (value s x))) (sym (renamed_is s r one two x))
        (Renamed-both (λ y. g (f y) ≡ y) (Inverse f g) (λ y. var y) (λ y. var (f y)) (λ y e. (refl, e)) (value s x) (Local-each (λ y. g (f y) ≡ y) (value s x) (inverse s r one two x))))

-- ---- children by two unifiers

mutual
  Renamed-and : (R : ℕ → ℕ → Type 0) (P : ℕ → Type 0) (t u : Tree) → Renamed R t u → Local P t → Local P u → Renamed (λ x y. R x y × P x × P y) t u
  Renamed-and R P (var x) (var y) h j k = (h, j, k)
  Renamed-and R P (int z) (int w) h j k = h
  Renamed-and R P (atom a) (atom b) h j k = h
  Renamed-and R P (node a ts) (node b us) h j k = (h.0, RenamedAll-and R P ts us h.1 j k)
  Renamed-and R P _ _ h j k = absurd h

  RenamedAll-and : (R : ℕ → ℕ → Type 0) (P : ℕ → Type 0) (ts us : Trees) → RenamedAll R ts us → LocalAll P ts → LocalAll P us → RenamedAll (λ x y. R x y × P x × P y) ts us
  RenamedAll-and R P none none h j k = tt
  RenamedAll-and R P (more t ts) (more u us) h j k = (Renamed-and R P t u h.0 j.0 k.0, RenamedAll-and R P ts us h.1 j.1 k.1)
  RenamedAll-and R P _ _ h j k = absurd h

pub SameState-unifiers : ChildByUnifierLaw
SameState-unifiers s rest body takes a b u v hu hv lu lv lp lt = (
  q.0,
  q.1,
  (
    RenamedParts-both (λ x. x < n) R (IsOneToOne-Linked q.0 q.1 n n) (value u) (value v) each (body ++ rest) lp,
    RenamedAll-both (λ x. x < n) R (value u) (value v) each s.tuple lt,
    refl,
    refl,
  ),
)
  where
    n : ℕ
    n = s.next + takes

    q : (f : ℕ → ℕ) × (g : ℕ → ℕ) × ((x : ℕ) → (value v x ≡ instance (λ y. var (f y)) (value u x)) × (value u x ≡ instance (λ y. var (g y)) (value v x)) × Renamed (Inverse f g) (value u x) (value v x))
    q = unique a b u v hu hv

    R : ℕ → ℕ → Type 0
    R = Linked q.0 q.1 n n

    each : (x : ℕ) → x < n → Renamed R (value u x) (value v x)
    each x l =
        Renamed-weaken (λ x y. Inverse q.0 q.1 x y × (x < n) × (y < n)) R (λ x y k. (k.0.0, k.0.1, k.1, k.2)) (value u x) (value v x)
        (Renamed-and (Inverse q.0 q.1) (λ x. x < n) (value u x) (value v x) (q.2 x).2 (Local-value (λ x. x < n) u lu x l) (Local-value (λ x. x < n) v lv x l))
