-- Trees of which each variable has a property.
use Rattle.std.proofs.Common.{◌≡◌, ℕ, Bool, true, false, ◌||◌, refl, sym, subst}
use Rattle.std.proofs.lemmas.Bool.{false≢true, or_left, or_right}
use Rattle.ap_term.specs.Tree.{Tree, Trees, var, int, atom, node, none, more, append_trees}
use Rattle.ap_term.specs.Vars.{occurs, occurs_all, Local, LocalAll}
use Rattle.ap_term.specs.Substitution.{instance, instance_all}
use Rattle.ap_term.proofs.Solutions.{same_var, same_test, instance_agree, instance_all_agree}

-- ---- each variable that occurs

mutual
  pub Local-occurs : (P : ℕ → Type 0) (t : Tree) → Local P t → (x : ℕ) → occurs x t ≡ true → P x
  Local-occurs P (var y) h x o = subst P (sym (same_var x y o)) h
  Local-occurs P (int z) h x o = absurd (false≢true o)
  Local-occurs P (atom a) h x o = absurd (false≢true o)
  Local-occurs P (node a ts) h x o = LocalAll-occurs_all P ts h x o

  pub LocalAll-occurs_all : (P : ℕ → Type 0) (ts : Trees) → LocalAll P ts → (x : ℕ) → occurs_all x ts ≡ true → P x
  LocalAll-occurs_all P none h x o = absurd (false≢true o)
  LocalAll-occurs_all P (more t ts) h x o = go (occurs x t) refl o (Local-occurs P t h.0 x) (LocalAll-occurs_all P ts h.1 x)
    where
      go : (b : Bool) → occurs x t ≡ b → (b || occurs_all x ts) ≡ true → (occurs x t ≡ true → P x) → (occurs_all x ts ≡ true → P x) → P x
      go true e p f g = f e
      go false e p f g = g p

mutual
  pub Local-each : (P : ℕ → Type 0) (t : Tree) → ((x : ℕ) → occurs x t ≡ true → P x) → Local P t
  Local-each P (var y) h = h y (same_test y y refl)
  Local-each P (int z) h = tt
  Local-each P (atom a) h = tt
  Local-each P (node a ts) h = LocalAll-each P ts h

  pub LocalAll-each : (P : ℕ → Type 0) (ts : Trees) → ((x : ℕ) → occurs_all x ts ≡ true → P x) → LocalAll P ts
  LocalAll-each P none h = tt
  LocalAll-each P (more t ts) h =
      (Local-each P t (λ x o. h x (or_left (occurs x t) (occurs_all x ts) o)), LocalAll-each P ts (λ x o. h x (or_right (occurs x t) (occurs_all x ts) o)))

pub Local-weaken : (P Q : ℕ → Type 0) → ((x : ℕ) → P x → Q x) → (t : Tree) → Local P t → Local Q t
Local-weaken P Q e t h = Local-each Q t (λ x o. e x (Local-occurs P t h x o))

pub LocalAll-weaken : (P Q : ℕ → Type 0) → ((x : ℕ) → P x → Q x) → (ts : Trees) → LocalAll P ts → LocalAll Q ts
LocalAll-weaken P Q e ts h = LocalAll-each Q ts (λ x o. e x (LocalAll-occurs_all P ts h x o))

mutual
  pub Local-instance : (P Q : ℕ → Type 0) (f : ℕ → Tree) → ((x : ℕ) → P x → Local Q (f x)) → (t : Tree) → Local P t → Local Q (instance f t)
  Local-instance P Q f e (var x) h = e x h
  Local-instance P Q f e (int z) h = tt
  Local-instance P Q f e (atom a) h = tt
  Local-instance P Q f e (node a ts) h = LocalAll-instance_all P Q f e ts h

  pub LocalAll-instance_all : (P Q : ℕ → Type 0) (f : ℕ → Tree) → ((x : ℕ) → P x → Local Q (f x)) → (ts : Trees) → LocalAll P ts → LocalAll Q (instance_all f ts)
  LocalAll-instance_all P Q f e none h = tt
  LocalAll-instance_all P Q f e (more t ts) h = (Local-instance P Q f e t h.0, LocalAll-instance_all P Q f e ts h.1)

-- ---- substitutions that agree on these variables

pub instance-Local : (P : ℕ → Type 0) (f g : ℕ → Tree) → ((x : ℕ) → P x → f x ≡ g x) → (t : Tree) → Local P t → instance f t ≡ instance g t
instance-Local P f g e t h = instance_agree f g t (λ x o. e x (Local-occurs P t h x o))

pub instance_all-LocalAll : (P : ℕ → Type 0) (f g : ℕ → Tree) → ((x : ℕ) → P x → f x ≡ g x) → (ts : Trees) → LocalAll P ts → instance_all f ts ≡ instance_all g ts
instance_all-LocalAll P f g e ts h = instance_all_agree f g ts (λ x o. e x (LocalAll-occurs_all P ts h x o))

pub instance_all-same : (f g : ℕ → Tree) → ((x : ℕ) → f x ≡ g x) → (ts : Trees) → instance_all f ts ≡ instance_all g ts
instance_all-same f g e ts = instance_all_agree f g ts (λ x o. e x)

-- ---- two properties, two lists

pub Local-and : (P Q : ℕ → Type 0) (t : Tree) → Local P t → Local Q t → Local (λ x. P x × Q x) t
Local-and P Q t h k = Local-each (λ x. P x × Q x) t (λ x o. (Local-occurs P t h x o, Local-occurs Q t k x o))

pub LocalAll-and : (P Q : ℕ → Type 0) (ts : Trees) → LocalAll P ts → LocalAll Q ts → LocalAll (λ x. P x × Q x) ts
LocalAll-and P Q ts h k = LocalAll-each (λ x. P x × Q x) ts (λ x o. (LocalAll-occurs_all P ts h x o, LocalAll-occurs_all Q ts k x o))

pub LocalAll-append_trees : (P : ℕ → Type 0) (ts us : Trees) → LocalAll P ts → LocalAll P us → LocalAll P (append_trees ts us)
LocalAll-append_trees P none us h k = k
LocalAll-append_trees P (more t ts) us h k = (h.0, LocalAll-append_trees P ts us h.1 k)
