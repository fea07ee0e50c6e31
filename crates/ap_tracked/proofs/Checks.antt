-- A check under two maps, one after the other.
use Rattle.std.proofs.Common.{◌≡◌, ℕ, inl, inr, true, nat_eq, List, [], ◌∷◌, ◌++◌, map, refl, sym, ◌∙◌, subst}
use Rattle.std.specs.List.{All, flat_map}
use Rattle.std.proofs.lemmas.Bool.{false≢true, eq-eqb, or_cases, or_left, or_right, false_from_ne_true}
use Rattle.std.proofs.lemmas.List.Elements.{All-head, All-tail, All-nil, All-cons, All-append}
use Rattle.ap_term.specs.declared.clauses.Check.{Check}
use Rattle.ap_term.specs.declared.clauses.Check.TheVariants.{Ground, Indep}
use Rattle.ap_term.specs.Tree.{Tree, Trees, var, int, atom, node, none, more}
use Rattle.ap_term.specs.Vars.{has, vars, occurs, occurs_all}
use Rattle.ap_term.specs.Substitution.{instance, instance_all}
use Rattle.ap_term.specs.Independence.{Holds}
use Rattle.ap_term.specs.Goals.{instance_check}
use Rattle.ap_term.proofs.Solutions.{same_var}
use Rattle.ap_term.proofs.Found.{in_vars, in_tree, source}

-- ---- variables of instances

mutual
  image : (f : ℕ → Tree) (v x : ℕ) (t : Tree) → occurs x t ≡ true → occurs v (f x) ≡ true → occurs v (instance f t) ≡ true
  image f v x (var y) h k = subst (λ z. occurs v (f z) ≡ true) (same_var x y h) k
  image f v x (int z) h k = absurd (false≢true h)
  image f v x (atom a) h k = absurd (false≢true h)
  image f v x (node a ts) h k = image_all f v x ts h k

  image_all : (f : ℕ → Tree) (v x : ℕ) (ts : Trees) → occurs_all x ts ≡ true → occurs v (f x) ≡ true → occurs_all v (instance_all f ts) ≡ true
  image_all f v x none h k = absurd (false≢true h)
  image_all f v x (more t ts) h k =
      elim (or_cases (occurs x t) (occurs_all x ts) h) [
        | inl o ↦ or_left (occurs v (instance f t)) (occurs_all v (instance_all f ts)) (image f v x t o k)
        | inr o ↦ or_right (occurs v (instance f t)) (occurs_all v (instance_all f ts)) (image_all f v x ts o k)
      ]

-- ---- lists of checks

each : (P : Check → Type 0) (f : ℕ → Check) (vs : List ℕ) → ((a : ℕ) → has vs a ≡ true → P (f a)) → All P (map f vs)
each P f [] h = All-nil P
each P f (v ∷ vs) h = All-cons P (f v) (map f vs) (h v (or_left (nat_eq v v) (has vs v) (eq-eqb v v refl))) (each P f vs (λ a k. h a (or_right (nat_eq v a) (has vs a) k)))

each_back : (P : Check → Type 0) (f : ℕ → Check) (vs : List ℕ) → All P (map f vs) → (a : ℕ) → has vs a ≡ true → P (f a)
each_back P f [] h a k = absurd (false≢true k)
each_back P f (v ∷ vs) h a k =
    elim (or_cases (nat_eq v a) (has vs a) k) [
      | inl e ↦ subst (λ z. P (f z)) (same_var v a e) (All-head P (f v) (map f vs) h)
      | inr e ↦ each_back P f vs (All-tail P (f v) (map f vs) h) a e
    ]

split : (P : Check → Type 0) (xs ys : List Check) → All P (xs ++ ys) → All P xs × All P ys
split P [] ys h = (All-nil P, h)
split P (x ∷ xs) ys h = let r = split P xs ys (All-tail P x (xs ++ ys) h) in (All-cons P x xs (All-head P x (xs ++ ys) h) r.0, r.1)

all_pairs : (P : Check → Type 0) (g : ℕ → List Check) (vs : List ℕ) → ((a : ℕ) → has vs a ≡ true → All P (g a)) → All P (flat_map g vs)
all_pairs P g [] h = All-nil P
all_pairs P g (v ∷ vs) h = All-append P (g v) (flat_map g vs) (h v (or_left (nat_eq v v) (has vs v) (eq-eqb v v refl))) (all_pairs P g vs (λ a k. h a (or_right (nat_eq v a) (has vs a) k)))

all_pairs_back : (P : Check → Type 0) (g : ℕ → List Check) (vs : List ℕ) → All P (flat_map g vs) → (a : ℕ) → has vs a ≡ true → All P (g a)
all_pairs_back P g [] h a k = absurd (false≢true k)
all_pairs_back P g (v ∷ vs) h a k =
    let r = split P (g v) (flat_map g vs) h in
    elim (or_cases (nat_eq v a) (has vs a) k) [
      | inl e ↦ subst (λ z. All P (g z)) (same_var v a e) r.0
      | inr e ↦ all_pairs_back P g vs r.1 a e
    ]

-- ---- a check under two maps

check-forth : (w u : ℕ → Tree) (c : Check) → Holds (λ x. instance w (u x)) c → All (Holds w) (instance_check u c)
check-forth w u (Ground x) h =
    each (Holds w) Ground (vars (u x)) (λ a k v. false_from_ne_true (occurs v (w a)) (λ o. false≢true (sym (h v) ∙ image w v a (u x) (in_vars a (u x) k) o)))
check-forth w u (Indep x y) h =
    all_pairs (Holds w) (λ a. map (Indep a) (vars (u y))) (vars (u x)) (λ a k. each (Holds w) (Indep a) (vars (u y)) (λ b l v o.
    false_from_ne_true (occurs v (w b)) (λ i. false≢true (sym (h v (image w v a (u x) (in_vars a (u x) k) o)) ∙ image w v b (u y) (in_vars b (u y) l) i))))

check-back : (w u : ℕ → Tree) (c : Check) → All (Holds w) (instance_check u c) → Holds (λ x. instance w (u x)) c
check-back w u (Ground x) h = λ v. false_from_ne_true (occurs v (instance w (u x))) (λ o.
    let r = source w v (u x) o in
    false≢true (sym (each_back (Holds w) Ground (vars (u x)) h r.0 (in_tree r.0 (u x) r.1.0) v) ∙ r.1.1))
check-back w u (Indep x y) h = λ v o. false_from_ne_true (occurs v (instance w (u y))) (λ i.
    let r = source w v (u x) o in
    let q = source w v (u y) i in
    false≢true (sym (each_back (Holds w) (Indep r.0) (vars (u y)) (all_pairs_back (Holds w) (λ a. map (Indep a) (vars (u y))) (vars (u x)) h r.0 (in_tree r.0 (u x) r.1.0)) q.0 (in_tree q.0 (u y) q.1.0) v r.1.1) ∙ q.1.1))

pub checks-forth : (w u : ℕ → Tree) (cs : List Check) → All (Holds (λ x. instance w (u x))) cs → All (Holds w) (flat_map (instance_check u) cs)
checks-forth w u [] h = All-nil (Holds w)
checks-forth w u (c ∷ cs) h =
    All-append (Holds w) (instance_check u c) (flat_map (instance_check u) cs) (check-forth w u c (All-head (Holds (λ x. instance w (u x))) c cs h)) (checks-forth w u cs (All-tail (Holds (λ x. instance w (u x))) c cs h))

pub checks-back : (w u : ℕ → Tree) (cs : List Check) → All (Holds w) (flat_map (instance_check u) cs) → All (Holds (λ x. instance w (u x))) cs
checks-back w u [] h = All-nil (Holds (λ x. instance w (u x)))
checks-back w u (c ∷ cs) h =
    let r = split (Holds w) (instance_check u c) (flat_map (instance_check u) cs) h in
    All-cons (Holds (λ x. instance w (u x))) c cs (check-back w u c r.0) (checks-back w u cs r.1)
