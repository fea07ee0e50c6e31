-- Which variables stand in an instance.
use Rattle.std.proofs.Common.{◌≡◌, ℕ, inl, inr, true, ap, sym, ◌∙◌}
use Rattle.std.proofs.lemmas.Bool.{false≢true, eqb-true, or_cases, or_left, or_right}
use Rattle.ap_term.specs.Tree.{Tree, Trees, var, int, atom, node, none, more}
use Rattle.ap_term.specs.Vars.{occurs, occurs_all}
use Rattle.ap_term.specs.Substitution.{instance, instance_all}
use Rattle.ap_sharing.proofs.Elements.{same_test}

mutual
  pub occurs-back : (w : ℕ) (u : ℕ → Tree) (t : Tree) → occurs w (instance u t) ≡ true → (r : ℕ) × (occurs r t ≡ true) × (occurs w (u r) ≡ true)
  occurs-back w u (var x) h = (x, same_test x, h)
  occurs-back w u (int z) h = absurd (false≢true h)
  occurs-back w u (atom a) h = absurd (false≢true h)
  occurs-back w u (node a ts) h = occurs_all-back w u ts h

  pub occurs_all-back : (w : ℕ) (u : ℕ → Tree) (ts : Trees) → occurs_all w (instance_all u ts) ≡ true → (r : ℕ) × (occurs_all r ts ≡ true) × (occurs w (u r) ≡ true)
  occurs_all-back w u none h = absurd (false≢true h)
  occurs_all-back w u (more t ts) h =
      elim (or_cases (occurs w (instance u t)) (occurs_all w (instance_all u ts)) h) [
        | inl k ↦ (let r = occurs-back w u t k in (r.0, or_left (occurs r.0 t) (occurs_all r.0 ts) r.1, r.2))
        | inr k ↦ (let r = occurs_all-back w u ts k in (r.0, or_right (occurs r.0 t) (occurs_all r.0 ts) r.1, r.2))
      ]

mutual
  pub occurs-there : (w r : ℕ) (u : ℕ → Tree) (t : Tree) → occurs r t ≡ true → occurs w (u r) ≡ true → occurs w (instance u t) ≡ true
  occurs-there w r u (var x) h k = ap (λ z. occurs w (u z)) (sym (eqb-true r x h)) ∙ k
  occurs-there w r u (int z) h k = absurd (false≢true h)
  occurs-there w r u (atom a) h k = absurd (false≢true h)
  occurs-there w r u (node a ts) h k = occurs_all-there w r u ts h k

  pub occurs_all-there : (w r : ℕ) (u : ℕ → Tree) (ts : Trees) → occurs_all r ts ≡ true → occurs w (u r) ≡ true → occurs_all w (instance_all u ts) ≡ true
  occurs_all-there w r u none h k = absurd (false≢true h)
  occurs_all-there w r u (more t ts) h k =
      elim (or_cases (occurs r t) (occurs_all r ts) h) [
        | inl j ↦ or_left (occurs w (instance u t)) (occurs_all w (instance_all u ts)) (occurs-there w r u t j k)
        | inr j ↦ or_right (occurs w (instance u t)) (occurs_all w (instance_all u ts)) (occurs_all-there w r u ts j k)
      ]
