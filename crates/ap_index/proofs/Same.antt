-- Keys that pass the test are the same.
use Rattle.std.proofs.Common.{◌≡◌, true, ◌==◌, ap, ap₂}
use Rattle.std.proofs.lemmas.Bool.{eqb-true, and_parts}
use Rattle.std.proofs.lemmas.Bool.Decides.{Decides-int_eq}
use Rattle.ap_index.specs.declared.key.Key.{Key}
use Rattle.ap_index.specs.declared.key.Key.TheVariants.{Atom, Integer, Structure}
use Rattle.ap_index.specs.Keys.{same_key}

pub true-same : (a b : Key) → same_key a b ≡ true → a ≡ b
true-same (Atom a) (Atom b) h = ap (λ n. Atom n) (eqb-true a b h)
true-same (Integer a) (Integer b) h = ap (λ z. Integer z) ((Decides-int_eq a b).0 h)
true-same (Structure f n) (Structure g m) h =
    let r = and_parts (f == g) (n == m) h in
    ap₂ (λ p q. Structure p q) (eqb-true f g r.0) (eqb-true n m r.1)
true-same (Atom a) (Integer b) h = absurd (let z : ⊥ = cc in z)
true-same (Atom a) (Structure g m) h = absurd (let z : ⊥ = cc in z)
true-same (Integer a) (Atom b) h = absurd (let z : ⊥ = cc in z)
true-same (Integer a) (Structure g m) h = absurd (let z : ⊥ = cc in z)
true-same (Structure f n) (Atom b) h = absurd (let z : ⊥ = cc in z)
true-same (Structure f n) (Integer b) h = absurd (let z : ⊥ = cc in z)
