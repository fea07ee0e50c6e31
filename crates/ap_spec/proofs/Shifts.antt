-- A clause's variables moved up: 64 bits hold each of them.
use Rattle.std.proofs.Common.{◌≡◌, ℕ, ◌+◌, ◌-◌, ◌^◌, ◌<◌, ◌≤◌, min, true, nat_le, List, [], ◌∷◌, ◌++◌, map, refl, ap, ap₂, arith}
use Rattle.std.specs.List.{list_all, flat_map}
use Rattle.std.proofs.lemmas.Bool.{and_parts}
use Rattle.std.proofs.lemmas.Bool.Decides.{nat_tests}
use Rattle.ap_term.specs.declared.clauses.Check.{Check}
use Rattle.ap_term.specs.declared.clauses.Check.TheVariants.{Ground, Indep}
use Rattle.ap_term.specs.Tree.{Tree, Trees, var, int, atom, node, none, more, count_trees}
use Rattle.ap_term.specs.Vars.{vars as vars_of}
use Rattle.ap_term.specs.Substitution.{instance, instance_all, shift}
use Rattle.ap_term.specs.Goals.{Part, call, group, Clause, instance_check, instance_part}
use Rattle.ap_term.specs.WellFormed.{in_range, numbered, numbered_all, numbered_check, callable, all_callable, well_formed_part, IsClause}
use Rattle.ap_spec.specs.Shifts.{shift_within}

module _ (n vars : ℕ) (low : n < 2 ^ 63) (few : vars ≤ 255) where
  shift-var : (x : ℕ) → in_range vars x ≡ true → shift_within n x ≡ shift n x
  shift-var x h =
      let le : x ≤ vars = let k = (and_parts (nat_le 1 x) (nat_le x vars) h).1 in grind (arith, nat_tests) in
      let e : min (x + n) (2 ^ 64 - 1) ≡ x + n = omega arith in
      ap var e

  mutual
    pub shift-tree : (t : Tree) → numbered vars t ≡ true → instance (shift_within n) t ≡ instance (shift n) t
    shift-tree (var x) h = shift-var x h
    shift-tree (int z) h = refl
    shift-tree (atom a) h = refl
    shift-tree (node a ts) h = ap (node a) (shift-trees ts h)

    pub shift-trees : (ts : Trees) → numbered_all vars ts ≡ true → instance_all (shift_within n) ts ≡ instance_all (shift n) ts
    shift-trees none h = refl
    shift-trees (more t ts) h = let r = and_parts (numbered vars t) (numbered_all vars ts) h in ap₂ more (shift-tree t r.0) (shift-trees ts r.1)

  shift-check : (c : Check) → numbered_check vars c ≡ true → instance_check (shift_within n) c ≡ instance_check (shift n) c
  shift-check (Ground x) h = ap (λ t. instance_check (λ y. t) (Ground x)) (shift-var x h)
  shift-check (Indep x y) h =
      let r = and_parts (in_range vars x) (in_range vars y) h in
      ap₂ (λ t u. flat_map (λ v. map (Indep v) (vars_of u)) (vars_of t)) (shift-var x r.0) (shift-var y r.1)

  shift-checks : (cs : List Check) → list_all (numbered_check vars) cs ≡ true → flat_map (instance_check (shift_within n)) cs ≡ flat_map (instance_check (shift n)) cs
  shift-checks [] h = refl
  shift-checks (c ∷ cs) h =
      let r = and_parts (numbered_check vars c) (list_all (numbered_check vars) cs) h in ap₂ (λ a b. a ++ b) (shift-check c r.0) (shift-checks cs r.1)

  shift-part : (p : Part) → well_formed_part vars p ≡ true → instance_part (shift_within n) p ≡ instance_part (shift n) p
  shift-part (call t) h = ap call (shift-tree t (and_parts (callable t) (numbered vars t) h).1)
  shift-part (group cs ts) h =
      let r = and_parts (list_all (numbered_check vars) cs) _ h in
      let s = and_parts (nat_le 1 (count_trees ts)) _ r.1 in
      let u = and_parts (all_callable ts) (numbered_all vars ts) s.1 in
      ap₂ group (shift-checks cs r.0) (shift-trees ts u.1)

  pub shift-parts : (ps : List Part) → list_all (well_formed_part vars) ps ≡ true → map (instance_part (shift_within n)) ps ≡ map (instance_part (shift n)) ps
  shift-parts [] h = refl
  shift-parts (p ∷ ps) h =
      let r = and_parts (well_formed_part vars p) (list_all (well_formed_part vars) ps) h in ap₂ (λ q qs. q ∷ qs) (shift-part p r.0) (shift-parts ps r.1)

-- the head and the body of a clause
pub shift-head : (n : ℕ) (c : Clause) → n < 2 ^ 63 → IsClause c → instance (shift_within n) c.head ≡ instance (shift n) c.head
shift-head n c low h = shift-tree n c.vars low h.few c.head (and_parts (callable c.head) (numbered c.vars c.head) h.head).1

pub shift-body : (n : ℕ) (c : Clause) → n < 2 ^ 63 → IsClause c → map (instance_part (shift_within n)) c.body ≡ map (instance_part (shift n)) c.body
shift-body n c low h = shift-parts n c.vars low h.few c.body h.body
