-- Parts of a clause, placed by maps that agree on its variables.
use Rattle.std.proofs.Common.{◌≡◌, ℕ, true, ◌&&◌, IsTrue, nat_le, List, [], ◌∷◌, map, refl, ap₂, ◌∙◌}
use Rattle.std.specs.List.{list_all}
use Rattle.std.proofs.lemmas.Bool.{and_parts}
use Rattle.ap_term.specs.declared.clauses.Check.{Check}
use Rattle.ap_term.specs.declared.clauses.Check.TheVariants.{Ground, Indep}
use Rattle.ap_term.specs.Tree.{Tree, Trees, node, more, count_trees, append_trees}
use Rattle.ap_term.specs.Substitution.{instance_all}
use Rattle.ap_term.specs.Goals as goals
use Rattle.ap_term.specs.WellFormed.{in_range, callable, all_callable, numbered, numbered_all, numbered_check, well_formed_part}
use Rattle.ap_term.proofs.Solutions.{instance_agree, instance_all_agree}
use Rattle.ap_tracked.specs.Tracked.{placed}
use Rattle.ap_tracked.specs.Marks.{ground_mark, apart_mark, group_mark, check_marks, marked}
use Rattle.ap_tracked.proofs.Untracked.{numbered-range}

module _ (f g : ℕ → Tree) (n : ℕ) (e : (x : ℕ) → in_range n x ≡ true → f x ≡ g x) where
  checks-agree : (cs : List Check) (ts : Trees) → IsTrue (list_all (numbered_check n) cs) → check_marks f cs ts ≡ check_marks g cs ts
  checks-agree [] ts h = refl
  checks-agree (Ground x ∷ cs) ts h =
      let r = and_parts (in_range n x) (list_all (numbered_check n) cs) h in ap₂ (λ t us. more ground_mark (more t us)) (e x r.0) (checks-agree cs ts r.1)
  checks-agree (Indep x y ∷ cs) ts h =
      let r = and_parts (in_range n x && in_range n y) (list_all (numbered_check n) cs) h in
      let q = and_parts (in_range n x) (in_range n y) r.0 in
      ap₂ (λ t us. more apart_mark (more t us)) (e x q.0) (ap₂ more (e y q.1) (checks-agree cs ts r.1))

  group-agree : (cs : List Check) (ts us vs : Trees) → us ≡ vs → IsTrue (list_all (numbered_check n) cs) → IsTrue (numbered_all n ts)
      → check_marks f cs (more (group_mark (count_trees ts)) (append_trees (instance_all f ts) us)) ≡ check_marks g cs (more (group_mark (count_trees ts)) (append_trees (instance_all g ts) vs))
  group-agree cs ts us vs same c h =
      checks-agree cs (more (group_mark (count_trees ts)) (append_trees (instance_all f ts) us)) c
      ∙ ap₂ (λ a b. check_marks g cs (more (group_mark (count_trees ts)) (append_trees a b))) (instance_all_agree f g ts (λ x o. e x (numbered-range n (node 0 ts) h x o))) same

  pub marked-agree : (ps : List goals.Part) → IsTrue (list_all (well_formed_part n) ps) → marked (map (placed f) ps) ≡ marked (map (placed g) ps)
  marked-agree [] h = refl
  marked-agree (goals.call t ∷ ps) h =
      let r = and_parts (callable t && numbered n t) (list_all (well_formed_part n) ps) h in
      ap₂ more (instance_agree f g t (λ x o. e x (numbered-range n t (and_parts (callable t) (numbered n t) r.0).1 x o))) (marked-agree ps r.1)
  marked-agree (goals.group cs ts ∷ ps) h =
      let r = and_parts (well_formed_part n (goals.group cs ts)) (list_all (well_formed_part n) ps) h in
      let a = and_parts (list_all (numbered_check n) cs) (nat_le 1 (count_trees ts) && (all_callable ts && numbered_all n ts)) r.0 in
      let b = and_parts (nat_le 1 (count_trees ts)) (all_callable ts && numbered_all n ts) a.1 in
      group-agree cs ts (marked (map (placed f) ps)) (marked (map (placed g) ps)) (marked-agree ps r.1) a.0 (and_parts (all_callable ts) (numbered_all n ts) b.1).1
