-- Goals and clauses are well formed.
use Rattle.std.proofs.Common.{ℕ, ◌≤◌, ◌&&◌, IsTrue, nat_le, List, [], ◌∷◌, refl}
use Rattle.std.proofs.lemmas.Bool.{and_parts, and_from}
use Rattle.std.specs.List.{list_all}
use Rattle.ap_term.specs.declared.clauses.Check.{Check}
use Rattle.ap_term.specs.Tree.{Trees, count_trees}
use Rattle.ap_term.specs.Goals as goals
use Rattle.ap_term.specs.Goals.{Clause, call, group}
use Rattle.ap_term.specs.WellFormed.{callable, all_callable, numbered, numbered_all, numbered_check, well_formed_part, IsClause}
use Rattle.ap_patterns.proofs.Arguments.{callable-few, numbered_all-more, numbered-more, head-callable, head-numbered, head-in_range}
use Rattle.ap_fixpoint.specs.Formed.{goals_formed}

-- ---- parts

pub group-callable : (n : ℕ) (cs : List Check) (ts : Trees) → IsTrue (well_formed_part n (group cs ts)) → IsTrue (all_callable ts)
group-callable n cs ts h =
    let r = and_parts (list_all (numbered_check n) cs) (nat_le 1 (count_trees ts) && (all_callable ts && numbered_all n ts)) h in
    let q = and_parts (nat_le 1 (count_trees ts)) (all_callable ts && numbered_all n ts) r.1 in
    (and_parts (all_callable ts) (numbered_all n ts) q.1).0

pub group-numbered : (n : ℕ) (cs : List Check) (ts : Trees) → IsTrue (well_formed_part n (group cs ts)) → IsTrue (numbered_all n ts)
group-numbered n cs ts h =
    let r = and_parts (list_all (numbered_check n) cs) (nat_le 1 (count_trees ts) && (all_callable ts && numbered_all n ts)) h in
    let q = and_parts (nat_le 1 (count_trees ts)) (all_callable ts && numbered_all n ts) r.1 in
    (and_parts (all_callable ts) (numbered_all n ts) q.1).1

pub part-formed : (n : ℕ) (p : goals.Part) → n ≤ 255 → IsTrue (well_formed_part n p) → IsTrue (goals_formed p)
part-formed n (call t) l h = let r = and_parts (callable t) (numbered n t) h in and_from (callable t) (numbered 255 t) r.0 (numbered-more n 255 t l r.1)
part-formed n (group cs ts) l h = and_from (all_callable ts) (numbered_all 255 ts) (group-callable n cs ts h) (numbered_all-more n 255 ts l (group-numbered n cs ts h))

pub parts-formed : (n : ℕ) (ps : List goals.Part) → n ≤ 255 → IsTrue (list_all (well_formed_part n) ps) → IsTrue (list_all goals_formed ps)
parts-formed n [] l h = refl
parts-formed n (p ∷ ps) l h =
    let r = and_parts (well_formed_part n p) (list_all (well_formed_part n) ps) h in
    and_from (goals_formed p) (list_all goals_formed ps) (part-formed n p l r.0) (parts-formed n ps l r.1)

-- ---- bodies part by part

pub clause-formed : (c : Clause) → IsClause c → IsTrue (list_all goals_formed c.body)
clause-formed c h = parts-formed c.vars c.body h.few h.body

pub ruleset rules_of_clauses = (clause-formed, head-callable, head-numbered, head-in_range, callable-few)
