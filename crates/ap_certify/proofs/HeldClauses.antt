-- What a clause's form gives to the calls on its parts.
use Rattle.std.proofs.Common.{ℕ, ◌+◌, ◌≤◌, ◌&&◌, nat_le, IsTrue, List, [], ◌∷◌, refl, arith}
use Rattle.std.specs.List.{list_all}
use Rattle.std.proofs.lemmas.Bool.{and_parts, and_from, leb-true, le-leb}
use Rattle.ap_term.specs.declared.clauses.Check.{Check}
use Rattle.ap_term.specs.declared.clauses.Check.TheVariants.{Ground, Indep}
use Rattle.ap_term.specs.Tree.{count_trees}
use Rattle.ap_term.specs.Goals.{Part, call, group, Clause}
use Rattle.ap_term.specs.WellFormed.{in_range, callable, all_callable, numbered, numbered_all, numbered_check, well_formed_part, IsClause}
use Rattle.ap_patterns.specs.Places.{arguments}
use Rattle.ap_patterns.specs.Given.{is_analysed}
use Rattle.ap_patterns.proofs.Arguments.{numbered_all-more, head-callable, head-numbered, head-in_range, numbered-more}

range-more : (n m x : ℕ) → n ≤ m → IsTrue (in_range n x) → IsTrue (in_range m x)
range-more n m x l h =
    let r = and_parts (nat_le 1 x) (nat_le x n) h in
    let k : x ≤ n = leb-true x n r.1 in
    and_from (nat_le 1 x) (nat_le x m) r.0 (le-leb x m (omega arith))

check-more : (n m : ℕ) (c : Check) → n ≤ m → IsTrue (numbered_check n c) → IsTrue (numbered_check m c)
check-more n m (Ground x) l h = range-more n m x l h
check-more n m (Indep x y) l h =
    let r = and_parts (in_range n x) (in_range n y) h in and_from (in_range m x) (in_range m y) (range-more n m x l r.0) (range-more n m y l r.1)

checks-more : (n m : ℕ) (cs : List Check) → n ≤ m → IsTrue (list_all (numbered_check n) cs) → IsTrue (list_all (numbered_check m) cs)
checks-more n m [] l h = refl
checks-more n m (c ∷ cs) l h =
    let r = and_parts (numbered_check n c) (list_all (numbered_check n) cs) h in
    and_from (numbered_check m c) (list_all (numbered_check m) cs) (check-more n m c l r.0) (checks-more n m cs l r.1)

part-more : (n m : ℕ) (p : Part) → n ≤ m → IsTrue (well_formed_part n p) → IsTrue (well_formed_part m p)
part-more n m (call t) l h = let r = and_parts (callable t) (numbered n t) h in and_from (callable t) (numbered m t) r.0 (numbered-more n m t l r.1)
part-more n m (group cs ts) l h =
    let a = and_parts (list_all (numbered_check n) cs) (nat_le 1 (count_trees ts) && (all_callable ts && numbered_all n ts)) h in
    let b = and_parts (nat_le 1 (count_trees ts)) (all_callable ts && numbered_all n ts) a.1 in
    let d = and_parts (all_callable ts) (numbered_all n ts) b.1 in
    and_from (list_all (numbered_check m) cs) (nat_le 1 (count_trees ts) && (all_callable ts && numbered_all m ts)) (checks-more n m cs l a.0)
    (and_from (nat_le 1 (count_trees ts)) (all_callable ts && numbered_all m ts) b.0 (and_from (all_callable ts) (numbered_all m ts) d.0 (numbered_all-more n m ts l d.1)))

body-more : (n m : ℕ) (ps : List Part) → n ≤ m → IsTrue (list_all (well_formed_part n) ps) → IsTrue (list_all (well_formed_part m) ps)
body-more n m [] l h = refl
body-more n m (p ∷ ps) l h =
    let r = and_parts (well_formed_part n p) (list_all (well_formed_part n) ps) h in
    and_from (well_formed_part m p) (list_all (well_formed_part m) ps) (part-more n m p l r.0) (body-more n m ps l r.1)

pub clause-body : (c : Clause) → IsClause c → IsTrue (list_all (well_formed_part 255) c.body)
clause-body c h = body-more c.vars 255 c.body h.few h.body

pub analysed-few : (c : Clause) → IsTrue (is_analysed c) → c.vars + count_trees (arguments c.head) ≤ 255
analysed-few c h = let k = leb-true (c.vars + count_trees (arguments c.head)) 64 h in omega arith

pub ruleset rules_of_clauses = (clause-body, head-callable, head-numbered, head-in_range, analysed-few)
