-- A clause without its groups is a clause.
use Rattle.std.proofs.Common.{◌≡◌, ℕ, ◌≤◌, take, length, ◌&&◌, nat_le, true, List, [], ◌∷◌, map, refl, ap, sym, ◌∙◌}
use Rattle.std.specs.List.{list_all, flat_map}
use Rattle.std.proofs.lemmas.Bool.{and_parts, and_from}
use Rattle.std.proofs.lemmas.List.Folds.{list_all-append, flat_map-map}
use Rattle.std.proofs.lemmas.List.{take_all}
use Rattle.ap_term.specs.declared.terms.Term.{Term}
use Rattle.ap_term.specs.declared.clauses.Part as code
use Rattle.ap_term.specs.GoalView.{part_of}
use Rattle.ap_term.specs.Tree.{Tree, count_trees}
use Rattle.ap_term.specs.TermView.{tree_of, trees_of}
use Rattle.ap_term.specs.Goals.{Part, call, group, calls, Clause}
use Rattle.ap_term.specs.WellFormed.{all_callable, numbered_all, numbered_check, well_formed_part, IsClause}
use Rattle.ap_term.proofs.WellFormed.{calls-formed}
use Rattle.ap_cge.specs.Stripped.{stripped_part, stripped_clause}

pub calls-map : (ts : List Term) → calls (trees_of ts) ≡ map (λ t. call (tree_of t)) ts
calls-map [] = refl
calls-map (t ∷ ts) = ap (λ ps. call (tree_of t) ∷ ps) (calls-map ts)

part-formed : (n : ℕ) (p : Part) → well_formed_part n p ≡ true → list_all (well_formed_part n) (stripped_part p) ≡ true
part-formed n (call t) h = and_from (well_formed_part n (call t)) true h refl
part-formed n (group cs ts) h =
    let a = and_parts (list_all (numbered_check n) cs) (nat_le 1 (count_trees ts) && (all_callable ts && numbered_all n ts)) h in
    let b = and_parts (nat_le 1 (count_trees ts)) (all_callable ts && numbered_all n ts) a.1 in
    let c = and_parts (all_callable ts) (numbered_all n ts) b.1 in
    calls-formed n ts c.0 c.1

parts-formed : (n : ℕ) (ps : List Part) → list_all (well_formed_part n) ps ≡ true → list_all (well_formed_part n) (flat_map stripped_part ps) ≡ true
parts-formed n [] h = refl
parts-formed n (p ∷ ps) h =
    let a = and_parts (well_formed_part n p) (list_all (well_formed_part n) ps) h in
    list_all-append (well_formed_part n) (stripped_part p) (flat_map stripped_part ps)
    ∙ and_from _ _ (part-formed n p a.0) (parts-formed n ps a.1)

pub stripped-formed : (c : Clause) → IsClause c → IsClause (stripped_clause c)
stripped-formed c h = record { few = h.few; head = h.head; body = parts-formed c.vars c.body h.body }

pub same_clause : (c : Clause) (head : Tree) (body : List Part) (vars line : ℕ) → head ≡ c.head → body ≡ flat_map stripped_part c.body → vars ≡ c.vars → line ≡ c.line
    → record { head = head; body = body; vars = vars; line = line } ≡ stripped_clause c
same_clause c head body vars line h b v l =
    ap (λ x. record { head = x; body = body; vars = vars; line = line }) h
    ∙ ap (λ x. record { head = c.head; body = x; vars = vars; line = line }) b
    ∙ ap (λ x. record { head = c.head; body = flat_map stripped_part c.body; vars = x; line = line }) v
    ∙ ap (λ x. record { head = c.head; body = flat_map stripped_part c.body; vars = c.vars; line = x }) l

-- the parts that the code goes over, up to their end
pub stripped-body : (ps : List code.Part) (i : ℕ) (body parts : List Part) → body ≡ flat_map (λ p. stripped_part (part_of p)) (take i ps) → length ps ≤ i → map part_of ps ≡ parts
    → body ≡ flat_map stripped_part parts
stripped-body ps i body parts b h p =
    b ∙ ap (flat_map (λ q. stripped_part (part_of q))) (take_all i ps h) ∙ sym (flat_map-map stripped_part part_of ps) ∙ ap (flat_map stripped_part) p
