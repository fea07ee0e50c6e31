-- Goals read as one list, with all groups as conjunctions.
use Rattle.std.proofs.Common.{◌≡◌, ℕ, ◌+◌, ◌<◌, ◌≤◌, Bool, true, false, ◌||◌, List, [], ◌∷◌, ◌++◌, map, length, drop, get_or, refl, ap, sym, ◌∙◌}
use Rattle.std.specs.List.{list_any}
use Rattle.std.proofs.lemmas.List.{drop_more, drop_all}
use Rattle.ap_term.specs.declared.clauses.Part as code
use Rattle.ap_term.specs.GoalView.{part_of}
use Rattle.ap_term.specs.Tree.{Tree, Trees, none, more, append_trees}
use Rattle.ap_term.specs.Substitution.{instance, instance_all}
use Rattle.ap_term.specs.Goals.{Part, call, group, instance_part, calls, opened, plain_goals, is_group}
use Rattle.ap_term.proofs.TreeLists.{instance_all-append_trees}

pub plain_goals-append : (ps qs : List Part) → plain_goals (ps ++ qs) ≡ append_trees (plain_goals ps) (plain_goals qs)
plain_goals-append [] qs = refl
plain_goals-append (call t ∷ ps) qs = ap (more t) (plain_goals-append ps qs)
plain_goals-append (group cs none ∷ ps) qs = plain_goals-append ps qs
plain_goals-append (group cs (more t ts) ∷ ps) qs = ap (more t) (plain_goals-append (group cs ts ∷ ps) qs)

pub plain_goals-instance : (f : ℕ → Tree) (ps : List Part) → plain_goals (map (instance_part f) ps) ≡ instance_all f (plain_goals ps)
plain_goals-instance f [] = refl
plain_goals-instance f (call t ∷ ps) = ap (more (instance f t)) (plain_goals-instance f ps)
plain_goals-instance f (group cs ts ∷ ps) =
    ap (append_trees (instance_all f ts)) (plain_goals-instance f ps) ∙ sym (instance_all-append_trees f ts (plain_goals ps))

pub plain_goals-calls_append : (ts : Trees) (ps : List Part) → plain_goals (calls ts ++ ps) ≡ append_trees ts (plain_goals ps)
plain_goals-calls_append none ps = refl
plain_goals-calls_append (more t ts) ps = ap (more t) (plain_goals-calls_append ts ps)

pub plain_goals-calls : (ts : Trees) → plain_goals (calls ts) ≡ ts
plain_goals-calls none = refl
plain_goals-calls (more t ts) = ap (more t) (plain_goals-calls ts)

pub plain_goals-opened : (ps : List Part) → plain_goals (opened ps) ≡ plain_goals ps
plain_goals-opened [] = refl
plain_goals-opened (call t ∷ ps) = refl
plain_goals-opened (group cs none ∷ ps) = plain_goals-opened ps
plain_goals-opened (group cs (more t ts) ∷ ps) = ap (more t) (plain_goals-calls_append ts ps)

-- ---- the parts that a loop over the code's has left

pub parts-drop_more : (ps : List code.Part) (i : ℕ) (p : code.Part) → i < length ps → p ≡ get_or ps i p → map part_of (drop i ps) ≡ part_of p ∷ map part_of (drop (i + 1) ps)
parts-drop_more ps i p h e = ap (map part_of) (drop_more ps i p h) ∙ ap (λ q. part_of q ∷ map part_of (drop (i + 1) ps)) (sym e)

pub any-turn : (ps : List code.Part) (i : ℕ) (p : code.Part) (whole : Bool) → i < length ps → p ≡ get_or ps i p → is_group (part_of p) ≡ false
    → list_any is_group (map part_of (drop i ps)) ≡ whole → list_any is_group (map part_of (drop (i + 1) ps)) ≡ whole
any-turn ps i p whole l e h k =
    ap (λ b. b || list_any is_group (map part_of (drop (i + 1) ps))) (sym h) ∙ ap (list_any is_group) (sym (parts-drop_more ps i p l e)) ∙ k

pub any-found : (ps : List code.Part) (i : ℕ) (p : code.Part) (whole : Bool) → i < length ps → p ≡ get_or ps i p → is_group (part_of p) ≡ true
    → list_any is_group (map part_of (drop i ps)) ≡ whole → true ≡ whole
any-found ps i p whole l e h k =
    ap (λ b. b || list_any is_group (map part_of (drop (i + 1) ps))) (sym h) ∙ ap (list_any is_group) (sym (parts-drop_more ps i p l e)) ∙ k

pub any-done : (ps : List code.Part) (i : ℕ) (whole : Bool) → length ps ≤ i → list_any is_group (map part_of (drop i ps)) ≡ whole → false ≡ whole
any-done ps i whole l k = ap (λ qs. list_any is_group (map part_of qs)) (sym (drop_all i ps l)) ∙ k

pub ruleset rules_of_groups = (any-turn, any-found, any-done)
