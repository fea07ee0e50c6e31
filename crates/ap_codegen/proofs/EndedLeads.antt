-- The code of a clause with groups ends once, with its last step, and no label leads past it.
use Rattle.std.proofs.Common.{◌≡◌, ℕ, ◌+◌, ◌<◌, Bool, true, false, not, ◌&&◌, if◌then◌else◌, List, [], ◌∷◌, ◌++◌, length, refl, ap, sym, ◌∙◌, subst, arith, append_assoc}
use Rattle.std.specs.List.{list_all}
use Rattle.std.proofs.lemmas.Bool.{false≢true, and_parts}
use Rattle.std.proofs.lemmas.List.Folds.{list_all-append}
use Rattle.ap_term.specs.declared.clauses.Check.{Check}
use Rattle.ap_term.specs.declared.clauses.Check.TheVariants.{Ground, Indep}
use Rattle.ap_term.specs.Tree.{Tree, Trees, var, none, more, count_trees}
use Rattle.ap_term.specs.Vars.{has, add_vars, add_all_vars}
use Rattle.ap_term.specs.Goals.{Part, call as goal, group as parallel, Clause}
use Rattle.ap_instr.specs.declared.instruction.Slot.TheVariants.{Y}
use Rattle.ap_instr.specs.Step.{Step, put_variable, call, execute, builtin, proceed, jump, group, push, wait}
use Rattle.ap_instr.specs.Runs.{arguments}
use Rattle.ap_codegen.specs.Emitted.{Lead}
use Rattle.ap_codegen.specs.Temporary.{ends}
use Rattle.ap_codegen.specs.Permanent.{name, is_builtin, goal_code, asking, gets}
use Rattle.ap_codegen.specs.Grouped.{straight, IsEnded, see_check, see_checks, make, make_check, make_checks, pushes, in_turn, check_step, check_leads, sides, turns, side_leads, turn_leads, ways, group_leads, is_last_part, body_leads, clause_leads}
use Rattle.ap_codegen.proofs.Open.{is_quiet, Quiet, quiet_goal, quiet_gets}
use Rattle.ap_codegen.proofs.PartLeads.{straight_both}

-- ---- steps behind which others run

abbrev pub goes_on : Step → Bool
goes_on i = not (ends i)

abbrev pub GoesOn : List Step → Type 0
GoesOn is = list_all goes_on is ≡ true

goes_both : (is js : List Step) → GoesOn is → GoesOn js → GoesOn (is ++ js)
goes_both is js f g = list_all-append goes_on is js ∙ ap (λ a. a && list_all goes_on js) f ∙ g

no_end : (i : Step) → goes_on i ≡ true → ends i ≡ false
no_end i e = go (ends i) e
  where
    go : (b : Bool) → not b ≡ true → b ≡ false
    go true e = absurd (false≢true e)
    go false e = refl

quiet_goes : (is : List Step) → Quiet is → GoesOn is
quiet_goes [] q = refl
quiet_goes (i ∷ is) q =
    let b = and_parts (is_quiet i) (list_all is_quiet is) q in
    ap (λ c. c && list_all goes_on is) (one i b.0) ∙ quiet_goes is b.1
  where
    one : (i : Step) → is_quiet i ≡ true → goes_on i ≡ true
    one (execute p n) e = absurd (false≢true e)
    one proceed e = absurd (false≢true e)
    one _ e = refl

goal_goes : (g : Tree) (seen : List ℕ) → GoesOn (goal_code g seen)
goal_goes g seen = quiet_goes (goal_code g seen) (quiet_goal g seen)

asking_goes : (g : Tree) → goes_on (asking g) ≡ true
asking_goes g = go (is_builtin g)
  where
    go : (b : Bool) → goes_on (if b then builtin (name g) (count_trees (arguments g)) else call (name g) (count_trees (arguments g))) ≡ true
    go true = refl
    go false = refl

pushes_goes : (gs : Trees) (seen : List ℕ) → GoesOn (pushes gs seen)
pushes_goes none seen = refl
pushes_goes (more g gs) seen = goes_both (goal_code g seen) (push (name g) (count_trees (arguments g)) ∷ pushes gs (add_vars g seen)) (goal_goes g seen) (pushes_goes gs (add_vars g seen))

sides_go : (gs : Trees) (seen : List ℕ) → GoesOn (pushes gs seen ++ wait ∷ [])
sides_go gs seen = goes_both (pushes gs seen) (wait ∷ []) (pushes_goes gs seen) refl

turn_goes : (gs : Trees) (seen : List ℕ) → GoesOn (in_turn gs seen)
turn_goes none seen = refl
turn_goes (more g gs) seen =
    goes_both (goal_code g seen) (asking g ∷ in_turn gs (add_vars g seen)) (goal_goes g seen) (ap (λ c. c && list_all goes_on (in_turn gs (add_vars g seen))) (asking_goes g) ∙ turn_goes gs (add_vars g seen))

make_goes : (x : ℕ) (seen : List ℕ) → GoesOn (make x seen)
make_goes x seen = go (has seen x)
  where
    go : (b : Bool) → GoesOn (if b then [] else put_variable (Y x) 1 ∷ [])
    go true = refl
    go false = refl

makes_goes : (cs : List Check) (seen : List ℕ) → GoesOn (make_checks cs seen)
makes_goes [] seen = refl
makes_goes (c ∷ cs) seen = goes_both (make_check c seen) (make_checks cs (see_check c seen)) (one c) (makes_goes cs (see_check c seen))
  where
    one : (c : Check) → GoesOn (make_check c seen)
    one (Ground x) = make_goes x seen
    one (Indep x y) = goes_both (make x seen) (make y (add_vars (var x) seen)) (make_goes x seen) (make_goes y (add_vars (var x) seen))

-- ---- ended behind others

pub ended_more : (l : Lead) (ls : List Lead) → ends l.0 ≡ false → l.1 < length ls → IsEnded ls → IsEnded (l ∷ ls)
ended_more l [] e b h = absurd h
ended_more l (m ∷ ls) e b h = (e, omega arith, h)

pub ended_some : (ls : List Lead) → IsEnded ls → 0 < length ls
ended_some [] h = absurd h
ended_some (l ∷ ls) h = omega arith

pub straight_ended : (is : List Step) (ls : List Lead) → GoesOn is → IsEnded ls → IsEnded (straight is ++ ls)
straight_ended [] ls g h = h
straight_ended (i ∷ is) ls g h =
    let b = and_parts (goes_on i) (list_all goes_on is) g in
    let k = straight_ended is ls b.1 h in
    ended_more (i, 0) (straight is ++ ls) (no_end i b.0) (ended_some (straight is ++ ls) k) k

length_both : (ks ls : List Lead) → length (ks ++ ls) ≡ length ks + length ls
length_both [] ls = omega arith
length_both (k ∷ ks) ls = let e = length_both ks ls in omega arith

length_checks : (cs : List Check) (n : ℕ) (ls : List Lead) → length (check_leads cs n ++ ls) ≡ length cs + length ls
length_checks [] n ls = omega arith
length_checks (c ∷ cs) n ls = let e = length_checks cs n ls in omega arith

checks_ended : (cs : List Check) (n : ℕ) (ls : List Lead) → n + 1 < length ls → IsEnded ls → IsEnded (check_leads cs n ++ ls)
checks_ended [] n ls b h = h
checks_ended (c ∷ cs) n ls b h =
    let e = length_checks cs n ls in
    ended_more (check_step c, length cs + n + 1) (check_leads cs n ++ ls) (one c) (omega arith) (checks_ended cs n ls b h)
  where
    one : (c : Check) → ends (check_step c) ≡ false
    one (Ground x) = refl
    one (Indep x y) = refl

ways_ended : (cs : List Check) (gs : Trees) (seen : List ℕ) (rest : List Lead) → IsEnded rest → IsEnded (ways cs gs seen ++ rest)
ways_ended cs gs seen rest h =
    let side : List Lead = side_leads gs seen in
    let turn : List Lead = turn_leads gs seen in
    let some = ended_some rest h in
    let turned = length_both (turns gs seen) rest in
    let sided = length_both (sides gs seen) (turn ++ rest) in
    let behind : IsEnded (turn ++ rest) = ended_more (jump, length (turns gs seen)) (turns gs seen ++ rest) refl (omega arith) (straight_ended (in_turn gs seen) rest (turn_goes gs seen) h) in
    subst IsEnded (sym (append_assoc (check_leads cs (length side)) (side ++ turn) rest ∙ ap (λ ls. check_leads cs (length side) ++ ls) (append_assoc side turn rest)))
    (checks_ended cs (length side) (side ++ (turn ++ rest)) (omega arith)
    (ended_more (group (count_trees gs), length (sides gs seen) + 1) (sides gs seen ++ (turn ++ rest)) refl (omega arith) (straight_ended (pushes gs seen ++ wait ∷ []) (turn ++ rest) (sides_go gs seen) behind)))

group_ended : (cs : List Check) (gs : Trees) (seen : List ℕ) (rest : List Lead) → IsEnded rest → IsEnded (group_leads cs gs seen ++ rest)
group_ended cs gs seen rest h =
    subst IsEnded (sym (append_assoc (straight (make_checks cs seen)) (ways cs gs (see_checks cs seen)) rest))
    (straight_ended (make_checks cs seen) (ways cs gs (see_checks cs seen) ++ rest) (makes_goes cs seen) (ways_ended cs gs (see_checks cs seen) rest h))

body_ended : (ps : List Part) (seen : List ℕ) → IsEnded (body_leads ps seen)
body_ended [] seen = (refl, refl)
body_ended (goal g ∷ ps) seen = go (is_last_part g ps) (body_ended ps (add_vars g seen))
  where
    last : Step
    last = execute (name g) (count_trees (arguments g))

    go : (b : Bool) → IsEnded (body_leads ps (add_vars g seen)) → IsEnded (if b then straight (goal_code g seen ++ last ∷ []) else straight (goal_code g seen ++ asking g ∷ []) ++ body_leads ps (add_vars g seen))
    go true h = subst IsEnded (sym (straight_both (goal_code g seen) (last ∷ []))) (straight_ended (goal_code g seen) (straight (last ∷ [])) (goal_goes g seen) (refl, refl))
    go false h = straight_ended (goal_code g seen ++ asking g ∷ []) (body_leads ps (add_vars g seen)) (goes_both (goal_code g seen) (asking g ∷ []) (goal_goes g seen) (ap (λ c. c && true) (asking_goes g))) h
body_ended (parallel cs gs ∷ ps) seen =
    group_ended cs gs seen (body_leads ps (add_all_vars gs (see_checks cs seen))) (body_ended ps (add_all_vars gs (see_checks cs seen)))

pub clause_ended : (c : Clause) → IsEnded (clause_leads c)
clause_ended c =
    let us : List Step = gets (arguments c.head) 1 [] (count_trees (arguments c.head) + 1) in
    let seen : List ℕ = add_all_vars (arguments c.head) [] in
    straight_ended us (body_leads c.body seen) (quiet_goes us (quiet_gets (arguments c.head) 1 [] (count_trees (arguments c.head) + 1))) (body_ended c.body seen)
