-- Each check and each group of a clause leads to the group's goals in turn, and the clause calls no predicate of built-in goals.
use Rattle.std.proofs.Common.{◌≡◌, ℕ, ◌+◌, ◌≤◌, Bool, true, false, ◌&&◌, not, if◌then◌else◌, List, [], ◌∷◌, ◌++◌, map, length, refl, ap, sym, ◌∙◌, subst, arith, append_assoc}
use Rattle.std.specs.List.{list_all}
use Rattle.std.proofs.lemmas.Bool.{false≢true, and_parts}
use Rattle.std.proofs.lemmas.List.Folds.{list_all-append}
use Rattle.ap_term.specs.declared.clauses.Check.{Check}
use Rattle.ap_term.specs.declared.clauses.Check.TheVariants.{Ground, Indep}
use Rattle.ap_term.specs.Tree.{Tree, Trees, none, more, count_trees}
use Rattle.ap_term.specs.Vars.{has, add_vars, add_all_vars}
use Rattle.ap_term.specs.Goals.{Part, call as goal, group as parallel, Clause}
use Rattle.ap_term.specs.WellFormed.{callable, all_callable, numbered, well_formed_part, IsClause}
use Rattle.ap_tracked.specs.Tracked.{placed}
use Rattle.ap_tracked.specs.Marks.{marked}
use Rattle.ap_instr.specs.declared.instruction.Slot.TheVariants.{Y}
use Rattle.ap_instr.specs.Step.{Step, put_variable, call, execute, builtin, proceed, jump, check_ground, check_indep, group, push, wait}
use Rattle.ap_instr.specs.Runs.{Runs, Reads, AsksOpenly, arguments}
use Rattle.ap_codegen.specs.CodeOf.{calls_apart}
use Rattle.ap_codegen.specs.Emitted.{Lead}
use Rattle.ap_codegen.specs.Permanent.{name, is_builtin, goal_code, asking, gets}
use Rattle.ap_codegen.specs.Grouped.{flow, straight, Unmarks, has_turns, rest_from, AreTurns, IsGroupedCode, see_check, see_checks, make, make_check, make_checks, pushes, in_turn, check_leads, side_leads, turn_leads, ways, group_leads, is_last_part, body_leads, clause_leads}
use Rattle.ap_codegen.proofs.PermanentReads.{seen_same_all, gets-only, gets-each}
use Rattle.ap_codegen.proofs.Open.{Quiet, quiet_openly, quiet_goal, quiet_gets, key_apart, asking_apart}
use Rattle.ap_codegen.proofs.GroupReads.{AsksFor, SeesAll, checks_seen}
use Rattle.ap_codegen.proofs.PartReads.{flow_straight, checks_turn, side_turns, parts_ask, group_callable}

-- whether a step leads to no goals in turn and calls no predicate of built-in goals
abbrev is_plain : Step → Bool
is_plain i = calls_apart i && not (has_turns i)

abbrev Plain : List Step → Type 0
Plain is = list_all is_plain is ≡ true

plain_both : (us bs : List Step) → Plain us → Plain bs → Plain (us ++ bs)
plain_both us bs f g = list_all-append is_plain us bs ∙ ap (λ a. a && list_all is_plain bs) f ∙ g

quiet_plain : (us : List Step) → Quiet us → Plain us
quiet_plain [] q = refl
quiet_plain (call p n ∷ us) q = absurd (false≢true q)
quiet_plain (execute p n ∷ us) q = absurd (false≢true q)
quiet_plain (builtin p n ∷ us) q = absurd (false≢true q)
quiet_plain (proceed ∷ us) q = absurd (false≢true q)
quiet_plain (jump ∷ us) q = absurd (false≢true q)
quiet_plain (check_ground v ∷ us) q = absurd (false≢true q)
quiet_plain (check_indep v w ∷ us) q = absurd (false≢true q)
quiet_plain (group n ∷ us) q = absurd (false≢true q)
quiet_plain (push p n ∷ us) q = absurd (false≢true q)
quiet_plain (wait ∷ us) q = absurd (false≢true q)
quiet_plain (i ∷ us) q = quiet_plain us q

plain_goal : (g : Tree) (seen : List ℕ) (is : List Step) → Plain is → Plain (goal_code g seen ++ is)
plain_goal g seen is p = plain_both (goal_code g seen) is (quiet_plain (goal_code g seen) (quiet_goal g seen)) p

asking_plain : (g : Tree) (is : List Step) → callable g ≡ true → Plain is → Plain (asking g ∷ is)
asking_plain g is c p = go (is_builtin g) (asking_apart g (is_builtin g) c refl)
  where
    go : (b : Bool) → calls_apart (if b then builtin (name g) (count_trees (arguments g)) else call (name g) (count_trees (arguments g))) ≡ true
        → Plain ((if b then builtin (name g) (count_trees (arguments g)) else call (name g) (count_trees (arguments g))) ∷ is)
    go true a = p
    go false a = ap (λ b. (b && true) && list_all is_plain is) a ∙ p

last_plain : (g : Tree) (ps : List Part) → callable g ≡ true → is_last_part g ps ≡ true → Plain (execute (name g) (count_trees (arguments g)) ∷ [])
last_plain g [] c e = ap (λ b. (b && true) && true) (ap not (key_apart g c (go (is_builtin g) e)))
  where
    go : (b : Bool) → (if b then false else true) ≡ true → b ≡ false
    go true d = absurd (false≢true d)
    go false d = refl
last_plain g (p ∷ ps) c e = absurd (false≢true e)

turns_plain : (gs : Trees) (seen : List ℕ) → all_callable gs ≡ true → Plain (in_turn gs seen)
turns_plain none seen c = refl
turns_plain (more g gs) seen c =
    let d = and_parts (callable g) (all_callable gs) c in
    plain_goal g seen (asking g ∷ in_turn gs (add_vars g seen)) (asking_plain g (in_turn gs (add_vars g seen)) d.0 (turns_plain gs (add_vars g seen) d.1))

pushes_plain : (gs : Trees) (seen : List ℕ) → Plain (pushes gs seen)
pushes_plain none seen = refl
pushes_plain (more g gs) seen = plain_goal g seen (push (name g) (count_trees (arguments g)) ∷ pushes gs (add_vars g seen)) (pushes_plain gs (add_vars g seen))

sides_plain : (gs : Trees) (seen : List ℕ) → Plain (pushes gs seen ++ wait ∷ [])
sides_plain gs seen = plain_both (pushes gs seen) (wait ∷ []) (pushes_plain gs seen) refl

make_plain : (v : ℕ) (seen : List ℕ) → Plain (make v seen)
make_plain v seen = go (has seen v)
  where
    go : (b : Bool) → Plain (if b then [] else put_variable (Y v) 1 ∷ [])
    go true = refl
    go false = refl

makes_plain : (cs : List Check) (seen : List ℕ) → Plain (make_checks cs seen)
makes_plain [] seen = refl
makes_plain (c ∷ cs) seen = plain_both (make_check c seen) (make_checks cs (see_check c seen)) (one c seen) (makes_plain cs (see_check c seen))
  where
    one : (c : Check) (seen : List ℕ) → Plain (make_check c seen)
    one (Ground v) seen = make_plain v seen
    one (Indep v w) seen = plain_both (make v seen) (make w _) (make_plain v seen) (make_plain w _)

-- ---- leads

-- the checks and groups lead to goals in turn, and no predicate of built-in goals is called
abbrev Turning : List Lead → List Lead → Type 0
Turning ls rest = AreTurns ls rest × (list_all (λ l. calls_apart l.0) ls ≡ true)

both_turn : (first second rest : List Lead) → Turning first (second ++ rest) → Turning second rest → Turning (first ++ second) rest
both_turn first second rest t u = (go first t.0, list_all-append (λ l. calls_apart l.0) first second ∙ ap (λ a. a && list_all (λ (l : Lead). calls_apart l.0) second) t.1 ∙ u.1)
  where
    go : (first : List Lead) → AreTurns first (second ++ rest) → AreTurns (first ++ second) rest
    go [] t = u.0
    go (l ∷ first) t = (λ e. subst (λ q. Unmarks (rest_from l.0 (flow 0 q)) (flow l.1 q)) (sym (append_assoc first second rest)) (t.0 e), go first t.1)

plain_turns : (is : List Step) (rest : List Lead) → Plain is → Turning (straight is) rest
plain_turns [] rest p = (tt, refl)
plain_turns (i ∷ is) rest p =
    let b = and_parts (is_plain i) (list_all is_plain is) p in
    let d = and_parts (calls_apart i) (not (has_turns i)) b.0 in
    let k = plain_turns is rest b.1 in
    ((λ e. absurd (false≢true (ap not (sym e) ∙ d.1)), k.0), ap (λ a. a && list_all (λ (l : Lead). calls_apart l.0) (straight is)) d.0 ∙ k.1)

checks_apart : (cs : List Check) (n : ℕ) → list_all (λ l. calls_apart l.0) (check_leads cs n) ≡ true
checks_apart [] n = refl
checks_apart (Ground v ∷ cs) n = checks_apart cs n
checks_apart (Indep v w ∷ cs) n = checks_apart cs n

ways_turn : (gs : Trees) (seen : List ℕ) (ls : List Lead) (goals : (ℕ → Tree) → Trees) → all_callable gs ≡ true → AsksFor (add_all_vars gs seen) (flow 0 ls) goals → (cs : List Check) → SeesAll seen cs → Turning (ways cs gs seen) ls
ways_turn gs seen ls goals c a cs s =
    let side : List Lead = side_leads gs seen in
    let turn : List Lead = turn_leads gs seen in
    let t = plain_turns (in_turn gs seen) ls (turns_plain gs seen c) in
    let k = plain_turns (pushes gs seen ++ wait ∷ []) (turn ++ ls) (sides_plain gs seen) in
    both_turn (check_leads cs (length side)) (side ++ turn) ls
    (subst (AreTurns (check_leads cs (length side))) (sym (append_assoc side turn ls)) (checks_turn gs seen ls goals c a cs s), checks_apart cs (length side))
    (both_turn side turn ls ((side_turns gs seen ls goals c a, k.0), k.1) ((λ e. absurd (false≢true e), t.0), t.1))

-- whatever stands behind a body
pub body_turns : (n : ℕ) (ps : List Part) (seen : List ℕ) (rest : List Lead) → list_all (well_formed_part n) ps ≡ true → Turning (body_leads ps seen) rest
body_turns n [] seen rest w = plain_turns (proceed ∷ []) rest refl
body_turns n (goal g ∷ ps) seen rest w = go (is_last_part g ps) refl (body_turns n ps (add_vars g seen) rest b.1)
  where
    b : (well_formed_part n (goal g) ≡ true) × (list_all (well_formed_part n) ps ≡ true)
    b = and_parts (well_formed_part n (goal g)) (list_all (well_formed_part n) ps) w

    c : callable g ≡ true
    c = (and_parts (callable g) (numbered n g) b.0).0

    call_last : Step
    call_last = execute (name g) (count_trees (arguments g))

    go : (l : Bool) → is_last_part g ps ≡ l → Turning (body_leads ps (add_vars g seen)) rest
        → Turning (if l then straight (goal_code g seen ++ call_last ∷ []) else straight (goal_code g seen ++ asking g ∷ []) ++ body_leads ps (add_vars g seen)) rest
    go true e t = plain_turns (goal_code g seen ++ call_last ∷ []) rest (plain_goal g seen (call_last ∷ []) (last_plain g ps c e))
    go false e t =
        let is : List Step = goal_code g seen ++ asking g ∷ [] in
        let behind : List Lead = body_leads ps (add_vars g seen) in
        both_turn (straight is) behind rest (plain_turns is (behind ++ rest) (plain_goal g seen (asking g ∷ []) (asking_plain g [] c refl))) t
body_turns n (parallel cs gs ∷ ps) seen rest w =
    let b = and_parts (well_formed_part n (parallel cs gs)) (list_all (well_formed_part n) ps) w in
    let seen1 : List ℕ = see_checks cs seen in
    let seen2 : List ℕ = add_all_vars gs seen1 in
    let behind : List Lead = body_leads ps seen2 in
    let made : List Step = make_checks cs seen in
    let both : List Lead = ways cs gs seen1 in
    both_turn (group_leads cs gs seen) behind rest
    (both_turn (straight made) both (behind ++ rest) (plain_turns made (both ++ (behind ++ rest)) (makes_plain cs seen))
    (ways_turn gs seen1 (behind ++ rest) (λ h. marked (map (placed h) ps)) (group_callable n cs gs b.0) (parts_ask n ps seen2 rest b.1) cs (checks_seen cs seen)))
    (body_turns n ps seen2 rest b.1)

-- ---- the whole clause

pub clause_grouped : (c : Clause) → IsClause c → IsGroupedCode c (clause_leads c)
clause_grouped c i = record { reads = reads; openly = openly; turns = λ rest. (whole rest).0; apart = (whole []).1 }
  where
    m : ℕ
    m = count_trees (arguments c.head) + 1

    seen : List ℕ
    seen = add_all_vars (arguments c.head) []

    head : List Step
    head = gets (arguments c.head) 1 [] m

    body : List Lead
    body = body_leads c.body seen

    goals : (ℕ → Tree) → Trees
    goals h = marked (map (placed h) c.body)

    asks : (rest : List Lead) → AsksFor seen (flow 0 (body ++ rest)) goals
    asks rest = parts_ask c.vars c.body seen rest i.body

    split : (rest : List Lead) → flow 0 (clause_leads c ++ rest) ≡ head ++ flow 0 (body ++ rest)
    split rest = ap (flow 0) (append_assoc (straight head) body rest) ∙ flow_straight head (body ++ rest)

    reads : (rest : List Lead) → Reads (flow 0 (clause_leads c ++ rest)) c
    reads rest = record {
      only = λ x y bs r.
          let g =
          gets-only bs (arguments c.head) 1 [] m (flow 0 (body ++ rest)) x y (let l : 1 + count_trees (arguments c.head) ≤ count_trees (arguments c.head) + 1 = omega arith in l)
          (subst (λ q. Runs q none x y bs) (split rest) r) in
          let d = (asks rest).only g.0 g.1 bs g.5 in
          (d.0, g.4 ∙ seen_same_all (arguments c.head) [] g.1 d.0 d.1, d.2);
      each = λ x y bs a.
          subst (Runs (flow 0 (clause_leads c ++ rest)) none x y) (sym a.2)
          (subst (λ q. Runs q none x y (goals a.0)) (sym (split rest))
          (gets-each (goals a.0) a.0 (arguments c.head) 1 [] m (flow 0 (body ++ rest)) x y
          (let l : 1 + count_trees (arguments c.head) ≤ count_trees (arguments c.head) + 1 = omega arith in l) (λ w o. absurd (false≢true o)) a.1
          (λ x' y' a'. (asks rest).each a.0 x' y' a')));
    }

    openly : (rest : List Lead) → AsksOpenly (flow 0 (clause_leads c ++ rest))
    openly rest = subst AsksOpenly (sym (split rest)) (quiet_openly head (flow 0 (body ++ rest)) (quiet_gets (arguments c.head) 1 [] m) (asks rest).openly)

    whole : (rest : List Lead) → Turning (clause_leads c) rest
    whole rest = both_turn (straight head) body rest (plain_turns head (body ++ rest) (quiet_plain head (quiet_gets (arguments c.head) 1 [] m))) (body_turns c.vars c.body seen rest i.body)
