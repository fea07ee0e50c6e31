-- A body with groups asks for its goals and marks, and each check and each group of it leads to the group's goals one after another.
use Rattle.std.proofs.Common.{◌≡◌, ℕ, suc, ◌+◌, Bool, true, false, ◌&&◌, if◌then◌else◌, List, [], ◌∷◌, ◌++◌, map, length, refl, ap, sym, ◌∙◌, subst, arith, append_assoc}
use Rattle.std.specs.List.{list_all}
use Rattle.std.proofs.lemmas.Bool.{false≢true, and_parts}
use Rattle.ap_term.specs.declared.clauses.Check.{Check}
use Rattle.ap_term.specs.declared.clauses.Check.TheVariants.{Ground, Indep}
use Rattle.ap_term.specs.Tree.{Tree, Trees, none, more, count_trees, append_trees}
use Rattle.ap_term.specs.Vars.{add_vars, add_all_vars}
use Rattle.ap_term.specs.Substitution.{instance, instance_all}
use Rattle.ap_term.specs.Goals.{Part, call as goal, group as parallel}
use Rattle.ap_term.specs.WellFormed.{callable, all_callable, numbered, numbered_all, numbered_check, well_formed_part}
use Rattle.ap_term.proofs.TreeLists.{same_integer}
use Rattle.ap_tracked.specs.Tracked.{placed}
use Rattle.ap_tracked.specs.Marks.{marked, check_marks, group_mark, Unmarked, past_ground, past_apart, past_group}
use Rattle.ap_tracked.proofs.Marks.{past-checks}
use Rattle.ap_instr.specs.Step.{Step, execute, jump, group, wait}
use Rattle.ap_instr.specs.Runs.{Runs, arguments}
use Rattle.ap_codegen.specs.Emitted.{Lead}
use Rattle.ap_codegen.specs.Permanent.{name, goal_code, asking}
use Rattle.ap_codegen.specs.Grouped.{passed_over, flow, straight, Unmarks, has_turns, rest_from, AreTurns, see_checks, make_checks, pushes, in_turn, check_step, check_leads, sides, turns, side_leads, turn_leads, ways, group_leads, is_last_part, body_leads}
use Rattle.ap_codegen.proofs.GroupReads.{AsksFor, SeesAll, checks_seen, nothing, last_goal, goal_first, jump_first, goals_first, makes_first, checks_first, side_by_side, side_by_side_first}

-- ---- which steps run

none_passed : (i : Step) → passed_over (i, 0) ≡ 0
none_passed jump = refl
none_passed i = refl

pub flow_straight : (is : List Step) (ls : List Lead) → flow 0 (straight is ++ ls) ≡ is ++ flow 0 ls
flow_straight [] ls = refl
flow_straight (i ∷ is) ls = ap (λ n. i ∷ flow n (straight is ++ ls)) (none_passed i) ∙ ap (λ js. i ∷ js) (flow_straight is ls)

-- leads that are passed over, and the next one
flow_over : (ks : List Lead) (l : Lead) (ls : List Lead) → flow (length ks + 1) (ks ++ (l ∷ ls)) ≡ flow 0 ls
flow_over [] l ls = refl
flow_over (k ∷ ks) l ls = let e : length (k ∷ ks) + 1 ≡ suc (length ks + 1) = omega arith in ap (λ n. flow n (k ∷ (ks ++ (l ∷ ls)))) e ∙ flow_over ks l ls

flow_past : (ks ls : List Lead) → flow (length ks) (ks ++ ls) ≡ flow 0 ls
flow_past [] ls = refl
flow_past (k ∷ ks) ls = flow_past ks ls

flow_checks : (cs : List Check) (n : ℕ) (ls : List Lead) → flow 0 (check_leads cs n ++ ls) ≡ map check_step cs ++ flow 0 ls
flow_checks [] n ls = refl
flow_checks (Ground v ∷ cs) n ls = ap (λ js. check_step (Ground v) ∷ js) (flow_checks cs n ls)
flow_checks (Indep v w ∷ cs) n ls = ap (λ js. check_step (Indep v w) ∷ js) (flow_checks cs n ls)

-- a check that doesn't hold passes over the checks behind it, the goals side by side and the jump
flow_turns : (cs : List Check) (n : ℕ) (ks : List Lead) (l : Lead) (ls : List Lead) → flow (length cs + length ks + 1) (check_leads cs n ++ (ks ++ (l ∷ ls))) ≡ flow 0 ls
flow_turns [] n ks l ls = let e : 0 + length ks + 1 ≡ length ks + 1 = omega arith in ap (λ k. flow k (ks ++ (l ∷ ls))) e ∙ flow_over ks l ls
flow_turns (c ∷ cs) n ks l ls =
    let e : length (c ∷ cs) + length ks + 1 ≡ suc (length cs + length ks + 1) = omega arith in
    ap (λ k. flow k (check_leads (c ∷ cs) n ++ (ks ++ (l ∷ ls)))) e ∙ flow_turns cs n ks l ls

-- a group's checks, its goals side by side and in turn, and what is behind them
abbrev beside : List Check → Trees → List ℕ → List Lead → List Lead
beside cs gs seen ls = check_leads cs (length (side_leads gs seen)) ++ (side_leads gs seen ++ (turn_leads gs seen ++ ls))

flow_beside : (cs : List Check) (gs : Trees) (seen : List ℕ) (ls : List Lead) → flow 0 (beside cs gs seen ls) ≡ map check_step cs ++ (side_by_side gs seen ++ (jump ∷ flow 0 ls))
flow_beside cs gs seen ls =
    let next : List Lead = turn_leads gs seen ++ ls in
    flow_checks cs (length (side_leads gs seen)) (side_leads gs seen ++ next)
    ∙ ap (λ js. map check_step cs ++ (group (count_trees gs) ∷ js)) (flow_straight (pushes gs seen ++ wait ∷ []) next)
    ∙ ap (λ js. map check_step cs ++ (side_by_side gs seen ++ (jump ∷ js))) (flow_past (turns gs seen) ls)

ways_before : (cs : List Check) (gs : Trees) (seen : List ℕ) (ls : List Lead) → ways cs gs seen ++ ls ≡ beside cs gs seen ls
ways_before cs gs seen ls =
    let one : List Lead = check_leads cs (length (side_leads gs seen)) in
    let two : List Lead = side_leads gs seen in
    let three : List Lead = turn_leads gs seen in
    append_assoc one (two ++ three) ls ∙ ap (λ is. one ++ is) (append_assoc two three ls)

-- ---- a group's marks

-- what is left without the marks is just the goals
only_unmarked : (h : ℕ → Tree) (cs : List Check) (n : ℕ) (ts ms us : Trees) → Unmarked ms us → ms ≡ check_marks h cs (more (group_mark n) ts) → us ≡ ts
only_unmarked h [] n ts ms us (past_ground u) e = absurd (let k = same_integer 0 (n + 2) (cc) in omega arith)
only_unmarked h [] n ts ms us (past_apart u) e = absurd (let k = same_integer 1 (n + 2) (cc) in omega arith)
only_unmarked h [] n ts ms us (past_group m) e = cc
only_unmarked h (Ground v ∷ cs) n ts ms us (past_ground u) e = only_unmarked h cs n ts _ us u (cc)
only_unmarked h (Ground v ∷ cs) n ts ms us (past_apart u) e = absurd (let k = same_integer 1 0 (cc) in omega arith)
only_unmarked h (Ground v ∷ cs) n ts ms us (past_group m) e = absurd (let k = same_integer (m + 2) 0 (cc) in omega arith)
only_unmarked h (Indep v w ∷ cs) n ts ms us (past_ground u) e = absurd (let k = same_integer 0 1 (cc) in omega arith)
only_unmarked h (Indep v w ∷ cs) n ts ms us (past_apart u) e = only_unmarked h cs n ts _ us u (cc)
only_unmarked h (Indep v w ∷ cs) n ts ms us (past_group m) e = absurd (let k = same_integer (m + 2) 1 (cc) in omega arith)

-- ---- a group

module _ (gs : Trees) (seen : List ℕ) (ls : List Lead) (goals : (ℕ → Tree) → Trees) (c : all_callable gs ≡ true) (a : AsksFor (add_all_vars gs seen) (flow 0 ls) goals) where
  abbrev after : (ℕ → Tree) → Trees
  after h = append_trees (instance_all h gs) (goals h)

  abbrev with_marks : List Check → (ℕ → Tree) → Trees
  with_marks cs h = check_marks h cs (more (group_mark (count_trees gs)) (after h))

  pub turns_ask : AsksFor seen (flow 0 (turns gs seen ++ ls)) after
  turns_ask = subst (λ is. AsksFor seen is after) (sym (flow_straight (in_turn gs seen) ls)) (goals_first (flow 0 ls) goals gs seen c a)

  beside_ask : (cs : List Check) → SeesAll seen cs → AsksFor seen (flow 0 (beside cs gs seen ls)) (with_marks cs)
  beside_ask cs s =
      let is : List Step = side_by_side gs seen ++ (jump ∷ flow 0 ls) in
      subst (λ is. AsksFor seen is (with_marks cs)) (sym (flow_beside cs gs seen ls))
      (checks_first is (with_marks []) cs seen s (side_by_side_first (jump ∷ flow 0 ls) goals gs seen c (jump_first (flow 0 ls) goals (add_all_vars gs seen) a)))

  -- a group's goals in turn are the group without its marks
  unmarks : (cs : List Check) → SeesAll seen cs → Unmarks (flow 0 (beside cs gs seen ls)) (flow 0 (turns gs seen ++ ls))
  unmarks cs s =
      let from = beside_ask cs s in
      record {
        only = λ x y bs r.
            let d = turns_ask.only x y bs r in
            (with_marks cs d.0, subst (Unmarked (with_marks cs d.0)) (sym d.2) (past-checks d.0 cs (count_trees gs) (after d.0)), from.each d.0 x y d.1);
        each = λ x y ms bs u r.
            let d = from.only x y ms r in
            subst (Runs (flow 0 (turns gs seen ++ ls)) none x y) (sym (only_unmarked d.0 cs (count_trees gs) (after d.0) ms bs u d.2)) (turns_ask.each d.0 x y d.1);
        openly = turns_ask.openly;
      }

  -- where a check leads that stands before others
  turn_from : (cs : List Check) → SeesAll seen cs → Unmarks (flow 0 (beside cs gs seen ls)) (flow (length cs + length (side_leads gs seen) + 1) (beside cs gs seen ls))
  turn_from cs s =
      subst (Unmarks (flow 0 (beside cs gs seen ls))) (sym (flow_turns cs (length (side_leads gs seen)) (side_leads gs seen) (jump, length (turns gs seen)) (turns gs seen ++ ls))) (unmarks cs s)

  pub checks_turn : (cs : List Check) → SeesAll seen cs → AreTurns (check_leads cs (length (side_leads gs seen))) (side_leads gs seen ++ (turn_leads gs seen ++ ls))
  checks_turn [] s = tt
  checks_turn (k ∷ cs) s = (λ _. turn_checked k cs s.1, checks_turn cs s.1)
    where
      turn_checked : (k : Check) (cs : List Check) → SeesAll seen cs
          → Unmarks (rest_from (check_step k) (flow 0 (beside cs gs seen ls))) (flow (length cs + length (side_leads gs seen) + 1) (beside cs gs seen ls))
      turn_checked (Ground v) cs s = turn_from cs s
      turn_checked (Indep v w) cs s = turn_from cs s

  pub side_turns : has_turns (group (count_trees gs)) ≡ true → Unmarks (group (count_trees gs) ∷ flow 0 (sides gs seen ++ (turn_leads gs seen ++ ls))) (flow (length (sides gs seen) + 1) (sides gs seen ++ (turn_leads gs seen ++ ls)))
  side_turns e =
      let next : List Lead = turns gs seen ++ ls in
      subst (Unmarks (flow 0 (beside [] gs seen ls))) (sym (flow_over (sides gs seen) (jump, length (turns gs seen)) next)) (unmarks [] tt)

  pub ways_ask : (cs : List Check) → SeesAll seen cs → AsksFor seen (flow 0 (ways cs gs seen ++ ls)) (with_marks cs)
  ways_ask cs s = subst (λ is. AsksFor seen (flow 0 is) (with_marks cs)) (sym (ways_before cs gs seen ls)) (beside_ask cs s)

-- ---- bodies

group_asks : (cs : List Check) (gs : Trees) (seen : List ℕ) (ls : List Lead) (goals : (ℕ → Tree) → Trees) → all_callable gs ≡ true → AsksFor (add_all_vars gs (see_checks cs seen)) (flow 0 ls) goals
    → AsksFor seen (flow 0 (group_leads cs gs seen ++ ls)) (λ h. check_marks h cs (more (group_mark (count_trees gs)) (append_trees (instance_all h gs) (goals h))))
group_asks cs gs seen ls goals c a =
    let after : (ℕ → Tree) → Trees = λ h. check_marks h cs (more (group_mark (count_trees gs)) (append_trees (instance_all h gs) (goals h))) in
    let seen1 : List ℕ = see_checks cs seen in
    let made : List Step = make_checks cs seen in
    let next : List Lead = ways cs gs seen1 ++ ls in
    subst (λ is. AsksFor seen is after) (sym (ap (flow 0) (append_assoc (straight made) (ways cs gs seen1) ls) ∙ flow_straight made next))
    (makes_first (flow 0 next) after cs seen (ways_ask gs seen1 ls goals c a cs (checks_seen cs seen)))

last_part : (g : Tree) (ps : List Part) → is_last_part g ps ≡ true → ps ≡ []
last_part g [] e = refl
last_part g (p ∷ ps) e = absurd (false≢true e)

pub group_callable : (n : ℕ) (cs : List Check) (gs : Trees) → well_formed_part n (parallel cs gs) ≡ true → all_callable gs ≡ true
group_callable n cs gs w =
    let d = and_parts (list_all (numbered_check n) cs) _ w in
    let e = and_parts _ (all_callable gs && numbered_all n gs) d.1 in
    (and_parts (all_callable gs) (numbered_all n gs) e.1).0

-- whatever stands behind a body, it asks for its goals and marks
pub parts_ask : (n : ℕ) (ps : List Part) (seen : List ℕ) (rest : List Lead) → list_all (well_formed_part n) ps ≡ true → AsksFor seen (flow 0 (body_leads ps seen ++ rest)) (λ h. marked (map (placed h) ps))
parts_ask n [] seen rest w = nothing seen (flow 0 rest)
parts_ask n (goal g ∷ ps) seen rest w = go (is_last_part g ps) refl (parts_ask n ps (add_vars g seen) rest b.1)
  where
    b : (well_formed_part n (goal g) ≡ true) × (list_all (well_formed_part n) ps ≡ true)
    b = and_parts (well_formed_part n (goal g)) (list_all (well_formed_part n) ps) w

    c : callable g ≡ true
    c = (and_parts (callable g) (numbered n g) b.0).0

    call_last : Step
    call_last = execute (name g) (count_trees (arguments g))

    go : (l : Bool) → is_last_part g ps ≡ l → AsksFor (add_vars g seen) (flow 0 (body_leads ps (add_vars g seen) ++ rest)) (λ h. marked (map (placed h) ps))
        → AsksFor seen (flow 0 ((if l then straight (goal_code g seen ++ call_last ∷ []) else straight (goal_code g seen ++ asking g ∷ []) ++ body_leads ps (add_vars g seen)) ++ rest))
        (λ h. more (instance h g) (marked (map (placed h) ps)))
    go true e a =
        subst (λ is. AsksFor seen is (λ h. more (instance h g) (marked (map (placed h) ps)))) (sym (flow_straight (goal_code g seen ++ call_last ∷ []) rest ∙ append_assoc (goal_code g seen) (call_last ∷ []) (flow 0 rest)))
        (subst (λ ps. AsksFor seen (goal_code g seen ++ (call_last ∷ flow 0 rest)) (λ h. more (instance h g) (marked (map (placed h) ps)))) (sym (last_part g ps e)) (last_goal g seen (flow 0 rest) c))
    go false e a =
        let behind : List Lead = body_leads ps (add_vars g seen) in
        let is : List Step = goal_code g seen ++ asking g ∷ [] in
        subst (λ is. AsksFor seen is (λ h. more (instance h g) (marked (map (placed h) ps))))
        (sym (ap (flow 0) (append_assoc (straight is) behind rest) ∙ flow_straight is (behind ++ rest) ∙ append_assoc (goal_code g seen) (asking g ∷ []) (flow 0 (behind ++ rest))))
        (goal_first (flow 0 (behind ++ rest)) (λ h. marked (map (placed h) ps)) g seen c a)
parts_ask n (parallel cs gs ∷ ps) seen rest w =
    let b = and_parts (well_formed_part n (parallel cs gs)) (list_all (well_formed_part n) ps) w in
    let seen1 : List ℕ = add_all_vars gs (see_checks cs seen) in
    let behind : List Lead = body_leads ps seen1 in
    subst (λ ls. AsksFor seen (flow 0 ls) (λ h. marked (map (placed h) (parallel cs gs ∷ ps)))) (sym (append_assoc (group_leads cs gs seen) behind rest))
    (group_asks cs gs seen (behind ++ rest) (λ h. marked (map (placed h) ps)) (group_callable n cs gs b.0) (parts_ask n ps seen1 rest b.1))
