-- What the pieces of a body's code ask for before what stands behind them: goals, called or pushed, variables that are
-- made, and the checks and goals of a group.
use Rattle.std.proofs.Common.{◌≡◌, ℕ, Bool, true, false, if◌then◌else◌, List, [], ◌∷◌, ◌++◌, map, refl, ap, sym, ◌∙◌, subst, append_assoc}
use Rattle.std.proofs.lemmas.Bool.{and_parts}
use Rattle.ap_term.specs.declared.clauses.Check.{Check}
use Rattle.ap_term.specs.declared.clauses.Check.TheVariants.{Ground, Indep}
use Rattle.ap_term.specs.Tree.{Tree, Trees, var, none, more, count_trees, append_trees}
use Rattle.ap_term.specs.Vars.{has, add_vars, add_all_vars}
use Rattle.ap_term.specs.Substitution.{instance, instance_all}
use Rattle.ap_term.specs.WellFormed.{callable, all_callable}
use Rattle.ap_term.proofs.Found.{has-added, has-kept}
use Rattle.ap_tracked.specs.Marks.{ground_mark, apart_mark, group_mark, check_marks}
use Rattle.ap_instr.specs.declared.instruction.Slot.TheVariants.{Y}
use Rattle.ap_instr.specs.Step.{Step, put_variable, execute, proceed, jump, group, push, wait}
use Rattle.ap_instr.specs.Runs.{Runs, IsOpen, AsksOpenly, applied, spread, set, lost, arguments}
use Rattle.ap_codegen.specs.Permanent.{name, is_builtin, goal_code, asking}
use Rattle.ap_codegen.specs.Grouped.{see_check, see_checks, make, make_check, make_checks, pushes, in_turn, check_step}
use Rattle.ap_codegen.proofs.Registers.{has_more}
use Rattle.ap_codegen.proofs.PermanentReads.{AgreeOn, set_agrees, push_agrees, seen_same, goal-only, goal-each, asks-only, asks-each}
use Rattle.ap_codegen.proofs.Open.{quiet_openly, quiet_goal, behind}

-- Where the variables that were seen stand in Y, the steps ask for just these goals, over all values of the others, and test
-- nothing behind a goal.
pub record AsksFor (seen : List ℕ) (is : List Step) (goals : (ℕ → Tree) → Trees) : Type 0 where
  pub only : (x y : ℕ → Tree) (bs : Trees) → Runs is none x y bs → (h : ℕ → Tree) × AgreeOn seen y h × (bs ≡ goals h)
  pub each : (h x y : ℕ → Tree) → AgreeOn seen y h → Runs is none x y (goals h)
  pub openly : AsksOpenly is

-- any values of the variables are some
pub open_there : (seen : List ℕ) (is : List Step) (goals : (ℕ → Tree) → Trees) → AsksFor seen is goals → IsOpen is
open_there seen is goals a x y = (goals y, a.each y x y (λ w o. refl))

-- ---- the end of a body

pub nothing : (seen : List ℕ) (rest : List Step) → AsksFor seen (proceed ∷ rest) (λ h. none)
nothing seen rest = record { only = λ x y bs r. (y, λ w o. refl, r); each = λ h x y o. refl; openly = tt }

pub last_goal : (g : Tree) (seen : List ℕ) (rest : List Step) → callable g ≡ true
    → AsksFor seen (goal_code g seen ++ (execute (name g) (count_trees (arguments g)) ∷ rest)) (λ h. more (instance h g) none)
last_goal g seen rest c =
    let is : List Step = execute (name g) (count_trees (arguments g)) ∷ rest in
    record {
      only = λ x y bs r.
          let k = goal-only g seen is x y bs c r in
          let d : bs ≡ more (instance k.1 g) none = k.4 ∙ ap (λ t. more t none) k.3 in
          (k.1, k.2, d);
      each = λ h x y o. goal-each h g seen is x y (more (instance h g) none) c o (λ x' y' o' e. ap (λ t. more t none) (sym e));
      openly = quiet_openly (goal_code g seen) is (quiet_goal g seen) tt;
    }

-- ---- before other steps

module _ (is : List Step) (goals : (ℕ → Tree) → Trees) where
  pub goal_first : (g : Tree) (seen : List ℕ) → callable g ≡ true → AsksFor (add_vars g seen) is goals → AsksFor seen (goal_code g seen ++ (asking g ∷ is)) (λ h. more (instance h g) (goals h))
  goal_first g seen c a =
      let n : ℕ = count_trees (arguments g) in
      record {
        only = λ x y bs r.
            let k = goal-only g seen (asking g ∷ is) x y bs c r in
            let q = asks-only (is_builtin g) (name g) n is k.0 k.1 bs k.4 in
            let d = a.only q.1 k.1 q.0 q.3 in (
              d.0,
              λ w o. k.2 w o ∙ d.1 w (has-kept g seen w o),
              q.2 ∙ ap (more (applied (name g) (spread k.0 1 n))) d.2 ∙ ap (λ t. more t (goals d.0)) (k.3 ∙ seen_same g seen k.1 d.0 d.1),
            );
        each = λ h x y o.
            goal-each h g seen (asking g ∷ is) x y (more (instance h g) (goals h)) c o (λ x' y' o' e.
            asks-each (is_builtin g) (name g) n is x' y' (more (instance h g) (goals h)) (goals h) (ap (λ t. more t (goals h)) (sym e)) (λ z. a.each h z y' o'));
        openly = quiet_openly (goal_code g seen) (asking g ∷ is) (quiet_goal g seen) (behind (is_builtin g) (name g) n is (open_there (add_vars g seen) is goals a) a.openly);
      }

  -- the registers stay as they are behind a push
  pub push_first : (g : Tree) (seen : List ℕ) → callable g ≡ true → AsksFor (add_vars g seen) is goals
      → AsksFor seen (goal_code g seen ++ (push (name g) (count_trees (arguments g)) ∷ is)) (λ h. more (instance h g) (goals h))
  push_first g seen c a =
      let n : ℕ = count_trees (arguments g) in
      let next : List Step = push (name g) n ∷ is in
      record {
        only = λ x y bs r.
            let k = goal-only g seen next x y bs c r in
            let q = k.4 in
            let d = a.only k.0 k.1 q.0 q.2 in (
              d.0,
              λ w o. k.2 w o ∙ d.1 w (has-kept g seen w o),
              q.1 ∙ ap (more (applied (name g) (spread k.0 1 n))) d.2 ∙ ap (λ t. more t (goals d.0)) (k.3 ∙ seen_same g seen k.1 d.0 d.1),
            );
        each = λ h x y o.
            goal-each h g seen next x y (more (instance h g) (goals h)) c o (λ x' y' o' e. (goals h, ap (λ t. more t (goals h)) (sym e), a.each h x' y' o'));
        openly = quiet_openly (goal_code g seen) next (quiet_goal g seen) (open_there (add_vars g seen) is goals a, a.openly);
      }

  pub make_first : (v : ℕ) (seen : List ℕ) → AsksFor (add_vars (var v) seen) is goals → AsksFor seen (make v seen ++ is) goals
  make_first v seen a = go (has seen v) refl a
    where
      go : (b : Bool) → has seen v ≡ b → AsksFor (if b then seen else seen ++ v ∷ []) is goals → AsksFor seen ((if b then [] else put_variable (Y v) 1 ∷ []) ++ is) goals
      go true e a = a
      go false e a = record {
        only = λ x y bs r.
            let d = a.only (set x 1 r.0) (set y v r.0) bs r.1 in
            (d.0, λ w o. set_agrees seen y v r.0 e w o ∙ d.1 w (has_more seen v w o), d.2);
        each = λ h x y o. (h v, a.each h (set x 1 (h v)) (set y v (h v)) (push_agrees seen y h v o));
        openly = a.openly;
      }

  pub group_first : (n : ℕ) (seen : List ℕ) → AsksFor seen is goals → AsksFor seen (group n ∷ is) (λ h. more (group_mark n) (goals h))
  group_first n seen a = record {
    only = λ x y bs r. let d = a.only x y r.0 r.2 in (d.0, d.1, r.1 ∙ ap (more (group_mark n)) d.2);
    each = λ h x y o. (goals h, refl, a.each h x y o);
    openly = (open_there seen is goals a, a.openly);
  }

  pub wait_first : (seen : List ℕ) → AsksFor seen is goals → AsksFor seen (wait ∷ is) goals
  wait_first seen a = record { only = λ x y bs r. a.only lost y bs r; each = λ h x y o. a.each h lost y o; openly = (open_there seen is goals a, a.openly) }

  pub jump_first : (seen : List ℕ) → AsksFor seen is goals → AsksFor seen (jump ∷ is) goals
  jump_first seen a = record { only = λ x y bs r. a.only x y bs r; each = λ h x y o. a.each h x y o; openly = (open_there seen is goals a, a.openly) }

-- ---- checks

-- the variables that a check names were seen
abbrev pub Sees : List ℕ → Check → Type 0
Sees seen (Ground v) = has seen v ≡ true
Sees seen (Indep v w) = (has seen v ≡ true) × (has seen w ≡ true)

abbrev pub SeesAll : List ℕ → List Check → Type 0
SeesAll seen [] = Unit {0}
SeesAll seen (c ∷ cs) = Sees seen c × SeesAll seen cs

see_check-grows : (c : Check) (seen : List ℕ) (w : ℕ) → has seen w ≡ true → has (see_check c seen) w ≡ true
see_check-grows (Ground v) seen w o = has-kept (var v) seen w o
see_check-grows (Indep u v) seen w o = has-kept (var v) (add_vars (var u) seen) w (has-kept (var u) seen w o)

see_checks-grows : (cs : List Check) (seen : List ℕ) (w : ℕ) → has seen w ≡ true → has (see_checks cs seen) w ≡ true
see_checks-grows [] seen w o = o
see_checks-grows (c ∷ cs) seen w o = see_checks-grows cs (see_check c seen) w (see_check-grows c seen w o)

pub checks_seen : (cs : List Check) (seen : List ℕ) → SeesAll (see_checks cs seen) cs
checks_seen [] seen = tt
checks_seen (Ground v ∷ cs) seen = (see_checks-grows cs (add_vars (var v) seen) v (has-added seen v), checks_seen cs (add_vars (var v) seen))
checks_seen (Indep u v ∷ cs) seen =
    let both : List ℕ = add_vars (var v) (add_vars (var u) seen) in
    ((see_checks-grows cs both u (has-kept (var v) (add_vars (var u) seen) u (has-added seen u)), see_checks-grows cs both v (has-added (add_vars (var u) seen) v)), checks_seen cs both)

check_first : (is : List Step) (goals : (ℕ → Tree) → Trees) (c : Check) (seen : List ℕ) → Sees seen c → AsksFor seen is goals → AsksFor seen (check_step c ∷ is) (λ h. check_marks h (c ∷ []) (goals h))
check_first is goals (Ground v) seen s a = record {
  only = λ x y bs r. let d = a.only x y r.0 r.2 in (d.0, d.1, r.1 ∙ ap (λ cs. more ground_mark (more (y v) cs)) d.2 ∙ ap (λ t. more ground_mark (more t (goals d.0))) (d.1 v s));
  each = λ h x y o. (goals h, ap (λ t. more ground_mark (more t (goals h))) (sym (o v s)), a.each h x y o);
  openly = (open_there seen is goals a, a.openly);
}
check_first is goals (Indep u v) seen s a = record {
  only = λ x y bs r.
      let d = a.only x y r.0 r.2 in (
        d.0,
        d.1,
        r.1 ∙ ap (λ cs. more apart_mark (more (y u) (more (y v) cs))) d.2 ∙ ap (λ t. more apart_mark (more t (more (y v) (goals d.0)))) (d.1 u s.0)
            ∙ ap (λ t. more apart_mark (more (d.0 u) (more t (goals d.0)))) (d.1 v s.1),
      );
  each = λ h x y o.
      (goals h, ap (λ t. more apart_mark (more t (more (h v) (goals h)))) (sym (o u s.0)) ∙ ap (λ t. more apart_mark (more (y u) (more t (goals h)))) (sym (o v s.1)), a.each h x y o);
  openly = (open_there seen is goals a, a.openly);
}

-- ---- several

module _ (is : List Step) (goals : (ℕ → Tree) → Trees) where
  pub goals_first : (gs : Trees) (seen : List ℕ) → all_callable gs ≡ true → AsksFor (add_all_vars gs seen) is goals → AsksFor seen (in_turn gs seen ++ is) (λ h. append_trees (instance_all h gs) (goals h))
  goals_first none seen c a = a
  goals_first (more g gs) seen c a =
      let d = and_parts (callable g) (all_callable gs) c in
      let next : List Step = in_turn gs (add_vars g seen) in
      subst (λ is. AsksFor seen is (λ h. more (instance h g) (append_trees (instance_all h gs) (goals h)))) (sym (append_assoc (goal_code g seen) (asking g ∷ next) is))
      (goal_first (next ++ is) (λ h. append_trees (instance_all h gs) (goals h)) g seen d.0 (goals_first gs (add_vars g seen) d.1 a))

  pub pushes_first : (gs : Trees) (seen : List ℕ) → all_callable gs ≡ true → AsksFor (add_all_vars gs seen) is goals → AsksFor seen (pushes gs seen ++ is) (λ h. append_trees (instance_all h gs) (goals h))
  pushes_first none seen c a = a
  pushes_first (more g gs) seen c a =
      let d = and_parts (callable g) (all_callable gs) c in
      let next : List Step = pushes gs (add_vars g seen) in
      subst (λ is. AsksFor seen is (λ h. more (instance h g) (append_trees (instance_all h gs) (goals h))))
      (sym (append_assoc (goal_code g seen) (push (name g) (count_trees (arguments g)) ∷ next) is))
      (push_first (next ++ is) (λ h. append_trees (instance_all h gs) (goals h)) g seen d.0 (pushes_first gs (add_vars g seen) d.1 a))

  pub make_check_first : (c : Check) (seen : List ℕ) → AsksFor (see_check c seen) is goals → AsksFor seen (make_check c seen ++ is) goals
  make_check_first (Ground v) seen a = make_first is goals v seen a
  make_check_first (Indep u v) seen a =
      let seen1 : List ℕ = add_vars (var u) seen in
      subst (λ is. AsksFor seen is goals) (sym (append_assoc (make u seen) (make v seen1) is)) (make_first (make v seen1 ++ is) goals u seen (make_first is goals v seen1 a))

  pub checks_first : (cs : List Check) (seen : List ℕ) → SeesAll seen cs → AsksFor seen is goals → AsksFor seen (map check_step cs ++ is) (λ h. check_marks h cs (goals h))
  checks_first [] seen s a = a
  checks_first (c ∷ cs) seen s a = one c (check_first (map check_step cs ++ is) (λ h. check_marks h cs (goals h)) c seen s.0 (checks_first cs seen s.1 a))
    where
      one : (c : Check) → AsksFor seen (check_step c ∷ (map check_step cs ++ is)) (λ h. check_marks h (c ∷ []) (check_marks h cs (goals h)))
          → AsksFor seen (check_step c ∷ (map check_step cs ++ is)) (λ h. check_marks h (c ∷ cs) (goals h))
      one (Ground v) a = a
      one (Indep u v) a = a

pub makes_first : (is : List Step) (goals : (ℕ → Tree) → Trees) (cs : List Check) (seen : List ℕ) → AsksFor (see_checks cs seen) is goals → AsksFor seen (make_checks cs seen ++ is) goals
makes_first is goals [] seen a = a
makes_first is goals (c ∷ cs) seen a =
    let next : List Step = make_checks cs (see_check c seen) in
    subst (λ is. AsksFor seen is goals) (sym (append_assoc (make_check c seen) next is)) (make_check_first (next ++ is) goals c seen (makes_first is goals cs (see_check c seen) a))

-- the steps of goals side by side
abbrev pub side_by_side : Trees → List ℕ → List Step
side_by_side gs seen = group (count_trees gs) ∷ (pushes gs seen ++ wait ∷ [])

pub side_by_side_first : (is : List Step) (goals : (ℕ → Tree) → Trees) (gs : Trees) (seen : List ℕ) → all_callable gs ≡ true → AsksFor (add_all_vars gs seen) is goals
    → AsksFor seen (side_by_side gs seen ++ is) (λ h. more (group_mark (count_trees gs)) (append_trees (instance_all h gs) (goals h)))
side_by_side_first is goals gs seen c a =
    let after : (ℕ → Tree) → Trees = λ h. append_trees (instance_all h gs) (goals h) in
    group_first ((pushes gs seen ++ wait ∷ []) ++ is) after (count_trees gs) seen
    (subst (λ is. AsksFor seen is after) (sym (append_assoc (pushes gs seen) (wait ∷ []) is)) (pushes_first (wait ∷ is) goals gs seen c (wait_first is goals (add_all_vars gs seen) a)))
