-- Steps of a clause that ask for no goal, before which nothing asks for one; and goals that are called, which are no built-in ones.
use Rattle.std.proofs.Common.{[], ◌≡◌, ℕ, ◌+◌, ◌==◌, Bool, true, false, not, ◌&&◌, ◌||◌, is_some, if◌then◌else◌, List, ◌∷◌, ◌++◌, refl, ap, ◌∙◌}
use Rattle.std.specs.List.{list_all}
use Rattle.std.proofs.lemmas.Bool.{false≢true}
use Rattle.std.proofs.lemmas.List.Folds.{list_all-append}
use Rattle.ap_term.specs.declared.fixed.TheConstants.{TRUE, FAIL}
use Rattle.ap_term.specs.Tree.{Tree, Trees, var, int, atom, node, none, more, count_trees}
use Rattle.ap_term.specs.Vars.{has, add_vars}
use Rattle.ap_term.specs.Builtins.{relation_named}
use Rattle.ap_term.specs.WellFormed.{callable}
use Rattle.ap_term.proofs.Facts.{not_zero}
use Rattle.ap_instr.specs.declared.instruction.Slot.TheVariants.{Y}
use Rattle.ap_instr.specs.Step.{Step, get_variable, get_value, put_variable, put_value, put_structure, unify_variable, unify_value, call, execute, builtin, proceed, jump, check_ground, check_indep, group, push, wait}
use Rattle.ap_instr.specs.Runs.{arguments, IsOpen, AsksOpenly}
use Rattle.ap_codegen.specs.Permanent.{name, is_builtin, is_builtin_key, see, inner, place, fills, see_built, see_nested, build, nested, puts, goal_code, see_all, see_taken, takes, get, opens, gets}
use Rattle.ap_codegen.specs.CodeOf.{calls_apart}

-- whether a step asks for no goal, and the next one runs
abbrev pub is_quiet : Step → Bool
is_quiet (call p n) = false
is_quiet (execute p n) = false
is_quiet (builtin p n) = false
is_quiet proceed = false
is_quiet jump = false
is_quiet (check_ground v) = false
is_quiet (check_indep v w) = false
is_quiet (group n) = false
is_quiet (push p n) = false
is_quiet wait = false
is_quiet _ = true

abbrev pub Quiet : List Step → Type 0
Quiet is = list_all is_quiet is ≡ true

pub quiet_both : (us bs : List Step) → Quiet us → Quiet bs → Quiet (us ++ bs)
quiet_both us bs f g = list_all-append is_quiet us bs ∙ ap (λ a. a && list_all is_quiet bs) f ∙ g

pub quiet_openly : (us is : List Step) → Quiet us → AsksOpenly is → AsksOpenly (us ++ is)
quiet_openly [] is q o = o
quiet_openly (call p n ∷ us) is q o = absurd (false≢true q)
quiet_openly (execute p n ∷ us) is q o = absurd (false≢true q)
quiet_openly (builtin p n ∷ us) is q o = absurd (false≢true q)
quiet_openly (proceed ∷ us) is q o = absurd (false≢true q)
quiet_openly (jump ∷ us) is q o = absurd (false≢true q)
quiet_openly (check_ground v ∷ us) is q o = absurd (false≢true q)
quiet_openly (check_indep v w ∷ us) is q o = absurd (false≢true q)
quiet_openly (group n ∷ us) is q o = absurd (false≢true q)
quiet_openly (push p n ∷ us) is q o = absurd (false≢true q)
quiet_openly (wait ∷ us) is q o = absurd (false≢true q)
quiet_openly (i ∷ us) is q o = quiet_openly us is q o

-- ---- what is quiet

quiet_fills : (ts : Trees) (seen : List ℕ) (b m : ℕ) → Quiet (fills ts seen b m)
quiet_fills none seen b m = refl
quiet_fills (more (var v) ts) seen b m = go (has seen v) (quiet_fills ts (see (var v) seen) b m)
  where
    go : (d : Bool) → Quiet (fills ts (see (var v) seen) b m) → Quiet ((if d then unify_value (Y v) else unify_variable (Y v)) ∷ fills ts (see (var v) seen) b m)
    go true q = q
    go false q = q
quiet_fills (more (int z) ts) seen b m = quiet_fills ts seen b m
quiet_fills (more (atom a) ts) seen b m = quiet_fills ts seen b m
quiet_fills (more (node a us) ts) seen b m = quiet_fills ts seen b m

mutual
  quiet_build : (t : Tree) (a : ℕ) (seen : List ℕ) (b m : ℕ) → Quiet (build t a seen b m)
  quiet_build (var v) a seen b m = go (has seen v)
    where
      go : (d : Bool) → Quiet (if d then put_value (Y v) a ∷ [] else put_variable (Y v) a ∷ [])
      go true = refl
      go false = refl
  quiet_build (int z) a seen b m = refl
  quiet_build (atom c) a seen b m = refl
  quiet_build (node f ts) a seen b m =
      let seen1 : List ℕ = see_nested ts seen in
      quiet_both (nested ts a seen b m) (put_structure f (count_trees ts) a ∷ fills ts seen1 b m) (quiet_nested ts a seen b m) (quiet_fills ts seen1 b m)

  quiet_nested : (ts : Trees) (a : ℕ) (seen : List ℕ) (b m : ℕ) → Quiet (nested ts a seen b m)
  quiet_nested none a seen b m = refl
  quiet_nested (more (var v) ts) a seen b m = quiet_nested ts a seen b m
  quiet_nested (more (int z) ts) a seen b m = quiet_nested ts a seen b m
  quiet_nested (more (atom c) ts) a seen b m = quiet_nested ts a seen b m
  quiet_nested (more (node g us) ts) a seen b m =
      let p : ℕ = place (inner ts) b m in
      let seen1 : List ℕ = see_nested ts seen in
      quiet_both (nested ts a seen b m) (build (node g us) p seen1 a (m + inner ts)) (quiet_nested ts a seen b m) (quiet_build (node g us) p seen1 a (m + inner ts))

quiet_puts : (ts : Trees) (a : ℕ) (seen : List ℕ) (m : ℕ) → Quiet (puts ts a seen m)
quiet_puts none a seen m = refl
quiet_puts (more t ts) a seen m = quiet_both (build t a seen m (m + 1)) (puts ts (a + 1) (see_built t seen) m) (quiet_build t a seen m (m + 1)) (quiet_puts ts (a + 1) (see_built t seen) m)

pub quiet_goal : (g : Tree) (seen : List ℕ) → Quiet (goal_code g seen)
quiet_goal g seen = quiet_puts (arguments g) 1 seen (count_trees (arguments g) + 1)

quiet_takes : (ts : Trees) (seen : List ℕ) (m : ℕ) → Quiet (takes ts seen m)
quiet_takes none seen m = refl
quiet_takes (more (var v) ts) seen m = go (has seen v) (quiet_takes ts (see (var v) seen) m)
  where
    go : (b : Bool) → Quiet (takes ts (see (var v) seen) m) → Quiet ((if b then unify_value (Y v) else unify_variable (Y v)) ∷ takes ts (see (var v) seen) m)
    go true q = q
    go false q = q
quiet_takes (more (int z) ts) seen m = quiet_takes ts seen m
quiet_takes (more (atom a) ts) seen m = quiet_takes ts seen m
quiet_takes (more (node a us) ts) seen m = quiet_takes ts seen m

mutual
  quiet_get : (t : Tree) (a : ℕ) (seen : List ℕ) (m : ℕ) → Quiet (get t a seen m)
  quiet_get (var v) a seen m = go (has seen v)
    where
      go : (b : Bool) → Quiet (if b then get_value (Y v) a ∷ [] else get_variable (Y v) a ∷ [])
      go true = refl
      go false = refl
  quiet_get (int z) a seen m = refl
  quiet_get (atom c) a seen m = refl
  quiet_get (node f ts) a seen m = quiet_both (takes ts seen m) (opens ts (see_all ts seen) m) (quiet_takes ts seen m) (quiet_opens ts (see_all ts seen) m)

  quiet_opens : (ts : Trees) (seen : List ℕ) (m : ℕ) → Quiet (opens ts seen m)
  quiet_opens none seen m = refl
  quiet_opens (more (var v) ts) seen m = quiet_opens ts seen m
  quiet_opens (more (int z) ts) seen m = quiet_opens ts seen m
  quiet_opens (more (atom a) ts) seen m = quiet_opens ts seen m
  quiet_opens (more (node a us) ts) seen m =
      let p : ℕ = m + inner ts in
      let seen1 : List ℕ = see_taken (node a us) seen in
      quiet_both (get (node a us) p seen p) (opens ts seen1 m) (quiet_get (node a us) p seen p) (quiet_opens ts seen1 m)

pub quiet_gets : (ts : Trees) (a : ℕ) (seen : List ℕ) (m : ℕ) → Quiet (gets ts a seen m)
quiet_gets none a seen m = refl
quiet_gets (more t ts) a seen m = quiet_both (get t a seen m) (gets ts (a + 1) (add_vars t seen) m) (quiet_get t a seen m) (quiet_gets ts (a + 1) (add_vars t seen) m)

-- ---- goals

pub behind : (b : Bool) (p n : ℕ) (is : List Step) → IsOpen is → AsksOpenly is → AsksOpenly ((if b then builtin p n else call p n) ∷ is)
behind true p n is o a = (o, a)
behind false p n is o a = (o, a)

-- ---- what is called

pub key_apart : (g : Tree) → callable g ≡ true → is_builtin g ≡ false → is_builtin_key (name g, count_trees (arguments g)) ≡ false
key_apart (var x) c e = absurd (false≢true c)
key_apart (int z) c e = absurd (false≢true c)
key_apart (atom a) c e = both ((a == TRUE) || (a == FAIL)) (is_some (relation_named a)) e
  where
    both : (b d : Bool) → b ≡ false → ((b && true) || (d && false)) ≡ false
    both true d e = e
    both false true e = refl
    both false false e = refl
key_apart (node a none) c e = absurd (false≢true c)
key_apart (node a (more t ts)) c e =
    let some : Bool = is_some (relation_named a) && (count_trees (more t ts) == 2) in
    ap (λ z. (((a == TRUE) || (a == FAIL)) && z) || some) (not_zero (count_trees ts)) ∙ go ((a == TRUE) || (a == FAIL)) (is_some (relation_named a)) (count_trees (more t ts) == 2) e
  where
    go : (b d k : Bool) → (k && d) ≡ false → ((b && false) || (d && k)) ≡ false
    go true true true q = q
    go true true false q = refl
    go true false k q = refl
    go false true true q = q
    go false true false q = refl
    go false false k q = refl

pub asking_apart : (g : Tree) (b : Bool) → callable g ≡ true → is_builtin g ≡ b → calls_apart (if b then builtin (name g) (count_trees (arguments g)) else call (name g) (count_trees (arguments g))) ≡ true
asking_apart g true c e = refl
asking_apart g false c e = ap not (key_apart g c e)
