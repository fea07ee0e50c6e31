-- The instructions of a clause each of whose variables has a place of its own in the environment: variable v in Y v.
-- Temporaries stand in the X registers behind the arguments. Each is used again once what stood there is done with, so
-- that there are as many as structures that wait for others: a list takes a few, however long it is.
pub use Rattle.ap_term.specs.Builtins.{is_builtin}
use Rattle.std.specs.Prelude.{[], ℕ, zero, suc, ◌+◌, Bool, ◌&&◌, ◌||◌, ◌==◌, is_some, if◌then◌else◌, List, ◌∷◌, ◌++◌}
use Rattle.ap_term.specs.declared.fixed.TheConstants.{TRUE, FAIL}
use Rattle.ap_term.specs.Tree.{Tree, Trees, var, int, atom, node, none, more, count_trees}
use Rattle.ap_term.specs.Vars.{has, add_vars}
use Rattle.ap_term.specs.Builtins.{relation_named}
use Rattle.ap_instr.specs.declared.instruction.Slot.TheVariants.{X, Y}
use Rattle.ap_instr.specs.Step.{Step, get_variable, get_value, get_constant, get_structure, put_variable, put_value, put_constant, put_structure, unify_variable, unify_value, unify_constant, call, builtin}
use Rattle.ap_instr.specs.Runs.{arguments}

abbrev pub name : Tree → ℕ
name (var x) = 0
name (int z) = 0
name (atom a) = a
name (node a ts) = a

-- whether goals of this name and so many arguments are such
abbrev pub is_builtin_key : ℕ × ℕ → Bool
is_builtin_key k = (((k.0 == TRUE) || (k.0 == FAIL)) && (k.1 == 0)) || (is_some (relation_named k.0) && (k.1 == 2))

abbrev pub see : Tree → List ℕ → List ℕ
see (var v) seen = add_vars (var v) seen
see _ seen = seen

-- the variables seen behind the arguments of a structure, those in structures among them left out
abbrev pub see_all : Trees → List ℕ → List ℕ
see_all none seen = seen
see_all (more t ts) seen = see_all ts (see t seen)

-- how many structures stand among terms
abbrev pub inner : Trees → ℕ
inner none = 0
inner (more (node a us) ts) = inner ts + 1
inner (more _ ts) = inner ts

-- Where a structure among arguments stands that has so many behind it: the last one, which is built first, in X b, and the
-- others from X m on.
abbrev pub place : ℕ → ℕ → ℕ → ℕ
place zero b m = b
place (suc k) b m = m + k

-- An argument of a structure; a variable that was not seen gets the argument's place, and a structure stands in X m.
abbrev pub fill : Tree → List ℕ → ℕ → Step
fill (var v) seen m = if has seen v then unify_value (Y v) else unify_variable (Y v)
fill (int z) seen m = unify_constant (int z)
fill (atom a) seen m = unify_constant (atom a)
fill (node a us) seen m = unify_value (X m)

abbrev pub fills : Trees → List ℕ → ℕ → ℕ → List Step
fills none seen b m = []
fills (more t ts) seen b m = fill t seen (place (inner ts) b m) ∷ fills ts (see t seen) b m

abbrev mutual
  -- the variables seen behind a term that is built
  pub see_built : Tree → List ℕ → List ℕ
  see_built (var v) seen = add_vars (var v) seen
  see_built (int z) seen = seen
  see_built (atom c) seen = seen
  see_built (node f ts) seen = see_all ts (see_nested ts seen)

  -- behind the structures among terms, the last of which is built first
  pub see_nested : Trees → List ℕ → List ℕ
  see_nested none seen = seen
  see_nested (more (var v) ts) seen = see_nested ts seen
  see_nested (more (int z) ts) seen = see_nested ts seen
  see_nested (more (atom a) ts) seen = see_nested ts seen
  see_nested (more (node a us) ts) seen = see_built (node a us) (see_nested ts seen)

abbrev mutual
  -- Puts a term into X a. X b and those from X m on are free for what it is made of, and so is X a up to then.
  pub build : Tree → ℕ → List ℕ → ℕ → ℕ → List Step
  build (var v) a seen b m = if has seen v then put_value (Y v) a ∷ [] else put_variable (Y v) a ∷ []
  build (int z) a seen b m = put_constant (int z) a ∷ []
  build (atom c) a seen b m = put_constant (atom c) a ∷ []
  build (node f ts) a seen b m = nested ts a seen b m ++ (put_structure f (count_trees ts) a ∷ fills ts (see_nested ts seen) b m)

  -- puts those that are structures into their places
  pub nested : Trees → ℕ → List ℕ → ℕ → ℕ → List Step
  nested none a seen b m = []
  nested (more (var v) ts) a seen b m = nested ts a seen b m
  nested (more (int z) ts) a seen b m = nested ts a seen b m
  nested (more (atom c) ts) a seen b m = nested ts a seen b m
  nested (more (node g us) ts) a seen b m = nested ts a seen b m ++ build (node g us) (place (inner ts) b m) (see_nested ts seen) a (m + inner ts)

-- puts terms into X a and on
abbrev pub puts : Trees → ℕ → List ℕ → ℕ → List Step
puts none a seen m = []
puts (more t ts) a seen m = build t a seen m (m + 1) ++ puts ts (a + 1) (see_built t seen) m

abbrev pub see_puts : Trees → List ℕ → List ℕ
see_puts none seen = seen
see_puts (more t ts) seen = see_puts ts (see_built t seen)

abbrev pub goal_code : Tree → List ℕ → List Step
goal_code g seen = puts (arguments g) 1 seen (count_trees (arguments g) + 1)

abbrev pub asking : Tree → Step
asking g = if is_builtin g then builtin (name g) (count_trees (arguments g)) else call (name g) (count_trees (arguments g))

-- an argument of a structure of the head; one that is a structure is taken into X m
abbrev pub take : Tree → List ℕ → ℕ → Step
take (var v) seen m = if has seen v then unify_value (Y v) else unify_variable (Y v)
take (int z) seen m = unify_constant (int z)
take (atom a) seen m = unify_constant (atom a)
take (node a us) seen m = unify_variable (X m)

-- those that are structures are taken into the temporaries from m on, the last one into X m
abbrev pub takes : Trees → List ℕ → ℕ → List Step
takes none seen m = []
takes (more t ts) seen m = take t seen (m + inner ts) ∷ takes ts (see t seen) m

abbrev mutual
  -- the variables seen behind a term that is taken apart
  pub see_taken : Tree → List ℕ → List ℕ
  see_taken (var v) seen = add_vars (var v) seen
  see_taken (int z) seen = seen
  see_taken (atom c) seen = seen
  see_taken (node f ts) seen = see_opened ts (see_all ts seen)

  -- behind the structures among terms
  pub see_opened : Trees → List ℕ → List ℕ
  see_opened none seen = seen
  see_opened (more (var v) ts) seen = see_opened ts seen
  see_opened (more (int z) ts) seen = see_opened ts seen
  see_opened (more (atom a) ts) seen = see_opened ts seen
  see_opened (more (node a us) ts) seen = see_opened ts (see_taken (node a us) seen)

abbrev mutual
  -- an argument of the head in X a, with the temporaries from m on
  pub get : Tree → ℕ → List ℕ → ℕ → List Step
  get (var v) a seen m = if has seen v then get_value (Y v) a ∷ [] else get_variable (Y v) a ∷ []
  get (int z) a seen m = get_constant (int z) a ∷ []
  get (atom c) a seen m = get_constant (atom c) a ∷ []
  get (node f ts) a seen m = get_structure f (count_trees ts) a ∷ (takes ts seen m ++ opens ts (see_all ts seen) m)

  -- Takes those that are structures apart, from the first one on. Nothing is read of a temporary behind its `get_structure`, so
  -- that it is free for the structures inside, as are all those behind it.
  pub opens : Trees → List ℕ → ℕ → List Step
  opens none seen m = []
  opens (more (var v) ts) seen m = opens ts seen m
  opens (more (int z) ts) seen m = opens ts seen m
  opens (more (atom a) ts) seen m = opens ts seen m
  opens (more (node a us) ts) seen m = get (node a us) (m + inner ts) seen (m + inner ts) ++ opens ts (see_taken (node a us) seen) m

abbrev pub gets : Trees → ℕ → List ℕ → ℕ → List Step
gets none a seen m = []
gets (more t ts) a seen m = get t a seen m ++ gets ts (a + 1) (add_vars t seen) m
