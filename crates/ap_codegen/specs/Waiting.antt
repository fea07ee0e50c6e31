-- The structures that wait while the code of a term is made, on stacks whose top is last, and what comes of them.
use Rattle.std.specs.Prelude.{◌≡◌, ℕ, ◌+◌, ◌*◌, ◌<◌, ◌≤◌, List, [], ◌∷◌, ◌++◌}
use Rattle.ap_term.specs.Tree.{Tree, Trees, node, count_trees, size, size_all}
use Rattle.ap_term.specs.TermView.{trees_of}
use Rattle.ap_instr.specs.Step.{Step, put_structure}
use Rattle.ap_codegen.specs.declared.permanent.Opening.{Opening}
use Rattle.ap_codegen.specs.declared.permanent.Structure.{Structure}
use Rattle.ap_codegen.specs.declared.permanent.Making.{Making}
use Rattle.ap_codegen.specs.declared.permanent.Making.TheVariants.{Build, Fill}
use Rattle.ap_codegen.specs.Permanent.{see_all, fills, see_built, see_nested, build, nested, see_opened, opens}

-- ---- structures of a head that are to be taken apart

abbrev pub see_waiting : List Opening → List ℕ → List ℕ
see_waiting [] seen = seen
see_waiting (w ∷ ws) seen = see_opened (trees_of w.terms.now) (see_waiting ws seen)

abbrev pub opened : List Opening → List ℕ → List Step
opened [] seen = []
opened (w ∷ ws) seen = opened ws seen ++ opens (trees_of w.terms.now) (see_waiting ws seen) w.free

abbrev pub weight : List Opening → ℕ
weight [] = 0
weight (w ∷ ws) = size_all (trees_of w.terms.now) + 1 + weight ws

-- The steps from `before` to `behind`, with those of the structures that wait now, are some steps and then those of the structures
-- that waited before; `sees` are the variables seen behind the former.
pub record IsBegun (steps : List Step) (sees : List ℕ) (size : ℕ) (old new : List Opening) (seen : List ℕ) (before behind : List Step) : Type 0 where
  pub code : behind ++ opened new seen ≡ before ++ (steps ++ opened old sees)
  pub variables : see_waiting new seen ≡ see_waiting old sees
  pub light : weight new ≤ size + weight old

-- ---- structures that are to be built

abbrev pub structure : Structure → Tree
structure w = node w.name.now w.args.now

abbrev pub see_making : Making → List ℕ → List ℕ
see_making (Build w) seen = see_built (structure w) seen
see_making (Fill w) seen = see_all w.args.now seen

abbrev pub making_code : Making → List ℕ → List Step
making_code (Build w) seen = build (structure w) w.at seen w.spare w.free
making_code (Fill w) seen = put_structure w.name.now (count_trees w.args.now) w.at ∷ fills w.args.now seen w.spare w.free

abbrev pub see_makings : List Making → List ℕ → List ℕ
see_makings [] seen = seen
see_makings (w ∷ ws) seen = see_making w (see_makings ws seen)

abbrev pub made : List Making → List ℕ → List Step
made [] seen = []
made (w ∷ ws) seen = made ws seen ++ making_code w (see_makings ws seen)

abbrev pub making_weight : Making → ℕ
making_weight (Build w) = 2 * size (structure w)
making_weight (Fill w) = 1

abbrev pub made_weight : List Making → ℕ
made_weight [] = 0
made_weight (w ∷ ws) = making_weight w + made_weight ws

-- beside the old ones the structures among terms wait, which stand inside another one
pub record MakesMore (ts : Trees) (whole : Structure) (old new : List Making) : Type 0 where
  pub code : (seen : List ℕ) → made new seen ≡ nested ts whole.at seen whole.spare whole.free ++ made old (see_nested ts seen)
  pub sees : (seen : List ℕ) → see_makings new seen ≡ see_makings old (see_nested ts seen)
  pub light : made_weight new ≤ 2 * size_all ts + made_weight old

-- one part of what is left to do is done, and the old ones are left
pub record IsPart (w : Making) (old new : List Making) (seen now : List ℕ) (before behind : List Step) : Type 0 where
  pub code : behind ++ made new now ≡ before ++ (making_code w seen ++ made old (see_making w seen))
  pub variables : see_makings new now ≡ see_makings old (see_making w seen)
  pub lighter : made_weight new < making_weight w + made_weight old
