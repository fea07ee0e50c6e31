-- The laws that the crate's functions stand for.
use Rattle.std.specs.Prelude.{◌≡◌, ℤ, List, [], ◌∷◌, Some, None}
use Rattle.ap_tracked.specs.Sets.{IsSetOf, IsGeneralGoal, IsGeneralTuple, Resolved, Behind, Equated, Valued}
use Rattle.ap_term.specs.declared.fixed.TheConstants.{UNIFY, IS}
use Rattle.ap_term.specs.Tree.{Tree, Trees, node, none, more}
use Rattle.ap_term.specs.Goals.{Clause, Program}
use Rattle.ap_term.specs.WellFormed.{IsClause}
use Rattle.ap_term.specs.Arithmetic.{eval}
use Rattle.ap_term.specs.Builtins.{builtin}
use Rattle.ap_term.specs.UpToNames.{SameUpToNames}
use Rattle.ap_tracked.specs.Tracked.{Goal, call, Tracked, clause_children, children}
use Rattle.ap_tracked.specs.Marks.{marked}
use Rattle.ap_tracked.specs.Instances.{Inst}
use Rattle.ap_graft.specs.Variables.{IsTrackedBelow}

-- a clause's child of a state has just the instances that come by an instance of the clause; there is no child where
-- there is none
abbrev pub ResolutionLaw : Type 0
ResolutionLaw =
    (s : Tracked) (g : Tree) (rest : List Goal) (c : Clause) → IsTrackedBelow s → IsClause c → s.goals ≡ call g ∷ rest
    → IsSetOf (Resolved (Inst s) c) (clause_children s g rest c)

-- a state's own goals and tuple are one of its instances
abbrev pub InstanceLaw : Type 0
InstanceLaw = (s : Tracked) → Inst s (marked s.goals) s.tuple

-- the most general tuple is the state's, up to names
abbrev pub TupleLaw : Type 0
TupleLaw = (s : Tracked) (t : Trees) → IsGeneralTuple (Inst s) t → SameUpToNames t s.tuple

-- What a built-in goal makes of a state, told by the most general first goal g: whether it is one; where
-- it fails there is no child; where it binds nothing the goals behind it are left; where it equates, or gives a value, the
-- instances are left in which that holds.
pub record BuiltinLaw : Type 0 where
  pub ordinary : (s : Tracked) (f : Tree) (rest : List Goal) (g : Tree) → s.goals ≡ call f ∷ rest → IsGeneralGoal (Inst s) g → builtin g ≡ None → builtin f ≡ None
  pub fails : (p : Program) (s : Tracked) (f : Tree) (rest : List Goal) (g : Tree) → s.goals ≡ call f ∷ rest → IsGeneralGoal (Inst s) g → builtin g ≡ Some None → children p s ≡ []
  pub holds : (p : Program) (s : Tracked) (f : Tree) (rest : List Goal) (g : Tree) → s.goals ≡ call f ∷ rest → IsGeneralGoal (Inst s) g → builtin g ≡ Some (Some []) → IsSetOf (Behind (Inst s)) (children p s)
  pub equates : (p : Program) (s : Tracked) (f : Tree) (rest : List Goal) (a b : Tree) → s.goals ≡ call f ∷ rest → IsGeneralGoal (Inst s) (node UNIFY (more a (more b none))) → IsSetOf (Equated (Inst s)) (children p s)
  pub values : (p : Program) (s : Tracked) (f : Tree) (rest : List Goal) (a b : Tree) (z : ℤ) → s.goals ≡ call f ∷ rest → IsGeneralGoal (Inst s) (node IS (more a (more b none))) → eval b ≡ Some z → IsSetOf (Valued (Inst s) z) (children p s)
