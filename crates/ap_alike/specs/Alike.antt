-- Goals, clauses and programs that the analysis can't tell apart.
use Rattle.std.specs.Prelude.{◌≡◌, ◌⊎◌, ℕ, false, List}
use Rattle.std.specs.List.{AllZip}
use Rattle.ap_term.specs.Tree.{Tree, Trees, node, none, more}
use Rattle.ap_term.specs.Goals.{Part, call, group, Clause, Program}
use Rattle.ap_term.specs.Builtins.{is_builtin}
use Rattle.ap_term.specs.Independence.{IsGround}

-- the same term, or two without variables
abbrev pub IsAlikeArgument : Tree → Tree → Type 0
IsAlikeArgument t u = (u ≡ t) ⊎ (IsGround t × IsGround u)

abbrev pub AreAlikeArguments : Trees → Trees → Type 0
AreAlikeArguments none none = Unit {0}
AreAlikeArguments none (more u us) = ⊥
AreAlikeArguments (more t ts) none = ⊥
AreAlikeArguments (more t ts) (more u us) = IsAlikeArgument t u × AreAlikeArguments ts us

-- two goals of one predicate that isn't built in
pub record AreCalledAlike (g h : Tree) : Type 0 where
  pub name : ℕ
  pub left : Trees
  pub right : Trees
  pub left_is : g ≡ node name left
  pub right_is : h ≡ node name right
  pub user : is_builtin g ≡ false
  pub arguments : AreAlikeArguments left right

-- the same goal, or two of one predicate with alike arguments
abbrev pub IsAlikeGoal : Tree → Tree → Type 0
IsAlikeGoal g h = (h ≡ g) ⊎ AreCalledAlike g h

abbrev pub AreAlikeGoals : Trees → Trees → Type 0
AreAlikeGoals none none = Unit {0}
AreAlikeGoals none (more h hs) = ⊥
AreAlikeGoals (more g gs) none = ⊥
AreAlikeGoals (more g gs) (more h hs) = IsAlikeGoal g h × AreAlikeGoals gs hs

abbrev pub IsAlikePart : Part → Part → Type 0
IsAlikePart (call g) (call h) = IsAlikeGoal g h
IsAlikePart (call g) (group ds hs) = ⊥
IsAlikePart (group cs gs) (call h) = ⊥
IsAlikePart (group cs gs) (group ds hs) = (ds ≡ cs) × AreAlikeGoals gs hs

abbrev pub AreAlikeBodies : List Part → List Part → Type 0
AreAlikeBodies ps qs = AllZip IsAlikePart ps qs

-- clauses with the same head, whose lines may be others
pub record IsAlikeClause (c d : Clause) : Type 0 where
  pub head : d.head ≡ c.head
  pub vars : d.vars ≡ c.vars
  pub body : AreAlikeBodies c.body d.body

abbrev pub AreAlike : Program → Program → Type 0
AreAlike P Q = AllZip IsAlikeClause P Q
