-- Programs that never call a predicate's name.
use Rattle.std.specs.Prelude.{◌≡◌, ℕ}
use Rattle.std.specs.List.{AllByRecursion}
use Rattle.ap_term.specs.Tree.{Tree, Trees, var, int, atom, node, none, more}
use Rattle.ap_term.specs.Goals.{Clause, Program, plain_goals}

-- a goal that has, whatever its variables are, another name
abbrev pub IsOther : ℕ → Tree → Type 0
IsOther a (var x) = ⊥
IsOther a (int z) = Unit {0}
IsOther a (atom b) = b ≡ a → ⊥
IsOther a (node b ts) = b ≡ a → ⊥

abbrev pub AreOthers : ℕ → Trees → Type 0
AreOthers a none = Unit {0}
AreOthers a (more t ts) = IsOther a t × AreOthers a ts

abbrev pub BodyIsOther : ℕ → Clause → Type 0
BodyIsOther a c = AreOthers a (plain_goals c.body)

abbrev pub NeverCalls : ℕ → Program → Type 0
NeverCalls a p = AllByRecursion (BodyIsOther a) p

-- whether a tree has a name
abbrev pub HasName : ℕ → Tree → Type 0
HasName a (atom b) = b ≡ a
HasName a (node b ts) = b ≡ a
HasName a _ = ⊥
