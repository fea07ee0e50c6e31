-- What the code holds of a predicate's clauses by their keys.
use Rattle.std.specs.Prelude.{◌≡◌, ℕ, List, [], ◌∷◌, ◌++◌, map}
use Rattle.ap_instr.specs.Code.{Compiled}
use Rattle.ap_index.specs.declared.key.Key.{Key}
use Rattle.ap_index.specs.declared.key.Key.TheVariants.{Atom, Integer, Structure}
use Rattle.ap_listing.specs.declared.lookup.Asked.{Asked}
use Rattle.ap_listing.specs.declared.lookup.Asked.TheVariants.{Atom as HeldAtom, Integer as HeldInteger, Structure as HeldStructure}
use Rattle.ap_listing.specs.declared.choices.Group.{Group}
use Rattle.ap_listing.specs.declared.choices.Choices.{Choices}
use Rattle.ap_listing.specs.Switch.{keys_of, groups, open_clauses}

abbrev pub asked_of : Key → Asked
asked_of (Atom a) = HeldAtom a
asked_of (Integer z) = HeldInteger z
asked_of (Structure f n) = HeldStructure f n

abbrev pub group_of : Group → Key × List ℕ
group_of g = (g.key, g.clauses.items)

-- a group with one more clause
abbrev pub with_clause : ℕ → Key × List ℕ → Key × List ℕ
with_clause l g = (g.0, g.1 ++ l ∷ [])

-- the clauses at some places, by their keys
pub record IsGrouped (code : Compiled) (ls : List ℕ) (c : Choices) : Type 0 where
  pub numbers : c.numbers.keys ≡ map asked_of (keys_of code ls)
  pub are : map group_of c.groups.items ≡ groups code ls (keys_of code ls)
  pub left : c.others.items ≡ open_clauses code ls
