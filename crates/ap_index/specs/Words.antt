-- Keys as pairs of numbers.
use Rattle.std.specs.Prelude.{◌≡◌, ℕ, pos, ◌+◌, false, List, Option, Some, None}
use Rattle.std.specs.List.{AllByRecursion}
use Rattle.ap_term.specs.Tree.{Tree}
use Rattle.ap_index.specs.declared.key.Key.{Key}
use Rattle.ap_index.specs.declared.key.Key.TheVariants.{Atom, Integer, Structure}
use Rattle.ap_index.specs.declared.head.Ask.{Ask}
use Rattle.ap_index.specs.declared.word.Word.{Word}
use Rattle.ap_index.specs.declared.word.Short.{Short}
use Rattle.ap_index.specs.Keys.{IsKeyOf}
use Rattle.ap_index.specs.Heads.{IsMet}

-- a key's word
abbrev pub word_of : Key → Word
word_of (Atom a) = record { kind = 2; value = pos a }
word_of (Integer z) = record { kind = 3; value = z }
word_of (Structure f n) = record { kind = 4 + n; value = pos f }

-- that of a key, if there is one
abbrev pub word_or_nothing : Option Key → Word
word_or_nothing None = record { kind = 0; value = pos 0 }
word_or_nothing (Some key) = word_of key

-- a tree has the key that is asked for, if one is
abbrev pub HasAsked : Option Key → Tree → Type 0
HasAsked None t = Unit {0}
HasAsked (Some key) t = IsKeyOf key t

-- what is asked of the first argument and of another one, and perhaps more
pub record IsShortOf (asks : List Ask) (s : Short) : Type 0 where
  pub first : Option Key
  pub second : Option Key
  pub first_is : s.first ≡ word_or_nothing first
  pub second_is : s.second ≡ word_or_nothing second
  pub needed : (x : ℕ → Tree) → AllByRecursion (IsMet x) asks → HasAsked first (x 1) × HasAsked second (x s.argument)
  pub enough : s.more ≡ false → (x : ℕ → Tree) → HasAsked first (x 1) → HasAsked second (x s.argument) → AllByRecursion (IsMet x) asks
