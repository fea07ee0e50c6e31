-- Which lists of words are terms, and of which priority.
use Rattle.std.specs.Prelude.{ℕ, ◌^◌, ◌<◌, ◌≤◌, false, List, [], ◌∷◌, ◌++◌, codes}
use Rattle.ap_reader.specs.Operator.{priority_of, left_max, right_max}
use Rattle.ap_reader.specs.declared.word.Word.{Word}
use Rattle.ap_reader.specs.declared.word.Word.TheVariants as w

-- the priority of a word as an infix operator, and as a prefix operator; 0 where it is none
abbrev pub infix_rank : Word → ℕ
infix_rank (w.Operator at i p) = i
infix_rank (w.Functor at i) = i
infix_rank (w.Sign at i) = i
infix_rank (w.Comma at) = priority_of false (codes ",")
infix_rank _ = 0

abbrev pub prefix_rank : Word → ℕ
prefix_rank (w.Operator at i p) = p
prefix_rank _ = 0

-- A term as it is written. Items are terms with a comma after each.
mutual
  pub data Tree : Type 0 where
    Single : ℕ → Tree
    Positive : ℕ → Tree
    Negative : ℕ → ℕ → ℕ → Tree
    Prefix : Word → Tree → Tree
    Infix : Tree → Word → Tree → Tree
    Group : Tree → Tree
    Compound : ℕ → ℕ → Items → Tree → Tree
    Empty : Tree
    Listed : Items → Tree → Tree
    Tailed : Items → Tree → Tree → Tree

  pub data Items : Type 0 where
    Begin : Items
    Then : Items → Tree → ℕ → Items

-- the words that spell it
abbrev mutual
  pub spelled : Tree → List Word
  spelled (Single at) = w.Operand at ∷ []
  spelled (Positive n) = w.Number n ∷ []
  spelled (Negative sign i n) = w.Sign sign i ∷ w.Number n ∷ []
  spelled (Prefix o t) = o ∷ spelled t
  spelled (Infix l o r) = spelled l ++ o ∷ spelled r
  spelled (Group t) = w.Open ∷ (spelled t ++ w.Close ∷ [])
  spelled (Compound at i items t) = w.Functor at i ∷ w.Open ∷ (each items ++ (spelled t ++ w.Close ∷ []))
  spelled Empty = w.OpenList ∷ w.CloseList ∷ []
  spelled (Listed items t) = w.OpenList ∷ (each items ++ (spelled t ++ w.CloseList ∷ []))
  spelled (Tailed items t u) = w.OpenList ∷ (each items ++ (spelled t ++ w.Bar ∷ (spelled u ++ w.CloseList ∷ [])))

  pub each : Items → List Word
  each Begin = []
  each (Then items t at) = each items ++ (spelled t ++ w.Comma at ∷ [])

abbrev pub priority : Tree → ℕ
priority (Prefix o t) = prefix_rank o
priority (Infix l o r) = infix_rank o
priority _ = 0

-- The rules. An operator's operands have at most the priority that its fixity leaves them; arguments and elements have
-- at most 999, and what stands in parentheses at most 1200. The integer 2 ^ 63 stands behind a minus alone.
abbrev mutual
  pub IsTerm : Tree → Type 0
  IsTerm (Single at) = Unit {0}
  IsTerm (Positive n) = n < 2 ^ 63
  IsTerm (Negative sign i n) = n ≤ 2 ^ 63
  IsTerm (Prefix o t) = (0 < prefix_rank o) × (priority t ≤ right_max (prefix_rank o)) × IsTerm t
  IsTerm (Infix l o r) = (0 < infix_rank o) × (priority l ≤ left_max (infix_rank o)) × (priority r ≤ right_max (infix_rank o)) × IsTerm l × IsTerm r
  IsTerm (Group t) = (priority t ≤ 1200) × IsTerm t
  IsTerm (Compound at i items t) = AreItems items × (priority t ≤ 999) × IsTerm t
  IsTerm Empty = Unit {0}
  IsTerm (Listed items t) = AreItems items × (priority t ≤ 999) × IsTerm t
  IsTerm (Tailed items t u) = AreItems items × (priority t ≤ 999) × IsTerm t × (priority u ≤ 999) × IsTerm u

  pub AreItems : Items → Type 0
  AreItems Begin = Unit {0}
  AreItems (Then items t at) = AreItems items × (priority t ≤ 999) × IsTerm t

-- a whole term
abbrev pub IsWhole : Tree → Type 0
IsWhole t = (priority t ≤ 1200) × IsTerm t
