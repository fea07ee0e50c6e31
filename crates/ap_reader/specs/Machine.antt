-- The one pass that finds a term: an operand or the want of one, over what is open.
use Rattle.std.specs.Prelude.{ℕ, ◌^◌, ◌&&◌, nat_le, nat_lt, if◌then◌else◌, List, [], ◌∷◌, Option, Some, None}
use Rattle.ap_reader.specs.declared.word.Word.{Word}
use Rattle.ap_reader.specs.declared.word.Word.TheVariants as w
use Rattle.ap_reader.specs.Grammar.{Tree, Single, Positive, Negative, Prefix, Infix, Group, Compound, Empty, Listed, Tailed, Items, Begin, Then, infix_rank, prefix_rank}
use Rattle.ap_reader.specs.Operator.{left_max, right_max}

-- what stands before the items: a name with its parenthesis, or a bracket
pub data Head : Type 0 where
  Named : ℕ → ℕ → Head
  Bracket : Head

-- what is open, from the inside out
pub data Frame : Type 0 where
  AfterPrefix : Word → Frame
  AfterInfix : Tree → Word → Frame
  InGroup : Frame
  Inside : Head → Items → Frame
  InTail : Items → Tree → Frame

pub data State : Type 0 where
  Wants : List Frame → State
  Signed : ℕ → ℕ → List Frame → State
  Called : ℕ → ℕ → List Frame → State
  Has : Tree → List Frame → State
  Stuck : State

-- the greatest priority that the next operand may have
abbrev pub room : List Frame → ℕ
room [] = 1200
room (AfterPrefix o ∷ s) = right_max (prefix_rank o)
room (AfterInfix l o ∷ s) = right_max (infix_rank o)
room (InGroup ∷ s) = 1200
room (Inside h items ∷ s) = 999
room (InTail items t ∷ s) = 999

-- Operators of priority at most m take their operand.
unfoldable pub reduced : ℕ → Tree → List Frame → State
reduced m t [] = Has t []
reduced m t (AfterPrefix o ∷ s) = if nat_le (prefix_rank o) m then reduced m (Prefix o t) s else Has t (AfterPrefix o ∷ s)
reduced m t (AfterInfix l o ∷ s) = if nat_le (infix_rank o) m then reduced m (Infix l o t) s else Has t (AfterInfix l o ∷ s)
reduced m t (InGroup ∷ s) = Has t (InGroup ∷ s)
reduced m t (Inside h items ∷ s) = Has t (Inside h items ∷ s)
reduced m t (InTail items u ∷ s) = Has t (InTail items u ∷ s)

abbrev pub prefixed : Word → List Frame → State
prefixed o s = if nat_lt 0 (prefix_rank o) && nat_le (prefix_rank o) (room s) then Wants (AfterPrefix o ∷ s) else Stuck

abbrev pub shifted : Word → State → State
shifted o (Has t s) = if nat_lt 0 (infix_rank o) && nat_le (infix_rank o) (room s) then Wants (AfterInfix t o ∷ s) else Stuck
shifted o _ = Stuck

abbrev pub closed : State → State
closed (Has t (InGroup ∷ s)) = Has (Group t) s
closed (Has t (Inside (Named at i) items ∷ s)) = Has (Compound at i items t) s
closed _ = Stuck

abbrev pub list_closed : State → State
list_closed (Has t (Inside Bracket items ∷ s)) = Has (Listed items t) s
list_closed (Has u (InTail items t ∷ s)) = Has (Tailed items t u) s
list_closed _ = Stuck

-- Between items a comma parts them; elsewhere it is an operator.
abbrev pub parted : ℕ → State → State
parted at (Has t (Inside h items ∷ s)) = Wants (Inside h (Then items t at) ∷ s)
parted at other = shifted (w.Comma at) other

abbrev pub barred : State → State
barred (Has t (Inside Bracket items ∷ s)) = Wants (InTail items t ∷ s)
barred _ = Stuck

abbrev pub on_want : List Frame → Word → State
on_want s (w.Operand at) = Has (Single at) s
on_want s (w.Number n) = if nat_lt n (2 ^ 63) then Has (Positive n) s else Stuck
on_want s (w.Sign at i) = Signed at i s
on_want s (w.Operator at i p) = prefixed (w.Operator at i p) s
on_want s (w.Functor at i) = Called at i s
on_want s w.Open = Wants (InGroup ∷ s)
on_want s w.OpenList = Wants (Inside Bracket Begin ∷ s)
on_want (Inside Bracket Begin ∷ s) w.CloseList = Has Empty s
on_want s _ = Stuck

abbrev pub on_sign : ℕ → ℕ → List Frame → Word → State
on_sign sign i s (w.Number n) = if nat_le n (2 ^ 63) then Has (Negative sign i n) s else Stuck
on_sign sign i s _ = Stuck

abbrev pub on_call : ℕ → ℕ → List Frame → Word → State
on_call at i s w.Open = Wants (Inside (Named at i) Begin ∷ s)
on_call at i s _ = Stuck

abbrev pub on_has : Tree → List Frame → Word → State
on_has t s (w.Operator at i p) = shifted (w.Operator at i p) (reduced (left_max i) t s)
on_has t s (w.Functor at i) = shifted (w.Functor at i) (reduced (left_max i) t s)
on_has t s (w.Sign at i) = shifted (w.Sign at i) (reduced (left_max i) t s)
on_has t s (w.Comma at) = parted at (reduced 999 t s)
on_has t s w.Bar = barred (reduced 999 t s)
on_has t s w.Close = closed (reduced 1200 t s)
on_has t s w.CloseList = list_closed (reduced 999 t s)
on_has t s _ = Stuck

abbrev pub next : State → Word → State
next (Wants s) word = on_want s word
next (Signed sign i s) word = on_sign sign i s word
next (Called at i s) word = on_call at i s word
next (Has t s) word = on_has t s word
next Stuck word = Stuck

abbrev pub over : State → List Word → State
over state [] = state
over state (word ∷ words) = over (next state word) words

abbrev pub whole : State → Option Tree
whole (Has t []) = Some t
whole _ = None

abbrev pub ended : State → Option Tree
ended (Has t s) = whole (reduced 1200 t s)
ended _ = None

abbrev pub parsed : List Word → Option Tree
parsed words = ended (over (Wants []) words)
