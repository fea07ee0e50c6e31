-- A term as steps, each after those of its operands, and the pass as the code keeps it.
use Rattle.std.specs.Prelude.{◌≡◌, ℕ, ◌≢◌, List, [], ◌∷◌, ◌++◌, Bool, true, false, if◌then◌else◌, nat_le, Option, Some, None, Result, Ok, Err, pos, neg_ℤ}
use Rattle.std.specs.declared.alloc.Global.{Global}
use Rattle.std.specs.declared.vec.Vec.{Vec}
use Rattle.ap_reader.specs.declared.word.Word.{Word}
use Rattle.ap_reader.specs.declared.word.Word.TheVariants as w
use Rattle.ap_reader.specs.declared.pass.Step.{Step}
use Rattle.ap_reader.specs.declared.pass.Step.TheVariants as p
use Rattle.ap_reader.specs.declared.pass.Open.{Open}
use Rattle.ap_reader.specs.declared.pass.Open.TheVariants as o
use Rattle.ap_reader.specs.declared.pass.Around.{Around}
use Rattle.ap_reader.specs.declared.pass.Around.TheVariants as a
use Rattle.ap_reader.specs.declared.pass.Mode.{Mode}
use Rattle.ap_reader.specs.declared.pass.Mode.TheVariants as m
use Rattle.ap_reader.specs.declared.pass.ParseErr.{ParseErr}
use Rattle.ap_reader.specs.declared.pass.ParseErr.TheVariants as err
use Rattle.ap_reader.specs.Grammar.{Tree, Single, Positive, Negative, Prefix, Infix, Group, Compound, Empty, Listed, Tailed, Items, Begin, Then, spelled, IsWhole, infix_rank, prefix_rank}
use Rattle.ap_reader.specs.Machine.{Named, Bracket, Frame, AfterPrefix, AfterInfix, InGroup, Inside, InTail, State, Wants, Signed, Called, Has, Stuck}

-- where the token of a word stands; brackets have none
abbrev pub place : Word → ℕ
place (w.Operand at) = at
place (w.Sign at i) = at
place (w.Operator at i p) = at
place (w.Functor at i) = at
place (w.Comma at) = at
place _ = 0

abbrev mutual
  pub postfix : Tree → List Step
  postfix (Single at) = p.Operand at ∷ []
  postfix (Positive n) = p.Integer (pos n) ∷ []
  postfix (Negative sign i n) = p.Integer (neg_ℤ (pos n)) ∷ []
  postfix (Prefix o t) = postfix t ++ p.Prefix (place o) ∷ []
  postfix (Infix l o r) = postfix l ++ (postfix r ++ p.Infix (place o) ∷ [])
  postfix (Group t) = postfix t ++ p.Group ∷ []
  postfix (Compound at i items t) = posts items ++ (postfix t ++ p.Compound at ∷ [])
  postfix Empty = p.Begin ∷ p.Empty ∷ []
  postfix (Listed items t) = posts items ++ (postfix t ++ p.List ∷ [])
  postfix (Tailed items t u) = posts items ++ (postfix t ++ (postfix u ++ p.Tailed ∷ []))

  pub posts : Items → List Step
  posts Begin = p.Begin ∷ []
  posts (Then items t at) = posts items ++ (postfix t ++ p.Item ∷ [])

-- the code's stack, the innermost last, and the steps that were given so far
abbrev pub open_of : Frame → Open
open_of (AfterPrefix word) = o.Prefix word
open_of (AfterInfix l word) = o.Infix word
open_of InGroup = o.Group
open_of (Inside (Named at i) items) = o.Call at
open_of (Inside Bracket Begin) = o.List false
open_of (Inside Bracket (Then items t at)) = o.List true
open_of (InTail items t) = o.Tail

abbrev pub opens : List Frame → List Open
opens [] = []
opens (f ∷ s) = opens s ++ open_of f ∷ []

-- what a comma stands in
abbrev pub innermost : List Frame → Around
innermost (Inside (Named at i) items ∷ s) = a.Call
innermost (Inside Bracket items ∷ s) = a.List
innermost _ = a.Operand

abbrev pub given : Frame → List Step
given (AfterPrefix word) = []
given (AfterInfix l word) = postfix l
given InGroup = []
given (Inside h items) = posts items
given (InTail items t) = posts items ++ postfix t

abbrev pub steps : List Frame → List Step
steps [] = []
steps (f ∷ s) = steps s ++ given f

pub record Holds (t : Tree) (s : List Frame) (stack : List Open) (out : List Step) : Type 0 where
  pub stack_is : stack ≡ opens s
  pub out_is : out ≡ steps s ++ postfix t

pub record Awaits (s : List Frame) (stack : List Open) (out : List Step) : Type 0 where
  pub stack_is : stack ≡ opens s
  pub out_is : out ≡ steps s

-- what the code keeps stands for a state of the machine
abbrev pub Shows : State → Mode → List Open → List Step → Type 0
Shows (Wants s) m.Wants stack out = Awaits s stack out
Shows (Signed sign i s) m.Signed stack out = Awaits s stack out
Shows (Called at i s) (m.Called at') stack out = (at' ≡ at) × Awaits s stack out
Shows (Has t s) m.Has stack out = Holds t s stack out
Shows _ _ stack out = ⊥

-- the same after a step that may fail
abbrev pub Follows : State → Result Mode ParseErr → List Open → List Step → Type 0
Follows x (Ok mode) stack out = Shows x mode stack out
Follows x (Err err.NotATerm) stack out = x ≡ Stuck
Follows x (Err err.NoMemory) stack out = Unit {0}

-- the steps of the one term that the words spell, or none where they spell none
abbrev pub Finds : List Word → Result (List Step) ParseErr → Type 0
Finds words (Ok found) = (t : Tree) × IsWhole t × (spelled t ≡ words) × (found ≡ postfix t)
Finds words (Err err.NotATerm) = (t : Tree) → IsWhole t → spelled t ≢ words
Finds words (Err err.NoMemory) = Unit {0}

abbrev pub items_of : Result (Vec Step Global) ParseErr → Result (List Step) ParseErr
items_of (Ok v) = Ok v.items
items_of (Err e) = Err e

-- what an open operator of priority at most m gives when it takes its operand
abbrev pub due : ℕ → Open → Option Step
due m (o.Prefix word) = if nat_le (prefix_rank word) m then Some (p.Prefix (place word)) else None
due m (o.Infix word) = if nat_le (infix_rank word) m then Some (p.Infix (place word)) else None
due m _ = None

-- one operator took its operand, or none does
abbrev pub Takes : ℕ → List Open → List Step → Result Bool ParseErr → List Open → List Step → Type 0
Takes m stack out (Ok true) stack' out' = (opened : Open) × (step : Step) × (stack ≡ stack' ++ opened ∷ []) × (due m opened ≡ Some step) × (out' ≡ out ++ step ∷ [])
Takes m stack out (Ok false) stack' out' = (stack' ≡ stack) × (out' ≡ out) × ((rest : List Open) (opened : Open) → stack ≡ rest ++ opened ∷ [] → due m opened ≡ None)
Takes m stack out (Err err.NotATerm) stack' out' = ⊥
Takes m stack out (Err err.NoMemory) stack' out' = Unit {0}
