-- A machine behind a group, whose goals' answers were copied in.
use Rattle.std.specs.Prelude.{◌≡◌, ℕ, ◌<◌, Bool, List, [], ◌∷◌, ◌++◌, length, slice_get, Some}
use Rattle.std.specs.List.{AllByRecursion}
use Rattle.ap_term.specs.Tuples.{tuple_under}
use Rattle.ap_term.specs.Tree.{Tree, Trees}
use Rattle.ap_term.specs.Substitution.{instance_all}
use Rattle.ap_term.specs.Goals.{Program}
use Rattle.ap_term.specs.WellFormed.{IsProgram}
use Rattle.ap_tracked.specs.Tracked.{Tracked}
use Rattle.ap_graft.specs.Variables.{IsTrackedBelow}
use Rattle.ap_instr.specs.declared.compiled.Predicate.{Predicate}
use Rattle.ap_instr.specs.Code.{Compiled}
use Rattle.ap_cells.specs.declared.cells.Raw.{Raw}
use Rattle.ap_match.specs.Fits.{Fits, Becomes, Answered}
use Rattle.ap_standing.specs.Machine.{returning, Machine, AreWithin}
use Rattle.ap_standing.specs.Holds.{Holds}
use Rattle.ap_group.specs.Groups.{Pushed, Forked}
use Rattle.ap_tie.specs.Sections.{Slots}
use Rattle.ap_tie.specs.Settled.{IsJoined}

-- under the map each goal's arguments are an instance of its answer's tuple, whose variables have no name here
abbrev pub MeetAnswers : (ℕ → Tree) → List Pushed → List Tracked → Type 0
MeetAnswers k [] [] = Unit {0}
MeetAnswers k (p ∷ ps) (u ∷ us) = ((h : ℕ → Tree) × (tuple_under k p.arguments ≡ instance_all h u.tuple)) × MeetAnswers k ps us
MeetAnswers k _ _ = ⊥

-- of a predicate of the table
abbrev pub IsKnown : Compiled → Pushed → Type 0
IsKnown code p = (q : Predicate) × (slice_get code.predicates p.predicate ≡ Some q)

-- Where a group's goals were pushed: goals of the table, one for each answer, and places of its cells.
pub record IsPushed (code : Compiled) (roots : List ℕ) (f : Forked) (us : List Tracked) : Type 0 where
  pub known : AllByRecursion (IsKnown code) f.goals
  pub many : length f.goals ≡ length us
  pub within : AreWithin (length f.cells) f.returns
  pub inside : AllByRecursion (λ r. r < length f.cells) roots

-- The machine has come to the return behind the group. Its cells are those of the fork, with each goal's arguments made an
-- instance of its answer.
pub record HasRejoined (roots : List ℕ) (f : Forked) (us : List Tracked) (n : Machine) : Type 0 where
  pub now : n.now ≡ returning
  pub returns : n.returns ≡ f.returns
  pub roots_stay : n.roots ≡ roots
  pub points : n.points ≡ []
  pub cells : Becomes f.cells n.cells (λ k. MeetAnswers k f.goals us) (λ k. Unit {0})

-- Answers of a group can be met together, and a machine that has met them stands for the joined state alone.
pub record RejoinLaw : Type 0 where
  pub some : (code : Compiled) (p : Program) (o : Tracked) (roots : List ℕ) (f : Forked) (w : Slots) (j : Tracked) → IsProgram p → IsTrackedBelow o
      → (i : IsJoined code p o roots f w j) → IsPushed code roots f i.answers → (k : ℕ → Tree) × Fits f.cells k × MeetAnswers k f.goals i.answers
  pub rejoined : (code : Compiled) (p : Program) (o : Tracked) (roots : List ℕ) (f : Forked) (w : Slots) (j : Tracked) (n : Machine) → IsProgram p → IsTrackedBelow o
      → (i : IsJoined code p o roots f w j) → IsPushed code roots f i.answers → HasRejoined roots f i.answers n → Holds code n (j ∷ [])

-- tuples that have the same instances, as an answer and its copy
abbrev pub AsGeneral : Trees → Trees → Type 0
AsGeneral ts us = ((h : ℕ → Tree) → (g : ℕ → Tree) × (instance_all h ts ≡ instance_all g us)) × ((g : ℕ → Tree) → (h : ℕ → Tree) × (instance_all g us ≡ instance_all h ts))

-- Answers are met one goal after another.
pub record MeetLaw : Type 0 where
  pub none_met : (cs : List Raw) → Becomes cs cs (λ k. MeetAnswers k [] []) (λ k. Unit {0})
  pub one_more : (cs ds es : List Raw) (ps : List Pushed) (us : List Tracked) (p : Pushed) (u : Tracked) (ts : Trees) (r : Bool) → length ps ≡ length us → AllByRecursion (λ a. a < length cs) p.arguments → AsGeneral ts u.tuple
      → Becomes cs ds (λ k. MeetAnswers k ps us) (λ k. Unit {0}) → Answered ds es (λ k. (h : ℕ → Tree) × (tuple_under k p.arguments ≡ instance_all h ts)) r
      → Answered cs es (λ k. MeetAnswers k (ps ++ p ∷ []) (us ++ u ∷ [])) r
