-- The table of a program: in the first one every pattern is unreachable, and in the next one each pattern is united
-- with all that the table before gives to it, as one operation.
use Rattle.std.specs.Prelude.{◌≡◌, ℕ, zero, suc, Bool, false, if◌then◌else◌, List, [], ◌∷◌}
use Rattle.ap_term.specs.Goals.{Program}
use Rattle.ap_sharing.specs.VarSet.{union, both}
use Rattle.ap_sharing.specs.Sets.{join_sets, sets_of}
use Rattle.ap_sharing.specs.Share.{norm}
use Rattle.ap_absunify.specs.declared.states.State.{State}
use Rattle.ap_absunify.specs.declared.states.State.TheVariants.{Unreachable, Reachable}
use Rattle.ap_absunify.specs.State.{made}
use Rattle.ap_patterns.specs.declared.slots.Slot.{Slot}
use Rattle.ap_patterns.specs.declared.slots.Slot.TheVariants.{Call, Success}
use Rattle.ap_patterns.specs.declared.slots.Given.{Given}
use Rattle.ap_patterns.specs.declared.entries.Entries.{Entries}
use Rattle.ap_patterns.specs.Table.{same_predicate}
use Rattle.ap_patterns.specs.Given.{Patterns, given}

abbrev pub same_slot : Slot → Slot → Bool
same_slot (Call p) (Call q) = same_predicate p q
same_slot (Success p) (Success q) = same_predicate p q
same_slot (Call p) (Success q) = false
same_slot (Success p) (Call q) = false

-- what one of both says, not yet in the form in which a state is kept
abbrev pub joined : State → State → State
joined s Unreachable = s
joined Unreachable (Reachable sh fr) = Reachable (record { sets = sets_of sh.sets; any = sh.any }) fr
joined (Reachable sh fr) (Reachable sh2 fr2) = Reachable (record { sets = join_sets sh.sets sh2.sets; any = union sh.any sh2.any }) (both fr fr2)

-- with all that is given to a slot
abbrev pub joined_all : Slot → State → List Given → State
joined_all x s [] = s
joined_all x s (g ∷ gs) = joined_all x (if same_slot g.slot x then joined s g.pattern else s) gs

-- the form in which a state is kept
abbrev pub kept : State → State
kept Unreachable = Unreachable
kept (Reachable sh fr) = made (norm sh) fr

-- each pattern united with all that is given to it, as one operation
abbrev pub united : List Given → Patterns → Patterns
united gs t x = kept (joined_all x (t x) gs)

abbrev pub first : Patterns
first x = Unreachable

abbrev pub next : Entries → Program → Patterns → Patterns
next E A t = united (given E A t) t

abbrev pub table : Entries → Program → ℕ → Patterns
table E A zero = first
table E A (suc n) = next E A (table E A n)

-- the first table that is equal to its next
pub record IsFix (E : Entries) (A : Program) (t : Patterns) : Type 0 where
  pub round : ℕ
  pub reached : table E A round ≡ t
  pub last : next E A t ≡ t
  pub first_one : (m : ℕ) → next E A (table E A m) ≡ table E A m → table E A m ≡ t
