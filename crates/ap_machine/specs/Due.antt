-- What is due where a search stands.
use Rattle.std.specs.Prelude.{◌≡◌, [], slice_get, Some}
use Rattle.ap_instr.specs.declared.instruction.Instr.TheVariants.{Builtin}
use Rattle.ap_instr.specs.declared.compiled.Predicate.{Predicate}
use Rattle.ap_instr.specs.Code.{Compiled}
use Rattle.ap_group.specs.Gathers.{IsGroupAt}
use Rattle.ap_standing.specs.Machine.{calling, inside, returning, failed, Machine}
use Rattle.ap_machine.specs.declared.due.Due.{Due}
use Rattle.ap_machine.specs.declared.due.Due.TheVariants.{Call, Goal, Direct, Answer, Nothing, Group}
use Rattle.ap_machine.specs.Direct.{IsDirectDue}

-- a call of a predicate of the table, a built-in goal, an answer, nothing at all, or a group
abbrev pub IsDue : Compiled → Machine → Due → Type 0
IsDue code m (Call number) = (m.now ≡ calling number) × ((q : Predicate) × (slice_get code.predicates number ≡ Some q))
IsDue code m (Goal builtin at) = (m.now ≡ inside at) × (slice_get code.instructions at ≡ Some (Builtin builtin))
IsDue code m (Direct to value) = IsDirectDue code m value to
IsDue code m Answer = (m.now ≡ returning) × (m.returns ≡ [])
IsDue code m Nothing = (m.now ≡ failed) × (m.points ≡ [])
IsDue code m (Group at) = (m.now ≡ inside at) × IsGroupAt code at
