-- What a call that prints has put, and what it has done to the sink's count of faults.
use Rattle.std.specs.Prelude.{◌≡◌, ℕ, List, Option, Result, Ok, Err}
use Rattle.ap_outside.specs.Faults.{Rises}
use Rattle.ap_outside.specs.Pieces.{Puts, FrontOf, CutOf}
use Rattle.ap_outside.specs.declared.halting.Halt.{Halt}
use Rattle.ap_outside.specs.declared.halting.Halt.TheVariants as halt

-- lines that go with some answer
abbrev pub AnyOf : {T : Type 0} → (T → List (List ℕ) → Type 0) → List (List ℕ) → Type 0
AnyOf {T} E lines = (answer : T) × E answer lines

-- What a call has put, E being the lines that go with an answer. At Ok it put those. Where the sink failed, it put the
-- first of some answer's lines and a beginning of the next one; where memory was wanting, the first of them alone.
abbrev pub Finishes : {T : Type 0} → Option (List (List ℕ)) → Option (List (List ℕ)) → (T → List (List ℕ) → Type 0) → Result T Halt → Type 0
Finishes old new E (Ok answer) = Puts old new (E answer)
Finishes old new E (Err halt.Sink) = Puts old new (CutOf (AnyOf E))
Finishes old new E (Err halt.NoMemory) = Puts old new (FrontOf (AnyOf E))

-- the same of a call that prints lines that have P
abbrev pub Prints : Option (List (List ℕ)) → Option (List (List ℕ)) → (List (List ℕ) → Type 0) → Result (Unit {0}) Halt → Type 0
Prints old new P result = Finishes old new (λ _. P) result

-- the sink's count rises where a call halts by the sink, and stays otherwise
abbrev pub SinkCount : {T : Type 0} → ℕ → ℕ → Result T Halt → Type 0
SinkCount before now (Ok _) = now ≡ before
SinkCount before now (Err halt.Sink) = Rises before now
SinkCount before now (Err halt.NoMemory) = now ≡ before
