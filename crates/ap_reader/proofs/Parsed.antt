-- What the pass says at its ends.
use Rattle.std.proofs.Common.{◌≡◌, List, [], ◌∷◌, Some, None, Ok, Err, refl, sym, ap, ◌∙◌}
use Rattle.ap_reader.specs.declared.word.Word.{Word}
use Rattle.ap_reader.specs.declared.pass.Step.{Step}
use Rattle.ap_reader.specs.declared.pass.Open.{Open}
use Rattle.ap_reader.specs.declared.pass.Mode.{Mode}
use Rattle.ap_reader.specs.declared.pass.Mode.TheVariants as mode
use Rattle.ap_reader.specs.declared.pass.ParseErr.{ParseErr}
use Rattle.ap_reader.specs.declared.pass.ParseErr.TheVariants as err
use Rattle.ap_reader.specs.Grammar.{Tree, spelled, IsWhole}
use Rattle.ap_reader.specs.Machine.{Frame, State, Wants, Signed, Called, Has, Stuck, reduced, next, over, ended, whole, parsed}
use Rattle.ap_reader.specs.Step.{opens, open_of, Holds, Shows, Follows, Finds}
use Rattle.ap_reader.proofs.Complete.{complete}
use Rattle.ap_reader.proofs.Sound.{sound}
use Rattle.ap_term.proofs.Lists.{nil-push}

not_some : {t : Tree} → None ≡ Some t → ⊥
not_some e = cc

pub none_spelled : (words : List Word) → parsed words ≡ None → (t : Tree) → IsWhole t → spelled t ≡ words → ⊥
none_spelled words e t ok h = not_some (sym (ap parsed h ∙ e) ∙ complete t ok)

pub stuck-over : (words : List Word) → over Stuck words ≡ Stuck
stuck-over [] = refl
stuck-over (word ∷ words) = stuck-over words

-- a word that can't follow ends it
pub stuck_at : (words rest : List Word) (x : State) (word : Word) → over (Wants []) words ≡ over x (word ∷ rest) → next x word ≡ Stuck → parsed words ≡ None
stuck_at words rest x word e k = ap ended (e ∙ ap (λ y. over y rest) k ∙ stuck-over rest)

pub fault_at : (words rest : List Word) (x : State) (word : Word) (fault : ParseErr) (stack : List Open) (out : List Step) → over (Wants []) words ≡ over x (word ∷ rest) → Follows (next x word) (Err fault) stack out → Finds words (Err fault)
fault_at words rest x word err.NotATerm stack out e k = none_spelled words (stuck_at words rest x word e k)
fault_at words rest x word err.NoMemory stack out e k = tt

-- a state that has no term isn't the end of one
pub wants_more : (x : State) (m : Mode) (stack : List Open) (out : List Step) → Shows x m stack out → (m ≡ mode.Has → ⊥) → ended x ≡ None
wants_more (Wants s) m stack out h ne = refl
wants_more (Signed sign i s) m stack out h ne = refl
wants_more (Called at i s) m stack out h ne = refl
wants_more Stuck m stack out h ne = refl
wants_more (Has t s) mode.Has stack out h ne = absurd (ne refl)
wants_more (Has t s) mode.Wants stack out h ne = absurd h
wants_more (Has t s) mode.Signed stack out h ne = absurd h
wants_more (Has t s) (mode.Called at) stack out h ne = absurd h

abbrev Ends : List Word → State → List Open → List Step → Type 0
Ends words y stack out = (stack ≡ [] → Finds words (Ok out)) × ((stack ≡ [] → ⊥) → (t : Tree) → IsWhole t → spelled t ≡ words → ⊥)

ends : (words : List Word) (y : State) (stack : List Open) (out : List Step) → parsed words ≡ whole y → Shows y mode.Has stack out → Ends words y stack out
ends words (Has t []) stack out e h =
    let right = sound words t e in
    (λ empty. (t, right.0, right.1, h.out_is), λ full. absurd (full h.stack_is))
ends words (Has t (f ∷ s)) stack out e h =
    (λ empty. absurd (nil-push (opens s) (open_of f) (sym empty ∙ h.stack_is)), λ full. none_spelled words e)
ends words (Wants s) stack out e h = absurd h
ends words (Signed sign i s) stack out e h = absurd h
ends words (Called at i s) stack out e h = absurd h
ends words Stuck stack out e h = absurd h

-- what was open is taken in, and then nothing is open or no term was found
pub at_end : (words : List Word) (x : State) (stack stack' : List Open) (out out' : List Step) → over (Wants []) words ≡ x → Shows x mode.Has stack out → ((t : Tree) (s : List Frame) → Holds t s stack out → Shows (reduced 1200 t s) mode.Has stack' out') → (y : State) × Ends words y stack' out'
at_end words (Has t s) stack stack' out out' e h done = (reduced 1200 t s, ends words (reduced 1200 t s) stack' out' (ap ended e) (done t s h))
at_end words (Wants s) stack stack' out out' e h done = absurd h
at_end words (Signed sign i s) stack stack' out out' e h done = absurd h
at_end words (Called at i s) stack stack' out out' e h done = absurd h
at_end words Stuck stack stack' out out' e h done = absurd h
