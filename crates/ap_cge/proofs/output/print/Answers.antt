use Rattle.std.proofs.Common.{◌≡◌, ℕ, List, ap, ◌∙◌}
use Rattle.ap_outside.specs.Halting.{AnyOf}
use Rattle.ap_outside.specs.Pieces.{CutOf, FrontOf}
use Rattle.ap_outside.proofs.Puts.{puts_map, cut_map, front_map}
use Rattle.ap_cge.specs.Printed.{lines_of}
use Rattle.ap_cge.proofs.output.print.Goals as goal

pub returns-in-Err-Sink-clause-lines : goal.returns-in-Err-Sink-clause-lines
returns-in-Err-Sink-clause-lines g c =
    let names = c.args.atoms.now in
    let same : c.as_slice.result.now ≡ c.args.annotated.now = c.as_slice.ensures.clauses ∙ c.program.ensures in
    let E : Unit {0} → List (List ℕ) → Type 0 = λ _ put. put ≡ lines_of names c.as_slice.result.now in
    let Q : List (List ℕ) → Type 0 = λ put. put ≡ lines_of names c.args.annotated.now in
    let puts = rw c.in-Err-Sink.field-0-is at c.in-Err-Sink.ensures.lines in
    puts_map _ _ (CutOf (AnyOf E)) (CutOf Q) (cut_map (AnyOf E) Q (λ ls any. any.1 ∙ ap (lines_of names) same)) puts

pub returns-in-Err-NoMemory-clause-lines : goal.returns-in-Err-NoMemory-clause-lines
returns-in-Err-NoMemory-clause-lines g c =
    let names = c.args.atoms.now in
    let same : c.as_slice.result.now ≡ c.args.annotated.now = c.as_slice.ensures.clauses ∙ c.program.ensures in
    let E : Unit {0} → List (List ℕ) → Type 0 = λ _ put. put ≡ lines_of names c.as_slice.result.now in
    let Q : List (List ℕ) → Type 0 = λ put. put ≡ lines_of names c.args.annotated.now in
    let puts = rw c.in-Err-NoMemory.field-0-is at c.in-Err-NoMemory.ensures.lines in
    puts_map _ _ (FrontOf (AnyOf E)) (FrontOf Q) (front_map (AnyOf E) Q (λ ls any. any.1 ∙ ap (lines_of names) same)) puts
