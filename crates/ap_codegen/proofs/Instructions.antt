-- What the steps of a clause promise, said by instructions at a place, makes these the clause's.
use Rattle.std.proofs.Common.{ℕ, ◌+◌, List, ◌++◌, length}
use Rattle.ap_term.specs.Tree.{count_trees}
use Rattle.ap_term.specs.Goals.{Clause}
use Rattle.ap_instr.specs.declared.instruction.Instr.{Instr}
use Rattle.ap_instr.specs.Code.{Compiled}
use Rattle.ap_instr.specs.Runs.{arguments}
use Rattle.ap_codecheck.specs.Shape.{entry}
use Rattle.ap_codecheck.specs.Walk.{Walks}
use Rattle.ap_codegen.specs.declared.steps.Step.{Step as Emitted}
use Rattle.ap_codegen.specs.Emitted.{leads_of}
use Rattle.ap_codegen.specs.Grouped.{IsGroupedCode}
use Rattle.ap_codegen.specs.Said.{AreSaidAt}
use Rattle.ap_codegen.specs.Assembled.{AreAloneIn, AreInstructionsOf}
use Rattle.ap_codegen.proofs.Flows.{said_reads, said_sequences, said_apart}

pub clause_instructions : (code : Compiled) (at : ℕ) (c : Clause) (es : List Emitted) (is : List Instr) → AreSaidAt code at es is → IsGroupedCode c (leads_of es)
    → ((later : List Instr) → Walks code at 0 (is ++ later) (entry (count_trees (arguments c.head)))) → AreAloneIn code at (at + length is) is → AreInstructionsOf code at c is
clause_instructions code at c es is h g walks alone = record {
  reads = λ later d. said_reads code at c es is later g h d;
  sequences = λ later d. said_sequences code at c es is later g h d;
  apart = said_apart code at es is h g.apart;
  walks = walks;
  alone = alone;
}
