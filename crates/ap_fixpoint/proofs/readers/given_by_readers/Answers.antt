use Rattle.std.proofs.Common.{ap₂, ◌∙◌}
use Rattle.ap_patterns.specs.Given.{patterns}
use Rattle.ap_fixpoint.specs.Numbered.{numbers_of}
use Rattle.ap_fixpoint.specs.Reads.{given_by_numbers}
use Rattle.ap_fixpoint.proofs.Indexing.{reread}
use Rattle.ap_fixpoint.proofs.readers.given_by_readers.Goals as goal

pub returns : goal.returns
returns c =
    reread c.args.program.now (numbers_of c.args.readers.now) c.args.slots.now (patterns c.args.table.now) c.in_ok-numbers.numbers.items c.in_ok-given.given.items c.requires c.in_ok-numbers.ensures
    (c.in_ok-given.ensures ∙ ap₂ (λ a b. given_by_numbers (patterns c.args.table.now) a b) c.as_slice.ensures.clauses c.as_slice-2.ensures.value)
