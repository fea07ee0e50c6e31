use Rattle.std.proofs.Common.{ap, ◌∙◌}
use Rattle.ap_instr.specs.Runs.{set}
use Rattle.ap_codegen.proofs.LeftNumbers.{by_set}
use Rattle.ap_codegen.proofs.relocating.note.Goals as goal

pub returns : goal.returns
returns c = (λ i w. by_set c.grow.new.numbers.items c.args.place c.args.n w c.in_ok-grow.ensures.long i) ∙ ap (λ f. set f c.args.place c.args.n) c.in_ok-grow.ensures.same
