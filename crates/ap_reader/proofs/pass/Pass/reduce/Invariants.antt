use Rattle.std.proofs.Common.{◌≡◌, ◌++◌, vec_len, List}
use Rattle.ap_reader.specs.declared.pass.Step.{Step}
use Rattle.ap_reader.specs.Grammar.{Tree}
use Rattle.ap_reader.specs.Machine.{Frame, reduced}
use Rattle.ap_reader.specs.Step.{Holds}
use Rattle.ap_reader.proofs.pass.Pass.reduce.Given as goal

abbrev pub invariant-loop : goal.invariant-loop
invariant-loop l =
    (gone : List Step) (t : Tree) (s : List Frame) → Holds t s l.initial.self.stack.items (gone ++ l.initial.self.out.items) →
    (t' : Tree) × (s' : List Frame) × Holds t' s' l.self.stack.items (gone ++ l.self.out.items) × (reduced l.most t s ≡ reduced l.most t' s')

abbrev pub decreases-loop : goal.decreases-loop
decreases-loop l = vec_len l.self.stack
