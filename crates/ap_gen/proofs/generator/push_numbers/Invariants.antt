use Rattle.std.proofs.Common.{◌≡◌, ◌<◌, ◌++◌}
use Rattle.ap_gen.specs.Generator.{elements, parted, state}
use Rattle.ap_gen.proofs.generator.push_numbers.Given as goal

abbrev pub invariant-loop-count : goal.invariant-loop-count
invariant-loop-count l = record {
  state : l.state ≡ state l.seed l.count;
  small : l.state < 2147483648;
  text : l.text.items ≡ l.fn.text.items ++ parted (elements l.seed l.count);
}
