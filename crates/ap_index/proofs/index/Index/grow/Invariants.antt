use Rattle.std.proofs.Common.{◌≡◌, length, take}
use Rattle.ap_index.specs.Index.{IsIndexOf}
use Rattle.ap_index.proofs.index.Index.grow.Given as goal

abbrev pub invariant-loop-at : goal.invariant-loop-at
invariant-loop-at l = record {
  is : IsIndexOf l.code l.self;
  rows : l.self.rows ≡ l.fn.self.rows;
  choices : take (length l.fn.self.choices.items) l.self.choices.items ≡ l.fn.self.choices.items;
}
