-- Ends, by how the definition of blocks names them.
use Rattle.std.proofs.Common.{◌≡◌, refl}
use Rattle.ap_term.specs.Blocks as blocks
use Rattle.ap_term.specs.Blocks.{no_more, budget_spent, stopped, error}
use Rattle.ap_worker.specs.declared.emission.End.{End}
use Rattle.ap_worker.specs.declared.emission.End.TheVariants.{NoMore, Spent, Stopped, Error}
use Rattle.ap_worker.specs.Ends.{end_of}

pub of-end : blocks.End → End
of-end no_more = NoMore
of-end budget_spent = Spent
of-end stopped = Stopped
of-end (error e) = Error e

pub end_of-of-end : (e : blocks.End) → end_of (of-end e) ≡ e
unfolding of-end
end_of-of-end no_more = refl
end_of-of-end budget_spent = refl
end_of-of-end stopped = refl
end_of-of-end (error e) = refl
