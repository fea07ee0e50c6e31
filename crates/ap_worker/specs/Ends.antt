-- How answers end, as the definition of blocks says it.
use Rattle.ap_term.specs.Blocks as blocks
use Rattle.ap_term.specs.Blocks.{no_more, budget_spent, stopped, error}
use Rattle.ap_worker.specs.declared.emission.End.{End}
use Rattle.ap_worker.specs.declared.emission.End.TheVariants.{NoMore, Spent, Stopped, Error}

abbrev pub end_of : End → blocks.End
end_of NoMore = no_more
end_of Spent = budget_spent
end_of Stopped = stopped
end_of (Error e) = error e
