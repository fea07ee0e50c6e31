-- What is kept of a stack of which only its owner has an end.
use Rattle.std.specs.Prelude.{◌≡◌, ◌+◌, true, List, [], ◌∷◌, length}
use Rattle.ap_board.specs.declared.ticket.Ticket.{Ticket}
use Rattle.ap_goalstack.specs.declared.view.Hand.{Hand}

-- what the owner pushed, and didn't take, is in the stack
abbrev pub IsLone : List Ticket → List Hand → Type 0
IsLone items views = (v : Hand) × (views ≡ v ∷ []) × (v.owner ≡ true) × (length v.pushed ≡ length v.took + length items)
