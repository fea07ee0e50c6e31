-- What is known of a goal stack.
use Rattle.std.specs.Prelude.{◌≡◌, ℕ, ◌≤◌, ◌⊎◌, Bool, true, false, List, [], ◌∷◌, ◌++◌, length, slice_set}
use mathlib.Core.Option.{some}
use lib.ListN.{get_elem?}
use Rattle.ap_board.specs.declared.ticket.Ticket.{Ticket}
use Rattle.ap_goalstack.specs.declared.view.Hand.{Hand}

abbrev pub hand : Bool → List Ticket → List Ticket → Hand
hand o p t = record { owner = o; pushed = p; took = t }

-- the ticket is one of these
abbrev pub Has : Ticket → List Ticket → Type 0
Has t [] = ⊥
Has t (x ∷ xs) = (t ≡ x) ⊎ Has t xs

abbrev pub HasAll : List Ticket → List Ticket → Type 0
HasAll xs ys = (t : Ticket) → Has t xs → Has t ys

-- ys begins with xs
abbrev pub Begins : List Ticket → List Ticket → Type 0
Begins xs ys = (rest : List Ticket) × (ys ≡ xs ++ rest)

-- what one end knows, the owner having pushed `log`
abbrev pub Knows : ℕ → List Ticket → ℕ → Hand → Type 0
Knows who log id v = Begins v.pushed log × (v.owner ≡ true → (id ≡ who) × (v.pushed ≡ log))

-- the owner has pushed `log`: each ticket in the stack is of these, and each end knows a beginning of them
abbrev pub Told : ℕ → List Ticket → List Ticket → List Hand → Type 0
Told who log items views = HasAll items log × ((id : ℕ) (v : Hand) → get_elem? views id ≡ some v → Knows who log id v)

-- each ticket in it was pushed by the owner
abbrev pub Kept : List Ticket → List Hand → Type 0
Kept items views = (who : ℕ) × (log : List Ticket) × Told who log items views

-- the tickets that came out are among those that the owner had pushed
abbrev pub Took : Hand → List Ticket → Hand → Type 0
Took v xs w = HasAll xs w.pushed × Begins v.pushed w.pushed × (w.took ≡ v.took ++ xs) × (w.owner ≡ v.owner)

-- the same for the owner, who knows all that was pushed
abbrev pub Popped : Hand → List Ticket → Hand → Type 0
Popped v xs w = HasAll xs v.pushed × (w ≡ hand v.owner v.pushed (v.took ++ xs))

-- `holds items views` is what a caller keeps of its stack: of the tickets in it, oldest first, and of what each end knows
module _ (holds : List Ticket → List Hand → Type 0) where
  -- whatever is in the stack, a push by the owner keeps it
  abbrev pub KeepsPush : Type 0
  KeepsPush = (who : ℕ) (log items : List Ticket) (views : List Hand) (id : ℕ) (v : Hand) (x : Ticket) → Told who log items views → holds items views → get_elem? views id ≡ some v → v.owner ≡ true
      → holds (items ++ x ∷ []) (slice_set views id (hand true (v.pushed ++ x ∷ []) v.took))

  -- the same of a pop by the owner
  abbrev pub KeepsPop : Type 0
  KeepsPop = (who : ℕ) (log items : List Ticket) (views : List Hand) (id : ℕ) (v : Hand) (x : Ticket) → Told who log (items ++ x ∷ []) views → holds (items ++ x ∷ []) views → get_elem? views id ≡ some v → v.owner ≡ true
      → holds items (slice_set views id (hand true v.pushed (v.took ++ x ∷ [])))

  -- the same of a steal by another end
  abbrev pub KeepsSteal : Type 0
  KeepsSteal = (who : ℕ) (log items : List Ticket) (views : List Hand) (id : ℕ) (v : Hand) (x : Ticket) → Told who log (x ∷ items) views → holds (x ∷ items) views → get_elem? views id ≡ some v → v.owner ≡ false
      → holds items (slice_set views id (hand false log (v.took ++ x ∷ [])))

  abbrev pub IsKept : Type 0
  IsKept = KeepsPush × KeepsPop × KeepsSteal

  -- it stays when the owner makes another end
  abbrev pub IsForked : Type 0
  IsForked = (who : ℕ) (log items : List Ticket) (views : List Hand) (id : ℕ) (v : Hand) → Told who log items views → holds items views → get_elem? views id ≡ some v → v.owner ≡ true
      → holds items (views ++ hand false v.pushed [] ∷ [])

  -- the stack's rule and its caller's
  abbrev pub Ruled : List Ticket → List Hand → Type 0
  Ruled items views = Kept items views × holds items views

  -- at a moment in which an end knew this the stack held no more tickets than so many, and the caller's rule was true of it
  abbrev pub Found : ℕ → Hand → Type 0
  Found n v = (items : List Ticket) × (views : List Hand) × (id : ℕ) × (length items ≤ n) × Ruled items views × (get_elem? views id ≡ some v)
