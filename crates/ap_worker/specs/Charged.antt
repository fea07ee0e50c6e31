-- What the search of a query is charged.
use Rattle.std.specs.Prelude.{◌≡◌, ℕ, ◌≤◌, max, true, List, map, [], ◌∷◌}
use Rattle.ap_term.specs.Tree.{Trees}
use Rattle.ap_term.specs.Goals.{Program}
use Rattle.ap_term.specs.Search.{State, search}
use Rattle.ap_term.specs.Blocks.{IsPrefix, IsBlock}
use Rattle.ap_open.specs.Solving.{IsCharged}
use Rattle.ap_stack.specs.declared.stack.Ending.{Ending}
use Rattle.ap_stack.specs.declared.stack.Ending.TheVariants as ending
use Rattle.ap_worker.specs.declared.emission.Ended.{Ended}
use Rattle.ap_worker.specs.declared.emission.End.{End}
use Rattle.ap_worker.specs.declared.emission.End.TheVariants.{NoMore, Spent}
use Rattle.ap_worker.specs.Ends.{end_of}

-- The lines are a block with that end. With each number of calls below the charge sequential search hasn't ended, and what it finds begins
-- them; where the budget is spent all of it is charged. Where P stands sequential search finds them with as many calls as are
-- charged, and it ends with those where these are all.
pub record IsChargedEnd (line : Trees → List ℕ) (p : Program) (q : State) (budget limit : ℕ) (P : Type 0) (end : End) (charge : ℕ) (put : List (List ℕ)) : Type 0 where
  pub block : IsBlock line p q budget limit put (end_of end)
  pub charged : IsCharged line p q charge put
  pub spent : end ≡ Spent → budget ≤ charge
  pub found : P → IsPrefix put (map line (search p charge (q ∷ [])).answers)
  pub ended : P → end ≡ NoMore → (search p charge (q ∷ [])).ended ≡ true

abbrev pub IsChargedBlock : (Trees → List ℕ) → Program → State → ℕ → ℕ → Type 0 → Ended → List (List ℕ) → Type 0
IsChargedBlock line p q budget limit P e put = IsChargedEnd line p q budget limit P e.end e.charged put

-- what is charged by how the search ended, where its section has made so many calls
abbrev pub charge_after : Ending → ℕ → ℕ → ℕ
charge_after ending.Failed made budget = made
charge_after ending.Spent made budget = max made budget
