-- Abstract states: what the variables of a clause may share and which are free, or that the place is never reached
-- (Muthukumar and Hermenegildo, Compile-time Derivation of Variable Dependency Using Abstract Interpretation).
use Rattle.std.specs.Prelude.{ℕ}
use Rattle.ap_term.specs.Tree.{Tree}
use Rattle.ap_sharing.specs.VarSet.{union, both, without}
use Rattle.ap_sharing.specs.Share.{Share, nonground, met, ground_share, unite_shares, project_share}
use Rattle.ap_sharing.specs.Covering.{CoversShare}
use Rattle.ap_freeness.specs.Free.{CoversFree}
use Rattle.ap_absunify.specs.declared.states.State.{State}
use Rattle.ap_absunify.specs.declared.states.State.TheVariants.{Unreachable, Reachable}

-- f, which gives the instances of the clause's variables, is one of those that the state speaks of
abbrev pub Covers : State → (ℕ → Tree) → Type 0
Covers Unreachable f = ⊥
Covers (Reachable sh fr) f = CoversShare sh f × CoversFree fr f

-- what is surely ground is never free
abbrev pub made : Share → ℕ → State
made sh fr = Reachable sh (both fr (nonground sh))

-- the state in which the variables of v are ground, and with them nothing that shared a member with one is free
abbrev pub ground : State → ℕ → State
ground Unreachable v = Unreachable
ground (Reachable sh fr) v = made (ground_share sh v) (without fr (union v (met sh v)))

-- the state of what is covered by one or the other
abbrev pub unite : State → State → State
unite Unreachable s = s
unite (Reachable sh fr) Unreachable = Reachable sh fr
unite (Reachable sh fr) (Reachable sh2 fr2) = made (unite_shares sh sh2) (both fr fr2)

-- the state of the variables of keep alone
abbrev pub project : State → ℕ → State
project Unreachable keep = Unreachable
project (Reachable sh fr) keep = made (project_share sh keep) (both fr keep)
