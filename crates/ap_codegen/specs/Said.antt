-- Instructions at a place say the steps of a clause. A jump, check or group leads to a place, where its step passes over others.
use Rattle.std.specs.Prelude.{◌≡◌, ℕ, ◌+◌, List, [], ◌∷◌, Option, Some, None}
use Rattle.ap_instr.specs.declared.instruction.Instr.{Instr}
use Rattle.ap_instr.specs.declared.instruction.Instr.TheVariants.{Allocate, Deallocate, Jump, CheckGround, CheckIndep, AllocParcall, PushGoal, WaitAll}
use Rattle.ap_instr.specs.Code.{Compiled}
use Rattle.ap_instr.specs.Step.{step_of as said_by}
use Rattle.ap_codegen.specs.declared.steps.Step.{Step as Emitted}
use Rattle.ap_codegen.specs.declared.steps.Step.TheVariants.{Allocate as EnterStep, Deallocate as LeaveStep, Jump as JumpStep, CheckGround as GroundStep, CheckIndep as IndepStep, AllocParcall as GroupStep, PushGoal as PushStep, WaitAll as WaitStep}
use Rattle.ap_codegen.specs.Emitted.{step_of}

-- an instruction whose step doesn't tell all of it; a group's goal but for its predicate
abbrev pub special_of : Instr → Option Instr
special_of (Allocate n) = Some (Allocate n)
special_of Deallocate = Some Deallocate
special_of (Jump l) = Some (Jump l)
special_of (CheckGround v l) = Some (CheckGround v l)
special_of (CheckIndep v w l) = Some (CheckIndep v w l)
special_of (AllocParcall n l) = Some (AllocParcall n l)
special_of (PushGoal i q) = Some (PushGoal i 0)
special_of WaitAll = Some WaitAll
special_of _ = None

-- the same of a clause's step whose instruction stands at a place
abbrev pub special_in : ℕ → Emitted → Option Instr
special_in at (EnterStep n) = Some (Allocate n)
special_in at LeaveStep = Some Deallocate
special_in at (JumpStep n) = Some (Jump (at + 1 + n))
special_in at (GroundStep v n) = Some (CheckGround v (at + 1 + n))
special_in at (IndepStep v w n) = Some (CheckIndep v w (at + 1 + n))
special_in at (GroupStep n l) = Some (AllocParcall n (at + 1 + l))
special_in at (PushStep i p n) = Some (PushGoal i 0)
special_in at WaitStep = Some WaitAll
special_in at _ = None

-- the instruction at the place says the step
pub record IsSaidAt (code : Compiled) (at : ℕ) (e : Emitted) (i : Instr) : Type 0 where
  pub says : said_by code i ≡ step_of e
  pub special : special_of i ≡ special_in at e

abbrev pub AreSaidAt : Compiled → ℕ → List Emitted → List Instr → Type 0
AreSaidAt code at [] [] = Unit {0}
AreSaidAt code at (e ∷ es) (i ∷ is) = IsSaidAt code at e i × AreSaidAt code (at + 1) es is
AreSaidAt code at _ _ = ⊥

-- the goals of each group are numbered from 1 on; so many of the group that steps begin in were pushed
abbrev pub AreNumbered : ℕ → List Emitted → Type 0
AreNumbered k [] = Unit {0}
AreNumbered k (GroupStep n l ∷ es) = AreNumbered 0 es
AreNumbered k (PushStep i p n ∷ es) = (i ≡ k + 1) × AreNumbered i es
AreNumbered k (e ∷ es) = AreNumbered k es
