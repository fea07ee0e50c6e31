-- How the logic stores states.
use Rattle.std.specs.Prelude.{◌≡◌, ℕ, Bool, true, false, if◌then◌else◌, List, Option, refl}
use Rattle.std.specs.Coded.{Coded, code_by, coded×, coded_list, coded_option, coded_bool, coded_ℕ}
use Rattle.ap_term.specs.declared.faults.Fault.{Fault}
use Rattle.ap_term.specs.declared.faults.Fault.TheVariants.{Instantiation, WrongType, ZeroDivisor, Overflow}
use Rattle.ap_term.specs.Tree.{Trees}
use Rattle.ap_term.specs.TreeCode.{trees_code}
use Rattle.ap_term.specs.Goals.{Part}
use Rattle.ap_term.specs.GoalCode.{body_code}
use Rattle.ap_term.specs.Search.{State}

abbrev pub of_fault : Fault → Bool × Bool
of_fault Instantiation = (false, false)
of_fault WrongType = (false, true)
of_fault ZeroDivisor = (true, false)
of_fault Overflow = (true, true)

abbrev pub to_fault : Bool × Bool → Fault
to_fault p = if p.0 then (if p.1 then Overflow else ZeroDivisor) else (if p.1 then WrongType else Instantiation)

pub fault_back : (e : Fault) → to_fault (of_fault e) ≡ e
fault_back Instantiation = refl
fault_back WrongType = refl
fault_back ZeroDivisor = refl
fault_back Overflow = refl

abbrev pub fault_code : Coded Fault
fault_code = code_by (Bool × Bool) (coded× coded_bool coded_bool) of_fault to_fault fault_back

abbrev pub state_code : Coded State
state_code =
    code_by (List Part × (Trees × (ℕ × (ℕ × Option Fault)))) (coded× body_code (coded× trees_code (coded× coded_ℕ (coded× coded_ℕ (coded_option fault_code)))))
    (λ s. (s.goals, (s.tuple, (s.next, (s.steps, s.fault)))))
    (λ p. record { goals = p.0; tuple = p.1.0; next = p.1.1.0; steps = p.1.1.1.0; fault = p.1.1.1.1 }) (λ _. refl)

abbrev pub states_code : Coded (List State)
states_code = coded_list state_code
