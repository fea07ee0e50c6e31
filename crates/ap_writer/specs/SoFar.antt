-- How far a line is written.
use Rattle.std.specs.Prelude.{◌≡◌, ℕ, Bool, true, false, List, [], ◌++◌, drop}
use Rattle.ap_term.specs.declared.terms.Term.{Term}
use Rattle.ap_term.specs.Tree.{Trees}
use Rattle.ap_term.specs.TermView.{trees_of}
use Rattle.ap_term.specs.Vars.{add_all_vars}
use Rattle.ap_term.specs.Substitution.{instance_all}
use Rattle.ap_writer.specs.Text.{numbered_by}
use Rattle.ap_writer.specs.Line.{printed, printed_names, equations, behind_first, answer_line}

abbrev pub rest_of_line : List (List ℕ) → Bool → List (List ℕ) → Trees → List ℕ
rest_of_line atoms true names ts = equations atoms names ts
rest_of_line atoms false names ts = behind_first atoms names ts

-- the terms that are printed from place i on
abbrev pub printed_from : List (List ℕ) → List Term → ℕ → Trees
printed_from names tuple i = printed (drop i names) (trees_of (drop i tuple))

-- the variables of all that is printed
abbrev pub all_found : List (List ℕ) → List Term → List ℕ
all_found names tuple = add_all_vars (printed names (trees_of tuple)) []

-- before place i; `is_first` says that nothing is written yet
pub record IsSoFar (atoms names : List (List ℕ)) (tuple : List Term) (i : ℕ) (is_first : Bool) (found out : List ℕ) : Type 0 where
  pub variables : add_all_vars (printed_from names tuple i) found ≡ all_found names tuple
  pub text : out ++ rest_of_line atoms is_first (printed_names (drop i names)) (instance_all (numbered_by (all_found names tuple)) (printed_from names tuple i))
      ≡ answer_line atoms names (trees_of tuple)
