-- How far a line is written.
use Rattle.std.specs.Prelude.{◌≡◌, ℕ, Bool, List, [], ◌++◌}
use Rattle.ap_term.specs.Tree.{Trees}
use Rattle.ap_term.specs.Vars.{add_all_vars}
use Rattle.ap_term.specs.Substitution.{instance_all}
use Rattle.ap_writer.specs.Text.{numbered_by}
use Rattle.ap_writer.specs.Line.{printed, printed_names, answer_line}
use Rattle.ap_writer.specs.SoFar.{rest_of_line}

-- the variables of all that is printed
abbrev pub all_found : List (List ℕ) → Trees → List ℕ
all_found names ts = add_all_vars (printed names ts) []

-- Of a line of these names and terms, `left` and `us` are still to be written; `is_first` says that nothing is written yet.
pub record IsSoFar (atoms names : List (List ℕ)) (ts : Trees) (left : List (List ℕ)) (us : Trees) (is_first : Bool) (found out : List ℕ) : Type 0 where
  pub variables : add_all_vars (printed left us) found ≡ all_found names ts
  pub text : out ++ rest_of_line atoms is_first (printed_names left) (instance_all (numbered_by (all_found names ts)) (printed left us))
      ≡ answer_line atoms names ts
