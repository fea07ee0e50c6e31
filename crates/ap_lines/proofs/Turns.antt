-- One turn of a loop over a query's variables.
use Rattle.std.proofs.Common.{◌≡◌, ℕ, ◌+◌, Bool, true, false, if◌then◌else◌, List, ◌∷◌, ◌++◌, ap, sym, ◌∙◌, append_assoc}
use Rattle.ap_term.specs.Tree.{Tree, Trees, more}
use Rattle.ap_term.specs.Vars.{add_vars, add_all_vars}
use Rattle.ap_term.specs.Substitution.{instance, instance_all}
use Rattle.ap_term.specs.Blocks.{IsPrefix}
use Rattle.ap_writer.specs.Text.{numbered_by}
use Rattle.ap_writer.specs.Line.{is_hidden, printed, printed_names, equation}
use Rattle.ap_writer.specs.SoFar.{rest_of_line}
use Rattle.ap_writer.proofs.Numbering.{add_all_vars-prefix}
use Rattle.ap_writer.proofs.Turns.{lead, behind, printed-hidden, rest_of_line-shown}
use Rattle.ap_lines.specs.SoFar.{all_found, IsSoFar}

-- ---- a name that isn't printed

printed_names-hidden : (name : List ℕ) (names : List (List ℕ)) → is_hidden name ≡ true → printed_names (name ∷ names) ≡ printed_names names
printed_names-hidden name names h = ap (λ b. if b then printed_names names else name ∷ printed_names names) h

-- ---- a name that is printed

printed_names-shown : (name : List ℕ) (names : List (List ℕ)) → is_hidden name ≡ false → printed_names (name ∷ names) ≡ name ∷ printed_names names
printed_names-shown name names h = ap (λ b. if b then printed_names names else name ∷ printed_names names) h

printed-shown : (name : List ℕ) (names : List (List ℕ)) (t : Tree) (ts : Trees) → is_hidden name ≡ false → printed (name ∷ names) (more t ts) ≡ more t (printed names ts)
printed-shown name names t ts h = ap (λ b. if b then printed names ts else more t (printed names ts)) h

module _ (atoms names : List (List ℕ)) (ts : Trees) where
  pub turn-hidden : (left : List (List ℕ)) (us : Trees) (is_first : Bool) (found out name : List ℕ) → IsSoFar atoms names ts (name ∷ left) us is_first found out
      → is_hidden name ≡ true → IsSoFar atoms names ts left (behind us) is_first found out
  turn-hidden left us is_first found out name so h =
      let terms = printed-hidden name left us h in
      let shown = printed_names-hidden name left h in
      let all = all_found names ts in
      record {
        variables = ap (λ vs. add_all_vars vs found) (sym terms) ∙ so.variables;
        text =
            ap (λ ns. out ++ rest_of_line atoms is_first ns (instance_all (numbered_by all) (printed left (behind us)))) (sym shown)
            ∙ ap (λ vs. out ++ rest_of_line atoms is_first (printed_names (name ∷ left)) (instance_all (numbered_by all) vs)) (sym terms)
            ∙ so.text;
      }

  pub turn-shown : (left : List (List ℕ)) (us : Trees) (is_first : Bool) (found new out parted written name : List ℕ) (t : Tree) → IsSoFar atoms names ts (name ∷ left) (more t us) is_first found out
      → is_hidden name ≡ false → parted ≡ out ++ lead is_first → new ≡ add_vars t found
      → ((later : List ℕ) → IsPrefix new later → written ≡ parted ++ equation atoms name (instance (numbered_by later) t))
      → IsSoFar atoms names ts left us false new written
  turn-shown left us is_first found new out parted written name t so h p n w =
      let terms = printed-shown name left t us h in
      let shown = printed_names-shown name left h in
      let all = all_found names ts in
      let rest = printed left us in
      let variables : add_all_vars rest new ≡ all = ap (add_all_vars rest) n ∙ ap (λ vs. add_all_vars vs found) (sym terms) ∙ so.variables in
      let before = add_all_vars-prefix rest new in
      let front : IsPrefix new all = (before.0, before.1 ∙ variables) in
      let this = equation atoms name (instance (numbered_by all) t) in
      let after = rest_of_line atoms false (printed_names left) (instance_all (numbered_by all) rest) in
      record {
        variables = variables;
        text =
            ap (λ l. l ++ after) (w all front ∙ ap (λ l. l ++ this) p)
            ∙ append_assoc (out ++ lead is_first) this after
            ∙ append_assoc out (lead is_first) (this ++ after)
            ∙ ap (λ l. out ++ l) (sym (rest_of_line-shown atoms is_first name (printed_names left) (instance (numbered_by all) t) (instance_all (numbered_by all) rest)))
            ∙ ap (λ ns. out ++ rest_of_line atoms is_first ns (instance_all (numbered_by all) (more t rest))) (sym shown)
            ∙ ap (λ vs. out ++ rest_of_line atoms is_first (printed_names (name ∷ left)) (instance_all (numbered_by all) vs)) (sym terms)
            ∙ so.text;
      }
