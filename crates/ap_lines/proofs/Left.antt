-- What is left to write, and to number, after a push.
use Rattle.std.proofs.Common.{◌≡◌, ℕ, ◌+◌, List, [], ◌∷◌, ◌++◌, refl, sym, ap, ◌∙◌, append_assoc, arith}
use Rattle.std.proofs.lemmas.List.{append-nil}
use Rattle.ap_term.specs.Tree.{Tree}
use Rattle.ap_term.specs.Blocks.{IsPrefix}
use Rattle.ap_term.proofs.Lists.{prefix-refl, prefix-trans}
use Rattle.ap_cells.specs.Trees.{tree_at, span}
use Rattle.ap_writer.proofs.Numbering.{add_vars-prefix, add_all_vars-prefix}
use Rattle.ap_lines.specs.declared.text.Work.{Work}
use Rattle.ap_lines.specs.declared.text.Work.TheVariants.{Own, Tail, Rest, CloseList}
use Rattle.ap_lines.specs.Work.{left, left_of, vars_left, vars_of, weight, weight_of}

module _ (ts : List Tree) where
  pub left-push : (names : List (List ℕ)) (found : List ℕ) (xs : List Work) (x : Work) → left names found ts (xs ++ x ∷ []) ≡ left_of names found ts x ++ left names found ts xs
  left-push names found [] x = sym (append-nil (left_of names found ts x))
  left-push names found (y ∷ xs) x =
      ap (λ l. l ++ left_of names found ts y) (left-push names found xs x) ∙ append_assoc (left_of names found ts x) (left names found ts xs) (left_of names found ts y)

  pub vars_left-push : (xs : List Work) (x : Work) (found : List ℕ) → vars_left ts (xs ++ x ∷ []) found ≡ vars_left ts xs (vars_of ts x found)
  vars_left-push [] x found = refl
  vars_left-push (y ∷ xs) x found = ap (vars_of ts y) (vars_left-push xs x found)

  pub weight-push : (xs : List Work) (x : Work) → weight ts (xs ++ x ∷ []) ≡ weight_of ts x + weight ts xs
  weight-push [] x = refl
  weight-push (y ∷ xs) x = omega (arith, weight-push xs x)

  vars_of-prefix : (x : Work) (found : List ℕ) → IsPrefix found (vars_of ts x found)
  vars_of-prefix (Own p) found = add_vars-prefix (tree_at ts p) found
  vars_of-prefix (Tail p) found = add_vars-prefix (tree_at ts p) found
  vars_of-prefix (Rest p n) found = add_all_vars-prefix (span ts p n) found
  vars_of-prefix CloseList found = prefix-refl found

  -- what was found stays in front of all that is left to find
  vars_left-prefix : (xs : List Work) (found : List ℕ) → IsPrefix found (vars_left ts xs found)
  vars_left-prefix [] found = prefix-refl found
  vars_left-prefix (x ∷ xs) found =
      prefix-trans found (vars_left ts xs found) (vars_of ts x (vars_left ts xs found)) (vars_left-prefix xs found) (vars_of-prefix x (vars_left ts xs found))

  -- what was found stays in front of all that comes after, where `all` is what is found in the end
  pub vars_left-later : (xs : List Work) (found all later : List ℕ) → vars_left ts xs found ≡ all → IsPrefix all later → IsPrefix found later
  vars_left-later xs found all later e p =
      prefix-trans found (vars_left ts xs found) later (vars_left-prefix xs found) (p.0, ap (λ l. l ++ p.0) e ∙ p.1)

-- the second one is written first
pub left-push_two : (names : List (List ℕ)) (found : List ℕ) (ts : List Tree) (xs : List Work) (below top : Work)
    → left names found ts ((xs ++ below ∷ []) ++ top ∷ []) ≡ left_of names found ts top ++ (left_of names found ts below ++ left names found ts xs)
left-push_two names found ts xs below top =
    left-push ts names found (xs ++ below ∷ []) top ∙ ap (λ l. left_of names found ts top ++ l) (left-push ts names found xs below)

pub vars_left-push_two : (ts : List Tree) (xs : List Work) (below top : Work) (found : List ℕ)
    → vars_left ts ((xs ++ below ∷ []) ++ top ∷ []) found ≡ vars_left ts xs (vars_of ts below (vars_of ts top found))
vars_left-push_two ts xs below top found = vars_left-push ts (xs ++ below ∷ []) top found ∙ vars_left-push ts xs below (vars_of ts top found)

pub weight-push_two : (ts : List Tree) (xs : List Work) (below top : Work) → weight ts ((xs ++ below ∷ []) ++ top ∷ []) ≡ weight_of ts top + (weight_of ts below + weight ts xs)
weight-push_two ts xs below top = omega (arith, weight-push ts (xs ++ below ∷ []) top, weight-push ts xs below)
