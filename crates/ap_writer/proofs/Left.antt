-- What is left to write, and to number, after a push.
use Rattle.std.proofs.Common.{◌≡◌, ◌≢◌, ℕ, ◌+◌, false, length, List, [], ◌∷◌, ◌++◌, refl, sym, ap, ◌∙◌, append_assoc, arith}
use Rattle.std.proofs.lemmas.List.{append-nil}
use Rattle.ap_term.specs.declared.terms.Term.{Term}
use Rattle.ap_term.specs.Tree.{node}
use Rattle.ap_term.specs.TermView.{tree_of, trees_of}
use Rattle.ap_term.specs.Blocks.{IsPrefix}
use Rattle.ap_term.proofs.Lists.{prefix-refl, prefix-trans}
use Rattle.ap_writer.specs.declared.text.Work.{Work}
use Rattle.ap_writer.specs.declared.text.Work.TheVariants.{Own, Tail, Rest, CloseList}
use Rattle.ap_writer.specs.Work.{is_cell, left, left_of, vars_left, vars_of, weight, weight_of}
use Rattle.ap_writer.proofs.Numbering.{add_vars-prefix, add_all_vars-prefix}

pub left-push : (names : List (List ℕ)) (found : List ℕ) (xs : List Work) (x : Work) → left names found (xs ++ x ∷ []) ≡ left_of names found x ++ left names found xs
left-push names found [] x = sym (append-nil (left_of names found x))
left-push names found (y ∷ xs) x =
    ap (λ l. l ++ left_of names found y) (left-push names found xs x) ∙ append_assoc (left_of names found x) (left names found xs) (left_of names found y)

pub left-push_two : (names : List (List ℕ)) (found : List ℕ) (xs : List Work) (below top : Work)
    → left names found ((xs ++ below ∷ []) ++ top ∷ []) ≡ left_of names found top ++ (left_of names found below ++ left names found xs)
left-push_two names found xs below top =
    left-push names found (xs ++ below ∷ []) top ∙ ap (λ l. left_of names found top ++ l) (left-push names found xs below)

pub vars_left-push : (xs : List Work) (x : Work) (found : List ℕ) → vars_left (xs ++ x ∷ []) found ≡ vars_left xs (vars_of x found)
vars_left-push [] x found = refl
vars_left-push (y ∷ xs) x found = ap (vars_of y) (vars_left-push xs x found)

pub vars_left-push_two : (xs : List Work) (below top : Work) (found : List ℕ) → vars_left ((xs ++ below ∷ []) ++ top ∷ []) found ≡ vars_left xs (vars_of below (vars_of top found))
vars_left-push_two xs below top found = vars_left-push (xs ++ below ∷ []) top found ∙ vars_left-push xs below (vars_of top found)

pub weight-push : (xs : List Work) (x : Work) → weight (xs ++ x ∷ []) ≡ weight_of x + weight xs
weight-push [] x = refl
weight-push (y ∷ xs) x = omega (arith, weight-push xs x)

pub weight-push_two : (xs : List Work) (below top : Work) → weight ((xs ++ below ∷ []) ++ top ∷ []) ≡ weight_of top + (weight_of below + weight xs)
weight-push_two xs below top = omega (arith, weight-push (xs ++ below ∷ []) top, weight-push xs below)

vars_of-prefix : (x : Work) (found : List ℕ) → IsPrefix found (vars_of x found)
vars_of-prefix (Own t) found = add_vars-prefix (tree_of t.now) found
vars_of-prefix (Tail t) found = add_vars-prefix (tree_of t.now) found
vars_of-prefix (Rest ts) found = add_all_vars-prefix (trees_of ts.now) found
vars_of-prefix CloseList found = prefix-refl found

-- what was found stays in front of all that is left to find
pub vars_left-prefix : (xs : List Work) (found : List ℕ) → IsPrefix found (vars_left xs found)
vars_left-prefix [] found = prefix-refl found
vars_left-prefix (x ∷ xs) found =
    prefix-trans found (vars_left xs found) (vars_of x (vars_left xs found)) (vars_left-prefix xs found) (vars_of-prefix x (vars_left xs found))

-- what was found stays in front of all that comes after, where `all` is what is found in the end
pub vars_left-later : (xs : List Work) (found all later : List ℕ) → vars_left xs found ≡ all → IsPrefix all later → IsPrefix found later
vars_left-later xs found all later e p =
    prefix-trans found (vars_left xs found) later (vars_left-prefix xs found) (p.0, ap (λ l. l ++ p.0) e ∙ p.1)

-- ---- a compound that doesn't have two arguments

pub not_two : (names : List (List ℕ)) (a : ℕ) (ts : List Term) → length ts ≢ 2 → is_cell names (node a (trees_of ts)) ≡ false
not_two names a [] h = refl
not_two names a (t ∷ []) h = refl
not_two names a (t ∷ u ∷ []) h = absurd (h refl)
not_two names a (t ∷ u ∷ v ∷ ts) h = refl
