-- One turn of the loop over a query's variables.
use Rattle.std.proofs.Common.{◌≡◌, ℕ, ◌+◌, ◌<◌, Bool, true, false, if◌then◌else◌, List, [], ◌∷◌, ◌++◌, length, get_or, drop, codes, refl, ap, sym, ◌∙◌, append_assoc}
use Rattle.std.proofs.lemmas.List.{drop-drop}
use Rattle.ap_term.specs.declared.terms.Term.{Term}
use Rattle.ap_term.specs.Tree.{Tree, Trees, none, more}
use Rattle.ap_term.specs.TermView.{tree_of, trees_of}
use Rattle.ap_term.specs.Vars.{add_vars, add_all_vars}
use Rattle.ap_term.specs.Substitution.{instance, instance_all}
use Rattle.ap_term.specs.Blocks.{IsPrefix}
use Rattle.ap_term.proofs.TermLists.{trees_of-drop_more}
use Rattle.ap_term.proofs.Lists.{drop-read}
use Rattle.ap_writer.specs.Text.{numbered_by}
use Rattle.ap_writer.specs.Line.{is_hidden, printed, printed_names, equation, answer_line}
use Rattle.ap_writer.specs.SoFar.{rest_of_line, printed_from, all_found, IsSoFar}
use Rattle.ap_writer.proofs.Numbering.{add_all_vars-prefix}

-- ---- a name that isn't printed

abbrev pub behind : Trees → Trees
behind none = none
behind (more t ts) = ts

behind-all : (ts : List Term) → behind (trees_of ts) ≡ trees_of (drop 1 ts)
behind-all [] = refl
behind-all (t ∷ ts) = refl

behind-drop : (ts : List Term) (i : ℕ) → behind (trees_of (drop i ts)) ≡ trees_of (drop (i + 1) ts)
behind-drop ts i = behind-all (drop i ts) ∙ ap trees_of (drop-drop 1 i ts)

pub printed-none : (names : List (List ℕ)) → printed names none ≡ none
printed-none [] = refl
printed-none (name ∷ names) = refl

pub printed-hidden : (name : List ℕ) (names : List (List ℕ)) (ts : Trees) → is_hidden name ≡ true → printed (name ∷ names) ts ≡ printed names (behind ts)
printed-hidden name names none h = sym (printed-none names)
printed-hidden name names (more t ts) h = ap (λ b. if b then printed names ts else more t (printed names ts)) h

printed_from-hidden : (names : List (List ℕ)) (tuple : List Term) (i : ℕ) (name : List ℕ) → drop i names ≡ name ∷ drop (i + 1) names → is_hidden name ≡ true
    → printed_from names tuple i ≡ printed_from names tuple (i + 1)
printed_from-hidden names tuple i name e h =
    ap (λ ns. printed ns (trees_of (drop i tuple))) e
    ∙ printed-hidden name (drop (i + 1) names) (trees_of (drop i tuple)) h
    ∙ ap (printed (drop (i + 1) names)) (behind-drop tuple i)

printed_names-hidden : (names : List (List ℕ)) (i : ℕ) (name : List ℕ) → drop i names ≡ name ∷ drop (i + 1) names → is_hidden name ≡ true
    → printed_names (drop i names) ≡ printed_names (drop (i + 1) names)
printed_names-hidden names i name e h =
    ap printed_names e ∙ ap (λ b. if b then printed_names (drop (i + 1) names) else name ∷ printed_names (drop (i + 1) names)) h

-- ---- a name that is printed

printed_from-shown : (names : List (List ℕ)) (tuple : List Term) (i : ℕ) (name : List ℕ) (t : Term) → drop i names ≡ name ∷ drop (i + 1) names → is_hidden name ≡ false
    → i < length tuple → t ≡ get_or tuple i t → printed_from names tuple i ≡ more (tree_of t) (printed_from names tuple (i + 1))
printed_from-shown names tuple i name t e h lt is =
    ap (λ ns. printed ns (trees_of (drop i tuple))) e
    ∙ ap (printed (name ∷ drop (i + 1) names)) (trees_of-drop_more tuple i t lt is)
    ∙ ap (λ b. if b then printed_from names tuple (i + 1) else more (tree_of t) (printed_from names tuple (i + 1))) h

printed_names-shown : (names : List (List ℕ)) (i : ℕ) (name : List ℕ) → drop i names ≡ name ∷ drop (i + 1) names → is_hidden name ≡ false
    → printed_names (drop i names) ≡ name ∷ printed_names (drop (i + 1) names)
printed_names-shown names i name e h =
    ap printed_names e ∙ ap (λ b. if b then printed_names (drop (i + 1) names) else name ∷ printed_names (drop (i + 1) names)) h

-- what parts an equation from the one before
abbrev pub lead : Bool → List ℕ
lead true = []
lead false = codes ", "

pub rest_of_line-shown : (atoms : List (List ℕ)) (is_first : Bool) (name : List ℕ) (names : List (List ℕ)) (t : Tree) (ts : Trees)
    → rest_of_line atoms is_first (name ∷ names) (more t ts) ≡ lead is_first ++ (equation atoms name t ++ rest_of_line atoms false names ts)
rest_of_line-shown atoms true name names t ts = refl
rest_of_line-shown atoms false name names t ts = refl

module _ (atoms names : List (List ℕ)) (tuple : List Term) where
  pub turn-start : IsSoFar atoms names tuple 0 true [] []
  turn-start = record { variables = refl; text = refl }

  pub turn-hidden : (i : ℕ) (is_first : Bool) (found out name : List ℕ) → IsSoFar atoms names tuple i is_first found out → i < length names → name ≡ get_or names i name → is_hidden name ≡ true
      → IsSoFar atoms names tuple (i + 1) is_first found out
  turn-hidden i is_first found out name so lt is h =
      let e = drop-read names i name lt is in
      let terms = printed_from-hidden names tuple i name e h in
      let found_names = printed_names-hidden names i name e h in
      let all = all_found names tuple in
      record {
        variables = ap (λ ts. add_all_vars ts found) (sym terms) ∙ so.variables;
        text =
            ap (λ ns. out ++ rest_of_line atoms is_first ns (instance_all (numbered_by all) (printed_from names tuple (i + 1)))) (sym found_names)
            ∙ ap (λ ts. out ++ rest_of_line atoms is_first (printed_names (drop i names)) (instance_all (numbered_by all) ts)) (sym terms)
            ∙ so.text;
      }

  pub turn-shown : (i : ℕ) (is_first : Bool) (found new out parted written name : List ℕ) (t : Term) → IsSoFar atoms names tuple i is_first found out
      → i < length names → name ≡ get_or names i name → is_hidden name ≡ false → i < length tuple → t ≡ get_or tuple i t
      → parted ≡ out ++ lead is_first → new ≡ add_vars (tree_of t) found
      → ((later : List ℕ) → IsPrefix new later → written ≡ parted ++ equation atoms name (instance (numbered_by later) (tree_of t)))
      → IsSoFar atoms names tuple (i + 1) false new written
  turn-shown i is_first found new out parted written name t so lt is h within is_t p n w =
      let e = drop-read names i name lt is in
      let terms = printed_from-shown names tuple i name t e h within is_t in
      let found_names = printed_names-shown names i name e h in
      let all = all_found names tuple in
      let rest = printed_from names tuple (i + 1) in
      let variables : add_all_vars rest new ≡ all = ap (add_all_vars rest) n ∙ ap (λ ts. add_all_vars ts found) (sym terms) ∙ so.variables in
      let before = add_all_vars-prefix rest new in
      let front : IsPrefix new all = (before.0, before.1 ∙ variables) in
      let this = equation atoms name (instance (numbered_by all) (tree_of t)) in
      let after = rest_of_line atoms false (printed_names (drop (i + 1) names)) (instance_all (numbered_by all) rest) in
      record {
        variables = variables;
        text =
            ap (λ l. l ++ after) (w all front ∙ ap (λ l. l ++ this) p)
            ∙ append_assoc (out ++ lead is_first) this after
            ∙ append_assoc out (lead is_first) (this ++ after)
            ∙ ap (λ l. out ++ l) (sym (rest_of_line-shown atoms is_first name (printed_names (drop (i + 1) names)) (instance (numbered_by all) (tree_of t)) (instance_all (numbered_by all) rest)))
            ∙ ap (λ ns. out ++ rest_of_line atoms is_first ns (instance_all (numbered_by all) (more (tree_of t) rest))) (sym found_names)
            ∙ ap (λ ts. out ++ rest_of_line atoms is_first (printed_names (drop i names)) (instance_all (numbered_by all) ts)) (sym terms)
            ∙ so.text;
      }

  pub turn-end : (i : ℕ) (is_first : Bool) (found out : List ℕ) → IsSoFar atoms names tuple i is_first found out → drop i names ≡ []
      → out ++ rest_of_line atoms is_first [] none ≡ answer_line atoms names (trees_of tuple)
  turn-end i is_first found out so e =
      ap (λ ns. out ++ rest_of_line atoms is_first (printed_names ns) (instance_all (numbered_by (all_found names tuple)) (printed ns (trees_of (drop i tuple))))) (sym e) ∙ so.text
