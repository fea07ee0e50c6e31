-- Cells that are pushed behind others: the old places keep their trees, and where no old variable stands in a new cell, a
-- structure of the new ones can be bound to any of these.
use Rattle.std.proofs.Common.{◌≡◌, ℕ, ◌+◌, ◌<◌, ◌≤◌, ◌==◌, Bool, true, false, List, [], ◌∷◌, ◌++◌, length, inl, inr, refl, sym, ap, ◌∙◌, subst, arith}
use Rattle.std.proofs.lemmas.Bool.{cases_lt}
use Rattle.std.proofs.lemmas.Bool.Decides.{Decides-eqb}
use Rattle.ap_term.specs.Tree.{Tree, var, atom}
use Rattle.ap_term.specs.Vars.{occurs, occurs_all}
use Rattle.ap_term.specs.Substitution.{instance}
use Rattle.ap_cells.specs.declared.cells.Raw.{Raw}
use Rattle.ap_cells.specs.declared.cells.Cell.{Cell}
use Rattle.ap_cells.specs.declared.cells.Cell.TheVariants.{Free, Same, Int, Atom, Node}
use Rattle.ap_cells.specs.Raws.{raw_of}
use Rattle.ap_cells.specs.Trees.{tree_at, trees, span, step}
use Rattle.ap_match.specs.Fits.{Fits, cell_tree, Answered}
use Rattle.ap_match.proofs.Maps.{pushed-below, pushed-last}
use Rattle.ap_match.proofs.Matches.{Becomes-asked, span-absent}
use Rattle.ap_steps.specs.Moves.{constant_of}
use Rattle.ap_steps.specs.Arguments.{KeepTrees, StandApart}

-- a cell more
module _ (old new : List Raw) (t : Tree) (pushed : trees new ≡ trees old ++ t ∷ []) where
  pub push-keeps : KeepTrees old new
  push-keeps p h = pushed-below old new t pushed p h

  pub push-apart : length new ≡ length old + 1 → ((x : ℕ) → x < length old → occurs x t ≡ false) → StandApart old new
  push-apart len absent x p inside above below =
      let q : length old ≡ p = omega arith in
      subst (λ i. occurs x (tree_at (trees new) i) ≡ false) q (ap (occurs x) (pushed-last old new t pushed) ∙ absent x inside)

-- a variable of a new place is none of the old ones
pub own-apart : (x n : ℕ) → x < n → occurs x (var n) ≡ false
own-apart x n l = go (x == n) refl
  where
    go : (b : Bool) → (x == n) ≡ b → (x == n) ≡ false
    go true e = absurd (let q : x ≡ n = (Decides-eqb x n).0 e in omega arith)
    go false e = e

-- a constant has no variable
pub constant-apart : (ts : List Tree) (x n : ℕ) (c : Cell) → ((k : ℕ → Tree) → cell_tree k n (raw_of c) ≡ constant_of c) → occurs x (step ts n (raw_of c)) ≡ false
constant-apart ts x n Free e = absurd (let q : var 0 ≡ atom 0 = e (λ i. var 0) in cc)
constant-apart ts x n (Same j) e = absurd (let q : var 0 ≡ atom 0 = e (λ i. var 0) in cc)
constant-apart ts x n (Int z) e = refl
constant-apart ts x n (Atom a) e = refl
constant-apart ts x n (Node a p m) e = absurd (let q = e (λ i. var 0) in cc)

pub KeepTrees-trans : (cs ds es : List Raw) → length cs ≤ length ds → KeepTrees cs ds → KeepTrees ds es → KeepTrees cs es
KeepTrees-trans cs ds es l a b p h = b p (omega arith) ∙ a p h

pub StandApart-trans : (cs ds es : List Raw) → length cs ≤ length ds → KeepTrees ds es → StandApart cs ds → StandApart ds es → StandApart cs es
StandApart-trans cs ds es l keep a b x p inside above below =
    elim (cases_lt p (length ds)) [
      | inl q ↦ ap (occurs x) (keep p q) ∙ a x p inside above q
      | inr q ↦ b x p (omega arith) q below
    ]

-- no old variable stands in a structure of the new cells
pub apart-absent : (cs ds : List Raw) → StandApart cs ds → (x first n : ℕ) → x < length cs → first ≡ length cs → first + n ≤ length ds → occurs_all x (span (trees ds) first n) ≡ false
apart-absent cs ds apart x first n inside is_first all = span-absent (trees ds) x first n (λ i l. apart x (first + i) inside (omega arith) (omega arith))

-- what is asked of a variable is asked of each place that had its tree before the cells were pushed
pub asked-of : (cs ds es : List Raw) (x p : ℕ) → KeepTrees cs ds → length cs ≤ length ds → x < length cs → p < length cs → tree_at (trees cs) x ≡ var x → tree_at (trees cs) p ≡ var x → (T : (ℕ → Tree) → Tree) (b : Bool)
    → Answered ds es (λ k. k x ≡ T k) b → Answered ds es (λ k. k p ≡ T k) b
asked-of cs ds es x p keep longer in_x in_p free same T b = go b
  where
    at : (k : ℕ → Tree) → Fits ds k → k p ≡ k x
    at k h =
        let e : tree_at (trees ds) p ≡ tree_at (trees ds) x = keep p in_p ∙ same ∙ sym (keep x in_x ∙ free) in
        h.1 p (omega arith) ∙ ap (instance h.0) e ∙ sym (h.1 x (omega arith))

    go : (b : Bool) → Answered ds es (λ k. k x ≡ T k) b → Answered ds es (λ k. k p ≡ T k) b
    go true becomes = Becomes-asked ds es (λ k. k x ≡ T k) (λ k. k p ≡ T k) (λ k. Unit {0}) (λ k h e. at k h ∙ e) (λ k h e. sym (at k h) ∙ e) becomes
    go false never = λ k h e. never k h (sym (at k h) ∙ e)
