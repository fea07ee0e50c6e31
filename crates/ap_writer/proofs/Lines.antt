-- What lines and texts with numbered variables tell.
use Rattle.std.proofs.Common.{◌≡◌, ℕ, ◌+◌, ◌<◌, ◌≤◌, ◌^◌, Bool, true, false, nat_eq, if◌then◌else◌, List, [], ◌∷◌, ◌++◌, codes, length, refl, ap, sym, ◌∙◌, append_assoc, arith}
use Rattle.std.proofs.lemmas.List.{append_cancel_left}
use Rattle.ap_term.specs.Tree.{Tree, Trees, var, int, atom, node, none, more, count_trees}
use Rattle.ap_term.specs.Vars.{vars, add_all_vars}
use Rattle.ap_term.specs.Substitution.{instance, instance_all}
use Rattle.ap_term.specs.UpToNames.{place, renumbered, SameUpToNames}
use Rattle.ap_term.specs.AtomTable.{IsWithoutRepeats}
use Rattle.ap_term.proofs.TreeLists.{count_trees-instance_all}
use Rattle.ap_writer.specs.Text.{text, term_text, numbered_by}
use Rattle.ap_writer.specs.Line.{is_hidden, printed, printed_names, equation, equations, behind_first, answer_line}
use Rattle.ap_writer.specs.Writable.{IsWritable, AreWritable, IsWritableTuple}
use Rattle.ap_writer.proofs.Fronts.{is_behind}
use Rattle.ap_writer.proofs.Parted.{same_text}

-- ---- numbered variables

pub place-le : (found : List ℕ) (x : ℕ) → place found x ≤ length found + 1
place-le [] x = omega arith
place-le (y ∷ ys) x = go (nat_eq y x) (place-le ys x)
  where
    go : (b : Bool) → place ys x ≤ length ys + 1 → (if b then 1 else place ys x + 1) ≤ length (y ∷ ys) + 1
    go true h = omega arith
    go false h = omega arith

mutual
  writable-instance : (names : List (List ℕ)) (f : ℕ → Tree) (t : Tree) → ((x : ℕ) → IsWritable names (f x)) → IsWritable names t → IsWritable names (instance f t)
  writable-instance names f (var x) h k = h x
  writable-instance names f (int z) h k = k
  writable-instance names f (atom a) h k = k
  writable-instance names f (node a ts) h k = (k.0, writable-instance_all names f ts h k.1)

  writable-instance_all : (names : List (List ℕ)) (f : ℕ → Tree) (ts : Trees) → ((x : ℕ) → IsWritable names (f x)) → AreWritable names ts → AreWritable names (instance_all f ts)
  writable-instance_all names f none h k = tt
  writable-instance_all names f (more t ts) h k = (writable-instance names f t h k.0, writable-instance_all names f ts h k.1)

numbers-below : (found : List ℕ) (x : ℕ) → length found < 2 ^ 63 → place found x < 2 ^ 64
numbers-below found x h = omega (arith, place-le found x)

pub same_term : (names : List (List ℕ)) (t u : Tree) → IsWithoutRepeats names → IsWritable names t → IsWritable names u → length (vars t) < 2 ^ 63 → length (vars u) < 2 ^ 63
    → term_text names t ≡ term_text names u → SameUpToNames (more t none) (more u none)
same_term names t u d h k p q e =
    let w : IsWritable names (instance (numbered_by (vars t)) t) = writable-instance names (numbered_by (vars t)) t (λ x. numbers-below (vars t) x p) h in
    let v : IsWritable names (instance (numbered_by (vars u)) u) = writable-instance names (numbered_by (vars u)) u (λ x. numbers-below (vars u) x q) k in
    ap (λ s. more s none) (same_text names (instance (numbered_by (vars t)) t) (instance (numbered_by (vars u)) u) [] [] d w v refl refl (ap (λ l. l ++ []) e)).0

-- ---- equations

equation-split : (atoms : List (List ℕ)) (name : List ℕ) (t : Tree) (rest : List ℕ) → equation atoms name t ++ rest ≡ name ++ (codes " = " ++ (text atoms t ++ rest))
equation-split atoms name t rest = append_assoc name (codes " = " ++ text atoms t) rest

behind-first : (atoms names : List (List ℕ)) (ts : Trees) → is_behind (behind_first atoms names ts) ≡ true
behind-first atoms [] ts = refl
behind-first atoms (name ∷ names) none = refl
behind-first atoms (name ∷ names) (more t ts) = refl

same-equation : (atoms names : List (List ℕ)) (name : List ℕ) (t u : Tree) (ts us : Trees) → IsWithoutRepeats atoms → IsWritable atoms t → IsWritable atoms u
    → equation atoms name t ++ behind_first atoms names ts ≡ equation atoms name u ++ behind_first atoms names us → (t ≡ u) × (behind_first atoms names ts ≡ behind_first atoms names us)
same-equation atoms names name t u ts us d h k e =
    let f : name ++ (codes " = " ++ (text atoms t ++ behind_first atoms names ts)) ≡ name ++ (codes " = " ++ (text atoms u ++ behind_first atoms names us)) =
    sym (equation-split atoms name t (behind_first atoms names ts)) ∙ e ∙ equation-split atoms name u (behind_first atoms names us) in
    let g = append_cancel_left name (codes " = " ++ (text atoms t ++ behind_first atoms names ts)) (codes " = " ++ (text atoms u ++ behind_first atoms names us)) f in
    same_text atoms t u (behind_first atoms names ts) (behind_first atoms names us) d h k (behind-first atoms names ts) (behind-first atoms names us)
    (append_cancel_left (codes " = ") (text atoms t ++ behind_first atoms names ts) (text atoms u ++ behind_first atoms names us) g)

fewer : (a b : ℕ) → a + 1 ≡ b + 1 → a ≡ b
fewer a b e = omega arith

same-behind : (atoms names : List (List ℕ)) (ts us : Trees) → IsWithoutRepeats atoms → AreWritable atoms ts → AreWritable atoms us → count_trees ts ≡ length names → count_trees us ≡ length names
    → behind_first atoms names ts ≡ behind_first atoms names us → ts ≡ us
same-behind atoms [] none none d h k p q e = refl
same-behind atoms [] none (more u us) d h k p q e = absurd (omega arith)
same-behind atoms [] (more t ts) us d h k p q e = absurd (omega arith)
same-behind atoms (name ∷ names) none us d h k p q e = absurd (omega arith)
same-behind atoms (name ∷ names) (more t ts) none d h k p q e = absurd (omega arith)
same-behind atoms (name ∷ names) (more t ts) (more u us) d h k p q e =
    let f = same-equation atoms names name t u ts us d h.0 k.0
    (append_cancel_left (codes ", ") (equation atoms name t ++ behind_first atoms names ts) (equation atoms name u ++ behind_first atoms names us) e) in
    ap (λ s. more s ts) f.0 ∙ ap (more u) (same-behind atoms names ts us d h.1 k.1 (omega arith) (omega arith) f.1)

same-equations : (atoms names : List (List ℕ)) (ts us : Trees) → IsWithoutRepeats atoms → AreWritable atoms ts → AreWritable atoms us → count_trees ts ≡ length names → count_trees us ≡ length names
    → equations atoms names ts ≡ equations atoms names us → ts ≡ us
same-equations atoms [] none none d h k p q e = refl
same-equations atoms [] none (more u us) d h k p q e = absurd (omega arith)
same-equations atoms [] (more t ts) us d h k p q e = absurd (omega arith)
same-equations atoms (name ∷ names) none us d h k p q e = absurd (omega arith)
same-equations atoms (name ∷ names) (more t ts) none d h k p q e = absurd (omega arith)
same-equations atoms (name ∷ names) (more t ts) (more u us) d h k p q e =
    let f = same-equation atoms names name t u ts us d h.0 k.0 e in
    ap (λ s. more s ts) f.0 ∙ ap (more u) (same-behind atoms names ts us d h.1 k.1 (omega arith) (omega arith) f.1)

-- ---- lines

printed-count : (names : List (List ℕ)) (ts : Trees) → count_trees ts ≡ length names → count_trees (printed names ts) ≡ length (printed_names names)
printed-count [] ts h = refl
printed-count (name ∷ names) none h = absurd (omega arith)
printed-count (name ∷ names) (more t ts) h = go (is_hidden name) (printed-count names ts (omega arith))
  where
    go : (b : Bool) → count_trees (printed names ts) ≡ length (printed_names names)
        → count_trees (if b then printed names ts else more t (printed names ts)) ≡ length (if b then printed_names names else name ∷ printed_names names)
    go true ih = ih
    go false ih = omega (arith, ih)

shown-tuple : (atoms names : List (List ℕ)) (ts : Trees) → IsWritableTuple atoms names ts
    → AreWritable atoms (renumbered (printed names ts)) × (count_trees (renumbered (printed names ts)) ≡ length (printed_names names))
shown-tuple atoms names ts h =
    let found : List ℕ = add_all_vars (printed names ts) [] in (
      writable-instance_all atoms (λ x. var (place found x)) (printed names ts) (λ x. numbers-below found x h.few) h.writable,
      count_trees-instance_all (λ x. var (place found x)) (printed names ts) ∙ printed-count names ts h.as_long,
    )

pub same_line : (atoms names : List (List ℕ)) (ts us : Trees) → IsWithoutRepeats atoms → IsWritableTuple atoms names ts → IsWritableTuple atoms names us
    → answer_line atoms names ts ≡ answer_line atoms names us → SameUpToNames (printed names ts) (printed names us)
same_line atoms names ts us d h k e =
    let p = shown-tuple atoms names ts h in
    let q = shown-tuple atoms names us k in
    same-equations atoms (printed_names names) (renumbered (printed names ts)) (renumbered (printed names us)) d p.0 q.0 p.1 q.1 e
