-- Compound terms whose arguments are those of places.
use Rattle.std.proofs.Common.{◌≡◌, ℕ, zero, suc, ◌+◌, ◌-◌, ◌<◌, Bool, true, false, ◌&&◌, if◌then◌else◌, nat_eq, List, [], ◌∷◌, ◌++◌, length, get_or, drop, codes, bytes_eq, refl, ap, sym, subst, append_assoc}
use Rattle.std.proofs.lemmas.List.{drop_more}
use Rattle.std.proofs.lemmas.Slice.Eq.{bytes_eq-Decides}
use Rattle.ap_term.specs.Tree.{Tree, node, more}
use Rattle.ap_term.specs.Tuples.{tuple_under}
use Rattle.ap_term.specs.Substitution.{instance_all}
use Rattle.ap_cells.specs.Trees.{tree_at, span}
use Rattle.ap_cells.proofs.Walks.{span-first}
use Rattle.ap_writer.specs.Quoted.{name_text}
use Rattle.ap_writer.specs.Text.{all_shown, arguments, behind_commas, by_itself, cell, compound, numbered_by, name_at, shown_atom}
use Rattle.ap_writer.specs.Work.{shown_by, is_cell}
use Rattle.ap_lines.specs.Work.{called}

-- with two arguments and the name `.` it is an element of a list
pub element-not : (names : List (List ℕ)) (ts : List Tree) (a p n : ℕ) → (nat_eq n 2 && bytes_eq (name_at names a) (codes ".")) ≡ false
    → is_cell names (node a (span ts p n)) ≡ false
element-not names ts a p zero h = refl
element-not names ts a p (suc zero) h = refl
element-not names ts a p (suc (suc zero)) h = h
element-not names ts a p (suc (suc (suc n))) h = refl

-- else it is written as a call
pub called-is : (names : List (List ℕ)) (found : List ℕ) (ts : List Tree) (a p n : ℕ) → is_cell names (node a (span ts p n)) ≡ false
    → (shown_by names found (node a (span ts p n))).own ≡ called names found ts a p n
called-is names found ts a p zero h = refl
called-is names found ts a p (suc zero) h = refl
called-is names found ts a p (suc (suc zero)) h =
    let x = shown_by names found (tree_at ts p) in
    let y = shown_by names found (tree_at ts (p + 1)) in
    ap (λ b. (if b then cell x y else compound (name_at names a) (x ∷ y ∷ [])).own) h
called-is names found ts a p (suc (suc (suc n))) h = refl

-- the arguments of n places, the first of which is written next
pub arguments-first : (names : List (List ℕ)) (found : List ℕ) (ts : List Tree) (p n : ℕ) → 0 < n
    → arguments (all_shown names (instance_all (numbered_by found) (span ts p n)))
    ≡ (shown_by names found (tree_at ts p)).own ++ behind_commas (all_shown names (instance_all (numbered_by found) (span ts (p + 1) (n - 1))))
arguments-first names found ts p n h = ap (λ us. arguments (all_shown names (instance_all (numbered_by found) us))) (span-first ts p n h)

pub rest-first : (names : List (List ℕ)) (found : List ℕ) (ts : List Tree) (p n : ℕ) → 0 < n
    → behind_commas (all_shown names (instance_all (numbered_by found) (span ts p n)))
    ≡ codes "," ++ ((shown_by names found (tree_at ts p)).own ++ behind_commas (all_shown names (instance_all (numbered_by found) (span ts (p + 1) (n - 1)))))
rest-first names found ts p n h = ap (λ us. behind_commas (all_shown names (instance_all (numbered_by found) us))) (span-first ts p n h)

pub regroup-call : (out name x y l : List ℕ) → ((out ++ name) ++ codes "(") ++ (x ++ (y ++ l)) ≡ out ++ ((name ++ (codes "(" ++ (x ++ y))) ++ l)
regroup-call out name x y l = simp append_assoc

pub regroup-rest : (out x y l : List ℕ) → (out ++ codes ",") ++ (x ++ (y ++ l)) ≡ out ++ ((codes "," ++ (x ++ y)) ++ l)
regroup-rest out x y l = simp append_assoc

-- the empty list is written as its name
pub atom-own : (name : List ℕ) → (shown_atom name).own ≡ name_text name
atom-own name = go (bytes_eq name (codes "[]")) refl
  where
    go : (b : Bool) → bytes_eq name (codes "[]") ≡ b → (if b then record { own = codes "[]"; tail = codes "]" } else by_itself (name_text name)).own ≡ name_text name
    go true e = subst (λ n. codes "[]" ≡ name_text n) (sym ((bytes_eq-Decides name (codes "[]")).0 e)) refl
    go false e = refl

-- ---- tuples

pub tuple_under-drop_more : (k : ℕ → Tree) (rs : List ℕ) (i : ℕ) → i < length rs → tuple_under k (drop i rs) ≡ more (k (get_or rs i 0)) (tuple_under k (drop (i + 1) rs))
tuple_under-drop_more k rs i l = ap (tuple_under k) (drop_more rs i 0 l)
