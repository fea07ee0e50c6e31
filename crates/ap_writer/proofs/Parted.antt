-- A term's marks stand in an order in which they can be told apart.
use Rattle.std.proofs.Common.{◌≡◌, ℕ, Bool, true, false, if◌then◌else◌, List, [], ◌∷◌, ◌++◌, codes, bytes_eq, refl, ap, sym, subst, ◌∙◌, append_assoc, append-nil}
use Rattle.ap_term.specs.Tree.{Tree, Trees, var, int, atom, node, none, more}
use Rattle.ap_writer.specs.Text.{text, name_at}
use Rattle.ap_writer.specs.Writable.{IsWritable, AreWritable}
use Rattle.ap_term.specs.AtomTable.{IsWithoutRepeats}
use Rattle.ap_writer.proofs.Marks.{Mark, Variable, Integer, Name, Call, CloseList, Marked, alone, later_marks, argument_marks, compound_marks, cell_marks, node_marks, atom_marks, marked, all_marked, spells}
use Rattle.ap_writer.proofs.Unmarked.{same_marks}
use Rattle.ap_writer.proofs.Fronts.{Parted, ends_marks, begins_element, is_behind, unique}

record IsParted (m : Marked) : Type 0 where
  own : (rest : List Mark) → Parted rest → ends_marks rest ≡ true → Parted (m.own ++ rest)
  first : (rest : List Mark) → begins_element (m.own ++ rest) ≡ true
  tail : (rest : List Mark) → Parted rest → ends_marks rest ≡ true → Parted (m.tail ++ rest)
  ends : (rest : List Mark) → ends_marks (m.tail ++ rest) ≡ true

parted-alone : (ms : List Mark) → ((rest : List Mark) → Parted rest → ends_marks rest ≡ true → Parted (ms ++ rest)) → ((rest : List Mark) → begins_element (ms ++ rest) ≡ true) → IsParted (alone ms)
parted-alone ms h f = record {
  own = h;
  first = f;
  tail = λ rest p e. (tt, subst Parted (sym (append_assoc ms (CloseList ∷ []) rest)) (h (CloseList ∷ rest) (tt, p) refl));
  ends = λ rest. refl;
}

abbrev AllParted : List Marked → Type 0
AllParted [] = Unit {0}
AllParted (m ∷ ms) = IsParted m × AllParted ms

ends-later : (ms : List Marked) (rest : List Mark) → ends_marks (later_marks ms ++ rest) ≡ true
ends-later [] rest = refl
ends-later (m ∷ ms) rest = refl

parted-later : (ms : List Marked) → AllParted ms → (rest : List Mark) → Parted rest → Parted (later_marks ms ++ rest)
parted-later [] h rest p = (tt, p)
parted-later (m ∷ ms) h rest p =
    (tt, subst Parted (sym (append_assoc m.own (later_marks ms) rest)) (h.0.own (later_marks ms ++ rest) (parted-later ms h.1 rest p) (ends-later ms rest)))

parted-arguments : (ms : List Marked) → AllParted ms → (rest : List Mark) → Parted rest → Parted (argument_marks ms ++ rest)
parted-arguments [] h rest p = (tt, p)
parted-arguments (m ∷ ms) h rest p =
    subst Parted (sym (append_assoc m.own (later_marks ms) rest)) (h.0.own (later_marks ms ++ rest) (parted-later ms h.1 rest p) (ends-later ms rest))

parted-compound : (name : List ℕ) (ms : List Marked) → AllParted ms → IsParted (compound_marks name ms)
parted-compound name ms h = parted-alone (Call name ∷ argument_marks ms) (λ rest p e. (tt, parted-arguments ms h rest p)) (λ rest. refl)

parted-cell : (m n : Marked) → IsParted m → IsParted n → IsParted (cell_marks m n)
parted-cell m n h k =
    let both : (rest : List Mark) → Parted rest → ends_marks rest ≡ true → Parted ((m.own ++ n.tail) ++ rest) =
    (λ rest p e. subst Parted (sym (append_assoc m.own n.tail rest)) (h.own (n.tail ++ rest) (k.tail rest p e) (k.ends rest))) in
    record {
      own = λ rest p e. (ap begins_element (append_assoc m.own n.tail rest) ∙ h.first (n.tail ++ rest), both rest p e);
      first = λ rest. refl;
      tail = λ rest p e. (tt, both rest p e);
      ends = λ rest. refl;
    }

parted-node : (name : List ℕ) (ms : List Marked) → AllParted ms → IsParted (node_marks name ms)
parted-node name [] h = parted-compound name [] h
parted-node name (m ∷ []) h = parted-compound name (m ∷ []) h
parted-node name (m ∷ n ∷ []) h = go (bytes_eq name (codes "."))
  where
    go : (b : Bool) → IsParted (if b then cell_marks m n else compound_marks name (m ∷ n ∷ []))
    go true = parted-cell m n h.0 h.1.0
    go false = parted-compound name (m ∷ n ∷ []) h
parted-node name (m ∷ n ∷ o ∷ ms) h = parted-compound name (m ∷ n ∷ o ∷ ms) h

parted-atom : (name : List ℕ) → IsParted (atom_marks name)
parted-atom name = go (bytes_eq name (codes "[]"))
  where
    go : (b : Bool) → IsParted (if b then record { own = Name (codes "[]") ∷ []; tail = CloseList ∷ [] } else alone (Name name ∷ []))
    go true = record { own = λ rest p e. (e, p); first = λ rest. refl; tail = λ rest p e. (tt, p); ends = λ rest. refl }
    go false = parted-alone (Name name ∷ []) (λ rest p e. (e, p)) (λ rest. refl)

mutual
  parted : (names : List (List ℕ)) (t : Tree) → IsWritable names t → IsParted (marked names t)
  parted names (var x) h = parted-alone (Variable x ∷ []) (λ rest p e. ((h, e), p)) (λ rest. refl)
  parted names (int z) h = parted-alone (Integer z ∷ []) (λ rest p e. ((h, e), p)) (λ rest. refl)
  parted names (atom a) h = parted-atom (name_at names a)
  parted names (node a ts) h = parted-node (name_at names a) (all_marked names ts) (all-parted names ts h.1)

  all-parted : (names : List (List ℕ)) (ts : Trees) → AreWritable names ts → AllParted (all_marked names ts)
  all-parted names none h = tt
  all-parted names (more t ts) h = (parted names t h.0, all-parted names ts h.1)

parted-own : (names : List (List ℕ)) (t : Tree) → IsWritable names t → Parted (marked names t).own
parted-own names t h = subst Parted (append-nil (marked names t).own) ((parted names t h).own [] tt refl)

-- Of two terms' texts with what follows, the same bytes are the same term and the same rest.
pub same_text : (names : List (List ℕ)) (t u : Tree) (r s : List ℕ) → IsWithoutRepeats names → IsWritable names t → IsWritable names u → is_behind r ≡ true → is_behind s ≡ true
    → text names t ++ r ≡ text names u ++ s → (t ≡ u) × (r ≡ s)
same_text names t u r s d h k p q e =
    let f = unique (marked names t).own (marked names u).own r s (parted-own names t h) (parted-own names u k) p q
    (ap (λ l. l ++ r) (sym (spells names t).own) ∙ e ∙ ap (λ l. l ++ s) (spells names u).own) in
    (same_marks names d t u h k f.0, f.1)
