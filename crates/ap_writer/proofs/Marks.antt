-- A term's text as marks: names, numbers and what stands between them.
use Rattle.std.proofs.Common.{◌≡◌, ℕ, ℤ, Bool, true, false, if◌then◌else◌, List, [], ◌∷◌, ◌++◌, codes, bytes_eq, refl, ap, sym, ◌∙◌, append_assoc, append-nil}
use Rattle.std.specs.Fmt.{decimal, signed_decimal}
use Rattle.ap_term.specs.Tree.{Tree, Trees, var, int, atom, node, none, more}
use Rattle.ap_writer.specs.Quoted.{name_text}
use Rattle.ap_writer.specs.Text.{Shown, by_itself, behind_commas, arguments, compound, cell, shown_node, shown_atom, shown, all_shown, name_at}

pub data Mark : Type 0 where
  Variable : ℕ → Mark
  Integer : ℤ → Mark
  Name : List ℕ → Mark
  Call : List ℕ → Mark
  OpenList : Mark
  CloseList : Mark
  Comma : Mark
  Bar : Mark
  Close : Mark

abbrev pub spelling : Mark → List ℕ
spelling (Variable n) = codes "_" ++ decimal n
spelling (Integer z) = signed_decimal z
spelling (Name name) = name_text name
spelling (Call name) = name_text name ++ codes "("
spelling OpenList = codes "["
spelling CloseList = codes "]"
spelling Comma = codes ","
spelling Bar = codes "|"
spelling Close = codes ")"

abbrev pub spelled : List Mark → List ℕ
spelled [] = []
spelled (m ∷ ms) = spelling m ++ spelled ms

-- a term's marks where it stands by itself, and where it is what follows the elements of a list
pub record Marked : Type 0 where
  pub own : List Mark
  pub tail : List Mark

abbrev pub alone : List Mark → Marked
alone own = record { own = own; tail = Bar ∷ (own ++ CloseList ∷ []) }

abbrev pub later_marks : List Marked → List Mark
later_marks [] = Close ∷ []
later_marks (x ∷ xs) = Comma ∷ (x.own ++ later_marks xs)

abbrev pub argument_marks : List Marked → List Mark
argument_marks [] = Close ∷ []
argument_marks (x ∷ xs) = x.own ++ later_marks xs

abbrev pub compound_marks : List ℕ → List Marked → Marked
compound_marks name xs = alone (Call name ∷ argument_marks xs)

abbrev pub cell_marks : Marked → Marked → Marked
cell_marks x y = record { own = OpenList ∷ (x.own ++ y.tail); tail = Comma ∷ (x.own ++ y.tail) }

abbrev pub node_marks : List ℕ → List Marked → Marked
node_marks name (x ∷ y ∷ []) = if bytes_eq name (codes ".") then cell_marks x y else compound_marks name (x ∷ y ∷ [])
node_marks name xs = compound_marks name xs

abbrev pub atom_marks : List ℕ → Marked
atom_marks name = if bytes_eq name (codes "[]") then record { own = Name (codes "[]") ∷ []; tail = CloseList ∷ [] } else alone (Name name ∷ [])

abbrev mutual
  pub marked : List (List ℕ) → Tree → Marked
  marked names (var x) = alone (Variable x ∷ [])
  marked names (int z) = alone (Integer z ∷ [])
  marked names (atom a) = atom_marks (name_at names a)
  marked names (node a ts) = node_marks (name_at names a) (all_marked names ts)

  pub all_marked : List (List ℕ) → Trees → List Marked
  all_marked names none = []
  all_marked names (more t ts) = marked names t ∷ all_marked names ts

-- ---- they spell the text

pub record Spells (s : Shown) (m : Marked) : Type 0 where
  pub own : s.own ≡ spelled m.own
  pub tail : s.tail ≡ spelled m.tail

abbrev SpellAll : List Shown → List Marked → Type 0
SpellAll [] [] = Unit {0}
SpellAll (s ∷ ss) (m ∷ ms) = Spells s m × SpellAll ss ms
SpellAll [] (m ∷ ms) = ⊥
SpellAll (s ∷ ss) [] = ⊥

spelled-append : (xs ys : List Mark) → spelled (xs ++ ys) ≡ spelled xs ++ spelled ys
spelled-append [] ys = refl
spelled-append (x ∷ xs) ys = ap (λ l. spelling x ++ l) (spelled-append xs ys) ∙ sym (append_assoc (spelling x) (spelled xs) (spelled ys))

spells-alone : (text : List ℕ) (ms : List Mark) → text ≡ spelled ms → Spells (by_itself text) (alone ms)
spells-alone text ms e = record { own = e; tail = ap (λ l. codes "|" ++ l) (ap (λ l. l ++ codes "]") e ∙ sym (spelled-append ms (CloseList ∷ []))) }

spells-later : (ss : List Shown) (ms : List Marked) → SpellAll ss ms → behind_commas ss ≡ spelled (later_marks ms)
spells-later [] [] h = refl
spells-later [] (m ∷ ms) h = absurd h
spells-later (s ∷ ss) [] h = absurd h
spells-later (s ∷ ss) (m ∷ ms) h =
    ap (λ l. codes "," ++ l) (ap (λ l. l ++ behind_commas ss) h.0.own ∙ ap (λ l. spelled m.own ++ l) (spells-later ss ms h.1) ∙ sym (spelled-append m.own (later_marks ms)))

spells-arguments : (ss : List Shown) (ms : List Marked) → SpellAll ss ms → arguments ss ≡ spelled (argument_marks ms)
spells-arguments [] [] h = refl
spells-arguments [] (m ∷ ms) h = absurd h
spells-arguments (s ∷ ss) [] h = absurd h
spells-arguments (s ∷ ss) (m ∷ ms) h =
    ap (λ l. l ++ behind_commas ss) h.0.own ∙ ap (λ l. spelled m.own ++ l) (spells-later ss ms h.1) ∙ sym (spelled-append m.own (later_marks ms))

spells-compound : (name : List ℕ) (ss : List Shown) (ms : List Marked) → SpellAll ss ms → Spells (compound name ss) (compound_marks name ms)
spells-compound name ss ms h =
    spells-alone (name_text name ++ (codes "(" ++ arguments ss)) (Call name ∷ argument_marks ms)
    (ap (λ l. name_text name ++ (codes "(" ++ l)) (spells-arguments ss ms h) ∙ sym (append_assoc (name_text name) (codes "(") (spelled (argument_marks ms))))

spells-cell : (x y : Shown) (m n : Marked) → Spells x m → Spells y n → Spells (cell x y) (cell_marks m n)
spells-cell x y m n h k =
    let e : x.own ++ y.tail ≡ spelled (m.own ++ n.tail) = ap (λ l. l ++ y.tail) h.own ∙ ap (λ l. spelled m.own ++ l) k.tail ∙ sym (spelled-append m.own n.tail) in
    record { own = ap (λ l. codes "[" ++ l) e; tail = ap (λ l. codes "," ++ l) e }

spells-node : (name : List ℕ) (ss : List Shown) (ms : List Marked) → SpellAll ss ms → Spells (shown_node name ss) (node_marks name ms)
spells-node name [] [] h = spells-compound name [] [] h
spells-node name [] (m ∷ ms) h = absurd h
spells-node name (s ∷ ss) [] h = absurd h
spells-node name (s ∷ []) (m ∷ []) h = spells-compound name (s ∷ []) (m ∷ []) h
spells-node name (s ∷ []) (m ∷ n ∷ ms) h = absurd h.1
spells-node name (s ∷ u ∷ ss) (m ∷ []) h = absurd h.1
spells-node name (s ∷ u ∷ []) (m ∷ n ∷ []) h = go (bytes_eq name (codes "."))
  where
    go : (b : Bool) → Spells (if b then cell s u else compound name (s ∷ u ∷ [])) (if b then cell_marks m n else compound_marks name (m ∷ n ∷ []))
    go true = spells-cell s u m n h.0 h.1.0
    go false = spells-compound name (s ∷ u ∷ []) (m ∷ n ∷ []) h
spells-node name (s ∷ u ∷ []) (m ∷ n ∷ o ∷ ms) h = absurd h.1.1
spells-node name (s ∷ u ∷ v ∷ ss) (m ∷ n ∷ []) h = absurd h.1.1
spells-node name (s ∷ u ∷ v ∷ ss) (m ∷ n ∷ o ∷ ms) h = spells-compound name (s ∷ u ∷ v ∷ ss) (m ∷ n ∷ o ∷ ms) h

spells-atom : (name : List ℕ) → Spells (shown_atom name) (atom_marks name)
spells-atom name = go (bytes_eq name (codes "[]"))
  where
    go : (b : Bool) → Spells (if b then record { own = codes "[]"; tail = codes "]" } else by_itself (name_text name)) (if b then record { own = Name (codes "[]") ∷ []; tail = CloseList ∷ [] } else alone (Name name ∷ []))
    go true = record { own = refl; tail = refl }
    go false = spells-alone (name_text name) (Name name ∷ []) (sym (append-nil (name_text name)))

mutual
  pub spells : (names : List (List ℕ)) (t : Tree) → Spells (shown names t) (marked names t)
  spells names (var x) = spells-alone (codes "_" ++ decimal x) (Variable x ∷ []) (sym (append-nil (codes "_" ++ decimal x)))
  spells names (int z) = spells-alone (signed_decimal z) (Integer z ∷ []) (sym (append-nil (signed_decimal z)))
  spells names (atom a) = spells-atom (name_at names a)
  spells names (node a ts) = spells-node (name_at names a) (all_shown names ts) (all_marked names ts) (spells-all names ts)

  spells-all : (names : List (List ℕ)) (ts : Trees) → SpellAll (all_shown names ts) (all_marked names ts)
  spells-all names none = tt
  spells-all names (more t ts) = (spells names t, spells-all names ts)
