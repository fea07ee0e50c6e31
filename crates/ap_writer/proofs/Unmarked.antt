-- The term that marks stand for: they are taken in one by one, with a stack of what has begun.
use Rattle.std.proofs.Common.{◌≡◌, ℕ, zero, suc, ◌+◌, ◌<◌, ◌||◌, Bool, true, false, if◌then◌else◌, List, [], ◌∷◌, ◌++◌, codes, length, bytes_eq, refl, ap, sym, subst, ◌∙◌, arith}
use Rattle.std.proofs.lemmas.Bool.{both_ways}
use Rattle.std.proofs.lemmas.Slice.Eq.{bytes_eq-Decides}
use Rattle.ap_term.specs.AtomTable.{is_held, IsWithoutRepeats}
use Rattle.ap_term.specs.Tree.{Tree, Trees, var, int, atom, node, none, more, push_tree}
use Rattle.ap_writer.specs.Text.{name_at}
use Rattle.ap_writer.specs.Writable.{IsWritable, AreWritable}
use Rattle.ap_writer.proofs.Marks.{Mark, Variable, Integer, Name, Call, OpenList, CloseList, Comma, Bar, Close, Marked, alone, later_marks, argument_marks, compound_marks, cell_marks, node_marks, atom_marks, marked, all_marked}

-- ---- a name's atom

abbrev pub place_of : List (List ℕ) → List ℕ → ℕ
place_of [] n = 0
place_of (x ∷ names) n = if bytes_eq n x then 0 else place_of names n + 1

held-at : (names : List (List ℕ)) (a : ℕ) → a < length names → is_held names (name_at names a) ≡ true
held-at [] a lt = absurd (omega arith)
held-at (x ∷ names) zero lt = ap (λ b. b || is_held names x) ((bytes_eq-Decides x x).1 refl)
held-at (x ∷ names) (suc a) lt = go (bytes_eq (name_at names a) x) (held-at names a (omega arith))
  where
    go : (b : Bool) → is_held names (name_at names a) ≡ true → (b || is_held names (name_at names a)) ≡ true
    go true h = refl
    go false h = h

pub place-at : (names : List (List ℕ)) (a : ℕ) → IsWithoutRepeats names → a < length names → place_of names (name_at names a) ≡ a
place-at [] a d lt = absurd (omega arith)
place-at (x ∷ names) zero d lt = ap (λ b. if b then 0 else place_of names x + 1) ((bytes_eq-Decides x x).1 refl)
place-at (x ∷ names) (suc a) d lt = go (bytes_eq (name_at names a) x) refl (place-at names a d.1 (omega arith)) (held-at names a (omega arith))
  where
    go : (b : Bool) → bytes_eq (name_at names a) x ≡ b → place_of names (name_at names a) ≡ a → is_held names (name_at names a) ≡ true
        → (if b then 0 else place_of names (name_at names a) + 1) ≡ suc a
    go true e ih held = absurd (both_ways (is_held names x) d.0 (subst (λ y. is_held names y ≡ true) ((bytes_eq-Decides (name_at names a) x).0 e) held))
    go false e ih held = omega (arith, ih)

-- ---- the stack

data Frame : Type 0 where
  Arguments : ℕ → Trees → Frame
  Elements : Trees → Frame
  Behind : Trees → Frame

data Reading : Type 0 where
  Wants : List Frame → Reading
  Has : Tree → List Frame → Reading
  Stuck : Reading

-- elements, and what follows them
abbrev listed : ℕ → Trees → Tree → Tree
listed dot none end = end
listed dot (more t ts) end = node dot (more t (more (listed dot ts end) none))

listed-push : (dot : ℕ) (ts : Trees) (t end : Tree) → listed dot (push_tree ts t) end ≡ listed dot ts (node dot (more t (more end none)))
listed-push dot none t end = refl
listed-push dot (more u ts) t end = ap (λ v. node dot (more u (more v none))) (listed-push dot ts t end)

module _ (names : List (List ℕ)) where
  abbrev dot : ℕ
  dot = place_of names (codes ".")

  abbrev nil : ℕ
  nil = place_of names (codes "[]")

  abbrev begun : List Frame → Mark → Reading
  begun s (Variable x) = Has (var x) s
  begun s (Integer z) = Has (int z) s
  begun s (Name n) = Has (atom (place_of names n)) s
  begun s (Call n) = Wants (Arguments (place_of names n) none ∷ s)
  begun s OpenList = Wants (Elements none ∷ s)
  begun (Arguments a ts ∷ s) Close = Has (node a ts) s
  begun _ _ = Stuck

  abbrev gone_on : Tree → List Frame → Mark → Reading
  gone_on t (Arguments a ts ∷ s) Comma = Wants (Arguments a (push_tree ts t) ∷ s)
  gone_on t (Arguments a ts ∷ s) Close = Has (node a (push_tree ts t)) s
  gone_on t (Elements ts ∷ s) Comma = Wants (Elements (push_tree ts t) ∷ s)
  gone_on t (Elements ts ∷ s) Bar = Wants (Behind (push_tree ts t) ∷ s)
  gone_on t (Elements ts ∷ s) CloseList = Has (listed dot (push_tree ts t) (atom nil)) s
  gone_on t (Behind ts ∷ s) CloseList = Has (listed dot ts t) s
  gone_on _ _ _ = Stuck

  abbrev step : Reading → Mark → Reading
  step (Wants s) m = begun s m
  step (Has t s) m = gone_on t s m
  step Stuck m = Stuck

  abbrev after : Reading → List Mark → Reading
  after r [] = r
  after r (m ∷ ms) = after (step r m) ms

  after-append : (r : Reading) (xs ys : List Mark) → after r (xs ++ ys) ≡ after (after r xs) ys
  after-append r [] ys = refl
  after-append r (x ∷ xs) ys = after-append (step r x) xs ys

  -- what a term's marks do: by themselves, and behind the elements of a list
  record Reads (t : Tree) (m : Marked) : Type 0 where
    own : (s : List Frame) → after (Wants s) m.own ≡ Has t s
    tail : (u : Tree) (ts : Trees) (s : List Frame) → after (Has u (Elements ts ∷ s)) m.tail ≡ Has (listed dot (push_tree ts u) t) s

  reads-alone : (t : Tree) (ms : List Mark) → ((s : List Frame) → after (Wants s) ms ≡ Has t s) → Reads t (alone ms)
  reads-alone t ms h = record {
    own = h;
    tail = λ u ts s. after-append (Wants (Behind (push_tree ts u) ∷ s)) ms (CloseList ∷ []) ∙ ap (λ r. after r (CloseList ∷ [])) (h (Behind (push_tree ts u) ∷ s));
  }

  abbrev ReadAll : Trees → List Marked → Type 0
  ReadAll none [] = Unit {0}
  ReadAll (more t ts) (m ∷ ms) = Reads t m × ReadAll ts ms
  ReadAll none (m ∷ ms) = ⊥
  ReadAll (more t ts) [] = ⊥

  abbrev joined : Trees → Trees → Trees
  joined ts none = ts
  joined ts (more u us) = joined (push_tree ts u) us

  reads-later : (a : ℕ) (us : Trees) (ms : List Marked) → ReadAll us ms → (t : Tree) (ts : Trees) (s : List Frame)
      → after (Has t (Arguments a ts ∷ s)) (later_marks ms) ≡ Has (node a (joined (push_tree ts t) us)) s
  reads-later a none [] h t ts s = refl
  reads-later a none (m ∷ ms) h t ts s = absurd h
  reads-later a (more u us) [] h t ts s = absurd h
  reads-later a (more u us) (m ∷ ms) h t ts s =
      after-append (Wants (Arguments a (push_tree ts t) ∷ s)) m.own (later_marks ms)
      ∙ ap (λ r. after r (later_marks ms)) (h.0.own (Arguments a (push_tree ts t) ∷ s))
      ∙ reads-later a us ms h.1 u (push_tree ts t) s

  joined-push : (ts us : Trees) (t : Tree) → joined (more t ts) us ≡ more t (joined ts us)
  joined-push ts none t = refl
  joined-push ts (more u us) t = joined-push (push_tree ts u) us t

  joined-none : (us : Trees) → joined none us ≡ us
  joined-none none = refl
  joined-none (more u us) = joined-push none us u ∙ ap (more u) (joined-none us)

  reads-arguments : (a : ℕ) (us : Trees) (ms : List Marked) → ReadAll us ms → (s : List Frame)
      → after (Wants (Arguments a none ∷ s)) (argument_marks ms) ≡ Has (node a us) s
  reads-arguments a none [] h s = refl
  reads-arguments a none (m ∷ ms) h s = absurd h
  reads-arguments a (more u us) [] h s = absurd h
  reads-arguments a (more u us) (m ∷ ms) h s =
      after-append (Wants (Arguments a none ∷ s)) m.own (later_marks ms)
      ∙ ap (λ r. after r (later_marks ms)) (h.0.own (Arguments a none ∷ s))
      ∙ reads-later a us ms h.1 u none s
      ∙ ap (λ vs. Has (node a vs) s) (joined-none (more u us))

  reads-compound : (name : List ℕ) (us : Trees) (ms : List Marked) → ReadAll us ms → Reads (node (place_of names name) us) (compound_marks name ms)
  reads-compound name us ms h = reads-alone _ (Call name ∷ argument_marks ms) (reads-arguments (place_of names name) us ms h)

  reads-cell : (t u : Tree) (m n : Marked) → Reads t m → Reads u n → Reads (node dot (more t (more u none))) (cell_marks m n)
  reads-cell t u m n h k = record {
    own = λ s. after-append (Wants (Elements none ∷ s)) m.own n.tail ∙ ap (λ r. after r n.tail) (h.own (Elements none ∷ s)) ∙ k.tail t none s;
    tail = λ v ts s.
        after-append (Wants (Elements (push_tree ts v) ∷ s)) m.own n.tail
        ∙ ap (λ r. after r n.tail) (h.own (Elements (push_tree ts v) ∷ s))
        ∙ k.tail t (push_tree ts v) s
        ∙ ap (λ w. Has w s) (listed-push dot (push_tree ts v) t u);
  }

  reads-node : (name : List ℕ) (us : Trees) (ms : List Marked) → ReadAll us ms → Reads (node (place_of names name) us) (node_marks name ms)
  reads-node name none [] h = reads-compound name none [] h
  reads-node name none (m ∷ ms) h = absurd h
  reads-node name (more t ts) [] h = absurd h
  reads-node name (more t none) (m ∷ []) h = reads-compound name (more t none) (m ∷ []) h
  reads-node name (more t none) (m ∷ n ∷ ms) h = absurd h.1
  reads-node name (more t (more u ts)) (m ∷ []) h = absurd h.1
  reads-node name (more t (more u none)) (m ∷ n ∷ []) h = go (bytes_eq name (codes ".")) refl
    where
      go : (b : Bool) → bytes_eq name (codes ".") ≡ b → Reads (node (place_of names name) (more t (more u none))) (if b then cell_marks m n else compound_marks name (m ∷ n ∷ []))
      go true e = subst (λ x. Reads (node (place_of names x) (more t (more u none))) (cell_marks m n)) (sym ((bytes_eq-Decides name (codes ".")).0 e)) (reads-cell t u m n h.0 h.1.0)
      go false e = reads-compound name (more t (more u none)) (m ∷ n ∷ []) h
  reads-node name (more t (more u none)) (m ∷ n ∷ o ∷ ms) h = absurd h.1.1
  reads-node name (more t (more u (more v ts))) (m ∷ n ∷ []) h = absurd h.1.1
  reads-node name (more t (more u (more v ts))) (m ∷ n ∷ o ∷ ms) h = reads-compound name (more t (more u (more v ts))) (m ∷ n ∷ o ∷ ms) h

  reads-atom : (name : List ℕ) → Reads (atom (place_of names name)) (atom_marks name)
  reads-atom name = go (bytes_eq name (codes "[]")) refl
    where
      go : (b : Bool) → bytes_eq name (codes "[]") ≡ b → Reads (atom (place_of names name)) (if b then record { own = Name (codes "[]") ∷ []; tail = CloseList ∷ [] } else alone (Name name ∷ []))
      go true e =
          let same : name ≡ codes "[]" = (bytes_eq-Decides name (codes "[]")).0 e in
          subst (λ x. Reads (atom (place_of names x)) (record { own = Name (codes "[]") ∷ []; tail = CloseList ∷ [] })) (sym same) (record { own = λ s. refl; tail = λ u ts s. refl })
      go false e = reads-alone _ (Name name ∷ []) (λ s. refl)

  module _ (distinct : IsWithoutRepeats names) where
    mutual
      reads : (t : Tree) → IsWritable names t → Reads t (marked names t)
      reads (var x) h = reads-alone (var x) (Variable x ∷ []) (λ s. refl)
      reads (int z) h = reads-alone (int z) (Integer z ∷ []) (λ s. refl)
      reads (atom a) h = subst (λ b. Reads (atom b) (atom_marks (name_at names a))) (place-at names a distinct h) (reads-atom (name_at names a))
      reads (node a ts) h =
          subst (λ b. Reads (node b ts) (node_marks (name_at names a) (all_marked names ts))) (place-at names a distinct h.0) (reads-node (name_at names a) ts (all_marked names ts) (reads-all ts h.1))

      reads-all : (ts : Trees) → AreWritable names ts → ReadAll ts (all_marked names ts)
      reads-all none h = tt
      reads-all (more t ts) h = (reads t h.0, reads-all ts h.1)

    -- terms with the same marks are the same
    pub same_marks : (t u : Tree) → IsWritable names t → IsWritable names u → (marked names t).own ≡ (marked names u).own → t ≡ u
    same_marks t u h k e =
        let f : Has t [] ≡ Has u [] = sym ((reads t h).own []) ∙ ap (after (Wants [])) e ∙ (reads u k).own [] in
        cc
