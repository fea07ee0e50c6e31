-- A block of cells to which copies are added.
use Rattle.std.proofs.Common.{◌≡◌, ℕ, zero, suc, ◌+◌, ◌-◌, ◌<◌, ◌≤◌, List, [], ◌∷◌, ◌++◌, length, map, get_or, refl, sym, ap, ◌∙◌, subst, arith, inl, inr, append_assoc, append-nil, length-append}
use Rattle.std.proofs.lemmas.List.{get_or_append_left, get_or-append_right, length_push, length-map}
use Rattle.std.proofs.lemmas.Bool.{cases_lt, or_cases, false≢true}
use Rattle.ap_term.specs.Tree.{Tree, var, more, to_trees}
use Rattle.ap_term.specs.Vars.{occurs, occurs_all}
use Rattle.ap_term.specs.Substitution.{instance, instance_all}
use Rattle.ap_cells.specs.declared.cells.Raw.{Raw}
use Rattle.ap_cells.specs.declared.cells.Raw.TheVariants.{Free, Same, Int, Atom, Node}
use Rattle.ap_cells.specs.Trees.{tree_at, span, step, Within, Stand, trees}
use Rattle.ap_cells.specs.Walks.{Each}
use Rattle.ap_cells.proofs.Stands.{step-same, Stand-push}
use Rattle.ap_cells.proofs.Rounds.{trees_are}
use Rattle.ap_copy.specs.Copies.{KnownAll, numbered, IsBound, AreCopies, IsBelow, IsBlock, IsNames, Grown}

-- what a cell stands for depends on the places that it leads to
pub step-bound : (n i : ℕ) (c : Raw) (ts us : List Tree) → ((j : ℕ) → j < n → tree_at ts j ≡ tree_at us j) → IsBound n c → step ts 0 c ≡ step us i c
step-bound n i Free ts us e b = absurd b
step-bound n i (Same j) ts us e b = e j b
step-bound n i (Int z) ts us e b = refl
step-bound n i (Atom a) ts us e b = refl
step-bound n i (Node a p k) ts us e b = step-same ts us n e 0 (Node a p k) b (omega arith)

Within-bound : (n i : ℕ) (c : Raw) → n ≤ i → IsBound n c → Within i i c
Within-bound n i Free h b = absurd b
Within-bound n i (Same j) h b = omega arith
Within-bound n i (Int z) h b = tt
Within-bound n i (Atom a) h b = tt
Within-bound n i (Node a p k) h b = omega arith

IsBound-more : (n m : ℕ) (c : Raw) → n ≤ m → IsBound n c → IsBound m c
IsBound-more n m Free h b = b
IsBound-more n m (Same j) h b = omega arith
IsBound-more n m (Int z) h b = tt
IsBound-more n m (Atom a) h b = tt
IsBound-more n m (Node a p k) h b = omega arith

-- cells that lead to the first n places, behind a block
stand-laid : (n : ℕ) (base : List Tree) (cs block : List Raw) (ts : List Tree) → Stand block ts → n ≤ length block → ((j : ℕ) → j < n → tree_at base j ≡ tree_at ts j) → Each (IsBound n) cs
    → Stand (block ++ cs) (ts ++ map (step base 0) cs)
stand-laid n base [] block ts s h e b = subst (λ xs. Stand xs (ts ++ [])) (sym (append-nil block)) (subst (Stand block) (sym (append-nil ts)) s)
stand-laid n base (c ∷ cs) block ts s h e b =
    subst (λ xs. Stand xs (ts ++ step base 0 c ∷ map (step base 0) cs)) (append_assoc block (c ∷ []) cs)
    (subst (Stand ((block ++ c ∷ []) ++ cs)) (append_assoc ts (step base 0 c ∷ []) (map (step base 0) cs))
    (stand-laid n base cs (block ++ c ∷ []) (ts ++ step base 0 c ∷ []) pushed (omega (arith, length_push block c)) agree b.1))
  where
    pushed : Stand (block ++ c ∷ []) (ts ++ step base 0 c ∷ [])
    pushed = subst (λ t. Stand (block ++ c ∷ []) (ts ++ t ∷ [])) (sym (step-bound n (length block) c base ts e b.0)) (Stand-push block ts c s (Within-bound n (length block) c h b.0))

    agree : (j : ℕ) → j < n → tree_at base j ≡ tree_at (ts ++ step base 0 c ∷ []) j
    agree j l = e j l ∙ sym (get_or_append_left ts (step base 0 c ∷ []) (var j) j (omega (arith, s.len)))

Each-at : (P : Raw → Type 0) (cs : List Raw) → Each P cs → (k : ℕ) (d : Raw) → k < length cs → P (get_or cs k d)
Each-at P [] e k d h = absurd (omega arith)
Each-at P (c ∷ cs) e zero d h = e.0
Each-at P (c ∷ cs) e (suc k) d h = Each-at P cs e.1 k d (omega arith)

below-laid : (cs block : List Raw) → IsBelow block → Each (IsBound (length block)) cs → IsBelow (block ++ cs)
below-laid cs block b e i d h = elim (cases_lt i (length block)) [
  | inl l ↦ subst (Within i i) (sym (get_or_append_left block cs d i l)) (b i d l)
  | inr g ↦
      let k : i - length block < length cs = omega (arith, length-append block cs) in
      subst (Within i i) (sym (get_or-append_right block cs (length block) i d refl g)) (Within-bound (length block) i (get_or cs (i - length block) d) g (Each-at (IsBound (length block)) cs e (i - length block) d k))
]

bounds : (ks : List ℕ) (block cs : List Raw) (us : List Tree) → AreCopies ks block cs us → Each (IsBound (length block)) cs
bounds ks block [] [] a = tt
bounds ks block [] (u ∷ us) a = absurd a
bounds ks block (c ∷ cs) [] a = absurd a
bounds ks block (c ∷ cs) (u ∷ us) a = (a.0.0, bounds ks block cs us a.1)

pub AreCopies-length : (ks : List ℕ) (block cs : List Raw) (us : List Tree) → AreCopies ks block cs us → length cs ≡ length us
AreCopies-length ks block [] [] a = refl
AreCopies-length ks block [] (u ∷ us) a = absurd a
AreCopies-length ks block (c ∷ cs) [] a = absurd a
AreCopies-length ks block (c ∷ cs) (u ∷ us) a = ap suc (AreCopies-length ks block cs us a.1)

copies-trees : (ks : List ℕ) (block cs : List Raw) (us : List Tree) → AreCopies ks block cs us → to_trees (map (step (trees block) 0) cs) ≡ instance_all (numbered ks) (to_trees us)
copies-trees ks block [] [] a = refl
copies-trees ks block [] (u ∷ us) a = absurd a
copies-trees ks block (c ∷ cs) [] a = absurd a
copies-trees ks block (c ∷ cs) (u ∷ us) a =
    ap (λ t. more t (to_trees (map (step (trees block) 0) cs))) a.0.1 ∙ ap (more (instance (numbered ks) u)) (copies-trees ks block cs us a.1)

-- the variables of the trees have numbers
pub copies-known : (ks : List ℕ) (block cs : List Raw) (us : List Tree) → AreCopies ks block cs us → KnownAll ks (to_trees us)
copies-known ks block cs [] a x o = absurd (false≢true o)
copies-known ks block [] (u ∷ us) a x o = absurd a
copies-known ks block (c ∷ cs) (u ∷ us) a x o = elim (or_cases (occurs x u) (occurs_all x (to_trees us)) o) [ inl p ↦ a.0.2 x p | inr p ↦ copies-known ks block cs us a.1 x p ]

-- the trees behind others
pub span-behind : (us ts : List Tree) (p : ℕ) → p ≡ length ts → span (ts ++ us) p (length us) ≡ to_trees us
span-behind [] ts p e = refl
span-behind (u ∷ us) ts p e =
    ap (λ t. more t (span (ts ++ u ∷ us) (p + 1) (length us))) first
    ∙ ap (more u) (ap (λ xs. span xs (p + 1) (length us)) (sym (append_assoc ts (u ∷ []) us)) ∙ span-behind us (ts ++ u ∷ []) (p + 1) (omega (arith, length_push ts u)))
  where
    first : tree_at (ts ++ u ∷ us) p ≡ u
    first = get_or-append_right ts (u ∷ us) p p (var p) (sym e) (omega arith) ∙ (let z : p - p ≡ 0 = omega arith in ap (λ k. get_or (u ∷ us) k (var p)) z)

-- copies put behind the block
pub record Laid (ks : List ℕ) (block cs : List Raw) (us : List Tree) : Type 0 where
  pub is_block : IsBlock ks (block ++ cs)
  pub grown : Grown ks block (block ++ cs)
  pub terms : span (trees (block ++ cs)) (length block) (length cs) ≡ instance_all (numbered ks) (to_trees us)

pub laid : (ks : List ℕ) (block cs : List Raw) (us : List Tree) → IsBlock ks block → AreCopies ks block cs us → length (block ++ cs) ≤ 4294967295 → Laid ks block cs us
laid ks block cs us B a few = record {
  is_block = record {
    stand = subst (Stand (block ++ cs)) (sym now) stand;
    below = below-laid cs block B.below (bounds ks block cs us a);
    names = λ i h. sym (agree i (omega (arith, B.room))) ∙ B.names i h;
    room = omega (arith, B.room, length-append block cs);
    few = few;
  };
  grown = λ c t k. (IsBound-more (length block) (length (block ++ cs)) c (omega (arith, length-append block cs)) k.0, sym (step-bound (length block) 0 c (trees block) (trees (block ++ cs)) agree k.0) ∙ k.1, k.2);
  terms =
      ap (λ ts. span ts (length block) (length cs)) now
      ∙ ap (span (trees block ++ map (step (trees block) 0) cs) (length block)) (sym (length-map cs (step (trees block) 0)))
      ∙ span-behind (map (step (trees block) 0) cs) (trees block) (length block) (sym B.stand.len)
      ∙ copies-trees ks block cs us a;
}
  where
    stand : Stand (block ++ cs) (trees block ++ map (step (trees block) 0) cs)
    stand = stand-laid (length block) (trees block) cs block (trees block) B.stand (omega arith) (λ j l. refl) (bounds ks block cs us a)

    now : trees (block ++ cs) ≡ trees block ++ map (step (trees block) 0) cs
    now = trees_are (block ++ cs) (trees block ++ map (step (trees block) 0) cs) stand

    agree : (j : ℕ) → j < length block → tree_at (trees block) j ≡ tree_at (trees (block ++ cs)) j
    agree j l = sym (get_or_append_left (trees block) (map (step (trees block) 0) cs) (var j) j (omega (arith, B.stand.len))) ∙ ap (λ ts. tree_at ts j) (sym now)

-- ---- lists of copies

pub AreCopies-append : (ks : List ℕ) (block cs ds : List Raw) (ts us : List Tree) → AreCopies ks block cs ts → AreCopies ks block ds us → AreCopies ks block (cs ++ ds) (ts ++ us)
AreCopies-append ks block [] ds [] us a b = b
AreCopies-append ks block [] ds (t ∷ ts) us a b = absurd a
AreCopies-append ks block (c ∷ cs) ds [] us a b = absurd a
AreCopies-append ks block (c ∷ cs) ds (t ∷ ts) us a b = (a.0, AreCopies-append ks block cs ds ts us a.1 b)

pub record Split (ks : List ℕ) (block cs : List Raw) (ts us : List Tree) : Type 0 where
  pub front : List Raw
  pub back : List Raw
  pub whole : cs ≡ front ++ back
  pub first : AreCopies ks block front ts
  pub second : AreCopies ks block back us

pub AreCopies-split : (ks : List ℕ) (block cs : List Raw) (ts us : List Tree) → AreCopies ks block cs (ts ++ us) → Split ks block cs ts us
AreCopies-split ks block cs [] us a = record { front = []; back = cs; whole = refl; first = tt; second = a }
AreCopies-split ks block [] (t ∷ ts) us a = absurd a
AreCopies-split ks block (c ∷ cs) (t ∷ ts) us a =
    let r = AreCopies-split ks block cs ts us a.1 in
    record { front = c ∷ r.front; back = r.back; whole = ap (λ xs. c ∷ xs) r.whole; first = (a.0, r.first); second = r.second }

pub AreCopies-grown : (ks : List ℕ) (old new cs : List Raw) (ts : List Tree) → Grown ks old new → AreCopies ks old cs ts → AreCopies ks new cs ts
AreCopies-grown ks old new [] [] g a = tt
AreCopies-grown ks old new [] (t ∷ ts) g a = absurd a
AreCopies-grown ks old new (c ∷ cs) [] g a = absurd a
AreCopies-grown ks old new (c ∷ cs) (t ∷ ts) g a = (g c t a.0, AreCopies-grown ks old new cs ts g a.1)

pub AreCopies-none : (ks : List ℕ) (block cs : List Raw) → AreCopies ks block cs [] → cs ≡ []
AreCopies-none ks block [] a = refl
AreCopies-none ks block (c ∷ cs) a = absurd a

-- ---- a block of variables alone

pub names-none : IsNames []
names-none = record { stand = subst (Stand []) (sym (trees_are [] [] none)) none; below = λ i d h. absurd (omega arith); names = λ i h. absurd (omega arith) }
  where
    none : Stand [] []
    none = record { len = refl; each = λ i d h. absurd (omega arith); within = λ i d h. absurd (omega arith) }

pub names-push : (block : List Raw) → IsNames block → IsNames (block ++ Free ∷ [])
names-push block b = record {
  stand = subst (Stand (block ++ Free ∷ [])) (sym now) pushed;
  below = λ i d h. elim (cases_lt i (length block)) [
    | inl l ↦ subst (Within i i) (sym (get_or_append_left block (Free ∷ []) d i l)) (b.below i d l)
    | inr g ↦
        let e : i - length block ≡ 0 = omega (arith, length_push block Free) in
        subst (Within i i) (sym (get_or-append_right block (Free ∷ []) (length block) i d refl g ∙ ap (λ k. get_or (Free ∷ []) k d) e)) tt
  ];
  names = λ i h. elim (cases_lt i (length block)) [
    | inl l ↦ ap (λ ts. tree_at ts i) now ∙ get_or_append_left (trees block) (var (length block) ∷ []) (var i) i (omega (arith, b.stand.len)) ∙ b.names i l
    | inr g ↦
        let e : i - length block ≡ 0 = omega (arith, length_push block Free) in
        let n : length block ≡ i = omega (arith, length_push block Free) in
        ap (λ ts. tree_at ts i) now ∙ get_or-append_right (trees block) (var (length block) ∷ []) (length block) i (var i) b.stand.len g
        ∙ ap (λ k. get_or (var (length block) ∷ []) k (var i)) e ∙ ap var n
  ];
}
  where
    pushed : Stand (block ++ Free ∷ []) (trees block ++ var (length block) ∷ [])
    pushed = Stand-push block (trees block) Free b.stand tt

    now : trees (block ++ Free ∷ []) ≡ trees block ++ var (length block) ∷ []
    now = trees_are (block ++ Free ∷ []) (trees block ++ var (length block) ∷ []) pushed
