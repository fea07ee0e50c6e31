-- One step of a copy.
use Rattle.std.proofs.Common.{◌≡◌, ℕ, zero, suc, ◌+◌, ◌-◌, ◌*◌, ◌<◌, ◌≤◌, true, List, [], ◌∷◌, ◌++◌, length, take, drop, refl, sym, ap, ◌∙◌, subst, arith, append_assoc, append-nil, length-append}
use Rattle.std.proofs.Math.Seq.{take-append_seam, drop-append_seam}
use Rattle.ap_term.specs.Tree.{Tree, node, more, to_trees}
use Rattle.ap_term.specs.Vars.{occurs, occurs_all}
use Rattle.ap_term.specs.Substitution.{instance_all}
use Rattle.ap_term.proofs.Solutions.{or_left, or_right}
use Rattle.ap_cells.specs.declared.cells.Raw.{Raw}
use Rattle.ap_cells.specs.declared.cells.Raw.TheVariants.{Node}
use Rattle.ap_cells.specs.Trees.{tree_at, span, trees}
use Rattle.ap_cells.specs.Walks.{weight, weight_all}
use Rattle.ap_cells.proofs.Walks.{span-first, weight-some}
use Rattle.ap_copy.specs.Copies.{Known, KnownAll, numbered, IsCopy, AreCopies, IsBlock, Grown}
use Rattle.ap_copy.specs.declared.copying.Frame.{Frame}
use Rattle.ap_copy.specs.Copying.{items, copied, Waits, IsFirst, Going, IsCopied, weight_frame, weight_frames}
use Rattle.ap_copy.proofs.Blocks.{Laid, laid, copies-known, Split, AreCopies-length, AreCopies-append, AreCopies-split, AreCopies-grown, AreCopies-none}

-- ---- the trees of places

items-length : (ts : List Tree) (p n : ℕ) → length (items ts p n) ≡ n
items-length ts p zero = refl
items-length ts p (suc n) = ap suc (items-length ts (p + 1) n)

items-more : (ts : List Tree) (p n : ℕ) → items ts p (suc n) ≡ items ts p n ++ tree_at ts (p + n) ∷ []
items-more ts p zero = let e : p ≡ p + 0 = omega arith in ap (λ q. tree_at ts q ∷ []) e
items-more ts p (suc n) =
    let e : (p + 1) + n ≡ p + suc n = omega arith in
    ap (λ xs. tree_at ts p ∷ xs) (items-more ts (p + 1) n) ∙ ap (λ q. tree_at ts p ∷ (items ts (p + 1) n ++ tree_at ts q ∷ [])) e

to_trees-items : (ts : List Tree) (p n : ℕ) → to_trees (items ts p n) ≡ span ts p n
to_trees-items ts p zero = refl
to_trees-items ts p (suc n) = ap (more (tree_at ts p)) (to_trees-items ts (p + 1) n)

span-occurs : (ts : List Tree) (x p k i : ℕ) → i < k → occurs x (tree_at ts (p + i)) ≡ true → occurs_all x (span ts p k) ≡ true
span-occurs ts x p zero i h o = absurd (omega arith)
span-occurs ts x p (suc k) zero h o =
    let e : p + 0 ≡ p = omega arith in or_left (occurs x (tree_at ts p)) (occurs_all x (span ts (p + 1) k)) (subst (λ q. occurs x (tree_at ts q) ≡ true) e o)
span-occurs ts x p (suc k) (suc i) h o =
    let e : p + suc i ≡ (p + 1) + i = omega arith in
    or_right (occurs x (tree_at ts p)) (occurs_all x (span ts (p + 1) k)) (span-occurs ts x (p + 1) k i (omega arith) (subst (λ q. occurs x (tree_at ts q) ≡ true) e o))

-- ---- frames

Waits-push : (ts : List Tree) (fs : List Frame) (f : Frame) (t v u : Tree) → Waits ts fs t v → node f.name (span ts f.first f.count) ≡ v → f.copied < f.count → f.first + f.count ≤ length ts
    → tree_at ts (f.first + f.copied) ≡ u → Waits ts (fs ++ f ∷ []) t u
Waits-push ts [] f t v u w e h k g = (e ∙ sym w, h, k, g)
Waits-push ts (y ∷ fs) f t v u w e h k g = (w.0, w.1, w.2, Waits-push ts fs f (tree_at ts (y.first + y.copied)) v u w.3 e h k g)

pub record Popped (ts : List Tree) (fs : List Frame) (f : Frame) (t u : Tree) : Type 0 where
  pub waits : Waits ts fs t (node f.name (span ts f.first f.count))
  pub some : f.copied < f.count
  pub inside : f.first + f.count ≤ length ts
  pub next : tree_at ts (f.first + f.copied) ≡ u

pub Waits-pop : (ts : List Tree) (fs : List Frame) (f : Frame) (t u : Tree) → Waits ts (fs ++ f ∷ []) t u → Popped ts fs f t u
Waits-pop ts [] f t u w = record { waits = sym w.0; some = w.1; inside = w.2; next = w.3 }
Waits-pop ts (y ∷ fs) f t u w =
    let r = Waits-pop ts fs f (tree_at ts (y.first + y.copied)) u w.3 in
    record { waits = (w.0, w.1, w.2, r.waits); some = r.some; inside = r.inside; next = r.next }

-- variables of what is copied next are variables of the whole
pub Waits-occurs : (ts : List Tree) (fs : List Frame) (t u : Tree) (x : ℕ) → Waits ts fs t u → occurs x u ≡ true → occurs x t ≡ true
Waits-occurs ts [] t u x w o = subst (λ v. occurs x v ≡ true) (sym w) o
Waits-occurs ts (f ∷ fs) t u x w o =
    subst (λ v. occurs x v ≡ true) w.0 (span-occurs ts x f.first f.count f.copied w.1 (Waits-occurs ts fs (tree_at ts (f.first + f.copied)) u x w.3 o))

copied-push : (ts : List Tree) (fs : List Frame) (f : Frame) → copied ts (fs ++ f ∷ []) ≡ copied ts fs ++ items ts f.first f.copied
copied-push ts [] f = append-nil (items ts f.first f.copied)
copied-push ts (y ∷ fs) f = ap (λ xs. items ts y.first y.copied ++ xs) (copied-push ts fs f) ∙ sym (append_assoc (items ts y.first y.copied) (copied ts fs) (items ts f.first f.copied))

pub weight_frames-push : (ts : List Tree) (fs : List Frame) (f : Frame) → weight_frames ts (fs ++ f ∷ []) ≡ weight_frames ts fs + (2 * weight_all (span ts (f.first + (f.copied + 1)) (f.count - (f.copied + 1))) + 1)
weight_frames-push ts [] f = omega arith
weight_frames-push ts (y ∷ fs) f = omega (arith, weight_frames-push ts fs f)

-- ---- steps

module _ (ts : List Tree) (ks : List ℕ) (root : Tree) (old before : List Raw) where
  pub going-start : (fs : List Frame) (f : Frame) → fs ≡ [] → IsFirst ts root f → IsBlock ks old → Going ts ks root old before fs f before old
  going-start [] f e r b = record {
    waits = r.0;
    inside = r.1;
    part = let z = r.2 in omega arith;
    mine = [];
    split = sym (append-nil before);
    copies = subst (λ n. AreCopies ks old [] (items ts f.first n)) (sym r.2) tt;
    grown = λ c t k. k;
    is_block = b;
  }
  going-start (g ∷ fs) f e r b = absurd (let k = ap length e in omega arith)

  -- an argument is copied
  pub going-copied : (fs : List Frame) (f : Frame) (loose block : List Raw) (c : Raw) → f.copied < f.count → IsCopy ks block c (tree_at ts (f.first + f.copied)) → Going ts ks root old before fs f loose block
      → Going ts ks root old before fs (record { name = f.name; first = f.first; count = f.count; copied = f.copied + 1 }) (loose ++ c ∷ []) block
  going-copied fs f loose block c h k g = record {
    waits = g.waits;
    inside = g.inside;
    part = omega arith;
    mine = g.mine ++ c ∷ [];
    split = ap (λ xs. xs ++ c ∷ []) g.split ∙ append_assoc before g.mine (c ∷ []);
    copies = subst (AreCopies ks block (g.mine ++ c ∷ [])) same (AreCopies-append ks block g.mine (c ∷ []) (copied ts fs ++ items ts f.first f.copied) (tree_at ts (f.first + f.copied) ∷ []) g.copies (k, tt));
    grown = g.grown;
    is_block = g.is_block;
  }
    where
      s : suc f.copied ≡ f.copied + 1
      s = omega arith

      same : (copied ts fs ++ items ts f.first f.copied) ++ tree_at ts (f.first + f.copied) ∷ [] ≡ copied ts fs ++ items ts f.first (f.copied + 1)
      same =
          append_assoc (copied ts fs) (items ts f.first f.copied) (tree_at ts (f.first + f.copied) ∷ [])
          ∙ ap (λ xs. copied ts fs ++ xs) (sym (items-more ts f.first f.copied)) ∙ ap (λ m. copied ts fs ++ items ts f.first m) s

  -- an argument is begun
  pub going-begun : (fs : List Frame) (f h : Frame) (loose block : List Raw) → f.copied < f.count → IsFirst ts (tree_at ts (f.first + f.copied)) h → Going ts ks root old before fs f loose block
      → Going ts ks root old before (fs ++ f ∷ []) h loose block
  going-begun fs f h loose block l b g = record {
    waits = Waits-push ts fs f root (node f.name (span ts f.first f.count)) (node h.name (span ts h.first h.count)) g.waits refl l g.inside b.0;
    inside = b.1;
    part = let z = b.2 in omega arith;
    mine = g.mine;
    split = g.split;
    copies = subst (λ n. AreCopies ks block g.mine (copied ts (fs ++ f ∷ []) ++ items ts h.first n)) (sym b.2)
        (subst (AreCopies ks block g.mine) (sym (copied-push ts fs f) ∙ sym (append-nil (copied ts (fs ++ f ∷ [])))) g.copies);
    grown = g.grown;
    is_block = g.is_block;
  }

  -- the arguments get their places, and the term is copied
  pub record Settled (fs : List Frame) (f : Frame) (loose' block block' : List Raw) : Type 0 where
    pub mine : List Raw
    pub waits : Waits ts fs root (node f.name (span ts f.first f.count))
    pub split : loose' ≡ before ++ mine
    pub copies : AreCopies ks block' mine (copied ts fs)
    pub placed : IsCopy ks block' (Node f.name (length block) f.count) (node f.name (span ts f.first f.count))
    pub grown : Grown ks block block'
    pub longer : Grown ks old block'
    pub is_block : IsBlock ks block'

  pub settled : (fs : List Frame) (f : Frame) (loose block loose' block' : List Raw) → f.copied ≡ f.count
      → loose' ≡ take (length loose - f.count) loose → block' ≡ block ++ drop (length loose - f.count) loose → length block' ≤ 4294967295
      → Going ts ks root old before fs f loose block → Settled fs f loose' block block'
  settled fs f loose block loose' block' h el eb few g = record {
    mine = S.front;
    waits = g.waits;
    split = el ∙ ap (take rest) all ∙ ap (λ n. take n ((before ++ S.front) ++ S.back)) rest_is ∙ take-append_seam (before ++ S.front) S.back;
    copies = subst (λ b. AreCopies ks b S.front (copied ts fs)) (sym laid_is) (AreCopies-grown ks block (block ++ S.back) S.front (copied ts fs) L.grown S.first);
    placed = subst (λ b. IsCopy ks b (Node f.name (length block) f.count) (node f.name (span ts f.first f.count))) (sym laid_is) placed;
    grown = grown;
    longer = λ d t k. grown d t (g.grown d t k);
    is_block = subst (IsBlock ks) (sym laid_is) L.is_block;
  }
    where
      rest : ℕ
      rest = length loose - f.count

      S : Split ks block g.mine (copied ts fs) (items ts f.first f.count)
      S = AreCopies-split ks block g.mine (copied ts fs) (items ts f.first f.count) (subst (λ n. AreCopies ks block g.mine (copied ts fs ++ items ts f.first n)) h g.copies)

      all : loose ≡ (before ++ S.front) ++ S.back
      all = g.split ∙ ap (λ xs. before ++ xs) S.whole ∙ sym (append_assoc before S.front S.back)

      count : length S.back ≡ f.count
      count = AreCopies-length ks block S.back (items ts f.first f.count) S.second ∙ items-length ts f.first f.count

      rest_is : rest ≡ length (before ++ S.front)
      rest_is = let l = ap length all in let n = count in omega (arith, length-append (before ++ S.front) S.back)

      laid_is : block' ≡ block ++ S.back
      laid_is = eb ∙ ap (λ xs. block ++ drop rest xs) all ∙ ap (λ n. block ++ drop n ((before ++ S.front) ++ S.back)) rest_is ∙ ap (λ xs. block ++ xs) (drop-append_seam (before ++ S.front) S.back)

      L : Laid ks block S.back (items ts f.first f.count)
      L = laid ks block S.back (items ts f.first f.count) g.is_block S.second (subst (λ b. length b ≤ 4294967295) laid_is few)

      grown : Grown ks block block'
      grown d t k = subst (λ b. IsCopy ks b d t) (sym laid_is) (L.grown d t k)

      placed : IsCopy ks (block ++ S.back) (Node f.name (length block) f.count) (node f.name (span ts f.first f.count))
      placed = (
        (let n = count in omega (arith, length-append block S.back)),
        ap (λ n. node f.name (span (trees (block ++ S.back)) (length block) n)) (sym count) ∙ ap (node f.name) (L.terms ∙ ap (instance_all (numbered ks)) (to_trees-items ts f.first f.count)),
        subst (KnownAll ks) (to_trees-items ts f.first f.count) (copies-known ks block S.back (items ts f.first f.count) S.second),
      )

  -- what the term was an argument of goes on
  pub going-settled : (all fs : List Frame) (o f : Frame) (loose' block block' : List Raw) → all ≡ fs ++ o ∷ [] → Settled all f loose' block block'
      → Going ts ks root old before fs (record { name = o.name; first = o.first; count = o.count; copied = o.copied + 1 }) (loose' ++ Node f.name (length block) f.count ∷ []) block'
  going-settled all fs o f loose' block block' e s =
      going-copied fs o loose' block' (Node f.name (length block) f.count) P.some (subst (IsCopy ks block' (Node f.name (length block) f.count)) (sym P.next) s.placed)
      (record {
        waits = P.waits;
        inside = P.inside;
        part = let h = P.some in omega arith;
        mine = s.mine;
        split = s.split;
        copies = subst (AreCopies ks block' s.mine) (ap (copied ts) e ∙ copied-push ts fs o) s.copies;
        grown = s.longer;
        is_block = s.is_block;
      })
    where
      P : Popped ts fs o root (node f.name (span ts f.first f.count))
      P = Waits-pop ts fs o root (node f.name (span ts f.first f.count)) (subst (λ xs. Waits ts xs root (node f.name (span ts f.first f.count))) e s.waits)

  -- the whole is copied
  pub going-done : (fs : List Frame) (f : Frame) (loose' block block' : List Raw) → fs ≡ [] → Settled fs f loose' block block' → IsCopied ks old block' before (loose' ++ Node f.name (length block) f.count ∷ []) root
  going-done [] f loose' block block' e s = record {
    cell = Node f.name (length block) f.count;
    split = ap (λ xs. xs ++ Node f.name (length block) f.count ∷ []) (s.split ∙ ap (λ xs. before ++ xs) (AreCopies-none ks block' s.mine s.copies) ∙ append-nil before);
    copy = subst (IsCopy ks block' (Node f.name (length block) f.count)) (sym s.waits) s.placed;
    grown = s.longer;
  }
  going-done (g ∷ fs) f loose' block block' e s = absurd (let k = ap length e in omega arith)

  -- all cells of the newest frame are there
  pub going-enough : (fs : List Frame) (f : Frame) (loose block : List Raw) → f.copied ≡ f.count → Going ts ks root old before fs f loose block → f.count ≤ length loose
  going-enough fs f loose block h g =
      let l = ap length g.split in
      let m = AreCopies-length ks block g.mine (copied ts fs ++ items ts f.first f.copied) g.copies in
      let n = items-length ts f.first f.copied in
      omega (arith, length-append before g.mine, length-append (copied ts fs) (items ts f.first f.copied))

  -- variables of the next argument are variables of the whole
  pub going-known : (fs : List Frame) (f : Frame) (loose block : List Raw) → f.copied < f.count → Going ts ks root old before fs f loose block → Known ks root → Known ks (tree_at ts (f.first + f.copied))
  going-known fs f loose block h g k x o = k x (Waits-occurs ts fs root (node f.name (span ts f.first f.count)) x g.waits (span-occurs ts x f.first f.count f.copied h o))

-- ---- turns

-- a leaf is copied, or a term is begun
pub less-copied : (ts : List Tree) (fs : List Frame) (f : Frame) → f.copied < f.count
    → weight_frames ts fs + weight_frame ts (record { name = f.name; first = f.first; count = f.count; copied = f.copied + 1 }) < weight_frames ts fs + weight_frame ts f
less-copied ts fs f h =
    let w = ap weight_all (span-first ts (f.first + f.copied) (f.count - f.copied) (omega arith)) in
    let a : (f.first + f.copied) + 1 ≡ f.first + (f.copied + 1) = omega arith in
    let b : (f.count - f.copied) - 1 ≡ f.count - (f.copied + 1) = omega arith in
    let v = ap (λ p. weight_all (span ts p ((f.count - f.copied) - 1))) a ∙ ap (λ n. weight_all (span ts (f.first + (f.copied + 1)) n)) b in
    let p = weight-some (tree_at ts (f.first + f.copied)) in
    omega arith

pub less-begun : (ts : List Tree) (fs : List Frame) (f h : Frame) → f.copied < f.count → IsFirst ts (tree_at ts (f.first + f.copied)) h
    → weight_frames ts (fs ++ f ∷ []) + weight_frame ts h < weight_frames ts fs + weight_frame ts f
less-begun ts fs f h l b =
    let w = ap weight_all (span-first ts (f.first + f.copied) (f.count - f.copied) (omega arith)) in
    let a : (f.first + f.copied) + 1 ≡ f.first + (f.copied + 1) = omega arith in
    let c : (f.count - f.copied) - 1 ≡ f.count - (f.copied + 1) = omega arith in
    let v = ap (λ p. weight_all (span ts p ((f.count - f.copied) - 1))) a ∙ ap (λ n. weight_all (span ts (f.first + (f.copied + 1)) n)) c in
    let t = ap weight b.0 in
    let p : h.first + h.copied ≡ h.first = let z = b.2 in omega arith in
    let q : h.count - h.copied ≡ h.count = let z = b.2 in omega arith in
    let u = ap (λ i. weight_all (span ts i (h.count - h.copied))) p ∙ ap (λ n. weight_all (span ts h.first n)) q in
    omega (arith, weight_frames-push ts fs f)

-- a term is ended
pub less-ended : (ts : List Tree) (all fs : List Frame) (o f : Frame) → all ≡ fs ++ o ∷ []
    → weight_frames ts fs + weight_frame ts (record { name = o.name; first = o.first; count = o.count; copied = o.copied + 1 }) < weight_frames ts all + weight_frame ts f
less-ended ts all fs o f e = let w = ap (weight_frames ts) e in omega (arith, weight_frames-push ts fs o)
