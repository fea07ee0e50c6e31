-- What a push, a binding and an undoing leave of a store.
use Rattle.std.proofs.Common.{◌≡◌, ℕ, zero, suc, ◌+◌, ◌<◌, ◌≤◌, ◌⊎◌, true, false, List, [], ◌∷◌, ◌++◌, length, map, take, drop, get_or, set, refl, sym, ap, ◌∙◌, subst, arith, inl, inr, length-set, length-drop, eqb}
use Rattle.std.proofs.lemmas.List.{append-nil, take_all, drop_more, get_or-drop, get_or_append_left, get_or_push, get_or-take, get_or-set_same, get_or-set_other, get_or_default, length_push, length-take-le, set-set, set-get_or, set_comm, set-append_left, drop_all, drop-append-le, take-append-le, take-take, take-append-drop}
use Rattle.std.proofs.lemmas.Bool.{cases_lt, cases_eq, ne_eqb}
use Rattle.std.specs.List.{list_any}
use Rattle.ap_term.proofs.Solutions.{same_var}
use Rattle.std.proofs.lemmas.Map.Steps.{length-le_from_distinct_below}
use Rattle.std.proofs.lemmas.List.Sums.{sum_by-set}
use Rattle.std.proofs.lemmas.Map.Keys.{IsDistinct-from_apart}
use Rattle.ap_term.specs.Tree.{Tree, var}
use Rattle.ap_term.specs.Substitution.{instance, value, one}
use Rattle.ap_term.specs.Vars.{occurs}
use Rattle.ap_cells.specs.declared.cells.Raw.{Raw}
use Rattle.ap_cells.specs.declared.cells.Raw.TheVariants.{Free, Same, Int, Atom, Node}
use Rattle.ap_cells.specs.Trees.{tree_at, step, Within, Stand, Finite, trees, IsEnd, link, frees, free_one}
use Rattle.ap_cells.specs.Store.{Store, freed, Closed, IsMark, IsTrail, IsStore, undone, Keeps}
use Rattle.ap_cells.proofs.Stands.{Stand-push, Stand-cut, Stand-bind, Stand-down, Stand-free}
use Rattle.ap_cells.proofs.Rounds.{trees_are, or_split}

pub freed-length : (xs : List ℕ) (cs : List Raw) → length (freed xs cs) ≡ length cs
freed-length [] cs = refl
freed-length (x ∷ xs) cs = length-set (freed xs cs) x Free ∙ freed-length xs cs

pub freed-append : (xs ys : List ℕ) (cs : List Raw) → freed (xs ++ ys) cs ≡ freed xs (freed ys cs)
freed-append [] ys cs = refl
freed-append (x ∷ xs) ys cs = ap (λ ds. set ds x Free) (freed-append xs ys cs)

pub freed-push : (xs : List ℕ) (cs : List Raw) (c : Raw) → ((k : ℕ) → k < length xs → get_or xs k 0 < length cs) → freed xs (cs ++ c ∷ []) ≡ freed xs cs ++ c ∷ []
freed-push [] cs c h = refl
freed-push (x ∷ xs) cs c h =
    let l : x < length cs = h 0 (omega arith) in
    ap (λ ds. set ds x Free) (freed-push xs cs c (λ k i. h (suc k) (omega arith))) ∙ set-append_left (freed xs cs) (c ∷ []) x Free (omega (arith, freed-length xs cs))

pub freed-bind : (xs : List ℕ) (cs : List Raw) (x : ℕ) (c : Raw) → ((d : Raw) → get_or cs x d ≡ Free) → freed (xs ++ x ∷ []) (set cs x c) ≡ freed xs cs
freed-bind xs cs x c e =
    freed-append xs (x ∷ []) (set cs x c) ∙ ap (freed xs) (set-set cs x c Free ∙ ap (set cs x) (sym (e Free)) ∙ set-get_or cs x Free)

take-set-any : (n : ℕ) (cs : List Raw) (x : ℕ) (c : Raw) → take n (set cs x c) ≡ set (take n cs) x c
take-set-any zero cs x c = refl
take-set-any (suc n) [] x c = refl
take-set-any (suc n) (d ∷ cs) zero c = refl
take-set-any (suc n) (d ∷ cs) (suc x) c = ap (λ ds. d ∷ ds) (take-set-any n cs x c)

pub freed-take : (n : ℕ) (xs : List ℕ) (cs : List Raw) → take n (freed xs cs) ≡ freed xs (take n cs)
freed-take n [] cs = refl
freed-take n (x ∷ xs) cs = take-set-any n (freed xs cs) x Free ∙ ap (λ ds. set ds x Free) (freed-take n xs cs)

-- freed places lead nowhere
pub freed-closed : (n : ℕ) (xs : List ℕ) (cs : List Raw) → Closed n cs → n ≤ length cs → Closed n (freed xs cs)
freed-closed n [] cs k h i d l = k i d l
freed-closed n (x ∷ xs) cs k h i d l = elim (cases_eq i x) [
  | inl e ↦ rw (e, get_or-set_same (freed xs cs) x Free d (omega (arith, freed-length xs cs))) tt
  | inr m ↦ rw (get_or-set_other (freed xs cs) x i Free d m) (freed-closed n xs cs k h i d l)
]

-- a place that isn't freed stays
freed-other : (xs : List ℕ) (cs : List Raw) (x : ℕ) (d : Raw) → ((k : ℕ) → k < length xs → get_or xs k 0 ≡ x → ⊥) → get_or (freed xs cs) x d ≡ get_or cs x d
freed-other [] cs x d h = refl
freed-other (y ∷ xs) cs x d h = get_or-set_other (freed xs cs) y x Free d (λ e. h 0 (omega arith) (sym e)) ∙ freed-other xs cs x d (λ k l. h (suc k) (omega arith))

member_below : (n : ℕ) (xs : List ℕ) → ((k : ℕ) → k < length xs → get_or xs k 0 < n) → (q : ℕ) → list_any (eqb q) xs ≡ true → q < n
member_below n [] h q e = cc
member_below n (x ∷ xs) h q e = elim (or_split (eqb q x) (list_any (eqb q) xs) e) [
  | inl p ↦ let k : q ≡ x = same_var q x p in let l : x < n = h 0 (omega arith) in omega arith
  | inr p ↦ member_below n xs (λ k l. h (suc k) (omega arith)) q p
]

pub IsTrail-length : (cs : List Raw) (trail : List ℕ) → IsTrail cs trail → length trail ≤ length cs
IsTrail-length cs trail t =
    length-le_from_distinct_below trail (length cs)
    (IsDistinct-from_apart eqb trail (λ i j d h l. ne_eqb _ _ (λ e. t.apart i j h l (get_or_default trail i 0 d (omega arith) ∙ e ∙ get_or_default trail j d 0 l))))
    (member_below (length cs) trail t.below)

pub IsStore-new : IsStore [] []
IsStore-new = record {
  finite = λ t. rw (drop_all {X = ℕ} t [] (omega arith)) ([], record { len = refl; each = λ i d h. absurd (omega arith); within = λ i d h. absurd (omega arith) });
  is_trail = record { below = λ k h. absurd (omega arith); bound = λ k d h. absurd (omega arith); apart = λ j k h l. absurd (omega arith) };
}

pub IsStore-push : (cs : List Raw) (trail : List ℕ) (c : Raw) → IsStore cs trail → Within (length cs) (length cs) c → IsStore (cs ++ c ∷ []) trail
IsStore-push cs trail c s w = record {
  finite = λ t.
      let b : length (freed (drop t trail) cs) ≡ length cs = freed-length (drop t trail) cs in
      let f = s.finite t in
      subst Finite (sym (freed-push (drop t trail) cs c (λ k h. rw (get_or-drop t trail k 0) (s.is_trail.below (t + k) (omega (arith, length-drop t trail))))))
      (_, Stand-push (freed (drop t trail) cs) f.0 c f.1 (subst (λ n. Within n n c) (sym b) w));
  is_trail = record {
    below = λ k h. let l = s.is_trail.below k h in omega (arith, length_push cs c);
    bound = λ k d h. rw (get_or_append_left cs (c ∷ []) d (get_or trail k 0) (s.is_trail.below k h)) (s.is_trail.bound k d h);
    apart = s.is_trail.apart;
  };
}

Finite-bind : (cs : List Raw) (x : ℕ) (c : Raw) → (f : Finite cs) → x < length cs → ((d : Raw) → get_or cs x d ≡ Free) → Within (length cs) x c → (c ≡ Free → ⊥)
    → occurs x (step (trees cs) x c) ≡ false → Stand (set cs x c) (map (instance (value (one x (step (trees cs) x c)))) (trees cs))
Finite-bind cs x c f h free w bound o =
    let e : trees cs ≡ f.0 = trees_are cs f.0 f.1 in
    Stand-bind cs (trees cs) x c (subst (Stand cs) (sym e) f.1) h free w bound o

-- a place bound once more, at the end of the trail
pub IsTrail-bind : (cs : List Raw) (trail : List ℕ) (x : ℕ) (c : Raw) → IsTrail cs trail → x < length cs → ((d : Raw) → get_or cs x d ≡ Free) → (c ≡ Free → ⊥) → IsTrail (set cs x c) (trail ++ x ∷ [])
IsTrail-bind cs trail x c t h free b = record {
  below = λ k l. below k (omega (arith, length_push trail x));
  bound = λ k d l. bound k d (omega (arith, length_push trail x));
  apart = λ j k l m. apart j k l (omega (arith, length_push trail x));
}
  where
    old : (k : ℕ) → k < length trail → get_or (trail ++ x ∷ []) k 0 ≡ get_or trail k 0
    old k l = get_or_append_left trail (x ∷ []) 0 k l

    last : get_or (trail ++ x ∷ []) (length trail) 0 ≡ x
    last = get_or_push trail x 0 (length trail) refl

    other : (k : ℕ) → k < length trail → get_or trail k 0 ≡ x → ⊥
    other k l e = t.bound k Free l (ap (λ y. get_or cs y Free) e ∙ free Free)

    below : (k : ℕ) → k < length trail + 1 → get_or (trail ++ x ∷ []) k 0 < length (set cs x c)
    below k l = elim (cases_lt k (length trail)) [
      | inl m ↦ let a = old k m in let b = t.below k m in omega (arith, length-set cs x c)
      | inr g ↦ let e : k ≡ length trail = omega arith in rw e (omega (arith, last, length-set cs x c))
    ]

    bound : (k : ℕ) (d : Raw) → k < length trail + 1 → get_or (set cs x c) (get_or (trail ++ x ∷ []) k 0) d ≡ Free → ⊥
    bound k d l = elim (cases_lt k (length trail)) [
      | inl m ↦ rw (old k m, get_or-set_other cs x (get_or trail k 0) c d (other k m)) (t.bound k d m)
      | inr g ↦ let e : k ≡ length trail = omega arith in rw (e, last, get_or-set_same cs x c d h) b
    ]

    apart : (j k : ℕ) → j < k → k < length trail + 1 → get_or (trail ++ x ∷ []) j 0 ≡ get_or (trail ++ x ∷ []) k 0 → ⊥
    apart j k l m e = elim (cases_lt k (length trail)) [
      | inl n ↦ t.apart j k l n (sym (old j (omega arith)) ∙ e ∙ old k n)
      | inr g ↦ let p : k ≡ length trail = omega arith in other j (omega arith) (sym (old j (omega arith)) ∙ e ∙ ap (λ n. get_or (trail ++ x ∷ []) n 0) p ∙ last)
    ]

pub IsStore-bind : (cs : List Raw) (trail : List ℕ) (x : ℕ) (c : Raw) → IsStore cs trail → x < length cs → ((d : Raw) → get_or cs x d ≡ Free) → Within (length cs) x c → (c ≡ Free → ⊥)
    → occurs x (step (trees cs) x c) ≡ false → IsStore (set cs x c) (trail ++ x ∷ [])
IsStore-bind cs trail x c s h free w b o = record {
  finite = λ t. elim (cases_lt (length trail) t) [
    | inl l ↦ rw (drop_all t (trail ++ x ∷ []) (omega (arith, length_push trail x))) (_, Finite-bind cs x c here h free w b o)
    | inr g ↦ rw (drop-append-le t trail (x ∷ []) g, freed-bind (drop t trail) cs x c free) (s.finite t)
  ];
  is_trail = IsTrail-bind cs trail x c s.is_trail h free b;
}
  where
    here : Finite cs
    here = subst (λ xs. Finite (freed xs cs)) (drop_all (length trail) trail (omega arith)) (s.finite (length trail))

drop-take-append : (m n : ℕ) (xs : List ℕ) → m ≤ n → n ≤ length xs → drop m (take n xs) ++ drop n xs ≡ drop m xs
drop-take-append m n xs h l =
    sym (drop-append-le m (take n xs) (drop n xs) (omega (arith, length-take-le n xs l))) ∙ ap (drop m) (take-append-drop n xs)

-- undone to a mark, and then further
undone-further : (cs : List Raw) (trail : List ℕ) (n t u : ℕ) → t ≤ length trail → u ≤ t → freed (drop u (take t trail)) (take n (freed (drop t trail) cs)) ≡ take n (freed (drop u trail) cs)
undone-further cs trail n t u h l =
    sym (freed-take n (drop u (take t trail)) (freed (drop t trail) cs))
    ∙ ap (take n) (sym (freed-append (drop u (take t trail)) (drop t trail) cs) ∙ ap (λ xs. freed xs cs) (drop-take-append u t trail l h))

closed-further : (cs : List Raw) (trail : List ℕ) (n t u : ℕ) → t ≤ length trail → u ≤ t → n ≤ length cs → Closed n (freed (drop t trail) cs) → Closed n (freed (drop u trail) cs)
closed-further cs trail n t u h l m k =
    subst (Closed n) (sym (freed-append (drop u (take t trail)) (drop t trail) cs) ∙ ap (λ xs. freed xs cs) (drop-take-append u t trail l h))
    (freed-closed n (drop u (take t trail)) (freed (drop t trail) cs) k (omega (arith, freed-length (drop t trail) cs)))

pub IsStore-undo : (cs : List Raw) (trail : List ℕ) (n t : ℕ) → IsStore cs trail → IsMark cs trail n t → IsStore (take n (freed (drop t trail) cs)) (take t trail)
IsStore-undo cs trail n t s m = record {
  finite = λ u. elim (cases_lt t u) [
    | inl l ↦
        rw (drop_all u (take t trail) (omega (arith, cut))) (cut_at t m.closed)
    | inr g ↦ rw (undone-further cs trail n t u m.earlier g) (cut_at u (closed-further cs trail n t u m.earlier g m.fewer m.closed))
  ];
  is_trail = record {
    below = λ k h. rw (get_or-take t trail k 0 (omega (arith, cut))) (omega (arith, m.below k (omega (arith, cut)), left));
    bound = λ k d h. rw (get_or-take t trail k 0 (omega (arith, cut)), get_or-take n (freed (drop t trail) cs) (get_or trail k 0) d (m.below k (omega (arith, cut))), freed-other (drop t trail) cs (get_or trail k 0) d (other k (omega (arith, cut))))
        (s.is_trail.bound k d (omega (arith, cut, m.earlier)));
    apart = λ j k h l. rw (get_or-take t trail j 0 (omega (arith, cut)), get_or-take t trail k 0 (omega (arith, cut))) (s.is_trail.apart j k h (omega (arith, cut, m.earlier)));
  };
}
  where
    cut : length (take t trail) ≡ t
    cut = length-take-le t trail m.earlier

    left : length (take n (freed (drop t trail) cs)) ≡ n
    left = length-take-le n (freed (drop t trail) cs) (omega (arith, freed-length (drop t trail) cs, m.fewer))

    cut_at : (u : ℕ) → Closed n (freed (drop u trail) cs) → Finite (take n (freed (drop u trail) cs))
    cut_at u k = let f = s.finite u in (_, Stand-cut (freed (drop u trail) cs) f.0 n f.1 (omega (arith, freed-length (drop u trail) cs, m.fewer)) k)

    other : (k : ℕ) → k < t → (j : ℕ) → j < length (drop t trail) → get_or (drop t trail) j 0 ≡ get_or trail k 0 → ⊥
    other k h j l e = s.is_trail.apart k (t + j) (omega arith) (omega (arith, length-drop t trail)) (sym e ∙ get_or-drop t trail j 0)

pub Keeps-refl : (v : Store) → Keeps v v
Keeps-refl v = record { stays = λ n t m. m; leads = λ n t m. refl }

pub Keeps-trans : (u v w : Store) → Keeps u v → Keeps v w → Keeps u w
Keeps-trans u v w p q = record { stays = λ n t m. q.stays n t (p.stays n t m); leads = λ n t m. q.leads n t (p.stays n t m) ∙ p.leads n t m }

-- a store of which each earlier state is as it was
keeps : (v w : Store) → ((t : ℕ) → t ≤ length v.trail → (xs : List Raw) × (freed (drop t w.trail) w.cells ≡ freed (drop t v.trail) v.cells ++ xs))
    → length v.cells ≤ length w.cells → ((k : ℕ) → k < length v.trail → get_or w.trail k 0 ≡ get_or v.trail k 0) → length v.trail ≤ length w.trail → Keeps v w
keeps v w e h l m = record {
  stays = λ n t k. record {
    fewer = omega (arith, k.fewer);
    earlier = omega (arith, k.earlier);
    below = λ j i. rw (l j (omega (arith, k.earlier))) (k.below j i);
    closed = λ i d j. rw ((e t k.earlier).1, get_or_append_left (freed (drop t v.trail) v.cells) (e t k.earlier).0 d i (omega (arith, freed-length (drop t v.trail) v.cells, k.fewer))) (k.closed i d j);
  };
  leads = λ n t k. ap (take n) (e t k.earlier).1 ∙ take-append-le n (freed (drop t v.trail) v.cells) (e t k.earlier).0 (omega (arith, freed-length (drop t v.trail) v.cells, k.fewer));
}

pub Keeps-push : (v w : Store) (c : Raw) → IsStore v.cells v.trail → w.cells ≡ v.cells ++ c ∷ [] → w.trail ≡ v.trail → Keeps v w
Keeps-push v w c s p q =
    keeps v w
    (λ t h. (
      c ∷ [],
      ap (λ cs. freed (drop t w.trail) cs) p ∙ ap (λ xs. freed (drop t xs) (v.cells ++ c ∷ [])) q
          ∙ freed-push (drop t v.trail) v.cells c (λ k l. rw (get_or-drop t v.trail k 0) (s.is_trail.below (t + k) (omega (arith, length-drop t v.trail)))),
    ))
    (rw p (omega (arith, length_push v.cells c)))
    (λ k h. ap (λ xs. get_or xs k 0) q)
    (rw q (omega arith))

pub Keeps-bind : (v w : Store) (x : ℕ) (c : Raw) → ((d : Raw) → get_or v.cells x d ≡ Free) → w.cells ≡ set v.cells x c → w.trail ≡ v.trail ++ x ∷ [] → Keeps v w
Keeps-bind v w x c free p q =
    keeps v w
    (λ t h. (
      [],
      ap (λ cs. freed (drop t w.trail) cs) p ∙ ap (λ xs. freed (drop t xs) (set v.cells x c)) q
          ∙ ap (λ xs. freed xs (set v.cells x c)) (drop-append-le t v.trail (x ∷ []) h) ∙ freed-bind (drop t v.trail) v.cells x c free ∙ sym (append-nil (freed (drop t v.trail) v.cells)),
    ))
    (rw (p, length-set v.cells x c) (omega arith))
    (λ k h. ap (λ xs. get_or xs k 0) q ∙ get_or_append_left v.trail (x ∷ []) 0 k h)
    (rw q (omega (arith, length_push v.trail x)))

pub IsStore-finite : (cs : List Raw) (trail : List ℕ) → IsStore cs trail → Finite cs
IsStore-finite cs trail s = subst (λ xs. Finite (freed xs cs)) (drop_all (length trail) trail (omega arith)) (s.finite (length trail))

-- the cells of a store stand for their trees
pub IsStore-stand : (cs : List Raw) (trail : List ℕ) → IsStore cs trail → Stand cs (trees cs)
IsStore-stand cs trail s = let f = IsStore-finite cs trail s in subst (Stand cs) (sym (trees_are cs f.0 f.1)) f.1

pub trees-push : (cs : List Raw) (trail : List ℕ) (c : Raw) → IsStore cs trail → Within (length cs) (length cs) c → trees (cs ++ c ∷ []) ≡ trees cs ++ step (trees cs) (length cs) c ∷ []
trees-push cs trail c s w = trees_are (cs ++ c ∷ []) _ (Stand-push cs (trees cs) c (IsStore-stand cs trail s) w)

pub trees-bind : (cs : List Raw) (trail : List ℕ) (x : ℕ) (c : Raw) → IsStore cs trail → x < length cs → ((d : Raw) → get_or cs x d ≡ Free) → Within (length cs) x c → (c ≡ Free → ⊥)
    → occurs x (step (trees cs) x c) ≡ false → trees (set cs x c) ≡ map (instance (value (one x (step (trees cs) x c)))) (trees cs)
trees-bind cs trail x c s h free w b o = trees_are (set cs x c) _ (Stand-bind cs (trees cs) x c (IsStore-stand cs trail s) h free w b o)

bound_none : (c : Raw) → (c ≡ Free → ⊥) → free_one c ≡ 0
bound_none Free h = absurd (h refl)
bound_none (Same j) h = refl
bound_none (Int z) h = refl
bound_none (Atom a) h = refl
bound_none (Node a p n) h = refl

-- the cell by which a place has the term of what stands at the end of a chain
abbrev pub Links : List Tree → ℕ → ℕ → ℕ → Raw → Type 0
Links ts n place end c = (step ts place c ≡ tree_at ts end) × Within n place c × (c ≡ Free → ⊥)

pub links : (ts : List Tree) (n place end : ℕ) (r : Raw) → tree_at ts end ≡ step ts end r → Within n end r → IsEnd r → ((x : ℕ) → tree_at ts end ≡ var x → x < place) → Links ts n place end (link end r)
links ts n place end Free e w i d = (refl, d end e, λ p. cc)
links ts n place end (Same j) e w i d = absurd i
links ts n place end (Int z) e w i d = (sym e, tt, λ p. cc)
links ts n place end (Atom a) e w i d = (sym e, tt, λ p. cc)
links ts n place end (Node a p m) e w i d = (sym e, w, λ p. cc)

-- at a new place
pub links-new : (cs : List Raw) (trail : List ℕ) (end : ℕ) (r : Raw) → IsStore cs trail → end < length cs → tree_at (trees cs) end ≡ step (trees cs) end r → Within (length cs) end r → IsEnd r → Links (trees cs) (length cs) (length cs) end (link end r)
links-new cs trail end r s h e w i =
    links (trees cs) (length cs) (length cs) end r e w i (λ x v. let d = Stand-down cs (trees cs) (IsStore-stand cs trail s) (end + 1) end x Free (omega arith) h v in omega arith)

-- a cell by which a new place has the term of one at the end of a chain
pub linked-new : (cs : List Raw) (trail : List ℕ) (end : ℕ) (c : Raw) → IsStore cs trail → end < length cs → ((d : Raw) → IsEnd (get_or cs end d)) → ((d : Raw) → (c ≡ Same end) ⊎ (c ≡ link end (get_or cs end d)))
    → Links (trees cs) (length cs) (length cs) end c
linked-new cs trail end c s h ends k =
    let stand = IsStore-stand cs trail s in
    elim (k Free) [
      | inl e ↦ subst (Links (trees cs) (length cs) (length cs) end) (sym e) (refl, h, λ p. cc)
      | inr e ↦
          subst (Links (trees cs) (length cs) (length cs) end) (sym e)
          (links-new cs trail end (get_or cs end Free) s h (stand.each end Free h) (stand.within end Free h) (ends Free))
    ]

-- a place bound
pub record Bound (cs : List Raw) (trail : List ℕ) (place : ℕ) (c : Raw) : Type 0 where
  pub store : IsStore (set cs place c) (trail ++ place ∷ [])
  pub room : length trail + 1 ≤ length cs
  pub trees_new : trees (set cs place c) ≡ map (instance (value (one place (step (trees cs) place c)))) (trees cs)
  pub free : (d : Raw) → get_or cs place d ≡ Free
  pub fewer : frees (set cs place c) + 1 ≡ frees cs

pub bound_is : (cs : List Raw) (trail : List ℕ) (place : ℕ) (c : Raw) → IsStore cs trail → place < length cs → Within (length cs) place c → (c ≡ Free → ⊥) → tree_at (trees cs) place ≡ var place
    → occurs place (step (trees cs) place c) ≡ false → Bound cs trail place c
bound_is cs trail place c s h w b u absent = record {
  store = IsStore-bind cs trail place c s h free w b absent;
  room = omega (arith, IsTrail-length (set cs place c) (trail ++ place ∷ []) (IsTrail-bind cs trail place c s.is_trail h free b), length_push trail place, length-set cs place c);
  trees_new = trees-bind cs trail place c s h free w b absent;
  free = free;
  fewer = let e = sum_by-set free_one cs place c Free h in let z = bound_none c b in let y = ap free_one (free Free) in omega arith;
}
  where
    free : (d : Raw) → get_or cs place d ≡ Free
    free d = Stand-free cs (trees cs) place d (IsStore-stand cs trail s) h u

pub freed-first : (xs : List ℕ) (cs : List Raw) (x : ℕ) → freed xs (set cs x Free) ≡ set (freed xs cs) x Free
freed-first [] cs x = refl
freed-first (y ∷ xs) cs x = elim (cases_eq x y) [
  | inl e ↦ ap (λ ds. set ds y Free) (freed-first xs cs x) ∙ rw e refl
  | inr n ↦ ap (λ ds. set ds y Free) (freed-first xs cs x) ∙ set_comm (freed xs cs) x y Free Free n
]

-- one place of a trail
pub freed-more : (trail : List ℕ) (cs : List Raw) (i : ℕ) → i < length trail → freed (drop (i + 1) trail) (set cs (get_or trail i 0) Free) ≡ freed (drop i trail) cs
freed-more trail cs i h = freed-first (drop (i + 1) trail) cs (get_or trail i 0) ∙ ap (λ xs. freed xs cs) (sym (drop_more trail i 0 h))

pub IsMark-here : (cs : List Raw) (trail : List ℕ) → IsStore cs trail → IsMark cs trail (length cs) (length trail)
IsMark-here cs trail s = record {
  fewer = omega arith;
  earlier = omega arith;
  below = s.is_trail.below;
  closed = λ i d h. rw (drop_all (length trail) trail (omega arith)) ((IsStore-stand cs trail s).within i d h);
}

pub undone-here : (v : Store) → undone v (length v.cells) (length v.trail) ≡ v.cells
undone-here v = rw (drop_all (length v.trail) v.trail (omega arith)) (take_all (length v.cells) v.cells (omega arith))

pub IsMark-older : (cs : List Raw) (trail : List ℕ) (m u n t : ℕ) → IsMark cs trail m u → n ≤ m → t ≤ u → IsMark cs trail n t → IsMark (take m (freed (drop u trail) cs)) (take u trail) n t
IsMark-older cs trail m u n t k h l o = record {
  fewer = omega (arith, length-take-le m (freed (drop u trail) cs) (omega (arith, freed-length (drop u trail) cs, k.fewer)));
  earlier = omega (arith, length-take-le u trail k.earlier);
  below = λ j i. rw (get_or-take u trail j 0 (omega arith)) (o.below j i);
  closed = λ i d j. rw (undone-further cs trail m u t k.earlier l, get_or-take m (freed (drop t trail) cs) i d (omega arith)) (o.closed i d j);
}

pub undone-older : (cs : List Raw) (trail : List ℕ) (m u n t : ℕ) → u ≤ length trail → n ≤ m → t ≤ u → take n (freed (drop t (take u trail)) (take m (freed (drop u trail) cs))) ≡ take n (freed (drop t trail) cs)
undone-older cs trail m u n t e h l = ap (take n) (undone-further cs trail m u t e l) ∙ take-take n m (freed (drop t trail) cs) h
