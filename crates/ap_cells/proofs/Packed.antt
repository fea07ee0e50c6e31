-- The cells of words that are put behind others, in the place of one, or cut off.
use Rattle.std.proofs.Common.{◌≡◌, ◌≢◌, ℕ, zero, suc, ◌+◌, ◌<◌, List, [], ◌∷◌, ◌++◌, length, take, get_or, set, refl, sym, ap, ◌∙◌, arith, inl, inr, length-set}
use Rattle.std.proofs.lemmas.Bool.{cases_eq, cases_lt}
use Rattle.std.proofs.lemmas.List.{same_lists, length_push, length-take-le, take_all, get_or_default, get_or_push, get_or_append_left, get_or-set_same, get_or-set_other, get_or-take}
use Rattle.std.specs.Option.{MatchOption}
use Rattle.std.proofs.Common.{Option, Some, None, IfSome, subst}
use Rattle.ap_cells.specs.declared.cells.Raw.{Raw}
use Rattle.ap_cells.specs.declared.cells.Raw.TheVariants.{Free, Same}
use Rattle.ap_cells.specs.Packing.{raw_in, raws_from, raws_in}
use Rattle.ap_cells.specs.Trees.{tree_at, trees, step, Within, IsEnd}
use Rattle.ap_cells.specs.Store.{IsStore}
use Rattle.ap_cells.proofs.Stores.{IsStore-stand}

length_from : (i : ℕ) (ws vs : List ℕ) → length (raws_from i ws vs) ≡ length ws
length_from i [] vs = refl
length_from i (w ∷ ws) vs = ap suc (length_from (i + 1) ws vs)

pub raws-length : (ws vs : List ℕ) → length (raws_in ws vs) ≡ length ws
raws-length ws vs = length_from 0 ws vs

at_from : (i : ℕ) (ws vs : List ℕ) (k : ℕ) (d : Raw) → k < length ws → get_or (raws_from i ws vs) k d ≡ raw_in (get_or ws k 0) (get_or vs (i + k) 0)
at_from i [] vs k d h = absurd (omega arith)
at_from i (w ∷ ws) vs zero d h = let e : i + 0 ≡ i = omega arith in ap (λ j. raw_in w (get_or vs j 0)) (sym e)
at_from i (w ∷ ws) vs (suc k) d h =
    let e : i + 1 + k ≡ i + suc k = omega arith in
    at_from (i + 1) ws vs k d (omega arith) ∙ ap (λ j. raw_in (get_or ws k 0) (get_or vs j 0)) e

pub raws-at : (ws vs : List ℕ) (k : ℕ) (d : Raw) → k < length ws → get_or (raws_in ws vs) k d ≡ raw_in (get_or ws k 0) (get_or vs k 0)
raws-at ws vs k d h =
    let e : 0 + k ≡ k = omega arith in
    at_from 0 ws vs k d h ∙ ap (λ j. raw_in (get_or ws k 0) (get_or vs j 0)) e

pub raws-read : (ws vs : List ℕ) (k w a : ℕ) (d : Raw) → k < length ws → w ≡ get_or ws k w → a ≡ get_or vs k 0 → raw_in w a ≡ get_or (raws_in ws vs) k d
raws-read ws vs k w a d h e f =
    ap (λ x. raw_in x a) (e ∙ get_or_default ws k w 0 h) ∙ ap (raw_in (get_or ws k 0)) f ∙ sym (raws-at ws vs k d h)

-- what stands apart is the same at all places but one
abbrev pub SameBeside : ℕ → List ℕ → List ℕ → Type 0
SameBeside k us vs = (j : ℕ) → j ≢ k → get_or us j 0 ≡ get_or vs j 0

pub raws-set : (ws vs us : List ℕ) (k w : ℕ) (c : Raw) → k < length ws → raw_in w (get_or us k 0) ≡ c → SameBeside k us vs → raws_in (set ws k w) us ≡ set (raws_in ws vs) k c
raws-set ws vs us k w c h e s =
    same_lists (raws_in (set ws k w) us) (set (raws_in ws vs) k c)
    (raws-length (set ws k w) us ∙ length-set ws k w ∙ sym (length-set (raws_in ws vs) k c ∙ raws-length ws vs))
    (λ j d l. each j d (omega (arith, l, raws-length (set ws k w) us, length-set ws k w)))
  where
    each : (j : ℕ) (d : Raw) → j < length ws → get_or (raws_in (set ws k w) us) j d ≡ get_or (set (raws_in ws vs) k c) j d
    each j d l = raws-at (set ws k w) us j d (omega (arith, l, length-set ws k w)) ∙ elim (cases_eq j k) [
      | inl p ↦ rw p (rw (get_or-set_same ws k w 0 h, get_or-set_same (raws_in ws vs) k c d (omega (arith, h, raws-length ws vs))) e)
      | inr n ↦ rw (get_or-set_other ws k j w 0 n, get_or-set_other (raws_in ws vs) k j c d n, s j n) (sym (raws-at ws vs j d l))
    ]

pub raws-push : (ws vs us : List ℕ) (w : ℕ) (c : Raw) → raw_in w (get_or us (length ws) 0) ≡ c → SameBeside (length ws) us vs → raws_in (ws ++ w ∷ []) us ≡ raws_in ws vs ++ c ∷ []
raws-push ws vs us w c e s =
    same_lists (raws_in (ws ++ w ∷ []) us) (raws_in ws vs ++ c ∷ [])
    (omega (arith, raws-length (ws ++ w ∷ []) us, length_push ws w, length_push (raws_in ws vs) c, raws-length ws vs))
    (λ j d l. each j d (omega (arith, l, raws-length (ws ++ w ∷ []) us, length_push ws w)))
  where
    each : (j : ℕ) (d : Raw) → j < length ws + 1 → get_or (raws_in (ws ++ w ∷ []) us) j d ≡ get_or (raws_in ws vs ++ c ∷ []) j d
    each j d l = raws-at (ws ++ w ∷ []) us j d (omega (arith, l, length_push ws w)) ∙ elim (cases_lt j (length ws)) [
      | inl m ↦
          rw (get_or_append_left ws (w ∷ []) 0 j m, get_or_append_left (raws_in ws vs) (c ∷ []) d j (omega (arith, m, raws-length ws vs)), s j (λ p. omega arith))
          (sym (raws-at ws vs j d m))
      | inr g ↦
          let p : j ≡ length ws = omega arith in
          rw (get_or_push ws w 0 j (sym p), get_or_push (raws_in ws vs) c d j (raws-length ws vs ∙ sym p)) (ap (λ i. raw_in w (get_or us i 0)) p ∙ e)
    ]

pub raws-take : (n : ℕ) (ws vs : List ℕ) → raws_in (take n ws) (take n vs) ≡ take n (raws_in ws vs)
raws-take n ws vs = elim (cases_lt n (length ws)) [
  | inl l ↦
      same_lists (raws_in (take n ws) (take n vs)) (take n (raws_in ws vs))
      (raws-length (take n ws) (take n vs) ∙ length-take-le n ws (omega arith) ∙ sym (length-take-le n (raws_in ws vs) (omega (arith, l, raws-length ws vs))))
      (λ j d m.
      let k : j < n = omega (arith, m, raws-length (take n ws) (take n vs), length-take-le n ws (omega arith)) in
      raws-at (take n ws) (take n vs) j d (omega (arith, k, length-take-le n ws (omega arith)))
      ∙ rw (get_or-take n ws j 0 k, get_or-take n vs j 0 k, get_or-take n (raws_in ws vs) j d k) (sym (raws-at ws vs j d (omega arith))))
  | inr g ↦
      same_lists (raws_in (take n ws) (take n vs)) (take n (raws_in ws vs))
      (raws-length (take n ws) (take n vs) ∙ rw (take_all n ws g, take_all n (raws_in ws vs) (omega (arith, g, raws-length ws vs))) (sym (raws-length ws vs)))
      (λ j d m.
      let k : j < length ws = omega (arith, m, raws-length (take n ws) (take n vs), ap length (take_all n ws g)) in
      raws-at (take n ws) (take n vs) j d (omega (arith, k, ap length (take_all n ws g)))
      ∙ rw (get_or-take n ws j 0 (omega arith), get_or-take n vs j 0 (omega arith), get_or-take n (raws_in ws vs) j d (omega arith)) (sym (raws-at ws vs j d k)))
]

-- the cell of a word that leads to another place, or doesn't
pub link-here : (next : Option ℕ) (w : ℕ) (c : Raw) (a : ℕ) → raw_in w a ≡ c → MatchOption next ((b : ℕ) → IsEnd (raw_in w b)) (λ p. (b : ℕ) → raw_in w b ≡ Same p) → MatchOption next (IsEnd c) (λ p. c ≡ Same p)
link-here None w c a e h = subst IsEnd e (h a)
link-here (Some p) w c a e h = sym e ∙ h a

pub link-down : (cs : List Raw) (trail : List ℕ) (next : Option ℕ) (i : ℕ) → IsStore cs trail → i < length cs → ((d : Raw) → MatchOption next (IsEnd (get_or cs i d)) (λ p. get_or cs i d ≡ Same p))
    → IfSome next (λ p. (p < i) × (tree_at (trees cs) p ≡ tree_at (trees cs) i))
link-down cs trail None i s l h = tt
link-down cs trail (Some p) i s l h =
    let stand = IsStore-stand cs trail s in
    (subst (Within (length cs) i) (h Free) (stand.within i Free l), sym (stand.each i Free l ∙ ap (step (trees cs) i) (h Free)))
