-- Patterns by what they allow: a joined state is the least that allows what each of both does.
use Rattle.std.proofs.Common.{◌≡◌, ℕ, ◌⊎◌, inl, inr, Bool, true, false, not, ◌&&◌, cond, nat_eq, List, [], ◌∷◌, refl, ap, ap₂, sym, ◌∙◌}
use Rattle.std.proofs.lemmas.Bool.{false≢true, or_left, or_right, or_cases, and_parts, and_from}
use Rattle.std.specs.List.{filter}
use Rattle.std.proofs.lemmas.List.Kept.{IsStrictlySortedBy-filter}
use Rattle.std.specs.Ordering.{nat_cmp}
use Rattle.ap_term.proofs.Facts.{same_bool}
use Rattle.ap_sharing.specs.VarSet.{has, empty, union, both, within}
use Rattle.ap_sharing.specs.Sets.{Is, IsAscending, listed, join_sets, sets_of, all_of, too_many}
use Rattle.ap_sharing.specs.Share.{Share, IsNormal, nonground, is_member, dropped, limited, widen, norm}
use Rattle.ap_sharing.proofs.Elements.{same_set, has-union, has-both, within-at, within-made, both_left}
use Rattle.ap_sharing.proofs.Lists.{Elem-listed, listed-Elem, In-filter, In-weaken, listed-join, listed-filter, In-all_of, one_list, ascending-join, ascending-none}
use Rattle.ap_sharing.proofs.Covers.{normal-norm, norm-normal}
use Rattle.ap_absunify.specs.declared.states.State.{State}
use Rattle.ap_absunify.specs.declared.states.State.TheVariants.{Unreachable, Reachable}
use Rattle.ap_absunify.specs.State.{made}
use Rattle.ap_patterns.proofs.Coverings.{Within, Below}
use Rattle.ap_fixpoint.specs.Fix.{joined, kept}

-- ---- an order

within_refl : (s : ℕ) → within s s ≡ true
within_refl s = within-made s s (λ x h. h)

pub within_trans : (s t r : ℕ) → within s t ≡ true → within t r ≡ true → within s r ≡ true
within_trans s t r h k = within-made s r (λ x i. within-at t r x k (within-at s t x h i))

pub member_cases : (s : ℕ) (sh : Share) → is_member s sh ≡ true → (listed s sh.sets ≡ true) ⊎ (within s sh.any ≡ true)
member_cases s sh h = or_cases (listed s sh.sets) (within s sh.any) h

member_listed : (s : ℕ) (sh : Share) → listed s sh.sets ≡ true → is_member s sh ≡ true
member_listed s sh h = or_left (listed s sh.sets) (within s sh.any) h

pub member_within : (s : ℕ) (sh : Share) → within s sh.any ≡ true → is_member s sh ≡ true
member_within s sh h = or_right (listed s sh.sets) (within s sh.any) h

pub Below_refl : (a : State) → Below a a
Below_refl Unreachable = tt
Below_refl (Reachable sh fr) = record { any = within_refl sh.any; sets = λ s h. member_listed s sh h; free = within_refl fr }

pub Below_trans : (a b c : State) → Below a b → Below b c → Below a c
Below_trans Unreachable b c h k = tt
Below_trans (Reachable sh fr) Unreachable c h k = absurd h
Below_trans (Reachable sh fr) (Reachable sh2 fr2) Unreachable h k = absurd k
Below_trans (Reachable sh fr) (Reachable sh2 fr2) (Reachable sh3 fr3) h k = record {
  any = within_trans sh.any sh2.any sh3.any h.any k.any;
  sets = λ s l. elim (member_cases s sh2 (h.sets s l)) [ inl i ↦ k.sets s i | inr i ↦ member_within s sh3 (within_trans s sh2.any sh3.any i k.any) ];
  free = within_trans fr3 fr2 fr k.free h.free;
}

-- ---- joined states

union_left : (s t : ℕ) → within s (union s t) ≡ true
union_left s t = within-made s (union s t) (λ x h. has-union s t x ∙ or_left (has s x) (has t x) h)

union_right : (s t : ℕ) → within t (union s t) ≡ true
union_right s t = within-made t (union s t) (λ x h. has-union s t x ∙ or_right (has s x) (has t x) h)

pub union_least : (s t r : ℕ) → within s r ≡ true → within t r ≡ true → within (union s t) r ≡ true
union_least s t r h k =
    within-made (union s t) r (λ x i. elim (or_cases (has s x) (has t x) (sym (has-union s t x) ∙ i)) [ inl j ↦ within-at s r x h j | inr j ↦ within-at t r x k j ])

both_in_left : (s t : ℕ) → within (both s t) s ≡ true
both_in_left s t = within-made (both s t) s (λ x h. both_left s t x h)

both_in_right : (s t : ℕ) → within (both s t) t ≡ true
both_in_right s t = within-made (both s t) t (λ x h. (and_parts (has s x) (has t x) (sym (has-both s t x) ∙ h)).1)

both_greatest : (s t r : ℕ) → within r s ≡ true → within r t ≡ true → within r (both s t) ≡ true
both_greatest s t r h k = within-made r (both s t) (λ x i. has-both s t x ∙ and_from (has s x) (has t x) (within-at r s x h i) (within-at r t x k i))

pub joined_left : (a b : State) → Below a (joined a b)
joined_left a Unreachable = Below_refl a
joined_left Unreachable (Reachable sh fr) = tt
joined_left (Reachable sh fr) (Reachable sh2 fr2) = record {
  any = union_left sh.any sh2.any;
  sets = λ s h. member_listed s (record { sets = join_sets sh.sets sh2.sets; any = union sh.any sh2.any }) (listed-join sh.sets sh2.sets s ∙ or_left (listed s sh.sets) (listed s sh2.sets) h);
  free = both_in_left fr fr2;
}

pub joined_right : (a b : State) → Below b (joined a b)
joined_right a Unreachable = tt
joined_right Unreachable (Reachable sh fr) = record {
  any = within_refl sh.any;
  sets = λ s h. member_listed s (record { sets = sets_of sh.sets; any = sh.any }) (listed-join [] sh.sets s ∙ h);
  free = within_refl fr;
}
joined_right (Reachable sh fr) (Reachable sh2 fr2) = record {
  any = union_right sh.any sh2.any;
  sets = λ s h. member_listed s (record { sets = join_sets sh.sets sh2.sets; any = union sh.any sh2.any }) (listed-join sh.sets sh2.sets s ∙ or_right (listed s sh.sets) (listed s sh2.sets) h);
  free = both_in_right fr fr2;
}

pub joined_least : (a b c : State) → Below a c → Below b c → Below (joined a b) c
joined_least a Unreachable c h k = h
joined_least Unreachable (Reachable sh fr) Unreachable h k = absurd k
joined_least Unreachable (Reachable sh fr) (Reachable sh3 fr3) h k = record { any = k.any; sets = λ s l. k.sets s (sym (listed-join [] sh.sets s) ∙ l); free = k.free }
joined_least (Reachable sh fr) (Reachable sh2 fr2) Unreachable h k = absurd h
joined_least (Reachable sh fr) (Reachable sh2 fr2) (Reachable sh3 fr3) h k = record {
  any = union_least sh.any sh2.any sh3.any h.any k.any;
  sets = λ s l. elim (or_cases (listed s sh.sets) (listed s sh2.sets) (sym (listed-join sh.sets sh2.sets s) ∙ l)) [ inl i ↦ h.sets s i | inr i ↦ k.sets s i ];
  free = both_greatest fr fr2 fr3 h.free k.free;
}

-- ---- ascending lists, and the form in which a state is kept

pub filtered : (p : ℕ → Bool) (s : ℕ) (ss : List ℕ) → listed s (filter p ss) ≡ true → listed s ss ≡ true
filtered p s [] h = h
filtered p s (t ∷ ts) h = go (p t) h (filtered p s ts)
  where
    go : (b : Bool) → listed s (cond b (t ∷ filter p ts) (filter p ts)) ≡ true → (listed s (filter p ts) ≡ true → listed s ts ≡ true) → listed s (t ∷ ts) ≡ true
    go true k ih = elim (or_cases (nat_eq s t) (listed s (filter p ts)) k) [ inl i ↦ or_left (nat_eq s t) (listed s ts) i | inr i ↦ or_right (nat_eq s t) (listed s ts) (ih i) ]
    go false k ih = or_right (nat_eq s t) (listed s ts) (ih k)

abbrev pub InOrder : State → Type 0
InOrder Unreachable = Unit {0}
InOrder (Reachable sh fr) = IsAscending sh.sets

pub joined_in_order : (a b : State) → InOrder a → InOrder (joined a b)
joined_in_order a Unreachable h = h
joined_in_order Unreachable (Reachable sh fr) h = ascending-join [] sh.sets ascending-none
joined_in_order (Reachable sh fr) (Reachable sh2 fr2) h = ascending-join sh.sets sh2.sets h

pub record IsKept (sh : Share) (fr : ℕ) : Type 0 where
  pub normal : IsNormal sh
  pub free : both fr (nonground sh) ≡ fr

abbrev pub Kept : State → Type 0
Kept Unreachable = Unit {0}
Kept (Reachable sh fr) = IsKept sh fr

both_twice : (s t : ℕ) → both (both s t) t ≡ both s t
both_twice s t = same_set (both (both s t) t) (both s t) (λ x. has-both (both s t) t x ∙ ap (λ b. b && has t x) (has-both s t x) ∙ go (has s x) (has t x) ∙ sym (has-both s t x))
  where
    go : (p q : Bool) → ((p && q) && q) ≡ (p && q)
    go true true = refl
    go true false = refl
    go false q = refl

pub kept-Kept : (a : State) → InOrder a → Kept (kept a)
kept-Kept Unreachable h = tt
kept-Kept (Reachable sh fr) h = record { normal = normal-norm sh h; free = both_twice fr (nonground (norm sh)) }

pub Kept-same : (a : State) → Kept a → kept a ≡ a
Kept-same Unreachable h = refl
Kept-same (Reachable sh fr) h = ap (λ r. made r fr) (norm-normal sh h.normal) ∙ ap (Reachable sh) h.free

pub Kept_in_order : (a : State) → Kept a → InOrder a
Kept_in_order Unreachable h = tt
Kept_in_order (Reachable sh fr) h = h.normal.ascending

-- what is within `any` stands for nothing more, and widening loses nothing
norm_above : (sh : Share) → Below (Reachable sh empty) (Reachable (norm sh) empty)
norm_above sh = go (too_many (dropped sh).sets)
  where
    in_union : (s : ℕ) → listed s (dropped sh).sets ≡ true → within s (nonground (dropped sh)) ≡ true
    in_union s h =
        within-made s (nonground (dropped sh)) (λ x i.
        has-union sh.any (all_of (dropped sh).sets) x
        ∙ or_right (has sh.any x) (has (all_of (dropped sh).sets) x) (In-all_of (has s) (dropped sh).sets (In-weaken (λ r. s ≡ r) (λ r. Is r (has s)) (dropped sh).sets (λ r e y. ap (λ z. has z y) (sym e)) (Elem-listed s (dropped sh).sets h)) x i))

    stays : (s : ℕ) → listed s sh.sets ≡ true → is_member s (dropped sh) ≡ true
    stays s h = pick (within s sh.any) refl
      where
        pick : (b : Bool) → within s sh.any ≡ b → is_member s (dropped sh) ≡ true
        pick true e = member_within s (dropped sh) e
        pick false e =
            member_listed s (dropped sh)
            (listed-Elem s (dropped sh).sets (In-filter (λ r. s ≡ r) (λ r. not (within r sh.any)) sh.sets (λ r i. ap (λ z. not (within z sh.any)) (sym i) ∙ ap not e) (Elem-listed s sh.sets h)))

    go : (b : Bool) → Below (Reachable sh empty) (Reachable (cond b (widen (dropped sh)) (dropped sh)) empty)
    go true = record {
      any = union_left sh.any (all_of (dropped sh).sets);
      sets = λ s h. member_within s (widen (dropped sh)) (elim (member_cases s (dropped sh) (stays s h)) [
        | inl i ↦ in_union s i
        | inr i ↦ within_trans s sh.any (nonground (dropped sh)) i (union_left sh.any (all_of (dropped sh).sets))
      ]);
      free = within_refl empty;
    }
    go false = record { any = within_refl sh.any; sets = stays; free = within_refl empty }

pub kept_above : (a : State) → Below a (kept a)
kept_above Unreachable = tt
kept_above (Reachable sh fr) = let n = norm_above sh in record { any = n.any; sets = n.sets; free = both_in_left fr (nonground (norm sh)) }

-- states that allow the same are kept in one form
same_within : (s t : ℕ) → within s t ≡ true → within t s ≡ true → s ≡ t
same_within s t h k = same_set s t (λ x. same_bool (has s x) (has t x) (within-at s t x h) (within-at t s x k))

same_dropped : (a b : Share) (fr fr2 : ℕ) → IsAscending a.sets → IsAscending b.sets → Within a fr b fr2 → Within b fr2 a fr → dropped a ≡ dropped b
same_dropped a b fr fr2 oa ob h k =
    ap₂ {C = Share} (λ ss z. record { sets = ss; any = z })
    (one_list (dropped a).sets (dropped b).sets (IsStrictlySortedBy-filter nat_cmp (λ s. not (within s a.any)) a.sets oa) (IsStrictlySortedBy-filter nat_cmp (λ s. not (within s b.any)) b.sets ob)
    (λ s. same_bool (listed s (dropped a).sets) (listed s (dropped b).sets) (moves a b fr fr2 h same s) (moves b a fr2 fr k (sym same) s)))
    same
  where
    same : a.any ≡ b.any
    same = same_within a.any b.any h.any k.any

    moves : (c d : Share) (f g : ℕ) → Within c f d g → c.any ≡ d.any → (s : ℕ) → listed s (dropped c).sets ≡ true → listed s (dropped d).sets ≡ true
    moves c d f g w e s l =
        let out = listed-filter (λ r. not (within r c.any)) s c.sets l in
        let here : not (within s d.any) ≡ true = ap (λ z. not (within s z)) (sym e) ∙ out in
        elim (member_cases s d (w.sets s (filtered (λ r. not (within r c.any)) s c.sets l))) [
          | inl i ↦ listed-Elem s (dropped d).sets (In-filter (λ r. s ≡ r) (λ r. not (within r d.any)) d.sets (λ r j. ap (λ z. not (within z d.any)) (sym j) ∙ here) (Elem-listed s d.sets i))
          | inr i ↦ absurd (false≢true (sym (ap not i) ∙ here))
        ]

pub kept_same : (a b : State) → InOrder a → InOrder b → Below a b → Below b a → kept a ≡ kept b
kept_same Unreachable Unreachable oa ob h k = refl
kept_same Unreachable (Reachable sh fr) oa ob h k = absurd k
kept_same (Reachable sh fr) Unreachable oa ob h k = absurd h
kept_same (Reachable sh fr) (Reachable sh2 fr2) oa ob h k =
    ap₂ made (ap limited (same_dropped sh sh2 fr fr2 oa ob h k)) (same_within fr fr2 k.free h.free)
