-- Each call keeps the rules.
use Rattle.std.proofs.Common.{◌≡◌, ◌≢◌, ◌⊎◌, ⊎_elim, inl, inr, ℕ, zero, suc, ◌≤◌, Bool, true, false, true≢false, List, [], ◌∷◌, ◌++◌, set, sym, refl, ap, ◌∙◌, subst, append_assoc, arith}
use Rattle.std.proofs.lemmas.List.{append-nil}
use mathlib.Core.Option.{some, some-ne-none, some-injective}
use lib.ListN.{get_elem?}
use Rattle.crossbeam_deque.specs.Tasks.{Pushes, Takes, Pops, Finds, FindsFew, Forks}
use Rattle.crossbeam_deque.proofs.Lists.{at_set, at_snoc}
use Rattle.ap_board.specs.declared.ticket.Ticket.{Ticket}
use Rattle.ap_goalstack.specs.declared.view.Hand.{Hand}
use Rattle.ap_goalstack.specs.Stack.{hand, Has, HasAll, Knows, Kept, Took, Popped, KeepsPush, KeepsPop, KeepsSteal, IsForked, Ruled, Found}

has_left : (t : Ticket) (xs ys : List Ticket) → Has t xs → Has t (xs ++ ys)
has_left t [] ys h = absurd h
has_left t (x ∷ xs) ys (inl e) = inl e
has_left t (x ∷ xs) ys (inr h) = inr (has_left t xs ys h)

has_right : (t : Ticket) (xs ys : List Ticket) → Has t ys → Has t (xs ++ ys)
has_right t [] ys h = h
has_right t (x ∷ xs) ys h = inr (has_right t xs ys h)

has_parts : (t : Ticket) (xs ys : List Ticket) → Has t (xs ++ ys) → Has t xs ⊎ Has t ys
has_parts t [] ys h = inr h
has_parts t (x ∷ xs) ys (inl e) = inl (inl e)
has_parts t (x ∷ xs) ys (inr h) = ⊎_elim (λ a. inl (inr a)) (λ a. inr a) (has_parts t xs ys h)

knows_set : (who : ℕ) (log : List Ticket) (views : List Hand) (id : ℕ) (w : Hand) → Knows who log id w → ((j : ℕ) (u : Hand) → j ≢ id → get_elem? views j ≡ some u → Knows who log j u)
    → (j : ℕ) (u : Hand) → get_elem? (set views id w) j ≡ some u → Knows who log j u
knows_set who log views id w mine others j u e = ⊎_elim (λ (x : (j ≡ id) × (w ≡ u)). subst (λ (y : ℕ × Hand). Knows who log y.0 y.1) (λ i. (sym x.0 i, x.1 i)) mine)
    (λ (x : (j ≢ id) × (get_elem? views j ≡ some u)). others j u x.0 x.1) (at_set views id j w u e)

begins : Kept [] (hand true [] [] ∷ [])
begins = (0, [], ((λ t h. h), first))
  where
    first : (id : ℕ) (v : Hand) → get_elem? (hand true [] [] ∷ []) id ≡ some v → Knows 0 [] id v
    first zero v e = subst (Knows 0 [] 0) (some-injective _ _ e) (([], refl), (λ _. (refl, refl)))
    first (suc id) v e = absurd (some-ne-none v (sym e))

pushed : (id : ℕ) (v : Hand) (x : Ticket) (items : List Ticket) (views : List Hand) → v.owner ≡ true → Kept items views → get_elem? views id ≡ some v → Kept (items ++ x ∷ []) (set views id (hand true (v.pushed ++ x ∷ []) v.took))
pushed id v x items views own k at = let xs : List Ticket = x ∷ [] in let w : Hand = hand true (v.pushed ++ xs) v.took in let mine = (k.2.1 id v at).1 own in let log = k.1 ++ xs in (
  k.0,
  log,
  (
    (λ t h. ⊎_elim (λ a. has_left t k.1 xs (k.2.0 t a)) (λ a. has_right t k.1 xs a) (has_parts t items xs h)),
    knows_set k.0 log views id w (([], ap (λ l. l ++ xs) (sym mine.1) ∙ sym (append-nil (v.pushed ++ xs))), (λ _. (mine.0, ap (λ l. l ++ xs) mine.1)))
        (λ j u ne e. let b = (k.2.1 j u e).0 in ((b.0 ++ xs, ap (λ l. l ++ xs) b.1 ∙ append_assoc u.pushed b.0 xs), (λ o. absurd (ne (((k.2.1 j u e).1 o).0 ∙ sym mine.0))))),
  ),
)

-- a ticket came out, by an end that learns what was pushed
came_out : (id : ℕ) (v : Hand) (o : Bool) (x : Ticket) (items left : List Ticket) (views : List Hand) (k : Kept items views) → HasAll left items → v.owner ≡ o → get_elem? views id ≡ some v
    → Kept left (set views id (hand o k.1 (v.took ++ x ∷ [])))
came_out id v o x items left views k stay is at = let mine = k.2.1 id v at in (
  k.0,
  k.1,
  (
    (λ t h. k.2.0 t (stay t h)),
    knows_set k.0 k.1 views id (hand o k.1 (v.took ++ x ∷ [])) (([], sym (append-nil k.1)), (λ p. ((mine.1 (is ∙ p)).0, refl))) (λ j u ne e. k.2.1 j u e),
  ),
)

set_same : (views : List Hand) (id : ℕ) (v : Hand) → get_elem? views id ≡ some v → set views id v ≡ views
set_same [] id v e = refl
set_same (u ∷ us) zero v e = ap (λ x. x ∷ us) (sym (some-injective _ _ e))
set_same (u ∷ us) (suc id) v e = ap (λ l. u ∷ l) (set_same us id v e)

at_end : (l : List Hand) (a b : Hand) (j : ℕ) → get_elem? (l ++ a ∷ []) j ≡ some b → (get_elem? l j ≡ some b) ⊎ (a ≡ b)
at_end l a b j e = at_snoc l a b j e

forked : (id : ℕ) (v : Hand) (items : List Ticket) (views : List Hand) → Kept items views → get_elem? views id ≡ some v → Kept items (views ++ hand false v.pushed [] ∷ [])
forked id v items views k at = let r : Hand = hand false v.pushed [] in (
  k.0,
  k.1,
  (k.2.0, λ j u e. ⊎_elim (λ x. k.2.1 j u x) (λ (is : r ≡ u). subst (Knows k.0 k.1 j) is ((k.2.1 id v at).0, (λ o. absurd (true≢false (sym o))))) (at_end views r u j e)),
)

module _ (holds : List Ticket → List Hand → Type 0) where
  pub starts : holds [] (hand true [] [] ∷ []) → Ruled holds [] (hand true [] [] ∷ [])
  starts h = (begins, h)

  pub pushes : KeepsPush holds → (id : ℕ) (v : Hand) (x : Ticket) → v.owner ≡ true → Pushes (Ruled holds) id v (x ∷ []) (λ w. w ≡ hand v.owner (v.pushed ++ x ∷ []) v.took)
  pushes keep id v x own items views k at = let w : Hand = hand true (v.pushed ++ x ∷ []) v.took in (
    w,
    (pushed id v x items views own k.0 at, keep k.0.0 k.0.1 items views id v x k.0.2 k.1 at own),
    ap (λ o. hand o (v.pushed ++ x ∷ []) v.took) (sym own),
  )

  pub takes : KeepsSteal holds → (id : ℕ) (v : Hand) → v.owner ≡ false → Takes (Ruled holds) id v 1 (Took v)
  takes keep id v other [] items views more less k at = absurd (omega arith)
  takes keep id v other (x ∷ []) items views more less k at = let all : List Ticket = x ∷ items in (
    hand false k.0.1 (v.took ++ x ∷ []),
    (came_out id v false x all items views k.0 (λ t h. inr h) other at, keep k.0.0 k.0.1 items views id v x k.0.2 k.1 at other),
    ((λ t h. k.0.2.0 t (has_left t (x ∷ []) items h)), (k.0.2.1 id v at).0, refl, sym other),
  )
  takes keep id v other (x ∷ y ∷ xs) items views more less k at = absurd (omega arith)

  pub pops : KeepsPop holds → (id : ℕ) (v : Hand) → v.owner ≡ true → Pops (Ruled holds) id v (Popped v)
  pops keep id v own x items views k at = let all : List Ticket = items ++ x ∷ [] in let known : k.0.1 ≡ v.pushed = sym ((k.0.2.1 id v at).1 own).1 in
      let out : Has x k.0.1 = k.0.2.0 x (has_right x items (x ∷ []) (inl refl)) in (
        hand true v.pushed (v.took ++ x ∷ []),
        (
          subst (λ l. Kept items (set views id (hand true l (v.took ++ x ∷ [])))) known (came_out id v true x all items views k.0 (λ t h. has_left t items (x ∷ []) h) own at),
          keep k.0.0 k.0.1 items views id v x k.0.2 k.1 at own,
        ),
        ((λ t h. ⊎_elim (λ is. subst (λ y. Has y v.pushed) (sym is) (subst (Has x) known out)) (λ no. absurd no) h), ap (λ o. hand o v.pushed (v.took ++ x ∷ [])) (sym own)),
      )

  pub finds : (id : ℕ) (v : Hand) → Finds (Ruled holds) id v (Found holds 0 v)
  finds id v views k at = ([], views, id, (omega arith), k, at)

  pub finds_few : (n id : ℕ) (v : Hand) → n ≤ 1 → FindsFew (Ruled holds) n id v (Found holds 1 v)
  finds_few n id v le items views few k at = (items, views, id, (omega arith), k, at)

  pub forks : IsForked holds → (id : ℕ) (v : Hand) → v.owner ≡ true → Forks (Ruled holds) id v v (hand false v.pushed [])
  forks keep id v own items views k at = subst (λ vs. Ruled holds items (vs ++ hand false v.pushed [] ∷ [])) (sym (set_same views id v at)) (forked id v items views k.0 at, keep k.0.0 k.0.1 items views id v k.0.2 k.1 at own)
