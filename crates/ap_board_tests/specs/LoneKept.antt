-- Each call keeps it.
use Rattle.std.specs.Prelude.{◌≡◌, ℕ, zero, suc, ◌+◌, true, List, [], ◌∷◌, ◌++◌, length, slice_set}
use Rattle.std.proofs.Common.{◌∙◌, sym, refl, ap, subst, true≢false}
use Rattle.std.proofs.Math.Nat.{add-suc, suc-add}
use mathlib.Core.Option.{some, some-ne-none, some-injective}
use lib.ListN.{get_elem?}
use Rattle.ap_board.specs.declared.ticket.Ticket.{Ticket}
use Rattle.ap_goalstack.specs.declared.view.Hand.{Hand}
use Rattle.ap_goalstack.specs.Stack.{hand, IsKept, KeepsPush, KeepsPop, KeepsSteal}
use Rattle.ap_board_tests.specs.Lone.{IsLone}

-- the one end there is
pub alone : (u v : Hand) (views : List Hand) (id : ℕ) → views ≡ u ∷ [] → get_elem? views id ≡ some v → (id ≡ 0) × (u ≡ v)
alone u v views id is at = first id (subst (λ l. get_elem? l id ≡ some v) is at)
  where
    first : (i : ℕ) → get_elem? (u ∷ []) i ≡ some v → (i ≡ 0) × (u ≡ v)
    first zero e = (refl, some-injective _ _ e)
    first (suc i) e = absurd (some-ne-none v (sym e))

stays_alone : (u v w : Hand) (views : List Hand) (id : ℕ) → views ≡ u ∷ [] → get_elem? views id ≡ some v → slice_set views id w ≡ w ∷ []
stays_alone u v w views id is at = ap (λ l. slice_set l id w) is ∙ ap (λ i. slice_set (u ∷ []) i w) (alone u v views id is at).0

one_more : (xs : List Ticket) (x : Ticket) → length (xs ++ x ∷ []) ≡ suc (length xs)
one_more [] x = refl
one_more (y ∷ xs) x = ap suc (one_more xs x)

pushes : KeepsPush IsLone
pushes who log items views id v x told k at own = let w : Hand = hand true (v.pushed ++ x ∷ []) v.took in let is : k.0 ≡ v = (alone k.0 v views id k.1 at).1 in
    let was : length v.pushed ≡ length v.took + length items = subst (λ u. length u.pushed ≡ length u.took + length items) is k.3 in
    (w, stays_alone k.0 v w views id k.1 at, refl, one_more v.pushed x ∙ ap suc was ∙ sym (add-suc (length v.took) (length items)) ∙ ap (λ n. length v.took + n) (sym (one_more items x)))

pops : KeepsPop IsLone
pops who log items views id v x told k at own = let w : Hand = hand true v.pushed (v.took ++ x ∷ []) in let is : k.0 ≡ v = (alone k.0 v views id k.1 at).1 in
    let was : length v.pushed ≡ length v.took + length (items ++ x ∷ []) = subst (λ u. length u.pushed ≡ length u.took + length (items ++ x ∷ [])) is k.3 in
    (w, stays_alone k.0 v w views id k.1 at, refl, was ∙ ap (λ n. length v.took + n) (one_more items x) ∙ add-suc (length v.took) (length items) ∙ sym (suc-add (length v.took) (length items)) ∙ ap (λ n. n + length items) (sym (one_more v.took x)))

steals : KeepsSteal IsLone
steals who log items views id v x told k at other = absurd (true≢false (sym (subst (λ u. u.owner ≡ true) (alone k.0 v views id k.1 at).1 k.2) ∙ other))

pub keeps : IsKept IsLone
keeps = (pushes, pops, steals)
