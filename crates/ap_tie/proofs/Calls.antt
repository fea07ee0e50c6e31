-- Turns of the model are calls of the core.
use Rattle.std.proofs.Common.{◌≡◌, ℕ, zero, suc, ◌+◌, ◌-◌, ◌≤◌, ◌⊎◌, inl, inr, true, false, ◌&&◌, nat_lt, List, [], ◌∷◌, ◌++◌, map, Some, refl, ap, ap₂, sym, ◌∙◌, subst, arith}
use Rattle.std.specs.Prelude.{replicate, option_and_then}
use Rattle.std.specs.List.{AllZip, AllByRecursion}
use Rattle.std.proofs.lemmas.Bool.{lt-ltb}
use Rattle.ap_term.specs.Goals as goals
use Rattle.ap_term.specs.Goals.{Program}
use Rattle.ap_term.specs.WellFormed.{IsProgram}
use Rattle.ap_term.specs.Search as search
use Rattle.ap_term.specs.Search.{State, by_goals}
use Rattle.ap_term.proofs.Zips.{AllZip-append}
use Rattle.ap_core.specs.declared.events.Kind.TheVariants as kinds
use Rattle.ap_core.specs.Tasks.{task, Alternatives, alternative, Alternative, state, frame}
use Rattle.ap_core.specs.Conditions.{has_goals}
use Rattle.ap_core.specs.Relation.{Rules, own, states, only_if}
use Rattle.ap_tracked.specs.Tracked.{Goal, untracked_goal, Tracked, untracked, opened, children}
use Rattle.ap_tracked.specs.Marks.{opening}
use Rattle.ap_tracked.specs.Kept.{IsKept}
use Rattle.ap_tracked.proofs.Kept.{kept, children-opening}
use Rattle.ap_tracked.proofs.Untracked.{children-same}
use Rattle.ap_standing.specs.Holds.{Turned}
use Rattle.ap_tie.specs.Shows.{Shows, before}
use Rattle.ap_tie.specs.Events.{own_all}
use Rattle.ap_tie.specs.Laws.{InferLaw}

-- ---- lists

states-before : (us : List State) (xs : List Alternative) (l : Alternatives) → states us (before xs l) ≡ before (map state us ++ xs) l
states-before [] xs l = refl
states-before (u ∷ us) xs l = ap (alternative (state u)) (states-before us xs l)

-- ---- what is shown

pub no-goals : (gs : List Goal) → map untracked_goal gs ≡ [] → gs ≡ []
no-goals [] h = refl
no-goals (g ∷ gs) h = absurd (cc)

some-goals : (gs : List goals.Part) → (gs ≡ [] → ⊥) → by_goals gs false true ≡ true
some-goals [] h = absurd (h refl)
some-goals (g ∷ gs) h = refl

may-call : (p : Program) (o s : Tracked) (t : State) → Shows p o s (state t) → (s.goals ≡ [] → ⊥) → has_goals t ≡ true
may-call p o s t (u, k, e, w) h = subst (λ v. has_goals v ≡ true) (sym e) (some-goals (map untracked_goal u.goals) (λ m. back (no-goals u.goals m) w))
  where
    back : u.goals ≡ [] → (s ≡ u) ⊎ (s ≡ opening u) → ⊥
    back m (inl q) = h (ap (λ v. v.goals) q ∙ m)
    back m (inr q) = h (ap (λ v. v.goals) q ∙ ap opened m)

all-shown : (p : Program) (o : Tracked) (ss : List Tracked) → AllByRecursion (IsKept p o) ss → AllZip (Shows p o) ss (map state (map untracked ss))
all-shown p o [] h = tt
all-shown p o (s ∷ ss) h = ((s, h.0, refl, inl refl), all-shown p o ss h.1)

children-shown : (p : Program) (o : Tracked) → IsProgram p → (s : Tracked) (t : State) → Shows p o s (state t) → AllZip (Shows p o) (children p s) (map state (search.children p t))
children-shown p o good s t (u, k, e, w) =
    subst (λ v. AllZip (Shows p o) (children p s) (map state (search.children p v))) (sym e)
    (subst (λ vs. AllZip (Shows p o) (children p s) (map state vs)) (children-same p u good)
    (subst (λ ss. AllZip (Shows p o) ss (map state (map untracked (children p u)))) (sym (same w)) (all-shown p o (children p u) (kept.children p o u k))))
  where
    same : (s ≡ u) ⊎ (s ≡ opening u) → children p s ≡ children p u
    same (inl q) = ap (children p) q
    same (inr q) = ap (children p) q ∙ children-opening p u

-- ---- one call, and many

one : (p : Rules) (r c : ℕ) (t : State) (xs : List Alternative) (l : Alternatives) → has_goals t ≡ true → 1 ≤ r
    → own p kinds.Infer (task r c (before (state t ∷ xs) l)) ≡ Some (task (r - 1) (c + 1) (before (map state (search.children p.program t) ++ xs) l))
one p r c t xs l d h =
    let b : (has_goals t && nat_lt 0 r) ≡ true = ap (λ x. x && nat_lt 0 r) d ∙ lt-ltb 0 r (omega (arith, h)) in
    ap (λ x. only_if x (task (r - 1) (c + 1) (states (search.children p.program t) (before xs l)))) b ∙ ap (λ m. Some (task (r - 1) (c + 1) m)) (states-before (search.children p.program t) xs l)

infers : (p : Rules) (o : Tracked) (n r c : ℕ) (ss ts : List Tracked) (xs : List Alternative) (l : Alternatives) → IsProgram p.program → n ≤ r → Turned p.program n ss ts → AllZip (Shows p.program o) ss xs
    → (ys : List Alternative) × AllZip (Shows p.program o) ts ys × (own_all p (replicate n kinds.Infer) (task r c (before xs l)) ≡ Some (task (r - n) (c + n) (before ys l)))
infers p o zero r c ss ts xs l good h turned shown =
    let a : r - 0 ≡ r = omega arith in
    let b : c + 0 ≡ c = omega arith in
    (xs, subst (λ us. AllZip (Shows p.program o) us xs) (sym turned) shown, sym (ap₂ (λ i j. Some (task i j (before xs l))) a b))
infers p o (suc n) r c [] ts xs l good h turned shown = absurd turned
infers p o (suc n) r c (s ∷ ss) ts [] l good h turned shown = absurd shown
infers p o (suc n) r c (s ∷ ss) ts (frame t rd w ∷ xs) l good h turned shown = absurd shown.0
infers p o (suc n) r c (s ∷ ss) ts (state t ∷ xs) l good h turned shown =
    let vs = map state (search.children p.program t) in
    let next = infers p o n (r - 1) (c + 1) (children p.program s ++ ss) ts (vs ++ xs) l good (omega (arith, h)) turned.1
    (AllZip-append (Shows p.program o) (children p.program s) ss vs xs (children-shown p.program o good s t shown.0) shown.1) in
    let e = one p r c t xs l (may-call p.program o s t shown.0 turned.0) (omega (arith, h)) in
    let a : (r - 1) - n ≡ r - suc n = omega arith in
    let b : (c + 1) + n ≡ c + suc n = omega arith in
    (next.0, next.1, ap (option_and_then (own_all p (replicate n kinds.Infer))) e ∙ next.2 ∙ ap₂ (λ i j. Some (task i j (before next.0 l))) a b)

pub infer : InferLaw
infer = record { infers = infers; opening_has_same = children-opening }
