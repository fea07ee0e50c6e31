-- The laws of searching a conjunction, of a program's ways on.
use Rattle.std.proofs.Common.{◌≡◌, ℕ, zero, suc, ◌+◌, ◌-◌, ◌<◌, ◌≤◌, List, [], ◌∷◌, ◌++◌, map, refl, ap, ap₂, sym, ◌∙◌, subst, arith}
use Rattle.ap_term.specs.declared.faults.Fault.{Fault}
use Rattle.ap_term.specs.Tree.{Tree, Trees, var, none, more, push_tree, append_trees}
use Rattle.ap_term.specs.Substitution.{instance_all}
use Rattle.ap_term.specs.Goals.{Program}
use Rattle.ap_term.specs.Independence.{AreApart}
use Rattle.std.proofs.lemmas.List.Elements.{All-append, All-cons}
use Rattle.ap_term.specs.WellFormed.{IsClause, IsProgram}
use Rattle.ap_term.specs.Search.{variables, State, outcomes_to_depth}
use Rattle.ap_term.specs.Vars.{Local, LocalAll}
use Rattle.ap_term.proofs.Locals.{LocalAll-weaken}
use Rattle.ap_laws.specs.Plain.{Plain, state, faulted, Ways, outcome, IsEnded, plain_of, as_state, HasFullGroups, plain_ways, IsPlainBelow, Renames, Locals}
use Rattle.ap_laws.specs.Trace.{Action, called, cut, answered, trace, trace_to, answers_in, followed, AllAnswers, NoAnswers}
use Rattle.ap_laws.specs.Graft.{alone, graft, IsOf, IsDead, AreHarmless}
use Rattle.ap_laws.specs.Gives.{Gives}
use Rattle.ap_laws.specs.SearchLaws.{one_by_one, IndependenceLaw, QueryLaw, TraceLaw, GraftLaw, SplitLaw, GivesLaw}
use Rattle.ap_laws.proofs.Ways.{LocalParts-body, LocalParts-weaken}
use Rattle.ap_laws.proofs.Plain.{Renames-plain_ways, Locals-plain_ways}
use Rattle.ap_laws.proofs.Graft.{plain_children-graft, trace-graft, IsOf-alone, graft-alone}
use Rattle.ap_laws.proofs.Traces.{AllAnswers-and, AllAnswers-done, AllAnswers-IsOf}
use Rattle.ap_laws.proofs.Dead.{AllAnswers-weaken, trace-split}
use Rattle.ap_laws.proofs.Gives.{NoAnswers-IsDead, NoAnswers-none, answers_in-none, Gives-then, Gives-beside, Gives-none, Gives-less, Gives-answer, Gives-infer, Gives-graft, Gives-drop, graft-answer}
use Rattle.ap_laws.proofs.Views.{trace_to-plain_of, plain_children-plain_of, AreGroups-well_formed, HasFullGroups-children, answers_to_depth-trace, search-trace}
use Rattle.ap_laws.proofs.Rejoining.{answers_to_depth-as_state}

-- ---- where a query begins

LocalAll-push_tree : (P : ℕ → Type 0) (ts : Trees) (t : Tree) → LocalAll P ts → Local P t → LocalAll P (push_tree ts t)
LocalAll-push_tree P none t h k = (k, tt)
LocalAll-push_tree P (more u ts) t h k = (h.0, LocalAll-push_tree P ts t h.1 k)

LocalAll-variables : (n : ℕ) → LocalAll (λ x. x < n + 1) (variables n)
LocalAll-variables zero = tt
LocalAll-variables (suc n) =
    LocalAll-push_tree (λ x. x < suc n + 1) (variables n) (var (suc n))
    (LocalAll-weaken (λ x. x < n + 1) (λ x. x < suc n + 1) (λ x l. omega arith) (variables n) (LocalAll-variables n)) (omega arith)

pub query : QueryLaw
query q h = (
  (LocalParts-weaken (λ x. x ≤ q.question.vars) (λ x. x < q.question.vars + 1) (λ x l. omega arith) q.question.body (LocalParts-body q.question h.question), LocalAll-variables q.question.vars),
  AreGroups-well_formed q.question.vars q.question.body h.question.body,
  λ p good. All-append IsClause p (q.question ∷ q.lifted) good (All-cons IsClause q.question q.lifted h.question h.lifted),
)

-- ---- conjunctions

followed-agree : (es : List Action) (f g : Plain → ℕ → List Action) → AllAnswers (λ a l. f a l ≡ g a l) es → followed es f ≡ followed es g
followed-agree [] f g h = refl
followed-agree (called ∷ es) f g h = ap (λ z. called ∷ z) (followed-agree es f g h)
followed-agree (cut ∷ es) f g h = ap (λ z. cut ∷ z) (followed-agree es f g h)
followed-agree (answered a l ∷ es) f g h = ap₂ (λ x y. x ++ y) h.0 (followed-agree es f g h.1)

map-none : (l : List Plain) → map outcome l ≡ [] → l ≡ []
map-none [] e = refl
map-none (u ∷ l) e = cc

module _ (p : Program) (good : IsProgram p) where
  abbrev A : Ways
  A = plain_ways p

  renames : Renames A
  renames = Renames-plain_ways p good

  locals : Locals A
  locals = Locals-plain_ways p good

  pub trace-one_by_one : (gs K T : Trees) (b n k r : ℕ) → b ≤ n → LocalAll (λ x. x < b) gs → IsPlainBelow (state (append_trees gs K) T n k) → AreApart gs
      → trace A r (state (append_trees gs K) T n k) ≡ one_by_one A b gs r (state (append_trees gs K) T n k)
  unfolding trace
  trace-one_by_one none K T b n k r bn hb below apart = refl
  trace-one_by_one (more g gs) K T b n k r bn hb below apart =
      trace-split A renames locals g (append_trees gs K) T b n k r bn below hb.0
      ∙ followed-agree (trace A r (alone g b)) _ _
      (AllAnswers-weaken (λ a l. IsOf g b a × IsEnded a) _ (λ a l o. each a l o (trace-one_by_one gs)) (trace A r (alone g b))
      (AllAnswers-and (λ a l. IsOf g b a) (λ a l. IsEnded a) (trace A r (alone g b)) (AllAnswers-IsOf A renames locals g b r (alone g b) (IsOf-alone g b hb.0)) (AllAnswers-done A r (alone g b))))
    where
      s : Plain
      s = state (more g (append_trees gs K)) T n k

      faulty : (gs : Trees) (l : ℕ) (e : Fault) (j : ℕ) → trace A l (faulted e j) ≡ one_by_one A b gs l (faulted e j)
      faulty none l e j = refl
      faulty (more h hs) zero e j = refl
      faulty (more h hs) (suc l) e j = refl

      each : (a : Plain) (l : ℕ) → IsOf g b a × IsEnded a
          → ((L V : Trees) (b m j i : ℕ) → b ≤ m → LocalAll (λ x. x < b) gs → IsPlainBelow (state (append_trees gs L) V m j) → AreApart gs
          → trace A i (state (append_trees gs L) V m j) ≡ one_by_one A b gs i (state (append_trees gs L) V m j))
          → trace A l (graft b s a) ≡ one_by_one A b gs l (graft b s a)
      each (faulted e j) l o ih = faulty gs l e (k + j)
      each (state (more u us) U m j) l o ih = absurd o.1
      each (state none U m j) l o ih =
          let q = graft-answer g gs K T b n k (state none U m j) bn below apart.0 o.0 tt in
          subst (λ x. trace A l x ≡ one_by_one A b gs l x) (sym q.4) (ih q.0 q.1 b q.2 q.3 l q.6 hb.1 q.5 apart.1)

  no_answers : (u : Plain) (d : ℕ) → outcomes_to_depth p (as_state u) d ≡ [] → NoAnswers (trace_to A d u)
  no_answers u d e = NoAnswers-none (trace_to A d u) (map-none (answers_in (trace_to A d u)) (sym (answers_to_depth-as_state p good d u) ∙ e))

  pub answers_to_depth-dead : (g : Tree) (b : ℕ) → Local (λ x. x < b) g → ((d : ℕ) → outcomes_to_depth p (as_state (alone g b)) d ≡ []) → (before K T : Trees) (n k : ℕ) → b ≤ n
      → IsPlainBelow (state (append_trees before (more g K)) T n k) → LocalAll (λ x. x < b) before → AreApart (append_trees before (more g none)) → AreHarmless A b before → (d : ℕ) → outcomes_to_depth p (as_state (state (append_trees before (more g K)) T n k)) d ≡ []
  answers_to_depth-dead g b hg dead before K T n k bn below hp apart harmless d =
      answers_to_depth-as_state p good d (state (append_trees before (more g K)) T n k)
      ∙ ap (map outcome) (answers_in-none (trace A (d - k) (state (append_trees before (more g K)) T n k)) (NoAnswers-IsDead A renames locals g b alone_dead hg before K T n k bn below hp apart harmless (d - k)))
    where
      alone_dead : IsDead A g b
      alone_dead r = subst (λ z. NoAnswers (trace A z (alone g b))) (same r) (no_answers (alone g b) r (dead r))
        where
          same : (r : ℕ) → r - 0 ≡ r
          same r = omega arith

  pub Gives-no_answers : (s : State) (m : List Plain) (c : ℕ) → HasFullGroups s → ((d : ℕ) → outcomes_to_depth p s d ≡ []) → Gives A (plain_of s ∷ []) [] m c → Gives A (plain_of s ∷ []) [] [] c
  Gives-no_answers s m c full dead h = Gives-drop A renames locals (plain_of s) m c none_at h
    where
      none_at : (r : ℕ) → NoAnswers (trace A r (plain_of s))
      none_at r =
          subst (λ z. NoAnswers (trace A z (plain_of s))) (same r s.steps)
          (subst NoAnswers (trace_to-plain_of A (r + s.steps) s) (NoAnswers-none (trace_to A (r + s.steps) (plain_of s)) (map-none (answers_in (trace_to A (r + s.steps) (plain_of s))) (sym (answers_to_depth-trace p good (r + s.steps) s full) ∙ dead (r + s.steps)))))
        where
          same : (r k : ℕ) → (r + k) - k ≡ r
          same r k = omega arith

pub traced : TraceLaw
traced p good = (
  plain_children-plain_of p,
  HasFullGroups-children p good,
  λ s full d. answers_to_depth-trace p good d s full,
  λ ss full d n near. search-trace p good d n ss full near,
)

pub grafted : GraftLaw
grafted p good g K T b n k bn below = (
  λ t G U m j o. plain_children-graft (plain_ways p) (Renames-plain_ways p good) (Locals-plain_ways p good) g K T b n k bn below.0.1 below.1 t G U m j o,
  λ r u o. trace-graft (plain_ways p) (Renames-plain_ways p good) (Locals-plain_ways p good) g K T b n k bn below.0.1 below.1 r u o,
  λ h. (IsOf-alone g b h, graft-alone g K T b n k h),
)

pub split : SplitLaw
split p good g K T b n k r bn below h = trace-split (plain_ways p) (Renames-plain_ways p good) (Locals-plain_ways p good) g K T b n k r bn below h

pub independent : IndependenceLaw
independent p good f goals apart K T b n k r bn hb below = trace-one_by_one p good (instance_all f goals) K T b n k r bn hb below apart

pub given : GivesLaw
given p good =
    let A : Ways = plain_ways p in
    let renames : Renames A = Renames-plain_ways p good in (
      Gives-none A,
      Gives-then A,
      Gives-beside A,
      Gives-less A,
      Gives-answer A,
      Gives-infer A,
      Gives-graft A renames (Locals-plain_ways p good),
      Gives-no_answers p good,
    )
