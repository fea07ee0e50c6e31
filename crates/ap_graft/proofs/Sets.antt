-- Joined states as sets of instances.
use Rattle.std.proofs.Common.{◌≡◌, ℕ, ◌<◌, ◌≤◌, List, [], ◌∷◌, ◌++◌, map, refl, ap, sym, ◌∙◌, subst, arith}
use Rattle.std.specs.Prelude.{◌↔◌}
use Rattle.ap_term.specs.Tuples.{arguments}
use Rattle.ap_term.specs.Tree.{Tree, Trees, var, int, atom, node, none, more}
use Rattle.ap_term.specs.Substitution.{instance, instance_all}
use Rattle.ap_term.specs.Independence.{IsApart, AreApart}
use Rattle.ap_term.specs.WellFormed.{IsProgram}
use Rattle.ap_term.specs.Goals.{Program}
use Rattle.ap_term.proofs.Copies.{instance_all_twice}
use Rattle.ap_term.specs.Vars.{Local, LocalAll}
use Rattle.ap_term.proofs.Locals.{LocalAll-weaken}
use Rattle.ap_laws.specs.Plain.{state}
use Rattle.ap_laws.specs.Graft.{lifted, fitted, IsOf}
use Rattle.ap_term.proofs.TreeLists.{LocalAll-arguments}
use Rattle.ap_tracked.specs.Tracked.{Goal, call, moved, opened, Tracked}
use Rattle.ap_tracked.specs.Kept.{IsKept}
use Rattle.ap_tracked.specs.Marks.{marked}
use Rattle.ap_tracked.proofs.Marks.{marks}
use Rattle.ap_tracked.specs.Instances.{Inst}
use Rattle.ap_graft.proofs.Fitted.{met-fitted, both, instances}
use Rattle.ap_graft.specs.Variables.{LocalGoals, IsTrackedBelow, IsOwnOf}
use Rattle.ap_graft.specs.Grafts.{tracked_graft, tracked_grafts}
use Rattle.ap_graft.specs.Joins.{AreAnswers, AllMet}
use Rattle.ap_graft.specs.Laws.{JoinedSetLaw}
use Rattle.ap_graft.proofs.Variables.{marked-over, over-opened, below_from, of_from, goals_local}
use Rattle.ap_graft.proofs.Grafts.{kept_graft, first-put}
use Rattle.ap_graft.proofs.Joins.{untouched, calls_of, calls-are, goals_behind}

-- ---- goals behind others

goals-over_left : (P : ℕ → Type 0) (gs hs : List Goal) → LocalGoals P (gs ++ hs) → LocalGoals P hs
goals-over_left P [] hs h = h
goals-over_left P (g ∷ gs) hs h = goals-over_left P gs hs h.1

-- ---- arguments of goals that are apart stay

still_arguments : (F : ℕ → Tree) (h : Tree) → instance F h ≡ h → instance_all F (arguments h) ≡ arguments h
still_arguments F (var x) e = ap (λ t. more t none) e
still_arguments F (int z) e = refl
still_arguments F (atom a) e = refl
still_arguments F (node a ts) e = cc

-- two maps that agree on the arguments of each goal
abbrev AgreeOn : (ℕ → Tree) → (ℕ → Tree) → Trees → Type 0
AgreeOn k f none = Unit {0}
AgreeOn k f (more g gs) = (instance_all k (arguments g) ≡ instance_all f (arguments g)) × AgreeOn k f gs

all-met : (k f : ℕ → Tree) (gs : Trees) (us : List Tracked) → AgreeOn k f gs → AllMet gs us k → AllMet gs us f
all-met k f none [] e h = tt
all-met k f none (_ ∷ _) e h = absurd h
all-met k f (more g gs) [] e h = absurd h
all-met k f (more g gs) (u ∷ us) e h = ((h.0.0, sym e.0 ∙ h.0.1), all-met k f gs us e.1 h.1)

agree-forth : (g : Tree) (b n : ℕ) (U : Trees) (s : ℕ → Tree) → U ≡ instance_all s (arguments g) → (k : ℕ → Tree) (gs : Trees) → IsApart g gs → AgreeOn k (λ x. instance k (fitted g b n U x)) gs
agree-forth g b n U s e k none a = tt
agree-forth g b n U s e k (more h gs) a =
    (sym (sym (instance_all_twice (fitted g b n U) k (arguments h)) ∙ ap (instance_all k) (still_arguments (fitted g b n U) h (untouched g b n U s e h a.0))), agree-forth g b n U s e k gs a.1)

agree-back : (g : Tree) (b n : ℕ) (U : Trees) (s : ℕ → Tree) → U ≡ instance_all s (arguments g) → b ≤ n → (k f : ℕ → Tree)
    → ((K : Trees) → LocalAll (λ x. x < n) K → instance_all f K ≡ instance_all k (instance_all (fitted g b n U) K)) → (gs : Trees) → IsApart g gs → LocalAll (λ x. x < b) gs → AgreeOn f k gs
agree-back g b n U s e small k f w none a l = tt
agree-back g b n U s e small k f w (more h gs) a l = (
  w (arguments h) (LocalAll-weaken (λ x. x < b) (λ x. x < n) (λ x i. omega (arith, i, small)) (arguments h) (LocalAll-arguments (λ x. x < b) h l.0))
      ∙ ap (instance_all k) (still_arguments (fitted g b n U) h (untouched g b n U s e h a.0)),
  agree-back g b n U s e small k f w gs a.1 l.1,
)

-- the goals come first; where none is left, the goals behind are all
abbrev ComeFirst : Trees → List Goal → Tracked → Type 0
ComeFirst none K s = s.goals ≡ K
ComeFirst (more g gs) K s = opened s.goals ≡ call g ∷ (calls_of gs ++ K)

come_first : (gs : Trees) (K : List Goal) (s : Tracked) → s.goals ≡ calls_of gs ++ K → ComeFirst gs K s
come_first none K s e = e
come_first (more g gs) K s e = ap opened e

behind_below : (P : ℕ → Type 0) (gs : Trees) (K : List Goal) (s : Tracked) → ComeFirst gs K s → LocalGoals P s.goals → LocalGoals P K
behind_below P none K s c h = subst (LocalGoals P) c h
behind_below P (more g gs) K s c h = goals-over_left P (calls_of gs) K (subst (LocalGoals P) c (over-opened P s.goals h)).1

is_of : (g : Tree) (b : ℕ) (u : Tracked) → u.goals ≡ [] → IsOwnOf g b u → IsOf g b (state none u.tuple u.next u.steps)
is_of g b u e o = (o.0, o.1, tt, o.2.1, o.2.2)

abbrev Set : Trees → List Tracked → List Goal → Trees → Trees → Trees → Type 0
Set gs us K T hs t = (f : ℕ → Tree) × AllMet gs us f × (hs ≡ instance_all f (marked K)) × (t ≡ instance_all f T)

module _ (p : Program) (good : IsProgram p) (o : Tracked) (w : IsTrackedBelow o) (b : ℕ) where
  sets : (gs : Trees) (us : List Tracked) (K : List Goal) (s : Tracked) → AreApart gs → LocalAll (λ x. x < b) gs → b ≤ s.next → ComeFirst gs K s → IsKept p o s → AreAnswers p b gs us
      → (hs t : Trees) → Inst (tracked_grafts b s us) hs t ↔ Set gs us K s.tuple hs t
  sets none [] K s a l n c k h hs t =
      ((λ i. (i.0, tt, i.1 ∙ ap (λ z. instance_all i.0 (marked z)) c, i.2)), (λ i. (i.0, i.2 ∙ ap (λ z. instance_all i.0 (marked z)) (sym c), i.3)))
  sets (more g gs) (u ∷ us) K s a l n c k h hs t =
      let ih = sets gs us (map (moved (fitted g b s.next u.tuple)) K) (tracked_graft b s u) a.1 l.1 (subst (λ z. b ≤ z.next) (sym (first-put g (calls_of gs ++ K) b s u c)) (omega (arith, n)))
      (come_first gs (map (moved (fitted g b s.next u.tuple)) K) (tracked_graft b s u) goals_are) (kept_graft p o s u g (calls_of gs ++ K) b good w c l.0 n k h.0.kept) h.1 hs t in
      ((λ i. forth (ih.0 i)), (λ i. ih.1 (back i)))
    where
      own : IsOwnOf g b u
      own = of_from p g b u good l.0 h.0.kept.from

      of : IsOf g b (state none u.tuple u.next u.steps)
      of = is_of g b u h.0.ended own

      F : ℕ → Tree
      F = fitted g b s.next u.tuple

      below : IsTrackedBelow s
      below = below_from p o s good w k.from

      K_below : LocalAll (λ x. x < s.next) (marked K)
      K_below = marked-over (λ x. x < s.next) K (behind_below (λ x. x < s.next) (more g gs) K s c below.0)

      goals_are : (tracked_graft b s u).goals ≡ calls_of gs ++ map (moved (fitted g b s.next u.tuple)) K
      goals_are = goals_behind g b s u gs K c h.0.ended h.0.quiet a.0 own.0 own.1

      tuple_is : (tracked_graft b s u).tuple ≡ instance_all (fitted g b s.next u.tuple) s.tuple
      tuple_is = ap (λ z. z.tuple) (first-put g (calls_of gs ++ K) b s u c)

      forth : Set gs us (map (moved (fitted g b s.next u.tuple)) K) (tracked_graft b s u).tuple hs t → Set (more g gs) (u ∷ us) K s.tuple hs t
      forth (q, m, e, d) = (
        (λ x. instance q (fitted g b s.next u.tuple x)),
        (
          ((λ y. q (lifted b s.next y)), met-fitted g b s.next u.next u.tuple n of.0 of.1 of.3 q),
          all-met q (λ x. instance q (fitted g b s.next u.tuple x)) gs us (agree-forth g b s.next u.tuple own.0 own.1 q gs a.0) m,
        ),
        e ∙ ap (instance_all q) (marks.moves (fitted g b s.next u.tuple) K) ∙ instance_all_twice (fitted g b s.next u.tuple) q (marked K),
        d ∙ ap (instance_all q) tuple_is ∙ instance_all_twice (fitted g b s.next u.tuple) q s.tuple,
      )

      back : Set (more g gs) (u ∷ us) K s.tuple hs t → Set gs us (map (moved (fitted g b s.next u.tuple)) K) (tracked_graft b s u).tuple hs t
      back (f, m, e, d) =
          let r : ℕ → Tree = both g b s.next u.next u.tuple n of.0 of.1 of.3 f m.0.0 in
          let at : (L : Trees) → LocalAll (λ x. x < s.next) L → instance_all f L ≡ instance_all r (instance_all (fitted g b s.next u.tuple) L) = instances g b s.next u.next u.tuple n of.0 of.1 of.3 f m.0.0 m.0.1 in (
            r,
            all-met f r gs us (agree-back g b s.next u.tuple own.0 own.1 n r f at gs a.0 l.1) m.1,
            e ∙ at (marked K) K_below ∙ ap (instance_all r) (sym (marks.moves (fitted g b s.next u.tuple) K)),
            d ∙ at s.tuple below.1 ∙ ap (instance_all r) (sym tuple_is),
          )
  sets none (_ ∷ _) K s a l n c k h hs t = absurd h
  sets (more _ _) [] K s a l n c k h hs t = absurd h

pub joined_set : JoinedSetLaw
joined_set p o s cs none own now gs us good w k e a h hs t = absurd (subst (LocalGoals (λ x. x < s.next)) e (below_from p o s good w k.from).0).0
joined_set p o s cs (more g ts) own now gs us good w k e a h hs t =
    sets p good o w s.next (instance_all own (more g ts)) us gs s a (goals_local (λ x. x < s.next) own (more g ts) all) (omega arith) (ap opened e ∙ ap (λ l. call (instance own g) ∷ (l ++ gs)) (calls-are own ts)) k h hs t
  where
    all : (x : ℕ) → Local (λ y. y < s.next) (own x)
    all = (subst (LocalGoals (λ x. x < s.next)) e (below_from p o s good w k.from).0).0
