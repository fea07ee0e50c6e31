-- The answers of a frame, put in one after the other.
use Rattle.std.proofs.Common.{◌≡◌, ℕ, ◌+◌, ◌-◌, ◌<◌, ◌≤◌, Bool, true, false, ◌||◌, cond, List, [], ◌∷◌, ◌++◌, map, None, refl, ap, ap₂, sym, ◌∙◌, subst, arith}
use Rattle.std.proofs.lemmas.Bool.{false≢true}
use Rattle.ap_term.specs.Tree.{Tree, Trees, var, int, atom, node, none, more}
use Rattle.ap_term.specs.Vars.{occurs, occurs_all, Local, LocalAll}
use Rattle.ap_term.specs.Substitution.{instance, instance_all}
use Rattle.ap_term.specs.Independence.{IsApart, AreApart, SharesNoVariable}
use Rattle.ap_term.specs.WellFormed.{IsProgram}
use Rattle.ap_term.specs.Goals as goals
use Rattle.ap_term.specs.Goals.{Program, instance_check, instance_part, plain_goals}
use Rattle.ap_term.specs.Search.{State}
use Rattle.ap_term.proofs.Copies.{instance_var}
use Rattle.ap_term.proofs.Locals.{instance-Local, Local-each}
use Rattle.ap_laws.specs.Plain.{state, plain_by, plain_of}
use Rattle.ap_laws.specs.Graft.{lifted_var, fitted, graft_by, graft_state}
use Rattle.ap_laws.proofs.Graft.{fitted-value}
use Rattle.ap_tracked.specs.Tracked.{Goal, call, fork, moved, calls as goal_calls, opened, Tracked, untracked, untracked_goal}
use Rattle.ap_tracked.specs.Kept.{IsKept}
use Rattle.ap_graft.specs.Variables.{LocalGoals, IsTrackedBelow}
use Rattle.ap_graft.specs.Grafts.{behind, put_first, tracked_graft, tracked_grafts}
use Rattle.ap_graft.specs.Joins.{AreAnswers, graft_states}
use Rattle.ap_graft.specs.Laws.{JoinLaw}
use Rattle.ap_tracked.proofs.Untracked.{untracked_opened, all_moved}
use Rattle.ap_graft.proofs.Variables.{below_from, of_from, goals_local}
use Rattle.ap_graft.proofs.Grafts.{kept_graft, first-put}
use Rattle.std.proofs.lemmas.List.{map-append}
use Rattle.ap_term.specs.Tuples.{arguments}

-- ---- an answer put in, without groups

abbrev pub built : List goals.Part → Trees → ℕ → ℕ → State
built G T n k = record { goals = G; tuple = T; next = n; steps = k; fault = None }

plain_answer : (u : Tracked) → u.goals ≡ [] → u.fault ≡ None → plain_of (untracked u) ≡ state none u.tuple u.next u.steps
plain_answer u e f = ap₂ (λ i l. plain_by i (plain_goals (map untracked_goal l)) u.tuple u.next u.steps) f e

pub untracked_graft : (b : ℕ) (s u : Tracked) → u.goals ≡ [] → u.fault ≡ None → untracked (tracked_graft b s u) ≡ graft_state b (untracked s) (plain_of (untracked u))
untracked_graft b s u e f =
    go (opened s.goals) ∙ ap (λ l. graft_by b (untracked s) l (state none u.tuple u.next u.steps)) (untracked_opened s.goals) ∙ sym (ap (graft_state b (untracked s)) (plain_answer u e f))
  where
    go : (gs : List Goal) → untracked (put_first gs b s u) ≡ graft_by b (untracked s) (map untracked_goal gs) (state none u.tuple u.next u.steps)
    go [] = refl
    go (fork cs ts own now ∷ gs) = refl
    go (call g ∷ gs) =
        ap₂ (λ l i. record {
          goals = map untracked_goal (map (moved (lifted_var b s.next)) l ++ behind i (map (moved (fitted g b s.next u.tuple)) gs));
          tuple = instance_all (fitted g b s.next u.tuple) s.tuple;
          next = s.next + (u.next - b);
          steps = s.steps + u.steps;
          fault = i;
        }) e f
        ∙ ap (λ l. built l (instance_all (fitted g b s.next u.tuple) s.tuple) (s.next + (u.next - b)) (s.steps + u.steps)) (all_moved (fitted g b s.next u.tuple) gs)

-- ---- the goals behind are apart from the answer

pub in_arguments : (x : ℕ) (g : Tree) → occurs_all x (arguments g) ≡ true → occurs x g ≡ true
in_arguments x (var y) h = left (occurs x (var y)) h
  where
    left : (c : Bool) → (c || false) ≡ true → c ≡ true
    left true e = refl
    left false e = e
in_arguments x (int z) h = h
in_arguments x (atom a) h = h
in_arguments x (node a ts) h = h

pub untouched : (g : Tree) (b n : ℕ) (U : Trees) (f : ℕ → Tree) → U ≡ instance_all f (arguments g) → (h : Tree) → SharesNoVariable g h → instance (fitted g b n U) h ≡ h
untouched g b n U f e h k = instance-Local (λ x. occurs x h ≡ true) (fitted g b n U) var at h (Local-each (λ x. occurs x h ≡ true) h (λ x o. o)) ∙ instance_var h
  where
    at : (x : ℕ) → occurs x h ≡ true → fitted g b n U x ≡ var x
    at x i = fitted-value g b n f U e x ∙ go (occurs_all x (arguments g)) refl
      where
        go : (c : Bool) → occurs_all x (arguments g) ≡ c → cond c (instance (lifted_var b n) (f x)) (var x) ≡ var x
        go true q = absurd (false≢true (sym (k x (in_arguments x g q)) ∙ i))
        go false q = refl

abbrev pub calls_of : Trees → List Goal
calls_of none = []
calls_of (more g gs) = call g ∷ calls_of gs

pub all_untouched : (g : Tree) (b n : ℕ) (U : Trees) (f : ℕ → Tree) → U ≡ instance_all f (arguments g) → (gs : Trees) → IsApart g gs → map (moved (fitted g b n U)) (calls_of gs) ≡ calls_of gs
all_untouched g b n U f e none k = refl
all_untouched g b n U f e (more h gs) k = ap₂ (λ t l. call t ∷ l) (untouched g b n U f e h k.0) (all_untouched g b n U f e gs k.1)

pub calls-are : (own : ℕ → Tree) (ts : Trees) → goal_calls own ts ≡ calls_of (instance_all own ts)
calls-are own none = refl
calls-are own (more t ts) = ap (λ l. call (instance own t) ∷ l) (calls-are own ts)

-- behind an answer that was put in the other goals stay, and those behind the group have it fitted in
pub goals_behind : (g : Tree) (b : ℕ) (s u : Tracked) (gs : Trees) (K : List Goal) → opened s.goals ≡ call g ∷ (calls_of gs ++ K) → u.goals ≡ [] → u.fault ≡ None → IsApart g gs → (f : ℕ → Tree) → u.tuple ≡ instance_all f (arguments g)
    → (tracked_graft b s u).goals ≡ calls_of gs ++ map (moved (fitted g b s.next u.tuple)) K
goals_behind g b s u gs K c ended quiet a f e =
    ap (λ z. z.goals) (first-put g (calls_of gs ++ K) b s u c)
    ∙ ap₂ (λ l i. map (moved (lifted_var b s.next)) l ++ behind i (map (moved (fitted g b s.next u.tuple)) (calls_of gs ++ K))) ended quiet
    ∙ map-append (moved (fitted g b s.next u.tuple)) (calls_of gs) K
    ∙ ap (λ l. l ++ map (moved (fitted g b s.next u.tuple)) K) (all_untouched g b s.next u.tuple f e gs a)

-- the goals come first; of none nothing is said
abbrev ComeFirst : Trees → List Goal → Tracked → Type 0
ComeFirst none K s = Unit {0}
ComeFirst (more g gs) K s = opened s.goals ≡ call g ∷ (calls_of gs ++ K)

come_first : (gs : Trees) (K : List Goal) (s : Tracked) → s.goals ≡ calls_of gs ++ K → ComeFirst gs K s
come_first none K s e = tt
come_first (more g gs) K s e = ap opened e

module _ (p : Program) (good : IsProgram p) (o : Tracked) (w : IsTrackedBelow o) (b : ℕ) where
  joined : (gs : Trees) (us : List Tracked) (K : List Goal) (s : Tracked) → AreApart gs → LocalAll (λ x. x < b) gs → b ≤ s.next → ComeFirst gs K s → IsKept p o s → AreAnswers p b gs us
      → IsKept p o (tracked_grafts b s us) × (graft_states b (untracked s) (map (λ u. plain_of (untracked u)) us) ≡ untracked (tracked_grafts b s us))
  joined none [] K s a l n c k h = (k, refl)
  joined (more g gs) (u ∷ us) K s a l n c k h =
      let own = of_from p g b u good l.0 h.0.kept.from in
      let r = joined gs us (map (moved (fitted g b s.next u.tuple)) K) (tracked_graft b s u) a.1 l.1 (subst (λ z. b ≤ z.next) (sym (first-put g (calls_of gs ++ K) b s u c)) (omega (arith, n)))
      (come_first gs (map (moved (fitted g b s.next u.tuple)) K) (tracked_graft b s u) (goals_behind g b s u gs K c h.0.ended h.0.quiet a.0 own.0 own.1)) (kept_graft p o s u g (calls_of gs ++ K) b good w c l.0 n k h.0.kept) h.1 in
      (r.0, ap (λ z. graft_states b z (map (λ u. plain_of (untracked u)) us)) (sym (untracked_graft b s u h.0.ended h.0.quiet)) ∙ r.1)
  joined none (_ ∷ _) K s a l n c k h = absurd h
  joined (more _ _) [] K s a l n c k h = absurd h

pub joining : JoinLaw
joining p o s cs none own now gs us good w k e a h = nothing us h
  where
    nothing : (us : List Tracked) → AreAnswers p s.next none us → IsKept p o (tracked_grafts s.next s us) × (graft_states s.next (untracked s) (map (λ u. plain_of (untracked u)) us) ≡ untracked (tracked_grafts s.next s us))
    nothing [] h = (k, refl)
    nothing (_ ∷ _) h = absurd h
joining p o s cs (more t ts) own now gs us good w k e a h =
    joined p good o w s.next (instance_all own (more t ts)) us gs s a (goals_local (λ x. x < s.next) own (more t ts) all) (omega arith) (ap opened e ∙ ap (λ l. call (instance own t) ∷ (l ++ gs)) (calls-are own ts)) k h
  where
    all : (x : ℕ) → Local (λ y. y < s.next) (own x)
    all = (subst (LocalGoals (λ x. x < s.next)) e (below_from p o s good w k.from).0).0
