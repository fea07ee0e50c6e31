-- The events of states with groups.
use Rattle.std.proofs.Common.{◌≡◌, ℕ, suc, List, [], ◌∷◌, refl, ap, sym, ◌∙◌, subst}
use Rattle.ap_term.specs.declared.clauses.Check.{Check}
use Rattle.ap_term.specs.Tree.{Trees, none, more, append_trees}
use Rattle.ap_term.specs.Goals.{Part, call, group, plain_goals}
use Rattle.ap_term.specs.Search.{State}
use Rattle.ap_laws.specs.Plain.{state, Ways, plain_by, plain_of, plain_ways, plain_children, AreGroups, HasFullGroups}
use Rattle.ap_laws.specs.Graft.{graft_state}
use Rattle.ap_laws.specs.Tasks.{task, Alternatives, plain, Slots, no_slot, fresh, stored, busy, held, redone, again, drained}
use Rattle.ap_laws.specs.Events.{Step, infer, fork, plains, joined, joined_state}
use Rattle.ap_laws.specs.Rejoining.{EventLaw}
use Rattle.ap_laws.proofs.GroupedGrafts.{grafted_state}
use Rattle.ap_laws.proofs.Views.{plain_children-plain_of}

Step-children : (A : Ways) (s : State) (c : ℕ) (l : Alternatives) (ps : List Part) → (ps ≡ [] → ⊥) → AreGroups ps
    → Step A (task c (plain (plain_by s.fault (plain_goals ps) s.tuple s.next s.steps) l)) (task (suc c) (plains (plain_children A (plain_by s.fault (plain_goals ps) s.tuple s.next s.steps)) l))
Step-children A s c l [] h k = absurd (h refl)
Step-children A s c l (call g ∷ ps) h k = infer
Step-children A s c l (group cs none ∷ ps) h k = absurd k
Step-children A s c l (group cs (more t ts) ∷ ps) h k = infer

plain_of-joined_state : (w : Slots) (b : ℕ) (s : State) → plain_of (joined_state w b s) ≡ joined w b (plain_of s)
plain_of-joined_state no_slot b s = refl
plain_of-joined_state (fresh g w) b s = refl
plain_of-joined_state (stored g m w) b s = refl
plain_of-joined_state (busy g t w) b s = refl
plain_of-joined_state (held g m a t c w) b s = plain_of-joined_state w b (graft_state b s a) ∙ ap (joined w b) (grafted_state.0 b s a)
plain_of-joined_state (redone g m t i w) b s = refl
plain_of-joined_state (drained g m t i e w) b s = refl
plain_of-joined_state (again g m a t c w) b s = plain_of-joined_state w b (graft_state b s a) ∙ ap (joined w b) (grafted_state.0 b s a)

HasFullGroups-joined_state : (w : Slots) (b : ℕ) (s : State) → HasFullGroups s → HasFullGroups (joined_state w b s)
HasFullGroups-joined_state no_slot b s h = h
HasFullGroups-joined_state (fresh g w) b s h = h
HasFullGroups-joined_state (stored g m w) b s h = h
HasFullGroups-joined_state (busy g t w) b s h = h
HasFullGroups-joined_state (held g m a t c w) b s h = HasFullGroups-joined_state w b (graft_state b s a) (grafted_state.1 b s a h)
HasFullGroups-joined_state (redone g m t i w) b s h = h
HasFullGroups-joined_state (drained g m t i e w) b s h = h
HasFullGroups-joined_state (again g m a t c w) b s h = HasFullGroups-joined_state w b (graft_state b s a) (grafted_state.1 b s a h)

grouped : (s : State) (cs : List Check) (goals : Trees) (rest : List Part) → HasFullGroups s → s.goals ≡ group cs goals ∷ rest → plain_of s ≡ state (append_trees goals (plain_goals rest)) s.tuple s.next s.steps
grouped s cs goals rest full e = ap (λ ps. plain_by s.fault (plain_goals ps) s.tuple s.next s.steps) e ∙ go goals (subst AreGroups e full)
  where
    go : (goals : Trees) → AreGroups (group cs goals ∷ rest) → plain_by s.fault (append_trees goals (plain_goals rest)) s.tuple s.next s.steps ≡ state (append_trees goals (plain_goals rest)) s.tuple s.next s.steps
    go none h = absurd h
    go (more t ts) h = refl

pub events : EventLaw
events p good = (
  λ s full h c l.
      subst (λ us. Step (plain_ways p) (task c (plain (plain_of s) l)) (task (suc c) (plains us l))) (sym (plain_children-plain_of p s)) (Step-children (plain_ways p) s c l s.goals h full),
  λ s cs goals rest full e apart c l. fork goals (plain_goals rest) s.tuple s.next s.steps (grouped s cs goals rest full e) apart,
  λ w b s. (plain_of-joined_state w b s, HasFullGroups-joined_state w b s),
)
