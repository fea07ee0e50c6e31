-- A group whose checks hold is a fork of the core, in whose slots no answers are kept.
use Rattle.std.proofs.Common.{◌≡◌, ℕ, ◌+◌, ◌-◌, inl, inr, List, [], ◌∷◌, length, Some, refl, ap, sym, ◌∙◌, subst}
use Rattle.std.specs.Prelude.{option_and_then}
use Rattle.ap_term.proofs.TreeLists.{count_trees-instance_all}
use Rattle.ap_term.specs.Tree.{count_trees, Trees}
use Rattle.ap_term.specs.Substitution.{instance_all}
use Rattle.ap_term.specs.Independence.{AreApart}
use Rattle.ap_core.specs.declared.events.Kind.TheVariants.{Fork as ForkEvent}
use Rattle.ap_core.specs.declared.tasks.Round.TheVariants as core_round
use Rattle.ap_core.specs.Tasks.{task, Alternatives, alternative, state, frame}
use Rattle.ap_core.specs.Relation.{own, ready}
use Rattle.ap_frames.specs.declared.frame.Round.TheVariants.{First}
use Rattle.ap_tracked.specs.Tracked.{Tracked, untracked}
use Rattle.ap_tracked.specs.Forks.{Fork, ComesFirst}
use Rattle.ap_tracked.proofs.Kept.{kept}
use Rattle.ap_tracked.proofs.Safe.{safe}
use Rattle.ap_instr.specs.Code.{Compiled}
use Rattle.ap_steps.specs.Moves.{held}
use Rattle.ap_steps.specs.Standing.{Return}
use Rattle.ap_standing.specs.Machine.{inside, Machine}
use Rattle.ap_group.specs.Groups.{Forked}
use Rattle.ap_group.specs.Gathers.{IsGroupAt, IsGathered}
use Rattle.ap_tie.specs.Sections.{section, Stack, parcall}
use Rattle.ap_tie.specs.Shows.{before}
use Rattle.ap_tie.specs.Forked.{IsForked}
use Rattle.ap_tie.specs.Tied.{HoldsStack}
use Rattle.ap_tie.specs.Settled.{AreClosed, HasFailed}
use Rattle.ap_tie.proofs.Groups.{forks as forks_of}
use Rattle.ap_tie.proofs.Settled.{nothing_due}
use Rattle.ap_tied.specs.Happened.{happened}
use Rattle.ap_tied.specs.Ties.{IsSimple, AreSimple, IsPlaced, IsQuietStack, Goes, ready_slots}
use Rattle.ap_tied.specs.Reaching.{IsInside}
use Rattle.ap_tied.proofs.Forgotten.{all_unkept, all_forgets, forgotten-all, unkept-held, unkept-simple, ready-quiet, ready-many}
use Rattle.ap_tied.proofs.Gathered.{AtGroup, at-group, HasGathered, gathered}

pub forks : (code : Compiled) (m n : Machine) (c b : ℕ) (st : Stack) (at to : ℕ) (f : Forked) (x' y' : List ℕ) (w : Return) → AreClosed st → m.now ≡ inside at → IsGroupAt code at → IsInside m
    → IsGathered code at m.cells m.x m.y to f.cells x' y' f.goals → f.returns ≡ w ∷ m.returns → w.place ≡ to + 1 → ((k : ℕ) → held w.y k ≡ held y' k) → IsPlaced code m.roots f → HasFailed m.roots [] n
    → Goes code (section m c b st) (section n c b (parcall f (b - c) First (ready_slots (length f.goals)) m.points st))
forks code m n c b st at to f x' y' w closed now is_group is_inside way returns place same_y placed fails p o t searched tied =
    let g : AtGroup code p o m c b st t at = at-group code p o m c b st t at tied.holds now is_group in
    let h : HasGathered code m f g.first g.group = gathered code p o m c b st t at to f x' y' w is_inside.0 is_inside.1 way returns place same_y g in
    let u : Tracked = g.first in
    let e : Fork = record { checks = g.group.checks; goals = g.group.goals; own = g.group.own } in
    let gs : Trees = instance_all g.group.own g.group.goals in
    let behind : Alternatives = before g.shown g.older in
    let comes : ComesFirst e u.goals = subst (ComesFirst e) (sym g.begins_with) refl in
    let apart : AreApart gs = safe.group p.program u e (kept.safe p.program o u searched.safe g.kept.from) comes h.hold in
    let is_forked : IsForked code m.roots f u = record {
      checks = g.group.checks;
      goals = g.group.goals;
      own = g.group.own;
      now = g.group.now;
      behind = g.group.behind;
      first = g.begins_with;
      apart = apart;
      same = h.same;
      plain = g.plain;
      open_returns = h.opens;
    } in
    let forked : own p ForkEvent (task (b - c) c (alternative (state (untracked u)) behind)) ≡ Some (task (b - c) c (alternative (frame (untracked u) core_round.First (ready gs)) behind)) =
    forks_of p o u g.group.checks g.group.goals g.group.own g.group.now g.group.behind (b - c) c behind searched.safe g.kept g.begins_with h.hold in
    let many : length f.goals ≡ count_trees gs = h.many ∙ sym (count_trees-instance_all g.group.own g.group.goals) in
    let l : Alternatives = alternative (frame (untracked u) core_round.First (all_unkept gs)) behind in
    let q : IsQuietStack code m.roots st = tied.quiet in
    let simple : AreSimple behind = (subst IsSimple g.is tied.simple).1 in (
      (ForkEvent, []) ∷ all_forgets gs,
      task (b - c) c l,
      ap (λ z. option_and_then (happened p (all_forgets gs)) (own p ForkEvent z)) g.is ∙ ap (option_and_then (happened p (all_forgets gs))) forked ∙ forgotten-all p (b - c) c (untracked u) gs behind,
      record {
        holds = (
          [],
          [],
          l,
          nothing_due code m.roots [] n [] fails refl,
          tt,
          subst (λ roots. HoldsStack code p o roots (b - c) (parcall f (b - c) First (ready_slots (length f.goals)) m.points st) l) (sym fails.roots_stay)
              (u, is_forked, all_unkept gs, g.others, g.shown, g.older, g.kept, refl, tt, unkept-held code p (b - c) u.next searched.quiet gs (length f.goals) many, g.points, g.shows, g.stack, refl),
          refl,
        );
        simple = (unkept-simple gs, simple);
        quiet = subst (λ roots. IsQuietStack code roots (parcall f (b - c) First (ready_slots (length f.goals)) m.points st)) (sym fails.roots_stay) (placed, inl (ready-many (length f.goals)), tt, ready-quiet code (length f.goals), q);
        in_order = (inr (record { now = fails.now; returns = fails.returns; roots_stay = refl; points = fails.points }), closed);
        in_round = tt;
      },
    )
