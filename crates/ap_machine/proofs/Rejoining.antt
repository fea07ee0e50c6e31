-- A search behind a group, whose goals' answers were copied in.
use Rattle.std.proofs.Common.{◌≡◌, ℕ, zero, suc, ◌+◌, ◌<◌, ◌≤◌, true, false, List, [], ◌∷◌, ◌++◌, length, take, drop, map, slice_get, Some, refl, ap, sym, ◌∙◌, subst, arith}
use Rattle.ap_group.specs.Meets.{MeetAll, AreInside}
use Rattle.ap_term.specs.Tree.{Trees}
use Rattle.ap_term.proofs.Lists.{some_first}
use Rattle.ap_cells.specs.Store.{Store, Keeps}
use Rattle.ap_instr.specs.Code.{Compiled}
use Rattle.ap_match.specs.Fits.{Fits, Becomes, Answered}
use Rattle.ap_environments.specs.Kept.{Forked, Kept}
use Rattle.ap_group.specs.Groups.{Pushed}
use Rattle.ap_steps.specs.Standing.{Return}
use Rattle.ap_standing.specs.Machine.{AreWithin}
use Rattle.ap_machine.specs.declared.state.Now.{Now as Kind}
use Rattle.ap_machine.specs.declared.state.Now.TheVariants.{Returning}
use Rattle.ap_machine.specs.View.{Segment, Paused, point_of, segment_of, pushed_of, paused_of, IsFor}
use Rattle.ap_machine.specs.Sane.{Sane}
use Rattle.ap_machine.specs.Forks.{IsAtFork, Rejoined}
use Rattle.ap_machine.proofs.Kept.{AreWithin-more}
use Rattle.ap_machine.proofs.Living.{live-none}
use Rattle.ap_machine.proofs.Parting.{no-moment, some-fork, newest, from-fork, frames-within, each-held}
use Rattle.ap_machine.proofs.Progress.{as-wide}
use Rattle.ap_machine.proofs.Sanity.{Sane-keeps, segments-same}
use Rattle.ap_machine.proofs.Solving.{view-kept}

goals-inside : (n m : ℕ) (ws : List Return) → AreWithin n ws → AreInside n (map pushed_of (take m ws))
goals-inside n zero ws h = tt
goals-inside n (suc m) [] h = tt
goals-inside n (suc m) (w ∷ ws) h = (each-held n w.y h.0, goals-inside n m ws h.1)

-- one goal more
listed : (i : ℕ) (ws : List Return) (w : Return) → slice_get ws i ≡ Some w → map pushed_of (take (suc i) ws) ≡ map pushed_of (take i ws) ++ pushed_of w ∷ []
listed i [] w e = cc
listed zero (v ∷ ws) w e = let d : Some v ≡ Some w = e in let f : v ≡ w = cc in ap (λ u. pushed_of u ∷ []) f
listed (suc i) (v ∷ ws) w e = ap (λ ps. pushed_of v ∷ ps) (listed i ws w e)

pub listed-more : (i : ℕ) (ws : List Return) (w : Return) → slice_get ws i ≡ Some w → map pushed_of (take (i + 1) ws) ≡ map pushed_of (take i ws) ++ pushed_of w ∷ []
listed-more i ws w e = ap (λ n. map pushed_of (take n ws)) (let q : i + 1 ≡ suc i = omega arith in q) ∙ listed i ws w e

-- from s to r, which is at the fork
module _ (s r : Paused) (came : (g : Segment) (gs : List Segment) → s.older ≡ g ∷ gs → IsAtFork g (g ∷ gs) s r) (no_points : r.machine.points ≡ []) (fork : 0 < length s.older)
    (v : Store) (k : Kept) (x y roots : List ℕ) (next : Kind) (spent budget : ℕ) (view : paused_of v k x y roots next spent budget ≡ r) (sane : Sane v k x y roots) where
  found : (f : Forked) × (fs : List Forked) × (k.forks ≡ f ∷ fs)
  found =
      let o = some_first s.older fork in
      some-fork v k x y roots next spent budget r view o.0 o.1 (came o.0 o.1 o.2).older

  abbrev Listed : List Pushed → Type 0
  Listed goals = (f : Forked) (fs : List Forked) → k.forks ≡ f ∷ fs → goals ≡ map pushed_of (take f.fork.goals f.returns)

  pub are-inside : (goals : List Pushed) → Listed goals → AreInside (length v.cells) goals
  are-inside goals are =
      let f = found.0 in
      let h = from-fork v k x y roots f found.1 found.2 sane in
      subst (AreInside (length v.cells)) (sym (are f found.1 found.2)) (goals-inside (length v.cells) f.fork.goals f.returns (AreWithin-more f.fork.cells (length v.cells) f.returns h.0 (frames-within v k x y roots f found.1 found.2 sane)))

  is-newest : (g : Segment) (gs : List Segment) → s.older ≡ g ∷ gs → segment_of v found.0 ≡ g
  is-newest g gs e = (newest v k x y roots found.0 found.1 found.2 sane next spent budget r view g gs (came g gs e).older).0

  same-goals : (goals : List Pushed) → Listed goals → (g : Segment) (gs : List Segment) → s.older ≡ g ∷ gs → goals ≡ g.forked.goals
  same-goals goals are g gs e = are found.0 found.1 found.2 ∙ ap (λ (h : Segment). h.forked.goals) (is-newest g gs e)

  same-cells : (g : Segment) (gs : List Segment) → s.older ≡ g ∷ gs → v.cells ≡ g.forked.cells
  same-cells g gs e = ap (λ (t : Paused). t.machine.cells) view ∙ (came g gs e).cells

  module _ (w : Store) (keeps : Keeps v w) (longer : length v.cells ≤ length w.cells) where
    pub Sane-met : Sane w k x y roots
    Sane-met = Sane-keeps v w k x y roots keeps longer sane

    -- the cells are as they were
    module _ (undone : w.cells ≡ v.cells) where
      seen : ◌≡◌ {A = Paused} (paused_of w k x y roots next spent budget) r
      seen = view-kept v w k x y roots next spent budget r view sane keeps undone

      pub at-fork-again : (g : Segment) (gs : List Segment) → s.older ≡ g ∷ gs → IsAtFork g (g ∷ gs) s (paused_of w k x y roots next spent budget)
      at-fork-again g gs e = subst (IsAtFork g (g ∷ gs) s) (sym seen) (came g gs e)

      pub for-again : (code : Compiled) → IsFor code r → IsFor code (paused_of w k x y roots next spent budget)
      for-again code h = subst (IsFor code) (sym seen) h

      pub not-rejoined : (goals : List Pushed) → Listed goals → (answers : List Trees) → Answered v.cells w.cells (MeetAll goals answers) false
          → (g : Segment) (gs : List Segment) → s.older ≡ g ∷ gs → Rejoined g answers s (paused_of w k x y roots next spent budget) false
      not-rejoined goals are answers a g gs e = (
        subst (λ hs. IsAtFork g hs s (paused_of w k x y roots next spent budget)) (sym e) (at-fork-again g gs e),
        λ f fits meets. a f (subst (λ cs. Fits cs f) (sym (same-cells g gs e)) fits) (subst (λ ps. MeetAll ps answers f) (sym (same-goals goals are g gs e)) meets),
      )

    -- control is behind the goals
    module _ (l : Kept) (went : (f : Forked) (fs : List Forked) → k.forks ≡ f ∷ fs → l ≡ record k { returns = drop f.fork.goals f.returns }) where
      left : l ≡ record k { returns = drop found.0.fork.goals found.0.returns }
      left = went found.0 found.1 found.2

      pub Sane-behind : Sane w l x y roots
      Sane-behind =
          let f = found.0 in
          let i = (from-fork v k x y roots f found.1 found.2 sane) in
          let h = Sane-met in
          let a : f.fork.cells ≤ length v.cells = i.0 in
          subst (λ j. Sane w j x y roots) (sym left) (record {
            x = h.x;
            y = h.y;
            returns = AreWithin-more f.fork.cells (length w.cells) (drop f.fork.goals f.returns) (omega (arith, longer)) i.2.returns;
            short = i.2.short;
            inside = h.inside;
            bottom = h.bottom;
            moments = h.moments;
            forks = h.forks;
          })

      no-points : map (point_of w) l.moments ≡ []
      no-points = ap (map (point_of w)) (ap (λ (u : Kept). u.moments) left ∙ no-moment v k x y roots next spent budget r view no_points)

      same-older : map (segment_of w) l.forks ≡ r.older
      same-older = ap (map (segment_of w)) (ap (λ (u : Kept). u.forks) left) ∙ segments-same v w k x y roots keeps sane ∙ ap (λ (t : Paused). t.older) view

      pub rejoined : (goals : List Pushed) → Listed goals → (answers : List Trees) → Answered v.cells w.cells (MeetAll goals answers) true
          → (g : Segment) (gs : List Segment) → s.older ≡ g ∷ gs → Rejoined g answers s (paused_of w l x y roots Returning spent budget) true
      rejoined goals are answers a g gs e =
          let at = came g gs e in
          record {
            cells = subst (λ cs. Becomes cs w.cells (MeetAll g.forked.goals answers) (λ f. Unit {0})) (same-cells g gs e)
                (subst (λ ps. Becomes v.cells w.cells (MeetAll ps answers) (λ f. Unit {0})) (same-goals goals are g gs e) a);
            now = refl;
            returns = ap (λ (u : Kept). u.returns) left ∙ ap (λ (h : Segment). h.forked.returns) (is-newest g gs e);
            points = no-points;
            roots = ap (λ (t : Paused). t.machine.roots) view ∙ at.roots;
            x = ap (λ (t : Paused). length t.machine.x) view ∙ at.x;
            y = ap (λ (t : Paused). length t.machine.y) view ∙ at.y;
            older = same-older ∙ at.older ∙ sym e;
            spent = ap (λ (t : Paused). t.spent) view ∙ at.spent;
            budget = ap (λ (t : Paused). t.budget) view ∙ at.budget;
          }

      pub for-rejoined : (code : Compiled) → IsFor code r → IsFor code (paused_of w l x y roots Returning spent budget)
      for-rejoined code h =
          let t = paused_of w l x y roots Returning spent budget in
          as-wide code r t h (ap (λ (u : Paused). length u.machine.x) view) (ap (λ (u : Paused). length u.machine.y) view) (live-none code t.machine no-points) same-older
