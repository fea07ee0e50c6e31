-- The search at its newest choice point again.
use Rattle.std.proofs.Common.{◌≡◌, ℕ, List, ◌∷◌, ◌++◌, length, map, ap, sym, ◌∙◌, subst}
use Rattle.ap_cells.specs.Store.{Store, IsMark, Keeps}
use Rattle.ap_environments.specs.Kept.{Moment, Kept}
use Rattle.ap_standing.specs.Machine.{Point}
use Rattle.ap_machine.specs.declared.state.Now.{Now as Kind}
use Rattle.ap_machine.specs.View.{Paused, point_of, segment_of, paused_of}
use Rattle.ap_machine.specs.Sane.{AreMoments, moments_behind, all_moments, Sane}
use Rattle.ap_machine.specs.Back.{CanGoBack, WentBack}
use Rattle.ap_machine.specs.Choices.{Returned}
use Rattle.ap_machine.proofs.Kept.{AreMoments-now, AreMoments-front, HasBottom-keeps}
use Rattle.ap_machine.proofs.Sanity.{some-moment, can-go-back, points-same, segments-same, Sane-back, points-stay, segments-stay}

-- from v by way of w, which keeps the marks of v, to u
module _ (v w u : Store) (k l : Kept) (x y x' y' roots : List ℕ) (next : Kind) (spent budget : ℕ) (s : Paused)
    (view : paused_of v k x y roots next spent budget ≡ s) (sane : Sane v k x y roots)
    (some : (q : Point) × (qs : List Point) × (s.machine.points ≡ q ∷ qs)) where
  pub can-return : CanGoBack v k.moments (length x)
  can-return = can-go-back v (length x) (length y) roots (length v.cells) (length v.trail) k.moments
      (AreMoments-front v (length x) (length y) roots (length v.cells) (length v.trail) k.moments (moments_behind k.forks) sane.moments) (some.0, some.1, ap (λ (t : Paused). t.machine.points) view ∙ some.2)

  m : (m : Moment) × (ms : List Moment) × (k.moments ≡ m ∷ ms)
  m = some-moment v k.moments (some.0, some.1, ap (λ (t : Paused). t.machine.points) view ∙ some.2)

  module _ (keeps : Keeps v w) (went : (m : Moment) (ms : List Moment) → k.moments ≡ m ∷ ms → WentBack w u k l x' y' m) (ex : length x' ≡ length x) (ey : length y' ≡ length y) where
    back : WentBack w u k l x' y' m.0
    back = went m.0 m.1 m.2

    now : AreMoments w (length x) (length y) roots (length w.cells) (length w.trail) (all_moments k)
    now = AreMoments-now v w (length x) (length y) roots (length v.cells) (length v.trail) (all_moments k) keeps sane.moments

    pub Sane-returned : Sane u l x' y' roots
    Sane-returned = Sane-back w u k l x y x' y' roots (length w.cells) (length w.trail) m.0 m.1 m.2 now sane.forks (HasBottom-keeps v w keeps sane.bottom) back ex ey

    same-points : map (point_of u) l.moments ≡ map (point_of v) k.moments
    same-points =
        points-stay w u k l x y x' y' roots (length w.cells) (length w.trail) m.0 m.1 m.2 now sane.forks (HasBottom-keeps v w keeps sane.bottom) back ex ey
        ∙ points-same v w k x y roots keeps sane

    same-segments : map (segment_of u) l.forks ≡ map (segment_of v) k.forks
    same-segments =
        segments-stay w u k l x y x' y' roots (length w.cells) (length w.trail) m.0 m.1 m.2 now sane.forks (HasBottom-keeps v w keeps sane.bottom) back ex ey
        ∙ segments-same v w k x y roots keeps sane

    mark : IsMark v.cells v.trail m.0.choice.cells m.0.choice.trail
    mark = (subst (λ ns. AreMoments v (length x) (length y) roots (length v.cells) (length v.trail) (ns ++ moments_behind k.forks)) m.2 sane.moments).2.mark

    pub returned : Returned s (paused_of u l x' y' roots next spent budget)
    returned = record {
      stays = record {
        x = ex ∙ ap (λ (t : Paused). length t.machine.x) view;
        y = ey ∙ ap (λ (t : Paused). length t.machine.y) view;
        roots = ap (λ (t : Paused). t.machine.roots) view;
        spent = ap (λ (t : Paused). t.spent) view;
        budget = ap (λ (t : Paused). t.budget) view;
        older = same-segments ∙ ap (λ (t : Paused). t.older) view;
      };
      points = same-points ∙ ap (λ (t : Paused). t.machine.points) view;
      now = ap (λ (t : Paused). t.machine.now) view;
      at = record {
        point = point_of v m.0;
        others = map (point_of v) m.1;
        points = same-points ∙ ap (map (point_of v)) m.2;
        cells = back.cells ∙ keeps.leads m.0.choice.cells m.0.choice.trail mark;
        returns = ap (λ (j : Kept). j.returns) back.kept;
        x = back.hold_x;
      };
    }

    -- the same of registers that were written
    pub Sane-written : (x'' y'' : List ℕ) → x'' ≡ x' → y'' ≡ y' → Sane u l x'' y'' roots
    Sane-written x'' y'' fx fy = subst (λ xs. Sane u l xs y'' roots) (sym fx) (subst (λ ys. Sane u l x' ys roots) (sym fy) Sane-returned)

    pub returned-written : (x'' y'' : List ℕ) → x'' ≡ x' → y'' ≡ y' → Returned s (paused_of u l x'' y'' roots next spent budget)
    returned-written x'' y'' fx fy =
        subst (λ xs. Returned s (paused_of u l xs y'' roots next spent budget)) (sym fx)
        (subst (λ ys. Returned s (paused_of u l x' ys roots next spent budget)) (sym fy) returned)
