-- A search whose instructions were taken, or taken back.
use Rattle.std.proofs.Common.{◌≡◌, ℕ, ◌<◌, ◌≤◌, List, ◌++◌, length, take, map, replicate, Option, ap, ap₂, sym, ◌∙◌, subst, arith}
use Rattle.std.proofs.lemmas.List.{take_all, take-append-le, length-replicate}
use Rattle.ap_tracked.specs.Tracked.{Tracked}
use Rattle.ap_cells.specs.declared.cells.Raw.{Raw}
use Rattle.ap_cells.specs.Store.{Store, Keeps}
use Rattle.ap_instr.specs.Code.{Compiled}
use Rattle.ap_environments.specs.Kept.{Moment, Kept}
use Rattle.ap_steps.specs.Moves.{held, HoldPlaces, IsStuck}
use Rattle.ap_steps.specs.Standing.{Return}
use Rattle.ap_instr.specs.Steps.{steps_from}
use Rattle.ap_standing.specs.Machine.{Now, inside, failed, Machine}
use Rattle.ap_standing.specs.Holds.{Holds}
use Rattle.ap_standing.specs.Laws.{machine}
use Rattle.ap_standing.proofs.Machines.{went, failed-inside}
use Rattle.ap_control.specs.Runs.{Ran, RanOrStuck}
use Rattle.ap_machine.specs.declared.state.Now.{Now as Kind}
use Rattle.ap_machine.specs.View.{Paused, point_of, now_of, machine_of, paused_of}
use Rattle.ap_machine.specs.Sane.{AreShort, AreMoments, all_moments, Sane}
use Rattle.ap_machine.specs.Choices.{Stays}
use Rattle.ap_machine.specs.Lasting.{SameRest}
use Rattle.ap_machine.proofs.Sanity.{held-zeros, points-same, segments-same}
use Rattle.ap_machine.proofs.Kept.{HoldPlaces-more, AreWithin-more, inside-more, AreMoments-now, HasBottom-keeps}

-- registers that were written back
pub written : (n : ℕ) (xs ys : List ℕ) → length xs ≡ n → take n (xs ++ ys) ≡ xs
written n xs ys e = take-append-le n xs ys (omega arith) ∙ take_all n xs (omega arith)

short-as : (n m : ℕ) (ws : List Return) → m ≡ n → AreShort n ws → AreShort m ws
short-as n m ws e h = subst (λ k. AreShort k ws) (sym e) h

moments-as : (v : Store) (xs ys xs' ys' : ℕ) (roots : List ℕ) (n t : ℕ) (ms : List Moment) → xs' ≡ xs → ys' ≡ ys → AreMoments v xs ys roots n t ms → AreMoments v xs' ys' roots n t ms
moments-as v xs ys xs' ys' roots n t ms ex ey h =
    subst (λ k. AreMoments v k ys' roots n t ms) (sym ex) (subst (λ k. AreMoments v xs k roots n t ms) (sym ey) h)

-- a store that keeps its marks, and other registers
pub sane-ran : (v w : Store) (k : Kept) (x y x' y' roots : List ℕ) → Sane v k x y roots → Keeps v w → length v.cells ≤ length w.cells
    → HoldPlaces (length w.cells) x' → HoldPlaces (length w.cells) y' → length x' ≡ length x → length y' ≡ length y → Sane w k x' y' roots
sane-ran v w k x y x' y' roots s keeps l hx hy ex ey = record {
  x = hx;
  y = hy;
  returns = AreWithin-more (length v.cells) (length w.cells) k.returns l s.returns;
  short = short-as (length y) (length y') k.returns ey s.short;
  inside = inside-more (length v.cells) (length w.cells) roots l s.inside;
  bottom = HasBottom-keeps v w keeps s.bottom;
  moments = moments-as w (length x) (length y) (length x') (length y') roots (length w.cells) (length w.trail) (all_moments k) ex ey (AreMoments-now v w (length x) (length y) roots (length v.cells) (length v.trail) (all_moments k) keeps s.moments);
  forks = s.forks;
}

-- the same registers
pub sane-kept : (v w : Store) (k : Kept) (x y x' y' roots : List ℕ) → Sane v k x y roots → Keeps v w → length v.cells ≤ length w.cells → x' ≡ x → y' ≡ y → Sane w k x' y' roots
sane-kept v w k x y x' y' roots s keeps l ex ey =
    sane-ran v w k x y x' y' roots s keeps l
    (subst (HoldPlaces (length w.cells)) (sym ex) (HoldPlaces-more (length v.cells) (length w.cells) x l s.x))
    (subst (HoldPlaces (length w.cells)) (sym ey) (HoldPlaces-more (length v.cells) (length w.cells) y l s.y))
    (ap length ex) (ap length ey)

-- registers that all hold place 0
pub sane-cleared : (v w : Store) (k : Kept) (x y x' y' roots : List ℕ) (n m : ℕ) → Sane v k x y roots → Keeps v w → length v.cells ≤ length w.cells → x' ≡ replicate n 0 → y' ≡ replicate m 0 → n ≡ length x → m ≡ length y
    → Sane w k x' y' roots
sane-cleared v w k x y x' y' roots n m s keeps l ex ey en em =
    let some : 0 < length v.cells = s.bottom.mark.fewer in
    sane-ran v w k x y x' y' roots s keeps l
    (λ u. let z : held x' u ≡ 0 = ap (λ us. held us u) ex ∙ held-zeros n u in omega arith)
    (λ u. let z : held y' u ≡ 0 = ap (λ us. held us u) ey ∙ held-zeros m u in omega arith)
    (ap length ex ∙ length-replicate n 0 ∙ en) (ap length ey ∙ length-replicate m 0 ∙ em)

-- nothing was changed but room
pub machine-same : (v w : Store) (k : Kept) (x y x' y' roots : List ℕ) (next : Kind) → Sane v k x y roots → Keeps v w → w.cells ≡ v.cells → x' ≡ x → y' ≡ y
    → machine_of w k x' y' roots next ≡ machine_of v k x y roots next
machine-same v w k x y x' y' roots next s keeps ec ex ey =
    ap (λ cs. machine cs x' y' k.returns roots (map (point_of w) k.moments) (now_of next)) ec
    ∙ ap (λ qs. machine v.cells x' y' k.returns roots qs (now_of next)) (points-same v w k x y roots keeps s)
    ∙ ap (λ us. machine v.cells us y' k.returns roots (map (point_of v) k.moments) (now_of next)) ex
    ∙ ap (λ us. machine v.cells x us k.returns roots (map (point_of v) k.moments) (now_of next)) ey

pub paused-same : (v w : Store) (k : Kept) (x y x' y' roots : List ℕ) (next : Kind) (spent budget : ℕ) → Sane v k x y roots → Keeps v w → w.cells ≡ v.cells → x' ≡ x → y' ≡ y
    → paused_of w k x' y' roots next spent budget ≡ paused_of v k x y roots next spent budget
paused-same v w k x y x' y' roots next spent budget s keeps ec ex ey =
    ap₂ (λ m gs. record { machine = m; spent = spent; budget = budget; older = gs }) (machine-same v w k x y x' y' roots next s keeps ec ex ey) (segments-same v w k x y roots keeps s)

-- the query, the calls that were made and the forks are what they were
pub stays-ran : (v w : Store) (k : Kept) (x y x' y' roots : List ℕ) (next next' : Kind) (spent budget : ℕ) (s : Paused) → paused_of v k x y roots next spent budget ≡ s → Sane v k x y roots → Keeps v w
    → length x' ≡ length x → length y' ≡ length y → Stays s (paused_of w k x' y' roots next' spent budget)
stays-ran v w k x y x' y' roots next next' spent budget s view sane keeps ex ey = record {
  x = ex ∙ ap (λ (t : Paused). length t.machine.x) view;
  y = ey ∙ ap (λ (t : Paused). length t.machine.y) view;
  roots = ap (λ (t : Paused). t.machine.roots) view;
  spent = ap (λ (t : Paused). t.spent) view;
  budget = ap (λ (t : Paused). t.budget) view;
  older = segments-same v w k x y roots keeps sane ∙ ap (λ (t : Paused). t.older) view;
}

-- returns and choice points are what they were
pub rest-same : (v w : Store) (k : Kept) (x y x' y' roots : List ℕ) (next next' : Kind) (m : Machine) → machine_of v k x y roots next ≡ m → Sane v k x y roots → Keeps v w → SameRest m (machine_of w k x' y' roots next')
rest-same v w k x y x' y' roots next next' m e s keeps = record {
  returns = ap (λ (q : Machine). q.returns) e;
  points = points-same v w k x y roots keeps s ∙ ap (λ (q : Machine). q.points) e;
}

-- a run, with what it began with and what it left in other words
pub moved-ran : (code : Compiled) (at : ℕ) (cs cs' ds : List Raw) (x x₁ y y₁ x' r y' t : List ℕ) (o : Option ℕ) → cs' ≡ cs → x₁ ≡ x → y₁ ≡ y → x' ≡ r → y' ≡ t
    → RanOrStuck code at cs' x₁ y₁ o ds r t → RanOrStuck code at cs x y o ds x' y'
moved-ran code at cs cs' ds x x₁ y y₁ x' r y' t o ec ex ey er et h =
    subst (λ us. RanOrStuck code at cs x y o ds x' us) (sym et)
    (subst (λ us. RanOrStuck code at cs x y o ds us t) (sym er)
    (subst (λ us. RanOrStuck code at cs x us o ds r t) ey
    (subst (λ us. RanOrStuck code at cs us y₁ o ds r t) ex
    (subst (λ us. RanOrStuck code at us x₁ y₁ o ds r t) ec h))))

-- what a search stands for, in the words of its fields
pub opened : (code : Compiled) (ss : List Tracked) (s : Paused) (m : Machine) (now : Now) → m ≡ s.machine → s.machine.now ≡ now → Holds code s.machine ss → Holds code (record m { now = now }) ss
opened code ss s m now e d h = subst (λ n. Holds code (record m { now = n }) ss) (ap (λ q. q.now) e ∙ d) (subst (λ q. Holds code q ss) (sym e) h)

module _ (code : Compiled) (v w : Store) (k : Kept) (x y x' y' roots : List ℕ) (at : ℕ) (s : Sane v k x y roots) (keeps : Keeps v w) where
  same_points : map (point_of w) k.moments ≡ map (point_of v) k.moments
  same_points = points-same v w k x y roots keeps s

  -- the instructions were taken
  pub ran-holds : (to : ℕ) → Ran code at v.cells x y to w.cells x' y' → (ss : List Tracked) → Holds code (machine v.cells x y k.returns roots (map (point_of v) k.moments) (inside at)) ss
      → Holds code (machine w.cells x' y' k.returns roots (map (point_of w) k.moments) (inside to)) ss
  ran-holds to r ss h =
      subst (λ qs. Holds code (machine w.cells x' y' k.returns roots qs (inside to)) ss) (sym same_points)
      (went code roots (map (point_of v) k.moments) k.returns v.cells w.cells x y x' y' at to r.moves s.returns s.inside r.openly ss h)

  -- they can't be taken
  pub stuck-holds : IsStuck v.cells (held x) (held y) (steps_from code at) → (ss : List Tracked) → Holds code (machine v.cells x y k.returns roots (map (point_of v) k.moments) (inside at)) ss
      → Holds code (machine w.cells x' y' k.returns roots (map (point_of w) k.moments) failed) ss
  stuck-holds st ss h =
      subst (λ qs. Holds code (machine w.cells x' y' k.returns roots qs failed) ss) (sym same_points)
      (failed-inside code roots (map (point_of v) k.moments) k.returns v.cells w.cells x y x' y' at st ss h)
