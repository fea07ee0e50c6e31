-- What always holds of a search goes on to hold.
use Rattle.std.proofs.Common.{◌≡◌, ℕ, zero, suc, ◌<◌, ◌≤◌, List, [], ◌∷◌, ◌++◌, length, take, map, replicate, Option, None, Some, refl, ap, ap₂, sym, ◌∙◌, subst, arith}
use Rattle.std.specs.List.{AllByRecursion}
use Rattle.std.specs.Option.{IfSome}
use Rattle.ap_cells.specs.Store.{Store, undone, IsMark, IsTrail, Keeps}
use Rattle.ap_environments.specs.Kept.{Moment, Kept}
use Rattle.ap_environments.specs.declared.environments.Choice.{Choice}
use Rattle.ap_control.proofs.Marks.{mark-whole}
use Rattle.ap_steps.specs.Moves.{held, HoldPlaces}
use Rattle.ap_steps.specs.Standing.{Return}
use Rattle.ap_standing.specs.Machine.{Point, AreWithin}
use Rattle.ap_machine.specs.declared.state.Now.{Now as Kind}
use Rattle.ap_machine.specs.View.{Paused, now_of, point_of, paused_of, segment_of}
use Rattle.ap_machine.specs.Sane.{AreShort, HasBottom, AreMoments, moments_behind, all_moments, HasFrames, Sane}
use Rattle.ap_machine.specs.Back.{CanGoBack, WentBack}
use Rattle.ap_machine.proofs.Kept.{HoldPlaces-more, AreWithin-more, inside-more, AreMoments-now, AreMoments-more, AreMoments-front, AreMoments-behind, points-keep, segments-keep, HasBottom-keeps, AreMoments-back, points-back, segments-back, HasBottom-back}

-- more cells, and each mark kept
pub Sane-keeps : (v w : Store) (k : Kept) (x y roots : List ℕ) → Keeps v w → length v.cells ≤ length w.cells → Sane v k x y roots → Sane w k x y roots
Sane-keeps v w k x y roots keeps l h = record {
  x = HoldPlaces-more (length v.cells) (length w.cells) x l h.x;
  y = HoldPlaces-more (length v.cells) (length w.cells) y l h.y;
  returns = AreWithin-more (length v.cells) (length w.cells) k.returns l h.returns;
  short = h.short;
  inside = inside-more (length v.cells) (length w.cells) roots l h.inside;
  bottom = HasBottom-keeps v w keeps h.bottom;
  moments = AreMoments-now v w (length x) (length y) roots (length v.cells) (length v.trail) (all_moments k) keeps h.moments;
  forks = h.forks;
}

-- the choice points stand for the same
pub points-same : (v w : Store) (k : Kept) (x y roots : List ℕ) → Keeps v w → Sane v k x y roots → map (point_of w) k.moments ≡ map (point_of v) k.moments
points-same v w k x y roots keeps h =
    points-keep v w (length x) (length y) roots (length v.cells) (length v.trail) k.moments keeps
    (AreMoments-front v (length x) (length y) roots (length v.cells) (length v.trail) k.moments (moments_behind k.forks) h.moments)

-- the forks do
pub segments-same : (v w : Store) (k : Kept) (x y roots : List ℕ) → Keeps v w → Sane v k x y roots → map (segment_of w) k.forks ≡ map (segment_of v) k.forks
segments-same v w k x y roots keeps h =
    segments-keep v w (length x) (length y) roots (length v.cells) (length v.trail) k.forks keeps
    (AreMoments-behind v (length x) (length y) roots (length v.cells) (length v.trail) k.moments (moments_behind k.forks) h.moments)

-- ---- a choice point more

module _ (v : Store) (k : Kept) (x y roots : List ℕ) (m : Moment)
    (trail : IsTrail v.cells v.trail) (mark : IsMark v.cells v.trail m.choice.cells m.choice.trail) (leads : undone v m.choice.cells m.choice.trail ≡ v.cells)
    (returns : m.returns ≡ k.returns) (n : ℕ) (few : n ≤ length x) (arguments : m.arguments ≡ take n x) (h : Sane v k x y roots) where
  cells : m.choice.cells ≡ length v.cells
  cells = (mark-whole v m.choice.cells m.choice.trail trail mark leads).0

  bindings : m.choice.trail ≡ length v.trail
  bindings = (mark-whole v m.choice.cells m.choice.trail trail mark leads).1

  held-take : (n : ℕ) (xs : List ℕ) (b w : ℕ) → 0 < b → HoldPlaces b xs → held (take n xs) w < b
  held-take zero xs b w l g = l
  held-take (suc n) [] b w l g = l
  held-take (suc n) (x ∷ xs) b zero l g = g zero
  held-take (suc n) (x ∷ xs) b (suc w) l g = held-take n xs b w l (λ u. g (suc u))

  length-fewer : (n : ℕ) (xs : List ℕ) → length (take n xs) ≤ length xs
  length-fewer zero xs = omega arith
  length-fewer (suc n) [] = omega arith
  length-fewer (suc n) (x ∷ xs) = let i = length-fewer n xs in omega arith

  pub Sane-kept : Sane v (record k { moments = m ∷ k.moments }) x y roots
  Sane-kept =
      let some : 1 ≤ length v.cells = h.bottom.mark.fewer in
      record {
        x = h.x;
        y = h.y;
        returns = h.returns;
        short = h.short;
        inside = h.inside;
        bottom = h.bottom;
        moments = (
          mark.fewer,
          mark.earlier,
          record {
            mark = mark;
            bottom = let e = cells in omega arith;
            returns = subst (λ ws. AreWithin m.choice.cells ws) (sym returns) (subst (λ n. AreWithin n k.returns) (sym cells) h.returns);
            short = subst (AreShort (length y)) (sym returns) h.short;
            arguments = subst (HoldPlaces m.choice.cells) (sym arguments) (subst (λ b. HoldPlaces b (take n x)) (sym cells) (λ w. held-take n x (length v.cells) w some h.x));
            few = let l = length-fewer n x in let e : length m.arguments ≡ length (take n x) = ap length arguments in omega arith;
            inside = subst (λ n. AllByRecursion (λ r. r < n) roots) (sym cells) h.inside;
          },
          subst (λ a. AreMoments v (length x) (length y) roots a m.choice.trail (all_moments k)) (sym cells) (subst (λ b. AreMoments v (length x) (length y) roots (length v.cells) b (all_moments k)) (sym bindings) h.moments),
        );
        forks = h.forks;
      }

-- ---- back at the newest choice point

module _ (v w : Store) (k l : Kept) (x y x' y' roots : List ℕ) (a b : ℕ) (m : Moment) (ms : List Moment)
    (is : k.moments ≡ m ∷ ms) (moments : AreMoments v (length x) (length y) roots a b (all_moments k)) (forks : AllByRecursion HasFrames k.forks) (bottom : HasBottom v)
    (back : WentBack v w k l x' y' m) (ex : length x' ≡ length x) (ey : length y' ≡ length y) where
  abbrev others : List Moment
  others = moments_behind k.forks

  all : AreMoments v (length x) (length y) roots a b (m ∷ ms ++ others)
  all = subst (λ ns. AreMoments v (length x) (length y) roots a b (ns ++ others)) is moments

  newest : AreMoments v (length x) (length y) roots m.choice.cells m.choice.trail (m ∷ ms ++ others)
  newest = (omega arith, omega arith, all.2, all.3)

  mark : IsMark w.cells w.trail m.choice.cells m.choice.trail
  mark = back.older m.choice.cells m.choice.trail (omega arith) (omega arith) all.2.mark

  kept : l.moments ≡ m ∷ ms
  kept = ap (λ (u : Kept). u.moments) back.kept ∙ is

  kept-forks : l.forks ≡ k.forks
  kept-forks = ap (λ (u : Kept). u.forks) back.kept

  all-kept : all_moments l ≡ m ∷ ms ++ others
  all-kept = ap₂ (λ ns fs. ns ++ moments_behind fs) kept kept-forks

  moments-back : AreMoments w (length x) (length y) roots (length w.cells) (length w.trail) (m ∷ ms ++ others)
  moments-back =
      let c = AreMoments-back v w m.choice.cells m.choice.trail back.older back.leads (length x) (length y) roots m.choice.cells m.choice.trail (m ∷ ms ++ others) (omega arith) (omega arith) newest in
      (mark.fewer, mark.earlier, c.2, c.3)

  pub Sane-back : Sane w l x' y' roots
  Sane-back =
      let i = all.2 in
      let f : m.choice.cells ≤ length w.cells = mark.fewer in
      let b : 1 ≤ m.choice.cells = i.bottom in
      record {
        x = λ u. let g : held m.arguments u < m.choice.cells = i.arguments u in let e = back.hold_x u in omega arith;
        y = λ u. let e = back.hold_y u in omega arith;
        returns = subst (AreWithin (length w.cells)) (sym (ap (λ (u : Kept). u.returns) back.kept)) (AreWithin-more m.choice.cells (length w.cells) m.returns f i.returns);
        short = subst (λ n. AreShort n l.returns) (sym ey) (subst (AreShort (length y)) (sym (ap (λ (u : Kept). u.returns) back.kept)) i.short);
        inside = inside-more m.choice.cells (length w.cells) roots f i.inside;
        bottom = HasBottom-back v w m.choice.cells m.choice.trail back.older back.leads b bottom;
        moments = subst (λ n. AreMoments w n (length y') roots (length w.cells) (length w.trail) (all_moments l)) (sym ex)
            (subst (λ n. AreMoments w (length x) n roots (length w.cells) (length w.trail) (all_moments l)) (sym ey)
            (subst (AreMoments w (length x) (length y) roots (length w.cells) (length w.trail)) (sym all-kept) moments-back));
        forks = subst (AllByRecursion HasFrames) (sym kept-forks) forks;
      }

  pub points-stay : map (point_of w) l.moments ≡ map (point_of v) k.moments
  points-stay =
      ap (map (point_of w)) kept
      ∙ points-back v w m.choice.cells m.choice.trail back.older back.leads (length x) (length y) roots m.choice.cells m.choice.trail (m ∷ ms) (omega arith) (omega arith)
      (AreMoments-front v (length x) (length y) roots m.choice.cells m.choice.trail (m ∷ ms) others newest)
      ∙ ap (map (point_of v)) (sym is)

  pub segments-stay : map (segment_of w) l.forks ≡ map (segment_of v) k.forks
  segments-stay =
      ap (map (segment_of w)) kept-forks
      ∙ segments-back v w m.choice.cells m.choice.trail back.older back.leads (length x) (length y) roots m.choice.cells m.choice.trail k.forks (omega arith) (omega arith)
      (AreMoments-behind v (length x) (length y) roots m.choice.cells m.choice.trail (m ∷ ms) others newest)

pub can-go-back : (v : Store) (xs ys : ℕ) (roots : List ℕ) (a b : ℕ) (ms : List Moment) → AreMoments v xs ys roots a b ms → (q : Point) × (qs : List Point) × (map (point_of v) ms ≡ q ∷ qs) → CanGoBack v ms xs
can-go-back v xs ys roots a b [] h some = let z : [] ≡ some.0 ∷ some.1 = some.2 in cc
can-go-back v xs ys roots a b (m ∷ ms) h some = (m, ms, refl, h.2.mark, h.2.few)

-- ---- the newest choice point

-- some choice point is the newest one
pub some-moment : (v : Store) (ms : List Moment) → (q : Point) × (qs : List Point) × (map (point_of v) ms ≡ q ∷ qs) → (m : Moment) × (rest : List Moment) × (ms ≡ m ∷ rest)
some-moment v [] some = let z : [] ≡ some.0 ∷ some.1 = some.2 in cc
some-moment v (m ∷ ms) some = (m, ms, refl)

pub point-newest : (v : Store) (ms : List Moment) (m : Moment) (rest : List Moment) (c : Choice) → ms ≡ m ∷ rest → m.choice ≡ c
    → (q : Point) × (qs : List Point) × (map (point_of v) ms ≡ q ∷ qs) × (q.place ≡ c.place) × (q.behind ≡ c.behind)
point-newest v ms m rest c e ec = (point_of v m, map (point_of v) rest, ap (map (point_of v)) e, ap (λ (d : Choice). d.place) ec, ap (λ (d : Choice). d.behind) ec)

module _ (v : Store) (k l : Kept) (x y roots : List ℕ) (m : Moment) (ms : List Moment) (is : k.moments ≡ m ∷ ms) (h : Sane v k x y roots) where
  sane : AreMoments v (length x) (length y) roots (length v.cells) (length v.trail) (m ∷ ms ++ moments_behind k.forks)
  sane = subst (λ ns. AreMoments v (length x) (length y) roots (length v.cells) (length v.trail) (ns ++ moments_behind k.forks)) is h.moments

  abbrev renamed-moment : ℕ → Option ℕ → Moment
  renamed-moment place behind = record { choice = record m.choice { place = place; behind = behind }; returns = m.returns; arguments = m.arguments }

  -- other clauses are named
  pub Sane-renamed : (place : ℕ) (behind : Option ℕ) → l ≡ record k { moments = renamed-moment place behind ∷ ms } → Sane v l x y roots
  Sane-renamed place behind e = subst (λ j. Sane v j x y roots) (sym e) (record {
    x = h.x;
    y = h.y;
    returns = h.returns;
    short = h.short;
    inside = h.inside;
    bottom = h.bottom;
    moments = let i = sane.2 in (sane.0, sane.1, record { mark = i.mark; bottom = i.bottom; returns = i.returns; short = i.short; arguments = i.arguments; few = i.few; inside = i.inside }, sane.3);
    forks = h.forks;
  })

  -- it is forgotten
  pub Sane-forgotten : l ≡ record k { moments = ms } → Sane v l x y roots
  Sane-forgotten e = subst (λ j. Sane v j x y roots) (sym e) (record {
    x = h.x;
    y = h.y;
    returns = h.returns;
    short = h.short;
    inside = h.inside;
    bottom = h.bottom;
    moments = AreMoments-more v (length x) (length y) roots m.choice.cells m.choice.trail (length v.cells) (length v.trail) (ms ++ moments_behind k.forks) sane.0 sane.1 sane.3;
    forks = h.forks;
  })

-- ---- as the search's callers see it

module _ (v : Store) (k l : Kept) (x y roots : List ℕ) (next : Kind) (spent budget : ℕ) (s : Paused)
    (view : paused_of v k x y roots next spent budget ≡ s) where
  abbrev seen : List Point → List Return → Paused → Paused
  seen ps ws t = record t { machine = record t.machine { points = ps; returns = ws } }

  pub points-forgotten : ((m : Moment) (ms : List Moment) → k.moments ≡ m ∷ ms → l ≡ record k { moments = ms }) → (q : Point) (qs : List Point) → s.machine.points ≡ q ∷ qs
      → ◌≡◌ {A = Paused} (paused_of v l x y roots next spent budget) (record s { machine = record s.machine { points = qs } })
  points-forgotten f q qs e =
      let ep : map (point_of v) k.moments ≡ q ∷ qs = ap (λ (t : Paused). t.machine.points) view ∙ e in
      let m = some-moment v k.moments (q, qs, ep) in
      let d : point_of v m.0 ∷ map (point_of v) m.1 ≡ q ∷ qs = ap (map (point_of v)) (sym m.2) ∙ ep in
      let er : map (point_of v) m.1 ≡ qs = cc in
      ap (λ j. paused_of v j x y roots next spent budget) (f m.0 m.1 m.2)
      ∙ ap (λ ps. record { machine = record { cells = v.cells; x = x; y = y; returns = k.returns; roots = roots; points = ps; now = now_of next }; spent = spent; budget = budget; older = map (segment_of v) k.forks }) er
      ∙ ap (λ (t : Paused). record t { machine = record t.machine { points = qs } }) view

  pub points-renamed : (place : ℕ) (behind : Option ℕ)
      → ((m : Moment) (ms : List Moment) → k.moments ≡ m ∷ ms → l ≡ record k { moments = record { choice = record m.choice { place = place; behind = behind }; returns = m.returns; arguments = m.arguments } ∷ ms })
      → (q : Point) (qs : List Point) → s.machine.points ≡ q ∷ qs
      → ◌≡◌ {A = Paused} (paused_of v l x y roots next spent budget) (record s { machine = record s.machine { points = record q { place = place; behind = behind } ∷ qs } })
  points-renamed place behind f q qs e =
      let ep : map (point_of v) k.moments ≡ q ∷ qs = ap (λ (t : Paused). t.machine.points) view ∙ e in
      let m = some-moment v k.moments (q, qs, ep) in
      let d : point_of v m.0 ∷ map (point_of v) m.1 ≡ q ∷ qs = ap (map (point_of v)) (sym m.2) ∙ ep in
      let eh : point_of v m.0 ≡ q = cc in
      let er : map (point_of v) m.1 ≡ qs = cc in
      ap (λ j. paused_of v j x y roots next spent budget) (f m.0 m.1 m.2)
      ∙ ap₂ (λ (u : Point) ps. record { machine = record { cells = v.cells; x = x; y = y; returns = k.returns; roots = roots; points = record u { place = place; behind = behind } ∷ ps; now = now_of next }; spent = spent; budget = budget; older = map (segment_of v) k.forks }) eh er
      ∙ ap (λ (t : Paused). record t { machine = record t.machine { points = record q { place = place; behind = behind } ∷ qs } }) view

  pub newest-of : (o : Option Choice) → IfSome o (λ choice. (m : Moment) × (ms : List Moment) × (k.moments ≡ m ∷ ms) × (m.choice ≡ choice))
      → IfSome o (λ c. (q : Point) × (qs : List Point) × (s.machine.points ≡ q ∷ qs) × (q.place ≡ c.place) × (q.behind ≡ c.behind))
  newest-of None h = h
  newest-of (Some c) h =
      let n = point-newest v k.moments h.0 h.1 c h.2 h.3 in
      (n.0, n.1, sym (ap (λ (t : Paused). t.machine.points) view) ∙ n.2, n.3, n.4)

-- ---- going back

pub held-zeros : (n k : ℕ) → held (replicate n 0) k ≡ 0
held-zeros zero k = refl
held-zeros (suc n) zero = refl
held-zeros (suc n) (suc k) = held-zeros n k

module _ (v w : Store) (old new : Kept) (x y : List ℕ) (c : Choice) (m : Moment) (ms : List Moment) (is : old.moments ≡ m ∷ ms)
    (some : (m' : Moment) × (ms' : List Moment) × (old.moments ≡ m' ∷ ms') × (m'.choice ≡ c)) where
  choice : m.choice ≡ c
  choice =
      let e : m ∷ ms ≡ some.0 ∷ some.1 = sym is ∙ some.2 in
      let f : m ≡ some.0 = cc in
      ap (λ (u : Moment). u.choice) f ∙ some.3

  pub went-back : w.cells ≡ undone v c.cells c.trail → ((n t : ℕ) → n ≤ c.cells → t ≤ c.trail → IsMark v.cells v.trail n t → IsMark w.cells w.trail n t)
      → ((n t : ℕ) → n ≤ c.cells → t ≤ c.trail → IsMark v.cells v.trail n t → undone w n t ≡ undone v n t)
      → new ≡ record old { returns = m.returns } → ((n : ℕ) → held x n ≡ held m.arguments n) → (n : ℕ) → y ≡ replicate n 0 → WentBack v w old new x y m
  went-back cells older leads kept hx n ey = record {
    cells = subst (λ (d : Choice). w.cells ≡ undone v d.cells d.trail) (sym choice) cells;
    older = subst (λ (d : Choice). (n t : ℕ) → n ≤ d.cells → t ≤ d.trail → IsMark v.cells v.trail n t → IsMark w.cells w.trail n t) (sym choice) older;
    leads = subst (λ (d : Choice). (n t : ℕ) → n ≤ d.cells → t ≤ d.trail → IsMark v.cells v.trail n t → undone w n t ≡ undone v n t) (sym choice) leads;
    kept = kept;
    hold_x = hx;
    hold_y = λ k. ap (λ ys. held ys k) ey ∙ held-zeros n k;
  }

pub few-arguments : (v : Store) (ms : List Moment) (xs : ℕ) → CanGoBack v ms xs → (m : Moment) (rest : List Moment) → ms ≡ m ∷ rest → length m.arguments ≤ xs
few-arguments v ms xs can m rest e =
    let d : m ∷ rest ≡ can.0 ∷ can.1 = sym e ∙ can.2 in
    let f : m ≡ can.0 = cc in
    subst (λ (u : Moment). length u.arguments ≤ xs) (sym f) can.4
