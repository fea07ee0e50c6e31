-- A search at a new fork.
use Rattle.std.proofs.Common.{◌≡◌, ℕ, zero, suc, ◌+◌, ◌-◌, ◌<◌, ◌≤◌, List, [], ◌∷◌, ◌++◌, length, take, drop, map, replicate, slice_get, Option, Some, inl, inr, Result, Ok, Err, refl, ap, ap₂, sym, ◌∙◌, subst, arith}
use Rattle.std.specs.Prelude.{IfOk, OnOk}
use Rattle.std.specs.List.{AllByRecursion}
use Rattle.std.proofs.lemmas.List.{length-map, length-replicate, drop_at}
use Rattle.std.proofs.Math.Seq.{take-append_seam}
use Rattle.ap_group.specs.Meets.{AreInside}
use Rattle.ap_cells.specs.declared.cells.Raw.{Raw}
use Rattle.ap_cells.specs.Store.{Store, Keeps}
use Rattle.ap_cells.specs.Walks.{Each}
use Rattle.ap_instr.specs.Code.{Compiled}
use Rattle.ap_needs.specs.Needs.{AllHaveTargets}
use Rattle.ap_environments.specs.Kept.{Forked as ForkKept, Kept}
use Rattle.ap_group.specs.declared.gathering.Gathered.{Gathered}
use Rattle.ap_group.specs.Groups.{Pushed}
use Rattle.ap_group.specs.Gathers.{IsGathered, IsPlainWay, IsForcedWay, IsCutOff}
use Rattle.ap_group.specs.Turns.{IsKnown, IsInside, HasPushed}
use Rattle.ap_steps.specs.Moves.{held, HoldPlaces}
use Rattle.ap_steps.specs.Standing.{Return}
use Rattle.ap_standing.specs.Machine.{inside, Machine, AreWithin}
use Rattle.ap_machine.specs.declared.state.Now.{Now as Kind}
use Rattle.ap_machine.specs.declared.state.Now.TheVariants.{Inside, Failed}
use Rattle.ap_machine.specs.View.{Segment, Paused, now_of, point_of, pushed_of, forked_of, segment_of, paused_of, AreLiveAt, IsFor}
use Rattle.ap_machine.specs.Sane.{AreShort, IsMoment, AreMoments, moment_at, all_moments, Sane}
use Rattle.ap_machine.specs.Choices.{Stays}
use Rattle.ap_machine.specs.Lasting.{SameRest}
use Rattle.ap_machine.specs.Forking.{frame_of, frames_on, HasKept, ForksTo, HasForked, HasPlainWay, HasGoneOn}
use Rattle.ap_machine.proofs.Kept.{AreWithin-more, inside-more, AreMoments-now, HasBottom-keeps}
use Rattle.ap_machine.proofs.Living.{all-live, live-none, live-on, live-failed}
use Rattle.ap_machine.proofs.Progress.{still-for}
use Rattle.ap_machine.proofs.Ran.{sane-kept, sane-cleared, paused-same, stays-ran, rest-same}
use Rattle.ap_machine.proofs.Sanity.{held-zeros, points-same, segments-same}

-- ---- frames of goals

dropped : (ps : List Pushed) (n : ℕ) (p : Pushed) → slice_get ps n ≡ Some p → drop n ps ≡ p ∷ drop (suc n) ps
dropped [] n p e = cc
dropped (q ∷ ps) zero p e = let d : Some q ≡ Some p = e in let f : q ≡ p = cc in ap (λ r. r ∷ ps) f
dropped (q ∷ ps) (suc n) p e = dropped ps n p e

-- one goal's frame more, from the last goal on
pub frame-more : (ps : List Pushed) (m : ℕ) (p : Pushed) (ws : List Return) → 0 < m → slice_get ps (m - 1) ≡ Some p → map frame_of (drop (m - 1) ps) ++ ws ≡ frame_of p ∷ map frame_of (drop m ps) ++ ws
frame-more ps m p ws l e = ap (λ qs. map frame_of qs ++ ws) (dropped ps (m - 1) p e ∙ ap (λ n. p ∷ drop n ps) (let q : suc (m - 1) ≡ m = omega arith in q))

pub frames-left : (ps : List Pushed) (w : Return) (ws : List Return) (n : ℕ) → n ≡ length ps → drop n (frames_on ps w ws) ≡ w ∷ ws
frames-left ps w ws n e = drop_at (map frame_of ps) (w ∷ ws) n (length-map ps frame_of ∙ sym e)

pushed-frames : (ps : List Pushed) → map pushed_of (map frame_of ps) ≡ ps
pushed-frames [] = refl
pushed-frames (p ∷ ps) = ap (λ qs. p ∷ qs) (pushed-frames ps)

pub frames-taken : (ps : List Pushed) (w : Return) (ws : List Return) (n : ℕ) → n ≡ length ps → map pushed_of (take n (frames_on ps w ws)) ≡ ps
frames-taken ps w ws n e =
    ap (λ m. map pushed_of (take m (frames_on ps w ws))) (e ∙ sym (length-map ps frame_of)) ∙ ap (map pushed_of) (take-append_seam (map frame_of ps) (w ∷ ws)) ∙ pushed-frames ps

pub frames-many : (ps : List Pushed) (w : Return) (ws : List Return) (n : ℕ) → n ≡ length ps → n ≤ length (frames_on ps w ws)
frames-many ps w ws n e = go ps n e
  where
    go : (ps : List Pushed) (n : ℕ) → n ≡ length ps → n ≤ length (frames_on ps w ws)
    go [] n e = omega arith
    go (p ∷ ps) n e = let i = go ps (length ps) refl in omega arith

pub frames-gone : (ps : List Pushed) (w : Return) (ws : List Return) (n : ℕ) → n ≡ length ps + 1 → drop n (frames_on ps w ws) ≡ ws
frames-gone [] w ws n e = let q : n ≡ 1 = omega arith in ap (λ m. drop m (w ∷ ws)) q
frames-gone (p ∷ ps) w ws n e = let q : n ≡ suc (length ps + 1) = omega arith in ap (λ m. drop m (frame_of p ∷ frames_on ps w ws)) q ∙ frames-gone ps w ws (length ps + 1) refl

pub ok-then : {T E P Q : Type 0} (r : Result T E) → (P → Q) → OnOk r P → OnOk r Q
ok-then (Ok v) f h = f h
ok-then (Err e) f h = tt

held-each : (n : ℕ) (xs : List ℕ) → 0 < n → Each (λ r. r < n) xs → HoldPlaces n xs
held-each n [] l h w = l
held-each n (x ∷ xs) l h zero = h.0
held-each n (x ∷ xs) l h (suc w) = held-each n xs l h.1 w

-- ---- goals that were kept, with no return, and registers that all hold place 0

module _ (code : Compiled) (v w : Store) (k l : Kept) (x y x' y' x'' y'' roots : List ℕ) (at to n m : ℕ) (ps : List Pushed) (sane : Sane v k x y roots) (keeps : Keeps v w) (longer : length v.cells ≤ length w.cells)
    (pushed : HasPushed code at v.cells x y to w.cells x' y' ps) (kept : HasKept w to y' ps k l)
    (ex : x'' ≡ replicate n 0) (ey : y'' ≡ replicate m 0) (en : n ≡ length x) (em : m ≡ length y) (wide : length y' ≡ length y) where
  abbrev fork : ForkKept
  fork = record { fork = kept.fork; returns = frames_on ps kept.behind k.returns; moments = k.moments }

  x_len : length x'' ≡ length x
  x_len = ap length ex ∙ length-replicate n 0 ∙ en

  y_len : length y'' ≡ length y
  y_len = ap length ey ∙ length-replicate m 0 ∙ em

  some : 0 < length w.cells
  some = let b : 1 ≤ length v.cells = sane.bottom.mark.fewer in omega (arith, longer)

  left : drop fork.fork.goals fork.returns ≡ kept.behind ∷ k.returns
  left = frames-left ps kept.behind k.returns kept.fork.goals kept.count

  taken : map pushed_of (take fork.fork.goals fork.returns) ≡ ps
  taken = frames-taken ps kept.behind k.returns kept.fork.goals kept.count

  behind-within : AreWithin (length w.cells) (kept.behind ∷ k.returns)
  behind-within = (
    λ u. let e = kept.held_y u in let h : held y' u < length w.cells = pushed.holds_y u in omega arith,
    AreWithin-more (length v.cells) (length w.cells) k.returns longer sane.returns,
  )

  frames-within : (qs : List Pushed) → AllByRecursion (IsInside (length w.cells)) qs → AreWithin (length w.cells) (frames_on qs kept.behind k.returns)
  frames-within [] h = behind-within
  frames-within (q ∷ qs) h = (held-each (length w.cells) q.arguments some h.0, frames-within qs h.1)

  roots-inside : AllByRecursion (λ r. r < length w.cells) roots
  roots-inside = inside-more (length v.cells) (length w.cells) roots longer sane.inside

  moment : IsMoment w (length x) (length y) roots (moment_at fork)
  moment = record {
    mark = kept.mark;
    bottom = let c = kept.cells in let s = some in omega arith;
    returns = subst (AreWithin kept.fork.cells) (sym left) (subst (λ c. AreWithin c (kept.behind ∷ k.returns)) (sym kept.cells) behind-within);
    short = subst (AreShort (length y)) (sym left) (omega (arith, kept.few, wide), sane.short);
    arguments = λ u. let c = kept.cells in let s = some in omega arith;
    few = omega arith;
    inside = subst (λ c. AllByRecursion (λ r. r < c) roots) (sym kept.cells) roots-inside;
  }

  moments : AreMoments w (length x) (length y) roots (length w.cells) (length w.trail) (moment_at fork ∷ all_moments k)
  moments = (
    kept.mark.fewer,
    kept.mark.earlier,
    moment,
    subst (λ a. AreMoments w (length x) (length y) roots a kept.fork.trail (all_moments k)) (sym kept.cells)
        (subst (λ b. AreMoments w (length x) (length y) roots (length w.cells) b (all_moments k)) (sym kept.bindings)
        (AreMoments-now v w (length x) (length y) roots (length v.cells) (length v.trail) (all_moments k) keeps sane.moments)),
  )

  pub Sane-forked : Sane w l x'' y'' roots
  Sane-forked = subst (λ j. Sane w j x'' y'' roots) (sym kept.kept) (record {
    x = λ u. let z : held x'' u ≡ 0 = ap (λ us. held us u) ex ∙ held-zeros n u in let s = some in omega arith;
    y = λ u. let z : held y'' u ≡ 0 = ap (λ us. held us u) ey ∙ held-zeros m u in let s = some in omega arith;
    returns = tt;
    short = tt;
    inside = roots-inside;
    bottom = HasBottom-keeps v w keeps sane.bottom;
    moments = subst (λ a. AreMoments w a (length y'') roots (length w.cells) (length w.trail) (moment_at fork ∷ all_moments k)) (sym x_len)
        (subst (λ a. AreMoments w (length x) a roots (length w.cells) (length w.trail) (moment_at fork ∷ all_moments k)) (sym y_len) moments);
    forks = (
      record {
        enough = frames-many ps kept.behind k.returns kept.fork.goals kept.count;
        within = subst (λ c. AreWithin c fork.returns) (sym kept.cells) (frames-within ps pushed.ready.inside);
      },
      sane.forks,
    );
  })

  module _ (next : Kind) (spent budget : ℕ) where
    abbrev before : Paused
    before = paused_of v k x y roots next spent budget

    abbrev behind : Paused
    behind = paused_of w l x'' y'' roots Failed spent budget

    abbrev segment : Segment
    segment = record { forked = forked_of w fork; points = before.machine.points }

    no-points : behind.machine.points ≡ []
    no-points = ap (λ (j : Kept). map (point_of w) j.moments) kept.kept

    older : behind.older ≡ segment ∷ before.older
    older =
        ap (λ (j : Kept). map (segment_of w) j.forks) kept.kept
        ∙ ap₂ (λ qs gs. record { forked = forked_of w fork; points = qs } ∷ gs) (points-same v w k x y roots keeps sane) (segments-same v w k x y roots keeps sane)

    pub has-forked : now_of next ≡ inside at → HasForked code before behind
    has-forked here = record {
      at = at;
      to = to;
      there_x = x';
      there_y = y';
      behind = kept.behind;
      forked = forked_of w fork;
      here = here;
      gathered = subst (λ cs. IsGathered code at v.cells x y to cs x' y' (forked_of w fork).goals) (sym kept.leads) (subst (IsGathered code at v.cells x y to w.cells x' y') (sym taken) pushed.gathered);
      returns = left;
      place = kept.place;
      y = kept.held_y;
      at_fork = record {
        cells = sym kept.leads;
        now = refl;
        returns = ap (λ (j : Kept). j.returns) kept.kept;
        points = no-points;
        roots = refl;
        x = x_len;
        y = y_len;
        older = older;
        spent = refl;
        budget = refl;
      };
      known = subst (AllByRecursion (IsKnown code)) (sym taken) pushed.ready.known;
      within = subst (λ cs. AreWithin (length cs) (forked_of w fork).returns) (sym kept.leads) (subst (AreWithin (length w.cells)) (sym left) behind-within);
      arguments = subst (λ cs. AreInside (length cs) (forked_of w fork).goals) (sym kept.leads) (subst (AreInside (length w.cells)) (sym taken) pushed.ready.inside);
      inside_cells = subst (λ cs. AllByRecursion (λ r. r < length cs) roots) (sym kept.leads) roots-inside;
      returns_before = sane.returns;
      roots_before = sane.inside;
    }

    pub for-forked : now_of next ≡ inside at → IsFor code before → IsFor code behind
    for-forked here h = record {
      targets = λ p. subst (λ a. AllHaveTargets (drop p code.instructions) a (length y'')) (sym x_len) (subst (AllHaveTargets (drop p code.instructions) (length x)) (sym y_len) (h.targets p));
      arities = λ i q e. subst (λ a. q.arity < a) (sym x_len) (h.arities i q e);
      live = live-none code behind.machine no-points;
      older = subst (AllByRecursion (AreLiveAt code)) (sym older) (all-live code before.machine (inside at) here (λ qs. refl) h.live, h.older);
    }

-- ---- no goals

pub plain-for : (code : Compiled) (s t : Paused) (at to : ℕ) → s.machine.now ≡ inside at → t ≡ record s { machine = record s.machine { now = inside to } } → IsFor code s → IsFor code t
plain-for code s t at to here e h =
    let u : Paused = record s { machine = record s.machine { now = inside to } } in
    subst (IsFor code) (sym e)
    (still-for code s u h (record { x = refl; y = refl; roots = refl; spent = refl; budget = refl; older = refl }) (live-on code s.machine u.machine (inside at) here (λ qs. refl) refl))

module _ (kode code : Compiled) (same : kode ≡ code) (m : Machine) (at : ℕ) (here : m.now ≡ inside at) where
  pub plain-found : {E : Type 0} (found : Result ℕ E) → IfOk found (λ to. (cs : List Raw) (x y : List ℕ) → IsPlainWay kode at cs x y to) → IfOk found (HasPlainWay code m)
  plain-found (Ok to) h = record { at = at; here = here; way = subst (λ k. IsPlainWay k at m.cells m.x m.y to) same (h m.cells m.x m.y) }
  plain-found (Err error) h = tt

-- control goes on elsewhere, with all else as it was
module _ (code : Compiled) (v w : Store) (k l : Kept) (x y x' y' roots : List ℕ) (next : Kind) (spent budget at : ℕ) (s : Paused)
    (view : paused_of v k x y roots next spent budget ≡ s) (sane : Sane v k x y roots) (keeps : Keeps v w) (same : l ≡ k) (cells : w.cells ≡ v.cells) where
  pub Sane-plain : x' ≡ x → y' ≡ y → Sane w l x' y' roots
  Sane-plain ex ey = subst (λ j. Sane w j x' y' roots) (sym same) (sane-kept v w k x y x' y' roots sane keeps (omega (arith, ap length cells)) ex ey)

  pub as-before : (next' : Kind) → x' ≡ x → y' ≡ y → ◌≡◌ {A = Paused} (paused_of w l x' y' roots next' spent budget) (paused_of v k x y roots next' spent budget)
  as-before next' ex ey = ap (λ j. paused_of w j x' y' roots next' spent budget) same ∙ paused-same v w k x y x' y' roots next' spent budget sane keeps cells ex ey

  pub goes-on : (to : ℕ) → x' ≡ x → y' ≡ y → ◌≡◌ {A = Paused} (paused_of w l x' y' roots (Inside to) spent budget) (record s { machine = record s.machine { now = inside to } })
  goes-on to ex ey = as-before (Inside to) ex ey ∙ ap (λ (u : Paused). record u { machine = record u.machine { now = inside to } }) view

  pub gone-plain : (to : ℕ) → x' ≡ x → y' ≡ y → s.machine.now ≡ inside at → IsForcedWay code at v.cells x y to → HasGoneOn code s (paused_of w l x' y' roots (Inside to) spent budget)
  gone-plain to ex ey here way =
      let seen = subst (λ (u : Paused). IsForcedWay code at u.machine.cells u.machine.x u.machine.y to) view way in
      inl (record { gone = record { to = to; leads = record { at = at; here = here; way = seen.0 }; goes_on = goes-on to ex ey }; fails = seen.1 })

  pub for-plain : (to : ℕ) → x' ≡ x → y' ≡ y → s.machine.now ≡ inside at → IsFor code s → IsFor code (paused_of w l x' y' roots (Inside to) spent budget)
  for-plain to ex ey here h = plain-for code s (paused_of w l x' y' roots (Inside to) spent budget) at to here (goes-on to ex ey) h

  module _ (n m : ℕ) (ex : x' ≡ replicate n 0) (ey : y' ≡ replicate m 0) (en : n ≡ length x) (em : m ≡ length y) where
    abbrev cut : Paused
    cut = paused_of w k x' y' roots Failed spent budget

    stays : Stays s cut
    stays = stays-ran v w k x y x' y' roots next Failed spent budget s view sane keeps (ap length ex ∙ length-replicate n 0 ∙ en) (ap length ey ∙ length-replicate m 0 ∙ em)

    rest : SameRest s.machine cut.machine
    rest = rest-same v w k x y x' y' roots next Failed s.machine (ap (λ (u : Paused). u.machine) view) sane keeps

    seen : ◌≡◌ {A = Paused} (paused_of w l x' y' roots Failed spent budget) cut
    seen = ap (λ j. paused_of w j x' y' roots Failed spent budget) same

    pub Sane-cut : Sane w l x' y' roots
    Sane-cut = subst (λ j. Sane w j x' y' roots) (sym same) (sane-cleared v w k x y x' y' roots n m sane keeps (omega (arith, ap length cells)) ex ey en em)

    pub gone-cut : s.machine.now ≡ inside at → IsCutOff code at v.cells x y → HasGoneOn code s (paused_of w l x' y' roots Failed spent budget)
    gone-cut here off = subst (HasGoneOn code s) (sym seen) (inr (record {
      at = at;
      here = here;
      cut = subst (λ (u : Paused). IsCutOff code at u.machine.cells u.machine.x u.machine.y) view off;
      cells = cells ∙ ap (λ (u : Paused). u.machine.cells) view;
      now = refl;
      rest = rest;
      stays = stays;
    }))

    pub for-cut : IsFor code s → IsFor code (paused_of w l x' y' roots Failed spent budget)
    for-cut h = subst (IsFor code) (sym seen) (still-for code s cut h stays (live-failed code s.machine cut.machine refl rest.points))

-- ---- as they stand in the code

pub as-forks : (code : Compiled) (at : ℕ) (v w : Store) (x x₁ y y₁ x' y' : List ℕ) (o o₁ : Option Gathered) (ps : List Pushed) (k l : Kept) → x₁ ≡ x → y₁ ≡ y → o₁ ≡ o → ForksTo code at v x₁ y₁ o₁ w x' y' ps k l → ForksTo code at v x y o w x' y' ps k l
as-forks code at v w x x₁ y y₁ x' y' o o₁ ps k l ex ey eo h =
    subst (λ us. ForksTo code at v us y o w x' y' ps k l) ex (subst (λ us. ForksTo code at v x₁ us o w x' y' ps k l) ey (subst (λ q. ForksTo code at v x₁ y₁ q w x' y' ps k l) eo h))
