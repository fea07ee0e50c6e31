-- A search at its newest fork, and without it.
use Rattle.std.proofs.Common.{◌≡◌, ℕ, zero, suc, ◌<◌, ◌≤◌, List, [], ◌∷◌, ◌++◌, length, take, map, replicate, slice_get, None, Some, refl, ap, ap₂, sym, ◌∙◌, subst, arith}
use Rattle.std.specs.List.{AllByRecursion}
use Rattle.std.proofs.lemmas.List.{length-take-le, length-map, length-replicate}
use Rattle.ap_cells.specs.Store.{Store, undone, IsMark}
use Rattle.ap_cells.specs.Walks.{Each}
use Rattle.ap_instr.specs.Code.{Compiled}
use Rattle.ap_environments.specs.Kept.{Forked, Kept}
use Rattle.ap_environments.specs.declared.environments.Fork.{Fork}
use Rattle.ap_steps.specs.Moves.{held, HoldPlaces}
use Rattle.ap_steps.specs.Standing.{Return}
use Rattle.ap_standing.specs.Machine.{failed, AreWithin}
use Rattle.ap_machine.specs.declared.state.Now.{Now as Kind}
use Rattle.ap_machine.specs.View.{Segment, Paused, now_of, point_of, pushed_of, segment_of, paused_of, AreLiveAt, IsFor}
use Rattle.ap_machine.specs.Sane.{AreShort, AreMoments, moments_behind, all_moments, HasFrames, Sane}
use Rattle.ap_machine.specs.Forks.{newest_goals, IsAtFork}
use Rattle.ap_machine.proofs.Kept.{HoldPlaces-more, inside-more, AreMoments-more, AreMoments-behind, AreMoments-back, segments-back, HasBottom-back}
use Rattle.ap_machine.proofs.Living.{live-none, live-points}
use Rattle.ap_machine.proofs.Progress.{as-wide}
use Rattle.ap_machine.proofs.Sanity.{held-zeros}
use Rattle.ap_term.proofs.Lists.{slice_get-inside}

-- ---- what is seen of them

none-mapped : {X Y : Type 0} (f : X → Y) (xs : List X) → map f xs ≡ [] → xs ≡ []
none-mapped f [] e = refl
none-mapped f (x ∷ xs) e = cc

-- no choice point is newer than the newest fork
pub no-moment : (v : Store) (k : Kept) (x y roots : List ℕ) (next : Kind) (spent budget : ℕ) (s : Paused) → paused_of v k x y roots next spent budget ≡ s → s.machine.points ≡ [] → k.moments ≡ []
no-moment v k x y roots next spent budget s view none = none-mapped (point_of v) k.moments (ap (λ (t : Paused). t.machine.points) view ∙ none)

-- a goal's place and registers
taken-at : (n : ℕ) (ws : List Return) (i : ℕ) (w : Return) → i < n → slice_get ws i ≡ Some w → slice_get (map pushed_of (take n ws)) i ≡ Some (pushed_of w)
taken-at zero ws i w l e = absurd (omega arith)
taken-at (suc n) [] i w l e = cc
taken-at (suc n) (v ∷ ws) zero w l e = let d : Some v ≡ Some w = e in let f : v ≡ w = cc in ap (λ u. Some (pushed_of u)) f
taken-at (suc n) (v ∷ ws) (suc i) w l e = taken-at n ws i w (omega arith) e

within-at : (n : ℕ) (ws : List Return) (i : ℕ) (w : Return) → slice_get ws i ≡ Some w → AreWithin n ws → HoldPlaces n w.y
within-at n [] i w e h = cc
within-at n (v ∷ ws) zero w e h = let d : Some v ≡ Some w = e in let f : v ≡ w = cc in subst (λ (u : Return). HoldPlaces n u.y) f h.0
within-at n (v ∷ ws) (suc i) w e h = within-at n ws i w e h.1

pub each-held : (n : ℕ) (xs : List ℕ) → HoldPlaces n xs → Each (λ r. r < n) xs
each-held n [] h = tt
each-held n (x ∷ xs) h = (h zero, each-held n xs (λ w. h (suc w)))

-- where there is a fork
module _ (v : Store) (k : Kept) (x y roots : List ℕ) (f : Forked) (fs : List Forked) (is : k.forks ≡ f ∷ fs) (sane : Sane v k x y roots) where
  pub enough : f.fork.goals ≤ length f.returns
  enough = (subst (AllByRecursion HasFrames) is sane.forks).0.enough

  pub frames-within : AreWithin f.fork.cells f.returns
  frames-within = (subst (AllByRecursion HasFrames) is sane.forks).0.within

  -- from the fork on
  pub from-fork : AreMoments v (length x) (length y) roots (length v.cells) (length v.trail) (moments_behind (f ∷ fs))
  from-fork =
      subst (λ gs. AreMoments v (length x) (length y) roots (length v.cells) (length v.trail) (moments_behind gs)) is
      (AreMoments-behind v (length x) (length y) roots (length v.cells) (length v.trail) k.moments (moments_behind k.forks) sane.moments)

  pub fork-mark : (fork : Fork) → f.fork ≡ fork → IsMark v.cells v.trail fork.cells fork.trail
  fork-mark fork e = subst (λ (u : Fork). IsMark v.cells v.trail u.cells u.trail) e from-fork.2.mark

  module _ (next : Kind) (spent budget : ℕ) (s : Paused) (view : paused_of v k x y roots next spent budget ≡ s) where
    segments : segment_of v f ∷ map (segment_of v) fs ≡ s.older
    segments = ap (map (segment_of v)) (sym is) ∙ ap (λ (t : Paused). t.older) view

    pub newest : (g : Segment) (gs : List Segment) → s.older ≡ g ∷ gs → (segment_of v f ≡ g) × (map (segment_of v) fs ≡ gs)
    newest g gs e = let d : segment_of v f ∷ map (segment_of v) fs ≡ g ∷ gs = segments ∙ e in (cc, cc)

    pub not-none : s.older ≡ [] → ⊥
    not-none e = let d : segment_of v f ∷ map (segment_of v) fs ≡ [] = segments ∙ e in cc

    goals-are : newest_goals s.older ≡ map pushed_of (take f.fork.goals f.returns)
    goals-are = ap newest_goals (sym segments)

    pub goals-counted : (fork : Fork) → f.fork ≡ fork → length (newest_goals s.older) ≡ fork.goals
    goals-counted fork e =
        ap length goals-are ∙ length-map (take f.fork.goals f.returns) pushed_of ∙ length-take-le f.fork.goals f.returns enough ∙ ap (λ (u : Fork). u.goals) e

    pub goal-at : (i : ℕ) (w : Return) → i < f.fork.goals → slice_get f.returns i ≡ Some w → slice_get (newest_goals s.older) i ≡ Some (pushed_of w)
    goal-at i w l e = ap (λ ps. slice_get ps i) goals-are ∙ taken-at f.fork.goals f.returns i w l e

  -- a goal's arguments are places of the cells
  pub goal-inside : (i : ℕ) (w : Return) → slice_get f.returns i ≡ Some w → HoldPlaces (length v.cells) w.y
  goal-inside i w e = HoldPlaces-more f.fork.cells (length v.cells) w.y from-fork.0 (within-at f.fork.cells f.returns i w e frames-within)

-- ---- back at a fork

-- from v to w, with no return, and registers that all hold place 0
module _ (v w : Store) (k l : Kept) (x y x' y' roots : List ℕ) (f : Forked) (fs : List Forked) (none : k.moments ≡ []) (is : k.forks ≡ f ∷ fs) (sane : Sane v k x y roots)
    (fork : Fork) (same : f.fork ≡ fork) (cells : w.cells ≡ undone v fork.cells fork.trail)
    (older : (a b : ℕ) → a ≤ fork.cells → b ≤ fork.trail → IsMark v.cells v.trail a b → IsMark w.cells w.trail a b)
    (leads : (a b : ℕ) → a ≤ fork.cells → b ≤ fork.trail → IsMark v.cells v.trail a b → undone w a b ≡ undone v a b)
    (left : l ≡ record k { returns = [] }) (n m : ℕ) (ex : x' ≡ replicate n 0) (ey : y' ≡ replicate m 0) (en : n ≡ length x) (em : m ≡ length y) where
  x_len : length x' ≡ length x
  x_len = ap length ex ∙ length-replicate n 0 ∙ en

  y_len : length y' ≡ length y
  y_len = ap length ey ∙ length-replicate m 0 ∙ em

  all : AreMoments v (length x) (length y) roots (length v.cells) (length v.trail) (moments_behind (f ∷ fs))
  all = from-fork v k x y roots f fs is sane

  at : AreMoments v (length x) (length y) roots fork.cells fork.trail (moments_behind (f ∷ fs))
  at = subst (λ (u : Fork). AreMoments v (length x) (length y) roots u.cells u.trail (moments_behind (f ∷ fs))) same (let c : f.fork.cells ≤ f.fork.cells = omega arith in let t : f.fork.trail ≤ f.fork.trail = omega arith in (c, t, all.2, all.3))

  mark : IsMark w.cells w.trail fork.cells fork.trail
  mark = older fork.cells fork.trail (omega arith) (omega arith) (fork-mark v k x y roots f fs is sane fork same)

  some : 1 ≤ fork.cells
  some = subst (λ (u : Fork). 1 ≤ u.cells) same all.2.bottom

  back : AreMoments w (length x) (length y) roots (length w.cells) (length w.trail) (moments_behind (f ∷ fs))
  back =
      AreMoments-more w (length x) (length y) roots fork.cells fork.trail (length w.cells) (length w.trail) (moments_behind (f ∷ fs)) mark.fewer mark.earlier
      (AreMoments-back v w fork.cells fork.trail older leads (length x) (length y) roots fork.cells fork.trail (moments_behind (f ∷ fs)) (omega arith) (omega arith) at)

  kept : all_moments l ≡ moments_behind (f ∷ fs)
  kept = ap all_moments left ∙ ap₂ (λ ms gs. ms ++ moments_behind gs) none is

  -- the tuple's places are those of the fork
  roots-inside : AllByRecursion (λ r. r < fork.cells) roots
  roots-inside = subst (λ (u : Fork). AllByRecursion (λ r. r < u.cells) roots) same all.2.inside

  pub Sane-at-fork : Sane w l x' y' roots
  Sane-at-fork =
      let c : fork.cells ≤ length w.cells = mark.fewer in
      let s : 1 ≤ fork.cells = some in
      record {
        x = λ u. let z : held x' u ≡ 0 = ap (λ us. held us u) ex ∙ held-zeros n u in omega arith;
        y = λ u. let z : held y' u ≡ 0 = ap (λ us. held us u) ey ∙ held-zeros m u in omega arith;
        returns = subst (AreWithin (length w.cells)) (sym (ap (λ (u : Kept). u.returns) left)) tt;
        short = subst (AreShort (length y')) (sym (ap (λ (u : Kept). u.returns) left)) tt;
        inside = inside-more fork.cells (length w.cells) roots c roots-inside;
        bottom = HasBottom-back v w fork.cells fork.trail older leads s sane.bottom;
        moments = subst (λ a. AreMoments w a (length y') roots (length w.cells) (length w.trail) (all_moments l)) (sym x_len)
            (subst (λ a. AreMoments w (length x) a roots (length w.cells) (length w.trail) (all_moments l)) (sym y_len)
            (subst (AreMoments w (length x) (length y) roots (length w.cells) (length w.trail)) (sym kept) back));
        forks = subst (AllByRecursion HasFrames) (sym (ap (λ (u : Kept). u.forks) left)) sane.forks;
      }

  forks-stay : map (segment_of w) l.forks ≡ map (segment_of v) k.forks
  forks-stay =
      ap (map (segment_of w)) (ap (λ (u : Kept). u.forks) left ∙ is)
      ∙ segments-back v w fork.cells fork.trail older leads (length x) (length y) roots fork.cells fork.trail (f ∷ fs) (omega arith) (omega arith) at
      ∙ ap (map (segment_of v)) (sym is)

  module _ (next next' : Kind) (spent budget : ℕ) (s : Paused) (view : paused_of v k x y roots next spent budget ≡ s) where
    pub older-stay : map (segment_of w) l.forks ≡ s.older
    older-stay = forks-stay ∙ ap (λ (t : Paused). t.older) view

    pub points-none : map (point_of w) l.moments ≡ []
    points-none = ap (map (point_of w)) (ap (λ (u : Kept). u.moments) left ∙ none)

    pub at-fork : now_of next' ≡ failed → (g : Segment) (gs : List Segment) → s.older ≡ g ∷ gs → IsAtFork g (g ∷ gs) s (paused_of w l x' y' roots next' spent budget)
    at-fork due g gs e =
        let d = newest v k x y roots f fs is sane next spent budget s view g gs e in
        record {
          cells = cells ∙ ap (λ (u : Fork). undone v u.cells u.trail) (sym same) ∙ ap (λ (h : Segment). h.forked.cells) d.0;
          now = due;
          returns = ap (λ (u : Kept). u.returns) left;
          points = points-none;
          roots = ap (λ (t : Paused). t.machine.roots) view;
          x = x_len ∙ ap (λ (t : Paused). length t.machine.x) view;
          y = y_len ∙ ap (λ (t : Paused). length t.machine.y) view;
          older = older-stay ∙ e;
          spent = ap (λ (t : Paused). t.spent) view;
          budget = ap (λ (t : Paused). t.budget) view;
        }

    pub for-at-fork : (code : Compiled) → IsFor code s → IsFor code (paused_of w l x' y' roots next' spent budget)
    for-at-fork code h =
        let t = paused_of w l x' y' roots next' spent budget in
        as-wide code s t h (x_len ∙ ap (λ (t : Paused). length t.machine.x) view) (y_len ∙ ap (λ (t : Paused). length t.machine.y) view) (live-none code t.machine points-none) older-stay

-- ---- without a fork

module _ (v : Store) (k l : Kept) (x y roots : List ℕ) (f : Forked) (fs : List Forked) (is : k.forks ≡ f ∷ fs) (sane : Sane v k x y roots) (left : l ≡ record k { moments = f.moments; forks = fs }) where
  pub Sane-without : Sane v l x y roots
  Sane-without =
      let h = from-fork v k x y roots f fs is sane in
      subst (λ j. Sane v j x y roots) (sym left) (record {
        x = sane.x;
        y = sane.y;
        returns = sane.returns;
        short = sane.short;
        inside = sane.inside;
        bottom = sane.bottom;
        moments = AreMoments-more v (length x) (length y) roots f.fork.cells f.fork.trail (length v.cells) (length v.trail) (f.moments ++ moments_behind fs) h.0 h.1 h.3;
        forks = (subst (AllByRecursion HasFrames) is sane.forks).1;
      })

  pub seen-without : (next : Kind) (spent budget : ℕ) (s : Paused) → paused_of v k x y roots next spent budget ≡ s → (g : Segment) (gs : List Segment) → s.older ≡ g ∷ gs
      → ◌≡◌ {A = Paused} (paused_of v l x y roots next spent budget) (record s { machine = record s.machine { points = g.points }; older = gs })
  seen-without next spent budget s view g gs e =
      let d = newest v k x y roots f fs is sane next spent budget s view g gs e in
      ap (λ j. paused_of v j x y roots next spent budget) left
      ∙ ap₂ (λ (h : Segment) hs. record { machine = record { cells = v.cells; x = x; y = y; returns = k.returns; roots = roots; points = h.points; now = now_of next }; spent = spent; budget = budget; older = hs }) d.0 d.1
      ∙ ap (λ (t : Paused). record t { machine = record t.machine { points = g.points }; older = gs }) view

-- the choice points behind the fork are live
pub for-without : (code : Compiled) (t u : Paused) (g : Segment) (gs : List Segment) → IsFor code t → t.older ≡ g ∷ gs → u ≡ record t { machine = record t.machine { points = g.points }; older = gs } → IsFor code u
for-without code t u g gs h e eu =
    let lives : AllByRecursion (AreLiveAt code) (g ∷ gs) = subst (AllByRecursion (AreLiveAt code)) e h.older in
    subst (IsFor code) (sym eu) (record { targets = h.targets; arities = h.arities; live = live-points code (record t.machine { points = g.points }) lives.0; older = lives.1 })

pub for-dropped : (code : Compiled) (t u : Paused) → IsFor code t → ((g : Segment) (gs : List Segment) → t.older ≡ g ∷ gs → u ≡ record t { machine = record t.machine { points = g.points }; older = gs }) → (t.older ≡ [] → u ≡ t)
    → IsFor code u
for-dropped code t u h some none = go t.older refl
  where
    go : (gs : List Segment) → t.older ≡ gs → IsFor code u
    go [] e = subst (IsFor code) (sym (none e)) h
    go (g ∷ gs) e = for-without code t u g gs h e (some g gs e)

-- ---- whether there is a fork

module _ (v : Store) (k : Kept) (x y roots : List ℕ) (next : Kind) (spent budget : ℕ) (s : Paused) (view : paused_of v k x y roots next spent budget ≡ s) where
  pub no-fork : s.older ≡ [] → k.forks ≡ []
  no-fork e = none-mapped (segment_of v) k.forks (ap (λ (t : Paused). t.older) view ∙ e)

  pub no-goals : k.forks ≡ [] → newest_goals s.older ≡ []
  no-goals e = ap newest_goals (sym (ap (λ (t : Paused). t.older) view) ∙ ap (map (segment_of v)) e)

  pub none-older : k.forks ≡ [] → (g : Segment) (gs : List Segment) → s.older ≡ g ∷ gs → ⊥
  none-older e g gs h = let d : [] ≡ g ∷ gs = sym (ap (map (segment_of v)) e) ∙ ap (λ (t : Paused). t.older) view ∙ h in cc

  pub some-fork : (g : Segment) (gs : List Segment) → s.older ≡ g ∷ gs → (f : Forked) × (fs : List Forked) × (k.forks ≡ f ∷ fs)
  some-fork g gs e = go k.forks refl
    where
      go : (fs : List Forked) → k.forks ≡ fs → (f : Forked) × (fs : List Forked) × (k.forks ≡ f ∷ fs)
      go [] h = let d : [] ≡ g ∷ gs = sym (ap (map (segment_of v)) h) ∙ ap (λ (t : Paused). t.older) view ∙ e in cc
      go (f ∷ fs) h = (f, fs, h)

  -- each goal has a frame
  pub no-frame : Sane v k x y roots → (i : ℕ) → i < length (newest_goals s.older) → ((f : Forked) (fs : List Forked) → k.forks ≡ f ∷ fs → i < f.fork.goals → slice_get f.returns i ≡ None) → ⊥
  no-frame sane i l none = go k.forks refl
    where
      go : (fs : List Forked) → k.forks ≡ fs → ⊥
      go [] h = let e = ap length (no-goals h) in absurd (omega arith)
      go (f ∷ fs) h =
          let counted = goals-counted v k x y roots f fs h sane next spent budget s view f.fork refl in
          let n : f.fork.goals ≤ length f.returns = enough v k x y roots f fs h sane in
          slice_get-inside f.returns i (omega arith) (none f fs h (omega arith))

  -- a fork that was taken off, if there was one
  pub Sane-dropped : Sane v k x y roots → (l : Kept) → ((f : Forked) (fs : List Forked) → k.forks ≡ f ∷ fs → l ≡ record k { moments = f.moments; forks = fs }) → (k.forks ≡ [] → l ≡ k) → Sane v l x y roots
  Sane-dropped sane l some none = go k.forks refl
    where
      go : (fs : List Forked) → k.forks ≡ fs → Sane v l x y roots
      go [] h = subst (λ j. Sane v j x y roots) (sym (none h)) sane
      go (f ∷ fs) h = Sane-without v k l x y roots f fs h sane (some f fs h)

  pub seen-dropped : Sane v k x y roots → (l : Kept) → ((f : Forked) (fs : List Forked) → k.forks ≡ f ∷ fs → l ≡ record k { moments = f.moments; forks = fs })
      → (g : Segment) (gs : List Segment) → s.older ≡ g ∷ gs → ◌≡◌ {A = Paused} (paused_of v l x y roots next spent budget) (record s { machine = record s.machine { points = g.points }; older = gs })
  seen-dropped sane l some g gs e =
      let f = some-fork g gs e in
      seen-without v k l x y roots f.0 f.1 f.2 sane (some f.0 f.1 f.2) next spent budget s view g gs e
