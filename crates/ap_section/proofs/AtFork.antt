-- What is read of the frame at which a section stands, and of its machine.
use Rattle.std.proofs.Common.{◌≡◌, ◌∙◌, ℕ, zero, suc, ◌-◌, ◌<◌, ◌≤◌, List, [], ◌∷◌, length, slice_get, reverse, map, ap, sym, subst, refl, Some, get_or, rules, arith}
use Rattle.std.proofs.lemmas.Option.{same_Some}
use Rattle.std.specs.List.{AllByRecursion}
use Rattle.ap_term.specs.Tree.{Trees}
use Rattle.ap_instr.specs.Code.{Compiled}
use Rattle.ap_group.specs.Groups.{Pushed}
use Rattle.ap_tie.specs.Sections as seen
use Rattle.ap_tie.specs.Sections.{section, bottom, parcall, rows}
use Rattle.ap_tie.specs.Settled.{HasFailed}
use Rattle.ap_tied.specs.Ties.{IsKnownGoal, stack_in}
use Rattle.ap_frames.specs.declared.frame.Frame.{Frame}
use Rattle.ap_frames.specs.declared.frame.Round.{Round}
use Rattle.ap_frames.specs.declared.frame.Round.TheVariants.{First, Draining, Later, Closed}
use Rattle.ap_frames.specs.Verdicts.{judged}
use Rattle.ap_machine.specs.View.{Segment, Paused}
use Rattle.ap_machine.specs.Forks.{newest_goals}
use Rattle.ap_section.specs.declared.section.Section.{Section, out-Section}
use Rattle.ap_section.specs.Views.{view_of}
use Rattle.ap_section.specs.Ready.{shape_of, AreMatched, IsReady}
use Rattle.ap_section.specs.Slots.{IsAtFrame, IsPlaceIn, IsSlotOf, IsKnownAt, IsGoalOf, goals_in, cells_at, verdict_in, redone_of, redone_in}
use Rattle.ap_section.specs.Lending.{count_in}
use Rattle.ap_section.proofs.Levels.{stack_now, view_of-out}
use Rattle.ap_section.proofs.Parts.{ready-out}
use Rattle.ap_section.proofs.Newest.{top-at, view-top}
use Rattle.ap_section.proofs.Shown.{judged-shown}

-- ---- the verdict

verdict-stack : (p : Paused) (gs : List Segment) (f : Frame Section Trees) (fs : List (Frame Section Trees)) → IsAtFrame (section p.machine p.spent p.budget (stack_now gs (f ∷ fs)))
    → verdict_in (section p.machine p.spent p.budget (stack_now gs (f ∷ fs))) ≡ judged f.rest f.round f.slots.items
verdict-stack p [] f fs h = absurd h
verdict-stack p (g ∷ gs) f fs h = judged-shown f.rest f.round f.slots.items

pub verdict-at : (s : Section) (n : ℕ) (f : Frame Section Trees) → n ≡ count_in s → IsAtFrame (view_of s) → f ≡ get_or (out-Section s).frames.items (n - 1) f → judged f.rest f.round f.slots.items ≡ verdict_in (view_of s)
verdict-at s n f e at v =
    let t = top-at s n f e at v in
    sym (ap verdict_in (view-top s f t) ∙ verdict-stack (out-Section s).search (out-Section s).search.older f (reverse t.before) (subst IsAtFrame (view-top s f t) at))

-- ---- the fork at which its machine is

-- The newest fork is g, and the machine is at it.
pub record AtFork (s : Section) (g : Segment) : Type 0 where
  pub rest : List Segment
  pub older : (out-Section s).search.older ≡ g ∷ rest
  pub failed : HasFailed (out-Section s).search.machine.roots [] (out-Section s).search.machine
  pub cells : (out-Section s).search.machine.cells ≡ g.forked.cells
  pub goals : goals_in (view_of s) ≡ g.forked.goals
  pub cells_shown : cells_at (stack_in (view_of s)) ≡ g.forked.cells
  pub places : (i : ℕ) → IsPlaceIn i (view_of s) → i - 1 < length g.forked.goals
  pub known : (code : Compiled) → IsReady code s → AllByRecursion (IsKnownGoal code) g.forked.goals

pub record Forks (p : Paused) (gs : List Segment) (fs : List (Frame Section Trees)) (g : Segment) : Type 0 where
  pub rest : List Segment
  pub older : gs ≡ g ∷ rest
  pub failed : HasFailed p.machine.roots [] p.machine
  pub cells : p.machine.cells ≡ g.forked.cells
  pub goals : goals_in (section p.machine p.spent p.budget (stack_now gs fs)) ≡ g.forked.goals
  pub cells_shown : cells_at (stack_now gs fs) ≡ g.forked.cells
  pub places : (i : ℕ) → IsPlaceIn i (section p.machine p.spent p.budget (stack_now gs fs)) → i - 1 < length g.forked.goals
  pub known : (code : Compiled) → AreMatched code gs (map shape_of fs) → AllByRecursion (IsKnownGoal code) g.forked.goals

forks-at : (p : Paused) (gs : List Segment) (fs : List (Frame Section Trees)) → IsAtFrame (section p.machine p.spent p.budget (stack_now gs fs)) → (g : Segment) × Forks p gs fs g
forks-at p [] fs h = absurd h
forks-at p (g ∷ gs) [] h = absurd h
forks-at p (g ∷ gs) (f ∷ fs) h = (
  g,
  record {
    rest = gs;
    older = refl;
    failed = h.0;
    cells = h.1;
    goals = refl;
    cells_shown = refl;
    places = λ i k. omega (arith, k.0, k.1, h.2);
    known = λ code k. k.1;
  },
)

pub fork-at : (s : Section) → IsAtFrame (view_of s) → (g : Segment) × AtFork s g
fork-at s at =
    let p = (out-Section s).search in
    let fs = reverse (out-Section s).frames.items in
    let e = view_of-out s in
    let r = forks-at p p.older fs (subst IsAtFrame e at) in (
      r.0,
      record {
        rest = r.1.rest;
        older = r.1.older;
        failed = r.1.failed;
        cells = r.1.cells;
        goals = ap goals_in e ∙ r.1.goals;
        cells_shown = ap (λ v. cells_at (stack_in v)) e ∙ r.1.cells_shown;
        places = λ i k. r.1.places i (subst (IsPlaceIn i) e k);
        known = λ code k. r.1.known code (ready-out code s k).0.1;
      },
    )

pub no-points : (s : Section) → IsAtFrame (view_of s) → (out-Section s).search.machine.points ≡ []
no-points s at = (fork-at s at).1.failed.points

pub place-goal : (s : Section) (i : ℕ) → IsAtFrame (view_of s) → IsPlaceIn i (view_of s) → i - 1 < length (newest_goals (out-Section s).search.older)
place-goal s i at k = let r = fork-at s at in subst (λ gs. i - 1 < length (newest_goals gs)) (sym r.1.older) (r.1.places i k)

-- the goals that are shown are those of the search's newest fork
pub goals-at : (s : Section) → IsAtFrame (view_of s) → newest_goals (out-Section s).search.older ≡ goals_in (view_of s)
goals-at s at = let r = fork-at s at in ap newest_goals r.1.older ∙ sym r.1.goals

-- ---- its goals

known-place : (code : Compiled) (ps : List Pushed) (k : ℕ) (p : Pushed) → AllByRecursion (IsKnownGoal code) ps → slice_get ps k ≡ Some p → IsKnownGoal code p
known-place code [] zero p h e = search rules
known-place code [] (suc k) p h e = search rules
known-place code (q ∷ ps) zero p h e = subst (IsKnownGoal code) (same_Some q p e) h.0
known-place code (q ∷ ps) (suc k) p h e = known-place code ps k p h.1 e

pub goal-of : (s : Section) (i number : ℕ) → IsAtFrame (view_of s) → ((p : Pushed) × (slice_get (newest_goals (out-Section s).search.older) (i - 1) ≡ Some p) × (p.predicate ≡ number)) → IsGoalOf i (view_of s) number
goal-of s i number at h = subst (λ ps. (p : Pushed) × (slice_get ps (i - 1) ≡ Some p) × (p.predicate ≡ number)) (goals-at s at) h

pub known-at : (code : Compiled) (s : Section) (i number : ℕ) → IsAtFrame (view_of s) → IsReady code s → IsGoalOf i (view_of s) number → IsKnownAt code i (view_of s) number
known-at code s i number at r h =
    let f = fork-at s at in
    let known = subst (AllByRecursion (IsKnownGoal code)) (sym f.1.goals) (f.1.known code r) in
    let q = known-place code (goals_in (view_of s)) (i - 1) h.0 known h.1 in
    (q.0, subst (λ n. slice_get code.predicates n ≡ Some q.0) h.2 q.1, λ p e. ap (λ x. length x.arguments) (same_Some p h.0 (sym e ∙ h.1)) ∙ q.2)

-- ---- the slot that is redone is a place

place-round : (rd : Round) (i n : ℕ) → IsSlotOf n rd → redone_of rd ≡ Some i → (0 < i) × (i ≤ n)
place-round First i n h e = search rules
place-round (Draining k) i n h e = search rules
place-round (Later j) i n h e = subst (λ k. (0 < k) × (k ≤ n)) (same_Some j i e) h
place-round Closed i n h e = search rules

pub place-redone : (i : ℕ) (s : Section) → IsAtFrame (view_of s) → redone_in (view_of s) ≡ Some i → IsPlaceIn i (view_of s)
place-redone i s at e = go (view_of s) at e
  where
    go : (v : seen.Section) → IsAtFrame v → redone_in v ≡ Some i → IsPlaceIn i v
    go (section m c b bottom) h k = absurd h
    go (section m c b (parcall f q rd w qs st)) h k = place-round rd i (length (rows w)) h.4 k
