-- A section that comes back to its newest frame, all of whose frames are closed.
use Rattle.std.proofs.Common.{◌≡◌, ◌∙◌, ℕ, ◌-◌, List, [], ◌∷◌, ◌++◌, length, reverse, map, ap, sym, subst, refl, Option, Some, None, is_some, true, false, take, vec_len, Vec, Global}
use Rattle.std.proofs.lemmas.List.{reverse-append}
use Rattle.ap_term.specs.Tree.{Trees}
use Rattle.ap_frames.specs.declared.frame.Frame.{Frame}
use Rattle.ap_frames.specs.declared.frame.Round.TheVariants.{Closed}
use Rattle.ap_frames.specs.Verdicts.{next_redo}
use Rattle.ap_instr.specs.Code.{Compiled}
use Rattle.ap_standing.specs.Machine.{Machine}
use Rattle.ap_machine.specs.View.{Segment, Paused, IsFor}
use Rattle.ap_machine.specs.Stands.{IsAtEnd}
use Rattle.ap_machine.specs.Forks.{IsAtFork, IsBehindFork}
use Rattle.ap_tie.specs.Sections.{section, bottom, parcall, rows, machine_in}
use Rattle.ap_tie.specs.Settled.{HasFailed}
use Rattle.ap_tie.specs.Tied.{IsRest}
use Rattle.ap_tied.specs.Ties.{Goes}
use Rattle.ap_tied.specs.Reaching.{ReachingLaw}
use Rattle.ap_section.specs.declared.section.Section.{Section}
use Rattle.ap_section.specs.declared.section.Section.TheOpen.{Section-F}
use Rattle.ap_section.specs.declared.section.Section.{roll-Section, out-Section}
use Rattle.ap_section.specs.declared.section.Section.TheViews.{out-roll-Section}
use Rattle.ap_section.specs.declared.advance.Turn.TheVariants.{Failed}
use Rattle.ap_section.specs.Ends.{Ends}
use Rattle.ap_section.specs.Views.{view_of}
use Rattle.ap_section.specs.Ready.{Shape, shape_of, AreMatched, AreShut, IsShut}
use Rattle.ap_section.specs.Slots.{IsAtFrame, IsAtDueFrame, IsSlotOf}
use Rattle.ap_section.specs.Moving.{IsRested}
use Rattle.ap_section.proofs.Levels.{slots_now, stack_now, view_of-roll, view_of-out}
use Rattle.ap_section.proofs.Parts.{FramesReady, IsShutNow, part_now, shut-out}
use Rattle.ap_section.proofs.Newest.{Top, searching, frames-front, length-rows, length-before, slots-at}
use Rattle.ap_section.proofs.Shown.{redo-shown}
use Rattle.ap_section.proofs.Redoes.{redo-count}
use Rattle.ap_section.proofs.Owed.{owes-closed}
use Rattle.ap_section.proofs.Shut.{seen_now, shut-now-ready, shut-closed, same-most}
use Rattle.ap_section.proofs.Forked.{Leads, Came, came}

-- ---- no frame is left

no-forks : (code : Compiled) (gs : List Segment) (fs : List (Frame Section Trees)) → fs ≡ [] → AreMatched code gs (map shape_of fs) → stack_now gs fs ≡ bottom
no-forks code [] fs e h = refl
no-forks code (g ∷ gs) [] e h = refl
no-forks code (g ∷ gs) (f ∷ fs) e h = cc

pub none-left : (code : Compiled) (s : Section-F Section) → s.frames.items ≡ [] → IsShutNow code s → stack_now s.search.older (reverse s.frames.items) ≡ bottom
none-left code s e shut = no-forks code s.search.older (reverse s.frames.items) (ap reverse e) shut.0.1

-- ---- a frame is left

has-fork : (code : Compiled) (gs : List Segment) (a : Shape) (bs : List Shape) → AreMatched code gs (a ∷ bs) → (g : Segment) × (hs : List Segment) × (gs ≡ g ∷ hs)
has-fork code [] a bs h = absurd h
has-fork code (g ∷ hs) a bs h = (g, hs, refl)

module _ (law : ReachingLaw) (code : Compiled) (s : Section-F Section) (p : Paused) (shut : IsShutNow code s) (end : IsAtEnd s.search.machine) (is_for : IsFor code p)
    (f : Frame Section Trees) (before : List (Frame Section Trees)) (items : s.frames.items ≡ before ++ f ∷ []) where
  reversed : reverse s.frames.items ≡ f ∷ reverse before
  reversed = ap reverse items ∙ reverse-append before (f ∷ [])

  matched : AreMatched code s.search.older (shape_of f ∷ map shape_of (reverse before))
  matched = subst (λ fs. AreMatched code s.search.older (map shape_of fs)) reversed shut.0.1

  closed : AreShut (shape_of f ∷ map shape_of (reverse before))
  closed = subst (λ fs. AreShut (map shape_of fs)) reversed shut.0.2

  -- at the fork
  module _ (more : is_some (next_redo f.slots.items) ≡ true) (come : (g : Segment) (gs : List Segment) → s.search.older ≡ g ∷ gs → IsAtFork g (g ∷ gs) s.search p) where
    abbrev back : Section-F Section
    back = record s { search = p }

    back-at : (g : Segment) (hs : List Segment) → s.search.older ≡ g ∷ hs → IsAtFork g (g ∷ hs) s.search p → Leads code s back × IsAtFrame (seen_now back)
    back-at g hs e k =
        let q = s.search in
        let st = stack_now q.older (reverse s.frames.items) in
        let older : p.older ≡ q.older = k.older ∙ sym e in
        let same : seen_now back ≡ section p.machine q.spent q.budget st =
        ap (λ c. section p.machine c p.budget (stack_now p.older (reverse s.frames.items))) k.spent ∙ ap (λ b. section p.machine q.spent b (stack_now p.older (reverse s.frames.items))) k.budget
        ∙ ap (λ gs. section p.machine q.spent q.budget (stack_now gs (reverse s.frames.items))) older in
        let top : seen_now back ≡ section p.machine q.spent q.budget (stack_now (g ∷ hs) (f ∷ reverse before)) =
        same ∙ ap (λ gs. section p.machine q.spent q.budget (stack_now gs (reverse s.frames.items))) e ∙ ap (λ fs. section p.machine q.spent q.budget (stack_now (g ∷ hs) fs)) reversed in
        let goes = law.comes code q.machine p.machine q.spent q.budget st end.0 end.1 (record { now = k.now; returns = k.returns; roots_stay = k.roots; points = k.points }) in
        let still : IsShutNow code back = ((is_for, subst (λ gs. AreMatched code gs (part_now s).frames) (sym older) shut.0.1, shut.0.2), shut.1) in
        let count : length f.slots.items ≡ length g.forked.goals = redo-count f.round _ f.slots.items more (subst (λ gs. AreMatched code gs (shape_of f ∷ map shape_of (reverse before))) e matched).0 in (
          record {
            moved = record {
              goes = subst (Goes code (seen_now s)) (sym same) goes;
              more = same-most q.spent p.spent k.spent;
              budget = k.budget;
              owes = owes-closed (seen_now s) (seen_now back) (shut-closed code back still) (same-most q.spent p.spent k.spent);
            };
            spent = k.spent;
            ready = shut-now-ready code back still;
          },
          subst IsAtFrame (sym top) (
            record { now = k.now; returns = k.returns; roots_stay = refl; points = k.points },
            k.cells,
            length-rows f.slots.items ∙ count,
            subst (λ rd. IsRest rd f.rest (q.budget - q.spent)) (sym closed.0) tt,
            subst (λ rd. IsSlotOf (length (rows (slots_now f.slots.items))) rd) (sym closed.0) tt,
          ),
        )

    pub back-leads : Leads code s back × IsAtFrame (seen_now back)
    back-leads = let r = has-fork code s.search.older (shape_of f) (map shape_of (reverse before)) matched in back-at r.0 r.1 r.2 (come r.0 r.1 r.2)

  -- the frame is dropped, and its fork forgotten
  module _ (v : Vec (Frame Section Trees) Global) (left : v.items ≡ before) (none : next_redo f.slots.items ≡ None)
      (come : (g : Segment) (gs : List Segment) → s.search.older ≡ g ∷ gs → IsBehindFork g gs s.search p) where
    abbrev dropped : Section-F Section
    dropped = record s { search = p; frames = v }

    dropped-at : (g : Segment) (hs : List Segment) → s.search.older ≡ g ∷ hs → IsBehindFork g hs s.search p → Leads code s dropped
    dropped-at g hs e k =
        let q = s.search in
        let w = slots_now f.slots.items in
        let st = stack_now hs (reverse before) in
        let n : Machine = record q.machine { returns = [] } in
        let same : seen_now dropped ≡ section p.machine q.spent q.budget st =
        ap (λ c. section p.machine c p.budget (stack_now p.older (reverse v.items))) k.spent ∙ ap (λ b. section p.machine q.spent b (stack_now p.older (reverse v.items))) k.budget
        ∙ ap (λ gs. section p.machine q.spent q.budget (stack_now gs (reverse v.items))) k.older ∙ ap (λ fs. section p.machine q.spent q.budget (stack_now hs (reverse fs))) left in
        let there : section n q.spent q.budget (stack_now q.older (reverse s.frames.items)) ≡ section n q.spent q.budget (parcall g.forked f.rest Closed w g.points st) =
        ap (λ gs. section n q.spent q.budget (stack_now gs (reverse s.frames.items))) e ∙ ap (λ fs. section n q.spent q.budget (stack_now (g ∷ hs) fs)) reversed
        ∙ ap (λ rd. section n q.spent q.budget (parcall g.forked f.rest rd w g.points st)) closed.0 in
        let stands : HasFailed q.machine.roots [] n = record { now = end.0; returns = refl; roots_stay = refl; points = end.1 } in
        let comes = subst (Goes code (seen_now s)) there (law.comes code q.machine n q.spent q.budget (stack_now q.older (reverse s.frames.items)) end.0 end.1 stands) in
        let drops = law.drops code n p.machine q.spent q.budget g.forked f.rest w g.points st stands (redo-shown f.slots.items ∙ none) (record { now = k.now; returns = k.returns; roots_stay = k.roots; points = k.points }) in
        let goes = law.goes_on code (seen_now s) (section n q.spent q.budget (parcall g.forked f.rest Closed w g.points st)) (section p.machine q.spent q.budget st) comes drops in
        let rest = (subst (λ gs. AreMatched code gs (shape_of f ∷ map shape_of (reverse before))) e matched).2 in
        let still : IsShutNow code dropped = (
          (
            is_for,
            subst (λ fs. AreMatched code p.older (map shape_of (reverse fs))) (sym left) (subst (λ gs. AreMatched code gs (map shape_of (reverse before))) (sym k.older) rest),
            subst (λ fs. AreShut (map shape_of (reverse fs))) (sym left) closed.1,
          ),
          subst (FramesReady code) (sym left) (frames-front code before (f ∷ []) (subst (FramesReady code) items shut.1)),
        ) in
        record {
          moved = record {
            goes = subst (Goes code (seen_now s)) (sym same) goes;
            more = same-most q.spent p.spent k.spent;
            budget = k.budget;
            owes = owes-closed (seen_now s) (seen_now dropped) (shut-closed code dropped still) (same-most q.spent p.spent k.spent);
          };
          spent = k.spent;
          ready = shut-now-ready code dropped still;
        }

    pub dropped-leads : Leads code s dropped
    dropped-leads = let r = has-fork code s.search.older (shape_of f) (map shape_of (reverse before)) matched in dropped-at r.0 r.1 r.2 (come r.0 r.1 r.2)

-- ---- of a section

at-end : (s : Section) → IsAtEnd (machine_in (view_of s)) → IsAtEnd (out-Section s).search.machine
at-end s h = subst (λ v. IsAtEnd (machine_in v)) (view_of-out s) h

pub none-rested : (code : Compiled) (s : Section) → (out-Section s).frames.items ≡ [] → IsAtEnd (machine_in (view_of s)) → IsShut code s → IsRested code (view_of s) Failed
none-rested code s e end shut n u =
    let h = at-end s end in
    subst (λ v. Ends code n u v Failed) (sym (view_of-out s)) (h.0, h.1, none-left code (out-Section s) e (shut-out code s shut))

pub not-some : {A : Type 0} (o : Option A) → is_some o ≡ false → o ≡ None
not-some None h = refl
not-some (Some x) h = cc

abbrev pub with_fewer : Section → Paused → Vec (Frame Section Trees) Global → Section
with_fewer s p v = roll-Section (record (out-Section (searching s p)) { frames = v })

take-length : {A : Type 0} (xs : List A) (y : A) → take (length xs) (xs ++ y ∷ []) ≡ xs
take-length [] y = refl
take-length (x ∷ xs) y = ap (λ ys. x ∷ ys) (take-length xs y)

take-front : {A : Type 0} (xs : List A) (y : A) (n : ℕ) → n ≡ length xs → take n (xs ++ y ∷ []) ≡ xs
take-front xs y n e = ap (λ k. take k (xs ++ y ∷ [])) e ∙ take-length xs y

-- the frames that are left are those before it
pub left-before : (s : Section) (p : Paused) (v : Vec (Frame Section Trees) Global) (f : Frame Section Trees) (t : Top s f)
    → v.items ≡ take (vec_len (out-Section (searching s p)).frames - 1) (out-Section (searching s p)).frames.items → v.items ≡ t.before
left-before s p v f t rest = rest ∙ ap (λ z. take (vec_len z.frames - 1) z.frames.items) (out-roll-Section (record (out-Section s) { search = p })) ∙ ap (take (vec_len (out-Section s).frames - 1)) t.items
    ∙ take-front t.before f (vec_len (out-Section s).frames - 1) (sym (length-before (out-Section s).frames t.before f t.items))

module _ (law : ReachingLaw) (code : Compiled) (s : Section) (p : Paused) (shut : IsShut code s) (end : IsAtEnd (machine_in (view_of s))) (is_for : IsFor code (out-Section s).search → IsFor code p) (f : Frame Section Trees) (t : Top s f) where
  shut-now : IsShutNow code (out-Section s)
  shut-now = shut-out code s shut

  module _ (more : is_some (next_redo f.slots.items) ≡ true) (come : (g : Segment) (gs : List Segment) → (out-Section s).search.older ≡ g ∷ gs → IsAtFork g (g ∷ gs) (out-Section s).search p) where
    both-back : Leads code (out-Section s) (record (out-Section s) { search = p }) × IsAtFrame (seen_now (record (out-Section s) { search = p }))
    both-back = back-leads law code (out-Section s) p shut-now (at-end s end) (is_for shut-now.0.0) f t.before t.items more come

    pub back-came : Came code s (searching s p)
    back-came = came code s (record (out-Section s) { search = p }) both-back.0

    back-framed : IsAtFrame (view_of (searching s p))
    back-framed = subst IsAtFrame (sym (view_of-roll (record (out-Section s) { search = p }))) both-back.1

    -- a slot of the frame can be redone still
    pub back-due : IsAtDueFrame (view_of (searching s p))
    back-due =
        let top : Top (searching s p) f = record { before = t.before; items = ap (λ z. z.frames.items) (out-roll-Section (record (out-Section s) { search = p })) ∙ t.items } in
        (back-framed, λ closed. ap (λ w. is_some (next_redo (rows w))) (slots-at (searching s p) f top back-framed) ∙ ap is_some (redo-shown f.slots.items) ∙ more)

  module _ (v : Vec (Frame Section Trees) Global) (rest : v.items ≡ take (vec_len (out-Section (searching s p)).frames - 1) (out-Section (searching s p)).frames.items) (none : next_redo f.slots.items ≡ None)
      (come : (g : Segment) (gs : List Segment) → (out-Section s).search.older ≡ g ∷ gs → IsBehindFork g gs (out-Section s).search p) where
    is-searching : out-Section (searching s p) ≡ record (out-Section s) { search = p }
    is-searching = out-roll-Section (record (out-Section s) { search = p })

    pub fewer-came : Came code s (with_fewer s p v)
    fewer-came = subst (Came code s) (sym (ap (λ z. roll-Section (record z { frames = v })) is-searching))
        (came code s (record (out-Section s) { search = p; frames = v }) (dropped-leads law code (out-Section s) p shut-now (at-end s end) (is_for shut-now.0.0) f t.before t.items v (left-before s p v f t rest) none come))
