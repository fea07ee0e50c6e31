-- A section whose group was forked, or gone past.
use Rattle.std.proofs.Common.{◌≡◌, ◌∙◌, ℕ, zero, suc, ◌-◌, ◌<◌, false, List, [], ◌∷◌, ◌++◌, length, replicate, reverse, map, ap, ap₂, sym, subst, refl, inl, inr, Vec, Global}
use Rattle.std.specs.List.{AllByRecursion}
use Rattle.std.proofs.lemmas.List.{reverse-append}
use Rattle.ap_term.specs.Tree.{Trees}
use Rattle.ap_frames.specs.declared.frame.Frame.{Frame}
use Rattle.ap_frames.specs.declared.frame.Round.TheVariants.{First, Closed}
use Rattle.ap_frames.specs.Rows.{all_fresh}
use Rattle.ap_cells.specs.Walks.{Each}
use Rattle.ap_instr.specs.Code.{Compiled}
use Rattle.ap_group.specs.Groups.{Pushed}
use Rattle.ap_group.specs.Gathers.{IsGroupAt}
use Rattle.ap_group.specs.Turns.{IsInside}
use Rattle.ap_standing.specs.Machine.{Machine, inside, failed}
use Rattle.ap_machine.specs.View.{Segment, Paused, IsFor}
use Rattle.ap_machine.specs.Stands.{IsAtGroup}
use Rattle.ap_machine.specs.Forking.{HasForked, HasGonePlain, IsCut, HasGoneOn}
use Rattle.ap_tie.specs.Sections as seen
use Rattle.ap_tie.specs.Sections.{section, Slots, Stack, parcall, machine_in}
use Rattle.ap_tie.specs.Settled.{AreClosed, HasFailed}
use Rattle.ap_tied.specs.Ties.{Goes, IsPlaced, stack_in, ready_slots}
use Rattle.ap_tied.specs.Reaching.{ReachingLaw}
use Rattle.ap_tied.proofs.Forgotten.{ready-many}
use Rattle.ap_section.specs.declared.section.Section.{Section}
use Rattle.ap_section.specs.declared.section.Section.TheOpen.{Section-F}
use Rattle.ap_section.specs.declared.section.Section.{roll-Section, out-Section}
use Rattle.ap_section.specs.declared.section.Section.TheViews.{out-roll-Section}
use Rattle.ap_section.specs.Views.{view_of, spent_in}
use Rattle.ap_frames.specs.declared.slots.Stand.TheVariants.{Ready}
use Rattle.ap_frames.specs.declared.slots.Recording.TheVariants.{Growing}
use Rattle.std.proofs.Common.{None}
use Rattle.ap_section.specs.Ready.{shape_of, IsReadyPart, AreMatched, AreInOrder, IsAtNewest, IsReady, IsShut}
use Rattle.ap_section.specs.Slots.{IsAtDueFrame, IsSlotOf}
use Rattle.ap_section.specs.Moving.{HasMoved, IsOpened}
use Rattle.ap_section.specs.Owed.{frame_cost}
use Rattle.ap_section.proofs.Levels.{slots_now, stack_now, seen_as, view_of-roll, view_of-out}
use Rattle.ap_section.proofs.Parts.{SlotsReady, FramesReady, IsReadyNow, IsShutNow, part_now, ready-roll, shut-out}
use Rattle.ap_section.proofs.Newest.{frames-join}
use Rattle.ap_section.proofs.Owed.{owes-free, owes-closed, ready-free}
use Rattle.ap_section.proofs.Shut.{seen_now, shut-now-ready, shut-closed, same-most, moved-none, moved-same}

-- ---- slots of a first round

fresh-slots : (n : ℕ) → slots_now (all_fresh Section Trees (replicate n false)) ≡ ready_slots n
fresh-slots zero = refl
fresh-slots (suc n) = ap (λ w. seen.slot (record { stand = Ready; is_loud = false; recording = Growing; tuples = None; mark = None }) seen.nothing w) (fresh-slots n)

length-fresh : (n : ℕ) → length (all_fresh Section Trees (replicate n false)) ≡ n
length-fresh zero = refl
length-fresh (suc n) = ap suc (length-fresh n)

fresh-ready : (code : Compiled) (n : ℕ) → SlotsReady code (all_fresh Section Trees (replicate n false))
fresh-ready code zero = tt
fresh-ready code (suc n) = (tt, fresh-ready code n)

-- ---- a level after a move

pub record Leads (code : Compiled) (s x : Section-F Section) : Type 0 where
  pub moved : HasMoved code (seen_now s) (seen_now x)
  pub spent : spent_in (seen_now x) ≡ spent_in (seen_now s)
  pub ready : IsReadyNow code x

-- the same of a section
pub record Came (code : Compiled) (s t : Section) : Type 0 where
  pub moved : HasMoved code (view_of s) (view_of t)
  pub spent : spent_in (view_of t) ≡ spent_in (view_of s)
  pub ready : IsReady code t

pub came : (code : Compiled) (s : Section) (x : Section-F Section) → Leads code (out-Section s) x → Came code s (roll-Section x)
came code s x h = record {
  moved = moved-same code (seen_now (out-Section s)) (seen_now x) (view_of s) (view_of (roll-Section x)) (view_of-out s) (view_of-roll x) h.moved;
  spent = ap spent_in (view_of-roll x) ∙ h.spent ∙ ap spent_in (sym (view_of-out s));
  ready = ready-roll code x h.ready;
}

inside-same : (a b : ℕ) → inside a ≡ inside b → a ≡ b
inside-same a b e = cc

group-at : (code : Compiled) (m : Machine) (at : ℕ) → m.now ≡ inside at → IsAtGroup code m → IsGroupAt code at
group-at code m at e h = subst (IsGroupAt code) (inside-same h.0 at (sym h.1 ∙ e)) h.2

each-all : {X : Type 0} (P : X → Type 0) (xs : List X) → Each P xs → AllByRecursion P xs
each-all P [] h = tt
each-all P (x ∷ xs) h = (h.0, each-all P xs h.1)

arguments-all : (n : ℕ) (ps : List Pushed) → AllByRecursion (IsInside n) ps → AllByRecursion (λ p. AllByRecursion (λ r. r < n) p.arguments) ps
arguments-all n [] h = tt
arguments-all n (p ∷ ps) h = (each-all (λ r. r < n) p.arguments h.0, arguments-all n ps h.1)

placed : (code : Compiled) (q p : Paused) (h : HasForked code q p) → IsPlaced code q.machine.roots h.forked
placed code q p h = record { known = h.known; arguments = arguments-all (length h.forked.cells) h.forked.goals h.arguments; returns = h.within; roots_inside = h.inside_cells }

-- a level is ready as another one with the same search and frames is
stayed-ready : (code : Compiled) (s x : Section-F Section) → x.search ≡ s.search → x.frames.items ≡ s.frames.items → IsReadyNow code s → IsReadyNow code x
stayed-ready code s x e f r = subst (λ fs. IsReadyPart code (record { search = x.search; frames = map shape_of (reverse fs) }) × FramesReady code fs) (sym f)
    (subst (λ p. IsReadyPart code (record { search = p; frames = map shape_of (reverse s.frames.items) })) (sym e) r.0, r.1)

pub stayed-now : ReachingLaw → (code : Compiled) (s x : Section-F Section) → x.search ≡ s.search → x.frames.items ≡ s.frames.items → IsShutNow code s → Leads code s x
stayed-now law code s x e f shut =
    let same : seen_now x ≡ seen_now s = ap₂ (λ p fs. seen_as p (reverse fs)) e f in
    record {
      moved = moved-none law code (seen_now s) (seen_now x) same;
      spent = ap spent_in same;
      ready = stayed-ready code s x e f (shut-now-ready code s shut);
    }

-- ---- forked

module _ (s : Section-F Section) (p : Paused) (v : Vec (Frame Section Trees) Global) (f : Frame Section Trees) (e : v.items ≡ s.frames.items ++ f ∷ []) where
  abbrev with_frame : Section-F Section
  with_frame = record s { search = p; frames = v }

  reversed : reverse v.items ≡ f ∷ reverse s.frames.items
  reversed = ap reverse e ∙ reverse-append s.frames.items (f ∷ [])

  module _ (code : Compiled) (h : HasForked code s.search p) (o : IsOpened (length h.forked.goals) (s.search.budget - s.search.spent) f) where
    abbrev forked_view : seen.Section
    forked_view = section p.machine s.search.spent s.search.budget
        (parcall h.forked (s.search.budget - s.search.spent) First (ready_slots (length h.forked.goals)) s.search.machine.points (stack_now s.search.older (reverse s.frames.items)))

    seen-forked : seen_now with_frame ≡ forked_view
    seen-forked =
        let q = s.search in
        let g : Segment = record { forked = h.forked; points = q.machine.points } in
        let st = stack_now q.older (reverse s.frames.items) in
        ap (λ c. section p.machine c p.budget (stack_now p.older (reverse v.items))) h.at_fork.spent
        ∙ ap (λ b. section p.machine q.spent b (stack_now p.older (reverse v.items))) h.at_fork.budget
        ∙ ap (λ gs. section p.machine q.spent q.budget (stack_now gs (reverse v.items))) h.at_fork.older
        ∙ ap (λ fs. section p.machine q.spent q.budget (stack_now (g ∷ q.older) fs)) reversed
        ∙ ap (λ r. section p.machine q.spent q.budget (parcall h.forked r.rest r.round (slots_now r.slots) q.machine.points st)) o
        ∙ ap (λ w. section p.machine q.spent q.budget (parcall h.forked (q.budget - q.spent) First w q.machine.points st)) (fresh-slots (length h.forked.goals))

    has-failed : HasFailed s.search.machine.roots [] p.machine
    has-failed = record { now = h.at_fork.now; returns = h.at_fork.returns; roots_stay = h.at_fork.roots; points = h.at_fork.points }

    fails-there : HasFailed p.machine.roots [] p.machine
    fails-there = record { now = h.at_fork.now; returns = h.at_fork.returns; roots_stay = refl; points = h.at_fork.points }

    pub forked-due : IsAtDueFrame (seen_now with_frame)
    forked-due = subst IsAtDueFrame (sym seen-forked) ((fails-there, h.at_fork.cells, ready-many (length h.forked.goals), refl, tt), λ e. absurd (let z : First ≡ Closed = e in cc))

    count-of : length f.slots.items ≡ length h.forked.goals
    count-of = ap (λ r. length r.slots) o ∙ length-fresh (length h.forked.goals)

    forked-ready : IsShutNow code s → IsFor code p → IsReadyNow code with_frame
    forked-ready shut is_for =
        let q = s.search in
        let g : Segment = record { forked = h.forked; points = q.machine.points } in
        let fs = map shape_of (reverse s.frames.items) in
        let shapes : map shape_of (reverse v.items) ≡ shape_of f ∷ fs = ap (map shape_of) reversed in
        let rest : f.rest ≡ p.budget - p.spent = ap (λ r. r.rest) o ∙ ap₂ (λ b c. b - c) (sym h.at_fork.budget) (sym h.at_fork.spent) in
        let newest : IsAtNewest p (g ∷ q.older) (shape_of f) = (fails-there, h.at_fork.cells, rest, subst (λ rd. IsSlotOf (length f.slots.items) rd) (sym (ap (λ r. r.round) o)) tt) in (
          (
            is_for,
            subst (AreMatched code p.older) (sym shapes) (subst (λ gs. AreMatched code gs (shape_of f ∷ fs)) (sym h.at_fork.older) (inl count-of, h.known, shut.0.1)),
            subst (AreInOrder p) (sym shapes) (inr (subst (λ gs. IsAtNewest p gs (shape_of f)) (sym h.at_fork.older) newest), shut.0.2),
          ),
          subst (FramesReady code) (sym e) (frames-join code s.frames.items (f ∷ []) shut.1 (subst (λ r. SlotsReady code r.slots) (sym o) (fresh-ready code (length h.forked.goals)), tt)),
        )

    pub forked-leads : ReachingLaw → IsShutNow code s → IsAtGroup code s.search.machine → IsFor code p → Leads code s with_frame
    forked-leads law shut here is_for =
        let q = s.search in
        let goes = law.forks code q.machine p.machine q.spent q.budget (stack_now q.older (reverse s.frames.items)) h.at h.to h.forked h.there_x h.there_y h.behind
        (shut-closed code s shut) h.here (group-at code q.machine h.at h.here here) (h.returns_before, h.roots_before) h.gathered h.returns h.place h.y (placed code q p h) has-failed in
        record {
          moved = record {
            goes = subst (Goes code (seen_now s)) (sym seen-forked) goes;
            more = same-most q.spent p.spent h.at_fork.spent;
            budget = h.at_fork.budget;
            owes = owes-free (seen_now s) (seen_now with_frame) (ap (λ v. frame_cost (stack_in v)) seen-forked ∙ ready-free (length h.forked.goals)) (same-most q.spent p.spent h.at_fork.spent);
          };
          spent = h.at_fork.spent;
          ready = forked-ready shut is_for;
        }

-- ---- gone past

module _ (code : Compiled) (s : Section-F Section) (p : Paused) (v : Vec (Frame Section Trees) Global) (e : v.items ≡ s.frames.items) where
  abbrev gone : Section-F Section
  gone = record s { search = p; frames = v }

  -- with the same forks
  gone-ready : p.older ≡ s.search.older → IsFor code p → IsShutNow code s → IsReadyNow code gone
  gone-ready older is_for shut = stayed-ready code (record s { search = p }) gone refl e
      (shut-now-ready code (record s { search = p }) ((is_for, subst (λ gs. AreMatched code gs (part_now s).frames) (sym older) shut.0.1, shut.0.2), shut.1))

  gone-seen : (m : Machine) → p.machine ≡ m → p.spent ≡ s.search.spent → p.budget ≡ s.search.budget → p.older ≡ s.search.older
      → seen_now gone ≡ section m s.search.spent s.search.budget (stack_now s.search.older (reverse s.frames.items))
  gone-seen m em ec eb eo =
      ap (λ n. section n p.spent p.budget (stack_now p.older (reverse v.items))) em
      ∙ ap (λ c. section m c p.budget (stack_now p.older (reverse v.items))) ec
      ∙ ap (λ b. section m s.search.spent b (stack_now p.older (reverse v.items))) eb
      ∙ ap (λ gs. section m s.search.spent s.search.budget (stack_now gs (reverse v.items))) eo
      ∙ ap (λ fs. section m s.search.spent s.search.budget (stack_now s.search.older (reverse fs))) e

  gone-leads : (m : Machine) → p.machine ≡ m → p.spent ≡ s.search.spent → p.budget ≡ s.search.budget → p.older ≡ s.search.older → IsFor code p → IsShutNow code s
      → Goes code (seen_now s) (section m s.search.spent s.search.budget (stack_now s.search.older (reverse s.frames.items))) → Leads code s gone
  gone-leads m em ec eb eo is_for shut goes = record {
    moved = record {
      goes = subst (Goes code (seen_now s)) (sym (gone-seen m em ec eb eo)) goes;
      more = same-most s.search.spent p.spent ec;
      budget = eb;
      owes = owes-closed (seen_now s) (seen_now gone) (subst (λ v. AreClosed (stack_in v)) (sym (gone-seen m em ec eb eo)) (shut-closed code s shut)) (same-most s.search.spent p.spent ec);
    };
    spent = ec;
    ready = gone-ready eo is_for shut;
  }

  module _ (law : ReachingLaw) (shut : IsShutNow code s) (here : IsAtGroup code s.search.machine) (is_for : IsFor code p) where
    pub plain-leads : HasGonePlain code s.search p → Leads code s gone
    plain-leads h =
        let q = s.search in
        let w = h.leads in
        gone-leads (record q.machine { now = inside h.to }) (ap (λ (r : Paused). r.machine) h.goes_on) (ap (λ (r : Paused). r.spent) h.goes_on) (ap (λ (r : Paused). r.budget) h.goes_on) (ap (λ (r : Paused). r.older) h.goes_on) is_for shut
        (law.goes_plain code q.machine q.spent q.budget (stack_now q.older (reverse s.frames.items)) w.at h.to (shut-closed code s shut) w.here (group-at code q.machine w.at w.here here) w.way)

    cut-machine : (h : IsCut code s.search p) → p.machine ≡ record s.search.machine { x = p.machine.x; y = p.machine.y; now = failed }
    cut-machine h =
        ap (λ cs. record p.machine { cells = cs }) h.cells ∙ ap (λ rs. record p.machine { cells = s.search.machine.cells; returns = rs }) h.rest.returns
        ∙ ap (λ rs. record p.machine { cells = s.search.machine.cells; returns = s.search.machine.returns; roots = rs }) h.stays.roots
        ∙ ap (λ qs. record p.machine { cells = s.search.machine.cells; returns = s.search.machine.returns; roots = s.search.machine.roots; points = qs }) h.rest.points
        ∙ ap (λ n. record s.search.machine { x = p.machine.x; y = p.machine.y; now = n }) h.now

    cut-leads : IsCut code s.search p → Leads code s gone
    cut-leads h =
        let q = s.search in
        gone-leads (record q.machine { x = p.machine.x; y = p.machine.y; now = failed }) (cut-machine h) h.stays.spent h.stays.budget h.stays.older is_for shut
        (law.is_cut code q.machine q.spent q.budget (stack_now q.older (reverse s.frames.items)) h.at p.machine.x p.machine.y (shut-closed code s shut) h.here (group-at code q.machine h.at h.here here) h.cut)

    pub past-leads : HasGoneOn code s.search p → Leads code s gone
    past-leads (inl h) = plain-leads h.gone
    past-leads (inr h) = cut-leads h

-- ---- one change behind another

abbrev pub with_room : Section → Vec (Frame Section Trees) Global → Section
with_room s r = roll-Section (record (out-Section s) { frames = r })

abbrev pub with_search : Section → Vec (Frame Section Trees) Global → Paused → Section
with_search s r p = roll-Section (record (out-Section (with_room s r)) { search = p })

abbrev pub with_last : Section → Vec (Frame Section Trees) Global → Paused → Vec (Frame Section Trees) Global → Section
with_last s r p v = roll-Section (record (out-Section (with_search s r p)) { frames = v })

module _ (law : ReachingLaw) (code : Compiled) (s : Section) (r : Vec (Frame Section Trees) Global) (room : r.items ≡ (out-Section s).frames.items) (shut : IsShut code s) where
  pub room-came : Came code s (with_room s r)
  room-came = came code s (record (out-Section s) { frames = r }) (stayed-now law code (out-Section s) (record (out-Section s) { frames = r }) refl room (shut-out code s shut))

  module _ (p : Paused) where
    is-roomy : out-Section (with_room s r) ≡ record (out-Section s) { frames = r }
    is-roomy = out-roll-Section (record (out-Section s) { frames = r })

    is-searching : with_search s r p ≡ roll-Section (record (out-Section s) { search = p; frames = r })
    is-searching = ap (λ z. roll-Section (record z { search = p })) is-roomy

    pub same-came : p ≡ (out-Section (with_room s r)).search → Came code s (with_search s r p)
    same-came e = subst (Came code s) (sym is-searching)
        (came code s (record (out-Section s) { search = p; frames = r })
        (stayed-now law code (out-Section s) (record (out-Section s) { search = p; frames = r }) (e ∙ ap (λ z. z.search) is-roomy) room (shut-out code s shut)))

    module _ (here : IsAtGroup code (machine_in (view_of s))) (is_for : IsFor code p) where
      at-group : IsAtGroup code (out-Section s).search.machine
      at-group = subst (λ v. IsAtGroup code (machine_in v)) (view_of-out s) here

      pub past-came : HasGoneOn code (out-Section (with_room s r)).search p → Came code s (with_search s r p)
      past-came h = subst (Came code s) (sym is-searching)
          (came code s (record (out-Section s) { search = p; frames = r })
          (past-leads code (out-Section s) p r room law (shut-out code s shut) at-group is_for (subst (λ z. HasGoneOn code z.search p) is-roomy h)))

      module _ (v : Vec (Frame Section Trees) Global) (f : Frame Section Trees) (items : v.items ≡ (out-Section (with_search s r p)).frames.items ++ f ∷ [])
          (opened_for : (t : Paused) → (h : HasForked code (out-Section s).search t) → IsOpened (length h.forked.goals) ((out-Section s).search.budget - (out-Section s).search.spent) f)
          (h : HasForked code (out-Section (with_room s r)).search p) where
        abbrev last : Section-F Section
        last = record (out-Section s) { search = p; frames = v }

        is-last : with_last s r p v ≡ roll-Section last
        is-last = ap (λ z. roll-Section (record (out-Section z) { frames = v })) is-searching
            ∙ ap (λ z. roll-Section (record z { frames = v })) (out-roll-Section (record (out-Section s) { search = p; frames = r }))

        with-it : v.items ≡ (out-Section s).frames.items ++ f ∷ []
        with-it = items ∙ ap (λ z. (out-Section z).frames.items ++ f ∷ []) is-searching
            ∙ ap (λ z. z.frames.items ++ f ∷ []) (out-roll-Section (record (out-Section s) { search = p; frames = r })) ∙ ap (λ fs. fs ++ f ∷ []) room

        forked : HasForked code (out-Section s).search p
        forked = subst (λ z. HasForked code z.search p) is-roomy h

        pub last-came : Came code s (with_last s r p v)
        last-came = subst (Came code s) (sym is-last)
            (came code s last (forked-leads (out-Section s) p v f with-it code forked (opened_for p forked) law (shut-out code s shut) at-group is_for))

        pub last-due : IsAtDueFrame (view_of (with_last s r p v))
        last-due = subst (λ t. IsAtDueFrame (view_of t)) (sym is-last) (subst IsAtDueFrame (sym (view_of-roll last)) (forked-due (out-Section s) p v f with-it code forked (opened_for p forked)))
