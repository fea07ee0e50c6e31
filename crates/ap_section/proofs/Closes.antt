-- A section whose first frame is closed, forgotten or joined.
use Rattle.std.proofs.Common.{◌≡◌, ◌∙◌, ◌⊎◌, inl, inr, ℕ, ◌+◌, ◌-◌, ◌<◌, List, [], ◌∷◌, ◌++◌, length, reverse, map, take, ap, ap₂, sym, subst, refl, Bool, true, false, get_or, vec_len, Vec, Global, rules, arith}
use Rattle.std.specs.Prelude.{IfOk, OnErr, Result, Ok, Err}
use Rattle.std.proofs.lemmas.List.{reverse-append, length_push, get_or_at}
use Rattle.std.specs.Vec.{with_item}
use Rattle.ap_term.specs.Tree.{Trees}
use Rattle.ap_term.proofs.Lists.{some_first}
use Rattle.ap_frames.specs.declared.frame.Frame.{Frame}
use Rattle.ap_frames.specs.declared.frame.Round.{Round}
use Rattle.ap_frames.specs.declared.frame.Round.TheVariants.{First, Draining, Later, Closed}
use Rattle.ap_frames.specs.Rows.{row, with_round}
use Rattle.ap_instr.specs.Code.{Compiled}
use Rattle.ap_standing.specs.Machine.{failed}
use Rattle.ap_tied.specs.SlotCalls.{gone_on}
use Rattle.ap_machine.specs.View.{Segment, Paused, IsFor}
use Rattle.ap_machine.specs.Forks.{IsAtFork, IsBehindFork, Rejoined}
use Rattle.ap_tie.specs.Sections.{section, Stack, parcall}
use Rattle.ap_tie.specs.Settled.{HasFailed}
use Rattle.ap_tie.specs.Tied.{IsRest}
use Rattle.ap_tied.specs.Ties.{IsCount, stack_in}
use Rattle.ap_tied.proofs.Common.{closed-count}
use Rattle.ap_section.specs.declared.section.Section.{Section, roll-Section, out-Section}
use Rattle.ap_section.specs.declared.section.Section.TheViews.{out-roll-Section}
use Rattle.ap_section.specs.declared.section.Section.TheOpen.{Section-F}
use Rattle.ap_section.specs.Views.{view_of}
use Rattle.ap_section.specs.Lending.{count_in, with_newest}
use Rattle.ap_section.specs.Slots.{IsAtFrame, IsSlotOf, closed_stack}
use Rattle.ap_section.specs.Ready.{Shape, Part, shape_of, parts_of, AreMatched, AreShut, AreInOrder, IsAtNewest, AreReady, IsReady, IsShut}
use Rattle.ap_section.specs.Closes.{HasFrame, IsAtFirst, closed_in, charged_in, IsForgotten, IsBack, IsRejoined, AreShutBehind, AreNearlyReady, IsNearlyReady}
use Rattle.ap_section.proofs.Levels.{slots_now, stack_now, seen_as, view_of-out, view_of-roll}
use Rattle.ap_section.proofs.Parts.{SlotsReady, FramesReady, parts-out, parts-roll, frames-into, frames-from, ready-roll, shut-out}
use Rattle.ap_section.proofs.Newest.{Top, searching, view-top, view-newest, put_at, length-rows, frames-join, frames-front, frames-back, last-of, length-before, set-last}

-- ---- the newest frame

no-frame : (gs : List Segment) → HasFrame (stack_now gs []) → ⊥
no-frame [] h = h
no-frame (g ∷ gs) h = h

pub newest : (s : Section) → HasFrame (stack_in (view_of s)) → (f : Frame Section Trees) × Top s f
newest s h = go (out-Section s).frames.items refl
  where
    go : (fs : List (Frame Section Trees)) → (out-Section s).frames.items ≡ fs → (f : Frame Section Trees) × Top s f
    go [] e = absurd (no-frame (out-Section s).search.older (subst (λ v. HasFrame (stack_in v)) (view_of-out s ∙ ap (λ fs. seen_as (out-Section s).search (reverse fs)) e) h))
    go (x ∷ xs) e = let r = last-of x xs in (r.1, record { before = r.0; items = e ∙ r.2 })

pub count-first : (s : Section) → HasFrame (stack_in (view_of s)) → 0 < count_in s
count-first s h =
    let r = newest s h in
    let e = (out-Section s).frames.ok.0 ∙ ap length r.1.items ∙ length_push r.1.before r.0 in search rules

pub top-first : (s : Section) (n : ℕ) (f : Frame Section Trees) → n ≡ count_in s → HasFrame (stack_in (view_of s)) → f ≡ get_or (out-Section s).frames.items (n - 1) f → Top s f
top-first s n f e h v =
    let r = newest s h in
    let same : f ≡ r.0 = v ∙ ap (λ k. get_or (out-Section s).frames.items (k - 1) f) e ∙ ap (λ xs. get_or xs (count_in s - 1) f) r.1.items
    ∙ get_or_at r.1.before r.0 [] f (count_in s - 1) (length-before (out-Section s).frames r.1.before r.0 r.1.items) in
    record { before = r.1.before; items = r.1.items ∙ ap (λ y. r.1.before ++ y ∷ []) (sym same) }

-- ---- nearly ready

-- of one level
abbrev pub IsNearlyNow : Compiled → Section-F Section → Type 0
IsNearlyNow code s =
    IsFor code s.search × AreMatched code s.search.older (map shape_of (reverse s.frames.items)) × AreShutBehind (map shape_of (reverse s.frames.items)) × FramesReady code s.frames.items

pub nearly-out : (code : Compiled) (s : Section) → IsNearlyReady code s → IsNearlyNow code (out-Section s)
nearly-out code s h = let k = subst (AreNearlyReady code) (parts-out s) h in (k.0, k.1, k.2, frames-into code (out-Section s).frames.items k.3)

pub nearly-roll : (code : Compiled) (s : Section-F Section) → IsNearlyNow code s → IsNearlyReady code (roll-Section s)
nearly-roll code s h = subst (AreNearlyReady code) (sym (parts-roll s)) (h.0, h.1, h.2, frames-from code s.frames.items h.3)

order-behind : (p : Paused) (fs : List Shape) → AreInOrder p fs → AreShutBehind fs
order-behind p [] h = tt
order-behind p (a ∷ bs) h = h.1

pub ready-nearly : (code : Compiled) (s : Section) → IsReady code s → IsNearlyReady code s
ready-nearly code s h = go (parts_of s) h
  where
    go : (ps : List Part) → AreReady code ps → AreNearlyReady code ps
    go [] h = h
    go (a ∷ bs) h = (h.0.0, h.0.1, order-behind a.search a.frames h.0.2, h.1)

pub shut-order : (p : Paused) (fs : List Shape) → AreShut fs → AreInOrder p fs
shut-order p [] h = tt
shut-order p (a ∷ bs) h = (inl h.0, h.1)

at-newest : (p : Paused) (g : Segment) (gs : List Segment) (f : Frame Section Trees) (st : Stack) → IsAtFrame (section p.machine p.spent p.budget (parcall g.forked f.rest f.round (slots_now f.slots.items) g.points st))
    → (f.round ≡ Closed) ⊎ IsAtNewest p (g ∷ gs) (shape_of f)
at-newest p g gs f st h = go f.round refl h.3
  where
    slot : IsSlotOf (length f.slots.items) f.round
    slot = subst (λ n. IsSlotOf n f.round) (length-rows f.slots.items) h.4

    go : (rd : Round) → f.round ≡ rd → IsRest rd f.rest (p.budget - p.spent) → (f.round ≡ Closed) ⊎ IsAtNewest p (g ∷ gs) (shape_of f)
    go First e r = inr (h.0, h.1, r, slot)
    go (Draining n) e r = inr (h.0, h.1, r, slot)
    go (Later i) e r = inr (h.0, h.1, r, slot)
    go Closed e r = inl e

nearly-order : (code : Compiled) (p : Paused) (gs : List Segment) (fs : List (Frame Section Trees)) → p.older ≡ gs → AreMatched code gs (map shape_of fs) → AreShutBehind (map shape_of fs)
    → IsAtFrame (section p.machine p.spent p.budget (stack_now gs fs)) → AreInOrder p (map shape_of fs)
nearly-order code p [] [] e m h at = tt
nearly-order code p [] (f ∷ fs) e m h at = absurd m
nearly-order code p (g ∷ gs) [] e m h at = absurd m
nearly-order code p (g ∷ gs) (f ∷ fs) e m h at = (subst (λ ks. (f.round ≡ Closed) ⊎ IsAtNewest p ks (shape_of f)) (sym e) (at-newest p g gs f (stack_now gs fs) at), h)

-- a section at a frame is ready
pub nearly-ready : (code : Compiled) (s : Section) → IsNearlyReady code s → IsAtFrame (view_of s) → IsReady code s
nearly-ready code s h at =
    let k = subst (AreNearlyReady code) (parts-out s) h in
    subst (AreReady code) (sym (parts-out s))
    ((k.0, k.1, nearly-order code (out-Section s).search (out-Section s).search.older (reverse (out-Section s).frames.items) refl k.1 k.2 (subst IsAtFrame (view_of-out s) at)), k.3)

-- ---- it is charged

pub charged-view : (s : Section) (p : Paused) (e : ℕ) → p ≡ record (out-Section s).search { spent = (out-Section s).search.spent + e } → view_of (roll-Section (record (out-Section s) { search = p })) ≡ charged_in e (view_of s)
charged-view s p e h = view_of-roll (record (out-Section s) { search = p }) ∙ ap (λ p. seen_as p (reverse (out-Section s).frames.items)) h ∙ ap (charged_in e) (sym (view_of-out s))

pub search-nearly : (code : Compiled) (s : Section) (p : Paused) → p.older ≡ (out-Section s).search.older → (IsFor code (out-Section s).search → IsFor code p) → IsNearlyReady code s
    → IsNearlyReady code (roll-Section (record (out-Section s) { search = p }))
search-nearly code s p e f h =
    let k = nearly-out code s h in
    nearly-roll code (record (out-Section s) { search = p }) (f k.0, subst (λ gs. AreMatched code gs (map shape_of (reverse (out-Section s).frames.items))) (sym e) k.1, k.2, k.3)

matched-as : (code : Compiled) (gs : List Segment) (a c : Shape) (bs : List Shape) → ((n : ℕ) → IsCount a.round a.count n → IsCount c.round c.count n) → AreMatched code gs (a ∷ bs) → AreMatched code gs (c ∷ bs)
matched-as code [] a c bs counts h = h
matched-as code (g ∷ gs) a c bs counts h = (counts (length g.forked.goals) h.0, h.1, h.2)

-- its newest frame has other slots, of which there may be so many
pub nearly-newest : (code : Compiled) (s : Section) (f h : Frame Section Trees) (t : Top s f) → ((n : ℕ) → IsCount f.round (length f.slots.items) n → IsCount h.round (length h.slots.items) n) → (SlotsReady code f.slots.items → SlotsReady code h.slots.items)
    → IsNearlyReady code s → IsNearlyReady code (with_newest s h)
nearly-newest code s f h t counts slots r =
    let k = nearly-out code s r in
    let items = set-last (out-Section s).frames t.before f h t.items in
    let old : map shape_of (reverse (out-Section s).frames.items) ≡ shape_of f ∷ map shape_of (reverse t.before) = ap (λ fs. map shape_of (reverse fs)) t.items ∙ ap (map shape_of) (reverse-append t.before (f ∷ [])) in
    let new : map shape_of (reverse (with_item (out-Section s).frames (vec_len (out-Section s).frames - 1) h).items) ≡ shape_of h ∷ map shape_of (reverse t.before) =
    ap (λ fs. map shape_of (reverse fs)) items ∙ ap (map shape_of) (reverse-append t.before (h ∷ [])) in
    let frames = subst (FramesReady code) t.items k.3 in
    let matched = matched-as code (out-Section s).search.older (shape_of f) (shape_of h) (map shape_of (reverse t.before)) counts (subst (AreMatched code (out-Section s).search.older) old k.1) in
    nearly-roll code (record (out-Section s) { frames = with_item (out-Section s).frames (vec_len (out-Section s).frames - 1) h }) (
      k.0,
      subst (AreMatched code (out-Section s).search.older) (sym new) matched,
      subst AreShutBehind (sym new) (subst AreShutBehind old k.2),
      subst (FramesReady code) (sym items)
          (frames-join code t.before (h ∷ []) (frames-front code t.before (f ∷ []) frames) (slots (frames-back code t.before (f ∷ []) frames).0, tt)),
    )

-- ---- it is closed

stack-closed : (gs : List Segment) (fs : List (Frame Section Trees)) (f h : Frame Section Trees) → row h ≡ with_round Closed (row f) → stack_now gs (h ∷ fs) ≡ closed_stack (stack_now gs (f ∷ fs))
stack-closed [] fs f h e = refl
stack-closed (g ∷ gs) fs f h e = ap (λ r. parcall g.forked r.rest r.round (slots_now r.slots) g.points (stack_now gs fs)) e

closed-row : (f h : Frame Section Trees) → row h ≡ with_round Closed (row f) → (n : ℕ) → IsCount f.round (length f.slots.items) n → IsCount h.round (length h.slots.items) n
closed-row f h e n k = subst (λ r. IsCount r.round (length r.slots) n) (sym e) (closed-count f.round (length f.slots.items) n k)

-- its newest frame is closed, whatever slots it has
pub shut-newest : (code : Compiled) (s : Section) (f h : Frame Section Trees) (t : Top s f) → h.round ≡ Closed → ((n : ℕ) → IsCount f.round (length f.slots.items) n → IsCount h.round (length h.slots.items) n)
    → (SlotsReady code f.slots.items → SlotsReady code h.slots.items) → IsNearlyReady code s → IsReady code (with_newest s h)
shut-newest code s f h t closed counts slots r =
    let k = nearly-out code s r in
    let items = set-last (out-Section s).frames t.before f h t.items in
    let old : map shape_of (reverse (out-Section s).frames.items) ≡ shape_of f ∷ map shape_of (reverse t.before) = ap (λ fs. map shape_of (reverse fs)) t.items ∙ ap (map shape_of) (reverse-append t.before (f ∷ [])) in
    let new : map shape_of (reverse (with_item (out-Section s).frames (vec_len (out-Section s).frames - 1) h).items) ≡ shape_of h ∷ map shape_of (reverse t.before) =
    ap (λ fs. map shape_of (reverse fs)) items ∙ ap (map shape_of) (reverse-append t.before (h ∷ [])) in
    let frames = subst (FramesReady code) t.items k.3 in
    let matched = matched-as code (out-Section s).search.older (shape_of f) (shape_of h) (map shape_of (reverse t.before)) counts (subst (AreMatched code (out-Section s).search.older) old k.1) in
    let order : AreInOrder (out-Section s).search (shape_of h ∷ map shape_of (reverse t.before)) = (inl closed, subst AreShutBehind old k.2) in
    ready-roll code (record (out-Section s) { frames = with_item (out-Section s).frames (vec_len (out-Section s).frames - 1) h }) (
      (k.0, subst (AreMatched code (out-Section s).search.older) (sym new) matched, subst (AreInOrder (out-Section s).search) (sym new) order),
      subst (FramesReady code) (sym items)
          (frames-join code t.before (h ∷ []) (frames-front code t.before (f ∷ []) frames) (slots (frames-back code t.before (f ∷ []) frames).0, tt)),
    )

closed-newest : (code : Compiled) (s : Section) (f h : Frame Section Trees) (t : Top s f) → row h ≡ with_round Closed (row f) → IsNearlyReady code s → IsReady code (with_newest s h)
closed-newest code s f h t e r = shut-newest code s f h t (ap (λ r. r.round) e) (closed-row f h e) (subst (λ r. SlotsReady code r.slots) (sym e)) r

pub closed-ready : (code : Compiled) (s : Section) (n : ℕ) (f h : Frame Section Trees) → n ≡ count_in s → HasFrame (stack_in (view_of s)) → f ≡ get_or (out-Section s).frames.items (n - 1) f → row h ≡ with_round Closed (row f)
    → IsNearlyReady code s → IsReady code (put_at s n h)
closed-ready code s n f h e at v r k = subst (λ j. IsReady code (put_at s j h)) (sym e) (closed-newest code s f h (top-first s n f e at v) r k)

pub closed-view : (s : Section) (n : ℕ) (f h : Frame Section Trees) → n ≡ count_in s → HasFrame (stack_in (view_of s)) → f ≡ get_or (out-Section s).frames.items (n - 1) f → row h ≡ with_round Closed (row f)
    → view_of (put_at s n h) ≡ closed_in (view_of s)
closed-view s n f h e at v r =
    let t = top-first s n f e at v in
    let p = (out-Section s).search in
    ap (λ j. view_of (put_at s j h)) e ∙ view-newest s f h t ∙ ap (section p.machine p.spent p.budget) (stack-closed p.older (reverse t.before) f h r) ∙ ap closed_in (sym (view-top s f t))

-- ---- it is forgotten

pub first-out : (s : Section) → IsAtFirst (view_of s) → HasFailed (out-Section s).search.machine.roots [] (out-Section s).search.machine
first-out s h = (subst IsAtFirst (view_of-out s) h).1

some-older : (gs : List Segment) (fs : List (Frame Section Trees)) → HasFrame (stack_now gs fs) → 0 < length gs
some-older [] fs h = absurd h
some-older (g ∷ gs) fs h = omega arith

pub first-older : (s : Section) → IsAtFirst (view_of s) → 0 < length (out-Section s).search.older
first-older s h = some-older (out-Section s).search.older (reverse (out-Section s).frames.items) (subst IsAtFirst (view_of-out s) h).0

forgotten-as : (p q : Paused) (gs : List Segment) (f : Frame Section Trees) (fs : List (Frame Section Trees)) → HasFrame (stack_now gs (f ∷ fs)) → ((g : Segment) (ks : List Segment) → gs ≡ g ∷ ks → IsBehindFork g ks p q)
    → IsForgotten (section p.machine p.spent p.budget (stack_now gs (f ∷ fs))) (seen_as q fs)
forgotten-as p q [] f fs h k = absurd h
forgotten-as p q (g ∷ gs) f fs h k =
    let r = k g gs refl in (
      q.machine,
      record { now = r.now; returns = r.returns; roots_stay = r.roots; points = r.points },
      ap (λ n. section q.machine n q.budget (stack_now q.older fs)) r.spent ∙ ap₂ (λ n ks. section q.machine p.spent n (stack_now ks fs)) r.budget r.older,
    )

-- the section with another search and the frames but the newest one
abbrev pub without_newest : Section → Paused → Vec (Frame Section Trees) Global → Section
without_newest s q v = roll-Section (record (out-Section s) { search = q; frames = v })

before-newest : (s : Section) (f : Frame Section Trees) (t : Top s f) → take (vec_len (out-Section s).frames - 1) (out-Section s).frames.items ≡ t.before
before-newest s f t = ap (take (vec_len (out-Section s).frames - 1)) t.items ∙ ap (λ n. take n (t.before ++ f ∷ [])) (sym (length-before (out-Section s).frames t.before f t.items)) ∙ take-front t.before (f ∷ [])
  where
    take-front : (xs ys : List (Frame Section Trees)) → take (length xs) (xs ++ ys) ≡ xs
    take-front [] ys = refl
    take-front (x ∷ xs) ys = ap (λ zs. x ∷ zs) (take-front xs ys)

pub forgotten-view : (s : Section) (q : Paused) (v : Vec (Frame Section Trees) Global) → IsAtFirst (view_of s) → ((g : Segment) (ks : List Segment) → (out-Section s).search.older ≡ g ∷ ks → IsBehindFork g ks (out-Section s).search q)
    → v.items ≡ take (vec_len (out-Section s).frames - 1) (out-Section s).frames.items → IsForgotten (view_of s) (view_of (without_newest s q v))
forgotten-view s q v h k e =
    let at = subst (λ v. HasFrame (stack_in v)) (sym (view_of-out s)) (subst IsAtFirst (view_of-out s) h).0 in
    let r = newest s at in
    let old = view-top s r.0 r.1 in
    let new : view_of (without_newest s q v) ≡ seen_as q (reverse r.1.before) = view_of-roll (record (out-Section s) { search = q; frames = v }) ∙ ap (λ fs. seen_as q (reverse fs)) (e ∙ before-newest s r.0 r.1) in
    subst (λ x. IsForgotten x (view_of (without_newest s q v))) (sym old)
    (subst (IsForgotten (seen_as (out-Section s).search (r.0 ∷ reverse r.1.before))) (sym new)
    (forgotten-as (out-Section s).search q (out-Section s).search.older r.0 (reverse r.1.before) (subst (λ x. HasFrame (stack_in x)) old at) k))

tail-matched : (code : Compiled) (gs : List Segment) (a : Shape) (bs : List Shape) (p q : Paused) → ((g : Segment) (ks : List Segment) → gs ≡ g ∷ ks → IsBehindFork g ks p q) → AreMatched code gs (a ∷ bs) → AreMatched code q.older bs
tail-matched code [] a bs p q k h = absurd h
tail-matched code (g ∷ gs) a bs p q k h = subst (λ ks. AreMatched code ks bs) (sym (k g gs refl).older) h.2

pub forgotten-ready : (code : Compiled) (s : Section) (q : Paused) (v : Vec (Frame Section Trees) Global) → IsAtFirst (view_of s) → ((g : Segment) (ks : List Segment) → (out-Section s).search.older ≡ g ∷ ks → IsBehindFork g ks (out-Section s).search q)
    → v.items ≡ take (vec_len (out-Section s).frames - 1) (out-Section s).frames.items → (IsFor code (out-Section s).search → IsFor code q) → IsNearlyReady code s → IsReady code (without_newest s q v)
forgotten-ready code s q v h k e is_for r =
    let at = subst (λ v. HasFrame (stack_in v)) (sym (view_of-out s)) (subst IsAtFirst (view_of-out s) h).0 in
    let n = newest s at in
    let now = nearly-out code s r in
    let items : v.items ≡ n.1.before = e ∙ before-newest s n.0 n.1 in
    let old : map shape_of (reverse (out-Section s).frames.items) ≡ shape_of n.0 ∷ map shape_of (reverse n.1.before) = ap (λ fs. map shape_of (reverse fs)) n.1.items ∙ ap (map shape_of) (reverse-append n.1.before (n.0 ∷ [])) in
    let new : map shape_of (reverse v.items) ≡ map shape_of (reverse n.1.before) = ap (λ fs. map shape_of (reverse fs)) items in
    let matched = tail-matched code (out-Section s).search.older (shape_of n.0) (map shape_of (reverse n.1.before)) (out-Section s).search q k (subst (AreMatched code (out-Section s).search.older) old now.1) in
    let order = shut-order q (map shape_of (reverse n.1.before)) (subst AreShutBehind old now.2) in
    ready-roll code (record (out-Section s) { search = q; frames = v }) (
      (is_for now.0, subst (AreMatched code q.older) (sym new) matched, subst (AreInOrder q) (sym new) order),
      subst (FramesReady code) (sym items) (frames-front code n.1.before (n.0 ∷ []) (subst (FramesReady code) n.1.items now.3)),
    )

-- ---- it is rejoined

back-as : (p q : Paused) (g : Segment) (gs : List Segment) (f : Frame Section Trees) (fs : List (Frame Section Trees)) (ks : List Segment) → ks ≡ g ∷ gs → IsAtFork g ks p q
    → IsBack (section p.machine p.spent p.budget (stack_now (g ∷ gs) (f ∷ fs))) (seen_as q (f ∷ fs))
back-as p q g gs f fs ks e r = (
  q.machine,
  record { now = r.now; returns = r.returns; roots_stay = r.roots; points = r.points },
  r.cells,
  ap (λ n. section q.machine n q.budget (stack_now q.older (f ∷ fs))) r.spent ∙ ap₂ (λ n ks. section q.machine p.spent n (stack_now ks (f ∷ fs))) r.budget (r.older ∙ e),
)

rejoined-as : (p q : Paused) (gs : List Segment) (fs : List (Frame Section Trees)) (ts : List Trees) (b : Bool) → p.older ≡ gs → HasFrame (stack_now gs fs) → ((g : Segment) (ks : List Segment) → gs ≡ g ∷ ks → Rejoined g ts p q b)
    → IsRejoined (section p.machine p.spent p.budget (stack_now gs fs)) ts (seen_as q fs) b
rejoined-as p q [] fs ts b e h k = absurd h
rejoined-as p q (g ∷ gs) [] ts b e h k = absurd h
rejoined-as p q (g ∷ gs) (f ∷ fs) ts true e h k =
    let r = k g gs refl in (
      q.machine,
      record { now = r.now; returns = r.returns; roots_stay = r.roots; points = r.points; cells = r.cells },
      ap (λ n. section q.machine n q.budget (stack_now q.older (f ∷ fs))) r.spent ∙ ap₂ (λ n ks. section q.machine p.spent n (stack_now ks (f ∷ fs))) r.budget (r.older ∙ e),
    )
rejoined-as p q (g ∷ gs) (f ∷ fs) ts false e h k = let r = k g gs refl in (back-as p q g gs f fs p.older e r.0, r.1)

pub rejoined-view : (s : Section) (q : Paused) (ts : List Trees) (b : Bool) → IsAtFirst (view_of s) → ((g : Segment) (ks : List Segment) → (out-Section s).search.older ≡ g ∷ ks → Rejoined g ts (out-Section s).search q b)
    → IsRejoined (view_of s) ts (view_of (roll-Section (record (out-Section s) { search = q }))) b
rejoined-view s q ts b h k =
    subst (λ x. IsRejoined x ts (view_of (roll-Section (record (out-Section s) { search = q }))) b) (sym (view_of-out s))
    (subst (λ x. IsRejoined (seen_as (out-Section s).search (reverse (out-Section s).frames.items)) ts x b) (sym (view_of-roll (record (out-Section s) { search = q })))
    (rejoined-as (out-Section s).search q (out-Section s).search.older (reverse (out-Section s).frames.items) ts b refl (subst IsAtFirst (view_of-out s) h).0 k))

back-all : (p q : Paused) (gs : List Segment) (fs : List (Frame Section Trees)) → p.older ≡ gs → HasFrame (stack_now gs fs) → ((g : Segment) (ks : List Segment) → gs ≡ g ∷ ks → IsAtFork g (g ∷ ks) p q)
    → IsBack (section p.machine p.spent p.budget (stack_now gs fs)) (seen_as q fs)
back-all p q [] fs e h k = absurd h
back-all p q (g ∷ gs) [] e h k = absurd h
back-all p q (g ∷ gs) (f ∷ fs) e h k = back-as p q g gs f fs (g ∷ gs) refl (k g gs refl)

pub back-view : (s : Section) (q : Paused) → IsAtFirst (view_of s) → ((g : Segment) (ks : List Segment) → (out-Section s).search.older ≡ g ∷ ks → IsAtFork g (g ∷ ks) (out-Section s).search q)
    → IsBack (view_of s) (view_of (roll-Section (record (out-Section s) { search = q })))
back-view s q h k =
    subst (λ x. IsBack x (view_of (roll-Section (record (out-Section s) { search = q })))) (sym (view_of-out s))
    (subst (IsBack (seen_as (out-Section s).search (reverse (out-Section s).frames.items))) (sym (view_of-roll (record (out-Section s) { search = q })))
    (back-all (out-Section s).search q (out-Section s).search.older (reverse (out-Section s).frames.items) refl (subst IsAtFirst (view_of-out s) h).0 k))

-- in each case the forks stay
pub older-stays : {E : Type 0} (s : Section) (q : Paused) (ts : List Trees) (r : Result Bool E) → IsAtFirst (view_of s)
    → IfOk r (λ met. (g : Segment) (ks : List Segment) → (out-Section s).search.older ≡ g ∷ ks → Rejoined g ts (out-Section s).search q met)
    → OnErr r ((g : Segment) (ks : List Segment) → (out-Section s).search.older ≡ g ∷ ks → IsAtFork g (g ∷ ks) (out-Section s).search q) → q.older ≡ (out-Section s).search.older
older-stays {E = E} s q ts r h a b = let w = some_first (out-Section s).search.older (first-older s h) in go r w.0 w.1 w.2 a b
  where
    go : (r : Result Bool E) (g : Segment) (ks : List Segment) → (out-Section s).search.older ≡ g ∷ ks
        → IfOk r (λ met. (g : Segment) (ks : List Segment) → (out-Section s).search.older ≡ g ∷ ks → Rejoined g ts (out-Section s).search q met)
        → OnErr r ((g : Segment) (ks : List Segment) → (out-Section s).search.older ≡ g ∷ ks → IsAtFork g (g ∷ ks) (out-Section s).search q) → q.older ≡ (out-Section s).search.older
    go (Ok true) g ks e a b = (a g ks e).older
    go (Ok false) g ks e a b = (a g ks e).0.older
    go (Err x) g ks e a b = (b g ks e).older ∙ sym e

-- what comes out
pub rejoined-result : {E : Type 0} (s : Section) (q : Paused) (ts : List Trees) (r : Result Bool E) → IsAtFirst (view_of s)
    → IfOk r (λ met. (g : Segment) (ks : List Segment) → (out-Section s).search.older ≡ g ∷ ks → Rejoined g ts (out-Section s).search q met)
    → IfOk r (λ met. IsRejoined (view_of s) ts (view_of (roll-Section (record (out-Section s) { search = q }))) met)
rejoined-result s q ts (Ok b) h k = rejoined-view s q ts b h k
rejoined-result s q ts (Err e) h k = tt

pub back-result : {E : Type 0} (s : Section) (q : Paused) (r : Result Bool E) → IsAtFirst (view_of s)
    → OnErr r ((g : Segment) (ks : List Segment) → (out-Section s).search.older ≡ g ∷ ks → IsAtFork g (g ∷ ks) (out-Section s).search q)
    → OnErr r (IsBack (view_of s) (view_of (roll-Section (record (out-Section s) { search = q }))))
back-result s q (Ok b) h k = tt
back-result s q (Err e) h k = back-view s q h k

-- ---- a slot's section goes on

pub going-view : (s : Section) (q : Paused) (r : ℕ) → q ≡ record (out-Section s).search { machine = record (out-Section s).search.machine { now = failed }; budget = (out-Section s).search.spent + r }
    → view_of (roll-Section (record (out-Section s) { search = q })) ≡ gone_on r (view_of s)
going-view s q r h = view_of-roll (record (out-Section s) { search = q }) ∙ ap (λ p. seen_as p (reverse (out-Section s).frames.items)) h ∙ ap (gone_on r) (sym (view_of-out s))

pub going-ready : (code : Compiled) (s : Section) (q : Paused) → q.older ≡ (out-Section s).search.older → (IsFor code (out-Section s).search → IsFor code q) → IsShut code s → IsReady code (roll-Section (record (out-Section s) { search = q }))
going-ready code s q e f h =
    let k = shut-out code s h in
    ready-roll code (record (out-Section s) { search = q })
    ((f k.0.0, subst (λ gs. AreMatched code gs (map shape_of (reverse (out-Section s).frames.items))) (sym e) k.0.1, shut-order q (map shape_of (reverse (out-Section s).frames.items)) k.0.2), k.1)

-- ---- its search changes, and then its frames or its search again

pub forgot-view : (s : Section) (q : Paused) (v : Vec (Frame Section Trees) Global) → IsAtFirst (view_of s) → ((g : Segment) (ks : List Segment) → (out-Section s).search.older ≡ g ∷ ks → IsBehindFork g ks (out-Section s).search q)
    → v.items ≡ take (vec_len (out-Section (searching s q)).frames - 1) (out-Section (searching s q)).frames.items → IsForgotten (view_of s) (view_of (roll-Section (record (out-Section (searching s q)) { frames = v })))
forgot-view s q v h k e =
    let is = out-roll-Section (record (out-Section s) { search = q }) in
    subst (λ z. IsForgotten (view_of s) (view_of (roll-Section (record z { frames = v })))) (sym is)
    (forgotten-view s q v h k (e ∙ ap (λ z. take (vec_len z.frames - 1) z.frames.items) is))

pub forgot-ready : (code : Compiled) (s : Section) (q : Paused) (v : Vec (Frame Section Trees) Global) → IsAtFirst (view_of s) → ((g : Segment) (ks : List Segment) → (out-Section s).search.older ≡ g ∷ ks → IsBehindFork g ks (out-Section s).search q)
    → v.items ≡ take (vec_len (out-Section (searching s q)).frames - 1) (out-Section (searching s q)).frames.items → (IsFor code (out-Section s).search → IsFor code q) → IsNearlyReady code s
    → IsReady code (roll-Section (record (out-Section (searching s q)) { frames = v }))
forgot-ready code s q v h k e is_for r =
    let is = out-roll-Section (record (out-Section s) { search = q }) in
    subst (λ z. IsReady code (roll-Section (record z { frames = v }))) (sym is)
    (forgotten-ready code s q v h k (e ∙ ap (λ z. take (vec_len z.frames - 1) z.frames.items) is) is_for r)

pub twice : (s : Section) (q r : Paused) → roll-Section (record (out-Section (searching s q)) { search = r }) ≡ searching s r
twice s q r = ap (λ z. roll-Section (record z { search = r })) (out-roll-Section (record (out-Section s) { search = q }))

pub search-of : (s : Section) (q : Paused) → (out-Section (searching s q)).search ≡ q
search-of s q = ap (λ z. z.search) (out-roll-Section (record (out-Section s) { search = q }))
