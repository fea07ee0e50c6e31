-- Sections all of whose frames are closed.
use Rattle.std.proofs.Common.{◌≡◌, ◌∙◌, ◌⊎◌, ℕ, zero, suc, ◌+◌, ◌-◌, ◌<◌, ◌≤◌, max, get_or, slice_get, Some, None, List, [], ◌∷◌, ◌++◌, length, reverse, map, ap, sym, subst, refl, inl, inr, arith, rules}
use Rattle.std.proofs.lemmas.List.{reverse-append}
use Rattle.std.proofs.lemmas.Option.{slice_get-get_or, same_Some}
use Rattle.ap_term.specs.Tree.{Trees}
use Rattle.ap_frames.specs.declared.frame.Frame.{Frame}
use Rattle.ap_frames.specs.declared.frame.Round.{Round}
use Rattle.ap_frames.specs.declared.frame.Round.TheVariants.{First, Draining, Later, Closed}
use Rattle.ap_instr.specs.Code.{Compiled}
use Rattle.ap_machine.specs.View.{Segment, Paused, IsFor}
use Rattle.ap_machine.specs.Advanced.{Advanced}
use Rattle.ap_tie.specs.Sections as seen
use Rattle.ap_tie.specs.Sections.{section, bottom, parcall}
use Rattle.ap_tie.specs.Settled.{AreClosed}
use Rattle.ap_tie.specs.Tied.{IsRest}
use Rattle.ap_tied.specs.Ties.{Goes, stack_in}
use Rattle.ap_tied.proofs.Common.{open-count}
use Rattle.ap_tied.specs.Reaching.{ReachingLaw}
use Rattle.ap_section.specs.declared.section.Section.{Section, out-Section}
use Rattle.ap_section.specs.declared.section.Section.TheOpen.{Section-F}
use Rattle.ap_section.specs.Views.{view_of, spent_in}
use Rattle.ap_section.specs.Ready.{shape_of, AreMatched, AreShut, AreInOrder, IsAtNewest, IsReady, IsShut}
use Rattle.ap_section.specs.Slots.{IsAtFrame, IsAtDueFrame, IsSlotOf}
use Rattle.ap_section.specs.Moving.{HasMoved}
use Rattle.ap_section.proofs.Levels.{slots_now, stack_now, seen_as, view_of-out}
use Rattle.ap_section.proofs.Parts.{FramesReady, IsReadyNow, IsShutNow, part_now, ready-out, shut-out, out-shut}
use Rattle.ap_section.proofs.Newest.{Top, view-top, length-rows, round-at}
use Rattle.ap_section.proofs.Closes.{shut-order}
use Rattle.ap_section.proofs.Owed.{owes-same, owes-closed, AreClosedBehind}

-- a level as its view has it
abbrev pub seen_now : Section-F Section → seen.Section
seen_now x = seen_as x.search (reverse x.frames.items)

-- ---- closed, and ready

pub shut-now-ready : (code : Compiled) (s : Section-F Section) → IsShutNow code s → IsReadyNow code s
shut-now-ready code s h = ((h.0.0, h.0.1, shut-order s.search (part_now s).frames h.0.2), h.1)

pub closed-stack : (code : Compiled) (gs : List Segment) (fs : List (Frame Section Trees)) → AreMatched code gs (map shape_of fs) → AreShut (map shape_of fs) → AreClosed (stack_now gs fs)
closed-stack code [] [] h k = tt
closed-stack code [] (f ∷ fs) h k = absurd h
closed-stack code (g ∷ gs) [] h k = absurd h
closed-stack code (g ∷ gs) (f ∷ fs) h k =
    subst (λ rd. AreClosed (parcall g.forked f.rest rd (slots_now f.slots.items) g.points (stack_now gs fs))) (sym k.0) (closed-stack code gs fs h.2 k.1)

pub shut-closed : (code : Compiled) (s : Section-F Section) → IsShutNow code s → AreClosed (stack_now s.search.older (reverse s.frames.items))
shut-closed code s h = closed-stack code s.search.older (reverse s.frames.items) h.0.1 h.0.2

-- ---- the last frame

suc-same : (a b : ℕ) → suc a ≡ suc b → a ≡ b
suc-same a b e = omega (arith, e)

last-at : {A : Type 0} (xs : List A) (k : ℕ) (x : A) → length xs ≡ suc k → slice_get xs k ≡ Some x → (before : List A) × (xs ≡ before ++ x ∷ [])
last-at [] k x e h = absurd (let q : zero ≡ suc k = e in cc)
last-at (y ∷ []) zero x e h = ([], ap (λ z. z ∷ []) (same_Some y x h))
last-at (y ∷ []) (suc k) x e h = absurd (let q : suc zero ≡ suc (suc k) = e in omega (arith, q))
last-at (y ∷ z ∷ zs) zero x e h = absurd (let q : suc (suc (length zs)) ≡ suc zero = e in omega (arith, q))
last-at (y ∷ z ∷ zs) (suc k) x e h = let r = last-at (z ∷ zs) k x (suc-same (length (z ∷ zs)) (suc k) e) h in (y ∷ r.0, ap (λ ws. y ∷ ws) r.1)

pub top-last : (s : Section) (f : Frame Section Trees) (xs : List (Frame Section Trees)) → xs ≡ (out-Section s).frames.items → Some f ≡ slice_get xs (length xs - 1) → Top s f
top-last s f xs e h = go xs e h
  where
    go : (xs : List (Frame Section Trees)) → xs ≡ (out-Section s).frames.items → Some f ≡ slice_get xs (length xs - 1) → Top s f
    go [] e h = absurd (let q : Some f ≡ None = h in cc)
    go (y ∷ ys) e h =
        let n : length (y ∷ ys) ≡ suc (length (y ∷ ys) - 1) = omega arith in
        let r = last-at (y ∷ ys) (length (y ∷ ys) - 1) f n (sym h) in record { before = r.0; items = sym e ∙ r.1 }

pub none-last : (s : Section) (xs : List (Frame Section Trees)) → xs ≡ (out-Section s).frames.items → None ≡ slice_get xs (length xs - 1) → (out-Section s).frames.items ≡ []
none-last s [] e h = sym e
none-last s (y ∷ ys) e h =
    let z = slice_get-get_or (y ∷ ys) (length (y ∷ ys) - 1) y (let l : length (y ∷ ys) - 1 < suc (length ys) = omega arith in l) in
    absurd (let q : None ≡ Some (get_or (y ∷ ys) (length (y ∷ ys) - 1) y) = h ∙ z in cc)

-- ---- whether the newest frame is open

pub shapes-top : (s : Section) (f : Frame Section Trees) (t : Top s f) → map shape_of (reverse (out-Section s).frames.items) ≡ shape_of f ∷ map shape_of (reverse t.before)
shapes-top s f t = ap (λ fs. map shape_of (reverse fs)) t.items ∙ ap (map shape_of) (reverse-append t.before (f ∷ []))

pub top-shut : (code : Compiled) (s : Section) (f : Frame Section Trees) → Top s f → f.round ≡ Closed → IsReady code s → IsShut code s
top-shut code s f t e r =
    let k = ready-out code s r in
    out-shut code s ((k.0.0, k.0.1, subst AreShut (sym (shapes-top s f t)) (e, (subst (AreInOrder (out-Section s).search) (shapes-top s f t) k.0.2).1)), k.1)

pub none-shut : (code : Compiled) (s : Section) → (out-Section s).frames.items ≡ [] → IsReady code s → IsShut code s
none-shut code s e r = let k = ready-out code s r in out-shut code s ((k.0.0, k.0.1, subst (λ fs. AreShut (map shape_of (reverse fs))) (sym e) tt), k.1)

is-rest : (rd : Round) (q r : ℕ) → q ≡ r → IsRest rd q r
is-rest First q r e = e
is-rest (Draining n) q r e = e
is-rest (Later i) q r e = e
is-rest Closed q r e = tt

open-now : (code : Compiled) (p : Paused) (gs : List Segment) (f : Frame Section Trees) (fs : List (Frame Section Trees)) → (f.round ≡ Closed → ⊥) → AreMatched code gs (shape_of f ∷ map shape_of fs)
    → (f.round ≡ Closed) ⊎ IsAtNewest p gs (shape_of f) → IsAtFrame (section p.machine p.spent p.budget (stack_now gs (f ∷ fs)))
open-now code p [] f fs n h k = absurd h
open-now code p (g ∷ gs) f fs n h (inl e) = absurd (n e)
open-now code p (g ∷ gs) f fs n h (inr k) =
    (k.0, k.1, length-rows f.slots.items ∙ open-count f.round _ _ n h.0, is-rest f.round f.rest (p.budget - p.spent) k.2, subst (λ c. IsSlotOf c f.round) (sym (length-rows f.slots.items)) k.3)

open-at : (code : Compiled) (s : Section) (f : Frame Section Trees) → Top s f → (f.round ≡ Closed → ⊥) → IsReady code s → IsAtFrame (view_of s)
open-at code s f t n r =
    let k = ready-out code s r in
    let p = (out-Section s).search in
    subst IsAtFrame (sym (view-top s f t)) (open-now code p p.older f (reverse t.before) n (subst (AreMatched code p.older) (shapes-top s f t) k.0.1) (subst (AreInOrder p) (shapes-top s f t) k.0.2).0)

pub open-due : (code : Compiled) (s : Section) (f : Frame Section Trees) → Top s f → (f.round ≡ Closed → ⊥) → IsReady code s → IsAtDueFrame (view_of s)
open-due code s f t n r = let at = open-at code s f t n r in (at, λ e. absurd (n (sym (round-at s f t at) ∙ e)))

-- ---- moves of the view

pub same-most : (a b : ℕ) → b ≡ a → a ≤ b
same-most a b e = omega (arith, e)

pub moved-same : (code : Compiled) (v w v' w' : seen.Section) → v' ≡ v → w' ≡ w → HasMoved code v w → HasMoved code v' w'
moved-same code v w v' w' e f h = subst (λ u. HasMoved code u w') (sym e) (subst (HasMoved code v) (sym f) h)

module _ (law : ReachingLaw) where
  pub moved-none : (code : Compiled) (v w : seen.Section) → w ≡ v → HasMoved code v w
  moved-none code v w e = subst (HasMoved code v) (sym e) (record { goes = law.stays code v; more = same-most (spent_in v) (spent_in v) refl; budget = refl; owes = owes-same v v refl })

  pub moved-on : (code : Compiled) (u v w : seen.Section) → HasMoved code u v → HasMoved code v w → HasMoved code u w
  moved-on code u v w h k = record {
    goes = law.goes_on code u v w h.goes k.goes;
    more = omega (arith, h.more, k.more);
    budget = k.budget ∙ h.budget;
    owes = omega (arith, h.more, k.more, h.owes, k.owes);
  }

  -- ---- turns of the search

  left-over : (a b c : ℕ) → c ≤ a → a ≤ max b c → a - c ≤ b - c
  left-over a b c h k = search rules

  whole-again : (a c : ℕ) → c ≤ a → c + (a - c) ≡ a
  whole-again a c h = omega (arith, h)

  pub turned-now : (code : Compiled) (s : Section-F Section) (p : Paused) → Advanced code s.search p → p.spent ≤ max s.search.budget s.search.spent → IsShutNow code s → HasMoved code (seen_now s) (seen_now (record s { search = p }))
  turned-now code s p h few shut =
      let q = s.search in
      let st = stack_now q.older (reverse s.frames.items) in
      let goes = law.turns code q.machine p.machine q.spent q.budget (p.spent - q.spent) st (left-over p.spent q.budget q.spent h.more few) (shut-closed code s shut) h.roots h.turned in
      let same : section p.machine (q.spent + (p.spent - q.spent)) q.budget st ≡ seen_now (record s { search = p }) =
      ap (λ c. section p.machine c q.budget st) (whole-again p.spent q.spent h.more) ∙ ap (λ b. section p.machine p.spent b st) (sym h.budget) ∙ ap (λ gs. section p.machine p.spent p.budget (stack_now gs (reverse s.frames.items))) (sym h.older) in
      record {
        goes = subst (Goes code (seen_now s)) same goes;
        more = h.more;
        budget = h.budget;
        owes = owes-closed (seen_now s) (seen_now (record s { search = p })) (subst (λ v. AreClosed (stack_in v)) same (shut-closed code s shut)) h.more;
      }

pub turned-shut : (code : Compiled) (s : Section-F Section) (p : Paused) → Advanced code s.search p → IsFor code p → IsShutNow code s → IsShutNow code (record s { search = p })
turned-shut code s p h is_for shut = ((is_for, subst (λ gs. AreMatched code gs (part_now s).frames) (sym h.older) shut.0.1, shut.0.2), shut.1)

-- ---- counts behind one another

pub within-on : (b b' d e c : ℕ) → b' ≡ b → d ≤ e → e ≤ max b d → c ≤ max b' e → c ≤ max b d
within-on b b' d e c q h k l = search rules

pub shut-view : (code : Compiled) (s : Section) → IsShut code s → AreClosed (stack_in (view_of s))
shut-view code s h = subst (λ v. AreClosed (stack_in v)) (sym (view_of-out s)) (shut-closed code (out-Section s) (shut-out code s h))

-- ---- a section that begins

pub fresh-seen : (p : Paused) (fs : List (Frame Section Trees)) (rest : ℕ) → p.spent ≡ 0 → p.budget ≡ rest → p.older ≡ [] → seen_as p fs ≡ section p.machine 0 rest bottom
fresh-seen p fs rest ec eb eo =
    ap (λ c. section p.machine c p.budget (stack_now p.older fs)) ec ∙ ap (λ b. section p.machine 0 b (stack_now p.older fs)) eb ∙ ap (λ gs. section p.machine 0 rest (stack_now gs fs)) eo

pub fresh-ready : (code : Compiled) (x : Section-F Section) → x.frames.items ≡ [] → x.search.older ≡ [] → IsFor code x.search → IsReadyNow code x
fresh-ready code x e o is_for = shut-now-ready code x (
  (
    is_for,
    subst (λ gs. AreMatched code gs (map shape_of (reverse x.frames.items))) (sym o) (subst (λ fs. AreMatched code [] (map shape_of (reverse fs))) (sym e) tt),
    subst (λ fs. AreShut (map shape_of (reverse fs))) (sym e) tt,
  ),
  subst (FramesReady code) (sym e) tt,
)

pub few-on : (d e c n before now : ℕ) → before ≡ d → now ≡ e → d ≤ e → e ≤ d + n → c ≤ e + (n - (now - before)) → c ≤ d + n
few-on d e c n before now b a h k l = omega (arith, b, a, h, k, l)

-- the frames behind the first one are closed
behind-stack : (code : Compiled) (p : Paused) (gs : List Segment) (fs : List (Frame Section Trees)) → AreMatched code gs (map shape_of fs) → AreInOrder p (map shape_of fs) → AreClosedBehind (stack_now gs fs)
behind-stack code p [] fs h k = tt
behind-stack code p (g ∷ gs) [] h k = absurd h
behind-stack code p (g ∷ gs) (f ∷ fs) h k = closed-stack code gs fs h.2 k.1

pub ready-behind : (code : Compiled) (s : Section) → IsReady code s → AreClosedBehind (stack_in (view_of s))
ready-behind code s r =
    let x = out-Section s in
    let k = ready-out code s r in
    subst (λ v. AreClosedBehind (stack_in v)) (sym (view_of-out s)) (behind-stack code x.search x.search.older (reverse x.frames.items) k.0.1 k.0.2)
