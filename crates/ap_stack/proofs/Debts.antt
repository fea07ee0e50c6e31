-- What the ties of a search say of costs: of slots that have spent their budget, and of a frame whose slot is redone.
use Rattle.std.proofs.Common.{◌≡◌, ℕ, zero, suc, ◌+◌, ◌-◌, ◌<◌, ◌≤◌, Bool, true, false, nat_lt, if◌then◌else◌, inl, inr, List, [], ◌∷◌, ◌++◌, take, Option, Some, None, refl, ap, sym, ◌∙◌, subst, position, arith}
use Rattle.std.proofs.lemmas.Bool.{ltb-true, and_parts}
use Rattle.std.specs.Cmp.{nat_cmp_is}
use Rattle.std.specs.declared.cmp.Ordering.TheVariants.{Less, Greater}
use Rattle.std.specs.List.{AllByRecursion, list_any, list_all}
use Rattle.ap_term.specs.Tree.{Trees, none, more}
use Rattle.ap_core.specs.Tasks as core
use Rattle.ap_core.specs.Tasks.{Task, task, Alternatives, exhausted, alternative, Alternative, frame, Progress}
use Rattle.ap_core.specs.Relation.{Rules}
use Rattle.ap_frames.specs.declared.frame.Round.{Round}
use Rattle.ap_frames.specs.declared.frame.Round.TheVariants.{First, Draining, Later, Closed}
use Rattle.ap_frames.specs.declared.slots.Stand.{Stand}
use Rattle.ap_frames.specs.declared.slots.Stand.TheVariants.{Ready, Waiting, Running, Answered, Replayed, Ended, GivenBack}
use Rattle.ap_frames.specs.declared.slots.Run.TheVariants.{Redone}
use Rattle.ap_frames.specs.declared.slots.Ending.{Ending}
use Rattle.ap_frames.specs.declared.slots.Ending.TheVariants as ended
use Rattle.ap_frames.specs.declared.verdict.Verdict.{Verdict}
use Rattle.ap_frames.specs.declared.verdict.Verdict.TheVariants.{Joined, Broken, Drain, Raised, Spent}
use Rattle.ap_frames.specs.Rows.{standing, at_place}
use Rattle.ap_frames.specs.Rounds.{numbered, without_cost, reset, reset_by, resumed}
use Rattle.ap_frames.specs.Slots.{has_answer, has_failed, has_more, is_loud_with_more, ends, stands_answered, cost_at}
use Rattle.ap_frames.specs.Verdicts.{left_edge, leftmost_ending, rightmost, next_redo, charged, by_ending, unless_failed, are_harmless, drains, after_failure, in_first, judged}
use Rattle.ap_frames.proofs.Failing.{rightmost-inside}
use Rattle.ap_parcall_laws.specs.Alike.{StandsAs}
use Rattle.ap_tracked.specs.Tracked.{Tracked}
use Rattle.ap_instr.specs.Code.{Compiled}
use Rattle.ap_tie.specs.Shows.{before}
use Rattle.ap_tie.specs.Sections as seen
use Rattle.ap_tie.specs.Sections.{Row, section, bottom, parcall, Slots, no_slot, slot, nothing, held, rows}
use Rattle.ap_tie.specs.Redone.{keeping, closed_row, taken}
use Rattle.ap_tie.specs.Settled.{AreClosed}
use Rattle.ap_tie.specs.Tied.{IsRest, IsShutIn, UnlessCleared, HoldsSlots}
use Rattle.ap_tie.proofs.Cleared.{slot-stands}
use Rattle.ap_tied.specs.SlotCalls.{held_in, gone_on}
use Rattle.ap_tied.specs.Ties.{IsSimple, AreSimple, SlotsAreSimple, IsSimpleProgress, IsQuietRound, HoldsAnswer, AreQuietSlots, IsTied, stack_in}
use Rattle.ap_open.specs.Opened.{rest_in}
use Rattle.ap_open.specs.Away.{Level, AreBeside, TiedBeside}
use Rattle.ap_open.specs.Calling.{MayRedo, with_redone, IsSpent}
use Rattle.ap_section.specs.Views.{view_of, spent_in, budget_in}
use Rattle.ap_section.specs.Slots.{IsAtFrame, round_in, slots_in, taken_in, is_held, IsGoneOn}
use Rattle.ap_section.specs.Owed.{costs_of, open_cost, frame_cost, owed}
use Rattle.ap_section.proofs.Owed.{edge-least, closed-free}
use Rattle.ap_post.specs.declared.post.Post.{Post}
use Rattle.ap_stack.specs.declared.stack.Open.{Open}
use Rattle.ap_stack.specs.declared.stack.Stack.{Stack}
use Rattle.ap_stack.specs.Stacks.{code_in, levels_in, section_in, away_in, Pays}
use Rattle.ap_stack.proofs.Counts.{pushed-counts}
use Rattle.ap_stack.proofs.Waiting.{may-redo, taken-is}

-- ---- the newest section's tie

pub innermost : (code : Compiled) (r : Rules) (P : Tracked → Task → Type 0) (levels : List Level) (o : Tracked) (t : Task) → AreBeside code r P levels o t → (n : Tracked) × (z : Task) × P n z
innermost code r P [] o t h = (o, t, h)
innermost code r P (a ∷ levels) o t h = innermost code r P levels h.5 h.6 h.8

-- ---- slots that have spent their budget

-- such a slot has cost all that its round began with
abbrev Spends : ℕ → Row → Type 0
Spends q x = ends x.stand ≡ Some ended.Spent → cost_at x.stand ≡ q

row-spends : (q n : ℕ) (y : Stand (Unit {0})) (z : Progress) → StandsAs q y n z → IsSimpleProgress z → ends y ≡ Some ended.Spent → cost_at y ≡ q
row-spends q n Ready z h k e = cc
row-spends q n Waiting z h k e = cc
row-spends q n (Running r) z h k e = cc
row-spends q n (Answered a) z h k e = cc
row-spends q n (Replayed i) z h k e = cc
row-spends q n GivenBack z h k e = cc
row-spends q n (Ended ended.Failed c) z h k e = cc
row-spends q n (Ended ended.Stopped c) z h k e = cc
row-spends q n (Ended (ended.Raised f) c) z h k e = cc
row-spends q n (Ended ended.Spent c) z (inl h) k e = h.2
row-spends q n (Ended ended.Spent c) z (inr (inl h)) k e = h.4
row-spends q n (Ended ended.Spent c) z (inr (inr h)) k e = absurd (subst IsSimpleProgress h.4 k)

slots-spend : (code : Compiled) (r : Rules) (q b : ℕ) (gs : Trees) (w : Slots) (v : core.Slots) → HoldsSlots code r q b gs w v → SlotsAreSimple v → AllByRecursion (Spends q) (rows w)
slots-spend code r q b none no_slot v h k = tt
slots-spend code r q b none (slot x a w) v h k = absurd h
slots-spend code r q b (more g gs) no_slot v h k = absurd h
slots-spend code r q b (more g gs) (slot x a w) v h k =
    let simple = subst SlotsAreSimple h.5 k in
    (row-spends q _ x.stand h.1 h.3.1 simple.1, slots-spend code r q b gs w h.2 h.4 simple.2)

-- a frame that is cleared has none
frame-spends : (code : Compiled) (r : Rules) (q b : ℕ) (gs : Trees) (rd : Round) (w : Slots) (v : core.Slots) → UnlessCleared rd w v (HoldsSlots code r q b gs w v) → SlotsAreSimple v → AllByRecursion (Spends q) (rows w)
frame-spends code r q b gs rd no_slot v h k = tt
frame-spends code r q b gs rd (slot x a w) v h k = slots-spend code r q b gs (slot x a w) v (slot-stands rd x a w v _ h) k

simple-behind : (xs : List Alternative) (l : Alternatives) → AreSimple (before xs l) → AreSimple l
simple-behind [] l h = h
simple-behind (a ∷ xs) l h = simple-behind xs l h.1

-- ---- a verdict that the budget is spent

leftmost-spends : (q : ℕ) (xs : List Row) → AllByRecursion (Spends q) xs → leftmost_ending xs ≡ Some ended.Spent → q ≤ left_edge xs
leftmost-spends q [] all e = cc
leftmost-spends q (x ∷ xs) all e = go (has_answer x) (leftmost-spends q xs all.1) e
  where
    go : (b : Bool) → (leftmost_ending xs ≡ Some ended.Spent → q ≤ left_edge xs) → (if b then leftmost_ending xs else ends x.stand) ≡ Some ended.Spent → q ≤ (if b then cost_at x.stand + left_edge xs else cost_at x.stand)
    go true behind e = let k = behind e in omega (arith, k)
    go false behind e = let k = all.0 e in omega (arith, k)

charged-spends : (q c : ℕ) (v : Verdict) → (v ≡ Spent → q ≤ c) → charged q c v ≡ Spent → q ≤ c
charged-spends q c v h e = go (nat_lt q c) refl e
  where
    go : (b : Bool) → nat_lt q c ≡ b → (if b then Spent else v) ≡ Spent → q ≤ c
    go true is e = let l : q < c = ltb-true q c is in omega arith
    go false is e = h e

module _ (q : ℕ) (xs : List Row) (all : AllByRecursion (Spends q) xs) where
  by-ending : (o : Option Ending) → leftmost_ending xs ≡ o → by_ending q (left_edge xs) o ≡ Spent → q ≤ left_edge xs
  by-ending None is e = cc
  by-ending (Some ended.Failed) is e = cc
  by-ending (Some ended.Spent) is e = leftmost-spends q xs all is
  by-ending (Some ended.Stopped) is e = cc
  by-ending (Some (ended.Raised f)) is e = charged-spends q (left_edge xs) (Raised (left_edge xs) f) (λ k. cc) e

  by-unless : unless_failed q (left_edge xs) xs ≡ Spent → q ≤ left_edge xs
  by-unless e = go (list_all has_answer xs) e
    where
      go : (b : Bool) → (if b then charged q (left_edge xs) (Joined (left_edge xs)) else by_ending q (left_edge xs) (leftmost_ending xs)) ≡ Spent → q ≤ left_edge xs
      go true e = charged-spends q (left_edge xs) (Joined (left_edge xs)) (λ k. cc) e
      go false e = by-ending (leftmost_ending xs) refl e

  by-drains : (o : Option ℕ) → drains q (left_edge xs) o (unless_failed q (left_edge xs) xs) ≡ Spent → q ≤ left_edge xs
  by-drains None e = by-unless e
  by-drains (Some i) e = charged-spends q (left_edge xs) (Drain i (q - left_edge xs)) (λ k. cc) e

  by-after : (ls : List Row) → after_failure q (left_edge xs) ls xs ≡ Spent → q ≤ left_edge xs
  by-after ls e = go (are_harmless ls) (list_all has_answer ls) e
    where
      go : (a b : Bool)
          → (if a then charged q (left_edge xs) (Broken (left_edge xs)) else (if b then drains q (left_edge xs) (rightmost is_loud_with_more ls) (unless_failed q (left_edge xs) xs) else unless_failed q (left_edge xs) xs)) ≡ Spent
          → q ≤ left_edge xs
      go true b e = charged-spends q (left_edge xs) (Broken (left_edge xs)) (λ k. cc) e
      go false true e = by-drains (rightmost is_loud_with_more ls) e
      go false false e = by-unless e

  by-first : (o : Option ℕ) → in_first q (left_edge xs) xs o ≡ Spent → q ≤ left_edge xs
  by-first None e = by-unless e
  by-first (Some j) e = by-after (take j xs) e

  by-later : (b : Bool) → (if b then charged q (left_edge xs) (Broken (left_edge xs)) else unless_failed q (left_edge xs) xs) ≡ Spent → q ≤ left_edge xs
  by-later true e = charged-spends q (left_edge xs) (Broken (left_edge xs)) (λ k. cc) e
  by-later false e = by-unless e

  spent-edge : (rd : Round) → IsQuietRound rd → judged q rd xs ≡ Spent → q ≤ open_cost rd xs
  spent-edge First quiet e = let k = by-first (position has_failed xs) e in let m = edge-least xs in omega (arith, k, m)
  spent-edge (Draining n) quiet e = absurd quiet
  spent-edge (Later i) quiet e = let k = by-later (list_any has_failed xs) e in let m = edge-least xs in omega (arith, k, m)
  spent-edge Closed quiet e = cc

-- a section whose budget is spent owes all of it
pub spent-owes : (code : Compiled) (r : Rules) (n : Tracked) (s : seen.Section) (z : Task) → IsTied code r n s z → IsSpent code s → budget_in s ≤ owed s
spent-owes code r n (section m c b st) z tied (inl h) = let l = h.1 in omega (arith, l)
spent-owes code r n (section m c b bottom) z tied (inr h) = absurd h
spent-owes code r n (section m c b (parcall f q rd w qs st)) z tied (inr h) =
    let holds = tied.holds in
    let stack = holds.5 in
    let all : AreSimple (before holds.1 holds.2) = subst IsSimple holds.6 tied.simple in
    let first = subst AreSimple stack.13 (simple-behind holds.1 holds.2 all) in
    let spends = frame-spends code r q _ _ rd w stack.2 stack.9 first.0 in
    let most = spent-edge q (rows w) spends rd tied.quiet.2 h.1 in
    least rd stack.7 h.1 most
  where
    least : (rd : Round) → IsRest rd q (b - c) → judged q rd (rows w) ≡ Spent → q ≤ open_cost rd (rows w) → b ≤ c + open_cost rd (rows w)
    least First is e k = let same : q ≡ b - c = is in omega (arith, same, k)
    least (Draining i) is e k = let same : q ≡ b - c = is in omega (arith, same, k)
    least (Later i) is e k = let same : q ≡ b - c = is in omega (arith, same, k)
    least Closed is e k = cc

-- ---- a slot is redone

costs-keeping : (n : ℕ) (xs : List Row) (w : Slots) → costs_of (rows (keeping n xs w)) ≤ costs_of xs
costs-keeping n [] w = omega arith
costs-keeping n (x ∷ xs) no_slot = omega arith
costs-keeping zero (x ∷ xs) (slot y h w) = let k = costs-keeping zero xs w in omega (arith, k)
costs-keeping (suc n) (x ∷ xs) (slot y h w) = let k = costs-keeping n xs w in omega (arith, k)

cost-reset : (y : Stand (Unit {0})) → stands_answered y ≡ true → cost_at (without_cost y) ≡ 0
cost-reset (Answered a) h = refl
cost-reset (Replayed k) h = refl
cost-reset Ready h = refl
cost-reset Waiting h = refl
cost-reset (Running r) h = refl
cost-reset (Ended e c) h = cc
cost-reset GivenBack h = refl

none-more : (a b : ℕ) → a ≡ 0 → b ≡ 0 → a + b ≡ 0
none-more a b h k = omega (arith, h, k)

-- those right of it wait
costs-behind : (i n : ℕ) (xs : List Row) → i < n → costs_of (numbered (reset_by i) n xs) ≡ 0
costs-behind i n [] l = refl
costs-behind i n (x ∷ xs) l =
    none-more (cost_at (reset_by i n x).stand) (costs_of (numbered (reset_by i) (n + 1) xs)) (ap (λ o. cost_at (reset o x).stand) (sym (nat_cmp_is n i Greater l))) (costs-behind i (n + 1) xs (omega arith))

-- those left of it have answers, which have cost nothing in the new round
costs-reset : (i n k : ℕ) (xs : List Row) → i ≡ n + k → list_all has_answer (take k xs) ≡ true → costs_of (at_place (standing (Running Redone)) k (numbered (reset_by i) n xs)) ≡ 0
costs-reset i n k [] e h = refl
costs-reset i n zero (x ∷ xs) e h = none-more 0 (costs_of (numbered (reset_by i) (n + 1) xs)) refl (costs-behind i (n + 1) xs (omega (arith, e)))
costs-reset i n (suc k) (x ∷ xs) e h =
    let parts = and_parts (has_answer x) (list_all has_answer (take k xs)) h in
    let less : n < i = omega (arith, e) in
    none-more (cost_at (reset_by i n x).stand) (costs_of (at_place (standing (Running Redone)) k (numbered (reset_by i) (n + 1) xs)))
    (ap (λ o. cost_at (reset o x).stand) (sym (nat_cmp_is n i Less less)) ∙ cost-reset x.stand parts.0) (costs-reset i (n + 1) k xs (omega (arith, e)) parts.1)

costs-taken : (i q d : ℕ) (w : Slots) → 0 < i → list_all has_answer (take (i - 1) (rows w)) ≡ true → costs_of (rows (taken i d q w)) ≤ 0
costs-taken i q d w above h =
    let k = costs-keeping (i - 1) (resumed i d (closed_row q w)).slots w in
    let none = costs-reset i 1 (i - 1) (rows w) (omega (arith, above)) h in
    subst (λ n. costs_of (rows (taken i d q w)) ≤ n) none k

held-closed : (code : Compiled) (i : ℕ) (w : Slots) (a : seen.Section) → AreQuietSlots code w → held_in i w ≡ held a → AreClosed (stack_in a)
held-closed code i no_slot a h e = cc
held-closed code zero (slot x b w) a h e = cc
held-closed code (suc zero) (slot x b w) a h e = go x.stand (subst (HoldsAnswer code x.stand) e h.2)
  where
    go : (y : Stand (Unit {0})) → HoldsAnswer code y (held a) → AreClosed (stack_in a)
    go (Answered z) h = h.2
    go (Replayed k) h = absurd h
    go Ready h = cc
    go Waiting h = cc
    go (Running r) h = cc
    go (Ended z c) h = cc
    go GivenBack h = cc
held-closed code (suc (suc i)) (slot x b w) a h e = held-closed code (suc i) w a h.3 e

-- the section whose slot is redone owes what it did, and the one that goes on has no open frame
pub redone-owes : (code : Compiled) (r : Rules) (n : Tracked) (s : seen.Section) (z : Task) (i : ℕ) (a : seen.Section) → IsTied code r n s z → MayRedo i a s → (owed (with_redone i s) ≤ owed s) × (owed a ≡ spent_in a)
redone-owes code r n (section m c b bottom) z i a tied may = absurd may
redone-owes code r n (section m c b (parcall f q rd w qs st)) z i a tied may =
    let stack = tied.holds.5 in
    let shut = subst (λ d. IsShutIn d (rows w) stack.2) may.1 stack.8 in
    let none = costs-taken i q (b - c) w (rightmost-inside has_more (rows w) i may.2).0 (shut i may.2).0 in
    let closed = held-closed code i w a tied.quiet.3 may.3 in
    (omega (arith, none), alone a (closed-free (stack_in a) closed))
  where
    alone : (a : seen.Section) → frame_cost (stack_in a) ≡ 0 → owed a ≡ spent_in a
    alone (section m c b st) e = omega (arith, e)

-- the slot's section is pushed
pub redone-pays : (p : Post) (s t : Stack) (e : Open) (i : ℕ) → t.outer.items ≡ s.outer.items ++ e ∷ [] → t.share ≡ s.share → IsAtFrame (section_in s) → round_in (section_in s) ≡ Closed → next_redo (rows (slots_in (section_in s))) ≡ Some i
    → is_held (held_in i (slots_in (section_in s))) ≡ true → IsGoneOn (budget_in (section_in s) - spent_in (section_in s)) (held_in i (slots_in (section_in s))) (section_in t) → view_of e.section ≡ taken_in i (section_in s)
    → e.since ≡ spent_in (section_in t) → Pays p s t
redone-pays p s t e i outer share at closed next there on stands since = λ b r o u tie h.
    let code = code_in s in
    let v = section_in s in
    let tied = innermost code r (TiedBeside code r v (away_in p s)) (levels_in p s) o u tie in
    let m = may-redo i v at closed next there (section_in t) on in
    let owes = redone-owes code r tied.0 v tied.1 i m.0 tied.2.1 m.1 in
    let is : view_of e.section ≡ with_redone i v = stands ∙ taken-is i v in
    let below : owed (view_of e.section) ≤ owed v = subst (λ z. owed z ≤ owed v) (sym is) owes.0 in
    let own : owed (section_in t) ≡ spent_in (section_in t) = subst (λ z. owed z ≡ spent_in z) (sym m.2) (gone-owes (rest_in v) m.0 owes.1) in
    let rest-e : rest_in (view_of e.section) ≡ rest_in v = ap rest_in is ∙ rest-redone i v in
    let budget : budget_in (section_in t) ≡ spent_in (section_in t) + rest_in v = subst (λ z. budget_in z ≡ spent_in z + rest_in v) (sym m.2) (budget-gone (rest_in v) m.0) in
    pushed-counts b s t e outer share (ap budget_in is ∙ budget-redone i v) (omega (arith, budget, rest-e, since)) (omega (arith, below, own, since)) h
  where
    gone-owes : (d : ℕ) (a : seen.Section) → owed a ≡ spent_in a → owed (gone_on d a) ≡ spent_in (gone_on d a)
    gone-owes d (section m c b st) e = e

    budget-gone : (d : ℕ) (a : seen.Section) → budget_in (gone_on d a) ≡ spent_in (gone_on d a) + d
    budget-gone d (section m c b st) = refl

    rest-redone : (i : ℕ) (v : seen.Section) → rest_in (with_redone i v) ≡ rest_in v
    rest-redone i (section m c b bottom) = refl
    rest-redone i (section m c b (parcall f q rd w qs st)) = refl

    budget-redone : (i : ℕ) (v : seen.Section) → budget_in (with_redone i v) ≡ budget_in v
    budget-redone i (section m c b bottom) = refl
    budget-redone i (section m c b (parcall f q rd w qs st)) = refl
