-- What a section owes before and behind its moves.
use Rattle.std.proofs.Common.{◌≡◌, ℕ, zero, suc, ◌+◌, ◌-◌, ◌≤◌, Bool, true, false, nat_lt, if◌then◌else◌, List, [], ◌∷◌, take, Option, Some, None, refl, ap, sym, subst, position, arith}
use Rattle.std.specs.List.{list_any, list_all}
use Rattle.ap_term.specs.Tree.{Trees}
use Rattle.ap_frames.specs.declared.frame.Round.{Round}
use Rattle.ap_frames.specs.declared.frame.Round.TheVariants.{First, Draining, Later, Closed}
use Rattle.ap_frames.specs.declared.slots.Ending.{Ending}
use Rattle.ap_frames.specs.declared.slots.Ending.TheVariants as ended
use Rattle.ap_frames.specs.declared.verdict.Verdict.{Verdict}
use Rattle.ap_frames.specs.declared.verdict.Verdict.TheVariants.{Joined, Broken, Drain, Raised, Spent}
use Rattle.ap_frames.specs.Slots.{has_answer, has_failed, is_loud_with_more, cost_of}
use Rattle.ap_frames.specs.Verdicts.{left_edge, ended_cost, leftmost_ending, charge, rightmost, charged, by_ending, unless_failed, are_harmless, drains, after_failure, in_first, judged}
use Rattle.ap_tie.specs.Sections as seen
use Rattle.ap_tie.specs.Sections.{Row, section, Stack, bottom, parcall, rows}
use Rattle.ap_tie.specs.Settled.{AreClosed}
use Rattle.ap_tied.specs.Ties.{stack_in, ready_slots}
use Rattle.ap_section.specs.Views.{spent_in}
use Rattle.ap_section.specs.Slots.{IsAtFrame, verdict_in}
use Rattle.ap_section.specs.Closes.{closed_in, charged_in, IsForgotten, IsBack, HasMetIn}
use Rattle.ap_section.specs.Owed.{costs_of, open_cost, frame_cost, owed, OwesNoMore}

-- ---- where no round is open

pub closed-free : (st : Stack) → AreClosed st → frame_cost st ≡ 0
closed-free bottom h = refl
closed-free (parcall f q First w qs st) h = absurd h
closed-free (parcall f q (Draining n) w qs st) h = absurd h
closed-free (parcall f q (Later i) w qs st) h = absurd h
closed-free (parcall f q Closed w qs st) h = refl

-- nothing is owed beside the calls of its own
pub owes-free : (s t : seen.Section) → frame_cost (stack_in t) ≡ 0 → spent_in s ≤ spent_in t → owed t ≤ owed s + (spent_in t - spent_in s)
owes-free (section m c b st) (section n d e su) free more = omega (arith, free, more)

pub owes-closed : (s t : seen.Section) → AreClosed (stack_in t) → spent_in s ≤ spent_in t → owed t ≤ owed s + (spent_in t - spent_in s)
owes-closed s t closed more = owes-free s t (closed-free (stack_in t) closed) more

pub owes-same : (s t : seen.Section) → t ≡ s → owed t ≤ owed s + (spent_in t - spent_in s)
owes-same s t e = subst (λ z. owed z ≤ owed s + (spent_in z - spent_in s)) (sym e) (more (owed s) (spent_in s - spent_in s))
  where
    more : (a b : ℕ) → a ≤ a + b
    more a b = omega arith

-- slots that are ready have cost nothing
pub ready-free : (n : ℕ) → costs_of (rows (ready_slots n)) ≡ 0
ready-free zero = refl
ready-free (suc n) = ap (λ k. 0 + k) (ready-free n)

-- ---- what is charged by a verdict

pub edge-least : (xs : List Row) → left_edge xs ≤ costs_of xs
edge-least [] = omega arith
edge-least (x ∷ xs) = go (has_answer x) (edge-least xs)
  where
    go : (b : Bool) → left_edge xs ≤ costs_of xs → (if b then cost_of x + left_edge xs else cost_of x) ≤ cost_of x + costs_of xs
    go true h = omega arith
    go false h = omega arith

ended-least : (xs : List Row) → ended_cost xs ≤ costs_of xs
ended-least [] = omega arith
ended-least (x ∷ xs) = go (has_answer x) (ended-least xs)
  where
    go : (b : Bool) → ended_cost xs ≤ costs_of xs → (if b then ended_cost xs else cost_of x) ≤ cost_of x + costs_of xs
    go true h = omega arith
    go false h = omega arith

-- what a verdict charges
abbrev charge_by : Verdict → Option ℕ
charge_by (Joined e) = Some e
charge_by (Broken e) = Some e
charge_by _ = None

-- where it charges anything it is c
abbrev Charges : ℕ → Verdict → Type 0
Charges c v = (e : ℕ) → charge_by v ≡ Some e → e ≡ c

charges-charged : (r c : ℕ) (v : Verdict) → Charges c v → Charges c (charged r c v)
charges-charged r c v h = go (nat_lt r c)
  where
    go : (b : Bool) → Charges c (if b then Spent else v)
    go true = λ e k. cc
    go false = h

charges-ending : (r c : ℕ) (o : Option Ending) → Charges c (by_ending r c o)
charges-ending r c None = λ e k. cc
charges-ending r c (Some ended.Failed) = λ e k. cc
charges-ending r c (Some ended.Spent) = λ e k. cc
charges-ending r c (Some ended.Stopped) = λ e k. cc
charges-ending r c (Some (ended.Raised f)) = charges-charged r c (Raised c f) (λ e k. cc)

charges-unless : (r c : ℕ) (xs : List Row) → Charges c (unless_failed r c xs)
charges-unless r c xs = go (list_all has_answer xs)
  where
    go : (b : Bool) → Charges c (if b then charged r c (Joined c) else by_ending r c (leftmost_ending xs))
    go true = charges-charged r c (Joined c) (λ e k. cc)
    go false = charges-ending r c (leftmost_ending xs)

charges-drains : (r c : ℕ) (o : Option ℕ) (v : Verdict) → Charges c v → Charges c (drains r c o v)
charges-drains r c None v h = h
charges-drains r c (Some i) v h = charges-charged r c (Drain i (r - c)) (λ e k. cc)

charges-after : (r c : ℕ) (ls xs : List Row) → Charges c (after_failure r c ls xs)
charges-after r c ls xs = go (are_harmless ls) (list_all has_answer ls)
  where
    go : (a b : Bool) → Charges c (if a then charged r c (Broken c) else (if b then drains r c (rightmost is_loud_with_more ls) (unless_failed r c xs) else unless_failed r c xs))
    go true b = charges-charged r c (Broken c) (λ e k. cc)
    go false true = charges-drains r c (rightmost is_loud_with_more ls) (unless_failed r c xs) (charges-unless r c xs)
    go false false = charges-unless r c xs

charges-first : (r c : ℕ) (xs : List Row) (o : Option ℕ) → Charges c (in_first r c xs o)
charges-first r c xs None = charges-unless r c xs
charges-first r c xs (Some j) = charges-after r c (take j xs) xs

charges-later : (r c : ℕ) (xs : List Row) (b : Bool) → Charges c (if b then charged r c (Broken c) else unless_failed r c xs)
charges-later r c xs true = charges-charged r c (Broken c) (λ e k. cc)
charges-later r c xs false = charges-unless r c xs

-- no more than its slots have cost
pub charges-least : (q : ℕ) (rd : Round) (xs : List Row) (e : ℕ) → charge_by (judged q rd xs) ≡ Some e → e ≤ open_cost rd xs
charges-least q First xs e h =
    let is = charges-first q (charge First xs) xs (position has_failed xs) e h in
    let most = edge-least xs in
    omega (arith, is, most)
charges-least q (Draining n) xs e h =
    let is = charges-first q (charge (Draining n) xs) xs (position has_failed xs) e h in
    let most = ended-least xs in
    omega (arith, is, most)
charges-least q (Later j) xs e h =
    let is = charges-later q (charge (Later j) xs) xs (list_any has_failed xs) e h in
    let most = edge-least xs in
    omega (arith, is, most)
charges-least q Closed xs e h = cc

-- ---- the frame that comes first is settled

le-same : (n : ℕ) → n ≤ n
le-same n = omega arith

pub no-more-same : (s : seen.Section) → OwesNoMore s s
no-more-same s = record { budget = refl; owes = le-same (owed s) }

pub no-more-back : (s t : seen.Section) → IsBack s t → OwesNoMore s t
no-more-back (section m c b bottom) t k = absurd k
no-more-back (section m c b (parcall f q rd w qs st)) t (n, h, cells, e) = subst (OwesNoMore (section m c b (parcall f q rd w qs st))) (sym e) (record { budget = refl; owes = le-same (c + open_cost rd (rows w)) })

least-closed : (c e k : ℕ) → e ≤ k → (c + e) + 0 ≤ c + k
least-closed c e k h = omega arith

pub no-more-joined : (s t : seen.Section) (e : ℕ) (ts : List Trees) → verdict_in s ≡ Joined e → HasMetIn s ts t → OwesNoMore s (closed_in (charged_in e t))
no-more-joined (section m c b bottom) t e ts v k = absurd k
no-more-joined (section m c b (parcall f q rd w qs st)) t e ts v (n, met, is) =
    subst (λ x. OwesNoMore (section m c b (parcall f q rd w qs st)) (closed_in (charged_in e x))) (sym is)
    (record { budget = refl; owes = least-closed c e (open_cost rd (rows w)) (charges-least q rd (rows w) e (ap charge_by v)) })

pub no-more-closed : (s : seen.Section) (e : ℕ) → IsAtFrame s → verdict_in s ≡ Broken e → OwesNoMore s (closed_in (charged_in e s))
no-more-closed (section m c b bottom) e at v = absurd at
no-more-closed (section m c b (parcall f q rd w qs st)) e at v =
    record { budget = refl; owes = least-closed c e (open_cost rd (rows w)) (charges-least q rd (rows w) e (ap charge_by v)) }

-- the frames behind the first one are closed
abbrev pub AreClosedBehind : Stack → Type 0
AreClosedBehind bottom = Unit {0}
AreClosedBehind (parcall f q rd w qs st) = AreClosed st

pub no-more-forgotten : (s t : seen.Section) (e : ℕ) → AreClosedBehind (stack_in s) → verdict_in s ≡ Broken e → IsForgotten (charged_in e s) t → OwesNoMore s t
no-more-forgotten (section m c b bottom) t e behind v k = absurd k
no-more-forgotten (section m c b (parcall f q rd w qs st)) t e behind v (n, h, is) =
    subst (OwesNoMore (section m c b (parcall f q rd w qs st))) (sym is) (record { budget = refl; owes = least })
  where
    least : (c + e) + frame_cost st ≤ c + open_cost rd (rows w)
    least =
        let free = closed-free st behind in
        let most = charges-least q rd (rows w) e (ap charge_by v) in
        omega (arith, free, most)
