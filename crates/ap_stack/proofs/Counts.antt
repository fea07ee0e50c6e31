-- Whether a search's share counts what its sections owe, behind each of its moves.
use Rattle.std.proofs.Common.{◌≡◌, ℕ, zero, suc, ◌+◌, ◌-◌, ◌≤◌, true, false, List, [], ◌∷◌, ◌++◌, refl, ap, sym, ◌∙◌, subst, arith, rules}
use Rattle.ap_ledger.specs.Counts.{capped}
use Rattle.ap_frames.specs.declared.frame.Round.{Round}
use Rattle.ap_frames.specs.declared.frame.Round.TheVariants.{First, Draining, Later, Closed}
use Rattle.ap_frames.specs.declared.slots.Stand.{Stand}
use Rattle.ap_frames.specs.declared.slots.Stand.TheVariants.{Ready, Waiting, Running, Answered, Replayed, Ended, GivenBack}
use Rattle.ap_frames.specs.declared.slots.Run.TheVariants as runs
use Rattle.ap_frames.specs.declared.slots.Ending.TheVariants as ended
use Rattle.ap_frames.specs.Slots.{cost_at}
use Rattle.ap_frames.specs.Rows.{stopped}
use Rattle.ap_frames.specs.Rounds.{readied_stand}
use Rattle.ap_instr.specs.Code.{Compiled}
use Rattle.ap_term.specs.Tree.{Trees}
use Rattle.ap_tie.specs.Sections as seen
use Rattle.ap_tie.specs.Sections.{section, bottom, parcall, Slots, no_slot, slot, Held, nothing, held, rows}
use Rattle.ap_tie.specs.Settled.{AreClosed}
use Rattle.ap_tied.specs.Ties.{stack_in}
use Rattle.ap_tied.specs.SlotCalls.{stood_in, stood, readied_behind, answered}
use Rattle.ap_open.specs.Away.{returned}
use Rattle.ap_open.specs.Opened as opened
use Rattle.ap_open.specs.Opened.{rest_in}
use Rattle.ap_open.specs.Calling.{IsDone}
use Rattle.ap_open.specs.Solving.{past_answer}
use Rattle.ap_section.specs.Ends.{Begins}
use Rattle.ap_section.specs.Views.{view_of, spent_in, budget_in}
use Rattle.ap_section.specs.Slots.{readied_in}
use Rattle.ap_section.specs.Owed.{costs_of, open_cost, frame_cost, owed, OwesNoMore}
use Rattle.ap_section.proofs.Owed.{closed-free}
use Rattle.ap_post.specs.declared.post.Post.{Post}
use Rattle.ap_post.specs.declared.outcome.Ending.{Ending}
use Rattle.ap_post.specs.declared.outcome.Ending.TheVariants.{Answer, Failed, Spent, Stopped, NoMemory}
use Rattle.ap_post.specs.declared.outcome.Ending.TheVariants as came
use Rattle.ap_post.specs.Jobs.{outcome_of, cost_by}
use Rattle.ap_stack.specs.declared.stack.Open.{Open}
use Rattle.ap_stack.specs.declared.stack.Stack.{Stack}
use Rattle.ap_stack.specs.Counts.{owed_by, AreGiven, Counts}
use Rattle.ap_stack.specs.Stacks.{section_in, Pays}

-- ---- counts of 64 bits

pub capped-less : (a b n : ℕ) → a ≤ b → capped b ≤ n → capped a ≤ n
capped-less a b n h k = search rules

pub capped-more : (n d share : ℕ) → capped n ≤ share → capped (n + d) ≤ capped (share + d)
capped-more n d share h = search rules

pub capped-both : (n d a b : ℕ) → capped n ≤ a → capped d ≤ b → capped (n + d) ≤ capped (a + b)
capped-both n d a b h k = search rules

plus-none : (n share : ℕ) → capped n ≤ share → capped (n + 0) ≤ share
plus-none n share h = search rules

-- ---- what all sections owe

pub le-then : (a b c : ℕ) → a ≤ b → b ≤ c → a ≤ c
le-then a b c h k = omega arith

pub owed-less : (es : List Open) (m n : ℕ) → m ≤ n → owed_by es m ≤ owed_by es n
owed-less [] m n h = h
owed-less (e ∷ es) m n h = let k : owed_by es m ≤ owed_by es n = owed-less es m n h in omega arith

owed-more : (es : List Open) (m d : ℕ) → owed_by es (m + d) ≤ owed_by es m + d
owed-more [] m d = omega arith
owed-more (e ∷ es) m d = let k : owed_by es (m + d) ≤ owed_by es m + d = owed-more es m d in omega arith

owed-last : (es : List Open) (e : Open) (n : ℕ) → owed_by (es ++ e ∷ []) n ≡ owed_by es (owed (view_of e.section) + (n - e.since))
owed-last [] e n = refl
owed-last (x ∷ es) e n = ap (λ k. owed (view_of x.section) + (k - x.since)) (owed-last es e n)

given-last : (b : ℕ) (es : List Open) (e : Open) (n : ℕ) → AreGiven b (es ++ e ∷ []) n → AreGiven b es (budget_in (view_of e.section)) × (n ≡ e.since + rest_in (view_of e.section))
given-last b [] e n h = h
given-last b (x ∷ es) e n h = let r = given-last (x.since + rest_in (view_of x.section)) es e n h.1 in ((h.0, r.0), r.1)

given-more : (b : ℕ) (es : List Open) (e : Open) (n : ℕ) → AreGiven b es (budget_in (view_of e.section)) → n ≡ e.since + rest_in (view_of e.section) → AreGiven b (es ++ e ∷ []) n
given-more b [] e n h k = (h, k)
given-more b (x ∷ es) e n h k = (h.0, given-more (x.since + rest_in (view_of x.section)) es e n h.1 k)

-- ---- the newest section moves

pub counted : (b : ℕ) (s t : Stack) (d : ℕ) → t.outer.items ≡ s.outer.items → budget_in (section_in t) ≡ budget_in (section_in s) → owed (section_in t) ≤ owed (section_in s) + d
    → ((n : ℕ) → capped n ≤ s.share → capped (n + d) ≤ t.share) → Counts b s → Counts b t
counted b s t d outer budget owes share h =
    let es = s.outer.items in
    let most = le-then (owed_by es (owed (section_in t))) (owed_by es (owed (section_in s) + d)) (owed_by es (owed (section_in s)) + d) (owed-less es _ _ owes) (owed-more es (owed (section_in s)) d) in
    record {
      given = subst (λ xs. AreGiven b xs (budget_in (section_in t))) (sym outer) (subst (AreGiven b es) (sym budget) h.given);
      paid = subst (λ xs. capped (owed_by xs (owed (section_in t))) ≤ t.share) (sym outer)
          (capped-less (owed_by es (owed (section_in t))) (owed_by es (owed (section_in s)) + d) t.share most (share (owed_by es (owed (section_in s))) h.paid));
    }

plus-same : (n : ℕ) → n ≡ n + 0
plus-same n = omega arith

-- it makes calls that the share counts
pub went-pays : (p : Post) (s t : Stack) → t.outer.items ≡ s.outer.items → budget_in (section_in t) ≡ budget_in (section_in s)
    → owed (section_in t) ≤ owed (section_in s) + (spent_in (section_in t) - spent_in (section_in s)) → t.share ≡ capped (s.share + (spent_in (section_in t) - spent_in (section_in s))) → Pays p s t
went-pays p s t outer budget owes share = λ b r o u tie h.
    let d = spent_in (section_in t) - spent_in (section_in s) in
    counted b s t d outer budget owes (λ n k. subst (λ m. capped (n + d) ≤ m) (sym share) (capped-more n d s.share k)) h

-- it owes no more than it did
pub stays-pays : (p : Post) (s t : Stack) → t.outer.items ≡ s.outer.items → t.share ≡ s.share → OwesNoMore (section_in s) (section_in t) → Pays p s t
stays-pays p s t outer share less = λ b r o u tie h.
    counted b s t 0 outer less.budget (subst (λ m. owed (section_in t) ≤ m) (plus-same (owed (section_in s))) less.owes) (λ n k. subst (λ m. capped (n + 0) ≤ m) (sym share) (plus-none n s.share k)) h

-- ---- one section more, or less

pub pushed-counts : (b : ℕ) (s t : Stack) (e : Open) → t.outer.items ≡ s.outer.items ++ e ∷ [] → t.share ≡ s.share → budget_in (view_of e.section) ≡ budget_in (section_in s)
    → budget_in (section_in t) ≡ e.since + rest_in (view_of e.section) → owed (view_of e.section) + (owed (section_in t) - e.since) ≤ owed (section_in s) → Counts b s → Counts b t
pushed-counts b s t e outer share budget rest owes h =
    let es = s.outer.items in
    let n = owed (section_in t) in
    let least : owed_by (es ++ e ∷ []) n ≤ owed_by es (owed (section_in s)) = subst (λ m. m ≤ owed_by es (owed (section_in s))) (sym (owed-last es e n)) (owed-less es _ _ owes) in
    record {
      given = subst (λ xs. AreGiven b xs (budget_in (section_in t))) (sym outer) (given-more b es e (budget_in (section_in t)) (subst (AreGiven b es) (sym budget) h.given) rest);
      paid = subst (λ m. capped (owed_by t.outer.items n) ≤ m) (sym share)
          (subst (λ xs. capped (owed_by xs n) ≤ s.share) (sym outer) (capped-less (owed_by (es ++ e ∷ []) n) (owed_by es (owed (section_in s))) s.share least h.paid));
    }

pub popped-counts : (b : ℕ) (s t : Stack) (es : List Open) (e : Open) → s.outer.items ≡ es ++ e ∷ [] → t.outer.items ≡ es → t.share ≡ s.share → budget_in (section_in t) ≡ budget_in (view_of e.section)
    → (budget_in (section_in s) ≡ e.since + rest_in (view_of e.section) → owed (section_in t) ≤ owed (view_of e.section) + (owed (section_in s) - e.since)) → Counts b s → Counts b t
popped-counts b s t es e was is share budget owes h =
    let given = given-last b es e (budget_in (section_in s)) (subst (λ xs. AreGiven b xs (budget_in (section_in s))) was h.given) in
    let n = owed (section_in t) in
    let least : owed_by es n ≤ owed_by (es ++ e ∷ []) (owed (section_in s)) = subst (λ m. owed_by es n ≤ m) (sym (owed-last es e (owed (section_in s)))) (owed-less es _ _ (owes given.1)) in
    record {
      given = subst (λ xs. AreGiven b xs (budget_in (section_in t))) (sym is) (subst (AreGiven b es) (sym budget) given.0);
      paid = subst (λ m. capped (owed_by t.outer.items n) ≤ m) (sym share)
          (subst (λ xs. capped (owed_by xs n) ≤ s.share) (sym is)
          (capped-less (owed_by es n) (owed_by (es ++ e ∷ []) (owed (section_in s))) s.share least (subst (λ xs. capped (owed_by xs (owed (section_in s))) ≤ s.share) was h.paid)));
    }

-- ---- a section further out changes

owed-with : (before : List Open) (e d : Open) (after : List Open) (n c : ℕ) → d.since ≡ e.since → owed (view_of d.section) ≤ owed (view_of e.section) + c → owed_by (before ++ d ∷ after) n ≤ owed_by (before ++ e ∷ after) n + c
owed-with [] e d after n c since owes = omega (arith, since, owes)
owed-with (x ∷ before) e d after n c since owes = let k = owed-with before e d after n c since owes in omega (arith, k)

given-with : (b : ℕ) (before : List Open) (e d : Open) (after : List Open) (n : ℕ) → d.since ≡ e.since → budget_in (view_of d.section) ≡ budget_in (view_of e.section) → rest_in (view_of d.section) ≡ rest_in (view_of e.section)
    → AreGiven b (before ++ e ∷ after) n → AreGiven b (before ++ d ∷ after) n
given-with b [] e d after n since budget rest h = (
  budget ∙ h.0,
  subst (λ k. AreGiven (k + rest_in (view_of d.section)) after n) (sym since) (subst (λ k. AreGiven (e.since + k) after n) (sym rest) h.1),
)
given-with b (x ∷ before) e d after n since budget rest h = (h.0, given-with (x.since + rest_in (view_of x.section)) before e d after n since budget rest h.1)

-- it owes so much more at most, which the share counts
pub outer-counts : (b : ℕ) (s t : Stack) (before : List Open) (e d : Open) (after : List Open) (c : ℕ) → s.outer.items ≡ before ++ e ∷ after → t.outer.items ≡ before ++ d ∷ after → t.newest ≡ s.newest → d.since ≡ e.since
    → budget_in (view_of d.section) ≡ budget_in (view_of e.section) → rest_in (view_of d.section) ≡ rest_in (view_of e.section) → owed (view_of d.section) ≤ owed (view_of e.section) + c
    → ((n : ℕ) → capped n ≤ s.share → capped (n + c) ≤ t.share) → Counts b s → Counts b t
outer-counts b s t before e d after c was is newest since budget rest owes share h =
    let given : AreGiven b (before ++ e ∷ after) (budget_in (section_in s)) = subst (λ xs. AreGiven b xs (budget_in (section_in s))) was h.given in
    let paid : capped (owed_by (before ++ e ∷ after) (owed (section_in s))) ≤ s.share = subst (λ xs. capped (owed_by xs (owed (section_in s))) ≤ s.share) was h.paid in
    let n = owed (section_in s) in
    let paid' : capped (owed_by (before ++ d ∷ after) n) ≤ t.share =
    capped-less (owed_by (before ++ d ∷ after) n) (owed_by (before ++ e ∷ after) n + c) t.share (owed-with before e d after n c since owes) (share (owed_by (before ++ e ∷ after) n) paid) in
    record {
      given = subst (λ x. AreGiven b t.outer.items (budget_in (view_of x))) (sym newest)
          (subst (λ xs. AreGiven b xs (budget_in (section_in s))) (sym is) (given-with b before e d after (budget_in (section_in s)) since budget rest given));
      paid = subst (λ x. capped (owed_by t.outer.items (owed (view_of x))) ≤ t.share) (sym newest) (subst (λ xs. capped (owed_by xs n) ≤ t.share) (sym is) paid');
    }

-- with the same share
pub outer-stays : (b : ℕ) (s t : Stack) (before : List Open) (e d : Open) (after : List Open) → s.outer.items ≡ before ++ e ∷ after → t.outer.items ≡ before ++ d ∷ after → t.newest ≡ s.newest → t.share ≡ s.share → d.since ≡ e.since
    → rest_in (view_of d.section) ≡ rest_in (view_of e.section) → OwesNoMore (view_of e.section) (view_of d.section) → Counts b s → Counts b t
outer-stays b s t before e d after was is newest share since rest less h =
    outer-counts b s t before e d after 0 was is newest since less.budget rest (subst (λ m. owed (view_of d.section) ≤ m) (plus-same (owed (view_of e.section))) less.owes)
    (λ n k. subst (λ m. capped (n + 0) ≤ m) (sym share) (plus-none n s.share k)) h

-- ---- a slot stands otherwise

pub rest-stood : (i : ℕ) (e : Stand (Unit {0})) (a : Held) (s : seen.Section) → rest_in (stood i e a s) ≡ rest_in s
rest-stood i e a (section m c b st) = refl

pub rest-readied : (i : ℕ) (s : seen.Section) → rest_in (readied_in i s) ≡ rest_in s
rest-readied i (section m c b st) = refl

costs-stood : (i : ℕ) (e : Stand (Unit {0})) (a : Held) (w : Slots) → costs_of (rows (stood_in i e a w)) ≤ costs_of (rows w) + cost_at e
costs-stood i e a no_slot = omega arith
costs-stood zero e a (slot x h w) = omega arith
costs-stood (suc zero) e a (slot x h w) = omega arith
costs-stood (suc (suc i)) e a (slot x h w) = let k = costs-stood (suc i) e a w in omega (arith, k)

round-less : (rd : Round) (c k d : ℕ) (xs ys : List seen.Row) → costs_of ys ≤ costs_of xs + d → c + open_cost rd ys ≤ (c + open_cost rd xs) + d
round-less First c k d xs ys h = omega (arith, h)
round-less (Draining n) c k d xs ys h = omega (arith, h)
round-less (Later i) c k d xs ys h = omega (arith, h)
round-less Closed c k d xs ys h = omega arith

-- it owes what that slot has cost, too
pub owed-stood : (i : ℕ) (e : Stand (Unit {0})) (a : Held) (s : seen.Section) → owed (stood i e a s) ≤ owed s + cost_at e
owed-stood i e a (section m c b bottom) = omega arith
owed-stood i e a (section m c b (parcall f q rd w qs st)) = round-less rd c 0 (cost_at e) (rows w) (rows (stood_in i e a w)) (costs-stood i e a w)

pub budget-stood : (i : ℕ) (e : Stand (Unit {0})) (a : Held) (s : seen.Section) → budget_in (stood i e a s) ≡ budget_in s
budget-stood i e a (section m c b st) = refl

-- a slot that has cost nothing yet
pub no-more-stood : (i : ℕ) (e : Stand (Unit {0})) (a : Held) (s t : seen.Section) → cost_at e ≡ 0 → t ≡ stood i e a s → OwesNoMore s t
no-more-stood i e a s t free is = subst (OwesNoMore s) (sym is) (record { budget = budget-stood i e a s; owes = least })
  where
    least : owed (stood i e a s) ≤ owed s
    least = let k = owed-stood i e a s in omega (arith, k, free)

costs-readied : (i : ℕ) (w : Slots) → costs_of (rows (readied_behind i w)) ≡ costs_of (rows w)
costs-readied i no_slot = refl
costs-readied zero (slot x h w) = ap (λ n. n + costs_of (rows (readied_behind zero w))) (same x.stand) ∙ ap (λ n. cost_at x.stand + n) (costs-readied zero w)
  where
    same : (y : Stand (Unit {0})) → cost_at (readied_stand y) ≡ cost_at y
    same Ready = refl
    same Waiting = refl
    same (Running r) = refl
    same (Answered a) = refl
    same (Replayed k) = refl
    same (Ended e c) = refl
    same GivenBack = refl
costs-readied (suc i) (slot x h w) = ap (λ n. cost_at x.stand + n) (costs-readied i w)

pub no-more-readied : (i : ℕ) (s t : seen.Section) → t ≡ readied_in i s → OwesNoMore s t
no-more-readied i s t is = subst (OwesNoMore s) (sym is) (same s)
  where
    least : (a b : ℕ) → a ≡ b + 0 → a ≤ b
    least a b e = omega (arith, e)

    most : (rd : Round) (c : ℕ) (w : Slots) → c + open_cost rd (rows (readied_behind i w)) ≤ c + open_cost rd (rows w)
    most First c w = let e = costs-readied i w in omega (arith, e)
    most (Draining n) c w = let e = costs-readied i w in omega (arith, e)
    most (Later j) c w = let e = costs-readied i w in omega (arith, e)
    most Closed c w = omega arith

    same : (s : seen.Section) → OwesNoMore s (readied_in i s)
    same (section m c b bottom) = record { budget = refl; owes = omega arith }
    same (section m c b (parcall f q rd w qs st)) = record { budget = refl; owes = most rd c w }

-- ---- an outcome comes back

pub owed-returned : (i r : ℕ) (e : Ending) (s : seen.Section) → r ≡ rest_in s → owed (returned i (outcome_of e) s) ≤ owed s + cost_by r e
owed-returned i r (Answer x spent more) s is = owed-stood i (answered spent more) (held (view_of x)) s
owed-returned i r (Failed spent) s is = owed-stood i (Ended ended.Failed spent) nothing s
owed-returned i r Spent s is = subst (λ n. owed (returned i (outcome_of Spent) s) ≤ owed s + n) (sym is) (owed-stood i (Ended ended.Spent (rest_in s)) nothing s)
owed-returned i r (Stopped spent) s is = owed-stood i (stopped (Unit {0}) true spent) nothing s
owed-returned i r came.GivenBack s is = owed-stood i (stopped (Unit {0}) false 0) nothing s
owed-returned i r NoMemory s is = owed-stood i (stopped (Unit {0}) false 0) nothing s

pub budget-returned : (i : ℕ) (e : Ending) (s : seen.Section) → budget_in (returned i (outcome_of e) s) ≡ budget_in s
budget-returned i (Answer x spent more) s = budget-stood i (answered spent more) (held (view_of x)) s
budget-returned i (Failed spent) s = budget-stood i (Ended ended.Failed spent) nothing s
budget-returned i Spent s = budget-stood i (Ended ended.Spent (rest_in s)) nothing s
budget-returned i (Stopped spent) s = budget-stood i (stopped (Unit {0}) true spent) nothing s
budget-returned i came.GivenBack s = budget-stood i (stopped (Unit {0}) false 0) nothing s
budget-returned i NoMemory s = budget-stood i (stopped (Unit {0}) false 0) nothing s

-- ---- a section ends for the one outside of it

closed-counts : (st : seen.Stack) → AreClosed st → (c : ℕ) → c + frame_cost st ≡ c
closed-counts st h c = let k = closed-free st h in omega (arith, k)

-- where all its frames are closed it owes its own calls
pub closed-owes : (s : seen.Section) → AreClosed (stack_in s) → owed s ≡ opened.spent_in s
closed-owes (section m c b st) h = closed-counts st h c

pub done-owes : (s : seen.Section) → IsDone s → owed s ≡ opened.spent_in s
done-owes s h = closed-owes s (subst AreClosed (sym h.stack) tt)

-- a slot that stands so has cost what the section that ran it owes
pub ended-owes : (i : ℕ) (e : Stand (Unit {0})) (a : Held) (v s t : seen.Section) (since : ℕ) → cost_at e ≡ opened.spent_in s - since → owed s ≡ opened.spent_in s → t ≡ stood i e a v → owed t ≤ owed v + (owed s - since)
ended-owes i e a v s t since cost own is =
    let k = owed-stood i e a v in
    let l : owed (stood i e a v) ≤ owed v + (owed s - since) = omega (arith, k, cost, own) in
    subst (λ z. owed z ≤ owed v + (owed s - since)) (sym is) l

-- it counts with all that was left, and the section owes its whole budget
pub spent-ended : (i : ℕ) (v s t : seen.Section) (since : ℕ) → budget_in s ≤ owed s → t ≡ stood i (Ended ended.Spent (rest_in v)) nothing v → budget_in s ≡ since + rest_in v → owed t ≤ owed v + (owed s - since)
spent-ended i v s t since owes is given =
    let k = owed-stood i (Ended ended.Spent (rest_in v)) nothing v in
    let l : owed (stood i (Ended ended.Spent (rest_in v)) nothing v) ≤ owed v + (owed s - since) = omega (arith, k, owes, given) in
    subst (λ z. owed z ≤ owed v + (owed s - since)) (sym is) l

-- ---- a section begins

pub begun-counts : (b : ℕ) (s t : Stack) (e : Open) (i : ℕ) (code : Compiled) (ts : Trees) (number rest : ℕ) → t.outer.items ≡ s.outer.items ++ e ∷ [] → t.share ≡ s.share → e.since ≡ 0
    → view_of e.section ≡ stood i (Running runs.First) nothing (section_in s) → Begins code ts number rest (section_in t) → rest ≡ budget_in (section_in s) - spent_in (section_in s) → Counts b s → Counts b t
begun-counts b s t e i code ts number rest outer share since stands begins left h =
    let now : section_in t ≡ section begins.0.machine 0 rest bottom = begins.3 in
    let less = no-more-stood i (Running runs.First) nothing (section_in s) (view_of e.section) refl stands in
    let none : owed (section_in t) ≡ 0 = ap owed now in
    let budget : budget_in (section_in t) ≡ rest = ap budget_in now in
    let rest-e : rest_in (view_of e.section) ≡ rest_in (section_in s) = ap rest_in stands ∙ rest-stood i (Running runs.First) nothing (section_in s) in
    let own = rest-is (section_in s) in
    let owes = less.owes in
    pushed-counts b s t e outer share less.budget (omega (arith, budget, left, own, rest-e, since)) (omega (arith, none, owes)) h
  where
    rest-is : (s : seen.Section) → budget_in s - spent_in s ≡ rest_in s
    rest-is (section m c b st) = refl

-- ---- a search begins

pub fresh-counts : (b : ℕ) (s : Stack) → s.outer.items ≡ [] → budget_in (section_in s) ≡ b → owed (section_in s) ≡ 0 → Counts b s
fresh-counts b s only budget owes = record {
  given = subst (λ es. AreGiven b es (budget_in (section_in s))) (sym only) budget;
  paid = subst (λ es. capped (owed_by es (owed (section_in s))) ≤ s.share) (sym only) (subst (λ n. capped n ≤ s.share) (sym owes) (search rules));
}

-- the newest section goes past an answer
pub past-counts : (b : ℕ) (s t : Stack) → t.outer.items ≡ s.outer.items → section_in t ≡ past_answer (section_in s) → t.share ≡ s.share → Counts b s → Counts b t
past-counts b s t outer past share h = counted b s t 0 outer (ap budget_in past ∙ budget-past (section_in s)) (owed-past (section_in s) (section_in t) past) (λ n k. subst (λ m. capped (n + 0) ≤ m) (sym share) (plus-none n s.share k)) h
  where
    budget-past : (s : seen.Section) → budget_in (past_answer s) ≡ budget_in s
    budget-past (section m c b st) = refl

    least : (a b : ℕ) → a ≡ b → a ≤ b + 0
    least a b e = omega (arith, e)

    same-past : (s : seen.Section) → owed (past_answer s) ≡ owed s
    same-past (section m c b st) = refl

    owed-past : (s t : seen.Section) → t ≡ past_answer s → owed t ≤ owed s + 0
    owed-past s t e = least (owed t) (owed s) (ap owed e ∙ same-past s)
