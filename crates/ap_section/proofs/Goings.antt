-- What it is in the core that a section's first frame is settled.
use Rattle.std.proofs.Common.{◌≡◌, ◌∙◌, inr, ℕ, ◌+◌, ◌-◌, List, [], ◌∷◌, ◌++◌, ap, sym, subst, refl, Some, None, Option, true, false, get_or, Result, Ok, Err, arith}
use Rattle.std.specs.Prelude.{IfOk, IfSome}
use Rattle.std.specs.List.{list_any}
use Rattle.ap_term.specs.Tree.{Trees}
use Rattle.ap_core.specs.Tasks.{Task}
use Rattle.ap_frames.specs.declared.frame.Round.{Round}
use Rattle.ap_frames.specs.declared.frame.Round.TheVariants.{First, Draining, Later, Closed}
use Rattle.ap_frames.specs.declared.verdict.Verdict.TheVariants.{Joined as JoinedBy, Broken as BrokenBy}
use Rattle.ap_frames.specs.declared.slots.Slot.{Slot}
use Rattle.ap_frames.specs.declared.slots.Stand.{Stand}
use Rattle.ap_frames.specs.declared.slots.Stand.TheVariants.{Ready, Waiting, Running, Answered, Replayed, Ended, GivenBack}
use Rattle.ap_frames.specs.Slots.{is_running}
use Rattle.ap_instr.specs.Code.{Compiled}
use Rattle.ap_tracked.specs.Tracked.{Tracked}
use Rattle.ap_group.specs.Groups.{Forked}
use Rattle.ap_standing.specs.Machine.{Point, Machine, returning, failed}
use Rattle.ap_standing.specs.Holds.{Holds, AreOpen, HoldsPoints}
use Rattle.ap_standing.proofs.Machines.{failed-points, points-failed}
use Rattle.ap_tie.specs.Sections as seen
use Rattle.ap_tie.specs.Sections.{section, Stack, bottom, parcall, Slots, slot, nothing, held, rows, machine_in}
use Rattle.ap_tie.specs.Settled.{HasFailed}
use Rattle.ap_tie.specs.Tied.{HoldsStack}
use Rattle.ap_tied.specs.Ties.{Goes, IsQuietStack, IsInRound, stack_in}
use Rattle.ap_tied.specs.Settling.{IsAnswerIn, AreAnswersOf, IsRedoable, SettlingLaw}
use Rattle.ap_frames.specs.declared.frame.Frame.{Frame}
use Rattle.ap_section.specs.declared.section.Section.{Section, out-Section}
use Rattle.ap_section.specs.Lending.{count_in}
use Rattle.ap_section.proofs.Newest.{top-at, slots-at}
use Rattle.ap_section.specs.Slots.{IsAtFrame, verdict_in, slots_in, closed_stack}
use Rattle.ap_section.specs.Views.{view_of, row_of, spent_in, budget_in}
use Rattle.ap_section.specs.Settles.{HasCharged}
use Rattle.ap_section.specs.Closes.{closed_in, charged_in, IsForgotten, IsBack, HasMetIn, CannotMeet, stays_in, IsHeldAnswer, IsStandAnswer, AreSlotAnswers}
use Rattle.ap_section.proofs.Levels.{slots_now, held_own, held_now}

-- ---- nothing happens

pub stays-there : (code : Compiled) (s : seen.Section) → Goes code s s
stays-there code s = λ p o t h k. ([], t, refl, k)

same-round : (m n : Machine) (c b : ℕ) (f : Forked) (q : ℕ) (rd : Round) (w : Slots) (qs : List Point) (st : Stack) (t : Task) → IsInRound (section m c b (parcall f q rd w qs st)) t → IsInRound (section n c b (parcall f q rd w qs st)) t
same-round m n c b f q First w qs st t h = tt
same-round m n c b f q (Draining k) w qs st t h = tt
same-round m n c b f q (Later i) w qs st t h = h
same-round m n c b f q Closed w qs st t h = tt

-- the search stands for the same states at the fork
same-states : (code : Compiled) (m n : Machine) (ss : List Tracked) → HasFailed m.roots [] m → HasFailed m.roots [] n → Holds code m ss → Holds code n ss
same-states code m n ss h k holds =
    let points : HoldsPoints code m.roots [] ss = subst (λ qs. HoldsPoints code m.roots qs ss) h.points (failed-points code m h.now ss holds) in
    points-failed code n k.now (subst (AreOpen code) (sym k.returns) tt) ss
    (subst (λ qs. HoldsPoints code n.roots qs ss) (sym k.points) (subst (λ rs. HoldsPoints code rs [] ss) (sym k.roots_stay) points))

pub goes-back : (code : Compiled) (s t : seen.Section) → IsAtFrame s → IsBack s t → Goes code s t
goes-back code (section m c b bottom) t at k = absurd at
goes-back code (section m c b (parcall f q rd w qs st)) t at (n, h, cells, e) = subst (Goes code (section m c b (parcall f q rd w qs st))) (sym e) go
  where
    go : Goes code (section m c b (parcall f q rd w qs st)) (section n c b (parcall f q rd w qs st))
    go p o u d k = (
      [],
      u,
      refl,
      record {
        holds = let z = k.holds in (z.0, z.1, z.2, same-states code m n z.0 at.0 h z.3, z.4, subst (λ rs. HoldsStack code p o rs (b - c) (parcall f q rd w qs st) z.2) (sym h.roots_stay) z.5, z.6);
        simple = k.simple;
        quiet = subst (λ rs. IsQuietStack code rs (parcall f q rd w qs st)) (sym h.roots_stay) k.quiet;
        in_order = (inr (record { now = h.now; returns = h.returns; roots_stay = refl; points = h.points }), k.in_order.1);
        in_round = same-round m n c b f q rd w qs st u k.in_round;
      },
    )

pub at-back : (s t : seen.Section) → IsAtFrame s → IsBack s t → IsAtFrame t
at-back (section m c b bottom) t at k = absurd at
at-back (section m c b (parcall f q rd w qs st)) t at (n, h, cells, e) =
    subst IsAtFrame (sym e) (record { now = h.now; returns = h.returns; roots_stay = refl; points = h.points }, cells, at.2, at.3, at.4)

pub stack-back : (s t : seen.Section) → IsBack s t → stack_in t ≡ stack_in s
stack-back (section m c b bottom) t k = absurd k
stack-back (section m c b (parcall f q rd w qs st)) t (n, h, cells, e) = ap stack_in e

zero-more : (n : ℕ) → n ≡ n + 0
zero-more n = omega arith

pub charged-back : (s t : seen.Section) → IsBack s t → HasCharged 0 s t
charged-back (section m c b bottom) t k = absurd k
charged-back (section m c b (parcall f q rd w qs st)) t (n, h, cells, e) = record { spent = ap spent_in e ∙ zero-more c; budget = ap budget_in e }

pub charged-none : (s : seen.Section) → HasCharged 0 s s
charged-none s = record { spent = zero-more (spent_in s); budget = refl }

-- ---- answers

held-answer : (y : Stand Section) (t : Trees) → IsStandAnswer y t → (x : Section) × (held_now y ≡ held (view_of x)) × IsAnswerIn (view_of x) t
held-answer Ready t h = absurd h
held-answer Waiting t h = absurd h
held-answer (Running r) t h = absurd h
held-answer (Answered a) t h = go a.section h
  where
    go : (o : Option Section) → IsHeldAnswer o t → (x : Section) × (held_own o ≡ held (view_of x)) × IsAnswerIn (view_of x) t
    go None h = absurd h
    go (Some x) h = (x, refl, h)
held-answer (Replayed k) t h = absurd h
held-answer (Ended e c) t h = absurd h
held-answer GivenBack t h = absurd h

pub answers-held : (xs : List (Slot Section Trees)) (ts : List Trees) → AreSlotAnswers xs ts → AreAnswersOf (slots_now xs) ts
answers-held [] [] h = tt
answers-held [] (t ∷ ts) h = absurd h
answers-held (x ∷ xs) [] h = absurd h
answers-held (x ∷ xs) (t ∷ ts) h = let r = held-answer x.stand t h.0 in subst (λ y. AreAnswersOf (slot (row_of x) y (slots_now xs)) (t ∷ ts)) (sym r.1) (r.2, answers-held xs ts h.1)

pub answers-more : (xs : List (Slot Section Trees)) (ts : List Trees) (x : Slot Section Trees) (t : Trees) → AreSlotAnswers xs ts → IsStandAnswer x.stand t → AreSlotAnswers (xs ++ x ∷ []) (ts ++ t ∷ [])
answers-more [] [] x t h k = (k, tt)
answers-more [] (u ∷ ts) x t h k = absurd h
answers-more (y ∷ xs) [] x t h k = absurd h
answers-more (y ∷ xs) (u ∷ ts) x t h k = (h.0, answers-more xs ts x t h.1 k)

pub answers-found : {E V : Type 0} (items : V → List Trees) (s : Section) (n : ℕ) (f : Frame Section Trees) (xs : List (Slot Section Trees)) (r : Result (Option V) E) → n ≡ count_in s → IsAtFrame (view_of s)
    → f ≡ get_or (out-Section s).frames.items (n - 1) f → xs ≡ f.slots.items → IfOk r (λ found. IfSome found (λ answers. AreSlotAnswers xs (items answers)))
    → IfOk r (λ found. IfSome found (λ answers. AreAnswersOf (slots_in (view_of s)) (items answers)))
answers-found items s n f xs (Err e) k at v d h = tt
answers-found items s n f xs (Ok None) k at v d h = tt
answers-found items s n f xs (Ok (Some ts)) k at v d h =
    subst (λ w. AreAnswersOf w (items ts)) (ap slots_now d ∙ sym (slots-at s f (top-at s n f k at v) at)) (answers-held xs (items ts) h)

-- ---- joined

pub goes-joined : SettlingLaw → (code : Compiled) (s t : seen.Section) (e : ℕ) (ts : List Trees) → IsAtFrame s → verdict_in s ≡ JoinedBy e → AreAnswersOf (slots_in s) ts → HasMetIn s ts t → Goes code s (closed_in (charged_in e t))
goes-joined law code (section m c b bottom) t e ts at v a k = absurd at
goes-joined law code (section m c b (parcall f q rd w qs st)) t e ts at v a (n, met, is) =
    subst (λ x. Goes code (section m c b (parcall f q rd w qs st)) (closed_in (charged_in e x))) (sym is) (law.joins code m n c b f q rd w qs st e ts at.0 v a met)

-- such answers can be met
pub goes-unmet : SettlingLaw → (code : Compiled) (s t : seen.Section) (e : ℕ) (ts : List Trees) → IsAtFrame s → verdict_in s ≡ JoinedBy e → AreAnswersOf (slots_in s) ts → CannotMeet s ts → Goes code s t
goes-unmet law code (section m c b bottom) t e ts at v a k = absurd at
goes-unmet law code (section m c b (parcall f q rd w qs st)) t e ts at v a k =
    λ p o u d h. let r = law.meets code p o m c b f q rd w qs st e ts u d h at.0 v a in absurd (k r.0 r.1 r.2)

pub joined-charged : (s t : seen.Section) (e : ℕ) (ts : List Trees) → HasMetIn s ts t → HasCharged e s (closed_in (charged_in e t))
joined-charged (section m c b bottom) t e ts k = absurd k
joined-charged (section m c b (parcall f q rd w qs st)) t e ts (n, met, is) = record { spent = ap (λ x. spent_in (closed_in (charged_in e x))) is; budget = ap (λ x. budget_in (closed_in (charged_in e x))) is }

pub joined-now : (s t : seen.Section) (e : ℕ) (ts : List Trees) → HasMetIn s ts t → (machine_in (closed_in (charged_in e t))).now ≡ returning
joined-now (section m c b bottom) t e ts k = absurd k
joined-now (section m c b (parcall f q rd w qs st)) t e ts (n, met, is) = ap (λ x. (machine_in (closed_in (charged_in e x))).now) is ∙ met.now

pub joined-stack : (s t : seen.Section) (e : ℕ) (ts : List Trees) → HasMetIn s ts t → stack_in (closed_in (charged_in e t)) ≡ closed_stack (stack_in s)
joined-stack (section m c b bottom) t e ts k = absurd k
joined-stack (section m c b (parcall f q rd w qs st)) t e ts (n, met, is) = ap (λ x. stack_in (closed_in (charged_in e x))) is

-- ---- broken

pub goes-broken : SettlingLaw → (code : Compiled) (s t : seen.Section) (e : ℕ) → IsAtFrame s → verdict_in s ≡ BrokenBy e → list_any is_running (rows (slots_in s)) ≡ false → stays_in s ≡ false → IsForgotten (charged_in e s) t → Goes code s t
goes-broken law code (section m c b bottom) t e at v r y k = absurd at
goes-broken law code (section m c b (parcall f q rd w qs st)) t e at v r y (n, h, is) =
    subst (Goes code (section m c b (parcall f q rd w qs st))) (sym is) (law.breaks code m n c b f q rd w qs st e at.0 v r y h)

pub goes-closed : SettlingLaw → (code : Compiled) (s : seen.Section) (e : ℕ) → IsAtFrame s → verdict_in s ≡ BrokenBy e → list_any is_running (rows (slots_in s)) ≡ false → stays_in s ≡ true → IsRedoable (rows (slots_in s)) → Goes code s (closed_in (charged_in e s))
goes-closed law code (section m c b bottom) e at v r y k = absurd at
goes-closed law code (section m c b (parcall f q rd w qs st)) e at v r y k = law.closes code m m c b f q rd w qs st e at.0 v r y k at.0

pub broken-charged : (s t : seen.Section) (e : ℕ) → IsForgotten (charged_in e s) t → HasCharged e s t
broken-charged (section m c b bottom) t e k = absurd k
broken-charged (section m c b (parcall f q rd w qs st)) t e (n, h, is) = record { spent = ap spent_in is; budget = ap budget_in is }

pub broken-now : (s t : seen.Section) (e : ℕ) → IsForgotten (charged_in e s) t → (machine_in t).now ≡ failed
broken-now (section m c b bottom) t e k = absurd k
broken-now (section m c b (parcall f q rd w qs st)) t e (n, h, is) = ap (λ x. (machine_in x).now) is ∙ h.now

pub closed-charged : (s : seen.Section) (e : ℕ) → HasCharged e s (closed_in (charged_in e s))
closed-charged (section m c b st) e = record { spent = refl; budget = refl }

pub closed-now : (s : seen.Section) (e : ℕ) → IsAtFrame s → (machine_in (closed_in (charged_in e s))).now ≡ failed
closed-now (section m c b bottom) e at = absurd at
closed-now (section m c b (parcall f q rd w qs st)) e at = at.0.now
