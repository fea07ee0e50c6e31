-- What settling a frame comes to.
use Rattle.std.proofs.Common.{◌≡◌, ◌∙◌, ℕ, ◌+◌, ◌-◌, ◌<◌, ◌^◌, inl, inr, List, ap, sym, subst, refl, Some, Bool, true, false, Ok, Err}
use Rattle.std.specs.Prelude.{Result, IsErr}
use Rattle.std.specs.List.{list_any}
use Rattle.ap_frames.specs.declared.verdict.Verdict.{Verdict}
use Rattle.ap_section.specs.declared.settle.Settled.{Settled}
use Rattle.ap_tie.specs.Sections as seen
use Rattle.ap_term.specs.declared.memory.NoMemory.{NoMemory}
use Rattle.ap_term.specs.Tree.{Trees}
use Rattle.ap_frames.specs.declared.frame.Round.TheVariants.{Closed}
use Rattle.ap_frames.specs.declared.verdict.Verdict.TheVariants.{Wait, Joined as JoinedBy, Broken as BrokenBy, Drain, Raised, Spent as SpentBy}
use Rattle.ap_frames.specs.Verdicts.{next_redo}
use Rattle.ap_instr.specs.Code.{Compiled}
use Rattle.ap_tie.specs.Sections.{rows}
use Rattle.ap_tied.specs.SlotCalls.{held_in}
use Rattle.ap_tied.specs.Ties.{Goes}
use Rattle.ap_tied.specs.Settling.{AreAnswersOf, SettlingLaw}
use Rattle.ap_section.specs.declared.section.Section.{Section}
use Rattle.ap_section.specs.declared.settle.Settled.TheVariants.{Open, Joined, Broken, Spent, Redo}
use Rattle.ap_section.specs.Views.{view_of, spent_in, budget_in}
use Rattle.ap_section.specs.Ready.{IsReady}
use Rattle.ap_section.specs.Slots.{IsAtFrame, verdict_in, slots_in, round_in, is_held, held_spent}
use Rattle.ap_section.specs.Settles.{IsOpenIn, IsSettled, lacks_section}
use Rattle.ap_section.specs.Owed.{OwesNoMore}
use Rattle.ap_section.specs.Closes.{closed_in, charged_in, IsForgotten, IsBack, HasMetIn, CannotMeet, stays_in, MayBreak, CannotBreak, IsNearlyReady, IsOutcome}
use Rattle.ap_section.proofs.Closes.{ready-nearly, nearly-ready}
use Rattle.ap_section.proofs.Shut.{ready-behind}
use Rattle.ap_section.proofs.Owed.{no-more-same, no-more-back, no-more-joined, no-more-closed, no-more-forgotten}
use Rattle.ap_section.proofs.Goings.{stays-there, goes-back, at-back, stack-back, charged-back, charged-none, goes-joined, goes-unmet, joined-charged, joined-now, joined-stack, goes-broken, goes-closed, broken-charged, broken-now, closed-charged, closed-now}

-- ---- nothing is done

pub none-open : (s : Section) → IsOpenIn (verdict_in (view_of s)) (view_of s) → IsOutcome s s (Ok Open)
none-open s h = record { goes = λ code k. stays-there code (view_of s); settled = (refl, charged-none (view_of s), h); err = tt; ready = λ code k. k; owes = λ code k. no-more-same (view_of s) }

pub no-memory : (s : Section) (e : NoMemory) → IsAtFrame (view_of s) → IsOutcome s s (Err e)
no-memory s e at = record { goes = λ code k. stays-there code (view_of s); settled = tt; err = (at, refl, charged-none (view_of s)); ready = λ code k. k; owes = λ code k. no-more-same (view_of s) }

pub none-spent : (s : Section) → verdict_in (view_of s) ≡ SpentBy → IsOutcome s s (Ok Spent)
none-spent s h = record { goes = λ code k. stays-there code (view_of s); settled = (h, refl); err = tt; ready = λ code k. k; owes = λ code k. no-more-same (view_of s) }

pub to-redo : (s : Section) (i : ℕ) → round_in (view_of s) ≡ Closed → next_redo (rows (slots_in (view_of s))) ≡ Some i → is_held (held_in i (slots_in (view_of s))) ≡ true
    → held_spent (held_in i (slots_in (view_of s))) + (budget_in (view_of s) - spent_in (view_of s)) < 2 ^ 64 → IsOutcome s s (Ok (Redo i))
to-redo s i c d h f = record { goes = λ code k. stays-there code (view_of s); settled = (refl, c, d, h, f); err = tt; ready = λ code k. k; owes = λ code k. no-more-same (view_of s) }

-- ---- the search went back to the fork

still-ready : (s t : Section) → IsAtFrame (view_of s) → IsBack (view_of s) (view_of t) → ((code : Compiled) → IsNearlyReady code s → IsNearlyReady code t) → (code : Compiled) → IsReady code s → IsReady code t
still-ready s t at b n code k = nearly-ready code t (n code (ready-nearly code s k)) (at-back (view_of s) (view_of t) at b)

pub back-without : (s t : Section) (e : NoMemory) → IsAtFrame (view_of s) → IsBack (view_of s) (view_of t) → ((code : Compiled) → IsNearlyReady code s → IsNearlyReady code t) → IsOutcome s t (Err e)
back-without s t e at b n = record {
  goes = λ code k. goes-back code (view_of s) (view_of t) at b;
  settled = tt;
  err = (at-back (view_of s) (view_of t) at b, stack-back (view_of s) (view_of t) b, charged-back (view_of s) (view_of t) b);
  ready = still-ready s t at b n;
  owes = λ code k. no-more-back (view_of s) (view_of t) b;
}

pub back-unmet : SettlingLaw → (s t : Section) (e : ℕ) (ts : List Trees) → IsAtFrame (view_of s) → verdict_in (view_of s) ≡ JoinedBy e → AreAnswersOf (slots_in (view_of s)) ts → IsBack (view_of s) (view_of t) × CannotMeet (view_of s) ts
    → ((code : Compiled) → IsNearlyReady code s → IsNearlyReady code t) → IsOutcome s t (Ok Open)
back-unmet law s t e ts at v a b n = record {
  goes = λ code k. goes-unmet law code (view_of s) (view_of t) e ts at v a b.1;
  settled = (stack-back (view_of s) (view_of t) b.0, charged-back (view_of s) (view_of t) b.0, subst (λ x. IsOpenIn x (view_of s)) (sym v) (inr (ts, a, b.1)));
  err = tt;
  ready = still-ready s t at b.0 n;
  owes = λ code k. no-more-back (view_of s) (view_of t) b.0;
}

pub open-joined : (s : Section) (e : ℕ) → verdict_in (view_of s) ≡ JoinedBy e → list_any lacks_section (rows (slots_in (view_of s))) ≡ true → IsOpenIn (verdict_in (view_of s)) (view_of s)
open-joined s e v h = subst (λ x. IsOpenIn x (view_of s)) (sym v) (inl h)

pub open-broken : (s : Section) (e : ℕ) (b : Bool) → verdict_in (view_of s) ≡ BrokenBy e → b ≡ stays_in (view_of s) → CannotBreak b (slots_in (view_of s)) → IsOpenIn (verdict_in (view_of s)) (view_of s)
open-broken s e b v stays h = subst (λ x. IsOpenIn x (view_of s)) (sym v) (subst (λ a. CannotBreak a (slots_in (view_of s))) stays h)

-- ---- joined, and then charged and closed

pub was-joined : SettlingLaw → (s r d t : Section) (e : ℕ) (ts : List Trees) → IsAtFrame (view_of s) → verdict_in (view_of s) ≡ JoinedBy e → AreAnswersOf (slots_in (view_of s)) ts → HasMetIn (view_of s) ts (view_of r)
    → view_of d ≡ charged_in e (view_of r) → view_of t ≡ closed_in (view_of d)
    → ((code : Compiled) → IsNearlyReady code s → IsNearlyReady code r) → ((code : Compiled) → IsNearlyReady code r → IsNearlyReady code d) → ((code : Compiled) → IsNearlyReady code d → IsReady code t) → IsOutcome s t (Ok Joined)
was-joined law s r d t e ts at v a m x y f g h =
    let is : closed_in (charged_in e (view_of r)) ≡ view_of t = ap closed_in (sym x) ∙ sym y in
    record {
      goes = λ code k. subst (Goes code (view_of s)) is (goes-joined law code (view_of s) (view_of r) e ts at v a m);
      settled = subst (λ z. IsSettled (view_of s) z Joined) is
          (e, v, joined-charged (view_of s) (view_of r) e ts m, joined-now (view_of s) (view_of r) e ts m, joined-stack (view_of s) (view_of r) e ts m);
      err = tt;
      ready = λ code k. h code (g code (f code (ready-nearly code s k)));
      owes = λ code k. subst (OwesNoMore (view_of s)) is (no-more-joined (view_of s) (view_of r) e ts v m);
    }

-- ---- broken

pub was-closed : SettlingLaw → (s d t : Section) (e : ℕ) (b : Bool) → IsAtFrame (view_of s) → verdict_in (view_of s) ≡ BrokenBy e → b ≡ stays_in (view_of s) → b ≡ true → MayBreak b (slots_in (view_of s))
    → view_of d ≡ charged_in e (view_of s) → view_of t ≡ closed_in (view_of d)
    → ((code : Compiled) → IsNearlyReady code s → IsNearlyReady code d) → ((code : Compiled) → IsNearlyReady code d → IsReady code t) → IsOutcome s t (Ok Broken)
was-closed law s d t e b at v stays is_true may x y g h =
    let is : closed_in (charged_in e (view_of s)) ≡ view_of t = ap closed_in (sym x) ∙ sym y in
    record {
      goes = λ code k. subst (Goes code (view_of s)) is (goes-closed law code (view_of s) e at v may.0 (sym stays ∙ is_true) (may.1 is_true));
      settled = subst (λ z. IsSettled (view_of s) z Broken) is (e, v, closed-charged (view_of s) e, closed-now (view_of s) e at);
      err = tt;
      ready = λ code k. h code (g code (ready-nearly code s k));
      owes = λ code k. subst (OwesNoMore (view_of s)) is (no-more-closed (view_of s) e at v);
    }

pub was-forgotten : SettlingLaw → (s d t : Section) (e : ℕ) (b : Bool) → IsAtFrame (view_of s) → verdict_in (view_of s) ≡ BrokenBy e → b ≡ stays_in (view_of s) → b ≡ false → MayBreak b (slots_in (view_of s))
    → view_of d ≡ charged_in e (view_of s) → IsForgotten (view_of d) (view_of t)
    → ((code : Compiled) → IsNearlyReady code s → IsNearlyReady code d) → ((code : Compiled) → IsNearlyReady code d → IsReady code t) → IsOutcome s t (Ok Broken)
was-forgotten law s d t e b at v stays is_false may x y g h =
    let gone = subst (λ z. IsForgotten z (view_of t)) x y in
    record {
      goes = λ code k. goes-broken law code (view_of s) (view_of t) e at v may.0 (sym stays ∙ is_false) gone;
      settled = (e, v, broken-charged (view_of s) (view_of t) e gone, broken-now (view_of s) (view_of t) e gone);
      err = tt;
      ready = λ code k. h code (g code (ready-nearly code s k));
      owes = λ code k. no-more-forgotten (view_of s) (view_of t) e (ready-behind code s k) v gone;
    }

pub open-waiting : (s : Section) → verdict_in (view_of s) ≡ Wait → IsOpenIn Wait (view_of s) → IsOpenIn (verdict_in (view_of s)) (view_of s)
open-waiting s v h = subst (λ x. IsOpenIn x (view_of s)) (sym v) h

pub open-otherwise : (v : Verdict) (s : seen.Section) → ((e : ℕ) → v ≡ JoinedBy e → ⊥) → ((e : ℕ) → v ≡ BrokenBy e → ⊥) → (v ≡ SpentBy → ⊥) → (v ≡ Wait → ⊥) → IsOpenIn v s
open-otherwise Wait s g h k l = absurd (l refl)
open-otherwise (JoinedBy e) s g h k l = absurd (g e refl)
open-otherwise (BrokenBy e) s g h k l = absurd (h e refl)
open-otherwise (Drain i r) s g h k l = tt
open-otherwise (Raised e f) s g h k l = tt
open-otherwise SpentBy s g h k l = absurd (k refl)

pub no-memory-by : (s : Section) (r : Result Settled NoMemory) → IsErr r → IsAtFrame (view_of s) → IsOutcome s s r
no-memory-by s (Ok x) h at = absurd (let z : false ≡ true = h in cc)
no-memory-by s (Err e) h at = no-memory s e at

pub back-by : (s t : Section) (r : Result Settled NoMemory) → IsErr r → IsAtFrame (view_of s) → IsBack (view_of s) (view_of t) → ((code : Compiled) → IsNearlyReady code s → IsNearlyReady code t) → IsOutcome s t r
back-by s t (Ok x) h at b n = absurd (let z : false ≡ true = h in cc)
back-by s t (Err e) h at b n = back-without s t e at b n
