-- What counts of a slot is the same on both sides.
use Rattle.std.proofs.Common.{◌≡◌, ℕ, ◌+◌, inl, inr, Bool, true, false, not, nat_lt, if◌then◌else◌, List, [], ◌∷◌, length, Some, None, refl, ap, sym, ◌∙◌, subst, arith}
use Rattle.std.proofs.lemmas.Bool.{false≢true, lt-ltb, le-ltb}
use Rattle.ap_term.specs.Tree.{Tree}
use Rattle.ap_core.specs.declared.tasks.Idle.TheVariants as idle_kind
use Rattle.ap_core.specs.declared.tasks.Busy.{Busy}
use Rattle.ap_core.specs.declared.tasks.Busy.TheVariants as busy_kind
use Rattle.ap_core.specs.Tasks as core
use Rattle.ap_core.specs.Tasks.{Answer, Task, task, exhausted, no_slot, slot, Progress, idle, stored, busy, held, redone, again, drained}
use Rattle.ap_core.specs.Conditions as conditions
use Rattle.ap_core.specs.Conditions.{is_running, is_exhausted, stopped_cost}
use Rattle.ap_core.specs.Relation as relation
use Rattle.ap_core.specs.Relation.{states, as_states}
use Rattle.ap_frames.specs.declared.slots.Stand.{Stand}
use Rattle.ap_frames.specs.declared.slots.Stand.TheVariants.{Ready, Waiting, Running, Answered, Replayed, Ended, GivenBack}
use Rattle.ap_frames.specs.declared.slots.Run.TheVariants.{First, Redone, Drained}
use Rattle.ap_frames.specs.declared.slots.Ending.{Ending}
use Rattle.ap_frames.specs.declared.slots.Ending.TheVariants as ending
use Rattle.ap_frames.specs.declared.verdict.Verdict.{Verdict}
use Rattle.ap_frames.specs.declared.verdict.Verdict.TheVariants as verdicts
use Rattle.ap_frames.specs.Slots.{stands_answered, ends, is_failure, more_at, cost_at}
use Rattle.ap_frames.specs.Verdicts.{charged, by_ending}
use Rattle.ap_parcall_laws.specs.Alike.{busy_of, HasAnswer, EndsAs, StandsAs, IsUndrained, verdict_of}

pub record Same {S : Type 0} (r : ℕ) (s : Stand S) (n : ℕ) (y : Progress) : Type 0 where
  pub failed : conditions.has_failed y ≡ is_failure (ends s)
  pub answer : conditions.has_answer y ≡ stands_answered s
  pub more : conditions.has_more y ≡ more_at n s
  pub cost : stands_answered s ≡ true → relation.cost_of y ≡ cost_at s
  pub passes : (g : Tree) (k : Bool) (v : core.Slots) (b : ℕ) → stands_answered s ≡ true → conditions.left_edge r b (slot g k y v) ≡ conditions.left_edge r (b + cost_at s) v
  pub behind : (g : Tree) (k : Bool) (v : core.Slots) → stands_answered s ≡ true → conditions.leftmost (slot g k y v) ≡ conditions.leftmost v
  pub edge : (g : Tree) (k : Bool) (v : core.Slots) (b : ℕ) → stands_answered s ≡ false → IsUndrained (slot g k y v) → conditions.left_edge r b (slot g k y v) ≡ b + cost_at s
  pub ending : (g : Tree) (k : Bool) (v : core.Slots) (c : ℕ) → stands_answered s ≡ false → conditions.by_leftmost r c (conditions.leftmost (slot g k y v)) ≡ verdict_of (by_ending r c (ends s))

add-none : (b : ℕ) → b ≡ b + 0
add-none b = omega arith

-- ---- no task

same-idle : {S : Type 0} (r : ℕ) (s : Stand S) (n : ℕ) (i : _) → ends s ≡ None → stands_answered s ≡ false → more_at n s ≡ false → cost_at s ≡ 0 → Same r s n (idle i)
same-idle r s n i e a m c = record {
  failed = sym (ap is_failure e);
  answer = sym a;
  more = sym m;
  cost = λ h. sym c;
  passes = λ g k v b h. absurd (false≢true (sym a ∙ h));
  behind = λ g k v h. absurd (false≢true (sym a ∙ h));
  edge = λ g k v b h u. add-none b ∙ ap (λ j. b + j) (sym c);
  ending = λ g k v d h. sym (ap (λ o. verdict_of (by_ending r d o)) e);
}

same-stored : {S : Type 0} (r n : ℕ) (m : List Answer) → Same {S = S} r Waiting n (stored m)
same-stored r n m = record {
  failed = refl;
  answer = refl;
  more = refl;
  cost = λ h. refl;
  passes = λ g k v b h. absurd (false≢true h);
  behind = λ g k v h. absurd (false≢true h);
  edge = λ g k v b h u. add-none b;
  ending = λ g k v d h. refl;
}

-- ---- running

runs-failed : (b : Busy) → is_running b ≡ true → conditions.is_failed b ≡ false
runs-failed busy_kind.Running h = refl
runs-failed busy_kind.Stopping h = refl
runs-failed busy_kind.Failed h = absurd (false≢true h)
runs-failed busy_kind.Spent h = refl
runs-failed busy_kind.Stopped h = refl
runs-failed (busy_kind.Raised e) h = refl

runs-cost : (r i : ℕ) (b : Busy) (t : Task) → is_running b ≡ true → stopped_cost r i b t ≡ 0
runs-cost r i busy_kind.Running t h = refl
runs-cost r i busy_kind.Stopping t h = refl
runs-cost r i busy_kind.Failed t h = absurd (false≢true h)
runs-cost r i busy_kind.Spent t h = absurd (false≢true h)
runs-cost r i busy_kind.Stopped t h = absurd (false≢true h)
runs-cost r i (busy_kind.Raised e) t h = absurd (false≢true h)

runs-waits : (r c : ℕ) (b : Busy) → is_running b ≡ true → conditions.by_leftmost r c (Some b) ≡ conditions.wait
runs-waits r c busy_kind.Running h = refl
runs-waits r c busy_kind.Stopping h = refl
runs-waits r c busy_kind.Failed h = absurd (false≢true h)
runs-waits r c busy_kind.Spent h = absurd (false≢true h)
runs-waits r c busy_kind.Stopped h = absurd (false≢true h)
runs-waits r c (busy_kind.Raised e) h = absurd (false≢true h)

same-busy : {S : Type 0} (r n : ℕ) (b : Busy) (t : Task) → is_running b ≡ true → Same {S = S} r (Running First) n (busy b t)
same-busy r n b t h = record {
  failed = runs-failed b h;
  answer = refl;
  more = refl;
  cost = λ a. refl;
  passes = λ g k v d a. absurd (false≢true a);
  behind = λ g k v a. absurd (false≢true a);
  edge = λ g k v d a u. ap (λ j. d + j) (runs-cost r 0 b t h);
  ending = λ g k v d a. runs-waits r d b h;
}

same-redone : {S : Type 0} (r n : ℕ) (m : List Answer) (b : Busy) (t : Task) (i : ℕ) → is_running b ≡ true → Same {S = S} r (Running Redone) n (redone m b t i)
same-redone r n m b t i h = record {
  failed = runs-failed b h;
  answer = refl;
  more = refl;
  cost = λ a. refl;
  passes = λ g k v d a. absurd (false≢true a);
  behind = λ g k v a. absurd (false≢true a);
  edge = λ g k v d a u. ap (λ j. d + j) (runs-cost r i b t h);
  ending = λ g k v d a. runs-waits r d b h;
}

same-drained : {S : Type 0} (r n : ℕ) (m : List Answer) (b : Busy) (t : Task) (i e : ℕ) → is_running b ≡ true → Same {S = S} r (Running Drained) n (drained m b t i e)
same-drained r n m b t i e h = record {
  failed = runs-failed b h;
  answer = refl;
  more = refl;
  cost = λ a. refl;
  passes = λ g k v d a. absurd (false≢true a);
  behind = λ g k v a. absurd (false≢true a);
  edge = λ g k v d a u. absurd u;
  ending = λ g k v d a. runs-waits r d b h;
}

-- ---- ended

pub charged-alike : (r c : ℕ) (f : conditions.Verdict) (k : Verdict) → f ≡ verdict_of k → conditions.charged r c f ≡ verdict_of (charged r c k)
charged-alike r c f k h = go (nat_lt r c)
  where
    go : (b : Bool) → (if b then conditions.spends else f) ≡ verdict_of (if b then verdicts.Spent else k)
    go true = refl
    go false = h

ended-failed : (e : Ending) → conditions.is_failed (busy_of e) ≡ is_failure (Some e)
ended-failed ending.Failed = refl
ended-failed ending.Spent = refl
ended-failed ending.Stopped = refl
ended-failed (ending.Raised e) = refl

ended-ending : (r c : ℕ) (e : Ending) → conditions.by_leftmost r c (Some (busy_of e)) ≡ verdict_of (by_ending r c (Some e))
ended-ending r c ending.Failed = refl
ended-ending r c ending.Spent = refl
ended-ending r c ending.Stopped = refl
ended-ending r c (ending.Raised e) = charged-alike r c (conditions.raises c e) (verdicts.Raised c e) refl

same-ended : {S : Type 0} (r n : ℕ) (e : Ending) (c : ℕ) (y : Progress) → EndsAs r e c y → Same {S = S} r (Ended e c) n y
same-ended {S} r n e c y (inl (t, p, q)) = subst (Same {S = S} r (Ended e c) n) (sym p) (record {
  failed = ended-failed e;
  answer = refl;
  more = refl;
  cost = λ a. absurd (false≢true a);
  passes = λ g k v d a. absurd (false≢true a);
  behind = λ g k v a. absurd (false≢true a);
  edge = λ g k v d a u. ap (λ j. d + j) (sym q);
  ending = λ g k v d a. ended-ending r d e;
})
same-ended {S} r n e c y (inr (inl (m, t, i, p, q))) = subst (Same {S = S} r (Ended e c) n) (sym p) (record {
  failed = ended-failed e;
  answer = refl;
  more = refl;
  cost = λ a. absurd (false≢true a);
  passes = λ g k v d a. absurd (false≢true a);
  behind = λ g k v a. absurd (false≢true a);
  edge = λ g k v d a u. ap (λ j. d + j) (sym q);
  ending = λ g k v d a. ended-ending r d e;
})
same-ended {S} r n e c y (inr (inr (m, t, i, d, p))) = subst (Same {S = S} r (Ended e c) n) (sym p) (record {
  failed = ended-failed e;
  answer = refl;
  more = refl;
  cost = λ a. absurd (false≢true a);
  passes = λ g k v b a. absurd (false≢true a);
  behind = λ g k v a. absurd (false≢true a);
  edge = λ g k v b a u. absurd u;
  ending = λ g k v b a. ended-ending r b e;
})

-- ---- answered

same-held : {S : Type 0} (r : ℕ) (s : Stand S) (n : ℕ) (m : List Answer) (a : Answer) (t : Task) → stands_answered s ≡ true → ends s ≡ None → not (is_exhausted t) ≡ more_at n s → Same r s n (held m a t (cost_at s))
same-held r s n m a t h e l = record {
  failed = sym (ap is_failure e);
  answer = sym h;
  more = l;
  cost = λ b. refl;
  passes = λ g k v d b. refl;
  behind = λ g k v b. refl;
  edge = λ g k v d b u. absurd (false≢true (sym b ∙ h));
  ending = λ g k v d b. absurd (false≢true (sym b ∙ h));
}

same-again : {S : Type 0} (r : ℕ) (s : Stand S) (n : ℕ) (m : List Answer) (a : Answer) (t : Task) → stands_answered s ≡ true → ends s ≡ None → not (is_exhausted t) ≡ more_at n s → Same r s n (again m a t (cost_at s))
same-again r s n m a t h e l = record {
  failed = sym (ap is_failure e);
  answer = sym h;
  more = l;
  cost = λ b. refl;
  passes = λ g k v d b. refl;
  behind = λ g k v b. refl;
  edge = λ g k v d b u. absurd (false≢true (sym b ∙ h));
  ending = λ g k v d b. absurd (false≢true (sym b ∙ h));
}

same-answered : {S : Type 0} (r : ℕ) (s : Stand S) (n : ℕ) (y : Progress) (t : Task) → stands_answered s ≡ true → ends s ≡ None → not (is_exhausted t) ≡ more_at n s → HasAnswer t (cost_at s) y → Same r s n y
same-answered r s n y t h e l (m, a, inl p) = subst (Same r s n) (sym p) (same-held r s n m a t h e l)
same-answered r s n y t h e l (m, a, inr p) = subst (Same r s n) (sym p) (same-again r s n m a t h e l)

left-over : (q c k n : ℕ) (rest : List Answer) → n ≡ (k + 1) + length rest → not (is_exhausted (task q c (states (as_states rest) exhausted))) ≡ nat_lt (k + 1) n
left-over q c k n [] h = sym (le-ltb (k + 1) n (omega (arith, h)))
left-over q c k n (a ∷ rest) h = sym (lt-ltb (k + 1) n (omega (arith, h)))

pub same : {S : Type 0} (r : ℕ) (s : Stand S) (n : ℕ) (y : Progress) → StandsAs r s n y → Same r s n y
same r Ready n y h = subst (Same r Ready n) (sym h) (same-idle r Ready n idle_kind.Ready refl refl refl refl)
same r Waiting n y (inl (e, z)) = subst (Same r Waiting n) (sym e) (same-idle r Waiting n idle_kind.Waiting refl refl refl refl)
same r Waiting n y (inr (a, rest, e, z)) = subst (Same r Waiting n) (sym e) (same-stored r n (a ∷ rest))
same r GivenBack n y h = subst (Same r GivenBack n) (sym h) (same-idle r GivenBack n idle_kind.GivenBack refl refl refl refl)
same r (Running First) n y (b, t, e, h) = subst (Same r (Running First) n) (sym e) (same-busy r n b t h)
same r (Running Redone) n y (m, b, t, i, e, h) = subst (Same r (Running Redone) n) (sym e) (same-redone r n m b t i h)
same r (Running Drained) n y (m, b, t, i, d, e, h) = subst (Same r (Running Drained) n) (sym e) (same-drained r n m b t i d h)
same r (Answered a) n y (t, h, l) = same-answered r (Answered a) n y t refl refl l h
same r (Replayed k) n y (q, c, rest, h, l) = same-answered r (Replayed k) n y (task q c (states (as_states rest) exhausted)) refl refl (left-over q c k n rest l) h
same r (Ended e c) n y h = same-ended r n e c y h
