-- Sections that are opened for slots, and end for them.
use Rattle.std.proofs.Common.{◌≡◌, ℕ, ◌-◌, ◌⊎◌, inl, inr, Bool, true, false, not, List, [], ◌∷◌, ◌++◌, Some, refl, ap, ap₂, sym, ◌∙◌, subst}
use Rattle.ap_term.specs.Tree.{Tree}
use Rattle.ap_core.specs.declared.events.Kind.{Kind}
use Rattle.ap_core.specs.declared.events.Kind.TheVariants as kinds
use Rattle.ap_core.specs.Tasks.{Task}
use Rattle.ap_core.specs.Conditions.{is_exhausted, spent_by}
use Rattle.ap_core.specs.Relation.{Rules, has_spent}
use Rattle.ap_core.specs.Lifting.{at_end}
use Rattle.ap_frames.specs.declared.slots.Stand.TheVariants.{Ended}
use Rattle.ap_frames.specs.declared.slots.Ending.TheVariants as ending
use Rattle.ap_tracked.specs.Tracked.{Tracked}
use Rattle.ap_tracked.specs.Forks.{alone}
use Rattle.ap_instr.specs.Code.{Compiled}
use Rattle.ap_standing.specs.Machine.{Machine}
use Rattle.ap_standing.specs.Holds.{Holds}
use Rattle.ap_tie.specs.Sections.{Section, section, bottom, parcall, nothing, held}
use Rattle.ap_tied.specs.Reaching.{BeginningLaw, whole}
use Rattle.ap_tied.specs.Settling.{SettlingLaw, RestingLaw}
use Rattle.ap_tied.specs.SlotCalls.{stood, RunsSlot, answered, gone_on, SlotCallsLaw}
use Rattle.ap_tied.specs.Ties.{IsSearched, IsTied}
use Rattle.ap_open.specs.Opened.{Outer, AreOpen, Keeps, spent_in, rest_in}
use Rattle.ap_open.specs.Calling.{MayBegin, IsGoalIn, begun_at, MayRedo, redone_at, IsAnswering, HasMore, IsDone, IsSpent, CallingLaw}
use Rattle.ap_open.proofs.Opening.{Leads, leads_open, leads_by, from_last, to_last, goes_on_by}
use Rattle.ap_open.proofs.Moving.{IsAt}
use Rattle.ap_open.proofs.Resting.{spent_tied, ended, spent}

-- ---- one section more, or less

-- it is open at that slot
abbrev pub IsOpenAt : Compiled → Rules → Section → Outer → Tracked → Task → Type 0
IsOpenAt code p s a n z = AreOpen code p (IsAt code p s) (a ∷ []) n z

opens_by : (code : Compiled) (outer : List Outer) (s s' : Section) (a : Outer) → ((p : Rules) → Leads p (IsAt code p s) (IsOpenAt code p s' a)) → Keeps code outer s (outer ++ a ∷ []) s'
opens_by code outer s s' a f p o q rest given h =
    goes_on_by code p o q rest outer (outer ++ a ∷ []) s s' given
    (λ t k.
    let b = leads_open code p (IsAt code p s) (IsOpenAt code p s' a) outer (f p) o t k in
    (b.0, b.1, b.2, to_last code p (IsAt code p s') outer a o b.1 b.3))
    h

closes_by : (code : Compiled) (outer : List Outer) (s s' : Section) (a : Outer) → ((p : Rules) → Leads p (IsOpenAt code p s a) (IsAt code p s')) → Keeps code (outer ++ a ∷ []) s outer s'
closes_by code outer s s' a f p o q rest given h =
    goes_on_by code p o q rest (outer ++ a ∷ []) outer s s' given (λ t k. leads_open code p (IsOpenAt code p s a) (IsAt code p s') outer (f p) o t (from_last code p (IsAt code p s) outer a o t k)) h

gone_spent : (r : ℕ) (a : Section) → spent_in (gone_on r a) ≡ spent_in a
gone_spent r (section m c b st) = refl

held_is : {a b : Section} → held a ≡ held b → a ≡ b
held_is h = cc

by_bool : (P : Bool → Type 0) (b : Bool) → (b ≡ true → P true) → (b ≡ false → P false) → P b
by_bool P true t f = t refl
by_bool P false t f = f refl

module _ (beginning : BeginningLaw) (calls : SlotCallsLaw) where
  pub begin_one : (code : Compiled) (p : Rules) (o : Tracked) (t : Task) (s : Section) (i : ℕ) (fresh : Machine) → MayBegin i s
      → ((p : Rules) (o : Tracked) → IsSearched code p o → (g : Tree) (n : ℕ) → IsGoalIn code i s g n → Holds code fresh (alone g n ∷ [])) → IsAt code p s o t
      → (u : Task) × (at_end p kinds.Start (i ∷ []) t ≡ Some u) × IsOpenAt code p (section fresh 0 (rest_in s) bottom) (begun_at i s) o u
  begin_one code p o t (section m c b bottom) i fresh may holds h = absurd may
  begin_one code p o t (section m c b (parcall f q rd w qs st)) i fresh (failed, open_round, above, x, row, startable) holds h =
      let (u, event, tied, (g, n, goal, searched, runs)) = calls.starts code p o m c b f q rd w qs st t i x h.0 h.1 failed open_round above row startable in (
        u,
        event,
        (h.0, tied, failed, alone g n, whole (b - c) (alone g n), runs, (searched, beginning.tied code p (alone g n) fresh (b - c) searched (tt, tt) (holds p o h.0 g n goal))),
      )

module _ (calls : SlotCallsLaw) where
  pub redo_one : (code : Compiled) (p : Rules) (o : Tracked) (t : Task) (s a : Section) (i : ℕ) → MayRedo i a s → IsAt code p s o t
      → (u : Task) × (at_end p kinds.Redo [] t ≡ Some u) × IsOpenAt code p (gone_on (rest_in s) a) (redone_at i a s) o u
  redo_one code p o t (section m c b bottom) a i may h = absurd may
  redo_one code p o t (section m c b (parcall f q rd w qs st)) a i (failed, closed, next, holds) h =
      let (u, event, tied, (d, is_held, n, before, z, searched, runs, spent, inner)) =
      calls.redoes code p o m c b f q w qs st t i h.0 (subst (λ r. IsTied code p o (section m c b (parcall f q r w qs st)) t) closed h.1) failed next
      in
      let same : d ≡ a = held_is (sym is_held ∙ holds) in
      let inner_is : IsTied code p n (gone_on (b - c) a) z = subst (λ e. IsTied code p n (gone_on (b - c) e) z) same inner in
      let since : before ≡ spent_in a = sym spent ∙ spent_tied code p n (gone_on (b - c) a) z inner_is ∙ gone_spent (b - c) a in
      (u, event, (h.0, tied, failed, n, z, subst (λ e. RunsSlot i u n e z) since runs, (searched, inner_is)))

  module _ (resting : RestingLaw) where
    pub answer_one : (code : Compiled) (p : Rules) (o : Tracked) (t : Task) (a : Outer) (s : Section) (more : Bool) → IsAnswering s → HasMore code s more → IsOpenAt code p s a o t
        → (u : Task) × (at_end p kinds.Answer (a.place ∷ []) t ≡ Some u) × IsAt code p (stood a.place (answered (spent_in s - a.since) more) (held s) a.section) o u
    answer_one code p o t a (section m c b st) more is has (searched, tied, failed, n, z, runs, (inner_searched, inner)) =
        let (y, v, is_answer, same, left, none, frames, states) = resting.answered code p n m c b st z inner_searched inner is.at in
        let (u, event, after) = calls.answers code p o n a.section (section m c b st) t z v a.place a.since y searched tied failed runs inner is.at is.closed is_answer in
        let exact : not (is_exhausted v) ≡ more =
        by_bool (λ e. not (is_exhausted v) ≡ e) more (λ e. ap not (go v frames states (has.some e))) (λ e. let k = has.none e in ap not (none k.0 k.1))
        in
        let cost : spent_by z - a.since ≡ c - a.since = ap (λ k. k - a.since) (spent_tied code p n (section m c b st) z inner) in
        (u, event, (searched, subst (λ e. IsTied code p o (stood a.place e (held (section m c b st)) a.section) u) (ap₂ answered cost exact) after))
      where
        go : (v : Task) → ((st ≡ bottom → ⊥) → is_exhausted v ≡ false) → (((t : Tracked) (ts : List Tracked) → Holds code m (t ∷ ts) → ts ≡ [] → ⊥) → is_exhausted v ≡ false)
            → (st ≡ bottom → ⊥) ⊎ ((t : Tracked) (ts : List Tracked) → Holds code m (t ∷ ts) → ts ≡ [] → ⊥) → is_exhausted v ≡ false
        go v frames states (inl k) = frames k
        go v frames states (inr k) = states k

    pub fail_one : (code : Compiled) (p : Rules) (o : Tracked) (t : Task) (a : Outer) (s : Section) → IsDone s → IsOpenAt code p s a o t
        → (u : Task) × (at_end p kinds.Fail (a.place ∷ []) t ≡ Some u) × IsAt code p (stood a.place (Ended ending.Failed (spent_in s - a.since)) nothing a.section) o u
    fail_one code p o t a s done (searched, tied, failed, n, z, runs, (inner_searched, inner)) =
        let (u, event, after) = calls.fails code p o n a.section t z a.place a.since tied runs (ended resting code p n s z done inner) in
        let cost : spent_by z - a.since ≡ spent_in s - a.since = ap (λ k. k - a.since) (spent_tied code p n s z inner) in
        (u, event, (searched, subst (λ e. IsTied code p o (stood a.place (Ended ending.Failed e) nothing a.section) u) cost after))

  pub spend_slot : (code : Compiled) (p : Rules) (o : Tracked) (t : Task) (e : Section) (n : Tracked) (z : Task) (i d : ℕ) → IsTied code p o e t → RunsSlot i t n d z → has_spent p.loud z ≡ true
      → (u : Task) × (at_end p kinds.Spend (i ∷ []) t ≡ Some u) × IsTied code p o (stood i (Ended ending.Spent (rest_in e)) nothing e) u
  spend_slot code p o t (section m c b st) n z i d h r k = calls.spends code p o n m c b st t z i d h r k

  pub spend_one : RestingLaw → SettlingLaw → (code : Compiled) (p : Rules) (o : Tracked) (t : Task) (a : Outer) (s : Section) → IsSpent code s → IsOpenAt code p s a o t
      → (u : Task) × (at_end p kinds.Spend (a.place ∷ []) t ≡ Some u) × IsAt code p (stood a.place (Ended ending.Spent (rest_in a.section)) nothing a.section) o u
  spend_one resting settling code p o t a s is (searched, tied, failed, n, z, runs, (inner_searched, inner)) =
      let r = spend_slot code p o t a.section n z a.place a.since tied runs (spent resting settling code p n s z is inner) in
      (r.0, r.1, (searched, r.2))

-- one event
once : {P Q : Tracked → Task → Type 0} (p : Rules) (k : Kind) (path : List ℕ) → ((o : Tracked) (t : Task) → P o t → (u : Task) × (at_end p k path t ≡ Some u) × Q o u) → Leads p P Q
once p k path f o t h = let r = f o t h in ((k, path) ∷ [], r.0, leads_by p k path t r.0 r.1, r.2)

pub calling : BeginningLaw → SlotCallsLaw → RestingLaw → SettlingLaw → CallingLaw
calling beginning calls resting settling = record {
  begins = λ code outer s i fresh may holds. opens_by code outer s (section fresh 0 (rest_in s) bottom) (begun_at i s) (λ p. once p kinds.Start (i ∷ []) (λ o t h. begin_one beginning calls code p o t s i fresh may holds h));
  redoes = λ code outer s a i may. opens_by code outer s (gone_on (rest_in s) a) (redone_at i a s) (λ p. once p kinds.Redo [] (λ o t h. redo_one calls code p o t s a i may h));
  answers = λ code outer a s more is has. closes_by code outer s _ a (λ p. once p kinds.Answer (a.place ∷ []) (λ o t h. answer_one calls resting code p o t a s more is has h));
  fails = λ code outer a s done. closes_by code outer s _ a (λ p. once p kinds.Fail (a.place ∷ []) (λ o t h. fail_one calls resting code p o t a s done h));
  spends = λ code outer a s is. closes_by code outer s _ a (λ p. once p kinds.Spend (a.place ∷ []) (λ o t h. spend_one calls resting settling code p o t a s is h));
}
