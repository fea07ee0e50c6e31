-- Open sections whose goals may be away.
use Rattle.std.proofs.Common.{◌≡◌, ℕ, ◌-◌, ◌==◌, Bool, true, false, not, if◌then◌else◌, List, [], ◌∷◌, ◌++◌, Some, refl, sym, ◌∙◌, subst, arith, ap}
use Rattle.std.proofs.lemmas.Bool.Decides.{Decides-eqb}
use Rattle.std.proofs.lemmas.Bool.{false≢true}
use Rattle.std.proofs.lemmas.List.{map-append}
use Rattle.ap_term.specs.Tree.{Tree}
use Rattle.ap_term.proofs.Zips.{AllByRecursion-append}
use Rattle.ap_core.specs.declared.events.Kind.{Kind}
use Rattle.ap_core.specs.declared.events.Kind.TheVariants as kinds
use Rattle.ap_core.specs.Tasks.{Task}
use Rattle.ap_core.specs.Conditions.{spent_by}
use Rattle.ap_core.specs.Relation.{Rules}
use Rattle.ap_core.specs.Reached.{Happening}
use Rattle.ap_core.specs.Lifting.{at_end}
use Rattle.ap_frames.specs.declared.slots.Stand.TheVariants.{Running, Ended}
use Rattle.ap_frames.specs.declared.slots.Run.TheVariants as runs
use Rattle.ap_frames.specs.declared.slots.Ending.TheVariants as ending
use Rattle.ap_frames.specs.Rows.{stopped}
use Rattle.ap_tracked.specs.Tracked.{Tracked}
use Rattle.ap_tracked.specs.Forks.{alone}
use Rattle.ap_instr.specs.Code.{Compiled}
use Rattle.ap_standing.specs.Machine.{Machine}
use Rattle.ap_standing.specs.Holds.{Holds}
use Rattle.ap_tie.specs.Sections.{Section, section, bottom, parcall, nothing, held, machine_in}
use Rattle.ap_tie.specs.Settled.{HasFailed}
use Rattle.ap_tied.specs.Happened.{happened}
use Rattle.ap_tied.specs.Reaching.{BeginningLaw, whole}
use Rattle.ap_tied.specs.Settling.{SettlingLaw, RestingLaw}
use Rattle.ap_tied.specs.SlotCalls.{stood, RunsSlot, answered, gone_on, SlotCallsLaw, StopCallsLaw}
use Rattle.ap_tied.specs.Ties.{IsSearched, IsTied, Goes}
use Rattle.ap_open.specs.Opened.{Outer, spent_in, rest_in}
use Rattle.ap_open.specs.Moving.{HasAnsweredAgain, restarted}
use Rattle.ap_open.specs.Calling.{MayBegin, IsGoalIn, MayRedo}
use Rattle.ap_open.specs.Away.{Key, Away, RunsWhole, AreAway, without, AreElsewhere, Level, AreBeside, TiedBeside, Carries, Outcome, found, failed_at, spent_all, stopped_at, given_back, IsOutcomeOf, returned}
use Rattle.ap_open.specs.Sharing.{begun_beside, redone_beside, first_of, IsKeyOf, MayReturn, SharingLaw}
use Rattle.ap_open.proofs.Lifting.{through, lift_all}
use Rattle.ap_open.proofs.Opening.{Leads, leads_by}
use Rattle.ap_open.proofs.Moving.{IsAt, restart_one}
use Rattle.ap_open.proofs.Calling.{IsOpenAt, begin_one, redo_one, answer_one, fail_one, spend_slot, spend_one}
use Rattle.ap_open.proofs.Elsewhere.{others_all, restart_stays, start_idle}
use Rattle.ap_open.proofs.Outcomes.{happened_more}
use Rattle.ap_open.proofs.Resting.{spent_tied}

-- ---- goals that are away

away_stays : (code : Compiled) (p : Rules) (i : ℕ) (es : List Happening) (t u : Task) (aways : List Away) → AreElsewhere i aways → happened p (through i es) t ≡ Some u → AreAway code p aways t → AreAway code p aways u
away_stays code p i es t u [] apart h is = tt
away_stays code p i es t u (a ∷ aways) apart h ((g, n, goal, searched, runs), is) =
    ((g, n, goal, searched, others_all p i a.place es t u (whole a.key.rest (alone g n)) (alone g n) 0 apart.0 h runs), away_stays code p i es t u aways apart.1 h is)

-- by any event that leaves slots that run
away_by : (code : Compiled) (p : Rules) (t u : Task) (aways : List Away) → ((j : ℕ) (z : Task) (n : Tracked) (d : ℕ) → RunsSlot j t n d z → RunsSlot j u n d z) → AreAway code p aways t → AreAway code p aways u
away_by code p t u [] f is = tt
away_by code p t u (a ∷ aways) f ((g, n, goal, searched, runs), is) = ((g, n, goal, searched, f a.place (whole a.key.rest (alone g n)) (alone g n) 0 runs), away_by code p t u aways f is)

-- a slot that may begin isn't one of them
elsewhere_idle : (code : Compiled) (p : Rules) (i : ℕ) (t u : Task) (aways : List Away) → at_end p kinds.Start (i ∷ []) t ≡ Some u → AreAway code p aways t → AreElsewhere i aways
elsewhere_idle code p i t u [] h is = tt
elsewhere_idle code p i t u (a ∷ aways) h ((g, n, goal, searched, runs), is) =
    (λ e. start_idle p i t u (whole a.key.rest (alone g n)) h (subst (λ j. RunsSlot j t (alone g n) 0 (whole a.key.rest (alone g n))) e runs).runs, elsewhere_idle code p i t u aways h is)

away_last : (code : Compiled) (p : Rules) (t : Task) (aways : List Away) (a : Away) → AreAway code p aways t → RunsWhole code p t a → AreAway code p (aways ++ a ∷ []) t
away_last code p t aways a h is = AllByRecursion-append (RunsWhole code p t) aways (a ∷ []) h (is, tt)

elsewhere_last : (i : ℕ) (aways : List Away) (a : Away) → AreElsewhere i aways → (a.place ≡ i → ⊥) → AreElsewhere i (aways ++ a ∷ [])
elsewhere_last i aways a h n = AllByRecursion-append (λ b. b.place ≡ i → ⊥) aways (a ∷ []) h (n, tt)

away_all : (code : Compiled) (p : Rules) (t : Task) (before behind : List Away) (a : Away) → AreAway code p (before ++ a ∷ behind) t → RunsWhole code p t a × AreAway code p (before ++ behind) t
away_all code p t [] behind a h = h
away_all code p t (b ∷ before) behind a h = let r = away_all code p t before behind a h.1 in (r.0, (h.0, r.1))

without_away : (code : Compiled) (p : Rules) (t : Task) (i : ℕ) (aways : List Away) → AreAway code p aways t → AreAway code p (without i aways) t × AreElsewhere i (without i aways)
without_away code p t i [] h = (tt, tt)
without_away code p t i (a ∷ aways) h = go (a.place == i) refl (without_away code p t i aways h.1)
  where
    go : (b : Bool) → (a.place == i) ≡ b → AreAway code p (without i aways) t × AreElsewhere i (without i aways)
        → AreAway code p (if not b then a ∷ without i aways else without i aways) t × AreElsewhere i (if not b then a ∷ without i aways else without i aways)
    go true e r = r
    go false e r = ((h.0, r.0), (λ z. false≢true (sym e ∙ (Decides-eqb a.place i).1 z), r.1))

apart_all : (i : ℕ) (before behind : List Away) (a : Away) → AreElsewhere i (before ++ a ∷ behind) → (a.place ≡ i → ⊥) × AreElsewhere i (before ++ behind)
apart_all i [] behind a h = h
apart_all i (b ∷ before) behind a h = let r = apart_all i before behind a h.1 in (r.0, (h.0, r.1))

without_apart : (j i : ℕ) (aways : List Away) → AreElsewhere j aways → AreElsewhere j (without i aways)
without_apart j i [] h = tt
without_apart j i (a ∷ aways) h = go (a.place == i) (without_apart j i aways h.1)
  where
    go : (b : Bool) → AreElsewhere j (without i aways) → AreElsewhere j (if not b then a ∷ without i aways else without i aways)
    go true r = r
    go false r = (h.0, r)

-- ---- levels

abbrev outer_of : Level → Outer
outer_of a = record { section = a.section; place = a.place; since = a.since }

leads_beside : (code : Compiled) (p : Rules) (P Q : Tracked → Task → Type 0) (levels : List Level) → Leads p P Q → Leads p (AreBeside code p P levels) (AreBeside code p Q levels)
leads_beside code p P Q [] f o t h = f o t h
leads_beside code p P Q (a ∷ levels) f o t (searched, tied, failed, apart, away, n, z, runs, inner) =
    let r = leads_beside code p P Q levels f n z inner in
    let l = lift_all code p o a.section a.place r.0 t z r.1 n a.since tied runs r.2 in
    (through a.place r.0, l.0, l.1, (searched, l.2, failed, apart, away_stays code p a.place r.0 t l.0 a.aways apart l.1 away, n, r.1, l.3, r.3))

-- a level with those within it
from_rest : (code : Compiled) (p : Rules) (P : Tracked → Task → Type 0) (levels after : List Level) (a : Level) (o : Tracked) (t : Task)
    → AreBeside code p P (levels ++ a ∷ after) o t → AreBeside code p (AreBeside code p P (a ∷ after)) levels o t
from_rest code p P [] after a o t h = h
from_rest code p P (b ∷ levels) after a o t (searched, tied, failed, apart, away, n, z, runs, inner) = (searched, tied, failed, apart, away, n, z, runs, from_rest code p P levels after a n z inner)

to_rest : (code : Compiled) (p : Rules) (P : Tracked → Task → Type 0) (levels after : List Level) (a : Level) (o : Tracked) (t : Task)
    → AreBeside code p (AreBeside code p P (a ∷ after)) levels o t → AreBeside code p P (levels ++ a ∷ after) o t
to_rest code p P [] after a o t h = h
to_rest code p P (b ∷ levels) after a o t (searched, tied, failed, apart, away, n, z, runs, inner) = (searched, tied, failed, apart, away, n, z, runs, to_rest code p P levels after a n z inner)

abbrev IsLevelAt : Compiled → Rules → Section → Level → Tracked → Task → Type 0
IsLevelAt code p s a n z = AreBeside code p (TiedBeside code p s []) (a ∷ []) n z

carries_by : (code : Compiled) (levels : List Level) (s s' : Section) (aways aways' : List Away) → ((p : Rules) → Leads p (TiedBeside code p s aways) (TiedBeside code p s' aways')) → Carries code levels s aways levels s' aways'
carries_by code levels s s' aways aways' f p o t h = leads_beside code p (TiedBeside code p s aways) (TiedBeside code p s' aways') levels (f p) o t h

opens_by : (code : Compiled) (levels : List Level) (s s' : Section) (aways : List Away) (a : Level) → ((p : Rules) → Leads p (TiedBeside code p s aways) (IsLevelAt code p s' a)) → Carries code levels s aways (levels ++ a ∷ []) s' []
opens_by code levels s s' aways a f p o t h =
    let b = leads_beside code p (TiedBeside code p s aways) (IsLevelAt code p s' a) levels (f p) o t h in
    (b.0, b.1, b.2, to_rest code p (TiedBeside code p s' []) levels [] a o b.1 b.3)

closes_by : (code : Compiled) (levels : List Level) (s s' : Section) (a : Level) → ((p : Rules) → Leads p (IsLevelAt code p s a) (TiedBeside code p s' a.aways)) → Carries code (levels ++ a ∷ []) s [] levels s' a.aways
closes_by code levels s s' a f p o t h = leads_beside code p (IsLevelAt code p s a) (TiedBeside code p s' a.aways) levels (f p) o t (from_rest code p (TiedBeside code p s []) levels [] a o t h)

-- the innermost section ends by one event at the slot that it ran
ends_by : (code : Compiled) (levels : List Level) (s s' : Section) (a : Level) (k : Kind)
    → ((p : Rules) (o : Tracked) (t : Task) → IsOpenAt code p s (outer_of a) o t → (u : Task) × (at_end p k (a.place ∷ []) t ≡ Some u) × IsAt code p s' o u) → Carries code (levels ++ a ∷ []) s [] levels s' a.aways
ends_by code levels s s' a k f =
    closes_by code levels s s' a (λ p o t (searched, tied, failed, apart, away, n, z, runs, (inner_searched, inner, none)).
    let r = f p o t (searched, tied, failed, n, z, runs, (inner_searched, inner)) in
    let event : happened p (through a.place ((k, []) ∷ [])) t ≡ Some r.0 = leads_by p k (a.place ∷ []) t r.0 r.1 in
    ((k, a.place ∷ []) ∷ [], r.0, event, (r.2.0, r.2.1, away_stays code p a.place ((k, []) ∷ []) t r.0 a.aways apart event away)))

moves : (code : Compiled) (levels : List Level) (s s' : Section) → Goes code s s' → Carries code levels s [] levels s' []
moves code levels s s' g = carries_by code levels s s' [] [] (λ p n z h. let a = g p n z h.0 h.1 in (a.0, a.1, a.2, (h.0, a.3, tt)))

module _ (beginning : BeginningLaw) (calls : SlotCallsLaw) (stop_calls : StopCallsLaw) (resting : RestingLaw) (settling : SettlingLaw) where
  restarts : (code : Compiled) (levels : List Level) (s : Section) (aways : List Away) (i : ℕ) → HasAnsweredAgain i s → Carries code levels s aways levels (restarted i s) aways
  restarts code levels s aways i has =
      carries_by code levels s (restarted i s) aways aways (λ p o t h.
      let r = restart_one calls code p o t s i has (h.0, h.1) in (
        (kinds.Restart, []) ∷ [],
        r.0,
        leads_by p kinds.Restart [] t r.0 r.1,
        (r.2.0, r.2.1, away_by code p t r.0 aways (λ j z n d runs. restart_stays p j t r.0 z n d r.1 runs) h.2),
      ))

  begins : (code : Compiled) (levels : List Level) (s : Section) (aways : List Away) (i : ℕ) (fresh : Machine) → MayBegin i s
      → ((p : Rules) (o : Tracked) → IsSearched code p o → (g : Tree) (n : ℕ) → IsGoalIn code i s g n → Holds code fresh (alone g n ∷ []))
      → Carries code levels s aways (levels ++ begun_beside i s aways ∷ []) (section fresh 0 (rest_in s) bottom) []
  begins code levels s aways i fresh may holds =
      opens_by code levels s (section fresh 0 (rest_in s) bottom) aways (begun_beside i s aways) (λ p o t h.
      let (u, is, (searched, tied, failed, n, z, runs, inner)) = begin_one beginning calls code p o t s i fresh may holds (h.0, h.1) in
      let apart : AreElsewhere i aways = elsewhere_idle code p i t u aways is h.2 in
      let event : happened p (through i ((kinds.Start, []) ∷ [])) t ≡ Some u = leads_by p kinds.Start (i ∷ []) t u is in
      ((kinds.Start, i ∷ []) ∷ [], u, event, (searched, tied, failed, apart, away_stays code p i ((kinds.Start, []) ∷ []) t u aways apart event h.2, n, z, runs, (inner.0, inner.1, tt))))

  redoes : (code : Compiled) (levels : List Level) (s a : Section) (i : ℕ) → MayRedo i a s → Carries code levels s [] (levels ++ redone_beside i a s ∷ []) (gone_on (rest_in s) a) []
  redoes code levels s a i may =
      opens_by code levels s (gone_on (rest_in s) a) [] (redone_beside i a s) (λ p o t h.
      let (u, is, (searched, tied, failed, n, z, runs, inner)) = redo_one calls code p o t s a i may (h.0, h.1) in
      ((kinds.Redo, []) ∷ [], u, leads_by p kinds.Redo [] t u is, (searched, tied, failed, tt, tt, n, z, runs, (inner.0, inner.1, tt))))

  leave_one : (code : Compiled) (p : Rules) (o : Tracked) (t : Task) (s : Section) (i : ℕ) (key : Key) → MayBegin i s → IsKeyOf code i s key → IsAt code p s o t
      → (u : Task) × (at_end p kinds.Start (i ∷ []) t ≡ Some u) × IsAt code p (stood i (Running runs.First) nothing s) o u × RunsWhole code p u (record { place = i; key = key })
  leave_one code p o t (section m c b bottom) i key may is h = absurd may
  leave_one code p o t (section m c b (parcall f q rd w qs st)) i key (failed, open_round, above, x, row, startable) is h =
      let (u, event, tied, (g, n, goal, searched, runs)) = calls.starts code p o m c b f q rd w qs st t i x h.0 h.1 failed open_round above row startable in
      (u, event, (h.0, tied), (g, n, is.goal g n goal, searched, subst (λ r. RunsSlot i u (alone g n) 0 (whole r (alone g n))) (sym is.rest) runs))

  leaves : (code : Compiled) (levels : List Level) (s : Section) (aways : List Away) (i : ℕ) (key : Key) → MayBegin i s → IsKeyOf code i s key
      → Carries code levels s aways levels (stood i (Running runs.First) nothing s) (aways ++ record { place = i; key = key } ∷ [])
  leaves code levels s aways i key may is =
      carries_by code levels s (stood i (Running runs.First) nothing s) aways (aways ++ record { place = i; key = key } ∷ []) (λ p o t h.
      let r = leave_one code p o t s i key may is (h.0, h.1) in
      let apart : AreElsewhere i aways = elsewhere_idle code p i t r.0 aways r.1 h.2 in
      let event : happened p (through i ((kinds.Start, []) ∷ [])) t ≡ Some r.0 = leads_by p kinds.Start (i ∷ []) t r.0 r.1 in
      ((kinds.Start, i ∷ []) ∷ [], r.0, event, (r.2.0, r.2.1, away_last code p r.0 aways (record { place = i; key = key }) (away_stays code p i ((kinds.Start, []) ∷ []) t r.0 aways apart event h.2) r.3)))

  -- ---- what comes back

  -- the goal's own events, and then some at its slot
  followed : (code : Compiled) (p : Rules) (o : Tracked) (t x : Task) (s : Section) (i : ℕ) (es : List Happening) (aways : List Away) → happened p (through i es) t ≡ Some x → AreElsewhere i aways → AreAway code p aways t
      → (fs : List Happening) (u : Task) → happened p (through i fs) x ≡ Some u → IsAt code p s o u → (ds : List Happening) × (v : Task) × (happened p (through i ds) t ≡ Some v) × TiedBeside code p s aways o v
  followed code p o t x s i es aways h apart away fs u k at = (
    es ++ fs,
    u,
    ap (λ ds. happened p ds t) (map-append (λ e. (e.0, i ∷ e.1)) es fs) ∙ happened_more p (through i es) (through i fs) t x h ∙ k,
    (at.0, at.1, away_stays code p i fs x u aways apart k (away_stays code p i es t x aways apart h away)),
  )

  none_off : (n : ℕ) → n - 0 ≡ n
  none_off n = omega arith

  back_one : (code : Compiled) (p : Rules) (o : Tracked) (t : Task) (s : Section) (a : Away) (e : Outcome) (aways : List Away) → HasFailed (machine_in s).roots [] (machine_in s) → IsOutcomeOf code a.key e → MayReturn a.place e s
      → AreElsewhere a.place aways → AreAway code p aways t → IsAt code p s o t → RunsWhole code p t a
      → (ds : List Happening) × (v : Task) × (happened p (through a.place ds) t ≡ Some v) × TiedBeside code p (returned a.place e s) aways o v
  back_one code p o t s a (found w cost more) aways failed_now fits may apart away at (g, n, goal, searched, runs) =
      let (z, comes, tied, is, has, exact) = fits p g n goal searched in
      let (x, event, here, there) = lift_all code p o s a.place comes.0 t (whole a.key.rest (alone g n)) z (alone g n) 0 at.1 runs comes.1 in
      let r = answer_one calls resting code p o x (record { section = s; place = a.place; since = 0 }) w more is has (at.0, here, failed_now, alone g n, z, there, (searched, tied)) in
      let same : spent_in w - 0 ≡ cost = none_off (spent_in w) ∙ sym exact in
      followed code p o t x (stood a.place (answered cost more) (held w) s) a.place comes.0 aways event apart away ((kinds.Answer, []) ∷ []) r.0 (leads_by p kinds.Answer (a.place ∷ []) x r.0 r.1)
      (subst (λ c. IsAt code p (stood a.place (answered c more) (held w) s) o r.0) same r.2)
  back_one code p o t s a (failed_at cost) aways failed_now fits may apart away at (g, n, goal, searched, runs) =
      let (z, comes, done, exact) = fits p g n goal searched in
      let (x, event, here, there) = lift_all code p o s a.place comes.0 t (whole a.key.rest (alone g n)) z (alone g n) 0 at.1 runs comes.1 in
      let r = calls.fails code p o (alone g n) s x z a.place 0 here there done in
      let same : spent_by z - 0 ≡ cost = none_off (spent_by z) ∙ sym exact in
      followed code p o t x (stood a.place (Ended ending.Failed cost) nothing s) a.place comes.0 aways event apart away ((kinds.Fail, []) ∷ []) r.0 (leads_by p kinds.Fail (a.place ∷ []) x r.0 r.1)
      (at.0, subst (λ c. IsTied code p o (stood a.place (Ended ending.Failed c) nothing s) r.0) same r.2)
  back_one code p o t s a spent_all aways failed_now fits may apart away at (g, n, goal, searched, runs) =
      let (z, comes, over) = fits p g n goal searched in
      let (x, event, here, there) = lift_all code p o s a.place comes.0 t (whole a.key.rest (alone g n)) z (alone g n) 0 at.1 runs comes.1 in
      let r = spend_slot calls code p o x s (alone g n) z a.place 0 here there over in
      followed code p o t x (returned a.place spent_all s) a.place comes.0 aways event apart away ((kinds.Spend, []) ∷ []) r.0 (leads_by p kinds.Spend (a.place ∷ []) x r.0 r.1) (at.0, r.2)
  back_one code p o t s a (stopped_at cost) aways failed_now fits may apart away at (g, n, goal, searched, runs) =
      let (z, comes, exact) = fits p g n goal searched in
      let (x, event, here, there) = lift_all code p o s a.place comes.0 t (whole a.key.rest (alone g n)) z (alone g n) 0 at.1 runs comes.1 in
      let r = stop_calls.stops code p o (alone g n) s x z a.place 0 here there in
      let same : spent_by z - 0 ≡ cost = none_off (spent_by z) ∙ sym exact in
      followed code p o t x (stood a.place (stopped (Unit {0}) true cost) nothing s) a.place comes.0 aways event apart away ((kinds.Stop, []) ∷ (kinds.Stopped, []) ∷ []) r.0 r.1
      (at.0, subst (λ c. IsTied code p o (stood a.place (stopped (Unit {0}) true c) nothing s) r.0) same r.2)
  back_one code p o t (section m c b bottom) a given_back aways failed_now fits may apart away at is = absurd may
  back_one code p o t (section m c b (parcall f q rd w qs st)) a given_back aways failed_now fits (row, here, back) apart away at (g, n, goal, searched, runs) =
      let r = stop_calls.gives_back code p o (alone g n) m c b f q rd w qs st t (whole a.key.rest (alone g n)) a.place 0 row at.1 runs here back in
      followed code p o t t (returned a.place given_back (section m c b (parcall f q rd w qs st))) a.place [] aways refl apart away ((kinds.Stopped, []) ∷ []) r.0 (leads_by p kinds.Stopped (a.place ∷ []) t r.0 r.1) (at.0, r.2)

  comes_back : (code : Compiled) (levels : List Level) (s : Section) (before behind : List Away) (a : Away) (e : Outcome) → HasFailed (machine_in s).roots [] (machine_in s) → IsOutcomeOf code a.key e → MayReturn a.place e s
      → Carries code levels s (before ++ a ∷ behind) levels (returned a.place e s) (without a.place (before ++ behind))
  comes_back code levels s before behind a e failed_now fits may =
      carries_by code levels s (returned a.place e s) (before ++ a ∷ behind) (without a.place (before ++ behind)) (λ p o t h.
      let all = away_all code p t before behind a h.2 in
      let left = without_away code p t a.place (before ++ behind) all.1 in
      let r = back_one code p o t s a e (without a.place (before ++ behind)) failed_now fits may left.1 left.0 (h.0, h.1) all.0 in
      (through a.place r.0, r.1, r.2, r.3))

  -- ---- at sections that aren't the innermost one

  returned_machine : (i : ℕ) (e : Outcome) (s : Section) → machine_in (returned i e s) ≡ machine_in s
  returned_machine i (found a cost more) (section m c b st) = refl
  returned_machine i (failed_at cost) (section m c b st) = refl
  returned_machine i spent_all (section m c b st) = refl
  returned_machine i (stopped_at cost) (section m c b st) = refl
  returned_machine i given_back (section m c b st) = refl

  comes_back_below : (code : Compiled) (levels after : List Level) (a : Level) (s : Section) (aways before behind : List Away) (w : Away) (e : Outcome)
      → a.aways ≡ before ++ w ∷ behind → IsOutcomeOf code w.key e → MayReturn w.place e a.section
      → Carries code (levels ++ a ∷ after) s aways
      (levels ++ record { section = returned w.place e a.section; place = a.place; since = a.since; aways = without w.place (before ++ behind) } ∷ after) s aways
  comes_back_below code levels after a s aways before behind w e are fits may p o t h =
      let P : Tracked → Task → Type 0 = TiedBeside code p s aways in
      let b : Level = record { section = returned w.place e a.section; place = a.place; since = a.since; aways = without w.place (before ++ behind) } in
      let r = leads_beside code p (AreBeside code p P (a ∷ after)) (AreBeside code p P (b ∷ after)) levels one o t (from_rest code p P levels after a o t h) in
      (r.0, r.1, r.2, to_rest code p P levels after b o r.1 r.3)
    where
      one : Leads p (AreBeside code p (TiedBeside code p s aways) (a ∷ after))
          (AreBeside code p (TiedBeside code p s aways) (record { section = returned w.place e a.section; place = a.place; since = a.since; aways = without w.place (before ++ behind) } ∷ after))
      one o t (searched, tied, failed, apart, away, n, z, runs, inner) =
          let all = away_all code p t before behind w (subst (λ l. AreAway code p l t) are away) in
          let others = apart_all a.place before behind w (subst (AreElsewhere a.place) are apart) in
          let left = without_away code p t w.place (before ++ behind) all.1 in
          let r = back_one code p o t a.section w e (without w.place (before ++ behind)) failed fits may left.1 left.0 (searched, tied) all.0 in (
            through w.place r.0,
            r.1,
            r.2,
            (
              r.3.0,
              r.3.1,
              subst (λ m. HasFailed m.roots [] m) (sym (returned_machine w.place e a.section)) failed,
              without_apart a.place w.place (before ++ behind) others.1,
              r.3.2,
              n,
              z,
              others_all p w.place a.place r.0 t r.1 z n a.since (λ k. others.0 (sym k)) r.2 runs,
              inner,
            ),
          )

  stood_machine : (i : ℕ) (s : Section) → machine_in (stood i (Running runs.First) nothing s) ≡ machine_in s
  stood_machine i (section m c b st) = refl

  leaves_below : (code : Compiled) (levels after : List Level) (a : Level) (s : Section) (aways : List Away) (i : ℕ) (key : Key) → MayBegin i a.section → IsKeyOf code i a.section key
      → Carries code (levels ++ a ∷ after) s aways
      (levels ++ record { section = stood i (Running runs.First) nothing a.section; place = a.place; since = a.since; aways = a.aways ++ record { place = i; key = key } ∷ [] } ∷ after) s aways
  leaves_below code levels after a s aways i key may is p o t h =
      let P : Tracked → Task → Type 0 = TiedBeside code p s aways in
      let b : Level = record { section = stood i (Running runs.First) nothing a.section; place = a.place; since = a.since; aways = a.aways ++ record { place = i; key = key } ∷ [] } in
      let r = leads_beside code p (AreBeside code p P (a ∷ after)) (AreBeside code p P (b ∷ after)) levels one o t (from_rest code p P levels after a o t h) in
      (r.0, r.1, r.2, to_rest code p P levels after b o r.1 r.3)
    where
      one : Leads p (AreBeside code p (TiedBeside code p s aways) (a ∷ after))
          (AreBeside code p (TiedBeside code p s aways)
          (record { section = stood i (Running runs.First) nothing a.section; place = a.place; since = a.since; aways = a.aways ++ record { place = i; key = key } ∷ [] } ∷ after))
      one o t (searched, tied, failed, apart, away, n, z, runs, inner) =
          let r = leave_one code p o t a.section i key may is (searched, tied) in
          let event : happened p (through i ((kinds.Start, []) ∷ [])) t ≡ Some r.0 = leads_by p kinds.Start (i ∷ []) t r.0 r.1 in
          let idle : AreElsewhere i a.aways = elsewhere_idle code p i t r.0 a.aways r.1 away in
          let other : a.place ≡ i → ⊥ = λ e. start_idle p i t r.0 z r.1 (subst (λ j. RunsSlot j t n a.since z) e runs).runs in (
            (kinds.Start, i ∷ []) ∷ [],
            r.0,
            event,
            (
              r.2.0,
              r.2.1,
              subst (λ m. HasFailed m.roots [] m) (sym (stood_machine i a.section)) failed,
              elsewhere_last a.place a.aways (record { place = i; key = key }) apart (λ e. other (sym e)),
              away_last code p r.0 a.aways (record { place = i; key = key }) (away_stays code p i ((kinds.Start, []) ∷ []) t r.0 a.aways idle event away) r.3,
              n,
              z,
              others_all p i a.place ((kinds.Start, []) ∷ []) t r.0 z n a.since other event runs,
              inner,
            ),
          )

  abandons : (code : Compiled) (levels after : List Level) (a : Level) (s : Section) (aways : List Away)
      → Carries code (levels ++ a ∷ after) s aways levels (stood a.place (stopped (Unit {0}) true (spent_in (first_of after s) - a.since)) nothing a.section) a.aways
  abandons code levels after a s aways p o t h =
      leads_beside code p (AreBeside code p (TiedBeside code p s aways) (a ∷ after))
      (TiedBeside code p (stood a.place (stopped (Unit {0}) true (spent_in (first_of after s) - a.since)) nothing a.section) a.aways) levels one o t
      (from_rest code p (TiedBeside code p s aways) levels after a o t h)
    where
      spent_first : (after : List Level) (n : Tracked) (z : Task) → AreBeside code p (TiedBeside code p s aways) after n z → spent_by z ≡ spent_in (first_of after s)
      spent_first [] n z k = spent_tied code p n s z k.1
      spent_first (b ∷ after) n z k = spent_tied code p n b.section z k.1

      one : Leads p (AreBeside code p (TiedBeside code p s aways) (a ∷ after))
          (TiedBeside code p (stood a.place (stopped (Unit {0}) true (spent_in (first_of after s) - a.since)) nothing a.section) a.aways)
      one o t (searched, tied, failed, apart, away, n, z, runs, inner) =
          let r = stop_calls.stops code p o n a.section t z a.place a.since tied runs in (
            through a.place ((kinds.Stop, []) ∷ (kinds.Stopped, []) ∷ []),
            r.0,
            r.1,
            (
              searched,
              subst (λ c. IsTied code p o (stood a.place (stopped (Unit {0}) true (c - a.since)) nothing a.section) r.0) (spent_first after n z inner) r.2,
              away_stays code p a.place ((kinds.Stop, []) ∷ (kinds.Stopped, []) ∷ []) t r.0 a.aways apart r.1 away,
            ),
          )

  pub sharing : SharingLaw
  sharing = record {
    stays = λ code levels s aways p o t h. ([], t, refl, h);
    moves = moves;
    restarts = restarts;
    begins = begins;
    redoes = redoes;
    answers = λ code levels a s more is has. ends_by code levels s _ a kinds.Answer (λ p o t h. answer_one calls resting code p o t (outer_of a) s more is has h);
    fails = λ code levels a s done. ends_by code levels s _ a kinds.Fail (λ p o t h. fail_one calls resting code p o t (outer_of a) s done h);
    spends = λ code levels a s is. ends_by code levels s _ a kinds.Spend (λ p o t h. spend_one calls resting settling code p o t (outer_of a) s is h);
    leaves = leaves;
    leaves_below = leaves_below;
    comes_back = comes_back;
    comes_back_below = comes_back_below;
    abandons = abandons;
  }
