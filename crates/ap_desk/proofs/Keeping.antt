-- What a desk keeps, after each of its calls.
use Rattle.std.proofs.Common.{◌≡◌, ℕ, ◌/◌, ◌<◌, ◌≤◌, Bool, true, false, List, [], ◌∷◌, ◌++◌, length, get_or, slice_get, Some, None, refl, sym, ap, ◌∙◌, subst, arith}
use Rattle.std.specs.Prelude.{Option, slice_set, MatchBool, MatchOption}
use Rattle.std.specs.List.{remove}
use Rattle.std.proofs.lemmas.Option.{none-some, slice_get_read}
use Rattle.atomic_table.specs.Seated.{TableId}
use Rattle.ap_board.specs.declared.ticket.Ticket.{Ticket}
use Rattle.ap_board.specs.declared.view.View.{View}
use Rattle.ap_board.specs.declared.view.Kind.{Kind}
use Rattle.ap_board.specs.declared.view.Kind.TheVariants.{Offer, Take, Stop, Finish}
use Rattle.ap_board.specs.declared.view.Cause.{Cause}
use Rattle.ap_board.specs.History.{nothing, keeps, has, after}
use Rattle.ap_board.specs.Rule.{logged, role, last_seen}
use Rattle.ap_board.specs.Causes.{noting, HasCause}
use Rattle.ap_board.proofs.Keeps.{role_logged, last_noting}
use Rattle.ap_desk.specs.declared.note.Note.{Note}
use Rattle.ap_desk.specs.Held.{AreHeld, IsFound, IsCauseAt, KeptBelow}
use Rattle.ap_desk.specs.Looks.{Looked}
use Rattle.ap_desk.specs.Offered.{fresh_note, taken_word, finished_word, out_of, taken_of, job_of, JobsStay, AreOut}
use Rattle.ap_desk.proofs.Rows.{at_last, same_at}
use Rattle.ap_desk.proofs.Holding.{noting_held, noting_found, takes_held, takes_found, ends_held, ends_found, elsewhere_held, elsewhere_found, has_cause, older}
use Rattle.ap_desk.proofs.Looking.{looked_held, looked_still}
use Rattle.ap_desk.proofs.Notes.{jobs_same, jobs_looked, jobs_stopped, jobs_elsewhere, tickets_elsewhere, notes_elsewhere, others_elsewhere, elsewhere_out, looked_at_note, looked_newer, stopped_out, offered_out, removed_out, changed_out}

-- what a contract sees of a desk
abbrev pub Seen : Type 0 → Type 0 → Type 0
Seen P O = TableId × View P O × List Ticket × Option ℕ × List Note

module _ {P O : Type 0} where
  abbrev pub Kept : View P O → ℕ → List Ticket → Option ℕ → List Note → Type 0
  Kept v slots ts a ns = AreHeld v slots ts × IsFound v ts a × AreOut v slots ns

  abbrev moved : (v w : View P O) (m n : ℕ) (ts us : List Ticket) (a : Option ℕ) (ns ms : List Note) → w ≡ v → n ≡ m → us ≡ ts → ms ≡ ns → Kept v m ts a ns → Kept w n us a ms
  moved v w m n ts us a ns ms e f g h k = subst (λ (y : View P O × ℕ × List Ticket × List Note). Kept y.0 y.1 y.2 a y.3) (λ i. (sym e i, sym f i, sym g i, sym h i)) k

  abbrev stay : (v u w : View P O) (ts us : List Ticket) (ns ms : List Note) → w ≡ u → us ≡ ts → ms ≡ ns → JobsStay v u ts ns → JobsStay v w us ms
  stay v u w ts us ns ms e f g k = subst (λ (y : View P O × List Ticket × List Note). JobsStay v y.0 y.1 y.2) (λ i. (sym e i, sym f i, sym g i)) k

  pub starts : (v : View P O) (slots : ℕ) → ((p r : ℕ) (x : P) (b : Bool) → role v p ≡ has r x b → ⊥) → Kept v slots [] None []
  starts v slots free = (
    record {
      below = λ i t e. absurd (none-some t e);
      held = λ i t e. absurd (none-some t e);
      apart = λ i j t u e f same. absurd (none-some t e);
      all = λ p r x b e. absurd (free p r x b e);
    },
    tt,
    record {
      below = λ i n e. absurd (none-some n e);
      own = λ i n e. absurd (none-some n e);
      out = λ i n e. absurd (none-some n e);
      seen = λ i n e gone. absurd (none-some n e);
      apart = λ i j n m e f same. absurd (none-some n e);
    },
  )

  pub taken : (v w : View P O) (m n : ℕ) (ts us : List Ticket) (t : Ticket) (x : P) (a : Option ℕ) (ns : List Note) → Kept v m ts a ns → t.pad < m → role v t.pad ≡ nothing
      → w ≡ logged v t.pad t.round (Take x) → n ≡ m → us ≡ ts ++ t ∷ [] → Kept w n us a ns
  taken v w m n ts us t x a ns k lt none is same longer = moved (logged v t.pad t.round (Take x)) w m n (ts ++ t ∷ []) us a ns ns is same longer refl
      (takes_held v m ts t x k.0 lt none, takes_found v ts t x a none k.1, elsewhere_out v t.pad t.round (Take x) m ns k.2 (notes_elsewhere v m ns t.pad k.2 (ap out_of none)))

  pub missed : (v w : View P O) (m n : ℕ) (ts us : List Ticket) (p word : ℕ) (a : Option ℕ) (ns : List Note) → Kept v m ts a ns → last_seen v p ≤ word → w ≡ noting v p word → n ≡ m → us ≡ ts → Kept w n us a ns
  missed v w m n ts us p word a ns k newer is same stays = moved (noting v p word) w m n ts us a ns ns is same stays refl (noting_held v m ts p word k.0, noting_found v ts p word a k.1, looked_newer v p word m ns k.2 newer)

  -- the word that was found, where what was seen didn't fall
  pub newer_by : (v w : View P O) (p word : ℕ) → w ≡ noting v p word → last_seen v p ≤ last_seen w p → last_seen v p ≤ word
  newer_by v w p word is rises = subst (λ (y : ℕ). last_seen v p ≤ y) (ap (λ (y : View P O). last_seen y p) is ∙ last_noting v p word) rises

  pub polled : (v w : View P O) (m n : ℕ) (ts : List Ticket) (a b : Option ℕ) (ns : List Note) → Kept v m ts a ns → Looked v ts w b → n ≡ m → Kept w n ts b ns
  polled v w m n ts a b ns k looked same = let held = looked_held v w m ts b looked k.0 in moved w w m n ts ts b ns ns refl same refl refl (held.0, held.1, looked_still v w m ts b ns looked k.0 k.2)

  pub ended : (v w : View P O) (m n : ℕ) (ts us : List Ticket) (t : Ticket) (y : O) (a b : Option ℕ) (ns : List Note) → Kept v m ts a ns → ts ≡ us ++ t ∷ [] → w ≡ logged v t.pad t.round (Finish y) → n ≡ m → KeptBelow a (length us) b → Kept w n us b ns
  ended v w m n ts us t y a b ns k split is same below = let old : Kept v m (us ++ t ∷ []) a ns = subst (λ (l : List Ticket). Kept v m l a ns) split k in let h = old.0.held (length us) t (at_last us t) in
      moved (logged v t.pad t.round (Finish y)) w m n us us b ns ns is same refl refl
      (ends_held v m us t y old.0, ends_found v m us t y a b old.0 old.1 below, elsewhere_out v t.pad t.round (Finish y) m ns k.2 (notes_elsewhere v m ns t.pad k.2 (ap out_of h.2)))

  pub last_below : (v : View P O) (m : ℕ) (ts us : List Ticket) (t : Ticket) (a : Option ℕ) (ns : List Note) → Kept v m ts a ns → ts ≡ us ++ t ∷ [] → t.pad < m
  last_below v m ts us t a ns k split = k.0.below (length us) t (ap (λ l. slice_get l (length us)) split ∙ at_last us t)

  -- what is asked for an outcome of the last goal
  pub may_end : (fits : P → O → Type 0) (v : View P O) (m : ℕ) (ts us : List Ticket) (t : Ticket) (y : O) (a : Option ℕ) (ns : List Note) (c : Cause) → Kept v m ts a ns → ts ≡ us ++ t ∷ []
      → ((x : P) (b : Bool) → role v t.pad ≡ has t.round x b → fits x y) → IsCauseAt c a (length us) → (x : P) × (b : Bool) × (role v t.pad ≡ has t.round x b) × fits x y × HasCause c v t.pad b
  may_end fits v m ts us t y a ns c k split fit cause = let old : Kept v m (us ++ t ∷ []) a ns = subst (λ (l : List Ticket). Kept v m l a ns) split k in let h = old.0.held (length us) t (at_last us t) in
      (h.0, h.1, h.2, fit h.0 h.1 h.2, has_cause v m us t a c h.0 h.1 old.0 old.1 h.2 cause)

  -- the same, from what a contract sees
  pub may_end_seen : (fits : P → O → Type 0) (c : Cause) (d e : Seen P O) (us : List Ticket) (t : Ticket) (y : O) → e ≡ d → Kept e.1 e.0.slots e.2 e.3 e.4 → e.2 ≡ us ++ t ∷ []
      → ((ts : List Ticket) (u : Ticket) → d.2 ≡ ts ++ u ∷ [] → (x : P) (b : Bool) → role d.1 u.pad ≡ has u.round x b → fits x y)
      → ((ts : List Ticket) (u : Ticket) → d.2 ≡ ts ++ u ∷ [] → IsCauseAt c d.3 (length ts))
      → (x : P) × (b : Bool) × (role e.1 t.pad ≡ has t.round x b) × fits x y × HasCause c e.1 t.pad b
  may_end_seen fits c d e us t y is k split fit cause =
      let f = subst (λ (z : Seen P O). (ts : List Ticket) (u : Ticket) → z.2 ≡ ts ++ u ∷ [] → (x : P) (b : Bool) → role z.1 u.pad ≡ has u.round x b → fits x y) (sym is) fit in
      let g = subst (λ (z : Seen P O). (ts : List Ticket) (u : Ticket) → z.2 ≡ ts ++ u ∷ [] → IsCauseAt c z.3 (length ts)) (sym is) cause in
      may_end fits e.1 e.0.slots e.2 us t y e.3 e.4 c k split (f us t split) (g us t split)

  -- a call on one of the seat's own pads
  own_call : (v : View P O) (m : ℕ) (ts : List Ticket) (a : Option ℕ) (ns ms : List Note) (p q : ℕ) (kind : Kind P O) → Kept v m ts a ns → taken_of (role v p) ≡ None → taken_of (after (role v p) q kind) ≡ None
      → AreOut (logged v p q kind) m ms → Kept (logged v p q kind) m ts a ms
  own_call v m ts a ns ms p q kind k none still left = (elsewhere_held v m ts p q kind k.0 none still, elsewhere_found v ts p q kind a k.1 none, left)

  pub offered : (v w : View P O) (m n : ℕ) (ts : List Ticket) (a : Option ℕ) (ns ms : List Note) (t : Ticket) (f p : ℕ) (x : P) → Kept v m ts a ns → role v t.pad ≡ keeps t.round → t.pad < m → t.pad / v.pads ≡ v.number
      → w ≡ logged v t.pad t.round (Offer x) → n ≡ m → ms ≡ ns ++ fresh_note t f p ∷ [] → Kept w n ts a ms
  offered v w m n ts a ns ms t f p x k free lt owned is same longer = moved (logged v t.pad t.round (Offer x)) w m n ts ts a (ns ++ fresh_note t f p ∷ []) ms is same refl longer
      (own_call v m ts a ns (ns ++ fresh_note t f p ∷ []) t.pad t.round (Offer x) k (ap taken_of free) refl (offered_out v m ns t f p x k.2 lt owned free))

  -- the pad of a note isn't one of which a goal was taken
  note_free : (v : View P O) (m : ℕ) (ns : List Note) (k : ℕ) (n : Note) → AreOut v m ns → slice_get ns k ≡ Some n → taken_of (role v n.ticket.pad) ≡ None
  note_free v m ns k n a at = ap taken_of (a.out k n at).1

  -- the goal of a note came back, or its outcome
  pub came_back : (v w : View P O) (m n : ℕ) (ts : List Ticket) (a : Option ℕ) (ns ms : List Note) (k : ℕ) (note : Note) (kind : Kind P O) → Kept v m ts a ns → slice_get ns k ≡ Some note
      → taken_of (after (role v note.ticket.pad) note.ticket.round kind) ≡ None → w ≡ logged v note.ticket.pad note.ticket.round kind → n ≡ m → ms ≡ remove ns k → Kept w n ts a ms
  came_back v w m n ts a ns ms k note kind kept at still is same without = let t : Ticket = note.ticket in moved (logged v t.pad t.round kind) w m n ts ts a (remove ns k) ms is same refl without
      (own_call v m ts a ns (remove ns k) t.pad t.round kind kept (note_free v m ns k note kept.2 at) still
      (elsewhere_out v t.pad t.round kind m (remove ns k) (removed_out v m ns k kept.2) (others_elsewhere v m ns k note kept.2 at)))

  -- the goal of a note is gone
  pub found_gone : (v w : View P O) (m n : ℕ) (ts : List Ticket) (a : Option ℕ) (ns ms : List Note) (k : ℕ) (note : Note) (word : ℕ) → Kept v m ts a ns → slice_get ns k ≡ Some note
      → taken_word note.ticket ≤ word → w ≡ noting v note.ticket.pad word → n ≡ m → ms ≡ slice_set ns k (record note { gone = true }) → Kept w n ts a ms
  found_gone v w m n ts a ns ms k note word kept at found is same changed = let p : ℕ = note.ticket.pad in let u : View P O = noting v p word in let new : Note = record note { gone = true } in
      moved u w m n ts ts a (slice_set ns k new) ms is same refl changed
      (noting_held v m ts p word kept.0, noting_found v ts p word a kept.1, changed_out u m ns k note new (looked_at_note v m ns k word note kept.2 at found) at refl (λ g. subst (λ (y : ℕ). taken_word note.ticket ≤ y) (sym (last_noting v p word)) found))

  -- the taker of a note's goal was asked to stop
  pub was_stopped : (v w : View P O) (m n : ℕ) (ts : List Ticket) (a : Option ℕ) (ns ms : List Note) (k : ℕ) (note : Note) (b : Bool) → Kept v m ts a ns → slice_get ns k ≡ Some note
      → note.gone ≡ true → MatchBool b (w ≡ logged v note.ticket.pad note.ticket.round Stop) (w ≡ noting v note.ticket.pad (finished_word note.ticket)) → n ≡ m → ms ≡ slice_set ns k (record note { asked = true }) → Kept w n ts a ms
  was_stopped v w m n ts a ns ms k note true kept at gone is same changed = let t : Ticket = note.ticket in let u : View P O = logged v t.pad t.round Stop in let new : Note = record note { asked = true } in
      let still = stopped_out v m ns k note kept.2 at in
      moved u w m n ts ts a (slice_set ns k new) ms is same refl changed
      (own_call v m ts a ns (slice_set ns k new) t.pad t.round Stop kept (note_free v m ns k note kept.2 at) (note_free v m ns k note kept.2 at) (changed_out u m ns k note new still at refl (λ g. still.seen k note at gone)))
  was_stopped v w m n ts a ns ms k note false kept at gone is same changed = let p : ℕ = note.ticket.pad in let word : ℕ = finished_word note.ticket in let u : View P O = noting v p word in let new : Note = record note { asked = true } in
      let still = looked_at_note v m ns k word note kept.2 at (omega arith) in
      moved u w m n ts ts a (slice_set ns k new) ms is same refl changed
      (noting_held v m ts p word kept.0, noting_found v ts p word a kept.1, changed_out u m ns k note new still at refl (λ g. still.seen k note at gone))

module _ {P O : Type 0} where
  -- the seat's goals after each call
  pub taken_jobs : (v w : View P O) (m : ℕ) (ts : List Ticket) (t : Ticket) (x : P) (a : Option ℕ) (ns : List Note) → Kept v m ts a ns → role v t.pad ≡ nothing → w ≡ logged v t.pad t.round (Take x) → JobsStay v w ts ns
  taken_jobs v w m ts t x a ns k none is = stay v (logged v t.pad t.round (Take x)) w ts ts ns ns is refl refl
      (jobs_elsewhere v t.pad t.round (Take x) ts ns (tickets_elsewhere v m ts t.pad k.0 (ap taken_of none)) (notes_elsewhere v m ns t.pad k.2 (ap out_of none)))

  pub missed_jobs : (v w : View P O) (p word : ℕ) (ts : List Ticket) (ns : List Note) → w ≡ noting v p word → JobsStay v w ts ns
  missed_jobs v w p word ts ns is = stay v (noting v p word) w ts ts ns ns is refl refl (jobs_looked v p word ts ns)

  pub same_jobs : (v w : View P O) (ts : List Ticket) (ns : List Note) → w ≡ v → JobsStay v w ts ns
  same_jobs v w ts ns is = stay v v w ts ts ns ns is refl refl (jobs_same v ts ns)

  pub ended_jobs : (v w : View P O) (m : ℕ) (ts us : List Ticket) (t : Ticket) (y : O) (a : Option ℕ) (ns : List Note) → Kept v m ts a ns → ts ≡ us ++ t ∷ [] → w ≡ logged v t.pad t.round (Finish y) → JobsStay v w us ns
  ended_jobs v w m ts us t y a ns k split is = let old : AreHeld v m (us ++ t ∷ []) = subst (λ (l : List Ticket). AreHeld v m l) split k.0 in let h = old.held (length us) t (at_last us t) in
      stay v (logged v t.pad t.round (Finish y)) w us us ns ns is refl refl (jobs_elsewhere v t.pad t.round (Finish y) us ns (older v m us t old) (notes_elsewhere v m ns t.pad k.2 (ap out_of h.2)))

  pub offered_jobs : (v w : View P O) (m : ℕ) (ts : List Ticket) (t : Ticket) (x : P) (a : Option ℕ) (ns : List Note) → Kept v m ts a ns → role v t.pad ≡ keeps t.round → w ≡ logged v t.pad t.round (Offer x) → JobsStay v w ts ns
  offered_jobs v w m ts t x a ns k free is = stay v (logged v t.pad t.round (Offer x)) w ts ts ns ns is refl refl
      (jobs_elsewhere v t.pad t.round (Offer x) ts ns (tickets_elsewhere v m ts t.pad k.0 (ap taken_of free)) (notes_elsewhere v m ns t.pad k.2 (ap out_of free)))

  pub offered_job : (v w : View P O) (t : Ticket) (f p : ℕ) (x : P) → w ≡ logged v t.pad t.round (Offer x) → job_of w (fresh_note t f p) ≡ Some x
  offered_job v w t f p x is = ap (λ (y : View P O). out_of (role y t.pad)) is ∙ ap out_of (role_logged v t.pad t.round (Offer x))

  pub came_back_jobs : (v w : View P O) (m : ℕ) (ts : List Ticket) (a : Option ℕ) (ns ms : List Note) (k : ℕ) (note : Note) (kind : Kind P O) → Kept v m ts a ns → slice_get ns k ≡ Some note
      → w ≡ logged v note.ticket.pad note.ticket.round kind → ms ≡ remove ns k → JobsStay v w ts ms
  came_back_jobs v w m ts a ns ms k note kind kept at is without = let t : Ticket = note.ticket in stay v (logged v t.pad t.round kind) w ts ts (remove ns k) ms is refl without
      (jobs_elsewhere v t.pad t.round kind ts (remove ns k) (tickets_elsewhere v m ts t.pad kept.0 (note_free v m ns k note kept.2 at)) (others_elsewhere v m ns k note kept.2 at))

  pub stopped_jobs : (v w : View P O) (p q word : ℕ) (b : Bool) (ts : List Ticket) (ns : List Note) → MatchBool b (w ≡ logged v p q Stop) (w ≡ noting v p word) → JobsStay v w ts ns
  stopped_jobs v w p q word true ts ns is = stay v (logged v p q Stop) w ts ts ns ns is refl refl (jobs_stopped v p q ts ns)
  stopped_jobs v w p q word false ts ns is = missed_jobs v w p word ts ns is

  -- what is said of a note as the fields have it, and as a contract does
  pub note_at : (d e : Seen P O) (k : ℕ) (note : Note) → e ≡ d → k < length d.4 → note ≡ get_or e.4 k note → slice_get e.4 k ≡ Some note
  note_at d e k note is within read = slice_get_read e.4 (length e.4) k note refl (subst (λ (z : Seen P O). k < length z.4) (sym is) within) read

  pub of_note : (F : Seen P O → Note → Type 0) (d e : Seen P O) (k : ℕ) (note : Note) → e ≡ d → slice_get e.4 k ≡ Some note → F e note → (n : Note) → slice_get d.4 k ≡ Some n → F d n
  of_note F d e k note is at told n there = subst (λ (z : Seen P O). F z n) is (subst (λ (y : Note). F e y) (same_at e.4 k note n at (ap (λ (z : Seen P O). slice_get z.4 k) is ∙ there)) told)

pub at_none : {A Y : Type 0} (B : Y → Type 0) (r : Option Y) → r ≡ None → A → MatchOption r A B
at_none B None e a = a
at_none B (Some y) e a = absurd (none-some y (sym e))
