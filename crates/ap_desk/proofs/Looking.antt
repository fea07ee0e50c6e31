-- Looks, one after another.
use Rattle.std.proofs.Common.{◌≡◌, ◌≢◌, ℕ, zero, suc, ◌+◌, ◌/◌, List, [], ◌∷◌, ◌++◌, length, slice_get, Some, None, true, refl, sym, ap, ◌∙◌, subst, arith}
use Rattle.std.specs.Prelude.{Option}
use Rattle.std.proofs.lemmas.Option.{none-some, cond_some}
use Rattle.ap_board.specs.declared.ticket.Ticket.{Ticket}
use Rattle.ap_board.specs.declared.view.View.{View}
use Rattle.ap_board.specs.declared.view.Kind.TheVariants.{Look}
use Rattle.ap_board.specs.Rule.{role}
use Rattle.ap_board.specs.Causes.{noting}
use Rattle.ap_desk.specs.Held.{AreHeld, WasAsked, IsFound}
use Rattle.ap_desk.specs.Looks.{asked_word, NoneAsked, noting_each, Looked}
use Rattle.ap_desk.specs.declared.note.Note.{Note}
use Rattle.ap_desk.specs.Offered.{out_of, JobsStay, AreOut}
use Rattle.ap_desk.proofs.Holding.{noting_held, finds_asked}
use Rattle.ap_desk.proofs.Notes.{look_same, jobs_same, jobs_then, jobs_looked, elsewhere_out, notes_elsewhere}

one_longer : (ns : List ℕ) (n : ℕ) → length (ns ++ n ∷ []) ≡ suc (length ns)
one_longer [] n = refl
one_longer (m ∷ ns) n = ap suc (one_longer ns n)

none_more : (ts : List Ticket) (ns : List ℕ) (t : Ticket) (n : ℕ) → NoneAsked ts ns → slice_get ts (length ns) ≡ Some t → n ≢ asked_word t → NoneAsked ts (ns ++ n ∷ [])
none_more [] [] t n k at ne = absurd (none-some t at)
none_more [] (m ∷ ns) t n k at ne = absurd k
none_more (s ∷ ts) [] t n k at ne = ((λ e. ne (e ∙ ap asked_word (cond_some true s t at).1)), tt)
none_more (s ∷ ts) (m ∷ ns) t n k at ne = (k.0, none_more ts ns t n k.1 at ne)

module _ {P O : Type 0} where
  each_more : (v : View P O) (ts : List Ticket) (ns : List ℕ) (t : Ticket) (n : ℕ) → slice_get ts (length ns) ≡ Some t → noting_each v ts (ns ++ n ∷ []) ≡ noting (noting_each v ts ns) t.pad n
  each_more v [] [] t n at = absurd (none-some t at)
  each_more v [] (m ∷ ns) t n at = absurd (none-some t at)
  each_more v (s ∷ ts) [] t n at = ap (λ (u : Ticket). noting v u.pad n) (cond_some true s t at).1
  each_more v (s ∷ ts) (m ∷ ns) t n at = each_more (noting v s.pad m) ts ns t n at

  each_held : (v : View P O) (slots : ℕ) (ts us : List Ticket) (ns : List ℕ) → AreHeld v slots ts → AreHeld (noting_each v us ns) slots ts
  each_held v slots ts us [] k = k
  each_held v slots ts [] (n ∷ ns) k = k
  each_held v slots ts (u ∷ us) (n ∷ ns) k = each_held (noting v u.pad n) slots ts us ns (noting_held v slots ts u.pad n k)

  -- so many looks found no taker asked to stop
  abbrev pub Seen : View P O → List Ticket → ℕ → View P O → Type 0
  Seen v ts i w = (ns : List ℕ) × (length ns ≡ i) × NoneAsked ts ns × (w ≡ noting_each v ts ns)

  pub unseen : (v : View P O) (ts : List Ticket) → Seen v ts 0 v
  unseen v ts = ([], refl, none ts, start ts)
    where
      none : (us : List Ticket) → NoneAsked us []
      none us = tt

      start : (us : List Ticket) → v ≡ noting_each v us []
      start us = refl

  pub sees : (v w u : View P O) (ts : List Ticket) (i n : ℕ) (t : Ticket) → Seen v ts i w → slice_get ts i ≡ Some t → u ≡ noting w t.pad n → n ≢ asked_word t → Seen v ts (i + 1) u
  sees v w u ts i n t s at is ne = let here : slice_get ts (length s.0) ≡ Some t = ap (slice_get ts) s.1 ∙ at in let long = one_longer s.0 n in let was = s.1 in
      (s.0 ++ n ∷ [], (omega (arith, long, was)), none_more ts s.0 t n s.2 here ne, is ∙ ap (λ (y : View P O). noting y t.pad n) s.3 ∙ sym (each_more v ts s.0 t n here))

  pub seen_asked : (v w u : View P O) (ts : List Ticket) (i n : ℕ) (t : Ticket) → Seen v ts i w → slice_get ts i ≡ Some t → u ≡ noting w t.pad n → n ≡ asked_word t → Looked v ts u (Some i)
  seen_asked v w u ts i n t s at is e = (s.0, t, s.1, at, s.2, is ∙ ap (λ m. noting w t.pad m) e ∙ ap (λ (y : View P O). noting y t.pad (asked_word t)) s.3)

  pub seen_all : (v w : View P O) (ts : List Ticket) (i : ℕ) → Seen v ts i w → i ≡ length ts → Looked v ts w None
  seen_all v w ts i s is = (s.0, s.1 ∙ is, s.2, s.3)

  pub looked_held : (v w : View P O) (slots : ℕ) (ts : List Ticket) (a : Option ℕ) → Looked v ts w a → AreHeld v slots ts → AreHeld w slots ts × IsFound w ts a
  looked_held v w slots ts None l k = (subst (λ (y : View P O). AreHeld y slots ts) (sym l.3) (each_held v slots ts ts l.0 k), tt)
  looked_held v w slots ts (Some i) l k = let u : View P O = noting_each v ts l.0 in let held : AreHeld u slots ts = each_held v slots ts ts l.0 k in (
    subst (λ (y : View P O). AreHeld y slots ts) (sym l.5) (noting_held u slots ts (l.1).pad (asked_word l.1) held),
    subst (λ (y : View P O). WasAsked y ts i) (sym l.5) (finds_asked u slots ts i l.1 held l.3),
  )

  -- nor is any goal of the seat's own another one, or less seen
  abbrev NoneOut : View P O → List Ticket → Type 0
  NoneOut v ts = (i : ℕ) (t : Ticket) → slice_get ts i ≡ Some t → out_of (role v t.pad) ≡ None

  none_out : (v : View P O) (slots : ℕ) (ts : List Ticket) → AreHeld v slots ts → NoneOut v ts
  none_out v slots ts k i t e = ap out_of (k.held i t e).2

  each_jobs : (v : View P O) (us : List Ticket) (ms : List ℕ) (ts : List Ticket) (ns : List Note) → JobsStay v (noting_each v us ms) ts ns
  each_jobs v us [] ts ns = jobs_same v ts ns
  each_jobs v [] (m ∷ ms) ts ns = jobs_same v ts ns
  each_jobs v (u ∷ us) (m ∷ ms) ts ns = jobs_then v (noting v u.pad m) (noting_each (noting v u.pad m) us ms) ts ns (jobs_looked v u.pad m ts ns) (each_jobs (noting v u.pad m) us ms ts ns)

  look_out : (v : View P O) (slots p m : ℕ) (ns : List Note) → out_of (role v p) ≡ None → AreOut v slots ns → AreOut (noting v p m) slots ns
  look_out v slots p m ns none a = elsewhere_out v p (m / 8) (Look m) slots ns a (notes_elsewhere v slots ns p a none)

  each_out : (v : View P O) (slots : ℕ) (us : List Ticket) (ms : List ℕ) (ns : List Note) → NoneOut v us → AreOut v slots ns → AreOut (noting_each v us ms) slots ns
  each_out v slots us [] ns none a = a
  each_out v slots [] (m ∷ ms) ns none a = a
  each_out v slots (u ∷ us) (m ∷ ms) ns none a = each_out (noting v u.pad m) slots us ms ns (λ i t e. (look_same v u.pad m t.pad).1 ∙ none (suc i) t e) (look_out v slots u.pad m ns (none zero u refl) a)

  pub looked_stays : (v w : View P O) (ts : List Ticket) (a : Option ℕ) (us : List Ticket) (ns : List Note) → Looked v ts w a → JobsStay v w us ns
  looked_stays v w ts None us ns l = subst (λ (y : View P O). JobsStay v y us ns) (sym l.3) (each_jobs v ts l.0 us ns)
  looked_stays v w ts (Some i) us ns l = let u : View P O = noting_each v ts l.0 in
      subst (λ (y : View P O). JobsStay v y us ns) (sym l.5) (jobs_then v u (noting u (l.1).pad (asked_word l.1)) us ns (each_jobs v ts l.0 us ns) (jobs_looked u (l.1).pad (asked_word l.1) us ns))

  pub looked_still : (v w : View P O) (slots : ℕ) (ts : List Ticket) (a : Option ℕ) (ns : List Note) → Looked v ts w a → AreHeld v slots ts → AreOut v slots ns → AreOut w slots ns
  looked_still v w slots ts None ns l k a = subst (λ (y : View P O). AreOut y slots ns) (sym l.3) (each_out v slots ts l.0 ns (none_out v slots ts k) a)
  looked_still v w slots ts (Some i) ns l k a = let u : View P O = noting_each v ts l.0 in let none = none_out u slots ts (each_held v slots ts ts l.0 k) i l.1 l.3 in
      subst (λ (y : View P O). AreOut y slots ns) (sym l.5) (look_out u slots (l.1).pad (asked_word l.1) ns none (each_out v slots ts l.0 ns (none_out v slots ts k) a))
