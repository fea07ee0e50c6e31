-- Each call keeps the notes true of the seat's view.
use Rattle.std.proofs.Common.{◌≡◌, ◌≢◌, ◌⊎◌, ⊎_elim, inl, inr, ℕ, suc, ◌/◌, ◌<◌, ◌≤◌, true, List, [], ◌∷◌, ◌++◌, slice_get, Some, None, refl, sym, ap, ◌∙◌, subst, arith}
use Rattle.std.specs.Prelude.{slice_set}
use Rattle.std.specs.List.{remove}
use Rattle.std.proofs.lemmas.Option.{none-some}
use Rattle.std.proofs.lemmas.Bool.{false≢true}
use mathlib.Core.Logic.{dite}
use native.Mathlib.Decide.{ℕ_discrete}
use Rattle.ap_board.specs.declared.ticket.Ticket.{Ticket}
use Rattle.ap_board.specs.declared.view.View.{View}
use Rattle.ap_board.specs.declared.view.Kind.{Kind}
use Rattle.ap_board.specs.declared.view.Kind.TheVariants.{Offer, Stop, Look}
use Rattle.ap_board.specs.History.{Role, nothing, keeps, out, has, noted, last_of}
use Rattle.ap_board.specs.Rule.{logged, role, last_seen}
use Rattle.ap_board.specs.Causes.{noting}
use Rattle.ap_board.proofs.Keeps.{role_logged, on_other, last_logged, last_noting}
use Rattle.ap_desk.specs.declared.note.Note.{Note}
use Rattle.ap_desk.specs.Held.{AreHeld}
use Rattle.ap_desk.specs.Offered.{fresh_note, taken_word, out_of, taken_of, JobsStay, AreOut}
use Rattle.ap_desk.proofs.Rows.{there_or_last, same_at, stood_at, changed_or_other}
use Rattle.ap_desk.proofs.Holding.{role_other, looked_at, not_taken}

module _ {P : Type 0} where
  noted_same : (s : Role P) (n : ℕ) → (taken_of (noted s n) ≡ taken_of s) × (out_of (noted s n) ≡ out_of s)
  noted_same nothing n = (refl, refl)
  noted_same (keeps r) n = (refl, refl)
  noted_same (out r x) n = (refl, refl)
  noted_same (has r x b) n = (refl, refl)

  noted_out : (s : Role P) (n r : ℕ) (x : P) → s ≡ out r x → noted s n ≡ out r x
  noted_out s n r x e = ap (λ (t : Role P). noted t n) e

module _ {P O : Type 0} where
  pub jobs_from : (v w : View P O) (ts : List Ticket) (ns : List Note) → ((z : ℕ) → (taken_of (role w z) ≡ taken_of (role v z)) × (out_of (role w z) ≡ out_of (role v z))) → JobsStay v w ts ns
  jobs_from v w ts ns same = record { goals = λ i t e. (same t.pad).0; jobs = λ i n e. (same n.ticket.pad).1 }

  pub jobs_same : (v : View P O) (ts : List Ticket) (ns : List Note) → JobsStay v v ts ns
  jobs_same v ts ns = jobs_from v v ts ns (λ z. (refl, refl))

  pub jobs_then : (v w u : View P O) (ts : List Ticket) (ns : List Note) → JobsStay v w ts ns → JobsStay w u ts ns → JobsStay v u ts ns
  jobs_then v w u ts ns a b = record { goals = λ i t e. b.goals i t e ∙ a.goals i t e; jobs = λ i n e. b.jobs i n e ∙ a.jobs i n e }

  -- a look
  pub look_same : (v : View P O) (p n z : ℕ) → (taken_of (role (noting v p n) z) ≡ taken_of (role v z)) × (out_of (role (noting v p n) z) ≡ out_of (role v z))
  look_same v p n z = let same = noted_same (role v z) n in ⊎_elim
      (λ (l : role (noting v p n) z ≡ noted (role v z) n). (ap taken_of l ∙ same.0, ap out_of l ∙ same.1))
      (λ (o : role (noting v p n) z ≡ role v z). (ap taken_of o, ap out_of o))
      (looked_at v p n z)

  pub stop_role : (v : View P O) (p q z : ℕ) → role (logged v p q Stop) z ≡ role v z
  stop_role v p q z = dite (ℕ_discrete z p)
      (λ (is : z ≡ p). subst (λ (y : ℕ). role (logged v p q Stop) y ≡ role v y) (sym is) (role_logged v p q Stop))
      (λ (ne : z ≢ p). role_other v p q z Stop ne)

  pub jobs_looked : (v : View P O) (p n : ℕ) (ts : List Ticket) (ns : List Note) → JobsStay v (noting v p n) ts ns
  jobs_looked v p n ts ns = jobs_from v (noting v p n) ts ns (look_same v p n)

  pub jobs_stopped : (v : View P O) (p q : ℕ) (ts : List Ticket) (ns : List Note) → JobsStay v (logged v p q Stop) ts ns
  jobs_stopped v p q ts ns = jobs_from v (logged v p q Stop) ts ns (λ z. (ap taken_of (stop_role v p q z), ap out_of (stop_role v p q z)))

  -- a call on another pad than those of the tickets and notes
  pub jobs_elsewhere : (v : View P O) (p q : ℕ) (kind : Kind P O) (ts : List Ticket) (ns : List Note) → ((i : ℕ) (t : Ticket) → slice_get ts i ≡ Some t → t.pad ≢ p) → ((i : ℕ) (n : Note) → slice_get ns i ≡ Some n → n.ticket.pad ≢ p)
      → JobsStay v (logged v p q kind) ts ns
  jobs_elsewhere v p q kind ts ns a b = record {
    goals = λ i t e. ap taken_of (role_other v p q t.pad kind (a i t e));
    jobs = λ i n e. ap out_of (role_other v p q n.ticket.pad kind (b i n e));
  }

  -- the pads of tickets and of notes are others than one on which no goal was taken, and none is out
  pub tickets_elsewhere : (v : View P O) (slots : ℕ) (ts : List Ticket) (p : ℕ) → AreHeld v slots ts → taken_of (role v p) ≡ None → (i : ℕ) (t : Ticket) → slice_get ts i ≡ Some t → t.pad ≢ p
  tickets_elsewhere v slots ts p k none i t e = let h = k.held i t e in not_taken v p t.pad t.round h.0 h.1 none h.2

  pub notes_elsewhere : (v : View P O) (slots : ℕ) (ns : List Note) (p : ℕ) → AreOut v slots ns → out_of (role v p) ≡ None → (i : ℕ) (n : Note) → slice_get ns i ≡ Some n → n.ticket.pad ≢ p
  notes_elsewhere v slots ns p k none i n e is = let h = k.out i n e in none-some h.0 (sym none ∙ ap (λ z. out_of (role v z)) (sym is) ∙ ap out_of h.1)

  -- those of the other notes are others than that of one
  pub others_elsewhere : (v : View P O) (slots : ℕ) (ns : List Note) (k : ℕ) (n : Note) → AreOut v slots ns → slice_get ns k ≡ Some n → (i : ℕ) (m : Note) → slice_get (remove ns k) i ≡ Some m → m.ticket.pad ≢ n.ticket.pad
  others_elsewhere v slots ns k n a at i m e is = let s = stood_at ns k i m e in s.2 (a.apart s.0 k m n s.1 at is)

  -- a note of which the view says the same
  abbrev Firm : View P O → View P O → Note → Type 0
  Firm v w n = (role w n.ticket.pad ≡ role v n.ticket.pad) × (taken_word n.ticket ≤ last_seen v n.ticket.pad → taken_word n.ticket ≤ last_seen w n.ticket.pad)

  firm_out : (v w : View P O) (slots : ℕ) (ns : List Note) → AreOut v slots ns → w.number ≡ v.number → w.pads ≡ v.pads → ((i : ℕ) (n : Note) → slice_get ns i ≡ Some n → Firm v w n) → AreOut w slots ns
  firm_out v w slots ns k number pads firm = record {
    below = k.below;
    own = λ i n e. ap (λ z. n.ticket.pad / z) pads ∙ k.own i n e ∙ sym number;
    out = λ i n e. let h = k.out i n e in (h.0, (firm i n e).0 ∙ h.1);
    seen = λ i n e gone. (firm i n e).1 (k.seen i n e gone);
    apart = k.apart;
  }

  firm_else : (v : View P O) (p q : ℕ) (kind : Kind P O) (n : Note) → n.ticket.pad ≢ p → Firm v (logged v p q kind) n
  firm_else v p q kind n ne = (role_other v p q n.ticket.pad kind ne, (λ l. subst (λ (y : ℕ). taken_word n.ticket ≤ y) (sym (last_other v p q n.ticket.pad kind ne)) l))
    where
      last_other : (v : View P O) (p q z : ℕ) (kind : Kind P O) → z ≢ p → last_seen (logged v p q kind) z ≡ last_seen v z
      last_other v p q z kind ne = ap (last_of 0) (on_other v p q z kind (λ e. ne (sym e)))

  pub elsewhere_out : (v : View P O) (p q : ℕ) (kind : Kind P O) (slots : ℕ) (ns : List Note) → AreOut v slots ns → ((i : ℕ) (n : Note) → slice_get ns i ≡ Some n → n.ticket.pad ≢ p) → AreOut (logged v p q kind) slots ns
  elsewhere_out v p q kind slots ns k ne = firm_out v (logged v p q kind) slots ns k refl refl (λ i n e. firm_else v p q kind n (ne i n e))

  -- a look that finds no older word than the notes on its pad know of
  pub looked_out : (v : View P O) (p n : ℕ) (slots : ℕ) (ns : List Note) → AreOut v slots ns → ((i : ℕ) (m : Note) → slice_get ns i ≡ Some m → m.ticket.pad ≡ p → taken_word m.ticket ≤ last_seen v p → taken_word m.ticket ≤ n) → AreOut (noting v p n) slots ns
  looked_out v p n slots ns k found = firm_out v (noting v p n) slots ns k refl refl (λ i m e. dite (ℕ_discrete m.ticket.pad p)
      (λ (is : m.ticket.pad ≡ p). firm_here i m e is)
      (λ (ne : m.ticket.pad ≢ p). firm_else v p (n / 8) (Look n) m ne))
    where
      firm_here : (i : ℕ) (m : Note) → slice_get ns i ≡ Some m → m.ticket.pad ≡ p → Firm v (noting v p n) m
      firm_here i m e is = let h = k.out i m e in let here : role v p ≡ out m.ticket.round h.0 = ap (role v) (sym is) ∙ h.1 in (
        ap (role (noting v p n)) is ∙ role_logged v p (n / 8) (Look n) ∙ noted_out (role v p) n m.ticket.round h.0 here ∙ sym h.1,
        (λ l. subst (λ (y : ℕ). taken_word m.ticket ≤ last_seen (noting v p n) y) (sym is) (subst (λ (y : ℕ). taken_word m.ticket ≤ y) (sym (last_noting v p n)) (found i m e is (subst (λ (y : ℕ). taken_word m.ticket ≤ last_seen v y) is l)))),
      )

  pub note_on : (v : View P O) (slots : ℕ) (ns : List Note) (k i : ℕ) (n m : Note) → AreOut v slots ns → slice_get ns k ≡ Some n → slice_get ns i ≡ Some m → m.ticket.pad ≡ n.ticket.pad → n ≡ m
  note_on v slots ns k i n m a at e is = same_at ns k n m at (subst (λ (j : ℕ). slice_get ns j ≡ Some m) (a.apart i k m n e at is) e)

  -- a look at a note's pad that finds that its goal was taken
  pub looked_at_note : (v : View P O) (slots : ℕ) (ns : List Note) (k word : ℕ) (n : Note) → AreOut v slots ns → slice_get ns k ≡ Some n → taken_word n.ticket ≤ word → AreOut (noting v n.ticket.pad word) slots ns
  looked_at_note v slots ns k word n a at found = looked_out v n.ticket.pad word slots ns a (λ i m e is l. subst (λ (y : Note). taken_word y.ticket ≤ word) (note_on v slots ns k i n m a at e is) found)

  pub looked_newer : (v : View P O) (p word slots : ℕ) (ns : List Note) → AreOut v slots ns → last_seen v p ≤ word → AreOut (noting v p word) slots ns
  looked_newer v p word slots ns a newer = let seen : ℕ = last_seen v p in looked_out v p word slots ns a (λ i m e is l. omega (arith, l, newer))

  -- the taker of a note's goal was asked to stop
  pub stopped_out : (v : View P O) (slots : ℕ) (ns : List Note) (k : ℕ) (n : Note) → AreOut v slots ns → slice_get ns k ≡ Some n → AreOut (logged v n.ticket.pad n.ticket.round Stop) slots ns
  stopped_out v slots ns k n a at = firm_out v w slots ns a refl refl (λ i m e. dite (ℕ_discrete m.ticket.pad p)
      (λ (is : m.ticket.pad ≡ p). (stop_role v p q m.ticket.pad, (λ l. subst (λ (y : Note). taken_word y.ticket ≤ last_seen w y.ticket.pad) (note_on v slots ns k i n m a at e is) seen)))
      (λ (ne : m.ticket.pad ≢ p). firm_else v p q Stop m ne))
    where
      p : ℕ
      p = n.ticket.pad

      q : ℕ
      q = n.ticket.round

      w : View P O
      w = logged v p q Stop

      seen : taken_word n.ticket ≤ last_seen w p
      seen = subst (λ (y : ℕ). taken_word n.ticket ≤ y) (sym (last_logged v p q Stop)) (omega arith)

  -- a goal was offered
  pub offered_out : (v : View P O) (slots : ℕ) (ns : List Note) (t : Ticket) (f p : ℕ) (x : P) → AreOut v slots ns → t.pad < slots → t.pad / v.pads ≡ v.number → role v t.pad ≡ keeps t.round
      → AreOut (logged v t.pad t.round (Offer x)) slots (ns ++ fresh_note t f p ∷ [])
  offered_out v slots ns t f p x k lt owned free = record {
    below = λ i m e. ⊎_elim (λ l. k.below i m l) (λ l. subst (λ (y : Note). y.ticket.pad < slots) l.1 lt) (there_or_last ns new i m e);
    own = λ i m e. ⊎_elim (λ l. k.own i m l) (λ l. subst (λ (y : Note). y.ticket.pad / v.pads ≡ v.number) l.1 owned) (there_or_last ns new i m e);
    out = λ i m e. ⊎_elim (λ l. old.out i m l) (λ l. subst (λ (y : Note). (z : P) × (role w y.ticket.pad ≡ out y.ticket.round z)) l.1 (x, role_logged v t.pad t.round (Offer x))) (there_or_last ns new i m e);
    seen = λ i m e gone. ⊎_elim (λ l. old.seen i m l gone) (λ l. absurd (false≢true (ap (λ (y : Note). y.gone) l.1 ∙ gone))) (there_or_last ns new i m e);
    apart = λ i j a b e f' same. ⊎_elim
        (λ l. ⊎_elim (λ m. k.apart i j a b l m same) (λ m. absurd (fresh i a l (same ∙ ap (λ (y : Note). y.ticket.pad) (sym m.1)))) (there_or_last ns new j b f'))
        (λ l. ⊎_elim (λ m. absurd (fresh j b m (sym same ∙ ap (λ (y : Note). y.ticket.pad) (sym l.1)))) (λ m. l.0 ∙ sym m.0) (there_or_last ns new j b f'))
        (there_or_last ns new i a e);
  }
    where
      w : View P O
      w = logged v t.pad t.round (Offer x)

      new : Note
      new = fresh_note t f p

      fresh : (i : ℕ) (m : Note) → slice_get ns i ≡ Some m → m.ticket.pad ≢ t.pad
      fresh = notes_elsewhere v slots ns t.pad k (ap out_of free)

      old : AreOut w slots ns
      old = elsewhere_out v t.pad t.round (Offer x) slots ns k fresh

  -- a note was taken out
  pub removed_out : (v : View P O) (slots : ℕ) (ns : List Note) (k : ℕ) → AreOut v slots ns → AreOut v slots (remove ns k)
  removed_out v slots ns k a = record {
    below = λ i m e. let s = stood_at ns k i m e in a.below s.0 m s.1;
    own = λ i m e. let s = stood_at ns k i m e in a.own s.0 m s.1;
    out = λ i m e. let s = stood_at ns k i m e in a.out s.0 m s.1;
    seen = λ i m e. let s = stood_at ns k i m e in a.seen s.0 m s.1;
    apart = λ i j m n e f is. let s = stood_at ns k i m e in let t = stood_at ns k j n f in same_place k i j s.0 t.0 (a.apart s.0 t.0 m n s.1 t.1 is) s.3 t.3;
  }
    where
      same_place : (k i j a b : ℕ) → a ≡ b → ((i < k) × (a ≡ i)) ⊎ ((k ≤ i) × (a ≡ suc i)) → ((j < k) × (b ≡ j)) ⊎ ((k ≤ j) × (b ≡ suc j)) → i ≡ j
      same_place k i j a b is (inl l) (inl r) = let x = l.1 in let y = r.1 in omega (arith, is, x, y)
      same_place k i j a b is (inl l) (inr r) = let x = l.1 in let y = r.1 in let z = l.0 in let u = r.0 in absurd (omega (arith, is, x, y, z, u))
      same_place k i j a b is (inr l) (inl r) = let x = l.1 in let y = r.1 in let z = l.0 in let u = r.0 in absurd (omega (arith, is, x, y, z, u))
      same_place k i j a b is (inr l) (inr r) = let x = l.1 in let y = r.1 in omega (arith, is, x, y)

  -- a note was exchanged for one of the same offer
  pub changed_out : (v : View P O) (slots : ℕ) (ns : List Note) (k : ℕ) (n m : Note) → AreOut v slots ns → slice_get ns k ≡ Some n → m.ticket ≡ n.ticket → (m.gone ≡ true → taken_word n.ticket ≤ last_seen v n.ticket.pad) → AreOut v slots (slice_set ns k m)
  changed_out v slots ns k n m a at same gone = record {
    below = λ i u e. let s = stood i u e in subst (λ (t : Ticket). t.pad < slots) s.2 (a.below i s.0 s.1);
    own = λ i u e. let s = stood i u e in subst (λ (t : Ticket). t.pad / v.pads ≡ v.number) s.2 (a.own i s.0 s.1);
    out = λ i u e. let s = stood i u e in subst (λ (t : Ticket). (x : P) × (role v t.pad ≡ out t.round x)) s.2 (a.out i s.0 s.1);
    seen = λ i u e is. ⊎_elim
        (λ l. subst (λ (t : Ticket). taken_word t ≤ last_seen v t.pad) (sym same ∙ ap (λ (y : Note). y.ticket) l.1) (gone (ap (λ (y : Note). y.gone) l.1 ∙ is)))
        (λ l. a.seen i u l is)
        (changed_or_other ns k i m u e);
    apart = λ i j u w e f is. let s = stood i u e in let t = stood j w f in a.apart i j s.0 t.0 s.1 t.1 (ap (λ (y : Ticket). y.pad) s.2 ∙ is ∙ sym (ap (λ (y : Ticket). y.pad) t.2));
  }
    where
      -- the note that stood there, with the same ticket
      stood : (i : ℕ) (u : Note) → slice_get (slice_set ns k m) i ≡ Some u → (w : Note) × (slice_get ns i ≡ Some w) × (w.ticket ≡ u.ticket)
      stood i u e = ⊎_elim
          (λ l. (n, subst (λ (j : ℕ). slice_get ns j ≡ Some n) (sym l.0) at, sym same ∙ ap (λ (y : Note). y.ticket) l.1))
          (λ l. (u, l, refl))
          (changed_or_other ns k i m u e)
