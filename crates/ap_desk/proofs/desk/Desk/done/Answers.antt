use Rattle.std.proofs.Common.{◌≡◌, ◌∙◌, ℕ, refl, ap, subst}
use Rattle.std.specs.Prelude.{IsTrue, ◌↔◌}
use Rattle.ap_board.specs.Rule.{last_seen}
use Rattle.ap_board.specs.Causes.{noting}
use Rattle.ap_board.proofs.Keeps.{last_noting}
use Rattle.ap_desk.specs.declared.note.Note.{Note}
use Rattle.ap_desk.specs.Offered.{JobsStay, finished_word}
use Rattle.ap_desk.proofs.Keeping.{Seen, missed, missed_jobs, newer_by, note_at, of_note}
use Rattle.ap_desk.proofs.desk.Desk.done.Goals as goal

pub invariant_of-self : goal.invariant_of-self
invariant_of-self g c = let s = c.self.inside in let note : Note = c.index.result.now in let t = c.done.ensures.told in let w = c.done.new.seat.1 in
    missed s.seat.1 w _ _ s.tickets.items _ note.ticket.pad t.0 s.asked s.notes.items c.self.invariant (newer_by s.seat.1 w note.ticket.pad t.0 t.2 t.1) t.2 (ap (λ z. z.slots) c.done.ensures.table) refl

pub returns-clause-told : goal.returns-clause-told
returns-clause-told g c = let s = c.self.inside in let note : Note = c.index.result.now in let e : Seen g.row.P.Denot g.row.O.Denot = (s.seat.0, s.seat.1, s.tickets.items, s.asked, s.notes.items) in
    let at = note_at c.args.self.now e c.args.k note c.self.view_is c.requires.place c.index.ensures in let t = c.done.ensures.told in let w = c.done.new.seat.1 in
    of_note (λ z n. (x : ℕ) × (w ≡ noting z.1 n.ticket.pad x) × (last_seen w n.ticket.pad ≡ x) × (IsTrue c.done.result ↔ (x ≡ finished_word n.ticket))) c.args.self.now e c.args.k note c.self.view_is at
    (t.0, t.2, ap (λ y. last_seen y note.ticket.pad) t.2 ∙ last_noting s.seat.1 note.ticket.pad t.0, t.3)

pub returns-clause-jobs : goal.returns-clause-jobs
returns-clause-jobs g c = let s = c.self.inside in let t = c.done.ensures.told in let w = c.done.new.seat.1 in
    subst (λ (z : Seen g.row.P.Denot g.row.O.Denot). JobsStay z.1 w z.2 s.notes.items) c.self.view_is (missed_jobs s.seat.1 w (c.index.result.now).ticket.pad t.0 s.tickets.items s.notes.items t.2)
