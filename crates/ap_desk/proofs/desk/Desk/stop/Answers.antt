use Rattle.std.proofs.Common.{◌≡◌, ◌∙◌, sym, true, slice_get, ap, subst}
use Rattle.std.specs.Prelude.{slice_set, MatchBool}
use Rattle.ap_board.specs.declared.view.Kind.TheVariants.{Stop}
use Rattle.ap_board.specs.Rule.{logged}
use Rattle.ap_board.specs.Causes.{noting}
use Rattle.ap_desk.specs.declared.note.Note.{Note}
use Rattle.ap_desk.specs.Offered.{JobsStay, finished_word}
use Rattle.ap_desk.proofs.Rows.{same_at}
use Rattle.ap_desk.proofs.Keeping.{Seen, was_stopped, stopped_jobs, note_at, of_note}
use Rattle.ap_desk.proofs.desk.Desk.stop.Goals as goal

pub invariant_of-self : goal.invariant_of-self
invariant_of-self g c = let s = c.self.inside in let note : Note = c.index.result.now in let e : Seen g.row.P.Denot g.row.O.Denot = (s.seat.0, s.seat.1, s.tickets.items, s.asked, s.notes.items) in
    let at = note_at c.args.self.now e c.args.k note c.self.view_is c.requires.place c.index.ensures in
    let m : Note = c.index_mut.result.now in let other = note_at c.args.self.now e c.args.k m c.self.view_is c.requires.place c.index_mut.ensures.value in let same = same_at s.notes.items c.args.k m note other at in let gone : note.gone ≡ true = c.requires.gone note (ap (λ (z : Seen g.row.P.Denot g.row.O.Denot). slice_get z.4 c.args.k) (sym c.self.view_is) ∙ at) in
    was_stopped s.seat.1 c.stop-at_work.new.seat.1 _ _ s.tickets.items s.asked s.notes.items _ c.args.k note c.stop-at_work.result c.self.invariant at gone c.stop-at_work.ensures.told
    (ap (λ z. z.slots) c.stop-at_work.ensures.table) (ap (λ (n : Note). slice_set s.notes.items c.args.k (record n { asked = true })) same)

pub returns-clause-told : goal.returns-clause-told
returns-clause-told g c = let s = c.self.inside in let note : Note = c.index.result.now in let e : Seen g.row.P.Denot g.row.O.Denot = (s.seat.0, s.seat.1, s.tickets.items, s.asked, s.notes.items) in
    let at = note_at c.args.self.now e c.args.k note c.self.view_is c.requires.place c.index.ensures in
    let m : Note = c.index_mut.result.now in let other = note_at c.args.self.now e c.args.k m c.self.view_is c.requires.place c.index_mut.ensures.value in let same = same_at s.notes.items c.args.k m note other at in let w = c.stop-at_work.new.seat.1 in
    of_note (λ z n. (slice_set s.notes.items c.args.k (record m { asked = true }) ≡ slice_set z.4 c.args.k (record n { asked = true })) × MatchBool c.stop-at_work.result (w ≡ logged z.1 n.ticket.pad n.ticket.round Stop) (w ≡ noting z.1 n.ticket.pad (finished_word n.ticket)))
    c.args.self.now e c.args.k note c.self.view_is at (ap (λ (n : Note). slice_set s.notes.items c.args.k (record n { asked = true })) same, c.stop-at_work.ensures.told)

pub returns-clause-jobs : goal.returns-clause-jobs
returns-clause-jobs g c = let s = c.self.inside in let note : Note = c.index.result.now in let w = c.stop-at_work.new.seat.1 in let ms = slice_set s.notes.items c.args.k (record c.index_mut.result.now { asked = true }) in
    subst (λ (z : Seen g.row.P.Denot g.row.O.Denot). JobsStay z.1 w z.2 ms) c.self.view_is (stopped_jobs s.seat.1 w note.ticket.pad note.ticket.round (finished_word note.ticket) c.stop-at_work.result s.tickets.items ms c.stop-at_work.ensures.told)
