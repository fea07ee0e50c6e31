use Rattle.std.proofs.Common.{◌≡◌, ℕ, ◌≤◌, true, Some, refl, ap, subst}
use Rattle.std.specs.Prelude.{slice_set}
use Rattle.std.specs.List.{remove}
use Rattle.ap_board.specs.declared.view.Kind.TheVariants.{Reclaim}
use Rattle.ap_board.specs.Rule.{logged}
use Rattle.ap_board.specs.Causes.{noting}
use Rattle.ap_desk.specs.declared.note.Note.{Note}
use Rattle.ap_desk.specs.Offered.{JobsStay, job_of, out_of, taken_word, finished_word}
use Rattle.ap_desk.proofs.Rows.{same_at}
use Rattle.ap_desk.proofs.Keeping.{Seen, found_gone, missed_jobs, came_back, came_back_jobs, note_at, of_note}
use Rattle.ap_desk.proofs.desk.Desk.reclaim.Goals as goal

pub invariant_of-self : goal.invariant_of-self
invariant_of-self g c = let s = c.self.inside in let note : Note = c.index.result.now in let e : Seen g.row.P.Denot g.row.O.Denot = (s.seat.0, s.seat.1, s.tickets.items, s.asked, s.notes.items) in
    let at = note_at c.args.self.now e c.args.k note c.self.view_is c.requires.place c.index.ensures in let t = c.in-Some.ensures.told in
    came_back s.seat.1 c.reclaim.new.seat.1 _ _ s.tickets.items s.asked s.notes.items c.remove.new.self.items c.args.k note Reclaim c.self.invariant at refl t.1 (ap (λ z. z.slots) c.reclaim.ensures.table) c.remove.ensures.items

pub invariant_of-self-in-None : goal.invariant_of-self-in-None
invariant_of-self-in-None g c = let s = c.self.inside in let note : Note = c.index.result.now in let e : Seen g.row.P.Denot g.row.O.Denot = (s.seat.0, s.seat.1, s.tickets.items, s.asked, s.notes.items) in
    let at = note_at c.args.self.now e c.args.k note c.self.view_is c.requires.place c.index.ensures in
    let m : Note = c.index_mut.result.now in let other = note_at c.args.self.now e c.args.k m c.self.view_is c.requires.place c.index_mut.ensures.value in let same = same_at s.notes.items c.args.k m note other at in let t = c.in-None.ensures.told in
    found_gone s.seat.1 c.reclaim.new.seat.1 _ _ s.tickets.items s.asked s.notes.items _ c.args.k note t.0 c.self.invariant at t.1 t.3 (ap (λ z. z.slots) c.reclaim.ensures.table) (ap (λ (n : Note). slice_set s.notes.items c.args.k (record n { gone = true })) same)

pub returns-in-Some-clause-told : goal.returns-in-Some-clause-told
returns-in-Some-clause-told g c = let s = c.self.inside in let note : Note = c.index.result.now in let e : Seen g.row.P.Denot g.row.O.Denot = (s.seat.0, s.seat.1, s.tickets.items, s.asked, s.notes.items) in
    let at = note_at c.args.self.now e c.args.k note c.self.view_is c.requires.place c.index.ensures in let t = c.in-Some.ensures.told in let w = c.reclaim.new.seat.1 in let ms = c.remove.new.self.items in
    of_note (λ z n. (job_of z.1 n ≡ Some c.in-Some.job) × (ms ≡ remove z.4 c.args.k) × (w ≡ logged z.1 n.ticket.pad n.ticket.round Reclaim)) c.args.self.now e c.args.k note c.self.view_is at (ap out_of t.0, c.remove.ensures.items, t.1)

pub returns-in-Some-clause-jobs : goal.returns-in-Some-clause-jobs
returns-in-Some-clause-jobs g c = let s = c.self.inside in let note : Note = c.index.result.now in let e : Seen g.row.P.Denot g.row.O.Denot = (s.seat.0, s.seat.1, s.tickets.items, s.asked, s.notes.items) in
    let at = note_at c.args.self.now e c.args.k note c.self.view_is c.requires.place c.index.ensures in let t = c.in-Some.ensures.told in let w = c.reclaim.new.seat.1 in let ms = c.remove.new.self.items in
    subst (λ (z : Seen g.row.P.Denot g.row.O.Denot). JobsStay z.1 w z.2 ms) c.self.view_is
    (came_back_jobs s.seat.1 w _ s.tickets.items s.asked s.notes.items ms c.args.k note Reclaim c.self.invariant at t.1 c.remove.ensures.items)

pub returns-in-None-clause-told : goal.returns-in-None-clause-told
returns-in-None-clause-told g c = let s = c.self.inside in let note : Note = c.index.result.now in let e : Seen g.row.P.Denot g.row.O.Denot = (s.seat.0, s.seat.1, s.tickets.items, s.asked, s.notes.items) in
    let at = note_at c.args.self.now e c.args.k note c.self.view_is c.requires.place c.index.ensures in
    let m : Note = c.index_mut.result.now in let other = note_at c.args.self.now e c.args.k m c.self.view_is c.requires.place c.index_mut.ensures.value in let same = same_at s.notes.items c.args.k m note other at in let t = c.in-None.ensures.told in let w = c.reclaim.new.seat.1 in
    of_note (λ z n. (slice_set s.notes.items c.args.k (record m { gone = true }) ≡ slice_set z.4 c.args.k (record n { gone = true })) × ((x : ℕ) × (taken_word n.ticket ≤ x) × (x ≤ finished_word n.ticket) × (w ≡ noting z.1 n.ticket.pad x)))
    c.args.self.now e c.args.k note c.self.view_is at (ap (λ (n : Note). slice_set s.notes.items c.args.k (record n { gone = true })) same, (t.0, t.1, t.2, t.3))

pub returns-in-None-clause-jobs : goal.returns-in-None-clause-jobs
returns-in-None-clause-jobs g c = let s = c.self.inside in let t = c.in-None.ensures.told in let w = c.reclaim.new.seat.1 in let ms = slice_set s.notes.items c.args.k (record c.index_mut.result.now { gone = true }) in
    subst (λ (z : Seen g.row.P.Denot g.row.O.Denot). JobsStay z.1 w z.2 ms) c.self.view_is (missed_jobs s.seat.1 w (c.index.result.now).ticket.pad t.0 s.tickets.items ms t.3)
