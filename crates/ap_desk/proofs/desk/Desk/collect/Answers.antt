use Rattle.std.proofs.Common.{◌≡◌, ℕ, ◌≤◌, ◌<◌, Some, refl, ap, subst, arith}
use Rattle.std.specs.Prelude.{IsSome, MatchOption}
use Rattle.std.specs.List.{remove}
use Rattle.ap_board.specs.declared.view.Kind.TheVariants.{Collect}
use Rattle.ap_board.specs.Rule.{logged, last_seen}
use Rattle.ap_board.specs.Causes.{noting}
use Rattle.ap_desk.specs.declared.note.Note.{Note}
use Rattle.ap_desk.specs.Offered.{JobsStay, job_of, out_of, finished_word}
use Rattle.ap_desk.proofs.Keeping.{Seen, missed, missed_jobs, came_back, came_back_jobs, note_at, of_note, at_none}
use Rattle.ap_desk.proofs.desk.Desk.collect.Goals as goal

pub invariant_of-self : goal.invariant_of-self
invariant_of-self g c = let s = c.self.inside in let t = c.in_err-outcome.ensures.told in
    missed s.seat.1 c.collect.new.seat.1 _ _ s.tickets.items _ (c.index.result.now).ticket.pad t.0 s.asked s.notes.items c.self.invariant t.1 t.4 (ap (λ z. z.slots) c.collect.ensures.table) refl

pub returns-in_err-outcome-clause-told : goal.returns-in_err-outcome-clause-told
returns-in_err-outcome-clause-told g c = let s = c.self.inside in let note : Note = c.index.result.now in let e : Seen g.row.P.Denot g.row.O.Denot = (s.seat.0, s.seat.1, s.tickets.items, s.asked, s.notes.items) in
    let at = note_at c.args.self.now e c.args.k note c.self.view_is c.requires.place c.index.ensures in let t = c.in_err-outcome.ensures.told in let out = c.self.invariant.2.out c.args.k note at in let w = c.collect.new.seat.1 in
    of_note (λ z n. MatchOption c.from_residual.result ((s.notes.items ≡ z.4) × ((x : ℕ) × (last_seen z.1 n.ticket.pad ≤ x) × (x < finished_word n.ticket) × (w ≡ noting z.1 n.ticket.pad x)))
    (λ y. (x : g.row.P.Denot) × (job_of z.1 n ≡ Some x) × g.P.Fits.fits x y × (s.notes.items ≡ remove z.4 c.args.k) × (w ≡ logged z.1 n.ticket.pad n.ticket.round (Collect y)))) c.args.self.now e c.args.k note c.self.view_is at
    (at_none _ c.from_residual.result c.from_residual.ensures (refl, (t.0, t.1, t.3 out.0 out.1, t.4)))

pub returns-in_err-outcome-clause-done : goal.returns-in_err-outcome-clause-done
returns-in_err-outcome-clause-done g c = let s = c.self.inside in let note : Note = c.index.result.now in let e : Seen g.row.P.Denot g.row.O.Denot = (s.seat.0, s.seat.1, s.tickets.items, s.asked, s.notes.items) in
    let at = note_at c.args.self.now e c.args.k note c.self.view_is c.requires.place c.index.ensures in let t = c.in_err-outcome.ensures.told in let out = c.self.invariant.2.out c.args.k note at in let old = t.1 in let less = t.3 out.0 out.1 in
    of_note (λ z n. finished_word n.ticket ≤ last_seen z.1 n.ticket.pad → IsSome c.from_residual.result) c.args.self.now e c.args.k note c.self.view_is at (λ l. absurd (omega (arith, l, old, less)))

pub returns-in_err-outcome-clause-jobs : goal.returns-in_err-outcome-clause-jobs
returns-in_err-outcome-clause-jobs g c = let s = c.self.inside in let t = c.in_err-outcome.ensures.told in let w = c.collect.new.seat.1 in
    subst (λ (z : Seen g.row.P.Denot g.row.O.Denot). JobsStay z.1 w z.2 s.notes.items) c.self.view_is (missed_jobs s.seat.1 w (c.index.result.now).ticket.pad t.0 s.tickets.items s.notes.items t.4)

pub invariant_of-self-2 : goal.invariant_of-self-2
invariant_of-self-2 g c = let s = c.self.inside in let note : Note = c.index.result.now in let e : Seen g.row.P.Denot g.row.O.Denot = (s.seat.0, s.seat.1, s.tickets.items, s.asked, s.notes.items) in
    let at = note_at c.args.self.now e c.args.k note c.self.view_is c.requires.place c.index.ensures in let t = c.in_ok-outcome.ensures.told in
    came_back s.seat.1 c.collect.new.seat.1 _ _ s.tickets.items s.asked s.notes.items c.remove.new.self.items c.args.k note (Collect c.in_ok-outcome.outcome) c.self.invariant at refl t.3 (ap (λ z. z.slots) c.collect.ensures.table) c.remove.ensures.items

pub returns-clause-told : goal.returns-clause-told
returns-clause-told g c = let s = c.self.inside in let note : Note = c.index.result.now in let e : Seen g.row.P.Denot g.row.O.Denot = (s.seat.0, s.seat.1, s.tickets.items, s.asked, s.notes.items) in
    let at = note_at c.args.self.now e c.args.k note c.self.view_is c.requires.place c.index.ensures in let t = c.in_ok-outcome.ensures.told in let y = c.in_ok-outcome.outcome in
    of_note (λ z n. (x : g.row.P.Denot) × (job_of z.1 n ≡ Some x) × g.P.Fits.fits x y × (c.remove.new.self.items ≡ remove z.4 c.args.k) × (c.collect.new.seat.1 ≡ logged z.1 n.ticket.pad n.ticket.round (Collect y)))
    c.args.self.now e c.args.k note c.self.view_is at (t.0, ap out_of t.1, t.2, c.remove.ensures.items, t.3)

pub returns-clause-jobs : goal.returns-clause-jobs
returns-clause-jobs g c = let s = c.self.inside in let note : Note = c.index.result.now in let e : Seen g.row.P.Denot g.row.O.Denot = (s.seat.0, s.seat.1, s.tickets.items, s.asked, s.notes.items) in
    let at = note_at c.args.self.now e c.args.k note c.self.view_is c.requires.place c.index.ensures in let t = c.in_ok-outcome.ensures.told in let w = c.collect.new.seat.1 in let ms = c.remove.new.self.items in
    subst (λ (z : Seen g.row.P.Denot g.row.O.Denot). JobsStay z.1 w z.2 ms) c.self.view_is
    (came_back_jobs s.seat.1 w _ s.tickets.items s.asked s.notes.items ms c.args.k note (Collect c.in_ok-outcome.outcome) c.self.invariant at t.3 c.remove.ensures.items)
