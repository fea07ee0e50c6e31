use Rattle.std.proofs.Common.{◌≡◌, refl}
use Rattle.std.specs.Prelude.{slice_set}
use Rattle.ap_desk.specs.declared.note.Note.{Note}
use Rattle.ap_desk.proofs.Keeping.{Seen, note_at, of_note}
use Rattle.ap_desk.proofs.Notes.{changed_out}
use Rattle.ap_desk.proofs.desk.Desk.assign.Goals as goal

pub invariant_of-self : goal.invariant_of-self
invariant_of-self g c = let s = c.self.inside in let m : Note = c.index_mut.result.now in let e : Seen g.row.P.Denot g.row.O.Denot = (s.seat.0, s.seat.1, s.tickets.items, s.asked, s.notes.items) in
    let at = note_at c.args.self.now e c.args.k m c.self.view_is c.requires c.index_mut.ensures.value in let out = c.self.invariant.2 in
    (c.self.invariant.0, c.self.invariant.1, changed_out s.seat.1 s.seat.0.slots s.notes.items c.args.k m (record m { frame = c.args.frame }) out at refl (λ gone. out.seen c.args.k m at gone))

pub returns-clause-told : goal.returns-clause-told
returns-clause-told g c = let s = c.self.inside in let m : Note = c.index_mut.result.now in let e : Seen g.row.P.Denot g.row.O.Denot = (s.seat.0, s.seat.1, s.tickets.items, s.asked, s.notes.items) in
    let at = note_at c.args.self.now e c.args.k m c.self.view_is c.requires c.index_mut.ensures.value in
    of_note (λ z n. slice_set s.notes.items c.args.k (record m { frame = c.args.frame }) ≡ slice_set z.4 c.args.k (record n { frame = c.args.frame })) c.args.self.now e c.args.k m c.self.view_is at refl
