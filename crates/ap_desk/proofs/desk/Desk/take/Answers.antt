use Rattle.std.proofs.Common.{rules, ◌∙◌, ◌<◌, [], ◌∷◌, ◌++◌, ap, subst}
use Rattle.ap_desk.specs.Offered.{JobsStay}
use Rattle.ap_desk.proofs.Keeping.{Seen, taken, taken_jobs, missed, missed_jobs, newer_by}
use Rattle.ap_desk.proofs.desk.Desk.take.Goals as goal

pub invariant_of-self-in-Some : goal.invariant_of-self-in-Some
invariant_of-self-in-Some g c = let s = c.self.inside in let told = c.in-Some.ensures.told in let below : c.args.ticket.pad < s.seat.0.slots = search rules in
    taken s.seat.1 c.take.new.seat.1 s.seat.0.slots _ s.tickets.items c.push_reserved.new.self.items c.args.ticket c.in-Some.parcel s.asked s.notes.items c.self.invariant below told.0 told.1 (ap (λ z. z.slots) c.take.ensures.table)
    (c.push_reserved.ensures.items ∙ ap (λ ts. ts ++ c.args.ticket ∷ []) c.reserve.ensures.items)

pub invariant_of-self-in-None : goal.invariant_of-self-in-None
invariant_of-self-in-None g c = let s = c.self.inside in let told = c.in-None.ensures.told in
    missed s.seat.1 c.take.new.seat.1 _ _ s.tickets.items c.reserve.new.self.items c.args.ticket.pad told.0 s.asked s.notes.items c.self.invariant (newer_by s.seat.1 c.take.new.seat.1 c.args.ticket.pad told.0 told.2 c.take.ensures.rises) told.2 (ap (λ z. z.slots) c.take.ensures.table) c.reserve.ensures.items

pub returns-in-Some-clause-jobs : goal.returns-in-Some-clause-jobs
returns-in-Some-clause-jobs g c = let s = c.self.inside in let told = c.in-Some.ensures.told in let w = c.take.new.seat.1 in
    subst (λ (z : Seen g.row.P.Denot g.row.O.Denot). JobsStay z.1 w z.2 z.4) c.self.view_is (taken_jobs s.seat.1 w _ s.tickets.items c.args.ticket c.in-Some.parcel s.asked s.notes.items c.self.invariant told.0 told.1)

pub returns-in-None-clause-jobs : goal.returns-in-None-clause-jobs
returns-in-None-clause-jobs g c = let s = c.self.inside in let told = c.in-None.ensures.told in let w = c.take.new.seat.1 in
    subst (λ (z : Seen g.row.P.Denot g.row.O.Denot). JobsStay z.1 w z.2 z.4) c.self.view_is (missed_jobs s.seat.1 w c.args.ticket.pad told.0 s.tickets.items s.notes.items told.2)
