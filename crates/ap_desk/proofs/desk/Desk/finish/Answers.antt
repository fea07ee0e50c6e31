use Rattle.std.proofs.Common.{◌≡◌, ℕ, List, [], ◌∷◌, ◌++◌, length, refl, ap, subst, arith}
use Rattle.ap_board.specs.declared.ticket.Ticket.{Ticket}
use Rattle.ap_board.specs.declared.view.Kind.TheVariants.{Finish}
use Rattle.ap_board.specs.Rule.{logged}
use Rattle.ap_desk.specs.Held.{KeptBelow}
use Rattle.ap_desk.specs.Offered.{JobsStay}
use Rattle.ap_desk.proofs.Keeping.{Seen, ended, ended_jobs, may_end_seen}
use Rattle.ap_desk.proofs.desk.Desk.finish.Goals as goal

pub finish-requires-clause-holds : goal.finish-requires-clause-holds
finish-requires-clause-holds g c = let s = c.self.inside in
    may_end_seen g.P.Fits.fits (g.P.Fits.cause c.args.outcome) c.args.self.now (s.seat.0, s.seat.1, s.tickets.items, s.asked, s.notes.items) c.pop.new.self.items c.in-Some.ticket c.args.outcome c.self.view_is c.self.invariant c.in-Some.ensures.items c.requires.fits c.requires.cause

pub invariant_of-self : goal.invariant_of-self
invariant_of-self g c = let s = c.self.inside in let us : List Ticket = c.pop.new.self.items in let len = c.len.ensures in let long = c.pop.new.self.ok.0 in let count : c.len.result ≡ length us = omega (arith, len, long) in
    let below = subst (λ (n : ℕ). KeptBelow s.asked n c.kept-self-inside.result) count c.kept-self-inside.ensures in
    ended s.seat.1 c.finish.new.seat.1 _ _ s.tickets.items c.pop.new.self.items c.in-Some.ticket c.args.outcome s.asked c.kept-self-inside.result s.notes.items c.self.invariant c.in-Some.ensures.items c.finish.ensures.told
    (ap (λ z. z.slots) c.finish.ensures.table) below

pub returns-clause-told : goal.returns-clause-told
returns-clause-told g c = let us : List Ticket = c.pop.new.self.items in let w = c.finish.new.seat.1 in
    subst (λ (z : Seen g.row.P.Denot g.row.O.Denot). (ts : List Ticket) × (t : Ticket) × (z.2 ≡ ts ++ t ∷ []) × (us ≡ ts) × (w ≡ logged z.1 t.pad t.round (Finish c.args.outcome))) c.self.view_is (us, c.in-Some.ticket, c.in-Some.ensures.items, refl, c.finish.ensures.told)

pub returns-clause-jobs : goal.returns-clause-jobs
returns-clause-jobs g c = let s = c.self.inside in let us : List Ticket = c.pop.new.self.items in let w = c.finish.new.seat.1 in
    subst (λ (z : Seen g.row.P.Denot g.row.O.Denot). JobsStay z.1 w us z.4) c.self.view_is (ended_jobs s.seat.1 w _ s.tickets.items us c.in-Some.ticket c.args.outcome s.asked s.notes.items c.self.invariant c.in-Some.ensures.items c.finish.ensures.told)
