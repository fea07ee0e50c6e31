use Rattle.std.proofs.Common.{◌≡◌, ℕ, List, Some, sym, ap, subst}
use Rattle.std.specs.Prelude.{Option, MatchOption}
use Rattle.ap_board.specs.declared.ticket.Ticket.{Ticket}
use Rattle.ap_desk.specs.Looks.{Looked}
use Rattle.ap_desk.specs.Offered.{JobsStay}
use Rattle.ap_desk.proofs.Looking.{looked_stays}
use Rattle.ap_desk.proofs.Keeping.{Seen, polled}
use Rattle.ap_desk.proofs.desk.Desk.poll.Goals as goal

pub invariant_of-self : goal.invariant_of-self
invariant_of-self g c = let s = c.self.inside in let new = c.find_asked-self-inside.new.seat in let found = c.find_asked-self-inside.result in
    let looked = subst (λ (ts : List Ticket). Looked s.seat.1 ts new.1 found) c.deref.ensures.value c.find_asked-self-inside.ensures.looked in
    polled s.seat.1 new.1 _ _ s.tickets.items s.asked found s.notes.items c.self.invariant looked (ap (λ z. z.slots) c.find_asked-self-inside.ensures.table)

pub returns-clause-looked : goal.returns-clause-looked
returns-clause-looked g c = let s = c.self.inside in let new = c.find_asked-self-inside.new.seat in let found = c.find_asked-self-inside.result in
    let looked = subst (λ (ts : List Ticket). Looked s.seat.1 ts new.1 found) c.deref.ensures.value c.find_asked-self-inside.ensures.looked in
    let none = subst (λ (a : Option ℕ). MatchOption a (Looked s.seat.1 s.tickets.items new.1 found) (λ i. (new.1 ≡ s.seat.1) × (found ≡ Some i))) (sym c.in-None.is) looked in
    subst (λ (z : Seen g.row.P.Denot g.row.O.Denot). MatchOption z.3 (Looked z.1 z.2 new.1 found) (λ i. (new.1 ≡ z.1) × (found ≡ Some i))) c.self.view_is none

pub returns-clause-jobs : goal.returns-clause-jobs
returns-clause-jobs g c = let s = c.self.inside in let new = c.find_asked-self-inside.new.seat in let found = c.find_asked-self-inside.result in
    let looked = subst (λ (ts : List Ticket). Looked s.seat.1 ts new.1 found) c.deref.ensures.value c.find_asked-self-inside.ensures.looked in
    subst (λ (z : Seen g.row.P.Denot g.row.O.Denot). JobsStay z.1 new.1 z.2 z.4) c.self.view_is (looked_stays s.seat.1 new.1 s.tickets.items found s.tickets.items s.notes.items looked)
