use Rattle.std.proofs.Common.{◌≡◌, ◌∙◌, [], ◌∷◌, ◌++◌, Some, ap, subst}
use Rattle.ap_board.specs.declared.ticket.Ticket.{Ticket}
use Rattle.ap_board.specs.declared.view.Kind.TheVariants.{Offer}
use Rattle.ap_board.specs.History.{keeps}
use Rattle.ap_board.specs.Rule.{logged, role}
use Rattle.ap_desk.specs.Offered.{JobsStay, job_of, fresh_note}
use Rattle.ap_desk.proofs.Keeping.{Seen, offered, offered_job, offered_jobs}
use Rattle.ap_desk.proofs.desk.Desk.offer.Goals as goal

pub invariant_of-self-2 : goal.invariant_of-self-2
invariant_of-self-2 g c = let s = c.self.inside in let t : Ticket = c.in_ok-ticket.ticket in let told = c.in_ok-ticket.ensures.told in
    offered s.seat.1 c.offer.new.seat.1 _ _ s.tickets.items s.asked s.notes.items c.push_reserved.new.self.items t c.args.frame c.args.place c.args.job c.self.invariant told.0 told.1 c.in_ok-ticket.ensures.own told.2 (ap (λ z. z.slots) c.offer.ensures.table)
    (c.push_reserved.ensures.items ∙ ap (λ ns. ns ++ fresh_note t c.args.frame c.args.place ∷ []) c.reserve.ensures.items)

pub returns-clause-told : goal.returns-clause-told
returns-clause-told g c = let s = c.self.inside in let t : Ticket = c.in_ok-ticket.ticket in let told = c.in_ok-ticket.ensures.told in let w = c.offer.new.seat.1 in let ms = c.push_reserved.new.self.items in
    subst (λ (z : Seen g.row.P.Denot g.row.O.Denot). (x : Ticket) × (ms ≡ z.4 ++ fresh_note x c.args.frame c.args.place ∷ []) × (role z.1 x.pad ≡ keeps x.round) × (w ≡ logged z.1 x.pad x.round (Offer c.args.job)) × (job_of w (fresh_note x c.args.frame c.args.place) ≡ Some c.args.job)) c.self.view_is
    (t, c.push_reserved.ensures.items ∙ ap (λ ns. ns ++ fresh_note t c.args.frame c.args.place ∷ []) c.reserve.ensures.items, told.0, told.2, offered_job s.seat.1 w t c.args.frame c.args.place c.args.job told.2)

pub returns-clause-jobs : goal.returns-clause-jobs
returns-clause-jobs g c = let s = c.self.inside in let t : Ticket = c.in_ok-ticket.ticket in let told = c.in_ok-ticket.ensures.told in let w = c.offer.new.seat.1 in
    subst (λ (z : Seen g.row.P.Denot g.row.O.Denot). JobsStay z.1 w z.2 z.4) c.self.view_is (offered_jobs s.seat.1 w _ s.tickets.items t c.args.job s.asked s.notes.items c.self.invariant told.0 told.2)
