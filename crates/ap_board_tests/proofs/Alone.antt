-- What a stack without thieves gives.
use Rattle.std.proofs.Common.{◌≡◌, ⊎_elim, inl, true, [], ◌∷◌, refl, subst}
use Rattle.ap_board.specs.declared.ticket.Ticket.{Ticket}
use Rattle.ap_goalstack.specs.declared.view.Hand.{Hand}
use Rattle.ap_goalstack.specs.Stack.{hand, Has, Popped}

pub the_only : (v w : Hand) (x t : Ticket) → v ≡ hand true (x ∷ []) [] → Popped v (t ∷ []) w → t ≡ x
the_only v w x t is p = ⊎_elim (λ (e : t ≡ x). e) (λ (n : ⊥). absurd n) (subst (λ (u : Hand). Has t u.pushed) is (p.0 t (inl refl)))
