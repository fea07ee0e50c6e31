use Rattle.std.proofs.Common.{rules, arith, refl, sym, ap, subst, ◌∙◌, ℕ, ◌≡◌, ◌+◌, ◌-◌, ◌/◌, ◌^◌, ◌<◌, ◌≤◌, get_or, length}
use Rattle.std.proofs.lemmas.List.{get_or_read}
use Rattle.atomic_table.specs.Seated.{TableId}
use Rattle.ap_board.specs.declared.view.View.{View}
use Rattle.ap_board.specs.History.{keeps}
use Rattle.ap_board.specs.Rule.{role}
use Rattle.ap_board.specs.Seats.{Among}
use Rattle.ap_board.proofs.Sittings.{free_here, none_free, among_at, owned_at}
use Rattle.ap_board.proofs.seat.BoardSeat.find_free.Goals as goal

pub returns-then-round-lt-LAST_ROUND : goal.returns-then-round-lt-LAST_ROUND
returns-then-round-lt-LAST_ROUND g c =
    let s = c.self.inside in let v = s.hand.place.me.0 in let order = s.hand.order.items in let rounds = s.rounds.items in let first : ℕ = s.first in let total : ℕ = s.hand.place.table_id.slots in
    let p : ℕ = c.index-pad.result.now in let q : ℕ = c.index-round.result.now in let i : ℕ = c.loop-i.i in let j : ℕ = p - first in
    let many = s.hand.order.ok.0 in let n : ℕ = length order in let within = c.loop-i-test.true in let end = c.len-i-end.ensures in
    let less : i < n = omega (arith, many, within, end) in
    let p_is : p ≡ get_or order i 0 = get_or_read order i p less c.index-pad.ensures 0 in
    let size = s.rounds.ok.0 in let m : ℕ = length rounds in let near = c.if-pad-self.true in let len = c.len.ensures in
    let in_rounds : j < m = omega (arith, size, near, len) in
    let q_is : q ≡ get_or rounds j 0 = get_or_read rounds j q in_rounds c.index-round.ensures 0 in
    let a : Among p order = subst (λ (z : ℕ). Among z order) (sym p_is) (among_at order i less) in
    let low = c.if-self-pad.true in let at : p ≡ first + j = omega arith in
    subst (λ (y : TableId × View g.row.P.Denot g.row.O.Denot). (role y.1 p ≡ keeps q) × (p < y.0.slots) × (p / y.1.pads ≡ y.1.number)) c.self.view_is
    (free_here v order rounds first total c.self.invariant p j a in_rounds at ∙ ap keeps (sym q_is), c.self.invariant.slots.below p a, owned_at v order rounds first total c.self.invariant p j in_rounds at)

pub returns : goal.returns
returns g c =
    let s = c.self.inside in let v = s.hand.place.me.0 in let order = s.hand.order.items in let rounds = s.rounds.items in let first : ℕ = s.first in let total : ℕ = s.hand.place.table_id.slots in
    let many = s.hand.order.ok.0 in let past = c.loop-i-test.false in let end = c.len-i-end.ensures in
    subst (λ (y : TableId × View g.row.P.Denot g.row.O.Denot). (p r : ℕ) → role y.1 p ≡ keeps r → 2 ^ 60 ≤ r) c.self.view_is
    (none_free v order rounds first total c.self.invariant (λ i less. c.loop-i.invariant i (omega (arith, many, past, end, less))))
