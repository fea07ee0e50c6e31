use Rattle.std.proofs.Common.{rules, arith, refl, sym, ap, subst, inr, ◌∙◌, ℕ, suc, [], ◌≡◌, ◌≢◌, ◌+◌, ◌*◌, ◌/◌, ◌<◌, ◌≤◌}
use Rattle.ap_board.specs.declared.view.Kind.TheVariants.{Open}
use Rattle.ap_board.specs.History.{nothing}
use Rattle.ap_board.specs.Rule.{role, logged, view_of}
use Rattle.ap_board.specs.Seats.{IsHeld, Holds, opens}
use Rattle.ap_board.proofs.Openings.{noughts}
use Rattle.ap_board.proofs.Sittings.{own_pads}
use Rattle.ap_board.proofs.Seating.{opened_next, newly_sat, room_for, all_open, unopened_role}
use Rattle.ap_board.proofs.open.open_pads.Goals as goal

pub open_pad-requires-clause-new : goal.open_pad-requires-clause-new
open_pad-requires-clause-new g c = let i : ℕ = c.loop-i.i in let first : ℕ = c.args.first in
    ap (λ v. role v (first + i)) c.loop-i.invariant.view ∙ unopened_role _ _ first i (first + i) (inr (omega arith))

pub open_pad-requires-clause-own : goal.open_pad-requires-clause-own
open_pad-requires-clause-own g c =
    let i : ℕ = c.loop-i.i in let first : ℕ = c.args.first in let k = c.loop-i.invariant in let n : ℕ = c.args.hand.now.place.me.0.number in let pads : ℕ = c.args.pads in
    let near : i < pads = c.loop-i-test.true in let starts : first ≡ n * pads = c.requires.own.1 in
    ap (λ v. (first + i) / v.pads) k.view ∙ (own_pads (first + i) n pads c.requires.fits.0).1 (omega arith, omega arith) ∙ sym (ap (λ v. v.number) k.view)

pub open_pad-requires-clause-space : goal.open_pad-requires-clause-space
open_pad-requires-clause-space g c =
    let i : ℕ = c.loop-i.i in let first : ℕ = c.args.first in let total : ℕ = c.args.words.now.table_id.slots in let v = c.loop-i.hand.place.me.0 in let k = c.loop-i.invariant in
    let near : i < c.args.pads = c.loop-i-test.true in let fits : first + c.args.pads ≤ total = c.requires.fits.1 in let less : first + i < total = omega arith in
    let un : role v (first + i) ≡ nothing = ap (λ u. role u (first + i)) k.view ∙ unopened_role _ _ first i (first + i) (inr (omega arith)) in
    room_for v c.loop-i.hand.order.items (noughts i) first total (first + i) k.seat less (λ h. subst IsHeld un h)

pub loop-i-preserved : goal.loop-i-preserved
loop-i-preserved g c =
    let i : ℕ = c.loop-i.i in let first : ℕ = c.args.first in let total : ℕ = c.args.words.now.table_id.slots in let v = c.loop-i.hand.place.me.0 in let k = c.loop-i.invariant in let e = c.open_pad.ensures in
    let near : i < c.args.pads = c.loop-i-test.true in let fits : first + c.args.pads ≤ total = c.requires.fits.1 in let less : first + i < total = omega arith in
    let un : role v (first + i) ≡ nothing = ap (λ u. role u (first + i)) k.view ∙ unopened_role _ _ first i (first + i) (inr (omega arith)) in
    record {
      table = e.table ∙ k.table;
      view = e.view ∙ ap (λ u. logged u (first + i) 0 Open) k.view ∙ ap (λ (m : ℕ). view_of c.args.hand.now.place.me.0.number c.args.pads c.args.hand.now.place.me.0.made (opens first m) []) (let next : suc i ≡ i + 1 = omega arith in next);
      seat = opened_next v _ c.loop-i.hand.order.items _ i (i + 1) first total k.seat less un e.view e.order (omega arith);
    }

pub loop-i-init : goal.loop-i-init
loop-i-init g c = let new = c.requires.new in let v = c.args.hand.now.place.me.0 in let fits = c.requires.fits.1 in record {
  table = refl;
  view = new.0;
  seat = subst (λ order. Holds v order (noughts 0) c.args.first c.args.words.now.table_id.slots) (sym new.1) (newly_sat v c.args.first c.args.words.now.table_id.slots (omega arith) (ap (λ u. u.calls) new.0));
}
