use Rattle.std.proofs.Common.{rules, arith, refl, sym, ap, subst, ◌∙◌, ◌≡◌, ◌<◌, ℕ, suc, ◌+◌, ◌*◌, List, [], ◌∷◌, ◌++◌, length, replicate}
use Rattle.std.specs.Prelude.{None}
use Rattle.atomic_table.specs.Table.{opening}
use Rattle.ap_board.specs.Rule.{Kept, newcomer}
use Rattle.ap_board.proofs.Openings.{noughts, begins}
use Rattle.std.specs.Prelude.{All}
use Rattle.ap_board.specs.Seats.{IsNewSeat, seated}
use Rattle.ap_board.specs.Rows.{AreNext, seats_of, made_by}
use Rattle.ap_board.proofs.Seating.{all_new, all_there, made_later}
use Rattle.ap_board.proofs.open.open_board.Goals as goal

pub vacant-requires : goal.vacant-requires
vacant-requires g c = let n : ℕ = c.args.workers * c.args.pads in let pads : ℕ = c.from.result in
    let all : c.in_ok-zeros.zeros.items ≡ noughts n = search rules in
    subst (λ (ws : List ℕ). Kept g.P.Fits.fits g.P.Fits.cause pads (opening ws (replicate n None) (newcomer pads))) (sym (c.as_slice.ensures.value ∙ all)) (begins g.P.Fits.fits g.P.Fits.cause pads n)

pub loop-i-preserved : goal.loop-i-preserved
loop-i-preserved g c =
    let k = c.loop-i.invariant in let z = c.in_ok-table.table.shared.table_id in let pads : ℕ = c.args.pads in let w : ℕ = c.args.workers in let i : ℕ = c.loop-i.i in
    let e : c.loop-i.places.items ≡ c.in-Some.place ∷ c.pop_front.new.self.items = c.in-Some.ensures.items in
    let n : AreNext z pads i (c.in-Some.place ∷ c.pop_front.new.self.items) = subst (AreNext z pads i) e k.places in
    let long : length c.loop-i.places.items ≡ suc (length c.pop_front.new.self.items) = ap length e in let count = k.count in let next : suc i ≡ i + 1 = omega arith in
    let pushed : c.push-in-Some.new.self.items ≡ c.loop-i.seats.items ++ c.in_ok-sit-in-Some.field-0 ∷ [] = search rules in
    let sat : c.in_ok-sit-in-Some.field-0 ≡ (z, seated c.in-Some.place.me.0.number pads c.in-Some.place.me.0.made) = c.in_ok-sit-in-Some.ensures in
    let is : c.in_ok-sit-in-Some.field-0 ≡ (z, seated i pads (made_by i w)) = sat ∙ ap (λ m. (z, seated m.0.number pads m.0.made)) n.1 ∙ ap (λ (m : ℕ). (z, seated i pads m)) (sym (made_later i w c.loop-i.auto.i)) in
    record {
      places = subst (λ (m : ℕ). AreNext z pads m c.pop_front.new.self.items) next n.2;
      count = omega arith;
      seats = pushed ∙ (λ t. k.seats t ++ is t ∷ []) ∙ ap (λ (m : ℕ). seats_of z w pads m) next;
    }

pub returns-clause-roles : goal.returns-clause-roles
returns-clause-roles g c = subst (All (λ s. IsNewSeat c.args.pads s.1.number s.1)) (sym c.loop-i.invariant.seats) (all_new c.in_ok-table.table.shared.table_id c.args.workers c.args.pads c.loop-i.i c.requires.pads.0)

pub returns-clause-table : goal.returns-clause-table
returns-clause-table g c = let z = c.in_ok-table.table.shared.table_id in subst (All (λ s. s.0 ≡ z)) (sym c.loop-i.invariant.seats) (all_there z c.args.workers c.args.pads c.loop-i.i)
