use Rattle.std.proofs.Common.{rules, arith, sym, ap, subst, ◌∙◌, ◌≡◌, ◌+◌, ℕ, List, [], ◌∷◌, ◌++◌, length, length-append}
use Rattle.ap_board.specs.Rule.{view_of, one_more}
use Rattle.ap_board.specs.Rows.{AreNext}
use Rattle.ap_board.proofs.Seating.{next_snoc}
use Rattle.ap_board.proofs.open.make_places.Goals as goal

pub loop-preserved : goal.loop-preserved
loop-preserved g c =
    let k = c.loop.invariant in let e = c.next_place.ensures in let z = c.args.words.now.table_id in let pads : ℕ = c.args.leader.now.me.0.pads in let n : ℕ = c.loop.counter in
    let items : c.push_back.new.self.items ≡ c.loop.places.items ++ c.next_place.result ∷ [] = search rules in
    let long : length (c.loop.places.items ++ c.next_place.result ∷ []) ≡ length c.loop.places.items + 1 = length-append c.loop.places.items (c.next_place.result ∷ []) in
    let count = k.count in let next : n ≡ 1 + length c.loop.places.items = omega arith in
    record {
      table = e.table.0 ∙ k.table;
      leader = e.leader ∙ ap (λ m. (one_more m.0, m.1)) k.leader;
      places = subst (AreNext z pads 1) (sym items) (next_snoc z pads 1 c.loop.places.items c.next_place.result k.places (e.table.1 ∙ k.table)
          (e.place ∙ ap (λ m. (view_of m.0.made m.0.pads 0 [] [], [])) k.leader ∙ ap (λ (m : ℕ). (view_of m pads 0 [] [], [])) next));
      count = ap (λ l. length l + 1) items ∙ (omega arith);
    }
