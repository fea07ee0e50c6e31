use Rattle.std.proofs.Common.{◌≡◌, ℕ, ◌+◌, true, length, inl, inr, ap, ◌∙◌, subst, arith}
use Rattle.ap_cells.proofs.Stores.{Keeps-trans}
use Rattle.ap_steps.specs.Moves.{held, HoldPlacesBut}
use Rattle.ap_steps.specs.Arguments.{BuiltAll, BuiltOrStuck, are_built}
use Rattle.ap_instr.specs.Steps.{steps_from}
use Rattle.ap_steps.proofs.RegisterMaps.{but-all, but-set, but-come}
use Rattle.ap_steps.proofs.StructuresTaken.{put-taken, put-stuck}
use Rattle.ap_steps.proofs.structures.put_structure.Goals as goal

pub returns-in-Stuck-clause-taken : goal.returns-in-Stuck-clause-taken
returns-in-Stuck-clause-taken c =
    let is_whole : c.len-first.result + c.args.count ≡ length c.args.cells.now.cells + c.args.count = omega arith in
    put-stuck c.args.code.now c.args.at c.args.name c.args.count c.args.a c.args.cells.now.cells (held c.args.x.now) (held c.args.y.now) c.requires.holds_x c.requires.holds_y c.len-first.result (c.len-first.result + c.args.count) c.len-first.ensures.place is_whole
    (held c.put.new.registers) c.put.ensures.held c.in-Stuck.ensures.built

pub returns-in-Fresh : goal.returns-in-Fresh
returns-in-Fresh c =
    let old = c.args.cells.now.cells in
    let mid = c.build_apart.new.cells.cells in
    let new = c.push_new.new.cells.cells in
    let whole : ℕ = length old + c.args.count in
    let is_whole : c.len-first.result + c.args.count ≡ whole = omega arith in
    let ok : are_built c.build_apart.result ≡ true = elim c.in-Fresh.is [ inl e ↦ ap are_built e | inr e ↦ ap are_built e ] in
    let built : BuiltAll c.args.count old (held c.put.new.registers) (held c.args.y.now) (steps_from c.args.code.now c.args.at) mid (held c.build_apart.new.x) (held c.build_apart.new.y) (steps_from c.args.code.now (c.args.at + c.args.count)) =
    subst (BuiltOrStuck c.args.code.now c.args.at c.args.count old (held c.put.new.registers) (held c.args.y.now) mid (held c.build_apart.new.x) (held c.build_apart.new.y)) ok c.build_apart.ensures.built
    in
    let longer : length mid ≡ whole = built.longer in
    record {
      taken =
          put-taken c.args.code.now c.args.at c.args.name c.args.count c.args.a old (held c.args.x.now) (held c.args.y.now) c.requires.holds_x c.requires.holds_y c.len-first.result (c.len-first.result + c.args.count) c.len-first.ensures.place is_whole
          (held c.put.new.registers) c.put.ensures.held mid new (held c.build_apart.new.x) (held c.build_apart.new.y) c.push_new.result built c.push_new.ensures.place c.push_new.ensures.becomes c.push_new.ensures.fits;
      passed = λ t. c.build_apart.ensures.passed ok;
      holds_x = λ t.
          but-come (length mid) (length new) whole c.build_apart.new.x
          (c.build_apart.ensures.holds_x whole (subst (λ w. HoldPlacesBut w (length old) c.put.new.registers) is_whole (but-set (length old) c.args.a (c.len-first.result + c.args.count) c.args.x.now c.put.new.registers c.requires.holds_x c.put.ensures.held)))
          (omega arith) (omega arith);
      holds_y = λ t. but-come (length mid) (length new) whole c.build_apart.new.y (c.build_apart.ensures.holds_y whole (but-all (length old) whole c.args.y.now c.requires.holds_y)) (omega arith) (omega arith);
      spare = λ t. omega (arith, c.build_apart.ensures.spare ok);
      x_len = c.build_apart.ensures.x_len ∙ c.put.ensures.len;
      y_len = c.build_apart.ensures.y_len;
      keeps = Keeps-trans c.args.cells.now c.build_apart.new.cells c.push_new.new.cells c.build_apart.ensures.keeps c.push_new.ensures.keeps;
    }
