use Rattle.std.proofs.Common.{◌<◌, length, arith}
use Rattle.std.proofs.lemmas.Result.{on_ok_weaker}
use Rattle.ap_cells.specs.Trees.{trees}
use Rattle.ap_machine.specs.Sane.{HasBottom}
use Rattle.ap_machine.proofs.Kept.{HasBottom-keeps}
use Rattle.ap_machine.proofs.Places.{places-inside}
use Rattle.ap_machine.proofs.Begun.{tuple-width, zeros-inside, none-inside, no-places}
use Rattle.ap_machine.proofs.start.lay_out.Goals as goal

pub put_arguments-requires-clause-room : goal.put_arguments-requires-clause-room
put_arguments-requires-clause-room c =
    let w = tuple-width (trees c.copy_in.new.cells.cells) (length c.back_to_bottom.new.cells.cells) c.in_ok-copied.copied.first c.in_ok-copied.copied.count c.args.tuple.now c.in_ok-copied.ensures.tuple in
    let r = c.requires.room in
    omega arith

pub returns-in_err-put_arguments-clause-inside : goal.returns-in_err-put_arguments-clause-inside
returns-in_err-put_arguments-clause-inside c =
    let cells = c.copy_in.new.cells in
    let bottom : HasBottom cells = HasBottom-keeps c.back_to_bottom.new.cells cells c.in_ok-copied.ensures.keeps c.back_to_bottom.ensures in
    let some : 0 < length cells.cells = bottom.mark.fewer in
    let few = c.in_ok-copied.ensures.inside in
    record {
      bottom = bottom;
      registers = c.in_err-put_arguments.ensures.inside (length cells.cells) some (omega arith);
      permanent = none-inside cells c.clear-2.new.self.items bottom c.clear-2.ensures.items;
      places = no-places (length cells.cells) c.clear-3.new.self.items c.clear-3.ensures.items;
    }

pub returns-in_err-put_zeros-clause-inside : goal.returns-in_err-put_zeros-clause-inside
returns-in_err-put_zeros-clause-inside c =
    let cells = c.copy_in.new.cells in
    let bottom : HasBottom cells = HasBottom-keeps c.back_to_bottom.new.cells cells c.in_ok-copied.ensures.keeps c.back_to_bottom.ensures in
    let some : 0 < length cells.cells = bottom.mark.fewer in
    let few = c.in_ok-copied.ensures.inside in
    record {
      bottom = bottom;
      registers = c.in_ok-put_arguments.ensures.inside (length cells.cells) some (omega arith);
      permanent = none-inside cells c.put_zeros.new.registers.items bottom c.in_err-put_zeros.ensures.err;
      places = no-places (length cells.cells) c.clear-3.new.self.items c.clear-3.ensures.items;
    }

pub returns-clause-laid : goal.returns-clause-laid
returns-clause-laid c =
    let cells = c.copy_in.new.cells in
    let base = length c.back_to_bottom.new.cells.cells in
    let copied = c.in_ok-copied.copied in
    let few = c.in_ok-copied.ensures.inside in
    on_ok_weaker c.put_places.result (λ len. record {
      tuple = record {
        base = base;
        first = copied.first;
        count = copied.count;
        within = omega arith;
        tuple = c.in_ok-copied.ensures.tuple;
        width = tuple-width (trees cells.cells) base copied.first copied.count c.args.tuple.now c.in_ok-copied.ensures.tuple;
        args = c.in_ok-put_arguments.ensures.each;
        len = len;
        each = λ k l. c.put_places.ensures.each k (let e = len in omega arith);
      };
      count = c.in_ok-put_arguments.ensures.len;
      unset = c.in_ok-put_zeros.ensures.ok;
    }) c.put_places.ensures.len

pub returns-clause-inside : goal.returns-clause-inside
returns-clause-inside c =
    let cells = c.copy_in.new.cells in
    let bottom : HasBottom cells = HasBottom-keeps c.back_to_bottom.new.cells cells c.in_ok-copied.ensures.keeps c.back_to_bottom.ensures in
    let some : 0 < length cells.cells = bottom.mark.fewer in
    let few = c.in_ok-copied.ensures.inside in
    let count = c.put_places.ensures.few in
    record {
      bottom = bottom;
      registers = c.in_ok-put_arguments.ensures.inside (length cells.cells) some (omega arith);
      permanent = zeros-inside cells c.args.widths.y c.put_zeros.new.registers.items bottom c.in_ok-put_zeros.ensures.ok;
      places = places-inside c.in_ok-copied.copied.first (length cells.cells) c.put_places.new.places.items (omega arith) c.put_places.ensures.each;
    }
