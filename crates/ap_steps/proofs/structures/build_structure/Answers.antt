use Rattle.std.proofs.Common.{◌+◌, ◌≡◌, length, true, refl, arith}
use Rattle.ap_cells.proofs.Stores.{Keeps-trans}
use Rattle.ap_steps.specs.Moves.{held, HoldPlaces}
use Rattle.ap_instr.specs.Steps.{steps_from}
use Rattle.ap_steps.proofs.RegisterMaps.{but-all, all-but}
use Rattle.ap_steps.proofs.NewCells.{apart-absent}
use Rattle.ap_steps.proofs.StructureSteps.{got-stuck}
use Rattle.ap_steps.proofs.StructuresTaken.{built-taken}
use Rattle.ap_steps.proofs.structures.build_structure.Goals as goal

pub bind_structure-requires-clause-absent : goal.bind_structure-requires-clause-absent
bind_structure-requires-clause-absent c =
    let built = c.in-Fresh.ensures.built in
    let longer : length c.build_arguments.new.cells.cells ≡ length c.args.cells.now.cells + c.args.count = built.longer in
    apart-absent c.args.cells.now.cells c.build_arguments.new.cells.cells (c.in-Fresh.ensures.fresh refl) c.args.variable c.len-first.result c.args.count c.requires.place c.len-first.ensures.place (omega arith)

pub returns-in-Fresh-clause-taken : goal.returns-in-Fresh-clause-taken
returns-in-Fresh-clause-taken c =
    let old = c.args.cells.now.cells in
    let mid = c.build_arguments.new.cells.cells in
    let all_x : HoldPlaces (length mid) c.build_arguments.new.x =
    all-but (length mid) c.build_arguments.new.x (λ whole. c.build_arguments.ensures.holds_x whole (but-all (length old) whole c.args.x.now c.requires.holds_x))
    in
    let all_y : HoldPlaces (length mid) c.build_arguments.new.y =
    all-but (length mid) c.build_arguments.new.y (λ whole. c.build_arguments.ensures.holds_y whole (but-all (length old) whole c.args.y.now c.requires.holds_y))
    in
    λ a e.
    built-taken c.args.code.now c.args.at c.args.name c.args.count a old (held c.args.x.now) (held c.args.y.now) c.requires.holds_x c.requires.holds_y c.args.variable c.len-first.result c.len-first.ensures.place c.requires.place c.requires.unbound e mid
    c.bind_structure.new.cells.cells (held c.build_arguments.new.x) (held c.build_arguments.new.y) c.build_arguments.ensures.stays c.in-Fresh.ensures.built all_x all_y true c.bind_structure.ensures.becomes

pub returns-in-Fresh-clause-holds_x : goal.returns-in-Fresh-clause-holds_x
returns-in-Fresh-clause-holds_x c =
    λ t w.
    let l = all-but (length c.build_arguments.new.cells.cells) c.build_arguments.new.x (λ whole. c.build_arguments.ensures.holds_x whole (but-all (length c.args.cells.now.cells) whole c.args.x.now c.requires.holds_x)) in
    omega (arith, l w)

pub returns-in-Fresh-clause-holds_y : goal.returns-in-Fresh-clause-holds_y
returns-in-Fresh-clause-holds_y c =
    λ t w.
    let l = all-but (length c.build_arguments.new.cells.cells) c.build_arguments.new.y (λ whole. c.build_arguments.ensures.holds_y whole (but-all (length c.args.cells.now.cells) whole c.args.y.now c.requires.holds_y)) in
    omega (arith, l w)

pub returns-in-Fresh-clause-keeps : goal.returns-in-Fresh-clause-keeps
returns-in-Fresh-clause-keeps c = Keeps-trans c.args.cells.now c.build_arguments.new.cells c.bind_structure.new.cells c.build_arguments.ensures.keeps c.bind_structure.ensures.keeps

pub returns-in_ok-answer-in-Values-clause-taken : goal.returns-in_ok-answer-in-Values-clause-taken
returns-in_ok-answer-in-Values-clause-taken c =
    let old = c.args.cells.now.cells in
    let mid = c.build_arguments.new.cells.cells in
    let all_x : HoldPlaces (length mid) c.build_arguments.new.x =
    all-but (length mid) c.build_arguments.new.x (λ whole. c.build_arguments.ensures.holds_x whole (but-all (length old) whole c.args.x.now c.requires.holds_x))
    in
    let all_y : HoldPlaces (length mid) c.build_arguments.new.y =
    all-but (length mid) c.build_arguments.new.y (λ whole. c.build_arguments.ensures.holds_y whole (but-all (length old) whole c.args.y.now c.requires.holds_y))
    in
    λ a e.
    built-taken c.args.code.now c.args.at c.args.name c.args.count a old (held c.args.x.now) (held c.args.y.now) c.requires.holds_x c.requires.holds_y c.args.variable c.len-first.result c.len-first.ensures.place c.requires.place c.requires.unbound e mid
    c.match_built.new.cells.cells (held c.build_arguments.new.x) (held c.build_arguments.new.y) c.build_arguments.ensures.stays c.in-Values.ensures.built all_x all_y c.in_ok-answer-in-Values.answer c.in_ok-answer-in-Values.ensures.answered

pub returns-in_ok-answer-in-Values-clause-holds_x : goal.returns-in_ok-answer-in-Values-clause-holds_x
returns-in_ok-answer-in-Values-clause-holds_x c =
    λ t w.
    let l = all-but (length c.build_arguments.new.cells.cells) c.build_arguments.new.x (λ whole. c.build_arguments.ensures.holds_x whole (but-all (length c.args.cells.now.cells) whole c.args.x.now c.requires.holds_x)) in
    omega (arith, l w)

pub returns-in_ok-answer-in-Values-clause-holds_y : goal.returns-in_ok-answer-in-Values-clause-holds_y
returns-in_ok-answer-in-Values-clause-holds_y c =
    λ t w.
    let l = all-but (length c.build_arguments.new.cells.cells) c.build_arguments.new.y (λ whole. c.build_arguments.ensures.holds_y whole (but-all (length c.args.cells.now.cells) whole c.args.y.now c.requires.holds_y)) in
    omega (arith, l w)

pub returns-in_ok-answer-in-Values-clause-keeps : goal.returns-in_ok-answer-in-Values-clause-keeps
returns-in_ok-answer-in-Values-clause-keeps c = Keeps-trans c.args.cells.now c.build_arguments.new.cells c.match_built.new.cells c.build_arguments.ensures.keeps c.match_built.ensures.keeps

pub returns-in_err-answer-in-Values-clause-keeps : goal.returns-in_err-answer-in-Values-clause-keeps
returns-in_err-answer-in-Values-clause-keeps c = Keeps-trans c.args.cells.now c.build_arguments.new.cells c.match_built.new.cells c.build_arguments.ensures.keeps c.match_built.ensures.keeps

pub returns-in-Stuck-clause-taken : goal.returns-in-Stuck-clause-taken
returns-in-Stuck-clause-taken c =
    λ a e.
    got-stuck c.args.cells.now.cells (held c.args.x.now) (held c.args.y.now) c.args.name c.args.count a (steps_from c.args.code.now c.args.at) c.requires.holds_x c.requires.holds_y c.in-Stuck.ensures.built
