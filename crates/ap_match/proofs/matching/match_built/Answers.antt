use Rattle.std.proofs.Common.{◌<◌, length, arith}
use Rattle.ap_cells.proofs.Stores.{Keeps-trans}
use Rattle.ap_match.proofs.Maps.{answered}
use Rattle.ap_match.proofs.Matches.{built-answered}
use Rattle.ap_match.proofs.matching.match_built.Goals as goal

pub returns-clause-answered : goal.returns-clause-answered
returns-clause-answered c =
    let old = c.args.cells.now.cells in
    let mid = c.push_new-whole.new.cells.cells in
    let new = c.unify.new.cells.cells in
    let in_x : c.args.x < length mid = omega arith in
    let in_whole : c.push_new-whole.result < length mid = omega arith in
    built-answered old mid new c.args.x c.push_new-whole.result c.args.name c.args.first c.args.count c.requires.inside c.requires.args c.push_new-whole.ensures.becomes c.in_ok-answer.answer
    (answered mid new c.args.x c.push_new-whole.result in_x in_whole c.unify.ensures.len c.in_ok-answer.answer c.in_ok-answer.ensures.answer)

pub returns-clause-keeps : goal.returns-clause-keeps
returns-clause-keeps c = Keeps-trans c.args.cells.now c.push_new-whole.new.cells c.unify.new.cells c.push_new-whole.ensures.keeps c.unify.ensures.keeps

pub returns-in_err-answer-clause-keeps : goal.returns-in_err-answer-clause-keeps
returns-in_err-answer-clause-keeps c = Keeps-trans c.args.cells.now c.push_new-whole.new.cells c.unify.new.cells c.push_new-whole.ensures.keeps c.unify.ensures.keeps
