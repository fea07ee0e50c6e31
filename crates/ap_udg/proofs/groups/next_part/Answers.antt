use Rattle.std.proofs.Common.{◌∙◌, ap, sym, take, map}
use Rattle.std.proofs.lemmas.List.{take-map}
use Rattle.ap_term.specs.GoalView.{part_of}
use Rattle.ap_term.specs.TermView.{trees_of}
use Rattle.ap_term.specs.Goals.{group}
use Rattle.ap_term.specs.WellFormed.{numbered_all}
use Rattle.ap_udg.specs.Runs.{goals_of}
use Rattle.ap_udg.specs.Grouped.{together}
use Rattle.ap_udg.proofs.LongestRuns.{run-numbered}
use Rattle.ap_udg.proofs.Bodies.{next-alone, made_group}
use Rattle.ap_udg.proofs.groups.next_part.Goals as goal

pub returns-then-count-lt2 : goal.returns-then-count-lt2
returns-then-count-lt2 c =
    next-alone c.args.rule c.args.s.now c.args.parts.now c.in_ok-count.count c.index-parts-0.result c.in_ok-part.part c.in_ok-count.ensures c.if-count-lt2.true c.requires.some c.index-parts-0.is c.in_ok-part.ensures

pub left-requires : goal.left-requires
left-requires c =
    ap (numbered_all 255) (c.as_slice.ensures ∙ c.in_ok-calls.ensures ∙ ap goals_of (sym (take-map part_of c.in_ok-count.count c.args.parts.now)))
    ∙ run-numbered (map part_of c.args.parts.now) c.in_ok-count.count c.requires.formed

pub returns : goal.returns
returns c =
    let gs = c.in_ok-calls.ensures ∙ ap goals_of (sym (take-map part_of c.in_ok-count.count c.args.parts.now)) in
    together c.in_ok-count.count (group c.in_ok-checks.checks c.in_ok-calls.calls) c.in_ok-count.ensures c.if-count-lt2.false
    (made_group c.args.s.now c.in_ok-checks.checks (trees_of c.as_slice.result.now) c.in_ok-calls.calls (goals_of (take c.in_ok-count.count (map part_of c.args.parts.now))) c.in_ok-checks.ensures
    (c.as_slice.ensures ∙ gs) gs)
