use Rattle.std.proofs.Common.{◌∙◌, ap, sym, map, arith}
use Rattle.ap_term.specs.GoalView.{part_of}
use Rattle.ap_term.specs.WellFormed.{numbered_all}
use Rattle.ap_udg.specs.Runs.{may_stand}
use Rattle.ap_udg.proofs.LongestRuns.{tried, tried-length, tried-run, tried-alone, one_less, run-numbered}
use Rattle.ap_udg.proofs.runs.longest_run.Goals as goal

pub slice_bounds-may_stand-end : goal.slice_bounds-may_stand-end
slice_bounds-may_stand-end c =
    tried-length c.args.parts.now c.user_calls-most.result c.loop-n.n c.as_slice.result.now (c.as_slice.ensures ∙ c.in_ok-goals.ensures) c.user_calls-most.ensures.user c.user_calls-most.ensures.there
    c.loop-n.invariant.within

pub may_stand-requires : goal.may_stand-requires
may_stand-requires c =
    ap (numbered_all 255) (tried c.args.parts.now c.user_calls-most.result c.loop-n.n c.as_slice.result.now (c.as_slice.ensures ∙ c.in_ok-goals.ensures) c.user_calls-most.ensures.user c.loop-n.invariant.within)
    ∙ run-numbered (map part_of c.args.parts.now) c.loop-n.n c.requires

pub returns-then-branch : goal.returns-then-branch
returns-then-branch c =
    let same = tried c.args.parts.now c.user_calls-most.result c.loop-n.n c.as_slice.result.now (c.as_slice.ensures ∙ c.in_ok-goals.ensures) c.user_calls-most.ensures.user c.loop-n.invariant.within in
    record {
      run = tried-run c.args.rule c.args.s.now c.args.parts.now c.user_calls-most.result c.loop-n.n c.user_calls-most.ensures.few c.user_calls-most.ensures.there c.user_calls-most.ensures.user
          c.loop-n.invariant.within (ap (may_stand c.args.rule c.args.s.now) (sym same) ∙ sym c.in_ok-may_stand.ensures ∙ c.if-branch.true);
      longest = c.loop-n.invariant.longest;
    }

pub loop-n-preserved : goal.loop-n-preserved
loop-n-preserved c =
    let same = tried c.args.parts.now c.user_calls-most.result c.loop-n.n c.as_slice.result.now (c.as_slice.ensures ∙ c.in_ok-goals.ensures) c.user_calls-most.ensures.user c.loop-n.invariant.within in
    record {
      within = omega arith;
      longest = one_less c.args.rule c.args.s.now (map part_of c.args.parts.now) c.loop-n.n (ap (may_stand c.args.rule c.args.s.now) (sym same) ∙ sym c.in_ok-may_stand.ensures ∙ c.if-branch.false)
          c.loop-n.invariant.longest;
    }

pub returns : goal.returns
returns c = record {
  run = tried-alone c.args.rule c.args.s.now c.args.parts.now c.user_calls-most.result c.loop-n.n c.user_calls-most.ensures.there c.user_calls-most.ensures.user c.loop-n.invariant.within c.loop-n-test.false;
  longest = c.loop-n.invariant.longest;
}
