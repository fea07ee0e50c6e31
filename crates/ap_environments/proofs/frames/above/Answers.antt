use Rattle.std.proofs.Common.{◌+◌, ◌-◌, ◌≤◌, length, slice_index_or, ap, sym, ◌∙◌, arith}
use Rattle.ap_environments.specs.Frames.{return_of, chain}
use Rattle.ap_environments.proofs.Chains.{LeadUp-at, chain-at, chain-none}
use Rattle.ap_environments.proofs.Above.{drop-none, drop-next}
use Rattle.ap_environments.proofs.frames.above.Goals as goal

pub returns-then-up-eq0-clause-chain : goal.returns-then-up-eq0-clause-chain
returns-then-up-eq0-clause-chain c = λ ss.
    let fs = c.args.frames.now in
    chain-none ss fs
    ∙ drop-none (chain ss fs c.args.top) c.loop.counter c.args.n (sym (ap (chain ss fs) c.if-up-eq0.true ∙ chain-none ss fs) ∙ c.loop.invariant.chain ss) (omega (arith, c.loop-test.true))

pub loop-preserved : goal.loop-preserved
loop-preserved c =
    let fs = c.args.frames.now in
    let l : c.loop.up ≤ length fs = c.loop.invariant.up in
    let n = c.loop.up - 1 in
    let f = slice_index_or fs n (record { place = 0; up = 0; first = 0; count = 0 }) in
    let u : f.up ≤ 0 + n = LeadUp-at 0 fs n (record { place = 0; up = 0; first = 0; count = 0 }) c.requires.up (omega (arith, c.if-up-eq0.false)) in
    record {
      chain = λ ss. drop-next (chain ss fs c.args.top) (chain ss fs f.up) (return_of ss f) c.loop.counter
          (sym (chain-at ss fs c.loop.up n (record { place = 0; up = 0; first = 0; count = 0 }) c.requires.up (omega (arith, c.if-up-eq0.false)) (omega (arith, c.if-up-eq0.false))) ∙ c.loop.invariant.chain ss);
      up = omega arith;
    }
