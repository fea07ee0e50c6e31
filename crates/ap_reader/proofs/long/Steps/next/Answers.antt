use Rattle.std.proofs.Common.{◌≤◌, length, sym, subst, rules}
use Rattle.ap_lexer.specs.Stream as stream
use Rattle.ap_reader.specs.Leaves.{AreOnce, Numbers, texts}
use Rattle.ap_reader.proofs.Ending.{fault_next, over_all, runs_kept}
use Rattle.ap_reader.proofs.long.Steps.next.Goals as goal

pub returns-in-Some-clause-next : goal.returns-in-Some-clause-next
returns-in-Some-clause-next c = λ ts done r. c.give.ensures.next ts done (c.loop-token.invariant.runs ts done r)

pub returns-then-self-clause-next : goal.returns-then-self-clause-next
returns-then-self-clause-next c = λ ts done r.
    let s = c.loop-token.self in
    let past : length s.pass.out.items ≤ s.given = search rules in
    over_all ts done s (c.loop-token.invariant.runs ts done r) c.if-self.true past

pub returns-in-Err-clause-next : goal.returns-in-Err-clause-next
returns-in-Err-clause-next c = λ ts done r.
    fault_next c.in-Err.fault ts done c.take_next.new.self (c.in-Err.ensures.taken ts done (c.loop-token.invariant.runs ts done r))

pub loop-token-init : goal.loop-token-init
loop-token-init c =
    let same = c.let_spent_go.ensures.same in
    record {
      ready = record {
        stands = subst stream.Stands (sym same.tokens) c.requires.stands;
        numbers = subst (λ v. Numbers v.numbers (texts v.names.items)) (sym same.variables) c.requires.numbers;
        once = subst (λ v. AreOnce v.names.items) (sym same.variables) c.requires.once;
      };
      runs = λ ts done r. runs_kept ts done c.args.self.now c.let_spent_go.new.self r
          (record { tokens = same.tokens; token = same.token; before = same.before; at = same.at; mode = same.mode; pass = same.pass; variables = same.variables; is_over = same.is_over }) same.given (c.let_spent_go.ensures.keeps r.passed r.holds);
    }
