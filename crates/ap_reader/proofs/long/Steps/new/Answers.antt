use Rattle.std.proofs.Common.{◌≡◌, [], sym, ap, refl, arith, rules}
use Rattle.ap_reader.specs.Machine.{Wants}
use Rattle.ap_reader.specs.Written.{leaves, variables}
use Rattle.ap_reader.specs.Leaves.{texts}
use Rattle.ap_reader.proofs.Taking.{left_next}
use Rattle.ap_reader.proofs.long.Steps.new.Goals as goal

pub returns-clause-runs : goal.returns-clause-runs
returns-clause-runs c = λ ts g.
    let none : texts c.new-3.result.names.items ≡ [] = search rules in
    record {
      stands = c.next-token.ensures.stands;
      gone = [];
      done_is = refl;
      within = omega arith;
      passed = [];
      holds = record { count = refl; kept = c.new-4.ensures []; last = tt };
      numbers = c.new-3.ensures.numbers;
      once = c.new-3.ensures.once;
      runs = record {
        x = Wants [];
        taken = [];
        left = ts;
        shows = c.new.ensures;
        left_is = left_next c.args.tokens c.next-token.new.self c.next-token.result ts c.next-token.ensures.next g;
        all = refl;
        goes = λ front e. record { rest = front; ends = e; words_are = refl; leaves_are = ap (λ ns. leaves ns front) (sym none); variables_are = ap (λ ns. variables ns front) (sym none); text = (λ x. x, λ x. x) };
      };
    }
