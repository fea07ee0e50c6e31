use Rattle.std.proofs.Common.{◌+◌, ◌≤◌, ◌∙◌, sym, subst, length, arith}
use Rattle.std.specs.Prelude.{IfSome}
use Rattle.ap_lexer.proofs.Ends.{quoted_from_here, quoted_bounds, at_least, as_distance}
use Rattle.ap_lexer.proofs.ahead.quoted_len.Goals as goal

pub distance-requires : goal.distance-requires
distance-requires c = at_least c.args.at 1 (length c.args.text.now) c.quoted_end.result (quoted_bounds c.args.text.now (c.args.at + 1) c.quoted_end.result (omega (arith, c.requires.here)) c.quoted_end.ensures.value)

pub returns-clause-value : goal.returns-clause-value
returns-clause-value c = c.distance.ensures ∙ quoted_from_here c.args.text.now c.args.at c.quoted_end.result c.quoted_end.ensures.value

pub returns-clause-within : goal.returns-clause-within
returns-clause-within c = subst (λ r. IfSome r (λ len. (1 ≤ len) × (c.args.at + len ≤ length c.args.text.now))) (sym c.distance.ensures)
    (as_distance c.args.at 1 (length c.args.text.now) c.quoted_end.result (quoted_bounds c.args.text.now (c.args.at + 1) c.quoted_end.result (omega (arith, c.requires.here)) c.quoted_end.ensures.value))
