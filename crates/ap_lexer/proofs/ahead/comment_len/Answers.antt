use Rattle.std.proofs.Common.{◌+◌, ◌≤◌, ◌∙◌, sym, subst, length}
use Rattle.std.specs.Prelude.{IfSome}
use Rattle.ap_lexer.proofs.Ends.{comment_from_here, comment_bounds, at_least, as_distance}
use Rattle.ap_lexer.proofs.ahead.comment_len.Goals as goal

pub distance-requires : goal.distance-requires
distance-requires c = at_least c.args.at 2 (length c.args.text.now) c.comment_end.result (comment_bounds c.args.text.now (c.args.at + 2) c.comment_end.result c.requires.here c.comment_end.ensures.value)

pub returns-clause-value : goal.returns-clause-value
returns-clause-value c = c.distance.ensures ∙ comment_from_here c.args.text.now c.args.at c.comment_end.result c.comment_end.ensures.value

pub returns-clause-within : goal.returns-clause-within
returns-clause-within c = subst (λ r. IfSome r (λ len. (2 ≤ len) × (c.args.at + len ≤ length c.args.text.now))) (sym c.distance.ensures)
    (as_distance c.args.at 2 (length c.args.text.now) c.comment_end.result (comment_bounds c.args.text.now (c.args.at + 2) c.comment_end.result c.requires.here c.comment_end.ensures.value))
