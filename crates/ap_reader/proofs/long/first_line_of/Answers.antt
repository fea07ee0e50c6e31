use Rattle.std.proofs.Common.{sym, ap, subst}
use Rattle.ap_lexer.specs.Stream as stream
use Rattle.ap_reader.specs.Reading.{first_line}
use Rattle.ap_reader.proofs.long.first_line_of.Goals as goal

pub returns-in-Some : goal.returns-in-Some
returns-in-Some c = λ ts g.
    let found = subst (λ r. stream.Follows c.args.tokens r c.next.new.self) c.in-Some.is c.next.ensures.next ts g in
    sym (ap first_line found.1)
