use Rattle.std.proofs.Common.{drop}
use Rattle.ap_lexer.proofs.Feeds.{token-feeds}
use Rattle.ap_lexer.proofs.cut.feeds_in.Goals as goal

pub returns-in-Token : goal.returns-in-Token
returns-in-Token c = token-feeds (drop c.args.at c.args.text.now) c.args.kind c.in-Token.field-0 c.args.len c.requires.is (cc c.in-Token.is)
