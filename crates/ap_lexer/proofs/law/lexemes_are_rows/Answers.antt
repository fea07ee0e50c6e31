use Rattle.ap_lexer.proofs.Rows.{lexeme_fits}
use Rattle.ap_lexer.proofs.Again.{again}
use Rattle.ap_lexer.proofs.law.lexemes_are_rows.Goals as goal

pub returns-clause-rows : goal.returns-clause-rows
returns-clause-rows c = lexeme_fits

pub returns-clause-tokens : goal.returns-clause-tokens
returns-clause-tokens c = again
