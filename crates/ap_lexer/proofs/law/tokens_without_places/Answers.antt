use Rattle.ap_lexer.proofs.Places.{reads_without_places}
use Rattle.ap_lexer.proofs.law.tokens_without_places.Goals as goal

pub returns : goal.returns
returns c = reads_without_places
