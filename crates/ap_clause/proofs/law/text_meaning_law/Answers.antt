use Rattle.ap_clause.proofs.TextMeanings.{text_meaning}
use Rattle.ap_clause.proofs.law.text_meaning_law.Goals as goal

pub returns : goal.returns
returns c = text_meaning c.meaning_law.ensures
