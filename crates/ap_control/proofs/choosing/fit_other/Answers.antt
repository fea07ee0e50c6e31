use Rattle.ap_control.proofs.Words.{other-none, other-told}
use Rattle.ap_control.proofs.choosing.fit_other.Goals as goal

pub returns-then-asked-eq-NOTHING : goal.returns-then-asked-eq-NOTHING
returns-then-asked-eq-NOTHING c = other-none c.args.known.now c.args.asked.now c.if-asked-eq-NOTHING.true

pub returns : goal.returns
returns c = other-told c.args.known.now c.args.asked.now c.fit_word.result c.if-asked-known.false c.fit_word.ensures
