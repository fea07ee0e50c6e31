use Rattle.std.proofs.Common.{sym, subst}
use Rattle.ap_control.specs.declared.choosing.Fit.TheVariants.{Has}
use Rattle.ap_control.specs.Choosing.{IsWordFit, AreWordsFit}
use Rattle.ap_control.proofs.Words.{has-both, words-both, words-lack}
use Rattle.ap_control.proofs.choosing.fit_words.Goals as goal

pub returns-in-Lacks : goal.returns-in-Lacks
returns-in-Lacks c = words-lack c.args.known.now c.args.asked.now (subst (IsWordFit c.args.known.now.first.word c.args.asked.now.first) c.in-Lacks.is c.fit_word.ensures)

pub returns-in-Has : goal.returns-in-Has
returns-in-Has c = subst (AreWordsFit c.args.known.now c.args.asked.now) (has-both c.fit_other.result) (words-both c.args.known.now c.args.asked.now Has c.fit_other.result (subst (IsWordFit c.args.known.now.first.word c.args.asked.now.first) c.in-Has.is c.fit_word.ensures) c.fit_other.ensures)

pub returns-in_default : goal.returns-in_default
returns-in_default c =
    subst (AreWordsFit c.args.known.now c.args.asked.now) (sym c.both.ensures)
    (words-both c.args.known.now c.args.asked.now c.fit_word.result c.fit_other-in_default.result c.fit_word.ensures c.fit_other-in_default.ensures)
