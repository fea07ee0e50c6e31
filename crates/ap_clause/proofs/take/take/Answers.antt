use Rattle.std.proofs.Common.{◌≡◌, ◌∙◌, subst, map, length, rules}
use Rattle.ap_term.specs.TermView.{tree_of}
use Rattle.ap_reader.specs.Leaves.{texts}
use Rattle.ap_clause.specs.Verdict.{CanBeRule}
use Rattle.ap_reader.specs.Step.{postfix}
use Rattle.ap_reader.specs.Written.{leaf_of}
use Rattle.ap_reader.specs.Build.{names}
use Rattle.ap_reader.proofs.Tables.{grown, extends-self}
use Rattle.ap_clause.proofs.Verdicts.{fits_is, built_rule}
use Rattle.ap_clause.proofs.take.take.Goals as goal

pub judge-requires : goal.judge-requires
judge-requires c =
    let front = c.requires.0 in
    let t = c.requires.1.0 in
    let stands = c.requires.1.1 in
    let w = c.args.written in
    let old = c.args.atoms.now in
    let new = c.term_in.new.atoms in
    let fits = fits_is c.args.source c.args.before old new front t w stands c.in-Ok.form c.fits.result c.in-Ok.ensures c.fits.ensures ∙ c.if-not-fits.false in
    let names_are : w.names.items ≡ c.take_back-names.result.items = search rules in
    subst (λ ns. CanBeRule c.args.source (tree_of c.in-Ok-term_in.term) (length (texts ns)) w.line) names_are
    (built_rule c.args.source c.args.before old new front t w stands c.in-Ok-term_in.term c.mark-kept.ensures.kept fits (c.in-Ok-term_in.ensures t stands.steps))

pub returns-in-Ok-term_in-clause-grows : goal.returns-in-Ok-term_in-clause-grows
returns-in-Ok-term_in-clause-grows c =
    let t = c.requires.1.0 in
    let built = c.in-Ok-term_in.ensures t c.requires.1.1.steps in
    grown c.args.atoms.now c.args.atoms.now c.term_in.new.atoms (names (map leaf_of c.args.written.leaves.items) (postfix t)) (extends-self c.args.atoms.now) built.1
