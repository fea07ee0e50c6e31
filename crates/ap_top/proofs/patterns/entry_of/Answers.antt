use Rattle.ap_term.specs.Tree.{Tree}
use Rattle.ap_term.specs.TermView.{tree_of}
use Rattle.ap_term.specs.declared.terms.Term.{Term}
use Rattle.ap_top.specs.Patterns.{ReadsWord}
use Rattle.ap_top.proofs.PatternWords.{no-term, as-term, at-none, at-some}
use Rattle.ap_top.proofs.patterns.entry_of.Goals as goal

pub returns-in-None-clause-entries : goal.returns-in-None-clause-entries
returns-in-None-clause-entries c =
    let word = c.args.word.now in
    let table = c.args.atoms.now in
    let Absent = (t : Tree) → ReadsWord word table t → ⊥ in
    no-term word c.args.program.now table (at-none Absent (λ (t : Term). ReadsWord word table (tree_of t)) c.in_ok-term.field-0 c.in-None.is c.in_ok-term.ensures.read)

pub returns-in-Some-clause-entries : goal.returns-in-Some-clause-entries
returns-in-Some-clause-entries c =
    let word = c.args.word.now in
    let table = c.args.atoms.now in
    let Absent = (t : Tree) → ReadsWord word table t → ⊥ in
    let reads = at-some Absent (λ (t : Term). ReadsWord word table (tree_of t)) c.in_ok-term.field-0 c.in-Some.term c.in-Some.is c.in_ok-term.ensures.read in
    as-term word c.args.program.now table (tree_of c.in-Some.term) reads c.entry_as.result c.entry_as.ensures
