use Rattle.std.proofs.Common.{◌≡◌, ℕ, List, Option, Some, option_map, IfOk, MatchOption, ap, sym, subst}
use Rattle.ap_patterns.specs.declared.entries.Entries.{Entries}
use Rattle.ap_top.specs.Patterns.{AreEntries}
use Rattle.ap_top.proofs.PatternWords.{ok-marked}
use Rattle.ap_top.proofs.patterns.entries_of.Goals as goal

pub returns-in-Some-clause-entries : goal.returns-in-Some-clause-entries
returns-in-Some-clause-entries c =
    let program = c.args.program.now in
    let table = c.args.atoms.now in
    let P : Option (List ℕ) → Type 0 = λ p. IfOk c.entry_of.result (λ o. MatchOption o ((E : Entries) → AreEntries p program table E → ⊥) (λ E. AreEntries p program table E)) in
    let same : option_map (λ w. w.now) c.args.pattern ≡ Some c.in-Some.word.now = ap (option_map (λ w. w.now)) c.in-Some.is in
    subst P (sym same) c.entry_of.ensures.entries

pub returns-in-Some-clause-marked : goal.returns-in-Some-clause-marked
returns-in-Some-clause-marked c =
    ok-marked (Some c.in-Some.word.now) c.args.program.now c.args.atoms.now c.as_slice-kept.ensures.kept c.entry_of.result c.entry_of.ensures.entries
