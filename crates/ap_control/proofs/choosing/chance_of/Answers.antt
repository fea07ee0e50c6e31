use Rattle.std.proofs.Common.{◌≡◌, false, sym, ◌∙◌, subst}
use Rattle.std.proofs.lemmas.Bool.{false≢true}
use Rattle.ap_steps.specs.Moves.{held}
use Rattle.ap_control.specs.Choosing.{AreWordsFit, IsChance}
use Rattle.ap_control.proofs.Words.{chance-by-words, never-by-words}
use Rattle.ap_control.proofs.choosing.chance_of.Goals.{then-choice, else-choice}
use Rattle.ap_control.proofs.choosing.chance_of.Goals as goal

pub returns-in-Lacks : goal.returns-in-Lacks
returns-in-Lacks c = λ code is.
    let choice = c.args.choice.now in
    never-by-words code c.args.cells.now.cells (held c.args.x.now) c.args.arity c.args.known.now choice is c.requires.known (subst (AreWordsFit c.args.known.now choice.short) c.in-Lacks.is c.fit_words.ensures)

pub returns-else-is_untold : goal.returns-else-is_untold
returns-else-is_untold c = λ code is.
    let cs = c.args.cells.now.cells in
    let x = held c.args.x.now in
    let choice = c.args.choice.now in
    let no : choice.short.more ≡ false = elim c.if-choice.branch [
      | then-choice w ↦ absurd (false≢true (sym c.if-is_untold.false ∙ w.value-is ∙ w.if-choice.true))
      | else-choice w ↦ w.if-choice.false
    ] in
    subst (IsChance code cs x c.args.arity choice.named.place) (sym c.chance_by.ensures)
    (chance-by-words code cs x c.args.arity c.args.known.now choice is c.requires.known c.fit_words.result c.fit_words.ensures no)
