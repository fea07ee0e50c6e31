use Rattle.std.proofs.Common.{List, ◌∷◌, ap, sym, subst}
use Rattle.ap_term.specs.UpToNames.{SameUpToNames}
use Rattle.ap_tracked.specs.Tracked.{Tracked}
use Rattle.ap_instr.specs.Code.{Compiled}
use Rattle.ap_standing.specs.Holds.{Holds}
use Rattle.ap_tie.specs.Sections.{machine_in}
use Rattle.ap_tie.specs.Tied.{IsAtAnswer}
use Rattle.ap_machine.specs.Lent.{terms_of}
use Rattle.ap_section.proofs.Levels.{view_of-out}
use Rattle.ap_section.proofs.section.Section.tuple.Goals as goal

pub returns-clause-answered : goal.returns-clause-answered
returns-clause-answered c = subst (λ m. IsAtAnswer m → (code : Compiled) (n : Tracked) (ns : List Tracked) → Holds code m (n ∷ ns) → SameUpToNames (terms_of c.tuple.result) n.tuple)
    (sym (ap machine_in (view_of-out c.args.self.now))) c.tuple.ensures.answered
