use Rattle.std.proofs.Common.{ap, sym, ◌∙◌, subst}
use Rattle.ap_instr.specs.Code.{Compiled}
use Rattle.ap_codecheck.specs.Rules.{IsSound}
use Rattle.ap_codecheck.proofs.Tried.{query-known}
use Rattle.ap_codecheck.proofs.sound.Sound.query.Goals as goal

pub returns-clause-known : goal.returns-clause-known
returns-clause-known c =
    let P : Compiled → Type 0 = λ code. IsSound code in
    query-known c.args.self.now c.in-Some.number (subst P c.self.view_is c.self.invariant.0) (ap (λ code. code.query) (sym c.self.view_is) ∙ sym c.in-Some.ensures)
