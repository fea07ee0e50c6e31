use Rattle.std.proofs.Common.{◌≡◌, true, sym, subst}
use Rattle.ap_codecheck.specs.Tables.{GoesOnBehind}
use Rattle.ap_codegen.specs.KeptCode.{code_of}
use Rattle.ap_top.proofs.SameCode.{with_code}
use Rattle.ap_top.proofs.last.prepare.Goals as goal

pub returns-clause-last : goal.returns-clause-last
returns-clause-last c = with_code c.in_ok-last.last c.beside.new.self c.in_ok-beside.ensures.same c.args.program.now c.args.kind c.args.query.now c.in_ok-last.ensures

pub returns-clause-behind : goal.returns-clause-behind
returns-clause-behind c =
    subst (λ k. c.in_ok-beside.beside.is_behind ≡ true → GoesOnBehind c.in_ok-beside.beside.sound (code_of k)) (sym c.in_ok-beside.ensures.same) c.in_ok-beside.ensures.behind
