use Rattle.std.proofs.Common.{subst}
use Rattle.std.specs.Prelude.{IfSome}
use Rattle.ap_codecheck.specs.Tables.{WasKept}
use Rattle.ap_codecheck.proofs.Keeping.{kept-base}
use Rattle.ap_codecheck.proofs.sound.Sound.into_kept.Goals as goal

pub returns : goal.returns
returns c = λ base on long.
    let inside = c.self.inside in
    let known : WasKept inside.code inside.tables c.in-Some.mark = subst (λ o. IfSome o (WasKept inside.code inside.tables)) c.in-Some.is c.self.invariant.2 in
    let was : WasKept c.args.self inside.tables c.in-Some.mark = subst (λ code. WasKept code inside.tables c.in-Some.mark) c.self.view_is known in
    record {
      tables = kept-base c.args.self base inside.tables c.cut_to.new.self c.in-Some.mark c.args.extent was (c.is_of.ensures c.if-not-is_of.false) c.cut_to.ensures on long;
      extent = long;
    }
