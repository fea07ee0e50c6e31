use Rattle.std.proofs.Common.{ap, of_z, w64}
use Rattle.ap_index.specs.declared.word.Word.{Word}
use Rattle.ap_control.proofs.Words.{word-takes, word-lacks}
use Rattle.ap_control.proofs.choosing.fit_word.Goals.{else-own-asked-via-then-own-asked+else-own-asked-2, else-own-asked-via-else-own-asked}
use Rattle.ap_control.proofs.choosing.fit_word.Goals as goal

pub returns-then-own-eq-UNBOUND : goal.returns-then-own-eq-UNBOUND
returns-then-own-eq-UNBOUND c = word-takes c.args.own c.args.asked c.if-own-eq-UNBOUND.true

pub returns-else-own-asked : goal.returns-else-own-asked
returns-else-own-asked c = word-lacks c.args.own c.args.asked c.if-own-eq-NOTHING.false c.if-own-eq-UNBOUND.false c.if-asked-eq-NOTHING.false (λ e.
    elim c.else-own-asked.branch [
      | else-own-asked-via-then-own-asked+else-own-asked-2 w ↦ w.if-own-asked-2.false (ap (λ (w : Word). of_z w64 w.value) e)
      | else-own-asked-via-else-own-asked w ↦ w.if-own-asked.false (ap (λ (w : Word). w.kind) e)
    ])
