use Rattle.std.proofs.Common.{sym, ◌∙◌, subst, take, arith}
use Rattle.std.proofs.lemmas.List.{take_more}
use Rattle.ap_listing.specs.Grouped.{IsGrouped}
use Rattle.ap_listing.proofs.choices.choices_of.Goals as goal
use Rattle.ap_listing.proofs.choices.choices_of.Goals.{in-Some+in_ok-add_keyed-in-Some, in-None+in_ok-add_open-in-None}

pub loop-clause-init : goal.loop-clause-init
loop-clause-init c = c.new-choices.ensures c.args.code.now

pub loop-clause-preserved : goal.loop-clause-preserved
loop-clause-preserved c =
    let code = c.args.code.now in
    let ls = c.args.places.now in
    let i = c.loop-clause.clause-index in
    subst (λ l. IsGrouped code l c.match-key_at.choices) (sym (take_more ls i 0 (omega arith)))
    (elim c.match-key_at.branch [
      | in-Some+in_ok-add_keyed-in-Some w ↦ subst (IsGrouped code _) (sym w.choices-is) (w.in_ok-add_keyed-in-Some.ensures code (take i ls) (sym c.key_at.ensures ∙ w.in-Some.is) c.loop-clause.invariant)
      | in-None+in_ok-add_open-in-None w ↦ subst (IsGrouped code _) (sym w.choices-is) (w.in_ok-add_open-in-None.ensures code (take i ls) (sym c.key_at.ensures ∙ w.in-None.is) c.loop-clause.invariant)
    ])
