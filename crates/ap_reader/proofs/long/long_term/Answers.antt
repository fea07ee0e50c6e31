use Rattle.std.proofs.Common.{[], ◌∷◌, ◌++◌, Ok, sym, ap, subst, ◌∙◌, refl, map, append_assoc}
use Rattle.std.proofs.lemmas.List.{append-nil}
use Rattle.ap_term.specs.AtomTable.{insert_names}
use Rattle.ap_reader.specs.Step.{postfix}
use Rattle.ap_reader.specs.Written.{leaf_of, leaves, variables, meaning}
use Rattle.ap_reader.specs.Leaves.{texts}
use Rattle.ap_reader.specs.Evaluated.{evaluated}
use Rattle.ap_reader.specs.Held.{Held, AllFit}
use Rattle.ap_reader.specs.Build.{names, step_names}
use Rattle.ap_reader.specs.Long.{IsSame, Nexts}
use Rattle.ap_reader.specs.Word.{words}
use Rattle.ap_reader.proofs.Held.{fits}
use Rattle.ap_reader.proofs.Read.{one_front}
use Rattle.ap_reader.proofs.Complete.{one}
use Rattle.ap_reader.proofs.Tables.{insert_names-append, grown, fault-at, extends-self}
use Rattle.ap_reader.proofs.Same.{folded, fits_at, fits_same, names_same, names_push, names_split}
use Rattle.ap_reader.proofs.Ending.{all_values, fault_extends}
use Rattle.ap_reader.proofs.long.long_term.Goals as goal

pub loop-step-init : goal.loop-step-init
loop-step-init c = record {
  ready = c.new-steps.ensures.ready;
  builds = λ ts front t g sp. ([], c.new-steps.ensures.runs ts g, λ more. c.clear.ensures (insert_names c.args.atoms.now more), refl);
  grows = extends-self c.args.atoms.now;
}

-- what one step more does to the table, and where it has no room for a name
pub loop-step-preserved : goal.loop-step-preserved
loop-step-preserved c =
    let step = c.in-Ok-Some.step in
    let steps = c.next.new.self in
    let old = c.loop-step.atoms in
    let new = c.add.new.atoms in
    let ys = map leaf_of c.leaves.result.now in
    let table = c.in-Ok.ensures.table in
    record {
      ready = c.in-Ok-Some.ensures.ready;
      builds = λ ts front t g sp.
          let before = c.loop-step.invariant.builds ts front t g sp in
          let done = before.0 in
          let n = subst (λ o. Nexts ts done (Ok o) steps) c.in-Ok-Some.field-0-is (c.in-Ok-Some.ensures.next ts done before.1) in
          let xs = leaves [] front in
          let vs = evaluated xs [] done in
          let found = n.2 front t sp in
          let same = subst (λ l. IsSame xs l n.0 step) (sym c.leaves.ensures) found.2 in
          let fit = fits_same xs ys n.0 step vs same (fits_at xs [] done found.0 n.0 (subst (AllFit xs []) (append-nil (postfix t) ∙ found.1) (fits xs t [] [] tt))) in (
            done ++ n.0 ∷ [],
            n.1,
            λ more.
                let names_are = insert_names-append old (step_names ys step) more ∙ ap (λ ns. insert_names ns more) (sym table) in
                subst (λ l. Held (insert_names new more) l c.add.new.stack) (folded xs ys done n.0 step same)
                (c.in-Ok.ensures.value more vs fit (subst (λ ns. Held ns vs c.loop-step.room.stack) names_are (before.2 (step_names ys step ++ more)))),
            table ∙ ap (insert_names old) (sym (names_same xs ys n.0 step same)) ∙ ap (λ o. insert_names o (step_names xs n.0)) before.3
                ∙ sym (insert_names-append c.args.atoms.now (names xs done) (step_names xs n.0)) ∙ ap (insert_names c.args.atoms.now) (sym (names_push xs done n.0)),
          );
      grows = grown c.args.atoms.now old new (step_names ys step) c.loop-step.invariant.grows table;
    }

pub returns-in-Err-add-clause-term : goal.returns-in-Err-add-clause-term
returns-in-Err-add-clause-term c = λ ts front t g sp.
    let step = c.in-Ok-Some.step in
    let first = c.args.atoms.now in
    let old = c.loop-step.atoms in
    let ys = map leaf_of c.leaves.result.now in
    let before = c.loop-step.invariant.builds ts front t g sp in
    let done = before.0 in
    let n = subst (λ o. Nexts ts done (Ok o) c.next.new.self) c.in-Ok-Some.field-0-is (c.in-Ok-Some.ensures.next ts done before.1) in
    let xs = leaves [] front in
    let found = n.2 front t sp in
    let same = subst (λ l. IsSame xs l n.0 step) (sym c.leaves.ensures) found.2 in
    let rest = names xs found.0 in
    fault-at c.in-Err-add.e (step_names ys step) rest (names xs (postfix t)) first old c.add.new.atoms c.loop-step.invariant.grows
    (ap (λ k. insert_names old (k ++ rest)) (sym (names_same xs ys n.0 step same)) ∙ ap (λ o. insert_names o (step_names xs n.0 ++ rest)) before.3
    ∙ sym (insert_names-append first (names xs done) (step_names xs n.0 ++ rest)) ∙ ap (insert_names first) (sym (names_split xs done found.0 n.0)) ∙ ap (λ l. insert_names first (names xs l)) (sym found.1))
    c.in-Err-add.ensures.table

pub returns-in-Err-add-clause-grows : goal.returns-in-Err-add-clause-grows
returns-in-Err-add-clause-grows c =
    let more = fault_extends (step_names (map leaf_of c.leaves.result.now) c.in-Ok-Some.step) c.loop-step.atoms c.add.new.atoms c.in-Err-add.e c.in-Err-add.ensures.table in
    let grows = c.loop-step.invariant.grows in
    (grows.0 ++ more.0, more.1 ∙ ap (λ l. l ++ more.0) grows.1 ∙ append_assoc c.args.atoms.now grows.0 more.0)

pub returns-in-Ok-None-clause-term : goal.returns-in-Ok-None-clause-term
returns-in-Ok-None-clause-term c = λ ts front t g sp.
    let before = c.loop-step.invariant.builds ts front t g sp in
    let done = before.0 in
    let n = subst (λ o. Nexts ts done (Ok o) c.next.new.self) c.in-Ok-None.field-0-is (c.in-Ok-None.ensures.next ts done before.1) in
    let xs = leaves [] front in
    let same_front = one_front ts front n.0 sp.ends n.2.ends in
    let same = one t n.1 sp.rules n.2.rules (sp.spelling ∙ ap words same_front ∙ sym n.2.spelling) in
    let all = n.3 ∙ ap postfix (sym same) in (
      (c.take.ensures c.loop-step.atoms (meaning xs t) [] (subst (λ vs. Held c.loop-step.atoms vs c.loop-step.room.stack) (all_values xs done t all) (before.2 []))).0,
      before.3 ∙ ap (λ l. insert_names c.args.atoms.now (names xs l)) all,
      ap (λ v. texts v.items) c.take_names.ensures ∙ n.4 ∙ ap (variables []) (sym same_front),
    )
