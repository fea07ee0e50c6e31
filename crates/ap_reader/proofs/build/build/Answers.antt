use Rattle.std.proofs.Common.{◌≡◌, ◌≤◌, [], ◌∷◌, ap, sym, subst, ◌∙◌, map, drop, length, get_or, ◌+◌, add-one, arith, refl}
use Rattle.std.proofs.Math.ListN.{drop_of_length-le}
use Rattle.std.proofs.Math.Seq.{drop-cons}
use Rattle.std.proofs.lemmas.List.{append-nil}
use Rattle.ap_term.specs.AtomTable.{insert_names}
use Rattle.ap_reader.specs.declared.pass.Step.TheVariants as step
use Rattle.ap_reader.specs.Step.{postfix}
use Rattle.ap_reader.specs.Written.{leaf_of, meaning}
use Rattle.ap_reader.specs.Evaluated.{ATerm, made, left, evaluated, evaluates}
use Rattle.ap_reader.specs.Held.{Held, AllFit}
use Rattle.ap_reader.specs.Build.{names, step_names, term_in}
use Rattle.ap_reader.proofs.Held.{fits}
use Rattle.ap_reader.proofs.Tables.{insert_names-append, grown, fault-at, extends-self}
use Rattle.ap_reader.proofs.build.build.Goals as goal

pub loop-step-init : goal.loop-step-init
loop-step-init c =
    let xs = map leaf_of c.args.leaves.now in
    record {
      values = λ t e. (
        [],
        c.clear.ensures (insert_names c.args.atoms.now (names xs c.args.steps.now)),
        subst (AllFit xs []) (append-nil (postfix t) ∙ sym e) (fits xs t [] [] tt),
        ap (evaluated xs []) (e ∙ sym (append-nil (postfix t))) ∙ evaluates xs t [] [],
      );
      table = refl;
      grows = extends-self c.args.atoms.now;
    }

pub loop-step-preserved : goal.loop-step-preserved
loop-step-preserved c =
    let inv = c.loop-step.invariant in
    let xs = map leaf_of c.args.leaves.now in
    let steps = c.args.steps.now in
    let i = c.loop-step.step-index in
    let s = get_or steps i (step.Operand 0) in
    let rest = drop (i + 1) steps in
    let old = c.loop-step.atoms in
    let new = c.add.new.atoms in
    let next : drop i steps ≡ s ∷ rest = drop-cons steps i (step.Operand 0) c.loop-step-test.true ∙ ap (λ k. s ∷ drop k steps) (sym (add-one i)) in
    let table = c.in-Ok.ensures.table in
    let all : insert_names old (names xs (drop i steps)) ≡ insert_names new (names xs rest) =
    ap (λ l. insert_names old (names xs l)) next ∙ insert_names-append old (step_names xs s) (names xs rest) ∙ ap (λ ns. insert_names ns (names xs rest)) (sym table) in
    record {
      values = λ t e.
          let before = inv.values t e in
          let vs = before.0 in
          let fit = subst (AllFit xs vs) next before.2 in (
            made xs s vs ∷ left xs s vs,
            c.in-Ok.ensures.value (names xs rest) vs fit.0 (subst (λ ns. Held ns vs c.loop-step.stack) all before.1),
            fit.1,
            sym (ap (evaluated xs vs) next) ∙ before.3,
          );
      table = sym all ∙ inv.table;
      grows = grown c.args.atoms.now old new (step_names xs s) inv.grows table;
    }

pub returns-in-Err-clause-table : goal.returns-in-Err-clause-table
returns-in-Err-clause-table c =
    let inv = c.loop-step.invariant in
    let xs = map leaf_of c.args.leaves.now in
    let steps = c.args.steps.now in
    let i = c.loop-step.step-index in
    let s = get_or steps i (step.Operand 0) in
    let rest = drop (i + 1) steps in
    let next : drop i steps ≡ s ∷ rest = drop-cons steps i (step.Operand 0) c.loop-step-test.true ∙ ap (λ k. s ∷ drop k steps) (sym (add-one i)) in
    fault-at c.in-Err.e (step_names xs s) (names xs rest) (names xs steps) c.args.atoms.now c.loop-step.atoms c.add.new.atoms inv.grows
    (sym (ap (λ l. insert_names c.loop-step.atoms (names xs l)) next) ∙ inv.table) c.in-Err.ensures.table

pub returns-clause-value : goal.returns-clause-value
returns-clause-value c = λ t e.
    let inv = c.loop-step.invariant in
    let xs = map leaf_of c.args.leaves.now in
    let past : length c.args.steps.now ≤ c.loop-step.step-index = omega arith in
    let gone : drop c.loop-step.step-index c.args.steps.now ≡ [] = drop_of_length-le c.args.steps.now past in
    let last = inv.values t e in
    let ns = insert_names c.loop-step.atoms (names xs (drop c.loop-step.step-index c.args.steps.now)) in
    let end : last.0 ≡ ATerm (meaning xs t) ∷ [] = ap (evaluated xs last.0) (sym gone) ∙ last.3 in
    (c.take.ensures ns (meaning xs t) [] (subst (λ vs. Held ns vs c.loop-step.stack) end last.1)).0
    ∙ ap (λ l. term_in (insert_names c.loop-step.atoms (names xs l)) (meaning xs t)) gone
