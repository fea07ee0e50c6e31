use Rattle.std.proofs.Common.{◌≡◌, ◌+◌, ◌-◌, ◌∷◌, Some, false, slice_get, sym, ◌∙◌, subst, arith}
use Rattle.ap_instr.specs.Step.{step_of}
use Rattle.ap_instr.specs.Steps.{steps_from, skipped}
use Rattle.ap_instr.proofs.Steps.{steps_law}
use Rattle.ap_instr.specs.Runs.{IsOpen, AsksOpenly}
use Rattle.ap_needs.specs.Needs.{is_transfer}
use Rattle.ap_needs.proofs.Places.{steps-next}
use Rattle.ap_index.specs.declared.opening.Way.TheVariants.{On, Structure}
use Rattle.ap_index.specs.Opening.{IsOpenInside, LeadsBy}
use Rattle.ap_index.proofs.Building.{inside-none, inside-open}
use Rattle.ap_index.proofs.Openness.{past}
use Rattle.ap_index.proofs.opening.is_open.Goals.{in-On, in-Structure}
use Rattle.ap_index.proofs.opening.is_open.Goals as goal

pub loop-place-init : goal.loop-place-init
loop-place-init c = record { opens = inside-open 0 (steps_from c.args.code.now c.args.at); openly = λ o. o }

pub returns-in-Goal : goal.returns-in-Goal
returns-in-Goal c = λ b openly.
    let code = c.args.code.now in
    let at = c.loop-place.place in
    let is = steps_from code (at + 1 + skipped c.in-Some.instr at) in
    let here : steps_from code at ≡ step_of code c.in-Some.instr ∷ is = steps_law code at c.in-Some.instr (sym c.instruction_at.ensures ∙ c.in-Some.is) in
    let none : c.loop-place.left ≡ 0 = omega arith in
    let o : IsOpen (steps_from code at) = subst IsOpen (sym here) (c.in-Goal.ensures is (subst AsksOpenly here (c.loop-place.invariant.openly openly))) in
    c.loop-place.invariant.opens (subst (λ n. IsOpenInside c.loop-place.whole n (steps_from code at)) (sym none) (inside-none c.loop-place.whole (steps_from code at) o))

pub loop-place-preserved : goal.loop-place-preserved
loop-place-preserved c =
    let code = c.args.code.now in
    let at = c.loop-place.place in
    let is = steps_from code (at + 1) in
    let stands : slice_get code.instructions at ≡ Some c.in-Some.instr = sym c.instruction_at.ensures ∙ c.in-Some.is in
    let here : is_transfer c.in-Some.instr ≡ false → steps_from code at ≡ step_of code c.in-Some.instr ∷ is = steps-next code at c.in-Some.instr stands in
    let none : c.loop-place.left ≡ 0 = omega arith in
    let base : is_transfer c.in-Some.instr ≡ false → IsOpen (step_of code c.in-Some.instr ∷ is) → IsOpen (steps_from code c.args.at) =
    λ goes_on o. c.loop-place.invariant.opens (subst (λ n. IsOpenInside c.loop-place.whole n (steps_from code at)) (sym none) (inside-none c.loop-place.whole (steps_from code at) (subst IsOpen (sym (here goes_on)) o)))
    in
    elim c.match-way_of.branch [
      | in-On w ↦
          let leads : LeadsBy code c.in-Some.instr On = subst (LeadsBy code c.in-Some.instr) w.in-On.is c.way_of.ensures in
          record {
            opens = λ h. base leads.0 (leads.1 is (inside-open c.match-way_of.whole is (subst (λ n. IsOpenInside c.match-way_of.whole n is) (w.left-is ∙ none) h)));
            openly = λ o. past code at c.in-Some.instr stands leads.0 (c.loop-place.invariant.openly o);
          }
      | in-Structure w ↦
          let leads : LeadsBy code c.in-Some.instr (Structure w.in-Structure.count w.in-Structure.a) = subst (LeadsBy code c.in-Some.instr) w.in-Structure.is c.way_of.ensures in
          record {
            opens = λ h. base leads.0 (leads.1 is (subst (λ a. IsOpenInside a w.in-Structure.count is) w.whole-is (subst (λ n. IsOpenInside c.match-way_of.whole n is) w.left-is h)));
            openly = λ o. past code at c.in-Some.instr stands leads.0 (c.loop-place.invariant.openly o);
          }
    ]

pub loop-place-preserved-then-left-gt0 : goal.loop-place-preserved-then-left-gt0
loop-place-preserved-then-left-gt0 c =
    let code = c.args.code.now in
    let at = c.loop-place.place in
    let is = steps_from code (at + 1) in
    let a = c.loop-place.whole in
    let stands : slice_get code.instructions at ≡ Some c.in-Some.instr = sym c.instruction_at.ensures ∙ c.in-Some.is in
    let goes_on : is_transfer c.in-Some.instr ≡ false = c.adds_argument.ensures.goes_on c.if-not-adds_argument.false in
    let here : steps_from code at ≡ step_of code c.in-Some.instr ∷ is = steps-next code at c.in-Some.instr stands goes_on in
    let one : (c.loop-place.left - 1) + 1 ≡ c.loop-place.left = omega arith in
    record {
      opens = λ h.
          let o : IsOpenInside a ((c.loop-place.left - 1) + 1) (step_of code c.in-Some.instr ∷ is) = c.adds_argument.ensures.opens c.if-not-adds_argument.false (c.loop-place.left - 1) is h in
          c.loop-place.invariant.opens (subst (IsOpenInside a c.loop-place.left) (sym here) (subst (λ n. IsOpenInside a n (step_of code c.in-Some.instr ∷ is)) one o));
      openly = λ o. past code at c.in-Some.instr stands goes_on (c.loop-place.invariant.openly o);
    }
