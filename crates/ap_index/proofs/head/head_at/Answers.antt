use Rattle.std.proofs.Common.{◌≡◌, ◌+◌, [], ◌∷◌, Some, slice_get, append-nil, sym, ap, ◌∙◌, subst, arith}
use Rattle.std.proofs.lemmas.Bool.{eqb-true}
use Rattle.ap_index.specs.declared.head.Passed.TheVariants.{On, Asking}
use Rattle.ap_index.specs.Heads.{IsPassed}
use Rattle.ap_index.proofs.Asking.{Walked, walked-none, walked-on, walked-enough}
use Rattle.ap_index.proofs.head.head_at.Goals.{in-On, in-Asking+in_ok-push-in-Asking, then-reading-eq0, else-reading-eq0}
use Rattle.ap_index.proofs.head.head_at.Goals as goal

pub loop-place-init : goal.loop-place-init
loop-place-init c = subst (Walked c.args.code.now c.args.at c.args.at c.new-reading.result) (sym c.new-asks.ensures.items) (walked-none c.args.code.now c.args.at c.new-reading.result c.new-reading.ensures.left)

pub returns-in-No : goal.returns-in-No
returns-in-No c =
    let code = c.args.code.now in
    let walked = c.loop-place.invariant in
    record {
      needed = λ x y bs run. (walked.needs x y bs run).0;
      enough = λ e.
          elim c.if-reading-eq0.branch [
            | then-reading-eq0 w ↦
                walked-enough code c.args.at c.loop-place.place c.loop-place.reading c.loop-place.asks.items walked (let no : c.loop-place.reading.left ≡ 0 = omega arith in no) (λ openly. w.is_open-whole.ensures (sym w.whole-is ∙ e) openly)
            | else-reading-eq0 w ↦ absurd (let z = eqb-true c.loop-place.reading.left 0 (sym w.whole-is ∙ e) in omega (arith, z))
          ];
    }

pub loop-place-preserved : goal.loop-place-preserved
loop-place-preserved c =
    let code = c.args.code.now in
    let i = c.in-Some.instr in
    let r = c.loop-place.reading in
    let asks = c.loop-place.asks.items in
    let stands : slice_get code.instructions c.loop-place.place ≡ Some i = sym c.in-Some.ensures in
    elim c.match-past.branch [
      | in-On w ↦
          let h : IsPassed code i r (On w.in-On.next) = subst (IsPassed code i r) w.in-On.is c.past.ensures in
          subst (λ s. Walked code c.args.at (c.loop-place.place + 1) s c.match-past.asks.items) (sym w.reading-is)
          (walked-on code c.args.at c.loop-place.place r w.in-On.next i asks [] c.match-past.asks.items (ap (λ v. v.items) w.asks-is ∙ sym (append-nil asks)) stands h.0 h.1 c.loop-place.invariant)
      | in-Asking+in_ok-push-in-Asking w ↦
          let a = w.in-Asking.ask in
          let h : IsPassed code i r (Asking a w.in-Asking.next) = subst (IsPassed code i r) w.in-Asking.is c.past.ensures in
          subst (λ s. Walked code c.args.at (c.loop-place.place + 1) s c.match-past.asks.items) (sym w.reading-is)
          (walked-on code c.args.at c.loop-place.place r w.in-Asking.next i asks (a ∷ []) c.match-past.asks.items (ap (λ v. v.items) w.asks-is ∙ w.in_ok-push-in-Asking.ensures.items) stands h.0 h.1 c.loop-place.invariant)
    ]
