use Rattle.std.proofs.Common.{◌≡◌, ap, sym, subst, ◌∙◌, refl, append-nil, arith, slice_index}
use Rattle.ap_lifting.specs.BodyView.{body_if}
use Rattle.ap_lifting.specs.Lifted.{lifted_if}
use Rattle.ap_lifting.specs.Lifts.{Lifts}
use Rattle.ap_lifting.specs.Row.{row_if}
use Rattle.ap_lifting.specs.Sizes.{predicates_if}
use Rattle.ap_lifting.proofs.GoalRows.{lifted_if-row_if, measured_if-row_if}
use Rattle.ap_lifting.proofs.lifting.parts_of.Goals as goal

pub returns-in-Row-clause-parts : goal.returns-in-Row-clause-parts
returns-in-Row-clause-parts c =
    let o = c.args.origin.now in
    let n = c.args.out.now.next in
    let row : body_if c.args.body ≡ row_if c.in-Row.row = ap body_if c.in-Row.is in
    c.into_parts.ensures.goals
    ∙ sym (ap (λ x. x.parts) (lifted_if-row_if (slice_index o.names.now) o.vars o.line c.in-Row.row n c.into_parts.ensures.calls))
    ∙ ap (λ b. (lifted_if (slice_index o.names.now) o.vars o.line b n).parts) (sym row)

pub returns-in-Row-clause-lifts : goal.returns-in-Row-clause-lifts
returns-in-Row-clause-lifts c =
    let o = c.args.origin.now in
    let out = c.args.out.now in
    let row : body_if c.args.body ≡ row_if c.in-Row.row = ap body_if c.in-Row.is in
    let only = lifted_if-row_if (slice_index o.names.now) o.vars o.line c.in-Row.row out.next c.into_parts.ensures.calls in
    subst (λ b. Lifts (lifted_if (slice_index o.names.now) o.vars o.line b out.next) out out) (sym row)
    (subst (λ x. Lifts x out out) (sym only) (record { next = refl; clauses = sym (append-nil out.clauses.items) }))

pub returns-in-Row-clause-next : goal.returns-in-Row-clause-next
returns-in-Row-clause-next c =
    let row : body_if c.args.body ≡ row_if c.in-Row.row = ap body_if c.in-Row.is in
    omega (arith, ap predicates_if row, ap (λ m. m.predicates) (measured_if-row_if c.in-Row.row))
