use Rattle.std.proofs.Common.{◌≡◌, ◌+◌, ◌*◌, ◌<◌, ◌≤◌, ◌++◌, ◌∷◌, [], List, None, length, slice_index, subst, ap, sym, ◌∙◌, refl, arith}
use Rattle.std.specs.Prelude.{IsTrue, ◌&&◌}
use Rattle.std.specs.List.{list_all}
use Rattle.std.proofs.lemmas.Bool.{and_parts}
use Rattle.ap_term.specs.Goals.{Part}
use Rattle.ap_term.specs.WellFormed.{well_formed_part}
use Rattle.ap_lifting.specs.Body.{conditional, well_formed, numbered_condition}
use Rattle.ap_lifting.specs.BodyView.{body_of}
use Rattle.ap_lifting.specs.Lifted.{lifted}
use Rattle.ap_lifting.proofs.Kept.{parts_kept}
use Rattle.ap_lifting.specs.Sizes.{predicates}
use Rattle.ap_lifting.proofs.Weights.{weight}
use Rattle.ap_lifting.proofs.Places.{on_ok, raises, raises_two}
use Rattle.ap_lifting.proofs.lifter.+lift.Goals as goal

pub fill_place-clause-requires-clause-body : goal.fill_place-clause-requires-clause-body
fill_place-clause-requires-clause-body t c =
    let o = c.args.origin.now in
    let P : List Part → Type 0 = λ ps. IsTrue (list_all (well_formed_part o.vars) ps) in
    subst P
    (sym (c.in_ok-add_parts.ensures.parts
    ∙ ap (λ ps. ps ++ (lifted (slice_index o.names.now) o.vars o.line (body_of c.args.body) c.new.result c.args.out.now.next).parts) c.new-parts.ensures
    ∙ ap (λ cs. (lifted (slice_index o.names.now) o.vars o.line (body_of c.args.body) cs c.args.out.now.next).parts) c.new.ensures))
    (parts_kept (slice_index o.names.now) o.vars o.line c.requires.few (body_of c.args.body) [] c.args.out.now.next c.requires.body refl)

pub raise-returns-clause-lifts : goal.raise-returns-clause-lifts
raise-returns-clause-lifts t c =
    let o = c.args.origin.now in
    on_ok c.goal.result
    (raises (slice_index o.names.now) o.vars o.line (body_of c.args.body) c.args.out.now c.fill_place.new.out c.keep_place.new.self.next c.in_ok-place.place c.keep_place.new.self.clauses.items
    c.in_ok-place.ensures.next c.in_ok-place.ensures.clauses c.in_ok-place.ensures.place (c.in_ok-fill_place.ensures.next, c.in_ok-fill_place.ensures.clauses))

pub raise_two-returns-clause-lifts : goal.raise_two-returns-clause-lifts
raise_two-returns-clause-lifts t c =
    let o = c.args.origin.now in
    on_ok c.goal.result
    (raises_two (slice_index o.names.now) o.vars o.line (body_of c.args.first) (body_of c.args.second) c.args.out.now c.fill_place.new.out c.fill_place-2.new.out
    c.keep_place-2.new.self.next c.in_ok-first_place.first_place c.in_ok-second_place.second_place c.keep_place-2.new.self.clauses.items
    (c.in_ok-second_place.ensures.next ∙ c.in_ok-first_place.ensures.next)
    (c.in_ok-second_place.ensures.clauses ∙ ap (λ l. l ++ None ∷ []) c.in_ok-first_place.ensures.clauses)
    c.in_ok-first_place.ensures.place (c.in_ok-second_place.ensures.place ∙ ap length c.in_ok-first_place.ensures.clauses)
    (c.in_ok-fill_place.ensures.next, c.in_ok-fill_place.ensures.clauses) (c.in_ok-fill_place-2.ensures.next, c.in_ok-fill_place-2.ensures.clauses))

pub add_parts-add_parts-requires-in-Conditional : goal.add_parts-add_parts-requires-in-Conditional
add_parts-add_parts-requires-in-Conditional t c =
    let n = c.args.origin.now.vars in
    let cs = c.in-Conditional.conditions.items in
    let inner = c.in-Conditional.body.value in
    let as_written : body_of c.args.body ≡ conditional cs (body_of inner) = ap body_of c.in-Conditional.is in
    let same : body_of c.into_inner-in-Conditional.result ≡ body_of inner = ap body_of c.into_inner-in-Conditional.ensures in
    let both : IsTrue (list_all (numbered_condition n) cs && well_formed n (body_of inner)) = subst (λ b. IsTrue (well_formed n b)) as_written c.requires.body in
    let lighter : weight (body_of c.into_inner-in-Conditional.result) + 1 ≡ weight (body_of c.args.body) = ap (λ b. weight b + 1) same ∙ sym (ap weight as_written) in
    let as_many : predicates (body_of c.into_inner-in-Conditional.result) ≡ predicates (body_of c.args.body) = ap predicates same ∙ sym (ap predicates as_written) in
    let fewer : 4 * weight (body_of c.into_inner-in-Conditional.result) < t = omega (arith, lighter, c.decreases) in (
      fewer,
      (
        c.requires.few,
        (
          subst (λ b. IsTrue (well_formed n b)) (sym same) (and_parts (list_all (numbered_condition n) cs) (well_formed n (body_of inner)) both).1,
          (
            c.in_ok-checks-in-Conditional.ensures.numbered n
                (subst (λ ds. IsTrue (list_all (numbered_condition n) ds)) (sym c.deref.ensures.value) (and_parts (list_all (numbered_condition n) cs) (well_formed n (body_of inner)) both).0),
            subst (λ k. c.args.out.now.next + k ≤ length c.args.origin.now.names.now) (sym as_many) c.requires.named,
          ),
        ),
      ),
    )
