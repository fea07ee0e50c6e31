use Rattle.std.proofs.Common.{◌≡◌, ◌∙◌, ◌++◌, ◌&&◌, not, map, ap, ap₂}
use Rattle.std.specs.List.{filter, flat_map}
use Rattle.ap_term.specs.TermView.{trees_of}
use Rattle.ap_term.specs.declared.clauses.Check.TheVariants.{Ground}
use Rattle.ap_sharing.specs.VarSet.{has}
use Rattle.ap_conditions.specs.FullCondition.{numbers}
use Rattle.ap_conditions.specs.GoalSets.{goal_sets, in_one, in_two, indeps_among}
use Rattle.ap_conditions.proofs.Sets.{full_is}
use Rattle.ap_conditions.proofs.conditions.full.Goals as goal

pub returns : goal.returns
returns c =
    let common = c.parted-shared.result.shared in
    let alone = c.parted-shared.result.alone in
    let d : c.deref.result.now ≡ goal_sets (trees_of c.args.goals.now) = c.deref.ensures.value ∙ c.in_ok-sets.ensures in
    let e : c.deref-2.result.now ≡ goal_sets (trees_of c.args.goals.now) = c.deref-2.ensures.value ∙ c.in_ok-sets.ensures in
    c.in_ok-add_indeps.ensures
    ∙ ap₂ (λ o l. o ++ flat_map (indeps_among l alone) (numbers 255)) (c.in_ok-add_grounds.ensures ∙ ap (λ o. o ++ map Ground (filter (λ x. has common x) (numbers 255))) c.new-checks.ensures) e
    ∙ full_is (trees_of c.args.goals.now) common alone (λ x. c.parted-shared.ensures.shared x ∙ ap (λ l. in_two l x) d)
    (λ x. c.parted-shared.ensures.alone x ∙ ap (λ l. in_one l x && not (in_two l x)) d)
