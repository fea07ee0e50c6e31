use Rattle.std.proofs.Common.{◌≡◌, ◌-◌, ◌∷◌, ◌++◌, [], length, ap, ap₂, refl, sym, ◌∙◌, subst, arith}
use Rattle.std.specs.Prelude.{slice_set}
use Rattle.ap_environments.specs.declared.environments.Choice.{Choice}
use Rattle.ap_environments.specs.declared.environments.Entry.TheVariants.{Call}
use Rattle.ap_environments.specs.declared.environments.Point.{Point}
use Rattle.ap_environments.specs.Frames.{Rising, chain, moment_of, put_entry, Segments, segments, kept_of, segments_in, with_place}
use Rattle.ap_environments.proofs.Chains.{put-last, Rising-replace, is-newest, is-fork, newest-entry, segments-push, moment-choice, moment-choice_is}
use Rattle.ap_environments.proofs.environments.Environments.set_place.Goals as goal

-- the choice point with other clauses
changed : (c : goal.After-self-1) → Point
changed c = record { entry = c.with_place-entry.result; frames = c.in-Some.point.frames }

points_are : (c : goal.After-self-1) → c.self.inside.points.items ≡ c.in-Some.ensures.some.0 ++ c.in-Some.point ∷ []
points_are c = sym c.deref.ensures.value ∙ c.in-Some.ensures.some.1

items_are : (c : goal.After-self-1) → slice_set c.self.inside.points.items (c.len-last.result - 1) (changed c) ≡ c.in-Some.ensures.some.0 ++ changed c ∷ []
items_are c =
    let a = c.self.inside in
    put-last a.points.items c.in-Some.ensures.some.0 c.in-Some.point (changed c) c.len-last.result (points_are c) (omega (arith, c.len-last.ensures, a.points.ok.0))

pub invariant_of-self : goal.invariant_of-self
unfolding changed
invariant_of-self c =
    let a = c.self.inside in
    record {
      frames = c.self.invariant.frames;
      top = c.self.invariant.top;
      points = subst (λ qs. Rising 0 qs (length a.frames.items)) (sym (items_are c))
          (Rising-replace 0 c.in-Some.ensures.some.0 (length a.frames.items) c.in-Some.point (changed c) refl (subst (λ qs. Rising 0 qs (length a.frames.items)) (points_are c) c.self.invariant.points));
    }

pub returns-clause-newest : goal.returns-clause-newest
unfolding changed
returns-clause-newest c = λ m ms e.
    let a = c.self.inside in
    let ss = a.slots.items in
    let fs = a.frames.items in
    let rest = c.in-Some.ensures.some.0 in
    let ws = chain ss fs c.in-Some.point.frames in
    let newest = is-newest ss fs a.points.items rest c.in-Some.point (segments_in c.args.self.now) m ms (points_are c) (ap segments_in c.self.view_is) e in
    let k : Choice = record newest.0 { place = c.args.place; behind = c.args.behind } in
    let entry_is : c.with_place-entry.result ≡ Call k = c.with_place-entry.ensures ∙ ap (with_place c.args.place c.args.behind) newest.1 in
    let moment_is : moment_of k ws ≡ record { choice = record m.choice { place = c.args.place; behind = c.args.behind }; returns = m.returns; arguments = m.arguments } =
    moment-choice newest.0 k ws
    ∙ ap₂ (λ n (h : Choice). record { choice = record h { place = c.args.place; behind = c.args.behind }; returns = n.returns; arguments = n.arguments }) newest.2 (sym (moment-choice_is newest.0 ws) ∙ ap (λ n. n.choice) newest.2)
    in
    ap₂ kept_of (ap (λ v. v.returns) c.self.view_is)
    (ap (segments ss fs) (items_are c) ∙ segments-push ss fs rest (changed c) ∙ ap (λ i. put_entry i ws (segments ss fs rest)) entry_is
    ∙ ap₂ (λ n (s : Segments). record { moments = n ∷ s.moments; forks = s.forks }) moment_is newest.3)

-- a fork names no clauses
pub returns-clause-none : goal.returns-clause-none
unfolding changed
returns-clause-none c = λ e.
    let a = c.self.inside in
    let ss = a.slots.items in
    let fs = a.frames.items in
    let rest = c.in-Some.ensures.some.0 in
    let q = c.in-Some.point in
    let f = is-fork ss fs a.points.items rest q (segments_in c.args.self.now) (points_are c) (ap segments_in c.self.view_is) e in
    ap₂ kept_of (ap (λ v. v.returns) c.self.view_is)
    (ap (segments ss fs) (items_are c) ∙ segments-push ss fs rest (changed c)
    ∙ ap (λ i. put_entry i (chain ss fs q.frames) (segments ss fs rest)) (c.with_place-entry.ensures ∙ ap (with_place c.args.place c.args.behind) f.1 ∙ sym f.1)
    ∙ sym (newest-entry ss fs a.points.items rest q (points_are c))
    ∙ ap segments_in c.self.view_is)
