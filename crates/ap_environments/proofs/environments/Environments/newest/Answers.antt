use Rattle.std.proofs.Common.{◌≡◌, List, ◌∷◌, Option, Some, None, ap, sym, ◌∙◌}
use Rattle.std.specs.Option.{IfSome}
use Rattle.ap_environments.specs.declared.environments.Choice.{Choice}
use Rattle.ap_environments.specs.declared.environments.Entry.TheVariants.{Call}
use Rattle.ap_environments.specs.Kept.{Moment}
use Rattle.ap_environments.specs.Frames.{chain, moment_of, put_entry, segments}
use Rattle.ap_environments.proofs.Chains.{newest-entry, moment-choice_is}
use Rattle.ap_environments.proofs.environments.Environments.newest.Goals as goal

pub returns-in-Some-clause-none : goal.returns-in-Some-clause-none
returns-in-Some-clause-none c = λ e.
    let a = c.self.inside in
    let s = c.in-Some.ensures.some in
    let q = c.in-Some.point in
    ap (λ v. v.moments) (sym c.self.view_is)
    ∙ ap (λ t. t.moments) (newest-entry a.slots.items a.frames.items a.points.items s.0 q (sym c.deref.ensures.value ∙ s.1)
    ∙ ap (λ i. put_entry i (chain a.slots.items a.frames.items q.frames) (segments a.slots.items a.frames.items s.0)) (c.choice.ensures.none e).1)

pub returns-in-Some-clause-some : goal.returns-in-Some-clause-some
returns-in-Some-clause-some c = go c.choice.result c.choice.ensures.some
  where
    go : (r : Option Choice) → IfSome r (λ k. c.in-Some.point.entry ≡ Call k) → IfSome r (λ k. (m : Moment) × (ms : List Moment) × (c.args.self.now.moments ≡ m ∷ ms) × (m.choice ≡ k))
    go None h = tt
    go (Some k) h =
        let a = c.self.inside in
        let s = c.in-Some.ensures.some in
        let q = c.in-Some.point in
        let ws = chain a.slots.items a.frames.items q.frames in (
          moment_of k ws,
          (segments a.slots.items a.frames.items s.0).moments,
          ap (λ v. v.moments) (sym c.self.view_is)
              ∙ ap (λ t. t.moments) (newest-entry a.slots.items a.frames.items a.points.items s.0 q (sym c.deref.ensures.value ∙ s.1) ∙ ap (λ i. put_entry i ws (segments a.slots.items a.frames.items s.0)) h),
          moment-choice_is k ws,
        )
