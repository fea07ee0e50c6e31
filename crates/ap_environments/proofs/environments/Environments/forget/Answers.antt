use Rattle.std.proofs.Common.{◌≡◌, ◌+◌, List, ◌∷◌, ◌++◌, Option, Some, None, length, ap, ap₂, ◌∙◌, arith}
use Rattle.std.specs.Option.{option_to_list, MatchOption}
use Rattle.std.specs.Vec.{vec_len}
use Rattle.ap_environments.specs.declared.environments.Point.{Point}
use Rattle.ap_environments.specs.Kept.{Moment}
use Rattle.ap_environments.specs.Frames.{segments, kept_of, segments_in}
use Rattle.ap_environments.proofs.Chains.{none-popped, popped-rising, no-moment, is-newest}
use Rattle.ap_environments.proofs.environments.Environments.forget.Goals as goal

pub invariant_of-self : goal.invariant_of-self
invariant_of-self c =
    let a = c.self.inside in
    record { frames = c.self.invariant.frames; top = c.self.invariant.top; points = popped-rising a.points.items c.pop.new.self.items c.pop.result (length a.frames.items) c.pop.ensures.items c.self.invariant.points }

pub returns-then-is_some-clause-newest : goal.returns-then-is_some-clause-newest
returns-then-is_some-clause-newest c = λ m ms e. c.trim.ensures ∙ ap₂ kept_of (ap (λ v. v.returns) c.self.view_is) (go c m ms e c.pop.result c.pop.ensures.items c.pop.ensures.cases)
  where
    go : (c : goal.After-trim) (m : Moment) (ms : List Moment) → c.args.self.now.moments ≡ m ∷ ms → (r : Option Point) → c.self.inside.points.items ≡ c.pop.new.self.items ++ option_to_list r
        → MatchOption r ((vec_len c.self.inside.points ≡ 0) × (vec_len c.pop.new.self ≡ 0)) (λ q. vec_len c.pop.new.self + 1 ≡ vec_len c.self.inside.points)
        → segments c.self.inside.slots.items c.self.inside.frames.items c.pop.new.self.items ≡ record { moments = ms; forks = c.args.self.now.forks }
    go c m ms e None p l =
        let a = c.self.inside in
        absurd (no-moment a.slots.items a.frames.items a.points.items (segments_in c.args.self.now) m ms (none-popped a.points.items (omega (arith, l))) (ap segments_in c.self.view_is) e)
    go c m ms e (Some q) p l =
        let a = c.self.inside in
        (is-newest a.slots.items a.frames.items a.points.items c.pop.new.self.items q (segments_in c.args.self.now) m ms p (ap segments_in c.self.view_is) e).3
