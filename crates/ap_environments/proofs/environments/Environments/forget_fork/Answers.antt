use Rattle.std.proofs.Common.{◌≡◌, ◌+◌, List, [], ◌∷◌, ◌++◌, Option, Some, None, length, ap, ap₂, sym, ◌∙◌, arith}
use Rattle.std.specs.Option.{option_to_list, MatchOption}
use Rattle.std.specs.Vec.{vec_len}
use Rattle.std.proofs.lemmas.List.{append-nil}
use Rattle.ap_environments.specs.declared.environments.Point.{Point}
use Rattle.ap_environments.specs.Kept.{Forked}
use Rattle.ap_environments.specs.Frames.{segments, kept_of, segments_in}
use Rattle.ap_environments.proofs.Chains.{none-popped, popped-rising, no-fork, is-newest-fork, some-entry}
use Rattle.ap_environments.proofs.environments.Environments.forget_fork.Goals as goal

pub invariant_of-self : goal.invariant_of-self
invariant_of-self c =
    let a = c.self.inside in
    record { frames = c.self.invariant.frames; top = c.self.invariant.top; points = popped-rising a.points.items c.pop.new.self.items c.pop.result (length a.frames.items) c.pop.ensures.items c.self.invariant.points }

pub returns-clause-some : goal.returns-clause-some
returns-clause-some c = λ f fs e. c.trim.ensures ∙ ap₂ kept_of (ap (λ v. v.returns) c.self.view_is) (go c f fs e c.pop.result c.pop.ensures.items c.pop.ensures.cases)
  where
    go : (c : goal.After-trim) (f : Forked) (fs : List Forked) → c.args.self.now.forks ≡ f ∷ fs → (r : Option Point) → c.self.inside.points.items ≡ c.pop.new.self.items ++ option_to_list r
        → MatchOption r ((vec_len c.self.inside.points ≡ 0) × (vec_len c.pop.new.self ≡ 0)) (λ q. vec_len c.pop.new.self + 1 ≡ vec_len c.self.inside.points)
        → segments c.self.inside.slots.items c.self.inside.frames.items c.pop.new.self.items ≡ record { moments = f.moments; forks = fs }
    go c f fs e None p l =
        let a = c.self.inside in
        absurd (no-fork a.slots.items a.frames.items a.points.items (segments_in c.args.self.now) f fs (none-popped a.points.items (omega (arith, l))) (ap segments_in c.self.view_is) e)
    go c f fs e (Some q) p l =
        let a = c.self.inside in
        (is-newest-fork a.slots.items a.frames.items a.points.items c.pop.new.self.items q (segments_in c.args.self.now) f fs p (ap segments_in c.self.view_is) c.requires.newest e).2

pub returns-clause-none : goal.returns-clause-none
returns-clause-none c = λ e. c.trim.ensures ∙ ap₂ kept_of (ap (λ v. v.returns) c.self.view_is) (go c e c.pop.result c.pop.ensures.items)
  where
    go : (c : goal.After-trim) → c.args.self.now.forks ≡ [] → (r : Option Point) → c.self.inside.points.items ≡ c.pop.new.self.items ++ option_to_list r
        → segments c.self.inside.slots.items c.self.inside.frames.items c.pop.new.self.items ≡ segments_in c.args.self.now
    go c e None p =
        let a = c.self.inside in
        ap (segments a.slots.items a.frames.items) (sym (p ∙ append-nil c.pop.new.self.items)) ∙ ap segments_in c.self.view_is
    go c e (Some q) p =
        let a = c.self.inside in
        absurd (some-entry a.slots.items a.frames.items a.points.items c.pop.new.self.items q (segments_in c.args.self.now) p (ap segments_in c.self.view_is) c.requires.newest e)
