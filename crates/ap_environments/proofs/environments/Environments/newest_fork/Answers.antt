use Rattle.std.proofs.Common.{◌≡◌, List, [], ◌∷◌, Option, Some, None, ap, sym, ◌∙◌}
use Rattle.std.specs.Option.{IfSome}
use Rattle.ap_environments.specs.declared.environments.Entry.TheVariants.{Fork as Forking}
use Rattle.ap_environments.specs.declared.environments.Fork.{Fork}
use Rattle.ap_environments.specs.Kept.{Forked}
use Rattle.ap_environments.specs.Frames.{chain, moment_of, forked_of, put_entry, segments, segments_in}
use Rattle.ap_environments.proofs.Chains.{newest-entry, forked-fork_is}
use Rattle.ap_environments.proofs.environments.Environments.newest_fork.Goals as goal

pub returns-in-Some-clause-none : goal.returns-in-Some-clause-none
returns-in-Some-clause-none c = λ e none.
    let a = c.self.inside in
    let s = c.in-Some.ensures.some in
    let q = c.in-Some.point in
    let k = c.fork.ensures.none e in
    let ws = chain a.slots.items a.frames.items q.frames in
    let t = segments a.slots.items a.frames.items s.0 in
    let d : moment_of k.0 ws ∷ t.moments ≡ [] =
    ap (λ r. r.moments) (sym (newest-entry a.slots.items a.frames.items a.points.items s.0 q (sym c.deref.ensures.value ∙ s.1) ∙ ap (λ i. put_entry i ws t) k.1) ∙ ap segments_in c.self.view_is) ∙ none
    in
    let nothing : ⊥ = cc in
    absurd nothing

pub returns-in-Some-clause-some : goal.returns-in-Some-clause-some
returns-in-Some-clause-some c = go c.fork.result c.fork.ensures.some
  where
    go : (r : Option Fork) → IfSome r (λ k. c.in-Some.point.entry ≡ Forking k)
        → IfSome r (λ k. (c.args.self.now.moments ≡ []) × (f : Forked) × (fs : List Forked) × (c.args.self.now.forks ≡ f ∷ fs) × (f.fork ≡ k))
    go None h = tt
    go (Some k) h =
        let a = c.self.inside in
        let s = c.in-Some.ensures.some in
        let q = c.in-Some.point in
        let ws = chain a.slots.items a.frames.items q.frames in
        let t = segments a.slots.items a.frames.items s.0 in
        let e : segments_in c.args.self.now ≡ put_entry (Forking k) ws t =
        ap segments_in (sym c.self.view_is) ∙ newest-entry a.slots.items a.frames.items a.points.items s.0 q (sym c.deref.ensures.value ∙ s.1) ∙ ap (λ i. put_entry i ws t) h
        in (ap (λ r. r.moments) e, forked_of k ws t.moments, t.forks, ap (λ r. r.forks) e, forked-fork_is k ws t.moments)
