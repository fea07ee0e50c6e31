use Rattle.std.proofs.Common.{◌≡◌, ◌∙◌, ℕ, not, ap, sym, subst, rules}
use Rattle.std.specs.List.{filter}
use Rattle.std.proofs.lemmas.Fn.{filter_same}
use Rattle.ap_sharing.specs.VarSet.{within}
use Rattle.ap_sharing.specs.Sets.{IsAscending}
use Rattle.ap_sharing.proofs.Made.{ascending-filter}
use Rattle.ap_sharing.proofs.sets.Sets.drop_within.Goals as goal

pub invariant_of-self : goal.invariant_of-self
invariant_of-self c =
    let e : c.retain.new.self.items ≡ filter {X = ℕ} (λ s. not (within s c.args.v)) c.self.inside.held.items = filter_same _ (λ s. not (within s c.args.v)) _ (λ x b f k. search rules) _ _ c.retain.ensures.filtered in
    subst IsAscending (sym e) (ascending-filter (λ s. not (within s c.args.v)) c.self.inside.held.items c.self.invariant)

pub returns : goal.returns
returns c =
    let e : c.retain.new.self.items ≡ filter {X = ℕ} (λ s. not (within s c.args.v)) c.self.inside.held.items = filter_same _ (λ s. not (within s c.args.v)) _ (λ x b f k. search rules) _ _ c.retain.ensures.filtered in
    e ∙ ap (filter (λ s. not (within s c.args.v))) c.self.view_is
