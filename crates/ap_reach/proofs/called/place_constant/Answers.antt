use Rattle.std.proofs.Common.{◌≡◌, None, sym, ap, ◌∙◌}
use Rattle.std.specs.Option.{option_copied}
use Rattle.indexmap.specs.IndexMap.{get}
use Rattle.ap_reach.specs.Reached.{is_key}
use Rattle.ap_reach.proofs.Naming.{place_kept}
use Rattle.ap_reach.proofs.called.place_constant.Goals as goal
use Rattle.ap_term.proofs.Lists.{same_key}

pub returns-in_ok-insert-in-None-clause-kept : goal.returns-in_ok-insert-in-None-clause-kept
returns-in_ok-insert-in-None-clause-kept c k i e =
    let old = c.args.places.now in
    let empty : get is_key old (c.args.name, c.args.arity) ≡ None = sym c.get.ensures.value ∙ ap option_copied c.in-None.is in
    place_kept (is_key (c.args.name, c.args.arity) k) c.args.place (get is_key old k) (get is_key c.insert.new.self k) (λ s. ap (get is_key old) (sym (same_key (c.args.name, c.args.arity) k s)) ∙ empty) (c.in_ok-insert-in-None.ensures.updates.0 k) i e
