use Rattle.std.proofs.Common.{length, ap, sym, ◌∙◌}
use Rattle.std.specs.HashMap.{get}
use Rattle.ap_patterns.specs.Table.{is_key}
use Rattle.ap_patterns.proofs.Rows.{placed-some, placed-none}
use Rattle.ap_patterns.proofs.tables.Table.position.Goals as goal

pub returns-in-Some : goal.returns-in-Some
returns-in-Some c =
    placed-some c.args.self.now c.self.inside.rows.items c.args.predicate.now c.in-Some.place.now (sym c.self.view_is)
    (c.in-Some.ensures.value ∙ ap (get is_key c.self.inside.places) c.key_of.ensures ∙ c.self.invariant c.args.predicate.now)

pub returns-in-None : goal.returns-in-None
returns-in-None c =
    placed-none c.args.self.now c.self.inside.rows.items c.args.predicate.now (length c.as_slice.result.now) (sym c.self.view_is) (ap length c.as_slice.ensures.value)
    (c.in-None.ensures.value ∙ ap (get is_key c.self.inside.places) c.key_of.ensures ∙ c.self.invariant c.args.predicate.now)
