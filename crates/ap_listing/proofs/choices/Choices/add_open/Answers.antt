use Rattle.std.proofs.Common.{refl}
use Rattle.ap_listing.proofs.Groups.{grouped-open}
use Rattle.ap_listing.proofs.choices.Choices.add_open.Goals as goal

pub returns : goal.returns
returns c code ls none g =
    grouped-open code ls c.args.clause c.args.self.now (record { numbers = c.args.self.now.numbers; groups = c.push_to_each.new.groups; others = c.push.new.self }) g none refl
    c.in_ok-push_to_each.ensures c.in_ok-push.ensures.items
