use Rattle.std.proofs.Common.{rules, sym, ◌∙◌}
use Rattle.std.proofs.lemmas.Map.Text.{hash_map_updates_str}
use Rattle.ap_reader.proofs.Variables.{once-push, numbers-more, numbers-anonymous, numbers-near}
use Rattle.ap_reader.proofs.leaf.Variables.number.Goals as goal

pub returns-then-before-lt-NEAR-clause-numbers : goal.returns-then-before-lt-NEAR-clause-numbers
returns-then-before-lt-NEAR-clause-numbers c =
    let before = c.args.self.now in
    numbers-near before.numbers before.numbers before.names.items c.push.new.self.items c.args.name c.in_ok-push.ensures.items c.requires.numbers (search rules)

pub returns-in_ok-insert-clause-numbers : goal.returns-in_ok-insert-clause-numbers
returns-in_ok-insert-clause-numbers c =
    let before = c.args.self.now in
    numbers-more before.numbers c.insert.new.self before.names.items c.push.new.self.items c.args.name c.in_ok-push.ensures.items c.requires.numbers _ (search rules) (search rules) (search rules) (search rules)
    (hash_map_updates_str c.args.name.now before.numbers c.insert.new.self _ c.in_ok-insert.ensures.updates)

pub returns-else-ne-clause-numbers : goal.returns-else-ne-clause-numbers
returns-else-ne-clause-numbers c =
    let before = c.args.self.now in
    numbers-anonymous before.numbers before.numbers before.names.items c.push.new.self.items c.args.name c.in_ok-push.ensures.items c.requires.numbers (search rules) (search rules)

pub returns-then-before-lt-NEAR-clause-once : goal.returns-then-before-lt-NEAR-clause-once
returns-then-before-lt-NEAR-clause-once c =
    once-push c.args.self.now.names.items c.args.name c.requires.once (sym c.known.ensures ∙ c.in_default.is) c.push.new.self.items c.in_ok-push.ensures.items

pub returns-in_ok-insert-clause-once : goal.returns-in_ok-insert-clause-once
returns-in_ok-insert-clause-once c =
    once-push c.args.self.now.names.items c.args.name c.requires.once (sym c.known.ensures ∙ c.in_default.is) c.push.new.self.items c.in_ok-push.ensures.items

pub returns-else-ne-clause-once : goal.returns-else-ne-clause-once
returns-else-ne-clause-once c =
    once-push c.args.self.now.names.items c.args.name c.requires.once (sym c.known.ensures ∙ c.in_default.is) c.push.new.self.items c.in_ok-push.ensures.items
