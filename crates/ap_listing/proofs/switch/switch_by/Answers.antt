use Rattle.ap_listing.proofs.Tables.{table-made}
use Rattle.ap_listing.proofs.switch.switch_by.Goals as goal

pub returns : goal.returns
returns c =
    table-made c.args.atoms.now c.args.choices.now.others.items c.as_slice.result.now c.args.own.now c.args.choices.now.groups.items c.as_slice-groups.result.now
    c.has_constants-has_constants.result c.has_structures-has_structures.result c.ahead_of-ahead.result
    c.in_ok-instructions.instructions.items c.push_chains.new.instructions.items c.push_chain.new.instructions.items c.in_ok-entries.entries.items c.in_ok-others.others
    c.as_slice-groups.ensures.value c.as_slice.ensures.value c.has_constants-has_constants.ensures c.has_structures-has_structures.ensures c.ahead_of-ahead.ensures c.in_ok-instructions.ensures.items
    c.in_ok-entries.ensures.entries c.in_ok-entries.ensures.chains c.in_ok-others.ensures.place c.in_ok-others.ensures.chain
