use Rattle.std.proofs.Common.{ap, ◌∙◌, map, arith}
use Rattle.std.proofs.Math.ListN.{length-set}
use Rattle.ap_listing.specs.Grouped.{group_of, with_clause}
use Rattle.ap_listing.proofs.Sets.{each-all}
use Rattle.ap_listing.proofs.Groups.{each-group, length-map}
use Rattle.ap_listing.proofs.choices.push_to_each.Goals as goal

pub loop-number-preserved : goal.loop-number-preserved
loop-number-preserved c =
    let l = c.loop-number in
    record {
      count = length-set l.groups.items l.number (record { key = c.index_mut.result.now.key; clauses = c.push.new.self }) ∙ l.invariant.count;
      changed = each-group c.args.clause l.number l.groups.items c.args.groups.now.items c.index_mut.result.now (record { key = c.index_mut.result.now.key; clauses = c.push.new.self })
          (omega (arith, c.args.groups.now.ok.0, c.len-number-end.ensures)) l.invariant.count c.index_mut.ensures.value
          (ap (λ x. (c.index_mut.result.now.key, x)) c.in_ok-push.ensures.items) l.invariant.changed;
    }

pub returns : goal.returns
returns c =
    c.loop-number.invariant.changed
    ∙ each-all (with_clause c.args.clause) c.loop-number.number (map group_of c.args.groups.now.items)
    (omega (arith, length-map group_of c.args.groups.now.items, c.args.groups.now.ok.0, c.len-number-end.ensures))
