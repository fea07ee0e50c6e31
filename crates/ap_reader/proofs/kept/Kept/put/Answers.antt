use Rattle.ap_reader.proofs.Looks.{top_is}
use Rattle.ap_reader.proofs.kept.Kept.put.Goals as goal

pub returns-clause-top : goal.returns-clause-top
returns-clause-top c = top_is c.args.self.now.leaves.items c.push-2.new.list.items c.args.leaf c.in_ok-push-2.ensures.items
