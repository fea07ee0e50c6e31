use Rattle.std.proofs.Common.{◌-◌, ◌^◌, ◌≤◌, arith, sym}
use Rattle.ap_post.proofs.Left.{swept}
use Rattle.ap_post.proofs.post.Post.sweep.Goals as goal

pub returns-clause-told : goal.returns-clause-told
returns-clause-told c = let w = c.in_ok-_place.ensures.told in (w.0, c.in_ok-_place.outcome, sym c.release.ensures, w.2, w.5)

pub returns-clause-posted : goal.returns-clause-posted
returns-clause-posted c = let w = c.in_ok-_place.ensures.told in let most : c.args.self.now.next ≤ 2 ^ 64 - 1 = omega arith in swept c.args.self.now c.collect.new.self w.0 most w.2
