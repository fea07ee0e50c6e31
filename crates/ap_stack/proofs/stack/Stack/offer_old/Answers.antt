use Rattle.std.proofs.Common.{refl}
use Rattle.ap_stack.proofs.Places.{all-at-frame, goes-aged, goes-ages}
use Rattle.ap_stack.proofs.Returns.{posted-goes}
use Rattle.ap_stack.proofs.stack.Stack.offer_old.Goals as goal

pub find_old-requires : goal.find_old-requires
find_old-requires c = all-at-frame c.args.self.now.sound.now c.args.post.now c.args.self.now.outer.items c.requires.good.outer

pub returns-in_default-clause-goes : goal.returns-in_default-clause-goes
returns-in_default-clause-goes c =
    let p = c.args.post.now in
    let s = c.args.self.now in
    goes-ages p s p s _ (posted-goes c.sharing_law.ensures p s p c.requires.good (λ f. refl) (record { jobs = refl; asked = refl }) refl)

pub returns-in_err-_out-clause-goes : goal.returns-in_err-_out-clause-goes
returns-in_err-_out-clause-goes c = goes-aged c.args.post.now c.args.self.now c.offer_outer.new.post c.offer_outer.new.self _ c.offer_outer.ensures.goes

pub returns-clause-goes : goal.returns-clause-goes
returns-clause-goes c = goes-aged c.args.post.now c.args.self.now c.offer_outer.new.post c.offer_outer.new.self _ c.offer_outer.ensures.goes
