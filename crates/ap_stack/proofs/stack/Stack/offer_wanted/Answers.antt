use Rattle.std.proofs.Common.{refl}
use Rattle.ap_stack.proofs.Moves.{kept, kept-good, goes-then}
use Rattle.ap_stack.proofs.stack.Stack.offer_wanted.Goals as goal

pub offer_old-requires : goal.offer_old-requires
offer_old-requires c = record { good = kept-good c.sharing_law.ensures c.args.post.now c.args.self.now _ refl refl refl refl refl refl refl c.requires.good }

pub returns-then-wants-clause-goes : goal.returns-then-wants-clause-goes
returns-then-wants-clause-goes c =
    let p = c.args.post.now in
    let s = c.args.self.now in
    goes-then p p c.offer_old.new.post s _ c.offer_old.new.self (kept c.sharing_law.ensures p s _ refl refl refl refl refl refl refl c.requires.good) c.offer_old.ensures.goes

pub returns-clause-goes : goal.returns-clause-goes
returns-clause-goes c = kept c.sharing_law.ensures c.args.post.now c.args.self.now _ refl refl refl refl refl refl refl c.requires.good
