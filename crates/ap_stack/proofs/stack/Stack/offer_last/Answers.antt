use Rattle.std.proofs.Common.{refl}
use Rattle.ap_stack.proofs.Returns.{posted-goes}
use Rattle.ap_stack.proofs.stack.Stack.offer_last.Goals as goal

pub returns-in_default-clause-goes : goal.returns-in_default-clause-goes
returns-in_default-clause-goes c = posted-goes c.sharing_law.ensures c.args.post.now c.args.self.now c.args.post.now c.requires.good (λ f. refl) (record { jobs = refl; asked = refl }) refl

pub returns-then-last-i-clause-goes : goal.returns-then-last-i-clause-goes
returns-then-last-i-clause-goes c = posted-goes c.sharing_law.ensures c.args.post.now c.args.self.now c.args.post.now c.requires.good (λ f. refl) (record { jobs = refl; asked = refl }) refl
