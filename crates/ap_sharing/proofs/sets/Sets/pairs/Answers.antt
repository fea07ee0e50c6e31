use Rattle.std.proofs.Common.{IfOk, Some, None, cond, subst, ◌≡◌, List, ℕ}
use Rattle.ap_sharing.specs.Sets.{too_many}
use Rattle.ap_sharing.proofs.Made.{pairs_comm}
use Rattle.ap_sharing.proofs.sets.Sets.pairs.Goals as goal

pub returns-else-len : goal.returns-else-len
returns-else-len c =
    subst (λ (ps : List ℕ). IfOk c.unions_with-else-len.result (λ r. r ≡ cond (too_many ps) None (Some ps))) (pairs_comm c.args.other.now c.args.self.now) c.unions_with-else-len.ensures
