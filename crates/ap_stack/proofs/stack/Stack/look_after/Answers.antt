use Rattle.std.proofs.Common.{◌≡◌, false, sym, ◌∙◌, rules}
use Rattle.std.proofs.lemmas.Bool.{false≢true}
use Rattle.ap_stack.proofs.Moves.{goes-same, goes-then}
use Rattle.ap_stack.proofs.Places.{all-at}
use Rattle.ap_stack.specs.Levels.{IsOpen}
use Rattle.ap_stack.proofs.stack.Stack.look_after.Goals as goal

pub is_over-requires-clause-at : goal.is_over-requires-clause-at
is_over-requires-clause-at c = λ e at. (all-at (IsOpen c.collect_any.new.self.sound.now c.collect_any.new.post) c.collect_any.new.self.outer.items _ e c.collect_any.ensures.goes.good.outer at).at_frame

pub returns-then-not-has_out-clause-goes : goal.returns-then-not-has_out-clause-goes
returns-then-not-has_out-clause-goes c = goes-same c.sharing_law.ensures c.args.post.now c.args.self.now c.requires.good

pub returns-then-is_lone-clause-goes : goal.returns-then-is_lone-clause-goes
returns-then-is_lone-clause-goes c = goes-same c.sharing_law.ensures c.args.post.now c.args.self.now c.requires.good

pub returns-in_err-k-clause-goes : goal.returns-in_err-k-clause-goes
returns-in_err-k-clause-goes c =
    goes-then c.args.post.now c.sweep.new.post c.collect_any.new.post c.args.self.now c.sweep.new.self c.collect_any.new.self c.sweep.ensures.goes c.collect_any.ensures.goes

pub returns-in_err-k-clause-lone : goal.returns-in_err-k-clause-lone
returns-in_err-k-clause-lone c = let more : c.is_lone.result ≡ false = search rules in λ lone. absurd (false≢true (sym more ∙ c.is_lone.ensures lone))

pub returns-then-not-is_over-clause-goes : goal.returns-then-not-is_over-clause-goes
returns-then-not-is_over-clause-goes c =
    goes-then c.args.post.now c.sweep.new.post c.collect_any.new.post c.args.self.now c.sweep.new.self c.collect_any.new.self c.sweep.ensures.goes c.collect_any.ensures.goes

pub returns-then-not-is_over-clause-lone : goal.returns-then-not-is_over-clause-lone
returns-then-not-is_over-clause-lone c = let more : c.is_lone.result ≡ false = search rules in λ lone. absurd (false≢true (sym more ∙ c.is_lone.ensures lone))

pub returns-clause-goes : goal.returns-clause-goes
returns-clause-goes c =
    goes-then c.args.post.now c.collect_any.new.post c.leave_within.new.post c.args.self.now c.collect_any.new.self c.leave_within.new.self
    (goes-then c.args.post.now c.sweep.new.post c.collect_any.new.post c.args.self.now c.sweep.new.self c.collect_any.new.self c.sweep.ensures.goes c.collect_any.ensures.goes) c.leave_within.ensures.goes

pub returns-clause-lone : goal.returns-clause-lone
returns-clause-lone c = let more : c.is_lone.result ≡ false = search rules in λ lone. absurd (false≢true (sym more ∙ c.is_lone.ensures lone))
