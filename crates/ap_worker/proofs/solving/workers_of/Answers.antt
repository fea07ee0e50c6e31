use Rattle.std.proofs.Common.{rules, ◌≡◌, All, length, ap, sym, ◌∙◌, subst}
use Rattle.std.proofs.lemmas.List.{length-append}
use Rattle.std.proofs.lemmas.List.Elements.{All-nil, All-head, All-tail, All-push}
use Rattle.ap_post.specs.Posts.{IsNew}
use Rattle.ap_worker.specs.Workers.{IsIdle}
use Rattle.ap_worker.proofs.Exact.{counted-first, counted-on}
use Rattle.ap_worker.proofs.solving.workers_of.Goals as goal

pub loop-post-init : goal.loop-post-init
loop-post-init c =
    let gives : c.into_iter-post-iterator.result.rest.items ≡ c.in_ok-posts.posts.items = search rules in record {
      workers = subst (All IsIdle) (sym c.new-workers.ensures.items) (All-nil IsIdle);
      count = counted-first (ap length c.new-workers.ensures.items) (ap length gives ∙ c.in_ok-posts.ensures.count);
      left = subst (All IsNew) (sym gives) c.in_ok-posts.ensures.new;
    }

pub new-requires : goal.new-requires
new-requires c = All-head IsNew c.in-Some.post c.next.new.self.rest.items (subst (All IsNew) c.in-Some.ensures.steps.0 c.loop-post.invariant.left)

pub loop-post-preserved : goal.loop-post-preserved
loop-post-preserved c = record {
  workers = subst (All IsIdle) (sym c.in_ok-push.ensures.items) (All-push IsIdle c.loop-post.workers.items _ c.loop-post.invariant.workers c.new.ensures);
  count = counted-on _ _ (length c.loop-post.workers.items) _ _ (ap length c.in_ok-push.ensures.items ∙ length-append c.loop-post.workers.items _) (ap length c.in-Some.ensures.steps.0) c.loop-post.invariant.count;
  left = All-tail IsNew c.in-Some.post c.next.new.self.rest.items (subst (All IsNew) c.in-Some.ensures.steps.0 c.loop-post.invariant.left);
}
