use Rattle.std.proofs.Common.{rules, ◌≡◌, ◌∷◌, ◌++◌, [], length, All, sym, ap, ◌∙◌, subst, append_assoc}
use Rattle.std.proofs.lemmas.List.Elements.{All-nil, All-head, All-tail}
use Rattle.ap_post.specs.Posts.{IsNew}
use Rattle.ap_post.proofs.Opened.{IsSat, no_goal, none_posted, new_post, one_more_new, one_more_counted}
use Rattle.ap_post.proofs.fresh.open_posts.Goals as goal

pub loop-seat-init : goal.loop-seat-init
loop-seat-init c = let z = c.args.board.now.table.shared.table_id in let gives : c.into_iter-seat-iterator.result.rest.items ≡ c.args.seats.items = search rules in record {
  posts = subst (All IsNew) (sym c.new-posts.ensures.items) (All-nil IsNew);
  count = ap length c.new-posts.ensures.items;
  all = gives;
  left = subst (All (IsSat z)) (sym gives) (λ k d lt. let new = c.requires.new k d lt in (c.requires.table k d lt, new.0, new.1));
}

pub invariant_of-push : goal.invariant_of-push
invariant_of-push c = let z = c.args.board.now.table.shared.table_id in let sat = All-head (IsSat z) c.in-Some.seat c.next.new.self.rest.items (subst (All (IsSat z)) c.in-Some.ensures.steps.0 c.loop-seat.invariant.left) in record {
  table = ap (λ d. d.0) c.new.ensures ∙ sat.0;
  fresh = λ f l m. none_posted c.new.result c.in-Some.seat.0 c.in-Some.seat.1 c.new.ensures f;
}

pub loop-seat-preserved : goal.loop-seat-preserved
loop-seat-preserved c = let z = c.args.board.now.table.shared.table_id in let items = c.in_ok-push.ensures.items in record {
  posts = one_more_new c.loop-seat.posts.items c.push.new.self.items _ items c.loop-seat.invariant.posts (new_post _ (ap (λ d. d.2) c.new.ensures) (ap (λ d. d.3) c.new.ensures) (ap (λ d. d.4) c.new.ensures));
  count = one_more_counted c.loop-seat.posts.items c.push.new.self.items _ c.loop-seat.yielded c.in-Some.seat items c.loop-seat.invariant.count;
  all = append_assoc c.loop-seat.yielded (c.in-Some.seat ∷ []) c.next.new.self.rest.items ∙ ap (λ l. c.loop-seat.yielded ++ l) (sym c.in-Some.ensures.steps.0) ∙ c.loop-seat.invariant.all;
  left = All-tail (IsSat z) c.in-Some.seat c.next.new.self.rest.items (subst (All (IsSat z)) c.in-Some.ensures.steps.0 c.loop-seat.invariant.left);
}

pub new-requires : goal.new-requires
new-requires c = let z = c.args.board.now.table.shared.table_id in let sat = All-head (IsSat z) c.in-Some.seat c.next.new.self.rest.items (subst (All (IsSat z)) c.in-Some.ensures.steps.0 c.loop-seat.invariant.left) in no_goal sat.1 c.in-Some.seat.1.number c.in-Some.seat.1 sat.2
