use Rattle.std.proofs.Common.{map, length, arith, ap, ◌∙◌, ◌∷◌, []}
use Rattle.std.proofs.lemmas.List.{length-set, length-append}
use Rattle.ap_core.specs.TaskView.{slot_view}
use Rattle.ap_core.specs.Rounds.{choice_of, put_choices}
use Rattle.ap_core.proofs.ReplayedSlots.{put_at}
use Rattle.ap_core.proofs.replays.put_all.Goals as goal

pub loop-choice-preserved : goal.loop-choice-preserved
loop-choice-preserved c = record {
  whole = put_at c.loop-choice.slots.items c.loop-choice.made.items c.pop.new.self.items c.in-Some.choice c.len-j.result c.put.new.x c.index_mut.result.now (put_choices (map choice_of c.args.made.items) (map slot_view c.args.slots.now.items))
      c.in-Some.ensures.items (c.len-j.ensures ∙ c.pop.new.self.ok.0) c.loop-choice.invariant.fits c.index_mut.ensures.value c.put.ensures c.loop-choice.invariant.whole;
  fits = omega (arith, length-set c.loop-choice.slots.items c.len-j.result c.put.new.x, ap length c.in-Some.ensures.items, length-append c.pop.new.self.items (c.in-Some.choice ∷ []), c.loop-choice.invariant.fits);
}
