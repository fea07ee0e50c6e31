-- Goals of code that stands alone, where other code goes on behind it.
use Rattle.std.proofs.Common.{◌≡◌, ◌<◌, ◌≤◌, true, List, length, Some, arith}
use Rattle.std.proofs.lemmas.Bool.{and_parts, leb-true, ltb-true}
use Rattle.std.proofs.lemmas.Option.{slice_get_within}
use Rattle.ap_instr.specs.Code.{Compiled}
use Rattle.ap_instr.specs.Step.{Step}
use Rattle.ap_needs.specs.Behind.{Begins, StandsAlone}
use Rattle.ap_needs.proofs.Behind.{all-got}
use Rattle.ap_needs.proofs.Asking.{AskTheSame, open-leads, same-from}
use Rattle.ap_direct.specs.declared.goal.Goal.{Goal}
use Rattle.ap_direct.specs.declared.table.Directs.{Directs}
use Rattle.ap_direct.specs.Goals.{AsksGoal}
use Rattle.ap_direct.specs.Table.{AreGoalsOf, ends_within, stay_within}

asks-same : (js js' is is' : List Step) (g : Goal) → AskTheSame js js' → AskTheSame is is' → AsksGoal js g is → AsksGoal js' g is'
asks-same js js' is is' g j i h = record {
  only = λ x y bs run. let r = h.only x y bs (j.back _ x y bs run) in (r.0, r.1, r.2, i.to _ _ _ r.1 r.3);
  each = λ x y t cs run. j.to _ x y _ (h.each x y t cs (i.back _ _ _ cs run));
  openly = λ o. let r = h.openly (j.back_openly o) in (open-leads is is' i.to r.0, i.to_openly r.1);
}

pub goals-behind : (base code : Compiled) (t : Directs) → Begins base code → StandsAlone base → stay_within (length base.instructions) t ≡ true → AreGoalsOf base t → AreGoalsOf code t
goals-behind base code t begins alone within h at d e =
    let places = length base.instructions in
    let parts = and_parts _ _ within in
    let few : length t.goals.items ≤ places = leb-true _ _ parts.0 in
    let here : at < length t.goals.items = slice_get_within t.goals.items at (Some d) e in
    let to : d.value.to < places = ltb-true _ _ (all-got (ends_within places) t.goals.items at (Some d) parts.1 e) in
    asks-same _ _ _ _ d.value.goal (same-from base code begins alone at (omega arith)) (same-from base code begins alone d.value.to to) (h at d e)
