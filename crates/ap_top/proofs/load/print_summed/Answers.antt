use Rattle.std.proofs.Common.{◌≡◌, [], ◌∷◌, ◌++◌, map, ◌∙◌, ap, sym}
use Rattle.std.proofs.lemmas.List.{map-append}
use Rattle.ap_outside.proofs.Halts.{finishes_map}
use Rattle.ap_top.specs.Loads.{IsSummed}
use Rattle.ap_top.proofs.LoadLayers.{summed_lines}
use Rattle.ap_top.proofs.load.print_summed.Goals as goal

pub returns-clause-lines : goal.returns-clause-lines
returns-clause-lines g c =
    let block = map (λ line. line.items) c.args.block.now in
    let answers = map (λ line. line.items) c.in-Some.answers.now in
    let end = c.deref.result.now in
    let whole : block ≡ answers ++ end ∷ [] =
    ap (map (λ line. line.items)) c.in-Some.ensures.cases.0 ∙ map-append (λ line. line.items) c.in-Some.answers.now (c.in-Some.end.now ∷ []) ∙ ap (λ e. answers ++ e ∷ []) (sym c.deref.ensures.value) in
    finishes_map {T = Unit {0}} _ _ (λ _ put. put ≡ map (λ line. line.items) c.deref-2.result.now) (λ _. IsSummed c.args.seed c.args.size c.args.refused block) c.put_lines-2.result
    (λ _ ls e. summed_lines c.args.seed c.args.size c.args.refused block ls c.if-refused.false answers end whole (e ∙ ap (map (λ line. line.items)) c.deref-2.ensures.value ∙ c.in-Ok.ensures)) c.put_lines-2.ensures.lines
