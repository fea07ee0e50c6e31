use Rattle.std.proofs.Common.{◌∙◌, ◌+◌, ◌||◌, drop, map, ap, ap₂, sym}
use Rattle.std.proofs.lemmas.List.{at_drop_more}
use Rattle.std.proofs.Math.Bool.{or-false}
use Rattle.clap.specs.Words.{app_of, with_rule}
use Rattle.ap_words.specs.Clap.{place_rule, with_rules}
use Rattle.ap_words.proofs.command.with_places.Goals as goal

pub loop-name-preserved : goal.loop-name-preserved
loop-name-preserved c =
    let names = c.args.names.now in
    let i = c.loop-name.name-index in
    let old = app_of c.loop-name.command in
    let added = c.in_ok-command.ensures in
    record {
      rules = ap (λ a. with_rules a (map place_rule (map (λ n. n.now) (drop (i + 1) names)))) (added.shape c.place.ensures.own ∙ ap (with_rule old) c.place.ensures.rule)
          ∙ sym (at_drop_more (λ ns. with_rules old (map place_rule (map (λ n. n.now) ns))) names i _ c.loop-name-test.true) ∙ c.loop-name.invariant.rules;
      own = added.globals ∙ ap₂ (λ a b. a || b) c.loop-name.invariant.own c.place.ensures.own ∙ or-false _;
    }
