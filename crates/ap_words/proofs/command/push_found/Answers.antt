use Rattle.std.proofs.Common.{◌≡◌, ◌∙◌, ◌++◌, ◌+◌, None, drop, map, ap, sym, rules}
use Rattle.std.specs.Prelude.{option_map}
use Rattle.std.proofs.lemmas.List.{at_drop_more}
use Rattle.clap.specs.Words.{found_of, rows_of}
use Rattle.clap.proofs.WalkLemmas.{first_value-rows}
use Rattle.ap_words.specs.Clap.{found_in}
use Rattle.ap_words.specs.Values.{value_of}
use Rattle.ap_words.proofs.Loops.{found-none, found-some}
use Rattle.ap_words.proofs.command.push_found.Goals as goal
use Rattle.ap_words.proofs.command.push_found.Goals.{in-Some+in_ok-push, in_default}

pub loop-name-preserved : goal.loop-name-preserved
loop-name-preserved c =
    let names = c.args.names.now in
    let i = c.loop-name.name-index in
    let items = c.loop-name.values.items in
    let rows = rows_of (found_of c.args.matches.now) in
    let rest = map (λ n. n.now) (drop (i + 1) names) in
    let found = c.get_str.ensures ∙ first_value-rows (found_of c.args.matches.now) _ in
    let before = sym (at_drop_more (λ ns. map value_of items ++ found_in rows (map (λ n. n.now) ns)) names i _ c.loop-name-test.true) ∙ c.loop-name.invariant in
    elim c.match-get_str.branch [
      | in-Some+in_ok-push w ↦
          found-some rows items c.match-get_str.values.items _ rest (ap (λ v. v.items) w.values-is ∙ w.in_ok-push.ensures.items) (ap (option_map (λ t. t.now)) (sym w.in-Some.is) ∙ found) ∙ before
      | in_default w ↦
          let none : c.get_str.result ≡ None = search rules in
          ap (λ vs. map value_of vs.items ++ found_in rows rest) w.values-is ∙ found-none rows items _ rest (ap (option_map (λ t. t.now)) (sym none) ∙ found) ∙ before
    ]
