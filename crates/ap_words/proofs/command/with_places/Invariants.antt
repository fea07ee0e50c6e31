use Rattle.std.proofs.Common.{◌≡◌, drop, map}
use Rattle.clap.specs.Words.{app_of}
use Rattle.clap.specs.declared.builder.command.Command.TheViews.{out-Command}
use Rattle.ap_words.specs.Clap.{place_rule, with_rules}
use Rattle.ap_words.proofs.command.with_places.Given as goal

abbrev pub invariant-loop-name : goal.invariant-loop-name
invariant-loop-name l = record {
  rules : with_rules (app_of l.command) (map place_rule (map (λ n. n.now) (drop l.name-index l.names))) ≡ with_rules (app_of l.fn.command) (map place_rule (map (λ n. n.now) l.names));
  own : (out-Command l.command).has_globals ≡ (out-Command l.fn.command).has_globals;
}
