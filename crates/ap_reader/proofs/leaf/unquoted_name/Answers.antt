use Rattle.std.proofs.Common.{rules, ap, ◌∙◌, ◌≡◌, subst, drop}
use Rattle.std.specs.Prelude.{string_bytes}
use Rattle.std.specs.Str.{IsUtf8}
use Rattle.std.proofs.lemmas.Str.{IsUtf8-string_bytes}
use Rattle.ap_reader.specs.declared.leaf.Quote.TheVariants as quote
use Rattle.ap_reader.specs.Written.{unquoted}
use Rattle.ap_reader.proofs.leaf.unquoted_name.Goals as goal

pub returns-in-Ok-from_utf8 : goal.returns-in-Ok-from_utf8
returns-in-Ok-from_utf8 c =
    let e : string_bytes c.in-Ok-from_utf8.name ≡ unquoted quote.Plain (drop 1 c.args.text.now) = ap (λ v. v.items) c.in-Ok-from_utf8.ensures.ok ∙ search rules in
    (e, subst IsUtf8 e (IsUtf8-string_bytes c.in-Ok-from_utf8.name))
