use Rattle.std.proofs.Common.{◌≡◌, ◌<◌, ◌^◌, true, length, subst, rules}
use Rattle.std.specs.Result.{OkIff}
use Rattle.std.specs.Str.Parse.{digits_value}
use Rattle.std.proofs.lemmas.Str.Parse.{parse_digits}
use Rattle.ap_words.specs.Numbers.{is_numeral}
use Rattle.ap_words.proofs.Ranges.{digits, number_unread, numeral_digits}
use Rattle.ap_words.proofs.numbers.number.Goals as goal

pub returns-in-Err-clause-is : goal.returns-in-Err-clause-is
returns-in-Err-clause-is c =
    let word = c.args.word.now in
    let is : is_numeral word ≡ true = search rules in
    let small : c.args.greatest < 2 ^ 64 = search rules in
    number_unread c.args.least c.args.greatest word small
    (subst (λ r. OkIff r ((0 < length word) × (digits_value 10 word < 2 ^ 64)) (digits_value 10 word)) c.in-Err.is (parse_digits digits 64 word c.parse.result c.parse.ensures.value.0 (numeral_digits word is).0)) is
