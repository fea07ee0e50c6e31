use Rattle.ap_cge.proofs.Tokens.{name_apart, integer_front, variable_front}
use Rattle.ap_cge.proofs.Terms.{term_reads}
use Rattle.ap_cge.proofs.law.printed_again_as_tokens.Goals as goal

pub returns : goal.returns
returns c = record {
  names = λ name rest u bytes apart. (name_apart name rest u bytes apart).read;
  integers = λ z rest h apart. (integer_front z rest h apart).read;
  terms = λ names t rest u h bytes apart. ((term_reads names u t h).front rest apart bytes).read;
  variables = λ n rest h apart. (variable_front n rest h apart).read;
}
