-- What reading says of the tokens before the end token.
use Rattle.std.proofs.Common.{◌≡◌, List, sym, ◌∙◌, ap}
use Rattle.std.proofs.lemmas.List.{same_from_push}
use Rattle.ap_lexer.specs.Token.{Placed}
use Rattle.ap_reader.specs.Grammar.{Tree}
use Rattle.ap_reader.specs.Word.{words}
use Rattle.ap_reader.specs.Reading.{EndsAs, Spells, term_of}
use Rattle.ap_reader.proofs.Complete.{one}

pub one_front : (ts a b : List Placed) → EndsAs ts a → EndsAs ts b → a ≡ b
one_front ts a b h k = (same_from_push a b h.0 k.0 (sym h.2 ∙ k.2)).0

pub one_term : (ts f g : List Placed) (a b : Tree) → Spells ts f a → Spells ts g b → term_of f a ≡ term_of g b
one_term ts f g a b s u =
    let front = one_front ts f g s.ends u.ends in
    let tree = one a b s.rules u.rules (s.spelling ∙ ap words front ∙ sym u.spelling) in
    ap (λ x. term_of x a) front ∙ ap (term_of g) tree
