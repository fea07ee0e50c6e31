-- Small texts and the terms that they are.
use Rattle.std.specs.Prelude.{◌≡◌, List, [], length, Option, Some, None, codes, refl, pos, negsuc}
use Rattle.ap_lexer.specs.Lexeme.{Text, lexemes, lexeme}
use Rattle.ap_lexer.specs.Token.{Placed, tokens_from}
use Rattle.ap_reader.specs.Operator.{priority_of, left_max, right_max}
use Rattle.ap_reader.specs.Word.{words}
use Rattle.ap_reader.specs.Grammar.{Tree}
use Rattle.ap_reader.specs.Machine.{parsed, reduced}
use Rattle.ap_reader.specs.Written.{Written, Variable, Integer, Atom, Node, Paren, Writtens, Nil, Cons, leaves, meaning}

abbrev term_if : List Placed → Option Tree → Option Written
term_if ts None = None
term_if ts (Some t) = Some (meaning (leaves [] ts) t)

abbrev tokens_of : Text → List Placed
tokens_of text = tokens_from text 0 (length text) (lexemes text)

abbrev read : Text → Option Written
read text = term_if (tokens_of text) (parsed (words (tokens_of text)))

abbrev one : Written → Writtens
one x = Cons x Nil

abbrev two : Written → Written → Writtens
two x y = Cons x (Cons y Nil)

touching_minus : read (codes "-1") ≡ Some (Integer (negsuc 0))
unfolding lexemes lexeme left_max right_max reduced priority_of
touching_minus = refl

loose_minus : read (codes "- 1") ≡ Some (Node (codes "-") (one (Integer (pos 1))))
unfolding lexemes lexeme left_max right_max reduced priority_of
loose_minus = refl

to_the_left : read (codes "1 - 2 - 3") ≡ Some (Node (codes "-") (two (Node (codes "-") (two (Integer (pos 1)) (Integer (pos 2)))) (Integer (pos 3))))
unfolding lexemes lexeme left_max right_max reduced priority_of
to_the_left = refl

groups_bind_tighter : read (codes "a, b & c, d") ≡ Some (Node (codes ",") (two (Atom (codes "a")) (Node (codes ",") (two (Node (codes "&") (two (Atom (codes "b")) (Atom (codes "c")))) (Atom (codes "d"))))))
unfolding lexemes lexeme left_max right_max reduced priority_of
groups_bind_tighter = refl

no_chain : read (codes "a=b=c") ≡ None
unfolding lexemes lexeme left_max right_max reduced priority_of
no_chain = refl

comma_as_an_argument : read (codes "f(,)") ≡ Some (Node (codes "f") (one (Atom (codes ","))))
unfolding lexemes lexeme left_max right_max reduced priority_of
comma_as_an_argument = refl

infix_before_a_parenthesis : read (codes "2*(X)") ≡ Some (Node (codes "*") (two (Integer (pos 2)) (Paren (Variable 1))))
unfolding lexemes lexeme left_max right_max reduced priority_of
infix_before_a_parenthesis = refl

numbered_variables : read (codes "p(X,_,X,_)") ≡ Some (Node (codes "p") (Cons (Variable 1) (Cons (Variable 2) (two (Variable 1) (Variable 3)))))
unfolding lexemes lexeme left_max right_max reduced priority_of
numbered_variables = refl

list_with_a_tail : read (codes "[a|T]") ≡ Some (Node (codes ".") (two (Atom (codes "a")) (Variable 1)))
unfolding lexemes lexeme left_max right_max reduced priority_of
list_with_a_tail = refl
