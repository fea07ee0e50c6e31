-- Small examples of the definitions, computed.
use Rattle.std.proofs.Common.{◌≡◌, true, false, Some, refl}
use Rattle.std.specs.Prelude.{codes}
use Rattle.ap_term.specs.declared.fixed.TheConstants.{NECK, COMMA, CALL, CUT}
use Rattle.ap_term.specs.Tree.{var, atom, node, none, more}
use Rattle.ap_reader.specs.Written.{Written, Variable, Atom, Node, Paren, Nil, Cons}
use Rattle.ap_clause.specs.declared.source.Source.TheVariants as source
use Rattle.ap_clause.specs.Form.{is_body, is_clause}
use Rattle.ap_clause.specs.Clause.{clause_halves}
use Rattle.ap_clause.specs.Outside.{first_outside}

abbrev a : Written
a = Atom (codes "a")

abbrev given_true : Written
given_true = Node (codes "=>") (Cons (Atom (codes "true")) (Cons a Nil))

-- `a & (true => a)` can be a body, and without the parentheses it can't
in_parentheses : is_body (Node (codes "&") (Cons a (Cons (Paren given_true) Nil))) ≡ true
in_parentheses = refl

bare : is_body (Node (codes "&") (Cons a (Cons given_true Nil))) ≡ false
bare = refl

-- `(true, ground(X)) => a` can't
true_among_checks : is_body (Node (codes "=>") (Cons (Paren (Node (codes ",") (Cons (Atom (codes "true")) (Cons (Node (codes "ground") (Cons (Variable 1) Nil)) Nil)))) (Cons a Nil))) ≡ false
true_among_checks = refl

-- `a, a` is no clause
conjunction : is_clause (Node (codes ",") (Cons a (Cons a Nil))) ≡ false
conjunction = refl

-- `p :- X, !` has the name `call` first, and `! :- X` the name `!`
call_first : first_outside source.Program (clause_halves (node NECK (more (atom 90) (more (node COMMA (more (var 1) (more (atom CUT) none))) none)))) ≡ Some CALL
call_first = refl

head_first : first_outside source.Program (clause_halves (node NECK (more (atom CUT) (more (var 1) none)))) ≡ Some CUT
head_first = refl
