-- The form of lists and of leaves.
use Rattle.std.proofs.Common.{◌≡◌, List, [], ◌∷◌, refl}
use Rattle.ap_reader.specs.Written.{Written, Node, Cons, Nil, cell}
use Rattle.ap_reader.specs.Evaluated.{Gathered, with_rest, cells}
use Rattle.ap_lexer.specs.Lexeme.{Text}
use Rattle.ap_clause.specs.Shape.{form_of, shape_of, plain}
use Rattle.ap_clause.specs.declared.form.Shape.TheVariants as shape

pub form-cells : (ys : List Written) (x u : Written) → form_of (cells ys (cell x u)) ≡ plain
form-cells [] x u = refl
form-cells (y ∷ ys) x u = refl

pub form-many : (f : Text) (y z : Written) (ys : List Written) (x : Written) → form_of (Node f (with_rest (y ∷ z ∷ ys) (Cons x Nil))) ≡ plain
form-many f y z [] x = refl
form-many f y z (u ∷ ys) x = refl

-- two items and more, and a last one
pub form-items : (f : Text) (ys : List Written) (x : Written) → shape.Items ≡ shape_of (Gathered ys) → form_of (Node f (with_rest ys (Cons x Nil))) ≡ plain
form-items f [] x e = absurd (cc)
form-items f (y ∷ []) x e = absurd (cc)
form-items f (y ∷ z ∷ ys) x e = form-many f y z ys x
