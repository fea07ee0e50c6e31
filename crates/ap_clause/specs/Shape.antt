-- What the code keeps of written terms to judge their form.
use Rattle.std.specs.Prelude.{Bool, true, false, not, ◌&&◌, [], ◌∷◌, codes, bytes_eq}
use Rattle.ap_lexer.specs.Lexeme.{Text}
use Rattle.ap_reader.specs.Written.{Written, Variable}
use Rattle.ap_reader.specs.Evaluated.{Value, ATerm, Gathered}
use Rattle.ap_clause.specs.declared.form.Form.{Form}
use Rattle.ap_clause.specs.declared.form.Shape.{Shape}
use Rattle.ap_clause.specs.declared.form.Shape.TheVariants as shape
use Rattle.ap_clause.specs.Form.{connective, is_head_named, is_variable, are_checks, is_condition, is_conditional, is_body, is_head, is_clause, is_query}

abbrev pub form_of : Written → Form
form_of x = record {
  variable = is_variable x;
  checks = are_checks x;
  condition = is_condition x;
  conditional = is_conditional x;
  body = is_body x;
  head = is_head x;
  clause = is_clause x;
  query = is_query x;
}

-- a compound that no rule singles out
abbrev pub plain : Form
plain = record { variable = false; checks = false; condition = false; conditional = false; body = true; head = true; clause = true; query = true }

-- a name that no rule singles out
abbrev pub is_plain_name : Text → Bool
is_plain_name f = is_head_named (connective f) && (not (bytes_eq f (codes ":-")) && (not (bytes_eq f (codes "?-")) && (not (bytes_eq f (codes "ground")) && not (bytes_eq f (codes "indep")))))

abbrev pub shape_of : Value → Shape
shape_of (ATerm x) = shape.Term (form_of x)
shape_of (Gathered []) = shape.NoItem
shape_of (Gathered (x ∷ [])) = shape.OneItem (form_of x)
shape_of (Gathered (x ∷ y ∷ ys)) = shape.Items

abbrev pub term_form : Shape → Form
term_form (shape.Term f) = f
term_form _ = form_of (Variable 0)

abbrev pub items_shape : Shape → Shape
items_shape (shape.Term f) = shape.NoItem
items_shape top = top
