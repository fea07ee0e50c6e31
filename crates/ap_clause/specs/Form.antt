-- Which terms are clauses of a program, and which are queries.
use Rattle.std.specs.Prelude.{Bool, true, false, ◌&&◌, not, if◌then◌else◌, codes, bytes_eq}
use Rattle.ap_lexer.specs.Lexeme.{Text}
use Rattle.ap_reader.specs.Written.{Written, Variable, Integer, Atom, Node, Paren, Nil, Cons}
use Rattle.ap_clause.specs.declared.form.Connective.{Connective}
use Rattle.ap_clause.specs.declared.form.Connective.TheVariants.{And, Or, Par, If, Other}

abbrev pub connective : Text → Connective
connective f = if bytes_eq f (codes ",") then And else (if bytes_eq f (codes ";") then Or else (if bytes_eq f (codes "&") then Par else (if bytes_eq f (codes "=>") then If else Other)))

abbrev pub is_variable : Written → Bool
is_variable (Variable n) = true
is_variable (Integer z) = false
is_variable (Atom f) = false
is_variable (Node f xs) = false
is_variable (Paren x) = is_variable x

-- a conjunction of two checks, or a check of two variables
abbrev pub are_both_checks : Connective → Bool → Bool → Bool
are_both_checks And both pair = both
are_both_checks Or both pair = pair
are_both_checks Par both pair = pair
are_both_checks If both pair = pair
are_both_checks Other both pair = pair

-- ground(V), indep(V,W), or a conjunction of these
abbrev pub are_checks : Written → Bool
are_checks (Variable n) = false
are_checks (Integer z) = false
are_checks (Atom f) = false
are_checks (Node f Nil) = false
are_checks (Node f (Cons a Nil)) = bytes_eq f (codes "ground") && is_variable a
are_checks (Node f (Cons a (Cons b Nil))) = are_both_checks (connective f) (are_checks a && are_checks b) (bytes_eq f (codes "indep") && (is_variable a && is_variable b))
are_checks (Node f (Cons a (Cons b (Cons c xs)))) = false
are_checks (Paren x) = are_checks x

-- what may stand before `=>`: `true`, or checks
abbrev pub is_condition : Written → Bool
is_condition (Variable n) = false
is_condition (Integer z) = false
is_condition (Atom f) = bytes_eq f (codes "true")
is_condition (Node f xs) = are_checks (Node f xs)
is_condition (Paren x) = is_condition x

abbrev pub is_conditional_named : Connective → Bool
is_conditional_named If = true
is_conditional_named _ = false

-- `=>` without parentheses round it
abbrev pub is_conditional : Written → Bool
is_conditional (Node f (Cons a (Cons b Nil))) = is_conditional_named (connective f)
is_conditional _ = false

-- the body that a name makes of two: what is asked of a conjunction and a disjunction, of a group, and of `=>`
abbrev pub is_body_named : Connective → Bool → Bool → Bool → Bool
is_body_named And both group conditional = both
is_body_named Or both group conditional = both
is_body_named Par both group conditional = group
is_body_named If both group conditional = conditional
is_body_named Other both group conditional = true

abbrev pub is_body : Written → Bool
is_body (Variable n) = true
is_body (Integer z) = false
is_body (Atom f) = true
is_body (Node f Nil) = true
is_body (Node f (Cons a Nil)) = true
is_body (Node f (Cons a (Cons b Nil))) = is_body_named (connective f) (is_body a && is_body b) ((not (is_conditional a) && is_body a) && (not (is_conditional b) && is_body b)) (is_condition a && is_body b)
is_body (Node f (Cons a (Cons b (Cons c xs)))) = true
is_body (Paren x) = is_body x

abbrev pub is_head_named : Connective → Bool
is_head_named Other = true
is_head_named _ = false

abbrev pub is_head : Written → Bool
is_head (Variable n) = false
is_head (Integer z) = false
is_head (Atom f) = true
is_head (Node f Nil) = true
is_head (Node f (Cons a Nil)) = true
is_head (Node f (Cons a (Cons b Nil))) = is_head_named (connective f)
is_head (Node f (Cons a (Cons b (Cons c xs)))) = true
is_head (Paren x) = is_head x

-- a head, or `:-` of a head and a body
abbrev pub is_clause : Written → Bool
is_clause (Variable n) = false
is_clause (Integer z) = false
is_clause (Atom f) = true
is_clause (Node f Nil) = true
is_clause (Node f (Cons a Nil)) = true
is_clause (Node f (Cons a (Cons b Nil))) = if bytes_eq f (codes ":-") then is_head a && is_body b else is_head_named (connective f)
is_clause (Node f (Cons a (Cons b (Cons c xs)))) = true
is_clause (Paren x) = is_clause x

-- a body, or `?-` of a body
abbrev pub is_query : Written → Bool
is_query (Variable n) = true
is_query (Integer z) = false
is_query (Atom f) = true
is_query (Node f Nil) = true
is_query (Node f (Cons a Nil)) = if bytes_eq f (codes "?-") then is_body a else true
is_query (Node f (Cons a (Cons b Nil))) = is_body (Node f (Cons a (Cons b Nil)))
is_query (Node f (Cons a (Cons b (Cons c xs)))) = true
is_query (Paren x) = is_query x
