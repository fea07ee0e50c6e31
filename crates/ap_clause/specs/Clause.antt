-- The clause that a term is.
use Rattle.std.specs.Prelude.{ℕ, Bool, true, false, ◌&&◌, ◌==◌, if◌then◌else◌, List, [], ◌∷◌, ◌++◌, Option, Some, None}
use Rattle.ap_term.specs.declared.fixed.TheConstants.{NECK, QUERY, COMMA, SEMICOLON, PARALLEL, CONDITION}
use Rattle.ap_term.specs.Tree.{Tree, var, int, atom, node, none, more}
use Rattle.ap_term.specs.Goals.{Part, call}
use Rattle.ap_lifting.specs.declared.bodies.Condition.{Condition}
use Rattle.ap_lifting.specs.declared.bodies.Condition.TheVariants.{True, Ground, Indep}
use Rattle.ap_lifting.specs.Body.{Body, goal, conjunction, disjunction, parallel, conditional}
use Rattle.ap_lifting.specs.Rule.{Rule}
use Rattle.ap_clause.specs.declared.form.Connective.{Connective}
use Rattle.ap_clause.specs.declared.form.Connective.TheVariants.{And, Or, Par, If, Other}
use Rattle.ap_clause.specs.declared.source.Source.{Source}
use Rattle.ap_clause.specs.declared.source.Source.TheVariants as source

-- the connective that an atom is
abbrev pub connective_at : ℕ → Connective
connective_at a = if a == COMMA then And else (if a == SEMICOLON then Or else (if a == PARALLEL then Par else (if a == CONDITION then If else Other)))

abbrev pub variable_in : Tree → ℕ
variable_in (var x) = x
variable_in _ = 0

-- the conditions before `=>`, from left to right
abbrev pub conditions_in : Tree → List Condition
conditions_in (var x) = []
conditions_in (int z) = []
conditions_in (atom a) = True ∷ []
conditions_in (node f none) = []
conditions_in (node f (more a none)) = Ground (variable_in a) ∷ []
conditions_in (node f (more a (more b none))) = if f == COMMA then conditions_in a ++ conditions_in b else Indep (variable_in a) (variable_in b) ∷ []
conditions_in (node f (more a (more b (more c ts)))) = []

abbrev pub joined_by : Connective → Tree → List Condition → Body → Body → Body
joined_by And t cs a b = conjunction a b
joined_by Or t cs a b = disjunction a b
joined_by Par t cs a b = parallel a b
joined_by If t cs a b = conditional cs b
joined_by Other t cs a b = goal t

abbrev pub body_in : Tree → Body
body_in (var x) = goal (var x)
body_in (int z) = goal (int z)
body_in (atom a) = goal (atom a)
body_in (node f none) = goal (node f none)
body_in (node f (more a none)) = goal (node f (more a none))
body_in (node f (more a (more b none))) = joined_by (connective_at f) (node f (more a (more b none))) (conditions_in a) (body_in a) (body_in b)
body_in (node f (more a (more b (more c ts)))) = goal (node f (more a (more b (more c ts))))

-- a body that is one goal
abbrev pub is_goal : Body → Bool
is_goal (goal t) = true
is_goal _ = false

-- goals that are called one after another, nested to the right
abbrev pub is_row : Body → Bool
is_row (goal t) = true
is_row (conjunction a b) = is_goal a && is_row b
is_row _ = false

-- the goals of such a body
abbrev pub goals_in : Body → List Part
goals_in (goal t) = call t ∷ []
goals_in (conjunction a b) = goals_in a ++ goals_in b
goals_in _ = []

-- a head and a body; a fact has no body
abbrev pub Halves : Type 0
Halves = Tree × Option Body

abbrev pub clause_halves : Tree → Halves
clause_halves (var x) = (var x, None)
clause_halves (int z) = (int z, None)
clause_halves (atom a) = (atom a, None)
clause_halves (node f none) = (node f none, None)
clause_halves (node f (more a none)) = (node f (more a none), None)
clause_halves (node f (more h (more b none))) = if f == NECK then (h, Some (body_in b)) else (node f (more h (more b none)), None)
clause_halves (node f (more a (more b (more c ts)))) = (node f (more a (more b (more c ts))), None)

-- the head of a query's clause is `?-`
abbrev pub question : Tree → Halves
question t = (atom QUERY, Some (body_in t))

abbrev pub query_halves : Tree → Halves
query_halves (var x) = question (var x)
query_halves (int z) = question (int z)
query_halves (atom a) = question (atom a)
query_halves (node f none) = question (node f none)
query_halves (node f (more b none)) = if f == QUERY then question b else question (node f (more b none))
query_halves (node f (more a (more b ts))) = question (node f (more a (more b ts)))

abbrev pub halves : Source → Tree → Halves
halves source.Program t = clause_halves t
halves source.Query t = query_halves t

abbrev pub rule_of : Halves → ℕ → ℕ → Rule
rule_of h vars line = record { head = h.0; body = h.1; vars = vars; line = line }
