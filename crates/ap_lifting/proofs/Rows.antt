-- Rows of the definition, computed.
use Rattle.std.proofs.Common.{◌≡◌, ℕ, ◌+◌, List, [], ◌∷◌, map, refl, Some}
use Rattle.std.specs.Prelude.{pos}
use Rattle.ap_term.specs.declared.clauses.Check.TheVariants.{Ground as IsGround, Indep as AreIndep}
use Rattle.ap_term.specs.declared.fixed.TheConstants.{TRUE, UNIFY, QUERY}
use Rattle.ap_term.specs.Tree.{Tree, var, int, atom, node, none, more}
use Rattle.ap_term.specs.Goals.{Part, call, group, Clause}
use Rattle.ap_lifting.specs.declared.bodies.Condition.TheVariants.{True, Ground, Indep}
use Rattle.ap_lifting.specs.Body.{Body, goal, conjunction, disjunction, parallel, conditional}
use Rattle.ap_lifting.specs.Rule.{Rule}
use Rattle.ap_laws.specs.Plain.{tuple_of}
use Rattle.ap_laws.specs.Trace.{answers_in, calls_in}
use Rattle.ap_lifting.specs.WrittenSearch.{written_trace, written_start}
use Rattle.ap_lifting.specs.Lifted.{lifted, lifted_program}

-- the n-th lifted predicate has the name 900 + n
abbrev names : ℕ → ℕ
names n = 900 + n

-- of a clause with one variable, in the first line
abbrev rule : Body → Rule
rule b = record { head = node 200 (more (var 1) none); body = Some b; vars = 1; line = 1 }

abbrev clause : Tree → List Part → Clause
clause h ps = record { head = h; body = ps; vars = 1; line = 1 }

abbrev of_x : ℕ → Tree
of_x a = node a (more (var 1) none)

abbrev equals : ℕ → Tree
equals n = node UNIFY (more (var 1) (more (int (pos n)) none))

abbrev question : Rule
question = record { head = atom QUERY; body = Some (goal (of_x 200)); vars = 1; line = 1 }

abbrev fact : ℕ → Rule
fact n = record { head = atom n; body = Some (goal (atom TRUE)); vars = 0; line = 1 }

abbrev a : Body
a = goal (atom 301)

abbrev b : Body
b = goal (atom 302)

abbrev c : Body
c = goal (atom 303)

abbrev d : Body
d = goal (atom 304)

-- p(X) :- (X = 1 ; X = 2).
disjunction_row : lifted_program names (rule (disjunction (goal (equals 1)) (goal (equals 2))) ∷ [])
    ≡ clause (of_x 200) (call (of_x 900) ∷ []) ∷ clause (of_x 900) (call (equals 1) ∷ []) ∷ clause (of_x 900) (call (equals 2) ∷ []) ∷ []
disjunction_row = refl

-- p(X) :- ((a ; b) ; (c ; d)).
nested_row : lifted_program names (rule (disjunction (disjunction a b) (disjunction c d)) ∷ [])
    ≡ clause (of_x 200) (call (of_x 900) ∷ [])
    ∷ clause (of_x 900) (call (of_x 901) ∷ []) ∷ clause (of_x 900) (call (of_x 902) ∷ [])
    ∷ clause (of_x 901) (call (atom 301) ∷ []) ∷ clause (of_x 901) (call (atom 302) ∷ [])
    ∷ clause (of_x 902) (call (atom 303) ∷ []) ∷ clause (of_x 902) (call (atom 304) ∷ []) ∷ []
nested_row = refl

-- p(X) :- a & (b, c) & d.
operand_row : lifted_program names (rule (parallel a (parallel (conjunction b c) d)) ∷ [])
    ≡ clause (of_x 200) (group [] (more (atom 301) (more (of_x 900) (more (atom 304) none))) ∷ [])
    ∷ clause (of_x 900) (call (atom 302) ∷ call (atom 303) ∷ []) ∷ []
operand_row = refl

-- p(X) :- (a & b) & (true => c & d), a. The last operand is in brackets.
groups_row : lifted_program names (rule (conjunction (parallel (parallel a b) (conditional (True ∷ []) (parallel c d))) a) ∷ [])
    ≡ clause (of_x 200) (group [] (more (of_x 900) (more (of_x 901) none)) ∷ call (atom 301) ∷ [])
    ∷ clause (of_x 900) (group [] (more (atom 301) (more (atom 302) none)) ∷ [])
    ∷ clause (of_x 901) (group [] (more (atom 303) (more (atom 304) none)) ∷ []) ∷ []
groups_row = refl

-- p(X) :- (a, b ; c) & d.
operand_disjunction_row : lifted_program names (rule (parallel (disjunction (conjunction a b) c) d) ∷ [])
    ≡ clause (of_x 200) (group [] (more (of_x 900) (more (atom 304) none)) ∷ [])
    ∷ clause (of_x 900) (call (atom 301) ∷ call (atom 302) ∷ []) ∷ clause (of_x 900) (call (atom 303) ∷ []) ∷ []
operand_disjunction_row = refl

-- ground(X), indep(Y,X) => a & b; ground(X) => a; ground(X) => (true => a & b)
checks_row : (lifted names 2 1 (conditional (Ground 1 ∷ Indep 2 1 ∷ []) (parallel a b)) [] 0).parts
    ≡ group (IsGround 1 ∷ AreIndep 1 2 ∷ []) (more (atom 301) (more (atom 302) none)) ∷ []
checks_row = refl

no_group_row : (lifted names 2 1 (conditional (Ground 1 ∷ []) (conjunction a b)) [] 0).parts ≡ call (atom 301) ∷ call (atom 302) ∷ []
no_group_row = refl

inner_checks_row : (lifted names 2 1 (conditional (Ground 1 ∷ []) (conditional (True ∷ []) (parallel a b))) [] 0).parts
    ≡ group [] (more (atom 301) (more (atom 302) none)) ∷ []
inner_checks_row = refl

-- a clause without variables
atom_row : (lifted names 0 1 (disjunction a b) [] 0).parts ≡ call (atom 900) ∷ []
atom_row = refl

-- two clauses: the lifted ones stand behind both, in the order of their numbers
program_row : lifted_program names (rule (disjunction a b) ∷ rule (disjunction c d) ∷ [])
    ≡ clause (of_x 200) (call (of_x 900) ∷ []) ∷ clause (of_x 200) (call (of_x 901) ∷ [])
    ∷ clause (of_x 900) (call (atom 301) ∷ []) ∷ clause (of_x 900) (call (atom 302) ∷ [])
    ∷ clause (of_x 901) (call (atom 303) ∷ []) ∷ clause (of_x 901) (call (atom 304) ∷ []) ∷ []
program_row = refl

-- ---- the written search: p(X) :- (X = 1 ; X = 2). ?- p(X).
abbrev one_of_two : List Rule
one_of_two = rule (disjunction (goal (equals 1)) (goal (equals 2))) ∷ question ∷ []

-- both answers after three calls: of p, of the disjunction and of =
answers_row : map tuple_of (answers_in (written_trace one_of_two 3 (written_start question))) ≡ more (int (pos 1)) none ∷ more (int (pos 2)) none ∷ []
unfolding written_trace
answers_row = refl

-- two calls are too few
short_row : answers_in (written_trace one_of_two 2 (written_start question)) ≡ []
unfolding written_trace
short_row = refl

-- a :- true. b :- true. c :- true. ?- a & (b, c). Each fact takes two calls, and the operand one of its own.
abbrev both_operands : Rule
both_operands = record { head = atom QUERY; body = Some (parallel a (conjunction b c)); vars = 0; line = 1 }

abbrev three_facts : List Rule
three_facts = fact 301 ∷ fact 302 ∷ fact 303 ∷ both_operands ∷ []

operand_calls_row : calls_in (written_trace three_facts 9 (written_start both_operands)) ≡ 7
unfolding written_trace
operand_calls_row = refl
