-- Programs whose groups are their goals in turn: they are the same without groups, and their searches come to none.
use Rattle.std.proofs.Common.{◌≡◌, ◌+◌, inl, inr, ℕ, List, [], ◌∷◌, ◌++◌, map, Option, None, Some, All, refl, ap, ap₂, sym, ◌∙◌, subst}
use Rattle.std.specs.List.{flat_map, AllByRecursion}
use Rattle.std.proofs.lemmas.List.Elements.{All-nil, All-cons, All-head, All-tail}
use Rattle.ap_term.specs.declared.fixed.TheConstants.{QUERY}
use Rattle.ap_term.specs.Tree.{Tree, Trees, none, more, append_trees, atom}
use Rattle.ap_term.specs.Substitution.{Subst}
use Rattle.ap_term.specs.Builtins.{builtin}
use Rattle.ap_term.specs.declared.faults.Fault.{Fault}
use Rattle.ap_term.specs.Faults.{fault_of}
use Rattle.ap_term.specs.Goals as goals
use Rattle.ap_term.specs.Goals.{Part, Clause, Program, Query, joined, plain_goals}
use Rattle.ap_term.specs.WellFormed.{IsClause, IsProgram, IsQuery}
use Rattle.ap_term.proofs.Zips.{AllByRecursion-append}
use Rattle.ap_cge.specs.Stripped.{stripped_part, stripped_clause, stripped}
use Rattle.ap_codegen.specs.Sequential.{sequential, sequential_program, sequential_query}
use Rattle.ap_codegen.proofs.WholeLeads.{sequential_clause}
use Rattle.ap_tracked.specs.Tracked.{Goal, call, fork, moved, placed, calls, opened, Tracked, child_if, clause_children, call_children, children_unless, children_by, children, IsOneOf, renamed}
use Rattle.ap_tracked.specs.Forks.{Fork, ComesFirst, Forks, here, below, beside, alone}
use Rattle.ap_tracked.specs.Safe.{IsSafe}
use Rattle.ap_open.specs.Reading.{AreRead, IsSafeQuery}
use Rattle.ap_open.specs.InTurn.{InTurnLaw}

-- ---- without groups

calls_append : (a b : Trees) → goals.calls (append_trees a b) ≡ goals.calls a ++ goals.calls b
calls_append none b = refl
calls_append (more t a) b = ap (λ ps. goals.call t ∷ ps) (calls_append a b)

calls_plain : (ps : List Part) → goals.calls (plain_goals ps) ≡ flat_map stripped_part ps
calls_plain [] = refl
calls_plain (goals.call t ∷ ps) = ap (λ qs. goals.call t ∷ qs) (calls_plain ps)
calls_plain (goals.group cs ts ∷ ps) = calls_append ts (plain_goals ps) ∙ ap (λ qs. goals.calls ts ++ qs) (calls_plain ps)

stripped_calls : (ts : Trees) → flat_map stripped_part (goals.calls ts) ≡ goals.calls ts
stripped_calls none = refl
stripped_calls (more t ts) = ap (λ ps. goals.call t ∷ ps) (stripped_calls ts)

same_clause : (c : Clause) → stripped_clause (sequential c) ≡ stripped_clause c
same_clause c = ap (λ (b : List Part). record { head = c.head; body = b; vars = c.vars; line = c.line }) (stripped_calls (plain_goals c.body) ∙ calls_plain c.body)

same_program : (p : Program) → stripped (sequential_program p) ≡ stripped p
same_program [] = refl
same_program (c ∷ p) = ap₂ (λ x y. x ∷ y) (same_clause c) (same_program p)

-- ---- goals that are no groups

abbrev IsCall : Goal → Type 0
IsCall (call t) = Unit {0}
IsCall (fork cs ts f now) = ⊥

abbrev AreCalls : List Goal → Type 0
AreCalls gs = AllByRecursion IsCall gs

abbrev HasCalls : Tracked → Type 0
HasCalls s = AreCalls s.goals

abbrev IsInTurn : Clause → Type 0
IsInTurn c = (ts : Trees) × (c.body ≡ goals.calls ts)

abbrev AreInTurn : Program → Type 0
AreInTurn p = AllByRecursion IsInTurn p

moved_all : (u : ℕ → Tree) (gs : List Goal) → AreCalls gs → AreCalls (map (moved u) gs)
moved_all u [] h = tt
moved_all u (call t ∷ gs) h = (tt, moved_all u gs h.1)
moved_all u (fork cs ts f now ∷ gs) h = absurd h.0

placed_all : (f : ℕ → Tree) (ts : Trees) → AreCalls (map (placed f) (goals.calls ts))
placed_all f none = tt
placed_all f (more t ts) = (tt, placed_all f ts)

opened_all : (gs : List Goal) → AreCalls gs → AreCalls (opened gs)
opened_all [] h = tt
opened_all (call t ∷ gs) h = h
opened_all (fork cs ts f now ∷ gs) h = absurd h.0

child_calls : (s : Tracked) (rest : List Goal) (o : Option Subst) (body : List Goal) (takes : ℕ) → AreCalls rest → AreCalls body → AllByRecursion HasCalls (child_if s rest o body takes)
child_calls s rest None body takes h k = tt
child_calls s rest (Some b) body takes h k = (moved_all _ (body ++ rest) (AllByRecursion-append IsCall body rest k h), tt)

clauses_calls : (s : Tracked) (g : Tree) (rest : List Goal) (p : Program) → AreInTurn p → AreCalls rest → AllByRecursion HasCalls (flat_map (clause_children s g rest) p)
clauses_calls s g rest [] turn h = tt
clauses_calls s g rest (c ∷ p) (first, turn) h =
    let f : ℕ → Tree = renamed c.vars s.next in
    let body : AreCalls (map (placed f) c.body) = subst (λ b. AreCalls (map (placed f) b)) (sym first.1) (placed_all f first.0) in
    AllByRecursion-append HasCalls (clause_children s g rest c) (flat_map (clause_children s g rest) p) (child_calls s rest _ (map (placed f) c.body) (c.vars + 1) h body) (clauses_calls s g rest p turn h)

by_answer : (p : Program) (s : Tracked) (g : Tree) (rest : List Goal) (o : Option (Option Subst)) → AreInTurn p → AreCalls rest → AllByRecursion HasCalls (call_children p s g rest o)
by_answer p s g rest None turn h = clauses_calls s g rest p turn h
by_answer p s g rest (Some answer) turn h = child_calls s rest answer [] 0 h tt

by_fault : (s : Tracked) (ss : List Tracked) (e : Option Fault) → AllByRecursion HasCalls ss → AllByRecursion HasCalls (children_unless e s ss)
by_fault s ss None h = h
by_fault s ss (Some e) h = (tt, tt)

by_first : (p : Program) (s : Tracked) (gs : List Goal) → AreInTurn p → AreCalls gs → AllByRecursion HasCalls (children_by p s gs)
by_first p s [] turn h = tt
by_first p s (call g ∷ rest) turn h = by_fault s (call_children p s g rest (builtin g)) (fault_of g) (by_answer p s g rest (builtin g) turn h.1)
by_first p s (fork cs ts f now ∷ rest) turn h = absurd h.0

one_of : (t : Tracked) (ss : List Tracked) → AllByRecursion HasCalls ss → IsOneOf t ss → HasCalls t
one_of t [] h i = absurd i
one_of t (s ∷ ss) h (inl e) = subst HasCalls (sym e) h.0
one_of t (s ∷ ss) h (inr i) = one_of t ss h.1 i

none_first : (f : Fork) (gs : List Goal) → AreCalls gs → ComesFirst f gs → ⊥
none_first f [] h c = c
none_first f (call t ∷ gs) h c = c
none_first f (fork cs ts g now ∷ gs) h c = h.0

-- the search of goals that are no groups comes to none
no_forks : (p : Program) → AreInTurn p → (s : Tracked) (d : ℕ) (f : Fork) → Forks p s d f → HasCalls s → ⊥
no_forks p turn s d f (here le first) h = none_first f s.goals h first
no_forks p turn s d f (below t lt one inner) h = no_forks p turn t d f inner (one_of t (children p s) (by_first p s (opened s.goals) turn (opened_all s.goals h)) one)
no_forks p turn s d f (beside e g n outer of unused inner) h = no_forks p turn s d e outer h

-- ---- the law

in_turn : (p : Program) → AreInTurn (sequential_program p)
in_turn [] = tt
in_turn (c ∷ p) = ((plain_goals c.body, refl), in_turn p)

both_in_turn : (a : Program) (q : Query) → AreInTurn (joined (sequential_program a) (sequential_query q))
both_in_turn a q = AllByRecursion-append IsInTurn (sequential_program a) _ (in_turn a) ((plain_goals q.question.body, refl), in_turn q.lifted)

good_all : (p : Program) → IsProgram p → IsProgram (sequential_program p)
good_all [] h = All-nil IsClause
good_all (c ∷ p) h = All-cons IsClause (sequential c) (sequential_program p) (sequential_clause c (All-head IsClause c p h)) (good_all p (All-tail IsClause c p h))

pub in_turn_is : InTurnLaw
in_turn_is = record {
  programs = good_all;
  queries = λ q is. record { head = is.head; named = is.named; question = sequential_clause q.question is.question; lifted = good_all q.lifted is.lifted };
  reads = λ program a query q h. record { same_program = same_program a ∙ h.same_program; same_question = same_clause q.question ∙ h.same_question; same_lifted = same_program q.lifted ∙ h.same_lifted };
  safe = λ a q d f forks. absurd (no_forks (joined (sequential_program a) (sequential_query q)) (both_in_turn a q) (alone (atom QUERY) 0) d f forks (tt, tt));
}
