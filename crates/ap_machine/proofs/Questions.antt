-- The query is the only clause of its predicate.
use Rattle.std.proofs.Common.{◌≡◌, ℕ, Bool, true, false, cond, ◌&&◌, nat_eq, List, [], ◌∷◌, ◌++◌, Option, Some, None, slice_get, refl, ap, ap₂, sym, ◌∙◌, subst}
use Rattle.std.specs.Prelude.{◌==◌, not}
use Rattle.std.specs.Option.{option_eq}
use Rattle.std.proofs.lemmas.Bool.{false≢true}
use Rattle.std.specs.List.{AllZip}
use Rattle.std.proofs.lemmas.List.Elements.{filter-append}
use Rattle.ap_term.proofs.TreeLists.{count_trees-variables}
use Rattle.ap_term.specs.declared.fixed.TheConstants.{QUERY}
use Rattle.ap_term.specs.Tree.{Tree, Trees, var, int, atom, node, none, more, count_trees}
use Rattle.ap_term.specs.Goals.{Clause, Program, Query, joined}
use Rattle.ap_term.specs.Search.{variables}
use Rattle.ap_term.proofs.Solutions.{same_var, same_test}
use Rattle.ap_instr.specs.declared.compiled.Predicate.{Predicate}
use Rattle.ap_instr.specs.Code.{Compiled}
use Rattle.ap_instr.specs.Runs.{applied}
use Rattle.ap_term.specs.Builtins.{builtin}
use Rattle.ap_instr.specs.StandsFor.{ReadsAt, IsOfClauses, is_head_of, clauses_of, clause_places, asked, asked_query}
use Rattle.ap_standing.proofs.Turns.{of-clauses}
use Rattle.ap_machine.specs.Started.{HasName, NoneIsFor, IsAsked, IsQuestion}

pub query-is : (o : Option ℕ) (n : ℕ) → false ≡ not (option_eq nat_eq o (Some n)) → o ≡ Some n
query-is None n h = absurd (false≢true h)
query-is (Some m) n h = go (nat_eq m n) refl h
  where
    go : (b : Bool) → nat_eq m n ≡ b → false ≡ not b → Some m ≡ Some n
    go true e k = ap Some (same_var m n e)
    go false e k = absurd (false≢true k)

-- ---- clauses of other names

other-head : (q : Predicate) (a : ℕ) → q.name ≡ a → (t : Tree) → (HasName a t → ⊥) → is_head_of q t ≡ false
other-head q a e (var x) h = refl
other-head q a e (int z) h = refl
other-head q a e (atom b) h = go (b == q.name) refl
  where
    go : (c : Bool) → (b == q.name) ≡ c → ((b == q.name) && (q.arity == 0)) ≡ false
    go true k = absurd (h (same_var b q.name k ∙ e))
    go false k = ap (λ c. c && (q.arity == 0)) k
other-head q a e (node b ts) h = go (b == q.name) refl
  where
    go : (c : Bool) → (b == q.name) ≡ c → ((b == q.name) && (count_trees ts == q.arity)) ≡ false
    go true k = absurd (h (same_var b q.name k ∙ e))
    go false k = ap (λ c. c && (count_trees ts == q.arity)) k

other-clauses : (q : Predicate) (a : ℕ) → q.name ≡ a → (p : Program) → NoneIsFor a p → clauses_of q p ≡ []
other-clauses q a e [] h = refl
other-clauses q a e (c ∷ p) h = ap (λ b. cond b (c ∷ clauses_of q p) (clauses_of q p)) (other-head q a e c.head h.0) ∙ other-clauses q a e p h.1

-- ---- the query's own clause

same-number : (n : ℕ) → (n == n) ≡ true
same-number n = same_test n n refl

own-head : (q : Predicate) (a : ℕ) (ts : Trees) → q.name ≡ a → q.arity ≡ count_trees ts → is_head_of q (applied a ts) ≡ true
own-head q a none e k = ap₂ (λ m n. (a == m) && (n == 0)) e k ∙ ap (λ b. b && true) (same-number a)
own-head q a (more t ts) e k = ap₂ (λ m n. (a == m) && (count_trees (more t ts) == n)) e k ∙ ap₂ (λ b c. b && c) (same-number a) (same-number (count_trees (more t ts)))

-- `?-` names no built-in goal
query-apart : (ts : Trees) → builtin (applied QUERY ts) ≡ None
query-apart none = refl
query-apart (more t none) = refl
query-apart (more t (more u none)) = refl
query-apart (more t (more u (more v ts))) = refl

module _ (code : Compiled) (p : Program) (q : Query) (is : IsAsked code p q) where
  only : clauses_of is.stands.predicate (joined p (asked_query q)) ≡ asked q ∷ []
  only =
      let r = is.stands.predicate in
      let rest : clauses_of r q.lifted ≡ [] = other-clauses r QUERY is.stands.named q.lifted is.lifted in
      let own : is_head_of r (asked q).head ≡ true = own-head r QUERY (variables q.question.vars) is.stands.named (is.stands.arity ∙ sym (count_trees-variables q.question.vars)) in
      filter-append (λ (c : Clause). is_head_of r c.head) p (asked q ∷ q.lifted)
      ∙ ap (λ cs. cs ++ clauses_of r (asked q ∷ q.lifted)) (other-clauses r QUERY is.stands.named p is.program)
      ∙ ap (λ b. cond b (asked q ∷ clauses_of r q.lifted) (clauses_of r q.lifted)) own
      ∙ ap (λ cs. asked q ∷ cs) rest

  single : (ls : List ℕ) → AllZip (ReadsAt code) ls (asked q ∷ []) → (at : ℕ) × (ls ≡ at ∷ []) × ReadsAt code at (asked q)
  single [] h = absurd h
  single (l ∷ []) h = (l, refl, h.0)
  single (l ∷ m ∷ ls) h = absurd h.1

  -- where the question begins
  module _ (number : ℕ) (e : code.query ≡ Some number) where
    same : is.stands.number ≡ number
    same = let k : Some is.stands.number ≡ Some number = sym is.stands.is_query ∙ e in cc

    known : slice_get code.predicates number ≡ Some is.stands.predicate
    known = subst (λ n. slice_get code.predicates n ≡ Some is.stands.predicate) same is.stands.held

    own : IsOfClauses code (joined p (asked_query q)) is.stands.predicate
    own =
        of-clauses code (joined p (asked_query q)) is.stands.predicate (is.stands.stands.predicates number is.stands.predicate known)
        (λ ts e. ap (λ n. builtin (applied n ts)) is.stands.named ∙ query-apart ts)

    begun : (at : ℕ) × (clause_places code is.stands.predicate ≡ at ∷ []) × ReadsAt code at (asked q)
    begun = single (clause_places code is.stands.predicate) (subst (AllZip (ReadsAt code) (clause_places code is.stands.predicate)) only own.reads)

    pub question : IsQuestion code number
    question = (e, is.stands.predicate, known, begun.0, begun.1)

    pub question-reads : ReadsAt code question.3 (asked q)
    unfolding question
    question-reads = begun.2
