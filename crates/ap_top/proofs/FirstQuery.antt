-- What the first query of a text comes to.
use Rattle.std.proofs.Common.{◌≡◌, ℕ, ◌<◌, List, [], ◌∷◌, length, Contains, Option, Some, None, Result, Ok, Err, IfOk, IfSome, slice_get, refl, sym, ap, ◌∙◌, subst, arith}
use Rattle.ap_outside.specs.Pieces.{Puts}
use Rattle.ap_outside.specs.Halting.{AnyOf}
use Rattle.ap_outside.specs.declared.halting.Halt.{Halt}
use Rattle.ap_outside.proofs.Puts.{adds_nothing, puts_map}
use Rattle.ap_lexer.specs.Lexeme.{Text}
use Rattle.ap_lexer.specs.Piece.{pieces}
use Rattle.ap_lexer.specs.declared.cut.Piece.{Piece}
use Rattle.ap_term.specs.AtomTable.{fixed_names}
use Rattle.ap_term.specs.Goals.{Program, Query}
use Rattle.ap_clause.specs.Reads.{AcceptsProgram, RefusesProgram, AcceptsQuery, RefusesQuery}
use Rattle.ap_clause.specs.declared.refusal.Refusal.{Refusal}
use Rattle.ap_worker.specs.declared.emission.Ended.{Ended}
use Rattle.ap_mel.specs.declared.annotations.Kind.{Kind}
use Rattle.ap_top.specs.Output.{AreAnswers, IsCounted}
use Rattle.ap_top.specs.Single.{FirstEnds, SingleEnds, IsFirstCounted, IsSingleCounted}

-- ---- the first of a list

pub first-of : {X : Type 0} (x : X) (xs : List X) → slice_get xs 0 ≡ Some x → (rest : List X) × (xs ≡ x ∷ rest)
first-of x [] e = absurd (let none : None ≡ Some x = e in cc)
first-of x (y ∷ ys) e = (ys, let same : Some y ≡ Some x = e in cc)

pub none-of : {X : Type 0} (xs : List X) → slice_get xs 0 ≡ None → xs ≡ []
none-of [] e = refl
none-of (y ∷ ys) e = absurd (let some : Some y ≡ None = e in cc)

pub contains-first : {X : Type 0} (x : X) (xs ys : List X) → xs ≡ x ∷ ys → Contains xs x
contains-first x xs ys e = subst (λ zs. Contains zs x) (sym e) (0, omega arith, refl)

-- ---- nothing is put

puts-nothing : (P : List (List ℕ) → Type 0) (a : Option (List (List ℕ))) → P [] → Puts a a P
puts-nothing P a h = ([], adds_nothing a, h)

module _ (budget limit : ℕ) (program : Program) (table : List (List ℕ)) (text : Text) where
  pub no-query : (a : Option (List (List ℕ))) → pieces text ≡ [] → Puts a a (FirstEnds budget limit program table text None)
  no-query a e = puts-nothing (FirstEnds budget limit program table text None) a (FirstEnds.none [] e refl)

  pub query-refused : (a : Option (List (List ℕ))) (piece : Piece) (rest : List Piece) (r : Refusal) → pieces text ≡ piece ∷ rest → RefusesQuery text piece program table r → Puts a a (FirstEnds budget limit program table text None)
  query-refused a piece rest r e h = puts-nothing (FirstEnds budget limit program table text None) a (FirstEnds.refused piece rest r [] e h refl)

  module _ (piece : Piece) (rest : List Piece) (query : Query) (names : List (List ℕ)) (e : pieces text ≡ piece ∷ rest) (h : AcceptsQuery text piece program table query names) where
    pub query-answered : (x : Ended) (ls : List (List ℕ)) → AreAnswers budget limit program names query x ls → FirstEnds budget limit program table text (Some x) ls
    query-answered x ls answers = FirstEnds.answered piece rest query names x ls e h answers

    pub some-answered : (ls : List (List ℕ)) → AnyOf (AreAnswers budget limit program names query) ls → AnyOf (FirstEnds budget limit program table text) ls
    some-answered ls any = (Some any.0, query-answered any.0 ls any.1)

pub program-refused : (budget limit : ℕ) (bytes text : Text) (a : Option (List (List ℕ))) (r : Refusal) → RefusesProgram bytes fixed_names r → Puts a a (SingleEnds budget limit bytes text None)
program-refused budget limit bytes text a r h = puts-nothing (SingleEnds budget limit bytes text None) a (SingleEnds.refused r [] h refl)

-- ---- what is charged

pub first-counted : (kind : Kind) (budget limit : ℕ) (program : Program) (table : List (List ℕ)) (text : Text) (piece : Piece) (rest : List Piece) (query : Query) (names : List (List ℕ)) (a b : Option (List (List ℕ))) (e : Ended)
    → pieces text ≡ piece ∷ rest → AcceptsQuery text piece program table query names → Puts a b (IsCounted kind budget limit program names query e) → Puts a b (IsFirstCounted kind budget limit program table text e)
first-counted kind budget limit program table text piece rest query names a b e is accepts puts =
    puts_map a b (IsCounted kind budget limit program names query e) (IsFirstCounted kind budget limit program table text e)
    (λ ls h. record { piece = piece; rest = rest; query = query; names = names; first = is; accepts = accepts; counted = h }) puts

pub single-counted : (kind : Kind) (budget limit : ℕ) (bytes text : Text) (program : Program) (table : List (List ℕ)) (a b : Option (List (List ℕ))) (r : Result (Option Ended) Halt) → AcceptsProgram bytes fixed_names program table
    → IfOk r (λ o. IfSome o (λ e. Puts a b (IsFirstCounted kind budget limit program table text e))) → IfOk r (λ o. IfSome o (λ e. Puts a b (IsSingleCounted kind budget limit bytes text e)))
single-counted kind budget limit bytes text program table a b (Err h) accepts puts = tt
single-counted kind budget limit bytes text program table a b (Ok None) accepts puts = tt
single-counted kind budget limit bytes text program table a b (Ok (Some e)) accepts puts =
    puts_map a b (IsFirstCounted kind budget limit program table text e) (IsSingleCounted kind budget limit bytes text e) (λ ls h. record { program = program; table = table; accepts = accepts; first = h }) puts
