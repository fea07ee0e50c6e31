-- A query's block as its answers are printed, and then its end line.
use Rattle.std.proofs.Common.{◌≡◌, ℕ, Bool, List, [], ◌∷◌, ◌++◌, Option, Result, Err, refl, sym, ◌∙◌, ap, append-nil, subst, inl, inr}
use Rattle.ap_outside.specs.Pieces.{Puts}
use Rattle.ap_outside.specs.Halting.{Finishes, Prints}
use Rattle.ap_outside.specs.declared.halting.Halt.{Halt}
use Rattle.ap_outside.proofs.Puts.{adds_nothing, puts_then}
use Rattle.ap_outside.proofs.Halts.{passes_on}
use Rattle.ap_term.specs.Goals.{Program, Query}
use Rattle.ap_worker.specs.declared.emission.Ended.{Ended}
use Rattle.ap_worker.specs.Ends.{end_of}
use Rattle.ap_top.specs.Output.{end_line, is_spent, AreAnswers, IsQueryBlock}

module _ (budget limit : ℕ) (program : Program) (table : List (List ℕ)) (query : Query) where
  -- the answers' lines that go with an end
  abbrev pub Solved : Ended → List (List ℕ) → Type 0
  Solved = AreAnswers budget limit program table query

  whole : (ended : Ended) (ps qs : List (List ℕ)) (line : List ℕ) (spent : Bool) → line ≡ end_line (end_of ended.end) → spent ≡ is_spent (end_of ended.end) → Solved ended ps → qs ≡ line ∷ []
      → IsQueryBlock budget limit program table query spent (ps ++ qs)
  whole ended ps qs line spent e s p q =
      (ps, end_of ended.end, ap (λ xs. ps ++ xs) (q ∙ ap (λ x. x ∷ []) e), s, p)

  pub query_puts : (ended : Ended) (a b c : Option (List (List ℕ))) (line : List ℕ) (spent : Bool) → line ≡ end_line (end_of ended.end) → spent ≡ is_spent (end_of ended.end) → Puts a b (Solved ended) → Puts b c (λ ps. ps ≡ line ∷ [])
      → Puts a c (IsQueryBlock budget limit program table query spent)
  query_puts ended a b c line spent e s f g =
      puts_then a b c (Solved ended) (λ ps. ps ≡ line ∷ []) (IsQueryBlock budget limit program table query spent) (λ ps qs p q. whole ended ps qs line spent e s p q) f g

  -- the answers broke off
  pub answers_halt : (a b : Option (List (List ℕ))) (r : Result Ended Halt) (q : Result Bool Halt) (e : Halt) → r ≡ Err e → q ≡ Err e → Finishes a b Solved r
      → Finishes a b (IsQueryBlock budget limit program table query) q
  answers_halt a b r q e was same put =
      passes_on {T = Ended} {U = Bool} (λ ps. ps ≡ []) Solved (IsQueryBlock budget limit program table query)
      (λ ps qs none any.
      let line = end_line (end_of any.0.end) in
      let spent = is_spent (end_of any.0.end) in
      (line ∷ [], (spent, subst (λ xs. IsQueryBlock budget limit program table query spent ((xs ++ qs) ++ line ∷ [])) (sym none) (whole any.0 qs (line ∷ []) line spent refl refl any.1 refl))))
      (λ ps none. inl none) a a b r q e was same ([], adds_nothing a, refl) put

  -- the end line broke off
  pub end_halts : (ended : Ended) (a b c : Option (List (List ℕ))) (line : List ℕ) (r : Result (Unit {0}) Halt) (q : Result Bool Halt) (e : Halt) → line ≡ end_line (end_of ended.end) → r ≡ Err e → q ≡ Err e
      → Puts a b (Solved ended) → Prints b c (λ put. put ≡ line ∷ []) r → Finishes a c (IsQueryBlock budget limit program table query) q
  end_halts ended a b c line r q e is was same before put =
      passes_on {T = Unit {0}} {U = Bool} (Solved ended) (λ _ put. put ≡ line ∷ []) (IsQueryBlock budget limit program table query)
      (λ ps qs p any. ([], (is_spent (end_of ended.end), subst (IsQueryBlock budget limit program table query (is_spent (end_of ended.end))) (sym (append-nil (ps ++ qs))) (whole ended ps qs line (is_spent (end_of ended.end)) is refl p any.1))))
      (λ ps p. inr (line ∷ [], (is_spent (end_of ended.end), whole ended ps (line ∷ []) line (is_spent (end_of ended.end)) is refl p refl))) a b c r q e was same before put
