-- Rows of goals: nothing is lifted from them, and their parts are themselves.
use Rattle.std.proofs.Common.{◌≡◌, ℕ, ◌+◌, Bool, true, false, ◌&&◌, List, [], ◌∷◌, ◌++◌, length, Option, refl, ap, sym, ◌∙◌, subst, arith}
use Rattle.std.specs.Prelude.{IsTrue, ◌↔◌}
use Rattle.std.specs.List.{list_all}
use Rattle.ap_term.specs.declared.clauses.Check.{Check}
use Rattle.ap_term.specs.Goals.{Part, call, group}
use Rattle.ap_term.specs.Tree.{Tree}
use Rattle.ap_term.specs.WellFormed.{callable, numbered, well_formed_part, IsClause}
use Rattle.ap_lifting.specs.Body.{Body, well_formed}
use Rattle.ap_lifting.specs.Rule.{IsRule, well_formed_if}
use Rattle.ap_lifting.specs.Row.{is_call, row_body, row_if}
use Rattle.ap_lifting.specs.Lifted.{Lifted, in_turn, lifted, lifted_if}
use Rattle.ap_lifting.specs.Sizes.{measured, measured_if, row, one_goal, one_after_other}

no_group : {A : Type 0} (cs : List Check) (ts : _) (ps : List Part) → list_all is_call (group cs ts ∷ ps) ≡ true → A
no_group cs ts ps h = absurd (clash h)
  where
    clash : false ≡ true → ⊥
    clash k = cc

-- the parts, and nothing that was lifted
abbrev pub only : List Part → ℕ → Lifted
only ps n = record { parts = ps; next = n; clauses = [] }

lifted-row_body : (names : ℕ → ℕ) (vars line : ℕ) (p : Part) (ps : List Part) (cs : List Check) (n : ℕ) → list_all is_call (p ∷ ps) ≡ true
    → lifted names vars line (row_body p ps) cs n ≡ only (p ∷ ps) n
lifted-row_body names vars line (group ds ts) ps cs n h = no_group ds ts ps h
lifted-row_body names vars line (call t) [] cs n h = refl
lifted-row_body names vars line (call t) (q ∷ ps) cs n h = ap (in_turn (only (call t ∷ []) n)) (lifted-row_body names vars line q ps [] n h)

pub lifted_if-row_if : (names : ℕ → ℕ) (vars line : ℕ) (ps : List Part) (n : ℕ) → list_all is_call ps ≡ true → lifted_if names vars line (row_if ps) n ≡ only ps n
lifted_if-row_if names vars line [] n h = refl
lifted_if-row_if names vars line (p ∷ ps) n h = lifted-row_body names vars line p ps [] n h

measured-row_body : (p : Part) (ps : List Part) → measured (row_body p ps) ≡ row (length (p ∷ ps))
measured-row_body p [] = refl
measured-row_body p (q ∷ ps) = ap (one_after_other one_goal) (measured-row_body q ps) ∙ ap row (omega arith)

pub measured_if-row_if : (ps : List Part) → measured_if (row_if ps) ≡ row (length ps)
measured_if-row_if [] = refl
measured_if-row_if (p ∷ ps) = measured-row_body p ps

well_formed-row_body : (n : ℕ) (p : Part) (ps : List Part) → list_all is_call (p ∷ ps) ≡ true → (well_formed n (row_body p ps) && true) ≡ list_all (well_formed_part n) (p ∷ ps)
well_formed-row_body n (group ds ts) ps h = no_group ds ts ps h
well_formed-row_body n (call t) [] h = refl
well_formed-row_body n (call t) (q ∷ ps) h = of (callable t && numbered n t) (well_formed-row_body n q ps h)
  where
    of : (b : Bool) → (well_formed n (row_body q ps) && true) ≡ list_all (well_formed_part n) (q ∷ ps) → ((b && well_formed n (row_body q ps)) && true) ≡ (b && list_all (well_formed_part n) (q ∷ ps))
    of true k = k
    of false k = refl

and_true : (b : Bool) → (b && true) ≡ b
and_true true = refl
and_true false = refl

pub well_formed_if-row_if : (n : ℕ) (ps : List Part) → list_all is_call ps ≡ true → well_formed_if n (row_if ps) ≡ list_all (well_formed_part n) ps
well_formed_if-row_if n [] h = refl
well_formed_if-row_if n (p ∷ ps) h = sym (and_true (well_formed n (row_body p ps))) ∙ well_formed-row_body n p ps h

-- what is tested of a clause with the same parts
pub row_rule : {P : Type 0} (h : Tree) (ps qs : List Part) (b : Option Body) (vars line : ℕ) → list_all is_call ps ≡ true → b ≡ row_if ps → qs ≡ ps
    → (P ↔ IsClause (record { head = h; body = qs; vars = vars; line = line })) → P ↔ IsRule (record { head = h; body = b; vars = vars; line = line })
row_rule h ps qs b vars line calls e f both =
    let same : well_formed_if vars b ≡ list_all (well_formed_part vars) qs
    = ap (well_formed_if vars) e ∙ well_formed_if-row_if vars ps calls ∙ ap (list_all (well_formed_part vars)) (sym f)
    in (
      λ p. let c = both.0 p in record { few = c.few; head = c.head; body = subst (λ v. IsTrue v) (sym same) c.body },
      λ r. both.1 (record { few = r.few; head = r.head; body = subst (λ v. IsTrue v) same r.body }),
    )
