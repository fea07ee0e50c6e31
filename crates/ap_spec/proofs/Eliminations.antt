-- Equations, one after another.
use Rattle.std.proofs.Common.{◌≡◌, ℕ, zero, suc, ◌-◌, ◌<◌, Bool, true, false, [], ◌∷◌, ◌++◌, append_assoc, append-nil, if◌then◌else◌, Option, Some, None, option_and_then, option_map, refl, ap, sym, ◌∙◌, arith}
use Rattle.ap_term.specs.Tree.{Tree}
use Rattle.ap_term.specs.Vars.{occurs}
use Rattle.ap_term.specs.Substitution.{instance, Subst, value, one}
use Rattle.ap_term.specs.Unification.{Equations, replaced_by, grown, solve}
use Rattle.ap_spec.specs.Elimination.{eliminated, resolved}

-- ---- the two halves of a solution

abbrev pub solution_of : Equations → Subst
solution_of es = resolved es []

solve-halves_turn : (n : ℕ) (e : ℕ × Tree) (o : Option Equations) → ((ds : Equations) → solve n ds ≡ option_map solution_of (eliminated n ds))
    → option_and_then (λ ds. option_map (grown e) (solve n ds)) o ≡ option_map solution_of (option_and_then (λ ds. option_map (λ bs. e ∷ bs) (eliminated n ds)) o)
solve-halves_turn n e None ih = refl
solve-halves_turn n e (Some ds) ih = ap (option_map (grown e)) (ih ds) ∙ both_ways (eliminated n ds)
  where
    both_ways : (o : Option Equations) → option_map (grown e) (option_map solution_of o) ≡ option_map solution_of (option_map (λ bs. e ∷ bs) o)
    both_ways None = refl
    both_ways (Some bs) = refl

pub solve-halves : (n : ℕ) (es : Equations) → solve n es ≡ option_map solution_of (eliminated n es)
solve-halves zero [] = refl
solve-halves zero (e ∷ es) = refl
solve-halves (suc n) [] = refl
solve-halves (suc n) (e ∷ es) = go (occurs e.0 e.1) (solve-halves_turn n e (replaced_by (value (one e.0 e.1)) es) (solve-halves n))
  where
    go : (b : Bool) → option_and_then (λ ds. option_map (grown e) (solve n ds)) (replaced_by (value (one e.0 e.1)) es)
        ≡ option_map solution_of (option_and_then (λ ds. option_map (λ bs. e ∷ bs) (eliminated n ds)) (replaced_by (value (one e.0 e.1)) es))
        → (if b then None else option_and_then (λ ds. option_map (grown e) (solve n ds)) (replaced_by (value (one e.0 e.1)) es))
        ≡ option_map solution_of (if b then None else option_and_then (λ ds. option_map (λ bs. e ∷ bs) (eliminated n ds)) (replaced_by (value (one e.0 e.1)) es))
    go true h = refl
    go false h = h

-- ---- the loops

pub eliminated-done : (n : ℕ) → eliminated n [] ≡ Some []
eliminated-done zero = refl
eliminated-done (suc n) = refl

eliminated-turn : (n : ℕ) (e : ℕ × Tree) (es : Equations) → 0 < n → occurs e.0 e.1 ≡ false
    → eliminated n (e ∷ es) ≡ option_and_then (λ ds. option_map (λ bs. e ∷ bs) (eliminated (n - 1) ds)) (replaced_by (value (one e.0 e.1)) es)
eliminated-turn zero e es lt h = absurd (omega arith)
eliminated-turn (suc n) e es lt h =
    let k : n ≡ suc n - 1 = omega arith in
    ap (λ b. if b then None else option_and_then (λ ds. option_map (λ bs. e ∷ bs) (eliminated n ds)) (replaced_by (value (one e.0 e.1)) es)) h
    ∙ ap (λ m. option_and_then (λ ds. option_map (λ bs. e ∷ bs) (eliminated m ds)) (replaced_by (value (one e.0 e.1)) es)) k

-- with the equations so far before those that come
abbrev pub behind : Equations → Option Equations → Option Equations
behind bound o = option_map (λ bs. bound ++ bs) o

behind-push : (bound : Equations) (e : ℕ × Tree) (o : Option Equations) → behind bound (option_map (λ bs. e ∷ bs) o) ≡ behind (bound ++ e ∷ []) o
behind-push bound e None = refl
behind-push bound e (Some bs) = ap Some (sym (append_assoc bound (e ∷ []) bs))

pub behind-done : (bound : Equations) (n : ℕ) (all : Option Equations) → behind bound (eliminated n []) ≡ all → Some bound ≡ all
behind-done bound n all h = ap Some (sym (append-nil bound)) ∙ ap (behind bound) (sym (eliminated-done n)) ∙ h

-- the first equation leads to the others, or to a clash
pub behind-turn : (bound : Equations) (n : ℕ) (e : ℕ × Tree) (es : Equations) (next : Equations) (all : Option Equations) → 0 < n → occurs e.0 e.1 ≡ false
    → Some next ≡ replaced_by (value (one e.0 e.1)) es → behind bound (eliminated n (e ∷ es)) ≡ all → behind (bound ++ e ∷ []) (eliminated (n - 1) next) ≡ all
behind-turn bound n e es next all lt h r k =
    sym (behind-push bound e (eliminated (n - 1) next))
    ∙ ap (λ o. behind bound (option_and_then (λ ds. option_map (λ bs. e ∷ bs) (eliminated (n - 1) ds)) o)) r
    ∙ ap (behind bound) (sym (eliminated-turn n e es lt h)) ∙ k

-- the last equation is resolved first
pub resolved-push : (es : Equations) (e : ℕ × Tree) (s : Subst) → resolved (es ++ e ∷ []) s ≡ resolved es (grown e s)
resolved-push [] e s = refl
resolved-push (d ∷ es) e s = ap (grown d) (resolved-push es e s)

pub resolved-turn : (all rest : Equations) (e : ℕ × Tree) (s new whole : Subst) (t : Tree) → all ≡ rest ++ e ∷ [] → t ≡ instance (value s) e.1 → new ≡ (e.0, t) ∷ s
    → resolved all s ≡ whole → resolved rest new ≡ whole
resolved-turn all rest e s new whole t is k n h =
    ap (resolved rest) (n ∙ ap (λ u. (e.0, u) ∷ s) k) ∙ sym (resolved-push rest e s) ∙ ap (λ es. resolved es s) (sym is) ∙ h

pub resolved-done : (es : Equations) (s whole : Subst) → es ≡ [] → resolved es s ≡ whole → s ≡ whole
resolved-done es s whole e h = ap (λ ds. resolved ds s) (sym e) ∙ h

-- equations that came apart, and their solution
pub solution-found : (n m : ℕ) (es bound : Equations) (o : Option Equations) (s : Subst) → Some es ≡ o → m ≡ n → Some bound ≡ eliminated n es → s ≡ resolved bound []
    → Some s ≡ option_and_then (solve m) o
solution-found n m es bound o s e k b r =
    ap Some r ∙ ap (option_map solution_of) b ∙ sym (solve-halves n es) ∙ ap (λ j. solve j es) (sym k) ∙ ap (option_and_then (solve m)) e

pub solution-none : (n m : ℕ) (es : Equations) (o : Option Equations) → Some es ≡ o → m ≡ n → None ≡ eliminated n es → None ≡ option_and_then (solve m) o
solution-none n m es o e k b = ap (option_map solution_of) b ∙ sym (solve-halves n es) ∙ ap (λ j. solve j es) (sym k) ∙ ap (option_and_then (solve m)) e
