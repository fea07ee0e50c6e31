-- A clause's variables are numbered anew, each with a number of its own.
use Rattle.std.proofs.Common.{◌≡◌, ℕ, ◌+◌, ◌≤◌, ◌||◌, Bool, true, false, nat_eq, if◌then◌else◌, List, [], ◌∷◌, length, subst, arith}
use Rattle.std.proofs.lemmas.Bool.{false≢true}
use Rattle.ap_lexer.specs.Lexeme.{Text}
use Rattle.ap_term.specs.Vars.{has}
use Rattle.ap_term.specs.UpToNames.{place}
use Rattle.ap_term.specs.Goals.{Clause}
use Rattle.ap_term.proofs.WellFormed.{in_range-true}
use Rattle.ap_writer.proofs.Renamed.{place_apart}
use Rattle.ap_readback.specs.Readback.{line_vars, IsPrintable}
use Rattle.ap_readback.specs.Renumbering.{Renumbers}
use Rattle.ap_readback.proofs.Counts.{vars-counted}

place-within : (found : List ℕ) (x : ℕ) → has found x ≡ true → (1 ≤ place found x) × (place found x ≤ length found)
place-within [] x h = absurd (false≢true h)
place-within (y ∷ ys) x h = go (nat_eq y x) h (place-within ys x)
  where
    go : (b : Bool) → (b || has ys x) ≡ true → (has ys x ≡ true → (1 ≤ place ys x) × (place ys x ≤ length ys)) → (1 ≤ (if b then 1 else place ys x + 1)) × ((if b then 1 else place ys x + 1) ≤ length (y ∷ ys))
    go true h ih = (omega arith, omega arith)
    go false h ih = let k = ih h in (omega arith, omega (arith, k.1))

pub renumbers : (names : List Text) (c : Clause) → IsPrintable names c → Renumbers c.vars (place (line_vars names c))
renumbers names c h =
    let found : List ℕ = line_vars names c in
    record {
      within = λ x k. let w = place-within found x (h.all x k) in in_range-true c.vars (place found x) w.0 (subst (λ n. place found x ≤ n) (vars-counted names c h.clause h.all) w.1);
      apart = λ x y k l e. place_apart found x y (h.all x k) (h.all y l) e;
    }
