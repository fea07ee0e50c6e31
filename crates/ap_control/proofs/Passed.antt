-- Clauses that are passed over.
use Rattle.std.proofs.Common.{◌≡◌, ℕ, ◌≤◌, List, [], ◌∷◌, ◌++◌, length, Option, Some, subst, ap, sym, ◌∙◌, append_assoc, length-append, arith}
use Rattle.std.specs.List.{AllByRecursion}
use Rattle.ap_cells.specs.declared.cells.Raw.{Raw}
use Rattle.ap_instr.specs.Code.{Compiled}
use Rattle.ap_standing.specs.Machine.{places_from}
use Rattle.ap_control.specs.declared.choosing.Chosen.{Chosen}
use Rattle.ap_control.specs.declared.choosing.Chosen.TheVariants.{Only, First}
use Rattle.ap_control.specs.Heads.{IsShut, PassesOver}
use Rattle.ap_control.specs.declared.choosing.Left.{Left}
use Rattle.ap_control.specs.Choosing.{IsChosen, left_places}

module _ (code : Compiled) (cs : List Raw) (x : ℕ → ℕ) where
  pub passes-none : (ls rest : List ℕ) → ls ≡ rest → PassesOver code cs x ls rest
  passes-none ls rest e = record { passed = []; are = e; shut = tt }

  -- the first clause can't be entered
  pub passes-one : (ls rest : List ℕ) (l : ℕ) → ls ≡ l ∷ rest → IsShut code cs x l → PassesOver code cs x ls rest
  passes-one ls rest l e s = record { passed = l ∷ []; are = e; shut = (s, tt) }

  all-of : (ks ls : List ℕ) → AllByRecursion (IsShut code cs x) ks → AllByRecursion (IsShut code cs x) ls → AllByRecursion (IsShut code cs x) (ks ++ ls)
  all-of [] ls h g = g
  all-of (k ∷ ks) ls h g = (h.0, all-of ks ls h.1 g)

  -- and those behind it
  pub passes-then : (ls rest more : List ℕ) → PassesOver code cs x ls rest → PassesOver code cs x rest more → PassesOver code cs x ls more
  passes-then ls rest more h g = record {
    passed = h.passed ++ g.passed;
    are = h.are ∙ ap (λ us. h.passed ++ us) g.are ∙ sym (append_assoc h.passed g.passed more);
    shut = all-of h.passed g.passed h.shut g.shut;
  }

  pub passes-shorter : (ls rest : List ℕ) → PassesOver code cs x ls rest → length rest ≤ length ls
  passes-shorter ls rest h = omega (arith, ap length h.are, length-append h.passed rest)

  -- a clause is left, and those behind it
  pub passes-left : (ls : List ℕ) (l : Left) (place : ℕ) (behind : Option ℕ) → l.possible.alternative.place ≡ place → l.possible.alternative.behind ≡ behind
      → PassesOver code cs x ls (place ∷ places_from code behind) → PassesOver code cs x ls (left_places code (Some l))
  passes-left ls l place behind e f h =
      subst (λ p. PassesOver code cs x ls (p ∷ places_from code l.possible.alternative.behind)) (sym e)
      (subst (λ b. PassesOver code cs x ls (place ∷ places_from code b)) (sym f) h)

  -- what is chosen of those that are left is chosen of all
  pub chosen-then : (n : ℕ) (all ls : List ℕ) (c : Chosen) → PassesOver code cs x all ls → IsChosen code cs x n ls c → IsChosen code cs x n all c
  chosen-then n all ls (Only one) h k = record { behind = k.behind; first = passes-then all ls (one ∷ k.behind) h k.first; next = k.next }
  chosen-then n all ls (First a p) h k = record { first = passes-then all ls (a.place ∷ places_from code a.behind) h k.first; next = k.next; sure = k.sure }
