-- Clauses that ask for other keys than two arguments have.
use Rattle.std.proofs.Common.{ℕ, List, [], ◌∷◌, inl, inr, sym, append-nil}
use Rattle.std.specs.List.{AllByRecursion}
use Rattle.ap_term.specs.Tree.{Tree}
use Rattle.ap_cells.specs.declared.cells.Raw.{Raw}
use Rattle.ap_instr.specs.Code.{Compiled}
use Rattle.ap_index.specs.declared.key.Key.{Key}
use Rattle.ap_index.specs.declared.row.Pair.{Pair}
use Rattle.ap_index.specs.declared.row.Pair.TheVariants.{Never, Only, Open}
use Rattle.ap_index.specs.Keys.{IsKeyOf}
use Rattle.ap_index.specs.Pairs.{AsksOtherOf, AsksOtherPair, IsPairOf}
use Rattle.ap_match.specs.Fits.{Fits}
use Rattle.ap_control.specs.Heads.{IsShut, PassesOver}
use Rattle.ap_control.specs.Choosing.{IsPairTold}
use Rattle.ap_control.proofs.Keys.{clash}

-- a clause that asks for another key than an argument has
shut-asking : (code : Compiled) (cs : List Raw) (x : ℕ → ℕ) (argument : ℕ) (key : Key) (at : ℕ) → ((k : ℕ → Tree) → Fits cs k → IsKeyOf key (k (x argument))) → AsksOtherOf code argument key at → IsShut code cs x at
shut-asking code cs x argument key at held h = λ y k bs asked. clash h.asked key (k (x argument)) h.other (h.needed (λ w. k (x w)) (λ w. k (y w)) bs asked.1).0 (held k asked.0)

module _ (code : Compiled) (cs : List Raw) (x : ℕ → ℕ) (argument : ℕ) (one two : Key) (first : (k : ℕ → Tree) → Fits cs k → IsKeyOf one (k (x 1))) (second : (k : ℕ → Tree) → Fits cs k → IsKeyOf two (k (x argument))) where
  shut : (at : ℕ) → AsksOtherPair code argument one two at → IsShut code cs x at
  shut at (inl h) = shut-asking code cs x 1 one at first h
  shut at (inr h) = shut-asking code cs x argument two at second h

  all-shut : (ls : List ℕ) → AllByRecursion (AsksOtherPair code argument one two) ls → AllByRecursion (IsShut code cs x) ls
  all-shut [] h = tt
  all-shut (l ∷ ls) h = (shut l h.0, all-shut ls h.1)

  all-passed : (ls : List ℕ) → AllByRecursion (AsksOtherPair code argument one two) ls → PassesOver code cs x ls []
  all-passed ls h = record { passed = ls; are = sym (append-nil ls); shut = all-shut ls h }

  pub pair-told : (ls : List ℕ) (p : Pair) → IsPairOf code argument one two ls p → IsPairTold code cs x ls p
  pair-told ls Never h = all-passed ls h
  pair-told ls (Only at) h = record {
    behind = h.behind;
    first = record { passed = h.before; are = h.are; shut = all-shut h.before h.others_before };
    next = all-passed h.behind h.others_behind;
  }
  pair-told ls Open h = tt
