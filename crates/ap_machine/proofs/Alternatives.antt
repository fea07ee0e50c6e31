-- Choice points as their search's caller sees them, and what is left of their clauses.
use Rattle.std.proofs.Common.{◌≡◌, ℕ, suc, ◌<◌, List, [], ◌∷◌, ◌++◌, length, take, drop, refl, ap, sym, ◌∙◌, subst, arith}
use Rattle.std.proofs.lemmas.List.{take-append-le, take_all}
use Rattle.std.specs.List.{AllByRecursion}
use Rattle.ap_instr.specs.Code.{Compiled}
use Rattle.ap_steps.specs.Moves.{held, IsStuck}
use Rattle.ap_instr.specs.Steps.{steps_from}
use Rattle.ap_needs.specs.Needs.{AllHaveTargets}
use Rattle.ap_standing.specs.Machine.{Point, Machine}
use Rattle.ap_standing.specs.Holds.{HoldsRest}
use Rattle.ap_standing.proofs.Calls.{skipped}
use Rattle.ap_control.specs.Heads.{IsShut, PassesOver}
use Rattle.ap_machine.specs.Live.{AreLive}
use Rattle.ap_machine.specs.View.{Paused, AreLiveAt, IsFor}
use Rattle.ap_machine.specs.Choices.{Stays, AtNewest, Returned, LeavesOut}
use Rattle.ap_machine.proofs.Progress.{Stays-refl, Stays-trans}

pub Returned-trans : (s t u : Paused) → Returned s t → Returned t u → Returned s u
Returned-trans s t u h k = record { stays = Stays-trans s t u h.stays k.stays; points = k.points ∙ h.points; now = k.now ∙ h.now; at = k.at }

pub IsFor-stays : (code : Compiled) (s t : Paused) → Stays s t → AreLive code t.machine → IsFor code s → IsFor code t
IsFor-stays code s t h live f = record {
  targets = λ at. subst (λ n. AllHaveTargets (drop at code.instructions) n (length t.machine.y)) (sym h.x) (subst (λ n. AllHaveTargets (drop at code.instructions) (length s.machine.x) n) (sym h.y) (f.targets at));
  arities = λ n q e. let l : q.arity < length s.machine.x = f.arities n q e in let k = h.x in omega arith;
  live = live;
  older = subst (AllByRecursion (AreLiveAt code)) (sym h.older) f.older;
}

-- ---- the clauses that are left

pub leaves-all : (code : Compiled) (m : Machine) (ls : List ℕ) → LeavesOut code m ls ls
leaves-all code m ls = record { fewer = omega arith; keeps = λ q qs e ss h. h }

-- the first one that is left can't be taken
pub leaves-stuck : (code : Compiled) (s t : Paused) (ls rest more : List ℕ) (l : ℕ) → Returned s t → AtNewest t.machine → LeavesOut code s.machine ls rest → rest ≡ l ∷ more
    → IsStuck t.machine.cells (held t.machine.x) (held t.machine.y) (steps_from code l) → LeavesOut code s.machine ls more
leaves-stuck code s t ls rest more l back at out e is_stuck = record {
  fewer = let f = out.fewer in let g : length rest ≡ suc (length more) = ap length e in omega arith;
  keeps = λ q qs is ss h.
      let same : at.point ∷ at.others ≡ q ∷ qs = sym at.points ∙ back.points ∙ is in
      let eq : at.point ≡ q = cc in
      skipped code s.machine.roots qs q l more t.machine.x t.machine.y
      (λ n w a b. at.x w ∙ ap (λ (p : Point). held p.arguments w) eq)
      (subst (λ cs. IsStuck cs (held t.machine.x) (held t.machine.y) (steps_from code l)) (at.cells ∙ ap (λ (p : Point). p.cells) eq) is_stuck)
      ss (subst (λ ks. HoldsRest code s.machine.roots q ks qs ss) e (out.keeps q qs is ss h));
}

-- those in front that can't be entered
pub leaves-passed : (code : Compiled) (s t : Paused) (ls rest more : List ℕ) → Returned s t → AtNewest t.machine → LeavesOut code s.machine ls rest
    → PassesOver code t.machine.cells (held t.machine.x) rest more → LeavesOut code s.machine ls more
leaves-passed code s t ls rest more back at out p = go p.passed rest p.are p.shut out
  where
    go : (ks rest : List ℕ) → rest ≡ ks ++ more → AllByRecursion (IsShut code t.machine.cells (held t.machine.x)) ks → LeavesOut code s.machine ls rest → LeavesOut code s.machine ls more
    go [] rest e shut out = subst (LeavesOut code s.machine ls) e out
    go (k ∷ ks) rest e shut out = go ks (ks ++ more) refl shut.1 (leaves-stuck code s t ls rest (ks ++ more) k back at out e (shut.0 (held t.machine.y)))

-- ---- registers that were written through a slice

pub written : {A : Type 0} (n : ℕ) (ys zs : List A) → length ys ≡ n → take n (ys ++ drop (length ys) zs) ≡ ys
written n ys zs e = take-append-le n ys (drop (length ys) zs) (omega arith) ∙ take_all n ys (omega arith)

pub Returned-refl : (s : Paused) → AtNewest s.machine → Returned s s
Returned-refl s at = record { stays = Stays-refl s; points = refl; now = refl; at = at }
