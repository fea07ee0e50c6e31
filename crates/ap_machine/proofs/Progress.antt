-- Moves and turns, one behind another.
use Rattle.std.proofs.Common.{◌≡◌, ℕ, zero, suc, ◌+◌, ◌-◌, ◌<◌, ◌≤◌, List, [], ◌∷◌, ◌++◌, length, drop, refl, sym, ◌∙◌, subst, arith}
use Rattle.std.specs.List.{AllByRecursion}
use Rattle.ap_term.specs.Goals.{Program}
use Rattle.ap_term.specs.WellFormed.{IsProgram}
use Rattle.ap_tracked.specs.Tracked.{Tracked, children}
use Rattle.ap_instr.specs.Code.{Compiled}
use Rattle.ap_instr.specs.StandsFor.{StandsFor}
use Rattle.ap_needs.specs.Needs.{AllHaveTargets}
use Rattle.ap_standing.specs.Holds.{Turned}
use Rattle.ap_standing.specs.Laws.{IsTurn}
use Rattle.ap_machine.specs.Live.{AreLive, KeepsLive}
use Rattle.ap_machine.specs.View.{Paused, AreLiveAt, IsFor}
use Rattle.ap_machine.specs.Choices.{Stays}
use Rattle.ap_machine.specs.Advanced.{CallsApart, GoesOn, Advanced}

pub Stays-refl : (s : Paused) → Stays s s
Stays-refl s = record { x = refl; y = refl; roots = refl; spent = refl; budget = refl; older = refl }

pub Stays-trans : (s t u : Paused) → Stays s t → Stays t u → Stays s u
Stays-trans s t u h k = record { x = k.x ∙ h.x; y = k.y ∙ h.y; roots = k.roots ∙ h.roots; spent = k.spent ∙ h.spent; budget = k.budget ∙ h.budget; older = k.older ∙ h.older }

-- as many registers
pub as-wide : (code : Compiled) (old new : Paused) → IsFor code old → length new.machine.x ≡ length old.machine.x → length new.machine.y ≡ length old.machine.y → AreLive code new.machine → new.older ≡ old.older → IsFor code new
as-wide code old new f ex ey live same = record {
  targets = λ at. subst (λ n. AllHaveTargets (drop at code.instructions) n (length new.machine.y)) (sym ex) (subst (λ n. AllHaveTargets (drop at code.instructions) (length old.machine.x) n) (sym ey) (f.targets at));
  arities = λ n q e. subst (λ m. q.arity < m) (sym ex) (f.arities n q e);
  live = live;
  older = subst (AllByRecursion (AreLiveAt code)) (sym same) f.older;
}

pub still-for : (code : Compiled) (s t : Paused) → IsFor code s → Stays s t → KeepsLive code s.machine t.machine → IsFor code t
still-for code s t f h live = as-wide code s t f h.x h.y (live f.live) h.older

-- a search that differs in what registers are not, by what it is equal to
pub for-same : (code : Compiled) (s t u : Paused) → s ≡ u → length t.machine.x ≡ length s.machine.x → length t.machine.y ≡ length s.machine.y → KeepsLive code s.machine t.machine → t.older ≡ s.older → IsFor code u → IsFor code t
for-same code s t u e ex ey live same f = let g : IsFor code s = subst (IsFor code) (sym e) f in as-wide code s t g ex ey (live g.live) same

-- ---- turns

Turned-then : (p : Program) (m n : ℕ) (ss ts us : List Tracked) → Turned p m ss ts → Turned p n ts us → Turned p (m + n) ss us
Turned-then p zero n ss ts us h k = subst (λ i. Turned p i ss us) (let q : n ≡ 0 + n = omega arith in q) (subst (λ vs. Turned p n vs us) h k)
Turned-then p (suc m) n [] ts us h k = absurd h
Turned-then p (suc m) n (s ∷ ss) ts us h k =
    subst (λ i. Turned p i (s ∷ ss) us) (let q : suc (m + n) ≡ suc m + n = omega arith in q) (h.0, Turned-then p m n (children p s ++ ss) ts us h.1 k)

pub Advanced-then : (code : Compiled) (r s t : Paused) → Advanced code r s → Advanced code s t → Advanced code r t
Advanced-then code r s t h k = record {
  more = omega arith;
  turned = λ p good stands ss held₁.
      let u = h.turned p good stands ss held₁ in
      let v = k.turned p good stands u.0 u.2 in
      (v.0, subst (λ n. Turned p n ss v.0) sum (Turned-then p (s.spent - r.spent) (t.spent - s.spent) ss u.0 v.0 u.1 v.1), v.2);
  budget = k.budget ∙ h.budget;
  roots = k.roots ∙ h.roots;
  x = k.x ∙ h.x;
  y = k.y ∙ h.y;
  live = λ l. k.live (h.live l);
  older = k.older ∙ h.older;
}
  where
    sum : (s.spent - r.spent) + (t.spent - s.spent) ≡ t.spent - r.spent
    sum = let a : r.spent ≤ s.spent = h.more in let b : s.spent ≤ t.spent = k.more in omega arith

-- code for a program calls only predicates of clauses
pub calls-apart : (code : Compiled) (p : Program) → StandsFor code p → CallsApart code
calls-apart code p stands at n i q here calls known = (stands.calls at n i q here calls known).apart

-- moves that are no calls
pub settled : (code : Compiled) (s t : Paused) → GoesOn code s.machine t.machine → Stays s t → KeepsLive code s.machine t.machine → Advanced code s t
settled code s t keeps h live = record {
  more = let a : t.spent ≡ s.spent = h.spent in omega arith;
  turned = λ p good stands ss k. (ss, subst (λ n. Turned p n ss ss) (let a : t.spent ≡ s.spent = h.spent in let q : 0 ≡ t.spent - s.spent = omega arith in q) refl, keeps (calls-apart code p stands) ss k);
  budget = h.budget;
  roots = h.roots;
  x = h.x;
  y = h.y;
  live = live;
  older = h.older;
}

-- a call, which is counted
pub counted : (code : Compiled) (s t : Paused) → ((p : Program) → IsProgram p → StandsFor code p → IsTurn code p s.machine t.machine) → Stays s t → KeepsLive code s.machine t.machine → Advanced code s (record t { spent = t.spent + 1 })
counted code s t turn h live = record {
  more = let a : t.spent ≡ s.spent = h.spent in omega arith;
  turned = λ p good stands ss k.
      let u = turn p good stands ss k in
      (u.0, subst (λ n. Turned p n ss u.0) one u.1, u.2);
  budget = h.budget;
  roots = h.roots;
  x = h.x;
  y = h.y;
  live = live;
  older = h.older;
}
  where
    one : 1 ≡ (t.spent + 1) - s.spent
    one = let a : t.spent ≡ s.spent = h.spent in omega arith

-- nothing was done
pub stopped : (code : Compiled) (s : Paused) → Advanced code s s
stopped code s = settled code s s (λ a ss h. h) (Stays-refl s) (λ l. l)

-- what came out is what there was
pub unchanged : (code : Compiled) (s t : Paused) → t ≡ s → Advanced code s t
unchanged code s t e = subst (Advanced code s) (sym e) (stopped code s)

pub for-after : (code : Compiled) (s t : Paused) → IsFor code s → Advanced code s t → IsFor code t
for-after code s t f h = as-wide code s t f h.x h.y (h.live f.live) h.older
