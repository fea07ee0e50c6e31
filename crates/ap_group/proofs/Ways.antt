-- The way through a group, one instruction behind another.
use Rattle.std.proofs.Common.{◌≡◌, ℕ, zero, suc, ◌+◌, ◌<◌, ◌≤◌, List, [], ◌∷◌, ◌++◌, length, take, drop, slice_get, Option, Some, refl, ap, ap₂, sym, ◌∙◌, subst, arith}
use Rattle.std.specs.List.{AllByRecursion}
use Rattle.std.proofs.lemmas.List.{drop_more}
use Rattle.ap_cells.specs.declared.cells.Raw.{Raw}
use Rattle.ap_cells.specs.Walks.{Each}
use Rattle.ap_cells.specs.Store.{Store, freed, IsMark, Keeps}
use Rattle.ap_cells.proofs.Stores.{Keeps-trans}
use Rattle.ap_instr.specs.declared.instruction.Instr.{Instr}
use Rattle.ap_instr.specs.declared.instruction.Instr.TheVariants.{PushGoal, WaitAll}
use Rattle.ap_instr.specs.declared.compiled.Predicate.{Predicate}
use Rattle.ap_instr.specs.Code.{Compiled}
use Rattle.ap_instr.specs.Step.{step_of, with_predicate, group, push, other}
use Rattle.ap_instr.specs.Steps.{steps_from, skipped}
use Rattle.ap_instr.proofs.Steps.{steps_law}
use Rattle.ap_steps.specs.Moves.{held, HoldPlaces, IsStuck}
use Rattle.ap_control.specs.Runs.{Ran, RanOrStuck}
use Rattle.ap_group.specs.declared.gathering.Turn.TheVariants.{On, End}
use Rattle.ap_group.specs.Groups.{Pushed}
use Rattle.ap_group.specs.Gathers.{Passes, Gathers, pushes, moves, places_from, IsGathered}
use Rattle.ap_group.specs.Turns.{IsKnown, IsInside, AreReady, TurnsTo, ArePushed, AreCutOff}

-- ---- places of arguments

pub places-slice : (xs : List ℕ) (a n : ℕ) → a + n ≤ length xs → places_from (held xs) a n ≡ take n (drop a xs)
places-slice xs a zero l = refl
places-slice xs a (suc n) l = ap (λ rs. held xs a ∷ rs) (places-slice xs (a + 1) n (omega arith)) ∙ sym (ap (take (suc n)) (drop_more xs a 0 (omega arith)))

pub places-count : (x : ℕ → ℕ) (a n : ℕ) → length (places_from x a n) ≡ n
places-count x a zero = refl
places-count x a (suc n) = ap suc (places-count x (a + 1) n)

pub places-inside : (m : ℕ) (x : ℕ → ℕ) (a n : ℕ) → ((w : ℕ) → x w < m) → Each (λ r. r < m) (places_from x a n)
places-inside m x a zero h = tt
places-inside m x a (suc n) h = (h a, places-inside m x (a + 1) n h)

-- ---- goals

all-behind : {X : Type 0} (P : X → Type 0) (xs : List X) (x : X) → AllByRecursion P xs → P x → AllByRecursion P (xs ++ x ∷ [])
all-behind P [] x h p = (p, tt)
all-behind P (y ∷ ys) x h p = (h.0, all-behind P ys x h.1 p)

inside-more : (n m : ℕ) → n ≤ m → (ps : List Pushed) → AllByRecursion (IsInside n) ps → AllByRecursion (IsInside m) ps
inside-more n m l [] h = tt
inside-more n m l (p ∷ ps) h = (go p.arguments h.0, inside-more n m l ps h.1)
  where
    go : (rs : List ℕ) → Each (λ r. r < n) rs → Each (λ r. r < m) rs
    go [] g = tt
    go (r ∷ rs) g = (omega (arith, g.0), go rs g.1)

pub ready-none : (code : Compiled) (n : ℕ) → AreReady code n []
ready-none code n = record { known = tt; inside = tt }

pub ready-more : (code : Compiled) (n m : ℕ) (ps : List Pushed) → n ≤ m → AreReady code n ps → AreReady code m ps
ready-more code n m ps l h = record { known = h.known; inside = inside-more n m l ps h.inside }

-- one more goal, on the first registers
pub ready-pushed : (code : Compiled) (n : ℕ) (x : List ℕ) (number : ℕ) (q : Predicate) (ps qs : List Pushed) → HoldPlaces n x → slice_get code.predicates number ≡ Some q
    → qs ≡ ps ++ record { predicate = number; arguments = places_from (held x) 1 q.arity } ∷ [] → AreReady code n ps → AreReady code n qs
ready-pushed code n x number q ps qs h e same r =
    let p : Pushed = record { predicate = number; arguments = places_from (held x) 1 q.arity } in
    subst (AreReady code n) (sym same) (record {
      known = all-behind (IsKnown code) ps p r.known (q, e, places-count (held x) 1 q.arity);
      inside = all-behind (IsInside n) ps p r.inside (places-inside n (held x) 1 q.arity h);
    })

-- ---- instructions

-- the steps of a place, where the code goes on behind its instruction
pub steps-on : (code : Compiled) (at : ℕ) (i : Instr) → slice_get code.instructions at ≡ Some i → skipped i at ≡ 0 → steps_from code at ≡ step_of code i ∷ steps_from code (at + 1)
steps-on code at i e s = steps_law code at i e ∙ ap (λ m. step_of code i ∷ steps_from code m) (let q : at + 1 + skipped i at ≡ at + 1 = omega arith in q)

-- the end of a group, whose goals were pushed, and its checks
pub gathered : (code : Compiled) (at from to count : ℕ) (cs ds : List Raw) (x y x' y' : List ℕ) (ps : List Pushed) → Passes cs (held x) (held y) (steps_from code at) (group count ∷ steps_from code from)
    → ArePushed code from cs x y to ds x' y' ps → length ps ≡ count → IsGathered code at cs x y to ds x' y' ps
gathered code at from to count cs ds x y x' y' ps p g n = record {
  behind = steps_from code from;
  passes = subst (λ m. Passes cs (held x) (held y) (steps_from code at) (group m ∷ steps_from code from)) (sym n) p;
  gathers = subst (λ is. Gathers code cs (held x) (held y) (steps_from code from) ds (held x') (held y') is ps) (steps-on code to WaitAll g.ends refl) g.gathers;
}

-- a run on the way, and an instruction behind it
module _ (code : Compiled) (from place to : ℕ) (cs ds es : List Raw) (x y x' y' x'' y'' : List ℕ) (ps : List Pushed)
    (g : Gathers code cs (held x) (held y) (steps_from code from) ds (held x') (held y') (steps_from code place) ps) (r : Ran code place ds x' y' to es x'' y'') where
  pub ran : Gathers code cs (held x) (held y) (steps_from code from) es (held x'') (held y'') (steps_from code to) ps
  ran = moves g r.moves r.openly

  module _ (i : Instr) (e : slice_get code.instructions to ≡ Some i) where
    pub on : (qs : List Pushed) → TurnsTo code i x'' ps On qs → Gathers code cs (held x) (held y) (steps_from code from) es (held x'') (held y'') (steps_from code (to + 1)) qs
    on qs t =
        let number = t.1 in
        let q = t.3.0 in
        let f : slice_get code.instructions to ≡ Some (PushGoal t.0 number) = e ∙ ap Some t.2 in
        let s : steps_from code to ≡ push q.name q.arity ∷ steps_from code (to + 1) = steps-on code to (PushGoal t.0 number) f refl ∙ ap (λ o. with_predicate o push ∷ steps_from code (to + 1)) t.3.1 in
        subst (Gathers code cs (held x) (held y) (steps_from code from) es (held x'') (held y'') (steps_from code (to + 1))) (sym t.3.2)
        (pushes number q (subst (λ is. Gathers code cs (held x) (held y) (steps_from code from) es (held x'') (held y'') is ps) s ran) t.3.1 r.holds_x)

    pub on-ready : (qs : List Pushed) → TurnsTo code i x'' ps On qs → AreReady code (length ds) ps → AreReady code (length es) qs
    on-ready qs t h = ready-pushed code (length es) x'' t.1 t.3.0 ps qs r.holds_x t.3.1 t.3.2 (ready-more code (length ds) (length es) ps r.moves.longer h)

    pub at-end : (qs : List Pushed) → TurnsTo code i x'' ps End qs → AreReady code (length ds) ps → ArePushed code from cs x y to es x'' y'' qs
    at-end qs t h = record {
      gathers = subst (Gathers code cs (held x) (held y) (steps_from code from) es (held x'') (held y'') (steps_from code to)) (sym t.1) ran;
      ends = e ∙ ap Some t.0;
      ready = subst (AreReady code (length es)) (sym t.1) (ready-more code (length ds) (length es) ps r.moves.longer h);
      holds_x = r.holds_x;
      holds_y = r.holds_y;
    }

    pub stuck-there : step_of code i ≡ other → AreCutOff code from cs x y
    stuck-there t = record {
      cells = es;
      there_x = held x'';
      there_y = held y'';
      steps = steps_from code to;
      goals = ps;
      gathers = ran;
      stuck = subst (IsStuck es (held x'') (held y'')) (sym (steps_law code to i e ∙ ap (λ j. j ∷ steps_from code (to + 1 + skipped i to)) t)) (λ k bs h. h.1);
    }

-- ---- as they stand in the code

pub as-ran : (kode code : Compiled) (place : ℕ) (cs ds es : List Raw) (x y x' y' : List ℕ) (o : Option ℕ) (to : ℕ) → kode ≡ code → ds ≡ cs → o ≡ Some to → RanOrStuck kode place ds x y o es x' y' → Ran code place cs x y to es x' y'
as-ran kode code place cs ds es x y x' y' o to same cells is h =
    subst (λ p. RanOrStuck code place cs x y p es x' y') is (subst (λ us. RanOrStuck code place us x y o es x' y') cells (subst (λ k. RanOrStuck k place ds x y o es x' y') same h))

-- a store with other spare cells, and what is run in it
pub kept : (u v v' w : Store) → Keeps u v → v'.cells ≡ v.cells → v'.trail ≡ v.trail → Keeps v' w → Keeps u w
kept u v v' w k ec et l = Keeps-trans u v w k (Keeps-trans v v' w (record {
  stays = λ n t m. subst (λ cs. IsMark cs v'.trail n t) (sym ec) (subst (λ tr. IsMark v.cells tr n t) (sym et) m);
  leads = λ n t m. ap₂ (λ cs tr. take n (freed (drop t tr) cs)) ec et;
}) l)
