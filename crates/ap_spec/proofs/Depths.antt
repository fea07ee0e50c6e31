-- Search to a depth: what a turn keeps, and that the turns end.
use Rattle.std.proofs.Common.{◌≡◌, ℕ, zero, suc, ◌+◌, ◌-◌, ◌*◌, ◌<◌, ◌≤◌, Bool, true, false, if◌then◌else◌, List, [], ◌∷◌, ◌++◌, append_assoc, append-nil, Option, Some, None, refl, ap, sym, ◌∙◌, arith}
use Rattle.std.specs.List.{All, flat_map}
use Rattle.std.proofs.lemmas.Bool.{false≢true}
use Rattle.std.proofs.lemmas.Grind.{flat_map-append}
use Rattle.std.proofs.lemmas.List.Elements.{All-nil, All-cons, All-append, All-head, All-tail}
use Rattle.ap_term.specs.declared.faults.Fault.{Fault}
use Rattle.ap_term.specs.Tree.{Trees}
use Rattle.ap_term.specs.Goals.{Part, Program}
use Rattle.ap_term.specs.WellFormed.{IsProgram}
use Rattle.ap_term.specs.Laws.{HasGoals}
use Rattle.ap_term.specs.Search.{State, outcome_by, Answers, cut, children, by_goals, outcomes_to_depth}
use Rattle.ap_term.proofs.SearchLaws.{AllSteps, children-steps, answers-turn, answers-cut, depths}
use Rattle.ap_spec.specs.Searches.{IsWithin, IsShallow, has_goals, is_answer, answers_first, behind_answers, with_tuples, answers_of_all}
use Rattle.ap_spec.proofs.Turns.{children-within, answer-is, fault-is, taken-none}

-- ---- the answers

goals-of : (t : State) → has_goals t ≡ true → HasGoals t.goals
goals-of t h = go t.goals h
  where
    go : (gs : List Part) → by_goals gs false true ≡ true → HasGoals gs
    go [] k = absurd (false≢true k)
    go (g ∷ gs) k = tt

-- a state without goals has its outcome alone
finished : (p : Program) (d : ℕ) (s : State) (f : Option Fault) → s.goals ≡ [] → s.fault ≡ f → outcomes_to_depth p s d ≡ outcome_by f s.tuple ∷ []
finished p d s f e k = depths.finished p s d e ∙ ap (λ o. outcome_by o s.tuple ∷ []) k

all-answer : (p : Program) (d : ℕ) (s : State) (ss : List State) → is_answer s ≡ true → answers_of_all p (s ∷ ss) d ≡ with_tuples (s.tuple ∷ []) (answers_of_all p ss d)
all-answer p d s ss e =
    let k = answer-is s e in
    ap (λ os. cut (os ++ flat_map (λ s. outcomes_to_depth p s d) ss)) (finished p d s None k.0 k.1)

all-first : (p : Program) (d : ℕ) (ss : List State) → answers_of_all p ss d ≡ with_tuples (answers_first ss) (answers_of_all p (behind_answers ss) d)
all-first p d [] = refl
all-first p d (s ∷ ss) = go (is_answer s) refl (all-first p d ss)
  where
    go : (b : Bool) → is_answer s ≡ b → answers_of_all p ss d ≡ with_tuples (answers_first ss) (answers_of_all p (behind_answers ss) d)
        → answers_of_all p (s ∷ ss) d ≡ with_tuples (if b then s.tuple ∷ answers_first ss else []) (answers_of_all p (if b then behind_answers ss else s ∷ ss) d)
    go true e ih = all-answer p d s ss e ∙ ap (with_tuples (s.tuple ∷ [])) ih
    go false e ih = refl

with_tuples_twice : (xs ys : List Trees) (a : Answers) → with_tuples (xs ++ ys) a ≡ with_tuples xs (with_tuples ys a)
with_tuples_twice xs ys a = ap (λ ts. record { tuples = ts; fault = a.fault }) (append_assoc xs ys a.tuples)

all-then : (p : Program) (d : ℕ) (ss : List State) (xs ys : List Trees) (whole a : Answers) → ys ≡ xs ++ answers_first ss → answers_of_all p (behind_answers ss) d ≡ a
    → with_tuples xs (answers_of_all p ss d) ≡ whole → with_tuples ys a ≡ whole
all-then p d ss xs ys whole a k e h =
    ap (λ b. with_tuples b a) k ∙ with_tuples_twice xs (answers_first ss) a
    ∙ ap (with_tuples xs) (ap (with_tuples (answers_first ss)) (sym e) ∙ sym (all-first p d ss)) ∙ h

all-end : (p : Program) (d : ℕ) (ss : List State) (xs ys : List Trees) (whole : Answers) (o : Option Fault) → ys ≡ xs ++ answers_first ss
    → answers_of_all p (behind_answers ss) d ≡ record { tuples = []; fault = o } → with_tuples xs (answers_of_all p ss d) ≡ whole → record { tuples = ys; fault = o } ≡ whole
all-end p d ss xs ys whole o k e h =
    ap (λ b. record { tuples = b; fault = o }) (sym (append-nil ys)) ∙ all-then p d ss xs ys whole (record { tuples = []; fault = o }) k e h

-- an open state that is deeper than d, or has no calls left, has no outcomes
pub all-cut : (p : Program) (d : ℕ) (ss : List State) (t : State) (ts : List State) (xs ys : List Trees) (whole : Answers) → t ∷ ts ≡ behind_answers ss → has_goals t ≡ true → d ≤ t.steps
    → ys ≡ xs ++ answers_first ss → with_tuples xs (answers_of_all p ss d) ≡ whole → with_tuples ys (answers_of_all p ts d) ≡ whole
all-cut p d ss t ts xs ys whole e g le k h =
    all-then p d ss xs ys whole (answers_of_all p ts d) k
    (ap (λ us. answers_of_all p us d) (sym e) ∙ ap (λ os. cut (os ++ flat_map (λ s. outcomes_to_depth p s d) ts)) (answers-cut p t d (goals-of t g) le)) h

pub all-turn : (p : Program) (d : ℕ) (ss : List State) (t : State) (ts : List State) (xs ys : List Trees) (whole : Answers) → t ∷ ts ≡ behind_answers ss → has_goals t ≡ true → t.steps < d
    → ys ≡ xs ++ answers_first ss → with_tuples xs (answers_of_all p ss d) ≡ whole → with_tuples ys (answers_of_all p (children p t ++ ts) d) ≡ whole
all-turn p d ss t ts xs ys whole e g lt k h =
    all-then p d ss xs ys whole (answers_of_all p (children p t ++ ts) d) k
    (ap (λ us. answers_of_all p us d) (sym e)
    ∙ ap cut (ap (λ os. os ++ flat_map (λ s. outcomes_to_depth p s d) ts) (answers-turn p t d (goals-of t g) lt) ∙ sym (flat_map-append (λ s. outcomes_to_depth p s d) (children p t) ts))) h

pub all-ended : (p : Program) (d : ℕ) (ss : List State) (xs ys : List Trees) (whole : Answers) → [] ≡ behind_answers ss → ys ≡ xs ++ answers_first ss
    → with_tuples xs (answers_of_all p ss d) ≡ whole → record { tuples = ys; fault = None } ≡ whole
all-ended p d ss xs ys whole e k h = all-end p d ss xs ys whole None k (ap (λ us. answers_of_all p us d) (sym e)) h

pub all-fault : (p : Program) (d : ℕ) (ss : List State) (t : State) (ts : List State) (xs ys : List Trees) (whole : Answers) → t ∷ ts ≡ behind_answers ss → has_goals t ≡ false
    → ys ≡ xs ++ answers_first ss → with_tuples xs (answers_of_all p ss d) ≡ whole → record { tuples = ys; fault = t.fault } ≡ whole
all-fault p d ss t ts xs ys whole e g k h =
    let f = fault-is t g (taken-none ss t ts e) in
    all-end p d ss xs ys whole t.fault k
    (ap (λ us. answers_of_all p us d) (sym e) ∙ ap (λ os. cut (os ++ flat_map (λ s. outcomes_to_depth p s d) ts)) (finished p d t (Some f.1.0) f.0 f.1.1)
    ∙ ap (λ o. record { tuples = []; fault = o }) (sym f.1.1)) h

-- ---- the bounds

steps-all : (p : Program) (d : ℕ) (s : State) (n : ℕ) (ss : List State) → n ≤ 256 + 256 * s.steps → s.steps < d → AllSteps (s.steps + 1) ss → All (IsWithin (n + 256) (s.steps + 1)) ss → All (IsShallow d) ss
steps-all p d s n [] le lt a h = All-nil (IsShallow d)
steps-all p d s n (u ∷ ss) le lt a h =
    let v : u.next ≤ n + 256 = (All-head (IsWithin (n + 256) (s.steps + 1)) u ss h).vars in
    let k : u.steps ≡ s.steps + 1 = a.0 in
    All-cons (IsShallow d) u ss (record { vars = omega arith; calls = omega arith })
    (steps-all p d s n ss le lt a.1 (All-tail (IsWithin (n + 256) (s.steps + 1)) u ss h))

pub shallow-turn : (p : Program) (d : ℕ) (t : State) (ts : List State) → IsProgram p → t.steps < d → All (IsShallow d) (t ∷ ts) → All (IsShallow d) (children p t ++ ts)
shallow-turn p d t ts ok lt h =
    let v = (All-head (IsShallow d) t ts h).vars in
    All-append (IsShallow d) (children p t) ts (steps-all p d t t.next (children p t) v lt (children-steps p t) (children-within p t ok)) (All-tail (IsShallow d) t ts h)

-- ---- the turns end

-- how many states a search to n more calls goes through
abbrev sum_of : (State → ℕ) → List State → ℕ
sum_of f [] = 0
sum_of f (s ∷ ss) = f s + sum_of f ss

abbrev pub nodes : Program → ℕ → State → ℕ
nodes p zero s = 1
nodes p (suc n) s = sum_of (nodes p n) (children p s) + 1

abbrev pub weight : Program → ℕ → List State → ℕ
weight p d ss = sum_of (λ s. nodes p (d - s.steps) s) ss

weight-append : (p : Program) (d : ℕ) (ss ts : List State) → weight p d (ss ++ ts) ≡ weight p d ss + weight p d ts
weight-append p d [] ts = omega arith
weight-append p d (s ∷ ss) ts = omega (arith, weight-append p d ss ts)

nodes-some : (p : Program) (n : ℕ) (s : State) → 0 < nodes p n s
nodes-some p zero s = omega arith
nodes-some p (suc n) s = omega arith

weight-behind : (p : Program) (d : ℕ) (ss : List State) → weight p d (behind_answers ss) ≤ weight p d ss
weight-behind p d [] = omega arith
weight-behind p d (s ∷ ss) = go (is_answer s) (weight-behind p d ss)
  where
    go : (b : Bool) → weight p d (behind_answers ss) ≤ weight p d ss → weight p d (if b then behind_answers ss else s ∷ ss) ≤ weight p d (s ∷ ss)
    go true h = omega arith
    go false h = omega arith

weight-steps : (p : Program) (d n k : ℕ) (ss : List State) → AllSteps n ss → d - n ≡ k → weight p d ss ≡ sum_of (nodes p k) ss
weight-steps p d n k [] h e = refl
weight-steps p d n k (s ∷ ss) h e =
    let depth : d - s.steps ≡ k = let q : s.steps ≡ n = h.0 in omega arith in
    ap (λ j. nodes p j s + weight p d ss) depth ∙ ap (λ w. nodes p k s + w) (weight-steps p d n k ss h.1 e)

weight-children : (p : Program) (d : ℕ) (t : State) → t.steps < d → weight p d (children p t) + 1 ≡ nodes p (d - t.steps) t
weight-children p d t lt =
    let k : ℕ = d - (t.steps + 1) in
    let e : suc k ≡ d - t.steps = omega arith in
    ap (λ w. w + 1) (weight-steps p d (t.steps + 1) k (children p t) (children-steps p t) refl) ∙ ap (λ j. nodes p j t) e

pub weight-cut : (p : Program) (d : ℕ) (ss : List State) (t : State) (ts : List State) → t ∷ ts ≡ behind_answers ss → weight p d ts < weight p d ss
weight-cut p d ss t ts e =
    let k : weight p d (t ∷ ts) ≡ weight p d (behind_answers ss) = ap (weight p d) e in
    omega (arith, weight-behind p d ss, nodes-some p (d - t.steps) t)

pub weight-turn : (p : Program) (d : ℕ) (ss : List State) (t : State) (ts : List State) → t ∷ ts ≡ behind_answers ss → t.steps < d → weight p d (children p t ++ ts) < weight p d ss
weight-turn p d ss t ts e lt =
    let k : weight p d (t ∷ ts) ≡ weight p d (behind_answers ss) = ap (weight p d) e in
    omega (arith, weight-behind p d ss, weight-children p d t lt, weight-append p d (children p t) ts)
