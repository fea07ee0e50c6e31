-- The turns of a search, and the bounds that its states keep.
use Rattle.std.proofs.Common.{◌≡◌, ℕ, zero, suc, ◌+◌, ◌-◌, ◌*◌, ◌<◌, ◌≤◌, Bool, true, false, not, ◌&&◌, is_none, if◌then◌else◌, List, [], ◌∷◌, ◌++◌, map, get_or, append_assoc, append-nil, Option, Some, None, refl, ap, ap₂, sym, ◌∙◌, subst, arith}
use Rattle.std.specs.List.{All, flat_map}
use Rattle.std.proofs.lemmas.Bool.{false≢true}
use Rattle.std.proofs.lemmas.List.Elements.{All-nil, All-cons, All-append, All-head, All-tail}
use Rattle.ap_term.specs.declared.faults.Fault.{Fault}
use Rattle.ap_term.specs.Tree.{Tree, Trees}
use Rattle.ap_term.specs.Substitution.{Subst}
use Rattle.ap_term.specs.Builtins.{builtin}
use Rattle.ap_term.specs.Faults.{fault_of}
use Rattle.ap_term.specs.Goals.{Part, call, group, Program, opened}
use Rattle.ap_term.specs.WellFormed.{IsClause, IsProgram}
use Rattle.ap_term.specs.Search.{State, Found, Way, Outcome, outcome_by, outcome_of, Met, way_if, clause_way, ways, ways_by, ways_unless, child, cut, meets, found_by, search, done, open_states, with_outcomes, children, children_by, by_goals, turn}
use Rattle.ap_spec.specs.Searches.{IsWithin, has_goals, is_answer, answers_first, behind_answers, with_answers}

-- ---- what a child's numbers are

abbrev Child : State → State → Type 0
Child s = IsWithin (s.next + 256) (s.steps + 1)

abbrev Few : Way → Type 0
Few w = w.takes ≤ 256

way_if-few : (o : Option Subst) (body : List Part) (takes : ℕ) → takes ≤ 256 → All Few (way_if o body takes)
way_if-few None body takes h = All-nil Few
way_if-few (Some u) body takes h = All-cons Few _ [] h (All-nil Few)

clause_ways-few : (next : ℕ) (g : Tree) (p : Program) → IsProgram p → All Few (flat_map (clause_way next g) p)
clause_ways-few next g [] h = All-nil Few
clause_ways-few next g (c ∷ p) h =
    let k : c.vars ≤ 255 = (All-head IsClause c p h).few in
    All-append Few (clause_way next g c) (flat_map (clause_way next g) p) (way_if-few _ _ (c.vars + 1) (omega arith)) (clause_ways-few next g p (All-tail IsClause c p h))

ways-few : (p : Program) (next : ℕ) (g : Tree) (o : Option (Option Subst)) → IsProgram p → All Few (ways_by p next g o)
ways-few p next g None h = clause_ways-few next g p h
ways-few p next g (Some o) h = way_if-few o [] 0 (omega arith)

unless-few : (f : Option Fault) (ws : List Way) → All Few ws → All Few (ways_unless f ws)
unless-few None ws h = h
unless-few (Some e) ws h = All-cons Few _ [] (omega arith) (All-nil Few)

kids-within : (s : State) (rest : List Part) (ws : List Way) → All Few ws → All (Child s) (map (child s rest) ws)
kids-within s rest [] h = All-nil (Child s)
kids-within s rest (w ∷ ws) h =
    let k : w.takes ≤ 256 = All-head Few w ws h in
    All-cons (Child s) (child s rest w) (map (child s rest) ws) (record { vars = omega arith; calls = omega arith }) (kids-within s rest ws (All-tail Few w ws h))

parts-within : (p : Program) (s : State) (ps : List Part) → IsProgram p → All (Child s) (children_by p s ps)
parts-within p s [] h = All-nil (Child s)
parts-within p s (call g ∷ rest) h = kids-within s rest (ways p s.next g) (unless-few (fault_of g) _ (ways-few p s.next g (builtin g) h))
parts-within p s (group cs ts ∷ rest) h = All-nil (Child s)

pub children-within : (p : Program) (s : State) → IsProgram p → All (Child s) (children p s)
children-within p s h = parts-within p s (opened s.goals) h

pub All-within : (a b d e : ℕ) (ss : List State) → a ≤ d → b ≤ e → All (IsWithin a b) ss → All (IsWithin d e) ss
All-within a b d e ss h k q n s lt =
    let r : IsWithin a b (get_or ss n s) = q n s lt in
    let v = r.vars in
    let w = r.calls in
    record { vars = omega arith; calls = omega arith }

-- ---- the answers that come first

-- what an answer is, and a fault
pub answer-is : (s : State) → is_answer s ≡ true → (s.goals ≡ []) × (s.fault ≡ None)
answer-is s e = go s.goals s.fault refl refl e
  where
    go : (gs : List Part) (f : Option Fault) → s.goals ≡ gs → s.fault ≡ f → not (by_goals gs false true) && is_none f ≡ true → (s.goals ≡ []) × (s.fault ≡ None)
    go [] None q r k = (q, r)
    go [] (Some x) q r k = absurd (false≢true k)
    go (g ∷ gs) f q r k = absurd (false≢true k)

pub fault-is : (s : State) → has_goals s ≡ false → is_answer s ≡ false → (s.goals ≡ []) × ((x : Fault) × (s.fault ≡ Some x))
fault-is s h e = go s.goals s.fault refl refl h e
  where
    go : (gs : List Part) (f : Option Fault) → s.goals ≡ gs → s.fault ≡ f → by_goals gs false true ≡ false → not (by_goals gs false true) && is_none f ≡ false
        → (s.goals ≡ []) × ((x : Fault) × (s.fault ≡ Some x))
    go [] None q r h k = absurd (false≢true (sym k))
    go [] (Some x) q r h k = (q, (x, r))
    go (g ∷ gs) f q r h k = absurd (false≢true (sym h))

-- what holds of all states holds of those behind the answers, of which the first is none
pub behind-all : (P : State → Type 0) (ss : List State) → All P ss → All P (behind_answers ss)
behind-all P [] h = h
behind-all P (s ∷ ss) h = go (is_answer s) (behind-all P ss (All-tail P s ss h))
  where
    go : (b : Bool) → All P (behind_answers ss) → All P (if b then behind_answers ss else s ∷ ss)
    go true k = k
    go false k = h

pub taken-all : (P : State → Type 0) (ss : List State) (t : State) (ts : List State) → t ∷ ts ≡ behind_answers ss → All P ss → All P (t ∷ ts)
taken-all P ss t ts e h = subst (All P) (sym e) (behind-all P ss h)

pub taken-none : (ss : List State) (t : State) (ts : List State) → t ∷ ts ≡ behind_answers ss → is_answer t ≡ false
taken-none [] t ts e = cc
taken-none (s ∷ ss) t ts e = go (is_answer s) refl e (taken-none ss t ts)
  where
    go : (b : Bool) → is_answer s ≡ b → t ∷ ts ≡ if b then behind_answers ss else s ∷ ss → (t ∷ ts ≡ behind_answers ss → is_answer t ≡ false) → is_answer t ≡ false
    go true q k ih = ih k
    go false q k ih = let same : t ≡ s = cc in ap is_answer same ∙ q

-- ---- the turns of a search

-- what is found, from what is met
found_in : Met → Found
found_in m = found_by (cut m.outcomes) m.ended

at : (p : Program) (f : State → List State → Met) (ss : List State) → List Part → State → Outcome → Met
at p f ss gs s o = with_outcomes (by_goals gs (o ∷ done ss) []) (turn f (by_goals gs (open_states ss) (s ∷ ss)))

search-answer : (p : Program) (n : ℕ) (s : State) (ss : List State) → is_answer s ≡ true → search p n (s ∷ ss) ≡ with_answers (s.tuple ∷ []) (search p n ss)
unfolding found_in at
search-answer p n s ss e = go n (answer-is s e)
  where
    go : (n : ℕ) → (s.goals ≡ []) × (s.fault ≡ None) → search p n (s ∷ ss) ≡ with_answers (s.tuple ∷ []) (search p n ss)
    go zero k = ap₂ (λ gs f. found_in (at p (λ t ts. record { outcomes = []; ended = false }) ss gs s (outcome_by f s.tuple))) k.0 k.1
    go (suc m) k = ap₂ (λ gs f. found_in (at p (λ t ts. meets p m (children p t ++ ts)) ss gs s (outcome_by f s.tuple))) k.0 k.1

search-first : (p : Program) (n : ℕ) (ss : List State) → search p n ss ≡ with_answers (answers_first ss) (search p n (behind_answers ss))
search-first p n [] = refl
search-first p n (s ∷ ss) = go (is_answer s) refl (search-first p n ss)
  where
    go : (b : Bool) → is_answer s ≡ b → search p n ss ≡ with_answers (answers_first ss) (search p n (behind_answers ss))
        → search p n (s ∷ ss) ≡ with_answers (if b then s.tuple ∷ answers_first ss else []) (search p n (if b then behind_answers ss else s ∷ ss))
    go true e ih = search-answer p n s ss e ∙ ap (with_answers (s.tuple ∷ [])) ih
    go false e ih = refl

-- the stack is empty, a fault comes first, the budget is spent, or a state is replaced by its children
search-ended : (p : Program) (n : ℕ) → search p n [] ≡ record { answers = []; ended = true; fault = None }
search-ended p zero = refl
search-ended p (suc n) = refl

search-fault : (p : Program) (n : ℕ) (t : State) (ts : List State) → has_goals t ≡ false → is_answer t ≡ false → search p n (t ∷ ts) ≡ record { answers = []; ended = true; fault = t.fault }
unfolding found_in at
search-fault p n t ts h e = go n (fault-is t h e)
  where
    go : (n : ℕ) → (t.goals ≡ []) × ((x : Fault) × (t.fault ≡ Some x)) → search p n (t ∷ ts) ≡ record { answers = []; ended = true; fault = t.fault }
    go zero k = ap₂ (λ gs f. found_in (at p (λ t ts. record { outcomes = []; ended = false }) ts gs t (outcome_by f t.tuple))) k.0 k.1.1
        ∙ ap (λ f. record { answers = []; ended = true; fault = f }) (sym k.1.1)
    go (suc m) k = ap₂ (λ gs f. found_in (at p (λ t ts. meets p m (children p t ++ ts)) ts gs t (outcome_by f t.tuple))) k.0 k.1.1
        ∙ ap (λ f. record { answers = []; ended = true; fault = f }) (sym k.1.1)

search-spent : (p : Program) (t : State) (ts : List State) → has_goals t ≡ true → search p 0 (t ∷ ts) ≡ record { answers = []; ended = false; fault = None }
unfolding found_in at
search-spent p t ts h = go t.goals h
  where
    go : (gs : List Part) → by_goals gs false true ≡ true → found_in (at p (λ t ts. record { outcomes = []; ended = false }) ts gs t (outcome_of t)) ≡ record { answers = []; ended = false; fault = None }
    go [] k = absurd (false≢true k)
    go (g ∷ gs) k = refl

search-turn : (p : Program) (n : ℕ) (t : State) (ts : List State) → has_goals t ≡ true → search p (suc n) (t ∷ ts) ≡ search p n (children p t ++ ts)
unfolding found_in at
search-turn p n t ts h = go t.goals h
  where
    go : (gs : List Part) → by_goals gs false true ≡ true → found_in (at p (λ t ts. meets p n (children p t ++ ts)) ts gs t (outcome_of t)) ≡ search p n (children p t ++ ts)
    go [] k = absurd (false≢true k)
    go (g ∷ gs) k = refl

with_answers_twice : (xs ys : List Trees) (f : Found) → with_answers (xs ++ ys) f ≡ with_answers xs (with_answers ys f)
with_answers_twice xs ys f = ap (λ a. record { answers = a; ended = f.ended; fault = f.fault }) (append_assoc xs ys f.answers)

-- what the search keeps, for the answers so far
found-then : (p : Program) (n : ℕ) (ss : List State) (xs ys : List Trees) (f g : Found) → ys ≡ xs ++ answers_first ss → search p n (behind_answers ss) ≡ g
    → with_answers xs (search p n ss) ≡ f → with_answers ys g ≡ f
found-then p n ss xs ys f g d e h =
    ap (λ b. with_answers b g) d ∙ with_answers_twice xs (answers_first ss) g
    ∙ ap (with_answers xs) (ap (with_answers (answers_first ss)) (sym e) ∙ sym (search-first p n ss)) ∙ h

-- a search that stops has found what it had
found-end : (p : Program) (n : ℕ) (ss : List State) (xs ys : List Trees) (f : Found) (b : Bool) (o : Option Fault) → ys ≡ xs ++ answers_first ss
    → search p n (behind_answers ss) ≡ record { answers = []; ended = b; fault = o } → with_answers xs (search p n ss) ≡ f → record { answers = ys; ended = b; fault = o } ≡ f
found-end p n ss xs ys f b o d e h =
    ap (λ a. record { answers = a; ended = b; fault = o }) (sym (append-nil ys)) ∙ found-then p n ss xs ys f (record { answers = []; ended = b; fault = o }) d e h

pub total-turn : (p : Program) (left : ℕ) (ss : List State) (t : State) (ts : List State) (xs ys : List Trees) (f : Found) → 0 < left → t ∷ ts ≡ behind_answers ss → has_goals t ≡ true
    → ys ≡ xs ++ answers_first ss → with_answers xs (search p left ss) ≡ f → with_answers ys (search p (left - 1) (children p t ++ ts)) ≡ f
total-turn p zero ss t ts xs ys f lt e k d h = absurd (omega arith)
total-turn p (suc n) ss t ts xs ys f lt e k d h =
    let one : suc n - 1 ≡ n = omega arith in
    ap (λ j. with_answers ys (search p j (children p t ++ ts))) one
    ∙ found-then p (suc n) ss xs ys f (search p n (children p t ++ ts)) d (ap (search p (suc n)) (sym e) ∙ search-turn p n t ts k) h

pub total-ended : (p : Program) (left : ℕ) (ss : List State) (xs ys : List Trees) (f : Found) → [] ≡ behind_answers ss → ys ≡ xs ++ answers_first ss → with_answers xs (search p left ss) ≡ f
    → record { answers = ys; ended = true; fault = None } ≡ f
total-ended p left ss xs ys f e d h = found-end p left ss xs ys f true None d (ap (search p left) (sym e) ∙ search-ended p left) h

pub total-fault : (p : Program) (left : ℕ) (ss : List State) (t : State) (ts : List State) (xs ys : List Trees) (f : Found) → t ∷ ts ≡ behind_answers ss → has_goals t ≡ false
    → ys ≡ xs ++ answers_first ss → with_answers xs (search p left ss) ≡ f → record { answers = ys; ended = true; fault = t.fault } ≡ f
total-fault p left ss t ts xs ys f e k d h =
    found-end p left ss xs ys f true t.fault d (ap (search p left) (sym e) ∙ search-fault p left t ts k (taken-none ss t ts e)) h

pub total-spent : (p : Program) (ss : List State) (t : State) (ts : List State) (xs ys : List Trees) (f : Found) → t ∷ ts ≡ behind_answers ss → has_goals t ≡ true
    → ys ≡ xs ++ answers_first ss → with_answers xs (search p 0 ss) ≡ f → record { answers = ys; ended = false; fault = None } ≡ f
total-spent p ss t ts xs ys f e k d h = found-end p 0 ss xs ys f false None d (ap (search p 0) (sym e) ∙ search-spent p t ts k) h

pub first-within : (a b : ℕ) (ss : List State) (t : State) (ts : List State) → t ∷ ts ≡ behind_answers ss → All (IsWithin a b) ss → IsWithin a b t
first-within a b ss t ts e h = All-head (IsWithin a b) t ts (taken-all (IsWithin a b) ss t ts e h)

-- the bounds after a turn that leaves left - 1 of n
pub turn-within : (p : Program) (n left : ℕ) (ss : List State) (t : State) (ts : List State) → 0 < left → left ≤ n → t ∷ ts ≡ behind_answers ss → IsProgram p
    → All (IsWithin (256 + 256 * (n - left)) (n - left)) ss → All (IsWithin (256 + 256 * (n - (left - 1))) (n - (left - 1))) (children p t ++ ts)
turn-within p n left ss t ts lt le e ok h =
    let r = first-within (256 + 256 * (n - left)) (n - left) ss t ts e h in
    let v : t.next ≤ 256 + 256 * (n - left) = r.vars in
    let w : t.steps ≤ n - left = r.calls in
    let a : ℕ = 256 + 256 * (n - (left - 1)) in
    let b : ℕ = n - (left - 1) in
    let more : All (IsWithin (256 + 256 * (n - left)) (n - left)) (t ∷ ts) = taken-all (IsWithin (256 + 256 * (n - left)) (n - left)) ss t ts e h in
    All-append (IsWithin a b) (children p t) ts
    (All-within (t.next + 256) (t.steps + 1) a b (children p t) (omega arith) (omega arith) (children-within p t ok))
    (All-within (256 + 256 * (n - left)) (n - left) a b ts (omega arith) (omega arith) (All-tail (IsWithin (256 + 256 * (n - left)) (n - left)) t ts more))
