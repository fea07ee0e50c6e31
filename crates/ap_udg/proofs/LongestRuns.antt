-- Runs of goals, from the longest one down.
use Rattle.std.proofs.Common.{◌≡◌, ℕ, zero, suc, ◌+◌, ◌-◌, ◌<◌, ◌≤◌, Bool, true, false, ◌&&◌, ◌||◌, not, nat_lt, IsTrue, List, [], ◌∷◌, ◌++◌, length, take, drop, get_or, map, refl, ap, sym, ◌∙◌, subst, add-one, arith}
use Rattle.std.specs.List.{list_all, filter, flat_map}
use Rattle.std.proofs.lemmas.Bool.{false≢true, and_parts, and_from}
use Rattle.std.proofs.lemmas.List.{take-map, length-map}
use Rattle.std.proofs.Math.Bool.{and-false}
use Rattle.ap_term.proofs.TermLists.{count-trees_of}
use Rattle.ap_term.proofs.TreeLists.{rest-same}
use Rattle.ap_term.specs.declared.terms.Term.{Term}
use Rattle.ap_term.specs.declared.clauses.Part as code
use Rattle.ap_term.specs.declared.clauses.Part.TheVariants.{Call, Group}
use Rattle.ap_term.specs.declared.clauses.Check.{Check}
use Rattle.ap_term.specs.declared.clauses.Check.TheVariants.{Ground, Indep}
use Rattle.ap_term.specs.Tree.{Tree, Trees, none, more, count_trees}
use Rattle.ap_term.specs.TermView.{tree_of, trees_of}
use Rattle.ap_term.specs.GoalView.{part_of}
use Rattle.ap_term.specs.Goals.{Part, call, group}
use Rattle.ap_term.specs.Vars.{occurs}
use Rattle.ap_term.specs.Independence.{shared, of_two_goals}
use Rattle.ap_term.specs.WellFormed.{callable, all_callable, numbered, numbered_all}
use Rattle.ap_absunify.specs.declared.states.State.{State}
use Rattle.ap_conditions.specs.FullCondition.{full_condition, numbers, is_pair, indeps_of}
use Rattle.ap_conditions.specs.Simplified.{simplified}
use Rattle.ap_conditions.specs.declared.simplifications.Simplified.TheVariants.{Keep}
use Rattle.ap_fixpoint.specs.Formed.{goals_formed}
use Rattle.ap_udg.specs.declared.runs.Rule.{Rule}
use Rattle.ap_udg.specs.declared.runs.Rule.TheVariants.{Conditional, Unconditional}
use Rattle.ap_udg.specs.Runs.{takes, may_stand, is_user_call, goals_of, with_goal, IsRun}

-- ---- the parts that are user goals

user_suc : (ps : List code.Part) (i : ℕ) (p : code.Part) → i < length ps → p ≡ get_or ps i p → is_user_call (part_of p) ≡ true → list_all is_user_call (take i (map part_of ps)) ≡ true
    → list_all is_user_call (take (suc i) (map part_of ps)) ≡ true
user_suc [] i p l e u h = absurd (omega arith)
user_suc (q ∷ ps) zero p l e u h = and_from (is_user_call (part_of q)) true (ap (λ z. is_user_call (part_of z)) (sym e) ∙ u) refl
user_suc (q ∷ ps) (suc i) p l e u h =
    let r = and_parts (is_user_call (part_of q)) (list_all is_user_call (take i (map part_of ps))) h in
    and_from (is_user_call (part_of q)) (list_all is_user_call (take (suc i) (map part_of ps))) r.0 (user_suc ps i p (omega arith) e u r.1)

pub user-more : (ps : List code.Part) (i : ℕ) (p : code.Part) → i < length ps → p ≡ get_or ps i p → is_user_call (part_of p) ≡ true → list_all is_user_call (take i (map part_of ps)) ≡ true
    → list_all is_user_call (take (i + 1) (map part_of ps)) ≡ true
user-more ps i p l e u h = ap (λ k. list_all is_user_call (take k (map part_of ps))) (add-one i) ∙ user_suc ps i p l e u h

pub user-most : (ps : List code.Part) (i : ℕ) (p : code.Part) → p ≡ get_or ps i p → is_user_call (part_of p) ≡ false → (m : ℕ) → m ≤ length ps
    → list_all is_user_call (take m (map part_of ps)) ≡ true → m ≤ i
user-most ps i p e u zero l h = omega arith
user-most [] i p e u (suc m) l h = absurd (omega arith)
user-most (q ∷ ps) zero p e u (suc m) l h =
    absurd (false≢true (sym u ∙ ap (λ z. is_user_call (part_of z)) e ∙ (and_parts (is_user_call (part_of q)) (list_all is_user_call (take m (map part_of ps))) h).0))
user-most (q ∷ ps) (suc i) p e u (suc m) l h =
    let k : m ≤ i = user-most ps i p e u m (omega arith) (and_parts (is_user_call (part_of q)) (list_all is_user_call (take m (map part_of ps))) h).1 in omega arith

-- ---- their goals

with_goal-more : (t : Tree) (ts : Trees) (p : Part) → with_goal (more t ts) p ≡ more t (with_goal ts p)
with_goal-more t ts (call g) = refl
with_goal-more t ts (group cs gs) = refl

goals_suc : (ps : List code.Part) (i : ℕ) (p : code.Part) → i < length ps → p ≡ get_or ps i p
    → goals_of (map part_of (take (suc i) ps)) ≡ with_goal (goals_of (map part_of (take i ps))) (part_of p)
goals_suc [] i p l e = absurd (omega arith)
goals_suc (Call u ∷ ps) zero p l e = ap (λ q. with_goal none (part_of q)) (sym e)
goals_suc (Group cs gs ∷ ps) zero p l e = ap (λ q. with_goal none (part_of q)) (sym e)
goals_suc (Call u ∷ ps) (suc i) p l e =
    ap (more (tree_of u)) (goals_suc ps i p (omega arith) e) ∙ sym (with_goal-more (tree_of u) (goals_of (map part_of (take i ps))) (part_of p))
goals_suc (Group cs gs ∷ ps) (suc i) p l e = goals_suc ps i p (omega arith) e

pub goals-more : (ps : List code.Part) (i : ℕ) (p : code.Part) → i < length ps → p ≡ get_or ps i p
    → goals_of (map part_of (take (i + 1) ps)) ≡ with_goal (goals_of (map part_of (take i ps))) (part_of p)
goals-more ps i p l e = ap (λ k. goals_of (map part_of (take k ps))) (add-one i) ∙ goals_suc ps i p l e

pub count-goals : (ps : List Part) (n : ℕ) → n ≤ length ps → list_all is_user_call (take n ps) ≡ true → count_trees (goals_of (take n ps)) ≡ n
count-goals ps zero l h = refl
count-goals [] (suc n) l h = absurd (omega arith)
count-goals (call g ∷ ps) (suc n) l h =
    let k : count_trees (goals_of (take n ps)) ≡ n = count-goals ps n (omega arith) (and_parts (is_user_call (call g)) (list_all is_user_call (take n ps)) h).1 in omega arith
count-goals (group cs gs ∷ ps) (suc n) l h = absurd (false≢true h)

-- the first n of the goals of more parts
pub run-goals : (ps : List Part) (k n : ℕ) (ts : List Term) → trees_of ts ≡ goals_of (take k ps) → list_all is_user_call (take k ps) ≡ true → n ≤ k
    → trees_of (take n ts) ≡ goals_of (take n ps)
run-goals ps k zero ts e h l = refl
run-goals ps zero (suc n) ts e h l = absurd (omega arith)
run-goals [] (suc k) (suc n) [] e h l = refl
run-goals [] (suc k) (suc n) (t ∷ ts) e h l = absurd (cc)
run-goals (call g ∷ ps) (suc k) (suc n) [] e h l = absurd (cc)
run-goals (call g ∷ ps) (suc k) (suc n) (t ∷ ts) e h l =
    let tails : trees_of ts ≡ goals_of (take k ps) = rest-same e in
    let head : tree_of t ≡ g = cc in
    let r = run-goals ps k n ts tails (and_parts (is_user_call (call g)) (list_all is_user_call (take k ps)) h).1 (omega arith) in
    ap (λ z. more z (trees_of (take n ts))) head ∙ ap (more g) r
run-goals (group cs gs ∷ ps) (suc k) (suc n) ts e h l = absurd (false≢true h)

-- ---- their variables

goals-numbered : (ps : List Part) → IsTrue (list_all goals_formed ps) → IsTrue (numbered_all 255 (goals_of ps))
goals-numbered [] h = refl
goals-numbered (call g ∷ ps) h =
    let r = and_parts (goals_formed (call g)) (list_all goals_formed ps) h in
    and_from (numbered 255 g) (numbered_all 255 (goals_of ps)) (and_parts (callable g) (numbered 255 g) r.0).1 (goals-numbered ps r.1)
goals-numbered (group cs gs ∷ ps) h = goals-numbered ps (and_parts (goals_formed (group cs gs)) (list_all goals_formed ps) h).1

goals-callable : (ps : List Part) → IsTrue (list_all goals_formed ps) → IsTrue (all_callable (goals_of ps))
goals-callable [] h = refl
goals-callable (call g ∷ ps) h =
    let r = and_parts (goals_formed (call g)) (list_all goals_formed ps) h in
    and_from (callable g) (all_callable (goals_of ps)) (and_parts (callable g) (numbered 255 g) r.0).0 (goals-callable ps r.1)
goals-callable (group cs gs ∷ ps) h = goals-callable ps (and_parts (goals_formed (group cs gs)) (list_all goals_formed ps) h).1

pub first-formed : (p : Part → Bool) (ps : List Part) (n : ℕ) → list_all p ps ≡ true → list_all p (take n ps) ≡ true
first-formed p ps zero h = refl
first-formed p [] (suc n) h = refl
first-formed p (q ∷ ps) (suc n) h = let r = and_parts (p q) (list_all p ps) h in and_from (p q) (list_all p (take n ps)) r.0 (first-formed p ps n r.1)

pub last-formed : (p : Part → Bool) (ps : List Part) (n : ℕ) → list_all p ps ≡ true → list_all p (drop n ps) ≡ true
last-formed p ps zero h = h
last-formed p [] (suc n) h = refl
last-formed p (q ∷ ps) (suc n) h = last-formed p ps n (and_parts (p q) (list_all p ps) h).1

pub run-numbered : (ps : List Part) (n : ℕ) → IsTrue (list_all goals_formed ps) → IsTrue (numbered_all 255 (goals_of (take n ps)))
run-numbered ps n h = goals-numbered (take n ps) (first-formed goals_formed ps n h)

pub run-callable : (ps : List Part) (n : ℕ) → IsTrue (list_all goals_formed ps) → IsTrue (all_callable (goals_of (take n ps)))
run-callable ps n h = goals-callable (take n ps) (first-formed goals_formed ps n h)

-- ---- one goal alone stands

filter-none : (p : ℕ → Bool) → ((x : ℕ) → p x ≡ false) → (xs : List ℕ) → filter p xs ≡ []
filter-none p h [] = refl
filter-none p h (x ∷ xs) = rw h (filter-none p h xs)

flat_map-none : (f : ℕ → List Check) → ((x : ℕ) → f x ≡ []) → (xs : List ℕ) → flat_map f xs ≡ []
flat_map-none f h [] = refl
flat_map-none f h (x ∷ xs) = ap (λ z. z ++ flat_map f xs) (h x) ∙ flat_map-none f h xs

few_shared : (gs : Trees) → count_trees gs ≤ 1 → (x : ℕ) → shared x gs ≡ false
few_shared none l x = refl
few_shared (more g none) l x = ap (λ b. b || false) (and-false (occurs x g))
few_shared (more g (more h hs)) l x = absurd (omega arith)

few_of_two : (gs : Trees) → count_trees gs ≤ 1 → (x y : ℕ) → of_two_goals x y gs ≡ false
few_of_two none l x y = refl
few_of_two (more g none) l x y = ap (λ b. b || ((occurs y g && false) || false)) (and-false (occurs x g)) ∙ ap (λ b. b || false) (and-false (occurs y g))
few_of_two (more g (more h hs)) l x y = absurd (omega arith)

few_pairs : (gs : Trees) → count_trees gs ≤ 1 → (x y : ℕ) → is_pair gs x y ≡ false
few_pairs gs l x y = drop_last (nat_lt x y) (not (shared x gs)) (not (shared y gs)) (of_two_goals x y gs) (few_of_two gs l x y)
  where
    drop_last : (a b c d : Bool) → d ≡ false → (a && (b && (c && d))) ≡ false
    drop_last a b c d e = ap (λ z. a && (b && (c && z))) e ∙ ap (λ z. a && (b && z)) (and-false c) ∙ ap (λ z. a && z) (and-false b) ∙ and-false a

no_condition : (gs : Trees) → count_trees gs ≤ 1 → full_condition gs ≡ []
no_condition gs l =
    ap (λ xs. map Ground xs ++ flat_map (indeps_of gs) (numbers 255)) (filter-none (λ x. shared x gs) (few_shared gs l) (numbers 255))
    ∙ flat_map-none (indeps_of gs) (λ x. ap (map (Indep x)) (filter-none (is_pair gs x) (few_pairs gs l x) (numbers 255))) (numbers 255)

takes_all : (r : Rule) → takes r (Keep []) ≡ true
takes_all Conditional = refl
takes_all Unconditional = refl

pub stands-alone : (r : Rule) (s : State) (gs : Trees) → count_trees gs ≤ 1 → may_stand r s gs ≡ true
stands-alone r s gs l = ap (λ cs. takes r (simplified cs s)) (no_condition gs l) ∙ takes_all r

-- ---- the longest run

pub run-alone : (r : Rule) (s : State) (ps : List Part) (n : ℕ) → n ≤ 1 → n ≤ length ps → list_all is_user_call (take n ps) ≡ true → IsRun r s ps n
run-alone r s ps n one there user = record {
  few = omega arith;
  there = there;
  user = user;
  stands = stands-alone r s (goals_of (take n ps)) (let k : count_trees (goals_of (take n ps)) ≡ n = count-goals ps n there user in omega arith);
}

-- no run of n goals
pub one_less : (r : Rule) (s : State) (ps : List Part) (n : ℕ) → may_stand r s (goals_of (take n ps)) ≡ false → ((m : ℕ) → IsRun r s ps m → m ≤ n) → (m : ℕ) → IsRun r s ps m → m ≤ n - 1
one_less r s ps n stops h m run = below m n (h m run) (λ e. false≢true (sym stops ∙ subst (λ k. may_stand r s (goals_of (take k ps)) ≡ true) e run.stands))
  where
    below : (m n : ℕ) → m ≤ n → (m ≡ n → ⊥) → m ≤ n - 1
    below m n l ne = omega (arith, ne)

-- ---- the same of the code's parts

user-shorter : (ps : List Part) (k n : ℕ) → n ≤ k → list_all is_user_call (take k ps) ≡ true → list_all is_user_call (take n ps) ≡ true
user-shorter ps k zero l h = refl
user-shorter [] k (suc n) l h = refl
user-shorter (p ∷ ps) zero (suc n) l h = absurd (omega arith)
user-shorter (p ∷ ps) (suc k) (suc n) l h =
    let r = and_parts (is_user_call p) (list_all is_user_call (take k ps)) h in
    and_from (is_user_call p) (list_all is_user_call (take n ps)) r.0 (user-shorter ps k n (omega arith) r.1)

pub tried : (ps : List code.Part) (k n : ℕ) (ts : List Term) → trees_of ts ≡ goals_of (map part_of (take k ps)) → list_all is_user_call (take k (map part_of ps)) ≡ true → n ≤ k
    → trees_of (take n ts) ≡ goals_of (take n (map part_of ps))
tried ps k n ts e h l = run-goals (map part_of ps) k n ts (e ∙ ap goals_of (sym (take-map part_of k ps))) h l

pub tried-length : (ps : List code.Part) (k n : ℕ) (ts : List Term) → trees_of ts ≡ goals_of (map part_of (take k ps)) → list_all is_user_call (take k (map part_of ps)) ≡ true → k ≤ length ps → n ≤ k
    → n ≡ length (take n ts)
tried-length ps k n ts e h there l =
    sym (sym (count-trees_of (take n ts)) ∙ ap count_trees (tried ps k n ts e h l)
    ∙ count-goals (map part_of ps) n (simp length-map (omega arith)) (user-shorter (map part_of ps) k n l h))

pub tried-run : (r : Rule) (s : State) (ps : List code.Part) (k n : ℕ) → k ≤ 32 → k ≤ length ps → list_all is_user_call (take k (map part_of ps)) ≡ true → n ≤ k
    → may_stand r s (goals_of (take n (map part_of ps))) ≡ true → IsRun r s (map part_of ps) n
tried-run r s ps k n few there h l stands = record {
  few = omega arith;
  there = simp length-map (omega arith);
  user = user-shorter (map part_of ps) k n l h;
  stands = stands;
}

pub tried-alone : (r : Rule) (s : State) (ps : List code.Part) (k n : ℕ) → k ≤ length ps → list_all is_user_call (take k (map part_of ps)) ≡ true → n ≤ k → n ≤ 1 → IsRun r s (map part_of ps) n
tried-alone r s ps k n there h l one = run-alone r s (map part_of ps) n one (simp length-map (omega arith)) (user-shorter (map part_of ps) k n l h)

pub ruleset rules_of_parts = (user-more, user-most, goals-more)
