-- What is given to a slot speaks of the places of its predicate alone, so its sets are below a bound; and all that is ever given goes to some few slots.
use Rattle.std.proofs.Common.{◌≡◌, ℕ, zero, suc, ◌+◌, ◌<◌, ◌≤◌, ◌^◌, inl, inr, Bool, true, false, cond, nat_eq, List, [], ◌∷◌, ◌++◌, map, length, refl, ap, sym, ◌∙◌, subst, arith}
use Rattle.std.proofs.lemmas.Bool.{false≢true, eqb-true, or_cases, or_left, or_right}
use Rattle.std.proofs.lemmas.Nat.{or_lt, and_le_r, pow_pos, pow_below}
use Rattle.std.specs.List.{flat_map}
use Rattle.ap_term.specs.Tree.{Tree, Trees, var, int, atom, node, none, more, count_trees}
use Rattle.ap_term.specs.Goals.{Part, call, group, Clause, Program}
use Rattle.ap_sharing.specs.VarSet.{empty, just, union, both, meets}
use Rattle.ap_sharing.specs.Sets.{listed, join_sets, sets_of, all_of, too_many}
use Rattle.ap_sharing.specs.Share.{Share, nonground, dropped, widen, norm}
use Rattle.ap_sharing.proofs.Elements.{same_test}
use Rattle.ap_sharing.proofs.Lists.{listed-join}
use Rattle.ap_absunify.specs.declared.states.State.{State}
use Rattle.ap_absunify.specs.declared.states.State.TheVariants.{Unreachable, Reachable}
use Rattle.ap_absunify.specs.State.{made}
use Rattle.ap_patterns.specs.declared.slots.Slot.{Slot}
use Rattle.ap_patterns.specs.declared.slots.Slot.TheVariants.{Call, Success}
use Rattle.ap_patterns.specs.declared.slots.Given.{Given}
use Rattle.ap_patterns.specs.declared.entries.Mark.{Mark}
use Rattle.ap_patterns.specs.declared.entries.Mark.TheVariants.{Ground, Free, Any}
use Rattle.ap_patterns.specs.declared.entries.Entries.{Entries}
use Rattle.ap_patterns.specs.declared.entries.Entries.TheVariants.{All, One, Query}
use Rattle.ap_patterns.specs.Table.{predicate_of}
use Rattle.ap_patterns.specs.Places.{arguments, argument_sets, places, call_pattern}
use Rattle.ap_patterns.specs.Entering.{own}
use Rattle.ap_patterns.specs.Entry.{free_sets, any_marks, free_marks, marked_pattern}
use Rattle.ap_patterns.specs.Given.{Patterns, is_builtin, is_analysed, to_call, to_success, call_at, entered, after_goal, after_part, after_body, given_by_goal, given_in_turn, given_at_fork, given_by_part, given_by_body, given_from, any_pattern, anything, given_anyhow, given_by_all, given_by_any_part, given_unanalysed, given_by_clause, given_by_heads, given_by_entries, given}
use Rattle.ap_patterns.proofs.Arguments.{argument_sets-length}
use Rattle.ap_fixpoint.specs.Fix.{same_slot, joined, joined_all, kept, united, table}
use Rattle.ap_fixpoint.specs.Reads.{call_slot, success_slot}
use Rattle.ap_fixpoint.proofs.Members.{Has, Has-left, Has-right, Has-cases}
use Rattle.ap_fixpoint.proofs.Joins.{same_slot-true}
use Rattle.ap_fixpoint.proofs.Order.{filtered}
use Rattle.ap_fixpoint.proofs.Heights.{Bounded}

-- ---- sets below a power of two

empty_low : (k : ℕ) → empty < 2 ^ k
unfolding empty
empty_low k = pow_pos k

just_low : (x k : ℕ) → x < k → just x < 2 ^ k
unfolding just
just_low x k l = pow_below x k l

union_low : (k s t : ℕ) → s < 2 ^ k → t < 2 ^ k → union s t < 2 ^ k
unfolding union
union_low k s t h i = or_lt k s t h i

both_low : (b s t : ℕ) → t < b → both s t < b
unfolding both
both_low b s t h = omega (arith, and_le_r s t, h)

cond_low : (b : ℕ) (c : Bool) (s t : ℕ) → s < b → t < b → cond c s t < b
cond_low b true s t h i = h
cond_low b false s t h i = i

places_low : (k i s : ℕ) (args : List ℕ) → i + length args ≤ k → places i s args < 2 ^ k
places_low k i s [] l = empty_low k
places_low k i s (a ∷ args) l =
    union_low k (cond (meets s a) (just i) empty) (places (suc i) s args) (cond_low (2 ^ k) (meets s a) (just i) empty (just_low i k (omega (arith, l))) (empty_low k))
    (places_low k (suc i) s args (omega (arith, l)))

own_low : (k n : ℕ) → n < k → own n < 2 ^ k
own_low k zero l = empty_low k
own_low k (suc n) l = union_low k (own n) (just (suc n)) (own_low k n (omega (arith, l))) (just_low (suc n) k l)

-- ---- lists of them

abbrev AreLow : ℕ → List ℕ → Type 0
AreLow b ss = (s : ℕ) → listed s ss ≡ true → s < b

none_low : (b : ℕ) → AreLow b []
none_low b s h = absurd (false≢true h)

one_more_low : (b s : ℕ) (ss : List ℕ) → s < b → AreLow b ss → AreLow b (s ∷ ss)
one_more_low b s ss l h r i =
    elim (or_cases (nat_eq r s) (listed r ss) i) [ inl j ↦ subst (λ z. z < b) (sym (eqb-true r s j)) l | inr j ↦ h r j ]

joined_low : (b : ℕ) (ss ts : List ℕ) → AreLow b ss → AreLow b ts → AreLow b (join_sets ss ts)
joined_low b ss ts h k s i = elim (or_cases (listed s ss) (listed s ts) (sym (listed-join ss ts s) ∙ i)) [ inl j ↦ h s j | inr j ↦ k s j ]

sets_low : (b : ℕ) (ss : List ℕ) → AreLow b ss → AreLow b (sets_of ss)
sets_low b ss h = joined_low b [] ss (none_low b) h

mapped_low : (b : ℕ) (f : ℕ → ℕ) (ss : List ℕ) → ((s : ℕ) → f s < b) → AreLow b (map f ss)
mapped_low b f [] h = none_low b
mapped_low b f (s ∷ ss) h = one_more_low b (f s) (map f ss) (h s) (mapped_low b f ss h)

head_low : (b s : ℕ) (ss : List ℕ) → AreLow b (s ∷ ss) → (s < b) × AreLow b ss
head_low b s ss h = (h s (or_left (nat_eq s s) (listed s ss) (same_test s)), λ r i. h r (or_right (nat_eq r s) (listed r ss) i))

all_low : (k : ℕ) (ss : List ℕ) → AreLow (2 ^ k) ss → all_of ss < 2 ^ k
all_low k [] h = empty_low k
all_low k (s ∷ ss) h = let r = head_low (2 ^ k) s ss h in union_low k s (all_of ss) r.0 (all_low k ss r.1)

-- ---- states of them

abbrev IsLow : ℕ → Share → Type 0
IsLow b sh = (sh.any < b) × AreLow b sh.sets

norm_low : (k : ℕ) (sh : Share) → IsLow (2 ^ k) sh → IsLow (2 ^ k) (norm sh)
norm_low k sh h = go (too_many (dropped sh).sets)
  where
    sets : AreLow (2 ^ k) (dropped sh).sets
    sets s i = h.1 s (filtered _ s sh.sets i)

    go : (b : Bool) → IsLow (2 ^ k) (cond b (widen (dropped sh)) (dropped sh))
    go true = (union_low k sh.any (all_of (dropped sh).sets) h.0 (all_low k (dropped sh).sets sets), none_low (2 ^ k))
    go false = (h.0, sets)

made_bounded : (k : ℕ) (sh : Share) (fr : ℕ) → IsLow (2 ^ k) sh → Bounded (2 ^ k) (made sh fr)
made_bounded k sh fr h = record { any = h.0; sets = h.1; free = both_low (2 ^ k) fr (nonground sh) (union_low k sh.any (all_of sh.sets) h.0 (all_low k sh.sets h.1)) }

kept_bounded : (k : ℕ) (s : State) → Bounded (2 ^ k) s → Bounded (2 ^ k) (kept s)
kept_bounded k Unreachable f = tt
kept_bounded k (Reachable sh fr) f = made_bounded k (norm sh) fr (norm_low k sh (f.any, f.sets))

joined_bounded : (k : ℕ) (s t : State) → Bounded (2 ^ k) s → Bounded (2 ^ k) t → Bounded (2 ^ k) (joined s t)
joined_bounded k s Unreachable f g = f
joined_bounded k Unreachable (Reachable sh fr) f g = record { any = g.any; sets = sets_low (2 ^ k) sh.sets g.sets; free = g.free }
joined_bounded k (Reachable sh fr) (Reachable sh2 fr2) f g = record {
  any = union_low k sh.any sh2.any f.any g.any;
  sets = joined_low (2 ^ k) sh.sets sh2.sets f.sets g.sets;
  free = both_low (2 ^ k) fr fr2 g.free;
}

any_bounded : (k n : ℕ) → n < k → Bounded (2 ^ k) (any_pattern n)
any_bounded k n l = record { any = own_low k n l; sets = none_low (2 ^ k); free = empty_low k }

anything_bounded : (k : ℕ) (s : State) (goal : Tree) → count_trees (arguments goal) < k → Bounded (2 ^ k) (anything s goal)
anything_bounded k Unreachable goal l = tt
anything_bounded k (Reachable sh fr) goal l = any_bounded k (count_trees (arguments goal)) l

call_bounded : (k : ℕ) (s : State) (goal : Tree) → count_trees (arguments goal) < k → Bounded (2 ^ k) (call_pattern s goal)
call_bounded k Unreachable goal l = tt
call_bounded k (Reachable sh fr) goal l =
    made_bounded k _ _ (norm_low k _ (low sh.any, sets_low (2 ^ k) (map (λ s. places 1 s (argument_sets (arguments goal))) sh.sets) (mapped_low (2 ^ k) (λ s. places 1 s (argument_sets (arguments goal))) sh.sets low)))
  where
    low : (s : ℕ) → places 1 s (argument_sets (arguments goal)) < 2 ^ k
    low s = places_low k 1 s (argument_sets (arguments goal)) (let e = argument_sets-length (arguments goal) in omega (arith, l, e))

-- ---- the pattern of an entry

free_sets_low : (k i : ℕ) (ms : List Mark) → i + length ms ≤ k → AreLow (2 ^ k) (free_sets i ms)
free_sets_low k i [] l = none_low (2 ^ k)
free_sets_low k i (Free ∷ ms) l = one_more_low (2 ^ k) (just i) (free_sets (suc i) ms) (just_low i k (omega (arith, l))) (free_sets_low k (suc i) ms (omega (arith, l)))
free_sets_low k i (Ground ∷ ms) l = free_sets_low k (suc i) ms (omega (arith, l))
free_sets_low k i (Any ∷ ms) l = free_sets_low k (suc i) ms (omega (arith, l))

any_marks_low : (k i : ℕ) (ms : List Mark) → i + length ms ≤ k → any_marks i ms < 2 ^ k
any_marks_low k i [] l = empty_low k
any_marks_low k i (Any ∷ ms) l = union_low k (just i) (any_marks (suc i) ms) (just_low i k (omega (arith, l))) (any_marks_low k (suc i) ms (omega (arith, l)))
any_marks_low k i (Ground ∷ ms) l = any_marks_low k (suc i) ms (omega (arith, l))
any_marks_low k i (Free ∷ ms) l = any_marks_low k (suc i) ms (omega (arith, l))

marked_bounded : (k : ℕ) (ms : List Mark) → length ms < k → Bounded (2 ^ k) (marked_pattern ms)
marked_bounded k ms l =
    made_bounded k _ (free_marks 1 ms) (norm_low k _ (any_marks_low k 1 ms (omega (arith, l)), sets_low (2 ^ k) (free_sets 1 ms) (free_sets_low k 1 ms (omega (arith, l)))))

-- ---- the bound of a slot

abbrev pub arity_of : Slot → ℕ
arity_of (Call p) = p.arity
arity_of (Success p) = p.arity

abbrev pub marks_in : Entries → ℕ
marks_in All = 0
marks_in (One e) = length e.marks.items
marks_in Query = 0

abbrev pub bound : Entries → Slot → ℕ
bound E x = 2 ^ suc (arity_of x + marks_in E)

-- ---- what goes to which slots

-- all that is given goes to these slots, and is within their bounds
abbrev pub AreFor : Entries → List Slot → List Given → Type 0
AreFor E xs gs = (g : Given) → Has g gs → Has g.slot xs × Bounded (bound E g.slot) g.pattern

for_none : (E : Entries) (xs : List Slot) → AreFor E xs []
for_none E xs g h = absurd h

for_both : (E : Entries) (xs : List Slot) (gs hs : List Given) → AreFor E xs gs → AreFor E xs hs → AreFor E xs (gs ++ hs)
for_both E xs gs hs f k g h = elim (Has-cases g gs hs h) [ inl i ↦ f g i | inr i ↦ k g i ]

for_left : (E : Entries) (xs ys : List Slot) (gs : List Given) → AreFor E xs gs → AreFor E (xs ++ ys) gs
for_left E xs ys gs f g h = let r = f g h in (Has-left g.slot xs ys r.0, r.1)

for_right : (E : Entries) (xs ys : List Slot) (gs : List Given) → AreFor E ys gs → AreFor E (xs ++ ys) gs
for_right E xs ys gs f g h = let r = f g h in (Has-right g.slot xs ys r.0, r.1)

for_parts : (E : Entries) (xs ys : List Slot) (gs hs : List Given) → AreFor E xs gs → AreFor E ys hs → AreFor E (xs ++ ys) (gs ++ hs)
for_parts E xs ys gs hs f k = for_both E (xs ++ ys) gs hs (for_left E xs ys gs f) (for_right E xs ys hs k)

for_one : (E : Entries) (g : Given) → Bounded (bound E g.slot) g.pattern → AreFor E (g.slot ∷ []) (g ∷ [])
for_one E g f h (inl i) = (inl (ap (λ z. z.slot) i), subst (λ z. Bounded (bound E z.slot) z.pattern) (sym i) f)
for_one E g f h (inr i) = absurd i

abbrev width : Entries → Tree → ℕ
width E goal = suc (count_trees (arguments goal) + marks_in E)

for_call : (E : Entries) (goal : Tree) (s : State) → Bounded (2 ^ width E goal) s → AreFor E (call_slot (predicate_of goal)) (to_call (predicate_of goal) s)
for_call E (var x) s f = for_none E []
for_call E (int z) s f = for_none E []
for_call E (atom a) s f = for_one E _ f
for_call E (node a ts) s f = for_one E _ f

for_success : (E : Entries) (goal : Tree) (s : State) → Bounded (2 ^ width E goal) s → AreFor E (success_slot (predicate_of goal)) (to_success (predicate_of goal) s)
for_success E (var x) s f = for_none E []
for_success E (int z) s f = for_none E []
for_success E (atom a) s f = for_one E _ f
for_success E (node a ts) s f = for_one E _ f

for_if : (E : Entries) (xs : List Slot) (b : Bool) (gs : List Given) → AreFor E xs gs → AreFor E xs (cond b [] gs)
for_if E xs true gs f = for_none E xs
for_if E xs false gs f = f

for_goal : (E : Entries) (s : State) (goal : Tree) → AreFor E (call_slot (predicate_of goal)) (given_by_goal s goal)
for_goal E s goal = for_if E _ (is_builtin goal) _ (for_call E goal (call_pattern s goal) (call_bounded (width E goal) s goal (omega arith)))

for_anyhow : (E : Entries) (s : State) (goal : Tree) → AreFor E (call_slot (predicate_of goal)) (given_anyhow s goal)
for_anyhow E s goal = for_if E _ (is_builtin goal) _ (for_call E goal (anything s goal) (anything_bounded (width E goal) s goal (omega arith)))

-- ---- goals, bodies, clauses

abbrev pub slots_called : Trees → List Slot
slots_called none = []
slots_called (more g gs) = call_slot (predicate_of g) ++ slots_called gs

abbrev pub slots_called_by : Part → List Slot
slots_called_by (call g) = call_slot (predicate_of g)
slots_called_by (group cs gs) = slots_called gs

abbrev pub slots_given_by : Clause → List Slot
slots_given_by c = flat_map slots_called_by c.body ++ success_slot (predicate_of c.head)

for_turn : (E : Entries) (t : Patterns) (s : State) (gs : Trees) → AreFor E (slots_called gs) (given_in_turn t s gs)
for_turn E t s none = for_none E []
for_turn E t s (more g gs) = for_parts E _ (slots_called gs) _ _ (for_goal E s g) (for_turn E t (after_goal t s g) gs)

for_fork : (E : Entries) (s : State) (gs : Trees) → AreFor E (slots_called gs) (given_at_fork s gs)
for_fork E s none = for_none E []
for_fork E s (more g gs) = for_parts E _ (slots_called gs) _ _ (for_goal E s g) (for_fork E s gs)

for_part : (E : Entries) (t : Patterns) (s : State) (p : Part) → AreFor E (slots_called_by p) (given_by_part t s p)
for_part E t s (call g) = for_goal E s g
for_part E t s (group cs gs) = for_both E (slots_called gs) _ _ (for_fork E s gs) (for_turn E t s gs)

for_body : (E : Entries) (t : Patterns) (s : State) (ps : List Part) → AreFor E (flat_map slots_called_by ps) (given_by_body t s ps)
for_body E t s [] = for_none E []
for_body E t s (p ∷ ps) = for_parts E (slots_called_by p) _ _ _ (for_part E t s p) (for_body E t (after_part t s p) ps)

for_all : (E : Entries) (s : State) (gs : Trees) → AreFor E (slots_called gs) (given_by_all s gs)
for_all E s none = for_none E []
for_all E s (more g gs) = for_parts E _ (slots_called gs) _ _ (for_anyhow E s g) (for_all E s gs)

for_any_part : (E : Entries) (s : State) (p : Part) → AreFor E (slots_called_by p) (given_by_any_part s p)
for_any_part E s (call g) = for_anyhow E s g
for_any_part E s (group cs gs) = for_all E s gs

for_any_body : (E : Entries) (s : State) (ps : List Part) → AreFor E (flat_map slots_called_by ps) (flat_map (given_by_any_part s) ps)
for_any_body E s [] = for_none E []
for_any_body E s (p ∷ ps) = for_parts E (slots_called_by p) _ _ _ (for_any_part E s p) (for_any_body E s ps)

for_clause : (E : Entries) (t : Patterns) (c : Clause) → AreFor E (slots_given_by c) (given_by_clause t c)
for_clause E t c = go (is_analysed c)
  where
    analysed : (s : State) → AreFor E (slots_given_by c) (given_from t s c)
    analysed s =
        for_parts E (flat_map slots_called_by c.body) _ _ _ (for_body E t s c.body)
        (for_success E c.head (call_pattern (after_body t s c.body) c.head) (call_bounded (width E c.head) (after_body t s c.body) c.head (omega arith)))

    unanalysed : (s : State) → AreFor E (slots_given_by c) (given_unanalysed s c)
    unanalysed s =
        for_parts E (flat_map slots_called_by c.body) _ _ _ (for_any_body E s c.body) (for_success E c.head (anything s c.head) (anything_bounded (width E c.head) s c.head (omega arith)))

    go : (b : Bool) → AreFor E (slots_given_by c) (cond b (given_from t (entered t c) c) (given_unanalysed (call_at t (predicate_of c.head)) c))
    go true = analysed (entered t c)
    go false = unanalysed (call_at t (predicate_of c.head))

for_clauses : (E : Entries) (t : Patterns) (A : Program) → AreFor E (flat_map slots_given_by A) (flat_map (given_by_clause t) A)
for_clauses E t [] = for_none E []
for_clauses E t (c ∷ cs) = for_parts E (slots_given_by c) _ _ _ (for_clause E t c) (for_clauses E t cs)

-- ---- entries, and programs

abbrev pub slots_entered : Entries → Program → List Slot
slots_entered E A = map (λ g. g.slot) (given_by_entries E A)

for_themselves : (E : Entries) (gs : List Given) → ((g : Given) → Has g gs → Bounded (bound E g.slot) g.pattern) → AreFor E (map (λ g. g.slot) gs) gs
for_themselves E [] f = for_none E []
for_themselves E (g ∷ gs) f = for_parts E (g.slot ∷ []) (map (λ h. h.slot) gs) (g ∷ []) gs (for_one E g (f g (inl refl))) (for_themselves E gs (λ h i. f h (inr i)))

for_heads : (E : Entries) (A : Program) (g : Given) → Has g (given_by_heads A) → Bounded (bound E g.slot) g.pattern
for_heads E [] g h = absurd h
for_heads E (c ∷ cs) g h =
    elim (Has-cases g (to_call (predicate_of c.head) (any_pattern (count_trees (arguments c.head)))) (given_by_heads cs) h) [
      | inl i ↦ (for_call E c.head (any_pattern (count_trees (arguments c.head))) (any_bounded (width E c.head) (count_trees (arguments c.head)) (omega arith)) g i).1
      | inr i ↦ for_heads E cs g i
    ]

for_entries : (E : Entries) (A : Program) (g : Given) → Has g (given_by_entries E A) → Bounded (bound E g.slot) g.pattern
for_entries All A g h = for_heads All A g h
for_entries (One e) A g h = (for_one (One e) (record { slot = Call e.predicate; pattern = marked_pattern e.marks.items }) (marked_bounded _ e.marks.items (omega arith)) g h).1
for_entries Query A g h = (for_one Query _ (any_bounded 1 0 (omega arith)) g h).1

-- the slots to which anything is ever given
abbrev pub slots : Entries → Program → List Slot
slots E A = slots_entered E A ++ flat_map slots_given_by A

pub for_given : (E : Entries) (A : Program) (t : Patterns) → AreFor E (slots E A) (given E A t)
for_given E A t = for_parts E (slots_entered E A) _ _ _ (for_themselves E (given_by_entries E A) (for_entries E A)) (for_clauses E t A)

-- ---- each table is within the bounds

joined_all_bounded : (k : ℕ) (x : Slot) (s : State) (gs : List Given) → Bounded (2 ^ k) s → ((g : Given) → Has g gs → same_slot g.slot x ≡ true → Bounded (2 ^ k) g.pattern) → Bounded (2 ^ k) (joined_all x s gs)
joined_all_bounded k x s [] f h = f
joined_all_bounded k x s (g ∷ gs) f h = joined_all_bounded k x (cond (same_slot g.slot x) (joined s g.pattern) s) gs (go (same_slot g.slot x) refl) (λ r i. h r (inr i))
  where
    go : (b : Bool) → same_slot g.slot x ≡ b → Bounded (2 ^ k) (cond b (joined s g.pattern) s)
    go true e = joined_bounded k s g.pattern f (h g (inl refl) e)
    go false e = f

abbrev pub AllBounded : Entries → Patterns → Type 0
AllBounded E t = (x : Slot) → Bounded (bound E x) (t x)

pub united-bounded : (E : Entries) (xs : List Slot) (gs : List Given) (t : Patterns) → AreFor E xs gs → AllBounded E t → AllBounded E (united gs t)
united-bounded E xs gs t h f x =
    kept_bounded (suc (arity_of x + marks_in E)) (joined_all x (t x) gs)
    (joined_all_bounded (suc (arity_of x + marks_in E)) x (t x) gs (f x) (λ g i e. subst (λ y. Bounded (bound E y) g.pattern) (same_slot-true g.slot x e) (h g i).1))

pub table-bounded : (E : Entries) (A : Program) (n : ℕ) → AllBounded E (table E A n)
table-bounded E A zero = λ x. tt
table-bounded E A (suc n) = united-bounded E (slots E A) (given E A (table E A n)) (table E A n) (for_given E A (table E A n)) (table-bounded E A n)
