-- Loops over the slots of a frame, each of which is changed by its place.
use Rattle.std.proofs.Common.{◌≡◌, ℕ, zero, suc, ◌+◌, ◌<◌, ◌≤◌, Bool, true, false, ◌||◌, drop_of_length-le, if◌then◌else◌, List, [], ◌∷◌, ◌++◌, map, length, drop, get_or, set, refl, ap, ap₂, sym, ◌∙◌, subst, arith}
use Rattle.std.proofs.lemmas.Bool.{false≢true}
use Rattle.std.specs.Ordering.{nat_cmp}
use Rattle.std.proofs.Common.{Option, Some, None}
use Rattle.ap_core.specs.declared.events.Kind.{Kind}
use Rattle.ap_core.specs.Outcome.{in_place, below_slot, at_place, at_progress}
use Rattle.ap_core.specs.declared.tasks.Slot.{Slot}
use Rattle.ap_term.specs.Tree.{Tree}
use Rattle.ap_core.specs.Tasks.{Answer, Task, Slots, no_slot, slot, Progress, idle, stored, busy, held, redone, again, drained}
use Rattle.ap_core.specs.declared.tasks.Answer.{Answer as CodeAnswer}
use Rattle.ap_core.specs.declared.tasks.Busy.TheVariants.{Running}
use Rattle.ap_core.specs.TaskView.{Place, answer_of, slot_view, slots_of, slots_view}
use Rattle.ap_core.specs.Conditions.{has_more, is_running, some_has_more, spent_by}
use Rattle.ap_core.specs.declared.events.Kind.TheVariants as kinds
use Rattle.ap_core.specs.Relation.{Rules, Recorded, given, mapped, in_task, in_slots, in_slot, put_away, all_put_away, redo_from, restarted_with, kept, readied, each_slot}
use Rattle.ap_core.proofs.Views.{slots_view-drop_more}
use Rattle.ap_core.specs.Rounds.{changed_place, settled_place, place_to_redo, settled_at, answered_by}
use Rattle.ap_term.proofs.Facts.{cmp_less, cmp_equal, cmp_greater}

-- what runs on
pub restarted-answered_by : (r : ℕ) (b : Bool) (m : List Answer) (a : Answer) (t : Task) (c : ℕ) → restarted_with r (answered_by b m a t c) ≡ redone (m ++ a ∷ []) Running (given r t) (spent_by t)
restarted-answered_by r true m a t c = refl
restarted-answered_by r false m a t c = refl

pub answers_more : (xs : List CodeAnswer) (a : CodeAnswer) → map answer_of (xs ++ a ∷ []) ≡ map answer_of xs ++ answer_of a ∷ []
answers_more [] a = refl
answers_more (x ∷ xs) a = ap (λ ys. answer_of x ∷ ys) (answers_more xs a)

pub ruleset restart_rows = (restarted-answered_by, answers_more)

-- the first j places changed, each by its number, which counts from n
abbrev pub mixed : (ℕ → Place → Place) → ℕ → ℕ → List Place → List Place
mixed f n zero zs = zs
mixed f n (suc j) [] = []
mixed f n (suc j) (z ∷ zs) = f n z ∷ mixed f (suc n) j zs

tail_same : (x y : Place) (xs ys : List Place) → x ∷ xs ≡ y ∷ ys → xs ≡ ys
tail_same x y xs ys h = cc

-- one more place is changed
mixed_suc : (f : ℕ → Place → Place) (n j : ℕ) (xs : List Slot) (zs : List Place) (v d : Slot) → map slot_view xs ≡ mixed f n j zs → j < length xs → slot_view v ≡ f (n + j) (slot_view (get_or xs j d))
    → map slot_view (set xs j v) ≡ mixed f n (suc j) zs
mixed_suc f n j [] zs v d h k e = absurd (omega arith)
mixed_suc f n zero (x ∷ xs) [] v d h k e = absurd (cc)
mixed_suc f n zero (x ∷ xs) (z ∷ zs) v d h k e =
    let same : slot_view x ≡ z = cc in
    let rest : map slot_view xs ≡ zs = cc in
    let m : n + 0 ≡ n = omega arith in
    ap₂ (λ a b. a ∷ b) (e ∙ ap₂ f m same) rest
mixed_suc f n (suc j) (x ∷ xs) [] v d h k e = absurd (cc)
mixed_suc f n (suc j) (x ∷ xs) (z ∷ zs) v d h k e =
    let same : slot_view x ≡ f n z = cc in
    let rest : map slot_view xs ≡ mixed f (suc n) j zs = cc in
    let m : n + suc j ≡ suc n + j = omega arith in
    ap₂ (λ a b. a ∷ b) same (mixed_suc f (suc n) j xs zs v d rest (omega arith) (e ∙ ap (λ i. f i (slot_view (get_or xs j d))) m))

pub mixed_more : (f : ℕ → Place → Place) (j : ℕ) (xs : List Slot) (zs : List Place) (v d : Slot) → map slot_view xs ≡ mixed f 0 j zs → j < length xs → slot_view v ≡ f j (slot_view (get_or xs j d))
    → map slot_view (set xs j v) ≡ mixed f 0 (j + 1) zs
mixed_more f j xs zs v d h k e =
    let m : j ≡ 0 + j = omega arith in
    let s : suc j ≡ j + 1 = omega arith in
    subst (λ i. map slot_view (set xs j v) ≡ mixed f 0 i zs) s (mixed_suc f 0 j xs zs v d h k (e ∙ ap (λ i. f i (slot_view (get_or xs j d))) m))

mixed-readied : (n j : ℕ) (zs : List Place) → length zs ≤ j → slots_of (mixed (λ i. changed_place readied) n j zs) ≡ each_slot readied (slots_of zs)
mixed-readied n zero [] h = refl
mixed-readied n zero (z ∷ zs) h = absurd (omega arith)
mixed-readied n (suc j) [] h = refl
mixed-readied n (suc j) (z ∷ zs) h = ap (slot z.0 z.1 (readied z.2)) (mixed-readied (suc n) j zs (omega arith))

length-mixed : (f : ℕ → Place → Place) (n j : ℕ) (zs : List Place) → length (mixed f n j zs) ≡ length zs
length-mixed f n zero zs = refl
length-mixed f n (suc j) [] = refl
length-mixed f n (suc j) (z ∷ zs) = ap suc (length-mixed f (suc n) j zs)

length-map : (xs : List Slot) → length (map slot_view xs) ≡ length xs
length-map [] = refl
length-map (x ∷ xs) = ap suc (length-map xs)

pub mixed_readied_all : (j : ℕ) (xs ys : List Slot) → map slot_view ys ≡ mixed (λ i. changed_place readied) 0 j (map slot_view xs) → length ys ≤ j → slots_view ys ≡ each_slot readied (slots_view xs)
mixed_readied_all j xs ys h k =
    let n : length xs ≡ length ys = sym (length-map xs) ∙ sym (length-mixed (λ i. changed_place readied) 0 j (map slot_view xs)) ∙ ap length (sym h) ∙ length-map ys in
    ap slots_of h ∙ mixed-readied 0 j (map slot_view xs) (omega (arith, length-map xs))

abbrev pub by_side : ℕ → ℕ → Place → Place
by_side i j = settled_place (nat_cmp j i)

mixed-waiting : (i n j : ℕ) (zs : List Place) → i < n → length zs ≤ j → slots_of (mixed (by_side i) n j zs) ≡ all_put_away (slots_of zs)
mixed-waiting i n zero [] l h = refl
mixed-waiting i n zero (z ∷ zs) l h = absurd (omega arith)
mixed-waiting i n (suc j) [] l h = refl
mixed-waiting i n (suc j) (z ∷ zs) l h =
    ap (λ o. slot (settled_place o z).0 (settled_place o z).1 (settled_place o z).2 (slots_of (mixed (by_side i) (suc n) j zs))) (cmp_greater n i l)
    ∙ ap (slot z.0 z.1 (put_away z.1 z.2)) (mixed-waiting i (suc n) j zs (omega arith) (omega arith))

mixed-settled : (i n j : ℕ) (zs : List Place) → length zs ≤ j → slots_of (mixed (by_side (n + i)) n j zs) ≡ settled_at i (slots_of zs)
mixed-settled i n zero [] h = refl
mixed-settled i n zero (z ∷ zs) h = absurd (omega arith)
mixed-settled i n (suc j) [] h = refl
mixed-settled zero n (suc j) (z ∷ zs) h =
    ap (λ o. slot (settled_place o z).0 (settled_place o z).1 (settled_place o z).2 (slots_of (mixed (by_side (n + 0)) (suc n) j zs))) (cmp_equal n (n + 0) (omega arith))
    ∙ ap (slot z.0 z.1 z.2) (mixed-waiting (n + 0) (suc n) j zs (omega arith) (omega arith))
mixed-settled (suc i) n (suc j) (z ∷ zs) h =
    let m : n + suc i ≡ suc n + i = omega arith in
    ap (λ o. slot (settled_place o z).0 (settled_place o z).1 (settled_place o z).2 (slots_of (mixed (by_side (n + suc i)) (suc n) j zs))) (cmp_less n (n + suc i) (omega arith))
    ∙ ap (λ k. slot z.0 z.1 (kept z.2) (slots_of (mixed (by_side k) (suc n) j zs))) m
    ∙ ap (slot z.0 z.1 (kept z.2)) (mixed-settled i (suc n) j zs (omega arith))

pub mixed_settled_all : (i j : ℕ) (xs ys : List Slot) → map slot_view ys ≡ mixed (by_side i) 0 j (map slot_view xs) → length ys ≤ j → slots_view ys ≡ settled_at i (slots_view xs)
mixed_settled_all i j xs ys h k =
    let n : length xs ≡ length ys = sym (length-map xs) ∙ sym (length-mixed (by_side i) 0 j (map slot_view xs)) ∙ ap length (sym h) ∙ length-map ys in
    let m : i ≡ 0 + i = omega arith in
    ap slots_of h ∙ ap (λ a. slots_of (mixed (by_side a) 0 j (map slot_view xs))) m ∙ mixed-settled i 0 j (map slot_view xs) (omega (arith, length-map xs))

-- the rightmost slot that has more is restarted, and then each is settled
pub redone_at : (r i : ℕ) (xs : List Slot) (v d : Slot) → i ≡ place_to_redo (slots_view xs) → i < length xs → slot_view v ≡ changed_place (restarted_with r) (slot_view (get_or xs i d))
    → settled_at i (slots_view (set xs i v)) ≡ redo_from r (slots_view xs)
redone_at r i [] v d p h e = absurd (omega arith)
redone_at r i (x ∷ xs) v d p h e = go i (some_has_more (slots_view xs)) refl p h e (λ j q k f. redone_at r j xs v d q k f)
  where
    go : (i : ℕ) (b : Bool) → some_has_more (slots_view xs) ≡ b → i ≡ (if b then place_to_redo (slots_view xs) + 1 else 0) → i < length (x ∷ xs)
        → slot_view v ≡ changed_place (restarted_with r) (slot_view (get_or (x ∷ xs) i d))
        → ((j : ℕ) → j ≡ place_to_redo (slots_view xs) → j < length xs → slot_view v ≡ changed_place (restarted_with r) (slot_view (get_or xs j d)) → settled_at j (slots_view (set xs j v)) ≡ redo_from r (slots_view xs))
        → settled_at i (slots_view (set (x ∷ xs) i v)) ≡ (if b then slot (slot_view x).0 (slot_view x).1 (kept (slot_view x).2) (redo_from r (slots_view xs)) else slot (slot_view x).0 (slot_view x).1 (restarted_with r (slot_view x).2) (all_put_away (slots_view xs)))
    go zero true b p h e rec = absurd (omega arith)
    go (suc j) false b p h e rec = absurd (omega arith)
    go zero false b p h e rec = ap (λ z. slot z.0 z.1 z.2 (all_put_away (slots_view xs))) e
    go (suc j) true b p h e rec = ap (slot (slot_view x).0 (slot_view x).1 (kept (slot_view x).2)) (rec j (omega arith) (omega arith) e)

has_place : (xs : List Slot) → some_has_more (slots_view xs) ≡ true → 0 < length xs
has_place [] e = absurd (false≢true e)
has_place (x ∷ xs) e = omega arith

-- the place is one of the slots
place_within : (xs : List Slot) → 0 < length xs → place_to_redo (slots_view xs) < length xs
place_within [] h = absurd (omega arith)
place_within (x ∷ xs) h = go (some_has_more (slots_view xs)) refl (λ k. place_within xs k)
  where
    go : (b : Bool) → some_has_more (slots_view xs) ≡ b → (0 < length xs → place_to_redo (slots_view xs) < length xs) → (if b then place_to_redo (slots_view xs) + 1 else 0) < length (x ∷ xs)
    go true e rec = omega (arith, rec (has_place xs e))
    go false e rec = omega arith

pub redo_from-none : (r i : ℕ) (xs : List Slot) → i ≡ place_to_redo (slots_view xs) → length xs ≤ i → redo_from r (slots_view xs) ≡ slots_view xs
redo_from-none r i [] p h = refl
redo_from-none r i (x ∷ xs) p h = absurd (omega (arith, place_within (x ∷ xs) (omega arith)))

-- an event in the place i + 1 of a list of slots
pub in_slots_set : (p : Rules) (k : Kind) (i : ℕ) (path : List ℕ) (r b : ℕ) (xs : List Slot) (d v : Slot) → i < length xs → in_place p k path r b (slot_view (get_or xs i d)) ≡ Some (slot_view v)
    → in_slots p k (i + 1) path r b (slots_view xs) ≡ Some (slots_view (set xs i v))
in_slots_set p k i path r b [] d v h e = absurd (omega arith)
in_slots_set p k zero path r b (x ∷ xs) d v h e = go (in_slot p k path r b (slot_view x).0 (slot_view x).1 (slot_view x).2) e
  where
    go : (o : Option Recorded) → mapped (λ y. ((slot_view x).0, y.0, y.1)) o ≡ Some (slot_view v) → mapped (λ y. slot (slot_view x).0 y.0 y.1 (slots_view xs)) o ≡ Some (slots_view (v ∷ xs))
    go None e = absurd (cc)
    go (Some y) e = let q : ((slot_view x).0, y.0, y.1) ≡ slot_view v = cc in ap (λ z. Some (slot z.0 z.1 z.2 (slots_view xs))) q
in_slots_set p k (suc i) path r b (x ∷ xs) d v h e =
    let m : suc i + 1 ≡ suc (suc i) = omega arith in
    let n : suc i ≡ i + 1 = omega arith in
    ap (λ j. in_slots p k j path r b (slots_view (x ∷ xs))) m
    ∙ ap (λ j. mapped (slot (slot_view x).0 (slot_view x).1 (slot_view x).2) (in_slots p k j path r b (slots_view xs))) n
    ∙ ap (mapped (slot (slot_view x).0 (slot_view x).1 (slot_view x).2)) (in_slots_set p k i path r b xs d v (omega arith) e)

pub in_slots_none : (p : Rules) (k : Kind) (i : ℕ) (path : List ℕ) (r b : ℕ) (xs : List Slot) (d : Slot) → i < length xs → in_place p k path r b (slot_view (get_or xs i d)) ≡ None
    → in_slots p k (i + 1) path r b (slots_view xs) ≡ None
in_slots_none p k i path r b [] d h e = absurd (omega arith)
in_slots_none p k zero path r b (x ∷ xs) d h e = go (in_slot p k path r b (slot_view x).0 (slot_view x).1 (slot_view x).2) e
  where
    go : (o : Option Recorded) → mapped {B = Place} (λ y. ((slot_view x).0, y.0, y.1)) o ≡ None → mapped (λ y. slot (slot_view x).0 y.0 y.1 (slots_view xs)) o ≡ None
    go None e = refl
    go (Some y) e = absurd (cc)
in_slots_none p k (suc i) path r b (x ∷ xs) d h e =
    let m : suc i + 1 ≡ suc (suc i) = omega arith in
    let n : suc i ≡ i + 1 = omega arith in
    ap (λ j. in_slots p k j path r b (slots_view (x ∷ xs))) m
    ∙ ap (λ j. mapped (slot (slot_view x).0 (slot_view x).1 (slot_view x).2) (in_slots p k j path r b (slots_view xs))) n
    ∙ ap (mapped (slot (slot_view x).0 (slot_view x).1 (slot_view x).2)) (in_slots_none p k i path r b xs d (omega arith) e)

-- no slot stands in the place 0, nor behind the last one
pub in_slots_zero : (p : Rules) (k : Kind) (path : List ℕ) (r b : ℕ) (w : Slots) → in_slots p k 0 path r b w ≡ None
in_slots_zero p k path r b no_slot = refl
in_slots_zero p k path r b (slot g o x w) = refl

pub in_slots_past : (p : Rules) (k : Kind) (i : ℕ) (path : List ℕ) (r b : ℕ) (xs : List Slot) → length xs < i → in_slots p k i path r b (slots_view xs) ≡ None
in_slots_past p k i path r b [] h = none i
  where
    none : (i : ℕ) → in_slots p k i path r b no_slot ≡ None
    none i = refl
in_slots_past p k zero path r b (x ∷ xs) h = absurd (omega arith)
in_slots_past p k (suc zero) path r b (x ∷ xs) h = absurd (omega arith)
in_slots_past p k (suc (suc i)) path r b (x ∷ xs) h = ap (mapped (slot (slot_view x).0 (slot_view x).1 (slot_view x).2)) (in_slots_past p k (suc i) path r b xs (omega arith))

-- below a slot, whose record stays
of_below : (g : Tree) (o : Bool) (f : Task → Progress) (b : Bool) (t : Option Task) → mapped {A = Recorded} {B = Place} (λ y. (g, y.0, y.1)) (if b then mapped {A = Task} {B = Recorded} (λ u. (o, f u)) t else None) ≡ mapped {A = Progress} {B = Place} (λ y. (g, o, y)) (if b then mapped f t else None)
of_below g o f true None = refl
of_below g o f true (Some u) = refl
of_below g o f false t = refl

pub in_place-below : (p : Rules) (k : Kind) (j : ℕ) (path : List ℕ) (r b : ℕ) (z : Place) → in_place p k (j ∷ path) r b z ≡ mapped (λ y. (z.0, z.1, y)) (below_slot p k j path z.2)
in_place-below p k j path r b (g, o, idle i) = refl
in_place-below p k j path r b (g, o, stored m) = refl
in_place-below p k j path r b (g, o, busy x t) = of_below g o (busy x) (is_running x) (in_task p k j path t)
in_place-below p k j path r b (g, o, held m a t c) = refl
in_place-below p k j path r b (g, o, redone m x t i) = of_below g o (λ u. redone m x u i) (is_running x) (in_task p k j path t)
in_place-below p k j path r b (g, o, again m a t c) = refl
in_place-below p k j path r b (g, o, drained m x t i e) = of_below g o (λ u. drained m x u i e) (is_running x) (in_task p k j path t)

-- a slot written by one that stands for the same
pub set_same : (i : ℕ) (xs : List Slot) (d v : Slot) → i < length xs → slot_view v ≡ slot_view (get_or xs i d) → slots_view (set xs i v) ≡ slots_view xs
set_same i [] d v h e = absurd (omega arith)
set_same zero (x ∷ xs) d v h e = ap (λ z. slot z.0 z.1 z.2 (slots_view xs)) e
set_same (suc i) (x ∷ xs) d v h e = ap (slot (slot_view x).0 (slot_view x).1 (slot_view x).2) (set_same i xs d v (omega arith) e)

pub ruleset below_rows = in_place-below

pub ruleset along_rows = (in_slots_set, in_slots_none, in_slots_zero, in_slots_past, set_same)

pub ruleset readied_rows = (mixed_more, mixed_readied_all)

-- the place that a walk finds which has come to the slots w, the first of them being number i, and has found p
abbrev pub pending : ℕ → ℕ → Slots → ℕ
pending i p w = if some_has_more w then place_to_redo w + i else p

pub place_first : (xs : List Slot) → place_to_redo (slots_view xs) ≡ pending 0 0 (slots_view xs)
place_first [] = refl
place_first (x ∷ xs) = go (some_has_more (slots_view xs)) (has_more (slot_view x).2)
  where
    go : (a b : Bool) → (if a then place_to_redo (slots_view xs) + 1 else 0) ≡ (if (b || a) then (if a then place_to_redo (slots_view xs) + 1 else 0) + 0 else 0)
    go true true = omega arith
    go true false = omega arith
    go false true = omega arith
    go false false = omega arith

pending-slot : (g : Tree) (k : Bool) (x : Progress) (w : Slots) (i p : ℕ) → pending i p (slot g k x w) ≡ pending (i + 1) (if has_more x then i else p) w
pending-slot g k x w i p = go (some_has_more w) (has_more x)
  where
    go : (a b : Bool) → (if (b || a) then (if a then place_to_redo w + 1 else 0) + i else p) ≡ (if a then place_to_redo w + (i + 1) else (if b then i else p))
    go true true = omega arith
    go true false = omega arith
    go false true = omega arith
    go false false = omega arith

pub place_step : (xs : List Slot) (i : ℕ) (x : Slot) (p q : ℕ) → i < length xs → x ≡ get_or xs i x → q ≡ (if has_more (slot_view x).2 then i else p) → place_to_redo (slots_view xs) ≡ pending i p (slots_view (drop i xs))
    → place_to_redo (slots_view xs) ≡ pending (i + 1) q (slots_view (drop (i + 1) xs))
place_step xs i x p q h e v k =
    k ∙ ap (pending i p) (slots_view-drop_more xs i x h e) ∙ pending-slot (slot_view x).0 (slot_view x).1 (slot_view x).2 (slots_view (drop (i + 1) xs)) i p
    ∙ ap (λ n. pending (i + 1) n (slots_view (drop (i + 1) xs))) (sym v)

pub place_end : (xs : List Slot) (i p : ℕ) → length xs ≤ i → place_to_redo (slots_view xs) ≡ pending i p (slots_view (drop i xs)) → p ≡ place_to_redo (slots_view xs)
place_end xs i p h k = sym (k ∙ ap (λ ys. pending i p (slots_view ys)) (drop_of_length-le xs h))

pub ruleset place_rows = (place_first, place_step, place_end)

pub ruleset settled_rows = (mixed_more, mixed_settled_all)

pub ruleset redo_rows = (redone_at, redo_from-none, set_same)

-- but for giving a record up, an event of a slot is one of its progress
of_recorded : (g : Tree) (o : Bool) (x : Option Progress) → mapped {A = Recorded} {B = Place} (λ y. (g, y.0, y.1)) (mapped {A = Progress} {B = Recorded} (λ y. (o, y)) x) ≡ mapped {A = Progress} {B = Place} (λ y. (g, o, y)) x
of_recorded g o None = refl
of_recorded g o (Some x) = refl

pub at_place-kept : (p : Rules) (k : Kind) (r b : ℕ) (z : Place) → (k ≡ kinds.Forget → ⊥) → at_place p k r b z ≡ mapped (λ y. (z.0, z.1, y)) (at_progress p k r b z.0 z.2)
at_place-kept p kinds.Infer r b z h = of_recorded z.0 z.1 (at_progress p kinds.Infer r b z.0 z.2)
at_place-kept p kinds.Fork r b z h = of_recorded z.0 z.1 (at_progress p kinds.Fork r b z.0 z.2)
at_place-kept p kinds.Start r b z h = of_recorded z.0 z.1 (at_progress p kinds.Start r b z.0 z.2)
at_place-kept p kinds.Answer r b z h = of_recorded z.0 z.1 (at_progress p kinds.Answer r b z.0 z.2)
at_place-kept p kinds.Fail r b z h = of_recorded z.0 z.1 (at_progress p kinds.Fail r b z.0 z.2)
at_place-kept p kinds.Spend r b z h = of_recorded z.0 z.1 (at_progress p kinds.Spend r b z.0 z.2)
at_place-kept p kinds.Stop r b z h = of_recorded z.0 z.1 (at_progress p kinds.Stop r b z.0 z.2)
at_place-kept p kinds.Stopped r b z h = of_recorded z.0 z.1 (at_progress p kinds.Stopped r b z.0 z.2)
at_place-kept p kinds.Join r b z h = of_recorded z.0 z.1 (at_progress p kinds.Join r b z.0 z.2)
at_place-kept p kinds.Break r b z h = of_recorded z.0 z.1 (at_progress p kinds.Break r b z.0 z.2)
at_place-kept p kinds.Redo r b z h = of_recorded z.0 z.1 (at_progress p kinds.Redo r b z.0 z.2)
at_place-kept p kinds.Restart r b z h = of_recorded z.0 z.1 (at_progress p kinds.Restart r b z.0 z.2)
at_place-kept p kinds.Raise r b z h = of_recorded z.0 z.1 (at_progress p kinds.Raise r b z.0 z.2)
at_place-kept p kinds.Drain r b z h = of_recorded z.0 z.1 (at_progress p kinds.Drain r b z.0 z.2)
at_place-kept p kinds.Replay r b z h = of_recorded z.0 z.1 (at_progress p kinds.Replay r b z.0 z.2)
at_place-kept p kinds.Forget r b z h = absurd (h refl)

pub ruleset at_rows = at_place-kept
