-- Stored answers that come again, in a list of slots.
use Rattle.std.proofs.Common.{◌≡◌, ℕ, zero, suc, ◌+◌, ◌-◌, ◌<◌, ◌≤◌, List, [], ◌∷◌, ◌++◌, map, Option, Some, None, length, drop, drop_of_length-le, get_or, set, refl, ap, ap₂, sym, ◌∙◌, subst, arith}
use Rattle.std.proofs.lemmas.List.{map-append, drop_more}
use Rattle.ap_core.specs.declared.tasks.Progress.{Progress as CodeProgress}
use Rattle.ap_core.specs.declared.tasks.Slot.{Slot}
use Rattle.ap_core.specs.declared.tasks.Idle.TheVariants.{Ready, Waiting, GivenBack}
use Rattle.ap_core.specs.Tasks.{Slots, no_slot, slot, Progress, idle, stored, busy, held, redone, again, drained}
use Rattle.ap_core.specs.TaskView.{Place, slot_view, slots_of, slots_view}
use Rattle.ap_core.specs.Relation.{replayed, each_slot}
use Rattle.ap_spec.specs.declared.states.State.{State}
use Rattle.ap_spec.specs.States.{state_of}
use Rattle.ap_laws.specs.Plain.{as_state}
use Rattle.ap_core.specs.declared.tasks.Answer.{Answer as CodeAnswer}
use Rattle.ap_core.specs.declared.tasks.Alternative.{Alternative}
use Rattle.ap_core.specs.declared.tasks.Alternative.TheVariants as code
use Rattle.ap_core.specs.Tasks.{Answer, Alternatives, alternative, state}
use Rattle.ap_core.specs.TaskView.{answer_of, last_of, alternative_view, stacked}
use Rattle.ap_core.specs.Relation.{plain_answer, states, as_states}
use Rattle.ap_core.proofs.Alternatives.{stacked-push}
use Rattle.ap_core.proofs.Levels.{view_state}
use Rattle.ap_core.specs.Rounds.{replay_choice, choice_of, put_choice, put_choices, choices_of}

chosen : (z : Place) → put_choice (replay_choice z.2) z ≡ (z.0, z.1, replayed z.2)
chosen (g, k, idle Ready) = refl
chosen (g, k, idle Waiting) = refl
chosen (g, k, idle GivenBack) = refl
chosen (g, k, stored []) = refl
chosen (g, k, stored (a ∷ m)) = refl
chosen (g, k, busy b t) = refl
chosen (g, k, held m a t c) = refl
chosen (g, k, redone m b t i) = refl
chosen (g, k, again m a t c) = refl
chosen (g, k, drained m b t i e) = refl

pub choices_put : (xs : List Slot) → slots_of (put_choices (choices_of xs) (map slot_view xs)) ≡ each_slot replayed (slots_view xs)
choices_put [] = refl
choices_put (x ∷ xs) = ap₂ (λ z w. slot z.0 z.1 z.2 w) (chosen (slot_view x)) (choices_put xs)

pub choices_all : (xs ys : List Slot) (os : List (Option Progress)) → map slot_view ys ≡ put_choices os (map slot_view xs) → os ≡ choices_of xs → slots_view ys ≡ each_slot replayed (slots_view xs)
choices_all xs ys os h e = ap slots_of (h ∙ ap (λ o. put_choices o (map slot_view xs)) e) ∙ choices_put xs

pub length-choices : (xs : List Slot) (os : List (Option CodeProgress)) → map choice_of os ≡ choices_of xs → length os ≡ length xs
length-choices xs os h = sym (of_map os) ∙ ap length h ∙ of_choices xs
  where
    of_map : (l : List (Option CodeProgress)) → length (map choice_of l) ≡ length l
    of_map [] = refl
    of_map (o ∷ l) = ap suc (of_map l)

    of_choices : (l : List Slot) → length (choices_of l) ≡ length l
    of_choices [] = refl
    of_choices (x ∷ l) = ap suc (of_choices l)

pub ruleset replay_rows = (choices_all, length-choices)

-- one more choice
pub choice_more : (xs : List Slot) (i : ℕ) (x : Slot) (os : List (Option CodeProgress)) (o : Option CodeProgress) → i < length xs → x ≡ get_or xs i x → choice_of o ≡ replay_choice (slot_view x).2
    → choices_of xs ≡ map choice_of os ++ choices_of (drop i xs) → choices_of xs ≡ map choice_of (os ++ o ∷ []) ++ choices_of (drop (i + 1) xs)
choice_more xs i x os o h e v k =
    k ∙ ap (λ ys. map choice_of os ++ choices_of ys) (drop_more xs i x h) ∙ ap (λ y. map choice_of os ++ (replay_choice (slot_view y).2 ∷ choices_of (drop (i + 1) xs))) (sym e)
    ∙ ap (λ c. map choice_of os ++ (c ∷ choices_of (drop (i + 1) xs))) (sym v) ∙ append_one (map choice_of os) (choice_of o) (choices_of (drop (i + 1) xs))
    ∙ sym (ap (λ l. l ++ choices_of (drop (i + 1) xs)) (map-append choice_of os (o ∷ [])))
  where
    append_one : (a : List (Option Progress)) (c : Option Progress) (b : List (Option Progress)) → a ++ (c ∷ b) ≡ (a ++ c ∷ []) ++ b
    append_one [] c b = refl
    append_one (d ∷ a) c b = ap (λ l. d ∷ l) (append_one a c b)

pub choice_ends : (xs : List Slot) (i : ℕ) (os : List (Option Progress)) → length xs ≤ i → choices_of xs ≡ os ++ choices_of (drop i xs) → os ≡ choices_of xs
choice_ends xs i os h k = sym (k ∙ ap (λ ys. os ++ choices_of ys) (drop_of_length-le xs h) ∙ append_none os)
  where
    append_none : (l : List (Option Progress)) → l ++ [] ≡ l
    append_none [] = refl
    append_none (o ∷ l) = ap (λ m. o ∷ m) (append_none l)

pub ruleset choice_rows = (choice_more, choice_ends)

-- the last choice is put
put_last : (xs : List Slot) (os : List (Option CodeProgress)) (o : Option CodeProgress) (v d : Slot) → length os < length xs → slot_view v ≡ put_choice (choice_of o) (slot_view (get_or xs (length os) d))
    → put_choices (map choice_of os) (map slot_view (set xs (length os) v)) ≡ put_choices (map choice_of (os ++ o ∷ [])) (map slot_view xs)
put_last [] os o v d h e = absurd (omega arith)
put_last (x ∷ xs) [] o v d h e = ap (λ z. z ∷ map slot_view xs) e
put_last (x ∷ xs) (c ∷ os) o v d h e = ap (λ l. put_choice (choice_of c) (slot_view x) ∷ l) (put_last xs os o v d (omega arith) e)

pub put_step : (xs : List Slot) (all os : List (Option CodeProgress)) (o : Option CodeProgress) (j : ℕ) (v d : Slot) (whole : List Place) → all ≡ os ++ o ∷ [] → j ≡ length os → j < length xs
    → slot_view v ≡ put_choice (choice_of o) (slot_view (get_or xs j d)) → put_choices (map choice_of all) (map slot_view xs) ≡ whole
    → put_choices (map choice_of os) (map slot_view (set xs j v)) ≡ whole
put_step xs all os o j v d whole e l h q k =
    ap (λ n. put_choices (map choice_of os) (map slot_view (set xs n v))) l
    ∙ put_last xs os o v d (subst (λ n. n < length xs) l h) (q ∙ ap (λ n. put_choice (choice_of o) (slot_view (get_or xs n d))) l)
    ∙ ap (λ a. put_choices (map choice_of a) (map slot_view xs)) (sym e) ∙ k

pub put_at : (xs : List Slot) (all os : List (Option CodeProgress)) (o : Option CodeProgress) (j : ℕ) (v d : Slot) (whole : List Place) → all ≡ os ++ o ∷ [] → j ≡ length os → length all ≤ length xs → d ≡ get_or xs j d
    → slot_view v ≡ put_choice (choice_of o) (slot_view d) → put_choices (map choice_of all) (map slot_view xs) ≡ whole
    → put_choices (map choice_of os) (map slot_view (set xs j v)) ≡ whole
put_at xs all os o j v d whole e l h g q k =
    let n : length all ≡ suc (length os) = ap length e ∙ length-last os o in
    put_step xs all os o j v d whole e l (omega (arith, n, l, h)) (q ∙ ap (λ z. put_choice (choice_of o) (slot_view z)) g) k
  where
    length-last : (l : List (Option CodeProgress)) (p : Option CodeProgress) → length (l ++ p ∷ []) ≡ suc (length l)
    length-last [] p = refl
    length-last (c ∷ l) p = ap suc (length-last l p)

pub put_none : (xs : List Slot) (all : List (Option CodeProgress)) (whole : List Place) → length all ≡ 0 → put_choices (map choice_of all) (map slot_view xs) ≡ whole → map slot_view xs ≡ whole
put_none xs [] whole h k = k
put_none xs (o ∷ all) whole h k = absurd (omega arith)

pub ruleset put_rows = (put_step, put_none)

-- one more answer on the stack
pub answer_more : (xs : List CodeAnswer) (n m : ℕ) (a : CodeAnswer) (s : State) (last : List Answer) (stack items : List Alternative) (k : Alternatives) → n ≡ m + 1 → m < length xs → a ≡ get_or xs m a
    → state_of s ≡ as_state (plain_answer (answer_of a)) → items ≡ stack ++ code.State s ∷ [] → stacked (map alternative_view stack) k ≡ states (as_states (map answer_of (drop n xs) ++ last)) k
    → stacked (map alternative_view items) k ≡ states (as_states (map answer_of (drop m xs) ++ last)) k
answer_more xs n m a s last stack items k e l g v i h =
    let d : drop m xs ≡ a ∷ drop n xs = drop_more xs m a l ∙ ap₂ (λ y j. y ∷ drop j xs) (sym g) (sym e) in
    ap (λ ys. stacked (map alternative_view ys) k) i ∙ stacked-push stack (code.State s) k ∙ ap (λ b. alternative b (stacked (map alternative_view stack) k)) (view_state s)
    ∙ ap (λ t. alternative (state t) (stacked (map alternative_view stack) k)) v
    ∙ ap (alternative (state (as_state (plain_answer (answer_of a))))) h
    ∙ sym (ap (λ ys. states (as_states (map answer_of ys ++ last)) k) d)

pub last_alone : (xs : List CodeAnswer) (a : CodeAnswer) (s : State) (items : List Alternative) (k : Alternatives) → state_of s ≡ as_state (plain_answer (answer_of a)) → items ≡ code.State s ∷ []
    → stacked (map alternative_view items) k ≡ states (as_states (map answer_of (drop (length xs) xs) ++ last_of (Some a))) k
last_alone xs a s items k v i =
    ap (λ ys. stacked (map alternative_view ys) k) i ∙ ap (λ b. alternative b k) (view_state s) ∙ ap (λ t. alternative (state t) k) v
    ∙ sym (ap (λ ys. states (as_states (map answer_of ys ++ last_of (Some a))) k) (drop_of_length-le xs (omega arith)))

pub none_last : (xs : List CodeAnswer) (k : Alternatives) → k ≡ states (as_states (map answer_of (drop (length xs) xs) ++ [])) k
none_last xs k = sym (ap (λ ys. states (as_states (map answer_of ys ++ [])) k) (drop_of_length-le xs (omega arith)))

pub ruleset stack_rows = (answer_more, last_alone, none_last)
