-- What the pass has given of a term is the front of the term's steps.
use Rattle.std.proofs.Common.{◌≡◌, ℕ, ◌^◌, ◌&&◌, List, [], ◌∷◌, ◌++◌, leb, ltb, Some, None, refl, sym, ap, ◌∙◌, append_assoc}
use Rattle.std.proofs.lemmas.List.{append-nil}
use Rattle.std.proofs.lemmas.Bool.{cond_both}
use Rattle.std.proofs.lemmas.Option.{same_Some}
use Rattle.ap_reader.specs.declared.word.Word.{Word}
use Rattle.ap_reader.specs.declared.word.Word.TheVariants as w
use Rattle.ap_reader.specs.declared.pass.Step.{Step}
use Rattle.ap_reader.specs.declared.pass.Step.TheVariants as p
use Rattle.ap_reader.specs.Grammar.{Tree, Positive, Negative, Prefix, Infix, Group, Compound, Listed, Tailed, Begin, Then, infix_rank, prefix_rank}
use Rattle.ap_reader.specs.Operator.{left_max}
use Rattle.ap_reader.specs.Machine.{Named, Bracket, Frame, AfterPrefix, AfterInfix, InGroup, Inside, InTail, State, Wants, Signed, Called, Has, Stuck, room, reduced, shifted, closed, list_closed, parted, barred, on_want, on_sign, on_call, on_has, next, over, whole, ended}
use Rattle.ap_reader.specs.Step.{place, postfix, posts, steps}

-- the steps that were given in a state
abbrev pub total : State → List Step
total (Wants s) = steps s
total (Signed sign i s) = steps s
total (Called at i s) = steps s
total (Has t s) = steps s ++ postfix t
total Stuck = []

-- a state that goes on behind such steps, or none
abbrev pub GoesOn : List Step → State → Type 0
GoesOn all Stuck = Unit {0}
GoesOn all (Wants s) = (q : List Step) × (steps s ≡ all ++ q)
GoesOn all (Signed sign i s) = (q : List Step) × (steps s ≡ all ++ q)
GoesOn all (Called at i s) = (q : List Step) × (steps s ≡ all ++ q)
GoesOn all (Has t s) = (q : List Step) × (steps s ++ postfix t ≡ all ++ q)

same_steps : (all xs : List Step) → xs ≡ all → (q : List Step) × (xs ≡ all ++ q)
same_steps all xs e = ([], e ∙ sym (append-nil all))

one_more : (all xs q : List Step) (base a b : List Step) (step : Step) → (base ++ a) ++ b ≡ all ++ q → xs ≡ base ++ (a ++ (b ++ step ∷ [])) → (r : List Step) × (xs ≡ all ++ r)
one_more all xs q base a b step h e =
    (q ++ step ∷ [], e ∙ sym (append_assoc base a (b ++ step ∷ [])) ∙ sym (append_assoc (base ++ a) b (step ∷ [])) ∙ ap (λ l. l ++ step ∷ []) h ∙ append_assoc all q (step ∷ []))

reduced_on : (m : ℕ) (all : List Step) (t : Tree) (s : List Frame) → GoesOn all (Has t s) → GoesOn all (reduced m t s)
unfolding reduced
reduced_on m all t [] g = g
reduced_on m all t (AfterPrefix o ∷ s) g =
    cond_both (leb (prefix_rank o) m) (reduced m (Prefix o t) s) (Has t (AfterPrefix o ∷ s)) (GoesOn all)
    (λ e. reduced_on m all (Prefix o t) s (one_more all (steps s ++ postfix (Prefix o t)) g.0 (steps s) [] (postfix t) (p.Prefix (place o)) g.1 refl))
    (λ e. g)
reduced_on m all t (AfterInfix l o ∷ s) g =
    cond_both (leb (infix_rank o) m) (reduced m (Infix l o t) s) (Has t (AfterInfix l o ∷ s)) (GoesOn all)
    (λ e. reduced_on m all (Infix l o t) s (one_more all (steps s ++ postfix (Infix l o t)) g.0 (steps s) (postfix l) (postfix t) (p.Infix (place o)) g.1 refl))
    (λ e. g)
reduced_on m all t (InGroup ∷ s) g = g
reduced_on m all t (Inside h items ∷ s) g = g
reduced_on m all t (InTail items u ∷ s) g = g

shifted_on : (o : Word) (all : List Step) (x : State) → GoesOn all x → GoesOn all (shifted o x)
shifted_on o all (Has t s) g = cond_both (ltb 0 (infix_rank o) && leb (infix_rank o) (room s)) (Wants (AfterInfix t o ∷ s)) Stuck (GoesOn all) (λ e. g) (λ e. tt)
shifted_on o all (Wants s) g = tt
shifted_on o all (Signed sign i s) g = tt
shifted_on o all (Called at i s) g = tt
shifted_on o all Stuck g = tt

closed_on : (all : List Step) (x : State) → GoesOn all x → GoesOn all (closed x)
closed_on all (Has t []) g = tt
closed_on all (Has t (AfterPrefix o ∷ s)) g = tt
closed_on all (Has t (AfterInfix l o ∷ s)) g = tt
closed_on all (Has t (InGroup ∷ s)) g = one_more all (steps s ++ postfix (Group t)) g.0 (steps s) [] (postfix t) p.Group g.1 refl
closed_on all (Has t (Inside (Named at i) items ∷ s)) g = one_more all (steps s ++ postfix (Compound at i items t)) g.0 (steps s) (posts items) (postfix t) (p.Compound at) g.1 refl
closed_on all (Has t (Inside Bracket items ∷ s)) g = tt
closed_on all (Has t (InTail items u ∷ s)) g = tt
closed_on all (Wants s) g = tt
closed_on all (Signed sign i s) g = tt
closed_on all (Called at i s) g = tt
closed_on all Stuck g = tt

list_closed_on : (all : List Step) (x : State) → GoesOn all x → GoesOn all (list_closed x)
list_closed_on all (Has t []) g = tt
list_closed_on all (Has t (AfterPrefix o ∷ s)) g = tt
list_closed_on all (Has t (AfterInfix l o ∷ s)) g = tt
list_closed_on all (Has t (InGroup ∷ s)) g = tt
list_closed_on all (Has t (Inside (Named at i) items ∷ s)) g = tt
list_closed_on all (Has t (Inside Bracket items ∷ s)) g = one_more all (steps s ++ postfix (Listed items t)) g.0 (steps s) (posts items) (postfix t) p.List g.1 refl
list_closed_on all (Has t (InTail items u ∷ s)) g =
    one_more all (steps s ++ postfix (Tailed items u t)) g.0 (steps s) (posts items ++ postfix u) (postfix t) p.Tailed g.1
    (ap (λ l. steps s ++ l) (sym (append_assoc (posts items) (postfix u) (postfix t ++ p.Tailed ∷ []))))
list_closed_on all (Wants s) g = tt
list_closed_on all (Signed sign i s) g = tt
list_closed_on all (Called at i s) g = tt
list_closed_on all Stuck g = tt

parted_on : (at : ℕ) (all : List Step) (x : State) → GoesOn all x → GoesOn all (parted at x)
parted_on at all (Has t []) g = shifted_on (w.Comma at) all (Has t []) g
parted_on at all (Has t (AfterPrefix o ∷ s)) g = shifted_on (w.Comma at) all (Has t (AfterPrefix o ∷ s)) g
parted_on at all (Has t (AfterInfix l o ∷ s)) g = shifted_on (w.Comma at) all (Has t (AfterInfix l o ∷ s)) g
parted_on at all (Has t (InGroup ∷ s)) g = shifted_on (w.Comma at) all (Has t (InGroup ∷ s)) g
parted_on at all (Has t (Inside h items ∷ s)) g = one_more all (steps s ++ posts (Then items t at)) g.0 (steps s) (posts items) (postfix t) p.Item g.1 refl
parted_on at all (Has t (InTail items u ∷ s)) g = shifted_on (w.Comma at) all (Has t (InTail items u ∷ s)) g
parted_on at all (Wants s) g = tt
parted_on at all (Signed sign i s) g = tt
parted_on at all (Called a i s) g = tt
parted_on at all Stuck g = tt

barred_on : (all : List Step) (x : State) → GoesOn all x → GoesOn all (barred x)
barred_on all (Has t []) g = tt
barred_on all (Has t (AfterPrefix o ∷ s)) g = tt
barred_on all (Has t (AfterInfix l o ∷ s)) g = tt
barred_on all (Has t (InGroup ∷ s)) g = tt
barred_on all (Has t (Inside (Named at i) items ∷ s)) g = tt
barred_on all (Has t (Inside Bracket items ∷ s)) g = (g.0, sym (append_assoc (steps s) (posts items) (postfix t)) ∙ g.1)
barred_on all (Has t (InTail items u ∷ s)) g = tt
barred_on all (Wants s) g = tt
barred_on all (Signed sign i s) g = tt
barred_on all (Called at i s) g = tt
barred_on all Stuck g = tt

want_on : (s : List Frame) (word : Word) → GoesOn (steps s) (on_want s word)
want_on s (w.Operand at) = (p.Operand at ∷ [], refl)
want_on s (w.Number n) = cond_both (ltb n (2 ^ 63)) (Has (Positive n) s) Stuck (GoesOn (steps s)) (λ e. (postfix (Positive n), refl)) (λ e. tt)
want_on s (w.Sign at i) = same_steps (steps s) (steps s) refl
want_on s (w.Operator at i k) = cond_both (ltb 0 k && leb k (room s)) (Wants (AfterPrefix (w.Operator at i k) ∷ s)) Stuck (GoesOn (steps s)) (λ e. ([], refl)) (λ e. tt)
want_on s (w.Functor at i) = same_steps (steps s) (steps s) refl
want_on s w.Open = ([], refl)
want_on s w.OpenList = (p.Begin ∷ [], refl)
want_on [] w.CloseList = tt
want_on (AfterPrefix o ∷ s) w.CloseList = tt
want_on (AfterInfix l o ∷ s) w.CloseList = tt
want_on (InGroup ∷ s) w.CloseList = tt
want_on (Inside (Named at i) items ∷ s) w.CloseList = tt
want_on (Inside Bracket Begin ∷ s) w.CloseList = (p.Empty ∷ [], sym (append_assoc (steps s) (p.Begin ∷ []) (p.Empty ∷ [])))
want_on (Inside Bracket (Then items t at) ∷ s) w.CloseList = tt
want_on (InTail items u ∷ s) w.CloseList = tt
want_on s w.Close = tt
want_on s (w.Comma at) = tt
want_on s w.Bar = tt
want_on s w.Other = tt

sign_on : (sign i : ℕ) (s : List Frame) (word : Word) → GoesOn (steps s) (on_sign sign i s word)
sign_on sign i s (w.Number n) = cond_both (leb n (2 ^ 63)) (Has (Negative sign i n) s) Stuck (GoesOn (steps s)) (λ e. (postfix (Negative sign i n), refl)) (λ e. tt)
sign_on sign i s (w.Operand at) = tt
sign_on sign i s (w.Sign at j) = tt
sign_on sign i s (w.Operator at j k) = tt
sign_on sign i s (w.Functor at j) = tt
sign_on sign i s w.Open = tt
sign_on sign i s w.OpenList = tt
sign_on sign i s w.CloseList = tt
sign_on sign i s w.Close = tt
sign_on sign i s (w.Comma at) = tt
sign_on sign i s w.Bar = tt
sign_on sign i s w.Other = tt

call_on : (at i : ℕ) (s : List Frame) (word : Word) → GoesOn (steps s) (on_call at i s word)
call_on at i s w.Open = (p.Begin ∷ [], refl)
call_on at i s (w.Operand a) = tt
call_on at i s (w.Number n) = tt
call_on at i s (w.Sign a j) = tt
call_on at i s (w.Operator a j k) = tt
call_on at i s (w.Functor a j) = tt
call_on at i s w.OpenList = tt
call_on at i s w.CloseList = tt
call_on at i s w.Close = tt
call_on at i s (w.Comma a) = tt
call_on at i s w.Bar = tt
call_on at i s w.Other = tt

has_on : (t : Tree) (s : List Frame) (word : Word) → GoesOn (steps s ++ postfix t) (on_has t s word)
has_on t s (w.Operator at i k) = let all = steps s ++ postfix t in shifted_on (w.Operator at i k) all (reduced (left_max i) t s) (reduced_on (left_max i) all t s (same_steps all all refl))
has_on t s (w.Functor at i) = let all = steps s ++ postfix t in shifted_on (w.Functor at i) all (reduced (left_max i) t s) (reduced_on (left_max i) all t s (same_steps all all refl))
has_on t s (w.Sign at i) = let all = steps s ++ postfix t in shifted_on (w.Sign at i) all (reduced (left_max i) t s) (reduced_on (left_max i) all t s (same_steps all all refl))
has_on t s (w.Comma at) = let all = steps s ++ postfix t in parted_on at all (reduced 999 t s) (reduced_on 999 all t s (same_steps all all refl))
has_on t s w.Bar = let all = steps s ++ postfix t in barred_on all (reduced 999 t s) (reduced_on 999 all t s (same_steps all all refl))
has_on t s w.Close = let all = steps s ++ postfix t in closed_on all (reduced 1200 t s) (reduced_on 1200 all t s (same_steps all all refl))
has_on t s w.CloseList = let all = steps s ++ postfix t in list_closed_on all (reduced 999 t s) (reduced_on 999 all t s (same_steps all all refl))
has_on t s (w.Operand at) = tt
has_on t s (w.Number n) = tt
has_on t s w.Open = tt
has_on t s w.OpenList = tt
has_on t s w.Other = tt

next_on : (x : State) (word : Word) → GoesOn (total x) (next x word)
next_on (Wants s) word = want_on s word
next_on (Signed sign i s) word = sign_on sign i s word
next_on (Called at i s) word = call_on at i s word
next_on (Has t s) word = has_on t s word
next_on Stuck word = tt

-- a state that goes on behind such steps, whichever it is
on_of : (all : List Step) (x : State) → GoesOn all x → (x ≡ Stuck → ⊥) → (q : List Step) × (total x ≡ all ++ q)
on_of all (Wants s) g n = g
on_of all (Signed sign i s) g n = g
on_of all (Called at i s) g n = g
on_of all (Has t s) g n = g
on_of all Stuck g n = absurd (n refl)

none_some : {t : Tree} → None ≡ Some t → ⊥
none_some e = cc

whole_on : (all : List Step) (x : State) (t : Tree) → GoesOn all x → whole x ≡ Some t → (more : List Step) × (postfix t ≡ all ++ more)
whole_on all (Has u []) t g e = (g.0, ap postfix (sym (same_Some u t e)) ∙ g.1)
whole_on all (Has u (f ∷ s)) t g e = absurd (none_some e)
whole_on all (Wants s) t g e = absurd (none_some e)
whole_on all (Signed sign i s) t g e = absurd (none_some e)
whole_on all (Called at i s) t g e = absurd (none_some e)
whole_on all Stuck t g e = absurd (none_some e)

ended_on : (x : State) (t : Tree) → ended x ≡ Some t → (more : List Step) × (postfix t ≡ total x ++ more)
ended_on (Has u s) t e = let all = steps s ++ postfix u in whole_on all (reduced 1200 u s) t (reduced_on 1200 all u s (same_steps all all refl)) e
ended_on (Wants s) t e = absurd (none_some e)
ended_on (Signed sign i s) t e = absurd (none_some e)
ended_on (Called at i s) t e = absurd (none_some e)
ended_on Stuck t e = absurd (none_some e)

stuck : (words : List Word) → over Stuck words ≡ Stuck
stuck [] = refl
stuck (word ∷ words) = stuck words

-- what was given in a state is the front of each term that is found from there
pub front_of : (words : List Word) (x : State) (t : Tree) → ended (over x words) ≡ Some t → (more : List Step) × (postfix t ≡ total x ++ more)
front_of [] x t e = ended_on x t e
front_of (word ∷ words) x t e =
    let y = next x word in
    let moves : y ≡ Stuck → ⊥ = λ k. none_some (sym (ap ended (stuck words)) ∙ sym (ap (λ z. ended (over z words)) k) ∙ e) in
    let first = on_of (total x) y (next_on x word) moves in
    let last = front_of words y t e in
    (first.0 ++ last.0, last.1 ∙ ap (λ l. l ++ last.0) first.1 ∙ append_assoc (total x) first.0 last.0)
