-- What the machine finds is a term, and is spelled by the words that it went over.
use Rattle.std.proofs.Common.{◌≡◌, ℕ, ◌^◌, ◌<◌, ◌≤◌, List, [], ◌∷◌, ◌++◌, leb, ltb, ◌&&◌, Some, refl, sym, ap, subst, ◌∙◌, append_assoc, arith}
use Rattle.std.proofs.lemmas.List.{append-nil}
use Rattle.std.proofs.lemmas.Bool.{leb-true, ltb-true, and_parts, cond_both}
use Rattle.std.proofs.lemmas.Option.{same_Some}
use Rattle.ap_reader.specs.declared.word.Word.{Word}
use Rattle.ap_reader.specs.declared.word.Word.TheVariants as w
use Rattle.ap_reader.specs.Grammar.{Tree, Single, Positive, Negative, Prefix, Infix, Begin, Then, infix_rank, prefix_rank, spelled, each, priority, IsTerm, AreItems, IsWhole}
use Rattle.ap_reader.specs.Machine.{Head, Named, Bracket, Frame, AfterPrefix, AfterInfix, InGroup, Inside, InTail, State, Wants, Signed, Called, Has, Stuck, room, reduced, prefixed, shifted, closed, list_closed, parted, barred, on_want, on_sign, on_call, on_has, over, next, parsed, ended, whole}
use Rattle.ap_reader.specs.Operator.{left_max}
use Rattle.ap_reader.proofs.Complete.{left-comma}

-- the words that a head is, and the words that were read before the next operand
abbrev pub head_words : Head → List Word
head_words (Named at i) = w.Functor at i ∷ w.Open ∷ []
head_words Bracket = w.OpenList ∷ []

abbrev pub before : List Frame → List Word
before [] = []
before (AfterPrefix o ∷ s) = before s ++ o ∷ []
before (AfterInfix l o ∷ s) = before s ++ (spelled l ++ o ∷ [])
before (InGroup ∷ s) = before s ++ w.Open ∷ []
before (Inside h items ∷ s) = before s ++ (head_words h ++ each items)
before (InTail items t ∷ s) = before s ++ (w.OpenList ∷ (each items ++ (spelled t ++ w.Bar ∷ [])))

abbrev pub AreOpen : List Frame → Type 0
AreOpen [] = Unit {0}
AreOpen (AfterPrefix o ∷ s) = (0 < prefix_rank o) × (prefix_rank o ≤ room s) × AreOpen s
AreOpen (AfterInfix l o ∷ s) = (0 < infix_rank o) × (priority l ≤ left_max (infix_rank o)) × IsTerm l × (infix_rank o ≤ room s) × AreOpen s
AreOpen (InGroup ∷ s) = AreOpen s
AreOpen (Inside h items ∷ s) = AreItems items × AreOpen s
AreOpen (InTail items t ∷ s) = AreItems items × (priority t ≤ 999) × IsTerm t × AreOpen s

-- the state is that after these words, and its operand has at most priority m
abbrev pub Keeps : ℕ → List Word → State → Type 0
Keeps m words (Wants s) = AreOpen s × (before s ≡ words)
Keeps m words (Signed sign i s) = AreOpen s × (before s ++ w.Sign sign i ∷ [] ≡ words)
Keeps m words (Called at i s) = AreOpen s × (before s ++ w.Functor at i ∷ [] ≡ words)
Keeps m words (Has t s) = AreOpen s × IsTerm t × (priority t ≤ m) × (priority t ≤ room s) × (before s ++ spelled t ≡ words)
Keeps m words Stuck = Unit {0}

pub kept_reduced : (m : ℕ) (words : List Word) (t : Tree) (s : List Frame) → Keeps m words (Has t s) → Keeps m words (reduced m t s)
unfolding reduced
kept_reduced m words t [] k = k
kept_reduced m words t (AfterPrefix o ∷ s) k =
    cond_both (leb (prefix_rank o) m) (reduced m (Prefix o t) s) (Has t (AfterPrefix o ∷ s)) (Keeps m words)
    (λ e. kept_reduced m words (Prefix o t) s (k.0.2, (k.0.0, k.3, k.1), leb-true (prefix_rank o) m e, k.0.1, sym (append_assoc (before s) (o ∷ []) (spelled t)) ∙ k.4))
    (λ e. k)
kept_reduced m words t (AfterInfix l o ∷ s) k =
    cond_both (leb (infix_rank o) m) (reduced m (Infix l o t) s) (Has t (AfterInfix l o ∷ s)) (Keeps m words)
    (λ e.
    let law : (before s ++ (spelled l ++ o ∷ [])) ++ spelled t ≡ before s ++ (spelled l ++ o ∷ spelled t) = simp append_assoc in
    kept_reduced m words (Infix l o t) s (k.0.4, (k.0.0, k.0.1, k.3, k.0.2, k.1), leb-true (infix_rank o) m e, k.0.3, sym law ∙ k.4))
    (λ e. k)
kept_reduced m words t (InGroup ∷ s) k = k
kept_reduced m words t (Inside h items ∷ s) k = k
kept_reduced m words t (InTail items u ∷ s) k = k

raised : (m n : ℕ) (words : List Word) (t : Tree) (s : List Frame) → m ≤ n → Keeps m words (Has t s) → Keeps n words (Has t s)
raised m n words t s h k =
    let below : priority t ≤ n = omega (arith, k.2) in
    (k.0, k.1, below, k.3, k.4)

kept_prefixed : (words : List Word) (o : Word) (s : List Frame) → Keeps 0 words (Wants s) → Keeps 0 (words ++ o ∷ []) (prefixed o s)
kept_prefixed words o s k =
    cond_both (ltb 0 (prefix_rank o) && leb (prefix_rank o) (room s)) (Wants (AfterPrefix o ∷ s)) Stuck (Keeps 0 (words ++ o ∷ []))
    (λ e.
    let tests = and_parts (ltb 0 (prefix_rank o)) (leb (prefix_rank o) (room s)) e in
    ((ltb-true 0 (prefix_rank o) tests.0, leb-true (prefix_rank o) (room s) tests.1, k.0), ap (λ x. x ++ o ∷ []) k.1))
    (λ e. tt)

kept_shifted : (words : List Word) (o : Word) (x : State) → Keeps (left_max (infix_rank o)) words x → Keeps 0 (words ++ o ∷ []) (shifted o x)
kept_shifted words o (Has t s) k =
    cond_both (ltb 0 (infix_rank o) && leb (infix_rank o) (room s)) (Wants (AfterInfix t o ∷ s)) Stuck (Keeps 0 (words ++ o ∷ []))
    (λ e.
    let tests = and_parts (ltb 0 (infix_rank o)) (leb (infix_rank o) (room s)) e in
    ((ltb-true 0 (infix_rank o) tests.0, k.2, k.1, leb-true (infix_rank o) (room s) tests.1, k.0), sym (append_assoc (before s) (spelled t) (o ∷ [])) ∙ ap (λ x. x ++ o ∷ []) k.4))
    (λ e. tt)
kept_shifted words o (Wants s) k = tt
kept_shifted words o (Signed sign i s) k = tt
kept_shifted words o (Called at i s) k = tt
kept_shifted words o Stuck k = tt

kept_closed : (m : ℕ) (words : List Word) (x : State) → Keeps m words x → Keeps 0 (words ++ w.Close ∷ []) (closed x)
kept_closed m words (Has t (InGroup ∷ s)) k =
    let law : ((before s ++ w.Open ∷ []) ++ spelled t) ++ w.Close ∷ [] ≡ before s ++ (w.Open ∷ (spelled t ++ w.Close ∷ [])) = simp append_assoc in
    let e = sym law ∙ ap (λ x. x ++ w.Close ∷ []) k.4 in
    (k.0, (k.3, k.1), omega arith, omega arith, e)
kept_closed m words (Has t (Inside (Named at i) items ∷ s)) k =
    let law : ((before s ++ (w.Functor at i ∷ w.Open ∷ each items)) ++ spelled t) ++ w.Close ∷ [] ≡ before s ++ (w.Functor at i ∷ w.Open ∷ (each items ++ (spelled t ++ w.Close ∷ []))) = simp append_assoc in
    let e = sym law ∙ ap (λ x. x ++ w.Close ∷ []) k.4 in
    (k.0.1, (k.0.0, k.3, k.1), omega arith, omega arith, e)
kept_closed m words _ k = tt

kept_list_closed : (m : ℕ) (words : List Word) (x : State) → Keeps m words x → Keeps 0 (words ++ w.CloseList ∷ []) (list_closed x)
kept_list_closed m words (Has t (Inside Bracket items ∷ s)) k =
    let law : ((before s ++ (w.OpenList ∷ each items)) ++ spelled t) ++ w.CloseList ∷ [] ≡ before s ++ (w.OpenList ∷ (each items ++ (spelled t ++ w.CloseList ∷ []))) = simp append_assoc in
    let e = sym law ∙ ap (λ x. x ++ w.CloseList ∷ []) k.4 in
    (k.0.1, (k.0.0, k.3, k.1), omega arith, omega arith, e)
kept_list_closed m words (Has u (InTail items t ∷ s)) k =
    let law : ((before s ++ (w.OpenList ∷ (each items ++ (spelled t ++ w.Bar ∷ [])))) ++ spelled u) ++ w.CloseList ∷ [] ≡ before s ++ (w.OpenList ∷ (each items ++ (spelled t ++ w.Bar ∷ (spelled u ++ w.CloseList ∷ [])))) = simp append_assoc in
    let e = sym law ∙ ap (λ x. x ++ w.CloseList ∷ []) k.4 in
    (k.0.3, (k.0.0, k.0.1, k.0.2, k.3, k.1), omega arith, omega arith, e)
kept_list_closed m words _ k = tt

kept_barred : (m : ℕ) (words : List Word) (x : State) → Keeps m words x → Keeps 0 (words ++ w.Bar ∷ []) (barred x)
kept_barred m words (Has t (Inside Bracket items ∷ s)) k =
    let law : ((before s ++ (w.OpenList ∷ each items)) ++ spelled t) ++ w.Bar ∷ [] ≡ before s ++ (w.OpenList ∷ (each items ++ (spelled t ++ w.Bar ∷ []))) = simp append_assoc in
    let e = sym law ∙ ap (λ x. x ++ w.Bar ∷ []) k.4 in
    ((k.0.0, k.3, k.1, k.0.1), e)
kept_barred m words _ k = tt

kept_parted : (at : ℕ) (words : List Word) (x : State) → Keeps 999 words x → Keeps 0 (words ++ w.Comma at ∷ []) (parted at x)
kept_parted at words (Has t (Inside h items ∷ s)) k =
    let law : ((before s ++ (head_words h ++ each items)) ++ spelled t) ++ w.Comma at ∷ [] ≡ before s ++ (head_words h ++ (each items ++ (spelled t ++ w.Comma at ∷ []))) = simp append_assoc in
    let e = sym law ∙ ap (λ x. x ++ w.Comma at ∷ []) k.4 in
    (((k.0.0, k.3, k.1), k.0.1), e)
kept_parted at words (Has t []) k = kept_shifted words (w.Comma at) (Has t []) (subst (λ m. Keeps m words (Has t [])) (sym left-comma) k)
kept_parted at words (Has t (AfterPrefix o ∷ s)) k = kept_shifted words (w.Comma at) (Has t (AfterPrefix o ∷ s)) (subst (λ m. Keeps m words (Has t (AfterPrefix o ∷ s))) (sym left-comma) k)
kept_parted at words (Has t (AfterInfix l o ∷ s)) k = kept_shifted words (w.Comma at) (Has t (AfterInfix l o ∷ s)) (subst (λ m. Keeps m words (Has t (AfterInfix l o ∷ s))) (sym left-comma) k)
kept_parted at words (Has t (InGroup ∷ s)) k = kept_shifted words (w.Comma at) (Has t (InGroup ∷ s)) (subst (λ m. Keeps m words (Has t (InGroup ∷ s))) (sym left-comma) k)
kept_parted at words (Has t (InTail items u ∷ s)) k = kept_shifted words (w.Comma at) (Has t (InTail items u ∷ s)) (subst (λ m. Keeps m words (Has t (InTail items u ∷ s))) (sym left-comma) k)
kept_parted at words (Wants s) k = tt
kept_parted at words (Signed sign i s) k = tt
kept_parted at words (Called f i s) k = tt
kept_parted at words Stuck k = tt

kept_single : (words : List Word) (t : Tree) (s : List Frame) → IsTerm t → priority t ≤ 0 → Keeps 0 words (Wants s) → Keeps 0 (words ++ spelled t) (Has t s)
kept_single words t s ok low k =
    let fits : priority t ≤ room s = omega arith in
    (k.0, ok, low, fits, ap (λ x. x ++ spelled t) k.1)

kept_want : (words : List Word) (s : List Frame) (word : Word) → Keeps 0 words (Wants s) → Keeps 0 (words ++ word ∷ []) (on_want s word)
kept_want words s (w.Operand at) k = kept_single words (Single at) s tt (omega arith) k
kept_want words s (w.Number n) k =
    cond_both (ltb n (2 ^ 63)) (Has (Positive n) s) Stuck (Keeps 0 (words ++ w.Number n ∷ [])) (λ e. kept_single words (Positive n) s (ltb-true n (2 ^ 63) e) (omega arith) k) (λ e. tt)
kept_want words s (w.Sign at i) k = (k.0, ap (λ x. x ++ w.Sign at i ∷ []) k.1)
kept_want words s (w.Operator at i p) k = kept_prefixed words (w.Operator at i p) s k
kept_want words s (w.Functor at i) k = (k.0, ap (λ x. x ++ w.Functor at i ∷ []) k.1)
kept_want words s w.Open k = (k.0, ap (λ x. x ++ w.Open ∷ []) k.1)
kept_want words s w.OpenList k = ((tt, k.0), ap (λ x. x ++ w.OpenList ∷ []) k.1)
kept_want words s w.Close k = tt
kept_want words s (w.Comma at) k = tt
kept_want words s w.Bar k = tt
kept_want words s w.Other k = tt
kept_want words (Inside Bracket Begin ∷ s) w.CloseList k =
    let law : (before s ++ w.OpenList ∷ []) ++ w.CloseList ∷ [] ≡ before s ++ (w.OpenList ∷ w.CloseList ∷ []) = simp append_assoc in
    (k.0.1, tt, omega arith, omega arith, sym law ∙ ap (λ x. x ++ w.CloseList ∷ []) k.1)
kept_want words [] w.CloseList k = tt
kept_want words (AfterPrefix o ∷ s) w.CloseList k = tt
kept_want words (AfterInfix l o ∷ s) w.CloseList k = tt
kept_want words (InGroup ∷ s) w.CloseList k = tt
kept_want words (Inside (Named at i) items ∷ s) w.CloseList k = tt
kept_want words (Inside Bracket (Then items t at) ∷ s) w.CloseList k = tt
kept_want words (InTail items t ∷ s) w.CloseList k = tt

kept_sign : (sign i : ℕ) (words : List Word) (s : List Frame) (word : Word) → Keeps 0 words (Signed sign i s) → Keeps 0 (words ++ word ∷ []) (on_sign sign i s word)
kept_sign sign i words s (w.Number n) k =
    let e = sym (append_assoc (before s) (w.Sign sign i ∷ []) (w.Number n ∷ [])) ∙ ap (λ x. x ++ w.Number n ∷ []) k.1 in
    cond_both (leb n (2 ^ 63)) (Has (Negative sign i n) s) Stuck (Keeps 0 (words ++ w.Number n ∷ [])) (λ small. (k.0, leb-true n (2 ^ 63) small, omega arith, omega arith, e)) (λ large. tt)
kept_sign sign i words s _ k = tt

kept_call : (at i : ℕ) (words : List Word) (s : List Frame) (word : Word) → Keeps 0 words (Called at i s) → Keeps 0 (words ++ word ∷ []) (on_call at i s word)
kept_call at i words s w.Open k = ((tt, k.0), sym (append_assoc (before s) (w.Functor at i ∷ []) (w.Open ∷ [])) ∙ ap (λ x. x ++ w.Open ∷ []) k.1)
kept_call at i words s _ k = tt

kept_has : (words : List Word) (t : Tree) (s : List Frame) (word : Word) → Keeps 0 words (Has t s) → Keeps 0 (words ++ word ∷ []) (on_has t s word)
kept_has words t s (w.Operator at i p) k = kept_shifted words (w.Operator at i p) (reduced (left_max i) t s) (kept_reduced (left_max i) words t s (raised 0 (left_max i) words t s (omega arith) k))
kept_has words t s (w.Functor at i) k = kept_shifted words (w.Functor at i) (reduced (left_max i) t s) (kept_reduced (left_max i) words t s (raised 0 (left_max i) words t s (omega arith) k))
kept_has words t s (w.Sign at i) k = kept_shifted words (w.Sign at i) (reduced (left_max i) t s) (kept_reduced (left_max i) words t s (raised 0 (left_max i) words t s (omega arith) k))
kept_has words t s (w.Comma at) k = kept_parted at words (reduced 999 t s) (kept_reduced 999 words t s (raised 0 999 words t s (omega arith) k))
kept_has words t s w.Bar k = kept_barred 999 words (reduced 999 t s) (kept_reduced 999 words t s (raised 0 999 words t s (omega arith) k))
kept_has words t s w.Close k = kept_closed 1200 words (reduced 1200 t s) (kept_reduced 1200 words t s (raised 0 1200 words t s (omega arith) k))
kept_has words t s w.CloseList k = kept_list_closed 999 words (reduced 999 t s) (kept_reduced 999 words t s (raised 0 999 words t s (omega arith) k))
kept_has words t s (w.Operand at) k = tt
kept_has words t s (w.Number n) k = tt
kept_has words t s w.Open k = tt
kept_has words t s w.OpenList k = tt
kept_has words t s w.Other k = tt

kept_next : (words : List Word) (x : State) (word : Word) → Keeps 0 words x → Keeps 0 (words ++ word ∷ []) (next x word)
kept_next words (Wants s) word k = kept_want words s word k
kept_next words (Signed sign i s) word k = kept_sign sign i words s word k
kept_next words (Called at i s) word k = kept_call at i words s word k
kept_next words (Has t s) word k = kept_has words t s word k
kept_next words Stuck word k = tt

pub kept_over : (done : List Word) (x : State) (words : List Word) → Keeps 0 done x → Keeps 0 (done ++ words) (over x words)
kept_over done x [] k = subst (λ l. Keeps 0 l x) (sym (append-nil done)) k
kept_over done x (word ∷ words) k =
    subst (λ l. Keeps 0 l (over (next x word) words)) (append_assoc done (word ∷ []) words) (kept_over (done ++ word ∷ []) (next x word) words (kept_next done x word k))

found : (words : List Word) (x : State) (t : Tree) → Keeps 1200 words x → whole x ≡ Some t → IsWhole t × (spelled t ≡ words)
found words (Has u []) t k e = subst (λ x. IsWhole x × (spelled x ≡ words)) (same_Some u t e) ((k.2, k.1), k.4)
found words (Has u (f ∷ s)) t k e = absurd (cc)
found words (Wants s) t k e = absurd (cc)
found words (Signed sign i s) t k e = absurd (cc)
found words (Called at i s) t k e = absurd (cc)
found words Stuck t k e = absurd (cc)

ended_found : (words : List Word) (x : State) (t : Tree) → Keeps 0 words x → ended x ≡ Some t → IsWhole t × (spelled t ≡ words)
ended_found words (Has u s) t k e = found words (reduced 1200 u s) t (kept_reduced 1200 words u s (raised 0 1200 words u s (omega arith) k)) e
ended_found words (Wants s) t k e = absurd (cc)
ended_found words (Signed sign i s) t k e = absurd (cc)
ended_found words (Called at i s) t k e = absurd (cc)
ended_found words Stuck t k e = absurd (cc)

pub sound : (words : List Word) (t : Tree) → parsed words ≡ Some t → IsWhole t × (spelled t ≡ words)
sound words t e = ended_found words (over (Wants []) words) t (kept_over [] (Wants []) words (tt, refl)) e
