-- The machine finds each term.
use Rattle.std.proofs.Common.{◌≡◌, ℕ, ◌^◌, ◌<◌, ◌≤◌, List, [], ◌∷◌, ◌++◌, false, cond, leb, ◌&&◌, Some, refl, sym, ap, ◌∙◌, append_assoc, codes, arith}
use Rattle.std.proofs.lemmas.List.{append-nil}
use Rattle.std.proofs.lemmas.Bool.{le-leb, lt-leb, lt-ltb}
use Rattle.std.proofs.lemmas.Option.{same_Some}
use Rattle.ap_reader.specs.declared.word.Word.{Word}
use Rattle.ap_reader.specs.declared.word.Word.TheVariants as w
use Rattle.ap_reader.specs.Grammar.{Tree, Single, Positive, Negative, Prefix, Infix, Group, Compound, Empty, Listed, Tailed, Items, Begin, Then, infix_rank, prefix_rank, spelled, each, priority, IsTerm, AreItems, IsWhole}
use Rattle.ap_reader.specs.Machine.{Head, Named, Bracket, Frame, AfterPrefix, AfterInfix, InGroup, Inside, InTail, Wants, Has, Stuck, room, reduced, shifted, closed, list_closed, parted, barred, over, next, parsed, ended, whole}
use Rattle.ap_reader.specs.Operator.{priority_of, left_max}
use Rattle.ap_reader.proofs.Levels.{left_max-le, right_max-le, apart, comma_is}

-- the operand at the right end of a term, and what is open there
abbrev pub edge : Tree → Tree
edge (Prefix o t) = edge t
edge (Infix l o r) = edge r
edge t = t

abbrev pub spine : Tree → List Frame → List Frame
spine (Prefix o t) s = spine t (AfterPrefix o ∷ s)
spine (Infix l o r) s = spine r (AfterInfix l o ∷ s)
spine t s = s

pub reduced-prefix : (m : ℕ) (o : Word) (t : Tree) (s : List Frame) → prefix_rank o ≤ m → reduced m t (AfterPrefix o ∷ s) ≡ reduced m (Prefix o t) s
unfolding reduced
reduced-prefix m o t s h = ap (λ b. cond b (reduced m (Prefix o t) s) (Has t (AfterPrefix o ∷ s))) (le-leb (prefix_rank o) m h)

pub reduced-infix : (m : ℕ) (l : Tree) (o : Word) (t : Tree) (s : List Frame) → infix_rank o ≤ m → reduced m t (AfterInfix l o ∷ s) ≡ reduced m (Infix l o t) s
unfolding reduced
reduced-infix m l o t s h = ap (λ b. cond b (reduced m (Infix l o t) s) (Has t (AfterInfix l o ∷ s))) (le-leb (infix_rank o) m h)

-- what is open at the right end of a term is taken in again
pub unwound : (m : ℕ) (t : Tree) (s : List Frame) → IsTerm t → priority t ≤ m → reduced m (edge t) (spine t s) ≡ reduced m t s
unwound m (Prefix o t) s ok h =
    let below : priority t ≤ m = omega (arith, right_max-le (prefix_rank o), ok.1) in
    unwound m t (AfterPrefix o ∷ s) ok.2 below ∙ reduced-prefix m o t s h
unwound m (Infix l o r) s ok h =
    let below : priority r ≤ m = omega (arith, right_max-le (infix_rank o), ok.2) in
    unwound m r (AfterInfix l o ∷ s) ok.4 below ∙ reduced-infix m l o r s h
unwound m (Single at) s ok h = refl
unwound m (Positive n) s ok h = refl
unwound m (Negative sign i n) s ok h = refl
unwound m (Group t) s ok h = refl
unwound m (Compound at i items t) s ok h = refl
unwound m Empty s ok h = refl
unwound m (Listed items t) s ok h = refl
unwound m (Tailed items t u) s ok h = refl

-- an operator for which there is room takes nothing of what is open
settled : (q : ℕ) (t : Tree) (s : List Frame) → 0 < q → q ≤ room s → reduced (left_max q) t s ≡ Has t s
unfolding reduced
settled q t [] h k = refl
settled q t (AfterPrefix o ∷ s) h k = ap (λ b. cond b (reduced (left_max q) (Prefix o t) s) (Has t (AfterPrefix o ∷ s))) (lt-leb (prefix_rank o) (left_max q) (apart (prefix_rank o) q h k))
settled q t (AfterInfix l o ∷ s) h k = ap (λ b. cond b (reduced (left_max q) (Infix l o t) s) (Has t (AfterInfix l o ∷ s))) (lt-leb (infix_rank o) (left_max q) (apart (infix_rank o) q h k))
settled q t (InGroup ∷ s) h k = refl
settled q t (Inside head items ∷ s) h k = refl
settled q t (InTail items u ∷ s) h k = refl

-- an operator that may stand behind a term, and that its place has room for, is shifted
prefixed-is : (o : Word) (s : List Frame) → 0 < prefix_rank o → prefix_rank o ≤ room s → next (Wants s) o ≡ Wants (AfterPrefix o ∷ s)
prefixed-is (w.Operator at i p) s h k =
    ap (λ b. cond (b && leb p (room s)) (Wants (AfterPrefix (w.Operator at i p) ∷ s)) Stuck) (lt-ltb 0 p h) ∙ ap (λ b. cond b (Wants (AfterPrefix (w.Operator at i p) ∷ s)) Stuck) (le-leb p (room s) k)
prefixed-is (w.Operand at) s h k = absurd (omega arith)
prefixed-is (w.Number n) s h k = absurd (omega arith)
prefixed-is (w.Sign at i) s h k = absurd (omega arith)
prefixed-is (w.Functor at i) s h k = absurd (omega arith)
prefixed-is w.Open s h k = absurd (omega arith)
prefixed-is w.Close s h k = absurd (omega arith)
prefixed-is w.OpenList s h k = absurd (omega arith)
prefixed-is w.CloseList s h k = absurd (omega arith)
prefixed-is (w.Comma at) s h k = absurd (omega arith)
prefixed-is w.Bar s h k = absurd (omega arith)
prefixed-is w.Other s h k = absurd (omega arith)

shifted-is : (o : Word) (t : Tree) (s : List Frame) → 0 < infix_rank o → infix_rank o ≤ room s → shifted o (Has t s) ≡ Wants (AfterInfix t o ∷ s)
shifted-is o t s h k =
    ap (λ b. cond (b && leb (infix_rank o) (room s)) (Wants (AfterInfix t o ∷ s)) Stuck) (lt-ltb 0 (infix_rank o) h) ∙ ap (λ b. cond b (Wants (AfterInfix t o ∷ s)) Stuck) (le-leb (infix_rank o) (room s) k)

-- a comma for which there is room as an operator parts no items
comma-is : (at : ℕ) (t : Tree) (s : List Frame) → 1000 ≤ room s → parted at (Has t s) ≡ shifted (w.Comma at) (Has t s)
comma-is at t [] k = refl
comma-is at t (AfterPrefix o ∷ s) k = refl
comma-is at t (AfterInfix l o ∷ s) k = refl
comma-is at t (InGroup ∷ s) k = refl
comma-is at t (Inside head items ∷ s) k = absurd (omega arith)
comma-is at t (InTail items u ∷ s) k = refl

pub left-comma : left_max (priority_of false (codes ",")) ≡ 999
unfolding left_max priority_of
left-comma = refl

infixed : (o : Word) (l : Tree) (s : List Frame) → 0 < infix_rank o → IsTerm l → priority l ≤ left_max (infix_rank o) → infix_rank o ≤ room s → next (Has (edge l) (spine l s)) o ≡ Wants (AfterInfix l o ∷ s)
infixed (w.Operator at i p) l s h ok fits k =
    ap (shifted (w.Operator at i p)) (unwound (left_max i) l s ok fits ∙ settled i l s h k) ∙ shifted-is (w.Operator at i p) l s h k
infixed (w.Sign at i) l s h ok fits k =
    ap (shifted (w.Sign at i)) (unwound (left_max i) l s ok fits ∙ settled i l s h k) ∙ shifted-is (w.Sign at i) l s h k
infixed (w.Comma at) l s h ok fits k =
    ap (parted at) (ap (λ m. reduced m (edge l) (spine l s)) (sym left-comma) ∙ unwound (left_max (priority_of false (codes ","))) l s ok fits ∙ settled (priority_of false (codes ",")) l s h k) ∙ comma-is at l s (omega (arith, comma_is)) ∙ shifted-is (w.Comma at) l s h k
infixed (w.Operand at) l s h ok fits k = absurd (omega arith)
infixed (w.Number n) l s h ok fits k = absurd (omega arith)
infixed (w.Functor at i) l s h ok fits k =
    ap (shifted (w.Functor at i)) (unwound (left_max i) l s ok fits ∙ settled i l s h k) ∙ shifted-is (w.Functor at i) l s h k
infixed w.Open l s h ok fits k = absurd (omega arith)
infixed w.Close l s h ok fits k = absurd (omega arith)
infixed w.OpenList l s h ok fits k = absurd (omega arith)
infixed w.CloseList l s h ok fits k = absurd (omega arith)
infixed w.Bar l s h ok fits k = absurd (omega arith)
infixed w.Other l s h ok fits k = absurd (omega arith)

reduced-inside : (m : ℕ) (t : Tree) (h : Head) (items : Items) (s : List Frame) → reduced m t (Inside h items ∷ s) ≡ Has t (Inside h items ∷ s)
unfolding reduced
reduced-inside m t h items s = refl

reduced-group : (m : ℕ) (t : Tree) (s : List Frame) → reduced m t (InGroup ∷ s) ≡ Has t (InGroup ∷ s)
unfolding reduced
reduced-group m t s = refl

reduced-tail : (m : ℕ) (t u : Tree) (items : Items) (s : List Frame) → reduced m u (InTail items t ∷ s) ≡ Has u (InTail items t ∷ s)
unfolding reduced
reduced-tail m t u items s = refl

reduced-none : (m : ℕ) (t : Tree) → reduced m t [] ≡ Has t []
unfolding reduced
reduced-none m t = refl

-- the machine goes over a term's words, and over items with their commas
mutual
  pub walk : (t : Tree) (s : List Frame) (rest : List Word) → IsTerm t → priority t ≤ room s → over (Wants s) (spelled t ++ rest) ≡ over (Has (edge t) (spine t s)) rest
  walk (Single at) s rest ok fits = refl
  walk (Positive n) s rest ok fits = ap (λ b. over (cond b (Has (Positive n) s) Stuck) rest) (lt-ltb n (2 ^ 63) ok)
  walk (Negative sign i n) s rest ok fits = ap (λ b. over (cond b (Has (Negative sign i n) s) Stuck) rest) (le-leb n (2 ^ 63) ok)
  walk (Prefix o t) s rest ok fits =
      ap (λ x. over x (spelled t ++ rest)) (prefixed-is o s ok.0 fits) ∙ walk t (AfterPrefix o ∷ s) rest ok.2 ok.1
  walk (Infix l o r) s rest ok fits =
      let below : priority l ≤ room s = omega (arith, left_max-le (infix_rank o), ok.1) in
      ap (over (Wants s)) (append_assoc (spelled l) (o ∷ spelled r) rest) ∙ walk l s (o ∷ (spelled r ++ rest)) ok.3 below ∙ ap (λ x. over x (spelled r ++ rest)) (infixed o l s ok.0 ok.3 ok.1 fits) ∙ walk r (AfterInfix l o ∷ s) rest ok.4 ok.2
  walk (Group t) s rest ok fits =
      ap (over (Wants (InGroup ∷ s))) (append_assoc (spelled t) (w.Close ∷ []) rest) ∙ walk t (InGroup ∷ s) (w.Close ∷ rest) ok.1 ok.0 ∙ ap (λ x. over (closed x) rest) (unwound 1200 t (InGroup ∷ s) ok.1 ok.0 ∙ reduced-group 1200 t s)
  walk (Compound at i items t) s rest ok fits =
      let high : priority t ≤ 1200 = omega (arith, ok.1) in
      ap (over (Wants (Inside (Named at i) Begin ∷ s))) (append_assoc (each items) (spelled t ++ w.Close ∷ []) rest ∙ ap (λ x. each items ++ x) (append_assoc (spelled t) (w.Close ∷ []) rest)) ∙ paced items (Named at i) s (spelled t ++ w.Close ∷ rest) ok.0 ∙ walk t (Inside (Named at i) items ∷ s) (w.Close ∷ rest) ok.2 ok.1 ∙ ap (λ x. over (closed x) rest) (unwound 1200 t (Inside (Named at i) items ∷ s) ok.2 high ∙ reduced-inside 1200 t (Named at i) items s)
  walk Empty s rest ok fits = refl
  walk (Listed items t) s rest ok fits =
      ap (over (Wants (Inside Bracket Begin ∷ s))) (append_assoc (each items) (spelled t ++ w.CloseList ∷ []) rest ∙ ap (λ x. each items ++ x) (append_assoc (spelled t) (w.CloseList ∷ []) rest)) ∙ paced items Bracket s (spelled t ++ w.CloseList ∷ rest) ok.0 ∙ walk t (Inside Bracket items ∷ s) (w.CloseList ∷ rest) ok.2 ok.1 ∙ ap (λ x. over (list_closed x) rest) (unwound 999 t (Inside Bracket items ∷ s) ok.2 ok.1 ∙ reduced-inside 999 t Bracket items s)
  walk (Tailed items t u) s rest ok fits =
      let after = spelled u ++ w.CloseList ∷ [] in
      ap (over (Wants (Inside Bracket Begin ∷ s))) (append_assoc (each items) (spelled t ++ w.Bar ∷ after) rest ∙ ap (λ x. each items ++ x) (append_assoc (spelled t) (w.Bar ∷ after) rest ∙ ap (λ x. spelled t ++ w.Bar ∷ x) (append_assoc (spelled u) (w.CloseList ∷ []) rest))) ∙ paced items Bracket s (spelled t ++ w.Bar ∷ (spelled u ++ w.CloseList ∷ rest)) ok.0 ∙ walk t (Inside Bracket items ∷ s) (w.Bar ∷ (spelled u ++ w.CloseList ∷ rest)) ok.2 ok.1 ∙ ap (λ x. over (barred x) (spelled u ++ w.CloseList ∷ rest)) (unwound 999 t (Inside Bracket items ∷ s) ok.2 ok.1 ∙ reduced-inside 999 t Bracket items s) ∙ walk u (InTail items t ∷ s) (w.CloseList ∷ rest) ok.4 ok.3 ∙ ap (λ x. over (list_closed x) rest) (unwound 999 u (InTail items t ∷ s) ok.4 ok.3 ∙ reduced-tail 999 t u items s)

  paced : (items : Items) (h : Head) (s : List Frame) (rest : List Word) → AreItems items → over (Wants (Inside h Begin ∷ s)) (each items ++ rest) ≡ over (Wants (Inside h items ∷ s)) rest
  paced Begin h s rest ok = refl
  paced (Then items t at) h s rest ok =
      ap (over (Wants (Inside h Begin ∷ s))) (append_assoc (each items) (spelled t ++ w.Comma at ∷ []) rest ∙ ap (λ x. each items ++ x) (append_assoc (spelled t) (w.Comma at ∷ []) rest)) ∙ paced items h s (spelled t ++ w.Comma at ∷ rest) ok.0 ∙ walk t (Inside h items ∷ s) (w.Comma at ∷ rest) ok.2 ok.1 ∙ ap (λ x. over (parted at x) rest) (unwound 999 t (Inside h items ∷ s) ok.2 ok.1 ∙ reduced-inside 999 t h items s)

pub complete : (t : Tree) → IsWhole t → parsed (spelled t) ≡ Some t
complete t ok =
    ap (λ x. ended (over (Wants []) x)) (sym (append-nil (spelled t))) ∙ ap ended (walk t [] [] ok.1 ok.0) ∙ ap whole (unwound 1200 t [] ok.1 ok.0 ∙ reduced-none 1200 t)

pub one : (a b : Tree) → IsWhole a → IsWhole b → spelled a ≡ spelled b → a ≡ b
one a b ok_a ok_b e = same_Some a b (sym (complete a ok_a) ∙ ap parsed e ∙ complete b ok_b)
