-- What the code's stack says of the frames that it stands for.
use Rattle.std.proofs.Common.{◌≡◌, ℕ, ◌⊎◌, inl, inr, List, [], ◌∷◌, ◌++◌, Bool, true, false, cond, leb, Option, Some, None, Result, Ok, length, refl, sym, ap, subst, ◌∙◌, append_assoc}
use Rattle.std.specs.Prelude.{MatchOption, option_to_list}
use Rattle.std.proofs.lemmas.List.{append-nil, same_from_push, nil_from_length}
pub use Rattle.std.proofs.lemmas.List.{same_from_push as last_same}
use Rattle.std.proofs.lemmas.Bool.{leb-true}
use Rattle.std.proofs.lemmas.Option.{cond_some}
use Rattle.ap_reader.specs.declared.pass.Step.{Step}
use Rattle.ap_reader.specs.declared.pass.Step.TheVariants as p
use Rattle.ap_reader.specs.declared.word.Word.{Word}
use Rattle.ap_reader.specs.declared.word.Word.TheVariants as w
use Rattle.ap_reader.specs.Operator.{left_max}
use Rattle.ap_reader.specs.declared.pass.Open.{Open}
use Rattle.ap_reader.specs.declared.pass.Open.TheVariants as o
use Rattle.ap_reader.specs.declared.pass.Around.TheVariants as a
use Rattle.ap_reader.specs.declared.pass.Mode.{Mode}
use Rattle.ap_reader.specs.declared.pass.Mode.TheVariants as mode
use Rattle.ap_reader.specs.declared.pass.ParseErr.{ParseErr}
use Rattle.ap_reader.specs.Grammar.{Tree, Prefix, Infix, Begin, Then, infix_rank, prefix_rank}
use Rattle.ap_reader.specs.Machine.{Named, Bracket, Frame, AfterPrefix, AfterInfix, InGroup, Inside, InTail, State, Wants, Signed, Called, Has, Stuck, reduced, shifted, on_has, closed, list_closed, parted}
use Rattle.ap_reader.specs.Step.{place, postfix, posts, open_of, opens, innermost, steps, Holds, Shows, Follows, due, Takes}
use Rattle.ap_reader.proofs.Complete.{reduced-prefix, reduced-infix}
use Rattle.ap_term.proofs.Lists.{nil-push}

none_when : {A : Type 0} (b : Bool) (x : A) → cond b (Some x) None ≡ None → b ≡ false
none_when true x e = absurd (cc)
none_when false x e = refl

abbrev pub Reduced : ℕ → Tree → List Frame → List Open → List Step → Type 0
Reduced m t s stack out = (t' : Tree) × (s' : List Frame) × Holds t' s' stack out × (reduced m t s ≡ reduced m t' s')

-- the operator that is open last takes its operand
took_frame : (m : ℕ) (t : Tree) (f : Frame) (r : List Frame) (stack : List Open) (out out' : List Step) (step : Step) → out ≡ steps (f ∷ r) ++ postfix t → stack ≡ opens r → due m (open_of f) ≡ Some step → out' ≡ out ++ step ∷ [] → Reduced m t (f ∷ r) stack out'
took_frame m t (AfterPrefix word) r stack out out' step h k d e =
    let which = cond_some (leb (prefix_rank word) m) (p.Prefix (place word)) step d in
    let law : ((steps r ++ []) ++ postfix t) ++ p.Prefix (place word) ∷ [] ≡ steps r ++ (postfix t ++ p.Prefix (place word) ∷ []) = simp (append_assoc, append-nil) in
    (Prefix word t, r, record { stack_is = k; out_is = e ∙ ap (λ x. out ++ x ∷ []) (sym which.1) ∙ ap (λ x. x ++ p.Prefix (place word) ∷ []) h ∙ law }, reduced-prefix m word t r (leb-true (prefix_rank word) m which.0))
took_frame m t (AfterInfix l word) r stack out out' step h k d e =
    let which = cond_some (leb (infix_rank word) m) (p.Infix (place word)) step d in
    let law : ((steps r ++ postfix l) ++ postfix t) ++ p.Infix (place word) ∷ [] ≡ steps r ++ (postfix l ++ (postfix t ++ p.Infix (place word) ∷ [])) = simp append_assoc in
    (Infix l word t, r, record { stack_is = k; out_is = e ∙ ap (λ x. out ++ x ∷ []) (sym which.1) ∙ ap (λ x. x ++ p.Infix (place word) ∷ []) h ∙ law }, reduced-infix m l word t r (leb-true (infix_rank word) m which.0))
took_frame m t InGroup r stack out out' step h k d e = absurd (cc)
took_frame m t (Inside (Named at i) items) r stack out out' step h k d e = absurd (cc)
took_frame m t (Inside Bracket Begin) r stack out out' step h k d e = absurd (cc)
took_frame m t (Inside Bracket (Then items u at)) r stack out out' step h k d e = absurd (cc)
took_frame m t (InTail items u) r stack out out' step h k d e = absurd (cc)

pub took : (m : ℕ) (t : Tree) (s : List Frame) (stack stack' : List Open) (out out' : List Step) (top : Open) (step : Step) → Holds t s stack out → stack ≡ stack' ++ top ∷ [] → due m top ≡ Some step → out' ≡ out ++ step ∷ [] → Reduced m t s stack' out'
took m t [] stack stack' out out' top step h k d e = absurd (nil-push stack' top (sym h.stack_is ∙ k))
took m t (f ∷ r) stack stack' out out' top step h k d e =
    let same = same_from_push (opens r) stack' (open_of f) top (sym h.stack_is ∙ k) in
    took_frame m t f r stack' out out' step h.out_is (sym same.0) (ap (due m) same.1 ∙ d) e

-- where no operator takes its operand, the term stands as it is
settled_frame : (m : ℕ) (t : Tree) (f : Frame) (r : List Frame) → due m (open_of f) ≡ None → reduced m t (f ∷ r) ≡ Has t (f ∷ r)
unfolding reduced
settled_frame m t (AfterPrefix word) r d = ap (λ b. cond b (reduced m (Prefix word t) r) (Has t (AfterPrefix word ∷ r))) (none_when (leb (prefix_rank word) m) (p.Prefix (place word)) d)
settled_frame m t (AfterInfix l word) r d = ap (λ b. cond b (reduced m (Infix l word t) r) (Has t (AfterInfix l word ∷ r))) (none_when (leb (infix_rank word) m) (p.Infix (place word)) d)
settled_frame m t InGroup r d = refl
settled_frame m t (Inside h items) r d = refl
settled_frame m t (InTail items u) r d = refl

pub settled : (m : ℕ) (t : Tree) (s : List Frame) (stack : List Open) (out : List Step) → Holds t s stack out → ((rest : List Open) (top : Open) → stack ≡ rest ++ top ∷ [] → due m top ≡ None) → reduced m t s ≡ Has t s
unfolding reduced
settled m t [] stack out h d = refl
settled m t (f ∷ r) stack out h d = settled_frame m t f r (d (opens r) (open_of f) h.stack_is)

-- a step behind those of two operands, where some steps are gone
law : (gone out out' base a b : List Step) (step : Step) → out' ≡ out ++ step ∷ [] → gone ++ out ≡ (base ++ a) ++ b → gone ++ out' ≡ base ++ (a ++ (b ++ step ∷ []))
law gone out out' base a b step e h =
    ap (λ l. gone ++ l) e ∙ sym (append_assoc gone out (step ∷ [])) ∙ ap (λ l. l ++ step ∷ []) h ∙ append_assoc (base ++ a) b (step ∷ []) ∙ append_assoc base a (b ++ step ∷ [])

-- a closing bracket behind the last operand
pub closed_call : (gone out out' : List Step) (t : Tree) (s : List Frame) (stack stack' : List Open) (at : ℕ) → Holds t s stack (gone ++ out) → stack ≡ stack' ++ o.Call at ∷ [] → out' ≡ out ++ p.Compound at ∷ [] → Shows (closed (Has t s)) mode.Has stack' (gone ++ out')
closed_call gone out out' t [] stack stack' at h k e = absurd (nil-push stack' (o.Call at) (sym h.stack_is ∙ k))
closed_call gone out out' t (f ∷ r) stack stack' at h k e = frame f h.out_is (same_from_push (opens r) stack' (open_of f) (o.Call at) (sym h.stack_is ∙ k))
  where
    frame : (f : Frame) → gone ++ out ≡ steps (f ∷ r) ++ postfix t → (opens r ≡ stack') × (open_of f ≡ o.Call at) → Shows (closed (Has t (f ∷ r))) mode.Has stack' (gone ++ out')
    frame (AfterPrefix word) i same = absurd (cc)
    frame (AfterInfix l word) i same = absurd (cc)
    frame InGroup i same = absurd (cc)
    frame (Inside Bracket Begin) i same = absurd (cc)
    frame (Inside Bracket (Then items u n)) i same = absurd (cc)
    frame (InTail items u) i same = absurd (cc)
    frame (Inside (Named n i') items) i same =
        let at_is : at ≡ n = cc in
        record { stack_is = sym same.0; out_is = law gone out out' (steps r) (posts items) (postfix t) (p.Compound n) (e ∙ ap (λ x. out ++ p.Compound x ∷ []) at_is) i }

pub closed_list : (gone out out' : List Step) (t : Tree) (s : List Frame) (stack stack' : List Open) (b : Bool) → Holds t s stack (gone ++ out) → stack ≡ stack' ++ o.List b ∷ [] → out' ≡ out ++ p.List ∷ [] → Shows (list_closed (Has t s)) mode.Has stack' (gone ++ out')
closed_list gone out out' t [] stack stack' b h k e = absurd (nil-push stack' (o.List b) (sym h.stack_is ∙ k))
closed_list gone out out' t (f ∷ r) stack stack' b h k e = frame f h.out_is (same_from_push (opens r) stack' (open_of f) (o.List b) (sym h.stack_is ∙ k))
  where
    frame : (f : Frame) → gone ++ out ≡ steps (f ∷ r) ++ postfix t → (opens r ≡ stack') × (open_of f ≡ o.List b) → Shows (list_closed (Has t (f ∷ r))) mode.Has stack' (gone ++ out')
    frame (AfterPrefix word) i same = absurd (cc)
    frame (AfterInfix l word) i same = absurd (cc)
    frame InGroup i same = absurd (cc)
    frame (InTail items u) i same = absurd (cc)
    frame (Inside (Named n i') items) i same = absurd (cc)
    frame (Inside Bracket items) i same = record { stack_is = sym same.0; out_is = law gone out out' (steps r) (posts items) (postfix t) p.List e i }

pub closed_tail : (gone out out' : List Step) (t : Tree) (s : List Frame) (stack stack' : List Open) → Holds t s stack (gone ++ out) → stack ≡ stack' ++ o.Tail ∷ [] → out' ≡ out ++ p.Tailed ∷ [] → Shows (list_closed (Has t s)) mode.Has stack' (gone ++ out')
closed_tail gone out out' t [] stack stack' h k e = absurd (nil-push stack' o.Tail (sym h.stack_is ∙ k))
closed_tail gone out out' t (f ∷ r) stack stack' h k e = frame f h.out_is (same_from_push (opens r) stack' (open_of f) o.Tail (sym h.stack_is ∙ k))
  where
    frame : (f : Frame) → gone ++ out ≡ steps (f ∷ r) ++ postfix t → (opens r ≡ stack') × (open_of f ≡ o.Tail) → Shows (list_closed (Has t (f ∷ r))) mode.Has stack' (gone ++ out')
    frame (AfterPrefix word) i same = absurd (cc)
    frame (AfterInfix l word) i same = absurd (cc)
    frame InGroup i same = absurd (cc)
    frame (Inside (Named n i') items) i same = absurd (cc)
    frame (Inside Bracket Begin) i same = absurd (cc)
    frame (Inside Bracket (Then items u n)) i same = absurd (cc)
    frame (InTail items u) i same = record {
      stack_is = sym same.0;
      out_is = law gone out out' (steps r) (posts items ++ postfix u) (postfix t) p.Tailed e i ∙ ap (λ l. steps r ++ l) (append_assoc (posts items) (postfix u) (postfix t ++ p.Tailed ∷ []));
    }

-- a comma between the items of a list
pub item_of_list : (gone out out' : List Step) (t : Tree) (s : List Frame) (stack rest stack' : List Open) (at : ℕ) → Holds t s stack (gone ++ out) → innermost s ≡ a.List → ((base : List Open) (top : Open) → stack ≡ base ++ top ∷ [] → rest ≡ base) → stack' ≡ rest ++ o.List true ∷ [] → out' ≡ out ++ p.Item ∷ [] → Shows (parted at (Has t s)) mode.Wants stack' (gone ++ out')
item_of_list gone out out' t [] stack rest stack' at h in_list k g e = absurd (cc)
item_of_list gone out out' t (AfterPrefix word ∷ r) stack rest stack' at h in_list k g e = absurd (cc)
item_of_list gone out out' t (AfterInfix l word ∷ r) stack rest stack' at h in_list k g e = absurd (cc)
item_of_list gone out out' t (InGroup ∷ r) stack rest stack' at h in_list k g e = absurd (cc)
item_of_list gone out out' t (InTail items u ∷ r) stack rest stack' at h in_list k g e = absurd (cc)
item_of_list gone out out' t (Inside (Named n i) items ∷ r) stack rest stack' at h in_list k g e = absurd (cc)
item_of_list gone out out' t (Inside Bracket items ∷ r) stack rest stack' at h in_list k g e = record {
  stack_is = g ∙ ap (λ l. l ++ o.List true ∷ []) (k (opens r) (open_of (Inside Bracket items)) h.stack_is);
  out_is = law gone out out' (steps r) (posts items) (postfix t) p.Item e h.out_is;
}

pub popped : (xs ys base : List Open) (r : Option Open) (top : Open) → MatchOption r (length xs ≡ 0) (λ x. Unit {0}) → xs ≡ ys ++ option_to_list r → xs ≡ base ++ top ∷ [] → ys ≡ base
popped xs ys base None top empty e k = absurd (nil-push base top (sym (nil_from_length xs empty) ∙ k))
popped xs ys base (Some x) top empty e k = (same_from_push ys base x top (sym e ∙ k)).0

-- a word that is an operator behind a term
abbrev pub IsInfix : Word → Type 0
IsInfix word = ((i : ℕ) × (j : ℕ) × (k : ℕ) × (word ≡ w.Operator i j k)) ⊎ (((i : ℕ) × (j : ℕ) × (word ≡ w.Functor i j)) ⊎ ((i : ℕ) × (j : ℕ) × (word ≡ w.Sign i j)))

pub is_shifted : (t : Tree) (s : List Frame) (word : Word) → IsInfix word → on_has t s word ≡ shifted word (reduced (left_max (infix_rank word)) t s)
is_shifted t s word (inl k) = subst (λ x. on_has t s x ≡ shifted x (reduced (left_max (infix_rank x)) t s)) (sym k.3) refl
is_shifted t s word (inr (inl k)) = subst (λ x. on_has t s x ≡ shifted x (reduced (left_max (infix_rank x)) t s)) (sym k.2) refl
is_shifted t s word (inr (inr k)) = subst (λ x. on_has t s x ≡ shifted x (reduced (left_max (infix_rank x)) t s)) (sym k.2) refl

-- the term that is left when operators have taken their operands, and what follows
pub after_reduced : (x : State) (f : State → State) (result : Result Mode ParseErr) (stack stack' : List Open) (out out' : List Step) → Shows x mode.Has stack out → ((t : Tree) (s : List Frame) → Holds t s stack out → Follows (f (Has t s)) result stack' out') → Follows (f x) result stack' out'
after_reduced (Has t s) f result stack stack' out out' h k = k t s h
after_reduced (Wants s) f result stack stack' out out' h k = absurd h
after_reduced (Signed sign i s) f result stack stack' out out' h k = absurd h
after_reduced (Called at i s) f result stack stack' out out' h k = absurd h
after_reduced Stuck f result stack stack' out out' h k = absurd h

-- the same behind steps that are gone
pub taken_behind : (gone : List Step) (m : ℕ) (stack stack' : List Open) (out out' : List Step) (b : Bool) → Takes m stack out (Ok b) stack' out' → Takes m stack (gone ++ out) (Ok b) stack' (gone ++ out')
taken_behind gone m stack stack' out out' true k = (k.0, k.1, k.2, k.3, ap (λ l. gone ++ l) k.4 ∙ sym (append_assoc gone out (k.1 ∷ [])))
taken_behind gone m stack stack' out out' false k = (k.0, ap (λ l. gone ++ l) k.1, k.2)

-- one turn of the loop, and its end
pub turned : (m : ℕ) (t₀ t : Tree) (s₀ s : List Frame) (stack stack' : List Open) (out out' : List Step) → Holds t s stack out → reduced m t₀ s₀ ≡ reduced m t s → Takes m stack out (Ok true) stack' out' → Reduced m t₀ s₀ stack' out'
turned m t₀ t s₀ s stack stack' out out' h e k =
    let after = took m t s stack stack' out out' k.0 k.1 h k.2 k.3 k.4 in
    (after.0, after.1, after.2, e ∙ after.3)

pub stopped : (m : ℕ) (t₀ t : Tree) (s₀ s : List Frame) (stack stack' : List Open) (out out' : List Step) → Holds t s stack out → reduced m t₀ s₀ ≡ reduced m t s → Takes m stack out (Ok false) stack' out' → Shows (reduced m t₀ s₀) mode.Has stack' out'
stopped m t₀ t s₀ s stack stack' out out' h e k =
    subst (λ x. Shows x mode.Has stack' out') (sym (e ∙ settled m t s stack out h k.2)) (record { stack_is = k.0 ∙ h.stack_is; out_is = k.1 ∙ h.out_is })
