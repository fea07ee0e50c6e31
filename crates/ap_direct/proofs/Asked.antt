-- A table of goals, one of which is written.
use Rattle.std.proofs.Common.{◌≡◌, ℕ, zero, suc, ◌<◌, ◌≤◌, ◌==◌, Bool, true, false, List, [], ◌∷◌, ◌++◌, length, set, get_or, slice_get, replicate, Option, Some, None, refl, ap, sym, ◌∙◌, subst, arith}
use Rattle.std.specs.Prelude.{IfSome}
use Rattle.std.proofs.lemmas.Bool.{false≢true}
use Rattle.std.proofs.lemmas.Bool.Decides.{Decides-eqb}
use Rattle.std.proofs.lemmas.List.{get_or-set_same, get_or-set_other, length-set, length-replicate, get_or-replicate, take-set-le, take-append-le}
use Rattle.std.proofs.lemmas.Option.{slice_get_within, get_or_from_slice_get, slice_get-get_or}
use Rattle.ap_instr.specs.Code.{Compiled}
use Rattle.ap_direct.specs.Goals.{AsksFirst}
use Rattle.ap_direct.specs.Table.{Boxed, AreAsked, AreSameBefore}

pub set_asked : (code : Compiled) (gs : List (Option Boxed)) (n : ℕ) (o : Option Boxed) → n < length gs → IfSome o (λ d. AsksFirst code n d.value) → AreAsked code gs → AreAsked code (set gs n o)
set_asked code gs n o inside asks all at d e = go (at == n) refl
  where
    now : get_or (set gs n o) at None ≡ Some d
    now = get_or_from_slice_get (set gs n o) at (Some d) None e

    go : (b : Bool) → (at == n) ≡ b → AsksFirst code at d.value
    go true h =
        let q : at ≡ n = (Decides-eqb at n).0 h in
        let w : o ≡ Some d = sym (get_or-set_same gs n o None inside) ∙ ap (λ k. get_or (set gs n o) k None) (sym q) ∙ now in
        subst (λ k. AsksFirst code k d.value) (sym q) (subst (λ p. IfSome p (λ c. AsksFirst code n c.value)) w asks)
    go false h =
        let w : get_or gs at None ≡ Some d = sym (get_or-set_other gs n at o None (λ q. absurd (false≢true (sym h ∙ (Decides-eqb at n).1 q)))) ∙ now in
        let l : at < length (set gs n o) = slice_get_within (set gs n o) at (Some d) e in
        let m : length (set gs n o) ≡ length gs = length-set gs n o in
        all at d (slice_get-get_or gs at None (omega (arith, m, l)) ∙ ap Some w)

none_has : (n at : ℕ) (d : Boxed) → slice_get (replicate n None) at ≡ Some (Some d) → ⊥
none_has n at d e =
    let gs : List (Option Boxed) = replicate n None in
    let l : at < length gs = slice_get_within gs at (Some d) e in
    let m : length gs ≡ n = length-replicate n None in
    let o : ◌≡◌ {A = Option Boxed} None (Some d) = sym (get_or-replicate n at None None (omega (arith, m, l))) ∙ get_or_from_slice_get gs at (Some d) None e in
    absurd cc

-- what holds of each goal still does with none behind them
more : (P : ℕ → Boxed → Type 0) (gs hs : List (Option Boxed)) → ((at : ℕ) (d : Boxed) → slice_get gs at ≡ Some (Some d) → P at d) → ((at : ℕ) (d : Boxed) → slice_get hs at ≡ Some (Some d) → ⊥)
    → (at : ℕ) (d : Boxed) → slice_get (gs ++ hs) at ≡ Some (Some d) → P at d
more P [] hs h k at d e = absurd (k at d e)
more P (g ∷ gs) hs h k zero d e = h zero d e
more P (g ∷ gs) hs h k (suc at) d e = more (λ n. P (suc n)) gs hs (λ n. h (suc n)) k at d e

pub more_asked : (code : Compiled) (gs : List (Option Boxed)) (n : ℕ) → AreAsked code gs → AreAsked code (gs ++ replicate n None)
more_asked code gs n h = more (λ at d. AsksFirst code at d.value) gs (replicate n None) h (none_has n)

pub empty_asked : (code : Compiled) (gs : List (Option Boxed)) → gs ≡ [] → AreAsked code gs
empty_asked code gs e at d h = absurd (let q : None ≡ Some (Some d) = ap (λ hs. slice_get hs at) (sym e) ∙ h in let z : ⊥ = cc in z)

-- a goal that is written changes none before it
pub set_before : (gs : List (Option Boxed)) (n at : ℕ) (o : Option Boxed) → n ≤ at → AreSameBefore n gs (set gs at o)
set_before gs n at o l = λ m h. take-set-le m gs at o (omega arith)

pub more_before : (gs : List (Option Boxed)) (n : ℕ) → AreSameBefore (length gs) gs (gs ++ replicate n None)
more_before gs n = λ m h. take-append-le m gs (replicate n None) h

-- what an entry of the list is
pub asked_at : (code : Compiled) (gs : List (Option Boxed)) (n : ℕ) (o m : Option Boxed) → n < length gs → AreAsked code gs → m ≡ get_or gs n m → o ≡ m → IfSome o (λ d. AsksFirst code n d.value)
asked_at code gs n None m inside all e q = tt
asked_at code gs n (Some d) m inside all e q = all n d (slice_get-get_or gs n m inside ∙ ap Some (sym e ∙ sym q))
