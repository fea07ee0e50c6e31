-- How what calls that may halt have put adds up.
use Rattle.std.proofs.Common.{◌≡◌, ℕ, List, [], ◌∷◌, ◌++◌, sym, ◌∙◌, ap, append_assoc, subst, Option, Result, Ok, Err, refl, inl, inr, arith}
use Rattle.std.proofs.lemmas.Grind.{common_steps}
use Rattle.ap_outside.specs.Pieces.{Puts, PrefixOf, FrontOf, CutOf}
use Rattle.ap_outside.specs.Halting.{AnyOf, Finishes}
use Rattle.ap_outside.specs.declared.halting.Halt.{Halt}
use Rattle.ap_outside.specs.declared.halting.Halt.TheVariants as halt
use Rattle.ap_outside.proofs.Puts.{adds_nothing, puts_then, puts_map, front_map, cut_map}

-- the lines that go with an answer may be called by another name
pub finishes_map : {T : Type 0} (a b : Option (List (List ℕ))) (E F : T → List (List ℕ) → Type 0) (r : Result T Halt) →
    ((t : T) (ls : List (List ℕ)) → E t ls → F t ls) → Finishes a b E r → Finishes a b F r
finishes_map a b E F (Ok t) f puts = puts_map a b (E t) (F t) (f t) puts
finishes_map a b E F (Err halt.Sink) f puts = puts_map a b (CutOf (AnyOf E)) (CutOf (AnyOf F)) (cut_map (AnyOf E) (AnyOf F) (λ ls any. (any.0, f any.0 ls any.1))) puts
finishes_map a b E F (Err halt.NoMemory) f puts = puts_map a b (FrontOf (AnyOf E)) (FrontOf (AnyOf F)) (front_map (AnyOf E) (AnyOf F) (λ ls any. (any.0, f any.0 ls any.1))) puts

-- a halt handed on: lines of the call are lines of the caller
pub halts_map : {T U : Type 0} (a b : Option (List (List ℕ))) (E : T → List (List ℕ) → Type 0) (F : U → List (List ℕ) → Type 0) → ((ls : List (List ℕ)) → AnyOf E ls → AnyOf F ls) →
    (e : Halt) → Finishes a b E (Err e) → Finishes a b F (Err e)
halts_map a b E F f halt.Sink puts = puts_map a b (CutOf (AnyOf E)) (CutOf (AnyOf F)) (cut_map (AnyOf E) (AnyOf F) f) puts
halts_map a b E F f halt.NoMemory puts = puts_map a b (FrontOf (AnyOf E)) (FrontOf (AnyOf F)) (front_map (AnyOf E) (AnyOf F) f) puts

-- the same, as `?` hands an error on
pub passes_halt : {T U : Type 0} (a b : Option (List (List ℕ))) (E : T → List (List ℕ) → Type 0) (F : U → List (List ℕ) → Type 0) → ((ls : List (List ℕ)) → AnyOf E ls → AnyOf F ls) →
    (r : Result T Halt) (q : Result U Halt) (e : Halt) → r ≡ Err e → q ≡ Err e → Finishes a b E r → Finishes a b F q
passes_halt a b E F f r q e was same puts = subst (Finishes a b F) (sym same) (halts_map a b E F f e (subst (Finishes a b E) was puts))

-- want of memory before anything was put
pub halts_at_once : {T : Type 0} (a : Option (List (List ℕ))) (E : T → List (List ℕ) → Type 0) → Finishes a a E (Err halt.NoMemory)
halts_at_once a E = ([], adds_nothing a, inl refl)

-- A call that halts behind lines that have P halts within the whole: what it breaks off goes on to lines of the whole
-- (`goes_on`), and so do the lines before it (`stops`).
module _ {T U : Type 0} (P : List (List ℕ) → Type 0) (E : T → List (List ℕ) → Type 0) (F : U → List (List ℕ) → Type 0)
    (goes_on : (ps qs : List (List ℕ)) → P ps → AnyOf E qs → PrefixOf (AnyOf F) (ps ++ qs))
    (stops : (ps : List (List ℕ)) → P ps → FrontOf (AnyOf F) ps) where
  cut_after : (ps qs : List (List ℕ)) → P ps → CutOf (AnyOf E) qs → CutOf (AnyOf F) (ps ++ qs)
  cut_after ps qs p cut =
      let on = goes_on ps (cut.0 ++ cut.1 ∷ cut.2) p cut.6 in
      let same : (ps ++ (cut.0 ++ cut.1 ∷ cut.2)) ++ on.0 ≡ (ps ++ cut.0) ++ cut.1 ∷ (cut.2 ++ on.0) = grind (arith, common_steps) in
      (ps ++ cut.0, cut.1, cut.2 ++ on.0, cut.3, ap (λ ls. ps ++ ls) cut.4 ∙ sym (append_assoc ps cut.0 (cut.3 ∷ [])), cut.5, subst (AnyOf F) same on.1)

  front_after : (ps qs : List (List ℕ)) → P ps → FrontOf (AnyOf E) qs → FrontOf (AnyOf F) (ps ++ qs)
  front_after ps qs p (inl none) =
      let same : ps ≡ ps ++ qs = grind (arith, common_steps) in
      subst (FrontOf (AnyOf F)) same (stops ps p)
  front_after ps qs p (inr some) =
      let on = goes_on ps (qs ++ some.0) p some.1 in
      let same : (ps ++ (qs ++ some.0)) ++ on.0 ≡ (ps ++ qs) ++ (some.0 ++ on.0) = grind (arith, common_steps) in
      inr (some.0 ++ on.0, subst (AnyOf F) same on.1)

  pub halts_after : (a b c : Option (List (List ℕ))) (e : Halt) → Puts a b P → Finishes b c E (Err e) → Finishes a c F (Err e)
  halts_after a b c halt.Sink puts more = puts_then a b c P (CutOf (AnyOf E)) (CutOf (AnyOf F)) cut_after puts more
  halts_after a b c halt.NoMemory puts more = puts_then a b c P (FrontOf (AnyOf E)) (FrontOf (AnyOf F)) front_after puts more

  -- the same, as `?` hands an error on
  pub passes_on : (a b c : Option (List (List ℕ))) (r : Result T Halt) (q : Result U Halt) (e : Halt) → r ≡ Err e → q ≡ Err e → Puts a b P → Finishes b c E r → Finishes a c F q
  passes_on a b c r q e was same puts more = subst (Finishes a c F) (sym same) (halts_after a b c e puts (subst (Finishes b c E) was more))

-- the lines before a halt stop well where some lines of the call go on behind them
pub stops_at : {T U : Type 0} (P : List (List ℕ) → Type 0) (E : T → List (List ℕ) → Type 0) (F : U → List (List ℕ) → Type 0) →
    ((ps qs : List (List ℕ)) → P ps → AnyOf E qs → PrefixOf (AnyOf F) (ps ++ qs)) → (qs : List (List ℕ)) → AnyOf E qs → (ps : List (List ℕ)) → P ps → FrontOf (AnyOf F) ps
stops_at P E F goes_on qs any ps p =
    let on = goes_on ps qs p any in
    inr (qs ++ on.0, subst (AnyOf F) (append_assoc ps qs on.0) on.1)
