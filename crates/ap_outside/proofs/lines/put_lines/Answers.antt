use Rattle.std.proofs.Common.{◌≡◌, ℕ, List, [], ◌∷◌, ◌++◌, map, take, drop, ◌+◌, refl, rules, Err}
use Rattle.ap_outside.specs.Halting.{AnyOf}
use Rattle.ap_outside.specs.Pieces.{PrefixOf}
use Rattle.ap_outside.proofs.Halts.{passes_on, stops_at}
use Rattle.ap_outside.proofs.Places.{at_place}
use Rattle.ap_outside.proofs.lines.put_lines.Goals as goal

pub returns-in_err-put_line-clause-lines : goal.returns-in_err-put_line-clause-lines
returns-in_err-put_line-clause-lines g c =
    let same : c.from_residual.result ≡ Err c.in_err-put_line.field-0.0 = search rules in
    let xs = c.args.lines.now in
    let i = c.loop-line.line-index in
    let x = c.line-item.result in
    let P : List (List ℕ) → Type 0 = λ ps. ps ≡ map (λ line. line.items) (take i xs) in
    let E : Unit {0} → List (List ℕ) → Type 0 = λ _ put. put ≡ c.deref.result.now ∷ [] in
    let F : Unit {0} → List (List ℕ) → Type 0 = λ _ put. put ≡ map (λ line. line.items) xs in
    let goes_on : (ps qs : List (List ℕ)) → P ps → AnyOf E qs → PrefixOf (AnyOf F) (ps ++ qs) =
    λ ps qs p any. (map (λ line. line.items) (drop (i + 1) xs), (tt, rw (p, any.1, c.deref.ensures.value) (at_place (λ line. line.items) xs i x c.loop-line-test.true c.line-item.is))) in
    passes_on P E F goes_on (stops_at P E F goes_on (c.deref.result.now ∷ []) (tt, refl))
    _ _ _ c.put_line.result _ c.in_err-put_line.field-0.0 c.in_err-put_line.was same (_, c.loop-line.invariant.put, refl) c.put_line.ensures.lines
