use Rattle.std.proofs.Common.{◌≡◌, ℕ, List, [], ◌∷◌, ◌++◌, map, take, drop, ◌+◌, refl, rules, Err, sym, ◌∙◌, ap, inr}
use Rattle.std.proofs.lemmas.List.{take-append-drop, map-append}
use Rattle.ap_outside.specs.Halting.{AnyOf}
use Rattle.ap_outside.specs.Pieces.{PrefixOf}
use Rattle.ap_outside.proofs.Halts.{passes_on, stops_at}
use Rattle.ap_outside.proofs.Places.{at_place}
use Rattle.ap_cge.specs.Printed.{line_of}
use Rattle.ap_cge.proofs.output.put_clauses.Goals as goal

pub returns-in_default-clause-lines : goal.returns-in_default-clause-lines
returns-in_default-clause-lines g c =
    let xs = c.args.clauses.now in
    let i = c.loop-clause.clause-index in
    let line = line_of c.args.atoms.now in
    (map line (take i xs), c.loop-clause.invariant.put, inr (map line (drop i xs), (tt, sym (map-append line (take i xs) (drop i xs)) ∙ ap (map line) (take-append-drop i xs))))

pub returns-in_err-put_line-clause-lines : goal.returns-in_err-put_line-clause-lines
returns-in_err-put_line-clause-lines g c =
    let same : c.from_residual.result ≡ Err c.in_err-put_line.field-0.0 = search rules in
    let xs = c.args.clauses.now in
    let i = c.loop-clause.clause-index in
    let x = c.clause-item.result in
    let line = line_of c.args.atoms.now in
    let put : c.deref.result.now ≡ line x = rw c.deref.ensures.value c.in-Ok.ensures in
    let P : List (List ℕ) → Type 0 = λ ps. ps ≡ map line (take i xs) in
    let E : Unit {0} → List (List ℕ) → Type 0 = λ _ put. put ≡ c.deref.result.now ∷ [] in
    let F : Unit {0} → List (List ℕ) → Type 0 = λ _ put. put ≡ map line xs in
    let goes_on : (ps qs : List (List ℕ)) → P ps → AnyOf E qs → PrefixOf (AnyOf F) (ps ++ qs) =
    λ ps qs p any. (map line (drop (i + 1) xs), (tt, rw (p, any.1, put) (at_place line xs i x c.loop-clause-test.true c.clause-item.is))) in
    passes_on P E F goes_on (stops_at P E F goes_on (c.deref.result.now ∷ []) (tt, refl))
    _ _ _ c.put_line.result _ c.in_err-put_line.field-0.0 c.in_err-put_line.was same (_, c.loop-clause.invariant.put, refl) c.put_line.ensures.lines
