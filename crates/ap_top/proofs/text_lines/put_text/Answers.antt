use Rattle.std.proofs.Common.{◌≡◌, ◌<◌, ℕ, List, [], ◌∷◌, ◌++◌, length, take, drop, Err, refl, ◌∙◌, ap, rules, arith}
use Rattle.ap_outside.specs.Halting.{AnyOf}
use Rattle.ap_outside.specs.Pieces.{PrefixOf}
use Rattle.ap_outside.proofs.Puts.{puts_then}
use Rattle.ap_outside.proofs.Halts.{passes_on, stops_at}
use Rattle.ap_top.specs.TextLines.{text_lines, line_length}
use Rattle.ap_top.proofs.TextLines.{first_line, length_some, one_line_more, lines_go_on}
use Rattle.ap_top.proofs.text_lines.put_text.Goals as goal

pub returns-in_err-put_line-clause-lines : goal.returns-in_err-put_line-clause-lines
returns-in_err-put_line-clause-lines g c =
    let same : c.from_residual.result ≡ Err c.in_err-put_line.field-0.0 = search rules in
    let all = text_lines c.args.text.now in
    let rest = c.loop-rest.rest.now in
    let line = c.split_at.result.0.now in
    let behind = c.split_at.result.1.now in
    let some : 0 < length rest = search rules in
    let front : take (line_length rest) rest ≡ line = cc in
    let back : drop (line_length rest) rest ≡ behind = cc in
    let cut : text_lines rest ≡ line ∷ text_lines behind = first_line rest some ∙ ap (λ l. l ∷ text_lines (drop (line_length rest) rest)) front ∙ ap (λ b. line ∷ text_lines b) back in
    let P : List (List ℕ) → Type 0 = λ ps. ps ++ text_lines rest ≡ all in
    let E : Unit {0} → List (List ℕ) → Type 0 = λ _ put. put ≡ line ∷ [] in
    let F : Unit {0} → List (List ℕ) → Type 0 = λ _ put. put ≡ all in
    let goes_on : (ps qs : List (List ℕ)) → P ps → AnyOf E qs → PrefixOf (AnyOf F) (ps ++ qs) = lines_go_on all rest line behind cut in
    passes_on P E F goes_on (stops_at P E F goes_on (line ∷ []) (tt, refl)) _ _ _ c.put_line.result _ c.in_err-put_line.field-0.0 c.in_err-put_line.was same c.loop-rest.invariant.put c.put_line.ensures.lines

pub loop-rest-smaller : goal.loop-rest-smaller
loop-rest-smaller g c =
    let rest = c.loop-rest.rest.now in
    let some : 0 < length rest = search rules in
    let first = length_some rest some in
    omega arith

pub loop-rest-preserved : goal.loop-rest-preserved
loop-rest-preserved g c =
    let all = text_lines c.args.text.now in
    let rest = c.loop-rest.rest.now in
    let line = c.split_at.result.0.now in
    let behind = c.split_at.result.1.now in
    let some : 0 < length rest = search rules in
    let front : take (line_length rest) rest ≡ line = cc in
    let back : drop (line_length rest) rest ≡ behind = cc in
    let cut : text_lines rest ≡ line ∷ text_lines behind = first_line rest some ∙ ap (λ l. l ∷ text_lines (drop (line_length rest) rest)) front ∙ ap (λ b. line ∷ text_lines b) back in
    record {
      put = puts_then _ _ _ (λ ps. ps ++ text_lines rest ≡ all) (λ put. put ≡ line ∷ []) (λ ps. ps ++ text_lines behind ≡ all) (one_line_more all rest line behind cut) c.loop-rest.invariant.put c.in_ok-put_line.ensures.lines;
      count = search rules;
    }
