use Rattle.std.proofs.Common.{◌∷◌, [], ◌++◌, ap, ◌∙◌, append_assoc}
use Rattle.std.specs.Fmt.{decimal}
use Rattle.ap_writer.proofs.Numbering.{number-stays}
use Rattle.ap_writer.proofs.text.push_variable.Goals as goal

pub returns-clause-text : goal.returns-clause-text
returns-clause-text c = λ found p.
    let e = number-stays c.args.numbers.now c.number.new.self found c.args.x c.in_ok-n.n c.in_ok-n.ensures.found c.in_ok-n.ensures.number p in
    let out = c.args.out.now.items in
    c.in_ok-extend_from_slice.ensures.items
    ∙ ap (λ l. l ++ c.as_bytes.result.now) c.in_ok-push.ensures.items
    ∙ ap (λ l. (out ++ 95 ∷ []) ++ l) (c.as_bytes.ensures.value ∙ c.format.ensures.text)
    ∙ append_assoc out (95 ∷ []) (decimal c.in_ok-n.n)
    ∙ ap (λ n. out ++ 95 ∷ decimal n) e
