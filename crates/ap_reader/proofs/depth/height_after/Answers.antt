use Rattle.std.proofs.Common.{◌∙◌, ap, sym, [], ◌∷◌}
use Rattle.ap_reader.specs.declared.depth.Height.TheVariants as height
use Rattle.ap_reader.specs.Written.{Node, Cons, Nil}
use Rattle.ap_reader.specs.Evaluated.{top_term, below}
use Rattle.ap_reader.specs.Depth.{depth, capped}
use Rattle.ap_reader.proofs.Depths.{depth-leaf}
use Rattle.ap_reader.proofs.depth.height_after.Goals as goal

pub returns-in-Operand : goal.returns-in-Operand
returns-in-Operand c = λ vs e. rw c.in-Operand.is (sym (ap (λ d. height.Term (capped d)) (depth-leaf c.args.leaves.now c.in-Operand.field-0)), e)

pub returns-in-Infix : goal.returns-in-Infix
returns-in-Infix c = λ vs e.
    let right = c.pop_term-right.ensures vs e in
    let left = c.pop_term-in-Infix.ensures (below vs) right.1 in
    let one = c.above-in-Infix.ensures (depth (top_term (below vs))) left.0 in
    let both = c.compound.ensures (top_term (below vs) ∷ []) (top_term vs) (ap height.OneItem one) right.0 in
    rw c.in-Infix.is (ap height.Term (both ∙ ap (λ n. capped (depth (Node n (Cons (top_term (below vs)) (Cons (top_term vs) Nil))))) c.name_at.ensures), left.1)
