use Rattle.std.proofs.Common.{◌≡◌, ℕ, zero, suc, List, [], ◌∷◌, ◌++◌, refl, ap, ◌∙◌}
use Rattle.ap_codegen.specs.Relocated.{by}
use Rattle.ap_codegen.proofs.relocating.grow.Goals as goal

-- a 0 at the end is as none
by_push : (ns : List ℕ) (n : ℕ) → by (ns ++ 0 ∷ []) n ≡ by ns n
by_push [] zero = refl
by_push [] (suc n) = refl
by_push (m ∷ ns) zero = refl
by_push (m ∷ ns) (suc n) = by_push ns n

pub loop-numbers-preserved : goal.loop-numbers-preserved
loop-numbers-preserved c = ap by c.in_ok-push.ensures.items ∙ (λ i n. by_push c.loop-numbers.numbers.items n i) ∙ c.loop-numbers.invariant
