use Rattle.std.proofs.Common.{◌≡◌, ◌++◌, map, length, drop}
use Rattle.ap_codegen.specs.Assembled.{retries}
use Rattle.ap_codegen.proofs.layout.retries.Given as goal

abbrev pub invariant-loop-code : goal.invariant-loop-code
invariant-loop-code l =
    (l.left ≡ length (drop l.code-index l.codes))
    × (l.out.items ++ retries l.at (map (λ v. v.items) (drop l.code-index l.codes)) ≡ l.fn.out.items ++ retries l.base (map (λ v. v.items) l.codes))
