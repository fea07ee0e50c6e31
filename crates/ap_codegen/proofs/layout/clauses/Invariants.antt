use Rattle.std.proofs.Common.{◌≡◌, ◌++◌, map, drop}
use Rattle.ap_codegen.specs.Assembled.{together}
use Rattle.ap_codegen.proofs.layout.clauses.Given as goal

abbrev pub invariant-loop-code : goal.invariant-loop-code
invariant-loop-code l =
    l.out.items ++ together (map (λ v. v.items) (drop l.code-index l.codes)) ≡ l.fn.out.items ++ together (map (λ v. v.items) l.codes)
