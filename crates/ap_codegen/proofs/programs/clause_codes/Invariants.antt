use Rattle.std.proofs.Common.{◌≡◌, ◌+◌, length, map, take}
use Rattle.ap_instr.specs.Code.{Compiled}
use Rattle.ap_codegen.specs.Assembled.{Grows, Holds, AreCoded, together}
use Rattle.ap_codegen.proofs.programs.clause_codes.Given as goal

abbrev pub invariant-loop-clause : goal.invariant-loop-clause
invariant-loop-clause l =
    Grows l.fn.tables l.tables
    × (length l.codes.items ≡ l.clause-index)
    × (l.at ≡ l.first + length (together (map (λ v. v.items) l.codes.items)))
    × ((code : Compiled) → Holds l.tables code → AreCoded code l.first (map (λ v. v.items) l.codes.items) (map (λ c. c.now) (take l.clause-index l.clauses)))
