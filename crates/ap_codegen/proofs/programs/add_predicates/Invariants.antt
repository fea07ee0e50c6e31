use Rattle.std.proofs.Common.{◌≡◌, ◌≤◌, length, map, take}
use Rattle.std.specs.List.{filter}
use Rattle.ap_term.specs.Goals.{Program}
use Rattle.ap_instr.specs.Table.{key_of}
use Rattle.ap_codegen.specs.Assembled.{Grows, IsMade}
use Rattle.ap_codegen.specs.Index.{IndexesBeside}
use Rattle.ap_codegen.proofs.programs.add_predicates.Given as goal

abbrev pub invariant-loop-number : goal.invariant-loop-number
invariant-loop-number l =
    Grows l.fn.tables l.tables
    × (length l.made.predicates.items ≡ l.number)
    × (length l.fn.made.predicates.items ≤ l.number)
    × (filter (λ q. q.is_listed) l.fn.made.predicates.items ≡ take l.listed l.fn.made.predicates.items → filter (λ q. q.is_listed) l.made.predicates.items ≡ take l.listed l.made.predicates.items)
    × ((p : Program) → IndexesBeside (map key_of l.fn.made.predicates.items) l.index p → IsMade l.fn.tables l.fn.made.instructions.items l.fn.made.predicates.items p → IsMade l.tables l.made.instructions.items l.made.predicates.items p)
    × (take (length l.fn.made.instructions.items) l.made.instructions.items ≡ l.fn.made.instructions.items)
    × (take (length l.fn.made.predicates.items) l.made.predicates.items ≡ l.fn.made.predicates.items)
