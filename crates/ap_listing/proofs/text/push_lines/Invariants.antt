-- What is written and the lines of the rest are all of it.
use Rattle.std.proofs.Common.{◌≡◌, ◌++◌, drop}
use Rattle.ap_listing.specs.Lines.{lines}
use Rattle.ap_listing.proofs.text.push_lines.Given as goal

abbrev pub invariant-loop-instr : goal.invariant-loop-instr
invariant-loop-instr l =
    l.out.items ++ lines l.atoms l.code l.origin (drop l.instr-index l.instrs) ≡ l.fn.out.items ++ lines l.atoms l.code l.origin l.instrs
