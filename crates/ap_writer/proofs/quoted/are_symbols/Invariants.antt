use Rattle.std.proofs.Common.{◌≡◌, drop}
use Rattle.std.specs.List.{list_all}
use Rattle.ap_writer.specs.Quoted.{is_symbol}
use Rattle.ap_writer.proofs.quoted.are_symbols.Given as goal

abbrev pub invariant-loop-b : goal.invariant-loop-b
invariant-loop-b l = list_all is_symbol (drop l.b-index l.bytes) ≡ list_all is_symbol l.bytes
