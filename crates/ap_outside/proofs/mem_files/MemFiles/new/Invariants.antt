use Rattle.std.proofs.Common.{◌≡◌, map, take}
use Rattle.ap_outside.specs.MemFiles.{entries_of}
use Rattle.ap_outside.proofs.mem_files.MemFiles.new.Given as goal

abbrev pub invariant-loop-name : goal.invariant-loop-name
invariant-loop-name l = entries_of l.list.items ≡ map (λ file. (file.0.now, file.1.now)) (take l.name-index l.files)
