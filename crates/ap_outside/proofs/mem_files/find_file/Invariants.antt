use Rattle.std.proofs.Common.{◌≡◌, drop}
use Rattle.ap_outside.specs.Files.{content_of}
use Rattle.ap_outside.specs.MemFiles.{entries_of}
use Rattle.ap_outside.proofs.mem_files.find_file.Given as goal

abbrev pub invariant-loop-file : goal.invariant-loop-file
invariant-loop-file l = content_of (entries_of (drop l.file-index l.files)) l.name ≡ content_of (entries_of l.files) l.name
