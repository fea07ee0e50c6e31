-- What the files in memory hold.
use Rattle.std.specs.Prelude.{ℕ, List, map, string_bytes}
use Rattle.ap_outside.specs.declared.mem_files.MemFile.{MemFile}

abbrev pub entry_of : MemFile → List ℕ × List ℕ
entry_of file = (string_bytes file.name, file.content.items)

abbrev pub entries_of : List MemFile → List (List ℕ × List ℕ)
entries_of files = map entry_of files
