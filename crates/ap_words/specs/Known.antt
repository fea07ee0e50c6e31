-- The words of a command, as the table keeps them.
use Rattle.std.specs.Prelude.{map}
use Rattle.ap_words.specs.Table.{Words, words}
use Rattle.ap_words.specs.declared.table.Words.{Words as Kept}

abbrev pub words_in : Kept → Words
words_in known = words (map (λ w. w.now) known.places.now) (map (λ w. w.now) known.options.now)
