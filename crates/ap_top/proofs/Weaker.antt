-- A run whose source failed in one way, read as one whose source failed in a weaker one.
use Rattle.std.proofs.Common.{ℕ, List, Option}
use Rattle.ap_term.specs.Goals.{Program}
use Rattle.ap_words.specs.Reading.{Reading}
use Rattle.ap_top.specs.Words.{Asked}
use Rattle.ap_top.specs.Ends.{SourceEnds, TextEnds, FileEnds, AskedEnds, WordsEnd, RunEnds, FailsBehind, IsTaken}
use Rattle.ap_top.specs.declared.status.Status.{Status}
use Rattle.ap_top.proofs.Layers.{taken_first}

module _ (source : Option (List ℕ)) (P Q : List ℕ → Type 0) (weaker : (taken : List ℕ) → P taken → Q taken) where
  source_weaker : (what : Asked) (program : Program) (table : List (List ℕ)) (s : Status) (ls : List (List ℕ)) → SourceEnds what program table source P s ls → SourceEnds what program table source Q s ls
  source_weaker what program table _ ls (SourceEnds.fault i t b _ r l o e) = SourceEnds.fault i t b ls (weaker i r) l o e
  source_weaker what program table _ ls (SourceEnds.too_long i _ t l e) = SourceEnds.too_long i ls t l e
  source_weaker what program table _ ls (SourceEnds.read i t s _ told l o e) = SourceEnds.read i t s ls told l o e

  text_weaker : (what : Asked) (bytes : List ℕ) (s : Status) (ls : List (List ℕ)) → TextEnds what bytes source P s ls → TextEnds what bytes source Q s ls
  text_weaker what bytes _ ls (TextEnds.refused r _ n e) = TextEnds.refused r ls n e
  text_weaker what bytes _ ls (TextEnds.accepted p t s _ r ends) = TextEnds.accepted p t s ls r (source_weaker what p t s ls ends)

  module _ (entries : Option (List (List ℕ × List ℕ))) (FilesRose : Type 0) where
    file_weaker : (what : Asked) (s : Status) (ls : List (List ℕ)) → FileEnds what entries source FilesRose P s ls → FileEnds what entries source FilesRose Q s ls
    file_weaker what _ ls (FileEnds.fault _ r e) = FileEnds.fault ls r e
    file_weaker what _ ls (FileEnds.too_long _ has e) = FileEnds.too_long ls has e
    file_weaker what _ ls (FileEnds.read bytes s _ has k ends) = FileEnds.read bytes s ls has k (text_weaker what bytes s ls ends)

    asked_weaker : (r : Reading) (s : Status) (ls : List (List ℕ)) → AskedEnds r entries source FilesRose P s ls → AskedEnds r entries source FilesRose Q s ls
    asked_weaker r _ ls (AskedEnds.unasked _ e l) = AskedEnds.unasked ls e l
    asked_weaker r _ ls (AskedEnds.helped _ e l) = AskedEnds.helped ls e l
    asked_weaker r _ ls (AskedEnds.versioned _ e l) = AskedEnds.versioned ls e l
    asked_weaker r _ ls (AskedEnds.ran what s _ e ends) = AskedEnds.ran what s ls e (file_weaker what s ls ends)
    asked_weaker r _ ls (AskedEnds.shown what s _ e ends) = AskedEnds.shown what s ls e ends
    asked_weaker r _ ls (AskedEnds.coded file s _ e ends) = AskedEnds.coded file s ls e ends
    asked_weaker r _ ls (AskedEnds.loaded seed size workers s _ e ends) = AskedEnds.loaded seed size workers s ls e ends

    words_weaker : (words : List (List ℕ)) (s : Status) (ls : List (List ℕ)) → WordsEnd words entries source FilesRose P s ls → WordsEnd words entries source FilesRose Q s ls
    words_weaker words _ ls (WordsEnd.read r s _ is ends) = WordsEnd.read r s ls is (asked_weaker r s ls ends)

-- what was taken before a fault is a beginning of the source
pub run_weaker : (before left : Option (List ℕ)) (entries : Option (List (List ℕ × List ℕ))) (FilesRose SourceRose : Type 0) (words : List (List ℕ)) (s : Status) (ls : List (List ℕ)) →
    WordsEnd words entries before FilesRose (FailsBehind before left SourceRose) s ls → RunEnds words entries before FilesRose SourceRose s ls
run_weaker before left entries FilesRose SourceRose words s ls ends =
    words_weaker before (FailsBehind before left SourceRose) (λ taken. SourceRose × IsTaken before taken) (λ taken f. (f.0, taken_first before left taken f.1)) entries FilesRose words s ls ends
