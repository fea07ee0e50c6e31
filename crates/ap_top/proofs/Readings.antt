-- A line that is read as asking for something ends as that does.
use Rattle.std.proofs.Common.{◌≡◌, ℕ, List, [], ◌∷◌, Option, codes, sym, ◌∙◌, subst}
use Rattle.ap_words.specs.Asked.{codes_of, loads, runs, shows}
use Rattle.ap_words.specs.Reading.{Reading, asks, help, usage, version}
use Rattle.ap_words.specs.declared.help.TheConstants.{HELP, VERSION_LINE}
use Rattle.ap_words.proofs.Readings.{asks_alone}
use Rattle.ap_top.specs.Words.{Asked, IsCode, IsCommand, IsShow, Shown}
use Rattle.ap_top.specs.Shows.{FileShows}
use Rattle.ap_top.specs.Codes.{FileCodes}
use Rattle.ap_top.specs.Ends.{AskedEnds, FileEnds, WordsEnd}
use Rattle.ap_top.specs.TextLines.{text_lines}
use Rattle.ap_top.specs.declared.status.Status.{Status}
use Rattle.ap_top.specs.declared.status.Status.TheVariants as status

module _ (entries : Option (List (List ℕ × List ℕ))) (source : Option (List ℕ)) (FilesRose : Type 0) (SourceRose : List ℕ → Type 0) (r : Reading) where
  pub usage_ends : r ≡ usage → (s : Status) (ls : List (List ℕ)) → (s ≡ status.Usage) × (ls ≡ codes "usage: andprolog run FILE | show FILE | code FILE | load SEED SIZE\n" ∷ []) → AskedEnds r entries source FilesRose SourceRose s ls
  usage_ends is s ls h = subst (λ t. AskedEnds r entries source FilesRose SourceRose t ls) (sym h.0) (AskedEnds.unasked ls is h.1)

  pub help_ends : r ≡ help → (s : Status) (ls : List (List ℕ)) → (s ≡ status.Done) × (ls ≡ text_lines HELP.now) → AskedEnds r entries source FilesRose SourceRose s ls
  help_ends is s ls h = subst (λ t. AskedEnds r entries source FilesRose SourceRose t ls) (sym h.0) (AskedEnds.helped ls is h.1)

  pub version_ends : r ≡ version → (s : Status) (ls : List (List ℕ)) → (s ≡ status.Done) × (ls ≡ text_lines VERSION_LINE.now) → AskedEnds r entries source FilesRose SourceRose s ls
  version_ends is s ls h = subst (λ t. AskedEnds r entries source FilesRose SourceRose t ls) (sym h.0) (AskedEnds.versioned ls is h.1)

module _ (entries : Option (List (List ℕ × List ℕ))) (source : Option (List ℕ)) (FilesRose : Type 0) (SourceRose : List ℕ → Type 0) where
  ran_alone : (r : Reading) (what : Asked) → r ≡ asks (runs what) → (s : Status) (ls : List (List ℕ)) → AskedEnds r entries source FilesRose SourceRose s ls → FileEnds what entries source FilesRose SourceRose s ls
  ran_alone r what is _ ls (AskedEnds.unasked _ e l) = let f : usage ≡ asks (runs what) = sym e ∙ is in cc
  ran_alone r what is _ ls (AskedEnds.helped _ e l) = let f : help ≡ asks (runs what) = sym e ∙ is in cc
  ran_alone r what is _ ls (AskedEnds.versioned _ e l) = let f : version ≡ asks (runs what) = sym e ∙ is in cc
  ran_alone r what is _ ls (AskedEnds.ran w s _ e ends) =
      let f : asks (runs w) ≡ asks (runs what) = sym e ∙ is in
      let same : w ≡ what = cc in
      subst (λ v. FileEnds v entries source FilesRose SourceRose s ls) same ends
  ran_alone r what is _ ls (AskedEnds.shown w s _ e ends) = let f : asks (shows w) ≡ asks (runs what) = sym e ∙ is in cc
  ran_alone r what is _ ls (AskedEnds.coded w s _ e ends) = let f : asks (codes_of w) ≡ asks (runs what) = sym e ∙ is in cc
  ran_alone r what is _ ls (AskedEnds.loaded seed size workers s _ e ends) = let f : asks (loads seed size workers) ≡ asks (runs what) = sym e ∙ is in cc

  shown_alone : (r : Reading) (what : Shown) → r ≡ asks (shows what) → (s : Status) (ls : List (List ℕ)) → AskedEnds r entries source FilesRose SourceRose s ls → FileShows what entries FilesRose s ls
  shown_alone r what is _ ls (AskedEnds.unasked _ e l) = let f : usage ≡ asks (shows what) = sym e ∙ is in cc
  shown_alone r what is _ ls (AskedEnds.helped _ e l) = let f : help ≡ asks (shows what) = sym e ∙ is in cc
  shown_alone r what is _ ls (AskedEnds.versioned _ e l) = let f : version ≡ asks (shows what) = sym e ∙ is in cc
  shown_alone r what is _ ls (AskedEnds.ran w s _ e ends) = let f : asks (runs w) ≡ asks (shows what) = sym e ∙ is in cc
  shown_alone r what is _ ls (AskedEnds.shown w s _ e ends) =
      let f : asks (shows w) ≡ asks (shows what) = sym e ∙ is in
      let same : w ≡ what = cc in
      subst (λ v. FileShows v entries FilesRose s ls) same ends
  shown_alone r what is _ ls (AskedEnds.coded w s _ e ends) = let f : asks (codes_of w) ≡ asks (shows what) = sym e ∙ is in cc
  shown_alone r what is _ ls (AskedEnds.loaded seed size workers s _ e ends) = let f : asks (loads seed size workers) ≡ asks (shows what) = sym e ∙ is in cc

  coded_alone : (r : Reading) (what : List ℕ) → r ≡ asks (codes_of what) → (s : Status) (ls : List (List ℕ)) → AskedEnds r entries source FilesRose SourceRose s ls → FileCodes what entries FilesRose s ls
  coded_alone r what is _ ls (AskedEnds.unasked _ e l) = let f : usage ≡ asks (codes_of what) = sym e ∙ is in cc
  coded_alone r what is _ ls (AskedEnds.helped _ e l) = let f : help ≡ asks (codes_of what) = sym e ∙ is in cc
  coded_alone r what is _ ls (AskedEnds.versioned _ e l) = let f : version ≡ asks (codes_of what) = sym e ∙ is in cc
  coded_alone r what is _ ls (AskedEnds.ran w s _ e ends) = let f : asks (runs w) ≡ asks (codes_of what) = sym e ∙ is in cc
  coded_alone r what is _ ls (AskedEnds.shown w s _ e ends) = let f : asks (shows w) ≡ asks (codes_of what) = sym e ∙ is in cc
  coded_alone r what is _ ls (AskedEnds.coded w s _ e ends) =
      let f : asks (codes_of w) ≡ asks (codes_of what) = sym e ∙ is in
      let same : w ≡ what = cc in
      subst (λ v. FileCodes v entries FilesRose s ls) same ends
  coded_alone r what is _ ls (AskedEnds.loaded seed size workers s _ e ends) = let f : asks (loads seed size workers) ≡ asks (codes_of what) = sym e ∙ is in cc

  module _ (words : List (List ℕ)) where
    pub run_ends : (what : Asked) → IsCommand words what → (s : Status) (ls : List (List ℕ)) → WordsEnd words entries source FilesRose SourceRose s ls → FileEnds what entries source FilesRose SourceRose s ls
    run_ends what is _ ls (WordsEnd.read r s _ read ends) = ran_alone r what (asks_alone words (runs what) r is read) s ls ends

    pub show_ends : (what : Shown) → IsShow words what → (s : Status) (ls : List (List ℕ)) → WordsEnd words entries source FilesRose SourceRose s ls → FileShows what entries FilesRose s ls
    show_ends what is _ ls (WordsEnd.read r s _ read ends) = shown_alone r what (asks_alone words (shows what) r is read) s ls ends

    pub code_ends : (file : List ℕ) → IsCode words file → (s : Status) (ls : List (List ℕ)) → WordsEnd words entries source FilesRose SourceRose s ls → FileCodes file entries FilesRose s ls
    code_ends file is _ ls (WordsEnd.read r s _ read ends) = coded_alone r file (asks_alone words (codes_of file) r is read) s ls ends
