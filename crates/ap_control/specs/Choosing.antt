-- Clauses that a call may enter, by what their heads ask of its arguments.
use Rattle.std.specs.Prelude.{◌≡◌, ℕ, ◌≤◌, ◌⊎◌, Bool, true, false, if◌then◌else◌, List, [], ◌∷◌, Option, Some, None}
use Rattle.std.specs.List.{AllByRecursion}
use Rattle.ap_term.specs.Tree.{Tree, var}
use Rattle.ap_cells.specs.declared.cells.Raw.{Raw}
use Rattle.ap_cells.specs.Trees.{tree_at, trees}
use Rattle.ap_instr.specs.Code.{Compiled}
use Rattle.ap_instr.specs.declared.compiled.Predicate.{Predicate}
use Rattle.ap_instr.specs.StandsFor.{clause_places}
use Rattle.ap_index.specs.declared.key.Key.{Key}
use Rattle.ap_index.specs.declared.hashing.Hashed.{Hashed}
use Rattle.ap_index.specs.declared.head.Ask.{Ask}
use Rattle.ap_index.specs.declared.word.Word.{Word}
use Rattle.ap_index.specs.declared.word.Short.{Short}
use Rattle.ap_index.specs.declared.row.Pair.{Pair}
use Rattle.ap_index.specs.declared.row.Pair.TheVariants.{Never as NonePair, Only as OnlyPair, Open as OpenPair}
use Rattle.ap_index.specs.Words.{word_of, word_or_nothing, HasAsked}
use Rattle.ap_index.specs.Keys.{same_key, IsKeyOf}
use Rattle.ap_index.specs.Heads.{IsMet}
use Rattle.ap_index.specs.Index.{named_from}
use Rattle.ap_match.specs.Fits.{Fits}
use Rattle.ap_standing.specs.Machine.{places_from}
use Rattle.ap_control.specs.declared.choosing.Fit.{Fit}
use Rattle.ap_control.specs.declared.choosing.Fit.TheVariants.{Has, Takes, Lacks, Open}
use Rattle.ap_control.specs.declared.choosing.Chance.{Chance}
use Rattle.ap_control.specs.declared.choosing.Chance.TheVariants.{Never, Sure, Open as OpenChance}
use Rattle.ap_control.specs.declared.alternatives.Alternative.{Alternative}
use Rattle.ap_control.specs.declared.choosing.First.{First as FirstArgument}
use Rattle.ap_control.specs.declared.choosing.Known.{Known}
use Rattle.ap_control.specs.declared.choosing.Possible.{Possible}
use Rattle.ap_control.specs.declared.choosing.Left.{Left}
use Rattle.ap_control.specs.declared.choosing.Chosen.{Chosen}
use Rattle.ap_control.specs.declared.choosing.Chosen.TheVariants.{Only, First}
use Rattle.ap_control.specs.declared.telling.Told.{Told}
use Rattle.ap_control.specs.declared.telling.Told.TheVariants.{Never as NoneTold, Only as OnlyTold, From}
use Rattle.ap_control.specs.Heads.{IsShut, PassesOver}
use Rattle.ap_control.specs.Taking.{CanTake}

-- of the maps that fit the cells that holds of each, of some, or of none; or it isn't told
abbrev pub Under : List Raw → ((ℕ → Tree) → Type 0) → Fit → Type 0
Under cs P Has = (k : ℕ → Tree) → Fits cs k → P k
Under cs P Takes = (k : ℕ → Tree) × Fits cs k × P k
Under cs P Lacks = (k : ℕ → Tree) → Fits cs k → P k → ⊥
Under cs P Open = Unit {0}

-- how a place's tree stands to a key
abbrev pub IsFit : List Raw → ℕ → Key → Fit → Type 0
IsFit cs p key fit = Under cs (λ k. IsKeyOf key (k p)) fit

-- how a term of one key stands to another one
abbrev pub fit_known : Key → Key → Fit
fit_known own asked = if same_key own asked then Has else Lacks

-- argument registers up to one of that number are the same
abbrev pub Alike : ℕ → (ℕ → ℕ) → (ℕ → ℕ) → Type 0
Alike n x z = (w : ℕ) → w ≤ n → z w ≡ x w

-- how the arguments of a call with so many stand to one thing that is asked, and to all, whatever the other registers hold
abbrev pub IsAskFit : List Raw → (ℕ → ℕ) → ℕ → Ask → Fit → Type 0
IsAskFit cs x n ask fit = (z : ℕ → ℕ) → Alike n x z → Under cs (λ k. IsMet (λ w. k (z w)) ask) fit

abbrev pub AreFit : List Raw → (ℕ → ℕ) → ℕ → List Ask → Fit → Type 0
AreFit cs x n asks fit = (z : ℕ → ℕ) → Alike n x z → Under cs (λ k. AllByRecursion (IsMet (λ w. k (z w))) asks) fit

-- two that take a variable may take the same one
abbrev pub both : Fit → Fit → Fit
both Lacks f = Lacks
both f Lacks = Lacks
both Has f = f
both f Has = f
both _ _ = Open

-- what that says of a clause, where a head asks for nothing else or for more
abbrev pub chance_by : Fit → Bool → Chance
chance_by Lacks whole = Never
chance_by Open whole = OpenChance
chance_by f true = Sure
chance_by f false = OpenChance

-- whether the clause at a place can be entered, whatever registers hold that are no arguments
abbrev pub IsChance : Compiled → List Raw → (ℕ → ℕ) → ℕ → ℕ → Chance → Type 0
IsChance code cs x n at Never = IsShut code cs x at
IsChance code cs x n at Sure = (z : ℕ → ℕ) → Alike n x z → CanTake code cs z at
IsChance code cs x n at OpenChance = Unit {0}

-- a key that the first argument has, if one is known
abbrev pub HasKey : List Raw → (ℕ → ℕ) → Option Hashed → Type 0
HasKey cs x None = Unit {0}
HasKey cs x (Some own) = (k : ℕ → Tree) → Fits cs k → IsKeyOf own.key (k (x 1))

-- what a word says of a place's tree: nothing, or that it is an unbound variable, or which key it has
abbrev pub IsWordAt : List Raw → ℕ → Word → Type 0
IsWordAt cs p w = (w.kind ≡ 0) ⊎ (((w.kind ≡ 1) × (v : ℕ) × (tree_at (trees cs) p ≡ var v)) ⊎ ((key : Key) × (w ≡ word_of key) × ((k : ℕ → Tree) → Fits cs k → IsKeyOf key (k p))))

-- of an argument of a call with so many
abbrev pub IsArgument : List Raw → (ℕ → ℕ) → ℕ → ℕ → Word → Type 0
IsArgument cs x n argument w = (z : ℕ → ℕ) → Alike n x z → IsWordAt cs (z argument) w

-- what is known of the first argument
abbrev pub IsFirst : List Raw → (ℕ → ℕ) → ℕ → FirstArgument → Type 0
IsFirst cs x n f = IsArgument cs x n 1 f.word × HasKey cs x f.key

-- and of another one
abbrev pub IsKnown : List Raw → (ℕ → ℕ) → ℕ → Known → Type 0
IsKnown cs x n known = IsFirst cs x n known.first × IsArgument cs x n known.argument known.second

-- how a tree of which a word tells stands to a key that is asked, if one is
abbrev pub IsWordFit : Word → Word → Fit → Type 0
IsWordFit own asked fit = (o : Option Key) → asked ≡ word_or_nothing o → (cs : List Raw) (p : ℕ) → IsWordAt cs p own → Under cs (λ k. HasAsked o (k p)) fit

-- how that one stands to what is asked of another one than the first
abbrev pub IsOtherFit : Known → Short → Fit → Type 0
IsOtherFit known asked fit = (q : Option Key) → asked.second ≡ word_or_nothing q → (cs : List Raw) (x : ℕ → ℕ) (n : ℕ) → IsArgument cs x n known.argument known.second
    → (z : ℕ → ℕ) → Alike n x z → Under cs (λ k. HasAsked q (k (z asked.argument))) fit

-- how two arguments stand to what is asked of them
abbrev pub AreWordsFit : Known → Short → Fit → Type 0
AreWordsFit known asked fit = (o q : Option Key) → asked.first ≡ word_or_nothing o → asked.second ≡ word_or_nothing q → (cs : List Raw) (x : ℕ → ℕ) (n : ℕ) → IsKnown cs x n known
    → (z : ℕ → ℕ) → Alike n x z → Under cs (λ k. HasAsked o (k (z 1)) × HasAsked q (k (z asked.argument))) fit

-- the clauses that are left from a possible one on
abbrev pub possible_places : Compiled → Option Possible → List ℕ
possible_places code None = []
possible_places code (Some p) = p.alternative.place ∷ places_from code p.alternative.behind

-- a clause that is said to be sure can be entered
abbrev pub IsSure : Compiled → List Raw → (ℕ → ℕ) → ℕ → Possible → Type 0
IsSure code cs x n p = p.sure ≡ true → (z : ℕ → ℕ) → Alike n x z → CanTake code cs z p.alternative.place

-- those that are left from a possible one on, where that is told with the choice behind it
abbrev pub left_places : Compiled → Option Left → List ℕ
left_places code None = []
left_places code (Some l) = l.possible.alternative.place ∷ places_from code l.possible.alternative.behind

-- behind a possible clause those before a choice can't be entered
abbrev pub IsLeft : Compiled → List Raw → (ℕ → ℕ) → Left → Type 0
IsLeft code cs x l = PassesOver code cs x (places_from code l.possible.alternative.behind) (places_from code l.rest)

-- of some clauses' places one is left, and those behind it can't be entered
pub record IsOnly (code : Compiled) (cs : List Raw) (x : ℕ → ℕ) (ls : List ℕ) (one : ℕ) : Type 0 where
  pub behind : List ℕ
  pub first : PassesOver code cs x ls (one ∷ behind)
  pub next : PassesOver code cs x behind []

-- of a predicate's clauses those from a choice on are left, where that isn't the predicate's first one
abbrev pub AreLeftFrom : Compiled → List Raw → (ℕ → ℕ) → Predicate → ℕ → Type 0
AreLeftFrom code cs x q at = (at ≡ q.start) ⊎ PassesOver code cs x (clause_places code q) (named_from code (Some at))

-- what is told of some clauses' places by two keys
abbrev pub IsPairTold : Compiled → List Raw → (ℕ → ℕ) → List ℕ → Pair → Type 0
IsPairTold code cs x ls NonePair = PassesOver code cs x ls []
IsPairTold code cs x ls (OnlyPair one) = IsOnly code cs x ls one
IsPairTold code cs x ls OpenPair = Unit {0}

-- what is told at once of a predicate's clauses
abbrev pub IsTold : Compiled → List Raw → (ℕ → ℕ) → Predicate → Told → Type 0
IsTold code cs x q NoneTold = PassesOver code cs x (clause_places code q) []
IsTold code cs x q (OnlyTold one) = IsOnly code cs x (clause_places code q) one
IsTold code cs x q (From at) = AreLeftFrom code cs x q at

-- of some clauses' places the first one that is left, and the next one behind it
pub record AreNext (code : Compiled) (cs : List Raw) (x : ℕ → ℕ) (n : ℕ) (ls : List ℕ) (a : Alternative) (p : Possible) : Type 0 where
  pub first : PassesOver code cs x ls (a.place ∷ places_from code a.behind)
  pub next : PassesOver code cs x (places_from code a.behind) (p.alternative.place ∷ places_from code p.alternative.behind)
  pub sure : IsSure code cs x n p

-- the clauses that a call with so many arguments may enter
abbrev pub IsChosen : Compiled → List Raw → (ℕ → ℕ) → ℕ → List ℕ → Chosen → Type 0
IsChosen code cs x n ls (Only one) = IsOnly code cs x ls one
IsChosen code cs x n ls (First a p) = AreNext code cs x n ls a p
