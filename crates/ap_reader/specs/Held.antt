-- The code's stack of terms, and the values that it stands for.
use Rattle.std.specs.Prelude.{◌≡◌, ℕ, List, [], ◌∷◌, ◌++◌, map, length}
use Rattle.ap_lexer.specs.Lexeme.{Text}
use Rattle.ap_term.specs.Tree as term
use Rattle.ap_term.specs.TermView.{tree_of}
use Rattle.ap_reader.specs.declared.pass.Step.{Step}
use Rattle.ap_reader.specs.declared.pass.Step.TheVariants as step
use Rattle.ap_reader.specs.declared.terms.Stack.{Stack}
use Rattle.ap_reader.specs.Written.{Written}
use Rattle.ap_reader.specs.Evaluated.{Value, ATerm, Gathered, below, made, left}
use Rattle.ap_reader.specs.Build.{term_in}

-- the terms of values in a row, the one on top last
abbrev pub row : List Text → List Value → List term.Tree
row ns [] = []
row ns (ATerm x ∷ vs) = row ns vs ++ term_in ns x ∷ []
row ns (Gathered ys ∷ vs) = row ns vs ++ map (term_in ns) ys

-- how many terms stand below the items of each that is open
abbrev pub begins : List Text → List Value → List ℕ
begins ns [] = []
begins ns (ATerm x ∷ vs) = begins ns vs
begins ns (Gathered ys ∷ vs) = begins ns vs ++ length (row ns vs) ∷ []

pub record Held (ns : List Text) (vs : List Value) (s : Stack) : Type 0 where
  pub terms_are : map tree_of s.terms.items ≡ row ns vs
  pub begun_are : s.begun.items ≡ begins ns vs

-- a term on top, or items
abbrev pub OnTop : List Value → Type 0
OnTop (ATerm x ∷ vs) = Unit {0}
OnTop _ = ⊥

abbrev pub ItemsOnTop : List Value → Type 0
ItemsOnTop (Gathered ys ∷ vs) = Unit {0}
ItemsOnTop _ = ⊥

-- a step finds on top what it takes
abbrev pub Fits : Step → List Value → Type 0
Fits (step.Operand at) vs = Unit {0}
Fits (step.Integer z) vs = Unit {0}
Fits (step.Prefix at) vs = OnTop vs
Fits (step.Infix at) vs = OnTop vs × OnTop (below vs)
Fits step.Group vs = OnTop vs
Fits step.Begin vs = Unit {0}
Fits step.Item vs = OnTop vs × ItemsOnTop (below vs)
Fits (step.Compound at) vs = OnTop vs × ItemsOnTop (below vs)
Fits step.Empty vs = ItemsOnTop vs
Fits step.List vs = OnTop vs × ItemsOnTop (below vs)
Fits step.Tailed vs = OnTop vs × OnTop (below vs) × ItemsOnTop (below (below vs))

module _ (xs : List Written) where
  -- each of the steps does, one after another
  abbrev pub AllFit : List Value → List Step → Type 0
  AllFit vs [] = Unit {0}
  AllFit vs (s ∷ steps) = Fits s vs × AllFit (made xs s vs ∷ left xs s vs) steps
