-- The term that a list of tokens spells.
use Rattle.std.specs.Prelude.{ℕ, ◌+◌, ◌==◌, if◌then◌else◌, List, [], ◌∷◌, ◌++◌, length, drop, slice_get, Option, Some, None, codes, bytes_eq, pos, neg_ℤ, ℤ, string_bytes}
use Rattle.std.specs.Str.{IsUtf8}
use Rattle.ap_lexer.specs.declared.kind.TokenKind.{TokenKind}
use Rattle.ap_lexer.specs.declared.kind.TokenKind.TheVariants as token
use Rattle.ap_lexer.specs.Lexeme.{Text}
use Rattle.ap_lexer.specs.Token.{Placed}
use Rattle.ap_reader.specs.declared.leaf.Quote.{Quote}
use Rattle.ap_reader.specs.declared.leaf.Quote.TheVariants as quote
use Rattle.ap_reader.specs.declared.leaf.Leaf.{Leaf}
use Rattle.ap_reader.specs.declared.leaf.Leaf.TheVariants as leaf
use Rattle.ap_reader.specs.Grammar.{Tree, Single, Positive, Negative, Prefix, Infix, Group, Compound, Empty, Listed, Tailed, Items, Begin, Then}
use Rattle.ap_reader.specs.Step.{place}

-- a term, with the parentheses that were written; variables are numbered from 1 by first occurrence
mutual
  pub data Written : Type 0 where
    Variable : ℕ → Written
    Integer : ℤ → Written
    Atom : Text → Written
    Node : Text → Writtens → Written
    Paren : Written → Written

  pub data Writtens : Type 0 where
    Nil : Writtens
    Cons : Written → Writtens → Writtens

-- The characters of a quoted token, from behind its first quote: inside, `''` and `\'` are a quote, `\\` a backslash,
-- `\n` a line feed, `\t` a tab.
abbrev pub unescaped : ℕ → ℕ
unescaped b = if b == 110 then 10 else (if b == 116 then 9 else b)

abbrev pub unquoted : Quote → Text → Text
unquoted quote.Plain [] = []
unquoted quote.Quote [] = []
unquoted quote.Escape [] = []
unquoted quote.Plain (b ∷ text) = if b == 39 then unquoted quote.Quote text else (if b == 92 then unquoted quote.Escape text else b ∷ unquoted quote.Plain text)
unquoted quote.Quote (b ∷ text) = if b == 39 then 39 ∷ unquoted quote.Plain text else []
unquoted quote.Escape (b ∷ text) = unescaped b ∷ unquoted quote.Plain text

-- the characters of a token that is a name or a variable are text; a lexer gives no others
abbrev pub IsTextBy : TokenKind → Text → Type 0
IsTextBy token.Name text = IsUtf8 text
IsTextBy token.Symbol text = IsUtf8 text
IsTextBy token.Variable text = IsUtf8 text
IsTextBy token.Cut text = IsUtf8 text
IsTextBy token.Semicolon text = IsUtf8 text
IsTextBy token.Comma text = IsUtf8 text
IsTextBy token.Quoted text = IsUtf8 (unquoted quote.Plain (drop 1 text))
IsTextBy _ text = Unit {0}

abbrev pub AreText : List Placed → Type 0
AreText [] = Unit {0}
AreText (t ∷ ts) = IsTextBy t.kind t.text × AreText ts

-- The place of a variable among those before it, from 1; `_` is new each time.
abbrev pub place_in : ℕ → List Text → Text → Option ℕ
place_in at [] name = None
place_in at (x ∷ xs) name = if bytes_eq x name then Some at else place_in (at + 1) xs name

abbrev pub known : List Text → Text → Option ℕ
known seen name = if bytes_eq name (codes "_") then None else place_in 1 seen name

abbrev pub seen_after : List Text → Text → Option ℕ → List Text
seen_after seen name None = seen ++ name ∷ []
seen_after seen name (Some n) = seen

abbrev pub number_after : List Text → Option ℕ → ℕ
number_after seen None = length seen + 1
number_after seen (Some n) = n

abbrev pub seen_by : TokenKind → List Text → Text → List Text
seen_by token.Variable seen name = seen_after seen name (known seen name)
seen_by _ seen name = seen

-- what a token is as an operand or a functor; integers and punctuation are none
abbrev pub leaf_by : TokenKind → List Text → Text → Written
leaf_by token.Variable seen text = Variable (number_after seen (known seen text))
leaf_by token.Name seen text = Atom text
leaf_by token.Symbol seen text = Atom text
leaf_by token.Quoted seen text = Atom (unquoted quote.Plain (drop 1 text))
leaf_by token.Cut seen text = Atom text
leaf_by token.Semicolon seen text = Atom text
leaf_by token.Comma seen text = Atom text
leaf_by _ seen text = Atom []

abbrev pub leaves : List Text → List Placed → List Written
leaves seen [] = []
leaves seen (t ∷ ts) = leaf_by t.kind seen t.text ∷ leaves (seen_by t.kind seen t.text) ts

-- the names of the variables, by number
abbrev pub variables : List Text → List Placed → List Text
variables seen [] = seen
variables seen (t ∷ ts) = variables (seen_by t.kind seen t.text) ts

abbrev pub leaf_at : Option Written → Written
leaf_at None = Atom []
leaf_at (Some x) = x

abbrev pub name_of : Written → Text
name_of (Atom name) = name
name_of _ = []

abbrev pub name_at : List Written → ℕ → Text
name_at xs at = name_of (leaf_at (slice_get xs at))

abbrev pub cell : Written → Written → Written
cell x rest = Node (codes ".") (Cons x (Cons rest Nil))

abbrev mutual
  pub meaning : List Written → Tree → Written
  meaning xs (Single at) = leaf_at (slice_get xs at)
  meaning xs (Positive n) = Integer (pos n)
  meaning xs (Negative sign i n) = Integer (neg_ℤ (pos n))
  meaning xs (Prefix o t) = Node (name_at xs (place o)) (Cons (meaning xs t) Nil)
  meaning xs (Infix l o r) = Node (name_at xs (place o)) (Cons (meaning xs l) (Cons (meaning xs r) Nil))
  meaning xs (Group t) = Paren (meaning xs t)
  meaning xs (Compound at i items t) = Node (name_at xs at) (arguments xs items (Cons (meaning xs t) Nil))
  meaning xs Empty = Atom (codes "[]")
  meaning xs (Listed items t) = listed xs items (cell (meaning xs t) (Atom (codes "[]")))
  meaning xs (Tailed items t u) = listed xs items (cell (meaning xs t) (meaning xs u))

  pub arguments : List Written → Items → Writtens → Writtens
  arguments xs Begin rest = rest
  arguments xs (Then items t at) rest = arguments xs items (Cons (meaning xs t) rest)

  pub listed : List Written → Items → Written → Written
  listed xs Begin rest = rest
  listed xs (Then items t at) rest = listed xs items (cell (meaning xs t) rest)

-- a leaf of the code
abbrev pub leaf_of : Leaf → Written
leaf_of (leaf.Variable n) = Variable n
leaf_of (leaf.Name s) = Atom s.now
leaf_of (leaf.Unquoted s) = Atom (string_bytes s)
leaf_of leaf.Mark = Atom []
