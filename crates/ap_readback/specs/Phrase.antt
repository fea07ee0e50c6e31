-- What a printed clause is made of: terms, parentheses and the operators of clauses.
use Rattle.std.specs.Prelude.{ℕ, ◌≡◌, ◌≤◌, Bool, true, false, List, ◌++◌, codes}
use Rattle.ap_lexer.specs.declared.kind.TokenKind.TheVariants as token
use Rattle.ap_lexer.specs.Lexeme.{Text}
use Rattle.ap_lexer.specs.Law.{Spelled}
use Rattle.ap_term.specs.Tree as term
use Rattle.ap_term.specs.Vars.{add_vars}
use Rattle.ap_term.specs.WellFormed.{callable}
use Rattle.ap_writer.specs.Text as text
use Rattle.ap_writer.specs.Writable.{IsWritable}
use Rattle.ap_reader.specs.Written.{Written, Node, Paren, Nil, Cons}
use Rattle.ap_cge.specs.Again.{one_token}
use Rattle.ap_cge.specs.Printed.{is_enclosed}
use Rattle.ap_cge.specs.TermTokens.{term_tokens}
use Rattle.ap_readback.specs.Printable.{has_functors, written}

-- `:-`, `,`, `&` and `=>`
pub data Sign : Type 0 where
  Neck : Sign
  Comma : Sign
  Par : Sign
  Cond : Sign

-- a term, a term in parentheses, a phrase in parentheses, and two phrases with a sign between
pub data Phrase : Type 0 where
  Simple : term.Tree → Phrase
  InParens : term.Tree → Phrase
  Enclosed : Phrase → Phrase
  Joined : Phrase → Sign → Phrase → Phrase

abbrev pub sign_name : Sign → Text
sign_name Neck = codes ":-"
sign_name Comma = codes ","
sign_name Par = codes "&"
sign_name Cond = codes "=>"

abbrev pub sign_text : Sign → Text
sign_text Neck = codes " :- "
sign_text Comma = codes ", "
sign_text Par = codes " & "
sign_text Cond = codes " => "

-- whether the sign touches what stands before it
abbrev pub sign_touches : Sign → Bool
sign_touches Neck = false
sign_touches Comma = true
sign_touches Par = false
sign_touches Cond = false

abbrev pub sign_tokens : Sign → List Spelled
sign_tokens Comma = one_token token.Comma (codes ",") false
sign_tokens Neck = one_token token.Symbol (codes ":-") false
sign_tokens Par = one_token token.Symbol (codes "&") false
sign_tokens Cond = one_token token.Symbol (codes "=>") false

-- the priority of a sign, and of what it leaves to both sides
abbrev pub sign_rank : Sign → ℕ
sign_rank Neck = 1200
sign_rank Comma = 1000
sign_rank Par = 950
sign_rank Cond = 975

abbrev pub left_room : Sign → ℕ
left_room Neck = 1199
left_room Comma = 999
left_room Par = 949
left_room Cond = 974

abbrev pub right_room : Sign → ℕ
right_room Neck = 1199
right_room Comma = 1000
right_room Par = 950
right_room Cond = 974

abbrev pub rank : Phrase → ℕ
rank (Simple t) = 0
rank (InParens t) = 0
rank (Enclosed p) = 0
rank (Joined p s q) = sign_rank s

module _ (names : List Text) where
  -- what can be printed and read, each part with a priority that its place has room for
  abbrev pub IsPhrase : Phrase → Type 0
  IsPhrase (Simple t) = IsWritable names t × (has_functors names t ≡ true) × (callable t ≡ true) × (is_enclosed names t ≡ false)
  IsPhrase (InParens t) = IsWritable names t × (has_functors names t ≡ true)
  IsPhrase (Enclosed p) = IsPhrase p
  IsPhrase (Joined p s q) = (rank p ≤ left_room s) × (rank q ≤ right_room s) × IsPhrase p × IsPhrase q

  abbrev pub phrase_text : Phrase → Text
  phrase_text (Simple t) = text.text names t
  phrase_text (InParens t) = codes "(" ++ (text.text names t ++ codes ")")
  phrase_text (Enclosed p) = codes "(" ++ (phrase_text p ++ codes ")")
  phrase_text (Joined p s q) = phrase_text p ++ (sign_text s ++ phrase_text q)

  abbrev pub phrase_tokens : Phrase → Bool → List Spelled
  phrase_tokens (Simple t) touches = term_tokens names t touches
  phrase_tokens (InParens t) touches = one_token token.Open (codes "(") true ++ (term_tokens names t true ++ one_token token.Close (codes ")") touches)
  phrase_tokens (Enclosed p) touches = one_token token.Open (codes "(") true ++ (phrase_tokens p true ++ one_token token.Close (codes ")") touches)
  phrase_tokens (Joined p s q) touches = phrase_tokens p (sign_touches s) ++ (sign_tokens s ++ phrase_tokens q touches)

  abbrev pub phrase_vars : Phrase → List ℕ → List ℕ
  phrase_vars (Simple t) found = add_vars t found
  phrase_vars (InParens t) found = add_vars t found
  phrase_vars (Enclosed p) found = phrase_vars p found
  phrase_vars (Joined p s q) found = phrase_vars q (phrase_vars p found)

  abbrev pub phrase_written : List ℕ → Phrase → Written
  phrase_written later (Simple t) = written names later t
  phrase_written later (InParens t) = Paren (written names later t)
  phrase_written later (Enclosed p) = Paren (phrase_written later p)
  phrase_written later (Joined p s q) = Node (sign_name s) (Cons (phrase_written later p) (Cons (phrase_written later q) Nil))
