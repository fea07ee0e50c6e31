-- A term has no more levels than steps, and no more brackets are open than there are tokens.
use Rattle.std.proofs.Common.{◌≡◌, ℕ, ◌+◌, ◌≤◌, max, Bool, true, false, cond, List, [], ◌∷◌, ◌++◌, map, length, codes, arith, length-append}
use Rattle.std.specs.Prelude.{bytes_eq}
use Rattle.ap_lexer.specs.Lexeme.{Text}
use Rattle.ap_lexer.specs.Token.{Placed}
use Rattle.ap_lexer.specs.declared.kind.TokenKind.{TokenKind}
use Rattle.ap_lexer.specs.declared.kind.TokenKind.TheVariants as token
use Rattle.ap_reader.specs.declared.leaf.Leaf.{Leaf}
use Rattle.ap_reader.specs.declared.pass.Step.{Step}
use Rattle.ap_reader.specs.declared.pass.Step.TheVariants as p
use Rattle.ap_reader.specs.Bracket.{open_after, most_open}
use Rattle.ap_reader.specs.Grammar.{Tree, Single, Positive, Negative, Prefix, Infix, Group, Compound, Empty, Listed, Tailed, Items, Begin, Then}
use Rattle.ap_reader.specs.Step.{place, postfix, posts}
use Rattle.ap_reader.specs.Written.{Written, Writtens, Atom, Node, Nil, Cons, cell, leaf_of, name_at, meaning, arguments, listed}
use Rattle.ap_reader.specs.Depth.{depth, deepest}
use Rattle.ap_reader.proofs.Depths.{depth-leaf}

either_le : (b : Bool) (m n : ℕ) → cond b (max (1 + m) n) (max (1 + m) (1 + n)) ≤ max (1 + m) (1 + n)
either_le true m n = omega arith
either_le false m n = omega arith

node_le : (name : Text) (xs : Writtens) → depth (Node name xs) ≤ deepest xs
node_le name Nil = omega arith
node_le name (Cons x Nil) = omega arith
node_le name (Cons x (Cons y Nil)) = omega (arith, either_le (bytes_eq name (codes ".")) (depth x) (depth y))
node_le name (Cons x (Cons y (Cons z zs))) = omega arith

one_more : (A : Type 0) (xs ys : List A) (s : A) → length (xs ++ (ys ++ s ∷ [])) ≡ length xs + length ys + 1
one_more A xs ys s = omega (arith, length-append xs (ys ++ s ∷ []), length-append ys (s ∷ []))

mutual
  depth_le : (ls : List Leaf) (t : Tree) → depth (meaning (map leaf_of ls) t) ≤ length (postfix t)
  depth_le ls (Single at) = omega (arith, depth-leaf ls at)
  depth_le ls (Positive n) = omega arith
  depth_le ls (Negative sign i n) = omega arith
  depth_le ls (Prefix o t) = omega (arith, depth_le ls t, length-append (postfix t) (p.Prefix (place o) ∷ []))
  depth_le ls (Infix l o r) =
      omega (
        arith,
        depth_le ls l,
        depth_le ls r,
        one_more Step (postfix l) (postfix r) (p.Infix (place o)),
        node_le (name_at (map leaf_of ls) (place o)) (Cons (meaning (map leaf_of ls) l) (Cons (meaning (map leaf_of ls) r) Nil)),
      )
  depth_le ls (Group t) = omega (arith, depth_le ls t, length-append (postfix t) (p.Group ∷ []))
  depth_le ls (Compound at i items t) =
      let last = Cons (meaning (map leaf_of ls) t) Nil in
      omega (arith, depth_le ls t, arguments_le ls items last, one_more Step (posts items) (postfix t) (p.Compound at), node_le (name_at (map leaf_of ls) at) (arguments (map leaf_of ls) items last))
  depth_le ls Empty = omega arith
  depth_le ls (Listed items t) =
      omega (arith, depth_le ls t, listed_le ls items (cell (meaning (map leaf_of ls) t) (Atom (codes "[]"))), one_more Step (posts items) (postfix t) p.List)
  depth_le ls (Tailed items t u) =
      omega (
        arith,
        depth_le ls t,
        depth_le ls u,
        listed_le ls items (cell (meaning (map leaf_of ls) t) (meaning (map leaf_of ls) u)),
        length-append (posts items) (postfix t ++ (postfix u ++ p.Tailed ∷ [])),
        one_more Step (postfix t) (postfix u) p.Tailed,
      )

  arguments_le : (ls : List Leaf) (items : Items) (rest : Writtens) → deepest (arguments (map leaf_of ls) items rest) ≤ max (deepest rest) (length (posts items))
  arguments_le ls Begin rest = omega arith
  arguments_le ls (Then items t at) rest =
      omega (arith, depth_le ls t, arguments_le ls items (Cons (meaning (map leaf_of ls) t) rest), one_more Step (posts items) (postfix t) p.Item)

  listed_le : (ls : List Leaf) (items : Items) (rest : Written) → depth (listed (map leaf_of ls) items rest) ≤ max (depth rest) (length (posts items))
  listed_le ls Begin rest = omega arith
  listed_le ls (Then items t at) rest =
      omega (arith, depth_le ls t, listed_le ls items (cell (meaning (map leaf_of ls) t) rest), one_more Step (posts items) (postfix t) p.Item)

pub levels_few : (ls : List Leaf) (t : Tree) → depth (meaning (map leaf_of ls) t) ≤ length (postfix t)
levels_few = depth_le

pub open_le : (k : TokenKind) (n : ℕ) → open_after k n ≤ n + 1
open_le token.Open n = omega arith
open_le token.OpenList n = omega arith
open_le token.Close n = omega arith
open_le token.CloseList n = omega arith
open_le token.Name n = omega arith
open_le token.Variable n = omega arith
open_le token.Integer n = omega arith
open_le token.Symbol n = omega arith
open_le token.Quoted n = omega arith
open_le token.Cut n = omega arith
open_le token.Semicolon n = omega arith
open_le token.Comma n = omega arith
open_le token.Bar n = omega arith
open_le token.End n = omega arith

pub brackets_few : (n : ℕ) (ts : List Placed) → most_open n ts ≤ n + length ts
brackets_few n [] = omega arith
brackets_few n (t ∷ ts) = omega (arith, open_le t.kind n, brackets_few (open_after t.kind n) ts)

pub open_within : (n : ℕ) (ts : List Placed) → n ≤ most_open n ts
open_within n [] = omega arith
open_within n (t ∷ ts) = omega arith
