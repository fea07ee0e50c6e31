-- What is printed so that it can be read, and what it is read as.
use Rattle.std.specs.Prelude.{ℕ, Bool, true, false, not, ◌&&◌, ◌||◌, ◌++◌, List, codes, bytes_eq}
use Rattle.std.specs.Fmt.{decimal}
use Rattle.ap_lexer.specs.Lexeme.{Text}
use Rattle.ap_term.specs.Tree.{Tree, Trees, var, int, atom, node, none, more}
use Rattle.ap_term.specs.UpToNames.{place}
use Rattle.ap_writer.specs.Text.{name_at}
use Rattle.ap_reader.specs.Written.{Written, Variable, Integer, Atom, Node, Writtens, Nil, Cons}

-- a name that begins functional notation where `(` follows directly
abbrev pub is_functor : Text → Bool
is_functor name = not (bytes_eq name (codes "[]") || bytes_eq name (codes ";") || bytes_eq name (codes "!"))

abbrev mutual
  -- each compound has arguments, and a name that begins functional notation
  pub has_functors : List Text → Tree → Bool
  has_functors names (var x) = true
  has_functors names (int z) = true
  has_functors names (atom a) = true
  has_functors names (node a none) = false
  has_functors names (node a (more t ts)) = is_functor (name_at names a) && (has_functors names t && have_functors names ts)

  pub have_functors : List Text → Trees → Bool
  have_functors names none = true
  have_functors names (more t ts) = has_functors names t && have_functors names ts

-- the name that a variable is printed with
abbrev pub variable_name : ℕ → Text
variable_name x = codes "_" ++ decimal x

abbrev mutual
  -- a term as it is written, its variables as their places among those found
  pub written : List Text → List ℕ → Tree → Written
  written names found (var x) = Variable (place found x)
  written names found (int z) = Integer z
  written names found (atom a) = Atom (name_at names a)
  written names found (node a ts) = Node (name_at names a) (all_written names found ts)

  pub all_written : List Text → List ℕ → Trees → Writtens
  all_written names found none = Nil
  all_written names found (more t ts) = Cons (written names found t) (all_written names found ts)
