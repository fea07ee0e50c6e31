-- How deep a term is.
use Rattle.std.specs.Prelude.{ℕ, ◌+◌, min, max, if◌then◌else◌, List, [], ◌∷◌, codes, bytes_eq}
use Rattle.ap_reader.specs.declared.depth.TheConstants.{MAX_DEPTH}
use Rattle.ap_reader.specs.declared.depth.Height.{Height}
use Rattle.ap_reader.specs.declared.depth.Height.TheVariants as height
use Rattle.ap_reader.specs.Written.{Written, Variable, Integer, Atom, Node, Paren, Writtens, Nil, Cons}
use Rattle.ap_reader.specs.Evaluated.{Value, ATerm, Gathered}

-- 0 for a variable or a constant; for a list's cell the greater of 1 + the depth of the element and the depth of the
-- tail; else 1 + the greatest depth of an argument
abbrev mutual
  pub depth : Written → ℕ
  depth (Variable n) = 0
  depth (Integer z) = 0
  depth (Atom name) = 0
  depth (Node name (Cons x (Cons y Nil))) = if bytes_eq name (codes ".") then max (1 + depth x) (depth y) else max (1 + depth x) (1 + depth y)
  depth (Node name xs) = deepest xs
  depth (Paren x) = depth x

  -- the greatest of 1 + the depth of each
  pub deepest : Writtens → ℕ
  deepest Nil = 0
  deepest (Cons x xs) = max (1 + depth x) (deepest xs)

-- ---- what the code keeps: a depth, or MAX_DEPTH + 1 where it is more

abbrev pub capped : ℕ → ℕ
capped n = min n (MAX_DEPTH + 1)

abbrev pub highest : List Written → ℕ
highest [] = 0
highest (x ∷ xs) = max (1 + depth x) (highest xs)

abbrev pub height_of : Value → Height
height_of (ATerm x) = height.Term (capped (depth x))
height_of (Gathered []) = height.NoItem
height_of (Gathered (x ∷ [])) = height.OneItem (capped (1 + depth x))
height_of (Gathered (x ∷ y ∷ ys)) = height.Items (capped (highest (x ∷ y ∷ ys)))

abbrev pub term_depth : Height → ℕ
term_depth (height.Term d) = d
term_depth _ = 0

abbrev pub items_height : Height → Height
items_height (height.Term d) = height.NoItem
items_height top = top

abbrev pub most_of : Height → ℕ
most_of (height.OneItem n) = n
most_of (height.Items n) = n
most_of _ = 0
