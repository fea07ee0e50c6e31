-- The depth of compounds and lists by their items, and the stack of values.
use Rattle.std.proofs.Common.{◌≡◌, ℕ, ◌+◌, max, List, [], ◌∷◌, ◌++◌, false, cond, zero, suc, map, slice_get, codes, refl, ap, ◌∙◌, arith}
use Rattle.std.specs.Prelude.{bytes_eq}
use Rattle.ap_lexer.specs.Lexeme.{Text}
use Rattle.ap_reader.specs.declared.leaf.Leaf.{Leaf}
use Rattle.ap_reader.specs.declared.leaf.Leaf.TheVariants as leaf
use Rattle.ap_reader.specs.declared.depth.Height.{Height}
use Rattle.ap_reader.specs.declared.depth.Height.TheVariants as height
use Rattle.ap_reader.specs.Written.{Written, Node, Nil, Cons, cell, leaf_of, leaf_at}
use Rattle.ap_reader.specs.Evaluated.{Gathered, with_rest, cells}
use Rattle.ap_reader.specs.Depth.{depth, deepest, capped, highest, height_of, most_of}

pub highest-push : (ys : List Written) (x : Written) → highest (ys ++ x ∷ []) ≡ max (highest ys) (1 + depth x)
highest-push [] x = omega arith
highest-push (y ∷ ys) x = omega (arith, highest-push ys x)

deepest-is : (ys : List Written) (x : Written) → deepest (with_rest ys (Cons x Nil)) ≡ highest (ys ++ x ∷ [])
deepest-is [] x = refl
deepest-is (y ∷ ys) x = ap (max (1 + depth y)) (deepest-is ys x)

-- a compound that is no cell
pub depth-compound : (name : Text) (ys : List Written) (x : Written) → bytes_eq name (codes ".") ≡ false → depth (Node name (with_rest ys (Cons x Nil))) ≡ highest (ys ++ x ∷ [])
depth-compound name [] x e = refl
depth-compound name (y ∷ []) x e = ap (λ b. cond b (max (1 + depth y) (depth x)) (max (1 + depth y) (1 + depth x))) e ∙ omega arith
depth-compound name (y ∷ z ∷ []) x e = deepest-is (y ∷ z ∷ []) x
depth-compound name (y ∷ z ∷ u ∷ ys) x e = deepest-is (y ∷ z ∷ u ∷ ys) x

pub depth-cells : (ys : List Written) (x u : Written) → depth (cells ys (cell x u)) ≡ max (highest (ys ++ x ∷ [])) (depth u)
depth-cells [] x u = omega arith
depth-cells (y ∷ ys) x u = omega (arith, depth-cells ys x u)

pub depth-leaf : (ls : List Leaf) (at : ℕ) → depth (leaf_at (slice_get (map leaf_of ls) at)) ≡ 0
depth-leaf [] at = refl
depth-leaf (l ∷ ls) zero = of l
  where
    of : (l : Leaf) → depth (leaf_of l) ≡ 0
    of (leaf.Variable n) = refl
    of (leaf.Name s) = refl
    of (leaf.Unquoted s) = refl
    of leaf.Mark = refl
depth-leaf (l ∷ ls) (suc at) = depth-leaf ls at

most-is : (ys : List Written) → most_of (height_of (Gathered ys)) ≡ capped (highest ys)
most-is [] = omega arith
most-is (x ∷ []) = omega arith
most-is (x ∷ y ∷ ys) = refl

pub greatest-is : (items : Height) (ys : List Written) (x : Written) → items ≡ height_of (Gathered ys) → max (most_of items) (capped (1 + depth x)) ≡ capped (highest (ys ++ x ∷ []))
greatest-is items ys x e = omega (arith, ap most_of e, most-is ys, highest-push ys x)

pub list-is : (ys : List Written) (x u : Written) (n tail : ℕ) → n ≡ capped (highest (ys ++ x ∷ [])) → tail ≡ capped (depth u) → max n tail ≡ capped (depth (cells ys (cell x u)))
list-is ys x u n tail e h = omega (arith, depth-cells ys x u)

-- a compound with a cell's name
pub cell-is : (ys : List Written) (x : Written) (first last : ℕ) → height.OneItem first ≡ height_of (Gathered ys) → last ≡ capped (depth x) → max first last ≡ capped (depth (Node (codes ".") (with_rest ys (Cons x Nil))))
cell-is [] x first last e h = absurd (cc)
cell-is (y ∷ []) x first last e h =
    let one : first ≡ capped (1 + depth y) = ap most_of e in
    omega arith
cell-is (y ∷ z ∷ ys) x first last e h = absurd (cc)

pub no_cell-is : (items : Height) (ys : List Written) (x : Written) → items ≡ height_of (Gathered ys) → ((first : ℕ) → items ≡ height.OneItem first → ⊥) → depth (Node (codes ".") (with_rest ys (Cons x Nil))) ≡ highest (ys ++ x ∷ [])
no_cell-is items [] x e h = refl
no_cell-is items (y ∷ []) x e h = absurd (h (capped (1 + depth y)) e)
no_cell-is items (y ∷ z ∷ []) x e h = deepest-is (y ∷ z ∷ []) x
no_cell-is items (y ∷ z ∷ u ∷ ys) x e h = deepest-is (y ∷ z ∷ u ∷ ys) x
