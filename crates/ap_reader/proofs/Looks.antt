-- What is kept while a long term's steps are given.
use Rattle.std.proofs.Common.{◌≡◌, ◌-◌, List, [], ◌∷◌, ◌++◌, length, map, refl, ap, ◌∙◌, arith, length-append}
use Rattle.std.proofs.lemmas.List.{length-map}
use Rattle.ap_reader.specs.declared.leaf.Leaf.{Leaf}
use Rattle.ap_reader.specs.Written.{Written, leaf_of}
use Rattle.ap_reader.specs.Long.{look}

map_push : (ls : List Leaf) (l : Leaf) → map leaf_of (ls ++ l ∷ []) ≡ map leaf_of ls ++ leaf_of l ∷ []
map_push [] l = refl
map_push (k ∷ ls) l = ap (λ xs. leaf_of k ∷ xs) (map_push ls l)

pub look_push : (xs : List Written) (x : Written) → look (xs ++ x ∷ []) (length xs) ≡ x
look_push [] x = refl
look_push (y ∷ xs) x = look_push xs x

-- the leaf that was kept last
pub top_is : (ls new : List Leaf) (l : Leaf) → new ≡ ls ++ l ∷ [] → look (map leaf_of new) (length new - 1) ≡ leaf_of l
top_is ls new l e =
    let count : length new - 1 ≡ length (map leaf_of ls) = omega (arith, ap length e, length-append ls (l ∷ []), length-map ls leaf_of) in
    ap (λ k. look (map leaf_of new) k) count ∙ ap (λ xs. look xs (length (map leaf_of ls))) (ap (map leaf_of) e ∙ map_push ls l) ∙ look_push (map leaf_of ls) (leaf_of l)
