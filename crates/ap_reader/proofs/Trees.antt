-- Terms in rows, and as lists.
use Rattle.std.proofs.Common.{◌≡◌, ℕ, List, [], ◌∷◌, ◌++◌, map, codes, refl, sym, ap, ◌∙◌}
use Rattle.ap_lexer.specs.Lexeme.{Text}
use Rattle.ap_term.specs.declared.terms.Term.{Term}
use Rattle.ap_term.specs.Tree as term
use Rattle.ap_term.specs.Tree.{Trees, node, none, more}
use Rattle.ap_term.specs.TermView.{tree_of, trees_of}
use Rattle.ap_reader.specs.Written.{Written, Nil, Cons, cell}
use Rattle.ap_reader.specs.Evaluated.{with_rest, cells, with_rest-push, cells-push}
use Rattle.ap_reader.specs.Build.{place_of, term_in, terms_in, tree_cells}

pub map-push : {A B : Type 0} (f : A → B) (xs : List A) (x : A) → map f (xs ++ x ∷ []) ≡ map f xs ++ f x ∷ []
map-push f [] x = refl
map-push f (y ∷ xs) x = ap (λ r. f y ∷ r) (map-push f xs x)

pub tree_cells-push : (dot : ℕ) (ts : List term.Tree) (t rest : term.Tree) → tree_cells dot (ts ++ t ∷ []) rest ≡ tree_cells dot ts (node dot (more t (more rest none)))
tree_cells-push dot [] t rest = refl
tree_cells-push dot (u ∷ ts) t rest = ap (λ r. node dot (more u (more r none))) (tree_cells-push dot ts t rest)

-- the last item goes in front of the rest
pub tree_cells-pop : (dot : ℕ) (all left : List Term) (item rest : Term) → all ≡ left ++ item ∷ [] → tree_cells dot (map tree_of left) (node dot (more (tree_of item) (more (tree_of rest) none))) ≡ tree_cells dot (map tree_of all) (tree_of rest)
tree_cells-pop dot all left item rest e =
    sym (ap (λ ts. tree_cells dot (map tree_of ts) (tree_of rest)) e ∙ ap (λ ts. tree_cells dot ts (tree_of rest)) (map-push tree_of left item) ∙ tree_cells-push dot (map tree_of left) (tree_of item) (tree_of rest))

cells-in : (ns : List Text) (ys : List Written) (u : Written) → tree_cells (place_of ns (codes ".")) (map (term_in ns) ys) (term_in ns u) ≡ term_in ns (cells ys u)
cells-in ns [] u = refl
cells-in ns (y ∷ ys) u = ap (λ r. node (place_of ns (codes ".")) (more (term_in ns y) (more r none))) (cells-in ns ys u)

pub list-in : (ns : List Text) (ys : List Written) (x u : Written) (dot : ℕ) (ts : List term.Tree) (tail t : term.Tree) → dot ≡ place_of ns (codes ".") → ts ≡ map (term_in ns) (ys ++ x ∷ []) → tail ≡ term_in ns u → t ≡ tree_cells dot ts tail → t ≡ term_in ns (cells ys (cell x u))
list-in ns ys x u dot ts tail t d e h k =
    k ∙ ap (λ n. tree_cells n ts tail) d ∙ ap (λ l. tree_cells (place_of ns (codes ".")) l tail) e ∙ ap (tree_cells (place_of ns (codes ".")) (map (term_in ns) (ys ++ x ∷ []))) h ∙ cells-in ns (ys ++ x ∷ []) u ∙ ap (term_in ns) (cells-push [] ys x u)

pub row-in : (ns : List Text) (ts : List Term) (ys : List Written) → map tree_of ts ≡ map (term_in ns) ys → trees_of ts ≡ terms_in ns (with_rest ys Nil)
row-in ns [] [] e = refl
row-in ns [] (y ∷ ys) e = absurd (cc)
row-in ns (t ∷ ts) [] e = absurd (cc)
row-in ns (t ∷ ts) (y ∷ ys) e =
    let first : tree_of t ≡ term_in ns y = cc in
    let others : map tree_of ts ≡ map (term_in ns) ys = cc in
    let rest = row-in ns ts ys others in
    cc

pub arguments-in : (ns : List Text) (ts : Trees) (ys : List Written) (x : Written) → ts ≡ terms_in ns (with_rest (ys ++ x ∷ []) Nil) → ts ≡ terms_in ns (with_rest ys (Cons x Nil))
arguments-in ns ts ys x e = e ∙ ap (terms_in ns) (with_rest-push [] ys x Nil)
