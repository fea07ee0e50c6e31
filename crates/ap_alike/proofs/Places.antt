-- Goals that are put in the places of other ones.
use Rattle.std.proofs.Common.{◌≡◌, ℕ, zero, suc, ◌+◌, ◌<◌, ◌≤◌, List, [], ◌∷◌, ◌++◌, length, take, drop, get_or, map, refl, ap, sym, ◌∙◌, subst, append_assoc, append-nil, add-one, arith}
use Rattle.std.specs.List.{flat_map}
use Rattle.std.proofs.lemmas.Grind.{flat_map-append}
use Rattle.std.proofs.Math.ListN.{drop_of_length-le}
use Rattle.ap_term.specs.declared.terms.Term.{Term}
use Rattle.ap_term.specs.declared.clauses.Part as code
use Rattle.ap_term.specs.Tree.{Tree, Trees, none, more, push_tree}
use Rattle.ap_term.specs.TermView.{tree_of, trees_of}
use Rattle.ap_term.specs.GoalView.{part_of}
use Rattle.ap_term.specs.Goals.{Part, call, calls}
use Rattle.ap_cge.specs.Stripped.{stripped_part}
use Rattle.ap_alike.specs.Alike.{AreAlikeBodies}
use Rattle.ap_alike.specs.Fitted.{IsFitted}

pub calls-push : (gs : Trees) (g : Tree) → calls (push_tree gs g) ≡ calls gs ++ call g ∷ []
calls-push none g = refl
calls-push (more h hs) g = ap (λ xs. call h ∷ xs) (calls-push hs g)

parts_suc : (ps : List code.Part) (i : ℕ) (p : code.Part) → i < length ps → p ≡ get_or ps i p → map part_of (drop i ps) ≡ part_of p ∷ map part_of (drop (suc i) ps)
parts_suc [] i p l e = absurd (omega arith)
parts_suc (q ∷ ps) zero p l e = ap (λ x. part_of x ∷ map part_of ps) (sym e)
parts_suc (q ∷ ps) (suc i) p l e = parts_suc ps i p (omega arith) e

pub parts-more : (ps : List code.Part) (i : ℕ) (p : code.Part) → i < length ps → p ≡ get_or ps i p → map part_of (drop i ps) ≡ part_of p ∷ map part_of (drop (i + 1) ps)
parts-more ps i p l e = parts_suc ps i p l e ∙ ap (λ k. part_of p ∷ map part_of (drop k ps)) (sym (add-one i))

-- goals so far, and the parts that are left
pub goals-turn : (gs : Trees) (g : Tree) (ps : List code.Part) (i : ℕ) (p : code.Part) → i < length ps → p ≡ get_or ps i p → part_of p ≡ call g
    → calls (push_tree gs g) ++ map part_of (drop (i + 1) ps) ≡ calls gs ++ map part_of (drop i ps)
goals-turn gs g ps i p l e is =
    ap (λ xs. xs ++ map part_of (drop (i + 1) ps)) (calls-push gs g)
    ∙ append_assoc (calls gs) (call g ∷ []) (map part_of (drop (i + 1) ps))
    ∙ ap (λ x. calls gs ++ x ∷ map part_of (drop (i + 1) ps)) (sym is)
    ∙ ap (λ xs. calls gs ++ xs) (sym (parts-more ps i p l e))

pub parts-done : (ps : List code.Part) (n : ℕ) → length ps ≤ n → map part_of (drop n ps) ≡ []
parts-done ps n l = ap (map part_of) (drop_of_length-le ps l)

-- goals up to a place, and those from there on
pub goals-cut : (ts : List Term) (n : ℕ) → calls (trees_of (take n ts)) ++ calls (trees_of (drop n ts)) ≡ calls (trees_of ts)
goals-cut ts zero = refl
goals-cut [] (suc n) = refl
goals-cut (t ∷ ts) (suc n) = ap (λ xs. call (tree_of t) ∷ xs) (goals-cut ts n)

-- ---- a body that is made part by part

-- whatever is alike to the parts that are left is so behind the body so far to all of them
abbrev pub FitsSo : List code.Part → ℕ → List Part → Type 0
FitsSo ps i body = (rest : List Part) → AreAlikeBodies (map part_of (drop i ps)) rest → AreAlikeBodies (map part_of ps) (body ++ rest)

pub body-turn : (ps : List code.Part) (i : ℕ) (p : code.Part) (goals : List Term) (n : ℕ) (body new : List Part) → i < length ps → p ≡ get_or ps i p
    → IsFitted (part_of p) goals n body new → FitsSo ps i body → FitsSo ps (i + 1) new
body-turn ps i p goals n body new l e f h rest w =
    let whole : AreAlikeBodies (map part_of ps) (body ++ f.part ∷ rest) =
    h (f.part ∷ rest) (subst (λ xs. AreAlikeBodies xs (f.part ∷ rest)) (sym (parts-more ps i p l e)) (f.alike, w)) in
    subst (λ xs. AreAlikeBodies (map part_of ps) xs) (sym (ap (λ xs. xs ++ rest) f.out ∙ append_assoc body (f.part ∷ []) rest)) whole

pub body-done : (ps : List code.Part) (n : ℕ) (body : List Part) → length ps ≤ n → FitsSo ps n body → AreAlikeBodies (map part_of ps) body
body-done ps n body l h =
    subst (λ xs. AreAlikeBodies (map part_of ps) xs) (append-nil body) (h [] (subst (λ xs. AreAlikeBodies xs []) (sym (parts-done ps n l)) tt))

pub same-turn : (p : Part) (goals : List Term) (at n : ℕ) (body new : List Part) → IsFitted p (drop at goals) n body new
    → flat_map stripped_part body ++ calls (trees_of (drop at goals)) ≡ calls (trees_of goals)
    → flat_map stripped_part new ++ calls (trees_of (drop n (drop at goals))) ≡ calls (trees_of goals)
same-turn p goals at n body new f h =
    ap (λ xs. flat_map stripped_part xs ++ calls (trees_of (drop n (drop at goals)))) f.out
    ∙ ap (λ xs. xs ++ calls (trees_of (drop n (drop at goals)))) (flat_map-append stripped_part body (f.part ∷ []) ∙ ap (λ xs. flat_map stripped_part body ++ xs) (append-nil (stripped_part f.part)))
    ∙ append_assoc (flat_map stripped_part body) (stripped_part f.part) (calls (trees_of (drop n (drop at goals))))
    ∙ ap (λ xs. flat_map stripped_part body ++ xs) f.same
    ∙ h
