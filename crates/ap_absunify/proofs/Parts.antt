-- Equations are told one after another, as the terms come apart.
use Rattle.std.proofs.Common.{◌≡◌, ◌≢◌, ◌<◌, ◌+◌, ◌==◌, ℕ, suc, true, IsTrue, drop, get_or, List, [], ◌∷◌, ◌++◌, length, append_assoc, append-nil, if◌then◌else◌, Option, Some, None, refl, ap, ap₂, sym, ◌∙◌}
use Rattle.std.proofs.lemmas.Bool.{and_parts}
use Rattle.ap_term.specs.declared.terms.Term.{Term}
use Rattle.ap_term.specs.declared.terms.Term.TheVariants.{Node}
use Rattle.ap_term.specs.Tree.{Tree, Trees, node, none, more, push_tree}
use Rattle.ap_term.specs.TermView.{tree_of, trees_of}
use Rattle.ap_term.proofs.TermLists.{size_all-push, item_smaller, trees_of-drop_more}
use Rattle.ap_term.specs.WellFormed.{numbered, numbered_all}
use Rattle.ap_term.specs.Unification.{both, Equations}
use Rattle.ap_term.proofs.Walks.{numbered_all-push}
use Rattle.ap_absunify.specs.declared.states.State.{State}
use Rattle.ap_absunify.specs.declared.states.State.TheVariants.{Unreachable}
use Rattle.ap_absunify.specs.AfterUnify.{after_unify}
use Rattle.ap_absunify.specs.AfterEqual.{after_all, parts, parts_all, after_parts}

after_all-unreachable : (es : Equations) → after_all Unreachable es ≡ Unreachable
after_all-unreachable [] = refl
after_all-unreachable (e ∷ es) = after_all-unreachable es

pub after_parts-unreachable : (o : Option Equations) → after_parts Unreachable o ≡ Unreachable
after_parts-unreachable None = refl
after_parts-unreachable (Some es) = after_all-unreachable es

after_all-append : (es : Equations) (s : State) (ds : Equations) → after_all s (es ++ ds) ≡ after_all (after_all s es) ds
after_all-append [] s ds = refl
after_all-append (e ∷ es) s ds = after_all-append es (after_unify s e.0 e.1) ds

pub after_join : (s : State) (a b : Option Equations) → after_parts s (both a b) ≡ after_parts (after_parts s a) b
after_join s None b = sym (after_parts-unreachable b)
after_join s (Some es) None = refl
after_join s (Some es) (Some ds) = after_all-append es s ds

join_none : (a : Option Equations) → both a None ≡ None
join_none None = refl
join_none (Some es) = refl

join_nothing : (a : Option Equations) → both a (Some []) ≡ a
join_nothing None = refl
join_nothing (Some es) = ap Some (append-nil es)

nothing_join : (a : Option Equations) → both (Some []) a ≡ a
nothing_join None = refl
nothing_join (Some es) = refl

join_assoc : (a b c : Option Equations) → both (both a b) c ≡ both a (both b c)
join_assoc None b c = refl
join_assoc (Some x) None c = refl
join_assoc (Some x) (Some y) None = refl
join_assoc (Some x) (Some y) (Some z) = ap Some (append_assoc x y z)

pub parts_all-lengths : (ts us : List Term) → length ts ≢ length us → parts_all (trees_of ts) (trees_of us) ≡ None
parts_all-lengths [] [] h = absurd (h refl)
parts_all-lengths [] (u ∷ us) h = refl
parts_all-lengths (t ∷ ts) [] h = refl
parts_all-lengths (t ∷ ts) (u ∷ us) h =
    ap (both (parts (tree_of t) (tree_of u))) (parts_all-lengths ts us (λ e. h (ap suc e))) ∙ join_none (parts (tree_of t) (tree_of u))

pub push_none : (ts : Trees) (t : Tree) → parts_all (push_tree ts t) none ≡ None
push_none none t = refl
push_none (more u ts) t = refl

pub none_push : (ts : Trees) (t : Tree) → parts_all none (push_tree ts t) ≡ None
none_push none t = refl
none_push (more u ts) t = refl

-- the last arguments come last
pub parts_all-push : (ts us : Trees) (t u : Tree) → parts_all (push_tree ts t) (push_tree us u) ≡ both (parts_all ts us) (parts t u)
parts_all-push none none t u = join_nothing (parts t u) ∙ sym (nothing_join (parts t u))
parts_all-push none (more v us) t u = ap (both (parts t v)) (none_push us u) ∙ join_none (parts t v)
parts_all-push (more w ts) none t u = ap (both (parts w u)) (push_none ts t) ∙ join_none (parts w u)
parts_all-push (more w ts) (more v us) t u =
    ap (both (parts w v)) (parts_all-push ts us t u) ∙ sym (join_assoc (parts w v) (parts_all ts us) (parts t u))

pub ruleset rules_of_parts = (parts_all-push, parts_all-lengths, after_join, after_parts-unreachable, push_none, none_push, size_all-push, item_smaller)

-- two compounds of one name come apart into their arguments, the last ones last
pub parts-last : (s next all : State) (a b : ℕ) (ts us front back : Trees) (t u : Tree) → (a == b) ≡ true → ts ≡ push_tree front t → us ≡ push_tree back u
    → next ≡ after_parts s (parts_all front back) → after_parts s (parts (node a ts) (node b us)) ≡ all → after_parts next (parts t u) ≡ all
parts-last s next all a b ts us front back t u same left right step h =
    ap (λ r. after_parts r (parts t u)) step ∙ sym (after_join s (parts_all front back) (parts t u))
    ∙ ap (after_parts s) (sym (parts_all-push front back t u) ∙ ap₂ parts_all (sym left) (sym right) ∙ ap (λ c. if c then parts_all ts us else None) (sym same)) ∙ h

-- ---- the terms' variables are numbered

pub numbered-front : (n : ℕ) (ts front : Trees) (t : Tree) → ts ≡ push_tree front t → IsTrue (numbered_all n ts) → IsTrue (numbered_all n front) × IsTrue (numbered n t)
numbered-front n ts front t e h =
    and_parts (numbered_all n front) (numbered n t) (sym (numbered_all-push n front t) ∙ ap (numbered_all n) (sym e) ∙ h)

pub numbered-item : (n : ℕ) (ts : List Term) (i : ℕ) (t : Term) → i < length ts → t ≡ get_or ts i t → IsTrue (numbered_all n (trees_of (drop i ts)))
    → IsTrue (numbered n (tree_of t)) × IsTrue (numbered_all n (trees_of (drop (i + 1) ts)))
numbered-item n ts i t h e k =
    and_parts (numbered n (tree_of t)) (numbered_all n (trees_of (drop (i + 1) ts))) (sym (ap (numbered_all n) (trees_of-drop_more ts i t h e)) ∙ k)

pub numbered-node : (n : ℕ) (t : Term) (a : ℕ) (ts : Trees) → t ≡ Node a ts → IsTrue (numbered n (tree_of t)) → IsTrue (numbered_all n ts)
numbered-node n t a ts e h = sym (ap (λ u. numbered n (tree_of u)) e) ∙ h

-- one term of each list
pub parts_all-turn : (s next all : State) (ts us : List Term) (i : ℕ) (t u : Term) → i < length ts → i < length us → t ≡ get_or ts i t → u ≡ get_or us i u
    → next ≡ after_parts s (parts (tree_of t) (tree_of u)) → after_parts s (parts_all (trees_of (drop i ts)) (trees_of (drop i us))) ≡ all
    → after_parts next (parts_all (trees_of (drop (i + 1) ts)) (trees_of (drop (i + 1) us))) ≡ all
parts_all-turn s next all ts us i t u h k e f step w =
    ap (λ r. after_parts r (parts_all (trees_of (drop (i + 1) ts)) (trees_of (drop (i + 1) us)))) step
    ∙ sym (after_join s (parts (tree_of t) (tree_of u)) (parts_all (trees_of (drop (i + 1) ts)) (trees_of (drop (i + 1) us))))
    ∙ ap (after_parts s) (sym (ap₂ parts_all (trees_of-drop_more ts i t h e) (trees_of-drop_more us i u k f))) ∙ w
