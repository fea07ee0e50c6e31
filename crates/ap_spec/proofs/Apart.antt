-- Taking equations apart.
use Rattle.std.proofs.Common.{◌≡◌, ◌≢◌, ◌==◌, true, if◌then◌else◌, ap₂, ℕ, List, [], ◌∷◌, ◌∙◌, length, append_assoc, append-nil, Option, Some, None, refl, ap, sym, suc}
use Rattle.ap_term.specs.declared.terms.Term.{Term}
use Rattle.ap_term.specs.Tree.{Tree, Trees, node, none, more, push_tree}
use Rattle.ap_term.specs.TermView.{tree_of, trees_of}
use Rattle.ap_term.specs.Substitution.{instance}
use Rattle.ap_term.specs.Unification.{Equations, both, apart, apart_all, replaced_by}
use Rattle.ap_term.proofs.TermLists.{size_all-push, item_smaller}

pub both_none : (es : Option Equations) → both es None ≡ None
both_none None = refl
both_none (Some es) = refl

both_nothing : (es : Option Equations) → both es (Some []) ≡ es
both_nothing None = refl
both_nothing (Some es) = ap Some (append-nil es)

nothing_both : (es : Option Equations) → both (Some []) es ≡ es
nothing_both None = refl
nothing_both (Some es) = refl

pub both_assoc : (a b c : Option Equations) → both (both a b) c ≡ both a (both b c)
both_assoc None b c = refl
both_assoc (Some x) None c = refl
both_assoc (Some x) (Some y) None = refl
both_assoc (Some x) (Some y) (Some z) = ap Some (append_assoc x y z)

pub apart_all-lengths : (ts us : List Term) → length ts ≢ length us → apart_all (trees_of ts) (trees_of us) ≡ None
apart_all-lengths [] [] h = absurd (h refl)
apart_all-lengths [] (u ∷ us) h = refl
apart_all-lengths (t ∷ ts) [] h = refl
apart_all-lengths (t ∷ ts) (u ∷ us) h =
    ap (both (apart (tree_of t) (tree_of u))) (apart_all-lengths ts us (λ e. h (ap suc e))) ∙ both_none (apart (tree_of t) (tree_of u))

pub push_none : (ts : Trees) (t : Tree) → apart_all (push_tree ts t) none ≡ None
push_none none t = refl
push_none (more u ts) t = refl

pub none_push : (ts : Trees) (t : Tree) → apart_all none (push_tree ts t) ≡ None
none_push none t = refl
none_push (more u ts) t = refl

-- the last arguments come last
pub apart_all-push : (ts us : Trees) (t u : Tree) → apart_all (push_tree ts t) (push_tree us u) ≡ both (apart_all ts us) (apart t u)
apart_all-push none none t u = both_nothing (apart t u) ∙ sym (nothing_both (apart t u))
apart_all-push none (more v us) t u = ap (both (apart t v)) (none_push us u) ∙ both_none (apart t v)
apart_all-push (more w ts) none t u = ap (both (apart w u)) (push_none ts t) ∙ both_none (apart w u)
apart_all-push (more w ts) (more v us) t u =
    ap (both (apart w v)) (apart_all-push ts us t u) ∙ sym (both_assoc (apart w v) (apart_all ts us) (apart t u))

pub ruleset rules_of_apart = (apart_all-push, apart_all-lengths, both_assoc, both_none, push_none, none_push, size_all-push, item_smaller)

-- two compounds of one name come apart into their arguments, the last ones last
pub apart-last : (out out' : Equations) (all : Option Equations) (a b : ℕ) (ts us front back : Trees) (t u : Tree) → (a == b) ≡ true
    → ts ≡ push_tree front t → us ≡ push_tree back u → Some out' ≡ both (Some out) (apart_all front back)
    → both (Some out) (apart (node a ts) (node b us)) ≡ all → both (Some out') (apart t u) ≡ all
apart-last out out' all a b ts us front back t u same left right step h =
    ap (λ o. both o (apart t u)) step ∙ both_assoc (Some out) (apart_all front back) (apart t u)
    ∙ ap (both (Some out)) (sym (apart_all-push front back t u) ∙ ap₂ apart_all (sym left) (sym right) ∙ ap (λ c. if c then apart_all ts us else None) (sym same)) ∙ h

-- one equation is replaced, the others come after it
pub replaced_by-turn : (f : ℕ → Tree) (e : ℕ × Tree) (es : Equations) (next new : Equations) (all : Option Equations)
    → Some new ≡ both (Some next) (apart (f e.0) (instance f e.1)) → both (Some next) (replaced_by f (e ∷ es)) ≡ all → both (Some new) (replaced_by f es) ≡ all
replaced_by-turn f e es next new all k h =
    ap (λ o. both o (replaced_by f es)) k ∙ both_assoc (Some next) (apart (f e.0) (instance f e.1)) (replaced_by f es) ∙ h

pub replaced_by-done : (f : ℕ → Tree) (next es : Equations) (all : Option Equations) → es ≡ [] → both (Some next) (replaced_by f es) ≡ all → Some next ≡ all
replaced_by-done f next es all e h = sym (both_nothing (Some next)) ∙ ap (λ ds. both (Some next) (replaced_by f ds)) (sym e) ∙ h

-- what comes apart behind nothing
pub begun : (none_yet es : Equations) (o : Option Equations) → none_yet ≡ [] → Some es ≡ both (Some none_yet) o → Some es ≡ o
begun none_yet es o e h = h ∙ ap (λ ds. both (Some ds) o) e ∙ nothing_both o
