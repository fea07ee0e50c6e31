-- The stacks of structures that wait, after a push, a pop and one turn of a loop.
use Rattle.std.proofs.Common.{◌≡◌, ℕ, ◌+◌, ◌-◌, ◌<◌, ◌≤◌, List, [], ◌∷◌, ◌++◌, length, take, drop, get_or, refl, ap, sym, ◌∙◌, subst, arith, append_assoc}
use Rattle.std.proofs.lemmas.List.{append-nil, take_all, drop_all, length-drop}
use Rattle.ap_term.specs.declared.terms.Term.{Term}
use Rattle.ap_term.specs.declared.terms.Term.TheVariants.{Var, Int, Atom, Node}
use Rattle.ap_term.specs.Tree.{Trees, node, more, count_trees, size_all}
use Rattle.ap_term.specs.TermView.{tree_of, trees_of}
use Rattle.ap_term.proofs.TermLists.{trees_of-drop_more}
use Rattle.ap_instr.specs.Step.{Step, get_structure, put_structure}
use Rattle.ap_codegen.specs.declared.permanent.Opening.{Opening}
use Rattle.ap_codegen.specs.declared.permanent.Structure.{Structure}
use Rattle.ap_codegen.specs.declared.permanent.Making.{Making}
use Rattle.ap_codegen.specs.declared.permanent.Making.TheVariants.{Build, Fill}
use Rattle.ap_codegen.specs.Permanent.{see_all, inner, place, fills, see_built, see_nested, build, nested, takes, see_taken, see_opened, get, opens}
use Rattle.ap_codegen.specs.Waiting.{see_waiting, opened, weight, IsBegun, structure, see_making, making_code, see_makings, made, making_weight, made_weight, MakesMore, IsPart}

-- ---- structures of a head

see_waiting-push : (ws : List Opening) (w : Opening) (seen : List ℕ) → see_waiting (ws ++ w ∷ []) seen ≡ see_waiting ws (see_opened (trees_of w.terms.now) seen)
see_waiting-push [] w seen = refl
see_waiting-push (u ∷ ws) w seen = ap (see_opened (trees_of u.terms.now)) (see_waiting-push ws w seen)

opened-push : (ws : List Opening) (w : Opening) (seen : List ℕ) → opened (ws ++ w ∷ []) seen ≡ opens (trees_of w.terms.now) seen w.free ++ opened ws (see_opened (trees_of w.terms.now) seen)
opened-push [] w seen = sym (append-nil (opens (trees_of w.terms.now) seen w.free))
opened-push (u ∷ ws) w seen =
    let first : List Step = opens (trees_of w.terms.now) seen w.free in
    let later : List ℕ = see_opened (trees_of w.terms.now) seen in
    ap (λ l. l ++ opens (trees_of u.terms.now) (see_waiting (ws ++ w ∷ []) seen) u.free) (opened-push ws w seen)
    ∙ ap (λ s. (first ++ opened ws later) ++ opens (trees_of u.terms.now) s u.free) (see_waiting-push ws w seen)
    ∙ append_assoc first (opened ws later) (opens (trees_of u.terms.now) (see_waiting ws later) u.free)

weight-push : (ws : List Opening) (w : Opening) → weight (ws ++ w ∷ []) ≡ size_all (trees_of w.terms.now) + 1 + weight ws
weight-push [] w = refl
weight-push (u ∷ ws) w = omega (arith, weight-push ws w)

regroup : (c : List Step) (g : Step) (t o r : List Step) → ((c ++ g ∷ []) ++ t) ++ (o ++ r) ≡ c ++ (g ∷ ((t ++ o) ++ r))
regroup c g t o r = simp append_assoc

-- a structure is taken apart but for those inside
pub open-structure : (f : ℕ) (us : Trees) (a m : ℕ) (w : Opening) (old new : List Opening) (seen mid : List ℕ) (c0 c1 c2 : List Step) → c1 ≡ c0 ++ get_structure f (count_trees us) a ∷ [] → c2 ≡ c1 ++ takes us seen m
    → mid ≡ see_all us seen → trees_of w.terms.now ≡ us → w.free ≡ m → new ≡ old ++ w ∷ [] → IsBegun (get (node f us) a seen m) (see_taken (node f us) seen) (size_all us + 1) old new mid c0 c2
open-structure f us a m w old new seen mid c0 c1 c2 d e s t k n =
    let g : Step = get_structure f (count_trees us) a in
    let all : List ℕ = see_all us seen in
    let part : List Step = takes us seen m in
    record {
      code =
          ap (λ c. c ++ opened new mid) e
          ∙ ap (λ c. (c ++ part) ++ opened new mid) d
          ∙ ap (λ s. ((c0 ++ g ∷ []) ++ part) ++ opened new s) s
          ∙ ap (λ ws. ((c0 ++ g ∷ []) ++ part) ++ opened ws all) n
          ∙ ap (λ l. ((c0 ++ g ∷ []) ++ part) ++ l) (opened-push old w all)
          ∙ ap (λ j. ((c0 ++ g ∷ []) ++ part) ++ (opens (trees_of w.terms.now) all j ++ opened old (see_opened (trees_of w.terms.now) all))) k
          ∙ ap (λ us. ((c0 ++ g ∷ []) ++ part) ++ (opens us all m ++ opened old (see_opened us all))) t
          ∙ regroup c0 g part (opens us all m) (opened old (see_opened us all));
      variables = ap (see_waiting new) s ∙ ap (λ ws. see_waiting ws all) n ∙ see_waiting-push old w all ∙ ap (λ us. see_waiting old (see_opened us all)) t;
      light = omega (arith, ap weight n, weight-push old w, ap size_all t);
    }

-- the first of some terms, and those behind it
pub first-behind : (terms : List Term) (t : Term) → 0 < length terms → t ≡ get_or terms 0 t → trees_of terms ≡ more (tree_of t) (trees_of (take (length terms - 1) (drop 1 terms)))
first-behind terms t h e =
    let l : length (drop 1 terms) ≤ length terms - 1 = omega (arith, length-drop 1 terms) in
    trees_of-drop_more terms 0 t h e ∙ ap (λ us. more (tree_of t) (trees_of us)) (sym (take_all (length terms - 1) (drop 1 terms) l))

-- the first of some terms is a structure
pub open-node : (terms : List Term) (t : Term) (f : ℕ) (us : Trees) (m p : ℕ) (w : Opening) (old mid new : List Opening) (seen s1 : List ℕ) (c0 c2 : List Step) → trees_of terms ≡ more (tree_of t) (trees_of w.terms.now)
    → tree_of t ≡ node f us → w.free ≡ m → p ≡ m + inner (trees_of w.terms.now) → mid ≡ old ++ w ∷ [] → IsBegun (get (node f us) p seen p) (see_taken (node f us) seen) (size_all us + 1) mid new s1 c0 c2
    → IsBegun (opens (trees_of terms) seen m) (see_opened (trees_of terms) seen) (size_all (trees_of terms)) old new s1 c0 c2
open-node terms t f us m p w old mid new seen s1 c0 c2 e k l q n b =
    let rest : Trees = trees_of w.terms.now in
    let later : List ℕ = see_taken (node f us) seen in
    let is : trees_of terms ≡ more (node f us) rest = e ∙ ap (λ v. more v rest) k in
    subst (λ ts. IsBegun (opens ts seen m) (see_opened ts seen) (size_all ts) old new s1 c0 c2) (sym is)
    (record {
      code =
          b.code
          ∙ ap (λ ws. c0 ++ (get (node f us) p seen p ++ opened ws later)) n
          ∙ ap (λ l. c0 ++ (get (node f us) p seen p ++ l)) (opened-push old w later)
          ∙ ap (λ j. c0 ++ (get (node f us) p seen p ++ (opens rest later j ++ opened old (see_opened rest later)))) l
          ∙ ap (λ p. c0 ++ (get (node f us) p seen p ++ (opens rest later m ++ opened old (see_opened rest later)))) q
          ∙ ap (λ l. c0 ++ l) (sym (append_assoc (get (node f us) (m + inner rest) seen (m + inner rest)) (opens rest later m) (opened old (see_opened rest later))));
      variables = b.variables ∙ ap (λ ws. see_waiting ws later) n ∙ see_waiting-push old w later;
      light = omega (arith, b.light, ap weight n, weight-push old w);
    })

-- the first of some terms is none
pub open-plain : (terms : List Term) (t : Term) (m : ℕ) (w : Opening) (old new : List Opening) (seen : List ℕ) (c0 : List Step) → trees_of terms ≡ more (tree_of t) (trees_of w.terms.now)
    → ((a : ℕ) (us : Trees) → t ≡ Node a us → ⊥) → w.free ≡ m → new ≡ old ++ w ∷ [] → IsBegun (opens (trees_of terms) seen m) (see_opened (trees_of terms) seen) (size_all (trees_of terms)) old new seen c0 c0
open-plain terms t m w old new seen c0 e k l n =
    let rest : Trees = trees_of w.terms.now in
    subst (λ ts. IsBegun (opens ts seen m) (see_opened ts seen) (size_all ts) old new seen c0 c0) (sym e) (go t k)
  where
    code : c0 ++ opened new seen ≡ c0 ++ (opens (trees_of w.terms.now) seen m ++ opened old (see_opened (trees_of w.terms.now) seen))
    code =
        ap (λ l. c0 ++ l)
        (ap (λ ws. opened ws seen) n ∙ opened-push old w seen ∙ ap (λ j. opens (trees_of w.terms.now) seen j ++ opened old (see_opened (trees_of w.terms.now) seen)) l)

    variables : see_waiting new seen ≡ see_waiting old (see_opened (trees_of w.terms.now) seen)
    variables = ap (λ ws. see_waiting ws seen) n ∙ see_waiting-push old w seen

    light : weight new ≡ size_all (trees_of w.terms.now) + 1 + weight old
    light = ap weight n ∙ weight-push old w

    go : (t : Term) → ((a : ℕ) (us : Trees) → t ≡ Node a us → ⊥)
        → IsBegun (opens (more (tree_of t) (trees_of w.terms.now)) seen m) (see_opened (more (tree_of t) (trees_of w.terms.now)) seen) (size_all (more (tree_of t) (trees_of w.terms.now))) old new seen c0 c0
    go (Var x) k = record { code = code; variables = variables; light = omega (arith, light) }
    go (Int z) k = record { code = code; variables = variables; light = omega (arith, light) }
    go (Atom a) k = record { code = code; variables = variables; light = omega (arith, light) }
    go (Node a us) k = absurd (k a us refl)

-- one turn of the loop over what waits
module _ (w : Opening) (all left new : List Opening) (seen s1 : List ℕ) (c0 c2 : List Step) (a : all ≡ left ++ w ∷ [])
    (b : IsBegun (opens (trees_of w.terms.now) seen w.free) (see_opened (trees_of w.terms.now) seen) (size_all (trees_of w.terms.now)) left new s1 c0 c2) where
  pub open-turn : (v : List ℕ) (e : List Step) → c0 ++ opened all seen ≡ e → see_waiting all seen ≡ v → (c2 ++ opened new s1 ≡ e) × (see_waiting new s1 ≡ v)
  open-turn v e i j = (
    b.code ∙ ap (λ l. c0 ++ l) (sym (ap (λ ws. opened ws seen) a ∙ opened-push left w seen)) ∙ i,
    b.variables ∙ sym (ap (λ ws. see_waiting ws seen) a ∙ see_waiting-push left w seen) ∙ j,
  )

  pub open-smaller : weight new < weight all
  open-smaller = omega (arith, b.light, ap weight a, weight-push left w)

-- ---- structures that are built

see_makings-push : (ws : List Making) (w : Making) (seen : List ℕ) → see_makings (ws ++ w ∷ []) seen ≡ see_makings ws (see_making w seen)
see_makings-push [] w seen = refl
see_makings-push (u ∷ ws) w seen = ap (see_making u) (see_makings-push ws w seen)

made-push : (ws : List Making) (w : Making) (seen : List ℕ) → made (ws ++ w ∷ []) seen ≡ making_code w seen ++ made ws (see_making w seen)
made-push [] w seen = sym (append-nil (making_code w seen))
made-push (u ∷ ws) w seen =
    let later : List ℕ = see_making w seen in
    ap (λ l. l ++ making_code u (see_makings (ws ++ w ∷ []) seen)) (made-push ws w seen)
    ∙ ap (λ s. (making_code w seen ++ made ws later) ++ making_code u s) (see_makings-push ws w seen)
    ∙ append_assoc (making_code w seen) (made ws later) (making_code u (see_makings ws later))

made_weight-push : (ws : List Making) (w : Making) → made_weight (ws ++ w ∷ []) ≡ making_weight w + made_weight ws
made_weight-push [] w = refl
made_weight-push (u ∷ ws) w = omega (arith, made_weight-push ws w)

-- behind the last argument
pub makes-end : (ts : List Term) (i : ℕ) (whole : Structure) (old : List Making) → length ts ≤ i → MakesMore (trees_of (drop i ts)) whole old old
makes-end ts i whole old l =
    subst (λ us. MakesMore us whole old old) (sym (ap trees_of (drop_all i ts l))) (record { code = λ seen. refl; sees = λ seen. refl; light = omega arith })

-- an argument that is a structure waits behind the others
pub makes-node : (ts : Trees) (whole : Structure) (old mid out : List Making) (w : Structure) (behind : ℕ) → inner ts ≡ behind → mid ≡ old ++ Build w ∷ [] → w.at ≡ place behind whole.spare whole.free
    → w.spare ≡ whole.at → w.free ≡ whole.free + behind → MakesMore ts whole mid out → MakesMore (more (structure w) ts) whole old out
makes-node ts whole old mid out w behind i e a b m o = record {
  code = λ seen.
      let s : List ℕ = see_nested ts seen in
      let first : List Step = nested ts whole.at seen whole.spare whole.free in
      let later : List Step = made old (see_built (structure w) s) in
      o.code seen
      ∙ ap (λ ws. first ++ made ws s) e
      ∙ ap (λ l. first ++ l) (made-push old (Build w) s)
      ∙ ap (λ n. first ++ (build (structure w) n s w.spare w.free ++ later)) a
      ∙ ap (λ n. first ++ (build (structure w) (place behind whole.spare whole.free) s n w.free ++ later)) b
      ∙ ap (λ n. first ++ (build (structure w) (place behind whole.spare whole.free) s whole.at n ++ later)) m
      ∙ ap (λ n. first ++ (build (structure w) (place n whole.spare whole.free) s whole.at (whole.free + n) ++ later)) (sym i)
      ∙ sym (append_assoc first (build (structure w) (place (inner ts) whole.spare whole.free) s whole.at (whole.free + inner ts)) later);
  sees = λ seen. o.sees seen ∙ ap (λ ws. see_makings ws (see_nested ts seen)) e ∙ see_makings-push old (Build w) (see_nested ts seen);
  light = omega (arith, o.light, ap made_weight e, made_weight-push old (Build w));
}

-- one part of what is left to do
pub build-part : (making : Making) (w : Structure) (left mid out : List Making) (seen : List ℕ) (c0 : List Step) → making ≡ Build w → mid ≡ left ++ Fill w ∷ [] → MakesMore w.args.now w mid out
    → IsPart making left out seen seen c0 c0
build-part making w left mid out seen c0 i e o =
    let s : List ℕ = see_nested w.args.now seen in
    let first : List Step = nested w.args.now w.at seen w.spare w.free in
    subst (λ making. IsPart making left out seen seen c0 c0) (sym i)
    (record {
      code =
          ap (λ l. c0 ++ l)
          (o.code seen
          ∙ ap (λ ws. first ++ made ws s) e
          ∙ ap (λ l. first ++ l) (made-push left (Fill w) s)
          ∙ sym (append_assoc first (making_code (Fill w) s) (made left (see_all w.args.now s))));
      variables = o.sees seen ∙ ap (λ ws. see_makings ws s) e ∙ see_makings-push left (Fill w) s;
      lighter = omega (arith, o.light, ap made_weight e, made_weight-push left (Fill w));
    })

pub fill-part : (making : Making) (w : Structure) (left : List Making) (seen mid : List ℕ) (c0 c1 c2 : List Step) → making ≡ Fill w → c1 ≡ c0 ++ put_structure w.name.now (count_trees w.args.now) w.at ∷ []
    → c2 ≡ c1 ++ fills w.args.now seen w.spare w.free → mid ≡ see_all w.args.now seen → IsPart making left left seen mid c0 c2
fill-part making w left seen mid c0 c1 c2 i d e s =
    let g : Step = put_structure w.name.now (count_trees w.args.now) w.at in
    let part : List Step = fills w.args.now seen w.spare w.free in
    subst (λ making. IsPart making left left seen mid c0 c2) (sym i)
    (record {
      code =
          ap (λ c. c ++ made left mid) e
          ∙ ap (λ c. (c ++ part) ++ made left mid) d
          ∙ ap (λ s. ((c0 ++ g ∷ []) ++ part) ++ made left s) s
          ∙ append_assoc (c0 ++ g ∷ []) part (made left (see_all w.args.now seen))
          ∙ append_assoc c0 (g ∷ []) (part ++ made left (see_all w.args.now seen));
      variables = ap (see_makings left) s;
      lighter = omega arith;
    })

-- one turn of the loop over what is left to do
module _ (w : Making) (all left new : List Making) (seen s1 : List ℕ) (c0 c2 : List Step) (a : all ≡ left ++ w ∷ []) (b : IsPart w left new seen s1 c0 c2) where
  pub make-turn : (v : List ℕ) (e : List Step) → c0 ++ made all seen ≡ e → see_makings all seen ≡ v → (c2 ++ made new s1 ≡ e) × (see_makings new s1 ≡ v)
  make-turn v e i j = (
    b.code ∙ ap (λ l. c0 ++ l) (sym (ap (λ ws. made ws seen) a ∙ made-push left w seen)) ∙ i,
    b.variables ∙ sym (ap (λ ws. see_makings ws seen) a ∙ see_makings-push left w seen) ∙ j,
  )

  pub make-smaller : made_weight new < made_weight all
  make-smaller = omega (arith, b.lighter, ap made_weight a, made_weight-push left w)
