-- A built-in goal is one turn of the model.
use Rattle.std.proofs.Common.{◌≡◌, ℕ, ℤ, zero, suc, ◌+◌, ◌<◌, Bool, true, false, List, [], ◌∷◌, ◌++◌, length, Option, Some, None, refl, ap, ap₂, sym, ◌∙◌, subst}
use Rattle.std.specs.List.{AllByRecursion}
use Rattle.ap_tracked.specs.Sets.{SameSet, IsSetOf, IsGeneralGoal, Behind, Equated, Valued}
use Rattle.ap_term.proofs.TreeLists.{instance-applied}
use Rattle.ap_term.specs.declared.builtins.Relation.{Relation}
use Rattle.ap_term.specs.declared.builtins.Relation.TheVariants.{Unify, NotUnify, Same, NotSame, Is, Compare}
use Rattle.ap_term.specs.declared.fixed.TheConstants.{TRUE, FAIL, UNIFY, IS}
use Rattle.ap_term.specs.Tree.{Tree, Trees, int, node, none, more, append_trees}
use Rattle.ap_term.specs.Substitution.{instance, instance_all}
use Rattle.ap_term.specs.Goals.{Program}
use Rattle.ap_term.specs.WellFormed.{IsProgram}
use Rattle.ap_term.specs.Arithmetic.{eval}
use Rattle.ap_term.specs.Builtins.{builtin, unified_value}
use Rattle.ap_tracked.specs.Tracked.{Goal, call, Tracked, children}
use Rattle.ap_tracked.specs.Marks.{marked}
use Rattle.ap_tracked.specs.Instances.{Inst}
use Rattle.ap_cells.specs.declared.cells.Raw.{Raw}
use Rattle.ap_cells.specs.Trees.{tree_at, trees}
use Rattle.ap_instr.specs.Builtin.{relation_name}
use Rattle.ap_instr.specs.Code.{Compiled}
use Rattle.ap_instr.specs.Step.{Step, builtin as builtin_step}
use Rattle.ap_instr.specs.Steps.{steps_from}
use Rattle.ap_instr.specs.Runs.{Runs, applied, spread, IsOpen, AsksOpenly}
use Rattle.ap_match.specs.Fits.{Fits, Becomes, Answered}
use Rattle.ap_match.proofs.Maps.{fits-own}
use Rattle.ap_resolution.proofs.Unified.{IsSetOf-same}
use Rattle.ap_resolution.proofs.Variants.{instances}
use Rattle.ap_resolution.proofs.Builtins.{builtins}
use Rattle.ap_steps.specs.Moves.{held, HoldPlaces}
use Rattle.ap_steps.specs.Standing.{Return, Standing, Waits, InCode}
use Rattle.ap_steps.proofs.Steps.{Runs-agree}
use Rattle.ap_standing.specs.Machine.{Point, inside, failed, AreWithin}
use Rattle.ap_standing.specs.Holds.{SetOf, IsOpenAt, AreOpen, Holds, Turned}
use Rattle.ap_standing.specs.Solved.{GivenValue, Tested, Solved}
use Rattle.ap_standing.specs.Laws.{machine, behind_goal}
use Rattle.ap_standing.proofs.Children.{plain-children, no-state}
use Rattle.ap_standing.proofs.Moved.{Waits-agree, some-waits}
use Rattle.ap_standing.proofs.FirstGoals.{first-call}
use Rattle.ap_standing.proofs.Turns.{SameSet-trans, SameSet-sym, relation-answered}
use Rattle.ap_standing.proofs.Calls.{Begins, begins}

-- ---- goals on registers

instance_all-spread : (f t k : ℕ → Tree) (p n : ℕ) → ((w : ℕ) → k w ≡ instance f (t w)) → spread k p n ≡ instance_all f (spread t p n)
instance_all-spread f t k p zero h = refl
instance_all-spread f t k p (suc n) h = ap (λ u. more u (spread k (p + 1) n)) (h p) ∙ ap (more (instance f (t p))) (instance_all-spread f t k (p + 1) n h)

pub Behind-same : (I J : Trees → Trees → Type 0) → SameSet I J → SameSet (Behind I) (Behind J)
Behind-same I J h gs t = (λ b. (b.0, (h (more b.0 gs) t).0 b.1), λ b. (b.0, (h (more b.0 gs) t).1 b.1))

Equated-same : (I J : Trees → Trees → Type 0) → SameSet I J → SameSet (Equated I) (Equated J)
Equated-same I J h gs t = (
  λ b. (b.0, (h (more (node UNIFY (more b.0 (more b.0 none))) gs) t).0 b.1),
  λ b. (b.0, (h (more (node UNIFY (more b.0 (more b.0 none))) gs) t).1 b.1),
)

pub Valued-same : (I J : Trees → Trees → Type 0) (z : ℤ) → SameSet I J → SameSet (Valued I z) (Valued J z)
Valued-same I J z h gs t = (
  λ b. (b.0, (h (more (node IS (more (int z) (more b.0 none))) gs) t).0 b.1),
  λ b. (b.0, (h (more (node IS (more (int z) (more b.0 none))) gs) t).1 b.1),
)

module _ (code : Compiled) (cs : List Raw) (ws : List Return) (roots : List ℕ) (x y : List ℕ) (is : List Step) where
  abbrev st : List Raw → Standing
  st ds = record { cells = ds; returns = ws; roots = roots }

  -- the goals at the built-in one, and behind it
  abbrev At : ℕ → ℕ → Trees → Trees → Type 0
  At p n = InCode code (st cs) (held x) (held y) (builtin_step p n ∷ is)

  abbrev Next : List Raw → Trees → Trees → Type 0
  Next ds = InCode code (st ds) (held x) (held y) is

  abbrev own : ℕ → Tree
  own w = tree_at (trees cs) (held x w)

  module _ (p n : ℕ) (hx : HoldPlaces (length cs) x) (is_open : IsOpen is) (are_open : AreOpen code ws) where
    some-goal : (gs t : Trees) × At p n (more (applied p (spread own 1 n)) gs) t
    some-goal =
        let k : ℕ → Tree = tree_at (trees cs) in
        let b = is_open (λ w. k (held x w)) (λ w. k (held y w)) in
        let r = some-waits code k ws roots are_open in
        (append_trees b.0 r.0, r.1, (k, more (applied p (spread own 1 n)) b.0, r.0, fits-own cs, (b.0, refl, b.1), refl, r.2))

    general : IsGeneralGoal (At p n) (applied p (spread own 1 n))
    general = (
      some-goal,
      λ h hs us i.
          let k : ℕ → Tree = i.0 in
          let f : ℕ → Tree = i.3.0 in
          let g : Tree = applied p (spread (λ w. k (held x w)) 1 n) in
          let e : more h hs ≡ append_trees (more g i.4.0) i.2 = i.5 ∙ ap (λ b. append_trees b i.2) i.4.1 in
          let d : h ≡ g = more-head h hs g (append_trees i.4.0 i.2) e in
          (f, d ∙ ap (applied p) (instance_all-spread f own (λ w. k (held x w)) 1 n (λ w. i.3.1 (held x w) (hx w))) ∙ sym (instance-applied f p (spread own 1 n))),
    )
      where
        more-head : (t : Tree) (ts : Trees) (u : Tree) (us : Trees) → more t ts ≡ more u us → t ≡ u
        more-head t ts u us e = cc

  -- ---- what comes behind

  behind : (p n : ℕ) → SameSet (Behind (At p n)) (Next cs)
  behind p n gs t = (
    λ b.
        let i = b.1 in
        let g : Tree = applied p (spread (λ w. i.0 (held x w)) 1 n) in
        let e : more b.0 gs ≡ more g (append_trees i.4.0 i.2) = i.5 ∙ ap (λ bs. append_trees bs i.2) i.4.1 in
        let d : gs ≡ append_trees i.4.0 i.2 = cc in
        (i.0, i.4.0, i.2, i.3, i.4.2, d, i.6),
    λ i.
        let g : Tree = applied p (spread (λ w. i.0 (held x w)) 1 n) in
        (g, (i.0, more g i.1, i.2, i.3, (i.1, refl, i.4), ap (more g) i.5, i.6)),
  )

  module _ (hx : HoldPlaces (length cs) x) (hy : HoldPlaces (length cs) y) (hw : AreWithin (length cs) ws) (hr : AllByRecursion (λ r. r < length cs) roots) where
    -- the same of maps that have what was asked
    onward : (ds : List Raw) (asked : (ℕ → Tree) → Type 0) → Becomes cs ds asked (λ k. Unit {0}) → (k : ℕ → Tree) (bs qs gs t : Trees) → Fits cs k → asked k
        → Runs is none (λ w. k (held x w)) (λ w. k (held y w)) bs → gs ≡ append_trees bs qs → Waits code ws roots k qs t → Next ds gs t
    onward ds asked b k bs qs gs t fits a r e w =
        let l = b.each k fits a in
        (l.0, bs, qs, l.2, Runs-agree (length cs) k l.0 l.1 (held x) (held y) hx hy is none bs r, e, Waits-agree code (length cs) k l.0 l.1 ws roots hw hr qs t w)

    equated : (ds : List Raw) → Becomes cs ds (λ k. k (held x 1) ≡ k (held x 2)) (λ k. Unit {0}) → SameSet (Equated (At UNIFY 2)) (Next ds)
    equated ds b gs t = (
      λ q.
          let i = q.1 in
          let k : ℕ → Tree = i.0 in
          let e : more (node UNIFY (more q.0 (more q.0 none))) gs ≡ more (node UNIFY (more (k (held x 1)) (more (k (held x 2)) none))) (append_trees i.4.0 i.2) = i.5 ∙ ap (λ bs. append_trees bs i.2) i.4.1 in
          let same : k (held x 1) ≡ k (held x 2) = cc in
          let d : gs ≡ append_trees i.4.0 i.2 = cc in
          onward ds (λ k. k (held x 1) ≡ k (held x 2)) b k i.4.0 i.2 gs t i.3 same i.4.2 d i.6,
      λ i.
          let k : ℕ → Tree = i.0 in
          let o = b.only k i.3 in
          let g : Tree = node UNIFY (more (k (held x 1)) (more (k (held x 2)) none)) in (
            k (held x 1),
            (k, more g i.1, i.2, o.0, (i.1, refl, i.4), ap₂ (λ u us. more (node UNIFY (more (k (held x 1)) (more u none))) us) o.1 i.5, i.6),
          ),
    )

    valued : (ds : List Raw) (z : ℤ) → Becomes cs ds (λ k. k (held x 1) ≡ int z) (λ k. Unit {0}) → SameSet (Valued (At IS 2) z) (Next ds)
    valued ds z b gs t = (
      λ q.
          let i = q.1 in
          let k : ℕ → Tree = i.0 in
          let e : more (node IS (more (int z) (more q.0 none))) gs ≡ more (node IS (more (k (held x 1)) (more (k (held x 2)) none))) (append_trees i.4.0 i.2) = i.5 ∙ ap (λ bs. append_trees bs i.2) i.4.1 in
          let same : k (held x 1) ≡ int z = cc in
          let d : gs ≡ append_trees i.4.0 i.2 = cc in
          onward ds (λ k. k (held x 1) ≡ int z) b k i.4.0 i.2 gs t i.3 same i.4.2 d i.6,
      λ i.
          let k : ℕ → Tree = i.0 in
          let o = b.only k i.3 in
          let g : Tree = node IS (more (k (held x 1)) (more (k (held x 2)) none)) in (
            k (held x 2),
            (k, more g i.1, i.2, o.0, (i.1, refl, i.4), ap₂ (λ u us. more (node IS (more u (more (k (held x 2)) none))) us) (sym o.1) i.5, i.6),
          ),
    )

  not-equated : ((k : ℕ → Tree) → Fits cs k → k (held x 1) ≡ k (held x 2) → ⊥) → (gs t : Trees) → Equated (At UNIFY 2) gs t → ⊥
  not-equated no_map gs t q =
      let i = q.1 in
      let k : ℕ → Tree = i.0 in
      let e : more (node UNIFY (more q.0 (more q.0 none))) gs ≡ more (node UNIFY (more (k (held x 1)) (more (k (held x 2)) none))) (append_trees i.4.0 i.2) = i.5 ∙ ap (λ bs. append_trees bs i.2) i.4.1 in
      let same : k (held x 1) ≡ k (held x 2) = cc in
      no_map k i.3 same

  not-valued : (z : ℤ) → ((k : ℕ → Tree) → Fits cs k → k (held x 1) ≡ int z → ⊥) → (gs t : Trees) → Valued (At IS 2) z gs t → ⊥
  not-valued z no_map gs t q =
      let i = q.1 in
      let k : ℕ → Tree = i.0 in
      let e : more (node IS (more (int z) (more q.0 none))) gs ≡ more (node IS (more (k (held x 1)) (more (k (held x 2)) none))) (append_trees i.4.0 i.2) = i.5 ∙ ap (λ bs. append_trees bs i.2) i.4.1 in
      let same : k (held x 1) ≡ int z = cc in
      no_map k i.3 same

-- ---- the turn

module _ (code : Compiled) (cs : List Raw) (ws : List Return) (roots : List ℕ) (x y : List ℕ) (at : ℕ) where
  abbrev is : List Step
  is = steps_from code (at + 1)

  abbrev here : ℕ → ℕ → Trees → Trees → Type 0
  here p n = At code cs ws roots x y is p n

  abbrev place : ℕ → Tree
  place w = own code cs ws roots x y is w

  -- what is set behind the goal
  abbrev SetBehind : List Raw → Bool → Trees → Trees → Type 0
  SetBehind ds r = SetOf code (machine ds x y ws roots [] (behind_goal at r))

  no-children : (p : Program) (s : Tracked) (ds : List Raw) → children p s ≡ [] → IsSetOf (SetBehind ds false) (children p s)
  no-children p s ds e = subst (IsSetOf (SetBehind ds false)) (sym e) (λ gs t i. i)

  module _ (p : Program) (s : Tracked) (f : Tree) (rest : List Goal) (opens : s.goals ≡ call f ∷ rest) where
    holds-behind : (q n : ℕ) → SameSet (here q n) (Inst s) → IsGeneralGoal (Inst s) (applied q (spread place 1 n)) → builtin (applied q (spread place 1 n)) ≡ Some (Some []) → IsSetOf (SetBehind cs true) (children p s)
    holds-behind q n same g e =
        IsSetOf-same (Behind (Inst s)) (SetBehind cs true)
        (SameSet-trans (Behind (Inst s)) (Behind (here q n)) (SetBehind cs true) (Behind-same (Inst s) (here q n) (SameSet-sym (here q n) (Inst s) same)) (behind code cs ws roots x y is q n))
        (children p s) (builtins.holds p s f rest (applied q (spread place 1 n)) opens g e)

    fails-behind : (q n : ℕ) (ds : List Raw) → IsGeneralGoal (Inst s) (applied q (spread place 1 n)) → builtin (applied q (spread place 1 n)) ≡ Some None → IsSetOf (SetBehind ds false) (children p s)
    fails-behind q n ds g e = no-children p s ds (builtins.fails p s f rest (applied q (spread place 1 n)) opens g e)

    module _ (hx : HoldPlaces (length cs) x) (hy : HoldPlaces (length cs) y) (hw : AreWithin (length cs) ws) (hr : AllByRecursion (λ r. r < length cs) roots) where
      unified : (ds : List Raw) (r : Bool) → Answered cs ds (λ k. k (held x 1) ≡ k (held x 2)) r → SameSet (here UNIFY 2) (Inst s) → IsGeneralGoal (Inst s) (applied UNIFY (spread place 1 2)) → IsSetOf (SetBehind ds r) (children p s)
      unified ds true b same g =
          IsSetOf-same (Equated (Inst s)) (SetBehind ds true)
          (SameSet-trans (Equated (Inst s)) (Equated (here UNIFY 2)) (SetBehind ds true) (Equated-same (Inst s) (here UNIFY 2) (SameSet-sym (here UNIFY 2) (Inst s) same)) (equated code cs ws roots x y is hx hy hw hr ds b))
          (children p s) (builtins.equates p s f rest (place 1) (place 2) opens g)
      unified ds false b same g =
          no-children p s ds
          (no-state (Equated (Inst s)) (children p s) (builtins.equates p s f rest (place 1) (place 2) opens g)
          (λ gs t q. not-equated code cs ws roots x y is b gs t ((Equated-same (Inst s) (here UNIFY 2) (SameSet-sym (here UNIFY 2) (Inst s) same) gs t).0 q)))

      given : (ds : List Raw) (r : Bool) (o : Option ℤ) → eval (place 2) ≡ o → GivenValue o cs ds (held x 1) r → SameSet (here IS 2) (Inst s) → IsGeneralGoal (Inst s) (applied IS (spread place 1 2)) → IsSetOf (SetBehind ds r) (children p s)
      given ds r None e h same g =
          subst (λ b. IsSetOf (SetBehind ds b) (children p s)) (sym h)
          (fails-behind IS 2 ds g (relation-answered Is (place 1) (place 2) ∙ ap (λ o. Some (unified_value (place 1) o)) e))
      given ds true (Some z) e b same g =
          IsSetOf-same (Valued (Inst s) z) (SetBehind ds true)
          (SameSet-trans (Valued (Inst s) z) (Valued (here IS 2) z) (SetBehind ds true) (Valued-same (Inst s) (here IS 2) z (SameSet-sym (here IS 2) (Inst s) same)) (valued code cs ws roots x y is hx hy hw hr ds z b))
          (children p s) (builtins.values p s f rest (place 1) (place 2) z opens g e)
      given ds false (Some z) e b same g =
          no-children p s ds
          (no-state (Valued (Inst s) z) (children p s) (builtins.values p s f rest (place 1) (place 2) z opens g e)
          (λ gs t q. not-valued code cs ws roots x y is z b gs t ((Valued-same (Inst s) (here IS 2) z (SameSet-sym (here IS 2) (Inst s) same) gs t).0 q)))

      tested : (relation : Relation) (ds : List Raw) (r : Bool) → Tested relation cs ds (held x 1) (held x 2) r → SameSet (here (relation_name relation) 2) (Inst s) → IsGeneralGoal (Inst s) (applied (relation_name relation) (spread place 1 2))
          → IsSetOf (SetBehind ds r) (children p s)
      tested relation ds true h same g =
          subst (λ us. IsSetOf (SetBehind us true) (children p s)) (sym h.0) (holds-behind (relation_name relation) 2 same g (relation-answered relation (place 1) (place 2) ∙ ap Some h.1))
      tested relation ds false h same g = fails-behind (relation_name relation) 2 ds g (relation-answered relation (place 1) (place 2) ∙ ap Some h.1)

      solved-set : (relation : Relation) (ds : List Raw) (r : Bool) → Solved relation cs ds (held x 1) (held x 2) r → SameSet (here (relation_name relation) 2) (Inst s) → IsGeneralGoal (Inst s) (applied (relation_name relation) (spread place 1 2))
          → IsSetOf (SetBehind ds r) (children p s)
      solved-set Unify ds r h same g = unified ds r h same g
      solved-set NotUnify ds r h same g = tested NotUnify ds r h same g
      solved-set Same ds r h same g = tested Same ds r h same g
      solved-set NotSame ds r h same g = tested NotSame ds r h same g
      solved-set Is ds r h same g = given ds r (eval (place 2)) refl h same g
      solved-set (Compare op) ds r h same g = tested (Compare op) ds r h same g

  -- a turn, whose children are the set behind the goal
  module _ (qs : List Point) (p : Program) (good : IsProgram p) (q n : ℕ) (is_at : steps_from code at ≡ builtin_step q n ∷ is) (hx : HoldPlaces (length cs) x) where
    turn : (ds : List Raw) (r : Bool)
        → ((s : Tracked) (f : Tree) (rest : List Goal) → s.goals ≡ call f ∷ rest → SameSet (here q n) (Inst s) → IsGeneralGoal (Inst s) (applied q (spread place 1 n)) → IsSetOf (SetBehind ds r) (children p s))
        → (ss : List Tracked) → Holds code (machine cs x y ws roots qs (inside at)) ss
        → (ts : List Tracked) × Turned p 1 ss ts × Holds code (machine ds x y ws roots qs (behind_goal at r)) ts
    turn ds r child_set ss h =
        let openly : IsOpen is × AsksOpenly is = subst AsksOpenly is_at h.4 in
        let at_goal : IsSetOf (here q n) h.0 = subst (λ js. IsSetOf (InCode code (record { cells = cs; returns = ws; roots = roots }) (held x) (held y) js) h.0) is_at h.2 in
        let some = some-goal code cs ws roots x y is q n hx openly.0 h.5 in
        let b : Begins (here q n) h.1 ss = begins (here q n) h.0 h.1 ss at_goal h.3 (more (applied q (spread place 1 n)) some.0, some.1, some.2) h.7 in
        let s : Tracked = b.0 in
        let m : here q n (marked s.goals) s.tuple = (b.2 (marked s.goals) s.tuple).1 (instances s) in
        let g : Tree = applied q (spread (λ w. m.0 (held x w)) 1 n) in
        let e : marked s.goals ≡ more g (append_trees m.4.0 m.2) = m.5 ∙ ap (λ bs. append_trees bs m.2) m.4.1 in
        let f = first-call s.goals q (spread (λ w. m.0 (held x w)) 1 n) (append_trees m.4.0 m.2) e in (
          children p s ++ h.1,
          subst (λ us. Turned p 1 us (children p s ++ h.1)) (sym b.1) (λ d. no-more g (append_trees m.4.0 m.2) (ap marked (sym d) ∙ e), refl),
          (
            children p s,
            h.1,
            child_set s g f.0 f.1 b.2 (general-same (here q n) (Inst s) (applied q (spread place 1 n)) b.2 (general code cs ws roots x y is q n hx openly.0 h.5)),
            plain-children p good s b.3,
            open-behind r openly.1,
            h.5,
            h.6,
            refl,
          ),
        )
      where
        no-more : (t : Tree) (ts : Trees) → none ≡ more t ts → ⊥
        no-more t ts e = cc

        open-behind : (r : Bool) → AsksOpenly is → IsOpenAt code (behind_goal at r)
        open-behind true o = o
        open-behind false o = tt

        general-same : (I J : Trees → Trees → Type 0) (g : Tree) → SameSet I J → IsGeneralGoal I g → IsGeneralGoal J g
        general-same I J g same h = ((h.0.0, h.0.1, (same (more g h.0.0) h.0.1).0 h.0.2), λ u us t j. h.1 u us t ((same (more u us) t).1 j))

module _ (code : Compiled) (cs ds : List Raw) (ws : List Return) (roots : List ℕ) (qs : List Point) (x y : List ℕ) (at : ℕ) (p : Program) (good : IsProgram p) (hx : HoldPlaces (length cs) x) where
  -- a goal with two arguments
  pub solved-turn : (relation : Relation) (r : Bool) → steps_from code at ≡ builtin_step (relation_name relation) 2 ∷ steps_from code (at + 1)
      → HoldPlaces (length cs) y → AreWithin (length cs) ws → AllByRecursion (λ r. r < length cs) roots → Solved relation cs ds (held x 1) (held x 2) r
      → (ss : List Tracked) → Holds code (machine cs x y ws roots qs (inside at)) ss
      → (ts : List Tracked) × Turned p 1 ss ts × Holds code (machine ds x y ws roots qs (behind_goal at r)) ts
  solved-turn relation r is_at hy hw hr solved =
      turn code cs ws roots x y at qs p good (relation_name relation) 2 is_at hx ds r
      (λ s f rest opens same g. solved-set code cs ws roots x y at p s f rest opens hx hy hw hr relation ds r solved same g)

  pub true-turn : steps_from code at ≡ builtin_step TRUE 0 ∷ steps_from code (at + 1)
      → (ss : List Tracked) → Holds code (machine cs x y ws roots qs (inside at)) ss
      → (ts : List Tracked) × Turned p 1 ss ts × Holds code (machine cs x y ws roots qs (inside (at + 1))) ts
  true-turn is_at =
      turn code cs ws roots x y at qs p good TRUE 0 is_at hx cs true (λ s f rest opens same g. holds-behind code cs ws roots x y at p s f rest opens TRUE 0 same g refl)

  pub fail-turn : steps_from code at ≡ builtin_step FAIL 0 ∷ steps_from code (at + 1)
      → (ss : List Tracked) → Holds code (machine cs x y ws roots qs (inside at)) ss
      → (ts : List Tracked) × Turned p 1 ss ts × Holds code (machine ds x y ws roots qs failed) ts
  fail-turn is_at =
      turn code cs ws roots x y at qs p good FAIL 0 is_at hx ds false (λ s f rest opens same g. fails-behind code cs ws roots x y at p s f rest opens FAIL 0 ds g refl)
