-- A goal of arithmetic on registers is one turn of the model.
use Rattle.std.proofs.Common.{◌≡◌, ℕ, ℤ, ◌+◌, ◌<◌, Bool, true, false, List, [], ◌∷◌, ◌++◌, length, Some, refl, ap, ap₂, sym, ◌∙◌, subst}
use Rattle.std.specs.List.{AllByRecursion}
use Rattle.ap_tracked.specs.Sets.{SameSet, IsSetOf, IsGeneralGoal, Behind, Valued}
use Rattle.ap_term.specs.declared.builtins.Op.{Op}
use Rattle.ap_term.specs.declared.builtins.Relation.TheVariants.{Compare as compare_relation}
use Rattle.ap_term.specs.declared.fixed.TheConstants.{IS}
use Rattle.ap_term.specs.Tree.{Tree, Trees, var, int, atom, node, none, more, append_trees}
use Rattle.ap_term.specs.Substitution.{instance}
use Rattle.ap_term.specs.Goals.{Program}
use Rattle.ap_term.specs.WellFormed.{IsProgram}
use Rattle.ap_term.specs.Arithmetic.{eval, compare_values}
use Rattle.ap_term.specs.Builtins.{succeeds_if}
use Rattle.ap_term.proofs.Facts.{funext}
use Rattle.ap_term.proofs.Locals.{instance-Local}
use Rattle.ap_tracked.specs.Tracked.{Goal as TrackedGoal, call, Tracked, children}
use Rattle.ap_tracked.specs.Marks.{marked}
use Rattle.ap_tracked.specs.Instances.{Inst}
use Rattle.ap_cells.specs.declared.cells.Raw.{Raw}
use Rattle.ap_cells.specs.Trees.{tree_at, trees}
use Rattle.ap_cells.specs.Store.{IsStore}
use Rattle.ap_instr.specs.declared.instruction.Slot.{Slot}
use Rattle.ap_instr.specs.declared.instruction.Slot.TheVariants.{X, Y}
use Rattle.ap_instr.specs.Code.{Compiled}
use Rattle.ap_instr.specs.Step.{Step}
use Rattle.ap_instr.specs.Steps.{steps_from}
use Rattle.ap_instr.specs.Runs.{Runs, read, set, set_x, set_y, IsOpen, AsksOpenly}
use Rattle.ap_match.specs.Fits.{Fits, Agree, Becomes, Answered}
use Rattle.ap_match.proofs.Maps.{fits-own, fits-agree, set-here, set-below}
use Rattle.ap_match.proofs.Inside.{inside as inside-store}
use Rattle.ap_resolution.proofs.Unified.{IsSetOf-same}
use Rattle.ap_resolution.proofs.Variants.{instances}
use Rattle.ap_resolution.proofs.Builtins.{builtins}
use Rattle.ap_steps.specs.Moves.{held, HoldPlaces}
use Rattle.ap_steps.specs.Standing.{Return, Standing, Waits, InCode}
use Rattle.ap_steps.proofs.Steps.{Runs-agree, Runs-written, Runs-unwritten, same-held}
use Rattle.ap_steps.proofs.RegisterMaps.{read-of}
use Rattle.ap_standing.specs.Machine.{Point, inside, AreWithin}
use Rattle.ap_standing.specs.Holds.{SetOf, IsOpenAt, AreOpen, Holds, Turned}
use Rattle.ap_standing.specs.Laws.{machine}
use Rattle.ap_standing.proofs.Children.{plain-children, no-state}
use Rattle.ap_standing.proofs.Builtins.{Behind-same, Valued-same}
use Rattle.ap_standing.proofs.Moved.{Waits-agree, some-waits}
use Rattle.ap_standing.proofs.FirstGoals.{first-call}
use Rattle.ap_standing.proofs.Turns.{SameSet-trans, SameSet-sym, relation-answered}
use Rattle.ap_standing.proofs.Calls.{Begins, begins}
use Rattle.ap_direct.specs.declared.goal.Operand.{Operand}
use Rattle.ap_direct.specs.declared.goal.Operand.TheVariants.{Register, Integer}
use Rattle.ap_direct.specs.declared.goal.Part.{Part}
use Rattle.ap_direct.specs.declared.goal.Part.TheVariants.{Operand as One, Operation as Two, Nested'}
use Rattle.ap_direct.specs.declared.goal.Goal.{Goal}
use Rattle.ap_direct.specs.declared.goal.Goal.TheVariants.{Compare, Match, Give}
use Rattle.ap_direct.specs.declared.goal.Direct.{Direct}
use Rattle.ap_direct.specs.Goals.{operation_name, operand_tree, part_tree, pair, goal_name, goal_left, goal_right, goal_tree, x_behind, y_behind, AsksGoal, AsksFirst}
use Rattle.ap_direct_turns.specs.Solved.{own, own_part, Given, SolvedOn}
use Rattle.ap_direct_turns.specs.Laws.{behind_direct, DirectLaw}

-- ---- instances of goals

module _ (f : ℕ → Tree) (X' Y' : ℕ → Tree) where
  abbrev under : (ℕ → Tree) → ℕ → Tree
  under r w = instance f (r w)

  instance-operand : (o : Operand) → instance f (operand_tree o X' Y') ≡ operand_tree o (under X') (under Y')
  instance-operand (Register (X n)) = refl
  instance-operand (Register (Y n)) = refl
  instance-operand (Integer z) = refl

  instance-part : (a : Part) → instance f (part_tree a X' Y') ≡ part_tree a (under X') (under Y')
  instance-part (One o) = instance-operand o
  instance-part (Two g o q) = ap₂ (λ t u. node (operation_name g) (pair t u)) (instance-operand o) (instance-operand q)
  instance-part (Nested' g p a q b) = ap₂ (λ t u. node (operation_name g) (pair t u)) (instance-part a) (instance-part b)

  instance-left : (g : Goal) (t : Tree) → instance f (goal_left g t X' Y') ≡ goal_left g (instance f t) (under X') (under Y')
  instance-left (Compare op a b) t = instance-part a
  instance-left (Match v a) t = instance-operand (Register v)
  instance-left (Give v a) t = refl

  instance-right : (g : Goal) → instance f (goal_right g X' Y') ≡ goal_right g (under X') (under Y')
  instance-right (Compare op a b) = instance-part b
  instance-right (Match v a) = instance-part a
  instance-right (Give v a) = instance-part a

  instance-goal : (g : Goal) (t : Tree) → instance f (goal_tree g t X' Y') ≡ goal_tree g (instance f t) (under X') (under Y')
  instance-goal g t = ap₂ (λ u v. node (goal_name g) (pair u v)) (instance-left g t) (instance-right g)

-- ---- the set of what is asked at the goal

module _ (code : Compiled) (cs : List Raw) (ws : List Return) (roots : List ℕ) (x y : List ℕ) (is : List Step) where
  abbrev st : List Raw → Standing
  st ds = record { cells = ds; returns = ws; roots = roots }

  -- what registers hold under a map
  abbrev xs : (ℕ → Tree) → ℕ → Tree
  xs k w = k (held x w)

  abbrev ys : (ℕ → Tree) → ℕ → Tree
  ys k w = k (held y w)

  abbrev At : Goal → Trees → Trees → Type 0
  At g gs t =
      (k : ℕ → Tree) × (v : Tree) × (bs : Trees) × (qs : Trees) × Fits cs k × Runs is none (x_behind g v (xs k)) (y_behind g v (ys k)) bs
      × (gs ≡ more (goal_tree g v (xs k) (ys k)) (append_trees bs qs)) × Waits code ws roots k qs t

  at-goal : (js : List Step) (g : Goal) → AsksGoal js g is → SameSet (InCode code (st cs) (held x) (held y) js) (At g)
  at-goal js g asks gs t = (
    λ i.
        let o = asks.only (xs i.0) (ys i.0) i.1 i.4 in
        let e : gs ≡ more (goal_tree g o.0 (xs i.0) (ys i.0)) (append_trees o.1 i.2) = i.5 ∙ ap (λ b. append_trees b i.2) o.2 in
        (i.0, o.0, o.1, i.2, i.3, o.3, e, i.6),
    λ h. (h.0, more (goal_tree g h.1 (xs h.0) (ys h.0)) h.2, h.3, h.4, asks.each (xs h.0) (ys h.0) h.1 h.2 h.5, h.6, h.7),
  )

  module _ (trail : List ℕ) (store : IsStore cs trail) (hx : HoldPlaces (length cs) x) (hy : HoldPlaces (length cs) y) (g : Goal) where
    abbrev fresh : Tree
    fresh = var (length cs)

    abbrev most_general : Tree
    most_general = goal_tree g fresh (own cs x) (own cs y)

    some-goal : IsOpen is → AreOpen code ws → (gs t : Trees) × At g (more most_general gs) t
    some-goal is_open are_open =
        let k : ℕ → Tree = tree_at (trees cs) in
        let b = is_open (x_behind g fresh (xs k)) (y_behind g fresh (ys k)) in
        let r = some-waits code k ws roots are_open in
        (append_trees b.0 r.0, r.1, (k, fresh, b.0, r.0, fits-own cs, b.1, refl, r.2))

    -- a map that fits, and a tree for the new variable, make an instance
    by-fresh : (k : ℕ → Tree) (v : Tree) → Fits cs k → (f : ℕ → Tree) × (goal_tree g v (xs k) (ys k) ≡ instance f most_general)
    by-fresh k v fits =
        let f : ℕ → Tree = set fits.0 (length cs) v in
        let same : (z : List ℕ) → HoldPlaces (length cs) z → (w : ℕ) → k (held z w) ≡ instance f (own cs z w) = λ z h w.
        fits.1 (held z w) (h w)
        ∙ sym (instance-Local (λ i. i < length cs) f fits.0 (λ i l. set-below fits.0 (length cs) i v l) (tree_at (trees cs) (held z w)) (inside-store cs trail store (held z w) (h w)))
        in (
          f,
          ap₂ (λ p q. goal_tree g v p q) (funext (xs k) (λ w. instance f (own cs x w)) (same x hx)) (funext (ys k) (λ w. instance f (own cs y w)) (same y hy))
              ∙ ap (λ u. goal_tree g u (λ w. instance f (own cs x w)) (λ w. instance f (own cs y w))) (sym (set-here fits.0 (length cs) v))
              ∙ sym (instance-goal f (own cs x) (own cs y) g fresh),
        )

    general : IsOpen is → AreOpen code ws → IsGeneralGoal (At g) most_general
    general is_open are_open = (
      some-goal is_open are_open,
      λ h hs us i.
          let b = by-fresh i.0 i.1 i.4 in
          let d : h ≡ goal_tree g i.1 (xs i.0) (ys i.0) = more-head h hs (goal_tree g i.1 (xs i.0) (ys i.0)) (append_trees i.2 i.3) i.6 in
          (b.0, d ∙ b.1),
    )
      where
        more-head : (t : Tree) (ts : Trees) (u : Tree) (us : Trees) → more t ts ≡ more u us → t ≡ u
        more-head t ts u us e = cc

  -- ---- what comes behind

  tail : (t : Tree) (ts : Trees) (u : Tree) (us : Trees) → more t ts ≡ more u us → ts ≡ us
  tail t ts u us e = cc

  -- the first argument of a goal, and the goals behind it
  left : (n : ℕ) (a b c d : Tree) (gs us : Trees) → more (node n (pair a b)) gs ≡ more (node n (pair c d)) us → (c ≡ a) × (gs ≡ us)
  left n a b c d gs us e = (cc, cc)

  behind : (op : Op) (a b : Part) → SameSet (Behind (At (Compare op a b))) (InCode code (st cs) (held x) (held y) is)
  behind op a b gs t = (
    λ q.
        let i = q.1 in
        (i.0, i.2, i.3, i.4, i.5, tail q.0 gs (goal_tree (Compare op a b) i.1 (xs i.0) (ys i.0)) (append_trees i.2 i.3) i.6, i.7),
    λ i.
        let g : Tree = goal_tree (Compare op a b) (atom 0) (xs i.0) (ys i.0) in
        (g, (i.0, atom 0, i.1, i.2, i.3, i.4, ap (more g) i.5, i.6)),
  )

  module _ (hx : HoldPlaces (length cs) x) (hy : HoldPlaces (length cs) y) (hw : AreWithin (length cs) ws) (hr : AllByRecursion (λ r. r < length cs) roots) where
    matched : (ds : List Raw) (v : Slot) (a : Part) (z : ℤ) → Becomes cs ds (λ k. k (read v (held x) (held y)) ≡ int z) (λ k. Unit {0})
        → SameSet (Valued (At (Match v a)) z) (InCode code (st ds) (held x) (held y) is)
    matched ds v a z b gs t = (
      λ q.
          let i = q.1 in
          let k : ℕ → Tree = i.0 in
          let l = left IS (int z) q.0 (read v (xs k) (ys k)) (part_tree a (xs k) (ys k)) gs (append_trees i.2 i.3) i.6 in
          let n = b.each k i.4 (read-of k v (held x) (held y) ∙ l.0) in
          (n.0, i.2, i.3, n.2, Runs-agree (length cs) k n.0 n.1 (held x) (held y) hx hy is none i.2 i.5, l.1, Waits-agree code (length cs) k n.0 n.1 ws roots hw hr i.3 t i.7),
      λ i.
          let k : ℕ → Tree = i.0 in
          let o = b.only k i.3 in
          let u : Tree = part_tree a (xs k) (ys k) in (
            u,
            (
              k,
              atom 0,
              i.1,
              i.2,
              o.0,
              i.4,
              ap₂ (λ w us. more (node IS (pair w u)) us) (sym o.1 ∙ read-of k v (held x) (held y)) i.5,
              i.6,
            ),
          ),
    )

    not-matched : (v : Slot) (a : Part) (z : ℤ) → ((k : ℕ → Tree) → Fits cs k → k (read v (held x) (held y)) ≡ int z → ⊥) → (gs t : Trees) → Valued (At (Match v a)) z gs t → ⊥
    not-matched v a z no_map gs t q =
        let i = q.1 in
        let k : ℕ → Tree = i.0 in
        let l = left IS (int z) q.0 (read v (xs k) (ys k)) (part_tree a (xs k) (ys k)) gs (append_trees i.2 i.3) i.6 in
        no_map k i.4 (read-of k v (held x) (held y) ∙ l.0)

    given : (ds : List Raw) (x' y' : List ℕ) (v : Slot) (a : Part) (z : ℤ) → Given cs ds x y x' y' v z
        → SameSet (Valued (At (Give v a)) z) (InCode code (st ds) (held x') (held y') is)
    given ds x' y' v a z m gs t = (
      λ q.
          let i = q.1 in
          let k : ℕ → Tree = i.0 in
          let l = left IS (int z) q.0 i.1 (part_tree a (xs k) (ys k)) gs (append_trees i.2 i.3) i.6 in
          let k' : ℕ → Tree = set k (length cs) (int z) in
          let agree : Agree (length cs) k k' = λ j b. sym (set-below k (length cs) j (int z) b) in
          let here : k' (length cs) ≡ int z = set-here k (length cs) (int z) in
          let run : Runs is none (set_x v (int z) (xs k')) (set_y v (int z) (ys k')) i.2 =
          subst (λ u. Runs is none (set_x v u (xs k')) (set_y v u (ys k')) i.2) l.0
          (subst (λ p. Runs is none (set_x v i.1 p) (set_y v i.1 (ys k')) i.2) (same-held (length cs) k k' agree (held x) hx)
          (subst (λ p. Runs is none (set_x v i.1 (xs k)) (set_y v i.1 p) i.2) (same-held (length cs) k k' agree (held y) hy) i.5))
          in (
            k',
            i.2,
            i.3,
            m.each k' (fits-agree cs k k' agree i.4) here,
            subst (λ p. Runs is none (λ w. k' (p w)) (λ w. k' (held y' w)) i.2) (sym ex)
                (subst (λ p. Runs is none (λ w. k' (set_x v (length cs) (held x) w)) (λ w. k' (p w)) i.2) (sym ey) (Runs-written is none i.2 k' v (length cs) (int z) (held x) (held y) here run)),
            l.1,
            Waits-agree code (length cs) k k' agree ws roots hw hr i.3 t i.7,
          ),
      λ i.
          let k : ℕ → Tree = i.0 in
          let o = m.only k i.3 in
          let u : Tree = part_tree a (xs k) (ys k) in
          let run : Runs is none (λ w. k (set_x v (length cs) (held x) w)) (λ w. k (set_y v (length cs) (held y) w)) i.1 =
          subst (λ p. Runs is none (λ w. k (p w)) (λ w. k (set_y v (length cs) (held y) w)) i.1) ex
          (subst (λ p. Runs is none (λ w. k (held x' w)) (λ w. k (p w)) i.1) ey i.4)
          in
          (u, (k, int z, i.1, i.2, o.0, Runs-unwritten is none i.1 k v (length cs) (int z) (held x) (held y) o.1 run, ap (more (node IS (pair (int z) u))) i.5, i.6)),
    )
      where
        ex : ◌≡◌ {A = ℕ → ℕ} (held x') (set_x v (length cs) (held x))
        ex = funext (held x') (set_x v (length cs) (held x)) m.held_x

        ey : ◌≡◌ {A = ℕ → ℕ} (held y') (set_y v (length cs) (held y))
        ey = funext (held y') (set_y v (length cs) (held y)) m.held_y

-- ---- the turn

module _ (code : Compiled) (cs : List Raw) (trail : List ℕ) (ws : List Return) (roots : List ℕ) (x y : List ℕ) (at : ℕ) (d : Direct) (store : IsStore cs trail)
    (hx : HoldPlaces (length cs) x) (hy : HoldPlaces (length cs) y) (hw : AreWithin (length cs) ws) (hr : AllByRecursion (λ r. r < length cs) roots) where
  abbrev next : List Step
  next = steps_from code d.to

  abbrev here : Goal → Trees → Trees → Type 0
  here g = At code cs ws roots x y next g

  abbrev whole : Goal → Tree
  whole g = goal_tree g (var (length cs)) (own cs x) (own cs y)

  -- what is set behind the goal
  abbrev SetBehind : List Raw → List ℕ → List ℕ → Bool → Trees → Trees → Type 0
  SetBehind ds x' y' r = SetOf code (machine ds x' y' ws roots [] (behind_direct d.to r))

  no-children : (p : Program) (s : Tracked) (ds : List Raw) (x' y' : List ℕ) → children p s ≡ [] → IsSetOf (SetBehind ds x' y' false) (children p s)
  no-children p s ds x' y' e = subst (IsSetOf (SetBehind ds x' y' false)) (sym e) (λ gs t i. i)

  module _ (p : Program) (s : Tracked) (f : Tree) (rest : List TrackedGoal) (opens : s.goals ≡ call f ∷ rest) where
    compared : (op : Op) (a b : Part) (r : Bool) → SameSet (here (Compare op a b)) (Inst s) → IsGeneralGoal (Inst s) (whole (Compare op a b))
        → compare_values op (eval (own_part cs x y a)) (eval (own_part cs x y b)) ≡ r → IsSetOf (SetBehind cs x y r) (children p s)
    compared op a b true same g e =
        IsSetOf-same (Behind (Inst s)) (SetBehind cs x y true)
        (SameSet-trans (Behind (Inst s)) (Behind (here (Compare op a b))) (SetBehind cs x y true) (Behind-same (Inst s) (here (Compare op a b)) (SameSet-sym (here (Compare op a b)) (Inst s) same)) (behind code cs ws roots x y next op a b))
        (children p s) (builtins.holds p s f rest (whole (Compare op a b)) opens g (relation-answered (compare_relation op) (own_part cs x y a) (own_part cs x y b) ∙ ap (λ c. Some (succeeds_if c)) e))
    compared op a b false same g e =
        no-children p s cs x y
        (builtins.fails p s f rest (whole (Compare op a b)) opens g (relation-answered (compare_relation op) (own_part cs x y a) (own_part cs x y b) ∙ ap (λ c. Some (succeeds_if c)) e))

    matched-behind : (v : Slot) (a : Part) (z : ℤ) (ds : List Raw) (r : Bool) → SameSet (here (Match v a)) (Inst s) → IsGeneralGoal (Inst s) (whole (Match v a))
        → eval (own_part cs x y a) ≡ Some z → Answered cs ds (λ k. k (read v (held x) (held y)) ≡ int z) r → IsSetOf (SetBehind ds x y r) (children p s)
    matched-behind v a z ds true same g e b =
        IsSetOf-same (Valued (Inst s) z) (SetBehind ds x y true)
        (SameSet-trans (Valued (Inst s) z) (Valued (here (Match v a)) z) (SetBehind ds x y true) (Valued-same (Inst s) (here (Match v a)) z (SameSet-sym (here (Match v a)) (Inst s) same)) (matched code cs ws roots x y next hx hy hw hr ds v a z b))
        (children p s) (builtins.values p s f rest (read v (own cs x) (own cs y)) (own_part cs x y a) z opens g e)
    matched-behind v a z ds false same g e b =
        no-children p s ds x y
        (no-state (Valued (Inst s) z) (children p s) (builtins.values p s f rest (read v (own cs x) (own cs y)) (own_part cs x y a) z opens g e)
        (λ gs t q. not-matched code cs ws roots x y next hx hy hw hr v a z b gs t ((Valued-same (Inst s) (here (Match v a)) z (SameSet-sym (here (Match v a)) (Inst s) same) gs t).0 q)))

    given-behind : (v : Slot) (a : Part) (z : ℤ) (ds : List Raw) (x' y' : List ℕ) → SameSet (here (Give v a)) (Inst s) → IsGeneralGoal (Inst s) (whole (Give v a))
        → eval (own_part cs x y a) ≡ Some z → Given cs ds x y x' y' v z → IsSetOf (SetBehind ds x' y' true) (children p s)
    given-behind v a z ds x' y' same g e m =
        IsSetOf-same (Valued (Inst s) z) (SetBehind ds x' y' true)
        (SameSet-trans (Valued (Inst s) z) (Valued (here (Give v a)) z) (SetBehind ds x' y' true) (Valued-same (Inst s) (here (Give v a)) z (SameSet-sym (here (Give v a)) (Inst s) same)) (given code cs ws roots x y next hx hy hw hr ds x' y' v a z m))
        (children p s) (builtins.values p s f rest (var (length cs)) (own_part cs x y a) z opens g e)

    solved-behind : (g : Goal) (ds : List Raw) (x' y' : List ℕ) (r : Bool) → SameSet (here g) (Inst s) → IsGeneralGoal (Inst s) (whole g) → SolvedOn g cs x y ds x' y' r → IsSetOf (SetBehind ds x' y' r) (children p s)
    solved-behind (Compare op a b) ds x' y' r same g h =
        subst (λ us. IsSetOf (SetBehind us x' y' r) (children p s)) (sym h.0)
        (subst (λ us. IsSetOf (SetBehind cs us y' r) (children p s)) (sym h.1.same_x)
        (subst (λ us. IsSetOf (SetBehind cs x us r) (children p s)) (sym h.1.same_y) (compared op a b r same g h.2)))
    solved-behind (Match v a) ds x' y' r same g h =
        subst (λ us. IsSetOf (SetBehind ds us y' r) (children p s)) (sym h.2.same_x)
        (subst (λ us. IsSetOf (SetBehind ds x us r) (children p s)) (sym h.2.same_y) (matched-behind v a h.0 ds r same g h.1 h.3))
    solved-behind (Give v a) ds x' y' r same g h =
        subst (λ b. IsSetOf (SetBehind ds x' y' b) (children p s)) (sym h.3) (given-behind v a h.0 ds x' y' same g h.1 h.2)

  module _ (qs : List Point) (p : Program) (good : IsProgram p) (asks : AsksFirst code at d) where
    turn : (ds : List Raw) (x' y' : List ℕ) (r : Bool) → SolvedOn d.goal cs x y ds x' y' r → (ss : List Tracked) → Holds code (machine cs x y ws roots qs (inside at)) ss
        → (ts : List Tracked) × Turned p 1 ss ts × Holds code (machine ds x' y' ws roots qs (behind_direct d.to r)) ts
    turn ds x' y' r solved ss h =
        let g : Goal = d.goal in
        let openly : IsOpen next × AsksOpenly next = asks.openly h.4 in
        let I : Trees → Trees → Type 0 = InCode code (record { cells = cs; returns = ws; roots = roots }) (held x) (held y) (steps_from code at) in
        let at_goal : IsSetOf (here g) h.0 = IsSetOf-same I (here g) (at-goal code cs ws roots x y next (steps_from code at) g asks) h.0 h.2 in
        let is_general : IsGeneralGoal (here g) (whole g) = general code cs ws roots x y next trail store hx hy g openly.0 h.5 in
        let some = is_general.0 in
        let b : Begins (here g) h.1 ss = begins (here g) h.0 h.1 ss at_goal h.3 (more (whole g) some.0, some.1, some.2) h.7 in
        let s : Tracked = b.0 in
        let m : here g (marked s.goals) s.tuple = (b.2 (marked s.goals) s.tuple).1 (instances s) in
        let us : Trees = pair (goal_left g m.1 (λ w. m.0 (held x w)) (λ w. m.0 (held y w))) (goal_right g (λ w. m.0 (held x w)) (λ w. m.0 (held y w))) in
        let f = first-call s.goals (goal_name g) us (append_trees m.2 m.3) m.6 in (
          children p s ++ h.1,
          subst (λ vs. Turned p 1 vs (children p s ++ h.1)) (sym b.1) (λ e. no-more (node (goal_name g) us) (append_trees m.2 m.3) (ap marked (sym e) ∙ m.6), refl),
          (
            children p s,
            h.1,
            solved-behind p s (node (goal_name g) us) f.0 f.1 g ds x' y' r b.2 (general-same (here g) (Inst s) (whole g) b.2 is_general) solved,
            plain-children p good s b.3,
            open-behind r openly.1,
            h.5,
            h.6,
            refl,
          ),
        )
      where
        no-more : (t : Tree) (ts : Trees) → none ≡ more t ts → ⊥
        no-more t ts e = cc

        open-behind : (r : Bool) → AsksOpenly next → IsOpenAt code (behind_direct d.to r)
        open-behind true o = o
        open-behind false o = tt

        general-same : (I J : Trees → Trees → Type 0) (g : Tree) → SameSet I J → IsGeneralGoal I g → IsGeneralGoal J g
        general-same I J g same h = ((h.0.0, h.0.1, (same (more g h.0.0) h.0.1).0 h.0.2), λ u us t j. h.1 u us t ((same (more u us) t).1 j))

pub direct-turn : DirectLaw
direct-turn code cs ds trail ws roots qs x y x' y' at d r p good asks store hx hy hw hr solved ss h =
    turn code cs trail ws roots x y at d store hx hy hw hr qs p good asks ds x' y' r solved ss h
