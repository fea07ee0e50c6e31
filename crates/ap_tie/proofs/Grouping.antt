-- A machine inside a group.
use Rattle.std.proofs.Common.{◌≡◌, ℕ, zero, suc, ◌+◌, ◌<◌, ◌==◌, if◌then◌else◌, Bool, true, false, List, [], ◌∷◌, ◌++◌, length, Some, pos, refl, ap, ap₂, sym, ◌∙◌, subst, arith}
use Rattle.std.specs.Prelude.{slice_get}
use Rattle.std.specs.List.{AllByRecursion}
use Rattle.std.proofs.lemmas.Bool.{false≢true, eq-eqb, ne_eqb}
use Rattle.ap_tracked.specs.Sets.{SameSet}
use Rattle.ap_term.specs.Tuples.{tuple_under}
use Rattle.ap_match.proofs.Tuples.{tuple_under-agree}
use Rattle.ap_term.proofs.TreeLists.{first-same, rest-same}
use Rattle.ap_term.specs.declared.clauses.Check.{Check}
use Rattle.ap_term.specs.declared.clauses.Check.TheVariants.{Ground, Indep}
use Rattle.ap_term.specs.Tree.{Tree, Trees, var, int, atom, node, more, count_trees, append_trees}
use Rattle.ap_term.specs.Vars.{occurs}
use Rattle.ap_term.specs.Substitution.{instance, instance_all}
use Rattle.ap_term.specs.Independence.{IsGround, SharesNoVariable, Holds}
use Rattle.ap_term.proofs.Copies.{instance_var, instance_twice}
use Rattle.ap_term.proofs.Solutions.{instance_agree}
use Rattle.ap_laws.proofs.Unifiers.{instance-at}
use Rattle.ap_cells.specs.declared.cells.Raw.{Raw}
use Rattle.ap_cells.specs.Trees.{tree_at, trees}
use Rattle.ap_tracked.specs.Tracked.{Goal, fork, Tracked}
use Rattle.ap_tracked.specs.Marks.{check_marks, ground_mark, apart_mark, group_mark, marked, opening}
use Rattle.ap_tracked.specs.Instances.{Inst}
use Rattle.ap_graft.specs.Variables.{LocalGoal}
use Rattle.ap_instr.specs.declared.instruction.Slot.{Slot}
use Rattle.ap_instr.specs.declared.instruction.Slot.TheVariants.{X, Y}
use Rattle.ap_instr.specs.declared.compiled.Predicate.{Predicate}
use Rattle.ap_instr.specs.Code.{Compiled}
use Rattle.ap_instr.specs.Step.{Step, check_ground, check_indep, group, push}
use Rattle.ap_instr.specs.Runs.{read, spread, applied, IsOpen}
use Rattle.ap_match.specs.Fits.{Agree}
use Rattle.ap_match.proofs.Maps.{fits-own}
use Rattle.ap_steps.specs.Moves.{Moves}
use Rattle.ap_steps.specs.Standing.{Return, Standing, InCode}
use Rattle.ap_standing.specs.Machine.{AreWithin}
use Rattle.ap_standing.specs.Holds.{AreOpen}
use Rattle.ap_standing.proofs.Moved.{Waits-agree, some-waits}
use Rattle.ap_group.specs.Groups.{Pushed}
use Rattle.ap_tie.specs.Forked.{goal_by, goals_under}
use Rattle.ap_group.specs.Gathers.{places_from}
use Rattle.ap_tie.specs.Grouping.{MarksLeft, NoMarkLeft, MarkLaw, Pushing, AreInside, PushLaw}
use Rattle.ap_tie.proofs.Rejoined.{opened-marks}

-- ---- trees that are instances of one another

still : (f : ℕ → Tree) (t : Tree) → IsGround t → instance f t ≡ t
still f t h = instance_agree f (λ x. var x) t (λ y o. absurd (false≢true (sym (h y) ∙ o))) ∙ instance_var t

abbrev other : ℕ → ℕ → Tree
other w y = if y == w then atom 0 else var y

-- a variable of what stands for a tree's variable stands in the instance
occurs-instance : (f : ℕ → Tree) (t : Tree) (x w : ℕ) → occurs x t ≡ true → f x ≡ var w → occurs w (instance f t) ≡ true
occurs-instance f t x w h e = go (occurs w (instance f t)) refl
  where
    go : (b : Bool) → occurs w (instance f t) ≡ b → occurs w (instance f t) ≡ true
    go true k = k
    go false k =
        let stays : instance (other w) (instance f t) ≡ instance f t =
        instance_agree (other w) (λ y. var y) (instance f t) (λ y o. ap (λ b. if b then atom 0 else var y) (ne_eqb y w (λ (q : y ≡ w). absurd (false≢true (sym k ∙ ap (λ z. occurs z (instance f t)) (sym q) ∙ o))))) ∙ instance_var (instance f t) in
        let at : instance (other w) (f x) ≡ f x = instance-at (λ z. instance (other w) (f z)) f t (sym (instance_twice f (other w) t) ∙ stays) x h in
        let same : atom 0 ≡ var w = ap (λ b. if b then atom 0 else var w) (sym (eq-eqb w w refl)) ∙ ap (instance (other w)) (sym e) ∙ at ∙ e in
        absurd (cc)

variable-of : (g : ℕ → Tree) (t : Tree) (x : ℕ) → instance g t ≡ var x → (w : ℕ) × (t ≡ var w)
variable-of g (var w) x e = (w, refl)
variable-of g (int z) x e = absurd (cc)
variable-of g (atom a) x e = absurd (cc)
variable-of g (node a ts) x e = absurd (cc)

apart : (f g : ℕ → Tree) (a b c d : Tree) → a ≡ instance g c → b ≡ instance g d → c ≡ instance f a → d ≡ instance f b → SharesNoVariable c d → SharesNoVariable a b
apart f g a b c d ag bg cf df h x i = go (occurs x b) refl
  where
    go : (y : Bool) → occurs x b ≡ y → occurs x b ≡ false
    go false k = k
    go true k =
        let back : instance (λ z. instance g (f z)) a ≡ instance (λ z. var z) a = sym (instance_twice f g a) ∙ ap (instance g) (sym cf) ∙ sym ag ∙ sym (instance_var a) in
        let w = variable-of g (f x) x (instance-at (λ z. instance g (f z)) (λ z. var z) a back x i) in
        let left : occurs w.0 c ≡ true = ap (occurs w.0) cf ∙ occurs-instance f a x w.0 i w.1 in
        let right : occurs w.0 d ≡ true = ap (occurs w.0) df ∙ occurs-instance f b x w.0 k w.1 in
        absurd (false≢true (sym (h w.0 left) ∙ right))

-- ---- marks

abbrev number-of : Tree → ℕ
number-of (int (pos n)) = n
number-of _ = 0

no-mark : (n m : ℕ) (ts us : Trees) → more (int (pos n)) ts ≡ more (int (pos m)) us → n ≡ m
no-mark n m ts us e = ap number-of (first-same e)

read-under : (v : Slot) (x y : ℕ → ℕ) (k : ℕ → Tree) → read v (λ w. k (x w)) (λ w. k (y w)) ≡ k (read v x y)
read-under (X n) x y k = refl
read-under (Y n) x y k = refl

abbrev Marks : List Check → Trees → (ℕ → Tree) → List Goal → Trees
Marks cs ts own gs = check_marks own cs (more (group_mark (count_trees ts)) (append_trees (instance_all own ts) (marked gs)))

-- the state's own instance
itself : (u : Tracked) (cs : List Check) (ts : Trees) (own : ℕ → Tree) (gs : List Goal) → MarksLeft u cs ts own gs (instance_all var (Marks cs ts own gs)) (instance_all var u.tuple)
itself u cs ts own gs = (var, refl, refl)

all : (u : Tracked) (cs : List Check) (ts : Trees) (own : ℕ → Tree) (now : List Check) (gs : List Goal) → u.goals ≡ fork cs ts own now ∷ gs → SameSet (Inst u) (MarksLeft u cs ts own gs)
all u cs ts own now gs e hs t = ((λ i. (i.0, i.1 ∙ ap (λ z. instance_all i.0 (marked z)) e, i.2)), (λ i. (i.0, i.1 ∙ ap (λ z. instance_all i.0 (marked z)) (sym e), i.2)))

module _ (code : Compiled) (s : Standing) (x y : ℕ → ℕ) (u : Tracked) (ts : Trees) (own : ℕ → Tree) (gs : List Goal) where
  abbrev Ground-law : Slot → List Step → List Check → Type 0
  Ground-law v is cs = (z : ℕ) × (ds : List Check) × (cs ≡ Ground z ∷ ds) × Holds own (Ground z) × SameSet (InCode code s x y is) (MarksLeft u ds ts own gs)

  ground-first : (v : Slot) (is : List Step) (cs : List Check) → SameSet (InCode code s x y (check_ground v ∷ is)) (MarksLeft u cs ts own gs) → read v x y < length s.cells → IsGround (tree_at (trees s.cells) (read v x y)) → Ground-law v is cs
  ground-first v is cs same l h = go cs same ((same (instance_all var (Marks cs ts own gs)) (instance_all var u.tuple)).1 (itself u cs ts own gs))
    where
      go : (cs : List Check) → SameSet (InCode code s x y (check_ground v ∷ is)) (MarksLeft u cs ts own gs) → InCode code s x y (check_ground v ∷ is) (instance_all var (Marks cs ts own gs)) (instance_all var u.tuple) → Ground-law v is cs
      go [] same (k, bs, qs, fits, (rs, e, r), eq, w) = let n : count_trees ts + 2 ≡ 0 = no-mark (count_trees ts + 2) 0 _ _ (eq ∙ ap (λ b. append_trees b qs) e) in absurd (omega (arith, n))
      go (Indep a b ∷ ds) same (k, bs, qs, fits, (rs, e, r), eq, w) = let n : 1 ≡ 0 = no-mark 1 0 _ _ (eq ∙ ap (λ b. append_trees b qs) e) in absurd (omega (arith, n))
      go (Ground z ∷ ds) same (k, bs, qs, fits, (rs, e, r), eq, w) =
          let value : instance var (own z) ≡ read v (λ i. k (x i)) (λ i. k (y i)) = first-same (rest-same (eq ∙ ap (λ b. append_trees b qs) e)) in
          let own_is : own z ≡ tree_at (trees s.cells) (read v x y) = sym (instance_var (own z)) ∙ value ∙ read-under v x y k ∙ fits.1 (read v x y) l ∙ still fits.0 (tree_at (trees s.cells) (read v x y)) h in
          (z, ds, refl, subst IsGround (sym own_is) h, (λ hs t. (forth hs t, back hs t)))
        where
          forth : (hs t : Trees) → InCode code s x y is hs t → MarksLeft u ds ts own gs hs t
          forth hs t (k, bs, qs, fits, r, eq, w) =
              let value = read v (λ i. k (x i)) (λ i. k (y i)) in
              let m = (same (more ground_mark (more value hs)) t).0 (k, more ground_mark (more value bs), qs, fits, (bs, refl, r), ap (λ q. more ground_mark (more value q)) eq, w) in
              (m.0, rest-same (rest-same m.1), m.2)

          back : (hs t : Trees) → MarksLeft u ds ts own gs hs t → InCode code s x y is hs t
          back hs t (f, e1, e2) = turn ((same (more ground_mark (more (instance f (own z)) hs)) t).1 (f, ap (λ q. more ground_mark (more (instance f (own z)) q)) e1, e2))
            where
              turn : InCode code s x y (check_ground v ∷ is) (more ground_mark (more (instance f (own z)) hs)) t → InCode code s x y is hs t
              turn (k, bs, qs, fits, (rs, e, r), eq, w) = (k, rs, qs, fits, r, rest-same (rest-same (eq ∙ ap (λ b. append_trees b qs) e)), w)

  abbrev Indep-law : Slot → Slot → List Step → List Check → Type 0
  Indep-law v w is cs = (a b : ℕ) × (ds : List Check) × (cs ≡ Indep a b ∷ ds) × Holds own (Indep a b) × SameSet (InCode code s x y is) (MarksLeft u ds ts own gs)

  indep-first : (v w : Slot) (is : List Step) (cs : List Check) → IsOpen is → AreOpen code s.returns → SameSet (InCode code s x y (check_indep v w ∷ is)) (MarksLeft u cs ts own gs) → read v x y < length s.cells → read w x y < length s.cells
      → SharesNoVariable (tree_at (trees s.cells) (read v x y)) (tree_at (trees s.cells) (read w x y)) → Indep-law v w is cs
  indep-first v w is cs is_open opens same lv lw h = go cs same ((same (instance_all var (Marks cs ts own gs)) (instance_all var u.tuple)).1 (itself u cs ts own gs))
    where
      go : (cs : List Check) → SameSet (InCode code s x y (check_indep v w ∷ is)) (MarksLeft u cs ts own gs) → InCode code s x y (check_indep v w ∷ is) (instance_all var (Marks cs ts own gs)) (instance_all var u.tuple) → Indep-law v w is cs
      go [] same (k, bs, qs, fits, (rs, e, r), eq, wt) = let n : count_trees ts + 2 ≡ 1 = no-mark (count_trees ts + 2) 1 _ _ (eq ∙ ap (λ b. append_trees b qs) e) in absurd (omega (arith, n))
      go (Ground z ∷ ds) same (k, bs, qs, fits, (rs, e, r), eq, wt) = let n : 0 ≡ 1 = no-mark 0 1 _ _ (eq ∙ ap (λ b. append_trees b qs) e) in absurd (omega (arith, n))
      go (Indep a b ∷ ds) same (k, bs, qs, fits, (rs, e, r), eq, wt) =
          let values = rest-same (eq ∙ ap (λ b. append_trees b qs) e) in
          let left : own a ≡ instance fits.0 (tree_at (trees s.cells) (read v x y)) = sym (instance_var (own a)) ∙ first-same values ∙ read-under v x y k ∙ fits.1 (read v x y) lv in
          let right : own b ≡ instance fits.0 (tree_at (trees s.cells) (read w x y)) = sym (instance_var (own b)) ∙ first-same (rest-same values) ∙ read-under w x y k ∙ fits.1 (read w x y) lw in
          (a, b, ds, refl, apart cells_map.0 fits.0 (own a) (own b) (tree_at (trees s.cells) (read v x y)) (tree_at (trees s.cells) (read w x y)) left right cells_map.1 cells_map.2 h, (λ hs t. (forth hs t, back hs t)))
        where
          -- the cells' own trees are instances of what the check is asked of
          cells_map : (f : ℕ → Tree) × (tree_at (trees s.cells) (read v x y) ≡ instance f (own a)) × (tree_at (trees s.cells) (read w x y) ≡ instance f (own b))
          cells_map =
              let k : ℕ → Tree = λ i. tree_at (trees s.cells) i in
              let o = is_open (λ i. k (x i)) (λ i. k (y i)) in
              let q = some-waits code k s.returns s.roots opens in
              let vv = read v (λ i. k (x i)) (λ i. k (y i)) in
              let ww = read w (λ i. k (x i)) (λ i. k (y i)) in
              let m = (same (more apart_mark (more vv (more ww (append_trees o.0 q.0)))) q.1).0 (k, more apart_mark (more vv (more ww o.0)), q.0, fits-own s.cells, (o.0, refl, o.1), refl, q.2) in
              (m.0, sym (read-under v x y k) ∙ first-same (rest-same m.1), sym (read-under w x y k) ∙ first-same (rest-same (rest-same m.1)))

          forth : (hs t : Trees) → InCode code s x y is hs t → MarksLeft u ds ts own gs hs t
          forth hs t (k, bs, qs, fits, r, eq, wt) =
              let vv = read v (λ i. k (x i)) (λ i. k (y i)) in
              let ww = read w (λ i. k (x i)) (λ i. k (y i)) in
              let m = (same (more apart_mark (more vv (more ww hs))) t).0 (k, more apart_mark (more vv (more ww bs)), qs, fits, (bs, refl, r), ap (λ q. more apart_mark (more vv (more ww q))) eq, wt) in
              (m.0, rest-same (rest-same (rest-same m.1)), m.2)

          back : (hs t : Trees) → MarksLeft u ds ts own gs hs t → InCode code s x y is hs t
          back hs t (f, e1, e2) = turn ((same (more apart_mark (more (instance f (own a)) (more (instance f (own b)) hs))) t).1 (f, ap (λ q. more apart_mark (more (instance f (own a)) (more (instance f (own b)) q))) e1, e2))
            where
              turn : InCode code s x y (check_indep v w ∷ is) (more apart_mark (more (instance f (own a)) (more (instance f (own b)) hs))) t → InCode code s x y is hs t
              turn (k, bs, qs, fits, (rs, e, r), eq, wt) = (k, rs, qs, fits, r, rest-same (rest-same (rest-same (eq ∙ ap (λ b. append_trees b qs) e))), wt)

  last-mark : (n : ℕ) (is : List Step) (cs : List Check) → SameSet (InCode code s x y (group n ∷ is)) (MarksLeft u cs ts own gs) → (cs ≡ []) × SameSet (InCode code s x y is) (NoMarkLeft u ts own gs)
  last-mark n is cs same = go cs same ((same (instance_all var (Marks cs ts own gs)) (instance_all var u.tuple)).1 (itself u cs ts own gs))
    where
      go : (cs : List Check) → SameSet (InCode code s x y (group n ∷ is)) (MarksLeft u cs ts own gs) → InCode code s x y (group n ∷ is) (instance_all var (Marks cs ts own gs)) (instance_all var u.tuple) → (cs ≡ []) × SameSet (InCode code s x y is) (NoMarkLeft u ts own gs)
      go (Ground z ∷ ds) same (k, bs, qs, fits, (rs, e, r), eq, w) = let m : 0 ≡ n + 2 = no-mark 0 (n + 2) _ _ (eq ∙ ap (λ b. append_trees b qs) e) in absurd (omega (arith, m))
      go (Indep a b ∷ ds) same (k, bs, qs, fits, (rs, e, r), eq, w) = let m : 1 ≡ n + 2 = no-mark 1 (n + 2) _ _ (eq ∙ ap (λ b. append_trees b qs) e) in absurd (omega (arith, m))
      go [] same (k, bs, qs, fits, (rs, e, r), eq, w) = (refl, (λ hs t. (forth hs t, back hs t)))
        where
          count : n ≡ count_trees ts
          count = let m : count_trees ts + 2 ≡ n + 2 = no-mark (count_trees ts + 2) (n + 2) _ _ (eq ∙ ap (λ b. append_trees b qs) e) in omega (arith, m)

          forth : (hs t : Trees) → InCode code s x y is hs t → NoMarkLeft u ts own gs hs t
          forth hs t (k, bs, qs, fits, r, eq, w) =
              let m = (same (more (group_mark n) hs) t).0 (k, more (group_mark n) bs, qs, fits, (bs, refl, r), ap (more (group_mark n)) eq, w) in
              (m.0, rest-same m.1, m.2)

          back : (hs t : Trees) → NoMarkLeft u ts own gs hs t → InCode code s x y is hs t
          back hs t (f, e1, e2) = turn ((same (more (group_mark (count_trees ts)) hs) t).1 (f, ap (more (group_mark (count_trees ts))) e1, e2))
            where
              turn : InCode code s x y (group n ∷ is) (more (group_mark (count_trees ts)) hs) t → InCode code s x y is hs t
              turn (k, bs, qs, fits, (rs, e, r), eq, w) = (k, rs, qs, fits, r, rest-same (eq ∙ ap (λ b. append_trees b qs) e), w)

opened : (u : Tracked) (cs : List Check) (ts : Trees) (own : ℕ → Tree) (now : List Check) (gs : List Goal) → u.goals ≡ fork cs ts own now ∷ gs → LocalGoal (λ v. v < u.next) (fork cs ts own now) → SameSet (NoMarkLeft u ts own gs) (Inst (opening u))
opened u cs ts own now gs e h hs t =
    let marks_are : marked (opening u).goals ≡ append_trees (instance_all own ts) (marked gs) = ap (λ z. marked (opening (record u { goals = z })).goals) e ∙ opened-marks (λ v. v < u.next) cs ts own now gs h in
    ((λ i. (i.0, i.1 ∙ ap (instance_all i.0) (sym marks_are), i.2)), (λ i. (i.0, i.1 ∙ ap (instance_all i.0) marks_are, i.2)))

pub marking : MarkLaw
marking = record {
  all = all;
  ground = λ code s x y v is u cs ts own gs. ground-first code s x y u ts own gs v is cs;
  indep = λ code s x y v w is u cs ts own gs. indep-first code s x y u ts own gs v w is cs;
  last = λ code s x y n is u cs ts own gs. last-mark code s x y u ts own gs n is cs;
  opened = opened;
}

-- ---- pushes

tuple-spread : (k : ℕ → Tree) (x : ℕ → ℕ) (a n : ℕ) → tuple_under k (places_from x a n) ≡ spread (λ w. k (x w)) a n
tuple-spread k x a zero = refl
tuple-spread k x a (suc n) = ap (more (k (x a))) (tuple-spread k x (a + 1) n)

goals-more : (code : Compiled) (k : ℕ → Tree) (ps : List Pushed) (p : Pushed) (ts : Trees) → append_trees (goals_under code k (ps ++ p ∷ [])) ts ≡ append_trees (goals_under code k ps) (more (goal_by (slice_get code.predicates p.predicate) (tuple_under k p.arguments)) ts)
goals-more code k [] p ts = refl
goals-more code k (q ∷ ps) p ts = ap (more (goal_by (slice_get code.predicates q.predicate) (tuple_under k q.arguments))) (goals-more code k ps p ts)

goals-agree : (code : Compiled) (n : ℕ) (k l : ℕ → Tree) → Agree n k l → (ps : List Pushed) → AreInside n ps → goals_under code k ps ≡ goals_under code l ps
goals-agree code n k l a [] h = refl
goals-agree code n k l a (p ∷ ps) h =
    ap (λ t. more (goal_by (slice_get code.predicates p.predicate) t) (goals_under code k ps)) (tuple_under-agree n k l a p.arguments h.0)
    ∙ ap (more (goal_by (slice_get code.predicates p.predicate) (tuple_under l p.arguments))) (goals-agree code n k l a ps h.1)

module _ (code : Compiled) (s : Standing) (x y : ℕ → ℕ) (p n number : ℕ) (q : Predicate) (is : List Step) (ps : List Pushed) (known : slice_get code.predicates number ≡ Some q) (named : q.name ≡ p) where
  abbrev next : Pushed
  next = record { predicate = number; arguments = places_from x 1 n }

  goal_is : (k : ℕ → Tree) → goal_by (slice_get code.predicates number) (tuple_under k (places_from x 1 n)) ≡ applied p (spread (λ w. k (x w)) 1 n)
  goal_is k = ap (λ o. goal_by o (tuple_under k (places_from x 1 n))) known ∙ ap₂ applied named (tuple-spread k x 1 n)

  push-forth : (gs t : Trees) → Pushing code s x y (push p n ∷ is) ps gs t → Pushing code s x y is (ps ++ next ∷ []) gs t
  push-forth gs t (k, bs, qs, fits, (cs, e, r), eq, w) =
      (k, cs, qs, fits, r, eq ∙ ap (λ b. append_trees (goals_under code k ps) (append_trees b qs)) e ∙ ap (λ g. append_trees (goals_under code k ps) (more g (append_trees cs qs))) (sym (goal_is k)) ∙ sym (goals-more code k ps next (append_trees cs qs)), w)

  push-back : (gs t : Trees) → Pushing code s x y is (ps ++ next ∷ []) gs t → Pushing code s x y (push p n ∷ is) ps gs t
  push-back gs t (k, bs, qs, fits, r, eq, w) =
      (k, more (applied p (spread (λ w. k (x w)) 1 n)) bs, qs, fits, (bs, refl, r), eq ∙ goals-more code k ps next (append_trees bs qs) ∙ ap (λ g. append_trees (goals_under code k ps) (more g (append_trees bs qs))) (goal_is k), w)

moves : (code : Compiled) (cs ds : List Raw) (ws : List Return) (roots : List ℕ) (x y x' y' : ℕ → ℕ) (js is : List Step) (ps : List Pushed) → Moves cs x y js ds x' y' is → AreWithin (length cs) ws → AllByRecursion (λ r. r < length cs) roots → AreInside (length cs) ps
    → SameSet (Pushing code (record { cells = ds; returns = ws; roots = roots }) x' y' is ps) (Pushing code (record { cells = cs; returns = ws; roots = roots }) x y js ps)
moves code cs ds ws roots x y x' y' js is ps m hw hr hp gs t = (
  λ h.
      let b = m.back h.0 h.1 (h.3, h.4) in
      (h.0, h.1, h.2, b.0, b.1, h.5, h.6),
  λ h.
      let f = m.forth h.0 h.1 (h.3, h.4) in
      (f.0, h.1, h.2, f.2.0, f.2.1, h.5 ∙ ap (λ a. append_trees a (append_trees h.1 h.2)) (goals-agree code (length cs) h.0 f.0 f.1 ps hp), Waits-agree code (length cs) h.0 f.0 f.1 ws roots hw hr h.2 t h.6),
)

pub pushing : PushLaw
pushing = record {
  begins = λ code s x y is gs t. ((λ h. h), (λ h. h));
  pushed = λ code s x y p n number q is ps known named gs t. (push-forth code s x y p n number q is ps known named gs t, push-back code s x y p n number q is ps known named gs t);
  moved = moves;
  ends = λ code s x w ps gs t. (
    (λ h. (h.0, append_trees h.1 h.2, h.3, (h.1, h.2, h.4, refl, h.6), h.5)),
    (λ h. (h.0, h.3.0, h.3.1, h.2, h.3.2, h.4 ∙ ap (append_trees (goals_under code h.0 ps)) h.3.3, h.3.4)),
  );
}
