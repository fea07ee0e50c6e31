-- The code of a clause with groups keeps the rules of code on both ways of each check and group.
use Rattle.std.proofs.Common.{◌≡◌, ℕ, suc, ◌+◌, ◌<◌, ◌≤◌, nat_le, Bool, true, false, ◌&&◌, ◌==◌, if◌then◌else◌, is_some, List, [], ◌∷◌, ◌++◌, length, Option, Some, None, refl, ap, sym, ◌∙◌, subst, arith, append_assoc, append-nil}
use Rattle.std.specs.List.{list_all}
use Rattle.std.proofs.lemmas.Bool.{false≢true, and_parts}
use Rattle.std.proofs.lemmas.Bool.Decides.{nat_tests}
use Rattle.std.proofs.lemmas.List.{map-append}
use Rattle.ap_term.specs.declared.clauses.Check.{Check}
use Rattle.ap_term.specs.declared.clauses.Check.TheVariants.{Ground, Indep}
use Rattle.ap_term.specs.Tree.{Tree, Trees, var, int, atom, node, none, more, count_trees}
use Rattle.ap_term.specs.Vars.{has, add_vars, add_all_vars}
use Rattle.ap_term.specs.Goals.{Part, call as goal, group as parallel, Clause}
use Rattle.ap_term.specs.WellFormed.{in_range, numbered, numbered_all, callable, all_callable, numbered_check, well_formed_part, IsClause}
use Rattle.ap_term.proofs.Found.{has-added, has-kept}
use Rattle.ap_instr.specs.declared.instruction.Slot.TheVariants.{X, Y}
use Rattle.ap_instr.specs.declared.instruction.Instr.TheVariants.{GetStructure, PutStructure, PutVariable, Call, WaitAll}
use Rattle.ap_instr.specs.Step.{Step, get_variable, get_value, get_constant, get_structure, put_variable, put_value, put_constant, put_structure, unify_variable, unify_value, unify_constant, call, execute, builtin, proceed, jump, push, wait}
use Rattle.ap_instr.specs.Runs.{arguments}
use Rattle.ap_codecheck.specs.Shape.{Shape, write, behind_argument, with_group, after}
use Rattle.ap_codecheck.specs.Rules.{ArgumentsSet}
use Rattle.ap_codegen.specs.Emitted.{Lead}
use Rattle.ap_codegen.specs.Permanent.{name, is_builtin, place, inner, see, fill, fills, see_built, see_nested, build, nested, puts as put_all, goal_code, asking, gets}
use Rattle.ap_codegen.specs.Grouped.{straight, see_check, see_checks, make, make_check, make_checks, pushes, in_turn, check_step, check_leads, sides, turns, side_leads, turn_leads, ways, group_leads, is_last_part, body_leads, clause_leads}
use Rattle.ap_codegen.specs.Paces.{PacesTo, inside, StandsIn, IsOpen, IsFull, one_pushed, PacesOn, PacesLeads}
use Rattle.ap_codegen.proofs.Walking.{passed_group}
use Rattle.ap_codegen.proofs.Pacing.{Fine, Sees, slot_of, sees_more, numbered_arguments, goal_paces, gets_paces, entered}

-- ---- steps that pass over no others

-- each step may stand inside of the group, or outside of one
abbrev pub AllStand : Option (ℕ × ℕ) → List Step → Type 0
AllStand g [] = Unit {0}
AllStand g (i ∷ is) = StandsIn i g × AllStand g is

none_stand : (is : List Step) → AllStand None is
none_stand [] = tt
none_stand (i ∷ is) = (tt, none_stand is)

stand_append : (g : Option (ℕ × ℕ)) (is js : List Step) → AllStand g is → AllStand g js → AllStand g (is ++ js)
stand_append g [] js h k = k
stand_append g (i ∷ is) js h k = (h.0, stand_append g is js h.1 k)

-- none of them changes in which group they stand
pub paces_on : (i : Step) (is : List Step) (K : Shape → Type 0) (L : ℕ → Shape → Type 0) (s : Shape) → StandsIn i s.group → ((z : Shape) → z.group ≡ s.group → PacesTo K is z → L 0 z) → PacesTo K (i ∷ is) s → PacesOn i 0 L s
paces_on (get_variable v a) is K L s g f p = (g, (p.0, p.1, p.2, p.3, f (write v s) refl p.4))
paces_on (get_value v a) is K L s g f p = (g, (p.0, p.1, p.2, p.3, p.4, f s refl p.5))
paces_on (get_constant c a) is K L s g f p = (g, (p.0, p.1, p.2, f s refl p.3))
paces_on (get_structure h n a) is K L s g f p = (g, (p.0, p.1, p.2, f (after (GetStructure h n a) s) refl p.3))
paces_on (put_variable v a) is K L s g f p = (g, (p.0, p.1, p.2, f (after (PutVariable v a) s) refl p.3))
paces_on (put_value v a) is K L s g f p = (g, (p.0, p.1, p.2, p.3, f (write (X a) s) refl p.4))
paces_on (put_constant c a) is K L s g f p = (g, (p.0, p.1, f (write (X a) s) refl p.2))
paces_on (put_structure h n a) is K L s g f p = (g, (p.0, p.1, f (after (PutStructure h n a) s) refl p.2))
paces_on (unify_variable v) is K L s g f p = (g, (p.0, p.1, f (behind_argument (write v s)) (passed_group (s.pending == 1) (write v s)) p.2))
paces_on (unify_value v) is K L s g f p = (g, (p.0, p.1, p.2, f (behind_argument s) (passed_group (s.pending == 1) s) p.3))
paces_on (unify_constant c) is K L s g f p = (g, (p.0, f (behind_argument s) (passed_group (s.pending == 1) s) p.1))
paces_on (call q n) is K L s g f p = (g, (p.0, p.1, p.2, f (after (Call 0) s) refl p.3))
paces_on (builtin q n) is K L s g f p = (g, (p.0, p.1, f s refl p.2))
paces_on (execute q n) is K L s g f p = (g, (p.0, p.1, refl))
paces_on proceed is K L s g f p = (g, (p.0, refl))
paces_on _ is K L s g f p = absurd p

pub straight_led : (is : List Step) (ls : List Lead) (s : Shape) (g : Option (ℕ × ℕ)) → s.group ≡ g → AllStand g is → PacesTo (λ z. z.group ≡ g → PacesLeads 0 ls z) is s → PacesLeads 0 (straight is ++ ls) s
straight_led [] ls s g e a p = p e
straight_led (i ∷ is) ls s g e a p =
    paces_on i is (λ z. z.group ≡ g → PacesLeads 0 ls z) (λ n z. PacesLeads n (straight is ++ ls) z) s (subst (StandsIn i) (sym e) a.0) (λ z d q. straight_led is ls z g (d ∙ e) a.1 q) p

straight_append : (is js : List Step) (ls : List Lead) → straight (is ++ js) ++ ls ≡ straight is ++ (straight js ++ ls)
straight_append is js ls =
    let f : Step → Lead = λ i. (i, 0) in
    ap (λ q. q ++ ls) (map-append f is js) ∙ append_assoc (straight is) (straight js) ls

-- ---- steps that are passed over

over_leads : (js : List Lead) (k : ℕ) (ls : List Lead) (s : Shape) → PacesLeads k ls s → PacesLeads (length js + k) (js ++ ls) s
over_leads [] k ls s p = subst (λ m. PacesLeads m ls s) (let e : k ≡ 0 + k = omega arith in e) p
over_leads (j ∷ js) k ls s p = subst (λ m. PacesLeads m (j ∷ (js ++ ls)) s) (let e : suc (length js + k) ≡ length (j ∷ js) + k = omega arith in e) (over_leads js k ls s p)

over_checks : (cs : List Check) (m k : ℕ) (ls : List Lead) (s : Shape) → PacesLeads k ls s → PacesLeads (length cs + k) (check_leads cs m ++ ls) s
over_checks [] m k ls s p = subst (λ m. PacesLeads m ls s) (let e : k ≡ 0 + k = omega arith in e) p
over_checks (c ∷ cs) m k ls s p = subst (λ j. PacesLeads j (check_leads (c ∷ cs) m ++ ls) s) (let e : suc (length cs + k) ≡ length (c ∷ cs) + k = omega arith in e) (over_checks cs m k ls s p)

-- ---- a goal's arguments are put

fill_stands : (g : ℕ × ℕ) (t : Tree) (seen : List ℕ) (m : ℕ) → StandsIn (fill t seen m) (Some g)
fill_stands g (var v) seen m = go (has seen v)
  where
    go : (b : Bool) → StandsIn (if b then unify_value (Y v) else unify_variable (Y v)) (Some g)
    go true = refl
    go false = refl
fill_stands g (int z) seen m = refl
fill_stands g (atom a) seen m = refl
fill_stands g (node a us) seen m = refl

fills_stand : (g : ℕ × ℕ) (ts : Trees) (seen : List ℕ) (b m : ℕ) → AllStand (Some g) (fills ts seen b m)
fills_stand g none seen b m = tt
fills_stand g (more t ts) seen b m = (fill_stands g t seen (place (inner ts) b m), fills_stand g ts (see t seen) b m)

mutual
  build_stands : (g : ℕ × ℕ) (t : Tree) (a : ℕ) (seen : List ℕ) (b m : ℕ) → AllStand (Some g) (build t a seen b m)
  build_stands g (var v) a seen b m = go (has seen v)
    where
      go : (c : Bool) → AllStand (Some g) (if c then put_value (Y v) a ∷ [] else put_variable (Y v) a ∷ [])
      go true = (refl, tt)
      go false = (refl, tt)
  build_stands g (int z) a seen b m = (refl, tt)
  build_stands g (atom c) a seen b m = (refl, tt)
  build_stands g (node f ts) a seen b m = stand_append (Some g) (nested ts a seen b m) _ (nested_stand g ts a seen b m) (refl, fills_stand g ts (see_nested ts seen) b m)

  nested_stand : (g : ℕ × ℕ) (ts : Trees) (a : ℕ) (seen : List ℕ) (b m : ℕ) → AllStand (Some g) (nested ts a seen b m)
  nested_stand g none a seen b m = tt
  nested_stand g (more (var v) ts) a seen b m = nested_stand g ts a seen b m
  nested_stand g (more (int z) ts) a seen b m = nested_stand g ts a seen b m
  nested_stand g (more (atom c) ts) a seen b m = nested_stand g ts a seen b m
  nested_stand g (more (node f us) ts) a seen b m =
      stand_append (Some g) (nested ts a seen b m) _ (nested_stand g ts a seen b m) (build_stands g (node f us) (place (inner ts) b m) (see_nested ts seen) a (m + inner ts))

puts_stand : (g : ℕ × ℕ) (ts : Trees) (a : ℕ) (seen : List ℕ) (m : ℕ) → AllStand (Some g) (put_all ts a seen m)
puts_stand g none a seen m = tt
puts_stand g (more t ts) a seen m = stand_append (Some g) (build t a seen m (m + 1)) _ (build_stands g t a seen m (m + 1)) (puts_stand g ts (a + 1) (see_built t seen) m)

goal_stands : (g : Option (ℕ × ℕ)) (t : Tree) (seen : List ℕ) → AllStand g (goal_code t seen)
goal_stands None t seen = none_stand (goal_code t seen)
goal_stands (Some g) t seen = puts_stand g (arguments t) 1 seen (count_trees (arguments t) + 1)

-- ---- goals

module _ (n : ℕ) where
  goal_led : (g : Option (ℕ × ℕ)) (t : Tree) (seen : List ℕ) (ls : List Lead) (s : Shape) → s.group ≡ g → numbered n t ≡ true → callable t ≡ true → Fine n s → Sees seen s.y
      → ((z : Shape) → z.group ≡ g → Fine n z → Sees (add_vars t seen) z.y → ArgumentsSet (count_trees (arguments t)) z → PacesLeads 0 ls z) → PacesLeads 0 (straight (goal_code t seen) ++ ls) s
  goal_led g t seen ls s e i k f o c =
      straight_led (goal_code t seen) ls s g e (goal_stands g t seen)
      (subst (λ q. PacesTo (λ z. z.group ≡ g → PacesLeads 0 ls z) q s) (append-nil (goal_code t seen))
      (goal_paces (λ z. z.group ≡ g → PacesLeads 0 ls z) n t seen [] s i k f o (λ z fz oz az d. c z d fz oz az)))

  ask_led : (t : Tree) (ls : List Lead) (s : Shape) → s.group ≡ None → Fine n s → ArgumentsSet (count_trees (arguments t)) s → ((z : Shape) → z.group ≡ None → Fine n z → z.y ≡ s.y → PacesLeads 0 ls z) → PacesLeads 0 ((asking t, 0) ∷ ls) s
  ask_led t ls s e f a c = go (is_builtin t)
    where
      go : (b : Bool) → PacesLeads 0 (((if b then builtin (name t) (count_trees (arguments t)) else call (name t) (count_trees (arguments t))), 0) ∷ ls) s
      go true = (subst (StandsIn (builtin (name t) (count_trees (arguments t)))) (sym e) tt, (a, f.settled, c s e f refl))
      go false = (subst (StandsIn (call (name t) (count_trees (arguments t)))) (sym e) tt, (a, ap is_some f.room, f.settled, c (after (Call 0) s) e (record { settled = f.settled; room = f.room }) refl))

  -- ---- a group

  turn_led : (gs : Trees) (seen : List ℕ) (ls : List Lead) (s : Shape) → s.group ≡ None → numbered_all n gs ≡ true → all_callable gs ≡ true → Fine n s → Sees seen s.y
      → ((z : Shape) → z.group ≡ None → Fine n z → Sees (add_all_vars gs seen) z.y → PacesLeads 0 ls z) → PacesLeads 0 (straight (in_turn gs seen) ++ ls) s
  turn_led none seen ls s e i k f o c = c s e f o
  turn_led (more g gs) seen ls s e i k f o c =
      let b = and_parts (numbered n g) (numbered_all n gs) i in
      let d = and_parts (callable g) (all_callable gs) k in
      let seen1 : List ℕ = add_vars g seen in
      subst (λ q. PacesLeads 0 q s) (sym (straight_append (goal_code g seen) (asking g ∷ in_turn gs seen1) ls))
      (goal_led None g seen ((asking g, 0) ∷ (straight (in_turn gs seen1) ++ ls)) s e b.0 d.0 f o (λ z ez fz oz az.
      ask_led g (straight (in_turn gs seen1) ++ ls) z ez fz az (λ u eu fu y.
      turn_led gs seen1 ls u eu b.1 d.1 fu (subst (Sees seen1) (sym y) oz) c)))

  pushes_led : (gs : Trees) (seen : List ℕ) (ls : List Lead) (m k : ℕ) (s : Shape) → s.group ≡ Some (m, k) → k + count_trees gs ≡ m → numbered_all n gs ≡ true → all_callable gs ≡ true → Fine n s → Sees seen s.y
      → ((z : Shape) → z.group ≡ Some (m, m) → Fine n z → Sees (add_all_vars gs seen) z.y → PacesLeads 0 ls z) → PacesLeads 0 (straight (pushes gs seen) ++ ls) s
  pushes_led none seen ls m k s e q i h f o c = c s (e ∙ ap (λ k. Some (m, k)) (let d : k ≡ m = omega (arith, q) in d)) f o
  pushes_led (more g gs) seen ls m k s e q i h f o c =
      let b = and_parts (numbered n g) (numbered_all n gs) i in
      let d = and_parts (callable g) (all_callable gs) h in
      let seen1 : List ℕ = add_vars g seen in
      let size : ℕ = count_trees (arguments g) in
      let l : k + 1 ≤ m = omega (arith, q) in
      subst (λ q. PacesLeads 0 q s) (sym (straight_append (goal_code g seen) (push (name g) size ∷ pushes gs seen1) ls))
      (goal_led (Some (m, k)) g seen ((push (name g) size, 0) ∷ (straight (pushes gs seen1) ++ ls)) s e b.0 d.0 f o (λ z ez fz oz az. (
        subst IsOpen (sym ez) l,
        fz.settled,
        az,
        pushes_led gs seen1 ls m (k + 1) (with_group (one_pushed z.group) z) (ap one_pushed ez) (omega (arith, q)) b.1 d.1 (record { settled = fz.settled; room = fz.room }) oz c,
      )))

  side_led : (gs : Trees) (seen : List ℕ) (ls : List Lead) (s : Shape) → s.group ≡ None → 0 < count_trees gs → numbered_all n gs ≡ true → all_callable gs ≡ true → Fine n s → Sees seen s.y
      → ((z : Shape) → z.group ≡ None → Fine n z → Sees (add_all_vars gs seen) z.y → PacesLeads 0 ls z) → PacesLeads (length (sides gs seen) + 1) (sides gs seen ++ ls) s → PacesLeads 0 (side_leads gs seen ++ ls) s
  side_led gs seen ls s e l i k f o c p = (
    e,
    f.settled,
    l,
    subst (λ q. PacesLeads 0 q (with_group (Some (count_trees gs, 0)) s)) (sym (straight_append (pushes gs seen) (wait ∷ []) ls))
        (pushes_led gs seen ((wait, 0) ∷ ls) (count_trees gs) 0 (with_group (Some (count_trees gs, 0)) s) refl (omega arith) i k (record { settled = f.settled; room = f.room }) o (λ z ez fz oz. (
          subst IsFull (sym ez) refl,
          fz.settled,
          ap is_some fz.room,
          c (after WaitAll z) refl (record { settled = fz.settled; room = fz.room }) oz,
        ))),
    p,
  )

  -- the variables that checks name are set
  abbrev CheckSeen : Check → List ℕ → Type 0
  CheckSeen (Ground x) seen = has seen x ≡ true
  CheckSeen (Indep x y) seen = (has seen x ≡ true) × (has seen y ≡ true)

  abbrev ChecksSeen : List Check → List ℕ → Type 0
  ChecksSeen [] seen = Unit {0}
  ChecksSeen (c ∷ cs) seen = CheckSeen c seen × ChecksSeen cs seen

  check_led : (c : Check) (m : ℕ) (seen : List ℕ) (ls : List Lead) (s : Shape) → s.group ≡ None → numbered_check n c ≡ true → CheckSeen c seen → Fine n s → Sees seen s.y
      → PacesLeads 0 ls s → PacesLeads m ls s → PacesLeads 0 ((check_step c, m) ∷ ls) s
  check_led (Ground x) m seen ls s e i h f o p q = (e, f.settled, slot_of n x s i f.room, o x h, p, q)
  check_led (Indep x y) m seen ls s e i h f o p q =
      let b = and_parts (in_range n x) (in_range n y) i in
      (e, f.settled, slot_of n x s b.0 f.room, slot_of n y s b.1 f.room, o x h.0, o y h.1, p, q)

  checks_led : (cs : List Check) (m : ℕ) (seen : List ℕ) (ls : List Lead) (s : Shape) → s.group ≡ None → list_all (numbered_check n) cs ≡ true → ChecksSeen cs seen → Fine n s → Sees seen s.y
      → PacesLeads 0 ls s → PacesLeads (m + 1) ls s → PacesLeads 0 (check_leads cs m ++ ls) s
  checks_led [] m seen ls s e i h f o p q = p
  checks_led (c ∷ cs) m seen ls s e i h f o p q =
      let b = and_parts (numbered_check n c) (list_all (numbered_check n) cs) i in
      let l : length cs + (m + 1) ≡ length cs + m + 1 = omega arith in
      check_led c (length cs + m + 1) seen (check_leads cs m ++ ls) s e b.0 h.0 f o (checks_led cs m seen ls s e b.1 h.1 f o p q)
      (subst (λ k. PacesLeads k (check_leads cs m ++ ls) s) l (over_checks cs m (m + 1) ls s q))

  ways_led : (cs : List Check) (gs : Trees) (seen : List ℕ) (ls : List Lead) (s : Shape) → s.group ≡ None → list_all (numbered_check n) cs ≡ true → ChecksSeen cs seen → 0 < count_trees gs
      → numbered_all n gs ≡ true → all_callable gs ≡ true → Fine n s → Sees seen s.y → ((z : Shape) → z.group ≡ None → Fine n z → Sees (add_all_vars gs seen) z.y → PacesLeads 0 ls z) → PacesLeads 0 (ways cs gs seen ++ ls) s
  ways_led cs gs seen ls s e i h l j k f o c =
      let side : List Lead = side_leads gs seen in
      let turn : List Lead = turn_leads gs seen in
      let called : PacesLeads 0 (turns gs seen ++ ls) s = turn_led gs seen ls s e j k f o c in
      subst (λ q. PacesLeads 0 q s) (sym (append_assoc (check_leads cs (length side)) (side ++ turn) ls ∙ ap (λ q. check_leads cs (length side) ++ q) (append_assoc side turn ls)))
      (checks_led cs (length side) seen (side ++ (turn ++ ls)) s e i h f o
      (side_led gs seen (turn ++ ls) s e l j k f o (λ z ez fz oz. (
        ez,
        fz.settled,
        subst (λ m. PacesLeads m (turns gs seen ++ ls) z) (let a : length (turns gs seen) + 0 ≡ length (turns gs seen) = omega arith in a) (over_leads (turns gs seen) 0 ls z (c z ez fz oz)),
      )) (over_leads (sides gs seen) 1 (turn ++ ls) s called))
      (over_leads side 1 (turn ++ ls) s called))

  -- ---- variables that a check names

  make_led : (x : ℕ) (seen : List ℕ) (ls : List Lead) (s : Shape) → s.group ≡ None → in_range n x ≡ true → Fine n s → Sees seen s.y
      → ((z : Shape) → z.group ≡ None → Fine n z → Sees (add_vars (var x) seen) z.y → PacesLeads 0 ls z) → PacesLeads 0 (straight (make x seen) ++ ls) s
  make_led x seen ls s e i f o c = go (has seen x) c
    where
      go : (b : Bool) → ((z : Shape) → z.group ≡ None → Fine n z → Sees (if b then seen else seen ++ x ∷ []) z.y → PacesLeads 0 ls z) → PacesLeads 0 (straight (if b then [] else put_variable (Y x) 1 ∷ []) ++ ls) s
      go true c = c s e f o
      go false c = (
        subst (StandsIn (put_variable (Y x) 1)) (sym e) tt,
        (slot_of n x s i f.room, omega arith, f.settled, c (after (PutVariable (Y x) 1) s) e (record { settled = f.settled; room = f.room }) (sees_more seen s.y x o)),
      )

  make_check_led : (d : Check) (seen : List ℕ) (ls : List Lead) (s : Shape) → s.group ≡ None → numbered_check n d ≡ true → Fine n s → Sees seen s.y
      → ((z : Shape) → z.group ≡ None → Fine n z → Sees (see_check d seen) z.y → PacesLeads 0 ls z) → PacesLeads 0 (straight (make_check d seen) ++ ls) s
  make_check_led (Ground x) seen ls s e i f o c = make_led x seen ls s e i f o c
  make_check_led (Indep x y) seen ls s e i f o c =
      let b = and_parts (in_range n x) (in_range n y) i in
      subst (λ q. PacesLeads 0 q s) (sym (straight_append (make x seen) (make y (add_vars (var x) seen)) ls))
      (make_led x seen (straight (make y (add_vars (var x) seen)) ++ ls) s e b.0 f o (λ z ez fz oz.
      make_led y (add_vars (var x) seen) ls z ez b.1 fz oz c))

  makes_led : (cs : List Check) (seen : List ℕ) (ls : List Lead) (s : Shape) → s.group ≡ None → list_all (numbered_check n) cs ≡ true → Fine n s → Sees seen s.y
      → ((z : Shape) → z.group ≡ None → Fine n z → Sees (see_checks cs seen) z.y → PacesLeads 0 ls z) → PacesLeads 0 (straight (make_checks cs seen) ++ ls) s
  makes_led [] seen ls s e i f o c = c s e f o
  makes_led (d ∷ ds) seen ls s e i f o c =
      let b = and_parts (numbered_check n d) (list_all (numbered_check n) ds) i in
      subst (λ q. PacesLeads 0 q s) (sym (straight_append (make_check d seen) (make_checks ds (see_check d seen)) ls))
      (make_check_led d seen (straight (make_checks ds (see_check d seen)) ++ ls) s e b.0 f o (λ z ez fz oz.
      makes_led ds (see_check d seen) ls z ez b.1 fz oz c))

  check_grows : (d : Check) (seen : List ℕ) (w : ℕ) → has seen w ≡ true → has (see_check d seen) w ≡ true
  check_grows (Ground x) seen w h = has-kept (var x) seen w h
  check_grows (Indep x y) seen w h = has-kept (var y) (add_vars (var x) seen) w (has-kept (var x) seen w h)

  checks_grow : (cs : List Check) (seen : List ℕ) (w : ℕ) → has seen w ≡ true → has (see_checks cs seen) w ≡ true
  checks_grow [] seen w h = h
  checks_grow (d ∷ ds) seen w h = checks_grow ds (see_check d seen) w (check_grows d seen w h)

  first_seen : (d : Check) (ds : List Check) (seen : List ℕ) → CheckSeen d (see_checks ds (see_check d seen))
  first_seen (Ground x) ds seen = checks_grow ds (add_vars (var x) seen) x (has-added seen x)
  first_seen (Indep x y) ds seen =
      let seen1 : List ℕ = add_vars (var x) seen in
      let seen2 : List ℕ = add_vars (var y) seen1 in
      (checks_grow ds seen2 x (has-kept (var y) seen1 x (has-added seen x)), checks_grow ds seen2 y (has-added seen1 y))

  checks_seen : (cs : List Check) (seen : List ℕ) → ChecksSeen cs (see_checks cs seen)
  checks_seen [] seen = tt
  checks_seen (d ∷ ds) seen = (first_seen d ds seen, checks_seen ds (see_check d seen))

  group_led : (cs : List Check) (gs : Trees) (seen : List ℕ) (ls : List Lead) (s : Shape) → s.group ≡ None → list_all (numbered_check n) cs ≡ true → 0 < count_trees gs
      → numbered_all n gs ≡ true → all_callable gs ≡ true → Fine n s → Sees seen s.y
      → ((z : Shape) → z.group ≡ None → Fine n z → Sees (add_all_vars gs (see_checks cs seen)) z.y → PacesLeads 0 ls z) → PacesLeads 0 (group_leads cs gs seen ++ ls) s
  group_led cs gs seen ls s e i l j k f o c =
      let seen1 : List ℕ = see_checks cs seen in
      subst (λ q. PacesLeads 0 q s) (sym (append_assoc (straight (make_checks cs seen)) (ways cs gs seen1) ls))
      (makes_led cs seen (ways cs gs seen1 ++ ls) s e i f o (λ z ez fz oz.
      ways_led cs gs seen1 ls z ez i (checks_seen cs seen) l j k fz oz c))

  -- ---- the body

  body_led : (ps : List Part) (seen : List ℕ) (s : Shape) → list_all (well_formed_part n) ps ≡ true → s.group ≡ None → Fine n s → Sees seen s.y → PacesLeads 0 (body_leads ps seen) s
  body_led [] seen s i e f o = (subst (StandsIn proceed) (sym e) tt, (f.settled, refl))
  body_led (goal g ∷ ps) seen s i e f o =
      let b = and_parts (well_formed_part n (goal g)) (list_all (well_formed_part n) ps) i in
      let d = and_parts (callable g) (numbered n g) b.0 in
      go d.0 d.1 (λ z ez fz oz. body_led ps (add_vars g seen) z b.1 ez fz oz) (is_last_part g ps)
    where
      size : ℕ
      size = count_trees (arguments g)

      go : callable g ≡ true → numbered n g ≡ true → ((z : Shape) → z.group ≡ None → Fine n z → Sees (add_vars g seen) z.y → PacesLeads 0 (body_leads ps (add_vars g seen)) z) → (l : Bool)
          → PacesLeads 0 (if l then straight (goal_code g seen ++ execute (name g) size ∷ []) else straight (goal_code g seen ++ asking g ∷ []) ++ body_leads ps (add_vars g seen)) s
      go k j ih true =
          subst (λ q. PacesLeads 0 q s) (sym (straight_append (goal_code g seen) (execute (name g) size ∷ []) []) ∙ append-nil (straight (goal_code g seen ++ execute (name g) size ∷ [])))
          (goal_led None g seen ((execute (name g) size, 0) ∷ []) s e j k f o (λ z ez fz oz az. (subst (StandsIn (execute (name g) size)) (sym ez) tt, (az, fz.settled, refl))))
      go k j ih false =
          subst (λ q. PacesLeads 0 q s) (sym (straight_append (goal_code g seen) (asking g ∷ []) (body_leads ps (add_vars g seen))))
          (goal_led None g seen ((asking g, 0) ∷ body_leads ps (add_vars g seen)) s e j k f o (λ z ez fz oz az.
          ask_led g (body_leads ps (add_vars g seen)) z ez fz az (λ u eu fu y. ih u eu fu (subst (Sees (add_vars g seen)) (sym y) oz))))
  body_led (parallel cs gs ∷ ps) seen s i e f o =
      let b = and_parts (well_formed_part n (parallel cs gs)) (list_all (well_formed_part n) ps) i in
      let d = and_parts (list_all (numbered_check n) cs) (nat_le 1 (count_trees gs) && (all_callable gs && numbered_all n gs)) b.0 in
      let h = and_parts (nat_le 1 (count_trees gs)) (all_callable gs && numbered_all n gs) d.1 in
      let k = and_parts (all_callable gs) (numbered_all n gs) h.1 in
      let one : nat_le 1 (count_trees gs) ≡ true = h.0 in
      let l : 0 < count_trees gs = grind (arith, nat_tests) in
      let seen1 : List ℕ = add_all_vars gs (see_checks cs seen) in
      group_led cs gs seen (body_leads ps seen1) s e d.0 l k.1 k.0 f o (λ z ez fz oz. body_led ps seen1 z b.1 ez fz oz)

pub clause_led : (c : Clause) → IsClause c → PacesLeads 0 (clause_leads c) (inside c.vars (count_trees (arguments c.head)))
clause_led c i =
    let k : ℕ = count_trees (arguments c.head) in
    let n : ℕ = c.vars in
    let seen : List ℕ = add_all_vars (arguments c.head) [] in
    let head : List Step = gets (arguments c.head) 1 [] (k + 1) in
    straight_led head (body_leads c.body seen) (inside n k) None refl (none_stand head)
    (subst (λ q. PacesTo (λ z. z.group ≡ None → PacesLeads 0 (body_leads c.body seen) z) q (inside n k)) (append-nil head)
    (gets_paces (λ z. z.group ≡ None → PacesLeads 0 (body_leads c.body seen) z) n (arguments c.head) 1 [] (k + 1) [] (inside n k) (omega arith) (omega arith)
    (numbered_arguments n c.head (and_parts (callable c.head) (numbered n c.head) i.head).1) (record { settled = refl; room = refl }) (λ w o. absurd (false≢true o)) (λ w h l. entered w k h l)
    (λ z f o e. body_led n c.body seen z i.body e f o)))
