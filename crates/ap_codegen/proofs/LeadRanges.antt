-- The operands of a clause's code with groups are in range, also of steps that no path comes to.
use Rattle.std.proofs.Common.{◌≡◌, ℕ, ◌+◌, ◌<◌, nat_le, Bool, true, false, ◌&&◌, if◌then◌else◌, List, [], ◌∷◌, ◌++◌, length, ◌⊎◌, inl, inr, Some, None, refl, sym, subst, arith, append-nil}
use Rattle.std.specs.List.{list_all}
use Rattle.std.proofs.lemmas.Bool.{false≢true, and_parts}
use Rattle.std.proofs.lemmas.Bool.Decides.{nat_tests}
use Rattle.std.proofs.lemmas.List.{map-append}
use Rattle.ap_term.specs.declared.clauses.Check.{Check}
use Rattle.ap_term.specs.declared.clauses.Check.TheVariants.{Ground, Indep}
use Rattle.ap_term.specs.Tree.{Tree, Trees, var, none, more, count_trees}
use Rattle.ap_term.specs.Vars.{has, add_vars, add_all_vars}
use Rattle.ap_term.specs.Goals.{Part, call as goal, group as parallel, Clause}
use Rattle.ap_term.specs.WellFormed.{in_range, numbered, numbered_all, callable, all_callable, numbered_check, well_formed_part, IsClause}
use Rattle.ap_instr.specs.declared.instruction.Slot.TheVariants.{X, Y}
use Rattle.ap_instr.specs.declared.instruction.Instr.TheVariants.{GetStructure, PutStructure, PutVariable, Call}
use Rattle.ap_instr.specs.Step.{Step, get_variable, get_value, get_constant, get_structure, put_variable, put_value, put_constant, put_structure, unify_variable, unify_value, unify_constant, call, execute, builtin, proceed}
use Rattle.ap_instr.specs.Runs.{arguments}
use Rattle.ap_codecheck.specs.Shape.{Shape, unset, write, behind_argument, after}
use Rattle.ap_codegen.specs.Emitted.{Lead}
use Rattle.ap_codegen.specs.Temporary.{ends}
use Rattle.ap_codegen.specs.Permanent.{name, is_builtin, goal_code, asking, gets}
use Rattle.ap_codegen.specs.Grouped.{straight, see_check, see_checks, make, make_check, make_checks, pushes, in_turn, check_leads, side_leads, ways, is_last_part, body_leads, clause_leads}
use Rattle.ap_codegen.specs.Paces.{PacesTo, inside, IsInRange, AreInRange}
use Rattle.ap_codegen.proofs.Pacing.{slot_of, numbered_arguments, goal_paces, gets_paces, entered}
use Rattle.ap_codegen.proofs.Walking.{from_one}

-- ---- steps that keep the rules of code

-- a step has its operands in range, and ends the steps or is followed by others that keep the rules
pub record Paced (K : Shape → Type 0) (i : Step) (is : List Step) : Type 0 where
  pub range : IsInRange i
  pub next : ((ends i ≡ true) × (is ≡ [])) ⊎ ((ends i ≡ false) × (z : Shape) × PacesTo K is z)

pub one_paced : (K : Shape → Type 0) (i : Step) (is : List Step) (s : Shape) → PacesTo K (i ∷ is) s → Paced K i is
one_paced K (get_variable v a) is s p = record { range = (from_one v s p.0, p.1); next = inr (refl, write v s, p.4) }
one_paced K (get_value v a) is s p = record { range = (from_one v s p.0, p.1); next = inr (refl, s, p.5) }
one_paced K (get_constant c a) is s p = record { range = p.0; next = inr (refl, s, p.3) }
one_paced K (get_structure h n a) is s p = record { range = p.0; next = inr (refl, after (GetStructure h n a) s, p.3) }
one_paced K (put_variable v a) is s p = record { range = (from_one v s p.0, p.1); next = inr (refl, after (PutVariable v a) s, p.3) }
one_paced K (put_value v a) is s p = record { range = (from_one v s p.0, p.1); next = inr (refl, write (X a) s, p.4) }
one_paced K (put_constant c a) is s p = record { range = p.0; next = inr (refl, write (X a) s, p.2) }
one_paced K (put_structure h n a) is s p = record { range = p.0; next = inr (refl, after (PutStructure h n a) s, p.2) }
one_paced K (unify_variable v) is s p = record { range = from_one v s p.0; next = inr (refl, behind_argument (write v s), p.2) }
one_paced K (unify_value v) is s p = record { range = from_one v s p.0; next = inr (refl, behind_argument s, p.3) }
one_paced K (unify_constant c) is s p = record { range = tt; next = inr (refl, behind_argument s, p.1) }
one_paced K (call q n) is s p = record { range = tt; next = inr (refl, after (Call 0) s, p.3) }
one_paced K (builtin q n) is s p = record { range = tt; next = inr (refl, s, p.2) }
one_paced K (execute q n) is s p = record { range = tt; next = inl (refl, p.2) }
one_paced K proceed is s p = record { range = tt; next = inl (refl, p.1) }
one_paced K _ is s p = absurd p

range_append : (ls ms : List Lead) → AreInRange ls → AreInRange ms → AreInRange (ls ++ ms)
range_append [] ms h k = k
range_append (l ∷ ls) ms h k = (h.0, range_append ls ms h.1 k)

joined : (is js : List Step) → AreInRange (straight is) → AreInRange (straight js) → AreInRange (straight (is ++ js))
joined is js h k = let f : Step → Lead = λ i. (i, 0) in subst AreInRange (sym (map-append f is js)) (range_append (straight is) (straight js) h k)

paced_range : (K : Shape → Type 0) (is : List Step) (s : Shape) → PacesTo K is s → AreInRange (straight is)
paced_range K [] s p = tt
paced_range K (i ∷ is) s p = let d = one_paced K i is s p in (d.range, elim d.next as (λ _. AreInRange (straight is)) [ inl e ↦ subst (λ is. AreInRange (straight is)) (sym e.1) tt | inr e ↦ paced_range K is e.1 e.2 ])

-- ---- code of a clause

module _ (n : ℕ) where
  -- all variables are set
  abbrev ready : Shape
  ready = record { x = unset; y = λ v. true; room = Some n; pending = 0; target = None; group = None }

  goal_range : (t : Tree) (seen : List ℕ) → numbered n t ≡ true → callable t ≡ true → AreInRange (straight (goal_code t seen))
  goal_range t seen i k =
      paced_range (λ z. Unit {0}) (goal_code t seen) ready
      (subst (λ q. PacesTo (λ z. Unit {0}) q ready) (append-nil (goal_code t seen)) (goal_paces (λ z. Unit {0}) n t seen [] ready i k (record { settled = refl; room = refl }) (λ w h. refl) (λ z f o a. tt)))

  ask_range : (t : Tree) → IsInRange (asking t)
  ask_range t = go (is_builtin t)
    where
      go : (b : Bool) → IsInRange (if b then builtin (name t) (count_trees (arguments t)) else call (name t) (count_trees (arguments t)))
      go true = tt
      go false = tt

  turn_range : (gs : Trees) (seen : List ℕ) → numbered_all n gs ≡ true → all_callable gs ≡ true → AreInRange (straight (in_turn gs seen))
  turn_range none seen i k = tt
  turn_range (more g gs) seen i k =
      let b = and_parts (numbered n g) (numbered_all n gs) i in
      let d = and_parts (callable g) (all_callable gs) k in
      joined (goal_code g seen) (asking g ∷ in_turn gs (add_vars g seen)) (goal_range g seen b.0 d.0) (ask_range g, turn_range gs (add_vars g seen) b.1 d.1)

  pushes_range : (gs : Trees) (seen : List ℕ) → numbered_all n gs ≡ true → all_callable gs ≡ true → AreInRange (straight (pushes gs seen))
  pushes_range none seen i k = tt
  pushes_range (more g gs) seen i k =
      let b = and_parts (numbered n g) (numbered_all n gs) i in
      let d = and_parts (callable g) (all_callable gs) k in
      joined (goal_code g seen) _ (goal_range g seen b.0 d.0) (tt, pushes_range gs (add_vars g seen) b.1 d.1)

  side_range : (gs : Trees) (seen : List ℕ) → 0 < count_trees gs → numbered_all n gs ≡ true → all_callable gs ≡ true → AreInRange (side_leads gs seen)
  side_range gs seen l i k = (l, joined (pushes gs seen) _ (pushes_range gs seen i k) (tt, tt))

  one : (x : ℕ) → in_range n x ≡ true → 0 < x
  one x i = (slot_of n x ready i refl).0

  checks_range : (cs : List Check) (m : ℕ) → list_all (numbered_check n) cs ≡ true → AreInRange (check_leads cs m)
  checks_range [] m i = tt
  checks_range (Ground x ∷ cs) m i = let b = and_parts (numbered_check n (Ground x)) (list_all (numbered_check n) cs) i in (one x b.0, checks_range cs m b.1)
  checks_range (Indep x y ∷ cs) m i =
      let b = and_parts (numbered_check n (Indep x y)) (list_all (numbered_check n) cs) i in
      let d = and_parts (in_range n x) (in_range n y) b.0 in
      ((one x d.0, one y d.1), checks_range cs m b.1)

  make_range : (x : ℕ) (seen : List ℕ) → in_range n x ≡ true → AreInRange (straight (make x seen))
  make_range x seen i = go (has seen x)
    where
      go : (b : Bool) → AreInRange (straight (if b then [] else put_variable (Y x) 1 ∷ []))
      go true = tt
      go false = ((one x i, omega arith), tt)

  makes_range : (cs : List Check) (seen : List ℕ) → list_all (numbered_check n) cs ≡ true → AreInRange (straight (make_checks cs seen))
  makes_range [] seen i = tt
  makes_range (c ∷ cs) seen i =
      let b = and_parts (numbered_check n c) (list_all (numbered_check n) cs) i in
      joined (make_check c seen) (make_checks cs (see_check c seen)) (first c b.0) (makes_range cs (see_check c seen) b.1)
    where
      first : (c : Check) → numbered_check n c ≡ true → AreInRange (straight (make_check c seen))
      first (Ground x) i = make_range x seen i
      first (Indep x y) i =
          let d = and_parts (in_range n x) (in_range n y) i in
          joined (make x seen) (make y (add_vars (var x) seen)) (make_range x seen d.0) (make_range y (add_vars (var x) seen) d.1)

  ways_range : (cs : List Check) (gs : Trees) (seen : List ℕ) → list_all (numbered_check n) cs ≡ true → 0 < count_trees gs → numbered_all n gs ≡ true → all_callable gs ≡ true → AreInRange (ways cs gs seen)
  ways_range cs gs seen i l j k =
      range_append (check_leads cs (length (side_leads gs seen))) _ (checks_range cs (length (side_leads gs seen)) i)
      (range_append (side_leads gs seen) _ (side_range gs seen l j k) (tt, turn_range gs seen j k))

  body_range : (ps : List Part) (seen : List ℕ) → list_all (well_formed_part n) ps ≡ true → AreInRange (body_leads ps seen)
  body_range [] seen i = (tt, tt)
  body_range (goal g ∷ ps) seen i =
      let b = and_parts (well_formed_part n (goal g)) (list_all (well_formed_part n) ps) i in
      let d = and_parts (callable g) (numbered n g) b.0 in
      go (goal_range g seen d.1 d.0) (body_range ps (add_vars g seen) b.1) (is_last_part g ps)
    where
      size : ℕ
      size = count_trees (arguments g)

      go : AreInRange (straight (goal_code g seen)) → AreInRange (body_leads ps (add_vars g seen)) → (l : Bool)
          → AreInRange (if l then straight (goal_code g seen ++ execute (name g) size ∷ []) else straight (goal_code g seen ++ asking g ∷ []) ++ body_leads ps (add_vars g seen))
      go h k true = joined (goal_code g seen) (execute (name g) size ∷ []) h (tt, tt)
      go h k false = range_append (straight (goal_code g seen ++ asking g ∷ [])) (body_leads ps (add_vars g seen)) (joined (goal_code g seen) (asking g ∷ []) h (ask_range g, tt)) k
  body_range (parallel cs gs ∷ ps) seen i =
      let b = and_parts (well_formed_part n (parallel cs gs)) (list_all (well_formed_part n) ps) i in
      let d = and_parts (list_all (numbered_check n) cs) (nat_le 1 (count_trees gs) && (all_callable gs && numbered_all n gs)) b.0 in
      let h = and_parts (nat_le 1 (count_trees gs)) (all_callable gs && numbered_all n gs) d.1 in
      let k = and_parts (all_callable gs) (numbered_all n gs) h.1 in
      let few : nat_le 1 (count_trees gs) ≡ true = h.0 in
      let l : 0 < count_trees gs = grind (arith, nat_tests) in
      let seen1 : List ℕ = see_checks cs seen in
      range_append (straight (make_checks cs seen) ++ ways cs gs seen1) (body_leads ps (add_all_vars gs seen1))
      (range_append (straight (make_checks cs seen)) (ways cs gs seen1) (makes_range cs seen d.0) (ways_range cs gs seen1 d.0 l k.1 k.0))
      (body_range ps (add_all_vars gs seen1) b.1)

pub clause_range : (c : Clause) → IsClause c → AreInRange (clause_leads c)
clause_range c i =
    let k : ℕ = count_trees (arguments c.head) in
    let n : ℕ = c.vars in
    let head : List Step = gets (arguments c.head) 1 [] (k + 1) in
    range_append (straight head) (body_leads c.body (add_all_vars (arguments c.head) []))
    (paced_range (λ z. Unit {0}) head (inside n k)
    (subst (λ q. PacesTo (λ z. Unit {0}) q (inside n k)) (append-nil head)
    (gets_paces (λ z. Unit {0}) n (arguments c.head) 1 [] (k + 1) [] (inside n k) (omega arith) (omega arith)
    (numbered_arguments n c.head (and_parts (callable c.head) (numbered n c.head) i.head).1) (record { settled = refl; room = refl }) (λ w o. absurd (false≢true o)) (λ w h l. entered w k h l) (λ z f o. tt))))
    (body_range n c.body (add_all_vars (arguments c.head) []) i.body)
