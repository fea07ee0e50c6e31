-- A closed table covers every call, every answer and every group that a search comes to.
use Rattle.std.proofs.Common.{◌≡◌, ℕ, ◌+◌, ◌<◌, inl, inr, Bool, true, false, ◌&&◌, nat_le, if◌then◌else◌, IsTrue, List, [], ◌∷◌, None, refl, ap, sym, ◌∙◌, subst, arith}
use Rattle.std.specs.List.{All, list_all}
use Rattle.std.proofs.lemmas.Bool.{false≢true, and_parts, and_from, le-leb}
use Rattle.ap_term.proofs.TreeLists.{count_trees-instance_all}
use Rattle.ap_term.proofs.Facts.{same_bool}
use Rattle.ap_term.specs.declared.clauses.Check.{Check}
use Rattle.ap_term.specs.Tree.{Tree, Trees, var, atom, none, more, count_trees}
use Rattle.ap_term.specs.Vars.{occurs}
use Rattle.ap_term.specs.WellFormed.{in_range, callable, all_callable, numbered, numbered_all, numbered_check, well_formed_part}
use Rattle.ap_term.specs.Substitution.{instance, shift}
use Rattle.ap_term.specs.Builtins.{builtin}
use Rattle.ap_term.specs.Independence.{Holds, IsInFullCondition}
use Rattle.ap_term.specs.Goals.{Part, call, group, calls, Clause, Program}
use Rattle.ap_term.proofs.Copies.{instance_var, instance_twice}
use Rattle.ap_term.proofs.Solutions.{instance_agree}
use Rattle.ap_sharing.specs.VarSet.{has}
use Rattle.ap_absunify.specs.MostGeneral.{MostGeneral}
use Rattle.ap_absunify.specs.declared.states.State.{State}
use Rattle.ap_absunify.specs.declared.states.State.TheVariants.{Unreachable, Reachable}
use Rattle.ap_absunify.specs.State.{Covers}
use Rattle.ap_absunify.proofs.Renamed.{Covers-same}
use Rattle.ap_absunify.proofs.Vars.{any_some, occurs_instance}
use Rattle.ap_patterns.specs.Places.{arguments, argument}
use Rattle.ap_patterns.specs.Entering.{own, own_after}
use Rattle.ap_patterns.specs.Table.{predicate_of}
use Rattle.ap_patterns.specs.Given.{Patterns, call_at, success_at, to_success, is_analysed, entered, any_pattern}
use Rattle.ap_patterns.specs.Covered.{IsHeld}
use Rattle.ap_patterns.proofs.CallPatterns.{call_pattern-covers}
use Rattle.ap_patterns.proofs.Entering.{own-range, own-has, enter-covers}
use Rattle.ap_conditions.proofs.Given.{given-holds}
use Rattle.ap_certify.specs.Written.{is_written}
use Rattle.ap_tracked.specs.Tracked.{IsOneOf}
use Rattle.ap_tracked.specs.Forks.{Fork, IsGoalOf}
use Rattle.ap_certify.specs.Certificate.{MissingHold}
use Rattle.ap_certify.proofs.Runs.{after_head, Ans, answered, by, Body, done, goal, joined, CallFork, within, BodyFork, first, sequence, past_group, in_goal, past_goal}
use Rattle.ap_certify.proofs.Tame.{Tame, ans_tame, body_tame, own_wider, below, in_range-bounds}
use Rattle.ap_tracked.proofs.Untracked.{numbered-range}
use Rattle.ap_certify.specs.declared.sights.Sight.{Sight}
use Rattle.ap_certify.specs.declared.sights.Sight.TheVariants.{Known, Unknown}
use Rattle.ap_certify.specs.Sights.{pattern_in, after, after_all, after_parts, entry_as, entry}
use Rattle.ap_certify.specs.Held.{IsGoalHeld, AreHeldAtFork, AreHeldInTurn, GivesMissing, IsBodyHeld}
use Rattle.ap_certify.proofs.Seen.{Sees, sees_same, IsCalled, called, held_success, Bounded, goal_bounded, Of_f, next_bounded, returned, answered-sees, argument_instance, arguments_instance, callable_instance, predicate_instance, predicate, any-covers}

-- ---- bodies whose goals can be called

abbrev pub BodyCallable : List Part → Type 0
BodyCallable [] = Unit {0}
BodyCallable (call g ∷ ps) = IsTrue (callable g) × BodyCallable ps
BodyCallable (group cs gs ∷ ps) = IsTrue (all_callable gs) × BodyCallable ps

pub body_callable : (n : ℕ) (ps : List Part) → IsTrue (list_all (well_formed_part n) ps) → BodyCallable ps
body_callable n [] h = tt
body_callable n (call g ∷ ps) h =
    let r = and_parts (well_formed_part n (call g)) (list_all (well_formed_part n) ps) h in
    ((and_parts (callable g) (numbered n g) r.0).0, body_callable n ps r.1)
body_callable n (group cs gs ∷ ps) h =
    let r = and_parts (well_formed_part n (group cs gs)) (list_all (well_formed_part n) ps) h in
    let a = and_parts (list_all (numbered_check n) cs) (nat_le 1 (count_trees gs) && (all_callable gs && numbered_all n gs)) r.0 in
    let b = and_parts (nat_le 1 (count_trees gs)) (all_callable gs && numbered_all n gs) a.1 in
    ((and_parts (all_callable gs) (numbered_all n gs) b.1).0, body_callable n ps r.1)

calls_callable : (gs : Trees) → IsTrue (all_callable gs) → BodyCallable (calls gs)
calls_callable none h = tt
calls_callable (more g gs) h = let r = and_parts (callable g) (all_callable gs) h in (r.0, calls_callable gs r.1)

goal_callable : (g : Tree) (gs : Trees) → IsGoalOf g gs → IsTrue (all_callable gs) → IsTrue (callable g)
goal_callable g none i h = absurd i
goal_callable g (more e gs) (inl i) h = subst (λ d. IsTrue (callable d)) (sym i) (and_parts (callable e) (all_callable gs) h).0
goal_callable g (more e gs) (inr i) h = goal_callable g gs i (and_parts (callable e) (all_callable gs) h).1

held_calls : (t : Patterns) (s : Sight) (gs : Trees) → AreHeldInTurn t s gs → IsBodyHeld t s (calls gs)
held_calls t s none h = tt
held_calls t s (more g gs) h = (h.0, held_calls t (after t s g) gs h.1)

after_calls : (t : Patterns) (s : Sight) (gs : Trees) → after_parts t s (calls gs) ≡ after_all t s gs
after_calls t s none = refl
after_calls t s (more g gs) = after_calls t (after t s g) gs

fork_goal : (t : Patterns) (s : Sight) (g : Tree) (gs : Trees) → IsGoalOf g gs → AreHeldAtFork t s gs → IsGoalHeld t s g
fork_goal t s g none i h = absurd i
fork_goal t s g (more e gs) (inl i) h = subst (IsGoalHeld t s) (sym i) h.0
fork_goal t s g (more e gs) (inr i) h = fork_goal t s g gs i h.1

-- ---- clauses

pub record ClauseHeld (t : Patterns) (c : Clause) : Type 0 where
  pub head : IsTrue (callable c.head)
  pub numbers : IsTrue (numbered c.vars c.head)
  pub goals : BodyCallable c.body
  pub body : IsBodyHeld t (entry t c) c.body
  pub success : All (IsHeld t) (to_success (predicate_of c.head) (pattern_in (after_parts t (entry t c) c.body) c.head))

abbrev pub AllHeld : Patterns → Program → Type 0
AllHeld t A = (c : Clause) → IsOneOf c A → ClauseHeld t c

own-same : (n x : ℕ) → has (own n) x ≡ in_range n x
own-same n x =
    same_bool (has (own n) x) (in_range n x)
    (λ h. let r = own-range n x h in
    let a : 0 < x = r.0 in
    and_from (nat_le 1 x) (nat_le x n) (le-leb 1 x (omega arith)) (le-leb x n r.1))
    (λ h. let r = in_range-bounds n x h in own-has n x r.0 r.1)

own-after : (c : Clause) (n : ℕ) (u : ℕ → Tree) (x : ℕ) → own_after c.vars n u x ≡ after_head c n u x
own-after c n u x = ap (λ b. if b then u (x + n) else atom 0) (own-same c.vars x) ∙ go (in_range c.vars x)
  where
    go : (b : Bool) → (if b then u (x + n) else atom 0) ≡ instance u (if b then var (x + n) else atom 0)
    go true = refl
    go false = refl

-- the call and the head have one predicate
same_head : (g head : Tree) (n : ℕ) (u : ℕ → Tree) → IsTrue (callable g) → IsTrue (callable head) → MostGeneral g (instance (shift n) head) u → predicate_of g ≡ predicate_of head
same_head g head n u cg ch m =
    sym (predicate_instance u g cg) ∙ ap predicate_of m.0 ∙ predicate_instance u (instance (shift n) head) (callable_instance (shift n) head ch) ∙ predicate_instance (shift n) head ch

-- what the head of a clause has become is the call
head_is : (c : Clause) (g : Tree) (n : ℕ) (u s : ℕ → Tree) → IsTrue (callable g) → IsTrue (callable c.head) → IsTrue (numbered c.vars c.head) → MostGeneral g (instance (shift n) c.head) u
    → (j : ℕ) → instance (λ x. instance s (after_head c n u x)) (argument 1 (arguments c.head) j) ≡ instance (λ x. instance s (u x)) (argument 1 (arguments g) j)
head_is c g n u s cg ch nh m j =
    argument_instance (λ x. instance s (after_head c n u x)) 1 (arguments c.head) j
    ∙ ap (λ ts. argument 1 ts j) (sym (arguments_instance (λ x. instance s (after_head c n u x)) c.head ch) ∙ ap arguments same ∙ arguments_instance (λ x. instance s (u x)) g cg)
    ∙ sym (argument_instance (λ x. instance s (u x)) 1 (arguments g) j)
  where
    one : (x : ℕ) → occurs x c.head ≡ true → after_head c n u x ≡ u (x + n)
    one x o = ap (λ b. instance u (if b then var (x + n) else atom 0)) (numbered-range c.vars c.head nh x o)

    same : instance (λ x. instance s (after_head c n u x)) c.head ≡ instance (λ x. instance s (u x)) g
    same =
        sym (instance_twice (after_head c n u) s c.head)
        ∙ ap (instance s) (instance_agree (after_head c n u) (λ x. u (x + n)) c.head one ∙ sym (instance_twice (shift n) u c.head) ∙ sym m.0)
        ∙ instance_twice u s g

pub entry_sees : (t : Patterns) (c : Clause) → ClauseHeld t c → (g : Tree) (n : ℕ) (u : ℕ → Tree) → IsTrue (callable g) → ((r : ℕ) → occurs r g ≡ true → r < n)
    → MostGeneral g (instance (shift n) c.head) u → Covers (call_at t (predicate_of g)) (argument 1 (arguments g)) → Sees (entry t c) (after_head c n u)
entry_sees t c h g n u cg lt m d = go (is_analysed c)
  where
    covered : Covers (call_at t (predicate_of c.head)) (argument 1 (arguments g))
    covered = subst (λ o. Covers (call_at t o) (argument 1 (arguments g))) (same_head g c.head n u cg h.head m) d

    reached : (s : State) → Covers s (argument 1 (arguments g)) → Sees (Unknown s) (after_head c n u)
    reached Unreachable k = k
    reached (Reachable sh fr) k = tt

    go : (b : Bool) → Sees (entry_as b t c) (after_head c n u)
    go true =
        Covers-same (entered t c) (own_after c.vars n u) (after_head c n u) (own-after c n u)
        (enter-covers c.vars n g c.head (call_at t (predicate_of c.head)) u cg h.head h.numbers lt covered m)
    go false = reached (call_at t (predicate_of c.head)) covered

entry_bounded : (c : Clause) → IsTrue (numbered c.vars c.head) → (g : Tree) (n : ℕ) (u : ℕ → Tree) → ((r : ℕ) → occurs r g ≡ true → r < n)
    → MostGeneral g (instance (shift n) c.head) u → Bounded (after_head c n u) (n + (c.vars + 1))
entry_bounded c nh g n u lt m x r o =
    below (λ r. occurs r g ≡ true) n (n + (c.vars + 1)) (omega arith) lt r (own_wider (λ r. occurs r g ≡ true) g n c u (λ r o. o) m nh x r o)

end_covers : (s : Sight) (head : Tree) (f : ℕ → Tree) → IsTrue (callable head) → Sees s f → Covers (pattern_in s head) (λ j. instance f (argument 1 (arguments head) j))
end_covers (Known s) head f ch c = call_pattern-covers s head f c
end_covers (Unknown Unreachable) head f ch c = c
end_covers (Unknown (Reachable sh fr)) head f ch c =
    Covers-same (any_pattern (count_trees (arguments head))) (argument 1 (arguments (instance f head))) (λ j. instance f (argument 1 (arguments head) j))
    (λ j. ap (λ ts. argument 1 ts j) (arguments_instance f head ch) ∙ sym (argument_instance f 1 (arguments head) j))
    (any-covers (count_trees (arguments head)) (arguments (instance f head)) (ap count_trees (arguments_instance f head ch) ∙ count_trees-instance_all f (arguments head)))

composed : (s : Sight) (f k v : ℕ → Tree) → Sees s (λ x. instance v (instance k (f x))) → Sees s (λ x. instance (λ y. instance v (k y)) (f x))
composed s f k v c = sees_same s (λ x. instance v (instance k (f x))) (λ x. instance (λ y. instance v (k y)) (f x)) (λ x. instance_twice k v (f x)) c

-- ---- groups

-- the checks that aren't written hold, and each goal alone is called as the table has it
pub record IsGood (t : Patterns) (h : Fork) : Type 0 where
  pub missing : MissingHold h
  pub goals : (g : Tree) → IsGoalOf g h.goals → IsTrue (callable g) × IsCalled t (instance h.own g)

missing_holds : (s : Sight) (cs : List Check) (gs : Trees) (f : ℕ → Tree) → GivesMissing s cs gs → Sees s f → (c : Check) → IsInFullCondition gs c → is_written c cs ≡ false → Holds f c
missing_holds (Known s) cs gs f m v c i w = given-holds s c f v (m c i w)
missing_holds (Unknown Unreachable) cs gs f m v c i w = absurd v
missing_holds (Unknown (Reachable sh fr)) cs gs f m v c i w = absurd (false≢true (m c i w))

module _ (A : Program) (t : Patterns) (held : AllHeld t A) where
  heads : (c : Clause) → IsOneOf c A → IsTrue (numbered c.vars c.head)
  heads c i = (held c i).numbers

  group_sees : (gs : Trees) (f k : ℕ → Tree) (st : Sight) → Sees (after_parts t st (calls gs)) (λ x. instance k (f x)) → Sees (after_all t st gs) (λ x. instance k (f x))
  group_sees gs f k st c = subst (λ z. Sees z (λ x. instance k (f x))) (after_calls t st gs) c

  goal_tame : (g : Tree) (f k : ℕ → Tree) (n m : ℕ) → Bounded f n → Ans A (instance f g) n k m → Tame (Of_f f) n k m
  goal_tame g f k n m bd a =
      ans_tame A heads a (Of_f f) (λ r o. let z = any_some (λ x. occurs r (f x)) g (sym (occurs_instance r f g) ∙ o) in (z.0, z.2)) (λ r v. bd v.0 r v.1)

  -- what is known after a goal that has an answer; one by clauses is covered by the success pattern
  came_back : {e : Tree} {n m : ℕ} {k : ℕ → Tree} → Ans A e n k m → (g : Tree) (f : ℕ → Tree) → e ≡ instance f g → IsTrue (callable g) → Bounded f n
      → Tame (λ r. occurs r (instance f g) ≡ true) n k m → (builtin e ≡ None → Covers (success_at t (predicate_of e)) (λ j. instance k (argument 1 (arguments e) j)))
      → (st : Sight) → Sees st f → Sees (after t st g) (λ x. instance k (f x))
  came_back (answered b q) g f e cg bd ta su st c = answered-sees t st g f b cg (ap builtin (sym e) ∙ q) c
  came_back {n = n} {m = m} (by u s d i q mg b) g f e cg bd ta su st c =
      returned t st g f (λ x. instance s (u x)) n m cg (ap builtin (sym e) ∙ q) bd ta c
      (subst (λ z. Covers (success_at t (predicate_of z)) (λ j. instance (λ x. instance s (u x)) (argument 1 (arguments z) j))) e (su q))

  mutual
    -- an answer by clauses is covered by the success pattern
    pub ans_covers : {g : Tree} {n m : ℕ} {k : ℕ → Tree} → Ans A g n k m → builtin g ≡ None → IsTrue (callable g) → ((r : ℕ) → occurs r g ≡ true → r < n) → IsCalled t g
        → Covers (success_at t (predicate_of g)) (λ j. instance k (argument 1 (arguments g) j))
    ans_covers (answered b e) q cg lt d = absurd (let p = sym q ∙ e in cc)
    ans_covers {g = g} {n = n} (by u s c i q2 m b) q cg lt d =
        let h = held c i in
        let body = body_sees b h.goals (entry_bounded c h.numbers g n u lt m) (entry t c) h.body (entry_sees t c h g n u cg lt m (d q)) in
        subst (λ o. Covers (success_at t o) (λ j. instance (λ x. instance s (u x)) (argument 1 (arguments g) j))) (sym (same_head g c.head n u cg h.head m))
        (Covers-same (success_at t (predicate_of c.head)) (λ j. instance (λ x. instance s (after_head c n u x)) (argument 1 (arguments c.head) j)) (λ j. instance (λ x. instance s (u x)) (argument 1 (arguments g) j))
        (head_is c g n u s cg h.head h.numbers m)
        (let p = predicate c.head h.head in
        held_success t (predicate_of c.head) p.here (pattern_in (after_parts t (entry t c) c.body) c.head) (λ j. instance (λ x. instance s (after_head c n u x)) (argument 1 (arguments c.head) j)) p.is h.success
        (end_covers (after_parts t (entry t c) c.body) c.head (λ x. instance s (after_head c n u x)) h.head body)))

    pub body_sees : {ps : List Part} {f s : ℕ → Tree} {n l : ℕ} → Body A ps f n s l → BodyCallable ps → Bounded f n → (st : Sight) → IsBodyHeld t st ps → Sees st f
        → Sees (after_parts t st ps) (λ x. instance s (f x))
    body_sees {f = f} done cb bd st h c = sees_same st f (λ x. instance (λ y. var y) (f x)) (λ x. sym (instance_var (f x))) c
    body_sees {n = n} (goal {g = g} {ps = ps} {f = f} k s m a b) cb bd st h c =
        composed (after_parts t (after t st g) ps) f k s
        (body_sees b cb.1 (next_bounded f k n m bd (goal_tame g f k n m bd a)) (after t st g) h.1
        (came_back a g f refl cb.0 bd (ans_tame A heads a (λ r. occurs r (instance f g) ≡ true) (λ r o. o) (goal_bounded f n g bd))
        (λ q. ans_covers a q (callable_instance f g cb.0) (goal_bounded f n g bd) (called t st g f cb.0 h.0 c)) st c))
    body_sees {n = n} (joined {gs = gs} {ps = ps} {f = f} k s m a b) cb bd st h c =
        composed (after_parts t (after_all t st gs) ps) f k s
        (body_sees b cb.1 (next_bounded f k n m bd (body_tame A heads a (Of_f f) (λ x r o. (x, o)) (λ r v. bd v.0 r v.1)))
        (after_all t st gs) h.1 (group_sees gs f k st (body_sees a (calls_callable gs cb.0) bd st (held_calls t st gs h.0.2) c)))

  mutual
    pub call_fork_good : {g : Tree} {n : ℕ} {h : Fork} → CallFork A g n h → IsTrue (callable g) → ((r : ℕ) → occurs r g ≡ true → r < n) → IsCalled t g → IsGood t h
    call_fork_good {g = g} {n = n} (within u c i q m b) cg lt d =
        let h = held c i in
        body_fork_good b h.goals (entry_bounded c h.numbers g n u lt m) (entry t c) h.body (entry_sees t c h g n u cg lt m (d q))

    pub body_fork_good : {ps : List Part} {f : ℕ → Tree} {n : ℕ} {h : Fork} → BodyFork A ps f n h → BodyCallable ps → Bounded f n → (st : Sight) → IsBodyHeld t st ps → Sees st f → IsGood t h
    body_fork_good (first {cs = cs} {gs = gs} {f = f}) cb bd st h c = record {
      missing = missing_holds st cs gs f h.0.0 c;
      goals = λ g i. let cg = goal_callable g gs i cb.0 in (cg, called t st g f cg (fork_goal t st g gs i h.0.1) c);
    }
    body_fork_good (sequence {gs = gs} a) cb bd st h c = body_fork_good a (calls_callable gs cb.0) bd st (held_calls t st gs h.0.2) c
    body_fork_good {n = n} (past_group {gs = gs} {f = f} k m a b) cb bd st h c =
        body_fork_good b cb.1 (next_bounded f k n m bd (body_tame A heads a (Of_f f) (λ x r o. (x, o)) (λ r v. bd v.0 r v.1)))
        (after_all t st gs) h.1 (group_sees gs f k st (body_sees a (calls_callable gs cb.0) bd st (held_calls t st gs h.0.2) c))
    body_fork_good {n = n} (in_goal {g = g} {f = f} a) cb bd st h c = call_fork_good a (callable_instance f g cb.0) (goal_bounded f n g bd) (called t st g f cb.0 h.0 c)
    body_fork_good {n = n} (past_goal {g = g} {f = f} k m a b) cb bd st h c =
        body_fork_good b cb.1 (next_bounded f k n m bd (goal_tame g f k n m bd a)) (after t st g) h.1
        (came_back a g f refl cb.0 bd (ans_tame A heads a (λ r. occurs r (instance f g) ≡ true) (λ r o. o) (goal_bounded f n g bd))
        (λ q. ans_covers a q (callable_instance f g cb.0) (goal_bounded f n g bd) (called t st g f cb.0 h.0 c)) st c)

  -- a goal alone
  pub goal_good : {g : Tree} {f : ℕ → Tree} {n : ℕ} {h : Fork} → BodyFork A (call g ∷ []) f n h → IsTrue (callable (instance f g)) → ((r : ℕ) → occurs r (instance f g) ≡ true → r < n)
      → IsCalled t (instance f g) → IsGood t h
  goal_good (in_goal a) cg lt d = call_fork_good a cg lt d
  goal_good (past_goal k m a b) cg lt d = absurd (elim b [ ])
