-- Code whose variables stand in other places, and which is tested, is still the clause's code with its groups, and keeps the
-- rules of code.
use Rattle.std.proofs.Common.{[], ◌≡◌, ℕ, zero, suc, ◌<◌, Bool, true, false, not, ◌&&◌, ◌||◌, List, ◌∷◌, ◌++◌, length, map, Option, Some, None, MatchOption, inl, inr, refl, ap, sym, ◌∙◌, subst, arith}
use Rattle.std.proofs.lemmas.Bool.{false≢true, and_parts}
use Rattle.std.specs.List.{list_all}
use Rattle.ap_term.specs.Tree.{Tree, Trees, none}
use Rattle.ap_term.specs.Goals.{Clause}
use Rattle.ap_instr.specs.declared.instruction.Slot.{Slot}
use Rattle.ap_instr.specs.declared.instruction.Slot.TheVariants.{X, Y}
use Rattle.ap_instr.specs.declared.instruction.Instr.TheVariants.{GetStructure, PutStructure, PutVariable as PutNew, Call as CallOf, WaitAll as Wait}
use Rattle.ap_instr.specs.Step.{Step, get_variable, get_value, get_constant, get_structure, put_variable, put_value, put_constant, put_structure, unify_variable, unify_value, unify_constant, call, execute, builtin, proceed, jump, check_ground, check_indep, group, push, wait}
use Rattle.ap_instr.specs.Runs.{read}
use Rattle.ap_codecheck.specs.Shape.{Shape, entry, unset, write, behind_argument, with_group, after}
use Rattle.ap_codecheck.specs.Rules.{IsNumbered}
use Rattle.ap_codegen.specs.CodeOf.{calls_apart}
use Rattle.ap_codegen.specs.Emitted.{step_of, steps_of, label_of, Lead, lead_of, leads_of}
use Rattle.ap_codegen.specs.Temporary.{ends}
use Rattle.ap_codegen.specs.Said.{AreNumbered}
use Rattle.ap_codegen.specs.Grouped.{passed_over, flow, Unmarks, has_turns, rest_from, AreTurns, IsGroupedCode, IsEnded}
use Rattle.ap_codegen.specs.Framed.{leaving}
use Rattle.ap_codegen.specs.Paces.{Paces, one_pushed, PacesOn, PacesLeads, IsInRange, AreInRange, ArePacedLeads, inside}
use Rattle.ap_codegen.specs.declared.steps.Step.{Step as Emitted}
use Rattle.ap_codegen.specs.declared.steps.Step.TheVariants.{GetVariable, PutValue, Jump, CheckGround, CheckIndep, AllocParcall, PushGoal, WaitAll, Allocate, Deallocate}
use Rattle.ap_codegen.specs.declared.relocating.Change.{Change as Chosen}
use Rattle.ap_codegen.specs.declared.relocating.Change.TheVariants.{Kept, Dropped}
use Rattle.ap_codegen.specs.Relocated.{Change, kept, dropped, olds, news, staying, relocated, register, placed, written, Known, former, latter, has_room, set_former, set_both, behind, may_drop, fits, change_fits, IsSingle, Onward, NoTurns, AreKept, asks, all_open, IsBegun, within, changes_of, step_in, AreTested}
use Rattle.ap_codegen.proofs.EndedLeads.{ended_more}
use Rattle.ap_codegen.proofs.FramedLeads.{framed_grouped}
use Rattle.ap_codegen.proofs.RelocatedReads.{above_zero, Below, below_former, below_latter, below_both, below_call, below_forgets, Held, Same, Alike, passed_same, onward, alike}
use Rattle.ap_codegen.proofs.RelocatedPaces.{Implies, relocated_paces}
use Rattle.ap_codegen.proofs.RelocatedOpen.{open_leads, open_behind, asks_openly}
use Rattle.ap_codegen.proofs.RelocatedLeads.{ArePlain, is_plain, leads_plain, led_paces}

-- ---- as a clause is entered

begun_below : (k : Known) → IsBegun k → Below k
begun_below k b = record { formers = first; latters = second }
  where
    above : 0 < k.next
    above = let l = b.former_below 0 in omega arith

    first : (v : Slot) → former k v < k.next
    first (X n) = b.former_below n
    first (Y n) = subst (λ y. y n < k.next) (sym b.former_y) above

    second : (v : Slot) → latter k v < k.next
    second (X n) = b.latter_below n
    second (Y n) = subst (λ y. y n < k.next) (sym b.latter_y) above

-- as a clause is entered
begun_held : (A : Type 0) (R : A → A → Type 0) (k : Known) (x y z : ℕ → A) → IsBegun k → ((n : ℕ) → R (x n) (x n)) → Held A R k x y x z
begun_held A R k x y z b r (X n) (X m) p q =
    let e : k.former_x n ≡ n = b.former_x n p in
    let f : k.latter_x m ≡ m = b.latter_x m (subst (λ i. 0 < i) q p) in
    subst (λ m. R (x n) (x m)) (sym e ∙ q ∙ f) (r n)
begun_held A R k x y z b r (X n) (Y m) p q = absurd (let e : k.latter_y m ≡ 0 = ap (λ y. y m) b.latter_y in omega arith)
begun_held A R k x y z b r (Y n) u p q = absurd (let e : k.former_y n ≡ 0 = ap (λ y. y n) b.former_y in omega arith)

-- ---- the steps as they were chosen for, and as they are written

pub olds_chosen : (cs : List Chosen) → olds (changes_of cs) ≡ leads_of (map step_in cs)
olds_chosen [] = refl
olds_chosen (Kept s u o ∷ cs) = ap (λ ls. lead_of s ∷ ls) (olds_chosen cs)
olds_chosen (Dropped s ∷ cs) = ap (λ ls. lead_of s ∷ ls) (olds_chosen cs)

placed_lead : (e : Emitted) (u o : Slot) (cs : List Change) → lead_of (placed e u o (staying (label_of e) cs)) ≡ (relocated (step_of e) u o, staying (label_of e) cs)
placed_lead (Jump n) u o cs = refl
placed_lead (CheckGround v n) u o cs = refl
placed_lead (CheckIndep v w n) u o cs = refl
placed_lead (AllocParcall m n) u o cs = refl
placed_lead _ u o cs = refl

pub news_written : (cs : List Chosen) → leads_of (written cs) ≡ news (changes_of cs)
news_written [] = refl
news_written (Kept e u o ∷ cs) = ap (λ l. l ∷ leads_of (written cs)) (placed_lead e u o (changes_of cs)) ∙ ap (λ ls. (relocated (step_of e) u o, staying (label_of e) (changes_of cs)) ∷ ls) (news_written cs)
news_written (Dropped e ∷ cs) = news_written cs

steps_led : (es : List Emitted) → map (λ l. l.0) (leads_of es) ≡ steps_of es
steps_led [] = refl
steps_led (e ∷ es) = ap (λ is. step_of e ∷ is) (steps_led es)

still_apart : (cs : List Change) → list_all (λ l. calls_apart l.0) (olds cs) ≡ true → list_all (λ l. calls_apart l.0) (news cs) ≡ true
still_apart [] e = e
still_apart (dropped l ∷ cs) e = still_apart cs (and_parts (calls_apart l.0) (list_all (λ l. calls_apart l.0) (olds cs)) e).1
still_apart (kept l u o ∷ cs) e =
    let b = and_parts (calls_apart l.0) (list_all (λ l. calls_apart l.0) (olds cs)) e in
    ap (λ c. c && list_all (λ l. calls_apart l.0) (news cs)) (one l.0 ∙ b.0) ∙ still_apart cs b.1
  where
    one : (i : Step) → calls_apart (relocated i u o) ≡ calls_apart i
    one (call p n) = refl
    one (execute p n) = refl
    one _ = refl

-- ---- the end

ends_same : (i : Step) (u o : Slot) → ends (relocated i u o) ≡ ends i
ends_same (execute p n) u o = refl
ends_same proceed u o = refl
ends_same _ u o = refl

dropped_on : (i : Step) → may_drop i ≡ true → ends i ≡ false
dropped_on (get_variable v a) e = refl
dropped_on (put_value v a) e = refl
dropped_on _ e = absurd (false≢true e)

pub ended_tail : (l : Lead) (ls : List Lead) → ends l.0 ≡ false → IsEnded (l ∷ ls) → IsEnded ls
ended_tail l [] e h = absurd (false≢true (sym e ∙ h.0))
ended_tail l (m ∷ ls) e h = h.2

ended_before : (l : Lead) (ls : List Lead) → 0 < length ls → IsEnded (l ∷ ls) → IsEnded ls
ended_before l [] b h = absurd (omega arith)
ended_before l (m ∷ ls) b h = h.2

ended_last : (l : Lead) (ls : List Lead) → ends l.0 ≡ true → IsEnded (l ∷ ls) → ls ≡ []
ended_last l [] e h = refl
ended_last l (m ∷ ls) e h = absurd (false≢true (sym h.0 ∙ e))

pub label_below : (l : Lead) (ls : List Lead) → ends l.0 ≡ false → IsEnded (l ∷ ls) → l.1 < length ls
label_below l [] e h = absurd (false≢true (sym e ∙ h.0))
label_below l (m ∷ ls) e h = let d = h.1 in omega (arith, d)

no_news : (cs : List Change) → olds cs ≡ [] → news cs ≡ []
no_news [] e = refl
no_news (kept l u o ∷ cs) e = absurd (let q : l ∷ olds cs ≡ [] = e in cc)
no_news (dropped l ∷ cs) e = absurd (let q : l ∷ olds cs ≡ [] = e in cc)

none_stay : (n : ℕ) → staying n [] ≡ 0
none_stay zero = refl
none_stay (suc n) = refl

module _ (room : Option ℕ) where
  -- each change has its places
  abbrev AllFit : List Change → Type 0
  AllFit cs = list_all (change_fits room) cs ≡ true

  some_stay : (cs : List Change) → AllFit cs → IsEnded (olds cs) → 0 < length (news cs)
  some_stay [] w h = absurd h
  some_stay (kept l u o ∷ cs) w h = omega arith
  some_stay (dropped l ∷ cs) w h = let b = and_parts (may_drop l.0) (list_all (change_fits room) cs) w in some_stay cs b.1 (ended_tail l (olds cs) (dropped_on l.0 b.0) h)

  few_stay : (n : ℕ) (cs : List Change) → AllFit cs → IsEnded (olds cs) → n < length (olds cs) → staying n cs < length (news cs)
  few_stay zero cs w h l = some_stay cs w h
  few_stay (suc n) [] w h l = absurd h
  few_stay (suc n) (kept i u o ∷ cs) w h l =
      let b = and_parts (fits room i.0 u o) (list_all (change_fits room) cs) w in
      let r = few_stay n cs b.1 (ended_before i (olds cs) (omega arith) h) (omega arith) in omega arith
  few_stay (suc n) (dropped i ∷ cs) w h l =
      let b = and_parts (may_drop i.0) (list_all (change_fits room) cs) w in
      few_stay n cs b.1 (ended_before i (olds cs) (omega arith) h) (omega arith)

  pub news_ended : (cs : List Change) → AllFit cs → IsEnded (olds cs) → IsEnded (news cs)
  news_ended [] w h = h
  news_ended (dropped l ∷ cs) w h = let b = and_parts (may_drop l.0) (list_all (change_fits room) cs) w in news_ended cs b.1 (ended_tail l (olds cs) (dropped_on l.0 b.0) h)
  news_ended (kept l u o ∷ cs) w h = go (ends l.0) refl (λ v t. news_ended cs v t)
    where
      b : (fits room l.0 u o ≡ true) × AllFit cs
      b = and_parts (fits room l.0 u o) (list_all (change_fits room) cs) w

      labelled : (cs : List Change) → olds cs ≡ [] → staying l.1 cs ≡ 0
      labelled [] e = none_stay l.1
      labelled (kept i u o ∷ cs) e = absurd (let q : i ∷ olds cs ≡ [] = e in cc)
      labelled (dropped i ∷ cs) e = absurd (let q : i ∷ olds cs ≡ [] = e in cc)

      go : (c : Bool) → ends l.0 ≡ c → (AllFit cs → IsEnded (olds cs) → IsEnded (news cs)) → IsEnded (news (kept l u o ∷ cs))
      go true e next =
          let d : olds cs ≡ [] = ended_last l (olds cs) e h in
          subst (λ ls. IsEnded ((relocated l.0 u o, staying l.1 cs) ∷ ls)) (sym (no_news cs d)) (ends_same l.0 u o ∙ e, labelled cs d)
      go false e next =
          let t : IsEnded (olds cs) = ended_tail l (olds cs) e h in
          ended_more (relocated l.0 u o, staying l.1 cs) (news cs) (ends_same l.0 u o ∙ e) (few_stay l.1 cs b.1 t (label_below l (olds cs) e h)) (next b.1 t)

  -- ---- operands in range

  numbered_slot : (u : Slot) → has_room room u ≡ true → IsNumbered u
  numbered_slot (X n) e = above_zero n e
  numbered_slot (Y n) e = above_zero n (and_parts _ _ e).0

  in_range : (i : Step) (u o : Slot) → fits room i u o ≡ true → IsInRange (relocated i u o)
  in_range (get_variable v a) u o e = let b = and_parts _ _ e in (numbered_slot u b.0, above_zero (register o) b.1)
  in_range (get_value v a) u o e = let b = and_parts _ _ e in (numbered_slot u b.0, above_zero (register o) b.1)
  in_range (get_constant c a) u o e = above_zero (register o) e
  in_range (get_structure f n a) u o e = above_zero (register o) e
  in_range (put_variable v a) u o e = let b = and_parts _ _ e in (numbered_slot u b.0, above_zero (register o) b.1)
  in_range (put_value v a) u o e = let b = and_parts _ _ e in (numbered_slot u b.0, above_zero (register o) b.1)
  in_range (put_constant c a) u o e = above_zero (register o) e
  in_range (put_structure f n a) u o e = above_zero (register o) e
  in_range (unify_variable v) u o e = numbered_slot u e
  in_range (unify_value v) u o e = numbered_slot u e
  in_range (check_ground v) u o e = let b = and_parts _ _ e in numbered_slot u b.1
  in_range (check_indep v w) u o e = let b = and_parts _ _ e in let d = and_parts _ _ b.1 in (numbered_slot u d.0, numbered_slot o d.1)
  in_range (group n) u o e = let b = and_parts _ _ e in above_zero n b.1
  in_range (unify_constant c) u o e = tt
  in_range (call p n) u o e = tt
  in_range (execute p n) u o e = tt
  in_range (builtin p n) u o e = tt
  in_range proceed u o e = tt
  in_range jump u o e = tt
  in_range (push p n) u o e = tt
  in_range wait u o e = tt
  in_range _ u o e = absurd (false≢true e)

  pub news_range : (cs : List Change) → AllFit cs → AreInRange (news cs)
  news_range [] w = tt
  news_range (dropped l ∷ cs) w = news_range cs (and_parts (may_drop l.0) (list_all (change_fits room) cs) w).1
  news_range (kept l u o ∷ cs) w = let b = and_parts (fits room l.0 u o) (list_all (change_fits room) cs) w in (in_range l.0 u o b.0, news_range cs b.1)

  -- ---- goals of groups keep their numbers

  fit_behind : (e : Emitted) (u o : Slot) (cs : List Chosen) → AllFit (changes_of (Kept e u o ∷ cs)) → AllFit (changes_of cs)
  fit_behind e u o cs w = (and_parts (fits room (step_of e) u o) (list_all (change_fits room) (changes_of cs)) w).1

  pub still_numbered : (k : ℕ) (cs : List Chosen) → AllFit (changes_of cs) → AreNumbered k (map step_in cs) → AreNumbered k (written cs)
  still_numbered k [] w n = tt
  still_numbered k (Kept (AllocParcall m l) u o ∷ cs) w n = still_numbered 0 cs (fit_behind (AllocParcall m l) u o cs w) n
  still_numbered k (Kept (PushGoal i p m) u o ∷ cs) w n = (n.0, still_numbered i cs (fit_behind (PushGoal i p m) u o cs w) n.1)
  still_numbered k (Kept e u o ∷ cs) w n = still_numbered k cs (fit_behind e u o cs w) n
  still_numbered k (Dropped (GetVariable v a) ∷ cs) w n = still_numbered k cs w n
  still_numbered k (Dropped (PutValue v a) ∷ cs) w n = still_numbered k cs w n
  still_numbered k (Dropped e ∷ cs) w n = absurd (false≢true w)

-- ---- outside of an environment

plain_placed : (e : Emitted) (u o : Slot) (n : ℕ) → fits None (step_of e) u o ≡ true → is_plain (step_of (placed e u o n)) ≡ true
plain_placed (Allocate m) u o n f = absurd (false≢true f)
plain_placed Deallocate u o n f = absurd (false≢true f)
plain_placed (Jump m) u o n f = absurd (false≢true f)
plain_placed (CheckGround v m) u o n f = absurd (false≢true f)
plain_placed (CheckIndep v w m) u o n f = absurd (false≢true f)
plain_placed (AllocParcall m l) u o n f = absurd (false≢true f)
plain_placed (PushGoal i p m) u o n f = absurd (false≢true f)
plain_placed WaitAll u o n f = absurd (false≢true f)
plain_placed _ u o n f = refl

plain_written : (cs : List Chosen) → list_all (change_fits None) (changes_of cs) ≡ true → ArePlain (steps_of (written cs))
plain_written [] w = refl
plain_written (Dropped e ∷ cs) w = plain_written cs (and_parts (may_drop (step_of e)) (list_all (change_fits None) (changes_of cs)) w).1
plain_written (Kept e u o ∷ cs) w =
    let b = and_parts (fits None (step_of e) u o) (list_all (change_fits None) (changes_of cs)) w in
    ap (λ c. c && list_all is_plain (steps_of (written cs))) (plain_placed e u o (staying (label_of e) (changes_of cs)) b.0) ∙ plain_written cs b.1

-- ---- each check and group leads to the group's goals in turn

-- places of the code as it was, that hold what the code as it becomes holds
single_held : (k : Known) (x' y' : ℕ → Tree) (s : IsSingle k) → Held Tree Same k (λ n. read (s.0 (k.former_x n)) x' y') (λ n. read (s.0 (k.former_y n)) x' y') x' y'
single_held k x' y' s (X n) u p q = ap (λ w. read w x' y') (s.1 u (subst (λ n. 0 < n) q p) ∙ ap s.0 (sym q))
single_held k x' y' s (Y n) u p q = ap (λ w. read w x' y') (s.1 u (subst (λ n. 0 < n) q p) ∙ ap s.0 (sym q))

below_behind : (k : Known) (i : Step) (u o : Slot) → Below k → Below (behind k i u o)
below_behind k (get_variable v a) u o b = below_latter (set_former k v (former k (X a))) u (latter k (X (register o))) (b.latters (X (register o))) (below_former k v (former k (X a)) (b.formers (X a)) b)
below_behind k (put_value v a) u o b = below_latter (set_former k (X a) (former k v)) (X (register o)) (latter k u) (b.latters u) (below_former k (X a) (former k v) (b.formers v) b)
below_behind k (put_variable v a) u o b =
    let k1 : Known = set_both k v u in
    let k2 : Known = set_former k1 (X a) k.next in
    below_latter k2 (X (register o)) k.next (omega arith) (below_former k1 (X a) k.next (omega arith) (below_both k v u b))
below_behind k (put_constant c a) u o b = below_both k (X a) (X (register o)) b
below_behind k (put_structure f n a) u o b = below_both k (X a) (X (register o)) b
below_behind k (unify_variable v) u o b = below_both k v u b
below_behind k (call p n) u o b = below_call k b
below_behind k wait u o b = below_call k b
below_behind k _ u o b = b

-- the rules are kept where control goes on
paced_on : (i : Step) (m : ℕ) (K : ℕ → Shape → Type 0) (s : Shape) → ends i ≡ false → PacesOn i m K s → (z : Shape) × K (passed_over (i, m)) z
paced_on (get_variable v a) m K s e (g, p) = (write v s, p.4)
paced_on (get_value v a) m K s e (g, p) = (s, p.5)
paced_on (get_constant c a) m K s e (g, p) = (s, p.3)
paced_on (get_structure f n a) m K s e (g, p) = (after (GetStructure f n a) s, p.3)
paced_on (put_variable v a) m K s e (g, p) = (after (PutNew v a) s, p.3)
paced_on (put_value v a) m K s e (g, p) = (write (X a) s, p.4)
paced_on (put_constant c a) m K s e (g, p) = (write (X a) s, p.2)
paced_on (put_structure f n a) m K s e (g, p) = (after (PutStructure f n a) s, p.2)
paced_on (unify_variable v) m K s e (g, p) = (behind_argument (write v s), p.2)
paced_on (unify_value v) m K s e (g, p) = (behind_argument s, p.3)
paced_on (unify_constant c) m K s e (g, p) = (behind_argument s, p.1)
paced_on (call d n) m K s e (g, p) = (after (CallOf 0) s, p.3)
paced_on (builtin d n) m K s e (g, p) = (s, p.2)
paced_on (execute d n) m K s e p = absurd (false≢true (sym e))
paced_on proceed m K s e p = absurd (false≢true (sym e))
paced_on jump m K s e p = (s, p.2)
paced_on (check_ground v) m K s e p = (s, p.4)
paced_on (check_indep v w) m K s e p = (s, p.6)
paced_on (group n) m K s e p = (with_group (Some (n, 0)) s, p.3)
paced_on (push d n) m K s e p = (with_group (one_pushed s.group) s, p.3)
paced_on wait m K s e p = (after Wait s, p.3)
paced_on _ m K s e p = absurd p.1

onward_clear : (i : Step) (m : ℕ) (K : ℕ → Known → Type 0) (N : ℕ → Type 0) (k : Known) → N 0 → Onward (i, m) K N k → N (passed_over (i, m))
onward_clear jump m K N k n w = w.0
onward_clear _ m K N k n w = n

turns_same : (i : Step) (u o : Slot) → has_turns (relocated i u o) ≡ has_turns i
turns_same (check_ground v) u o = refl
turns_same (check_indep v w) u o = refl
turns_same _ u o = refl

rest_alike : (i : Step) (is js : List Step) (x y x' y' : ℕ → Tree) → ((bs : Trees) → Alike is js none x y x' y' bs) → (bs : Trees) → Alike (rest_from i is) (rest_from i js) none x y x' y' bs
rest_alike (group n) is js x y x' y' a bs = (λ r. (r.0, r.1, (a r.0).0 r.2), λ r. (r.0, r.1, (a r.0).1 r.2))
rest_alike i is js x y x' y' a bs = a bs

no_turns : (i : Step) (u o : Slot) → not (has_turns i) ≡ true → has_turns (relocated i u o) ≡ true → ⊥
no_turns i u o n e = go (has_turns i) n (sym (turns_same i u o) ∙ e)
  where
    go : (b : Bool) → not b ≡ true → b ≡ true → ⊥
    go true n e = false≢true n
    go false n e = false≢true e

module _ (room : Option ℕ) (rest : List Lead) where
  -- the shapes at the next step and where the other way leads
  unmarks_kept : (i : Step) (m : ℕ) (cs : List Change) (k : Known) (s d z : Shape) (asked : Bool) → AllFit room cs → IsSingle k → AreKept 0 k cs → AreKept m k cs → s.pending ≡ 0 → d.pending ≡ 0
      → PacesLeads 0 (olds cs) s → PacesLeads m (olds cs) d → PacesLeads (staying m cs) (news cs) z → open_leads asked (news cs) ≡ true → Below k → Unmarks (rest_from i (flow 0 (olds cs ++ rest))) (flow m (olds cs ++ rest))
      → Unmarks (rest_from i (flow 0 (news cs ++ rest))) (flow (staying m cs) (news cs ++ rest))
  unmarks_kept i m cs k s d z asked w one a c e g p q r f b t = record {
    only = λ x y bs run. let v = t.only (xs x y) (ys x y) bs ((over x y bs).0 run) in (v.0, v.1, (begun x y v.0).1 v.2);
    each = λ x y ms bs u run. (over x y bs).1 (t.each (xs x y) (ys x y) ms bs u ((begun x y ms).0 run));
    openly = asks_openly rest asked (staying m cs) (news cs) z f r;
  }
    where
      xs : (x y : ℕ → Tree) → ℕ → Tree
      xs x y n = read (one.0 (k.former_x n)) x y

      ys : (x y : ℕ → Tree) → ℕ → Tree
      ys x y n = read (one.0 (k.former_y n)) x y

      on : (x y : ℕ → Tree) (bs : Trees) → Alike (flow 0 (olds cs ++ rest)) (flow 0 (news cs ++ rest)) none (xs x y) (ys x y) x y bs
      on x y bs = alike room rest 0 cs none k s (xs x y) (ys x y) x y bs w a p e b (single_held k x y one)

      begun : (x y : ℕ → Tree) (bs : Trees) → Alike (rest_from i (flow 0 (olds cs ++ rest))) (rest_from i (flow 0 (news cs ++ rest))) none (xs x y) (ys x y) x y bs
      begun x y bs = rest_alike i (flow 0 (olds cs ++ rest)) (flow 0 (news cs ++ rest)) (xs x y) (ys x y) x y (on x y) bs

      over : (x y : ℕ → Tree) (bs : Trees) → Alike (flow m (olds cs ++ rest)) (flow (staying m cs) (news cs ++ rest)) none (xs x y) (ys x y) x y bs
      over x y bs = alike room rest m cs none k d (xs x y) (ys x y) x y bs w c q g b (single_held k x y one)

  pub turns_kept : (n : ℕ) (cs : List Change) (k : Known) (s z : Shape) (asked : Bool) → AllFit room cs → AreKept n k cs → NoTurns n cs → IsEnded (olds cs) → PacesLeads n (olds cs) s → PacesLeads (staying n cs) (news cs) z
      → open_leads asked (news cs) ≡ true → Below k → AreTurns (olds cs) rest → AreTurns (news cs) rest
  turns_kept zero [] k s z asked w a c h p q f b t = tt
  turns_kept (suc n) [] k s z asked w a c h p q f b t = tt
  turns_kept (suc n) (dropped l ∷ cs) k s z asked w a c h p q f b t =
      let v = and_parts (may_drop l.0) (list_all (change_fits room) cs) w in
      turns_kept n cs k s z asked v.1 a c.1 (ended_tail l (olds cs) (dropped_on l.0 v.0) h) p q f b t.1
  turns_kept (suc n) (kept l u o ∷ cs) k s z asked w a c h p q f b t = (λ e. absurd (no_turns l.0 u o c.0 e), go (ends l.0) refl (λ d v c h f t. turns_kept n cs k s z d v a c h p q f b t))
    where
      v : (fits room l.0 u o ≡ true) × AllFit room cs
      v = and_parts (fits room l.0 u o) (list_all (change_fits room) cs) w

      go : (d : Bool) → ends l.0 ≡ d → ((asked : Bool) → AllFit room cs → NoTurns n cs → IsEnded (olds cs) → open_leads asked (news cs) ≡ true → AreTurns (olds cs) rest → AreTurns (news cs) rest) → AreTurns (news cs) rest
      go true e next = subst (λ ls. AreTurns ls rest) (sym (no_news cs (ended_last l (olds cs) e h))) tt
      go false e next = next (asked || asks (relocated l.0 u o)) v.1 c.1 (ended_tail l (olds cs) e h) (open_behind asked (relocated l.0 u o, staying l.1 cs) (news cs) f) t.1
  turns_kept zero (dropped (get_variable d r, m) ∷ cs) k s z asked w (j, g, a) c h p q f b t =
      let b1 : Below j = below_forgets k j g b in
      turns_kept zero cs (set_former j d (former j (X r))) (write d s) z asked w a tt (ended_tail (get_variable d r, m) (olds cs) refl h) p.1.4 q f (below_former j d (former j (X r)) (b1.formers (X r)) b1) t.1
  turns_kept zero (dropped (put_value d r, m) ∷ cs) k s z asked w (j, g, a) c h p q f b t =
      let b1 : Below j = below_forgets k j g b in
      turns_kept zero cs (set_former j (X r) (former j d)) (write (X r) s) z asked w a tt (ended_tail (put_value d r, m) (olds cs) refl h) p.1.4 q f (below_former j (X r) (former j d) (b1.formers d) b1) t.1
  turns_kept zero (dropped (i, m) ∷ cs) k s z asked w a c h p q f b t = absurd (false≢true w)
  turns_kept zero (kept (i, m) u o ∷ cs) k s z asked w (j, g, a) c h p q f b t = (first i a.1 p q t.0, go (ends i) refl (λ n j s z d v a c h p q f b t. turns_kept n cs j s z d v a c h p q f b t))
    where
      v : (fits room i u o ≡ true) × AllFit room cs
      v = and_parts (fits room i u o) (list_all (change_fits room) cs) w

      b1 : Below j
      b1 = below_forgets k j g b

      o1 : open_leads (asked || asks (relocated i u o)) (news cs) ≡ true
      o1 = open_behind asked (relocated i u o, staying m cs) (news cs) f

      first : (i1 : Step) → Onward (i1, m) (λ n j. AreKept n j cs) (λ n. NoTurns n cs) (behind j i1 u o) → PacesOn i1 m (λ n z. PacesLeads n (olds cs) z) s
          → PacesOn (relocated i1 u o) (staying m cs) (λ n z. PacesLeads n (news cs) z) z → (has_turns i1 ≡ true → Unmarks (rest_from i1 (flow 0 (olds cs ++ rest))) (flow m (olds cs ++ rest)))
          → has_turns (relocated i1 u o) ≡ true → Unmarks (rest_from (relocated i1 u o) (flow 0 (news cs ++ rest))) (flow (staying m cs) (news cs ++ rest))
      first (check_ground x) a p q t e = unmarks_kept (check_ground x) m cs j s s z (asked || asks (relocated i u o)) v.1 a.0 a.1 a.2 p.1 p.1 p.4 p.5 q.5 o1 b1 (t refl)
      first (check_indep x y) a p q t e = unmarks_kept (check_indep x y) m cs j s s z (asked || asks (relocated i u o)) v.1 a.0 a.1 a.2 p.1 p.1 p.6 p.7 q.7 o1 b1 (t refl)
      first (group n) a p q t e = unmarks_kept (group n) m cs j (with_group (Some (n, 0)) s) s z (asked || asks (relocated i u o)) v.1 a.0 a.1 a.2 p.1 p.1 p.3 p.4 q.4 o1 b1 (t refl)
      first i1 a p q t e = absurd (false≢true (sym (turns_same i1 u o) ∙ e))

      go : (d : Bool) → ends i ≡ d
          → ((n : ℕ) (k : Known) (s z : Shape) (asked : Bool) → AllFit room cs → AreKept n k cs → NoTurns n cs → IsEnded (olds cs) → PacesLeads n (olds cs) s → PacesLeads (staying n cs) (news cs) z
          → open_leads asked (news cs) ≡ true → Below k → AreTurns (olds cs) rest → AreTurns (news cs) rest)
          → AreTurns (news cs) rest
      go true e next = subst (λ ls. AreTurns ls rest) (sym (no_news cs (ended_last (i, m) (olds cs) e h))) tt
      go false e next =
          let s1 = paced_on i m (λ n z. PacesLeads n (olds cs) z) s e p in
          let z1 = paced_on (relocated i u o) (staying m cs) (λ n z. PacesLeads n (news cs) z) z (ends_same i u o ∙ e) q in
          next (passed_over (i, m)) (behind j i u o) s1.0 z1.0 (asked || asks (relocated i u o)) v.1 (onward i m (λ n j. AreKept n j cs) (λ n. NoTurns n cs) (behind j i u o) e a.1)
          (onward_clear i m (λ n j. AreKept n j cs) (λ n. NoTurns n cs) (behind j i u o) tt a.1) (ended_tail (i, m) (olds cs) e h) s1.1
          (subst (λ n. PacesLeads n (news cs) z1.0) (passed_same i m u o cs) z1.1) o1 (below_behind j i u o b1) t.1

-- ---- steps that were tested

module _ (room : Option ℕ) (cs : List Change) (k : Known) (begun : IsBegun k) (fit : AllFit room cs) (same : AreKept 0 k cs) where
  news_paces : (vars arity : ℕ) → PacesLeads 0 (olds cs) (inside vars arity) → PacesLeads 0 (news cs) (within room arity)
  news_paces vars arity p =
      relocated_paces room 0 cs k (inside vars arity) (within room arity) fit same p (begun_below k begun) (record {
        sets = begun_held Bool Implies k (entry arity).x unset unset begun (λ n e. e);
        pending = refl;
        room = refl;
        group = refl;
        near = λ l. absurd (omega arith);
      })

  news_grouped : (c : Clause) (vars arity : ℕ) → IsEnded (olds cs) → open_leads false (news cs) ≡ true → PacesLeads 0 (olds cs) (inside vars arity) → IsGroupedCode c (olds cs) → IsGroupedCode c (news cs)
  news_grouped c vars arity h f p g = record {
    reads = λ rest. record {
      only = λ x y bs run. (g.reads rest).only x y bs ((alike_here rest x y bs).0 run);
      each = λ x y bs a. (alike_here rest x y bs).1 ((g.reads rest).each x y bs a);
    };
    openly = λ rest. asks_openly rest false 0 (news cs) (within room arity) f (news_paces vars arity p);
    turns = λ rest. turns_kept room rest 0 cs k (inside vars arity) (within room arity) false fit same tt h p (news_paces vars arity p) f (begun_below k begun) (g.turns rest);
    apart = still_apart cs g.apart;
  }
    where
      alike_here : (rest : List Lead) (x y : ℕ → Tree) (bs : Trees) → Alike (flow 0 (olds cs ++ rest)) (flow 0 (news cs ++ rest)) none x y x y bs
      alike_here rest x y bs = alike room rest 0 cs none k (inside vars arity) x y x y bs fit same p refl (begun_below k begun) (begun_held Tree Same k x y y begun (λ n. refl))

pub tested : (room : Option ℕ) (cs : List Chosen) (k : Known) (out : List Emitted) → IsBegun k → list_all (change_fits room) (changes_of cs) ≡ true → AreKept 0 k (changes_of cs) → out ≡ written cs → all_open false (steps_of out) ≡ true
    → AreTested room (map step_in cs) out
tested room cs k out b w a e f = subst (AreTested room (map step_in cs)) (sym e) (record {
  grouped = λ c vars arity h p g. subst (IsGroupedCode c) (sym after_all)
      (news_grouped room (changes_of cs) k b w a c vars arity (subst IsEnded before h) opened (subst (λ ls. PacesLeads 0 ls (inside vars arity)) before p) (subst (IsGroupedCode c) before g));
  paces = λ vars arity h p. subst (λ ls. PacesLeads 0 ls (within room arity)) (sym after_all) (news_paces room (changes_of cs) k b w a vars arity (subst (λ ls. PacesLeads 0 ls (inside vars arity)) before p));
  ended = λ h. subst IsEnded (sym after_all) (news_ended room (changes_of cs) w (subst IsEnded before h));
  numbered = λ n h. still_numbered room n cs w h;
  range = subst AreInRange (sym after_all) (news_range room (changes_of cs) w);
  outside = λ s r h p.
      let plain = plain_written cs (subst (λ r. list_all (change_fits r) (changes_of cs) ≡ true) r w) in
      let d = leads_plain (written cs) plain in
      led_paces (steps_of (written cs)) s plain (subst IsEnded d h) (subst (λ ls. PacesLeads 0 ls s) d p);
})
  where
    before : leads_of (map step_in cs) ≡ olds (changes_of cs)
    before = sym (olds_chosen cs)

    after_all : leads_of (written cs) ≡ news (changes_of cs)
    after_all = news_written cs

    opened : open_leads false (news (changes_of cs)) ≡ true
    opened = ap (λ ls. all_open false (map (λ l. l.0) ls)) (sym after_all) ∙ ap (all_open false) (steps_led (written cs)) ∙ ap (λ es. all_open false (steps_of es)) (sym e) ∙ f

-- ---- the same inside of an environment, where one is wanted

-- either outside of an environment, or inside
abbrev Entered : Option ℕ → List Emitted → List Emitted → Type 0
Entered room es out = MatchOption room (out ≡ es) (λ vars. out ≡ Allocate vars ∷ leaving es)

pub entered_grouped : (room : Option ℕ) (es better out : List Emitted) (c : Clause) (vars arity : ℕ) → Entered room better out → AreTested room es better → IsEnded (leads_of es) → PacesLeads 0 (leads_of es) (inside vars arity) → IsGroupedCode c (leads_of es)
    → IsGroupedCode c (leads_of out)
entered_grouped None es better out c vars arity e t h p g = subst (λ out. IsGroupedCode c (leads_of out)) (sym e) (t.grouped c vars arity h p g)
entered_grouped (Some room) es better out c vars arity e t h p g = subst (λ out. IsGroupedCode c (leads_of out)) (sym e) (framed_grouped c better room (t.grouped c vars arity h p g) (t.ended h))

pub entered_paced : (room : Option ℕ) (es better out : List Emitted) (vars arity : ℕ) → Entered room better out → AreTested room es better → IsEnded (leads_of es) → PacesLeads 0 (leads_of es) (inside vars arity) → AreNumbered 0 es
    → ArePacedLeads arity out
entered_paced None es better out vars arity e t h p n = inl (subst (λ out. Paces (steps_of out) (entry arity)) (sym e) (t.outside (entry arity) refl (t.ended h) (t.paces vars arity h p)))
entered_paced (Some room) es better out vars arity e t h p n = inr (room, better, e, t.paces vars arity h p, t.ended h, t.numbered 0 n, t.range)
