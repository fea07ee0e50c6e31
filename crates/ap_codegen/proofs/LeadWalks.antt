-- The instructions of a clause with groups keep the rules of code, wherever it stands.
use Rattle.std.proofs.Common.{◌≡◌, ℕ, zero, suc, ◌+◌, ◌-◌, nat_lt, Bool, true, false, if◌then◌else◌, is_some, ℤ, List, [], ◌∷◌, ◌++◌, ◌⊎◌, inl, inr, Option, Some, None, refl, ap, sym, ◌∙◌, subst, arith}
use Rattle.std.specs.List.{slice_get}
use Rattle.std.proofs.lemmas.Bool.{false≢true}
use Rattle.ap_instr.specs.declared.instruction.Instr.{Instr}
use Rattle.ap_instr.specs.declared.instruction.Instr.TheVariants.{GetInteger, PutVariable, PutValue, PutConstant, PutInteger, PutStructure, UnifyVariable, UnifyValue, UnifyConstant, UnifyInteger, Allocate, Deallocate, Call, Execute, Jump, CheckGround, CheckIndep, AllocParcall, PushGoal, WaitAll}
use Rattle.ap_instr.specs.declared.compiled.Predicate.{Predicate}
use Rattle.ap_instr.specs.Code.{Compiled}
use Rattle.ap_instr.specs.Step.{Step, get_constant, call, execute, push, with_integer, with_predicate, step_of as said_by, steps_of as said}
use Rattle.ap_codecheck.specs.Shape.{Shape, entry, pushed, with_group, after}
use Rattle.ap_codecheck.specs.Rules.{FitsGroup, arity_in, arity_of, ArgumentsSet}
use Rattle.ap_codecheck.specs.Walk.{Walks}
use Rattle.ap_codegen.specs.declared.steps.Step.{Step as Emitted}
use Rattle.ap_codegen.specs.declared.steps.Step.TheVariants.{Execute as ExecuteStep, Proceed as ProceedStep, Allocate as EnterStep, Deallocate as LeaveStep, Jump as JumpStep, CheckGround as GroundStep, CheckIndep as IndepStep, AllocParcall as GroupStep, PushGoal as PushStep, WaitAll as WaitStep}
use Rattle.ap_codegen.specs.Emitted.{step_of, steps_of, Lead, lead_of, leads_of}
use Rattle.ap_codegen.specs.Temporary.{ends}
use Rattle.ap_codegen.specs.Framed.{leaving}
use Rattle.ap_codegen.specs.Grouped.{IsEnded}
use Rattle.ap_codegen.specs.Said.{special_of, IsSaidAt, AreSaidAt, AreNumbered}
use Rattle.ap_codegen.specs.Paces.{PacesTo, Paces, inside, puts, StandsIn, IsOpen, IsFull, one_pushed, PacesLeads, ArePacedLeads}
use Rattle.ap_codegen.proofs.Walking.{room_of, turn_none, push_paces, inner_walk, last_walk, outside_walk, same_room, same_group, here, plain_walk, turn_end}

-- ---- the instruction of a step that its own step doesn't tell

abbrev is_push : Instr → Bool
is_push (PushGoal i q) = true
is_push _ = false

pub special_same : (i j : Instr) → special_of i ≡ Some j → is_push j ≡ false → i ≡ j
special_same (PushGoal k q) j e n = let d : PushGoal k 0 ≡ j = cc in absurd (false≢true (sym n ∙ ap is_push (sym d)))
special_same (Allocate m) j e n = cc
special_same Deallocate j e n = cc
special_same (Jump l) j e n = cc
special_same (CheckGround v l) j e n = cc
special_same (CheckIndep v w l) j e n = cc
special_same (AllocParcall m l) j e n = cc
special_same WaitAll j e n = cc
special_same _ j e n = cc

pub special_push : (i : Instr) (k : ℕ) → special_of i ≡ Some (PushGoal k 0) → (q : ℕ) × (i ≡ PushGoal k q)
special_push (PushGoal j q) k e = let d : j ≡ k = cc in (q, ap (λ j. PushGoal j q) d)
special_push _ k e = let d : ⊥ = cc in absurd d

-- ---- the steps behind one

pub numbered_tail : (k : ℕ) (e : Emitted) (es : List Emitted) → AreNumbered k (e ∷ es) → (j : ℕ) × AreNumbered j es
numbered_tail k (GroupStep n l) es h = (0, h)
numbered_tail k (PushStep i p n) es h = (i, h.1)
numbered_tail k _ es h = (k, h)

ended_tail : (l : Lead) (ls : List Lead) (m : ℕ) (s : Shape) → IsEnded (l ∷ ls) → PacesLeads m ls s → IsEnded ls
ended_tail l [] m s h p = absurd p
ended_tail l (k ∷ ls) m s h p = h.2

last_alone : (l : Lead) (ls : List Lead) (m : ℕ) (s : Shape) → IsEnded (l ∷ ls) → ends l.0 ≡ true → PacesLeads m ls s → ⊥
last_alone l [] m s h e p = p
last_alone l (k ∷ ls) m s h e p = false≢true (sym h.0 ∙ e)

-- a step that ends the clause stands in no group
record Ended (e : Emitted) (s : Shape) : Type 0 where
  group : s.group ≡ None
  paced : Paces (step_of e ∷ []) s

none_in : (i : Step) (g : Option (ℕ × ℕ)) → puts i ≡ false → StandsIn i g → g ≡ None
none_in i None h k = refl
none_in i (Some g) h k = absurd (false≢true (sym h ∙ k))

ended_paced : (e : Emitted) (ls : List Lead) (s : Shape) → ends (step_of e) ≡ true → PacesLeads 0 (lead_of e ∷ ls) s → Ended e s
ended_paced (ExecuteStep q n) ls s t p = record { group = none_in (execute q n) s.group refl p.0; paced = p.1 }
ended_paced ProceedStep ls s t p = record { group = none_in (step_of ProceedStep) s.group refl p.0; paced = p.1 }
ended_paced _ ls s t p = absurd (false≢true t)

-- ---- groups

-- the number of the last goal that was pushed, inside of a group
abbrev pub Counts : ℕ → Option (ℕ × ℕ) → Type 0
Counts k None = Unit {0}
Counts k (Some g) = g.1 ≡ k

inside_fits : (K : Shape → Type 0) (code : Compiled) (i : Instr) (is : List Step) (s : Shape) (g : ℕ × ℕ) → puts (said_by code i) ≡ true → PacesTo K (said_by code i ∷ is) s → FitsGroup i (Some g)
inside_fits K code (PutVariable v a) is s g h p = refl
inside_fits K code (PutValue v a) is s g h p = refl
inside_fits K code (PutConstant c a) is s g h p = refl
inside_fits K code (PutInteger j a) is s g h p = refl
inside_fits K code (PutStructure f n a) is s g h p = refl
inside_fits K code (UnifyVariable v) is s g h p = refl
inside_fits K code (UnifyValue v) is s g h p = refl
inside_fits K code (UnifyConstant c) is s g h p = refl
inside_fits K code (UnifyInteger j) is s g h p = refl
inside_fits K code (GetInteger j a) is s g h p = absurd (go (slice_get code.integers j) h)
  where
    go : (o : Option ℤ) → puts (with_integer o (λ c. get_constant c a)) ≡ true → ⊥
    go None h = false≢true h
    go (Some z) h = false≢true h
inside_fits K code (Call q) is s g h p = absurd (go (slice_get code.predicates q) h)
  where
    go : (o : Option Predicate) → puts (with_predicate o call) ≡ true → ⊥
    go None h = false≢true h
    go (Some r) h = false≢true h
inside_fits K code (Execute q) is s g h p = absurd (go (slice_get code.predicates q) h)
  where
    go : (o : Option Predicate) → puts (with_predicate o execute) ≡ true → ⊥
    go None h = false≢true h
    go (Some r) h = false≢true h
inside_fits K code (PushGoal k q) is s g h p = absurd (push_paces K (slice_get code.predicates q) is s p)
inside_fits K code _ is s g h p = absurd (false≢true h)

fits_in : (K : Shape → Type 0) (code : Compiled) (i : Instr) (is : List Step) (s : Shape) (g : Option (ℕ × ℕ)) → StandsIn (said_by code i) g → PacesTo K (said_by code i ∷ is) s → FitsGroup i g
fits_in K code i is s None h p = (outside_walk K code i 0 is s (with_group None s) refl p).group
fits_in K code i is s (Some g) h p = inside_fits K code i is s g h p

push_fits : (g : Option (ℕ × ℕ)) (j k q : ℕ) → IsOpen g → Counts k g → j ≡ k + 1 → FitsGroup (PushGoal j q) g
push_fits None j k q h c e = absurd h
push_fits (Some g) j k q h c e = (e ∙ ap (λ k. k + 1) (sym c), omega (arith, h, c, e))

push_same : (g : Option (ℕ × ℕ)) (j k : ℕ) → Counts k g → j ≡ k + 1 → one_pushed g ≡ pushed j g
push_same None j k c e = refl
push_same (Some g) j k c e = ap (λ j. Some (g.0, j)) (ap (λ k. k + 1) c ∙ sym e)

push_counts : (g : Option (ℕ × ℕ)) (j : ℕ) → Counts j (pushed j g)
push_counts None j = tt
push_counts (Some g) j = refl

wait_fits : (g : Option (ℕ × ℕ)) → IsFull g → FitsGroup WaitAll g
wait_fits None h = absurd h
wait_fits (Some g) h = h

none_counts : (k : ℕ) (g : Option (ℕ × ℕ)) → g ≡ None → Counts k g
none_counts k g e = subst (Counts k) (sym e) tt

push_reads : (code : Compiled) (q name size : ℕ) (s : Shape) → with_predicate (slice_get code.predicates q) push ≡ push name size → ArgumentsSet size s → ArgumentsSet (arity_of code q) s
push_reads code q name size s e a = go (slice_get code.predicates q) e
  where
    go : (o : Option Predicate) → with_predicate o push ≡ push name size → ArgumentsSet (arity_in o) s
    go None e = let d : ⊥ = cc in absurd d
    go (Some r) e = let d : size ≡ r.arity = cc in subst (λ n. ArgumentsSet n s) d a

landing : (at d l : ℕ) → Some (at + 1 + d) ≡ Some l → d ≡ l - (at + 1)
landing at d l e = let f : at + 1 + d ≡ l = cc in omega (arith, f)

-- ---- the walk

module _ (code : Compiled) (n : ℕ) (later : List Instr) where
  -- what is shown of the steps behind one
  abbrev Behind : List Emitted → ℕ → Type 0
  Behind es at =
      (m k : ℕ) (is : List Instr) (s : Shape) → PacesLeads m (leads_of es) s → AreSaidAt code at (leaving es) is → AreNumbered k es → (m ≡ 0) ⊎ (s.group ≡ None) → Counts k s.group → s.room ≡ Some n
      → Walks code at m (is ++ later) s

  straight_step : (e : Emitted) (es : List Emitted) (at k : ℕ) (i : Instr) (is : List Instr) (s : Shape) → ends (step_of e) ≡ false → StandsIn (step_of e) s.group
      → PacesTo (λ z. PacesLeads 0 (leads_of es) z) (step_of e ∷ []) s → said_by code i ≡ step_of e → AreSaidAt code (at + 1) (leaving es) is → AreNumbered k es → Counts k s.group → s.room ≡ Some n
      → Behind es (at + 1) → Walks code at 0 (i ∷ (is ++ later)) s
  straight_step e es at k i is s d g p w hs num c r b =
      let q : PacesTo (λ z. PacesLeads 0 (leads_of es) z) (said_by code i ∷ []) s = subst (λ t. PacesTo (λ z. PacesLeads 0 (leads_of es) z) (t ∷ []) s) (sym w) p in
      let f = inner_walk (λ z. PacesLeads 0 (leads_of es) z) code i [] s (ap ends w ∙ d) q in
      let o = outside_walk (λ z. PacesLeads 0 (leads_of es) z) code i at [] s (entry 0) refl q in
      let fit = fits_in (λ z. PacesLeads 0 (leads_of es) z) code i [] s s.group (subst (λ t. StandsIn t s.group) (sym w) g) q in
      here code i at (is ++ later) s f.reads f.fits f.turn (record { group = fit; on = o.on; alone = o.alone }) (λ h.
      b 0 k is (after i s) f.next hs num (inl refl) (subst (Counts k) (sym (same_group (λ z. PacesLeads 0 (leads_of es) z) code i [] s q)) c)
      (same_room (λ z. PacesLeads 0 (leads_of es) z) code i [] s q ∙ r))

  step_walk : (e : Emitted) (es : List Emitted) (at k : ℕ) (i : Instr) (is : List Instr) (s : Shape) → ends (step_of e) ≡ false → PacesLeads 0 (lead_of e ∷ leads_of es) s → IsSaidAt code at e i
      → AreSaidAt code (at + 1) (leaving es) is → AreNumbered k (e ∷ es) → Counts k s.group → s.room ≡ Some n → Behind es (at + 1) → Walks code at 0 (i ∷ (is ++ later)) s
  step_walk (JumpStep d) es at k i is s t p h hs num c r b =
      subst (λ i. Walks code at 0 (i ∷ (is ++ later)) s) (sym (special_same i (Jump (at + 1 + d)) h.special refl)) (
        record { reads = tt; environment = tt; turn = turn_none s p.1; group = subst (FitsGroup (Jump (at + 1 + d))) (sym p.0) tt; on = omega arith },
        (λ q. absurd (false≢true q)),
        (λ l e. subst (λ m. Walks code (at + 1) m (is ++ later) s) (landing at d l e) (b d k is s p.2 hs num (inr p.0) c r)),
      )
  step_walk (GroundStep v d) es at k i is s t p h hs num c r b =
      subst (λ i. Walks code at 0 (i ∷ (is ++ later)) s) (sym (special_same i (CheckGround v (at + 1 + d)) h.special refl)) (
        record { reads = p.3; environment = room_of v s p.2; turn = turn_none s p.1; group = subst (FitsGroup (CheckGround v (at + 1 + d))) (sym p.0) tt; on = omega arith },
        (λ q. b 0 k is s p.4 hs num (inl refl) c r),
        (λ l e. subst (λ m. Walks code (at + 1) m (is ++ later) s) (landing at d l e) (b d k is s p.5 hs num (inr p.0) c r)),
      )
  step_walk (IndepStep v w d) es at k i is s t p h hs num c r b =
      subst (λ i. Walks code at 0 (i ∷ (is ++ later)) s) (sym (special_same i (CheckIndep v w (at + 1 + d)) h.special refl)) (
        record {
          reads = (p.4, p.5);
          environment = (room_of v s p.2, room_of w s p.3);
          turn = turn_none s p.1;
          group = subst (FitsGroup (CheckIndep v w (at + 1 + d))) (sym p.0) tt;
          on = omega arith;
        },
        (λ q. b 0 k is s p.6 hs num (inl refl) c r),
        (λ l e. subst (λ m. Walks code (at + 1) m (is ++ later) s) (landing at d l e) (b d k is s p.7 hs num (inr p.0) c r)),
      )
  step_walk (GroupStep m d) es at k i is s t p h hs num c r b =
      subst (λ i. Walks code at 0 (i ∷ (is ++ later)) s) (sym (special_same i (AllocParcall m (at + 1 + d)) h.special refl)) (
        record { reads = tt; environment = tt; turn = turn_none s p.1; group = subst (FitsGroup (AllocParcall m (at + 1 + d))) (sym p.0) tt; on = tt },
        (λ q. b 0 0 is (with_group (Some (m, 0)) s) p.3 hs num (inl refl) refl r),
        (λ l e. let f : ⊥ = cc in absurd f),
      )
  step_walk (PushStep j name size) es at k i is s t p h hs num c r b =
      let f = special_push i j h.special in
      let w : said_by code (PushGoal j f.0) ≡ push name size = ap (said_by code) (sym f.1) ∙ h.says in
      let g = push_same s.group j k c num.0 in
      subst (λ i. Walks code at 0 (i ∷ (is ++ later)) s) (sym f.1) (
        record { reads = push_reads code f.0 name size s w p.2; environment = tt; turn = turn_none s p.1; group = push_fits s.group j k f.0 p.0 c num.0; on = tt },
        (λ q. b 0 j is (with_group (pushed j s.group) s) (subst (λ g. PacesLeads 0 (leads_of es) (with_group g s)) g p.3) hs num.1 (inl refl) (push_counts s.group j) r),
        (λ l e. let f : ⊥ = cc in absurd f),
      )
  step_walk WaitStep es at k i is s t p h hs num c r b =
      subst (λ i. Walks code at 0 (i ∷ (is ++ later)) s) (sym (special_same i WaitAll h.special refl)) (
        record { reads = tt; environment = p.2; turn = turn_none s p.1; group = wait_fits s.group p.0; on = tt },
        (λ q. b 0 k is (after WaitAll s) p.3 hs num (inl refl) tt r),
        (λ l e. let f : ⊥ = cc in absurd f),
      )
  step_walk e es at k i is s t p h hs num c r b = straight_step e es at k i is s t p.0 p.1 h.says hs num c r b

  last_step : (e : Emitted) (at : ℕ) (j i : Instr) (is : List Instr) (s : Shape) → ends (step_of e) ≡ true → Ended e s → IsSaidAt code at LeaveStep j → IsSaidAt code (at + 1) e i → s.room ≡ Some n
      → Walks code at 0 (j ∷ (i ∷ (is ++ later))) s
  last_step e at j i is s t f h k r =
      let q : Paces (said_by code i ∷ []) s = subst (λ t. Paces (t ∷ []) s) (sym k.says) f.paced in
      let d = last_walk (λ z. ⊥) code i [] s (after Deallocate s) (ap ends k.says ∙ t) (λ w o. o) refl refl q in
      let turn : false ≡ nat_lt 0 s.pending = turn_end (λ z. ⊥) (step_of e) [] s t f.paced in
      subst (λ j. Walks code at 0 (j ∷ (i ∷ (is ++ later))) s) (sym (special_same j Deallocate h.special refl))
      (here code Deallocate at (i ∷ (is ++ later)) s tt (ap is_some r) turn (record { group = subst (FitsGroup Deallocate) (sym f.group) tt; on = tt; alone = refl }) (λ q1.
      here code i (at + 1) (is ++ later) (after Deallocate s) d.reads d.fits d.turn (outside_walk (λ z. ⊥) code i (at + 1) [] s (after Deallocate s) f.group q) (λ o. absurd (false≢true (sym d.last ∙ o)))))

  lead_walk : (es : List Emitted) (m at k : ℕ) (is : List Instr) (s : Shape) → IsEnded (leads_of es) → PacesLeads m (leads_of es) s → AreSaidAt code at (leaving es) is → AreNumbered k es
      → (m ≡ 0) ⊎ (s.group ≡ None) → Counts k s.group → s.room ≡ Some n → Walks code at m (is ++ later) s
  lead_walk [] m at k is s d p h num g c r = absurd p
  lead_walk (e ∷ es) m at k is s d p h num g c r =
      go (ends (step_of e)) refl m is p h g (λ m k js z q hs nz gz cz rz. lead_walk es m (at + 1) k js z (ended_tail (lead_of e) (leads_of es) m z d q) q hs nz gz cz rz)
    where
      none : (m : ℕ) → (suc m ≡ 0) ⊎ (s.group ≡ None) → s.group ≡ None
      none m (inl e) = absurd (omega (arith, e))
      none m (inr e) = e

      go : (b : Bool) → ends (step_of e) ≡ b → (m : ℕ) (is : List Instr) → PacesLeads m (lead_of e ∷ leads_of es) s → AreSaidAt code at (if b then LeaveStep ∷ e ∷ leaving es else e ∷ leaving es) is
          → (m ≡ 0) ⊎ (s.group ≡ None) → Behind es (at + 1) → Walks code at m (is ++ later) s
      go true t (suc m) is p h g b = absurd (last_alone (lead_of e) (leads_of es) m s d t p)
      go true t zero [] p h g b = absurd h
      go true t zero (j ∷ []) p h g b = absurd h.1
      go true t zero (j ∷ i ∷ is) p h g b = last_step e at j i is s t (ended_paced e (leads_of es) s t p) h.0 h.1.0 r
      go false t m [] p h g b = absurd h
      go false t (suc m) (i ∷ is) p h g b =
          let f = numbered_tail k e es num in
          b m f.0 is s p h.1 f.1 (inr (none m g)) (none_counts f.0 s.group (none m g)) r
      go false t zero (i ∷ is) p h g b = step_walk e es at k i is s t p h.0 h.1 num c r b

pub said_at : (code : Compiled) (at : ℕ) (es : List Emitted) (is : List Instr) → AreSaidAt code at es is → said code is ≡ steps_of es
said_at code at [] [] h = refl
said_at code at [] (i ∷ is) h = absurd h
said_at code at (e ∷ es) [] h = absurd h
said_at code at (e ∷ es) (i ∷ is) h = ap (λ t. t ∷ said code is) h.0.says ∙ ap (λ ts. step_of e ∷ ts) (said_at code (at + 1) es is h.1)

-- a clause's instructions at a place
pub lead_walks : (code : Compiled) (arity at : ℕ) (es : List Emitted) (is later : List Instr) → ArePacedLeads arity es → AreSaidAt code at es is → Walks code at 0 (is ++ later) (entry arity)
lead_walks code arity at es is later (inl p) h = plain_walk code at is later (entry arity) refl refl (subst (λ ts. Paces ts (entry arity)) (sym (said_at code at es is h)) p)
lead_walks code arity at es is later (inr (vars, fs, e, p, d, num, r)) h = enters is (subst (λ es. AreSaidAt code at es is) e h)
  where
    enters : (is : List Instr) → AreSaidAt code at (EnterStep vars ∷ leaving fs) is → Walks code at 0 (is ++ later) (entry arity)
    enters [] h = absurd h
    enters (i ∷ is) h =
        subst (λ i. Walks code at 0 (i ∷ (is ++ later)) (entry arity)) (sym (special_same i (Allocate vars) h.0.special refl))
        (here code (Allocate vars) at (is ++ later) (entry arity) tt refl refl (record { group = tt; on = tt; alone = refl }) (λ q.
        lead_walk code vars later fs 0 (at + 1) 0 is (inside vars arity) d p h.1 num (inl refl) tt refl))
