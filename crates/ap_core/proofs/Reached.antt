-- Each core that a list of events leads to is reached by a parallel search of `ap_laws`.
use Rattle.std.proofs.Common.{◌≡◌, ℕ, ◌+◌, ◌<◌, ◌⊎◌, Bool, true, false, if◌then◌else◌, List, [], ◌∷◌, ◌++◌, map, Option, Some, None, refl, ap, ap₂, sym, ◌∙◌, subst, arith}
use Rattle.std.specs.List.{AllByRecursion}
use Rattle.std.proofs.lemmas.Bool.{false≢true}
use Rattle.std.proofs.lemmas.List.{map-append}
use Rattle.ap_term.specs.declared.faults.Fault.{Fault}
use Rattle.ap_term.specs.Tree.{Tree, Trees, node, none, more}
use Rattle.ap_term.specs.Goals.{Program, joined}
use Rattle.ap_term.specs.WellFormed.{IsProgram}
use Rattle.ap_term.specs.Search.{State, Outcome, start, meets, answer as found_answer}
use Rattle.ap_term.specs.Blocks.{Begins, IsAllUpTo}
use Rattle.ap_laws.specs.Renaming.{IsBelow}
use Rattle.ap_laws.specs.Plain.{Plain, Ways, IsAnswer, outcome, tuple_of, plain_of, next_of, plain_ways, HasFullGroups}
use Rattle.ap_laws.specs.Plain as plain
use Rattle.ap_laws.specs.Tasks as laws
use Rattle.ap_laws.specs.Events.{Step, Runs, none_yet, and_then, emits}
use Rattle.ap_laws.specs.Tasks.{flat_task, left}
use Rattle.ap_laws.specs.Rejoining.{IsSpent, IsRaised, IsOnTheWay, IsRejoined}
use Rattle.ap_laws.proofs.Invariant.{TaskInvariant, AlternativesInvariant, Strong, Pivot, Weak}
use Rattle.ap_laws.proofs.Runs.{IsOf-plain_of, Rejoins-base, AreAnswers-Runs}
use Rattle.ap_laws.proofs.Plain.{Renames-plain_ways, Locals-plain_ways}
use Rattle.ap_laws.proofs.Rejoining.{rejoin, emitted_lines}
use Rattle.ap_laws.proofs.Conjunctions.{query}
use Rattle.ap_core.specs.declared.events.Kind.{Kind}
use Rattle.ap_core.specs.declared.events.Kind.TheVariants as kinds
use Rattle.ap_core.specs.declared.tasks.Status.{Status}
use Rattle.ap_core.specs.declared.tasks.Status.TheVariants.{GoingOn, NoBudget, HasRaised}
use Rattle.ap_core.specs.declared.tasks.Round.TheVariants.{First, Later, Closed}
use Rattle.ap_core.specs.Tasks.{Answer, Task, task, Alternatives, exhausted, alternative, Alternative, state, frame, Slots, no_slot, slot, idle, stored, busy, held, redone, again, drained}
use Rattle.ap_core.specs.Conditions.{is_exhausted, spent_by}
use Rattle.ap_core.specs.Relation.{Rules, only_if, mapped, plain_answer, own, answer, has_spent, met, in_task, Core, with_root, with_status, emitting, at_root, along, while_going, after}
use Rattle.ap_core.specs.Erased.{erased, erased_alternatives, erased_slots}
use Rattle.ap_core.specs.Heeding.{Heeds, Tells}
use Rattle.ap_core.specs.Own.{HasOwnAnswers, HaveOwnAnswers, HasOwnAnswersIn, SlotsHaveOwn}
use Rattle.ap_core.specs.Reached as reached
use Rattle.ap_core.specs.Reached.{beginning, Happening, after_all, ReachedLaw, IsEmitted}
use Rattle.ap_core.proofs.Options.{Some-only_if, Some-if, Some-mapped, Star, here, onward}
use Rattle.ap_core.proofs.Fine.{IsGiven, Fine, FineHeldTask}
use Rattle.ap_core.proofs.Erasing.{FineFirst-FineBehind, IsExhausted-erased}
use Rattle.ap_core.proofs.OwnEvents.{Made, Made-own, next_of-forked}
use Rattle.ap_core.proofs.Heeded.{heeds}
use Rattle.ap_core.proofs.Inside.{Answers, Answers-answer, IsSpent-has_spent, IsRaised-met, Fine-held, Made-in_task}

-- how the root stands to its budget
abbrev RootStands : Status → ℕ → Task → Type 0
RootStands GoingOn b t = IsGiven b t
RootStands NoBudget b t = IsSpent b (erased t)
RootStands (HasRaised e) b t = IsRaised e (erased t)

module _ (p : Rules) (good : IsProgram p.program) (heeds : Heeds p.loud p.program) (q : State) (below : IsBelow q) (full : HasFullGroups q) (rest : ℕ) where
  abbrev A : Ways
  A = plain_ways p.program

  abbrev from : laws.Task
  from = laws.task 0 (laws.plain (plain_of q) laws.exhausted)

  record Invariant (c : Core) : Type 0 where
    rules : c.rules ≡ p
    found : List Plain
    runs : Runs A from found (erased c.root)
    same : map tuple_of found ≡ c.emitted
    fine : Fine p.loud c.root
    stands : RootStands c.status rest c.root

  Runs-Star : {m : List Plain} {t : laws.Task} → Runs A from m t → {u : laws.Task} → Star (Step A) t u → Runs A from m u
  Runs-Star r here = r
  Runs-Star r (onward s e) = and_then (Runs-Star r s) e

  tasks : {m : List Plain} {t : laws.Task} → Runs A from m t → TaskInvariant A (node 0 q.tuple) 0 t
  tasks r = (Rejoins-base A (Renames-plain_ways p.program good) (Locals-plain_ways p.program good) (node 0 q.tuple) 0 (plain_of q) (IsOf-plain_of q below) r).0

  begins : Invariant (beginning p q rest)
  begins = record { rules = refl; found = []; runs = none_yet; same = refl; fine = (full, tt); stands = omega arith }

  along_same : (c d : Core) → c ≡ d → Invariant c → Invariant d
  along_same c d e i = subst (λ x. Invariant x) e i

  still : (c : Core) → c.status ≡ GoingOn → Invariant c → IsGiven rest c.root
  still c e i = subst (λ b. RootStands b rest c.root) e i.stands

  -- an event of the root or in its slots
  made : (c : Core) (t : Task) → c.status ≡ GoingOn → Made p good heeds c.root t → Invariant c → Invariant (with_root c t)
  made c t e m i = record {
    rules = i.rules;
    found = i.found;
    runs = Runs-Star i.runs m.steps;
    same = i.same;
    fine = m.fine;
    stands = subst (λ b. RootStands b rest t) (sym e) (m.given rest (still c e i));
  }

  made_own : (k : Kind) (c d : Core) → c.status ≡ GoingOn → mapped (with_root c) (own c.rules k c.root) ≡ Some d → Invariant c → Invariant d
  made_own k c d e h i =
      let x = Some-mapped (with_root c) (own c.rules k c.root) d h in
      let o : own p k c.root ≡ Some x.0 = subst (λ z. own z k c.root ≡ Some x.0) i.rules x.1.0 in
      along_same (with_root c x.0) d x.1.1 (made c x.0 e (Made-own p good heeds k c.root x.0 (node 0 q.tuple) 0 o (tasks i.runs) i.fine) i)

  answered : (c d : Core) → c.status ≡ GoingOn → mapped (emitting c) (answer c.root) ≡ Some d → Invariant c → Invariant d
  answered c d e h i =
      let x = Some-mapped (emitting c) (answer c.root) d h in
      let a = Answers-answer p.loud c.root x.0 x.1.0 in
      let before : Runs A from i.found (laws.task (spent_by x.0.1) (laws.plain (plain_answer x.0.0) a.next)) = subst (λ z. Runs A from i.found z) a.before i.runs in
      along_same (emitting c x.0) d x.1.1 (record {
        rules = i.rules;
        found = i.found ++ plain_answer x.0.0 ∷ [];
        runs = subst (λ z. Runs A from (i.found ++ plain_answer x.0.0 ∷ []) z) (sym a.behind) (emits before);
        same = map-append tuple_of i.found (plain_answer x.0.0 ∷ []) ∙ ap (λ z. z ++ x.0.0.tuple ∷ []) i.same;
        fine = Fine-held p.loud x.0.1 (a.fine i.fine);
        stands = subst (λ b. RootStands b rest x.0.1) (sym e) (a.same rest (still c e i));
      })

  over : (c d : Core) → c.status ≡ GoingOn → only_if (has_spent c.rules.loud c.root) (with_status c NoBudget) ≡ Some d → Invariant c → Invariant d
  over c d e h i =
      let x = Some-only_if (has_spent c.rules.loud c.root) (with_status c NoBudget) d h in
      let o : has_spent p.loud c.root ≡ true = subst (λ z. has_spent z.loud c.root ≡ true) i.rules x.0 in
      along_same (with_status c NoBudget) d x.1 (record {
        rules = i.rules;
        found = i.found;
        runs = i.runs;
        same = i.same;
        fine = i.fine;
        stands = IsSpent-has_spent p.loud rest c.root o (still c e i) i.fine;
      })

  faults : (c d : Core) → mapped (λ e. with_status c (HasRaised e)) (met c.rules.loud c.root) ≡ Some d → Invariant c → Invariant d
  faults c d h i =
      let x = Some-mapped (λ e. with_status c (HasRaised e)) (met c.rules.loud c.root) d h in
      let o : met p.loud c.root ≡ Some x.0 = subst (λ z. met z.loud c.root ≡ Some x.0) i.rules x.1.0 in
      along_same (with_status c (HasRaised x.0)) d x.1.1 (record {
        rules = i.rules;
        found = i.found;
        runs = i.runs;
        same = i.same;
        fine = i.fine;
        stands = IsRaised-met p.loud c.root x.0 o i.fine;
      })

  rooted : (k : Kind) (c d : Core) → c.status ≡ GoingOn → at_root k c ≡ Some d → Invariant c → Invariant d
  rooted kinds.Infer c d e h i = made_own kinds.Infer c d e h i
  rooted kinds.Fork c d e h i = made_own kinds.Fork c d e h i
  rooted kinds.Start c d e h i = absurd (cc)
  rooted kinds.Answer c d e h i = answered c d e h i
  rooted kinds.Fail c d e h i = let x = Some-only_if (is_exhausted c.root) c d h in along_same c d x.1 i
  rooted kinds.Spend c d e h i = over c d e h i
  rooted kinds.Stop c d e h i = absurd (cc)
  rooted kinds.Stopped c d e h i = absurd (cc)
  rooted kinds.Join c d e h i = made_own kinds.Join c d e h i
  rooted kinds.Break c d e h i = made_own kinds.Break c d e h i
  rooted kinds.Redo c d e h i = made_own kinds.Redo c d e h i
  rooted kinds.Restart c d e h i = made_own kinds.Restart c d e h i
  rooted kinds.Raise c d e h i = faults c d h i
  rooted kinds.Drain c d e h i = made_own kinds.Drain c d e h i
  rooted kinds.Forget c d e h i = absurd (cc)
  rooted kinds.Replay c d e h i = made_own kinds.Replay c d e h i

  one : (k : Kind) (path : List ℕ) (c d : Core) → after k path c ≡ Some d → Invariant c → Invariant d
  one k path c d h i = go c.status refl h
    where
      walk : (path : List ℕ) → c.status ≡ GoingOn → along k path c ≡ Some d → Invariant d
      walk [] e h = rooted k c d e h i
      walk (j ∷ path) e h =
          let x = Some-mapped (with_root c) (in_task c.rules k j path c.root) d h in
          let o : in_task p k j path c.root ≡ Some x.0 = subst (λ z. in_task z k j path c.root ≡ Some x.0) i.rules x.1.0 in
          along_same (with_root c x.0) d x.1.1 (made c x.0 e (Made-in_task p good heeds k j path c.root x.0 (node 0 q.tuple) 0 o (tasks i.runs) i.fine) i)

      go : (b : Status) → c.status ≡ b → while_going b (along k path c) ≡ Some d → Invariant d
      go GoingOn e h = walk path e h
      go NoBudget e h = absurd (cc)
      go (HasRaised f) e h = absurd (cc)

  all : (events : List Happening) (c d : Core) → after_all events c ≡ Some d → Invariant c → Invariant d
  all [] c d h i = let e : c ≡ d = cc in along_same c d e i
  all (e ∷ events) c d h i = go (after e.0 e.1 c) refl h (λ x k j. all events x d k j)
    where
      go : (o : Option Core) → after e.0 e.1 c ≡ o → reached.and_then o (after_all events) ≡ Some d → ((x : Core) → after_all events x ≡ Some d → Invariant x → Invariant d) → Invariant d
      go None k h rec = absurd (cc)
      go (Some x) k h rec = rec x h (one e.0 e.1 c x k i)

-- ---- the answers that slots stand at

module _ (A : Ways) where
  mutual
    pub HasOwnAnswers-task : (t : Task) (g : Tree) (z : ℕ) → TaskInvariant A g z (erased t) → HasOwnAnswers t
    HasOwnAnswers-task (task r c l) g z i = HaveOwnAnswers-alternatives l g z i

    HaveOwnAnswers-alternatives : (l : Alternatives) (g : Tree) (z : ℕ) → AlternativesInvariant A g z (erased_alternatives l) → HaveOwnAnswers l
    HaveOwnAnswers-alternatives exhausted g z i = tt
    HaveOwnAnswers-alternatives (alternative (state s) l) g z i = (tt, HaveOwnAnswers-alternatives l g z i.2)
    HaveOwnAnswers-alternatives (alternative (frame s First w) l) g z i =
        (SlotsHaveOwn-strong w s.next (subst (λ b. Strong A b (erased_slots w)) (next_of-forked s (erased_slots w) i.1) i.2), HaveOwnAnswers-alternatives l g z i.4)
    HaveOwnAnswers-alternatives (alternative (frame s Later w) l) g z i =
        (SlotsHaveOwn-pivot w s.next (subst (λ b. Pivot A b (erased_slots w)) (next_of-forked s (erased_slots w) i.1) i.2), HaveOwnAnswers-alternatives l g z i.4)
    HaveOwnAnswers-alternatives (alternative (frame s Closed w) l) g z i =
        (SlotsHaveOwn-weak w s.next (subst (λ b. Weak A b (erased_slots w)) (next_of-forked s (erased_slots w) i.1) i.2), HaveOwnAnswers-alternatives l g z i.4)

    SlotsHaveOwn-strong : (w : Slots) (b : ℕ) → Strong A b (erased_slots w) → SlotsHaveOwn b w
    SlotsHaveOwn-strong no_slot b i = tt
    SlotsHaveOwn-strong (slot g k (idle j) w) b i = (tt, SlotsHaveOwn-strong w b i.1)
    SlotsHaveOwn-strong (slot g k (stored m) w) b i = (tt, SlotsHaveOwn-strong w b i.2)
    SlotsHaveOwn-strong (slot g k (busy x t) w) b i = (HasOwnAnswers-task t g b i.1, SlotsHaveOwn-strong w b i.3)
    SlotsHaveOwn-strong (slot g k (held m a t c) w) b i = ((i.2, HasOwnAnswers-task t g b i.1), SlotsHaveOwn-strong w b i.5)
    SlotsHaveOwn-strong (slot g k (redone m x t j) w) b i = absurd i
    SlotsHaveOwn-strong (slot g k (again m a t c) w) b i = absurd i
    SlotsHaveOwn-strong (slot g k (drained m x t j e) w) b i = (HasOwnAnswers-task t g b i.1, SlotsHaveOwn-strong w b i.5)

    SlotsHaveOwn-pivot : (w : Slots) (b : ℕ) → Pivot A b (erased_slots w) → SlotsHaveOwn b w
    SlotsHaveOwn-pivot no_slot b i = tt
    SlotsHaveOwn-pivot (slot g k (idle j) w) b i = absurd i
    SlotsHaveOwn-pivot (slot g k (stored m) w) b i = absurd i
    SlotsHaveOwn-pivot (slot g k (busy x t) w) b i = absurd i
    SlotsHaveOwn-pivot (slot g k (held m a t c) w) b i = ((i.2, HasOwnAnswers-task t g b i.1), SlotsHaveOwn-pivot w b i.4)
    SlotsHaveOwn-pivot (slot g k (redone m x t j) w) b i = (HasOwnAnswers-task t g b i.1, SlotsHaveOwn-strong w b i.2)
    SlotsHaveOwn-pivot (slot g k (again m a t c) w) b i = ((i.2, HasOwnAnswers-task t g b i.1), SlotsHaveOwn-strong w b i.4)
    SlotsHaveOwn-pivot (slot g k (drained m x t j e) w) b i = absurd i

    SlotsHaveOwn-weak : (w : Slots) (b : ℕ) → Weak A b (erased_slots w) → SlotsHaveOwn b w
    SlotsHaveOwn-weak no_slot b i = tt
    SlotsHaveOwn-weak (slot g k (idle j) w) b i = (tt, SlotsHaveOwn-weak w b i.1)
    SlotsHaveOwn-weak (slot g k (stored m) w) b i = (tt, SlotsHaveOwn-weak w b i.2)
    SlotsHaveOwn-weak (slot g k (busy x t) w) b i = (HasOwnAnswers-task t g b i.1, SlotsHaveOwn-weak w b i.2)
    SlotsHaveOwn-weak (slot g k (held m a t c) w) b i = ((i.2, HasOwnAnswers-task t g b i.1), SlotsHaveOwn-weak w b i.4)
    SlotsHaveOwn-weak (slot g k (redone m x t j) w) b i = (HasOwnAnswers-task t g b i.1, SlotsHaveOwn-weak w b i.2)
    SlotsHaveOwn-weak (slot g k (again m a t c) w) b i = ((i.2, HasOwnAnswers-task t g b i.1), SlotsHaveOwn-weak w b i.4)
    SlotsHaveOwn-weak (slot g k (drained m x t j e) w) b i = (HasOwnAnswers-task t g b i.1, SlotsHaveOwn-weak w b i.2)

-- the outcomes of answers are their tuples
outcomes-answers : (l : List Plain) → AllByRecursion IsAnswer l → map outcome l ≡ map found_answer (map tuple_of l)
outcomes-answers [] h = refl
outcomes-answers (plain.state none T n k ∷ l) h = ap (λ z. found_answer T ∷ z) (outcomes-answers l h.1)
outcomes-answers (plain.state (more g G) T n k ∷ l) h = absurd h.0
outcomes-answers (plain.faulted e k ∷ l) h = absurd h.0

pub reached_by_events : ReachedLaw
reached_by_events p good heeds q below full rest events c h =
    let i = all p good heeds q below full rest events (beginning p q rest) c h (begins p good heeds q below full rest) in
    let r = rejoin p.program good q below full i.found (erased c.root) i.runs in
    let a = λ (line : Trees → List ℕ). emitted_lines line p.program good q below full i.found (erased c.root) i.runs in
    let o : map outcome i.found ≡ map found_answer c.emitted = outcomes-answers i.found (AreAnswers-Runs (plain_ways p.program) i.runs) ∙ ap (map found_answer) i.same in (
      (
        λ line. subst (λ z. Begins line p.program q (map line z)) i.same (a line).0,
        λ e line. subst (λ z. IsAllUpTo line p.program q None (map line z)) i.same ((a line).1 (IsExhausted-erased c.root e)),
        λ f e line. subst (λ z. IsAllUpTo line p.program q (Some f) (map line z)) i.same ((a line).2 f (subst (λ b. RootStands b rest c.root) e i.stands)),
        λ e. subst (λ z. IsOnTheWay (meets p.program rest (q ∷ [])) z) o (r.2 rest (subst (λ b. RootStands b rest c.root) e i.stands)),
      ),
      subst (λ z. IsRejoined p.program q z (flat_task (erased c.root)) (left (erased c.root))) o r.0,
      r.1,
      HasOwnAnswers-task (plain_ways p.program) c.root (node 0 q.tuple) 0 (tasks p good heeds q below full rest i.runs),
    )

-- ---- events keep the rules

rules-mapped : {A : Type 0} (f : A → Core) (o : Option A) (p : Rules) (d : Core) → ((x : A) → (f x).rules ≡ p) → mapped f o ≡ Some d → d.rules ≡ p
rules-mapped f o p d same h = let x = Some-mapped f o d h in ap (λ c. c.rules) (sym x.1.1) ∙ same x.0

rules-only_if : (b : Bool) (c d : Core) → only_if b c ≡ Some d → d.rules ≡ c.rules
rules-only_if b c d h = ap (λ x. x.rules) (sym (Some-only_if b c d h).1)

rules-at_root : (k : Kind) (c d : Core) → at_root k c ≡ Some d → d.rules ≡ c.rules
rules-at_root kinds.Infer c d h = rules-mapped (with_root c) (own c.rules kinds.Infer c.root) c.rules d (λ x. refl) h
rules-at_root kinds.Fork c d h = rules-mapped (with_root c) (own c.rules kinds.Fork c.root) c.rules d (λ x. refl) h
rules-at_root kinds.Start c d h = absurd (cc)
rules-at_root kinds.Answer c d h = rules-mapped (emitting c) (answer c.root) c.rules d (λ x. refl) h
rules-at_root kinds.Fail c d h = rules-only_if (is_exhausted c.root) c d h
rules-at_root kinds.Spend c d h = rules-only_if (has_spent c.rules.loud c.root) (with_status c NoBudget) d h
rules-at_root kinds.Stop c d h = absurd (cc)
rules-at_root kinds.Stopped c d h = absurd (cc)
rules-at_root kinds.Join c d h = rules-mapped (with_root c) (own c.rules kinds.Join c.root) c.rules d (λ x. refl) h
rules-at_root kinds.Break c d h = rules-mapped (with_root c) (own c.rules kinds.Break c.root) c.rules d (λ x. refl) h
rules-at_root kinds.Redo c d h = rules-mapped (with_root c) (own c.rules kinds.Redo c.root) c.rules d (λ x. refl) h
rules-at_root kinds.Restart c d h = rules-mapped (with_root c) (own c.rules kinds.Restart c.root) c.rules d (λ x. refl) h
rules-at_root kinds.Raise c d h = rules-mapped (λ e. with_status c (HasRaised e)) (met c.rules.loud c.root) c.rules d (λ x. refl) h
rules-at_root kinds.Drain c d h = rules-mapped (with_root c) (own c.rules kinds.Drain c.root) c.rules d (λ x. refl) h
rules-at_root kinds.Forget c d h = absurd (cc)
rules-at_root kinds.Replay c d h = rules-mapped (with_root c) (own c.rules kinds.Replay c.root) c.rules d (λ x. refl) h

rules-after : (k : Kind) (path : List ℕ) (c d : Core) → after k path c ≡ Some d → d.rules ≡ c.rules
rules-after k path c d h = go c.status h
  where
    walk : (path : List ℕ) → along k path c ≡ Some d → d.rules ≡ c.rules
    walk [] e = rules-at_root k c d e
    walk (j ∷ path) e = rules-mapped (with_root c) (in_task c.rules k j path c.root) c.rules d (λ x. refl) e

    go : (b : Status) → while_going b (along k path c) ≡ Some d → d.rules ≡ c.rules
    go GoingOn e = walk path e
    go NoBudget e = absurd (cc)
    go (HasRaised f) e = absurd (cc)

rules-after_all : (events : List Happening) (c d : Core) → after_all events c ≡ Some d → d.rules ≡ c.rules
rules-after_all [] c d h = let e : c ≡ d = cc in ap (λ x. x.rules) (sym e)
rules-after_all (e ∷ events) c d h = go (after e.0 e.1 c) refl h (λ x k. rules-after_all events x d k)
  where
    go : (o : Option Core) → after e.0 e.1 c ≡ o → reached.and_then o (after_all events) ≡ Some d → ((x : Core) → after_all events x ≡ Some d → d.rules ≡ x.rules) → d.rules ≡ c.rules
    go None k h rec = absurd (cc)
    go (Some x) k h rec = rec x h ∙ rules-after e.0 e.1 c x k

pub emitted_by_events : (c : Core) → Tells c.rules.loud c.rules.program → IsEmitted c.emitted c
emitted_by_events c tells p program asked good question same rest events h =
    let d = query asked question in
    let ok : IsProgram p.program = subst IsProgram (sym same) (d.2 program good) in
    let told : Tells p.loud p.program = subst (λ r. Tells r.loud r.program) (rules-after_all events (beginning p (start asked) rest) c h) tells in
    (reached_by_events p ok (heeds p.program ok p.loud told) (start asked) d.0 d.1 rest events c h).0
