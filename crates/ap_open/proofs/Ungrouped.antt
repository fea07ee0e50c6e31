-- Searches of goals without groups: the core makes just the calls of sequential search.
use Rattle.std.proofs.Common.{◌≡◌, ℕ, zero, suc, ◌+◌, ◌-◌, Bool, true, false, ◌&&◌, nat_lt, List, [], ◌∷◌, ◌++◌, map, Option, Some, None, is_none, append_assoc, refl, ap, ap₂, sym, ◌∙◌, subst, arith}
use Rattle.std.proofs.lemmas.Bool.{false≢true}
use Rattle.std.proofs.lemmas.List.{map-append}
use Rattle.std.proofs.lemmas.Option.{none-some, same_Some}
use Rattle.std.specs.List.{AllByRecursion, flat_map, list_all}
use Rattle.ap_term.specs.declared.faults.Fault.{Fault}
use Rattle.ap_term.specs.Tree.{Tree, Trees}
use Rattle.ap_term.specs.Substitution.{Subst, value, shift}
use Rattle.ap_term.specs.Goals.{Part, call, group, Clause, Program, Query, joined, instance_part, opened}
use Rattle.ap_term.specs.Blocks.{IsPrefix}
use Rattle.ap_term.specs.Search.{State, Outcome, answer, outcome_by, outcome_of, Met, with_outcomes, Way, way_if, clause_way, ways_by, ways_unless, ways, unless, child, children_by, children, by_goals, done, open_states, turn, meets, cut, or_ended, search}
use Rattle.ap_term.specs.Unification.{mgu}
use Rattle.ap_term.specs.Substitution.{instance}
use Rattle.ap_term.specs.Builtins.{builtin}
use Rattle.ap_term.specs.Faults.{fault_of}
use Rattle.ap_term.proofs.Zips.{AllByRecursion-append}
use Rattle.ap_core.specs.declared.events.Kind.{Kind}
use Rattle.ap_core.specs.declared.events.Kind.TheVariants as kinds
use Rattle.ap_core.specs.declared.tasks.Status.{Status}
use Rattle.ap_core.specs.declared.tasks.Status.TheVariants as statuses
use Rattle.ap_core.specs.declared.tasks.Round.TheVariants.{First}
use Rattle.ap_core.specs.Tasks.{Answer, Task, task, Alternatives, exhausted, alternative, state, frame}
use Rattle.ap_core.specs.Conditions.{has_goals, is_done, is_exhausted, spent_by}
use Rattle.ap_core.specs.Relation as relation
use Rattle.ap_core.specs.Relation.{Rules, Core, only_if, mapped, states, inferred, ready, fork_goals, forked, broken, drain, redo, readied, replayed, begun_anew, own, has_spent, met, emitting, with_root, with_status, at_root, along, while_going, after, in_task}
use Rattle.ap_core.specs.Reached.{Happening, beginning, after_all, and_then}
use Rattle.ap_core.proofs.Options.{Some-only_if}
use Rattle.ap_instr.specs.StandsFor.{asked_query}
use Rattle.ap_open.specs.Ungrouped.{AreCalls, IsUngrouped}

-- ---- parts

calls_append : (ps qs : List Part) → AreCalls ps → AreCalls qs → AreCalls (ps ++ qs)
calls_append [] qs h k = k
calls_append (call g ∷ ps) qs h k = calls_append ps qs h k
calls_append (group cs gs ∷ ps) qs h k = absurd h

calls_map : (f : ℕ → Tree) (ps : List Part) → AreCalls ps → AreCalls (map (instance_part f) ps)
calls_map f [] h = h
calls_map f (call g ∷ ps) h = calls_map f ps h
calls_map f (group cs gs ∷ ps) h = absurd h

-- ---- children

abbrev GoCalling : List Way → Type 0
GoCalling ws = AllByRecursion (λ w. AreCalls w.body) ws

abbrev Call : List State → Type 0
Call ss = AllByRecursion (λ s. AreCalls s.goals) ss

way_calls : (o : Option Subst) (body : List Part) (takes : ℕ) → AreCalls body → GoCalling (way_if o body takes)
way_calls None body takes h = tt
way_calls (Some s) body takes h = (h, tt)

clause_ways : (p : Program) (next : ℕ) (g : Tree) → IsUngrouped p → GoCalling (flat_map (clause_way next g) p)
clause_ways [] next g h = tt
clause_ways (c ∷ p) next g h =
    AllByRecursion-append (λ w. AreCalls w.body) (clause_way next g c) (flat_map (clause_way next g) p)
    (way_calls (mgu g (instance (shift next) c.head)) (map (instance_part (shift next)) c.body) (c.vars + 1) (calls_map (shift next) c.body h.0))
    (clause_ways p next g h.1)

by_answer : (p : Program) (next : ℕ) (g : Tree) (o : Option (Option Subst)) → IsUngrouped p → GoCalling (ways_by p next g o)
by_answer p next g None h = clause_ways p next g h
by_answer p next g (Some o) h = way_calls o [] 0 tt

by_fault : (o : Option Fault) (ws : List Way) → GoCalling ws → GoCalling (ways_unless o ws)
by_fault None ws h = h
by_fault (Some e) ws h = (tt, tt)

ways_call : (p : Program) (next : ℕ) (g : Tree) → IsUngrouped p → GoCalling (ways p next g)
ways_call p next g h = by_fault (fault_of g) (ways_by p next g (builtin g)) (by_answer p next g (builtin g) h)

unless_calls : (o : Option Fault) (ps : List Part) → AreCalls ps → AreCalls (unless o ps)
unless_calls None ps h = h
unless_calls (Some e) ps h = tt

children_call : (s : State) (rest : List Part) (ws : List Way) → AreCalls rest → GoCalling ws → Call (map (child s rest) ws)
children_call s rest [] h k = tt
children_call s rest (w ∷ ws) h k = (
  unless_calls w.fault (map (instance_part (value w.binds)) (w.body ++ rest)) (calls_map (value w.binds) (w.body ++ rest) (calls_append w.body rest k.0 h)),
  children_call s rest ws h k.1,
)

goals_call : (p : Program) (s : State) (ps : List Part) → IsUngrouped p → AreCalls ps → Call (children_by p s (opened ps))
goals_call p s [] h k = tt
goals_call p s (call g ∷ ps) h k = children_call s ps (ways p s.next g) k (ways_call p s.next g h)
goals_call p s (group cs gs ∷ ps) h k = absurd k

-- ---- sequential search

-- behind an answer
past_answer : (p : Program) (n : ℕ) (s : State) (ss : List State) → s.goals ≡ [] → s.fault ≡ None → meets p n (s ∷ ss) ≡ with_outcomes (answer s.tuple ∷ []) (meets p n ss)
past_answer p n s ss e f = go n (ap (λ gs. by_goals gs (open_states ss) (s ∷ ss)) e) (ap (λ gs. by_goals gs (outcome_of s ∷ done ss) []) e ∙ ap (λ o. outcome_by o s.tuple ∷ done ss) f)
  where
    go : (n : ℕ) → open_states (s ∷ ss) ≡ open_states ss → done (s ∷ ss) ≡ answer s.tuple ∷ done ss → meets p n (s ∷ ss) ≡ with_outcomes (answer s.tuple ∷ []) (meets p n ss)
    go zero k d = ap₂ (λ os us. with_outcomes os (turn (λ t ts. record { outcomes = []; ended = false }) us)) d k
    go (suc n) k d = ap₂ (λ os us. with_outcomes os (turn (λ t ts. meets p n (children p t ++ ts)) us)) d k

-- at a state with goals
at_call : (p : Program) (n : ℕ) (s : State) (ss : List State) → has_goals s ≡ true → meets p (suc n) (s ∷ ss) ≡ meets p n (children p s ++ ss)
at_call p n s ss e = let g = goals s.goals refl in ap₂ (λ os us. with_outcomes os (turn (λ t ts. meets p n (children p t ++ ts)) us)) g.0 g.1
  where
    goals : (gs : List Part) → s.goals ≡ gs → (by_goals s.goals (outcome_of s ∷ done ss) [] ≡ []) × (by_goals s.goals (open_states ss) (s ∷ ss) ≡ s ∷ ss)
    goals [] k = absurd (false≢true (ap (λ gs. by_goals gs false true) (sym k) ∙ e))
    goals (g ∷ gs) k = (ap (λ us. by_goals us (outcome_of s ∷ done ss) []) k, ap (λ us. by_goals us (open_states ss) (s ∷ ss)) k)

-- ---- the core

states_append : (xs ys : List State) (l : Alternatives) → states (xs ++ ys) l ≡ states xs (states ys l)
states_append [] ys l = refl
states_append (x ∷ xs) ys l = ap (alternative (state x)) (states_append xs ys l)

-- With some calls more sequential search has met what was emitted, and then what it meets from the states that are left.
record Left (p : Rules) (q : State) (c : Core) : Type 0 where
  pub rest : ℕ
  pub spent : ℕ
  pub left : List State
  pub rules : c.rules ≡ p
  pub root : c.root ≡ task rest spent (states left exhausted)
  pub calls : Call left
  pub same : (n : ℕ) → meets p.program (spent + n) (q ∷ []) ≡ with_outcomes (map answer c.emitted) (meets p.program n left)

mapped_is : {A B : Type 0} (f : A → B) (o : Option A) (y : B) → mapped f o ≡ Some y → (x : A) × (o ≡ Some x) × (f x ≡ y)
mapped_is f None y h = absurd (none-some _ h)
mapped_is f (Some x) y h = (x, refl, same_Some _ _ h)

no_fork : (ps : List Part) → AreCalls ps → fork_goals ps ≡ None
no_fork [] h = refl
no_fork (call g ∷ ps) h = refl
no_fork (group cs gs ∷ ps) h = absurd h

both : (a b : Bool) → (a && b) ≡ true → (a ≡ true) × (b ≡ true)
both true true h = (refl, refl)
both true false h = absurd (false≢true h)
both false true h = absurd (false≢true h)
both false false h = absurd (false≢true h)

module _ (p : Rules) (q : State) (plain : IsUngrouped p.program) where
  infers : (c d : Core) (rest spent : ℕ) (ss : List State) → c.rules ≡ p → Call ss → ((n : ℕ) → meets p.program (spent + n) (q ∷ []) ≡ with_outcomes (map answer c.emitted) (meets p.program n ss))
      → mapped (with_root c) (inferred p.program (task rest spent (states ss exhausted))) ≡ Some d → Left p q d
  infers c d rest spent [] is k same h = absurd (none-some _ h)
  infers c d rest spent (s ∷ ss) is k same h =
      let t = task (rest - 1) (spent + 1) (states (children p.program s) (states ss exhausted)) in
      let m = mapped_is (with_root c) (only_if (has_goals s && nat_lt 0 rest) t) d h in
      let o = Some-only_if (has_goals s && nat_lt 0 rest) t m.0 m.1 in
      let due = both (has_goals s) (nat_lt 0 rest) o.0 in
      subst (Left p q) m.2 (record {
        rest = rest - 1;
        spent = spent + 1;
        left = children p.program s ++ ss;
        rules = is;
        root = sym o.1 ∙ ap (task (rest - 1) (spent + 1)) (sym (states_append (children p.program s) ss exhausted));
        calls = AllByRecursion-append (λ s. AreCalls s.goals) (children p.program s) ss (goals_call p.program s s.goals plain k.0) k.1;
        same = λ n. ap (λ i. meets p.program i (q ∷ [])) (next spent n) ∙ same (suc n) ∙ ap (with_outcomes (map answer c.emitted)) (at_call p.program n s ss due.0);
      })
    where
      next : (a n : ℕ) → (a + 1) + n ≡ a + suc n
      next a n = omega arith

  forks : (c d : Core) (rest spent : ℕ) (ss : List State) → Call ss → mapped (with_root c) (own p kinds.Fork (task rest spent (states ss exhausted))) ≡ Some d → ⊥
  forks c d rest spent [] k h = none-some _ h
  forks c d rest spent (s ∷ ss) k h =
      none-some _ (ap (λ o. mapped (with_root c) (mapped (λ gs. task rest spent (alternative (frame s First (ready gs)) (states ss exhausted))) o)) (sym (no_fork s.goals k.0)) ∙ h)

  answers : (c d : Core) (rest spent : ℕ) (ss : List State) → c.rules ≡ p → Call ss → ((n : ℕ) → meets p.program (spent + n) (q ∷ []) ≡ with_outcomes (map answer c.emitted) (meets p.program n ss))
      → mapped (emitting c) (relation.answer (task rest spent (states ss exhausted))) ≡ Some d → Left p q d
  answers c d rest spent [] is k same h = absurd (none-some _ h)
  answers c d rest spent (s ∷ ss) is k same h =
      let y : Answer × Task = (record { tuple = s.tuple; next = s.next; steps = s.steps }, task rest spent (states ss exhausted)) in
      let m = mapped_is (emitting c) (only_if (is_done s) y) d h in
      let o = Some-only_if (is_done s) y m.0 m.1 in
      subst (Left p q) (ap (emitting c) o.1 ∙ m.2) (record {
        rest = rest;
        spent = spent;
        left = ss;
        rules = is;
        root = refl;
        calls = k.1;
        same = λ n.
            let is = no_goals s.goals o.0 in
            same n ∙ ap (with_outcomes (map answer c.emitted)) (past_answer p.program n s ss is.0 (no_fault s.fault is.1)) ∙ one_more c.emitted s.tuple (meets p.program n ss);
      })
    where
      no_goals : (gs : List Part) → by_goals gs (is_none s.fault) false ≡ true → (gs ≡ []) × (is_none s.fault ≡ true)
      no_goals [] e = (refl, e)
      no_goals (g ∷ gs) e = absurd (false≢true e)

      no_fault : (o : Option Fault) → is_none o ≡ true → o ≡ None
      no_fault None e = refl
      no_fault (Some e) h = absurd (false≢true h)

      one_more : (ts : List Trees) (t : Trees) (f : Met) → with_outcomes (map answer ts) (with_outcomes (answer t ∷ []) f) ≡ with_outcomes (map answer (ts ++ t ∷ [])) f
      one_more ts t f =
          ap (λ os. record { outcomes = os; ended = f.ended }) (sym (append_assoc (map answer ts) (answer t ∷ []) f.outcomes) ∙ ap (λ os. os ++ f.outcomes) (sym (map-append answer ts (t ∷ []))))

  -- where no frame is left
  no_frame : (c d : Core) (rest spent : ℕ) (ss : List State) (f : Task → Option Task) → f (task rest spent exhausted) ≡ None → ((s : State) (l : Alternatives) → f (task rest spent (alternative (state s) l)) ≡ None)
      → mapped (with_root c) (f (task rest spent (states ss exhausted))) ≡ Some d → ⊥
  no_frame c d rest spent [] f e k h = none-some _ (ap (mapped (with_root c)) (sym e) ∙ h)
  no_frame c d rest spent (s ∷ ss) f e k h = none-some _ (ap (mapped (with_root c)) (sym (k s (states ss exhausted))) ∙ h)

  -- with the same root
  kept : (c d : Core) → c.rules ≡ d.rules → c.root ≡ d.root → c.emitted ≡ d.emitted → Left p q c → Left p q d
  kept c d is same put l = record {
    rest = l.rest;
    spent = l.spent;
    left = l.left;
    rules = sym is ∙ l.rules;
    root = sym same ∙ l.root;
    calls = l.calls;
    same = λ n. l.same n ∙ ap (λ ts. with_outcomes (map answer ts) (meets p.program n l.left)) put;
  }

  at_the_root : (k : Kind) (c d : Core) → Left p q c → at_root k c ≡ Some d → Left p q d
  at_the_root kinds.Infer c d l h = infers c d l.rest l.spent l.left l.rules l.calls l.same (ap₂ (λ r t. mapped (with_root c) (inferred r.program t)) (sym l.rules) (sym l.root) ∙ h)
  at_the_root kinds.Fork c d l h = absurd (forks c d l.rest l.spent l.left l.calls (ap (λ t. mapped (with_root c) (forked t)) (sym l.root) ∙ h))
  at_the_root kinds.Start c d l h = absurd (none-some _ h)
  at_the_root kinds.Answer c d l h = answers c d l.rest l.spent l.left l.rules l.calls l.same (ap (λ t. mapped (emitting c) (relation.answer t)) (sym l.root) ∙ h)
  at_the_root kinds.Fail c d l h = subst (Left p q) (Some-only_if (is_exhausted c.root) c d h).1 l
  at_the_root kinds.Spend c d l h =
      subst (Left p q) (Some-only_if (has_spent c.rules.loud c.root) (with_status c statuses.NoBudget) d h).1 (kept c (with_status c statuses.NoBudget) refl refl refl l)
  at_the_root kinds.Stop c d l h = absurd (none-some _ h)
  at_the_root kinds.Stopped c d l h = absurd (none-some _ h)
  at_the_root kinds.Join c d l h = absurd (no_frame c d l.rest l.spent l.left (relation.joined c.rules.loud) refl (λ s m. refl) (ap (λ t. mapped (with_root c) (relation.joined c.rules.loud t)) (sym l.root) ∙ h))
  at_the_root kinds.Break c d l h = absurd (no_frame c d l.rest l.spent l.left (broken c.rules.loud) refl (λ s m. refl) (ap (λ t. mapped (with_root c) (broken c.rules.loud t)) (sym l.root) ∙ h))
  at_the_root kinds.Redo c d l h = absurd (no_frame c d l.rest l.spent l.left redo refl (λ s m. refl) (ap (λ t. mapped (with_root c) (redo t)) (sym l.root) ∙ h))
  at_the_root kinds.Restart c d l h = absurd (no_frame c d l.rest l.spent l.left (begun_anew readied) refl (λ s m. refl) (ap (λ t. mapped (with_root c) (begun_anew readied t)) (sym l.root) ∙ h))
  at_the_root kinds.Raise c d l h =
      let m = mapped_is (λ e. with_status c (statuses.HasRaised e)) (met c.rules.loud c.root) d h in
      subst (Left p q) m.2 (kept c (with_status c (statuses.HasRaised m.0)) refl refl refl l)
  at_the_root kinds.Drain c d l h = absurd (no_frame c d l.rest l.spent l.left (drain c.rules.loud) refl (λ s m. refl) (ap (λ t. mapped (with_root c) (drain c.rules.loud t)) (sym l.root) ∙ h))
  at_the_root kinds.Forget c d l h = absurd (none-some _ h)
  at_the_root kinds.Replay c d l h = absurd (no_frame c d l.rest l.spent l.left (begun_anew replayed) refl (λ s m. refl) (ap (λ t. mapped (with_root c) (begun_anew replayed t)) (sym l.root) ∙ h))

  within : (k : Kind) (i : ℕ) (path : List ℕ) (c d : Core) → Left p q c → mapped (with_root c) (in_task c.rules k i path c.root) ≡ Some d → ⊥
  within k i path c d l h =
      no_frame c d l.rest l.spent l.left (in_task c.rules k i path) refl (λ s m. refl) (ap (λ t. mapped (with_root c) (in_task c.rules k i path t)) (sym l.root) ∙ h)

  goes : (k : Kind) (path : List ℕ) (c d : Core) → Left p q c → after k path c ≡ Some d → Left p q d
  goes k path c d l h = by c.status path h
    where
      by : (g : Status) (path : List ℕ) → while_going g (along k path c) ≡ Some d → Left p q d
      by statuses.GoingOn [] h = at_the_root k c d l h
      by statuses.GoingOn (i ∷ path) h = absurd (within k i path c d l h)
      by statuses.NoBudget path h = absurd (none-some _ h)
      by (statuses.HasRaised e) path h = absurd (none-some _ h)

  leads : (events : List Happening) (c d : Core) → Left p q c → after_all events c ≡ Some d → Left p q d
  leads [] c d l h = subst (Left p q) (same_Some _ _ h) l
  leads (e ∷ events) c d l h = by (λ b m k. leads events b d m k) (after e.0 e.1 c) refl h
    where
      by : ((b : Core) → Left p q b → after_all events b ≡ Some d → Left p q d) → (o : Option Core) → after e.0 e.1 c ≡ o → and_then o (after_all events) ≡ Some d → Left p q d
      by on None is h = absurd (none-some _ h)
      by on (Some b) is h = on b (goes e.0 e.1 c b l is) h

  zero_plus : (n : ℕ) → 0 + n ≡ n
  zero_plus n = omega arith

  begins : (rest : ℕ) → AreCalls q.goals → Left p q (beginning p q rest)
  begins rest k = record { rest = rest; spent = 0; left = q ∷ []; rules = refl; root = refl; calls = (k, tt); same = λ n. ap (λ i. meets p.program i (q ∷ [])) (zero_plus n) }

all_ended : (o : Option Fault) → or_ended o true ≡ true
all_ended None = refl
all_ended (Some e) = refl

answers_first : (ts : List Trees) (os : List Outcome) → (cut (map answer ts ++ os)).tuples ≡ ts ++ (cut os).tuples
answers_first [] os = refl
answers_first (t ∷ ts) os = ap (λ us. t ∷ us) (answers_first ts os)

module _ (p : Rules) (q : State) (plain : IsUngrouped p.program) (calls : AreCalls q.goals) (rest : ℕ) (events : List Happening) (c : Core) (led : after_all events (beginning p q rest) ≡ Some c) where
  met_so_far : (l : Left p q c) → meets p.program (spent_by c.root) (q ∷ []) ≡ with_outcomes (map answer c.emitted) (meets p.program 0 l.left)
  met_so_far l =
      let n : spent_by c.root ≡ l.spent + 0 = (let k : spent_by c.root ≡ l.spent = ap spent_by l.root in omega arith) in
      ap (λ i. meets p.program i (q ∷ [])) n ∙ l.same 0

  -- its root has states alone
  pub only_states : (r s : ℕ) × (left : List State) × (c.root ≡ task r s (states left exhausted))
  only_states = let l = leads p q plain events (beginning p q rest) c (begins p q plain rest calls) led in (l.rest, l.spent, l.left, l.root)

  -- with as many calls as the root has made sequential search finds what was emitted
  pub finds_all : IsPrefix c.emitted (search p.program (spent_by c.root) (q ∷ [])).answers
  finds_all =
      let l = leads p q plain events (beginning p q rest) c (begins p q plain rest calls) led in
      ((cut (meets p.program 0 l.left).outcomes).tuples, sym (ap (λ f. (cut f.outcomes).tuples) (met_so_far l) ∙ answers_first c.emitted (meets p.program 0 l.left).outcomes))

  -- and it ends with them where the root is done
  pub ends_then : is_exhausted c.root ≡ true → (search p.program (spent_by c.root) (q ∷ [])).ended ≡ true
  ends_then done = by (leads p q plain events (beginning p q rest) c (begins p q plain rest calls) led)
    where
      by : Left p q c → (search p.program (spent_by c.root) (q ∷ [])).ended ≡ true
      by l = at_end l.left (ap is_exhausted (sym l.root) ∙ done) (met_so_far l)
        where
          at_end : (ss : List State) → is_exhausted (task l.rest l.spent (states ss exhausted)) ≡ true → meets p.program (spent_by c.root) (q ∷ []) ≡ with_outcomes (map answer c.emitted) (meets p.program 0 ss)
              → (search p.program (spent_by c.root) (q ∷ [])).ended ≡ true
          at_end [] e same =
              ap (or_ended (cut (meets p.program (spent_by c.root) (q ∷ [])).outcomes).fault) (ap (λ f. f.ended) same) ∙ all_ended (cut (meets p.program (spent_by c.root) (q ∷ [])).outcomes).fault
          at_end (s ∷ ss) e same = absurd (false≢true e)

-- ---- the query as it is asked

pub asked_ungrouped : (a : Program) (q : Query) → IsUngrouped (joined a q) → IsUngrouped (joined a (asked_query q)) × AreCalls q.question.body
asked_ungrouped [] q h = (h, h.0)
asked_ungrouped (c ∷ a) q h = let r = asked_ungrouped a q h.1 in ((h.0, r.0), r.1)
