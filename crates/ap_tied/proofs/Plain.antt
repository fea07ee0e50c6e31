-- A group whose goals are called one after another, and one that is cut off.
use Rattle.std.proofs.Common.{◌≡◌, ℕ, ◌+◌, inr, List, [], ◌∷◌, Some, refl, sym, ◌∙◌, subst, arith}
use Rattle.std.specs.Prelude.{slice_get}
use Rattle.std.specs.List.{AllByRecursion}
use Rattle.ap_tracked.specs.Sets.{SameSet}
use Rattle.ap_term.specs.declared.clauses.Check.{Check}
use Rattle.ap_term.specs.declared.clauses.Check.TheVariants.{Ground, Indep}
use Rattle.ap_term.specs.Tree.{Tree, Trees, none, more, count_trees, append_trees}
use Rattle.ap_term.specs.Substitution.{instance_all}
use Rattle.ap_term.proofs.TreeLists.{same_integer}
use Rattle.ap_cells.specs.declared.cells.Raw.{Raw}
use Rattle.ap_core.specs.Tasks.{state}
use Rattle.ap_tracked.specs.Tracked.{Goal, fork, Tracked, untracked}
use Rattle.ap_tracked.specs.Marks.{ground_mark, apart_mark, group_mark, check_marks, marked, Unmarked, past_ground, past_apart, past_group, opening}
use Rattle.ap_tracked.specs.Instances.{Inst}
use Rattle.ap_graft.specs.Variables.{LocalGoal, Below, NoneBehind}
use Rattle.ap_graft.proofs.Variables.{over-opened}
use Rattle.ap_instr.specs.declared.instruction.Instr.{Instr}
use Rattle.ap_instr.specs.declared.instruction.Instr.TheVariants.{CheckGround, CheckIndep, AllocParcall}
use Rattle.ap_instr.specs.Code.{Compiled}
use Rattle.ap_instr.specs.Groups.{otherwise, rest_of, AsksUnmarked}
use Rattle.ap_instr.specs.Step.{Step, check_ground, check_indep, group, push}
use Rattle.ap_instr.specs.Steps.{steps_from}
use Rattle.ap_instr.specs.Runs.{Runs, read}
use Rattle.ap_steps.specs.Moves.{held, Asked}
use Rattle.ap_steps.specs.Standing.{InCode}
use Rattle.ap_standing.specs.Machine.{inside, failed, Machine, standing}
use Rattle.ap_standing.specs.Holds.{IsPlain, Holds}
use Rattle.ap_standing.proofs.Machines.{steps-at}
use Rattle.ap_standing.proofs.Named.{named-opened}
use Rattle.ap_standing.proofs.Turns.{SameSet-trans}
use Rattle.ap_group.specs.Groups.{Pushed}
use Rattle.ap_group.specs.Gathers.{IsGroupAt, Passes, begins, is_ground, are_apart, Gathers, there, pushes, moves, ComesToGroup, IsPlainWay, IsCutOff}
use Rattle.ap_tie.specs.Sections.{section, Stack}
use Rattle.ap_tie.specs.Settled.{AreClosed}
use Rattle.ap_tie.specs.Grouping.{MarksLeft, NoMarkLeft}
use Rattle.ap_tie.proofs.Grouping.{marking}
use Rattle.ap_tied.specs.Ties.{Goes}
use Rattle.ap_tied.proofs.Common.{closed_in_order, closed_in_round}
use Rattle.ap_tied.proofs.Gathered.{AtGroup, at-group, pass}

-- ---- marks that are passed over

unmarked-append : (ms us qs : Trees) → Unmarked ms us → Unmarked (append_trees ms qs) (append_trees us qs)
unmarked-append ms us qs (past_ground {ts = ts} h) = past_ground (unmarked-append ts us qs h)
unmarked-append ms us qs (past_apart {ts = ts} h) = past_apart (unmarked-append ts us qs h)
unmarked-append ms us qs (past_group n) = past_group n

-- what is left without the marks of a group's instance is just its goals
only-unmarked : (f own : ℕ → Tree) (cs : List Check) (n : ℕ) (ts ms us : Trees) → Unmarked ms us → ms ≡ instance_all f (check_marks own cs (more (group_mark n) ts)) → us ≡ instance_all f ts
only-unmarked f own [] n ts ms us (past_ground u) e = absurd (let k = same_integer 0 (n + 2) (cc) in omega (arith, k))
only-unmarked f own [] n ts ms us (past_apart u) e = absurd (let k = same_integer 1 (n + 2) (cc) in omega (arith, k))
only-unmarked f own [] n ts ms us (past_group m) e = cc
only-unmarked f own (Ground v ∷ cs) n ts ms us (past_ground u) e = only-unmarked f own cs n ts _ us u (cc)
only-unmarked f own (Ground v ∷ cs) n ts ms us (past_apart u) e = absurd (let k = same_integer 1 0 (cc) in omega (arith, k))
only-unmarked f own (Ground v ∷ cs) n ts ms us (past_group m) e = absurd (let k = same_integer (m + 2) 0 (cc) in omega (arith, k))
only-unmarked f own (Indep v w ∷ cs) n ts ms us (past_ground u) e = absurd (let k = same_integer 0 1 (cc) in omega (arith, k))
only-unmarked f own (Indep v w ∷ cs) n ts ms us (past_apart u) e = only-unmarked f own cs n ts _ us u (cc)
only-unmarked f own (Indep v w ∷ cs) n ts ms us (past_group m) e = absurd (let k = same_integer (m + 2) 1 (cc) in omega (arith, k))

-- code that comes to a group asks for marks first
comes-unmarked : (is : List Step) (x y : ℕ → Tree) (bs : Trees) → ComesToGroup is → Runs is none x y bs → (us : Trees) × Unmarked bs us
comes-unmarked (check_ground v ∷ is) x y bs h (cs, e, r) = let k = comes-unmarked is x y cs h r in (k.0, subst (λ b. Unmarked b k.0) (sym e) (past_ground k.1))
comes-unmarked (check_indep v w ∷ is) x y bs h (cs, e, r) = let k = comes-unmarked is x y cs h r in (k.0, subst (λ b. Unmarked b k.0) (sym e) (past_apart k.1))
comes-unmarked (group n ∷ is) x y bs h (cs, e, r) = (cs, subst (λ b. Unmarked b cs) (sym e) (past_group n))
comes-unmarked is x y bs h r = absurd h

-- ---- a check that leads to the goals one after another

-- A step asks for marks before others, whatever the registers hold.
record AsksMarks (i : Step) : Type 0 where
  marks : (ℕ → Tree) → (ℕ → Tree) → Trees → Trees
  only : (x y : ℕ → Tree) (is : List Step) (bs : Trees) → Runs (i ∷ is) none x y bs → (ms : Trees) × (bs ≡ marks x y ms) × Runs is none x y ms
  each : (x y : ℕ → Tree) (is : List Step) (ms : Trees) → Runs is none x y ms → Runs (i ∷ is) none x y (marks x y ms)
  behind : (x y : ℕ → Tree) (ms qs : Trees) → append_trees (marks x y ms) qs ≡ marks x y (append_trees ms qs)
  unmarks : (x y : ℕ → Tree) (ms us : Trees) → Unmarked ms us → Unmarked (marks x y ms) us

ground-marks : (v : _) → AsksMarks (check_ground v)
ground-marks v = record {
  marks = λ x y ms. more ground_mark (more (read v x y) ms);
  only = λ x y is bs r. r;
  each = λ x y is ms r. (ms, refl, r);
  behind = λ x y ms qs. refl;
  unmarks = λ x y ms us h. past_ground h;
}

apart-marks : (v w : _) → AsksMarks (check_indep v w)
apart-marks v w = record {
  marks = λ x y ms. more apart_mark (more (read v x y) (more (read w x y) ms));
  only = λ x y is bs r. r;
  each = λ x y is ms r. (ms, refl, r);
  behind = λ x y ms qs. refl;
  unmarks = λ x y ms us h. past_apart h;
}

module _ (code : Compiled) (m : Machine) (u : Tracked) (ts : Trees) (own : ℕ → Tree) (gs : List Goal) (from to : ℕ) where
  abbrev Goals : Trees
  Goals = append_trees (instance_all own ts) (marked gs)

  -- where a check leads to, the goals stand without the marks
  led : (i : Step) → AsksMarks i → (cs : List Check) → AsksUnmarked code (from + 1) to → ComesToGroup (steps_from code (from + 1))
      → SameSet (InCode code (standing m) (held m.x) (held m.y) (i ∷ steps_from code (from + 1))) (MarksLeft u cs ts own gs)
      → SameSet (InCode code (standing m) (held m.x) (held m.y) (steps_from code to)) (NoMarkLeft u ts own gs)
  led i a cs leads comes same hs t = (
    λ (k, bs, qs, fits, r, eq, w).
        let x : ℕ → Tree = λ j. k (held m.x j) in
        let y : ℕ → Tree = λ j. k (held m.y j) in
        let d = leads.only x y bs r in
        let z = (same (append_trees (a.marks x y d.0) qs) t).0 (k, a.marks x y d.0, qs, fits, a.each x y (steps_from code (from + 1)) d.0 d.2, refl, w) in
        let n : Unmarked (append_trees (a.marks x y d.0) qs) (append_trees bs qs) = unmarked-append (a.marks x y d.0) bs qs (a.unmarks x y d.0 bs d.1) in
        (z.0, eq ∙ only-unmarked z.0 own cs (count_trees ts) Goals (append_trees (a.marks x y d.0) qs) (append_trees bs qs) n z.1, z.2),
    λ (f, e1, e2). back f e1 e2 ((same (instance_all f (check_marks own cs (more (group_mark (count_trees ts)) Goals))) t).1 (f, refl, e2)),
  )
    where
      back : (f : ℕ → Tree) → hs ≡ instance_all f Goals → t ≡ instance_all f u.tuple → InCode code (standing m) (held m.x) (held m.y) (i ∷ steps_from code (from + 1)) (instance_all f (check_marks own cs (more (group_mark (count_trees ts)) Goals))) t
          → InCode code (standing m) (held m.x) (held m.y) (steps_from code to) hs t
      back f e1 e2 (k, bs, qs, fits, r, eq, w) =
          let x : ℕ → Tree = λ j. k (held m.x j) in
          let y : ℕ → Tree = λ j. k (held m.y j) in
          let d = a.only x y (steps_from code (from + 1)) bs r in
          let v = comes-unmarked (steps_from code (from + 1)) x y d.0 comes d.2 in
          let n : Unmarked bs v.0 = subst (λ b. Unmarked b v.0) (sym d.1) (a.unmarks x y d.0 v.0 v.1) in
          let s : append_trees v.0 qs ≡ instance_all f Goals = only-unmarked f own cs (count_trees ts) Goals (append_trees bs qs) (append_trees v.0 qs) (unmarked-append bs v.0 qs n) (sym eq) in
          (k, v.0, qs, fits, leads.each x y d.0 v.0 v.1 d.2, e1 ∙ sym s, w)

  -- where the beginning of a group's goals leads to
  led-goals : (cs : List Check) → AsksUnmarked code from to → ComesToGroup (steps_from code from)
      → SameSet (InCode code (standing m) (held m.x) (held m.y) (steps_from code from)) (MarksLeft u cs ts own gs)
      → SameSet (InCode code (standing m) (held m.x) (held m.y) (steps_from code to)) (NoMarkLeft u ts own gs)
  led-goals cs leads comes same hs t = (
    λ (k, bs, qs, fits, r, eq, w).
        let x : ℕ → Tree = λ j. k (held m.x j) in
        let y : ℕ → Tree = λ j. k (held m.y j) in
        let d = leads.only x y bs r in
        let z = (same (append_trees d.0 qs) t).0 (k, d.0, qs, fits, d.2, refl, w) in
        let n : Unmarked (append_trees d.0 qs) (append_trees bs qs) = unmarked-append d.0 bs qs d.1 in
        (z.0, eq ∙ only-unmarked z.0 own cs (count_trees ts) Goals (append_trees d.0 qs) (append_trees bs qs) n z.1, z.2),
    λ (f, e1, e2). back f e1 e2 ((same (instance_all f (check_marks own cs (more (group_mark (count_trees ts)) Goals))) t).1 (f, refl, e2)),
  )
    where
      back : (f : ℕ → Tree) → hs ≡ instance_all f Goals → t ≡ instance_all f u.tuple
          → InCode code (standing m) (held m.x) (held m.y) (steps_from code from) (instance_all f (check_marks own cs (more (group_mark (count_trees ts)) Goals))) t
          → InCode code (standing m) (held m.x) (held m.y) (steps_from code to) hs t
      back f e1 e2 (k, bs, qs, fits, r, eq, w) =
          let x : ℕ → Tree = λ j. k (held m.x j) in
          let y : ℕ → Tree = λ j. k (held m.y j) in
          let v = comes-unmarked (steps_from code from) x y bs comes r in
          let s : append_trees v.0 qs ≡ instance_all f Goals = only-unmarked f own cs (count_trees ts) Goals (append_trees bs qs) (append_trees v.0 qs) (unmarked-append bs v.0 qs v.1) (sym eq) in
          (k, v.0, qs, fits, leads.each x y bs v.0 v.1 r, e1 ∙ sym s, w)

  led-by : (i : Instr) (cs : List Check) → slice_get code.instructions from ≡ Some i → otherwise i ≡ Some to → AsksUnmarked code (rest_of i from) to → ComesToGroup (steps_from code from)
      → SameSet (InCode code (standing m) (held m.x) (held m.y) (steps_from code from)) (MarksLeft u cs ts own gs)
      → SameSet (InCode code (standing m) (held m.x) (held m.y) (steps_from code to)) (NoMarkLeft u ts own gs)
  led-by (CheckGround v l) cs e is leads comes same =
      let stands : steps_from code from ≡ check_ground v ∷ steps_from code (from + 1) = steps-at code from (CheckGround v l) e (λ d. cc) in
      led (check_ground v) (ground-marks v) cs leads (subst ComesToGroup stands comes) (subst (λ is. SameSet (InCode code (standing m) (held m.x) (held m.y) is) (MarksLeft u cs ts own gs)) stands same)
  led-by (CheckIndep v w l) cs e is leads comes same =
      let stands : steps_from code from ≡ check_indep v w ∷ steps_from code (from + 1) = steps-at code from (CheckIndep v w l) e (λ d. cc) in
      led (check_indep v w) (apart-marks v w) cs leads (subst ComesToGroup stands comes) (subst (λ is. SameSet (InCode code (standing m) (held m.x) (held m.y) is) (MarksLeft u cs ts own gs)) stands same)
  led-by (AllocParcall n l) cs e is leads comes same = led-goals cs leads comes same
  led-by i cs e is leads comes same = cc

plain-opening : (s : Tracked) → IsPlain s → IsPlain (opening s)
plain-opening s h = ((over-opened (Below s.next) s.goals h.0.0, h.0.1, h.0.2, subst (λ e. NoneBehind e (opening s).goals) (sym h.2) tt), named-opened s.goals h.1, h.2)

pub goes-plain : (code : Compiled) (m : Machine) (c b : ℕ) (st : Stack) (at to : ℕ) → AreClosed st → m.now ≡ inside at → IsGroupAt code at → IsPlainWay code at m.cells m.x m.y to
    → Goes code (section m c b st) (section (record m { now = inside to }) c b st)
goes-plain code m c b st at to closed now is_group way p o t searched tied =
    let g : AtGroup code p o m c b st t at = at-group code p o m c b st t at tied.holds now is_group in
    let u : Tracked = g.first in
    let e = g.group in
    let n : Machine = record m { now = inside to } in
    let leads : AsksUnmarked code (rest_of way.check way.from) to = searched.code_stands.sequences way.from to way.check way.stands way.leads in
    let passed = pass code m u e.goals e.own e.behind (steps_from code at) e.checks (steps_from code way.from) g.opens g.same g.openly way.passes in
    let local : LocalGoal (Below u.next) (fork e.checks e.goals e.own e.now) = (subst (AllByRecursion (LocalGoal (Below u.next))) g.begins_with g.plain.0.0).0 in
    let same : SameSet (InCode code (standing m) (held m.x) (held m.y) (steps_from code to)) (Inst (opening u)) =
    SameSet-trans (InCode code (standing m) (held m.x) (held m.y) (steps_from code to)) (NoMarkLeft u e.goals e.own e.behind) (Inst (opening u))
    (led-by code m u e.goals e.own e.behind way.from to way.check passed.0 way.stands way.leads leads way.comes passed.1) (marking.opened u e.checks e.goals e.own e.now e.behind g.begins_with local) in
    let holds : Holds code n (opening u ∷ g.others) = (opening u ∷ [], g.others, (same, refl), (plain-opening u g.plain, tt), leads.openly, g.opens, g.points, refl) in (
      [],
      t,
      refl,
      record {
        holds = (opening u ∷ g.others, state (untracked u) ∷ g.shown, g.older, holds, ((u, g.kept, refl, inr refl), g.shows), g.stack, g.is);
        simple = tied.simple;
        quiet = tied.quiet;
        in_order = closed_in_order n c b st closed;
        in_round = closed_in_round n c b st t closed;
      },
    )

-- ---- an instruction that can't be taken

pass-asked : (cs : List Raw) (x y : ℕ → ℕ) (is js : List Step) → Passes cs x y is js → (k : ℕ → Tree) (bs : Trees) → Asked cs x y is k bs → (ms : Trees) × Asked cs x y js k ms
pass-asked cs x y is js begins k bs h = (bs, h)
pass-asked cs x y is js (is_ground v past l g) k bs h = let r = pass-asked cs x y is (check_ground v ∷ js) past k bs h in (r.1.1.0, (r.1.0, r.1.1.2))
pass-asked cs x y is js (are_apart v w past lv lw g) k bs h = let r = pass-asked cs x y is (check_indep v w ∷ js) past k bs h in (r.1.1.0, (r.1.0, r.1.1.2))

gather-asked : (code : Compiled) (cs : List Raw) (x y : ℕ → ℕ) (is : List Step) (ds : List Raw) (a b : ℕ → ℕ) (js : List Step) (ps : List Pushed) → Gathers code cs x y is ds a b js ps → (k : ℕ → Tree) (bs : Trees) → Asked cs x y is k bs
    → (l : ℕ → Tree) × (ms : Trees) × Asked ds a b js l ms
gather-asked code cs x y is ds a b js ps there k bs h = (k, bs, h)
gather-asked code cs x y is ds a b js ps (pushes {ps = qs} number q past known l) k bs h =
    let r = gather-asked code cs x y is ds a b (push q.name q.arity ∷ js) qs past k bs h in (r.0, r.2.1.0, (r.2.0, r.2.1.2))
gather-asked code cs x y is ds a b js ps (moves {ds = es} {a = c} {b = d} {hs = hs} past m carries) k bs h =
    let r = gather-asked code cs x y is es c d hs ps past k bs h in
    let f = m.forth r.0 r.1 r.2 in
    (f.0, r.1, f.2)

pub is-cut : (code : Compiled) (m : Machine) (c b : ℕ) (st : Stack) (at : ℕ) (x y : List ℕ) → AreClosed st → m.now ≡ inside at → IsGroupAt code at → IsCutOff code at m.cells m.x m.y
    → Goes code (section m c b st) (section (record m { x = x; y = y; now = failed }) c b st)
is-cut code m c b st at x y closed now is_group cut p o t searched tied =
    let g : AtGroup code p o m c b st t at = at-group code p o m c b st t at tied.holds now is_group in
    let i = g.stands.stood in
    let a = pass-asked m.cells (held m.x) (held m.y) (steps_from code at) (group cut.count ∷ cut.behind) cut.passes i.0 i.1 (i.3, i.4) in
    let r = gather-asked code m.cells (held m.x) (held m.y) cut.behind cut.cells cut.there_x cut.there_y cut.steps cut.goals cut.gathers i.0 a.1.1.0 (a.1.0, a.1.1.2) in
    absurd (cut.stuck r.0 r.1 r.2)
