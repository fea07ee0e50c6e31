-- A section's machine at a group: the group comes first in the model's first state, and what its code leads to.
use Rattle.std.proofs.Common.{◌≡◌, ℕ, zero, suc, ◌+◌, ◌-◌, ◌<◌, ◌≤◌, inl, inr, List, [], ◌∷◌, ◌++◌, length, Some, pos, refl, ap, sym, ◌∙◌, subst, arith}
use Rattle.std.specs.Prelude.{slice_get}
use Rattle.std.specs.List.{All, AllZip, AllByRecursion}
use Rattle.std.proofs.lemmas.List.Elements.{All-nil, All-cons}
use Rattle.ap_tracked.specs.Sets.{SameSet}
use Rattle.ap_term.proofs.TreeLists.{first-same, same_integer}
use Rattle.ap_term.specs.declared.clauses.Check.{Check}
use Rattle.ap_term.specs.declared.clauses.Check.TheVariants.{Ground, Indep}
use Rattle.ap_term.specs.Tree.{Tree, Trees, var, int, atom, node, none, more, count_trees, append_trees}
use Rattle.ap_term.specs.Substitution.{instance_all}
use Rattle.ap_term.specs.Independence.{Holds}
use Rattle.ap_term.proofs.Zips.{AllByRecursion-append, AllByRecursion-weaken}
use Rattle.ap_term.proofs.Facts.{funext}
use Rattle.ap_cells.specs.declared.cells.Raw.{Raw}
use Rattle.ap_cells.specs.Trees.{tree_at, trees}
use Rattle.ap_core.specs.Tasks.{Task, task, Alternatives, Alternative, state, frame}
use Rattle.ap_core.specs.Relation.{Rules}
use Rattle.ap_tracked.specs.Tracked.{Goal, call, fork, Tracked, untracked, opened}
use Rattle.ap_tracked.specs.Marks.{ground_mark, apart_mark, group_mark, marked, opening}
use Rattle.ap_tracked.specs.Instances.{Inst}
use Rattle.ap_tracked.specs.Kept.{IsKept}
use Rattle.ap_graft.specs.Variables.{LocalGoal, Below}
use Rattle.ap_instr.specs.declared.instruction.Instr.{Instr}
use Rattle.ap_instr.specs.declared.instruction.Instr.TheVariants.{CheckGround, CheckIndep, AllocParcall}
use Rattle.ap_instr.specs.Code.{Compiled}
use Rattle.ap_instr.specs.Step.{Step, check_ground, check_indep, group, push, wait}
use Rattle.ap_instr.specs.Steps.{steps_from}
use Rattle.ap_instr.specs.Runs.{read, IsOpen, AsksOpenly}
use Rattle.ap_match.proofs.Maps.{fits-own}
use Rattle.ap_steps.specs.Moves.{held}
use Rattle.ap_steps.specs.Standing.{Return, Standing, InCode}
use Rattle.ap_standing.specs.Machine.{inside, Machine, standing, AreWithin}
use Rattle.ap_standing.specs.Holds.{SetOf, SetAt, IsOpenAt, AreOpen, AreNamed, IsPlain, HoldsPoints}
use Rattle.ap_standing.proofs.Machines.{a-state, steps-at}
use Rattle.ap_standing.proofs.Moved.{some-waits}
use Rattle.ap_standing.proofs.Turns.{SameSet-trans, SameSet-sym}
use Rattle.ap_group.specs.Groups.{Pushed, Forked}
use Rattle.ap_group.specs.Gathers.{BeginsGroup, IsGroupAt, places_from, Passes, begins, is_ground, are_apart, Gathers, there, pushes, moves, IsGathered}
use Rattle.ap_tie.specs.Sections.{section, Stack}
use Rattle.ap_tie.specs.Shows.{Shows, before}
use Rattle.ap_tie.specs.Forked.{AtFork}
use Rattle.ap_tie.specs.Tied.{HoldsTask, HoldsStack}
use Rattle.ap_tie.specs.Grouping.{MarksLeft, NoMarkLeft, Pushing, AreInside}
use Rattle.ap_tie.proofs.Grouping.{marking, pushing}

-- ---- a group comes first in the state

-- There is something that a machine at a group's first instruction stands for. It begins with a mark.
pub record Begun (code : Compiled) (m : Machine) (at : ℕ) : Type 0 where
  pub mark : ℕ
  pub rest : Trees
  pub tuple : Trees
  pub stood : InCode code (standing m) (held m.x) (held m.y) (steps_from code at) (more (int (pos mark)) rest) tuple

begun : (code : Compiled) (m : Machine) (at : ℕ) → IsGroupAt code at → AsksOpenly (steps_from code at) → AreOpen code m.returns → Begun code m at
begun code m at (i, e, g) openly opens = by i e g
  where
    k : ℕ → Tree
    k = tree_at (trees m.cells)

    by : (i : Instr) → slice_get code.instructions at ≡ Some i → BeginsGroup i → Begun code m at
    by (CheckGround v l) e g =
        let same : steps_from code at ≡ check_ground v ∷ steps_from code (at + 1) = steps-at code at (CheckGround v l) e (λ d. cc) in
        let o : AsksOpenly (check_ground v ∷ steps_from code (at + 1)) = subst AsksOpenly same openly in
        let a = o.0 (λ w. k (held m.x w)) (λ w. k (held m.y w)) in
        let q = some-waits code k m.returns m.roots opens in
        let us : Trees = more (read v (λ w. k (held m.x w)) (λ w. k (held m.y w))) a.0 in
        record {
          mark = 0;
          rest = append_trees us q.0;
          tuple = q.1;
          stood = subst (λ is. InCode code (standing m) (held m.x) (held m.y) is (more ground_mark (append_trees us q.0)) q.1) (sym same) (k, more ground_mark us, q.0, fits-own m.cells, (a.0, refl, a.1), refl, q.2);
        }
    by (CheckIndep v w l) e g =
        let same : steps_from code at ≡ check_indep v w ∷ steps_from code (at + 1) = steps-at code at (CheckIndep v w l) e (λ d. cc) in
        let o : AsksOpenly (check_indep v w ∷ steps_from code (at + 1)) = subst AsksOpenly same openly in
        let a = o.0 (λ w. k (held m.x w)) (λ w. k (held m.y w)) in
        let q = some-waits code k m.returns m.roots opens in
        let us : Trees = more (read v (λ w. k (held m.x w)) (λ w. k (held m.y w))) (more (read w (λ w. k (held m.x w)) (λ w. k (held m.y w))) a.0) in
        record {
          mark = 1;
          rest = append_trees us q.0;
          tuple = q.1;
          stood = subst (λ is. InCode code (standing m) (held m.x) (held m.y) is (more apart_mark (append_trees us q.0)) q.1) (sym same) (k, more apart_mark us, q.0, fits-own m.cells, (a.0, refl, a.1), refl, q.2);
        }
    by (AllocParcall n l) e g =
        let same : steps_from code at ≡ group n ∷ steps_from code (at + 1) = steps-at code at (AllocParcall n l) e (λ d. cc) in
        let o : AsksOpenly (group n ∷ steps_from code (at + 1)) = subst AsksOpenly same openly in
        let a = o.0 (λ w. k (held m.x w)) (λ w. k (held m.y w)) in
        let q = some-waits code k m.returns m.roots opens in
        record {
          mark = n + 2;
          rest = append_trees a.0 q.0;
          tuple = q.1;
          stood = subst (λ is. InCode code (standing m) (held m.x) (held m.y) is (more (group_mark n) (append_trees a.0 q.0)) q.1) (sym same) (k, more (group_mark n) a.0, q.0, fits-own m.cells, (a.0, refl, a.1), refl, q.2);
        }
    by i e g = absurd g

-- a group
pub record Group : Type 0 where
  pub checks : List Check
  pub goals : Trees
  pub own : ℕ → Tree
  pub now : List Check
  pub behind : List Goal

abbrev pub IsFirst : Group → List Goal → Type 0
IsFirst g gs = gs ≡ fork g.checks g.goals g.own g.now ∷ g.behind

-- goals of which an instance begins with a mark
fork-first : (gs : List Goal) (f : ℕ → Tree) (z : ℕ) (us : Trees) → AreNamed gs → more (int (pos z)) us ≡ instance_all f (marked gs) → (g : Group) × IsFirst g gs
fork-first [] f z us n e = absurd (cc)
fork-first (call (var x) ∷ gs) f z us n e = absurd n.0
fork-first (call (int y) ∷ gs) f z us n e = absurd n.0
fork-first (call (atom a) ∷ gs) f z us n e = absurd (cc)
fork-first (call (node a ts) ∷ gs) f z us n e = absurd (cc)
fork-first (fork cs ts own now ∷ gs) f z us n e = (record { checks = cs; goals = ts; own = own; now = now; behind = gs }, refl)

-- no group comes first where it was opened
no-fork : (gs : List Goal) (g : Group) → IsFirst g (opened gs) → ⊥
no-fork [] g e = cc
no-fork (call t ∷ gs) g e = cc
no-fork (fork cs none own now ∷ gs) g e = no-fork gs g e
no-fork (fork cs (more t ts) own now ∷ gs) g e = cc

-- What a task and a section that stands for it, at a group's first instruction, are.
pub record AtGroup (code : Compiled) (p : Rules) (o : Tracked) (m : Machine) (c b : ℕ) (st : Stack) (t : Task) (at : ℕ) : Type 0 where
  pub first : Tracked
  pub group : Group
  pub others : List Tracked
  pub shown : List Alternative
  pub older : Alternatives
  pub begins_with : IsFirst group first.goals
  pub kept : IsKept p.program o first
  pub plain : IsPlain first
  pub same : SameSet (InCode code (standing m) (held m.x) (held m.y) (steps_from code at)) (MarksLeft first group.checks group.goals group.own group.behind)
  pub openly : AsksOpenly (steps_from code at)
  pub opens : AreOpen code m.returns
  pub points : HoldsPoints code m.roots m.points others
  pub shows : AllZip (Shows p.program o) others shown
  pub stack : HoldsStack code p o m.roots (b - c) st older
  pub is : t ≡ task (b - c) c (before (state (untracked first) ∷ shown) older)
  pub stands : Begun code m at

pub at-group : (code : Compiled) (p : Rules) (o : Tracked) (m : Machine) (c b : ℕ) (st : Stack) (t : Task) (at : ℕ) → HoldsTask code p o (section m c b st) t → m.now ≡ inside at → IsGroupAt code at → AtGroup code p o m c b st t at
at-group code p o m c b st t at (ss, xs, l, (here, left, is_set, plain, open_now, opens, points, whole), shown, stack, is) now is_group =
    let openly : AsksOpenly (steps_from code at) = subst (IsOpenAt code) now open_now in
    let a : Begun code m at = begun code m at is_group openly opens in
    let s = a-state (SetOf code m) here is_set (more (int (pos a.mark)) a.rest, a.tuple, subst (λ n. SetAt code (standing m) m.x m.y n (more (int (pos a.mark)) a.rest) a.tuple) (sym now) a.stood) in
    let same : SameSet (InCode code (standing m) (held m.x) (held m.y) (steps_from code at)) (Inst s.0) = subst (λ n. SameSet (SetAt code (standing m) m.x m.y n) (Inst s.0)) now s.2 in
    let is_plain : AllByRecursion IsPlain (s.0 ∷ []) = subst (AllByRecursion IsPlain) s.1 plain in
    let i = (same (more (int (pos a.mark)) a.rest) a.tuple).0 a.stood in
    let g = fork-first s.0.goals i.0 a.mark a.rest is_plain.0.1 i.1 in
    by s.0 g.0 g.1 is_plain.0 same openly a xs (subst (λ us. AllZip (Shows p.program o) us xs) (whole ∙ ap (λ us. us ++ left) s.1) shown) is
  where
    by : (s : Tracked) (g : Group) → IsFirst g s.goals → IsPlain s → SameSet (InCode code (standing m) (held m.x) (held m.y) (steps_from code at)) (Inst s) → AsksOpenly (steps_from code at) → Begun code m at
        → (ys : List Alternative) → AllZip (Shows p.program o) (s ∷ left) ys → t ≡ task (b - c) c (before ys l) → AtGroup code p o m c b st t at
    by s g e is_plain same openly a [] z is = absurd z
    by s g e is_plain same openly a (frame y rd w ∷ ys) z is = absurd z.0
    by s g e is_plain same openly a (state y ∷ ys) ((u, kept, shows, inr q), rest) is = absurd (no-fork u.goals g (ap (λ v. v.goals) (sym q) ∙ e))
    by s g e is_plain same openly a (state y ∷ ys) ((u, kept, shows, inl q), rest) is = record {
      first = s;
      group = g;
      others = left;
      shown = ys;
      older = l;
      begins_with = e;
      kept = subst (IsKept p.program o) (sym q) kept;
      plain = is_plain;
      same = SameSet-trans (InCode code (standing m) (held m.x) (held m.y) (steps_from code at)) (Inst s) (MarksLeft s g.checks g.goals g.own g.behind) same (marking.all s g.checks g.goals g.own g.now g.behind e);
      openly = openly;
      opens = opens;
      points = points;
      shows = rest;
      stack = stack;
      is = is ∙ ap (λ v. task (b - c) c (before (state v ∷ ys) l)) (shows ∙ ap untracked (sym q));
      stands = a;
    }

-- ---- checks

module _ (code : Compiled) (m : Machine) (u : Tracked) (ts : Trees) (own : ℕ → Tree) (gs : List Goal) where
  -- behind checks that hold the others are left
  abbrev PassedTo : List Check → List Step → Type 0
  PassedTo cs js = (ds : List Check) × SameSet (InCode code (standing m) (held m.x) (held m.y) js) (MarksLeft u ds ts own gs) × AsksOpenly js × (All (Holds own) ds → All (Holds own) cs)

  pub pass : (is : List Step) (cs : List Check) (js : List Step) → AreOpen code m.returns → SameSet (InCode code (standing m) (held m.x) (held m.y) is) (MarksLeft u cs ts own gs) → AsksOpenly is
      → Passes m.cells (held m.x) (held m.y) is js → PassedTo cs js
  pass is cs js opens same openly begins = (cs, same, openly, λ h. h)
  pass is cs js opens same openly (is_ground v past l g) =
      let r = pass is cs (check_ground v ∷ js) opens same openly past in
      let k = marking.ground code (standing m) (held m.x) (held m.y) v js u r.0 ts own gs r.1 l g in
      (k.1, k.4, r.2.1, λ h. r.3 (subst (All (Holds own)) (sym k.2) (All-cons (Holds own) (Ground k.0) k.1 k.3 h)))
  pass is cs js opens same openly (are_apart v w past lv lw g) =
      let r = pass is cs (check_indep v w ∷ js) opens same openly past in
      let k = marking.indep code (standing m) (held m.x) (held m.y) v w js u r.0 ts own gs r.2.0 opens r.1 lv lw g in
      (k.2, k.5, r.2.1, λ h. r.3 (subst (All (Holds own)) (sym k.3) (All-cons (Holds own) (Indep k.0 k.1) k.2 k.4 h)))

  -- the mark says how many goals the group has
  counts : (n : ℕ) (is : List Step) → SameSet (InCode code (standing m) (held m.x) (held m.y) (group n ∷ is)) (MarksLeft u [] ts own gs) → n ≡ count_trees ts
  counts n is same = by ((same (instance_all var (more (group_mark (count_trees ts)) (append_trees (instance_all own ts) (marked gs)))) (instance_all var u.tuple)).1 (var, refl, refl))
    where
      by : InCode code (standing m) (held m.x) (held m.y) (group n ∷ is) (instance_all var (more (group_mark (count_trees ts)) (append_trees (instance_all own ts) (marked gs)))) (instance_all var u.tuple) → n ≡ count_trees ts
      by (k, bs, qs, fits, (rs, e, r), eq, w) =
          let d : int (pos (count_trees ts + 2)) ≡ int (pos (n + 2)) = first-same (eq ∙ ap (λ b. append_trees b qs) e) in
          let h = same_integer (count_trees ts + 2) (n + 2) d in omega (arith, h)

-- ---- pushes

within-more : (n k : ℕ) → n ≤ k → (ws : List Return) → AreWithin n ws → AreWithin k ws
within-more n k l [] h = tt
within-more n k l (w ∷ ws) h = (λ v. let d = h.0 v in omega (arith, d, l), within-more n k l ws h.1)

places-more : (n k : ℕ) → n ≤ k → (rs : List ℕ) → AllByRecursion (λ r. r < n) rs → AllByRecursion (λ r. r < k) rs
places-more n k l rs h = AllByRecursion-weaken (λ r. r < n) (λ r. r < k) (λ r d. omega (arith, d, l)) rs h

places-inside : (x : ℕ → ℕ) (n a k : ℕ) → ((w : ℕ) → x w < n) → AllByRecursion (λ r. r < n) (places_from x a k)
places-inside x n a zero h = tt
places-inside x n a (suc k) h = (h a, places-inside x n (a + 1) k h)

module _ (code : Compiled) (ws : List Return) (roots : List ℕ) (N : Trees → Trees → Type 0) where
  abbrev on : List Raw → Standing
  on cs = record { cells = cs; returns = ws; roots = roots }

  -- goals that were pushed keep what is stood for
  record GatheredTo (ds : List Raw) (a b : ℕ → ℕ) (js : List Step) (ps : List Pushed) : Type 0 where
    goals : AreInside (length ds) ps
    openly : AsksOpenly js
    same : SameSet (Pushing code (on ds) a b js ps) N
    within : AreWithin (length ds) ws
    roots_inside : AllByRecursion (λ r. r < length ds) roots

  gather : (cs : List Raw) (x y : ℕ → ℕ) (is : List Step) → AsksOpenly is → AreWithin (length cs) ws → AllByRecursion (λ r. r < length cs) roots → SameSet (InCode code (on cs) x y is) N
      → (ds : List Raw) (a b : ℕ → ℕ) (js : List Step) (ps : List Pushed) → Gathers code cs x y is ds a b js ps → GatheredTo ds a b js ps
  gather cs x y is openly hw hr same ds a b js ps there = record {
    goals = tt;
    openly = openly;
    same = SameSet-trans (Pushing code (on cs) x y is []) (InCode code (on cs) x y is) N (SameSet-sym (InCode code (on cs) x y is) (Pushing code (on cs) x y is []) (pushing.begins code (on cs) x y is)) same;
    within = hw;
    roots_inside = hr;
  }
  gather cs x y is openly hw hr same ds a b js ps (pushes {ps = qs} number q past known l) =
      let r = gather cs x y is openly hw hr same ds a b (push q.name q.arity ∷ js) qs past in
      let next : Pushed = record { predicate = number; arguments = places_from a 1 q.arity } in
      record {
        goals = AllByRecursion-append (λ (g : Pushed). AllByRecursion (λ i. i < length ds) g.arguments) qs (next ∷ []) r.goals (places-inside a (length ds) 1 q.arity l, tt);
        openly = r.openly.1;
        same = SameSet-trans (Pushing code (on ds) a b js (qs ++ next ∷ [])) (Pushing code (on ds) a b (push q.name q.arity ∷ js) qs) N
            (SameSet-sym (Pushing code (on ds) a b (push q.name q.arity ∷ js) qs) (Pushing code (on ds) a b js (qs ++ next ∷ [])) (pushing.pushed code (on ds) a b q.name q.arity number q js qs known refl)) r.same;
        within = r.within;
        roots_inside = r.roots_inside;
      }
  gather cs x y is openly hw hr same ds a b js ps (moves {ds = es} {a = c} {b = d} {hs = hs} past m carries) =
      let r = gather cs x y is openly hw hr same es c d hs ps past in
      record {
        goals = AllByRecursion-weaken (λ (g : Pushed). AllByRecursion (λ i. i < length es) g.arguments) (λ (g : Pushed). AllByRecursion (λ i. i < length ds) g.arguments) (λ g. places-more (length es) (length ds) m.longer g.arguments) ps r.goals;
        openly = carries r.openly;
        same = SameSet-trans (Pushing code (on ds) a b js ps) (Pushing code (on es) c d hs ps) N (pushing.moved code es ds ws roots c d a b hs js ps m r.within r.roots_inside r.goals) r.same;
        within = within-more (length es) (length ds) m.longer ws r.within;
        roots_inside = places-more (length es) (length ds) m.longer roots r.roots_inside;
      }

-- ---- the fork's place

-- what the way through a group to its fork has shown
pub record HasGathered (code : Compiled) (m : Machine) (f : Forked) (u : Tracked) (g : Group) : Type 0 where
  pub hold : All (Holds g.own) g.checks
  pub many : length f.goals ≡ count_trees g.goals
  pub same : SameSet (AtFork code m.roots f) (Inst (opening u))
  pub opens : AreOpen code f.returns

pub gathered : (code : Compiled) (p : Rules) (o : Tracked) (m : Machine) (c b : ℕ) (st : Stack) (t : Task) (at to : ℕ) (f : Forked) (x' y' : List ℕ) (w : Return) → AreWithin (length m.cells) m.returns → AllByRecursion (λ r. r < length m.cells) m.roots
    → IsGathered code at m.cells m.x m.y to f.cells x' y' f.goals → f.returns ≡ w ∷ m.returns → w.place ≡ to + 1 → ((k : ℕ) → held w.y k ≡ held y' k)
    → (g : AtGroup code p o m c b st t at) → HasGathered code m f g.first g.group
gathered code p o m c b st t at to f x' y' w hw hr way returns place same_y g =
    let u = g.first in
    let e = g.group in
    let passed = pass code m u e.goals e.own e.behind (steps_from code at) e.checks (group (length f.goals) ∷ way.behind) g.opens g.same g.openly way.passes in
    let last = marking.last code (standing m) (held m.x) (held m.y) (length f.goals) way.behind u passed.0 e.goals e.own e.behind passed.1 in
    let N : Trees → Trees → Type 0 = NoMarkLeft u e.goals e.own e.behind in
    let r = gather code m.returns m.roots N m.cells (held m.x) (held m.y) way.behind passed.2.1 hw hr last.1 f.cells (held x') (held y') (wait ∷ steps_from code (to + 1)) f.goals way.gathers in
    let maps : ◌≡◌ {A = ℕ → ℕ} (held y') (held w.y) = funext (held y') (held w.y) (λ k. sym (same_y k)) in
    let s : Standing = record { cells = f.cells; returns = m.returns; roots = m.roots } in
    let at_wait : SameSet (Pushing code s (held x') (held w.y) (wait ∷ steps_from code w.place) f.goals) N =
    subst (λ y. SameSet (Pushing code s (held x') y (wait ∷ steps_from code w.place) f.goals) N) maps (subst (λ n. SameSet (Pushing code s (held x') (held y') (wait ∷ steps_from code n) f.goals) N) (sym place) r.same) in
    let behind : Forked = record { cells = f.cells; returns = w ∷ m.returns; goals = f.goals } in
    let local : LocalGoal (Below u.next) (fork e.checks e.goals e.own e.now) = (subst (AllByRecursion (LocalGoal (Below u.next))) g.begins_with g.plain.0.0).0 in
    let at_fork : SameSet (AtFork code m.roots behind) (Inst (opening u)) =
    SameSet-trans (AtFork code m.roots behind) N (Inst (opening u))
    (SameSet-trans (AtFork code m.roots behind) (Pushing code s (held x') (held w.y) (wait ∷ steps_from code w.place) f.goals) N
    (SameSet-sym (Pushing code s (held x') (held w.y) (wait ∷ steps_from code w.place) f.goals) (AtFork code m.roots behind) (pushing.ends code s (held x') w f.goals)) at_wait)
    (marking.opened u e.checks e.goals e.own e.now e.behind g.begins_with local) in
    record {
      hold = passed.3 (subst (All (Holds e.own)) (sym last.0) (All-nil (Holds e.own)));
      many = counts code m u e.goals e.own e.behind (length f.goals) way.behind (subst (λ cs. SameSet (InCode code (standing m) (held m.x) (held m.y) (group (length f.goals) ∷ way.behind)) (MarksLeft u cs e.goals e.own e.behind)) last.0 passed.1);
      same = subst (λ rs. SameSet (AtFork code m.roots (record { cells = f.cells; returns = rs; goals = f.goals })) (Inst (opening u))) (sym returns) at_fork;
      opens = subst (AreOpen code) (sym returns) (subst (λ n. IsOpen (steps_from code n) × AsksOpenly (steps_from code n) × AreOpen code m.returns) (sym place) (r.openly.0, r.openly.1, g.opens));
    }
