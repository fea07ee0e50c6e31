-- The variables of the states that a search comes to.
use Rattle.std.proofs.Common.{◌≡◌, ℕ, ◌+◌, ◌<◌, ◌≤◌, inl, inr, Bool, true, false, ◌&&◌, nat_le, if◌then◌else◌, List, [], ◌∷◌, ◌++◌, map, Option, Some, None, refl, ap, sym, ◌∙◌, subst, arith}
use Rattle.std.specs.List.{AllByRecursion, AllZip, flat_map, list_all}
use Rattle.std.proofs.lemmas.Bool.{false≢true, and_parts, leb-true}
use Rattle.std.proofs.lemmas.List.Elements.{All-head, All-tail}
use Rattle.ap_term.specs.Tuples.{arguments}
use Rattle.ap_term.specs.Tree.{Tree, Trees, var, atom, none, more, count_trees, append_trees}
use Rattle.ap_term.specs.Vars.{occurs_all, Local, LocalAll}
use Rattle.ap_term.specs.Substitution.{instance, instance_all, Subst, value, shift}
use Rattle.ap_term.specs.Unification.{mgu}
use Rattle.ap_term.specs.declared.faults.Fault.{Fault}
use Rattle.ap_term.specs.Faults.{fault_of}
use Rattle.ap_term.specs.Builtins.{builtin}
use Rattle.ap_term.specs.WellFormed.{in_range, numbered_check, all_callable, numbered_all, well_formed_part, IsClause, IsProgram}
use Rattle.ap_term.specs.Goals as goals
use Rattle.ap_term.specs.Goals.{Clause, Program, plain_goals}
use Rattle.ap_term.proofs.Copies.{instance_all_var, instance_all_twice}
use Rattle.ap_term.proofs.Zips.{AllByRecursion-append, AllByRecursion-map, AllByRecursion-weaken}
use Rattle.ap_term.proofs.Locals.{Local-each, LocalAll-each, Local-weaken, LocalAll-weaken, Local-instance, LocalAll-instance_all, Local-and, LocalAll-append_trees}
use Rattle.ap_laws.specs.Renaming.{OptionAll, LocalSubst}
use Rattle.ap_laws.specs.Plain.{plain_by, plain_of}
use Rattle.ap_tracked.specs.Marks.{check_marks, group_mark, marked}
use Rattle.ap_term.specs.declared.clauses.Check.{Check}
use Rattle.ap_term.specs.declared.clauses.Check.TheVariants.{Ground, Indep}
use Rattle.ap_laws.specs.Graft.{IsOwn, IsOf}
use Rattle.ap_laws.proofs.Local.{Local-value, Local-mgu}
use Rattle.ap_laws.proofs.Builtins.{Local-builtin}
use Rattle.ap_laws.proofs.Ways.{Local-head}
use Rattle.ap_laws.proofs.Plain.{Local-arguments_self}
use Rattle.ap_tracked.specs.Tracked.{Goal, call, fork, moved, placed, renamed, calls as goal_calls, opened, Tracked, untracked, untracked_goal, IsOneOf, child_if, clause_children, call_children, children_unless, children_by, children}
use Rattle.ap_tracked.specs.Forks.{alone}
use Rattle.ap_tracked.specs.Kept.{SameText, IsFrom, itself, calls, opens, reads}
use Rattle.ap_graft.specs.Variables.{LocalGoal, LocalGoals, NoneBehind, IsLocal, Below, IsTrackedBelow, IsOwnOf}
use Rattle.ap_graft.specs.Laws.{VariablesLaw}
use Rattle.ap_term.proofs.TreeLists.{LocalAll-arguments}

any : (t : Tree) → Local (λ x. Unit {0}) t
any t = Local-each (λ x. Unit {0}) t (λ x o. tt)

any_all : (ts : Trees) → LocalAll (λ x. Unit {0}) ts
any_all ts = LocalAll-each (λ x. Unit {0}) ts (λ x o. tt)

pub goals_local : (P : ℕ → Type 0) (own : ℕ → Tree) (ts : Trees) → ((x : ℕ) → Local P (own x)) → LocalAll P (instance_all own ts)
goals_local P own ts h = LocalAll-instance_all (λ x. Unit {0}) P own (λ x _. h x) ts (any_all ts)

-- ---- goals

pub over-weaken : (P Q : ℕ → Type 0) → ((x : ℕ) → P x → Q x) → (g : Goal) → LocalGoal P g → LocalGoal Q g
over-weaken P Q e (call t) h = Local-weaken P Q e t h
over-weaken P Q e (fork cs none own now) h = absurd h
over-weaken P Q e (fork cs (more t ts) own now) h = λ x. Local-weaken P Q e (own x) (h x)

pub over-all_weaken : (P Q : ℕ → Type 0) → ((x : ℕ) → P x → Q x) → (gs : List Goal) → LocalGoals P gs → LocalGoals Q gs
over-all_weaken P Q e gs h = AllByRecursion-weaken (LocalGoal P) (LocalGoal Q) (over-weaken P Q e) gs h

pub over-moved : (P Q : ℕ → Type 0) (f : ℕ → Tree) → ((x : ℕ) → P x → Local Q (f x)) → (g : Goal) → LocalGoal P g → LocalGoal Q (moved f g)
over-moved P Q f e (call t) h = Local-instance P Q f e t h
over-moved P Q f e (fork cs none own now) h = absurd h
over-moved P Q f e (fork cs (more t ts) own now) h = λ x. Local-instance P Q f e (own x) (h x)

pub over-all_moved : (P Q : ℕ → Type 0) (f : ℕ → Tree) → ((x : ℕ) → P x → Local Q (f x)) → (gs : List Goal) → LocalGoals P gs → LocalGoals Q (map (moved f) gs)
over-all_moved P Q f e gs h = AllByRecursion-map (LocalGoal P) (LocalGoal Q) (moved f) (over-moved P Q f e) gs h

over-calls : (P : ℕ → Type 0) (own : ℕ → Tree) → ((x : ℕ) → Local P (own x)) → (ts : Trees) (gs : List Goal) → LocalGoals P gs → LocalGoals P (goal_calls own ts ++ gs)
over-calls P own h none gs k = k
over-calls P own h (more t ts) gs k = (Local-instance (λ x. Unit {0}) P own (λ x _. h x) t (any t), over-calls P own h ts gs k)

pub over-opened : (P : ℕ → Type 0) (gs : List Goal) → LocalGoals P gs → LocalGoals P (opened gs)
over-opened P [] h = tt
over-opened P (call t ∷ gs) h = h
over-opened P (fork cs none own now ∷ gs) h = absurd h.0
over-opened P (fork cs (more t ts) own now ∷ gs) h = (Local-instance (λ x. Unit {0}) P own (λ x _. h.0 x) t (any t), over-calls P own h.0 ts gs h.1)

pub over-same : (P : ℕ → Type 0) (gs hs : List Goal) → AllZip SameText gs hs → LocalGoals P gs → LocalGoals P hs
over-same P [] [] e h = tt
over-same P (call t ∷ gs) (call u ∷ hs) e h = (subst (Local P) e.0 h.0, over-same P gs hs e.1 h.1)
over-same P (call t ∷ gs) (fork ds us g later ∷ hs) e h = absurd e.0
over-same P (fork cs ts f now ∷ gs) (call u ∷ hs) e h = absurd e.0
over-same P (fork cs none f now ∷ gs) (fork ds us g later ∷ hs) e h = absurd h.0
over-same P (fork cs (more t ts) f now ∷ gs) (fork ds none g later ∷ hs) e h = absurd (no_trees e.0.1)
  where
    no_trees : more t ts ≡ none → ⊥
    no_trees k = absurd (cc)
over-same P (fork cs (more t ts) f now ∷ gs) (fork ds (more u us) g later ∷ hs) e h = ((λ x. subst (λ k. Local P (k x)) e.0.2 (h.0 x)), over-same P gs hs e.1 h.1)
over-same P [] (_ ∷ _) e h = absurd e
over-same P (_ ∷ _) [] e h = absurd e

-- ---- variables of marked goals

check-marks-over : (P : ℕ → Type 0) (own : ℕ → Tree) → ((x : ℕ) → Local P (own x)) → (cs : List Check) (ts : Trees) → LocalAll P ts → LocalAll P (check_marks own cs ts)
check-marks-over P own h [] ts k = k
check-marks-over P own h (Ground x ∷ cs) ts k = (tt, (h x, check-marks-over P own h cs ts k))
check-marks-over P own h (Indep x y ∷ cs) ts k = (tt, (h x, (h y, check-marks-over P own h cs ts k)))

pub marked-over : (P : ℕ → Type 0) (gs : List Goal) → LocalGoals P gs → LocalAll P (marked gs)
marked-over P [] h = tt
marked-over P (call t ∷ gs) h = (h.0, marked-over P gs h.1)
marked-over P (fork cs none own now ∷ gs) h = absurd h.0
marked-over P (fork cs (more t ts) own now ∷ gs) h =
    check-marks-over P own h.0 cs (more (group_mark (count_trees (more t ts))) (append_trees (instance_all own (more t ts)) (marked gs)))
    (tt, LocalAll-append_trees P (instance_all own (more t ts)) (marked gs) (goals_local P own (more t ts) h.0) (marked-over P gs h.1))

-- ---- a clause's body

pub renamed-over : (Q : ℕ → Type 0) (v n : ℕ) → ((x : ℕ) → x ≤ v → Q (x + n)) → (x : ℕ) → Local Q (renamed v n x)
renamed-over Q v n e x = go (in_range v x) refl
  where
    go : (c : Bool) → in_range v x ≡ c → Local Q (if c then var (x + n) else atom 0)
    go true h = e x (leb-true x v (and_parts (nat_le 1 x) (nat_le x v) h).1)
    go false h = tt

pub over-placed : (Q : ℕ → Type 0) (v n : ℕ) → ((x : ℕ) → x ≤ v → Q (x + n)) → (ps : List goals.Part) → list_all (well_formed_part v) ps ≡ true → LocalGoals Q (map (placed (renamed v n)) ps)
over-placed Q v n e [] h = tt
over-placed Q v n e (goals.call t ∷ ps) h =
    let r = and_parts (well_formed_part v (goals.call t)) (list_all (well_formed_part v) ps) h in
    (Local-instance (λ x. Unit {0}) Q (renamed v n) (λ x _. renamed-over Q v n e x) t (any t), over-placed Q v n e ps r.1)
over-placed Q v n e (goals.group cs none ∷ ps) h =
    let r = and_parts (well_formed_part v (goals.group cs none)) (list_all (well_formed_part v) ps) h in
    absurd (false≢true (and_parts (nat_le 1 (count_trees none)) (all_callable none && numbered_all v none) (and_parts (list_all (numbered_check v) cs) _ r.0).1).0)
over-placed Q v n e (goals.group cs (more t ts) ∷ ps) h =
    let r = and_parts (well_formed_part v (goals.group cs (more t ts))) (list_all (well_formed_part v) ps) h in
    (renamed-over Q v n e, over-placed Q v n e ps r.1)

ends-opened : (e : Option Fault) (gs : List Goal) → NoneBehind e gs → NoneBehind e (opened gs)
ends-opened None gs h = tt
ends-opened (Some e) gs h = ap opened h

ends-same : (e : Option Fault) (gs hs : List Goal) → AllZip SameText gs hs → NoneBehind e gs → NoneBehind e hs
ends-same None gs hs z h = tt
ends-same (Some e) gs hs z h = go hs (subst (λ l. AllZip SameText l hs) h z)
  where
    go : (hs : List Goal) → AllZip SameText [] hs → hs ≡ []
    go [] z = refl
    go (_ ∷ _) z = absurd z

-- ---- children

abbrev Grows : (ℕ → ℕ → Type 0) → Type 0
Grows P = (n m x : ℕ) → n ≤ m → P n x → P m x

abbrev HasNew : (ℕ → ℕ → Type 0) → ℕ → Type 0
HasNew P b = (n m x : ℕ) → b ≤ n → n ≤ x → x < m → P m x

module _ (P : ℕ → ℕ → Type 0) (b : ℕ) (up : Grows P) (new : HasNew P b) where
  over-child : (s : Tracked) → IsLocal P b s → (rest : List Goal) → LocalGoals (P s.next) rest → (o : Option Subst) (body : List Goal) (w : ℕ) → OptionAll (LocalSubst (P (s.next + w))) o
      → LocalGoals (P (s.next + w)) body → AllByRecursion (IsLocal P b) (child_if s rest o body w)
  over-child s h rest k None body w l hb = tt
  over-child s h rest k (Some r) body w l hb = (
    (
      over-all_moved (P (s.next + w)) (P (s.next + w)) (value r) (Local-value (P (s.next + w)) r l) (body ++ rest)
          (AllByRecursion-append (LocalGoal (P (s.next + w))) body rest hb (over-all_weaken (P s.next) (P (s.next + w)) (λ x q. up s.next (s.next + w) x (omega arith) q) rest k)),
      LocalAll-instance_all (P (s.next + w)) (P (s.next + w)) (value r) (Local-value (P (s.next + w)) r l) s.tuple (LocalAll-weaken (P s.next) (P (s.next + w)) (λ x q. up s.next (s.next + w) x (omega arith) q) s.tuple h.1),
      omega (arith, h.2),
      tt,
    ),
    tt,
  )

  over-clauses : (p : Program) → IsProgram p → (s : Tracked) → IsLocal P b s → (g : Tree) → Local (P s.next) g → (rest : List Goal) → LocalGoals (P s.next) rest
      → AllByRecursion (IsLocal P b) (flat_map (clause_children s g rest) p)
  over-clauses [] good s h g hg rest k = tt
  over-clauses (c ∷ p) good s h g hg rest k =
      let is : IsClause c = All-head IsClause c p good in
      let Q : ℕ → Type 0 = P (s.next + (c.vars + 1)) in
      let e : (x : ℕ) → x ≤ c.vars → Q (x + s.next) = λ x l. new s.next (s.next + (c.vars + 1)) (x + s.next) h.2 (omega arith) (omega (arith, l)) in
      AllByRecursion-append (IsLocal P b) (clause_children s g rest c) (flat_map (clause_children s g rest) p)
      (over-child s h rest k (mgu g (instance (shift s.next) c.head)) (map (placed (renamed c.vars s.next)) c.body) (c.vars + 1)
      (Local-mgu Q g (instance (shift s.next) c.head) (Local-weaken (P s.next) Q (λ x q. up s.next (s.next + (c.vars + 1)) x (omega arith) q) g hg)
      (Local-instance (λ x. x ≤ c.vars) Q (shift s.next) e c.head (Local-head c is)))
      (over-placed Q c.vars s.next e c.body is.body))
      (over-clauses p (All-tail IsClause c p good) s h g hg rest k)

  over-call : (p : Program) → IsProgram p → (s : Tracked) → IsLocal P b s → (g : Tree) → Local (P s.next) g → (rest : List Goal) → LocalGoals (P s.next) rest
      → (a : Option (Option Subst)) → OptionAll (OptionAll (LocalSubst (P (s.next + 0)))) a → AllByRecursion (IsLocal P b) (call_children p s g rest a)
  over-call p good s h g hg rest k None l = over-clauses p good s h g hg rest k
  over-call p good s h g hg rest k (Some a) l = over-child s h rest k a [] 0 l tt

  over-unless : (e : Option Fault) (s : Tracked) → IsLocal P b s → (ss : List Tracked) → AllByRecursion (IsLocal P b) ss → AllByRecursion (IsLocal P b) (children_unless e s ss)
  over-unless None s h ss k = k
  over-unless (Some e) s h ss k = ((tt, LocalAll-instance_all (P s.next) (P (s.next + 0)) var (λ x q. up s.next (s.next + 0) x (omega arith) q) s.tuple h.1, omega (arith, h.2), refl), tt)

  over-children_by : (p : Program) → IsProgram p → (s : Tracked) → IsLocal P b s → (gs : List Goal) → LocalGoals (P s.next) gs → AllByRecursion (IsLocal P b) (children_by p s gs)
  over-children_by p good s h [] k = tt
  over-children_by p good s h (call g ∷ rest) k =
      over-unless (fault_of g) s h (call_children p s g rest (builtin g)) (over-call p good s h g k.0 rest k.1 (builtin g) (Local-builtin (P (s.next + 0)) g (Local-weaken (P s.next) (P (s.next + 0)) (λ x q. up s.next (s.next + 0) x (omega arith) q) g k.0)))
  over-children_by p good s h (fork cs ts own now ∷ rest) k = tt

  pub over-children : (p : Program) → IsProgram p → (s : Tracked) → IsLocal P b s → AllByRecursion (IsLocal P b) (children p s)
  over-children p good s h = over-children_by p good s h (opened s.goals) (over-opened (P s.next) s.goals h.0)

  one_over : (ss : List Tracked) (t : Tracked) → AllByRecursion (IsLocal P b) ss → IsOneOf t ss → IsLocal P b t
  one_over [] t h i = absurd i
  one_over (s ∷ ss) t h (inl e) = subst (IsLocal P b) (sym e) h.0
  one_over (s ∷ ss) t h (inr i) = one_over ss t h.1 i

  pub over-from : (p : Program) → IsProgram p → (o s : Tracked) → IsLocal P b o → IsFrom p o s → IsLocal P b s
  over-from p good o s h itself = h
  over-from p good o s h (calls {s = r} t k i) = one_over (children p r) t (over-children p good r (over-from p good o r h k)) i
  over-from p good o s h (opens {s = r} k) = let q = over-from p good o r h k in (over-opened (P r.next) r.goals q.0, q.1, q.2, ends-opened r.fault r.goals q.3)
  over-from p good o s h (reads {s = r} gs k z) = let q = over-from p good o r h k in (over-same (P r.next) r.goals gs z q.0, q.1, q.2, ends-same r.fault r.goals gs z q.3)

-- ---- the two kinds

pub below_from : (p : Program) (o s : Tracked) → IsProgram p → IsTrackedBelow o → IsFrom p o s → IsTrackedBelow s
below_from p o s good h k = over-from Below 0 (λ n m x l q. omega (arith, l, q)) (λ n m x l k q. q) p good o s h k

own_from : (p : Program) (g : Tree) (b : ℕ) (u : Tracked) → IsProgram p → Local (λ x. x < b) g → IsFrom p (alone g b) u → IsLocal (IsOwn g b) b u
own_from p g b u good h k =
    over-from (IsOwn g b) b (λ n m x l q. (omega (arith, l, q.0), q.1)) (λ n m x l i q. (q, λ r. absurd (far n x l i r))) p good (alone g b) u ((own, tt), LocalAll-arguments (IsOwn g b b) g own, omega arith, tt) k
  where
    far : (n x : ℕ) → b ≤ n → n ≤ x → x < b → ⊥
    far n x l i r = omega (arith, l, i, r)

    own : Local (IsOwn g b b) g
    own = Local-and (λ x. x < b) (λ x. x < b → occurs_all x (arguments g) ≡ true) g h (Local-weaken (λ x. occurs_all x (arguments g) ≡ true) (λ x. x < b → occurs_all x (arguments g) ≡ true) (λ x q _. q) g (Local-arguments_self g))

-- the tuple stays an instance of the goal's arguments
abbrev Fits : Tree → Tracked → Type 0
Fits g u = (f : ℕ → Tree) × (u.tuple ≡ instance_all f (arguments g))

fits-child : (g : Tree) (s : Tracked) → Fits g s → (rest : List Goal) (o : Option Subst) (body : List Goal) (w : ℕ) → AllByRecursion (Fits g) (child_if s rest o body w)
fits-child g s h rest None body w = tt
fits-child g s h rest (Some r) body w = (((λ x. instance (value r) (h.0 x)), ap (instance_all (value r)) h.1 ∙ instance_all_twice h.0 (value r) (arguments g)), tt)

fits-clauses : (g : Tree) (p : Program) (s : Tracked) → Fits g s → (t : Tree) (rest : List Goal) → AllByRecursion (Fits g) (flat_map (clause_children s t rest) p)
fits-clauses g [] s h t rest = tt
fits-clauses g (c ∷ p) s h t rest =
    AllByRecursion-append (Fits g) (clause_children s t rest c) (flat_map (clause_children s t rest) p)
    (fits-child g s h rest (mgu t (instance (shift s.next) c.head)) (map (placed (renamed c.vars s.next)) c.body) (c.vars + 1)) (fits-clauses g p s h t rest)

fits-call : (g : Tree) (p : Program) (s : Tracked) → Fits g s → (t : Tree) (rest : List Goal) (a : Option (Option Subst)) → AllByRecursion (Fits g) (call_children p s t rest a)
fits-call g p s h t rest None = fits-clauses g p s h t rest
fits-call g p s h t rest (Some a) = fits-child g s h rest a [] 0

fits-unless : (g : Tree) (e : Option Fault) (s : Tracked) → Fits g s → (ss : List Tracked) → AllByRecursion (Fits g) ss → AllByRecursion (Fits g) (children_unless e s ss)
fits-unless g None s h ss k = k
fits-unless g (Some e) s h ss k = (((λ x. instance (value []) (h.0 x)), ap (instance_all (value [])) h.1 ∙ instance_all_twice h.0 (value []) (arguments g)), tt)

fits-children_by : (g : Tree) (p : Program) (s : Tracked) → Fits g s → (gs : List Goal) → AllByRecursion (Fits g) (children_by p s gs)
fits-children_by g p s h [] = tt
fits-children_by g p s h (call t ∷ rest) = fits-unless g (fault_of t) s h (call_children p s t rest (builtin t)) (fits-call g p s h t rest (builtin t))
fits-children_by g p s h (fork cs ts own now ∷ rest) = tt

one_fits : (g : Tree) (ss : List Tracked) (t : Tracked) → AllByRecursion (Fits g) ss → IsOneOf t ss → Fits g t
one_fits g [] t h i = absurd i
one_fits g (s ∷ ss) t h (inl e) = subst (Fits g) (sym e) h.0
one_fits g (s ∷ ss) t h (inr i) = one_fits g ss t h.1 i

fits_from : (p : Program) (g : Tree) (b : ℕ) (u : Tracked) → IsFrom p (alone g b) u → Fits g u
fits_from p g b u itself = (var, sym (instance_all_var (arguments g)))
fits_from p g b u (calls {s = r} t k i) = one_fits g (children p r) t (fits-children_by g p r (fits_from p g b r k) (opened r.goals)) i
fits_from p g b u (opens {s = r} k) = fits_from p g b r k
fits_from p g b u (reads {s = r} gs k z) = fits_from p g b r k

pub of_from : (p : Program) (g : Tree) (b : ℕ) (u : Tracked) → IsProgram p → Local (λ x. x < b) g → IsFrom p (alone g b) u → IsOwnOf g b u
of_from p g b u good h k = let f = fits_from p g b u k in (f.0, f.1, own_from p g b u good h k)

-- ---- plain forms

plain-over : (P : ℕ → Type 0) (gs : List Goal) → LocalGoals P gs → LocalAll P (plain_goals (map untracked_goal gs))
plain-over P [] h = tt
plain-over P (call t ∷ gs) h = (h.0, plain-over P gs h.1)
plain-over P (fork cs none own now ∷ gs) h = absurd h.0
plain-over P (fork cs (more t ts) own now ∷ gs) h =
    LocalAll-append_trees P (instance_all own (more t ts)) (plain_goals (map untracked_goal gs)) (LocalAll-instance_all (λ x. Unit {0}) P own (λ x _. h.0 x) (more t ts) (any_all (more t ts))) (plain-over P gs h.1)

pub plain_is : (g : Tree) (b : ℕ) (u : Tracked) → IsOwnOf g b u → IsOf g b (plain_of (untracked u))
plain_is g b u h = go u.fault (plain_goals (map untracked_goal u.goals)) (plain-over (IsOwn g b u.next) u.goals h.2.0)
  where
    go : (e : Option Fault) (G : Trees) → LocalAll (IsOwn g b u.next) G → IsOf g b (plain_by e G u.tuple u.next u.steps)
    go None none k = (h.0, h.1, k, h.2.1, h.2.2)
    go None (more t ts) k = (h.0, h.1, k, h.2.1, h.2.2)
    go (Some e) none k = tt
    go (Some e) (more t ts) k = (h.0, h.1, k, h.2.1, h.2.2)

pub variables : VariablesLaw
variables = record { below = below_from; of_goal = of_from; plain = plain_is }
