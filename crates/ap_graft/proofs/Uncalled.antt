-- A clause that nothing calls may have any head of its name.
use Rattle.std.proofs.Common.{◌≡◌, ℕ, ◌+◌, inl, inr, List, [], ◌∷◌, ◌++◌, map, Option, Some, None, refl, ap, sym, ◌∙◌, subst}
use Rattle.std.specs.List.{AllByRecursion, flat_map}
use Rattle.std.proofs.lemmas.Grind.{flat_map-append}
use Rattle.ap_term.specs.Tree.{Tree, Trees, var, int, atom, node, none, more, append_trees}
use Rattle.ap_term.specs.Substitution.{instance, Subst, value, shift}
use Rattle.ap_term.specs.Unification.{mgu}
use Rattle.ap_term.specs.Unifier.{IsMostGeneral}
use Rattle.ap_term.specs.declared.faults.Fault.{Fault}
use Rattle.ap_term.specs.Faults.{fault_of}
use Rattle.ap_term.specs.Builtins.{builtin}
use Rattle.ap_term.specs.Goals as goals
use Rattle.ap_term.specs.Goals.{Clause, Program, Query, joined, instance_check, instance_part, plain_goals}
use Rattle.ap_term.proofs.Solvable.{mgu-general}
use Rattle.ap_tracked.specs.Tracked.{Goal, call, fork, moved, placed, renamed, calls as goal_calls, opened, Tracked, IsOneOf, child_if, clause_children, call_children, children_unless, children_by, children}
use Rattle.ap_tracked.specs.Forks.{Fork, Forks, here, below, beside, alone, IsGoalOf, ComesFirst}
use Rattle.ap_graft.specs.Uncalled.{IsOther, AreOthers, BodyIsOther, NeverCalls, HasName}

-- ---- goals with another name

abbrev GoalOther : ℕ → Goal → Type 0
GoalOther a (call t) = IsOther a t
GoalOther a (fork cs ts own now) = AreOthers a ts

abbrev Others : ℕ → List Goal → Type 0
Others a gs = AllByRecursion (GoalOther a) gs

pub instance-other : (a : ℕ) (f : ℕ → Tree) (t : Tree) → IsOther a t → IsOther a (instance f t)
instance-other a f (var x) h = absurd h
instance-other a f (int z) h = h
instance-other a f (atom b) h = h
instance-other a f (node b ts) h = h

pub apart : (a : ℕ) (f u : ℕ → Tree) (g h : Tree) → IsOther a g → HasName a h → instance u g ≡ instance u (instance f h) → ⊥
apart a f u (var x) h o n e = o
apart a f u g (var x) o n e = n
apart a f u g (int z) o n e = n
apart a f u (int z) (atom b) o n e = cc
apart a f u (int z) (node b ts) o n e = cc
apart a f u (atom c) (atom b) o n e = o (let d : c ≡ b = cc in d ∙ n)
apart a f u (atom c) (node b ts) o n e = cc
apart a f u (node c us) (atom b) o n e = cc
apart a f u (node c us) (node b ts) o n e = o (let d : c ≡ b = cc in d ∙ n)

pub no-unifier : (a : ℕ) (f : ℕ → Tree) (g h : Tree) → IsOther a g → HasName a h → mgu g (instance f h) ≡ None
no-unifier a f g h o n = go (mgu g (instance f h)) refl (mgu-general g (instance f h))
  where
    go : (m : Option Subst) → mgu g (instance f h) ≡ m → IsMostGeneral g (instance f h) m → mgu g (instance f h) ≡ None
    go None e k = e
    go (Some s) e k = absurd (apart a f (value s) g h o n k.0)

others-moved : (a : ℕ) (u : ℕ → Tree) (gs : List Goal) → Others a gs → Others a (map (moved u) gs)
others-moved a u [] h = tt
others-moved a u (call t ∷ gs) h = (instance-other a u t h.0, others-moved a u gs h.1)
others-moved a u (fork cs ts own now ∷ gs) h = (h.0, others-moved a u gs h.1)

others-append : (a : ℕ) (gs hs : List Goal) → Others a gs → Others a hs → Others a (gs ++ hs)
others-append a [] hs h k = k
others-append a (g ∷ gs) hs h k = (h.0, others-append a gs hs h.1 k)

split-others : (a : ℕ) (ts us : Trees) → AreOthers a (append_trees ts us) → AreOthers a ts × AreOthers a us
split-others a none us h = (tt, h)
split-others a (more t ts) us h = let r = split-others a ts us h.1 in ((h.0, r.0), r.1)

pub others-placed : (a : ℕ) (f : ℕ → Tree) (ps : List goals.Part) → AreOthers a (plain_goals ps) → Others a (map (placed f) ps)
others-placed a f [] h = tt
others-placed a f (goals.call t ∷ ps) h = (instance-other a f t h.0, others-placed a f ps h.1)
others-placed a f (goals.group cs ts ∷ ps) h = let r = split-others a ts (plain_goals ps) h in (r.0, others-placed a f ps r.1)

others-calls : (a : ℕ) (f : ℕ → Tree) (ts : Trees) (gs : List Goal) → AreOthers a ts → Others a gs → Others a (goal_calls f ts ++ gs)
others-calls a f none gs h k = k
others-calls a f (more t ts) gs h k = (instance-other a f t h.0, others-calls a f ts gs h.1 k)

others-opened : (a : ℕ) (gs : List Goal) → Others a gs → Others a (opened gs)
others-opened a [] h = tt
others-opened a (call t ∷ gs) h = h
others-opened a (fork cs none f now ∷ gs) h = others-opened a gs h.1
others-opened a (fork cs (more t ts) f now ∷ gs) h = (instance-other a f t h.0.0, others-calls a f ts gs h.0.1 h.1)

abbrev StatesOther : ℕ → List Tracked → Type 0
StatesOther a ss = AllByRecursion (λ (s : Tracked). Others a s.goals) ss

states-append : (a : ℕ) (ss ts : List Tracked) → StatesOther a ss → StatesOther a ts → StatesOther a (ss ++ ts)
states-append a [] ts h k = k
states-append a (s ∷ ss) ts h k = (h.0, states-append a ss ts h.1 k)

child-other : (a : ℕ) (s : Tracked) (rest : List Goal) (o : Option Subst) (body : List Goal) (n : ℕ) → Others a rest → Others a body → StatesOther a (child_if s rest o body n)
child-other a s rest None body n h k = tt
child-other a s rest (Some b) body n h k = (others-moved a (value b) (body ++ rest) (others-append a body rest k h), tt)

clauses-other : (a : ℕ) (p : Program) (s : Tracked) (g : Tree) (rest : List Goal) → NeverCalls a p → Others a rest → StatesOther a (flat_map (clause_children s g rest) p)
clauses-other a [] s g rest never h = tt
clauses-other a (c ∷ p) s g rest never h =
    states-append a (clause_children s g rest c) (flat_map (clause_children s g rest) p)
    (child-other a s rest (mgu g (instance (shift s.next) c.head)) (map (placed (renamed c.vars s.next)) c.body) (c.vars + 1) h (others-placed a (renamed c.vars s.next) c.body never.0)) (clauses-other a p s g rest never.1 h)

call-other : (a : ℕ) (p : Program) (s : Tracked) (g : Tree) (rest : List Goal) (o : Option (Option Subst)) → NeverCalls a p → Others a rest → StatesOther a (call_children p s g rest o)
call-other a p s g rest None never h = clauses-other a p s g rest never h
call-other a p s g rest (Some o) never h = child-other a s rest o [] 0 h tt

unless-other : (a : ℕ) (e : Option Fault) (s : Tracked) (ss : List Tracked) → StatesOther a ss → StatesOther a (children_unless e s ss)
unless-other a None s ss h = h
unless-other a (Some e) s ss h = (tt, tt)

children-other : (a : ℕ) (p : Program) (s : Tracked) (gs : List Goal) → NeverCalls a p → Others a gs → StatesOther a (children_by p s gs)
children-other a p s [] never h = tt
children-other a p s (call g ∷ rest) never h = unless-other a (fault_of g) s (call_children p s g rest (builtin g)) (call-other a p s g rest (builtin g) never h.1)
children-other a p s (fork cs ts own now ∷ rest) never h = tt

one-other : (a : ℕ) (ss : List Tracked) (t : Tracked) → StatesOther a ss → IsOneOf t ss → Others a t.goals
one-other a [] t h i = absurd i
one-other a (s ∷ ss) t h (inl e) = subst (λ z. Others a z.goals) (sym e) h.0
one-other a (s ∷ ss) t h (inr i) = one-other a ss t h.1 i

first-other : (a : ℕ) (f : Fork) (gs : List Goal) → Others a gs → ComesFirst f gs → AreOthers a f.goals
first-other a f [] h c = absurd c
first-other a f (call t ∷ gs) h c = absurd c
first-other a f (fork cs ts own now ∷ gs) h c = subst (λ z. AreOthers a z.goals) (sym c) h.0

goal-other : (a : ℕ) (g : Tree) (ts : Trees) → AreOthers a ts → IsGoalOf g ts → IsOther a g
goal-other a g none h i = absurd i
goal-other a g (more t ts) h (inl e) = subst (IsOther a) (sym e) h.0
goal-other a g (more t ts) h (inr i) = goal-other a g ts h.1 i

forks-other : (a : ℕ) (p : Program) → NeverCalls a p → (s : Tracked) (d : ℕ) (f : Fork) → Others a s.goals → Forks p s d f → AreOthers a f.goals
forks-other a p never s d f h (here l c) = first-other a f s.goals h c
forks-other a p never s d f h (below t l i k) = forks-other a p never t d f (one-other a (children p s) t (children-other a p s (opened s.goals) never (others-opened a s.goals h)) i) k
forks-other a p never s d f h (beside e g n k i u m) =
    forks-other a p never (alone (instance e.own g) n) d f (instance-other a e.own g (goal-other a g e.goals (forks-other a p never s d e h k) i), tt) m

module _ (a : ℕ) (p l : Program) (c d : Clause) (c-named : HasName a c.head) (d-named : HasName a d.head) (never : NeverCalls a (p ++ d ∷ l)) where
  none-by : (s : Tracked) (g : Tree) (rest : List Goal) → IsOther a g → (e : Clause) → HasName a e.head → clause_children s g rest e ≡ []
  none-by s g rest h e named = ap (λ m. child_if s rest m (map (placed (renamed e.vars s.next)) e.body) (e.vars + 1)) (no-unifier a (shift s.next) g e.head h named)

  same-call : (s : Tracked) (g : Tree) (rest : List Goal) (o : Option (Option Subst)) → IsOther a g → call_children (p ++ c ∷ l) s g rest o ≡ call_children (p ++ d ∷ l) s g rest o
  same-call s g rest (Some o) h = refl
  same-call s g rest None h =
      flat_map-append (clause_children s g rest) p (c ∷ l)
      ∙ ap (λ ws. flat_map (clause_children s g rest) p ++ (ws ++ flat_map (clause_children s g rest) l)) (none-by s g rest h c c-named ∙ sym (none-by s g rest h d d-named))
      ∙ sym (flat_map-append (clause_children s g rest) p (d ∷ l))

  same-children_by : (s : Tracked) (gs : List Goal) → Others a gs → children_by (p ++ c ∷ l) s gs ≡ children_by (p ++ d ∷ l) s gs
  same-children_by s [] h = refl
  same-children_by s (call g ∷ rest) h = ap (children_unless (fault_of g) s) (same-call s g rest (builtin g) h.0)
  same-children_by s (fork cs ts own now ∷ rest) h = refl

  pub same-forks : (s : Tracked) (k : ℕ) (f : Fork) → Others a s.goals → Forks (p ++ c ∷ l) s k f → Forks (p ++ d ∷ l) s k f
  same-forks s k f h (here q r) = here q r
  same-forks s k f h (below t q i r) =
      let j : IsOneOf t (children (p ++ d ∷ l) s) = subst (IsOneOf t) (same-children_by s (opened s.goals) (others-opened a s.goals h)) i in
      below t q j (same-forks t k f (one-other a (children (p ++ d ∷ l) s) t (children-other a (p ++ d ∷ l) s (opened s.goals) never (others-opened a s.goals h)) j) r)
  same-forks s k f h (beside e g n q i u m) =
      let r : Forks (p ++ d ∷ l) s k e = same-forks s k e h q in
      beside e g n r i u (same-forks (alone (instance e.own g) n) k f (instance-other a e.own g (goal-other a g e.goals (forks-other a (p ++ d ∷ l) never s k e h r) i), tt) m)

pub middle : (a : ℕ) (p l : Program) (c : Clause) → NeverCalls a (p ++ c ∷ l) → BodyIsOther a c
middle a [] l c h = h.0
middle a (e ∷ p) l c h = middle a p l c h.1
