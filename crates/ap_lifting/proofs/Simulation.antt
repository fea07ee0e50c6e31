-- The search of a lifted program follows that of the program as it is written.
use Rattle.std.proofs.Common.{◌≡◌, ℕ, zero, suc, ◌+◌, ◌<◌, ◌≤◌, List, [], ◌∷◌, ◌++◌, map, Option, Some, None, refl, ap, sym, ◌∙◌, subst, arith}
use Rattle.std.specs.List.{AllZip, AllByRecursion, flat_map}
use Rattle.std.proofs.lemmas.List.{map-append}
use Rattle.ap_term.specs.Tree.{Tree, Trees, var, int, atom, node, none, more, append_trees}
use Rattle.ap_term.specs.Substitution.{instance, instance_all, Subst, value, shift}
use Rattle.ap_term.specs.Unification.{mgu}
use Rattle.ap_term.specs.Builtins.{builtin}
use Rattle.ap_term.specs.Goals.{Part, Clause, Program, instance_part, plain_goals}
use Rattle.ap_term.specs.WellFormed.{IsClause, IsProgram}
use Rattle.ap_term.specs.Search.{way_if, clause_way, ways_by, children}
use Rattle.ap_term.specs.Vars.{Local, LocalAll}
use Rattle.ap_term.proofs.Locals.{LocalAll-instance_all, LocalAll-append_trees}
use Rattle.ap_term.proofs.GoalLists.{plain_goals-instance}
use Rattle.ap_laws.specs.Renaming.{Renamed, RenamedAll, Linked, SameState}
use Rattle.ap_laws.specs.Plain.{Plain, state, PlainWay, plain_of, as_state, plain_way, plain_ways, plain_child, plain_children_by, plain_children, IsPlainBelow, SamePlain}
use Rattle.ap_laws.specs.Plain as forms
use Rattle.ap_laws.specs.Trace.{trace, SameAction}
use Rattle.ap_term.proofs.Zips.{AllZip-append, AllZip-map, AllZip-flat_map}
use Rattle.ap_laws.proofs.Ways.{SameState-children}
use Rattle.ap_laws.proofs.Graft.{state-eq, LocalAll-below, Local-at}
use Rattle.ap_laws.proofs.SameStates.{SameState-sym, SameState-trans}
use Rattle.ap_laws.proofs.Views.{plain_children-plain_of, plain_of-as_state}
use Rattle.ap_laws.proofs.TraceNames.{trace_renaming}
use Rattle.ap_laws.proofs.Renamed.{RenamedAll-calls}
use Rattle.ap_lifting.specs.Rule.{Rule}
use Rattle.ap_lifting.specs.Lifted.{lifted_goal, lifted_clause}
use Rattle.ap_lifting.specs.LiftingLaws.{entered}
use Rattle.ap_lifting.specs.WrittenSearch.{Item, calling, choosing, entering, items, instance_item, Written, written, WrittenWay, way, written_way_if, rule_way, written_ways_by, written_child, written_children, written_trace, items_if}
use Rattle.ap_lifting.specs.Shown.{IsOrdinary, ShowsItem, ShowsAll, ShowsIf}
use Rattle.ap_lifting.proofs.Kept.{goals_called}
use Rattle.ap_lifting.proofs.Binds.{InRange, LocalAll-numbered, occurs-applied}
use Rattle.ap_lifting.proofs.LiftedCalls.{lifted_call, clauses_kept}
use Rattle.ap_lifting.proofs.Shown.{ShowsAll-append, items_show, all_kept, items_show_if}

-- ---- equality up to names, of plain states

as_states : (s t : Plain) → SamePlain s t → SameState (as_state s) (as_state t)
as_states (state G T n k) (state H U m j) h = (h.0, h.1, (RenamedAll-calls (Linked h.0 h.1 n m) G H h.2.0, h.2.1, h.2.2, refl))
as_states (forms.faulted e k) (forms.faulted i j) h = (h.0, h.1, (tt, tt, h.2.1, ap Some h.2.0))
as_states (state G T n k) (forms.faulted i j) h = absurd h.2
as_states (forms.faulted e k) (state H U m j) h = absurd h.2

module _ (p : Program) (good : IsProgram p) where
  plains : (s t : Plain) → SameState (as_state s) (as_state t) → SamePlain s t
  plains s t h = subst (λ u. SamePlain u t) (plain_of-as_state s) (subst (SamePlain (plain_of (as_state s))) (plain_of-as_state t) ((trace_renaming p good).0 (as_state s) (as_state t) h))

  SamePlain-sym : (s t : Plain) → SamePlain s t → SamePlain t s
  SamePlain-sym s t h = plains t s (SameState-sym (as_state s) (as_state t) (as_states s t h))

  SamePlain-trans : (s t u : Plain) → SamePlain s t → SamePlain t u → SamePlain s u
  SamePlain-trans s t u h k = plains s u (SameState-trans (as_state s) (as_state t) (as_state u) (as_states s t h) (as_states t u k))

  SamePlain-children : (s t : Plain) → SamePlain s t → AllZip SamePlain (plain_children (plain_ways p) s) (plain_children (plain_ways p) t)
  SamePlain-children s t h =
      let there : (u : Plain) → map plain_of (children p (as_state u)) ≡ plain_children (plain_ways p) u
      = λ u. plain_children-plain_of p (as_state u) ∙ ap (plain_children (plain_ways p)) (plain_of-as_state u)
      in
      subst (λ l. AllZip SamePlain l (plain_children (plain_ways p) t)) (there s)
      (subst (AllZip SamePlain (map plain_of (children p (as_state s)))) (there t)
      (AllZip-map SameState SamePlain plain_of plain_of ((trace_renaming p good).0) (children p (as_state s)) (children p (as_state t)) (SameState-children p good (as_state s) (as_state t) (as_states s t h))))

mutual
  same_one : (P : ℕ → Type 0) (R : ℕ → ℕ → Type 0) → ((x : ℕ) → P x → R x x) → (t : Tree) → Local P t → Renamed R t t
  same_one P R e (var x) h = e x h
  same_one P R e (int z) h = refl
  same_one P R e (atom a) h = refl
  same_one P R e (node a ts) h = (refl, same_all P R e ts h)

  same_all : (P : ℕ → Type 0) (R : ℕ → ℕ → Type 0) → ((x : ℕ) → P x → R x x) → (ts : Trees) → LocalAll P ts → RenamedAll R ts ts
  same_all P R e none h = tt
  same_all P R e (more t ts) h = (same_one P R e t h.0, same_all P R e ts h.1)

-- the same goals with a later first unused variable
pub later : (G T : Trees) (n m k : ℕ) → n ≤ m → LocalAll (λ x. x < n) G → LocalAll (λ x. x < n) T → SamePlain (state G T n k) (state G T m k)
later G T n m k l h j =
    let id : ℕ → ℕ = λ x. x in
    (id, id, (same_all (λ x. x < n) (Linked id id n m) (λ x o. (refl, refl, o, omega arith)) G h, same_all (λ x. x < n) (Linked id id n m) (λ x o. (refl, refl, o, omega arith)) T j, refl))

-- ---- one step

-- a rule and the clause that it was lifted to
pub record IsLiftedTo (names : ℕ → ℕ) (count : ℕ) (p : Program) (r : Rule) (c : Clause) : Type 0 where
  pub head : c.head ≡ r.head
  pub vars : c.vars ≡ r.vars
  pub body : ShowsIf names count p r.body (plain_goals c.body)

-- a program that was lifted from rules
pub record IsLiftedFrom (names : ℕ → ℕ) (count : ℕ) (rs : List Rule) (p : Program) : Type 0 where
  pub program : IsProgram p
  pub main : List Clause
  pub each : AllZip (IsLiftedTo names count p) rs main
  pub selected : (n : ℕ) (t : Tree) → IsOrdinary names count p t → flat_map (clause_way n t) p ≡ flat_map (clause_way n t) main

module _ (names : ℕ → ℕ) (count : ℕ) (rs : List Rule) (p : Program) (from : IsLiftedFrom names count rs p) where
  abbrev Shown : List Item → Trees → Type 0
  Shown = ShowsAll names count p

  -- the goals of some plain state stand for what is left to do, and the plain state is the other up to names
  abbrev pub Follows : Written → Plain → Type 0
  Follows (written is T n k) u = (G : Trees) × Shown is G × SamePlain (state G T n k) u

  abbrev WayShows : WrittenWay → PlainWay → Type 0
  WayShows (way s is takes) (forms.way r b v) = (s ≡ r) × Shown is b × (takes ≡ v)
  WayShows (way s is takes) (forms.fault_way e) = ⊥

  way_shows : (o : Option Subst) (is : List Item) (ps : List Part) (v w : ℕ) → v ≡ w → Shown is (plain_goals ps) → AllZip WayShows (written_way_if o is v) (map plain_way (way_if o ps w))
  way_shows None is ps v w e h = tt
  way_shows (Some s) is ps v w e h = ((refl, h, e), tt)

  rule_shows : (n : ℕ) (t : Tree) (r : Rule) (c : Clause) → IsLiftedTo names count p r c → AllZip WayShows (rule_way n t r) (map plain_way (clause_way n t c))
  rule_shows n t r c h =
      subst (λ u. AllZip WayShows (rule_way n t r) (map plain_way (way_if (mgu t (instance (shift n) u)) (map (instance_part (shift n)) c.body) (c.vars + 1)))) (sym h.head)
      (way_shows (mgu t (instance (shift n) r.head)) (map (instance_item (shift n)) (items_if r.body)) (map (instance_part (shift n)) c.body) (r.vars + 1) (c.vars + 1) (ap (λ v. v + 1) (sym h.vars))
      (subst (Shown (map (instance_item (shift n)) (items_if r.body))) (sym (plain_goals-instance (shift n) c.body))
      (all_kept names count p (shift n) (items_if r.body) (plain_goals c.body) (items_show_if names count p r.body (plain_goals c.body) h.body))))

  rules_show : (n : ℕ) (t : Tree) (qs : List Rule) (cs : List Clause) → AllZip (IsLiftedTo names count p) qs cs → AllZip WayShows (flat_map (rule_way n t) qs) (map plain_way (flat_map (clause_way n t) cs))
  rules_show n t [] [] h = tt
  rules_show n t (r ∷ qs) (c ∷ cs) h =
      subst (AllZip WayShows (rule_way n t r ++ flat_map (rule_way n t) qs)) (sym (map-append plain_way (clause_way n t c) (flat_map (clause_way n t) cs)))
      (AllZip-append WayShows (rule_way n t r) (flat_map (rule_way n t) qs) (map plain_way (clause_way n t c)) (map plain_way (flat_map (clause_way n t) cs)) (rule_shows n t r c h.0) (rules_show n t qs cs h.1))
  rules_show n t [] (_ ∷ _) h = absurd h
  rules_show n t (_ ∷ _) [] h = absurd h

  ways_show : (n : ℕ) (t : Tree) → IsOrdinary names count p t → (o : Option (Option Subst)) → AllZip WayShows (written_ways_by rs n t o) (map plain_way (ways_by p n t o))
  ways_show n t h None = subst (λ l. AllZip WayShows (flat_map (rule_way n t) rs) (map plain_way l)) (sym (from.selected n t h)) (rules_show n t rs from.main from.each)
  ways_show n t h (Some answer) = way_shows answer [] [] 0 0 refl tt

  -- with the same variables
  abbrev Exactly : Written → Plain → Type 0
  Exactly (written is T n k) (state G U m j) = Shown is G × (T ≡ U) × (n ≡ m) × (k ≡ j)
  Exactly (written is T n k) (forms.faulted e j) = ⊥

  child_shows : (is : List Item) (G T : Trees) (n k : ℕ) → Shown is G → (w : WrittenWay) (v : PlainWay) → WayShows w v → Exactly (written_child is T n k w) (plain_child G T n k v)
  child_shows is G T n k h (way s js takes) (forms.way r b v) e = (
    subst (λ z. Shown (map (instance_item (value s)) (js ++ is)) (instance_all (value z) (append_trees b G))) e.0 (all_kept names count p (value s) (js ++ is) (append_trees b G) (ShowsAll-append names count p js is b G e.1 h)),
    ap (λ z. instance_all (value z) T) e.0,
    ap (λ z. n + z) e.2,
    refl,
  )
  child_shows is G T n k h (way s js takes) (forms.fault_way e) q = absurd q

  children_show : (is : List Item) (G T : Trees) (n k : ℕ) → Shown is G → (ws : List WrittenWay) (vs : List PlainWay) → AllZip WayShows ws vs
      → AllZip Exactly (map (written_child is T n k) ws) (plain_children_by G T n k vs)
  children_show is G T n k h [] [] e = tt
  children_show is G T n k h (w ∷ ws) (v ∷ vs) e = (child_shows is G T n k h w v e.0, children_show is G T n k h ws vs e.1)
  children_show is G T n k h [] (_ ∷ _) e = absurd e
  children_show is G T n k h (_ ∷ _) [] e = absurd e

  exactly_then : (x : Written) (y z : Plain) → Exactly x y → SamePlain y z → Follows x z
  exactly_then (written is T n k) (state G U m j) z h e = (G, h.0, subst (λ u. SamePlain u z) (state-eq refl (sym h.1) (sym h.2) (sym h.3)) e)
  exactly_then (written is T n k) (forms.faulted i j) z h e = absurd h

  follows_then : (x : Written) (y z : Plain) → Follows x y → SamePlain y z → Follows x z
  follows_then (written is T n k) y z h e = (h.0, h.1, SamePlain-trans p from.program (state h.0 T n k) y z h.2 e)

  zip_then : (R : Written → Plain → Type 0) → ((x : Written) (y z : Plain) → R x y → SamePlain y z → Follows x z) → (xs : List Written) (ys zs : List Plain) → AllZip R xs ys → AllZip SamePlain ys zs → AllZip Follows xs zs
  zip_then R e [] [] [] h k = tt
  zip_then R e (x ∷ xs) (y ∷ ys) (z ∷ zs) h k = (e x y z h.0 k.0, zip_then R e xs ys zs h.1 k.1)
  zip_then R e [] [] (_ ∷ _) h k = absurd k
  zip_then R e [] (_ ∷ _) zs h k = absurd h
  zip_then R e (_ ∷ _) [] zs h k = absurd h
  zip_then R e (_ ∷ _) (_ ∷ _) [] h k = absurd k

  -- a state that was entered, up to names
  entered_follows : (is js : List Item) (vars line i : ℕ) (f : ℕ → Tree) (ps : List Part) (G T : Trees) (n k : ℕ) (y : Plain) → IsPlainBelow (state (more (instance f (lifted_goal names vars line i)) G) T n k)
      → IsClause (lifted_clause names vars line i ps) → Shown js (instance_all f (plain_goals ps)) → Shown is G → SamePlain y (entered vars f G T n k ps) → Follows (written (js ++ is) T n (k + 1)) y
  entered_follows is js vars line i f ps G T n k y below kept h g e =
      let goal = lifted_goal names vars line i in
      let at : (x : ℕ) → InRange vars x → Local (λ z. z < n) (f x) = λ x l. Local-at (λ z. z < n) f goal below.0.0 x (occurs-applied (names i) vars x l.0 l.1) in
      let body : LocalAll (λ z. z < n) (instance_all f (plain_goals ps)) = LocalAll-instance_all (InRange vars) (λ z. z < n) f at (plain_goals ps) (LocalAll-numbered vars (plain_goals ps) (goals_called vars ps kept.body).1) in
      let H = append_trees (instance_all f (plain_goals ps)) G in (
        H,
        ShowsAll-append names count p js is (instance_all f (plain_goals ps)) G h g,
        SamePlain-trans p from.program (state H T n (k + 1)) (entered vars f G T n k ps) y
            (later H T n (n + (vars + 1)) (k + 1) (omega arith) (LocalAll-append_trees (λ z. z < n) (instance_all f (plain_goals ps)) G body below.0.1) below.1)
            (SamePlain-sym p from.program y (entered vars f G T n k ps) e),
      )

  -- the children of what is left to do and of the goals that stand for it
  step : (i : Item) (is : List Item) (t : Tree) (G T : Trees) (n k : ℕ) → ShowsItem names count p i t → Shown is G → IsPlainBelow (state (more t G) T n k)
      → (zs : List Plain) → AllZip SamePlain (plain_children (plain_ways p) (state (more t G) T n k)) zs → AllZip Follows (written_children rs i is T n k) zs
  step (calling u) is t G T n k h g below zs e =
      let same : AllZip SamePlain (plain_children (plain_ways p) (state (more u G) T n k)) zs = subst (λ v. AllZip SamePlain (plain_children (plain_ways p) (state (more v G) T n k)) zs) h.0 e in
      zip_then Exactly exactly_then (map (written_child is T n k) (written_ways_by rs n u (builtin u))) (plain_children (plain_ways p) (state (more u G) T n k)) zs
      (children_show is G T n k g (written_ways_by rs n u (builtin u)) (map plain_way (ways_by p n u (builtin u))) (ways_show n u h.1 (builtin u))) same
  step (entering b) is t G T n k h g below zs e =
      let goal = instance h.args (lifted_goal names h.vars h.line h.number) in
      let low : IsPlainBelow (state (more goal G) T n k) = subst (λ v. IsPlainBelow (state (more v G) T n k)) h.is below in
      let same : AllZip SamePlain (plain_children (plain_ways p) (state (more goal G) T n k)) zs = subst (λ v. AllZip SamePlain (plain_children (plain_ways p) (state (more v G) T n k)) zs) h.is e in
      let kept = subst (AllByRecursion IsClause) h.clauses (clauses_kept (names h.number) p from.program) in
      let called = lifted_call p from.program names h.vars h.line h.number (h.body ∷ []) h.fixed h.clauses h.args G T n k low in
      one_entered (plain_children (plain_ways p) (state (more goal G) T n k)) (entered h.vars h.args G T n k h.body) (written (items b ++ is) T n (k + 1)) zs called
      (λ y m. entered_follows is (items b) h.vars h.line h.number h.args h.body G T n k y low kept.0 (items_show names count p b (instance_all h.args (plain_goals h.body)) h.inside) g m) same
    where
      one_entered : (ys : List Plain) (u : Plain) (x : Written) (zs : List Plain) → AllZip SamePlain ys (u ∷ []) → ((y : Plain) → SamePlain y u → Follows x y) → AllZip SamePlain ys zs → AllZip Follows (x ∷ []) zs
      one_entered (y ∷ []) u x (z ∷ []) h e k = (follows_then x y z (e y h.0) k.0, tt)
      one_entered [] u x zs h e k = absurd h
      one_entered (y ∷ (_ ∷ _)) u x zs h e k = absurd h.1
      one_entered (y ∷ []) u x [] h e k = absurd k
      one_entered (y ∷ []) u x (_ ∷ (_ ∷ _)) h e k = absurd k.1
  step (choosing a b) is t G T n k h g below zs e =
      let goal = instance h.args (lifted_goal names h.vars h.line h.number) in
      let low : IsPlainBelow (state (more goal G) T n k) = subst (λ v. IsPlainBelow (state (more v G) T n k)) h.is below in
      let same : AllZip SamePlain (plain_children (plain_ways p) (state (more goal G) T n k)) zs = subst (λ v. AllZip SamePlain (plain_children (plain_ways p) (state (more v G) T n k)) zs) h.is e in
      let kept = subst (AllByRecursion IsClause) h.clauses (clauses_kept (names h.number) p from.program) in
      let called = lifted_call p from.program names h.vars h.line h.number (h.first ∷ h.second ∷ []) h.fixed h.clauses h.args G T n k low in
      two_entered (plain_children (plain_ways p) (state (more goal G) T n k)) (entered h.vars h.args G T n k h.first) (entered h.vars h.args G T n k h.second)
      (written (items a ++ is) T n (k + 1)) (written (items b ++ is) T n (k + 1)) zs called
      (λ y m. entered_follows is (items a) h.vars h.line h.number h.args h.first G T n k y low kept.0 (items_show names count p a (instance_all h.args (plain_goals h.first)) h.in_first) g m)
      (λ y m. entered_follows is (items b) h.vars h.line h.number h.args h.second G T n k y low kept.1.0 (items_show names count p b (instance_all h.args (plain_goals h.second)) h.in_second) g m) same
    where
      two_entered : (ys : List Plain) (u v : Plain) (x w : Written) (zs : List Plain) → AllZip SamePlain ys (u ∷ v ∷ []) → ((y : Plain) → SamePlain y u → Follows x y) → ((y : Plain) → SamePlain y v → Follows w y)
          → AllZip SamePlain ys zs → AllZip Follows (x ∷ w ∷ []) zs
      two_entered (y ∷ o ∷ []) u v x w (z ∷ q ∷ []) h e d k = (follows_then x y z (e y h.0) k.0, (follows_then w o q (d o h.1.0) k.1.0, tt))
      two_entered [] u v x w zs h e d k = absurd h
      two_entered (y ∷ []) u v x w zs h e d k = absurd h.1
      two_entered (y ∷ o ∷ (_ ∷ _)) u v x w zs h e d k = absurd h.1.1
      two_entered (y ∷ o ∷ []) u v x w [] h e d k = absurd k
      two_entered (y ∷ o ∷ []) u v x w (_ ∷ []) h e d k = absurd k.1
      two_entered (y ∷ o ∷ []) u v x w (_ ∷ _ ∷ (_ ∷ _)) h e d k = absurd k.1.1

  -- ---- whole traces

  finished : (r : ℕ) (T : Trees) (n k : ℕ) (z : Plain) (G : Trees) → Shown [] G → SamePlain (state G T n k) z → AllZip SameAction (written_trace rs r (written [] T n k)) (trace (plain_ways p) r z)
  unfolding written_trace trace
  finished zero T n k (state none U m j) none h e = ((e, refl), tt)
  finished (suc r) T n k (state none U m j) none h e = ((e, refl), tt)
  finished zero T n k (state (more _ _) U m j) none h e = absurd e.2.0
  finished (suc r) T n k (state (more _ _) U m j) none h e = absurd e.2.0
  finished zero T n k (forms.faulted i j) none h e = absurd e.2
  finished (suc r) T n k (forms.faulted i j) none h e = absurd e.2
  finished r T n k z (more _ _) h e = absurd h

  stopped : (i : Item) (is : List Item) (T : Trees) (n k : ℕ) (z : Plain) (G : Trees) → Shown (i ∷ is) G → SamePlain (state G T n k) z
      → AllZip SameAction (written_trace rs zero (written (i ∷ is) T n k)) (trace (plain_ways p) zero z)
  unfolding written_trace trace
  stopped i is T n k (state (more _ _) U m j) (more t G) h e = (tt, tt)
  stopped i is T n k (state none U m j) (more t G) h e = absurd e.2.0
  stopped i is T n k (forms.faulted _ _) (more t G) h e = absurd e.2
  stopped i is T n k z none h e = absurd h

  running : (r : ℕ) (i : Item) (is : List Item) (T : Trees) (n k : ℕ) (z : Plain) (G : Trees) → Shown (i ∷ is) G → SamePlain (state G T n k) z
      → ((x : Written) (y : Plain) → Follows x y → AllZip SameAction (written_trace rs r x) (trace (plain_ways p) r y))
      → AllZip SameAction (written_trace rs (suc r) (written (i ∷ is) T n k)) (trace (plain_ways p) (suc r) z)
  unfolding written_trace trace
  running r i is T n k (state (more b H) U m j) (more t G) h e rest = (
    tt,
    AllZip-flat_map Follows SameAction (λ x. written_trace rs r x) (λ y. trace (plain_ways p) r y) rest (written_children rs i is T n k) (plain_children (plain_ways p) (state (more b H) U m j))
        (step i is t G T n k h.0 h.1 (LocalAll-below e.0 e.1 n m (more t G) (more b H) e.2.0, LocalAll-below e.0 e.1 n m T U e.2.1) (plain_children (plain_ways p) (state (more b H) U m j))
        (SamePlain-children p from.program (state (more t G) T n k) (state (more b H) U m j) e)),
  )
  running r i is T n k (state none U m j) (more t G) h e rest = absurd e.2.0
  running r i is T n k (forms.faulted _ _) (more t G) h e rest = absurd e.2
  running r i is T n k z none h e rest = absurd h

  -- the traces have the same calls and stops, and answers that are equal up to names
  pub follows_trace : (r : ℕ) (x : Written) (z : Plain) → Follows x z → AllZip SameAction (written_trace rs r x) (trace (plain_ways p) r z)
  follows_trace r (written [] T n k) z h = finished r T n k z h.0 h.1 h.2
  follows_trace zero (written (i ∷ is) T n k) z h = stopped i is T n k z h.0 h.1 h.2
  follows_trace (suc r) (written (i ∷ is) T n k) z h = running r i is T n k z h.0 h.1 h.2 (follows_trace r)
