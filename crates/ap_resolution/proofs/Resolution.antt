-- A clause's child.
use Rattle.std.proofs.Common.{◌≡◌, ℕ, ◌+◌, ◌-◌, ◌<◌, Bool, true, false, if◌then◌else◌, List, ◌∷◌, ◌++◌, map, refl, ap, sym, ◌∙◌, subst, arith}
use Rattle.std.specs.Prelude.{nat_lt}
use Rattle.std.proofs.lemmas.Bool.Decides.{Decides-ltb}
use Rattle.ap_tracked.specs.Sets.{Resolved}
use Rattle.ap_term.specs.Tree.{Tree, Trees, var, atom, more, append_trees}
use Rattle.ap_term.specs.Substitution.{instance, instance_all, shift}
use Rattle.ap_term.specs.Goals.{Clause}
use Rattle.ap_term.specs.WellFormed.{in_range, IsClause}
use Rattle.ap_term.proofs.Copies.{instance_twice}
use Rattle.ap_term.proofs.Solutions.{instance_same}
use Rattle.ap_term.specs.Vars.{Local, LocalAll}
use Rattle.ap_term.proofs.Locals.{instance-Local, instance_all-LocalAll}
use Rattle.ap_term.proofs.TreeLists.{instance_all-append_trees}
use Rattle.ap_tracked.specs.Tracked.{Goal, call, placed, renamed, Tracked, clause_children}
use Rattle.ap_tracked.specs.Marks.{marked}
use Rattle.ap_tracked.specs.Instances.{Inst}
use Rattle.ap_tracked.proofs.Marks.{marks}
use Rattle.ap_graft.specs.Variables.{LocalGoals}
use Rattle.ap_graft.proofs.Variables.{marked-over}
use Rattle.ap_resolution.specs.Laws.{ResolutionLaw}
use Rattle.ap_resolution.proofs.Agreeing.{marked-agree}
use Rattle.ap_resolution.proofs.Unified.{Meets, goals-are, IsSetOf-same, unified_child}

-- one map below n, and another from n on
beside : ℕ → (ℕ → Tree) → (ℕ → Tree) → ℕ → Tree
beside n f h x = if nat_lt x n then f x else h (x - n)

beside-below : (n : ℕ) (f h : ℕ → Tree) (x : ℕ) → x < n → beside n f h x ≡ f x
unfolding beside
beside-below n f h x l = ap (λ b. if b then f x else h (x - n)) ((Decides-ltb x n).1 l)

beside-above : (n : ℕ) (f h : ℕ → Tree) (x : ℕ) → beside n f h (x + n) ≡ h x
unfolding beside
beside-above n f h x = go (nat_lt (x + n) n) refl
  where
    go : (b : Bool) → nat_lt (x + n) n ≡ b → (if b then f (x + n) else h (x + n - n)) ≡ h x
    go true e = absurd (let l : x + n < n = (Decides-ltb (x + n) n).0 e in omega arith)
    go false e = let k : x + n - n ≡ x = omega arith in ap h k

-- a clause's own variable, moved up
renamed-under : (f : ℕ → Tree) (v n x : ℕ) → in_range v x ≡ true → instance f (renamed v n x) ≡ f (x + n)
renamed-under f v n x h = ap (λ b. instance f (if b then var (x + n) else atom 0)) h

module _ (s : Tracked) (g : Tree) (rest : List Goal) (c : Clause) (good : IsClause c) (first : s.goals ≡ call g ∷ rest) where
  -- the clause with variables of its own
  abbrev head : Tree
  head = instance (shift s.next) c.head

  abbrev parts : List Goal
  parts = map (placed (renamed c.vars s.next)) c.body ++ rest

  -- the goals under a map
  goals_of : (f h : ℕ → Tree) → ((x : ℕ) → f (x + s.next) ≡ h x) → instance_all f (marked parts) ≡ append_trees (marked (map (placed h) c.body)) (instance_all f (marked rest))
  goals_of f h e =
      ap (instance_all f) (marks.append (map (placed (renamed c.vars s.next)) c.body) rest)
      ∙ instance_all-append_trees f (marked (map (placed (renamed c.vars s.next)) c.body)) (marked rest)
      ∙ ap (λ ts. append_trees ts (instance_all f (marked rest)))
      (sym (marks.places f (renamed c.vars s.next) c.body) ∙ marked-agree (λ x. instance f (renamed c.vars s.next x)) h c.vars (λ x r. renamed-under f c.vars s.next x r ∙ e x) c.body good.body)

  resolved : (gs t : Trees) → Meets s g head parts gs t → Resolved (Inst s) c gs t
  resolved gs t m =
      let f : ℕ → Tree = m.0 in
      let h : ℕ → Tree = λ x. f (x + s.next) in
      let meet : instance f g ≡ instance h c.head = m.1 ∙ instance_twice (shift s.next) f c.head in (
        h,
        instance_all f (marked rest),
        (f, ap (λ u. more u (instance_all f (marked rest))) (sym meet) ∙ ap (instance_all f) (sym (goals-are s g rest first)), m.3),
        m.2 ∙ goals_of f h (λ x. refl),
      )

  module _ (below_goal : Local (λ x. x < s.next) g) (below_rest : LocalAll (λ x. x < s.next) (marked rest)) (below_tuple : LocalAll (λ x. x < s.next) s.tuple) where
    meets : (gs t : Trees) → Resolved (Inst s) c gs t → Meets s g head parts gs t
    meets gs t r =
        let h : ℕ → Tree = r.0 in
        let f : ℕ → Tree = r.2.0 in
        let k : ℕ → Tree = beside s.next f h in
        let both : more (instance h c.head) r.1 ≡ more (instance f g) (instance_all f (marked rest)) = r.2.1 ∙ ap (instance_all f) (goals-are s g rest first) in
        let e0 : instance h c.head ≡ instance f g = cc in
        let e1 : r.1 ≡ instance_all f (marked rest) = cc in (
          k,
          instance-Local (λ x. x < s.next) k f (beside-below s.next f h) g below_goal
              ∙ sym e0
              ∙ sym (instance_same (λ x. k (x + s.next)) h c.head (beside-above s.next f h))
              ∙ sym (instance_twice (shift s.next) k c.head),
          r.3
              ∙ ap (append_trees (marked (map (placed h) c.body))) (e1 ∙ sym (instance_all-LocalAll (λ x. x < s.next) k f (beside-below s.next f h) (marked rest) below_rest))
              ∙ sym (goals_of k h (beside-above s.next f h)),
          r.2.2 ∙ sym (instance_all-LocalAll (λ x. x < s.next) k f (beside-below s.next f h) s.tuple below_tuple),
        )

pub resolution : ResolutionLaw
resolution s g rest c below good first =
    IsSetOf-same (Meets s g (instance (shift s.next) c.head) ps) (Resolved (Inst s) c)
    (λ gs t. (resolved s g rest c good first gs t, meets s g rest c good first goals.0 (marked-over (λ x. x < s.next) rest goals.1) below.1 gs t))
    (clause_children s g rest c)
    (unified_child s rest (map (placed (renamed c.vars s.next)) c.body) (c.vars + 1) g (instance (shift s.next) c.head))
  where
    ps : List Goal
    ps = map (placed (renamed c.vars s.next)) c.body ++ rest

    goals : LocalGoals (λ x. x < s.next) (call g ∷ rest)
    goals = subst (LocalGoals (λ x. x < s.next)) first below.0
