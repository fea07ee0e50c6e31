-- Runs of a program by what each call and each body comes to, and the groups that they come to.
use Rattle.std.proofs.Common.{◌≡◌, ℕ, ◌+◌, List, [], ◌∷◌, Some, None}
use Rattle.ap_term.specs.declared.clauses.Check.{Check}
use Rattle.ap_term.specs.Tree.{Tree, Trees, var}
use Rattle.ap_term.specs.Substitution.{instance, Subst, value, shift}
use Rattle.ap_term.specs.Builtins.{builtin}
use Rattle.ap_term.specs.Goals.{Part, call, group, calls, Clause, Program}
use Rattle.ap_absunify.specs.MostGeneral.{MostGeneral}
use Rattle.ap_tracked.specs.Tracked.{renamed, IsOneOf}
use Rattle.ap_tracked.specs.Forks.{Fork}

-- the instances of a clause's variables once u has unified its head with a call
abbrev pub after_head : Clause → ℕ → (ℕ → Tree) → ℕ → Tree
after_head c n u x = instance u (renamed c.vars n x)

mutual
  -- a call whose first unused variable is n has the answer k, and then m is the first unused one
  pub data Ans (A : Program) : Tree → ℕ → (ℕ → Tree) → ℕ → Type 0 where
    answered : {g : Tree} {n : ℕ} (b : Subst) → builtin g ≡ Some (Some b) → Ans A g n (value b) (n + 0)
    by : {g : Tree} {n m : ℕ} (u s : ℕ → Tree) (c : Clause) → IsOneOf c A → builtin g ≡ None → MostGeneral g (instance (shift n) c.head) u
        → Body A c.body (after_head c n u) (n + (c.vars + 1)) s m → Ans A g n (λ x. instance s (u x)) m

  -- parts of a body, whose variables have the instances f, come to s after f
  pub data Body (A : Program) : List Part → (ℕ → Tree) → ℕ → (ℕ → Tree) → ℕ → Type 0 where
    done : {f : ℕ → Tree} {n : ℕ} → Body A [] f n (λ x. var x) n
    goal : {g : Tree} {ps : List Part} {f : ℕ → Tree} {n l : ℕ} (k s : ℕ → Tree) (m : ℕ) → Ans A (instance f g) n k m → Body A ps (λ x. instance k (f x)) m s l
        → Body A (call g ∷ ps) f n (λ x. instance s (k x)) l
    joined : {cs : List Check} {gs : Trees} {ps : List Part} {f : ℕ → Tree} {n l : ℕ} (k s : ℕ → Tree) (m : ℕ) → Body A (calls gs) f n k m → Body A ps (λ x. instance k (f x)) m s l
        → Body A (group cs gs ∷ ps) f n (λ x. instance s (k x)) l

mutual
  -- the groups that a call's search comes to
  pub data CallFork (A : Program) : Tree → ℕ → Fork → Type 0 where
    within : {g : Tree} {n : ℕ} {h : Fork} (u : ℕ → Tree) (c : Clause) → IsOneOf c A → builtin g ≡ None → MostGeneral g (instance (shift n) c.head) u
        → BodyFork A c.body (after_head c n u) (n + (c.vars + 1)) h → CallFork A g n h

  pub data BodyFork (A : Program) : List Part → (ℕ → Tree) → ℕ → Fork → Type 0 where
    first : {cs : List Check} {gs : Trees} {ps : List Part} {f : ℕ → Tree} {n : ℕ} → BodyFork A (group cs gs ∷ ps) f n (record { checks = cs; goals = gs; own = f })
    sequence : {cs : List Check} {gs : Trees} {ps : List Part} {f : ℕ → Tree} {n : ℕ} {h : Fork} → BodyFork A (calls gs) f n h → BodyFork A (group cs gs ∷ ps) f n h
    past_group : {cs : List Check} {gs : Trees} {ps : List Part} {f : ℕ → Tree} {n : ℕ} {h : Fork} (k : ℕ → Tree) (m : ℕ) → Body A (calls gs) f n k m
        → BodyFork A ps (λ x. instance k (f x)) m h → BodyFork A (group cs gs ∷ ps) f n h
    in_goal : {g : Tree} {ps : List Part} {f : ℕ → Tree} {n : ℕ} {h : Fork} → CallFork A (instance f g) n h → BodyFork A (call g ∷ ps) f n h
    past_goal : {g : Tree} {ps : List Part} {f : ℕ → Tree} {n : ℕ} {h : Fork} (k : ℕ → Tree) (m : ℕ) → Ans A (instance f g) n k m
        → BodyFork A ps (λ x. instance k (f x)) m h → BodyFork A (call g ∷ ps) f n h
