-- The goals that come first, by their marks.
use Rattle.std.proofs.Common.{◌≡◌, ℕ, ◌+◌, ℤ, pos, List, [], ◌∷◌, refl, ap}
use Rattle.ap_term.specs.declared.clauses.Check.{Check}
use Rattle.ap_term.specs.declared.clauses.Check.TheVariants.{Ground, Indep}
use Rattle.ap_term.specs.Tree.{Tree, Trees, int, none, more, count_trees, append_trees}
use Rattle.ap_term.specs.Substitution.{instance_all}
use Rattle.ap_tracked.specs.Tracked.{Goal, call, fork}
use Rattle.ap_tracked.specs.Marks.{check_marks, group_mark, marked}
use Rattle.ap_instr.specs.Runs.{applied}

-- a goal is no mark
no-mark : (p : ℕ) (ts : Trees) (z : ℤ) → int z ≡ applied p ts → ⊥
no-mark p none z e = cc
no-mark p (more t ts) z e = cc

-- a group begins with a mark
group-first : (p : ℕ) (ts : Trees) (own : ℕ → Tree) (cs : List Check) (n : ℕ) (us vs : Trees) → check_marks own cs (more (group_mark n) us) ≡ more (applied p ts) vs → ⊥
group-first p ts own [] n us vs e = no-mark p ts (pos (n + 2)) (let d : int (pos (n + 2)) ≡ applied p ts = cc in d)
group-first p ts own (Ground x ∷ cs) n us vs e = no-mark p ts (pos 0) (let d : int (pos 0) ≡ applied p ts = cc in d)
group-first p ts own (Indep x y ∷ cs) n us vs e = no-mark p ts (pos 1) (let d : int (pos 1) ≡ applied p ts = cc in d)

pub first-call : (gs : List Goal) (p : ℕ) (ts us : Trees) → marked gs ≡ more (applied p ts) us → (rest : List Goal) × (gs ≡ call (applied p ts) ∷ rest)
first-call [] p ts us e = absurd (let z : ⊥ = cc in z)
first-call (call t ∷ gs) p ts us e = let d : t ≡ applied p ts = cc in (gs, ap (λ u. call u ∷ gs) d)
first-call (fork cs vs own now ∷ gs) p ts us e = absurd (group-first p ts own cs (count_trees vs) (append_trees (instance_all own vs) (marked gs)) us e)

group-some : (own : ℕ → Tree) (cs : List Check) (n : ℕ) (us : Trees) → check_marks own cs (more (group_mark n) us) ≡ none → ⊥
group-some own [] n us e = cc
group-some own (Ground x ∷ cs) n us e = cc
group-some own (Indep x y ∷ cs) n us e = cc

pub no-goals : (gs : List Goal) → marked gs ≡ none → gs ≡ []
no-goals [] e = refl
no-goals (call t ∷ gs) e = absurd (let z : ⊥ = cc in z)
no-goals (fork cs ts own now ∷ gs) e = absurd (group-some own cs (count_trees ts) (append_trees (instance_all own ts) (marked gs)) e)
