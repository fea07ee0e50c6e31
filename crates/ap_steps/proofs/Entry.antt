-- Calls and the entry of a clause.
use Rattle.std.proofs.Common.{◌≡◌, ℕ, map, refl, ap, sym, ◌∙◌, subst}
use Rattle.ap_term.specs.Tree.{Tree, Trees, var, int, atom, node, none, more, count_trees, append_trees}
use Rattle.ap_term.specs.Substitution.{instance, instance_all}
use Rattle.ap_term.proofs.Facts.{funext}
use Rattle.ap_tracked.specs.Tracked.{placed}
use Rattle.ap_tracked.specs.Marks.{marked}
use Rattle.ap_instr.specs.Steps.{steps_from}
use Rattle.ap_instr.specs.Runs.{Runs, Asks, applied, arguments, spread, lost}
use Rattle.ap_tracked.specs.Sets.{Resolved}
use Rattle.ap_steps.specs.Moves.{held}
use Rattle.ap_steps.specs.Standing.{AtCall, InCode, IsHead, EntryLaw, CallLaw}

-- ---- heads

head-count : (h : Tree) (p n : ℕ) → IsHead h p n → n ≡ count_trees (arguments h)
head-count (var v) p n i = absurd i
head-count (int z) p n i = absurd i
head-count (atom a) p n i = i.1
head-count (node a none) p n i = absurd i
head-count (node a (more t ts)) p n i = i.1

head-instance : (h : Tree) (p n : ℕ) → IsHead h p n → (f : ℕ → Tree) → instance f h ≡ applied p (instance_all f (arguments h))
head-instance (var v) p n i f = absurd i
head-instance (int z) p n i f = absurd i
head-instance (atom a) p n i f = ap atom i.0
head-instance (node a none) p n i f = absurd i
head-instance (node a (more t ts)) p n i f = ap (λ b. node b (instance_all f (more t ts))) i.0

applied-same : (p : ℕ) (ts us : Trees) → applied p ts ≡ applied p us → ts ≡ us
applied-same p none none e = refl
applied-same p none (more u us) e = cc
applied-same p (more t ts) none e = cc
applied-same p (more t ts) (more u us) e = cc

more-same : (t u : Tree) (ts us : Trees) → more t ts ≡ more u us → (t ≡ u) × (ts ≡ us)
more-same t u ts us e = (cc, cc)

-- ---- the entry of a clause

pub entry : EntryLaw
entry code s x y p n is c head reads = λ gs t. (there gs t, back gs t)
  where
    count : n ≡ count_trees (arguments c.head)
    count = head-count c.head p n head

    there : (gs t : Trees) → InCode code s x y is gs t → Resolved (AtCall code s x p n) c gs t
    there gs t m =
        let k : ℕ → Tree = m.0 in
        let a : Asks c (λ w. k (x w)) m.1 = reads.only (λ w. k (x w)) (λ w. k (y w)) m.1 m.4 in
        let h : ℕ → Tree = a.0 in
        let args : instance_all h (arguments c.head) ≡ spread (λ w. k (x w)) 1 n = sym a.1 ∙ ap (spread (λ w. k (x w)) 1) (sym count) in (
          h,
          m.2,
          (k, m.2, m.3, ap (λ g. more g m.2) (head-instance c.head p n head h ∙ ap (applied p) args), m.6),
          m.5 ∙ ap (λ b. append_trees b m.2) a.2,
        )

    back : (gs t : Trees) → Resolved (AtCall code s x p n) c gs t → InCode code s x y is gs t
    back gs t r =
        let h : ℕ → Tree = r.0 in
        let k : ℕ → Tree = r.2.0 in
        let e = more-same (instance h c.head) (applied p (spread (λ w. k (x w)) 1 n)) r.1 r.2.1 r.2.3 in
        let args : spread (λ w. k (x w)) 1 (count_trees (arguments c.head)) ≡ instance_all h (arguments c.head) =
        ap (spread (λ w. k (x w)) 1) (sym count) ∙ sym (applied-same p (instance_all h (arguments c.head)) (spread (λ w. k (x w)) 1 n) (sym (head-instance c.head p n head h) ∙ e.0))
        in (
          k,
          marked (map (placed h) c.body),
          r.2.1,
          r.2.2,
          reads.each (λ w. k (x w)) (λ w. k (y w)) (marked (map (placed h) c.body)) (h, args, refl),
          r.3 ∙ ap (append_trees (marked (map (placed h) c.body))) e.1,
          r.2.4,
        )

-- ---- calls

pub calls_are : CallLaw
calls_are = record {
  calls = λ code s x w p n gs t. (
    λ m.
        let g : Tree = applied p (spread (λ v. m.0 (x v)) 1 n) in
        (m.0, append_trees m.4.0 m.2, m.3, m.5 ∙ ap (λ b. append_trees b m.2) m.4.1, (m.4.0, m.2, m.4.2, refl, m.6)),
    λ m.
        let g : Tree = applied p (spread (λ v. m.0 (x v)) 1 n) in
        (m.0, more g m.4.0, m.4.1, m.2, (m.4.0, refl, m.4.2), m.3 ∙ ap (more g) m.4.3, m.4.4),
  );
  executes = λ code s x y p n is gs t. (
    λ m. (m.0, m.2, m.3, m.5 ∙ ap (λ b. append_trees b m.2) m.4, m.6),
    λ m. (m.0, more (applied p (spread (λ v. m.0 (x v)) 1 n)) none, m.1, m.2, refl, m.3, m.4),
  );
  proceeds = λ code s x y w is unset is_unset gs t. (
    λ m.
        let k : ℕ → Tree = m.0 in
        let e : gs ≡ m.2 = m.5 ∙ ap (λ b. append_trees b m.2) m.4 in
        (k, m.6.0, m.6.1, m.3, subst (λ u. Runs (steps_from code w.place) none u (λ n. k (held w.y n)) m.6.0) (unset-lost k unset (is_unset k m.3)) m.6.2, e ∙ m.6.3, m.6.4),
    λ m.
        let k : ℕ → Tree = m.0 in
        (k, none, gs, m.3, refl, refl, (m.1, m.2, subst (λ u. Runs (steps_from code w.place) none u (λ n. k (held w.y n)) m.1) (sym (unset-lost k unset (is_unset k m.3))) m.4, m.5, m.6)),
  );
}
  where
    unset-lost : (k : ℕ → Tree) (z : ℕ) → k z ≡ atom 0 → ◌≡◌ {A = ℕ → Tree} lost (λ n. k z)
    unset-lost k z e = funext lost (λ n. k z) (λ n. sym e)
