-- A search under a graft, of states that keep their groups.
use Rattle.std.proofs.Common.{◌≡◌, ℕ, ◌+◌, ◌-◌, ◌<◌, ◌≤◌, ◌⊎◌, inl, inr, Bool, true, false, cond, if◌then◌else◌, List, [], ◌∷◌, ◌++◌, map, Option, Some, None, refl, ap, ap₂, sym, ◌∙◌, subst, arith}
use Rattle.std.specs.List.{AllByRecursion, AllZip, flat_map}
use Rattle.std.proofs.lemmas.List.{map-append, append_assoc}
use Rattle.std.proofs.lemmas.List.Elements.{All-head, All-tail}
use Rattle.ap_term.specs.Tuples.{arguments}
use Rattle.ap_term.specs.Tree.{Tree, Trees, var, atom, none, more}
use Rattle.ap_term.specs.Vars.{occurs_all, Local, LocalAll}
use Rattle.ap_term.specs.Substitution.{instance, instance_all, Subst, value, shift}
use Rattle.ap_term.specs.Unification.{mgu}
use Rattle.ap_term.specs.declared.faults.Fault.{Fault}
use Rattle.ap_term.specs.Faults.{fault_of}
use Rattle.ap_term.specs.Builtins.{builtin}
use Rattle.ap_term.specs.WellFormed.{in_range, IsClause, IsProgram}
use Rattle.ap_term.specs.Goals as goals
use Rattle.ap_term.specs.Goals.{Clause, Program, instance_check}
use Rattle.ap_term.proofs.Copies.{instance_var, instance_all_var, instance_twice, instance_all_twice}
use Rattle.ap_term.proofs.Zips.{AllZip-append}
use Rattle.ap_term.proofs.Locals.{Local-weaken, LocalAll-weaken, Local-instance, instance-Local, instance_all-LocalAll}
use Rattle.ap_laws.specs.Renaming.{OptionZip, OptionAll, Renamed, RenamedSubst, Linked, LocalSubst}
use Rattle.ap_laws.specs.Graft.{lifted, lifted_var, lowered, fitted, IsOwn}
use Rattle.ap_laws.proofs.Renamed.{Renamed-weaken, Renamed-mgu}
use Rattle.ap_laws.proofs.Local.{Local-mgu}
use Rattle.ap_laws.proofs.Builtins.{Renamed-builtin, Local-builtin, Renamed-fault_of}
use Rattle.ap_laws.proofs.Ways.{IsOneToOne-Linked, Linked-more, Renamed-both, Local-head}
use Rattle.ap_term.proofs.TreeLists.{LocalAll-arguments}
use Rattle.ap_laws.proofs.Graft.{LocalAll-at, lifted-old, lifted-new, lowered-new, Renamed-lifted, instance-lifted, instance-fitted, fitted-value, LocalAll-IsOwn_below}
use Rattle.ap_tracked.specs.Tracked.{Goal, call, fork, moved, placed, renamed, calls as goal_calls, opened, Tracked, IsOneOf, child_if, clause_children, call_children, faulted_child, children_unless, children_by, children}
use Rattle.ap_tracked.specs.Forks.{alone}
use Rattle.ap_tracked.specs.Marks.{opening}
use Rattle.ap_tracked.specs.Kept.{Means, SameText, with_goals, IsFrom, itself, calls, opens, reads, IsKept}
use Rattle.ap_tracked.proofs.Kept.{means-all, means-append, means-opened, same-all, same-append, same-itself}
use Rattle.ap_graft.specs.Variables.{LocalGoals, NoneBehind, IsTrackedBelow, IsOwnOf}
use Rattle.ap_graft.specs.Grafts.{behind, put, put_first, tracked_graft}
use Rattle.ap_graft.specs.Laws.{TrackedGraftLaw}
use Rattle.ap_graft.proofs.Variables.{renamed-over, over-all_weaken, over-opened, below_from, of_from}
use Rattle.std.proofs.lemmas.Bool.{cases_lt}

abbrev built : Option Fault → List Goal → Trees → ℕ → ℕ → Tracked
built e G T n k = record { goals = G; tuple = T; next = n; steps = k; fault = e }

pub tracked-eq : {e : Option Fault} {G H : List Goal} {T U : Trees} {n m k j : ℕ} → G ≡ H → T ≡ U → n ≡ m → k ≡ j → built e G T n k ≡ built e H U m j
tracked-eq {e = e} a b c d = λ i. record { goals = a i; tuple = b i; next = c i; steps = d i; fault = e }

-- the same state, whatever has become of checks
abbrev pub Alike : Tracked → Tracked → Type 0
Alike x y = (hs : List Goal) × (y ≡ with_goals hs x) × AllZip SameText x.goals hs

pub from-alike : (p : Program) (o x y : Tracked) → IsFrom p o x → Alike x y → IsFrom p o y
from-alike p o x y k (hs, e, z) = subst (IsFrom p o) (sym e) (reads hs k z)

-- ---- two ways to move goals

abbrev Agree : (ℕ → Tree) → (ℕ → Tree) → (ℕ → Tree) → (ℕ → Tree) → (ℕ → Type 0) → Type 0
Agree a b c d P = (t : Tree) → Local P t → instance b (instance a t) ≡ instance d (instance c t)

-- first by a and then by b, or first by c and then by d
same-twice : (P : ℕ → Type 0) (a b c d : ℕ → Tree) → Agree a b c d P → (gs : List Goal) → LocalGoals P gs → AllZip SameText (map (moved b) (map (moved a) gs)) (map (moved d) (map (moved c) gs))
same-twice P a b c d e [] h = tt
same-twice P a b c d e (call t ∷ gs) h = (e t h.0, same-twice P a b c d e gs h.1)
same-twice P a b c d e (fork cs none own now ∷ gs) h = absurd h.0
same-twice P a b c d e (fork cs (more t ts) own now ∷ gs) h = ((refl, refl, λ i. λ x. e (own x) (h.0 x) i), same-twice P a b c d e gs h.1)

-- first by a and then by b, or once by c
same-once : (P : ℕ → Type 0) (a b c : ℕ → Tree) → ((t : Tree) → Local P t → instance b (instance a t) ≡ instance c t) → (gs : List Goal) → LocalGoals P gs
    → AllZip SameText (map (moved b) (map (moved a) gs)) (map (moved c) gs)
same-once P a b c e [] h = tt
same-once P a b c e (call t ∷ gs) h = (e t h.0, same-once P a b c e gs h.1)
same-once P a b c e (fork cs none own now ∷ gs) h = absurd h.0
same-once P a b c e (fork cs (more t ts) own now ∷ gs) h = ((refl, refl, λ i. λ x. e (own x) (h.0 x) i), same-once P a b c e gs h.1)

-- by a map that changes nothing
same-still : (a : ℕ → Tree) → ((t : Tree) → instance a t ≡ t) → (gs : List Goal) → AllZip SameText gs (map (moved a) gs)
same-still a e [] = tt
same-still a e (call t ∷ gs) = (sym (e t), same-still a e gs)
same-still a e (fork cs ts own now ∷ gs) = ((refl, refl, λ i. λ x. sym (e (own x)) i), same-still a e gs)

-- a body that was placed otherwise
same-body : (a b c d e : ℕ → Tree) → ((x : ℕ) → instance b (e x) ≡ instance d (instance c (a x)))
    → (ps : List goals.Part) → AllZip SameText (map (moved b) (map (placed e) ps)) (map (moved d) (map (moved c) (map (placed a) ps)))
same-body a b c d e k [] = tt
same-body a b c d e k (goals.call t ∷ ps) =
    (instance_twice e b t ∙ ap (λ f. instance f t) (λ i. λ x. k x i) ∙ sym (ap (instance d) (instance_twice a c t) ∙ instance_twice (λ x. instance c (a x)) d t), same-body a b c d e k ps)
same-body a b c d e k (goals.group cs ts ∷ ps) = ((refl, refl, λ i. λ x. k x i), same-body a b c d e k ps)

-- ---- goals in front that are moved, opened

moved-calls : (f own : ℕ → Tree) (ts : Trees) → map (moved f) (goal_calls own ts) ≡ goal_calls (λ x. instance f (own x)) ts
moved-calls f own none = refl
moved-calls f own (more t ts) = ap₂ (λ a l. call a ∷ l) (instance_twice own f t) (moved-calls f own ts)

pub opened-moved : (P : ℕ → Type 0) (f : ℕ → Tree) (h : Goal) (gs R : List Goal) → LocalGoals P (h ∷ gs) → opened (map (moved f) (h ∷ gs) ++ R) ≡ map (moved f) (opened (h ∷ gs)) ++ R
opened-moved P f (call t) gs R k = refl
opened-moved P f (fork cs none own now) gs R k = absurd k.0
opened-moved P f (fork cs (more t ts) own now) gs R k =
    ap₂ (λ a l. call a ∷ l) (sym (instance_twice own f t))
    (sym (ap (λ l. l ++ R) (map-append (moved f) (goal_calls own ts) gs ∙ ap (λ l. l ++ map (moved f) gs) (moved-calls f own ts))
    ∙ append_assoc (goal_calls (λ x. instance f (own x)) ts) (map (moved f) gs) R))

-- ---- members of lists that belong together

pub partner : {A B : Type 0} (R : A → B → Type 0) (xs : List A) (ys : List B) (x : A) → AllZip R xs ys → IsOneOf x xs → (y : B) × IsOneOf y ys × R x y
partner R [] [] x z i = absurd i
partner R (a ∷ xs) (b ∷ ys) x z (inl e) = (b, inl refl, subst (λ c. R c b) (sym e) z.0)
partner R (a ∷ xs) (b ∷ ys) x z (inr i) = let r = partner R xs ys x z.1 i in (r.0, inr r.1, r.2)
partner R [] (_ ∷ _) x z i = absurd z
partner R (_ ∷ _) [] x z i = absurd z

-- ---- the children of a graft

renamed-lifted : (b n m N v : ℕ) → b ≤ m → N ≡ n + (m - b) → (x : ℕ) → instance (lifted_var b n) (renamed v m x) ≡ renamed v N x
renamed-lifted b n m N v h e x = go (in_range v x)
  where
    go : (c : Bool) → instance (lifted_var b n) (if c then var (x + m) else atom 0) ≡ (if c then var (x + N) else atom 0)
    go true = ap var (lifted-new b n (x + m) (omega (arith, h)) ∙ omega (arith, h, e))
    go false = refl

module _ (g : Tree) (K : List Goal) (s : Tracked) (b : ℕ) (bn : b ≤ s.next) (hK : LocalGoals (λ x. x < s.next) K) (hT : LocalAll (λ x. x < s.next) s.tuple) where
  zip-child : (u : Tracked) → IsOwnOf g b u → (G body body' : List Goal) → LocalGoals (λ x. x < u.next) G → (w : ℕ) → (a c : Option Subst)
      → OptionZip (RenamedSubst (Linked (lifted b s.next) (lowered b s.next) (u.next + w) ((s.next + (u.next - b)) + w))) a c
      → OptionAll (LocalSubst (λ x. x < s.next → occurs_all x (arguments g) ≡ true)) c
      → ((q r : Subst) → RenamedSubst (Linked (lifted b s.next) (lowered b s.next) (u.next + w) ((s.next + (u.next - b)) + w)) q r
      → AllZip SameText (map (moved (value r)) body') (map (moved (lifted_var b s.next)) (map (moved (value q)) body)))
      → AllZip (λ v z. Alike z (put g K b s v)) (child_if u G a body w)
      (child_if (put g K b s u) (map (moved (lifted_var b s.next)) G ++ map (moved (fitted g b s.next u.tuple)) K) c body' w)
  zip-child u o G body body' hG w None None k l e = tt
  zip-child u o G body body' hG w None (Some _) k l e = absurd k
  zip-child u o G body body' hG w (Some _) None k l e = absurd k
  zip-child u o G body body' hG w (Some q) (Some r) k l e = ((hs, tracked-eq refl (sym tuples) (omega (arith, bm)) (omega arith), texts), tt)
    where
      m : ℕ
      m = u.next

      bm : b ≤ u.next
      bm = o.2.2

      bw : b ≤ u.next + w
      bw = omega (arith, bm)

      N : ℕ
      N = (s.next + (u.next - b)) + w

      eN : (s.next + (u.next - b)) + w ≡ s.next + ((u.next + w) - b)
      eN = omega (arith, bm)

      V : Trees
      V = instance_all (value q) u.tuple

      hU : LocalAll (λ x. x < u.next + w) u.tuple
      hU = LocalAll-weaken (λ x. x < u.next) (λ x. x < u.next + w) (λ x i. omega (arith, i)) u.tuple (LocalAll-IsOwn_below g b u.next u.tuple o.2.1)

      hs : List Goal
      hs = map (moved (lifted_var b s.next)) (map (moved (value q)) (body ++ G)) ++ map (moved (fitted g b s.next (instance_all (value q) u.tuple))) K

      at_goals : (t : Tree) → Local (λ x. x < u.next) t → instance (value r) (instance (lifted_var b s.next) t) ≡ instance (lifted_var b s.next) (instance (value q) t)
      at_goals t h = instance-lifted b s.next (u.next + w) ((s.next + (u.next - b)) + w) bn bw eN q r k t (Local-weaken (λ x. x < u.next) (λ x. x < u.next + w) (λ x i. omega (arith, i)) t h)

      at_var : (x : ℕ) → x < s.next → instance (value r) (fitted g b s.next u.tuple x) ≡ fitted g b s.next (instance_all (value q) u.tuple) x
      at_var = instance-fitted g b s.next (u.next + w) ((s.next + (u.next - b)) + w) bn bw eN q r k l o.0 u.tuple o.1 hU

      further : (t : Tree) → Local (λ x. x < s.next) t → instance (value r) (instance (fitted g b s.next u.tuple) t) ≡ instance (fitted g b s.next (instance_all (value q) u.tuple)) t
      further t h = instance_twice (fitted g b s.next u.tuple) (value r) t
          ∙ instance-Local (λ x. x < s.next) (λ x. instance (value r) (fitted g b s.next u.tuple x)) (fitted g b s.next (instance_all (value q) u.tuple)) at_var t h

      tuples : instance_all (value r) (instance_all (fitted g b s.next u.tuple) s.tuple) ≡ instance_all (fitted g b s.next (instance_all (value q) u.tuple)) s.tuple
      tuples = instance_all_twice (fitted g b s.next u.tuple) (value r) s.tuple
          ∙ instance_all-LocalAll (λ x. x < s.next) (λ x. instance (value r) (fitted g b s.next u.tuple x)) (fitted g b s.next (instance_all (value q) u.tuple)) at_var s.tuple hT

      split_left : map (moved (value r)) (body' ++ (map (moved (lifted_var b s.next)) G ++ map (moved (fitted g b s.next u.tuple)) K))
          ≡ map (moved (value r)) body' ++ (map (moved (value r)) (map (moved (lifted_var b s.next)) G) ++ map (moved (value r)) (map (moved (fitted g b s.next u.tuple)) K))
      split_left = map-append (moved (value r)) body' (map (moved (lifted_var b s.next)) G ++ map (moved (fitted g b s.next u.tuple)) K)
          ∙ ap (λ z. map (moved (value r)) body' ++ z) (map-append (moved (value r)) (map (moved (lifted_var b s.next)) G) (map (moved (fitted g b s.next u.tuple)) K))

      split_right : map (moved (lifted_var b s.next)) (map (moved (value q)) (body ++ G)) ++ map (moved (fitted g b s.next (instance_all (value q) u.tuple))) K
          ≡ map (moved (lifted_var b s.next)) (map (moved (value q)) body)
          ++ (map (moved (lifted_var b s.next)) (map (moved (value q)) G) ++ map (moved (fitted g b s.next (instance_all (value q) u.tuple))) K)
      split_right = ap (λ z. z ++ map (moved (fitted g b s.next (instance_all (value q) u.tuple))) K)
          (ap (map (moved (lifted_var b s.next))) (map-append (moved (value q)) body G) ∙ map-append (moved (lifted_var b s.next)) (map (moved (value q)) body) (map (moved (value q)) G))
          ∙ append_assoc (map (moved (lifted_var b s.next)) (map (moved (value q)) body)) (map (moved (lifted_var b s.next)) (map (moved (value q)) G))
          (map (moved (fitted g b s.next (instance_all (value q) u.tuple))) K)

      texts : AllZip SameText (map (moved (value r)) (body' ++ (map (moved (lifted_var b s.next)) G ++ map (moved (fitted g b s.next u.tuple)) K))) hs
      texts = subst (λ z. AllZip SameText z hs) (sym split_left)
          (subst (AllZip SameText _) (sym split_right)
          (same-append _ _ _ _ (e q r k)
          (same-append _ _ _ _ (same-twice (λ x. x < u.next) (lifted_var b s.next) (value r) (value q) (lifted_var b s.next) at_goals G hG)
          (same-once (λ x. x < s.next) (fitted g b s.next u.tuple) (value r) (fitted g b s.next (instance_all (value q) u.tuple)) further K hK))))

  -- what a call of the moved goal binds of the variables of the whole is the goal's
  own_bound : (u : Tracked) → IsOwnOf g b u → (t : Tree) → Local (IsOwn g b u.next) t → Local (λ x. x < s.next → occurs_all x (arguments g) ≡ true) (instance (lifted_var b s.next) t)
  own_bound u o t h = Local-instance (IsOwn g b u.next) (λ x. x < s.next → occurs_all x (arguments g) ≡ true) (lifted_var b s.next) at t h
    where
      at : (x : ℕ) → IsOwn g b u.next x → lifted b s.next x < s.next → occurs_all (lifted b s.next x) (arguments g) ≡ true
      at x p l = go (cases_lt x b)
        where
          go : (x < b) ⊎ (b ≤ x) → occurs_all (lifted b s.next x) (arguments g) ≡ true
          go (inl h) = subst (λ z. occurs_all z (arguments g) ≡ true) (sym (lifted-old b s.next x h)) (p.1 h)
          go (inr h) = absurd (lem (lifted-new b s.next x h))
            where
              lem : lifted b s.next x ≡ s.next + (x - b) → ⊥
              lem e = omega (arith, e, l)

  linked_goal : (u : Tracked) → IsOwnOf g b u → (w : ℕ) (t : Tree) → Local (IsOwn g b u.next) t
      → Renamed (Linked (lifted b s.next) (lowered b s.next) (u.next + w) ((s.next + (u.next - b)) + w)) t (instance (lifted_var b s.next) t)
  linked_goal u o w t h =
      Renamed-weaken (Linked (lifted b s.next) (lowered b s.next) u.next (s.next + (u.next - b))) (Linked (lifted b s.next) (lowered b s.next) (u.next + w) ((s.next + (u.next - b)) + w))
      (Linked-more (lifted b s.next) (lowered b s.next) u.next (s.next + (u.next - b)) w w) t (instance (lifted_var b s.next) t)
      (Renamed-lifted b s.next u.next (s.next + (u.next - b)) bn o.2.2 refl t (Local-weaken (IsOwn g b u.next) (λ x. x < u.next) (λ x p. p.0) t h))

  zip-clause : (c : Clause) → IsClause c → (u : Tracked) → IsOwnOf g b u → (t : Tree) → Local (IsOwn g b u.next) t → (G : List Goal) → LocalGoals (λ x. x < u.next) G
      → AllZip (λ v z. Alike z (put g K b s v)) (clause_children u t G c)
      (clause_children (put g K b s u) (instance (lifted_var b s.next) t) (map (moved (lifted_var b s.next)) G ++ map (moved (fitted g b s.next u.tuple)) K) c)
  zip-clause c is u o t ht G hG =
      zip-child u o G (map (placed (renamed c.vars u.next)) c.body) (map (placed (renamed c.vars (s.next + (u.next - b)))) c.body) hG (c.vars + 1)
      (mgu t (instance (shift u.next) c.head)) (mgu (instance (lifted_var b s.next) t) (instance (shift (s.next + (u.next - b))) c.head))
      (Renamed-mgu R (IsOneToOne-Linked (lifted b s.next) (lowered b s.next) (u.next + (c.vars + 1)) ((s.next + (u.next - b)) + (c.vars + 1))) t (instance (lifted_var b s.next) t) (instance (shift u.next) c.head) (instance (shift (s.next + (u.next - b))) c.head)
      (linked_goal u o (c.vars + 1) t ht)
      (Renamed-both (λ x. x ≤ c.vars) R (shift u.next) (shift (s.next + (u.next - b))) new c.head (Local-head c is)))
      (Local-mgu (λ x. x < s.next → occurs_all x (arguments g) ≡ true) (instance (lifted_var b s.next) t) (instance (shift (s.next + (u.next - b))) c.head) (own_bound u o t ht)
      (Local-instance (λ x. x ≤ c.vars) (λ x. x < s.next → occurs_all x (arguments g) ≡ true) (shift (s.next + (u.next - b))) (λ x l i. absurd (far x i)) c.head (Local-head c is)))
      bodies
    where
      R : ℕ → ℕ → Type 0
      R = Linked (lifted b s.next) (lowered b s.next) (u.next + (c.vars + 1)) ((s.next + (u.next - b)) + (c.vars + 1))

      far : (x : ℕ) → x + (s.next + (u.next - b)) < s.next → ⊥
      far x i = omega (arith, i)

      new : (x : ℕ) → x ≤ c.vars → Linked (lifted b s.next) (lowered b s.next) (u.next + (c.vars + 1)) ((s.next + (u.next - b)) + (c.vars + 1)) (x + u.next) (x + (s.next + (u.next - b)))
      new x l = (
        lifted-new b s.next (x + u.next) (omega (arith, o.2.2)) ∙ omega (arith, o.2.2),
        lowered-new b s.next (x + (s.next + (u.next - b))) (omega (arith, bn)) ∙ omega (arith, o.2.2),
        omega (arith, l),
        omega (arith, l),
      )

      bodies : (q r : Subst) → RenamedSubst (Linked (lifted b s.next) (lowered b s.next) (u.next + (c.vars + 1)) ((s.next + (u.next - b)) + (c.vars + 1))) q r
          → AllZip SameText (map (moved (value r)) (map (placed (renamed c.vars (s.next + (u.next - b)))) c.body)) (map (moved (lifted_var b s.next)) (map (moved (value q)) (map (placed (renamed c.vars u.next)) c.body)))
      bodies q r k = same-body (renamed c.vars u.next) (value r) (value q) (lifted_var b s.next) (renamed c.vars (s.next + (u.next - b))) at c.body
        where
          at : (x : ℕ) → instance (value r) (renamed c.vars (s.next + (u.next - b)) x) ≡ instance (lifted_var b s.next) (instance (value q) (renamed c.vars u.next x))
          at x = ap (instance (value r)) (sym (renamed-lifted b s.next u.next (s.next + (u.next - b)) c.vars o.2.2 refl x))
              ∙ instance-lifted b s.next (u.next + (c.vars + 1)) ((s.next + (u.next - b)) + (c.vars + 1)) bn (omega (arith, o.2.2)) (omega (arith, o.2.2)) q r k (renamed c.vars u.next x)
              (renamed-over (λ y. y < u.next + (c.vars + 1)) c.vars u.next (λ y l. omega (arith, l)) x)

  zip-clauses : (p : Program) → IsProgram p → (u : Tracked) → IsOwnOf g b u → (t : Tree) → Local (IsOwn g b u.next) t → (G : List Goal) → LocalGoals (λ x. x < u.next) G
      → AllZip (λ v z. Alike z (put g K b s v)) (flat_map (clause_children u t G) p)
      (flat_map (clause_children (put g K b s u) (instance (lifted_var b s.next) t) (map (moved (lifted_var b s.next)) G ++ map (moved (fitted g b s.next u.tuple)) K)) p)
  zip-clauses [] good u o t ht G hG = tt
  zip-clauses (c ∷ p) good u o t ht G hG =
      AllZip-append (λ v z. Alike z (put g K b s v)) (clause_children u t G c) (flat_map (clause_children u t G) p)
      (clause_children (put g K b s u) (instance (lifted_var b s.next) t) (map (moved (lifted_var b s.next)) G ++ map (moved (fitted g b s.next u.tuple)) K) c)
      (flat_map (clause_children (put g K b s u) (instance (lifted_var b s.next) t) (map (moved (lifted_var b s.next)) G ++ map (moved (fitted g b s.next u.tuple)) K)) p)
      (zip-clause c (All-head IsClause c p good) u o t ht G hG) (zip-clauses p (All-tail IsClause c p good) u o t ht G hG)

  zip-call : (p : Program) → IsProgram p → (u : Tracked) → IsOwnOf g b u → (t : Tree) → Local (IsOwn g b u.next) t → (G : List Goal) → LocalGoals (λ x. x < u.next) G
      → (a c : Option (Option Subst)) → OptionZip (OptionZip (RenamedSubst (Linked (lifted b s.next) (lowered b s.next) (u.next + 0) ((s.next + (u.next - b)) + 0)))) a c
      → OptionAll (OptionAll (LocalSubst (λ x. x < s.next → occurs_all x (arguments g) ≡ true))) c
      → AllZip (λ v z. Alike z (put g K b s v)) (call_children p u t G a)
      (call_children p (put g K b s u) (instance (lifted_var b s.next) t) (map (moved (lifted_var b s.next)) G ++ map (moved (fitted g b s.next u.tuple)) K) c)
  zip-call p good u o t ht G hG None None k l = zip-clauses p good u o t ht G hG
  zip-call p good u o t ht G hG (Some a) (Some c) k l = zip-child u o G [] [] hG 0 a c k l (λ q r h. tt)
  zip-call p good u o t ht G hG None (Some _) k l = absurd k
  zip-call p good u o t ht G hG (Some _) None k l = absurd k

  zip-unless : (e i : Option Fault) → e ≡ i → (u : Tracked) → IsOwnOf g b u → (ss ts : List Tracked) → AllZip (λ v z. Alike z (put g K b s v)) ss ts
      → AllZip (λ v z. Alike z (put g K b s v)) (children_unless e u ss) (children_unless i (put g K b s u) ts)
  zip-unless None None q u o ss ts h = h
  zip-unless None (Some _) q u o ss ts h = cc
  zip-unless (Some _) None q u o ss ts h = cc
  zip-unless (Some e) (Some i) q u o ss ts h = (
    (
      [],
      subst (λ j. put g K b s (faulted_child e u) ≡ with_goals [] (faulted_child j (put g K b s u))) same
          (tracked-eq refl (ap (λ V. instance_all (fitted g b s.next V) s.tuple) (instance_all_var u.tuple) ∙ sym (instance_all_var (instance_all (fitted g b s.next u.tuple) s.tuple))) (omega (arith, o.2.2)) (omega arith)),
      tt,
    ),
    tt,
  )
    where
      same : e ≡ i
      same = cc

  zip-first : (p : Program) → IsProgram p → (u : Tracked) → IsOwnOf g b u → (t : Tree) (G : List Goal) → LocalGoals (IsOwn g b u.next) (call t ∷ G)
      → AllZip (λ v z. Alike z (put g K b s v)) (children_by p u (call t ∷ G))
      (children_by p (put g K b s u) (map (moved (lifted_var b s.next)) (call t ∷ G) ++ map (moved (fitted g b s.next u.tuple)) K))
  zip-first p good u o t G h =
      zip-unless (fault_of t) (fault_of (instance (lifted_var b s.next) t)) (Renamed-fault_of (Linked (lifted b s.next) (lowered b s.next) (u.next + 0) ((s.next + (u.next - b)) + 0)) t (instance (lifted_var b s.next) t) (linked_goal u o 0 t h.0))
      u o (call_children p u t G (builtin t)) (call_children p (put g K b s u) (instance (lifted_var b s.next) t) (map (moved (lifted_var b s.next)) G ++ map (moved (fitted g b s.next u.tuple)) K) (builtin (instance (lifted_var b s.next) t)))
      (zip-call p good u o t h.0 G (over-all_weaken (IsOwn g b u.next) (λ x. x < u.next) (λ x q. q.0) G h.1) (builtin t) (builtin (instance (lifted_var b s.next) t))
      (Renamed-builtin (Linked (lifted b s.next) (lowered b s.next) (u.next + 0) ((s.next + (u.next - b)) + 0)) (IsOneToOne-Linked (lifted b s.next) (lowered b s.next) (u.next + 0) ((s.next + (u.next - b)) + 0))
      t (instance (lifted_var b s.next) t) (linked_goal u o 0 t h.0))
      (Local-builtin (λ x. x < s.next → occurs_all x (arguments g) ≡ true) (instance (lifted_var b s.next) t) (own_bound u o t h.0)))

  -- the children of a graft are the grafts of the children, whatever has become of checks
  zip-opened : (p : Program) → IsProgram p → (u : Tracked) → IsOwnOf g b u → (gs : List Goal) → LocalGoals (IsOwn g b u.next) gs → (v : Tracked) → IsOneOf v (children_by p u gs)
      → AllZip (λ v z. Alike z (put g K b s v)) (children_by p u gs) (children_by p (put g K b s u) (map (moved (lifted_var b s.next)) gs ++ map (moved (fitted g b s.next u.tuple)) K))
  zip-opened p good u o [] h v i = absurd i
  zip-opened p good u o (call t ∷ G) h v i = zip-first p good u o t G h
  zip-opened p good u o (fork cs ts own now ∷ G) h v i = absurd i

  none-behind : (e : Option Fault) (gs : List Goal) (x : Goal) (hs : List Goal) → gs ≡ x ∷ hs → NoneBehind e gs → (R : List Goal) → behind e R ≡ R
  none-behind None gs x hs q h R = refl
  none-behind (Some e) gs x hs q h R = absurd (no (sym q ∙ h))
    where
      no : x ∷ hs ≡ [] → ⊥
      no k = absurd (cc)

  goals-opened : (u : Tracked) → IsOwnOf g b u → (gs : List Goal) → LocalGoals (IsOwn g b u.next) gs → gs ≡ u.goals → (v : Tracked) (p : Program) → IsOneOf v (children_by p u (opened gs))
      → opened (map (moved (lifted_var b s.next)) gs ++ behind u.fault (map (moved (fitted g b s.next u.tuple)) K)) ≡ map (moved (lifted_var b s.next)) (opened gs) ++ map (moved (fitted g b s.next u.tuple)) K
  goals-opened u o [] h q v p i = absurd i
  goals-opened u o (x ∷ gs) h q v p i = ap (λ R. opened (map (moved (lifted_var b s.next)) (x ∷ gs) ++ R)) (none-behind u.fault u.goals x gs (sym q) o.2.3 (map (moved (fitted g b s.next u.tuple)) K)) ∙ opened-moved (IsOwn g b u.next) (lifted_var b s.next) x gs (map (moved (fitted g b s.next u.tuple)) K) h

  pub child-grafted : (p : Program) → IsProgram p → (u : Tracked) → IsOwnOf g b u → (v : Tracked) → IsOneOf v (children p u)
      → (w : Tracked) × IsOneOf w (children p (put g K b s u)) × Alike w (put g K b s v)
  child-grafted p good u o v i =
      partner (λ v z. Alike z (put g K b s v)) (children_by p u (opened u.goals)) (children_by p (put g K b s u) (opened (put g K b s u).goals)) v
      (subst (λ l. AllZip (λ v z. Alike z (put g K b s v)) (children_by p u (opened u.goals)) (children_by p (put g K b s u) l)) (sym (goals-opened u o u.goals o.2.0 refl v p i))
      (zip-opened p good u o (opened u.goals) (over-opened (IsOwn g b u.next) u.goals o.2.0) v i)) i

  -- the graft of a state with its first group opened
  opening-grafted : (p : Program) (o : Tracked) (u : Tracked) → IsOwnOf g b u → (gs : List Goal) → gs ≡ u.goals → IsFrom p o (put g K b s u) → IsFrom p o (put g K b s (opening u))
  opening-grafted p o u w [] e k =
      subst (IsFrom p o) (tracked-eq (ap (λ l. map (moved (lifted_var b s.next)) l ++ behind u.fault (map (moved (fitted g b s.next u.tuple)) K)) (sym e ∙ ap opened e)) refl refl refl) k
  opening-grafted p o u w (x ∷ gs) e k =
      subst (IsFrom p o)
      (tracked-eq (ap (λ l. opened (map (moved (lifted_var b s.next)) l ++ behind u.fault (map (moved (fitted g b s.next u.tuple)) K))) (sym e)
      ∙ opened-moved (IsOwn g b u.next) (lifted_var b s.next) x gs (behind u.fault (map (moved (fitted g b s.next u.tuple)) K)) (subst (LocalGoals (IsOwn g b u.next)) (sym e) w.2.0)
      ∙ ap (λ l. map (moved (lifted_var b s.next)) (opened l) ++ behind u.fault (map (moved (fitted g b s.next u.tuple)) K)) e) refl refl refl)
      (opens k)

  reads-grafted : (p : Program) (o : Tracked) (u : Tracked) (hs : List Goal) → AllZip SameText u.goals hs → IsFrom p o (put g K b s u) → IsFrom p o (put g K b s (with_goals hs u))
  reads-grafted p o u hs z k =
      reads (map (moved (lifted_var b s.next)) hs ++ behind u.fault (map (moved (fitted g b s.next u.tuple)) K)) k
      (same-append (map (moved (lifted_var b s.next)) u.goals) (map (moved (lifted_var b s.next)) hs) (behind u.fault (map (moved (fitted g b s.next u.tuple)) K)) (behind u.fault (map (moved (fitted g b s.next u.tuple)) K))
      (same-all (lifted_var b s.next) u.goals hs z) (same-itself (behind u.fault (map (moved (fitted g b s.next u.tuple)) K))))

  -- the goal alone, put there
  itself-grafted : (p : Program) (o : Tracked) → Local (λ x. x < b) g → opened s.goals ≡ call g ∷ K → s.fault ≡ None → IsFrom p o s → IsFrom p o (put g K b s (alone g b))
  itself-grafted p o h e quiet k = from-alike p o (opening s) (put g K b s (alone g b)) (opens k) (put_goals, tracked-eq refl tuples (omega arith) (omega arith) ∙ ap (λ i. built i put_goals s.tuple s.next s.steps) (sym quiet), subst (λ l. AllZip SameText l put_goals) (sym e) (sym first, texts))
    where
      put_goals : List Goal
      put_goals = call (instance (lifted_var b s.next) g) ∷ map (moved (fitted g b s.next (arguments g))) K

      first : instance (lifted_var b s.next) g ≡ g
      first = instance-Local (λ x. x < b) (lifted_var b s.next) var (λ x l. ap var (lifted-old b s.next x l)) g h ∙ instance_var g

      at : (x : ℕ) → fitted g b s.next (arguments g) x ≡ var x
      at x = fitted-value g b s.next var (arguments g) (sym (instance_all_var (arguments g))) x ∙ go (occurs_all x (arguments g)) refl
        where
          go : (c : Bool) → occurs_all x (arguments g) ≡ c → cond c (lifted_var b s.next x) (var x) ≡ var x
          go true q = ap var (lifted-old b s.next x (LocalAll-at (λ y. y < b) var (arguments g) (subst (LocalAll (λ y. y < b)) (sym (instance_all_var (arguments g))) (LocalAll-arguments (λ y. y < b) g h)) x q))
          go false q = refl

      still : (t : Tree) → instance (fitted g b s.next (arguments g)) t ≡ t
      still t = ap (λ f. instance f t) (λ i. λ x. at x i) ∙ instance_var t

      tuples : instance_all (fitted g b s.next (arguments g)) s.tuple ≡ s.tuple
      tuples = ap (λ f. instance_all f s.tuple) (λ i. λ x. at x i) ∙ instance_all_var s.tuple

      texts : AllZip SameText K (map (moved (fitted g b s.next (arguments g))) K)
      texts = same-still (fitted g b s.next (arguments g)) still K

  pub from-grafted : (p : Program) → IsProgram p → (o : Tracked) → Local (λ x. x < b) g → opened s.goals ≡ call g ∷ K → s.fault ≡ None → IsFrom p o s → (u : Tracked) → IsFrom p (alone g b) u → IsFrom p o (put g K b s u)
  from-grafted p good o h e f k u itself = itself-grafted p o h e f k
  from-grafted p good o h e f k u (calls {s = r} t j i) =
      let c = child-grafted p good r (of_from p g b r good h j) t i in
      from-alike p o c.0 (put g K b s t) (calls c.0 (from-grafted p good o h e f k r j) c.1) c.2
  from-grafted p good o h e f k u (opens {s = r} j) = opening-grafted p o r (of_from p g b r good h j) r.goals refl (from-grafted p good o h e f k r j)
  from-grafted p good o h e f k u (reads {s = r} gs j z) = reads-grafted p o r gs z (from-grafted p good o h e f k r j)

-- ---- the law

pub first-put : (g : Tree) (K : List Goal) (b : ℕ) (s u : Tracked) → opened s.goals ≡ call g ∷ K → tracked_graft b s u ≡ put g K b s u
first-put g K b s u e = ap (λ l. put_first l b s u) e

no-fault : {g : Tree} {K : List Goal} (e : Option Fault) (gs : List Goal) → NoneBehind e gs → opened gs ≡ call g ∷ K → e ≡ None
no-fault None gs h q = refl
no-fault {g = g} {K = K} (Some e) gs h q = absurd (no (sym (ap opened h) ∙ q))
  where
    no : opened [] ≡ call g ∷ K → ⊥
    no k = absurd (cc)

pub from_graft : (p : Program) (o s u : Tracked) (g : Tree) (K : List Goal) (b : ℕ) → IsProgram p → IsTrackedBelow o → opened s.goals ≡ call g ∷ K → Local (λ x. x < b) g → b ≤ s.next
    → IsFrom p o s → IsFrom p (alone g b) u → IsFrom p o (tracked_graft b s u)
from_graft p o s u g K b good w e h l k j =
    let q : IsTrackedBelow s = below_from p o s good w k in
    let r : LocalGoals (λ x. x < s.next) (call g ∷ K) = subst (LocalGoals (λ x. x < s.next)) e (over-opened (λ x. x < s.next) s.goals q.0) in
    subst (IsFrom p o) (sym (first-put g K b s u e)) (from-grafted g K s b l r.1 q.1 p good o h e (no-fault s.fault s.goals q.3 e) k u j)

means-behind : (e : Option Fault) (gs : List Goal) → AllByRecursion Means gs → AllByRecursion Means (behind e gs)
means-behind None gs h = h
means-behind (Some e) gs h = tt

pub kept_graft : (p : Program) (o s u : Tracked) (g : Tree) (K : List Goal) (b : ℕ) → IsProgram p → IsTrackedBelow o → opened s.goals ≡ call g ∷ K → Local (λ x. x < b) g → b ≤ s.next
    → IsKept p o s → IsKept p (alone g b) u → IsKept p o (tracked_graft b s u)
kept_graft p o s u g K b good w e h l k j = record { means = means; from = from_graft p o s u g K b good w e h l k.from j.from }
  where
    rest : AllByRecursion Means (call g ∷ K)
    rest = subst (AllByRecursion Means) e (means-opened s.goals k.means)

    means : AllByRecursion Means (tracked_graft b s u).goals
    means = subst (λ x. AllByRecursion Means x.goals) (sym (first-put g K b s u e))
        (means-append (map (moved (lifted_var b s.next)) u.goals) (behind u.fault (map (moved (fitted g b s.next u.tuple)) K)) (means-all (lifted_var b s.next) u.goals j.means) (means-behind u.fault (map (moved (fitted g b s.next u.tuple)) K) (means-all (fitted g b s.next u.tuple) K rest.1)))

pub grafting : TrackedGraftLaw
grafting = record { from = from_graft; kept = kept_graft }
