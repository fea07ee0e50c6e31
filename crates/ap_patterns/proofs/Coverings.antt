-- What a covered pattern says, and which goals are built in.
use Rattle.std.proofs.Common.{◌≡◌, ℕ, inl, inr, Bool, true, false, ◌||◌, ◌&&◌, ◌==◌, nat_eq, if◌then◌else◌, is_some, List, [], ◌∷◌, Option, Some, None, refl, ap, ◌∙◌, arith}
use Rattle.std.proofs.lemmas.Bool.{false≢true, eqb-true, ne_eqb, or_left, or_right, or_cases, and_parts, and_from}
use Rattle.std.specs.List.{list_all}
use Rattle.ap_term.specs.declared.builtins.Relation.{Relation}
use Rattle.ap_term.specs.declared.fixed.TheConstants.{TRUE, FAIL}
use Rattle.ap_term.specs.Tree.{Tree, var, int, atom, node, none, more, count_trees}
use Rattle.ap_term.specs.Substitution.{Subst}
use Rattle.ap_term.specs.Builtins.{builtin, relation_named, named_answer}
use Rattle.ap_sharing.specs.VarSet.{within}
use Rattle.ap_sharing.specs.Sets.{Is, listed}
use Rattle.ap_sharing.specs.Share.{Share, Member, is_member}
use Rattle.ap_sharing.proofs.Elements.{same_test, within-at}
use Rattle.ap_sharing.proofs.Lists.{In-some, In-elem, Elem-listed, listed-Elem}
use Rattle.ap_absunify.specs.declared.states.State.{State}
use Rattle.ap_absunify.specs.declared.states.State.TheVariants.{Unreachable, Reachable}
use Rattle.ap_absunify.specs.State.{Covers}
use Rattle.ap_patterns.specs.Given.{is_builtin}
use Rattle.ap_patterns.specs.Covered.{is_share_covered, is_covered}

-- ---- what is covered, by its parts

pub record Within (sh : Share) (fr : ℕ) (sh2 : Share) (fr2 : ℕ) : Type 0 where
  pub any : within sh.any sh2.any ≡ true
  pub sets : (s : ℕ) → listed s sh.sets ≡ true → is_member s sh2 ≡ true
  pub free : within fr2 fr ≡ true

abbrev pub Below : State → State → Type 0
Below Unreachable t = Unit {0}
Below (Reachable sh fr) Unreachable = ⊥
Below (Reachable sh fr) (Reachable sh2 fr2) = Within sh fr sh2 fr2

all_listed : (p : ℕ → Bool) (ss : List ℕ) → list_all p ss ≡ true → (s : ℕ) → listed s ss ≡ true → p s ≡ true
all_listed p [] h s l = absurd (false≢true l)
all_listed p (t ∷ ts) h s l =
    let r = and_parts (p t) (list_all p ts) h in
    elim (or_cases (nat_eq s t) (listed s ts) l) [ inl e ↦ ap p (eqb-true s t e) ∙ r.0 | inr k ↦ all_listed p ts r.1 s k ]

listed_all : (p : ℕ → Bool) (ss : List ℕ) → ((s : ℕ) → listed s ss ≡ true → p s ≡ true) → list_all p ss ≡ true
listed_all p [] h = refl
listed_all p (t ∷ ts) h =
    and_from (p t) (list_all p ts) (h t (or_left (nat_eq t t) (listed t ts) (same_test t)))
    (listed_all p ts (λ s k. h s (or_right (nat_eq s t) (listed s ts) k)))

pub Below-covered : (a b : State) → is_covered a b ≡ true → Below a b
Below-covered Unreachable b h = tt
Below-covered (Reachable sh fr) Unreachable h = absurd (false≢true h)
Below-covered (Reachable sh fr) (Reachable sh2 fr2) h =
    let r = and_parts (is_share_covered sh sh2) (within fr2 fr) h in
    let q = and_parts (within sh.any sh2.any) (list_all (λ s. is_member s sh2) sh.sets) r.0 in
    record { any = q.0; sets = all_listed (λ s. is_member s sh2) sh.sets q.1; free = r.1 }

pub covered-Below : (a b : State) → Below a b → is_covered a b ≡ true
covered-Below Unreachable b h = refl
covered-Below (Reachable sh fr) Unreachable h = absurd h
covered-Below (Reachable sh fr) (Reachable sh2 fr2) h =
    and_from (is_share_covered sh sh2) (within fr2 fr)
    (and_from (within sh.any sh2.any) (list_all (λ s. is_member s sh2) sh.sets) h.any (listed_all (λ s. is_member s sh2) sh.sets h.sets)) h.free

-- ---- what is covered stays covered

member-moves : (sh : Share) (fr : ℕ) (sh2 : Share) (fr2 : ℕ) (p : ℕ → Bool) → Within sh fr sh2 fr2 → Member sh p → Member sh2 p
member-moves sh fr sh2 fr2 p w (inl h) =
    let r = In-some (λ s. Is s p) sh.sets h in
    elim (or_cases (listed r.0 sh2.sets) (within r.0 sh2.any) (w.sets r.0 (listed-Elem r.0 sh.sets r.2))) [
      | inl k ↦ inl (In-elem (λ s. Is s p) sh2.sets r.0 (Elem-listed r.0 sh2.sets k) r.1)
      | inr k ↦ inr (λ x i. within-at r.0 sh2.any x k (r.1 x ∙ i))
    ]
member-moves sh fr sh2 fr2 p w (inr h) = inr (λ x i. within-at sh.any sh2.any x w.any (h x i))

pub covered-covers : (s t : State) (f : ℕ → Tree) → is_covered s t ≡ true → Covers s f → Covers t f
covered-covers Unreachable t f h c = absurd c
covered-covers (Reachable sh fr) Unreachable f h c = absurd (false≢true h)
covered-covers (Reachable sh fr) (Reachable sh2 fr2) f h c =
    let w = Below-covered (Reachable sh fr) (Reachable sh2 fr2) h in
    (λ u x o. member-moves sh fr sh2 fr2 _ w (c.0 u x o), λ x k. c.1 x (within-at fr2 fr x w.free k))

-- ---- built-in goals

pub builtin-test : (goal : Tree) → is_builtin goal ≡ is_some (builtin goal)
builtin-test (var x) = refl
builtin-test (int z) = refl
builtin-test (atom a) = go (a == TRUE) (a == FAIL)
  where
    go : (p q : Bool) → (p || q) ≡ is_some {T = Option Subst} (if p then Some (Some []) else (if q then Some None else None))
    go true q = refl
    go false true = refl
    go false false = refl
builtin-test (node a none) = refl
builtin-test (node a (more t none)) = refl
builtin-test (node a (more t (more u none))) = go (relation_named a)
  where
    go : (r : Option Relation) → is_some r ≡ is_some (named_answer r t u)
    go None = refl
    go (Some r) = refl
builtin-test (node a (more t (more u (more v ts)))) = ap (λ b. b && is_some (relation_named a)) (ne_eqb (count_trees (more t (more u (more v ts)))) 2 (omega arith))
