-- What stands in places that are filled; lifting one clause more.
use Rattle.std.proofs.Common.{◌≡◌, ℕ, ◌+◌, ◌≤◌, List, [], ◌∷◌, ◌++◌, map, Some, None, Option, refl, ap, sym, ◌∙◌, append_assoc, append-nil, subst, arith}
use Rattle.std.proofs.lemmas.List.{map-append}
use Rattle.ap_term.specs.Goals.{Clause}
use Rattle.ap_lifting.specs.declared.lifter.Raised.{Raised}
use Rattle.ap_lifting.specs.Rule.{Rule}
use Rattle.ap_lifting.specs.Lifted.{clause_of, lifted_rule, lifted_rules, lifted_program, LiftedRules}
use Rattle.ap_lifting.specs.Lifts.{Lifts, values}
use Rattle.ap_lifting.specs.Sizes.{predicates_if, predicates_in}
use Rattle.ap_lifting.proofs.Measured.{measures_if}

pub values-append : {A : Type 0} (xs ys : List (Option A)) → values (xs ++ ys) ≡ values xs ++ values ys
values-append [] ys = refl
values-append (None ∷ xs) ys = values-append xs ys
values-append (Some x ∷ xs) ys = ap (λ l. x ∷ l) (values-append xs ys)

pub values-map : {A : Type 0} (xs : List A) → values (map Some xs) ≡ xs
values-map [] = refl
values-map (x ∷ xs) = ap (λ l. x ∷ l) (values-map xs)

pub values-one : {A : Type 0} (out before after : List A) (xs : List (Option A)) (o : Option A) (x : A) → o ≡ Some x → after ≡ before ++ x ∷ [] → before ≡ out ++ values xs → after ≡ out ++ values (xs ++ o ∷ [])
values-one out before after xs o x e p q =
    p ∙ ap (λ l. l ++ x ∷ []) q ∙ append_assoc out (values xs) (x ∷ []) ∙ ap (λ l. out ++ l) (sym (values-append xs (Some x ∷ []))) ∙ ap (λ v. out ++ values (xs ++ v ∷ [])) (sym e)

pub values-same : {A : Type 0} (out before : List A) (xs : List (Option A)) (o : Option A) → o ≡ None → before ≡ out ++ values xs → before ≡ out ++ values (xs ++ o ∷ [])
values-same out before xs o e q =
    q ∙ ap (λ l. out ++ l) (sym (append-nil (values xs)) ∙ sym (values-append xs (None ∷ []))) ∙ ap (λ v. out ++ values (xs ++ v ∷ [])) (sym e)

pub next-lifted_rule : (names : ℕ → ℕ) (r : Rule) (n : ℕ) → (lifted_rule names r n).next ≡ n + predicates_if r.body
next-lifted_rule names r n = (measures_if names r.vars r.line r.body n).predicates

pub predicates_in-push : (rs : List Rule) (r : Rule) → predicates_in (rs ++ r ∷ []) ≡ predicates_in rs + predicates_if r.body
predicates_in-push [] r = omega arith
predicates_in-push (q ∷ rs) r = omega (arith, predicates_in-push rs r)

predicates_in-append : (rs qs : List Rule) → predicates_in (rs ++ qs) ≡ predicates_in rs + predicates_in qs
predicates_in-append [] qs = omega arith
predicates_in-append (r ∷ rs) qs = omega (arith, predicates_in-append rs qs)

-- the next rule's predicates have names
pub enough_names : (rs rest next all : List Rule) (r : Rule) (n m : ℕ) → n ≡ predicates_in rs → rs ++ rest ≡ all → rest ≡ r ∷ next → predicates_in all ≤ m → n + predicates_if r.body ≤ m
enough_names rs rest next all r n m p q e h =
    omega (arith, p, h, ap predicates_in (sym q ∙ ap (λ l. rs ++ l) e), predicates_in-append rs (r ∷ next))

-- the clauses with one clause more
abbrev pub IsOneMore : (ℕ → ℕ) → Rule → ℕ → LiftedRules → LiftedRules → Type 0
IsOneMore names r k all more =
    (more.clauses ≡ all.clauses ++ clause_of r (lifted_rule names r k).parts ∷ []) × (more.lifted ≡ all.lifted ++ (lifted_rule names r k).clauses)

pub one_more : (names : ℕ → ℕ) (rs : List Rule) (r : Rule) (n k : ℕ) → k ≡ n + predicates_in rs → IsOneMore names r k (lifted_rules names rs n) (lifted_rules names (rs ++ r ∷ []) n)
one_more names [] r n k e =
    let P : ℕ → Type 0 = λ m. IsOneMore names r m (lifted_rules names [] n) (lifted_rules names (r ∷ []) n) in
    subst P (omega arith) (refl, append-nil (lifted_rule names r n).clauses)
one_more names (q ∷ rs) r n k e =
    let x = lifted_rule names q n in
    let rest = one_more names rs r x.next k (omega (arith, e, next-lifted_rule names q n)) in (
      ap (λ l. clause_of q x.parts ∷ l) rest.0,
      ap (λ l. x.clauses ++ l) rest.1 ∙ sym (append_assoc x.clauses (lifted_rules names rs x.next).lifted (lifted_rule names r k).clauses),
    )

-- the state after the rules so far
pub record AreLifted (names : ℕ → ℕ) (rs : List Rule) (program : List Clause) (out : Raised) : Type 0 where
  pub clauses : program ≡ (lifted_rules names rs 0).clauses
  pub lifted : out.clauses.items ≡ map Some (lifted_rules names rs 0).lifted
  pub next : out.next ≡ predicates_in rs

pub one_lifted : (names : ℕ → ℕ) (rs : List Rule) (r : Rule) (before after : List Clause) (c : Clause) (old new : Raised) → AreLifted names rs before old
    → c ≡ clause_of r (lifted_rule names r old.next).parts → Lifts (lifted_rule names r old.next) old new → new.next ≡ old.next + predicates_if r.body → after ≡ before ++ c ∷ []
    → AreLifted names (rs ++ r ∷ []) after new
one_lifted names rs r before after c old new h p q e f =
    let x = lifted_rule names r old.next in
    let more = one_more names rs r 0 old.next (omega (arith, h.next)) in
    record {
      clauses = f ∙ ap (λ l. l ++ c ∷ []) h.clauses ∙ ap (λ d. (lifted_rules names rs 0).clauses ++ d ∷ []) p ∙ sym more.0;
      lifted = q.clauses ∙ ap (λ l. l ++ map Some x.clauses) h.lifted ∙ sym (map-append Some (lifted_rules names rs 0).lifted x.clauses) ∙ ap (map Some) (sym more.1);
      next = omega (arith, e, h.next, predicates_in-push rs r);
    }

pub all_lifted : (names : ℕ → ℕ) (rs all : List Rule) (program whole : List Clause) (out : Raised) → AreLifted names rs program out → rs ≡ all → whole ≡ program ++ values out.clauses.items
    → whole ≡ lifted_program names all
all_lifted names rs all program whole out h p q =
    q ∙ ap (λ l. l ++ values out.clauses.items) h.clauses ∙ ap (λ l. (lifted_rules names rs 0).clauses ++ l) (ap values h.lifted ∙ values-map (lifted_rules names rs 0).lifted) ∙ ap (lifted_program names) p

pub question_lifted : (names : ℕ → ℕ) (r : Rule) (n : ℕ) (before whole : List Clause) (old out : Raised) → old.clauses.items ≡ [] → old.next ≡ n → before ≡ [] → Lifts (lifted_rule names r old.next) old out
    → whole ≡ before ++ values out.clauses.items → whole ≡ (lifted_rule names r n).clauses
question_lifted names r n before whole old out e p q h k =
    k ∙ ap (λ l. l ++ values out.clauses.items) q ∙ ap values (h.clauses ∙ ap (λ l. l ++ map Some (lifted_rule names r old.next).clauses) e)
    ∙ values-map (lifted_rule names r old.next).clauses ∙ ap (λ m. (lifted_rule names r m).clauses) p
