-- Blocks of queries beside a part of a program.
use Rattle.std.proofs.Common.{◌≡◌, ℕ, ◌⊎◌, Bool, true, false, if◌then◌else◌, List, [], ◌∷◌, ◌++◌, map, length, Option, Some, None, sym, subst}
use Rattle.std.specs.List.{AllByRecursion}
use Rattle.ap_term.specs.declared.faults.Fault.{Fault}
use Rattle.ap_term.specs.Tree.{Trees}
use Rattle.ap_term.specs.Goals.{Clause, Program, Query, joined}
use Rattle.ap_term.proofs.Zips.{AllByRecursion-append}
use Rattle.ap_term.specs.WellFormed.{IsProgram}
use Rattle.ap_term.specs.Search.{start}
use Rattle.ap_term.specs.Blocks.{End, no_more, budget_spent, stopped, error, IsBlock, Begins, IsAllUpTo, IsEnd, IsPrefix}
use Rattle.ap_reach.specs.declared.called.Called.{Called}
use Rattle.ap_reach.specs.Reached.{is_beside, leads, clauses_for, contribution, gathered, IsReached}
use Rattle.ap_reach.proofs.Same.{restriction, answers}

module _ {L : Type 0} (line : Trees → L) (p : Program) (q : Query) (r : Program) (good : IsProgram p) (part : IsReached p q r) where
  begins : (ls : List L) → Begins line (joined r q) (start q) ls → Begins line (joined p q) (start q) ls
  begins ls b = (b.0, λ d le. subst (λ a. IsPrefix ls (map line a.tuples)) (answers p q r good part d) (b.1 d le))

  is-all : (f : Option Fault) (ls : List L) → IsAllUpTo line (joined r q) (start q) f ls → IsAllUpTo line (joined p q) (start q) f ls
  is-all f ls b = (b.0, λ d le. subst (λ a. (ls ≡ map line a.tuples) × (f ≡ a.fault)) (answers p q r good part d) (b.1 d le))

  ends : (budget limit : ℕ) (ls : List L) (end : End) → IsEnd line (joined r q) (start q) budget limit ls end → IsEnd line (joined p q) (start q) budget limit ls end
  ends budget limit ls no_more h = (h.0, is-all None ls h.1)
  ends budget limit ls budget_spent h = (h.0, subst (λ f. f.ended ≡ false) (restriction p q r good part budget) h.1)
  ends budget limit ls stopped h = h
  ends budget limit ls (error e) h = (h.0, is-all (Some e) ls h.1)

  pub same-block : (budget limit : ℕ) (ls : List L) (end : End) → IsBlock line (joined r q) (start q) budget limit ls end → IsBlock line (joined p q) (start q) budget limit ls end
  same-block budget limit ls end b = record {
    begins = begins ls b.begins;
    few = b.few;
    found = subst (λ f. IsPrefix (map line f.answers) ls ⊎ (length ls ≡ limit)) (restriction p q r good part budget) b.found;
    ends = ends budget limit ls end b.ends;
  }

pub block : (line : Trees → List ℕ) (p : Program) (q : Query) (r : Program) (budget limit : ℕ) (ls : List (List ℕ)) (end : End) → IsProgram p → IsReached p q r
    → IsBlock line (joined r q) (start q) budget limit ls end → IsBlock line (joined p q) (start q) budget limit ls end
block line p q r budget limit ls end good part b = same-block line p q r good part budget limit ls end b

-- ---- what each clause keeps

module _ (P : Clause → Type 0) where
  one-left : (k : Called) (p : Program) → AllByRecursion P p → AllByRecursion P (clauses_for k p)
  one-left k [] h = tt
  one-left k (c ∷ p) h = go (leads k c.head) (one-left k p h.1)
    where
      go : (b : Bool) → AllByRecursion P (clauses_for k p) → AllByRecursion P (if b then c ∷ clauses_for k p else clauses_for k p)
      go true r = (h.0, r)
      go false r = r

  unless-beside : (b : Bool) (cs : Program) → AllByRecursion P cs → AllByRecursion P (if b then [] else cs)
  unless-beside true cs h = tt
  unless-beside false cs h = h

  all-left : (ks ls : List Called) (p : Program) → AllByRecursion P p → AllByRecursion P (gathered ks ls p)
  all-left ks [] p h = tt
  all-left ks (k ∷ ls) p h = AllByRecursion-append P (contribution ks p k) (gathered ks ls p) (unless-beside (is_beside ks k) (clauses_for k p) (one-left k p h)) (all-left ks ls p h)

  left-of : (p l : Program) → AllByRecursion P (p ++ l) → AllByRecursion P p
  left-of [] l h = tt
  left-of (c ∷ p) l h = (h.0, left-of p l h.1)

  right-of : (p l : Program) → AllByRecursion P (p ++ l) → AllByRecursion P l
  right-of [] l h = h
  right-of (c ∷ p) l h = right-of p l h.1

  pub of-program : (p : Program) (q : Query) (r : Program) → IsReached p q r → AllByRecursion P p → AllByRecursion P r
  of-program p q r part h = subst (AllByRecursion P) (sym part.clauses) (all-left part.called part.called p h)

  pub of-joined : (p : Program) (q : Query) (r : Program) → IsReached p q r → AllByRecursion P (joined p q) → AllByRecursion P (joined r q)
  of-joined p q r part h = AllByRecursion-append P r (q.question ∷ q.lifted) (of-program p q r part (left-of p (q.question ∷ q.lifted) h)) (right-of p (q.question ∷ q.lifted) h)
