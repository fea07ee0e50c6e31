-- The clause of a query, with the query's variables in its head.
use Rattle.std.proofs.Common.{◌≡◌, ℕ, zero, suc, ◌+◌, ◌≤◌, nat_le, true, ◌&&◌, refl, ap, sym, ◌∙◌, subst, arith}
use Rattle.std.proofs.lemmas.Bool.{and_from}
use Rattle.std.proofs.lemmas.Bool.Decides.{nat_tests}
use Rattle.ap_term.specs.declared.fixed.TheConstants.{QUERY}
use Rattle.ap_term.specs.Tree.{var, node, count_trees, push_tree}
use Rattle.ap_term.specs.Goals.{Clause}
use Rattle.ap_term.specs.Search.{variables}
use Rattle.std.specs.List.{list_all}
use Rattle.ap_term.specs.WellFormed.{numbered, numbered_all, callable, well_formed_part, IsClause}
use Rattle.ap_term.proofs.TreeLists.{count_trees-variables, applied-push}
use Rattle.ap_term.proofs.WellFormed.{numbered_all-variables}
use Rattle.ap_instr.specs.Runs.{applied}

pub variables_more : (n : ℕ) → variables (n + 1) ≡ push_tree (variables n) (var (n + 1))
variables_more n = let e : n + 1 ≡ suc n = omega arith in ap variables e ∙ ap (λ m. push_tree (variables n) (var m)) (sym e)

-- the head of a query with variables
pub applied_variables : (a n : ℕ) → 1 ≤ n → node a (variables n) ≡ applied a (variables n)
applied_variables a zero l = absurd (omega arith)
applied_variables a (suc n) l = sym (applied-push a (variables n) (var (suc n)))

head_fits : (m n : ℕ) → n ≤ m → n ≤ 255 → (callable (applied QUERY (variables n)) && numbered m (applied QUERY (variables n))) ≡ true
head_fits m zero l k = refl
head_fits m (suc n) l k =
    let e : applied QUERY (variables (suc n)) ≡ node QUERY (variables (suc n)) = applied-push QUERY (variables n) (var (suc n)) in
    let c : count_trees (variables (suc n)) ≡ suc n = count_trees-variables (suc n) in
    ap (λ t. callable t && numbered m t) e
    ∙ and_from (nat_le 1 (count_trees (variables (suc n))) && nat_le (count_trees (variables (suc n))) 255) (numbered_all m (variables (suc n)))
    (and_from (nat_le 1 (count_trees (variables (suc n)))) (nat_le (count_trees (variables (suc n))) 255) (le_true 1 _ (omega arith)) (le_true _ 255 (omega arith)))
    (numbered_all-variables m (suc n) l)
  where
    le_true : (a b : ℕ) → a ≤ b → nat_le a b ≡ true
    le_true a b l = grind (arith, nat_tests)

pub asked_fits : (c d : Clause) → IsClause c → d.head ≡ applied QUERY (variables c.vars) → d.body ≡ c.body → d.vars ≡ c.vars → IsClause d
asked_fits c d i h b v =
    let few : c.vars ≤ 255 = i.few in
    let P : ℕ → Type 0 = λ n. n ≤ 255 in
    record {
      few = subst P (sym v) few;
      head = ap (λ t. callable t && numbered d.vars t) h ∙ ap (λ n. callable (applied QUERY (variables c.vars)) && numbered n (applied QUERY (variables c.vars))) v ∙ head_fits c.vars c.vars (omega arith) few;
      body = subst (λ n. list_all (well_formed_part n) d.body ≡ true) (sym v) (subst (λ ps. list_all (well_formed_part c.vars) ps ≡ true) (sym b) i.body);
    }
