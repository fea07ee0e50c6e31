-- What the search of a query is charged when it ends.
use Rattle.std.proofs.Common.{◌≡◌, ℕ, ◌<◌, ◌≤◌, max, ◌⊎◌, inl, inr, true, false, List, [], ◌∷◌, ◌++◌, map, length, append_assoc, Option, refl, ap, sym, ◌∙◌, subst, arith}
use Rattle.ap_outside.specs.Pieces.{Puts}
use Rattle.ap_outside.proofs.Puts.{adds_nothing}
use Rattle.std.proofs.lemmas.Bool.{cases_lt}
use Rattle.std.proofs.lemmas.List.{map-append}
use Rattle.ap_term.specs.Tree.{Trees}
use Rattle.ap_term.specs.Goals.{Query}
use Rattle.ap_term.specs.Search.{start, search}
use Rattle.ap_term.specs.Blocks.{IsPrefix, IsBlock}
use Rattle.ap_term.specs.WellFormed.{IsQuery}
use Rattle.ap_term.proofs.SearchLaws.{budgets}
use Rattle.ap_core.specs.Relation.{Rules}
use Rattle.ap_graft.specs.Starts.{tracked_start}
use Rattle.ap_instr.specs.Code.{Compiled}
use Rattle.ap_tie.specs.Sections.{Section}
use Rattle.ap_open.specs.Opened.{IsSolving, spent_in}
use Rattle.ap_open.specs.Away.{IsSolvingBeside}
use Rattle.ap_open.specs.Calling.{IsDone, IsSpent}
use Rattle.ap_open.specs.Sharing.{OutcomeLaw, first_of}
use Rattle.ap_open.specs.Solving.{IsUpToNames, IsCharged, BlockLaw}
use Rattle.ap_open.specs.Ungrouped.{AreCalls, IsUngrouped}
use Rattle.ap_post.specs.declared.post.Post.{Post}
use Rattle.ap_stack.specs.declared.stack.Stack.{Stack}
use Rattle.ap_stack.specs.declared.stack.Ending.{Ending}
use Rattle.ap_stack.specs.declared.stack.Ending.TheVariants as ending
use Rattle.ap_stack.specs.declared.stack.Step.TheVariants as step
use Rattle.ap_stack.specs.Levels.{level_of}
use Rattle.ap_stack.specs.Stacks.{code_in, section_in, spent_outside, IsStep}
use Rattle.ap_worker.specs.declared.emission.End.{End}
use Rattle.ap_worker.specs.declared.emission.End.TheVariants.{NoMore, Spent, Stopped}
use Rattle.ap_worker.specs.declared.emission.Answered.{Answered}
use Rattle.ap_worker.specs.Charged.{IsChargedEnd, charge_after}
use Rattle.ap_worker.specs.Ends.{end_of}
use Rattle.ap_worker.specs.Leads.{end_after}
use Rattle.ap_worker.proofs.Finding.{Finding, FindingBy, alone}

-- the only section of a search has made all of its calls
pub spent-alone : (w : Post) (t : Stack) → t.outer.items ≡ [] → spent_outside w t ≡ spent_in (section_in t)
spent-alone w t e = ap (λ es. spent_in (first_of (map (level_of w) es) (section_in t))) e

stopped-spent : Stopped ≡ Spent → ⊥
stopped-spent e = cc

stopped-no-more : Stopped ≡ NoMore → ⊥
stopped-no-more e = cc

no-more-spent : NoMore ≡ Spent → ⊥
no-more-spent e = cc

spent-no-more : Spent ≡ NoMore → ⊥
spent-no-more e = cc

module _ (line : Trees → List ℕ) (code : Compiled) (p : Rules) (q : Query) (budget : ℕ) (laws : OutcomeLaw) (block : BlockLaw) (names : IsUpToNames line) (good : IsQuery q) (limit : ℕ) where
  abbrev pub Bare : Type 0
  Bare = IsUngrouped p.program × AreCalls q.question.body

  abbrev pub Charged : Answered → List (List ℕ) → Type 0
  Charged e put = IsChargedEnd line p.program (start q) budget limit Bare e.end e.charged put

  -- nothing was asked for
  pub nothing-asked : (a : Option (List (List ℕ))) (s : Section) → IsSolvingBeside code p (tracked_start q) (start q) budget [] s [] [] → 0 ≡ limit → Puts a a (Charged (record { end = Stopped; charged = 0 }))
  nothing-asked a s h e = (
    [],
    adds_nothing a,
    record {
      block = block.stops line code p q budget limit s [] names good (laws.alone_is code p (tracked_start q) (start q) budget s [] h) e;
      charged = λ n lt. absurd (let f : n < 0 = lt in omega arith);
      spent = λ is. absurd (stopped-spent is);
      found = λ bare. (map line (search p.program 0 (start q ∷ [])).answers, refl);
      ended = λ bare is. absurd (stopped-no-more is);
    },
  )

  module _ (n : ℕ) (a b : Option (List (List ℕ))) (s : Section) (m : Finding line code p q budget n a b [] s []) where
    solves : IsSolving code p (tracked_start q) (start q) budget [] s m.given
    solves = laws.alone_is code p (tracked_start q) (start q) budget s m.given m.solves

    made : IsCharged line p.program (start q) (spent_in s) (map line m.given)
    made = block.charges line code p q budget s m.given names good solves

    finds : Bare → IsPrefix (map line m.given) (map line (search p.program (spent_in s) (start q ∷ [])).answers)
    finds bare = block.finds_all line code p q budget s m.given names bare.0 bare.1 solves

    -- as many answers as the limit
    pub charged-at-limit : (c : ℕ) → c ≡ spent_in s → n ≡ limit → Puts a b (Charged (record { end = Stopped; charged = c }))
    charged-at-limit c is e = (
      map line m.given,
      m.put,
      record {
        block = block.stops line code p q budget limit s m.given names good solves (m.count_is ∙ e);
        charged = subst (λ k. IsCharged line p.program (start q) k (map line m.given)) (sym is) made;
        spent = λ is. absurd (stopped-spent is);
        found = λ bare. subst (λ k. IsPrefix (map line m.given) (map line (search p.program k (start q ∷ [])).answers)) (sym is) (finds bare);
        ended = λ bare is. absurd (stopped-no-more is);
      },
    )

    module _ (r : Answered) (short : n < limit) where
      few : length m.given < limit
      few = let e = m.count_is in omega arith

      pub charged-at-end : r.end ≡ NoMore → r.charged ≡ spent_in s → IsDone s → Puts a b (Charged r)
      charged-at-end is c done = (
        map line m.given,
        m.put,
        record {
          block = subst (λ e. IsBlock line p.program (start q) budget limit (map line m.given) (end_of e)) (sym is) (block.ends line code p q budget limit s m.given names good solves few done);
          charged = subst (λ k. IsCharged line p.program (start q) k (map line m.given)) (sym c) made;
          spent = λ e. absurd (no-more-spent (sym is ∙ e));
          found = λ bare. subst (λ k. IsPrefix (map line m.given) (map line (search p.program k (start q ∷ [])).answers)) (sym c) (finds bare);
          ended = λ bare e. subst (λ k. (search p.program k (start q ∷ [])).ended ≡ true) (sym c) (block.ends_then code p q budget s m.given bare.0 bare.1 solves done);
        },
      )

      pub charged-at-spent : r.end ≡ Spent → r.charged ≡ max (spent_in s) budget → IsSpent code s → Puts a b (Charged r)
      charged-at-spent is c spent = (
        map line m.given,
        m.put,
        record {
          block = subst (λ e. IsBlock line p.program (start q) budget limit (map line m.given) (end_of e)) (sym is) (block.spends line code p q budget limit s m.given names good solves few spent);
          charged = λ k lt. either k (below k (subst (λ u. k < u) c lt));
          spent = λ e. subst (λ u. budget ≤ u) (sym c) (omega arith);
          found = λ bare. subst (λ k. IsPrefix (map line m.given) (map line (search p.program k (start q ∷ [])).answers)) (sym c) (longer (finds bare));
          ended = λ bare e. absurd (spent-no-more (sym is ∙ e));
        },
      )
        where
          longer : IsPrefix (map line m.given) (map line (search p.program (spent_in s) (start q ∷ [])).answers) → IsPrefix (map line m.given) (map line (search p.program (max (spent_in s) budget) (start q ∷ [])).answers)
          longer h =
              let few : List Trees = (search p.program (spent_in s) (start q ∷ [])).answers in
              let all : List Trees = (search p.program (max (spent_in s) budget) (start q ∷ [])).answers in
              let front : IsPrefix few all = budgets.begins p.program (start q ∷ []) (spent_in s) (max (spent_in s) budget) (omega arith) in (
                h.0 ++ map line front.0,
                sym (append_assoc (map line m.given) h.0 (map line front.0)) ∙ ap (λ ls. ls ++ map line front.0) h.1 ∙ sym (map-append line few front.0) ∙ ap (map line) front.1,
              )

          below : (k : ℕ) → k < max (spent_in s) budget → (k < spent_in s) ⊎ (k < budget)
          below k lt = by (cases_lt k (spent_in s))
            where
              by : (k < spent_in s) ⊎ (spent_in s ≤ k) → (k < spent_in s) ⊎ (k < budget)
              by (inl h) = inl h
              by (inr h) = inr (omega arith)

          either : (k : ℕ) → (k < spent_in s) ⊎ (k < budget) → ((search p.program k (start q ∷ [])).ended ≡ false) × IsPrefix (map line (search p.program k (start q ∷ [])).answers) (map line m.given)
          either k (inl h) = made k h
          either k (inr h) = block.charges_all line code p q budget s m.given names good solves spent k h

  -- the search of the query has ended
  pub charged-at-ending : (n : ℕ) (a b : Option (List (List ℕ))) (w : Post) (t : Stack) (e : Ending) (r : Answered) → code_in t ≡ code → IsStep w t (step.Ended e) → n < limit
      → r.end ≡ end_after e → r.charged ≡ charge_after e (spent_outside w t) budget → FindingBy line code p q budget n a b w t → Puts a b (Charged r)
  charged-at-ending n a b w t ending.Failed r is d short end c m =
      charged-at-end n a b (section_in t) (alone line code p q budget n a b w t d.0 d.1 m) r short end (c ∙ spent-alone w t d.0) d.2
  charged-at-ending n a b w t ending.Spent r is d short end c m =
      charged-at-spent n a b (section_in t) (alone line code p q budget n a b w t d.0 d.1 m) r short end (c ∙ ap (λ k. max k budget) (spent-alone w t d.0)) (subst (λ k. IsSpent k (section_in t)) is d.2)
