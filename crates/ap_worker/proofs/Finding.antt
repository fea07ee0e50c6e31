-- The lines of a query's answers, while searches find them.
use Rattle.std.proofs.Common.{◌≡◌, ℕ, suc, ◌+◌, ◌^◌, ◌<◌, ◌≤◌, max, false, inr, List, [], ◌∷◌, ◌++◌, map, length, Option, Result, Err, refl, ap, sym, ◌∙◌, subst, arith, rules}
use Rattle.std.proofs.lemmas.List.{map-append, length-append}
use Rattle.ap_outside.specs.Pieces.{Adds, Puts, PrefixOf, FrontOf}
use Rattle.ap_outside.specs.Halting.{AnyOf, Finishes, Prints}
use Rattle.ap_outside.specs.declared.halting.Halt.{Halt}
use Rattle.ap_outside.specs.declared.halting.Halt.TheVariants as halt
use Rattle.ap_outside.proofs.Puts.{adds_nothing, adds_then}
use Rattle.ap_outside.proofs.Halts.{passes_on}
use Rattle.ap_term.specs.Tree.{Trees}
use Rattle.ap_term.specs.Goals.{Query}
use Rattle.ap_term.specs.Search.{start}
use Rattle.ap_term.specs.WellFormed.{IsQuery}
use Rattle.ap_term.specs.Blocks as blocks
use Rattle.ap_term.specs.Blocks.{IsBlock}
use Rattle.ap_core.specs.Relation.{Rules}
use Rattle.ap_graft.specs.Starts.{tracked_start}
use Rattle.ap_instr.specs.Code.{Compiled}
use Rattle.ap_tie.specs.Sections.{Section}
use Rattle.ap_tied.specs.Settling.{IsAnswerIn}
use Rattle.ap_open.specs.Opened.{IsSolving}
use Rattle.ap_open.specs.Away.{Away, Level, OpenBeside, Carries, IsSolvingBeside}
use Rattle.ap_open.specs.Calling.{IsAnswering, IsDone, IsSpent}
use Rattle.ap_open.specs.Sharing.{OutcomeLaw}
use Rattle.ap_open.specs.Solving.{past_answer, IsUpToNames, SolvingLaw, BlockLaw}
use Rattle.ap_post.specs.declared.post.Post.{Post}
use Rattle.ap_post.specs.Posts.{posted_in}
use Rattle.ap_stack.specs.declared.stack.Stack.{Stack}
use Rattle.ap_stack.specs.declared.stack.Ending.{Ending}
use Rattle.ap_stack.specs.declared.stack.Ending.TheVariants as ending
use Rattle.ap_stack.specs.declared.stack.Step.TheVariants as step
use Rattle.ap_stack.specs.declared.stack.Step.TheVariants.{Answer}
use Rattle.ap_stack.specs.Levels.{level_of, aways_of}
use Rattle.ap_ledger.specs.Counts.{capped}
use Rattle.ap_stack.specs.Counts.{Counts}
use Rattle.ap_stack.specs.Stacks.{code_in, levels_in, section_in, away_in, spent_outside, IsStep}
use Rattle.ap_stack.proofs.Endings.{first-paid, spent-paid}
use Rattle.ap_worker.specs.declared.emission.End.{End}
use Rattle.ap_worker.specs.declared.emission.Answered.{Answered}
use Rattle.ap_worker.specs.declared.emission.End.TheVariants.{NoMore, Spent, Stopped}
use Rattle.ap_worker.specs.declared.lead.Lead.{Lead}
use Rattle.ap_worker.specs.Charged.{charge_after}
use Rattle.ap_worker.specs.Ends.{end_of}
use Rattle.ap_worker.specs.Leads.{IsLeading, LeadGoes, IsLineAt, end_after}
use Rattle.ap_worker.proofs.Emitted.{of-end, end_of-of-end}

-- So many answers were put, and the sections make the search that gave them.
pub record Finding (line : Trees → List ℕ) (code : Compiled) (p : Rules) (q : Query) (budget count : ℕ) (a b : Option (List (List ℕ))) (levels : List Level) (s : Section) (aways : List Away) : Type 0 where
  pub given : List Trees
  pub count_is : length given ≡ count
  pub solves : IsSolvingBeside code p (tracked_start q) (start q) budget levels s aways given
  pub put : Adds a b (map line given)

module _ (line : Trees → List ℕ) (code : Compiled) (p : Rules) (q : Query) (budget : ℕ) where
  pub begin : (a : Option (List (List ℕ))) (s : Section) → IsSolvingBeside code p (tracked_start q) (start q) budget [] s [] [] → Finding line code p q budget 0 a a [] s []
  begin a s h = record { given = []; count_is = refl; solves = h; put = adds_nothing a }

  pub goes : OutcomeLaw → (n : ℕ) (a b : Option (List (List ℕ))) (o o' : List Level) (s s' : Section) (w w' : List Away) → Carries code o s w o' s' w' → Finding line code p q budget n a b o s w → Finding line code p q budget n a b o' s' w'
  goes law n a b o o' s s' w w' carries m = record {
    given = m.given;
    count_is = m.count_is;
    solves = law.solves code p (tracked_start q) (start q) budget o o' s s' w w' m.given carries m.solves;
    put = m.put;
  }

  module _ (law : SolvingLaw) (laws : OutcomeLaw) (block : BlockLaw) (names : IsUpToNames line) (good : IsQuery q) (limit : ℕ) where
    -- the lines that go with an end
    abbrev pub Lines : Answered → List (List ℕ) → Type 0
    Lines e put = IsBlock line p.program (start q) budget limit put (end_of e.end)

    abbrev EndsBy : End → List (List ℕ) → Type 0
    EndsBy end put = IsBlock line p.program (start q) budget limit put (end_of end)

    go-on : (o : List Level) (s : Section) (w : List Away) (given : List Trees) → IsSolvingBeside code p (tracked_start q) (start q) budget o s w given → length given ≤ limit → PrefixOf (AnyOf Lines) (map line given)
    go-on o s w given h few =
        let on = block.goes_on_beside line code p q budget limit o s w given names good h few in
        (on.0, (record { end = of-end on.1; charged = 0 }, subst (IsBlock line p.program (start q) budget limit (map line given ++ on.0)) (sym (end_of-of-end on.1)) on.2))

    -- memory was wanting
    pub broken-off : (n : ℕ) (a b : Option (List (List ℕ))) (o : List Level) (s : Section) (w : List Away) → Finding line code p q budget n a b o s w → n ≤ limit → Finishes a b Lines (Err halt.NoMemory)
    broken-off n a b o s w m few = (map line m.given, m.put, inr (go-on o s w m.given m.solves (let e = m.count_is in omega arith)))

    module _ (n : ℕ) (a b : Option (List (List ℕ))) (s : Section) (m : Finding line code p q budget n a b [] s []) where
      solves : IsSolving code p (tracked_start q) (start q) budget [] s m.given
      solves = laws.alone_is code p (tracked_start q) (start q) budget s m.given m.solves

      -- as many as the limit
      pub at-limit : n ≡ limit → Puts a b (EndsBy Stopped)
      at-limit e = (map line m.given, m.put, block.stops line code p q budget limit s m.given names good solves (m.count_is ∙ e))

      module _ (short : n < limit) where
        few : length m.given < limit
        few = let e = m.count_is in omega arith

        pub at-end : IsDone s → Puts a b (EndsBy NoMore)
        at-end done = (map line m.given, m.put, block.ends line code p q budget limit s m.given names good solves few done)

        pub at-spent : IsSpent code s → Puts a b (EndsBy Spent)
        at-spent spent = (map line m.given, m.put, block.spends line code p q budget limit s m.given names good solves few spent)

        -- an answer comes
        module _ (answering : IsAnswering s) (c : Option (List (List ℕ))) where
          one-size : (t : Trees) → length (m.given ++ t ∷ []) ≡ n + 1
          one-size t = let e = m.count_is in omega (arith, length-append m.given (t ∷ []))

          emitted : (t : Trees) → IsAnswerIn s t → IsSolvingBeside code p (tracked_start q) (start q) budget [] (past_answer s) [] (m.given ++ t ∷ [])
          emitted t is =
              laws.beside_is code p (tracked_start q) (start q) budget (past_answer s) (m.given ++ t ∷ [])
              (law.emits code p (tracked_start q) (start q) budget s m.given t answering is solves)

          -- it was put, and the section is past it
          pub one-more : Puts b c (IsLineAt line s) → Finding line code p q budget (n + 1) a c [] (past_answer s) []
          one-more u =
              let t = u.2.0 in record {
                given = m.given ++ t ∷ [];
                count_is = one-size t;
                solves = emitted t u.2.1;
                put = subst (Adds a c) (ap (λ ls. map line m.given ++ ls) u.2.2 ∙ sym (map-append line m.given (t ∷ []))) (adds_then a b c (map line m.given) u.0 m.put u.1);
              }

          -- putting it failed
          pub one-lost : (r : Result (Unit {0}) Halt) (r' : Result Answered Halt) (h : Halt) → r ≡ Err h → r' ≡ Err h → Prints b c (IsLineAt line s) r → Finishes a c Lines r'
          one-lost r r' h was same prints =
              let P : List (List ℕ) → Type 0 = λ ps. ps ≡ map line m.given in
              let E : Unit {0} → List (List ℕ) → Type 0 = λ _ put. IsLineAt line s put in
              let more : (ps qs : List (List ℕ)) → P ps → AnyOf E qs → PrefixOf (AnyOf Lines) (ps ++ qs) =
              λ ps qs x y.
              let t = y.1.0 in
              subst (PrefixOf (AnyOf Lines)) (map-append line m.given (t ∷ []) ∙ ap (λ ls. map line m.given ++ ls) (sym y.1.2) ∙ ap (λ ls. ls ++ qs) (sym x))
              (go-on [] (past_answer s) [] (m.given ++ t ∷ []) (emitted t y.1.1) (let z = one-size t in omega arith)) in
              let stops : (ps : List (List ℕ)) → P ps → FrontOf (AnyOf Lines) ps =
              λ ps x. subst (FrontOf (AnyOf Lines)) (sym x) (inr (go-on [] s [] m.given m.solves (let e = m.count_is in omega arith))) in
              passes_on P E Lines more stops a b c r r' h was same (map line m.given, m.put, refl) prints

-- the same, of the query's search
module _ (line : Trees → List ℕ) (code : Compiled) (p : Rules) (q : Query) (budget n : ℕ) (a b : Option (List (List ℕ))) where
  abbrev pub FindingBy : Post → Stack → Type 0
  FindingBy w s = Finding line code p q budget n a b (levels_in w s) (section_in s) (away_in w s)

  pub stepped : OutcomeLaw → (l m : Lead) → code_in l.query ≡ code → LeadGoes l m → FindingBy l.worker.post l.query → FindingBy m.worker.post m.query
  stepped law l m is go found =
      goes line code p q budget law n a b (levels_in l.worker.post l.query) (levels_in m.worker.post m.query) (section_in l.query) (section_in m.query) (away_in l.worker.post l.query) (away_in m.worker.post m.query)
      (subst (λ (k : Compiled). Carries k (levels_in l.worker.post l.query) (section_in l.query) (away_in l.worker.post l.query) (levels_in m.worker.post m.query) (section_in m.query) (away_in m.worker.post m.query)) is go.carries) found

  -- nothing else of it is open or away
  pub alone : (w : Post) (s : Stack) → s.outer.items ≡ [] → posted_in w s.frame ≡ [] → FindingBy w s → Finding line code p q budget n a b [] (section_in s) []
  alone w s e none m =
      subst (λ k. Finding line code p q budget n a b [] (section_in s) k) (ap aways_of none)
      (subst (λ o. Finding line code p q budget n a b o (section_in s) (away_in w s)) (ap (map (level_of w)) e) m)

  pub not-alone : (w : Post) (s : Stack) (v : Section) → s.outer.items ≡ [] → posted_in w s.frame ≡ [] → section_in s ≡ v → Finding line code p q budget n a b [] v [] → FindingBy w s
  not-alone w s v e none same m =
      subst (λ o. Finding line code p q budget n a b o (section_in s) (away_in w s)) (ap (map (level_of w)) (sym e))
      (subst (λ k. Finding line code p q budget n a b [] (section_in s) k) (ap aways_of (sym none)) (subst (λ u. Finding line code p q budget n a b [] u []) (sym same) m))

-- at an answer of the query's search
pub at-answer : (l : Lead) → IsLeading l → IsStep l.worker.post l.query Answer → (l.query.outer.items ≡ []) × (l.query.tends ≡ false) × (posted_in l.worker.post l.query.frame ≡ []) × IsAnswering (section_in l.query)
at-answer l leads d = (d.0, d.1, leads.good.none_out d.1, d.2)

-- the search of the query has ended
pub at-ending : (line : Trees → List ℕ) (code : Compiled) (p : Rules) (q : Query) (budget : ℕ) → SolvingLaw → OutcomeLaw → BlockLaw → IsUpToNames line → IsQuery q → (limit n : ℕ) (a b : Option (List (List ℕ))) (w : Post) (t : Stack) (e : Ending) → code_in t ≡ code
    → IsStep w t (step.Ended e) → n < limit → FindingBy line code p q budget n a b w t → Puts a b (λ put. IsBlock line p.program (start q) budget limit put (end_of (end_after e)))
at-ending line code p q budget law laws block names good limit n a b w t ending.Failed is d short m =
    at-end line code p q budget law laws block names good limit n a b (section_in t) (alone line code p q budget n a b w t d.0 d.1 m) short d.2
at-ending line code p q budget law laws block names good limit n a b w t ending.Spent is d short m =
    at-spent line code p q budget law laws block names good limit n a b (section_in t) (alone line code p q budget n a b w t d.0 d.1 m) short (subst (λ k. IsSpent k (section_in t)) is d.2)

-- ---- what the query's search is charged was counted

abbrev IsFor : Compiled → Rules → Query → ℕ → Post → Stack → List Trees → Type 0
IsFor code p q budget w s given = IsSolvingBeside code p (tracked_start q) (start q) budget (levels_in w s) (section_in s) (away_in w s) given

pub paid-on : (code : Compiled) (p : Rules) (q : Query) (budget : ℕ) (given : List Trees) (l m : Lead) → code_in l.query ≡ code → LeadGoes l m → IsFor code p q budget l.worker.post l.query given → Counts budget l.query → Counts budget m.query
paid-on code p q budget given l m is go h counts =
    go.pays budget p (tracked_start q) h.core.root
    (subst (λ k. OpenBeside k p (tracked_start q) (levels_in l.worker.post l.query) (section_in l.query) (away_in l.worker.post l.query) h.core.root) (sym is) h.opened) counts

small : (c n : ℕ) → c < 2 ^ 64 → capped c ≤ n → c ≤ n
small c n l h = search rules

-- at an answer
pub paid-at-limit : (w : Post) (s : Stack) (budget c : ℕ) → c < 2 ^ 64 → c ≡ spent_outside w s → Counts budget s → c ≤ s.share
paid-at-limit w s budget c few is counts = small c s.share few (first-paid w s budget c is counts)

both-paid : (a b n : ℕ) → capped a ≤ n → capped b ≤ n → capped (max a b) ≤ n
both-paid a b n h k = search rules

-- where it has ended
pub paid-at-ending : (code : Compiled) (p : Rules) (q : Query) (budget : ℕ) (given : List Trees) (w : Post) (s : Stack) (e : Ending) (c : ℕ) → c < 2 ^ 64 → code_in s ≡ code → IsStep w s (step.Ended e) → c ≡ charge_after e (spent_outside w s) budget
    → IsFor code p q budget w s given → Counts budget s → c ≤ s.share
paid-at-ending code p q budget given w s ending.Failed c few is d count h counts = paid-at-limit w s budget c few count counts
paid-at-ending code p q budget given w s ending.Spent c few is d count h counts =
    let tie = subst (λ k. OpenBeside k p (tracked_start q) (levels_in w s) (section_in s) (away_in w s) h.core.root) (sym is) h.opened in
    let made = first-paid w s budget (spent_outside w s) refl counts in
    let all = spent-paid w s budget p (tracked_start q) h.core.root d.0 d.2 tie counts in
    small c s.share few (subst (λ n. capped n ≤ s.share) (sym count) (both-paid (spent_outside w s) budget s.share made all))
