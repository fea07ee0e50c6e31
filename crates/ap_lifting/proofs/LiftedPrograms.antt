-- The goals and clauses of a lifted program stand for the bodies that were written.
use Rattle.ap_lifting.specs.Rule.{well_formed_if}
use Rattle.std.proofs.Common.{◌≡◌, ℕ, ◌+◌, ◌<◌, ◌≤◌, ◌⊎◌, inl, inr, Bool, true, false, if◌then◌else◌, List, [], ◌∷◌, ◌++◌, refl, ap, sym, ◌∙◌, subst, append-nil, arith, Option, Some, None}
use Rattle.std.specs.List.{AllByRecursion, list_all}
use Rattle.std.proofs.lemmas.Bool.{false≢true, and_parts}
use Rattle.ap_term.specs.declared.fixed.TheConstants.{COUNT}
use Rattle.ap_term.specs.declared.clauses.Check.{Check}
use Rattle.ap_term.specs.Tree.{Tree, Trees, var, int, atom, node, none, more, append_trees}
use Rattle.ap_term.specs.Substitution.{instance_all}
use Rattle.ap_term.specs.Goals.{Part, Clause, Program, plain_goals}
use Rattle.ap_term.specs.WellFormed.{callable, numbered}
use Rattle.ap_term.specs.Search.{variables}
use Rattle.ap_term.proofs.Copies.{instance_var, instance_all_var}
use Rattle.ap_term.proofs.Solutions.{same_var}
use Rattle.ap_term.proofs.GoalLists.{plain_goals-append}
use Rattle.ap_term.proofs.Zips.{AllByRecursion-append, AllByRecursion-weaken}
use Rattle.ap_lifting.specs.Body.{Body, goal, conjunction, disjunction, parallel, conditional, numbered_condition, well_formed}
use Rattle.ap_lifting.specs.Lifted.{Lifted, stays, number_inside, raised_unless, lifted, lifted_goal, lifted_clause, checks_of, lifted_if}
use Rattle.ap_lifting.specs.LiftingLaws.{is_named, clauses_named, Avoids, AvoidsIf}
use Rattle.ap_lifting.specs.Shown.{Operand, Shows, ShowsIf}
use Rattle.ap_lifting.proofs.Measured.{lifted_measures}
use Rattle.ap_lifting.proofs.LiftedCalls.{is_named-applied}

pub clauses_named-append : (a : ℕ) (cs ds : Program) → clauses_named a (cs ++ ds) ≡ clauses_named a cs ++ clauses_named a ds
clauses_named-append a [] ds = refl
clauses_named-append a (c ∷ cs) ds = go (is_named a c.head) (clauses_named-append a cs ds)
  where
    go : (v : Bool) → clauses_named a (cs ++ ds) ≡ clauses_named a cs ++ clauses_named a ds
        → (if v then c ∷ clauses_named a (cs ++ ds) else clauses_named a (cs ++ ds)) ≡ (if v then c ∷ clauses_named a cs else clauses_named a cs) ++ clauses_named a ds
    go true e = ap (λ l. c ∷ l) e
    go false e = e

pub none_named : (a : ℕ) (cs : Program) → AllByRecursion (λ c. is_named a c.head ≡ false) cs → clauses_named a cs ≡ []
none_named a [] h = refl
none_named a (c ∷ cs) h = ap (λ v. if v then c ∷ clauses_named a cs else clauses_named a cs) h.0 ∙ none_named a cs h.1

-- a head has one name
pub another_name : (a b : ℕ) (t : Tree) → is_named b t ≡ true → (b ≡ a → ⊥) → is_named a t ≡ false
another_name a b t h d = go (is_named a t) refl
  where
    one_name : (t : Tree) → is_named b t ≡ true → is_named a t ≡ true → b ≡ a
    one_name (var x) h k = absurd (false≢true h)
    one_name (int z) h k = absurd (false≢true h)
    one_name (atom c) h k = sym (same_var c b h) ∙ same_var c a k
    one_name (node c ts) h k = sym (same_var c b h) ∙ same_var c a k

    go : (v : Bool) → is_named a t ≡ v → v ≡ false
    go false e = refl
    go true e = absurd (d (one_name t h e))

module _ (names : ℕ → ℕ) where
  -- a clause of a predicate with a number from `lo` on and below `hi`
  abbrev pub InNumbers : ℕ → ℕ → Clause → Type 0
  InNumbers lo hi c = (i : ℕ) × (lo ≤ i) × (i < hi) × (is_named (names i) c.head ≡ true)

  pub wider : (lo hi l h : ℕ) → l ≤ lo → hi ≤ h → (cs : Program) → AllByRecursion (InNumbers lo hi) cs → AllByRecursion (InNumbers l h) cs
  wider lo hi l h p q cs k = AllByRecursion-weaken (InNumbers lo hi) (InNumbers l h) (λ c m. (m.0, omega (arith, m.1), omega (arith, m.2), m.3)) cs k

  module _ (vars line : ℕ) where
    here : (n m : ℕ) (ps : List Part) → n < m → InNumbers n m (lifted_clause names vars line n ps)
    here n m ps l = (n, omega arith, l, subst (λ t. is_named (names n) t ≡ true) (instance_var (lifted_goal names vars line n)) (is_named-applied (names n) (variables vars) (λ x. var x)))

    -- lifting takes numbers from n on, and leaves off at `next`
    pub rises : (b : Body) (cs : List Check) (n : ℕ) → n ≤ (lifted names vars line b cs n).next
    rises b cs n = omega (arith, (lifted_measures names vars line b cs n).predicates)

    pub unless_numbers : (s : Bool) (n : ℕ) (x : Lifted) → number_inside s n ≤ x.next → AllByRecursion (InNumbers (number_inside s n) x.next) x.clauses
        → (n ≤ (raised_unless names vars line s n x).next) × AllByRecursion (InNumbers n (raised_unless names vars line s n x).next) (raised_unless names vars line s n x).clauses
    unless_numbers true n x l h = (l, h)
    unless_numbers false n x l h = (omega arith, (here n x.next x.parts (omega arith), wider (n + 1) x.next n x.next (omega arith) (omega arith) x.clauses h))

    pub in_turn_numbers : (n m o : ℕ) (cs ds : Program) → n ≤ m → m ≤ o → AllByRecursion (InNumbers n m) cs → AllByRecursion (InNumbers m o) ds → AllByRecursion (InNumbers n o) (cs ++ ds)
    in_turn_numbers n m o cs ds p q h k = AllByRecursion-append (InNumbers n o) cs ds (wider n m n o (omega arith) q cs h) (wider m o n o p (omega arith) ds k)

    pub numbers : (b : Body) (cs : List Check) (n : ℕ) → AllByRecursion (InNumbers n (lifted names vars line b cs n).next) (lifted names vars line b cs n).clauses
    numbers (goal t) cs n = tt
    numbers (conjunction a b) cs n =
        let x = lifted names vars line a [] n in
        let y = lifted names vars line b [] x.next in
        in_turn_numbers n x.next y.next x.clauses y.clauses (rises a [] n) (rises b [] x.next) (numbers a [] n) (numbers b [] x.next)
    numbers (disjunction a b) cs n =
        let x = lifted names vars line a [] (n + 1) in
        let y = lifted names vars line b [] x.next in
        let p : n + 1 ≤ x.next = rises a [] (n + 1) in
        let q : x.next ≤ y.next = rises b [] x.next in (
          here n y.next x.parts (omega arith),
          (here n y.next y.parts (omega arith), wider (n + 1) y.next n y.next (omega arith) (omega arith) (x.clauses ++ y.clauses) (in_turn_numbers (n + 1) x.next y.next x.clauses y.clauses p q (numbers a [] (n + 1)) (numbers b [] x.next))),
        )
    numbers (parallel a b) cs n =
        let s = stays false a in
        let x = lifted names vars line a [] (number_inside s n) in
        let first = unless_numbers s n x (rises a [] (number_inside s n)) (numbers a [] (number_inside s n)) in
        let u = raised_unless names vars line s n x in
        let r = stays true b in
        let y = lifted names vars line b [] (number_inside r u.next) in
        let last = unless_numbers r u.next y (rises b [] (number_inside r u.next)) (numbers b [] (number_inside r u.next)) in
        let v = raised_unless names vars line r u.next y in
        in_turn_numbers n u.next v.next u.clauses v.clauses first.0 last.0 first.1 last.1
    numbers (conditional ds b) cs n = numbers b (checks_of ds) n

    pub numbers_if : (b : Option Body) (n : ℕ) → AllByRecursion (InNumbers n (lifted_if names vars line b n).next) (lifted_if names vars line b n).clauses
    numbers_if None n = tt
    numbers_if (Some b) n = numbers b [] n

-- ---- a body

module _ (names : ℕ → ℕ) (count : ℕ) (apart : (i j : ℕ) → i < count → j < count → names i ≡ names j → i ≡ j) where
  -- clauses of other predicates
  others : (i lo hi : ℕ) → i < count → hi ≤ count → (i < lo) ⊎ (hi ≤ i) → (cs : Program) → AllByRecursion (InNumbers names lo hi) cs → clauses_named (names i) cs ≡ []
  others i lo hi l m d cs h =
      none_named (names i) cs
      (AllByRecursion-weaken (InNumbers names lo hi) (λ c. is_named (names i) c.head ≡ false)
      (λ c k. another_name (names i) (names k.0) c.head k.3 (λ e. differs k.0 k.1 k.2 (apart k.0 i (omega (arith, k.2)) l e) d)) cs h)
    where
      differs : (j : ℕ) → lo ≤ j → j < hi → j ≡ i → (i < lo) ⊎ (hi ≤ i) → ⊥
      differs j p q e (inl k) = omega arith
      differs j p q e (inr k) = omega arith

  module _ (p : Program) (fixed : (i : ℕ) → i < count → COUNT ≤ names i) where
    -- of these predicates the program has these clauses
    abbrev pub Has : ℕ → ℕ → Program → Type 0
    Has lo hi cs = (i : ℕ) → lo ≤ i → i < hi → clauses_named (names i) p ≡ clauses_named (names i) cs

    pub has_first : (lo mid hi : ℕ) (cs ds : Program) → hi ≤ count → mid ≤ hi → AllByRecursion (InNumbers names mid hi) ds → Has lo hi (cs ++ ds) → Has lo mid cs
    has_first lo mid hi cs ds m q k h i a b =
        h i a (omega arith) ∙ clauses_named-append (names i) cs ds ∙ ap (λ l. clauses_named (names i) cs ++ l) (others i mid hi (omega arith) m (inl b) ds k) ∙ append-nil (clauses_named (names i) cs)

    pub has_second : (lo mid hi : ℕ) (cs ds : Program) → hi ≤ count → lo ≤ mid → AllByRecursion (InNumbers names lo mid) cs → Has lo hi (cs ++ ds) → Has mid hi ds
    has_second lo mid hi cs ds m q k h i a b =
        h i (omega arith) b ∙ clauses_named-append (names i) cs ds ∙ ap (λ l. l ++ clauses_named (names i) ds) (others i lo mid (omega arith) (omega arith) (inr a) cs k)

    module _ (vars line : ℕ) where
      own_head : (n : ℕ) → is_named (names n) (lifted_goal names vars line n) ≡ true
      own_head n = subst (λ t. is_named (names n) t ≡ true) (instance_var (lifted_goal names vars line n)) (is_named-applied (names n) (variables vars) (λ x. var x))

      other_head : (n i : ℕ) → n < count → i < count → n + 1 ≤ i → is_named (names i) (lifted_goal names vars line n) ≡ false
      other_head n i l m k =
          another_name (names i) (names n) (lifted_goal names vars line n) (own_head n) (λ e. let same : n ≡ i = apart n i l m e in absurd (omega arith))

      own_clause : (n : ℕ) (ps : List Part) (cs : Program) → clauses_named (names n) (lifted_clause names vars line n ps ∷ cs) ≡ lifted_clause names vars line n ps ∷ clauses_named (names n) cs
      own_clause n ps cs = ap (λ v. if v then lifted_clause names vars line n ps ∷ clauses_named (names n) cs else clauses_named (names n) cs) (own_head n)

      other_clause : (n i : ℕ) (ps : List Part) (cs : Program) → n < count → i < count → n + 1 ≤ i → clauses_named (names i) (lifted_clause names vars line n ps ∷ cs) ≡ clauses_named (names i) cs
      other_clause n i ps cs l m k = ap (λ v. if v then lifted_clause names vars line n ps ∷ clauses_named (names i) cs else clauses_named (names i) cs) (other_head n i l m k)

      -- behind the clause of the first predicate
      has_rest : (n hi : ℕ) (ps : List Part) (cs : Program) → hi ≤ count → Has n hi (lifted_clause names vars line n ps ∷ cs) → Has (n + 1) hi cs
      has_rest n hi ps cs m h i a b = h i (omega arith) b ∙ other_clause n i ps cs (omega arith) (omega arith) a

      has_rest_two : (n hi : ℕ) (ps qs : List Part) (cs : Program) → hi ≤ count → Has n hi (lifted_clause names vars line n ps ∷ lifted_clause names vars line n qs ∷ cs) → Has (n + 1) hi cs
      has_rest_two n hi ps qs cs m h i a b =
          h i (omega arith) b ∙ other_clause n i ps (lifted_clause names vars line n qs ∷ cs) (omega arith) (omega arith) a ∙ other_clause n i qs cs (omega arith) (omega arith) a

      as_itself : (b : Body) (ts : Trees) → Shows names count p b ts → Shows names count p b (instance_all (λ x. var x) ts)
      as_itself b ts h = subst (Shows names count p b) (sym (instance_all_var ts)) h

      operand_shows : (s : Bool) (b : Body) (n : ℕ) (x : Lifted) → number_inside s n ≤ x.next → (raised_unless names vars line s n x).next ≤ count
          → AllByRecursion (InNumbers names (number_inside s n) x.next) x.clauses → Has n (raised_unless names vars line s n x).next (raised_unless names vars line s n x).clauses
          → (Has (number_inside s n) x.next x.clauses → Shows names count p b (plain_goals x.parts)) → Operand names count p s (Shows names count p b) (plain_goals (raised_unless names vars line s n x).parts)
      operand_shows true b n x l m k h e = e h
      operand_shows false b n x l m k h e = record {
        vars = vars;
        line = line;
        number = n;
        fixed = fixed n (omega arith);
        args = λ y. var y;
        body = x.parts;
        is = sym (instance_var (lifted_goal names vars line n));
        clauses =
            h n (omega arith) (omega arith) ∙ own_clause n x.parts x.clauses
            ∙ ap (λ l. lifted_clause names vars line n x.parts ∷ l) (others n (n + 1) x.next (omega arith) (omega arith) (inl (omega arith)) x.clauses k);
        inside = as_itself b (plain_goals x.parts) (e (has_rest n x.next x.parts x.clauses (omega arith) h));
      }

      append_trees-none : (ts : Trees) → append_trees ts none ≡ ts
      append_trees-none none = refl
      append_trees-none (more t ts) = ap (more t) (append_trees-none ts)

      -- what a body was lifted to stands for it
      pub shows : (b : Body) (cs : List Check) (n : ℕ) → well_formed vars b ≡ true → ((i : ℕ) → i < count → Avoids (names i) b) → (lifted names vars line b cs n).next ≤ count
          → Has n (lifted names vars line b cs n).next (lifted names vars line b cs n).clauses → Shows names count p b (plain_goals (lifted names vars line b cs n).parts)
      shows (goal t) cs n good free m h = (refl, record { callable = (and_parts (callable t) (numbered vars t) good).0; other = free })
      shows (conjunction a b) cs n good free m h =
          let x = lifted names vars line a [] n in
          let y = lifted names vars line b [] x.next in
          let p : n ≤ x.next = rises names vars line a [] n in
          let q : x.next ≤ y.next = rises names vars line b [] x.next in (
            plain_goals x.parts,
            plain_goals y.parts,
            plain_goals-append x.parts y.parts,
            shows a [] n (and_parts (well_formed vars a) (well_formed vars b) good).0 (λ i l. (free i l).0) (omega arith)
                (has_first n x.next y.next x.clauses y.clauses m q (numbers names vars line b [] x.next) h),
            shows b [] x.next (and_parts (well_formed vars a) (well_formed vars b) good).1 (λ i l. (free i l).1) m
                (has_second n x.next y.next x.clauses y.clauses m p (numbers names vars line a [] n) h),
          )
      shows (disjunction a b) cs n good free m h =
          let x = lifted names vars line a [] (n + 1) in
          let y = lifted names vars line b [] x.next in
          let p : n + 1 ≤ x.next = rises names vars line a [] (n + 1) in
          let q : x.next ≤ y.next = rises names vars line b [] x.next in
          let rest : Has (n + 1) y.next (x.clauses ++ y.clauses) = has_rest_two n y.next x.parts y.parts (x.clauses ++ y.clauses) m h in
          record {
            vars = vars;
            line = line;
            number = n;
            fixed = fixed n (omega arith);
            args = λ z. var z;
            first = x.parts;
            second = y.parts;
            is = sym (instance_var (lifted_goal names vars line n));
            clauses =
                h n (omega arith) (omega arith) ∙ own_clause n x.parts (lifted_clause names vars line n y.parts ∷ (x.clauses ++ y.clauses))
                ∙ ap (λ l. lifted_clause names vars line n x.parts ∷ l)
                (own_clause n y.parts (x.clauses ++ y.clauses)
                ∙ ap (λ l. lifted_clause names vars line n y.parts ∷ l)
                (others n (n + 1) y.next (omega arith) m (inl (omega arith)) (x.clauses ++ y.clauses)
                (in_turn_numbers names vars line (n + 1) x.next y.next x.clauses y.clauses p q (numbers names vars line a [] (n + 1)) (numbers names vars line b [] x.next))));
            in_first =
                as_itself a (plain_goals x.parts)
                (shows a [] (n + 1) (and_parts (well_formed vars a) (well_formed vars b) good).0 (λ i l. (free i l).0) (omega arith)
                (has_first (n + 1) x.next y.next x.clauses y.clauses m q (numbers names vars line b [] x.next) rest));
            in_second =
                as_itself b (plain_goals y.parts)
                (shows b [] x.next (and_parts (well_formed vars a) (well_formed vars b) good).1 (λ i l. (free i l).1) m
                (has_second (n + 1) x.next y.next x.clauses y.clauses m p (numbers names vars line a [] (n + 1)) rest));
          }
      shows (parallel a b) cs n good free m h =
          let s = stays false a in
          let x = lifted names vars line a [] (number_inside s n) in
          let first = unless_numbers names vars line s n x (rises names vars line a [] (number_inside s n)) (numbers names vars line a [] (number_inside s n)) in
          let u = raised_unless names vars line s n x in
          let r = stays true b in
          let y = lifted names vars line b [] (number_inside r u.next) in
          let last = unless_numbers names vars line r u.next y (rises names vars line b [] (number_inside r u.next)) (numbers names vars line b [] (number_inside r u.next)) in
          let v = raised_unless names vars line r u.next y in
          let low : u.next ≤ v.next = last.0 in
          let enough : u.next ≤ count = omega arith in (
            plain_goals u.parts,
            plain_goals v.parts,
            append_trees-none (append_trees (plain_goals u.parts) (plain_goals v.parts)),
            operand_shows s a n x (rises names vars line a [] (number_inside s n)) enough (numbers names vars line a [] (number_inside s n)) (has_first n u.next v.next u.clauses v.clauses m low last.1 h)
                (λ k. shows a [] (number_inside s n) (and_parts (well_formed vars a) (well_formed vars b) good).0 (λ i l. (free i l).0) (inside_count s n x enough) k),
            operand_shows r b u.next y (rises names vars line b [] (number_inside r u.next)) m (numbers names vars line b [] (number_inside r u.next)) (has_second n u.next v.next u.clauses v.clauses m first.0 first.1 h)
                (λ k. shows b [] (number_inside r u.next) (and_parts (well_formed vars a) (well_formed vars b) good).1 (λ i l. (free i l).1) (inside_count r u.next y m) k),
          )
        where
          inside_count : (s : Bool) (n : ℕ) (x : Lifted) → (raised_unless names vars line s n x).next ≤ count → x.next ≤ count
          inside_count true n x l = l
          inside_count false n x l = l
      shows (conditional ds b) cs n good free m h = shows b (checks_of ds) n (and_parts (list_all (numbered_condition vars) ds) (well_formed vars b) good).1 free m h

      pub shows_if : (b : Option Body) (n : ℕ) → well_formed_if vars b ≡ true → ((i : ℕ) → i < count → AvoidsIf (names i) b) → (lifted_if names vars line b n).next ≤ count
          → Has n (lifted_if names vars line b n).next (lifted_if names vars line b n).clauses → ShowsIf names count p b (plain_goals (lifted_if names vars line b n).parts)
      shows_if None n good free m h = refl
      shows_if (Some b) n good free m h = shows b [] n good free m h
