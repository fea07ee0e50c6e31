-- Which block the answers of a query's search are.
use Rattle.std.proofs.Common.{◌≡◌, ℕ, ◌+◌, ◌<◌, ◌≤◌, max, ◌⊎◌, inl, inr, Bool, true, false, List, [], ◌∷◌, ◌++◌, map, length, length-append, append-nil, Option, Some, None, refl, ap, ap₂, sym, ◌∙◌, subst, arith}
use Rattle.std.specs.List.{AllZip}
use Rattle.std.proofs.lemmas.Bool.{false≢true, cases_lt}
use Rattle.std.proofs.lemmas.List.{map-append, length-map}
use Rattle.ap_term.specs.declared.faults.Fault.{Fault}
use Rattle.ap_term.specs.Tree.{Trees}
use Rattle.ap_term.specs.Goals.{Program, Query}
use Rattle.ap_term.specs.Search.{State, Outcome, answer, fails_by, start, Met, cut, or_ended, meets, answers_to_depth, found_by, search}
use Rattle.ap_term.specs.Blocks.{IsPrefix, End, no_more, budget_spent, stopped, error, Begins, IsAllUpTo, IsEnd, IsBlock}
use Rattle.ap_term.specs.UpToNames.{SameUpToNames}
use Rattle.ap_term.specs.WellFormed.{IsQuery}
use Rattle.ap_term.proofs.SearchLaws.{search-Begins, budgets, blocks}
use Rattle.ap_term.proofs.Lists.{prefix-trans, first_is}
use Rattle.ap_laws.specs.Rejoining.{IsOnTheWay}
use Rattle.ap_laws.specs.Tasks.{left}
use Rattle.ap_laws.proofs.Conjunctions.{query}
use Rattle.ap_core.specs.declared.events.Kind.TheVariants as kinds
use Rattle.ap_core.specs.declared.tasks.Status.TheVariants.{GoingOn, NoBudget}
use Rattle.ap_core.specs.Tasks.{Task}
use Rattle.ap_core.specs.Conditions.{is_exhausted, spent_by}
use Rattle.ap_core.specs.Relation.{Rules, Core, has_spent, only_if, with_status, while_going, at_root}
use Rattle.ap_core.specs.Reached.{Happening, beginning, after_all, and_then, AreAnswers}
use Rattle.ap_core.specs.Erased.{erased}
use Rattle.ap_core.proofs.Reached.{reached_by_events}
use Rattle.ap_core.proofs.Erasing.{spent_by-left}
use Rattle.ap_tracked.specs.Tracked.{Tracked}
use Rattle.ap_graft.specs.Starts.{tracked_start}
use Rattle.ap_instr.specs.Code.{Compiled}
use Rattle.ap_tie.specs.Sections.{Section}
use Rattle.ap_tied.specs.Settling.{SettlingLaw, RestingLaw}
use Rattle.ap_tied.specs.Ties.{IsSearched}
use Rattle.ap_open.specs.Opened.{Outer, OpenTied, IsSolving, spent_in}
use Rattle.ap_open.specs.Away.{Away, Level, OpenBeside, IsSolvingBeside}
use Rattle.ap_open.specs.Solving.{IsUpToNames, IsCharged, BlockLaw}
use Rattle.ap_open.proofs.Ungrouped.{finds_all, ends_then}
use Rattle.ap_open.proofs.Harmless.{harmless}
use Rattle.ap_open.proofs.Opening.{after_more}
use Rattle.ap_open.proofs.Resting.{spent_tied, ended, spent}

-- ---- lists that begin others

prefix_map : {A B : Type 0} (f : A → B) (xs ys : List A) → IsPrefix xs ys → IsPrefix (map f xs) (map f ys)
prefix_map f xs ys h = (map f h.0, sym (map-append f xs h.0) ∙ ap (map f) h.1)

tail_same : {A : Type 0} {x y : A} {xs ys : List A} → x ∷ xs ≡ y ∷ ys → xs ≡ ys
tail_same h = cc

-- of two that begin one list the one begins the other
prefix_either : {A : Type 0} (xs ys zs : List A) → IsPrefix xs zs → IsPrefix ys zs → IsPrefix xs ys ⊎ IsPrefix ys xs
prefix_either [] ys zs h k = inl (ys, refl)
prefix_either (x ∷ xs) [] zs h k = inr (x ∷ xs, refl)
prefix_either (x ∷ xs) (y ∷ ys) [] h k = absurd (cc)
prefix_either (x ∷ xs) (y ∷ ys) (z ∷ zs) h k =
    let same : x ≡ y = first_is h.1 ∙ sym (first_is k.1) in
    go same (prefix_either xs ys zs (h.0, tail_same h.1) (k.0, tail_same k.1))
  where
    go : x ≡ y → IsPrefix xs ys ⊎ IsPrefix ys xs → IsPrefix (x ∷ xs) (y ∷ ys) ⊎ IsPrefix (y ∷ ys) (x ∷ xs)
    go e (inl p) = inl (p.0, ap₂ (λ a as'. a ∷ as') e p.1)
    go e (inr p) = inr (p.0, ap₂ (λ a as'. a ∷ as') (sym e) p.1)

-- ---- answers without a fault

cut_begins : (os rs : List Outcome) (ts : List Trees) → os ++ rs ≡ map answer ts → ((cut os).fault ≡ None) × IsPrefix (cut os).tuples ts
cut_begins [] rs ts h = (refl, (ts, refl))
cut_begins (o ∷ os) rs [] h = absurd (cc)
cut_begins (fails_by e ∷ os) rs (t ∷ ts) h = absurd (cc)
cut_begins (answer u ∷ os) rs (t ∷ ts) h =
    let r = cut_begins os rs ts (tail_same h) in
    let same : u ≡ t = let e : answer u ≡ answer t = first_is h in cc in
    (r.0, (r.1.0, ap₂ (λ a as'. a ∷ as') same r.1.1))

on_the_way : (f : Met) (ts : List Trees) → IsOnTheWay f (map answer ts) → ((found_by (cut f.outcomes) f.ended).ended ≡ false) × IsPrefix (found_by (cut f.outcomes) f.ended).answers ts
on_the_way f ts h = let c = cut_begins f.outcomes h.1.0 ts h.1.1 in (ap₂ or_ended c.0 h.0, c.1)

same_lines : (line : Trees → List ℕ) → IsUpToNames line → (ts us : List Trees) → AllZip SameUpToNames ts us → map line ts ≡ map line us
same_lines line same [] [] h = refl
same_lines line same [] (u ∷ us) h = absurd h
same_lines line same (t ∷ ts) [] h = absurd h
same_lines line same (t ∷ ts) (u ∷ us) h = ap₂ (λ a as'. a ∷ as') (same t u h.0) (same_lines line same ts us h.1)

-- ---- blocks by what they begin

module _ (line : Trees → List ℕ) (p : Program) (q : State) (budget limit : ℕ) where
  abbrev found : List (List ℕ)
  found = map line (search p budget (q ∷ [])).answers

  block_of_all : (f : Option Fault) (ls : List (List ℕ)) → Begins line p q ls → IsAllUpTo line p q f ls → IsPrefix found ls
  block_of_all f ls b all =
      let s = search-Begins line p budget q in
      let d : ℕ = max s.0 all.0 in
      let r = s.1 d (omega arith) in
      (r.0, r.1 ∙ sym (all.1 d (omega arith)).0)

  -- lines that begin the answers are behind a block's lines, or make one themselves
  longer : (ls gs : List (List ℕ)) (e : End) → IsBlock line p q budget limit ls e → Begins line p q gs → length gs ≤ limit → length ls < length gs → IsPrefix ls gs → (end : End) × IsBlock line p q budget limit gs end
  longer ls gs e b begins few more front = go e b.ends
    where
      found_in : IsPrefix found gs
      found_in = by b.found
        where
          by : IsPrefix found ls ⊎ (length ls ≡ limit) → IsPrefix found gs
          by (inl h) = prefix-trans found ls gs h front
          by (inr h) = absurd (omega arith)

      none_longer : (f : Option Fault) → IsAllUpTo line p q f ls → ⊥
      none_longer f all =
          let d : ℕ = max begins.0 all.0 in
          let r = begins.1 d (omega arith) in
          let same : gs ++ r.0 ≡ ls = r.1 ∙ sym (all.1 d (omega arith)).0 in
          let size : length gs + length r.0 ≡ length ls = sym (length-append gs r.0) ∙ ap length same in
          omega arith

      go : (e : End) → IsEnd line p q budget limit ls e → (end : End) × IsBlock line p q budget limit gs end
      go no_more h = absurd (none_longer None h.1)
      go (error f) h = absurd (none_longer (Some f) h.1)
      go stopped h = absurd (omega arith)
      go budget_spent h = by (cases_lt (length gs) limit)
        where
          by : (length gs < limit) ⊎ (limit ≤ length gs) → (end : End) × IsBlock line p q budget limit gs end
          by (inl lt) = (budget_spent, record { begins = begins; few = few; found = inl found_in; ends = (lt, h.1) })
          by (inr le) = let full : length gs ≡ limit = omega arith in (stopped, record { begins = begins; few = few; found = inr full; ends = full })

  pub front_of_block : (gs : List (List ℕ)) → Begins line p q gs → length gs ≤ limit → (rest : List (List ℕ)) × (end : End) × IsBlock line p q budget limit (gs ++ rest) end
  front_of_block gs begins few =
      let b = blocks line p q budget limit in
      let d : ℕ = max begins.0 b.1.1.begins.0 in
      go b.0 b.1.0 b.1.1 (prefix_either gs b.0 (map line (answers_to_depth p q d).tuples) (begins.1 d (omega arith)) (b.1.1.begins.1 d (omega arith)))
    where
      go : (ls : List (List ℕ)) (e : End) → IsBlock line p q budget limit ls e → IsPrefix gs ls ⊎ IsPrefix ls gs → (rest : List (List ℕ)) × (end : End) × IsBlock line p q budget limit (gs ++ rest) end
      go ls e b (inl h) = (h.0, e, subst (λ ks. IsBlock line p q budget limit ks e) (sym h.1) b)
      go ls e b (inr h) = by h.0 h.1
        where
          by : (more : List (List ℕ)) → ls ++ more ≡ gs → (rest : List (List ℕ)) × (end : End) × IsBlock line p q budget limit (gs ++ rest) end
          by [] same = ([], e, subst (λ ks. IsBlock line p q budget limit ks e) (sym (append-nil ls) ∙ same ∙ sym (append-nil gs)) b)
          by (x ∷ more) same =
              let size : length ls + length (x ∷ more) ≡ length gs = sym (length-append ls (x ∷ more)) ∙ ap length same in
              let r = longer ls gs e b begins few (omega arith) (x ∷ more, same) in
              ([], r.0, subst (λ ks. IsBlock line p q budget limit ks r.0) (sym (append-nil gs)) r.1)

-- ---- of the core

searched_first : (code : Compiled) (p : Rules) (o : Tracked) (outer : List Outer) (s : Section) (t : Task) → OpenTied code p o outer s t → IsSearched code p o
searched_first code p o [] s t h = h.0
searched_first code p o (a ∷ outer) s t h = h.0

searched_beside : (code : Compiled) (p : Rules) (o : Tracked) (levels : List Level) (s : Section) (aways : List Away) (t : Task) → OpenBeside code p o levels s aways t → IsSearched code p o
searched_beside code p o [] s aways t h = h.0
searched_beside code p o (a ∷ levels) s aways t h = h.0

-- what is known of a query's search, whatever its sections are
pub record HasGiven (code : Compiled) (p : Rules) (q : Query) (budget : ℕ) (given : List Trees) : Type 0 where
  pub events : List Happening
  pub core : Core
  pub led : after_all events (beginning p (start q) budget) ≡ Some core
  pub rules : core.rules ≡ p
  pub going : core.status ≡ GoingOn
  pub searched : IsSearched code p (tracked_start q)
  pub emitted : AllZip SameUpToNames given core.emitted

abbrev by_outer : (code : Compiled) (p : Rules) (q : Query) (budget : ℕ) (outer : List Outer) (s : Section) (given : List Trees) → IsSolving code p (tracked_start q) (start q) budget outer s given → HasGiven code p q budget given
by_outer code p q budget outer s given h =
    record { events = h.events; core = h.core; led = h.led; rules = h.rules; going = h.going; searched = searched_first code p (tracked_start q) outer s h.core.root h.opened; emitted = h.emitted }

abbrev by_levels : (code : Compiled) (p : Rules) (q : Query) (budget : ℕ) (levels : List Level) (s : Section) (aways : List Away) (given : List Trees)
    → IsSolvingBeside code p (tracked_start q) (start q) budget levels s aways given → HasGiven code p q budget given
by_levels code p q budget levels s aways given h =
    record { events = h.events; core = h.core; led = h.led; rules = h.rules; going = h.going; searched = searched_beside code p (tracked_start q) levels s aways h.core.root h.opened; emitted = h.emitted }

only_true : {A : Type 0} (b : Bool) (x : A) → b ≡ true → only_if b x ≡ Some x
only_true true x h = refl
only_true false x h = absurd (cc)

module _ (line : Trees → List ℕ) (code : Compiled) (p : Rules) (q : Query) (budget : ℕ) (given : List Trees) (same : IsUpToNames line) (is : IsQuery q) (h : HasGiven code p q budget given) where
  lines : map line h.core.emitted ≡ map line given
  lines = sym (same_lines line same given h.core.emitted h.emitted)

  reached : (events : List Happening) (c : Core) → after_all events (beginning p (start q) budget) ≡ Some c → AreAnswers p.program (start q) budget c c.emitted
  reached events c led = (reached_by_events p h.searched.program (λ g e b. harmless p.program g b) (start q) (query q is).0 (query q is).1 budget events c led).0

  pub begins : Begins line p.program (start q) (map line given)
  begins = subst (Begins line p.program (start q)) lines ((reached h.events h.core h.led).0 line)

  pub all : is_exhausted h.core.root ≡ true → IsAllUpTo line p.program (start q) None (map line given)
  all e = subst (IsAllUpTo line p.program (start q) None) lines ((reached h.events h.core h.led).1 e line)

  -- the core once its budget is spent
  over : has_spent p.loud h.core.root ≡ true → ((search p.program budget (start q ∷ [])).ended ≡ false) × IsPrefix (map line (search p.program budget (start q ∷ [])).answers) (map line given)
  over e =
      let d : Core = with_status h.core NoBudget in
      let loud : has_spent h.core.rules.loud h.core.root ≡ true = ap (λ r. has_spent r.loud h.core.root) h.rules ∙ e in
      let led : after_all (h.events ++ (kinds.Spend, []) ∷ []) (beginning p (start q) budget) ≡ Some d =
      after_more h.events ((kinds.Spend, []) ∷ []) (beginning p (start q) budget) h.core h.led
      ∙ ap (λ g. and_then (while_going g (at_root kinds.Spend h.core)) (after_all [])) h.going ∙ ap (λ o. and_then o (after_all [])) (only_true (has_spent h.core.rules.loud h.core.root) d loud)
      in
      let w = on_the_way (meets p.program budget (start q ∷ [])) h.core.emitted ((reached (h.events ++ (kinds.Spend, []) ∷ []) d led).3 refl) in
      (w.0, subst (IsPrefix (map line (search p.program budget (start q ∷ [])).answers)) lines (prefix_map line (search p.program budget (start q ∷ [])).answers h.core.emitted w.1))

  pub charged : (c : ℕ) → c ≤ spent_by h.core.root → IsCharged line p.program (start q) c (map line given)
  charged c few n lt =
      let r = reached_by_events p h.searched.program (λ g e b. harmless p.program g b) (start q) (query q is).0 (query q is).1 budget h.events h.core h.led in
      let below : n < left (erased h.core.root) = let k = spent_by-left h.core.root in omega arith in
      let w = on_the_way (meets p.program n (start q ∷ [])) h.core.emitted (r.1.1 n below) in
      (w.0, subst (IsPrefix (map line (search p.program n (start q ∷ [])).answers)) lines (prefix_map line (search p.program n (start q ∷ [])).answers h.core.emitted w.1))

  -- a search that hasn't ended within the budget hasn't with fewer calls, and found no more
  pub charged_all : has_spent p.loud h.core.root ≡ true → IsCharged line p.program (start q) budget (map line given)
  charged_all e n lt =
      let w = over e in
      let found : Program → ℕ → List (List ℕ) = λ r k. map line (search r k (start q ∷ [])).answers in
      let fewer : IsPrefix (search p.program n (start q ∷ [])).answers (search p.program budget (start q ∷ [])).answers = budgets.begins p.program (start q ∷ []) n budget (omega arith) in (
        go (search p.program n (start q ∷ [])).ended refl,
        prefix-trans (found p.program n) (found p.program budget) (map line given) (prefix_map line (search p.program n (start q ∷ [])).answers (search p.program budget (start q ∷ [])).answers fewer) w.1,
      )
    where
      go : (b : Bool) → (search p.program n (start q ∷ [])).ended ≡ b → b ≡ false
      go false k = refl
      go true k =
          let same : search p.program budget (start q ∷ []) ≡ search p.program n (start q ∷ []) = budgets.ended p.program (start q ∷ []) n budget (omega arith) k in
          absurd (false≢true (sym (over e).0 ∙ ap (λ f. f.ended) same ∙ k))

  module _ (limit : ℕ) where
    fewer : length given < limit → length (map line given) < limit
    fewer lt = let e = length-map given line in omega arith

    pub ends : length given < limit → is_exhausted h.core.root ≡ true → IsBlock line p.program (start q) budget limit (map line given) no_more
    ends lt e = record {
      begins = begins;
      few = let k = fewer lt in omega arith;
      found = inl (block_of_all line p.program (start q) budget limit None (map line given) begins (all e));
      ends = (fewer lt, all e);
    }

    pub spends : length given < limit → has_spent p.loud h.core.root ≡ true → IsBlock line p.program (start q) budget limit (map line given) budget_spent
    spends lt e = record { begins = begins; few = let k = fewer lt in omega arith; found = inl (over e).1; ends = (fewer lt, (over e).0) }

    pub stops : length given ≡ limit → IsBlock line p.program (start q) budget limit (map line given) stopped
    stops e =
        let size : length (map line given) ≡ limit = length-map given line ∙ e in
        record { begins = begins; few = omega arith; found = inr size; ends = size }

    pub goes_on : length given ≤ limit → (rest : List (List ℕ)) × (end : End) × IsBlock line p.program (start q) budget limit (map line given ++ rest) end
    goes_on le = front_of_block line p.program (start q) budget limit (map line given) begins (let e = length-map given line in omega arith)

pub block : RestingLaw → SettlingLaw → BlockLaw
block resting settling = record {
  ends = λ line code p q budget limit s given same is h lt done. ends line code p q budget given same is (by_outer code p q budget [] s given h) limit lt (ended resting code p (tracked_start q) s h.core.root done h.opened.1);
  spends = λ line code p q budget limit s given same is h lt done. spends line code p q budget given same is (by_outer code p q budget [] s given h) limit lt (spent resting settling code p (tracked_start q) s h.core.root done h.opened.1);
  stops = λ line code p q budget limit s given same is h e. stops line code p q budget given same is (by_outer code p q budget [] s given h) limit e;
  goes_on = λ line code p q budget limit outer s given same is h le. goes_on line code p q budget given same is (by_outer code p q budget outer s given h) limit le;
  goes_on_beside = λ line code p q budget limit levels s aways given same is h le. goes_on line code p q budget given same is (by_levels code p q budget levels s aways given h) limit le;
  charges = λ line code p q budget s given same is h. charged line code p q budget given same is (by_outer code p q budget [] s given h) (spent_in s) (let e = spent_tied code p (tracked_start q) s h.core.root h.opened.1 in omega arith);
  charges_all = λ line code p q budget s given same is h done. charged_all line code p q budget given same is (by_outer code p q budget [] s given h) (spent resting settling code p (tracked_start q) s h.core.root done h.opened.1);
  finds_all = λ line code p q budget s given same plain calls h.
      let lines : map line h.core.emitted ≡ map line given = sym (same_lines line same given h.core.emitted h.emitted) in
      let found : ℕ → List Trees = λ n. (search p.program n (start q ∷ [])).answers in
      subst (λ n. IsPrefix (map line given) (map line (found n))) (spent_tied code p (tracked_start q) s h.core.root h.opened.1)
      (subst (λ ls. IsPrefix ls (map line (found (spent_by h.core.root)))) lines
      (prefix_map line h.core.emitted (found (spent_by h.core.root)) (finds_all p (start q) plain calls budget h.events h.core h.led)));
  ends_then = λ code p q budget s given plain calls h done.
      subst (λ n. (search p.program n (start q ∷ [])).ended ≡ true) (spent_tied code p (tracked_start q) s h.core.root h.opened.1)
      (ends_then p (start q) plain calls budget h.events h.core h.led (ended resting code p (tracked_start q) s h.core.root done h.opened.1));
}
