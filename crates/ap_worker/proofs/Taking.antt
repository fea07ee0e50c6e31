-- The searches of goals that were taken, one after another.
use Rattle.std.proofs.Common.{◌≡◌, ℕ, suc, ◌≤◌, ◌<◌, List, [], ◌∷◌, ◌++◌, length, Some, None, refl, ap, ap₂, sym, ◌∙◌, subst, arith}
use Rattle.std.specs.Prelude.{Option}
use Rattle.ap_tracked.specs.Forks.{alone}
use Rattle.ap_open.specs.Away.{OpenBeside, IsSearch, Carries, FitsAs}
use Rattle.ap_open.specs.Sharing.{OutcomeLaw}
use Rattle.ap_post.specs.declared.job.Job.{Job}
use Rattle.ap_post.specs.declared.outcome.Outcome.{Outcome}
use Rattle.ap_post.specs.declared.post.Post.{Post}
use Rattle.ap_post.specs.Jobs.{outcome_of, IsReadyEnding, IsOf}
use Rattle.ap_post.specs.Posts.{SameBelow}
use Rattle.ap_stack.specs.declared.stack.Stack.{Stack}
use Rattle.ap_stack.specs.Outcomes.{IsOutcome}
use Rattle.ap_stack.specs.Stacks.{levels_in, section_in, away_in, Goes}
use Rattle.ap_stack.specs.Levels.{aways_of}
use Rattle.ap_stack.proofs.Elsewhere.{rise-at-most, levels-elsewhere, good-elsewhere}
use Rattle.ap_worker.specs.declared.taken.Taken.{Taken}
use Rattle.ap_worker.specs.Workers.{IsTaken, IsTakenAs, AreTaken}
use Rattle.ap_term.proofs.Lists.{nil-push}

-- ---- one search

pub as-first : (p : Post) (s : Stack) (j : Option Job) → IsTakenAs p s j → s.first ≤ s.frame
as-first p s None h = absurd h
as-first p s (Some j) h = rise-at-most s.outer.items s.first s.frame h.good.rise

pub as-below : (p : Post) (s : Stack) (j : Option Job) → IsTakenAs p s j → s.frame < p.next
as-below p s None h = absurd h
as-below p s (Some j) h = h.good.below

-- where goals of frames with larger numbers alone are touched
pub as-elsewhere : (p q : Post) (s : Stack) (j : Option Job) → SameBelow (suc s.frame) p q → p.next ≤ q.next → IsTakenAs p s j → IsTakenAs q s j
as-elsewhere p q s None same next h = absurd h
as-elsewhere p q s (Some j) same next h = record {
  good = good-elsewhere p q s (suc s.frame) h.good (omega arith) same next;
  code = h.code;
  search = λ r g n is searched.
      subst (λ ls. IsSearch j.sound.now r (alone g n) j.rest ls (section_in s) (away_in q s)) (sym (levels-elsewhere p q s (suc s.frame) h.good (omega arith) same))
      (subst (λ out. IsSearch j.sound.now r (alone g n) j.rest (levels_in p s) (section_in s) out) (sym (ap aways_of (same s.frame (omega arith)))) (h.search r g n is searched));
  counts = h.counts;
}

-- where it goes on
pub as-gone : OutcomeLaw → (p q : Post) (s t : Stack) (j : Option Job) → Goes p s q t → IsTakenAs p s j → IsTakenAs q t j
as-gone law p q s t None goes h = absurd h
as-gone law p q s t (Some j) goes h = record {
  good = goes.good;
  code = goes.sound ∙ h.code;
  search = λ r g n is searched.
      law.searches j.sound.now r (alone g n) j.rest (levels_in p s) (levels_in q t) (section_in s) (section_in t) (away_in p s) (away_in q t)
      (subst (λ code. Carries code (levels_in p s) (section_in s) (away_in p s) (levels_in q t) (section_in t) (away_in q t)) h.code goes.carries) (h.search r g n is searched);
  counts = λ r g n is searched.
      let found = h.search r g n is searched in
      goes.pays j.rest r (alone g n) found.task (subst (λ code. OpenBeside code r (alone g n) (levels_in p s) (section_in s) (away_in p s) found.task) (sym h.code) found.opened) (h.counts r g n is searched);
}

-- what it comes to is an outcome of its job
pub as-fits : (p : Post) (s : Stack) (j : Job) (o : Outcome) → IsOutcome p s o → IsTaken p s j → IsOf j o
as-fits p s j o out h = (
  (λ r g n is searched.
      subst (λ code. FitsAs code j.rest r g n (outcome_of o.ending)) h.code
      (out.fits r g n j.rest (subst (λ code. IsSearch code r (alone g n) j.rest (levels_in p s) (section_in s) (away_in p s)) (sym h.code) (h.search r g n is searched)))),
  subst (λ code. IsReadyEnding code o.ending) h.code out.ready,
  (λ r g n is searched.
      out.paid r g n j.rest (subst (λ code. IsSearch code r (alone g n) j.rest (levels_in p s) (section_in s) (away_in p s)) (sym h.code) (h.search r g n is searched)) (h.counts r g n is searched)),
)

-- ---- rows

-- two rows with one more at the end of each
pub same-last : {X : Type 0} (xs ys : List X) (x y : X) → xs ++ x ∷ [] ≡ ys ++ y ∷ [] → (xs ≡ ys) × (x ≡ y)
same-last [] [] x y e = (refl, (cc))
same-last [] (b ∷ ys) x y e = let n : [] ≡ ys ++ y ∷ [] = cc in absurd (nil-push ys y n)
same-last (a ∷ xs) [] x y e = let n : [] ≡ xs ++ x ∷ [] = cc in absurd (nil-push xs x n)
same-last (a ∷ xs) (b ∷ ys) x y e =
    let tails : xs ++ x ∷ [] ≡ ys ++ y ∷ [] = cc in
    let heads : a ≡ b = cc in
    let r = same-last xs ys x y tails in
    (ap₂ (λ h t. h ∷ t) heads r.0, r.1)

-- ---- all searches

pub taken-le : (p : Post) (lo : ℕ) (ts : List Taken) (js : List (Option Job)) (hi : ℕ) → AreTaken p lo ts js hi → lo ≤ hi
taken-le p lo [] [] hi h = h
taken-le p lo [] (j ∷ js) hi h = absurd h
taken-le p lo (t ∷ ts) [] hi h = absurd h
taken-le p lo (t ∷ ts) (j ∷ js) hi h =
    let above = taken-le p (suc t.stack.frame) ts js hi h.2 in
    let within = as-first p t.stack j h.1 in
    let below = h.0 in
    omega arith

pub taken-length : (p : Post) (lo : ℕ) (ts : List Taken) (js : List (Option Job)) (hi : ℕ) → AreTaken p lo ts js hi → length ts ≡ length js
taken-length p lo [] [] hi h = refl
taken-length p lo [] (j ∷ js) hi h = absurd h
taken-length p lo (t ∷ ts) [] hi h = absurd h
taken-length p lo (t ∷ ts) (j ∷ js) hi h = ap suc (taken-length p (suc t.stack.frame) ts js hi h.2)

-- with a larger bound
pub taken-below : (p : Post) (lo : ℕ) (ts : List Taken) (js : List (Option Job)) (m hi : ℕ) → m ≤ hi → AreTaken p lo ts js m → AreTaken p lo ts js hi
taken-below p lo [] [] m hi le h = omega (arith, h)
taken-below p lo [] (j ∷ js) m hi le h = absurd h
taken-below p lo (t ∷ ts) [] m hi le h = absurd h
taken-below p lo (t ∷ ts) (j ∷ js) m hi le h = (h.0, h.1, taken-below p (suc t.stack.frame) ts js m hi le h.2)

-- where goals of frames above the bound alone are touched
pub taken-elsewhere : (p q : Post) (lo : ℕ) (ts : List Taken) (js : List (Option Job)) (hi : ℕ) → SameBelow hi p q → p.next ≤ q.next → AreTaken p lo ts js hi → AreTaken q lo ts js hi
taken-elsewhere p q lo [] [] hi same next h = h
taken-elsewhere p q lo [] (j ∷ js) hi same next h = absurd h
taken-elsewhere p q lo (t ∷ ts) [] hi same next h = absurd h
taken-elsewhere p q lo (t ∷ ts) (j ∷ js) hi same next h =
    let above = taken-le p (suc t.stack.frame) ts js hi h.2 in
    (h.0, as-elsewhere p q t.stack j (λ g less. same g (omega arith)) next h.1, taken-elsewhere p q (suc t.stack.frame) ts js hi same next h.2)

-- the last one
pub record IsSplit (p : Post) (lo : ℕ) (ts : List Taken) (t : Taken) (js : List (Option Job)) (hi : ℕ) : Type 0 where
  pub jobs : List (Option Job)
  pub last : Option Job
  pub held : js ≡ jobs ++ last ∷ []
  pub before : AreTaken p lo ts jobs t.stack.first
  pub search : IsTakenAs p t.stack last
  pub above : suc t.stack.frame ≤ hi

pub taken-split : (p : Post) (lo : ℕ) (ts : List Taken) (t : Taken) (js : List (Option Job)) (hi : ℕ) → AreTaken p lo (ts ++ t ∷ []) js hi → IsSplit p lo ts t js hi
taken-split p lo [] t [] hi h = absurd h
taken-split p lo [] t (j ∷ []) hi h = record { jobs = []; last = j; held = refl; before = h.0; search = h.1; above = h.2 }
taken-split p lo [] t (j ∷ k ∷ js) hi h = absurd h.2
taken-split p lo (u ∷ ts) t [] hi h = absurd h
taken-split p lo (u ∷ ts) t (j ∷ js) hi h =
    let r = taken-split p (suc u.stack.frame) ts t js hi h.2 in record {
      jobs = j ∷ r.jobs;
      last = r.last;
      held = ap (λ xs. j ∷ xs) r.held;
      before = (h.0, h.1, r.before);
      search = r.search;
      above = r.above;
    }

-- one more
pub taken-joined : (p : Post) (lo : ℕ) (ts : List Taken) (t : Taken) (js : List (Option Job)) (j : Option Job) (hi : ℕ) → AreTaken p lo ts js t.stack.first → IsTakenAs p t.stack j → suc t.stack.frame ≤ hi
    → AreTaken p lo (ts ++ t ∷ []) (js ++ j ∷ []) hi
taken-joined p lo [] t [] j hi h one le = (h, one, le)
taken-joined p lo [] t (k ∷ js) j hi h one le = absurd h
taken-joined p lo (u ∷ ts) t [] j hi h one le = absurd h
taken-joined p lo (u ∷ ts) t (k ∷ js) j hi h one le = (h.0, h.1, taken-joined p (suc u.stack.frame) ts t js j hi h.2 one le)
