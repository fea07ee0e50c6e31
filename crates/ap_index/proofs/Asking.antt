-- What heads ask of arguments, instruction by instruction.
use Rattle.std.proofs.Common.{◌≡◌, ℕ, ℤ, ◌+◌, ◌<◌, ◌≤◌, false, List, [], ◌∷◌, ◌++◌, slice_get, Option, Some, None, refl, sym, ◌∙◌, subst, arith}
use Rattle.std.specs.List.{AllByRecursion}
use Rattle.ap_term.specs.Tree.{Tree, Trees, int, none, more, count_trees}
use Rattle.ap_term.proofs.Zips.{AllByRecursion-append}
use Rattle.ap_instr.specs.declared.instruction.Slot.{Slot}
use Rattle.ap_instr.specs.declared.instruction.Instr.{Instr}
use Rattle.ap_instr.specs.Code.{Compiled}
use Rattle.ap_instr.specs.Step.{Step, get_variable, unify_variable, get_constant, get_structure, frame, with_integer, step_of}
use Rattle.ap_instr.specs.Steps.{steps_from}
use Rattle.ap_instr.specs.Runs.{Runs, set_x, set_y, IsOpen, AsksOpenly}
use Rattle.ap_needs.specs.Needs.{is_transfer}
use Rattle.ap_needs.proofs.Places.{steps-next}
use Rattle.ap_index.specs.declared.key.Key.{Key}
use Rattle.ap_index.specs.declared.key.Key.TheVariants.{Integer, Structure}
use Rattle.ap_index.specs.declared.head.Ask.{Ask}
use Rattle.ap_index.specs.declared.head.Reading.{Reading}
use Rattle.ap_index.specs.declared.head.Passed.{Passed}
use Rattle.ap_index.specs.declared.head.Passed.TheVariants.{On, Asking, No}
use Rattle.ap_index.specs.Keys.{IsKeyOf, integer_key}
use Rattle.ap_index.specs.Heads.{IsMet, AreEnough, IsNarrower, Keeps, Left, AsksAlone, AsksFor, IsPassed}
use Rattle.ap_index.proofs.Openness.{past}

-- no argument is to come
none_left-arguments : (ts : Trees) → count_trees ts ≡ 0 → ts ≡ none
none_left-arguments none e = refl
none_left-arguments (more t ts) e = absurd (let z : count_trees ts + 1 ≡ 0 = e in omega arith)

-- a register is written with what stands there, and these are still kept
keeps-written : (r : Reading) (v : Slot) (x : ℕ → Tree) (t : Tree) → ((q : ℕ → Tree) (t : Tree) (w : ℕ) → r.from ≤ w → w < r.to → set_x v t q w ≡ q w) → Keeps r x (set_x v t x)
keeps-written r v x t same = λ w l m. same x t w l m

module _ (r s : Reading) (v : Slot) (narrower : IsNarrower r s) (same : (q : ℕ → Tree) (t : Tree) (w : ℕ) → s.from ≤ w → w < s.to → set_x v t q w ≡ q w) where
  -- with the next argument of a structure
  pub asks-argument : r.left ≡ s.left + 1 → AsksAlone (unify_variable v) r s []
  asks-argument one = record { kept = tt; narrower = narrower; needs = needs; gives = gives }
    where
      needs : (is : List Step) (ts : Trees) (x y : ℕ → Tree) (bs : Trees) → count_trees ts ≡ r.left → Runs (unify_variable v ∷ is) ts x y bs → AllByRecursion (IsMet x) [] × (l : Left s x) × Runs is l.trees l.x_now l.y_now bs
      needs is none x y bs count run = absurd (let z : 0 ≡ s.left + 1 = count ∙ one in omega arith)
      needs is (more t ts) x y bs count run = (
        tt,
        record {
          trees = ts;
          count = let z : count_trees ts + 1 ≡ s.left + 1 = count ∙ one in omega arith;
          x_now = set_x v t x;
          y_now = set_y v t y;
          keeps = keeps-written s v x t same;
        },
        run,
      )

      gives : (ts : Trees) (x y : ℕ → Tree) → count_trees ts ≡ r.left → AllByRecursion (IsMet x) [] → (l : Left s x) × ((is : List Step) (bs : Trees) → Runs is l.trees l.x_now l.y_now bs → Runs (unify_variable v ∷ is) ts x y bs)
      gives none x y count met = absurd (let z : 0 ≡ s.left + 1 = count ∙ one in omega arith)
      gives (more t ts) x y count met = (
        record {
          trees = ts;
          count = let z : count_trees ts + 1 ≡ s.left + 1 = count ∙ one in omega arith;
          x_now = set_x v t x;
          y_now = set_y v t y;
          keeps = keeps-written s v x t same;
        },
        λ is bs run. run,
      )

  -- with what an argument register holds
  pub asks-variable : (a : ℕ) → r.left ≡ 0 → s.left ≡ 0 → AsksAlone (get_variable v a) r s []
  asks-variable a none_left yet = record { kept = tt; narrower = narrower; needs = needs; gives = gives }
    where
      behind : (x y : ℕ → Tree) → Left s x
      behind x y = record { trees = none; count = sym yet; x_now = set_x v (x a) x; y_now = set_y v (x a) y; keeps = keeps-written s v x (x a) same }

      needs : (is : List Step) (ts : Trees) (x y : ℕ → Tree) (bs : Trees) → count_trees ts ≡ r.left → Runs (get_variable v a ∷ is) ts x y bs → AllByRecursion (IsMet x) [] × (l : Left s x) × Runs is l.trees l.x_now l.y_now bs
      needs is none x y bs count run = (tt, behind x y, run)
      needs is (more t ts) x y bs count run = absurd (let z : count_trees ts + 1 ≡ 0 = count ∙ none_left in omega arith)

      gives : (ts : Trees) (x y : ℕ → Tree) → count_trees ts ≡ r.left → AllByRecursion (IsMet x) [] → (l : Left s x) × ((is : List Step) (bs : Trees) → Runs is l.trees l.x_now l.y_now bs → Runs (get_variable v a ∷ is) ts x y bs)
      gives none x y count met = (behind x y, λ is bs run. run)
      gives (more t ts) x y count met = absurd (let z : count_trees ts + 1 ≡ 0 = count ∙ none_left in omega arith)

-- an environment is made
pub asks-frame : (r : Reading) → r.left ≡ 0 → AsksAlone frame r r []
asks-frame r none_left = record { kept = tt; narrower = record { from = omega arith; to = omega arith }; needs = needs; gives = gives }
  where
    behind : (x y : ℕ → Tree) → Left r x
    behind x y = record { trees = none; count = sym none_left; x_now = x; y_now = y; keeps = λ w l m. refl }

    needs : (is : List Step) (ts : Trees) (x y : ℕ → Tree) (bs : Trees) → count_trees ts ≡ r.left → Runs (frame ∷ is) ts x y bs → AllByRecursion (IsMet x) [] × (l : Left r x) × Runs is l.trees l.x_now l.y_now bs
    needs is none x y bs count run = (tt, behind x y, run)
    needs is (more t ts) x y bs count run = absurd (let z : count_trees ts + 1 ≡ 0 = count ∙ none_left in omega arith)

    gives : (ts : Trees) (x y : ℕ → Tree) → count_trees ts ≡ r.left → AllByRecursion (IsMet x) [] → (l : Left r x) × ((is : List Step) (bs : Trees) → Runs is l.trees l.x_now l.y_now bs → Runs (frame ∷ is) ts x y bs)
    gives none x y count met = (behind x y, λ is bs run. run)
    gives (more t ts) x y count met = absurd (let z : count_trees ts + 1 ≡ 0 = count ∙ none_left in omega arith)

-- an argument is asked for a key, and what comes behind it is left
module _ (r s : Reading) (a : ℕ) (key : Key) (low : r.from ≤ a) (high : a < r.to) (from : s.from ≡ r.from) (to : s.to ≡ r.to) (none_left : r.left ≡ 0) where
  abbrev asked : List Ask
  asked = record { argument = a; key = key } ∷ []

  same-kept : IsNarrower r s
  same-kept = record { from = omega (arith, from); to = omega (arith, to) }

  abbrev behind : (x y : ℕ → Tree) (ts : Trees) → count_trees ts ≡ s.left → Left s x
  behind x y ts e = record { trees = ts; count = e; x_now = x; y_now = y; keeps = λ w l m. refl }

  -- for a constant
  pub asks-constant : (t : Tree) → ((u : Tree) → IsKeyOf key u → u ≡ t) → ((u : Tree) → u ≡ t → IsKeyOf key u) → s.left ≡ 0 → AsksAlone (get_constant t a) r s (record { argument = a; key = key } ∷ [])
  asks-constant t only has yet = record { kept = ((low, high), tt); narrower = same-kept; needs = needs; gives = gives }
    where
      needs : (is : List Step) (ts : Trees) (x y : ℕ → Tree) (bs : Trees) → count_trees ts ≡ r.left → Runs (get_constant t a ∷ is) ts x y bs → AllByRecursion (IsMet x) asked × (l : Left s x) × Runs is l.trees l.x_now l.y_now bs
      needs is none x y bs count run = ((has (x a) run.0, tt), behind x y none (sym yet), run.1)
      needs is (more u us) x y bs count run = absurd (let z : count_trees us + 1 ≡ 0 = count ∙ none_left in omega arith)

      gives : (ts : Trees) (x y : ℕ → Tree) → count_trees ts ≡ r.left → AllByRecursion (IsMet x) asked → (l : Left s x) × ((is : List Step) (bs : Trees) → Runs is l.trees l.x_now l.y_now bs → Runs (get_constant t a ∷ is) ts x y bs)
      gives none x y count met = (behind x y none (sym yet), λ is bs run. (only (x a) met.0, run))
      gives (more u us) x y count met = absurd (let z : count_trees us + 1 ≡ 0 = count ∙ none_left in omega arith)

  -- for a structure, which keys speak of by its name and the number of its arguments
  pub asks-structure : (f n : ℕ) → key ≡ Structure f n → s.left ≡ n → AsksAlone (get_structure f n a) r s (record { argument = a; key = key } ∷ [])
  asks-structure f n is_key more_left = record { kept = ((low, high), tt); narrower = same-kept; needs = needs; gives = gives }
    where
      needs : (is : List Step) (ts : Trees) (x y : ℕ → Tree) (bs : Trees) → count_trees ts ≡ r.left → Runs (get_structure f n a ∷ is) ts x y bs → AllByRecursion (IsMet x) asked × (l : Left s x) × Runs is l.trees l.x_now l.y_now bs
      needs is none x y bs count run = ((subst (λ k. IsKeyOf k (x a)) (sym is_key) (run.0, run.1, run.2), tt), behind x y run.0 (run.1 ∙ sym more_left), run.3)
      needs is (more u us) x y bs count run = absurd (let z : count_trees us + 1 ≡ 0 = count ∙ none_left in omega arith)

      gives : (ts : Trees) (x y : ℕ → Tree) → count_trees ts ≡ r.left → AllByRecursion (IsMet x) asked → (l : Left s x) × ((is : List Step) (bs : Trees) → Runs is l.trees l.x_now l.y_now bs → Runs (get_structure f n a ∷ is) ts x y bs)
      gives none x y count met =
          let h : IsKeyOf (Structure f n) (x a) = subst (λ k. IsKeyOf k (x a)) is_key met.0 in
          (behind x y h.0 (h.1 ∙ sym more_left), λ is bs run. (h.0, h.1, h.2, run))
      gives (more u us) x y count met = absurd (let z : count_trees us + 1 ≡ 0 = count ∙ none_left in omega arith)

  -- for an integer of the table
  pub asks-listed : (o : Option ℤ) → integer_key o ≡ Some key → s.left ≡ 0 → AsksAlone (with_integer o (λ t. get_constant t a)) r s (record { argument = a; key = key } ∷ [])
  asks-listed None e yet = absurd (let z : ⊥ = cc in z)
  asks-listed (Some v) e yet =
      let q : key ≡ Integer v = cc in
      asks-constant (int v) (λ u h. subst (λ k. IsKeyOf k u) q h) (λ u h. subst (λ k. IsKeyOf k u) (sym q) h) yet

-- what an instruction asks that asks for a key
pub passed-asking : (code : Compiled) (i : Instr) (a : ℕ) (key : Key) (left : ℕ) (r : Reading) (p : Passed) → is_transfer i ≡ false
    → ((s : Reading) → r.from ≤ a → a < r.to → s.from ≡ r.from → s.to ≡ r.to → s.left ≡ left → AsksAlone (step_of code i) r s (record { argument = a; key = key } ∷ [])) → AsksFor a key left r p → IsPassed code i r p
passed-asking code i a key left r (On s) t asks h = absurd h
passed-asking code i a key left r (Asking ask s) t asks h = (t, subst (λ (a : Ask). AsksAlone (step_of code i) r s (a ∷ [])) (sym h.0) (asks s h.1 h.2 h.3 h.4 h.5))
passed-asking code i a key left r No t asks h = tt

-- ---- from a clause's place on

-- Between the clause's place and one of its head, of which a head was gone through so far: what was run so far needs that these are
-- met, and takes nothing but that.
pub record Walked (code : Compiled) (at place : ℕ) (r : Reading) (asks : List Ask) : Type 0 where
  pub needs : (x y : ℕ → Tree) (bs : Trees) → Runs (steps_from code at) none x y bs → AllByRecursion (IsMet x) asks × (l : Left r x) × Runs (steps_from code place) l.trees l.x_now l.y_now bs
  pub gives : (x y : ℕ → Tree) → AllByRecursion (IsMet x) asks → (l : Left r x) × ((bs : Trees) → Runs (steps_from code place) l.trees l.x_now l.y_now bs → Runs (steps_from code at) none x y bs)
  pub openly : AsksOpenly (steps_from code at) → AsksOpenly (steps_from code place)

pub walked-none : (code : Compiled) (at : ℕ) (r : Reading) → r.left ≡ 0 → Walked code at at r []
walked-none code at r none_left = record {
  needs = λ x y bs run. (tt, start x y, run);
  gives = λ x y met. (start x y, λ bs run. run);
  openly = λ o. o;
}
  where
    start : (x y : ℕ → Tree) → Left r x
    start x y = record { trees = none; count = sym none_left; x_now = x; y_now = y; keeps = λ w l m. refl }

-- what was kept is met before and behind alike
met-before : (r : Reading) (x x' : ℕ → Tree) → Keeps r x x' → (asks : List Ask) → AllByRecursion (λ (a : Ask). (r.from ≤ a.argument) × (a.argument < r.to)) asks → AllByRecursion (IsMet x') asks → AllByRecursion (IsMet x) asks
met-before r x x' keeps [] h m = tt
met-before r x x' keeps (a ∷ es) h m = (subst (IsKeyOf a.key) (keeps a.argument h.0.0 h.0.1) m.0, met-before r x x' keeps es h.1 m.1)

met-behind : (r : Reading) (x x' : ℕ → Tree) → Keeps r x x' → (asks : List Ask) → AllByRecursion (λ (a : Ask). (r.from ≤ a.argument) × (a.argument < r.to)) asks → AllByRecursion (IsMet x) asks → AllByRecursion (IsMet x') asks
met-behind r x x' keeps [] h m = tt
met-behind r x x' keeps (a ∷ es) h m = (subst (IsKeyOf a.key) (sym (keeps a.argument h.0.0 h.0.1)) m.0, met-behind r x x' keeps es h.1 m.1)

parts : (P : Ask → Type 0) (es fs : List Ask) → AllByRecursion P (es ++ fs) → AllByRecursion P es × AllByRecursion P fs
parts P [] fs h = (tt, h)
parts P (a ∷ es) fs h = let q = parts P es fs h.1 in ((h.0, q.0), q.1)

pub walked-on : (code : Compiled) (at place : ℕ) (r s : Reading) (i : Instr) (asks new all : List Ask) → all ≡ asks ++ new → slice_get code.instructions place ≡ Some i → is_transfer i ≡ false → AsksAlone (step_of code i) r s new → Walked code at place r asks → Walked code at (place + 1) s all
walked-on code at place r s i asks new all are stands goes_on alone h = subst (Walked code at (place + 1) s) (sym are) (record { needs = needs; gives = gives; openly = λ o. past code place i stands goes_on (h.openly o) })
  where
    here : steps_from code place ≡ step_of code i ∷ steps_from code (place + 1)
    here = steps-next code place i stands goes_on

    further : (x : ℕ → Tree) (l : Left r x) → Left s l.x_now → Left s x
    further x l m = record {
      trees = m.trees;
      count = m.count;
      x_now = m.x_now;
      y_now = m.y_now;
      keeps = λ w low high. m.keeps w low high ∙ l.keeps w (let n = alone.narrower.from in omega (arith, low, n)) (let n = alone.narrower.to in omega (arith, high, n));
    }

    needs : (x y : ℕ → Tree) (bs : Trees) → Runs (steps_from code at) none x y bs → AllByRecursion (IsMet x) (asks ++ new) × (l : Left s x) × Runs (steps_from code (place + 1)) l.trees l.x_now l.y_now bs
    needs x y bs run =
        let b = h.needs x y bs run in
        let l : Left r x = b.1 in
        let n = alone.needs (steps_from code (place + 1)) l.trees l.x_now l.y_now bs l.count (subst (λ js. Runs js l.trees l.x_now l.y_now bs) here b.2) in
        (AllByRecursion-append (IsMet x) asks new b.0 (met-before r x l.x_now l.keeps new alone.kept n.0), further x l n.1, n.2)

    gives : (x y : ℕ → Tree) → AllByRecursion (IsMet x) (asks ++ new) → (l : Left s x) × ((bs : Trees) → Runs (steps_from code (place + 1)) l.trees l.x_now l.y_now bs → Runs (steps_from code at) none x y bs)
    gives x y met =
        let q = parts (IsMet x) asks new met in
        let b = h.gives x y q.0 in
        let l : Left r x = b.0 in
        let n = alone.gives l.trees l.x_now l.y_now l.count (met-behind r x l.x_now l.keeps new alone.kept q.1) in
        (further x l n.0, λ bs run. b.1 bs (subst (λ js. Runs js l.trees l.x_now l.y_now bs) (sym here) (n.1 (steps_from code (place + 1)) bs run)))

-- all that the head asks, where what comes behind it is open
pub walked-enough : (code : Compiled) (at place : ℕ) (r : Reading) (asks : List Ask) → Walked code at place r asks → r.left ≡ 0 → (AsksOpenly (steps_from code place) → IsOpen (steps_from code place)) → AreEnough code at asks
walked-enough code at place r asks h none_left opens = λ openly x y met.
    let b = h.gives x y met in
    let l : Left r x = b.0 in
    let e : l.trees ≡ none = none_left-arguments l.trees (l.count ∙ none_left) in
    let o = opens (h.openly openly) l.x_now l.y_now in
    (o.0, b.1 o.0 (subst (λ ts. Runs (steps_from code place) ts l.x_now l.y_now o.0) (sym e) o.1))
