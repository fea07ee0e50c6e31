-- What code that is written piece by piece leads to, and that the goals of its groups are numbered.
use Rattle.std.proofs.Common.{◌≡◌, ℕ, suc, ◌+◌, Bool, true, false, ◌&&◌, if◌then◌else◌, List, [], ◌∷◌, ◌++◌, length, refl, ap, sym, ◌∙◌, subst, arith, append_assoc}
use Rattle.std.proofs.lemmas.List.{append-nil}
use Rattle.std.specs.List.{list_all}
use Rattle.std.proofs.lemmas.Bool.{false≢true}
use Rattle.std.proofs.lemmas.List.Folds.{list_all-append}
use Rattle.ap_term.specs.declared.clauses.Check.{Check}
use Rattle.ap_term.specs.declared.clauses.Check.TheVariants.{Ground, Indep}
use Rattle.ap_term.specs.Tree.{Tree, Trees, none, more, count_trees}
use Rattle.ap_term.specs.Vars.{has, add_vars}
use Rattle.ap_instr.specs.declared.instruction.Slot.TheVariants.{Y}
use Rattle.ap_instr.specs.Step.{Step, put_variable, call, execute, builtin, proceed, jump, check_ground, check_indep, group, push, wait}
use Rattle.ap_instr.specs.Runs.{arguments}
use Rattle.ap_codegen.specs.declared.steps.Step.{Step as Emitted}
use Rattle.ap_codegen.specs.declared.steps.Step.TheVariants.{Jump, CheckGround, CheckIndep, AllocParcall, PushGoal}
use Rattle.ap_codegen.specs.Emitted.{Lead, step_of, steps_of, lead_of, leads_of}
use Rattle.ap_codegen.specs.Said.{AreNumbered}
use Rattle.ap_codegen.specs.Permanent.{name, is_builtin, goal_code, asking}
use Rattle.ap_codegen.specs.Grouped.{straight, make, make_check, make_checks, see_check, see_checks, in_turn, sides, turns, check_leads, side_leads, turn_leads, ways, group_leads, Numbers, IsWritten}
use Rattle.ap_codegen.proofs.Open.{Quiet, quiet_goal}

-- whether a step leads to the next one alone and is none of a group's goals
abbrev pub is_simple : Step → Bool
is_simple jump = false
is_simple (check_ground v) = false
is_simple (check_indep v w) = false
is_simple (group n) = false
is_simple (push p n) = false
is_simple _ = true

abbrev pub Simple : List Step → Type 0
Simple is = list_all is_simple is ≡ true

pub simple_both : (us bs : List Step) → Simple us → Simple bs → Simple (us ++ bs)
simple_both us bs f g = list_all-append is_simple us bs ∙ ap (λ a. a && list_all is_simple bs) f ∙ g

pub quiet_simple : (us : List Step) → Quiet us → Simple us
quiet_simple [] q = refl
quiet_simple (call p n ∷ us) q = absurd (false≢true q)
quiet_simple (execute p n ∷ us) q = absurd (false≢true q)
quiet_simple (builtin p n ∷ us) q = absurd (false≢true q)
quiet_simple (proceed ∷ us) q = absurd (false≢true q)
quiet_simple (jump ∷ us) q = absurd (false≢true q)
quiet_simple (check_ground v ∷ us) q = absurd (false≢true q)
quiet_simple (check_indep v w ∷ us) q = absurd (false≢true q)
quiet_simple (group n ∷ us) q = absurd (false≢true q)
quiet_simple (push p n ∷ us) q = absurd (false≢true q)
quiet_simple (wait ∷ us) q = absurd (false≢true q)
quiet_simple (i ∷ us) q = quiet_simple us q

pub goal_simple : (g : Tree) (seen : List ℕ) → Simple (goal_code g seen)
goal_simple g seen = quiet_simple (goal_code g seen) (quiet_goal g seen)

pub asked_simple : (g : Tree) (seen : List ℕ) (is : List Step) → Simple is → Simple (goal_code g seen ++ (asking g ∷ is))
asked_simple g seen is s = simple_both (goal_code g seen) (asking g ∷ is) (goal_simple g seen) (go (is_builtin g))
  where
    go : (b : Bool) → Simple ((if b then builtin (name g) (count_trees (arguments g)) else call (name g) (count_trees (arguments g))) ∷ is)
    go true = s
    go false = s

pub turns_simple : (gs : Trees) (seen : List ℕ) → Simple (in_turn gs seen)
turns_simple none seen = refl
turns_simple (more g gs) seen = asked_simple g seen (in_turn gs (add_vars g seen)) (turns_simple gs (add_vars g seen))

make_simple : (v : ℕ) (seen : List ℕ) → Simple (make v seen)
make_simple v seen = go (has seen v)
  where
    go : (b : Bool) → Simple (if b then [] else put_variable (Y v) 1 ∷ [])
    go true = refl
    go false = refl

pub makes_simple : (cs : List Check) (seen : List ℕ) → Simple (make_checks cs seen)
makes_simple [] seen = refl
makes_simple (c ∷ cs) seen = simple_both (make_check c seen) (make_checks cs (see_check c seen)) (one c seen) (makes_simple cs (see_check c seen))
  where
    one : (c : Check) (seen : List ℕ) → Simple (make_check c seen)
    one (Ground v) seen = make_simple v seen
    one (Indep v w) seen = simple_both (make v seen) (make w _) (make_simple v seen) (make_simple w _)

-- ---- leads

pub leads_both : (es fs : List Emitted) → leads_of (es ++ fs) ≡ leads_of es ++ leads_of fs
leads_both [] fs = refl
leads_both (e ∷ es) fs = ap (λ ls. lead_of e ∷ ls) (leads_both es fs)

pub straight_both : (is js : List Step) → straight (is ++ js) ≡ straight is ++ straight js
straight_both [] js = refl
straight_both (i ∷ is) js = ap (λ ls. (i, 0) ∷ ls) (straight_both is js)

pub leads_count : (es : List Emitted) (ls : List Lead) → leads_of es ≡ ls → length es ≡ length ls
leads_count [] [] e = refl
leads_count [] (l ∷ ls) e = cc
leads_count (e ∷ es) [] d = cc
leads_count (e ∷ es) (l ∷ ls) d = ap suc (leads_count es ls (cc))

simple_leads : (es : List Emitted) → Simple (steps_of es) → leads_of es ≡ straight (steps_of es)
simple_leads [] s = refl
simple_leads (Jump n ∷ es) s = absurd (false≢true s)
simple_leads (CheckGround v n ∷ es) s = absurd (false≢true s)
simple_leads (CheckIndep v w n ∷ es) s = absurd (false≢true s)
simple_leads (AllocParcall n l ∷ es) s = absurd (false≢true s)
simple_leads (PushGoal i p n ∷ es) s = absurd (false≢true s)
simple_leads (e ∷ es) s = ap (λ ls. (step_of e, 0) ∷ ls) (simple_leads es s)

-- ---- numbers

simple_numbers : (es : List Emitted) (k : ℕ) → Simple (steps_of es) → Numbers k k es
simple_numbers [] k s rest r = r
simple_numbers (Jump n ∷ es) k s rest r = absurd (false≢true s)
simple_numbers (CheckGround v n ∷ es) k s rest r = absurd (false≢true s)
simple_numbers (CheckIndep v w n ∷ es) k s rest r = absurd (false≢true s)
simple_numbers (AllocParcall n l ∷ es) k s rest r = absurd (false≢true s)
simple_numbers (PushGoal i p n ∷ es) k s rest r = absurd (false≢true s)
simple_numbers (e ∷ es) k s rest r = simple_numbers es k s rest r

numbers_both : (k : ℕ) (es fs : List Emitted) → AreNumbered k es → ((j : ℕ) → AreNumbered j fs) → AreNumbered k (es ++ fs)
numbers_both k [] fs h n = n k
numbers_both k (AllocParcall m l ∷ es) fs h n = numbers_both 0 es fs h n
numbers_both k (PushGoal i p m ∷ es) fs h n = (h.0, numbers_both i es fs h.1 n)
numbers_both k (e ∷ es) fs h n = numbers_both k es fs h n

pub simple_written : (es : List Emitted) (is : List Step) → steps_of es ≡ is → Simple is → IsWritten es (straight is)
simple_written es is e s =
    let t : Simple (steps_of es) = ap (list_all is_simple) e ∙ s in
    (simple_leads es t ∙ ap straight e, λ k. subst (AreNumbered k) (append-nil es) (simple_numbers es k t [] tt))

pub both_written : (es fs : List Emitted) (ls ms : List Lead) → IsWritten es ls → IsWritten fs ms → IsWritten (es ++ fs) (ls ++ ms)
both_written es fs ls ms w v = (leads_both es fs ∙ ap (λ ls. ls ++ leads_of fs) w.0 ∙ ap (λ ms. ls ++ ms) v.0, λ k. numbers_both k es fs (w.1 k) v.1)

-- whether a step neither begins a group nor is one of its goals
abbrev is_unnumbered : Step → Bool
is_unnumbered (group n) = false
is_unnumbered (push p n) = false
is_unnumbered _ = true

unnumbered : (es : List Emitted) (k : ℕ) → list_all (λ (l : Lead). is_unnumbered l.0) (leads_of es) ≡ true → AreNumbered k es
unnumbered [] k h = tt
unnumbered (AllocParcall n l ∷ es) k h = absurd (false≢true h)
unnumbered (PushGoal i p n ∷ es) k h = absurd (false≢true h)
unnumbered (e ∷ es) k h = unnumbered es k h

checks_unnumbered : (cs : List Check) (n : ℕ) → list_all (λ (l : Lead). is_unnumbered l.0) (check_leads cs n) ≡ true
checks_unnumbered [] n = refl
checks_unnumbered (Ground v ∷ cs) n = checks_unnumbered cs n
checks_unnumbered (Indep v w ∷ cs) n = checks_unnumbered cs n

checks_written : (es : List Emitted) (cs : List Check) (n : ℕ) → leads_of es ≡ check_leads cs n → IsWritten es (check_leads cs n)
checks_written es cs n e = (e, λ k. unnumbered es k (ap (list_all (λ (l : Lead). is_unnumbered l.0)) e ∙ checks_unnumbered cs n))

-- ---- a group's goals

pub pushed_leads : (part new : List Emitted) (p : Emitted) (is : List Step) (i : Step) → steps_of part ≡ is → Simple is → new ≡ part ++ p ∷ [] → lead_of p ≡ (i, 0) → leads_of new ≡ straight (is ++ i ∷ [])
pushed_leads part new p is i e s n q =
    ap leads_of n ∙ leads_both part (p ∷ []) ∙ ap (λ ls. ls ++ leads_of (p ∷ [])) (simple_written part is e s).0 ∙ ap (λ l. straight is ++ l ∷ []) q ∙ sym (straight_both is (i ∷ []))

pub pushed_numbers : (part new : List Emitted) (is : List Step) (k i p n : ℕ) → steps_of part ≡ is → Simple is → new ≡ part ++ PushGoal i p n ∷ [] → i ≡ k + 1 → Numbers k i new
pushed_numbers part new is k i p n e s d q rest r =
    subst (λ es. AreNumbered k (es ++ rest)) (sym d)
    (subst (AreNumbered k) (sym (append_assoc part (PushGoal i p n ∷ []) rest)) (simple_numbers part k (ap (list_all is_simple) e ∙ s) (PushGoal i p n ∷ rest) (q, r)))

-- ---- a group

pub begun_written : (code goals new : List Emitted) (gs : Trees) (seen : List ℕ) (n l : ℕ) → code ≡ [] → leads_of goals ≡ sides gs seen → AreNumbered 0 goals → n ≡ count_trees gs → l ≡ 1 + length goals
    → new ≡ (code ++ AllocParcall n l ∷ []) ++ goals → IsWritten new (side_leads gs seen)
begun_written code goals new gs seen n l z e h p q d =
    let over : l ≡ length (sides gs seen) + 1 = omega (arith, q, leads_count goals (sides gs seen) e) in
    subst (λ es. IsWritten es (side_leads gs seen)) (sym (d ∙ ap (λ es. (es ++ AllocParcall n l ∷ []) ++ goals) z))
    (ap (λ ls. (group n, l) ∷ ls) e ∙ ap (λ n. (group n, l) ∷ sides gs seen) p ∙ ap (λ l. (group (count_trees gs), l) ∷ sides gs seen) over, λ k. h)

pub ways_written : (cs : List Check) (gs : Trees) (seen : List ℕ) (tests beside behind new : List Emitted) (n m : ℕ) → IsWritten beside (side_leads gs seen) → steps_of behind ≡ in_turn gs seen
    → n ≡ length beside → m ≡ length behind → leads_of tests ≡ check_leads cs n → new ≡ ((tests ++ beside) ++ Jump m ∷ []) ++ behind → IsWritten new (ways cs gs seen)
ways_written cs gs seen tests beside behind new n m w e p q l d =
    let side : List Lead = side_leads gs seen in
    let turn : List Lead = turns gs seen in
    let count : n ≡ length side = p ∙ leads_count beside side w.0 in
    let t : IsWritten behind turn = simple_written behind (in_turn gs seen) e (turns_simple gs seen) in
    let over : m ≡ length turn = q ∙ leads_count behind turn t.0 in
    let k : IsWritten tests (check_leads cs (length side)) = subst (λ n. IsWritten tests (check_leads cs n)) count (checks_written tests cs n l) in
    let j : IsWritten (Jump m ∷ behind) (turn_leads gs seen) = (ap (λ ls. (jump, m) ∷ ls) t.0 ∙ ap (λ m. (jump, m) ∷ turn) over, λ k. t.1 k) in
    subst (λ es. IsWritten es (ways cs gs seen)) (sym (d ∙ append_assoc (tests ++ beside) (Jump m ∷ []) behind ∙ append_assoc tests beside (Jump m ∷ behind)))
    (both_written tests (beside ++ (Jump m ∷ behind)) (check_leads cs (length side)) (side ++ turn_leads gs seen) k (both_written beside (Jump m ∷ behind) side (turn_leads gs seen) w j))

pub group_written : (cs : List Check) (gs : Trees) (seen s1 : List ℕ) (made goals new : List Emitted) → steps_of made ≡ make_checks cs seen → s1 ≡ see_checks cs seen → IsWritten goals (ways cs gs s1) → new ≡ made ++ goals
    → IsWritten new (group_leads cs gs seen)
group_written cs gs seen s1 made goals new e s w d =
    subst (λ es. IsWritten es (group_leads cs gs seen)) (sym d)
    (both_written made goals (straight (make_checks cs seen)) (ways cs gs (see_checks cs seen)) (simple_written made (make_checks cs seen) e (makes_simple cs seen)) (subst (λ s. IsWritten goals (ways cs gs s)) s w))
