-- What the code at a place asks for, where it stands alone and other code goes on behind it.
use Rattle.std.proofs.Common.{◌≡◌, ℕ, zero, suc, ◌+◌, ◌<◌, true, List, [], ◌∷◌, ◌++◌, length, drop, slice_get, Option, Some, None, refl, ap, sym, ◌∙◌, subst, arith}
use Rattle.std.proofs.lemmas.List.{length-drop}
use Rattle.ap_term.specs.Tree.{Tree, Trees, none, more}
use Rattle.ap_instr.specs.declared.compiled.Predicate.{Predicate}
use Rattle.ap_instr.specs.declared.instruction.Instr.{Instr}
use Rattle.ap_instr.specs.declared.instruction.Instr.TheVariants.{GetInteger, PutInteger, UnifyInteger, Call, Execute, Proceed, Jump, PushGoal}
use Rattle.ap_instr.specs.Code.{Compiled}
use Rattle.ap_instr.specs.Step.{Step, get_variable, get_value, get_constant, get_structure, put_variable, put_value, put_constant, put_structure, unify_variable, unify_value, unify_constant, call, execute, builtin, proceed, frame, jump, check_ground, check_indep, group, push, wait, other, with_integer, with_predicate, step_of}
use Rattle.ap_instr.specs.Steps.{skipped, steps_behind, steps_from}
use Rattle.ap_instr.specs.Runs.{Runs, IsOpen, AsksOpenly}
use Rattle.ap_needs.specs.Behind.{Begins, is_end, is_ended, NamesOwn, StandsAlone}
use Rattle.ap_needs.proofs.Behind.{begun-same, begun-drop, drop-some, ended-drop}
use Rattle.ap_term.proofs.Lists.{slice_get-inside}

-- ---- steps that ask for the same

-- whatever the first ask for, the others do
abbrev pub Leads : List Step → List Step → Type 0
Leads is js = (ts : Trees) (x y : ℕ → Tree) (bs : Trees) → Runs is ts x y bs → Runs js ts x y bs

pub record AskTheSame (is js : List Step) : Type 0 where
  pub to : Leads is js
  pub back : Leads js is
  pub to_openly : AsksOpenly is → AsksOpenly js
  pub back_openly : AsksOpenly js → AsksOpenly is

pub open-leads : (is js : List Step) → Leads is js → IsOpen is → IsOpen js
open-leads is js h o x y = let run = o x y in (run.0, h none x y run.0 run.1)

module _ (is js : List Step) (h : Leads is js) where
  next-leads : (i : Step) → Leads (i ∷ is) (i ∷ js)
  next-leads (get_variable v a) none x y bs r = h none _ _ bs r
  next-leads (get_variable v a) (more t ts) x y bs r = absurd r
  next-leads (get_value v a) none x y bs r = (r.0, h none x y bs r.1)
  next-leads (get_value v a) (more t ts) x y bs r = absurd r
  next-leads (get_constant c a) none x y bs r = (r.0, h none x y bs r.1)
  next-leads (get_constant c a) (more t ts) x y bs r = absurd r
  next-leads (get_structure f n a) none x y bs r = (r.0, r.1, r.2, h r.0 x y bs r.3)
  next-leads (get_structure f n a) (more t ts) x y bs r = absurd r
  next-leads (put_variable v a) none x y bs r = (r.0, h none _ _ bs r.1)
  next-leads (put_variable v a) (more t ts) x y bs r = absurd r
  next-leads (put_value v a) none x y bs r = h none _ _ bs r
  next-leads (put_value v a) (more t ts) x y bs r = absurd r
  next-leads (put_constant c a) none x y bs r = h none _ _ bs r
  next-leads (put_constant c a) (more t ts) x y bs r = absurd r
  next-leads (put_structure f n a) none x y bs r = (r.0, r.1, h r.0 _ _ bs r.2)
  next-leads (put_structure f n a) (more t ts) x y bs r = absurd r
  next-leads (unify_variable v) none x y bs r = absurd r
  next-leads (unify_variable v) (more t ts) x y bs r = h ts _ _ bs r
  next-leads (unify_value v) none x y bs r = absurd r
  next-leads (unify_value v) (more t ts) x y bs r = (r.0, h ts x y bs r.1)
  next-leads (unify_constant c) none x y bs r = absurd r
  next-leads (unify_constant c) (more t ts) x y bs r = (r.0, h ts x y bs r.1)
  next-leads (call p n) none x y bs r = (r.0, r.1, h none _ _ r.0 r.2)
  next-leads (call p n) (more t ts) x y bs r = absurd r
  next-leads (execute p n) none x y bs r = r
  next-leads (execute p n) (more t ts) x y bs r = absurd r
  next-leads (builtin p n) none x y bs r = (r.0, r.1, h none x y r.0 r.2)
  next-leads (builtin p n) (more t ts) x y bs r = absurd r
  next-leads proceed none x y bs r = r
  next-leads proceed (more t ts) x y bs r = absurd r
  next-leads frame none x y bs r = h none x y bs r
  next-leads frame (more t ts) x y bs r = absurd r
  next-leads jump none x y bs r = h none x y bs r
  next-leads jump (more t ts) x y bs r = absurd r
  next-leads (check_ground v) none x y bs r = (r.0, r.1, h none x y r.0 r.2)
  next-leads (check_ground v) (more t ts) x y bs r = absurd r
  next-leads (check_indep v w) none x y bs r = (r.0, r.1, h none x y r.0 r.2)
  next-leads (check_indep v w) (more t ts) x y bs r = absurd r
  next-leads (group n) none x y bs r = (r.0, r.1, h none x y r.0 r.2)
  next-leads (group n) (more t ts) x y bs r = absurd r
  next-leads (push p n) none x y bs r = (r.0, r.1, h none x y r.0 r.2)
  next-leads (push p n) (more t ts) x y bs r = absurd r
  next-leads wait none x y bs r = h none _ _ bs r
  next-leads wait (more t ts) x y bs r = absurd r
  next-leads other none x y bs r = absurd r
  next-leads other (more t ts) x y bs r = absurd r

  next-openly : (i : Step) → (AsksOpenly is → AsksOpenly js) → AsksOpenly (i ∷ is) → AsksOpenly (i ∷ js)
  next-openly (get_variable v a) k o = k o
  next-openly (get_value v a) k o = k o
  next-openly (get_constant c a) k o = k o
  next-openly (get_structure f n a) k o = k o
  next-openly (put_variable v a) k o = k o
  next-openly (put_value v a) k o = k o
  next-openly (put_constant c a) k o = k o
  next-openly (put_structure f n a) k o = k o
  next-openly (unify_variable v) k o = k o
  next-openly (unify_value v) k o = k o
  next-openly (unify_constant c) k o = k o
  next-openly (call p n) k o = (open-leads is js h o.0, k o.1)
  next-openly (execute p n) k o = tt
  next-openly (builtin p n) k o = (open-leads is js h o.0, k o.1)
  next-openly proceed k o = tt
  next-openly frame k o = k o
  next-openly jump k o = (open-leads is js h o.0, k o.1)
  next-openly (check_ground v) k o = (open-leads is js h o.0, k o.1)
  next-openly (check_indep v w) k o = (open-leads is js h o.0, k o.1)
  next-openly (group n) k o = (open-leads is js h o.0, k o.1)
  next-openly (push p n) k o = (open-leads is js h o.0, k o.1)
  next-openly wait k o = (open-leads is js h o.0, k o.1)
  next-openly other k o = k o

next-same : (i : Step) (is js : List Step) → AskTheSame is js → AskTheSame (i ∷ is) (i ∷ js)
next-same i is js h = record {
  to = next-leads is js h.to i;
  back = next-leads js is h.back i;
  to_openly = next-openly is js h.to i h.to_openly;
  back_openly = next-openly js is h.back i h.back_openly;
}

-- behind these nothing is asked for
execute-same : (p n : ℕ) (is js : List Step) → AskTheSame (execute p n ∷ is) (execute p n ∷ js)
execute-same p n is js = record { to = leads is js; back = leads js is; to_openly = λ o. tt; back_openly = λ o. tt }
  where
    leads : (is js : List Step) → Leads (execute p n ∷ is) (execute p n ∷ js)
    leads is js none x y bs r = r
    leads is js (more t ts) x y bs r = absurd r

proceed-same : (is js : List Step) → AskTheSame (proceed ∷ is) (proceed ∷ js)
proceed-same is js = record { to = leads is js; back = leads js is; to_openly = λ o. tt; back_openly = λ o. tt }
  where
    leads : (is js : List Step) → Leads (proceed ∷ is) (proceed ∷ js)
    leads is js none x y bs r = r
    leads is js (more t ts) x y bs r = absurd r

-- ---- instructions from a place on

drop-tail : {A : Type 0} (xs : List A) (n : ℕ) (x : A) (ys : List A) → drop n xs ≡ x ∷ ys → drop (n + 1) xs ≡ ys
drop-tail [] zero x ys e = absurd (let z : ⊥ = cc in z)
drop-tail [] (suc n) x ys e = absurd (let z : ⊥ = cc in z)
drop-tail (w ∷ xs) zero x ys e = cc
drop-tail (w ∷ xs) (suc n) x ys e = ap (λ m. drop m (w ∷ xs)) (let q : suc n + 1 ≡ suc (n + 1) = omega arith in q) ∙ drop-tail xs n x ys e

pub drop-first : {A : Type 0} (xs : List A) (n : ℕ) (x : A) (ys : List A) → drop n xs ≡ x ∷ ys → slice_get xs n ≡ Some x
drop-first [] zero x ys e = absurd (let z : ⊥ = cc in z)
drop-first [] (suc n) x ys e = absurd (let z : ⊥ = cc in z)
drop-first (w ∷ xs) zero x ys e = let q : w ≡ x = cc in ap Some q
drop-first (w ∷ xs) (suc n) x ys e = drop-first xs n x ys e

module _ (base code : Compiled) (begins : Begins base code) (alone : StandsAlone base) where
  integer-same : (i : ℕ) → i < length base.integers → slice_get base.integers i ≡ slice_get code.integers i
  integer-same i l = begun-same base.integers code.integers i begins.integers l

  predicate-same : (q : ℕ) → q < length base.predicates → slice_get base.predicates q ≡ slice_get code.predicates q
  predicate-same q l = begun-same base.predicates code.predicates q begins.predicates l

  step-same : (at : ℕ) (i : Instr) → NamesOwn base at i → step_of base i ≡ step_of code i
  step-same at (GetInteger i a) h = ap (λ o. with_integer o (λ c. get_constant c a)) (integer-same i h)
  step-same at (PutInteger i a) h = ap (λ o. with_integer o (λ c. put_constant c a)) (integer-same i h)
  step-same at (UnifyInteger i) h = ap (λ o. with_integer o unify_constant) (integer-same i h)
  step-same at (Call q) h = ap (λ o. with_predicate o call) (predicate-same q h)
  step-same at (Execute q) h = ap (λ o. with_predicate o execute) (predicate-same q h)
  step-same at (PushGoal i q) h = ap (λ o. with_predicate o push) (predicate-same q h)
  step-same at i h = refl

  -- the last instruction
  last-same : (at : ℕ) (i : Instr) (is js : List Step) → is_end i ≡ true → NamesOwn base at i → AskTheSame (step_of base i ∷ is) (step_of code i ∷ js)
  last-same at (Execute q) is js e h =
      subst (λ s. AskTheSame (step_of base (Execute q) ∷ is) (s ∷ js)) (step-same at (Execute q) h) (known (slice_get base.predicates q) (slice_get-inside base.predicates q h))
    where
      known : (o : Option Predicate) → (o ≡ None → ⊥) → AskTheSame (with_predicate o execute ∷ is) (with_predicate o execute ∷ js)
      known None k = absurd (k refl)
      known (Some p) k = execute-same p.name p.arity is js
  last-same at Proceed is js e h = proceed-same is js
  last-same at i is js e h = absurd (let z : ⊥ = cc in z)

  -- a jump leads to an instruction of the code
  skips-inside : (at m : ℕ) (i : Instr) → NamesOwn base at i → length base.instructions ≡ at + 1 + m → 0 < m → skipped i at < m
  skips-inside at m (Jump l) h e some = omega arith
  skips-inside at m i h e some = some

  walk : (at n : ℕ) (is js : List Instr) → drop at base.instructions ≡ is → n < length is → AskTheSame (steps_behind base at n is) (steps_behind code at n (is ++ js))
  walk at n [] js e l = absurd (omega arith)
  walk at (suc n) (i ∷ is) js e l = walk (at + 1) n is js (drop-tail base.instructions at i is e) (omega arith)
  walk at zero (i ∷ []) js e l =
      last-same at i [] (steps_behind code (at + 1) (skipped i at) js) (ap is_ended (sym e) ∙ ended-drop base.instructions at alone.ended) (alone.names at i (drop-first base.instructions at i [] e))
  walk at zero (i ∷ (j ∷ is)) js e l =
      let own : NamesOwn base at i = alone.names at i (drop-first base.instructions at i (j ∷ is) e) in
      let count : length (drop at base.instructions) ≡ length is + 2 = ap length e ∙ (let q : length (i ∷ (j ∷ is)) ≡ length is + 2 = omega arith in q) in
      let whole = length-drop at base.instructions in
      let rest : length base.instructions ≡ at + 1 + length (j ∷ is) = omega arith in
      subst (λ s. AskTheSame (step_of base i ∷ steps_behind base (at + 1) (skipped i at) (j ∷ is)) (s ∷ steps_behind code (at + 1) (skipped i at) ((j ∷ is) ++ js))) (step-same at i own)
      (next-same (step_of base i) _ _ (walk (at + 1) (skipped i at) (j ∷ is) js (drop-tail base.instructions at i (j ∷ is) e) (skips-inside at (length (j ∷ is)) i own rest (omega arith))))

  -- what the code asks for at a place that it had before
  pub same-from : (at : ℕ) → at < length base.instructions → AskTheSame (steps_from base at) (steps_from code at)
  same-from at l =
      subst (λ is. AskTheSame (steps_from base at) (steps_behind code at 0 is)) (sym (begun-drop base.instructions code.instructions at begins.instructions (omega arith)))
      (walk at 0 (drop at base.instructions) (drop (length base.instructions) code.instructions) refl (drop-some base.instructions at l))
