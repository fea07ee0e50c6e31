-- A step before steps that ask for the same asks for the same; and steps inside an environment.
use Rattle.std.proofs.Common.{◌≡◌, ℕ, zero, suc, ◌+◌, ◌<◌, ◌≤◌, Bool, true, false, if◌then◌else◌, List, [], ◌∷◌, ◌++◌, length, drop, get_or, refl, ap, sym, ◌∙◌, arith, append_assoc}
use Rattle.std.proofs.lemmas.Bool.{false≢true}
use Rattle.std.proofs.lemmas.List.{drop_more}
use Rattle.ap_term.specs.Tree.{Tree, Trees, none, more}
use Rattle.ap_instr.specs.Step.{Step, get_variable, get_value, get_constant, get_structure, put_variable, put_value, put_constant, put_structure, unify_variable, unify_value, unify_constant, call, execute, builtin, proceed, frame, jump, check_ground, check_indep, group, push, wait, other}
use Rattle.ap_instr.specs.Runs.{Runs, IsOpen, AsksOpenly}
use Rattle.ap_codegen.specs.declared.steps.Step.{Step as Emitted}
use Rattle.ap_codegen.specs.declared.steps.Step.TheVariants.{Deallocate}
use Rattle.ap_codegen.specs.Emitted.{step_of}
use Rattle.ap_codegen.specs.Temporary.{ends}
use Rattle.ap_codegen.specs.Framed.{leaving}

-- what runs through the one runs through the other
abbrev pub Through : List Step → List Step → Type 0
Through is js = (ts : Trees) (x y : ℕ → Tree) (bs : Trees) → Runs is ts x y bs → Runs js ts x y bs

pub through_step : (i : Step) (is js : List Step) → Through is js → Through (i ∷ is) (i ∷ js)
through_step (unify_variable v) is js h (more t ts) x y bs r = h ts _ _ bs r
through_step (unify_value v) is js h (more t ts) x y bs r = (r.0, h ts x y bs r.1)
through_step (unify_constant c) is js h (more t ts) x y bs r = (r.0, h ts x y bs r.1)
through_step (get_variable v a) is js h none x y bs r = h none _ _ bs r
through_step (get_value v a) is js h none x y bs r = (r.0, h none x y bs r.1)
through_step (get_constant c a) is js h none x y bs r = (r.0, h none x y bs r.1)
through_step (get_structure f n a) is js h none x y bs r = (r.0, r.1, r.2, h r.0 x y bs r.3)
through_step (put_variable v a) is js h none x y bs r = (r.0, h none _ _ bs r.1)
through_step (put_value v a) is js h none x y bs r = h none _ _ bs r
through_step (put_constant c a) is js h none x y bs r = h none _ _ bs r
through_step (put_structure f n a) is js h none x y bs r = (r.0, r.1, h r.0 _ _ bs r.2)
through_step (call p n) is js h none x y bs r = (r.0, r.1, h none _ _ r.0 r.2)
through_step (builtin p n) is js h none x y bs r = (r.0, r.1, h none x y r.0 r.2)
through_step (execute p n) is js h none x y bs r = r
through_step proceed is js h none x y bs r = r
through_step frame is js h none x y bs r = h none x y bs r
through_step jump is js h none x y bs r = h none x y bs r
through_step (check_ground v) is js h none x y bs r = (r.0, r.1, h none x y r.0 r.2)
through_step (check_indep v w) is js h none x y bs r = (r.0, r.1, h none x y r.0 r.2)
through_step (group n) is js h none x y bs r = (r.0, r.1, h none x y r.0 r.2)
through_step (push p n) is js h none x y bs r = (r.0, r.1, h none x y r.0 r.2)
through_step wait is js h none x y bs r = h none _ _ bs r
through_step (unify_variable v) is js h none x y bs r = absurd r
through_step (unify_value v) is js h none x y bs r = absurd r
through_step (unify_constant c) is js h none x y bs r = absurd r
through_step other is js h none x y bs r = absurd r
through_step (i) is js h (more t ts) x y bs r = absurd r

-- nothing ends inside a structure
pub ends_outside : (i : Step) (is : List Step) (t : Tree) (ts : Trees) (x y : ℕ → Tree) (bs : Trees) → ends i ≡ true → Runs (i ∷ is) (more t ts) x y bs → ⊥
ends_outside (execute p n) is t ts x y bs e r = r
ends_outside proceed is t ts x y bs e r = r
ends_outside _ is t ts x y bs e r = false≢true e

open_through : (is js : List Step) → Through is js → IsOpen is → IsOpen js
open_through is js h o x y = let r = o x y in (r.0, h none x y r.0 r.1)

pub openly_step : (i : Step) (is js : List Step) → Through is js → (AsksOpenly is → AsksOpenly js) → AsksOpenly (i ∷ is) → AsksOpenly (i ∷ js)
openly_step (call p n) is js h a o = (open_through is js h o.0, a o.1)
openly_step (builtin p n) is js h a o = (open_through is js h o.0, a o.1)
openly_step (check_ground v) is js h a o = (open_through is js h o.0, a o.1)
openly_step (check_indep v w) is js h a o = (open_through is js h o.0, a o.1)
openly_step (group n) is js h a o = (open_through is js h o.0, a o.1)
openly_step (push p n) is js h a o = (open_through is js h o.0, a o.1)
openly_step wait is js h a o = (open_through is js h o.0, a o.1)
openly_step jump is js h a o = (open_through is js h o.0, a o.1)
openly_step (execute p n) is js h a o = tt
openly_step proceed is js h a o = tt
openly_step _ is js h a o = a o

-- one more step
pub leaving_turn : (es : List Emitted) (i : ℕ) (e : Emitted) (o0 o1 w : List Emitted) → i < length es → e ≡ get_or es i e → o1 ≡ o0 ++ leaving (e ∷ [])
    → o0 ++ leaving (drop i es) ≡ w → o1 ++ leaving (drop (i + 1) es) ≡ w
leaving_turn es i e o0 o1 w l d k r =
    ap (λ o. o ++ leaving (drop (i + 1) es)) k
    ∙ append_assoc o0 (leaving (e ∷ [])) (leaving (drop (i + 1) es))
    ∙ ap (λ q. o0 ++ q) (first e (ends (step_of e)) ∙ ap (λ f. leaving (f ∷ drop (i + 1) es)) d ∙ sym (ap leaving (drop_more es i e l)))
    ∙ r
  where
    first : (e : Emitted) (b : Bool) → (if b then Deallocate ∷ e ∷ [] else e ∷ []) ++ leaving (drop (i + 1) es) ≡ (if b then Deallocate ∷ e ∷ leaving (drop (i + 1) es) else e ∷ leaving (drop (i + 1) es))
    first e true = refl
    first e false = refl

-- no step is left
pub leaving_end : (a w : List Emitted) (es : List Emitted) (i : ℕ) → length es ≤ i → a ++ leaving (drop i es) ≡ w → a ≡ w
leaving_end a w es i l r = sym (append_nil a) ∙ ap (λ ds. a ++ leaving ds) (sym (drop_all es i l)) ∙ r
  where
    append_nil : (a : List Emitted) → a ++ [] ≡ a
    append_nil [] = refl
    append_nil (x ∷ xs) = ap (λ l. x ∷ l) (append_nil xs)

    drop_all : (xs : List Emitted) (i : ℕ) → length xs ≤ i → drop i xs ≡ []
    drop_all [] zero l = refl
    drop_all [] (suc i) l = refl
    drop_all (x ∷ xs) zero l = absurd (omega arith)
    drop_all (x ∷ xs) (suc i) l = drop_all xs i (omega arith)
