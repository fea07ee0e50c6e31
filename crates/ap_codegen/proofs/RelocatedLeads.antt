-- Steps of a clause without groups pass over none, so that with labels they keep the rules of code as they do without.
use Rattle.std.proofs.Common.{◌≡◌, Bool, true, false, ◌&&◌, List, [], ◌∷◌, refl, ap, sym, ◌∙◌}
use Rattle.std.specs.List.{list_all}
use Rattle.std.proofs.lemmas.Bool.{false≢true, and_parts}
use Rattle.ap_instr.specs.declared.instruction.Slot.TheVariants.{X}
use Rattle.ap_instr.specs.declared.instruction.Instr.TheVariants.{GetStructure, PutStructure, PutVariable, Call}
use Rattle.ap_instr.specs.Step.{Step, get_variable, get_value, get_constant, get_structure, put_variable, put_value, put_constant, put_structure, unify_variable, unify_value, unify_constant, call, execute, builtin, proceed, frame, jump, check_ground, check_indep, group, push, wait, other}
use Rattle.ap_codecheck.specs.Shape.{Shape, write, behind_argument, after}
use Rattle.ap_codegen.specs.declared.steps.Step.{Step as Emitted}
use Rattle.ap_codegen.specs.Emitted.{steps_of, leads_of}
use Rattle.ap_codegen.specs.Temporary.{ends}
use Rattle.ap_codegen.specs.Grouped.{straight, IsEnded}
use Rattle.ap_codegen.specs.Paces.{Paces, PacesLeads}
use Rattle.ap_codegen.proofs.Straight.{is_straight, Straight}
use Rattle.ap_codegen.proofs.StraightLeads.{straight_leads}

abbrev pub is_plain : Step → Bool
is_plain frame = false
is_plain jump = false
is_plain (check_ground v) = false
is_plain (check_indep v w) = false
is_plain (group n) = false
is_plain (push p n) = false
is_plain wait = false
is_plain other = false
is_plain _ = true

abbrev pub ArePlain : List Step → Type 0
ArePlain is = list_all is_plain is ≡ true

plain_straight : (is : List Step) → ArePlain is → Straight is
plain_straight [] h = h
plain_straight (i ∷ is) h =
    let b = and_parts (is_plain i) (list_all is_plain is) h in
    ap (λ c. c && list_all is_straight is) (one i b.0) ∙ plain_straight is b.1
  where
    one : (i : Step) → is_plain i ≡ true → is_straight i ≡ true
    one jump e = absurd (false≢true e)
    one (check_ground v) e = absurd (false≢true e)
    one (check_indep v w) e = absurd (false≢true e)
    one (group n) e = absurd (false≢true e)
    one _ e = refl

-- ---- the rules of code

-- behind a step that ends nothing stands
ended_behind : (i : Step) (is : List Step) → ends i ≡ true → IsEnded (straight (i ∷ is)) → is ≡ []
ended_behind i [] e h = refl
ended_behind i (j ∷ is) e h = absurd (false≢true (sym h.0 ∙ e))

ended_on : (i : Step) (is : List Step) → ends i ≡ false → IsEnded (straight (i ∷ is)) → IsEnded (straight is)
ended_on i [] e h = absurd (false≢true (sym e ∙ h.0))
ended_on i (j ∷ is) e h = h.2

pub led_paces : (is : List Step) (s : Shape) → ArePlain is → IsEnded (straight is) → PacesLeads 0 (straight is) s → Paces is s
led_paces [] s h e p = absurd p
led_paces (get_variable v a ∷ is) s h e (g, p) = (p.0, p.1, p.2, p.3, led_paces is (write v s) h (ended_on (get_variable v a) is refl e) p.4)
led_paces (get_value v a ∷ is) s h e (g, p) = (p.0, p.1, p.2, p.3, p.4, led_paces is s h (ended_on (get_value v a) is refl e) p.5)
led_paces (get_constant c a ∷ is) s h e (g, p) = (p.0, p.1, p.2, led_paces is s h (ended_on (get_constant c a) is refl e) p.3)
led_paces (get_structure f n a ∷ is) s h e (g, p) = (p.0, p.1, p.2, led_paces is (after (GetStructure f n a) s) h (ended_on (get_structure f n a) is refl e) p.3)
led_paces (put_variable v a ∷ is) s h e (g, p) = (p.0, p.1, p.2, led_paces is (after (PutVariable v a) s) h (ended_on (put_variable v a) is refl e) p.3)
led_paces (put_value v a ∷ is) s h e (g, p) = (p.0, p.1, p.2, p.3, led_paces is (write (X a) s) h (ended_on (put_value v a) is refl e) p.4)
led_paces (put_constant c a ∷ is) s h e (g, p) = (p.0, p.1, led_paces is (write (X a) s) h (ended_on (put_constant c a) is refl e) p.2)
led_paces (put_structure f n a ∷ is) s h e (g, p) = (p.0, p.1, led_paces is (after (PutStructure f n a) s) h (ended_on (put_structure f n a) is refl e) p.2)
led_paces (unify_variable v ∷ is) s h e (g, p) = (p.0, p.1, led_paces is (behind_argument (write v s)) h (ended_on (unify_variable v) is refl e) p.2)
led_paces (unify_value v ∷ is) s h e (g, p) = (p.0, p.1, p.2, led_paces is (behind_argument s) h (ended_on (unify_value v) is refl e) p.3)
led_paces (unify_constant c ∷ is) s h e (g, p) = (p.0, led_paces is (behind_argument s) h (ended_on (unify_constant c) is refl e) p.1)
led_paces (call q n ∷ is) s h e (g, p) = (p.0, p.1, p.2, led_paces is (after (Call 0) s) h (ended_on (call q n) is refl e) p.3)
led_paces (builtin q n ∷ is) s h e (g, p) = (p.0, p.1, led_paces is s h (ended_on (builtin q n) is refl e) p.2)
led_paces (execute q n ∷ is) s h e (g, p) = (p.0, p.1, ended_behind (execute q n) is refl e)
led_paces (proceed ∷ is) s h e (g, p) = (p.0, ended_behind proceed is refl e)
led_paces (i ∷ is) s h e p = absurd (false≢true h)

pub leads_plain : (es : List Emitted) → ArePlain (steps_of es) → leads_of es ≡ straight (steps_of es)
leads_plain es h = straight_leads es (plain_straight (steps_of es) h)
