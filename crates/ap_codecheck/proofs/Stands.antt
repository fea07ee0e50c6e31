-- What sound code has at each place that control comes to.
use Rattle.std.proofs.Common.{◌≡◌, ℕ, zero, suc, ◌+◌, ◌<◌, ◌==◌, nat_lt, Bool, true, false, Some, refl, sym, ◌∙◌, ap, subst, arith}
use Rattle.std.specs.List.{slice_get}
use Rattle.std.proofs.lemmas.Bool.Decides.{nat_tests}
use Rattle.ap_instr.specs.declared.instruction.Instr.{Instr}
use Rattle.ap_instr.specs.declared.instruction.Instr.TheVariants.{UnifyVariable, UnifyValue, UnifyConstant, UnifyInteger}
use Rattle.ap_instr.specs.declared.compiled.Predicate.{Predicate}
use Rattle.ap_instr.specs.Code.{Compiled}
use Rattle.ap_codecheck.specs.declared.rule.Rule.TheVariants.{Operand, Target, Unset, Environment, Argument, Group, End, Called}
use Rattle.ap_codecheck.specs.Shape.{Shape, entry, after, write, passed, behind_argument}
use Rattle.ap_codecheck.specs.Paths.{Leads, Begins, Reaches}
use Rattle.ap_codecheck.specs.Rules.{is_argument}
use Rattle.ap_codecheck.specs.Laws.{PlaceLaw, WayLaw, ArgumentsLaw}
use Rattle.ap_codecheck.proofs.Ways.{held_at, Path-more}

pub stands : PlaceLaw
stands code number p at s sound e r =
    let ends = ((sound End at).each number p e).0 s r in
    let place = ends.0 in
    let here = held_at code at place.held in
    record {
      instr = here.0;
      held = here.1;
      place = place;
      range = (sound Operand at).each number p e place here.0 here.1;
      inside = (sound Target at).each number p e place here.0 here.1;
      reads = (sound Unset at).each number p e s r here.0 here.1;
      environment = (sound Environment at).each number p e s r here.0 here.1;
      turn = (sound Argument at).each number p e s r here.0 here.1;
      group = (sound Group at).each number p e s r here.0 here.1;
      on = ends.1 here.0 here.1;
      known = (sound Called at).each number p e place here.0 here.1;
    }

pub reaches-begin : (code : Compiled) (p : Predicate) (at : ℕ) → Begins code p at → Reaches code p at (entry p.arity)
reaches-begin code p at b = (at, 0, b, (refl, refl))

pub reaches-next : (code : Compiled) (p : Predicate) (at to : ℕ) (s : Shape) (i : Instr) → Reaches code p at s → slice_get code.instructions at ≡ Some i → Leads i at to → Reaches code p to (after i s)
reaches-next code p at to s i r e l = (r.0, suc r.1, r.2, Path-more code r.1 r.0 at to (entry p.arity) s i r.3 e l)

pub ways : WayLaw
ways = (reaches-begin, reaches-next)

-- behind an argument one less is to come
pending-behind : (s : Shape) (k : ℕ) → suc k < s.pending → k < (behind_argument s).pending
pending-behind s k h =
    let P : Bool → Type 0 = λ b. k < (passed b s).pending in
    let no : (s.pending == 1) ≡ false = grind (arith, nat_tests) in
    subst P (sym no) (omega arith)

argument_leads : (i : Instr) (at : ℕ) → is_argument i ≡ true → Leads i at (at + 1)
argument_leads (UnifyVariable v) at h = refl
argument_leads (UnifyValue v) at h = refl
argument_leads (UnifyConstant c) at h = refl
argument_leads (UnifyInteger n) at h = refl
argument_leads _ at h = cc

argument_pending : (i : Instr) (s : Shape) (k : ℕ) → is_argument i ≡ true → suc k < s.pending → k < (after i s).pending
argument_pending (UnifyVariable v) s k h l = pending-behind (write v s) k l
argument_pending (UnifyValue v) s k h l = pending-behind s k l
argument_pending (UnifyConstant c) s k h l = pending-behind s k l
argument_pending (UnifyInteger n) s k h l = pending-behind s k l
argument_pending _ s k h l = cc

is_pending : (m : ℕ) → 0 < m → nat_lt 0 m ≡ true
is_pending m h = grind (arith, nat_tests)

pub arguments : ArgumentsLaw
arguments code number p at zero s sound e r h =
    let here = stands code number p at s sound e r in
    let same : at + 0 ≡ at = omega arith in
    (here.instr, ap (slice_get code.instructions) same ∙ here.held, here.turn ∙ is_pending s.pending h)
arguments code number p at (suc k) s sound e r h =
    let here = stands code number p at s sound e r in
    let is_one : is_argument here.instr ≡ true = here.turn ∙ is_pending s.pending (omega arith) in
    let next = reaches-next code p at (at + 1) s here.instr r here.held (argument_leads here.instr at is_one) in
    let found = arguments code number p (at + 1) k (after here.instr s) sound e next (argument_pending here.instr s k is_one h) in
    let same : at + suc k ≡ at + 1 + k = omega arith in
    (found.0, ap (slice_get code.instructions) same ∙ found.1, found.2)
