-- What code asks for doesn't depend on registers that aren't set.
use Rattle.std.proofs.Common.{◌≡◌, ℕ, zero, suc, ◌+◌, ◌<◌, ◌≤◌, ◌==◌, if◌then◌else◌, Bool, true, false, ℤ, List, ◌∷◌, Option, Some, None, refl, sym, ◌∙◌, ap, subst, inl, eq-eqb, arith}
use Rattle.std.specs.List.{slice_get}
use Rattle.std.proofs.lemmas.Bool.Decides.{nat_tests}
use Rattle.ap_term.specs.Tree.{Tree, none, more, count_trees, node, atom, int}
use Rattle.ap_instr.specs.declared.instruction.Slot.{Slot}
use Rattle.ap_instr.specs.declared.instruction.Slot.TheVariants.{X, Y}
use Rattle.ap_instr.specs.declared.instruction.Instr.{Instr}
use Rattle.ap_instr.specs.declared.instruction.Instr.TheVariants.{GetVariable, GetValue, GetConstant, GetInteger, GetStructure, PutVariable, PutValue, PutConstant, PutInteger, PutStructure, UnifyVariable, UnifyValue, UnifyConstant, UnifyInteger, Allocate, Deallocate, Call, Execute, Proceed, Builtin, Jump, Fail, Try, Retry, Trust, CheckGround, CheckIndep, AllocParcall, PushGoal, WaitAll}
use Rattle.ap_instr.specs.declared.compiled.Predicate.{Predicate}
use Rattle.ap_instr.specs.Code.{Compiled}
use Rattle.ap_instr.specs.Builtin.{builtin_name, builtin_arity}
use Rattle.ap_instr.specs.Step.{Step, get_constant, put_constant, unify_constant, call, execute, push, with_integer, with_predicate, step_of}
use Rattle.ap_instr.specs.Steps.{skipped, steps_from}
use Rattle.ap_instr.specs.Runs.{set, read, set_x, set_y, spread, applied, lost}
use Rattle.ap_codecheck.specs.Shape.{Shape, unset, is_set, write, with_target, passed, behind_argument, pushed, with_group, after}
use Rattle.ap_codecheck.specs.Paths.{Leads, Reaches}
use Rattle.ap_codecheck.specs.Rules.{arity_in, ArgumentsSet, ReadsSet, GoesOn, IsSound}
use Rattle.ap_codecheck.specs.Laws.{Agree, Ignores, UnsetLaw}
use Rattle.ap_instr.proofs.Steps.{steps_law}
use Rattle.ap_codecheck.proofs.Stands.{stands, reaches-next}

chosen : (b : Bool) (p q : Bool) (t u m n : Tree) → t ≡ u → (q ≡ true → m ≡ n) → (if b then p else q) ≡ true → (if b then t else m) ≡ (if b then u else n)
chosen true p q t u m n e f h = e
chosen false p q t u m n e f h = f h

set_agree : (P : ℕ → Bool) (c : Bool) (x v : ℕ → Tree) (n : ℕ) (t u : Tree) → t ≡ u → ((k : ℕ) → P k ≡ true → x k ≡ v k) → (k : ℕ) → set P n c k ≡ true → set x n t k ≡ set v n u k
set_agree P c x v n t u e f k h = chosen (k == n) c (P k) t u (x k) (v k) e (f k) h

either : (b : Bool) (t u m n : Tree) → t ≡ u → m ≡ n → (if b then t else m) ≡ (if b then u else n)
either true t u m n e f = e
either false t u m n e f = f

sure : (b : Bool) (t u m n : Tree) → b ≡ true → t ≡ u → (if b then t else m) ≡ (if b then u else n)
sure true t u m n h e = e
sure false t u m n h e = cc

write-agree : (s : Shape) (r : Slot) (x y v w : ℕ → Tree) (t u : Tree) → t ≡ u → Agree s x y v w → Agree (write r s) (set_x r t x) (set_y r t y) (set_x r u v) (set_y r u w)
write-agree s (X n) x y v w t u e a =
    record {
      registers = set_agree s.x true x v n t u e a.registers;
      variables = a.variables;
      target = λ k h. either (k == n) t u (x k) (v k) e (a.target k h);
    }
write-agree s (Y n) x y v w t u e a =
    record { registers = a.registers; variables = set_agree s.y true y w n t u e a.variables; target = a.target }

read-agree : (s : Shape) (r : Slot) (x y v w : ℕ → Tree) → Agree s x y v w → is_set s r ≡ true → read r x y ≡ read r v w
read-agree s (X n) x y v w a h = a.registers n h
read-agree s (Y n) x y v w a h = a.variables n h

named : (b : Bool) (k n : ℕ) → b ≡ (k == n) → (P : ℕ → Bool) (x v : ℕ → Tree) → ((j : ℕ) → P j ≡ true → x j ≡ v j) → ((j : ℕ) → Some n ≡ Some j → x j ≡ v j) → (if b then true else P k) ≡ true → x k ≡ v k
named true k n e P x v f g h = (let same : n ≡ k = grind (arith, nat_tests) in g k (ap Some same))
named false k n e P x v f g h = f k h

target_of : (o : Option ℕ) (P : ℕ → Bool) (x v : ℕ → Tree) → ((k : ℕ) → P k ≡ true → x k ≡ v k) → ((k : ℕ) → o ≡ Some k → x k ≡ v k) → (k : ℕ) → with_target o P k ≡ true → x k ≡ v k
target_of None P x v f g k h = f k h
target_of (Some n) P x v f g k h = named (k == n) k n refl P x v f g h

behind-agree : (s : Shape) (x y v w : ℕ → Tree) → Agree s x y v w → Agree (behind_argument s) x y v w
behind-agree s x y v w a =
    let P : Bool → Type 0 = λ b. Agree (passed b s) x y v w in
    elim (s.pending == 1) as P [
      | true ↦ record { registers = target_of s.target s.x x v a.registers a.target; variables = a.variables; target = λ k h. cc }
      | false ↦ record { registers = a.registers; variables = a.variables; target = a.target }
    ]

behind_count : (b : Bool) (s : Shape) (n : ℕ) → b ≡ (s.pending == 1) → n + 1 ≡ s.pending → n ≡ (passed b s).pending
behind_count true s n e h = (let one : s.pending ≡ 1 = grind (arith, nat_tests) in omega arith)
behind_count false s n e h = omega arith

behind-count : (s : Shape) (n : ℕ) → n + 1 ≡ s.pending → n ≡ (behind_argument s).pending
behind-count s n h = behind_count (s.pending == 1) s n refl h

spread-agree : (n p : ℕ) (x v : ℕ → Tree) → ((a : ℕ) → p ≤ a → a < p + n → x a ≡ v a) → spread x p n ≡ spread v p n
spread-agree zero p x v f = refl
spread-agree (suc n) p x v f =
    let first : x p ≡ v p = f p (omega arith) (omega arith) in
    let rest : spread x (p + 1) n ≡ spread v (p + 1) n = spread-agree n (p + 1) x v (λ a h k. f a (omega arith) (omega arith)) in
    cc

arguments-agree : (s : Shape) (n : ℕ) (x y v w : ℕ → Tree) → Agree s x y v w → ArgumentsSet n s → spread x 1 n ≡ spread v 1 n
arguments-agree s n x y v w a f = spread-agree n 1 x v (λ k h l. a.registers k (f k (omega arith) (omega arith)))

same_name : (a b : ℕ) → Some a ≡ Some b → (b == a) ≡ true
same_name a b e = (let same : b ≡ a = cc in eq-eqb b a same)

awaited_name : (c : Bool) (a b : ℕ) → (if c then None else Some a) ≡ Some b → (b == a) ≡ true
awaited_name true a b e = cc
awaited_name false a b e = same_name a b e

get_const : (c : Tree) (a : ℕ) (js : List Step) (s : Shape) → s.x a ≡ true → Ignores js s → Ignores (get_constant c a ∷ js) s
get_const c a js s r k none x y v w bs n l h = (sym (l.registers a r) ∙ h.0, k none x y v w bs n l h.1)
get_const c a js s r k (more t ts) x y v w bs n l h = h

put_const : (c : Tree) (a : ℕ) (js : List Step) (s : Shape) → Ignores js (write (X a) s) → Ignores (put_constant c a ∷ js) s
put_const c a js s k none x y v w bs n l h = k none (set x a c) y (set v a c) w bs n (write-agree s (X a) x y v w c c refl l) h
put_const c a js s k (more t ts) x y v w bs n l h = h

unify_const : (c : Tree) (js : List Step) (s : Shape) → Ignores js (behind_argument s) → Ignores (unify_constant c ∷ js) s
unify_const c js s k none x y v w bs n l h = h
unify_const c js s k (more t ts) x y v w bs n l h =
    (h.0, k ts x y v w bs (behind-count s (count_trees ts) n) (behind-agree s x y v w l) h.1)

get_int : (o : Option ℤ) (a : ℕ) (js : List Step) (s : Shape) → s.x a ≡ true → Ignores js s → Ignores (with_integer o (λ c. get_constant c a) ∷ js) s
get_int (Some z) a js s r k ts x y v w bs n l h = get_const (int z) a js s r k ts x y v w bs n l h
get_int None a js s r k none x y v w bs n l h = h
get_int None a js s r k (more t ts) x y v w bs n l h = h

put_int : (o : Option ℤ) (a : ℕ) (js : List Step) (s : Shape) → Ignores js (write (X a) s) → Ignores (with_integer o (λ c. put_constant c a) ∷ js) s
put_int (Some z) a js s k ts x y v w bs n l h = put_const (int z) a js s k ts x y v w bs n l h
put_int None a js s k none x y v w bs n l h = h
put_int None a js s k (more t ts) x y v w bs n l h = h

unify_int : (o : Option ℤ) (js : List Step) (s : Shape) → Ignores js (behind_argument s) → Ignores (with_integer o unify_constant ∷ js) s
unify_int (Some z) js s k ts x y v w bs n l h = unify_const (int z) js s k ts x y v w bs n l h
unify_int None js s k none x y v w bs n l h = h
unify_int None js s k (more t ts) x y v w bs n l h = h

called : (o : Option Predicate) (js : List Step) (s : Shape) → ArgumentsSet (arity_in o) s → Ignores js (record { x = unset; y = s.y; room = s.room; pending = s.pending; target = s.target; group = s.group }) → Ignores (with_predicate o call ∷ js) s
called None js s r k none x y v w bs n l h = h
called None js s r k (more t ts) x y v w bs n l h = h
called (Some p) js s r k none x y v w bs n l h =
    let same = arguments-agree s p.arity x y v w l r in
    (h.0, h.1 ∙ ap (λ us. more (applied p.name us) h.0) same, k none lost y lost w h.0 n (record { registers = λ a e. refl; variables = l.variables; target = λ a e. refl }) h.2)
called (Some p) js s r k (more t ts) x y v w bs n l h = h

pushes : (o : Option Predicate) (i : ℕ) (js : List Step) (s : Shape) → ArgumentsSet (arity_in o) s → Ignores js (with_group (pushed i s.group) s) → Ignores (with_predicate o push ∷ js) s
pushes None i js s r k none x y v w bs n l h = h
pushes None i js s r k (more t ts) x y v w bs n l h = h
pushes (Some p) i js s r k none x y v w bs n l h =
    let same = arguments-agree s p.arity x y v w l r in
    (h.0, h.1 ∙ ap (λ us. more (applied p.name us) h.0) same, k none x y v w h.0 n (record { registers = l.registers; variables = l.variables; target = l.target }) h.2)
pushes (Some p) i js s r k (more t ts) x y v w bs n l h = h

executed : (o : Option Predicate) (js : List Step) (s : Shape) → ArgumentsSet (arity_in o) s → Ignores (with_predicate o execute ∷ js) s
executed None js s r none x y v w bs n l h = h
executed None js s r (more t ts) x y v w bs n l h = h
executed (Some p) js s r none x y v w bs n l h = h ∙ ap (λ us. more (applied p.name us) none) (arguments-agree s p.arity x y v w l r)
executed (Some p) js s r (more t ts) x y v w bs n l h = h

-- ---- where the steps go on behind an instruction

abbrev goes_to : Instr → ℕ → ℕ
goes_to (Jump l) at = l
goes_to i at = at + 1

goes-same : (i : Instr) (at : ℕ) → GoesOn i at → at + 1 + skipped i at ≡ goes_to i at
goes-same (Jump l) at g = omega (arith, g)
goes-same i at g = let same : at + 1 + 0 ≡ at + 1 = omega arith in same

goes_forward : (i : Instr) (at : ℕ) → GoesOn i at → at < goes_to i at
goes_forward (Jump l) at g = g
goes_forward i at g = let less : at < at + 1 = omega arith in less

-- an instruction, where what it reads is set and what stands behind it ignores the registers that aren't set behind it
ignores : (code : Compiled) (i : Instr) (at : ℕ) (js : List Step) (s : Shape) → ReadsSet code i s → (Leads i at (goes_to i at) → Ignores js (after i s)) → Ignores (step_of code i ∷ js) s
ignores code (GetVariable r a) at js s p k none x y v w bs n l h =
    k refl none (set_x r (x a) x) (set_y r (x a) y) (set_x r (v a) v) (set_y r (v a) w) bs n (write-agree s r x y v w (x a) (v a) (l.registers a p) l) h
ignores code (GetVariable r a) at js s p k (more t ts) x y v w bs n l h = h
ignores code (GetValue r a) at js s p k none x y v w bs n l h =
    (sym (read-agree s r x y v w l p.0) ∙ (h.0 ∙ l.registers a p.1), k refl none x y v w bs n l h.1)
ignores code (GetValue r a) at js s p k (more t ts) x y v w bs n l h = h
ignores code (GetConstant c a) at js s p k ts x y v w bs n l h = get_const (atom c) a js s p (k refl) ts x y v w bs n l h
ignores code (GetInteger i a) at js s p k ts x y v w bs n l h = get_int (slice_get code.integers i) a js s p (k refl) ts x y v w bs n l h
ignores code (GetStructure f m a) at js s p k none x y v w bs n l h =
    (h.0, h.1, sym (l.registers a p) ∙ h.2, k refl h.0 x y v w bs h.1 (record { registers = l.registers; variables = l.variables; target = λ b e. cc }) h.3)
ignores code (GetStructure f m a) at js s p k (more t ts) x y v w bs n l h = h
ignores code (PutVariable r a) at js s p k none x y v w bs n l h =
    (h.0, k refl none (set (set_x r h.0 x) a h.0) (set_y r h.0 y) (set (set_x r h.0 v) a h.0) (set_y r h.0 w) bs n (write-agree (write r s) (X a) (set_x r h.0 x) (set_y r h.0 y) (set_x r h.0 v) (set_y r h.0 w) h.0 h.0 refl (write-agree s r x y v w h.0 h.0 refl l)) h.1)
ignores code (PutVariable r a) at js s p k (more t ts) x y v w bs n l h = h
ignores code (PutValue r a) at js s p k none x y v w bs n l h =
    k refl none (set x a (read r x y)) y (set v a (read r v w)) w bs n (write-agree s (X a) x y v w (read r x y) (read r v w) (read-agree s r x y v w l p) l) h
ignores code (PutValue r a) at js s p k (more t ts) x y v w bs n l h = h
ignores code (PutConstant c a) at js s p k ts x y v w bs n l h = put_const (atom c) a js s (k refl) ts x y v w bs n l h
ignores code (PutInteger i a) at js s p k ts x y v w bs n l h = put_int (slice_get code.integers i) a js s (k refl) ts x y v w bs n l h
ignores code (PutStructure f m a) at js s p k none x y v w bs n l h =
    (h.0, h.1, k refl h.0 (set x a (node f h.0)) y (set v a (node f h.0)) w bs h.1 (record { registers = set_agree s.x (m == 0) x v a (node f h.0) (node f h.0) refl l.registers; variables = l.variables; target = λ b e. sure (b == a) (node f h.0) (node f h.0) (x b) (v b) (awaited_name (m == 0) a b e) refl }) h.2)
ignores code (PutStructure f m a) at js s p k (more t ts) x y v w bs n l h = h
ignores code (UnifyVariable r) at js s p k none x y v w bs n l h = h
ignores code (UnifyVariable r) at js s p k (more t ts) x y v w bs n l h =
    k refl ts (set_x r t x) (set_y r t y) (set_x r t v) (set_y r t w) bs (behind-count (write r s) (count_trees ts) n) (behind-agree (write r s) (set_x r t x) (set_y r t y) (set_x r t v) (set_y r t w) (write-agree s r x y v w t t refl l)) h
ignores code (UnifyValue r) at js s p k none x y v w bs n l h = h
ignores code (UnifyValue r) at js s p k (more t ts) x y v w bs n l h =
    (sym (read-agree s r x y v w l p) ∙ h.0, k refl ts x y v w bs (behind-count s (count_trees ts) n) (behind-agree s x y v w l) h.1)
ignores code (UnifyConstant c) at js s p k ts x y v w bs n l h = unify_const (atom c) js s (k refl) ts x y v w bs n l h
ignores code (UnifyInteger i) at js s p k ts x y v w bs n l h = unify_int (slice_get code.integers i) js s (k refl) ts x y v w bs n l h
ignores code (Allocate m) at js s p k none x y v w bs n l h =
    k refl none x y v w bs n (record { registers = l.registers; variables = λ b e. cc; target = l.target }) h
ignores code (Allocate m) at js s p k (more t ts) x y v w bs n l h = h
ignores code Deallocate at js s p k none x y v w bs n l h =
    k refl none x y v w bs n (record { registers = l.registers; variables = λ b e. cc; target = l.target }) h
ignores code Deallocate at js s p k (more t ts) x y v w bs n l h = h
ignores code (Call q) at js s p k ts x y v w bs n l h = called (slice_get code.predicates q) js s p (k refl) ts x y v w bs n l h
ignores code (Execute q) at js s p k ts x y v w bs n l h = executed (slice_get code.predicates q) js s p ts x y v w bs n l h
ignores code Proceed at js s p k none x y v w bs n l h = h
ignores code Proceed at js s p k (more t ts) x y v w bs n l h = h
ignores code (Builtin b) at js s p k none x y v w bs n l h =
    let same = arguments-agree s (builtin_arity b) x y v w l p in
    (h.0, h.1 ∙ ap (λ us. more (applied (builtin_name b) us) h.0) same, k refl none x y v w h.0 n l h.2)
ignores code (Builtin b) at js s p k (more t ts) x y v w bs n l h = h
ignores code (Jump q) at js s p k none x y v w bs n l h = k refl none x y v w bs n l h
ignores code (Jump q) at js s p k (more t ts) x y v w bs n l h = h
ignores code Fail at js s p k none x y v w bs n l h = h
ignores code Fail at js s p k (more t ts) x y v w bs n l h = h
ignores code (Try q) at js s p k none x y v w bs n l h = h
ignores code (Try q) at js s p k (more t ts) x y v w bs n l h = h
ignores code (Retry q) at js s p k none x y v w bs n l h = h
ignores code (Retry q) at js s p k (more t ts) x y v w bs n l h = h
ignores code (Trust q) at js s p k none x y v w bs n l h = h
ignores code (Trust q) at js s p k (more t ts) x y v w bs n l h = h
ignores code (CheckGround r q) at js s p k none x y v w bs n l h =
    let same = read-agree s r x y v w l p in
    let asked = h.1 in
    (h.0, cc, k (inl refl) none x y v w h.0 n l h.2)
ignores code (CheckGround r q) at js s p k (more t ts) x y v w bs n l h = h
ignores code (CheckIndep r u q) at js s p k none x y v w bs n l h =
    let first = read-agree s r x y v w l p.0 in
    let second = read-agree s u x y v w l p.1 in
    let asked = h.1 in
    (h.0, cc, k (inl refl) none x y v w h.0 n l h.2)
ignores code (CheckIndep r u q) at js s p k (more t ts) x y v w bs n l h = h
ignores code (AllocParcall m d) at js s p k none x y v w bs n l h =
    (h.0, h.1, k refl none x y v w h.0 n (record { registers = l.registers; variables = l.variables; target = l.target }) h.2)
ignores code (AllocParcall m d) at js s p k (more t ts) x y v w bs n l h = h
ignores code (PushGoal i q) at js s p k ts x y v w bs n l h = pushes (slice_get code.predicates q) i js s p (k refl) ts x y v w bs n l h
ignores code WaitAll at js s p k none x y v w bs n l h =
    k refl none lost y lost w bs n (record { registers = λ a e. refl; variables = l.variables; target = λ a e. refl }) h
ignores code WaitAll at js s p k (more t ts) x y v w bs n l h = h

-- ---- the code from a place on, of which so many instructions at most are left in the predicate

rest-ignores : (code : Compiled) (number : ℕ) (p : Predicate) → IsSound code → slice_get code.predicates number ≡ Some p → (n at : ℕ) (s : Shape) → p.end ≤ at + n → Reaches code p at s → Ignores (steps_from code at) s
rest-ignores code number p sound e zero at s h r = absurd (omega (arith, h, (stands code number p at s sound e r).place.before))
rest-ignores code number p sound e (suc n) at s h r =
    let here = stands code number p at s sound e r in
    let further : at < goes_to here.instr at = goes_forward here.instr at here.on in
    let same = steps_law code at here.instr here.held ∙ ap (λ k. step_of code here.instr ∷ steps_from code k) (goes-same here.instr at here.on) in
    let P : List Step → Type 0 = λ js. Ignores js s in
    subst P (sym same)
    (ignores code here.instr at (steps_from code (goes_to here.instr at)) s here.reads
    (λ leads. rest-ignores code number p sound e n (goes_to here.instr at) (after here.instr s) (omega arith) (reaches-next code p at (goes_to here.instr at) s here.instr r here.held leads)))

pub unset-law : UnsetLaw
unset-law code number p at s sound e r = rest-ignores code number p sound e p.end at s (omega arith) r
