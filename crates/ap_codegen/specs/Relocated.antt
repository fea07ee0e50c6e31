-- Code whose variables stand in other places: in the argument registers that they come from or go to, in registers, or in
-- permanent variables. The choice is free; one walk over both codes on each of their ways, which numbers the values that
-- their places hold, tests it.
use Rattle.std.specs.Prelude.{ℕ, zero, suc, ◌+◌, nat_le, Bool, true, false, ◌&&◌, ◌||◌, ◌==◌, not, ◌≡◌, ◌<◌, ◌≤◌, List, [], ◌∷◌, slice_index, Option, Some, None, is_some}
use Rattle.ap_term.specs.Goals.{Clause}
use Rattle.ap_instr.specs.declared.instruction.Slot.{Slot}
use Rattle.ap_instr.specs.declared.instruction.Slot.TheVariants.{X, Y}
use Rattle.ap_instr.specs.Step.{Step, get_variable, get_value, get_constant, get_structure, put_variable, put_value, put_constant, put_structure, unify_variable, unify_value, unify_constant, call, execute, builtin, proceed, frame, jump, check_ground, check_indep, group, push, wait, other}
use Rattle.ap_instr.specs.Runs.{read, set_x, set_y}
use Rattle.ap_codecheck.specs.Shape.{Shape, entry, unset}
use Rattle.ap_codegen.specs.declared.steps.Step.{Step as Emitted}
use Rattle.ap_codegen.specs.declared.steps.Step.TheVariants.{GetVariable, GetValue, GetConstant, GetInteger, GetStructure, PutVariable, PutValue, PutConstant, PutInteger, PutStructure, UnifyVariable, UnifyValue, Jump, CheckGround, CheckIndep, AllocParcall}
use Rattle.ap_codegen.specs.declared.relocating.Change.{Change as Chosen}
use Rattle.ap_codegen.specs.declared.relocating.Change.TheVariants.{Kept, Dropped}
use Rattle.ap_codegen.specs.declared.relocating.Numbers.{Numbers}
use Rattle.ap_codegen.specs.declared.relocating.Way.{Way}
use Rattle.ap_codegen.specs.declared.relocating.Way.TheVariants.{Outside, Sides, Turns}
use Rattle.ap_codegen.specs.declared.relocating.Walk.{Walk}
use Rattle.ap_codegen.specs.Emitted.{steps_of, label_of, Lead, lead_of, leads_of}
use Rattle.ap_codegen.specs.Temporary.{ends}
use Rattle.ap_codegen.specs.Said.{AreNumbered}
use Rattle.ap_codegen.specs.Grouped.{has_turns, IsEnded, IsGroupedCode}
use Rattle.ap_codegen.specs.Paces.{Paces, PacesLeads, AreInRange, inside}

-- What becomes of a step: it stays with another place and another argument register, a check of two with two other places,
-- or it falls away.
pub data Change : Type 0 where
  kept : Lead → Slot → Slot → Change
  dropped : Lead → Change

abbrev pub change_of : Chosen → Change
change_of (Kept s u o) = kept (lead_of s) u o
change_of (Dropped s) = dropped (lead_of s)

abbrev pub changes_of : List Chosen → List Change
changes_of [] = []
changes_of (c ∷ cs) = change_of c ∷ changes_of cs

abbrev pub step_in : Chosen → Emitted
step_in (Kept s u o) = s
step_in (Dropped s) = s

-- the steps as they were
abbrev pub olds : List Change → List Lead
olds [] = []
olds (kept l u o ∷ cs) = l ∷ olds cs
olds (dropped l ∷ cs) = l ∷ olds cs

-- the number of a register, 0 for a permanent variable
abbrev pub register : Slot → ℕ
register (X n) = n
register (Y n) = 0

abbrev pub relocated : Step → Slot → Slot → Step
relocated (get_variable v a) u o = get_variable u (register o)
relocated (get_value v a) u o = get_value u (register o)
relocated (get_constant c a) u o = get_constant c (register o)
relocated (get_structure f n a) u o = get_structure f n (register o)
relocated (put_variable v a) u o = put_variable u (register o)
relocated (put_value v a) u o = put_value u (register o)
relocated (put_constant c a) u o = put_constant c (register o)
relocated (put_structure f n a) u o = put_structure f n (register o)
relocated (unify_variable v) u o = unify_variable u
relocated (unify_value v) u o = unify_value u
relocated (check_ground v) u o = check_ground u
relocated (check_indep v w) u o = check_indep u o
relocated s u o = s

-- how many of the first n steps stay
abbrev pub staying : ℕ → List Change → ℕ
staying zero cs = 0
staying (suc n) [] = 0
staying (suc n) (kept l u o ∷ cs) = suc (staying n cs)
staying (suc n) (dropped l ∷ cs) = staying n cs

-- the steps as they become; those that are passed over are counted anew
abbrev pub news : List Change → List Lead
news [] = []
news (kept l u o ∷ cs) = (relocated l.0 u o, staying l.1 cs) ∷ news cs
news (dropped l ∷ cs) = news cs

-- the number at a place of a list, 0 behind it
abbrev pub by : List ℕ → ℕ → ℕ
by ns n = slice_index ns n

-- The numbers of the values that places hold in the code as it was and as it becomes, 0 where none is known; and a number
-- that no value has yet.
pub record Known : Type 0 where
  pub former_x : ℕ → ℕ
  pub former_y : ℕ → ℕ
  pub latter_x : ℕ → ℕ
  pub latter_y : ℕ → ℕ
  pub next : ℕ

abbrev pub known_by : Numbers → Known
known_by n = record { former_x = by n.former_x.items; former_y = by n.former_y.items; latter_x = by n.latter_x.items; latter_y = by n.latter_y.items; next = n.next }

abbrev pub former : Known → Slot → ℕ
former k v = read v k.former_x k.former_y

abbrev pub latter : Known → Slot → ℕ
latter k u = read u k.latter_x k.latter_y

-- whether the one place holds now what the other one held
abbrev pub is_same : Known → Slot → Slot → Bool
is_same k v u = nat_le 1 (former k v) && (former k v == latter k u)

abbrev pub all_same : Known → ℕ → Bool
all_same k zero = true
all_same k (suc n) = all_same k n && is_same k (X (suc n)) (X (suc n))

-- a place that there is, inside an environment for so many permanent variables or outside of one
abbrev pub is_within : ℕ → Option ℕ → Bool
is_within n None = false
is_within n (Some room) = nat_le n room

abbrev pub has_room : Option ℕ → Slot → Bool
has_room room (X n) = nat_le 1 n
has_room room (Y n) = nat_le 1 n && is_within n room

abbrev pub set_former : Known → Slot → ℕ → Known
set_former k v n = record { former_x = set_x v n k.former_x; former_y = set_y v n k.former_y; latter_x = k.latter_x; latter_y = k.latter_y; next = k.next }

abbrev pub set_latter : Known → Slot → ℕ → Known
set_latter k u n = record { former_x = k.former_x; former_y = k.former_y; latter_x = set_x u n k.latter_x; latter_y = set_y u n k.latter_y; next = k.next }

-- both places get one new value
abbrev pub set_both : Known → Slot → Slot → Known
set_both k v u = record { former_x = set_x v k.next k.former_x; former_y = set_y v k.next k.former_y; latter_x = set_x u k.next k.latter_x; latter_y = set_y u k.next k.latter_y; next = k.next + 1 }

-- behind a call, and behind a group, the X registers are lost
abbrev pub behind_call : Known → Known
behind_call k = record { former_x = by []; former_y = k.former_y; latter_x = by []; latter_y = k.latter_y; next = k.next }

-- behind a step that stays
abbrev pub behind : Known → Step → Slot → Slot → Known
behind k (get_variable v a) u o = set_latter (set_former k v (former k (X a))) u (latter k (X (register o)))
behind k (put_value v a) u o = set_latter (set_former k (X a) (former k v)) (X (register o)) (latter k u)
behind k (put_variable v a) u o = set_latter (set_former (set_both k v u) (X a) k.next) (X (register o)) k.next
behind k (put_constant c a) u o = set_both k (X a) (X (register o))
behind k (put_structure f n a) u o = set_both k (X a) (X (register o))
behind k (unify_variable v) u o = set_both k v u
behind k (call p n) u o = behind_call k
behind k wait u o = behind_call k
behind k s u o = k

-- behind a step that falls away
abbrev pub behind_none : Known → Step → Known
behind_none k (get_variable v a) = set_former k v (former k (X a))
behind_none k (put_value v a) = set_former k (X a) (former k v)
behind_none k s = k

-- only moves fall away
abbrev pub may_drop : Step → Bool
may_drop (get_variable v a) = true
may_drop (put_value v a) = true
may_drop _ = false

-- Whether there are a step's new places. Calls and groups need an environment.
abbrev pub fits : Option ℕ → Step → Slot → Slot → Bool
fits room (get_variable v a) u o = has_room room u && nat_le 1 (register o)
fits room (get_value v a) u o = has_room room u && nat_le 1 (register o)
fits room (get_constant c a) u o = nat_le 1 (register o)
fits room (get_structure f n a) u o = nat_le 1 (register o)
fits room (put_variable v a) u o = has_room room u && nat_le 1 (register o)
fits room (put_value v a) u o = has_room room u && nat_le 1 (register o)
fits room (put_constant c a) u o = nat_le 1 (register o)
fits room (put_structure f n a) u o = nat_le 1 (register o)
fits room (unify_variable v) u o = has_room room u
fits room (unify_value v) u o = has_room room u
fits room (unify_constant c) u o = true
fits room (execute p n) u o = true
fits room (builtin p n) u o = true
fits room proceed u o = true
fits room (check_ground v) u o = is_some room && has_room room u
fits room (check_indep v w) u o = is_some room && (has_room room u && has_room room o)
fits room (group n) u o = is_some room && nat_le 1 n
fits room frame u o = false
fits room other u o = false
fits room s u o = is_some room

abbrev pub change_fits : Option ℕ → Change → Bool
change_fits room (kept l u o) = fits room l.0 u o
change_fits room (dropped l) = may_drop l.0

-- whether a step does the same in its new places
abbrev pub is_kept : Known → Step → Slot → Slot → Bool
is_kept k (get_variable v a) u o = is_same k (X a) (X (register o))
is_kept k (get_value v a) u o = is_same k v u && is_same k (X a) (X (register o))
is_kept k (get_constant c a) u o = is_same k (X a) (X (register o))
is_kept k (get_structure f n a) u o = is_same k (X a) (X (register o))
is_kept k (put_value v a) u o = is_same k v u
is_kept k (unify_value v) u o = is_same k v u
is_kept k (call p n) u o = all_same k n
is_kept k (execute p n) u o = all_same k n
is_kept k (builtin p n) u o = all_same k n
is_kept k (push p n) u o = all_same k n
is_kept k (check_ground v) u o = is_same k v u
is_kept k (check_indep v w) u o = is_same k v u && is_same k w o
is_kept k s u o = true

-- nothing is known in the second that isn't in the first
pub record Forgets (k m : Known) : Type 0 where
  pub formers : (v : Slot) → 0 < former m v → former k v ≡ former m v
  pub latters : (u : Slot) → 0 < latter m u → latter k u ≡ latter m u
  pub next : k.next ≤ m.next

-- Each value stands at one place in the code as it becomes, so that whatever its places hold, places of the code as it was
-- can hold the same.
abbrev pub IsSingle : Known → Type 0
IsSingle k = (home : ℕ → Slot) × ((u : Slot) → 0 < latter k u → u ≡ home (latter k u))

-- Behind a step that stays others do, wherever control goes on: `K` of how many of them are passed over. A jump passes over no
-- checks and no groups.
abbrev pub Onward : Lead → (ℕ → Known → Type 0) → (ℕ → Type 0) → Known → Type 0
Onward (jump, n) K N k = N n × K n k
Onward (check_ground v, n) K N k = IsSingle k × K 0 k × K n k
Onward (check_indep v w, n) K N k = IsSingle k × K 0 k × K n k
Onward (group m, n) K N k = IsSingle k × K 0 k × K n k
Onward (execute p m, n) K N k = Unit {0}
Onward (proceed, n) K N k = Unit {0}
Onward (s, n) K N k = K 0 k

abbrev pub StaysOn : Change → (ℕ → Known → Type 0) → (ℕ → Type 0) → Known → Type 0
StaysOn (kept l u o) K N k = (is_kept k l.0 u o ≡ true) × Onward l K N (behind k l.0 u o)
StaysOn (dropped l) K N k = K 0 (behind_none k l.0)

abbrev pub never_turns : Change → Bool
never_turns (kept l u o) = not (has_turns l.0)
never_turns (dropped l) = true

-- none of the first n steps is a check or begins a group
abbrev pub NoTurns : ℕ → List Change → Type 0
NoTurns zero cs = Unit {0}
NoTurns (suc n) [] = Unit {0}
NoTurns (suc n) (c ∷ cs) = (never_turns c ≡ true) × NoTurns n cs

-- All steps behind the first n, which are passed over, do the same on both ways of each check and group, up to an end that there is.
-- What is known may be forgotten.
abbrev pub AreKept : ℕ → Known → List Change → Type 0
AreKept n k [] = ⊥
AreKept (suc n) k (c ∷ cs) = AreKept n k cs
AreKept zero k (c ∷ cs) = (m : Known) × Forgets k m × StaysOn c (λ n j. AreKept n j cs) (λ n. NoTurns n cs) m

-- whether a change does the same; and what is known behind it
abbrev pub does_same : Known → Change → Bool
does_same k (kept l u o) = is_kept k l.0 u o
does_same k (dropped l) = true

abbrev pub passed : Known → Change → Known
passed k (kept l u o) = behind k l.0 u o
passed k (dropped l) = behind_none k l.0

abbrev pub is_end : Change → Bool
is_end (kept l u o) = ends l.0
is_end (dropped l) = false

abbrev pub is_jump : Step → Bool
is_jump jump = true
is_jump _ = false

abbrev pub may_turn : Change → Bool
may_turn (kept l u o) = has_turns l.0
may_turn (dropped l) = false

abbrev pub is_leap : Change → Bool
is_leap (kept l u o) = is_jump l.0
is_leap (dropped l) = false

-- how many steps behind the next one it passes over
abbrev pub over : Change → ℕ
over (kept l u o) = l.1
over (dropped l) = l.1

-- whether just the next step comes behind one
abbrev pub leads_next : Step → Bool
leads_next jump = false
leads_next (check_ground v) = false
leads_next (check_indep v w) = false
leads_next (group n) = false
leads_next (execute p n) = false
leads_next proceed = false
leads_next _ = true

abbrev pub is_next : Change → Bool
is_next (kept l u o) = leads_next l.0
is_next (dropped l) = true

-- ---- the walk

-- in a list of numbers these are left, which are fine at their places
abbrev pub Left : (ℕ → ℕ) → (ℕ → ℕ) → (ℕ → ℕ → Type 0) → Type 0
Left old new P = (p : ℕ) → 0 < new p → (old p ≡ new p) × P p (new p)

abbrev pub WayKept : Way → List Change → Type 0
WayKept Outside cs = Unit {0}
WayKept (Sides n there) cs = AreKept n (known_by there) cs
WayKept (Turns n there) cs = NoTurns n cs × AreKept n (known_by there) cs

-- what the walk is at the beginning of is kept on the ways that it knows of
abbrev pub IsAhead : Walk → List Change → Type 0
IsAhead w cs = AreKept 0 (known_by w.numbers) cs × WayKept w.way cs

-- the change leads the walk on
abbrev pub LeadsOn : Walk → Walk → Change → Type 0
LeadsOn old new c = (cs : List Change) → IsAhead new cs → IsAhead old (c ∷ cs)

-- the other way is led on, over any change
abbrev pub PassesOver : Walk → Walk → Change → Type 0
PassesOver old new c = (cs : List Change) → IsAhead new cs → AreKept 0 (known_by old.numbers) cs × WayKept old.way (c ∷ cs)

-- ---- the steps as they are written

-- a step in its new places, which passes over so many others
abbrev pub placed : Emitted → Slot → Slot → ℕ → Emitted
placed (GetVariable v a) u o n = GetVariable u (register o)
placed (GetValue v a) u o n = GetValue u (register o)
placed (GetConstant c a) u o n = GetConstant c (register o)
placed (GetInteger z a) u o n = GetInteger z (register o)
placed (GetStructure f m a) u o n = GetStructure f m (register o)
placed (PutVariable v a w) u o n = PutVariable u (register o) w
placed (PutValue v a) u o n = PutValue u (register o)
placed (PutConstant c a) u o n = PutConstant c (register o)
placed (PutInteger z a) u o n = PutInteger z (register o)
placed (PutStructure f m a) u o n = PutStructure f m (register o)
placed (UnifyVariable v) u o n = UnifyVariable u
placed (UnifyValue v) u o n = UnifyValue u
placed (Jump m) u o n = Jump n
placed (CheckGround v m) u o n = CheckGround u n
placed (CheckIndep v w m) u o n = CheckIndep u o n
placed (AllocParcall k m) u o n = AllocParcall k n
placed e u o n = e

abbrev pub written : List Chosen → List Emitted
written [] = []
written (Kept e u o ∷ cs) = placed e u o (staying (label_of e) (changes_of cs)) ∷ written cs
written (Dropped e ∷ cs) = written cs

-- numbers that stand at their places, up to one
abbrev pub IsStart : List ℕ → ℕ → Type 0
IsStart ns n = ((p : ℕ) → 0 < by ns p → by ns p ≡ p) × ((p : ℕ) → by ns p ≤ n)

-- As a clause is entered registers hold what they held, and nothing is known of permanent variables.
pub record IsBegun (k : Known) : Type 0 where
  pub former_x : (p : ℕ) → 0 < k.former_x p → k.former_x p ≡ p
  pub latter_x : (p : ℕ) → 0 < k.latter_x p → k.latter_x p ≡ p
  pub former_y : k.former_y ≡ by []
  pub latter_y : k.latter_y ≡ by []
  pub former_below : (p : ℕ) → k.former_x p < k.next
  pub latter_below : (p : ℕ) → k.latter_x p < k.next

-- Whether a step asks for a goal, or steers a group; and whether one tests nothing outside of a structure. Behind the former no
-- test may come, so that the steps ask for something whatever places hold.
abbrev pub asks : Step → Bool
asks (call p n) = true
asks (builtin p n) = true
asks jump = true
asks (check_ground v) = true
asks (check_indep v w) = true
asks (group n) = true
asks (push p n) = true
asks wait = true
asks _ = false

abbrev pub tests_nothing : Step → Bool
tests_nothing (get_value v a) = false
tests_nothing (get_constant c a) = false
tests_nothing (get_structure f n a) = false
tests_nothing frame = false
tests_nothing other = false
tests_nothing _ = true

-- whether no test comes behind a goal
abbrev pub all_open : Bool → List Step → Bool
all_open asked [] = true
all_open asked (s ∷ is) = (not asked || tests_nothing s) && all_open (asked || asks s) is

-- where a clause begins, inside of an environment or outside
abbrev pub within : Option ℕ → ℕ → Shape
within room arity = record { x = (entry arity).x; y = unset; room = room; pending = 0; target = None; group = None }

-- The steps `out` do the same as the steps `es`, inside of an environment for so many variables or outside of one.
pub record AreTested (room : Option ℕ) (es out : List Emitted) : Type 0 where
  pub grouped : (c : Clause) (vars arity : ℕ) → IsEnded (leads_of es) → PacesLeads 0 (leads_of es) (inside vars arity) → IsGroupedCode c (leads_of es) → IsGroupedCode c (leads_of out)
  pub paces : (vars arity : ℕ) → IsEnded (leads_of es) → PacesLeads 0 (leads_of es) (inside vars arity) → PacesLeads 0 (leads_of out) (within room arity)
  pub ended : IsEnded (leads_of es) → IsEnded (leads_of out)
  pub numbered : (k : ℕ) → AreNumbered k es → AreNumbered k out
  pub range : AreInRange (leads_of out)
  pub outside : (s : Shape) → room ≡ None → IsEnded (leads_of out) → PacesLeads 0 (leads_of out) s → Paces (steps_of out) s
