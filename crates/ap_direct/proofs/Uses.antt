-- A step's use of a register.
use Rattle.std.proofs.Common.{◌≡◌, ℕ, zero, suc, ◌+◌, ◌<◌, ◌≤◌, ◌==◌, ◌||◌, Bool, true, false, if◌then◌else◌, ◌⊎◌, inl, inr, List, ◌∷◌, refl, ap, ap₂, sym, ◌∙◌, subst, arith}
use Rattle.std.proofs.lemmas.Bool.{false≢true, ltb-false, or_parts, or_cases}
use Rattle.std.proofs.lemmas.Bool.Decides.{Decides-eqb}
use Rattle.ap_term.specs.Tree.{Tree, Trees, none, more, node}
use Rattle.ap_term.specs.Tuples.{applied}
use Rattle.ap_term.proofs.Facts.{funext}
use Rattle.ap_instr.specs.declared.instruction.Slot.{Slot}
use Rattle.ap_instr.specs.declared.instruction.Slot.TheVariants.{X, Y}
use Rattle.ap_tracked.specs.Marks.{ground_mark, apart_mark}
use Rattle.ap_instr.specs.Step.{Step, get_variable, get_value, get_constant, get_structure, put_variable, put_value, put_constant, put_structure, unify_variable, unify_value, unify_constant, call, execute, builtin, proceed, frame, jump, check_ground, check_indep, group, push, wait, other}
use Rattle.ap_instr.specs.Runs.{Runs, set, set_x, set_y, read, spread}
use Rattle.ap_direct.specs.Unread.{DifferAt, IsUnread, is_x, read_then, is_argument, use_in, Says}

apart : (a r : ℕ) → (a == r) ≡ false → a ≡ r → ⊥
apart a r h e = false≢true (sym h ∙ (Decides-eqb a r).1 e)

-- ---- maps that differ at one number

module _ (r : ℕ) (x z : ℕ → Tree) (s : DifferAt r x z) where
  set-differ : (a : ℕ) (t : Tree) → DifferAt r (set x a t) (set z a t)
  set-differ a t w k = go (w == a)
    where
      go : (b : Bool) → (if b then t else x w) ≡ (if b then t else z w)
      go true = refl
      go false = s w k

  set-all : (a : ℕ) (t : Tree) → (a == r) ≡ true → set x a t ≡ set z a t
  set-all a t e = funext (set x a t) (set z a t) (λ w. go w (w == a) refl)
    where
      go : (w : ℕ) (b : Bool) → (w == a) ≡ b → (if b then t else x w) ≡ (if b then t else z w)
      go w true h = refl
      go w false h = s w (λ k. false≢true (sym h ∙ (Decides-eqb w a).1 (k ∙ sym ((Decides-eqb a r).0 e))))

  set_x-differ : (v : Slot) (t : Tree) → DifferAt r (set_x v t x) (set_x v t z)
  set_x-differ (X n) t = set-differ n t
  set_x-differ (Y n) t = s

  set_x-all : (v : Slot) (t : Tree) → is_x v r ≡ true → set_x v t x ≡ set_x v t z
  set_x-all (X n) t e = set-all n t e
  set_x-all (Y n) t e = absurd (false≢true e)

  read-differ : (v : Slot) (y : ℕ → Tree) → is_x v r ≡ false → read v x y ≡ read v z y
  read-differ (X n) y e = s n (apart n r e)
  read-differ (Y n) y e = refl

  spread-differ : (p n : ℕ) → ((w : ℕ) → p ≤ w → w < p + n → w ≡ r → ⊥) → spread x p n ≡ spread z p n
  spread-differ p zero h = refl
  spread-differ p (suc n) h =
      ap (λ t. more t (spread x (p + 1) n)) (s p (h p (omega arith) (omega arith))) ∙ ap (more (z p)) (spread-differ (p + 1) n (λ w a b. h w (omega arith) (omega arith)))

  arguments-differ : (n : ℕ) → is_argument r n ≡ false → spread x 1 n ≡ spread z 1 n
  arguments-differ n e = let h : n + 1 ≤ r = ltb-false r (n + 1) e in spread-differ 1 n (λ w a b k. omega arith)

  -- behind a write
  wrote : (e : Bool) (is : List Step) (ts : Trees) (x' z' y : ℕ → Tree) (bs : Trees) → (e ≡ true → x' ≡ z') → DifferAt r x' z' → (e ≡ true) ⊎ IsUnread r is → Runs is ts x' y bs → Runs is ts z' y bs
  wrote e is ts x' z' y bs same differ (inl q) run = subst (λ u. Runs is ts u y bs) (same q) run
  wrote e is ts x' z' y bs same differ (inr u) run = u ts x' z' y bs differ run

-- ---- steps

-- a step that reads the register or not, behind which it is written or not
abbrev Keeps : Bool → Bool → ℕ → Step → Type 0
Keeps reads ends r i = reads ≡ false → (is : List Step) → (ends ≡ true) ⊎ IsUnread r is → IsUnread r (i ∷ is)

said : (reads ends : Bool) (r : ℕ) (i : Step) → Keeps reads ends r i → Says (read_then reads ends) r i
said true ends r i h = tt
said false true r i h = λ is. h refl is (inl refl)
said false false r i h = λ is u. h refl is (inr u)

unread : (r : ℕ) (is : List Step) → (false ≡ true) ⊎ IsUnread r is → IsUnread r is
unread r is (inl e) = absurd (false≢true e)
unread r is (inr u) = u

get_variable-keeps : (r : ℕ) (v : Slot) (a : ℕ) → Keeps (a == r) (is_x v r) r (get_variable v a)
get_variable-keeps r v a h is u none x z y bs s run =
    wrote r x z s (is_x v r) is none (set_x v (z a) x) (set_x v (z a) z) (set_y v (z a) y) bs (set_x-all r x z s v (z a)) (set_x-differ r x z s v (z a)) u
    (subst (λ t. Runs is none (set_x v t x) (set_y v t y) bs) (s a (apart a r h)) run)
get_variable-keeps r v a h is u (more t ts) x z y bs s run = absurd run

get_value-keeps : (r : ℕ) (v : Slot) (a : ℕ) → Keeps (is_x v r || (a == r)) false r (get_value v a)
get_value-keeps r v a h is u none x z y bs s run =
    let n = or_parts (is_x v r) (a == r) h in
    (sym (read-differ r x z s v y n.0) ∙ run.0 ∙ s a (apart a r n.1), unread r is u none x z y bs s run.1)
get_value-keeps r v a h is u (more t ts) x z y bs s run = absurd run

get_constant-keeps : (r : ℕ) (c : Tree) (a : ℕ) → Keeps (a == r) false r (get_constant c a)
get_constant-keeps r c a h is u none x z y bs s run = (sym (s a (apart a r h)) ∙ run.0, unread r is u none x z y bs s run.1)
get_constant-keeps r c a h is u (more t ts) x z y bs s run = absurd run

get_structure-keeps : (r f n a : ℕ) → Keeps (a == r) false r (get_structure f n a)
get_structure-keeps r f n a h is u none x z y bs s run = (run.0, run.1, sym (s a (apart a r h)) ∙ run.2, unread r is u run.0 x z y bs s run.3)
get_structure-keeps r f n a h is u (more t ts) x z y bs s run = absurd run

put_variable-keeps : (r : ℕ) (v : Slot) (a : ℕ) → Keeps false (is_x v r || (a == r)) r (put_variable v a)
put_variable-keeps r v a h is u none x z y bs s run =
    let t : Tree = run.0 in
    let d = set_x-differ r x z s v t in (
      t,
      wrote r x z s (is_x v r || (a == r)) is none (set (set_x v t x) a t) (set (set_x v t z) a t) (set_y v t y) bs (λ e. same t d (or_cases (is_x v r) (a == r) e)) (set-differ r (set_x v t x) (set_x v t z) d a t) u run.1,
    )
  where
    same : (t : Tree) → DifferAt r (set_x v t x) (set_x v t z) → (is_x v r ≡ true) ⊎ ((a == r) ≡ true) → set (set_x v t x) a t ≡ set (set_x v t z) a t
    same t d (inl e) = ap (λ q. set q a t) (set_x-all r x z s v t e)
    same t d (inr e) = set-all r (set_x v t x) (set_x v t z) d a t e
put_variable-keeps r v a h is u (more t ts) x z y bs s run = absurd run

put_value-keeps : (r : ℕ) (v : Slot) (a : ℕ) → Keeps (is_x v r) (a == r) r (put_value v a)
put_value-keeps r v a h is u none x z y bs s run =
    let t : Tree = read v z y in
    wrote r x z s (a == r) is none (set x a t) (set z a t) y bs (set-all r x z s a t) (set-differ r x z s a t) u (subst (λ q. Runs is none (set x a q) y bs) (read-differ r x z s v y h) run)
put_value-keeps r v a h is u (more t ts) x z y bs s run = absurd run

put_constant-keeps : (r : ℕ) (c : Tree) (a : ℕ) → Keeps false (a == r) r (put_constant c a)
put_constant-keeps r c a h is u none x z y bs s run = wrote r x z s (a == r) is none (set x a c) (set z a c) y bs (set-all r x z s a c) (set-differ r x z s a c) u run
put_constant-keeps r c a h is u (more t ts) x z y bs s run = absurd run

put_structure-keeps : (r f n a : ℕ) → Keeps false (a == r) r (put_structure f n a)
put_structure-keeps r f n a h is u none x z y bs s run =
    let t : Tree = node f run.0 in
    (run.0, run.1, wrote r x z s (a == r) is run.0 (set x a t) (set z a t) y bs (set-all r x z s a t) (set-differ r x z s a t) u run.2)
put_structure-keeps r f n a h is u (more t ts) x z y bs s run = absurd run

unify_variable-keeps : (r : ℕ) (v : Slot) → Keeps false (is_x v r) r (unify_variable v)
unify_variable-keeps r v h is u none x z y bs s run = absurd run
unify_variable-keeps r v h is u (more t ts) x z y bs s run = wrote r x z s (is_x v r) is ts (set_x v t x) (set_x v t z) (set_y v t y) bs (set_x-all r x z s v t) (set_x-differ r x z s v t) u run

unify_value-keeps : (r : ℕ) (v : Slot) → Keeps (is_x v r) false r (unify_value v)
unify_value-keeps r v h is u none x z y bs s run = absurd run
unify_value-keeps r v h is u (more t ts) x z y bs s run = (sym (read-differ r x z s v y h) ∙ run.0, unread r is u ts x z y bs s run.1)

unify_constant-keeps : (r : ℕ) (c : Tree) (is : List Step) → IsUnread r is → IsUnread r (unify_constant c ∷ is)
unify_constant-keeps r c is u none x z y bs s run = absurd run
unify_constant-keeps r c is u (more t ts) x z y bs s run = (run.0, u ts x z y bs s run.1)

frame-keeps : (r : ℕ) (is : List Step) → IsUnread r is → IsUnread r (frame ∷ is)
frame-keeps r is u none x z y bs s run = u none x z y bs s run
frame-keeps r is u (more t ts) x z y bs s run = absurd run

proceed-keeps : (r : ℕ) (is : List Step) → IsUnread r (proceed ∷ is)
proceed-keeps r is none x z y bs s run = run
proceed-keeps r is (more t ts) x z y bs s run = absurd run

call-keeps : (r p n : ℕ) → Keeps (is_argument r n) true r (call p n)
call-keeps r p n h is u none x z y bs s run = (run.0, run.1 ∙ ap (λ us. more (applied p us) run.0) (arguments-differ r x z s n h), run.2)
call-keeps r p n h is u (more t ts) x z y bs s run = absurd run

execute-keeps : (r p n : ℕ) → Keeps (is_argument r n) true r (execute p n)
execute-keeps r p n h is u none x z y bs s run = run ∙ ap (λ us. more (applied p us) none) (arguments-differ r x z s n h)
execute-keeps r p n h is u (more t ts) x z y bs s run = absurd run

builtin-keeps : (r p n : ℕ) → Keeps (is_argument r n) false r (builtin p n)
builtin-keeps r p n h is u none x z y bs s run = (run.0, run.1 ∙ ap (λ us. more (applied p us) run.0) (arguments-differ r x z s n h), unread r is u none x z y run.0 s run.2)
builtin-keeps r p n h is u (more t ts) x z y bs s run = absurd run

check_ground-keeps : (r : ℕ) (v : Slot) → Keeps (is_x v r) false r (check_ground v)
check_ground-keeps r v h is u none x z y bs s run = (run.0, run.1 ∙ ap (λ t. more ground_mark (more t run.0)) (read-differ r x z s v y h), unread r is u none x z y run.0 s run.2)
check_ground-keeps r v h is u (more t ts) x z y bs s run = absurd run

check_indep-keeps : (r : ℕ) (v w : Slot) → Keeps (is_x v r || is_x w r) false r (check_indep v w)
check_indep-keeps r v w h is u none x z y bs s run =
    let n = or_parts (is_x v r) (is_x w r) h in
    (run.0, run.1 ∙ ap₂ (λ t q. more apart_mark (more t (more q run.0))) (read-differ r x z s v y n.0) (read-differ r x z s w y n.1), unread r is u none x z y run.0 s run.2)
check_indep-keeps r v w h is u (more t ts) x z y bs s run = absurd run

group-keeps : (r n : ℕ) (is : List Step) → IsUnread r is → IsUnread r (group n ∷ is)
group-keeps r n is u none x z y bs s run = (run.0, run.1, u none x z y run.0 s run.2)
group-keeps r n is u (more t ts) x z y bs s run = absurd run

push-keeps : (r p n : ℕ) → Keeps (is_argument r n) false r (push p n)
push-keeps r p n h is u none x z y bs s run = (run.0, run.1 ∙ ap (λ us. more (applied p us) run.0) (arguments-differ r x z s n h), unread r is u none x z y run.0 s run.2)
push-keeps r p n h is u (more t ts) x z y bs s run = absurd run

wait-keeps : (r : ℕ) (is : List Step) → IsUnread r (wait ∷ is)
wait-keeps r is none x z y bs s run = run
wait-keeps r is (more t ts) x z y bs s run = absurd run

pub says : (r : ℕ) (i : Step) → Says (use_in r i) r i
says r (get_variable v a) = said (a == r) (is_x v r) r (get_variable v a) (get_variable-keeps r v a)
says r (get_value v a) = said (is_x v r || (a == r)) false r (get_value v a) (get_value-keeps r v a)
says r (get_constant c a) = said (a == r) false r (get_constant c a) (get_constant-keeps r c a)
says r (get_structure f n a) = said (a == r) false r (get_structure f n a) (get_structure-keeps r f n a)
says r (put_variable v a) = said false (is_x v r || (a == r)) r (put_variable v a) (put_variable-keeps r v a)
says r (put_value v a) = said (is_x v r) (a == r) r (put_value v a) (put_value-keeps r v a)
says r (put_constant c a) = said false (a == r) r (put_constant c a) (put_constant-keeps r c a)
says r (put_structure f n a) = said false (a == r) r (put_structure f n a) (put_structure-keeps r f n a)
says r (unify_variable v) = said false (is_x v r) r (unify_variable v) (unify_variable-keeps r v)
says r (unify_value v) = said (is_x v r) false r (unify_value v) (unify_value-keeps r v)
says r (unify_constant c) = unify_constant-keeps r c
says r (call p n) = said (is_argument r n) true r (call p n) (call-keeps r p n)
says r (execute p n) = said (is_argument r n) true r (execute p n) (execute-keeps r p n)
says r (builtin p n) = said (is_argument r n) false r (builtin p n) (builtin-keeps r p n)
says r proceed = proceed-keeps r
says r frame = frame-keeps r
says r jump = tt
says r (check_ground v) = said (is_x v r) false r (check_ground v) (check_ground-keeps r v)
says r (check_indep v w) = said (is_x v r || is_x w r) false r (check_indep v w) (check_indep-keeps r v w)
says r (group n) = group-keeps r n
says r (push p n) = said (is_argument r n) false r (push p n) (push-keeps r p n)
says r wait = wait-keeps r
says r other = tt
