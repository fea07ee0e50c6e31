-- Code whose variables stand in other places keeps the rules of code one by one.
use Rattle.std.proofs.Common.{◌≡◌, ◌≢◌, ℕ, zero, suc, ◌-◌, ◌<◌, nat_le, ◌==◌, Bool, true, false, ◌&&◌, if◌then◌else◌, is_some, List, [], ◌∷◌, Option, Some, None, ◌⊎◌, inl, inr, refl, ap, sym, ◌∙◌, subst, arith}
use Rattle.std.specs.List.{list_all}
use Rattle.std.proofs.lemmas.Bool.{false≢true, and_parts}
use Rattle.std.proofs.lemmas.Bool.Decides.{nat_tests}
use Rattle.ap_instr.specs.declared.instruction.Slot.{Slot}
use Rattle.ap_instr.specs.declared.instruction.Slot.TheVariants.{X, Y}
use Rattle.ap_instr.specs.declared.instruction.Instr.TheVariants.{GetStructure, PutStructure, PutVariable, Call, WaitAll}
use Rattle.ap_instr.specs.Step.{Step, get_variable, get_value, get_constant, get_structure, put_variable, put_value, put_constant, put_structure, unify_variable, unify_value, unify_constant, call, execute, builtin, proceed, jump, check_ground, check_indep, group, push, wait}
use Rattle.ap_instr.specs.Runs.{read, set_x, set_y, set}
use Rattle.ap_codecheck.specs.Shape.{Shape, unset, is_set, write, with_target, passed, behind_argument, with_group, after}
use Rattle.ap_codecheck.specs.Rules.{ArgumentsSet, IsRoomFor}
use Rattle.ap_codegen.specs.Paces.{IsSlot, puts, StandsIn, IsOpen, IsFull, one_pushed, PacesOn, PacesLeads}
use Rattle.ap_codegen.specs.Relocated.{Change, kept, dropped, olds, news, staying, relocated, register, Known, former, latter, is_same, all_same, is_within, has_room, set_former, set_latter, set_both, behind_call, behind, may_drop, fits, change_fits, is_kept, Forgets, Onward, NoTurns, AreKept}
use Rattle.ap_codegen.proofs.Registers.{read_here, read_other, same_slot}
use Rattle.ap_codegen.proofs.RelocatedReads.{above_zero, Below, below_former, below_latter, below_both, below_call, below_forgets, Held, held_former, held_latter, held_both, held_call, held_forgets, same_held, one_same}

-- what is set in the one code is set in the other
abbrev pub Implies : Bool → Bool → Type 0
Implies b c = b ≡ true → c ≡ true

abbrev pub Sets : Known → Shape → Shape → Type 0
Sets k s z = Held Bool Implies k s.x s.y z.x z.y

read_set : (s : Shape) (v : Slot) → is_set s v ≡ read v s.x s.y
read_set s (X n) = refl
read_set s (Y n) = refl

-- a register that is written is set
abbrev set_in : Slot → Shape → Shape
set_in v s = record { x = set_x v true s.x; y = set_y v true s.y; room = s.room; pending = s.pending; target = s.target; group = s.group }

written : (v : Slot) (s : Shape) → set_in v s ≡ write v s
written (X n) s = refl
written (Y n) s = refl

keeps_true : (u v : Slot) (x y : ℕ → Bool) → read u x y ≡ true → read u (set_x v true x) (set_y v true y) ≡ true
keeps_true u v x y e = elim (same_slot u v) as (λ _. read u (set_x v true x) (set_y v true y) ≡ true) [
  | inl d ↦ ap (λ u. read u (set_x v true x) (set_y v true y)) d ∙ read_here v true x y
  | inr d ↦ read_other u v true x y d ∙ e
]

-- The register of the structure that is being built, where one is: what holds its value is that one or is set.
abbrev pub Near : Known → Option ℕ → Option ℕ → (ℕ → Bool) → (ℕ → Bool) → Type 0
Near k None None x y = Unit {0}
Near k None (Some b) x y = ⊥
Near k (Some a) None x y = ⊥
Near k (Some a) (Some b) x y = (w : Slot) → 0 < former k (X a) → former k (X a) ≡ latter k w → (w ≡ X b) ⊎ (read w x y ≡ true)

pub record Shifted (inner : Option ℕ) (k : Known) (s z : Shape) : Type 0 where
  pub sets : Sets k s z
  pub pending : z.pending ≡ s.pending
  pub room : z.room ≡ inner
  pub group : z.group ≡ s.group
  pub near : 0 < s.pending → Near k s.target z.target z.x z.y

-- outside of structures
shift : (room : Option ℕ) (k j : Known) (s z s' z' : Shape) → s.pending ≡ 0 → s'.pending ≡ s.pending → z'.pending ≡ z.pending → z'.room ≡ z.room → z'.group ≡ s'.group → Sets j s' z' → Shifted room k s z → Shifted room j s' z'
shift room k j s z s' z' o p q r g i h = record { sets = i; pending = q ∙ h.pending ∙ sym p; room = r ∙ h.room; group = g; near = λ l. absurd (omega arith) }

whole : (k : Known) (o n : Option ℕ) (x y x' y' : ℕ → Bool) → Near k o n x' y' → Held Bool Implies k x y x' y' → Held Bool Implies k (with_target o x) y (with_target n x') y'
whole k None None x y x' y' i h = h
whole k None (Some b) x y x' y' i h = absurd i
whole k (Some a) None x y x' y' i h = absurd i
whole k (Some a) (Some b) x y x' y' i h = λ v u p q e. elim (same_slot v (X a)) as (λ _. read u (set x' b true) y' ≡ true) [
  | inl d ↦
      let f : former k v ≡ former k (X a) = ap (former k) d in
      elim (i u (subst (λ n. 0 < n) f p) (sym f ∙ q)) as (λ _. read u (set x' b true) y' ≡ true) [
        | inl c ↦ ap (λ u. read u (set x' b true) y') c ∙ read_here (X b) true x' y'
        | inr c ↦ keeps_true u (X b) x' y' c
      ]
  | inr d ↦ keeps_true u (X b) x' y' (h v u p q (sym (read_other v (X a) true x y d) ∙ e))
]

behind_shifted : (room : Option ℕ) (k : Known) (s z : Shape) → 0 < s.pending → Shifted room k s z → Shifted room k (behind_argument s) (behind_argument z)
behind_shifted room k s z l h = subst (λ p. Shifted room k (behind_argument s) (passed (p == 1) z)) (sym h.pending) (go (s.pending == 1))
  where
    go : (b : Bool) → Shifted room k (passed b s) (passed b z)
    go true = record { sets = whole k s.target z.target s.x s.y z.x z.y (h.near l) h.sets; pending = refl; room = h.room; group = h.group; near = λ i. absurd (omega arith) }
    go false = record { sets = h.sets; pending = ap (λ p. p - 1) h.pending; room = h.room; group = h.group; near = λ i. h.near l }

-- a new argument's place
near_some : (k : Known) (v u : Slot) (a m : ℕ) (x y : ℕ → Bool) → Below k → Near k (Some a) (Some m) x y → Near (set_both k v u) (Some a) (Some m) (set_x u true x) (set_y u true y)
near_some k v u a m x y b h w p q = elim (same_slot w u) as (λ _. (w ≡ X m) ⊎ (read w (set_x u true x) (set_y u true y) ≡ true)) [
  | inl d ↦ inr (ap (λ w. read w (set_x u true x) (set_y u true y)) d ∙ read_here u true x y)
  | inr d ↦ other_place d (same_slot (X a) v)
]
  where
    other_place : w ≢ u → (X a ≡ v) ⊎ (X a ≢ v) → (w ≡ X m) ⊎ (read w (set_x u true x) (set_y u true y) ≡ true)
    other_place d (inl e) =
        let i : latter (set_both k v u) w ≡ latter k w = read_other w u k.next k.latter_x k.latter_y d in
        let j : former (set_both k v u) (X a) ≡ k.next = ap (former (set_both k v u)) e ∙ read_here v k.next k.former_x k.former_y in
        let l = b.latters w in
        let f : latter k w ≡ k.next = sym i ∙ sym q ∙ j in
        absurd (omega arith)
    other_place d (inr e) =
        let i : latter (set_both k v u) w ≡ latter k w = read_other w u k.next k.latter_x k.latter_y d in
        let j : former (set_both k v u) (X a) ≡ former k (X a) = read_other (X a) v k.next k.former_x k.former_y e in
        elim (h w (subst (λ n. 0 < n) j p) (sym j ∙ q ∙ i)) as (λ _. (w ≡ X m) ⊎ (read w (set_x u true x) (set_y u true y) ≡ true)) [
          | inl c ↦ inl c
          | inr c ↦ inr (keeps_true w u x y c)
        ]

near_both : (k : Known) (v u : Slot) (o n : Option ℕ) (x y : ℕ → Bool) → Below k → Near k o n x y → Near (set_both k v u) o n (set_x u true x) (set_y u true y)
near_both k v u None None x y b h = tt
near_both k v u None (Some m) x y b h = h
near_both k v u (Some a) None x y b h = h
near_both k v u (Some a) (Some m) x y b h = near_some k v u a m x y b h

taken_shifted : (room : Option ℕ) (k : Known) (v u : Slot) (s z : Shape) → Below k → Shifted room k s z → Shifted room (set_both k v u) (write v s) (write u z)
taken_shifted room k v u s z b h =
    subst (λ s. Shifted room (set_both k v u) s (write u z)) (written v s) (subst (λ z. Shifted room (set_both k v u) (set_in v s) z) (written u z) (record {
      sets = held_both Bool Implies k v u true true s.x s.y z.x z.y b (λ e. e) h.sets;
      pending = h.pending;
      room = h.room;
      group = h.group;
      near = λ l. near_both k v u s.target z.target z.x z.y b (h.near l);
    }))

built_shifted : (room : Option ℕ) (k : Known) (l n a b : ℕ) (s z : Shape) → Below k → Shifted room k s z → Shifted room (set_both k (X a) (X b)) (after (PutStructure l n a) s) (after (PutStructure l n b) z)
built_shifted room k l n a b s z i h = record {
  sets = held_both Bool Implies k (X a) (X b) (n == 0) (n == 0) s.x s.y z.x z.y i (λ e. e) h.sets;
  pending = refl;
  room = h.room;
  group = h.group;
  near = λ p. go (n == 0);
}
  where
    go : (c : Bool) → Near (set_both k (X a) (X b)) (if c then None else Some a) (if c then None else Some b) (set z.x b (n == 0)) z.y
    go true = tt
    go false = λ w p q. elim (same_slot w (X b)) as (λ _. (w ≡ X b) ⊎ (read w (set z.x b (n == 0)) z.y ≡ true)) [
      | inl d ↦ inl d
      | inr d ↦
          let j : latter (set_both k (X a) (X b)) w ≡ latter k w = read_other w (X b) k.next k.latter_x k.latter_y d in
          let e : former (set_both k (X a) (X b)) (X a) ≡ k.next = read_here (X a) k.next k.former_x k.former_y in
          let f = i.latters w in
          let m : latter k w ≡ k.next = sym j ∙ sym q ∙ e in
          absurd (omega arith)
    ]

below_room : (n : ℕ) (room : Option ℕ) → is_within n room ≡ true → IsRoomFor n room
below_room n None e = absurd (false≢true e)
below_room n (Some m) e = grind (arith, nat_tests)

slot_of : (room : Option ℕ) (u : Slot) (z : Shape) → has_room room u ≡ true → z.room ≡ room → IsSlot u z
slot_of room (X n) z e r = above_zero n e
slot_of room (Y n) z e r = let b = and_parts (nat_le 1 n) (is_within n room) e in (above_zero n b.0, subst (IsRoomFor n) (sym r) (below_room n room b.1))

place_set : (k : Known) (v u : Slot) (s z : Shape) → is_same k v u ≡ true → Sets k s z → is_set s v ≡ true → is_set z u ≡ true
place_set k v u s z f h e = read_set z u ∙ same_held Bool Implies k v u s.x s.y z.x z.y f h (sym (read_set s v) ∙ e)

arguments_set : (k : Known) (n : ℕ) (s z : Shape) → all_same k n ≡ true → Sets k s z → ArgumentsSet n s → ArgumentsSet n z
arguments_set k n s z f h e a p l = place_set k (X a) (X a) s z (one_same k n a p l f) h (e a p l)

-- a move in the code as it was
moved_sets : (k : Known) (v was : Slot) (s z : Shape) → is_set s was ≡ true → Sets k s z → Sets (set_former k v (former k was)) (write v s) z
moved_sets k v was s z e h = subst (λ s. Sets (set_former k v (former k was)) s z) (written v s) (held_former Bool Implies k v was (former k was) true s.x s.y z.x z.y refl (sym e ∙ read_set s was) h)

-- a move in the code as it becomes
placed_sets : (k : Known) (u is : Slot) (n : ℕ) (s z : Shape) → n ≡ latter k is → is_set z is ≡ true → Sets k s z → Sets (set_latter k u n) s (write u z)
placed_sets k u is n s z i e h = subst (λ z. Sets (set_latter k u n) s z) (written u z) (held_latter Bool Implies k u is n true s.x s.y z.x z.y i (sym e ∙ read_set z is) h)

near_forgets : (k m : Known) (o n : Option ℕ) (x y : ℕ → Bool) → Forgets k m → Near k o n x y → Near m o n x y
near_forgets k m None None x y f h = tt
near_forgets k m None (Some b) x y f h = h
near_forgets k m (Some a) None x y f h = h
near_forgets k m (Some a) (Some b) x y f h = λ w p q.
    let e : former k (X a) ≡ former m (X a) = f.formers (X a) p in
    let g : latter k w ≡ latter m w = f.latters w (subst (λ n. 0 < n) q p) in
    h w (subst (λ n. 0 < n) (sym e) p) (e ∙ q ∙ sym g)

shifted_forgets : (room : Option ℕ) (k m : Known) (s z : Shape) → Forgets k m → Shifted room k s z → Shifted room m s z
shifted_forgets room k m s z f h = record {
  sets = held_forgets Bool Implies k m s.x s.y z.x z.y f h.sets;
  pending = h.pending;
  room = h.room;
  group = h.group;
  near = λ l. near_forgets k m s.target z.target z.x z.y f (h.near l);
}

-- another group
in_group : (room : Option ℕ) (k : Known) (g d : Option (ℕ × ℕ)) (s z : Shape) → d ≡ g → Shifted room k s z → Shifted room k (with_group g s) (with_group d z)
in_group room k g d s z e h = record { sets = h.sets; pending = h.pending; room = h.room; group = e; near = λ l. h.near l }

stands_as : (i : Step) (u o : Slot) (g d : Option (ℕ × ℕ)) → d ≡ g → StandsIn i g → StandsIn (relocated i u o) d
stands_as i u o g d e h = subst (StandsIn (relocated i u o)) (sym e) (one g h)
  where
    puts_as : (i : Step) → puts (relocated i u o) ≡ puts i
    puts_as (get_variable v a) = refl
    puts_as (get_value v a) = refl
    puts_as (put_variable v a) = refl
    puts_as (put_value v a) = refl
    puts_as (unify_variable v) = refl
    puts_as (unify_value v) = refl
    puts_as (check_ground v) = refl
    puts_as (check_indep v w) = refl
    puts_as _ = refl

    one : (g : Option (ℕ × ℕ)) → StandsIn i g → StandsIn (relocated i u o) g
    one None h = tt
    one (Some g) h = puts_as i ∙ h

-- whether a step may lead to the next one; and over others
abbrev pub has_next : Step → Bool
has_next jump = false
has_next (execute p n) = false
has_next proceed = false
has_next _ = true

abbrev pub has_other : Step → Bool
has_other jump = true
has_other (check_ground v) = true
has_other (check_indep v w) = true
has_other (group n) = true
has_other _ = false

-- where a step leads to, the code as it becomes keeps the rules where the code as it was does
abbrev Follows : Option ℕ → Known → (Shape → Type 0) → (Shape → Type 0) → Type 0
Follows room k K L = (s z : Shape) → K s → Below k → Shifted room k s z → L z

step_paces : (room : Option ℕ) (i : Step) (m n : ℕ) (u o : Slot) (K L : ℕ → Shape → Type 0) (k : Known) (s z : Shape) → fits room i u o ≡ true → is_kept k i u o ≡ true → Below k → Shifted room k s z → PacesOn i m K s
    → (has_next i ≡ true → Follows room (behind k i u o) (K 0) (L 0)) → (has_other i ≡ true → Follows room (behind k i u o) (K m) (L n)) → PacesOn (relocated i u o) n L z
step_paces room (get_variable v a) m n u o K L k s z w f b h (g, p) next over =
    let a' : ℕ = register o in
    let j : Known = set_former k v (former k (X a)) in
    let i : Known = set_latter j u (latter k (X a')) in
    let c = and_parts (has_room room u) (nat_le 1 a') w in
    let there : is_set z (X a') ≡ true = place_set k (X a) (X a') s z f h.sets p.2 in
    let after_move : Sets j (write v s) z = moved_sets k v (X a) s z p.2 h.sets in
    let b1 : Below j = below_former k v (former k (X a)) (b.formers (X a)) b in (
      stands_as (get_variable v a) u o s.group z.group h.group g,
      (
        slot_of room u z c.0 h.room,
        above_zero a' c.1,
        there,
        h.pending ∙ p.3,
        next refl (write v s) (write u z) p.4 (below_latter j u (latter k (X a')) (b.latters (X a')) b1)
            (shift room k i s z (write v s) (write u z) p.3 refl refl refl h.group (placed_sets j u (X a') (latter k (X a')) (write v s) z refl there after_move) h),
      ),
    )
step_paces room (get_value v a) m n u o K L k s z w f b h (g, p) next over =
    let a' : ℕ = register o in
    let c = and_parts (has_room room u) (nat_le 1 a') w in
    let e = and_parts (is_same k v u) (is_same k (X a) (X a')) f in (
      stands_as (get_value v a) u o s.group z.group h.group g,
      (slot_of room u z c.0 h.room, above_zero a' c.1, place_set k v u s z e.0 h.sets p.2, place_set k (X a) (X a') s z e.1 h.sets p.3, h.pending ∙ p.4, next refl s z p.5 b h),
    )
step_paces room (get_constant t a) m n u o K L k s z w f b h (g, p) next over = (
  stands_as (get_constant t a) u o s.group z.group h.group g,
  (above_zero (register o) w, place_set k (X a) (X (register o)) s z f h.sets p.1, h.pending ∙ p.2, next refl s z p.3 b h),
)
step_paces room (get_structure l d a) m n u o K L k s z w f b h (g, p) next over = (
  stands_as (get_structure l d a) u o s.group z.group h.group g,
  (
    above_zero (register o) w,
    place_set k (X a) (X (register o)) s z f h.sets p.1,
    h.pending ∙ p.2,
    next refl (after (GetStructure l d a) s) (after (GetStructure l d (register o)) z) p.3 b (record { sets = h.sets; pending = refl; room = h.room; group = h.group; near = λ i. tt }),
  ),
)
step_paces room (put_variable v a) m n u o K L k s z w f b h (g, p) next over =
    let a' : ℕ = register o in
    let k1 : Known = set_both k v u in
    let k2 : Known = set_former k1 (X a) k.next in
    let k3 : Known = set_latter k2 (X a') k.next in
    let c = and_parts (has_room room u) (nat_le 1 a') w in
    let b1 : Below k1 = below_both k v u b in
    let b2 : Below k2 = below_former k1 (X a) k.next (omega arith) b1 in
    let b3 : Below k3 = below_latter k2 (X a') k.next (omega arith) b2 in
    let here : k.next ≡ former k1 v = sym (read_here v k.next k.former_x k.former_y) in
    let set_there : is_set (write v s) v ≡ true = read_set (write v s) v ∙ ap (λ s. read v s.x s.y) (sym (written v s)) ∙ read_here v true s.x s.y in
    let placed_there : is_set (write u z) u ≡ true = read_set (write u z) u ∙ ap (λ z. read u z.x z.y) (sym (written u z)) ∙ read_here u true z.x z.y in
    let first : Sets k1 (write v s) (write u z) = (taken_shifted room k v u s z b h).sets in
    let second : Sets k2 (write (X a) (write v s)) (write u z) =
    subst (λ n. Sets (set_former k1 (X a) n) (write (X a) (write v s)) (write u z)) (sym here) (moved_sets k1 (X a) v (write v s) (write u z) set_there first) in
    let third : Sets k3 (write (X a) (write v s)) (write (X a') (write u z)) =
    placed_sets k2 (X a') u k.next (write (X a) (write v s)) (write u z) (sym (read_here u k.next k.latter_x k.latter_y)) placed_there second in (
      stands_as (put_variable v a) u o s.group z.group h.group g,
      (
        slot_of room u z c.0 h.room,
        above_zero a' c.1,
        h.pending ∙ p.2,
        next refl (after (PutVariable v a) s) (after (PutVariable u a') z) p.3 b3 (shift room k k3 s z (write (X a) (write v s)) (write (X a') (write u z)) p.2 refl refl refl h.group third h),
      ),
    )
step_paces room (put_value v a) m n u o K L k s z w f b h (g, p) next over =
    let a' : ℕ = register o in
    let j : Known = set_former k (X a) (former k v) in
    let i : Known = set_latter j (X a') (latter k u) in
    let c = and_parts (has_room room u) (nat_le 1 a') w in
    let there : is_set z u ≡ true = place_set k v u s z f h.sets p.2 in
    let after_move : Sets j (write (X a) s) z = moved_sets k (X a) v s z p.2 h.sets in
    let b1 : Below j = below_former k (X a) (former k v) (b.formers v) b in (
      stands_as (put_value v a) u o s.group z.group h.group g,
      (
        slot_of room u z c.0 h.room,
        above_zero a' c.1,
        there,
        h.pending ∙ p.3,
        next refl (write (X a) s) (write (X a') z) p.4 (below_latter j (X a') (latter k u) (b.latters u) b1)
            (shift room k i s z (write (X a) s) (write (X a') z) p.3 refl refl refl h.group (placed_sets j (X a') u (latter k u) (write (X a) s) z refl there after_move) h),
      ),
    )
step_paces room (put_constant t a) m n u o K L k s z w f b h (g, p) next over = (
  stands_as (put_constant t a) u o s.group z.group h.group g,
  (
    above_zero (register o) w,
    h.pending ∙ p.1,
    next refl (write (X a) s) (write (X (register o)) z) p.2 (below_both k (X a) (X (register o)) b) (taken_shifted room k (X a) (X (register o)) s z b h),
  ),
)
step_paces room (put_structure l d a) m n u o K L k s z w f b h (g, p) next over = (
  stands_as (put_structure l d a) u o s.group z.group h.group g,
  (
    above_zero (register o) w,
    h.pending ∙ p.1,
    next refl (after (PutStructure l d a) s) (after (PutStructure l d (register o)) z) p.2 (below_both k (X a) (X (register o)) b) (built_shifted room k l d a (register o) s z b h),
  ),
)
step_paces room (unify_variable v) m n u o K L k s z w f b h (g, p) next over = (
  stands_as (unify_variable v) u o s.group z.group h.group g,
  (
    slot_of room u z w h.room,
    subst (λ q. 0 < q) (sym h.pending) p.1,
    next refl (behind_argument (write v s)) (behind_argument (write u z)) p.2 (below_both k v u b) (behind_shifted room (set_both k v u) (write v s) (write u z) p.1 (taken_shifted room k v u s z b h)),
  ),
)
step_paces room (unify_value v) m n u o K L k s z w f b h (g, p) next over = (
  stands_as (unify_value v) u o s.group z.group h.group g,
  (
    slot_of room u z w h.room,
    place_set k v u s z f h.sets p.1,
    subst (λ q. 0 < q) (sym h.pending) p.2,
    next refl (behind_argument s) (behind_argument z) p.3 b (behind_shifted room k s z p.2 h),
  ),
)
step_paces room (unify_constant t) m n u o K L k s z w f b h (g, p) next over = (
  stands_as (unify_constant t) u o s.group z.group h.group g,
  (subst (λ q. 0 < q) (sym h.pending) p.0, next refl (behind_argument s) (behind_argument z) p.1 b (behind_shifted room k s z p.0 h)),
)
step_paces room (call d l) m n u o K L k s z w f b h (g, p) next over = (
  stands_as (call d l) u o s.group z.group h.group g,
  (
    arguments_set k l s z f h.sets p.0,
    ap is_some h.room ∙ w,
    h.pending ∙ p.2,
    next refl (after (Call 0) s) (after (Call 0) z) p.3 (below_call k b)
        (shift room k (behind_call k) s z (after (Call 0) s) (after (Call 0) z) p.2 refl refl refl h.group (held_call Bool Implies k s.x s.y z.x z.y unset unset h.sets) h),
  ),
)
step_paces room (builtin d l) m n u o K L k s z w f b h (g, p) next over = (stands_as (builtin d l) u o s.group z.group h.group g, (arguments_set k l s z f h.sets p.0, h.pending ∙ p.1, next refl s z p.2 b h))
step_paces room (execute d l) m n u o K L k s z w f b h (g, p) next over = (stands_as (execute d l) u o s.group z.group h.group g, (arguments_set k l s z f h.sets p.0, h.pending ∙ p.1, refl))
step_paces room proceed m n u o K L k s z w f b h (g, p) next over = (stands_as proceed u o s.group z.group h.group g, (h.pending ∙ p.0, refl))
step_paces room jump m n u o K L k s z w f b h p next over = (h.group ∙ p.0, h.pending ∙ p.1, over refl s z p.2 b h)
step_paces room (check_ground v) m n u o K L k s z w f b h p next over =
    let c = and_parts (is_some room) (has_room room u) w in
    (h.group ∙ p.0, h.pending ∙ p.1, slot_of room u z c.1 h.room, place_set k v u s z f h.sets p.3, next refl s z p.4 b h, over refl s z p.5 b h)
step_paces room (check_indep v v2) m n u o K L k s z w f b h p next over =
    let c = and_parts (is_some room) (has_room room u && has_room room o) w in
    let d = and_parts (has_room room u) (has_room room o) c.1 in
    let e = and_parts (is_same k v u) (is_same k v2 o) f in (
      h.group ∙ p.0,
      h.pending ∙ p.1,
      slot_of room u z d.0 h.room,
      slot_of room o z d.1 h.room,
      place_set k v u s z e.0 h.sets p.4,
      place_set k v2 o s z e.1 h.sets p.5,
      next refl s z p.6 b h,
      over refl s z p.7 b h,
    )
step_paces room (group l) m n u o K L k s z w f b h p next over = (
  h.group ∙ p.0,
  h.pending ∙ p.1,
  p.2,
  next refl (with_group (Some (l, 0)) s) (with_group (Some (l, 0)) z) p.3 b (in_group room k (Some (l, 0)) (Some (l, 0)) s z refl h),
  over refl s z p.4 b h,
)
step_paces room (push d l) m n u o K L k s z w f b h p next over = (
  subst IsOpen (sym h.group) p.0,
  h.pending ∙ p.1,
  arguments_set k l s z f h.sets p.2,
  next refl (with_group (one_pushed s.group) s) (with_group (one_pushed z.group) z) p.3 b (in_group room k (one_pushed s.group) (one_pushed z.group) s z (ap one_pushed h.group) h),
)
step_paces room wait m n u o K L k s z w f b h p next over = (
  subst IsFull (sym h.group) p.0,
  h.pending ∙ p.1,
  ap is_some h.room ∙ w,
  next refl (after WaitAll s) (after WaitAll z) p.3 (below_call k b)
      (shift room k (behind_call k) s z (after WaitAll s) (after WaitAll z) p.1 refl refl refl refl (held_call Bool Implies k s.x s.y z.x z.y unset unset h.sets) h),
)
step_paces room i m n u o K L k s z w f b h p next over = absurd (false≢true w)

-- ---- where control goes on

onward_next : (i : Step) (m : ℕ) (K : ℕ → Known → Type 0) (N : ℕ → Type 0) (k : Known) → has_next i ≡ true → Onward (i, m) K N k → K 0 k
onward_next (check_ground v) m K N k e w = w.1
onward_next (check_indep v u) m K N k e w = w.1
onward_next (group n) m K N k e w = w.1
onward_next jump m K N k e w = absurd (false≢true e)
onward_next (execute p n) m K N k e w = absurd (false≢true e)
onward_next proceed m K N k e w = absurd (false≢true e)
onward_next _ m K N k e w = w

pub onward_other : (i : Step) (m : ℕ) (K : ℕ → Known → Type 0) (N : ℕ → Type 0) (k : Known) → has_other i ≡ true → Onward (i, m) K N k → K m k
onward_other (check_ground v) m K N k e w = w.2
onward_other (check_indep v u) m K N k e w = w.2
onward_other (group n) m K N k e w = w.2
onward_other jump m K N k e w = w.1
onward_other _ m K N k e w = absurd (false≢true e)

module _ (room : Option ℕ) where
  pub relocated_paces : (n : ℕ) (cs : List Change) (k : Known) (s z : Shape) → list_all (change_fits room) cs ≡ true → AreKept n k cs → PacesLeads n (olds cs) s → Below k → Shifted room k s z → PacesLeads (staying n cs) (news cs) z
  relocated_paces zero [] k s z w a p b h = absurd a
  relocated_paces (suc n) [] k s z w a p b h = absurd a
  relocated_paces (suc n) (kept l u o ∷ cs) k s z w a p b h = relocated_paces n cs k s z (and_parts (fits room l.0 u o) (list_all (change_fits room) cs) w).1 a p b h
  relocated_paces (suc n) (dropped l ∷ cs) k s z w a p b h = relocated_paces n cs k s z (and_parts (may_drop l.0) (list_all (change_fits room) cs) w).1 a p b h
  relocated_paces zero (dropped (get_variable v r, m) ∷ cs) k s z w (j, f, a) p b h =
      let i : Known = set_former j v (former j (X r)) in
      let d : Below j = below_forgets k j f b in
      let g : Shifted room j s z = shifted_forgets room k j s z f h in
      relocated_paces zero cs i (write v s) z w a p.1.4 (below_former j v (former j (X r)) (d.formers (X r)) d)
      (shift room j i s z (write v s) z p.1.3 refl refl refl h.group (moved_sets j v (X r) s z p.1.2 g.sets) g)
  relocated_paces zero (dropped (put_value v r, m) ∷ cs) k s z w (j, f, a) p b h =
      let i : Known = set_former j (X r) (former j v) in
      let d : Below j = below_forgets k j f b in
      let g : Shifted room j s z = shifted_forgets room k j s z f h in
      relocated_paces zero cs i (write (X r) s) z w a p.1.4 (below_former j (X r) (former j v) (d.formers v) d)
      (shift room j i s z (write (X r) s) z p.1.3 refl refl refl h.group (moved_sets j (X r) v s z p.1.2 g.sets) g)
  relocated_paces zero (dropped (i, m) ∷ cs) k s z w a p b h = absurd (false≢true w)
  relocated_paces zero (kept (i, m) u o ∷ cs) k s z w (j, f, a) p b h =
      let c = and_parts (fits room i u o) (list_all (change_fits room) cs) w in
      step_paces room i m (staying m cs) u o (λ n z. PacesLeads n (olds cs) z) (λ n z. PacesLeads n (news cs) z) j s z c.0 a.0 (below_forgets k j f b) (shifted_forgets room k j s z f h) p
      (λ e s1 z1 q b1 h1. relocated_paces zero cs (behind j i u o) s1 z1 c.1 (onward_next i m (λ n j. AreKept n j cs) (λ n. NoTurns n cs) (behind j i u o) e a.1) q b1 h1)
      (λ e s1 z1 q b1 h1. relocated_paces m cs (behind j i u o) s1 z1 c.1 (onward_other i m (λ n j. AreKept n j cs) (λ n. NoTurns n cs) (behind j i u o) e a.1) q b1 h1)
