-- The code of a head and of a goal keeps the rules of code one by one.
use Rattle.std.proofs.Common.{[], ◌≡◌, ◌≢◌, ℕ, zero, suc, ◌+◌, ◌-◌, ◌<◌, ◌≤◌, nat_le, ◌==◌, Bool, true, false, ◌&&◌, if◌then◌else◌, List, ◌∷◌, ◌++◌, ◌⊎◌, inl, inr, Option, Some, None, refl, ap, sym, ◌∙◌, subst, arith, append_assoc}
use Rattle.std.proofs.lemmas.Bool.{and_parts, leb-true}
use Rattle.std.proofs.lemmas.Bool.Decides.{Decides-eqb, nat_tests}
use Rattle.ap_term.specs.Tree.{Tree, Trees, var, int, atom, node, none, more, count_trees}
use Rattle.ap_term.specs.Vars.{has, add_vars, add_all_vars}
use Rattle.ap_term.specs.WellFormed.{in_range, numbered, numbered_all, callable}
use Rattle.ap_term.proofs.Facts.{not_zero}
use Rattle.ap_instr.specs.declared.instruction.Slot.TheVariants.{X, Y}
use Rattle.ap_instr.specs.declared.instruction.Instr.TheVariants.{PutStructure}
use Rattle.ap_instr.specs.Step.{Step, get_variable, get_value, put_variable, put_value, put_structure, unify_variable, unify_value}
use Rattle.ap_instr.specs.Runs.{set, arguments}
use Rattle.ap_codecheck.specs.Shape.{Shape, write, with_target, passed, behind_argument, after}
use Rattle.ap_codecheck.specs.Rules.{ArgumentsSet, IsRoomFor}
use Rattle.ap_codegen.specs.Permanent.{see, see_all, inner, place, fill, fills, see_built, see_nested, build, nested, puts, see_puts, goal_code, see_taken, see_opened, take, takes, get, opens, gets}
use Rattle.ap_codegen.specs.Paces.{IsSlot, PacesTo}
use Rattle.ap_codegen.proofs.Registers.{set_here, set_other}
use Rattle.ap_codegen.proofs.PermanentReads.{has-pushed, place_below, place_apart, goal_sees, taken_sees}

-- outside of structures, in an environment for n variables
pub record Fine (n : ℕ) (s : Shape) : Type 0 where
  pub settled : s.pending ≡ 0
  pub room : s.room ≡ Some n

-- what is set stays set
abbrev Grows : (ℕ → Bool) → (ℕ → Bool) → Type 0
Grows y z = (w : ℕ) → y w ≡ true → z w ≡ true

-- the variables seen are set
abbrev pub Sees : List ℕ → (ℕ → Bool) → Type 0
Sees seen y = (w : ℕ) → has seen w ≡ true → y w ≡ true

-- the places of arguments that are structures are set
abbrev Temps : Trees → ℕ → ℕ → (ℕ → Bool) → Type 0
Temps none b m x = Unit {0}
Temps (more (node a us) ts) b m x = (x (place (inner ts) b m) ≡ true) × Temps ts b m x
Temps (more t ts) b m x = Temps ts b m x

temps_keep : (ts : Trees) (b m : ℕ) (x z : ℕ → Bool) → ((k : ℕ) → x (place k b m) ≡ true → z (place k b m) ≡ true) → Temps ts b m x → Temps ts b m z
temps_keep none b m x z k t = tt
temps_keep (more (var v) ts) b m x z k t = temps_keep ts b m x z k t
temps_keep (more (int v) ts) b m x z k t = temps_keep ts b m x z k t
temps_keep (more (atom v) ts) b m x z k t = temps_keep ts b m x z k t
temps_keep (more (node a us) ts) b m x z k t = (k (inner ts) t.0, temps_keep ts b m x z k t.1)

-- the temporaries from m on for structures that were taken are set
abbrev Taken : Trees → ℕ → (ℕ → Bool) → Type 0
Taken none m x = Unit {0}
Taken (more (node a us) ts) m x = (x (m + inner ts) ≡ true) × Taken ts m x
Taken (more t ts) m x = Taken ts m x

taken_keep : (ts : Trees) (m : ℕ) (x z : ℕ → Bool) → Grows x z → Taken ts m x → Taken ts m z
taken_keep none m x z g t = tt
taken_keep (more (var v) ts) m x z g t = taken_keep ts m x z g t
taken_keep (more (int v) ts) m x z g t = taken_keep ts m x z g t
taken_keep (more (atom v) ts) m x z g t = taken_keep ts m x z g t
taken_keep (more (node a us) ts) m x z g t = (g (m + inner ts) t.0, taken_keep ts m x z g t.1)

-- a place is a register
place_positive : (k b m : ℕ) → 0 < b → 0 < m → 0 < place k b m
place_positive zero b m l j = l
place_positive (suc k) b m l j = omega arith

pub set_true : (x : ℕ → Bool) (a w : ℕ) → x w ≡ true → set x a true w ≡ true
set_true x a w e = go (w == a)
  where
    go : (b : Bool) → (if b then true else x w) ≡ true
    go true = refl
    go false = e

-- what another value stood in before
set_twice : (x : ℕ → Bool) (a w : ℕ) (b : Bool) → x w ≡ true → set (set x a b) a true w ≡ true
set_twice x a w b e = go (w == a)
  where
    go : (c : Bool) → (if c then true else (if c then b else x w)) ≡ true
    go true = refl
    go false = e

pub sees_more : (seen : List ℕ) (y : ℕ → Bool) (v : ℕ) → Sees seen y → Sees (seen ++ v ∷ []) (set y v true)
sees_more seen y v s w h = elim (has-pushed seen v w h) [ inl p ↦ set_true y v w (s w p) | inr p ↦ ap (set y v true) (sym p) ∙ set_here y v true ]

not_one : (c : ℕ) → (c + 1 + 1 == 1) ≡ false
not_one c = go (c + 1 + 1 == 1) refl
  where
    go : (b : Bool) → (c + 1 + 1 == 1) ≡ b → b ≡ false
    go true e = absurd (let k : c + 1 + 1 ≡ 1 = (Decides-eqb (c + 1 + 1) 1).0 e in omega arith)
    go false e = refl

-- ---- structures that are built, and those that are taken apart

-- inside of a structure that began in a shape
abbrev filling : (ℕ → Bool) → (ℕ → Bool) → Shape → Option ℕ → ℕ → Shape
filling x y r g p = record { x = x; y = y; room = r.room; pending = p; target = g; group = r.group }

less_one : (c : ℕ) → c + 1 - 1 ≡ c
less_one c = omega arith

behind_filling : (x y : ℕ → Bool) (r : Shape) (g : Option ℕ) (c : ℕ) → behind_argument (filling x y r g (c + 1 + 1)) ≡ filling x y r g (c + 1)
behind_filling x y r g c = ap (λ b. passed b (filling x y r g (c + 1 + 1))) (not_one c) ∙ ap (filling x y r g) (less_one (c + 1))

begun : (s : Shape) (f a c : ℕ) → after (PutStructure f (c + 1) a) s ≡ filling (set s.x a false) s.y s (Some a) (c + 1)
begun s f a c = ap (λ b. record { x = set s.x a b; y = s.y; room = s.room; pending = c + 1; target = if b then None else Some a; group = s.group }) (not_zero c)

-- a permanent variable of the environment
pub slot_of : (n v : ℕ) (s : Shape) → in_range n v ≡ true → s.room ≡ Some n → IsSlot (Y v) s
slot_of n v s h r =
    let b = and_parts (nat_le 1 v) (nat_le v n) h in
    let l : 1 ≤ v = leb-true 1 v b.0 in
    (omega arith, subst (IsRoomFor v) (sym r) (leb-true v n b.1))

-- an argument's place is set, where it is a structure
abbrev IsThere : Tree → ℕ → (ℕ → Bool) → Type 0
IsThere (node a us) m x = x m ≡ true
IsThere t m x = Unit {0}

first_temp : (t : Tree) (ts : Trees) (b m : ℕ) (x : ℕ → Bool) → Temps (more t ts) b m x → IsThere t (place (inner ts) b m) x
first_temp (var v) ts b m x h = tt
first_temp (int v) ts b m x h = tt
first_temp (atom v) ts b m x h = tt
first_temp (node a us) ts b m x h = h.0

other_temps : (t : Tree) (ts : Trees) (b m : ℕ) (x : ℕ → Bool) → Temps (more t ts) b m x → Temps ts b m x
other_temps (var v) ts b m x h = h
other_temps (int v) ts b m x h = h
other_temps (atom v) ts b m x h = h
other_temps (node a us) ts b m x h = h.1

join_taken : (t : Tree) (ts : Trees) (m : ℕ) (x : ℕ → Bool) → IsThere t (m + inner ts) x → Taken ts m x → Taken (more t ts) m x
join_taken (var v) ts m x h k = k
join_taken (int v) ts m x h k = k
join_taken (atom v) ts m x h k = k
join_taken (node a us) ts m x h k = (h, k)

there_grows : (t : Tree) (m : ℕ) (x z : ℕ → Bool) → Grows x z → IsThere t m x → IsThere t m z
there_grows (var v) m x z g h = tt
there_grows (int v) m x z g h = tt
there_grows (atom v) m x z g h = tt
there_grows (node a us) m x z g h = g m h

-- where what stands behind is given for any shape that may come
record Built (n a : ℕ) (seen : List ℕ) (s z : Shape) : Type 0 where
  fine : Fine n z
  keeps : Grows s.x z.x
  sees : Sees seen z.y
  there : z.x a ≡ true

record Made (n : ℕ) (seen : List ℕ) (s z : Shape) : Type 0 where
  fine : Fine n z
  keeps : Grows s.x z.x
  sees : Sees seen z.y

written : (n a : ℕ) (seen : List ℕ) (s : Shape) (y : ℕ → Bool) → Fine n s → Sees seen y
    → Built n a seen s (record { x = set s.x a true; y = y; room = s.room; pending = s.pending; target = s.target; group = s.group })
written n a seen s y f o = record {
  fine = record { settled = f.settled; room = f.room };
  keeps = λ w e. set_true s.x a w e;
  sees = o;
  there = set_here s.x a true;
}

module _ (K : Shape → Type 0) (n : ℕ) where
  fill_paces : (t : Tree) (seen : List ℕ) (m : ℕ) (rest : List Step) (x y : ℕ → Bool) (r : Shape) (g : Option ℕ) (p : ℕ) → 0 < m → numbered n t ≡ true → Sees seen y → IsThere t m x → r.room ≡ Some n → 0 < p
      → ((z : ℕ → Bool) → Sees (see t seen) z → PacesTo K rest (behind_argument (filling x z r g p))) → PacesTo K (fill t seen m ∷ rest) (filling x y r g p)
  fill_paces (var v) seen m rest x y r g p l i o t e q c = go (has seen v) refl c
    where
      go : (b : Bool) → has seen v ≡ b → ((z : ℕ → Bool) → Sees (if b then seen else seen ++ v ∷ []) z → PacesTo K rest (behind_argument (filling x z r g p)))
          → PacesTo K ((if b then unify_value (Y v) else unify_variable (Y v)) ∷ rest) (filling x y r g p)
      go true k c = (slot_of n v (filling x y r g p) i e, o v k, q, c y o)
      go false k c = (slot_of n v (filling x y r g p) i e, q, c (set y v true) (sees_more seen y v o))
  fill_paces (int z) seen m rest x y r g p l i o t e q c = (q, c y o)
  fill_paces (atom a) seen m rest x y r g p l i o t e q c = (q, c y o)
  fill_paces (node a us) seen m rest x y r g p l i o t e q c = (l, t, q, c y o)

  fills_paces : (t : Tree) (ts : Trees) (seen : List ℕ) (b m : ℕ) (rest : List Step) (x y : ℕ → Bool) (r : Shape) (g : Option ℕ) → 0 < b → 0 < m → numbered_all n (more t ts) ≡ true → Sees seen y → Temps (more t ts) b m x
      → r.room ≡ Some n → ((z : ℕ → Bool) → Sees (see_all (more t ts) seen) z → PacesTo K rest (filling (with_target g x) z r None 0)) → PacesTo K (fills (more t ts) seen b m ++ rest) (filling x y r g (count_trees (more t ts)))
  fills_paces t none seen b m rest x y r g j l i o s e c =
      let d = and_parts (numbered n t) (numbered_all n none) i in
      fill_paces t seen b rest x y r g 1 j d.0 o (first_temp t none b m x s) e (omega arith) c
  fills_paces t (more u us) seen b m rest x y r g j l i o s e c =
      let d = and_parts (numbered n t) (numbered_all n (more u us)) i in
      let p : ℕ = place (inner (more u us)) b m in
      fill_paces t seen p (fills (more u us) (see t seen) b m ++ rest) x y r g (count_trees us + 1 + 1) (place_positive (inner (more u us)) b m j l) d.0 o (first_temp t (more u us) b m x s) e (omega arith) (λ z o1.
      subst (PacesTo K (fills (more u us) (see t seen) b m ++ rest)) (sym (behind_filling x z r g (count_trees us)))
      (fills_paces u us (see t seen) b m rest x z r g j l d.1 o1 (other_temps t (more u us) b m x s) e c))

  structure_paces : (f : ℕ) (ts : Trees) (a : ℕ) (seen : List ℕ) (b m : ℕ) (rest : List Step) (s : Shape) → 0 < a → 0 < b → a ≢ b → a < m → numbered_all n ts ≡ true → Sees seen s.y → Temps ts b m s.x → Fine n s
      → ((z : Shape) → Built n a (see_all ts seen) s z → PacesTo K rest z) → PacesTo K (put_structure f (count_trees ts) a ∷ (fills ts seen b m ++ rest)) s
  structure_paces f none a seen b m rest s p j d l i o t k c = (
    p,
    k.settled,
    c (filling (set s.x a true) s.y s None 0) (record { fine = record { settled = refl; room = k.room }; keeps = λ w e. set_true s.x a w e; sees = o; there = set_here s.x a true }),
  )
  structure_paces f (more u us) a seen b m rest s p j d l i o t k c = (
    p,
    k.settled,
    subst (PacesTo K (fills (more u us) seen b m ++ rest)) (sym (begun s f a (count_trees us)))
        (fills_paces u us seen b m rest (set s.x a false) s.y s (Some a) j (omega arith) i o
        (temps_keep (more u us) b m s.x (set s.x a false) (λ h e. set_other s.x a false (place h b m) (place_apart h a b m d l) ∙ e) t) k.room
        (λ z oz. c (filling (set (set s.x a false) a true) z s None 0) (record {
          fine = record { settled = refl; room = k.room };
          keeps = λ w e. set_twice s.x a w false e;
          sees = oz;
          there = set_here (set s.x a false) a true;
        }))),
  )

  mutual
    build_paces : (t : Tree) (a : ℕ) (seen : List ℕ) (b m : ℕ) (rest : List Step) (s : Shape) → 0 < a → 0 < b → a ≢ b → a < m → b < m → numbered n t ≡ true → Sees seen s.y → Fine n s
        → ((z : Shape) → Built n a (see_built t seen) s z → PacesTo K rest z) → PacesTo K (build t a seen b m ++ rest) s
    build_paces (var v) a seen b m rest s p j d l k i o f c = go (has seen v) refl c
      where
        go : (b : Bool) → has seen v ≡ b → ((z : Shape) → Built n a (if b then seen else seen ++ v ∷ []) s z → PacesTo K rest z) → PacesTo K ((if b then put_value (Y v) a ∷ [] else put_variable (Y v) a ∷ []) ++ rest) s
        go true e c = (slot_of n v s i f.room, p, o v e, f.settled, c (write (X a) s) (written n a seen s s.y f o))
        go false e c = (slot_of n v s i f.room, p, f.settled, c (write (X a) (write (Y v) s)) (written n a (seen ++ v ∷ []) s (set s.y v true) f (sees_more seen s.y v o)))
    build_paces (int z) a seen b m rest s p j d l k i o f c = (p, f.settled, c (write (X a) s) (written n a seen s s.y f o))
    build_paces (atom q) a seen b m rest s p j d l k i o f c = (p, f.settled, c (write (X a) s) (written n a seen s s.y f o))
    build_paces (node g ts) a seen b m rest s p j d l k i o f c =
        let seen1 : List ℕ = see_nested ts seen in
        subst (λ q. PacesTo K q s) (sym (append_assoc (nested ts a seen b m) (put_structure g (count_trees ts) a ∷ fills ts seen1 b m) rest))
        (nested_paces ts a seen b m (put_structure g (count_trees ts) a ∷ (fills ts seen1 b m ++ rest)) s p j d l k i o f (λ z fz kz oz tz.
        structure_paces g ts a seen1 b m rest z p j d l i oz tz fz (λ u h.
        c u (record { fine = h.fine; keeps = λ w e. h.keeps w (kz w e); sees = h.sees; there = h.there }))))

    nested_paces : (ts : Trees) (a : ℕ) (seen : List ℕ) (b m : ℕ) (rest : List Step) (s : Shape) → 0 < a → 0 < b → a ≢ b → a < m → b < m → numbered_all n ts ≡ true → Sees seen s.y → Fine n s
        → ((z : Shape) → Fine n z → Grows s.x z.x → Sees (see_nested ts seen) z.y → Temps ts b m z.x → PacesTo K rest z) → PacesTo K (nested ts a seen b m ++ rest) s
    nested_paces none a seen b m rest s p j d l k i o f c = c s f (λ w e. e) o tt
    nested_paces (more (var v) ts) a seen b m rest s p j d l k i o f c = nested_paces ts a seen b m rest s p j d l k (and_parts (in_range n v) (numbered_all n ts) i).1 o f c
    nested_paces (more (int v) ts) a seen b m rest s p j d l k i o f c = nested_paces ts a seen b m rest s p j d l k i o f c
    nested_paces (more (atom v) ts) a seen b m rest s p j d l k i o f c = nested_paces ts a seen b m rest s p j d l k i o f c
    nested_paces (more (node g us) ts) a seen b m rest s p j d l k i o f c =
        let e = and_parts (numbered_all n us) (numbered_all n ts) i in
        let q : ℕ = place (inner ts) b m in
        let end : ℕ = m + inner ts in
        let seen1 : List ℕ = see_nested ts seen in
        let part : List Step = build (node g us) q seen1 a end in
        subst (λ q. PacesTo K q s) (sym (append_assoc (nested ts a seen b m) part rest))
        (nested_paces ts a seen b m (part ++ rest) s p j d l k e.1 o f (λ z fz kz oz tz.
        build_paces (node g us) q seen1 a end rest z (place_positive (inner ts) b m j (omega arith)) p (place_apart (inner ts) a b m d l) (place_below (inner ts) b m k) (omega arith) e.0 oz fz (λ u h.
        c u h.fine (λ w t. h.keeps w (kz w t)) h.sees (h.there, temps_keep ts b m z.x u.x (λ t. h.keeps (place t b m)) tz))))

-- ---- goals

split : (a w : ℕ) → a ≤ w → (w ≡ a) ⊎ (a + 1 ≤ w)
split zero zero l = inl refl
split zero (suc w) l = inr (omega arith)
split (suc a) zero l = absurd (omega arith)
split (suc a) (suc w) l = elim (split a w (omega arith)) [ inl e ↦ inl (ap suc e) | inr k ↦ inr (omega arith) ]

pub numbered_arguments : (n : ℕ) (g : Tree) → numbered n g ≡ true → numbered_all n (arguments g) ≡ true
numbered_arguments n (var v) i = refl
numbered_arguments n (int v) i = refl
numbered_arguments n (atom v) i = refl
numbered_arguments n (node a ts) i = i

module _ (K : Shape → Type 0) (n : ℕ) where
  puts_paces : (ts : Trees) (a : ℕ) (seen : List ℕ) (m : ℕ) (rest : List Step) (s : Shape) → 0 < a → a + count_trees ts ≤ m → numbered_all n ts ≡ true → Sees seen s.y → Fine n s
      → ((z : Shape) → Fine n z → Grows s.x z.x → Sees (see_puts ts seen) z.y → ((w : ℕ) → a ≤ w → w < a + count_trees ts → z.x w ≡ true) → PacesTo K rest z) → PacesTo K (puts ts a seen m ++ rest) s
  puts_paces none a seen m rest s p l i o f c = c s f (λ w e. e) o (λ w j d. absurd (omega arith))
  puts_paces (more t ts) a seen m rest s p l i o f c =
      let b = and_parts (numbered n t) (numbered_all n ts) i in
      let seen1 : List ℕ = see_built t seen in
      subst (λ q. PacesTo K q s) (sym (append_assoc (build t a seen m (m + 1)) (puts ts (a + 1) seen1 m) rest))
      (build_paces K n t a seen m (m + 1) (puts ts (a + 1) seen1 m ++ rest) s p (omega arith) (omega arith) (omega arith) (omega arith) b.0 o f (λ z h.
      puts_paces ts (a + 1) seen1 m rest z (omega arith) (omega arith) b.1 h.sees h.fine (λ u fu ku ou au.
      c u fu (λ w e. ku w (h.keeps w e)) ou (λ w j d.
      elim (split a w j) [ inl e ↦ ap u.x e ∙ ku a h.there | inr q ↦ au w q (omega arith) ]))))

  pub goal_paces : (g : Tree) (seen : List ℕ) (rest : List Step) (s : Shape) → numbered n g ≡ true → callable g ≡ true → Fine n s → Sees seen s.y
      → ((z : Shape) → Fine n z → Sees (add_vars g seen) z.y → ArgumentsSet (count_trees (arguments g)) z → PacesTo K rest z) → PacesTo K (goal_code g seen ++ rest) s
  goal_paces g seen rest s i k f o c =
      puts_paces (arguments g) 1 seen (count_trees (arguments g) + 1) rest s (omega arith) (omega arith) (numbered_arguments n g i) o f (λ z fz kz oz az.
      c z fz (λ w q. oz w (goal_sees g seen w k q)) (λ a j d. az a (omega arith) (omega arith)))

  -- ---- heads

  take_paces : (t : Tree) (seen : List ℕ) (m : ℕ) (rest : List Step) (x y : ℕ → Bool) (r : Shape) (p : ℕ) → 0 < m → numbered n t ≡ true → Sees seen y → r.room ≡ Some n → 0 < p
      → ((u z : ℕ → Bool) → Grows x u → Sees (see t seen) z → IsThere t m u → PacesTo K rest (behind_argument (filling u z r None p))) → PacesTo K (take t seen m ∷ rest) (filling x y r None p)
  take_paces (var v) seen m rest x y r p l i o e q c = go (has seen v) refl c
    where
      go : (b : Bool) → has seen v ≡ b → ((u z : ℕ → Bool) → Grows x u → Sees (if b then seen else seen ++ v ∷ []) z → Unit {0} → PacesTo K rest (behind_argument (filling u z r None p)))
          → PacesTo K ((if b then unify_value (Y v) else unify_variable (Y v)) ∷ rest) (filling x y r None p)
      go true k c = (slot_of n v (filling x y r None p) i e, o v k, q, c x y (λ w h. h) o tt)
      go false k c = (slot_of n v (filling x y r None p) i e, q, c x (set y v true) (λ w h. h) (sees_more seen y v o) tt)
  take_paces (int z) seen m rest x y r p l i o e q c = (q, c x y (λ w h. h) o tt)
  take_paces (atom a) seen m rest x y r p l i o e q c = (q, c x y (λ w h. h) o tt)
  take_paces (node a us) seen m rest x y r p l i o e q c = (l, q, c (set x m true) y (λ w h. set_true x m w h) o (set_here x m true))

  takes_paces : (ts : Trees) (seen : List ℕ) (m : ℕ) (rest : List Step) (x y : ℕ → Bool) (r : Shape) → 0 < m → numbered_all n ts ≡ true → Sees seen y → r.room ≡ Some n
      → ((u z : ℕ → Bool) → Grows x u → Sees (see_all ts seen) z → Taken ts m u → PacesTo K rest (filling u z r None 0)) → PacesTo K (takes ts seen m ++ rest) (filling x y r None (count_trees ts))
  takes_paces none seen m rest x y r l i o e c = c x y (λ w h. h) o tt
  takes_paces (more t none) seen m rest x y r l i o e c =
      take_paces t seen (m + 0) rest x y r 1 (omega arith) (and_parts (numbered n t) (numbered_all n none) i).0 o e (omega arith) (λ u z g h k. c u z g h (join_taken t none m u k tt))
  takes_paces (more t (more d ds)) seen m rest x y r l i o e c =
      let b = and_parts (numbered n t) (numbered_all n (more d ds)) i in
      let p : ℕ = m + inner (more d ds) in
      take_paces t seen p (takes (more d ds) (see t seen) m ++ rest) x y r (count_trees ds + 1 + 1) (omega arith) b.0 o e (omega arith) (λ u z g1 o1 t1.
      subst (PacesTo K (takes (more d ds) (see t seen) m ++ rest)) (sym (behind_filling u z r None (count_trees ds)))
      (takes_paces (more d ds) (see t seen) m rest u z r l b.1 o1 e (λ u2 z2 g2 o2 t2.
      c u2 z2 (λ w h. g2 w (g1 w h)) o2 (join_taken t (more d ds) m u2 (there_grows t p u u2 g2 t1) t2))))

  mutual
    get_paces : (t : Tree) (a : ℕ) (seen : List ℕ) (m : ℕ) (rest : List Step) (s : Shape) → 0 < a → 0 < m → numbered n t ≡ true → Fine n s → Sees seen s.y → s.x a ≡ true
        → ((z : Shape) → Made n (see_taken t seen) s z → PacesTo K rest z) → PacesTo K (get t a seen m ++ rest) s
    get_paces (var v) a seen m rest s p l i f o h c = go (has seen v) refl c
      where
        go : (b : Bool) → has seen v ≡ b → ((z : Shape) → Made n (if b then seen else seen ++ v ∷ []) s z → PacesTo K rest z) → PacesTo K ((if b then get_value (Y v) a ∷ [] else get_variable (Y v) a ∷ []) ++ rest) s
        go true e c = (slot_of n v s i f.room, p, o v e, h, f.settled, c s (record { fine = f; keeps = λ w q. q; sees = o }))
        go false e c = (
          slot_of n v s i f.room,
          p,
          h,
          f.settled,
          c (write (Y v) s) (record { fine = record { settled = f.settled; room = f.room }; keeps = λ w q. q; sees = sees_more seen s.y v o }),
        )
    get_paces (int z) a seen m rest s p l i f o h c = (p, h, f.settled, c s (record { fine = f; keeps = λ w q. q; sees = o }))
    get_paces (atom b) a seen m rest s p l i f o h c = (p, h, f.settled, c s (record { fine = f; keeps = λ w q. q; sees = o }))
    get_paces (node g ts) a seen m rest s p l i f o h c =
        let seen1 : List ℕ = see_all ts seen in (
          p,
          h,
          f.settled,
          subst (λ q. PacesTo K q (filling s.x s.y s None (count_trees ts))) (sym (append_assoc (takes ts seen m) (opens ts seen1 m) rest))
              (takes_paces ts seen m (opens ts seen1 m ++ rest) s.x s.y s l i o f.room (λ u z g1 o1 t1.
              opens_paces ts seen1 m rest (filling u z s None 0) l i o1 (record { settled = refl; room = f.room }) t1 (λ v d.
              c v (record { fine = d.fine; keeps = λ w q. d.keeps w (g1 w q); sees = d.sees })))),
        )

    opens_paces : (ts : Trees) (seen : List ℕ) (m : ℕ) (rest : List Step) (s : Shape) → 0 < m → numbered_all n ts ≡ true → Sees seen s.y → Fine n s → Taken ts m s.x
        → ((z : Shape) → Made n (see_opened ts seen) s z → PacesTo K rest z) → PacesTo K (opens ts seen m ++ rest) s
    opens_paces none seen m rest s l i o f t c = c s (record { fine = f; keeps = λ w e. e; sees = o })
    opens_paces (more (var v) ts) seen m rest s l i o f t c = opens_paces ts seen m rest s l (and_parts (in_range n v) (numbered_all n ts) i).1 o f t c
    opens_paces (more (int v) ts) seen m rest s l i o f t c = opens_paces ts seen m rest s l i o f t c
    opens_paces (more (atom v) ts) seen m rest s l i o f t c = opens_paces ts seen m rest s l i o f t c
    opens_paces (more (node g us) ts) seen m rest s l i o f t c =
        let b = and_parts (numbered_all n us) (numbered_all n ts) i in
        let p : ℕ = m + inner ts in
        let seen1 : List ℕ = see_taken (node g us) seen in
        let part : List Step = get (node g us) p seen p in
        subst (λ q. PacesTo K q s) (sym (append_assoc part (opens ts seen1 m) rest))
        (get_paces (node g us) p seen p (opens ts seen1 m ++ rest) s (omega arith) (omega arith) b.0 f o t.0 (λ z d.
        opens_paces ts seen1 m rest z l b.1 d.sees d.fine (taken_keep ts m s.x z.x d.keeps t.1) (λ v e.
        c v (record { fine = e.fine; keeps = λ w q. e.keeps w (d.keeps w q); sees = e.sees }))))

  pub gets_paces : (ts : Trees) (a : ℕ) (seen : List ℕ) (m : ℕ) (rest : List Step) (s : Shape) → 0 < a → a + count_trees ts ≤ m → numbered_all n ts ≡ true → Fine n s → Sees seen s.y
      → ((w : ℕ) → a ≤ w → w < m → s.x w ≡ true) → ((z : Shape) → Fine n z → Sees (add_all_vars ts seen) z.y → PacesTo K rest z) → PacesTo K (gets ts a seen m ++ rest) s
  gets_paces none a seen m rest s p l i f o h c = c s f o
  gets_paces (more t ts) a seen m rest s p l i f o h c =
      let b = and_parts (numbered n t) (numbered_all n ts) i in
      subst (λ q. PacesTo K q s) (sym (append_assoc (get t a seen m) (gets ts (a + 1) (add_vars t seen) m) rest))
      (get_paces t a seen m (gets ts (a + 1) (add_vars t seen) m ++ rest) s p (omega arith) b.0 f o (h a (omega arith) (omega arith)) (λ z d.
      gets_paces ts (a + 1) (add_vars t seen) m rest z (omega arith) (omega arith) b.1 d.fine (λ w q. d.sees w (taken_sees t seen w q)) (λ w j q. d.keeps w (h w (omega arith) q)) c))

pub entered : (w k : ℕ) → 1 ≤ w → w < k + 1 → (nat_le 1 w && nat_le w k) ≡ true
entered w k h l = ap (λ b. b && nat_le w k) one ∙ other
  where
    one : nat_le 1 w ≡ true
    one = grind (arith, nat_tests)

    other : nat_le w k ≡ true
    other = grind (arith, nat_tests)
