-- The code of a head and of a goal whose variables stand in the environment reads as they do, whatever stands behind it.
use Rattle.std.proofs.Common.{[], ◌≡◌, ◌≢◌, nat_eq, ℕ, zero, suc, ◌+◌, ◌<◌, ◌≤◌, ◌==◌, Bool, true, false, if◌then◌else◌, List, ◌∷◌, ◌++◌, ◌⊎◌, inl, inr, refl, ap, sym, ◌∙◌, subst, arith, append_assoc}
use Rattle.ap_term.proofs.TreeLists.{count_trees-instance_all}
use Rattle.std.proofs.lemmas.Bool.{false≢true, or_cases}
use Rattle.std.proofs.lemmas.Bool.Decides.{Decides-eqb}
use Rattle.ap_term.specs.Tree.{Tree, Trees, var, int, atom, node, none, more, count_trees}
use Rattle.ap_term.specs.Vars.{has, add_vars, add_all_vars, occurs, occurs_all}
use Rattle.ap_term.specs.Substitution.{instance, instance_all}
use Rattle.ap_term.specs.WellFormed.{callable}
use Rattle.ap_term.proofs.Solutions.{instance_agree, instance_all_agree, or_left, or_right, same_var, same_test}
use Rattle.ap_term.proofs.Solvable.{has-add_vars, has-add_all_vars}
use Rattle.ap_term.proofs.Found.{has-push, has-kept}
use Rattle.ap_instr.specs.declared.instruction.Slot.TheVariants.{Y}
use Rattle.ap_instr.specs.Step.{Step, get_variable, get_value, put_variable, put_value, put_structure, unify_variable, unify_value, call, builtin}
use Rattle.ap_instr.specs.Runs.{Runs, set, spread, lost, applied, arguments}
use Rattle.ap_codegen.specs.Permanent.{name, see, see_all, inner, place, fills, see_built, see_nested, build, nested, puts, see_puts, goal_code, see_taken, see_opened, takes, get, opens, gets}
use Rattle.ap_codegen.proofs.Registers.{set_here, has_more}

-- the same below m, but for two numbers
abbrev But : ℕ → ℕ → ℕ → (ℕ → Tree) → (ℕ → Tree) → Type 0
But a b m x x' = (w : ℕ) → w < m → w ≢ a → w ≢ b → x' w ≡ x w

abbrev Same : ℕ → (ℕ → Tree) → (ℕ → Tree) → Type 0
Same m x x' = (w : ℕ) → w < m → x' w ≡ x w

abbrev Above : ℕ → (ℕ → Tree) → (ℕ → Tree) → Type 0
Above k x x' = (w : ℕ) → k ≤ w → x' w ≡ x w

-- ---- where structures stand

pub place_below : (k b m : ℕ) → b < m → place k b m < m + k
place_below zero b m l = omega arith
place_below (suc k) b m l = omega arith

place_within : (k j b m : ℕ) → b < m → k < j → place k b m < m + j
place_within k j b m l i = let d = place_below k b m l in omega arith

pub place_apart : (k a b m : ℕ) → a ≢ b → a < m → place k b m ≢ a
place_apart zero a b m n l e = n (sym e)
place_apart (suc k) a b m n l e = omega arith

place_other : (k b m w : ℕ) → w < m → w ≢ b → w ≢ place k b m
place_other zero b m w l n e = n e
place_other (suc k) b m w l n e = omega arith

-- each has a place of its own
place_new : (k j b m : ℕ) → b < m → k < j → place k b m ≢ place j b m
place_new k zero b m l i e = omega arith
place_new k (suc j) b m l i e = let d = place_below k b m l in omega arith

-- the trees in the places of arguments that are structures are those of the arguments
abbrev Temps : Trees → ℕ → ℕ → (ℕ → Tree) → (ℕ → Tree) → Type 0
Temps none b m x y = Unit {0}
Temps (more (var v) ts) b m x y = Temps ts b m x y
Temps (more (int z) ts) b m x y = Temps ts b m x y
Temps (more (atom a) ts) b m x y = Temps ts b m x y
Temps (more (node a us) ts) b m x y = (x (place (inner ts) b m) ≡ instance y (node a us)) × Temps ts b m x y

-- what is set elsewhere does not change them
Temps-same : (ts : Trees) (b m : ℕ) (x x' y : ℕ → Tree) → ((k : ℕ) → k < inner ts → x' (place k b m) ≡ x (place k b m)) → Temps ts b m x y → Temps ts b m x' y
Temps-same none b m x x' y h t = tt
Temps-same (more (var v) ts) b m x x' y h t = Temps-same ts b m x x' y h t
Temps-same (more (int v) ts) b m x x' y h t = Temps-same ts b m x x' y h t
Temps-same (more (atom v) ts) b m x x' y h t = Temps-same ts b m x x' y h t
Temps-same (more (node a us) ts) b m x x' y h t = (h (inner ts) (omega arith) ∙ t.0, Temps-same ts b m x x' y (λ k i. h k (omega arith)) t.1)

-- the trees that were taken into the temporaries from m on
abbrev Taken : Trees → ℕ → (ℕ → Tree) → (ℕ → Tree) → Type 0
Taken none m x y = Unit {0}
Taken (more (var v) ts) m x y = Taken ts m x y
Taken (more (int z) ts) m x y = Taken ts m x y
Taken (more (atom a) ts) m x y = Taken ts m x y
Taken (more (node a us) ts) m x y = (x (m + inner ts) ≡ instance y (node a us)) × Taken ts m x y

Taken-same : (ts : Trees) (m : ℕ) (x x' y : ℕ → Tree) → ((w : ℕ) → w < m + inner ts → x' w ≡ x w) → Taken ts m x y → Taken ts m x' y
Taken-same none m x x' y h t = tt
Taken-same (more (var v) ts) m x x' y h t = Taken-same ts m x x' y h t
Taken-same (more (int v) ts) m x x' y h t = Taken-same ts m x x' y h t
Taken-same (more (atom v) ts) m x x' y h t = Taken-same ts m x x' y h t
Taken-same (more (node a us) ts) m x x' y h t = (h (m + inner ts) (omega arith) ∙ t.0, Taken-same ts m x x' y (λ w i. h w (omega arith)) t.1)

set_but : (x : ℕ → Tree) (a w : ℕ) (t : Tree) → w ≢ a → set x a t w ≡ x w
set_but x a w t n = go (w == a) refl
  where
    go : (b : Bool) → (w == a) ≡ b → (if b then t else x w) ≡ x w
    go true e = absurd (n ((Decides-eqb w a).0 e))
    go false e = refl

-- code in two parts
pub reassoc : (a b c : List Step) (ts : Trees) (x y : ℕ → Tree) (bs : Trees) → Runs ((a ++ b) ++ c) ts x y bs → Runs (a ++ (b ++ c)) ts x y bs
reassoc a b c ts x y bs r = subst (λ q. Runs q ts x y bs) (append_assoc a b c) r

reassoc_back : (a b c : List Step) (ts : Trees) (x y : ℕ → Tree) (bs : Trees) → Runs (a ++ (b ++ c)) ts x y bs → Runs ((a ++ b) ++ c) ts x y bs
reassoc_back a b c ts x y bs r = subst (λ q. Runs q ts x y bs) (sym (append_assoc a b c)) r

-- ---- variables that were seen

abbrev pub AgreeOn : List ℕ → (ℕ → Tree) → (ℕ → Tree) → Type 0
AgreeOn seen y h = (v : ℕ) → has seen v ≡ true → y v ≡ h v

pub has-pushed : (xs : List ℕ) (v w : ℕ) → has (xs ++ v ∷ []) w ≡ true → (has xs w ≡ true) ⊎ (v ≡ w)
has-pushed [] v w h = elim (or_cases (nat_eq v w) false h) [ inl p ↦ inr (same_var v w p) | inr p ↦ absurd (false≢true p) ]
has-pushed (x ∷ xs) v w h =
    elim (or_cases (nat_eq x w) (has (xs ++ v ∷ []) w) h) [
      | inl p ↦ inl (or_left (nat_eq x w) (has xs w) p)
      | inr p ↦ elim (has-pushed xs v w p) [ inl q ↦ inl (or_right (nat_eq x w) (has xs w) q) | inr q ↦ inr q ]
    ]

-- a variable that was not seen may be set
pub set_agrees : (seen : List ℕ) (y : ℕ → Tree) (v : ℕ) (t : Tree) → has seen v ≡ false → AgreeOn seen y (set y v t)
set_agrees seen y v t e w o = sym (set_but y v w t (λ q. false≢true (sym e ∙ ap (has seen) (sym q) ∙ o)))

pub push_agrees : (seen : List ℕ) (y h : ℕ → Tree) (v : ℕ) → AgreeOn seen y h → AgreeOn (seen ++ v ∷ []) (set y v (h v)) h
push_agrees seen y h v a w o = go (w == v) refl
  where
    go : (b : Bool) → (w == v) ≡ b → (if b then h v else y w) ≡ h w
    go true e = ap h (sym (same_var w v e))
    go false e = elim (has-pushed seen v w o) [ inl p ↦ a w p | inr p ↦ absurd (false≢true (sym e ∙ same_test w v (sym p))) ]

-- maps that agree on what was seen of a tree make the same of it
pub seen_same : (t : Tree) (seen : List ℕ) (y h : ℕ → Tree) → AgreeOn (add_vars t seen) y h → instance y t ≡ instance h t
seen_same t seen y h a = instance_agree y h t (λ v o. a v (has-add_vars v t seen (or_right (has seen v) (occurs v t) o)))

pub seen_same_all : (ts : Trees) (seen : List ℕ) (y h : ℕ → Tree) → AgreeOn (add_all_vars ts seen) y h → instance_all y ts ≡ instance_all h ts
seen_same_all ts seen y h a = instance_all_agree y h ts (λ v o. a v (has-add_all_vars v ts seen (or_right (has seen v) (occurs_all v ts) o)))

-- ---- what is seen in the order in which terms are built

-- what was seen stays so
see-grows : (t : Tree) (seen : List ℕ) (w : ℕ) → has seen w ≡ true → has (see t seen) w ≡ true
see-grows (var v) seen w h = has-kept (var v) seen w h
see-grows (int z) seen w h = h
see-grows (atom a) seen w h = h
see-grows (node a us) seen w h = h

pub see_all-grows : (ts : Trees) (seen : List ℕ) (w : ℕ) → has seen w ≡ true → has (see_all ts seen) w ≡ true
see_all-grows none seen w h = h
see_all-grows (more t ts) seen w h = see_all-grows ts (see t seen) w (see-grows t seen w h)

mutual
  see_built-grows : (t : Tree) (seen : List ℕ) (w : ℕ) → has seen w ≡ true → has (see_built t seen) w ≡ true
  see_built-grows (var v) seen w h = has-kept (var v) seen w h
  see_built-grows (int z) seen w h = h
  see_built-grows (atom a) seen w h = h
  see_built-grows (node f ts) seen w h = see_all-grows ts (see_nested ts seen) w (see_nested-grows ts seen w h)

  see_nested-grows : (ts : Trees) (seen : List ℕ) (w : ℕ) → has seen w ≡ true → has (see_nested ts seen) w ≡ true
  see_nested-grows none seen w h = h
  see_nested-grows (more (var v) ts) seen w h = see_nested-grows ts seen w h
  see_nested-grows (more (int z) ts) seen w h = see_nested-grows ts seen w h
  see_nested-grows (more (atom a) ts) seen w h = see_nested-grows ts seen w h
  see_nested-grows (more (node a us) ts) seen w h = see_built-grows (node a us) (see_nested ts seen) w (see_nested-grows ts seen w h)

see_puts-grows : (ts : Trees) (seen : List ℕ) (w : ℕ) → has seen w ≡ true → has (see_puts ts seen) w ≡ true
see_puts-grows none seen w h = h
see_puts-grows (more t ts) seen w h = see_puts-grows ts (see_built t seen) w (see_built-grows t seen w h)

-- a variable that was found was there before or stands in the term
mutual
  add_vars-has : (w : ℕ) (t : Tree) (seen : List ℕ) → has (add_vars t seen) w ≡ true → (has seen w ≡ true) ⊎ (occurs w t ≡ true)
  add_vars-has w (var v) seen h = go (has seen v) h
    where
      go : (b : Bool) → has (if b then seen else seen ++ v ∷ []) w ≡ true → (has seen w ≡ true) ⊎ (nat_eq w v ≡ true)
      go true h = inl h
      go false h = elim (has-pushed seen v w h) [ inl p ↦ inl p | inr q ↦ inr (same_test w v (sym q)) ]
  add_vars-has w (int z) seen h = inl h
  add_vars-has w (atom a) seen h = inl h
  add_vars-has w (node a ts) seen h = add_all_vars-has w ts seen h

  add_all_vars-has : (w : ℕ) (ts : Trees) (seen : List ℕ) → has (add_all_vars ts seen) w ≡ true → (has seen w ≡ true) ⊎ (occurs_all w ts ≡ true)
  add_all_vars-has w none seen h = inl h
  add_all_vars-has w (more t ts) seen h =
      elim (add_all_vars-has w ts (add_vars t seen) h) [
        | inl p ↦ elim (add_vars-has w t seen p) [ inl q ↦ inl q | inr q ↦ inr (or_left (occurs w t) (occurs_all w ts) q) ]
        | inr p ↦ inr (or_right (occurs w t) (occurs_all w ts) p)
      ]

-- a variable of a structure is an argument of it or stands in a structure of it
mutual
  see_built-has : (w : ℕ) (t : Tree) (seen : List ℕ) → occurs w t ≡ true → has (see_built t seen) w ≡ true
  see_built-has w (var v) seen o = has-add_vars w (var v) seen (or_right (has seen w) (nat_eq w v) o)
  see_built-has w (int z) seen o = absurd (false≢true o)
  see_built-has w (atom a) seen o = absurd (false≢true o)
  see_built-has w (node f ts) seen o = elim (is_seen w ts o) [ inl k ↦ k (see_nested ts seen) | inr k ↦ see_all-grows ts (see_nested ts seen) w (k seen) ]

  is_seen : (w : ℕ) (ts : Trees) → occurs_all w ts ≡ true → ((s : List ℕ) → has (see_all ts s) w ≡ true) ⊎ ((s : List ℕ) → has (see_nested ts s) w ≡ true)
  is_seen w none o = absurd (false≢true o)
  is_seen w (more (var v) ts) o =
      elim (or_cases (nat_eq w v) (occurs_all w ts) o) [
        | inl p ↦ inl (λ s. see_all-grows ts (see (var v) s) w (has-add_vars w (var v) s (or_right (has s w) (nat_eq w v) p)))
        | inr p ↦ elim (is_seen w ts p) [ inl k ↦ inl (λ s. k (see (var v) s)) | inr k ↦ inr k ]
      ]
  is_seen w (more (int z) ts) o = is_seen w ts o
  is_seen w (more (atom a) ts) o = is_seen w ts o
  is_seen w (more (node a us) ts) o =
      elim (or_cases (occurs_all w us) (occurs_all w ts) o) [
        | inl p ↦ inr (λ s. see_built-has w (node a us) (see_nested ts s) p)
        | inr p ↦ elim (is_seen w ts p) [ inl k ↦ inl k | inr k ↦ inr (λ s. see_built-grows (node a us) (see_nested ts s) w (k s)) ]
      ]

see_puts-has : (w : ℕ) (ts : Trees) (seen : List ℕ) → occurs_all w ts ≡ true → has (see_puts ts seen) w ≡ true
see_puts-has w none seen o = absurd (false≢true o)
see_puts-has w (more t ts) seen o =
    elim (or_cases (occurs w t) (occurs_all w ts) o) [
      | inl p ↦ see_puts-grows ts (see_built t seen) w (see_built-has w t seen p)
      | inr p ↦ see_puts-has w ts (see_built t seen) p
    ]

-- the same of a term that is taken apart
mutual
  see_taken-grows : (t : Tree) (seen : List ℕ) (w : ℕ) → has seen w ≡ true → has (see_taken t seen) w ≡ true
  see_taken-grows (var v) seen w h = has-kept (var v) seen w h
  see_taken-grows (int z) seen w h = h
  see_taken-grows (atom a) seen w h = h
  see_taken-grows (node f ts) seen w h = see_opened-grows ts (see_all ts seen) w (see_all-grows ts seen w h)

  see_opened-grows : (ts : Trees) (seen : List ℕ) (w : ℕ) → has seen w ≡ true → has (see_opened ts seen) w ≡ true
  see_opened-grows none seen w h = h
  see_opened-grows (more (var v) ts) seen w h = see_opened-grows ts seen w h
  see_opened-grows (more (int z) ts) seen w h = see_opened-grows ts seen w h
  see_opened-grows (more (atom a) ts) seen w h = see_opened-grows ts seen w h
  see_opened-grows (more (node a us) ts) seen w h = see_opened-grows ts (see_taken (node a us) seen) w (see_taken-grows (node a us) seen w h)

mutual
  see_taken-has : (w : ℕ) (t : Tree) (seen : List ℕ) → occurs w t ≡ true → has (see_taken t seen) w ≡ true
  see_taken-has w (var v) seen o = has-add_vars w (var v) seen (or_right (has seen w) (nat_eq w v) o)
  see_taken-has w (int z) seen o = absurd (false≢true o)
  see_taken-has w (atom a) seen o = absurd (false≢true o)
  see_taken-has w (node f ts) seen o = elim (is_taken w ts o) [ inl k ↦ see_opened-grows ts (see_all ts seen) w (k seen) | inr k ↦ k (see_all ts seen) ]

  is_taken : (w : ℕ) (ts : Trees) → occurs_all w ts ≡ true → ((s : List ℕ) → has (see_all ts s) w ≡ true) ⊎ ((s : List ℕ) → has (see_opened ts s) w ≡ true)
  is_taken w none o = absurd (false≢true o)
  is_taken w (more (var v) ts) o =
      elim (or_cases (nat_eq w v) (occurs_all w ts) o) [
        | inl p ↦ inl (λ s. see_all-grows ts (see (var v) s) w (has-add_vars w (var v) s (or_right (has s w) (nat_eq w v) p)))
        | inr p ↦ elim (is_taken w ts p) [ inl k ↦ inl (λ s. k (see (var v) s)) | inr k ↦ inr k ]
      ]
  is_taken w (more (int z) ts) o = is_taken w ts o
  is_taken w (more (atom a) ts) o = is_taken w ts o
  is_taken w (more (node a us) ts) o =
      elim (or_cases (occurs_all w us) (occurs_all w ts) o) [
        | inl p ↦ inr (λ s. see_opened-grows ts (see_taken (node a us) s) w (see_taken-has w (node a us) s p))
        | inr p ↦ elim (is_taken w ts p) [ inl k ↦ inl k | inr k ↦ inr (λ s. k (see_taken (node a us) s)) ]
      ]

-- what stands in a term is seen behind it
pub taken_sees : (t : Tree) (seen : List ℕ) (w : ℕ) → has (add_vars t seen) w ≡ true → has (see_taken t seen) w ≡ true
taken_sees t seen w h = elim (add_vars-has w t seen h) [ inl p ↦ see_taken-grows t seen w p | inr p ↦ see_taken-has w t seen p ]

pub goal_sees : (g : Tree) (seen : List ℕ) (w : ℕ) → callable g ≡ true → has (add_vars g seen) w ≡ true → has (see_puts (arguments g) seen) w ≡ true
goal_sees (var v) seen w c h = absurd (false≢true c)
goal_sees (int z) seen w c h = h
goal_sees (atom a) seen w c h = h
goal_sees (node a ts) seen w c h = elim (add_all_vars-has w ts seen h) [ inl p ↦ see_puts-grows ts seen w p | inr p ↦ see_puts-has w ts seen p ]

-- ---- the arguments of structures

module _ (bs : Trees) (rest : List Step) (x : ℕ → Tree) (b m : ℕ) where
  -- the arguments of a structure are what they are to be, whatever the variables seen are later on
  abbrev FillsOnly : Trees → Trees → List ℕ → (ℕ → Tree) → Type 0
  FillsOnly ts us seen y =
      (y' : ℕ → Tree) × AgreeOn seen y y' × ((h : ℕ → Tree) → AgreeOn (see_all ts seen) y' h → Temps ts b m x h → us ≡ instance_all h ts) × Runs rest none x y' bs

  fills-only : (ts us : Trees) (seen : List ℕ) (y : ℕ → Tree) → count_trees us ≡ count_trees ts → Runs (fills ts seen b m ++ rest) us x y bs → FillsOnly ts us seen y
  fills-only none none seen y c r = (y, λ w o. refl, λ h a t. refl, r)
  fills-only none (more u us) seen y c r = absurd (omega arith)
  fills-only (more (var v) ts) none seen y c r = absurd (omega arith)
  fills-only (more (int v) ts) none seen y c r = absurd (omega arith)
  fills-only (more (atom v) ts) none seen y c r = absurd (omega arith)
  fills-only (more (node a vs) ts) none seen y c r = absurd (omega arith)
  fills-only (more (var v) ts) (more u us) seen y c r = go (λ seen y r. fills-only ts us seen y (omega arith) r) (has seen v) refl r
    where
      go : ((seen : List ℕ) (y : ℕ → Tree) → Runs (fills ts seen b m ++ rest) us x y bs → FillsOnly ts us seen y)
          → (d : Bool) → has seen v ≡ d → Runs ((if d then unify_value (Y v) else unify_variable (Y v)) ∷ (fills ts (if d then seen else seen ++ v ∷ []) b m ++ rest)) (more u us) x y bs
          → (y' : ℕ → Tree) × AgreeOn seen y y'
          × ((h : ℕ → Tree) → AgreeOn (see_all ts (if d then seen else seen ++ v ∷ [])) y' h → Temps ts b m x h → more u us ≡ more (h v) (instance_all h ts)) × Runs rest none x y' bs
      go ih true e r =
          let k = ih seen y r.1 in
          (k.0, k.1, λ h a t. ap (λ q. more q us) (sym r.0 ∙ k.1 v e ∙ a v (see_all-grows ts seen v e)) ∙ ap (more (h v)) (k.2 h a t), k.3)
      go ih false e r =
          let k = ih (seen ++ v ∷ []) (set y v u) r in (
            k.0,
            λ w o. set_agrees seen y v u e w o ∙ k.1 w (has_more seen v w o),
            λ h a t.
                ap (λ q. more q us) (sym (set_here y v u) ∙ k.1 v (has-push seen v) ∙ a v (see_all-grows ts (seen ++ v ∷ []) v (has-push seen v))) ∙ ap (more (h v)) (k.2 h a t),
            k.3,
          )
  fills-only (more (int z) ts) (more u us) seen y c r =
      let k = fills-only ts us seen y (omega arith) r.1 in (k.0, k.1, λ h a t. ap (λ q. more q us) r.0 ∙ ap (more (int z)) (k.2 h a t), k.3)
  fills-only (more (atom a) ts) (more u us) seen y c r =
      let k = fills-only ts us seen y (omega arith) r.1 in (k.0, k.1, λ h g t. ap (λ q. more q us) r.0 ∙ ap (more (atom a)) (k.2 h g t), k.3)
  fills-only (more (node a vs) ts) (more u us) seen y c r =
      let k = fills-only ts us seen y (omega arith) r.1 in
      (k.0, k.1, λ h g t. ap (λ q. more q us) (sym r.0 ∙ t.0) ∙ ap (more (instance h (node a vs))) (k.2 h g t.1), k.3)

  fills-each : (h : ℕ → Tree) (ts : Trees) (seen : List ℕ) (y : ℕ → Tree) → AgreeOn seen y h → Temps ts b m x h
      → ((y' : ℕ → Tree) → AgreeOn (see_all ts seen) y' h → Runs rest none x y' bs) → Runs (fills ts seen b m ++ rest) (instance_all h ts) x y bs
  fills-each h none seen y a t r = r y a
  fills-each h (more (var v) ts) seen y a t r = go (λ seen y a r. fills-each h ts seen y a t r) (has seen v) refl r
    where
      go : ((seen : List ℕ) (y : ℕ → Tree) → AgreeOn seen y h → ((y' : ℕ → Tree) → AgreeOn (see_all ts seen) y' h → Runs rest none x y' bs) → Runs (fills ts seen b m ++ rest) (instance_all h ts) x y bs)
          → (d : Bool) → has seen v ≡ d → ((y' : ℕ → Tree) → AgreeOn (see_all ts (if d then seen else seen ++ v ∷ [])) y' h → Runs rest none x y' bs)
          → Runs ((if d then unify_value (Y v) else unify_variable (Y v)) ∷ (fills ts (if d then seen else seen ++ v ∷ []) b m ++ rest)) (more (h v) (instance_all h ts)) x y bs
      go ih true e r = (a v e, ih seen y a r)
      go ih false e r = ih (seen ++ v ∷ []) (set y v (h v)) (push_agrees seen y h v a) r
  fills-each h (more (int z) ts) seen y a t r = (refl, fills-each h ts seen y a t r)
  fills-each h (more (atom c) ts) seen y a t r = (refl, fills-each h ts seen y a t r)
  fills-each h (more (node c us) ts) seen y a t r = (t.0, fills-each h ts seen y a t.1 r)

-- ---- terms that are built

module _ (bs : Trees) where
  mutual
    build-only : (t : Tree) (a : ℕ) (seen : List ℕ) (b m : ℕ) (rest : List Step) (x y : ℕ → Tree) → a ≢ b → a < m → b < m → Runs (build t a seen b m ++ rest) none x y bs
        → (x' : ℕ → Tree) × (y' : ℕ → Tree) × AgreeOn seen y y' × ((h : ℕ → Tree) → AgreeOn (see_built t seen) y' h → x' a ≡ instance h t) × But a b m x x' × Runs rest none x' y' bs
    build-only (var v) a seen b m rest x y n l j r = go (has seen v) refl r
      where
        go : (d : Bool) → has seen v ≡ d → Runs ((if d then put_value (Y v) a ∷ [] else put_variable (Y v) a ∷ []) ++ rest) none x y bs
            → (x' : ℕ → Tree) × (y' : ℕ → Tree) × AgreeOn seen y y' × ((h : ℕ → Tree) → AgreeOn (if d then seen else seen ++ v ∷ []) y' h → x' a ≡ h v) × But a b m x x' × Runs rest none x' y' bs
        go true e r = (set x a (y v), y, λ w o. refl, λ h g. set_here x a (y v) ∙ g v e, λ w i n k. set_but x a w (y v) n, r)
        go false e r = (
          set x a r.0,
          set y v r.0,
          set_agrees seen y v r.0 e,
          λ h g. set_here x a r.0 ∙ sym (set_here y v r.0) ∙ g v (has-push seen v),
          λ w i n k. set_but x a w r.0 n,
          r.1,
        )
    build-only (int z) a seen b m rest x y n l j r = (set x a (int z), y, λ w o. refl, λ h g. set_here x a (int z), λ w i n k. set_but x a w (int z) n, r)
    build-only (atom c) a seen b m rest x y n l j r = (set x a (atom c), y, λ w o. refl, λ h g. set_here x a (atom c), λ w i n k. set_but x a w (atom c) n, r)
    build-only (node f ts) a seen b m rest x y n l j r =
        let seen1 : List ℕ = see_nested ts seen in
        let d =
        nested-only ts a seen b m (put_structure f (count_trees ts) a ∷ (fills ts seen1 b m ++ rest)) x y n l j
        (reassoc (nested ts a seen b m) (put_structure f (count_trees ts) a ∷ fills ts seen1 b m) rest none x y bs r) in
        let s = d.5 in
        let x' : ℕ → Tree = set d.0 a (node f s.0) in
        let e = fills-only bs rest x' b m ts s.0 seen1 d.1 s.1 s.2 in (
          x',
          e.0,
          λ w o. d.3 w o ∙ e.1 w (see_nested-grows ts seen w o),
          λ h g.
              set_here d.0 a (node f s.0)
              ∙ ap (node f) (e.2 h g (Temps-same ts b m d.0 x' h (λ k i. set_but d.0 a (place k b m) (node f s.0) (place_apart k a b m n l)) (d.4 h (λ w o. e.1 w o ∙ g w (see_all-grows ts seen1 w o))))),
          λ w i p q. set_but d.0 a w (node f s.0) p ∙ d.2 w i p q,
          e.3,
        )

    nested-only : (ts : Trees) (a : ℕ) (seen : List ℕ) (b m : ℕ) (rest : List Step) (x y : ℕ → Tree) → a ≢ b → a < m → b < m → Runs (nested ts a seen b m ++ rest) none x y bs
        → (x' : ℕ → Tree) × (y' : ℕ → Tree) × But a b m x x' × AgreeOn seen y y' × ((h : ℕ → Tree) → AgreeOn (see_nested ts seen) y' h → Temps ts b m x' h) × Runs rest none x' y' bs
    nested-only none a seen b m rest x y n l j r = (x, y, λ w i p q. refl, λ w o. refl, λ h g. tt, r)
    nested-only (more (var v) ts) a seen b m rest x y n l j r = nested-only ts a seen b m rest x y n l j r
    nested-only (more (int v) ts) a seen b m rest x y n l j r = nested-only ts a seen b m rest x y n l j r
    nested-only (more (atom v) ts) a seen b m rest x y n l j r = nested-only ts a seen b m rest x y n l j r
    nested-only (more (node f us) ts) a seen b m rest x y n l j r =
        let p : ℕ = place (inner ts) b m in
        let end : ℕ = m + inner ts in
        let seen1 : List ℕ = see_nested ts seen in
        let part : List Step = build (node f us) p seen1 a end in
        let d = nested-only ts a seen b m (part ++ rest) x y n l j (reassoc (nested ts a seen b m) part rest none x y bs r) in
        let e = build-only (node f us) p seen1 a end rest d.0 d.1 (place_apart (inner ts) a b m n l) (place_below (inner ts) b m j) (omega arith) d.5 in (
          e.0,
          e.1,
          λ w i o q. e.4 w (omega arith) (place_other (inner ts) b m w i q) o ∙ d.2 w i o q,
          λ w o. d.3 w o ∙ e.2 w (see_nested-grows ts seen w o),
          λ h g. (
            e.3 h g,
            Temps-same ts b m d.0 e.0 h (λ k i. e.4 (place k b m) (place_within k (inner ts) b m j i) (place_new k (inner ts) b m j i) (place_apart k a b m n l))
                (d.4 h (λ w o. e.2 w o ∙ g w (see_built-grows (node f us) seen1 w o))),
          ),
          e.5,
        )

  module _ (h : ℕ → Tree) where
    mutual
      build-each : (t : Tree) (a : ℕ) (seen : List ℕ) (b m : ℕ) (rest : List Step) (x y : ℕ → Tree) → a ≢ b → a < m → b < m → AgreeOn seen y h
          → ((x' y' : ℕ → Tree) → x' a ≡ instance h t → But a b m x x' → AgreeOn (see_built t seen) y' h → Runs rest none x' y' bs) → Runs (build t a seen b m ++ rest) none x y bs
      build-each (var v) a seen b m rest x y n l j g r = go (has seen v) refl r
        where
          go : (d : Bool) → has seen v ≡ d → ((x' y' : ℕ → Tree) → x' a ≡ h v → But a b m x x' → AgreeOn (if d then seen else seen ++ v ∷ []) y' h → Runs rest none x' y' bs)
              → Runs ((if d then put_value (Y v) a ∷ [] else put_variable (Y v) a ∷ []) ++ rest) none x y bs
          go true e r = r (set x a (y v)) y (set_here x a (y v) ∙ g v e) (λ w i n k. set_but x a w (y v) n) g
          go false e r = (h v, r (set x a (h v)) (set y v (h v)) (set_here x a (h v)) (λ w i n k. set_but x a w (h v) n) (push_agrees seen y h v g))
      build-each (int z) a seen b m rest x y n l j g r = r (set x a (int z)) y (set_here x a (int z)) (λ w i n k. set_but x a w (int z) n) g
      build-each (atom c) a seen b m rest x y n l j g r = r (set x a (atom c)) y (set_here x a (atom c)) (λ w i n k. set_but x a w (atom c) n) g
      build-each (node f ts) a seen b m rest x y n l j g r =
          let seen1 : List ℕ = see_nested ts seen in
          reassoc_back (nested ts a seen b m) (put_structure f (count_trees ts) a ∷ fills ts seen1 b m) rest none x y bs
          (nested-each ts a seen b m (put_structure f (count_trees ts) a ∷ (fills ts seen1 b m ++ rest)) x y n l j g (λ x1 y1 same temps g1.
          let t : Tree = node f (instance_all h ts) in
          let x' : ℕ → Tree = set x1 a t in (
            instance_all h ts,
            count_trees-instance_all h ts,
            fills-each bs rest x' b m h ts seen1 y1 g1 (Temps-same ts b m x1 x' h (λ k i. set_but x1 a (place k b m) t (place_apart k a b m n l)) temps)
                (λ y' g'. r x' y' (set_here x1 a t) (λ w i p q. set_but x1 a w t p ∙ same w i p q) g'),
          )))

      nested-each : (ts : Trees) (a : ℕ) (seen : List ℕ) (b m : ℕ) (rest : List Step) (x y : ℕ → Tree) → a ≢ b → a < m → b < m → AgreeOn seen y h
          → ((x' y' : ℕ → Tree) → But a b m x x' → Temps ts b m x' h → AgreeOn (see_nested ts seen) y' h → Runs rest none x' y' bs) → Runs (nested ts a seen b m ++ rest) none x y bs
      nested-each none a seen b m rest x y n l j g r = r x y (λ w i p q. refl) tt g
      nested-each (more (var v) ts) a seen b m rest x y n l j g r = nested-each ts a seen b m rest x y n l j g r
      nested-each (more (int v) ts) a seen b m rest x y n l j g r = nested-each ts a seen b m rest x y n l j g r
      nested-each (more (atom v) ts) a seen b m rest x y n l j g r = nested-each ts a seen b m rest x y n l j g r
      nested-each (more (node f us) ts) a seen b m rest x y n l j g r =
          let p : ℕ = place (inner ts) b m in
          let end : ℕ = m + inner ts in
          let seen1 : List ℕ = see_nested ts seen in
          let part : List Step = build (node f us) p seen1 a end in
          reassoc_back (nested ts a seen b m) part rest none x y bs
          (nested-each ts a seen b m (part ++ rest) x y n l j g (λ x1 y1 same temps g1.
          build-each (node f us) p seen1 a end rest x1 y1 (place_apart (inner ts) a b m n l) (place_below (inner ts) b m j) (omega arith) g1 (λ x' y' e c g'.
          r x' y' (λ w i o q. c w (omega arith) (place_other (inner ts) b m w i q) o ∙ same w i o q)
          (e, Temps-same ts b m x1 x' h (λ k i. c (place k b m) (place_within k (inner ts) b m j i) (place_new k (inner ts) b m j i) (place_apart k a b m n l)) temps) g')))

-- ---- the arguments of a goal

module _ (bs : Trees) where
  puts-only : (ts : Trees) (a : ℕ) (seen : List ℕ) (m : ℕ) (rest : List Step) (x y : ℕ → Tree) → a + count_trees ts ≤ m → Runs (puts ts a seen m ++ rest) none x y bs
      → (x' : ℕ → Tree) × (y' : ℕ → Tree) × Same a x x' × AgreeOn seen y y' × ((h : ℕ → Tree) → AgreeOn (see_puts ts seen) y' h → spread x' a (count_trees ts) ≡ instance_all h ts) × Runs rest none x' y' bs
  puts-only none a seen m rest x y l r = (x, y, λ w i. refl, λ w o. refl, λ h g. refl, r)
  puts-only (more t ts) a seen m rest x y l r =
      let seen1 : List ℕ = see_built t seen in
      let b = build-only bs t a seen m (m + 1) (puts ts (a + 1) seen1 m ++ rest) x y (omega arith) (omega arith) (omega arith) (reassoc (build t a seen m (m + 1)) (puts ts (a + 1) seen1 m) rest none x y bs r) in
      let p = puts-only ts (a + 1) seen1 m rest b.0 b.1 (omega arith) b.5 in
      let e : count_trees ts + 1 ≡ suc (count_trees ts) = omega arith in (
        p.0,
        p.1,
        λ w i. p.2 w (omega arith) ∙ b.4 w (omega arith) (omega arith) (omega arith),
        λ w o. b.2 w o ∙ p.3 w (see_built-grows t seen w o),
        λ h g.
            ap (spread p.0 a) e
            ∙ ap (λ u. more u (spread p.0 (a + 1) (count_trees ts))) (p.2 a (omega arith) ∙ b.3 h (λ w o. p.3 w o ∙ g w (see_puts-grows ts seen1 w o)))
            ∙ ap (more (instance h t)) (p.4 h g),
        p.5,
      )

  puts-each : (h : ℕ → Tree) (ts : Trees) (a : ℕ) (seen : List ℕ) (m : ℕ) (rest : List Step) (x y : ℕ → Tree) → a + count_trees ts ≤ m → AgreeOn seen y h
      → ((x' y' : ℕ → Tree) → Same a x x' → spread x' a (count_trees ts) ≡ instance_all h ts → AgreeOn (see_puts ts seen) y' h → Runs rest none x' y' bs) → Runs (puts ts a seen m ++ rest) none x y bs
  puts-each h none a seen m rest x y l g r = r x y (λ w i. refl) refl g
  puts-each h (more t ts) a seen m rest x y l g r =
      let seen1 : List ℕ = see_built t seen in
      reassoc_back (build t a seen m (m + 1)) (puts ts (a + 1) seen1 m) rest none x y bs
      (build-each bs h t a seen m (m + 1) (puts ts (a + 1) seen1 m ++ rest) x y (omega arith) (omega arith) (omega arith) g (λ x1 y1 e b g1.
      puts-each h ts (a + 1) seen1 m rest x1 y1 (omega arith) g1 (λ x' y' s p g'.
      let k : count_trees ts + 1 ≡ suc (count_trees ts) = omega arith in
      r x' y' (λ w i. s w (omega arith) ∙ b w (omega arith) (omega arith) (omega arith))
      (ap (spread x' a) k ∙ ap (λ u. more u (spread x' (a + 1) (count_trees ts))) (s a (omega arith) ∙ e) ∙ ap (more (instance h t)) p) g')))

-- ---- goals and bodies

goal_of : (f : ℕ → Tree) (g : Tree) → callable g ≡ true → applied (name g) (instance_all f (arguments g)) ≡ instance f g
goal_of f (var v) i = absurd (false≢true i)
goal_of f (int z) i = absurd (false≢true i)
goal_of f (atom a) i = refl
goal_of f (node a none) i = absurd (false≢true i)
goal_of f (node a (more t ts)) i = refl

pub goal-only : (g : Tree) (seen : List ℕ) (rest : List Step) (x y : ℕ → Tree) (bs : Trees) → callable g ≡ true → Runs (goal_code g seen ++ rest) none x y bs
    → (x' : ℕ → Tree) × (y' : ℕ → Tree) × AgreeOn seen y y' × (applied (name g) (spread x' 1 (count_trees (arguments g))) ≡ instance y' g) × Runs rest none x' y' bs
goal-only g seen rest x y bs i r =
    let p = puts-only bs (arguments g) 1 seen (count_trees (arguments g) + 1) rest x y (omega arith) r in
    (p.0, p.1, p.3, ap (applied (name g)) (p.4 p.1 (λ w o. refl)) ∙ goal_of p.1 g i, p.5)

pub goal-each : (h : ℕ → Tree) (g : Tree) (seen : List ℕ) (rest : List Step) (x y : ℕ → Tree) (bs : Trees) → callable g ≡ true → AgreeOn seen y h
    → ((x' y' : ℕ → Tree) → AgreeOn (add_vars g seen) y' h → applied (name g) (spread x' 1 (count_trees (arguments g))) ≡ instance h g → Runs rest none x' y' bs) → Runs (goal_code g seen ++ rest) none x y bs
goal-each h g seen rest x y bs i a r =
    puts-each bs h (arguments g) 1 seen (count_trees (arguments g) + 1) rest x y (let l : 1 + count_trees (arguments g) ≤ count_trees (arguments g) + 1 = omega arith in l) a (λ x' y' s e g'.
    r x' y' (λ w o. g' w (goal_sees g seen w i o)) (ap (applied (name g)) e ∙ goal_of h g i))

pub asks-only : (c : Bool) (p n : ℕ) (rest : List Step) (x y : ℕ → Tree) (bs : Trees) → Runs ((if c then builtin p n else call p n) ∷ rest) none x y bs
    → (cs : Trees) × (x' : ℕ → Tree) × (bs ≡ more (applied p (spread x 1 n)) cs) × Runs rest none x' y cs
asks-only true p n rest x y bs r = (r.0, x, r.1, r.2)
asks-only false p n rest x y bs r = (r.0, lost, r.1, r.2)

pub asks-each : (c : Bool) (p n : ℕ) (rest : List Step) (x y : ℕ → Tree) (bs cs : Trees) → bs ≡ more (applied p (spread x 1 n)) cs → ((x' : ℕ → Tree) → Runs rest none x' y cs)
    → Runs ((if c then builtin p n else call p n) ∷ rest) none x y bs
asks-each true p n rest x y bs cs e r = (cs, e, r x)
asks-each false p n rest x y bs cs e r = (cs, e, r lost)

-- ---- heads

module _ (bs : Trees) (rest : List Step) where
  -- what was taken of a structure is what it is to be, where the temporaries are
  abbrev TakesOnly : Trees → Trees → List ℕ → ℕ → (ℕ → Tree) → (ℕ → Tree) → Type 0
  TakesOnly ts us seen m x y =
      (x' : ℕ → Tree) × (y' : ℕ → Tree) × Same m x x' × Above (m + inner ts) x x' × AgreeOn seen y y'
      × ((h : ℕ → Tree) → AgreeOn (see_all ts seen) y' h → Taken ts m x' h → us ≡ instance_all h ts) × Runs rest none x' y' bs

  takes-only : (ts us : Trees) (seen : List ℕ) (m : ℕ) (x y : ℕ → Tree) → count_trees us ≡ count_trees ts → Runs (takes ts seen m ++ rest) us x y bs → TakesOnly ts us seen m x y
  takes-only none none seen m x y c r = (x, y, λ w i. refl, λ w i. refl, λ w o. refl, λ h a t. refl, r)
  takes-only none (more u us) seen m x y c r = absurd (omega arith)
  takes-only (more (var v) ts) none seen m x y c r = absurd (omega arith)
  takes-only (more (int v) ts) none seen m x y c r = absurd (omega arith)
  takes-only (more (atom v) ts) none seen m x y c r = absurd (omega arith)
  takes-only (more (node a vs) ts) none seen m x y c r = absurd (omega arith)
  takes-only (more (var v) ts) (more u us) seen m x y c r = go (λ seen y r. takes-only ts us seen m x y (omega arith) r) (has seen v) refl r
    where
      go : ((seen : List ℕ) (y : ℕ → Tree) → Runs (takes ts seen m ++ rest) us x y bs → TakesOnly ts us seen m x y)
          → (b : Bool) → has seen v ≡ b → Runs ((if b then unify_value (Y v) else unify_variable (Y v)) ∷ (takes ts (if b then seen else seen ++ v ∷ []) m ++ rest)) (more u us) x y bs
          → (x' : ℕ → Tree) × (y' : ℕ → Tree) × Same m x x' × Above (m + inner ts) x x' × AgreeOn seen y y'
          × ((h : ℕ → Tree) → AgreeOn (see_all ts (if b then seen else seen ++ v ∷ [])) y' h → Taken ts m x' h → more u us ≡ more (h v) (instance_all h ts)) × Runs rest none x' y' bs
      go ih true e r =
          let k = ih seen y r.1 in (
            k.0,
            k.1,
            k.2,
            k.3,
            k.4,
            λ h a t. ap (λ q. more q us) (sym r.0 ∙ k.4 v e ∙ a v (see_all-grows ts seen v e)) ∙ ap (more (h v)) (k.5 h a t),
            k.6,
          )
      go ih false e r =
          let k = ih (seen ++ v ∷ []) (set y v u) r in (
            k.0,
            k.1,
            k.2,
            k.3,
            λ w o. set_agrees seen y v u e w o ∙ k.4 w (has_more seen v w o),
            λ h a t.
                ap (λ q. more q us) (sym (set_here y v u) ∙ k.4 v (has-push seen v) ∙ a v (see_all-grows ts (seen ++ v ∷ []) v (has-push seen v))) ∙ ap (more (h v)) (k.5 h a t),
            k.6,
          )
  takes-only (more (int z) ts) (more u us) seen m x y c r =
      let k = takes-only ts us seen m x y (omega arith) r.1 in (k.0, k.1, k.2, k.3, k.4, λ h a t. ap (λ q. more q us) r.0 ∙ ap (more (int z)) (k.5 h a t), k.6)
  takes-only (more (atom a) ts) (more u us) seen m x y c r =
      let k = takes-only ts us seen m x y (omega arith) r.1 in (k.0, k.1, k.2, k.3, k.4, λ h g t. ap (λ q. more q us) r.0 ∙ ap (more (atom a)) (k.5 h g t), k.6)
  takes-only (more (node a vs) ts) (more u us) seen m x y c r =
      let p : ℕ = m + inner ts in
      let k = takes-only ts us seen m (set x p u) y (omega arith) r in (
        k.0,
        k.1,
        λ w i. k.2 w i ∙ set_but x p w u (omega arith),
        λ w i. k.3 w (omega arith) ∙ set_but x p w u (omega arith),
        k.4,
        λ h g t. ap (λ q. more q us) (sym (k.3 p (omega arith) ∙ set_here x p u) ∙ t.0) ∙ ap (more (instance h (node a vs))) (k.5 h g t.1),
        k.6,
      )

  takes-each : (h : ℕ → Tree) (ts : Trees) (seen : List ℕ) (m : ℕ) (x y : ℕ → Tree) → AgreeOn seen y h
      → ((x' y' : ℕ → Tree) → Same m x x' → Above (m + inner ts) x x' → Taken ts m x' h → AgreeOn (see_all ts seen) y' h → Runs rest none x' y' bs) → Runs (takes ts seen m ++ rest) (instance_all h ts) x y bs
  takes-each h none seen m x y a r = r x y (λ w i. refl) (λ w i. refl) tt a
  takes-each h (more (var v) ts) seen m x y a r = go (λ seen y a r. takes-each h ts seen m x y a r) (has seen v) refl r
    where
      go : ((seen : List ℕ) (y : ℕ → Tree) → AgreeOn seen y h
          → ((x' y' : ℕ → Tree) → Same m x x' → Above (m + inner ts) x x' → Taken ts m x' h → AgreeOn (see_all ts seen) y' h → Runs rest none x' y' bs) → Runs (takes ts seen m ++ rest) (instance_all h ts) x y bs)
          → (b : Bool) → has seen v ≡ b
          → ((x' y' : ℕ → Tree) → Same m x x' → Above (m + inner ts) x x' → Taken ts m x' h → AgreeOn (see_all ts (if b then seen else seen ++ v ∷ [])) y' h → Runs rest none x' y' bs)
          → Runs ((if b then unify_value (Y v) else unify_variable (Y v)) ∷ (takes ts (if b then seen else seen ++ v ∷ []) m ++ rest)) (more (h v) (instance_all h ts)) x y bs
      go ih true e r = (a v e, ih seen y a r)
      go ih false e r = ih (seen ++ v ∷ []) (set y v (h v)) (push_agrees seen y h v a) r
  takes-each h (more (int z) ts) seen m x y a r = (refl, takes-each h ts seen m x y a r)
  takes-each h (more (atom c) ts) seen m x y a r = (refl, takes-each h ts seen m x y a r)
  takes-each h (more (node c us) ts) seen m x y a r =
      let p : ℕ = m + inner ts in
      let u : Tree = instance h (node c us) in
      takes-each h ts seen m (set x p u) y a (λ x' y' s b t a.
      r x' y' (λ w i. s w i ∙ set_but x p w u (omega arith)) (λ w i. b w (omega arith) ∙ set_but x p w u (omega arith)) (b p (omega arith) ∙ set_here x p u, t) a)

module _ (bs : Trees) where
  mutual
    get-only : (t : Tree) (a : ℕ) (seen : List ℕ) (m : ℕ) (rest : List Step) (x y : ℕ → Tree) → Runs (get t a seen m ++ rest) none x y bs
        → (x' : ℕ → Tree) × (y' : ℕ → Tree) × Same m x x' × AgreeOn seen y y' × ((h : ℕ → Tree) → AgreeOn (see_taken t seen) y' h → x a ≡ instance h t) × Runs rest none x' y' bs
    get-only (var v) a seen m rest x y r = go (has seen v) refl r
      where
        go : (b : Bool) → has seen v ≡ b → Runs ((if b then get_value (Y v) a ∷ [] else get_variable (Y v) a ∷ []) ++ rest) none x y bs
            → (x' : ℕ → Tree) × (y' : ℕ → Tree) × Same m x x' × AgreeOn seen y y' × ((h : ℕ → Tree) → AgreeOn (if b then seen else seen ++ v ∷ []) y' h → x a ≡ h v) × Runs rest none x' y' bs
        go true e r = (x, y, λ w i. refl, λ w o. refl, λ h g. sym r.0 ∙ g v e, r.1)
        go false e r = (x, set y v (x a), λ w i. refl, set_agrees seen y v (x a) e, λ h g. sym (set_here y v (x a)) ∙ g v (has-push seen v), r)
    get-only (int z) a seen m rest x y r = (x, y, λ w i. refl, λ w o. refl, λ h g. r.0, r.1)
    get-only (atom c) a seen m rest x y r = (x, y, λ w i. refl, λ w o. refl, λ h g. r.0, r.1)
    get-only (node f ts) a seen m rest x y r =
        let seen1 : List ℕ = see_all ts seen in
        let k = takes-only bs (opens ts seen1 m ++ rest) ts r.0 seen m x y r.1 (reassoc (takes ts seen m) (opens ts seen1 m) rest r.0 x y bs r.3) in
        let n = opens-only ts seen1 m rest k.0 k.1 k.6 in (
          n.0,
          n.1,
          λ w i. n.2 w i ∙ k.2 w i,
          λ w o. k.4 w o ∙ n.3 w (see_all-grows ts seen w o),
          λ h g. r.2 ∙ ap (node f) (k.5 h (λ w o. n.3 w o ∙ g w (see_opened-grows ts seen1 w o)) (n.4 h g)),
          n.5,
        )

    opens-only : (ts : Trees) (seen : List ℕ) (m : ℕ) (rest : List Step) (x y : ℕ → Tree) → Runs (opens ts seen m ++ rest) none x y bs
        → (x' : ℕ → Tree) × (y' : ℕ → Tree) × Same m x x' × AgreeOn seen y y' × ((h : ℕ → Tree) → AgreeOn (see_opened ts seen) y' h → Taken ts m x h) × Runs rest none x' y' bs
    opens-only none seen m rest x y r = (x, y, λ w i. refl, λ w o. refl, λ h g. tt, r)
    opens-only (more (var v) ts) seen m rest x y r = opens-only ts seen m rest x y r
    opens-only (more (int v) ts) seen m rest x y r = opens-only ts seen m rest x y r
    opens-only (more (atom v) ts) seen m rest x y r = opens-only ts seen m rest x y r
    opens-only (more (node f us) ts) seen m rest x y r =
        let p : ℕ = m + inner ts in
        let seen1 : List ℕ = see_taken (node f us) seen in
        let g = get-only (node f us) p seen p (opens ts seen1 m ++ rest) x y (reassoc (get (node f us) p seen p) (opens ts seen1 m) rest none x y bs r) in
        let n = opens-only ts seen1 m rest g.0 g.1 g.5 in (
          n.0,
          n.1,
          λ w i. n.2 w i ∙ g.2 w (omega arith),
          λ w o. g.3 w o ∙ n.3 w (see_taken-grows (node f us) seen w o),
          λ h k. (g.4 h (λ w o. n.3 w o ∙ k w (see_opened-grows ts seen1 w o)), Taken-same ts m g.0 x h (λ w i. sym (g.2 w i)) (n.4 h k)),
          n.5,
        )

  pub gets-only : (ts : Trees) (a : ℕ) (seen : List ℕ) (m : ℕ) (rest : List Step) (x y : ℕ → Tree) → a + count_trees ts ≤ m → Runs (gets ts a seen m ++ rest) none x y bs
      → (x' : ℕ → Tree) × (y' : ℕ → Tree) × Same m x x' × AgreeOn seen y y' × (spread x a (count_trees ts) ≡ instance_all y' ts) × Runs rest none x' y' bs
  gets-only none a seen m rest x y l r = (x, y, λ w i. refl, λ w o. refl, refl, r)
  gets-only (more t ts) a seen m rest x y l r =
      let g = get-only t a seen m (gets ts (a + 1) (add_vars t seen) m ++ rest) x y (reassoc (get t a seen m) (gets ts (a + 1) (add_vars t seen) m) rest none x y bs r) in
      let k = gets-only ts (a + 1) (add_vars t seen) m rest g.0 g.1 (omega arith) g.5 in
      let e : count_trees ts + 1 ≡ suc (count_trees ts) = omega arith in (
        k.0,
        k.1,
        λ w i. k.2 w i ∙ g.2 w i,
        λ w o. g.3 w o ∙ k.3 w (has-kept t seen w o),
        ap (spread x a) e
            ∙ ap (λ u. more u (spread x (a + 1) (count_trees ts))) (g.4 g.1 (λ w o. refl) ∙ seen_same t seen g.1 k.1 k.3)
            ∙ ap (more (instance k.1 t)) (spread_under x g.0 (a + 1) (count_trees ts) (λ w i. sym (g.2 w (omega arith))) ∙ k.4),
        k.5,
      )
    where
      spread_under : (x x' : ℕ → Tree) (p n : ℕ) → ((w : ℕ) → w < p + n → x w ≡ x' w) → spread x p n ≡ spread x' p n
      spread_under x x' p zero h = refl
      spread_under x x' p (suc n) h = ap (λ t. more t (spread x (p + 1) n)) (h p (omega arith)) ∙ ap (more (x' p)) (spread_under x x' (p + 1) n (λ w i. h w (omega arith)))

  module _ (h : ℕ → Tree) where
    mutual
      get-each : (t : Tree) (a : ℕ) (seen : List ℕ) (m : ℕ) (rest : List Step) (x y : ℕ → Tree) → AgreeOn seen y h → x a ≡ instance h t
          → ((x' y' : ℕ → Tree) → Same m x x' → AgreeOn (see_taken t seen) y' h → Runs rest none x' y' bs) → Runs (get t a seen m ++ rest) none x y bs
      get-each (var v) a seen m rest x y ag e r = go (has seen v) refl r
        where
          go : (b : Bool) → has seen v ≡ b → ((x' y' : ℕ → Tree) → Same m x x' → AgreeOn (if b then seen else seen ++ v ∷ []) y' h → Runs rest none x' y' bs)
              → Runs ((if b then get_value (Y v) a ∷ [] else get_variable (Y v) a ∷ []) ++ rest) none x y bs
          go true k r = (ag v k ∙ sym e, r x y (λ w i. refl) ag)
          go false k r = r x (set y v (x a)) (λ w i. refl) (subst (λ t. AgreeOn (seen ++ v ∷ []) (set y v t) h) (sym e) (push_agrees seen y h v ag))
      get-each (int z) a seen m rest x y ag e r = (e, r x y (λ w i. refl) ag)
      get-each (atom c) a seen m rest x y ag e r = (e, r x y (λ w i. refl) ag)
      get-each (node f ts) a seen m rest x y ag e r =
          let seen1 : List ℕ = see_all ts seen in (
            instance_all h ts,
            count_trees-instance_all h ts,
            e,
            reassoc_back (takes ts seen m) (opens ts seen1 m) rest (instance_all h ts) x y bs
                (takes-each bs (opens ts seen1 m ++ rest) h ts seen m x y ag (λ x1 y1 s1 b1 t1 a1. opens-each ts seen1 m rest x1 y1 a1 t1 (λ x' y' s a. r x' y' (λ w i. s w i ∙ s1 w i) a))),
          )

      opens-each : (ts : Trees) (seen : List ℕ) (m : ℕ) (rest : List Step) (x y : ℕ → Tree) → AgreeOn seen y h → Taken ts m x h
          → ((x' y' : ℕ → Tree) → Same m x x' → AgreeOn (see_opened ts seen) y' h → Runs rest none x' y' bs) → Runs (opens ts seen m ++ rest) none x y bs
      opens-each none seen m rest x y a t r = r x y (λ w i. refl) a
      opens-each (more (var v) ts) seen m rest x y a t r = opens-each ts seen m rest x y a t r
      opens-each (more (int v) ts) seen m rest x y a t r = opens-each ts seen m rest x y a t r
      opens-each (more (atom v) ts) seen m rest x y a t r = opens-each ts seen m rest x y a t r
      opens-each (more (node f us) ts) seen m rest x y a t r =
          let p : ℕ = m + inner ts in
          let seen1 : List ℕ = see_taken (node f us) seen in
          reassoc_back (get (node f us) p seen p) (opens ts seen1 m) rest none x y bs
          (get-each (node f us) p seen p (opens ts seen1 m ++ rest) x y a t.0 (λ x1 y1 s1 a1.
          opens-each ts seen1 m rest x1 y1 a1 (Taken-same ts m x x1 h (λ w i. s1 w i) t.1) (λ x' y' s a.
          r x' y' (λ w i. s w i ∙ s1 w (omega arith)) a)))

    pub gets-each : (ts : Trees) (a : ℕ) (seen : List ℕ) (m : ℕ) (rest : List Step) (x y : ℕ → Tree) → a + count_trees ts ≤ m → AgreeOn seen y h → spread x a (count_trees ts) ≡ instance_all h ts
        → ((x' y' : ℕ → Tree) → AgreeOn (add_all_vars ts seen) y' h → Runs rest none x' y' bs) → Runs (gets ts a seen m ++ rest) none x y bs
    gets-each none a seen m rest x y l ag e r = r x y ag
    gets-each (more t ts) a seen m rest x y l ag e r =
        let k : suc (count_trees ts) ≡ count_trees ts + 1 = omega arith in
        let d : more (x a) (spread x (a + 1) (count_trees ts)) ≡ more (instance h t) (instance_all h ts) = ap (spread x a) k ∙ e in
        reassoc_back (get t a seen m) (gets ts (a + 1) (add_vars t seen) m) rest none x y bs
        (get-each t a seen m (gets ts (a + 1) (add_vars t seen) m ++ rest) x y ag (cc) (λ x1 y1 s1 a1.
        gets-each ts (a + 1) (add_vars t seen) m rest x1 y1 (omega arith) (λ w o. a1 w (taken_sees t seen w o)) (spread_under x1 x (a + 1) (count_trees ts) (λ w i. s1 w (omega arith)) ∙ cc) r))
      where
        spread_under : (x x' : ℕ → Tree) (p n : ℕ) → ((w : ℕ) → w < p + n → x w ≡ x' w) → spread x p n ≡ spread x' p n
        spread_under x x' p zero h = refl
        spread_under x x' p (suc n) h = ap (λ t. more t (spread x (p + 1) n)) (h p (omega arith)) ∙ ap (more (x' p)) (spread_under x x' (p + 1) n (λ w i. h w (omega arith)))
