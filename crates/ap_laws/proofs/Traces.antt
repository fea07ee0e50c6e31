-- The answers of a trace.
use Rattle.std.proofs.Common.{◌≡◌, ℕ, zero, suc, ◌+◌, ◌-◌, List, [], ◌∷◌, ◌++◌, refl, ap, ap₂, sym, ◌∙◌, subst, arith, le_refl, add-zero, add-suc}
use Rattle.std.specs.List.{flat_map, AllByRecursion}
use Rattle.ap_term.specs.Tree.{Tree, Trees, none, more}
use Rattle.ap_laws.specs.Plain.{Plain, state, faulted, PlainWay, way, fault_way, Ways, IsEnded, steps_of, plain_children_by, plain_children, Renames, Locals}
use Rattle.ap_laws.specs.Trace.{Action, called, cut, answered, trace, trace_to, answers_in, calls_in, AllAnswers, NoAnswers}
use Rattle.ap_laws.specs.Graft.{IsOf, AreOf}
use Rattle.ap_laws.proofs.Graft.{plain_children-graft}

pub AllAnswers-append : (P : Plain → ℕ → Type 0) (a b : List Action) → AllAnswers P a → AllAnswers P b → AllAnswers P (a ++ b)
AllAnswers-append P [] b h k = k
AllAnswers-append P (called ∷ a) b h k = AllAnswers-append P a b h k
AllAnswers-append P (cut ∷ a) b h k = AllAnswers-append P a b h k
AllAnswers-append P (answered s l ∷ a) b h k = (h.0, AllAnswers-append P a b h.1 k)

pub AllAnswers-left : (P : Plain → ℕ → Type 0) (a b : List Action) → AllAnswers P (a ++ b) → AllAnswers P a
AllAnswers-left P [] b h = tt
AllAnswers-left P (called ∷ a) b h = AllAnswers-left P a b h
AllAnswers-left P (cut ∷ a) b h = AllAnswers-left P a b h
AllAnswers-left P (answered s l ∷ a) b h = (h.0, AllAnswers-left P a b h.1)

pub AllAnswers-right : (P : Plain → ℕ → Type 0) (a b : List Action) → AllAnswers P (a ++ b) → AllAnswers P b
AllAnswers-right P [] b h = h
AllAnswers-right P (called ∷ a) b h = AllAnswers-right P a b h
AllAnswers-right P (cut ∷ a) b h = AllAnswers-right P a b h
AllAnswers-right P (answered s l ∷ a) b h = AllAnswers-right P a b h.1

pub AllAnswers-flat_map : (P : Plain → ℕ → Type 0) (Q : Plain → Type 0) (f : Plain → List Action) → ((s : Plain) → Q s → AllAnswers P (f s)) → (l : List Plain) → AllByRecursion Q l → AllAnswers P (flat_map f l)
AllAnswers-flat_map P Q f e [] h = tt
AllAnswers-flat_map P Q f e (s ∷ l) h = AllAnswers-append P (f s) (flat_map f l) (e s h.0) (AllAnswers-flat_map P Q f e l h.1)

pub AllAnswers-and : (P Q : Plain → ℕ → Type 0) (es : List Action) → AllAnswers P es → AllAnswers Q es → AllAnswers (λ s l. P s l × Q s l) es
AllAnswers-and P Q [] h k = tt
AllAnswers-and P Q (called ∷ es) h k = AllAnswers-and P Q es h k
AllAnswers-and P Q (cut ∷ es) h k = AllAnswers-and P Q es h k
AllAnswers-and P Q (answered s l ∷ es) h k = ((h.0, k.0), AllAnswers-and P Q es h.1 k.1)

pub AllByRecursion-plain_children_by : (G T : Trees) (n k : ℕ) (l : List PlainWay) → AllByRecursion (λ s. steps_of s ≡ k + 1) (plain_children_by G T n k l)
AllByRecursion-plain_children_by G T n k [] = tt
AllByRecursion-plain_children_by G T n k (way s b u ∷ l) = (refl, AllByRecursion-plain_children_by G T n k l)
AllByRecursion-plain_children_by G T n k (fault_way e ∷ l) = (refl, AllByRecursion-plain_children_by G T n k l)

pub AllByRecursion-any : (Q : Plain → Type 0) → ((s : Plain) → Q s) → (l : List Plain) → AllByRecursion Q l
AllByRecursion-any Q e [] = tt
AllByRecursion-any Q e (s ∷ l) = (e s, AllByRecursion-any Q e l)

-- the depth left and the calls made
pub AllAnswers-left_over : (A : Ways) (r : ℕ) (s : Plain) (k : ℕ) → steps_of s ≡ k → AllAnswers (λ a l. l + steps_of a ≡ r + k) (trace A r s)
unfolding trace
AllAnswers-left_over A zero (state none T n k) j e = (ap (λ z. zero + z) e, tt)
AllAnswers-left_over A (suc r) (state none T n k) j e = (ap (λ z. suc r + z) e, tt)
AllAnswers-left_over A zero (faulted f k) j e = (ap (λ z. zero + z) e, tt)
AllAnswers-left_over A (suc r) (faulted f k) j e = (ap (λ z. suc r + z) e, tt)
AllAnswers-left_over A zero (state (more g G) T n k) j e = tt
AllAnswers-left_over A (suc r) (state (more g G) T n k) j e =
    AllAnswers-flat_map (λ a l. l + steps_of a ≡ suc r + j) (λ s. steps_of s ≡ k + 1) (λ s. trace A r s)
    (λ s q. subst (λ z. AllAnswers (λ a l. l + steps_of a ≡ z) (trace A r s)) (omega (arith, e)) (AllAnswers-left_over A r s (k + 1) q))
    (plain_children_by G T n k (A g n)) (AllByRecursion-plain_children_by G T n k (A g n))

pub AllAnswers-done : (A : Ways) (r : ℕ) (s : Plain) → AllAnswers (λ a l. IsEnded a) (trace A r s)
unfolding trace
AllAnswers-done A zero (state none T n k) = (tt, tt)
AllAnswers-done A (suc r) (state none T n k) = (tt, tt)
AllAnswers-done A zero (faulted e k) = (tt, tt)
AllAnswers-done A (suc r) (faulted e k) = (tt, tt)
AllAnswers-done A zero (state (more g G) T n k) = tt
AllAnswers-done A (suc r) (state (more g G) T n k) =
    AllAnswers-flat_map (λ a l. IsEnded a) (λ s. Unit {0}) (λ s. trace A r s) (λ s q. AllAnswers-done A r s) (plain_children_by G T n k (A g n)) (AllByRecursion-any (λ s. Unit {0}) (λ s. tt) (plain_children_by G T n k (A g n)))

-- what holds of each answer at some depth holds of each at a smaller one
module _ (P : Plain → Type 0) where
  abbrev pub Every : List Action → Type 0
  Every es = AllAnswers (λ a l. P a) es

  Every-flat_map : (f g : Plain → List Action) → ((s : Plain) → Every (f s) → Every (g s)) → (l : List Plain) → Every (flat_map f l) → Every (flat_map g l)
  Every-flat_map f g e [] h = tt
  Every-flat_map f g e (s ∷ l) h =
      AllAnswers-append (λ a m. P a) (g s) (flat_map g l) (e s (AllAnswers-left (λ a m. P a) (f s) (flat_map f l) h)) (Every-flat_map f g e l (AllAnswers-right (λ a m. P a) (f s) (flat_map f l) h))

  Every-less : (A : Ways) (r : ℕ) (s : Plain) → Every (trace A (suc r) s) → Every (trace A r s)
  unfolding trace
  Every-less A zero (state none T n k) h = h
  Every-less A (suc r) (state none T n k) h = h
  Every-less A zero (faulted e k) h = h
  Every-less A (suc r) (faulted e k) h = h
  Every-less A zero (state (more g G) T n k) h = tt
  Every-less A (suc r) (state (more g G) T n k) h =
      Every-flat_map (λ s. trace A (suc r) s) (λ s. trace A r s) (Every-less A r) (plain_children_by G T n k (A g n)) h

  pub Every-below : (A : Ways) (r e : ℕ) (s : Plain) → Every (trace A (r + e) s) → Every (trace A r s)
  Every-below A r zero s h = subst (λ z. Every (trace A z s)) (add-zero r) h
  Every-below A r (suc e) s h = Every-below A r e s (Every-less A (r + e) s (subst (λ z. Every (trace A z s)) (add-suc r e) h))

pub Every-answers_in : (P : Plain → Type 0) (es : List Action) → AllByRecursion P (answers_in es) → AllAnswers (λ a l. P a) es
Every-answers_in P [] h = tt
Every-answers_in P (called ∷ es) h = Every-answers_in P es h
Every-answers_in P (cut ∷ es) h = Every-answers_in P es h
Every-answers_in P (answered s l ∷ es) h = (h.0, Every-answers_in P es h.1)

pub answers_in-Every : (P : Plain → Type 0) (es : List Action) → AllAnswers (λ a l. P a) es → AllByRecursion P (answers_in es)
answers_in-Every P [] h = tt
answers_in-Every P (called ∷ es) h = answers_in-Every P es h
answers_in-Every P (cut ∷ es) h = answers_in-Every P es h
answers_in-Every P (answered s l ∷ es) h = (h.0, answers_in-Every P es h.1)

pub NoAnswers-below : (A : Ways) (r e : ℕ) (s : Plain) → NoAnswers (trace A (r + e) s) → NoAnswers (trace A r s)
NoAnswers-below A r e s h = Every-below (λ a. ⊥) A r e s h

module _ (A : Ways) (renames : Renames A) (locals : Locals A) where
  pub AreOf-plain_children : (g : Tree) (b : ℕ) (t : Tree) (G U : Trees) (m j : ℕ) → IsOf g b (state (more t G) U m j) → AreOf g b (plain_children_by G U m j (A t m))
  AreOf-plain_children g b t G U m j h = (plain_children-graft A renames locals g none none b b 0 (le_refl b) tt tt t G U m j h).1

  pub AllAnswers-flat_map_AreOf : (P : Plain → ℕ → Type 0) (g : Tree) (b : ℕ) (f : Plain → List Action) → ((s : Plain) → IsOf g b s → AllAnswers P (f s)) → (l : List Plain) → AreOf g b l → AllAnswers P (flat_map f l)
  AllAnswers-flat_map_AreOf P g b f e [] h = tt
  AllAnswers-flat_map_AreOf P g b f e (s ∷ l) h = AllAnswers-append P (f s) (flat_map f l) (e s h.0) (AllAnswers-flat_map_AreOf P g b f e l h.1)

  pub AllAnswers-IsOf : (g : Tree) (b r : ℕ) (s : Plain) → IsOf g b s → AllAnswers (λ a l. IsOf g b a) (trace A r s)
  unfolding trace
  AllAnswers-IsOf g b zero (state none T n k) h = (h, tt)
  AllAnswers-IsOf g b (suc r) (state none T n k) h = (h, tt)
  AllAnswers-IsOf g b zero (faulted e k) h = (tt, tt)
  AllAnswers-IsOf g b (suc r) (faulted e k) h = (tt, tt)
  AllAnswers-IsOf g b zero (state (more t G) T n k) h = tt
  AllAnswers-IsOf g b (suc r) (state (more t G) T n k) h = AllAnswers-flat_map_AreOf (λ a l. IsOf g b a) g b (λ s. trace A r s) (AllAnswers-IsOf g b r) (plain_children_by G T n k (A t n)) (AreOf-plain_children g b t G T n k h)

pub answers_in-append : (a b : List Action) → answers_in (a ++ b) ≡ answers_in a ++ answers_in b
answers_in-append [] b = refl
answers_in-append (called ∷ a) b = answers_in-append a b
answers_in-append (cut ∷ a) b = answers_in-append a b
answers_in-append (answered s l ∷ a) b = ap (λ z. s ∷ z) (answers_in-append a b)

pub flat_map-plain_children : (A : Ways) (d k r : ℕ) → d - (k + 1) ≡ r → (l : List Plain) → AllByRecursion (λ s. steps_of s ≡ k + 1) l
    → flat_map (λ s. trace_to A d s) l ≡ flat_map (λ s. trace A r s) l
flat_map-plain_children A d k r e [] q = refl
flat_map-plain_children A d k r e (s ∷ l) q = ap₂ (λ a b. a ++ b) (ap (λ z. trace A z s) (ap (λ z. d - z) q.0 ∙ e)) (flat_map-plain_children A d k r e l q.1)

pub trace-more : (A : Ways) (d k r : ℕ) → d - k ≡ suc r → (g : Tree) (G T : Trees) (m : ℕ)
    → trace A (d - k) (state (more g G) T m k) ≡ called ∷ flat_map (λ s. trace_to A d s) (plain_children A (state (more g G) T m k))
unfolding trace
trace-more A d k r e g G T m = ap (λ z. trace A z (state (more g G) T m k)) e
    ∙ ap (λ z. called ∷ z) (sym (flat_map-plain_children A d k r (omega arith) (plain_children_by G T m k (A g m)) (AllByRecursion-plain_children_by G T m k (A g m))))

pub calls_in-append : (a b : List Action) → calls_in (a ++ b) ≡ calls_in a + calls_in b
calls_in-append [] b = omega arith
calls_in-append (called ∷ a) b = let ih : calls_in (a ++ b) ≡ calls_in a + calls_in b = calls_in-append a b in omega arith
calls_in-append (cut ∷ a) b = calls_in-append a b
calls_in-append (answered s l ∷ a) b = calls_in-append a b
