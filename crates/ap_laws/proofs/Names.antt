-- Searches of states that are the same up to names.
use Rattle.std.proofs.Common.{◌≡◌, ℕ, zero, suc, ◌-◌, ◌<◌, Bool, true, false, ◌||◌, nat_eq, List, [], ◌∷◌, ◌++◌, Option, Some, None, refl, ap, ap₂, sym, ◌∙◌, subst}
use Rattle.std.specs.List.{flat_map, AllZip, AllByRecursion}
use Rattle.std.proofs.lemmas.Bool.{false≢true}
use Rattle.ap_term.specs.Tree.{Tree, Trees, var, int, atom, node, none, more}
use Rattle.ap_term.specs.Vars.{has, add_all_vars, Local, LocalAll}
use Rattle.ap_term.specs.Substitution.{instance, instance_all}
use Rattle.ap_term.specs.Laws.{KeepsApart}
use Rattle.ap_term.specs.Goals.{Part, call, group, Program}
use Rattle.ap_term.specs.WellFormed.{IsProgram}
use Rattle.ap_term.specs.UpToNames.{renumbered, SameUpToNames}
use Rattle.ap_term.specs.declared.faults.Fault.{Fault}
use Rattle.ap_term.specs.Search.{by_goals, State, Outcome, answer, fails_by, outcome_by, outcome_of, Met, outcomes_below, outcomes_to_depth, done, open_states, with_outcomes, turn, meets, children}
use Rattle.ap_term.proofs.Renamings.{renumbered-renamed}
use Rattle.ap_term.proofs.Solutions.{same_var}
use Rattle.ap_laws.specs.Renaming.{Renamed, RenamedAll, RenamedPart, RenamedParts, RenamedCheck, Linked, SameState, SameTuple, LocalPart, LocalCheck, IsBelow}
use Rattle.ap_laws.specs.Laws.{SameOutcome, SameFound, RenamingLaw}
use Rattle.ap_term.proofs.Zips.{AllZip-append, AllZip-flat_map, AllZip-weaken}
use Rattle.ap_laws.proofs.Local.{AllByRecursion-add_all_vars}
use Rattle.ap_laws.proofs.Ways.{SameState-children}
use Rattle.ap_term.specs.declared.clauses.Check.{Check}
use Rattle.ap_term.specs.declared.clauses.Check.TheVariants.{Ground, Indep}

-- ---- related tuples have one numbered form

mutual
  -- related trees, told by the renaming
  pub Renamed-is : (f g : ℕ → ℕ) (n m : ℕ) (t u : Tree) → Renamed (Linked f g n m) t u → u ≡ instance (λ x. var (f x)) t
  Renamed-is f g n m (var x) (var y) h = ap var (sym h.0)
  Renamed-is f g n m (int z) (int w) h = ap int (sym h)
  Renamed-is f g n m (atom a) (atom b) h = ap atom (sym h)
  Renamed-is f g n m (node a ts) (node b us) h = ap₂ node (sym h.0) (RenamedAll-is f g n m ts us h.1)
  Renamed-is f g n m _ _ h = absurd h

  pub RenamedAll-is : (f g : ℕ → ℕ) (n m : ℕ) (ts us : Trees) → RenamedAll (Linked f g n m) ts us → us ≡ instance_all (λ x. var (f x)) ts
  RenamedAll-is f g n m none none h = refl
  RenamedAll-is f g n m (more t ts) (more u us) h = ap₂ more (Renamed-is f g n m t u h.0) (RenamedAll-is f g n m ts us h.1)
  RenamedAll-is f g n m _ _ h = absurd h

mutual
  -- what each variable on the left has
  pub Local-Renamed : (R : ℕ → ℕ → Type 0) (P : ℕ → Type 0) → ((x y : ℕ) → R x y → P x) → (t u : Tree) → Renamed R t u → Local P t
  Local-Renamed R P e (var x) (var y) h = e x y h
  Local-Renamed R P e (int z) (int w) h = tt
  Local-Renamed R P e (atom a) (atom b) h = tt
  Local-Renamed R P e (node a ts) (node b us) h = LocalAll-RenamedAll R P e ts us h.1
  Local-Renamed R P e _ _ h = absurd h

  pub LocalAll-RenamedAll : (R : ℕ → ℕ → Type 0) (P : ℕ → Type 0) → ((x y : ℕ) → R x y → P x) → (ts us : Trees) → RenamedAll R ts us → LocalAll P ts
  LocalAll-RenamedAll R P e none none h = tt
  LocalAll-RenamedAll R P e (more t ts) (more u us) h = (Local-Renamed R P e t u h.0, LocalAll-RenamedAll R P e ts us h.1)
  LocalAll-RenamedAll R P e _ _ h = absurd h

-- what holds of each number of a list holds of one that it has
pub AllByRecursion-has : (P : ℕ → Type 0) (xs : List ℕ) → AllByRecursion P xs → (x : ℕ) → has xs x ≡ true → P x
AllByRecursion-has P [] h x o = absurd (false≢true o)
AllByRecursion-has P (y ∷ xs) h x o = go (nat_eq y x) refl o (AllByRecursion-has P xs h.1 x)
  where
    go : (b : Bool) → nat_eq y x ≡ b → (b || has xs x) ≡ true → (has xs x ≡ true → P x) → P x
    go true e p ih = subst P (same_var y x e) h.0
    go false e p ih = ih p

pub SameUpToNames-SameTuple : (ts us : Trees) → SameTuple ts us → SameUpToNames ts us
SameUpToNames-SameTuple ts us h = sym (renumbered-renamed f ts apart) ∙ ap renumbered (sym (RenamedAll-is f g h.2 h.3 ts us h.4))
  where
    f : ℕ → ℕ
    f = h.0

    g : ℕ → ℕ
    g = h.1

    comes_back : (x : ℕ) → has (add_all_vars ts []) x ≡ true → g (f x) ≡ x
    comes_back = AllByRecursion-has (λ x. g (f x) ≡ x) (add_all_vars ts [])
        (AllByRecursion-add_all_vars (λ x. g (f x) ≡ x) ts [] (LocalAll-RenamedAll (Linked f g h.2 h.3) (λ x. g (f x) ≡ x) (λ x y k. ap g k.0 ∙ k.1) ts us h.4) tt)

    apart : KeepsApart f (add_all_vars ts [])
    apart x y p q e = sym (comes_back x p) ∙ ap g e ∙ comes_back y q

SameTuple-SameState : (s t : State) → SameState s t → SameTuple s.tuple t.tuple
SameTuple-SameState s t h = (h.0, h.1, s.next, t.next, h.2.1)

-- ---- outcomes and budgets

related-by_goals : {A B : Type 0} (S : A → B → Type 0) (R : ℕ → ℕ → Type 0) (ps qs : List Part) → RenamedParts R ps qs → (a b : A) (c d : B) → S a c → S b d → S (by_goals ps a b) (by_goals qs c d)
related-by_goals S R [] [] h a b c d k l = k
related-by_goals S R (p ∷ ps) (q ∷ qs) h a b c d k l = l
related-by_goals S R [] (_ ∷ _) h a b c d k l = absurd h
related-by_goals S R (_ ∷ _) [] h a b c d k l = absurd h

-- before tuples are renumbered
abbrev RenamedOutcome : Outcome → Outcome → Type 0
RenamedOutcome (answer ts) (answer us) = SameTuple ts us
RenamedOutcome (fails_by e) (fails_by i) = e ≡ i
RenamedOutcome _ _ = ⊥

SameOutcome-RenamedOutcome : (o r : Outcome) → RenamedOutcome o r → SameOutcome o r
SameOutcome-RenamedOutcome (answer ts) (answer us) h = SameUpToNames-SameTuple ts us h
SameOutcome-RenamedOutcome (fails_by e) (fails_by i) h = h
SameOutcome-RenamedOutcome (answer ts) (fails_by i) h = absurd h
SameOutcome-RenamedOutcome (fails_by e) (answer us) h = absurd h

RenamedOutcome-SameState : (s t : State) → SameState s t → RenamedOutcome (outcome_of s) (outcome_of t)
RenamedOutcome-SameState s t h = go s.fault t.fault h.2.3
  where
    go : (e i : Option Fault) → e ≡ i → RenamedOutcome (outcome_by e s.tuple) (outcome_by i t.tuple)
    go None None q = SameTuple-SameState s t h
    go (Some e) (Some i) q = cc
    go None (Some i) q = cc
    go (Some e) None q = cc

module _ (p : Program) (good : IsProgram p) where
  SameTuple-answers_below : (n : ℕ) (s t : State) → SameState s t → AllZip RenamedOutcome (outcomes_below p n s) (outcomes_below p n t)
  SameTuple-answers_below zero s t h =
      related-by_goals (AllZip RenamedOutcome) (Linked h.0 h.1 s.next t.next) s.goals t.goals h.2.0 (outcome_of s ∷ []) [] (outcome_of t ∷ []) [] (RenamedOutcome-SameState s t h, tt) tt
  SameTuple-answers_below (suc n) s t h =
      related-by_goals (AllZip RenamedOutcome) (Linked h.0 h.1 s.next t.next) s.goals t.goals h.2.0 (outcome_of s ∷ []) (flat_map (outcomes_below p n) (children p s)) (outcome_of t ∷ []) (flat_map (outcomes_below p n) (children p t))
      (RenamedOutcome-SameState s t h, tt)
      (AllZip-flat_map SameState RenamedOutcome (outcomes_below p n) (outcomes_below p n) (SameTuple-answers_below n) (children p s) (children p t) (SameState-children p good s t h))

  pub SameTuple-answers_to_depth : (d : ℕ) (s t : State) → SameState s t → AllZip RenamedOutcome (outcomes_to_depth p s d) (outcomes_to_depth p t d)
  SameTuple-answers_to_depth d s t h =
      subst (λ n. AllZip RenamedOutcome (outcomes_to_depth p s d) (outcomes_below p (d - n) t)) h.2.2 (SameTuple-answers_below (d - s.steps) s t h)

  abbrev Alike : Met → Met → Type 0
  Alike f g = AllZip RenamedOutcome f.outcomes g.outcomes × (f.ended ≡ g.ended)

  Alike-with_answers : (as' bs : List Outcome) → AllZip RenamedOutcome as' bs → (f g : Met) → Alike f g → Alike (with_outcomes as' f) (with_outcomes bs g)
  Alike-with_answers as' bs h f g k = (AllZip-append RenamedOutcome as' f.outcomes bs g.outcomes h k.0, k.1)

  SameTuple-done : (ss ts : List State) → AllZip SameState ss ts → AllZip RenamedOutcome (done ss) (done ts)
  SameTuple-done [] [] h = tt
  SameTuple-done (s ∷ ss) (t ∷ ts) h =
      related-by_goals (AllZip RenamedOutcome) (Linked h.0.0 h.0.1 s.next t.next) s.goals t.goals h.0.2.0 (outcome_of s ∷ done ss) [] (outcome_of t ∷ done ts) [] (RenamedOutcome-SameState s t h.0, SameTuple-done ss ts h.1) tt
  SameTuple-done [] (_ ∷ _) h = absurd h
  SameTuple-done (_ ∷ _) [] h = absurd h

  SameState-open_states : (ss ts : List State) → AllZip SameState ss ts → AllZip SameState (open_states ss) (open_states ts)
  SameState-open_states [] [] h = tt
  SameState-open_states (s ∷ ss) (t ∷ ts) h =
      related-by_goals (AllZip SameState) (Linked h.0.0 h.0.1 s.next t.next) s.goals t.goals h.0.2.0 (open_states ss) (s ∷ ss) (open_states ts) (t ∷ ts) (SameState-open_states ss ts h.1) h
  SameState-open_states [] (_ ∷ _) h = absurd h
  SameState-open_states (_ ∷ _) [] h = absurd h

  Alike-turn : (F G : State → List State → Met) → ((s t : State) (ss ts : List State) → SameState s t → AllZip SameState ss ts → Alike (F s ss) (G t ts)) → (ss ts : List State) → AllZip SameState ss ts
      → Alike (turn F ss) (turn G ts)
  Alike-turn F G e [] [] h = (tt, refl)
  Alike-turn F G e (s ∷ ss) (t ∷ ts) h = e s t ss ts h.0 h.1
  Alike-turn F G e [] (_ ∷ _) h = absurd h
  Alike-turn F G e (_ ∷ _) [] h = absurd h

  Alike-search : (n : ℕ) (ss ts : List State) → AllZip SameState ss ts → Alike (meets p n ss) (meets p n ts)
  Alike-search zero ss ts h =
      Alike-with_answers (done ss) (done ts) (SameTuple-done ss ts h) _ _
      (Alike-turn (λ s ss. record { outcomes = []; ended = false }) (λ s ss. record { outcomes = []; ended = false }) (λ s t ss ts k l. (tt, refl)) (open_states ss) (open_states ts) (SameState-open_states ss ts h))
  Alike-search (suc n) ss ts h =
      Alike-with_answers (done ss) (done ts) (SameTuple-done ss ts h) _ _
      (Alike-turn (λ s ss. meets p n (children p s ++ ss)) (λ s ss. meets p n (children p s ++ ss))
      (λ s t ss ts k l. Alike-search n (children p s ++ ss) (children p t ++ ts) (AllZip-append SameState (children p s) ss (children p t) ts (SameState-children p good s t k) l))
      (open_states ss) (open_states ts) (SameState-open_states ss ts h))

  -- at each budget the same answers up to names, and the same end
  pub SameFound-search : (n : ℕ) (ss ts : List State) → AllZip SameState ss ts → SameFound (meets p n ss) (meets p n ts)
  SameFound-search n ss ts h =
      let r = Alike-search n ss ts h in (AllZip-weaken RenamedOutcome SameOutcome SameOutcome-RenamedOutcome (meets p n ss).outcomes (meets p n ts).outcomes r.0, r.1)

pub renaming : RenamingLaw
renaming p good s t h = (
  λ d. AllZip-weaken RenamedOutcome SameOutcome SameOutcome-RenamedOutcome (outcomes_to_depth p s d) (outcomes_to_depth p t d) (SameTuple-answers_to_depth p good d s t h),
  λ n. SameFound-search p good n (s ∷ []) (t ∷ []) (h, tt),
)

-- ---- the variables of children

LocalCheck-RenamedCheck : (R : ℕ → ℕ → Type 0) (P : ℕ → Type 0) → ((x y : ℕ) → R x y → P x) → (c d : Check) → RenamedCheck R c d → LocalCheck P c
LocalCheck-RenamedCheck R P e (Ground x) (Ground y) h = e x y h
LocalCheck-RenamedCheck R P e (Indep x y) (Indep z w) h = (e x z h.0, e y w h.1)
LocalCheck-RenamedCheck R P e (Ground _) (Indep _ _) h = absurd h
LocalCheck-RenamedCheck R P e (Indep _ _) (Ground _) h = absurd h

AllByRecursion-AllZip : {A B : Type 0} (R : A → B → Type 0) (P : A → Type 0) → ((x : A) (y : B) → R x y → P x) → (xs : List A) (ys : List B) → AllZip R xs ys → AllByRecursion P xs
AllByRecursion-AllZip R P e [] [] h = tt
AllByRecursion-AllZip R P e (x ∷ xs) (y ∷ ys) h = (e x y h.0, AllByRecursion-AllZip R P e xs ys h.1)
AllByRecursion-AllZip R P e [] (_ ∷ _) h = absurd h
AllByRecursion-AllZip R P e (_ ∷ _) [] h = absurd h

LocalPart-RenamedPart : (R : ℕ → ℕ → Type 0) (P : ℕ → Type 0) → ((x y : ℕ) → R x y → P x) → (p q : Part) → RenamedPart R p q → LocalPart P p
LocalPart-RenamedPart R P e (call t) (call u) h = Local-Renamed R P e t u h
LocalPart-RenamedPart R P e (group cs ts) (group ds us) h =
    (AllByRecursion-AllZip (RenamedCheck R) (LocalCheck P) (LocalCheck-RenamedCheck R P e) cs ds h.0, LocalAll-RenamedAll R P e ts us h.1)
LocalPart-RenamedPart R P e (call _) (group _ _) h = absurd h
LocalPart-RenamedPart R P e (group _ _) (call _) h = absurd h

IsBelow-SameState : (s t : State) → SameState s t → IsBelow s
IsBelow-SameState s t h =
    let R : ℕ → ℕ → Type 0 = Linked h.0 h.1 s.next t.next in
    let e : (x y : ℕ) → R x y → x < s.next = λ x y k. k.2 in (
      AllByRecursion-AllZip (RenamedPart R) (LocalPart (λ x. x < s.next)) (LocalPart-RenamedPart R (λ x. x < s.next) e) s.goals t.goals h.2.0,
      LocalAll-RenamedAll R (λ x. x < s.next) e s.tuple t.tuple h.2.1,
    )

-- a list is related to itself
AllZip-refl : {A : Type 0} (P : A → Type 0) (R : A → A → Type 0) → ((x : A) → P x → R x x) → (xs : List A) → AllByRecursion P xs → AllZip R xs xs
AllZip-refl P R e [] h = tt
AllZip-refl P R e (x ∷ xs) h = (e x h.0, AllZip-refl P R e xs h.1)

mutual
  Renamed-refl : (P : ℕ → Type 0) (R : ℕ → ℕ → Type 0) → ((x : ℕ) → P x → R x x) → (t : Tree) → Local P t → Renamed R t t
  Renamed-refl P R e (var x) h = e x h
  Renamed-refl P R e (int z) h = refl
  Renamed-refl P R e (atom a) h = refl
  Renamed-refl P R e (node a ts) h = (refl, RenamedAll-refl P R e ts h)

  RenamedAll-refl : (P : ℕ → Type 0) (R : ℕ → ℕ → Type 0) → ((x : ℕ) → P x → R x x) → (ts : Trees) → LocalAll P ts → RenamedAll R ts ts
  RenamedAll-refl P R e none h = tt
  RenamedAll-refl P R e (more t ts) h = (Renamed-refl P R e t h.0, RenamedAll-refl P R e ts h.1)

RenamedCheck-refl : (P : ℕ → Type 0) (R : ℕ → ℕ → Type 0) → ((x : ℕ) → P x → R x x) → (c : Check) → LocalCheck P c → RenamedCheck R c c
RenamedCheck-refl P R e (Ground x) h = e x h
RenamedCheck-refl P R e (Indep x y) h = (e x h.0, e y h.1)

RenamedPart-refl : (P : ℕ → Type 0) (R : ℕ → ℕ → Type 0) → ((x : ℕ) → P x → R x x) → (p : Part) → LocalPart P p → RenamedPart R p p
RenamedPart-refl P R e (call t) h = Renamed-refl P R e t h
RenamedPart-refl P R e (group cs ts) h = (AllZip-refl (LocalCheck P) (RenamedCheck R) (RenamedCheck-refl P R e) cs h.0, RenamedAll-refl P R e ts h.1)

pub SameState-refl : (s : State) → IsBelow s → SameState s s
SameState-refl s h =
    let R : ℕ → ℕ → Type 0 = Linked (λ x. x) (λ x. x) s.next s.next in
    let e : (x : ℕ) → x < s.next → R x x = λ x l. (refl, refl, l, l) in
    (λ x. x, λ x. x, (AllZip-refl (LocalPart (λ x. x < s.next)) (RenamedPart R) (RenamedPart-refl (λ x. x < s.next) R e) s.goals h.0, RenamedAll-refl (λ x. x < s.next) R e s.tuple h.1, refl, refl))

pub IsBelow-children : (p : Program) → IsProgram p → (s : State) → IsBelow s → AllByRecursion IsBelow (children p s)
IsBelow-children p good s h = AllByRecursion-AllZip SameState IsBelow IsBelow-SameState (children p s) (children p s) (SameState-children p good s s (SameState-refl s h))
