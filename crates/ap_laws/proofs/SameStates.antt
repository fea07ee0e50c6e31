-- States that are equal up to names: an equivalence.
use Rattle.std.proofs.Common.{ℕ, List, [], ◌∷◌, ap, sym, ◌∙◌}
use Rattle.std.specs.List.{AllZip}
use Rattle.ap_term.specs.declared.clauses.Check.{Check}
use Rattle.ap_term.specs.declared.clauses.Check.TheVariants.{Ground, Indep}
use Rattle.ap_term.specs.Tree.{Tree, Trees, var, int, atom, node, none, more}
use Rattle.ap_term.specs.Goals.{Part, call, group}
use Rattle.ap_term.specs.Search.{State}
use Rattle.ap_laws.specs.Renaming.{Renamed, RenamedAll, RenamedCheck, RenamedPart, Linked, SameState}
use Rattle.ap_laws.specs.Laws.{SameStateLaw}
use Rattle.ap_laws.proofs.Names.{SameState-refl}

AllZip-sym : {A : Type 0} (R S : A → A → Type 0) → ((x y : A) → R x y → S y x) → (xs ys : List A) → AllZip R xs ys → AllZip S ys xs
AllZip-sym R S e [] [] h = tt
AllZip-sym R S e (x ∷ xs) (y ∷ ys) h = (e x y h.0, AllZip-sym R S e xs ys h.1)
AllZip-sym R S e [] (_ ∷ _) h = absurd h
AllZip-sym R S e (_ ∷ _) [] h = absurd h

AllZip-trans : {A : Type 0} (R S Q : A → A → Type 0) → ((x y z : A) → R x y → S y z → Q x z) → (xs ys zs : List A) → AllZip R xs ys → AllZip S ys zs → AllZip Q xs zs
AllZip-trans R S Q e [] [] [] h k = tt
AllZip-trans R S Q e (x ∷ xs) (y ∷ ys) (z ∷ zs) h k = (e x y z h.0 k.0, AllZip-trans R S Q e xs ys zs h.1 k.1)
AllZip-trans R S Q e [] (_ ∷ _) _ h k = absurd h
AllZip-trans R S Q e (_ ∷ _) [] _ h k = absurd h
AllZip-trans R S Q e [] [] (_ ∷ _) h k = absurd k
AllZip-trans R S Q e (_ ∷ _) (_ ∷ _) [] h k = absurd k

module _ (R S : ℕ → ℕ → Type 0) (e : (x y : ℕ) → R x y → S y x) where
  mutual
    Renamed-sym : (t u : Tree) → Renamed R t u → Renamed S u t
    Renamed-sym (var x) (var y) h = e x y h
    Renamed-sym (int x) (int y) h = sym h
    Renamed-sym (atom x) (atom y) h = sym h
    Renamed-sym (node a ts) (node b us) h = (sym h.0, RenamedAll-sym ts us h.1)
    Renamed-sym _ _ h = absurd h

    RenamedAll-sym : (ts us : Trees) → RenamedAll R ts us → RenamedAll S us ts
    RenamedAll-sym none none h = tt
    RenamedAll-sym (more t ts) (more u us) h = (Renamed-sym t u h.0, RenamedAll-sym ts us h.1)
    RenamedAll-sym _ _ h = absurd h

  RenamedCheck-sym : (c d : Check) → RenamedCheck R c d → RenamedCheck S d c
  RenamedCheck-sym (Ground x) (Ground y) h = e x y h
  RenamedCheck-sym (Indep x y) (Indep z w) h = (e x z h.0, e y w h.1)
  RenamedCheck-sym (Ground _) (Indep _ _) h = absurd h
  RenamedCheck-sym (Indep _ _) (Ground _) h = absurd h

  RenamedPart-sym : (p q : Part) → RenamedPart R p q → RenamedPart S q p
  RenamedPart-sym (call t) (call u) h = Renamed-sym t u h
  RenamedPart-sym (group cs ts) (group ds us) h = (AllZip-sym (RenamedCheck R) (RenamedCheck S) RenamedCheck-sym cs ds h.0, RenamedAll-sym ts us h.1)
  RenamedPart-sym (call _) (group _ _) h = absurd h
  RenamedPart-sym (group _ _) (call _) h = absurd h

module _ (R S Q : ℕ → ℕ → Type 0) (e : (x y z : ℕ) → R x y → S y z → Q x z) where
  mutual
    Renamed-trans : (t u v : Tree) → Renamed R t u → Renamed S u v → Renamed Q t v
    Renamed-trans (var x) (var y) (var z) h k = e x y z h k
    Renamed-trans (int x) (int y) (int z) h k = h ∙ k
    Renamed-trans (atom x) (atom y) (atom z) h k = h ∙ k
    Renamed-trans (node a ts) (node b us) (node c vs) h k = (h.0 ∙ k.0, RenamedAll-trans ts us vs h.1 k.1)
    Renamed-trans (var _) (int _) _ h k = absurd h
    Renamed-trans (var _) (atom _) _ h k = absurd h
    Renamed-trans (var _) (node _ _) _ h k = absurd h
    Renamed-trans (int _) (var _) _ h k = absurd h
    Renamed-trans (int _) (atom _) _ h k = absurd h
    Renamed-trans (int _) (node _ _) _ h k = absurd h
    Renamed-trans (atom _) (var _) _ h k = absurd h
    Renamed-trans (atom _) (int _) _ h k = absurd h
    Renamed-trans (atom _) (node _ _) _ h k = absurd h
    Renamed-trans (node _ _) (var _) _ h k = absurd h
    Renamed-trans (node _ _) (int _) _ h k = absurd h
    Renamed-trans (node _ _) (atom _) _ h k = absurd h
    Renamed-trans _ _ _ h k = absurd k

    RenamedAll-trans : (ts us vs : Trees) → RenamedAll R ts us → RenamedAll S us vs → RenamedAll Q ts vs
    RenamedAll-trans none none none h k = tt
    RenamedAll-trans (more t ts) (more u us) (more v vs) h k = (Renamed-trans t u v h.0 k.0, RenamedAll-trans ts us vs h.1 k.1)
    RenamedAll-trans none (more _ _) _ h k = absurd h
    RenamedAll-trans (more _ _) none _ h k = absurd h
    RenamedAll-trans _ _ _ h k = absurd k

  RenamedCheck-trans : (c d b : Check) → RenamedCheck R c d → RenamedCheck S d b → RenamedCheck Q c b
  RenamedCheck-trans (Ground x) (Ground y) (Ground z) h k = e x y z h k
  RenamedCheck-trans (Indep x y) (Indep z w) (Indep u v) h k = (e x z u h.0 k.0, e y w v h.1 k.1)
  RenamedCheck-trans (Ground _) (Indep _ _) _ h k = absurd h
  RenamedCheck-trans (Indep _ _) (Ground _) _ h k = absurd h
  RenamedCheck-trans _ _ _ h k = absurd k

  RenamedPart-trans : (p q r : Part) → RenamedPart R p q → RenamedPart S q r → RenamedPart Q p r
  RenamedPart-trans (call t) (call u) (call v) h k = Renamed-trans t u v h k
  RenamedPart-trans (group cs ts) (group ds us) (group bs vs) h k =
      (AllZip-trans (RenamedCheck R) (RenamedCheck S) (RenamedCheck Q) RenamedCheck-trans cs ds bs h.0 k.0, RenamedAll-trans ts us vs h.1 k.1)
  RenamedPart-trans (call _) (group _ _) _ h k = absurd h
  RenamedPart-trans (group _ _) (call _) _ h k = absurd h
  RenamedPart-trans _ _ _ h k = absurd k

pub SameState-sym : (s t : State) → SameState s t → SameState t s
SameState-sym s t h =
    let R : ℕ → ℕ → Type 0 = Linked h.0 h.1 s.next t.next in
    let S : ℕ → ℕ → Type 0 = Linked h.1 h.0 t.next s.next in
    let e : (x y : ℕ) → R x y → S y x = λ x y k. (k.1, k.0, k.3, k.2) in
    (h.1, h.0, (AllZip-sym (RenamedPart R) (RenamedPart S) (RenamedPart-sym R S e) s.goals t.goals h.2.0, RenamedAll-sym R S e s.tuple t.tuple h.2.1, sym h.2.2, sym h.2.3))

pub SameState-trans : (s t u : State) → SameState s t → SameState t u → SameState s u
SameState-trans s t u h j =
    let R : ℕ → ℕ → Type 0 = Linked h.0 h.1 s.next t.next in
    let S : ℕ → ℕ → Type 0 = Linked j.0 j.1 t.next u.next in
    let Q : ℕ → ℕ → Type 0 = Linked (λ x. j.0 (h.0 x)) (λ x. h.1 (j.1 x)) s.next u.next in
    let e : (x y z : ℕ) → R x y → S y z → Q x z = λ x y z k l. (ap j.0 k.0 ∙ l.0, ap h.1 l.1 ∙ k.1, k.2, l.3) in (
      λ x. j.0 (h.0 x),
      λ x. h.1 (j.1 x),
      (
        AllZip-trans (RenamedPart R) (RenamedPart S) (RenamedPart Q) (RenamedPart-trans R S Q e) s.goals t.goals u.goals h.2.0 j.2.0,
        RenamedAll-trans R S Q e s.tuple t.tuple u.tuple h.2.1 j.2.1,
        h.2.2 ∙ j.2.2,
        h.2.3 ∙ j.2.3,
      ),
    )

pub same_states : SameStateLaw
same_states = (SameState-refl, SameState-sym, SameState-trans)
