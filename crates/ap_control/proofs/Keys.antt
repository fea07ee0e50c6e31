-- Clauses that ask for another first argument than the one that is there.
use Rattle.std.proofs.Common.{◌≡◌, ℕ, ℤ, ◌+◌, Bool, true, false, not, ◌==◌, ◌&&◌, List, [], ◌∷◌, Option, Some, None, drop, slice_get, refl, ap, sym, ◌∙◌, subst, eq-eqb}
use Rattle.std.specs.Prelude.{if◌then◌else◌}
use Rattle.std.specs.List.{AllByRecursion}
use Rattle.std.proofs.lemmas.Bool.{eqb-true, and_from}
use Rattle.std.proofs.lemmas.Bool.Decides.{Decides-int_eq}
use Rattle.ap_term.specs.Tree.{Tree, Trees, atom, node, count_trees}
use Rattle.ap_term.proofs.Lists.{drop-here}
use Rattle.ap_cells.specs.declared.cells.Raw.{Raw}
use Rattle.ap_instr.specs.declared.instruction.Instr.{Instr}
use Rattle.ap_instr.specs.declared.instruction.Instr.TheVariants.{GetConstant, GetInteger, GetStructure, Allocate, Try}
use Rattle.ap_instr.specs.Code.{Compiled}
use Rattle.ap_instr.specs.StandsFor.{alternatives, clause_places}
use Rattle.ap_instr.specs.declared.compiled.Predicate.{Predicate}
use Rattle.ap_instr.specs.Step.{Step, with_integer, get_constant, get_structure}
use Rattle.ap_instr.specs.Steps.{steps_behind}
use Rattle.ap_index.specs.declared.key.Key.{Key}
use Rattle.ap_index.specs.declared.key.Key.TheVariants.{Atom, Integer, Structure}
use Rattle.ap_index.specs.declared.choice.Choice.{Choice}
use Rattle.ap_index.specs.declared.hashing.Hashed.{Hashed}
use Rattle.ap_index.specs.declared.row.Pair.{Pair}
use Rattle.ap_index.specs.declared.row.Row.{Row}
use Rattle.ap_index.specs.Index.{AsksOther, LeavesOthers, named, tried_from, named_from, first_for, only_for, IsRowOf, IsChoiceAt}
use Rattle.ap_match.specs.Fits.{Fits}
use Rattle.ap_steps.specs.Moves.{Asked}
use Rattle.ap_standing.specs.Machine.{places_from}
use Rattle.ap_index.specs.Keys.{same_key, integer_key, first_key, IsKeyOf}
use Rattle.ap_control.specs.Heads.{IsShut, PassesOver}
use Rattle.ap_control.specs.Choosing.{HasKey, IsOnly, IsPairTold}

-- a tree has one key
pub clash : (a b : Key) (t : Tree) → same_key a b ≡ false → IsKeyOf a t → IsKeyOf b t → ⊥
clash (Atom a) (Atom b) t d h g = let e : a ≡ b = cc in let y : (a == b) ≡ true = eq-eqb a b e in cc
clash (Integer a) (Integer b) t d h g = let e : a ≡ b = cc in let y = (Decides-int_eq a b).1 e in cc
clash (Structure f n) (Structure g m) t d h k =
    let i : node f h.0 ≡ node g k.0 = sym h.2 ∙ k.2 in
    let p : f ≡ g = cc in
    let q : h.0 ≡ k.0 = cc in
    let r : n ≡ m = sym h.1 ∙ ap count_trees q ∙ k.1 in
    let y : ((f == g) && (n == m)) ≡ true = and_from (f == g) (n == m) (eq-eqb f g p) (eq-eqb n m r) in
    cc
clash (Atom a) (Integer b) t d h g = let z : ⊥ = cc in z
clash (Atom a) (Structure g m) t d h k = let e = sym h ∙ k.2 in let z : ⊥ = cc in z
clash (Integer a) (Atom b) t d h g = let z : ⊥ = cc in z
clash (Integer a) (Structure g m) t d h k = let e = sym h ∙ k.2 in let z : ⊥ = cc in z
clash (Structure f n) (Atom b) t d h k = let e = sym k ∙ h.2 in let z : ⊥ = cc in z
clash (Structure f n) (Integer b) t d h k = let e = sym k ∙ h.2 in let z : ⊥ = cc in z

module _ (code : Compiled) (cs : List Raw) (x y : ℕ → ℕ) (key : Key) (held : (k : ℕ → Tree) → Fits cs k → IsKeyOf key (k (x 1))) where
  -- what is asked of the first argument isn't what it is
  module _ (asked : Key) (other : same_key asked key ≡ false) (k : ℕ → Tree) (fits : Fits cs k) where
    other-one : (own : Key) (a : ℕ) → (a == 1) ≡ true → Some own ≡ Some asked → IsKeyOf own (k (x a)) → ⊥
    other-one own a one e h =
        let same : own ≡ asked = cc in
        clash asked key (k (x 1)) other (subst (λ n. IsKeyOf asked (k (x n))) (eqb-true a 1 one) (subst (λ o. IsKeyOf o (k (x a))) same h)) (held k fits)

  module _ (asked : Key) (other : same_key asked key ≡ false) (k : ℕ → Tree) (bs : Trees) where
    constant : (c a : ℕ) (rest : Option Key) (js : List Step) (b : Bool) → (a == 1) ≡ b → (if not b then rest else (if b then Some (Atom c) else None)) ≡ Some asked
        → Asked cs x y (get_constant (atom c) a ∷ js) k bs → (rest ≡ Some asked → Asked cs x y js k bs → ⊥) → ⊥
    constant c a rest js true one e h more = other-one asked other k h.0 (Atom c) a one e h.1.0
    constant c a rest js false one e h more = more e (h.0, h.1.1)

    listed : (o : Option ℤ) (a : ℕ) (rest : Option Key) (js : List Step) (b : Bool) → (a == 1) ≡ b → (if not b then rest else (if b then integer_key o else None)) ≡ Some asked
        → Asked cs x y (with_integer o (λ t. get_constant t a) ∷ js) k bs → (rest ≡ Some asked → Asked cs x y js k bs → ⊥) → ⊥
    listed None a rest js b one e h more = h.1
    listed (Some z) a rest js true one e h more = other-one asked other k h.0 (Integer z) a one e h.1.0
    listed (Some z) a rest js false one e h more = more e (h.0, h.1.1)

    structure : (f n a : ℕ) (js : List Step) (b : Bool) → (a == 1) ≡ b → (if b then Some (Structure f n) else None) ≡ Some asked → Asked cs x y (get_structure f n a ∷ js) k bs → ⊥
    structure f n a js true one e h = other-one asked other k h.0 (Structure f n) a one e (h.1.0, h.1.1, h.1.2)
    structure f n a js false one e h = let z : ⊥ = cc in z

    none-asked : (at : ℕ) (is : List Instr) → first_key code is ≡ Some asked → Asked cs x y (steps_behind code at 0 is) k bs → ⊥
    none-asked at [] e h = h.1
    none-asked at (GetConstant c a ∷ is) e h = constant c a (first_key code is) (steps_behind code (at + 1) 0 is) (a == 1) refl e h (none-asked (at + 1) is)
    none-asked at (GetInteger i a ∷ is) e h = listed (slice_get code.integers i) a (first_key code is) (steps_behind code (at + 1) 0 is) (a == 1) refl e h (none-asked (at + 1) is)
    none-asked at (GetStructure f n a ∷ is) e h = structure f n a (steps_behind code (at + 1) 0 is) (a == 1) refl e h
    none-asked at (Allocate n ∷ is) e h = none-asked (at + 1) is e h
    none-asked at (i ∷ is) e h = let z : ⊥ = cc in z

module _ (code : Compiled) (cs : List Raw) (x : ℕ → ℕ) (key : Key) (held : (k : ℕ → Tree) → Fits cs k → IsKeyOf key (k (x 1))) where
  shut : (ls : List ℕ) → AllByRecursion (AsksOther code key) ls → AllByRecursion (IsShut code cs x) ls
  shut [] h = tt
  shut (l ∷ ls) h = (λ y k bs. none-asked code cs x y key held h.0.asked h.0.other k bs l (drop l code.instructions) h.0.asks, shut ls h.1)

  pub passes-others : (ls rest : List ℕ) → LeavesOthers code key ls rest → PassesOver code cs x ls rest
  passes-others ls rest h = record { passed = h.passed; are = h.are; shut = shut h.passed h.others }

-- what the index says is left
pub tried-places : (code : Compiled) (o : Option ℕ) → tried_from code o ≡ places_from code o
tried-places code None = refl
tried-places code (Some at) = refl

-- the clauses of a predicate that begins with a `try`
begun-places : (code : Compiled) (q : Predicate) (l : ℕ) → slice_get code.instructions q.start ≡ Some (Try l) → clause_places code q ≡ named_from code (Some q.start)
begun-places code q l begins = let e = drop-here code.instructions q.start (Try l) begins in ap (alternatives q.start) e ∙ sym (ap named e)

-- what a choice names, and those behind it
module _ (code : Compiled) (at : ℕ) (c : Choice) (h : IsChoiceAt code at c) where
  pub choice-places : named_from code (Some at) ≡ c.named.place ∷ places_from code c.named.behind
  choice-places =
      subst (λ p. named_from code (Some p) ≡ c.named.place ∷ places_from code c.named.behind) h.at_it
      (h.is.named.names ∙ ap (λ ls. c.named.place ∷ ls) (tried-places code c.named.behind))

  pub places_from-choice : (rest : Option ℕ) → rest ≡ Some at → c.named.is_first ≡ false → places_from code rest ≡ c.named.place ∷ places_from code c.named.behind
  places_from-choice rest e goes_on =
      subst (λ o. places_from code o ≡ c.named.place ∷ places_from code c.named.behind) (sym e)
      (sym (subst (λ p. named_from code (Some p) ≡ tried_from code (Some p)) h.at_it (h.is.named.goes_on goes_on)) ∙ choice-places)

-- of the clauses of a predicate those are left that its row leaves of its choices
module _ (code : Compiled) (cs : List Raw) (x : ℕ → ℕ) (q : Predicate) (r : Row) (own : Hashed) (h : IsRowOf code q.start r) (key : HasKey cs x (Some own)) where
  pub row-passes : PassesOver code cs x (clause_places code q) (named_from code (first_for r own.key))
  row-passes =
      subst (λ ls. PassesOver code cs x ls (named_from code (first_for r own.key))) (sym (begun-places code q h.clause h.begins))
      (passes-others code cs x own.key key (named_from code (Some q.start)) (named_from code (first_for r own.key)) (h.leads own.key))

  pub row-only : (one : ℕ) → only_for r own.key ≡ Some one → IsOnly code cs x (clause_places code q) one
  row-only one e =
      let it = h.alone own.key one e in
      record {
        behind = it.behind;
        first =
            subst (λ ls. PassesOver code cs x ls (one ∷ it.behind)) (sym (begun-places code q h.clause h.begins))
            (passes-others code cs x own.key key (named_from code (Some q.start)) (one ∷ it.behind) it.leads);
        next = passes-others code cs x own.key key it.behind [] it.others;
      }

-- what is told of the choices of a row is told of the predicate's clauses
pub row-told : (code : Compiled) (cs : List Raw) (x : ℕ → ℕ) (q : Predicate) (r : Row) (p : Pair) → IsRowOf code q.start r → IsPairTold code cs x (named_from code (Some q.start)) p → IsPairTold code cs x (clause_places code q) p
row-told code cs x q r p h told = subst (λ ls. IsPairTold code cs x ls p) (sym (begun-places code q h.clause h.begins)) told

-- the clauses of a predicate that begins with a choice are those that the choice names
pub begin-places : (code : Compiled) (q : Predicate) (c : Choice) → IsChoiceAt code q.start c → c.named.is_first ≡ true → clause_places code q ≡ c.named.place ∷ places_from code c.named.behind
begin-places code q c h first =
    let begins : slice_get code.instructions q.start ≡ Some (Try c.named.place) = subst (λ at. slice_get code.instructions at ≡ Some (Try c.named.place)) h.at_it (h.is.named.begins first) in
    begun-places code q c.named.place begins ∙ choice-places code q.start c h
