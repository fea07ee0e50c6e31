-- Which clauses are left for a key.
use Rattle.std.proofs.Common.{◌≡◌, ℕ, zero, suc, ◌+◌, Bool, true, false, ◌==◌, List, [], ◌∷◌, ◌++◌, length, slice_get, Option, Some, None, refl, ap, sym, ◌∙◌, subst, eq-eqb}
use Rattle.std.proofs.lemmas.Bool.{false≢true}
use Rattle.std.specs.Prelude.{if◌then◌else◌}
use Rattle.ap_instr.specs.declared.instruction.Instr.TheVariants.{Try, Retry, Trust}
use Rattle.ap_instr.specs.Code.{Compiled}
use Rattle.ap_instr.specs.StandsFor.{tried}
use Rattle.ap_index.specs.declared.key.Key.{Key}
use Rattle.ap_index.specs.declared.key.Keyed.{Keyed}
use Rattle.ap_index.specs.Keys.{same_key, key_at, IsKeyed}
use Rattle.ap_index.specs.Hashing.{slot_of}
use Rattle.ap_index.specs.declared.row.Row.{Row}
use Rattle.ap_index.specs.declared.row.Link.{Link}
use Rattle.ap_index.specs.declared.rows.Entry.{Entry}
use Rattle.ap_index.specs.declared.rows.Entry.TheVariants.{Nothing, Begins, Rest, Behind}
use Rattle.ap_index.specs.declared.row.TheConstants.{NONE}
use Rattle.ap_index.specs.Index.{LeavesOthers, LeavesOne, named, tried_from, named_from, place_or_none, in_slot, first_for, only_for, only_before, IsFilled, IsRowOf, IsLinkOf, IsEntryOf, IsNamedBy}
use Rattle.ap_index.specs.Pairs.{ArePairsOf}
use Rattle.ap_index.proofs.Same.{true-same}
use Rattle.ap_term.proofs.Lists.{slice_get-push, drop-here}

-- a choice for a key was put first in its slot
abbrev pub PutsFirst : Key → ℕ → Row → Row → Type 0
PutsFirst asked at old new = (key : Key) → first_for new key ≡ (if slot_of key old.count == slot_of asked old.count then Some at else first_for old key)

-- and its clause is the only one there, where none was
abbrev pub PutsOnly : Keyed → Row → Row → Type 0
PutsOnly k old new = (key : Key) → only_for new key ≡ (if slot_of key old.count == slot_of k.key old.count then only_before (first_for old key) k.clause else only_for old key)

-- a place is that place
pub same-place : (l one : ℕ) → place_or_none l ≡ Some one → one ≡ l
same-place l one = go (l == NONE)
  where
    go : (b : Bool) → (if b then None else Some l) ≡ Some one → one ≡ l
    go true e = absurd (let z : ⊥ = cc in z)
    go false e = cc

module _ (code : Compiled) (key : Key) where
  leaves-all : (ls rest : List ℕ) → ls ≡ rest → LeavesOthers code key ls rest
  leaves-all ls rest e = record { passed = []; are = e; others = tt }

  -- one more clause before those
  leaves-one : (asked : Key) (l : ℕ) (ls rest : List ℕ) → key_at code l ≡ Some asked → same_key asked key ≡ false → LeavesOthers code key ls rest → LeavesOthers code key (l ∷ ls) rest
  leaves-one asked l ls rest asks other h = record {
    passed = l ∷ h.passed;
    are = ap (λ ks. l ∷ ks) h.are;
    others = (record { asked = asked; asks = asks; other = other }, h.others);
  }

  -- keys of other slots are others
  apart : (asked : Key) (slots : ℕ) (b : Bool) → same_key asked key ≡ b → (slot_of key slots == slot_of asked slots) ≡ false → same_key asked key ≡ false
  apart asked slots false s e = s
  apart asked slots true s e = absurd (false≢true (sym e ∙ eq-eqb (slot_of key slots) (slot_of asked slots) (ap (λ k. slot_of k slots) (sym (true-same asked key s)))))

  -- a choice comes first for the keys of its slot, and its clause is left out for the others
  next : (asked : Key) (slots l at : ℕ) (first : Option ℕ) (ls : List ℕ) (from : Option ℕ → List ℕ) → key_at code l ≡ Some asked → from (Some at) ≡ l ∷ ls → LeavesOthers code key ls (from first)
      → (b : Bool) → (slot_of key slots == slot_of asked slots) ≡ b → LeavesOthers code key (l ∷ ls) (from (if b then Some at else first))
  next asked slots l at first ls from asks here h true e = leaves-all (l ∷ ls) (from (Some at)) (sym here)
  next asked slots l at first ls from asks here h false e = leaves-one asked l ls (from first) asks (apart asked slots (same_key asked key) refl e) h

  -- where that choice was put into a row
  put-leaves : (asked : Key) (old new : Row) (l at : ℕ) (ls : List ℕ) (from : Option ℕ → List ℕ) → key_at code l ≡ Some asked → from (Some at) ≡ l ∷ ls → LeavesOthers code key ls (from (first_for old key)) → PutsFirst asked at old new
      → LeavesOthers code key (from (Some at)) (from (first_for new key))
  put-leaves asked old new l at ls from asks here h put =
      subst (λ ks. LeavesOthers code key ks (from (first_for new key))) (sym here)
      (subst (λ first. LeavesOthers code key (l ∷ ls) (from first)) (sym (put key)) (next asked old.count l at (first_for old key) ls from asks here h (slot_of key old.count == slot_of asked old.count) refl))

-- ---- the only clause

module _ (code : Compiled) (key : Key) where
  -- one more clause, which is left out, before those
  one-before : (asked : Key) (l : ℕ) (ls : List ℕ) (one : ℕ) → key_at code l ≡ Some asked → same_key asked key ≡ false → LeavesOne code key ls one → LeavesOne code key (l ∷ ls) one
  one-before asked l ls one asks other h = record { behind = h.behind; leads = leaves-one code key asked l ls (one ∷ h.behind) asks other h.leads; others = h.others }

  -- a clause before those of which none is left
  one-here : (l one : ℕ) (ls : List ℕ) (first : Option ℕ) → LeavesOthers code key ls (tried_from code first) → only_before first l ≡ Some one → LeavesOne code key (l ∷ ls) one
  one-here l one ls None h e = record { behind = ls; leads = leaves-all code key (l ∷ ls) (one ∷ ls) (ap (λ k. k ∷ ls) (sym (same-place l one e))); others = h }
  one-here l one ls (Some at) h e = absurd (let z : ⊥ = cc in z)

  -- where a choice was put into a row
  put-alone : (k : Keyed) (old new : Row) (all ls : List ℕ) (one : ℕ) → key_at code k.clause ≡ Some k.key → all ≡ k.clause ∷ ls → LeavesOthers code key ls (tried_from code (first_for old key))
      → ((o : ℕ) → only_for old key ≡ Some o → LeavesOne code key ls o) → PutsOnly k old new → only_for new key ≡ Some one → LeavesOne code key all one
  put-alone k old new all ls one asks here h before put e = subst (λ ks. LeavesOne code key ks one) (sym here) (go (slot_of key old.count == slot_of k.key old.count) refl (sym (put key) ∙ e))
    where
      go : (b : Bool) → (slot_of key old.count == slot_of k.key old.count) ≡ b → (if b then only_before (first_for old key) k.clause else only_for old key) ≡ Some one → LeavesOne code key (k.clause ∷ ls) one
      go true s e = one-here k.clause one ls (first_for old key) h e
      go false s e = one-before k.key k.clause ls one asks (apart code key k.key old.count (same_key k.key key) refl s) (before one e)

-- a choice that is put behind the `try`
module _ (code : Compiled) (at : ℕ) (here : named_from code (Some at) ≡ tried_from code (Some at)) where
  either : (b : Bool) (o : Option ℕ) → named_from code o ≡ tried_from code o → named_from code (if b then Some at else o) ≡ tried_from code (if b then Some at else o)
  either true o h = here
  either false o h = h

  put-behind : (asked : Key) (old new : Row) (key : Key) → named_from code (first_for old key) ≡ tried_from code (first_for old key) → PutsFirst asked at old new → named_from code (first_for new key) ≡ tried_from code (first_for new key)
  put-behind asked old new key h put =
      subst (λ first. named_from code first ≡ tried_from code first) (sym (put key)) (either (slot_of key old.count == slot_of asked old.count) (first_for old key) h)

-- what choices name
module _ (code : Compiled) (at l : ℕ) where
  pub trust-last : slice_get code.instructions at ≡ Some (Trust l) → tried_from code (Some at) ≡ l ∷ []
  trust-last e = ap tried (drop-here code.instructions at (Trust l) e)

  retry-more : slice_get code.instructions at ≡ Some (Retry l) → tried_from code (Some at) ≡ l ∷ tried_from code (Some (at + 1))
  retry-more e = ap tried (drop-here code.instructions at (Retry l) e)

  try-more : slice_get code.instructions at ≡ Some (Try l) → named_from code (Some at) ≡ l ∷ tried_from code (Some (at + 1))
  try-more e = ap named (drop-here code.instructions at (Try l) e)

  pub trust-named : slice_get code.instructions at ≡ Some (Trust l) → named_from code (Some at) ≡ tried_from code (Some at)
  trust-named e = ap named (drop-here code.instructions at (Trust l) e) ∙ sym (ap tried (drop-here code.instructions at (Trust l) e))

  pub retry-named : slice_get code.instructions at ≡ Some (Retry l) → named_from code (Some at) ≡ tried_from code (Some at)
  retry-named e = ap named (drop-here code.instructions at (Retry l) e) ∙ sym (ap tried (drop-here code.instructions at (Retry l) e))

-- what is known of a choice at a place by the instruction there
module _ (code : Compiled) (at l : ℕ) where
  pub try-names : slice_get code.instructions at ≡ Some (Try l) → IsNamedBy code at (record { place = l; behind = Some (at + 1); is_first = true })
  try-names e = record { names = try-more code at l e; begins = λ h. e; goes_on = λ h. absurd (false≢true (sym h)) }

  pub retry-names : slice_get code.instructions at ≡ Some (Retry l) → IsNamedBy code at (record { place = l; behind = Some (at + 1); is_first = false })
  retry-names e = record {
    names = retry-named code at l e ∙ retry-more code at l e;
    begins = λ h. absurd (false≢true h);
    goes_on = λ h. retry-named code at l e;
  }

  pub trust-names : slice_get code.instructions at ≡ Some (Trust l) → IsNamedBy code at (record { place = l; behind = None; is_first = false })
  trust-names e = record {
    names = trust-named code at l e ∙ trust-last code at l e;
    begins = λ h. absurd (false≢true h);
    goes_on = λ h. trust-named code at l e;
  }

-- a link leads where the row did for its key
pub row-link : (code : Compiled) (from : ℕ) (row : Row) (asked : Key) (l : Link) → l.count ≡ row.count → l.slot ≡ slot_of asked row.count → l.next ≡ first_for row asked
    → IsFilled code from row → IsLinkOf code from l
row-link code from row asked l count slot next filled = λ key same.
    let e : slot_of key row.count ≡ slot_of asked row.count = ap (slot_of key) (sym count) ∙ same ∙ slot in
    subst (λ first. LeavesOthers code key (tried_from code (Some from)) (tried_from code first)) (ap (in_slot row) e ∙ sym next) (filled.leads key)

-- a choice behind the `try` more
pub filled-more : (code : Compiled) (at : ℕ) (k : Keyed) → IsKeyed code at (λ clause. Retry clause) k → (old new : Row) → IsFilled code (at + 1) old → PutsFirst k.key at old new → PutsOnly k old new → IsFilled code at new
filled-more code at k is old new h put only = record {
  leads = λ key. put-leaves code key k.key old new k.clause at (tried_from code (Some (at + 1))) (tried_from code) is.asks (retry-more code at k.clause is.names) (h.leads key) put;
  behind_try = λ key. put-behind code at (retry-named code at k.clause is.names) k.key old new key (h.behind_try key) put;
  alone = λ key one e. put-alone code key k old new _ (tried_from code (Some (at + 1))) one is.asks (retry-more code at k.clause is.names) (h.leads key) (h.alone key) only e;
}

-- the last choice
pub filled-last : (code : Compiled) (at : ℕ) (k : Keyed) → IsKeyed code at (λ clause. Trust clause) k → (old new : Row) → ((key : Key) → first_for old key ≡ None) → ((key : Key) → only_for old key ≡ place_or_none NONE) → PutsFirst k.key at old new → PutsOnly k old new
    → IsFilled code at new
filled-last code at k is old new empty none put only =
    let nothing : (key : Key) → LeavesOthers code key [] (tried_from code (first_for old key)) = λ key. leaves-all code key [] (tried_from code (first_for old key)) (sym (ap (tried_from code) (empty key))) in
    record {
      leads = λ key. put-leaves code key k.key old new k.clause at [] (tried_from code) is.asks (trust-last code at k.clause is.names) (nothing key) put;
      behind_try = λ key.
          put-behind code at (trust-named code at k.clause is.names) k.key old new key
          (subst (λ first. named_from code first ≡ tried_from code first) (sym (empty key)) refl) put;
      alone = λ key one e.
          put-alone code key k old new _ [] one is.asks (trust-last code at k.clause is.names) (nothing key)
          (λ o f. absurd (let g = sym (none key) ∙ f in let z : ⊥ = cc in z)) only e;
    }

-- the `try`
pub filled-first : (code : Compiled) (at : ℕ) (k : Keyed) → IsKeyed code at (λ clause. Try clause) k → (old new : Row) → IsFilled code (at + 1) old → PutsFirst k.key at old new → PutsOnly k old new
    → ArePairsOf code (named_from code (Some at)) new.pairs → IsRowOf code at new
filled-first code at k is old new h put only pairs = record {
  clause = k.clause;
  begins = is.names;
  leads = λ key.
      put-leaves code key k.key old new k.clause at (tried_from code (Some (at + 1))) (named_from code) is.asks (try-more code at k.clause is.names)
      (subst (LeavesOthers code key (tried_from code (Some (at + 1)))) (sym (h.behind_try key)) (h.leads key)) put;
  alone = λ key one e. put-alone code key k old new _ (tried_from code (Some (at + 1))) one is.asks (try-more code at k.clause is.names) (h.leads key) (h.alone key) only e;
  pairs = pairs;
}

-- what a list has at a place it has there with more behind it
has-more : {X : Type 0} (xs ys : List X) (n : ℕ) (x : X) → slice_get xs n ≡ Some x → slice_get (xs ++ ys) n ≡ Some x
has-more [] ys n x e = absurd (let z : ⊥ = cc in z)
has-more (y ∷ xs) ys zero x e = e
has-more (y ∷ xs) ys (suc n) x e = has-more xs ys n x e

-- what was pushed stands at the number of those before it
pub pushed-is : {X : Type 0} (xs ys : List X) (x : X) (n : ℕ) → ys ≡ xs ++ x ∷ [] → n ≡ length xs → slice_get ys n ≡ Some x
pushed-is xs ys x n e l = ap (slice_get ys) l ∙ ap (λ zs. slice_get zs (length xs)) e ∙ slice_get-push xs x

-- what holds of each of some, and of one more behind them, holds of all
pub one-more : {X : Type 0} (P : X → Type 0) (xs : List X) (x : X) → ((n : ℕ) (y : X) → slice_get xs n ≡ Some y → P y) → P x → (n : ℕ) (y : X) → slice_get (xs ++ x ∷ []) n ≡ Some y → P y
one-more P [] x h p zero y e = subst P (let z : x ≡ y = cc in z) p
one-more P [] x h p (suc n) y e = absurd (let z : ⊥ = cc in z)
one-more P (w ∷ ws) x h p zero y e = h zero y e
one-more P (w ∷ ws) x h p (suc n) y e = one-more P ws x (λ m. h (suc m)) p n y e

-- an entry stays right with more rows
pub more-rows : (code : Compiled) (rs new : List Row) (r : Row) (ls : List Link) (from : ℕ) (e : Entry) → new ≡ rs ++ r ∷ [] → IsEntryOf code rs ls from e → IsEntryOf code new ls from e
more-rows code rs new r ls from Nothing q h = h
more-rows code rs new r ls from (Begins n) q h = (h.0, ap (λ rows. slice_get rows n) q ∙ has-more rs (r ∷ []) n h.0 h.1, h.2)
more-rows code rs new r ls from (Rest n) q h = (h.0, ap (λ rows. slice_get rows n) q ∙ has-more rs (r ∷ []) n h.0 h.1, h.2)
more-rows code rs new r ls from (Behind n) q h = h

-- and with more links
pub more-links : (code : Compiled) (rs : List Row) (ls new : List Link) (l : Link) (from : ℕ) (e : Entry) → new ≡ ls ++ l ∷ [] → IsEntryOf code rs ls from e → IsEntryOf code rs new from e
more-links code rs ls new l from Nothing q h = h
more-links code rs ls new l from (Begins n) q h = h
more-links code rs ls new l from (Rest n) q h = h
more-links code rs ls new l from (Behind n) q h = (h.0, ap (λ links. slice_get links n) q ∙ has-more ls (l ∷ []) n h.0 h.1, h.2)
