-- Places that are kept, and then filled.
use Rattle.std.proofs.Common.{◌≡◌, ℕ, ◌+◌, List, [], ◌∷◌, ◌++◌, map, Some, None, Option, length, slice_set, ap, sym, ◌∙◌, subst, append_assoc, length-append}
use Rattle.std.proofs.lemmas.List.{map-append}
use Rattle.std.specs.Prelude.{Result, Ok, Err, OnOk}
use Rattle.std.proofs.Math.ListN.{set}
use Rattle.std.proofs.Math.Seq.{set-append_seam}
use Rattle.ap_term.specs.Goals.{Clause}
use Rattle.ap_lifting.specs.declared.lifter.Raised.{Raised}
use Rattle.ap_lifting.specs.Body.{Body, disjunction}
use Rattle.ap_lifting.specs.Lifted.{lifted, lifted_clause, raised}
use Rattle.ap_lifting.specs.Lifts.{Lifts}

pub on_ok : {T E P : Type 0} (r : Result T E) → P → OnOk r P
on_ok (Ok x) p = p
on_ok (Err e) p = tt

module _ {A : Type 0} where
  filled : (xs ys : List A) (y v : A) (n : ℕ) → n ≡ length xs → set ((xs ++ y ∷ []) ++ ys) n v ≡ xs ++ v ∷ ys
  filled xs ys y v n e = ap (λ k. set ((xs ++ y ∷ []) ++ ys) k v) e ∙ ap (λ l. set l (length xs) v) (append_assoc xs (y ∷ []) ys) ∙ set-append_seam xs y ys v

  filled_two : (xs ys zs : List A) (y z v w : A) (n m : ℕ) → n ≡ length xs → m ≡ length (xs ++ y ∷ [])
      → set (set (((xs ++ y ∷ []) ++ z ∷ []) ++ ys) n v ++ zs) m w ≡ xs ++ v ∷ w ∷ (ys ++ zs)
  filled_two xs ys zs y z v w n m p q =
      ap (λ l. set (set (l ++ ys) n v ++ zs) m w) (append_assoc xs (y ∷ []) (z ∷ []))
      ∙ ap (λ l. set (set l n v ++ zs) m w) (append_assoc xs (y ∷ z ∷ []) ys)
      ∙ ap (λ k. set (set (xs ++ y ∷ z ∷ ys) k v ++ zs) m w) p
      ∙ ap (λ l. set (l ++ zs) m w) (set-append_seam xs y (z ∷ ys) v)
      ∙ ap (λ l. set l m w) (append_assoc xs (v ∷ z ∷ ys) zs ∙ sym (append_assoc xs (v ∷ []) (z ∷ (ys ++ zs))))
      ∙ ap (λ k. set ((xs ++ v ∷ []) ++ z ∷ (ys ++ zs)) k w) (q ∙ length-append xs (y ∷ []) ∙ sym (length-append xs (v ∷ [])))
      ∙ set-append_seam (xs ++ v ∷ []) z (ys ++ zs) w
      ∙ append_assoc xs (v ∷ []) (w ∷ (ys ++ zs))

module _ (names : ℕ → ℕ) (vars line : ℕ) where
  -- a body from n on, put into a place for a clause of the k-th predicate
  abbrev pub Fills : Body → ℕ → ℕ → ℕ → List (Option Clause) → Raised → Type 0
  Fills b n k place kept new =
      let x = lifted names vars line b [] n in
      (new.next ≡ x.next) × (new.clauses.items ≡ slice_set (kept ++ map Some x.clauses) place (Some (lifted_clause names vars line k x.parts)))

  pub raises : (b : Body) (old new : Raised) (n place : ℕ) (kept : List (Option Clause)) → n ≡ old.next → kept ≡ old.clauses.items ++ None ∷ [] → place ≡ length old.clauses.items
      → Fills b (n + 1) old.next place kept new → Lifts (raised names vars line old.next (lifted names vars line b [] (old.next + 1))) old new
  raises b old new n place kept p q r h =
      let x = lifted names vars line b [] (old.next + 1) in
      let k : Fills b (old.next + 1) old.next place (old.clauses.items ++ None ∷ []) new
      = subst (λ l. Fills b (old.next + 1) old.next place l new) q (subst (λ m. Fills b (m + 1) old.next place kept new) p h)
      in
      record {
        next = k.0;
        clauses = k.1 ∙ filled old.clauses.items (map Some x.clauses) None (Some (lifted_clause names vars line old.next x.parts)) place r;
      }

  pub raises_two : (a b : Body) (old mid new : Raised) (n place next_place : ℕ) (kept : List (Option Clause)) → n ≡ old.next → kept ≡ (old.clauses.items ++ None ∷ []) ++ None ∷ []
      → place ≡ length old.clauses.items → next_place ≡ length (old.clauses.items ++ None ∷ [])
      → Fills a (n + 1) old.next place kept mid → Fills b mid.next old.next next_place mid.clauses.items new
      → Lifts (lifted names vars line (disjunction a b) [] old.next) old new
  raises_two a b old mid new n place next_place kept p q r s h k =
      let x = lifted names vars line a [] (old.next + 1) in
      let first : Fills a (old.next + 1) old.next place ((old.clauses.items ++ None ∷ []) ++ None ∷ []) mid
      = subst (λ l. Fills a (old.next + 1) old.next place l mid) q (subst (λ m. Fills a (m + 1) old.next place kept mid) p h)
      in
      let y = lifted names vars line b [] x.next in
      let second : Fills b x.next old.next next_place (slice_set (((old.clauses.items ++ None ∷ []) ++ None ∷ []) ++ map Some x.clauses) place (Some (lifted_clause names vars line old.next x.parts))) new
      = subst (λ l. Fills b x.next old.next next_place l new) first.1 (subst (λ m. Fills b m old.next next_place mid.clauses.items new) first.0 k)
      in
      record {
        next = second.0;
        clauses =
            second.1
            ∙ filled_two old.clauses.items (map Some x.clauses) (map Some y.clauses) None None (Some (lifted_clause names vars line old.next x.parts)) (Some (lifted_clause names vars line old.next y.parts)) place next_place r s
            ∙ ap (λ l. old.clauses.items ++ Some (lifted_clause names vars line old.next x.parts) ∷ Some (lifted_clause names vars line old.next y.parts) ∷ l) (sym (map-append Some x.clauses y.clauses));
      }
