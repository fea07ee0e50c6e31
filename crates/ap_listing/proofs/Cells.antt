-- One name alone is that of lists' cells.
use Rattle.std.proofs.Common.{◌≡◌, ℕ, ◌<◌, ◌&&◌, ◌==◌, true, List, length, slice_get, codes, Option, Some, None, ap, ap₂, sym, ◌∙◌}
use Rattle.std.proofs.lemmas.Bool.{false≢true, and_parts}
use Rattle.std.proofs.lemmas.Bool.Decides.{Decides-eqb}
use Rattle.std.proofs.lemmas.Option.{slice_get_within}
use Rattle.std.proofs.lemmas.Slice.Eq.{bytes_eq-Decides}
use Rattle.std.specs.Str.{bytes_eq}
use Rattle.ap_term.specs.AtomTable.{IsWithoutRepeats}
use Rattle.ap_writer.specs.Text.{name_at, or_empty}
use Rattle.ap_writer.proofs.Unmarked.{place_of, place-at}
use Rattle.ap_index.specs.declared.key.Key.{Key}
use Rattle.ap_index.specs.declared.key.Key.TheVariants.{Atom, Integer, Structure}
use Rattle.ap_index.specs.Keys.{same_key}
use Rattle.ap_listing.specs.Switch.{is_cell}

held_by : (names : List (List ℕ)) (f : ℕ) (o : Option (List ℕ)) → slice_get names f ≡ o → or_empty o ≡ codes "." → f < length names
held_by names f None s e = absurd (let z : ⊥ = cc in z)
held_by names f (Some x) s e = slice_get_within names f x s

cell_place : (names : List (List ℕ)) (f : ℕ) → IsWithoutRepeats names → bytes_eq (name_at names f) (codes ".") ≡ true → f ≡ place_of names (codes ".")
cell_place names f once e =
    let x : name_at names f ≡ codes "." = (bytes_eq-Decides (name_at names f) (codes ".")).0 e in
    sym (place-at names f once (held_by names f (slice_get names f) (λ i. slice_get names f) x)) ∙ ap (place_of names) x

pub one_cell : (names : List (List ℕ)) → IsWithoutRepeats names → (j k : Key) → is_cell names j ≡ true → is_cell names k ≡ true → same_key j k ≡ true
one_cell names once (Structure f n) (Structure g m) a b =
    let p = and_parts (bytes_eq (name_at names f) (codes ".")) (n == 2) a in
    let q = and_parts (bytes_eq (name_at names g) (codes ".")) (m == 2) b in
    ap₂ (λ x y. x && y) ((Decides-eqb f g).1 (cell_place names f once p.0 ∙ sym (cell_place names g once q.0)))
    ((Decides-eqb n m).1 ((Decides-eqb n 2).0 p.1 ∙ sym ((Decides-eqb m 2).0 q.1)))
one_cell names once (Structure f n) (Atom c) a b = absurd (false≢true b)
one_cell names once (Structure f n) (Integer z) a b = absurd (false≢true b)
one_cell names once (Atom c) k a b = absurd (false≢true a)
one_cell names once (Integer z) k a b = absurd (false≢true a)
