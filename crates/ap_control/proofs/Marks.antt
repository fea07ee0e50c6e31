-- Going back to a mark.
use Rattle.std.proofs.Common.{◌≡◌, ℕ, ◌+◌, ◌<◌, ◌≤◌, List, [], ◌∷◌, length, drop, get_or, refl, ap, sym, ◌∙◌, arith}
use Rattle.std.proofs.lemmas.List.{length-take, length-drop, get_or-drop, get_or-set_same, take_all}
use Rattle.ap_cells.specs.declared.cells.Raw.TheVariants.{Free}
use Rattle.ap_cells.specs.Store.{Store, freed, undone, IsMark, IsTrail, Keeps}
use Rattle.ap_cells.proofs.Stores.{freed-length}

-- a mark that leads back to the very cells is one of all the cells and of the whole trail
pub mark-whole : (v : Store) (n t : ℕ) → IsTrail v.cells v.trail → IsMark v.cells v.trail n t → undone v n t ≡ v.cells → (n ≡ length v.cells) × (t ≡ length v.trail)
mark-whole v n t trail mark e = (cells_whole, trail_whole)
  where
    cells_whole : n ≡ length v.cells
    cells_whole =
        let l = ap length e in
        let k = length-take n (freed (drop t v.trail) v.cells) in
        let m = freed-length (drop t v.trail) v.cells in
        let f : n ≤ length v.cells = mark.fewer in
        omega arith

    all_cells : freed (drop t v.trail) v.cells ≡ v.cells
    all_cells = sym (take_all n (freed (drop t v.trail) v.cells) (let m = freed-length (drop t v.trail) v.cells in let c = cells_whole in omega arith)) ∙ e

    go : (xs : List ℕ) → drop t v.trail ≡ xs → t ≡ length v.trail
    go [] d = let l = ap length d in let k = length-drop t v.trail in let f : t ≤ length v.trail = mark.earlier in omega arith
    go (x ∷ xs) d =
        let l = ap length d in
        let k = length-drop t v.trail in
        let here : x ≡ get_or v.trail t 0 = ap (λ ys. get_or ys 0 0) (sym d) ∙ get_or-drop t v.trail 0 0 ∙ ap (λ m. get_or v.trail m 0) (let q : t + 0 ≡ t = omega arith in q) in
        let below : get_or v.trail t 0 < length v.cells = trail.below t (omega arith) in
        let m = freed-length xs v.cells in
        let free_here : get_or (freed (x ∷ xs) v.cells) x Free ≡ Free = get_or-set_same (freed xs v.cells) x Free Free (omega arith) in
        let same : get_or v.cells x Free ≡ Free = ap (λ cs. get_or cs x Free) (sym (ap (λ ys. freed ys v.cells) (sym d) ∙ all_cells)) ∙ free_here in
        absurd (trail.bound t Free (omega arith) (ap (λ y. get_or v.cells y Free) (sym here) ∙ same))

    trail_whole : t ≡ length v.trail
    trail_whole = go (drop t v.trail) refl

-- what was kept since a mark of this very moment, and then taken back to it, is as it was
pub back-to : (v w u : Store) (n t : ℕ) → IsTrail v.cells v.trail → IsMark v.cells v.trail n t → undone v n t ≡ v.cells → Keeps v w → u.cells ≡ undone w n t
    → ((a b : ℕ) → a ≤ n → b ≤ t → IsMark w.cells w.trail a b → IsMark u.cells u.trail a b) → ((a b : ℕ) → a ≤ n → b ≤ t → IsMark w.cells w.trail a b → undone u a b ≡ undone w a b)
    → Keeps v u × (u.cells ≡ v.cells)
back-to v w u n t trail mark e keeps cells older leads =
    let whole = mark-whole v n t trail mark e in (
      record {
        stays = λ a b m. older a b (fewer whole m) (earlier whole m) (keeps.stays a b m);
        leads = λ a b m. leads a b (fewer whole m) (earlier whole m) (keeps.stays a b m) ∙ keeps.leads a b m;
      },
      cells ∙ keeps.leads n t mark ∙ e,
    )
  where
    fewer : {a b : ℕ} → (n ≡ length v.cells) × (t ≡ length v.trail) → IsMark v.cells v.trail a b → a ≤ n
    fewer {a} w m = let f : a ≤ length v.cells = m.fewer in omega (arith, w.0)

    earlier : {a b : ℕ} → (n ≡ length v.cells) × (t ≡ length v.trail) → IsMark v.cells v.trail a b → b ≤ t
    earlier {a} {b} w m = let f : b ≤ length v.trail = m.earlier in omega (arith, w.1)

pub Keeps-refl : (u : Store) → Keeps u u
Keeps-refl u = record { stays = λ n t m. m; leads = λ n t m. refl }
