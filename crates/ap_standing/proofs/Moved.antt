-- What a machine stands for stays the same while no goal is called.
use Rattle.std.proofs.Common.{ℕ, ◌<◌, List, [], ◌∷◌, length, refl, ◌∙◌, subst}
use Rattle.std.specs.List.{AllByRecursion}
use Rattle.ap_tracked.specs.Sets.{SameSet}
use Rattle.ap_term.specs.Tuples.{tuple_under}
use Rattle.ap_match.proofs.Tuples.{tuple_under-agree}
use Rattle.ap_term.specs.Tree.{Tree, Trees, none, append_trees}
use Rattle.ap_term.proofs.Facts.{funext}
use Rattle.ap_cells.specs.declared.cells.Raw.{Raw}
use Rattle.ap_cells.specs.Trees.{tree_at, trees}
use Rattle.ap_instr.specs.Code.{Compiled}
use Rattle.ap_instr.specs.Step.{Step}
use Rattle.ap_instr.specs.Steps.{steps_from}
use Rattle.ap_instr.specs.Runs.{Runs, lost}
use Rattle.ap_match.specs.Fits.{Agree}
use Rattle.ap_match.proofs.Maps.{fits-own}
use Rattle.ap_steps.specs.Moves.{held, Moves, IsStuck}
use Rattle.ap_steps.specs.Standing.{Return, Standing, Waits, AtCall, InCode}
use Rattle.ap_standing.specs.Holds.{AtReturn, AreOpen}
use Rattle.ap_standing.specs.Machine.{AreWithin}

-- ---- maps that agree on places

pub Waits-agree : (code : Compiled) (n : ℕ) (k l : ℕ → Tree) → Agree n k l → (ws : List Return) (roots : List ℕ) → AreWithin n ws → AllByRecursion (λ r. r < n) roots
    → (qs t : Trees) → Waits code ws roots k qs t → Waits code ws roots l qs t
Waits-agree code n k l a [] roots hw hr qs t m = (m.0, m.1 ∙ tuple_under-agree n k l a roots hr)
Waits-agree code n k l a (w ∷ ws) roots hw hr qs t m = (
  m.0,
  m.1,
  subst (λ y. Runs (steps_from code w.place) none lost y m.0) (funext (λ v. k (held w.y v)) (λ v. l (held w.y v)) (λ v. a (held w.y v) (hw.0 v))) m.2,
  m.3,
  Waits-agree code n k l a ws roots hw.1 hr m.1 t m.4,
)

-- ---- instructions that are no calls

pub moved : (code : Compiled) (cs ds : List Raw) (ws : List Return) (roots : List ℕ) (x y x' y' : ℕ → ℕ) (js is : List Step) → Moves cs x y js ds x' y' is
    → AreWithin (length cs) ws → AllByRecursion (λ r. r < length cs) roots
    → SameSet (InCode code (record { cells = ds; returns = ws; roots = roots }) x' y' is) (InCode code (record { cells = cs; returns = ws; roots = roots }) x y js)
moved code cs ds ws roots x y x' y' js is m hw hr gs t = (
  λ h.
      let b = m.back h.0 h.1 (h.3, h.4) in
      (h.0, h.1, h.2, b.0, b.1, h.5, h.6),
  λ h.
      let f = m.forth h.0 h.1 (h.3, h.4) in
      (f.0, h.1, h.2, f.2.0, f.2.1, h.5, Waits-agree code (length cs) h.0 f.0 f.1 ws roots hw hr h.2 t h.6),
)

pub stuck : (code : Compiled) (cs : List Raw) (ws : List Return) (roots : List ℕ) (x y : ℕ → ℕ) (js : List Step) → IsStuck cs x y js
    → (gs t : Trees) → InCode code (record { cells = cs; returns = ws; roots = roots }) x y js gs t → ⊥
stuck code cs ws roots x y js s gs t h = s h.0 h.1 (h.3, h.4)

-- ---- there is something that the machine stands for

pub some-waits : (code : Compiled) (k : ℕ → Tree) (ws : List Return) (roots : List ℕ) → AreOpen code ws → (qs t : Trees) × Waits code ws roots k qs t
some-waits code k [] roots o = (none, tuple_under k roots, (refl, refl))
some-waits code k (w ∷ ws) roots o =
    let b = o.0 lost (λ v. k (held w.y v)) in
    let r = some-waits code k ws roots o.2 in
    (append_trees b.0 r.0, r.1, (b.0, r.0, b.1, refl, r.2))

pub some-call : (code : Compiled) (s : Standing) (x : ℕ → ℕ) (p n : ℕ) → AreOpen code s.returns → (gs t : Trees) × AtCall code s x p n gs t
some-call code s x p n o =
    let k : ℕ → Tree = tree_at (trees s.cells) in
    let r = some-waits code k s.returns s.roots o in
    (_, r.1, (k, r.0, fits-own s.cells, refl, r.2))

pub some-return : (code : Compiled) (s : Standing) → AreOpen code s.returns → (gs t : Trees) × AtReturn code s gs t
some-return code s o =
    let k : ℕ → Tree = tree_at (trees s.cells) in
    let r = some-waits code k s.returns s.roots o in
    (r.0, r.1, (k, fits-own s.cells, r.2))
