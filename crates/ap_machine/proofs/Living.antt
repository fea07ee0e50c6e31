-- Choice points that are kept for a clause whose head unifies with the call.
use Rattle.std.proofs.Common.{◌≡◌, ℕ, List, [], ◌∷◌, ◌++◌, refl, ap, sym, ◌∙◌, subst}
use Rattle.std.specs.List.{AllByRecursion}
use Rattle.ap_tracked.specs.Sets.{IsSetOf}
use Rattle.ap_term.specs.Tree.{Tree, Trees, append_trees}
use Rattle.ap_term.proofs.Facts.{funext}
use Rattle.ap_tracked.specs.Tracked.{Tracked}
use Rattle.ap_cells.specs.declared.cells.Raw.{Raw}
use Rattle.ap_instr.specs.Code.{Compiled}
use Rattle.ap_steps.specs.Moves.{held}
use Rattle.ap_steps.specs.Standing.{InCode}
use Rattle.ap_instr.specs.Steps.{steps_from}
use Rattle.ap_standing.specs.Machine.{Point, Now, calling, inside, returning, failed, Machine, standing_at, places_from}
use Rattle.ap_standing.specs.Holds.{HoldsPoints}
use Rattle.ap_standing.proofs.Machines.{a-state}
use Rattle.ap_standing.proofs.Moved.{some-waits}
use Rattle.ap_standing.proofs.Turns.{Split, split}
use Rattle.ap_control.specs.Taking.{CanTake}
use Rattle.ap_machine.specs.Choices.{AtNewest}
use Rattle.ap_machine.specs.Live.{IsLive, kept_points, AreLive, KeepsLive, UnifiesAtNewest}

-- ---- machines with the same choice points

-- where control isn't back at the newest one all are kept
abbrev pub KeepsAll : Now → Type 0
KeepsAll now = (qs : List Point) → kept_points now qs ≡ qs

all-kept : (P : Point → Type 0) (now : Now) (qs : List Point) → AllByRecursion P qs → AllByRecursion P (kept_points now qs)
all-kept P (calling number) qs h = h
all-kept P (inside at) qs h = h
all-kept P returning qs h = h
all-kept P failed [] h = tt
all-kept P failed (q ∷ qs) h = h.1

fewest-kept : (P : Point → Type 0) (now : Now) (qs : List Point) → AllByRecursion P (kept_points now qs) → AllByRecursion P (kept_points failed qs)
fewest-kept P (calling number) qs h = all-kept P failed qs h
fewest-kept P (inside at) qs h = all-kept P failed qs h
fewest-kept P returning qs h = all-kept P failed qs h
fewest-kept P failed qs h = h

-- all choice points of a machine are live
pub all-live : (code : Compiled) (m : Machine) (now : Now) → m.now ≡ now → KeepsAll now → AreLive code m → AllByRecursion (IsLive code) m.points
all-live code m now e all h = subst (AllByRecursion (IsLive code)) (all m.points) (subst (λ n. AllByRecursion (IsLive code) (kept_points n m.points)) e h)

pub live-points : (code : Compiled) (m : Machine) → AllByRecursion (IsLive code) m.points → AreLive code m
live-points code m h = all-kept (IsLive code) m.now m.points h

pub live-none : (code : Compiled) (m : Machine) → m.points ≡ [] → AreLive code m
live-none code m e = live-points code m (subst (AllByRecursion (IsLive code)) (sym e) tt)

pub live-on : (code : Compiled) (m m' : Machine) (now : Now) → m.now ≡ now → KeepsAll now → m'.points ≡ m.points → KeepsLive code m m'
live-on code m m' now e all ep h = live-points code m' (subst (AllByRecursion (IsLive code)) (sym ep) (all-live code m now e all h))

pub live-failed : (code : Compiled) (m m' : Machine) → m'.now ≡ failed → m'.points ≡ m.points → KeepsLive code m m'
live-failed code m m' e ep h =
    subst (λ n. AllByRecursion (IsLive code) (kept_points n m'.points)) (sym e)
    (subst (λ qs. AllByRecursion (IsLive code) (kept_points failed qs)) (sym ep) (fewest-kept (IsLive code) m.now m.points h))

pub live-still : (code : Compiled) (m m' : Machine) → m'.now ≡ m.now → m'.points ≡ m.points → KeepsLive code m m'
live-still code m m' e ep h =
    subst (λ n. AllByRecursion (IsLive code) (kept_points n m'.points)) (sym e) (subst (λ qs. AllByRecursion (IsLive code) (kept_points m.now qs)) (sym ep) h)

-- ---- the newest choice point

-- a clause that can be taken where the newest choice point was made
pub unifies-at : (code : Compiled) (m : Machine) → AtNewest m → (place : ℕ) → CanTake code m.cells (held m.x) place → UnifiesAtNewest code m place
unifies-at code m at place takes q qs e =
    let same : at.point ≡ q = let f : at.point ∷ at.others ≡ q ∷ qs = sym at.points ∙ e in cc in
    let x : ◌≡◌ {A = ℕ → ℕ} (held m.x) (held q.arguments) = funext (held m.x) (held q.arguments) (λ n. at.x n ∙ ap (λ (p : Point). held p.arguments n) same) in
    subst (λ f. CanTake code q.cells f place) x (subst (λ (cs : List Raw). CanTake code cs (held m.x) place) (at.cells ∙ ap (λ (p : Point). p.cells) same) takes)

-- another choice point or none is the newest one, which is kept
pub UnifiesAtNewest-same : (code : Compiled) (m m' : Machine) → m'.points ≡ m.points → (place : ℕ) → UnifiesAtNewest code m' place → UnifiesAtNewest code m place
UnifiesAtNewest-same code m m' e place h q qs is = h q qs (e ∙ is)

-- ---- what is left

-- of a choice point that is kept for a clause that can be taken a state is left
pub some-left : (code : Compiled) (roots : List ℕ) (q : Point) (qs : List Point) → IsLive code q → (ss : List Tracked) → HoldsPoints code roots (q ∷ qs) ss → ss ≡ [] → ⊥
some-left code roots q qs live ss h none_left =
    let s : Split code roots q q.place (places_from code q.behind) qs ss = split code roots q q.place (places_from code q.behind) qs ss h in
    let takes = live s.openly in
    let y : ℕ → ℕ = takes.0 in
    let k : ℕ → Tree = takes.1.0 in
    let r = some-waits code k q.returns roots s.returns in
    let I : Trees → Trees → Type 0 = InCode code (standing_at roots q) (held q.arguments) y (steps_from code q.place) in
    let some : (gs t : Trees) × I gs t = (append_trees takes.1.1 r.0, r.1, (k, takes.1.1, r.0, takes.1.2.0, takes.1.2.1, refl, r.2)) in
    let is : IsSetOf I s.here = s.is_set (held q.arguments) y (λ n w a b. refl) in
    let a = a-state I s.here is some in
    let e : a.0 ∷ s.left ≡ [] = sym (s.same ∙ ap (λ us. us ++ s.left) a.1) ∙ none_left in
    let z : ⊥ = cc in z
