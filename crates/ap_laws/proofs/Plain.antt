-- Plain states: lists of goals, and the ways on of a program's plain form.
use Rattle.std.proofs.Common.{◌≡◌, ℕ, ◌+◌, true, false, List, [], ◌∷◌, Option, Some, None, refl}
use Rattle.std.proofs.lemmas.Bool.{or_left}
use Rattle.ap_term.specs.Tuples.{arguments}
use Rattle.ap_term.specs.Tree.{Tree, Trees, var, int, atom, node, none, more, append_trees}
use Rattle.ap_term.specs.Vars.{occurs, occurs_all, Local, LocalAll}
use Rattle.ap_term.specs.Goals.{Part, call, group, Program, plain_goals}
use Rattle.ap_term.specs.WellFormed.{IsProgram}
use Rattle.ap_term.specs.declared.faults.Fault.{Fault}
use Rattle.ap_term.specs.Search.{Way, ways}
use Rattle.ap_term.proofs.Solutions.{same_test}
use Rattle.ap_term.proofs.Locals.{LocalAll-each, LocalAll-append_trees}
use Rattle.ap_laws.specs.Renaming.{RenamedAll, RenamedParts, Linked, RenamedWay, LocalParts, LocalWay}
use Rattle.ap_laws.specs.Plain.{way_by, plain_way, plain_ways, Renames, Locals, RenamedPlainWay, LocalPlainWay}
use Rattle.ap_term.proofs.Zips.{AllZip-map, AllByRecursion-map}
use Rattle.ap_laws.proofs.Ways.{Renamed-ways, Local-ways}

-- ---- lists of goals

pub RenamedAll-append_trees : (R : ℕ → ℕ → Type 0) (ts us vs ws : Trees) → RenamedAll R ts us → RenamedAll R vs ws → RenamedAll R (append_trees ts vs) (append_trees us ws)
RenamedAll-append_trees R none none vs ws h k = k
RenamedAll-append_trees R (more t ts) (more u us) vs ws h k = (h.0, RenamedAll-append_trees R ts us vs ws h.1 k)
RenamedAll-append_trees R _ _ vs ws h k = absurd h

-- ---- a goal's arguments have its variables

pub Local-arguments_self : (g : Tree) → Local (λ x. occurs_all x (arguments g) ≡ true) g
Local-arguments_self (var x) = or_left (occurs x (var x)) false (same_test x x refl)
Local-arguments_self (int z) = tt
Local-arguments_self (atom a) = tt
Local-arguments_self (node a ts) = LocalAll-each (λ x. occurs_all x ts ≡ true) ts (λ x o. o)

-- ---- the ways of a program

pub RenamedAll-plain_goals : (R : ℕ → ℕ → Type 0) (ps qs : List Part) → RenamedParts R ps qs → RenamedAll R (plain_goals ps) (plain_goals qs)
RenamedAll-plain_goals R [] [] h = tt
RenamedAll-plain_goals R (call t ∷ ps) (call u ∷ qs) h = (h.0, RenamedAll-plain_goals R ps qs h.1)
RenamedAll-plain_goals R (group cs ts ∷ ps) (group ds us ∷ qs) h =
    RenamedAll-append_trees R ts us (plain_goals ps) (plain_goals qs) h.0.1 (RenamedAll-plain_goals R ps qs h.1)
RenamedAll-plain_goals R (call _ ∷ _) (group _ _ ∷ _) h = absurd h.0
RenamedAll-plain_goals R (group _ _ ∷ _) (call _ ∷ _) h = absurd h.0
RenamedAll-plain_goals R [] (_ ∷ _) h = absurd h
RenamedAll-plain_goals R (_ ∷ _) [] h = absurd h

pub LocalAll-plain_goals : (P : ℕ → Type 0) (ps : List Part) → LocalParts P ps → LocalAll P (plain_goals ps)
LocalAll-plain_goals P [] h = tt
LocalAll-plain_goals P (call t ∷ ps) h = (h.0, LocalAll-plain_goals P ps h.1)
LocalAll-plain_goals P (group cs ts ∷ ps) h = LocalAll-append_trees P ts (plain_goals ps) h.0.1 (LocalAll-plain_goals P ps h.1)

RenamedPlainWay-plain_way : (f g : ℕ → ℕ) (n m : ℕ) (v w : Way) → RenamedWay f g n m v w → RenamedPlainWay f g n m (plain_way v) (plain_way w)
RenamedPlainWay-plain_way f g n m v w h = go v.fault w.fault h.3
  where
    go : (e i : Option Fault) → e ≡ i → RenamedPlainWay f g n m (way_by e v) (way_by i w)
    go None None q = (h.0, h.1, RenamedAll-plain_goals (Linked f g (n + v.takes) (m + w.takes)) v.body w.body h.2)
    go (Some e) (Some i) q = cc
    go None (Some i) q = cc
    go (Some e) None q = cc

LocalPlainWay-plain_way : (P : ℕ → Type 0) (w : Way) → LocalWay P w → LocalPlainWay P (plain_way w)
LocalPlainWay-plain_way P w h = go w.fault
  where
    go : (e : Option Fault) → LocalPlainWay P (way_by e w)
    go None = (h.0, LocalAll-plain_goals P w.body h.1)
    go (Some e) = tt

pub Renames-plain_ways : (p : Program) → IsProgram p → Renames (plain_ways p)
Renames-plain_ways p good f g n m t u forth back h =
    AllZip-map (RenamedWay f g n m) (RenamedPlainWay f g n m) plain_way plain_way
    (RenamedPlainWay-plain_way f g n m) (ways p n t) (ways p m u)
    (Renamed-ways f g n m forth back p good t u h)

pub Locals-plain_ways : (p : Program) → IsProgram p → Locals (plain_ways p)
Locals-plain_ways p good P t n h new =
    AllByRecursion-map (LocalWay P) (LocalPlainWay P) plain_way (LocalPlainWay-plain_way P) (ways p n t) (Local-ways P p good n t h new)
