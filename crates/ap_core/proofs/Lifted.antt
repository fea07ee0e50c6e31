-- An event of a slot's task is one of the task outside of it.
use Rattle.std.proofs.Common.{◌≡◌, ℕ, zero, suc, Bool, true, false, if◌then◌else◌, List, [], ◌∷◌, Option, Some, None, refl, ap, sym, ◌∙◌, subst}
use Rattle.std.proofs.lemmas.Option.{none-some}
use Rattle.ap_term.specs.Tree.{Tree}
use Rattle.ap_term.specs.Search.{State}
use Rattle.ap_core.specs.declared.events.Kind.{Kind}
use Rattle.ap_core.specs.declared.events.Kind.TheVariants as kinds
use Rattle.ap_core.specs.declared.tasks.Round.{Round}
use Rattle.ap_core.specs.declared.tasks.Busy.{Busy}
use Rattle.ap_core.specs.Tasks.{Answer, Task, task, Alternatives, exhausted, alternative, state, frame, Slots, no_slot, slot, Progress, idle, stored, busy, held, redone, again, drained}
use Rattle.ap_core.specs.Conditions.{is_running, is_open}
use Rattle.ap_core.specs.Relation.{Rules, Recorded, recorded, mapped, own, own_slot, at_slot, in_task, in_alternatives, in_slots, in_slot}
use Rattle.ap_core.specs.Lifting.{running_of, running_in, running_task, at_end, LiftLaw}
use Rattle.ap_core.proofs.Options.{Some-if}

-- an event that tasks have is, at a slot, one of the slot's task
at-own : (p : Rules) (k : Kind) (r b : ℕ) (g : Tree) (o : Bool) (x : Progress) (z y : Task) → own p k z ≡ Some y → at_slot p k r b g o x ≡ recorded o (own_slot p k x)
at-own p kinds.Infer r b g o x z y h = refl
at-own p kinds.Fork r b g o x z y h = refl
at-own p kinds.Start r b g o x z y h = absurd (none-some _ h)
at-own p kinds.Answer r b g o x z y h = absurd (none-some _ h)
at-own p kinds.Fail r b g o x z y h = absurd (none-some _ h)
at-own p kinds.Spend r b g o x z y h = absurd (none-some _ h)
at-own p kinds.Stop r b g o x z y h = absurd (none-some _ h)
at-own p kinds.Stopped r b g o x z y h = absurd (none-some _ h)
at-own p kinds.Join r b g o x z y h = refl
at-own p kinds.Break r b g o x z y h = refl
at-own p kinds.Redo r b g o x z y h = refl
at-own p kinds.Restart r b g o x z y h = refl
at-own p kinds.Raise r b g o x z y h = absurd (none-some _ h)
at-own p kinds.Drain r b g o x z y h = refl
at-own p kinds.Forget r b g o x z y h = absurd (none-some _ h)
at-own p kinds.Replay r b g o x z y h = refl

-- with a task in it
abbrev pub filled : Progress → Task → Progress
filled (idle i) u = idle i
filled (stored m) u = stored m
filled (busy x t) u = busy x u
filled (held m a t c) u = held m a t c
filled (redone m x t i) u = redone m x u i
filled (again m a t c) u = again m a t c
filled (drained m x t i e) u = drained m x u i e

running-if : (b : Bool) (t z : Task) → (if b then Some t else None) ≡ Some z → (b ≡ true) × (t ≡ z)
running-if true t z h = (refl, cc)
running-if false t z h = absurd (none-some _ h)

pub chosen : {A : Type 0} (b : Bool) (o : Option A) → b ≡ true → (if b then o else None) ≡ o
chosen true o h = refl
chosen false o h = absurd (cc)

pub in_filled : (p : Rules) (k : Kind) (path : List ℕ) (r b : ℕ) (g : Tree) (o : Bool) (x : Progress) (z y : Task) → running_of x ≡ Some z → at_end p k path z ≡ Some y
    → (in_slot p k path r b g o x ≡ Some (o, filled x y)) × (running_of (filled x y) ≡ Some y)
in_filled p k path r b g o (idle i) z y h e = absurd (none-some _ h)
in_filled p k path r b g o (stored m) z y h e = absurd (none-some _ h)
in_filled p k path r b g o (held m a t c) z y h e = absurd (none-some _ h)
in_filled p k path r b g o (again m a t c) z y h e = absurd (none-some _ h)
in_filled p k path r b g o (busy x t) z y h e = go path e
  where
    q : (is_running x ≡ true) × (t ≡ z)
    q = running-if (is_running x) t z h

    go : (path : List ℕ) → at_end p k path z ≡ Some y → (in_slot p k path r b g o (busy x t) ≡ Some (o, busy x y)) × (running_of (busy x y) ≡ Some y)
    go [] e = (
      at-own p k r b g o (busy x t) z y e ∙ ap (recorded o) (chosen (is_running x) (mapped (busy x) (own p k t)) q.0) ∙ ap (λ u. recorded o (mapped (busy x) (own p k u))) q.1
          ∙ ap (λ u. recorded o (mapped (busy x) u)) e,
      chosen (is_running x) (Some y) q.0,
    )
    go (j ∷ path) e = (
      chosen (is_running x) (mapped (λ u. (o, busy x u)) (in_task p k j path t)) q.0 ∙ ap (λ u. mapped (λ v. (o, busy x v)) (in_task p k j path u)) q.1 ∙ ap (mapped (λ v. (o, busy x v))) e,
      chosen (is_running x) (Some y) q.0,
    )
in_filled p k path r b g o (redone m x t i) z y h e = go path e
  where
    q : (is_running x ≡ true) × (t ≡ z)
    q = running-if (is_running x) t z h

    go : (path : List ℕ) → at_end p k path z ≡ Some y → (in_slot p k path r b g o (redone m x t i) ≡ Some (o, redone m x y i)) × (running_of (redone m x y i) ≡ Some y)
    go [] e = (
      at-own p k r b g o (redone m x t i) z y e ∙ ap (recorded o) (chosen (is_running x) (mapped (λ u. redone m x u i) (own p k t)) q.0) ∙ ap (λ u. recorded o (mapped (λ v. redone m x v i) (own p k u))) q.1
          ∙ ap (λ u. recorded o (mapped (λ v. redone m x v i) u)) e,
      chosen (is_running x) (Some y) q.0,
    )
    go (j ∷ path) e = (
      chosen (is_running x) (mapped (λ u. (o, redone m x u i)) (in_task p k j path t)) q.0 ∙ ap (λ u. mapped (λ v. (o, redone m x v i)) (in_task p k j path u)) q.1
          ∙ ap (mapped (λ v. (o, redone m x v i))) e,
      chosen (is_running x) (Some y) q.0,
    )
in_filled p k path r b g o (drained m x t i n) z y h e = go path e
  where
    q : (is_running x ≡ true) × (t ≡ z)
    q = running-if (is_running x) t z h

    go : (path : List ℕ) → at_end p k path z ≡ Some y → (in_slot p k path r b g o (drained m x t i n) ≡ Some (o, drained m x y i n)) × (running_of (drained m x y i n) ≡ Some y)
    go [] e = (
      at-own p k r b g o (drained m x t i n) z y e ∙ ap (recorded o) (chosen (is_running x) (mapped (λ u. drained m x u i n) (own p k t)) q.0) ∙ ap (λ u. recorded o (mapped (λ v. drained m x v i n) (own p k u))) q.1
          ∙ ap (λ u. recorded o (mapped (λ v. drained m x v i n) u)) e,
      chosen (is_running x) (Some y) q.0,
    )
    go (j ∷ path) e = (
      chosen (is_running x) (mapped (λ u. (o, drained m x u i n)) (in_task p k j path t)) q.0 ∙ ap (λ u. mapped (λ v. (o, drained m x v i n)) (in_task p k j path u)) q.1
          ∙ ap (mapped (λ v. (o, drained m x v i n))) e,
      chosen (is_running x) (Some y) q.0,
    )

in_place : (p : Rules) (k : Kind) (path : List ℕ) (r b i : ℕ) (w : Slots) (z y : Task) → running_in i w ≡ Some z → at_end p k path z ≡ Some y
    → (v : Slots) × (in_slots p k i path r b w ≡ Some v) × (running_in i v ≡ Some y)
in_place p k path r b i no_slot z y h e = absurd (none-some _ h)
in_place p k path r b zero (slot g o x w) z y h e = absurd (none-some _ h)
in_place p k path r b (suc zero) (slot g o x w) z y h e =
    let q = in_filled p k path r b g o x z y h e in (slot g o (filled x y) w, ap (mapped (λ d. slot g d.0 d.1 w)) q.0, q.1)
in_place p k path r b (suc (suc i)) (slot g o x w) z y h e =
    let q = in_place p k path r b (suc i) w z y h e in (slot g o x q.0, ap (mapped (slot g o x)) q.1, q.2)

pub lifted : LiftLaw
lifted p k path i (task r c exhausted) z y h e = absurd (none-some _ h)
lifted p k path i (task r c (alternative (state s) l)) z y h e = absurd (none-some _ h)
lifted p k path i (task r c (alternative (frame s rd w) l)) z y h e = (task r c (alternative (frame s rd q.0) l), steps, chosen (is_open rd) (running_in i q.0) d.0 ∙ q.2)
  where
    d : (is_open rd ≡ true) × (running_in i w ≡ Some z)
    d = Some-if (is_open rd) (running_in i w) z h

    q : (v : Slots) × (in_slots p k i path r s.next w ≡ Some v) × (running_in i v ≡ Some y)
    q = in_place p k path r s.next i w z y d.1 e

    steps : in_task p k i path (task r c (alternative (frame s rd w) l)) ≡ Some (task r c (alternative (frame s rd q.0) l))
    steps =
        ap (λ x. mapped (task r c) (mapped (λ b. alternative b l) x)) (chosen (is_open rd) (mapped (frame s rd) (in_slots p k i path r s.next w)) d.0)
        ∙ ap (λ x. mapped (task r c) (mapped (λ b. alternative b l) (mapped (frame s rd) x))) q.1
