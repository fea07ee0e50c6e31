-- What each verdict says of a frame's slots.
use Rattle.std.proofs.Common.{◌≡◌, ℕ, ◌-◌, ◌<◌, ◌≤◌, ◌⊎◌, nat_lt, Bool, true, false, ◌||◌, if◌then◌else◌, Option, Some, None, refl}
use Rattle.std.proofs.lemmas.Bool.{ltb-true, ltb-false, or_cases}
use Rattle.ap_term.specs.declared.faults.Fault.{Fault}
use Rattle.ap_term.specs.Tree.{Tree}
use Rattle.ap_core.specs.declared.tasks.Busy.{Busy}
use Rattle.ap_core.specs.declared.tasks.Busy.TheVariants.{Running, Stopping, Failed, Spent, Stopped, Raised}
use Rattle.ap_core.specs.Tasks.{Slots}
use Rattle.ap_core.specs.Conditions.{some_failed, all_answered, leftmost, before_failed, is_quiet, is_settled, answered_left, place_to_drain, Verdict, wait, joins, breaks, drains, raises, spends, charged, by_leftmost, unfailed, by_place, first_verdict, later_verdict}

charged-by : (P : Verdict → Type 0) (r c : ℕ) (v : Verdict) → (c ≤ r → P v) → (r < c → P spends) → P (charged r c v)
charged-by P r c v h k = go (nat_lt r c) refl
  where
    go : (b : Bool) → nat_lt r c ≡ b → P (if b then spends else v)
    go true e = k (ltb-true r c e)
    go false e = h (ltb-false r c e)

-- where no failed slot decides
pub data Unfailed (r c : ℕ) (w : Slots) : Verdict → Type 0 where
  all_joins : all_answered w ≡ true → c ≤ r → Unfailed r c w (joins c)
  one_raises : (e : Fault) → leftmost w ≡ Some (Raised e) → c ≤ r → Unfailed r c w (raises c e)
  edge_above : r < c → Unfailed r c w spends
  one_spent : leftmost w ≡ Some Spent → Unfailed r c w spends
  one_waits : Unfailed r c w wait

pub unfailed_means : (r c : ℕ) (w : Slots) → Unfailed r c w (unfailed r c w)
unfailed_means r c w = go (all_answered w) refl
  where
    by : (o : Option Busy) → leftmost w ≡ o → Unfailed r c w (by_leftmost r c o)
    by None e = one_waits
    by (Some Running) e = one_waits
    by (Some Stopping) e = one_waits
    by (Some Failed) e = one_waits
    by (Some Spent) e = one_spent e
    by (Some Stopped) e = one_waits
    by (Some (Raised f)) e = charged-by (Unfailed r c w) r c (raises c f) (λ h. one_raises f e h) (λ h. edge_above h)

    go : (b : Bool) → all_answered w ≡ b → Unfailed r c w (if b then charged r c (joins c) else by_leftmost r c (leftmost w))
    go true e = charged-by (Unfailed r c w) r c (joins c) (λ h. all_joins e h) (λ h. edge_above h)
    go false e = by (leftmost w) refl

-- in a first round
pub data FirstMeans (loud : Tree → Bool) (r c : ℕ) (w : Slots) : Verdict → Type 0 where
  first_breaks : (before_failed (is_quiet loud) w ≡ true) ⊎ (before_failed (is_settled loud) w ≡ true) → c ≤ r → FirstMeans loud r c w (breaks c)
  first_drains : (i : ℕ) → before_failed answered_left w ≡ true → place_to_drain loud w ≡ Some i → c ≤ r → FirstMeans loud r c w (drains i (r - c))
  first_above : r < c → FirstMeans loud r c w spends
  first_else : {v : Verdict} → Unfailed r c w v → FirstMeans loud r c w v

pub first_means : (loud : Tree → Bool) (r c : ℕ) (w : Slots) → FirstMeans loud r c w (first_verdict loud r c w)
first_means loud r c w = go (before_failed (is_quiet loud) w || before_failed (is_settled loud) w) refl
  where
    by : (o : Option ℕ) → before_failed answered_left w ≡ true → place_to_drain loud w ≡ o → FirstMeans loud r c w (by_place r c o (unfailed r c w))
    by None h e = first_else (unfailed_means r c w)
    by (Some i) h e = charged-by (FirstMeans loud r c w) r c (drains i (r - c)) (λ k. first_drains i h e k) (λ k. first_above k)

    else_by : (b : Bool) → before_failed answered_left w ≡ b → FirstMeans loud r c w (if b then by_place r c (place_to_drain loud w) (unfailed r c w) else unfailed r c w)
    else_by true e = by (place_to_drain loud w) e refl
    else_by false e = first_else (unfailed_means r c w)

    go : (b : Bool) → (before_failed (is_quiet loud) w || before_failed (is_settled loud) w) ≡ b
        → FirstMeans loud r c w (if b then charged r c (breaks c) else (if before_failed answered_left w then by_place r c (place_to_drain loud w) (unfailed r c w) else unfailed r c w))
    go true e = charged-by (FirstMeans loud r c w) r c (breaks c) (λ h. first_breaks (or_cases (before_failed (is_quiet loud) w) (before_failed (is_settled loud) w) e) h) (λ h. first_above h)
    go false e = else_by (before_failed answered_left w) refl

-- in a later one
pub data LaterMeans (r c : ℕ) (w : Slots) : Verdict → Type 0 where
  later_breaks : some_failed w ≡ true → c ≤ r → LaterMeans r c w (breaks c)
  later_above : r < c → LaterMeans r c w spends
  later_else : {v : Verdict} → Unfailed r c w v → LaterMeans r c w v

pub later_means : (r c : ℕ) (w : Slots) → LaterMeans r c w (later_verdict r c w)
later_means r c w = go (some_failed w) refl
  where
    go : (b : Bool) → some_failed w ≡ b → LaterMeans r c w (if b then charged r c (breaks c) else unfailed r c w)
    go true e = charged-by (LaterMeans r c w) r c (breaks c) (λ h. later_breaks e h) (λ h. later_above h)
    go false e = later_else (unfailed_means r c w)
