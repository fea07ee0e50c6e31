-- What a frame tells of its slots is told of the rows that the view shows.
use Rattle.std.proofs.Common.{◌≡◌, ◌∙◌, ℕ, zero, suc, ◌+◌, ◌<◌, Bool, true, false, ◌&&◌, ◌||◌, not, nat_lt, cond, if◌then◌else◌, List, [], ◌∷◌, length, take, Option, Some, None, ap, ap₂, refl, arith}
use Rattle.std.specs.Prelude.{position}
use Rattle.std.specs.List.{list_any, list_all, position_or_len}
use Rattle.std.proofs.lemmas.Bool.{lt-ltb, le-ltb}
use Rattle.ap_term.specs.Tree.{Trees}
use Rattle.ap_tie.specs.Sections.{Row, Slots, slot, rows}
use Rattle.ap_tied.specs.SlotCalls.{readied_behind}
use Rattle.ap_frames.specs.declared.frame.Round.{Round}
use Rattle.ap_frames.specs.declared.frame.Round.TheVariants.{First, Draining, Later, Closed}
use Rattle.ap_frames.specs.declared.verdict.Verdict.TheVariants as verdicts
use Rattle.ap_frames.specs.declared.slots.Slot.{Slot}
use Rattle.ap_frames.specs.declared.slots.Stand.{Stand}
use Rattle.ap_frames.specs.declared.slots.Stand.TheVariants.{Ready, Waiting, Running, Answered, Replayed, Ended, GivenBack}
use Rattle.ap_frames.specs.Slots.{stands_answered, ends, more_at, cost_at, is_failure, has_answer, has_failed, has_more, is_loud_with_more, is_quiet, is_safe, ending_of, cost_of, tuples_of}
use Rattle.ap_frames.specs.Rounds.{numbered, behind, readied, readied_stand}
use Rattle.ap_frames.specs.Verdicts.{left_edge, ended_cost, leftmost_ending, charge, place_behind, rightmost, next_redo, charged, by_ending, unless_failed, are_harmless, drains, after_failure, in_first, in_later, judged}
use Rattle.ap_section.specs.declared.section.Section.{Section}
use Rattle.ap_section.specs.Views.{row_of, bare}
use Rattle.ap_section.proofs.Levels.{held_now, slots_now}
use Rattle.ap_section.proofs.Newest.{length-rows}

-- the rows that are shown
abbrev pub shown : List (Slot Section Trees) → List Row
shown xs = rows (slots_now xs)

-- ---- of one slot

answered-stand : (y : Stand Section) → stands_answered (bare y) ≡ stands_answered y
answered-stand Ready = refl
answered-stand Waiting = refl
answered-stand (Running r) = refl
answered-stand (Answered a) = refl
answered-stand (Replayed k) = refl
answered-stand (Ended e c) = refl
answered-stand GivenBack = refl

ending-stand : (y : Stand Section) → ends (bare y) ≡ ends y
ending-stand Ready = refl
ending-stand Waiting = refl
ending-stand (Running r) = refl
ending-stand (Answered a) = refl
ending-stand (Replayed k) = refl
ending-stand (Ended e c) = refl
ending-stand GivenBack = refl

more-stand : (n : ℕ) (y : Stand Section) → more_at n (bare y) ≡ more_at n y
more-stand n Ready = refl
more-stand n Waiting = refl
more-stand n (Running r) = refl
more-stand n (Answered a) = refl
more-stand n (Replayed k) = refl
more-stand n (Ended e c) = refl
more-stand n GivenBack = refl

cost-stand : (y : Stand Section) → cost_at (bare y) ≡ cost_at y
cost-stand Ready = refl
cost-stand Waiting = refl
cost-stand (Running r) = refl
cost-stand (Answered a) = refl
cost-stand (Replayed k) = refl
cost-stand (Ended e c) = refl
cost-stand GivenBack = refl

pub answer-row : (x : Slot Section Trees) → has_answer (row_of x) ≡ has_answer x
answer-row x = answered-stand x.stand

ending-row : (x : Slot Section Trees) → ending_of (row_of x) ≡ ending_of x
ending-row x = ending-stand x.stand

failed-row : (x : Slot Section Trees) → has_failed (row_of x) ≡ has_failed x
failed-row x = ap is_failure (ending-row x)

pub more-row : (x : Slot Section Trees) → has_more (row_of x) ≡ has_more x
more-row x = more-stand (length (tuples_of x)) x.stand

loud-row : (x : Slot Section Trees) → is_loud_with_more (row_of x) ≡ is_loud_with_more x
loud-row x = ap (λ b. x.is_loud && b) (more-row x)

quiet-row : (x : Slot Section Trees) → is_quiet (row_of x) ≡ is_quiet x
quiet-row x = refl

safe-row : (x : Slot Section Trees) → is_safe (row_of x) ≡ is_safe x
safe-row x = ap₂ (λ a b. a && not b) (answer-row x) (loud-row x)

cost-row : (x : Slot Section Trees) → cost_of (row_of x) ≡ cost_of x
cost-row x = cost-stand x.stand

-- ---- of slots in a row

pub any-shown : (p : Row → Bool) (q : Slot Section Trees → Bool) → ((x : Slot Section Trees) → p (row_of x) ≡ q x) → (xs : List (Slot Section Trees)) → list_any p (shown xs) ≡ list_any q xs
any-shown p q same [] = refl
any-shown p q same (x ∷ xs) = ap₂ (λ a b. a || b) (same x) (any-shown p q same xs)

pub all-shown : (p : Row → Bool) (q : Slot Section Trees → Bool) → ((x : Slot Section Trees) → p (row_of x) ≡ q x) → (xs : List (Slot Section Trees)) → list_all p (shown xs) ≡ list_all q xs
all-shown p q same [] = refl
all-shown p q same (x ∷ xs) = ap₂ (λ a b. a && b) (same x) (all-shown p q same xs)

pub rightmost-shown : (p : Row → Bool) (q : Slot Section Trees → Bool) → ((x : Slot Section Trees) → p (row_of x) ≡ q x) → (xs : List (Slot Section Trees)) → rightmost p (shown xs) ≡ rightmost q xs
rightmost-shown p q same [] = refl
rightmost-shown p q same (x ∷ xs) = ap₂ place_behind (rightmost-shown p q same xs) (same x)

place-shown : (p : Row → Bool) (q : Slot Section Trees → Bool) → ((x : Slot Section Trees) → p (row_of x) ≡ q x) → (xs : List (Slot Section Trees)) → position_or_len p (shown xs) ≡ position_or_len q xs
place-shown p q same [] = refl
place-shown p q same (x ∷ xs) = ap₂ (λ b n. cond (not b) (1 + n) 0) (same x) (place-shown p q same xs)

pub position-shown : (p : Row → Bool) (q : Slot Section Trees → Bool) → ((x : Slot Section Trees) → p (row_of x) ≡ q x) → (xs : List (Slot Section Trees)) → position p (shown xs) ≡ position q xs
position-shown p q same xs = ap₂ (λ n l. cond (nat_lt n l) (Some n) None) (place-shown p q same xs) (length-rows xs)

pub take-shown : (n : ℕ) (xs : List (Slot Section Trees)) → take n (shown xs) ≡ shown (take n xs)
take-shown zero xs = refl
take-shown (suc n) [] = refl
take-shown (suc n) (x ∷ xs) = ap (λ rs. row_of x ∷ rs) (take-shown n xs)

-- ---- what they have cost, and how they ended

edge-shown : (xs : List (Slot Section Trees)) → left_edge (shown xs) ≡ left_edge xs
edge-shown [] = refl
edge-shown (x ∷ xs) = ap₂ (λ b c. if b then c + left_edge (shown xs) else c) (answer-row x) (cost-row x) ∙ ap (λ n. if has_answer x then cost_of x + n else cost_of x) (edge-shown xs)

ended-shown : (xs : List (Slot Section Trees)) → ended_cost (shown xs) ≡ ended_cost xs
ended-shown [] = refl
ended-shown (x ∷ xs) = ap₂ (λ b c. if b then ended_cost (shown xs) else c) (answer-row x) (cost-row x) ∙ ap (λ n. if has_answer x then n else cost_of x) (ended-shown xs)

ending-shown : (xs : List (Slot Section Trees)) → leftmost_ending (shown xs) ≡ leftmost_ending xs
ending-shown [] = refl
ending-shown (x ∷ xs) = ap₂ (λ b o. if b then leftmost_ending (shown xs) else o) (answer-row x) (ending-row x) ∙ ap (λ o. if has_answer x then o else ending_of x) (ending-shown xs)

charge-shown : (d : Round) (xs : List (Slot Section Trees)) → charge d (shown xs) ≡ charge d xs
charge-shown (Draining before) xs = ap (λ n. before + n) (ended-shown xs)
charge-shown First xs = edge-shown xs
charge-shown (Later j) xs = edge-shown xs
charge-shown Closed xs = edge-shown xs

-- ---- the verdict

unless-shown : (r c : ℕ) (xs : List (Slot Section Trees)) → unless_failed r c (shown xs) ≡ unless_failed r c xs
unless-shown r c xs = ap₂ (λ b o. if b then charged r c (verdicts.Joined c) else by_ending r c o) (all-shown has_answer has_answer answer-row xs) (ending-shown xs)

harmless-shown : (ls : List (Slot Section Trees)) → are_harmless (shown ls) ≡ are_harmless ls
harmless-shown ls = ap₂ (λ a b. a || b) (all-shown is_quiet is_quiet quiet-row ls) (all-shown is_safe is_safe safe-row ls)

after-shown : (r c : ℕ) (ls xs : List (Slot Section Trees)) → after_failure r c (shown ls) (shown xs) ≡ after_failure r c ls xs
after-shown r c ls xs =
    ap₂ (λ a b. if a then charged r c (verdicts.Broken c) else (if b then drains r c (rightmost is_loud_with_more (shown ls)) (unless_failed r c (shown xs)) else unless_failed r c (shown xs))) (harmless-shown ls) (all-shown has_answer has_answer answer-row ls)
    ∙ ap₂ (λ o v. if are_harmless ls then charged r c (verdicts.Broken c) else (if list_all has_answer ls then drains r c o v else v)) (rightmost-shown is_loud_with_more is_loud_with_more loud-row ls) (unless-shown r c xs)

first-shown : (r c : ℕ) (xs : List (Slot Section Trees)) (o : Option ℕ) → in_first r c (shown xs) o ≡ in_first r c xs o
first-shown r c xs None = unless-shown r c xs
first-shown r c xs (Some j) = ap (λ ls. after_failure r c ls (shown xs)) (take-shown j xs) ∙ after-shown r c (take j xs) xs

both-shown : (r : ℕ) (d : Round) (xs : List (Slot Section Trees)) → in_first r (charge d (shown xs)) (shown xs) (position has_failed (shown xs)) ≡ in_first r (charge d xs) xs (position has_failed xs)
both-shown r d xs = ap₂ (λ c o. in_first r c (shown xs) o) (charge-shown d xs) (position-shown has_failed has_failed failed-row xs) ∙ first-shown r (charge d xs) xs (position has_failed xs)

later-shown : (r c : ℕ) (xs : List (Slot Section Trees)) → in_later r c (shown xs) ≡ in_later r c xs
later-shown r c xs = ap₂ (λ b v. if b then charged r c (verdicts.Broken c) else v) (any-shown has_failed has_failed failed-row xs) (unless-shown r c xs)

-- the verdict on the rows is that on the slots
pub judged-shown : (r : ℕ) (d : Round) (xs : List (Slot Section Trees)) → judged r d (shown xs) ≡ judged r d xs
judged-shown r First xs = both-shown r First xs
judged-shown r (Draining before) xs = both-shown r (Draining before) xs
judged-shown r (Later j) xs = ap (λ c. in_later r c (shown xs)) (charge-shown (Later j) xs) ∙ later-shown r (charge (Later j) xs) xs
judged-shown r Closed xs = refl

-- the slot that is redone next is that of the rows
pub redo-shown : (xs : List (Slot Section Trees)) → next_redo (shown xs) ≡ next_redo xs
redo-shown xs = rightmost-shown has_more has_more more-row xs

-- ---- behind a redone slot that has answered

bare-readied : (y : Stand Section) → bare (readied_stand y) ≡ readied_stand (bare y)
bare-readied Ready = refl
bare-readied Waiting = refl
bare-readied (Running r) = refl
bare-readied (Answered a) = refl
bare-readied (Replayed k) = refl
bare-readied (Ended e c) = refl
bare-readied GivenBack = refl

held-readied : (y : Stand Section) → held_now (readied_stand y) ≡ held_now y
held-readied Ready = refl
held-readied Waiting = refl
held-readied (Running r) = refl
held-readied (Answered a) = refl
held-readied (Replayed k) = refl
held-readied (Ended e c) = refl
held-readied GivenBack = refl

row-readied : (x : Slot Section Trees) → row_of (readied x) ≡ readied (row_of x)
row-readied x = ap (λ y. record { stand = y; is_loud = x.is_loud; recording = x.recording; tuples = x.tuples; mark = x.mark }) (bare-readied x.stand)

slot-readied : (b : Bool) (x : Slot Section Trees) (w : Slots) → b ≡ true → slot (row_of (if b then readied x else x)) (held_now (if b then readied x else x).stand) w ≡ slot (readied (row_of x)) (held_now x.stand) w
slot-readied b x w e = ap (λ c. slot (row_of (if c then readied x else x)) (held_now (if c then readied x else x).stand) w) e ∙ ap₂ (λ r h. slot r h w) (row-readied x) (held-readied x.stand)

slot-stays : (b : Bool) (x : Slot Section Trees) (w : Slots) → b ≡ false → slot (row_of (if b then readied x else x)) (held_now (if b then readied x else x).stand) w ≡ slot (row_of x) (held_now x.stand) w
slot-stays b x w e = ap (λ c. slot (row_of (if c then readied x else x)) (held_now (if c then readied x else x).stand) w) e

all-readied : (i n : ℕ) (xs : List (Slot Section Trees)) → i < n → slots_now (numbered (behind readied i) n xs) ≡ readied_behind zero (slots_now xs)
all-readied i n [] h = refl
all-readied i n (x ∷ xs) h = slot-readied (nat_lt i n) x (slots_now (numbered (behind readied i) (n + 1) xs)) (lt-ltb i n h) ∙ ap (slot (readied (row_of x)) (held_now x.stand)) (all-readied i (n + 1) xs (omega (arith, h)))

behind-readied : (i j n : ℕ) (xs : List (Slot Section Trees)) → i ≡ n + j → slots_now (numbered (behind readied i) (n + 1) xs) ≡ readied_behind j (slots_now xs)
behind-readied i j n [] e = refl
behind-readied i zero n (x ∷ xs) e = all-readied i (n + 1) (x ∷ xs) (omega (arith, e))
behind-readied i (suc j) n (x ∷ xs) e = slot-stays (nat_lt i (n + 1)) x (slots_now (numbered (behind readied i) ((n + 1) + 1) xs)) (le-ltb i (n + 1) (omega (arith, e)))
    ∙ ap (slot (row_of x) (held_now x.stand)) (behind-readied i j (n + 1) xs (omega (arith, e)))

pub readied-shown : (i : ℕ) (xs : List (Slot Section Trees)) → slots_now (numbered (behind readied i) 1 xs) ≡ readied_behind i (slots_now xs)
readied-shown i xs = behind-readied i i 0 xs (omega arith)
