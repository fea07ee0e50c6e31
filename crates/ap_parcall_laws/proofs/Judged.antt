-- The verdicts are the core's.
use Rattle.std.proofs.Common.{◌≡◌, ℕ, ◌+◌, ◌-◌, ◌⊎◌, inl, inr, Bool, true, false, ◌||◌, if◌then◌else◌, List, ◌∷◌, ◌++◌, Option, Some, None, refl, ap, ap₂, sym, ◌∙◌, subst, arith}
use Rattle.std.specs.Prelude.{position}
use Rattle.std.specs.List.{list_any, list_all}
use Rattle.std.proofs.lemmas.Bool.{false≢true}
use Rattle.ap_term.specs.Tree.{Tree}
use Rattle.ap_core.specs.declared.tasks.Round.{Round as CoreRound}
use Rattle.ap_core.specs.declared.tasks.Round.TheVariants as core_round
use Rattle.ap_core.specs.Tasks as core
use Rattle.ap_core.specs.Conditions as conditions
use Rattle.ap_frames.specs.declared.slots.Slot.{Slot}
use Rattle.ap_frames.specs.declared.frame.Round.{Round}
use Rattle.ap_frames.specs.declared.frame.Round.TheVariants as round
use Rattle.ap_frames.specs.declared.verdict.Verdict.{Verdict}
use Rattle.ap_frames.specs.declared.verdict.Verdict.TheVariants as verdicts
use Rattle.ap_frames.specs.Slots.{has_answer, has_failed, is_loud_with_more, is_quiet, is_safe}
use Rattle.ap_frames.specs.Verdicts.{left_edge, ended_cost, leftmost_ending, charge, rightmost, charged, by_ending, unless_failed, are_harmless, drains, after_failure, in_first, in_later, judged}
use Rattle.ap_frames.proofs.Failing.{first-failed, first-unfailed}
use Rattle.ap_parcall_laws.specs.Alike.{AreAlike, IsRound, verdict_of}
use Rattle.ap_parcall_laws.specs.Laws.{EdgeLaw, VerdictLaw}
use Rattle.ap_parcall_laws.proofs.Same.{charged-alike}
use Rattle.ap_parcall_laws.proofs.Rows.{failed-alike, answered-alike, more-alike, edge-alike, edge-drained, leftmost-alike, Failure, find-failure, before_failure, drain_before, before-none, before-here, drain-here, quiet-alike, left-alike, safe-alike, drain-alike}

-- ---- the left edge

none-and : (n : ℕ) → 0 + n ≡ n
none-and n = omega arith

pub edge-same : {S T : Type 0} (loud : Tree → Bool) (r : ℕ) (rd : Round) (od : CoreRound) (xs : List (Slot S T)) (w : core.Slots) → AreAlike loud r xs w → IsRound rd r xs od w → conditions.is_open od ≡ true
    → conditions.left_edge r 0 w ≡ charge rd xs
edge-same loud r round.First core_round.First xs w h u o = edge-alike loud r 0 xs w h u ∙ none-and (left_edge xs)
edge-same loud r round.First core_round.Later xs w h u o = absurd u
edge-same loud r round.First core_round.Closed xs w h u o = absurd u
edge-same loud r (round.Draining n) core_round.First xs w h u o = edge-drained n r (ended_cost xs) 0 w u
edge-same loud r (round.Draining n) core_round.Later xs w h u o = absurd u
edge-same loud r (round.Draining n) core_round.Closed xs w h u o = absurd u
edge-same loud r (round.Later j) core_round.First xs w h u o = absurd u
edge-same loud r (round.Later j) core_round.Later xs w h u o = edge-alike loud r 0 xs w h u ∙ none-and (left_edge xs)
edge-same loud r (round.Later j) core_round.Closed xs w h u o = absurd u
edge-same loud r round.Closed core_round.First xs w h u o = absurd u
edge-same loud r round.Closed core_round.Later xs w h u o = absurd u
edge-same loud r round.Closed core_round.Closed xs w h u o = absurd (false≢true o)

pub edges : (S T : Type 0) → EdgeLaw S T
edges S T = record { edge = edge-same }

-- ---- verdicts, where c is charged on both sides

unfailed-same : {S T : Type 0} (loud : Tree → Bool) (r c : ℕ) (xs : List (Slot S T)) (w : core.Slots) → AreAlike loud r xs w → conditions.unfailed r c w ≡ verdict_of (unless_failed r c xs)
unfailed-same {S} {T} loud r c xs w h =
    ap₂ (λ a v. if a then conditions.charged r c (conditions.joins c) else v) (answered-alike loud r xs w h) (leftmost-alike loud r c xs w h) ∙ go (list_all has_answer xs)
  where
    go : (a : Bool) → (if a then conditions.charged r c (conditions.joins c) else verdict_of (by_ending r c (leftmost_ending xs))) ≡ verdict_of (if a then charged r c (verdicts.Joined c) else by_ending r c (leftmost_ending xs))
    go true = charged-alike r c (conditions.joins c) (verdicts.Joined c) refl
    go false = refl

later-same : {S T : Type 0} (loud : Tree → Bool) (r c : ℕ) (xs : List (Slot S T)) (w : core.Slots) → AreAlike loud r xs w → conditions.later_verdict r c w ≡ verdict_of (in_later r c xs)
later-same {S} {T} loud r c xs w h =
    ap₂ (λ a v. if a then conditions.charged r c (conditions.breaks c) else v) (failed-alike loud r xs w h) (unfailed-same loud r c xs w h) ∙ go (list_any has_failed xs)
  where
    go : (a : Bool) → (if a then conditions.charged r c (conditions.breaks c) else verdict_of (unless_failed r c xs)) ≡ verdict_of (if a then charged r c (verdicts.Broken c) else unless_failed r c xs)
    go true = charged-alike r c (conditions.breaks c) (verdicts.Broken c) refl
    go false = refl

-- the core's verdict of a first round, by what stands left of the failed slot
abbrev by_tests : ℕ → ℕ → Bool → Bool → Bool → Option ℕ → conditions.Verdict → conditions.Verdict
by_tests r c q s a o v = if q || s then conditions.charged r c (conditions.breaks c) else (if a then conditions.by_place r c o v else v)

drains-same : (r c : ℕ) (o : Option ℕ) (u : conditions.Verdict) (v : Verdict) → u ≡ verdict_of v → conditions.by_place r c o u ≡ verdict_of (drains r c o v)
drains-same r c None u v h = h
drains-same r c (Some i) u v h = charged-alike r c (conditions.drains i (r - c)) (verdicts.Drain i (r - c)) refl

tests-same : {S T : Type 0} (r c : ℕ) (ls xs : List (Slot S T)) (u : conditions.Verdict) → u ≡ verdict_of (unless_failed r c xs)
    → by_tests r c (list_all is_quiet ls) (list_all is_safe ls) (list_all has_answer ls) (rightmost is_loud_with_more ls) u ≡ verdict_of (after_failure r c ls xs)
tests-same {S} {T} r c ls xs u h = go (are_harmless ls) (list_all has_answer ls)
  where
    go : (b a : Bool) → (if b then conditions.charged r c (conditions.breaks c) else (if a then conditions.by_place r c (rightmost is_loud_with_more ls) u else u))
        ≡ verdict_of (if b then charged r c (verdicts.Broken c) else (if a then drains r c (rightmost is_loud_with_more ls) (unless_failed r c xs) else unless_failed r c xs))
    go true a = charged-alike r c (conditions.breaks c) (verdicts.Broken c) refl
    go false true = drains-same r c (rightmost is_loud_with_more ls) u (unless_failed r c xs) h
    go false false = h

first-same : {S T : Type 0} (loud : Tree → Bool) (r c : ℕ) (xs : List (Slot S T)) (w : core.Slots) → AreAlike loud r xs w
    → conditions.first_verdict loud r c w ≡ verdict_of (in_first r c xs (position has_failed xs))
first-same {S} {T} loud r c xs w h = tests ∙ go (find-failure xs)
  where
    u : conditions.Verdict
    u = conditions.unfailed r c w

    tests : conditions.first_verdict loud r c w ≡ by_tests r c (before_failure is_quiet xs) (before_failure is_safe xs) (before_failure has_answer xs) (drain_before xs) u
    tests =
        ap₂ (λ q s. by_tests r c q s (conditions.before_failed conditions.answered_left w) (conditions.place_to_drain loud w) u) (quiet-alike loud r xs w h) (safe-alike loud r xs w h)
        ∙ ap₂ (λ a o. by_tests r c (before_failure is_quiet xs) (before_failure is_safe xs) a o u) (left-alike loud r xs w h) (drain-alike loud r xs w h)

    here : (ls rs : List (Slot S T)) (x : Slot S T) → list_any has_failed ls ≡ false → has_failed x ≡ true → u ≡ verdict_of (unless_failed r c (ls ++ x ∷ rs))
        → by_tests r c (before_failure is_quiet (ls ++ x ∷ rs)) (before_failure is_safe (ls ++ x ∷ rs)) (before_failure has_answer (ls ++ x ∷ rs)) (drain_before (ls ++ x ∷ rs)) u
        ≡ verdict_of (in_first r c (ls ++ x ∷ rs) (position has_failed (ls ++ x ∷ rs)))
    here ls rs x n e v =
        ap₂ (λ q s. by_tests r c q s (before_failure has_answer (ls ++ x ∷ rs)) (drain_before (ls ++ x ∷ rs)) u) (before-here is_quiet ls rs x n e) (before-here is_safe ls rs x n e)
        ∙ ap₂ (λ a o. by_tests r c (list_all is_quiet ls) (list_all is_safe ls) a o u) (before-here has_answer ls rs x n e) (drain-here ls rs x n e)
        ∙ tests-same r c ls (ls ++ x ∷ rs) u v
        ∙ ap verdict_of (sym (first-failed r c ls rs x n e))

    go : (list_any has_failed xs ≡ false) ⊎ Failure xs
        → by_tests r c (before_failure is_quiet xs) (before_failure is_safe xs) (before_failure has_answer xs) (drain_before xs) u ≡ verdict_of (in_first r c xs (position has_failed xs))
    go (inl n) =
        ap₂ (λ q s. by_tests r c q s (before_failure has_answer xs) (drain_before xs) u) (before-none is_quiet xs n) (before-none is_safe xs n)
        ∙ ap (λ a. by_tests r c false false a (drain_before xs) u) (before-none has_answer xs n)
        ∙ unfailed-same loud r c xs w h
        ∙ ap verdict_of (sym (first-unfailed r c xs n))
    go (inr f) =
        subst (λ ys. by_tests r c (before_failure is_quiet ys) (before_failure is_safe ys) (before_failure has_answer ys) (drain_before ys) u ≡ verdict_of (in_first r c ys (position has_failed ys))) (sym f.parts)
        (here f.before f.after f.at f.none_before f.fails (unfailed-same loud r c xs w h ∙ ap (λ ys. verdict_of (unless_failed r c ys)) f.parts))

verdict-same : {S T : Type 0} (loud : Tree → Bool) (r : ℕ) (rd : Round) (od : CoreRound) (xs : List (Slot S T)) (w : core.Slots) → AreAlike loud r xs w → IsRound rd r xs od w
    → conditions.verdict loud od r w ≡ verdict_of (judged r rd xs)
verdict-same loud r round.First core_round.First xs w h u =
    ap (λ c. conditions.first_verdict loud r c w) (edge-same loud r round.First core_round.First xs w h u refl) ∙ first-same loud r (charge round.First xs) xs w h
verdict-same loud r round.First core_round.Later xs w h u = absurd u
verdict-same loud r round.First core_round.Closed xs w h u = absurd u
verdict-same loud r (round.Draining n) core_round.First xs w h u =
    ap (λ c. conditions.first_verdict loud r c w) (edge-same loud r (round.Draining n) core_round.First xs w h u refl) ∙ first-same loud r (charge (round.Draining n) xs) xs w h
verdict-same loud r (round.Draining n) core_round.Later xs w h u = absurd u
verdict-same loud r (round.Draining n) core_round.Closed xs w h u = absurd u
verdict-same loud r (round.Later j) core_round.First xs w h u = absurd u
verdict-same loud r (round.Later j) core_round.Later xs w h u =
    ap (λ c. conditions.later_verdict r c w) (edge-same loud r (round.Later j) core_round.Later xs w h u refl) ∙ later-same loud r (charge (round.Later j) xs) xs w h
verdict-same loud r (round.Later j) core_round.Closed xs w h u = absurd u
verdict-same loud r round.Closed core_round.First xs w h u = absurd u
verdict-same loud r round.Closed core_round.Later xs w h u = absurd u
verdict-same loud r round.Closed core_round.Closed xs w h u = refl

pub judgements : (S T : Type 0) → VerdictLaw S T
judgements S T = record {
  verdict = verdict-same;
  redo = more-alike;
}
