-- Turns of a section's machine, and what it leaves behind.
use Rattle.std.proofs.Common.{◌≡◌, ℕ, ◌+◌, ◌-◌, ◌≤◌, inl, inr, List, [], ◌∷◌, ◌++◌, map, Option, Some, None, refl, ap, sym, ◌∙◌, subst, arith}
use Rattle.std.specs.Prelude.{replicate, option_and_then}
use Rattle.std.specs.List.{AllZip, AllByRecursion}
use Rattle.ap_term.specs.Goals.{Program}
use Rattle.ap_term.specs.WellFormed.{IsProgram}
use Rattle.ap_core.specs.declared.events.Kind.{Kind}
use Rattle.ap_core.specs.declared.events.Kind.TheVariants.{Infer, Break}
use Rattle.ap_core.specs.Tasks.{Task, task, Alternatives, exhausted, Alternative, state, frame}
use Rattle.ap_core.specs.Relation.{Rules, own}
use Rattle.ap_core.specs.Reached.{Happening}
use Rattle.ap_core.specs.Lifting.{at_end}
use Rattle.ap_frames.specs.declared.frame.Round.TheVariants.{First, Draining, Later, Closed}
use Rattle.ap_frames.specs.Verdicts.{next_redo}
use Rattle.ap_tracked.specs.Tracked.{Tracked, untracked}
use Rattle.ap_tracked.specs.Kept.{Means, itself}
use Rattle.ap_instr.specs.Code.{Compiled}
use Rattle.ap_instr.specs.StandsFor.{StandsFor}
use Rattle.ap_group.specs.Groups.{Forked}
use Rattle.ap_standing.specs.Machine.{Point, failed, Machine}
use Rattle.ap_standing.specs.Holds.{HoldsPoints, Holds, Turned}
use Rattle.ap_standing.proofs.Machines.{failed-points}
use Rattle.ap_tie.specs.Sections.{section, Stack, bottom, parcall, Slots, rows}
use Rattle.ap_tie.specs.Shows.{Shows, before}
use Rattle.ap_tie.specs.Events.{own_all}
use Rattle.ap_tie.specs.Tied.{HoldsStack}
use Rattle.ap_tie.specs.Settled.{AreClosed, HasCounts, HasFailed}
use Rattle.ap_tie.proofs.Calls.{infer}
use Rattle.ap_tie.proofs.Judged.{judging}
use Rattle.ap_tie.proofs.Settled.{rest_left, nothing_due, breaks_of}
use Rattle.ap_tied.specs.Happened.{happened}
use Rattle.ap_tied.specs.Ties.{IsSimple, AreSimple, IsQuietStack, IsInOrder, IsInRound, IsSearched, IsTied, Goes}
use Rattle.ap_tied.specs.Reaching.{whole}
use Rattle.ap_tied.proofs.Common.{closed_in_order, closed_in_round}
use Rattle.ap_tied.proofs.Framed.{one-event, counted}
use Rattle.ap_tied.proofs.Settled.{broken-simple}

-- ---- events one after another

happened-append : (p : Rules) (es fs : List Happening) (t u v : Task) → happened p es t ≡ Some u → happened p fs u ≡ Some v → happened p (es ++ fs) t ≡ Some v
happened-append p [] fs t u v h k = let d : t ≡ u = cc in ap (happened p fs) d ∙ k
happened-append p (e ∷ es) fs t u v h k = go (at_end p e.0 e.1 t) (λ x d. happened-append p es fs x u v d k) h
  where
    go : (o : Option Task) → ((x : Task) → happened p es x ≡ Some u → happened p (es ++ fs) x ≡ Some v) → option_and_then (happened p es) o ≡ Some u → option_and_then (happened p (es ++ fs)) o ≡ Some v
    go None next d = absurd (cc)
    go (Some x) next d = next x d

abbrev of_task : Kind → Happening
of_task k = (k, [])

own-happened : (p : Rules) (ks : List Kind) (t u : Task) → own_all p ks t ≡ Some u → happened p (map of_task ks) t ≡ Some u
own-happened p [] t u h = h
own-happened p (k ∷ ks) t u h = go (own p k t) (λ x d. own-happened p ks x u d) h
  where
    go : (o : Option Task) → ((x : Task) → own_all p ks x ≡ Some u → happened p (map of_task ks) x ≡ Some u) → option_and_then (own_all p ks) o ≡ Some u → option_and_then (happened p (map of_task ks)) o ≡ Some u
    go None next d = absurd (cc)
    go (Some x) next d = next x d

-- ---- states don't matter to what is kept of answers

pub simple-behind : (p : Program) (o : Tracked) (ss : List Tracked) (xs : List Alternative) (l : Alternatives) → AllZip (Shows p o) ss xs → AreSimple (before xs l) → AreSimple l
simple-behind p o [] [] l h k = k
simple-behind p o [] (x ∷ xs) l h k = absurd h
simple-behind p o (s ∷ ss) [] l h k = absurd h
simple-behind p o (s ∷ ss) (state y ∷ xs) l h k = simple-behind p o ss xs l h.1 k.1
simple-behind p o (s ∷ ss) (frame y rd w ∷ xs) l h k = absurd h.0

pub simple-before : (p : Program) (o : Tracked) (ss : List Tracked) (xs : List Alternative) (l : Alternatives) → AllZip (Shows p o) ss xs → AreSimple l → AreSimple (before xs l)
simple-before p o [] [] l h k = k
simple-before p o [] (x ∷ xs) l h k = absurd h
simple-before p o (s ∷ ss) [] l h k = absurd h
simple-before p o (s ∷ ss) (state y ∷ xs) l h k = (tt, simple-before p o ss xs l h.1 k)
simple-before p o (s ∷ ss) (frame y rd w ∷ xs) l h k = absurd h.0

-- ---- a machine that has failed

failed-order : (m n : Machine) (c b : ℕ) (st : Stack) → HasFailed n.roots [] n → IsInOrder (section m c b st) → IsInOrder (section n c b st)
failed-order m n c b bottom f h = tt
failed-order m n c b (parcall f q rd w qs st) e h = (inr e, h.1)

same-round : (m n : Machine) (c b : ℕ) (st : Stack) (t : Task) → IsInRound (section m c b st) t → IsInRound (section n c b st) t
same-round m n c b bottom t h = tt
same-round m n c b (parcall f q First w qs st) t h = tt
same-round m n c b (parcall f q (Draining i) w qs st) t h = tt
same-round m n c b (parcall f q (Later i) w qs st) t h = h
same-round m n c b (parcall f q Closed w qs st) t h = tt

-- ---- the laws

pub stays : (code : Compiled) (s : _) → Goes code s s
stays code s p o t searched tied = ([], t, refl, tied)

pub goes-on : (code : Compiled) (s s' s'' : _) → Goes code s s' → Goes code s' s'' → Goes code s s''
goes-on code s s' s'' h k p o t searched tied =
    let a = h p o t searched tied in
    let b = k p o a.1 searched a.3 in
    (a.0 ++ b.0, b.1, happened-append p a.0 b.0 t a.1 b.1 a.2 b.2, b.3)

pub turns : (code : Compiled) (m m' : Machine) (c b n : ℕ) (st : Stack) → n ≤ b - c → AreClosed st → m'.roots ≡ m.roots
    → ((p : Program) → IsProgram p → StandsFor code p → (ss : List Tracked) → Holds code m ss → (ts : List Tracked) × Turned p n ss ts × Holds code m' ts)
    → Goes code (section m c b st) (section m' (c + n) b st)
turns code m m' c b n st le closed same_roots turned p o t searched tied =
    let h = tied.holds in
    let k = turned p.program searched.program searched.code_stands h.0 h.3 in
    let e = infer.infers p o n (b - c) c h.0 k.0 h.1 h.2 searched.program le k.1 h.4 in
    let rest : (b - c) - n ≡ b - (c + n) = omega arith in
    let u : Task = task (b - (c + n)) (c + n) (before e.0 h.2) in
    let event : own_all p (replicate n Infer) t ≡ Some u = ap (own_all p (replicate n Infer)) h.6 ∙ e.2 ∙ ap (λ r. Some (task r (c + n) (before e.0 h.2))) rest in (
      map of_task (replicate n Infer),
      u,
      own-happened p (replicate n Infer) t u event,
      record {
        holds = (k.0, e.0, h.2, k.2, e.1, subst (λ roots. HoldsStack code p o roots (b - (c + n)) st h.2) (sym same_roots) (rest_left code p o m.roots (b - c) (b - (c + n)) st h.2 closed h.5), refl);
        simple = simple-before p.program o k.0 e.0 h.2 e.1 (simple-behind p.program o h.0 h.1 h.2 h.4 (subst IsSimple h.6 tied.simple));
        quiet = subst (λ roots. IsQuietStack code roots st) (sym same_roots) tied.quiet;
        in_order = closed_in_order m' (c + n) b st closed;
        in_round = closed_in_round m' (c + n) b st u closed;
      },
    )

pub comes : (code : Compiled) (m n : Machine) (c b : ℕ) (st : Stack) → m.now ≡ failed → m.points ≡ [] → HasFailed m.roots [] n → Goes code (section m c b st) (section n c b st)
comes code m n c b st fails none f p o t searched tied =
    let h = tied.holds in
    let none_left : h.0 ≡ [] = subst (λ ps. HoldsPoints code m.roots ps h.0) none (failed-points code m fails h.0 h.3) in (
      [],
      t,
      refl,
      record {
        holds = (h.0, h.1, h.2, nothing_due code m.roots [] n h.0 f none_left, h.4, subst (λ roots. HoldsStack code p o roots (b - c) st h.2) (sym f.roots_stay) h.5, h.6);
        simple = tied.simple;
        quiet = subst (λ roots. IsQuietStack code roots st) (sym f.roots_stay) tied.quiet;
        in_order = failed-order m n c b st (record { now = f.now; returns = f.returns; roots_stay = refl; points = f.points }) tied.in_order;
        in_round = same-round m n c b st t tied.in_round;
      },
    )

pub drops : (code : Compiled) (m n : Machine) (c b : ℕ) (f : Forked) (q : ℕ) (w : Slots) (qs : List Point) (st : Stack) → HasFailed m.roots [] m → next_redo (rows w) ≡ None → HasFailed m.roots qs n
    → Goes code (section m c b (parcall f q Closed w qs st)) (section n c b st)
drops code m n c b f q w qs st fails none there p o t searched tied =
    let h = tied.holds in
    let k = judging.drops code p o m c b f q w qs st t fails h none in
    let closed : AreClosed st = tied.in_order.1 in
    let quiet : IsQuietStack code m.roots (parcall f q Closed w qs st) = tied.quiet in
    let spent : c + 0 ≡ c = omega arith in
    let counts : HasCounts c b k.0 = subst (λ d. HasCounts d b k.0) spent (counted c b 0 (before h.1 h.2) t k.0 h.6 k.2 k.3) in (
      of_task Break ∷ [],
      k.0,
      one-event p Break t k.0 k.1,
      record {
        holds = breaks_of.goes code p o m n c b c f q Closed w qs st t k.0 closed h k.1 refl there counts;
        simple = broken-simple p t k.0 tied.simple k.1;
        quiet = subst (λ roots. IsQuietStack code roots st) (sym there.roots_stay) quiet.4;
        in_order = closed_in_order n c b st closed;
        in_round = closed_in_round n c b st k.0 closed;
      },
    )

pub begins : (code : Compiled) (p : Rules) (o : Tracked) (m : Machine) (rest : ℕ) → IsSearched code p o → AllByRecursion Means o.goals → Holds code m (o ∷ []) → IsTied code p o (section m 0 rest bottom) (whole rest o)
begins code p o m rest searched means h =
    let left : rest ≡ rest - 0 = omega arith in
    record {
      holds = (o ∷ [], state (untracked o) ∷ [], exhausted, h, ((o, record { means = means; from = itself }, refl, inl refl), tt), refl, ap (λ r. task r 0 (before (state (untracked o) ∷ []) exhausted)) left);
      simple = (tt, tt);
      quiet = tt;
      in_order = tt;
      in_round = tt;
    }
