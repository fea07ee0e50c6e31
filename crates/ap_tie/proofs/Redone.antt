-- A slot of the closed frame that comes first is redone.
use Rattle.std.proofs.Common.{◌≡◌, ℕ, suc, ◌+◌, ◌-◌, ◌<◌, inl, inr, Bool, true, false, if◌then◌else◌, is_some, List, [], ◌∷◌, Option, Some, None, refl, ap, ap₂, sym, ◌∙◌, subst, arith}
use Rattle.std.proofs.lemmas.Option.{same_Some, none-some}
use Rattle.std.specs.List.{AllZip}
use Rattle.ap_term.specs.Tree.{Tree, Trees, none, more}
use Rattle.ap_term.specs.Substitution.{instance_all}
use Rattle.ap_term.proofs.Lists.{not_nil}
use Rattle.ap_core.specs.declared.events.Kind.TheVariants.{Redo}
use Rattle.ap_core.specs.declared.tasks.Round.TheVariants as core_round
use Rattle.ap_core.specs.Tasks as core
use Rattle.ap_core.specs.Tasks.{Task, task, Alternatives, alternative, Alternative, state, frame, Progress, again}
use Rattle.ap_core.specs.Conditions.{some_has_more}
use Rattle.ap_core.specs.Relation.{Rules, own, redo_from, all_put_away, put_away, restarted_with, kept, only_if}
use Rattle.ap_frames.specs.declared.frame.Round.TheVariants.{Later}
use Rattle.ap_frames.specs.Slots.{has_more}
use Rattle.ap_frames.specs.Verdicts.{next_redo, place_behind}
use Rattle.ap_frames.specs.Rounds.{resumed}
use Rattle.ap_parcall_laws.specs.Alike.{AreAlike}
use Rattle.ap_parcall_laws.proofs.Rows.{more-alike}
use Rattle.ap_parcall_laws.proofs.Redone.{redos, redo-from-one}
use Rattle.ap_tracked.specs.Tracked.{Tracked, untracked}
use Rattle.ap_instr.specs.Code.{Compiled}
use Rattle.ap_standing.specs.Holds.{Holds, HoldsPoints}
use Rattle.ap_standing.proofs.Machines.{failed-points}
use Rattle.ap_tie.specs.Sections as views
use Rattle.ap_group.specs.Groups.{Forked}
use Rattle.ap_tie.specs.Sections.{Row, section, Stack, parcall, Slots, no_slot, slot, Held, nothing, held, rows}
use Rattle.ap_tie.specs.Shows.{Shows, before}
use Rattle.ap_tie.specs.Tied.{HoldsTask, HoldsSlots, HoldsSource}
use Rattle.ap_tie.specs.Redone.{keeping, closed_row, taken, RedoLaw}
use Rattle.ap_tie.proofs.Answered.{alike}

-- an answer that is kept comes from the same task
source_kept : (code : Compiled) (p : Rules) (b : ℕ) (g : Tree) (h : Held) (y : Progress) → HoldsSource code p b g h y → HoldsSource code p b g h (kept y)
source_kept code p b g nothing y s = tt
source_kept code p b g (views.held a) y (at, (m, e, t, z, c, source, comes, is_of, inl is)) = (at, (m, e, t, z, 0, source, comes, is_of, inl (ap kept is)))
source_kept code p b g (views.held a) y (at, (m, e, t, z, c, source, comes, is_of, inr is)) = (at, (m, e, t, z, 0, source, comes, is_of, inl (ap kept is)))

-- right of the redone slot
put_away_slots : (code : Compiled) (p : Rules) (q r b : ℕ) (gs : Trees) (w : Slots) (v : core.Slots) (xs : List Row) → HoldsSlots code p q b gs w v → AreAlike p.loud r xs (all_put_away v)
    → HoldsSlots code p r b gs (keeping 0 xs w) (all_put_away v)
put_away_slots code p q r b none no_slot v [] h a = ap all_put_away h
put_away_slots code p q r b none no_slot v (x ∷ xs) h a = absurd (subst (λ k. AreAlike p.loud r (x ∷ xs) (all_put_away k)) h a)
put_away_slots code p q r b none (slot x n w) v xs h a = absurd h
put_away_slots code p q r b (more g gs) no_slot v xs h a = absurd h
put_away_slots code p q r b (more g gs) (slot x n w) v [] (k, y, u, l, rest, is) a = absurd (subst (λ j. AreAlike {S = Unit {0}} {T = Trees} p.loud r [] (all_put_away j)) is a)
put_away_slots code p q r b (more g gs) (slot x n w) v (z ∷ xs) (k, y, u, l, rest, is) a =
    let c = subst (λ j. AreAlike p.loud r (z ∷ xs) (all_put_away j)) is a in
    (k, put_away k y, all_put_away u, (c.0, c.1, tt), put_away_slots code p q r b gs w u xs rest c.2, ap all_put_away is)

redone_slots : (code : Compiled) (p : Rules) (q r b : ℕ) (gs : Trees) (w : Slots) (v : core.Slots) (xs : List Row) (i : ℕ) → HoldsSlots code p q b gs w v → next_redo (rows w) ≡ Some i
    → AreAlike p.loud r xs (redo_from r v) → HoldsSlots code p r b gs (keeping (i - 1) xs w) (redo_from r v)
redone_slots code p q r b none no_slot v xs i h e a = absurd (none-some _ e)
redone_slots code p q r b none (slot x n w) v xs i h e a = absurd h
redone_slots code p q r b (more g gs) no_slot v xs i h e a = absurd h
redone_slots code p q r b (more g gs) (slot x n w) v xs i (k, y, u, l, rest, is) e a =
    go xs (next_redo (rows w)) (has_more x) refl refl (subst (λ j. AreAlike p.loud r xs (redo_from r j)) is a) (λ zs j f c. redone_slots code p q r b gs w u zs j rest f c)
  where
    way : Bool → core.Slots
    way s = if s then core.slot g k (kept y) (redo_from r u) else core.slot g k (restarted_with r y) (all_put_away u)

    redoes : some_has_more u ≡ is_some (next_redo (rows w))
    redoes = more-alike p.loud q (rows w) u (alike code p q b gs w u rest)

    go : (xs : List Row) (o : Option ℕ) (c : Bool) → next_redo (rows w) ≡ o → has_more x ≡ c → AreAlike p.loud r xs (redo_from r (core.slot g k y u))
        → ((zs : List Row) (j : ℕ) → next_redo (rows w) ≡ Some j → AreAlike p.loud r zs (redo_from r u) → HoldsSlots code p r b gs (keeping (j - 1) zs w) (redo_from r u))
        → HoldsSlots code p r b (more g gs) (keeping (i - 1) xs (slot x n w)) (redo_from r v)
    go xs (Some j) c f d a next = left xs (subst (λ s. AreAlike p.loud r xs (way s)) (redoes ∙ ap is_some f) a)
      where
        place : i - 1 ≡ suc (j - 1)
        place = let e1 : j + 1 ≡ i = same_Some _ _ (sym (ap₂ place_behind f d) ∙ e) in let e0 : 0 < j = redo-from-one (rows w) j f in omega (arith, e0, e1)

        shape : redo_from r v ≡ core.slot g k (kept y) (redo_from r u)
        shape = ap (redo_from r) is ∙ ap way (redoes ∙ ap is_some f)

        left : (xs : List Row) → AreAlike p.loud r xs (core.slot g k (kept y) (redo_from r u)) → HoldsSlots code p r b (more g gs) (keeping (i - 1) xs (slot x n w)) (redo_from r v)
        left [] a = absurd a
        left (z ∷ zs) (a, s, t) =
            subst (λ m. HoldsSlots code p r b (more g gs) (keeping m (z ∷ zs) (slot x n w)) (redo_from r v)) (sym place)
            (k, kept y, redo_from r u, (a, s, source_kept code p b g n y l.2), next zs j f t, shape)
    go xs None true f d a next = last xs (subst (λ s. AreAlike p.loud r xs (way s)) (redoes ∙ ap is_some f) a)
      where
        place : i - 1 ≡ 0
        place = let e1 : 1 ≡ i = same_Some _ _ (sym (ap₂ place_behind f d) ∙ e) in omega (arith, e1)

        shape : redo_from r v ≡ core.slot g k (restarted_with r y) (all_put_away u)
        shape = ap (redo_from r) is ∙ ap way (redoes ∙ ap is_some f)

        last : (xs : List Row) → AreAlike p.loud r xs (core.slot g k (restarted_with r y) (all_put_away u)) → HoldsSlots code p r b (more g gs) (keeping (i - 1) xs (slot x n w)) (redo_from r v)
        last [] a = absurd a
        last (z ∷ zs) (a, s, t) =
            subst (λ m. HoldsSlots code p r b (more g gs) (keeping m (z ∷ zs) (slot x n w)) (redo_from r v)) (sym place)
            (k, restarted_with r y, all_put_away u, (a, s, tt), put_away_slots code p q r b gs w u zs rest t, shape)
    go xs None false f d a next = absurd (none-some _ (sym (ap₂ place_behind f d) ∙ e))

pub redo_section : RedoLaw
redo_section code p o m c b f q no_slot qs st t i fails h e = absurd (none-some _ e)
redo_section code p o m c b f q (slot y h w') qs st t i fails (ss, xs, l, holds, shown, (s, j, v, sv, ys, k, kept_so, rest, shut, slots, points, shows, older, z), is) e =
    go ss xs (subst (λ ps. HoldsPoints code m.roots ps ss) fails.points (failed-points code m fails.now ss holds)) holds shown is
  where
    w : Slots
    w = slot y h w'

    r : ℕ
    r = b - c

    left : Alternative
    left = frame (untracked s) core_round.Later (redo_from r v)

    Result : Type 0
    Result = (u : Task) × (own p Redo t ≡ Some u) × HoldsTask code p o (section m c b (parcall f r (Later i) (taken i r q w) qs st)) u

    main : Holds code m [] → t ≡ task r c l → Result
    main n is =
        let are_alike = alike code p q s.next (instance_all j.own j.goals) w v slots in
        let sh = shut i e in
        let row = (redos (Unit {0}) Trees).redone p.loud r i (closed_row q w) v are_alike refl e sh.0 sh.1 in
        let again = redone_slots code p q r s.next (instance_all j.own j.goals) w v (resumed i r (closed_row q w)).slots i slots e row.0 in
        let more_left : some_has_more v ≡ true = more-alike p.loud q (rows w) v are_alike ∙ ap is_some e in (
          task r c (alternative left (before ys k)),
          ap (own p Redo) (is ∙ ap (task r c) z) ∙ ap (λ x. only_if x (task r c (alternative left (before ys k)))) more_left,
          ([], [], alternative left (before ys k), n, tt, (s, j, redo_from r v, sv, ys, k, kept_so, refl, tt, again, points, shows, older, refl), refl),
        )

    go : (ss : List Tracked) (xs : List Alternative) → ss ≡ [] → Holds code m ss → AllZip (Shows p.program o) ss xs → t ≡ task r c (before xs l) → Result
    go [] [] e n h is = main n is
    go [] (y ∷ ys) e n h is = absurd h
    go (s ∷ ss) xs e n h is = absurd (not_nil e)
