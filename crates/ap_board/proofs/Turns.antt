-- Each kind of step keeps the rule, and tells what its play says.
use Rattle.std.proofs.Common.{◌≡◌, ◌≢◌, ◌⊎◌, ⊎_elim, inl, inr, ℕ, zero, suc, ◌+◌, ◌*◌, ◌/◌, ◌<◌, ◌≤◌, eqb, Bool, true, false, cond, List, [], ◌∷◌, ◌++◌, length, get_or, set, refl, sym, ap, ap₂, ◌∙◌, subst, arith, length-set}
use mathlib.Core.Logic.{dite}
use mathlib.Core.Option.{some, none}
use mathlib.Core.Option as maybe
use native.Mathlib.Decide.{ℕ_discrete}
use lib.ListN.{get_elem?}
use prog.Atomic.{either}
use Rattle.std.specs.Prelude.{Option, Some, None}
use Rattle.atomic_table.specs.Table.{State, Me, Step, step, Act, keeps as stays, takes, gives, Valid, carried_after, stepped, Allows, rest}
use Rattle.atomic_table.proofs.Lists.{set_here, set_else, set_again, exchanged}
use Rattle.ap_board.specs.declared.view.Kind.{Kind}
use Rattle.ap_board.specs.declared.view.Kind.TheVariants.{Open, Offer, Take, Reclaim, Stop, Finish, Look, Collect}
use Rattle.ap_board.specs.declared.view.Cause.{Cause}
use Rattle.ap_board.specs.declared.view.Cause.TheVariants.{Free, Asked, Elsewhere}
use Rattle.ap_board.specs.declared.view.Content.{Content}
use Rattle.ap_board.specs.declared.view.Content.TheVariants.{Parcel, Outcome}
use Rattle.ap_board.specs.declared.view.View.{View}
use Rattle.ap_board.specs.History.{Mode, closed, free, offered, taken, finished, word_of, home_of, MayCause, next, May, Legal, Role, nothing, keeps, out, has}
use Rattle.ap_board.specs.Rule.{logged, role, last_seen, Kept, Recorded}
use Rattle.ap_board.specs.Causes.{noting}
use Rattle.ap_board.specs.Plays.{Rises, opened, offers, takes_it, reclaims, stops, finishes, looks, collects, shows}
use Rattle.ap_board.proofs.Histories.{Fit, IsOut, HasIt, Good, open_mode, free_mode}
use Rattle.ap_board.proofs.Keeps.{known, well, moved, risen}

pub held : {A : Type 0} (l : List (ℕ × A)) {p : ℕ} {y : A} {r : List (ℕ × A)} → l ≡ (p, y) ∷ r → l ≡ (p, y) ∷ rest l
held l {p = p} {y = y} e = e ∙ (λ i. (p, y) ∷ sym (ap rest e) i)

-- of an offer that another made the seat knew nothing
unknown' : {P : Type 0} (O' : Type 0) (o id q : ℕ) (x : P) (t : Role P) → Fit {O = O'} o id (offered q x) t → id ≢ o → t ≡ nothing
unknown' O' o id q x nothing f ne = refl
unknown' O' o id q x (keeps r) f ne = absurd (ne f.0)
unknown' O' o id q x (out r y) f ne = absurd (ne f.0)
unknown' O' o id q x (has r y b) f ne = absurd f.1

module _ {P O : Type 0} where
  is_offered : (q : ℕ) (m : Mode P O) → word_of m ≡ q * 8 + 1 → (x : P) × (m ≡ offered q x)
  is_offered q closed e = absurd (omega arith)
  is_offered q (free r) e = absurd (omega arith)
  is_offered q (offered r x) e = (x, ap (λ (k : ℕ). offered k x) (omega arith))
  is_offered q (taken r x t true) e = absurd (omega arith)
  is_offered q (taken r x t false) e = absurd (omega arith)
  is_offered q (finished r x y) e = absurd (omega arith)

  is_finished : (q : ℕ) (m : Mode P O) → word_of m ≡ q * 8 + 4 → (x : P) × (y : O) × (m ≡ finished q x y)
  is_finished q closed e = absurd (omega arith)
  is_finished q (free r) e = absurd (omega arith)
  is_finished q (offered r x) e = absurd (omega arith)
  is_finished q (taken r x t true) e = absurd (omega arith)
  is_finished q (taken r x t false) e = absurd (omega arith)
  is_finished q (finished r x y) e = (x, y, ap (λ (k : ℕ). finished k x y) (omega arith))

  -- taken, and asked to stop or not
  is_taken : (q : ℕ) (m : Mode P O) → (word_of m ≡ q * 8 + 2) ⊎ (word_of m ≡ q * 8 + 3) → (x : P) × (t : ℕ) × (b : Bool) × (m ≡ taken q x t b)
  is_taken q closed (inl e) = absurd (omega arith)
  is_taken q (free r) (inl e) = absurd (omega arith)
  is_taken q (offered r x) (inl e) = absurd (omega arith)
  is_taken q (taken r x t true) (inl e) = absurd (omega arith)
  is_taken q (taken r x t false) (inl e) = (x, t, false, ap (λ (k : ℕ). taken k x t false) (omega arith))
  is_taken q (finished r x y) (inl e) = absurd (omega arith)
  is_taken q closed (inr e) = absurd (omega arith)
  is_taken q (free r) (inr e) = absurd (omega arith)
  is_taken q (offered r x) (inr e) = absurd (omega arith)
  is_taken q (taken r x t true) (inr e) = (x, t, true, ap (λ (k : ℕ). taken k x t true) (omega arith))
  is_taken q (taken r x t false) (inr e) = absurd (omega arith)
  is_taken q (finished r x y) (inr e) = absurd (omega arith)

  below : (q o : ℕ) (x : P) (m : Mode P O) → IsOut q x o m → word_of m ≤ q * 8 + 4
  below q o x closed h = absurd h
  below q o x (free r) h = absurd h
  below q o x (offered r y) h = let e = h.0 in omega arith
  below q o x (taken r y t true) h = let e = h.0 in omega arith
  below q o x (taken r y t false) h = let e = h.0 in omega arith
  below q o x (finished r y z) h = let e = h.0 in omega arith

  above : (q o : ℕ) (x : P) (m : Mode P O) → IsOut q x o m → q * 8 + 1 ≤ word_of m
  above q o x closed h = absurd h
  above q o x (free r) h = absurd h
  above q o x (offered r y) h = let e = h.0 in omega arith
  above q o x (taken r y t true) h = let e = h.0 in omega arith
  above q o x (taken r y t false) h = let e = h.0 in omega arith
  above q o x (finished r y z) h = let e = h.0 in omega arith

  pub next_look : (m : Mode P O) (id w : ℕ) → next m id (Look w) ≡ m
  next_look closed id w = refl
  next_look (free r) id w = refl
  next_look (offered r x) id w = refl
  next_look (taken r x t b) id w = refl
  next_look (finished r x y) id w = refl

  pub may_look : (fits : P → O → Type 0) (cause : O → Cause) (o : ℕ) (m : Mode P O) (id q w : ℕ) → w ≡ word_of m → May fits cause o m id q (Look w)
  may_look fits cause o closed id q w e = e
  may_look fits cause o (free r) id q w e = e
  may_look fits cause o (offered r x) id q w e = e
  may_look fits cause o (taken r x t b) id q w e = e
  may_look fits cause o (finished r x y) id q w e = e

  unknown : (o id q : ℕ) (x : P) {m : Mode P O} (t : Role P) → Fit o id m t → m ≡ offered q x → id ≢ o → t ≡ nothing
  unknown o id q x t f is ne = unknown' O o id q x t (subst (λ (z : Mode P O). Fit o id z t) is f) ne

  finish_from : (fits : P → O → Type 0) (cause : O → Cause) (o q id : ℕ) (x : P) (b : Bool) (y : O) (m : Mode P O) → HasIt q x b id m → fits x y → MayCause (cause y) b
      → May fits cause o m id q (Finish y) × (next m id (Finish y) ≡ finished q x y)
  finish_from fits cause o q id x b y (taken r z t a) h f g =
      ((sym h.2, sym h.0, subst (λ (u : P). fits u y) (sym h.1) f, asked (cause y) g), (λ i. finished (h.0 i) (h.1 i) y))
    where
      asked : (c : Cause) → MayCause c b → MayCause c a
      asked Free k = tt
      asked Asked k = h.3 k
      asked Elsewhere k = tt
  finish_from fits cause o q id x b y closed h f g = absurd h
  finish_from fits cause o q id x b y (free r) h f g = absurd h
  finish_from fits cause o q id x b y (offered r z) h f g = absurd h
  finish_from fits cause o q id x b y (finished r z u) h f g = absurd h

module _ {P O : Type 0} (fits : P → O → Type 0) (cause : O → Cause) (pads : ℕ) where
  abbrev S : Type 0
  S = Option (Content P O)

  abbrev V : Type 0
  V = View P O

  abbrev K : State S V → Type 0
  K = Kept fits cause pads

  abbrev M : Type 0
  M = Me S V

  abbrev Goes : State S V → ℕ → ℕ → M → (ℕ → M → Type 0) → ℕ → Type 0
  Goes s p id me then n = (w : V) × (a : Act S) × Valid s.homes me.1 a × K (stepped s p n id me.1 w a) × then (get_or s.words p 0) (w, carried_after me.1 a)

  module _ (s : State S V) (k : K s) (id p q : ℕ) (kind : Kind P O) (v : V) (lt : p < length s.homes) (live : v.ended ≡ false) (at : get_elem? s.views id ≡ some v) (m : Mode P O) (is : (k.each_pad p lt).mode ≡ m)
      (may : May fits cause (p / pads) m v.number q kind) where
    may' : May fits cause (p / pads) (k.each_pad p lt).mode v.number q kind
    may' = subst (λ (z : Mode P O). May fits cause (p / pads) z v.number q kind) (sym is) may

    abbrev after' : Mode P O → Mode P O
    after' z = next z v.number kind

    abbrev now : ℕ → List (maybe.Option S) → State S V
    now n homes = record { words = set s.words p n; homes = homes; views = set s.views id (logged v p q kind) }

    -- the slot stays where it is
    unmoved : (n : ℕ) → n ≡ word_of (next m v.number kind) → home_of (next m v.number kind) ≡ home_of m → K (now n s.homes)
    unmoved n e h = let d = k.each_pad p lt in
        moved fits cause pads s k id p q n kind v s.homes lt live at may' (e ∙ ap (λ (z : Mode P O). word_of (after' z)) (sym is)) refl
        (d.home_is ∙ ap some (ap home_of is ∙ sym h ∙ ap (λ (z : Mode P O). home_of (after' z)) (sym is))) (λ j ne. refl)

    -- the slot has now this
    changed : (n : ℕ) (h : maybe.Option S) → n ≡ word_of (next m v.number kind) → h ≡ home_of (next m v.number kind) → K (now n (set s.homes p h))
    changed n h e f =
        moved fits cause pads s k id p q n kind v (set s.homes p h) lt live at may' (e ∙ ap (λ (z : Mode P O). word_of (after' z)) (sym is)) (length-set s.homes p h)
        (set_here s.homes p h lt ∙ ap some (f ∙ ap (λ (z : Mode P O). home_of (after' z)) (sym is))) (λ j ne. set_else s.homes p j h ne)

    rose : last_seen v p ≤ last_seen (logged v p q kind) p
    rose = risen fits cause pads s k id p q (word_of (after' (k.each_pad p lt).mode)) kind v (set s.homes p (home_of (after' (k.each_pad p lt).mode))) lt live at may' refl (length-set s.homes p _) (set_here s.homes p _ lt) (λ j ne. set_else s.homes p j _ ne)

  -- a step that finds n and leaves it
  noticed : (s : State S V) (k : K s) (id p : ℕ) (me : M) (lt : p < length s.homes) (then : ℕ → M → Type 0) → me.0.ended ≡ false → get_elem? s.views id ≡ some me.0
      → (Rises me.0 p (noting me.0 p (get_or s.words p 0)) → then (get_or s.words p 0) (noting me.0 p (get_or s.words p 0), me.1)) → Goes s p id me then (get_or s.words p 0)
  noticed s k id p me lt then live at told =
      let d = k.each_pad p lt in let n : ℕ = get_or s.words p 0 in let v = me.0 in
      let may = may_look fits cause (p / pads) d.mode v.number (n / 8) n d.word_is in let same = next_look d.mode v.number n in (
        noting v p n,
        stays,
        tt,
        unmoved s k id p (n / 8) (Look n) v lt live at d.mode refl may n (d.word_is ∙ ap word_of (sym same)) (ap home_of same),
        told (rose s k id p (n / 8) (Look n) v lt live at d.mode refl may),
      )

  pub looks_ok : (slots id p : ℕ) (me : M) → me.0.ended ≡ false → p < slots → Allows K slots id me p (λ n. n) (looks (step slots p 0 0 none) me)
  looks_ok slots id p me live less s k wide at _ = noticed s k id p me (omega arith) (looks (step slots p 0 0 none) me) live at (λ r. (r, refl))

  owns : (s : State S V) (k : K s) (id p : ℕ) (v : V) → v.ended ≡ false → get_elem? s.views id ≡ some v → p / v.pads ≡ v.number → v.number ≡ p / pads
  owns s k id p v live at e = sym e ∙ ap (λ (z : ℕ). p / z) (k.fit id v at live).0

  owns_not : (s : State S V) (k : K s) (id p : ℕ) (v : V) → v.ended ≡ false → get_elem? s.views id ≡ some v → p / v.pads ≢ v.number → v.number ≢ p / pads
  owns_not s k id p v live at ne e = ne (ap (λ (z : ℕ). p / z) (k.fit id v at live).0 ∙ sym e)

  fit : (s : State S V) (k : K s) (id p : ℕ) (v : V) (lt : p < length s.homes) (t : Role P) → v.ended ≡ false → get_elem? s.views id ≡ some v → role v p ≡ t → Fit (p / pads) v.number (k.each_pad p lt).mode t
  fit s k id p v lt t live at e = subst (Fit (p / pads) v.number (k.each_pad p lt).mode) e (known fits cause pads s k id p v lt live at).0

  pub opens_ok : (slots id p : ℕ) (me : M) → me.0.ended ≡ false → p < slots → role me.0 p ≡ nothing → p / me.0.pads ≡ me.0.number → Allows K slots id me p (λ n. n) (opened (step slots p 0 0 none) me)
  opens_ok slots id p me live less was own s k wide at _ =
      let lt : p < length s.homes = omega arith in let d = k.each_pad p lt in let v = me.0 in let o = owns s k id p v live at own in
      let is = (fit s k id p v lt nothing live at was).0 o in let n : ℕ = get_or s.words p 0 in let zero' : n ≡ 0 = d.word_is ∙ ap word_of is in (
        logged v p 0 Open,
        takes p None,
        d.home_is ∙ ap (λ (z : Mode P O). some (home_of z)) is,
        changed s k id p 0 Open v lt live at closed is (o, refl) n none zero' refl,
        (rose s k id p 0 Open v lt live at closed is (o, refl), refl),
      )

  pub offers_ok : (slots id p q : ℕ) (x : P) (me : M) (new : ℕ) → me.0.ended ≡ false → p < slots → role me.0 p ≡ keeps q → me.1 ≡ (p, Some (Parcel x)) ∷ rest me.1 → new ≡ q * 8 + 1
      → Allows K slots id me p (λ _. new) (λ _. offers (step slots p new 0 none) me new)
  offers_ok slots id p q x me new live less was held says s k wide at _ =
      let lt : p < length s.homes = omega arith in let v = me.0 in let f = fit s k id p v lt (keeps q) live at was in
      let m : Mode P O = free q in
      subst (λ (l : List (ℕ × S)). Goes s p id (v, l) (λ _. offers (step slots p new 0 none) (v, l) new) new) (sym held) (
        logged v p q (Offer x),
        gives,
        tt,
        changed s k id p q (Offer x) v lt live at m f.1 (f.0, refl) new (some (Some (Parcel x))) says refl,
        (rose s k id p q (Offer x) v lt live at m f.1 (f.0, refl), (q, x, says, refl, refl)),
      )

  pub takes_ok : (slots id p q : ℕ) (me : M) (old new : ℕ) → me.0.ended ≡ false → p < slots → p / me.0.pads ≢ me.0.number → old ≡ q * 8 + 1 → new ≡ q * 8 + 2
      → Allows K slots id me p (λ n. either (eqb n old) new n) (takes_it (step slots p old new none) me)
  takes_ok slots id p q me old new live less other was more s k wide at _ =
      let lt : p < length s.homes = omega arith in let v = me.0 in let d = k.each_pad p lt in let n : ℕ = get_or s.words p 0 in let then = takes_it (step slots p old new none) me in
      exchanged n old new (Goes s p id me then)
      (λ hit. let is = is_offered q d.mode (sym d.word_is ∙ hit ∙ was) in let x : P = is.0 in let m : Mode P O = offered q x in let may : May fits cause (p / pads) m v.number q (Take x) = (owns_not s k id p v live at other, refl, refl) in (
        logged v p q (Take x),
        takes p (Some (Parcel x)),
        d.home_is ∙ ap (λ (z : Mode P O). some (home_of z)) is.1,
        changed s k id p q (Take x) v lt live at m is.1 may new none more refl,
        (rose s k id p q (Take x) v lt live at m is.1 may, (q, was, (λ _. (x, unknown (p / pads) v.number q x (role v p) (fit s k id p v lt (role v p) live at refl) is.1 (owns_not s k id p v live at other), refl)), (λ miss. absurd (miss hit)))),
      ))
      (λ miss. noticed s k id p me lt then live at (λ r. (r, (q, was, (λ hit. absurd (miss hit)), (λ _. refl)))))

  pub reclaims_ok : (slots id p q : ℕ) (x : P) (me : M) (old new : ℕ) → me.0.ended ≡ false → p < slots → role me.0 p ≡ out q x → old ≡ q * 8 + 1 → new ≡ (q + 1) * 8
      → Allows K slots id me p (λ n. either (eqb n old) new n) (reclaims (step slots p old new none) me)
  reclaims_ok slots id p q x me old new live less role_is was more s k wide at _ =
      let lt : p < length s.homes = omega arith in let v = me.0 in let d = k.each_pad p lt in let n : ℕ = get_or s.words p 0 in let then = reclaims (step slots p old new none) me in
      let f = fit s k id p v lt (out q x) live at role_is in
      let low : q * 8 + 1 ≤ n = let h = above q (p / pads) x d.mode f.1 in let e = d.word_is in omega arith in
      let high : n ≤ q * 8 + 4 = let h = below q (p / pads) x d.mode f.1 in let e = d.word_is in omega arith in
      exchanged n old new (Goes s p id me then)
      (λ hit. let is = is_offered q d.mode (sym d.word_is ∙ hit ∙ was) in let y : P = is.0 in let m : Mode P O = offered q y in let may : May fits cause (p / pads) m v.number q Reclaim = (f.0, refl) in
      let same : y ≡ x = (subst (IsOut q x (p / pads)) is.1 f.1).1 in (
        logged v p q Reclaim,
        takes p (Some (Parcel y)),
        d.home_is ∙ ap (λ (z : Mode P O). some (home_of z)) is.1,
        changed s k id p q Reclaim v lt live at m is.1 may new none more refl,
        (rose s k id p q Reclaim v lt live at m is.1 may, (q, was, low, high, (λ _. (y, role_is ∙ ap (out q) (sym same), refl)), (λ miss. absurd (miss hit)))),
      ))
      (λ miss. noticed s k id p me lt then live at (λ r. (r, (q, was, low, high, (λ hit. absurd (miss hit)), (λ _. refl)))))

  -- the owner of what is finished has it out
  is_its : (o id q : ℕ) (x : P) (y : O) (t : Role P) → Fit o id (finished q x y) t → id ≡ o → t ≡ out q x
  is_its o id q x y nothing f e = absurd (subst open_mode (f.0 e) tt)
  is_its o id q x y (keeps r) f e = absurd (subst free_mode (sym f.1) tt)
  is_its o id q x y (out r z) f e = λ i. out (sym f.1.0 i) (sym f.1.1 i)
  is_its o id q x y (has r z b) f e = absurd (f.0 e)

  pub collects_ok : (slots id p q : ℕ) (me : M) (old new : ℕ) → me.0.ended ≡ false → p < slots → p / me.0.pads ≡ me.0.number → old ≡ q * 8 + 4 → new ≡ (q + 1) * 8
      → Allows K slots id me p (λ n. either (eqb n old) new n) (collects fits (step slots p old new none) me)
  collects_ok slots id p q me old new live less own was more s k wide at _ =
      let lt : p < length s.homes = omega arith in let v = me.0 in let d = k.each_pad p lt in let n : ℕ = get_or s.words p 0 in let then = collects fits (step slots p old new none) me in
      let o = owns s k id p v live at own in
      let high : (x : P) → role v p ≡ out q x → n ≤ q * 8 + 4 = (λ x e. let h = below q (p / pads) x d.mode (fit s k id p v lt (out q x) live at e).1 in let w = d.word_is in omega arith) in
      exchanged n old new (Goes s p id me then)
      (λ hit. let is = is_finished q d.mode (sym d.word_is ∙ hit ∙ was) in let z : P = is.0 in let y : O = is.1 in let m : Mode P O = finished q z y in let may : May fits cause (p / pads) m v.number q (Collect y) = (o, refl, refl) in
      let its : role v p ≡ out q z = is_its (p / pads) v.number q z y (role v p) (subst (λ (u : Mode P O). Fit (p / pads) v.number u (role v p)) is.2 (fit s k id p v lt (role v p) live at refl)) o in
      let good : fits z y = subst (Good fits cause (p / pads)) is.2 (well fits cause pads s k p lt) in (
        logged v p q (Collect y),
        takes p (Some (Outcome y)),
        d.home_is ∙ ap (λ (u : Mode P O). some (home_of u)) is.2,
        changed s k id p q (Collect y) v lt live at m is.2 may new none more refl,
        (rose s k id p q (Collect y) v lt live at m is.2 may, (q, was, high, (λ _. (z, y, its, good, refl)), (λ miss. absurd (miss hit)))),
      ))
      (λ miss. noticed s k id p me lt then live at (λ r. (r, (q, was, high, (λ hit. absurd (miss hit)), (λ _. refl)))))

  pub finishes_ok : (slots id p q : ℕ) (x : P) (b : Bool) (y : O) (me : M) (new : ℕ) → me.0.ended ≡ false → p < slots → role me.0 p ≡ has q x b → fits x y → MayCause (cause y) b
      → me.1 ≡ (p, Some (Outcome y)) ∷ rest me.1 → new ≡ q * 8 + 4 → Allows K slots id me p (λ _. new) (finishes (step slots p new 0 none) me)
  finishes_ok slots id p q x b y me new live less role_is good may_be held says s k wide at _ =
      let lt : p < length s.homes = omega arith in let v = me.0 in let d = k.each_pad p lt in
      let f = fit s k id p v lt (has q x b) live at role_is in let g = finish_from fits cause (p / pads) q v.number x b y d.mode f.1 good may_be in
      subst (λ (l : List (ℕ × S)). Goes s p id (v, l) (finishes (step slots p new 0 none) (v, l)) new) (sym held) (
        logged v p q (Finish y),
        gives,
        tt,
        changed s k id p q (Finish y) v lt live at d.mode refl g.0 new (some (Some (Outcome y))) (says ∙ ap word_of (sym g.1)) (ap home_of (sym g.1)),
        (rose s k id p q (Finish y) v lt live at d.mode refl g.0, (q, y, says, refl, refl)),
      )

  pub stops_ok : (slots id p q : ℕ) (x : P) (me : M) (old new : ℕ) → me.0.ended ≡ false → p < slots → role me.0 p ≡ out q x → old ≡ q * 8 + 2 → new ≡ q * 8 + 3
      → Allows K slots id me p (λ n. either (eqb n old) new n) (stops (step slots p old new none) me)
  stops_ok slots id p q x me old new live less role_is was more s k wide at _ =
      let lt : p < length s.homes = omega arith in let v = me.0 in let d = k.each_pad p lt in let n : ℕ = get_or s.words p 0 in let then = stops (step slots p old new none) me in
      let f = fit s k id p v lt (out q x) live at role_is in let high : n ≤ q * 8 + 4 = let h = below q (p / pads) x d.mode f.1 in let e = d.word_is in omega arith in
      exchanged n old new (Goes s p id me then)
      (λ hit. let is = is_taken q d.mode (inl (sym d.word_is ∙ hit ∙ was)) in let m : Mode P O = taken q is.0 is.1 is.2 in let may : May fits cause (p / pads) m v.number q Stop = (f.0, refl) in (
        logged v p q Stop,
        stays,
        tt,
        unmoved s k id p q Stop v lt live at m is.3 may new more refl,
        (rose s k id p q Stop v lt live at m is.3 may, (q, was, high, (λ _. refl), (λ miss _. absurd (miss hit)))),
      ))
      (λ miss. dite (ℕ_discrete n (old + 1))
      (λ again. let is = is_taken q d.mode (inr (sym d.word_is ∙ again ∙ (let g : old + 1 ≡ q * 8 + 3 = omega arith in g))) in let m : Mode P O = taken q is.0 is.1 is.2 in let may : May fits cause (p / pads) m v.number q Stop = (f.0, refl) in (
        logged v p q Stop,
        stays,
        tt,
        unmoved s k id p q Stop v lt live at m is.3 may n (let g : n ≡ q * 8 + 3 = omega arith in g) refl,
        (rose s k id p q Stop v lt live at m is.3 may, (q, was, high, (λ _. refl), (λ _ no. absurd (no again)))),
      ))
      (λ no. noticed s k id p me lt then live at (λ r. (r, (q, was, high, ⊎_elim (λ hit. absurd (miss hit)) (λ again. absurd (no again)), (λ _ _. refl))))))

  same_words : (words : List ℕ) (p n : ℕ) → p < length words → n ≡ get_or words p 0 → set words p n ≡ words
  same_words [] p n less e = absurd (omega arith)
  same_words (x ∷ xs) zero n less e = λ i. e i ∷ xs
  same_words (x ∷ xs) (suc p) n less e = λ i. x ∷ same_words xs p n (omega arith) e i

  -- nothing changes, and each pad's history is shown
  pub shows_ok : (slots id p : ℕ) (me : M) → me.0.ended ≡ false → p < slots → Allows K slots id me p (λ n. n) (shows fits cause (step slots p 0 0 none) me)
  shows_ok slots id p me live less s k wide at _ = let v = me.0 in let n : ℕ = get_or s.words p 0 in let f = k.fit id v at live in (
    v,
    stays,
    tt,
    subst (λ (z : List ℕ × List V). K record { words = z.0; homes = s.homes; views = z.1 }) (λ i. (sym (same_words s.words p n (let l = k.long in omega arith) refl) i, sym (set_again s.views id v at) i)) k,
    (
      refl,
      λ z lt. let d = k.each_pad z (let w = wide in let l : z < slots = lt in omega arith) in record {
        history = d.history;
        mode = d.mode;
        legal = subst (λ (y : ℕ). Legal fits cause (z / y) closed d.history d.mode) (sym f.0) d.legal;
        calls_are = d.calls_are id v at;
        no_others = λ first j le. d.no_others j (subst (λ (y : ℕ). y ≤ j) (f.1 first) le);
      },
    ),
  )
