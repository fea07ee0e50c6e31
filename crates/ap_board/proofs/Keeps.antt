-- A step on one pad keeps the rule.
use Rattle.std.proofs.Common.{◌≡◌, ◌≢◌, ◌⊎◌, ⊎_elim, inl, inr, ℕ, zero, suc, ◌+◌, ◌*◌, ◌/◌, ◌<◌, ◌≤◌, eqb, Bool, true, false, cond, List, [], ◌∷◌, ◌++◌, length, get_or, set, refl, sym, ap, ◌∙◌, subst, eq-eqb, ne_eqb, arith, length-set, get_or-set_same, get_or-set_other}
use Rattle.std.proofs.lemmas.List.{append-nil}
use mathlib.Core.Logic.{dite}
use mathlib.Core.Option.{some, none}
use mathlib.Core.Option as maybe
use native.Mathlib.Decide.{ℕ_discrete}
use lib.ListN.{get_elem?}
use Rattle.std.specs.Prelude.{Option, Some, None}
use Rattle.atomic_table.specs.Table.{State}
use Rattle.atomic_table.proofs.Lists.{at_set, set_here, set_else}
use Rattle.ap_board.specs.declared.view.Kind.{Kind}
use Rattle.ap_board.specs.declared.view.Kind.TheVariants.{Look}
use Rattle.ap_board.specs.declared.view.Call.{Call}
use Rattle.ap_board.specs.declared.view.Cause.{Cause}
use Rattle.ap_board.specs.declared.view.Content.{Content}
use Rattle.ap_board.specs.declared.view.View.{View}
use Rattle.ap_board.specs.History.{Mode, closed, word_of, home_of, Entry, next, May, Legal, by, on, left_word, Role, nothing, after, role_of, last_of}
use Rattle.ap_board.specs.Rule.{logged, role, last_seen, HasLog, AmongLogs, FitsBoard, PadKept, Kept}
use Rattle.ap_board.specs.Causes.{noting}
use Rattle.ap_board.proofs.Histories.{Fit, knows, longer, left_is, rises, good, Good, by_longer, on_longer, role_longer, last_longer}

module _ {P O : Type 0} where
  pub last_logged : (v : View P O) (p q : ℕ) (kind : Kind P O) → last_seen (logged v p q kind) p ≡ left_word q kind
  last_logged v p q kind = let c : Call P O = record { pad = p; round = q; kind = kind } in
      ap (last_of 0) (on_longer p v.calls c ∙ (λ i. on p v.calls ++ cond (eq-eqb p p refl i) (c ∷ []) [])) ∙ last_longer 0 (on p v.calls) c

  pub role_logged : (v : View P O) (p q : ℕ) (kind : Kind P O) → role (logged v p q kind) p ≡ after (role v p) q kind
  role_logged v p q kind = let c : Call P O = record { pad = p; round = q; kind = kind } in
      ap (role_of nothing) (on_longer p v.calls c ∙ (λ i. on p v.calls ++ cond (eq-eqb p p refl i) (c ∷ []) [])) ∙ role_longer nothing (on p v.calls) c

  -- a call on another pad
  pub on_other : (v : View P O) (p q z : ℕ) (kind : Kind P O) → p ≢ z → on z (logged v p q kind).calls ≡ on z v.calls
  on_other v p q z kind ne = let c : Call P O = record { pad = p; round = q; kind = kind } in
      on_longer z v.calls c ∙ (λ i. on z v.calls ++ cond (ne_eqb p z ne i) (c ∷ []) []) ∙ append-nil (on z v.calls)

  pub last_noting : (v : View P O) (p n : ℕ) → last_seen (noting v p n) p ≡ n
  last_noting v p n = last_logged v p (n / 8) (Look n)

module _ {P O : Type 0} (fits : P → O → Type 0) (cause : O → Cause) (pads : ℕ) where
  abbrev pub S : Type 0
  S = Option (Content P O)

  abbrev pub V : Type 0
  V = View P O

  abbrev pub St : Type 0
  St = State S V

  abbrev K : St → Type 0
  K = Kept fits cause pads

  -- a seat that takes part has its own calls
  pub own_log : (v : V) → v.ended ≡ false → HasLog v v.number v.calls
  own_log v on = (on, inl (refl, refl))

  -- what the seat knows of the pad, beside where the pad stands
  pub known : (s : St) (k : K s) (id p : ℕ) (v : V) (lt : p < length s.homes) → v.ended ≡ false → get_elem? s.views id ≡ some v
      → Fit (p / pads) v.number (k.each_pad p lt).mode (role v p) × (last_seen v p ≤ word_of (k.each_pad p lt).mode)
  known s k id p v lt live at =
      let d = k.each_pad p lt in
      subst (λ (cs : List (Call P O)). Fit (p / pads) v.number d.mode (role_of nothing cs) × (last_of 0 cs ≤ word_of d.mode)) (d.calls_are id v at v.number v.calls (own_log v live))
      (knows fits cause (p / pads) v.number closed d.mode nothing 0 d.history d.legal ((λ _. refl), tt) (omega arith))

  pub well : (s : St) (k : K s) (p : ℕ) (lt : p < length s.homes) → Good fits cause (p / pads) (k.each_pad p lt).mode
  well s k p lt = let d = k.each_pad p lt in good fits cause (p / pads) closed d.mode d.history tt d.legal

  module _ (s : St) (k : K s) (id p q n : ℕ) (kind : Kind P O) (v : V) (homes : List (maybe.Option S)) (lt : p < length s.homes) (live : v.ended ≡ false) (at : get_elem? s.views id ≡ some v)
      (may : May fits cause (p / pads) (k.each_pad p lt).mode v.number q kind) (word : n ≡ word_of (next (k.each_pad p lt).mode v.number kind)) (long : length homes ≡ length s.homes)
      (here : get_elem? homes p ≡ some (home_of (next (k.each_pad p lt).mode v.number kind))) (else : (j : ℕ) → j ≢ p → get_elem? homes j ≡ get_elem? s.homes j) where
    abbrev c : Call P O
    c = record { pad = p; round = q; kind = kind }

    abbrev w : V
    w = logged v p q kind

    abbrev views : List V
    views = set s.views id w

    abbrev words : List ℕ
    words = set s.words p n

    -- a log that a view has now is the seat's own, or another seat's, which a view had before
    abbrev Before : ℕ → ℕ → List (Call P O) → Type 0
    Before j m cs = ((j ≡ id) × (m ≡ v.number) × (cs ≡ w.calls)) ⊎ ((m ≢ v.number) × ((t : V) × (get_elem? s.views j ≡ some t) × HasLog t m cs))

    before : (j : ℕ) (u : V) (m : ℕ) (cs : List (Call P O)) → get_elem? views j ≡ some u → HasLog u m cs → Before j m cs
    before j u m cs e h = ⊎_elim
        (λ (x : (j ≡ id) × (w ≡ u)). mine x.0 (subst (λ (z : V). HasLog z m cs) (sym x.1) h))
        (λ (x : (j ≢ id) × (get_elem? s.views j ≡ some u)). inr ((λ is. x.0 (k.apart j id u v v.number cs v.calls x.1 at (subst (λ (z : ℕ). HasLog u z cs) is h) (own_log v live))), (u, x.1, h)))
        (at_set s.views id j w u e)
      where
        mine : j ≡ id → HasLog w m cs → Before j m cs
        mine is (on, inl own) = inl (is, own.0, own.1)
        mine is (on, inr taken) = inr ((λ e. (k.fit id v at live).2 cs (subst (λ (z : ℕ). AmongLogs z cs v.others) e taken)), (v, subst (λ (z : ℕ). get_elem? s.views z ≡ some v) (sym is) at, (live, inr taken)))

    -- each log stood in the view at the same place
    stood : (j : ℕ) (u : V) (m : ℕ) (cs : List (Call P O)) → get_elem? views j ≡ some u → HasLog u m cs → (t : V) × (ds : List (Call P O)) × (get_elem? s.views j ≡ some t) × HasLog t m ds
    stood j u m cs e h = ⊎_elim
        (λ (x : (j ≡ id) × (m ≡ v.number) × (cs ≡ w.calls)). (v, v.calls, subst (λ (z : ℕ). get_elem? s.views z ≡ some v) (sym x.0) at, (live, inl (x.1, refl))))
        (λ (x : (m ≢ v.number) × ((t : V) × (get_elem? s.views j ≡ some t) × HasLog t m cs)). (x.1.0, cs, x.1.1, x.1.2))
        (before j u m cs e h)

    fit : (j : ℕ) (u : V) → get_elem? views j ≡ some u → u.ended ≡ false → FitsBoard pads k.seats u
    fit j u e on = ⊎_elim
        (λ (x : (j ≡ id) × (w ≡ u)). subst (FitsBoard pads k.seats) x.1 (k.fit id v at live))
        (λ (x : (j ≢ id) × (get_elem? s.views j ≡ some u)). k.fit j u x.1 on)
        (at_set s.views id j w u e)

    numbers : (j : ℕ) (u : V) (m : ℕ) (cs : List (Call P O)) → get_elem? views j ≡ some u → HasLog u m cs → m < k.seats
    numbers j u m cs e h = let t = stood j u m cs e h in k.numbers j t.0 m t.1 t.2 t.3

    apart : (i j : ℕ) (u t : V) (m : ℕ) (cs ds : List (Call P O)) → get_elem? views i ≡ some u → get_elem? views j ≡ some t → HasLog u m cs → HasLog t m ds → i ≡ j
    apart i j u t m cs ds e f g h = let a = stood i u m cs e g in let b = stood j t m ds f h in k.apart i j a.0 b.0 m a.1 b.1 a.2 b.2 a.3 b.3

    calls_here : (j : ℕ) (u : V) → get_elem? views j ≡ some u → (m : ℕ) (cs : List (Call P O)) → HasLog u m cs → by m ((k.each_pad p lt).history ++ (v.number, c) ∷ []) ≡ on p cs
    calls_here j u e m cs h = let d = k.each_pad p lt in
        by_longer m d.history (v.number, c) ∙
        ⊎_elim
        (λ (x : (j ≡ id) × (m ≡ v.number) × (cs ≡ w.calls)). subst (λ (z : ℕ × List (Call P O)). by z.0 d.history ++ cond (eqb v.number z.0) (c ∷ []) [] ≡ on p z.1) (λ i. (sym x.1 i, sym x.2 i))
        ((λ i. d.calls_are id v at v.number v.calls (own_log v live) i ++ cond (eq-eqb v.number v.number refl i) (c ∷ []) []) ∙ sym (on_longer p v.calls c ∙ (λ i. on p v.calls ++ cond (eq-eqb p p refl i) (c ∷ []) []))))
        (λ (x : (m ≢ v.number) × ((t : V) × (get_elem? s.views j ≡ some t) × HasLog t m cs)). (λ i. by m d.history ++ cond (ne_eqb v.number m (λ z. x.0 (sym z)) i) (c ∷ []) []) ∙ append-nil (by m d.history) ∙ d.calls_are j x.1.0 x.1.1 m cs x.1.2)
        (before j u m cs e h)

    calls_else : (z : ℕ) (ne : z ≢ p) (less : z < length s.homes) (j : ℕ) (u : V) → get_elem? views j ≡ some u → (m : ℕ) (cs : List (Call P O)) → HasLog u m cs → by m (k.each_pad z less).history ≡ on z cs
    calls_else z ne less j u e m cs h = let d = k.each_pad z less in
        ⊎_elim
        (λ (x : (j ≡ id) × (m ≡ v.number) × (cs ≡ w.calls)). subst (λ (y : ℕ × List (Call P O)). by y.0 d.history ≡ on z y.1) (λ i. (sym x.1 i, sym x.2 i))
        (d.calls_are id v at v.number v.calls (own_log v live) ∙ sym (on_longer z v.calls c ∙ (λ i. on z v.calls ++ cond (ne_eqb p z (λ y. ne (sym y)) i) (c ∷ []) []) ∙ append-nil (on z v.calls))))
        (λ (x : (m ≢ v.number) × ((t : V) × (get_elem? s.views j ≡ some t) × HasLog t m cs)). d.calls_are j x.1.0 x.1.1 m cs x.1.2)
        (before j u m cs e h)

    none_here : (m : ℕ) → k.seats ≤ m → by m ((k.each_pad p lt).history ++ (v.number, c) ∷ []) ≡ []
    none_here m le = let d = k.each_pad p lt in let less : v.number < k.seats = k.numbers id v v.number v.calls at (own_log v live) in
        by_longer m d.history (v.number, c) ∙ (λ i. by m d.history ++ cond (ne_eqb v.number m (λ z. omega arith) i) (c ∷ []) []) ∙ append-nil (by m d.history) ∙ d.no_others m le

    pads_kept : (z : ℕ) → z < length homes → Dec (z ≡ p) → PadKept fits cause (z / pads) z (get_or words z 0) homes views k.seats
    pads_kept z less (yes is) = let d = k.each_pad p lt in
        subst (λ (y : ℕ). PadKept fits cause (y / pads) y (get_or words y 0) homes views k.seats) (sym is)
        record {
          history = d.history ++ (v.number, c) ∷ [];
          mode = next d.mode v.number kind;
          legal = longer fits cause (p / pads) closed d.mode d.history (v.number, c) d.legal may;
          word_is = get_or-set_same s.words p n 0 (let l = k.long in omega arith) ∙ word;
          home_is = here;
          calls_are = calls_here;
          no_others = none_here;
        }
    pads_kept z less (no ne) = let less' : z < length s.homes = omega arith in let d = k.each_pad z less' in
        record {
          history = d.history;
          mode = d.mode;
          legal = d.legal;
          word_is = get_or-set_other s.words p z n 0 ne ∙ d.word_is;
          home_is = else z ne ∙ d.home_is;
          calls_are = calls_else z ne less';
          no_others = d.no_others;
        }

    pub moved : K record { words = words; homes = homes; views = views }
    moved = record {
      seats = k.seats;
      long = length-set s.words p n ∙ k.long ∙ sym long;
      fit = fit;
      numbers = numbers;
      apart = apart;
      each_pad = λ z less. pads_kept z less (ℕ_discrete z p);
    }

    -- the word that the seat has then seen, and the one that it had seen
    pub risen : last_seen v p ≤ last_seen w p
    risen = let d = k.each_pad p lt in let a = (known s k id p v lt live at).1 in let b = rises fits cause (p / pads) d.mode v.number q kind may in let l = left_is fits cause (p / pads) d.mode v.number q kind may in
        let e : last_seen w p ≡ left_word q kind = last_logged v p q kind in
        omega arith
