-- The rows of a table, one after another.
use Rattle.std.proofs.Common.{◌≡◌, ℕ, zero, suc, ◌<◌, ◌≤◌, Bool, true, false, ◌==◌, ◌&&◌, cond, is_none, unwrap_or, List, [], ◌∷◌, ◌++◌, length, get_or, Option, Some, None, refl, ap, ap₂, sym, ◌∙◌, arith}
use Rattle.std.proofs.Math.ListN.{set}
use Rattle.std.specs.Option.{option_map}
use Rattle.std.proofs.lemmas.Bool.{false≢true, eqb-true, eq-eqb, and_parts, and_from, false_from_ne_true}
use Rattle.ap_absunify.specs.declared.states.State.{State}
use Rattle.ap_absunify.specs.declared.states.State.TheVariants.{Unreachable}
use Rattle.ap_patterns.specs.declared.tables.Predicate.{Predicate}
use Rattle.ap_patterns.specs.declared.tables.Row.{Row}
use Rattle.ap_patterns.specs.Table.{same_predicate, row_of, place_of, found_at, key_of, is_key, set_row, set_call, set_success, call_of, success_of, calls, successes}

-- ---- predicates

pub same_predicate-true : (p q : Predicate) → same_predicate p q ≡ true → p ≡ q
same_predicate-true p q h =
    let r = and_parts (p.name == q.name) (p.arity == q.arity) h in
    ap₂ (λ n a. record { name = n; arity = a }) (eqb-true p.name q.name r.0) (eqb-true p.arity q.arity r.1)

pub same_predicate-refl : (p : Predicate) → same_predicate p p ≡ true
same_predicate-refl p = and_from (p.name == p.name) (p.arity == p.arity) (eq-eqb p.name p.name refl) (eq-eqb p.arity p.arity refl)

-- ---- the place of a predicate

pub row_of-there : (rs : List Row) (p : Predicate) (d : Row) → place_of rs p < length rs → row_of rs p ≡ Some (get_or rs (place_of rs p) d)
row_of-there [] p d h = absurd (omega arith)
row_of-there (r ∷ rs) p d h = go (same_predicate r.predicate p) h (row_of-there rs p d)
  where
    go : (b : Bool) → cond b 0 (suc (place_of rs p)) < length (r ∷ rs) → (place_of rs p < length rs → row_of rs p ≡ Some (get_or rs (place_of rs p) d))
        → cond b (Some r) (row_of rs p) ≡ Some (get_or (r ∷ rs) (cond b 0 (suc (place_of rs p))) d)
    go true k ih = refl
    go false k ih = ih (omega arith)

pub row_of-none : (rs : List Row) (p : Predicate) → length rs ≤ place_of rs p → row_of rs p ≡ None
row_of-none [] p h = refl
row_of-none (r ∷ rs) p h = go (same_predicate r.predicate p) h (row_of-none rs p)
  where
    go : (b : Bool) → length (r ∷ rs) ≤ cond b 0 (suc (place_of rs p)) → (length rs ≤ place_of rs p → row_of rs p ≡ None) → cond b (Some r) (row_of rs p) ≡ None
    go true k ih = absurd (omega arith)
    go false k ih = ih (omega arith)

pub place_of-found : (rs : List Row) (p : Predicate) → place_of rs p ≡ unwrap_or (found_at rs p) (length rs)
place_of-found [] p = refl
place_of-found (r ∷ rs) p = go (same_predicate r.predicate p) (found_at rs p) (place_of-found rs p)
  where
    go : (b : Bool) (o : Option ℕ) → place_of rs p ≡ unwrap_or o (length rs) → cond b 0 (suc (place_of rs p)) ≡ unwrap_or (cond b (Some 0) (option_map suc o)) (length (r ∷ rs))
    go true o ih = refl
    go false None ih = omega (arith, ih)
    go false (Some i) ih = ap suc ih

pub found_at-push : (rs : List Row) (r : Row) (p : Predicate) → found_at (rs ++ r ∷ []) p ≡ cond (same_predicate r.predicate p && is_none (found_at rs r.predicate)) (Some (length rs)) (found_at rs p)
found_at-push [] r p = go (same_predicate r.predicate p)
  where
    go : (b : Bool) → cond {A = Option ℕ} b (Some 0) None ≡ cond {A = Option ℕ} (b && true) (Some 0) None
    go true = refl
    go false = refl
found_at-push (s ∷ rs) r p = go (same_predicate s.predicate p) refl (same_predicate s.predicate r.predicate) refl (same_predicate r.predicate p) refl (found_at-push rs r p)
  where
    shifted : (c : Bool) (n : ℕ) (o : Option ℕ) → option_map suc (cond c (Some n) o) ≡ cond c (Some (suc n)) (option_map suc o)
    shifted true n o = refl
    shifted false n o = refl

    none_shifted : (o : Option ℕ) → is_none (option_map suc o) ≡ is_none o
    none_shifted None = refl
    none_shifted (Some i) = refl

    go : (a : Bool) → same_predicate s.predicate p ≡ a → (b : Bool) → same_predicate s.predicate r.predicate ≡ b → (c : Bool) → same_predicate r.predicate p ≡ c
        → found_at (rs ++ r ∷ []) p ≡ cond (same_predicate r.predicate p && is_none (found_at rs r.predicate)) (Some (length rs)) (found_at rs p)
        → cond {A = Option ℕ} a (Some 0) (option_map suc (found_at (rs ++ r ∷ []) p)) ≡ cond {A = Option ℕ} (c && is_none (cond b (Some 0) (option_map suc (found_at rs r.predicate)))) (Some (length (s ∷ rs))) (cond a (Some 0) (option_map suc (found_at rs p)))
    go true i true j true k ih = refl
    go true i true j false k ih = refl
    go true i false j false k ih = refl
    go true i false j true k ih = absurd (false≢true (sym j ∙ ap (same_predicate s.predicate) (same_predicate-true r.predicate p k) ∙ i))
    go false i true j true k ih = absurd (false≢true (sym i ∙ ap (same_predicate s.predicate) (sym (same_predicate-true r.predicate p k)) ∙ j))
    go false i true j false k ih =
        ap (option_map suc) (ih ∙ ap (λ b. cond (b && is_none (found_at rs r.predicate)) (Some (length rs)) (found_at rs p)) k)
    go false i false j c k ih =
        ap (option_map suc) (ih ∙ ap (λ b. cond (b && is_none (found_at rs r.predicate)) (Some (length rs)) (found_at rs p)) k)
        ∙ shifted (c && is_none (found_at rs r.predicate)) (length rs) (found_at rs p)
        ∙ ap (λ b. cond (c && b) (Some (suc (length rs))) (option_map suc (found_at rs p))) (sym (none_shifted (found_at rs r.predicate)))

pub found_at-set : (rs : List Row) (i : ℕ) (r d : Row) (p : Predicate) → i < length rs → r.predicate ≡ (get_or rs i d).predicate → found_at (set rs i r) p ≡ found_at rs p
found_at-set [] i r d p h e = absurd (omega arith)
found_at-set (s ∷ rs) zero r d p h e = ap (λ q. cond (same_predicate q p) (Some 0) (option_map suc (found_at rs p))) e
found_at-set (s ∷ rs) (suc i) r d p h e = ap (λ o. cond (same_predicate s.predicate p) (Some 0) (option_map suc o)) (found_at-set rs i r d p (omega arith) e)

-- ---- looked up

pub placed-some : (self rows : List Row) (p : Predicate) (i : ℕ) → self ≡ rows → Some i ≡ found_at rows p → i ≡ place_of self p
placed-some self rows p i e h = ap (λ o. unwrap_or o (length rows)) h ∙ sym (place_of-found rows p) ∙ ap (λ rs. place_of rs p) (sym e)

pub placed-none : (self rows : List Row) (p : Predicate) (n : ℕ) → self ≡ rows → n ≡ length rows → None ≡ found_at rows p → n ≡ place_of self p
placed-none self rows p n e l h = l ∙ ap (λ o. unwrap_or o (length rows)) h ∙ sym (place_of-found rows p) ∙ ap (λ rs. place_of rs p) (sym e)

pub placed-push : (f g : ℕ × ℕ → Option ℕ) (rs items : List Row) (r : Row) (key : ℕ × ℕ) (place : ℕ) (p : Predicate) → ((q : Predicate) → f (key_of q) ≡ found_at rs q)
    → ((k : ℕ × ℕ) → g k ≡ cond (is_key key k && is_none (f key)) (Some place) (f k)) → key ≡ key_of r.predicate → place ≡ length rs → items ≡ rs ++ r ∷ [] → g (key_of p) ≡ found_at items p
placed-push f g rs items r key place p old added k l e =
    added (key_of p)
    ∙ ap₂ (λ z n. cond (is_key z (key_of p) && is_none (f z)) (Some n) (f (key_of p))) k l
    ∙ ap₂ (λ o q. cond (same_predicate r.predicate p && is_none o) (Some (length rs)) q) (old r.predicate) (old p)
    ∙ sym (found_at-push rs r p) ∙ ap (λ zs. found_at zs p) (sym e)

-- ---- a row that is changed, or new

pub set_row-there : (f : Row → Row) (new : Row) (rs : List Row) (d : Row) (p : Predicate) → place_of rs p < length rs
    → set_row f new rs p ≡ set rs (place_of rs p) (f (get_or rs (place_of rs p) d))
set_row-there f new [] d p h = absurd (omega arith)
set_row-there f new (r ∷ rs) d p h = go (same_predicate r.predicate p) h (λ k. set_row-there f new rs d p k)
  where
    go : (b : Bool) → cond b 0 (suc (place_of rs p)) < length (r ∷ rs)
        → (place_of rs p < length rs → set_row f new rs p ≡ set rs (place_of rs p) (f (get_or rs (place_of rs p) d)))
        → cond b (f r ∷ rs) (r ∷ set_row f new rs p) ≡ set (r ∷ rs) (cond b 0 (suc (place_of rs p))) (f (get_or (r ∷ rs) (cond b 0 (suc (place_of rs p))) d))
    go true k ih = refl
    go false k ih = ap (λ l. r ∷ l) (ih (omega arith))

pub set_row-none : (f : Row → Row) (new : Row) (rs : List Row) (p : Predicate) → length rs ≤ place_of rs p → set_row f new rs p ≡ rs ++ new ∷ []
set_row-none f new [] p h = refl
set_row-none f new (r ∷ rs) p h = go (same_predicate r.predicate p) h (λ k. set_row-none f new rs p k)
  where
    go : (b : Bool) → length (r ∷ rs) ≤ cond b 0 (suc (place_of rs p)) → (length rs ≤ place_of rs p → set_row f new rs p ≡ rs ++ new ∷ [])
        → cond b (f r ∷ rs) (r ∷ set_row f new rs p) ≡ r ∷ (rs ++ new ∷ [])
    go true k ih = absurd (omega arith)
    go false k ih = ap (λ l. r ∷ l) (ih (omega arith))

abbrev changed : (Row → Row) → Row → Option Row → Row
changed f new None = new
changed f new (Some r) = f r

row_of-set_row : (f : Row → Row) (new : Row) (rs : List Row) (p q : Predicate) → ((r : Row) → (f r).predicate ≡ r.predicate) → new.predicate ≡ p
    → row_of (set_row f new rs p) q ≡ cond (same_predicate p q) (Some (changed f new (row_of rs p))) (row_of rs q)
row_of-set_row f new [] p q keeps e = ap (λ z. cond (same_predicate z q) (Some new) None) e
row_of-set_row f new (r ∷ rs) p q keeps e = go (same_predicate r.predicate p) refl (row_of-set_row f new rs p q keeps e)
  where
    unlike : (b : Bool) → same_predicate r.predicate q ≡ b → same_predicate r.predicate p ≡ false → (row_of (set_row f new rs p) q ≡ cond (same_predicate p q) (Some (changed f new (row_of rs p))) (row_of rs q))
        → cond b (Some r) (row_of (set_row f new rs p) q) ≡ cond (same_predicate p q) (Some (changed f new (row_of rs p))) (cond b (Some r) (row_of rs q))
    unlike false i n ih = ih
    unlike true i n ih =
        let other : same_predicate p q ≡ false = false_from_ne_true (same_predicate p q) (λ k.
        false≢true (sym n ∙ ap (λ z. same_predicate z p) (same_predicate-true r.predicate q i ∙ sym (same_predicate-true p q k)) ∙ same_predicate-refl p)) in
        ap (λ z. cond z (Some (changed f new (row_of rs p))) (Some r)) (sym other)

    go : (b : Bool) → same_predicate r.predicate p ≡ b → (row_of (set_row f new rs p) q ≡ cond (same_predicate p q) (Some (changed f new (row_of rs p))) (row_of rs q))
        → row_of (cond b (f r ∷ rs) (r ∷ set_row f new rs p)) q ≡ cond (same_predicate p q) (Some (changed f new (cond b (Some r) (row_of rs p)))) (cond (same_predicate r.predicate q) (Some r) (row_of rs q))
    go true i ih =
        let s : r.predicate ≡ p = same_predicate-true r.predicate p i in
        ap (λ z. cond (same_predicate z q) (Some (f r)) (row_of rs q)) (keeps r ∙ s) ∙ both (same_predicate p q) (ap (λ z. same_predicate z q) s)
      where
        both : (b : Bool) → same_predicate r.predicate q ≡ b → cond b (Some (f r)) (row_of rs q) ≡ cond b (Some (f r)) (cond (same_predicate r.predicate q) (Some r) (row_of rs q))
        both true j = refl
        both false j = ap (λ z. cond z (Some r) (row_of rs q)) (sym j)
    go false i ih = unlike (same_predicate r.predicate q) refl i ih

-- the patterns of other predicates, and those of the other kind, stay as they are
pub call-set_call : (rs : List Row) (p q : Predicate) (s : State) → calls (set_call rs p s) q ≡ cond (same_predicate p q) s (calls rs q)
call-set_call rs p q s =
    ap call_of (row_of-set_row (λ r. record r { call = s }) (record { predicate = p; call = s; success = Unreachable }) rs p q (λ r. refl) refl) ∙ go (same_predicate p q) (row_of rs p)
  where
    go : (b : Bool) (o : Option Row) → call_of (cond b (Some (changed (λ r. record r { call = s }) (record { predicate = p; call = s; success = Unreachable }) o)) (row_of rs q)) ≡ cond b s (calls rs q)
    go true None = refl
    go true (Some r) = refl
    go false o = refl

pub success-set_success : (rs : List Row) (p q : Predicate) (s : State) → successes (set_success rs p s) q ≡ cond (same_predicate p q) s (successes rs q)
success-set_success rs p q s =
    ap success_of (row_of-set_row (λ r. record r { success = s }) (record { predicate = p; call = Unreachable; success = s }) rs p q (λ r. refl) refl) ∙ go (same_predicate p q) (row_of rs p)
  where
    go : (b : Bool) (o : Option Row) → success_of (cond b (Some (changed (λ r. record r { success = s }) (record { predicate = p; call = Unreachable; success = s }) o)) (row_of rs q)) ≡ cond b s (successes rs q)
    go true None = refl
    go true (Some r) = refl
    go false o = refl

pub success-set_call : (rs : List Row) (p q : Predicate) (s : State) → successes (set_call rs p s) q ≡ successes rs q
success-set_call rs p q s =
    ap success_of (row_of-set_row (λ r. record r { call = s }) (record { predicate = p; call = s; success = Unreachable }) rs p q (λ r. refl) refl) ∙ go (same_predicate p q) refl (row_of rs p) refl
  where
    go : (b : Bool) → same_predicate p q ≡ b → (o : Option Row) → row_of rs p ≡ o
        → success_of (cond b (Some (changed (λ r. record r { call = s }) (record { predicate = p; call = s; success = Unreachable }) o)) (row_of rs q)) ≡ successes rs q
    go true e None i = ap success_of (sym i) ∙ ap (successes rs) (same_predicate-true p q e)
    go true e (Some r) i = ap success_of (sym i) ∙ ap (successes rs) (same_predicate-true p q e)
    go false e o i = refl

pub call-set_success : (rs : List Row) (p q : Predicate) (s : State) → calls (set_success rs p s) q ≡ calls rs q
call-set_success rs p q s =
    ap call_of (row_of-set_row (λ r. record r { success = s }) (record { predicate = p; call = Unreachable; success = s }) rs p q (λ r. refl) refl) ∙ go (same_predicate p q) refl (row_of rs p) refl
  where
    go : (b : Bool) → same_predicate p q ≡ b → (o : Option Row) → row_of rs p ≡ o
        → call_of (cond b (Some (changed (λ r. record r { success = s }) (record { predicate = p; call = Unreachable; success = s }) o)) (row_of rs q)) ≡ calls rs q
    go true e None i = ap call_of (sym i) ∙ ap (calls rs) (same_predicate-true p q e)
    go true e (Some r) i = ap call_of (sym i) ∙ ap (calls rs) (same_predicate-true p q e)
    go false e o i = refl

pub ruleset rules_of_changes = (set_row-there, set_row-none)

pub ruleset rules_of_rows = (row_of-there, row_of-none)
