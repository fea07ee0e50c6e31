-- The keys that clauses ask for, each once, and the clauses for each.
use Rattle.std.proofs.Common.{◌≡◌, ℕ, suc, ◌+◌, ◌<◌, ◌≤◌, Bool, true, false, cond, not, ◌||◌, ◌&&◌, List, [], ◌∷◌, ◌++◌, length, get_or, map, Option, Some, None, refl, ap, ap₂, sym, ◌∙◌, subst, arith}
use Rattle.std.proofs.Math.ListN.{set}
use Rattle.std.specs.Prelude.{if◌then◌else◌}
use Rattle.std.specs.List.{list_any, position_or_len}
use Rattle.std.proofs.lemmas.List.{append-nil}
use Rattle.std.proofs.lemmas.List.Elements.{filter-append}
use Rattle.std.proofs.lemmas.List.Folds.{list_any-append}
use Rattle.std.proofs.lemmas.Bool.{false≢true}
use Rattle.std.proofs.lemmas.Bool.Decides.{Decides-eqb, Decides-int_eq}
use Rattle.ap_instr.specs.Code.{Compiled}
use Rattle.ap_index.specs.declared.key.Key.{Key}
use Rattle.ap_index.specs.declared.key.Key.TheVariants.{Atom, Integer, Structure}
use Rattle.ap_index.specs.Keys.{same_key, key_at}
use Rattle.ap_index.proofs.Same.{true-same}
use Rattle.ap_listing.specs.Switch.{is_met, asks_nothing, clauses_for, open_clauses, with_key, with_keys, groups}
use Rattle.ap_listing.specs.Grouped.{with_clause}

-- ---- tests

pub not_true : (b : Bool) → (b ≡ true → ⊥) → b ≡ false
not_true true h = absurd (h refl)
not_true false h = refl

pub or_false : (a b : Bool) → (a || b) ≡ false → (a ≡ false) × (b ≡ false)
or_false true b h = absurd (false≢true (sym h))
or_false false b h = (refl, h)

pub same_key-itself : (k : Key) → same_key k k ≡ true
same_key-itself (Atom a) = (Decides-eqb a a).1 refl
same_key-itself (Integer z) = (Decides-int_eq z z).1 refl
same_key-itself (Structure f n) = ap₂ (λ a b. a && b) ((Decides-eqb f f).1 refl) ((Decides-eqb n n).1 refl)

-- a key that isn't the same as another one, nor is that one the same as it
pub apart-back : (j k : Key) → same_key j k ≡ false → same_key k j ≡ false
apart-back j k h = not_true (same_key k j) (λ e. false≢true (sym h ∙ subst (λ x. same_key j x ≡ true) (sym (true-same k j e)) (same_key-itself j)))

-- ---- with one more key

kept_by : (P : Key → Bool) (b : Bool) (ks : List Key) (j : Key) → list_any P ks ≡ true → list_any P (if b then ks else ks ++ j ∷ []) ≡ true
kept_by P true ks j h = h
kept_by P false ks j h = list_any-append P ks (j ∷ []) ∙ ap (λ c. c || list_any P (j ∷ [])) h

here_by : (k : Key) (b : Bool) (ks : List Key) → list_any (same_key k) ks ≡ b → list_any (same_key k) (if b then ks else ks ++ k ∷ []) ≡ true
here_by k true ks e = e
here_by k false ks e =
    list_any-append (same_key k) ks (k ∷ []) ∙ ap (λ c. c || (same_key k k || false)) e ∙ ap (λ c. c || false) (same_key-itself k)

-- a key that isn't there with another one is apart from that, and wasn't there without it
missing : (k j : Key) (ks : List Key) → list_any (same_key k) (with_key ks (Some j)) ≡ false → (list_any (same_key k) ks ≡ false) × (same_key j k ≡ false)
missing k j ks h = (
  not_true (list_any (same_key k) ks) (λ e. false≢true (sym h ∙ kept_by (same_key k) (list_any (same_key j) ks) ks j e)),
  not_true (same_key j k) (λ e. false≢true (sym h ∙ subst (λ x. list_any (same_key x) (with_key ks (Some j)) ≡ true) (true-same j k e) (here_by j (list_any (same_key j) ks) ks refl))),
)

pub with_keys-append : (code : Compiled) (ks : List Key) (ls : List ℕ) (m : ℕ) → with_keys code ks (ls ++ m ∷ []) ≡ with_key (with_keys code ks ls) (key_at code m)
with_keys-append code ks [] m = refl
with_keys-append code ks (l ∷ ls) m = with_keys-append code (with_key ks (key_at code l)) ls m

-- ---- a key that no clause asks for

open_turn : (code : Compiled) (k : Key) (ks : List Key) (l : ℕ) (ls : List ℕ) (o : Option Key) → list_any (same_key k) (with_key ks o) ≡ false
    → clauses_for code ls k ≡ open_clauses code ls
    → (list_any (same_key k) ks ≡ false) × (cond (is_met k o) (l ∷ clauses_for code ls k) (clauses_for code ls k) ≡ cond (asks_nothing o) (l ∷ open_clauses code ls) (open_clauses code ls))
open_turn code k ks l ls None h r = (h, ap (λ x. l ∷ x) r)
open_turn code k ks l ls (Some j) h r =
    let m = missing k j ks h in
    (m.0, ap (λ b. cond b (l ∷ clauses_for code ls k) (clauses_for code ls k)) m.1 ∙ r)

-- the clauses for it are those that ask for none
pub clauses_for-unasked : (code : Compiled) (k : Key) (ks : List Key) (ls : List ℕ) → list_any (same_key k) (with_keys code ks ls) ≡ false → (list_any (same_key k) ks ≡ false) × (clauses_for code ls k ≡ open_clauses code ls)
clauses_for-unasked code k ks [] h = (h, refl)
clauses_for-unasked code k ks (l ∷ ls) h =
    let r = clauses_for-unasked code k (with_key ks (key_at code l)) ls h in
    open_turn code k ks l ls (key_at code l) r.0 r.1

-- ---- each key once

abbrev pub AreApart : List Key → Type 0
AreApart [] = Unit {0}
AreApart (k ∷ ks) = (list_any (same_key k) ks ≡ false) × AreApart ks

apart-push : (ks : List Key) (j : Key) → AreApart ks → list_any (same_key j) ks ≡ false → AreApart (ks ++ j ∷ [])
apart-push [] j a h = (refl, tt)
apart-push (k ∷ ks) j a h =
    let o = or_false (same_key j k) (list_any (same_key j) ks) h in (
      list_any-append (same_key k) ks (j ∷ []) ∙ ap (λ c. c || (same_key k j || false)) a.0 ∙ ap (λ c. c || false) (apart-back j k o.0),
      apart-push ks j a.1 o.1,
    )

apart-by : (ks : List Key) (j : Key) (b : Bool) → AreApart ks → list_any (same_key j) ks ≡ b → AreApart (if b then ks else ks ++ j ∷ [])
apart-by ks j true a e = a
apart-by ks j false a e = apart-push ks j a e

apart-with : (ks : List Key) (o : Option Key) → AreApart ks → AreApart (with_key ks o)
apart-with ks None a = a
apart-with ks (Some j) a = apart-by ks j (list_any (same_key j) ks) a refl

pub are_apart : (code : Compiled) (ks : List Key) (ls : List ℕ) → AreApart ks → AreApart (with_keys code ks ls)
are_apart code ks [] a = a
are_apart code ks (l ∷ ls) a = are_apart code (with_key ks (key_at code l)) ls (apart-with ks (key_at code l) a)

-- ---- one more clause

module _ (code : Compiled) (ls : List ℕ) (m : ℕ) where
  clauses_for-more : (k : Key) (o : Option Key) → key_at code m ≡ o → clauses_for code (ls ++ m ∷ []) k ≡ clauses_for code ls k ++ (if is_met k o then m ∷ [] else [])
  clauses_for-more k o e =
      filter-append (λ l. is_met k (key_at code l)) ls (m ∷ []) ∙ ap (λ x. clauses_for code ls k ++ (if is_met k x then m ∷ [] else [])) e

  pub open_clauses-more : (o : Option Key) → key_at code m ≡ o → open_clauses code (ls ++ m ∷ []) ≡ open_clauses code ls ++ (if asks_nothing o then m ∷ [] else [])
  open_clauses-more o e =
      filter-append (λ l. asks_nothing (key_at code l)) ls (m ∷ []) ∙ ap (λ x. open_clauses code ls ++ (if asks_nothing x then m ∷ [] else [])) e

  clauses_for-met : (k j : Key) → key_at code m ≡ Some j → same_key j k ≡ true → clauses_for code (ls ++ m ∷ []) k ≡ clauses_for code ls k ++ m ∷ []
  clauses_for-met k j e s = clauses_for-more k (Some j) e ∙ ap (λ b. clauses_for code ls k ++ (if b then m ∷ [] else [])) s

  clauses_for-unmet : (k j : Key) → key_at code m ≡ Some j → same_key j k ≡ false → clauses_for code (ls ++ m ∷ []) k ≡ clauses_for code ls k
  clauses_for-unmet k j e s =
      clauses_for-more k (Some j) e ∙ ap (λ b. clauses_for code ls k ++ (if b then m ∷ [] else [])) s ∙ append-nil (clauses_for code ls k)

  -- which asks for nothing: each group has it
  pub groups-open : (ks : List Key) → key_at code m ≡ None → groups code (ls ++ m ∷ []) ks ≡ map (with_clause m) (groups code ls ks)
  groups-open [] e = refl
  groups-open (k ∷ ks) e = ap₂ (λ x y. (k, x) ∷ y) (clauses_for-more k None e) (groups-open ks e)

  -- which asks for a key that has no group
  pub groups-apart : (j : Key) (ks : List Key) → key_at code m ≡ Some j → list_any (same_key j) ks ≡ false → groups code (ls ++ m ∷ []) ks ≡ groups code ls ks
  groups-apart j [] e h = refl
  groups-apart j (k ∷ ks) e h =
      let o = or_false (same_key j k) (list_any (same_key j) ks) h in
      ap₂ (λ x y. (k, x) ∷ y) (clauses_for-unmet k j e o.0) (groups-apart j ks e o.1)

  -- which asks for a key that has one: that one alone has it
  module _ (j : Key) (asked : key_at code m ≡ Some j) (d : Key × List ℕ) where
    abbrev changed : ℕ → List (Key × List ℕ) → List (Key × List ℕ)
    changed i gs = set gs i (with_clause m (get_or gs i d))

    set_by : (k : Key) (ks : List Key) (b : Bool) → same_key j k ≡ b → AreApart (k ∷ ks)
        → cond (not b) (1 + position_or_len (same_key j) ks) 0 < suc (length ks)
        → (position_or_len (same_key j) ks < length ks → groups code (ls ++ m ∷ []) ks ≡ changed (position_or_len (same_key j) ks) (groups code ls ks))
        → groups code (ls ++ m ∷ []) (k ∷ ks) ≡ changed (cond (not b) (1 + position_or_len (same_key j) ks) 0) (groups code ls (k ∷ ks))
    set_by k ks true e a l r =
        ap₂ (λ x y. (k, x) ∷ y) (clauses_for-met k j asked e) (groups-apart j ks asked (subst (λ x. list_any (same_key x) ks ≡ false) (sym (true-same j k e)) a.0))
    set_by k ks false e a l r =
        let s : suc (position_or_len (same_key j) ks) ≡ 1 + position_or_len (same_key j) ks = omega arith in
        subst (λ i. groups code (ls ++ m ∷ []) (k ∷ ks) ≡ changed i (groups code ls (k ∷ ks))) s
        (ap₂ (λ x y. (k, x) ∷ y) (clauses_for-unmet k j asked e) (r (omega arith)))

    pub groups-set : (ks : List Key) → AreApart ks → position_or_len (same_key j) ks < length ks
        → groups code (ls ++ m ∷ []) ks ≡ set (groups code ls ks) (position_or_len (same_key j) ks) (with_clause m (get_or (groups code ls ks) (position_or_len (same_key j) ks) d))
    groups-set [] a l = absurd (omega arith)
    groups-set (k ∷ ks) a l = set_by k ks (same_key j k) refl a l (groups-set ks a.1)

  -- which asks for a key that has none: its group is put last
  pub groups-push : (j : Key) (ks : List Key) → groups code (ls ++ m ∷ []) (ks ++ j ∷ []) ≡ groups code (ls ++ m ∷ []) ks ++ (j, clauses_for code (ls ++ m ∷ []) j) ∷ []
  groups-push j [] = refl
  groups-push j (k ∷ ks) = ap (λ y. (k, clauses_for code (ls ++ m ∷ []) k) ∷ y) (groups-push j ks)

  pub groups-new : (j : Key) (ks : List Key) → key_at code m ≡ Some j → list_any (same_key j) ks ≡ false → clauses_for code ls j ≡ open_clauses code ls
      → groups code (ls ++ m ∷ []) (ks ++ j ∷ []) ≡ groups code ls ks ++ (j, open_clauses code ls ++ m ∷ []) ∷ []
  groups-new j ks e h o =
      groups-push j ks ∙ ap₂ (λ x y. x ++ (j, y) ∷ []) (groups-apart j ks e h) (clauses_for-met j j e (same_key-itself j) ∙ ap (λ x. x ++ m ∷ []) o)

pub length-groups : (code : Compiled) (ls : List ℕ) (ks : List Key) → length (groups code ls ks) ≡ length ks
length-groups code ls [] = refl
length-groups code ls (k ∷ ks) = ap suc (length-groups code ls ks)

-- ---- where a key is

any_by : (b : Bool) (P : Key → Bool) (ks : List Key) → suc (length ks) ≤ cond (not b) (1 + position_or_len P ks) 0 → (length ks ≤ position_or_len P ks → list_any P ks ≡ false) → (b || list_any P ks) ≡ false
any_by true P ks l r = absurd (omega arith)
any_by false P ks l r = r (omega arith)

pub any-past : (P : Key → Bool) (ks : List Key) → length ks ≤ position_or_len P ks → list_any P ks ≡ false
any-past P [] l = refl
any-past P (k ∷ ks) l = any_by (P k) P ks l (any-past P ks)

in_by : (b : Bool) (P : Key → Bool) (ks : List Key) → cond (not b) (1 + position_or_len P ks) 0 < suc (length ks) → (position_or_len P ks < length ks → list_any P ks ≡ true) → (b || list_any P ks) ≡ true
in_by true P ks l r = refl
in_by false P ks l r = r (omega arith)

pub any-within : (P : Key → Bool) (ks : List Key) → position_or_len P ks < length ks → list_any P ks ≡ true
any-within P [] l = absurd (omega arith)
any-within P (k ∷ ks) l = in_by (P k) P ks l (any-within P ks)
