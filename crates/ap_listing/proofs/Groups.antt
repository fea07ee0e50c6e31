-- What the code holds of a predicate's clauses, with one more clause.
use Rattle.std.proofs.Common.{◌≡◌, ℕ, suc, ◌<◌, ◌≤◌, ◌+◌, Bool, true, false, cond, not, ◌||◌, List, [], ◌∷◌, ◌++◌, length, get_or, map, Some, None, refl, ap, ap₂, sym, ◌∙◌, arith}
use Rattle.std.proofs.Math.ListN.{set}
use Rattle.std.specs.Prelude.{if◌then◌else◌}
use Rattle.std.specs.List.{list_any, position_or_len}
use Rattle.std.proofs.lemmas.List.{append-nil, map-append, map-set, get_or-map}
use Rattle.indexmap.specs.IndexSet.{insert_key}
use Rattle.ap_instr.specs.Code.{Compiled}
use Rattle.ap_index.specs.declared.key.Key.{Key}
use Rattle.ap_index.specs.declared.key.Key.TheVariants.{Atom, Integer, Structure}
use Rattle.ap_index.specs.Keys.{same_key, key_at}
use Rattle.ap_listing.specs.declared.choices.Group.{Group}
use Rattle.ap_listing.specs.declared.choices.Choices.{Choices}
use Rattle.ap_listing.specs.contracts.lookup.AskedPartialEq.TheImpl.{eq-value}
use Rattle.ap_listing.specs.Switch.{open_clauses, with_key, keys_of, groups}
use Rattle.ap_listing.specs.Grouped.{asked_of, group_of, with_clause, IsGrouped}
use Rattle.ap_listing.proofs.Sets.{each, each-turn}
use Rattle.ap_listing.proofs.Keys.{with_keys-append, clauses_for-unasked, are_apart, open_clauses-more, groups-open, groups-set, groups-new, length-groups, any-past, any-within}

-- ---- keys as they are looked up

asked-eq : (a b : Key) → eq-value.it (asked_of a) (asked_of b) ≡ same_key a b
asked-eq (Atom a) (Atom b) = refl
asked-eq (Atom a) (Integer b) = refl
asked-eq (Atom a) (Structure g m) = refl
asked-eq (Integer a) (Atom b) = refl
asked-eq (Integer a) (Integer b) = refl
asked-eq (Integer a) (Structure g m) = refl
asked-eq (Structure f n) (Atom b) = refl
asked-eq (Structure f n) (Integer b) = refl
asked-eq (Structure f n) (Structure g m) = refl

position-asked : (j : Key) (ks : List Key) → position_or_len (eq-value.it (asked_of j)) (map asked_of ks) ≡ position_or_len (same_key j) ks
position-asked j [] = refl
position-asked j (k ∷ ks) = ap₂ (λ b n. cond (not b) (1 + n) 0) (asked-eq j k) (position-asked j ks)

any-asked : (j : Key) (ks : List Key) → list_any (eq-value.it (asked_of j)) (map asked_of ks) ≡ list_any (same_key j) ks
any-asked j [] = refl
any-asked j (k ∷ ks) = ap₂ (λ a b. a || b) (asked-eq j k) (any-asked j ks)

put_by : (j : Key) (ks : List Key) (b : Bool) → (if b then map asked_of ks else map asked_of ks ++ asked_of j ∷ []) ≡ map asked_of (if b then ks else ks ++ j ∷ [])
put_by j ks true = refl
put_by j ks false = sym (map-append asked_of ks (j ∷ []))

insert-asked : (j : Key) (ks : List Key) → insert_key eq-value.it (map asked_of ks) (asked_of j) ≡ map asked_of (with_key ks (Some j))
insert-asked j ks =
    ap (λ b. if b then map asked_of ks else map asked_of ks ++ asked_of j ∷ []) (any-asked j ks) ∙ put_by j ks (list_any (same_key j) ks)

pub length-map : {A B : Type 0} (f : A → B) (xs : List A) → length (map f xs) ≡ length xs
length-map f [] = refl
length-map f (x ∷ xs) = ap suc (length-map f xs)

-- ---- a group with one more clause

at_place : (i : ℕ) (xs : List Group) (at : Group) → i < length xs → at ≡ get_or xs i at → get_or (map group_of xs) i (group_of at) ≡ group_of at
at_place i xs at l e = get_or-map group_of xs i at (group_of at) l ∙ ap group_of (sym e)

pub put-group : (m i : ℕ) (xs : List Group) (at new : Group) → i < length xs → at ≡ get_or xs i at → group_of new ≡ with_clause m (group_of at)
    → map group_of (set xs i new) ≡ set (map group_of xs) i (with_clause m (get_or (map group_of xs) i (group_of at)))
put-group m i xs at new l e changed =
    map-set group_of xs i new ∙ ap (set (map group_of xs) i) (changed ∙ ap (with_clause m) (sym (at_place i xs at l e)))

pub each-group : (m i : ℕ) (xs ys : List Group) (at new : Group) → i < length ys → length xs ≡ length ys → at ≡ get_or xs i at → group_of new ≡ with_clause m (group_of at)
    → map group_of xs ≡ each (with_clause m) i (map group_of ys) → map group_of (set xs i new) ≡ each (with_clause m) (i + 1) (map group_of ys)
each-group m i xs ys at new l count e changed held =
    put-group m i xs at new (omega arith) e changed
    ∙ ap (λ gs. set gs i (with_clause m (get_or gs i (group_of at)))) held
    ∙ each-turn (with_clause m) (group_of at) i (map group_of ys) (omega (arith, length-map group_of ys))

-- ---- one more clause

module _ (code : Compiled) (ls : List ℕ) (m : ℕ) (old new : Choices) (g : IsGrouped code ls old) where
  -- which asks for nothing
  pub grouped-open : key_at code m ≡ None → new.numbers.keys ≡ old.numbers.keys → map group_of new.groups.items ≡ map (with_clause m) (map group_of old.groups.items)
      → new.others.items ≡ old.others.items ++ m ∷ [] → IsGrouped code (ls ++ m ∷ []) new
  grouped-open none numbers groups_are others =
      let same : keys_of code (ls ++ m ∷ []) ≡ keys_of code ls = with_keys-append code [] ls m ∙ ap (with_key (keys_of code ls)) none in
      record {
        numbers = numbers ∙ g.numbers ∙ ap (map asked_of) (sym same);
        are = groups_are ∙ ap (map (with_clause m)) g.are ∙ sym (groups-open code ls m (keys_of code ls) none) ∙ ap (groups code (ls ++ m ∷ [])) (sym same);
        left = others ∙ ap (λ x. x ++ m ∷ []) g.left ∙ sym (open_clauses-more code ls m None none);
      }

  module _ (key : Key) (asked : key_at code m ≡ Some key) (number : ℕ) (at : number ≡ position_or_len (eq-value.it (asked_of key)) old.numbers.keys)
      (inserted : new.numbers.keys ≡ insert_key eq-value.it old.numbers.keys (asked_of key)) where
    keys_are : keys_of code (ls ++ m ∷ []) ≡ with_key (keys_of code ls) (Some key)
    keys_are = with_keys-append code [] ls m ∙ ap (with_key (keys_of code ls)) asked

    number_is : number ≡ position_or_len (same_key key) (keys_of code ls)
    number_is = at ∙ ap (position_or_len (eq-value.it (asked_of key))) g.numbers ∙ position-asked key (keys_of code ls)

    count : length old.groups.items ≡ length (keys_of code ls)
    count = sym (length-map group_of old.groups.items) ∙ ap length g.are ∙ length-groups code ls (keys_of code ls)

    numbers_are : new.numbers.keys ≡ map asked_of (keys_of code (ls ++ m ∷ []))
    numbers_are =
        inserted ∙ ap (λ x. insert_key eq-value.it x (asked_of key)) g.numbers ∙ insert-asked key (keys_of code ls) ∙ ap (map asked_of) (sym keys_are)

    open_same : open_clauses code (ls ++ m ∷ []) ≡ open_clauses code ls
    open_same = open_clauses-more code ls m (Some key) asked ∙ append-nil (open_clauses code ls)

    -- which asks for a key that has a group
    pub grouped-old : (d : Key × List ℕ) → number < length old.groups.items
        → map group_of new.groups.items ≡ set (map group_of old.groups.items) number (with_clause m (get_or (map group_of old.groups.items) number d))
        → new.others.items ≡ old.others.items → IsGrouped code (ls ++ m ∷ []) new
    grouped-old d within changed others =
        let inside : position_or_len (same_key key) (keys_of code ls) < length (keys_of code ls) = omega (arith, number_is, count) in
        let same : keys_of code (ls ++ m ∷ []) ≡ keys_of code ls = keys_are ∙ ap (λ b. if b then keys_of code ls else keys_of code ls ++ key ∷ []) (any-within (same_key key) (keys_of code ls) inside) in
        let by_set = groups-set code ls m key asked d (keys_of code ls) (are_apart code [] ls tt) inside in
        let moved : set (map group_of old.groups.items) number (with_clause m (get_or (map group_of old.groups.items) number d)) ≡ groups code (ls ++ m ∷ []) (keys_of code ls) =
        ap₂ (λ gs n. set gs n (with_clause m (get_or gs n d))) g.are number_is ∙ sym by_set in
        record {
          numbers = numbers_are;
          are = changed ∙ moved ∙ ap (groups code (ls ++ m ∷ [])) (sym same);
          left = others ∙ g.left ∙ sym open_same;
        }

    -- which asks for one that has none
    pub grouped-new : length old.groups.items ≤ number
        → map group_of new.groups.items ≡ map group_of old.groups.items ++ (key, old.others.items ++ m ∷ []) ∷ []
        → new.others.items ≡ old.others.items → IsGrouped code (ls ++ m ∷ []) new
    grouped-new past pushed others =
        let none : list_any (same_key key) (keys_of code ls) ≡ false = any-past (same_key key) (keys_of code ls) (omega (arith, number_is, count)) in
        let same : keys_of code (ls ++ m ∷ []) ≡ keys_of code ls ++ key ∷ [] = keys_are ∙ ap (λ b. if b then keys_of code ls else keys_of code ls ++ key ∷ []) none in
        let by_push = groups-new code ls m key (keys_of code ls) asked none (clauses_for-unasked code key [] ls none).1 in
        record {
          numbers = numbers_are;
          are = pushed ∙ ap₂ (λ gs o. gs ++ (key, o ++ m ∷ []) ∷ []) g.are g.left ∙ sym by_push ∙ ap (groups code (ls ++ m ∷ [])) (sym same);
          left = others ∙ g.left ∙ sym open_same;
        }
