-- What an index says of code that stands alone, where other code goes on behind it.
use Rattle.std.proofs.Common.{◌≡◌, ℕ, ◌<◌, ◌≤◌, Bool, true, false, ◌==◌, ◌||◌, ℤ, List, [], ◌∷◌, ◌++◌, length, drop, get_or, slice_get, Option, Some, None, ◌⊎◌, inl, inr, refl, ap, sym, ◌∙◌, subst, arith}
use Rattle.std.specs.Prelude.{if◌then◌else◌, nat_lt}
use Rattle.std.specs.List.{AllByRecursion, list_all}
use Rattle.std.proofs.Math.ListN.{drop_of_length-le}
use Rattle.std.proofs.lemmas.Bool.{and_parts, cases_lt, leb-true, lt-ltb, ltb-true}
use Rattle.std.proofs.lemmas.List.{get_or_past}
use Rattle.std.proofs.lemmas.Option.{slice_get_within, slice_get-get_or}
use Rattle.ap_instr.specs.declared.instruction.Instr.{Instr}
use Rattle.ap_instr.specs.declared.instruction.Instr.TheVariants.{GetConstant, GetInteger, GetStructure, Execute, Proceed, Try, Retry, Trust}
use Rattle.ap_instr.specs.Code.{Compiled}
use Rattle.ap_instr.specs.StandsFor.{tried}
use Rattle.ap_needs.specs.Behind.{Begins, is_ended, NamesOwn, StandsAlone}
use Rattle.ap_needs.proofs.Behind.{all-got, begun-get, begun-same, begun-drop, drop-some, ended-drop}
use Rattle.ap_needs.proofs.Asking.{drop-first, same-from}
use Rattle.ap_index.specs.declared.key.Key.{Key}
use Rattle.ap_index.specs.declared.head.Head.{Head}
use Rattle.ap_index.specs.declared.row.Row.{Row}
use Rattle.ap_index.specs.declared.row.TheConstants.{NONE}
use Rattle.ap_index.specs.declared.row.Link.{Link}
use Rattle.ap_index.specs.declared.rows.Entry.{Entry}
use Rattle.ap_index.specs.declared.rows.Entry.TheVariants.{Nothing, Begins as RowBegins, Rest, Behind}
use Rattle.ap_index.specs.declared.rows.Rows.{Rows}
use Rattle.ap_index.specs.declared.choice.Named.{Named}
use Rattle.ap_index.specs.declared.choice.Next.{Next}
use Rattle.ap_index.specs.declared.choice.Next.TheVariants.{Any, Row as RowNext, Linked}
use Rattle.ap_index.specs.declared.choice.Choice.{Choice}
use Rattle.ap_index.specs.declared.index.Index.{Index}
use Rattle.ap_index.specs.Keys.{leaves_first, integer_key, asked_key, first_key, key_at}
use Rattle.ap_index.specs.declared.head.Ask.{Ask}
use Rattle.ap_index.specs.declared.row.Pair.{Pair}
use Rattle.ap_index.specs.declared.row.Pair.TheVariants.{Never, Only, Open}
use Rattle.ap_index.specs.declared.row.Pairs.{Pairs}
use Rattle.ap_index.specs.Heads.{AreNeeded, IsHeadOf}
use Rattle.ap_index.specs.Pairs.{AsksOtherOf, AsksOtherPair, IsPairOf, pair_for, ArePairsOf}
use Rattle.ap_index.specs.Index.{AsksOther, LeavesOthers, tried_from, named, named_from, in_slot, first_for, IsRowOf, IsRestOf, IsLinkOf, IsEntryOf, AreRowsOf, IsNamedBy, IsNextOf, IsChoiceOf, IsIndexOf}
use Rattle.ap_index.specs.Within.{is_within, is_slot_within, is_row_within, is_link_within, is_next_within, is_choice_within, are_rows_within, is_index_within}

-- ---- choices

tried-behind : (is js : List Instr) → is_ended is ≡ true → 0 < length is → tried (is ++ js) ≡ tried is
tried-behind [] js e l = absurd (omega arith)
tried-behind (Execute q ∷ []) js e l = refl
tried-behind (Proceed ∷ []) js e l = refl
tried-behind (i ∷ []) js e l = absurd (let z : ⊥ = cc in z)
tried-behind (Retry p ∷ (j ∷ is)) js e l = ap (λ ps. p ∷ ps) (tried-behind (j ∷ is) js e (omega arith))
tried-behind (i ∷ (j ∷ is)) js e l = refl

named-behind : (is js : List Instr) → is_ended is ≡ true → 0 < length is → named (is ++ js) ≡ named is
named-behind [] js e l = absurd (omega arith)
named-behind (Execute q ∷ []) js e l = refl
named-behind (Proceed ∷ []) js e l = refl
named-behind (i ∷ []) js e l = absurd (let z : ⊥ = cc in z)
named-behind (Try p ∷ (j ∷ is)) js e l = ap (λ ps. p ∷ ps) (tried-behind (j ∷ is) js e (omega arith))
named-behind (Retry p ∷ (j ∷ is)) js e l = ap (λ ps. p ∷ ps) (tried-behind (j ∷ is) js e (omega arith))
named-behind (i ∷ (j ∷ is)) js e l = refl

-- the first instruction is the choice that names the first clause
naming : (is : List Instr) (p : ℕ) (ps : List ℕ) → named is ≡ p ∷ ps → (i : Instr) × (js : List Instr) × (is ≡ i ∷ js) × ((code : Compiled) (at : ℕ) → NamesOwn code at i → p < length code.instructions)
naming [] p ps e = absurd (let z : ⊥ = cc in z)
naming (Try l ∷ is) p ps e = let q : p ≡ l = cc in (Try l, is, refl, λ code at h. omega arith)
naming (Retry l ∷ is) p ps e = let q : p ≡ l = cc in (Retry l, is, refl, λ code at h. omega arith)
naming (Trust l ∷ is) p ps e = let q : p ≡ l = cc in (Trust l, is, refl, λ code at h. omega arith)
naming (i ∷ is) p ps e = absurd (let z : ⊥ = cc in z)

-- ---- places of rows

slot-within : (n at : ℕ) → is_slot_within n at ≡ true → is_within n (if at == NONE then None else Some at) ≡ true
slot-within n at h = go (at == NONE) h
  where
    go : (b : Bool) → (b || nat_lt at n) ≡ true → is_within n (if b then None else Some at) ≡ true
    go true e = refl
    go false e = e

row-within : (n : ℕ) (r : Row) (slot : ℕ) → is_row_within n r ≡ true → is_within n (in_slot r slot) ≡ true
row-within n r slot h = slot-within n (get_or r.slots.items slot NONE) (go (cases_lt slot (length r.slots.items)))
  where
    go : (slot < length r.slots.items) ⊎ (length r.slots.items ≤ slot) → is_slot_within n (get_or r.slots.items slot NONE) ≡ true
    go (inl l) = all-got (is_slot_within n) r.slots.items slot _ h (slice_get-get_or r.slots.items slot NONE l)
    go (inr l) = ap (is_slot_within n) (get_or_past r.slots.items slot NONE l)

-- ---- code that goes on behind other code

module _ (base code : Compiled) (begins : Begins base code) (alone : StandsAlone base) where
  get-still : (at : ℕ) (i : Instr) → slice_get base.instructions at ≡ Some i → slice_get code.instructions at ≡ Some i
  get-still at i e = begun-get base.instructions code.instructions at i begins.instructions e

  behind : (at : ℕ) → at < length base.instructions → drop at code.instructions ≡ drop at base.instructions ++ drop (length base.instructions) code.instructions
  behind at l = begun-drop base.instructions code.instructions at begins.instructions (omega arith)

  tried-same : (o : Option ℕ) → is_within (length base.instructions) o ≡ true → tried_from code o ≡ tried_from base o
  tried-same None h = refl
  tried-same (Some at) h =
      let l : at < length base.instructions = ltb-true _ _ h in
      ap tried (behind at l) ∙ tried-behind (drop at base.instructions) _ (ended-drop base.instructions at alone.ended) (drop-some base.instructions at l)

  named-same : (o : Option ℕ) → is_within (length base.instructions) o ≡ true → named_from code o ≡ named_from base o
  named-same None h = refl
  named-same (Some at) h =
      let l : at < length base.instructions = ltb-true _ _ h in
      ap named (behind at l) ∙ named-behind (drop at base.instructions) _ (ended-drop base.instructions at alone.ended) (drop-some base.instructions at l)

  integer-still : (i : ℕ) (k : Key) (o : Option ℤ) → slice_get base.integers i ≡ o → integer_key o ≡ Some k → integer_key (slice_get code.integers i) ≡ Some k
  integer-still i k None e h = absurd (let z : ⊥ = cc in z)
  integer-still i k (Some z) e h = ap integer_key (begun-get base.integers code.integers i z begins.integers e) ∙ h

  asked-still : (i : Instr) (k : Key) → asked_key base i ≡ Some k → asked_key code i ≡ Some k
  asked-still (GetConstant c a) k h = h
  asked-still (GetInteger i a) k h = go (a == 1) h
    where
      go : (b : Bool) → (if b then integer_key (slice_get base.integers i) else None) ≡ Some k → (if b then integer_key (slice_get code.integers i) else None) ≡ Some k
      go true e = integer-still i k (slice_get base.integers i) refl e
      go false e = absurd (let z : ⊥ = cc in z)
  asked-still (GetStructure f n a) k h = h
  asked-still i k h = h

  first-still : (is js : List Instr) (k : Key) → first_key base is ≡ Some k → first_key code (is ++ js) ≡ Some k
  first-still [] js k h = absurd (let z : ⊥ = cc in z)
  first-still (i ∷ is) js k h = go (leaves_first i) (first-still is js k) h
    where
      go : (b : Bool) → (first_key base is ≡ Some k → first_key code (is ++ js) ≡ Some k) → (if b then first_key base is else asked_key base i) ≡ Some k
          → (if b then first_key code (is ++ js) else asked_key code i) ≡ Some k
      go true rest e = rest e
      go false rest e = asked-still i k e

  key-still : (at : ℕ) (k : Key) → key_at base at ≡ Some k → key_at code at ≡ Some k
  key-still at k h = go (cases_lt at (length base.instructions))
    where
      go : (at < length base.instructions) ⊎ (length base.instructions ≤ at) → key_at code at ≡ Some k
      go (inl l) = ap (first_key code) (behind at l) ∙ first-still (drop at base.instructions) _ k h
      go (inr l) = absurd (let e = ap (first_key base) (drop_of_length-le base.instructions l) in let z : ⊥ = cc in z)

  others-still : (key : Key) (ps : List ℕ) → AllByRecursion (AsksOther base key) ps → AllByRecursion (AsksOther code key) ps
  others-still key [] h = tt
  others-still key (p ∷ ps) h = (record { asked = h.0.asked; asks = key-still p h.0.asked h.0.asks; other = h.0.other }, others-still key ps h.1)

  leaves-still : (key : Key) (ls rs ks qs : List ℕ) → ks ≡ ls → qs ≡ rs → LeavesOthers base key ls rs → LeavesOthers code key ks qs
  leaves-still key ls rs ks qs e q h = record {
    passed = h.passed;
    are = e ∙ h.are ∙ ap (λ xs. h.passed ++ xs) (sym q);
    others = others-still key h.passed h.others;
  }

  needed-still : (at : ℕ) (asks : List Ask) → at < length base.instructions → AreNeeded base at asks → AreNeeded code at asks
  needed-still at asks l h = λ x y bs run. h x y bs ((same-from base code begins alone at l).back _ x y bs run)

  other-still : (argument : ℕ) (key : Key) (at : ℕ) → AsksOtherOf base argument key at → AsksOtherOf code argument key at
  other-still argument key at h =
      let stands = begun-same base.instructions code.instructions at begins.instructions h.own in
      let here = slice_get-get_or base.instructions at Proceed h.own in
      record {
        own = slice_get_within code.instructions at _ (sym stands ∙ here);
        asked = h.asked;
        needed = needed-still at (record { argument = argument; key = h.asked } ∷ []) h.own h.needed;
        other = h.other;
      }

  all-pairs-still : (argument : ℕ) (one two : Key) (ps : List ℕ) → AllByRecursion (AsksOtherPair base argument one two) ps → AllByRecursion (AsksOtherPair code argument one two) ps
  all-pairs-still argument one two [] h = tt
  all-pairs-still argument one two (p ∷ ps) h = (go h.0, all-pairs-still argument one two ps h.1)
    where
      go : AsksOtherPair base argument one two p → AsksOtherPair code argument one two p
      go (inl a) = inl (other-still 1 one p a)
      go (inr a) = inr (other-still argument two p a)

  pair-still : (argument : ℕ) (one two : Key) (ls : List ℕ) (p : Pair) → IsPairOf base argument one two ls p → IsPairOf code argument one two ls p
  pair-still argument one two ls Never h = all-pairs-still argument one two ls h
  pair-still argument one two ls (Only at) h = record {
    before = h.before;
    behind = h.behind;
    are = h.are;
    others_before = all-pairs-still argument one two h.before h.others_before;
    others_behind = all-pairs-still argument one two h.behind h.others_behind;
  }
  pair-still argument one two ls Open h = tt

  pairs-still : (ls ks : List ℕ) (p : Pairs) → ks ≡ ls → ArePairsOf base ls p → ArePairsOf code ks p
  pairs-still ls ks p e h = λ one two. subst (λ qs. IsPairOf code p.argument one two qs (pair_for p one two)) (sym e) (pair-still p.argument one two ls (pair_for p one two) (h one two))

  row-still : (start : ℕ) (r : Row) → is_row_within (length base.instructions) r ≡ true → IsRowOf base start r → IsRowOf code start r
  row-still start r w h =
      let l : start < length base.instructions = slice_get_within base.instructions start _ h.begins in
      record {
        clause = h.clause;
        begins = get-still start _ h.begins;
        leads = λ key.
            leaves-still key _ _ _ _ (named-same (Some start) (lt-ltb _ _ l)) (named-same (first_for r key) (row-within _ r _ w)) (h.leads key);
        alone = λ key one e.
            let it = h.alone key one e in
            record {
              behind = it.behind;
              leads = leaves-still key _ _ _ _ (named-same (Some start) (lt-ltb _ _ l)) refl it.leads;
              others = leaves-still key it.behind [] it.behind [] refl refl it.others;
            };
        pairs = pairs-still _ _ r.pairs (named-same (Some start) (lt-ltb _ _ l)) h.pairs;
      }

  rest-still : (from : ℕ) (r : Row) → from < length base.instructions → is_row_within (length base.instructions) r ≡ true → IsRestOf base from r → IsRestOf code from r
  rest-still from r l w h = λ key. leaves-still key _ _ _ _ (tried-same (Some from) (lt-ltb _ _ l)) (tried-same (first_for r key) (row-within _ r _ w)) (h key)

  link-still : (from : ℕ) (l : Link) → from < length base.instructions → is_link_within (length base.instructions) l ≡ true → IsLinkOf base from l → IsLinkOf code from l
  link-still from l inside w h = λ key same. leaves-still key _ _ _ _ (tried-same (Some from) (lt-ltb _ _ inside)) (tried-same l.next w) (h key same)

  entry-still : (rows : List Row) (links : List Link) (from : ℕ) (e : Entry) → from < length base.instructions → list_all (is_row_within (length base.instructions)) rows ≡ true → list_all (is_link_within (length base.instructions)) links ≡ true
      → IsEntryOf base rows links from e → IsEntryOf code rows links from e
  entry-still rows links from Nothing l w v h = h
  entry-still rows links from (RowBegins n) l w v h = (h.0, h.1, row-still from h.0 (all-got _ rows n h.0 w h.1) h.2)
  entry-still rows links from (Rest n) l w v h = (h.0, h.1, rest-still from h.0 l (all-got _ rows n h.0 w h.1) h.2)
  entry-still rows links from (Behind n) l w v h = (h.0, h.1, link-still from h.0 l (all-got _ links n h.0 v h.1) h.2)

  rows-still : (r : Rows) → are_rows_within (length base.instructions) r ≡ true → AreRowsOf base r → AreRowsOf code r
  rows-still r w h = record { entries = λ from. go from (cases_lt from (length r.entries.items)) }
    where
      go : (from : ℕ) → (from < length r.entries.items) ⊎ (length r.entries.items ≤ from) → IsEntryOf code r.rows.items r.links.items from (get_or r.entries.items from Nothing)
      go from (inl l) =
          let parts = and_parts _ _ w in
          let both = and_parts _ _ parts.0 in
          let few : length r.entries.items ≤ length base.instructions = leb-true _ _ both.0 in
          entry-still r.rows.items r.links.items from (get_or r.entries.items from Nothing) (omega arith) both.1 parts.1 (h.entries from)
      go from (inr l) = subst (IsEntryOf code r.rows.items r.links.items from) (sym (get_or_past r.entries.items from Nothing l)) tt

  -- ---- choices

  choice-place : (at : ℕ) (n : Named) → IsNamedBy base at n → (at < length base.instructions) × (n.place < length base.instructions)
  choice-place at n h =
      let found = naming (drop at base.instructions) n.place _ h.names in
      let here : slice_get base.instructions at ≡ Some found.0 = drop-first base.instructions at found.0 found.1 found.2 in
      (slice_get_within base.instructions at found.0 here, found.3 base at (alone.names at found.0 here))

  named-still : (at : ℕ) (n : Named) → is_within (length base.instructions) n.behind ≡ true → IsNamedBy base at n → IsNamedBy code at n
  named-still at n w h =
      let l = lt-ltb _ _ (choice-place at n h).0 in
      record {
        names = named-same (Some at) l ∙ h.names ∙ ap (λ ps. n.place ∷ ps) (sym (tried-same n.behind w));
        begins = λ e. get-still at _ (h.begins e);
        goes_on = λ e. named-same (Some at) l ∙ h.goes_on e ∙ sym (tried-same (Some at) l);
      }

  head-still : (at : ℕ) (h : Head) → at < length base.instructions → IsHeadOf base at h → IsHeadOf code at h
  head-still at h l is =
      let same = same-from base code begins alone at l in
      record {
        needed = λ x y bs run. is.needed x y bs (same.back _ x y bs run);
        enough = λ whole openly x y met. let run = is.enough whole (same.back_openly openly) x y met in (run.0, same.to _ x y run.0 run.1);
      }

  next-still : (behind : Option ℕ) (n : Next) → is_within (length base.instructions) behind ≡ true → is_next_within (length base.instructions) n ≡ true → IsNextOf base behind n → IsNextOf code behind n
  next-still behind Any w v h = tt
  next-still behind RowNext w v h = tt
  next-still behind (Linked l) w v h = λ from e. link-still from l (ltb-true _ _ (ap (is_within (length base.instructions)) (sym e) ∙ w)) v (h from e)

  choice-still : (c : Choice) → is_choice_within (length base.instructions) c ≡ true → IsChoiceOf base c → IsChoiceOf code c
  choice-still c w h =
      let parts = and_parts _ _ w in
      record {
        named = named-still c.at c.named parts.0 h.named;
        head = head-still c.named.place c.head (choice-place c.at c.named h.named).1 h.head;
        short = h.short;
        next = next-still c.named.behind c.next parts.0 parts.1 h.next;
      }

  pub index-behind : (i : Index) → is_index_within (length base.instructions) i ≡ true → IsIndexOf base i → IsIndexOf code i
  index-behind i w h =
      let parts = and_parts _ _ w in
      record {
        rows = rows-still i.rows parts.0 h.rows;
        choices = λ n c e. choice-still c (all-got _ i.choices.items n c parts.1 e) (h.choices n c e);
      }
