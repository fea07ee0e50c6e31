-- The clauses to which a listed switch leads.
use Rattle.std.proofs.Common.{◌≡◌, ℕ, ◌+◌, ◌-◌, ◌≤◌, Bool, true, false, cond, not, ◌||◌, List, [], ◌∷◌, ◌++◌, length, drop, Option, Some, None, refl, ap, ap₂, sym, ◌∙◌, append_assoc, arith}
use Rattle.std.specs.Prelude.{if◌then◌else◌}
use Rattle.std.specs.List.{list_any, filter}
use Rattle.std.proofs.Math.Seq.{drop-append_seam}
use Rattle.std.proofs.lemmas.List.{append-nil, length-append}
use Rattle.std.proofs.lemmas.Option.{slice_get_past}
use Rattle.std.proofs.lemmas.Bool.{false≢true}
use Rattle.ap_term.specs.AtomTable.{IsAtomTable}
use Rattle.ap_instr.specs.declared.instruction.Instr.{Instr}
use Rattle.ap_instr.specs.declared.instruction.Instr.TheVariants.{Try}
use Rattle.ap_instr.specs.declared.compiled.Predicate.{Predicate}
use Rattle.ap_instr.specs.Code.{Compiled, instructions_of}
use Rattle.ap_instr.specs.StandsFor.{tried, clause_places}
use Rattle.ap_index.specs.declared.key.Key.{Key}
use Rattle.ap_index.specs.declared.key.Key.TheVariants.{Atom, Integer, Structure}
use Rattle.ap_index.specs.Keys.{same_key}
use Rattle.ap_index.specs.Index.{named}
use Rattle.ap_index.proofs.Same.{true-same}
use Rattle.ap_listing.specs.declared.switch.Place.{Place}
use Rattle.ap_listing.specs.declared.switch.Entry.{Entry}
use Rattle.ap_listing.specs.Switch.{is_constant, is_cell, is_functor, clauses_for, open_clauses, keys_of, groups, rest_of, chain_of, place_for, chains, entries, lines_of, has_constants, has_functors, Table, table_of, has_two, table_by_keys, table_at, is_short, table, Switch, first_place, constants_place, structures_place, switches}
use Rattle.ap_listing.specs.Laws.{clauses_in, line_at, led_by, led, leads}
use Rattle.ap_listing.proofs.Cells.{one_cell}
use Rattle.ap_listing.proofs.Keys.{not_true, clauses_for-unasked}

-- ---- chains

tried-rest : (l : ℕ) (ls : List ℕ) (is : List Instr) → tried (rest_of l ls ++ is) ≡ l ∷ ls
tried-rest l [] is = refl
tried-rest l (m ∷ ls) is = ap (λ x. l ∷ x) (tried-rest m ls is)

-- where clauses' chain stands behind other instructions, their place leads to them
pub clauses_in-place_for : (ahead : ℕ) (before : List Instr) (ls : List ℕ) (behind : List Instr) → clauses_in ahead (before ++ (chain_of ls ++ behind)) (place_for (ahead + length before) ls) ≡ ls
clauses_in-place_for ahead before [] behind = refl
clauses_in-place_for ahead before (l ∷ []) behind = refl
clauses_in-place_for ahead before (l ∷ m ∷ ls) behind =
    let n : (ahead + length before) - ahead ≡ length before = omega arith in
    let is : List Instr = Try l ∷ (rest_of m ls ++ behind) in
    ap (λ k. named (drop k (before ++ is))) n ∙ ap named (drop-append_seam before is) ∙ ap (λ x. l ∷ x) (tried-rest m ls behind)

-- ---- tables

choice : {A : Type 0} (b c : Bool) (x y z : A) → b ≡ c → y ≡ z → (if b then x else y) ≡ (if c then x else z)
choice b c x y z p q = ap₂ (λ d w. if d then x else w) p q

-- a test that passes the same keys finds the same place
first_place-same : (P Q : Key → Bool) (es : List Entry) (others : Place) → ((j : Key) → P j ≡ Q j) → first_place P es others ≡ first_place Q es others
first_place-same P Q [] others h = refl
first_place-same P Q (e ∷ es) others h = choice (P e.key) (Q e.key) e.place _ _ (h e.key) (first_place-same P Q es others h)

filtered_by : (P : Key → Bool) (e : Entry) (xs es : List Entry) (others : Place) (b : Bool) → (b ≡ false → P e.key ≡ false) → first_place P xs others ≡ first_place P es others
    → first_place P (cond b (e ∷ xs) xs) others ≡ first_place P (e ∷ es) others
filtered_by P e xs es others true h r = ap (λ x. if P e.key then e.place else x) r
filtered_by P e xs es others false h r = r ∙ sym (ap (λ c. if c then e.place else first_place P es others) (h refl))

-- entries that can't pass may be left out
first_place-filter : (P Q : Key → Bool) (es : List Entry) (others : Place) → ((j : Key) → Q j ≡ false → P j ≡ false) → first_place P (filter (λ e. Q e.key) es) others ≡ first_place P es others
first_place-filter P Q [] others h = refl
first_place-filter P Q (e ∷ es) others h = filtered_by P e (filter (λ e. Q e.key) es) es others (Q e.key) (h e.key) (first_place-filter P Q es others h)

or_none : (a b : Bool) → (a || b) ≡ false → (a ≡ false) × (b ≡ false)
or_none true b h = absurd (false≢true (sym h))
or_none false b h = (refl, h)

-- no key passes
first_place-none : (P : Key → Bool) (code : Compiled) (ls : List ℕ) (n : ℕ) (ks : List Key) (others : Place) → list_any P ks ≡ false → first_place P (entries n (groups code ls ks)) others ≡ others
first_place-none P code ls n [] others h = refl
first_place-none P code ls n (k ∷ ks) others h =
    let o = or_none (P k) (list_any P ks) h in
    ap (λ b. if b then place_for n (clauses_for code ls k) else first_place P (entries (n + length (chain_of (clauses_for code ls k))) (groups code ls ks)) others) o.0
    ∙ first_place-none P code ls (n + length (chain_of (clauses_for code ls k))) ks others o.1

any-fewer : (P Q : Key → Bool) (ks : List Key) → ((j : Key) → Q j ≡ false → P j ≡ false) → list_any Q ks ≡ false → list_any P ks ≡ false
any-fewer P Q [] h q = refl
any-fewer P Q (k ∷ ks) h q =
    let o = or_none (Q k) (list_any Q ks) q in
    ap₂ (λ a b. a || b) (h k o.0) (any-fewer P Q ks h o.1)

-- a key with a group is led to its clauses
found_by : (code : Compiled) (ls : List ℕ) (k j : Key) (ks : List Key) (ahead : ℕ) (before behind : List Instr) (others : Place) (b : Bool) → same_key k j ≡ b
    → (b ≡ false → clauses_in ahead ((before ++ chain_of (clauses_for code ls j)) ++ (chains (groups code ls ks) ++ behind)) (first_place (same_key k) (entries (ahead + length (before ++ chain_of (clauses_for code ls j))) (groups code ls ks)) others) ≡ clauses_for code ls k)
    → clauses_in ahead (before ++ ((chain_of (clauses_for code ls j) ++ chains (groups code ls ks)) ++ behind))
    (if b then place_for (ahead + length before) (clauses_for code ls j) else first_place (same_key k) (entries ((ahead + length before) + length (chain_of (clauses_for code ls j))) (groups code ls ks)) others)
    ≡ clauses_for code ls k
found_by code ls k j ks ahead before behind others true e r =
    ap (λ is. clauses_in ahead (before ++ is) (place_for (ahead + length before) (clauses_for code ls j))) (append_assoc (chain_of (clauses_for code ls j)) (chains (groups code ls ks)) behind)
    ∙ clauses_in-place_for ahead before (clauses_for code ls j) (chains (groups code ls ks) ++ behind)
    ∙ ap (clauses_for code ls) (sym (true-same k j e))
found_by code ls k j ks ahead before behind others false e r =
    let c = chain_of (clauses_for code ls j) in
    let rest = chains (groups code ls ks) in
    let n : (ahead + length before) + length c ≡ ahead + length (before ++ c) = omega (arith, length-append before c) in
    let is : before ++ ((c ++ rest) ++ behind) ≡ (before ++ c) ++ (rest ++ behind) = ap (λ x. before ++ x) (append_assoc c rest behind) ∙ sym (append_assoc before c (rest ++ behind)) in
    ap₂ (λ x y. clauses_in ahead x (first_place (same_key k) (entries y (groups code ls ks)) others)) is n ∙ r refl

found : (code : Compiled) (ls : List ℕ) (k : Key) (ks : List Key) (ahead : ℕ) (before behind : List Instr) (others : Place) → list_any (same_key k) ks ≡ true
    → clauses_in ahead (before ++ (chains (groups code ls ks) ++ behind)) (first_place (same_key k) (entries (ahead + length before) (groups code ls ks)) others) ≡ clauses_for code ls k
found code ls k [] ahead before behind others h = absurd (false≢true h)
found code ls k (j ∷ ks) ahead before behind others h =
    found_by code ls k j ks ahead before behind others (same_key k j) refl
    (λ e. found code ls k ks ahead (before ++ chain_of (clauses_for code ls j)) behind others (sym (ap (λ b. b || list_any (same_key k) ks) e) ∙ h))

-- ---- a whole switch

past_place : (ss : List Switch) (n : ℕ) (ls : List ℕ) → length ss ≤ n → line_at ss (place_for n ls) ≡ None
past_place ss n [] h = refl
past_place ss n (l ∷ []) h = refl
past_place ss n (l ∷ m ∷ ls) h = slice_get_past ss n h

past_by : (ss : List Switch) (b : Bool) (x y : Place) → line_at ss x ≡ None → line_at ss y ≡ None → line_at ss (if b then x else y) ≡ None
past_by ss true x y p q = p
past_by ss false x y p q = q

-- an entry's place lies behind the lines of the switch
past_entries : (ss : List Switch) (P : Key → Bool) (code : Compiled) (ls : List ℕ) (n : ℕ) (ks : List Key) (others : Place) → length ss ≤ n → line_at ss others ≡ None
    → line_at ss (first_place P (entries n (groups code ls ks)) others) ≡ None
past_entries ss P code ls n [] others h o = o
past_entries ss P code ls n (k ∷ ks) others h o =
    past_by ss (P k) _ _ (past_place ss n (clauses_for code ls k) h) (past_entries ss P code ls (n + length (chain_of (clauses_for code ls k))) ks others (omega arith) o)

length-switches : (names : List (List ℕ)) (c f : Bool) (es : List Entry) (others : Place) (is : List Instr)
    → length (switches names (record { constants = c; functors = f; entries = es; others = others; instructions = is })) ≡ lines_of c f
length-switches names true true es others is = refl
length-switches names true false es others is = refl
length-switches names false true es others is = refl
length-switches names false false es others is = refl

module _ (names : List (List ℕ)) (k : Key) (es : List Entry) (others : Place) (is : List Instr) where
  abbrev of : Bool → Bool → Table
  of c f = record { constants = c; functors = f; entries = es; others = others; instructions = is }

  abbrev Follows : Bool → Bool → Place → Type 0
  Follows c f at = led names (of c f) k at ≡ clauses_in (lines_of c f) is (first_place (same_key k) es others)

  -- to a place that is no line of the switch
  straight : (c f : Bool) (at : Place) → line_at (switches names (of c f)) at ≡ None → at ≡ first_place (same_key k) es others → Follows c f at
  straight c f at h e = ap (led_by (of c f) k at) h ∙ ap (clauses_in (lines_of c f) is) e

  constants_lead : (c f : Bool) → ((j : Key) → is_constant j ≡ false → same_key k j ≡ false) → line_at (switches names (of c f)) others ≡ None
      → (c ≡ false → others ≡ first_place (same_key k) es others) → Follows c f (constants_place (of c f))
  constants_lead true true h o e = ap (clauses_in 3 is) (first_place-filter (same_key k) is_constant es others h)
  constants_lead true false h o e = ap (clauses_in 2 is) (first_place-filter (same_key k) is_constant es others h)
  constants_lead false true h o e = straight false true others o (e refl)
  constants_lead false false h o e = straight false false others o (e refl)

  structures_lead : (c f : Bool) → ((j : Key) → is_functor names j ≡ false → same_key k j ≡ false) → line_at (switches names (of c f)) others ≡ None
      → (f ≡ false → others ≡ first_place (same_key k) es others) → Follows c f (structures_place (of c f))
  structures_lead true true h o e = ap (clauses_in 3 is) (first_place-filter (same_key k) (is_functor names) es others h)
  structures_lead false true h o e = ap (clauses_in 2 is) (first_place-filter (same_key k) (is_functor names) es others h)
  structures_lead true false h o e = straight true false others o (e refl)
  structures_lead false false h o e = straight false false others o (e refl)

-- one name alone is that of lists' cells
abbrev HasOneCell : List (List ℕ) → Type 0
HasOneCell names = (j k : Key) → is_cell names j ≡ true → is_cell names k ≡ true → same_key j k ≡ true

-- a key of another kind isn't the same
other_kind : (test : Key → Bool) (k j : Key) → test k ≡ true → test j ≡ false → same_key k j ≡ false
other_kind test k j a b = not_true (same_key k j) (λ e. false≢true (sym b ∙ ap test (sym (true-same k j e)) ∙ a))

same_bools : (a b : Bool) → (a ≡ true → b ≡ true) → (b ≡ true → a ≡ true) → a ≡ b
same_bools true b f g = sym (f refl)
same_bools false true f g = g refl
same_bools false false f g = refl

module _ (names : List (List ℕ)) (code : Compiled) (k : Key) (one : HasOneCell names) (ls : List ℕ) (ks : List Key) where
  module _ (own : List Instr) where
    abbrev c : Bool
    c = has_constants ks

    abbrev f : Bool
    f = has_functors names ks

    abbrev es : List Entry
    es = entries (lines_of c f + length own) (groups code ls ks)

    abbrev others : Place
    others = place_for (lines_of c f + length (own ++ chains (groups code ls ks))) (open_clauses code ls)

    abbrev is : List Instr
    is = (own ++ chains (groups code ls ks)) ++ chain_of (open_clauses code ls)

    abbrev t : Table
    t = table_of (open_clauses code ls) c f own (groups code ls ks)

    lines : length (switches names t) ≡ lines_of c f
    lines = length-switches names c f es others is

    past : line_at (switches names t) others ≡ None
    past = past_place (switches names t) (lines_of c f + length (own ++ chains (groups code ls ks))) (open_clauses code ls) (omega (arith, lines))

    none : (test : Key → Bool) → test k ≡ true → list_any test ks ≡ false → others ≡ first_place (same_key k) es others
    none test a h = sym (first_place-none (same_key k) code ls (lines_of c f + length own) ks others (any-fewer (same_key k) test ks (λ j. other_kind test k j a) h))

    cell_lead : is_cell names k ≡ true → led names t k (first_place (is_cell names) es others) ≡ clauses_in (lines_of c f) is (first_place (same_key k) es others)
    cell_lead a =
        straight names k es others is c f (first_place (is_cell names) es others)
        (past_entries (switches names t) (is_cell names) code ls (lines_of c f + length own) ks others (omega (arith, lines)) past)
        (first_place-same (is_cell names) (same_key k) es others
        (λ j. same_bools (is_cell names j) (same_key k j) (λ b. one k j a b) (λ e. ap (is_cell names) (sym (true-same k j e)) ∙ a)))

    constant_lead : is_constant k ≡ true → led names t k (constants_place t) ≡ clauses_in (lines_of c f) is (first_place (same_key k) es others)
    constant_lead a = constants_lead names k es others is c f (λ j. other_kind is_constant k j a) past (none is_constant a)

    structure_lead : is_functor names k ≡ true → led names t k (structures_place t) ≡ clauses_in (lines_of c f) is (first_place (same_key k) es others)
    structure_lead a = structures_lead names k es others is c f (λ j. other_kind (is_functor names) k j a) past (none (is_functor names) a)

    found_or : (b : Bool) → list_any (same_key k) ks ≡ b → (b ≡ false → clauses_for code ls k ≡ open_clauses code ls)
        → clauses_in (lines_of c f) is (first_place (same_key k) es others) ≡ clauses_for code ls k
    found_or true e h =
        ap (λ x. clauses_in (lines_of c f) x (first_place (same_key k) es others)) (append_assoc own (chains (groups code ls ks)) (chain_of (open_clauses code ls)))
        ∙ found code ls k ks (lines_of c f) own (chain_of (open_clauses code ls)) others e
    found_or false e h =
        ap (clauses_in (lines_of c f) is) (first_place-none (same_key k) code ls (lines_of c f + length own) ks others e)
        ∙ ap (λ x. clauses_in (lines_of c f) ((own ++ chains (groups code ls ks)) ++ x) others) (sym (append-nil (chain_of (open_clauses code ls))))
        ∙ clauses_in-place_for (lines_of c f) (own ++ chains (groups code ls ks)) (open_clauses code ls) []
        ∙ sym (h refl)

module _ (names : List (List ℕ)) (code : Compiled) (one : HasOneCell names) (ls : List ℕ) (own : List Instr) (ks : List Key) where
  abbrev whole : Table
  whole = table_of (open_clauses code ls) (has_constants ks) (has_functors names ks) own (groups code ls ks)

  abbrev Ends : Key → Type 0
  Ends k = clauses_in (lines_of (has_constants ks) (has_functors names ks)) whole.instructions (first_place (same_key k) whole.entries whole.others) ≡ clauses_for code ls k

  structure_by : (g n : ℕ) (b : Bool) → is_cell names (Structure g n) ≡ b → Ends (Structure g n)
      → led names whole (Structure g n) (if b then first_place (is_cell names) whole.entries whole.others else structures_place whole) ≡ clauses_for code ls (Structure g n)
  structure_by g n true e h = cell_lead names code (Structure g n) one ls ks own e ∙ h
  structure_by g n false e h = structure_lead names code (Structure g n) one ls ks own (ap not e) ∙ h

  kinds : (k : Key) → Ends k → leads names whole k ≡ clauses_for code ls k
  kinds (Atom a) h = constant_lead names code (Atom a) one ls ks own refl ∙ h
  kinds (Integer z) h = constant_lead names code (Integer z) one ls ks own refl ∙ h
  kinds (Structure g n) h = structure_by g n (is_cell names (Structure g n)) refl h

-- ---- the law

pub some_by : (b : Bool) (o : Option Table) (t : Table) → (if b then o else None) ≡ Some t → o ≡ Some t
some_by true o t e = e
some_by false o t e = absurd (let z : ⊥ = cc in z)

pub table_by : (names : List (List ℕ)) (code : Compiled) (p : Predicate) (ls : List ℕ) (ks : List Key) (t : Table) → table_by_keys names code p ls ks ≡ Some t
    → t ≡ table_of (open_clauses code ls) (has_constants ks) (has_functors names ks) (instructions_of code p) (groups code ls ks)
table_by names code p ls [] t e = absurd (let z : ⊥ = cc in z)
table_by names code p ls (k ∷ ks) t e = cc

pub leads_to_clauses : (names : List (List ℕ)) (code : Compiled) (p : Predicate) (t : Table) (k : Key) → IsAtomTable names → table names code p ≡ Some t → leads names t k ≡ clauses_for code (clause_places code p) k
leads_to_clauses names code p t k atoms e =
    let one = one_cell names atoms.distinct in
    let ls = clause_places code p in
    let ks = keys_of code ls in
    let own = instructions_of code p in
    let is_it = table_by names code p ls ks t (some_by (has_two ls) (table_by_keys names code p ls ks) t (some_by (is_short code ls) (table_at names code p ls) t e)) in
    let end = found_or names code k one ls ks own (list_any (same_key k) ks) refl (λ n. (clauses_for-unasked code k [] ls n).1) in
    ap (λ s. leads names s k) is_it ∙ kinds names code one ls own ks k end
