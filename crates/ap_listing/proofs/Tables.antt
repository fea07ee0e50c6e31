-- Whether a predicate has a switch, and which.
use Rattle.std.proofs.Common.{◌≡◌, ℕ, suc, ◌+◌, ◌<◌, ◌≤◌, Bool, true, false, ◌||◌, List, [], ◌∷◌, ◌++◌, length, map, Option, Some, None, refl, ap, ap₂, sym, ◌∙◌, arith}
use Rattle.std.specs.Prelude.{if◌then◌else◌}
use Rattle.std.specs.List.{list_any}
use Rattle.ap_instr.specs.Code.{Compiled, instructions_of}
use Rattle.ap_instr.specs.declared.compiled.Predicate.{Predicate}
use Rattle.ap_index.specs.declared.key.Key.{Key}
use Rattle.ap_instr.specs.declared.instruction.Instr.{Instr}
use Rattle.ap_listing.specs.declared.choices.Group.{Group}
use Rattle.ap_listing.specs.declared.switch.Place.{Place}
use Rattle.ap_listing.specs.declared.switch.Entry.{Entry}
use Rattle.ap_listing.specs.Switch.{Table, keys_of, groups, open_clauses, has_constants, has_functors, is_constant, is_functor, lines_of, entries, chains, place_for, chain_of, table_of, has_two, table_by_keys, table_at}
use Rattle.ap_listing.specs.Grouped.{group_of}

few_by : (ls : List ℕ) (o : Option Table) → length ls < 2 → (if has_two ls then o else None) ≡ None
few_by [] o h = refl
few_by (l ∷ []) o h = refl
few_by (l ∷ m ∷ ls) o h = absurd (omega arith)

-- of fewer clauses than two
pub table-few : (names : List (List ℕ)) (code : Compiled) (p : Predicate) (ls : List ℕ) → length ls < 2 → table_at names code p ls ≡ None
table-few names code p ls h = few_by ls (table_by_keys names code p ls (keys_of code ls)) h

neither : (b : Bool) (o : Option Table) → o ≡ None → (if b then o else None) ≡ None
neither true o h = h
neither false o h = refl

none_by : (names : List (List ℕ)) (code : Compiled) (p : Predicate) (ls : List ℕ) (ks : List Key) → groups code ls ks ≡ [] → table_by_keys names code p ls ks ≡ None
none_by names code p ls [] h = refl
none_by names code p ls (k ∷ ks) h = absurd (let z : ⊥ = cc in z)

-- of clauses that ask for nothing
pub table-open : (names : List (List ℕ)) (code : Compiled) (p : Predicate) (ls : List ℕ) → groups code ls (keys_of code ls) ≡ [] → table_at names code p ls ≡ None
table-open names code p ls h =
    neither (has_two ls) (table_by_keys names code p ls (keys_of code ls)) (none_by names code p ls (keys_of code ls) h)

two_by : (ls : List ℕ) (o : Option Table) → 2 ≤ length ls → (if has_two ls then o else None) ≡ o
two_by [] o h = absurd (omega arith)
two_by (l ∷ []) o h = absurd (omega arith)
two_by (l ∷ m ∷ ls) o h = refl

some_by : (names : List (List ℕ)) (code : Compiled) (p : Predicate) (ls : List ℕ) (ks : List Key) → 0 < length (groups code ls ks)
    → table_by_keys names code p ls ks ≡ Some (table_of (open_clauses code ls) (has_constants ks) (has_functors names ks) (instructions_of code p) (groups code ls ks))
some_by names code p ls [] h = absurd (omega arith)
some_by names code p ls (k ∷ ks) h = refl

-- of others
pub table-some : (names : List (List ℕ)) (code : Compiled) (p : Predicate) (ls : List ℕ) → 2 ≤ length ls → 0 < length (groups code ls (keys_of code ls))
    → table_at names code p ls ≡ Some (table_of (open_clauses code ls) (has_constants (keys_of code ls)) (has_functors names (keys_of code ls)) (instructions_of code p) (groups code ls (keys_of code ls)))
table-some names code p ls two h =
    two_by ls (table_by_keys names code p ls (keys_of code ls)) two ∙ some_by names code p ls (keys_of code ls) h

-- ---- keys of groups

any-group : (P : Key → Bool) (gs : List Group) → list_any (λ g. P g.key) gs ≡ list_any (λ g. P g.0) (map group_of gs)
any-group P [] = refl
any-group P (g ∷ gs) = ap (λ b. P g.key || b) (any-group P gs)

any-keys : (P : Key → Bool) (code : Compiled) (ls : List ℕ) (ks : List Key) → list_any (λ g. P g.0) (groups code ls ks) ≡ list_any P ks
any-keys P code ls [] = refl
any-keys P code ls (k ∷ ks) = ap (λ b. P k || b) (any-keys P code ls ks)

pub any-held : (P : Key → Bool) (code : Compiled) (ls : List ℕ) (ks : List Key) (gs : List Group) → map group_of gs ≡ groups code ls ks → list_any (λ g. P g.key) gs ≡ list_any P ks
any-held P code ls ks gs e = any-group P gs ∙ ap (list_any (λ g. P g.0)) e ∙ any-keys P code ls ks

pub held-none : (gs : List Group) → length gs ≡ 0 → map group_of gs ≡ []
held-none [] h = refl
held-none (g ∷ gs) h = absurd (omega arith)

pub length-held : (gs : List Group) → length (map group_of gs) ≡ length gs
length-held [] = refl
length-held (g ∷ gs) = ap suc (length-held gs)

-- ---- the switch that is made

abbrev pub record_of : Bool → Bool → List Entry → Place → List Instr → Table
record_of c f es x is = record { constants = c; functors = f; entries = es; others = x; instructions = is }

tables_alike : {c d f g : Bool} {es fs : List Entry} {x y : Place} {is js : List Instr} → c ≡ d → f ≡ g → es ≡ fs → x ≡ y → is ≡ js
    → record_of c f es x is ≡ record_of d g fs y js
tables_alike p q r s t = λ i. record_of (p i) (q i) (r i) (s i) (t i)

pub table-made : (names : List (List ℕ)) (open_ones held : List ℕ) (own : List Instr) (items gs : List Group) (c f : Bool) (ahead : ℕ) (first second third : List Instr) (es : List Entry) (others : Place)
    → gs ≡ items → held ≡ open_ones → c ≡ list_any (λ g. is_constant g.key) gs → f ≡ list_any (λ g. is_functor names g.key) gs → ahead ≡ lines_of c f → first ≡ own
    → es ≡ entries (ahead + length first) (map group_of gs) → second ≡ first ++ chains (map group_of gs)
    → others ≡ place_for (ahead + length second) held → third ≡ second ++ chain_of held
    → record_of c f es others third ≡ table_of open_ones (list_any (λ g. is_constant g.key) items) (list_any (λ g. is_functor names g.key) items) own (map group_of items)
table-made names open_ones held own items gs c f ahead first second third es others e_gs e_held e_c e_f e_ahead e_first e_es e_second e_others e_third =
    let c_is : c ≡ list_any (λ g. is_constant g.key) items = e_c ∙ ap (list_any (λ g. is_constant g.key)) e_gs in
    let f_is : f ≡ list_any (λ g. is_functor names g.key) items = e_f ∙ ap (list_any (λ g. is_functor names g.key)) e_gs in
    let lines : ahead ≡ lines_of (list_any (λ g. is_constant g.key) items) (list_any (λ g. is_functor names g.key) items) = e_ahead ∙ ap₂ lines_of c_is f_is in
    let body : second ≡ own ++ chains (map group_of items) = e_second ∙ ap₂ (λ x y. x ++ chains (map group_of y)) e_first e_gs in
    tables_alike c_is f_is
    (e_es ∙ ap₂ (λ n gs. entries n (map group_of gs)) (ap₂ (λ x y. x + length y) lines e_first) e_gs)
    (e_others ∙ ap₂ (λ n ls. place_for n ls) (ap₂ (λ x y. x + length y) lines body) e_held)
    (e_third ∙ ap₂ (λ x y. x ++ chain_of y) body e_held)

pub table-found : (names : List (List ℕ)) (code : Compiled) (p : Predicate) (ls : List ℕ) (t : Table) (open_ones : List ℕ) (gs : List Group) → 2 ≤ length ls → 0 < length gs
    → map group_of gs ≡ groups code ls (keys_of code ls) → open_ones ≡ open_clauses code ls
    → t ≡ table_of open_ones (list_any (λ g. is_constant g.key) gs) (list_any (λ g. is_functor names g.key) gs) (instructions_of code p) (map group_of gs)
    → Some t ≡ table_at names code p ls
table-found names code p ls t open_ones gs two some are left made =
    let c = any-held is_constant code ls (keys_of code ls) gs are in
    let f = any-held (is_functor names) code ls (keys_of code ls) gs are in
    let known : table_of open_ones (list_any (λ g. is_constant g.key) gs) (list_any (λ g. is_functor names g.key) gs) (instructions_of code p) (map group_of gs)
    ≡ table_of (open_clauses code ls) (has_constants (keys_of code ls)) (has_functors names (keys_of code ls)) (instructions_of code p) (groups code ls (keys_of code ls)) =
    λ i. table_of (left i) (c i) (f i) (instructions_of code p) (are i) in
    ap (λ s. Some s) (made ∙ known) ∙ sym (table-some names code p ls two (omega (arith, length-held gs, ap length are)))

-- the table of groups that are held
abbrev pub table_with : List (List ℕ) → List ℕ → List Group → List Instr → Table
table_with names open_ones gs own = table_of open_ones (list_any (λ g. is_constant g.key) gs) (list_any (λ g. is_functor names g.key) gs) own (map group_of gs)
