-- The clauses to which a listed switch leads a call whose first argument is a variable.
use Rattle.std.proofs.Common.{◌≡◌, ℕ, ◌-◌, List, [], ◌∷◌, ◌++◌, drop, Some, None, refl, ap, sym, ◌∙◌, append_assoc, arith}
use Rattle.std.specs.Prelude.{if◌then◌else◌}
use Rattle.std.proofs.lemmas.List.{append-nil}
use Rattle.ap_instr.specs.declared.instruction.Instr.{Instr}
use Rattle.ap_instr.specs.declared.instruction.Instr.TheVariants.{Try, Retry, Trust}
use Rattle.ap_instr.specs.declared.compiled.Predicate.{Predicate}
use Rattle.ap_instr.specs.Code.{Compiled, instructions_of}
use Rattle.ap_instr.specs.StandsFor.{tried, clause_places}
use Rattle.ap_index.specs.declared.key.Key.{Key}
use Rattle.ap_index.specs.Index.{named}
use Rattle.ap_listing.specs.Switch.{open_clauses, keys_of, groups, chain_of, chains, lines_of, has_constants, has_functors, Table, has_two, table_by_keys, table_at, is_short, table, switches}
use Rattle.ap_listing.specs.Laws.{leads_unbound}
use Rattle.ap_listing.proofs.Leads.{some_by, table_by}

-- what stands behind choices and goes on with none is not of them
tried-append : (xs ys : List Instr) → tried ys ≡ [] → tried (xs ++ ys) ≡ tried xs
tried-append [] ys h = h
tried-append (Retry l ∷ is) ys h = ap (λ x. l ∷ x) (tried-append is ys h)
tried-append (Trust l ∷ is) ys h = refl
tried-append (i ∷ is) ys h = refl

named-append : (xs ys : List Instr) → tried ys ≡ [] → (named xs ≡ [] → ⊥) → named (xs ++ ys) ≡ named xs
named-append [] ys h n = absurd (n refl)
named-append (Try l ∷ is) ys h n = ap (λ x. l ∷ x) (tried-append is ys h)
named-append (i ∷ is) ys h n = tried-append (i ∷ is) ys h

tried-chain : (ls : List ℕ) (is : List Instr) → tried is ≡ [] → tried (chain_of ls ++ is) ≡ []
tried-chain [] is h = h
tried-chain (l ∷ []) is h = h
tried-chain (l ∷ m ∷ ls) is h = refl

tried-chains : (gs : List (Key × List ℕ)) (is : List Instr) → tried is ≡ [] → tried (chains gs ++ is) ≡ []
tried-chains [] is h = h
tried-chains (g ∷ gs) is h = ap tried (append_assoc (chain_of g.1) (chains gs) is) ∙ tried-chain g.1 (chains gs ++ is) (tried-chains gs is h)

not_some : (u : Table) → None ≡ Some u → ⊥
not_some u h = cc

pub leads_to_all : (names : List (List ℕ)) (code : Compiled) (p : Predicate) (t : Table) → named (instructions_of code p) ≡ clause_places code p → table names code p ≡ Some t
    → leads_unbound t (switches names t) ≡ clause_places code p
leads_to_all names code p t own_is e =
    let ls = clause_places code p in
    let ks = keys_of code ls in
    let own = instructions_of code p in
    let open_ones = open_clauses code ls in
    let behind : List Instr = chains (groups code ls ks) ++ chain_of open_ones in
    let by_keys = table_by_keys names code p ls ks in
    let found = some_by (is_short code ls) (table_at names code p ls) t e in
    let is_it = table_by names code p ls ks t (some_by (has_two ls) by_keys t found) in
    let lines = lines_of (has_constants ks) (has_functors names ks) in
    let first : lines - lines ≡ 0 = omega arith in
    let none : tried behind ≡ [] = tried-chains (groups code ls ks) (chain_of open_ones) (ap tried (sym (append-nil (chain_of open_ones))) ∙ tried-chain open_ones [] refl) in
    let some : named own ≡ [] → ⊥ = λ n. not_some t (sym (ap (λ x. if has_two x then by_keys else None) (sym own_is ∙ n)) ∙ found) in
    ap (λ s. leads_unbound s (switches names s)) is_it
    ∙ ap (λ n. named (drop n ((own ++ chains (groups code ls ks)) ++ chain_of open_ones))) first
    ∙ ap named (append_assoc own (chains (groups code ls ks)) (chain_of open_ones))
    ∙ named-append own behind none some ∙ own_is
