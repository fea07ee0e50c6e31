-- What a pass keeps.
use Rattle.std.proofs.Common.{◌≡◌, ℕ, suc, ◌≤◌, Bool, true, false, ◌&&◌, not, nat_le, if◌then◌else◌, List, [], ◌∷◌, ◌++◌, length, refl, ap, sym, ◌∙◌, subst, arith, append-nil}
use Rattle.std.specs.List.{list_all, flat_map}
use Rattle.std.proofs.lemmas.Bool.{false≢true, and_parts, and_from}
use Rattle.std.proofs.lemmas.List.Folds.{list_all-append}
use Rattle.std.proofs.lemmas.Grind.{flat_map-append}
use Rattle.ap_term.specs.declared.clauses.Check.{Check}
use Rattle.ap_term.specs.Tree.{Tree, Trees, none, more, count_trees}
use Rattle.ap_term.specs.Goals.{Part, call, group, calls, Clause, Program}
use Rattle.ap_term.specs.WellFormed.{callable, all_callable, numbered, numbered_all, numbered_check, well_formed_part, IsClause}
use Rattle.ap_term.proofs.WellFormed.{calls-formed}
use Rattle.ap_absunify.specs.declared.states.State.{State}
use Rattle.ap_patterns.specs.Given.{Patterns, is_analysed}
use Rattle.ap_cge.specs.Stripped.{stripped_part, stripped_clause, stripped}
use Rattle.ap_udg.specs.Completed.{missing, behind, start}
use Rattle.ap_udg.proofs.Annotations.{completed-formed, same_stripped}
use Rattle.ap_mel.specs.declared.annotations.Kind.{Kind}
use Rattle.ap_mel.specs.Mended.{is_given_up, is_none, mended, mended_body, is_bare, mended_clause, mended_program, is_settled, is_body_settled, is_clause_settled, is_program_settled}

-- ---- it is well formed

mended_formed : (n : ℕ) (bare : Bool) (s : State) (p : Part) → well_formed_part n p ≡ true → list_all (well_formed_part n) (mended bare s p) ≡ true
mended_formed n bare s (call g) h = and_from (well_formed_part n (call g)) true h refl
mended_formed n bare s (group cs gs) h = go (is_given_up bare s cs gs)
  where
    go : (b : Bool) → list_all (well_formed_part n) (if b then calls gs else group (cs ++ missing s cs gs) gs ∷ []) ≡ true
    go true =
        let r = and_parts (list_all (numbered_check n) cs) (nat_le 1 (count_trees gs) && (all_callable gs && numbered_all n gs)) h in
        let a = and_parts (nat_le 1 (count_trees gs)) (all_callable gs && numbered_all n gs) r.1 in
        let b = and_parts (all_callable gs) (numbered_all n gs) a.1 in
        calls-formed n gs b.0 b.1
    go false = and_from (well_formed_part n (group (cs ++ missing s cs gs) gs)) true (completed-formed n s (group cs gs) h) refl

body_formed : (n : ℕ) (bare analysed : Bool) (t : Patterns) (s : State) (ps : List Part) → list_all (well_formed_part n) ps ≡ true → list_all (well_formed_part n) (mended_body bare analysed t s ps) ≡ true
body_formed n bare analysed t s [] h = refl
body_formed n bare analysed t s (p ∷ ps) h =
    let r = and_parts (well_formed_part n p) (list_all (well_formed_part n) ps) h in
    list_all-append (well_formed_part n) (mended bare s p) (mended_body bare analysed t (behind analysed t s p) ps)
    ∙ and_from (list_all (well_formed_part n) (mended bare s p)) (list_all (well_formed_part n) (mended_body bare analysed t (behind analysed t s p) ps)) (mended_formed n bare s p r.0)
    (body_formed n bare analysed t (behind analysed t s p) ps r.1)

pub mended-formed : (k : Kind) (t : Patterns) (c d : Clause) → IsClause d → IsClause (mended_clause k t c d)
mended-formed k t c d h = record { few = h.few; head = h.head; body = body_formed d.vars (is_bare k c) (is_analysed d) t (start t d) d.body h.body }

pub mended-same : (bare bare2 analysed analysed2 : Bool) (t : Patterns) (s s2 : State) (ps ps2 out new : List Part) → out ≡ [] → new ≡ out ++ mended_body bare analysed t s ps → bare ≡ bare2 → analysed ≡ analysed2
    → s ≡ s2 → ps ≡ ps2 → new ≡ mended_body bare2 analysed2 t s2 ps2
mended-same bare bare2 analysed analysed2 t s s2 ps ps2 out new o n b a e p =
    n ∙ ap (λ z. z ++ mended_body bare analysed t s ps) o ∙ ap (λ z. mended_body z analysed t s ps) b ∙ ap (λ z. mended_body bare2 z t s ps) a ∙ ap (λ z. mended_body bare2 analysed2 t z ps) e
    ∙ ap (mended_body bare2 analysed2 t s2) p

pub made-formed : (k : Kind) (t : Patterns) (c d : Clause) (head : Tree) (body : List Part) (vars line : ℕ) → IsClause d → head ≡ d.head → body ≡ mended_body (is_bare k c) (is_analysed d) t (start t d) d.body
    → vars ≡ d.vars → IsClause (record { head = head; body = body; vars = vars; line = line })
made-formed k t c d head body vars line h e b v = record {
  few = subst (λ n. n ≤ 255) (sym v) h.few;
  head = subst (λ n. callable head && numbered n head ≡ true) (sym v) (ap (λ x. callable x && numbered d.vars x) e ∙ h.head);
  body = subst (λ n. list_all (well_formed_part n) body ≡ true) (sym v) (ap (list_all (well_formed_part d.vars)) b ∙ (mended-formed k t c d h).body);
}

-- ---- it has the same goals

mended_stripped : (bare : Bool) (s : State) (p : Part) → flat_map stripped_part (mended bare s p) ≡ stripped_part p
mended_stripped bare s (call g) = refl
mended_stripped bare s (group cs gs) = go (is_given_up bare s cs gs)
  where
    sequence : (ts : Trees) → flat_map stripped_part (calls ts) ≡ calls ts
    sequence none = refl
    sequence (more t ts) = ap (λ qs. call t ∷ qs) (sequence ts)

    go : (b : Bool) → flat_map stripped_part (if b then calls gs else group (cs ++ missing s cs gs) gs ∷ []) ≡ calls gs
    go true = sequence gs
    go false = append-nil (calls gs)

body_stripped : (bare analysed : Bool) (t : Patterns) (s : State) (ps : List Part) → flat_map stripped_part (mended_body bare analysed t s ps) ≡ flat_map stripped_part ps
body_stripped bare analysed t s [] = refl
body_stripped bare analysed t s (p ∷ ps) =
    flat_map-append stripped_part (mended bare s p) (mended_body bare analysed t (behind analysed t s p) ps)
    ∙ ap (λ qs. qs ++ flat_map stripped_part (mended_body bare analysed t (behind analysed t s p) ps)) (mended_stripped bare s p)
    ∙ ap (λ qs. stripped_part p ++ qs) (body_stripped bare analysed t (behind analysed t s p) ps)

clause_stripped : (k : Kind) (t : Patterns) (c d : Clause) → stripped_clause (mended_clause k t c d) ≡ stripped_clause d
clause_stripped k t c d = same_stripped d (mended_clause k t c d) refl (body_stripped (is_bare k c) (is_analysed d) t (start t d) d.body) refl refl

pub mended-stripped : (k : Kind) (t : Patterns) (P A : Program) → length P ≡ length A → stripped (mended_program k t P A) ≡ stripped A
mended-stripped k t [] [] h = refl
mended-stripped k t [] (d ∷ ds) h = absurd (omega arith)
mended-stripped k t (c ∷ cs) [] h = absurd (omega arith)
mended-stripped k t (c ∷ cs) (d ∷ ds) h =
    ap (λ x. x ∷ stripped (mended_program k t cs ds)) (clause_stripped k t c d) ∙ ap (λ xs. stripped_clause d ∷ xs) (mended-stripped k t cs ds (omega arith))

pub mended-length : (k : Kind) (t : Patterns) (P A : Program) → length P ≡ length A → length (mended_program k t P A) ≡ length A
mended-length k t [] [] h = refl
mended-length k t [] (d ∷ ds) h = absurd (omega arith)
mended-length k t (c ∷ cs) [] h = absurd (omega arith)
mended-length k t (c ∷ cs) (d ∷ ds) h = ap suc (mended-length k t cs ds (omega arith))

-- ---- where it is settled it stays

pub split_not : (a b : Bool) → (not a && b) ≡ true → (a ≡ false) × (b ≡ true)
split_not true b h = absurd (false≢true h)
split_not false b h = (refl, h)

pub empty_list : (cs : List Check) → is_none cs ≡ true → cs ≡ []
empty_list [] h = refl
empty_list (c ∷ cs) h = absurd (false≢true h)

part_stays : (bare : Bool) (s : State) (p : Part) → is_settled bare s p ≡ true → mended bare s p ≡ p ∷ []
part_stays bare s (call g) h = refl
part_stays bare s (group cs gs) h =
    let r = split_not (is_given_up bare s cs gs) (is_none (missing s cs gs)) h in
    ap (λ b. if b then calls gs else group (cs ++ missing s cs gs) gs ∷ []) r.0 ∙ ap (λ m. group (cs ++ m) gs ∷ []) (empty_list (missing s cs gs) r.1)
    ∙ ap (λ k. group k gs ∷ []) (append-nil cs)

body_stays : (bare analysed : Bool) (t : Patterns) (s : State) (ps : List Part) → is_body_settled bare analysed t s ps ≡ true → mended_body bare analysed t s ps ≡ ps
body_stays bare analysed t s [] h = refl
body_stays bare analysed t s (p ∷ ps) h =
    let r = and_parts (is_settled bare s p) (is_body_settled bare analysed t (behind analysed t s p) ps) h in
    ap (λ qs. qs ++ mended_body bare analysed t (behind analysed t s p) ps) (part_stays bare s p r.0) ∙ ap (λ qs. p ∷ qs) (body_stays bare analysed t (behind analysed t s p) ps r.1)

pub clause_stays : (k : Kind) (t : Patterns) (c d : Clause) → is_clause_settled k t c d ≡ true → mended_clause k t c d ≡ d
clause_stays k t c d h = ap (λ b. record { head = d.head; body = b; vars = d.vars; line = d.line }) (body_stays (is_bare k c) (is_analysed d) t (start t d) d.body h)

pub program-stays : (k : Kind) (t : Patterns) (P A : Program) → length P ≡ length A → is_program_settled k t P A ≡ true → mended_program k t P A ≡ A
program-stays k t [] [] l h = refl
program-stays k t [] (d ∷ ds) l h = absurd (omega arith)
program-stays k t (c ∷ cs) [] l h = absurd (omega arith)
program-stays k t (c ∷ cs) (d ∷ ds) l h =
    let r = and_parts (is_clause_settled k t c d) (is_program_settled k t cs ds) h in
    ap (λ x. x ∷ mended_program k t cs ds) (clause_stays k t c d r.0) ∙ ap (λ xs. d ∷ xs) (program-stays k t cs ds (omega arith) r.1)
