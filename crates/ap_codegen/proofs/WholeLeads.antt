-- The code of a whole clause leads as the clause's leads say.
use Rattle.std.proofs.Common.{[], ◌≡◌, ℕ, suc, ◌+◌, ◌-◌, ◌<◌, ◌==◌, Bool, true, false, ◌&&◌, not, if◌then◌else◌, List, ◌∷◌, ◌++◌, map, length, drop, get_or, refl, ap, sym, ◌∙◌, subst, arith, append_assoc}
use Rattle.std.proofs.lemmas.Bool.{and_parts}
use Rattle.std.specs.List.{list_all}
use Rattle.std.proofs.lemmas.Bool.Decides.{Decides-eqb}
use Rattle.std.proofs.lemmas.List.{drop_more, length-drop}
use Rattle.ap_term.specs.declared.clauses.Part.{Part as Held}
use Rattle.ap_term.specs.Tree.{Tree, Trees, none, more, count_trees, append_trees}
use Rattle.ap_term.specs.Vars.{add_vars, add_all_vars}
use Rattle.ap_term.specs.GoalView.{part_of}
use Rattle.ap_term.specs.Goals.{Part, call as goal, group as parallel, calls, Clause, plain_goals}
use Rattle.ap_term.specs.WellFormed.{callable, all_callable, numbered, numbered_all, numbered_check, well_formed_part, IsClause}
use Rattle.ap_term.proofs.WellFormed.{all_callable-append}
use Rattle.ap_instr.specs.Step.{Step, execute}
use Rattle.ap_instr.specs.Runs.{arguments}
use Rattle.ap_codegen.specs.declared.steps.Step.{Step as Emitted}
use Rattle.ap_codegen.specs.Emitted.{Lead, steps_of, leads_of}
use Rattle.ap_codegen.specs.Sequential.{sequential}
use Rattle.ap_codegen.specs.Permanent.{name, is_builtin, goal_code, asking, gets}
use Rattle.ap_codegen.specs.Grouped.{straight, IsGroupedCode, is_last_part, part_leads, see_part, ends_body, body_leads, clause_leads, IsWritten}
use Rattle.ap_codegen.proofs.Open.{quiet_gets}
use Rattle.ap_codegen.proofs.PartTurns.{clause_grouped}
use Rattle.ap_codegen.proofs.PartLeads.{simple_both, quiet_simple, goal_simple, asked_simple, simple_written, both_written}

-- ---- a body's parts in turn

count_parts : (ps : List Held) → length (map part_of ps) ≡ length ps
count_parts [] = refl
count_parts (p ∷ ps) = ap suc (count_parts ps)

last_part_is : (g : Tree) (ps : List Part) → is_last_part g ps ≡ ends_body (goal g) (length ps)
last_part_is g [] = go (is_builtin g)
  where
    go : (b : Bool) → (if b then false else true) ≡ not b
    go true = refl
    go false = refl
last_part_is g (p ∷ ps) = go (length (p ∷ ps) == 0) refl
  where
    go : (b : Bool) → (length (p ∷ ps) == 0) ≡ b → false ≡ (b && not (is_builtin g))
    go true d = absurd (let k : length (p ∷ ps) ≡ 0 = (Decides-eqb (length (p ∷ ps)) 0).0 d in omega arith)
    go false d = refl

-- a part that isn't a last call
next_part : (p : Part) (ps : List Part) (seen : List ℕ) → ends_body p (length ps) ≡ false → body_leads (p ∷ ps) seen ≡ part_leads p seen ++ body_leads ps (see_part p seen)
next_part (goal g) ps seen e =
    ap (λ l. if l then straight (goal_code g seen ++ execute (name g) (count_trees (arguments g)) ∷ []) else straight (goal_code g seen ++ asking g ∷ []) ++ body_leads ps (add_vars g seen)) (last_part_is g ps ∙ e)
next_part (parallel cs gs) ps seen e = refl

last_part : (g : Tree) (ps : List Part) (seen : List ℕ) → ends_body (goal g) (length ps) ≡ true → body_leads (goal g ∷ ps) seen ≡ straight (goal_code g seen ++ execute (name g) (count_trees (arguments g)) ∷ [])
last_part g ps seen e =
    ap (λ l. if l then straight (goal_code g seen ++ execute (name g) (count_trees (arguments g)) ∷ []) else straight (goal_code g seen ++ asking g ∷ []) ++ body_leads ps (add_vars g seen)) (last_part_is g ps ∙ e)

-- a call with others behind it
pub call_written : (es k0 : List Emitted) (g : Tree) (p : Part) (seen : List ℕ) → p ≡ goal g → k0 ≡ [] → steps_of es ≡ steps_of k0 ++ (goal_code g seen ++ asking g ∷ []) → IsWritten es (part_leads p seen)
call_written es k0 g p seen e d c =
    let is : List Step = goal_code g seen ++ asking g ∷ [] in
    subst (λ p. IsWritten es (part_leads p seen)) (sym e) (simple_written es is (c ∙ ap (λ k. steps_of k ++ is) d) (asked_simple g seen [] refl))

-- what stands behind steps ends them as these leads do
abbrev pub Awaits : List Emitted → List Lead → List Lead → Type 0
Awaits es ms ls = (fs : List Emitted) → IsWritten fs ms → IsWritten (es ++ fs) ls

pub parts_turn : (ps : List Held) (i left : ℕ) (p : Held) (es part new : List Emitted) (s0 s1 : List ℕ) (w : List Lead) → i < length ps → p ≡ get_or ps i p → left ≡ length (drop i ps)
    → ends_body (part_of p) (left - 1) ≡ false → IsWritten part (part_leads (part_of p) s0) → s1 ≡ see_part (part_of p) s0 → new ≡ es ++ part → Awaits es (body_leads (map part_of (drop i ps)) s0) w
    → (left - 1 ≡ length (drop (i + 1) ps)) × Awaits new (body_leads (map part_of (drop (i + 1) ps)) s1) w
parts_turn ps i left p es part new s0 s1 w l e n f v s d a =
    let rest : List Part = map part_of (drop (i + 1) ps) in
    let m : left - 1 ≡ length (drop (i + 1) ps) = omega (arith, length-drop {A = Held}) in
    let k : body_leads (map part_of (drop i ps)) s0 ≡ part_leads (part_of p) s0 ++ body_leads rest s1 =
    ap (λ qs. body_leads (map part_of qs) s0) (drop_more ps i p l ∙ ap (λ q. q ∷ drop (i + 1) ps) (sym e))
    ∙ next_part (part_of p) rest s0 (ap (ends_body (part_of p)) (count_parts (drop (i + 1) ps) ∙ sym m) ∙ f)
    ∙ ap (λ s. part_leads (part_of p) s0 ++ body_leads rest s) (sym s) in
    (m, λ fs u. subst (λ es. IsWritten es w) (sym (ap (λ es. es ++ fs) d ∙ append_assoc es part fs)) (a (part ++ fs) (subst (IsWritten (part ++ fs)) (sym k) (both_written part fs (part_leads (part_of p) s0) (body_leads rest s1) v u))))

pub parts_last : (ps : List Held) (i left : ℕ) (p : Held) (g : Tree) (es k0 last new : List Emitted) (s0 : List ℕ) (w : List Lead) → i < length ps → p ≡ get_or ps i p → left ≡ length (drop i ps)
    → ends_body (part_of p) (left - 1) ≡ true → part_of p ≡ goal g → k0 ≡ [] → steps_of last ≡ steps_of k0 ++ (goal_code g s0 ++ execute (name g) (count_trees (arguments g)) ∷ []) → new ≡ es ++ last → Awaits es (body_leads (map part_of (drop i ps)) s0) w → IsWritten new w
parts_last ps i left p g es k0 last new s0 w l e n f q z t d a =
    let rest : List Part = map part_of (drop (i + 1) ps) in
    let is : List Step = goal_code g s0 ++ execute (name g) (count_trees (arguments g)) ∷ [] in
    let m : left - 1 ≡ length (drop (i + 1) ps) = omega (arith, length-drop {A = Held}) in
    let k : body_leads (map part_of (drop i ps)) s0 ≡ straight is =
    ap (λ qs. body_leads (map part_of qs) s0) (drop_more ps i p l ∙ ap (λ q. q ∷ drop (i + 1) ps) (sym e))
    ∙ ap (λ p. body_leads (p ∷ rest) s0) q
    ∙ last_part g rest s0 (ap (ends_body (goal g)) (count_parts (drop (i + 1) ps) ∙ sym m) ∙ ap (λ p. ends_body p (left - 1)) (sym q) ∙ f) in
    subst (λ es. IsWritten es w) (sym d) (a last (subst (IsWritten last) (sym k) (simple_written last is (t ∙ ap (λ k. steps_of k ++ is) z) (simple_both (goal_code g s0) (execute (name g) (count_trees (arguments g)) ∷ []) (goal_simple g s0) refl))))

-- ---- a clause whose groups are their goals one after another

goals_callable : (n : ℕ) (ps : List Part) → list_all (well_formed_part n) ps ≡ true → all_callable (plain_goals ps) ≡ true
goals_callable n [] h = refl
goals_callable n (goal t ∷ ps) h =
    let b = and_parts (well_formed_part n (goal t)) (list_all (well_formed_part n) ps) h in
    let d = and_parts (callable t) (numbered n t) b.0 in
    ap (λ c. c && all_callable (plain_goals ps)) d.0 ∙ goals_callable n ps b.1
goals_callable n (parallel cs ts ∷ ps) h =
    let b = and_parts (well_formed_part n (parallel cs ts)) (list_all (well_formed_part n) ps) h in
    let d = and_parts (list_all (numbered_check n) cs) _ b.0 in
    let e = and_parts _ (all_callable ts && numbered_all n ts) d.1 in
    let f = and_parts (all_callable ts) (numbered_all n ts) e.1 in
    all_callable-append ts (plain_goals ps) f.0 (goals_callable n ps b.1)

goals_numbered : (n : ℕ) (ps : List Part) → list_all (well_formed_part n) ps ≡ true → numbered_all n (plain_goals ps) ≡ true
goals_numbered n [] h = refl
goals_numbered n (goal t ∷ ps) h =
    let b = and_parts (well_formed_part n (goal t)) (list_all (well_formed_part n) ps) h in
    let d = and_parts (callable t) (numbered n t) b.0 in
    ap (λ c. c && numbered_all n (plain_goals ps)) d.1 ∙ goals_numbered n ps b.1
goals_numbered n (parallel cs ts ∷ ps) h =
    let b = and_parts (well_formed_part n (parallel cs ts)) (list_all (well_formed_part n) ps) h in
    let d = and_parts (list_all (numbered_check n) cs) _ b.0 in
    let e = and_parts _ (all_callable ts && numbered_all n ts) d.1 in
    let f = and_parts (all_callable ts) (numbered_all n ts) e.1 in
    append_numbered ts (plain_goals ps) f.1 (goals_numbered n ps b.1)
  where
    append_numbered : (ts us : Trees) → numbered_all n ts ≡ true → numbered_all n us ≡ true → numbered_all n (append_trees ts us) ≡ true
    append_numbered none us h k = k
    append_numbered (more t ts) us h k =
        let b = and_parts (numbered n t) (numbered_all n ts) h in
        ap (λ c. c && numbered_all n (append_trees ts us)) b.0 ∙ append_numbered ts us b.1 k

pub sequential_clause : (c : Clause) → IsClause c → IsClause (sequential c)
sequential_clause c i = record { few = i.few; head = i.head; body = go (plain_goals c.body) (goals_callable c.vars c.body i.body) (goals_numbered c.vars c.body i.body) }
  where
    go : (gs : Trees) → all_callable gs ≡ true → numbered_all c.vars gs ≡ true → list_all (well_formed_part c.vars) (calls gs) ≡ true
    go none h k = refl
    go (more g gs) h k =
        let a = and_parts (callable g) (all_callable gs) h in
        let b = and_parts (numbered c.vars g) (numbered_all c.vars gs) k in
        ap (λ d. (d && numbered c.vars g) && list_all (well_formed_part c.vars) (calls gs)) a.0 ∙ ap (λ d. d && list_all (well_formed_part c.vars) (calls gs)) b.0 ∙ go gs a.1 b.1

pub written_grouped : (c : Clause) (es : List Emitted) → IsClause c → IsWritten es (clause_leads c) → IsGroupedCode c (leads_of es)
written_grouped c es i w = subst (IsGroupedCode c) (sym w.0) (clause_grouped c i)

-- ---- a whole clause with groups

pub whole_written : (c : Clause) (k0 k1 rest new : List Emitted) (s0 s1 : List ℕ) (h : Tree) → k0 ≡ [] → s0 ≡ [] → h ≡ c.head → steps_of k1 ≡ steps_of k0 ++ gets (arguments h) 1 s0 (count_trees (arguments h) + 1)
    → s1 ≡ add_all_vars (arguments h) s0 → IsWritten rest (body_leads c.body s1) → new ≡ k1 ++ rest → IsWritten new (clause_leads c)
whole_written c k0 k1 rest new s0 s1 h d0 e0 f d1 e1 w n =
    let head : List Step = gets (arguments c.head) 1 [] (count_trees (arguments c.head) + 1) in
    let seen : List ℕ = add_all_vars (arguments c.head) [] in
    let a : steps_of k1 ≡ head = d1 ∙ ap (λ es. steps_of es ++ gets (arguments h) 1 s0 (count_trees (arguments h) + 1)) d0
    ∙ ap (λ s. gets (arguments h) 1 s (count_trees (arguments h) + 1)) e0 ∙ ap (λ h. gets (arguments h) 1 [] (count_trees (arguments h) + 1)) f in
    let b : s1 ≡ seen = e1 ∙ ap (add_all_vars (arguments h)) e0 ∙ ap (λ h. add_all_vars (arguments h) []) f in
    subst (λ es. IsWritten es (clause_leads c)) (sym n)
    (both_written k1 rest (straight head) (body_leads c.body seen) (simple_written k1 head a (quiet_simple head (quiet_gets (arguments c.head) 1 [] (count_trees (arguments c.head) + 1))))
    (subst (λ s. IsWritten rest (body_leads c.body s)) b w))
