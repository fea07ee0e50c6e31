-- Bodies with nothing to group stay as they are.
use Rattle.std.proofs.Common.{◌≡◌, ℕ, zero, suc, ◌≤◌, Bool, true, false, not, ◌&&◌, List, [], ◌∷◌, length, take, drop, Result, Ok, Err, IfOk, refl, ap, ap₂, sym, ◌∙◌, subst, arith}
use Rattle.std.specs.List.{list_all, list_any}
use Rattle.std.proofs.lemmas.Bool.{false≢true, and_parts}
use Rattle.ap_term.specs.Goals.{Part, call, group, Clause}
use Rattle.ap_absunify.specs.declared.states.State.{State}
use Rattle.ap_patterns.specs.Given.{Patterns, after_part, is_analysed}
use Rattle.ap_udg.specs.declared.runs.Rule.{Rule}
use Rattle.ap_udg.specs.Completed.{start}
use Rattle.ap_udg.specs.Runs.{is_user_call}
use Rattle.ap_udg.specs.Lone.{is_call, is_lone_behind, is_lone_body}
use Rattle.ap_udg.specs.Grouped.{IsNext, Grouped, alone, together, done, next}
use Rattle.ap_udg.specs.Annotated.{is_group, has_groups, IsBody, IsAnnotatedClause}
use Rattle.ap_udg.proofs.OneAnnotation.{a_body}

-- ---- part by part

pub behind_parts : (user : Bool) (p : Part) (ps : List Part) → is_lone_behind user (p ∷ ps) ≡ true
    → (is_call p ≡ true) × (not (user && is_user_call p) ≡ true) × (is_lone_behind (is_user_call p) ps ≡ true)
behind_parts user p ps w =
    let r = and_parts (is_call p) (not (user && is_user_call p) && is_lone_behind (is_user_call p) ps) w in
    let q = and_parts (not (user && is_user_call p)) (is_lone_behind (is_user_call p) ps) r.1 in
    (r.0, q.0, q.1)

begins : (user : Bool) (ps : List Part) → is_lone_behind user ps ≡ true → is_lone_body ps ≡ true
begins user [] w = refl
begins user (p ∷ ps) w = let r = behind_parts user p ps w in ap (λ b. b && is_lone_behind (is_user_call p) ps) r.0 ∙ r.2

-- behind the first part
rest_lone : (p : Part) (ps : List Part) → is_lone_body (p ∷ ps) ≡ true → is_lone_body ps ≡ true
rest_lone p ps w = begins (is_user_call p) ps (behind_parts false p ps w).2

-- ---- nothing of them is grouped

no_two : (ps : List Part) (n : ℕ) → is_lone_body ps ≡ true → 2 ≤ n → n ≤ length ps → list_all is_user_call (take n ps) ≡ true → ⊥
no_two ps zero w two there user = omega arith
no_two ps (suc zero) w two there user = omega arith
no_two [] (suc (suc n)) w two there user = omega arith
no_two (p ∷ []) (suc (suc n)) w two there user = omega arith
no_two (p ∷ q ∷ ps) (suc (suc n)) w two there user =
    let u = and_parts (is_user_call p) (list_all is_user_call (take (suc n) (q ∷ ps))) user in
    let v = and_parts (is_user_call q) (list_all is_user_call (take n ps)) u.1 in
    let apart = (behind_parts (is_user_call p) q ps (behind_parts false p (q ∷ ps) w).2).1 in
    false≢true (ap₂ (λ a b. not (a && b)) (sym u.0) (sym v.0) ∙ apart)

lone-next : (r : Rule) (s : State) (ps : List Part) (n : ℕ) (p : Part) → IsNext r s ps n p → is_lone_body ps ≡ true → (n ≡ 1) × (take 1 ps ≡ p ∷ [])
lone-next r s ps0 i q (alone m n p l one e h) w = (e, h)
lone-next r s ps0 i q (together n p l two h) w = absurd (no_two ps0 n w two l.run.there l.run.user)

grouped-lone : (r : Rule) (t : Patterns) (s : State) (ps qs : List Part) → Grouped r t s ps qs → is_lone_body ps ≡ true → qs ≡ ps
grouped-lone r t s0 ps0 qs0 (done s ps e) w = sym e
grouped-lone r t s0 [] qs0 (next s ps n p qs i g) w = let e : [] ≡ p ∷ [] = (lone-next r s [] n p i w).1 in absurd (cc)
grouped-lone r t s0 (b ∷ bs) qs0 (next s ps n p qs i g) w =
    let x = lone-next r s (b ∷ bs) n p i w in
    let rest : drop n (b ∷ bs) ≡ bs = ap (λ m. drop m (b ∷ bs)) x.0 in
    let same : b ≡ p = cc in
    ap (λ xs. p ∷ xs) (grouped-lone r t (after_part t s p) (drop n (b ∷ bs)) qs g (ap is_lone_body rest ∙ rest_lone b bs w) ∙ rest) ∙ ap (λ z. z ∷ bs) (sym same)

pub body-lone : (hand analysed : Bool) (r : Rule) (t : Patterns) (c : Clause) (body : List Part) → hand ≡ false → is_lone_body c.body ≡ true → IsBody hand analysed r t c body → body ≡ c.body
body-lone true analysed r t c body e w h = absurd (false≢true (sym e))
body-lone false true r t c body e w h = grouped-lone r t (start t c) c.body body h w
body-lone false false r t c body e w h = h

pub no-groups : (user : Bool) (ps : List Part) → is_lone_behind user ps ≡ true → list_any is_group ps ≡ false
no-groups user [] w = refl
no-groups user (call g ∷ ps) w = no-groups (is_user_call (call g)) ps (behind_parts user (call g) ps w).2
no-groups user (group cs gs ∷ ps) w = absurd (false≢true w)

-- ---- so the clause is its own annotation

lone-body : (hand analysed : Bool) (r : Rule) (t : Patterns) (c : Clause) → hand ≡ false → is_lone_body c.body ≡ true → IsBody hand analysed r t c c.body
lone-body hand analysed r t c e w = let m = a_body hand analysed r t c in subst (IsBody hand analysed r t c) (body-lone hand analysed r t c m.0 e w m.1) m.1

lone-itself : (r : Rule) (t : Patterns) (c : Clause) → is_lone_body c.body ≡ true → IsAnnotatedClause r t c c
lone-itself r t c w = record { head = refl; body = lone-body (has_groups c) (is_analysed c) r t c (no-groups false c.body w) w; vars = refl; line = refl }

pub lone-annotated : {F : Type 0} (r : Rule) (t : Patterns) (c : Clause) (copy : Result Clause F) → is_lone_body c.body ≡ true → IfOk copy (λ d. d ≡ c) → IfOk copy (λ d. IsAnnotatedClause r t c d)
lone-annotated r t c (Ok d) w e = subst (IsAnnotatedClause r t c) (sym e) (lone-itself r t c w)
lone-annotated r t c (Err x) w e = tt
