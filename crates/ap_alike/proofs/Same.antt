-- Of a program there is one alone that is alike to another one and is the same without groups.
use Rattle.std.proofs.Common.{◌≡◌, List, [], ◌∷◌, ◌++◌, refl, ap, ap₂, sym, ◌∙◌}
use Rattle.std.specs.List.{flat_map}
use Rattle.ap_term.specs.Tree.{Trees, none, more}
use Rattle.ap_term.specs.Goals.{Part, call, group, calls, Clause, Program}
use Rattle.ap_cge.specs.Stripped.{stripped_part, stripped_clause, stripped}
use Rattle.ap_alike.specs.Alike.{AreAlikeGoals, AreAlikeBodies, IsAlikeClause, AreAlike}

-- two lists of os many goals, and what stands behind them
pub goals-split : (gs hs ks : Trees) (xs ys : List Part) → AreAlikeGoals gs hs → AreAlikeGoals gs ks → calls hs ++ xs ≡ calls ks ++ ys → (hs ≡ ks) × (xs ≡ ys)
goals-split none none none xs ys v w e = (refl, e)
goals-split none none (more k ks) xs ys v w e = absurd w
goals-split none (more h hs) ks xs ys v w e = absurd v
goals-split (more g gs) none ks xs ys v w e = absurd v
goals-split (more g gs) (more h hs) none xs ys v w e = absurd w
goals-split (more g gs) (more h hs) (more k ks) xs ys v w e =
    let first : h ≡ k = cc in
    let rest : calls hs ++ xs ≡ calls ks ++ ys = cc in
    let r = goals-split gs hs ks xs ys v.1 w.1 rest in
    (ap₂ more first r.0, r.1)

bodies-same : (os bs cs : List Part) → AreAlikeBodies os bs → AreAlikeBodies os cs → flat_map stripped_part bs ≡ flat_map stripped_part cs → bs ≡ cs
bodies-same [] [] [] v w e = refl
bodies-same [] [] (c ∷ cs) v w e = absurd w
bodies-same [] (b ∷ bs) cs v w e = absurd v
bodies-same (a ∷ os) [] cs v w e = absurd v
bodies-same (a ∷ os) (b ∷ bs) [] v w e = absurd w
bodies-same (call g ∷ os) (call h ∷ bs) (call k ∷ cs) v w e =
    let first : h ≡ k = cc in
    let rest : flat_map stripped_part bs ≡ flat_map stripped_part cs = cc in
    ap₂ (λ x xs. call x ∷ xs) first (bodies-same os bs cs v.1 w.1 rest)
bodies-same (call g ∷ os) (call h ∷ bs) (group ds ks ∷ cs) v w e = absurd w.0
bodies-same (call g ∷ os) (group ds hs ∷ bs) (c ∷ cs) v w e = absurd v.0
bodies-same (group xs gs ∷ os) (call h ∷ bs) (c ∷ cs) v w e = absurd v.0
bodies-same (group xs gs ∷ os) (group ys hs ∷ bs) (call k ∷ cs) v w e = absurd w.0
bodies-same (group xs gs ∷ os) (group ys hs ∷ bs) (group zs ks ∷ cs) v w e =
    let r = goals-split gs hs ks (flat_map stripped_part bs) (flat_map stripped_part cs) v.0.1 w.0.1 e in
    ap₂ (λ p ps. p ∷ ps) (ap₂ group (v.0.0 ∙ sym w.0.0) r.0) (bodies-same os bs cs v.1 w.1 r.1)

pub clause-same : (a b c : Clause) → IsAlikeClause a b → IsAlikeClause a c → stripped_clause b ≡ stripped_clause c → b ≡ c
clause-same a b c v w e =
    ap (λ x. record { head = x; body = b.body; vars = b.vars; line = b.line }) (v.head ∙ sym w.head)
    ∙ ap (λ x. record { head = c.head; body = x; vars = b.vars; line = b.line }) (bodies-same a.body b.body c.body v.body w.body (ap (λ x. x.body) e))
    ∙ ap (λ x. record { head = c.head; body = c.body; vars = x; line = b.line }) (v.vars ∙ sym w.vars)
    ∙ ap (λ x. record { head = c.head; body = c.body; vars = c.vars; line = x }) (ap (λ x. x.line) e)

pub one-alike : (A B C : Program) → AreAlike A B → AreAlike A C → stripped B ≡ stripped C → B ≡ C
one-alike [] [] [] v w e = refl
one-alike [] [] (c ∷ cs) v w e = absurd w
one-alike [] (b ∷ bs) C v w e = absurd v
one-alike (a ∷ os) [] C v w e = absurd v
one-alike (a ∷ os) (b ∷ bs) [] v w e = absurd w
one-alike (a ∷ os) (b ∷ bs) (c ∷ cs) v w e =
    let first : stripped_clause b ≡ stripped_clause c = cc in
    let rest : stripped bs ≡ stripped cs = cc in
    ap₂ (λ x xs. x ∷ xs) (clause-same a b c v.0 w.0 first) (one-alike os bs cs v.1 w.1 rest)
