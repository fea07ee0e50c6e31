-- The groups that are made of programs that are alike have the same checks.
use Rattle.std.proofs.Common.{◌≡◌, ℕ, zero, suc, ◌+◌, ◌≤◌, nat_le, Bool, true, false, not, ◌&&◌, ◌||◌, if◌then◌else◌, List, [], ◌∷◌, ◌++◌, length, take, drop, refl, ap, ap₂, sym, ◌∙◌, subst}
use Rattle.std.specs.List.{list_all, list_any, filter}
use Rattle.ap_term.specs.declared.clauses.Check.{Check}
use Rattle.ap_term.specs.Tree.{Tree, Trees, none, more, count_trees}
use Rattle.ap_term.specs.Goals.{Part, call, group, calls, is_group, has_groups, Clause, Program}
use Rattle.ap_absunify.specs.declared.states.State.{State}
use Rattle.ap_patterns.specs.declared.entries.Entries.{Entries}
use Rattle.ap_patterns.specs.Places.{arguments}
use Rattle.ap_patterns.specs.Entering.{enter}
use Rattle.ap_patterns.specs.Table.{predicate_of}
use Rattle.ap_patterns.specs.Given.{Patterns, call_at, after_part, is_analysed}
use Rattle.ap_conditions.specs.Simplified.{simplified, left}
use Rattle.ap_certify.specs.Written.{is_written}
use Rattle.ap_udg.specs.declared.runs.Rule.{Rule}
use Rattle.ap_udg.specs.declared.runs.Rule.TheVariants.{Conditional, Unconditional}
use Rattle.ap_udg.specs.Runs.{takes, may_stand, is_user_call, goals_of, IsRun, IsLongestRun}
use Rattle.ap_udg.specs.Grouped.{group_in, IsNext, Grouped, alone, together, done, next}
use Rattle.ap_udg.specs.Completed.{missing, completed, completed_body, unknown, start, behind}
use Rattle.ap_udg.specs.Annotated.{IsBody, IsAnnotatedClause, IsAnnotated}
use Rattle.ap_mel.specs.declared.annotations.Kind.{Kind}
use Rattle.ap_mel.specs.declared.annotations.Kind.TheVariants as kind
use Rattle.ap_mel.specs.Made.{IsFirst, Passes, begun, passed, IsMade}
use Rattle.ap_mel.specs.Mended.{is_never_true, is_none, is_given_up, mended, mended_body, is_bare, mended_clause, mended_program}
use Rattle.ap_mel.proofs.Mending.{mended-stripped}
use Rattle.ap_mel.proofs.Certifying.{first-kept, passes-length}
use Rattle.ap_alike.specs.Alike.{AreAlikeGoals, IsAlikePart, AreAlikeBodies, IsAlikeClause, AreAlike}
use Rattle.ap_alike.proofs.Goals.{user-goal, condition-goals}
use Rattle.ap_alike.proofs.Bodies.{after-part, fix-alike}
use Rattle.ap_alike.proofs.Same.{one-alike}

-- ---- lists of parts

length-alike : (ps qs : List Part) → AreAlikeBodies ps qs → length qs ≡ length ps
length-alike [] [] w = refl
length-alike [] (q ∷ qs) w = absurd w
length-alike (p ∷ ps) [] w = absurd w
length-alike (p ∷ ps) (q ∷ qs) w = ap suc (length-alike ps qs w.1)

take-alike : (n : ℕ) (ps qs : List Part) → AreAlikeBodies ps qs → AreAlikeBodies (take n ps) (take n qs)
take-alike zero ps qs w = tt
take-alike (suc n) [] [] w = tt
take-alike (suc n) [] (q ∷ qs) w = absurd w
take-alike (suc n) (p ∷ ps) [] w = absurd w
take-alike (suc n) (p ∷ ps) (q ∷ qs) w = (w.0, take-alike n ps qs w.1)

drop-alike : (n : ℕ) (ps qs : List Part) → AreAlikeBodies ps qs → AreAlikeBodies (drop n ps) (drop n qs)
drop-alike zero ps qs w = w
drop-alike (suc n) [] [] w = tt
drop-alike (suc n) [] (q ∷ qs) w = absurd w
drop-alike (suc n) (p ∷ ps) [] w = absurd w
drop-alike (suc n) (p ∷ ps) (q ∷ qs) w = drop-alike n ps qs w.1

pub append-alike : (ps qs rs ss : List Part) → AreAlikeBodies ps qs → AreAlikeBodies rs ss → AreAlikeBodies (ps ++ rs) (qs ++ ss)
append-alike [] [] rs ss v w = w
append-alike [] (q ∷ qs) rs ss v w = absurd v
append-alike (p ∷ ps) [] rs ss v w = absurd v
append-alike (p ∷ ps) (q ∷ qs) rs ss v w = (v.0, append-alike ps qs rs ss v.1 w)

pub calls-alike : (gs hs : Trees) → AreAlikeGoals gs hs → AreAlikeBodies (calls gs) (calls hs)
calls-alike none none w = tt
calls-alike none (more h hs) w = absurd w
calls-alike (more g gs) none w = absurd w
calls-alike (more g gs) (more h hs) w = (w.0, calls-alike gs hs w.1)

nothing : (qs : List Part) → AreAlikeBodies [] qs → qs ≡ []
nothing [] w = refl
nothing (q ∷ qs) w = absurd w

group-same : (p q : Part) → IsAlikePart p q → is_group q ≡ is_group p
group-same (call g) (call h) w = refl
group-same (call g) (group ds hs) w = absurd w
group-same (group cs gs) (call h) w = absurd w
group-same (group cs gs) (group ds hs) w = refl

groups-same : (ps qs : List Part) → AreAlikeBodies ps qs → list_any is_group qs ≡ list_any is_group ps
groups-same [] [] w = refl
groups-same [] (q ∷ qs) w = absurd w
groups-same (p ∷ ps) [] w = absurd w
groups-same (p ∷ ps) (q ∷ qs) w = ap₂ (λ a b. a || b) (group-same p q w.0) (groups-same ps qs w.1)

-- ---- runs of goals

user-same : (p q : Part) → IsAlikePart p q → is_user_call q ≡ is_user_call p
user-same (call g) (call h) w = ap not (user-goal g h w)
user-same (call g) (group ds hs) w = absurd w
user-same (group cs gs) (call h) w = absurd w
user-same (group cs gs) (group ds hs) w = refl

users-same : (ps qs : List Part) → AreAlikeBodies ps qs → list_all is_user_call qs ≡ list_all is_user_call ps
users-same [] [] w = refl
users-same [] (q ∷ qs) w = absurd w
users-same (p ∷ ps) [] w = absurd w
users-same (p ∷ ps) (q ∷ qs) w = ap₂ (λ a b. a && b) (user-same p q w.0) (users-same ps qs w.1)

goals-alike : (ps qs : List Part) → AreAlikeBodies ps qs → AreAlikeGoals (goals_of ps) (goals_of qs)
goals-alike [] [] w = tt
goals-alike [] (q ∷ qs) w = absurd w
goals-alike (p ∷ ps) [] w = absurd w
goals-alike (call g ∷ ps) (call h ∷ qs) w = (w.0, goals-alike ps qs w.1)
goals-alike (call g ∷ ps) (group ds hs ∷ qs) w = absurd w.0
goals-alike (group cs gs ∷ ps) (call h ∷ qs) w = absurd w.0
goals-alike (group cs gs ∷ ps) (group ds hs ∷ qs) w = goals-alike ps qs w.1

stand-same : (r : Rule) (s : State) (gs hs : Trees) → AreAlikeGoals gs hs → may_stand r s hs ≡ may_stand r s gs
stand-same r s gs hs w = ap (λ c. takes r (simplified c s)) (condition-goals gs hs w)

runs-forth : (r : Rule) (s : State) (ps qs : List Part) (n : ℕ) → AreAlikeBodies ps qs → IsRun r s ps n → IsRun r s qs n
runs-forth r s ps qs n w k = record {
  few = k.few;
  there = subst (λ m. n ≤ m) (sym (length-alike ps qs w)) k.there;
  user = users-same (take n ps) (take n qs) (take-alike n ps qs w) ∙ k.user;
  stands = stand-same r s (goals_of (take n ps)) (goals_of (take n qs)) (goals-alike (take n ps) (take n qs) (take-alike n ps qs w)) ∙ k.stands;
}

runs-back : (r : Rule) (s : State) (ps qs : List Part) (n : ℕ) → AreAlikeBodies ps qs → IsRun r s qs n → IsRun r s ps n
runs-back r s ps qs n w k = record {
  few = k.few;
  there = subst (λ m. n ≤ m) (length-alike ps qs w) k.there;
  user = sym (users-same (take n ps) (take n qs) (take-alike n ps qs w)) ∙ k.user;
  stands = sym (stand-same r s (goals_of (take n ps)) (goals_of (take n qs)) (goals-alike (take n ps) (take n qs) (take-alike n ps qs w))) ∙ k.stands;
}

longest-alike : (r : Rule) (s : State) (ps qs : List Part) (n : ℕ) → AreAlikeBodies ps qs → IsLongestRun r s ps n → IsLongestRun r s qs n
longest-alike r s ps qs n w l = record { run = runs-forth r s ps qs n w l.run; longest = λ m k. l.longest m (runs-back r s ps qs m w k) }

-- ---- groups that are made

abbrev pub NextAlike : Rule → State → List Part → ℕ → Part → Type 0
NextAlike r s qs n p = (q : Part) × IsNext r s qs n q × IsAlikePart p q

first-part : (ps qs : List Part) (p : Part) → take 1 ps ≡ p ∷ [] → AreAlikeBodies ps qs → (q : Part) × (take 1 qs ≡ q ∷ []) × IsAlikePart p q
first-part [] qs p e w = absurd (cc)
first-part (a ∷ ps) [] p e w = absurd w
first-part (a ∷ ps) (b ∷ qs) p e w = let same : a ≡ p = cc in (b, refl, subst (λ x. IsAlikePart x b) same w.0)

next-alike : (r : Rule) (s : State) (ps qs : List Part) (n : ℕ) (p : Part) → IsNext r s ps n p → AreAlikeBodies ps qs → NextAlike r s qs n p
next-alike r s ps0 qs i x (alone m n p l one e h) w =
    let f = first-part ps0 qs p h w in
    (f.0, alone m n f.0 (longest-alike r s ps0 qs m w l) one e f.1, f.2)
next-alike r s ps0 qs i x (together n p l two h) w =
    let gs = goals_of (take n ps0) in
    let hs = goals_of (take n qs) in
    let k : AreAlikeGoals gs hs = goals-alike (take n ps0) (take n qs) (take-alike n ps0 qs w) in (
      group_in s hs,
      together n (group_in s hs) (longest-alike r s ps0 qs n w l) two refl,
      subst (λ y. IsAlikePart y (group_in s hs)) (sym h) (ap (left s) (condition-goals gs hs k), k),
    )

grouped-alike : (r : Rule) (t : Patterns) (s : State) (ps os qs : List Part) → Grouped r t s ps os → AreAlikeBodies ps qs → (bs : List Part) × Grouped r t s qs bs × AreAlikeBodies os bs
grouped-alike r t s0 ps0 os0 qs (done s ps e) w = ([], done s0 qs (nothing qs (subst (λ xs. AreAlikeBodies xs qs) e w)), tt)
grouped-alike r t s0 ps0 os0 qs (next s ps n p os i g) w =
    let x = next-alike r s0 ps0 qs n p i w in
    let rest = grouped-alike r t (after_part t s0 p) (drop n ps0) os (drop n qs) g (drop-alike n ps0 qs w) in (
      x.0 ∷ rest.0,
      next s0 qs n x.0 rest.0 x.1 (subst (λ z. Grouped r t z (drop n qs) rest.0) (sym (after-part t s0 p x.0 x.2)) rest.1),
      (x.2, rest.2),
    )

-- ---- groups that were written

missing-same : (s : State) (cs : List Check) (gs hs : Trees) → AreAlikeGoals gs hs → missing s cs hs ≡ missing s cs gs
missing-same s cs gs hs w = ap (λ c. filter (λ x. not (is_written x cs)) (left s c)) (condition-goals gs hs w)

completed-alike : (s : State) (p q : Part) → IsAlikePart p q → IsAlikePart (completed s p) (completed s q)
completed-alike s (call g) (call h) w = w
completed-alike s (call g) (group ds hs) w = absurd w
completed-alike s (group cs gs) (call h) w = absurd w
completed-alike s (group cs gs) (group ds hs) w = (ap (λ x. x ++ missing s x hs) w.0 ∙ ap (λ m. cs ++ m) (missing-same s cs gs hs w.1), w.1)

behind-same : (analysed : Bool) (t : Patterns) (s : State) (p q : Part) → IsAlikePart p q → behind analysed t s q ≡ behind analysed t s p
behind-same analysed t s p q w = ap (λ r. if analysed then r else s) (after-part t s p q w)

completed_body-alike : (analysed : Bool) (t : Patterns) (s : State) (ps qs : List Part) → AreAlikeBodies ps qs → AreAlikeBodies (completed_body analysed t s ps) (completed_body analysed t s qs)
completed_body-alike analysed t s [] [] w = tt
completed_body-alike analysed t s [] (q ∷ qs) w = absurd w
completed_body-alike analysed t s (p ∷ ps) [] w = absurd w
completed_body-alike analysed t s (p ∷ ps) (q ∷ qs) w = (
  completed-alike s p q w.0,
  subst (λ r. AreAlikeBodies (completed_body analysed t (behind analysed t s p) ps) (completed_body analysed t r qs)) (sym (behind-same analysed t s p q w.0))
      (completed_body-alike analysed t (behind analysed t s p) ps qs w.1),
)

-- ---- clauses

-- the state in which a clause begins, by its head and how many variables it has
start_of : Patterns → Tree → ℕ → State
start_of t head vars = if nat_le (vars + count_trees (arguments head)) 64 then enter vars head (call_at t (predicate_of head)) else unknown (call_at t (predicate_of head))

start-same : (t : Patterns) (c d : Clause) → IsAlikeClause c d → start t d ≡ start t c
unfolding start_of
start-same t c d w = ap₂ (start_of t) w.head w.vars

analysed-same : (c d : Clause) → IsAlikeClause c d → is_analysed d ≡ is_analysed c
analysed-same c d w = ap₂ (λ head vars. nat_le (vars + count_trees (arguments head)) 64) w.head w.vars

body-alike : (hand analysed : Bool) (r : Rule) (t : Patterns) (c d : Clause) (os : List Part) → IsAlikeClause c d → IsBody hand analysed r t c os
    → (bs : List Part) × IsBody hand analysed r t d bs × AreAlikeBodies os bs
body-alike true analysed r t c d os w h = (
  completed_body analysed t (start t d) d.body,
  refl,
  subst (λ xs. AreAlikeBodies xs (completed_body analysed t (start t d) d.body)) (sym h)
      (subst (λ s. AreAlikeBodies (completed_body analysed t (start t c) c.body) (completed_body analysed t s d.body)) (sym (start-same t c d w))
      (completed_body-alike analysed t (start t c) c.body d.body w.body)),
)
body-alike false true r t c d os w h =
    let g = grouped-alike r t (start t c) c.body os d.body h w.body in
    (g.0, subst (λ s. Grouped r t s d.body g.0) (sym (start-same t c d w)) g.1, g.2)
body-alike false false r t c d os w h = (d.body, refl, subst (λ xs. AreAlikeBodies xs d.body) (sym h) w.body)

clause-alike : (r : Rule) (t : Patterns) (c a d : Clause) → IsAnnotatedClause r t c a → IsAlikeClause c d → (b : Clause) × IsAnnotatedClause r t d b × IsAlikeClause a b
clause-alike r t c a d h w =
    let x = body-alike (has_groups c) (is_analysed c) r t c d a.body w h.body in
    let b : Clause = record { head = d.head; body = x.0; vars = d.vars; line = d.line } in (
      b,
      record {
        head = refl;
        body = subst (λ hand. IsBody hand (is_analysed d) r t d x.0) (sym (groups-same c.body d.body w.body)) (subst (λ analysed. IsBody (has_groups c) analysed r t d x.0) (sym (analysed-same c d w)) x.1);
        vars = refl;
        line = refl;
      },
      record { head = w.head ∙ sym h.head; vars = w.vars ∙ sym h.vars; body = x.2 },
    )

annotated-alike : (r : Rule) (t : Patterns) (P A Q : Program) → IsAnnotated r t P A → AreAlike P Q → (B : Program) × IsAnnotated r t Q B × AreAlike A B
annotated-alike r t [] A [] h w = ([], refl, subst (λ xs. AreAlike xs []) (sym h) tt)
annotated-alike r t [] A (d ∷ ds) h w = absurd w
annotated-alike r t (c ∷ cs) [] Q h w = absurd h
annotated-alike r t (c ∷ cs) (a ∷ os) [] h w = absurd w
annotated-alike r t (c ∷ cs) (a ∷ os) (d ∷ ds) h w =
    let x = clause-alike r t c a d h.0 w.0 in
    let y = annotated-alike r t cs os ds h.1 w.1 in
    (x.0 ∷ y.0, (x.1, y.1), (x.2, y.2))

first-alike : (k : Kind) (t : Patterns) (P A Q : Program) → IsFirst k t P A → AreAlike P Q → (B : Program) × IsFirst k t Q B × AreAlike A B
first-alike kind.Mel t P A Q h w = annotated-alike Conditional t P A Q h w
first-alike kind.Udg t P A Q h w = annotated-alike Unconditional t P A Q h w
first-alike kind.None t P A Q h w = (Q, refl, subst (λ xs. AreAlike xs Q) (sym h) w)

-- ---- passes

given_up-same : (bare : Bool) (s : State) (cs : List Check) (gs hs : Trees) → AreAlikeGoals gs hs → is_given_up bare s cs hs ≡ is_given_up bare s cs gs
given_up-same bare s cs gs hs w =
    ap₂ (λ c m. is_never_true (simplified c s) || (bare && not (is_none m))) (condition-goals gs hs w) (missing-same s cs gs hs w)

mended-alike : (bare : Bool) (s : State) (p q : Part) → IsAlikePart p q → AreAlikeBodies (mended bare s p) (mended bare s q)
mended-alike bare s (call g) (call h) w = (w, tt)
mended-alike bare s (call g) (group ds hs) w = absurd w
mended-alike bare s (group cs gs) (call h) w = absurd w
mended-alike bare s (group cs gs) (group ds hs) w =
    subst (λ xs. AreAlikeBodies (mended bare s (group cs gs)) (mended bare s (group xs hs))) (sym w.0)
    (subst (λ b. AreAlikeBodies (mended bare s (group cs gs)) (if b then calls hs else group (cs ++ missing s cs hs) hs ∷ [])) (sym (given_up-same bare s cs gs hs w.1))
    (go (is_given_up bare s cs gs)))
  where
    go : (b : Bool) → AreAlikeBodies (if b then calls gs else group (cs ++ missing s cs gs) gs ∷ []) (if b then calls hs else group (cs ++ missing s cs hs) hs ∷ [])
    go true = calls-alike gs hs w.1
    go false = ((ap (λ m. cs ++ m) (missing-same s cs gs hs w.1), w.1), tt)

mended_body-alike : (bare analysed : Bool) (t : Patterns) (s : State) (ps qs : List Part) → AreAlikeBodies ps qs → AreAlikeBodies (mended_body bare analysed t s ps) (mended_body bare analysed t s qs)
mended_body-alike bare analysed t s [] [] w = tt
mended_body-alike bare analysed t s [] (q ∷ qs) w = absurd w
mended_body-alike bare analysed t s (p ∷ ps) [] w = absurd w
mended_body-alike bare analysed t s (p ∷ ps) (q ∷ qs) w =
    append-alike (mended bare s p) (mended bare s q) (mended_body bare analysed t (behind analysed t s p) ps) (mended_body bare analysed t (behind analysed t s q) qs)
    (mended-alike bare s p q w.0)
    (subst (λ r. AreAlikeBodies (mended_body bare analysed t (behind analysed t s p) ps) (mended_body bare analysed t r qs)) (sym (behind-same analysed t s p q w.0))
    (mended_body-alike bare analysed t (behind analysed t s p) ps qs w.1))

bare-same : (k : Kind) (c d : Clause) → IsAlikeClause c d → is_bare k d ≡ is_bare k c
bare-same kind.Mel c d w = refl
bare-same kind.Udg c d w = ap not (groups-same c.body d.body w.body)
bare-same kind.None c d w = refl

mended_clause-alike : (k : Kind) (t : Patterns) (c a d b : Clause) → IsAlikeClause c d → IsAlikeClause a b → IsAlikeClause (mended_clause k t c a) (mended_clause k t d b)
mended_clause-alike k t c a d b w v = record {
  head = v.head;
  vars = v.vars;
  body =
      subst (λ bare. AreAlikeBodies (mended_clause k t c a).body (mended_body bare (is_analysed b) t (start t b) b.body)) (sym (bare-same k c d w))
      (subst (λ analysed. AreAlikeBodies (mended_clause k t c a).body (mended_body (is_bare k c) analysed t (start t b) b.body)) (sym (analysed-same a b v))
      (subst (λ s. AreAlikeBodies (mended_clause k t c a).body (mended_body (is_bare k c) (is_analysed a) t s b.body)) (sym (start-same t a b v))
      (mended_body-alike (is_bare k c) (is_analysed a) t (start t a) a.body b.body v.body)));
}

mended_program-alike : (k : Kind) (t : Patterns) (P A Q B : Program) → AreAlike P Q → AreAlike A B → AreAlike (mended_program k t P A) (mended_program k t Q B)
mended_program-alike k t [] A [] B w v = tt
mended_program-alike k t [] A (d ∷ ds) B w v = absurd w
mended_program-alike k t (c ∷ cs) A [] B w v = absurd w
mended_program-alike k t (c ∷ cs) [] (d ∷ ds) [] w v = tt
mended_program-alike k t (c ∷ cs) [] (d ∷ ds) (b ∷ bs) w v = absurd v
mended_program-alike k t (c ∷ cs) (a ∷ os) (d ∷ ds) [] w v = absurd v
mended_program-alike k t (c ∷ cs) (a ∷ os) (d ∷ ds) (b ∷ bs) w v = (mended_clause-alike k t c a d b w.0 v.0, mended_program-alike k t cs os ds bs w.1 v.1)

passes-alike : (k : Kind) (E : Entries) (P first A Q begins : Program) → AreAlike P Q → AreAlike first begins → Passes k E P first A → (B : Program) × Passes k E Q begins B × AreAlike A B
passes-alike k E P first A0 Q begins w v (begun A e) = (begins, begun begins refl, subst (λ xs. AreAlike xs begins) (sym e) v)
passes-alike k E P first B0 Q begins w v (passed A t B p f e) =
    let x = passes-alike k E P first A Q begins w v p in
    let new = mended_program k t Q x.0 in
    (new, passed x.0 t new x.1 (fix-alike E A x.0 t x.2 f) refl, subst (λ xs. AreAlike xs new) (sym e) (mended_program-alike k t P A Q x.0 w x.2))

-- ---- the end of the passes

pub made-alike : (k : Kind) (E : Entries) (P Q A : Program) → AreAlike P Q → IsMade k E P A → (B : Program) × IsMade k E Q B × AreAlike A B
made-alike k E P Q A w m =
    let f = first-alike k m.written P m.first Q m.first_is w in
    let x = passes-alike k E P m.first A Q f.0 w f.2 m.passes in
    let B = x.0 in
    let l = passes-length k E Q f.0 B (first-kept k m.written Q f.0 f.1).0 x.1 in
    let again = mended_program k m.table Q B in
    let same : again ≡ B =
    one-alike A again B (subst (λ xs. AreAlike xs again) m.last (mended_program-alike k m.table P A Q B w x.2)) x.2 (mended-stripped k m.table Q B l) in (
      B,
      record {
        written = m.written;
        written_is = fix-alike E P Q m.written w m.written_is;
        first = f.0;
        first_is = f.1;
        passes = x.1;
        table = m.table;
        table_is = fix-alike E A B m.table x.2 m.table_is;
        last = same;
      },
      x.2,
    )
