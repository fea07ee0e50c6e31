-- What is alike to itself, and without groups; and what is known of the program at which the passes end.
use Rattle.std.proofs.Common.{◌≡◌, ◌<◌, inl, Bool, true, false, List, [], ◌∷◌, ◌++◌, length, refl, sym, ◌∙◌, arith}
use Rattle.std.specs.List.{flat_map}
use Rattle.ap_term.specs.Tree.{Trees, none, more}
use Rattle.ap_term.specs.Goals.{Part, call, group, Clause, Program}
use Rattle.ap_term.specs.WellFormed.{IsProgram}
use Rattle.ap_cge.specs.Stripped.{stripped_part, stripped_clause, stripped}
use Rattle.ap_patterns.specs.declared.entries.Entries.{Entries}
use Rattle.ap_certify.specs.declared.certified.Scope.TheVariants.{Of}
use Rattle.ap_certify.specs.Certificate.{AreMissingGiven}
use Rattle.ap_mel.specs.declared.annotations.Kind.{Kind}
use Rattle.ap_mel.specs.Made.{IsMade}
use Rattle.ap_mel.specs.Mended.{is_program_settled}
use Rattle.ap_mel.proofs.Certifying.{first-kept, passes-length, passes-stripped, settled-given}
use Rattle.ap_mel.proofs.Ending.{weight, pass-lighter}
use Rattle.ap_alike.specs.Alike.{AreAlikeGoals, IsAlikePart, AreAlikeBodies, IsAlikeClause, AreAlike}
use Rattle.ap_alike.proofs.Groups.{append-alike, calls-alike}

own_goals : (gs : Trees) → AreAlikeGoals gs gs
own_goals none = tt
own_goals (more g gs) = (inl refl, own_goals gs)

own_part : (p : Part) → IsAlikePart p p
own_part (call g) = inl refl
own_part (group cs gs) = (refl, own_goals gs)

own_body : (ps : List Part) → AreAlikeBodies ps ps
own_body [] = tt
own_body (p ∷ ps) = (own_part p, own_body ps)

pub own-clause : (c : Clause) → IsAlikeClause c c
own-clause c = record { head = refl; vars = refl; body = own_body c.body }

-- ---- without groups

part_stripped : (p q : Part) → IsAlikePart p q → AreAlikeBodies (stripped_part p) (stripped_part q)
part_stripped (call g) (call h) w = (w, tt)
part_stripped (call g) (group ds hs) w = absurd w
part_stripped (group cs gs) (call h) w = absurd w
part_stripped (group cs gs) (group ds hs) w = calls-alike gs hs w.1

body_stripped : (ps qs : List Part) → AreAlikeBodies ps qs → AreAlikeBodies (flat_map stripped_part ps) (flat_map stripped_part qs)
body_stripped [] [] w = tt
body_stripped [] (q ∷ qs) w = absurd w
body_stripped (p ∷ ps) [] w = absurd w
body_stripped (p ∷ ps) (q ∷ qs) w =
    append-alike (stripped_part p) (stripped_part q) (flat_map stripped_part ps) (flat_map stripped_part qs) (part_stripped p q w.0) (body_stripped ps qs w.1)

pub clause-stripped : (c d : Clause) → IsAlikeClause c d → IsAlikeClause (stripped_clause c) (stripped_clause d)
clause-stripped c d w = record { head = w.head; vars = w.vars; body = body_stripped c.body d.body w.body }

-- a program with another clause behind it
pub joined-alike : (p : Program) (c d : Clause) → IsAlikeClause c d → AreAlike (p ++ c ∷ []) (p ++ d ∷ [])
joined-alike [] c d w = (w, tt)
joined-alike (e ∷ p) c d w = (own-clause e, joined-alike p c d w)

-- ---- the program at which the passes end

as_long : (k : Kind) (E : Entries) (P A : Program) → IsMade k E P A → length P ≡ length A
as_long k E P A m = passes-length k E P m.first A (first-kept k m.written P m.first m.first_is).0 m.passes

pub made-stripped : (k : Kind) (E : Entries) (P A : Program) → IsMade k E P A → stripped A ≡ stripped P
made-stripped k E P A m =
    let kept = first-kept k m.written P m.first m.first_is in
    passes-stripped k E P m.first A kept.0 m.passes ∙ kept.1

-- a pass that changes nothing finds nothing that is missing
pub made-given : (k : Kind) (E : Entries) (P A : Program) → IsMade k E P A → IsProgram A → AreMissingGiven A (Of E)
made-given k E P A m good = settled-given k E P A m.table (as_long k E P A m) good m.table_is (go (is_program_settled k m.table P A) refl)
  where
    go : (b : Bool) → is_program_settled k m.table P A ≡ b → is_program_settled k m.table P A ≡ true
    go true e = e
    go false e = let less : weight A < weight A = pass-lighter k m.table P A A (as_long k E P A m) (sym m.last) e in absurd (omega arith)
