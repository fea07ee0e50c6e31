-- What is covered and given is no reason to refuse.
use Rattle.std.proofs.Common.{◌≡◌, ℕ, zero, suc, ◌+◌, inl, inr, List, [], ◌∷◌, Some, slice_get, refl, sym, ◌∙◌}
use Rattle.std.specs.List.{All, flat_map}
use Rattle.std.proofs.lemmas.Bool.{false≢true}
use Rattle.ap_term.specs.declared.clauses.Check.{Check}
use Rattle.ap_term.specs.Tree.{Tree, Trees, none, more}
use Rattle.ap_term.specs.WellFormed.{IsProgram}
use Rattle.ap_term.specs.Goals.{Part, call, group, Clause, Program}
use Rattle.ap_patterns.specs.declared.slots.Given.{Given}
use Rattle.ap_patterns.specs.declared.entries.Entries.{Entries}
use Rattle.ap_patterns.specs.Given.{Patterns, given_by_clause, given_by_entries}
use Rattle.ap_patterns.specs.Covered.{IsHeld, IsClosed}
use Rattle.ap_certify.specs.declared.faults.CertErr.{CertErr}
use Rattle.ap_certify.specs.declared.faults.CertErr.TheVariants.{NotClosed, MissingCheck, NoMemory}
use Rattle.ap_certify.specs.declared.sights.Sight.{Sight}
use Rattle.ap_tracked.specs.Tracked.{IsOneOf}
use Rattle.ap_certify.specs.Sights.{given_in, after, after_part, entry}
use Rattle.ap_certify.specs.Held.{IsGoalHeld, AreHeldAtFork, AreHeldInTurn, IsPartHeld, IsBodyHeld}
use Rattle.ap_certify.specs.GroupsGiven.{AreGroupsGiven}
use Rattle.ap_certify.specs.Refused.{goals_of, GoalGives, EachGives, TurnGives, PartGives, BodyGives, ClauseGives, BodyLeavesOut, entry_calls, IsGivenAt, IsRefusedBy}
use Rattle.ap_certify.proofs.Closed.{each, left_all, all_held}
use Rattle.ap_certify.proofs.Sound.{ClauseHeld, AllHeld}
use Rattle.ap_certify.proofs.Predicates.{entries-held}

numbered : {X : Type 0} (xs : List X) (i : ℕ) (x : X) → slice_get xs i ≡ Some x → IsOneOf x xs
numbered [] i x e = absurd (cc)
numbered (y ∷ xs) zero x e = let q : y ≡ x = cc in inl (sym q)
numbered (y ∷ xs) (suc i) x e = inr (numbered xs i x e)

-- ---- what is given is covered

goal-held : (t : Patterns) (s : Sight) (e : Tree) (n k : ℕ) (g : Given) → IsGoalHeld t s e → GoalGives s n e k g → IsHeld t g
goal-held t s e n k g h i = each (IsHeld t) (given_in s e) h g i.1

each-held : (t : Patterns) (s : Sight) (n : ℕ) (es : Trees) (k : ℕ) (g : Given) → AreHeldAtFork t s es → EachGives s n es k g → IsHeld t g
each-held t s n none k g h i = absurd i
each-held t s n (more e es) k g h (inl i) = goal-held t s e n k g h.0 i
each-held t s n (more e es) k g h (inr i) = each-held t s (n + 1) es k g h.1 i

turn-held : (t : Patterns) (s : Sight) (n : ℕ) (es : Trees) (k : ℕ) (g : Given) → AreHeldInTurn t s es → TurnGives t s n es k g → IsHeld t g
turn-held t s n none k g h i = absurd i
turn-held t s n (more e es) k g h (inl i) = goal-held t s e n k g h.0 i
turn-held t s n (more e es) k g h (inr i) = turn-held t (after t s e) (n + 1) es k g h.1 i

part-held : (t : Patterns) (s : Sight) (n : ℕ) (p : Part) (k : ℕ) (g : Given) → IsPartHeld t s p → PartGives t s n p k g → IsHeld t g
part-held t s n (call e) k g h i = goal-held t s e n k g h i
part-held t s n (group cs gs) k g h (inl i) = each-held t s n gs k g h.1 i
part-held t s n (group cs gs) k g h (inr i) = turn-held t s n gs k g h.2 i

body-held : (t : Patterns) (s : Sight) (n : ℕ) (ps : List Part) (k : ℕ) (g : Given) → IsBodyHeld t s ps → BodyGives t s n ps k g → IsHeld t g
body-held t s n [] k g h i = absurd i
body-held t s n (p ∷ ps) k g h (inl i) = part-held t s n p k g h.0 i
body-held t s n (p ∷ ps) k g h (inr i) = body-held t (after_part t s p) (n + goals_of p) ps k g h.1 i

clause-held : (t : Patterns) (c : Clause) (k : ℕ) (g : Given) → ClauseHeld t c → ClauseGives t c k g → IsHeld t g
clause-held t c k g h (inl i) = each (IsHeld t) _ h.success g i.1
clause-held t c k g h (inr i) = body-held t (entry t c) 1 c.body k g h.body i

program-held : (E : Entries) (A : Program) (t : Patterns) (i k : ℕ) (g : Given) → All (IsHeld t) (given_by_entries E A) → AllHeld t A → IsGivenAt E A t i k g → IsHeld t g
program-held E A t i k g h a (inl q) = let n = q.1 in each (IsHeld t) (entry_calls E A) (entries-held E A t h) g (numbered (entry_calls E A) n.0 g n.2)
program-held E A t i k g h a (inr q) = clause-held t q.0 k g (a q.0 (numbered A q.1.0 q.0 q.1.2)) q.2

-- ---- no check is missing

none-left-out : (t : Patterns) (s : Sight) (n : ℕ) (ps : List Part) (k : ℕ) (c : Check) → IsBodyHeld t s ps → BodyLeavesOut t s n ps k c → ⊥
none-left-out t s n [] k c h i = i
none-left-out t s n (call e ∷ ps) k c h (inl i) = i
none-left-out t s n (group cs gs ∷ ps) k c h (inl i) = false≢true (sym i.1.ungiven ∙ h.0.0 c i.1.full i.1.unwritten)
none-left-out t s n (call e ∷ ps) k c h (inr i) = none-left-out t (after t s e) (n + 1) ps k c h.1 i
none-left-out t s n (group cs gs ∷ ps) k c h (inr i) = none-left-out t (after_part t s (group cs gs)) (n + goals_of (group cs gs)) ps k c h.1 i

pub unrefused : (E : Entries) (A : Program) (t : Patterns) (e : CertErr) → IsProgram A → IsClosed E A t → AreGroupsGiven t A → IsRefusedBy E A t e → e ≡ NoMemory
unrefused E A t (NotClosed clause place was now) w h m r =
    let held = program-held E A t clause place r.0 (left_all (IsHeld t) (given_by_entries E A) (flat_map (given_by_clause t) A) h) (all_held E A t w h m) r.3.given in
    absurd (false≢true (sym r.3.uncovered ∙ held))
unrefused E A t (MissingCheck clause place check) w h m r =
    absurd (none-left-out t (entry t r.0) 1 r.0.body place check (all_held E A t w h m r.0 (numbered A r.1.0 r.0 r.1.2)).body r.2)
unrefused E A t NoMemory w h m r = refl
