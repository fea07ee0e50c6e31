-- Bodies part by part.
use Rattle.std.proofs.Common.{◌≡◌, ℕ, ◌+◌, ◌-◌, ◌<◌, ◌≤◌, Bool, IsTrue, List, [], ◌∷◌, ◌++◌, length, take, drop, get_or, map, refl, ap, sym, ◌∙◌, subst, append_assoc, append-nil, arith}
use Rattle.std.specs.List.{list_all}
use Rattle.std.proofs.lemmas.Bool.{and_parts, and_from}
use Rattle.std.proofs.lemmas.List.{drop-map, drop_all, take_rest, length-map, length-drop, drop-drop}
use Rattle.ap_term.specs.declared.clauses.Check.{Check}
use Rattle.ap_conditions.specs.FullCondition.{full_condition}
use Rattle.ap_conditions.specs.Simplified.{left}
use Rattle.ap_term.specs.declared.clauses.Part as code
use Rattle.ap_term.specs.Tree.{Trees}
use Rattle.ap_term.specs.GoalView.{part_of}
use Rattle.ap_term.specs.Goals.{Part, group}
use Rattle.ap_term.specs.WellFormed.{all_callable, numbered_all}
use Rattle.ap_term.proofs.GoalLists.{any-turn, any-found, any-done}
use Rattle.ap_absunify.specs.declared.states.State.{State}
use Rattle.ap_patterns.specs.Given.{Patterns, after_part}
use Rattle.ap_fixpoint.specs.Formed.{goals_formed}
use Rattle.ap_fixpoint.proofs.Turns.{parts-drop_more}
use Rattle.ap_udg.specs.declared.runs.Rule.{Rule}
use Rattle.ap_udg.specs.Runs.{goals_of, IsLongestRun}
use Rattle.ap_udg.specs.Grouped.{group_in, IsNext, Grouped, alone, together, done, next}
use Rattle.ap_udg.specs.Completed.{completed, behind, completed_body}
use Rattle.ap_udg.proofs.LongestRuns.{last-formed, run-numbered, run-callable}

-- ---- what comes first

some_first : (ps : List Part) (p : Part) → take 1 ps ≡ p ∷ [] → 1 ≤ length ps
some_first [] p e = absurd (cc)
some_first (q ∷ ps) p e = omega arith

pub next-within : (r : Rule) (s : State) (ps : List Part) (n : ℕ) (p : Part) → IsNext r s ps n p → n ≤ length ps
next-within r s ps k q (alone m n p l one e h) = let k : 1 ≤ length ps = some_first ps p h in omega arith
next-within r s ps k q (together n p l two h) = l.run.there

first_formed : (ps : List Part) (p : Part) → take 1 ps ≡ p ∷ [] → IsTrue (list_all goals_formed ps) → IsTrue (goals_formed p)
first_formed [] p e h = absurd (cc)
first_formed (q ∷ ps) p e h =
    let same : q ≡ p = cc in
    subst (λ z. IsTrue (goals_formed z)) same (and_parts (goals_formed q) (list_all goals_formed ps) h).0

pub next-formed : (r : Rule) (s : State) (ps : List Part) (n : ℕ) (p : Part) → IsNext r s ps n p → IsTrue (list_all goals_formed ps) → IsTrue (goals_formed p)
next-formed r s ps k q (alone m n p l one e h) w = first_formed ps p h w
next-formed r s ps k q (together n p l two h) w =
    subst (λ z. IsTrue (goals_formed z)) (sym h) (and_from (all_callable (goals_of (take n ps))) (numbered_all 255 (goals_of (take n ps))) (run-callable ps n w) (run-numbered ps n w))

first-part : (ps : List code.Part) (p : code.Part) → 0 < length ps → p ≡ get_or ps 0 p → take 1 (map part_of ps) ≡ part_of p ∷ []
first-part [] p l e = absurd (omega arith)
first-part (q ∷ ps) p l e = ap (λ z. part_of z ∷ []) (sym e)

pub next-alone : (r : Rule) (s : State) (ps : List code.Part) (n : ℕ) (q : code.Part) (p : code.Part) → IsLongestRun r s (map part_of ps) n → n < 2 → 0 < length ps → q ≡ get_or ps 0 q
    → part_of p ≡ part_of q → IsNext r s (map part_of ps) 1 (part_of p)
next-alone r s ps n q p l few some e h = alone n 1 (part_of p) l (omega arith) refl (first-part ps q some e ∙ ap (λ z. z ∷ []) (sym h))

-- ---- one part more

-- what stands before goes on in the parts that are left
unfoldable pub GoesOn : Rule → Patterns → State → List Part → List Part → State → List Part → Type 0
GoesOn r t s ps body now rest = (qs : List Part) → Grouped r t now rest qs → Grouped r t s ps (body ++ qs)

pub begins : (r : Rule) (t : Patterns) (s : State) (ps : List Part) → GoesOn r t s ps [] s ps
unfolding GoesOn
begins r t s ps qs h = h

pub goes_on : (r : Rule) (t : Patterns) (s : State) (ps body rest : List Part) (now : State) (n : ℕ) (p : Part) → GoesOn r t s ps body now rest → IsNext r now rest n p
    → GoesOn r t s ps (body ++ p ∷ []) (after_part t now p) (drop n rest)
unfolding GoesOn
goes_on r t s ps body rest now n p h i qs k = subst (Grouped r t s ps) (sym (append_assoc body (p ∷ []) qs)) (h (p ∷ qs) (next now rest n p qs i k))

pub goes_to_end : (r : Rule) (t : Patterns) (s : State) (ps body rest : List Part) (now : State) → GoesOn r t s ps body now rest → rest ≡ [] → Grouped r t s ps body
unfolding GoesOn
goes_to_end r t s ps body rest now h e = subst (Grouped r t s ps) (append-nil body) (h [] (done now rest e))

rest-parts : (ps : List code.Part) (i : ℕ) → map part_of (take (length ps - i) (drop i ps)) ≡ drop i (map part_of ps)
rest-parts ps i = ap (map part_of) (take_rest ps i) ∙ sym (drop-map part_of i ps)

pub rest-formed : (ps : List code.Part) (i : ℕ) → IsTrue (list_all goals_formed (map part_of ps)) → IsTrue (list_all goals_formed (map part_of (take (length ps - i) (drop i ps))))
rest-formed ps i h = ap (list_all goals_formed) (rest-parts ps i) ∙ last-formed goals_formed (map part_of ps) i h

pub rest-within : (r : Rule) (s : State) (ps : List code.Part) (i n : ℕ) (p : Part) → i < length ps → IsNext r s (map part_of (take (length ps - i) (drop i ps))) n p → i + n ≤ length ps
rest-within r s ps i n p l h =
    let k : n ≤ length (drop i (map part_of ps)) = next-within r s (drop i (map part_of ps)) n p (subst (λ qs. IsNext r s qs n p) (rest-parts ps i) h) in
    let m : n ≤ length ps - i = simp (length-drop, length-map) at k in omega arith

pub turns : (r : Rule) (t : Patterns) (s : State) (ps : List code.Part) (body new : List Part) (now after : State) (i n : ℕ) (p : Part)
    → GoesOn r t s (map part_of ps) body now (map part_of (drop i ps)) → IsNext r now (map part_of (take (length ps - i) (drop i ps))) n p → new ≡ body ++ p ∷ [] → after ≡ after_part t now p
    → GoesOn r t s (map part_of ps) new after (map part_of (drop (i + n) ps))
turns r t s ps body new now after i n p h k b a =
    let rest = drop-map part_of i ps in
    let one = goes_on r t s (map part_of ps) body (drop i (map part_of ps)) now n p (subst (GoesOn r t s (map part_of ps) body now) (sym rest) h) (subst (λ qs. IsNext r now qs n p) (rest-parts ps i) k) in
    let two = subst (λ b. GoesOn r t s (map part_of ps) b (after_part t now p) (drop n (drop i (map part_of ps)))) (sym b) one in
    let three = subst (λ z. GoesOn r t s (map part_of ps) new z (drop n (drop i (map part_of ps)))) (sym a) two in
    subst (GoesOn r t s (map part_of ps) new after) (drop-drop n i (map part_of ps) ∙ ap (λ m. drop m (map part_of ps)) (omega arith) ∙ drop-map part_of (i + n) ps) three

pub ends : (r : Rule) (t : Patterns) (s : State) (ps : List code.Part) (body : List Part) (now : State) (i : ℕ) → length ps ≤ i
    → GoesOn r t s (map part_of ps) body now (map part_of (drop i ps)) → Grouped r t s (map part_of ps) body
ends r t s ps body now i l h = goes_to_end r t s (map part_of ps) body (map part_of (drop i ps)) now h (ap (map part_of) (drop_all i ps l))

pub made_group : (s : State) (cs : List Check) (ts hs gs : Trees) → cs ≡ left s (full_condition ts) → ts ≡ gs → hs ≡ gs → group cs hs ≡ group_in s gs
made_group s cs ts hs gs c t h = ap (λ z. group z hs) c ∙ ap (λ z. group (left s (full_condition z)) hs) t ∙ ap (group (left s (full_condition gs))) h

-- ---- completed bodies

pub completed-turn : (analysed : Bool) (t : Patterns) (s now : State) (ps : List code.Part) (i : ℕ) (p : code.Part) (body whole : List Part) → i < length ps → p ≡ get_or ps i p
    → body ++ completed_body analysed t now (map part_of (drop i ps)) ≡ whole
    → (body ++ completed now (part_of p) ∷ []) ++ completed_body analysed t (behind analysed t now (part_of p)) (map part_of (drop (i + 1) ps)) ≡ whole
completed-turn analysed t s now ps i p body whole l e h =
    append_assoc body (completed now (part_of p) ∷ []) (completed_body analysed t (behind analysed t now (part_of p)) (map part_of (drop (i + 1) ps)))
    ∙ ap (λ qs. body ++ completed_body analysed t now qs) (sym (parts-drop_more ps i p l e)) ∙ h

pub completed-done : (analysed : Bool) (t : Patterns) (now : State) (ps : List code.Part) (i : ℕ) (body whole : List Part) → length ps ≤ i
    → body ++ completed_body analysed t now (map part_of (drop i ps)) ≡ whole → body ≡ whole
completed-done analysed t now ps i body whole l h =
    sym (append-nil body) ∙ ap (λ qs. body ++ completed_body analysed t now (map part_of qs)) (sym (drop_all i ps l)) ∙ h

-- ---- whether a body has groups

pub ruleset rules_of_groups = (any-turn, any-found, any-done)

pub ruleset rules_of_completed = (completed-turn, completed-done)
