-- What a clause gives turns on the patterns that it reads alone.
use Rattle.std.proofs.Common.{◌≡◌, Bool, false, ◌||◌, cond, List, [], ◌∷◌, ◌++◌, Option, Some, None, refl, ap, ap₂, ◌∙◌}
use Rattle.std.proofs.lemmas.Bool.{or_parts}
use Rattle.std.specs.List.{flat_map, list_any}
use Rattle.ap_term.specs.Tree.{Tree, Trees, none, more}
use Rattle.ap_term.specs.Goals.{Part, call, group, Clause}
use Rattle.ap_absunify.specs.declared.states.State.{State}
use Rattle.ap_absunify.specs.AfterBuiltin.{after_builtin}
use Rattle.ap_patterns.specs.declared.tables.Predicate.{Predicate}
use Rattle.ap_patterns.specs.declared.slots.Slot.{Slot}
use Rattle.ap_patterns.specs.declared.slots.Slot.TheVariants.{Call, Success}
use Rattle.ap_patterns.specs.Places.{call_pattern}
use Rattle.ap_patterns.specs.Entering.{enter}
use Rattle.ap_patterns.specs.AfterCall.{after_call}
use Rattle.ap_patterns.specs.Table.{predicate_of}
use Rattle.ap_patterns.specs.Given.{Patterns, call_at, success_at, is_builtin, after_goal, given_by_goal, after_goals, given_in_turn, given_at_fork, after_part, given_by_part, after_body, given_by_body, is_analysed, given_from, given_unanalysed, given_by_clause, entered, to_success}
use Rattle.ap_fixpoint.specs.Reads.{is_among, call_slot, success_slot, slots_of_goals, slots_of_part, reads}

none-append : (p : Slot → Bool) (xs zs : List Slot) → list_any p (xs ++ zs) ≡ false → (list_any p xs ≡ false) × (list_any p zs ≡ false)
none-append p [] zs h = (refl, h)
none-append p (x ∷ xs) zs h =
    let r = or_parts (p x) (list_any p (xs ++ zs)) h in
    let q = none-append p xs zs r.1 in
    (ap₂ (λ a b. a || b) r.0 q.0, q.1)

module _ (ys : List Slot) (t u : Patterns) (same : (x : Slot) → is_among x ys ≡ false → u x ≡ t x) where
  -- whether one of these slots has changed
  abbrev any_changed : List Slot → Bool
  any_changed xs = list_any (λ x. is_among x ys) xs

  same-success : (p : Option Predicate) → any_changed (success_slot p) ≡ false → success_at u p ≡ success_at t p
  same-success None h = refl
  same-success (Some p) h = same (Success p) (or_parts (is_among (Success p) ys) false h).0

  same-call : (p : Option Predicate) → any_changed (call_slot p) ≡ false → call_at u p ≡ call_at t p
  same-call None h = refl
  same-call (Some p) h = same (Call p) (or_parts (is_among (Call p) ys) false h).0

  same-goal : (s : State) (g : Tree) → any_changed (success_slot (predicate_of g)) ≡ false → after_goal u s g ≡ after_goal t s g
  same-goal s g h = ap (λ z. cond (is_builtin g) (after_builtin s g) (after_call s g z)) (same-success (predicate_of g) h)

  same-goals : (s : State) (gs : Trees) → any_changed (slots_of_goals gs) ≡ false → after_goals u s gs ≡ after_goals t s gs
  same-goals s none h = refl
  same-goals s (more g gs) h =
      let r = none-append (λ x. is_among x ys) (success_slot (predicate_of g)) (slots_of_goals gs) h in
      same-goals (after_goal u s g) gs r.1 ∙ ap (λ z. after_goals t z gs) (same-goal s g r.0)

  same-in_turn : (s : State) (gs : Trees) → any_changed (slots_of_goals gs) ≡ false → given_in_turn u s gs ≡ given_in_turn t s gs
  same-in_turn s none h = refl
  same-in_turn s (more g gs) h =
      let r = none-append (λ x. is_among x ys) (success_slot (predicate_of g)) (slots_of_goals gs) h in
      ap (λ z. given_by_goal s g ++ z) (same-in_turn (after_goal u s g) gs r.1 ∙ ap (λ z. given_in_turn t z gs) (same-goal s g r.0))

  same-after_part : (s : State) (p : Part) → any_changed (slots_of_part p) ≡ false → after_part u s p ≡ after_part t s p
  same-after_part s (call g) h = same-goal s g h
  same-after_part s (group cs gs) h = same-goals s gs h

  same-part : (s : State) (p : Part) → any_changed (slots_of_part p) ≡ false → given_by_part u s p ≡ given_by_part t s p
  same-part s (call g) h = refl
  same-part s (group cs gs) h = ap (λ z. given_at_fork s gs ++ z) (same-in_turn s gs h)

  same-after_body : (s : State) (ps : List Part) → any_changed (flat_map slots_of_part ps) ≡ false → after_body u s ps ≡ after_body t s ps
  same-after_body s [] h = refl
  same-after_body s (p ∷ ps) h =
      let r = none-append (λ x. is_among x ys) (slots_of_part p) (flat_map slots_of_part ps) h in
      same-after_body (after_part u s p) ps r.1 ∙ ap (λ z. after_body t z ps) (same-after_part s p r.0)

  same-body : (s : State) (ps : List Part) → any_changed (flat_map slots_of_part ps) ≡ false → given_by_body u s ps ≡ given_by_body t s ps
  same-body s [] h = refl
  same-body s (p ∷ ps) h =
      let r = none-append (λ x. is_among x ys) (slots_of_part p) (flat_map slots_of_part ps) h in
      ap₂ (λ a b. a ++ b) (same-part s p r.0) (same-body (after_part u s p) ps r.1 ∙ ap (λ z. given_by_body t z ps) (same-after_part s p r.0))

  same-from : (s : State) (c : Clause) → any_changed (flat_map slots_of_part c.body) ≡ false → given_from u s c ≡ given_from t s c
  same-from s c h = ap₂ (λ a b. a ++ to_success (predicate_of c.head) (call_pattern b c.head)) (same-body s c.body h) (same-after_body s c.body h)

  pub unread : (c : Clause) → reads ys c ≡ false → given_by_clause u c ≡ given_by_clause t c
  unread c h =
      let r = none-append (λ x. is_among x ys) (call_slot (predicate_of c.head)) (flat_map slots_of_part c.body) h in
      let e : call_at u (predicate_of c.head) ≡ call_at t (predicate_of c.head) = same-call (predicate_of c.head) r.0 in
      ap₂ (λ a b. cond (is_analysed c) a b)
      (same-from (entered u c) c r.1 ∙ ap (λ z. given_from t (enter c.vars c.head z) c) e)
      (ap (λ z. given_unanalysed z c) e)
