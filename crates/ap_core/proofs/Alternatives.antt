-- Stacks of alternatives.
use Rattle.std.proofs.Common.{◌≡◌, List, [], ◌∷◌, ◌++◌, map, Option, Some, None, refl, ap, sym, ◌∙◌, ℕ, ◌+◌, ◌<◌, ◌≤◌, length, drop, get_or, drop_of_length-le, arith}
use Rattle.ap_term.specs.declared.terms.Term.{Term}
use Rattle.ap_term.specs.TermView.{tree_of, trees_of}
use Rattle.ap_core.specs.Outcome.{ready_place}
use Rattle.std.proofs.lemmas.List.{map-append}
use Rattle.ap_term.specs.Search as search
use Rattle.ap_spec.specs.declared.states.State.{State}
use Rattle.ap_spec.specs.States.{state_of, taken_behind}
use Rattle.ap_core.specs.declared.tasks.Alternative.{Alternative}
use Rattle.ap_core.specs.declared.tasks.Alternative.TheVariants as code
use Rattle.ap_core.specs.Tasks as tasks
use Rattle.ap_term.proofs.TermLists.{trees_of-drop_more}
use Rattle.ap_core.specs.declared.tasks.Slot.{Slot}
use Rattle.ap_core.specs.Tasks.{exhausted, alternative, state, no_slot, slot}
use Rattle.ap_core.specs.TaskView.{stacked, alternatives_of, alternative_view, choice_view, alternatives_view, slot_view, slots_view}
use Rattle.ap_core.specs.Relation.{states, ready}
use Rattle.ap_core.proofs.Levels.{view_state}

pub stacked-append : (xs ys : List tasks.Alternative) (l : tasks.Alternatives) → stacked (xs ++ ys) l ≡ stacked ys (stacked xs l)
stacked-append [] ys l = refl
stacked-append (x ∷ xs) ys l = stacked-append xs ys (alternative x l)

-- the stack's top is taken off
pub stacked-none : (all : List Alternative) → length all ≡ 0 → exhausted ≡ stacked (map alternative_view all) exhausted
stacked-none [] h = refl
stacked-none (a ∷ all) h = absurd (omega arith)

pub stacked-some : (all rest : List Alternative) (a : Alternative) → all ≡ rest ++ a ∷ [] → alternative (alternative_view a) (stacked (map alternative_view rest) exhausted) ≡ stacked (map alternative_view all) exhausted
stacked-some all rest a e = sym (ap (λ xs. stacked (map alternative_view xs) exhausted) e ∙ ap (λ xs. stacked xs exhausted) (map-append alternative_view rest (a ∷ [])) ∙ stacked-append (map alternative_view rest) (alternative_view a ∷ []) exhausted)

-- one more of some states on a stack
pub states-push : (all left : List search.State) (s : State) (l : tasks.Alternatives) → all ≡ left ++ state_of s ∷ [] → states left (alternative (state (state_of s)) l) ≡ states all l
states-push all left s l e = sym (ap (λ ss. states ss l) e ∙ last left)
  where
    last : (ss : List search.State) → states (ss ++ state_of s ∷ []) l ≡ states ss (alternative (state (state_of s)) l)
    last [] = refl
    last (t ∷ ss) = ap (alternative (state t)) (last ss)

pub stacked-push : (xs : List Alternative) (a : Alternative) (l : tasks.Alternatives) → stacked (map alternative_view (xs ++ a ∷ [])) l ≡ alternative (alternative_view a) (stacked (map alternative_view xs) l)
stacked-push xs a l = ap (λ ys. stacked ys l) (map-append alternative_view xs (a ∷ [])) ∙ stacked-append (map alternative_view xs) (alternative_view a ∷ []) l

-- slots before others
abbrev pub slots_before : tasks.Slots → tasks.Slots → tasks.Slots
slots_before no_slot w = w
slots_before (slot g k x v) w = slot g k x (slots_before v w)

pub slots_before-push : (xs : List Slot) (x : Slot) (w : tasks.Slots) → slots_before (slots_view (xs ++ x ∷ [])) w ≡ slots_before (slots_view xs) (slot (slot_view x).0 (slot_view x).1 (slot_view x).2 w)
slots_before-push [] x w = refl
slots_before-push (y ∷ xs) x w = ap (slot (slot_view y).0 (slot_view y).1 (slot_view y).2) (slots_before-push xs x w)

pub slots_before-none : (w : tasks.Slots) → slots_before w no_slot ≡ w
slots_before-none no_slot = refl
slots_before-none (slot g k x w) = ap (slot g k x) (slots_before-none w)

-- one more goal's slot
pub ready_more : (goals : List Term) (i : ℕ) (g : Term) (xs : List Slot) (x : Slot) → i < length goals → g ≡ get_or goals i g → slot_view x ≡ ready_place (tree_of g)
    → ready (trees_of goals) ≡ slots_before (slots_view xs) (ready (trees_of (drop i goals))) → ready (trees_of goals) ≡ slots_before (slots_view (xs ++ x ∷ [])) (ready (trees_of (drop (i + 1) goals)))
ready_more goals i g xs x h e v k =
    k ∙ ap (λ ts. slots_before (slots_view xs) (ready ts)) (trees_of-drop_more goals i g h e)
    ∙ ap (λ z. slots_before (slots_view xs) (slot z.0 z.1 z.2 (ready (trees_of (drop (i + 1) goals))))) (sym v) ∙ sym (slots_before-push xs x (ready (trees_of (drop (i + 1) goals))))

pub ready_done : (goals : List Term) (i : ℕ) (w : tasks.Slots) → length goals ≤ i → ready (trees_of goals) ≡ slots_before w (ready (trees_of (drop i goals))) → w ≡ ready (trees_of goals)
ready_done goals i w h k = sym (k ∙ ap (λ gs. slots_before w (ready (trees_of gs))) (drop_of_length-le goals h) ∙ slots_before-none w)

pub ruleset ready_rows = (ready_more, ready_done)

pub appended : (xs ys : List Alternative) → stacked (map alternative_view (xs ++ ys)) exhausted ≡ stacked (map alternative_view ys) (stacked (map alternative_view xs) exhausted)
appended xs ys = ap (λ zs. stacked zs exhausted) (map-append alternative_view xs ys) ∙ stacked-append (map alternative_view xs) (map alternative_view ys) exhausted

-- one more child on the stack
pub child_more : (all left : List search.State) (child : State) (stack items : List Alternative) (k : tasks.Alternatives) (whole : tasks.Alternatives) → all ≡ left ++ state_of child ∷ [] → items ≡ stack ++ code.State child ∷ []
    → states all (stacked (map alternative_view stack) k) ≡ whole → states left (stacked (map alternative_view items) k) ≡ whole
child_more all left child stack items k whole e i h =
    ap (λ xs. states left (stacked (map alternative_view xs) k)) i ∙ ap (states left) (stacked-push stack (code.State child) k) ∙ ap (λ a. states left (alternative a (stacked (map alternative_view stack) k))) (view_state child) ∙ states-push all left child (stacked (map alternative_view stack) k) e ∙ h

pub ruleset stack_rows = (stacked-append, stacked-none, stacked-some, stacked-push, states-push, map-append)
