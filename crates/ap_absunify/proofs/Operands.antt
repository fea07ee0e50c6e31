-- A goal that hasn't two arguments is no built-in that binds.
use Rattle.std.proofs.Common.{◌≡◌, ◌≢◌, ℕ, List, [], ◌∷◌, length, refl}
use Rattle.ap_term.specs.declared.terms.Term.{Term}
use Rattle.ap_term.specs.Tree.{node}
use Rattle.ap_term.specs.TermView.{trees_of}
use Rattle.ap_absunify.specs.declared.states.State.{State}
use Rattle.ap_absunify.specs.AfterBuiltin.{after_builtin}

pub not_two : (s : State) (a : ℕ) (ts : List Term) → length ts ≢ 2 → after_builtin s (node a (trees_of ts)) ≡ s
not_two s a [] h = refl
not_two s a (t ∷ []) h = refl
not_two s a (t ∷ u ∷ []) h = absurd (h refl)
not_two s a (t ∷ u ∷ v ∷ ts) h = refl
