-- A goal that is put behind others.
use Rattle.std.proofs.Common.{◌≡◌, ℕ, List, [], ◌∷◌, ◌++◌, length, take, drop, refl, ap, ap₂, ◌∙◌, arith}
use Rattle.std.proofs.lemmas.List.{map-append, drop-append-le, take-append-le, drop_at, take_all}
use Rattle.std.proofs.lemmas.List.{length-drop}
use Rattle.ap_group.specs.declared.goals.Goal.{Goal}
use Rattle.ap_group.specs.Listed.{goal_of, goals_of, IsListed, AreListed}

goal_of-append : (ps us : List ℕ) (g : Goal) → IsListed ps g → goal_of (ps ++ us) g ≡ goal_of ps g
goal_of-append ps us g w =
    ap (λ rs. record { predicate = g.predicate; arguments = rs })
    (ap (take g.count) (drop-append-le g.first ps us (omega arith)) ∙ take-append-le g.count (drop g.first ps) us (let l = length-drop g.first ps in omega arith))

goals_of-append : (ps us : List ℕ) (gs : List Goal) → AreListed ps gs → goals_of (ps ++ us) gs ≡ goals_of ps gs
goals_of-append ps us [] w = refl
goals_of-append ps us (g ∷ gs) w = ap₂ (λ q qs. q ∷ qs) (goal_of-append ps us g w.0) (goals_of-append ps us gs w.1)

pub goals_of-push : (ps us : List ℕ) (gs : List Goal) (g : Goal) → AreListed ps gs → g.first ≡ length ps → g.count ≡ length us
    → goals_of (ps ++ us) (gs ++ g ∷ []) ≡ goals_of ps gs ++ record { predicate = g.predicate; arguments = us } ∷ []
goals_of-push ps us gs g w first count =
    map-append (goal_of (ps ++ us)) gs (g ∷ [])
    ∙ ap₂ (λ qs rs. qs ++ record { predicate = g.predicate; arguments = rs } ∷ []) (goals_of-append ps us gs w)
    (ap₂ (λ n m. take n (drop m (ps ++ us))) count first ∙ ap (take (length us)) (drop_at ps us (length ps) refl) ∙ take_all (length us) us (omega arith))
