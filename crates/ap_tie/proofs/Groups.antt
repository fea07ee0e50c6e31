-- Groups whose checks hold are forks of the core.
use Rattle.std.proofs.Common.{◌≡◌, ℕ, true, ◌&&◌, List, [], ◌∷◌, map, refl, ap, ap₂, sym, ◌∙◌, subst}
use Rattle.std.specs.List.{All, AllByRecursion, list_all}
use Rattle.std.proofs.lemmas.List.Elements.{All-head, All-tail}
use Rattle.ap_term.specs.declared.clauses.Check.{Check}
use Rattle.ap_term.specs.Tree.{Tree, var}
use Rattle.ap_term.specs.Substitution.{instance, instance_all}
use Rattle.ap_term.specs.Independence.{Holds, AreApart}
use Rattle.ap_term.proofs.Copies.{instance_var}
use Rattle.ap_core.specs.declared.tasks.Round.TheVariants.{First}
use Rattle.ap_core.specs.Tasks.{task, alternative, frame}
use Rattle.ap_core.specs.Conditions.{check_holds, are_apart}
use Rattle.ap_core.specs.Relation.{ready, fork_goals, only_if, mapped}
use Rattle.ap_core.proofs.ForkConditions.{fork_conditions}
use Rattle.ap_tracked.specs.Tracked.{fork, untracked_goal, untracked}
use Rattle.ap_tracked.specs.Forks.{Fork, ComesFirst}
use Rattle.ap_tracked.specs.Kept.{Means}
use Rattle.ap_tracked.proofs.Safe.{safe}
use Rattle.ap_tracked.proofs.Kept.{kept}
use Rattle.ap_tie.specs.Laws.{ForkLaw}

all-hold : (cs : List Check) → All (Holds var) cs → list_all check_holds cs ≡ true
all-hold [] h = refl
all-hold (c ∷ cs) h = ap₂ (λ a b. a && b) ((fork_conditions.1 c).1 (All-head (Holds var) c cs h)) (all-hold cs (All-tail (Holds var) c cs h))

own-same : (f : ℕ → Tree) → (λ x. instance var (f x)) ≡ f
own-same f = λ i. λ x. instance_var (f x) i

pub forks : ForkLaw
forks p o s cs ts f now gs r c l is_safe is_kept first holds =
    let e : Fork = record { checks = cs; goals = ts; own = f } in
    let comes : ComesFirst e s.goals = subst (ComesFirst e) (sym first) refl in
    let apart : AreApart (instance_all f ts) = safe.group p.program s e (kept.safe p.program o s is_safe is_kept.from) comes holds in
    let means : Means (fork cs ts f now) = (subst (AllByRecursion Means) first is_kept.means).0 in
    let written : All (Holds (λ x. instance var (f x))) cs = subst (λ g. All (Holds g) cs) (sym (own-same f)) holds in
    let hold : list_all check_holds now ≡ true = all-hold now ((means var).0 written) in
    let both : (list_all check_holds now && are_apart (instance_all f ts)) ≡ true = ap₂ (λ a b. a && b) hold ((fork_conditions.0 (instance_all f ts)).1 apart) in
    ap (mapped (λ us. task r c (alternative (frame (untracked s) First (ready us)) l)))
    (ap fork_goals (ap (map untracked_goal) first) ∙ ap (λ b. only_if b (instance_all f ts)) both)
