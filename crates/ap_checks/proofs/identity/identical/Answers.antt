use Rattle.std.proofs.Common.{◌++◌, ◌∷◌, [], refl, sym, ap, subst}
use Rattle.std.proofs.lemmas.Bool.{false≢true}
use Rattle.std.proofs.lemmas.Result.{IfOk-weaker}
use Rattle.ap_term.specs.Tree.{more, none}
use Rattle.ap_cells.specs.Trees.{trees, tree_at}
use Rattle.ap_cells.specs.declared.pairs.Pairs.{Pairs}
use Rattle.ap_cells.proofs.Assumed.{more_head}
use Rattle.ap_marks.specs.Classes.{no_links}
use Rattle.ap_checks.specs.Shared.{Tells, Going}
use Rattle.ap_checks.proofs.Shared.{Going-start}
use Rattle.ap_checks.proofs.identity.identical.Goals as goal

pub returns-in-Same : goal.returns-in-Same
returns-in-Same c =
    let ts = trees c.args.cells.now.cells in
    let r : Pairs = record { left = c.args.a; right = c.args.b; count = 1 } in
    let first = r ∷ [] in
    let g = subst (λ v. Going ts first (c.clear.new.self.items ++ r ∷ []) v) (sym c.clear-2.ensures) (subst (λ rs. Going ts first (rs ++ r ∷ []) no_links) (sym c.clear.ensures.items) (Going-start ts first no_links refl)) in
    (λ e. more_head (tree_at ts c.args.a) (tree_at ts c.args.b) none none (subst (Tells ts first c.compare_part.new.pairs.items c.compare_part.new.classes) c.in-Same.is (c.in_ok-compare_part.ensures.tells first g)).0, λ e. refl)

pub returns-in-Apart : goal.returns-in-Apart
returns-in-Apart c =
    let ts = trees c.args.cells.now.cells in
    let r : Pairs = record { left = c.args.a; right = c.args.b; count = 1 } in
    let first = r ∷ [] in
    let g = subst (λ v. Going ts first (c.clear.new.self.items ++ r ∷ []) v) (sym c.clear-2.ensures) (subst (λ rs. Going ts first (rs ++ r ∷ []) no_links) (sym c.clear.ensures.items) (Going-start ts first no_links refl)) in
    (λ e. absurd (false≢true e), λ e. absurd ((subst (Tells ts first c.compare_part.new.pairs.items c.compare_part.new.classes) c.in-Apart.is (c.in_ok-compare_part.ensures.tells first g)) (ap (λ u. more u none) e, tt)))

pub returns-in-Stopped : goal.returns-in-Stopped
returns-in-Stopped c =
    let ts = trees c.args.cells.now.cells in
    let r : Pairs = record { left = c.args.a; right = c.args.b; count = 1 } in
    let first = r ∷ [] in
    let g = subst (λ v. Going ts first (c.clear.new.self.items ++ r ∷ []) v) (sym c.clear-2.ensures) (subst (λ rs. Going ts first (rs ++ r ∷ []) no_links) (sym c.clear.ensures.items) (Going-start ts first no_links refl)) in
    IfOk-weaker c.compare_on.result _ _ (λ x h.
    let k = h first (subst (Tells ts first c.compare_part.new.pairs.items c.compare_part.new.classes) c.in-Stopped.is (c.in_ok-compare_part.ensures.tells first g)) in
    (λ e. more_head (tree_at ts c.args.a) (tree_at ts c.args.b) none none (k.0 e).0, λ e. k.1 (ap (λ u. more u none) e, tt))) c.compare_on.ensures
