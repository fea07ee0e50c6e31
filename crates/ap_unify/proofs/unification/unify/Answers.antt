use Rattle.std.proofs.Common.{◌++◌, ◌∷◌, [], sym, subst, arith}
use Rattle.std.proofs.lemmas.Result.{IfOk-weaker}
use Rattle.ap_cells.specs.Trees.{trees}
use Rattle.ap_cells.specs.declared.pairs.Pairs.{Pairs}
use Rattle.ap_cells.proofs.Stores.{Keeps-trans}
use Rattle.ap_cells.proofs.Rounds.{trees-length}
use Rattle.ap_marks.specs.Classes.{no_links}
use Rattle.ap_unify.specs.Shared.{Tells, Going}
use Rattle.ap_unify.proofs.Shared.{going_start}
use Rattle.ap_unify.proofs.unification.unify.Goals as goal

pub returns-in-Done-clause-answer : goal.returns-in-Done-clause-answer
returns-in-Done-clause-answer c =
    let ts = trees c.args.cells.now.cells in
    let a = c.args.a in
    let b = c.args.b in
    let z = trees-length c.args.cells.now.cells in
    let r : Pairs = record { left = a; right = b; count = 1 } in
    let g = subst (λ v. Going ts ts (c.clear.new.self.items ++ r ∷ []) v a b) (sym c.clear-2.ensures) (subst (λ rs. Going ts ts (rs ++ r ∷ []) no_links a b) (sym c.clear.ensures.items) (going_start ts a b)) in
    (subst (Tells ts (trees c.solve_part.new.cells.cells) c.solve_part.new.runs.items c.solve_part.new.classes a b) c.in-Done.is (c.in_ok-solve_part.ensures.tells ts a b (omega arith) (omega arith) g))

pub returns-in-Failed-clause-answer : goal.returns-in-Failed-clause-answer
returns-in-Failed-clause-answer c =
    let ts = trees c.args.cells.now.cells in
    let a = c.args.a in
    let b = c.args.b in
    let z = trees-length c.args.cells.now.cells in
    let r : Pairs = record { left = a; right = b; count = 1 } in
    let g = subst (λ v. Going ts ts (c.clear.new.self.items ++ r ∷ []) v a b) (sym c.clear-2.ensures) (subst (λ rs. Going ts ts (rs ++ r ∷ []) no_links a b) (sym c.clear.ensures.items) (going_start ts a b)) in
    (subst (Tells ts (trees c.solve_part.new.cells.cells) c.solve_part.new.runs.items c.solve_part.new.classes a b) c.in-Failed.is (c.in_ok-solve_part.ensures.tells ts a b (omega arith) (omega arith) g))

pub returns-in-Stopped-clause-answer : goal.returns-in-Stopped-clause-answer
returns-in-Stopped-clause-answer c =
    let ts = trees c.args.cells.now.cells in
    let a = c.args.a in
    let b = c.args.b in
    let z = trees-length c.args.cells.now.cells in
    let r : Pairs = record { left = a; right = b; count = 1 } in
    let g = subst (λ v. Going ts ts (c.clear.new.self.items ++ r ∷ []) v a b) (sym c.clear-2.ensures) (subst (λ rs. Going ts ts (rs ++ r ∷ []) no_links a b) (sym c.clear.ensures.items) (going_start ts a b)) in
    IfOk-weaker c.solve_on.result _ _ (λ x h. h ts a b (omega arith) (omega arith) (subst (Tells ts (trees c.solve_part.new.cells.cells) c.solve_part.new.runs.items c.solve_part.new.classes a b) c.in-Stopped.is (c.in_ok-solve_part.ensures.tells ts a b (omega arith) (omega arith) g))) c.solve_on.ensures.answer

pub returns-in-Stopped-clause-keeps : goal.returns-in-Stopped-clause-keeps
returns-in-Stopped-clause-keeps c = Keeps-trans c.args.cells.now c.solve_part.new.cells c.solve_on.new.cells c.in_ok-solve_part.ensures.keeps c.solve_on.ensures.keeps
