use Rattle.std.proofs.Common.{[], ◌≡◌, ◌+◌, ◌*◌, true, length, ◌≤◌, refl, sym, ap, subst, ◌∙◌, arith}
use Rattle.ap_term.specs.Vars.{occurs}
use Rattle.std.proofs.lemmas.Bool.{ne_eqb}
use Rattle.ap_cells.specs.Trees.{tree_at, trees, step, frees, Within}
use Rattle.ap_cells.proofs.Rounds.{trees-length}
use Rattle.ap_cells.specs.declared.pairs.Pairs.{Pairs}
use Rattle.ap_cells.specs.Walks.{weight}
use Rattle.ap_cells.proofs.Walks.{weight-some}
use Rattle.ap_unify.specs.Works.{weight_runs, goes_on, with_args}
use Rattle.ap_unify.proofs.Works.{turn_same, turn_back, solve_left, solve_right, solve_both, goes_on-outcome_of, with_args-outcome_of}
use Rattle.ap_unify.proofs.Shared.{turned_lifted, turn_node, turn_joined, outcome_turned}
use Rattle.ap_unify.specs.Shared.{Turned}
use Rattle.ap_marks.specs.Classes.{Agrees}
use Rattle.ap_unify.proofs.Weights.{less_bound, less_args, turns-lt}
use Rattle.ap_unify.proofs.unification.solve.Goals as goal

pub compared-requires : goal.compared-requires
compared-requires c = (rw (c.raw_at.ensures.cell c.raw_at.result) (c.deref-left.ensures.end c.raw_at.result), rw (c.raw_at-2.ensures.cell c.raw_at-2.result) (c.deref-right.ensures.end c.raw_at-2.result))

pub returns-then-left-right-clause-turned : goal.returns-then-left-right-clause-turned
returns-then-left-right-clause-turned c = λ rs i.
    let ts = trees c.args.cells.now.cells in
    let n = length c.args.cells.now.cells in
    let p = c.args.left in
    let q = c.args.right in
    let l = c.deref-left.result in
    let r = c.deref-right.result in
    let e : tree_at ts l ≡ tree_at ts p = c.deref-left.ensures.tree in
    let f : tree_at ts r ≡ tree_at ts q = c.deref-right.ensures.tree in
    let us = ts in
    let z : length ts ≡ n = trees-length c.args.cells.now.cells in
    turned_lifted ts us rs c.args.classes.now p q n true z c.requires.inside.0 c.requires.inside.1
    (turn_same ts rs p q (sym e ∙ ap (tree_at ts) c.if-left-right.true ∙ f))
    (turn_same ts [] p q (sym e ∙ ap (tree_at ts) c.if-left-right.true ∙ f))

pub returns-then-left-right-clause-less : goal.returns-then-left-right-clause-less
returns-then-left-right-clause-less c = λ rs i b.
    let ts = trees c.args.cells.now.cells in
    let n = length c.args.cells.now.cells in
    let p = c.args.left in
    let q = c.args.right in
    let l = c.deref-left.result in
    let r = c.deref-right.result in
    let e : tree_at ts l ≡ tree_at ts p = c.deref-left.ensures.tree in
    let f : tree_at ts r ≡ tree_at ts q = c.deref-right.ensures.tree in
    let a = weight-some (tree_at ts p) in
    turns-lt (frees c.args.cells.now.cells) (weight_runs ts rs) (weight_runs ts rs + 2 * (weight (tree_at ts p) + weight (tree_at ts q))) (omega arith)

pub returns-in-Equal-clause-turned : goal.returns-in-Equal-clause-turned
returns-in-Equal-clause-turned c = λ rs i.
    let ts = trees c.args.cells.now.cells in
    let n = length c.args.cells.now.cells in
    let p = c.args.left in
    let q = c.args.right in
    let l = c.deref-left.result in
    let r = c.deref-right.result in
    let e : tree_at ts l ≡ tree_at ts p = c.deref-left.ensures.tree in
    let f : tree_at ts r ≡ tree_at ts q = c.deref-right.ensures.tree in
    let g : tree_at ts l ≡ step ts l c.raw_at.result = c.raw_at.ensures.tree in
    let h : tree_at ts r ≡ step ts r c.raw_at-2.result = c.raw_at-2.ensures.tree in
    let z : length ts ≡ n = trees-length c.args.cells.now.cells in
    let us = ts in
    turned_lifted ts us rs c.args.classes.now p q n true z c.requires.inside.0 c.requires.inside.1
    (turn_same ts rs p q (sym e ∙ g ∙ c.in-Equal.ensures ts l r ∙ sym h ∙ f))
    (turn_same ts [] p q (sym e ∙ g ∙ c.in-Equal.ensures ts l r ∙ sym h ∙ f))

pub returns-in-Equal-clause-less : goal.returns-in-Equal-clause-less
returns-in-Equal-clause-less c = λ rs i b.
    let ts = trees c.args.cells.now.cells in
    let n = length c.args.cells.now.cells in
    let p = c.args.left in
    let q = c.args.right in
    let l = c.deref-left.result in
    let r = c.deref-right.result in
    let e : tree_at ts l ≡ tree_at ts p = c.deref-left.ensures.tree in
    let f : tree_at ts r ≡ tree_at ts q = c.deref-right.ensures.tree in
    let a = weight-some (tree_at ts p) in
    turns-lt (frees c.args.cells.now.cells) (weight_runs ts rs) (weight_runs ts rs + 2 * (weight (tree_at ts p) + weight (tree_at ts q))) (omega arith)

pub returns-then-left-right-2-clause-turned : goal.returns-then-left-right-2-clause-turned
returns-then-left-right-2-clause-turned c = λ rs i.
    let ts = trees c.args.cells.now.cells in
    let n = length c.args.cells.now.cells in
    let p = c.args.left in
    let q = c.args.right in
    let l = c.deref-left.result in
    let r = c.deref-right.result in
    let e : tree_at ts l ≡ tree_at ts p = c.deref-left.ensures.tree in
    let f : tree_at ts r ≡ tree_at ts q = c.deref-right.ensures.tree in
    let g : tree_at ts l ≡ step ts l c.raw_at.result = c.raw_at.ensures.tree in
    let h : tree_at ts r ≡ step ts r c.raw_at-2.result = c.raw_at-2.ensures.tree in
    let z : length ts ≡ n = trees-length c.args.cells.now.cells in
    let us = trees c.bind.new.self.cells in
    turned_lifted ts us rs c.args.classes.now p q n true z c.requires.inside.0 c.requires.inside.1
    (turn_back ts us rs rs q p (solve_both ts us rs q p r l n c.raw_at-2.result c.raw_at.result z i f e h g c.in-Both.ensures.1 c.in-Both.ensures.0 (λ k. c.if-left-right.false (sym k)) c.bind.ensures.trees))
    (turn_back ts us [] [] q p (solve_both ts us [] q p r l n c.raw_at-2.result c.raw_at.result z tt f e h g c.in-Both.ensures.1 c.in-Both.ensures.0 (λ k. c.if-left-right.false (sym k)) c.bind.ensures.trees))

pub returns-then-left-right-2-clause-less : goal.returns-then-left-right-2-clause-less
returns-then-left-right-2-clause-less c = λ rs i b.
    let ts = trees c.args.cells.now.cells in
    let n = length c.args.cells.now.cells in
    let p = c.args.left in
    let q = c.args.right in
    let l = c.deref-left.result in
    let r = c.deref-right.result in
    let e : tree_at ts l ≡ tree_at ts p = c.deref-left.ensures.tree in
    let f : tree_at ts r ≡ tree_at ts q = c.deref-right.ensures.tree in
    let g : tree_at ts l ≡ step ts l c.raw_at.result = c.raw_at.ensures.tree in
    let h : tree_at ts r ≡ step ts r c.raw_at-2.result = c.raw_at-2.ensures.tree in
    let z : length ts ≡ n = trees-length c.args.cells.now.cells in
    let us = trees c.bind.new.self.cells in
    let w = ap weight e in
    less_bound (frees c.bind.new.self.cells) (frees c.args.cells.now.cells) r n (weight (tree_at ts p)) (weight (tree_at ts q)) ts us rs (tree_at ts l) true z i refl
    (ap (occurs r) (g ∙ ap (step ts l) c.in-Both.ensures.0) ∙ ne_eqb r l (λ k. c.if-left-right.false (sym k)), c.bind.ensures.trees) (λ k. c.bind.ensures.fewer) (omega arith)

pub returns-else-left-right-2-clause-turned : goal.returns-else-left-right-2-clause-turned
returns-else-left-right-2-clause-turned c = λ rs i.
    let ts = trees c.args.cells.now.cells in
    let n = length c.args.cells.now.cells in
    let p = c.args.left in
    let q = c.args.right in
    let l = c.deref-left.result in
    let r = c.deref-right.result in
    let e : tree_at ts l ≡ tree_at ts p = c.deref-left.ensures.tree in
    let f : tree_at ts r ≡ tree_at ts q = c.deref-right.ensures.tree in
    let g : tree_at ts l ≡ step ts l c.raw_at.result = c.raw_at.ensures.tree in
    let h : tree_at ts r ≡ step ts r c.raw_at-2.result = c.raw_at-2.ensures.tree in
    let z : length ts ≡ n = trees-length c.args.cells.now.cells in
    let us = trees c.bind-in-Both.new.self.cells in
    turned_lifted ts us rs c.args.classes.now p q n true z c.requires.inside.0 c.requires.inside.1
    (solve_both ts us rs p q l r n c.raw_at.result c.raw_at-2.result z i e f g h c.in-Both.ensures.0 c.in-Both.ensures.1 c.if-left-right.false c.bind-in-Both.ensures.trees)
    (solve_both ts us [] p q l r n c.raw_at.result c.raw_at-2.result z tt e f g h c.in-Both.ensures.0 c.in-Both.ensures.1 c.if-left-right.false c.bind-in-Both.ensures.trees)

pub returns-else-left-right-2-clause-less : goal.returns-else-left-right-2-clause-less
returns-else-left-right-2-clause-less c = λ rs i b.
    let ts = trees c.args.cells.now.cells in
    let n = length c.args.cells.now.cells in
    let p = c.args.left in
    let q = c.args.right in
    let l = c.deref-left.result in
    let r = c.deref-right.result in
    let e : tree_at ts l ≡ tree_at ts p = c.deref-left.ensures.tree in
    let f : tree_at ts r ≡ tree_at ts q = c.deref-right.ensures.tree in
    let g : tree_at ts l ≡ step ts l c.raw_at.result = c.raw_at.ensures.tree in
    let h : tree_at ts r ≡ step ts r c.raw_at-2.result = c.raw_at-2.ensures.tree in
    let z : length ts ≡ n = trees-length c.args.cells.now.cells in
    let us = trees c.bind-in-Both.new.self.cells in
    let w = ap weight f in
    less_bound (frees c.bind-in-Both.new.self.cells) (frees c.args.cells.now.cells) l n (weight (tree_at ts p)) (weight (tree_at ts q)) ts us rs (tree_at ts r) true z i refl
    (ap (occurs l) (h ∙ ap (step ts r) c.in-Both.ensures.1) ∙ ne_eqb l r c.if-left-right.false, c.bind-in-Both.ensures.trees) (λ k. c.bind-in-Both.ensures.fewer) (omega arith)

pub returns-in_ok-bound-in-Left-clause-turned : goal.returns-in_ok-bound-in-Left-clause-turned
returns-in_ok-bound-in-Left-clause-turned c = λ rs i.
    let ts = trees c.args.cells.now.cells in
    let n = length c.args.cells.now.cells in
    let p = c.args.left in
    let q = c.args.right in
    let l = c.deref-left.result in
    let r = c.deref-right.result in
    let e : tree_at ts l ≡ tree_at ts p = c.deref-left.ensures.tree in
    let f : tree_at ts r ≡ tree_at ts q = c.deref-right.ensures.tree in
    let g : tree_at ts l ≡ step ts l c.raw_at.result = c.raw_at.ensures.tree in
    let h : tree_at ts r ≡ step ts r c.raw_at-2.result = c.raw_at-2.ensures.tree in
    let z : length ts ≡ n = trees-length c.args.cells.now.cells in
    let us = trees c.bind-in-Left.new.cells.cells in
    outcome_turned ts us rs c.args.classes.now p q c.in_ok-bound-in-Left.bound c.outcome_of.result c.outcome_of.ensures
    (turned_lifted ts us rs c.args.classes.now p q n c.in_ok-bound-in-Left.bound z c.requires.inside.0 c.requires.inside.1
    (solve_left ts us rs p q l r n c.raw_at.result c.raw_at-2.result c.in_ok-bound-in-Left.bound z i e f g h c.in-Left.ensures.0 c.in-Left.ensures.1 c.in_ok-bound-in-Left.ensures.bound)
    (solve_left ts us [] p q l r n c.raw_at.result c.raw_at-2.result c.in_ok-bound-in-Left.bound z tt e f g h c.in-Left.ensures.0 c.in-Left.ensures.1 c.in_ok-bound-in-Left.ensures.bound))

pub returns-in_ok-bound-in-Left-clause-less : goal.returns-in_ok-bound-in-Left-clause-less
returns-in_ok-bound-in-Left-clause-less c = λ rs i b.
    let ts = trees c.args.cells.now.cells in
    let n = length c.args.cells.now.cells in
    let p = c.args.left in
    let q = c.args.right in
    let l = c.deref-left.result in
    let r = c.deref-right.result in
    let e : tree_at ts l ≡ tree_at ts p = c.deref-left.ensures.tree in
    let f : tree_at ts r ≡ tree_at ts q = c.deref-right.ensures.tree in
    let g : tree_at ts l ≡ step ts l c.raw_at.result = c.raw_at.ensures.tree in
    let h : tree_at ts r ≡ step ts r c.raw_at-2.result = c.raw_at-2.ensures.tree in
    let z : length ts ≡ n = trees-length c.args.cells.now.cells in
    let us = trees c.bind-in-Left.new.cells.cells in
    let w = ap weight f in
    let k : goes_on c.outcome_of.result ≡ c.in_ok-bound-in-Left.bound = ap goes_on c.outcome_of.ensures ∙ goes_on-outcome_of c.in_ok-bound-in-Left.bound in
    let j : with_args c.outcome_of.result rs ≡ rs = ap (λ o. with_args o rs) c.outcome_of.ensures ∙ with_args-outcome_of c.in_ok-bound-in-Left.bound rs in
    rw j
    (less_bound (frees c.bind-in-Left.new.cells.cells) (frees c.args.cells.now.cells) l n (weight (tree_at ts p)) (weight (tree_at ts q)) ts us rs (tree_at ts r) c.in_ok-bound-in-Left.bound z i (sym k ∙ b)
    c.in_ok-bound-in-Left.ensures.bound c.in_ok-bound-in-Left.ensures.fewer (omega arith))

pub returns-in_ok-bound-in-Right-clause-turned : goal.returns-in_ok-bound-in-Right-clause-turned
returns-in_ok-bound-in-Right-clause-turned c = λ rs i.
    let ts = trees c.args.cells.now.cells in
    let n = length c.args.cells.now.cells in
    let p = c.args.left in
    let q = c.args.right in
    let l = c.deref-left.result in
    let r = c.deref-right.result in
    let e : tree_at ts l ≡ tree_at ts p = c.deref-left.ensures.tree in
    let f : tree_at ts r ≡ tree_at ts q = c.deref-right.ensures.tree in
    let g : tree_at ts l ≡ step ts l c.raw_at.result = c.raw_at.ensures.tree in
    let h : tree_at ts r ≡ step ts r c.raw_at-2.result = c.raw_at-2.ensures.tree in
    let z : length ts ≡ n = trees-length c.args.cells.now.cells in
    let us = trees c.bind-in-Right.new.cells.cells in
    outcome_turned ts us rs c.args.classes.now p q c.in_ok-bound-in-Right.bound c.outcome_of-in-Right.result c.outcome_of-in-Right.ensures
    (turned_lifted ts us rs c.args.classes.now p q n c.in_ok-bound-in-Right.bound z c.requires.inside.0 c.requires.inside.1
    (solve_right ts us rs p q l r n c.raw_at.result c.raw_at-2.result c.in_ok-bound-in-Right.bound z i e f g h c.in-Right.ensures.0 c.in-Right.ensures.1 c.in_ok-bound-in-Right.ensures.bound)
    (solve_right ts us [] p q l r n c.raw_at.result c.raw_at-2.result c.in_ok-bound-in-Right.bound z tt e f g h c.in-Right.ensures.0 c.in-Right.ensures.1 c.in_ok-bound-in-Right.ensures.bound))

pub returns-in_ok-bound-in-Right-clause-less : goal.returns-in_ok-bound-in-Right-clause-less
returns-in_ok-bound-in-Right-clause-less c = λ rs i b.
    let ts = trees c.args.cells.now.cells in
    let n = length c.args.cells.now.cells in
    let p = c.args.left in
    let q = c.args.right in
    let l = c.deref-left.result in
    let r = c.deref-right.result in
    let e : tree_at ts l ≡ tree_at ts p = c.deref-left.ensures.tree in
    let f : tree_at ts r ≡ tree_at ts q = c.deref-right.ensures.tree in
    let g : tree_at ts l ≡ step ts l c.raw_at.result = c.raw_at.ensures.tree in
    let h : tree_at ts r ≡ step ts r c.raw_at-2.result = c.raw_at-2.ensures.tree in
    let z : length ts ≡ n = trees-length c.args.cells.now.cells in
    let us = trees c.bind-in-Right.new.cells.cells in
    let w = ap weight e in
    let k : goes_on c.outcome_of-in-Right.result ≡ c.in_ok-bound-in-Right.bound = ap goes_on c.outcome_of-in-Right.ensures ∙ goes_on-outcome_of c.in_ok-bound-in-Right.bound in
    let j : with_args c.outcome_of-in-Right.result rs ≡ rs = ap (λ o. with_args o rs) c.outcome_of-in-Right.ensures ∙ with_args-outcome_of c.in_ok-bound-in-Right.bound rs in
    rw j
    (less_bound (frees c.bind-in-Right.new.cells.cells) (frees c.args.cells.now.cells) r n (weight (tree_at ts p)) (weight (tree_at ts q)) ts us rs (tree_at ts l) c.in_ok-bound-in-Right.bound z i (sym k ∙ b)
    c.in_ok-bound-in-Right.ensures.bound c.in_ok-bound-in-Right.ensures.fewer (omega arith))

pub returns-else-branch-clause-turned : goal.returns-else-branch-clause-turned
returns-else-branch-clause-turned c = λ rs i.
    let ts = trees c.args.cells.now.cells in
    let n = length c.args.cells.now.cells in
    let p = c.args.left in
    let q = c.args.right in
    let l = c.deref-left.result in
    let r = c.deref-right.result in
    let e : tree_at ts l ≡ tree_at ts p = c.deref-left.ensures.tree in
    let f : tree_at ts r ≡ tree_at ts q = c.deref-right.ensures.tree in
    let g : tree_at ts l ≡ step ts l c.raw_at.result = c.raw_at.ensures.tree in
    let h : tree_at ts r ≡ step ts r c.raw_at-2.result = c.raw_at-2.ensures.tree in
    let z : length ts ≡ n = trees-length c.args.cells.now.cells in
    let a = c.in-Args.ensures.0 in
    let x = c.in-Args.p in
    let y = c.in-Args.q in
    let m = c.in-Args.n in
    let wx : x + m ≤ n = subst (Within n l) c.in-Args.ensures.1 c.raw_at.ensures.within in
    let wy : y + m ≤ n = subst (Within n r) c.in-Args.ensures.2 c.raw_at-2.ensures.within in
    turn_node ts rs c.args.classes.now c.is_joined.new.classes p q a x y m (omega (arith, c.requires.inside.0)) (omega (arith, c.requires.inside.1)) (omega (arith, wx)) (omega (arith, wy)) (sym e ∙ g ∙ ap (step ts l) c.in-Args.ensures.1) (sym f ∙ h ∙ ap (step ts r) c.in-Args.ensures.2)
    c.in_ok-is_joined-in-Args.ensures.older c.in_ok-is_joined-in-Args.ensures.no_more

pub returns-else-branch-clause-less : goal.returns-else-branch-clause-less
returns-else-branch-clause-less c = λ rs i b.
    let ts = trees c.args.cells.now.cells in
    let n = length c.args.cells.now.cells in
    let p = c.args.left in
    let q = c.args.right in
    let l = c.deref-left.result in
    let r = c.deref-right.result in
    let e : tree_at ts l ≡ tree_at ts p = c.deref-left.ensures.tree in
    let f : tree_at ts r ≡ tree_at ts q = c.deref-right.ensures.tree in
    let g : tree_at ts l ≡ step ts l c.raw_at.result = c.raw_at.ensures.tree in
    let h : tree_at ts r ≡ step ts r c.raw_at-2.result = c.raw_at-2.ensures.tree in
    let z : length ts ≡ n = trees-length c.args.cells.now.cells in
    let x = frees c.args.cells.now.cells in
    let k : Pairs = record { left = c.in-Args.p; right = c.in-Args.q; count = c.in-Args.n } in
    less_args x x ts ts rs k (weight (tree_at ts p)) (weight (tree_at ts q)) refl refl (sym (ap weight (sym e ∙ g ∙ ap (step ts l) c.in-Args.ensures.1))) (sym (ap weight (sym f ∙ h ∙ ap (step ts r) c.in-Args.ensures.2)))

pub returns-then-branch-clause-turned : goal.returns-then-branch-clause-turned
returns-then-branch-clause-turned c = λ rs i.
    let ts = trees c.args.cells.now.cells in
    let j = c.in_ok-is_joined-in-Args.ensures in
    let e = j.same c.if-branch.true in
    subst (λ u. Turned ts ts rs rs c.args.classes.now u c.args.left c.args.right true) (sym e) (turn_joined ts rs c.args.classes.now c.args.left c.args.right (λ f a. j.joined c.if-branch.true f (subst (Agrees f) (sym e) a)))

pub returns-then-branch-clause-less : goal.returns-then-branch-clause-less
returns-then-branch-clause-less c = λ rs i b.
    let ts = trees c.args.cells.now.cells in
    let p = c.args.left in
    let q = c.args.right in
    let a = weight-some (tree_at ts p) in
    turns-lt (frees c.args.cells.now.cells) (weight_runs ts rs) (weight_runs ts rs + 2 * (weight (tree_at ts p) + weight (tree_at ts q))) (omega arith)
