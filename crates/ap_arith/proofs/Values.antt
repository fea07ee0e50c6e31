-- The value that waiting operations will come to.
use Rattle.std.proofs.Common.{◌≡◌, ℕ, zero, suc, ◌+◌, ◌==◌, if◌then◌else◌, List, [], ◌∷◌, ◌++◌, ℤ, refl, ap, ◌∙◌, arith}
use Rattle.std.specs.Prelude.{Result, Err}
use Rattle.ap_term.specs.declared.faults.Fault.{Fault}
use Rattle.ap_term.specs.declared.faults.Fault.TheVariants.{WrongType}
use Rattle.ap_term.specs.Tree.{Tree, node}
use Rattle.ap_term.specs.Arithmetic.{evaluated, value_of, negated, operation_named}
use Rattle.ap_term.specs.declared.fixed.TheConstants.{MINUS}
use Rattle.ap_cells.specs.Trees.{tree_at, span}
use Rattle.ap_arith.specs.declared.evaluation.Frame.{Frame}
use Rattle.ap_arith.specs.declared.evaluation.Frame.TheVariants.{Negate, Left, Right}
use Rattle.ap_arith.specs.Valued.{framed, valued, weight_frame, weight_frames}

pub valued-push : (ts : List Tree) (fs : List Frame) (f : Frame) (x : Result ℤ Fault) → valued ts (fs ++ f ∷ []) x ≡ valued ts fs (framed ts f x)
valued-push ts [] f x = refl
valued-push ts (g ∷ fs) f x = ap (framed ts g) (valued-push ts fs f x)

framed-fault : (ts : List Tree) (f : Frame) (e : Fault) → framed ts f (Err e) ≡ Err e
framed-fault ts Negate e = refl
framed-fault ts (Left o place) e = refl
framed-fault ts (Right o x) e = refl

-- a fault of the innermost operation is the whole's
pub valued-fault : (ts : List Tree) (fs : List Frame) (e : Fault) → valued ts fs (Err e) ≡ Err e
valued-fault ts [] e = refl
valued-fault ts (f ∷ fs) e = ap (framed ts f) (valued-fault ts fs e) ∙ framed-fault ts f e

pub weight_frames-push : (ts : List Tree) (fs : List Frame) (f : Frame) → weight_frames ts (fs ++ f ∷ []) ≡ weight_frames ts fs + weight_frame ts f
weight_frames-push ts [] f = omega arith
weight_frames-push ts (g ∷ fs) f = omega (arith, weight_frames-push ts fs f)

-- an expression of one operand, of two, and of another number of them
pub evaluated-one : (ts : List Tree) (a p n : ℕ) → n ≡ 1 → evaluated (node a (span ts p n)) ≡ (if a == MINUS then negated (evaluated (tree_at ts p)) else Err WrongType)
evaluated-one ts a p n e = ap (λ m. evaluated (node a (span ts p m))) e

pub evaluated-two : (ts : List Tree) (a p n : ℕ) → n ≡ 2 → evaluated (node a (span ts p n)) ≡ value_of (operation_named a) (evaluated (tree_at ts p)) (evaluated (tree_at ts (p + 1)))
evaluated-two ts a p n e = ap (λ m. evaluated (node a (span ts p m))) e

pub evaluated-other : (ts : List Tree) (a p n : ℕ) → (n ≡ 1 → ⊥) → (n ≡ 2 → ⊥) → evaluated (node a (span ts p n)) ≡ Err WrongType
evaluated-other ts a p zero h k = refl
evaluated-other ts a p (suc zero) h k = absurd (h refl)
evaluated-other ts a p (suc (suc zero)) h k = absurd (k refl)
evaluated-other ts a p (suc (suc (suc n))) h k = refl
