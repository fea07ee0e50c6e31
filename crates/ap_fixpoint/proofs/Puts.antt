-- A pattern put into a table is put into its patterns.
use Rattle.std.proofs.Common.{◌≡◌, List, ap, sym, ◌∙◌}
use Rattle.std.proofs.Math.Path.{fun_ext}
use Rattle.ap_absunify.specs.declared.states.State.{State}
use Rattle.ap_patterns.specs.declared.tables.Predicate.{Predicate}
use Rattle.ap_patterns.specs.declared.tables.Row.{Row}
use Rattle.ap_patterns.specs.declared.slots.Slot.{Slot}
use Rattle.ap_patterns.specs.declared.slots.Slot.TheVariants.{Call, Success}
use Rattle.ap_patterns.specs.Table.{set_call, set_success}
use Rattle.ap_patterns.specs.Given.{patterns}
use Rattle.ap_patterns.proofs.Rows.{call-set_call, success-set_call, call-set_success, success-set_success}
use Rattle.ap_fixpoint.specs.Rounds.{put}

pub put-call : (rs new : List Row) (x : Slot) (p : Predicate) (s : State) → x ≡ Call p → new ≡ set_call rs p s → patterns new ≡ put x s (patterns rs)
put-call rs new x p s e n = ap patterns n ∙ fun_ext go ∙ ap (λ y. put y s (patterns rs)) (sym e)
  where
    go : (y : Slot) → patterns (set_call rs p s) y ≡ put (Call p) s (patterns rs) y
    go (Call q) = call-set_call rs p q s
    go (Success q) = success-set_call rs p q s

pub put-success : (rs new : List Row) (x : Slot) (p : Predicate) (s : State) → x ≡ Success p → new ≡ set_success rs p s → patterns new ≡ put x s (patterns rs)
put-success rs new x p s e n = ap patterns n ∙ fun_ext go ∙ ap (λ y. put y s (patterns rs)) (sym e)
  where
    go : (y : Slot) → patterns (set_success rs p s) y ≡ put (Success p) s (patterns rs) y
    go (Call q) = call-set_success rs p q s
    go (Success q) = success-set_success rs p q s
