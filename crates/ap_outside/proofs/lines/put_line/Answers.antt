use Rattle.std.proofs.Common.{◌≡◌, [], ◌∷◌, refl}
use Rattle.ap_outside.specs.Halting.{AnyOf}
use Rattle.ap_outside.proofs.Puts.{cut_behind}
use Rattle.ap_outside.proofs.lines.put_line.Goals as goal

pub returns-in-Err-Failed-clause-lines : goal.returns-in-Err-Failed-clause-lines
returns-in-Err-Failed-clause-lines g c =
    let failed = c.in-Err-Failed.ensures.failed (cc) in
    (failed.0, failed.1, cut_behind (AnyOf {T = Unit {0}} (λ _ put. put ≡ c.args.line.now ∷ [])) [] c.args.line.now [] failed.0 (tt, refl) failed.2)
