use Rattle.std.proofs.Common.{ℕ, ◌≤◌, refl, sym, subst, arith}
use Rattle.ap_environments.specs.Frames.{Rising}
use Rattle.ap_environments.proofs.Chains.{Rising-last}
use Rattle.ap_environments.proofs.environments.kept_frames.Goals as goal

pub returns-in-Some : goal.returns-in-Some
returns-in-Some c =
    let s = c.in-Some.ensures.some in
    let last = λ (all : ℕ) (h : Rising 0 c.args.points.now all). Rising-last 0 s.0 all c.in-Some.point (subst (λ ps. Rising 0 ps all) s.1 h) in
    record { rising = λ all h. subst (λ ps. Rising 0 ps c.in-Some.point.frames) (sym s.1) (last all h).0; few = λ all h. (last all h).2 }

pub returns-in-None : goal.returns-in-None
returns-in-None c =
    let zero_at_most : 0 ≤ 0 = omega arith in
    record { rising = λ all h. subst (λ ps. Rising 0 ps 0) (sym (c.in-None.ensures.none refl)) zero_at_most; few = λ all h. omega arith }
