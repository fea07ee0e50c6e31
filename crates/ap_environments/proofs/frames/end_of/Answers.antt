use Rattle.std.proofs.Common.{◌≡◌, List, [], ◌∷◌, ◌++◌, ◌∙◌, subst}
use Rattle.std.specs.Option.{IfSome}
use Rattle.ap_environments.specs.declared.environments.Frame.{Frame}
use Rattle.ap_environments.proofs.Chains.{is-last, end-last, end-none}
use Rattle.ap_environments.proofs.frames.end_of.Goals as goal

pub returns-in-Some : goal.returns-in-Some
returns-in-Some c = λ end h.
    let fs : List Frame = c.args.frames.now in
    let l = is-last fs c.copied.result (c.copied.ensures ∙ c.last.ensures.value) in
    let s = subst (λ o. IfSome o (λ f. (gs : List Frame) × (fs ≡ gs ++ f ∷ []))) c.in-Some.is l.1 in
    end-last fs s.0 c.in-Some.frame end s.1 h

pub returns-in-None : goal.returns-in-None
returns-in-None c = λ end h.
    let fs : List Frame = c.args.frames.now in
    let l = is-last fs c.copied.result (c.copied.ensures ∙ c.last.ensures.value) in
    end-none fs end (l.0 c.in-None.is) h
