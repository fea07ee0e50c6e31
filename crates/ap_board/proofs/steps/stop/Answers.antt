use Rattle.std.proofs.Common.{rules, refl, sym, ap, ◌∙◌, subst, arith, ◌≡◌, ℕ, ◌+◌, ◌*◌, ◌≤◌, inl, inr, Bool, eqb, eq-eqb, ne_eqb}
use Rattle.std.specs.Prelude.{MatchBool}
use mathlib.Core.Logic.{dite}
use native.Mathlib.Decide.{ℕ_discrete}
use Rattle.ap_board.specs.declared.view.Kind.TheVariants.{Stop}
use Rattle.ap_board.specs.Rule.{logged, last_seen}
use Rattle.ap_board.specs.Causes.{noting}
use Rattle.ap_board.proofs.Keeps.{last_noting}
use Rattle.ap_board.proofs.Turns.{stops_ok}
use Rattle.ap_board.proofs.steps.stop.Goals as goal

pub compare_exchange-found-requires : goal.compare_exchange-found-requires
compare_exchange-found-requires g c = let r = c.requires.role in let q : ℕ = c.args.round in let more : q * 8 + 2 + 1 ≡ q * 8 + 3 = omega arith in
    (search rules, search rules, stops_ok g.P.Fits.fits g.P.Fits.cause _ _ _ _ c.args.round r.0 _ _ _ c.requires.live c.requires.pad.0 r.1 refl more)

pub returns-else-found-taken-clause-told : goal.returns-else-found-taken-clause-told
returns-else-found-taken-clause-told g c =
    let told = c.compare_exchange-found.ensures.2 in let v = c.args.me.now.me.0 in let p : ℕ = c.args.pad in let q : ℕ = c.args.round in let n : ℕ = c.compare_exchange-found.result in let r : ℕ = told.1.0 in
    let w = c.compare_exchange-found.new.seat.me in let same : q * 8 + 2 ≡ r * 8 + 2 = told.1.1 in let r_is : r ≡ q = omega arith in
    let A : Bool → Type 0 = λ b. MatchBool b (w ≡ (logged v p q Stop, c.args.me.now.me.1)) (w ≡ (noting v p (q * 8 + 4), c.args.me.now.me.1)) in
    dite (ℕ_discrete n (q * 8 + 2 + 1))
    (λ e. subst A (sym (eq-eqb n (q * 8 + 2 + 1) e)) (told.1.3 (inr e) ∙ ap (λ (z : ℕ). (logged v p z Stop, c.args.me.now.me.1)) r_is))
    (λ ne. subst A (sym (ne_eqb n (q * 8 + 2 + 1) ne)) (
    let is = told.1.4 c.if-found-taken.false ne in
    let last : last_seen w.0 p ≡ n = ap (λ m. last_seen m.0 p) is ∙ last_noting v p n in
    let low : last_seen v p ≤ n = subst (λ (z : ℕ). last_seen v p ≤ z) last told.0 in
    let high : n ≤ r * 8 + 4 = told.1.2 in let had : q * 8 + 2 ≤ last_seen v p = c.requires.was_taken in let no = c.if-found-taken.false in
    let n_is : n ≡ q * 8 + 4 = omega arith in
    is ∙ ap (λ (z : ℕ). (noting v p z, c.args.me.now.me.1)) n_is))
