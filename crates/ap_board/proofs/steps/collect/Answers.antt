use Rattle.std.proofs.Common.{rules, ◌≡◌, refl, sym, ap, ◌∙◌, subst, ℕ, ◌≤◌, ◌+◌, ◌*◌, arith}
use Rattle.ap_board.specs.History.{out}
use Rattle.ap_board.specs.Rule.{last_seen}
use Rattle.ap_board.specs.Causes.{noting}
use Rattle.ap_board.proofs.Keeps.{last_noting}
use Rattle.ap_board.proofs.Turns.{collects_ok, held}
use Rattle.ap_board.proofs.steps.collect.Goals as goal

pub compare_exchange-found-requires : goal.compare_exchange-found-requires
compare_exchange-found-requires g c = (search rules, search rules, collects_ok g.P.Fits.fits g.P.Fits.cause _ _ _ _ c.args.round _ _ _ c.requires.live c.requires.pad.0 c.requires.own refl refl)

pub exchange-requires : goal.exchange-requires
exchange-requires g c = let got = c.compare_exchange-found.ensures.2.1.3 c.if-found-finished.false in (search rules, (_, held _ (ap (λ m. m.1) got.4)))

pub returns-then-found-finished-clause-told : goal.returns-then-found-finished-clause-told
returns-then-found-finished-clause-told g c =
    let told = c.compare_exchange-found.ensures.2 in let v = c.args.me.now.me.0 in let p : ℕ = c.args.pad in let q : ℕ = c.args.round in let n : ℕ = c.compare_exchange-found.result in
    let is = told.1.4 c.if-found-finished.true in let last : last_seen c.compare_exchange-found.new.seat.me.0 p ≡ n = ap (λ m. last_seen m.0 p) is ∙ last_noting v p n in
    let same : q * 8 + 4 ≡ told.1.0 * 8 + 4 = told.1.1 in let same' : told.1.0 ≡ q = omega arith in let other = c.if-found-finished.true in
    (n, subst (λ (z : ℕ). last_seen v p ≤ z) last told.0, other, (λ x e. let high = told.1.2 x (e ∙ ap (λ (z : ℕ). out z x) (sym same')) in omega arith), is)
