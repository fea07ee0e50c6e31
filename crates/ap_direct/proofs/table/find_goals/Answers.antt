use Rattle.std.proofs.Common.{◌≡◌, ℕ, ◌+◌, ◌-◌, ◌++◌, None, length, take, replicate, ap, sym, ◌∙◌, subst, arith}
use Rattle.std.proofs.lemmas.List.{length-append, length-replicate}
use Rattle.ap_direct.specs.Table.{AreAsked}
use Rattle.ap_direct.proofs.Asked.{more_asked, more_before}
use Rattle.ap_direct.proofs.table.find_goals.Goals as goal

pub places-init : goal.places-init
places-init c =
    let code = c.args.code.now in
    let gs = c.args.goals.now.items in
    let from : c.len-from.result ≡ length gs = omega (arith, c.len-from.ensures, c.args.goals.now.ok.0) in
    let count : length c.instructions-place.result.now ≡ length code.instructions = ap length c.instructions-place.ensures in
    let more : ℕ = length c.instructions-place.result.now - c.len-from.result in
    let items : c.add_none.new.goals.items ≡ gs ++ replicate more None = c.in_ok-add_none.ensures in
    let long : length c.add_none.new.goals.items ≡ length gs + more =
    ap length items ∙ length-append gs (replicate more None) ∙ ap (λ n. length gs + n) (length-replicate more None) in
    record {
      above = omega (arith, c.requires.fits, from, count);
      inside = omega (arith, count);
      len = omega (arith, c.requires.fits, from, count, long);
      asked = subst (AreAsked code) (sym items) (more_asked code gs more c.requires.asked);
      before = λ n h. ap (take n) items ∙ more_before gs more n (omega (arith, from, h));
    }
