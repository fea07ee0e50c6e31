use Rattle.std.proofs.Common.{◌≡◌, length, arith, get_or}
use Rattle.std.proofs.lemmas.Result.{on_ok_weaker}
use Rattle.ap_index.specs.declared.rows.Entry.TheVariants.{Nothing}
use Rattle.ap_index.proofs.Left.{more-links, pushed-is}
use Rattle.ap_index.proofs.rows.Rows.put_link.Goals as goal

pub returns : goal.returns
returns c =
    let old = c.args.self.now in
    let items = c.in_ok-push.ensures.items in
    let number : c.in-Ok.number ≡ length old.links.items = omega (arith, c.len.ensures, c.in-Ok.ensures, old.links.ok.0) in
    on_ok_weaker c.put.result
    (λ put code h s.
    put code (record { entries = λ q. more-links code old.rows.items old.links.items c.push.new.self.items c.args.link q (get_or old.entries.items q Nothing) items (h.entries q) })
    (c.args.link, pushed-is old.links.items c.push.new.self.items c.args.link c.in-Ok.number items number, s))
    c.put.ensures
