use Rattle.std.proofs.Common.{arith}
use Rattle.ap_needs.proofs.Behind.{grown-room}
use Rattle.ap_needs.proofs.room.Room.grow.Goals as goal

pub returns-clause-is : goal.returns-clause-is
returns-clause-is c = λ base begins alone h.
    let added = c.in_ok-add_wanting.ensures in
    let large = c.larger-self.ensures in
    grown-room base c.args.code.now begins alone c.args.self.now (record { cells = c.larger-self.result; wanting = c.add_wanting.new.table }) c.in_ok-behind.behind h added.len added.same added.each
    (λ at l. c.in_ok-behind.ensures at (omega (arith, c.len.ensures, c.args.self.now.wanting.ok.0))) large.left large.right
