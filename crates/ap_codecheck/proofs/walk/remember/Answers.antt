use Rattle.std.proofs.Common.{List, Some, sym, subst}
use Rattle.ap_codecheck.specs.declared.walk.Way.{Way}
use Rattle.ap_codecheck.specs.Held.{shape_of}
use Rattle.ap_codecheck.specs.Known.{Remembers}
use Rattle.ap_codecheck.proofs.Following.{remembers-pushed}
use Rattle.ap_codecheck.proofs.walk.remember.Goals as goal

pub returns-clause-remembers : goal.returns-clause-remembers
returns-clause-remembers c =
    let P : List Way → Type 0 = λ ways. Remembers c.args.ways.now.items ways (Some c.args.place) (shape_of c.args.shape.now) in
    subst P (sym c.in_ok-push.ensures.items)
    (remembers-pushed c.args.ways.now.items (record { place = c.args.place; shape = c.in_ok-shape.shape }) (shape_of c.args.shape.now) c.in_ok-shape.ensures)
