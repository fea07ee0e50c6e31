use Rattle.ap_codecheck.proofs.Marks.{marked-opened}
use Rattle.ap_codecheck.proofs.shape.put_arguments.Goals as goal

pub returns : goal.returns
returns c =
    marked-opened c.args.arity _ _ c.resize.new.self.items c.clear.ensures.items c.clear.ensures.len c.in_ok-resize.ensures.items
