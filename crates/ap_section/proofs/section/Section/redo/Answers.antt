use Rattle.std.proofs.Common.{◌∙◌, ap, sym, reverse}
use Rattle.ap_section.specs.declared.section.Section.{out-Section}
use Rattle.ap_section.specs.Ends.{left_behind}
use Rattle.ap_section.proofs.Levels.{seen_as, view_of-roll, view_of-out}
use Rattle.ap_section.proofs.Newest.{ready-failing}
use Rattle.ap_section.proofs.section.Section.redo.Goals as goal

pub returns-clause-behind : goal.returns-clause-behind
returns-clause-behind c = view_of-roll (record (out-Section c.args.self.now) { search = c.redo.new.self })
    ∙ ap (λ p. seen_as p (reverse (out-Section c.args.self.now).frames.items)) c.redo.ensures.failed ∙ ap left_behind (sym (view_of-out c.args.self.now))

pub returns-clause-ready : goal.returns-clause-ready
returns-clause-ready c = λ code. ready-failing code c.args.self.now c.redo.new.self c.redo.ensures.failed (c.redo.ensures.is_for code)
