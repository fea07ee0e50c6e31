use Rattle.std.proofs.Common.{◌∙◌, reverse}
use Rattle.ap_section.specs.declared.section.Section.TheOpen.{Section-F}
use Rattle.ap_section.specs.declared.section.Section.{Section}
use Rattle.ap_section.proofs.Levels.{view_of-roll}
use Rattle.ap_section.proofs.Parts.{ready-roll}
use Rattle.ap_section.proofs.Shut.{fresh-seen, fresh-ready}
use Rattle.ap_section.proofs.section.Section.start_pooled.Goals as goal

pub returns-clause-begins : goal.returns-clause-begins
returns-clause-begins c =
    let p = c.begin_anew.new.self in
    let x : Section-F Section = record { search = p; frames = c.clear.new.self; alloc = c.args.alloc } in
    (p, c.in_ok-begin_anew.ensures, c.in_ok-begin_anew.ensures.older, view_of-roll x ∙ fresh-seen p (reverse c.clear.new.self.items) c.args.rest c.in_ok-begin_anew.ensures.spent c.in_ok-begin_anew.ensures.budget c.in_ok-begin_anew.ensures.older)

pub returns-clause-ready : goal.returns-clause-ready
returns-clause-ready c =
    let x : Section-F Section = record { search = c.begin_anew.new.self; frames = c.clear.new.self; alloc = c.args.alloc } in
    ready-roll c.args.sound.now x (fresh-ready c.args.sound.now x c.clear.ensures.items c.in_ok-begin_anew.ensures.older c.in_ok-begin_anew.ensures.is_for)
