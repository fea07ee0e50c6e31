use Rattle.std.proofs.Common.{List, reverse}
use Rattle.ap_tracked.specs.Tracked.{Tracked}
use Rattle.ap_standing.specs.Holds.{Holds}
use Rattle.ap_machine.specs.Ends.{Ends, AreStates}
use Rattle.ap_section.specs.declared.section.Section.{out-Section, roll-Section}
use Rattle.ap_section.specs.Views.{view_of}
use Rattle.ap_section.specs.Moving.{IsEndedBy}
use Rattle.ap_section.proofs.Levels.{stack_now, view_of-roll, view_of-out}
use Rattle.ap_section.proofs.Parts.{shut-out, shut-roll}
use Rattle.ap_section.proofs.Shut.{seen_now, moved-same}
use Rattle.ap_section.proofs.Past.{past-came}
use Rattle.ap_section.proofs.Ended.{search-ends, both-ok, ended-same}
use Rattle.ap_section.proofs.Counted.{frames-searching}
use Rattle.ap_section.proofs.section.Section.search_on.Goals as goal

pub returns-clause-moved : goal.returns-clause-moved
returns-clause-moved g c =
    let code = c.args.sound.now in
    let s = out-Section c.args.self.now in
    let x = record s { search = c.advance.new.self } in
    let (past, none, leads) = c.advance.ensures.advanced in
    moved-same code (seen_now s) (seen_now x) (view_of c.args.self.now) (view_of (roll-Section x)) (view_of-out c.args.self.now) (view_of-roll x)
    (past-came c.reaching_law.ensures code s past c.advance.new.self leads c.advance.ensures.is_for c.advance.ensures.within (shut-out code c.args.self.now c.requires)).0

pub returns-clause-shut : goal.returns-clause-shut
returns-clause-shut g c =
    let code = c.args.sound.now in
    let s = out-Section c.args.self.now in
    let (past, none, leads) = c.advance.ensures.advanced in
    shut-roll code (record s { search = c.advance.new.self })
    (past-came c.reaching_law.ensures code s past c.advance.new.self leads c.advance.ensures.is_for c.advance.ensures.within (shut-out code c.args.self.now c.requires)).1

pub returns-clause-end : goal.returns-clause-end
returns-clause-end g c =
    let code = c.args.sound.now in
    let s = out-Section c.args.self.now in
    let p = c.advance.new.self in
    let x = record s { search = p } in
    let u = view_of c.args.self.now in
    let v = view_of (roll-Section x) in
    both-ok c.advance.result (λ turn. Ends code c.args.left s.search p turn) (λ turn. (ss : List Tracked) → Holds code p.machine ss → AreStates p.machine ss turn) (λ turn. IsEndedBy code c.args.left u v turn)
    (λ turn h k. ended-same code c.args.left (seen_now s) (seen_now x) u v turn (view_of-out c.args.self.now) (view_of-roll x)
    (search-ends code c.args.left s.search p (stack_now s.search.older (reverse s.frames.items)) (stack_now p.older (reverse s.frames.items)) turn h k))
    c.advance.ensures.end c.advance.ensures.states

pub returns-clause-frames : goal.returns-clause-frames
returns-clause-frames g c = frames-searching c.args.self.now c.advance.new.self
