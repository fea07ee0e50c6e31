use Rattle.std.proofs.Common.{sym, subst}
use Rattle.ap_group.specs.Meets.{MeetAll}
use Rattle.ap_match.specs.Fits.{Answered}
use Rattle.ap_machine.specs.View.{IsFor}
use Rattle.ap_machine.proofs.Parting.{no-moment}
use Rattle.ap_machine.proofs.Rejoining.{are-inside, Sane-met, at-fork-again, for-again, not-rejoined, Sane-behind, rejoined, for-rejoined}
use Rattle.ap_machine.proofs.Solving.{kept-on-err}
use Rattle.ap_machine.proofs.state.Search.rejoin.Goals as goal

pub list_goals-requires-clause-newest : goal.list_goals-requires-clause-newest
list_goals-requires-clause-newest c =
    let i = c.self.inside in
    no-moment i.cells i.environments i.x.items i.y.items i.roots.items i.next i.spent i.budget c.come_to_fork.new.self c.self.view_is c.come_to_fork.ensures.newest

pub returns-in_err-list_goals-clause-is_for : goal.returns-in_err-list_goals-clause-is_for
returns-in_err-list_goals-clause-is_for c = λ code h. subst (IsFor code) (sym c.self.view_is) (c.come_to_fork.ensures.is_for code h)

pub meet_or_undo-requires : goal.meet_or_undo-requires
meet_or_undo-requires c =
    let i = c.self.inside in
    are-inside c.args.self.now c.come_to_fork.new.self c.come_to_fork.ensures.some c.come_to_fork.ensures.newest c.requires.fork i.cells i.environments i.x.items i.y.items i.roots.items i.next i.spent i.budget c.self.view_is c.self.invariant c.list_goals.new.goals c.in_ok-list_goals.ensures

pub invariant_of-self-in_err-meet_or_undo : goal.invariant_of-self-in_err-meet_or_undo
invariant_of-self-in_err-meet_or_undo c =
    let i = c.self.inside in
    Sane-met c.args.self.now c.come_to_fork.new.self c.come_to_fork.ensures.some c.come_to_fork.ensures.newest c.requires.fork i.cells i.environments i.x.items i.y.items i.roots.items i.next i.spent i.budget c.self.view_is c.self.invariant c.meet_or_undo.new.cells c.meet_or_undo.ensures.keeps c.meet_or_undo.ensures.longer

pub returns-in_err-meet_or_undo-clause-err : goal.returns-in_err-meet_or_undo-clause-err
returns-in_err-meet_or_undo-clause-err c =
    let i = c.self.inside in
    kept-on-err c.from_residual-in_err-meet_or_undo.result _
    (at-fork-again c.args.self.now c.come_to_fork.new.self c.come_to_fork.ensures.some c.come_to_fork.ensures.newest c.requires.fork i.cells i.environments i.x.items i.y.items i.roots.items i.next i.spent i.budget c.self.view_is c.self.invariant c.meet_or_undo.new.cells c.meet_or_undo.ensures.keeps c.meet_or_undo.ensures.longer
    c.in_err-meet_or_undo.ensures.undone)

pub returns-in_err-meet_or_undo-clause-is_for : goal.returns-in_err-meet_or_undo-clause-is_for
returns-in_err-meet_or_undo-clause-is_for c = λ code h.
    let i = c.self.inside in
    for-again c.args.self.now c.come_to_fork.new.self c.come_to_fork.ensures.some c.come_to_fork.ensures.newest c.requires.fork i.cells i.environments i.x.items i.y.items i.roots.items i.next i.spent i.budget c.self.view_is c.self.invariant c.meet_or_undo.new.cells c.meet_or_undo.ensures.keeps c.meet_or_undo.ensures.longer
    c.in_err-meet_or_undo.ensures.undone code (c.come_to_fork.ensures.is_for code h)

pub invariant_of-self-then-not-branch : goal.invariant_of-self-then-not-branch
invariant_of-self-then-not-branch c =
    let i = c.self.inside in
    Sane-met c.args.self.now c.come_to_fork.new.self c.come_to_fork.ensures.some c.come_to_fork.ensures.newest c.requires.fork i.cells i.environments i.x.items i.y.items i.roots.items i.next i.spent i.budget c.self.view_is c.self.invariant c.meet_or_undo.new.cells c.meet_or_undo.ensures.keeps c.meet_or_undo.ensures.longer

pub returns-then-not-branch-clause-met : goal.returns-then-not-branch-clause-met
returns-then-not-branch-clause-met c =
    let i = c.self.inside in
    let a = subst (Answered i.cells.cells c.meet_or_undo.new.cells.cells (MeetAll c.list_goals.new.goals c.args.answers.now)) c.if-not-branch.true c.in_ok-meet_or_undo.ensures.answered in
    not-rejoined c.args.self.now c.come_to_fork.new.self c.come_to_fork.ensures.some c.come_to_fork.ensures.newest c.requires.fork i.cells i.environments i.x.items i.y.items i.roots.items i.next i.spent i.budget c.self.view_is c.self.invariant c.meet_or_undo.new.cells c.meet_or_undo.ensures.keeps c.meet_or_undo.ensures.longer
    (c.in_ok-meet_or_undo.ensures.apart c.if-not-branch.true) c.list_goals.new.goals c.in_ok-list_goals.ensures c.args.answers.now a

pub returns-then-not-branch-clause-is_for : goal.returns-then-not-branch-clause-is_for
returns-then-not-branch-clause-is_for c = λ code h.
    let i = c.self.inside in
    for-again c.args.self.now c.come_to_fork.new.self c.come_to_fork.ensures.some c.come_to_fork.ensures.newest c.requires.fork i.cells i.environments i.x.items i.y.items i.roots.items i.next i.spent i.budget c.self.view_is c.self.invariant c.meet_or_undo.new.cells c.meet_or_undo.ensures.keeps c.meet_or_undo.ensures.longer
    (c.in_ok-meet_or_undo.ensures.apart c.if-not-branch.true) code (c.come_to_fork.ensures.is_for code h)

pub go_behind_goals-requires : goal.go_behind_goals-requires
go_behind_goals-requires c =
    let i = c.self.inside in
    record { newest = no-moment i.cells i.environments i.x.items i.y.items i.roots.items i.next i.spent i.budget c.come_to_fork.new.self c.self.view_is c.come_to_fork.ensures.newest }

pub invariant_of-self-2 : goal.invariant_of-self-2
invariant_of-self-2 c =
    let i = c.self.inside in
    Sane-behind c.args.self.now c.come_to_fork.new.self c.come_to_fork.ensures.some c.come_to_fork.ensures.newest c.requires.fork i.cells i.environments i.x.items i.y.items i.roots.items i.next i.spent i.budget c.self.view_is c.self.invariant c.meet_or_undo.new.cells c.meet_or_undo.ensures.keeps c.meet_or_undo.ensures.longer
    c.go_behind_goals.new.self c.go_behind_goals.ensures.behind

pub returns-clause-met : goal.returns-clause-met
returns-clause-met c =
    let i = c.self.inside in
    let a = subst (Answered i.cells.cells c.meet_or_undo.new.cells.cells (MeetAll c.list_goals.new.goals c.args.answers.now)) c.if-not-branch.false c.in_ok-meet_or_undo.ensures.answered in
    rejoined c.args.self.now c.come_to_fork.new.self c.come_to_fork.ensures.some c.come_to_fork.ensures.newest c.requires.fork i.cells i.environments i.x.items i.y.items i.roots.items i.next i.spent i.budget c.self.view_is c.self.invariant c.meet_or_undo.new.cells c.meet_or_undo.ensures.keeps c.meet_or_undo.ensures.longer
    c.go_behind_goals.new.self c.go_behind_goals.ensures.behind c.list_goals.new.goals c.in_ok-list_goals.ensures c.args.answers.now a

pub returns-clause-is_for : goal.returns-clause-is_for
returns-clause-is_for c = λ code h.
    let i = c.self.inside in
    for-rejoined c.args.self.now c.come_to_fork.new.self c.come_to_fork.ensures.some c.come_to_fork.ensures.newest c.requires.fork i.cells i.environments i.x.items i.y.items i.roots.items i.next i.spent i.budget c.self.view_is c.self.invariant c.meet_or_undo.new.cells c.meet_or_undo.ensures.keeps c.meet_or_undo.ensures.longer
    c.go_behind_goals.new.self c.go_behind_goals.ensures.behind code (c.come_to_fork.ensures.is_for code h)
