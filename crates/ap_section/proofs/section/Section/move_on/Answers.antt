use Rattle.std.proofs.Common.{◌≡◌, true, false, ◌∙◌, ◌+◌, ◌≤◌, max, ap, sym, subst, inl, inr, Ok, None, arith}
use Rattle.ap_term.specs.Blocks.{IsPrefix}
use Rattle.ap_term.proofs.Lists.{prefix-refl}
use Rattle.ap_section.specs.Views.{view_of, spent_in, budget_in}
use Rattle.ap_section.specs.Moving.{IsEndedBy}
use Rattle.ap_section.specs.Lending.{frames_in}
use Rattle.ap_section.proofs.Counted.{frames-same, count-same}
use Rattle.ap_section.proofs.Shut.{moved-on, shut-view}
use Rattle.ap_section.proofs.Ended.{answer-ends}
use Rattle.ap_section.proofs.section.Section.move_on.Goals as goal

pub returns-then-is_open-clause-end : goal.returns-then-is_open-clause-end
returns-then-is_open-clause-end g c = c.is_open.ensures.open c.if-is_open.true c.args.sound.now c.requires

pub search_on-requires : goal.search_on-requires
search_on-requires g c = c.is_open.ensures.shut c.if-is_open.false c.args.sound.now c.requires

pub returns-in_err-fork-in-Group-clause-moved : goal.returns-in_err-fork-in-Group-clause-moved
returns-in_err-fork-in-Group-clause-moved g c = moved-on c.reaching_law.ensures c.args.sound.now (view_of c.args.self.now) (view_of c.search_on.new.self) (view_of c.fork.new.self) c.search_on.ensures.moved c.fork.ensures.moved

pub returns-then-branch-clause-moved : goal.returns-then-branch-clause-moved
returns-then-branch-clause-moved g c = moved-on c.reaching_law.ensures c.args.sound.now (view_of c.args.self.now) (view_of c.search_on.new.self) (view_of c.fork.new.self) c.search_on.ensures.moved c.fork.ensures.moved

pub returns-else-branch-clause-moved : goal.returns-else-branch-clause-moved
returns-else-branch-clause-moved g c = moved-on c.reaching_law.ensures c.args.sound.now (view_of c.args.self.now) (view_of c.search_on.new.self) (view_of c.fork.new.self) c.search_on.ensures.moved c.fork.ensures.moved

pub returns-in-Answer-clause-end : goal.returns-in-Answer-clause-end
returns-in-Answer-clause-end g c =
    let u = view_of c.args.self.now in
    let v = view_of c.search_on.new.self in
    answer-ends c.args.sound.now c.args.left u v (shut-view c.args.sound.now c.search_on.new.self c.search_on.ensures.shut) (subst (IsEndedBy c.args.sound.now c.args.left u v) c.in-Answer.is c.in_ok-search_on.ensures.end)

pub returns-in-Failed-clause-moved : goal.returns-in-Failed-clause-moved
returns-in-Failed-clause-moved g c =
    moved-on c.reaching_law.ensures c.args.sound.now (view_of c.args.self.now) (view_of c.search_on.new.self) (view_of c.come_back.new.self) c.search_on.ensures.moved (c.come_back.ensures.moved c.args.sound.now c.search_on.ensures.shut)

pub returns-in-Failed-clause-ready : goal.returns-in-Failed-clause-ready
returns-in-Failed-clause-ready g c = c.come_back.ensures.ready c.args.sound.now c.search_on.ensures.shut

pub returns-in-Failed-clause-within : goal.returns-in-Failed-clause-within
returns-in-Failed-clause-within g c =
    subst (λ n. n ≤ max (budget_in (view_of c.args.self.now)) (spent_in (view_of c.args.self.now))) (sym (c.come_back.ensures.spent c.args.sound.now c.search_on.ensures.shut)) c.search_on.ensures.within

pub returns-in-Failed-clause-few : goal.returns-in-Failed-clause-few
returns-in-Failed-clause-few g c = subst (λ n. n ≤ spent_in (view_of c.args.self.now) + c.args.left) (sym (c.come_back.ensures.spent c.args.sound.now c.search_on.ensures.shut)) c.search_on.ensures.few

pub returns-in-Failed-clause-wanted : goal.returns-in-Failed-clause-wanted
returns-in-Failed-clause-wanted g c = λ e w.
    let none : c.come_back.result ≡ None = cc in
    let fewer = c.come_back.ensures.dropped none in
    let same = count-same c.args.self.now c.search_on.new.self c.search_on.ensures.frames in
    inl (omega arith)

pub returns-in-Failed-clause-unwanted : goal.returns-in-Failed-clause-unwanted
returns-in-Failed-clause-unwanted g c = λ w. subst (IsPrefix (frames_in c.come_back.new.self)) c.search_on.ensures.frames c.come_back.ensures.frames

pub returns-in-Failed-clause-frames : goal.returns-in-Failed-clause-frames
returns-in-Failed-clause-frames g c = λ e. subst (IsPrefix (frames_in c.come_back.new.self)) c.search_on.ensures.frames c.come_back.ensures.frames

pub returns-then-is_open-clause-unwanted : goal.returns-then-is_open-clause-unwanted
returns-then-is_open-clause-unwanted g c = λ w. prefix-refl (frames_in c.args.self.now)

pub returns-in-Answer-clause-unwanted : goal.returns-in-Answer-clause-unwanted
returns-in-Answer-clause-unwanted g c = λ w. frames-same c.args.self.now c.search_on.new.self c.search_on.ensures.frames

pub returns-in-Spent-clause-unwanted : goal.returns-in-Spent-clause-unwanted
returns-in-Spent-clause-unwanted g c = λ w. frames-same c.args.self.now c.search_on.new.self c.search_on.ensures.frames

pub returns-in-More-clause-unwanted : goal.returns-in-More-clause-unwanted
returns-in-More-clause-unwanted g c = λ w. frames-same c.args.self.now c.search_on.new.self c.search_on.ensures.frames

pub returns-in-Stopped-clause-unwanted : goal.returns-in-Stopped-clause-unwanted
returns-in-Stopped-clause-unwanted g c = λ w. frames-same c.args.self.now c.search_on.new.self c.search_on.ensures.frames

pub returns-then-branch-clause-unwanted : goal.returns-then-branch-clause-unwanted
returns-then-branch-clause-unwanted g c = λ w. absurd (let e : true ≡ false = sym (c.in_ok-search_on.ensures.group (ap Ok c.in-Group.is)) ∙ w in cc)

pub returns-else-branch-clause-unwanted : goal.returns-else-branch-clause-unwanted
returns-else-branch-clause-unwanted g c = λ w. frames-same c.args.self.now c.fork.new.self (c.in_ok-fork-in-Group.ensures.frames (ap Ok c.if-branch.false) ∙ c.search_on.ensures.frames)

pub returns-else-branch-clause-wanted : goal.returns-else-branch-clause-wanted
returns-else-branch-clause-wanted g c = λ e w. inr (record {
  from = c.search_on.new.self;
  moved = c.search_on.ensures.moved;
  frames = c.in_ok-fork-in-Group.ensures.frames (ap Ok c.if-branch.false) ∙ c.search_on.ensures.frames;
  gone_on = c.in_ok-fork-in-Group.ensures.gone_on (ap Ok c.if-branch.false);
})

pub returns-else-branch-clause-frames : goal.returns-else-branch-clause-frames
returns-else-branch-clause-frames g c = λ e. frames-same c.args.self.now c.fork.new.self (c.in_ok-fork-in-Group.ensures.frames (ap Ok c.if-branch.false) ∙ c.search_on.ensures.frames)
