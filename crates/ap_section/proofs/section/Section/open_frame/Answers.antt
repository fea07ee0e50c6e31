use Rattle.std.proofs.Common.{◌≡◌, ◌∙◌, ◌-◌, ap, sym, length, take, replicate, false}
use Rattle.std.proofs.lemmas.List.{take-replicate}
use Rattle.ap_term.specs.Tree.{Trees}
use Rattle.ap_frames.specs.Rows.{row, opened}
use Rattle.ap_machine.specs.View.{Paused}
use Rattle.ap_machine.specs.Forking.{HasForked}
use Rattle.ap_section.specs.declared.section.Section.{Section, out-Section}
use Rattle.ap_section.specs.Moving.{IsOpened}
use Rattle.ap_section.proofs.Ended.{one-ok}
use Rattle.ap_section.proofs.section.Section.open_frame.Goals as goal

pub returns : goal.returns
returns c =
    let q = (out-Section c.args.self.now).search in
    let n = c.group_goals-goals.result in
    let quiet : take n (replicate 255 false) ≡ replicate n false = take-replicate n 255 false c.if-goals-gt-MOST_GOALS.false in
    one-ok c.open.result (λ f. row f ≡ opened Section Trees c.rest.result (take n (replicate 255 false))) (λ f. (t : Paused) → (forked : HasForked c.args.sound.now q t) → IsOpened (length forked.forked.goals) (q.budget - q.spent) f)
    (λ f h t k. h ∙ ap (λ r. opened Section Trees r (take n (replicate 255 false))) c.rest.ensures
    ∙ ap (λ bs. opened Section Trees (q.budget - q.spent) bs) (quiet ∙ ap (λ m. replicate m false) (sym (c.group_goals-goals.ensures t k))))
    c.open.ensures
