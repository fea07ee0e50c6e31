use Rattle.std.proofs.Common.{◌≡◌, Some, refl, sym, ◌∙◌, subst}
use Rattle.std.proofs.lemmas.Bool.{false≢true}
use Rattle.ap_open.specs.Away.{Carries}
use Rattle.ap_section.specs.Slots.{redone_in}
use Rattle.ap_post.specs.Posts.{posted_in}
use Rattle.ap_stack.specs.declared.stack.Stack.{Stack}
use Rattle.ap_stack.specs.Levels.{AreOut}
use Rattle.ap_stack.specs.Stacks.{code_in, levels_in, section_in, away_in}
use Rattle.ap_stack.proofs.Waiting.{has-answered, restarted-is}
use Rattle.ap_stack.proofs.Counts.{no-more-readied, stays-pays}
use Rattle.ap_stack.proofs.Moves.{goes-same, moved, out-readied}
use Rattle.ap_stack.proofs.stack.Stack.restart_behind.Goals as goal

pub returns : goal.returns
returns c =
    let p = c.args.post.now in
    let s = c.args.self.now in
    let t : Stack = record s { newest = c.restart_after.new.self } in
    let code = code_in s in
    let i = c.args.i in
    let good = c.requires.good in
    let again : redone_in (section_in s) ≡ Some i = cc in
    let after = c.restart_after.ensures in
    record {
      goes = moved p s t refl refl refl refl good (after.ready code good.ready) (λ h. after.at_frame) (λ h. absurd (false≢true (sym h ∙ c.requires.tends)))
          (subst (λ v. AreOut code v (posted_in p s.frame)) (sym after.stands) (out-readied code i (section_in s) (posted_in p s.frame) good.out))
          (subst (λ v. Carries code (levels_in p s) (section_in s) (away_in p s) (levels_in p s) v (away_in p s)) (sym (after.stands ∙ restarted-is i (section_in s)))
          (c.sharing_law.ensures.restarts code (levels_in p s) (section_in s) (away_in p s) i (has-answered i (section_in s) c.requires.place c.requires.answered again)))
          (stays-pays p s t refl refl (no-more-readied i (section_in s) (section_in t) after.stands));
    }

pub returns-in_default : goal.returns-in_default
returns-in_default c = record { goes = goes-same c.sharing_law.ensures c.args.post.now c.args.self.now c.requires.good }

pub returns-then-redone-i : goal.returns-then-redone-i
returns-then-redone-i c = record { goes = goes-same c.sharing_law.ensures c.args.post.now c.args.self.now c.requires.good }
