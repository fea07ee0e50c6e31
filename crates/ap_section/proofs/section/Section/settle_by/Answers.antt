use Rattle.std.proofs.Common.{◌∙◌, sym, subst}
use Rattle.ap_section.specs.Views.{view_of}
use Rattle.ap_section.specs.Settles.{IsOpenIn}
use Rattle.ap_section.proofs.Outcomes.{none-open, none-spent, open-otherwise}
use Rattle.ap_section.proofs.section.Section.settle_by.Goals as goal

pub returns-in-Spent : goal.returns-in-Spent
returns-in-Spent c = none-spent c.args.self.now (sym c.requires.verdict ∙ c.in-Spent.is)

pub returns-in_default : goal.returns-in_default
returns-in_default c =
    let other = open-otherwise c.args.verdict (view_of c.args.self.now) c.in_default.not-Joined c.in_default.not-Broken c.in_default.not-Spent c.in_default.not-Wait in
    none-open c.args.self.now (subst (λ v. IsOpenIn v (view_of c.args.self.now)) c.requires.verdict other)
