use Rattle.std.proofs.lemmas.Bool.{not-true, not-false}
use Rattle.ap_section.proofs.Shut.{open-due, top-shut, none-shut, top-last, none-last}
use Rattle.ap_section.proofs.section.Section.is_open.Goals as goal

pub returns-in-Some-clause-open : goal.returns-in-Some-clause-open
returns-in-Some-clause-open c = λ e code. open-due code c.args.self.now c.in-Some.frame.now (top-last c.args.self.now c.in-Some.frame.now c.deref.result.now c.deref.ensures.value c.in-Some.ensures.value) (c.is_over.ensures.open (not-true c.is_over.result e))

pub returns-in-Some-clause-shut : goal.returns-in-Some-clause-shut
returns-in-Some-clause-shut c = λ e code. top-shut code c.args.self.now c.in-Some.frame.now (top-last c.args.self.now c.in-Some.frame.now c.deref.result.now c.deref.ensures.value c.in-Some.ensures.value) (c.is_over.ensures.over (not-false c.is_over.result e))

pub returns-in-None-clause-shut : goal.returns-in-None-clause-shut
returns-in-None-clause-shut c = λ e code. none-shut code c.args.self.now (none-last c.args.self.now c.deref.result.now c.deref.ensures.value c.in-None.ensures.value)
