use Rattle.std.proofs.Common.{◌++◌, ap, sym, ◌∙◌, arith}
use Rattle.ap_term.specs.TermView.{tree_of}
use Rattle.ap_term.specs.Vars.{add_vars}
use Rattle.ap_writer.specs.Work.{left, vars_left, weight}
use Rattle.ap_writer.proofs.Left.{left-push, vars_left-push, weight-push, vars_left-later}
use Rattle.ap_writer.proofs.text.write_term.Goals as goal

pub loop-work-smaller : goal.loop-work-smaller
loop-work-smaller c = omega (arith, ap weight c.in-Some.ensures.items, weight-push c.pop.new.self.items c.in-Some.work, c.in_ok-write_one.ensures.shorter)

pub loop-work-preserved : goal.loop-work-preserved
loop-work-preserved c =
    let rest = c.pop.new.self.items in
    let all = add_vars (tree_of c.args.t.now) c.args.numbers.now in
    let variables =
    c.in_ok-write_one.ensures.variables
    ∙ sym (ap (λ xs. vars_left xs c.loop-work.numbers) c.in-Some.ensures.items ∙ vars_left-push rest c.in-Some.work c.loop-work.numbers)
    ∙ c.loop-work.invariant.variables in
    record {
      text = λ found p.
          c.in_ok-write_one.ensures.text found (vars_left-later c.write_one.new.stack.items c.write_one.new.numbers all found variables p)
          ∙ ap (λ l. c.loop-work.out.items ++ l) (sym (ap (left c.args.atoms.now found) c.in-Some.ensures.items ∙ left-push c.args.atoms.now found rest c.in-Some.work))
          ∙ c.loop-work.invariant.text found p;
      variables = variables;
    }
