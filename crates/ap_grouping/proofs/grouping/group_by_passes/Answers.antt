use Rattle.std.proofs.Common.{◌≡◌, length, ap, sym, subst, ◌∙◌, arith}
use Rattle.ap_term.specs.declared.fixed.TheConstants.{QUERY}
use Rattle.ap_term.specs.Tree.{atom}
use Rattle.ap_term.specs.Goals as goals
use Rattle.ap_term.specs.Goals.{Clause, Program, joined}
use Rattle.ap_tracked.specs.Forks.{alone}
use Rattle.ap_tracked.specs.Safe.{IsSafe}
use Rattle.ap_patterns.specs.declared.entries.Entries.TheVariants.{Query}
use Rattle.ap_mel.specs.Made.{IsMade}
use Rattle.ap_grouping.specs.Groups.{AreGroups}
use Rattle.ap_grouping.proofs.Parts.{are_pieces, longer}
use Rattle.ap_grouping.proofs.Called.{called-safe}
use Rattle.ap_grouping.proofs.grouping.group_by_passes.Goals as goal

pub split_off-requires : goal.split_off-requires
split_off-requires c =
    let x = c.in_ok-front.front in
    let many = longer c.args.program c.args.query.now c.new-asked.result x.items c.as_slice-count.result.now (c.new-asked.ensures ∙ c.in_ok-join.ensures) c.in_ok-front.ensures.sound.same c.as_slice-count.ensures.clauses in
    omega (arith, x.ok.0, many)

pub remove-question-requires : goal.remove-question-requires
remove-question-requires c =
    let x = c.in_ok-front.front in
    let many = longer c.args.program c.args.query.now c.new-asked.result x.items c.as_slice-count.result.now (c.new-asked.ensures ∙ c.in_ok-join.ensures) c.in_ok-front.ensures.sound.same c.as_slice-count.ensures.clauses in
    omega (arith, x.ok.0, many, c.in_ok-behind.ensures.tail_len)

pub new-requires-clause-head : goal.new-requires-clause-head
new-requires-clause-head c =
    let k = are_pieces c.args.program c.args.query.now c.new-asked.result c.in_ok-front.front.items c.as_slice-count.result.now c.in_ok-program_of.field-0 c.in_ok-behind.behind.items c.in_ok-lifted.lifted c.remove-question.result
    (c.new-asked.ensures ∙ c.in_ok-join.ensures) c.in_ok-front.ensures.sound.same c.as_slice-count.ensures.clauses (c.in_ok-program_of.ensures ∙ c.in_ok-behind.ensures.items) c.in_ok-behind.ensures.tail
    c.remove-question.ensures.value (c.in_ok-lifted.ensures ∙ c.remove-question.ensures.items) in
    ap (λ (d : Clause). d.head) k.of_question ∙ c.question-kept.ensures.kept.head

pub new-requires-clause-named : goal.new-requires-clause-named
new-requires-clause-named c =
    let k = are_pieces c.args.program c.args.query.now c.new-asked.result c.in_ok-front.front.items c.as_slice-count.result.now c.in_ok-program_of.field-0 c.in_ok-behind.behind.items c.in_ok-lifted.lifted c.remove-question.result
    (c.new-asked.ensures ∙ c.in_ok-join.ensures) c.in_ok-front.ensures.sound.same c.as_slice-count.ensures.clauses (c.in_ok-program_of.ensures ∙ c.in_ok-behind.ensures.items) c.in_ok-behind.ensures.tail
    c.remove-question.ensures.value (c.in_ok-lifted.ensures ∙ c.remove-question.ensures.items) in
    ap length c.in_ok-names.ensures ∙ c.names.ensures.named ∙ sym (ap (λ (d : Clause). d.vars) k.of_question)

pub returns : goal.returns
returns c =
    let front = c.in_ok-program_of.field-0 in
    let k = are_pieces c.args.program c.args.query.now c.new-asked.result c.in_ok-front.front.items c.as_slice-count.result.now front c.in_ok-behind.behind.items c.in_ok-lifted.lifted c.remove-question.result
    (c.new-asked.ensures ∙ c.in_ok-join.ensures) c.in_ok-front.ensures.sound.same c.as_slice-count.ensures.clauses (c.in_ok-program_of.ensures ∙ c.in_ok-behind.ensures.items) c.in_ok-behind.ensures.tail
    c.remove-question.ensures.value (c.in_ok-lifted.ensures ∙ c.remove-question.ensures.items) in
    let query : goals.Query = record { question = c.remove-question.result; lifted = c.in_ok-lifted.lifted; names = c.in_ok-names.names.items } in
    let whole : c.in_ok-front.front.items ≡ joined front query = k.whole in
    let asked : c.new-asked.result ≡ joined c.args.program c.args.query.now = c.new-asked.ensures ∙ c.in_ok-join.ensures in
    let groups : AreGroups c.args.kind c.args.program c.args.query.now front query = record {
      made = subst (IsMade c.args.kind Query (joined c.args.program c.args.query.now)) whole (subst (λ (p : Program). IsMade c.args.kind Query p c.in_ok-front.front.items) asked c.in_ok-front.ensures.made);
      program = k.of_program;
      question = k.of_question;
      lifted = k.of_lifted;
      names = c.in_ok-names.ensures ∙ c.names.ensures.names;
      safe = λ n. subst (λ (p : Program). IsSafe p (alone (atom QUERY) n)) whole (called-safe c.in_ok-front.front.items c.in_ok-front.ensures.sound.given n);
    } in
    subst (AreGroups c.args.kind c.args.program c.args.query.now front) (sym c.new.ensures) groups
