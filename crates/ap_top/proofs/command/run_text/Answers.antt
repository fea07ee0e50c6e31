use Rattle.std.proofs.Common.{◌≡◌, [], ◌∷◌, length, Err, refl, sym, subst, ◌∙◌, arith, rules}
use Rattle.ap_outside.specs.Faults.{Rises}
use Rattle.ap_outside.proofs.Puts.{puts_map}
use Rattle.ap_outside.proofs.Halts.{finishes_map, passes_halt}
use Rattle.ap_term.specs.AtomTable.{fixed_names}
use Rattle.ap_clause.specs.Reads.{AcceptsProgram, RefusesProgram}
use Rattle.ap_clause.specs.declared.refusal.Refusal.TheVariants as refusal
use Rattle.ap_words.specs.Asked.{run_of}
use Rattle.ap_top.specs.Counted.{SourceCounted, TextCounted}
use Rattle.ap_top.specs.Refusals.{refusal_line}
use Rattle.ap_top.specs.Unasked.{LeavesQuery}
use Rattle.ap_top.specs.Ends.{SourceEnds, TextEnds, FailsBehind}
use Rattle.ap_top.specs.declared.status.Status.TheVariants as status
use Rattle.ap_top.proofs.Counting.{counts_map}
use Rattle.ap_top.proofs.Layers.{source_found, text_refused}
use Rattle.ap_top.proofs.Pieces.{refused}
use Rattle.ap_top.proofs.Statuses.{program_found}
use Rattle.ap_top.proofs.Uncalled.{program-leaves}
use Rattle.ap_top.proofs.command.run_text.Goals as goal

pub run_source-requires-clause-query : goal.run_source-requires-clause-query
run_source-requires-clause-query g c κs within =
    let text = c.args.text.items in
    let program = c.in-Ok-program_of.program in
    let table = c.program_of.new.atoms in
    let count : length fixed_names ≡ 84 = refl in
    let same : c.deref.result.now ≡ c.in-Ok-program_of.program = search rules in
    subst (λ p. LeavesQuery p table) (sym same) (program-leaves text fixed_names program table (omega arith) (subst (λ t. AcceptsProgram text t program table) c.in-Ok.ensures c.in-Ok-program_of.ensures.accepts))

pub returns-in-Ok-program_of-clause-lines : goal.returns-in-Ok-program_of-clause-lines
returns-in-Ok-program_of-clause-lines g c =
    let what = run_of c.args.command.now in
    let text = c.args.text.items in
    let left = g.S.Source.left c.args.queries.now in
    let Rose = FailsBehind (g.S.Source.left c.args.queries.now) (g.S.Source.left c.run_source.new.queries) (Rises (g.S.Source.faults c.args.queries.now) (g.S.Source.faults c.run_source.new.queries)) in
    let program = c.deref.result.now in
    let table = c.program_of.new.atoms in
    let same : c.deref.result.now ≡ c.in-Ok-program_of.program = search rules in
    let accepts : AcceptsProgram text fixed_names program table = subst (λ p. AcceptsProgram text fixed_names p table) (sym same) (subst (λ t. AcceptsProgram text t c.in-Ok-program_of.program table) c.in-Ok.ensures c.in-Ok-program_of.ensures.accepts) in
    finishes_map _ _ (SourceEnds what program table left Rose) (TextEnds what text left Rose) _ (λ s ls ends. TextEnds.accepted program table s ls accepts ends) c.run_source.ensures.lines

pub returns-in_err-print_refusal-in-Err : goal.returns-in_err-print_refusal-in-Err
returns-in_err-print_refusal-in-Err g c =
    let same : c.from_residual.result ≡ Err c.in_err-print_refusal-in-Err.field-0.0 = search rules in
    let what = run_of c.args.command.now in
    let text = c.args.text.items in
    let left = g.S.Source.left c.args.queries.now in
    let Rose = FailsBehind (g.S.Source.left c.args.queries.now) (g.S.Source.left c.args.queries.now) (Rises (g.S.Source.faults c.args.queries.now) (g.S.Source.faults c.args.queries.now)) in
    let r = c.in-Err.refusal in
    let other : r ≡ refusal.NoMemory → ⊥ = search rules in
    let refuses : RefusesProgram text fixed_names r = subst (λ t. RefusesProgram text t r) c.in-Ok.ensures (refused (RefusesProgram text c.in-Ok.atoms) r other c.in-Err.ensures.refuses) in
    let fixed = c.in-Err.ensures.table ∙ c.in-Ok.ensures in
    record {
      lines = passes_halt _ _ (λ _ put. put ≡ refusal_line c.program_of.new.atoms r ∷ []) (TextEnds what text left Rose) (λ ls any. (status.ProgramRefused, text_refused what text left Rose c.program_of.new.atoms r fixed refuses ls any.1))
          c.print_refusal.result _ c.in_err-print_refusal-in-Err.field-0.0 c.in_err-print_refusal-in-Err.was same c.print_refusal.ensures.lines;
      counted = search rules;
      sink = search rules;
      source = search rules;
      end = search rules;
      unread = search rules;
    }

pub returns : goal.returns
returns g c =
    let what = run_of c.args.command.now in
    let text = c.args.text.items in
    let left = g.S.Source.left c.args.queries.now in
    let Rose = FailsBehind (g.S.Source.left c.args.queries.now) (g.S.Source.left c.args.queries.now) (Rises (g.S.Source.faults c.args.queries.now) (g.S.Source.faults c.args.queries.now)) in
    let r = c.in-Err.refusal in
    let other : r ≡ refusal.NoMemory → ⊥ = search rules in
    let refuses : RefusesProgram text fixed_names r = subst (λ t. RefusesProgram text t r) c.in-Ok.ensures (refused (RefusesProgram text c.in-Ok.atoms) r other c.in-Err.ensures.refuses) in
    let fixed = c.in-Err.ensures.table ∙ c.in-Ok.ensures in
    record {
      lines = puts_map _ _ (λ put. put ≡ refusal_line c.program_of.new.atoms r ∷ []) (TextEnds what text left Rose status.ProgramRefused) (text_refused what text left Rose c.program_of.new.atoms r fixed refuses) c.in_ok-print_refusal-in-Err.ensures.lines;
      counted = λ h. absurd h;
      sink = search rules;
      source = search rules;
      end = search rules;
      unread = λ h. refl;
    }

pub returns-in-Ok-program_of-clause-counted : goal.returns-in-Ok-program_of-clause-counted
returns-in-Ok-program_of-clause-counted g c =
    let what = run_of c.args.command.now in
    let text = c.args.text.items in
    let left = g.S.Source.left c.args.queries.now in
    let program = c.deref.result.now in
    let table = c.program_of.new.atoms in
    let same : c.deref.result.now ≡ c.in-Ok-program_of.program = search rules in
    let accepts : AcceptsProgram text fixed_names program table = subst (λ p. AcceptsProgram text fixed_names p table) (sym same) (subst (λ t. AcceptsProgram text t c.in-Ok-program_of.program table) c.in-Ok.ensures c.in-Ok-program_of.ensures.accepts) in
    counts_map _ _ (SourceCounted what program table left) (TextCounted what text left) (λ s ls h. (program, table, accepts, h)) c.run_source.result c.run_source.ensures.counted

pub returns-in-Ok-program_of-clause-unread : goal.returns-in-Ok-program_of-clause-unread
returns-in-Ok-program_of-clause-unread g c =
    let what = run_of c.args.command.now in
    let left = g.S.Source.left c.args.queries.now in
    let Rose = FailsBehind (g.S.Source.left c.args.queries.now) (g.S.Source.left c.run_source.new.queries) (Rises (g.S.Source.faults c.args.queries.now) (g.S.Source.faults c.run_source.new.queries)) in
    let program = c.deref.result.now in
    let table = c.program_of.new.atoms in
    program_found _ _ (SourceEnds what program table left Rose) _ (source_found what program table left Rose) c.run_source.result c.run_source.ensures.lines
