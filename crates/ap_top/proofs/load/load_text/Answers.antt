use Rattle.std.proofs.Common.{◌≡◌, [], ◌∷◌, length, Err, refl, subst, ◌∙◌, arith, rules}
use Rattle.ap_outside.proofs.Puts.{puts_map}
use Rattle.ap_outside.proofs.Halts.{finishes_map, passes_halt}
use Rattle.ap_term.specs.AtomTable.{fixed_names}
use Rattle.ap_clause.specs.Reads.{AcceptsProgram, RefusesProgram}
use Rattle.ap_clause.specs.declared.refusal.Refusal.TheVariants as refusal
use Rattle.ap_gen.specs.Generator.{workload}
use Rattle.ap_top.specs.Counted.{LoadCounted, QuestionCounted}
use Rattle.ap_top.specs.Refusals.{refusal_line}
use Rattle.ap_top.specs.Loads.{LoadEnds, QuestionEnds}
use Rattle.ap_top.specs.declared.status.Status.TheVariants as status
use Rattle.ap_top.proofs.Counting.{load_counts}
use Rattle.ap_top.proofs.LoadLayers.{load_refused}
use Rattle.ap_top.proofs.Pieces.{refused}
use Rattle.ap_top.proofs.Uncalled.{program-leaves}
use Rattle.ap_top.proofs.load.load_text.Goals as goal

pub load_program-requires-clause-query : goal.load_program-requires-clause-query
load_program-requires-clause-query g c κs within =
    let text = c.args.text.now in
    let program = c.in-Ok-program.program in
    let table = c.program.new.atoms in
    let count : length fixed_names ≡ 84 = refl in
    program-leaves text fixed_names program table (omega arith) (subst (λ t. AcceptsProgram text t program table) c.in-Ok.ensures c.in-Ok-program.ensures.accepts)

pub returns-in-Ok-program-clause-lines : goal.returns-in-Ok-program-clause-lines
returns-in-Ok-program-clause-lines g c =
    let seed = c.args.seed in
    let size = c.args.size in
    let text = c.args.text.now in
    let program = c.in-Ok-program.program in
    let table = c.program.new.atoms in
    let accepts : AcceptsProgram text fixed_names program table = subst (λ t. AcceptsProgram text t program table) c.in-Ok.ensures c.in-Ok-program.ensures.accepts in
    let own : AcceptsProgram (workload seed size) fixed_names program table = subst (λ t. AcceptsProgram t fixed_names program table) c.requires accepts in
    finishes_map _ _ (QuestionEnds seed size program table) (LoadEnds seed size) _ (λ s ls ends. LoadEnds.accepted program table s ls own ends) c.load_program.ensures.lines

pub returns-in_err-print_refusal-in-Err : goal.returns-in_err-print_refusal-in-Err
returns-in_err-print_refusal-in-Err g c =
    let same : c.from_residual.result ≡ Err c.in_err-print_refusal-in-Err.field-0.0 = search rules in
    let seed = c.args.seed in
    let size = c.args.size in
    let text = c.args.text.now in
    let r = c.in-Err.refusal in
    let other : r ≡ refusal.NoMemory → ⊥ = search rules in
    let refuses : RefusesProgram text fixed_names r = subst (λ t. RefusesProgram text t r) c.in-Ok.ensures (refused (RefusesProgram text c.in-Ok.atoms) r other c.in-Err.ensures.refuses) in
    let own : RefusesProgram (workload seed size) fixed_names r = subst (λ t. RefusesProgram t fixed_names r) c.requires refuses in
    let fixed = c.in-Err.ensures.table ∙ c.in-Ok.ensures in
    record {
      lines = passes_halt _ _ (λ _ put. put ≡ refusal_line c.program.new.atoms r ∷ []) (LoadEnds seed size) (λ ls any. (status.ProgramRefused, load_refused seed size c.program.new.atoms r fixed own ls any.1))
          c.print_refusal.result _ c.in_err-print_refusal-in-Err.field-0.0 c.in_err-print_refusal-in-Err.was same c.print_refusal.ensures.lines;
      counted = search rules;
      sink = search rules;
    }

pub returns : goal.returns
returns g c =
    let seed = c.args.seed in
    let size = c.args.size in
    let text = c.args.text.now in
    let r = c.in-Err.refusal in
    let other : r ≡ refusal.NoMemory → ⊥ = search rules in
    let refuses : RefusesProgram text fixed_names r = subst (λ t. RefusesProgram text t r) c.in-Ok.ensures (refused (RefusesProgram text c.in-Ok.atoms) r other c.in-Err.ensures.refuses) in
    let own : RefusesProgram (workload seed size) fixed_names r = subst (λ t. RefusesProgram t fixed_names r) c.requires refuses in
    let fixed = c.in-Err.ensures.table ∙ c.in-Ok.ensures in
    record {
      lines = puts_map _ _ (λ put. put ≡ refusal_line c.program.new.atoms r ∷ []) (LoadEnds seed size status.ProgramRefused) (load_refused seed size c.program.new.atoms r fixed own) c.in_ok-print_refusal-in-Err.ensures.lines;
      counted = λ h. absurd h;
      sink = search rules;
    }

pub returns-in-Ok-program-clause-counted : goal.returns-in-Ok-program-clause-counted
returns-in-Ok-program-clause-counted g c =
    let seed = c.args.seed in
    let size = c.args.size in
    let workers = c.args.crew.now.workers in
    let program = c.in-Ok-program.program in
    let table = c.program.new.atoms in
    let accepts : AcceptsProgram c.args.text.now fixed_names program table = subst (λ t. AcceptsProgram c.args.text.now t program table) c.in-Ok.ensures c.in-Ok-program.ensures.accepts in
    let own : AcceptsProgram (workload seed size) fixed_names program table = subst (λ t. AcceptsProgram t fixed_names program table) c.requires accepts in
    load_counts _ _ (QuestionCounted seed size workers program table) (LoadCounted seed size workers) (λ ls h. (program, table, own, h)) c.load_program.result c.load_program.ensures.counted
