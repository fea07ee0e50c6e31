use Rattle.std.proofs.Common.{◌≡◌, [], ◌∷◌, Err, subst, ◌∙◌, rules}
use Rattle.ap_outside.proofs.Puts.{puts_map}
use Rattle.ap_outside.proofs.Halts.{finishes_map, passes_halt}
use Rattle.ap_term.specs.AtomTable.{fixed_names}
use Rattle.ap_clause.specs.Reads.{AcceptsProgram, RefusesProgram}
use Rattle.ap_clause.specs.declared.refusal.Refusal.TheVariants as refusal
use Rattle.ap_words.specs.Asked.{show_of}
use Rattle.ap_top.specs.Refusals.{refusal_line}
use Rattle.ap_top.specs.Shows.{ProgramShows, TextShows}
use Rattle.ap_top.specs.declared.status.Status.TheVariants as status
use Rattle.ap_top.proofs.ShowLayers.{show_refused}
use Rattle.ap_top.proofs.Pieces.{refused}
use Rattle.ap_top.proofs.show.show_text.Goals as goal

pub returns-in-Ok-program-clause-lines : goal.returns-in-Ok-program-clause-lines
returns-in-Ok-program-clause-lines g c =
    let what = show_of c.args.command.now in
    let text = c.args.text.now in
    let program = c.in-Ok-program.program in
    let table = c.program.new.atoms in
    let accepts : AcceptsProgram text fixed_names program table = subst (λ t. AcceptsProgram text t program table) c.in-Ok.ensures c.in-Ok-program.ensures.accepts in
    finishes_map _ _ (ProgramShows what program table) (TextShows what text) _ (λ s ls ends. TextShows.accepted program table s ls accepts ends) c.show_program.ensures.lines

pub returns-in_err-print_refusal-in-Err : goal.returns-in_err-print_refusal-in-Err
returns-in_err-print_refusal-in-Err g c =
    let same : c.from_residual.result ≡ Err c.in_err-print_refusal-in-Err.field-0.0 = search rules in
    let what = show_of c.args.command.now in
    let text = c.args.text.now in
    let r = c.in-Err.refusal in
    let other : r ≡ refusal.NoMemory → ⊥ = search rules in
    let refuses : RefusesProgram text fixed_names r = subst (λ t. RefusesProgram text t r) c.in-Ok.ensures (refused (RefusesProgram text c.in-Ok.atoms) r other c.in-Err.ensures.refuses) in
    let fixed = c.in-Err.ensures.table ∙ c.in-Ok.ensures in
    record {
      lines = passes_halt _ _ (λ _ put. put ≡ refusal_line c.program.new.atoms r ∷ []) (TextShows what text) (λ ls any. (status.ProgramRefused, show_refused what text c.program.new.atoms r fixed refuses ls any.1))
          c.print_refusal.result _ c.in_err-print_refusal-in-Err.field-0.0 c.in_err-print_refusal-in-Err.was same c.print_refusal.ensures.lines;
      sink = search rules;
    }

pub returns : goal.returns
returns g c =
    let what = show_of c.args.command.now in
    let text = c.args.text.now in
    let r = c.in-Err.refusal in
    let other : r ≡ refusal.NoMemory → ⊥ = search rules in
    let refuses : RefusesProgram text fixed_names r = subst (λ t. RefusesProgram text t r) c.in-Ok.ensures (refused (RefusesProgram text c.in-Ok.atoms) r other c.in-Err.ensures.refuses) in
    let fixed = c.in-Err.ensures.table ∙ c.in-Ok.ensures in
    record {
      lines = puts_map _ _ (λ put. put ≡ refusal_line c.program.new.atoms r ∷ []) (TextShows what text status.ProgramRefused) (show_refused what text c.program.new.atoms r fixed refuses) c.in_ok-print_refusal-in-Err.ensures.lines;
      sink = search rules;
    }
