use Rattle.std.proofs.Common.{ℕ, List, map, refl, subst}
use Rattle.ap_outside.specs.Faults.{Rises}
use Rattle.ap_outside.specs.Pieces.{CutOf}
use Rattle.ap_outside.specs.Halting.{AnyOf}
use Rattle.ap_outside.proofs.Puts.{puts_map}
use Rattle.ap_outside.proofs.Halts.{halts_map}
use Rattle.ap_top.specs.Ends.{FailsBehind, RunEnds, WordsEnd, Whole}
use Rattle.ap_top.specs.declared.status.Status.TheVariants as status
use Rattle.ap_top.specs.Counts.{RunSinkCount}
use Rattle.ap_top.specs.declared.status.Status.{Status}
use Rattle.ap_top.proofs.Complete.{run_answers, run_shows, run_codes, given_up, shown_given_up}
use Rattle.ap_top.proofs.Counting.{given_up_counts}
use Rattle.ap_top.proofs.Statuses.{memory_stays, sink_kept, sink_rose}
use Rattle.ap_top.proofs.Weaker.{run_weaker}
use Rattle.ap_top.proofs.Layers.{given_up_found, given_up_usage, run_status, run_usage, sink_lines, memory_lines, end_given_up}
use Rattle.ap_top.proofs.command.run.Goals as goal

pub returns-in-Ok-clause-taken : goal.returns-in-Ok-clause-taken
returns-in-Ok-clause-taken g c =
    let Fault = Rises (g.F.Files.faults c.args.files.now) (g.F.Files.faults c.run_words.new.files) in
    let Rose = FailsBehind (g.S.Source.left c.args.queries.now) (g.S.Source.left c.run_words.new.queries) (Rises (g.S.Source.faults c.args.queries.now) (g.S.Source.faults c.run_words.new.queries)) in
    let E = WordsEnd (map (λ w. w.now) c.args.words.now) (g.F.Files.entries c.args.files.now) (g.S.Source.left c.args.queries.now) Fault Rose in
    puts_map _ _ (E c.in-Ok.status) (Whole E c.in-Ok.status) (λ ls ends. Whole.ends c.in-Ok.status ls ends) c.in-Ok.ensures.lines

pub returns-in-Ok-clause-sink : goal.returns-in-Ok-clause-sink
returns-in-Ok-clause-sink g c =
    let Fault = Rises (g.F.Files.faults c.args.files.now) (g.F.Files.faults c.run_words.new.files) in
    let Rose = FailsBehind (g.S.Source.left c.args.queries.now) (g.S.Source.left c.run_words.new.queries) (Rises (g.S.Source.faults c.args.queries.now) (g.S.Source.faults c.run_words.new.queries)) in
    let words = map (λ w. w.now) c.args.words.now in
    let entries = g.F.Files.entries c.args.files.now in
    let left = g.S.Source.left c.args.queries.now in
    sink_kept _ _ (WordsEnd words entries left Fault Rose) (λ ls ends. run_status words entries left Fault Rose status.SinkFault ls ends refl) _ _ c.in-Ok.status c.in-Ok.ensures.sink c.in-Ok.ensures.lines

pub returns-in-Err-Sink-clause-taken : goal.returns-in-Err-Sink-clause-taken
returns-in-Err-Sink-clause-taken g c =
    let Fault = Rises (g.F.Files.faults c.args.files.now) (g.F.Files.faults c.run_words.new.files) in
    let Rose = FailsBehind (g.S.Source.left c.args.queries.now) (g.S.Source.left c.run_words.new.queries) (Rises (g.S.Source.faults c.args.queries.now) (g.S.Source.faults c.run_words.new.queries)) in
    let E = WordsEnd (map (λ w. w.now) c.args.words.now) (g.F.Files.entries c.args.files.now) (g.S.Source.left c.args.queries.now) Fault Rose in
    puts_map _ _ (CutOf (AnyOf E)) (Whole E status.SinkFault) (λ ls cut. Whole.sink ls cut) (sink_lines _ _ E c.in-Err-Sink.field-0 c.in-Err-Sink.field-0-is c.in-Err-Sink.ensures.lines)

pub returns-in-Err-NoMemory-clause-taken : goal.returns-in-Err-NoMemory-clause-taken
returns-in-Err-NoMemory-clause-taken g c =
    let Fault = Rises (g.F.Files.faults c.args.files.now) (g.F.Files.faults c.run_words.new.files) in
    let Rose = FailsBehind (g.S.Source.left c.args.queries.now) (g.S.Source.left c.run_words.new.queries) (Rises (g.S.Source.faults c.args.queries.now) (g.S.Source.faults c.run_words.new.queries)) in
    let E = WordsEnd (map (λ w. w.now) c.args.words.now) (g.F.Files.entries c.args.files.now) (g.S.Source.left c.args.queries.now) Fault Rose in
    end_given_up _ _ _ E c.give_up.result (memory_lines _ _ E c.in-Err-NoMemory.field-0 c.in-Err-NoMemory.field-0-is c.in-Err-NoMemory.ensures.lines)
    c.give_up.ensures.memory c.give_up.ensures.sink c.give_up.ensures.only

pub returns-in-Ok-clause-complete : goal.returns-in-Ok-clause-complete
returns-in-Ok-clause-complete g c =
    let Fault = Rises (g.F.Files.faults c.args.files.now) (g.F.Files.faults c.run_words.new.files) in
    let Rose = FailsBehind (g.S.Source.left c.args.queries.now) (g.S.Source.left c.run_words.new.queries) (Rises (g.S.Source.faults c.args.queries.now) (g.S.Source.faults c.run_words.new.queries)) in
    λ names quiet calm still. run_answers (g.S.Source.left c.args.queries.now) Rose (λ taken f. calm f.0) Fault quiet (map (λ w. w.now) c.args.words.now) (g.F.Files.entries c.args.files.now) names c.in-Ok.status c.in-Ok.ensures.lines.0 c.in-Ok.ensures.lines.2

pub returns-in-Err-Sink-clause-complete : goal.returns-in-Err-Sink-clause-complete
returns-in-Err-Sink-clause-complete g c = λ names quiet calm still. absurd (still (sink_rose Status _ _ c.in-Err-Sink.field-0 c.in-Err-Sink.field-0-is c.in-Err-Sink.ensures.sink))

pub returns-in-Err-NoMemory-clause-complete : goal.returns-in-Err-NoMemory-clause-complete
returns-in-Err-NoMemory-clause-complete g c =
    let before = memory_stays Status _ _ c.in-Err-NoMemory.field-0 c.in-Err-NoMemory.field-0-is c.in-Err-NoMemory.ensures.sink in
    λ names quiet calm still. given_up (g.K.Sink.faults c.args.out.now) (g.K.Sink.faults c.give_up.new.out) c.give_up.result still c.give_up.ensures.only
    (subst (λ n. RunSinkCount n (g.K.Sink.faults c.give_up.new.out) c.give_up.result) before c.give_up.ensures.count)

pub returns-in-Ok-clause-shows : goal.returns-in-Ok-clause-shows
returns-in-Ok-clause-shows g c =
    let Fault = Rises (g.F.Files.faults c.args.files.now) (g.F.Files.faults c.run_words.new.files) in
    let Rose = FailsBehind (g.S.Source.left c.args.queries.now) (g.S.Source.left c.run_words.new.queries) (Rises (g.S.Source.faults c.args.queries.now) (g.S.Source.faults c.run_words.new.queries)) in
    λ names quiet still. run_shows Fault quiet (g.S.Source.left c.args.queries.now) Rose (map (λ w. w.now) c.args.words.now) (g.F.Files.entries c.args.files.now) names c.in-Ok.status c.in-Ok.ensures.lines.0 c.in-Ok.ensures.lines.2

pub returns-in-Err-Sink-clause-shows : goal.returns-in-Err-Sink-clause-shows
returns-in-Err-Sink-clause-shows g c = λ names quiet still. absurd (still (sink_rose Status _ _ c.in-Err-Sink.field-0 c.in-Err-Sink.field-0-is c.in-Err-Sink.ensures.sink))

pub returns-in-Err-NoMemory-clause-shows : goal.returns-in-Err-NoMemory-clause-shows
returns-in-Err-NoMemory-clause-shows g c =
    let before = memory_stays Status _ _ c.in-Err-NoMemory.field-0 c.in-Err-NoMemory.field-0-is c.in-Err-NoMemory.ensures.sink in
    λ names quiet still. shown_given_up (g.K.Sink.faults c.args.out.now) (g.K.Sink.faults c.give_up.new.out) c.give_up.result still c.give_up.ensures.only
    (subst (λ n. RunSinkCount n (g.K.Sink.faults c.give_up.new.out) c.give_up.result) before c.give_up.ensures.count)

pub returns-in-Ok-clause-codes : goal.returns-in-Ok-clause-codes
returns-in-Ok-clause-codes g c =
    let Fault = Rises (g.F.Files.faults c.args.files.now) (g.F.Files.faults c.run_words.new.files) in
    let Rose = FailsBehind (g.S.Source.left c.args.queries.now) (g.S.Source.left c.run_words.new.queries) (Rises (g.S.Source.faults c.args.queries.now) (g.S.Source.faults c.run_words.new.queries)) in
    λ names quiet still. run_codes Fault quiet (g.S.Source.left c.args.queries.now) Rose (map (λ w. w.now) c.args.words.now) (g.F.Files.entries c.args.files.now) names c.in-Ok.status c.in-Ok.ensures.lines.0 c.in-Ok.ensures.lines.2

pub returns-in-Err-Sink-clause-codes : goal.returns-in-Err-Sink-clause-codes
returns-in-Err-Sink-clause-codes g c = λ names quiet still. absurd (still (sink_rose Status _ _ c.in-Err-Sink.field-0 c.in-Err-Sink.field-0-is c.in-Err-Sink.ensures.sink))

pub returns-in-Err-NoMemory-clause-codes : goal.returns-in-Err-NoMemory-clause-codes
returns-in-Err-NoMemory-clause-codes g c =
    let before = memory_stays Status _ _ c.in-Err-NoMemory.field-0 c.in-Err-NoMemory.field-0-is c.in-Err-NoMemory.ensures.sink in
    λ names quiet still. shown_given_up (g.K.Sink.faults c.args.out.now) (g.K.Sink.faults c.give_up.new.out) c.give_up.result still c.give_up.ensures.only
    (subst (λ n. RunSinkCount n (g.K.Sink.faults c.give_up.new.out) c.give_up.result) before c.give_up.ensures.count)

pub returns-in-Ok-clause-usage : goal.returns-in-Ok-clause-usage
returns-in-Ok-clause-usage g c =
    let Fault = Rises (g.F.Files.faults c.args.files.now) (g.F.Files.faults c.run_words.new.files) in
    let Rose = FailsBehind (g.S.Source.left c.args.queries.now) (g.S.Source.left c.run_words.new.queries) (Rises (g.S.Source.faults c.args.queries.now) (g.S.Source.faults c.run_words.new.queries)) in
    λ is. run_usage (map (λ w. w.now) c.args.words.now) (g.F.Files.entries c.args.files.now) (g.S.Source.left c.args.queries.now) Fault Rose c.in-Ok.status c.in-Ok.ensures.lines.0 c.in-Ok.ensures.lines.2 is

pub returns-in-Err-NoMemory-clause-usage : goal.returns-in-Err-NoMemory-clause-usage
returns-in-Err-NoMemory-clause-usage g c = λ is. given_up_usage c.give_up.result c.give_up.ensures.only is

pub returns-in-Ok-clause-lines : goal.returns-in-Ok-clause-lines
returns-in-Ok-clause-lines g c =
    let Fault = Rises (g.F.Files.faults c.args.files.now) (g.F.Files.faults c.run_words.new.files) in
    let Rose = Rises (g.S.Source.faults c.args.queries.now) (g.S.Source.faults c.run_words.new.queries) in
    let before = g.S.Source.left c.args.queries.now in
    let left = g.S.Source.left c.run_words.new.queries in
    let entries = g.F.Files.entries c.args.files.now in
    let words = map (λ w. w.now) c.args.words.now in
    let E = WordsEnd words entries before Fault (FailsBehind before left Rose) in
    let F = RunEnds words entries before Fault Rose in
    let weaker : (s : Status) (ls : List (List ℕ)) → E s ls → F s ls = run_weaker before left entries Fault Rose words in
    puts_map _ _ (E c.in-Ok.status) (Whole F c.in-Ok.status) (λ ls ends. Whole.ends c.in-Ok.status ls (weaker c.in-Ok.status ls ends)) c.in-Ok.ensures.lines

pub returns-in-Err-Sink-clause-lines : goal.returns-in-Err-Sink-clause-lines
returns-in-Err-Sink-clause-lines g c =
    let Fault = Rises (g.F.Files.faults c.args.files.now) (g.F.Files.faults c.run_words.new.files) in
    let Rose = Rises (g.S.Source.faults c.args.queries.now) (g.S.Source.faults c.run_words.new.queries) in
    let before = g.S.Source.left c.args.queries.now in
    let left = g.S.Source.left c.run_words.new.queries in
    let entries = g.F.Files.entries c.args.files.now in
    let words = map (λ w. w.now) c.args.words.now in
    let E = WordsEnd words entries before Fault (FailsBehind before left Rose) in
    let F = RunEnds words entries before Fault Rose in
    let weaker : (s : Status) (ls : List (List ℕ)) → E s ls → F s ls = run_weaker before left entries Fault Rose words in
    puts_map _ _ (CutOf (AnyOf F)) (Whole F status.SinkFault) (λ ls cut. Whole.sink ls cut)
    (sink_lines _ _ F c.in-Err-Sink.field-0 c.in-Err-Sink.field-0-is (halts_map _ _ E F (λ ls any. (any.0, weaker any.0 ls any.1)) c.in-Err-Sink.field-0 c.in-Err-Sink.ensures.lines))

pub returns-in-Err-NoMemory-clause-lines : goal.returns-in-Err-NoMemory-clause-lines
returns-in-Err-NoMemory-clause-lines g c =
    let Fault = Rises (g.F.Files.faults c.args.files.now) (g.F.Files.faults c.run_words.new.files) in
    let Rose = Rises (g.S.Source.faults c.args.queries.now) (g.S.Source.faults c.run_words.new.queries) in
    let before = g.S.Source.left c.args.queries.now in
    let left = g.S.Source.left c.run_words.new.queries in
    let entries = g.F.Files.entries c.args.files.now in
    let words = map (λ w. w.now) c.args.words.now in
    let E = WordsEnd words entries before Fault (FailsBehind before left Rose) in
    let F = RunEnds words entries before Fault Rose in
    let weaker : (s : Status) (ls : List (List ℕ)) → E s ls → F s ls = run_weaker before left entries Fault Rose words in
    end_given_up _ _ _ F c.give_up.result
    (memory_lines _ _ F c.in-Err-NoMemory.field-0 c.in-Err-NoMemory.field-0-is (halts_map _ _ E F (λ ls any. (any.0, weaker any.0 ls any.1)) c.in-Err-NoMemory.field-0 c.in-Err-NoMemory.ensures.lines))
    c.give_up.ensures.memory c.give_up.ensures.sink c.give_up.ensures.only

pub returns-in-Ok-clause-counted : goal.returns-in-Ok-clause-counted
returns-in-Ok-clause-counted g c = λ h what is. c.in-Ok.ensures.counted what is h

pub returns-in-Err-Sink-clause-counted : goal.returns-in-Err-Sink-clause-counted
returns-in-Err-Sink-clause-counted g c = λ h. absurd h

pub returns-in-Err-NoMemory-clause-counted : goal.returns-in-Err-NoMemory-clause-counted
returns-in-Err-NoMemory-clause-counted g c = λ h. given_up_counts _ c.give_up.result c.give_up.ensures.only h

pub returns-in-Err-NoMemory-clause-unread : goal.returns-in-Err-NoMemory-clause-unread
returns-in-Err-NoMemory-clause-unread g c = λ h. absurd (given_up_found c.give_up.result c.give_up.ensures.only h)
