use Rattle.std.proofs.Common.{map, subst}
use Rattle.ap_outside.specs.Faults.{Rises}
use Rattle.ap_outside.proofs.Halts.{finishes_map}
use Rattle.ap_words.specs.Asked.{runs}
use Rattle.ap_words.specs.Reading.{IsRead, reading_of}
use Rattle.ap_top.specs.Ends.{AskedEnds, WordsEnd, FailsBehind}
use Rattle.ap_top.proofs.command.run_words.Goals as goal

pub returns-clause-lines : goal.returns-clause-lines
returns-clause-lines g c =
    let words = map (λ w. w.now) c.args.words.now in
    let entries = g.F.Files.entries c.args.files.now in
    let left = g.S.Source.left c.args.queries.now in
    let Fault = Rises (g.F.Files.faults c.args.files.now) (g.F.Files.faults c.run_reading.new.files) in
    let Rose = FailsBehind (g.S.Source.left c.args.queries.now) (g.S.Source.left c.run_reading.new.queries) (Rises (g.S.Source.faults c.args.queries.now) (g.S.Source.faults c.run_reading.new.queries)) in
    let r = reading_of c.in-Ok.reading in
    finishes_map _ _ (AskedEnds r entries left Fault Rose) (WordsEnd words entries left Fault Rose) _ (λ s ls ends. WordsEnd.read r s ls c.in-Ok.ensures.is ends) c.run_reading.ensures.lines

pub returns-clause-end : goal.returns-clause-end
returns-clause-end g c = λ what is. c.run_reading.ensures.end what (c.in-Ok.ensures.alone (runs what) is)

pub returns-clause-counted : goal.returns-clause-counted
returns-clause-counted g c = λ what is. c.run_reading.ensures.counted what (c.in-Ok.ensures.alone what is)

pub returns-clause-unasked : goal.returns-clause-unasked
returns-clause-unasked g c =
    let words = map (λ w. w.now) c.args.words.now in
    λ other. c.run_reading.ensures.unasked (λ what is. other what (subst (IsRead words) is c.in-Ok.ensures.is))
