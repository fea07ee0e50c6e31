use Rattle.std.proofs.Common.{ap, refl, subst, sym, ◌∙◌}
use Rattle.ap_outside.specs.Faults.{Rises}
use Rattle.ap_outside.specs.Halting.{Finishes}
use Rattle.ap_outside.proofs.Halts.{finishes_map}
use Rattle.ap_words.specs.Reading.{reading_of}
use Rattle.ap_top.specs.Ends.{AskedEnds, FailsBehind}
use Rattle.ap_top.proofs.Readings.{help_ends, usage_ends, version_ends}
use Rattle.ap_top.proofs.Statuses.{stays_found}
use Rattle.ap_top.proofs.command.run_reading.Goals as goal

pub returns-in-Usage-clause-lines : goal.returns-in-Usage-clause-lines
returns-in-Usage-clause-lines g c =
    let entries = g.F.Files.entries c.args.files.now in
    let left = g.S.Source.left c.args.queries.now in
    let Fault = Rises (g.F.Files.faults c.args.files.now) (g.F.Files.faults c.args.files.now) in
    let Rose = FailsBehind (g.S.Source.left c.args.queries.now) (g.S.Source.left c.args.queries.now) (Rises (g.S.Source.faults c.args.queries.now) (g.S.Source.faults c.args.queries.now)) in
    let r = reading_of c.args.reading in
    finishes_map _ _ _ (AskedEnds r entries left Fault Rose) _ (usage_ends entries left Fault Rose r (ap reading_of c.in-Usage.is)) c.close.ensures.lines

pub returns-in-Help-clause-lines : goal.returns-in-Help-clause-lines
returns-in-Help-clause-lines g c =
    let entries = g.F.Files.entries c.args.files.now in
    let left = g.S.Source.left c.args.queries.now in
    let Fault = Rises (g.F.Files.faults c.args.files.now) (g.F.Files.faults c.args.files.now) in
    let Rose = FailsBehind (g.S.Source.left c.args.queries.now) (g.S.Source.left c.args.queries.now) (Rises (g.S.Source.faults c.args.queries.now) (g.S.Source.faults c.args.queries.now)) in
    let r = reading_of c.args.reading in
    finishes_map _ _ _ (AskedEnds r entries left Fault Rose) _ (help_ends entries left Fault Rose r (ap reading_of c.in-Help.is)) c.tell.ensures.lines

pub returns-in-Version-clause-lines : goal.returns-in-Version-clause-lines
returns-in-Version-clause-lines g c =
    let entries = g.F.Files.entries c.args.files.now in
    let left = g.S.Source.left c.args.queries.now in
    let Fault = Rises (g.F.Files.faults c.args.files.now) (g.F.Files.faults c.args.files.now) in
    let Rose = FailsBehind (g.S.Source.left c.args.queries.now) (g.S.Source.left c.args.queries.now) (Rises (g.S.Source.faults c.args.queries.now) (g.S.Source.faults c.args.queries.now)) in
    let r = reading_of c.args.reading in
    finishes_map _ _ _ (AskedEnds r entries left Fault Rose) _ (version_ends entries left Fault Rose r (ap reading_of c.in-Version.is)) c.tell-in-Version.ensures.lines

pub returns-in-Asks-clause-lines : goal.returns-in-Asks-clause-lines
returns-in-Asks-clause-lines g c =
    let entries = g.F.Files.entries c.args.files.now in
    let left = g.S.Source.left c.args.queries.now in
    let Fault = Rises (g.F.Files.faults c.args.files.now) (g.F.Files.faults c.run_asked.new.files) in
    let Rose = FailsBehind (g.S.Source.left c.args.queries.now) (g.S.Source.left c.run_asked.new.queries) (Rises (g.S.Source.faults c.args.queries.now) (g.S.Source.faults c.run_asked.new.queries)) in
    subst (λ r. Finishes (g.K.Sink.pieces c.args.out.now) (g.K.Sink.pieces c.run_asked.new.out) (AskedEnds r entries left Fault Rose) c.run_asked.result) (sym (ap reading_of c.in-Asks.is)) c.run_asked.ensures.lines

pub returns-in-Asks-clause-end : goal.returns-in-Asks-clause-end
returns-in-Asks-clause-end g c = λ what is. c.run_asked.ensures.end what (sym (ap reading_of c.in-Asks.is) ∙ is)

pub returns-in-Asks-clause-counted : goal.returns-in-Asks-clause-counted
returns-in-Asks-clause-counted g c = λ what is. c.run_asked.ensures.counted what (sym (ap reading_of c.in-Asks.is) ∙ is)

pub returns-in-Asks-clause-unasked : goal.returns-in-Asks-clause-unasked
returns-in-Asks-clause-unasked g c = λ other. c.run_asked.ensures.unasked (λ what is. other what (ap reading_of c.in-Asks.is ∙ is))

pub returns-in-Usage-clause-unread : goal.returns-in-Usage-clause-unread
returns-in-Usage-clause-unread g c = stays_found _ refl c.close.result

pub returns-in-Help-clause-unread : goal.returns-in-Help-clause-unread
returns-in-Help-clause-unread g c = stays_found _ refl c.tell.result

pub returns-in-Version-clause-unread : goal.returns-in-Version-clause-unread
returns-in-Version-clause-unread g c = stays_found _ refl c.tell-in-Version.result
