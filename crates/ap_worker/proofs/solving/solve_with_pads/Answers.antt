use Rattle.std.proofs.Common.{◌≡◌, ◌≤◌, IfOk, length, sym, ap, ◌∙◌, subst}
use Rattle.ap_outside.specs.Halting.{Finishes, SinkCount}
use Rattle.ap_outside.specs.Pieces.{Puts}
use Rattle.ap_term.specs.Goals.{joined}
use Rattle.ap_term.specs.Search.{start}
use Rattle.ap_term.specs.Blocks.{IsBlock}
use Rattle.ap_open.specs.Ungrouped.{IsUngrouped}
use Rattle.ap_stack.proofs.Counts.{fresh-counts}
use Rattle.ap_worker.specs.Charged.{IsChargedBlock}
use Rattle.ap_worker.specs.Ends.{end_of}
use Rattle.ap_worker.specs.Totals.{IsFresh, NoneTaken}
use Rattle.ap_open.specs.Reading.{rules_beside}
use Rattle.ap_section.specs.Views.{view_of}
use Rattle.ap_worker.proofs.Asks.{is-asked, is-searched, leads-solving, read-finishes, read-charged, total-counts, total-paid}
use Rattle.ap_worker.proofs.Idle.{last-idle}
use Rattle.ap_worker.proofs.Exact.{none-taken, one-of, total-exact, none-left, fresh-spent, seats-count}
use Rattle.ap_worker.proofs.solving.solve_with_pads.Goals as goal

pub returns-clause-lines : goal.returns-clause-lines
returns-clause-lines g c = λ p q fine asks read.
    let a = c.args.program.now in
    let b = c.args.query.now in
    let code = c.args.sound.now in
    let good = c.as_slice-good.ensures.kept in
    let is = c.question-asked.ensures.kept in
    let solves = c.in-Ok-begun.ensures.solves a (is-asked code a b is c.requires.code c.requires.asked)
    (is-searched c.reading_law.ensures code a b good is c.requires.asked c.requires.code c.requires.safe) in
    let same = c.in-Ok-leading.ensures.query in
    let beside = leads-solving c.outcome_law.ensures code (rules_beside a b) b c.args.budget c.in-Ok-leading.lead.query (view_of c.in-Ok-begun.section) same.0 same.1 solves in
    subst (λ r. Finishes (g.K.Sink.pieces c.args.out.now) (g.K.Sink.pieces c.search-found.new.out) (λ e put. IsBlock (g.A.Answers.line c.args.answers.now) (joined p q) (start q) c.args.budget c.args.limit put (end_of e.end)) r) (sym c.with_total.ensures.with)
    (read-finishes c.reading_law.ensures code a b good is c.requires.asked c.requires.code (g.A.Answers.line c.args.answers.now) c.args.budget c.args.limit _ _ c.gathered.result c.among-taken.result c.among-stolen.result c.search-found.result p q fine asks read
    (c.search-found.ensures.lines (rules_beside a b) b is beside))

pub returns-clause-charged : goal.returns-clause-charged
returns-clause-charged g c = λ p q fine asks read.
    let a = c.args.program.now in
    let b = c.args.query.now in
    let code = c.args.sound.now in
    let good = c.as_slice-good.ensures.kept in
    let is = c.question-asked.ensures.kept in
    let solves = c.in-Ok-begun.ensures.solves a (is-asked code a b is c.requires.code c.requires.asked)
    (is-searched c.reading_law.ensures code a b good is c.requires.asked c.requires.code c.requires.safe) in
    let same = c.in-Ok-leading.ensures.query in
    let beside = leads-solving c.outcome_law.ensures code (rules_beside a b) b c.args.budget c.in-Ok-leading.lead.query (view_of c.in-Ok-begun.section) same.0 same.1 solves in
    subst (λ r. IfOk r (λ e. Puts (g.K.Sink.pieces c.args.out.now) (g.K.Sink.pieces c.search-found.new.out) (IsChargedBlock (g.A.Answers.line c.args.answers.now) (joined p q) (start q) c.args.budget c.args.limit (IsUngrouped (joined a b)) e)))
    (sym c.with_total.ensures.with)
    (read-charged c.reading_law.ensures code a b good is c.requires.asked c.requires.code (g.A.Answers.line c.args.answers.now) c.args.budget c.args.limit _ _ c.gathered.result c.among-taken.result c.among-stolen.result c.search-found.result p q fine asks read
    (c.search-found.ensures.charged (rules_beside a b) b is beside))

pub returns-clause-total : goal.returns-clause-total
returns-clause-total g c =
    let a = c.args.program.now in
    let b = c.args.query.now in
    let code = c.args.sound.now in
    let is = c.question-asked.ensures.kept in
    let solves = c.in-Ok-begun.ensures.solves a (is-asked code a b is c.requires.code c.requires.asked)
    (is-searched c.reading_law.ensures code a b c.as_slice-good.ensures.kept is c.requires.asked c.requires.code c.requires.safe) in
    let lead = c.in-Ok-leading.lead in
    let same = c.in-Ok-leading.ensures.query in
    let beside = leads-solving c.outcome_law.ensures code (rules_beside a b) b c.args.budget lead.query (view_of c.in-Ok-begun.section) same.0 same.1 solves in
    let fresh = subst (IsFresh c.args.budget) (sym same.1) c.in-Ok-begun.ensures.fresh in
    let counts = fresh-counts c.args.budget lead.query c.in-Ok-leading.ensures.alone.0 fresh.given fresh.owes in
    subst (λ r. IfOk r (λ e. e.charged ≤ e.total.sum)) (sym c.with_total.ensures.with)
    (total-paid c.gathered.result c.among-taken.result c.among-stolen.result c.search-found.result c.search-found.new.lead.query.share c.gathered.ensures.least c.with_total.ensures.small (c.search-found.ensures.paid (rules_beside a b) b is beside counts))

pub returns-clause-exact : goal.returns-clause-exact
returns-clause-exact g c = λ plain.
    let a = c.args.program.now in
    let b = c.args.query.now in
    let code = c.args.sound.now in
    let is = c.question-asked.ensures.kept in
    let solves = c.in-Ok-begun.ensures.solves a (is-asked code a b is c.requires.code c.requires.asked)
    (is-searched c.reading_law.ensures code a b c.as_slice-good.ensures.kept is c.requires.asked c.requires.code c.requires.safe) in
    let lead = c.in-Ok-leading.lead in
    let same = c.in-Ok-leading.ensures.query in
    let beside = leads-solving c.outcome_law.ensures code (rules_beside a b) b c.args.budget lead.query (view_of c.in-Ok-begun.section) same.0 same.1 solves in
    let bare = c.reading_law.ensures.ungrouped a b plain in
    let fresh = c.in-Ok-begun.ensures.fresh in
    let lone = c.in-Ok-leading.ensures.lone (fresh-spent (view_of c.in-Ok-begun.section) fresh.owes) in
    let one : length c.in-Ok-workers_of.workers.items ≡ 1 = c.in-Ok-workers_of.ensures.count ∙ ap length c.in-Ok.ensures.seats ∙ seats-count _ _ _ _ _ _ ∙ c.workers_for-count.ensures.one plain in
    let none = none-left c.in-Ok-workers_of.workers.items c.pop.new.self.items c.in-Some.first c.in-Some.ensures.items one in
    let found = c.search-found.ensures.exact (rules_beside a b) b is beside bare.0 bare.1 lone c.in-Ok-leading.ensures.share none in
    subst (λ r. IfOk r (λ e. e.total.sum ≡ e.charged)) (sym c.with_total.ensures.with)
    (total-exact c.gathered.result c.among-taken.result c.among-stolen.result c.search-found.result c.search-found.new.lead found (c.gathered.ensures.alone (c.search-found.ensures.none none)) (subst (λ r. IfOk r (λ e. e.charged ≤ e.total.sum)) c.with_total.ensures.with (returns-clause-total g c)))

pub returns-clause-one : goal.returns-clause-one
returns-clause-one g c = λ is.
    let some = c.workers_for-count.ensures.some in
    let one : length c.in-Ok-workers_of.workers.items ≡ 1 = c.in-Ok-workers_of.ensures.count ∙ ap length c.in-Ok.ensures.seats ∙ seats-count _ _ _ _ _ _ ∙ one-of _ _ some.0 some.1 is in
    let none = c.search-found.ensures.none (none-left c.in-Ok-workers_of.workers.items c.pop.new.self.items c.in-Some.first c.in-Some.ensures.items one) in
    subst (λ r. IfOk r NoneTaken) (sym c.with_total.ensures.with) (none-taken c.gathered.result c.among-taken.result c.among-stolen.result c.search-found.result (c.among-taken.ensures.none none) (c.among-stolen.ensures.none none))

pub returns-clause-plain : goal.returns-clause-plain
returns-clause-plain g c = λ plain.
    let one : length c.in-Ok-workers_of.workers.items ≡ 1 = c.in-Ok-workers_of.ensures.count ∙ ap length c.in-Ok.ensures.seats ∙ seats-count _ _ _ _ _ _ ∙ c.workers_for-count.ensures.one plain in
    let none = c.search-found.ensures.none (none-left c.in-Ok-workers_of.workers.items c.pop.new.self.items c.in-Some.first c.in-Some.ensures.items one) in
    subst (λ r. IfOk r NoneTaken) (sym c.with_total.ensures.with) (none-taken c.gathered.result c.among-taken.result c.among-stolen.result c.search-found.result (c.among-taken.ensures.none none) (c.among-stolen.ensures.none none))

pub returns-clause-count : goal.returns-clause-count
returns-clause-count g c =
    subst (SinkCount (g.K.Sink.faults c.args.out.now) (g.K.Sink.faults c.search-found.new.out)) (sym c.with_total.ensures.with)
    (total-counts c.gathered.result c.among-taken.result c.among-stolen.result (g.K.Sink.faults c.args.out.now) (g.K.Sink.faults c.search-found.new.out) c.search-found.result c.search-found.ensures.count)

pub leading-requires-clause-idle : goal.leading-requires-clause-idle
leading-requires-clause-idle g c = (last-idle c.in-Ok-workers_of.workers.items c.pop.new.self.items c.in-Some.first c.in-Some.ensures.items c.in-Ok-workers_of.ensures.idle).1

pub search-found-requires-clause-idle : goal.search-found-requires-clause-idle
search-found-requires-clause-idle g c κs within = (last-idle c.in-Ok-workers_of.workers.items c.pop.new.self.items c.in-Some.first c.in-Some.ensures.items c.in-Ok-workers_of.ensures.idle).0

pub workers_of-requires-clause-new : goal.workers_of-requires-clause-new
workers_of-requires-clause-new g c = λ k d lt. (c.args.pads, c.in-Ok.ensures.roles k d lt)
