use Rattle.std.proofs.Common.{◌≡◌, ◌+◌, ◌<◌, ◌≤◌, [], Err, refl, ap, sym, ◌∙◌, subst, arith, rules}
use Rattle.ap_outside.specs.Pieces.{Puts}
use Rattle.ap_term.specs.Search.{start}
use Rattle.ap_term.specs.Blocks.{IsBlock}
use Rattle.ap_open.specs.Opened.{spent_in}
use Rattle.ap_open.specs.Solving.{past_answer}
use Rattle.ap_post.specs.Posts.{posted_in}
use Rattle.ap_stack.specs.Counts.{Counts}
use Rattle.ap_stack.proofs.Counts.{past-counts}
use Rattle.ap_stack.specs.Stacks.{code_in, section_in, IsStep}
use Rattle.ap_worker.specs.declared.lead.Lead.{Lead}
use Rattle.ap_worker.specs.Charged.{charge_after}
use Rattle.ap_worker.specs.Ends.{end_of}
use Rattle.ap_worker.specs.Leads.{IsAlone, IsLeading}
use Rattle.ap_worker.proofs.Charging.{charged-at-limit, charged-at-ending, spent-alone, nothing-asked}
use Rattle.ap_worker.proofs.Finding.{FindingBy, broken-off, at-limit, at-answer, at-ending, one-more, one-lost, stepped, alone, not-alone, paid-on, paid-at-limit, paid-at-ending}
use Rattle.ap_worker.proofs.Exact.{frameless, past-lone, no-more, charge-least}
use Rattle.ap_worker.proofs.found.put_found.Goals as goal
use Rattle.ap_worker.proofs.found.put_found.Goals.{in-Answer+in_ok-put_answer-in-Answer+else-count-bounds, in_default-step}

pub returns-in_default-clause-lines : goal.returns-in_default-clause-lines
returns-in_default-clause-lines g c = λ p q good h.
    let i = c.loop-step.invariant in
    broken-off (g.A.Answers.line c.args.answers.now) (code_in c.args.lead.now.query) p q c.args.bounds.budget c.solving_law.ensures c.outcome_law.ensures c.block_law.ensures (λ x y. g.met.A.Answers.names c.args.answers.now x y) good c.args.bounds.limit _ _ _ _ _ _ (i.found p q good h) (let s = i.short in omega arith)

pub returns-in-Ended-clause-lines : goal.returns-in-Ended-clause-lines
returns-in-Ended-clause-lines g c = λ p q good h.
    let i = c.loop-step.invariant in
    let line = g.A.Answers.line c.args.answers.now in
    let code = code_in c.args.lead.now.query in
    let t = c.turn.new.self in
    let go = c.in-Ok.ensures.goes in
    let d = subst (IsStep t.worker.post t.query) c.in-Ended.is c.in-Ok.ensures.step in
    subst (λ e. Puts (g.K.Sink.pieces c.args.out.now) (g.K.Sink.pieces c.loop-step.out) (λ put. IsBlock line p.program (start q) c.args.bounds.budget c.args.bounds.limit put (end_of e))) (sym c.ended.ensures.end)
    (at-ending line code p q c.args.bounds.budget c.solving_law.ensures c.outcome_law.ensures c.block_law.ensures (λ x y. g.met.A.Answers.names c.args.answers.now x y) good c.args.bounds.limit _ _ _ t.worker.post t.query c.in-Ended.ending (go.code ∙ i.code) d i.short
    (stepped line code p q c.args.bounds.budget _ _ _ c.outcome_law.ensures c.loop-step.lead t i.code go (i.found p q good h)))

pub returns-in_err-put_answer-in-Answer-clause-lines : goal.returns-in_err-put_answer-in-Answer-clause-lines
returns-in_err-put_answer-in-Answer-clause-lines g c = λ p q good h.
    let same : c.from_residual.result ≡ Err c.in_err-put_answer-in-Answer.field-0.0 = search rules in
    let i = c.loop-step.invariant in
    let line = g.A.Answers.line c.args.answers.now in
    let code = code_in c.args.lead.now.query in
    let t = c.turn.new.self in
    let go = c.in-Ok.ensures.goes in
    let d = subst (IsStep t.worker.post t.query) c.in-Answer.is c.in-Ok.ensures.step in
    let x = at-answer t go.leads d in
    let m = alone line code p q c.args.bounds.budget _ _ _ t.worker.post t.query x.0 x.2 (stepped line code p q c.args.bounds.budget _ _ _ c.outcome_law.ensures c.loop-step.lead t i.code go (i.found p q good h)) in
    one-lost line code p q c.args.bounds.budget c.solving_law.ensures c.outcome_law.ensures c.block_law.ensures (λ x y. g.met.A.Answers.names c.args.answers.now x y) good c.args.bounds.limit _ _ _ (section_in t.query) m i.short x.3 _
    c.put_answer.result _ c.in_err-put_answer-in-Answer.field-0.0 c.in_err-put_answer-in-Answer.was same c.put_answer.ensures.lines

pub returns-then-count-bounds-clause-lines : goal.returns-then-count-bounds-clause-lines
returns-then-count-bounds-clause-lines g c = λ p q good h.
    let i = c.loop-step.invariant in
    let line = g.A.Answers.line c.args.answers.now in
    let code = code_in c.args.lead.now.query in
    let t = c.turn.new.self in
    let go = c.in-Ok.ensures.goes in
    let d = subst (IsStep t.worker.post t.query) c.in-Answer.is c.in-Ok.ensures.step in
    let x = at-answer t go.leads d in
    let m = alone line code p q c.args.bounds.budget _ _ _ t.worker.post t.query x.0 x.2 (stepped line code p q c.args.bounds.budget _ _ _ c.outcome_law.ensures c.loop-step.lead t i.code go (i.found p q good h)) in
    at-limit line code p q c.args.bounds.budget c.solving_law.ensures c.outcome_law.ensures c.block_law.ensures (λ x y. g.met.A.Answers.names c.args.answers.now x y) good c.args.bounds.limit _ _ _ _
    (one-more line code p q c.args.bounds.budget c.solving_law.ensures c.outcome_law.ensures c.block_law.ensures (λ x y. g.met.A.Answers.names c.args.answers.now x y) good c.args.bounds.limit _ _ _ (section_in t.query) m i.short x.3 _ c.in_ok-put_answer-in-Answer.ensures.lines)
    c.if-count-bounds.true

pub returns-in-Ended-clause-charged : goal.returns-in-Ended-clause-charged
returns-in-Ended-clause-charged g c = λ p q good h.
    let i = c.loop-step.invariant in
    let line = g.A.Answers.line c.args.answers.now in
    let code = code_in c.args.lead.now.query in
    let t = c.turn.new.self in
    let go = c.in-Ok.ensures.goes in
    let d = subst (IsStep t.worker.post t.query) c.in-Ended.is c.in-Ok.ensures.step in
    charged-at-ending line code p q c.args.bounds.budget c.outcome_law.ensures c.block_law.ensures (λ x y. g.met.A.Answers.names c.args.answers.now x y) good c.args.bounds.limit _ _ _ t.worker.post t.query c.in-Ended.ending c.ended.result (go.code ∙ i.code) d i.short
    c.ended.ensures.end (c.ended.ensures.charged ∙ ap (λ n. charge_after c.in-Ended.ending n c.args.bounds.budget) (c.spent.ensures t.worker.post))
    (stepped line code p q c.args.bounds.budget _ _ _ c.outcome_law.ensures c.loop-step.lead t i.code go (i.found p q good h))

pub returns-then-count-bounds-clause-charged : goal.returns-then-count-bounds-clause-charged
returns-then-count-bounds-clause-charged g c = λ p q good h.
    let i = c.loop-step.invariant in
    let line = g.A.Answers.line c.args.answers.now in
    let code = code_in c.args.lead.now.query in
    let t = c.turn.new.self in
    let go = c.in-Ok.ensures.goes in
    let d = subst (IsStep t.worker.post t.query) c.in-Answer.is c.in-Ok.ensures.step in
    let x = at-answer t go.leads d in
    let e = c.in_ok-put_answer-in-Answer.ensures in
    let m = alone line code p q c.args.bounds.budget _ _ _ t.worker.post t.query x.0 x.2 (stepped line code p q c.args.bounds.budget _ _ _ c.outcome_law.ensures c.loop-step.lead t i.code go (i.found p q good h)) in
    let u = c.put_answer.new.query in
    let before = x.0 in
    let kept = e.same.1 in
    let outer : u.outer.items ≡ [] = cc in
    charged-at-limit line code p q c.args.bounds.budget c.outcome_law.ensures c.block_law.ensures (λ x y. g.met.A.Answers.names c.args.answers.now x y) good c.args.bounds.limit _ _ _ (past_answer (section_in t.query))
    (one-more line code p q c.args.bounds.budget c.solving_law.ensures c.outcome_law.ensures c.block_law.ensures (λ x y. g.met.A.Answers.names c.args.answers.now x y) good c.args.bounds.limit _ _ _ (section_in t.query) m i.short x.3 _ e.lines)
    c.spent-then-count-bounds.result (c.spent-then-count-bounds.ensures t.worker.post ∙ spent-alone t.worker.post u outer ∙ ap spent_in e.past) c.if-count-bounds.true

pub returns-in-Ended-clause-paid : goal.returns-in-Ended-clause-paid
returns-in-Ended-clause-paid g c = λ p q good h k.
    let i = c.loop-step.invariant in
    let line = g.A.Answers.line c.args.answers.now in
    let code = code_in c.args.lead.now.query in
    let t = c.turn.new.self in
    let go = c.in-Ok.ensures.goes in
    let d = subst (IsStep t.worker.post t.query) c.in-Ended.is c.in-Ok.ensures.step in
    let found = i.found p q good h in
    let then = stepped line code p q c.args.bounds.budget _ _ _ c.outcome_law.ensures c.loop-step.lead t i.code go found in
    paid-at-ending code p q c.args.bounds.budget _ t.worker.post t.query c.in-Ended.ending c.ended.result.charged (omega arith) (go.code ∙ i.code) d
    (c.ended.ensures.charged ∙ ap (λ n. charge_after c.in-Ended.ending n c.args.bounds.budget) (c.spent.ensures t.worker.post)) then.solves
    (paid-on code p q c.args.bounds.budget _ c.loop-step.lead t i.code go found.solves (i.counts p q good h k))

pub returns-then-count-bounds-clause-paid : goal.returns-then-count-bounds-clause-paid
returns-then-count-bounds-clause-paid g c = λ p q good h k.
    let i = c.loop-step.invariant in
    let code = code_in c.args.lead.now.query in
    let t = c.turn.new.self in
    let go = c.in-Ok.ensures.goes in
    let d = subst (IsStep t.worker.post t.query) c.in-Answer.is c.in-Ok.ensures.step in
    let x = at-answer t go.leads d in
    let e = c.in_ok-put_answer-in-Answer.ensures in
    let u = c.put_answer.new.query in
    let before = x.0 in
    let kept = e.same.1 in
    let outer : u.outer.items ≡ [] = cc in
    paid-at-limit t.worker.post u c.args.bounds.budget c.spent-then-count-bounds.result (omega arith) (c.spent-then-count-bounds.ensures t.worker.post)
    (past-counts c.args.bounds.budget t.query u (outer ∙ sym before) e.past c.put_answer.ensures.share (paid-on code p q c.args.bounds.budget _ c.loop-step.lead t i.code go (i.found p q good h).solves (i.counts p q good h k)))

pub returns-in-Ended-clause-exact : goal.returns-in-Ended-clause-exact
returns-in-Ended-clause-exact g c = λ p q good h plain calls k none.
    let i = c.loop-step.invariant in
    let line = g.A.Answers.line c.args.answers.now in
    let code = code_in c.args.lead.now.query in
    let t = c.turn.new.self in
    let go = c.in-Ok.ensures.goes in
    let then = stepped line code p q c.args.bounds.budget _ _ _ c.outcome_law.ensures c.loop-step.lead t i.code go (i.found p q good h) in
    let lone = (c.in-Ok.ensures.alone (i.alone p q good h plain calls k) (frameless code p q c.args.bounds.budget t.worker.post t.query then.given plain calls then.solves)).0 in
    (no-more t.worker.post t.query c.spent.result c.ended.result.charged (c.spent.ensures t.worker.post) (subst (λ n. c.spent.result ≤ n) (sym c.ended.ensures.charged) (charge-least c.in-Ended.ending c.spent.result c.args.bounds.budget)) lone.query, lone.taken)

pub returns-then-count-bounds-clause-exact : goal.returns-then-count-bounds-clause-exact
returns-then-count-bounds-clause-exact g c = λ p q good h plain calls k none.
    let i = c.loop-step.invariant in
    let line = g.A.Answers.line c.args.answers.now in
    let code = code_in c.args.lead.now.query in
    let t = c.turn.new.self in
    let go = c.in-Ok.ensures.goes in
    let then = stepped line code p q c.args.bounds.budget _ _ _ c.outcome_law.ensures c.loop-step.lead t i.code go (i.found p q good h) in
    let lone = (c.in-Ok.ensures.alone (i.alone p q good h plain calls k) (frameless code p q c.args.bounds.budget t.worker.post t.query then.given plain calls then.solves)).0 in
    let e = c.in_ok-put_answer-in-Answer.ensures in
    let u = c.put_answer.new.query in
    let kept = e.same.1 in
    let outer : u.outer.items ≡ t.query.outer.items = cc in
    (no-more t.worker.post u c.spent-then-count-bounds.result c.spent-then-count-bounds.result (c.spent-then-count-bounds.ensures t.worker.post) (omega arith) (past-lone t.query u outer e.same.4 c.put_answer.ensures.share e.past lone.query), lone.taken)

pub loop-step-preserved : goal.loop-step-preserved
loop-step-preserved g c =
    let i = c.loop-step.invariant in
    let line = g.A.Answers.line c.args.answers.now in
    let code = code_in c.args.lead.now.query in
    let t = c.turn.new.self in
    let go = c.in-Ok.ensures.goes in
    let first = g.K.Sink.pieces c.args.out.now in
    elim c.match-step.branch [
      | in-Answer+in_ok-put_answer-in-Answer+else-count-bounds w ↦
          let d = subst (IsStep t.worker.post t.query) w.in-Answer.is c.in-Ok.ensures.step in
          let x = at-answer t go.leads d in
          let e = w.in_ok-put_answer-in-Answer.ensures in
          let s : Lead = record { worker = t.worker; query = w.put_answer.new.query } in
          let before = x.0 in
          let kept = e.same.1 in
          let outer : s.query.outer.items ≡ [] = cc in
          let none = subst (λ f. posted_in t.worker.post f ≡ []) (sym e.same.2) x.2 in
          let other = w.if-count-bounds.false in
          record {
            leads = subst IsLeading (sym w.lead-is) (record {
              staffed = go.leads.staffed;
              good = e.good t.worker.post go.leads.good x.1;
              above = λ some. subst (λ f. f < t.worker.floor) (sym e.same.2) (go.leads.above some);
            });
            code = subst (λ (l : Lead). code_in l.query ≡ code) (sym w.lead-is) (e.same.0 ∙ go.code ∙ i.code);
            short = subst (λ n. n < c.args.bounds.limit) (sym w.count-is) (let l = i.short in omega arith);
            faults = ap g.K.Sink.faults w.out-is ∙ e.count ∙ i.faults;
            found = λ p q good h.
                let m = alone line code p q c.args.bounds.budget _ _ _ t.worker.post t.query x.0 x.2 (stepped line code p q c.args.bounds.budget _ _ _ c.outcome_law.ensures c.loop-step.lead t i.code go (i.found p q good h)) in
                let more = one-more line code p q c.args.bounds.budget c.solving_law.ensures c.outcome_law.ensures c.block_law.ensures (λ x y. g.met.A.Answers.names c.args.answers.now x y) good c.args.bounds.limit _ _ _ (section_in t.query) m i.short x.3 _ e.lines in
                subst (λ (l : Lead). FindingBy line code p q c.args.bounds.budget c.match-step.count first (g.K.Sink.pieces c.match-step.out) l.worker.post l.query) (sym w.lead-is)
                (subst (λ k. FindingBy line code p q c.args.bounds.budget c.match-step.count first (g.K.Sink.pieces k) s.worker.post s.query) (sym w.out-is)
                (subst (λ n. FindingBy line code p q c.args.bounds.budget n first (g.K.Sink.pieces w.put_answer.new.out) s.worker.post s.query) (sym w.count-is)
                (not-alone line code p q c.args.bounds.budget _ _ _ s.worker.post s.query _ outer none e.past more)));
            counts = λ p q good h k.
                subst (λ (l : Lead). Counts c.args.bounds.budget l.query) (sym w.lead-is)
                (past-counts c.args.bounds.budget t.query s.query (outer ∙ sym before) e.past w.put_answer.ensures.share (paid-on code p q c.args.bounds.budget _ c.loop-step.lead t i.code go (i.found p q good h).solves (i.counts p q good h k)));
            alone = λ p q good h plain calls k.
                let then = stepped line code p q c.args.bounds.budget _ _ _ c.outcome_law.ensures c.loop-step.lead t i.code go (i.found p q good h) in
                let lone = (c.in-Ok.ensures.alone (i.alone p q good h plain calls k) (frameless code p q c.args.bounds.budget t.worker.post t.query then.given plain calls then.solves)).0 in
                subst IsAlone (sym w.lead-is) (record { query = past-lone t.query s.query (outer ∙ sym before) e.same.4 w.put_answer.ensures.share e.past lone.query; taken = lone.taken });
          }
      | in_default-step w ↦ record {
        leads = subst IsLeading (sym w.lead-is) go.leads;
        code = subst (λ (l : Lead). code_in l.query ≡ code) (sym w.lead-is) (go.code ∙ i.code);
        short = subst (λ n. n < c.args.bounds.limit) (sym w.count-is) i.short;
        faults = ap g.K.Sink.faults w.out-is ∙ i.faults;
        found = λ p q good h.
            subst (λ (l : Lead). FindingBy line code p q c.args.bounds.budget c.match-step.count first (g.K.Sink.pieces c.match-step.out) l.worker.post l.query) (sym w.lead-is)
            (subst (λ k. FindingBy line code p q c.args.bounds.budget c.match-step.count first (g.K.Sink.pieces k) t.worker.post t.query) (sym w.out-is)
            (subst (λ n. FindingBy line code p q c.args.bounds.budget n first (g.K.Sink.pieces c.loop-step.out) t.worker.post t.query) (sym w.count-is)
            (stepped line code p q c.args.bounds.budget _ _ _ c.outcome_law.ensures c.loop-step.lead t i.code go (i.found p q good h))));
        counts = λ p q good h k.
            subst (λ (l : Lead). Counts c.args.bounds.budget l.query) (sym w.lead-is) (paid-on code p q c.args.bounds.budget _ c.loop-step.lead t i.code go (i.found p q good h).solves (i.counts p q good h k));
        alone = λ p q good h plain calls k.
            let then = stepped line code p q c.args.bounds.budget _ _ _ c.outcome_law.ensures c.loop-step.lead t i.code go (i.found p q good h) in
            subst IsAlone (sym w.lead-is) (c.in-Ok.ensures.alone (i.alone p q good h plain calls k) (frameless code p q c.args.bounds.budget t.worker.post t.query then.given plain calls then.solves)).0;
      }
    ]

pub returns-clause-lines : goal.returns-clause-lines
returns-clause-lines g c = λ p q good h.
    let i = c.loop-step.invariant in
    broken-off (g.A.Answers.line c.args.answers.now) (code_in c.args.lead.now.query) p q c.args.bounds.budget c.solving_law.ensures c.outcome_law.ensures c.block_law.ensures (λ x y. g.met.A.Answers.names c.args.answers.now x y) good c.args.bounds.limit _ _ _ _ _ _ (i.found p q good h) (let s = i.short in omega arith)
