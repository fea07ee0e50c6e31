use Rattle.std.proofs.Common.{◌≡◌, [], sym, ap, ◌∙◌, subst, arith}
use Rattle.ap_section.specs.Views.{spent_in, view_of}
use Rattle.ap_post.specs.Posts.{posted_in}
use Rattle.ap_worker.specs.declared.lead.Lead.{Lead}
use Rattle.ap_worker.proofs.Exact.{begun-lone}
use Rattle.ap_worker.proofs.Idle.{idle-leads}
use Rattle.ap_worker.proofs.solving.leading.Goals as goal

pub returns-clause-leads : goal.returns-clause-leads
returns-clause-leads c =
    let v = c.args.worker in
    let p = c.number.new.self in
    let idle = c.requires.idle in
    let number = c.in_ok-frame.ensures in
    let counts = number.number in
    let is = counts.0 in
    let up = counts.1 in
    let made = c.new-query.ensures in
    let l : Lead = record { worker = record v { post = p }; query = c.new-query.result } in
    idle-leads l idle.taken (number.jobs.jobs ∙ idle.new.jobs) idle.floor (made.good p c.requires.ready number.none (omega arith))

pub returns-clause-alone : goal.returns-clause-alone
returns-clause-alone c =
    let made = c.new-query.ensures in
    (made.alone, subst (λ f. posted_in c.number.new.self f ≡ []) (sym made.number.1) c.in_ok-frame.ensures.none)

pub returns-clause-query : goal.returns-clause-query
returns-clause-query c = (c.new-query.ensures.sound, ap view_of c.new-query.ensures.newest)

pub returns-clause-lone : goal.returns-clause-lone
returns-clause-lone c = λ none.
    let made = c.new-query.ensures in record {
      query = begun-lone c.new-query.result made.alone made.number.2 made.share (ap (λ s. spent_in (view_of s)) made.newest ∙ none);
      taken = c.requires.idle.taken;
    }
