use Rattle.std.proofs.Common.{◌≡◌, true, false, refl, rules}
use Rattle.ap_worker.specs.declared.lead.Lead.{Lead}
use Rattle.ap_worker.specs.Leads.{LeadGoes, LeadStays}
use Rattle.ap_worker.proofs.Leading.{worked-stays, stays-then, stays-goes, query-goes, goes-then-stays}
use Rattle.ap_worker.proofs.lead.Lead.step.Goals as goal

pub returns-then-work-clause-goes : goal.returns-then-work-clause-goes
returns-then-work-clause-goes g c =
    let busy : c.is_free.result ≡ false = search rules in
    stays-goes c.sharing_law.ensures c.args.self.now _ (worked-stays c.args.self.now _ (c.is_free.ensures.some busy) c.work.ensures.goes refl c.requires.leads)

pub help-requires-clause-leads : goal.help-requires-clause-leads
help-requires-clause-leads g c κs within =
    let busy : c.is_free.result ≡ false = search rules in
    let stays : LeadStays c.args.self.now (record { worker = c.work.new.self; query = c.args.self.now.query }) =
    worked-stays c.args.self.now _ (c.is_free.ensures.some busy) c.work.ensures.goes refl c.requires.leads in
    stays.leads

pub returns-then-not-is_free-clause-goes : goal.returns-then-not-is_free-clause-goes
returns-then-not-is_free-clause-goes g c =
    let busy : c.is_free.result ≡ false = search rules in
    let stays : LeadStays c.args.self.now (record { worker = c.work.new.self; query = c.args.self.now.query }) =
    worked-stays c.args.self.now _ (c.is_free.ensures.some busy) c.work.ensures.goes refl c.requires.leads in
    stays-goes c.sharing_law.ensures c.args.self.now _ (stays-then c.args.self.now _ _ stays c.help.ensures.stays)

pub returns-in-Waits-clause-goes : goal.returns-in-Waits-clause-goes
returns-in-Waits-clause-goes g c =
    let free : c.is_free.result ≡ true = search rules in
    let gone : LeadGoes c.args.self.now (record { worker = record { post = c.step.new.post; taken = c.args.self.now.worker.taken; floor = c.args.self.now.worker.floor }; query = c.step.new.self }) =
    query-goes c.args.self.now _ (c.is_free.ensures.free free) refl refl c.step.ensures.goes c.requires.leads in
    goes-then-stays c.args.self.now _ _ gone c.help-in-Waits.ensures.stays
