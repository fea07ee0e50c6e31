use Rattle.std.proofs.Common.{rules, ◌<◌}
use Rattle.ap_section.specs.Views.{view_of}
use Rattle.ap_section.proofs.Emptied.{goes-same, empties}
use Rattle.ap_section.proofs.section.Section.drop_sections.Goals as goal

pub returns-then-is_empty-clause-goes : goal.returns-then-is_empty-clause-goes
returns-then-is_empty-clause-goes c = λ code. goes-same code (view_of c.args.self.now)

pub returns-then-not-is_over-clause-goes : goal.returns-then-not-is_over-clause-goes
returns-then-not-is_over-clause-goes c = λ code. goes-same code (view_of c.args.self.now)

pub returns-clause-goes : goal.returns-clause-goes
returns-clause-goes c =
    let a = c.is_empty.ensures in
    let b = c.if-is_empty.false in
    let e = c.len-newest.ensures in
    let some : 0 < c.len-newest.result = search rules in
    (empties c.settling_law.ensures c.args.self.now c.len-newest.result c.index_mut.result.now c.index.result.now c.empty_frame.new.frame c.len-newest.ensures some c.index_mut.ensures.value c.index.ensures
    (c.is_over.ensures.over c.if-not-is_over.false) c.empty_frame.ensures).goes

pub returns-clause-ready : goal.returns-clause-ready
returns-clause-ready c =
    let a = c.is_empty.ensures in
    let b = c.if-is_empty.false in
    let e = c.len-newest.ensures in
    let some : 0 < c.len-newest.result = search rules in
    (empties c.settling_law.ensures c.args.self.now c.len-newest.result c.index_mut.result.now c.index.result.now c.empty_frame.new.frame c.len-newest.ensures some c.index_mut.ensures.value c.index.ensures
    (c.is_over.ensures.over c.if-not-is_over.false) c.empty_frame.ensures).ready

pub returns-clause-owes : goal.returns-clause-owes
returns-clause-owes c =
    let a = c.is_empty.ensures in
    let b = c.if-is_empty.false in
    let e = c.len-newest.ensures in
    let some : 0 < c.len-newest.result = search rules in
    (empties c.settling_law.ensures c.args.self.now c.len-newest.result c.index_mut.result.now c.index.result.now c.empty_frame.new.frame c.len-newest.ensures some c.index_mut.ensures.value c.index.ensures
    (c.is_over.ensures.over c.if-not-is_over.false) c.empty_frame.ensures).owes
