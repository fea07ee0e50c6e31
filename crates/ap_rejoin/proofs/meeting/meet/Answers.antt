use Rattle.std.proofs.Common.{◌≡◌, length, sym, ◌∙◌, arith}
use Rattle.ap_term.specs.Tree.{count_trees}
use Rattle.ap_term.specs.Substitution.{shift}
use Rattle.ap_cells.specs.Trees.{trees}
use Rattle.ap_cells.proofs.Stores.{Keeps-trans}
use Rattle.ap_rejoin.proofs.Fitting.{other-count, still-inside, counted, grown, meets}
use Rattle.ap_rejoin.proofs.Narrowing.{copied-new, narrowed}
use Rattle.ap_rejoin.proofs.meeting.meet.Goals as goal

pub returns-then-places-len-clause-answered : goal.returns-then-places-len-clause-answered
returns-then-places-len-clause-answered c = other-count c.args.cells.now.cells c.args.places.now c.args.answer.now (λ q. c.if-places-len.true (q ∙ sym c.len.ensures))

pub bind_unbound-requires-clause-inside : goal.bind_unbound-requires-clause-inside
bind_unbound-requires-clause-inside c =
    let old = c.args.cells.now.cells in
    let mid = c.copy_in.new.cells.cells in
    still-inside (length old) (length mid) (grown old mid c.copy_in.ensures.before) c.args.places.now c.requires

pub bind_unbound-requires-clause-behind : goal.bind_unbound-requires-clause-behind
bind_unbound-requires-clause-behind c =
    let r = c.in_ok-roots.roots in
    let n : r.count ≡ count_trees c.args.answer.now =
    counted (trees c.copy_in.new.cells.cells) r.first r.count (shift (length c.args.cells.now.cells)) c.args.answer.now c.in_ok-roots.ensures.tuple in
    omega (arith, n, c.in_ok-roots.ensures.inside, c.if-places-len.false, c.len.ensures)

pub bind_unbound-requires-clause-fresh : goal.bind_unbound-requires-clause-fresh
bind_unbound-requires-clause-fresh c =
    let r = c.in_ok-roots.roots in
    let ts = trees c.copy_in.new.cells.cells in
    let n : r.count ≡ count_trees c.args.answer.now = counted ts r.first r.count (shift (length c.args.cells.now.cells)) c.args.answer.now c.in_ok-roots.ensures.tuple in
    let many : length c.args.places.now ≡ r.count = c.if-places-len.false ∙ c.len.ensures ∙ sym n in
    rw c.len-base.ensures.place (copied-new ts (length c.args.cells.now.cells) r.first r.count (length c.args.places.now) c.args.answer.now c.in_ok-roots.ensures.tuple many)

pub equate_all-requires-clause-inside : goal.equate_all-requires-clause-inside
equate_all-requires-clause-inside c =
    let old = c.args.cells.now.cells in
    let mid = c.copy_in.new.cells.cells in
    let l = grown old mid c.copy_in.ensures.before in
    still-inside (length old) (length c.bind_unbound.new.cells.cells) (omega (arith, l, c.bind_unbound.ensures.narrows.len)) c.args.places.now c.requires

pub equate_all-requires-clause-behind : goal.equate_all-requires-clause-behind
equate_all-requires-clause-behind c =
    let r = c.in_ok-roots.roots in
    let n : r.count ≡ count_trees c.args.answer.now =
    counted (trees c.copy_in.new.cells.cells) r.first r.count (shift (length c.args.cells.now.cells)) c.args.answer.now c.in_ok-roots.ensures.tuple in
    omega (arith, n, c.in_ok-roots.ensures.inside, c.if-places-len.false, c.len.ensures, c.bind_unbound.ensures.narrows.len)

pub returns-in_err-met-clause-keeps : goal.returns-in_err-met-clause-keeps
returns-in_err-met-clause-keeps c =
    Keeps-trans c.args.cells.now c.copy_in.new.cells c.equate_all.new.cells c.copy_in.ensures.keeps
    (Keeps-trans c.copy_in.new.cells c.bind_unbound.new.cells c.equate_all.new.cells c.bind_unbound.ensures.keeps c.equate_all.ensures.keeps)

pub returns-clause-answered : goal.returns-clause-answered
returns-clause-answered c =
    let r = c.in_ok-roots.roots in
    let n : r.count ≡ count_trees c.args.answer.now =
    counted (trees c.copy_in.new.cells.cells) r.first r.count (shift (length c.args.cells.now.cells)) c.args.answer.now c.in_ok-roots.ensures.tuple in
    let many : length c.args.places.now ≡ r.count = c.if-places-len.false ∙ c.len.ensures ∙ sym n in
    meets c.args.cells.now.cells c.copy_in.new.cells.cells c.args.cells.now.trail c.is_store.ensures r.first r.count c.args.answer.now
    c.copy_in.ensures.before c.in_ok-roots.ensures.tuple c.in_ok-roots.ensures.inside
    c.equate_all.new.cells.cells c.args.places.now many c.requires c.in_ok-met.met
    (narrowed c.copy_in.new.cells.cells c.bind_unbound.new.cells.cells c.equate_all.new.cells.cells c.args.places.now r.first c.bind_unbound.ensures.narrows c.in_ok-met.met c.in_ok-met.ensures.answered)

pub returns-clause-keeps : goal.returns-clause-keeps
returns-clause-keeps c =
    Keeps-trans c.args.cells.now c.copy_in.new.cells c.equate_all.new.cells c.copy_in.ensures.keeps
    (Keeps-trans c.copy_in.new.cells c.bind_unbound.new.cells c.equate_all.new.cells c.bind_unbound.ensures.keeps c.equate_all.ensures.keeps)
