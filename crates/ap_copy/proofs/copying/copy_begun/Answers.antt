use Rattle.std.proofs.Common.{length, refl, sym, ◌∙◌, subst, arith}
use Rattle.std.proofs.lemmas.List.{nil_from_length}
use Rattle.ap_term.specs.Tree.{node}
use Rattle.ap_cells.specs.Trees.{trees, span}
use Rattle.ap_cells.proofs.Rounds.{trees-length}
use Rattle.ap_copy.specs.Memory.{Remembers}
use Rattle.ap_copy.proofs.Memories.{remembers-settled}
use Rattle.ap_copy.proofs.Steps.{going-start, going-copied, going-begun, settled, going-settled, going-done, going-enough, going-known, less-copied, less-begun, less-ended}
use Rattle.ap_copy.proofs.copying.copy_begun.Goals as goal

pub loop-frame-init : goal.loop-frame-init
loop-frame-init c =
    let ts = trees c.args.cells.now.cells in
    let z = trees-length c.args.cells.now.cells in
    let i = c.requires.inside in
    record {
      going = going-start ts c.args.marks.now (node c.args.begun.name (span ts c.args.begun.first c.args.begun.count)) c.args.copying.now.block.items c.args.copying.now.loose.items c.args.copying.now.frames.items c.args.begun c.requires.idle
          (refl, omega arith, c.requires.none) c.requires.block;
      memory = c.requires.memory;
    }

pub overflow_add-frame : goal.overflow_add-frame
overflow_add-frame c =
    let i = c.loop-frame.invariant.going.inside in
    let z = trees-length c.args.cells.now.cells in
    let f = c.len-places.ensures.few in
    let h = c.if-frame.true in
    omega arith

pub begin-requires-clause-inside : goal.begin-requires-clause-inside
begin-requires-clause-inside c =
    let i = c.loop-frame.invariant.going.inside in
    let z = trees-length c.args.cells.now.cells in
    let h = c.if-frame.true in
    omega arith

pub loop-frame-smaller-in-Copied : goal.loop-frame-smaller-in-Copied
loop-frame-smaller-in-Copied c = less-copied (trees c.args.cells.now.cells) c.loop-frame.copying.frames.items c.loop-frame.frame c.if-frame.true

pub loop-frame-preserved-in-Copied : goal.loop-frame-preserved-in-Copied
loop-frame-preserved-in-Copied c =
    let ts = trees c.args.cells.now.cells in
    let ks = c.args.marks.now in
    let root = node c.args.begun.name (span ts c.args.begun.first c.args.begun.count) in
    let old = c.args.copying.now.block.items in
    let before = c.args.copying.now.loose.items in
    let frames = c.loop-frame.copying.frames.items in
    let loose = c.loop-frame.copying.loose.items in
    let block = c.loop-frame.copying.block.items in
    let g = c.loop-frame.invariant.going in
    let m = c.loop-frame.invariant.memory in
    record {
      going = rw c.in_ok-put-in-Copied.ensures (going-copied ts ks root old before frames c.loop-frame.frame loose block c.in-Copied.cell c.if-frame.true (c.in-Copied.ensures.begun block g.is_block m) g);
      memory = subst (Remembers ts ks block) (sym c.in-Copied.ensures.memory) m;
    }

pub loop-frame-smaller-in-Term : goal.loop-frame-smaller-in-Term
loop-frame-smaller-in-Term c =
    let ts = trees c.args.cells.now.cells in
    let block = c.loop-frame.copying.block.items in
    let b = c.in-Term.ensures.begun block c.loop-frame.invariant.going.is_block c.loop-frame.invariant.memory in
    rw c.in_ok-wait-in-Term.ensures (less-begun ts c.loop-frame.copying.frames.items c.loop-frame.frame c.in-Term.inner c.if-frame.true b)

pub loop-frame-preserved-in-Term : goal.loop-frame-preserved-in-Term
loop-frame-preserved-in-Term c =
    let ts = trees c.args.cells.now.cells in
    let ks = c.args.marks.now in
    let root = node c.args.begun.name (span ts c.args.begun.first c.args.begun.count) in
    let old = c.args.copying.now.block.items in
    let before = c.args.copying.now.loose.items in
    let frames = c.loop-frame.copying.frames.items in
    let loose = c.loop-frame.copying.loose.items in
    let block = c.loop-frame.copying.block.items in
    let g = c.loop-frame.invariant.going in
    let m = c.loop-frame.invariant.memory in
    record {
      going = rw c.in_ok-wait-in-Term.ensures (going-begun ts ks root old before frames c.loop-frame.frame c.in-Term.inner loose block c.if-frame.true (c.in-Term.ensures.begun block g.is_block m) g);
      memory = subst (Remembers ts ks block) (sym c.in-Term.ensures.memory) m;
    }

pub returns-in-Unknown-clause-unknown : goal.returns-in-Unknown-clause-unknown
returns-in-Unknown-clause-unknown c q k =
    let ts = trees c.args.cells.now.cells in
    let root = node c.args.begun.name (span ts c.args.begun.first c.args.begun.count) in
    let g = c.loop-frame.invariant.going in
    c.in-Unknown.ensures.begun c.loop-frame.copying.block.items g.is_block c.loop-frame.invariant.memory
    (going-known ts c.args.marks.now root c.args.copying.now.block.items c.args.copying.now.loose.items c.loop-frame.copying.frames.items c.loop-frame.frame c.loop-frame.copying.loose.items c.loop-frame.copying.block.items c.if-frame.true g k)

pub end_term-requires-clause-enough : goal.end_term-requires-clause-enough
end_term-requires-clause-enough c =
    let ts = trees c.args.cells.now.cells in
    let root = node c.args.begun.name (span ts c.args.begun.first c.args.begun.count) in
    let g = c.loop-frame.invariant.going in
    going-enough ts c.args.marks.now root c.args.copying.now.block.items c.args.copying.now.loose.items c.loop-frame.copying.frames.items c.loop-frame.frame c.loop-frame.copying.loose.items c.loop-frame.copying.block.items (omega (arith, g.part, c.if-frame.false)) g

pub end_term-requires-clause-few : goal.end_term-requires-clause-few
end_term-requires-clause-few c = c.loop-frame.invariant.going.is_block.few

pub overflow_add-frame-in-Some : goal.overflow_add-frame-in-Some
overflow_add-frame-in-Some c =
    let ts = trees c.args.cells.now.cells in
    let ks = c.args.marks.now in
    let root = node c.args.begun.name (span ts c.args.begun.first c.args.begun.count) in
    let old = c.args.copying.now.block.items in
    let before = c.args.copying.now.loose.items in
    let frames = c.loop-frame.copying.frames.items in
    let block = c.loop-frame.copying.block.items in
    let g = c.loop-frame.invariant.going in
    let s = settled ts ks root old before frames c.loop-frame.frame c.loop-frame.copying.loose.items block c.end_term.new.copying.loose.items c.end_term.new.copying.block.items
    (omega (arith, g.part, c.if-frame.false)) c.in_ok-cell.ensures.loose c.in_ok-cell.ensures.block c.in_ok-cell.ensures.few g in
    let p = (going-settled ts ks root old before frames c.pop.new.self.items c.in-Some.outer c.loop-frame.frame c.end_term.new.copying.loose.items block c.end_term.new.copying.block.items (sym c.in_ok-cell.ensures.frames ∙ c.in-Some.ensures.items) s).part in
    omega arith

pub loop-frame-smaller : goal.loop-frame-smaller
loop-frame-smaller c = less-ended (trees c.args.cells.now.cells) c.loop-frame.copying.frames.items c.pop.new.self.items c.in-Some.outer c.loop-frame.frame (sym c.in_ok-cell.ensures.frames ∙ c.in-Some.ensures.items)

pub loop-frame-preserved : goal.loop-frame-preserved
loop-frame-preserved c =
    let ts = trees c.args.cells.now.cells in
    let ks = c.args.marks.now in
    let root = node c.args.begun.name (span ts c.args.begun.first c.args.begun.count) in
    let old = c.args.copying.now.block.items in
    let before = c.args.copying.now.loose.items in
    let frames = c.loop-frame.copying.frames.items in
    let block = c.loop-frame.copying.block.items in
    let g = c.loop-frame.invariant.going in
    let s = settled ts ks root old before frames c.loop-frame.frame c.loop-frame.copying.loose.items block c.end_term.new.copying.loose.items c.end_term.new.copying.block.items
    (omega (arith, g.part, c.if-frame.false)) c.in_ok-cell.ensures.loose c.in_ok-cell.ensures.block c.in_ok-cell.ensures.few g in
    record {
      going = rw (c.in_ok-put.ensures, c.in_ok-cell.ensures.cell) (going-settled ts ks root old before frames c.pop.new.self.items c.in-Some.outer c.loop-frame.frame c.end_term.new.copying.loose.items block c.end_term.new.copying.block.items (sym c.in_ok-cell.ensures.frames ∙ c.in-Some.ensures.items) s);
      memory = remembers-settled ts ks c.loop-frame.frame block c.end_term.new.copying.block.items c.loop-frame.memory.entries.items c.end_term.new.memory.entries.items (length block) refl s.grown s.placed c.in_ok-cell.ensures.memory c.loop-frame.invariant.memory;
    }

pub returns-in-None-clause-copied : goal.returns-in-None-clause-copied
returns-in-None-clause-copied c q =
    let ts = trees c.args.cells.now.cells in
    let ks = c.args.marks.now in
    let root = node c.args.begun.name (span ts c.args.begun.first c.args.begun.count) in
    let old = c.args.copying.now.block.items in
    let before = c.args.copying.now.loose.items in
    let frames = c.loop-frame.copying.frames.items in
    let block = c.loop-frame.copying.block.items in
    let g = c.loop-frame.invariant.going in
    let s = settled ts ks root old before frames c.loop-frame.frame c.loop-frame.copying.loose.items block c.end_term.new.copying.loose.items c.end_term.new.copying.block.items
    (omega (arith, g.part, c.if-frame.false)) c.in_ok-cell.ensures.loose c.in_ok-cell.ensures.block c.in_ok-cell.ensures.few g in
    let e = nil_from_length c.end_term.new.copying.frames.items (let k = c.in-None.ensures.cases.0 in omega arith) in
    rw (c.in_ok-put.ensures, c.in_ok-cell.ensures.cell) (going-done ts ks root old before frames c.loop-frame.frame c.end_term.new.copying.loose.items block c.end_term.new.copying.block.items (sym c.in_ok-cell.ensures.frames ∙ e) s)

pub returns-in-None-clause-block : goal.returns-in-None-clause-block
returns-in-None-clause-block c q =
    let ts = trees c.args.cells.now.cells in
    let ks = c.args.marks.now in
    let root = node c.args.begun.name (span ts c.args.begun.first c.args.begun.count) in
    let old = c.args.copying.now.block.items in
    let before = c.args.copying.now.loose.items in
    let frames = c.loop-frame.copying.frames.items in
    let block = c.loop-frame.copying.block.items in
    let g = c.loop-frame.invariant.going in
    let s = settled ts ks root old before frames c.loop-frame.frame c.loop-frame.copying.loose.items block c.end_term.new.copying.loose.items c.end_term.new.copying.block.items
    (omega (arith, g.part, c.if-frame.false)) c.in_ok-cell.ensures.loose c.in_ok-cell.ensures.block c.in_ok-cell.ensures.few g in
    s.is_block

pub returns-in-None-clause-memory : goal.returns-in-None-clause-memory
returns-in-None-clause-memory c q =
    let ts = trees c.args.cells.now.cells in
    let ks = c.args.marks.now in
    let root = node c.args.begun.name (span ts c.args.begun.first c.args.begun.count) in
    let old = c.args.copying.now.block.items in
    let before = c.args.copying.now.loose.items in
    let frames = c.loop-frame.copying.frames.items in
    let block = c.loop-frame.copying.block.items in
    let g = c.loop-frame.invariant.going in
    let s = settled ts ks root old before frames c.loop-frame.frame c.loop-frame.copying.loose.items block c.end_term.new.copying.loose.items c.end_term.new.copying.block.items
    (omega (arith, g.part, c.if-frame.false)) c.in_ok-cell.ensures.loose c.in_ok-cell.ensures.block c.in_ok-cell.ensures.few g in
    remembers-settled ts ks c.loop-frame.frame block c.end_term.new.copying.block.items c.loop-frame.memory.entries.items c.end_term.new.memory.entries.items (length block) refl s.grown s.placed c.in_ok-cell.ensures.memory c.loop-frame.invariant.memory
