use Rattle.std.proofs.Common.{subst}
use Rattle.ap_codegen.specs.Relocated.{Change, Known, change_of, known_by, Forgets, AreKept}
use Rattle.ap_codegen.proofs.RelocatedReads.{forgets_more}
use Rattle.ap_codegen.proofs.WalkedWays.{kept_forgets, kept_turn}
use Rattle.ap_codegen.proofs.relocating.Walk.part.Goals as goal

pub returns : goal.returns
returns c t cs a =
    let here : Change = change_of c.args.change.now in
    let k : Known = known_by c.args.self.now.numbers in
    let m : Known = known_by c.meet.new.self.numbers in
    let j : Known = known_by c.settle.new.self in
    let g : Forgets m j = c.in_ok-settle.ensures.forgets in
    let f : Forgets k j = forgets_more k m j (c.meet.ensures.known c.if-not-meet.false) g in
    let there : AreKept c.over-n.result j cs = subst (λ k. AreKept c.over-n.result k cs) c.in_ok-copied.ensures a.1 in (
      kept_turn here cs k j c.requires f c.in_ok-settle.ensures.single (c.accepts.ensures t) a.0 (subst (λ n. AreKept n j cs) c.over-n.ensures there),
      c.meet.ensures.way c.if-not-meet.false here cs (kept_forgets c.over-n.result cs m j g there),
    )
