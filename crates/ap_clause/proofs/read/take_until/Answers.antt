use Rattle.std.proofs.Common.{◌≡◌, ◌+◌, Ok, Some, IfSome, rules, length, ap, sym, subst, ◌∙◌, arith}
use Rattle.ap_lexer.specs.Piece.{line_at, pieces_behind}
use Rattle.ap_lexer.specs.Cutter.{place, left}
use Rattle.ap_reader.proofs.Tables.{extends-trans}
use Rattle.ap_clause.specs.Reads.{Reads, Whole}
use Rattle.ap_clause.specs.Verdict.{position, IsCounted, AreCounted, ReadsOn}
use Rattle.ap_clause.proofs.Reading.{one_more, stops, counted_more}
use Rattle.ap_clause.proofs.read.take_until.Goals as goal

pub loop-turn-init : goal.loop-turn-init
loop-turn-init c = record {
  text_is = c.behind-cutter.ensures.text;
  before_is = c.behind-cutter.ensures.before;
  stands = c.behind-cutter.ensures.stands;
  reads = λ whole e l. (
    c.behind-cutter.ensures.cuts whole e l,
    λ out h. subst (λ n. Reads whole (pieces_behind whole n) (position c.args.atoms.now c.args.counts.now) c.args.rules.now.items out) c.behind-cutter.ensures.place h,
  );
  counted = c.requires.counted;
  grows = search rules;
}

pub loop-turn-preserved : goal.loop-turn-preserved
loop-turn-preserved c =
    let inv = c.loop-turn.invariant in
    let cutter = c.loop-turn.cutter in
    let further = c.take_next.new.cutter in
    let old = c.loop-turn.atoms in
    let new = c.take_next.new.atoms in
    let read = c.in-Ok-Some.read in
    let items = c.in-Ok.ensures.items in
    let counted = subst (λ r. IfSome r (λ x. IsCounted c.loop-turn.counts x new)) c.in-Ok-Some.field-0-is c.in-Ok-Some.ensures.counted in
    record {
      text_is = c.in-Ok-Some.ensures.text ∙ inv.text_is;
      before_is = c.in-Ok-Some.ensures.before ∙ inv.before_is;
      stands = c.in-Ok-Some.ensures.stands;
      reads = λ whole e l.
          let before = inv.reads whole e l in
          let next : ReadsOn whole (left whole cutter) (left whole further) c.loop-turn.counts old new (Ok (Some read)) =
          subst (λ r. ReadsOn whole (left whole cutter) (left whole further) c.loop-turn.counts old new (Ok r)) c.in-Ok-Some.field-0-is (c.in-Ok-Some.ensures.next whole before.0) in (
            c.in-Ok-Some.ensures.cuts whole before.0,
            λ out h.
                before.1 out
                (one_more whole (left whole cutter) (left whole further) next.0 old new c.loop-turn.counts c.loop-turn.rules.items read next.1 next.2 out
                (subst (λ rs. Reads whole (left whole further) (position new read.counts) rs out) items h)),
          );
      counted = subst (λ rs. AreCounted rs read.counts new) (sym items) (counted_more c.loop-turn.rules.items c.loop-turn.counts read old new inv.counted counted);
      grows = extends-trans c.args.atoms.now old new inv.grows c.in-Ok-Some.ensures.grows;
    }

pub returns-then-until-gone-clause-reads : goal.returns-then-until-gone-clause-reads
returns-then-until-gone-clause-reads c = λ whole e l.
    let inv = c.loop-turn.invariant in
    let reads = inv.reads whole e l in
    let there : place c.loop-turn.cutter ≡ c.args.spot.at + c.gone-gone.result = omega (arith, c.gone-gone.ensures.place, inv.before_is) in (
      λ out h. reads.1 out (subst (λ n. Reads whole (pieces_behind whole n) (position c.loop-turn.atoms c.loop-turn.counts) c.loop-turn.rules.items out) (sym there) h),
      c.line.ensures ∙ reads.0.line_is ∙ ap (line_at whole) there,
    )

pub returns-then-until-gone-clause-there : goal.returns-then-until-gone-clause-there
returns-then-until-gone-clause-there c =
    let inv = c.loop-turn.invariant in
    let gone = c.gone-gone.ensures in
    record {
      further = omega (arith, c.if-until-gone.true);
      within = omega (arith, gone.within, ap length inv.text_is);
      line_low = omega (arith, gone.place, inv.before_is, c.line.ensures, inv.stands.line_low);
    }

pub returns-in-Ok-None-clause-reads : goal.returns-in-Ok-None-clause-reads
returns-in-Ok-None-clause-reads c = λ whole e l.
    let reads = c.loop-turn.invariant.reads whole e l in
    let cutter = c.loop-turn.cutter in
    let further = c.take_next.new.cutter in
    let none = subst (λ r. ReadsOn whole (left whole cutter) (left whole further) c.loop-turn.counts c.loop-turn.atoms c.take_next.new.atoms (Ok r)) c.in-Ok-None.field-0-is (c.in-Ok-None.ensures.next whole reads.0) in
    λ out h.
    reads.1 out
    (subst (λ ps. Reads whole ps (position c.loop-turn.atoms c.loop-turn.counts) c.loop-turn.rules.items out) (sym none.0)
    (h ∙ ap (λ t. Whole c.loop-turn.rules.items (position t c.loop-turn.counts)) none.1))

pub returns-in-Err-clause-reads : goal.returns-in-Err-clause-reads
returns-in-Err-clause-reads c = λ whole e l.
    let reads = c.loop-turn.invariant.reads whole e l in
    stops whole (left whole c.loop-turn.cutter) (left whole c.take_next.new.cutter) c.loop-turn.atoms c.take_next.new.atoms c.loop-turn.counts c.loop-turn.rules.items c.in-Err.refusal (c.in-Err.ensures.next whole reads.0)
    (Reads whole (pieces_behind whole c.args.spot.at) (position c.args.atoms.now c.args.counts.now) c.args.rules.now.items) reads.1
