use Rattle.std.proofs.Common.{◌≡◌, ◌+◌, ◌-◌, [], Ok, IfSome, refl, rules, inl, inr, ap, subst, ◌∙◌, drop, length, arith, length-drop}
use Rattle.std.specs.Prelude.{◌⊎◌}
use Rattle.std.proofs.lemmas.List.{drop-drop}
use Rattle.ap_lexer.specs.Piece.{pieces, pieces_behind}
use Rattle.ap_reader.proofs.Tables.{extends-trans}
use Rattle.ap_clause.specs.declared.refusal.Refusal.{Refusal}
use Rattle.ap_clause.specs.declared.refusal.Refusal.TheVariants as refusal
use Rattle.ap_clause.specs.Reads.{Outcome, Reads, Whole, Stopped, start}
use Rattle.ap_clause.specs.Verdict.{position}
use Rattle.ap_clause.specs.Parts.{ReadsFurther, IsFurther}
use Rattle.ap_clause.proofs.read.take_owned.Goals as goal

pub loop-next-init : goal.loop-next-init
loop-next-init c = record {
  rest_is = refl;
  within = omega arith;
  line_is = refl;
  line_low = omega arith;
  leads = λ out h. subst (λ rs. Reads c.args.text.items (pieces c.args.text.items) (start c.args.atoms.now) rs out) c.new-rules.ensures.items h;
  counted = search rules;
  grows = search rules;
}

pub take_until-requires-clause-fits : goal.take_until-requires-clause-fits
take_until-requires-clause-fits c =
    let text = c.args.text.items in
    let inv = c.loop-next.invariant in
    omega (arith, ap length c.as_slice.ensures.value, ap length inv.rest_is, length-drop c.loop-next.spot.at text, inv.within, c.args.text.ok, c.args.text.small)

pub loop-next-preserved : goal.loop-next-preserved
loop-next-preserved c =
    let text = c.args.text.items in
    let inv = c.loop-next.invariant in
    let spot = c.loop-next.spot in
    let next = c.in-Ok-Some.next in
    let reads = subst (λ r. ReadsFurther text (pieces_behind text spot.at) (position c.loop-next.atoms c.loop-next.counts) c.loop-next.rules.items (position c.take_until.new.atoms c.take_until.new.counts) c.take_until.new.rules.items (Ok r)) c.in-Ok-Some.field-0-is
    (c.in-Ok-Some.ensures.reads text (c.as_slice.ensures.value ∙ inv.rest_is) inv.line_is) in
    let there = subst (λ r. IfSome r (IsFurther spot (length c.as_slice.result.now) c.part_of-until.result)) c.in-Ok-Some.field-0-is c.in-Ok-Some.ensures.there in
    let gone = next.at - spot.at in
    let all : spot.at + gone ≡ next.at = omega (arith, there.further) in
    let long : length c.as_slice.result.now + spot.at ≡ length text = omega (arith, ap length c.as_slice.ensures.value, ap length inv.rest_is, length-drop spot.at text, inv.within) in
    record {
      rest_is = c.in-Ok.ensures.tail ∙ ap (drop gone) inv.rest_is ∙ drop-drop gone spot.at text ∙ ap (λ n. drop n text) all;
      within = omega (arith, there.within, long);
      line_is = reads.1;
      line_low = there.line_low;
      leads = λ out h. inv.leads out (reads.0 out h);
      counted = c.in-Ok-Some.ensures.counted;
      grows = extends-trans c.args.atoms.now c.loop-next.atoms c.take_until.new.atoms inv.grows c.in-Ok-Some.ensures.grows;
    }

pub returns-in-Ok-None-clause-verdict : goal.returns-in-Ok-None-clause-verdict
returns-in-Ok-None-clause-verdict c =
    let text = c.args.text.items in
    let inv = c.loop-next.invariant in
    let last = position c.take_until.new.atoms c.take_until.new.counts in
    let all = c.take_until.new.rules.items in
    let reads = subst (λ r. ReadsFurther text (pieces_behind text c.loop-next.spot.at) (position c.loop-next.atoms c.loop-next.counts) c.loop-next.rules.items last all (Ok r)) c.in-Ok-None.field-0-is
    (c.in-Ok-None.ensures.reads text (c.as_slice.ensures.value ∙ inv.rest_is) inv.line_is) in
    inv.leads (Whole all last) (reads (Whole all last) refl)

stopped : (e : Refusal) (J K : Outcome → Type 0) → ((out : Outcome) → J out → K out) → (e ≡ refusal.NoMemory) ⊎ J (Stopped e) → (e ≡ refusal.NoMemory) ⊎ K (Stopped e)
stopped e J K f (inl h) = inl h
stopped e J K f (inr h) = inr (f (Stopped e) h)

pub returns-in-Err-clause-verdict : goal.returns-in-Err-clause-verdict
returns-in-Err-clause-verdict c =
    let text = c.args.text.items in
    let inv = c.loop-next.invariant in
    stopped c.in-Err.refusal (Reads text (pieces_behind text c.loop-next.spot.at) (position c.loop-next.atoms c.loop-next.counts) c.loop-next.rules.items) (Reads text (pieces text) (start c.args.atoms.now) []) inv.leads
    (c.in-Err.ensures.reads text (c.as_slice.ensures.value ∙ inv.rest_is) inv.line_is)
