use Rattle.std.proofs.Common.{◌≡◌, ◌∙◌, ◌++◌, ◌+◌, ◌*◌, ◌%◌, ◌/◌, suc, ap, sym, rules}
use Rattle.std.specs.Prelude.{decimal}
use Rattle.std.proofs.lemmas.List.{append-nil}
use Rattle.ap_gen.specs.Generator.{element, elements, parted, state as state_after}
use Rattle.ap_gen.proofs.Parted.{lead, lead-first, lead-next, one-more, text-more}
use Rattle.ap_gen.proofs.generator.push_numbers.Goals as goal
use Rattle.ap_gen.proofs.generator.push_numbers.Goals.{then-count-gt0+in_ok-extend_from_slice, else-count-gt0}

pub loop-count-preserved : goal.loop-count-preserved
loop-count-preserved c =
    let seed = c.args.seed in
    let count = c.loop-count.count in
    let out = c.loop-count.text.items in
    let led : c.if-count-gt0.text.items ≡ out ++ lead (elements seed count) =
    elim c.if-count-gt0.branch [
      | then-count-gt0+in_ok-extend_from_slice w ↦ ap (λ o. o.items) w.text-is ∙ w.in_ok-extend_from_slice.ensures.items ∙ ap (λ b. out ++ b) (sym (lead-next seed count w.if-count-gt0.true))
      | else-count-gt0 w ↦ let first : count ≡ 0 = search rules in ap (λ o. o.items) w.text-is ∙ sym (append-nil out) ∙ ap (λ b. out ++ b) (sym (lead-first seed count first))
    ] in
    let state = c.next-state.ensures.is ∙ ap (λ s. (1103515245 * s + 12345) % 2147483648) c.loop-count.invariant.state in
    let digits : c.as_bytes.result.now ≡ decimal (element seed (suc count)) = c.as_bytes.ensures.value ∙ c.format.ensures.text ∙ ap (λ s. decimal (s / 65536 % 1000)) state in
    record {
      state = state ∙ sym (ap (state_after seed) (one-more count));
      small = c.next-state.ensures.small;
      text = c.in_ok-extend_from_slice-2.ensures.items ∙ text-more c.args.text.now.items out _ _ (elements seed count) _ c.loop-count.invariant.text led digits
          ∙ ap (λ n. c.args.text.now.items ++ parted (elements seed n)) (sym (one-more count));
    }
