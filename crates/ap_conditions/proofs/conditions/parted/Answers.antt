use Rattle.std.proofs.Common.{◌≡◌, ◌+◌, ◌∙◌, ◌||◌, ◌&&◌, ◌++◌, ◌∷◌, [], not, ap, ap₂, sym, take}
use Rattle.std.proofs.lemmas.List.{take_more, take_all}
use Rattle.ap_sharing.specs.VarSet.{has}
use Rattle.ap_sharing.proofs.Elements.{has-empty, has-union, has-both, has-without}
use Rattle.ap_conditions.specs.GoalSets.{in_one, in_two}
use Rattle.ap_conditions.proofs.Sets.{in_one-more, in_two-more}
use Rattle.ap_conditions.proofs.conditions.parted.Goals as goal

pub loop-s-init : goal.loop-s-init
loop-s-init c = record {
  one = λ x. ap (λ s. has s x) c.new-found.ensures ∙ has-empty x;
  two = λ x. ap (λ s. has s x) c.new-shared.ensures ∙ has-empty x;
}

pub loop-s-preserved : goal.loop-s-preserved
loop-s-preserved c =
    let e : take (c.loop-s.s-index + 1) c.args.sets.now ≡ take c.loop-s.s-index c.args.sets.now ++ c.s-item.result ∷ [] =
    take_more c.args.sets.now c.loop-s.s-index c.s-item.result c.loop-s-test.true ∙ ap (λ s. take c.loop-s.s-index c.args.sets.now ++ s ∷ []) (sym c.s-item.is) in
    record {
      one = λ x.
          ap (λ s. has s x) c.union-found.ensures ∙ has-union c.loop-s.found c.s-item.result x ∙ ap (λ b. b || has c.s-item.result x) (c.loop-s.invariant.one x)
          ∙ sym (ap (λ l. in_one l x) e ∙ in_one-more (take c.loop-s.s-index c.args.sets.now) c.s-item.result x);
      two = λ x.
          ap (λ s. has s x) (c.union-shared.ensures) ∙ has-union c.loop-s.shared c.both.result x
          ∙ ap₂ (λ a b. a || b) (c.loop-s.invariant.two x)
          (ap (λ s. has s x) c.both.ensures ∙ has-both c.loop-s.found c.s-item.result x ∙ ap (λ b. b && has c.s-item.result x) (c.loop-s.invariant.one x))
          ∙ sym (ap (λ l. in_two l x) e ∙ in_two-more (take c.loop-s.s-index c.args.sets.now) c.s-item.result x);
    }

pub returns-clause-alone : goal.returns-clause-alone
returns-clause-alone c = λ x.
    let e = take_all c.loop-s.s-index c.args.sets.now c.loop-s-test.false in
    ap (λ s. has s x) c.without-alone.ensures ∙ has-without c.loop-s.found c.loop-s.shared x
    ∙ ap₂ (λ a b. a && not b) (c.loop-s.invariant.one x ∙ ap (λ l. in_one l x) e) (c.loop-s.invariant.two x ∙ ap (λ l. in_two l x) e)
