use Rattle.std.proofs.Common.{inl, inr, sym, ap, ◌∙◌, refl}
use Rattle.std.specs.List.{list_any}
use Rattle.indexmap.specs.IndexMap.{get}
use Rattle.ap_reach.specs.contracts.called.CalledPartialEq.TheImpl.{eq-value}
use Rattle.ap_reach.specs.Reached.{is_key, is_near, key_of, place_of}
use Rattle.ap_reach.proofs.Naming.{among-call, has_new, has_old}
use Rattle.ap_reach.proofs.called.Calls.add.Goals as goal

pub invariant_of-self-2 : goal.invariant_of-self-2
invariant_of-self-2 c = (
  λ k h i e.
      let ks = c.self.inside.calls.keys in
      let v = c.in_ok-placed.placed in
      elim (has_old (list_any (eq-value.it v) ks) ks c.insert_full.new.self.keys v k c.in_ok-insert_full.ensures.keys h) [
        | inl g ↦ c.in_ok-placed.ensures.kept (key_of k) i (c.self.invariant.0 k g i e)
        | inr s ↦ ap (λ q. get is_key c.place_call.new.places (key_of q)) s ∙ c.in_ok-placed.ensures.placed i (ap place_of (sym s) ∙ e)
      ],
  λ k h.
      let ks = c.self.inside.calls.keys in
      let v = c.in_ok-placed.placed in
      elim (has_old (list_any (eq-value.it v) ks) ks c.insert_full.new.self.keys v k c.in_ok-insert_full.ensures.keys h) [
        | inl g ↦ c.self.invariant.1 k g
        | inr s ↦ ap is_near s ∙ c.in_ok-placed.ensures.near c.requires.near
      ],
)

pub returns-clause-among : goal.returns-clause-among
returns-clause-among c p t h =
    let ks = c.self.inside.calls.keys in
    let v = c.in_ok-placed.placed in
    among-call p c.insert_full.new.self.keys v t (has_new (list_any (eq-value.it v) ks) ks c.insert_full.new.self.keys v refl c.in_ok-insert_full.ensures.keys) (c.in_ok-placed.ensures.answers p t h)
