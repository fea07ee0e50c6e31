use Rattle.std.proofs.Common.{◌∷◌, ◌++◌, [], if◌then◌else◌, sym, ap, ap₂, ◌∙◌, rules}
use Rattle.std.specs.Map.{lookup}
use Rattle.indexmap.specs.Entry.{map_with_value}
use Rattle.indexmap.specs.IndexMap.{get}
use Rattle.ap_reach.specs.contracts.called.CalledPartialEq.TheImpl.{eq-value}
use Rattle.ap_reach.specs.Reached.{is_called}
use Rattle.ap_reach.specs.Index.{found}
use Rattle.ap_reach.specs.Hashed.{same_call, called_eq}
use Rattle.ap_reach.proofs.Naming.{had_found, put_turn, lookup_same}
use Rattle.ap_reach.proofs.predicates.add_clause.Goals as goal

pub returns : goal.returns
returns c k =
    let old = c.args.index.now in
    let key = c.args.key in
    let own = c.or_insert-own.result.now in
    let put = c.put.new.own in
    let new = map_with_value c.in_ok-index.field-0 put in
    let had = had_found (get eq-value.it old key) _ own c.in_ok-index.ensures.value c.or_insert-own.ensures.value in
    let turn = put_turn (eq-value.it key k) (get eq-value.it old k) (get eq-value.it new k) (get eq-value.it old key) own put c.args.clause.now
    ((c.in_ok-index.ensures.update.0 put).0 k) c.in_ok-put.ensures (λ e. ap (get eq-value.it old) (same_call key k (sym (called_eq key k) ∙ e))) had
    in
    ap (λ es. found (lookup (is_called k) es)) (search rules)
    ∙ ap found (sym (lookup_same (eq-value.it k) (is_called k) (called_eq k) new.entries))
    ∙ turn
    ∙ ap₂ (λ b o. if b then found o ++ c.args.clause.now ∷ [] else found o) (called_eq key k) (lookup_same (eq-value.it k) (is_called k) (called_eq k) old.entries)
