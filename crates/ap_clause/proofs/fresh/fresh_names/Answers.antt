use Rattle.std.proofs.Common.{◌≡◌, ◌+◌, [], ◌∷◌, ◌++◌, length, sym, ap, subst, ◌∙◌, append_assoc, arith, length-append}
use Rattle.std.proofs.lemmas.List.{append-nil}
use Rattle.ap_clause.specs.Fresh.{AreNext, lift_name, atoms_from}
use Rattle.ap_clause.proofs.Names.{with_lifted-push, atoms_from-push, length-with_lifted}
use Rattle.ap_clause.proofs.fresh.fresh_names.Goals as goal

pub loop-alloc-preserved : goal.loop-alloc-preserved
loop-alloc-preserved c =
    let inv = c.loop-alloc.invariant in
    let found = c.in_ok-number.ensures in
    let k = c.in_ok-number.number in
    let old = c.args.atoms.now in
    let now = c.loop-alloc.atoms in
    let ks = inv.0 in
    let next : c.saturating_add-from.result ≡ k + 1 = omega (arith, c.saturating_add-from.ensures, found.1) in
    let place : c.in_ok-number.name ≡ length old + length ks = found.2 ∙ ap length inv.3 ∙ length-with_lifted old ks in
    let grown : length c.push.new.self.items ≡ length c.loop-alloc.names.items + 1 = omega (arith, ap length c.in_ok-push.ensures.items, length-append c.loop-alloc.names.items (c.in_ok-number.name ∷ [])) in (
      ks ++ k ∷ [],
      λ rest are.
          subst (AreNext old 1) (sym (append_assoc ks (k ∷ []) rest))
          (inv.1 (k ∷ rest) (found.0, subst (λ n. AreNext (now ++ lift_name k ∷ []) n rest) next (subst (λ l. AreNext l c.saturating_add-from.result rest) found.3 are))),
      omega (arith, inv.2, grown, length-append ks (k ∷ [])),
      found.3 ∙ ap (λ l. l ++ lift_name k ∷ []) inv.3 ∙ with_lifted-push old ks k,
      c.in_ok-push.ensures.items ∙ ap (λ l. l ++ c.in_ok-number.name ∷ []) inv.4 ∙ ap (λ n. atoms_from (length old) ks ++ n ∷ []) place ∙ sym (atoms_from-push (length old) ks k),
      omega (arith, grown, c.loop-alloc-test.true, c.len.ensures),
    )

pub returns : goal.returns
returns c =
    let inv = c.loop-alloc.invariant in
    (inv.0, subst (AreNext c.args.atoms.now 1) (append-nil inv.0) (inv.1 [] tt), omega (arith, inv.2, inv.5, c.loop-alloc-test.false, c.len.ensures), inv.3, inv.4)
