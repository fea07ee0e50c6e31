use Rattle.std.proofs.Common.{◌≡◌, ◌∙◌, ap, sym, subst, map, slice_get, List, [], ◌∷◌, Result, Ok, Err, rules, w64, FitsSigned}
use Rattle.std.proofs.lemmas.Int.{to_z-of_z}
use Rattle.std.specs.Prelude.{OnOk, OnErr}
use Rattle.ap_term.specs.Tree.{int}
use Rattle.ap_lexer.specs.Lexeme.{Text}
use Rattle.ap_term.specs.AtomTable.{insert_names}
use Rattle.ap_term.specs.declared.names.InternErr.{InternErr}
use Rattle.ap_term.specs.declared.names.InternErr.TheVariants as err
use Rattle.ap_reader.specs.Written.{Integer, leaf_of, leaf_at}
use Rattle.ap_reader.specs.Evaluated.{made, left, top_term}
use Rattle.ap_reader.specs.Held.{Held}
use Rattle.ap_reader.specs.Build.{Interned, leaf_names, step_names}
use Rattle.ap_reader.proofs.Held.{makes-term}
use Rattle.ap_reader.proofs.Tables.{extends-names}
use Rattle.ap_reader.proofs.build.add.Goals as goal

on_ok : {A : Type 0} (r : Result A InternErr) {P Q : Type 0} → (P → Q) → OnOk r P → OnOk r Q
on_ok (Ok x) f p = f p
on_ok (Err e) f p = p

put-table : {A : Type 0} (added old new : List Text) (r : Result A InternErr) → new ≡ insert_names old added → OnErr r (r ≡ Err err.NoMemory) → Interned added old new r
put-table added old new (Ok x) e h = e
put-table added old new (Err err.NoMemory) e h = let grown = extends-names old added in (grown.0, e ∙ grown.1)
put-table added old new (Err err.Full) e h = absurd (cc)

pub returns-in-Ok : goal.returns-in-Ok
returns-in-Ok c =
    let w = leaf_at (slice_get (map leaf_of c.args.leaves.now) c.in-Operand.at) in
    record {
      value = rw c.in-Operand.is (on_ok c.put-in-Ok.result (λ p. λ more vs f h. p (insert_names c.leaf.new.atoms more) vs w h (c.in-Ok.ensures.value more)) c.put-in-Ok.ensures.value);
      table = rw c.in-Operand.is (put-table (leaf_names w) c.args.atoms.now c.leaf.new.atoms c.put-in-Ok.result c.in-Ok.ensures.table c.put-in-Ok.ensures.err);
    }

pub returns-in-Integer-clause-value : goal.returns-in-Integer-clause-value
returns-in-Integer-clause-value c =
    let z = c.in-Integer.value in
    let fits : FitsSigned w64 z = search rules in
    rw c.in-Integer.is (on_ok c.put.result (λ p. λ more vs f h. p (insert_names c.args.atoms.now more) vs (Integer z) h (ap int (to_z-of_z w64 z fits))) c.put.ensures.value)

pub returns-in-Ok-term_after : goal.returns-in-Ok-term_after
returns-in-Ok-term_after c =
    let xs = map leaf_of c.args.leaves.now in
    let s = c.args.step in
    record {
      value = on_ok c.put-in-Ok-term_after.result (λ p. λ more vs f h.
          let ns = insert_names c.term_after.new.atoms more in
          let x = top_term (made xs s vs ∷ []) in
          let is = makes-term xs s vs c.in_default.not-Group c.in_default.not-Begin c.in_default.not-Item in
          let got = c.in-Ok-term_after.ensures.value more vs x f is h in
          subst (λ v. Held ns (v ∷ left xs s vs) c.put-in-Ok-term_after.new.self) (sym is) (p ns (left xs s vs) x got.1 got.0)) c.put-in-Ok-term_after.ensures.value;
      table = put-table (step_names xs s) c.args.atoms.now c.term_after.new.atoms c.put-in-Ok-term_after.result c.in-Ok-term_after.ensures.table c.put-in-Ok-term_after.ensures.err;
    }
