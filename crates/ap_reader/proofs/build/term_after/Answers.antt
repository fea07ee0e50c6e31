use Rattle.std.proofs.Common.{◌≡◌, ◌∙◌, ap, sym, codes, map, slice_get, List, [], ◌∷◌, Result, Ok, Err}
use Rattle.std.specs.Prelude.{IfOk}
use Rattle.ap_lexer.specs.Lexeme.{Text}
use Rattle.ap_term.specs.AtomTable.{insert_names}
use Rattle.ap_term.specs.Tree.{atom}
use Rattle.ap_term.specs.TermView.{tree_of}
use Rattle.ap_term.specs.declared.names.InternErr.{InternErr}
use Rattle.ap_reader.specs.Written.{Atom, leaf_of, leaf_at}
use Rattle.ap_reader.specs.Evaluated.{ATerm, Gathered}
use Rattle.ap_reader.specs.Build.{Interned, place_of, term_in}
use Rattle.ap_reader.proofs.Held.{prefix-gives, infix-gives, compound-gives, list-gives, tailed-gives, same_term}
use Rattle.ap_reader.proofs.build.term_after.Goals as goal

if_ok : {A : Type 0} (r : Result A InternErr) {P Q : A → Type 0} → ((x : A) → P x → Q x) → IfOk r P → IfOk r Q
if_ok (Ok x) f p = f x p
if_ok (Err e) f p = p

if_interned : {A : Type 0} (added old new : List Text) (r : Result A InternErr) {P Q : A → Type 0} → (new ≡ insert_names old added → (x : A) → P x → Q x) → IfOk r P → Interned added old new r → IfOk r Q
if_interned added old new (Ok x) f p table = f table x p
if_interned added old new (Err e) f p table = p

pub returns-in-Operand-clause-value : goal.returns-in-Operand-clause-value
returns-in-Operand-clause-value c =
    let w = leaf_at (slice_get (map leaf_of c.args.leaves.now) c.in-Operand.at) in
    rw c.in-Operand.is (if_ok c.leaf.result (λ t p. λ more vs x f e h. (p more ∙ ap (term_in (insert_names c.leaf.new.atoms more)) (same_term w x e), h)) c.leaf.ensures.value)

pub returns-in-Prefix-clause-value : goal.returns-in-Prefix-clause-value
returns-in-Prefix-clause-value c =
    rw c.in-Prefix.is (if_ok c.prefix.result (λ t p. λ more.
    prefix-gives (map leaf_of c.args.leaves.now) (insert_names c.prefix.new.atoms more) (tree_of t) c.args.stack.now c.prefix.new.stack c.in-Prefix.at c.name_at.result.now c.name_at.ensures (λ y vs. p more y vs)) c.prefix.ensures.value)

pub returns-in-Infix-clause-value : goal.returns-in-Infix-clause-value
returns-in-Infix-clause-value c =
    rw c.in-Infix.is (if_ok c.infix.result (λ t p. λ more.
    infix-gives (map leaf_of c.args.leaves.now) (insert_names c.infix.new.atoms more) (tree_of t) c.args.stack.now c.infix.new.stack c.in-Infix.at c.name_at-in-Infix.result.now c.name_at-in-Infix.ensures (λ y z vs. p more y z vs)) c.infix.ensures.value)

pub returns-in-Compound-clause-value : goal.returns-in-Compound-clause-value
returns-in-Compound-clause-value c =
    rw c.in-Compound.is (if_ok c.compound.result (λ t p. λ more.
    compound-gives (map leaf_of c.args.leaves.now) (insert_names c.compound.new.atoms more) (tree_of t) c.args.stack.now c.compound.new.stack c.in-Compound.at c.name_at-in-Compound.result.now c.name_at-in-Compound.ensures (λ ys y vs. p more ys y vs)) c.compound.ensures.value)

pub returns-in-Ok-atom-2-clause-value : goal.returns-in-Ok-atom-2-clause-value
returns-in-Ok-atom-2-clause-value c =
    rw c.in-List.is (if_interned (codes "." ∷ []) c.atom-in-List.new.atoms c.listed.new.atoms c.listed.result (λ table t p. λ more.
    list-gives (map leaf_of c.args.leaves.now) (insert_names c.listed.new.atoms more) (tree_of t) c.args.stack.now c.listed.new.stack
    (λ ys y vs e. p more ys y (Atom (codes "[]")) vs e (ap atom (c.in-Ok-atom-2.ensures.place (codes "." ∷ more) ∙ ap (λ ns. place_of (insert_names ns more) (codes "[]")) (sym table)))))
    c.listed.ensures.value c.listed.ensures.table)

pub returns-in-Tailed-clause-value : goal.returns-in-Tailed-clause-value
returns-in-Tailed-clause-value c =
    rw c.in-Tailed.is (if_ok c.listed-in-Tailed.result (λ t p. λ more.
    tailed-gives (map leaf_of c.args.leaves.now) (insert_names c.listed-in-Tailed.new.atoms more) (tree_of t) c.args.stack.now c.listed-in-Tailed.new.stack
    (λ ys y u vs e.
    let tail = c.take-tail.ensures (insert_names c.listed-in-Tailed.new.atoms more) u (ATerm y ∷ Gathered ys ∷ vs) e in
    p more ys y u vs tail.1 tail.0)) c.listed-in-Tailed.ensures.value)
