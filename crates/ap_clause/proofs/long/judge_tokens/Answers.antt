use Rattle.std.proofs.Common.{◌≡◌, Ok, Err, inr, sym, ap, subst, ◌∙◌, nat_lt, true, false, rules}
use Rattle.std.proofs.lemmas.Bool.{ltb-false}
use Rattle.ap_reader.specs.declared.written.TheConstants.{MAX_OPEN}
use Rattle.ap_reader.specs.declared.depth.TheConstants.{MAX_DEPTH}
use Rattle.ap_reader.specs.declared.pass.ParseErr.TheVariants as fault
use Rattle.ap_reader.specs.Bracket.{most_open}
use Rattle.ap_reader.specs.Depth.{depth}
use Rattle.ap_reader.specs.Reading.{term_of}
use Rattle.ap_reader.specs.Long.{Answers}
use Rattle.ap_reader.proofs.Read.{one_term}
use Rattle.ap_clause.specs.Reads.{fits}
use Rattle.ap_clause.specs.Shape.{form_of}
use Rattle.ap_clause.proofs.Verdicts.{judges_none}
use Rattle.ap_clause.proofs.Longs.{unfit, deep}
use Rattle.ap_clause.proofs.long.judge_tokens.Goals as goal

pub returns-then-not-fits-clause-refused : goal.returns-then-not-fits-clause-refused
returns-then-not-fits-clause-refused c = inr (λ ts p g first.
    let closed = sym (c.are_too_open.ensures ts g) ∙ c.if-are_too_open.false in
    let n = subst (Answers ts (λ front t f. f ≡ form_of (term_of front t))) c.in-Ok.is (c.form_of_tokens.ensures ts g) in
    unfit c.args.source p ts n.0 n.1 c.args.line closed first n.2 (sym (c.fits.ensures (term_of n.0 n.1) n.3) ∙ c.if-not-fits.true))

pub returns-in-Err-NotATerm-clause-refused : goal.returns-in-Err-NotATerm-clause-refused
returns-in-Err-NotATerm-clause-refused c = inr (λ ts p g first.
    let closed = sym (c.are_too_open.ensures ts g) ∙ c.if-are_too_open.false in
    let none : c.form_of_tokens.result ≡ Err fault.NotATerm = search rules in
    judges_none c.args.source p ts c.args.line (ltb-false MAX_OPEN (most_open 0 ts) closed) first (subst (Answers ts (λ front t f. f ≡ form_of (term_of front t))) none (c.form_of_tokens.ensures ts g)))

pub returns-in-Ok-true-clause-refused : goal.returns-in-Ok-true-clause-refused
returns-in-Ok-true-clause-refused c = inr (λ ts p g first.
    let closed = sym (c.are_too_open.ensures ts g) ∙ c.if-are_too_open.false in
    let n = subst (Answers ts (λ front t f. f ≡ form_of (term_of front t))) c.in-Ok.is (c.form_of_tokens.ensures ts g) in
    let is : c.are_too_deep.result ≡ Ok true = search rules in
    let m = subst (Answers ts (λ front t b. b ≡ nat_lt MAX_DEPTH (depth (term_of front t)))) is (c.are_too_deep.ensures ts g) in
    let fit = sym (c.fits.ensures (term_of n.0 n.1) n.3) ∙ c.if-not-fits.false in
    deep c.args.source p ts m.0 m.1 c.args.line closed first m.2 (ap (fits c.args.source) (one_term ts m.0 n.0 m.1 n.1 m.2 n.2) ∙ fit) (sym m.3))

pub returns-in-Ok-false-clause-sound : goal.returns-in-Ok-false-clause-sound
returns-in-Ok-false-clause-sound c = λ ts g.
    let n = subst (Answers ts (λ front t f. f ≡ form_of (term_of front t))) c.in-Ok.is (c.form_of_tokens.ensures ts g) in
    let is : c.are_too_deep.result ≡ Ok false = search rules in
    let m = subst (Answers ts (λ front t b. b ≡ nat_lt MAX_DEPTH (depth (term_of front t)))) is (c.are_too_deep.ensures ts g) in
    let fit = sym (c.fits.ensures (term_of n.0 n.1) n.3) ∙ c.if-not-fits.false in
    record {
      closed = sym (c.are_too_open.ensures ts g) ∙ c.if-are_too_open.false;
      front = m.0;
      tree = m.1;
      spells = m.2;
      fitting = ap (fits c.args.source) (one_term ts m.0 n.0 m.1 n.1 m.2 n.2) ∙ fit;
      shallow = sym m.3;
    }
