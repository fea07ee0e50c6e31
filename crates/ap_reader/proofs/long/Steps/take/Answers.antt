use Rattle.std.proofs.Common.{◌≡◌, ◌+◌, ◌-◌, [], ◌∷◌, ◌++◌, Some, Err, sym, ap, subst, ◌∙◌, refl, take, length-append, append_assoc, arith, rules}
use Rattle.std.proofs.lemmas.List.{append-nil}
use Rattle.ap_lexer.specs.Token.{view}
use Rattle.ap_reader.specs.declared.leaf.LeafErr.TheVariants as fault
use Rattle.ap_reader.specs.Leaves.{LeafFor, texts}
use Rattle.ap_reader.specs.Machine.{next}
use Rattle.ap_reader.specs.Word.{word_by}
use Rattle.ap_reader.specs.Written.{leaf_of}
use Rattle.ap_reader.specs.Long.{look, Left}
use Rattle.ap_reader.proofs.Looks.{look_push}
use Rattle.ap_reader.proofs.Taking.{goes_on, is_text, keeps_more}
use Rattle.ap_reader.proofs.Ending.{followed, goes_of, shown, stuck_token, is_going}
use Rattle.ap_reader.proofs.long.Steps.take.Goals as goal

pub returns-in-Err-clause-taken : goal.returns-in-Err-clause-taken
returns-in-Err-clause-taken c = λ ts done b e.
    let s = c.args.self.now in
    let f = followed ts done (view c.args.token) c.args.after s b e in
    stuck_token c.in-Err.fault ts done (view c.args.token) (view c.args.after) s _ b f _ _ (c.in-Err.ensures done b.x (shown ts done (view c.args.token) s b))

pub returns-in-Err-NotText-clause-taken : goal.returns-in-Err-NotText-clause-taken
returns-in-Err-NotText-clause-taken c = λ ts done b e front tree sp.
    let s = c.args.self.now in
    let t = view c.args.token in
    let f = followed ts done t c.args.after s b e in
    let not : c.leaf.result ≡ Err fault.NotText = search rules in
    subst (LeafFor t (texts s.variables.names.items) (texts c.leaf.new.self.names.items)) not c.leaf.ensures.leaf (is_text ts f.more front t (view c.args.after) b.x b.passed s (goes_of ts done t (view c.args.after) s b f front sp.ends) sp.text)

pub returns-clause-taken : goal.returns-clause-taken
returns-clause-taken c = λ ts done b e.
    let s = c.args.self.now in
    let t = view c.args.token in
    let z = view c.args.after in
    let f = followed ts done t c.args.after s b e in
    let l = leaf_of c.in-Ok-leaf.leaf in
    let at : c.in-Some.at ≡ s.at + 1 = c.in-Some.ensures.1 in
    let y = next b.x (word_by t.kind s.at s.before t (Some z)) in
    let found = c.in-Ok-leaf.ensures.leaf in
    let last : look (b.passed ++ l ∷ []) (c.in-Some.at - 1) ≡ l = ap (look (b.passed ++ l ∷ [])) (omega (arith, at, b.holds.count)) ∙ look_push b.passed l in
    record {
      stands = b.stands;
      gone = done;
      done_is = sym (append-nil done) ∙ ap (λ n. done ++ take n c.take.new.self.out.items) (sym b.given);
      within = omega (arith, b.given);
      passed = b.passed ++ l ∷ [];
      holds = record { count = omega (arith, at, b.holds.count, length-append b.passed (l ∷ [])); kept = keeps_more b.passed l s.kept b.holds.kept; last = (omega (arith, at), sym last) };
      numbers = c.in-Ok-leaf.ensures.numbers;
      once = c.in-Ok-leaf.ensures.once;
      runs = is_going _ ts _ _ _ b.running record {
        x = y;
        taken = b.taken ++ t ∷ [];
        left = z ∷ f.more;
        shows = c.in-Ok.ensures done b.x (shown ts done t s b);
        left_is = subst (λ k. Left k s.tokens (z ∷ f.more)) (sym e) (f.more, refl, f.gives);
        all = b.all ∙ ap (λ r. b.taken ++ t ∷ r) f.left_is ∙ sym (append_assoc b.taken (t ∷ []) (z ∷ f.more));
        goes = λ front ends. goes_on ts f.more front t z b.x b.passed s _ l (goes_of ts done t z s b f front ends) refl at found.0 found.1 found.2;
      };
    }
