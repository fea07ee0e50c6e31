use Rattle.std.proofs.Common.{◌≡◌, ◌++◌, sym, ap, subst, ◌∙◌, length, take, arith, rules, vec_len, false-eqb}
use Rattle.std.proofs.lemmas.List.{append-nil, nil_from_length}
use Rattle.ap_reader.specs.declared.pass.Mode.TheVariants as mode
use Rattle.ap_reader.specs.Machine.{ended}
use Rattle.ap_reader.specs.Step.{Shows}
use Rattle.ap_reader.specs.Word.{words}
use Rattle.ap_reader.proofs.Parsed as parsed
use Rattle.ap_reader.proofs.Ending.{at_end, ends_as}
use Rattle.ap_reader.proofs.long.Steps.end.Goals as goal

pub returns-in_default-mode-clause-taken : goal.returns-in_default-mode-clause-taken
returns-in_default-mode-clause-taken c = λ ts done t b kind none front tree spells.
    let at = at_end ts done t c.args.self.now b front none spells.ends in
    parsed.none_spelled (words front) (ap ended at.words_are ∙ parsed.wants_more b.x c.args.self.now.mode _ _ b.shows c.in_default-mode.not-Has) tree spells.rules spells.spelling

pub returns-then-is_empty-clause-taken : goal.returns-then-is_empty-clause-taken
returns-then-is_empty-clause-taken c = λ ts done t b kind none.
    let s = c.args.self.now in
    let front = b.taken in
    let ends = ends_as ts done t s b none (kind ∙ c.in-End.is) in
    let at = at_end ts done t s b front none ends in
    let shows : Shows b.x mode.Has s.pass.stack.items (done ++ s.pass.out.items) =
    subst (λ o. Shows b.x mode.Has s.pass.stack.items o) (sym (append-nil done) ∙ ap (λ o. done ++ o) (sym b.none)) (subst (λ m. Shows b.x m s.pass.stack.items done) c.in-Has.is b.shows) in
    let last = parsed.at_end (words front) b.x _ _ _ _ at.words_are shows (c.in_ok-reduce.ensures.done done) in
    let empty : length c.reduce.new.self.stack.items ≡ 0 = search rules in
    let found = last.1.0 (nil_from_length c.reduce.new.self.stack.items empty) in
    record {
      stands = b.stands;
      gone = done;
      done_is = sym (append-nil done) ∙ ap (λ n. done ++ take n c.reduce.new.self.out.items) (sym b.given);
      within = omega (arith, b.given);
      passed = b.passed;
      holds = record { count = b.holds.count; kept = b.holds.kept; last = b.holds.last };
      numbers = b.numbers;
      once = b.once;
      runs = (front, found.0, record { ends = ends; text = at.text; rules = found.1; spelling = found.2 }, found.3, at.leaves_are, at.variables_are);
    }

pub returns-else-is_empty-clause-taken : goal.returns-else-is_empty-clause-taken
returns-else-is_empty-clause-taken c = λ ts done t b kind none front tree spells.
    let s = c.args.self.now in
    let at = at_end ts done t s b front none spells.ends in
    let shows : Shows b.x mode.Has s.pass.stack.items (done ++ s.pass.out.items) =
    subst (λ o. Shows b.x mode.Has s.pass.stack.items o) (sym (append-nil done) ∙ ap (λ o. done ++ o) (sym b.none)) (subst (λ m. Shows b.x m s.pass.stack.items done) c.in-Has.is b.shows) in
    let last = parsed.at_end (words front) b.x _ _ _ _ at.words_are shows (c.in_ok-reduce.ensures.done done) in
    last.1.1 (λ empty. let v = c.reduce.new.self.stack in omega (arith, ap length empty, v.ok.0, false-eqb (vec_len v) 0 c.if-is_empty.ensures)) tree spells.rules spells.spelling
