use Rattle.std.proofs.Common.{◌≡◌, [], None, Err, inr, refl, sym, subst, ◌∙◌, drop, rules}
use Rattle.ap_term.specs.declared.names.InternErr.TheVariants as intern
use Rattle.ap_lexer.specs.Lexeme.{lexemes}
use Rattle.ap_lexer.specs.Stream as stream
use Rattle.ap_reader.specs.Build.{Extends}
use Rattle.ap_reader.specs.Written.{leaves, variables}
use Rattle.ap_reader.specs.Long.{IsBuilt}
use Rattle.ap_reader.proofs.Tables.{extends-self}
use Rattle.ap_clause.specs.Reads.{JudgesBy, Refused}
use Rattle.ap_clause.specs.declared.refusal.Refusal.TheVariants as refusal
use Rattle.ap_clause.specs.Verdict.{position}
use Rattle.ap_clause.proofs.Verdicts.{gives, judges_by}
use Rattle.ap_clause.proofs.Longs.{by_tokens, can_be, cut_back, too_many_names}
use Rattle.ap_clause.proofs.long.take_long.Goals as goal

pub judge-requires : goal.judge-requires
judge-requires c =
    let s = c.args.tokens in
    let ts = stream.tokens_in s.text.now s.before s.at s.to s.line (lexemes (drop s.at s.text.now)) in
    let sound = c.in_default-judge_tokens.ensures.sound ts (record { are = refl }) in
    let built = subst (IsBuilt (leaves [] sound.front) sound.tree (variables [] sound.front) c.args.atoms.now c.long_term.new.atoms) c.in-Ok.is (c.long_term.ensures.term ts sound.front sound.tree (record { are = refl }) sound.spells) in
    can_be c.args.source c.args.atoms.now c.long_term.new.atoms ts c.first_line_of-line.result sound c.in-Ok.term c.in-Ok.names c.mark-kept.ensures.kept built

pub returns-in-Ok-clause-verdict : goal.returns-in-Ok-clause-verdict
returns-in-Ok-clause-verdict c = λ ts g.
    let bad = c.args.piece.now.bad in
    let none : bad ≡ None = search rules in
    let old = c.args.atoms.now in
    let new = c.long_term.new.atoms in
    let p = position old c.args.before in
    let sound = c.in_default-judge_tokens.ensures.sound ts g in
    let built = subst (IsBuilt (leaves [] sound.front) sound.tree (variables [] sound.front) old new) c.in-Ok.is (c.long_term.ensures.term ts sound.front sound.tree g sound.spells) in
    gives _ (λ v. JudgesBy bad c.args.source p ts v) new c.judge.result
    (λ v e. judges_by bad c.args.source p ts ts v none refl (by_tokens c.args.source c.args.before old new ts c.first_line_of-line.result sound c.in-Ok.term c.in-Ok.names (c.first_line_of-line.ensures ts g) built v e))
    c.judge.ensures.verdict

pub returns-in-Err-Full-clause-verdict : goal.returns-in-Err-Full-clause-verdict
returns-in-Err-Full-clause-verdict c = λ ts g.
    let bad = c.args.piece.now.bad in
    let none : bad ≡ None = search rules in
    let old = c.args.atoms.now in
    let line = c.first_line_of-line.result in
    let sound = c.in_default-judge_tokens.ensures.sound ts g in
    let full : c.long_term.result ≡ Err intern.Full = search rules in
    let fault = subst (IsBuilt (leaves [] sound.front) sound.tree (variables [] sound.front) old c.long_term.new.atoms) full (c.long_term.ensures.term ts sound.front sound.tree g sound.spells) in
    inr (judges_by bad c.args.source (position old c.args.before) ts ts (Refused (refusal.TooManyAtoms line)) none refl (too_many_names c.args.source c.args.before old ts line sound (c.first_line_of-line.ensures ts g) fault.0))

pub returns-in-Err-Full-clause-grows : goal.returns-in-Err-Full-clause-grows
returns-in-Err-Full-clause-grows c =
    let old = c.args.atoms.now in
    subst (Extends old) (sym (c.cut_to.ensures ∙ cut_back old c.long_term.new.atoms c.mark-mark.result c.long_term.ensures.grows c.mark-mark.ensures.mark)) (extends-self old)

pub returns-in-Err-NoMemory-clause-grows : goal.returns-in-Err-NoMemory-clause-grows
returns-in-Err-NoMemory-clause-grows c =
    let old = c.args.atoms.now in
    subst (Extends old) (sym (c.cut_to-in-Err-NoMemory.ensures ∙ cut_back old c.long_term.new.atoms c.mark-mark.result c.long_term.ensures.grows c.mark-mark.ensures.mark)) (extends-self old)
