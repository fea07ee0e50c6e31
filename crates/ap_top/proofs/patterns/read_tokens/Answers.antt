use Rattle.std.proofs.Common.{◌≡◌, ◌∙◌, ◌≤◌, length, take, map, ap, sym, subst, rules}
use Rattle.ap_lexer.specs.Token.{view}
use Rattle.ap_reader.specs.declared.error.ReadErr.TheVariants as err
use Rattle.ap_top.proofs.PatternWords.{grown-length, cut-back, unread-tokens, kept-table}
use Rattle.ap_top.proofs.patterns.read_tokens.Goals as goal

pub cut_to-requires : goal.cut_to-requires
cut_to-requires c =
    subst (λ n. n ≤ length c.read_term.new.atoms) (sym c.mark-mark.ensures.mark) (grown-length (map view c.args.tokens.now) c.args.atoms.now c.read_term.new.atoms c.in-Ok.read c.in-Ok.ensures)

pub returns-in-Ok-clause-atoms : goal.returns-in-Ok-clause-atoms
returns-in-Ok-clause-atoms c =
    c.cut_to.ensures ∙ ap (λ n. take n c.read_term.new.atoms) c.mark-mark.ensures.mark ∙ cut-back (map view c.args.tokens.now) c.args.atoms.now c.read_term.new.atoms c.in-Ok.read c.in-Ok.ensures

pub returns-in-Err : goal.returns-in-Err
returns-in-Err c =
    let other : c.in-Err.field-0 ≡ err.NoMemory → ⊥ = search rules in
    record {
      read = unread-tokens (map view c.args.tokens.now) c.args.atoms.now c.read_term.new.atoms c.in-Err.field-0 other c.in-Err.ensures;
      atoms = kept-table (map view c.args.tokens.now) c.args.atoms.now c.read_term.new.atoms c.in-Err.field-0 c.in-Err.ensures;
    }
