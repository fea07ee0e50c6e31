use Rattle.std.proofs.Common.{◌∙◌, map, ap, sym, subst}
use Rattle.ap_lexer.specs.Token.{view}
use Rattle.ap_top.specs.Patterns.{ReadsTokens, ReadsPiece}
use Rattle.ap_top.proofs.PatternWords.{reads_map}
use Rattle.ap_top.proofs.patterns.read_piece.Goals as goal

pub returns-in-Ok-clause-read : goal.returns-in-Ok-clause-read
returns-in-Ok-clause-read c =
    let table = c.args.atoms.now in
    let same = ap (map view) c.deref.ensures.value ∙ c.in-Ok.ensures.ok.1 in
    reads_map (ReadsTokens (map view c.deref.result.now) table) (ReadsPiece c.args.text.now c.args.piece.now table) (λ t h. (c.in-Ok.ensures.ok.0, subst (λ ts. ReadsTokens ts table t) same h))
    (λ t h. subst (λ ts. ReadsTokens ts table t) (sym same) h.1) c.read_tokens.result c.read_tokens.ensures.read
