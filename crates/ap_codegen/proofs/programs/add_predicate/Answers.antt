use Rattle.std.proofs.Common.{◌≡◌, length, take, refl, ap, ◌∙◌, sym, subst, rules}
use Rattle.std.specs.List.{filter}
use Rattle.std.proofs.Math.Seq.{take-append_seam}
use Rattle.ap_codegen.proofs.Heads.{listed_push}
use Rattle.ap_codegen.proofs.Making.{made_more}
use Rattle.ap_codegen.proofs.programs.add_predicate.Goals as goal

pub returns-clause-listed : goal.returns-clause-listed
returns-clause-listed c m l h = subst (λ qs. filter (λ q. q.is_listed) qs ≡ take m qs) (sym c.in_ok-push.ensures.items) (listed_push c.args.made.now.predicates.items _ m l h)

pub returns-clause-made : goal.returns-clause-made
returns-clause-made c p indexed here made =
    let block = c.in_ok-lay_predicate.ensures.block p indexed in
    made_more c.args.tables.now c.lay_predicate.new.tables c.args.made.now.instructions.items c.lay_predicate.new.out.items block.0 c.args.made.now.predicates.items c.push.new.self.items _ (c.args.name, c.args.arity)
    p c.in_ok-lay_predicate.ensures.grows block.2 block.1 c.at.ensures refl (search rules) (search rules) c.in_ok-push.ensures.items here made

pub returns-clause-predicates : goal.returns-clause-predicates
returns-clause-predicates c = ap (take (length c.args.made.now.predicates.items)) c.in_ok-push.ensures.items ∙ take-append_seam c.args.made.now.predicates.items _
