use Rattle.std.proofs.Common.{◌++◌, ◌∙◌, sym, ap}
use Rattle.ap_term.specs.Goals.{calls}
use Rattle.ap_term.specs.GoalView.{part_of}
use Rattle.ap_cge.specs.Stripped.{stripped_part}
use Rattle.ap_cge.proofs.Stripping.{calls-map}
use Rattle.ap_cge.proofs.plain.add_stripped.Goals as goal

pub returns-in_ok-add_calls-in-Group : goal.returns-in_ok-add_calls-in-Group
returns-in_ok-add_calls-in-Group c =
    let e = sym (calls-map c.as_slice.result.now) ∙ ap calls c.as_slice.ensures in
    c.in_ok-add_calls-in-Group.ensures ∙ ap (λ l. c.args.out.now ++ l) e ∙ ap (λ p. c.args.out.now ++ stripped_part (part_of p)) (sym c.in-Group.is)
