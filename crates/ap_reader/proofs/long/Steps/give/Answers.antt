use Rattle.std.proofs.Common.{◌+◌, ◌++◌, ◌∷◌, sym, ap, subst, ◌∙◌, drop, append_assoc}
use Rattle.ap_reader.specs.Long.{IsSame, leaves_of}
use Rattle.ap_reader.proofs.Ending.{rests, runs_alike, split}
use Rattle.ap_reader.proofs.long.Steps.give.Goals as goal

pub returns-in-Ok-clause-next : goal.returns-in-Ok-clause-next
returns-in-Ok-clause-next c = λ ts done r.
    let s = c.args.self.now in
    let out = s.pass.out.items in
    let i = s.given in
    let x = c.args.step in
    let new = c.named.new.self in
    let same = c.named.ensures.same in
    let held = c.in-Ok.ensures.named r.passed (record { count = r.holds.count; kept = r.holds.kept; last = r.holds.last }) in (
      x,
      runs_alike ts done s new x r c.requires.here
          (record { tokens = same.tokens; token = same.token; before = same.before; at = same.at; mode = same.mode; pass = same.pass; variables = same.variables; is_over = same.is_over }) same.given held,
      λ front t sp.
          let more = rests s.is_over ts (r.gone ++ out) r.passed s r.runs front t sp in (
            drop (i + 1) out ++ more.0,
            more.2 ∙ ap (λ l. l ++ more.0) (split r.gone out i x c.requires.here ∙ ap (λ l. l ++ x ∷ drop (i + 1) out) (sym r.done_is)) ∙ append_assoc done (x ∷ drop (i + 1) out) more.0,
            subst (λ xs. IsSame xs (leaves_of new) x c.in-Ok.step) (sym more.3) (c.in-Ok.ensures.step r.passed more.1 (record { count = r.holds.count; kept = r.holds.kept; last = r.holds.last })),
          ),
    )
