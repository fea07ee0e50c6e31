-- The part of a program is what it was where its kept code is.
use Rattle.std.proofs.Common.{◌≡◌, sym, subst}
use Rattle.ap_term.specs.Goals.{Program, Query}
use Rattle.ap_codegen.specs.KeptCode.{IsKept}
use Rattle.ap_codegen.specs.declared.kept.Kept.{Kept}
use Rattle.ap_mel.specs.declared.annotations.Kind.{Kind}
use Rattle.ap_top.specs.Last.{IsLastOf}
use Rattle.ap_top.specs.declared.last.Last.{Last}

pub with_code : (last : Last) (code : Kept) → code ≡ last.code → (p : Program) (kind : Kind) (q : Query) → IsLastOf p kind q last
    → IsLastOf p kind q (record { calls = last.calls; grouped = last.grouped; code = code; is_plain = last.is_plain })
with_code last code same p kind q before = record {
  part = before.part;
  formed = before.formed;
  reached = before.reached;
  here = before.here;
  groups = before.groups;
  code = subst (λ k. IsKept k last.grouped.program) (sym same) before.code;
  plain = before.plain;
}
