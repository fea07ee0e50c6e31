use Rattle.std.proofs.lemmas.Option.{IfSome_then}
use Rattle.ap_instr.specs.Code.{Compiled}
use Rattle.ap_codecheck.specs.Tables.{GoesOnBehind, IsExtentOf, IsKeptOf}
use Rattle.ap_codegen.specs.KeptCode.{code_of}
use Rattle.ap_worker.proofs.coding.tables_back.Goals as goal

pub returns : goal.returns
returns c =
    IfSome_then _ {P = λ kept. (base : Compiled) → GoesOnBehind c.args.sound base → IsExtentOf base c.extent.result → IsKeptOf base kept} c.into_kept.ensures
    (λ kept known. known (code_of c.args.kept.now) c.requires c.extent.ensures)
