use Rattle.std.proofs.Common.{◌≡◌, ◌∙◌, ◌⊎◌, map, ap, subst, sym}
use Rattle.std.proofs.lemmas.Result.{IfOk-weaker}
use Rattle.clap.specs.Words.{IsAmong, fault_of, is_simple, is_simple_and_free, subcommand_of}
use Rattle.clap.specs.declared.error.kind.ErrorKind.TheVariants as kind
use Rattle.ap_words.specs.Clap.{program}
use Rattle.ap_words.specs.Reading.{IsClaps, IsTaken, reading_of}
use Rattle.ap_words.proofs.Programs.{free, refused_claps, simple}
use Rattle.ap_words.proofs.reading.by_clap.Goals as goal

pub returns-in-Ok : goal.returns-in-Ok
returns-in-Ok c =
    let words = map (λ w. w.now) c.args.words.now in
    let is = c.in_ok-program.ensures in
    let none = sym (ap (λ a. fault_of a words) is) ∙ c.in-Ok.ensures.kinds (ap is_simple_and_free is ∙ free) in
    let met = (c.in-Ok.ensures.matches (ap is_simple is ∙ simple)).1 ∙ ap (λ a. subcommand_of a words) is in
    IfOk-weaker c.taken.result _ _ (λ r t. IsClaps.takes none (subst (λ o. IsTaken o (reading_of r)) met t)) c.taken.ensures

pub returns-in-Err : goal.returns-in-Err
returns-in-Err c =
    let words = map (λ w. w.now) c.args.words.now in
    let is = c.in_ok-program.ensures in
    let why = subst (λ a. (c.in-Err.error.kind ≡ kind.OutOfMemory) ⊎ IsAmong c.in-Err.error.kind (fault_of a words)) is (c.in-Err.ensures.kinds (ap is_simple_and_free is ∙ free)) in
    refused_claps words c.kind.result c.refused.result (subst (λ k. (k ≡ kind.OutOfMemory) ⊎ IsAmong k (fault_of program words)) (sym c.kind.ensures) why) c.refused.ensures.is c.refused.ensures.memory
