-- The program's command, as `clap` is given it.
use Rattle.std.proofs.Common.{◌≡◌, ◌⊎◌, inl, inr, true, false, List, ap, refl}
use Rattle.std.specs.Prelude.{Result, Ok, Err, IfOk, OnOk}
use Rattle.clap.specs.Words.{App, IsAmong, app_of, fault_of, is_simple, is_simple_and_free}
use Rattle.clap.specs.declared.builder.command.Command.{Command}
use Rattle.clap.specs.declared.builder.command.Command.TheViews.{out-Command}
use Rattle.clap.specs.declared.error.kind.ErrorKind.{ErrorKind}
use Rattle.clap.specs.declared.error.kind.ErrorKind.TheVariants as kind
use Rattle.clap.proofs.OnLiterals.{clap_on_literals}
use Rattle.std.specs.declared.alloc.AllocError.{AllocError}
use Rattle.std.proofs.lemmas.Bool.{and_parts, not-true}
use Rattle.ap_words.specs.Table.{Text}
use Rattle.ap_words.specs.Clap.{program}
use Rattle.ap_words.specs.Reading.{IsClaps, reading_of, refused}
use Rattle.ap_words.specs.declared.reading.Reading.{Reading as Kept}

pub simple : is_simple program ≡ true
unfolding clap_on_literals
simple = refl

pub free : is_simple_and_free program ≡ true
unfolding clap_on_literals
free = refl

pub own : (c : Command) → app_of c ≡ program → ((out-Command c).has_globals ≡ false) × ((out-Command c).subcommand_required ≡ true)
own c is =
    let plain = ap (λ (a : App). a.top.is_plain) is in
    let outside = and_parts _ _ (and_parts _ _ plain).1 in
    (not-true _ (and_parts _ _ outside.1).0, ap (λ (a : App). a.top.subcommand_required) is)

pub refused_claps : (line : List Text) (k : ErrorKind) (r : Result Kept AllocError) → (k ≡ kind.OutOfMemory) ⊎ IsAmong k (fault_of program line) → IfOk r (λ x. reading_of x ≡ refused k)
    → OnOk r (k ≡ kind.OutOfMemory → ⊥) → IfOk r (λ x. IsClaps line (reading_of x))
refused_claps line k (Err e) why is other = tt
refused_claps line k (Ok x) (inl memory) is other = absurd (other memory)
refused_claps line k (Ok x) (inr among) is other = IsClaps.refuses k among is
