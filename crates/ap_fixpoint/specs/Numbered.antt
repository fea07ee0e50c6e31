-- Numbers kept by slots.
use Rattle.std.specs.Prelude.{ℕ, List, [], Option, Some, None}
use Rattle.std.specs.HashMap.{HashMap, get}
use Rattle.std.proofs.Common.{Vec, Global}
use Rattle.ap_patterns.specs.declared.slots.Slot.{Slot}
use Rattle.ap_patterns.specs.declared.slots.Slot.TheVariants.{Call, Success}
use Rattle.ap_patterns.specs.Table.{key_of, is_key}
use Rattle.ap_fixpoint.specs.declared.numbered.Numbered.{Numbered}

abbrev pub listed : Option (Vec ℕ Global) → List ℕ
listed None = []
listed (Some v) = v.items

abbrev pub numbers_at : {S : Type 0} → HashMap (ℕ × ℕ) (Vec ℕ Global) S → ℕ × ℕ → List ℕ
numbers_at m k = listed (get is_key m k)

abbrev pub numbers_of : Numbered → Slot → List ℕ
numbers_of n (Call p) = numbers_at n.calls (key_of p)
numbers_of n (Success p) = numbers_at n.answers (key_of p)
