-- How a Share is stored as the pair of its fields.
use Rattle.std.specs.Prelude.{ℕ, List, refl}
use Rattle.std.specs.Coded.{Coded, code_by, coded×, coded_ℕ, coded_list}
use Rattle.ap_sharing.specs.Share.{Share}

abbrev pub share_code : Coded Share
share_code =
    code_by (List ℕ × ℕ) (coded× (coded_list coded_ℕ) coded_ℕ) (λ sh. (sh.sets, sh.any)) (λ p. record { sets = p.0; any = p.1 }) (λ _. refl)
