-- The operators written out (ISO 13211-1, section 6.3.4.4, but for `=>` and `&`), and how deep a term may be.
use Rattle.std.specs.Prelude.{◌≡◌, List, [], ◌∷◌, codes}
use Rattle.ap_reader.specs.declared.depth.TheConstants.{MAX_DEPTH}
use Rattle.ap_reader.specs.declared.operators.Fixity.TheVariants.{Xfx, Xfy, Yfx, Fx, Fy}
use Rattle.ap_reader.specs.declared.written.TheConstants.{MAX_OPEN}
use Rattle.ap_reader.specs.Operator.{Row, table}

abbrev pub operators : List Row
operators =
    (1200, Xfx, codes ":-") ∷ (1200, Xfx, codes "-->") ∷ (1200, Fx, codes ":-") ∷ (1200, Fx, codes "?-") ∷
    (1100, Xfy, codes ";") ∷ (1050, Xfy, codes "->") ∷ (1000, Xfy, codes ",") ∷ (975, Xfx, codes "=>") ∷
    (950, Xfy, codes "&") ∷ (900, Fy, codes "\\+") ∷ (700, Xfx, codes "=") ∷ (700, Xfx, codes "\\=") ∷
    (700, Xfx, codes "==") ∷ (700, Xfx, codes "\\==") ∷ (700, Xfx, codes "is") ∷ (700, Xfx, codes "=:=") ∷
    (700, Xfx, codes "=\\=") ∷ (700, Xfx, codes "<") ∷ (700, Xfx, codes ">") ∷ (700, Xfx, codes "=<") ∷
    (700, Xfx, codes ">=") ∷ (700, Xfx, codes "=..") ∷ (700, Xfx, codes "@<") ∷ (700, Xfx, codes "@>") ∷
    (700, Xfx, codes "@=<") ∷ (700, Xfx, codes "@>=") ∷ (500, Yfx, codes "+") ∷ (500, Yfx, codes "-") ∷
    (400, Yfx, codes "*") ∷ (400, Yfx, codes "//") ∷ (400, Yfx, codes "rem") ∷ (400, Yfx, codes "mod") ∷
    (200, Fy, codes "-") ∷ []

-- the code's tables are these
pub record TablesLaw : Type 0 where
  pub operators_are : table ≡ operators
  -- how many levels a term has at most, and how many brackets are open at once
  pub levels : MAX_DEPTH ≡ 1000
  pub brackets : MAX_OPEN ≡ 1000
