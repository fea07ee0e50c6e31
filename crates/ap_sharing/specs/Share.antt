-- Which variables of a clause may share at run time (Jacobs and Langen, Static Analysis of Logic Programs for
-- Independent And-Parallelism; Muthukumar and Hermenegildo, Compile-Time Derivation of Variable Dependency Using
-- Abstract Interpretation). A variable at run time stands for the set of the clause's variables whose instances have
-- it. The members of a Share are its sets and every subset of `any` that isn't empty.
use Rattle.std.specs.Prelude.{◌≡◌, ℕ, ◌≤◌, Bool, true, false, not, ◌||◌, ◌&&◌, ◌⊎◌, List, [], map, length, if◌then◌else◌, nat_eq}
use Rattle.std.specs.List.{filter, list_any}
use Rattle.std.specs.Cmp.Lexicographic.{pointwise}
use Rattle.ap_sharing.specs.VarSet.{has, empty, union, both, without, meets, within}
use Rattle.ap_sharing.specs.Sets.{In, Is, IsAscending, listed, join_sets, sets_of, all_of, too_many}

pub record Share : Type 0 where
  pub sets : List ℕ
  pub any : ℕ

-- the variables that pass are one of the sets, or are all in `any`
abbrev pub Member : Share → (ℕ → Bool) → Type 0
Member sh p = In (λ s. Is s p) sh.sets ⊎ ((x : ℕ) → p x ≡ true → has sh.any x ≡ true)

-- the variables of all members: what isn't surely ground
abbrev pub nonground : Share → ℕ
nonground sh = union sh.any (all_of sh.sets)

-- the variables of the members that meet v
abbrev pub met : Share → ℕ → ℕ
met sh v = union (if meets sh.any v then sh.any else empty) (all_of (filter (λ s. meets s v) sh.sets))

-- whether the set, which isn't empty, is a member
abbrev pub is_member : ℕ → Share → Bool
is_member s sh = listed s sh.sets || within s sh.any

-- whether a member has both
abbrev pub may_share : Share → ℕ → ℕ → Bool
may_share sh x y = (has sh.any x && has sh.any y) || list_any (λ s. has s x && has s y) sh.sets

-- ---- the form in which a Share is kept

-- the sets within `any` say nothing more
abbrev pub dropped : Share → Share
dropped sh = record { sets = filter (λ s. not (within s sh.any)) sh.sets; any = sh.any }

abbrev pub widen : Share → Share
widen sh = record { sets = []; any = nonground sh }

abbrev pub limited : Share → Share
limited sh = if too_many sh.sets then widen sh else sh

abbrev pub norm : Share → Share
norm sh = limited (dropped sh)

pub record IsNormal (sh : Share) : Type 0 where
  pub ascending : IsAscending sh.sets
  pub apart : (s : ℕ) → listed s sh.sets ≡ true → within s sh.any ≡ false
  pub few : length sh.sets ≤ 4096

-- whether they are equal
abbrev pub same_share : Share → Share → Bool
same_share a b = pointwise nat_eq a.sets b.sets && nat_eq a.any b.any

-- ---- operations

abbrev pub ground_share : Share → ℕ → Share
ground_share sh v = norm (record { sets = filter (λ s. not (meets s v)) sh.sets; any = without sh.any v })

abbrev pub unite_shares : Share → Share → Share
unite_shares a b = norm (record { sets = join_sets a.sets b.sets; any = union a.any b.any })

abbrev pub project_share : Share → ℕ → Share
project_share sh keep = norm (record { sets = sets_of (map (λ s. both s keep) sh.sets); any = both sh.any keep })
