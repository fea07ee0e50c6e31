-- What goals call, and a program's clauses for this.
pub use Rattle.ap_term.specs.Lists.{Key, is_key}
use Rattle.std.specs.Prelude.{◌≡◌, ℕ, zero, suc, nat_lt, Bool, true, false, not, ◌&&◌, ◌==◌, if◌then◌else◌, List, [], ◌++◌, Option, Some, None, IsTrue}
use Rattle.std.specs.List.{All, IsDistinct, filter, flat_map, list_any}
use Rattle.std.specs.Ordering.{int_eq}
use Rattle.ap_term.specs.Tree.{Tree, Trees, var, int, atom, node, none, more, count_trees}
use Rattle.ap_term.specs.Goals.{Part, call, group, Clause, Program, Query, joined, plain_goals}
use Rattle.ap_term.specs.WellFormed.{callable}
use Rattle.ap_reach.specs.declared.called.Called.{Called}
use Rattle.ap_reach.specs.declared.called.TheConstants.{PLACES}
use Rattle.ap_reach.specs.declared.called.Called.TheVariants.{All as Whole, Atom, Integer}

-- the predicate of an argument, and its place, counted from 0
abbrev pub Place : Type 0
Place = Key × ℕ

abbrev pub is_place : Place → Place → Bool
is_place k l = is_key k.0 l.0 && (k.1 == l.1)

abbrev pub is_called : Called → Called → Bool
is_called (Whole f n) (Whole g m) = (f == g) && (n == m)
is_called (Atom f n i a) (Atom g m j b) = (f == g) && ((n == m) && ((i == j) && (a == b)))
is_called (Integer f n i a) (Integer g m j b) = (f == g) && ((n == m) && ((i == j) && int_eq a b))
is_called _ _ = false

-- the predicate of what is called
abbrev pub key_of : Called → Key
key_of (Whole f n) = (f, n)
key_of (Atom f n i a) = (f, n)
key_of (Integer f n i z) = (f, n)

-- the place of the constant, where clauses for one are called
abbrev pub place_of : Called → Option ℕ
place_of (Whole f n) = None
place_of (Atom f n i a) = Some i
place_of (Integer f n i z) = Some i

-- whether it is among the first places, at which constants tell clauses apart
abbrev pub is_near : Called → Bool
is_near (Whole f n) = true
is_near (Atom f n i a) = nat_lt i PLACES
is_near (Integer f n i z) = nat_lt i PLACES

abbrev pub has_call : List Called → Called → Bool
has_call ks k = list_any (is_called k) ks

-- those that are called for a constant have one at such a place
abbrev pub AreNear : List Called → Type 0
AreNear ks = (k : Called) → has_call ks k ≡ true → is_near k ≡ true

-- whether clauses for a constant are called beside all of their predicate
abbrev pub is_beside : List Called → Called → Bool
is_beside ks (Whole f n) = false
is_beside ks (Atom f n i a) = has_call ks (Whole f n)
is_beside ks (Integer f n i z) = has_call ks (Whole f n)

-- constants of one predicate are at one place, so that no clause has two of them
abbrev pub ArePlaced : List Called → Type 0
ArePlaced ks = (k l : Called) (i j : ℕ) → has_call ks k ≡ true → has_call ks l ≡ true → key_of k ≡ key_of l → place_of k ≡ Some i → place_of l ≡ Some j → i ≡ j

-- some were put behind others
abbrev pub Extends : List Called → List Called → Type 0
Extends ks ls = (ms : List Called) × (ls ≡ ks ++ ms)

-- ---- clauses

-- whether a head is of this name and arity
abbrev pub heads : Key → Tree → Bool
heads k (atom a) = is_key (a, 0) k
heads k (node a ts) = is_key (a, count_trees ts) k
heads k _ = false

-- the argument at a place
abbrev pub argument : Trees → ℕ → Option Tree
argument none i = None
argument (more t ts) zero = Some t
argument (more t ts) (suc i) = argument ts i

abbrev pub argument_of : Tree → ℕ → Option Tree
argument_of (node f ts) i = argument ts i
argument_of _ i = None

abbrev pub is_variable : Option Tree → Bool
is_variable (Some (var x)) = true
is_variable _ = false

-- whether an argument is the constant, where clauses for one are called
abbrev pub fits : Called → Option Tree → Bool
fits (Whole f n) o = true
fits (Atom f n i a) (Some (atom b)) = b == a
fits (Integer f n i z) (Some (int y)) = int_eq y z
fits _ _ = false

abbrev pub fits_in : Called → Tree → Bool
fits_in (Whole f n) t = true
fits_in (Atom f n i a) t = fits (Atom f n i a) (argument_of t i)
fits_in (Integer f n i z) t = fits (Integer f n i z) (argument_of t i)

-- whether a clause with this head is called
abbrev pub leads : Called → Tree → Bool
leads k t = fits_in k t && heads (key_of k) t

abbrev pub is_before : ℕ → Option ℕ → Bool
is_before i None = false
is_before i (Some j) = nat_lt j i

-- whether it is called for a constant at a place before the i-th
abbrev pub leads_before : ℕ → Called → Tree → Bool
leads_before i k t = is_before i (place_of k) && leads k t

-- whether clauses for this argument at the i-th place are called
abbrev pub is_for : ℕ → ℕ → ℕ → Tree → Called → Bool
is_for f n i (atom a) k = is_called (Atom f n i a) k
is_for f n i (int z) k = is_called (Integer f n i z) k
is_for f n i _ k = false

-- whether a head of the predicate has a variable at the place
abbrev pub heads_open : Place → Tree → Bool
heads_open k t = is_variable (argument_of t k.1) && heads k.0 t

-- the same, of places before the i-th
abbrev pub is_open_before : ℕ → Place → Tree → Bool
is_open_before i k t = nat_lt k.1 i && heads_open k t

-- whether a clause of the predicate has a variable at the place
abbrev pub is_open : Place → Program → Bool
is_open k p = list_any (λ c. heads_open k c.head) p

abbrev pub clauses_for : Called → Program → Program
clauses_for k p = filter (λ c. leads k c.head) p

-- the clauses for all of them; those for a constant are there again where all of their predicate are called
abbrev pub all_called : List Called → Program → Program
all_called ks p = flat_map (λ k. clauses_for k p) ks

abbrev pub contribution : List Called → Program → Called → Program
contribution ks p k = if is_beside ks k then [] else clauses_for k p

-- the clauses for some of those that are called, each once
abbrev pub gathered : List Called → List Called → Program → Program
gathered ks ls p = flat_map (contribution ks p) ls

-- ---- goals

-- whether no clause is left out that has a variable in the place of the constant
abbrev pub is_closed : Program → Called → Bool
is_closed p (Whole f n) = true
is_closed p (Atom f n i a) = not (is_open ((f, n), i) p)
is_closed p (Integer f n i z) = not (is_open ((f, n), i) p)

-- whether all clauses that a goal, whatever its variables are, can unify with are called by this: those of its predicate, or those
-- for one of its arguments, where none has a variable there
abbrev pub answers : Program → Called → Tree → Bool
answers p k t = is_closed p k && leads k t

abbrev pub is_among : Program → List Called → Tree → Bool
is_among p ks t = list_any (λ k. answers p k t) ks

abbrev pub IsAmong : Program → List Called → Tree → Type 0
IsAmong p ks t = is_among p ks t ≡ true

abbrev pub AreAmong : Program → List Called → Trees → Type 0
AreAmong p ks none = Unit {0}
AreAmong p ks (more t ts) = IsAmong p ks t × AreAmong p ks ts

abbrev pub BodyIsAmong : Program → List Called → Clause → Type 0
BodyIsAmong p ks c = AreAmong p ks (plain_goals c.body)

-- all clauses are called that a goal of these clauses can unify with
abbrev pub CallsAmong : Program → List Called → Program → Type 0
CallsAmong p ks cs = All (BodyIsAmong p ks) cs

-- the same where it can be called at all
abbrev pub IsNamed : Program → List Called → Tree → Type 0
IsNamed p ks t = IsTrue (callable t) → IsAmong p ks t

abbrev pub AreNamed : Program → List Called → Trees → Type 0
AreNamed p ks none = Unit {0}
AreNamed p ks (more t ts) = IsNamed p ks t × AreNamed p ks ts

abbrev pub IsPartNamed : Program → List Called → Part → Type 0
IsPartNamed p ks (call t) = IsNamed p ks t
IsPartNamed p ks (group cs ts) = AreNamed p ks ts

-- What is called has all that a goal of the query, of what is lifted from it, or of the clauses that are called can unify with.
pub record Reaches (p : Program) (q : Query) (ks : List Called) : Type 0 where
  pub question : BodyIsAmong p ks q.question
  pub lifted : CallsAmong p ks q.lifted
  pub called : CallsAmong p ks (all_called ks p)

-- A part of a program that has all that a query's search can call: some of its clauses are called, each is there once, and
-- among them are all that a goal of these clauses or of the query can unify with.
pub record IsReached (p : Program) (q : Query) (r : Program) : Type 0 where
  pub called : List Called
  pub once : IsDistinct is_called called
  pub placed : ArePlaced called
  pub clauses : r ≡ gathered called called p
  pub among : CallsAmong p called (joined r q)
