-- Which predicates the table of code for a program has, and where their instructions are.
pub use Rattle.ap_term.specs.Lists.{Key, is_key}
use Rattle.std.specs.Prelude.{◌≡◌, ℕ, ◌≤◌, not, is_none, if◌then◌else◌, List, [], ◌∷◌, map, length, Option, Some, None}
use Rattle.std.specs.List.{IsDistinct, filter}
use Rattle.ap_term.specs.Tree.{Tree, atom, node, count_trees}
use Rattle.ap_term.specs.Builtins.{builtin}
use Rattle.ap_term.specs.Goals.{Program}
use Rattle.ap_tracked.specs.Tracked.{IsOneOf}
use Rattle.ap_instr.specs.declared.compiled.Predicate.{Predicate}
use Rattle.ap_instr.specs.Code.{Compiled}

abbrev pub key_of : Predicate → Key
key_of q = (q.name, q.arity)

abbrev pub goal_key : Tree → Option Key
goal_key (atom a) = Some (a, 0)
goal_key (node a ts) = Some (a, count_trees ts)
goal_key _ = None

-- the predicate of a head, which is none of the built-in goals
abbrev pub head_key : Tree → Option Key
head_key t = if is_none (builtin t) then goal_key t else None

-- a predicate before others, among which it isn't named again
abbrev pub first : Option Key → List Key → List Key
first None ks = ks
first (Some k) ks = k ∷ filter (λ l. not (is_key k l)) ks

-- the predicates that have a clause, in order of first clause
abbrev pub predicates_of : Program → List Key
predicates_of [] = []
predicates_of (c ∷ cs) = first (head_key c.head) (predicates_of cs)

-- the predicates' instructions stand one predicate's behind another's, from a place to the end
abbrev pub AreTiled : ℕ → List Predicate → ℕ → Type 0
AreTiled at [] end = at ≡ end
AreTiled at (q ∷ qs) end = (q.start ≡ at) × (at ≤ q.end) × AreTiled q.end qs end

-- The table has each predicate of these clauses, and none twice; those of the program are listed, in order of first clause,
-- and no others; and each instruction is of one predicate.
pub record IsWhole (code : Compiled) (p clauses : Program) : Type 0 where
  pub has : (k : Key) → IsOneOf k (predicates_of clauses) → IsOneOf k (map key_of code.predicates)
  pub once : IsDistinct is_key (map key_of code.predicates)
  pub listed : map key_of (filter (λ q. q.is_listed) code.predicates) ≡ predicates_of p
  pub tiled : AreTiled 0 code.predicates (length code.instructions)
