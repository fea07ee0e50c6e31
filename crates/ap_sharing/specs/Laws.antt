-- What the operations are worth.
use Rattle.std.specs.Prelude.{◌≡◌, ◌↔◌, ℕ, Bool, true, false, ◌||◌, List}
use Rattle.ap_term.specs.Tree.{Tree}
use Rattle.ap_term.specs.Substitution.{instance}
use Rattle.ap_term.specs.Independence.{IsGround, SharesNoVariable}
use Rattle.ap_sharing.specs.VarSet.{has, union}
use Rattle.ap_sharing.specs.Sets.{IsAscending, listed, join_sets, pairs, closure}
use Rattle.ap_sharing.specs.Share.{Share, Member, IsNormal, same_share, nonground, may_share, widen, norm, ground_share, unite_shares, project_share}
use Rattle.ap_sharing.specs.Covering.{CoversShare, only, Grounds}

-- sets with the same elements are one, and so are ascending lists with the same sets
pub record CanonicalLaw : Type 0 where
  pub one_set : (s t : ℕ) → ((x : ℕ) → has s x ≡ has t x) → s ≡ t
  pub one_list : (ss ts : List ℕ) → IsAscending ss → IsAscending ts → ((s : ℕ) → listed s ss ≡ listed s ts) → ss ≡ ts

-- joined lists have the sets of both and no others, each once and in order
pub record JoinLaw : Type 0 where
  pub ascending : (ss ts : List ℕ) → IsAscending ss → IsAscending (join_sets ss ts)
  pub members : (ss ts : List ℕ) (s : ℕ) → listed s (join_sets ss ts) ≡ (listed s ss || listed s ts)

-- equal Shares are those that `==` finds equal; the form in which a Share is kept is one, and stays as it is
pub record FormLaw : Type 0 where
  pub equal : (a b : Share) → (same_share a b ≡ true) ↔ (a ≡ b)
  pub normal : (sh : Share) → IsAscending sh.sets → IsNormal (norm sh)
  pub same : (sh : Share) → IsNormal sh → norm sh ≡ sh

-- the closure is the least list that has the sets and the union of each two of its own
pub record ClosureLaw : Type 0 where
  pub ascending : (ss : List ℕ) → IsAscending (closure ss)
  pub has_all : (ss : List ℕ) (s : ℕ) → listed s ss ≡ true → listed s (closure ss) ≡ true
  pub closed : (ss : List ℕ) (s t : ℕ) → listed s (closure ss) ≡ true → listed t (closure ss) ≡ true → listed (union s t) (closure ss) ≡ true
  pub least : (ss : List ℕ) (p : ℕ → Bool) → ((s : ℕ) → listed s ss ≡ true → p s ≡ true) → ((s t : ℕ) → p s ≡ true → p t ≡ true → p (union s t) ≡ true) → (s : ℕ) → listed s (closure ss) ≡ true → p s ≡ true

-- the pairs are the unions of one of the first and one of the second, and no others
pub record PairsLaw : Type 0 where
  pub ascending : (ss ts : List ℕ) → IsAscending (pairs ss ts)
  pub has_all : (ss ts : List ℕ) (s t : ℕ) → listed s ss ≡ true → listed t ts ≡ true → listed (union s t) (pairs ss ts) ≡ true
  pub no_others : (ss ts : List ℕ) (r : ℕ) → listed r (pairs ss ts) ≡ true → (s : ℕ) × (t : ℕ) × (listed s ss ≡ true) × (listed t ts ≡ true) × (union s t ≡ r)

-- what is covered stays covered
pub record CoveringLaw : Type 0 where
  pub ground : (sh : Share) (v : ℕ) (q : ℕ → Bool) (f u : ℕ → Tree) → Grounds v q f u → CoversShare sh f → CoversShare (ground_share sh v) (λ x. instance u (f x))
  pub unite_first : (a b : Share) (f : ℕ → Tree) → CoversShare a f → CoversShare (unite_shares a b) f
  pub unite_second : (a b : Share) (f : ℕ → Tree) → CoversShare b f → CoversShare (unite_shares a b) f
  pub project : (sh : Share) (keep : ℕ) (f : ℕ → Tree) → CoversShare sh f → CoversShare (project_share sh keep) (only keep f)
  pub widen : (sh : Share) (f : ℕ → Tree) → CoversShare sh f → CoversShare (widen sh) f
  pub norm : (sh : Share) (f : ℕ → Tree) → CoversShare sh f → CoversShare (norm sh) f

-- what a Share says of the instances that it covers; two variables may share exactly where a member has both, and a
-- variable may have a variable in its instance exactly where a member has it
pub record SharingLaw : Type 0 where
  pub together : (sh : Share) (x y : ℕ) → may_share sh x y ≡ true → (p : ℕ → Bool) × Member sh p × (p x ≡ true) × (p y ≡ true)
  pub shares : (sh : Share) (p : ℕ → Bool) (x y : ℕ) → Member sh p → p x ≡ true → p y ≡ true → may_share sh x y ≡ true
  pub of_a_member : (sh : Share) (x : ℕ) → has (nonground sh) x ≡ true → (p : ℕ → Bool) × Member sh p × (p x ≡ true)
  pub not_ground : (sh : Share) (p : ℕ → Bool) (x : ℕ) → Member sh p → p x ≡ true → has (nonground sh) x ≡ true
  pub apart : (sh : Share) (f : ℕ → Tree) (x y : ℕ) → CoversShare sh f → may_share sh x y ≡ false → SharesNoVariable (f x) (f y)
  pub ground : (sh : Share) (f : ℕ → Tree) (x : ℕ) → CoversShare sh f → has (nonground sh) x ≡ false → IsGround (f x)
