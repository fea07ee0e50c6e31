-- A comparison, turn by turn, with pairs that are assumed to be equal.
use Rattle.std.proofs.Common.{◌≡◌, ℕ, zero, suc, ◌+◌, ◌-◌, ◌<◌, List, [], ◌∷◌, ◌++◌, Option, Some, sym, ap, ◌∙◌, subst, arith, get_or}
use Rattle.ap_term.specs.Tree.{Tree, node}
use Rattle.ap_cells.specs.Trees.{tree_at, span}
use Rattle.ap_cells.specs.Walks.{weight_all}
use Rattle.ap_cells.specs.Assumed.{below, IsBelow, AreBelow}
use Rattle.ap_cells.specs.declared.pairs.Pairs.{Pairs}
use Rattle.ap_cells.proofs.Walks.{Each-push, Each-pop, span-first}
use Rattle.ap_cells.proofs.Assumed.{below-none, span-below, Look-opened, IsBelow-first, more_head, more_tail}
use Rattle.ap_marks.specs.Classes.{Links, Agrees, no_links}
use Rattle.ap_checks.specs.Pairs.{AreSame, AllSame}
use Rattle.ap_checks.specs.Shared.{known, Compared, Going}

-- a pair that is taken apart, and maybe assumed
pub Compared-opened : (ts : List Tree) (v u : Links) (p q a l r n : ℕ) → tree_at ts p ≡ node a (span ts l n) → tree_at ts q ≡ node a (span ts r n)
    → ((f : ℕ → Option Tree) → Agrees f u → Agrees f v) → ((f : ℕ → Option Tree) → Agrees f v → f p ≡ f q → Agrees f u)
    → (rs : List Pairs) → Compared ts rs (rs ++ record { left = l; right = r; count = n } ∷ []) v u p q
Compared-opened ts v u p q a l r n e f older more_links rs = record {
  sound = λ s g h. (Each-push (AreSame ts) rs (record { left = l; right = r; count = n }) s (args_of (sym e ∙ h ∙ f)), more_links (known ts) g (ap Some h));
  look = Look-opened ts rs v u p q a l r n e f older more_links;
}
  where
    args_of : node a (span ts l n) ≡ node a (span ts r n) → span ts l n ≡ span ts r n
    args_of k = cc

pub Going-start : (ts : List Tree) (rs : List Pairs) (v : Links) → v ≡ no_links → Going ts rs rs v
Going-start ts rs v e = record {
  sound = λ s. (s, subst (Agrees (known ts)) (sym e) (λ k h. absurd (omega arith)));
  begun = λ w b g. b;
  closes = λ w b g. subst (Agrees (below ts (suc w))) (sym e) (λ k h. absurd (omega arith));
}

-- one run with what became of its first pair
pub Going-on : (ts : List Tree) (start old popped rest new : List Pairs) (v u : Links) (r : Pairs) → 0 < r.count → old ≡ popped ++ r ∷ []
    → (AllSame ts popped → span ts (r.left + 1) (r.count - 1) ≡ span ts (r.right + 1) (r.count - 1) → AllSame ts rest)
    → ((w : ℕ) → AreBelow ts w rest → AreBelow ts w popped × IsBelow ts w (record { left = r.left + 1; right = r.right + 1; count = r.count - 1 }))
    → Compared ts rest new v u r.left r.right → Going ts start old v → Going ts start new u
Going-on ts start old popped rest new v u r n e same split look g = record {
  sound = λ s.
      let a = g.sound s in
      let b = Each-pop (AreSame ts) popped r (subst (AllSame ts) e a.0) in
      let c = sym (span-first ts r.left r.count n) ∙ b.1 ∙ span-first ts r.right r.count n in
      let c0 = more_head (tree_at ts r.left) (tree_at ts r.right) (span ts (r.left + 1) (r.count - 1)) (span ts (r.right + 1) (r.count - 1)) c in
      let c1 = more_tail (tree_at ts r.left) (tree_at ts r.right) (span ts (r.left + 1) (r.count - 1)) (span ts (r.right + 1) (r.count - 1)) c in
      look.sound (same b.0 c1) a.1 c0;
  begun = λ w b h. g.begun w (back w b h) (look.look.older w h);
  closes = λ w b h. look.look.closes w b (g.closes w (back w b h) (look.look.older w h));
}
  where
    back : (w : ℕ) → AreBelow ts w new → Agrees (below ts w) u → AreBelow ts w old
    back w b h =
        let k = split w (look.look.pairs w b h) in
        subst (AreBelow ts w) (sym e) (Each-push (IsBelow ts w) popped r k.0 (IsBelow-first ts w r (look.look.pair w b h) k.1))

-- an empty run taken off
pub Going-empty : (ts : List Tree) (start old popped : List Pairs) (v : Links) (r : Pairs) → r.count ≡ 0 → old ≡ popped ++ r ∷ [] → Going ts start old v → Going ts start popped v
Going-empty ts start old popped v r z e g = record {
  sound = λ s. let a = g.sound s in ((Each-pop (AreSame ts) popped r (subst (AllSame ts) e a.0)).0, a.1);
  begun = λ w b h. g.begun w (back w b) h;
  closes = λ w b h. g.closes w (back w b) h;
}
  where
    back : (w : ℕ) → AreBelow ts w popped → AreBelow ts w old
    back w b = subst (AreBelow ts w) (sym e) (Each-push (IsBelow ts w) popped r b (λ k i. absurd (omega arith)))

-- nothing is left: what is assumed holds, up to any weight
all_agree : (ts : List Tree) (start : List Pairs) (v : Links) → Going ts start [] v → (w : ℕ) → Agrees (below ts w) v
all_agree ts start v g zero = λ k h. below-none ts (get_or v.froms k 0) (get_or v.tos k 0)
all_agree ts start v g (suc w) = g.closes w tt (all_agree ts start v g w)

pair_same : (ts : List Tree) (r : Pairs) → ((w : ℕ) → IsBelow ts w r) → AreSame ts r
pair_same ts r h = span-below ts (weight_all (span ts r.left r.count) + 1) r.left r.right r.count (h (weight_all (span ts r.left r.count) + 1)) (omega arith)

all_same : (ts : List Tree) (rs : List Pairs) → ((w : ℕ) → AreBelow ts w rs) → AllSame ts rs
all_same ts [] h = tt
all_same ts (r ∷ rs) h = (pair_same ts r (λ w. (h w).0), all_same ts rs (λ w. (h w).1))

pub Going-ends : (ts : List Tree) (start rs : List Pairs) (v : Links) → rs ≡ [] → Going ts start rs v → AllSame ts start
Going-ends ts start rs v e g =
    let h : Going ts start [] v = subst (λ qs. Going ts start qs v) e g in
    all_same ts start (λ w. h.begun w tt (all_agree ts start v h w))
