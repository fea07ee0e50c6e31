-- What is remembered of a copy stays right, and tells of copies.
use Rattle.std.proofs.Common.{◌≡◌, ℕ, List, [], ◌∷◌, ◌++◌, length, sym, subst, inl, inr}
use Rattle.ap_term.specs.Tree.{Tree, node}
use Rattle.ap_cells.specs.declared.cells.Raw.{Raw}
use Rattle.ap_cells.specs.declared.cells.Raw.TheVariants.{Node}
use Rattle.ap_cells.specs.Trees.{span}
use Rattle.ap_copy.specs.Copies.{IsCopy, Grown}
use Rattle.ap_copy.specs.Memory.{IsWith, IsEntry, Remembers}
use Rattle.ap_copy.specs.declared.copying.Frame.{Frame}
use Rattle.ap_copy.specs.declared.memory.Entry.{Entry}

module _ (ts : List Tree) (ks : List ℕ) where
  pub remembers-grown : (old new : List Raw) (es : List Entry) → Grown ks old new → Remembers ts ks old es → Remembers ts ks new es
  remembers-grown old new [] g r = tt
  remembers-grown old new (e ∷ es) g r = (g (Node e.name e.first e.count) (node e.name (span ts e.from e.count)) r.0, remembers-grown old new es g r.1)

  remembers-push : (block : List Raw) (es : List Entry) (e : Entry) → IsEntry ts ks block e → Remembers ts ks block es → Remembers ts ks block (es ++ e ∷ [])
  remembers-push block [] e h r = (h, tt)
  remembers-push block (x ∷ es) e h r = (r.0, remembers-push block es e h r.1)

  pub remembers-with : (block : List Raw) (old new : List Entry) (e : Entry) → IsWith e old new → IsEntry ts ks block e → Remembers ts ks block old → Remembers ts ks block new
  remembers-with block old new e (inl q) h r = subst (Remembers ts ks block) (sym q) r
  remembers-with block old new e (inr q) h r = subst (Remembers ts ks block) (sym q) (remembers-push block old e h r)

  -- one more term is copied, and maybe kept
  pub remembers-settled : (f : Frame) (old new : List Raw) (es fs : List Entry) (first : ℕ) → first ≡ length old → Grown ks old new
      → IsCopy ks new (Node f.name (length old) f.count) (node f.name (span ts f.first f.count)) → IsWith (record { name = f.name; count = f.count; from = f.first; first = first }) es fs
      → Remembers ts ks old es → Remembers ts ks new fs
  remembers-settled f old new es fs first q g p w m =
      remembers-with new es fs (record { name = f.name; count = f.count; from = f.first; first = first }) w
      (subst (λ n. IsCopy ks new (Node f.name n f.count) (node f.name (span ts f.first f.count))) (sym q) p) (remembers-grown old new es g m)
