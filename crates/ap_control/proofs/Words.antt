-- Words that tell of arguments, and what is asked of those.
use Rattle.std.proofs.Common.{◌≡◌, ℕ, inl, inr, Bool, true, false, Some, None, List, refl, ap, sym, ◌∙◌, subst, arith}
use Rattle.std.specs.List.{AllByRecursion}
use Rattle.ap_term.specs.Tree.{Tree}
use Rattle.ap_cells.specs.declared.cells.Raw.{Raw}
use Rattle.ap_cells.specs.Trees.{tree_at, trees}
use Rattle.ap_instr.specs.Code.{Compiled}
use Rattle.ap_index.specs.declared.key.Key.{Key}
use Rattle.ap_index.specs.declared.key.Key.TheVariants.{Atom, Integer, Structure}
use Rattle.ap_index.specs.declared.word.Word.{Word}
use Rattle.ap_index.specs.declared.word.Short.{Short}
use Rattle.ap_index.specs.declared.choice.Choice.{Choice}
use Rattle.ap_index.specs.Index.{IsChoiceOf}
use Rattle.ap_index.specs.Keys.{same_key, IsKeyOf}
use Rattle.ap_index.specs.Heads.{IsMet}
use Rattle.ap_index.specs.Words.{word_of, word_or_nothing, HasAsked}
use Rattle.ap_match.specs.Fits.{Fits}
use Rattle.ap_match.proofs.Maps.{fits-own}
use Rattle.ap_control.specs.declared.choosing.Fit.{Fit}
use Rattle.ap_control.specs.declared.choosing.Fit.TheVariants.{Has, Takes, Lacks, Open}
use Rattle.ap_control.specs.declared.choosing.Known.{Known}
use Rattle.ap_control.specs.Choosing.{Under, both, Alike, IsWordAt, IsKnown, IsWordFit, IsOtherFit, AreWordsFit, chance_by, IsChance}
use Rattle.ap_control.proofs.Keys.{clash}
use Rattle.ap_index.proofs.Same.{true-same}
use Rattle.ap_control.proofs.Fitting.{takes-key, both-under, under-same, chance-by}

-- one key has one word
same-words : (a b : Key) → word_of a ≡ word_of b → a ≡ b
same-words (Atom a) (Atom b) e = let v = ap (λ (w : Word). w.value) e in let n : a ≡ b = cc in ap (λ n. Atom n) n
same-words (Integer a) (Integer b) e = ap (λ n. Integer n) (ap (λ (w : Word). w.value) e)
same-words (Structure f n) (Structure g m) e =
    let k = ap (λ (w : Word). w.kind) e in
    let v = ap (λ (w : Word). w.value) e in
    let p : f ≡ g = cc in
    let q : n ≡ m = omega (arith, k) in
    ap (λ h. Structure h n) p ∙ ap (λ i. Structure g i) q
same-words (Atom a) (Integer b) e = let k = ap (λ (w : Word). w.kind) e in absurd (let z : ⊥ = omega (arith, k) in z)
same-words (Atom a) (Structure g m) e = let k = ap (λ (w : Word). w.kind) e in absurd (let z : ⊥ = omega (arith, k) in z)
same-words (Integer a) (Atom b) e = let k = ap (λ (w : Word). w.kind) e in absurd (let z : ⊥ = omega (arith, k) in z)
same-words (Integer a) (Structure g m) e = let k = ap (λ (w : Word). w.kind) e in absurd (let z : ⊥ = omega (arith, k) in z)
same-words (Structure f n) (Atom b) e = let k = ap (λ (w : Word). w.kind) e in absurd (let z : ⊥ = omega (arith, k) in z)
same-words (Structure f n) (Integer b) e = let k = ap (λ (w : Word). w.kind) e in absurd (let z : ⊥ = omega (arith, k) in z)

-- a key's kind is another one than that of nothing, and of an unbound variable
kind-of : (key : Key) (n : ℕ) → (word_of key).kind ≡ n → (n ≡ 0 → ⊥) × (n ≡ 1 → ⊥)
kind-of (Atom a) n e = ((λ z. omega (arith, e, z)), (λ z. omega (arith, e, z)))
kind-of (Integer a) n e = ((λ z. omega (arith, e, z)), (λ z. omega (arith, e, z)))
kind-of (Structure f m) n e = ((λ z. omega (arith, e, z)), (λ z. omega (arith, e, z)))

-- a tree has one key
one-key : (a b : Key) (t : Tree) → IsKeyOf a t → IsKeyOf b t → a ≡ b
one-key a b t h g = go (same_key a b) refl
  where
    go : (s : Bool) → same_key a b ≡ s → a ≡ b
    go true q = true-same a b q
    go false q = absurd (clash a b t q h g)

-- nothing is asked
pub word-none : (own asked : Word) → asked.kind ≡ 0 → IsWordFit own asked Has
word-none own asked none None e cs p h = λ k fits. tt
word-none own asked none (Some key) e cs p h = absurd ((kind-of key asked.kind (ap (λ (w : Word). w.kind) (sym e))).0 none)

-- of an unbound variable
pub word-takes : (own asked : Word) → own.kind ≡ 1 → IsWordFit own asked Takes
word-takes own asked one o e cs p (inl z) = absurd (let w : ⊥ = omega (arith, one, z) in w)
word-takes own asked one None e cs p (inr (inl h)) = (tree_at (trees cs), fits-own cs, tt)
word-takes own asked one (Some key) e cs p (inr (inl h)) = takes-key cs p h.1 key h.2
word-takes own asked one o e cs p (inr (inr h)) = absurd ((kind-of h.0 own.kind (ap (λ (w : Word). w.kind) (sym h.1))).1 one)

module _ (own asked : Word) (some : own.kind ≡ 0 → ⊥) (bound : own.kind ≡ 1 → ⊥) where
  -- of the key that is asked
  pub word-has : own ≡ asked → IsWordFit own asked Has
  word-has same None e cs p h = λ k fits. tt
  word-has same (Some key) e cs p (inl z) = absurd (some z)
  word-has same (Some key) e cs p (inr (inl h)) = absurd (bound h.0)
  word-has same (Some key) e cs p (inr (inr h)) = λ k fits. subst (λ q. IsKeyOf q (k p)) (same-words h.0 key (sym h.1 ∙ same ∙ e)) (h.2 k fits)

  -- of another one
  pub word-lacks : (asked.kind ≡ 0 → ⊥) → (own ≡ asked → ⊥) → IsWordFit own asked Lacks
  word-lacks any other None e cs p h = absurd (any (ap (λ (w : Word). w.kind) e))
  word-lacks any other (Some key) e cs p (inl z) = absurd (some z)
  word-lacks any other (Some key) e cs p (inr (inl h)) = absurd (bound h.0)
  word-lacks any other (Some key) e cs p (inr (inr h)) = λ k fits met. other (h.1 ∙ ap word_of (one-key h.0 key (k p) (h.2 k fits) met) ∙ sym e)

pub has-both : (f : Fit) → both Has f ≡ f
has-both Has = refl
has-both Takes = refl
has-both Lacks = refl
has-both Open = refl

-- of another argument than the first
pub other-none : (known : Known) (asked : Short) → asked.second.kind ≡ 0 → IsOtherFit known asked Has
other-none known asked none None e cs x n is z alike = λ k fits. tt
other-none known asked none (Some key) e cs x n is z alike = absurd ((kind-of key asked.second.kind (ap (λ (w : Word). w.kind) (sym e))).0 none)

pub other-told : (known : Known) (asked : Short) (f : Fit) → asked.argument ≡ known.argument → IsWordFit known.second asked.second f → IsOtherFit known asked f
other-told known asked f same h q e cs x n is z alike = subst (λ a. Under cs (λ k. HasAsked q (k (z a))) f) (sym same) (h q e cs (z known.argument) (is z alike))

-- of two arguments
pub words-both : (known : Known) (asked : Short) (f g : Fit) → IsWordFit known.first.word asked.first f → IsOtherFit known asked g → AreWordsFit known asked (both f g)
words-both known asked f g h i o q e r cs x n is z alike =
    both-under cs (λ k. HasAsked o (k (z 1))) (λ k. HasAsked q (k (z asked.argument))) f g (h o e cs (z 1) (is.0.0 z alike)) (i q r cs x n is.1 z alike)

-- of all that is asked in short
module _ (code : Compiled) (cs : List Raw) (x : ℕ → ℕ) (n : ℕ) (known : Known) (c : Choice) (is : IsChoiceOf code c) (knows : IsKnown cs x n known) where
  module _ (f : Fit) (h : AreWordsFit known c.short f) where
    two : (z : ℕ → ℕ) → Alike n x z → Under cs (λ k. HasAsked is.short.first (k (z 1)) × HasAsked is.short.second (k (z c.short.argument))) f
    two = h is.short.first is.short.second is.short.first_is is.short.second_is cs x n knows

    -- where no more is asked
    pub chance-by-words : c.short.more ≡ false → IsChance code cs x n c.named.place (chance_by f c.head.whole)
    chance-by-words more = chance-by code cs x n c.named.place c.head is.head f (λ z alike.
        under-same cs (λ k. HasAsked is.short.first (k (z 1)) × HasAsked is.short.second (k (z c.short.argument))) (λ k. AllByRecursion (IsMet (λ w. k (z w))) c.head.asks.items) f
        (λ k u. is.short.enough more (λ w. k (z w)) u.0 u.1) (λ k. is.short.needed (λ w. k (z w))) (two z alike))

  -- where that can't be
  pub never-by-words : AreWordsFit known c.short Lacks → IsChance code cs x n c.named.place (chance_by Lacks c.head.whole)
  never-by-words h = chance-by code cs x n c.named.place c.head is.head Lacks (λ z alike k fits met. two Lacks h z alike k fits (is.short.needed (λ w. k (z w)) met))

-- a word of a key that a place's tree has
pub word-of-key : (cs : List Raw) (p : ℕ) (w : Word) (key : Key) → w ≡ word_of key → ((k : ℕ → Tree) → Fits cs k → IsKeyOf key (k p)) → IsWordAt cs p w
word-of-key cs p w key e h = inr (inr (key, e, h))

-- nothing is told
pub word-unknown : (cs : List Raw) (p : ℕ) (w : Word) → w ≡ word_or_nothing None → IsWordAt cs p w
word-unknown cs p w e = inl (ap (λ (v : Word). v.kind) e)

-- where the first of two can't be what is asked of it
pub words-lack : (known : Known) (asked : Short) → IsWordFit known.first.word asked.first Lacks → AreWordsFit known asked Lacks
words-lack known asked h o q e r cs x n is z alike = λ k fits met. h o e cs (z 1) (is.0.0 z alike) k fits met.0
