-- A structure: its arguments are built and then its own cell, or it is there.
use Rattle.std.proofs.Common.{◌≡◌, ℕ, zero, suc, ◌+◌, ◌-◌, ◌<◌, ◌≤◌, true, false, List, [], ◌∷◌, length, inl, inr, refl, ap, sym, ◌∙◌, subst, arith}
use Rattle.std.proofs.lemmas.Bool.{cases_lt}
use Rattle.ap_term.specs.Tree.{Tree, Trees, node, none, more, count_trees, size, size_all}
use Rattle.ap_cells.specs.declared.cells.Raw.{Raw}
use Rattle.ap_instr.specs.Step.{Step, get_structure, put_structure}
use Rattle.ap_instr.specs.Runs.{Runs, set, spread}
use Rattle.ap_instr.proofs.Registers.{spread-agree, set-above, count-spread}
use Rattle.ap_match.specs.Fits.{Fits, Agree, Answered}
use Rattle.ap_match.proofs.Maps.{fits-agree, set-here, set-below}
use Rattle.ap_steps.specs.Moves.{Asked, Moves, IsStuck}
use Rattle.ap_steps.specs.Arguments.{AskedInside, Built, BuiltOr, BuiltAll, IsStuckInside}
use Rattle.ap_steps.specs.Found.{MovesInside, IsStuckBefore}
use Rattle.ap_steps.proofs.RegisterMaps.{set-of}
use Rattle.ap_steps.proofs.Steps.{same-held, Runs-agree}

-- ---- one argument after another

pub BuiltAll-more : (count : ℕ) (cs ds es : List Raw) (x y x' y' x'' y'' : ℕ → ℕ) (js is : List Step) (i : Step) → BuiltAll count cs x y js ds x' y' (i ∷ is) → Built ds x' y' i es x'' y'' → BuiltAll (count + 1) cs x y js es x'' y'' is
BuiltAll-more count cs ds es x y x' y' x'' y'' js is i a b = record {
  longer = let p : length ds ≡ length cs + count = a.longer in let q : length es ≡ length ds + 1 = b.longer in omega arith;
  forth = λ l m total bs e h.
      let p : length cs + count ≡ length ds = sym a.longer in
      let q : length ds + 1 ≡ length cs + (count + 1) = let r : length ds ≡ length cs + count = a.longer in omega arith in
      let t : total ≡ count + suc m = omega arith in
      subst (λ n. AskedInside es x'' y'' is (spread l n m) l bs) q (b.forth l m is bs (subst (λ n. AskedInside ds x' y' (i ∷ is) (spread l n (suc m)) l bs) p (a.forth l (suc m) total bs t h)));
  back = λ l m total bs e h.
      let p : length ds ≡ length cs + count = a.longer in
      let q : length cs + (count + 1) ≡ length ds + 1 = omega arith in
      let t : total ≡ count + suc m = omega arith in
      a.back l (suc m) total bs t (subst (λ n. AskedInside ds x' y' (i ∷ is) (spread l n (suc m)) l bs) p (b.back l m is bs (subst (λ n. AskedInside es x'' y'' is (spread l n m) l bs) q h)));
}

-- an argument that can't be built
pub BuiltAll-stuck : (whole count total : ℕ) (cs ds es : List Raw) (x y x' y' x'' y'' : ℕ → ℕ) (js is : List Step) (i : Step) → count < total → BuiltAll count cs x y js ds x' y' (i ∷ is) → BuiltOr whole ds x' y' i es x'' y'' false → IsStuckInside whole total cs x y js
BuiltAll-stuck whole count total cs ds es x y x' y' x'' y'' js is i less a b = λ l bs apart h.
    let p : length cs + count ≡ length ds = sym a.longer in
    let m : ℕ = total - (count + 1) in
    let t : total ≡ count + suc m = omega arith in
    b l m is bs (apart (length ds) (omega arith) (omega arith)) (subst (λ n. AskedInside ds x' y' (i ∷ is) (spread l n (suc m)) l bs) p (a.forth l (suc m) total bs t h))

-- the code ends before the argument
pub BuiltAll-end : (whole count total : ℕ) (cs ds : List Raw) (x y x' y' : ℕ → ℕ) (js : List Step) → count < total → BuiltAll count cs x y js ds x' y' [] → IsStuckInside whole total cs x y js
BuiltAll-end whole count total cs ds x y x' y' js less a = λ l bs apart h. let m : ℕ = total - count in let t : total ≡ count + m = omega arith in (a.forth l m total bs t h).1

-- ---- the whole structure

pub node-args : (f g : ℕ) (ts us : Trees) → node f ts ≡ node g us → ts ≡ us
node-args f g ts us e = cc

pub node-name : (f g : ℕ) (ts us : Trees) → node f ts ≡ node g us → f ≡ g
node-name f g ts us e = cc

-- the map with the trees ts from place p on
laid : (ℕ → Tree) → ℕ → Trees → ℕ → Tree
laid k p none = k
laid k p (more t ts) = set (laid k (p + 1) ts) p t

laid-below : (k : ℕ → Tree) (p : ℕ) (ts : Trees) (w : ℕ) → w < p → laid k p ts w ≡ k w
unfolding laid
laid-below k p none w l = refl
laid-below k p (more t ts) w l = set-below (laid k (p + 1) ts) p w t l ∙ laid-below k (p + 1) ts w (omega arith)

spread-laid : (k : ℕ → Tree) (p : ℕ) (ts : Trees) → spread (laid k p ts) p (count_trees ts) ≡ ts
unfolding laid
spread-laid k p none = refl
spread-laid k p (more t ts) =
    ap (spread (laid k p (more t ts)) p) (let e : count_trees ts + 1 ≡ suc (count_trees ts) = omega arith in e)
    ∙ ap (λ u. more u (spread (laid k p (more t ts)) (p + 1) (count_trees ts))) (set-here (laid k (p + 1) ts) p t)
    ∙ ap (more t) (spread-agree (laid k p (more t ts)) (laid k (p + 1) ts) (p + 1) (count_trees ts) (λ w a b. set-above (laid k (p + 1) ts) p w t (omega arith)) ∙ spread-laid k (p + 1) ts)

-- the trees of a structure's arguments, laid out behind n cells, and the structure behind them
module _ (k : ℕ → Tree) (cells f n whole : ℕ) (ts : Trees) (is_whole : whole ≡ cells + n) (count : count_trees ts ≡ n) where
  laid_out : ℕ → Tree
  laid_out = set (laid k cells ts) whole (node f ts)

  laid_out-agree : Agree cells k laid_out
  unfolding laid_out
  laid_out-agree i b = sym (set-below (laid k cells ts) whole i (node f ts) (omega arith) ∙ laid-below k cells ts i b)

  laid_out-args : spread laid_out cells n ≡ ts
  unfolding laid_out
  laid_out-args =
      spread-agree laid_out (laid k cells ts) cells n (λ w p q. set-below (laid k cells ts) whole w (node f ts) (omega arith)) ∙ ap (spread (laid k cells ts) cells) (sym count) ∙ spread-laid k cells ts

  laid_out-whole : laid_out whole ≡ node f ts
  unfolding laid_out
  laid_out-whole = set-here (laid k cells ts) whole (node f ts)

-- an argument is smaller than the structure
size-argument : (k : ℕ → Tree) (p n w : ℕ) → p ≤ w → w < p + n → size (k w) < size_all (spread k p n)
size-argument k p zero w a b = absurd (omega arith)
size-argument k p (suc n) w a b = elim (cases_lt p w) [
  | inl l ↦ let e : size (k w) < size_all (spread k (p + 1) n) = size-argument k (p + 1) n w (omega arith) (omega arith) in omega arith
  | inr l ↦ let e : p ≡ w = omega arith in let q : size (k p) ≡ size (k w) = ap (λ i. size (k i)) e in omega arith
]

structure-apart : (k : ℕ → Tree) (f p n whole : ℕ) → k whole ≡ node f (spread k p n) → (w : ℕ) → p ≤ w → w < p + n → k whole ≡ k w → ⊥
structure-apart k f p n whole e w a b q =
    let s : size (k whole) ≡ size_all (spread k p n) + 1 = ap size e in
    let r : size (k whole) ≡ size (k w) = ap size q in
    let l : size (k w) < size_all (spread k p n) = size-argument k p n w a b in
    omega arith

-- ---- a structure that is put into a register

module _ (cs : List Raw) (x y : ℕ → ℕ) (inside_x : (w : ℕ) → x w < length cs) (inside_y : (w : ℕ) → y w < length cs) (f n a whole : ℕ) (is_whole : whole ≡ length cs + n) (js : List Step) where
  -- the trees that the step asks for have places behind the cells
  begun : (k : ℕ → Tree) (bs : Trees) → Asked cs x y (put_structure f n a ∷ js) k bs
      → (l : ℕ → Tree) × Agree (length cs) k l × (l whole ≡ node f (spread l (length cs) n)) × AskedInside cs (set x a whole) y js (spread l (length cs) n) l bs
  begun k bs h =
      let ts : Trees = h.1.0 in
      let l : ℕ → Tree = laid_out k (length cs) f n whole ts is_whole h.1.1 in
      let agree : Agree (length cs) k l = laid_out-agree k (length cs) f n whole ts is_whole h.1.1 in
      let args : spread l (length cs) n ≡ ts = laid_out-args k (length cs) f n whole ts is_whole h.1.1 in
      let here : l whole ≡ node f ts = laid_out-whole k (length cs) f n whole ts is_whole h.1.1 in (
        l,
        agree,
        here ∙ ap (node f) (sym args),
        (
          fits-agree cs k l agree h.0,
          subst (λ us. Runs js us (λ w. l (set x a whole w)) (λ w. l (y w)) bs) (sym args)
              (subst (λ u. Runs js ts u (λ w. l (y w)) bs) (sym (set-of l x a whole))
              (subst (λ t. Runs js ts (set (λ w. l (x w)) a t) (λ w. l (y w)) bs) (sym here)
              (subst (λ u. Runs js ts (set u a (node f ts)) (λ w. l (y w)) bs) (same-held (length cs) k l agree x inside_x)
              (subst (λ u. Runs js ts (set (λ w. k (x w)) a (node f ts)) u bs) (same-held (length cs) k l agree y inside_y) h.1.2)))),
        ),
      )

  ended : (l : ℕ → Tree) (bs : Trees) → l whole ≡ node f (spread l (length cs) n) → AskedInside cs (set x a whole) y js (spread l (length cs) n) l bs → Asked cs x y (put_structure f n a ∷ js) l bs
  ended l bs e h =
      (h.0, (spread l (length cs) n, count-spread l (length cs) n, subst (λ t. Runs js (spread l (length cs) n) (set (λ w. l (x w)) a t) (λ w. l (y w)) bs) e (subst (λ u. Runs js (spread l (length cs) n) u (λ w. l (y w)) bs) (set-of l x a whole) h.1)))

  -- all arguments have their cells, and the structure has its own behind them
  pub structure-built : (ds es : List Raw) (x' y' : ℕ → ℕ) (is : List Step) → BuiltAll n cs (set x a whole) y js ds x' y' is → length ds ≤ length es
      → ((l : ℕ → Tree) → Fits es l → Fits ds l × (l whole ≡ node f (spread l (length cs) n))) → ((l : ℕ → Tree) → Fits ds l → l whole ≡ node f (spread l (length cs) n) → Fits es l) → Moves cs x y (put_structure f n a ∷ js) es x' y' is
  structure-built ds es x' y' is b longer only all = record {
    longer = let p : length ds ≡ length cs + n = b.longer in omega arith;
    forth = λ k bs h.
        let g = begun k bs h in
        let l : ℕ → Tree = g.0 in
        let r = b.forth l 0 n bs (omega arith) g.3 in
        (l, g.1, (all l r.0 g.2, r.1));
    back = λ l bs h. let o = only l h.0 in ended l bs o.1 (b.back l 0 n bs (omega arith) (o.0, h.1));
  }

  -- one of the arguments can't be built
  pub structure-stuck : IsStuckInside whole n cs (set x a whole) y js → IsStuck cs x y (put_structure f n a ∷ js)
  structure-stuck stuck k bs h = let g = begun k bs h in stuck g.0 bs (structure-apart g.0 f (length cs) n whole g.2) g.3

-- ---- a structure that an argument is to be

module _ (cs : List Raw) (x y : ℕ → ℕ) (f n a : ℕ) (js : List Step) where
  ended-got : (l : ℕ → Tree) (p : ℕ) (bs : Trees) → l (x a) ≡ node f (spread l p n) → AskedInside cs x y js (spread l p n) l bs → Asked cs x y (get_structure f n a ∷ js) l bs
  ended-got l p bs e h = (h.0, (spread l p n, count-spread l p n, e, h.1))

  -- it is there
  module _ (p : ℕ) (found : (k : ℕ → Tree) → Fits cs k → k (x a) ≡ node f (spread k p n)) where
    begun-found : (k : ℕ → Tree) (bs : Trees) → Asked cs x y (get_structure f n a ∷ js) k bs → AskedInside cs x y js (spread k p n) k bs
    begun-found k bs h = (h.0, subst (λ us. Runs js us (λ w. k (x w)) (λ w. k (y w)) bs) (node-args f f h.1.0 (spread k p n) (sym h.1.2 ∙ found k h.0)) h.1.3)

    pub structure-found : (ds : List Raw) (x' y' : ℕ → ℕ) (is : List Step) (q : ℕ) → MovesInside cs x y js p n ds x' y' is q 0 → Moves cs x y (get_structure f n a ∷ js) ds x' y' is
    structure-found ds x' y' is q b = record {
      longer = b.longer;
      forth = λ k bs h. b.forth k bs (begun-found k bs h);
      back = λ l bs h. let r = b.back l bs h in ended-got l p bs (found l r.0) r;
    }

    pub found-stuck : IsStuckBefore cs x y js p n → IsStuck cs x y (get_structure f n a ∷ js)
    found-stuck stuck k bs h = stuck k bs (begun-found k bs h)

  -- another term is there
  pub another-stuck : ((k : ℕ → Tree) (ts : Trees) → Fits cs k → count_trees ts ≡ n → k (x a) ≡ node f ts → ⊥) → IsStuck cs x y (get_structure f n a ∷ js)
  another-stuck apart k bs h = apart k h.1.0 h.0 h.1.1 h.1.2

  -- it is built, and the argument is made equal to it
  module _ (inside_x : (w : ℕ) → x w < length cs) (inside_y : (w : ℕ) → y w < length cs) where
    begun-got : (k : ℕ → Tree) (bs : Trees) → Asked cs x y (get_structure f n a ∷ js) k bs
        → (l : ℕ → Tree) × Agree (length cs) k l × (l (length cs + n) ≡ node f (spread l (length cs) n)) × (l (x a) ≡ node f (spread l (length cs) n)) × AskedInside cs x y js (spread l (length cs) n) l bs
    begun-got k bs h =
        let ts : Trees = h.1.0 in
        let whole : ℕ = length cs + n in
        let l : ℕ → Tree = laid_out k (length cs) f n whole ts refl h.1.1 in
        let agree : Agree (length cs) k l = laid_out-agree k (length cs) f n whole ts refl h.1.1 in
        let args : spread l (length cs) n ≡ ts = laid_out-args k (length cs) f n whole ts refl h.1.1 in
        let here : l whole ≡ node f ts = laid_out-whole k (length cs) f n whole ts refl h.1.1 in (
          l,
          agree,
          here ∙ ap (node f) (sym args),
          sym (agree (x a) (inside_x a)) ∙ h.1.2 ∙ ap (node f) (sym args),
          (
            fits-agree cs k l agree h.0,
            subst (λ us. Runs js us (λ w. l (x w)) (λ w. l (y w)) bs) (sym args) (Runs-agree (length cs) k l agree x y inside_x inside_y js ts bs h.1.3),
          ),
        )

    pub got-stuck : IsStuckInside (length cs + n) n cs x y js → IsStuck cs x y (get_structure f n a ∷ js)
    got-stuck stuck k bs h = let g = begun-got k bs h in stuck g.0 bs (structure-apart g.0 f (length cs) n (length cs + n) g.2) g.4

    -- the argument and the cells behind the old ones
    module _ (ds es : List Raw) (x' y' : ℕ → ℕ) (is : List Step) (built : BuiltAll n cs x y js ds x' y' is) where
      pub got-apart : Answered ds es (λ k. k (x a) ≡ node f (spread k (length cs) n)) false → IsStuck cs x y (get_structure f n a ∷ js)
      got-apart never k bs h = let g = begun-got k bs h in let r = built.forth g.0 0 n bs (omega arith) g.4 in never g.0 r.0 g.3

      pub got-built : ((w : ℕ) → x' w < length ds) → ((w : ℕ) → y' w < length ds) → Answered ds es (λ k. k (x a) ≡ node f (spread k (length cs) n)) true → Moves cs x y (get_structure f n a ∷ js) es x' y' is
      got-built in_x in_y becomes = record {
        longer = let p : length ds ≡ length cs + n = built.longer in let q : length ds ≤ length es = becomes.longer in omega arith;
        forth = λ k bs h.
            let g = begun-got k bs h in
            let r = built.forth g.0 0 n bs (omega arith) g.4 in
            let e = becomes.each g.0 r.0 g.3 in (
              e.0,
              λ i b. g.1 i b ∙ e.1 i (let p : length ds ≡ length cs + n = built.longer in omega arith),
              (e.2, Runs-agree (length ds) g.0 e.0 e.1 x' y' in_x in_y is none bs r.1),
            );
        back = λ l bs h. let o = becomes.only l h.0 in ended-got l (length cs) bs o.1 (built.back l 0 n bs (omega arith) (o.0, h.1));
      }
