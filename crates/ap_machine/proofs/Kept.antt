-- What is kept when a store grows and when it goes back.
use Rattle.std.proofs.Common.{◌≡◌, ℕ, ◌<◌, ◌≤◌, List, [], ◌∷◌, ◌++◌, length, take, drop, map, get_or, set, ◌⊎◌, ◌≢◌, inl, inr, refl, ap, ap₂, sym, ◌∙◌, subst, arith}
use Rattle.std.specs.List.{AllByRecursion}
use Rattle.std.proofs.lemmas.List.{get_or-take, drop_all, get_or-set_same, get_or-set_other}
use Rattle.std.proofs.lemmas.Bool.{cases_eq}
use Rattle.ap_term.specs.Tree.{Tree, atom}
use Rattle.ap_term.specs.Substitution.{instance}
use Rattle.ap_cells.specs.declared.cells.Raw.{Raw}
use Rattle.ap_cells.specs.declared.cells.Raw.TheVariants.{Free, Atom}
use Rattle.ap_cells.specs.Trees.{trees, step, Stand, Finite}
use Rattle.ap_cells.specs.Store.{Store, freed, undone, IsMark, IsStore, Keeps}
use Rattle.ap_cells.proofs.Rounds.{trees_are}
use Rattle.ap_cells.proofs.Stores.{freed-length}
use Rattle.ap_match.specs.Fits.{Fits}
use Rattle.ap_environments.specs.Kept.{Moment, Forked}
use Rattle.ap_steps.specs.Moves.{held, HoldPlaces}
use Rattle.ap_steps.specs.Standing.{Return}
use Rattle.ap_standing.specs.Machine.{AreWithin}
use Rattle.ap_machine.specs.View.{pushed_of, point_of, segment_of}
use Rattle.ap_machine.specs.Sane.{HasBottom, IsMoment, AreMoments, moments_behind}

-- ---- more places

pub HoldPlaces-more : (n m : ℕ) (xs : List ℕ) → n ≤ m → HoldPlaces n xs → HoldPlaces m xs
HoldPlaces-more n m xs l h w = let k : held xs w < n = h w in omega arith

pub AreWithin-more : (n m : ℕ) (ws : List Return) → n ≤ m → AreWithin n ws → AreWithin m ws
AreWithin-more n m [] l h = tt
AreWithin-more n m (w ∷ ws) l h = (HoldPlaces-more n m w.y l h.0, AreWithin-more n m ws l h.1)

pub inside-more : (n m : ℕ) (rs : List ℕ) → n ≤ m → AllByRecursion (λ r. r < n) rs → AllByRecursion (λ r. r < m) rs
inside-more n m [] l h = tt
inside-more n m (r ∷ rs) l h = (let k : r < n = h.0 in omega arith, inside-more n m rs l h.1)

-- ---- some of the choice points

pub AreMoments-more : (v : Store) (xs ys : ℕ) (roots : List ℕ) (a b a' b' : ℕ) (ms : List Moment) → a ≤ a' → b ≤ b' → AreMoments v xs ys roots a b ms → AreMoments v xs ys roots a' b' ms
AreMoments-more v xs ys roots a b a' b' [] la lb h = tt
AreMoments-more v xs ys roots a b a' b' (m ∷ ms) la lb h = (let c : m.choice.cells ≤ a = h.0 in omega arith, let c : m.choice.trail ≤ b = h.1 in omega arith, h.2, h.3)

pub AreMoments-front : (v : Store) (xs ys : ℕ) (roots : List ℕ) (n t : ℕ) (ms ns : List Moment) → AreMoments v xs ys roots n t (ms ++ ns) → AreMoments v xs ys roots n t ms
AreMoments-front v xs ys roots n t [] ns h = tt
AreMoments-front v xs ys roots n t (m ∷ ms) ns h = (h.0, h.1, h.2, AreMoments-front v xs ys roots m.choice.cells m.choice.trail ms ns h.3)

pub AreMoments-behind : (v : Store) (xs ys : ℕ) (roots : List ℕ) (n t : ℕ) (ms ns : List Moment) → AreMoments v xs ys roots n t (ms ++ ns) → AreMoments v xs ys roots n t ns
AreMoments-behind v xs ys roots n t [] ns h = h
AreMoments-behind v xs ys roots n t (m ∷ ms) ns h =
    AreMoments-more v xs ys roots m.choice.cells m.choice.trail n t ns h.0 h.1 (AreMoments-behind v xs ys roots m.choice.cells m.choice.trail ms ns h.3)

-- ---- a store that keeps its marks

IsMoment-keeps : (v w : Store) (xs ys : ℕ) (roots : List ℕ) (m : Moment) → Keeps v w → IsMoment v xs ys roots m → IsMoment w xs ys roots m
IsMoment-keeps v w xs ys roots m k h =
    record { mark = k.stays m.choice.cells m.choice.trail h.mark; bottom = h.bottom; returns = h.returns; short = h.short; arguments = h.arguments; few = h.few; inside = h.inside }

AreMoments-keeps : (v w : Store) (xs ys : ℕ) (roots : List ℕ) (n t : ℕ) (ms : List Moment) → Keeps v w → AreMoments v xs ys roots n t ms → AreMoments w xs ys roots n t ms
AreMoments-keeps v w xs ys roots n t [] k h = tt
AreMoments-keeps v w xs ys roots n t (m ∷ ms) k h = (h.0, h.1, IsMoment-keeps v w xs ys roots m k h.2, AreMoments-keeps v w xs ys roots m.choice.cells m.choice.trail ms k h.3)

-- each mark is one of the store that there is now
pub AreMoments-now : (v w : Store) (xs ys : ℕ) (roots : List ℕ) (n t : ℕ) (ms : List Moment) → Keeps v w → AreMoments v xs ys roots n t ms → AreMoments w xs ys roots (length w.cells) (length w.trail) ms
AreMoments-now v w xs ys roots n t [] k h = tt
AreMoments-now v w xs ys roots n t (m ∷ ms) k h =
    let i : IsMoment w xs ys roots m = IsMoment-keeps v w xs ys roots m k h.2 in
    (i.mark.fewer, i.mark.earlier, i, AreMoments-keeps v w xs ys roots m.choice.cells m.choice.trail ms k h.3)

-- choice points stand for the same cells
pub points-keep : (v w : Store) (xs ys : ℕ) (roots : List ℕ) (n t : ℕ) (ms : List Moment) → Keeps v w → AreMoments v xs ys roots n t ms → map (point_of w) ms ≡ map (point_of v) ms
points-keep v w xs ys roots n t [] k h = refl
points-keep v w xs ys roots n t (m ∷ ms) k h =
    ap₂ (λ cs qs. record { cells = cs; returns = m.returns; arguments = m.arguments; predicate = m.choice.predicate; place = m.choice.place; behind = m.choice.behind } ∷ qs)
    (k.leads m.choice.cells m.choice.trail h.2.mark) (points-keep v w xs ys roots m.choice.cells m.choice.trail ms k h.3)

pub HasBottom-keeps : (v w : Store) → Keeps v w → HasBottom v → HasBottom w
HasBottom-keeps v w k h = record { mark = k.stays 1 0 h.mark; leads = k.leads 1 0 h.mark ∙ h.leads }

-- ---- back to a mark

module _ (v w : Store) (n t : ℕ)
    (older : (a b : ℕ) → a ≤ n → b ≤ t → IsMark v.cells v.trail a b → IsMark w.cells w.trail a b)
    (leads : (a b : ℕ) → a ≤ n → b ≤ t → IsMark v.cells v.trail a b → undone w a b ≡ undone v a b) where
  pub AreMoments-back : (xs ys : ℕ) (roots : List ℕ) (a b : ℕ) (ms : List Moment) → a ≤ n → b ≤ t → AreMoments v xs ys roots a b ms → AreMoments w xs ys roots a b ms
  AreMoments-back xs ys roots a b [] la lb h = tt
  AreMoments-back xs ys roots a b (m ∷ ms) la lb h =
      let ma : m.choice.cells ≤ a = h.0 in
      let mb : m.choice.trail ≤ b = h.1 in
      let i = h.2 in (
        h.0,
        h.1,
        record { mark = older m.choice.cells m.choice.trail (omega arith) (omega arith) i.mark; bottom = i.bottom; returns = i.returns; short = i.short; arguments = i.arguments; few = i.few; inside = i.inside },
        AreMoments-back xs ys roots m.choice.cells m.choice.trail ms (omega arith) (omega arith) h.3,
      )

  pub points-back : (xs ys : ℕ) (roots : List ℕ) (a b : ℕ) (ms : List Moment) → a ≤ n → b ≤ t → AreMoments v xs ys roots a b ms → map (point_of w) ms ≡ map (point_of v) ms
  points-back xs ys roots a b [] la lb h = refl
  points-back xs ys roots a b (m ∷ ms) la lb h =
      let ma : m.choice.cells ≤ a = h.0 in
      let mb : m.choice.trail ≤ b = h.1 in
      ap₂ (λ cs qs. record { cells = cs; returns = m.returns; arguments = m.arguments; predicate = m.choice.predicate; place = m.choice.place; behind = m.choice.behind } ∷ qs)
      (leads m.choice.cells m.choice.trail (omega arith) (omega arith) h.2.mark) (points-back xs ys roots m.choice.cells m.choice.trail ms (omega arith) (omega arith) h.3)

  pub segments-back : (xs ys : ℕ) (roots : List ℕ) (a b : ℕ) (fs : List Forked) → a ≤ n → b ≤ t → AreMoments v xs ys roots a b (moments_behind fs) → map (segment_of w) fs ≡ map (segment_of v) fs
  segments-back xs ys roots a b [] la lb h = refl
  segments-back xs ys roots a b (f ∷ fs) la lb h =
      let ma : f.fork.cells ≤ a = h.0 in
      let mb : f.fork.trail ≤ b = h.1 in
      let ps = points-back xs ys roots f.fork.cells f.fork.trail f.moments (omega arith) (omega arith) (AreMoments-front v xs ys roots f.fork.cells f.fork.trail f.moments (moments_behind fs) h.3) in
      let gs = segments-back xs ys roots f.fork.cells f.fork.trail fs (omega arith) (omega arith) (AreMoments-behind v xs ys roots f.fork.cells f.fork.trail f.moments (moments_behind fs) h.3) in
      ap (λ cs. record { forked = record { cells = cs; returns = drop f.fork.goals f.returns; goals = map pushed_of (take f.fork.goals f.returns) }; points = map (point_of w) f.moments } ∷ map (segment_of w) fs)
      (leads f.fork.cells f.fork.trail (omega arith) (omega arith) h.2.mark)
      ∙ ap₂ (λ qs hs. record { forked = record { cells = undone v f.fork.cells f.fork.trail; returns = drop f.fork.goals f.returns; goals = map pushed_of (take f.fork.goals f.returns) }; points = qs } ∷ hs) ps gs

  pub HasBottom-back : 1 ≤ n → HasBottom v → HasBottom w
  HasBottom-back l h = record { mark = older 1 0 l (omega arith) h.mark; leads = leads 1 0 l (omega arith) h.mark ∙ h.leads }

-- ---- place 0

freed-still : (xs : List ℕ) (cs : List Raw) (i : ℕ) (d : Raw) → i < length cs → (get_or (freed xs cs) i d ≡ Free → ⊥) → get_or (freed xs cs) i d ≡ get_or cs i d
freed-still [] cs i d l h = refl
freed-still (x ∷ xs) cs i d l h = go (cases_eq i x) (freed-still xs cs i d l)
  where
    go : (i ≡ x) ⊎ (i ≢ x) → ((get_or (freed xs cs) i d ≡ Free → ⊥) → get_or (freed xs cs) i d ≡ get_or cs i d) → get_or (set (freed xs cs) x Free) i d ≡ get_or cs i d
    go (inl e) ih =
        let m = freed-length xs cs in
        absurd (h (ap (λ j. get_or (set (freed xs cs) x Free) j d) e ∙ get_or-set_same (freed xs cs) x Free d (omega arith)))
    go (inr n) ih =
        let same : get_or (set (freed xs cs) x Free) i d ≡ get_or (freed xs cs) i d = get_or-set_other (freed xs cs) x i Free d n in
        same ∙ ih (λ f. h (same ∙ f))

-- the cell at place 0
pub bottom-cell : (v : Store) → HasBottom v → get_or v.cells 0 Free ≡ Atom 0
bottom-cell v b =
    let f : get_or (freed (drop 0 v.trail) v.cells) 0 Free ≡ Atom 0 =
    sym (get_or-take 1 (freed (drop 0 v.trail) v.cells) 0 Free (omega arith)) ∙ ap (λ cs. get_or cs 0 Free) b.leads
    in
    let l : 1 ≤ length v.cells = b.mark.fewer in
    sym (freed-still (drop 0 v.trail) v.cells 0 Free (omega arith) (λ e. not_free (sym f ∙ e))) ∙ f
  where
    not_free : Atom 0 ≡ Free → ⊥
    not_free e = cc

pub bottom-fits : (v : Store) → IsStore v.cells v.trail → HasBottom v → (k : ℕ → Tree) → Fits v.cells k → k 0 ≡ atom 0
bottom-fits v store b k fits =
    let l : 1 ≤ length v.cells = b.mark.fewer in
    let whole : drop (length v.trail) v.trail ≡ [] = drop_all (length v.trail) v.trail (omega arith) in
    let f : Finite v.cells = subst (λ xs. Finite (freed xs v.cells)) whole (store.finite (length v.trail)) in
    let e : trees v.cells ≡ f.0 = trees_are v.cells f.0 f.1 in
    let s : Stand v.cells (trees v.cells) = subst (Stand v.cells) (sym e) f.1 in
    fits.1 0 (omega arith) ∙ ap (instance fits.0) (s.each 0 Free (omega arith) ∙ ap (step (trees v.cells) 0) (bottom-cell v b))

-- forks and the choice points behind them stand for the same
pub segments-keep : (v w : Store) (xs ys : ℕ) (roots : List ℕ) (n t : ℕ) (fs : List Forked) → Keeps v w → AreMoments v xs ys roots n t (moments_behind fs) → map (segment_of w) fs ≡ map (segment_of v) fs
segments-keep v w xs ys roots n t fs k h = segments-back v w n t (λ a b la lb m. k.stays a b m) (λ a b la lb m. k.leads a b m) xs ys roots n t fs (omega arith) (omega arith) h
