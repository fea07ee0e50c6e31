-- What a frame that is put on, and frames that are taken off, make of the returns.
use Rattle.std.proofs.Common.{◌≡◌, ℕ, zero, suc, ◌+◌, ◌-◌, ◌<◌, ◌≤◌, List, [], ◌∷◌, ◌++◌, length, take, drop, get_or, slice_get, Option, Some, None, refl, ap, ap₂, sym, ◌∙◌, subst, arith}
use Rattle.std.specs.List.{AllByRecursion}
use Rattle.std.specs.Option.{IfSome, option_to_list}
use Rattle.std.specs.Prelude.{slice_set}
use Rattle.std.proofs.Math.Seq.{set-append_seam}
use Rattle.std.proofs.lemmas.List.{append-nil, length-append, length-take-le, take-append-drop, take_all, take-take, take_at, take-append-le, drop_at, drop-append-le, get_or-take, get_or_append_left, get_or_at}
use Rattle.ap_steps.specs.Standing.{Return}
use Rattle.ap_environments.specs.declared.environments.Choice.{Choice}
use Rattle.ap_environments.specs.declared.environments.Entry.{Entry}
use Rattle.ap_environments.specs.declared.environments.Entry.TheVariants.{Call, Fork as Forking}
use Rattle.ap_environments.specs.declared.environments.Fork.{Fork}
use Rattle.ap_environments.specs.declared.environments.Frame.{Frame}
use Rattle.ap_environments.specs.declared.environments.Point.{Point}
use Rattle.ap_environments.specs.Kept.{Moment, Forked}
use Rattle.ap_environments.specs.Frames.{return_of, chains_from, chains, chain, moment_of, forked_of, Segments, put_entry, put_point, segments_from, segments, Laid, LeadUp, Rising, AreFrames}
use Rattle.ap_term.proofs.Lists.{slice_get-inside}

-- ---- lists of returns

pub chains_from-push : (ss : List ℕ) (before : List (List Return)) (fs : List Frame) (f : Frame)
    → chains_from ss before (fs ++ f ∷ []) ≡ chains_from ss before fs ++ (return_of ss f ∷ get_or (chains_from ss before fs) f.up []) ∷ []
chains_from-push ss before [] f = refl
chains_from-push ss before (g ∷ fs) f = chains_from-push ss (before ++ (return_of ss g ∷ get_or before g.up []) ∷ []) fs f

length-chains_from : (ss : List ℕ) (before : List (List Return)) (fs : List Frame) → length (chains_from ss before fs) ≡ length before + length fs
length-chains_from ss before [] = omega arith
length-chains_from ss before (f ∷ fs) =
    let r : List Return = return_of ss f ∷ get_or before f.up [] in
    let e = length-chains_from ss (before ++ r ∷ []) fs in
    let l = length-append before (r ∷ []) in
    omega arith

pub length-chains : (ss : List ℕ) (fs : List Frame) → length (chains ss fs) ≡ length fs + 1
length-chains ss fs = let e = length-chains_from ss ([] ∷ []) fs in omega arith

chains_from-first : (ss : List ℕ) (before : List (List Return)) (fs : List Frame) → take (length before) (chains_from ss before fs) ≡ before
chains_from-first ss before [] = take_all (length before) before (omega arith)
chains_from-first ss before (f ∷ fs) =
    let r : List Return = return_of ss f ∷ get_or before f.up [] in
    let l = length-append before (r ∷ []) in
    sym (take-take (length before) (length (before ++ r ∷ [])) (chains_from ss (before ++ r ∷ []) fs) (omega arith))
    ∙ ap (take (length before)) (chains_from-first ss (before ++ r ∷ []) fs)
    ∙ take_at before (r ∷ []) (length before) refl

chains_from-take : (ss : List ℕ) (before : List (List Return)) (n : ℕ) (fs : List Frame) → take (length before + n) (chains_from ss before fs) ≡ chains_from ss before (take n fs)
chains_from-take ss before zero fs = ap (λ m. take m (chains_from ss before fs)) (let e : length before + zero ≡ length before = omega arith in e) ∙ chains_from-first ss before fs
chains_from-take ss before (suc n) [] = take_all (length before + suc n) before (omega arith)
chains_from-take ss before (suc n) (f ∷ fs) =
    let r : List Return = return_of ss f ∷ get_or before f.up [] in
    let l = length-append before (r ∷ []) in
    ap (λ m. take m (chains_from ss (before ++ r ∷ []) fs)) (let e : length before + suc n ≡ length (before ++ r ∷ []) + n = omega arith in e)
    ∙ chains_from-take ss (before ++ r ∷ []) n fs

-- ---- registers

-- registers among the first n
abbrev pub IsWithin : ℕ → Frame → Type 0
IsWithin n f = f.first + f.count ≤ n

return_of-append : (ss us : List ℕ) (f : Frame) → IsWithin (length ss) f → return_of (ss ++ us) f ≡ return_of ss f
return_of-append ss us f w =
    ap (λ ys. record { place = f.place; y = ys })
    (ap (take f.count) (drop-append-le f.first ss us (omega arith)) ∙ take-append-le f.count (drop f.first ss) us (let l = length-drop-of f.first ss in omega arith))
  where
    length-drop-of : (n : ℕ) (xs : List ℕ) → length (drop n xs) ≡ length xs - n
    length-drop-of zero xs = omega arith
    length-drop-of (suc n) [] = omega arith
    length-drop-of (suc n) (x ∷ xs) = let e = length-drop-of n xs in omega arith

chains_from-append : (ss us : List ℕ) (before : List (List Return)) (fs : List Frame) → AllByRecursion (IsWithin (length ss)) fs → chains_from (ss ++ us) before fs ≡ chains_from ss before fs
chains_from-append ss us before [] w = refl
chains_from-append ss us before (f ∷ fs) w =
    ap (λ r. chains_from (ss ++ us) (before ++ (r ∷ get_or before f.up []) ∷ []) fs) (return_of-append ss us f w.0)
    ∙ chains_from-append ss us (before ++ (return_of ss f ∷ get_or before f.up []) ∷ []) fs w.1

-- ---- how frames lie

Laid-end : (n : ℕ) (fs : List Frame) (end : ℕ) → Laid n fs end → n ≤ end
Laid-end n [] end h = omega arith
Laid-end n (f ∷ fs) end h = let e = Laid-end (n + f.count) fs end h.1 in omega arith

Laid-within : (n : ℕ) (fs : List Frame) (end : ℕ) → Laid n fs end → AllByRecursion (IsWithin end) fs
Laid-within n [] end h = tt
Laid-within n (f ∷ fs) end h = (let e = Laid-end (n + f.count) fs end h.1 in let s : f.first ≡ n = h.0 in omega arith, Laid-within (n + f.count) fs end h.1)

Laid-push : (n : ℕ) (fs : List Frame) (end : ℕ) (f : Frame) → Laid n fs end → f.first ≡ end → Laid n (fs ++ f ∷ []) (end + f.count)
Laid-push n [] end f h e = (e ∙ sym h, ap (λ m. m + f.count) h)
Laid-push n (g ∷ fs) end f h e = (h.0, Laid-push (n + g.count) fs end f h.1 e)

Laid-take : (n : ℕ) (fs : List Frame) (end i : ℕ) (d : Frame) → Laid n fs end → i < length fs → Laid n (take i fs) (get_or fs i d).first
Laid-take n [] end i d h l = absurd (omega arith)
Laid-take n (f ∷ fs) end zero d h l = sym h.0
Laid-take n (f ∷ fs) end (suc i) d h l = (h.0, Laid-take (n + f.count) fs end i d h.1 (omega arith))

Laid-first : (n : ℕ) (fs : List Frame) (end i : ℕ) (d : Frame) → Laid n fs end → i < length fs → (get_or fs i d).first + (get_or fs i d).count ≤ end
Laid-first n [] end i d h l = absurd (omega arith)
Laid-first n (f ∷ fs) end zero d h l = (Laid-within n (f ∷ fs) end h).0
Laid-first n (f ∷ fs) end (suc i) d h l = Laid-first (n + f.count) fs end i d h.1 (omega arith)

LeadUp-push : (n : ℕ) (fs : List Frame) (f : Frame) → LeadUp n fs → f.up ≤ n + length fs → LeadUp n (fs ++ f ∷ [])
LeadUp-push n [] f h l = (omega arith, tt)
LeadUp-push n (g ∷ fs) f h l = (h.0, LeadUp-push (n + 1) fs f h.1 (omega arith))

LeadUp-take : (n i : ℕ) (fs : List Frame) → LeadUp n fs → LeadUp n (take i fs)
LeadUp-take n zero fs h = tt
LeadUp-take n (suc i) [] h = tt
LeadUp-take n (suc i) (f ∷ fs) h = (h.0, LeadUp-take (n + 1) i fs h.1)

pub LeadUp-at : (n : ℕ) (fs : List Frame) (i : ℕ) (d : Frame) → LeadUp n fs → i < length fs → (get_or fs i d).up ≤ n + i
LeadUp-at n [] i d h l = absurd (omega arith)
LeadUp-at n (f ∷ fs) zero d h l = let e : f.up ≤ n = h.0 in omega arith
LeadUp-at n (f ∷ fs) (suc i) d h l = let e = LeadUp-at (n + 1) fs i d h.1 (omega arith) in omega arith

-- ---- a frame is put on

Laid-last : (n : ℕ) (fs : List Frame) (f : Frame) (end : ℕ) → Laid n (fs ++ f ∷ []) end → f.first + f.count ≡ end
Laid-last n [] f end h = ap (λ m. m + f.count) h.0 ∙ h.1
Laid-last n (g ∷ fs) f end h = Laid-last (n + g.count) fs f end h.1

-- where the registers of the last frame end
pub end-last : (fs gs : List Frame) (f : Frame) (end : ℕ) → fs ≡ gs ++ f ∷ [] → Laid 0 fs end → f.first + f.count ≡ end
end-last fs gs f end e h = Laid-last 0 gs f end (subst (λ hs. Laid 0 hs end) e h)

pub end-none : (fs : List Frame) (end : ℕ) → fs ≡ [] → Laid 0 fs end → 0 ≡ end
end-none fs end e h = subst (λ hs. Laid 0 hs end) e h

-- slots that were put on behind others leave these
pub take-resized : (ss zs : List ℕ) (n e : ℕ) → e ≤ length ss → length ss ≤ n → take e (take n ss ++ zs) ≡ take e ss
take-resized ss zs n e few l = ap (λ ts. take e (ts ++ zs)) (take_all n ss l) ∙ take-append-le e ss zs few

-- what lies behind the frames may be anything
module _ (ss us ys more : List ℕ) (fs : List Frame) (f : Frame) (h : AreFrames ss fs) (first : f.first ≡ h.end) (count : f.count ≡ length ys) (written : us ≡ take h.end ss ++ (ys ++ more)) where
  len : length (take h.end ss) ≡ h.end
  len = length-take-le h.end ss h.within

  within : AllByRecursion (IsWithin (length (take h.end ss))) fs
  within = subst (λ n. AllByRecursion (IsWithin n) fs) (sym len) (Laid-within 0 fs h.end h.laid)

  same : chains us fs ≡ chains ss fs
  same =
      ap (λ ts. chains ts fs) written
      ∙ chains_from-append (take h.end ss) (ys ++ more) ([] ∷ []) fs within
      ∙ sym (chains_from-append (take h.end ss) (drop h.end ss) ([] ∷ []) fs within)
      ∙ ap (λ ts. chains ts fs) (take-append-drop h.end ss)

  registers : take f.count (drop f.first us) ≡ ys
  registers =
      ap₂ (λ n m. take n (drop m us)) count first
      ∙ ap (λ ts. take (length ys) (drop h.end ts)) written
      ∙ ap (take (length ys)) (drop_at (take h.end ss) (ys ++ more) h.end len)
      ∙ take_at ys more (length ys) refl

  pub pushed : chains us (fs ++ f ∷ []) ≡ chains ss fs ++ (record { place = f.place; y = ys } ∷ chain ss fs f.up) ∷ []
  pushed = chains_from-push us ([] ∷ []) fs f ∙ ap₂ (λ cs r. cs ++ (r ∷ get_or cs f.up []) ∷ []) same (ap (λ y. record { place = f.place; y = y }) registers)

  pub frames-pushed : f.up ≤ length fs → AreFrames us (fs ++ f ∷ [])
  frames-pushed up = record {
    end = h.end + f.count;
    laid = Laid-push 0 fs h.end f h.laid first;
    within = omega (arith, count, len, ap length written, length-append (take h.end ss) (ys ++ more), length-append ys more);
    up = LeadUp-push 0 fs f h.up (omega arith);
  }

-- ---- frames are taken off

pub cut-chains : (ss : List ℕ) (fs : List Frame) (n : ℕ) → chains ss (take n fs) ≡ take (n + 1) (chains ss fs)
cut-chains ss fs n = sym (chains_from-take ss ([] ∷ []) n fs) ∙ ap (λ m. take m (chains ss fs)) (let e : 1 + n ≡ n + 1 = omega arith in e)

pub cut-frames : (ss : List ℕ) (fs : List Frame) (n : ℕ) (d : Frame) → AreFrames ss fs → n < length fs → AreFrames ss (take n fs)
cut-frames ss fs n d h below = record {
  end = (get_or fs n d).first;
  laid = Laid-take 0 fs h.end n d h.laid below;
  within = let e = Laid-first 0 fs h.end n d h.laid below in let l = h.within in omega arith;
  up = LeadUp-take 0 n fs h.up;
}

-- ---- choice points and forks

segments-same : (ss us : List ℕ) (fs gs : List Frame) (s : Segments) (qs : List Point) → AllByRecursion (λ q. chain us gs q.frames ≡ chain ss fs q.frames) qs → segments_from us gs s qs ≡ segments_from ss fs s qs
segments-same ss us fs gs s [] h = refl
segments-same ss us fs gs s (q ∷ qs) h = ap (λ ws. segments_from us gs (put_entry q.entry ws s) qs) h.0 ∙ segments-same ss us fs gs (put_point ss fs s q) qs h.1

pub Rising-end : (n : ℕ) (qs : List Point) (all : ℕ) → Rising n qs all → n ≤ all
Rising-end n [] all h = h
Rising-end n (q ∷ qs) all h = let e = Rising-end q.frames qs all h.2 in let l : n ≤ q.frames = h.0 in omega arith

-- what holds of each number up to the end holds of each entry's
Rising-each : (P : ℕ → Type 0) (n : ℕ) (qs : List Point) (all : ℕ) → Rising n qs all → ((m : ℕ) → m ≤ all → P m) → AllByRecursion (λ q. P q.frames) qs
Rising-each P n [] all h f = tt
Rising-each P n (q ∷ qs) all h f = (f q.frames (Rising-end q.frames qs all h.2), Rising-each P q.frames qs all h.2 f)

pub Rising-more : (n : ℕ) (qs : List Point) (all more : ℕ) → Rising n qs all → all ≤ more → Rising n qs more
Rising-more n [] all m h l = omega arith
Rising-more n (q ∷ qs) all m h l = (h.0, h.1, Rising-more q.frames qs all m h.2 l)

pub Rising-push : (n : ℕ) (qs : List Point) (all : ℕ) (q : Point) → Rising n qs all → all ≤ q.frames → 0 < q.frames → Rising n (qs ++ q ∷ []) q.frames
Rising-push n [] all q h l p = let e : n ≤ all = h in (omega arith, p, omega arith)
Rising-push n (r ∷ qs) all q h l p = (h.0, h.1, Rising-push r.frames qs all q h.2 l p)

-- the last entry keeps the most
pub Rising-last : (n : ℕ) (qs : List Point) (all : ℕ) (q : Point) → Rising n (qs ++ q ∷ []) all → Rising n (qs ++ q ∷ []) q.frames × (0 < q.frames) × (q.frames ≤ all)
Rising-last n [] all q h = ((h.0, h.1, omega arith), h.1, h.2)
Rising-last n (r ∷ qs) all q h = let e = Rising-last r.frames qs all q h.2 in ((h.0, h.1, e.0), e.1, e.2)

pub Rising-front : (n : ℕ) (qs : List Point) (all : ℕ) (q : Point) → Rising n (qs ++ q ∷ []) all → Rising n qs all
Rising-front n [] all q h = let e : n ≤ q.frames = h.0 in let l : q.frames ≤ all = h.2 in omega arith
Rising-front n (r ∷ qs) all q h = (h.0, h.1, Rising-front r.frames qs all q h.2)

-- lists of returns that begin alike give the entries the same
pub segments-alike : (ss us : List ℕ) (fs gs : List Frame) (qs : List Point) (n : ℕ) → Rising 0 qs n → ((m : ℕ) → m ≤ n → chain us gs m ≡ chain ss fs m) → segments us gs qs ≡ segments ss fs qs
segments-alike ss us fs gs qs n h same = segments-same ss us fs gs (record { moments = []; forks = [] }) qs (Rising-each (λ m. chain us gs m ≡ chain ss fs m) 0 qs n h same)

-- ---- lists of returns, one from another

pub trimmed : (ss us : List ℕ) (fs gs : List Frame) (n : ℕ) → chains us gs ≡ take (n + 1) (chains ss fs) → (m : ℕ) → m ≤ n → chain us gs m ≡ chain ss fs m
trimmed ss us fs gs n e m l = ap (λ cs. get_or cs m []) e ∙ get_or-take (n + 1) (chains ss fs) m [] (omega arith)

pub before-pushed : (ss us : List ℕ) (fs gs : List Frame) (r : List Return) → chains us gs ≡ chains ss fs ++ r ∷ [] → (m : ℕ) → m ≤ length fs → chain us gs m ≡ chain ss fs m
before-pushed ss us fs gs r e m l = ap (λ cs. get_or cs m []) e ∙ get_or_append_left (chains ss fs) (r ∷ []) [] m (let k = length-chains ss fs in omega arith)

pub last-pushed : (ss us : List ℕ) (fs gs : List Frame) (r : List Return) → chains us gs ≡ chains ss fs ++ r ∷ [] → (n : ℕ) → n ≡ length fs + 1 → chain us gs n ≡ r
last-pushed ss us fs gs r e n k = ap (λ cs. get_or cs n []) e ∙ get_or_at (chains ss fs) r [] [] n (length-chains ss fs ∙ sym k)

segments_from-push : (ss : List ℕ) (fs : List Frame) (s : Segments) (qs : List Point) (q : Point) → segments_from ss fs s (qs ++ q ∷ []) ≡ put_point ss fs (segments_from ss fs s qs) q
segments_from-push ss fs s [] q = refl
segments_from-push ss fs s (r ∷ qs) q = segments_from-push ss fs (put_point ss fs s r) qs q

pub segments-push : (ss : List ℕ) (fs : List Frame) (qs : List Point) (q : Point) → segments ss fs (qs ++ q ∷ []) ≡ put_point ss fs (segments ss fs qs) q
segments-push ss fs qs q = segments_from-push ss fs (record { moments = []; forks = [] }) qs q

-- the last element of a list
pub front-last : {X : Type 0} (xs : List X) (n : ℕ) (x : X) → n + 1 ≡ length xs → slice_get xs n ≡ Some x → xs ≡ take n xs ++ x ∷ []
front-last [] n x l e = cc
front-last (y ∷ []) zero x l e = let f : y ≡ x = cc in ap (λ z. z ∷ []) f
front-last (y ∷ z ∷ zs) zero x l e = absurd (omega arith)
front-last (y ∷ ys) (suc n) x l e = ap (λ zs. y ∷ zs) (front-last ys n x (omega arith) e)

early : (ss : List ℕ) (before : List (List Return)) (fs : List Frame) (i : ℕ) → i < length before → get_or (chains_from ss before fs) i [] ≡ get_or before i []
early ss before fs i l = sym (get_or-take (length before) (chains_from ss before fs) i [] l) ∙ ap (λ cs. get_or cs i []) (chains_from-first ss before fs)

chains_from-at : (ss : List ℕ) (before : List (List Return)) (fs : List Frame) (k n : ℕ) (d : Frame) → length before ≡ k + 1 → LeadUp k fs → n < length fs
    → get_or (chains_from ss before fs) (length before + n) [] ≡ return_of ss (get_or fs n d) ∷ get_or (chains_from ss before fs) (get_or fs n d).up []
chains_from-at ss before [] k n d e up l = absurd (omega arith)
chains_from-at ss before (f ∷ fs) k zero d e up l =
    let r : List Return = return_of ss f ∷ get_or before f.up [] in
    let len = length-append before (r ∷ []) in
    let u : f.up ≤ k = up.0 in
    early ss (before ++ r ∷ []) fs (length before + zero) (omega arith)
    ∙ get_or_at before r [] [] (length before + zero) (omega arith)
    ∙ ap (λ ws. return_of ss f ∷ ws) (sym (early ss (before ++ r ∷ []) fs f.up (omega arith) ∙ get_or_append_left before (r ∷ []) [] f.up (omega arith)))
chains_from-at ss before (f ∷ fs) k (suc n) d e up l =
    let r : List Return = return_of ss f ∷ get_or before f.up [] in
    let len = length-append before (r ∷ []) in
    ap (λ m. get_or (chains_from ss (before ++ r ∷ []) fs) m []) (let q : length before + suc n ≡ length (before ++ r ∷ []) + n = omega arith in q)
    ∙ chains_from-at ss (before ++ r ∷ []) fs (k + 1) n d (omega arith) up.1 (omega arith)

-- the frame of a number leads on
pub chain-at : (ss : List ℕ) (fs : List Frame) (m n : ℕ) (d : Frame) → LeadUp 0 fs → m ≡ n + 1 → n < length fs → chain ss fs m ≡ return_of ss (get_or fs n d) ∷ chain ss fs (get_or fs n d).up
chain-at ss fs m n d up e l =
    ap (λ i. get_or (chains ss fs) i []) (let q : m ≡ 1 + n = omega arith in q) ∙ chains_from-at ss ([] ∷ []) fs 0 n d (let q : 1 ≡ 0 + 1 = omega arith in q) up l

-- no frame
pub chain-none : (ss : List ℕ) (fs : List Frame) → chain ss fs 0 ≡ []
chain-none ss fs = early ss ([] ∷ []) fs 0 (omega arith)

pub frame-within : (ss : List ℕ) (fs : List Frame) (n : ℕ) (d : Frame) → AreFrames ss fs → n < length fs → (get_or fs n d).first + (get_or fs n d).count ≤ length ss
frame-within ss fs n d h l = let e = Laid-first 0 fs h.end n d h.laid l in let w = h.within in omega arith

-- ---- the whole

-- frames are taken off that no return, choice point or fork needs
pub same-view : (ss us : List ℕ) (fs gs : List Frame) (qs : List Point) (top n : ℕ) → chains us gs ≡ take (n + 1) (chains ss fs) → top ≤ n → Rising 0 qs n
    → (chain us gs top ≡ chain ss fs top) × (segments us gs qs ≡ segments ss fs qs)
same-view ss us fs gs qs top n e l h = (trimmed ss us fs gs n e top l, segments-alike ss us fs gs qs n h (trimmed ss us fs gs n e))

-- the newest entry and the others
pub newest-entry : (ss : List ℕ) (fs : List Frame) (points qs : List Point) (q : Point) → points ≡ qs ++ q ∷ [] → segments ss fs points ≡ put_point ss fs (segments ss fs qs) q
newest-entry ss fs points qs q e = ap (segments ss fs) e ∙ segments-push ss fs qs q

-- ---- the last of a list

none-last : {X : Type 0} (xs : List X) → slice_get xs (length xs - 1) ≡ None → xs ≡ []
none-last [] e = refl
none-last (x ∷ xs) e = absurd (slice_get-inside (x ∷ xs) (length (x ∷ xs) - 1) (omega arith) e)

some-last : {X : Type 0} (xs : List X) (x : X) → slice_get xs (length xs - 1) ≡ Some x → (ys : List X) × (xs ≡ ys ++ x ∷ [])
some-last [] x e = cc
some-last (y ∷ ys) x e = (take (length (y ∷ ys) - 1) (y ∷ ys), front-last (y ∷ ys) (length (y ∷ ys) - 1) x (omega arith) e)

pub is-last : {X : Type 0} (xs : List X) (r : Option X) → r ≡ slice_get xs (length xs - 1) → (r ≡ None → xs ≡ []) × IfSome r (λ x. (ys : List X) × (xs ≡ ys ++ x ∷ []))
is-last xs None e = (λ n. none-last xs (sym e), tt)
is-last xs (Some x) e = (λ n. absurd (let z : ⊥ = cc in z), some-last xs x (sym e))

-- ---- the newest entry

pub last-kept : (points qs : List Point) (q : Point) (all : ℕ) → points ≡ qs ++ q ∷ [] → Rising 0 points all → (0 < q.frames) × (q.frames ≤ all)
last-kept points qs q all e h = let r = Rising-last 0 qs all q (subst (λ ps. Rising 0 ps all) e h) in (r.1, r.2)

pub front-rising : (points qs : List Point) (q : Point) (all : ℕ) → points ≡ qs ++ q ∷ [] → Rising 0 points all → Rising 0 qs all
front-rising points qs q all e h = Rising-front 0 qs all q (subst (λ ps. Rising 0 ps all) e h)

-- where its moment is the first of the list, it is a choice point's
pub is-newest : (ss : List ℕ) (fs : List Frame) (points qs : List Point) (q : Point) (s : Segments) (m : Moment) (ms : List Moment) → points ≡ qs ++ q ∷ [] → segments ss fs points ≡ s → s.moments ≡ m ∷ ms
    → (c : Choice) × (q.entry ≡ Call c) × (moment_of c (chain ss fs q.frames) ≡ m) × (segments ss fs qs ≡ record { moments = ms; forks = s.forks })
is-newest ss fs points qs q s m ms e v h = go q.entry (chain ss fs q.frames) (segments ss fs qs) (sym (newest-entry ss fs points qs q e) ∙ v)
  where
    go : (i : Entry) (ws : List Return) (t : Segments) → put_entry i ws t ≡ s → (c : Choice) × (i ≡ Call c) × (moment_of c ws ≡ m) × (t ≡ record { moments = ms; forks = s.forks })
    go (Call c) ws t v =
        let d : moment_of c ws ∷ t.moments ≡ m ∷ ms = ap (λ r. r.moments) v ∙ h in
        let first : moment_of c ws ≡ m = cc in
        let others : t.moments ≡ ms = cc in
        (c, refl, first, ap₂ (λ ns ks. record { moments = ns; forks = ks }) others (ap (λ r. r.forks) v))
    go (Forking f) ws t v = let d : [] ≡ m ∷ ms = ap (λ r. r.moments) v ∙ h in let none : ⊥ = cc in absurd none

forked-moments : (f : Fork) (ws : List Return) (ms : List Moment) → (forked_of f ws ms).moments ≡ ms
forked-moments f [] ms = refl
forked-moments f (w ∷ ws) ms = refl

pub forked-fork_is : (f : Fork) (ws : List Return) (ms : List Moment) → (forked_of f ws ms).fork ≡ f
forked-fork_is f [] ms = refl
forked-fork_is f (w ∷ ws) ms = refl

-- where no choice point is newer than the newest fork, it is a fork's
pub is-newest-fork : (ss : List ℕ) (fs : List Frame) (points qs : List Point) (q : Point) (s : Segments) (k : Forked) (ks : List Forked) → points ≡ qs ++ q ∷ [] → segments ss fs points ≡ s → s.moments ≡ [] → s.forks ≡ k ∷ ks
    → (f : Fork) × (forked_of f (chain ss fs q.frames) k.moments ≡ k) × (segments ss fs qs ≡ record { moments = k.moments; forks = ks })
is-newest-fork ss fs points qs q s k ks e v n h = go q.entry (chain ss fs q.frames) (segments ss fs qs) (sym (newest-entry ss fs points qs q e) ∙ v)
  where
    go : (i : Entry) (ws : List Return) (t : Segments) → put_entry i ws t ≡ s → (f : Fork) × (forked_of f ws k.moments ≡ k) × (t ≡ record { moments = k.moments; forks = ks })
    go (Call c) ws t v = let d : moment_of c ws ∷ t.moments ≡ [] = ap (λ r. r.moments) v ∙ n in let none : ⊥ = cc in absurd none
    go (Forking f) ws t v =
        let d : forked_of f ws t.moments ∷ t.forks ≡ k ∷ ks = ap (λ r. r.forks) v ∙ h in
        let first : forked_of f ws t.moments ≡ k = cc in
        let others : t.forks ≡ ks = cc in
        let same : t.moments ≡ k.moments = sym (forked-moments f ws t.moments) ∙ ap (λ r. r.moments) first in
        (f, ap (forked_of f ws) (sym same) ∙ first, ap₂ (λ ns rs. record { moments = ns; forks = rs }) same others)

pub is-fork : (ss : List ℕ) (fs : List Frame) (points qs : List Point) (q : Point) (s : Segments) → points ≡ qs ++ q ∷ [] → segments ss fs points ≡ s → s.moments ≡ [] → (f : Fork) × (q.entry ≡ Forking f)
is-fork ss fs points qs q s e v n = go q.entry (chain ss fs q.frames) (segments ss fs qs) (sym (newest-entry ss fs points qs q e) ∙ v)
  where
    go : (i : Entry) (ws : List Return) (t : Segments) → put_entry i ws t ≡ s → (f : Fork) × (i ≡ Forking f)
    go (Call c) ws t v = let d : moment_of c ws ∷ t.moments ≡ [] = ap (λ r. r.moments) v ∙ n in let none : ⊥ = cc in absurd none
    go (Forking f) ws t v = (f, refl)

-- an entry is a choice point's or a fork's
pub some-entry : (ss : List ℕ) (fs : List Frame) (points qs : List Point) (q : Point) (s : Segments) → points ≡ qs ++ q ∷ [] → segments ss fs points ≡ s → s.moments ≡ [] → s.forks ≡ [] → ⊥
some-entry ss fs points qs q s e v n h = go q.entry (chain ss fs q.frames) (segments ss fs qs) (sym (newest-entry ss fs points qs q e) ∙ v)
  where
    go : (i : Entry) (ws : List Return) (t : Segments) → put_entry i ws t ≡ s → ⊥
    go (Call c) ws t v = let d : moment_of c ws ∷ t.moments ≡ [] = ap (λ r. r.moments) v ∙ n in cc
    go (Forking f) ws t v = let d : forked_of f ws t.moments ∷ t.forks ≡ [] = ap (λ r. r.forks) v ∙ h in cc

-- no entry
pub no-moment : (ss : List ℕ) (fs : List Frame) (points : List Point) (s : Segments) (m : Moment) (ms : List Moment) → points ≡ [] → segments ss fs points ≡ s → s.moments ≡ m ∷ ms → ⊥
no-moment ss fs points s m ms e v h = let d : [] ≡ m ∷ ms = ap (λ r. r.moments) (sym (ap (segments ss fs) e) ∙ v) ∙ h in cc

pub no-fork : (ss : List ℕ) (fs : List Frame) (points : List Point) (s : Segments) (k : Forked) (ks : List Forked) → points ≡ [] → segments ss fs points ≡ s → s.forks ≡ k ∷ ks → ⊥
no-fork ss fs points s k ks e v h = let d : [] ≡ k ∷ ks = ap (λ r. r.forks) (sym (ap (segments ss fs) e) ∙ v) ∙ h in cc

-- the same moment with other clauses
pub moment-choice_is : (c : Choice) (ws : List Return) → (moment_of c ws).choice ≡ c
moment-choice_is c [] = refl
moment-choice_is c (w ∷ ws) = refl

pub moment-choice : (c d : Choice) (ws : List Return) → moment_of d ws ≡ record { choice = d; returns = (moment_of c ws).returns; arguments = (moment_of c ws).arguments }
moment-choice c d [] = refl
moment-choice c d (w ∷ ws) = refl

-- the last of a list is another one
pub put-last : {X : Type 0} (xs ys : List X) (x y : X) (n : ℕ) → xs ≡ ys ++ x ∷ [] → n ≡ length xs → slice_set xs (n - 1) y ≡ ys ++ y ∷ []
put-last xs ys x y n e l =
    let at : n - 1 ≡ length ys = omega (arith, l, ap length e, length-append ys (x ∷ [])) in
    ap (λ i. slice_set xs i y) at ∙ ap (λ zs. slice_set zs (length ys) y) e ∙ set-append_seam ys x [] y

pub Rising-replace : (n : ℕ) (qs : List Point) (all : ℕ) (q r : Point) → r.frames ≡ q.frames → Rising n (qs ++ q ∷ []) all → Rising n (qs ++ r ∷ []) all
Rising-replace n [] all q r e h = let k : n ≤ q.frames = h.0 in let l : q.frames ≤ all = h.2 in let p : 0 < q.frames = h.1 in (omega arith, omega arith, omega arith)
Rising-replace n (p ∷ qs) all q r e h = (h.0, h.1, Rising-replace p.frames qs all q r e h.2)

pub popped-rising : (points qs : List Point) (r : Option Point) (all : ℕ) → points ≡ qs ++ option_to_list r → Rising 0 points all → Rising 0 qs all
popped-rising points qs None all e h = subst (λ ps. Rising 0 ps all) (e ∙ append-nil qs) h
popped-rising points qs (Some q) all e h = front-rising points qs q all e h

pub none-popped : (xs : List Point) → length xs ≡ 0 → xs ≡ []
none-popped [] l = refl
none-popped (x ∷ xs) l = absurd (omega arith)
