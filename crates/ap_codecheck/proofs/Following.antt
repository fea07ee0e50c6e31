-- A clause is followed on each of its paths: a place is fine where the remembered places further on are, and since all ways go
-- forward, all of them are.
use Rattle.std.proofs.Common.{◌≡◌, ◌⊎◌, ℕ, zero, suc, ◌+◌, ◌<◌, ◌≤◌, Bool, true, false, length, List, [], ◌∷◌, ◌++◌, Option, Some, None, refl, sym, ◌∙◌, ap, subst, inl, inr, arith}
use Rattle.std.specs.List.{slice_get}
use Rattle.std.proofs.lemmas.Option.{slice_get_cases, slice_get_within}
use Rattle.std.proofs.lemmas.Bool.{cases_lt}
use Rattle.ap_instr.specs.declared.compiled.Predicate.{Predicate}
use Rattle.ap_instr.specs.Code.{Compiled}
use Rattle.ap_codecheck.specs.declared.rule.Rule.TheVariants.{End}
use Rattle.ap_codecheck.specs.declared.walk.Way.{Way}
use Rattle.ap_codecheck.specs.Shape.{Shape, entry, after}
use Rattle.ap_codecheck.specs.Paths.{IsPlaceOf}
use Rattle.ap_codecheck.specs.Rules.{GoesOn}
use Rattle.ap_codecheck.specs.Held.{shape_of}
use Rattle.ap_codecheck.specs.Judged.{IsFineFrom}
use Rattle.ap_codecheck.specs.Walk.{is_inner}
use Rattle.ap_codecheck.specs.Known.{Keeps, IsKnown, IsNew, Remembers, Comes, AreReached, AreFineBehind, IsSettled, IsPassed, IsFollowed, IsWay}
use Rattle.ap_codecheck.proofs.Ways.{Path-more, Path-append, fine-on, leads-where, leads-behind, leads-elsewhere, elsewhere-forward}
use Rattle.ap_term.proofs.Facts.{lt-or-eq}
use Rattle.ap_term.proofs.Lists.{slice_get-push}

-- ---- what is remembered

pushed-cases : {A : Type 0} (xs : List A) (x : A) (k : ℕ) (y : A) → slice_get (xs ++ x ∷ []) k ≡ Some y → (slice_get xs k ≡ Some y) ⊎ (x ≡ y)
pushed-cases [] x zero y e = inr (cc)
pushed-cases [] x (suc k) y e = cc
pushed-cases (z ∷ xs) x zero y e = inl e
pushed-cases (z ∷ xs) x (suc k) y e = pushed-cases xs x k y e

pushed-old : {A : Type 0} (xs : List A) (x : A) (k : ℕ) (y : A) → slice_get xs k ≡ Some y → slice_get (xs ++ x ∷ []) k ≡ Some y
pushed-old [] x k y e = cc
pushed-old (z ∷ xs) x zero y e = e
pushed-old (z ∷ xs) x (suc k) y e = pushed-old xs x k y e

pub remembers-pushed : (ways : List Way) (w : Way) (s : Shape) → shape_of w.shape ≡ s → Remembers ways (ways ++ w ∷ []) (Some w.place) s
remembers-pushed ways w s h =
    record {
      keeps = pushed-old ways w;
      known = λ l e. record { number = length ways; way = w; held = slice_get-push ways w; place = (let same : w.place ≡ l = cc in same); shape = h };
      only = λ k v e. elim (pushed-cases ways w k v e) as (λ _. IsNew ways (λ l. Some w.place ≡ Some l) s v) [
        | inl old ↦ inl (k, old)
        | inr new ↦ inr (ap (λ u. Some u.place) new, ap (λ u. shape_of u.shape) (sym new) ∙ h)
      ];
    }

pub keeps-both : (a b c : List Way) → Keeps a b → Keeps b c → Keeps a c
keeps-both a b c f g k w e = g k w (f k w e)

pub fine_fewer : (code : Compiled) (p : Predicate) (at : ℕ) (old new : List Way) → Keeps old new → AreFineBehind code p at new → AreFineBehind code p at old
fine_fewer code p at old new k f j w e = f j w (k j w e)

fine_known : (code : Compiled) (p : Predicate) (from at : ℕ) (s : Shape) (ways : List Way) → IsKnown ways at s → from < at → AreFineBehind code p from ways → IsFineFrom code p at s
fine_known code p from at s ways h lt f =
    let P : ℕ → Type 0 = λ k. from < k in
    let Q : ℕ → Type 0 = λ k. IsFineFrom code p k s in
    let R : Shape → Type 0 = λ t. IsFineFrom code p h.way.place t in
    subst Q h.place (subst R h.shape (f h.number h.way h.held (subst P (sym h.place) lt)))

-- ---- on the way from a place

pub record IsOn (code : Compiled) (p : Predicate) (from : ℕ) (r : Shape) (old : List Way) (at : ℕ) (s : Shape) (ways : List Way) : Type 0 where
  pub behind : from ≤ at
  pub comes : Comes code from r at s
  pub keeps : Keeps old ways
  pub reached : (a : ℕ) (u : Shape) → AreReached code p a u old → Comes code a u from r → AreReached code p a u ways
  pub rest : AreFineBehind code p from ways → IsFineFrom code p at s → IsFineFrom code p from r

module _ (code : Compiled) (p : Predicate) (from at : ℕ) (r s t : Shape) (old ways new : List Way) (on : Bool) (start : p.start ≤ from) (o : IsOn code p from r old at s ways) (h : IsPlaceOf code p at) (x : IsPassed code at s t ways new on) where
  goes : GoesOn x.instr at
  goes = x.judged End x.instr x.held

  reached : (a : ℕ) (u : Shape) → AreReached code p a u old → Comes code a u from r → AreReached code p a u new
  reached a u before c k w e =
      elim (x.remembers.only k w e) as (λ _. (p.start ≤ w.place) × Comes code a u w.place (shape_of w.shape)) [
        | inl q ↦ o.reached a u before c q.0 w q.1
        | inr q ↦ (
            let further : at < w.place = elsewhere-forward x.instr at w.place goes q.0 in
            let behind : from ≤ at = o.behind in
            let same : after x.instr s ≡ shape_of w.shape = sym (q.1 ∙ x.behind) in
            let P : Shape → Type 0 = λ v. Comes code a u w.place v in
            let way = Path-append code c.0 o.comes.0 a from at u r s c.1 o.comes.1 in
            (omega arith, subst P same (suc way.0, Path-more code way.0 a at w.place u s x.instr way.1 x.held (leads-elsewhere x.instr at w.place q.0))))
      ]

  -- where what the instruction leads to behind it is fine
  here : AreFineBehind code p from new → (is_inner x.instr ≡ true → IsFineFrom code p (at + 1) t) → IsFineFrom code p at s
  here f g =
      let P : Shape → Type 0 = λ v. IsFineFrom code p (at + 1) v in
      fine-on code p at s x.instr h x.held x.judged (λ to l.
      elim (leads-where x.instr at to l) as (λ _. IsFineFrom code p to (after x.instr s)) [
        | inl w ↦ (let Q : ℕ → Type 0 = λ k. IsFineFrom code p k (after x.instr s) in subst Q (sym w.1) (subst P x.behind (g w.0)))
        | inr e ↦ (
            let further : at < to = elsewhere-forward x.instr at to goes e in
            let behind : from ≤ at = o.behind in
            let R : Shape → Type 0 = λ v. IsFineFrom code p to v in
            subst R x.behind (fine_known code p from to t new (x.remembers.known to e) (omega arith) f))
      ])

  pub on-next : on ≡ true → IsOn code p from r old (at + 1) t new
  on-next e =
      let behind : from ≤ at = o.behind in
      let P : Shape → Type 0 = λ v. Comes code from r (at + 1) v in
      record {
        behind = omega arith;
        comes = subst P (sym x.behind) (suc o.comes.0, Path-more code o.comes.0 from at (at + 1) r s x.instr o.comes.1 x.held (leads-behind x.instr at (x.goes e)));
        keeps = keeps-both old ways new o.keeps x.remembers.keeps;
        reached = reached;
        rest = λ f g. o.rest (fine_fewer code p from ways new x.remembers.keeps f) (here f (λ _. g));
      }

  pub on-stop : on ≡ false → IsFollowed code p from r old new
  on-stop e =
      let behind : from ≤ at = o.behind in
      let before : at < p.end = h.before in
      record {
        keeps = keeps-both old ways new o.keeps x.remembers.keeps;
        reached = reached;
        settled = record {
          within = omega arith;
          fine = λ f. o.rest (fine_fewer code p from ways new x.remembers.keeps f) (here f (λ inner. fine_known code p from (at + 1) t new (x.stops e inner) (omega arith) f));
        };
      }

-- ---- the remembered places, one by one

settled-more : (code : Compiled) (p : Predicate) (at : ℕ) (s : Shape) (old new : List Way) → Keeps old new → IsSettled code p at s old → IsSettled code p at s new
settled-more code p at s old new k h = record { within = h.within; fine = λ f. h.fine (fine_fewer code p at old new k f) }

-- where all that is remembered is settled, all of it is fine, from the last place back
all-fine : (code : Compiled) (p : Predicate) (ways : List Way) → ((k : ℕ) (w : Way) → slice_get ways k ≡ Some w → IsSettled code p w.place (shape_of w.shape) ways)
    → (n k : ℕ) (w : Way) → slice_get ways k ≡ Some w → p.end ≤ w.place + n → IsFineFrom code p w.place (shape_of w.shape)
all-fine code p ways h zero k w e l = absurd (omega (arith, l, (h k w e).within))
all-fine code p ways h (suc n) k w e l = (h k w e).fine (λ j v f further. all-fine code p ways h n j v f (omega (arith, l, further)))

-- the clause's first place and so many remembered ones were followed
pub record IsChecking (code : Compiled) (p : Predicate) (start : ℕ) (ways : List Way) (number : ℕ) : Type 0 where
  pub reached : AreReached code p start (entry p.arity) ways
  pub first : IsSettled code p start (entry p.arity) ways
  pub each : (k : ℕ) (w : Way) → k < number → slice_get ways k ≡ Some w → IsSettled code p w.place (shape_of w.shape) ways

none_reached : (code : Compiled) (p : Predicate) (a : ℕ) (r : Shape) → AreReached code p a r []
none_reached code p a r k w e = cc

pub checking-first : (code : Compiled) (p : Predicate) (start : ℕ) (s : Shape) (old new : List Way) → s ≡ entry p.arity → old ≡ [] → IsFollowed code p start s old new → IsChecking code p start new 0
checking-first code p start s old new e n f =
    let P : List Way → Type 0 = λ ws. AreReached code p start (entry p.arity) ws in
    let Q : Shape → Type 0 = λ u. IsSettled code p start u new in
    let R : Shape → Type 0 = λ u. Comes code start (entry p.arity) start u in
    record {
      reached = f.reached start (entry p.arity) (subst P (sym n) (none_reached code p start (entry p.arity))) (subst R (sym e) (0, (refl, refl)));
      first = subst Q e f.settled;
      each = λ k w l z. absurd (omega (arith, l));
    }

held_before : {A : Type 0} (xs : List A) (n k : ℕ) (x : A) → slice_get xs n ≡ Some x → k < n → (y : A) × (slice_get xs k ≡ Some y)
held_before xs n k x e l =
    elim (slice_get_cases xs k).1 as (λ _. (y : _) × (slice_get xs k ≡ Some y)) [
      | inl w ↦ (w.0, w.2)
      | inr w ↦ absurd (omega (arith, l, w.0, slice_get_within xs n x e))
    ]

pub way_none : (ways : List Way) (number : ℕ) (s : Shape) (o : Option ℕ) → ((at : ℕ) → o ≡ Some at → ⊥) → IsWay ways number s o → slice_get ways number ≡ None
way_none ways number s None f h = h
way_none ways number s (Some at) f h = absurd (f at refl)

pub checking-reached : (code : Compiled) (p : Predicate) (start : ℕ) (ways : List Way) (number at : ℕ) (s : Shape) → IsChecking code p start ways number
    → (w : Way) × (slice_get ways number ≡ Some w) × (w.place ≡ at) × (shape_of w.shape ≡ s) → (p.start ≤ at) × Comes code start (entry p.arity) at s
checking-reached code p start ways number at s c w =
    let found = c.reached number w.0 w.1 in
    let P : ℕ → Type 0 = λ k. (p.start ≤ k) × Comes code start (entry p.arity) k s in
    let Q : Shape → Type 0 = λ u. (p.start ≤ w.0.place) × Comes code start (entry p.arity) w.0.place u in
    subst P w.2 (subst Q w.3 found)

pub checking-next : (code : Compiled) (p : Predicate) (start : ℕ) (ways new : List Way) (number at : ℕ) (s : Shape) → IsChecking code p start ways number
    → (w : Way) × (slice_get ways number ≡ Some w) × (w.place ≡ at) × (shape_of w.shape ≡ s) → IsFollowed code p at s ways new → IsChecking code p start new (number + 1)
checking-next code p start ways new number at s c w f =
    record {
      reached = f.reached start (entry p.arity) c.reached (checking-reached code p start ways number at s c w).1;
      first = settled-more code p start (entry p.arity) ways new f.keeps c.first;
      each = each;
    }
  where
    settled_here : (v : Way) → slice_get new number ≡ Some v → IsSettled code p v.place (shape_of v.shape) new
    settled_here v e =
        let same : w.0 ≡ v = cc-some (sym (f.keeps number w.0 w.1) ∙ e) in
        let P : ℕ → Type 0 = λ k. IsSettled code p k s new in
        let Q : Shape → Type 0 = λ u. IsSettled code p w.0.place u new in
        let R : Way → Type 0 = λ u. IsSettled code p u.place (shape_of u.shape) new in
        subst R same (subst Q (sym w.3) (subst P (sym w.2) f.settled))
      where
        cc-some : {a b : Way} → Some a ≡ Some b → a ≡ b
        cc-some q = cc

    settled_before : (k : ℕ) (v : Way) → k < number → slice_get new k ≡ Some v → IsSettled code p v.place (shape_of v.shape) new
    settled_before k v l e =
        let found = held_before ways number k w.0 w.1 l in
        let same : found.0 ≡ v = cc-some (sym (f.keeps k found.0 found.1) ∙ e) in
        let R : Way → Type 0 = λ u. IsSettled code p u.place (shape_of u.shape) new in
        subst R same (settled-more code p found.0.place (shape_of found.0.shape) ways new f.keeps (c.each k found.0 l found.1))
      where
        cc-some : {a b : Way} → Some a ≡ Some b → a ≡ b
        cc-some q = cc

    each : (k : ℕ) (v : Way) → k < number + 1 → slice_get new k ≡ Some v → IsSettled code p v.place (shape_of v.shape) new
    each k v l e =
        elim (lt-or-eq k number l) as (λ _. IsSettled code p v.place (shape_of v.shape) new) [
          | inl a ↦ settled_before k v a e
          | inr a ↦ settled_here v (ap (slice_get new) (sym a) ∙ e)
        ]

pub checking-end : (code : Compiled) (p : Predicate) (start : ℕ) (ways : List Way) (number : ℕ) → IsChecking code p start ways number → slice_get ways number ≡ None → IsFineFrom code p start (entry p.arity)
checking-end code p start ways number c e =
    c.first.fine (λ k w f further. all-fine code p ways all p.end k w f (omega arith))
  where
    all : (k : ℕ) (w : Way) → slice_get ways k ≡ Some w → IsSettled code p w.place (shape_of w.shape) ways
    all k w f =
        elim (cases_lt k number) as (λ _. IsSettled code p w.place (shape_of w.shape) ways) [
          | inl l ↦ c.each k w l f
          | inr l ↦ absurd (none_further l)
        ]
      where
        none_further : number ≤ k → ⊥
        none_further l =
            elim (slice_get_cases ways number).1 as (λ _. ⊥) [
              | inl v ↦ none_some v.0 (sym e ∙ v.2)
              | inr v ↦ (let short : k < length ways = slice_get_within ways k w f in omega (arith, v.0))
            ]
          where
            none_some : (v : Way) → None ≡ Some v → ⊥
            none_some v q = cc
