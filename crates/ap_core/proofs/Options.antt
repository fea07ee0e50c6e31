-- Tests, options and lists of steps.
use Rattle.std.proofs.Common.{◌≡◌, ◌⊎◌, inl, inr, Bool, true, false, ◌&&◌, ◌||◌, if◌then◌else◌, Option, Some, None, refl}
use Rattle.std.proofs.lemmas.Bool.{false≢true, or_cases, or_parts}
use Rattle.ap_core.specs.Relation.{only_if, mapped}

pub Some-only_if : {A : Type 0} (b : Bool) (x y : A) → only_if b x ≡ Some y → (b ≡ true) × (x ≡ y)
Some-only_if true x y h = (refl, cc)
Some-only_if false x y h = absurd (cc)

pub Some-if : {A : Type 0} (b : Bool) (o : Option A) (y : A) → (if b then o else None) ≡ Some y → (b ≡ true) × (o ≡ Some y)
Some-if true o y h = (refl, h)
Some-if false o y h = absurd (cc)

pub Some-mapped : {A B : Type 0} (f : A → B) (o : Option A) (y : B) → mapped f o ≡ Some y → (x : A) × ((o ≡ Some x) × (f x ≡ y))
Some-mapped f None y h = absurd (cc)
Some-mapped f (Some x) y h = (x, (refl, cc))

-- some steps, one after another
pub data Star {T : Type 0} (R : T → T → Type 0) (a : T) : T → Type 0 where
  here : Star R a a
  onward : {b c : T} → Star R a b → R b c → Star R a c

pub Star-map : {T U : Type 0} (R : T → T → Type 0) (S : U → U → Type 0) (f : T → U) → ((x y : T) → R x y → S (f x) (f y)) → (a : T) {b : T} → Star R a b → Star S (f a) (f b)
Star-map R S f h a here = here
Star-map R S f h a (onward {b = b} {c = c} s r) = onward (Star-map R S f h a s) (h b c r)

pub Star-one : {T : Type 0} (R : T → T → Type 0) (a b : T) → R a b → Star R a b
Star-one R a b r = onward here r

pub Star-then : {T : Type 0} (R : T → T → Type 0) {a b c : T} → Star R a b → Star R b c → Star R a c
Star-then R s here = s
Star-then R s (onward t r) = onward (Star-then R s t) r
