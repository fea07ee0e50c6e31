-- Goals of a frame that are out, when one of its slots stands otherwise, and when one more is out or one less.
use Rattle.std.proofs.Common.{◌≡◌, ℕ, not, true, if◌then◌else◌, List, [], ◌∷◌, ◌++◌, refl, ap, sym, ◌∙◌}
use Rattle.std.proofs.lemmas.Bool.{ne_eqb}
use Rattle.std.proofs.lemmas.List.{map-append}
use Rattle.std.specs.List.{AllByRecursion}
use Rattle.ap_term.proofs.Zips.{AllByRecursion-append, AllByRecursion-weaken}
use Rattle.ap_frames.specs.declared.slots.Stand.{Stand}
use Rattle.ap_frames.specs.declared.slots.Stand.TheVariants.{Running}
use Rattle.ap_frames.specs.declared.slots.Run.TheVariants.{First}
use Rattle.ap_frames.specs.Slots.{is_startable, may_be_given_back}
use Rattle.ap_instr.specs.Code.{Compiled}
use Rattle.ap_tie.specs.Sections.{Section, Held, nothing}
use Rattle.ap_tied.specs.SlotCalls.{stood}
use Rattle.ap_open.specs.Opened.{rest_in}
use Rattle.ap_open.specs.Away.{Away, without}
use Rattle.ap_section.specs.Slots.{IsPlaceIn, told_of}
use Rattle.ap_section.proofs.Stood.{first-runs, ready-apart, place-stood, told-else, first-stood}
use Rattle.ap_post.specs.Posted.{Posted}
use Rattle.ap_stack.specs.Levels.{aways_of, IsOut, AreNotAt, AreApart, AreOut}
use Rattle.ap_stack.proofs.Counts.{rest-stood}

-- ---- what holds of each

pub all-split : {A : Type 0} (P : A → Type 0) (xs ys : List A) → AllByRecursion P (xs ++ ys) → AllByRecursion P xs × AllByRecursion P ys
all-split P [] ys h = (tt, h)
all-split P (x ∷ xs) ys h = let r = all-split P xs ys h.1 in ((h.0, r.0), r.1)

pub all-both : {A : Type 0} (P Q R : A → Type 0) → ((x : A) → P x → Q x → R x) → (xs : List A) → AllByRecursion P xs → AllByRecursion Q xs → AllByRecursion R xs
all-both P Q R f [] h k = tt
all-both P Q R f (x ∷ xs) h k = (f x h.0 k.0, all-both P Q R f xs h.1 k.1)

pub all-less : {A : Type 0} (P : A → Type 0) (before : List A) (a : A) (behind : List A) → AllByRecursion P (before ++ a ∷ behind) → P a × AllByRecursion P (before ++ behind)
all-less P [] a behind h = (h.0, h.1)
all-less P (b ∷ before) a behind h = let r = all-less P before a behind h.1 in (r.0, (h.0, r.1))

-- ---- a slot of the frame stands otherwise

abbrev IsNotAt : ℕ → Posted → Type 0
IsNotAt i a = a.away.place ≡ i → ⊥

out-stood : (code : Compiled) (s : Section) (i : ℕ) (y : Stand (Unit {0})) (h : Held) (a : Posted) → IsOut code s a → IsNotAt i a → IsOut code (stood i y h s) a
out-stood code s i y h a out n = record {
  code_is = out.code_is;
  place = place-stood a.away.place i y h s out.place;
  first = told-else may_be_given_back a.away.place i y h s out.place.0 n ∙ out.first;
  rest = out.rest ∙ sym (rest-stood i y h s);
}

pub outs-stood : (code : Compiled) (s : Section) (i : ℕ) (y : Stand (Unit {0})) (h : Held) (ps : List Posted) → AreOut code s ps → AreNotAt i ps → AreOut code (stood i y h s) ps
outs-stood code s i y h ps outs n = record {
  each = all-both (IsOut code s) (IsNotAt i) (IsOut code (stood i y h s)) (λ a. out-stood code s i y h a) ps outs.each n;
  apart = outs.apart;
}

-- one that can be started isn't out
pub ready-elsewhere : (code : Compiled) (s : Section) (i : ℕ) (ps : List Posted) → told_of is_startable i s ≡ true → AreOut code s ps → AreNotAt i ps
ready-elsewhere code s i ps ready outs =
    AllByRecursion-weaken (IsOut code s) (IsNotAt i) (λ a out e. ready-apart i a.away.place s ready (first-runs a.away.place s out.first) (sym e)) ps outs.each

-- ---- one more is out

apart-last : (ps : List Posted) (b : Posted) → AreApart ps → AreNotAt b.away.place ps → AreApart (ps ++ b ∷ [])
apart-last [] b h n = (tt, tt)
apart-last (a ∷ ps) b h n = (AllByRecursion-append (IsNotAt a.away.place) ps (b ∷ []) h.0 ((λ e. n.0 (sym e)), tt), apart-last ps b h.1 n.1)

pub outs-more : (code : Compiled) (s : Section) (ps : List Posted) (b : Posted) → AreOut code s ps → AreNotAt b.away.place ps → IsOut code s b → AreOut code s (ps ++ b ∷ [])
outs-more code s ps b outs n out = record {
  each = AllByRecursion-append (IsOut code s) ps (b ∷ []) outs.each (out, tt);
  apart = apart-last ps b outs.apart n;
}

-- one that could be started is
pub outs-started : (code : Compiled) (s : Section) (ps : List Posted) (b : Posted) → AreOut code s ps → b.code ≡ code → IsPlaceIn b.away.place s → told_of is_startable b.away.place s ≡ true → b.away.key.rest ≡ rest_in s
    → AreOut code (stood b.away.place (Running First) nothing s) (ps ++ b ∷ [])
outs-started code s ps b outs coded place ready rest =
    let n = ready-elsewhere code s b.away.place ps ready outs in
    let t = stood b.away.place (Running First) nothing s in
    outs-more code t ps b (outs-stood code s b.away.place (Running First) nothing ps outs n) n (record {
      code_is = coded;
      place = place-stood b.away.place b.away.place (Running First) nothing s place;
      first = first-stood b.away.place nothing s place;
      rest = rest ∙ sym (rest-stood b.away.place (Running First) nothing s);
    })

-- ---- one less is

apart-less : (before : List Posted) (a : Posted) (behind : List Posted) → AreApart (before ++ a ∷ behind) → AreApart (before ++ behind) × AreNotAt a.away.place (before ++ behind)
apart-less [] a behind h = (h.1, h.0)
apart-less (b ∷ before) a behind h =
    let r = apart-less before a behind h.1 in
    let n = all-less (IsNotAt b.away.place) before a behind h.0 in
    ((n.1, r.0), ((λ e. n.0 (sym e)), r.1))

-- what is known of that one, and of the others
pub outs-less : (code : Compiled) (s : Section) (before : List Posted) (a : Posted) (behind : List Posted) → AreOut code s (before ++ a ∷ behind)
    → IsOut code s a × AreNotAt a.away.place (before ++ behind) × AreOut code s (before ++ behind)
outs-less code s before a behind outs =
    let e = all-less (IsOut code s) before a behind outs.each in
    let r = apart-less before a behind outs.apart in
    (e.0, r.1, record { each = e.1; apart = r.0 })

-- ---- as the laws name them

pub aways-append : (ps bs : List Posted) → aways_of (ps ++ bs) ≡ aways_of ps ++ aways_of bs
aways-append ps bs = map-append (λ (a : Posted). a.away) ps bs

pub without-none : (i : ℕ) (ps : List Posted) → AreNotAt i ps → without i (aways_of ps) ≡ aways_of ps
without-none i [] n = refl
without-none i (a ∷ ps) n =
    ap (λ b. if not b then a.away ∷ without i (aways_of ps) else without i (aways_of ps)) (ne_eqb a.away.place i n.0)
    ∙ ap (λ (xs : List Away). a.away ∷ xs) (without-none i ps n.1)
