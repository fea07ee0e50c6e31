-- What a move of the newest section, a push, a pop, and one move after another are to a search.
use Rattle.std.proofs.Common.{◌≡◌, ℕ, suc, ◌+◌, ◌<◌, ◌≤◌, true, false, List, [], ◌∷◌, ◌++◌, Some, None, refl, ap, sym, ◌∙◌, subst, arith}
use Rattle.std.proofs.lemmas.Bool.{false≢true}
use Rattle.std.proofs.lemmas.List.{map-append}
use Rattle.std.specs.List.{AllByRecursion}
use Rattle.ap_term.proofs.Zips.{AllByRecursion-append}
use Rattle.ap_frames.specs.declared.slots.Stand.{Stand}
use Rattle.ap_frames.specs.Slots.{is_startable, may_be_given_back}
use Rattle.ap_instr.specs.Code.{Compiled}
use Rattle.ap_tie.specs.Sections as seen
use Rattle.ap_tie.specs.Sections.{Held}
use Rattle.ap_tied.specs.SlotCalls.{stood}
use Rattle.ap_tied.specs.Ties as tied
use Rattle.ap_open.specs.Away.{Away, Level, OpenBeside, Carries}
use Rattle.ap_open.specs.Sharing.{SharingLaw}
use Rattle.ap_open.proofs.Outcomes.{happened_more}
use Rattle.ap_section.specs.Views.{view_of}
use Rattle.ap_section.specs.Ready.{IsReady}
use Rattle.ap_section.specs.Slots.{IsAtFrame, told_of, readied_in}
use Rattle.ap_section.specs.Owed.{OwesNoMore}
use Rattle.ap_section.proofs.Owed.{no-more-same}
use Rattle.ap_section.proofs.Stood.{first-runs, ready-apart, place-stood, told-else, place-readied, first-readied}
use Rattle.ap_post.specs.declared.post.Post.{Post}
use Rattle.ap_post.specs.Posted.{Posted}
use Rattle.ap_post.specs.Posts.{posted_in, SamePosted, SameJobs}
use Rattle.ap_stack.specs.declared.stack.Open.{Open}
use Rattle.ap_stack.specs.declared.stack.Stack.{Stack}
use Rattle.ap_stack.specs.Levels.{aways_of, aways_in, level_of, levels_of, IsOut, AreNotAt, AreOut, IsOpen, Rise}
use Rattle.ap_stack.specs.Stacks.{code_in, levels_in, section_in, away_in, IsGood, Pays, Goes}
use Rattle.ap_stack.proofs.Counts.{rest-stood, rest-readied, stays-pays, le-then}

-- ---- events one after another

refused : {A : Type 0} (u : A) → None ≡ Some u → ⊥
refused u h = cc

pub carries-then : (code : Compiled) (k l m : List Level) (s t u : seen.Section) (out bs cs : List Away) → Carries code k s out l t bs → Carries code l t bs m u cs → Carries code k s out m u cs
carries-then code k l m s t u out bs cs first second p o x h =
    let a = first p o x h in
    let b = second p o a.1 a.3 in
    (a.0 ++ b.0, b.1, happened_more p a.0 b.0 x a.1 a.2 ∙ b.2, b.3)

-- ---- all of a list

pub all-last : {A : Type 0} (P : A → Type 0) (xs : List A) (x : A) → AllByRecursion P (xs ++ x ∷ []) → AllByRecursion P xs × P x
all-last P [] x h = (tt, h.0)
all-last P (y ∷ ys) x h = let r = all-last P ys x h.1 in ((h.0, r.0), r.1)

-- ---- goals that are out

not-at-ready : (code : Compiled) (i : ℕ) (s : seen.Section) (out : List Posted) → told_of is_startable i s ≡ true → AllByRecursion (IsOut code s) out → AreNotAt i out
not-at-ready code i s [] ready h = tt
not-at-ready code i s (a ∷ out) ready h =
    ((λ e. ready-apart i a.away.place s ready (first-runs a.away.place s h.0.first) (sym e)), not-at-ready code i s out ready h.1)

-- none of them is of a slot that can be started
pub elsewhere-ready : (code : Compiled) (i : ℕ) (s : seen.Section) (out : List Posted) → told_of is_startable i s ≡ true → AreOut code s out → AreNotAt i out
elsewhere-ready code i s out ready h = not-at-ready code i s out ready h.each

each-stood : (code : Compiled) (i : ℕ) (e : Stand (Unit {0})) (h : Held) (s : seen.Section) (out : List Posted) → AreNotAt i out → AllByRecursion (IsOut code s) out → AllByRecursion (IsOut code (stood i e h s)) out
each-stood code i e h s [] apart all = tt
each-stood code i e h s (a ∷ out) apart all =
    let j = a.away.place in (
      record {
        code_is = all.0.code_is;
        place = place-stood j i e h s all.0.place;
        first = told-else may_be_given_back j i e h s all.0.place.0 apart.0 ∙ all.0.first;
        rest = all.0.rest ∙ sym (rest-stood i e h s);
      },
      each-stood code i e h s out apart.1 all.1,
    )

-- where another slot stands otherwise they stay out
pub out-stood : (code : Compiled) (i : ℕ) (e : Stand (Unit {0})) (h : Held) (s : seen.Section) (out : List Posted) → AreNotAt i out → AreOut code s out → AreOut code (stood i e h s) out
out-stood code i e h s out apart all = record { each = each-stood code i e h s out apart all.each; apart = all.apart }

each-readied : (code : Compiled) (i : ℕ) (s : seen.Section) (out : List Posted) → AllByRecursion (IsOut code s) out → AllByRecursion (IsOut code (readied_in i s)) out
each-readied code i s [] all = tt
each-readied code i s (a ∷ out) all =
    let j = a.away.place in (
      record {
        code_is = all.0.code_is;
        place = place-readied j i s all.0.place;
        first = first-readied j i s all.0.first;
        rest = all.0.rest ∙ sym (rest-readied i s);
      },
      each-readied code i s out all.1,
    )

pub out-readied : (code : Compiled) (i : ℕ) (s : seen.Section) (out : List Posted) → AreOut code s out → AreOut code (readied_in i s) out
out-readied code i s out all = record { each = each-readied code i s out all.each; apart = all.apart }

pub out-none : (code : Compiled) (s : seen.Section) (out : List Posted) → out ≡ [] → AreOut code s out
out-none code s out none = subst (AreOut code s) (sym none) (record { each = tt; apart = tt })

pub not-at-none : (i : ℕ) (out : List Posted) → out ≡ [] → AreNotAt i out
not-at-none i out none = subst (AreNotAt i) (sym none) tt

-- ---- numbers of frames

below-then : (a b c : ℕ) → a < b → b < c → a < c
below-then a b c h k = omega arith

same-least : (a b c : ℕ) → a ≤ b → c ≡ b → a ≤ c
same-least a b c h e = omega arith

above : (a b c : ℕ) → c ≡ a → a < b → suc c ≤ b
above a b c e h = omega arith

under : (a b : ℕ) → suc a ≤ b → a < b
under a b h = omega arith

-- where frames get numbers
pub no-less : (a b : ℕ) → b ≡ a → a ≤ b
no-less a b e = omega arith

pub one-more : (a b : ℕ) → b ≡ a + 1 → a ≤ b
one-more a b e = omega arith

pub fresh-above : (a b n : ℕ) → n ≡ b → a < b → a < n
fresh-above a b n e h = omega arith

pub fresh-below : (b n m : ℕ) → n ≡ b → m ≡ b + 1 → n < m
fresh-below b n m e h = omega arith

pub rise-push : (lo hi top : ℕ) (es : List Open) (e : Open) → Rise lo es hi → e.frame ≡ hi → hi < top → Rise lo (es ++ e ∷ []) top
rise-push lo hi top [] e h same more = (same-least lo hi e.frame h same, above hi top e.frame same more)
rise-push lo hi top (x ∷ es) e h same more = (h.0, rise-push (suc x.frame) hi top es e h.1 same more)

pub rise-pop : (lo top : ℕ) (es : List Open) (e : Open) → Rise lo (es ++ e ∷ []) top → Rise lo es e.frame × (e.frame < top)
rise-pop lo top [] e h = (h.0, under e.frame top h.1)
rise-pop lo top (x ∷ es) e h = let r = rise-pop (suc x.frame) top es e h.1 in ((h.0, r.0), r.1)

-- ---- another post where the same goals are out

open-posted : (code : Compiled) (p q : Post) (e : Open) → SamePosted p q → IsOpen code p e → IsOpen code q e
open-posted code p q e same h =
    let is = sym (same e.frame) in
    record {
      ready = h.ready;
      at_frame = h.at_frame;
      place = h.place;
      runs = h.runs;
      out = subst (AreOut code (view_of e.section)) is h.out;
      elsewhere = subst (AreNotAt e.place) is h.elsewhere;
    }

opens-posted : (code : Compiled) (p q : Post) (es : List Open) → SamePosted p q → AllByRecursion (IsOpen code p) es → AllByRecursion (IsOpen code q) es
opens-posted code p q [] same h = tt
opens-posted code p q (e ∷ es) same h = (open-posted code p q e same h.0, opens-posted code p q es same h.1)

levels-posted : (p q : Post) (es : List Open) → SamePosted p q → levels_of q es ≡ levels_of p es
levels-posted p q [] same = refl
levels-posted p q (e ∷ es) same =
    ap (λ l. l ∷ levels_of q es) (ap (λ out. record { section = view_of e.section; place = e.place; since = e.since; aways = aways_of out }) (same e.frame)) ∙ ap (λ ls. level_of p e ∷ ls) (levels-posted p q es same)

pub good-posted : (p q : Post) (s : Stack) → SamePosted p q → p.next ≤ q.next → IsGood p s → IsGood q s
good-posted p q s same more good =
    let is = sym (same s.frame) in
    record {
      ready = good.ready;
      outer = opens-posted (code_in s) p q s.outer.items same good.outer;
      at_frame = good.at_frame;
      none_out = λ h. same s.frame ∙ good.none_out h;
      out = subst (AreOut (code_in s) (section_in s)) is good.out;
      rise = good.rise;
      below = le-then (suc s.frame) p.next q.next good.below more;
    }

pub goes-posted : SharingLaw → (p q : Post) (s : Stack) → SamePosted p q → SameJobs p q → p.next ≤ q.next → IsGood p s → Goes p s q s
goes-posted law p q s same jobs more good =
    let code = code_in s in
    let levels = sym (levels-posted p q s.outer.items same) in
    let away = sym (ap aways_of (same s.frame)) in
    record {
      good = good-posted p q s same more good;
      sound = refl;
      first = refl;
      carries = subst (λ out. Carries code (levels_in p s) (section_in s) (away_in p s) (levels_in q s) (section_in s) out) away
          (subst (λ ls. Carries code (levels_in p s) (section_in s) (away_in p s) ls (section_in s) (away_in p s)) levels (law.stays code (levels_in p s) (section_in s) (away_in p s)));
      pays = λ b r o u tie h. h;
      below = λ g l. same g;
      jobs = jobs;
      next = more;
    }

-- ---- one move after another

same-jobs : (p : Post) → SameJobs p p
same-jobs p = record { jobs = refl; asked = refl }

pub goes-same : SharingLaw → (p : Post) (s : Stack) → IsGood p s → Goes p s p s
goes-same law p s good = goes-posted law p p s (λ f. refl) (same-jobs p) (le-same p.next) good
  where
    le-same : (n : ℕ) → n ≤ n
    le-same n = omega arith

pub goes-then : (p q r : Post) (s t u : Stack) → Goes p s q t → Goes q t r u → Goes p s r u
goes-then p q r s t u a b = record {
  good = b.good;
  sound = b.sound ∙ a.sound;
  first = b.first ∙ a.first;
  carries = carries-then (code_in s) (levels_in p s) (levels_in q t) (levels_in r u) (section_in s) (section_in t) (section_in u) (away_in p s) (away_in q t) (away_in r u) a.carries
      (subst (λ c. Carries c (levels_in q t) (section_in t) (away_in q t) (levels_in r u) (section_in u) (away_in r u)) a.sound b.carries);
  pays = λ n rules o task tie h.
      let led = a.carries rules o task tie in
      b.pays n rules o led.1 (subst (λ c. OpenBeside c rules o (levels_in q t) (section_in t) (away_in q t) led.1) (sym a.sound) led.3) (a.pays n rules o task tie h);
  below = λ g l. b.below g (subst (λ n. g < n) (sym a.first) l) ∙ a.below g l;
  jobs = record { jobs = b.jobs.jobs ∙ a.jobs.jobs; asked = b.jobs.asked ∙ a.jobs.asked };
  next = le-then p.next q.next r.next a.next b.next;
}

-- ---- the newest section moves

module _ (p : Post) (s t : Stack) (outer : t.outer.items ≡ s.outer.items) (sound : code_in t ≡ code_in s) (first : t.first ≡ s.first) (frame : t.frame ≡ s.frame) where
  -- where the newest one is moved, and all others stay
  pub moved : IsGood p s → IsReady (code_in s) t.newest → (t.tends ≡ true → IsAtFrame (section_in t)) → (t.tends ≡ false → posted_in p s.frame ≡ []) → AreOut (code_in s) (section_in t) (posted_in p s.frame)
      → Carries (code_in s) (levels_in p s) (section_in s) (away_in p s) (levels_in p s) (section_in t) (away_in p s) → Pays p s t → Goes p s p t
  moved good ready at none out carries pays =
      let code = code_in s in
      record {
        good = record {
          ready = subst (λ c. IsReady c t.newest) (sym sound) ready;
          outer = subst (λ c. AllByRecursion (IsOpen c p) t.outer.items) (sym sound) (subst (AllByRecursion (IsOpen code p)) (sym outer) good.outer);
          at_frame = at;
          none_out = λ h. ap (posted_in p) frame ∙ none h;
          out = subst (λ c. AreOut c (section_in t) (posted_in p t.frame)) (sym sound) (subst (λ f. AreOut code (section_in t) (posted_in p f)) (sym frame) out);
          rise = subst (λ n. Rise n t.outer.items t.frame) (sym first) (subst (λ es. Rise s.first es t.frame) (sym outer) (subst (Rise s.first s.outer.items) (sym frame) good.rise));
          below = subst (λ n. n < p.next) (sym frame) good.below;
        };
        sound = sound;
        first = first;
        carries = subst (λ es. Carries code (levels_in p s) (section_in s) (away_in p s) (levels_of p es) (section_in t) (away_in p t)) (sym outer)
            (subst (λ f. Carries code (levels_in p s) (section_in s) (away_in p s) (levels_in p s) (section_in t) (aways_in p f)) (sym frame) carries);
        pays = pays;
        below = λ g l. refl;
        jobs = same-jobs p;
        next = le-then p.next p.next p.next (omega arith) (omega arith);
      }

  -- where none of its goals is out
  pub moved-alone : SharingLaw → IsGood p s → posted_in p s.frame ≡ [] → IsReady (code_in s) t.newest → (t.tends ≡ true → IsAtFrame (section_in t)) → tied.Goes (code_in s) (section_in s) (section_in t) → Pays p s t
      → Goes p s p t
  moved-alone law good none ready at goes pays =
      let code = code_in s in
      let away : [] ≡ away_in p s = sym (ap aways_of none) in
      moved good ready at (λ h. none) (out-none code (section_in t) (posted_in p s.frame) none)
      (subst (λ out. Carries code (levels_in p s) (section_in s) out (levels_in p s) (section_in t) out) away (law.moves code (levels_in p s) (section_in s) (section_in t) goes)) pays

-- nothing of it has changed
pub kept : SharingLaw → (p : Post) (s t : Stack) → t.outer.items ≡ s.outer.items → code_in t ≡ code_in s → t.first ≡ s.first → t.frame ≡ s.frame → t.newest ≡ s.newest → t.tends ≡ s.tends → t.share ≡ s.share → IsGood p s → Goes p s p t
kept law p s t outer sound first frame newest tends share good =
    let code = code_in s in
    moved p s t outer sound first frame good (subst (IsReady code) (sym newest) good.ready) (λ h. subst (λ x. IsAtFrame (view_of x)) (sym newest) (good.at_frame (sym tends ∙ h)))
    (λ h. good.none_out (sym tends ∙ h)) (subst (λ x. AreOut code (view_of x) (posted_in p s.frame)) (sym newest) good.out)
    (subst (λ x. Carries code (levels_in p s) (section_in s) (away_in p s) (levels_in p s) (view_of x) (away_in p s)) (sym newest) (law.stays code (levels_in p s) (section_in s) (away_in p s)))
    (stays-pays p s t outer share (subst (λ x. OwesNoMore (section_in s) (view_of x)) (sym newest) (no-more-same (section_in s))))

pub kept-good : SharingLaw → (p : Post) (s t : Stack) → t.outer.items ≡ s.outer.items → code_in t ≡ code_in s → t.first ≡ s.first → t.frame ≡ s.frame → t.newest ≡ s.newest → t.tends ≡ s.tends → t.share ≡ s.share → IsGood p s → IsGood p t
kept-good law p s t outer sound first frame newest tends share good = (kept law p s t outer sound first frame newest tends share good).good

-- ---- one section more

module _ (p : Post) (s t : Stack) (e : Open) (outer : t.outer.items ≡ s.outer.items ++ e ∷ []) (sound : code_in t ≡ code_in s) (first : t.first ≡ s.first) where
  pub pushed : IsGood p s → IsOpen (code_in s) p e → e.frame ≡ s.frame → s.frame < t.frame → t.frame < p.next → posted_in p t.frame ≡ [] → t.tends ≡ false → IsReady (code_in s) t.newest
      → Carries (code_in s) (levels_in p s) (section_in s) (away_in p s) (levels_in p s ++ level_of p e ∷ []) (section_in t) [] → Pays p s t → Goes p s p t
  pushed good one same more under none tends ready carries pays =
      let code = code_in s in
      record {
        good = record {
          ready = subst (λ c. IsReady c t.newest) (sym sound) ready;
          outer = subst (λ c. AllByRecursion (IsOpen c p) t.outer.items) (sym sound)
              (subst (AllByRecursion (IsOpen code p)) (sym outer) (AllByRecursion-append (IsOpen code p) s.outer.items (e ∷ []) good.outer (one, tt)));
          at_frame = λ h. absurd (false≢true (sym tends ∙ h));
          none_out = λ h. none;
          out = out-none (code_in t) (section_in t) (posted_in p t.frame) none;
          rise = subst (λ n. Rise n t.outer.items t.frame) (sym first) (subst (λ es. Rise s.first es t.frame) (sym outer) (rise-push s.first s.frame t.frame s.outer.items e good.rise same more));
          below = under;
        };
        sound = sound;
        first = first;
        carries = subst (λ ls. Carries code (levels_in p s) (section_in s) (away_in p s) ls (section_in t) (away_in p t)) (sym (ap (levels_of p) outer ∙ map-append (level_of p) s.outer.items (e ∷ [])))
            (subst (λ out. Carries code (levels_in p s) (section_in s) (away_in p s) (levels_in p s ++ level_of p e ∷ []) (section_in t) out) (sym (ap aways_of none)) carries);
        pays = pays;
        below = λ g l. refl;
        jobs = same-jobs p;
        next = le-then p.next p.next p.next (omega arith) (omega arith);
      }

-- ---- one section less

module _ (p : Post) (s : Stack) (es : List Open) (e : Open) (outer : s.outer.items ≡ es ++ e ∷ []) where
  -- the one that waited for it
  pub popped-open : IsGood p s → AllByRecursion (IsOpen (code_in s) p) es × IsOpen (code_in s) p e
  popped-open good = all-last (IsOpen (code_in s) p) es e (subst (AllByRecursion (IsOpen (code_in s) p)) outer good.outer)

  pub popped : (t : Stack) → t.outer.items ≡ es → code_in t ≡ code_in s → t.first ≡ s.first → t.frame ≡ e.frame → t.tends ≡ true → IsGood p s → IsReady (code_in s) t.newest → IsAtFrame (section_in t)
      → AreOut (code_in s) (section_in t) (posted_in p e.frame)
      → Carries (code_in s) (levels_of p es ++ level_of p e ∷ []) (section_in s) (away_in p s) (levels_of p es) (section_in t) (aways_in p e.frame) → Pays p s t → Goes p s p t
  popped t same sound first frame tends good ready at out carries pays =
      let code = code_in s in
      let rise = rise-pop s.first s.frame es e (subst (λ xs. Rise s.first xs s.frame) outer good.rise) in
      record {
        good = record {
          ready = subst (λ c. IsReady c t.newest) (sym sound) ready;
          outer = subst (λ c. AllByRecursion (IsOpen c p) t.outer.items) (sym sound) (subst (AllByRecursion (IsOpen code p)) (sym same) (popped-open good).0);
          at_frame = λ h. at;
          none_out = λ h. absurd (false≢true (sym h ∙ tends));
          out = subst (λ c. AreOut c (section_in t) (posted_in p t.frame)) (sym sound) (subst (λ f. AreOut code (section_in t) (posted_in p f)) (sym frame) out);
          rise = subst (λ n. Rise n t.outer.items t.frame) (sym first) (subst (λ xs. Rise s.first xs t.frame) (sym same) (subst (Rise s.first es) (sym frame) rise.0));
          below = subst (λ n. n < p.next) (sym frame) (below-then e.frame s.frame p.next rise.1 good.below);
        };
        sound = sound;
        first = first;
        carries = subst (λ ls. Carries code ls (section_in s) (away_in p s) (levels_in p t) (section_in t) (away_in p t)) (sym (ap (levels_of p) outer ∙ map-append (level_of p) es (e ∷ [])))
            (subst (λ xs. Carries code (levels_of p es ++ level_of p e ∷ []) (section_in s) (away_in p s) (levels_of p xs) (section_in t) (away_in p t)) (sym same)
            (subst (λ f. Carries code (levels_of p es ++ level_of p e ∷ []) (section_in s) (away_in p s) (levels_of p es) (section_in t) (aways_in p f)) (sym frame) carries));
        pays = pays;
        below = λ g l. refl;
        jobs = same-jobs p;
        next = le-then p.next p.next p.next (omega arith) (omega arith);
      }

  -- its slot stands so then
  pub stopped : (st : Stand (Unit {0})) (h : Held) (t : Stack) → t.outer.items ≡ es → code_in t ≡ code_in s → t.first ≡ s.first → t.frame ≡ e.frame → t.tends ≡ true → IsGood p s → IsReady (code_in s) t.newest → IsAtFrame (section_in t)
      → section_in t ≡ stood e.place st h (view_of e.section)
      → Carries (code_in s) (levels_of p es ++ level_of p e ∷ []) (section_in s) (away_in p s) (levels_of p es) (stood e.place st h (view_of e.section)) (aways_in p e.frame) → Pays p s t → Goes p s p t
  stopped st h t same sound first frame tends good ready at is carries pays =
      let code = code_in s in
      let one = (popped-open good).1 in
      popped t same sound first frame tends good ready at
      (subst (λ v. AreOut code v (posted_in p e.frame)) (sym is) (out-stood code e.place st h (view_of e.section) (posted_in p e.frame) one.elsewhere one.out))
      (subst (λ v. Carries code (levels_of p es ++ level_of p e ∷ []) (section_in s) (away_in p s) (levels_of p es) v (aways_in p e.frame)) (sym is) carries) pays

  -- the same where none of its own goals is out
  pub ended : (st : Stand (Unit {0})) (h : Held) (t : Stack) → t.outer.items ≡ es → code_in t ≡ code_in s → t.first ≡ s.first → t.frame ≡ e.frame → t.tends ≡ true → IsGood p s → posted_in p s.frame ≡ [] → IsReady (code_in s) t.newest → IsAtFrame (section_in t)
      → section_in t ≡ stood e.place st h (view_of e.section)
      → Carries (code_in s) (levels_of p es ++ level_of p e ∷ []) (section_in s) [] (levels_of p es) (stood e.place st h (view_of e.section)) (aways_in p e.frame) → Pays p s t → Goes p s p t
  ended st h t same sound first frame tends good none ready at is carries pays =
      stopped st h t same sound first frame tends good ready at is
      (subst (λ out. Carries (code_in s) (levels_of p es ++ level_of p e ∷ []) (section_in s) out (levels_of p es) (stood e.place st h (view_of e.section)) (aways_in p e.frame)) (sym (ap aways_of none)) carries) pays
