-- The last token of a long term.
use Rattle.std.proofs.Common.{◌≡◌, ℕ, ◌+◌, ◌≤◌, Bool, true, false, List, [], ◌∷◌, ◌++◌, zero, suc, length, take, drop, take-append-drop, slice_get, Some, None, Err, sym, ap, subst, ◌∙◌, arith, length-append, append_assoc}
use Rattle.std.proofs.lemmas.Option.{same_Some, slice_get_within}
use Rattle.std.proofs.Math.Seq.{take-add}
use Rattle.std.proofs.lemmas.List.{append-nil, take_all}
use Rattle.ap_lexer.specs.declared.kind.TokenKind.TheVariants as token
use Rattle.ap_lexer.specs.Lexeme.{Text}
use Rattle.ap_lexer.specs.declared.split.Token.{Token}
use Rattle.ap_lexer.specs.Token.{Placed, view}
use Rattle.ap_lexer.specs.Stream as stream
use Rattle.ap_reader.specs.declared.long.Steps.{Steps}
use Rattle.ap_reader.specs.declared.pass.Step.{Step}
use Rattle.ap_reader.specs.Machine.{State, Wants, Signed, Called, Has, Stuck, over, next, ended, parsed}
use Rattle.ap_reader.specs.declared.pass.Mode.{Mode}
use Rattle.ap_reader.specs.declared.pass.Mode.TheVariants as mode
use Rattle.ap_reader.specs.Step.{postfix, Shows, Follows, Finds}
use Rattle.ap_reader.specs.Grammar.{Tree}
use Rattle.ap_reader.specs.declared.pass.Open.{Open}
use Rattle.ap_reader.specs.declared.pass.ParseErr.{ParseErr}
use Rattle.ap_reader.specs.declared.pass.ParseErr.TheVariants as err
use Rattle.ap_reader.specs.Word.{words, words_from, word_by}
use Rattle.ap_reader.specs.Written.{Written, AreText, leaves, variables, meaning}
use Rattle.ap_reader.specs.Evaluated.{ATerm, evaluated, evaluates}
use Rattle.ap_reader.specs.Leaves.{AreOnce, Numbers, texts}
use Rattle.ap_reader.specs.Reading.{EndsAs, Spells}
use Rattle.ap_reader.specs.Long.{Between, Goes, Going, Holds, Left, Answers, Nexts, Runs, RunsBy, Takes}
use Rattle.ap_term.specs.declared.names.InternErr.{InternErr}
use Rattle.ap_term.specs.declared.names.InternErr.TheVariants as intern
use Rattle.ap_reader.specs.Build.{Extends, FaultAt}
use Rattle.ap_reader.proofs.Complete.{complete, one}
use Rattle.ap_reader.proofs.Moves.{total, front_of}
use Rattle.ap_reader.proofs.Read.{one_front}
use Rattle.ap_reader.proofs.Parsed.{fault_at}
use Rattle.ap_reader.proofs.Taking.{ends_last, word_first, left_next}

-- the last token, before it is taken
pub record AtEnd (ts : List Placed) (t : Placed) (front : List Placed) (done : List Step) (s : Steps) (b : Between ts done t s) : Type 0 where
  pub kind : t.kind ≡ token.End
  pub words_are : over (Wants []) (words front) ≡ b.x
  pub leaves_are : leaves [] front ≡ b.passed
  pub variables_are : variables [] front ≡ texts s.variables.names.items
  pub text : AreText front

no_left : (ts : List Placed) (done : List Step) (t : Placed) (s : Steps) (b : Between ts done t s) → s.token ≡ None → b.left ≡ []
no_left ts done t s b none = subst (λ k. Left k s.tokens b.left) none b.left_is

pub at_end : (ts : List Placed) (done : List Step) (t : Placed) (s : Steps) (b : Between ts done t s) (front : List Placed) → s.token ≡ None → EndsAs ts front → AtEnd ts t front done s b
at_end ts done t s b front none e =
    let g = b.goes front e in
    let last = ends_last t g.rest (subst (λ l. EndsAs (t ∷ l) g.rest) (no_left ts done t s b none) g.ends) in
    record {
      kind = last.1;
      words_are = g.words_are ∙ ap (λ r. over b.x (words_from s.before s.at r)) last.0;
      leaves_are = g.leaves_are ∙ ap (λ r. b.passed ++ leaves (texts s.variables.names.items) r) last.0 ∙ append-nil b.passed;
      variables_are = g.variables_are ∙ ap (variables (texts s.variables.names.items)) last.0;
      text = g.text.0 (subst AreText (sym last.0) tt);
    }

-- the tokens that were taken are those before the end
pub ends_as : (ts : List Placed) (done : List Step) (t : Placed) (s : Steps) (b : Between ts done t s) → s.token ≡ None → t.kind ≡ token.End → EndsAs ts b.taken
ends_as ts done t s b none kind = (t, kind, b.all ∙ ap (λ l. b.taken ++ t ∷ l) (no_left ts done t s b none))

-- ---- a token that another one follows

-- the token behind it is the first of those that are left
pub record Followed (ts : List Placed) (done : List Step) (t z : Placed) (s : Steps) (b : Between ts done t s) : Type 0 where
  pub more : List Placed
  pub left_is : b.left ≡ z ∷ more
  pub gives : stream.Gives s.tokens more

pub followed : (ts : List Placed) (done : List Step) (t : Placed) (z : Token) (s : Steps) (b : Between ts done t s) → s.token ≡ Some z → Followed ts done t (view z) s b
followed ts done t z s b e =
    let l = subst (λ k. Left k s.tokens b.left) e b.left_is in
    record { more = l.0; left_is = l.1; gives = l.2 }

pub goes_of : (ts : List Placed) (done : List Step) (t z : Placed) (s : Steps) (b : Between ts done t s) (f : Followed ts done t z s b) (front : List Placed) → EndsAs ts front → Goes ts (t ∷ z ∷ f.more) front b.x b.passed s
goes_of ts done t z s b f front e = subst (λ l. Goes ts (t ∷ l) front b.x b.passed s) f.left_is (b.goes front e)

pub shown : (ts : List Placed) (done : List Step) (t : Placed) (s : Steps) (b : Between ts done t s) → Shows b.x s.mode s.pass.stack.items (done ++ s.pass.out.items)
shown ts done t s b = subst (λ o. Shows b.x s.mode s.pass.stack.items o) (sym (append-nil done) ∙ ap (λ o. done ++ o) (sym b.none)) b.shows

fault_of : (fault : ParseErr) (ts : List Placed) (done : List Step) (new : Steps) → ((front : List Placed) (t : Tree) → Spells ts front t → Finds (words front) (Err fault)) → Takes ts done (Err fault) new
fault_of err.NotATerm ts done new f = λ front t sp. f front t sp t sp.rules sp.spelling
fault_of err.NoMemory ts done new f = tt

pub stuck_token : (fault : ParseErr) (ts : List Placed) (done : List Step) (t z : Placed) (s new : Steps) (b : Between ts done t s) (f : Followed ts done t z s b) (stack : List Open) (out : List Step) → Follows (next b.x (word_by t.kind s.at s.before t (Some z))) (Err fault) stack out → Takes ts done (Err fault) new
stuck_token fault ts done t z s new b f stack out k =
    fault_of fault ts done new (λ front tree sp.
    let w = word_first ts f.more front t z b.x b.passed s (goes_of ts done t z s b f front sp.ends) in
    fault_at (words front) (words_from (Some t.kind) (s.at + 1) w.0) b.x (word_by t.kind s.at s.before t (Some z)) fault stack out w.3 k)

pub is_going : (over : Bool) (ts : List Placed) (given : List Step) (passed : List Written) (s : Steps) → over ≡ false → Going ts given passed s → RunsBy over ts given passed s
is_going false ts given passed s e g = g
is_going true ts given passed s e g = absurd (cc)

pub going : (over : Bool) (ts : List Placed) (given : List Step) (passed : List Written) (s : Steps) → over ≡ false → RunsBy over ts given passed s → Going ts given passed s
going false ts given passed s e g = g
going true ts given passed s e g = absurd (cc)

-- where no token is left there is no end token
pub none_to_take : (ts : List Placed) (given : List Step) (passed : List Written) (s : Steps) (g : Going ts given passed s) → s.token ≡ None → (front : List Placed) (t : Tree) → Spells ts front t → ⊥
none_to_take ts given passed s g none front t sp =
    let goes = g.goes front sp.ends in
    let empty : g.left ≡ [] = subst (λ k. Left k s.tokens g.left) none g.left_is in
    let ends = goes.ends in
    omega (arith, ap length (sym empty ∙ ends.2), length-append goes.rest (ends.0 ∷ []))

-- ---- what was given of the steps of the tree that the tokens spell

shows_total : (x : State) (m : Mode) (stack : List Open) (out : List Step) → Shows x m stack out → total x ≡ out
shows_total (Wants s) mode.Wants stack out h = sym h.out_is
shows_total (Wants s) mode.Signed stack out h = absurd h
shows_total (Wants s) (mode.Called at) stack out h = absurd h
shows_total (Wants s) mode.Has stack out h = absurd h
shows_total (Signed sign i s) mode.Signed stack out h = sym h.out_is
shows_total (Signed sign i s) mode.Wants stack out h = absurd h
shows_total (Signed sign i s) (mode.Called at) stack out h = absurd h
shows_total (Signed sign i s) mode.Has stack out h = absurd h
shows_total (Called at i s) (mode.Called n) stack out h = sym h.1.out_is
shows_total (Called at i s) mode.Wants stack out h = absurd h
shows_total (Called at i s) mode.Signed stack out h = absurd h
shows_total (Called at i s) mode.Has stack out h = absurd h
shows_total (Has t s) mode.Has stack out h = sym h.out_is
shows_total (Has t s) mode.Wants stack out h = absurd h
shows_total (Has t s) mode.Signed stack out h = absurd h
shows_total (Has t s) (mode.Called at) stack out h = absurd h
shows_total Stuck m stack out h = absurd h

-- the rest of a tree's steps, and of its leaves
abbrev pub Rests : List Placed → Tree → List Step → List Written → Type 0
Rests front t given passed = (more : List Step) × (tail : List Written) × (postfix t ≡ given ++ more) × (leaves [] front ≡ passed ++ tail)

pub rests : (over : Bool) (ts : List Placed) (given : List Step) (passed : List Written) (s : Steps) → RunsBy over ts given passed s → (front : List Placed) (t : Tree) → Spells ts front t → Rests front t given passed
rests false ts given passed s g front t sp =
    let goes = g.goes front sp.ends in
    let found = front_of (words_from s.before s.at goes.rest) g.x t (ap ended (sym goes.words_are) ∙ ap parsed (sym sp.spelling) ∙ complete t sp.rules) in
    (found.0, leaves (texts s.variables.names.items) goes.rest, found.1 ∙ ap (λ l. l ++ found.0) (shows_total g.x s.mode s.pass.stack.items given g.shows), goes.leaves_are)
rests true ts given passed s g front t sp =
    let same_front = one_front ts front g.0 sp.ends g.2.ends in
    let same = one t g.1 sp.rules g.2.rules (sp.spelling ∙ ap words same_front ∙ sym g.2.spelling) in
    ([], [], ap postfix same ∙ sym g.3 ∙ sym (append-nil given), ap (leaves []) same_front ∙ g.4 ∙ sym (append-nil passed))

pub at_given : (xs : List Step) (i : ℕ) (x : Step) → slice_get xs i ≡ Some x → drop i xs ≡ x ∷ drop (i + 1) xs
at_given [] i x e = absurd (cc)
at_given (y ∷ xs) zero x e = ap (λ z. z ∷ xs) (same_Some y x e)
at_given (y ∷ xs) (suc i) x e = let up : suc (i + 1) ≡ suc i + 1 = omega arith in at_given xs i x e ∙ ap (λ k. x ∷ drop k (y ∷ xs)) up

pub taken_more : (xs : List Step) (i : ℕ) (x : Step) → slice_get xs i ≡ Some x → take (i + 1) xs ≡ take i xs ++ x ∷ []
taken_more xs i x e = take-add i 1 xs ∙ ap (λ l. take i xs ++ take 1 l) (at_given xs i x e)

pub given_inside : (xs : List Step) (i : ℕ) (x : Step) → slice_get xs i ≡ Some x → i + 1 ≤ length xs
given_inside xs i x e = let h = slice_get_within xs i x e in omega (arith, h)

-- the step that is given next
pub split : (gone out : List Step) (i : ℕ) (x : Step) → slice_get out i ≡ Some x → gone ++ out ≡ (gone ++ take i out) ++ x ∷ drop (i + 1) out
split gone out i x e = ap (λ l. gone ++ l) (sym (take-append-drop i out) ∙ ap (λ l. take i out ++ l) (at_given out i x e)) ∙ sym (append_assoc gone (take i out) (x ∷ drop (i + 1) out))

-- ---- between two tokens

all_given : (ts : List Placed) (done : List Step) (s : Steps) (r : Runs ts done s) → length s.pass.out.items ≤ s.given → r.gone ++ s.pass.out.items ≡ done
all_given ts done s r h = sym (r.done_is ∙ ap (λ l. r.gone ++ l) (take_all s.given s.pass.out.items h))

goes_alike : (ts left front : List Placed) (x : State) (passed : List Written) (s new : Steps) → new.before ≡ s.before → new.at ≡ s.at → new.variables ≡ s.variables → Goes ts left front x passed s → Goes ts left front x passed new
goes_alike ts left front x passed s new b a v g = record {
  rest = g.rest;
  ends = g.ends;
  words_are = g.words_are ∙ ap (λ k. over x (words_from k s.at g.rest)) (sym b) ∙ ap (λ n. over x (words_from new.before n g.rest)) (sym a);
  leaves_are = g.leaves_are ∙ ap (λ k. passed ++ leaves (texts k.names.items) g.rest) (sym v);
  variables_are = g.variables_are ∙ ap (λ k. variables (texts k.names.items) g.rest) (sym v);
  text = g.text;
}

-- what is alike in a token's two moments
pub record Cut (s new : Steps) (t : Token) : Type 0 where
  pub given : length s.pass.out.items ≤ s.given
  pub running : s.is_over ≡ false
  pub token : s.token ≡ Some t
  pub stands : stream.Stands new.tokens
  pub follows : stream.Follows s.tokens new.token new.tokens
  pub none : new.pass.out.items ≡ []
  pub begun : new.given ≡ 0
  pub stack : new.pass.stack.items ≡ s.pass.stack.items
  pub mode : new.mode ≡ s.mode
  pub before : new.before ≡ s.before
  pub at : new.at ≡ s.at
  pub variables : new.variables ≡ s.variables
  pub is_over : new.is_over ≡ s.is_over

pub begins : (ts : List Placed) (done : List Step) (s new : Steps) (t : Token) (r : Runs ts done s) → Cut s new t → Holds r.passed new → Between ts done (view t) new
begins ts done s new t r c held =
    let g = going s.is_over ts (r.gone ++ s.pass.out.items) r.passed s c.running r.runs in
    let l = subst (λ k. Left k s.tokens g.left) c.token g.left_is in
    record {
      stands = c.stands;
      none = c.none;
      given = c.begun;
      running = c.is_over ∙ c.running;
      passed = r.passed;
      holds = held;
      numbers = subst (λ v. Numbers v.numbers (texts v.names.items)) (sym c.variables) r.numbers;
      once = subst (λ v. AreOnce v.names.items) (sym c.variables) r.once;
      x = g.x;
      taken = g.taken;
      left = l.0;
      shows = subst (λ m. Shows g.x m new.pass.stack.items done) (sym c.mode) (subst (λ k. Shows g.x s.mode k done) (sym c.stack) (subst (Shows g.x s.mode s.pass.stack.items) (all_given ts done s r c.given) g.shows));
      left_is = left_next s.tokens new.tokens new.token l.0 c.follows l.2;
      all = g.all ∙ ap (λ k. g.taken ++ k) l.1;
      goes = λ front e. goes_alike ts (view t ∷ l.0) front g.x r.passed s new c.before c.at c.variables (subst (λ k. Goes ts k front g.x r.passed s) l.1 (g.goes front e));
    }

-- ---- a step was given

pub record Given (s new : Steps) : Type 0 where
  pub tokens : new.tokens ≡ s.tokens
  pub token : new.token ≡ s.token
  pub before : new.before ≡ s.before
  pub at : new.at ≡ s.at
  pub mode : new.mode ≡ s.mode
  pub pass : new.pass ≡ s.pass
  pub variables : new.variables ≡ s.variables
  pub is_over : new.is_over ≡ s.is_over

runs_by_alike : (over : Bool) (ts : List Placed) (given : List Step) (passed : List Written) (s new : Steps) → Given s new → RunsBy over ts given passed s → RunsBy over ts given passed new
runs_by_alike true ts given passed s new e g = (g.0, g.1, g.2, g.3, g.4, g.5 ∙ ap (λ v. texts v.names.items) (sym e.variables))
runs_by_alike false ts given passed s new e g = record {
  x = g.x;
  taken = g.taken;
  left = g.left;
  shows = subst (λ m. Shows g.x m new.pass.stack.items given) (sym e.mode) (subst (λ k. Shows g.x s.mode k.stack.items given) (sym e.pass) g.shows);
  left_is = subst (λ k. Left k new.tokens g.left) (sym e.token) (subst (λ k. Left s.token k g.left) (sym e.tokens) g.left_is);
  all = g.all;
  goes = λ front k. goes_alike ts g.left front g.x passed s new e.before e.at e.variables (g.goes front k);
}

pub runs_alike : (ts : List Placed) (done : List Step) (s new : Steps) (x : Step) (r : Runs ts done s) → slice_get s.pass.out.items s.given ≡ Some x → Given s new → new.given ≡ s.given + 1 → Holds r.passed new → Runs ts (done ++ x ∷ []) new
runs_alike ts done s new x r at e n held =
    let out = s.pass.out.items in
    let more : take new.given new.pass.out.items ≡ take s.given out ++ x ∷ [] = ap (λ k. take k new.pass.out.items) n ∙ ap (λ k. take (s.given + 1) k.out.items) e.pass ∙ taken_more out s.given x at in
    record {
      stands = subst stream.Stands (sym e.tokens) r.stands;
      gone = r.gone;
      done_is = ap (λ l. l ++ x ∷ []) r.done_is ∙ append_assoc r.gone (take s.given out) (x ∷ []) ∙ ap (λ l. r.gone ++ l) (sym more);
      within = omega (arith, n, given_inside out s.given x at, ap (λ k. length k.out.items) e.pass);
      passed = r.passed;
      holds = held;
      numbers = subst (λ v. Numbers v.numbers (texts v.names.items)) (sym e.variables) r.numbers;
      once = subst (λ v. AreOnce v.names.items) (sym e.variables) r.once;
      runs = subst (λ k. RunsBy k ts (r.gone ++ new.pass.out.items) r.passed new) (sym e.is_over)
          (subst (λ k. RunsBy s.is_over ts (r.gone ++ k.out.items) r.passed new) (sym e.pass) (runs_by_alike s.is_over ts (r.gone ++ out) r.passed s new e r.runs));
    }

-- the leaves that are kept are others
pub runs_kept : (ts : List Placed) (done : List Step) (s new : Steps) (r : Runs ts done s) → Given s new → new.given ≡ s.given → Holds r.passed new → Runs ts done new
runs_kept ts done s new r e n held = record {
  stands = subst stream.Stands (sym e.tokens) r.stands;
  gone = r.gone;
  done_is = r.done_is ∙ ap (λ l. r.gone ++ l) (ap (λ k. take s.given k.out.items) (sym e.pass) ∙ ap (λ k. take k new.pass.out.items) (sym n));
  within = omega (arith, n, r.within, ap (λ k. length k.out.items) e.pass);
  passed = r.passed;
  holds = held;
  numbers = subst (λ v. Numbers v.numbers (texts v.names.items)) (sym e.variables) r.numbers;
  once = subst (λ v. AreOnce v.names.items) (sym e.variables) r.once;
  runs = subst (λ k. RunsBy k ts (r.gone ++ new.pass.out.items) r.passed new) (sym e.is_over)
      (subst (λ k. RunsBy s.is_over ts (r.gone ++ k.out.items) r.passed new) (sym e.pass) (runs_by_alike s.is_over ts (r.gone ++ s.pass.out.items) r.passed s new e r.runs));
}

-- ---- behind the last step

over_by : (over : Bool) (ts : List Placed) (given : List Step) (passed : List Written) (s : Steps) → over ≡ true → RunsBy over ts given passed s → (front : List Placed) × (t : Tree) × Spells ts front t × (given ≡ postfix t) × (texts s.variables.names.items ≡ variables [] front)
over_by true ts given passed s e g = (g.0, g.1, g.2, g.3, sym g.5)
over_by false ts given passed s e g = absurd (cc)

pub over_all : (ts : List Placed) (done : List Step) (s : Steps) → Runs ts done s → s.is_over ≡ true → length s.pass.out.items ≤ s.given → (front : List Placed) × (t : Tree) × Spells ts front t × (done ≡ postfix t) × (texts s.variables.names.items ≡ variables [] front)
over_all ts done s r over h =
    let g = over_by s.is_over ts (r.gone ++ s.pass.out.items) r.passed s over r.runs in
    (g.0, g.1, g.2, sym (all_given ts done s r h) ∙ g.3, g.4)

pub fault_next : (fault : ParseErr) (ts : List Placed) (done : List Step) (s : Steps) → Takes ts done (Err fault) s → Nexts ts done (Err fault) s
fault_next err.NotATerm ts done s f = f
fault_next err.NoMemory ts done s f = tt

pub fault_answers : {A : Type 0} (P : List Placed → Tree → A → Type 0) (fault : ParseErr) (ts : List Placed) (done : List Step) (s : Steps) → Nexts ts done (Err fault) s → Answers ts P (Err fault)
fault_answers P err.NotATerm ts done s f = f
fault_answers P err.NoMemory ts done s f = tt

-- the values behind all steps
pub all_values : (xs : List Written) (done : List Step) (t : Tree) → done ≡ postfix t → evaluated xs [] done ≡ ATerm (meaning xs t) ∷ []
all_values xs done t e = ap (evaluated xs []) (e ∙ sym (append-nil (postfix t))) ∙ evaluates xs t [] []

pub fault_extends : (added old new : List Text) (e : InternErr) → FaultAt added old new e → Extends old new
fault_extends added old new intern.Full f = f.1
fault_extends added old new intern.NoMemory f = f
