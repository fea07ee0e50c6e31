use Rattle.std.proofs.Common.{◌≡◌, ℕ, ◌+◌, ◌-◌, ◌<◌, ◌≤◌, [], ◌∷◌, Option, Some, None, refl, ap, sym, subst, ◌∙◌, map, take, drop, get_or, length, length-take-le, length-drop, false-eqb, rules, arith, vec_len, List}
use Rattle.std.proofs.lemmas.List.{nil_from_length}
use Rattle.ap_lexer.specs.declared.split.Token.{Token}
use Rattle.ap_lexer.specs.Token.{view}
use Rattle.ap_reader.specs.declared.pass.Mode.TheVariants as mode
use Rattle.ap_reader.specs.declared.pass.Open.{Open}
use Rattle.ap_reader.specs.Machine.{Wants, next, over, ended}
use Rattle.std.specs.Prelude.{option_copied, slice_get}
use Rattle.std.specs.Borrow.{Bor}
use Rattle.std.proofs.Math.Seq.{take-length}
use Rattle.std.proofs.lemmas.Option.{same_Some}
use Rattle.ap_reader.specs.declared.word.Word.{Word}
use Rattle.ap_lexer.specs.declared.kind.TokenKind.{TokenKind}
use Rattle.ap_reader.specs.Word.{words, words_from, word_by, first, seen}
use Rattle.ap_reader.specs.Step.{Shows}
use Rattle.ap_reader.proofs.Parsed.{none_spelled, fault_at, wants_more, at_end}
use Rattle.ap_reader.proofs.pass.steps.Goals as goal

not_empty : (xs : List Open) → xs ≡ [] → (length xs ≡ 0 → ⊥) → ⊥
not_empty xs e h = h (ap length e)

no_token : (ts : List Token) → length ts < 1 → ts ≡ []
no_token ts few = nil_from_length ts (omega (arith, few))

seen-first : (ts : List Token) (o : Option (Bor Token)) → option_copied o ≡ slice_get ts 0 → seen o ≡ first (map view ts)
seen-first [] None e = refl
seen-first [] (Some t) e = absurd (cc)
seen-first (t ∷ ts) None e = absurd (cc)
seen-first (t ∷ ts) (Some u) e = ap (λ x. Some (view x)) (same_Some u.now t e)

-- the first word, and those behind it
head_word : (ts : List Token) (d : Token) (before : Option TokenKind) (at : ℕ) (after : Option (Bor Token)) (w : Word) → 1 ≤ length ts → w ≡ word_by (get_or ts 0 d).kind at before (view (get_or ts 0 d)) (seen after) → option_copied after ≡ slice_get (take (length ts - 1) (drop 1 ts)) 0 → (ws : List Word) × (words_from before at (map view ts) ≡ w ∷ ws)
head_word [] d before at after w some e h = absurd (omega (arith, some))
head_word (t ∷ ts) d before at after w some e h =
    let behind = words_from (Some t.kind) (at + 1) (map view ts) in
    let count : length (t ∷ ts) - 1 ≡ length ts = omega arith in
    let all : take (length (t ∷ ts) - 1) ts ≡ ts = ap (λ k. take k ts) count ∙ take-length ts in
    (behind, ap (λ a. word_by t.kind at before (view t) a ∷ behind) (sym (seen-first ts after (h ∙ ap (λ xs. slice_get xs 0) all))) ∙ ap (λ x. x ∷ behind) (sym e))

-- the first word, and those behind the first token
next_word : (ts : List Token) (d : Token) (before : Option TokenKind) (at : ℕ) (after : Option (Bor Token)) (w : Word) → 1 ≤ length ts → w ≡ word_by (get_or ts 0 d).kind at before (view (get_or ts 0 d)) (seen after) → option_copied after ≡ slice_get (take (length ts - 1) (drop 1 ts)) 0 → words_from before at (map view ts) ≡ w ∷ words_from (Some (get_or ts 0 d).kind) (at + 1) (map view (take (length ts - 1) (drop 1 ts)))
next_word [] d before at after w some e h = absurd (omega (arith, some))
next_word (t ∷ ts) d before at after w some e h =
    let count : length (t ∷ ts) - 1 ≡ length ts = omega arith in
    let all : take (length (t ∷ ts) - 1) ts ≡ ts = ap (λ k. take k ts) count ∙ take-length ts in
    let behind : List Token → List Word = λ xs. words_from (Some t.kind) (at + 1) (map view xs) in
    ap (λ a. word_by t.kind at before (view t) a ∷ behind ts) (sym (seen-first ts after (h ∙ ap (λ xs. slice_get xs 0) all))) ∙ ap (λ x. x ∷ behind ts) (sym e) ∙ ap (λ xs. w ∷ behind xs) (sym all)

pub loop-rest-preserved : goal.loop-rest-preserved
loop-rest-preserved c =
    let inv = c.loop-rest.invariant in
    let ts = c.loop-rest.rest.now in
    let words_are = next_word ts _ c.loop-rest.before c.loop-rest.at c.first.result _ c.in-len1-up.len_at_least refl c.first.ensures.value in
    (next inv.0 _, c.in-Ok-take.ensures [] inv.0 inv.1, inv.2 ∙ ap (over inv.0) words_are, omega (arith, inv.3, c.in-len1-up.len_at_least, length-take-le (length ts - 1) (drop 1 ts) (omega (arith, length-drop 1 ts)), length-drop 1 ts))

pub loop-rest-init : goal.loop-rest-init
loop-rest-init c = (Wants [], record { stack_is = c.open.ensures; out_is = c.in-Ok.ensures }, refl, omega arith)

pub returns-in-Err : goal.returns-in-Err
returns-in-Err c =
    let inv = c.loop-rest.invariant in
    let ts = c.loop-rest.rest.now in
    let words_are = head_word ts _ c.loop-rest.before c.loop-rest.at c.first.result _ c.in-len1-up.len_at_least refl c.first.ensures.value in
    fault_at (words (map view c.args.tokens.now)) words_are.0 inv.0 _ c.in-Err.fault c.take.new.self.stack.items c.take.new.self.out.items (inv.2 ∙ ap (over inv.0) words_are.1) (c.in-Err.ensures [] inv.0 inv.1)

pub returns-in_default-mode : goal.returns-in_default-mode
returns-in_default-mode c =
    let inv = c.loop-rest.invariant in
    let all : over (Wants []) (words (map view c.args.tokens.now)) ≡ inv.0 =
    inv.2 ∙ ap (λ ts. over inv.0 (words_from c.loop-rest.before c.loop-rest.at (map view ts))) (no_token c.loop-rest.rest.now c.in_default-rest.len_below) in
    none_spelled (words (map view c.args.tokens.now)) (ap ended all ∙ wants_more inv.0 c.loop-rest.mode _ _ inv.1 c.in_default-mode.not-Has)

pub returns-then-is_empty : goal.returns-then-is_empty
returns-then-is_empty c =
    let inv = c.loop-rest.invariant in
    let all : over (Wants []) (words (map view c.args.tokens.now)) ≡ inv.0 =
    inv.2 ∙ ap (λ ts. over inv.0 (words_from c.loop-rest.before c.loop-rest.at (map view ts))) (no_token c.loop-rest.rest.now c.in_default-rest.len_below) in
    let shows : Shows inv.0 mode.Has c.loop-rest.pass.stack.items c.loop-rest.pass.out.items = subst (λ m. Shows inv.0 m c.loop-rest.pass.stack.items c.loop-rest.pass.out.items) c.in-Has.is inv.1 in
    let end = at_end (words (map view c.args.tokens.now)) inv.0 _ _ _ _ all shows (c.in_ok-reduce.ensures.done []) in
    let none : length c.reduce.new.self.stack.items ≡ 0 = search rules in
    end.1.0 (nil_from_length c.reduce.new.self.stack.items none)

pub returns-else-is_empty : goal.returns-else-is_empty
returns-else-is_empty c =
    let inv = c.loop-rest.invariant in
    let all : over (Wants []) (words (map view c.args.tokens.now)) ≡ inv.0 =
    inv.2 ∙ ap (λ ts. over inv.0 (words_from c.loop-rest.before c.loop-rest.at (map view ts))) (no_token c.loop-rest.rest.now c.in_default-rest.len_below) in
    let shows : Shows inv.0 mode.Has c.loop-rest.pass.stack.items c.loop-rest.pass.out.items = subst (λ m. Shows inv.0 m c.loop-rest.pass.stack.items c.loop-rest.pass.out.items) c.in-Has.is inv.1 in
    let end = at_end (words (map view c.args.tokens.now)) inv.0 _ _ _ _ all shows (c.in_ok-reduce.ensures.done []) in
    end.1.1 (λ empty. not_empty c.reduce.new.self.stack.items empty (λ zero. let v = c.reduce.new.self.stack in omega (arith, zero, v.ok.0, false-eqb (vec_len v) 0 c.if-is_empty.ensures)))
