-- Printed names as operands and as functors.
use Rattle.std.proofs.Common.{◌≡◌, ℕ, ◌==◌, ◌&&◌, ◌||◌, not, Bool, true, false, if◌then◌else◌, List, [], ◌∷◌, ◌++◌, codes, flat_map, bytes_eq, drop, Option, Some, refl, sym, ap, subst, ◌∙◌, append_assoc, arith}
use Rattle.std.proofs.lemmas.Bool.{false≢true}
use Rattle.std.proofs.lemmas.Slice.Eq.{bytes_eq-Decides}
use Rattle.ap_lexer.specs.declared.kind.TokenKind.{TokenKind}
use Rattle.ap_lexer.specs.declared.kind.TokenKind.TheVariants as token
use Rattle.ap_lexer.specs.Lexeme.{Text}
use Rattle.ap_writer.specs.Quoted.{is_name, is_symbols, escaped, name_text}
use Rattle.ap_reader.specs.declared.word.Word.TheVariants as word
use Rattle.ap_reader.specs.Operator.{priority_of}
use Rattle.ap_reader.specs.Word.{starts, stops, is_open}
use Rattle.ap_reader.specs.Written.{Atom, leaf_by, seen_by}
use Rattle.ap_reader.proofs.Unquoted.{inside}
use Rattle.ap_cge.specs.Again.{name_tokens}
use Rattle.ap_readback.specs.Unplaced.{next_is, bare_of, named_of, word_of}
use Rattle.ap_readback.specs.Printable.{is_functor}

-- ---- what stands between quotes

unquoted-step : (b : ℕ) (rest : Text) → inside (escaped b ++ rest) ≡ b ∷ inside rest
unquoted-step b rest = go (b == 39) refl (b == 92) refl (b == 10) refl (b == 9) refl
  where
    same : (x y : ℕ) → (x == y) ≡ true → y ≡ x
    same x y e = grind (arith)

    go : (p : Bool) → (b == 39) ≡ p → (q : Bool) → (b == 92) ≡ q → (r : Bool) → (b == 10) ≡ r → (s : Bool) → (b == 9) ≡ s
        → inside ((if p then codes "\\'" else (if q then codes "\\\\" else (if r then codes "\\n" else (if s then codes "\\t" else b ∷ [])))) ++ rest) ≡ b ∷ inside rest
    go true e q f r g s h = ap (λ c. c ∷ inside rest) (same b 39 e)
    go false e true f r g s h = ap (λ c. c ∷ inside rest) (same b 92 f)
    go false e false f true g s h = ap (λ c. c ∷ inside rest) (same b 10 g)
    go false e false f false g true h = ap (λ c. c ∷ inside rest) (same b 9 h)
    go false e false f false g false h = rw (e, f) refl

unquoted-all : (name : Text) → inside (flat_map escaped name ++ 39 ∷ []) ≡ name
unquoted-all [] = refl
unquoted-all (b ∷ name) =
    ap (inside) (append_assoc (escaped b) (flat_map escaped name) (39 ∷ [])) ∙ unquoted-step b (flat_map escaped name ++ 39 ∷ []) ∙ ap (λ l. b ∷ l) (unquoted-all name)

-- ---- one token for a name

-- An atom's token: as an operand where it is no operator, or stands between brackets, commas and bars.
pub record IsAtomToken (name : Text) (touches : Bool) : Type 0 where
  pub kind : TokenKind
  pub text : Text
  pub tokens : name_tokens name touches ≡ record { kind = kind; text = text; touches = touches } ∷ []
  pub leaf : (seen : List Text) → leaf_by kind seen text ≡ Atom name
  pub seen : (names : List Text) → seen_by kind names text ≡ names
  pub quiet : starts (Some kind) ≡ false
  pub operand : (at : ℕ) (before after : Option TokenKind) → next_is is_open after ≡ false
      → (priority_of false name == 0 && priority_of true name == 0 || starts before && next_is stops after) ≡ true → word_of kind at before text after touches ≡ word.Operand at

bare-operand : (at : ℕ) (before after : Option TokenKind) (text : Text) (touches : Bool)
    → (priority_of false text == 0 && priority_of true text == 0 || starts before && next_is stops after) ≡ true → bare_of at before text after touches ≡ word.Operand at
bare-operand at before after text touches h = rw h refl

named-operand : (at : ℕ) (before after : Option TokenKind) (text : Text) (touches : Bool) → next_is is_open after ≡ false
    → (priority_of false text == 0 && priority_of true text == 0 || starts before && next_is stops after) ≡ true → named_of at before text after touches ≡ word.Operand at
named-operand at before after text touches e h = rw e (bare-operand at before after text touches h)

pub atom-token : (name : Text) (touches : Bool) → bytes_eq name (codes "[]") ≡ false → IsAtomToken name touches
atom-token name touches no_list = go (is_name name) refl (is_symbols name) refl (bytes_eq name (codes ";")) refl (bytes_eq name (codes "!")) refl
  where
    go : (n : Bool) → is_name name ≡ n → (s : Bool) → is_symbols name ≡ s → (o : Bool) → bytes_eq name (codes ";") ≡ o → (c : Bool) → bytes_eq name (codes "!") ≡ c → IsAtomToken name touches
    go true e s f o g c h = record {
      kind = token.Name;
      text = name;
      tokens = rw e refl;
      leaf = λ seen. refl;
      seen = λ names. refl;
      quiet = refl;
      operand = λ at before after free fits. named-operand at before after name touches free fits;
    }
    go false e true f o g c h = record {
      kind = token.Symbol;
      text = name;
      tokens = rw (e, f) refl;
      leaf = λ seen. refl;
      seen = λ names. refl;
      quiet = refl;
      operand = λ at before after free fits. named-operand at before after name touches free fits;
    }
    go false e false f true g c h = record {
      kind = token.Semicolon;
      text = codes ";";
      tokens = rw (e, f, no_list, g) refl;
      leaf = λ seen. ap Atom (sym ((bytes_eq-Decides name (codes ";")).0 g));
      seen = λ names. refl;
      quiet = refl;
      operand = λ at before after free fits. bare-operand at before after (codes ";") touches
          (subst (λ n. (priority_of false n == 0 && priority_of true n == 0 || starts before && next_is stops after) ≡ true) ((bytes_eq-Decides name (codes ";")).0 g) fits);
    }
    go false e false f false g true h = record {
      kind = token.Cut;
      text = codes "!";
      tokens = rw (e, f, no_list, g, h) refl;
      leaf = λ seen. ap Atom (sym ((bytes_eq-Decides name (codes "!")).0 h));
      seen = λ names. refl;
      quiet = refl;
      operand = λ at before after free fits. refl;
    }
    go false e false f false g false h =
        let printed : name_text name ≡ 39 ∷ (flat_map escaped name ++ 39 ∷ []) = rw (e, f, no_list, g, h) refl in
        record {
          kind = token.Quoted;
          text = name_text name;
          tokens = rw (e, f, no_list, g, h) refl;
          leaf = λ seen. ap (λ l. Atom (inside (drop 1 l))) printed ∙ ap Atom (unquoted-all name);
          seen = λ names. refl;
          quiet = refl;
          operand = λ at before after free fits. rw free refl;
        }

-- A functor's token, before the parenthesis that it touches.
pub record IsFunctorToken (name : Text) : Type 0 where
  pub kind : TokenKind
  pub text : Text
  pub rank : ℕ
  pub tokens : name_tokens name true ≡ record { kind = kind; text = text; touches = true } ∷ []
  pub leaf : (seen : List Text) → leaf_by kind seen text ≡ Atom name
  pub seen : (names : List Text) → seen_by kind names text ≡ names
  pub functor : (at : ℕ) (before : Option TokenKind) → word_of kind at before text (Some token.Open) true ≡ word.Functor at rank

neither : (a b c : Bool) → not (a || b || c) ≡ true → (a ≡ false) × (b ≡ false) × (c ≡ false)
neither true b c h = absurd (false≢true h)
neither false true c h = absurd (false≢true h)
neither false false true h = absurd (false≢true h)
neither false false false h = (refl, refl, refl)

pub functor-token : (name : Text) → is_functor name ≡ true → IsFunctorToken name
functor-token name h = go (is_name name) refl (is_symbols name) refl (neither (bytes_eq name (codes "[]")) (bytes_eq name (codes ";")) (bytes_eq name (codes "!")) h)
  where
    go : (n : Bool) → is_name name ≡ n → (s : Bool) → is_symbols name ≡ s → (bytes_eq name (codes "[]") ≡ false) × (bytes_eq name (codes ";") ≡ false) × (bytes_eq name (codes "!") ≡ false) → IsFunctorToken name
    go true e s f others = record { kind = token.Name; text = name; rank = priority_of false name; tokens = rw e refl; leaf = λ seen. refl; seen = λ names. refl; functor = λ at before. refl }
    go false e true f others = record { kind = token.Symbol; text = name; rank = priority_of false name; tokens = rw (e, f) refl; leaf = λ seen. refl; seen = λ names. refl; functor = λ at before. refl }
    go false e false f others =
        let printed : name_text name ≡ 39 ∷ (flat_map escaped name ++ 39 ∷ []) = rw (e, f, others.0, others.1, others.2) refl in
        record {
          kind = token.Quoted;
          text = name_text name;
          rank = 0;
          tokens = rw (e, f, others.0, others.1, others.2) refl;
          leaf = λ seen. ap (λ l. Atom (inside (drop 1 l))) printed ∙ ap Atom (unquoted-all name);
          seen = λ names. refl;
          functor = λ at before. refl;
        }
