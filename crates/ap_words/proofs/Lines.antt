-- Plain lines, written and read.
use Rattle.std.proofs.Common.{◌≡◌, ◌∙◌, Bool, true, false, ◌&&◌, not, List, [], ◌∷◌, Option, Some, None, ap, ap₂, sym, subst, refl, if◌then◌else◌}
use Rattle.std.specs.Prelude.{option_map, option_and_then, bytes_eq, codes}
use Rattle.std.specs.List.{list_all}
use Rattle.std.proofs.lemmas.Bool.{and_parts, not-true}
use Rattle.std.proofs.Math.Bool.{and-false}
use Rattle.ap_words.specs.Numbers.{is_plain}
use Rattle.ap_words.specs.Table.{Text, Words, words_of, run_words, show_words, code_words, load_words}
use Rattle.ap_words.specs.Values.{Values}
use Rattle.ap_words.specs.Plain.{IsPlainLine, Stand, checked, flag, flag_step, gives, is_once, is_option, line_by, of, option_in, paired, places_among, plain_step, values_by, written}
use Rattle.ap_words.proofs.Options.{option_found, option_is}

-- ---- what is written plainly is read

-- an option, as it is written, doesn't stand for itself
flag_other : (name : Text) → is_plain (flag name) ≡ false
flag_other name = and-false _

module _ (options : List Text) (v : Text × Text) (vs : Values) (plain : is_plain v.1 ≡ true) (rest : paired options (written options vs) (places_among options vs, None) ≡ Some vs) where
  -- the word of a name, before words that are read
  named : (s : Stand) → plain_step s ≡ Some ((places_among options vs, None), v.0) → paired options (v.1 ∷ written options vs) s ≡ Some (v ∷ vs)
  named s step =
      ap (λ b. if b then gives v.1 (paired options (written options vs)) (plain_step s) else option_and_then (paired options (written options vs)) (flag_step options s v.1)) plain
      ∙ ap (gives v.1 (paired options (written options vs))) step ∙ ap (option_map (λ us. (v.0, v.1) ∷ us)) rest

  one_more : (b : Bool) → is_option options v.0 ≡ b → paired options (written options (v ∷ vs)) (places_among options (v ∷ vs), None) ≡ Some (v ∷ vs)
  one_more true is =
      ap (λ b. paired options (if b then flag v.0 ∷ v.1 ∷ written options vs else v.1 ∷ written options vs) (if b then places_among options vs else v.0 ∷ places_among options vs, None)) is
      ∙ ap (λ b. if b then gives (flag v.0) (paired options (v.1 ∷ written options vs)) (plain_step (places_among options vs, None))
      else option_and_then (paired options (v.1 ∷ written options vs)) (flag_step options (places_among options vs, None) (flag v.0))) (flag_other v.0)
      ∙ ap (λ o. option_and_then (paired options (v.1 ∷ written options vs)) (option_map {U = Stand} (λ name. (places_among options vs, Some name)) o)) (option_found options v.0 is)
      ∙ named (places_among options vs, Some v.0) refl
  one_more false is =
      ap (λ b. paired options (if b then flag v.0 ∷ v.1 ∷ written options vs else v.1 ∷ written options vs) (if b then places_among options vs else v.0 ∷ places_among options vs, None)) is
      ∙ named (v.0 ∷ places_among options vs, None) refl

pub complete : (options : List Text) (vs : Values) → list_all (λ v. is_plain v.1) vs ≡ true → paired options (written options vs) (places_among options vs, None) ≡ Some vs
complete options [] plain = refl
complete options (v ∷ vs) plain = let tests = and_parts _ _ plain in one_more options v vs tests.0 (complete options vs tests.1) (is_option options v.0) refl

-- ---- what is read is written plainly

abbrev pub apart : List Text → List Text → Bool
apart options places = list_all (λ p. not (is_option options p)) places

-- the words give these values to these places and to options
abbrev pub Gives : List Text → List Text → Values → List Text → Type 0
Gives options places vs ws = (ws ≡ written options vs) × (list_all (λ v. is_plain v.1) vs ≡ true) × (places_among options vs ≡ places)

-- the same, where an option waits for its value
abbrev pub Reads : List Text → Stand → Values → List Text → Type 0
Reads options (places, None) vs ws = Gives options places vs ws
Reads options (places, Some name) vs ws = (t : Text) × (us : Values) × (rest : List Text) × (vs ≡ (name, t) ∷ us) × (ws ≡ t ∷ rest) × (is_plain t ≡ true) × Gives options places us rest

module _ (options : List Text) where
  -- a place and its word, before what is read
  at_place : (p w : Text) (ps : List Text) (us : Values) (ws : List Text) → is_option options p ≡ false → is_plain w ≡ true → Gives options ps us ws → Gives options (p ∷ ps) ((p, w) ∷ us) (w ∷ ws)
  at_place p w ps us ws unlike plain g = (
    ap (λ t. w ∷ t) g.0 ∙ sym (ap (λ b. if b then flag p ∷ w ∷ written options us else w ∷ written options us) unlike),
    ap₂ (λ a b. a && b) plain g.1,
    ap (λ b. if b then places_among options us else p ∷ places_among options us) unlike ∙ ap (λ t. p ∷ t) g.2,
  )

  -- an option with its value, before what is read
  at_option : (name w t : Text) (ps : List Text) (us : Values) (ws : List Text) → w ≡ flag name → is_option options name ≡ true → is_plain t ≡ true → Gives options ps us ws
      → Gives options ps ((name, t) ∷ us) (w ∷ t ∷ ws)
  at_option name w t ps us ws is known plain g = (
    ap₂ (λ a b. a ∷ t ∷ b) is g.0 ∙ sym (ap (λ b. if b then flag name ∷ t ∷ written options us else t ∷ written options us) known),
    ap₂ (λ a b. a && b) plain g.1,
    ap (λ b. if b then places_among options us else name ∷ places_among options us) known ∙ g.2,
  )

  -- values with one more before them
  more : (n w : Text) (vs : Values) (o : Option Values) → option_map (λ us. (n, w) ∷ us) o ≡ Some vs → (us : Values) × (o ≡ Some us) × (vs ≡ (n, w) ∷ us)
  more n w vs None e = cc
  more n w vs (Some us) e = let same : (n, w) ∷ us ≡ vs = cc in (us, refl, sym same)

  pub sound : (ws places : List Text) (waiting : Option Text) (vs : Values) → apart options places ≡ true → paired options ws (places, waiting) ≡ Some vs → Reads options (places, waiting) vs ws
  sound [] [] None vs off e = let none : [] ≡ vs = cc in subst (λ us. Gives options [] us []) none (refl, refl, refl)
  sound [] (p ∷ ps) None vs off e = cc
  sound [] places (Some name) vs off e = cc
  sound (w ∷ ws) places (Some name) vs off e = go (is_plain w) refl e (λ us h. sound ws places None us off h)
    where
      go : (b : Bool) → is_plain w ≡ b → (if b then option_map (λ us. (name, w) ∷ us) (paired options ws (places, None)) else None) ≡ Some vs
          → ((us : Values) → paired options ws (places, None) ≡ Some us → Gives options places us ws) → Reads options (places, Some name) vs (w ∷ ws)
      go true plain e rest = let m = more name w vs (paired options ws (places, None)) e in (w, m.0, ws, m.2, refl, plain, rest m.0 m.1)
      go false plain e rest = cc
  sound (w ∷ ws) places None vs off e = go (is_plain w) refl e (λ ps us on h. sound ws ps None us on h) (λ name h. sound ws places (Some name) vs off h)
    where
      named : (o : Option Text) → option_in options w ≡ o → option_and_then (paired options ws) (option_map {U = Stand} (λ name. (places, Some name)) o) ≡ Some vs
          → ((name : Text) → paired options ws (places, Some name) ≡ Some vs → Reads options (places, Some name) vs ws) → Gives options places vs (w ∷ ws)
      named None is e rest = cc
      named (Some name) is e rest =
          let r = rest name e in
          let is_flag = option_is options w name is in
          let g : Gives options places ((name, r.0) ∷ r.1) (w ∷ r.0 ∷ r.2) = at_option name w r.0 places r.1 r.2 is_flag.0 is_flag.1 r.5 r.6 in
          subst (λ us. Gives options places us (w ∷ ws)) (sym r.3) (subst (λ t. Gives options places ((name, r.0) ∷ r.1) (w ∷ t)) (sym r.4) g)

      placed : (ps : List Text) → apart options ps ≡ true → is_plain w ≡ true → gives w (paired options ws) (plain_step (ps, None)) ≡ Some vs
          → ((qs : List Text) (us : Values) → apart options qs ≡ true → paired options ws (qs, None) ≡ Some us → Gives options qs us ws) → Gives options ps vs (w ∷ ws)
      placed [] on plain e rest = cc
      placed (p ∷ ps) on plain e rest =
          let m = more p w vs (paired options ws (ps, None)) e in
          let tests = and_parts (not (is_option options p)) (apart options ps) on in
          subst (λ us. Gives options (p ∷ ps) us (w ∷ ws)) (sym m.2) (at_place p w ps m.0 ws (not-true (is_option options p) tests.0) plain (rest ps m.0 tests.1 m.1))

      go : (b : Bool) → is_plain w ≡ b → (if b then gives w (paired options ws) (plain_step (places, None)) else option_and_then (paired options ws) (flag_step options (places, None) w)) ≡ Some vs
          → ((qs : List Text) (us : Values) → apart options qs ≡ true → paired options ws (qs, None) ≡ Some us → Gives options qs us ws)
          → ((name : Text) → paired options ws (places, Some name) ≡ Some vs → Reads options (places, Some name) vs ws) → Gives options places vs (w ∷ ws)
      go true plain e at_places at_options = placed places off plain e at_places
      go false plain e at_places at_options = named (option_in options w) refl e at_options

-- ---- a line, with its command

-- no place of a command is one of its options
known_apart : (command : Text) (known : Words) → words_of command ≡ Some known → apart known.options known.places ≡ true
known_apart command known e =
    go (bytes_eq command (codes "run")) (bytes_eq command (codes "show")) (bytes_eq command (codes "code")) (bytes_eq command (codes "load")) e
  where
    is : (known : Words) (some : Words) → apart some.options some.places ≡ true → Some some ≡ Some known → apart known.options known.places ≡ true
    is known some h e = let same : some ≡ known = cc in subst (λ k. apart k.options k.places ≡ true) same h

    go : (a b c d : Bool) → (if a then Some run_words else (if b then Some show_words else (if c then Some code_words else (if d then Some load_words else None)))) ≡ Some known
        → apart known.options known.places ≡ true
    go true b c d e = is known run_words refl e
    go false true c d e = is known show_words refl e
    go false false true d e = is known code_words refl e
    go false false false true e = is known load_words refl e
    go false false false false e = cc

once_of : (options : List Text) (o : Option Values) (vs : Values) → checked options o ≡ Some vs → (o ≡ Some vs) × (is_once options vs ≡ true)
once_of options None vs e = cc
once_of options (Some us) vs e = go (is_once options us) refl e
  where
    go : (b : Bool) → is_once options us ≡ b → (if b then Some us else None) ≡ Some vs → (Some us ≡ Some vs) × (is_once options vs ≡ true)
    go true h e = let same : us ≡ vs = cc in (e, subst (λ ws. is_once options ws ≡ true) same h)
    go false h e = cc

same_line : (p q : Text × Values) → Some p ≡ Some q → p ≡ q
same_line p q e = cc

pub line_is : (line : List Text) (command : Text) (vs : Values) → line_by line ≡ Some (command, vs) → IsPlainLine line command vs
line_is [] command vs e = cc
line_is (a ∷ []) command vs e = cc
line_is (program ∷ name ∷ behind) command vs e = known (words_of name) refl e
  where
    read : (words : Words) → words_of name ≡ Some words → (o : Option Values) → values_by words behind ≡ o → of name o ≡ Some (command, vs)
        → IsPlainLine (program ∷ name ∷ behind) command vs
    read words is None r e = cc
    read words is (Some us) r e =
        let once = once_of words.options (paired words.options behind (words.places, None)) us r in
        let g = sound words.options behind words.places None us (known_apart name words is) once.0 in
        subst (λ p. IsPlainLine (program ∷ name ∷ behind) p.0 p.1) (same_line (name, us) (command, vs) e)
        (record { program = program; command_words = words; command_is = is; line_is = ap (λ t. program ∷ name ∷ t) g.0; plain = g.1; places = g.2; once = once.1 })

    known : (o : Option Words) → words_of name ≡ o → option_and_then (λ words. of name (values_by words behind)) o ≡ Some (command, vs)
        → IsPlainLine (program ∷ name ∷ behind) command vs
    known None is e = cc
    known (Some words) is e = read words is (values_by words behind) refl e

pub line_read : (line : List Text) (command : Text) (vs : Values) → IsPlainLine line command vs → line_by line ≡ Some (command, vs)
line_read line command vs p =
    let options = p.command_words.options in
    let whole : paired options (written options vs) (p.command_words.places, None) ≡ Some vs =
    ap (λ places. paired options (written options vs) (places, None)) (sym p.places) ∙ complete options vs p.plain in
    let read : values_by p.command_words (written options vs) ≡ Some vs = ap (checked options) whole ∙ ap (λ b. if b then Some vs else None) p.once in
    ap line_by p.line_is ∙ ap (option_and_then (λ words. of command (values_by words (written options vs)))) p.command_is
    ∙ ap (of command) read
