-- A program that is, without its groups, two put together with a clause between them, cut at that clause.
use Rattle.std.proofs.Common.{◌≡◌, suc, ◌+◌, ◌<◌, [], ◌∷◌, ◌++◌, length, take, drop, get_or, ap, ap₂, sym, refl, ◌∙◌, arith}
use Rattle.std.specs.List.{remove}
use Rattle.std.proofs.Math.Seq.{take-append_seam, drop-append_seam}
use Rattle.std.proofs.lemmas.List.{length-append}
use Rattle.ap_term.specs.Goals.{Clause, Program, Query, joined}
use Rattle.ap_cge.specs.Stripped.{stripped_clause, stripped}

abbrev head_or : Clause → Program → Clause
head_or d [] = d
head_or d (c ∷ cs) = c

abbrev rest_of : Program → Program
rest_of [] = []
rest_of (c ∷ cs) = cs

-- cut at the clause in front of which as many clauses stand as p has
pub record IsCut (x p : Program) (q : Clause) (l : Program) : Type 0 where
  pub front : Program
  pub clause : Clause
  pub behind : Program
  pub same : x ≡ front ++ clause ∷ behind
  pub as_many : length front ≡ length p
  pub of_front : stripped front ≡ stripped p
  pub of_clause : stripped_clause clause ≡ stripped_clause q
  pub of_behind : stripped behind ≡ stripped l

no_clause : (c : Clause) (cs : Program) → [] ≡ c ∷ cs → ⊥
no_clause c cs e = cc e

pub cut_at : (x p : Program) (q : Clause) (l : Program) → stripped x ≡ stripped (p ++ q ∷ l) → IsCut x p q l
cut_at [] [] q l e = absurd (no_clause (stripped_clause q) (stripped l) e)
cut_at [] (c ∷ cs) q l e = absurd (no_clause (stripped_clause c) (stripped (cs ++ q ∷ l)) e)
cut_at (x ∷ xs) [] q l e = record {
  front = [];
  clause = x;
  behind = xs;
  same = refl;
  as_many = refl;
  of_front = refl;
  of_clause = ap (head_or (stripped_clause x)) e;
  of_behind = ap rest_of e;
}
cut_at (x ∷ xs) (c ∷ cs) q l e =
    let k : IsCut xs cs q l = cut_at xs cs q l (ap rest_of e) in
    let same_first : stripped_clause x ≡ stripped_clause c = ap (head_or (stripped_clause x)) e in
    let fronts : stripped_clause x ∷ stripped k.front ≡ stripped_clause c ∷ stripped cs = ap₂ (λ (a : Clause) (b : Program). a ∷ b) same_first k.of_front in
    record {
      front = x ∷ k.front;
      clause = k.clause;
      behind = k.behind;
      same = ap (λ ys. x ∷ ys) k.same;
      as_many = ap suc k.as_many;
      of_front = fronts;
      of_clause = k.of_clause;
      of_behind = k.of_behind;
    }

-- it has more clauses than p
pub longer : (p : Program) (q : Query) (asked x counted : Program) → asked ≡ joined p q → stripped x ≡ stripped asked → counted ≡ p → length counted < length x
longer p q asked x counted joins strips counts =
    let k : IsCut x p q.question q.lifted = cut_at x p q.question q.lifted (strips ∙ ap stripped joins) in
    let many : length x ≡ length k.front + suc (length k.behind) = ap length k.same ∙ length-append k.front (k.clause ∷ k.behind) in
    let few : length counted ≡ length k.front = ap length counts ∙ sym k.as_many in
    omega (arith, many, few)

-- The clauses up to a query's, that clause, and those behind it: without groups they are what was joined.
pub record ArePieces (p : Program) (q : Query) (x front : Program) (question : Clause) (behind : Program) : Type 0 where
  pub whole : x ≡ front ++ question ∷ behind
  pub of_program : stripped front ≡ stripped p
  pub of_question : stripped_clause question ≡ stripped_clause q.question
  pub of_lifted : stripped behind ≡ stripped q.lifted

-- its first clauses were split off, and the next one was taken from the others
pub are_pieces : (p : Program) (q : Query) (asked x counted front others behind : Program) (question : Clause)
    → asked ≡ joined p q → stripped x ≡ stripped asked → counted ≡ p
    → front ≡ take (length counted) x → others ≡ drop (length counted) x → question ≡ get_or others 0 question → behind ≡ remove others 0
    → ArePieces p q x front question behind
are_pieces p q asked x counted front others behind question joins strips counts fronts rests asks behinds =
    let k : IsCut x p q.question q.lifted = cut_at x p q.question q.lifted (strips ∙ ap stripped joins) in
    let few : length counted ≡ length k.front = ap length counts ∙ sym k.as_many in
    let front_is : front ≡ k.front = fronts ∙ ap₂ take few k.same ∙ take-append_seam k.front (k.clause ∷ k.behind) in
    let rest_is : others ≡ k.clause ∷ k.behind = rests ∙ ap₂ drop few k.same ∙ drop-append_seam k.front (k.clause ∷ k.behind) in
    let question_is : question ≡ k.clause = asks ∙ ap (λ cs. get_or cs 0 question) rest_is in
    let behind_is : behind ≡ k.behind = behinds ∙ ap (λ cs. remove cs 0) rest_is in
    record {
      whole = k.same ∙ sym (ap₂ (λ (a b : Program). a ++ question ∷ b) front_is behind_is ∙ ap (λ (c : Clause). k.front ++ c ∷ k.behind) question_is);
      of_program = ap stripped front_is ∙ k.of_front;
      of_question = ap stripped_clause question_is ∙ k.of_clause;
      of_lifted = ap stripped behind_is ∙ k.of_behind;
    }
