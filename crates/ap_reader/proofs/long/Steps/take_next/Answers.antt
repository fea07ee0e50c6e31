use Rattle.std.proofs.Common.{◌≡◌, ◌++◌, None, sym, ap, subst, ◌∙◌, refl, rules}
use Rattle.ap_lexer.specs.Token.{view}
use Rattle.ap_lexer.specs.Stream as stream
use Rattle.ap_reader.proofs.Ending.{begins, going, none_to_take}
use Rattle.ap_reader.proofs.long.Steps.take_next.Goals as goal

pub returns-in_default-token-clause-taken : goal.returns-in_default-token-clause-taken
returns-in_default-token-clause-taken c = λ ts done r.
    let s = c.args.self.now in
    let none : s.token ≡ None = search rules in
    none_to_take ts (r.gone ++ s.pass.out.items) r.passed s (going s.is_over ts (r.gone ++ s.pass.out.items) r.passed s c.requires.over r.runs) none

pub returns-in-Some-token-clause-taken : goal.returns-in-Some-token-clause-taken
returns-in-Some-token-clause-taken c = λ ts done r.
    let same = c.keep_open.ensures.same in
    let held = c.in_default.ensures.keeps r.passed r.holds in
    c.take.ensures.taken ts done
    (begins ts done c.args.self.now _ c.in-Some.token r
    (record { given = c.requires.given; running = c.requires.over; token = sym same.token ∙ c.in-Some.is; stands = c.next-self.ensures.stands; follows = subst (λ k. stream.Follows k c.next-self.result c.next-self.new.self) same.tokens c.next-self.ensures.next; none = c.clear.ensures.items; begun = refl; stack = ap (λ p. p.stack.items) same.pass; mode = same.mode; before = same.before; at = same.at; variables = same.variables; is_over = same.is_over })
    (record { count = held.count; kept = held.kept; last = held.last }))
    c.in-Some-token.is

pub returns-in-None-clause-taken : goal.returns-in-None-clause-taken
returns-in-None-clause-taken c = λ ts done r.
    let same = c.keep_open.ensures.same in
    let held = c.in_default.ensures.keeps r.passed r.holds in
    c.end.ensures.taken ts done (view c.in-Some.token)
    (begins ts done c.args.self.now _ c.in-Some.token r
    (record { given = c.requires.given; running = c.requires.over; token = sym same.token ∙ c.in-Some.is; stands = c.next-self.ensures.stands; follows = subst (λ k. stream.Follows k c.next-self.result c.next-self.new.self) same.tokens c.next-self.ensures.next; none = c.clear.ensures.items; begun = refl; stack = ap (λ p. p.stack.items) same.pass; mode = same.mode; before = same.before; at = same.at; variables = same.variables; is_over = same.is_over })
    (record { count = held.count; kept = held.kept; last = held.last }))
    refl c.in-None.is
