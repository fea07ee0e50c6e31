use Rattle.ap_codegen.proofs.programs.compile.Goals as goal

pub returns-clause-stands : goal.returns-clause-stands
returns-clause-stands c =
    let s = c.in_ok-code.ensures in
    record { number = s.number; predicate = s.predicate; is_query = s.is_query; held = s.held; named = s.named; arity = s.arity; stands = s.stands; whole = s.whole }
