-- What an error of a part says is an error of the whole.
use Rattle.std.proofs.Common.{◌≡◌, ℕ, ◌+◌, ◌<◌, length, get_or, refl, sym, ◌∙◌, ap, Some}
use Rattle.std.proofs.lemmas.Option.{slice_get-get_or}
use Rattle.ap_term.specs.declared.clauses.Check.{Check}
use Rattle.ap_term.specs.Goals.{Clause, Program}
use Rattle.ap_patterns.specs.declared.slots.Given.{Given}
use Rattle.ap_patterns.specs.Given.{Patterns}
use Rattle.ap_certify.specs.declared.faults.CertErr.{CertErr}
use Rattle.ap_certify.specs.declared.faults.CertErr.TheVariants.{NotClosed, MissingCheck, NoMemory}
use Rattle.ap_certify.specs.Sights.{entry}
use Rattle.ap_certify.specs.Refused.{IsFault, IsFaultOfClause, ClauseGives, BodyLeavesOut}

-- a fault at places of a part is one at places of the whole
pub fault-more : (i : ℕ) (t : Patterns) (P P2 : ℕ → Given → Type 0) (Q Q2 : ℕ → Check → Type 0) → ((k : ℕ) (g : Given) → P k g → P2 k g) → ((k : ℕ) (c : Check) → Q k c → Q2 k c)
    → (e : CertErr) → IsFault i t P Q e → IsFault i t P2 Q2 e
fault-more i t P P2 Q Q2 f h (NotClosed clause place was now) (a, (g, w, n, p, u)) = (a, (g, w, n, f place g p, u))
fault-more i t P P2 Q Q2 f h (MissingCheck clause place check) (a, q) = (a, h place check q)
fault-more i t P P2 Q Q2 f h NoMemory v = tt

pub clause_fault : (t : Patterns) (A : Program) (i : ℕ) (c : Clause) (e : CertErr) → i < length A → c ≡ get_or A i c
    → IsFault (i + 1) t (ClauseGives t c) (BodyLeavesOut t (entry t c) 1 c.body) e → IsFaultOfClause t A e
clause_fault t A i c e l q h = (i + 1, c, (i, refl, slice_get-get_or A i c l ∙ ap Some (sym q)), h)
