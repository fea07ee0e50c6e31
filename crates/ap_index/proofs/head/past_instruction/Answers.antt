use Rattle.std.proofs.Common.{◌≡◌, slice_get, refl, ap, sym, ◌∙◌, subst}
use Rattle.ap_term.specs.Tree.{atom}
use Rattle.ap_instr.specs.declared.instruction.Instr.TheVariants.{GetConstant, GetInteger, GetStructure}
use Rattle.ap_index.specs.declared.key.Key.TheVariants.{Atom, Structure}
use Rattle.ap_index.specs.declared.head.Passed.TheVariants.{On}
use Rattle.ap_index.specs.Heads.{IsPassed}
use Rattle.ap_index.proofs.Asking.{asks-frame, asks-variable, asks-constant, asks-listed, asks-structure, passed-asking}
use Rattle.ap_index.proofs.head.past_instruction.Goals as goal

pub returns-in-Allocate : goal.returns-in-Allocate
returns-in-Allocate c = subst (λ i. IsPassed c.args.code.now i c.args.reading (On c.args.reading)) (sym c.in-Allocate.is) (refl, asks-frame c.args.reading c.requires)

pub returns-in-GetVariable : goal.returns-in-GetVariable
returns-in-GetVariable c =
    let r = c.args.reading in
    let w = c.written in
    subst (λ i. IsPassed c.args.code.now i r (On w.result)) (sym c.in-GetVariable.is)
    (refl, asks-variable r w.result c.in-GetVariable.v (record { from = w.ensures.narrower.from; to = w.ensures.narrower.to }) w.ensures.same c.in-GetVariable.a c.requires (w.ensures.left ∙ c.requires))

pub returns-in-GetConstant : goal.returns-in-GetConstant
returns-in-GetConstant c =
    let r = c.args.reading in
    let a = c.in-GetConstant.a in
    let key = Atom c.number.result in
    let p = c.past_ask.result in
    let same : c.number.result ≡ c.in-GetConstant.name = c.number.ensures in
    subst (λ i. IsPassed c.args.code.now i r p) (sym c.in-GetConstant.is)
    (passed-asking c.args.code.now (GetConstant c.in-GetConstant.name a) a key 0 r p refl
    (λ s low high from to left. asks-constant r s a key low high from to c.requires (atom c.in-GetConstant.name) (λ u h. h ∙ ap (λ n. atom n) same) (λ u h. h ∙ ap (λ n. atom n) (sym same)) left)
    c.past_ask.ensures.asks)

pub returns-in-Some : goal.returns-in-Some
returns-in-Some c =
    let r = c.args.reading in
    let a = c.in-GetInteger.a in
    let key = c.in-Some.key in
    let p = c.past_ask-in-Some.result in
    subst (λ i. IsPassed c.args.code.now i r p) (sym c.in-GetInteger.is)
    (passed-asking c.args.code.now (GetInteger c.in-GetInteger.index a) a key 0 r p refl
    (λ s low high from to left. asks-listed r s a key low high from to c.requires (slice_get c.args.code.now.integers c.in-GetInteger.index) (sym c.in-Some.ensures) left)
    c.past_ask-in-Some.ensures.asks)

pub returns-in-GetStructure : goal.returns-in-GetStructure
returns-in-GetStructure c =
    let r = c.args.reading in
    let a = c.in-GetStructure.a in
    let n = c.in-GetStructure.count in
    let key = Structure c.number-in-GetStructure.result n in
    let p = c.past_ask-in-GetStructure.result in
    subst (λ i. IsPassed c.args.code.now i r p) (sym c.in-GetStructure.is)
    (passed-asking c.args.code.now (GetStructure c.in-GetStructure.name n a) a key n r p refl
    (λ s low high from to left. asks-structure r s a key low high from to c.requires c.in-GetStructure.name n (ap (λ f. Structure f n) c.number-in-GetStructure.ensures) left)
    c.past_ask-in-GetStructure.ensures.asks)
