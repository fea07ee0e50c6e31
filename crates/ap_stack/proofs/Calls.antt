-- What the calls that open a section are to a search with goals away, as sections see them.
use Rattle.std.proofs.Common.{◌≡◌, ℕ, ◌-◌, true, List, [], ◌∷◌, ◌++◌, Some, ap, sym, ◌∙◌, subst}
use Rattle.ap_frames.specs.declared.frame.Round.TheVariants.{Closed}
use Rattle.ap_frames.specs.declared.slots.Stand.TheVariants.{Running}
use Rattle.ap_frames.specs.declared.slots.Run.TheVariants.{First}
use Rattle.ap_frames.specs.Verdicts.{next_redo}
use Rattle.ap_term.specs.Tree.{Trees}
use Rattle.ap_instr.specs.Code.{Compiled}
use Rattle.ap_tie.specs.Sections.{Section, section, bottom, nothing, rows}
use Rattle.ap_tied.specs.SlotCalls.{held_in, stood, gone_on}
use Rattle.ap_open.specs.Opened.{spent_in, rest_in}
use Rattle.ap_open.specs.Away.{Away, Level, Carries}
use Rattle.ap_open.specs.Sharing.{SharingLaw, redone_beside}
use Rattle.ap_section.specs.Views as seen
use Rattle.ap_section.specs.Ends.{Begins}
use Rattle.ap_section.specs.Slots.{IsAtFrame, IsFirstReady, IsGoalOf, IsParcelOf, round_in, slots_in, taken_in, is_held, IsGoneOn}
use Rattle.ap_stack.proofs.Waiting.{rest-is, may-begin, may-redo, taken-is, gone-on-spent}
use Rattle.ap_stack.proofs.Begun.{begun-holds}

abbrev pub level : Section → ℕ → ℕ → List Away → Level
level s i n out = record { section = s; place = i; since = n; aways = out }

-- a fresh section for slot i of s, which is then `below`
pub begun-carries : SharingLaw → (code : Compiled) (ls : List Level) (s below fresh : Section) (out : List Away) (i number rest : ℕ) (ts : Trees) → IsAtFrame s → IsFirstReady i s → (code.query ≡ Some number → ⊥) → rest ≡ seen.budget_in s - seen.spent_in s
    → IsGoalOf i s number → IsParcelOf i s ts → Begins code ts number rest fresh → below ≡ stood i (Running First) nothing s → Carries code ls s out (ls ++ level below i 0 out ∷ []) fresh []
begun-carries law code ls s below fresh out i number rest ts at first other left goal parcel begins is =
    let p = begins.0 in
    let carries = law.begins code ls s out i p.machine (may-begin i s at first) (begun-holds code s i number rest ts p goal parcel begins.1 other) in
    let fresh-is : section p.machine 0 (rest_in s) bottom ≡ fresh = ap (λ r. section p.machine 0 r bottom) (sym (left ∙ rest-is s)) ∙ sym begins.3 in
    subst (λ x. Carries code ls s out (ls ++ level below i 0 out ∷ []) x []) fresh-is (subst (λ v. Carries code ls s out (ls ++ level v i 0 out ∷ []) (section p.machine 0 (rest_in s) bottom) []) (sym is) carries)

-- the section t of a slot that is redone
pub redone-carries : SharingLaw → (code : Compiled) (ls : List Level) (s below t : Section) (i since : ℕ) → IsAtFrame s → round_in s ≡ Closed → next_redo (rows (slots_in s)) ≡ Some i → is_held (held_in i (slots_in s)) ≡ true
    → IsGoneOn (seen.budget_in s - seen.spent_in s) (held_in i (slots_in s)) t → below ≡ taken_in i s → since ≡ seen.spent_in t → Carries code ls s [] (ls ++ level below i since [] ∷ []) t []
redone-carries law code ls s below t i since at closed next there on is count =
    let r = may-redo i s at closed next there t on in
    let a = r.0 in
    let since-is : since ≡ spent_in a = count ∙ ap seen.spent_in r.2 ∙ gone-on-spent (rest_in s) a in
    let carries = law.redoes code ls s a i r.1 in
    let there' : redone_beside i a s ≡ level below i since [] = ap (λ v. level v i (spent_in a) []) (sym (is ∙ taken-is i s)) ∙ ap (λ n. level below i n []) (sym since-is) in
    subst (λ x. Carries code ls s [] (ls ++ level below i since [] ∷ []) x []) (sym r.2) (subst (λ x. Carries code ls s [] (ls ++ x ∷ []) (gone_on (rest_in s) a) []) there' carries)
