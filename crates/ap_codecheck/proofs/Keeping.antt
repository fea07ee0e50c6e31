-- Tables of code that other code goes on behind, how they grow and are cut back.
use Rattle.std.proofs.Common.{◌≡◌, ℕ, ◌≤◌, ◌&&◌, false, ℤ, List, Option, length, take, slice_get, slice_index_or, ap, ap₂, sym, ◌∙◌, subst, arith}
use Rattle.std.specs.Prelude.{nat_le}
use Rattle.std.specs.List.{list_all}
use Rattle.std.proofs.lemmas.Bool.{and_parts, leb-true}
use Rattle.ap_instr.specs.declared.compiled.Predicate.{Predicate}
use Rattle.ap_instr.specs.declared.instruction.Instr.{Instr}
use Rattle.ap_instr.specs.Code.{Compiled}
use Rattle.ap_needs.specs.Needs.{AreWidthsOf}
use Rattle.ap_needs.proofs.Behind.{begun-length}
use Rattle.ap_index.specs.Index.{AreRowsOf, IsIndexOf}
use Rattle.ap_index.specs.Within.{are_rows_within, is_choice_within}
use Rattle.ap_index.proofs.Behind.{index-behind}
use Rattle.ap_direct.specs.Table.{AreAsked, AreGoalsOf, ends_within}
use Rattle.ap_direct.proofs.Behind.{goals-behind}
use Rattle.ap_codecheck.specs.declared.tables.Tables.{Tables}
use Rattle.ap_codecheck.specs.declared.tables.Extent.{Extent}
use Rattle.ap_codecheck.specs.declared.tables.Mark.{Mark}
use Rattle.ap_codecheck.specs.Tables.{AreKeptOf, GoesOnBehind, IsExtentOf, LeadsBack, IsCutTo, WasKept}

-- ---- in code that goes on behind theirs

module _ (base code : Compiled) (t : Tables) (on : GoesOnBehind code base) (kept : AreKeptOf base t) where
  pub index-still : IsIndexOf code t.index
  index-still = index-behind base code on.begins kept.alone t.index (and_parts _ _ kept.within).0 kept.tables.index

  pub goals-still : AreGoalsOf code t.directs
  goals-still = goals-behind base code t.directs on.begins kept.alone (and_parts _ _ kept.within).1 kept.tables.directs

  pub wanting-fits : length t.room.wanting.items ≤ length code.instructions
  wanting-fits = let p = kept.tables.room.places in let l = begun-length base.instructions code.instructions on.begins.instructions in omega arith

  pub goals-fit : length t.directs.goals.items ≤ length code.instructions
  goals-fit =
      let parts = and_parts _ _ (and_parts _ _ kept.within).1 in
      let few : length t.directs.goals.items ≤ length base.instructions = leb-true _ _ parts.0 in
      let l = begun-length base.instructions code.instructions on.begins.instructions in
      omega arith

-- ---- cut back

pub kept-again : (base : Compiled) (m : Mark) (before now cut : Tables) → AreKeptOf base before → LeadsBack m before now → IsCutTo m now cut → AreKeptOf base cut
kept-again base m before now cut kept back at_mark =
    let places = length base.instructions in
    let rows = at_mark.rows ∙ back.rows in
    let choices = at_mark.choices ∙ back.choices in
    let cells = at_mark.cells ∙ back.cells in
    let wanting = at_mark.wanting ∙ back.wanting in
    let goals = at_mark.goals ∙ back.goals in
    let tables = kept.tables in
    record {
      alone = kept.alone;
      tables = record {
        index = record {
          rows = subst (AreRowsOf base) (sym rows) tables.index.rows;
          choices = λ n c e. tables.index.choices n c (ap (λ cs. slice_get cs n) (sym choices) ∙ e);
        };
        room = record {
          cells = λ at. let l = tables.room.cells at in omega (arith, cells, l);
          places = ap length wanting ∙ tables.room.places;
          wanting = λ at. ap (λ ws. slice_index_or ws at false) wanting ∙ tables.room.wanting at;
        };
        widths = subst (AreWidthsOf base) (sym (at_mark.widths ∙ back.widths)) tables.widths;
        directs = subst (AreAsked base) (sym goals) tables.directs;
      };
      within =
          ap₂ (λ a b. a && b) (ap₂ (λ r cs. are_rows_within places r && list_all (is_choice_within places) cs) rows choices) (ap (λ gs. nat_le (length gs) places && list_all (ends_within places) gs) goals)
          ∙ kept.within;
    }

-- ---- the code that was kept

abbrev code_with : List Instr → List ℤ → List Predicate → Option ℕ → Compiled
code_with is zs ps q = record { instructions = is; integers = zs; predicates = ps; query = q }

same-code : (a b : Compiled) → a.instructions ≡ b.instructions → a.integers ≡ b.integers → a.predicates ≡ b.predicates → a.query ≡ b.query → a ≡ b
same-code a b is zs ps q =
    ap (λ xs. code_with xs a.integers a.predicates a.query) is
    ∙ ap (λ xs. code_with b.instructions xs a.predicates a.query) zs
    ∙ ap (λ xs. code_with b.instructions b.integers xs a.query) ps
    ∙ ap (code_with b.instructions b.integers b.predicates) q

same-base : (code a b : Compiled) (e : Extent) → GoesOnBehind code a → GoesOnBehind code b → IsExtentOf a e → IsExtentOf b e → a ≡ b
same-base code a b e on off own long =
    same-code a b
    (sym on.begins.instructions ∙ ap (λ n. take n code.instructions) (sym own.instructions ∙ long.instructions) ∙ off.begins.instructions)
    (sym on.begins.integers ∙ ap (λ n. take n code.integers) (sym own.integers ∙ long.integers) ∙ off.begins.integers)
    (sym on.begins.predicates ∙ ap (λ n. take n code.predicates) (sym own.predicates ∙ long.predicates) ∙ off.begins.predicates)
    (on.query ∙ sym off.query)

pub kept-base : (code base : Compiled) (t cut : Tables) (m : Mark) (e : Extent) → WasKept code t m → m.extent ≡ e → IsCutTo m t cut → GoesOnBehind code base → IsExtentOf base e → AreKeptOf base cut
kept-base code base t cut m e was same at_mark on long =
    let one : was.base ≡ base = same-base code was.base base e was.goes_on on (subst (IsExtentOf was.base) same was.extent) long in
    subst (λ c. AreKeptOf c cut) one (kept-again was.base m was.before t cut was.kept was.back at_mark)
