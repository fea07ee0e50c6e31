-- The part of a program that a query could call, with its groups and its code, which the next query may take.
use Rattle.std.specs.Prelude.{◌≡◌, true}
use Rattle.ap_term.specs.Goals.{Program, Query}
use Rattle.ap_term.specs.WellFormed.{IsProgram}
use Rattle.ap_reach.specs.Reached.{Reaches, IsReached}
use Rattle.ap_codegen.specs.KeptCode.{IsKept}
use Rattle.ap_mel.specs.declared.annotations.Kind.{Kind}
use Rattle.ap_grouping.specs.Groups.{AreGroups}
use Rattle.ap_grouping.specs.Again.{HasNoGroups}
use Rattle.ap_top.specs.declared.last.Last.{Last}

-- there is a part of the program for what this query calls, and for others that call the same; it has the groups that the part and the query get
pub record IsLastOf (p : Program) (kind : Kind) (q : Query) (last : Last) : Type 0 where
  pub part : Program
  pub formed : IsProgram part
  pub reached : (r : Query) → Reaches p r last.calls → IsReached p r part
  pub here : IsReached p q part
  pub groups : AreGroups kind part q last.grouped.program last.grouped.query
  pub code : IsKept last.code last.grouped.program
  pub plain : last.is_plain ≡ true → HasNoGroups q

-- of some query
abbrev pub IsLast : Program → Kind → Last → Type 0
IsLast p kind last = (q : Query) × IsLastOf p kind q last
