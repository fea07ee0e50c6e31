-- The core that a value of the code stands for.
use Rattle.ap_core.specs.declared.loud.Rules.{Rules}
use Rattle.ap_core.specs.declared.machine.Core.{Core}
use Rattle.ap_core.specs.TaskView.{task_view}
use Rattle.ap_core.specs.Telling.{told}
use Rattle.ap_core.specs.Relation as relation

abbrev pub rules_of : Rules → relation.Rules
rules_of p = record { program = p.program; loud = told p.loud }

abbrev pub core_of : Core → relation.Core
core_of c = record { rules = rules_of c.rules; root = task_view c.root; status = c.status; emitted = c.emitted }
