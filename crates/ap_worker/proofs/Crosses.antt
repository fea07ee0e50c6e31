-- What may go to other threads, type by type: a search from a worker down to its sections runs out of steps.
use mathlib.Core.List.{[], ◌∷◌}
use mir.Syntax.{Sym}
use denote.RattleType.{RattleType}
use denote.Ref.{NamedLft, ShrRef, MutRef}
use denote.Struct.Tuple.{type_at}
use denote.Struct.Declared.{Declared, shape, row, field}
use denote.Param.Send.{IsSend, IsSync, sendable, struct_send, recorded_send, shr_send}
use Rattle.std.proofs.Crossing.{crosses}
use Rattle.std.proofs.alloc.Global.TheSendSync as heap
use Rattle.std.specs.contracts.alloc.Global as Global
use Rattle.std.specs.contracts.impls.GlobalAllocator.TheImpl.{ghosts as heap_ghosts}
use Rattle.std.specs.contracts.vec.Vec as Vec
use Rattle.ap_board.proofs.board.Board.TheSendSync as board
use Rattle.ap_codecheck.specs.contracts.sound.Sound as Sound
use Rattle.ap_codecheck.specs.contracts.tables.Tables as Tables
use Rattle.ap_copy.proofs.parcels.Parcelled.TheSendSync as parcel
use Rattle.ap_desk.proofs.desk.Desk.TheSendSync as desk
use Rattle.ap_direct.proofs.goal.Part.TheLaws.TheKnot as part_knot
use Rattle.ap_direct.specs.contracts.goal.Direct as Direct
use Rattle.ap_direct.specs.contracts.goal.Goal as Goal
use Rattle.ap_direct.specs.contracts.goal.Part as Part
use Rattle.ap_direct.specs.contracts.table.Directs as Directs
use Rattle.ap_frames.proofs.frame.Frame.TheSendSync as frame
use Rattle.ap_frames.proofs.slots.Slot.TheSendSync as slot
use Rattle.ap_goalstack.proofs.ends.GoalStack.TheSendSync as goals
use Rattle.ap_goalstack.proofs.ends.Thief.TheSendSync as thief
use Rattle.ap_goalstack.specs.contracts.ends.GoalStack as GoalStack
use Rattle.ap_goalstack.specs.contracts.rule.Unruled as Unruled
use Rattle.ap_goalstack.specs.contracts.rule.UnruledRule.TheImpl.{ghosts}
use Rattle.ap_instr.proofs.compiled.Code.TheSendSync as code
use Rattle.ap_ledger.proofs.share.Share.TheSendSync as share
use Rattle.ap_machine.proofs.state.Search.TheSendSync as machine
use Rattle.ap_section.proofs.section.Section.TheLaws.TheKnot as knot
use Rattle.ap_section.specs.contracts.pool.Pool as Pool
use Rattle.ap_section.specs.contracts.section.Section as Section
use Rattle.ap_post.proofs.bar.Bar.TheSendSync as bar
use Rattle.ap_post.proofs.common.Common.TheSendSync as common
use Rattle.ap_post.specs.contracts.job.Job as Job
use Rattle.ap_post.specs.contracts.outcome.Outcome as Outcome
use Rattle.ap_post.specs.contracts.post.Post as Post
use Rattle.ap_stack.specs.contracts.stack.Open as Open
use Rattle.ap_stack.specs.contracts.stack.Stack as Stack
use Rattle.ap_worker.specs.contracts.taken.Taken as Taken
use Rattle.ap_worker.specs.contracts.worker.Worker as Worker

-- expressions of arithmetic stand in one another, so that what is made of them is shown step by step
part-sync : IsSync (Part.the_field).row
part-sync = search (sendable, crosses, part_knot.sync-Part) depth 20

goal-sync : IsSync (Goal.the_field).row
goal-sync = search (sendable, crosses, part-sync) depth 20

direct-sync : IsSync (Direct.the_field).row
direct-sync = search (sendable, crosses, goal-sync) depth 20

directs-sync : IsSync (Directs.the_field).row
directs-sync = search (sendable, crosses, direct-sync) depth 20 fits 5000

tables-sync : IsSync (Tables.the_field).row
tables-sync = search (sendable, crosses, directs-sync) depth 40 fits 20000

sound-sync : IsSync (Sound.the_field).row
sound-sync = search (sendable, crosses, tables-sync, code.the_sync) depth 40 fits 20000

pub section-send : IsSend (Section.the_field).row
section-send = search (sendable, crosses, heap.the_field_send, knot.send-Section, frame.the_send, parcel.the_send, machine.the_send) depth 20

pub outcome-send : IsSend (Outcome.the_field).row
outcome-send = search (sendable, crosses, section-send) depth 20

pub open-send : IsSend (Open.the_field).row
open-send = search (sendable, crosses, section-send) depth 20

pool-send : IsSend (Pool.the_field).row
pool-send = search (sendable, crosses, heap.the_field_send, section-send, slot.the_send, parcel.the_send) depth 20

pub stack-send : (a : NamedLft) → IsSend (Stack.the_field a).row
stack-send a = search (sendable, crosses, sound-sync, share.the_send, section-send, open-send, pool-send) depth 24

pub taken-send : (a : NamedLft) → IsSend (Taken.the_field a).row
taken-send a = search (sendable, crosses, stack-send) depth 20

pub job-send : (a : NamedLft) → IsSend (Job.the_field a).row
job-send a = search (sendable, crosses, sound-sync, parcel.the_send) depth 20

pub goals-send : IsSend (GoalStack.the_field Unruled.the_row ghosts).row
goals-send = search (sendable, crosses, goals.the_field_send) depth 20

pub post-send : (a b : NamedLft) → IsSend (Post.the_field a b).row
post-send a b = struct_send (shape (Post.the_type a b)) (
  search (sendable, crosses, board.the_sync, job-send, outcome-send) depth 20,
  (
    search (sendable, common.the_sync) depth 20,
    (
      search (sendable, desk.the_send, job-send, outcome-send) depth 20,
      (goals-send, (search (sendable, crosses, thief.the_send) depth 20, (search sendable, (search (sendable, crosses) depth 20, (search (sendable, crosses, bar.the_send) depth 20, tt))))),
    ),
  ),
)

pub worker-send : (a b : NamedLft) → IsSend (Worker.the_field a b).row
worker-send a b = search (sendable, crosses, post-send, taken-send) depth 20

-- what the other workers' thread captures
abbrev pub served : Sym → (R G : RattleType) (i j k l m n : NamedLft) → Declared
served ν R G i j k l m n =
    type_at ν (ShrRef i.mir i.lft R ∷ ShrRef j.mir j.lft Global.the_row ∷ ShrRef k.mir k.lft G ∷ MutRef l.mir l.lft (Vec.the_row (Worker.the_row m n) Global.the_row heap_ghosts) ∷ [])

pub served-send : (ν : Sym) (R G : RattleType) (i j k l m n : NamedLft) → IsSync R → IsSync G → IsSend (row (served ν R G i j k l m n))
served-send ν R G i j k l m n r s =
    let T = served ν R G i j k l m n in
    recorded_send (field T).row (field T).Value (field T).into (field T).into_one (struct_send (shape T) (
      shr_send i.mir i.lft R r,
      (
        search (sendable, crosses, heap.the_sync) depth 20,
        (shr_send k.mir k.lft G s, (search (sendable, crosses, worker-send) depth 20, tt)),
      ),
    ))
