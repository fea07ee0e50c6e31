-- The answers of slots, as answers of their goals.
use Rattle.std.specs.Prelude.{ℕ}
use Rattle.ap_term.specs.Tree.{Tree}
use Rattle.ap_laws.specs.Graft.{IsOf}
use Rattle.ap_core.specs.Tasks.{Task, task, Alternatives, exhausted, alternative, Alternative, state, frame, Slots, no_slot, slot, Progress, idle, stored, busy, held, redone, again, drained}
use Rattle.ap_core.specs.Relation.{plain_answer}

abbrev mutual
  -- Each answer that a slot stands at is one of its goal alone: its tuple is an instance of the goal's arguments, whose
  -- variables are the goal's or new; to any depth of frames.
  pub HasOwnAnswers : Task → Type 0
  HasOwnAnswers (task r c l) = HaveOwnAnswers l

  pub HaveOwnAnswers : Alternatives → Type 0
  HaveOwnAnswers exhausted = Unit {0}
  HaveOwnAnswers (alternative a l) = HasOwnAnswersIn a × HaveOwnAnswers l

  pub HasOwnAnswersIn : Alternative → Type 0
  HasOwnAnswersIn (state s) = Unit {0}
  HasOwnAnswersIn (frame s r w) = SlotsHaveOwn s.next w

  pub SlotsHaveOwn : ℕ → Slots → Type 0
  SlotsHaveOwn b no_slot = Unit {0}
  SlotsHaveOwn b (slot g k x w) = SlotHasOwn b g x × SlotsHaveOwn b w

  pub SlotHasOwn : ℕ → Tree → Progress → Type 0
  SlotHasOwn b g (idle i) = Unit {0}
  SlotHasOwn b g (stored m) = Unit {0}
  SlotHasOwn b g (busy x t) = HasOwnAnswers t
  SlotHasOwn b g (held m a t c) = IsOf g b (plain_answer a) × HasOwnAnswers t
  SlotHasOwn b g (redone m x t i) = HasOwnAnswers t
  SlotHasOwn b g (again m a t c) = IsOf g b (plain_answer a) × HasOwnAnswers t
  SlotHasOwn b g (drained m x t i e) = HasOwnAnswers t
