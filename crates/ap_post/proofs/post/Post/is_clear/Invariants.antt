use Rattle.std.proofs.Common.{◌≡◌, ℕ, ◌<◌, slice_get, Some}
use Rattle.ap_desk.specs.declared.note.Note.{Note}
use Rattle.ap_post.proofs.post.Post.is_clear.Given as goal

abbrev pub invariant-loop-k : goal.invariant-loop-k
invariant-loop-k l = (i : ℕ) → i < l.k → (n : Note) → slice_get l.self.desk.4 i ≡ Some n → n.frame ≡ l.frame → ⊥
