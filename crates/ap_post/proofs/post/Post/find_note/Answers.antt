use Rattle.std.proofs.Common.{rules, tests}
use Rattle.ap_post.proofs.post.Post.find_note.Goals as goal

pub returns-then-note-gone : goal.returns-then-note-gone
returns-then-note-gone c = (c.note-note.result, c.note-note.ensures.note, search (rules, tests), search (rules, tests))
