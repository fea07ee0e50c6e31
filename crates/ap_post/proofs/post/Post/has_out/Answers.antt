use Rattle.std.proofs.Common.{◌<◌, ◌≤◌, arith, ap, rules, tests}
use Rattle.std.proofs.lemmas.List.{nil_from_length}
use Rattle.ap_post.specs.Posted.{posted}
use Rattle.ap_post.proofs.Left.{some_posted}
use Rattle.ap_post.proofs.post.Post.has_out.Goals as goal

pub returns-clause-some : goal.returns-clause-some
returns-clause-some c = let d = c.args.self.now.desk in λ is. some_posted d.1 d.4 d.0.slots c.count_out.ensures.out (let more : 0 < c.count_out.result = search (rules, tests) in omega (arith, more))

pub returns-clause-none : goal.returns-clause-none
returns-clause-none c = let d = c.args.self.now.desk in λ is f. ap (λ ns. posted d.1 ns f) (nil_from_length d.4 (let none : c.count_out.result ≤ 0 = search (rules, tests) in omega (arith, none)))
