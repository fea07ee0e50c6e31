use Rattle.ap_sharing.proofs.Covers.{apart, surely_ground, together, of_a_member, Member-shares, Member-nonground}
use Rattle.ap_sharing.proofs.laws.sharing_law.Goals as goal

pub returns : goal.returns
returns c = record {
  together = together;
  shares = Member-shares;
  of_a_member = of_a_member;
  not_ground = λ sh p x h k. Member-nonground sh p h x k;
  apart = apart;
  ground = surely_ground;
}
