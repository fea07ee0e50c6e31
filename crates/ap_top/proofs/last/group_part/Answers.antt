use Rattle.ap_top.proofs.last.group_part.Goals as goal

pub returns : goal.returns
returns c = record {
  part = c.in_ok-part.part;
  formed = c.as_slice-good.ensures.kept;
  reached = λ r reaches. c.in_ok-part.ensures.reached r reaches;
  here = c.in_ok-part.ensures.reached c.args.query.now c.requires;
  groups = c.in_ok-grouped.ensures;
  code = c.in_ok-code.ensures;
  plain = λ e. c.has_no_groups-is_plain.ensures e;
}
