-- Clauses with groups.
pub use Rattle.ap_term.specs.Goals.{is_group, has_groups as is_grouped}
