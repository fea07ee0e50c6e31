-- What is in a list.
pub use Rattle.ap_term.specs.Lists.{IsOneOf as Has}
