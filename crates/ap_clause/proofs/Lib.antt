pub mod Walks
pub mod Forms
pub mod PlainNames
pub mod Arities
pub mod Bodies
mod GoalRows
pub mod Names
pub mod Limits
pub mod Proper
pub mod CanBe
pub mod Verdicts
pub mod Taken
pub mod Reading
pub mod OneResult
pub mod SomeResult
pub mod TermNames
pub mod RulesRead
pub mod TextMeanings
mod Rows
pub mod Longs
