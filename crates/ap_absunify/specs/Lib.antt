pub mod TermSets
pub mod MostGeneral
pub mod State
pub mod AfterUnify
pub mod AfterEqual
pub mod AfterBuiltin
pub mod Laws
