pub mod VarSet
pub mod Sets
pub mod Share
pub mod ShareCode
pub mod Covering
pub mod Laws
