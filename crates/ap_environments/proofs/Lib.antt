pub mod Chains
pub mod Above
