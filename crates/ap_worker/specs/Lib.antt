pub mod Ends
pub mod Charged
pub mod Totals
pub mod Grouped
pub mod Leads
pub mod Sought
pub mod Workers
