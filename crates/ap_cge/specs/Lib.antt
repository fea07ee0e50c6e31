pub mod Printed
pub mod PieceView
pub mod Printing
pub mod Stripped
pub mod Again
pub mod TermTokens
