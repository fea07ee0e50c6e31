pub mod LongestRuns
pub mod Bodies
pub mod Annotations
pub mod OneAnnotation
pub mod LoneBodies
