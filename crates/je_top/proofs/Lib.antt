pub mod CallLemmas
pub mod Judged
pub mod OneVerdict
pub mod CheckLemmas
pub mod OneDue
pub mod ReadingLemmas
pub mod RunLemmas
pub mod WordLemmas
