-- What crates above name of `body_walks`.
pub use Rattle.body_walks.specs.Seen.{met_seen}
pub use Rattle.body_walks.specs.Standings.{standing_seen}
pub use Rattle.body_walks.specs.Walks.{HasAllMethods, known_in, program_in}
pub use Rattle.body_walks.specs.declared.met.Met.{Met}
