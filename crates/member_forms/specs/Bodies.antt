-- What crates above name of `body_walks`.
pub use Rattle.statement_forms.specs.Bodies.{HasAllMethods, Met, known_in, met_seen, program_in, standing_seen}
