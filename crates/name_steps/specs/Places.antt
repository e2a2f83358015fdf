-- What crates above name of `body_places`.
pub use Rattle.body_places.specs.Places.{frame_seen, place_seen}
pub use Rattle.body_places.specs.View.{program_seen}
