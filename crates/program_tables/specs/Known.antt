-- What crates above name of `core_making`.
pub use Rattle.core_making.specs.Known.{captured_local_seen, captured_seen, frames_in, round_seen}
unfoldable pub use Rattle.core_making.specs.Known.{known_seen}
pub use Rattle.core_making.specs.declared.known.CapturedLocal.{CapturedLocal}
pub use Rattle.core_making.specs.declared.known.Known.{Known}
