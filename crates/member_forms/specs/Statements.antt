-- What crates above name of `statement_forms`.
pub use Rattle.statement_forms.specs.Seen.{done_seen, progress_seen}
