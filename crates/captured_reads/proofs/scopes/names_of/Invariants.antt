use Rattle.std.proofs.Common.{◌≡◌, ◌++◌, drop, map}
use Rattle.je_core.specs.View.{field_view}
use Rattle.captured_reads.specs.Scopes.{names_of}
use Rattle.captured_reads.proofs.scopes.names_of.Given as goal

abbrev pub invariant-loop-field : goal.invariant-loop-field
invariant-loop-field l = l.names.items ++ names_of l.locals l.scope l.at (map field_view (drop l.field-index l.fields)) ≡ names_of l.locals l.scope l.at (map field_view l.fields)
