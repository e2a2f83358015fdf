use Rattle.std.proofs.Common.{◌≡◌, ◌++◌, drop}
use Rattle.je_scopes.specs.Scope.{qualified, named_on}
use Rattle.name_sites.specs.View.{source_of}
use Rattle.name_lookup.specs.View.{look_view, numbers, known_of}
use Rattle.name_lookup.proofs.headers.Headers.qualified.Given as goal

abbrev pub invariant-loop-part : goal.invariant-loop-part
invariant-loop-part l = record {
  meant : qualified (source_of l.sites) (known_of l.self) (look_view l.look) (drop l.part-index l.further) ≡ qualified (source_of l.sites) (known_of l.self) (look_view l.fn.first) l.further;
  names : numbers l.named.items ++ named_on (source_of l.sites) (known_of l.self) (look_view l.look) (drop l.part-index l.further) ≡ named_on (source_of l.sites) (known_of l.self) (look_view l.fn.first) l.further;
}
