use Rattle.std.proofs.Common.{◌≡◌, drop}
use Rattle.je_scopes.specs.Scope.{first_named}
use Rattle.name_lookup.specs.View.{numbers}
use Rattle.name_sites.specs.View.{source_of}
use Rattle.name_steps.proofs.classes.first_named.Given as goal

abbrev pub invariant-loop-class : goal.invariant-loop-class
invariant-loop-class l =
    first_named (source_of l.sites) l.name (numbers (drop l.class-index l.classes)) ≡ first_named (source_of l.sites) l.name (numbers l.classes)
