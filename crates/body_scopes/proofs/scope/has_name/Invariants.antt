use Rattle.std.proofs.Common.{◌≡◌, drop, map}
use Rattle.std.specs.List.{list_any}
use Rattle.je_scopes.specs.Headers.{same_name}
use Rattle.name_typing.specs.Program.{LocalVariable as SeenLocal}
use Rattle.body_places.specs.Places.{local_seen}
use Rattle.body_scopes.proofs.scope.has_name.Given as goal

abbrev pub invariant-loop-local : goal.invariant-loop-local
invariant-loop-local l =
    list_any (λ (v : SeenLocal). same_name v.name l.name) (map local_seen (drop l.local-index l.locals)) ≡
    list_any (λ (v : SeenLocal). same_name v.name l.name) (map local_seen l.locals)
