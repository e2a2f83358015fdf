-- What a name behind a class means.
use Rattle.std.specs.Prelude.{ℕ}
use Rattle.je_base.specs.declared.span.Span.{Span}
use Rattle.je_ast.specs.declared.name.Identifier.{Identifier}
use Rattle.je_classes.specs.Members.{Found}
use Rattle.je_scopes.specs.Looks.{Look}
use Rattle.je_scopes.specs.Scope.{member_class}
use Rattle.je_scopes.specs.Settled.{settled}
use Rattle.je_typing.specs.Judged.{Judged, gives, ◌>>=◌}
use Rattle.name_typing.specs.Accesses.{static_field, static_value}
use Rattle.name_typing.specs.Program.{Place, Program}
use Rattle.name_typing.specs.Qualified.{Qualifier, a_value}

-- the member class of a class under a name
abbrev pub member_named : Program → ℕ → Identifier → Look
member_named p c id = member_class p.source (settled p.source) id.name c

-- a static field that is read
abbrev pub static_value_before : Program → Place → Identifier → Span → Found → Judged Qualifier
static_value_before p place id span found = do
  t ← static_field p place id span found
  gives (a_value (static_value p id found t))
