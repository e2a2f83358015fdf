-- Local classes (JLS 14.3): a declaration of one is nothing that runs. It is in scope in its own body and in the rest
-- of its block.
use Rattle.std.specs.Prelude.{ℕ, Bool, false, not, [], ◌∷◌, unwrap_or}
use Rattle.std.specs.List.{list_any, position}
use Rattle.je_base.specs.declared.span.NameId.{NameId}
use Rattle.je_ast.specs.declared.name.Identifier.{Identifier}
use Rattle.je_scopes.specs.Headers.{declared_name, has_name, name_in, site_at}
use Rattle.je_scopes.specs.Sites.{Site, Written, declared}
use Rattle.je_typing.specs.declared.fault.TypeRule.TheVariants.{LocalTwice}
use Rattle.je_typing.specs.Judged.{Judged, gives, ◌>>◌, check}
use Rattle.name_typing.specs.Program.{Program}
use Rattle.body_typing.specs.Expressions.{same_start}
use Rattle.body_typing.specs.FinalVariables.{Scope}
use Rattle.body_typing.specs.Bodies.{Done, Progress, stands, with_local_class, with_met}

-- the class whose declaration has its name there
abbrev pub is_declared_at : Identifier → Written → Bool
is_declared_at id (declared d) = same_start id.span (declared_name d).span
is_declared_at id w = false

abbrev pub class_declared_at : Program → Identifier → ℕ
class_declared_at p id = unwrap_or (position (λ (s : Site). is_declared_at id s.written) p.source.sites) 0

-- a local class of this name is in scope in the body itself
abbrev pub has_class : Program → Scope → NameId → Bool
has_class p s x = list_any (λ c. has_name (name_in (site_at p.source.sites c).written) x) s.place.here.local_classes

abbrev pub with_class : Scope → Progress → ℕ → Done
with_class s pr c = record {
  code = [];
  numbers = [];
  scope = with_local_class c s;
  progress = with_met (stands c (with_local_class c s) ∷ []) pr;
}

unfoldable pub local_class : Program → Scope → Progress → Identifier → Judged Done
local_class p s pr id = do
  check LocalTwice id.span (not (has_class p s id.name))
  gives (with_class s pr (class_declared_at p id))
