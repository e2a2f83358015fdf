-- What is static in an inner class: constants alone (JLS 8.1.3).
use Rattle.std.specs.Prelude.{ℕ, Bool, false, not, ◌&&◌, List, Option, Some, None, is_some}
use Rattle.je_base.specs.declared.span.Span.{Span}
use Rattle.je_ast.specs.declared.name.Identifier.{Identifier}
use Rattle.je_ast.specs.declared.decl.Modifier.{Modifier}
use Rattle.je_scopes.specs.Headers.{site_at, within}
use Rattle.je_scopes.specs.Sites.{Site, has_static}
use Rattle.source_types.specs.Heads.{ClassHead, head_at}
use Rattle.je_typing.specs.declared.fault.TypeRule.TheVariants.{BadStatic}
use Rattle.je_typing.specs.Judged.{Judged, gives, check}

abbrev pub is_static_head : Option ClassHead → Bool
is_static_head None = false
is_static_head (Some h) = h.kind.is_static

-- a class inside another one that isn't static; local and anonymous ones never are (JLS 8.1.3)
abbrev pub is_inner : List Site → List ClassHead → ℕ → Bool
is_inner sites heads c = is_some (within (site_at sites c)) && not (is_static_head (head_at heads c))

abbrev pub is_inner_if : List Site → List ClassHead → Option ℕ → Bool
is_inner_if sites heads None = false
is_inner_if sites heads (Some c) = is_inner sites heads c

-- ---- in a class that may be inner

abbrev pub static_method : Bool → List Modifier → Identifier → Judged (Unit {0})
static_method inner ms id = check BadStatic id.span (not (inner && has_static ms))

abbrev pub static_field : Bool → List Modifier → Bool → Identifier → Judged (Unit {0})
static_field inner ms is_constant id = check BadStatic id.span (not (inner && has_static ms && not is_constant))

-- the word `static` before a block
abbrev pub static_initializer : Bool → Option Span → Judged (Unit {0})
static_initializer inner None = gives tt
static_initializer inner (Some word) = check BadStatic word (not inner)

-- ---- a class that stands in an inner one: it isn't static, as an interface and an enum are
abbrev pub static_class : List Site → List ClassHead → ℕ → Span → Judged (Unit {0})
static_class sites heads c span =
    check BadStatic span (not (is_static_head (head_at heads c) && is_inner_if sites heads (within (site_at sites c))))
