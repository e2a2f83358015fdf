-- Which modifiers stand on a declaration (JLS 8.1.1, 8.3.1, 8.4.3, 8.5.1, 8.5.2, 8.8.3, 8.9, 9.1.1, 9.3, 9.4, 9.5, 14.3).
use Rattle.std.specs.Prelude.{Bool, true, false, not, ◌&&◌, ◌||◌, List, [], ◌∷◌, ◌++◌, Option, Some, None, if◌then◌else◌}
use Rattle.std.specs.List.{list_any}
use Rattle.je_base.specs.declared.span.Span.{Span}
use Rattle.je_ast.specs.declared.decl.Modifier.{Modifier}
use Rattle.je_ast.specs.declared.decl.ModifierKind.{ModifierKind}
use Rattle.je_ast.specs.declared.decl.ModifierKind.TheVariants as word
use Rattle.member_rules.specs.declared.modifiers.Declared.{Declared}
use Rattle.member_rules.specs.declared.modifiers.Declared.TheVariants as declared
use Rattle.member_rules.specs.declared.modifiers.Surrounding.{Surrounding}
use Rattle.member_rules.specs.declared.modifiers.Surrounding.TheVariants as inside

abbrev pub is_method : Declared → Bool
is_method declared.Method = true
is_method _ = false

abbrev pub is_in_class : Surrounding → Bool
is_in_class inside.ClassBody = true
is_in_class _ = false

abbrev pub is_in_class_or_interface : Surrounding → Bool
is_in_class_or_interface inside.ClassBody = true
is_in_class_or_interface inside.InterfaceBody = true
is_in_class_or_interface _ = false

abbrev pub is_class_method : Declared → Surrounding → Bool
is_class_method d place = is_method d && is_in_class place

-- ---- each word by itself

-- what stands in a block has no access (JLS 14.3)
abbrev pub allows_public : Surrounding → Bool
allows_public inside.Block = false
allows_public _ = true

-- classes that are no members are never static, and constructors neither
abbrev pub allows_static : Declared → Surrounding → Bool
allows_static declared.Method place = is_in_class place
allows_static declared.Constructor place = false
allows_static _ place = is_in_class_or_interface place

-- an enum is final without the word
abbrev pub allows_final : Declared → Surrounding → Bool
allows_final declared.Class place = true
allows_final declared.Field place = true
allows_final declared.Method place = is_in_class place
allows_final _ place = false

abbrev pub allows_abstract : Declared → Bool
allows_abstract declared.Class = true
allows_abstract declared.Interface = true
allows_abstract declared.Method = true
allows_abstract _ = false

-- whether a declaration can have a modifier in its place; the annotation says nothing
abbrev pub allows : Declared → Surrounding → ModifierKind → Bool
allows d place word.Override = true
allows d place word.Public = allows_public place
allows d place word.Protected = is_in_class place
allows d place word.Private = is_in_class place
allows d place word.Static = allows_static d place
allows d place word.Final = allows_final d place
allows d place word.Abstract = allows_abstract d
allows d place word.Native = is_class_method d place

-- ---- two words together

abbrev pub is_access : ModifierKind → Bool
is_access word.Public = true
is_access word.Protected = true
is_access word.Private = true
is_access _ = false

abbrev pub is_static : ModifierKind → Bool
is_static word.Static = true
is_static _ = false

abbrev pub is_native : ModifierKind → Bool
is_native word.Native = true
is_native _ = false

abbrev pub is_final_or_abstract : ModifierKind → Bool
is_final_or_abstract word.Final = true
is_final_or_abstract word.Abstract = true
is_final_or_abstract _ = false

abbrev pub is_abstract : ModifierKind → Bool
is_abstract word.Abstract = true
is_abstract _ = false

abbrev pub is_abstract_method : Declared → ModifierKind → Bool
is_abstract_method d w = is_method d && is_abstract w

-- a second `abstract`, `final`, and on a method what says that it has a body of its own, or one elsewhere
abbrev pub clashes_with_abstract : Declared → ModifierKind → Bool
clashes_with_abstract d word.Abstract = true
clashes_with_abstract d word.Final = true
clashes_with_abstract d word.Private = is_method d
clashes_with_abstract d word.Static = is_method d
clashes_with_abstract d word.Native = is_method d
clashes_with_abstract d _ = false

-- the same word twice, two access words, `abstract` with what it excludes
abbrev pub clash : Declared → ModifierKind → ModifierKind → Bool
clash d word.Override w = false
clash d word.Public w = is_access w
clash d word.Protected w = is_access w
clash d word.Private w = is_access w || is_abstract_method d w
clash d word.Static w = is_static w || is_abstract_method d w
clash d word.Final w = is_final_or_abstract w
clash d word.Abstract w = clashes_with_abstract d w
clash d word.Native w = is_native w || is_abstract_method d w

-- ---- all modifiers of a declaration

abbrev pub clashes : Declared → List Modifier → ModifierKind → Bool
clashes d earlier w = list_any (λ (m : Modifier). clash d m.kind w) earlier

abbrev pub is_bad : Declared → Surrounding → List Modifier → ModifierKind → Bool
is_bad d place earlier w = not (allows d place w) || clashes d earlier w

abbrev pub bad_after : Declared → Surrounding → List Modifier → List Modifier → Option Span
bad_after d place earlier [] = None
bad_after d place earlier (m ∷ ms) = if is_bad d place earlier m.kind then Some m.span else bad_after d place (earlier ++ m ∷ []) ms

-- the first modifier that the declaration can't have beside those before it
unfoldable pub bad_modifier : Declared → Surrounding → List Modifier → Option Span
bad_modifier d place ms = bad_after d place [] ms
