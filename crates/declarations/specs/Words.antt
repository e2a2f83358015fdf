-- What modifiers say of a declaration (JLS 6.6, 8.1.1, 8.3.1, 8.4.3, 8.8.3).
use Rattle.std.specs.Prelude.{Bool, true, false, ◌||◌, List, if◌then◌else◌}
use Rattle.std.specs.List.{list_any}
use Rattle.je_core.specs.declared.program.Access.{Access}
use Rattle.je_core.specs.declared.program.Access.TheVariants as access
use Rattle.je_ast.specs.declared.decl.Modifier.{Modifier}
use Rattle.je_ast.specs.declared.decl.ModifierKind.{ModifierKind}
use Rattle.je_ast.specs.declared.decl.ModifierKind.TheVariants as modifier
use Rattle.je_scopes.specs.Sites.{has_private}

abbrev pub is_public_word : ModifierKind → Bool
is_public_word modifier.Public = true
is_public_word _ = false

abbrev pub is_protected_word : ModifierKind → Bool
is_protected_word modifier.Protected = true
is_protected_word _ = false

abbrev pub is_final_word : ModifierKind → Bool
is_final_word modifier.Final = true
is_final_word _ = false

abbrev pub is_abstract_word : ModifierKind → Bool
is_abstract_word modifier.Abstract = true
is_abstract_word _ = false

abbrev pub is_native_word : ModifierKind → Bool
is_native_word modifier.Native = true
is_native_word _ = false

abbrev pub has_public : List Modifier → Bool
has_public ms = list_any (λ (m : Modifier). is_public_word m.kind) ms

abbrev pub has_protected : List Modifier → Bool
has_protected ms = list_any (λ (m : Modifier). is_protected_word m.kind) ms

abbrev pub has_final : List Modifier → Bool
has_final ms = list_any (λ (m : Modifier). is_final_word m.kind) ms

abbrev pub has_abstract : List Modifier → Bool
has_abstract ms = list_any (λ (m : Modifier). is_abstract_word m.kind) ms

abbrev pub has_native : List Modifier → Bool
has_native ms = list_any (λ (m : Modifier). is_native_word m.kind) ms

-- from where a declaration may be named; a member of an interface is public (JLS 6.6, 9.3, 9.4, 9.5)
abbrev pub access_of : Bool → List Modifier → Access
access_of in_interface ms =
    if has_private ms then access.Private
    else (if (in_interface || has_public ms) then access.Public
    else (if has_protected ms then access.Protected else access.Package))
