-- What is asked of members, by the parts that their code is given.
use Rattle.std.specs.Prelude.{ℕ, Option, map, slice_get}
use Rattle.je_base.specs.declared.span.Span.{Span}
use Rattle.je_ast.specs.declared.name.Identifier.{Identifier}
use Rattle.je_ast.specs.Trees.{Member}
use Rattle.je_ast.specs.Types.{formal_view, name_view, type_view_of_option}
use Rattle.je_typing.specs.Judged.{Judged, ◌>>◌}
use Rattle.header_typing.specs.Statics.{is_inner, static_initializer, static_method}
use Rattle.name_lookup.specs.View.{part_view}
use Rattle.overriding.specs.Methods.{Method}
use Rattle.overriding.specs.Overrides.{good_override, no_clash}
use Rattle.signature_typing.specs.Signatures.{Setting, body, constructor_at, method_at, own_methods, signature}
use Rattle.signature_steps.specs.declared.methods.Signature.{Signature}

-- a method or a constructor as it is written before its body
abbrev pub signature_of : Setting → ℕ → Signature → Judged (Unit {0})
signature_of s c m =
    signature s c m.declared m.at (part_view m.part) m.modifiers.now (type_view_of_option m.result.now) (map formal_view m.formals.now) (map name_view m.throws.now)

-- a method that a class declares
abbrev pub override_of : Setting → Method → Judged (Unit {0})
override_of s m = do
  good_override s.heads s.classes m
  no_clash s.heads s.classes m

-- the members `m` that have these signatures
abbrev pub method_of : Setting → ℕ → Signature → Identifier → Member → Judged (Unit {0})
method_of s c written id m = do
  signature_of s c written
  body s c m
  method_at s c written.at (slice_get (own_methods s c) written.at)
  static_method (is_inner s.sites s.heads c) written.modifiers.now id

abbrev pub constructor_of : Setting → ℕ → Signature → Member → Judged (Unit {0})
constructor_of s c written m = do
  signature_of s c written
  body s c m
  constructor_at s c written.at (slice_get (own_methods s c) written.at)

abbrev pub initializer_of : Setting → ℕ → Option Span → Member → Judged (Unit {0})
initializer_of s c word m = do
  body s c m
  static_initializer (is_inner s.sites s.heads c) word
