-- Declarations with the modifier that offends, as javac says of them.
use Rattle.std.proofs.Common.{◌≡◌, refl, ℕ, ◌+◌, List, [], ◌∷◌, Option, Some, None}
use Rattle.je_base.specs.declared.span.Span.{Span}
use Rattle.je_ast.specs.declared.decl.Modifier.{Modifier}
use Rattle.je_ast.specs.declared.decl.ModifierKind.{ModifierKind}
use Rattle.je_ast.specs.declared.decl.ModifierKind.TheVariants as word
use Rattle.member_rules.specs.declared.modifiers.Declared.TheVariants as declared
use Rattle.member_rules.specs.declared.modifiers.Surrounding.TheVariants as inside
use Rattle.member_rules.specs.Modifiers.{bad_modifier}

abbrev at : ℕ → Span
at n = record { file = 0; start = n; end = n + 1 }

abbrev written : ℕ → ModifierKind → Modifier
written n w = record { kind = w; span = at n }

-- `final abstract class A { }`, and beside it `public final class A { }`
final_abstract : bad_modifier declared.Class inside.Unit (written 0 word.Final ∷ written 1 word.Abstract ∷ []) ≡ Some (at 1)
unfolding bad_modifier
final_abstract = refl

public_final : bad_modifier declared.Class inside.Unit (written 0 word.Public ∷ written 1 word.Final ∷ []) ≡ None
unfolding bad_modifier
public_final = refl

-- `private` and `static` at the top, `protected` in an interface
private_class : bad_modifier declared.Class inside.Unit (written 0 word.Private ∷ written 1 word.Final ∷ []) ≡ Some (at 0)
unfolding bad_modifier
private_class = refl

protected_class : bad_modifier declared.Class inside.InterfaceBody (written 0 word.Static ∷ written 1 word.Protected ∷ []) ≡ Some (at 1)
unfolding bad_modifier
protected_class = refl

-- one twice, two access words; the annotation may stand twice
static_twice : bad_modifier declared.Field inside.ClassBody (written 0 word.Static ∷ written 1 word.Final ∷ written 2 word.Static ∷ []) ≡ Some (at 2)
unfolding bad_modifier
static_twice = refl

two_accesses : bad_modifier declared.Constructor inside.ClassBody (written 0 word.Public ∷ written 1 word.Private ∷ []) ≡ Some (at 1)
unfolding bad_modifier
two_accesses = refl

annotated_twice : bad_modifier declared.Field inside.ClassBody (written 0 word.Override ∷ written 1 word.Override ∷ []) ≡ None
unfolding bad_modifier
annotated_twice = refl

-- on a method `abstract` excludes `native`, and `static` is not for those of an interface
abstract_native : bad_modifier declared.Method inside.ClassBody (written 0 word.Native ∷ written 1 word.Abstract ∷ []) ≡ Some (at 1)
unfolding bad_modifier
abstract_native = refl

static_in_interface : bad_modifier declared.Method inside.InterfaceBody (written 0 word.Abstract ∷ written 1 word.Static ∷ []) ≡ Some (at 1)
unfolding bad_modifier
static_in_interface = refl

-- an enum takes an access word, and `static` as a member
static_enum : bad_modifier declared.Enum inside.ClassBody (written 0 word.Private ∷ written 1 word.Static ∷ []) ≡ None
unfolding bad_modifier
static_enum = refl

final_enum : bad_modifier declared.Enum inside.Unit (written 0 word.Public ∷ written 1 word.Final ∷ []) ≡ Some (at 1)
unfolding bad_modifier
final_enum = refl
