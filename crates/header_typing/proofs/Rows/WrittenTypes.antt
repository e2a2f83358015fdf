-- Worked rows of written types.
use Rattle.std.proofs.Common.{◌≡◌, refl, ℕ}
use Rattle.std.specs.Prelude.{false, [], ◌∷◌}
use Rattle.je_ast.specs.declared.ty_name.Primitive.TheVariants as word
use Rattle.je_ast.specs.Types.{TypeName, primitive}
use Rattle.je_core.specs.declared.types.Base.TheVariants as base
use Rattle.je_classes.specs.Hierarchy.{object_class, library_class}
use Rattle.je_scopes.specs.SourceTypes.{SourceType, plain}
use Rattle.source_types.specs.Subtypes.{is_subtype}
use Rattle.source_types.specs.Supertypes.{supertypes}
use Rattle.je_typing.specs.declared.fault.TypeRule.TheVariants.{BadArray, BadBound}
use Rattle.je_typing.specs.Judged.{Judged, gives, breaks, bind, check}
use Rattle.header_typing.specs.WrittenTypes.{well_written, bounded, well_formed_formal}
use Rattle.header_typing.proofs.Rows.Parts.{at, id, written, of, string, heads}

-- `Box<..>` of an argument that is written at 4
abbrev boxed : SourceType → Judged (Unit {0})
boxed t = well_written heads (λ w. of 11 (t ∷ [])) (written 2 (written 4 [] 4 ∷ []) 2)

-- `Box<String>`, `Box<A>`
string_is_below : boxed string ≡ gives tt
unfolding bounded bind check is_subtype supertypes heads object_class library_class
string_is_below = refl

class_is_not_below : boxed (of 10 []) ≡ breaks BadBound (at 4)
unfolding bounded bind check is_subtype supertypes heads object_class library_class
class_is_not_below = refl

-- `int[]..`, of 255 dimensions and one more
abbrev ints : ℕ → TypeName
ints n = primitive word.Int n (at 0)

many_dimensions : well_written heads (λ w. plain base.Int 0) (ints 255) ≡ gives tt
unfolding check
many_dimensions = refl

too_many_dimensions : well_written heads (λ w. plain base.Int 0) (ints 256) ≡ breaks BadArray (at 0)
unfolding check
too_many_dimensions = refl

-- an argument's fault stands before the whole type's: `Box<A[]..>`
argument_before_whole : well_written heads (λ w. of 11 (of 10 [] ∷ [])) (written 2 (ints 256 ∷ []) 2) ≡ breaks BadArray (at 0)
unfolding bounded bind check
argument_before_whole = refl

-- a parameter `int[]..[] a[]`, where the brackets behind the name go past the limit
brackets_behind_a_name : well_formed_formal heads (λ w. plain base.Int 0) (record { is_final = false; declared = ints 255; name = id 0 7; dims = 1 }) ≡ breaks BadArray (at 7)
unfolding bind check
brackets_behind_a_name = refl
