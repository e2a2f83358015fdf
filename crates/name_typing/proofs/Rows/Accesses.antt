-- Worked rows of what stands behind a value and `super`.
use Rattle.std.proofs.Common.{◌≡◌, refl}
use Rattle.std.specs.Prelude.{[], ◌∷◌}
use Rattle.je_core.specs.declared.types.Base.TheVariants as base
use Rattle.je_core.specs.Core.{Cast, Field, Length, Static, node, a_core}
use Rattle.je_classes.specs.Hierarchy.{object_class, library_class}
use Rattle.je_scopes.specs.Sites.{instance, static}
use Rattle.je_scopes.specs.SourceTypes.{plain, null_type}
use Rattle.source_types.specs.Erasure.{erased, class_numbered}
use Rattle.source_types.specs.Supertypes.{supertypes}
use Rattle.je_typing.specs.declared.fault.TypeRule.TheVariants.{AmbiguousField, BadOperand, NotAccessible, StaticContext, UnknownField}
use Rattle.je_typing.specs.Judged.{bind, breaks, check, gives, need}
use Rattle.name_typing.specs.Accesses.{field_of_value, found_field, member_of_value, super_field}
use Rattle.name_typing.specs.Fields.{find_field}
use Rattle.name_typing.specs.Qualified.{a_value, assigned_select, select}
use Rattle.name_typing.specs.Variables.{taken}
use Rattle.name_typing.proofs.Rows.Parts.{at, whole, id, ty, class_ty, int, string, in_body, this_of, object, heads, classes, source, program}

there : member_of_value program (in_body 4 static) (id 0) whole (object 2 [])
    ≡ gives (record { node = node (Field (object 2 []).node (class_numbered 2) 0) (ty base.Int) whole (at 0); type = int })
unfolding member_of_value field_of_value found_field bind check need find_field erased supertypes program source heads classes object_class library_class
there = refl

not_there : member_of_value program (in_body 4 static) (id 7) whole (object 2 []) ≡ breaks UnknownField (at 7)
unfolding member_of_value field_of_value found_field bind check need find_field erased supertypes program source heads classes object_class library_class
not_there = refl

private_elsewhere : member_of_value program (in_body 4 static) (id 2) whole (object 2 []) ≡ breaks NotAccessible (at 2)
unfolding member_of_value field_of_value found_field bind check need find_field erased supertypes program source heads classes object_class library_class
private_elsewhere = refl

-- in D, which stands in A
private_at_home : member_of_value program (in_body 3 static) (id 2) whole (object 2 [])
    ≡ gives (record { node = node (Field (object 2 []).node (class_numbered 2) 2) (ty base.Int) whole (at 2); type = int })
unfolding member_of_value field_of_value found_field bind check need find_field erased supertypes program source heads classes object_class library_class
private_at_home = refl

inherited_twice : member_of_value program (in_body 4 static) (id 0) whole (object 8 []) ≡ breaks AmbiguousField (at 0)
unfolding member_of_value field_of_value found_field bind check need find_field erased supertypes program source heads classes object_class library_class
inherited_twice = refl

of_a_number : member_of_value program (in_body 4 static) (id 0) whole (record { node = (object 2 []).node; type = int }) ≡ breaks BadOperand (at 0)
unfolding member_of_value field_of_value found_field bind check need find_field erased supertypes program source heads classes object_class library_class
of_a_number = refl

of_null : member_of_value program (in_body 4 static) (id 0) whole (record { node = (object 2 []).node; type = null_type 0 }) ≡ breaks BadOperand (at 0)
unfolding member_of_value field_of_value found_field bind check need find_field erased supertypes program source heads classes object_class library_class
of_null = refl

static_of_a_value : member_of_value program (in_body 4 static) (id 1) whole (object 2 [])
    ≡ gives (record { node = node (Static (a_core (object 2 []).node) (class_numbered 2) 1) (ty base.Int) whole (at 1); type = int })
unfolding member_of_value field_of_value found_field bind check need find_field erased supertypes program source heads classes object_class library_class
static_of_a_value = refl

length_of_an_array : member_of_value program (in_body 4 static) (id 5) whole (record { node = (object 2 []).node; type = plain base.Int 1 })
    ≡ gives (record { node = node (Length (object 2 []).node) (ty base.Int) whole (at 5); type = int })
unfolding member_of_value field_of_value found_field bind check need find_field erased supertypes program source heads classes object_class library_class
length_of_an_array = refl

length_of_a_class : member_of_value program (in_body 4 static) (id 5) whole (object 2 []) ≡ breaks UnknownField (at 5)
unfolding member_of_value field_of_value found_field bind check need find_field erased supertypes program source heads classes object_class library_class
length_of_a_class = refl

-- ---- class G<T> { T f; }: of a G<String> it is read as a String, and assigned as it was declared

read_as_a_string : select program (in_body 4 static) (id 4) whole (a_value (object 5 (string ∷ [])))
    ≡ gives (record { node = node (Cast (node (Field (object 5 []).node (class_numbered 5) 0) (class_ty 0) whole (at 4))) (class_ty 1) whole (at 4); type = string })
unfolding select assigned_select member_of_value field_of_value found_field taken bind check need find_field erased supertypes program source heads classes object_class library_class
read_as_a_string = refl

assigned_as_declared : assigned_select program (in_body 4 static) (id 4) whole (a_value (object 5 (string ∷ [])))
    ≡ gives (record { node = node (Field (object 5 []).node (class_numbered 5) 0) (class_ty 0) whole (at 4); type = string })
unfolding assigned_select member_of_value field_of_value found_field bind check need find_field erased supertypes program source heads classes object_class library_class
assigned_as_declared = refl

-- ---- super.x in B

by_super : super_field program (in_body 4 instance) (at 8) (id 0) whole
    ≡ gives (record { node = node (Field (this_of 4 8) (class_numbered 2) 0) (ty base.Int) whole (at 0); type = int })
unfolding super_field found_field bind check need find_field erased supertypes program source heads classes object_class library_class
by_super = refl

super_without_object : super_field program (in_body 4 static) (at 8) (id 0) whole ≡ breaks StaticContext (at 8)
unfolding super_field found_field bind check need find_field erased supertypes program source heads classes object_class library_class
super_without_object = refl
