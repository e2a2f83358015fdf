-- Worked rows: types that are written in bodies, each fault beside its nearest accepted neighbour.
use Rattle.std.specs.Prelude.{◌≡◌, refl, ℕ, List, [], ◌∷◌, map, Some, None, codes}
use Rattle.je_core.specs.declared.types.Base.TheVariants as base
use Rattle.je_ast.specs.declared.ty_name.Primitive.TheVariants as word
use Rattle.je_ast.specs.Types.{QualifiedName, TypeName, primitive, class_type, no_types, more_types}
use Rattle.je_ast.specs.Trees as tree
use Rattle.je_core.specs.declared.program.Sort.TheVariants as sort
use Rattle.je_ast.specs.declared.decl.ModifierKind.TheVariants.{Private}
use Rattle.je_scopes.specs.Settled.{settled}
use Rattle.je_scopes.specs.Sites.{Site, at_top, declared, inside, instance, static}
use Rattle.je_scopes.specs.Source.{Source}
use Rattle.je_scopes.specs.SourceTypes.{plain, of_class, of_variable, no_source_types}
use Rattle.source_types.specs.Heads.{ClassHead, object_type}
use Rattle.source_types.specs.Subtypes.{is_subtype}
use Rattle.source_types.specs.Supertypes.{supertypes}
use Rattle.je_classes.specs.Hierarchy.{object_class, library_class}
use Rattle.header_typing.specs.WrittenTypes.{bounded}
use Rattle.je_typing.specs.declared.fault.TypeRule.TheVariants.{BadArray, BadBound, NotAccessible, UnknownName}
use Rattle.je_typing.specs.Judged.{bind, breaks, check, gives}
use Rattle.name_typing.specs.Program.{Program}
use Rattle.name_typing.proofs.Rows.Parts.{at, body, class_site, head, heads, id, library_site, of, program, source, whole}
use Rattle.body_types.specs.BodyTypes.{bare_type, body_type}

-- a name of these parts
abbrev named : List ℕ → QualifiedName
named parts = record { parts = map id parts; span = whole }

abbrev class_named : List ℕ → ℕ → TypeName
class_named parts dims = class_type (named parts) no_types dims (at 30)

-- ---- int[], and one dimension more than may be

ints : body_type program (body 2 instance []) (primitive word.Int 255 (at 30)) ≡ gives (plain base.Int 255)
unfolding bind check program
ints = refl

too_deep : body_type program (body 2 instance []) (primitive word.Int 256 (at 30)) ≡ breaks BadArray (at 30)
unfolding bind check program
too_deep = refl

-- ---- A at the top, D in A by its simple name and behind a point, and a name that means nothing

a_class : body_type program (body 4 static []) (class_named (8 ∷ []) 1) ≡ gives (of_class 2 no_source_types 1)
unfolding bind check program source heads settled bounded
a_class = refl

a_member : body_type program (body 2 instance []) (class_named (9 ∷ []) 0) ≡ gives (of_class 3 no_source_types 0)
unfolding bind check program source heads settled bounded
a_member = refl

not_in_scope : body_type program (body 5 instance []) (class_named (9 ∷ []) 0) ≡ breaks UnknownName whole
unfolding bind check program source heads settled bounded
not_in_scope = refl

behind_a_point : body_type program (body 5 instance []) (class_named (8 ∷ 9 ∷ []) 0) ≡ gives (of_class 3 no_source_types 0)
unfolding bind check program source heads settled bounded
behind_a_point = refl

no_such_member : body_type program (body 5 instance []) (class_named (8 ∷ 10 ∷ []) 0) ≡ breaks UnknownName whole
unfolding bind check program source heads settled bounded
no_such_member = refl

-- ---- arguments on a class that takes none; a bare type has none that are written

not_generic : body_type program (body 5 instance []) (class_type (named (8 ∷ [])) (more_types (class_named (8 ∷ []) 0) no_types) 0 (at 30)) ≡ breaks UnknownName whole
unfolding bind check program source heads settled bounded
not_generic = refl

bare : bare_type program (body 5 instance []) (class_named (8 ∷ []) 0) ≡ gives (of_class 2 no_source_types 0)
unfolding bare_type bind check program source heads settled bounded
bare = refl

-- ---- class A { private class D { } }, class E<T extends A> { }, class B extends A { }: their numbers are 2, 3, 4 and 5

unfoldable generic_heads : List ClassHead
generic_heads =
    head sort.Class [] [] ∷ head sort.Class [] (object_type ∷ []) ∷ head sort.Class [] (object_type ∷ []) ∷ head sort.Class [] (object_type ∷ [])
    ∷ head sort.Class (of 2 [] ∷ []) (object_type ∷ []) ∷ head sort.Class [] (of 2 [] ∷ []) ∷ []

abbrev private_d : Site
private_d = record {
  written = declared (tree.class_declaration (record { kind = Private; span = at 40 } ∷ []) (id 9) [] None no_types tree.no_members whole);
  sort = sort.Class;
  spot = inside 2 (at_top 0) instance;
}

abbrev generic_e : Site
generic_e = record {
  written = declared (tree.class_declaration [] (id 7) (record { name = id 6; bound = Some (class_named (8 ∷ []) 0) } ∷ []) None no_types tree.no_members whole);
  sort = sort.Class;
  spot = at_top 0;
}

abbrev class_b : Site
class_b = record {
  written = declared (tree.class_declaration [] (id 10) [] (Some (class_named (8 ∷ []) 0)) no_types tree.no_members whole);
  sort = sort.Class;
  spot = at_top 0;
}

unfoldable generic_source : Source
generic_source = record {
  texts = codes "x" ∷ codes "s" ∷ codes "y" ∷ codes "k" ∷ codes "f" ∷ codes "length" ∷ codes "T" ∷ codes "E" ∷ codes "A" ∷ codes "D" ∷ codes "B" ∷ [];
  imports = [];
  sites = library_site ∷ library_site ∷ class_site 8 ∷ private_d ∷ generic_e ∷ class_b ∷ [];
}

unfoldable generics : Program
generics = record { source = generic_source; heads = generic_heads; classes = []; constants = λ m. None; outer = λ c. 0; captured = λ c steps local. 0 }

abbrev e_of : TypeName → TypeName
e_of t = class_type (named (7 ∷ [])) (more_types t no_types) 0 (at 30)

-- B is below the bound A of E's parameter, D isn't; nor does E stand without an argument
in_bound : body_type generics (body 5 instance []) (e_of (class_named (10 ∷ []) 0)) ≡ gives (of 4 (of 5 [] ∷ []))
unfolding bind check generics generic_source generic_heads settled bounded is_subtype supertypes object_class library_class
in_bound = refl

out_of_bound : body_type generics (body 2 instance []) (e_of (class_named (9 ∷ []) 0)) ≡ breaks BadBound (at 30)
unfolding bind check generics generic_source generic_heads settled bounded is_subtype supertypes object_class library_class
out_of_bound = refl

without_argument : body_type generics (body 5 instance []) (class_named (7 ∷ []) 0) ≡ breaks UnknownName whole
unfolding bind check generics generic_source generic_heads settled bounded is_subtype supertypes object_class library_class
without_argument = refl

-- the type variable of E, in a member of it and in a static one
in_member : body_type generics (body 4 instance []) (class_named (6 ∷ []) 0) ≡ gives (of_variable 4 0 0)
unfolding bind check generics generic_source generic_heads settled bounded
in_member = refl

in_static_member : body_type generics (body 4 static []) (class_named (6 ∷ []) 0) ≡ breaks UnknownName whole
unfolding bind check generics generic_source generic_heads settled bounded
in_static_member = refl

-- private D, named in A and outside
in_its_class : body_type generics (body 2 instance []) (class_named (8 ∷ 9 ∷ []) 0) ≡ gives (of 3 [])
unfolding bind check generics generic_source generic_heads settled bounded
in_its_class = refl

outside : body_type generics (body 5 instance []) (class_named (8 ∷ 9 ∷ []) 0) ≡ breaks NotAccessible whole
unfolding bind check generics generic_source generic_heads settled bounded
outside = refl

bare_outside : bare_type generics (body 5 instance []) (class_named (8 ∷ 9 ∷ []) 0) ≡ breaks NotAccessible whole
unfolding bare_type bind check generics generic_source generic_heads settled
bare_outside = refl

-- a generic class without arguments, where it is asked later whether it may stand
bare_generic : bare_type generics (body 5 instance []) (class_named (7 ∷ []) 0) ≡ gives (of 4 [])
unfolding bare_type bind check generics generic_source generic_heads settled
bare_generic = refl
