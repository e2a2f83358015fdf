-- Worked rows: which of several faults comes first.
use Rattle.std.proofs.Common.{◌≡◌, refl, ℕ, List}
use Rattle.std.specs.Prelude.{◌+◌, ◌++◌, true, false, [], ◌∷◌, Option, Some, None}
use Rattle.je_base.specs.declared.span.Span.{Span}
use Rattle.je_core.specs.declared.program.Access.TheVariants as access
use Rattle.je_core.specs.declared.program.Kind.{Kind}
use Rattle.je_core.specs.declared.program.Sort.TheVariants as sort
use Rattle.je_core.specs.declared.types.Base.TheVariants as base
use Rattle.je_ast.specs.declared.name.Identifier.{Identifier}
use Rattle.je_ast.specs.declared.decl.Modifier.{Modifier}
use Rattle.je_ast.specs.declared.decl.ModifierKind.{ModifierKind}
use Rattle.je_ast.specs.declared.decl.ModifierKind.TheVariants as word
use Rattle.je_ast.specs.declared.ty_name.Primitive.TheVariants.{Int}
use Rattle.je_ast.specs.Types.{TypeName, primitive, class_type, no_types}
use Rattle.je_ast.specs.Trees.{Declaration, Member, Members, MaybeBlock}
use Rattle.je_ast.specs.Trees as tree
use Rattle.je_classes.specs.Hierarchy.{library_class, object_class}
use Rattle.je_scopes.specs.Scope.{Part}
use Rattle.je_scopes.specs.Sites.{Site, Written, in_library, declared, instance}
use Rattle.je_scopes.specs.SourceTypes.{SourceType, plain, of_class, no_source_types}
use Rattle.source_types.specs.Erasure.{erased}
use Rattle.source_types.specs.Heads.{ClassHead, object_type}
use Rattle.source_types.specs.Subtypes.{is_subtype}
use Rattle.source_types.specs.Supertypes.{supertypes}
use Rattle.declarations.specs.Declarations.{DeclaredClass, DeclaredMethod}
use Rattle.je_typing.specs.declared.fault.TypeRule.TheVariants.{BadBody, BadModifier, BadSuper, NotAbstract, SameErasure}
use Rattle.je_typing.specs.Judged.{Judged, gives, breaks, bind, check}
use Rattle.member_rules.specs.Modifiers.{bad_modifier}
use Rattle.header_typing.specs.Supers.{superclass, well_placed}
use Rattle.header_typing.specs.WrittenTypes.{bounded}
use Rattle.overriding.specs.Methods.{inherited, methods_above}
use Rattle.overriding.specs.Overrides.{all_implemented, good_implementations, good_override, may_override, no_clash, no_inherited_clash}
use Rattle.signature_typing.specs.Signatures.{Setting, class_signatures, signatures}

abbrev at : ℕ → Span
at n = record { file = 0; start = n; end = n + 1 }

abbrev id : ℕ → ℕ → Identifier
id x n = record { name = record { 0 = x }; span = at n }

abbrev words : ModifierKind → ModifierKind → List Modifier
words a b = record { kind = a; span = at 1 } ∷ record { kind = b; span = at 2 } ∷ []

abbrev one_word : ModifierKind → List Modifier
one_word a = record { kind = a; span = at 1 } ∷ []

-- the type of the class whose number is the place of its name
abbrev named : ℕ → TypeName
named n = class_type (record { parts = []; span = at n }) no_types 0 (at n)

abbrev meant : TypeName → SourceType
meant (class_type q args dims span) = of_class q.span.start no_source_types 0
meant (primitive p dims span) = plain base.Int 0

-- ---- Object, a final class, and the class A that is judged, by its number 2 and its name at 9

abbrev kind : Kind
kind = record { sort = sort.Class; is_abstract = false; is_final = false; is_static = false }

abbrev head : Kind → List SourceType → ClassHead
head k supers = record { kind = k; bounds = []; supers = supers }

abbrev with : List DeclaredMethod → DeclaredClass
with ms = record { kind = kind; access = access.Package; parameters = []; heads = []; fields = []; methods = ms }

abbrev site : Written → Site
site w = record { written = w; sort = sort.Class; spot = record { unit = 0; round = []; locals = []; context = instance } }

abbrev setting : Declaration → List DeclaredMethod → Setting
setting d ms = record {
  sites = site in_library ∷ site in_library ∷ site (declared d) ∷ [];
  classes = with [] ∷ with [] ∷ with ms ∷ [];
  heads = head kind [] ∷ head (record kind { is_final = true }) (object_type ∷ []) ∷ head kind (object_type ∷ []) ∷ [];
  means = λ c part t. meant t;
  is_constant = λ c x. false;
}

abbrev class_a : List Modifier → Option TypeName → Members → Declaration
class_a ms above body = tree.class_declaration ms (id 5 9) [] above no_types body (at 9)

abbrev one : Member → Members
one m = tree.more_members m tree.no_members

abbrev two : Member → Member → Members
two m n = tree.more_members m (one n)

-- a `void` method without parameters, of a name at a place
abbrev method : List Modifier → ℕ → ℕ → MaybeBlock → Member
method ms x n block = tree.method ms None (id x n) [] [] block (at n)

abbrev empty : MaybeBlock
empty = tree.a_block (at 0) tree.no_statements (at 0)

-- what it declares
abbrev method_of : ℕ → ℕ → DeclaredMethod
method_of x n = record {
  name = id x n;
  is_constructor = false;
  parameters = [];
  result = plain base.Void 0;
  throws = [];
  flags = record { is_static = false; is_final = false; is_abstract = false; is_native = false; is_finalizer = false; access = access.Package };
}

abbrev abstract_of : ℕ → ℕ → DeclaredMethod
abstract_of x n = record (method_of x n) { flags = record ((method_of x n).flags) { is_abstract = true } }

-- ---- rows

-- class A { void f() { } }
nothing_wrong : signatures (setting (class_a [] None (one (method [] 6 12 empty))) (method_of 6 12 ∷ [])) ≡ gives tt
unfolding signatures class_signatures bind check bad_modifier well_placed all_implemented good_implementations good_override may_override no_clash no_inherited_clash inherited methods_above erased is_subtype supertypes object_class library_class
nothing_wrong = refl

-- final final class A extends Last { }, and with one `final`
modifiers_first : signatures (setting (class_a (words word.Final word.Final) (Some (named 1)) tree.no_members) []) ≡ breaks BadModifier (at 2)
unfolding signatures class_signatures bind check bad_modifier bounded superclass
modifiers_first = refl

then_what_stands_above : signatures (setting (class_a (one_word word.Final) (Some (named 1)) tree.no_members) []) ≡ breaks BadSuper (at 1)
unfolding signatures class_signatures bind check bad_modifier bounded superclass
then_what_stands_above = refl

-- class A extends Object { void f(); abstract void g(); }, and with a body of f
then_members : signatures (setting (class_a [] (Some (named 0)) (two (method [] 6 12 tree.no_block) (method (one_word word.Abstract) 7 15 tree.no_block))) (method_of 6 12 ∷ abstract_of 7 15 ∷ []))
    ≡ breaks BadBody (at 12)
unfolding signatures class_signatures bind check bad_modifier bounded superclass
then_members = refl

then_the_whole : signatures (setting (class_a [] (Some (named 0)) (two (method [] 6 12 empty) (method (one_word word.Abstract) 7 15 tree.no_block))) (method_of 6 12 ∷ abstract_of 7 15 ∷ []))
    ≡ breaks NotAbstract (at 9)
unfolding signatures class_signatures bind check bad_modifier bounded superclass well_placed all_implemented good_override may_override no_clash inherited methods_above erased is_subtype supertypes object_class library_class
then_the_whole = refl

-- class A { void f() { } void f() { } }
the_later_of_two : signatures (setting (class_a [] None (two (method [] 6 12 empty) (method [] 6 15 empty))) (method_of 6 12 ∷ method_of 6 15 ∷ [])) ≡ breaks SameErasure (at 15)
unfolding signatures class_signatures bind check bad_modifier good_override may_override no_clash inherited methods_above erased is_subtype supertypes object_class library_class
the_later_of_two = refl

-- ---- a class B in A, behind the whole of A

abbrev class_b : List Modifier → Declaration
class_b ms = tree.class_declaration ms (id 8 20) [] None no_types tree.no_members (at 20)

abbrev with_b : Setting → Declaration → Setting
with_b s b = record s { sites = s.sites ++ site (declared b) ∷ []; classes = s.classes ++ with [] ∷ []; heads = s.heads ++ head kind (object_type ∷ []) ∷ [] }

-- class A { final final class B { } abstract void g(); }, and without g
the_class_round_it_first : signatures (with_b (setting (class_a [] None (two (tree.member_type (class_b (words word.Final word.Final))) (method (one_word word.Abstract) 7 15 tree.no_block)))
    (abstract_of 7 15 ∷ [])) (class_b (words word.Final word.Final))) ≡ breaks NotAbstract (at 9)
unfolding signatures class_signatures bind check bad_modifier bounded superclass well_placed all_implemented good_override may_override no_clash inherited methods_above erased is_subtype supertypes object_class library_class
the_class_round_it_first = refl

then_the_class_in_it : signatures (with_b (setting (class_a [] None (one (tree.member_type (class_b (words word.Final word.Final))))) []) (class_b (words word.Final word.Final))) ≡ breaks BadModifier (at 2)
unfolding signatures class_signatures bind check bad_modifier well_placed all_implemented good_implementations good_override may_override no_clash no_inherited_clash inherited methods_above erased is_subtype supertypes object_class library_class
then_the_class_in_it = refl
