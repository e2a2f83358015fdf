-- Worked rows of overloads: arguments that none, one or several most specific methods accept.
use Rattle.std.proofs.Common.{◌≡◌, refl}
use Rattle.std.specs.Prelude.{ℕ, List, [], ◌∷◌}
use Rattle.je_core.specs.declared.types.Base.TheVariants as base
use Rattle.je_classes.specs.Hierarchy.{object_class, library_class}
use Rattle.je_scopes.specs.SourceTypes.{SourceType, plain, null_type}
use Rattle.source_types.specs.Erasure.{erased}
use Rattle.source_types.specs.Heads.{object_type}
use Rattle.source_types.specs.Subtypes.{is_subtype}
use Rattle.source_types.specs.Supertypes.{supertypes}
use Rattle.declarations.specs.Declarations.{DeclaredMethod}
use Rattle.overriding.specs.Methods.{inherited, own_method}
use Rattle.call_typing.specs.Methods.{candidate_of, candidates}
use Rattle.call_typing.specs.Overloads.{Candidate, Choice, choice, none_accepts, none_accessible, one, unclear}
use Rattle.name_typing.proofs.Rows.Parts.{name, of, int, string}
use Rattle.call_typing.proofs.Rows.Parts.{abstractly, classes, heads, long, plainly, privately, publicly, source, t}

-- the method at a place of a class
abbrev own : ℕ → ℕ → DeclaredMethod → Candidate
own c place m = candidate_of (own_method c place m)

-- what `f` comes to in A, named in B
abbrev of_a : List DeclaredMethod → List SourceType → Choice
of_a ms types = choice heads source.sites 3 (candidates heads (classes (ms ∷ [])) (name 0) (of 2 [])) types

abbrev f : List SourceType → DeclaredMethod
f parameters = plainly 0 parameters int

abbrev a : SourceType
a = of 2 []

abbrev b : SourceType
b = of 3 []

-- ---- one most specific

below_the_other : of_a (f (object_type ∷ []) ∷ f (string ∷ []) ∷ []) (string ∷ []) ≡ one (own 2 1 (f (string ∷ [])))
unfolding choice candidates heads source inherited erased is_subtype supertypes object_class library_class
below_the_other = refl

accepted_by_one : of_a (f (a ∷ []) ∷ f (b ∷ []) ∷ []) (a ∷ []) ≡ one (own 2 0 (f (a ∷ [])))
unfolding choice candidates heads source inherited erased is_subtype supertypes object_class library_class
accepted_by_one = refl

wider_number : of_a (f (plain base.Byte 0 ∷ []) ∷ f (long ∷ []) ∷ []) (int ∷ []) ≡ one (own 2 1 (f (long ∷ [])))
unfolding choice candidates heads source inherited erased is_subtype supertypes object_class library_class
wider_number = refl

least_wide_number : of_a (f (long ∷ []) ∷ f (int ∷ []) ∷ []) (plain base.Char 0 ∷ []) ≡ one (own 2 1 (f (int ∷ [])))
unfolding choice candidates heads source inherited erased is_subtype supertypes object_class library_class
least_wide_number = refl

null_for_an_array : of_a (f (object_type ∷ []) ∷ f (plain base.Int 1 ∷ []) ∷ []) (null_type 0 ∷ []) ≡ one (own 2 1 (f (plain base.Int 1 ∷ [])))
unfolding choice candidates heads source inherited erased is_subtype supertypes object_class library_class
null_for_an_array = refl

-- ---- none accepts

narrower_number : of_a (f (plain base.Byte 0 ∷ []) ∷ []) (int ∷ []) ≡ none_accepts
unfolding choice candidates heads source inherited erased is_subtype supertypes object_class library_class
narrower_number = refl

-- no boxing
number_for_an_object : of_a (f (object_type ∷ []) ∷ []) (int ∷ []) ≡ none_accepts
unfolding choice candidates heads source inherited erased is_subtype supertypes object_class library_class
number_for_an_object = refl

too_many : of_a (f [] ∷ []) (int ∷ []) ≡ none_accepts
unfolding choice candidates heads source inherited erased is_subtype supertypes object_class library_class
too_many = refl

too_few : of_a (f (int ∷ int ∷ []) ∷ []) (int ∷ []) ≡ none_accepts
unfolding choice candidates heads source inherited erased is_subtype supertypes object_class library_class
too_few = refl

another_name : of_a (plainly 1 [] int ∷ []) [] ≡ none_accepts
unfolding choice candidates heads source inherited erased is_subtype supertypes object_class library_class
another_name = refl

-- ---- several accept, and none is more specific than all others

unrelated_classes : of_a (f (a ∷ []) ∷ f (string ∷ []) ∷ []) (null_type 0 ∷ []) ≡ unclear
unfolding choice candidates heads source inherited erased is_subtype supertypes object_class library_class
unrelated_classes = refl

crossed_classes : of_a (f (a ∷ b ∷ []) ∷ f (b ∷ a ∷ []) ∷ []) (b ∷ b ∷ []) ≡ unclear
unfolding choice candidates heads source inherited erased is_subtype supertypes object_class library_class
crossed_classes = refl

crossed_for_one : of_a (f (a ∷ b ∷ []) ∷ f (b ∷ a ∷ []) ∷ []) (a ∷ b ∷ []) ≡ one (own 2 0 (f (a ∷ b ∷ [])))
unfolding choice candidates heads source inherited erased is_subtype supertypes object_class library_class
crossed_for_one = refl

below_both : of_a (f (a ∷ b ∷ []) ∷ f (b ∷ a ∷ []) ∷ f (b ∷ b ∷ []) ∷ []) (b ∷ b ∷ []) ≡ one (own 2 2 (f (b ∷ b ∷ [])))
unfolding choice candidates heads source inherited erased is_subtype supertypes object_class library_class
below_both = refl

-- ---- private ones: of A, in B and in A itself

private_and_another : of_a (f (object_type ∷ []) ∷ privately 0 (string ∷ []) int ∷ []) (string ∷ []) ≡ one (own 2 0 (f (object_type ∷ [])))
unfolding choice candidates heads source inherited erased is_subtype supertypes object_class library_class
private_and_another = refl

private_alone : of_a (privately 0 (string ∷ []) int ∷ []) (string ∷ []) ≡ none_accessible
unfolding choice candidates heads source inherited erased is_subtype supertypes object_class library_class
private_alone = refl

private_for_others : of_a (privately 0 (string ∷ []) int ∷ []) (int ∷ []) ≡ none_accepts
unfolding choice candidates heads source inherited erased is_subtype supertypes object_class library_class
private_for_others = refl

-- in D, which stands in A
abbrev at_home : List DeclaredMethod → List SourceType → Choice
at_home ms types = choice heads source.sites 9 (candidates heads (classes (ms ∷ [])) (name 0) (of 2 [])) types

private_at_home : at_home (f (object_type ∷ []) ∷ privately 0 (string ∷ []) int ∷ []) (string ∷ []) ≡ one (own 2 1 (privately 0 (string ∷ []) int))
unfolding choice candidates heads source inherited erased is_subtype supertypes object_class library_class
private_at_home = refl

-- ---- several with the same parameters

-- in G<T>, of which the argument is String
abbrev of_g : List DeclaredMethod → SourceType → List SourceType → Choice
of_g ms argument types = choice heads source.sites 3 (candidates heads (classes ([] ∷ [] ∷ ms ∷ [])) (name 0) (of 4 (argument ∷ []))) types

both_have_bodies : of_g (f (t ∷ []) ∷ f (string ∷ []) ∷ []) string (string ∷ []) ≡ unclear
unfolding choice candidates heads source inherited erased is_subtype supertypes object_class library_class
both_have_bodies = refl

one_has_a_body : of_g (abstractly 0 (t ∷ []) int ∷ f (string ∷ []) ∷ []) string (string ∷ []) ≡ one (own 4 1 (f (string ∷ [])))
unfolding choice candidates heads source inherited erased is_subtype supertypes object_class library_class
one_has_a_body = refl

another_argument : of_g (abstractly 0 (t ∷ []) int ∷ f (string ∷ []) ∷ []) a (string ∷ []) ≡ one (own 4 1 (f (string ∷ [])))
unfolding choice candidates heads source inherited erased is_subtype supertypes object_class library_class
another_argument = refl

-- of `interface L extends I, J`
abbrev of_l : DeclaredMethod → DeclaredMethod → Choice
of_l m n = choice heads source.sites 3 (candidates heads (classes ([] ∷ [] ∷ [] ∷ (m ∷ []) ∷ (n ∷ []) ∷ [])) (name 0) (of 7 [])) []

first_of_equal_results : of_l (abstractly 0 [] string) (abstractly 0 [] string) ≡ one (own 5 0 (abstractly 0 [] string))
unfolding choice candidates heads source inherited erased is_subtype supertypes object_class library_class
first_of_equal_results = refl

least_result : of_l (abstractly 0 [] object_type) (abstractly 0 [] string) ≡ one (own 6 0 (abstractly 0 [] string))
unfolding choice candidates heads source inherited erased is_subtype supertypes object_class library_class
least_result = refl

no_least_result : of_l (abstractly 0 [] a) (abstractly 0 [] string) ≡ unclear
unfolding choice candidates heads source inherited erased is_subtype supertypes object_class library_class
no_least_result = refl

-- of `abstract class C extends A implements I`
abbrev of_c : DeclaredMethod → DeclaredMethod → Choice
of_c m n = choice heads source.sites 3 (candidates heads (classes ((m ∷ []) ∷ [] ∷ [] ∷ (n ∷ []) ∷ [])) (name 0) (of 8 [])) []

inherited_with_a_body : of_c (publicly 0 [] int) (abstractly 0 [] int) ≡ one (own 2 0 (publicly 0 [] int))
unfolding choice candidates heads source inherited erased is_subtype supertypes object_class library_class
inherited_with_a_body = refl

inherited_without : of_c (abstractly 0 [] object_type) (abstractly 0 [] string) ≡ one (own 5 0 (abstractly 0 [] string))
unfolding choice candidates heads source inherited erased is_subtype supertypes object_class library_class
inherited_without = refl
