-- Worked rows of what is static in an inner class.
use Rattle.std.proofs.Common.{◌≡◌, refl, ℕ, List}
use Rattle.std.specs.Prelude.{true, false, [], ◌∷◌, Some, None}
use Rattle.je_ast.specs.declared.decl.Modifier.{Modifier}
use Rattle.je_ast.specs.declared.decl.ModifierKind.TheVariants as word
use Rattle.je_core.specs.declared.program.Sort.{Sort}
use Rattle.je_core.specs.declared.program.Sort.TheVariants as sort
use Rattle.je_scopes.specs.Sites.{Site, Context, instance, static, in_library}
use Rattle.source_types.specs.Heads.{ClassHead}
use Rattle.je_typing.specs.declared.fault.TypeRule.TheVariants.{BadStatic}
use Rattle.je_typing.specs.Judged.{gives, breaks, check}
use Rattle.header_typing.specs.Statics.{is_inner, static_method, static_field, static_initializer, static_class}
use Rattle.header_typing.proofs.Rows.Parts.{at, id, head, plain_class}

abbrev site_in : Sort → List ℕ → Context → Site
site_in s round context = record { written = in_library; sort = s; spot = record { unit = 0; round = round; locals = []; context = context } }

-- class A { class I { interface J { } } static class S { } void f() { new Object() { }; } }
unfoldable sites : List Site
sites =
    site_in sort.Class [] static ∷ site_in sort.Class (0 ∷ []) instance ∷ site_in sort.Interface (1 ∷ 0 ∷ []) static
    ∷ site_in sort.Class (0 ∷ []) static ∷ site_in sort.Anonymous (0 ∷ []) instance ∷ []

unfoldable heads : List ClassHead
heads =
    plain_class [] ∷ plain_class [] ∷ head sort.Interface false true [] []
    ∷ head sort.Class false true [] [] ∷ head sort.Anonymous false false [] [] ∷ []

top_is_not_inner : is_inner sites heads 0 ≡ false
unfolding sites heads
top_is_not_inner = refl

member_is_inner : is_inner sites heads 1 ≡ true
unfolding sites heads
member_is_inner = refl

static_member_is_not_inner : is_inner sites heads 3 ≡ false
unfolding sites heads
static_member_is_not_inner = refl

anonymous_is_inner : is_inner sites heads 4 ≡ true
unfolding sites heads
anonymous_is_inner = refl

-- an interface in I, a static class in A
interface_in_an_inner_class : static_class sites heads 2 (at 0) ≡ breaks BadStatic (at 0)
unfolding check sites heads
interface_in_an_inner_class = refl

static_class_at_the_top : static_class sites heads 3 (at 0) ≡ gives tt
unfolding check sites heads
static_class_at_the_top = refl

abbrev static_word : List Modifier
static_word = record { kind = word.Static; span = at 1 } ∷ []

-- static void f() { }; void f() { }
method_in_an_inner_class : static_method true static_word (id 0 3) ≡ breaks BadStatic (at 3)
unfolding check
method_in_an_inner_class = refl

instance_method : static_method true [] (id 0 3) ≡ gives tt
unfolding check
instance_method = refl

-- static int x; static final int x = 1
field_in_an_inner_class : static_field true static_word false (id 0 3) ≡ breaks BadStatic (at 3)
unfolding check
field_in_an_inner_class = refl

constant_in_an_inner_class : static_field true static_word true (id 0 3) ≡ gives tt
unfolding check
constant_in_an_inner_class = refl

-- static { }; { }
initializer_in_an_inner_class : static_initializer true (Some (at 2)) ≡ breaks BadStatic (at 2)
unfolding check
initializer_in_an_inner_class = refl

instance_initializer : static_initializer true None ≡ gives tt
instance_initializer = refl
