-- The methods that a type has, by what each class has of them.
use Rattle.std.specs.Prelude.{ℕ, zero, List, [], map, Option, Some, None}
use Rattle.je_base.specs.declared.span.NameId.{NameId}
use Rattle.je_scopes.specs.SourceTypes.{SourceType, plain, of_class, of_variable}
use Rattle.source_types.specs.Heads.{ClassHead, object_type}
use Rattle.je_typing.specs.Castable.{bounded}
use Rattle.overriding.specs.Methods.{Method, put_in, seen_in}
use Rattle.class_methods.specs.way.Parts.{Parts, put_arguments}
use Rattle.call_typing.specs.Methods.{named}

-- those of one name
abbrev pub named_by : (ℕ → List Method) → NameId → ℕ → List Method
named_by f x c = named x (f c)

-- what the class of a type has, with its type arguments put in
abbrev pub own_in : (ℕ → List Method) → SourceType → List Method
own_in f (of_class c args n) = map (put_in (of_class c args n)) (f c)
own_in f t = []

abbrev pub own_if : (ℕ → List Method) → Option Parts → List Method
own_if f None = []
own_if f (Some p) = map (put_arguments p) (f p.class)

unfoldable pub methods_by : List ClassHead → (ℕ → List Method) → SourceType → List Method
methods_by heads f (plain b zero) = []
methods_by heads f (of_class c args zero) = own_in f (of_class c args zero)
methods_by heads f (of_variable c at zero) = seen_in f (bounded heads (of_variable c at zero))
methods_by heads f t = seen_in f object_type
