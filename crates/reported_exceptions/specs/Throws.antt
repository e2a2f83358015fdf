-- What a part of a program can throw: the checked exceptions, each at the token that throws it, put together as the part is.
use Rattle.std.specs.Prelude.{Bool, true, false, not, ◌&&◌, ◌||◌, List, [], ◌∷◌, ◌++◌, filter, codes, if◌then◌else◌}
use Rattle.je_base.specs.declared.span.Span.{Span}
use Rattle.je_core.specs.declared.types.ClassId.{ClassId}
use Rattle.je_core.specs.Core.{CoreCatches, CoreProgram, catch, no_catches, more_catches}
use Rattle.je_classes.specs.Hierarchy.{library_class, is_below}
use Rattle.reported_exceptions.specs.declared.throws.Throw.{Throw}

infixr 20 ◌also◌
pub data Throws : Type 0 where
  nothing : Throws
  one : Throw → Throws
  ◌also◌ : Throws → Throws → Throws
  -- of a block, with these catches round it
  tried : Throws → CoreCatches → Throws
  -- before a `finally`, and whether that can complete normally
  before_finally : Throws → Bool → Throws

-- ---- checked exceptions (JLS 11.2)

unfoldable pub runtime_exception : ClassId
runtime_exception = library_class (codes "java.lang.RuntimeException")

unfoldable pub error : ClassId
error = library_class (codes "java.lang.Error")

abbrev pub is_checked : CoreProgram → ClassId → Bool
is_checked p class = not (is_below p class runtime_exception || is_below p class error)

abbrev pub thrown : CoreProgram → ClassId → Span → Throws
thrown p class at = if is_checked p class then one (record { class = class; at = at }) else nothing

abbrev pub each_thrown : CoreProgram → List ClassId → Span → Throws
each_thrown p [] at = nothing
each_thrown p (c ∷ cs) at = thrown p c at also each_thrown p cs at

-- ---- what comes out

-- a catch takes the classes at or below its own
abbrev pub is_taken : CoreProgram → CoreCatches → ClassId → Bool
is_taken p no_catches class = false
is_taken p (more_catches (catch local taken span body) cs) class = is_below p class taken || is_taken p cs class

abbrev pub untaken : CoreProgram → CoreCatches → List Throw → List Throw
untaken p catches ts = filter (λ t. not (is_taken p catches t.class)) ts

-- Behind what comes out before: of a block what no catch takes. What a `try` throws is lost at a `finally` that can't complete normally.
abbrev pub out_behind : CoreProgram → List Throw → Throws → List Throw
out_behind p before nothing = before
out_behind p before (one t) = before ++ t ∷ []
out_behind p before (a also b) = out_behind p (out_behind p before a) b
out_behind p before (tried a catches) = before ++ untaken p catches (out_behind p [] a)
out_behind p before (before_finally a completes) = before ++ (if completes then out_behind p [] a else [])

abbrev pub out_of : CoreProgram → Throws → List Throw
out_of p throws = out_behind p [] throws
