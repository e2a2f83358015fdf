-- Boolean constant expressions (JLS 15.28): each is one node of the core program.
use Rattle.std.specs.Prelude.{Bool, true, false, not, Option, Some, None}
use Rattle.je_core.specs.declared.value.Value.TheVariants as value
use Rattle.je_core.specs.Core.{Core, CoreForm, form_of}
use Rattle.je_core.specs.Core as core

abbrev pub constant_in : CoreForm → Option Bool
constant_in (core.Const (value.Bool b) uses) = Some b
constant_in _ = None

abbrev pub constant_of : Core → Option Bool
constant_of e = constant_in (form_of e)

-- whether there is a constant, and that is its value
abbrev pub is_always : Bool → Option Bool → Bool
is_always value None = false
is_always true (Some b) = b
is_always false (Some b) = not b

-- a constant expression with the value true, and one with the value false
abbrev pub is_true : Core → Bool
is_true e = is_always true (constant_of e)

abbrev pub is_false : Core → Bool
is_false e = is_always false (constant_of e)
