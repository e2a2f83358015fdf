-- The tests by which a small program is told.
use Rattle.std.specs.Prelude.{ℕ, ◌+◌, ◌^◌, ◌&&◌, Bool, length, nat_lt, sum, map}
use Rattle.std.specs.List.{list_all}
use Rattle.je_core.specs.Core.{CoreInitializer, CoreMethod, CoreClass, CoreProgram}
use Rattle.je_classes.specs.Statics.{static_count}

abbrev pub is_few : ℕ → Bool
is_few n = nat_lt n (2 ^ 31)

abbrev pub has_few_locals : CoreMethod → Bool
has_few_locals m = is_few (length m.locals)

abbrev pub begins_few_locals : CoreInitializer → Bool
begins_few_locals i = is_few (length i.locals)

abbrev pub is_small_class : CoreClass → Bool
is_small_class c =
    is_few (length c.heads) && is_few (length c.interfaces) && is_few (length c.fields) && is_few (length c.initializers) && is_few (length c.methods) &&
    list_all has_few_locals c.methods && list_all begins_few_locals c.initializers

abbrev pub number_of_statics : CoreProgram → ℕ
number_of_statics p = sum (map static_count p.classes) + length p.texts

abbrev pub is_small : CoreProgram → Bool
is_small p = is_few (length p.classes) && list_all is_small_class p.classes && is_few (number_of_statics p)
