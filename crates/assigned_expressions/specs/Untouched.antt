-- The variables of a set that are assigned nowhere in an expression. `b` is the set.
use Rattle.std.specs.Prelude.{ℕ, Option, Some, None}
use Rattle.je_core.specs.declared.types.ClassId.{ClassId}
use Rattle.je_core.specs.Core.{Core, CoreForm, Cores, MaybeCore, node, none, more, no_core, a_core}
use Rattle.je_core.specs.Core as core
use Rattle.variable_sets.specs.Sets.{Set, removing}
use Rattle.assigned_expressions.specs.Places.{variable_of}

abbrev pub without : Option ℕ → Set → Set
without None b = b
without (Some v) b = removing v b

module _ (home : Option ClassId) where
  abbrev mutual
    pub untouched : Set → Core → Set
    untouched b (node form ty span at) = untouched_in b form

    pub untouched_in : Set → CoreForm → Set
    untouched_in b (core.Const value uses) = b
    untouched_in b (core.Text units uses) = b
    untouched_in b (core.Local local) = b
    untouched_in b core.This = b
    untouched_in b (core.Field object class field) = untouched b object
    untouched_in b (core.Static object class field) = maybe_untouched b object
    untouched_in b (core.Index array index) = untouched (untouched b array) index
    untouched_in b (core.Length array) = untouched b array
    untouched_in b (core.Assign place value) = without (variable_of home place) (untouched (untouched b place) value)
    untouched_in b (core.Update place op operand gives_old) = without (variable_of home place) (maybe_untouched (untouched b place) operand)
    untouched_in b (core.Unary op operand) = untouched b operand
    untouched_in b (core.Binary op left right) = untouched (untouched b left) right
    untouched_in b (core.And left right) = untouched (untouched b left) right
    untouched_in b (core.Or left right) = untouched (untouched b left) right
    untouched_in b (core.Choose condition chosen other) = untouched (untouched (untouched b condition) chosen) other
    untouched_in b (core.Convert operand) = untouched b operand
    untouched_in b (core.Cast operand) = untouched b operand
    untouched_in b (core.InstanceOf operand of) = untouched b operand
    untouched_in b (core.Concat left right) = untouched (untouched b left) right
    untouched_in b (core.CallVirtual receiver class method args) = all_untouched (untouched b receiver) args
    untouched_in b (core.CallExact receiver class method args) = all_untouched (maybe_untouched b receiver) args
    untouched_in b (core.New class method args captures word) = all_untouched b args
    untouched_in b (core.NewArray lengths) = all_untouched b lengths
    untouched_in b (core.ArrayOf values) = all_untouched b values

    pub all_untouched : Set → Cores → Set
    all_untouched b none = b
    all_untouched b (more e es) = all_untouched (untouched b e) es

    pub maybe_untouched : Set → MaybeCore → Set
    maybe_untouched b no_core = b
    maybe_untouched b (a_core e) = untouched b e
