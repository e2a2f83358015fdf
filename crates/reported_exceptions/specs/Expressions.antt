-- What an expression can throw (JLS 11.2.1): what the methods and constructors that it calls declare.
use Rattle.std.specs.Prelude.{ℕ, ◌-◌, nat_lt, List, [], Option, Some, None, length, slice_get, unwrap_or, if◌then◌else◌}
use Rattle.je_base.specs.declared.span.Span.{Span}
use Rattle.je_core.specs.declared.types.ClassId.{ClassId}
use Rattle.je_core.specs.Core.{Core, CoreForm, Cores, MaybeCore, CoreMethod, CoreProgram, node, none as no_cores, more, no_core, a_core}
use Rattle.je_core.specs.Core as core
use Rattle.je_classes.specs.Members.{method_of}
use Rattle.reported_exceptions.specs.Throws.{Throws, nothing, ◌also◌, each_thrown}

abbrev pub throws_in : Option CoreMethod → List ClassId
throws_in None = []
throws_in (Some m) = m.throws

abbrev pub call_throws : CoreProgram → ClassId → ℕ → Span → Throws
call_throws p class method at = each_thrown p (throws_in (method_of p (record { class = class; at = method }))) at

-- Of the last classes of a program, from the last one on, what the making of an object throws of itself, beside what its constructor
-- declares.
abbrev pub making_throws : CoreProgram → List (List ClassId) → ClassId → List ClassId
making_throws p makings class = if nat_lt class.0 (length p.classes) then unwrap_or (slice_get makings (length p.classes - class.0 - 1)) [] else []

module _ (p : CoreProgram) (makings : List (List ClassId)) where
  abbrev mutual
    pub throws : Core → Throws
    throws (node form ty span at) = form_throws at form

    -- at a call's name, and at the word `new`
    pub form_throws : Span → CoreForm → Throws
    form_throws at (core.Const value uses) = nothing
    form_throws at (core.Text units uses) = nothing
    form_throws at (core.Local local) = nothing
    form_throws at core.This = nothing
    form_throws at (core.Field object class field) = throws object
    form_throws at (core.Static object class field) = maybe_throws object
    form_throws at (core.Index array index) = throws array also throws index
    form_throws at (core.Length array) = throws array
    form_throws at (core.Assign place value) = throws place also throws value
    form_throws at (core.Update place op operand gives_old) = throws place also maybe_throws operand
    form_throws at (core.Unary op operand) = throws operand
    form_throws at (core.Binary op left right) = throws left also throws right
    form_throws at (core.And left right) = throws left also throws right
    form_throws at (core.Or left right) = throws left also throws right
    form_throws at (core.Choose condition chosen other) = throws condition also throws chosen also throws other
    form_throws at (core.Convert operand) = throws operand
    form_throws at (core.Cast operand) = throws operand
    form_throws at (core.InstanceOf operand of) = throws operand
    form_throws at (core.Concat left right) = throws left also throws right
    form_throws at (core.CallVirtual receiver class method args) = throws receiver also all_throws args also call_throws p class method at
    form_throws at (core.CallExact receiver class method args) = maybe_throws receiver also all_throws args also call_throws p class method at
    form_throws at (core.New class method args captures word) =
        all_throws args also call_throws p class method word also each_thrown p (making_throws p makings class) word
    form_throws at (core.NewArray lengths) = all_throws lengths
    form_throws at (core.ArrayOf values) = all_throws values

    pub all_throws : Cores → Throws
    all_throws no_cores = nothing
    all_throws (more e es) = throws e also all_throws es

    pub maybe_throws : MaybeCore → Throws
    maybe_throws no_core = nothing
    maybe_throws (a_core e) = throws e
