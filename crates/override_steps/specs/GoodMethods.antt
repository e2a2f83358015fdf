-- What is asked of a method by what its class declares before it, and what the classes above declare.
use Rattle.std.specs.Prelude.{not, ◌||◌, List}
use Rattle.source_types.specs.Heads.{ClassHead}
use Rattle.declarations.specs.Declarations.{DeclaredClass}
use Rattle.je_typing.specs.declared.fault.TypeRule.TheVariants.{SameErasure}
use Rattle.je_typing.specs.Judged.{Judged, ◌>>◌, check}
use Rattle.overriding.specs.Methods.{Method, methods_above}
use Rattle.overriding.specs.Overrides.{clashes_above, good_override, is_like_one}

-- `no_clash` of a method before which its class declares these, and above which are those
abbrev pub no_clash_among : List ClassHead → List Method → List Method → Method → Judged (Unit {0})
no_clash_among heads earlier above m =
    check SameErasure m.declared.name.span (not (is_like_one heads earlier m || clashes_above heads m above))

abbrev pub good_method : List ClassHead → List DeclaredClass → List Method → Method → Judged (Unit {0})
good_method heads classes earlier m = do
  good_override heads classes m
  no_clash_among heads earlier (methods_above heads classes m.holder) m
