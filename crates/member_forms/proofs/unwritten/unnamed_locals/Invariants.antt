use Rattle.std.proofs.Common.{◌≡◌, map, take}
use Rattle.class_typing.specs.Constructors.{unnamed_local}
use Rattle.member_forms.proofs.unwritten.unnamed_locals.Given as goal

abbrev pub invariant-loop-ty : goal.invariant-loop-ty
invariant-loop-ty l = l.locals.items ≡ map (unnamed_local l.no_name l.span) (take l.ty-index l.params)
