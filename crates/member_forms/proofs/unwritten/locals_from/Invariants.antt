use Rattle.std.proofs.Common.{◌≡◌, ◌++◌, drop}
use Rattle.je_core.specs.View.{views}
use Rattle.class_typing.specs.Constructors.{locals_from}
use Rattle.member_forms.proofs.unwritten.locals_from.Given as goal

abbrev pub invariant-loop-at : goal.invariant-loop-at
invariant-loop-at l = views l.locals.items ++ locals_from l.span l.at (drop l.at l.types) ≡ locals_from l.span 0 l.types
