use Rattle.std.proofs.Common.{take}
use Rattle.std.specs.Prelude.{nat_eq}
use Rattle.std.specs.List.{IsDistinct}
use Rattle.scope_laws.proofs.Gains.{Gains}
use Rattle.name_lookup.specs.View.{numbers}
use Rattle.name_lookup.proofs.member.add_all.Given as goal

abbrev pub invariant-loop-class : goal.invariant-loop-class
invariant-loop-class l = record {
  gains : Gains (numbers l.initial.met.keys) (numbers l.met.keys) (numbers (take l.class-index l.classes));
  distinct : IsDistinct nat_eq (numbers l.initial.met.keys) → IsDistinct nat_eq (numbers l.met.keys);
}
