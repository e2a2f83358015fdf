-- The ways by which a statement is left other than by its end (JLS 14.15 to 14.17).
use Rattle.std.specs.Prelude.{Bool, true, false, Option, Some, None, nat_eq}
use Rattle.je_base.specs.declared.span.NameId.{NameId}
use Rattle.flow_base.specs.declared.jumps.Way.{Way}
use Rattle.flow_base.specs.declared.jumps.Way.TheVariants as way

abbrev pub same_label : Option NameId → Option NameId → Bool
same_label None None = true
same_label (Some a) (Some b) = nat_eq a.0 b.0
same_label None (Some b) = false
same_label (Some a) None = false

abbrev pub same_way : Way → Way → Bool
same_way (way.Breaks a) (way.Breaks b) = same_label a b
same_way (way.Continues a) (way.Continues b) = same_label a b
same_way way.Returns way.Returns = true
same_way (way.Breaks a) (way.Continues b) = false
same_way (way.Breaks a) way.Returns = false
same_way (way.Continues a) (way.Breaks b) = false
same_way (way.Continues a) way.Returns = false
same_way way.Returns (way.Breaks b) = false
same_way way.Returns (way.Continues b) = false
