-- The test of two ways tells that they are one.
use Rattle.std.proofs.Common.{◌≡◌, true, Option, None, Some, refl, ap, arith}
use Rattle.std.proofs.lemmas.Bool.Decides.{nat_tests}
use Rattle.je_base.specs.declared.span.NameId.{NameId}
use Rattle.flow_base.specs.declared.jumps.Way.{Way}
use Rattle.flow_base.specs.declared.jumps.Way.TheVariants.{Breaks, Continues, Returns}
use Rattle.flow_base.specs.Ways.{same_label, same_way}

same_name_true : (a b : NameId) → same_label (Some a) (Some b) ≡ true → a ≡ b
same_name_true a b h = let e : a.0 ≡ b.0 = grind (arith, nat_tests) in λ i. record { 0 = e i }

same_label_true : (a b : Option NameId) → same_label a b ≡ true → a ≡ b
same_label_true None None h = refl
same_label_true (Some a) (Some b) h = ap Some (same_name_true a b h)
same_label_true None (Some b) h = cc
same_label_true (Some a) None h = cc

pub same_way_true : (a b : Way) → same_way a b ≡ true → a ≡ b
same_way_true (Breaks a) (Breaks b) h = ap (λ (l : Option NameId). Breaks l) (same_label_true a b h)
same_way_true (Continues a) (Continues b) h = ap (λ (l : Option NameId). Continues l) (same_label_true a b h)
same_way_true Returns Returns h = refl
same_way_true (Breaks a) (Continues b) h = cc
same_way_true (Breaks a) Returns h = cc
same_way_true (Continues a) (Breaks b) h = cc
same_way_true (Continues a) Returns h = cc
same_way_true Returns (Breaks b) h = cc
same_way_true Returns (Continues b) h = cc
