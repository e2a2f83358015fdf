-- A set of members has one answer.
use Rattle.std.proofs.Common.{◌≡◌, refl, sym, ap, ◌∙◌}
use Rattle.je_classes.specs.Members.{Member, Found, one, IsFound, is_nothing, is_one, are_several}
use Rattle.je_classes.specs.Fields.{FieldsAreFound}
use Rattle.je_classes.proofs.Sets.{found-same}
use Rattle.class_laws.specs.Answers.{FieldsGoBySets}

found-one : {P : Member → Type 0} {f g : Found} → IsFound P f → IsFound P g → f ≡ g
found-one (is_nothing n) (is_nothing k) = refl
found-one (is_nothing n) (is_one {m = m} p u) = absurd (n m p)
found-one (is_nothing n) (are_several {m = m} p q d) = absurd (n m p)
found-one (is_one {m = m} p u) (is_nothing n) = absurd (n m p)
found-one (is_one {m = m} p u) (is_one q v) = ap one (v m p)
found-one (is_one p u) (are_several {m = m} {n = n} q r d) = absurd (d (u m q ∙ sym (u n r)))
found-one (are_several {m = m} p q d) (is_nothing n) = absurd (n m p)
found-one (are_several {m = m} {n = n} p q d) (is_one r u) = absurd (d (u m p ∙ sym (u n q)))
found-one (are_several p q d) (are_several r s e) = refl

pub fields_go_by_sets : FieldsAreFound → FieldsGoBySets
fields_go_by_sets found p acyclic c d x y alike =
    found-one (found-same (λ m. (alike m).0) (λ m. (alike m).1) (found p c x acyclic)) (found p d y acyclic)
