-- A set has one size.
use Rattle.std.proofs.Common.{◌≡◌, refl, sym, ap, ◌∙◌, subst}
use Rattle.je_classes.specs.Members.{Member, Found, nothing, one, several, IsFound, is_nothing, is_one, are_several}

pub one_size : {P : Member → Type 0} {f g : Found} → IsFound P f → IsFound P g → f ≡ g
one_size (is_nothing n) (is_nothing m) = refl
one_size (is_nothing n) (is_one {m = k} p u) = absurd (n k p)
one_size (is_nothing n) (are_several {m = k} p q d) = absurd (n k p)
one_size (is_one {m = k} p u) (is_nothing n) = absurd (n k p)
one_size (is_one {m = k} p u) (is_one {m = l} q v) = ap one (sym (u l q))
one_size (is_one {m = k} p u) (are_several {m = a} {n = b} q r d) = absurd (d (u a q ∙ sym (u b r)))
one_size (are_several {m = k} p q d) (is_nothing n) = absurd (n k p)
one_size (are_several {m = a} {n = b} q r d) (is_one {m = k} p u) = absurd (d (u a q ∙ sym (u b r)))
one_size (are_several p q d) (are_several r s e) = refl
