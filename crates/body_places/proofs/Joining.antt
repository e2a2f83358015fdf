-- The union of what is found, whatever the order and the number of its parts.
use Rattle.std.proofs.Common.{◌≡◌, refl, sym, ap, ◌∙◌, subst}
use Rattle.std.specs.Prelude.{Bool, true, false, if◌then◌else◌}
use Rattle.je_classes.specs.Members.{Member, same_member, Found, nothing, one, several, joined}
use Rattle.je_classes.proofs.Lists.{bool_cases}
use Rattle.je_classes.proofs.Sets.{same_member-equal, same_member-refl}

pub joined-nothing : (f : Found) → joined f nothing ≡ f
joined-nothing nothing = refl
joined-nothing (one m) = refl
joined-nothing several = refl

abbrev two : Bool → Member → Found
two b m = if b then one m else several

two-several : (b : Bool) (m : Member) → joined (two b m) several ≡ several
two-several true m = refl
two-several false m = refl

both : (m n k : Member) → joined (joined (one m) (one n)) (one k) ≡ joined (one m) (joined (one n) (one k))
both m n k = bool_cases (λ b. same_member m n ≡ b → joined (two b m) (one k) ≡ joined (one m) (two (same_member n k) n)) (same_member m n)
    (λ _ e. let s : m ≡ n = same_member-equal m n e in
    bool_cases (λ b. same_member n k ≡ b → two (same_member m k) m ≡ joined (one m) (two b n)) (same_member n k)
    (λ _ h. let r : m ≡ k = s ∙ same_member-equal n k h in
    ap (λ (b : Bool). two b m) (subst (λ (j : Member). same_member m j ≡ true) r (same_member-refl m)) ∙ ap (λ (b : Bool). two b m) (sym e))
    (λ _ h. ap (λ (b : Bool). two b m) (subst (λ (j : Member). same_member j k ≡ false) (sym s) h)) refl)
    (λ _ e. bool_cases (λ b. several ≡ joined (one m) (two b n)) (same_member n k) (λ _. ap (λ (b : Bool). two b m) (sym e)) (λ _. refl)) refl

pub joined-assoc : (f g h : Found) → joined (joined f g) h ≡ joined f (joined g h)
joined-assoc nothing g h = refl
joined-assoc several g h = refl
joined-assoc (one m) nothing h = refl
joined-assoc (one m) several h = refl
joined-assoc (one m) (one n) nothing = joined-nothing (two (same_member m n) m)
joined-assoc (one m) (one n) several = two-several (same_member m n) m
joined-assoc (one m) (one n) (one k) = both m n k

turned : (m n : Member) → two (same_member m n) m ≡ two (same_member n m) n
turned m n = bool_cases (λ b. same_member m n ≡ b → two b m ≡ two (same_member n m) n) (same_member m n)
    (λ _ e. let s : m ≡ n = same_member-equal m n e in
    ap one s ∙ ap (λ (b : Bool). two b n) (sym (subst (λ (j : Member). same_member n j ≡ true) (sym s) (same_member-refl n))))
    (λ _ e. bool_cases (λ b. same_member n m ≡ b → several ≡ two b n) (same_member n m)
    (λ _ h. absurd (let s : n ≡ m = same_member-equal n m h in let r : same_member m n ≡ true = subst (λ (j : Member). same_member m j ≡ true) (sym s) (same_member-refl m) in cc))
    (λ _ _. refl) refl) refl

pub joined-comm : (f g : Found) → joined f g ≡ joined g f
joined-comm nothing g = sym (joined-nothing g)
joined-comm several nothing = refl
joined-comm several (one n) = refl
joined-comm several several = refl
joined-comm (one m) nothing = refl
joined-comm (one m) several = refl
joined-comm (one m) (one n) = turned m n

pub joined-same : (f : Found) → joined f f ≡ f
joined-same nothing = refl
joined-same several = refl
joined-same (one m) = ap (λ (b : Bool). two b m) (same_member-refl m)

-- what is found before others is found behind them
pub joined-past : (f g h : Found) → joined f (joined g h) ≡ joined g (joined f h)
joined-past f g h = sym (joined-assoc f g h) ∙ ap (λ (k : Found). joined k h) (joined-comm f g) ∙ joined-assoc g f h
