-- Binary names by those of the classes round them.
use Rattle.std.proofs.Common.{◌≡◌, ℕ, List, [], ◌∷◌, ◌++◌, length, get_or, refl, sym, ap, subst, ◌∙◌, arith, length-append}
use Rattle.std.specs.Prelude.{codes}
use Rattle.std.proofs.lemmas.List.{get_or_append_left, get_or_push}
use Rattle.je_scopes.specs.Headers.{site_at}
use Rattle.je_scopes.specs.Source.{Source}
use Rattle.je_scopes.specs.BinaryNames.{binary_name, binary_text, number_text, simple_text}
use Rattle.je_scopes.proofs.Either.{by_either, nat_split}
use Rattle.binary_names.specs.declared.texts.Texts.{Texts}
use Rattle.binary_names.specs.Names.{AreNamed}
use Rattle.binary_names.specs.Steps.{empty}
use Rattle.binary_names.specs.Texts.{IsText, Stays}

pub top_name : (p : Source) (c : ℕ) → (site_at p.sites c).spot.round ≡ [] → simple_text p c ≡ binary_name p c
top_name p c e = ap (binary_text p c) (sym e)

pub inner_name : (p : Source) (c d : ℕ) → (site_at p.sites c).spot.round ≡ d ∷ (site_at p.sites d).spot.round
    → binary_name p d ++ codes "$" ++ number_text p c ++ simple_text p c ≡ binary_name p c
inner_name p c d e = ap (binary_text p c) (sym e)

pub none_named : (p : Source) (texts : Texts) → AreNamed p texts []
unfolding AreNamed
none_named p texts = λ c h. absurd (omega arith)

-- the names of one class more
pub one_more : (p : Source) (old new : Texts) (names : List ℕ) (name : ℕ) → AreNamed p old names → Stays old new → IsText new name (binary_name p (length names)) → AreNamed p new (names ++ name ∷ [])
unfolding AreNamed Stays
one_more p old new names name are stays is = λ c h.
    let n = length-append names (name ∷ []) in
    by_either
    (λ e. subst (λ (k : ℕ). IsText new (get_or (names ++ name ∷ []) k 0) (binary_name p k)) (sym e) (subst (λ (k : ℕ). IsText new k (binary_name p (length names))) (sym (get_or_push names name 0 (length names) refl)) is))
    (λ l. subst (λ (k : ℕ). IsText new k (binary_name p c)) (sym (get_or_append_left names (name ∷ []) 0 c l)) (stays (get_or names c 0) (binary_name p c) (are c l)))
    (nat_split c (length names) (omega (arith, n, h)))

-- ---- the number of a binary name, step by step

module _ (p : Source) (c : ℕ) (simple : List ℕ) (is : simple ≡ simple_text p c) where
  pub top_named : (old new : Texts) (n : ℕ) → (site_at p.sites c).spot.round ≡ [] → ((t : List ℕ) → IsText old 0 t → IsText new n (t ++ simple)) → IsText new n (binary_name p c)
  unfolding IsText
  top_named old new n round named = subst (IsText new n) (is ∙ top_name p c round) (named [] (empty refl refl))

  pub inner_named : (d : ℕ) (start outer numbered whole : Texts) (i j k n : ℕ) → (site_at p.sites c).spot.round ≡ d ∷ (site_at p.sites d).spot.round → IsText start i (binary_name p d)
      → ((t : List ℕ) → IsText start i t → IsText outer j (t ++ codes "$")) → ((t : List ℕ) → IsText outer j t → IsText numbered k (t ++ number_text p c))
      → ((t : List ℕ) → IsText numbered k t → IsText whole n (t ++ simple)) → IsText whole n (binary_name p c)
  inner_named d start outer numbered whole i j k n round at first second third =
      subst (IsText whole n) (ap (λ (s : List ℕ). binary_name p d ++ codes "$" ++ number_text p c ++ s) is ∙ inner_name p c d round)
      (third (binary_name p d ++ codes "$" ++ number_text p c) (second (binary_name p d ++ codes "$") (first (binary_name p d) at)))

pub stays_on : (a b c d : Texts) → Stays a b → Stays b c → Stays c d → Stays a d
unfolding Stays
stays_on a b c d f g h n t k = h n t (g n t (f n t k))
