-- Whether a class's binary name stands earlier, by the numbers of the names.
use Rattle.std.proofs.Common.{◌≡◌, ℕ, zero, suc, ◌+◌, ◌<◌, ◌≤◌, Bool, true, false, nat_eq, cond, List, [], ◌∷◌, ◌++◌, length, get_or, take, refl, sym, ap, subst, ◌∙◌, arith}
use Rattle.std.specs.Prelude.{◌||◌, Some, slice_get}
use Rattle.std.specs.List.{list_any, IsDistinct}
use Rattle.std.specs.Str.{bytes_eq}
use Rattle.std.proofs.Math.Seq.{take-suc}
use Rattle.std.proofs.lemmas.Bool.Decides.{same_from_decides, Decides-like, Decides-eqb}
use Rattle.std.proofs.lemmas.List.{take_more}
use Rattle.std.proofs.lemmas.List.Folds.{list_any-append}
use Rattle.std.proofs.lemmas.Slice.Eq.{bytes_eq-Decides}
use Rattle.je_scopes.specs.Source.{Source}
use Rattle.je_scopes.specs.BinaryNames.{binary_name}
use Rattle.je_scopes.specs.Faults.{below}
use Rattle.je_scopes.proofs.Either.{by_either, nat_split}
use Rattle.name_walk.proofs.Standing.{slice_get-append, slice_get-seam}
use Rattle.binary_names.specs.declared.texts.Texts.{Texts}
use Rattle.binary_names.specs.Names.{AreNamed}
use Rattle.binary_names.specs.Steps.{same_step}
use Rattle.binary_names.specs.Texts.{IsText}
use Rattle.binary_names.proofs.Spelling.{same_number, same_text}
use Rattle.binary_names.proofs.Tests.{nat_eq-flip}

or-flip : (b c : Bool) → cond b true c ≡ (c || (b || false))
or-flip true true = refl
or-flip true false = refl
or-flip false true = refl
or-flip false false = refl

module _ (p : Source) (texts : Texts) (names : List ℕ) (once : IsDistinct same_step texts.steps.keys) (are : AreNamed p texts names) where
  same-name : (c d : ℕ) → c < length names → d < length names → nat_eq (get_or names c 0) (get_or names d 0) ≡ bytes_eq (binary_name p d) (binary_name p c)
  unfolding AreNamed IsText
  same-name c d h l = same_from_decides (nat_eq (get_or names c 0) (get_or names d 0)) (bytes_eq (binary_name p d) (binary_name p c))
      (Decides-like (nat_eq (get_or names c 0) (get_or names d 0))
      (λ e. same_text texts.steps.keys (get_or names d 0) (get_or names c 0) (binary_name p d) (binary_name p c) (are d l) (are c h) (sym e))
      (λ e. sym (same_number texts.steps.keys once (get_or names d 0) (get_or names c 0) (binary_name p d) (binary_name p c) (are d l) (are c h) e))
      (Decides-eqb (get_or names c 0) (get_or names d 0)))
      (bytes_eq-Decides (binary_name p d) (binary_name p c))

  -- up to a class of a number
  upto : (c k : ℕ) → c < length names → k ≤ c → list_any (nat_eq (get_or names c 0)) (take k names) ≡ list_any (λ d. bytes_eq (binary_name p d) (binary_name p c)) (below k)
  upto c zero h l = refl
  upto c (suc k) h l =
      ap (list_any (nat_eq (get_or names c 0))) (take-suc names k 0 (omega arith))
      ∙ list_any-append (nat_eq (get_or names c 0)) (take k names) (get_or names k 0 ∷ [])
      ∙ (λ i. upto c k h (omega arith) i || (same-name c k h (omega arith) i || false))
      ∙ sym (list_any-append (λ d. bytes_eq (binary_name p d) (binary_name p c)) (below k) (k ∷ []))

  pub same_flag : (c : ℕ) → c < length names → list_any (nat_eq (get_or names c 0)) (take c names) ≡ list_any (λ d. bytes_eq (binary_name p d) (binary_name p c)) (below c)
  same_flag c h = upto c c h (omega arith)

-- ---- what was seen

-- the numbers that were seen, and one more
pub seen_more : (old new : ℕ → Bool) (numbers : List ℕ) (i v : ℕ) → i < length numbers → v ≡ get_or numbers i 0
    → ((n : ℕ) → new n ≡ cond (nat_eq v n) true (old n)) → ((n : ℕ) → old n ≡ list_any (nat_eq n) (take i numbers))
    → (n : ℕ) → new n ≡ list_any (nat_eq n) (take (i + 1) numbers)
seen_more old new numbers i v h e more seen n = more n ∙ or-flip (nat_eq v n) (old n)
    ∙ (λ j. seen n j || ((nat_eq-flip v n ∙ ap (nat_eq n) e) j || false))
    ∙ sym (list_any-append (nat_eq n) (take i numbers) (get_or numbers i 0 ∷ [])) ∙ ap (list_any (nat_eq n)) (sym (take_more numbers i 0 h))

-- the flags so far, and one more
pub flags_more : (flags : List Bool) (numbers : List ℕ) (i : ℕ) (b : Bool) → length flags ≡ i → b ≡ list_any (nat_eq (get_or numbers i 0)) (take i numbers)
    → ((c : ℕ) → c < i → slice_get flags c ≡ Some (list_any (nat_eq (get_or numbers c 0)) (take c numbers)))
    → (c : ℕ) → c < i + 1 → slice_get (flags ++ b ∷ []) c ≡ Some (list_any (nat_eq (get_or numbers c 0)) (take c numbers))
flags_more flags numbers i b e f h c l = by_either
    (λ s. subst (λ (k : ℕ). slice_get (flags ++ b ∷ []) k ≡ Some (list_any (nat_eq (get_or numbers k 0)) (take k numbers))) (sym s)
    (ap (slice_get (flags ++ b ∷ [])) (sym e) ∙ slice_get-seam flags b [] ∙ ap Some f))
    (λ s. slice_get-append flags (b ∷ []) c (omega (arith, e, s)) ∙ h c s)
    (nat_split c i (omega (arith, l)))
