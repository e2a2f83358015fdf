-- Names that are interned one after another: who has a number keeps it.
use Rattle.std.proofs.Common.{◌≡◌, ℕ, ◌+◌, ◌<◌, ◌≤◌, List, [], ◌∷◌, ◌++◌, length, take, Option, Some, None, Bool, true, false, if◌then◌else◌, refl, sym, ap, ◌∙◌, subst, arith, length-append}
use Rattle.std.specs.Prelude.{slice_get, option_map}
use Rattle.std.specs.Str.{bytes_eq}
use Rattle.std.proofs.lemmas.List.{take_more}
use Rattle.std.proofs.lemmas.Option.{slice_get_within, get_or_from_slice_get, slice_get-get_or}
use Rattle.std.proofs.lemmas.Slice.Eq.{bytes_eq-Decides}
use Rattle.je_base.proofs.Numbering.{place-push}
use Rattle.je_base.specs.declared.span.NameId.{NameId}
use Rattle.je_base.specs.Names.{place_of, name_at, number_of, interned, interned_by}
use Rattle.source_units.specs.Files.{FileTokens}
use Rattle.source_units.specs.Names.{all_interned, names_with, HasNumber, AreNumbers}
use Rattle.source_units.proofs.Zips.{zip_push, zip_weaker}

number_kept : (names : List (List ℕ)) (text q : List ℕ) (id : NameId) → HasNumber names q id → HasNumber (interned names text) q id
number_kept names text q id h = by (place_of names text) refl
  where
    pushed : place_of names text ≡ None → (b : Bool) → bytes_eq text q ≡ b → number_of (names ++ text ∷ []) q ≡ Some id
    pushed absent true same =
        let equal : text ≡ q = (bytes_eq-Decides text q).0 same in
        let none : place_of names q ≡ None = subst (λ t. place_of names t ≡ None) equal absent in
        let wrong : option_map name_at None ≡ Some id = subst (λ o. option_map name_at o ≡ Some id) none h in
        absurd (cc)
    pushed absent false other =
        let step : place_of (names ++ text ∷ []) q ≡ place_of names q =
        place-push names text q absent ∙ ap (λ b. if b then Some (length names) else place_of names q) other in
        subst (λ o. option_map name_at o ≡ Some id) (sym step) h

    by : (o : Option ℕ) → place_of names text ≡ o → number_of (interned_by o names text) q ≡ Some id
    by (Some n) there = h
    by None absent = pushed absent (bytes_eq text q) refl

pub number_kept_by_all : (texts names : List (List ℕ)) (q : List ℕ) (id : NameId) → HasNumber names q id → HasNumber (all_interned names texts) q id
number_kept_by_all [] names q id h = h
number_kept_by_all (t ∷ ts) names q id h = number_kept_by_all ts (interned names t) q id (number_kept names t q id h)

pub all_interned_push : (texts names : List (List ℕ)) (t : List ℕ) → all_interned names (texts ++ t ∷ []) ≡ interned (all_interned names texts) t
all_interned_push [] names t = refl
all_interned_push (x ∷ xs) names t = all_interned_push xs (interned names x) t

pub names_with_push : (fs : List FileTokens) (names : List (List ℕ)) (f : FileTokens) → names_with names (fs ++ f ∷ []) ≡ all_interned (names_with names fs) f.names
names_with_push [] names f = refl
names_with_push (g ∷ fs) names f = names_with_push fs (all_interned names g.names) f

pub length_interned : (names : List (List ℕ)) (text : List ℕ) → length (interned names text) ≤ length names + 1
length_interned names text = by (place_of names text)
  where
    by : (o : Option ℕ) → length (interned_by o names text) ≤ length names + 1
    by None = omega (arith, length-append names (text ∷ []))
    by (Some n) = omega arith

-- So many of a file's own names have their numbers.
pub record IsNumbering (old own names : List (List ℕ)) (at : ℕ) (numbers : List NameId) : Type 0 where
  pub names_are : names ≡ all_interned old (take at own)
  pub numbered : AreNumbers names (take at own) numbers

pub begins : (old own : List (List ℕ)) → IsNumbering old own old 0 []
begins old own = record { names_are = refl; numbered = tt }

pub goes_on : (old own names : List (List ℕ)) (at : ℕ) (text : List ℕ) (numbers : List NameId) (id : NameId) → slice_get own at ≡ Some text →
    number_of (interned names text) text ≡ Some id → IsNumbering old own names at numbers → IsNumbering old own (interned names text) (at + 1) (numbers ++ id ∷ [])
goes_on old own names at text numbers id is found h =
    let in_range = slice_get_within own at text is in
    let next : take (at + 1) own ≡ take at own ++ text ∷ [] =
    take_more own at text in_range ∙ ap (λ t. take at own ++ t ∷ []) (get_or_from_slice_get own at text text is) in
    let kept = zip_weaker (HasNumber names) (HasNumber (interned names text)) (number_kept names text) (take at own) numbers h.numbered in
    record {
      names_are = ap (λ ns. interned ns text) h.names_are ∙ sym (ap (all_interned old) next ∙ all_interned_push (take at own) old text);
      numbered = subst (λ ts. AreNumbers (interned names text) ts (numbers ++ id ∷ [])) (sym next)
          (zip_push (HasNumber (interned names text)) (take at own) numbers text id kept found);
    }

-- a place in the names has a text
pub is_there : (own : List (List ℕ)) (at : ℕ) → at < length own → None ≡ slice_get own at → ⊥
is_there own at less absent =
    let found = slice_get-get_or own at [] less in absurd (cc)

pub goes_on_few : (old own names : List (List ℕ)) (at : ℕ) (text : List ℕ) → length names ≤ length old + at → length (interned names text) ≤ length old + (at + 1)
goes_on_few old own names at text few = omega (arith, length_interned names text)
