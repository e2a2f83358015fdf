-- Lists that grow by one for each of others.
use Rattle.std.proofs.Common.{◌≡◌, ℕ, ◌+◌, ◌<◌, ◌≤◌, List, [], ◌∷◌, ◌++◌, None, Some, length, map, drop, get_or, refl, sym, ◌∙◌, ap, add-one, drop-cons, arith}
use Rattle.std.proofs.lemmas.List.{append-nil}
use Rattle.std.proofs.Math.ListN.{drop_of_length-le}
use Rattle.std.specs.Prelude.{slice_get, suc}
use Rattle.name_lookup.proofs.Names.{drop-get, drop-past}

module _ {E D : Type 0} (show : E → D) where
  one-more : (es : List E) (e : E) (ds : List D) → map show (es ++ e ∷ []) ++ ds ≡ map show es ++ show e ∷ ds
  one-more [] e ds = refl
  one-more (d ∷ es) e ds = ap (λ k. show d ∷ k) (one-more es e ds)

  pub pushed : (es new : List E) (e : E) (ds : List D) → new ≡ es ++ e ∷ [] → map show new ++ ds ≡ map show es ++ show e ∷ ds
  pushed es new e ds is = ap (λ k. map show k ++ ds) is ∙ one-more es e ds

  pub all_shown : (es : List E) (whole : List D) → map show es ++ [] ≡ whole → map show es ≡ whole
  all_shown es whole left = sym (append-nil (map show es)) ∙ left

  -- each of those that are left is seen first in one way and then in another
  module _ {A B : Type 0} (f : B → D) (h : A → B) (items : List A) (i : ℕ) (es : List E) (whole : List D) where
    pub mapped_next : (new : List E) (e : E) (d : A) → new ≡ es ++ e ∷ [] → i < length items → show e ≡ f (h (get_or items i d)) →
        map show es ++ map f (map h (drop i items)) ≡ whole → map show new ++ map f (map h (drop (i + 1) items)) ≡ whole
    mapped_next new e d grown within same left =
        let next : drop i items ≡ get_or items i d ∷ drop (i + 1) items = rw (add-one, drop-cons items i d) refl in
        pushed es new e (map f (map h (drop (i + 1) items))) grown ∙ ap (λ k. map show es ++ k ∷ map f (map h (drop (i + 1) items))) same
        ∙ sym (ap (λ ks. map show es ++ map f (map h ks)) next) ∙ left

    pub mapped_end : length items ≤ i → map show es ++ map f (map h (drop i items)) ≡ whole → map show es ≡ whole
    mapped_end past left = all_shown es whole (sym (ap (λ ks. map show es ++ map f (map h ks)) (drop_of_length-le items past)) ∙ left)

  module _ {A : Type 0} (f : A → D) (items : List A) (i : ℕ) (es : List E) (whole : List D) (left : map show es ++ map f (drop i items) ≡ whole) where
    pub met_next : (new : List E) (e : E) (a : A) → new ≡ es ++ e ∷ [] → slice_get items i ≡ Some a → show e ≡ f a → map show new ++ map f (drop (i + 1) items) ≡ whole
    met_next new e a grown there same =
        pushed es new e (map f (drop (i + 1) items)) grown ∙ ap (λ k. map show es ++ k ∷ map f (drop (i + 1) items)) same
        ∙ sym (ap (λ ks. map show es ++ map f ks) (drop-get items i a there)) ∙ left

    pub met_end : slice_get items i ≡ None → map show es ≡ whole
    met_end none = all_shown es whole (sym (ap (λ ks. map show es ++ map f ks) (drop-past items i none)) ∙ left)
