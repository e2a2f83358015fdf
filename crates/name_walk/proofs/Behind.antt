-- The sites of classes that are pushed one by one.
use Rattle.std.proofs.Common.{◌≡◌, ℕ, zero, suc, ◌+◌, ◌<◌, List, [], ◌∷◌, ◌++◌, length, ◌⊎◌, inl, inr, Option, Some, None, refl, subst, ◌∙◌, sym, ap, arith, length-append, append_assoc}
use Rattle.std.specs.Prelude.{slice_get}
use Rattle.std.proofs.lemmas.List.{append-nil}
use Rattle.std.proofs.lemmas.Option.{slice_get_within, slice_get_past}
use Rattle.je_scopes.specs.Sites.{Site}
use Rattle.name_walk.specs.declared.site.ClassSite.{ClassSite}
use Rattle.name_walk.specs.View.{site_from, sites_from, sites_of, IsAmong, NameEarlier}

length-sites_from : (before : List Site) (cs : List ClassSite) → length (sites_from before cs) ≡ length cs
length-sites_from before [] = refl
length-sites_from before (c ∷ cs) = ap suc (length-sites_from (before ++ site_from before c ∷ []) cs)

pub count_of_sites : (cs : List ClassSite) → length (sites_of cs) ≡ length cs
unfolding sites_of
count_of_sites cs = length-sites_from [] cs

sites_from-push : (before : List Site) (cs : List ClassSite) (c : ClassSite) → sites_from before (cs ++ c ∷ []) ≡ sites_from before cs ++ site_from (before ++ sites_from before cs) c ∷ []
sites_from-push before [] c = ap (λ b. site_from b c ∷ []) (sym (append-nil before))
sites_from-push before (b ∷ cs) c =
    ap (λ r. site_from before b ∷ r)
    (sites_from-push (before ++ site_from before b ∷ []) cs c
    ∙ ap (λ x. sites_from (before ++ site_from before b ∷ []) cs ++ site_from x c ∷ []) (append_assoc before (site_from before b ∷ []) (sites_from (before ++ site_from before b ∷ []) cs)))

pub sites_pushed : (cs : List ClassSite) (c : ClassSite) → sites_of (cs ++ c ∷ []) ≡ sites_of cs ++ site_from (sites_of cs) c ∷ []
unfolding sites_of
sites_pushed cs c = sites_from-push [] cs c

slice_get_pushed : {A : Type 0} → (xs : List A) (y : A) (n : ℕ) (x : A) → slice_get (xs ++ y ∷ []) n ≡ Some x → (slice_get xs n ≡ Some x) ⊎ ((n ≡ length xs) × (x ≡ y))
slice_get_pushed [] y zero x e = inr (refl, cc e)
slice_get_pushed [] y (suc n) x e = absurd (cc e)
slice_get_pushed (b ∷ xs) y zero x e = inl e
slice_get_pushed (b ∷ xs) y (suc n) x e = further (slice_get_pushed xs y n x e)
  where
    further : (slice_get xs n ≡ Some x) ⊎ ((n ≡ length xs) × (x ≡ y)) → (slice_get xs n ≡ Some x) ⊎ ((suc n ≡ suc (length xs)) × (x ≡ y))
    further (inl h) = inl h
    further (inr h) = inr (ap suc h.0, h.1)

pub earlier_pushed : (cs : List ClassSite) (c : ClassSite) → NameEarlier cs → IsAmong (length cs) c.spot → NameEarlier (cs ++ c ∷ [])
earlier_pushed cs c earlier among n x e = of (slice_get_pushed cs c n x e)
  where
    of : (slice_get cs n ≡ Some x) ⊎ ((n ≡ length cs) × (x ≡ c)) → IsAmong n x.spot
    of (inl h) = earlier n x h
    of (inr h) = rw (h.0, h.1) among
