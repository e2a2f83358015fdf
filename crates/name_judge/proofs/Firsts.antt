-- The first fault of a program, by the faults that were found.
use Rattle.std.proofs.Common.{◌≡◌, ℕ, ◌+◌, List, [], ◌∷◌, ◌++◌, None, refl, sym, ◌∙◌, ap, subst, add-one}
use Rattle.std.specs.Prelude.{Bool, true, false, filter}
use Rattle.std.specs.List.{flat_map}
use Rattle.std.proofs.lemmas.List.{append-nil}
use Rattle.std.proofs.lemmas.List.Elements.{filter-append}
use Rattle.std.proofs.lemmas.Grind.{flat_map-append}
use Rattle.je_scopes.specs.Source.{Source}
use Rattle.je_scopes.specs.Headers.{is_guest, site_at}
use Rattle.je_scopes.specs.Faults.{Fault, below, faults, first_fault, guests, least, of_class, of_imports}
use Rattle.name_faults.specs.declared.faults.Faults.{Faults}
use Rattle.name_faults.specs.View.{Adds, earliest, first_of}
use Rattle.name_faults.proofs.Left.{adds_both, adds_none}

module _ (p : Source) where
  -- all faults were found, and none before them
  pub first_is : (none one two : Faults) → first_of none ≡ None → Adds none one (flat_map (of_imports p.texts []) p.imports) → Adds one two (flat_map (of_class p) (guests p)) → first_of two ≡ first_fault p
  unfolding faults first_fault
  first_is none one two n s t = (adds_both _ _ s t).first ∙ ap (λ o. earliest o (least (faults p))) n

  -- ---- class by class

  abbrev pub is_declared : ℕ → Bool
  is_declared c = is_guest (site_at p.sites c).written

  abbrev pub guests_below : ℕ → List ℕ
  guests_below n = filter is_declared (below n)

  guests-more : (n : ℕ) → guests_below (n + 1) ≡ guests_below n ++ filter is_declared (n ∷ [])
  guests-more n = ap guests_below (add-one n) ∙ filter-append is_declared (below n) (n ∷ [])

  one-more : (n : ℕ) → is_declared n ≡ true → flat_map (of_class p) (guests_below (n + 1)) ≡ flat_map (of_class p) (guests_below n) ++ of_class p n
  one-more n e =
      let one : filter is_declared (n ∷ []) ≡ n ∷ [] = rw e refl in
      ap (flat_map (of_class p)) (guests-more n ∙ ap (λ (ns : List ℕ). guests_below n ++ ns) one)
      ∙ flat_map-append (of_class p) (guests_below n) (n ∷ [])
      ∙ ap (λ (fs : List Fault). flat_map (of_class p) (guests_below n) ++ fs) (append-nil (of_class p n))

  pub none_judged : (a : Faults) → Adds a a (flat_map (of_class p) (guests_below 0))
  none_judged a = adds_none a

  pub guest_judged : {start a b : Faults} (n : ℕ) → is_declared n ≡ true → Adds start a (flat_map (of_class p) (guests_below n)) → Adds a b (of_class p n) → Adds start b (flat_map (of_class p) (guests_below (n + 1)))
  guest_judged {start = start} {b = b} n e s t = subst (λ (fs : List Fault). Adds start b fs) (sym (one-more n e)) (adds_both _ _ s t)

  pub other_passed : {start a : Faults} (n : ℕ) → is_declared n ≡ false → Adds start a (flat_map (of_class p) (guests_below n)) → Adds start a (flat_map (of_class p) (guests_below (n + 1)))
  other_passed {start = start} {a = a} n e s =
      let none : filter is_declared (n ∷ []) ≡ [] = rw e refl in
      subst (λ (ns : List ℕ). Adds start a (flat_map (of_class p) ns)) (sym (guests-more n ∙ ap (λ (ns : List ℕ). guests_below n ++ ns) none ∙ append-nil (guests_below n))) s
