-- From an instance outwards, body by body.
use Rattle.std.proofs.Common.{◌≡◌, ℕ, zero, suc, ◌+◌, ◌-◌, ◌<◌, List, [], ◌∷◌, Some, None, drop, map, refl, sym, ap, ◌∙◌, arith}
use Rattle.std.specs.Prelude.{slice_get}
use Rattle.je_base.specs.declared.span.Span.{Span}
use Rattle.je_core.specs.Core.{Core, Field, node}
use Rattle.source_types.specs.Erasure.{class_numbered}
use Rattle.name_lookup.proofs.Names.{drop-get, drop-past}
use Rattle.name_typing.specs.Instances.{outwards_from, ty_of_class}
use Rattle.name_typing.specs.Program as words
use Rattle.body_places.specs.declared.place.Frame.{Frame}
use Rattle.body_places.specs.Places.{frame_seen}

module _ (p : words.Program) (at : Span) where
  -- the field of an instance of a class that keeps the one round it, of the next class
  abbrev pub outer_field : Core → ℕ → ℕ → Core
  outer_field object c d = node (Field object (class_numbered c) (p.outer c)) (ty_of_class d) at at

  none-round : (object : Core) (c n : ℕ) → outwards_from p at object c n [] ≡ object
  none-round object c zero = refl
  none-round object c (suc n) = refl

  pub outermost : (object : Core) (c n : ℕ) (fs : List Frame) (i : ℕ) (r : Core) → slice_get fs i ≡ None →
      outwards_from p at object c n (map frame_seen (drop i fs)) ≡ r → object ≡ r
  outermost object c n fs i r e h =
      sym (none-round object c n) ∙ ap (λ (gs : List Frame). outwards_from p at object c n (map frame_seen gs)) (sym (drop-past fs i e)) ∙ h

  next : (object : Core) (c n : ℕ) (f : words.Frame) (fs : List words.Frame) → 0 < n →
      outwards_from p at (outer_field object c f.class) f.class (n - 1) fs ≡ outwards_from p at object c n (f ∷ fs)
  next object c zero f fs l = absurd (omega arith)
  next object c (suc n) f fs l =
      let less : suc n - 1 ≡ n = omega arith in
      ap (λ (k : ℕ). outwards_from p at (outer_field object c f.class) f.class k fs) less

  pub one_outwards : (object further : Core) (c n m : ℕ) (f : Frame) (fs : List Frame) (i : ℕ) (r : Core) → slice_get fs i ≡ Some f → 0 < n → m ≡ n - 1 →
      further ≡ outer_field object c f.class.0 → outwards_from p at object c n (map frame_seen (drop i fs)) ≡ r →
      outwards_from p at further f.class.0 m (map frame_seen (drop (i + 1) fs)) ≡ r
  one_outwards object further c n m f fs i r e l k o h =
      ap (λ (x : Core). outwards_from p at x f.class.0 m (map frame_seen (drop (i + 1) fs))) o
      ∙ ap (λ (x : ℕ). outwards_from p at (outer_field object c f.class.0) f.class.0 x (map frame_seen (drop (i + 1) fs))) k
      ∙ next object c n (frame_seen f) (map frame_seen (drop (i + 1) fs)) l
      ∙ ap (λ (gs : List Frame). outwards_from p at object c n (map frame_seen gs)) (sym (drop-get fs i f e)) ∙ h
