-- The classes round a class of a source are there, and it isn't round itself (JLS 8.1.3).
use Rattle.std.proofs.Common.{◌≡◌, ℕ, zero, suc, ◌<◌, ◌≤◌, List, [], ◌∷◌, length, Option, Some, None, refl, sym, ap, ◌∙◌, subst, arith}
use Rattle.std.specs.Prelude.{Bool, true, false, ◌||◌, is_some, nat_eq, option_map, if◌then◌else◌}
use Rattle.std.proofs.lemmas.Bool.Decides.{nat_tests}
use Rattle.std.proofs.lemmas.Option.{none-some, same_Some, slice_get_within}
use Rattle.je_core.specs.declared.types.ClassId.{ClassId}
use Rattle.je_core.specs.Core.{CoreClass, CoreProgram}
use Rattle.je_classes.specs.Hierarchy.{class_at}
use Rattle.je_classes.specs.Members.{In, first, further}
use Rattle.je_fitting.specs.Classes.{by_next, is_round}
use Rattle.je_scopes.specs.Headers.{innermost, outermost, site_at, top_of, within}
use Rattle.je_scopes.specs.Source.{Source}
use Rattle.source_types.specs.Erasure.{class_numbered}
use Rattle.name_typing.specs.Instances.{is_instance}
use Rattle.fitting_laws.specs.Represented.{IsThere}
use Rattle.class_typing.specs.Programs.{enclosing, library_count, plain_program}
use Rattle.elaborated_laws.specs.Elaborated.{IsElaborated}
use Rattle.elaborated_laws.proofs.Lists.{placed}
use Rattle.program_laws.specs.Premises.{SourceIsSound}

none-round : (program : CoreProgram) (n : ℕ) (class : ClassId) → is_round program n class None ≡ false
none-round program zero class = refl
none-round program (suc n) class = refl

outermost-has : (P : ℕ → Type 0) (c : ℕ) (ds : List ℕ) → P c → ((d : ℕ) → In ds d → P d) → P (outermost c ds)
outermost-has P c [] h f = h
outermost-has P c (d ∷ ds) h f = outermost-has P d ds (f d first) (λ x q. f x (further q))

innermost-in : (ds : List ℕ) (d : ℕ) → innermost ds ≡ Some d → In ds d
innermost-in [] d h = absurd (none-some d h)
innermost-in (x ∷ ds) d h = subst (In (x ∷ ds)) (same_Some x d h) first

module _ (source : Source) (program : CoreProgram) (e : IsElaborated source program) (sound : SourceIsSound source program e)
    (c : ℕ) (class : CoreClass) (le : library_count source ≤ c) (there : class_at program (class_numbered c) ≡ Some class) where
  -- ---- classes of a source before another one

  before-there : (d : ℕ) → d ≤ c → IsThere program d
  before-there d few =
      let l = slice_get_within program.classes c class there in
      ap is_some (placed program.classes d (omega (arith, few, l))).is

  round-there : (d : ℕ) → In (site_at source.sites c).spot.round d → IsThere program d
  round-there d q = let s = sound.sites.rounds c d le q in before-there d (omega (arith, s.1))

  within-is : (d : ℕ) (k : CoreClass) → library_count source ≤ d → class_at program (class_numbered d) ≡ Some k →
      k.within ≡ option_map class_numbered (within (site_at source.sites d))
  unfolding plain_program
  within-is d k guest h = ap (λ (x : CoreClass). x.within) (e.has.guests d k guest h).is

  enclosing-is : class.enclosing ≡ option_map class_numbered (enclosing source c)
  unfolding plain_program
  enclosing-is = ap (λ (x : CoreClass). x.enclosing) (e.has.guests c class le there).is

  top-is : class.top ≡ class_numbered (top_of source.sites c)
  unfolding plain_program
  top-is = ap (λ (x : CoreClass). x.top) (e.has.guests c class le there).is

  -- ---- what a header names

  numbered-there : (o : Option ℕ) → ((d : ℕ) → o ≡ Some d → IsThere program d) → (d : ClassId) →
      option_map class_numbered o ≡ Some d → is_some (class_at program d) ≡ true
  numbered-there None f d h = absurd (none-some d h)
  numbered-there (Some x) f d h = subst (λ k. is_some (class_at program k) ≡ true) (same_Some (class_numbered x) d h) (f x refl)

  within-there : (d : ℕ) → within (site_at source.sites c) ≡ Some d → IsThere program d
  within-there d h = round-there d (innermost-in (site_at source.sites c).spot.round d h)

  pub round-classes : (d : ClassId) → class.within ≡ Some d → is_some (class_at program d) ≡ true
  round-classes d h =
      numbered-there (within (site_at source.sites c)) within-there d (sym (within-is c class le there) ∙ h)

  pub outer-class : (d : ClassId) → class.enclosing ≡ Some d → is_some (class_at program d) ≡ true
  outer-class d h = numbered-there (enclosing source c) (by (is_instance (site_at source.sites c).spot.context)) d
      (sym enclosing-is ∙ h)
    where
      by : (b : Bool) (x : ℕ) → (if b then within (site_at source.sites c) else None) ≡ Some x → IsThere program x
      by true x k = within-there x k
      by false x k = absurd (none-some x k)

  pub top-class : is_some (class_at program class.top) ≡ true
  top-class = subst (λ k. is_some (class_at program k) ≡ true) (sym top-is)
      (outermost-has (IsThere program) c (site_at source.sites c).spot.round (ap is_some there) round-there)

  -- ---- ways outwards

  lower : (d : ℕ) → d < c → nat_eq c d ≡ false
  lower d l = grind (arith, nat_tests)

  outwards : (n : ℕ) (o : Option ℕ) → ((x : ℕ) → o ≡ Some x → is_round program n (class_numbered c) (Some (class_numbered x)) ≡ false) →
      is_round program n (class_numbered c) (option_map class_numbered o) ≡ false
  outwards n None f = none-round program n (class_numbered c)
  outwards n (Some x) f = f x refl

  not-round : (n d : ℕ) → library_count source ≤ d → d < c → is_round program n (class_numbered c) (Some (class_numbered d)) ≡ false
  not-round zero d guest l = lower d l
  not-round (suc n) d guest l =
      let few = slice_get_within program.classes c class there in
      let k = placed program.classes d (omega (arith, l, few)) in
      ap (λ b. b || by_next (is_round program n (class_numbered c)) (class_at program (class_numbered d))) (lower d l)
      ∙ ap (by_next (is_round program n (class_numbered c))) k.is
      ∙ ap (is_round program n (class_numbered c)) (within-is d k.element guest k.is)
      ∙ outwards n (within (site_at source.sites d)) (λ x h.
      let s = sound.sites.rounds d x guest (innermost-in (site_at source.sites d).spot.round x h) in
      not-round n x s.0 (omega (arith, s.1, l)))

  pub not-round-itself : is_round program (length program.classes) (class_numbered c) class.within ≡ false
  not-round-itself =
      let n = length program.classes in
      ap (is_round program n (class_numbered c)) (within-is c class le there)
      ∙ outwards n (within (site_at source.sites c)) (λ x h.
      let s = sound.sites.rounds c x le (innermost-in (site_at source.sites c).spot.round x h) in not-round n x s.0 s.1)
