-- What a new object gets, class by class upwards.
use Rattle.std.proofs.Common.{◌≡◌, ℕ, zero, suc, ◌-◌, ◌<◌, ◌≤◌, List, [], ◌∷◌, ◌++◌, length, get_or, map, Option, Some, None, refl, sym, ap, ◌∙◌, append_assoc, arith}
use Rattle.je_core.specs.declared.types.ClassId.{ClassId}
use Rattle.je_core.specs.Core.{CoreCapture}
use Rattle.je_scopes.specs.SourceTypes.{SourceType, plain, of_class, of_variable}
use Rattle.header_typing.specs.Supers.{class_in}
use Rattle.name_types.specs.declared.types.SrcTy.{SrcTy}
use Rattle.name_types.specs.View.{shown}
use Rattle.name_typing.specs.Program.{Frame, Place, Program}
use Rattle.class_typing.specs.Captures.{captures_upwards, first_class, own_captures, superclass}
use Rattle.class_typing.specs.Programs.{CapturedLocal}
use Rattle.core_making.specs.way.Upwards.{Above, captures_of, guest_if, upwards, way_above}

module _ (p : Program) (captured : ℕ → List CapturedLocal) (round_of : ℕ → List Frame) where
  pub class_by_class : (place : Place) (n : ℕ) (o : Option ℕ) (way : List (ClassId × ℕ)) →
      captures_of p captured round_of place (upwards p captured round_of n o way) ≡ captures_upwards p captured round_of n place o way
  class_by_class place n None way = refl
  class_by_class place zero (Some c) way = refl
  class_by_class place (suc n) (Some c) way = by (superclass p captured round_of c) refl (λ o w. class_by_class place n o w)
    where
      by : (o : Option ℕ) → superclass p captured round_of c ≡ o →
          ((o : Option ℕ) (w : List (ClassId × ℕ)) →
          captures_of p captured round_of place (upwards p captured round_of n o w) ≡ captures_upwards p captured round_of n place o w) →
          captures_of p captured round_of place (upwards p captured round_of (suc n) (Some c) way)
          ≡ captures_upwards p captured round_of (suc n) place (Some c) way
      by None e h = rw e refl
      by (Some d) e h = rw e (ap (λ cs. cs ++ own_captures p captured round_of place c way) (h (Some d) _))

  -- ---- the classes upwards, one at a time

  nothing-behind : (xs : List Above) → xs ++ [] ≡ xs
  nothing-behind [] = refl
  nothing-behind (x ∷ xs) = ap (λ ys. x ∷ ys) (nothing-behind xs)

  no-class : (n : ℕ) (way : List (ClassId × ℕ)) → upwards p captured round_of n None way ≡ []
  no-class zero way = refl
  no-class (suc n) way = refl

  no-step : (o : Option ℕ) (way : List (ClassId × ℕ)) → upwards p captured round_of 0 o way ≡ []
  no-step None way = refl
  no-step (Some c) way = refl

  pub none_above : (all r : List Above) (n : ℕ) (way : List (ClassId × ℕ)) → all ++ upwards p captured round_of n None way ≡ r → all ≡ r
  none_above all r n way h = sym (nothing-behind all) ∙ ap (λ xs. all ++ xs) (sym (no-class n way)) ∙ h

  pub no_steps : (all r : List Above) (n : ℕ) (o : Option ℕ) (way : List (ClassId × ℕ)) → n ≡ 0 → all ++ upwards p captured round_of n o way ≡ r → all ≡ r
  no_steps all r n o way e h =
      sym (nothing-behind all) ∙ ap (λ xs. all ++ xs) (sym (no-step o way)) ∙ ap (λ k. all ++ upwards p captured round_of k o way) (sym e) ∙ h

  abbrev above : ℕ → List (ClassId × ℕ) → Above
  above c way = record { class = c; way = way }

  one-step : (n c : ℕ) (way : List (ClassId × ℕ)) → 0 < n → upwards p captured round_of n (Some c) way
      ≡ above c way ∷ upwards p captured round_of (n - 1) (superclass p captured round_of c) (way ++ way_above p captured round_of c (superclass p captured round_of c))
  one-step zero c way l = absurd (omega arith)
  one-step (suc n) c way l =
      let s : n ≡ suc n - 1 = omega arith in
      ap (λ k. above c way ∷ upwards p captured round_of k (superclass p captured round_of c) (way ++ way_above p captured round_of c (superclass p captured round_of c))) s

  pub stepped : (all new r : List Above) (n m c : ℕ) (way further : List (ClassId × ℕ)) (o : Option ℕ) → new ≡ all ++ above c way ∷ [] → 0 < n → m ≡ n - 1 →
      o ≡ superclass p captured round_of c → further ≡ way ++ way_above p captured round_of c o →
      all ++ upwards p captured round_of n (Some c) way ≡ r → new ++ upwards p captured round_of m o further ≡ r
  stepped all new r n m c way further o e l s d f h =
      (λ i. e i ++ upwards p captured round_of (s i) o (f i))
      ∙ append_assoc all (above c way ∷ []) _
      ∙ ap (λ (k : Option ℕ). all ++ above c way ∷ upwards p captured round_of (n - 1) k (way ++ way_above p captured round_of c k)) d
      ∙ ap (λ xs. all ++ xs) (sym (one-step n c way l))
      ∙ h

  -- the first of some types, by its class
  first_is : (t : SourceType) (ts : List SourceType) → first_class p captured round_of (t ∷ ts) ≡ guest_if p captured round_of (class_in t)
  first_is (plain b n) ts = refl
  first_is (of_class c args n) ts = refl
  first_is (of_variable c at n) ts = refl

  pub first_at : (ts : List SrcTy) (x : SrcTy) → 1 ≤ length ts → x ≡ get_or ts 0 x →
      guest_if p captured round_of (class_in (shown x)) ≡ first_class p captured round_of (map shown ts)
  first_at [] x l e = absurd (omega arith)
  first_at (t ∷ ts) x l e =
      ap (λ (y : SrcTy). guest_if p captured round_of (class_in (shown y))) e ∙ sym (first_is (shown t) (map shown ts))

  pub none_at : (ts : List SrcTy) → length ts < 1 → None ≡ first_class p captured round_of (map shown ts)
  none_at [] l = refl
  none_at (t ∷ ts) l = absurd (omega arith)
