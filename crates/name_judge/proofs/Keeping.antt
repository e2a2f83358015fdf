-- The signatures that were met, and one more.
use Rattle.std.proofs.Common.{◌≡◌, ℕ, Bool, true, false, List, [], ◌∷◌, ◌++◌, map, refl, sym, ap, subst, ◌∙◌}
use Rattle.std.specs.Prelude.{◌||◌, if◌then◌else◌}
use Rattle.std.specs.List.{list_any}
use Rattle.std.specs.Str.{bytes_eq}
use Rattle.std.specs.declared.vec.Vec.{Vec}
use Rattle.std.specs.declared.alloc.Global.{Global}
use Rattle.std.proofs.lemmas.List.Folds.{list_any-append}
use Rattle.std.proofs.lemmas.Slice.Eq.{bytes_eq-Decides}
use Rattle.je_ast.specs.Types.{formal_view}
use Rattle.je_classes.proofs.Lists.{bool_cases}
use Rattle.je_scopes.specs.Source.{Source}
use Rattle.je_scopes.specs.Scope.{Known}
use Rattle.je_scopes.specs.Settled.{settled}
use Rattle.je_scopes.specs.SourceTypes.{source_types}
use Rattle.je_scopes.specs.Members.{MethodSite, formal_type}
use Rattle.je_scopes.specs.Faults.{same_signature}
use Rattle.name_lookup.specs.View.{part_view}
use Rattle.name_judge.specs.declared.met.MethodHead.{MethodHead}
use Rattle.name_judge.specs.declared.met.Signatures.{Signatures}
use Rattle.name_judge.specs.Kept.{AreMet, IsHead, holds, spells}
use Rattle.name_judge.specs.Spelled.{signature, signature_of}
use Rattle.name_judge.proofs.Lists.{same_lists_hold}

or-none : (b : Bool) → (b || false) ≡ b
or-none true = refl
or-none false = refl

true-or : (a b : Bool) → a ≡ true → a ≡ (a || b)
true-or true b e = refl
true-or false b e = absurd (cc)

-- the list for the signature of a method
pub list_is : (p : Source) (known : Known) (head : MethodHead) (m : MethodSite) → settled p ≡ known → IsHead head m
    → signature head.is_constructor head.name (source_types (map (formal_type p known head.place.class.0 (part_view head.place.part)) (map formal_view head.formals.now))) ≡ signature_of p head.place.class.0 m
unfolding signature_of
list_is p known head m e h = sym (λ i. signature (h.sort i) (h.name i) (source_types (map (formal_type p (e i) head.place.class.0 (h.part i)) (h.formals i))))

module _ (p : Source) (c : ℕ) (list : List ℕ) (m : MethodSite) (earlier : List MethodSite) (is : list ≡ signature_of p c m) where
  pub repeats_are : (met : Signatures) → AreMet p c earlier met → holds met list ≡ list_any (same_signature p c m) earlier
  unfolding AreMet
  repeats_are met are = are list ∙ (λ i. list_any (λ e. bytes_eq (is i) (signature_of p c e)) earlier) ∙ (λ i. list_any (λ e. same_lists_hold p c m e i) earlier)

  pub met_more : (old new : Signatures) → ((l : List ℕ) → holds new l ≡ (holds old l || bytes_eq l list)) → AreMet p c earlier old → AreMet p c (earlier ++ m ∷ []) new
  unfolding AreMet
  met_more old new more are l = more l ∙ (λ i. are l i || bytes_eq l (is i)) ∙ ap (λ (b : Bool). list_any (λ e. bytes_eq l (signature_of p c e)) earlier || b) (sym (or-none (bytes_eq l (signature_of p c m))))
      ∙ sym (list_any-append (λ e. bytes_eq l (signature_of p c e)) earlier (m ∷ []))

-- ---- one list more

module _ (keys : List (Vec ℕ Global)) (k : Vec ℕ Global) where
  absorbed : (l : List ℕ) → list_any (spells k.items) keys ≡ true → list_any (spells l) keys ≡ (list_any (spells l) keys || bytes_eq l k.items)
  absorbed l there = bool_cases (λ (b : Bool). bytes_eq l k.items ≡ b → list_any (spells l) keys ≡ (list_any (spells l) keys || b)) (bytes_eq l k.items)
      (λ e q. true-or (list_any (spells l) keys) true (subst (λ (x : List ℕ). list_any (spells x) keys ≡ true) (sym ((bytes_eq-Decides l k.items).0 e)) there))
      (λ e q. sym (or-none (list_any (spells l) keys))) refl

  pub kept_more : (l : List ℕ) → list_any (spells l) (if (list_any (spells k.items) keys) then keys else keys ++ k ∷ []) ≡ (list_any (spells l) keys || bytes_eq l k.items)
  kept_more l = bool_cases (λ (b : Bool). list_any (spells l) (if b then keys else keys ++ k ∷ []) ≡ (list_any (spells l) keys || bytes_eq l k.items)) (list_any (spells k.items) keys)
      (λ e. absorbed l e)
      (λ e. list_any-append (spells l) keys (k ∷ []) ∙ ap (λ (b : Bool). list_any (spells l) keys || b) (or-none (bytes_eq l k.items)))
