-- Methods above a class, in whatever order they are found.
use Rattle.std.proofs.Common.{◌≡◌, List, [], ◌∷◌, refl, sym, ap, ◌∙◌, subst}
use Rattle.std.specs.Prelude.{Bool, true, false, not, ◌&&◌, ◌||◌, filter}
use Rattle.std.specs.List.{list_all, list_any}
use Rattle.je_typing.specs.declared.fault.TypeRule.TheVariants.{BadOverride, SameErasure}
use Rattle.je_typing.specs.Judged.{Judged, check, gives}
use Rattle.je_typing.specs.declared.fault.Refusal.{Refusal}
use Rattle.je_typing.specs.Answers.{IsFault}
use Rattle.je_typing.proofs.Walks.{bind_faults, bind_gives}
use Rattle.source_types.specs.Heads.{ClassHead}
use Rattle.declarations.specs.Declarations.{DeclaredClass}
use Rattle.overriding.specs.Methods.{Method, have_one_name, is_subsignature, methods_above, overrides, own_method}
use Rattle.overriding.specs.Overrides.{clash_above, clashes_above, good_override, have_one_erasure, is_like_one, overridden, overridden_of, overrides_well, shares_erasure, some_clash_above, takes_erasure, takes_unrelated}
use Rattle.class_methods.specs.Above.{HasSame}
use Rattle.override_steps.specs.GoodMethods.{good_method, no_clash_among}
use Rattle.class_methods.proofs.Lists.{any-filter, same_all}

pub ruleset filtered = (any-filter)

-- ---- tests that say the same, or less

any-alike : {A : Type 0} (f g : A → Bool) (xs : List A) → ((x : A) → f x ≡ g x) → list_any f xs ≡ list_any g xs
any-alike f g [] h = refl
any-alike f g (x ∷ xs) h = (λ i. h x i || any-alike f g xs h i)

neither : (a b : Bool) → (a || b) ≡ false → (a ≡ false) × (b ≡ false)
neither false b e = (refl, e)
neither true b e = absurd cc

none-of-fewer : {A : Type 0} (f g : A → Bool) (xs : List A) → ((x : A) → f x ≡ false → g x ≡ false) → list_any f xs ≡ false → list_any g xs ≡ false
none-of-fewer f g [] h e = refl
none-of-fewer f g (x ∷ xs) h e =
    let n = neither (f x) (list_any f xs) e in
    ap (λ (b : Bool). b || list_any g xs) (h x n.0) ∙ none-of-fewer f g xs h n.1

-- ---- lists with the same members

module _ (heads : List ClassHead) (xs ys : List Method) (same : HasSame xs ys) where
  same_filtered : (test p : Method → Bool) → list_any test (filter p xs) ≡ list_any test (filter p ys)
  same_filtered test p = any-filter test p xs ∙ same.each (λ x. p x && test x) ∙ sym (any-filter test p ys)

  same_taken : (own m n : Method) → takes_erasure heads (overridden_of heads own xs) m n ≡ takes_erasure heads (overridden_of heads own ys) m n
  same_taken own m n =
      ap (λ (b : Bool). have_one_name m n && not (is_subsignature heads m n) && (have_one_erasure heads m.declared n.declared || b))
      (same_filtered (λ (j : Method). have_one_erasure heads j.declared n.declared) (is_subsignature heads own))

  pub same_above : (m : Method) → clashes_above heads m xs ≡ clashes_above heads m ys
  same_above m =
      any-alike (takes_erasure heads (overridden_of heads m xs) m) (takes_erasure heads (overridden_of heads m ys) m) xs (same_taken m m)
      ∙ same.each (takes_erasure heads (overridden_of heads m ys) m)

pub same_overrides : (heads : List ClassHead) (classes : List DeclaredClass) (m : Method) (xs : List Method) → HasSame xs (methods_above heads classes m.holder) →
    check BadOverride m.declared.name.span (list_all (overrides_well heads m) xs) ≡ good_override heads classes m
unfolding good_override
same_overrides heads classes m xs same = ap (check BadOverride m.declared.name.span) (same_all (overrides_well heads m) _ xs (methods_above heads classes m.holder) same refl)

-- ---- a method that a class declares

module _ (heads : List ClassHead) (classes : List DeclaredClass) (earlier : List Method) (m : Method) (xs : List Method) (same : HasSame xs (methods_above heads classes m.holder)) where
  pub goes_on : (done : Unit {0}) → check BadOverride m.declared.name.span (list_all (overrides_well heads m) xs) ≡ gives done → good_method heads classes earlier m ≡ no_clash_among heads earlier xs m
  goes_on done e =
      bind_gives (good_override heads classes m) (λ (d : Unit {0}). no_clash_among heads earlier (methods_above heads classes m.holder) m) done (sym (same_overrides heads classes m xs same) ∙ e)
      ∙ ap (λ (b : Bool). check SameErasure m.declared.name.span (not (is_like_one heads earlier m || b))) (sym (same_above heads xs (methods_above heads classes m.holder) same m))

  pub fails : (r : Refusal) → IsFault (check BadOverride m.declared.name.span (list_all (overrides_well heads m) xs)) r → IsFault (good_method heads classes earlier m) r
  fails r f =
      bind_faults (good_override heads classes m) (λ (d : Unit {0}). no_clash_among heads earlier (methods_above heads classes m.holder) m) r
      (subst (λ (j : Judged (Unit {0})). IsFault j r) (same_overrides heads classes m xs same) f)

-- ---- what a class inherits

fewer : (a b c d : Bool) → (a && b) ≡ false → (((a && b) && c) && d) ≡ false
fewer false b c d e = refl
fewer true false c d e = refl
fewer true true c d e = absurd cc

pub no_overload : (heads : List ClassHead) (classes : List DeclaredClass) (m : Method) (xs : List Method) → list_any (λ n. have_one_name m n && not (is_subsignature heads m n)) xs ≡ false →
    list_any (clash_above heads classes m) xs ≡ false
no_overload heads classes m xs e =
    none-of-fewer (λ n. have_one_name m n && not (is_subsignature heads m n)) (clash_above heads classes m) xs
    (λ n f. fewer (have_one_name m n) (not (is_subsignature heads m n)) (shares_erasure heads (overridden heads classes m) m n) (not (overrides heads classes m n || overrides heads classes n m)) f) e

pub same_overridden : (heads : List ClassHead) (classes : List DeclaredClass) (m own : Method) (xs above : List Method) (b : Bool) → own ≡ own_method m.holder m.place m.declared → HasSame xs (methods_above heads classes m.holder) →
    b ≡ list_any (takes_unrelated heads classes (overridden_of heads own xs) m) above → b ≡ list_any (clash_above heads classes m) above
same_overridden heads classes m own xs above b is same e =
    e ∙ any-alike (takes_unrelated heads classes (overridden_of heads own xs) m) (clash_above heads classes m) above
    (λ n. ap (λ (o : Method). takes_unrelated heads classes (overridden_of heads o xs) m n) is
    ∙ ap (λ (d : Bool). d && not (overrides heads classes m n || overrides heads classes n m)) (same_taken heads xs (methods_above heads classes m.holder) same (own_method m.holder m.place m.declared) m n))

pub same_clashes : (heads : List ClassHead) (classes : List DeclaredClass) (ms xs ys : List Method) (b : Bool) → HasSame xs ys → b ≡ some_clash_above heads classes xs ms → b ≡ some_clash_above heads classes ys ms
same_clashes heads classes ms xs ys b same e =
    e ∙ any-alike (λ m. list_any (clash_above heads classes m) xs) (λ m. list_any (clash_above heads classes m) ys) ms (λ m. same.each (clash_above heads classes m))
