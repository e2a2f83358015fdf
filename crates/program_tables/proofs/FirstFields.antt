-- The first field of a name in a class, as its fields come one after another.
use Rattle.std.proofs.Common.{◌≡◌, ℕ, ◌+◌, ◌<◌, ◌≤◌, List, [], ◌∷◌, ◌++◌, length, get_or, map, take, Option, Some, None, refl, sym, ap, ◌∙◌, arith, add-zero, zero-add}
use Rattle.std.specs.Prelude.{Bool, true, false, not, ◌&&◌, ◌||◌, cond, is_some, nat_eq, nat_lt, option_map}
use Rattle.std.specs.List.{list_any, position, position_from}
use Rattle.std.proofs.Math.Bool.{and-true, or-false, and-or_distrib_right}
use Rattle.std.proofs.Math.ListN.{get_or-map}
use Rattle.std.proofs.lemmas.Bool.{and_right, eqb-true, lt-ltb}
use Rattle.std.proofs.lemmas.Bool.Decides.{nat_tests}
use Rattle.std.proofs.lemmas.List.{length-map, length-take-le, take_all, take_more}
use Rattle.std.proofs.lemmas.List.Folds.{list_any-append}
use Rattle.std.proofs.lemmas.Iterator.Adapters.{position_from-zero}
use Rattle.std.proofs.lemmas.Option.{slice_get_past}
use Rattle.je_base.specs.declared.span.NameId.{NameId}
use Rattle.je_classes.proofs.Lists.{bool_cases}
use Rattle.je_scopes.proofs.Either.{by_either, within_or_past}
use Rattle.je_scopes.specs.Source.{Source}
use Rattle.declarations.specs.Declarations.{DeclaredClass, DeclaredField}
use Rattle.declarations.specs.declared.class.FieldDecl.{FieldDecl}
use Rattle.declarations.specs.View.{field_shown}
use Rattle.name_typing.specs.Fields.{fields_in, fields_of, member}
use Rattle.name_typing.specs.Program.{Program}
use Rattle.class_typing.specs.Elaboration.{has_name, is_constant, is_constant_at}

-- one more field behind others
pub next_field : (fields : List FieldDecl) (at : ℕ) (f : FieldDecl) → at < length fields → f ≡ get_or fields at f →
    take (at + 1) (map field_shown fields) ≡ take at (map field_shown fields) ++ field_shown f ∷ []
next_field fields at f l e =
    take_more (map field_shown fields) at (field_shown f) (omega (arith, l, length-map fields field_shown))
    ∙ ap (λ (d : DeclaredField). take at (map field_shown fields) ++ d ∷ []) (get_or-map field_shown fields at f ∙ ap field_shown (sym e))

pub count_taken : (fields : List FieldDecl) (at : ℕ) → at ≤ length fields → length (take at (map field_shown fields)) ≡ at
count_taken fields at l = length-take-le at (map field_shown fields) (omega (arith, l, length-map fields field_shown))

pub is_there : {A B : Type 0} (f : A → B) (o : Option A) → is_some o ≡ is_some (option_map f o)
is_there f None = refl
is_there f (Some a) = refl

-- a name that is met
pub met_next : (source : Source) (x : NameId) (before : Bool) (fs more : List DeclaredField) (f : DeclaredField) → more ≡ fs ++ f ∷ [] → before ≡ list_any (has_name source x) fs →
    (before || has_name source x f) ≡ list_any (has_name source x) more
met_next source x before fs more f e h =
    (λ i. h i || sym (or-false (has_name source x f)) i) ∙ sym (list_any-append (has_name source x) fs (f ∷ [])) ∙ ap (list_any (has_name source x)) (sym e)

module _ (source : Source) (p : Program) (class : ℕ) (x : NameId) where
  abbrev named : DeclaredField → Bool
  named = has_name source x

  abbrev kept : ℕ → Bool
  kept at = is_some (p.constants (member class at))

  abbrev told : Option ℕ → Bool
  told = is_constant_at source p class

  -- the last one is the first of the name
  abbrev last : List DeclaredField → DeclaredField → ℕ → Bool
  last fs f at = not (list_any named fs) && (named f && kept at)

  from-next : (fs : List DeclaredField) (f : DeclaredField) (at : ℕ) →
      told (position_from named at (fs ++ f ∷ [])) ≡ (told (position_from named at fs) || last fs f (at + length fs))
  from-next [] f at = bool_cases (λ b. told (cond b (Some at) None) ≡ (b && kept (at + 0))) (named f) (λ e. ap kept (sym (add-zero at))) (λ e. refl)
  from-next (g ∷ fs) f at =
      let same : at + 1 + length fs ≡ at + length (g ∷ fs) = omega arith in
      bool_cases
      (λ b. told (cond b (Some at) (position_from named (at + 1) (fs ++ f ∷ [])))
      ≡ (told (cond b (Some at) (position_from named (at + 1) fs)) || (not (b || list_any named fs) && (named f && kept (at + length (g ∷ fs))))))
      (named g)
      (λ e. sym (or-false (kept at)))
      (λ e. from-next fs f (at + 1) ∙ ap (λ (n : ℕ). told (position_from named (at + 1) fs) || last fs f n) same)

  told-next : (fs : List DeclaredField) (f : DeclaredField) → told (position named (fs ++ f ∷ [])) ≡ (told (position named fs) || last fs f (length fs))
  told-next fs f =
      ap told (position_from-zero named (fs ++ f ∷ []))
      ∙ from-next fs f 0
      ∙ ap (λ (n : ℕ). told (position_from named 0 fs) || last fs f n) (zero-add (length fs))
      ∙ ap (λ (o : Option ℕ). told o || last fs f (length fs)) (sym (position_from-zero named fs))

  same-name : (y : NameId) → nat_eq y.0 x.0 ≡ true → y ≡ x
  same-name y e = λ i. record { 0 = eqb-true y.0 x.0 e i }

  listed : (start n t first k e m : Bool) → (e ≡ true → first ≡ m) →
      ((start || (n && t)) || ((first && k) && (n && e))) ≡ (start || (n && (t || (m && (e && k)))))
  listed true n t first k e m h = refl
  listed false false t first k e m h = and_right (first && k) false refl
  listed false true true first k e m h = refl
  listed false true false first k false m h = and_right (first && k) false refl ∙ sym (and_right m false refl)
  listed false true false first k true m h = and-true (first && k) ∙ ap (λ b. b && k) (h refl)

  -- what is listed behind one more field
  pub name_next : (fs more : List DeclaredField) (f : DeclaredField) (c at : ℕ) (start old new lists : Bool) → more ≡ fs ++ f ∷ [] → length fs ≡ at →
      lists ≡ (not (list_any (has_name source f.name.name) fs) && kept at) →
      old ≡ (start || (nat_eq class c && told (position named fs))) →
      new ≡ (old || (lists && (nat_eq class c && nat_eq f.name.name.0 x.0))) →
      new ≡ (start || (nat_eq class c && told (position named more)))
  name_next fs more f c at start old new lists e n is_listed before now =
      now
      ∙ (λ i. before i || (is_listed i && (nat_eq class c && nat_eq f.name.name.0 x.0)))
      ∙ listed start (nat_eq class c) (told (position named fs)) (not (list_any (has_name source f.name.name) fs)) (kept at) (named f) (not (list_any named fs))
      (λ h. ap (λ (y : NameId). not (list_any (has_name source y) fs)) (same-name f.name.name h))
      ∙ ap (λ b. start || (nat_eq class c && b))
      (ap (λ (k : ℕ). told (position named fs) || last fs f k) (sym n) ∙ sym (told-next fs f) ∙ ap (λ (ds : List DeclaredField). told (position named ds)) (sym e))

  -- behind the last field
  pub names_end : (fields : List FieldDecl) (at c : ℕ) → length fields ≤ at → map field_shown fields ≡ fields_of p.classes class →
      (nat_eq class c && told (position named (take at (map field_shown fields)))) ≡ (nat_eq class c && is_constant source p c x)
  names_end fields at c l e = bool_cases
      (λ b. (b && told (position named (take at (map field_shown fields)))) ≡ (b && is_constant source p c x))
      (nat_eq class c)
      (λ s. ap (λ (ds : List DeclaredField). told (position named ds)) (take_all at (map field_shown fields) (omega (arith, l, length-map fields field_shown)) ∙ e)
      ∙ ap (λ (k : ℕ). is_constant source p k x) (eqb-true class c s))
      (λ s. refl)

-- ---- class by class

pub class_next : (c n : ℕ) (test : Bool) → ((nat_lt c n && test) || (nat_eq n c && test)) ≡ (nat_lt c (n + 1) && test)
class_next c n test = sym (and-or_distrib_right (nat_lt c n) (nat_eq n c) test) ∙ ap (λ b. b && test) (grind (arith, nat_tests))

module _ (source : Source) (p : Program) (c : ℕ) (x : NameId) where
  none-past : length p.classes ≤ c → is_constant source p c x ≡ false
  none-past l = ap (λ (o : Option DeclaredClass). is_constant_at source p c (position (has_name source x) (fields_in o))) (slice_get_past p.classes c l)

  -- behind the last class
  pub classes_end : (n : ℕ) → length p.classes ≤ n → (nat_lt c n && is_constant source p c x) ≡ is_constant source p c x
  classes_end n l = by_either
      (λ m. ap (λ b. b && is_constant source p c x) (lt-ltb c n m))
      (λ m. let none = none-past (omega (arith, l, m)) in and_right (nat_lt c n) (is_constant source p c x) none ∙ sym none)
      (within_or_past c n)
