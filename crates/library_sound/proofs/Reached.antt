-- The constructors of the library are tame, and those that are handed their object have instances; so what a program makes is safe.
use Rattle.std.proofs.Common.{◌≡◌, ℕ, List, Option, Some, None, refl, sym, ap, subst, ◌∙◌}
use Rattle.std.specs.Prelude.{Bool, true, false, not, ◌&&◌, ◌||◌}
use Rattle.std.specs.List.{list_all}
use Rattle.std.proofs.lemmas.Bool.{or_left, or_right}
use Rattle.std.proofs.lemmas.Option.{same_Some}
use Rattle.je_base.specs.declared.span.NameId.{NameId}
use Rattle.je_core.specs.declared.types.ClassId.{ClassId}
use Rattle.je_core.specs.Core.{CoreClass, CoreMethod}
use Rattle.je_table.specs.Library.{Class, classes}
use Rattle.je_table.specs.Library as table
use Rattle.je_table.specs.Rows.{Row}
use Rattle.je_classes.specs.Hierarchy.{class_at, library_class, object_class, same_class}
use Rattle.je_classes.specs.Laws.{SubtypesAreDecided}
use Rattle.je_classes.proofs.Below.{below-from, below-to}
use Rattle.je_classes.proofs.Lists.{bool_cases}
use Rattle.je_fitting.specs.Classes.{SuperclassFits, can_be_extended, one_above}
use Rattle.je_fitting.specs.Expressions.{is_constructor, is_interface_sort}
use Rattle.je_fitting.specs.Members.{is_guest}
use Rattle.je_java.specs.LibraryMembers.{has_own_makers, member_row}
use Rattle.je_java.specs.Subclasses.{superclass_in, superclass_of}
use Rattle.je_java.specs.library.Throwables.{throwable_class as thrown_class}
use Rattle.je_sound.specs.Objects.{has_instances, throwable_class, token_class}
use Rattle.je_sound.proofs.Dispatched.{class-fits}
use Rattle.library_classes.specs.Library.{all_due, class_due, rows, sort_due}
use Rattle.library_fits.proofs.Members.{HasRow, IsMethod, at-passes, library-row, method-row, named}
use Rattle.library_fits.proofs.Named.{method-named}
use Rattle.library_fits.proofs.Table.{apart, class-there}
use Rattle.library_fits.proofs.Tests.{all_from, each-row, implies, is_maker, methods_by}
use Rattle.plain_programs.specs.Wild.{is_wild}
use Rattle.eval_sound.specs.Premises.{IsOfLibrary, MemberIsSafe}
use Rattle.eval_sound.specs.Safety.{Setting}
use Rattle.eval_sound.proofs.Evaluation.{known}
use Rattle.eval_sound.proofs.Operators.{either-way}
use Rattle.eval_sound.proofs.Reached.{reached}
use Rattle.eval_sound.proofs.Types.{Known}
use Rattle.library_sound.specs.Laws.{IsTame, OthersAreTame, TameIsSafe}
use Rattle.library_sound.proofs.Cases.{Case, abstract, is_tame_in, maker, member, method, wild}
use Rattle.library_sound.proofs.Members.{case-of, makers_are_safe, members_are_safe}
use Rattle.library_sound.proofs.Throwables.{below-throwable, climbs}

-- ---- constructors are tame

tame-row : (k : ClassId) (at : ℕ) → is_tame_in (member_row k at) ≡ true → IsTame k at
tame-row k at h = by (member_row k at) refl h
  where
    by : (o : Option table.Member) → member_row k at ≡ o → is_tame_in o ≡ true → IsTame k at
    by None q e = absurd cc
    by (Some r) q e = record { row = r; there = q; tame = e }

tame-constructor : (S : Setting) (fit : Known S.program) (k : ClassId) (at : ℕ) (m : CoreMethod) → IsOfLibrary S.program k at m → is_constructor S.program m ≡ true → IsTame k at
tame-constructor S fit k at m of is = by (case-of S fit k at m of)
  where
    by : Case S fit.library.number k at m → IsTame k at
    by (member row handed safe) = tame-row k at row
    by (method row word w safe) = tame-row k at row
    by (maker row own name safe) = tame-row k at row
    by (wild row is-wild word w) = apart is (method-named S.program fit.library m word w.name w.there w.other)
    by (abstract e) = apart e of.concrete

-- so is what isn't wild
tame-member : (S : Setting) (fit : Known S.program) (k : ClassId) (at : ℕ) (m : CoreMethod) → IsOfLibrary S.program k at m → is_wild (record { class = k; at = at }) ≡ false → IsTame k at
tame-member S fit k at m of plain = by (case-of S fit k at m of)
  where
    by : Case S fit.library.number k at m → IsTame k at
    by (member row handed safe) = tame-row k at row
    by (method row word w safe) = tame-row k at row
    by (maker row own name safe) = tame-row k at row
    by (wild row is-wild word w) = apart is-wild plain
    by (abstract e) = apart e of.concrete

pub others_are_tame : SubtypesAreDecided → OthersAreTame
others_are_tame decided setting f class at m of plain = tame-member setting (known decided f) class at m of plain

-- ---- what constructors are handed

-- a class with constructors makes its objects by itself, or has instances
abbrev is_instance_class : (List ℕ → NameId) → ClassId → Class → Bool
is_instance_class number k c = list_all (λ (r : Row). implies (is_maker r) (has_own_makers k || (same_class k object_class || same_class k token_class || climbs number 5 k))) (methods_by c)

instance-classes : (number : List ℕ → NameId) → all_from (is_instance_class number) 0 classes ≡ true
unfolding library_class object_class token_class thrown_class all_due rows has_own_makers
instance-classes number = refl

-- and one that makes them by itself is final
abbrev is_closed_class : ClassId → Class → Bool
is_closed_class k c = implies (has_own_makers k) c.is_final

closed-classes : all_from is_closed_class 0 classes ≡ true
unfolding has_own_makers
closed-classes = refl

module _ (S : Setting) (fit : Known S.program) where
  -- a constructor by its row
  maker-row : (k : ClassId) (at : ℕ) (m : CoreMethod) (im : IsMethod fit.decided S.program fit.library k at m) → is_constructor S.program m ≡ true → is_maker im.row ≡ true
  maker-row k at m im is = by (is_maker im.row) refl
    where
      by : (b : Bool) → is_maker im.row ≡ b → b ≡ true
      by true q = refl
      by false q = apart is (method-named S.program fit.library m im.row.name (sym (ap (λ (x : CoreMethod). x.name) im.is)) (named im.class at im.row im.stands) q)

  made-instance : (k : ClassId) (at : ℕ) (m : CoreMethod) → IsOfLibrary S.program k at m → is_constructor S.program m ≡ true → has_own_makers k ≡ false → has_instances S.program k ≡ true
  unfolding throwable_class thrown_class
  made-instance k at m of is own = by (rw (maker-row k at m im is, own) at test)
    where
      im : IsMethod fit.decided S.program fit.library k at m
      im = method-row fit.decided S.program fit.library k (library-row k of.of_library) at m of.there

      test : implies (is_maker im.row) (has_own_makers k || (same_class k object_class || same_class k token_class || climbs fit.library.number 5 k)) ≡ true
      test = at-passes (λ (r : Row). implies (is_maker r) (has_own_makers k || (same_class k object_class || same_class k token_class || climbs fit.library.number 5 k))) (methods_by im.class)
          (each-row (is_instance_class fit.library.number) (instance-classes fit.library.number) k im.class im.there) at im.row im.stands

      by : (same_class k object_class || same_class k token_class || climbs fit.library.number 5 k) ≡ true → has_instances S.program k ≡ true
      by h = either-way (same_class k object_class || same_class k token_class) (climbs fit.library.number 5 k) h
          (λ q. either-way (same_class k object_class) (same_class k token_class) q (λ z. or_left _ _ (or_left _ _ (or_right (is_guest k) _ z))) (λ z. or_left _ _ (or_right (is_guest k || same_class k object_class) _ z)))
          (λ q. or_right (is_guest k || same_class k object_class || same_class k token_class) _ (below-from S.program (below-throwable S.program fit 5 k q)))

  -- ---- the superclass of a guest

  extended : (sub class : ClassId) → superclass_of S.program sub ≡ Some class → can_be_extended (class_at S.program class) ≡ true
  extended sub class e = by (class_at S.program sub) refl e
    where
      of-class : (c : CoreClass) (o : Option ClassId) → SuperclassFits S.program sub c o → o ≡ Some class → can_be_extended (class_at S.program class) ≡ true
      of-class c None f q = absurd cc
      of-class c (Some s) (one_above x y) q = subst (λ (d : ClassId). can_be_extended (class_at S.program d) ≡ true) (same_Some s class q) y

      by : (o : Option CoreClass) → class_at S.program sub ≡ o → superclass_in o ≡ Some class → can_be_extended (class_at S.program class) ≡ true
      by None q h = absurd cc
      by (Some c) q h = of-class c c.superclass (class-fits S.program fit.whole sub c q).superclass h

  handed-above : (sub class : ClassId) → superclass_of S.program sub ≡ Some class → is_guest class ≡ false → has_own_makers class ≡ false
  handed-above sub class e g = by (has_own_makers class) refl
    where
      r : HasRow class
      r = library-row class g

      by : (b : Bool) → has_own_makers class ≡ b → b ≡ false
      by false q = refl
      by true q =
          let final = rw q at (each-row is_closed_class closed-classes class r.row r.there) in
          let wide = sym (ap can_be_extended (class-there S.program fit.library class r.row r.there)) ∙ extended sub class e in
          let no : can_be_extended (Some (class_due fit.library.number class.0 r.row)) ≡ false = bool_cases (λ b. not (b || r.row.is_final) ≡ false) (is_interface_sort (sort_due r.row)) (λ _. refl) (λ _. rw final refl) in
          apart wide no

-- ---- the library is safe

pub tame_is_safe : SubtypesAreDecided → TameIsSafe
tame_is_safe decided S f comes = record {
  dispatched_to = λ own class at named o target method c there made called d of.
      let r = reached S.program f.whole own class o at named there made (below-to S.program own class called.is_above) called.there called.no_constructor target method of.there d in
      ordinary target.class target.at method of (comes.dispatched_to own class at named o target method c there made called d of) r.plain;
  devices = comes.devices;
  named = λ {receiver = receiver} {class = class} {at = at} method allowed of plain. ordinary class at method of (comes.named method allowed of plain) plain;
  made = λ {class = class} {at = at} constructor allowed of is own. handed class at constructor of is own;
  instances = λ {class = class} {at = at} constructor allowed of is own. made-instance S fit class at constructor of is own;
  makers = λ {class = class} {at = at} constructor allowed of is own. makers_are_safe decided S f class at constructor of (tame-constructor S fit class at constructor of is) own is;
  above = λ sub class at constructor guest super of is. handed class at constructor of is (handed-above S fit sub class super of.of_library);
}
  where
    fit : Known S.program
    fit = known decided f

    -- a method
    ordinary : (class : ClassId) (at : ℕ) (m : CoreMethod) → IsOfLibrary S.program class at m → IsTame class at → is_constructor S.program m ≡ false → MemberIsSafe S class at m
    ordinary class at m of tame plain = members_are_safe decided S f class at m of tame (bool_cases (λ b. (has_own_makers class && b) ≡ false) (is_constructor S.program m) (λ q. apart q plain) (λ q. neither (has_own_makers class)))
      where
        neither : (b : Bool) → (b && false) ≡ false
        neither true = refl
        neither false = refl

    -- a constructor that is handed its object
    handed : (class : ClassId) (at : ℕ) (m : CoreMethod) → IsOfLibrary S.program class at m → is_constructor S.program m ≡ true → has_own_makers class ≡ false → MemberIsSafe S class at m
    handed class at m of is own = members_are_safe decided S f class at m of (tame-constructor S fit class at m of is) (rw own refl)
