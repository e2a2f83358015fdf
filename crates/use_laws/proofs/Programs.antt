-- A program without breaks uses what is plain.
use Rattle.std.proofs.Common.{◌≡◌, ℕ, zero, suc, ◌+◌, ◌<◌, List, [], ◌∷◌, Some, refl, subst, arith}
use Rattle.std.specs.Prelude.{Bool, true, false, not, ◌&&◌, Option, slice_get, if◌then◌else◌}
use Rattle.std.specs.List.{Contains}
use Rattle.std.proofs.lemmas.Option.{none-some, same_Some}
use Rattle.je_core.specs.declared.types.ClassId.{ClassId}
use Rattle.je_core.specs.Core.{CoreStmt, CoreInitializer, CoreMethod, CoreClass, CoreProgram}
use Rattle.je_classes.specs.Hierarchy.{class_at, is_below}
use Rattle.je_classes.specs.Members.{Member}
use Rattle.je_fitting.specs.Classes.{is_interface}
use Rattle.je_fitting.specs.Expressions.{is_interface_sort}
use Rattle.je_fitting.specs.Members.{is_guest}
use Rattle.je_fitting.specs.Types.{string}
use Rattle.je_fitting.specs.way.Quantifying.{implies}
use Rattle.je_fitting.proofs.Quantified.{implied, each-tested}
use Rattle.plain_programs.specs.Plain.{Implements}
use Rattle.plain_programs.specs.Wild.{is_wild, is_wild_text}
use Rattle.taming_db.specs.Rows.{Row}
use Rattle.rule_breaks.specs.declared.rules.ConfinementRule.TheVariants as kind
use Rattle.rule_breaks.specs.Breaks.{Breaks, none, of_each}
use Rattle.overlay_types.specs.Guests.{of_guest, guests_from}
use Rattle.class_uses.specs.Implemented.{may_use_if, implements_one, implements_all}
use Rattle.use_rules.specs.Programs.{initializer_breaks, body_breaks, method_breaks, members_breaks, class_breaks, program_breaks}
use Rattle.use_laws.specs.Laws.{IsUnbroken, EnablesNoneWild, IsPlainBody, UsesArePlain, UnbrokenUsesArePlain, EmptyListIsUnbroken}
use Rattle.use_laws.proofs.Plain.{left, right, not-tested, plain}

pub of-one : {A : Type 0} (f : A → Breaks) (xs : List A) → IsUnbroken (of_each f xs) → (i : ℕ) (x : A) → slice_get xs i ≡ Some x → IsUnbroken (f x)
of-one f [] u i x e = absurd (none-some x e)
of-one {A = A} f (y ∷ ys) u zero x e = subst (λ (z : A). IsUnbroken (f z)) (same_Some y x e) (left (f y) (of_each f ys) u)
of-one f (y ∷ ys) u (suc i) x e = of-one f ys (right (f y) (of_each f ys) u) i x e

guest : (f : ClassId → CoreClass → Breaks) (id : ClassId) (c : CoreClass) → is_guest id ≡ true → IsUnbroken (of_guest f id c) → IsUnbroken (f id c)
guest f id c g u = subst (λ (b : Bool). IsUnbroken (if b then f id c else none)) g u

pub of-class : (f : ClassId → CoreClass → Breaks) (n : ℕ) (cs : List CoreClass) → IsUnbroken (guests_from f n cs) → (i : ℕ) (c : CoreClass) → slice_get cs i ≡ Some c →
    (id : ClassId) → id.0 ≡ n + i → is_guest id ≡ true → IsUnbroken (f id c)
of-class f n [] u i c e id q g = absurd (none-some c e)
of-class f n (y ∷ ys) u zero c e id q g =
    let r : n ≡ id.0 = omega arith in
    let v : IsUnbroken (of_guest f (record { 0 = n }) y) = left (of_guest f (record { 0 = n }) y) (guests_from f (suc n) ys) u in
    let w : IsUnbroken (of_guest f id y) = subst (λ (k : ℕ). IsUnbroken (of_guest f (record { 0 = k }) y)) r v in
    guest f id c g (subst (λ (z : CoreClass). IsUnbroken (of_guest f id z)) (same_Some y c e) w)
of-class f n (y ∷ ys) u (suc i) c e id q g = of-class f (suc n) ys (right (of_guest f (record { 0 = n }) y) (guests_from f (suc n) ys) u) i c e id (omega arith) g

both-not : (a b : Bool) → a ≡ false → (not a && not b) ≡ false → b ≡ true
both-not false true e h = refl
both-not false false e h = absurd cc
both-not true b e h = absurd cc

module _ (p : CoreProgram) (rows : List Row) (tame : EnablesNoneWild rows) (strings : is_wild_text p string ≡ false) (u : IsUnbroken (program_breaks p rows)) where
  whole : IsUnbroken (guests_from (class_breaks p rows) 0 p.classes)
  unfolding program_breaks
  whole = u

  class-unbroken : (class : ClassId) (c : CoreClass) → is_guest class ≡ true → class_at p class ≡ Some c → IsUnbroken (class_breaks p rows class c)
  class-unbroken class c g e = of-class (class_breaks p rows) 0 p.classes whole class.0 c e class (omega arith) g

  members-unbroken : (class : ClassId) (c : CoreClass) → is_guest class ≡ true → class_at p class ≡ Some c → IsUnbroken (members_breaks p rows c)
  members-unbroken class c g e = right _ _ (class-unbroken class c g e)

  method-plain : (class : ClassId) (c : CoreClass) (at : ℕ) (m : CoreMethod) (s : CoreStmt) → is_guest class ≡ true → class_at p class ≡ Some c → slice_get c.methods at ≡ Some m → m.body ≡ Some s → IsPlainBody p s
  method-plain class c at m s g e h b =
      let one : IsUnbroken (method_breaks p rows m) = of-one (method_breaks p rows) c.methods (right _ _ (right _ _ (members-unbroken class c g e))) at m h in
      plain p rows tame strings s (subst (λ (o : Option CoreStmt). IsUnbroken (body_breaks p rows o)) b one)

  initializer-plain : (class : ClassId) (c : CoreClass) (at : ℕ) (i : CoreInitializer) → is_guest class ≡ true → class_at p class ≡ Some c → slice_get c.initializers at ≡ Some i → IsPlainBody p i.body
  initializer-plain class c at i g e h =
      let one : IsUnbroken (initializer_breaks p rows i) = of-one (initializer_breaks p rows) c.initializers (left _ _ (right _ _ (members-unbroken class c g e))) at i h in
      plain p rows tame strings i.body one

  implemented-by : (class : ClassId) (m : Member) → Implements p class m → is_wild m ≡ false
  implemented-by class m i =
      let alone = left _ _ (right _ _ (left _ _ (class-unbroken class i.the_class i.of_program i.there))) in
      let none-disabled : (not (is_interface_sort i.the_class.kind.sort) && not (implements_all p rows class)) ≡ false =
      not-tested (not (is_interface_sort i.the_class.kind.sort) && not (implements_all p rows class)) kind.NotEnabled i.the_class.span alone in
      let all : implements_all p rows class ≡ true = both-not (is_interface_sort i.the_class.kind.sort) (implements_all p rows class) i.no_interface none-disabled in
      let one = each-tested p (λ above at k. implies (is_below p class above) (implements_one p rows class above at)) all i.above i.at i.method i.method_there in
      let over = implied {a = is_below p class i.above} one i.is_above in
      let usable = implied {a = is_interface (class_at p i.above)} over i.interface in
      tame m (subst (λ (o : Option Member). may_use_if rows o ≡ true) i.by usable)

  pub uses_plain : UsesArePlain p
  uses_plain = record { methods = method-plain; initializers = initializer-plain; implements = implemented-by }

pub unbroken_uses : UnbrokenUsesArePlain
unbroken_uses p rows tame strings u = uses_plain p rows tame strings u

pub empty_is_unbroken : EmptyListIsUnbroken
empty_is_unbroken breaks l = record { none_among = λ b h. let q : Contains [] b = (l.members b).1 h in let n : q.0 < 0 = q.1 in omega arith }
